-- Defines when a span of time has passed, and when it has not.
use Rattle.std.specs.Prelude.{◌≡◌}
use Rattle.fair_lock.specs.declared.span.Span.{Span}
use Rattle.fair_lock.specs.declared.span.Over.{Over}
use Rattle.fair_lock.specs.declared.span.Rest.{Rest}

-- this span, since its own beginning, was over
abbrev pub IsOverOf : Span → Over → Type 0
IsOverOf span over = (over.at_most ≡ span.at_most) × (over.since ≡ span.since.at)

-- this is what was left of this span, since its own beginning
abbrev pub IsRestOf : Span → Rest → Type 0
IsRestOf span rest = (rest.at_most ≡ span.at_most) × (rest.since ≡ span.since.at)
