-- Spans of time, which are measured by reading the clock. The definitions in this file were made for this project; none
-- is taken from the literature.
use Rattle.std.specs.Prelude.{◌≡◌, ◌≢◌, ℕ, ◌-◌, Option, Some, None}
use Rattle.std.specs.declared.time.Duration.{Duration}
use Rattle.std.specs.Duration.{as_nanos}
use Rattle.std.specs.Time.{instant_nanos}
use Rattle.std.specs.declared.time.Instant.{Instant}

-- `nanos_left since at_most now` is the number of nanoseconds that are left at `now` of a span that began at `since`
-- and has the length `at_most`; it is 0 if either reading failed
abbrev pub nanos_left : Option Instant → Duration → Option Instant → ℕ
nanos_left (Some since) at_most (Some now) = as_nanos at_most - (instant_nanos now - instant_nanos since)
nanos_left (Some since) at_most None = 0
nanos_left None at_most now = 0

-- the answer about a span of which `nanos` nanoseconds are left: a time of that length, or `None` if `nanos` is 0
abbrev pub IsLeft : Option Duration → ℕ → Type 0
IsLeft (Some left) nanos = (as_nanos left ≡ nanos) × (nanos ≢ 0)
IsLeft None nanos = nanos ≡ 0
