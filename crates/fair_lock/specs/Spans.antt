-- Spans of time, measured between readings of the clock.
use Rattle.std.specs.Prelude.{ℕ, ◌-◌, Option, Some, None}
use Rattle.std.specs.declared.time.Duration.{Duration}
use Rattle.std.specs.declared.time.Instant.{Instant}
use Rattle.std.specs.Duration.{as_nanos}
use Rattle.std.specs.Time.{instant_nanos}

-- the nanoseconds that are left of a span by two readings, at its beginning and now: none if either reading failed
unfoldable pub nanos_left : Option Instant → Duration → Option Instant → ℕ
nanos_left (Some since) at_most (Some now) = as_nanos at_most - (instant_nanos now - instant_nanos since)
nanos_left (Some since) at_most None = 0
nanos_left None at_most now = 0
