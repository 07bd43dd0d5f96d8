-- What a ticket owns in the proofs: the same as a `Badge` of the lock's table.
use Rattle.std.specs.Prelude.{ℕ, List}
use base.Fml.{Fml}
use base.Stored.{Coded}
use Rattle.atomic_table.specs.Seated.{TableId, badge_owns}
use Rattle.lock_core.specs.contracts.view.View.{the_row}

abbrev pub view_coded : Coded the_row.Denot
view_coded = the_row.coded

abbrev pub ticket_owns : TableId → ℕ → List the_row.Denot → Fml
ticket_owns table id views = badge_owns the_row.coded.code table id views
