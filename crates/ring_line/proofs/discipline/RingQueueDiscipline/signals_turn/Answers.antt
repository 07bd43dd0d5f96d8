use Rattle.std.proofs.Common.{◌≡◌, ◌==◌, ◌%◌, ◌^◌, refl, arith, ap}
use Rattle.std.proofs.lemmas.Bool.{eqb-true, eqb-false, not-true, not-false}
use Rattle.line_generic.specs.Slots.{in_single_slot, open_in_single_slot}
use Rattle.line_cells.specs.SlotLayout.{one_slot}
use Rattle.line_cells.specs.declared.layout.TheConstants.{CELLS}
use Rattle.line_cells.specs.BetweenCalls.{wait_word}
use Rattle.line_cells.specs.Layout.{cell_at}
use Rattle.ring_line.specs.Layout.{cell_of}
use Rattle.line_cells.proofs.Slots.{one_take}
use Rattle.line_cells.proofs.Load.{looks_next}
use Rattle.ring_line.specs.Ring.{RingCells}
use Rattle.ring_line.specs.Steps.{is_blank_half, is_granted_half}
use Rattle.ring_line.specs.Layout.{signals_turn}
use Rattle.ring_line.proofs.Cells.{takes_by, stays_by}
use Rattle.ring_line.proofs.discipline.RingQueueDiscipline.signals_turn.Goals as goal

pub returns-clause-polls : goal.returns-clause-polls
returns-clause-polls g c key id slots v stands =
    let own_cell : cell_of c.args._token ≡ cell_of v.own.place = let is = stands.1 in omega arith in
    looks_next RingCells one_slot g.K.Keep.good g.K.Keep.allows key v stands.0 cell_of is_blank_half is_granted_half one_take (takes_by is_blank_half v.own.place v.view.node (λ n. n) (λ z. absurd (cc z))) (stays_by is_granted_half v.own.place (λ some. some refl)) (λ _. CELLS) refl (λ _. in_single_slot) (λ _. open_in_single_slot) (λ _. in_single_slot) signals_turn c.args._token stands.1
    (λ found not_yet. eqb-true (found % 2 ^ 32) 0 (not-false (found % 2 ^ 32 == 0) not_yet)) (λ found now. eqb-false (found % 2 ^ 32) 0 (not-true (found % 2 ^ 32 == 0) now)) (λ y k lies. lies)
    id slots (wait_word (λ _. CELLS) v.view.config.nodes v.view.node c.args._token) (ap cell_at own_cell)
