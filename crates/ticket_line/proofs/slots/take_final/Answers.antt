use Rattle.std.proofs.Common.{rules, arith, mod-lt, refl, sym, ◌<◌, ap, subst, ◌≡◌, ◌∙◌, slice_index}
use mathlib.Core.Option.{some}
use lib.ListN.{get_elem?}
use Rattle.std.specs.Slots.{slots_items, slots_filled, slots_len}
use Rattle.line_cells.specs.Layout.{ticket_at}
use Rattle.line_cells.specs.Counting.{cells_for}
use Rattle.line_cells.proofs.Counting.{some_cells}
use Rattle.ticket_line.specs.Layout.{cell_of}
use Rattle.ticket_line.specs.Slots.{slot_of, slot_count, last}
use Rattle.ticket_line.proofs.Emptying.{emptied_none, empties, word_read}
use Rattle.ticket_line.proofs.slots.take_final.Goals as goal
use Rattle.ticket_line.proofs.slots.take_final.Goals.{then-at-place, else-at-place}

pub word-requires : goal.word-requires
word-requires c = let some = some_cells c.args.nodes in (omega (arith, c.requires.words.0), c.requires.words.1)

pub loop-at-init : goal.loop-at-init
loop-at-init c = let old = c.args.closed.slots in let taken = c.take-line.ensures.others in let new = c.take-line.new.self.slots in
    empties (slot_count c.args.nodes) c.slot_for-place.result 0 (slots_items old) (slots_items old) (slots_filled old) (slots_len old) c.take-line.result
    (emptied_none (slot_count c.args.nodes) c.slot_for-place.result (slots_items old) (slots_filled old) (slots_len old) c.take-line.result c.requires.slots.0 c.requires.slots.1)
    (slots_items new) (slots_filled new) (slots_len new) c.take-line.result c.take-line.result c.take-line.ensures.value taken.0 taken.1 taken.2 (λ _. refl) (λ _. refl)

pub take-payload-requires : goal.take-payload-requires
take-payload-requires c = let k = c.loop-at.invariant in (omega (arith, k.many, c.slot_count-count.ensures, c.loop-at-test.true), search rules)

pub loop-at-preserved : goal.loop-at-preserved
loop-at-preserved c = let now = c.loop-at.closed.slots in let taken = c.take-payload.ensures.others in let new = c.take-payload.new.self.slots in
    empties (slot_count c.args.nodes) c.slot_for-place.result c.loop-at.at (slots_items c.args.closed.slots) (slots_items now) (slots_filled now) (slots_len now) c.loop-at.line c.loop-at.invariant
    (slots_items new) (slots_filled new) (slots_len new) c.take-payload.result c.if-at-place.line c.take-payload.ensures.value taken.0 taken.1 taken.2
    (λ e. search rules) (λ ne. search rules)

pub free-requires : goal.free-requires
free-requires c k few = c.loop-at.invariant.empty k (omega (arith, c.loop-at.invariant.many, c.slot_count-count.ensures, c.loop-at-test.false))

pub returns : goal.returns
returns c =
    let word : slice_index (slots_items c.args.closed.words) ticket_at ≡ c.word.result = word_read (slots_items c.args.closed.words) ticket_at c.word.result c.word.ensures in
    let place : c.slot_for-place.result ≡ last c.args.nodes (slots_items c.args.closed.words) = c.slot_for-place.ensures ∙ ap (slot_of c.args.nodes) (sym word) in
    let low : c.slot_for-place.result < slot_count c.args.nodes = (let is = c.slot_for-place.ensures in let few : cell_of c.args.nodes c.word.result < cells_for c.args.nodes = mod-lt c.word.result (some_cells c.args.nodes) in omega arith) in
    subst (λ q. get_elem? (slots_items c.args.closed.slots) q ≡ some c.loop-at.line) place (c.loop-at.invariant.found (omega (arith, low, c.slot_count-count.ensures, c.loop-at-test.false)))
