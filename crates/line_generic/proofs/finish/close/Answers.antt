use Rattle.std.proofs.Common.{rules, sym, subst, ◌≡◌, ◌∙◌, ℕ}
use mathlib.Core.Option.{some, some-injective}
use lib.ListN.{get_elem?}
use Rattle.std.specs.Slots.{slots_items}
use Rattle.line_generic.specs.declared.table.Payload.{Payload}
use Rattle.qolb_model.specs.Finishing.{IsFinalLine}
use Rattle.line_generic.specs.NodeGhosts.{views_of}
use Rattle.line_generic.proofs.finish.close.Goals as goal

pub take_final-payload-requires-clause-slots : goal.take_final-payload-requires-clause-slots
take_final-payload-requires-clause-slots g c = let f = c.close_with.ensures.values.2 in let many = g.met.Q.Discipline.slots c.args.line.table.shared.key f.0 f.1.0 in let same = f.3 in search rules

pub returns : goal.returns
returns g c =
    let f = g.met.Q.Discipline.finishes c.args.line.table.shared.key c.args.seat.me.0 _ _ _ c.requires.at_rest c.close_with.ensures.values.2 in
    let told : get_elem? (slots_items c.close_with.result.slots) (g.Q.Discipline.last c.args.line.table.shared.key.config.nodes (slots_items c.close_with.result.words)) ≡ some c.take_final-payload.result =
    subst (λ (n : ℕ). get_elem? (slots_items c.close_with.result.slots) (g.Q.Discipline.last n (slots_items c.close_with.result.words)) ≡ some c.take_final-payload.result) c.args.line.steps c.take_final-payload.ensures in
    let payload : f.0 ≡ c.take_final-payload.result = sym (some-injective _ _ (sym told ∙ f.1)) in
    subst (λ (p : Payload). IsFinalLine g.K.Keep.good g.K.Keep.allows c.args.line.table.shared.key.config (views_of c.args.seat.me.0) p.bytes.bytes) payload f.2
