use Rattle.std.proofs.Common.{rules, sym, refl, subst, ◌≡◌, replicate, false, List, ◌∷◌, [], ℕ}
use Rattle.atomic_table.specs.Table.{opening}
use Rattle.line_generic.specs.declared.table.Payload.{Payload}
use Rattle.line_generic.specs.NodeGhosts.{initial_nodes}
use Rattle.line_generic.proofs.line.Line.new_table.Goals as goal

pub new-requires : goal.new-requires
new-requires g c =
    let items : c.in_ok-slots.slots.items ≡ replicate (g.Q.Discipline.slot_count c.args.key.now.config.nodes) (record { bytes = c.args.key.now.config.opening; mask = record { bits = 0 }; turns_left = c.args.key.now.config.lease; closed = false; padding = 0 ∷ 0 ∷ 0 ∷ 0 ∷ 0 ∷ [] }) = search rules in
    let words : c.as_slice.result.now ≡ c.in_ok-words.words.items = search rules in
    subst (λ (z : List ℕ × List Payload). g.Q.DisciplineInvariant.holds c.args.key.now (opening z.0 z.1 (initial_nodes g.Q.DisciplineSpec.phases.initial c.args.key.now))) (λ i. (sym words i, sym items i))
    (g.met.Q.Discipline.starts c.args.key.now c.in_ok-words.words.items (record { bytes = c.args.key.now.config.opening; mask = record { bits = 0 }; turns_left = c.args.key.now.config.lease; closed = false; padding = 0 ∷ 0 ∷ 0 ∷ 0 ∷ 0 ∷ [] }) c.requires.config c.requires.line c.requires.good
    c.in_ok-words.ensures.wide.0 c.in_ok-words.ensures.first refl refl refl)
