use Rattle.std.proofs.Common.{rules, arith, sym, subst, false, None, ◌∙◌, ◌+◌}
use Rattle.line_generic.specs.Ports.{AreSplit}
use Rattle.line_generic.proofs.Splitting.{first_me, rest_me, first_port, one_more, same_me, same_table}
use Rattle.line_generic.proofs.open.split_ports.Goals as goal

pub split_seat-others-requires : goal.split_seat-others-requires
split_seat-others-requires g c = (search rules, search rules, g.met.Q.Discipline.cuts c.args.table.now.key _ _)

pub invariant_of-push : goal.invariant_of-push
invariant_of-push g c = let s = c.split_seat-others.ensures in
    first_port g.Q.DisciplineSpec.phases c.args.key.now c.loop-done.done c.loop-done.rest c.replace-seat.result c.replace-seat.new.dest (omega arith) c.loop-done.invariant.me g.Q.DisciplineSpec.starts_idle _ (same_me c.replace-seat.ensures.value ∙ s.2)

pub loop-done-preserved : goal.loop-done-preserved
loop-done-preserved g c = let s = c.split_seat-others.ensures in
    let i = c.loop-done.invariant in
    let first = first_me g.Q.DisciplineSpec.phases c.args.key.now c.loop-done.done c.loop-done.rest c.replace-seat.result c.replace-seat.new.dest (omega arith) i.me (same_me c.replace-seat.ensures.value ∙ s.2) in
    let rest = rest_me g.Q.DisciplineSpec.phases c.args.key.now c.loop-done.done c.loop-done.rest c.replace-seat.result c.replace-seat.new.dest (omega arith) i.me (same_me c.replace-seat.ensures.after ∙ s.4) in
    record {
      table = same_table c.replace-seat.ensures.after ∙ s.3 ∙ i.table;
      me = rest;
      new_ports = subst (AreSplit c.args.table.now.table_id c.args.key.now (c.loop-done.done + 1)) (sym c.in_ok-push.ensures.items)
          (one_more g.Q.DisciplineSpec.phases.initial c.args.table.now.table_id c.args.key.now c.loop-done.done c.loop-done.ports.items c.replace-seat.result (record { bytes = c.zero.result; mask = c.none.result; turns_left = None; closed = false }) _ 0 _ c.none-in-loop-done.ensures c.blank.ensures i.new_ports (same_table c.replace-seat.ensures.value ∙ s.0 ∙ i.table) first);
    }
