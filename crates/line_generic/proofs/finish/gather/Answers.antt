use Rattle.std.proofs.Common.{subst}
use Rattle.line_generic.specs.Finish.{HasJoinedSome}
use Rattle.line_generic.proofs.Finishing.{none_carried, head_quiet, head_table, gathers_start, gathers_more, gathered}
use Rattle.line_generic.proofs.finish.gather.Goals as goal

pub loop-port-init : goal.loop-port-init
loop-port-init g c =
    gathers_start g.Q.DisciplineSpec.phases c.first.inside.label c.first.inside.node c.first.inside.seat c.first.inside.payload c.first.inside.token c.first.inside.steps c.first.inside.poll_count.count c.first.inside.state c.in-Some.first c.first.view_is c.first.invariant c.args.table.now.table_id c.args.ports.items c.into_iter-seats.result.rest.items c.next.new.self.rest.items c.into_iter-port-iterator.result.rest.items
    c.into_iter-seats.ensures.rest c.in-Some.ensures.items (λ i. (c.into_iter-port-iterator.ensures.into_iter_gives i).rest.items) c.requires.table c.requires.quiet

pub join_seat-requires : goal.join_seat-requires
join_seat-requires g c =
    let i = c.loop-port.invariant in
    let quiet = head_quiet c.args.table.now.table_id c.args.ports.items c.loop-port.port-iterator.rest.items c.next-in-loop-port.new.self.rest.items c.loop-port.whole c.in-Some-port.port c.in-Some-port.ensures.steps.0 i in (
      i.table,
      head_table g.Q.DisciplineSpec.phases c.port.inside.label c.port.inside.node c.port.inside.seat c.port.inside.payload c.port.inside.token c.port.inside.steps c.port.inside.poll_count.count c.port.inside.state c.in-Some-port.port c.port.view_is c.port.invariant quiet c.args.table.now.table_id c.args.ports.items c.next-in-loop-port.new.self.rest.items c.loop-port.whole c.loop-port.port-iterator.rest.items c.in-Some-port.ensures.steps.0 i,
      none_carried g.Q.DisciplineSpec.phases c.port.inside.label c.port.inside.node c.port.inside.seat c.port.inside.payload c.port.inside.token c.port.inside.steps c.port.inside.poll_count.count c.port.inside.state c.in-Some-port.port c.port.view_is c.port.invariant quiet,
      c.requires.words,
      g.met.Q.Discipline.joins c.args.table.now.key _ _ _ _,
    )

pub loop-port-preserved : goal.loop-port-preserved
loop-port-preserved g c =
    let i = c.loop-port.invariant in
    let quiet = head_quiet c.args.table.now.table_id c.args.ports.items c.loop-port.port-iterator.rest.items c.next-in-loop-port.new.self.rest.items c.loop-port.whole c.in-Some-port.port c.in-Some-port.ensures.steps.0 i in
    gathers_more g.Q.DisciplineSpec.phases c.port.inside.label c.port.inside.node c.port.inside.seat c.port.inside.payload c.port.inside.token c.port.inside.steps c.port.inside.poll_count.count c.port.inside.state c.in-Some-port.port c.port.view_is c.port.invariant quiet c.args.table.now.table_id c.args.ports.items c.next-in-loop-port.new.self.rest.items c.loop-port.whole c.join_seat.new.seat
    (subst (λ rest. HasJoinedSome g.Q.DisciplineSpec.phases.in_state c.args.table.now.table_id c.args.ports.items rest c.loop-port.whole) c.in-Some-port.ensures.steps.0 i) c.join_seat.ensures.0 c.join_seat.ensures.2

pub returns : goal.returns
returns g c = gathered c.args.table.now.table_id c.args.ports.items c.loop-port.port-iterator.rest.items _ c.loop-port.whole c.loop-port.port-iterator.rest.ok.0 c.in-None.ensures.steps.0 c.loop-port.invariant
