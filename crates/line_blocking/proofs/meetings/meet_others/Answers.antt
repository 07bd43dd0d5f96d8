use Rattle.line_blocking.specs.ViewAndTurn.{view_and_turn}
use Rattle.line_blocking.proofs.Rounds.{all_of_them, each_before, each_behind, meets_others, port_itself, some_port}
use Rattle.line_blocking.proofs.meetings.meet_others.Goals as goal

pub returns-in-Some-clause-meets : goal.returns-in-Some-clause-meets
returns-in-Some-clause-meets g c =
    meets_others g.K.Keep.allows (view_and_turn g.L.LineSync.view g.L.LineSync.turn) c.args.place c.args.ports.now c.split_at_mut-before.result.0.now c.split_at_mut-before.result.1.now c.in-Some.port.now c.in-Some.behind.now
    c.meet_each.new.others c.meet_each.new.port c.meet_each-in-Some.new.port c.meet_each-in-Some.new.others c.split_at_mut-before.ensures.value c.in-Some.ensures.cases.0 c.split_at_mut-before.ensures.front_len
    c.meet_each.ensures.meets c.meet_each-in-Some.ensures.meets

pub returns-in_default-clause-meets : goal.returns-in_default-clause-meets
returns-in_default-clause-meets g c =
    some_port c.args.ports.now c.split_at_mut-before.result.0.now c.split_at_mut-before.result.1.now c.args.place c.split_at_mut-before.ensures.value c.split_at_mut-before.ensures.front_len c.in_default.ensures.cases c.requires.place

pub returns-in_default-clause-belongs : goal.returns-in_default-clause-belongs
returns-in_default-clause-belongs g c =
    some_port c.args.ports.now c.split_at_mut-before.result.0.now c.split_at_mut-before.result.1.now c.args.place c.split_at_mut-before.ensures.value c.split_at_mut-before.ensures.front_len c.in_default.ensures.cases c.requires.place

pub meet_each-requires-clause-belongs : goal.meet_each-requires-clause-belongs
meet_each-requires-clause-belongs g c =
    port_itself (g.L.LineSync.belongs c.args.line.now) c.args.ports.now c.split_at_mut-before.result.0.now c.split_at_mut-before.result.1.now c.in-Some.port.now c.in-Some.behind.now
    c.split_at_mut-before.ensures.value c.in-Some.ensures.cases.0 c.requires.belongs

pub meet_each-requires-clause-others : goal.meet_each-requires-clause-others
meet_each-requires-clause-others g c =
    each_before (g.L.LineSync.belongs c.args.line.now) c.args.ports.now c.split_at_mut-before.result.0.now c.split_at_mut-before.result.1.now c.split_at_mut-before.ensures.value c.requires.belongs

pub meet_each-requires-in-Some-clause-others : goal.meet_each-requires-in-Some-clause-others
meet_each-requires-in-Some-clause-others g c =
    each_behind (g.L.LineSync.belongs c.args.line.now) c.args.ports.now c.split_at_mut-before.result.0.now c.split_at_mut-before.result.1.now c.in-Some.port.now c.in-Some.behind.now
    c.split_at_mut-before.ensures.value c.in-Some.ensures.cases.0 c.requires.belongs

pub returns-in-Some-clause-belongs : goal.returns-in-Some-clause-belongs
returns-in-Some-clause-belongs g c =
    all_of_them (g.L.LineSync.belongs c.args.line.now) c.meet_each.new.others c.meet_each-in-Some.new.port c.meet_each-in-Some.new.others c.meet_each.ensures.others c.meet_each-in-Some.ensures.belongs c.meet_each-in-Some.ensures.others
