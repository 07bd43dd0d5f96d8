use Rattle.std.proofs.Common.{◌<◌, length, sym, subst, arith}
use Rattle.std.proofs.Math.ListN.{set}
use Rattle.line_accounts.specs.Desks.{DeskOf, IsDeskOver, ArePatient, AreWithinCalls, HasOneWaited}
use Rattle.line_accounts.specs.Calls.{TakesOut}
use Rattle.line_accounts.proofs.Accounted.{paid_out_port, desk_after, at_place, takes_out, takes_out_none}
use Rattle.line_accounts.proofs.Replies.{no_account_not_late}
use Rattle.line_accounts.proofs.Patient.{patient_one, waited_one}
use Rattle.line_accounts.proofs.WithinCalls.{calls_one}
use Rattle.line_accounts.proofs.desk.take_out.Goals as goal

pub pay_out-requires-clause-at_rest : goal.pay_out-requires-clause-at_rest
pay_out-requires-clause-at_rest g c =
    let over = subst (λ (d : DeskOf g.row.L-Port.Denot). IsDeskOver g.L.LineSync.belongs g.L.LineSync.view c.args.lines.now d) (sym c.desk.view_is) c.requires.over in
    let there : c.in-Some.i < length c.args.lines.now = omega (arith, c.in-Some.ensures.0, c.in-Some.ensures.1) in
    let at = at_place g.L.LineSync.belongs g.L.LineSync.view c.args.lines.now _ c.in-Some.i c.index-lines-i.result c.index_mut.result.now over there c.index-lines-i.is c.index_mut.ensures.value in
    over.at_rest c.in-Some.i c.index_mut.result.now at.1

pub pay_out-requires-clause-belongs : goal.pay_out-requires-clause-belongs
pay_out-requires-clause-belongs g c =
    let over = subst (λ (d : DeskOf g.row.L-Port.Denot). IsDeskOver g.L.LineSync.belongs g.L.LineSync.view c.args.lines.now d) (sym c.desk.view_is) c.requires.over in
    let there : c.in-Some.i < length c.args.lines.now = omega (arith, c.in-Some.ensures.0, c.in-Some.ensures.1) in
    let at = at_place g.L.LineSync.belongs g.L.LineSync.view c.args.lines.now _ c.in-Some.i c.index-lines-i.result c.index_mut.result.now over there c.index-lines-i.is c.index_mut.ensures.value in
    over.over.each_belongs c.in-Some.i c.index-lines-i.result c.index_mut.result.now at.0 at.1

pub returns-clause-over : goal.returns-clause-over
returns-clause-over g c =
    let over = subst (λ (d : DeskOf g.row.L-Port.Denot). IsDeskOver g.L.LineSync.belongs g.L.LineSync.view c.args.lines.now d) (sym c.desk.view_is) c.requires.over in
    let there : c.in-Some.i < length c.args.lines.now = omega (arith, c.in-Some.ensures.0, c.in-Some.ensures.1) in
    let at = at_place g.L.LineSync.belongs g.L.LineSync.view c.args.lines.now _ c.in-Some.i c.index-lines-i.result c.index_mut.result.now over there c.index-lines-i.is c.index_mut.ensures.value in
    let done = paid_out_port _ _ c.in-Some.lane c.args.amount c.pay_out.result _ _ c.desk.inside.paid_in c.pay_out.ensures.pays in
    desk_after g.L.LineSync.belongs g.L.LineSync.view c.args.lines.now _ c.in-Some.i c.index-lines-i.result c.index_mut.result.now c.pay_out.new.port c.desk.inside.paid_in c.pay_out.new.paid_out over at.0 at.1 c.pay_out.ensures.belongs done.0 done.1

pub returns-clause-takes_out : goal.returns-clause-takes_out
returns-clause-takes_out g c =
    let over = subst (λ (d : DeskOf g.row.L-Port.Denot). IsDeskOver g.L.LineSync.belongs g.L.LineSync.view c.args.lines.now d) (sym c.desk.view_is) c.requires.over in
    let there : c.in-Some.i < length c.args.lines.now = omega (arith, c.in-Some.ensures.0, c.in-Some.ensures.1) in
    let at = at_place g.L.LineSync.belongs g.L.LineSync.view c.args.lines.now _ c.in-Some.i c.index-lines-i.result c.index_mut.result.now over there c.index-lines-i.is c.index_mut.ensures.value in
    subst (λ (d : DeskOf g.row.L-Port.Denot). TakesOut g.L.LineSync.view (length c.args.lines.now) c.args.account c.args.amount d (record { ports = set c.desk.inside.ports.items c.in-Some.i c.pay_out.new.port; paid_in = c.desk.inside.paid_in; paid_out = c.pay_out.new.paid_out }) c.pay_out.result) c.desk.view_is
    (takes_out g.L.LineSync.view (length c.args.lines.now) c.args.account c.args.amount _ c.in-Some.i c.in-Some.lane c.index_mut.result.now c.pay_out.new.port c.in-Some.ensures.0 c.in-Some.ensures.1 c.in-Some.ensures.2 at.1 c.pay_out.new.paid_out c.pay_out.result c.pay_out.ensures.pays)

pub returns-clause-patient : goal.returns-clause-patient
returns-clause-patient g c =
    let over = subst (λ (d : DeskOf g.row.L-Port.Denot). IsDeskOver g.L.LineSync.belongs g.L.LineSync.view c.args.lines.now d) (sym c.desk.view_is) c.requires.over in
    let there : c.in-Some.i < length c.args.lines.now = omega (arith, c.in-Some.ensures.0, c.in-Some.ensures.1) in
    let at = at_place g.L.LineSync.belongs g.L.LineSync.view c.args.lines.now _ c.in-Some.i c.index-lines-i.result c.index_mut.result.now over there c.index-lines-i.is c.index_mut.ensures.value in
    subst (λ (d : DeskOf g.row.L-Port.Denot). ArePatient g.L.LineSync.counters c.args.patience d.ports (set c.desk.inside.ports.items c.in-Some.i c.pay_out.new.port)) c.desk.view_is
    (patient_one g.L.LineSync.counters c.args.patience c.desk.inside.ports.items c.in-Some.i c.index_mut.result.now c.pay_out.new.port at.1 c.pay_out.ensures.patient)

pub returns-clause-late : goal.returns-clause-late
returns-clause-late g c late =
    let over = subst (λ (d : DeskOf g.row.L-Port.Denot). IsDeskOver g.L.LineSync.belongs g.L.LineSync.view c.args.lines.now d) (sym c.desk.view_is) c.requires.over in
    let there : c.in-Some.i < length c.args.lines.now = omega (arith, c.in-Some.ensures.0, c.in-Some.ensures.1) in
    let at = at_place g.L.LineSync.belongs g.L.LineSync.view c.args.lines.now _ c.in-Some.i c.index-lines-i.result c.index_mut.result.now over there c.index-lines-i.is c.index_mut.ensures.value in
    subst (λ (d : DeskOf g.row.L-Port.Denot). HasOneWaited g.L.LineSync.counters g.L.LineSync.view c.args.patience d.ports (set c.desk.inside.ports.items c.in-Some.i c.pay_out.new.port)) c.desk.view_is
    (waited_one g.L.LineSync.counters c.args.patience c.desk.inside.ports.items c.in-Some.i c.index_mut.result.now c.pay_out.new.port at.1 g.L.LineSync.view (c.pay_out.ensures.late late))

pub returns-in_default-clause-takes_out : goal.returns-in_default-clause-takes_out
returns-in_default-clause-takes_out g c = takes_out_none g.L.LineSync.view (length c.args.lines.now) c.args.account c.args.amount _ c.in_default.ensures

pub returns-in_default-clause-late : goal.returns-in_default-clause-late
returns-in_default-clause-late g c late = absurd (no_account_not_late late)

pub returns-clause-steps : goal.returns-clause-steps
returns-clause-steps g c =
    let over = subst (λ (d : DeskOf g.row.L-Port.Denot). IsDeskOver g.L.LineSync.belongs g.L.LineSync.view c.args.lines.now d) (sym c.desk.view_is) c.requires.over in
    let there : c.in-Some.i < length c.args.lines.now = omega (arith, c.in-Some.ensures.0, c.in-Some.ensures.1) in
    let at = at_place g.L.LineSync.belongs g.L.LineSync.view c.args.lines.now _ c.in-Some.i c.index-lines-i.result c.index_mut.result.now over there c.index-lines-i.is c.index_mut.ensures.value in
    subst (λ (d : DeskOf g.row.L-Port.Denot). AreWithinCalls g.L.LineSync.counters g.L.LineSync.max_steps c.args.lines.now d.ports (set c.desk.inside.ports.items c.in-Some.i c.pay_out.new.port)) c.desk.view_is
    (calls_one g.L.LineSync.counters g.L.LineSync.max_steps c.args.lines.now c.desk.inside.ports.items c.in-Some.i c.index-lines-i.result c.index_mut.result.now c.pay_out.new.port at.0 at.1 c.pay_out.ensures.steps)
