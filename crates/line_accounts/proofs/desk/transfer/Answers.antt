use Rattle.std.proofs.Common.{◌≡◌, ◌≢◌, ◌⊎◌, ◌<◌, true, false, nat_lt, List, length, inl, inr, slice_get, slice_set, sym, ap, ◌∙◌, subst, arith}
use Rattle.std.specs.Vec.{with_items}
use Rattle.std.proofs.Math.ListN.{set}
use Rattle.std.proofs.lemmas.Bool.Decides.{nat_tests}
use Rattle.std.proofs.lemmas.Option.{slice_get_read, slice_get_within}
use Rattle.line_accounts.specs.Desks.{DeskOf, IsDeskOver, ArePatient, AreWithinCalls, HasOneWaited}
use Rattle.line_accounts.specs.Calls.{AreTwo, Transfers}
use Rattle.line_accounts.proofs.Accounted.{at_place, moved_within_port, desk_after}
use Rattle.line_accounts.proofs.Pairs.{both_set}
use Rattle.line_accounts.proofs.Patient.{patient_one, waited_one, patient_two, waited_two}
use Rattle.line_accounts.proofs.Transferred.{between_ports, crossed_desk, transfers_within, transfers_between, transfers_none}
use Rattle.line_accounts.proofs.desk.transfer.Goals.{then-i-j-2, else-i-j-2}
use Rattle.line_accounts.proofs.WithinCalls.{calls_one, calls_two}
use Rattle.line_accounts.proofs.desk.transfer.Goals as goal

pub move_within-requires-clause-at_rest : goal.move_within-requires-clause-at_rest
move_within-requires-clause-at_rest g c =
    let over = subst (λ (d : DeskOf g.row.L-Port.Denot). IsDeskOver g.L.LineSync.belongs g.L.LineSync.view c.args.lines.now d) (sym c.desk.view_is) c.requires.over in
    let there_i : c.in-Some.i < length c.args.lines.now = omega (arith, c.in-Some.ensures.0, c.in-Some.ensures.1) in
    let at = at_place g.L.LineSync.belongs g.L.LineSync.view c.args.lines.now _ c.in-Some.i c.index-lines-i.result c.index_mut.result.now over there_i c.index-lines-i.is c.index_mut.ensures.value in
    over.at_rest c.in-Some.i c.index_mut.result.now at.1

pub returns-then-i-j-clause-over : goal.returns-then-i-j-clause-over
returns-then-i-j-clause-over g c =
    let over = subst (λ (d : DeskOf g.row.L-Port.Denot). IsDeskOver g.L.LineSync.belongs g.L.LineSync.view c.args.lines.now d) (sym c.desk.view_is) c.requires.over in
    let there_i : c.in-Some.i < length c.args.lines.now = omega (arith, c.in-Some.ensures.0, c.in-Some.ensures.1) in
    let at = at_place g.L.LineSync.belongs g.L.LineSync.view c.args.lines.now _ c.in-Some.i c.index-lines-i.result c.index_mut.result.now over there_i c.index-lines-i.is c.index_mut.ensures.value in
    let done = moved_within_port _ _ c.in-Some.source c.in-Some-place_of.target c.args.amount c.desk.inside.paid_in c.desk.inside.paid_out c.move_within.result c.move_within.ensures.moves in
    desk_after g.L.LineSync.belongs g.L.LineSync.view c.args.lines.now _ c.in-Some.i c.index-lines-i.result c.index_mut.result.now c.move_within.new.port c.desk.inside.paid_in c.desk.inside.paid_out over at.0 at.1 c.move_within.ensures.belongs done.0 done.1

pub returns-then-i-j-clause-transfers : goal.returns-then-i-j-clause-transfers
returns-then-i-j-clause-transfers g c =
    let over = subst (λ (d : DeskOf g.row.L-Port.Denot). IsDeskOver g.L.LineSync.belongs g.L.LineSync.view c.args.lines.now d) (sym c.desk.view_is) c.requires.over in
    let there_i : c.in-Some.i < length c.args.lines.now = omega (arith, c.in-Some.ensures.0, c.in-Some.ensures.1) in
    let at = at_place g.L.LineSync.belongs g.L.LineSync.view c.args.lines.now _ c.in-Some.i c.index-lines-i.result c.index_mut.result.now over there_i c.index-lines-i.is c.index_mut.ensures.value in
    let two : AreTwo (length c.args.lines.now) c.args.from c.args.to = record { source_known = c.in-Some.ensures.0; target_known = c.in-Some-place_of.ensures.0; apart = c.if-from-to.false } in
    subst (λ (d : DeskOf g.row.L-Port.Denot). Transfers g.L.LineSync.view (length c.args.lines.now) c.args.from c.args.to c.args.amount d (record { ports = set c.desk.inside.ports.items c.in-Some.i c.move_within.new.port; paid_in = c.desk.inside.paid_in; paid_out = c.desk.inside.paid_out }) c.move_within.result) c.desk.view_is
    (transfers_within g.L.LineSync.view (length c.args.lines.now) c.args.from c.args.to c.args.amount _ c.in-Some.i c.in-Some-place_of.j c.in-Some.source c.in-Some-place_of.target two c.in-Some.ensures.1 c.in-Some-place_of.ensures.1 c.in-Some.ensures.2 c.in-Some-place_of.ensures.2 c.index_mut.result.now c.move_within.new.port c.if-i-j.true at.1 c.move_within.result c.move_within.ensures.moves)

pub returns-then-i-j-clause-patient : goal.returns-then-i-j-clause-patient
returns-then-i-j-clause-patient g c =
    let over = subst (λ (d : DeskOf g.row.L-Port.Denot). IsDeskOver g.L.LineSync.belongs g.L.LineSync.view c.args.lines.now d) (sym c.desk.view_is) c.requires.over in
    let there_i : c.in-Some.i < length c.args.lines.now = omega (arith, c.in-Some.ensures.0, c.in-Some.ensures.1) in
    let at = at_place g.L.LineSync.belongs g.L.LineSync.view c.args.lines.now _ c.in-Some.i c.index-lines-i.result c.index_mut.result.now over there_i c.index-lines-i.is c.index_mut.ensures.value in
    subst (λ (d : DeskOf g.row.L-Port.Denot). ArePatient g.L.LineSync.counters c.args.patience d.ports (set c.desk.inside.ports.items c.in-Some.i c.move_within.new.port)) c.desk.view_is
    (patient_one g.L.LineSync.counters c.args.patience c.desk.inside.ports.items c.in-Some.i c.index_mut.result.now c.move_within.new.port at.1 c.move_within.ensures.patient)

pub returns-then-i-j-clause-late : goal.returns-then-i-j-clause-late
returns-then-i-j-clause-late g c late =
    let over = subst (λ (d : DeskOf g.row.L-Port.Denot). IsDeskOver g.L.LineSync.belongs g.L.LineSync.view c.args.lines.now d) (sym c.desk.view_is) c.requires.over in
    let there_i : c.in-Some.i < length c.args.lines.now = omega (arith, c.in-Some.ensures.0, c.in-Some.ensures.1) in
    let at = at_place g.L.LineSync.belongs g.L.LineSync.view c.args.lines.now _ c.in-Some.i c.index-lines-i.result c.index_mut.result.now over there_i c.index-lines-i.is c.index_mut.ensures.value in
    subst (λ (d : DeskOf g.row.L-Port.Denot). HasOneWaited g.L.LineSync.counters g.L.LineSync.view c.args.patience d.ports (set c.desk.inside.ports.items c.in-Some.i c.move_within.new.port)) c.desk.view_is
    (waited_one g.L.LineSync.counters c.args.patience c.desk.inside.ports.items c.in-Some.i c.index_mut.result.now c.move_within.new.port at.1 g.L.LineSync.view (c.move_within.ensures.late late))

pub returns-in_default-place_of-clause-transfers : goal.returns-in_default-place_of-clause-transfers
returns-in_default-place_of-clause-transfers g c = transfers_none g.L.LineSync.view (length c.args.lines.now) c.args.from c.args.to c.args.amount _ (inr c.in_default-place_of.ensures)

pub move_between-requires-clause-rest_low : goal.move_between-requires-clause-rest_low
move_between-requires-clause-rest_low g c =
    let over = subst (λ (d : DeskOf g.row.L-Port.Denot). IsDeskOver g.L.LineSync.belongs g.L.LineSync.view c.args.lines.now d) (sym c.desk.view_is) c.requires.over in
    over.at_rest c.if-i-j-2.low.0 c.pair_of-first.result.0.now (sym (ap (λ l. slice_get l c.if-i-j-2.low.0) c.deref_mut.ensures.value) ∙ c.pair_of-first.ensures.first)

pub move_between-requires-clause-rest_high : goal.move_between-requires-clause-rest_high
move_between-requires-clause-rest_high g c =
    let over = subst (λ (d : DeskOf g.row.L-Port.Denot). IsDeskOver g.L.LineSync.belongs g.L.LineSync.view c.args.lines.now d) (sym c.desk.view_is) c.requires.over in
    over.at_rest c.if-i-j-2.low.1 c.pair_of-first.result.1.now (sym (ap (λ l. slice_get l c.if-i-j-2.low.1) c.deref_mut.ensures.value) ∙ c.pair_of-first.ensures.second)

pub returns-clause-over : goal.returns-clause-over
returns-clause-over g c =
    let over = subst (λ (d : DeskOf g.row.L-Port.Denot). IsDeskOver g.L.LineSync.belongs g.L.LineSync.view c.args.lines.now d) (sym c.desk.view_is) c.requires.over in
    let (low, high) = c.if-i-j-2.low in
    let apart : low ≢ high = grind (arith, c.if-i-j-2.branch) in
    let at_low = sym (ap (λ l. slice_get l low) c.deref_mut.ensures.value) ∙ c.pair_of-first.ensures.first in
    let at_high = sym (ap (λ l. slice_get l high) c.deref_mut.ensures.value) ∙ c.pair_of-first.ensures.second in
    let line_low = slice_get_read c.args.lines.now (length c.desk.inside.ports.items) low c.index-lines-low.result over.over.count (slice_get_within _ _ _ at_low) c.index-lines-low.is in
    let line_high = slice_get_read c.args.lines.now (length c.desk.inside.ports.items) high c.index-lines-high.result over.over.count (slice_get_within _ _ _ at_high) c.index-lines-high.is in
    let whole = both_set c.desk.inside.ports c.deref_mut.result.now low high c.move_between.new.low_port c.move_between.new.high_port c.deref_mut.ensures.value in
    let done = between_ports _ _ _ _ _ c.in-Some.source c.in-Some-place_of.target c.args.amount (over.at_rest high c.pair_of-first.result.1.now at_high) c.move_between.result c.move_between.ensures.moves in
    subst (λ (l : List g.row.L-Port.Denot). IsDeskOver g.L.LineSync.belongs g.L.LineSync.view c.args.lines.now (record { ports = l; paid_in = c.desk.inside.paid_in; paid_out = c.desk.inside.paid_out })) (sym whole)
    (crossed_desk g.L.LineSync.belongs g.L.LineSync.view c.args.lines.now _ low high c.index-lines-low.result c.index-lines-high.result c.pair_of-first.result.0.now c.move_between.new.low_port c.pair_of-first.result.1.now c.move_between.new.high_port apart over line_low line_high at_low at_high c.move_between.ensures.belongs_low c.move_between.ensures.belongs_high done)

pub returns-clause-transfers : goal.returns-clause-transfers
returns-clause-transfers g c =
    let (low, high) = c.if-i-j-2.low in
    let at_low = sym (ap (λ l. slice_get l low) c.deref_mut.ensures.value) ∙ c.pair_of-first.ensures.first in
    let at_high = sym (ap (λ l. slice_get l high) c.deref_mut.ensures.value) ∙ c.pair_of-first.ensures.second in
    let ports = with_items c.desk.inside.ports (slice_set (slice_set c.deref_mut.result.now low c.move_between.new.low_port) high c.move_between.new.high_port) in
    let whole = both_set c.desk.inside.ports c.deref_mut.result.now low high c.move_between.new.low_port c.move_between.new.high_port c.deref_mut.ensures.value in
    let two : AreTwo (length c.args.lines.now) c.args.from c.args.to = record { source_known = c.in-Some.ensures.0; target_known = c.in-Some-place_of.ensures.0; apart = c.if-from-to.false } in
    let i = c.in-Some.i in
    let j = c.in-Some-place_of.j in
    let order : ((nat_lt i j ≡ true) × (i < j) × (low ≡ i) × (high ≡ j)) ⊎ ((nat_lt i j ≡ false) × (j < i) × (low ≡ j) × (high ≡ i)) = elim c.if-i-j-2.branch [
      | then-i-j-2 w ↦ inl (grind (arith, nat_tests), w.if-i-j-2.true, ap (λ e. e.0) w.low-is, ap (λ e. e.1) w.low-is)
      | else-i-j-2 w ↦ inr (grind (arith, nat_tests), omega (arith, w.if-i-j-2.false, c.if-i-j.false), ap (λ e. e.0) w.low-is, ap (λ e. e.1) w.low-is)
    ] in
    subst (λ (d : DeskOf g.row.L-Port.Denot). Transfers g.L.LineSync.view (length c.args.lines.now) c.args.from c.args.to c.args.amount d (record { ports = ports.items; paid_in = c.desk.inside.paid_in; paid_out = c.desk.inside.paid_out }) c.move_between.result) c.desk.view_is
    (subst (λ (l : List g.row.L-Port.Denot). Transfers g.L.LineSync.view (length c.args.lines.now) c.args.from c.args.to c.args.amount (record { ports = c.desk.inside.ports.items; paid_in = c.desk.inside.paid_in; paid_out = c.desk.inside.paid_out }) (record { ports = l; paid_in = c.desk.inside.paid_in; paid_out = c.desk.inside.paid_out }) c.move_between.result) (sym whole)
    (transfers_between g.L.LineSync.view (length c.args.lines.now) c.args.from c.args.to c.args.amount _ i j c.in-Some.source c.in-Some-place_of.target two c.in-Some.ensures.1 c.in-Some-place_of.ensures.1 c.in-Some.ensures.2 c.in-Some-place_of.ensures.2
    low high c.pair_of-first.result.0.now c.move_between.new.low_port c.pair_of-first.result.1.now c.move_between.new.high_port (nat_lt i j) order at_low at_high c.move_between.result c.move_between.ensures.moves))

pub returns-clause-patient : goal.returns-clause-patient
returns-clause-patient g c =
    let (low, high) = c.if-i-j-2.low in
    let apart : low ≢ high = grind (arith, c.if-i-j-2.branch) in
    let at_low = sym (ap (λ l. slice_get l low) c.deref_mut.ensures.value) ∙ c.pair_of-first.ensures.first in
    let at_high = sym (ap (λ l. slice_get l high) c.deref_mut.ensures.value) ∙ c.pair_of-first.ensures.second in
    let ports = with_items c.desk.inside.ports (slice_set (slice_set c.deref_mut.result.now low c.move_between.new.low_port) high c.move_between.new.high_port) in
    let whole = both_set c.desk.inside.ports c.deref_mut.result.now low high c.move_between.new.low_port c.move_between.new.high_port c.deref_mut.ensures.value in
    subst (λ (d : DeskOf g.row.L-Port.Denot). ArePatient g.L.LineSync.counters c.args.patience d.ports ports.items) c.desk.view_is
    (subst (λ (l : List g.row.L-Port.Denot). ArePatient g.L.LineSync.counters c.args.patience c.desk.inside.ports.items l) (sym whole)
    (patient_two g.L.LineSync.counters c.args.patience c.desk.inside.ports.items low c.pair_of-first.result.0.now c.move_between.new.low_port at_low high c.pair_of-first.result.1.now c.move_between.new.high_port apart at_high c.move_between.ensures.patient_low c.move_between.ensures.patient_high))

pub returns-clause-late : goal.returns-clause-late
returns-clause-late g c late =
    let (low, high) = c.if-i-j-2.low in
    let apart : low ≢ high = grind (arith, c.if-i-j-2.branch) in
    let at_low = sym (ap (λ l. slice_get l low) c.deref_mut.ensures.value) ∙ c.pair_of-first.ensures.first in
    let at_high = sym (ap (λ l. slice_get l high) c.deref_mut.ensures.value) ∙ c.pair_of-first.ensures.second in
    let ports = with_items c.desk.inside.ports (slice_set (slice_set c.deref_mut.result.now low c.move_between.new.low_port) high c.move_between.new.high_port) in
    let whole = both_set c.desk.inside.ports c.deref_mut.result.now low high c.move_between.new.low_port c.move_between.new.high_port c.deref_mut.ensures.value in
    subst (λ (d : DeskOf g.row.L-Port.Denot). HasOneWaited g.L.LineSync.counters g.L.LineSync.view c.args.patience d.ports ports.items) c.desk.view_is
    (subst (λ (l : List g.row.L-Port.Denot). HasOneWaited g.L.LineSync.counters g.L.LineSync.view c.args.patience c.desk.inside.ports.items l) (sym whole)
    (waited_two g.L.LineSync.counters c.args.patience c.desk.inside.ports.items low c.pair_of-first.result.0.now c.move_between.new.low_port at_low high c.pair_of-first.result.1.now c.move_between.new.high_port apart at_high g.L.LineSync.view (c.move_between.ensures.late late)))

pub returns-then-i-j-clause-steps : goal.returns-then-i-j-clause-steps
returns-then-i-j-clause-steps g c =
    let over = subst (λ (d : DeskOf g.row.L-Port.Denot). IsDeskOver g.L.LineSync.belongs g.L.LineSync.view c.args.lines.now d) (sym c.desk.view_is) c.requires.over in
    let there_i : c.in-Some.i < length c.args.lines.now = omega (arith, c.in-Some.ensures.0, c.in-Some.ensures.1) in
    let at = at_place g.L.LineSync.belongs g.L.LineSync.view c.args.lines.now _ c.in-Some.i c.index-lines-i.result c.index_mut.result.now over there_i c.index-lines-i.is c.index_mut.ensures.value in
    subst (λ (d : DeskOf g.row.L-Port.Denot). AreWithinCalls g.L.LineSync.counters g.L.LineSync.max_steps c.args.lines.now d.ports (set c.desk.inside.ports.items c.in-Some.i c.move_within.new.port)) c.desk.view_is
    (calls_one g.L.LineSync.counters g.L.LineSync.max_steps c.args.lines.now c.desk.inside.ports.items c.in-Some.i c.index-lines-i.result c.index_mut.result.now c.move_within.new.port at.0 at.1 c.move_within.ensures.steps)

pub move_between-requires-clause-belongs_low : goal.move_between-requires-clause-belongs_low
move_between-requires-clause-belongs_low g c =
    let over = subst (λ (d : DeskOf g.row.L-Port.Denot). IsDeskOver g.L.LineSync.belongs g.L.LineSync.view c.args.lines.now d) (sym c.desk.view_is) c.requires.over in
    let (low, high) = c.if-i-j-2.low in
    let at_low = sym (ap (λ l. slice_get l low) c.deref_mut.ensures.value) ∙ c.pair_of-first.ensures.first in
    let line_low = slice_get_read c.args.lines.now (length c.desk.inside.ports.items) low c.index-lines-low.result over.over.count (slice_get_within _ _ _ at_low) c.index-lines-low.is in
    over.over.each_belongs low c.index-lines-low.result c.pair_of-first.result.0.now line_low at_low

pub move_between-requires-clause-belongs_high : goal.move_between-requires-clause-belongs_high
move_between-requires-clause-belongs_high g c =
    let over = subst (λ (d : DeskOf g.row.L-Port.Denot). IsDeskOver g.L.LineSync.belongs g.L.LineSync.view c.args.lines.now d) (sym c.desk.view_is) c.requires.over in
    let (low, high) = c.if-i-j-2.low in
    let at_high = sym (ap (λ l. slice_get l high) c.deref_mut.ensures.value) ∙ c.pair_of-first.ensures.second in
    let line_high = slice_get_read c.args.lines.now (length c.desk.inside.ports.items) high c.index-lines-high.result over.over.count (slice_get_within _ _ _ at_high) c.index-lines-high.is in
    over.over.each_belongs high c.index-lines-high.result c.pair_of-first.result.1.now line_high at_high

pub returns-clause-steps : goal.returns-clause-steps
returns-clause-steps g c =
    let over = subst (λ (d : DeskOf g.row.L-Port.Denot). IsDeskOver g.L.LineSync.belongs g.L.LineSync.view c.args.lines.now d) (sym c.desk.view_is) c.requires.over in
    let (low, high) = c.if-i-j-2.low in
    let apart : low ≢ high = grind (arith, c.if-i-j-2.branch) in
    let at_low = sym (ap (λ l. slice_get l low) c.deref_mut.ensures.value) ∙ c.pair_of-first.ensures.first in
    let at_high = sym (ap (λ l. slice_get l high) c.deref_mut.ensures.value) ∙ c.pair_of-first.ensures.second in
    let line_low = slice_get_read c.args.lines.now (length c.desk.inside.ports.items) low c.index-lines-low.result over.over.count (slice_get_within _ _ _ at_low) c.index-lines-low.is in
    let line_high = slice_get_read c.args.lines.now (length c.desk.inside.ports.items) high c.index-lines-high.result over.over.count (slice_get_within _ _ _ at_high) c.index-lines-high.is in
    let ports = with_items c.desk.inside.ports (slice_set (slice_set c.deref_mut.result.now low c.move_between.new.low_port) high c.move_between.new.high_port) in
    let whole = both_set c.desk.inside.ports c.deref_mut.result.now low high c.move_between.new.low_port c.move_between.new.high_port c.deref_mut.ensures.value in
    subst (λ (d : DeskOf g.row.L-Port.Denot). AreWithinCalls g.L.LineSync.counters g.L.LineSync.max_steps c.args.lines.now d.ports ports.items) c.desk.view_is
    (subst (λ (l : List g.row.L-Port.Denot). AreWithinCalls g.L.LineSync.counters g.L.LineSync.max_steps c.args.lines.now c.desk.inside.ports.items l) (sym whole)
    (calls_two g.L.LineSync.counters g.L.LineSync.max_steps c.args.lines.now c.desk.inside.ports.items low c.index-lines-low.result c.pair_of-first.result.0.now c.move_between.new.low_port line_low at_low high c.index-lines-high.result c.pair_of-first.result.1.now c.move_between.new.high_port apart line_high at_high c.move_between.ensures.steps_low c.move_between.ensures.steps_high))
