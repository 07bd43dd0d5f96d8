use Rattle.std.proofs.Common.{◌≡◌, inl, inr, List, length, map, All, sym, ap, subst, ◌∙◌, arith}
use Rattle.qolb_model.specs.declared.config.LineConfig.{LineConfig}
use Rattle.qolb_model.specs.declared.unfinished.FinishError.TheVariants.{Memory, Missing, Unquiet}
use Rattle.qolb_script.specs.declared.schedule.TheConstants.{MAX_COMMANDS}
use Rattle.qolb_script.specs.declared.report.Report.TheVariants.{Board}
use Rattle.qolb_work.specs.Reports.{IsDoneInTurn}
use Rattle.qolb_work.specs.declared.board.BoardHand.{BoardHand}
use Rattle.qolb_work.specs.BoardWork.{AreWithin, AreSums}
use Rattle.qolb_work.proofs.Refusing.{only_memory}
use Rattle.qolb_work.proofs.Summing.{all_within, in_turn, kept, puts, takes_are}
use Rattle.qolb_work.proofs.Untold.{ports_belong, may_finish, done_at_last}
use Rattle.qolb_work.proofs.board.finish.Goals as goal

pub sum_up-counts-requires-clause-hands : goal.sum_up-counts-requires-clause-hands
sum_up-counts-requires-clause-hands g c = omega (arith, c.as_slice.ensures.len, c.requires.len, c.requires.limits.few)

pub sum_up-counts-requires-clause-small : goal.sum_up-counts-requires-clause-small
sum_up-counts-requires-clause-small g c =
    subst (λ (hs : List (BoardHand g.row.L-Port.Denot)). All (λ hand. AreWithin MAX_COMMANDS hand.counts) hs) (sym c.as_slice.ensures.value)
    (all_within g.L.LineSync.belongs g.L.LineSync.view c.args.board.line c.args.hands.items c.args.work.now.jobs c.requires.limits.most c.requires.ended)

pub finish-requires : goal.finish-requires
finish-requires g c = record {
  belongs = λ k d below same. ports_belong g.L.LineSync.belongs g.L.LineSync.view c.args.board.line c.args.work.now c.args.hands.items c.in_ok-ports.ports.items c.requires.ended c.in_ok-ports.ensures k d below;
}

pub unreachable-requires : goal.unreachable-requires
unreachable-requires g c =
    let many : length c.args.hands.items ≡ (g.L.LineSync.config_of c.args.board.line).nodes = sym c.args.hands.ok.0 ∙ (c.requires.len ∙ ap (λ (t : LineConfig). t.nodes) (sym c.requires.config)) in
    let may = may_finish g.L.LineSync.belongs g.L.LineSync.view c.args.board.line c.args.work.now c.args.hands.items c.in_ok-ports.ports.items c.requires.ended c.in_ok-ports.ensures (g.L.LineSync.label_of c.args.board.line) (g.L.LineSync.config_of c.args.board.line).nodes
    (λ port own. (g.met.L.LineSync.sound c.args.board.line port own).label_is) many in
    let is = only_memory (g.L.LineSync.label_of c.args.board.line) (g.L.LineSync.config_of c.args.board.line).nodes (map g.L.LineSync.view c.in_ok-ports.ports.items) c.in-Err.back.why may c.in-Err.ensures.why in
    elim c.in-Missing.is [
      | inl (n, e) ↦ let no : Memory ≡ Missing n = sym is ∙ e in cc no
      | inr (n, e) ↦ let no : Memory ≡ Unquiet n = sym is ∙ e in cc no
    ]

pub returns-clause-report : goal.returns-clause-report
returns-clause-report g c =
    let done = done_at_last g.L.LineSync.belongs g.L.LineSync.view c.args.board.line c.args.work.now c.args.hands.items c.in_ok-ports.ports.items c.requires.ended c.in_ok-ports.ensures _ _ c.in-Ok.last.bytes c.in-Ok.ensures.finished (ap (λ (t : LineConfig). t.lease) c.requires.config) in
    let sums : AreSums c.args.hands.items c.sum_up-counts.result = subst (λ (hs : List (BoardHand g.row.L-Port.Denot)). AreSums hs c.sum_up-counts.result) c.as_slice.ensures.value c.sum_up-counts.ensures in
    let many : length c.args.hands.items ≡ c.args.work.now.workers = sym c.args.hands.ok.0 ∙ c.requires.len in
    let left : c.len.result ≡ length c.in-Some.tasks.items = c.len.ensures.value in
    let balance = kept g.L.LineSync.belongs g.L.LineSync.view c.args.board.line c.args.work.now c.args.hands.items c.in_ok-ports.ports.items done c.in_ok-ports.ensures
    c.sum_up-counts.result _ _ c.in-Ok.last.bytes c.in-Some.tasks.items sums many c.requires.limits.its c.requires.config c.in-Ok.ensures.finished c.in-Some.ensures in
    record {
      of_board = c.requires.kind;
      in_turn = subst (λ n. IsDoneInTurn c.args.work.now (Board c.sum_up-counts.result.stored c.sum_up-counts.result.full c.sum_up-counts.result.taken c.sum_up-counts.result.empty n)) (sym left)
          (in_turn g.L.LineSync.belongs g.L.LineSync.view c.args.board.line c.args.work.now c.args.hands.items c.in_ok-ports.ports.items done c.in_ok-ports.ensures
          c.sum_up-counts.result _ _ c.in-Ok.last.bytes c.in-Some.tasks.items sums many c.requires.limits.its c.requires.config c.in-Ok.ensures.finished c.in-Some.ensures);
      kept = omega (arith, balance, left);
      puts = puts g.L.LineSync.belongs g.L.LineSync.view c.args.board.line c.args.work.now c.args.hands.items c.in_ok-ports.ports.items done c.in_ok-ports.ensures
          c.sum_up-counts.result _ _ c.in-Ok.last.bytes c.in-Some.tasks.items sums many c.requires.limits.its c.requires.config c.in-Ok.ensures.finished c.in-Some.ensures;
      takes = takes_are g.L.LineSync.belongs g.L.LineSync.view c.args.board.line c.args.work.now c.args.hands.items c.in_ok-ports.ports.items done c.in_ok-ports.ensures
          c.sum_up-counts.result _ _ c.in-Ok.last.bytes c.in-Some.tasks.items sums many c.requires.limits.its c.requires.config c.in-Ok.ensures.finished c.in-Some.ensures;
    }

pub returns-clause-boarded : goal.returns-clause-boarded
returns-clause-boarded g c =
    let done = done_at_last g.L.LineSync.belongs g.L.LineSync.view c.args.board.line c.args.work.now c.args.hands.items c.in_ok-ports.ports.items c.requires.ended c.in_ok-ports.ensures _ _ c.in-Ok.last.bytes c.in-Ok.ensures.finished (ap (λ (t : LineConfig). t.lease) c.requires.config) in
    record {
      line = c.args.board.line;
      hands = c.args.hands.items;
      opened = c.requires.config;
      each = sym c.args.hands.ok.0 ∙ c.requires.len;
      done = done;
      sums = subst (λ (hs : List (BoardHand g.row.L-Port.Denot)). AreSums hs c.sum_up-counts.result) c.as_slice.ensures.value c.sum_up-counts.ensures;
    }
