use Rattle.std.proofs.Common.{rules, ◌≡◌, ◌+◌, ◌∷◌, List, [], length, drop, ap, sym, subst, ◌∙◌, arith, length-append, length-drop}
use Rattle.std.specs.Vec.Iter.{into_iter_items}
use Rattle.std.proofs.lemmas.Option.{slice_get_within}
use Rattle.line_accounts.proofs.Columns.{first_left, drop-next}
use Rattle.qolb_work.specs.declared.board.BoardHand.{BoardHand}
use Rattle.qolb_work.specs.declared.board.BoardCounts.{BoardCounts}
use Rattle.qolb_work.specs.BoardWork.{HasWorked}
use Rattle.qolb_work.specs.Workers.{AreFresh}
use Rattle.qolb_work.proofs.Gathering.{each_pushed, nobody}
use Rattle.qolb_work.proofs.Summing.{worked_nothing}
use Rattle.qolb_work.proofs.board.fresh_hands.Goals as goal

pub loop-port-init : goal.loop-port-init
loop-port-init g c = record {
  rest = c.into_iter-port-iterator.ensures.into_iter_gives.0 ∙ ap (λ (hs : List (BoardHand g.row.L-Port.Denot)). drop (length hs) c.args.ports.items) (sym c.in_ok-hands.ensures.items);
  fresh = subst (λ (hs : List (BoardHand g.row.L-Port.Denot)). AreFresh (HasWorked g.L.LineSync.belongs g.L.LineSync.view) c.args.line.now hs) (sym c.in_ok-hands.ensures.items) (nobody (HasWorked g.L.LineSync.belongs g.L.LineSync.view) c.args.line.now);
  many = let none = ap length c.in_ok-hands.ensures.items in omega (arith, none);
}

pub loop-port-preserved : goal.loop-port-preserved
loop-port-preserved g c =
    let step = sym c.loop-port.invariant.rest ∙ c.in-Some.ensures.steps.0 in
    let at = first_left c.args.ports.items (into_iter_items c.next.new.self) c.in-Some.port (length c.loop-port.hands.items) step in
    let own = c.requires (length c.loop-port.hands.items) c.in-Some.port at in
    let fresh = subst (λ (counts : BoardCounts). HasWorked g.L.LineSync.belongs g.L.LineSync.view c.args.line.now (length c.loop-port.hands.items + 1) (record { port = c.in-Some.port; counts = counts }) []) (sym c.none-counts.ensures)
    (worked_nothing g.L.LineSync.belongs g.L.LineSync.view c.args.line.now (g.L.LineSync.config_of c.args.line.now) (length c.loop-port.hands.items + 1) c.in-Some.port own.0 own.1) in
    let more : length c.push.new.self.items ≡ length c.loop-port.hands.items + 1 = ap length c.in_ok-push.ensures.items ∙ length-append c.loop-port.hands.items (record { port = c.in-Some.port; counts = c.none-counts.result } ∷ []) in
    record {
      rest = drop-next c.args.ports.items (into_iter_items c.next.new.self) c.in-Some.port (length c.loop-port.hands.items) step ∙ ap (λ n. drop n c.args.ports.items) (sym more);
      fresh = subst (λ (hs : List (BoardHand g.row.L-Port.Denot)). AreFresh (HasWorked g.L.LineSync.belongs g.L.LineSync.view) c.args.line.now hs) (sym c.in_ok-push.ensures.items)
          (each_pushed (λ k (hand : BoardHand g.row.L-Port.Denot). HasWorked g.L.LineSync.belongs g.L.LineSync.view c.args.line.now (k + 1) hand []) c.loop-port.hands.items (record { port = c.in-Some.port; counts = c.none-counts.result }) c.loop-port.invariant.fresh fresh);
      many = let within = slice_get_within c.args.ports.items (length c.loop-port.hands.items) c.in-Some.port at in omega (arith, within, more);
    }

pub returns-clause-len : goal.returns-clause-len
returns-clause-len g c =
    let end : length (into_iter_items c.loop-port.port-iterator) ≡ 0 = search rules in
    let rest = ap length c.loop-port.invariant.rest ∙ length-drop (length c.loop-port.hands.items) c.args.ports.items in
    let many = c.loop-port.invariant.many in
    omega (arith, end, rest, many, c.loop-port.hands.ok.0, c.args.ports.ok.0)
