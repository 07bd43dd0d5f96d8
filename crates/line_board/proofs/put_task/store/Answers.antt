use Rattle.std.proofs.Common.{◌≡◌, ◌++◌, ◌∷◌, [], ℕ, List, length, inl, inr, refl, ap, sym, ◌∙◌, subst}
use Rattle.qolb_model.specs.Views.{bytes_of}
use Rattle.line_board.specs.Board.{Stand}
use Rattle.line_board.specs.Calls.{HasFound}
use Rattle.line_board.proofs.Turns.{found_board, has_put}
use Rattle.line_board.proofs.put_task.store.Goals as goal

pub replace-requires-clause-changes : goal.replace-requires-clause-changes
replace-requires-clause-changes g c =
    let v = g.L.LineSync.view c.args.port.now in
    let board = found_board _ _ v (g.met.L.LineSync.sound c.args.line.now c.args.port.now c.requires.belongs) in
    let seen : c.bytes.result.now.bytes ≡ bytes_of v = ap (λ l. l.bytes) c.bytes.ensures.bytes ∙ c.requires.granted.bytes in
    record {
      before = board.0;
      after = board.0 ++ c.args.task ∷ [];
      found = board.1;
      left = c.in-Some.ensures board.0 (subst (λ (b : List ℕ). Stand b board.0) (sym seen) board.1);
      step = inr (inl (c.args.task, refl));
    }

pub returns-in-Some-clause-stored : goal.returns-in-Some-clause-stored
returns-in-Some-clause-stored g c = λ _.
    let v = g.L.LineSync.view c.args.port.now in
    let board = found_board _ _ v (g.met.L.LineSync.sound c.args.line.now c.args.port.now c.requires.belongs) in
    let seen : c.bytes.result.now.bytes ≡ bytes_of v = ap (λ l. l.bytes) c.bytes.ensures.bytes ∙ c.requires.granted.bytes in
    has_put board.0 c.args.task (g.L.LineSync.view c.replace.new.port)
    (c.replace.ensures.turn board.0 (board.0 ++ c.args.task ∷ []) board.1 (c.in-Some.ensures board.0 (subst (λ (b : List ℕ). Stand b board.0) (sym seen) board.1)))

pub returns-in-None-clause-full : goal.returns-in-None-clause-full
returns-in-None-clause-full g c = λ _.
    let v = g.L.LineSync.view c.args.port.now in
    let board = found_board _ _ v (g.met.L.LineSync.sound c.args.line.now c.args.port.now c.requires.belongs) in
    let seen : c.bytes.result.now.bytes ≡ bytes_of v = ap (λ l. l.bytes) c.bytes.ensures.bytes ∙ c.requires.granted.bytes in
    let full : length board.0 ≡ 7 = c.in-None.ensures board.0 (subst (λ (b : List ℕ). Stand b board.0) (sym seen) board.1) in
    subst (λ (n : ℕ). HasFound n (g.L.LineSync.view c.keep.new.port)) full (c.keep.ensures.found board.0 board.1)
