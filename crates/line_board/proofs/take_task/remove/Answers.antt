use Rattle.std.proofs.Common.{◌≡◌, [], ℕ, List, length, inr, ap, sym, ◌∙◌, subst}
use Rattle.qolb_model.specs.Views.{bytes_of}
use Rattle.line_board.specs.Board.{Stand}
use Rattle.line_board.specs.Calls.{HasFound}
use Rattle.line_board.proofs.Turns.{found_board, has_taken}
use Rattle.line_board.proofs.take_task.remove.Goals as goal

pub replace-requires-clause-changes : goal.replace-requires-clause-changes
replace-requires-clause-changes g c =
    let v = g.L.LineSync.view c.args.port.now in
    let board = found_board _ _ v (g.met.L.LineSync.sound c.args.line.now c.args.port.now c.requires.belongs) in
    let seen : c.bytes.result.now.bytes ≡ bytes_of v = ap (λ l. l.bytes) c.bytes.ensures.bytes ∙ c.requires.granted.bytes in
    let rest = c.in-Some.ensures board.0 (subst (λ (b : List ℕ). Stand b board.0) (sym seen) board.1) in
    record {
      before = board.0;
      after = rest.0;
      found = board.1;
      left = rest.2;
      step = inr (inr (_, rest.1));
    }

pub returns-in-Some-clause-taken : goal.returns-in-Some-clause-taken
returns-in-Some-clause-taken g c =
    let v = g.L.LineSync.view c.args.port.now in
    let board = found_board _ _ v (g.met.L.LineSync.sound c.args.line.now c.args.port.now c.requires.belongs) in
    let seen : c.bytes.result.now.bytes ≡ bytes_of v = ap (λ l. l.bytes) c.bytes.ensures.bytes ∙ c.requires.granted.bytes in
    let rest = c.in-Some.ensures board.0 (subst (λ (b : List ℕ). Stand b board.0) (sym seen) board.1) in
    has_taken _ rest.0 (g.L.LineSync.view c.replace.new.port)
    (c.replace.ensures.turn _ rest.0 (subst (Stand (bytes_of v)) rest.1 board.1) rest.2)

pub returns-in-None-clause-taken : goal.returns-in-None-clause-taken
returns-in-None-clause-taken g c =
    let v = g.L.LineSync.view c.args.port.now in
    let board = found_board _ _ v (g.met.L.LineSync.sound c.args.line.now c.args.port.now c.requires.belongs) in
    let seen : c.bytes.result.now.bytes ≡ bytes_of v = ap (λ l. l.bytes) c.bytes.ensures.bytes ∙ c.requires.granted.bytes in
    let none : board.0 ≡ [] = c.in-None.ensures board.0 (subst (λ (b : List ℕ). Stand b board.0) (sym seen) board.1) in
    subst (λ (n : ℕ). HasFound n (g.L.LineSync.view c.keep.new.port)) (ap length none) (c.keep.ensures.found board.0 board.1)
