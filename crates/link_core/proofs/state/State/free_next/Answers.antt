use Rattle.std.proofs.Common.{◌≡◌, ℕ, ◌<◌, List, ◌∷◌, length, sym, ◌∙◌, ap, arith, subst}
use Rattle.std.specs.Prelude.{slice_index_or}
use Rattle.link_core.specs.declared.state.TheConstants.{PLACES}
use Rattle.link_core.specs.State.{State, IsNode, seat}
use Rattle.link_core.specs.Steps as row
use Rattle.link_core.proofs.state.State.free_next.Goals as goal

first_node : (c : State) (n x : ℕ) (rest : List ℕ) → row.Fits c → IsNode c n → (seat c n).passed ≡ x ∷ rest → x < PLACES
first_node c n x rest f a e =
    let k = f.passed n 0 a (subst (λ (ps : List ℕ). 0 < length ps) (sym e) (omega arith)) in
    let y : slice_index_or (seat c n).passed 0 0 ≡ x = ap (λ (ps : List ℕ). slice_index_or ps 0 0) e in
    let i = f.nodes in
    omega arith

pub entry-word-requires : goal.entry-word-requires
entry-word-requires c = first_node c.args.self.now c.args.n _ c.next_freed-x.ensures.0 c.requires.fits c.requires.node c.next_freed-x.ensures.1

pub put_entry-requires : goal.put_entry-requires
put_entry-requires c = first_node c.args.self.now c.args.n _ c.next_freed-x.ensures.0 c.requires.fits c.requires.node c.next_freed-x.ensures.1

pub returns-in-Freeing-clause-step : goal.returns-in-Freeing-clause-step
returns-in-Freeing-clause-step c =
    rw (c.put_entry.ensures, c.entry-word.ensures, c.next_freed-x.ensures.2, c.next_freed-x.ensures.3)
    (row.freed c.args.n c.next_freed-x.result.0 c.next_freed-x.ensures.0 c.requires.node (sym c.point.ensures ∙ c.in-Freeing.is) c.next_freed-x.ensures.1)
