-- Lemmas about a complete release, from its first step to its last.
use Rattle.std.proofs.Common.{◌≡◌, suc, ◌+◌, Bool, length, [], ◌∷◌, ◌++◌, sym, refl, ap, ◌∙◌, subst, Some, arith, replicate, append_assoc, length-append}
use Rattle.qolb_model.specs.declared.end.End.TheVariants.{Gone}
use Rattle.qolb_model.specs.Ends.{is_closed}
use Rattle.qolb_model.specs.PortStates.{state_after}
use Rattle.qolb_model.specs.Views.{own, Extends}
use Rattle.qolb_model.specs.Releasing.{AfterRelease}
use Rattle.qolb_model.specs.Requests.{AreOfDifferentNodes}
use Rattle.qolb_model.proofs.Prefixes.{prefix_get}
use Rattle.qolb_model.proofs.Going.{same_own}
use Rattle.qolb_model.proofs.Once.{once_behind}
use Rattle.line_generic.specs.declared.table.Payload.{Payload}
use Rattle.line_generic.specs.Steps.{own_end}
use Rattle.line_cells.specs.Array.{ArrayGhost}
use Rattle.line_cells.specs.Steps.{end_of, next_end, Ended}
use Rattle.line_cells.specs.Releases.{ReleasesLine, FinishesWalk}

-- a node that has passed no request ends its own next
ends_own : (w : ArrayGhost) (y : Payload) (closed : Bool) → w.own.passed ≡ [] → is_closed w.view.ends ≡ closed → next_end w y ≡ own_end closed y
ends_own w y closed none is = (λ i. end_of (none i) (is i) y)

-- a release that walked on is a whole release
pub lets_on : (v u t : ArrayGhost) (y : Payload) → v.own.passed ≡ [] → Ended v u y → Extends u.view t.view → FinishesWalk u t → ReleasesLine v y t
lets_on v u t y none e more w =
    let ended : u.view.ends ≡ v.view.ends ++ own_end (is_closed v.view.ends) y ∷ [] = e.ends ∙ ap (λ x. v.view.ends ++ x ∷ []) (ends_own v y (is_closed v.view.ends) none refl) in
    let from : length u.view.ends ≡ length v.view.ends + 1 = omega (arith, ap length ended, length-append v.view.ends (own_end (is_closed v.view.ends) y ∷ [])) in
    let mine = prefix_get u.view.order t.view.order (length v.view.ends) (own u.view) more.order (e.own_turn none) ∙ ap Some (sym (same_own u.view t.view more w.count)) in
    record {
      point = w.point;
      state = w.state ∙ e.state;
      ends_turn = record {
        passed = suc w.passed;
        ends = w.ends ∙ (ap (λ es. es ++ replicate (suc w.passed) Gone) ended ∙ append_assoc v.view.ends (own_end (is_closed v.view.ends) y ∷ []) (replicate (suc w.passed) Gone));
        at_turn = mine;
        count = w.count ∙ e.count;
        once = once_behind t.view.order (length v.view.ends) (length t.view.ends) (own t.view) mine
            (λ p r low high at same. w.others p r (omega (arith, from, low)) high at (same ∙ more.node))
            (subst (λ n. AreOfDifferentNodes t.view.order n (length t.view.ends)) from w.once);
        releases = subst (λ n. AfterRelease n (state_after y.closed) t.view) from (subst (λ leaves. AfterRelease (length u.view.ends) leaves t.view) e.state w.releases);
      };
    }
