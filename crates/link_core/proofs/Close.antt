-- Proof about the step with which a release gives up the line. After this step, the node's call ends unless the node
-- must still free the nodes that it skipped.
use Rattle.qolb_model.specs.declared.config.LineConfig.{LineConfig}
use Rattle.std.proofs.Common.{◌≡◌, ◌≢◌, ℕ, true, false, ◌||◌, List, [], ◌∷◌, ◌⊎◌, Option, Some, refl, sym, ◌∙◌, ap, subst, inl}
use Rattle.link_core.specs.declared.point.Point.{Point}
use Rattle.link_core.specs.declared.point.Point.TheVariants.{Rolled}
use Rattle.link_core.specs.declared.seat.ReleaseCause.{ReleaseCause}
use Rattle.link_core.specs.declared.seat.ReleaseCause.TheVariants.{Own, Closing, Refused}
use Rattle.link_core.specs.declared.place.Place.{Place}
use Rattle.link_core.specs.declared.entry.Entry.{Entry}
use Rattle.qolb_model.specs.Queue.{Queue, finish}
use Rattle.link_core.specs.Moves.{end_of}
use Rattle.qolb_model.specs.declared.end.End.{End}
use Rattle.link_core.specs.State.{State, NodeCall, entry, seat, point, IsNode, is_clear}
use Rattle.link_core.specs.Shown.{has_line, is_freeing, EndedBy, HasEnded, Lies, Sits, HasLeft, Matches}
use Rattle.link_core.specs.Steps.{seat_with, seat_at_close, told_with, told_at_end}
use Rattle.link_core.proofs.Deeds.{Advances}
use Rattle.link_core.specs.Promise.{Says}
use Rattle.link_core.proofs.Orders.{has_ended}
use Rattle.link_core.proofs.Changes.{Changed, field, passed_same, passes_kept, once_kept}
use Rattle.link_core.proofs.Ending.{fs, ended, gone}
use Rattle.link_core.proofs.Over.{IsOver, after_end, end_clears, end_shows}

pub close_passed : (ps : List ℕ) (p : Point) (r : ReleaseCause) → (seat_with ps p r).passed ≡ ps
close_passed [] p r = refl
close_passed (m ∷ ms) p r = refl

pub close_reason : (ps : List ℕ) (p : Point) (r : ReleaseCause) → (seat_with ps p r).reason ≡ r
close_reason [] p r = refl
close_reason (m ∷ ms) p r = refl

pub close_unpassed : (ps : List ℕ) (p : Point) (r : ReleaseCause) → has_line (seat_with ps p r).point || is_freeing (seat_with ps p r).point ≡ false → (seat_with ps p r).passed ≡ []
close_unpassed [] p r e = refl
close_unpassed (m ∷ ms) p r e = cc

end_says : (h : Queue) (n : ℕ) (r : ReleaseCause) → EndedBy h.order h.ends n r → Says h n (told_at_end r)
end_says h n Own e = e
end_says h n Closing e = e
end_says h n Refused e = e

pub close_says : (h : Queue) (n : ℕ) (ps : List ℕ) (r : ReleaseCause) → EndedBy h.order h.ends n r → Says h n (told_with ps r)
close_says h n [] r e = end_says h n r e
close_says h n (m ∷ ms) r e = tt

module _ {config : LineConfig} {c : State} {h : Queue} {n : ℕ} (s : Matches config c h) (is : IsNode c n) (lined : has_line (point c n) ≡ true)
    {hm : ℕ} {pl : Place} {lf : Option ℕ} {ents : List Entry} {sts : List NodeCall} (pt : Point) {k : ℕ} {w : Entry}
    (ch : Changed c (record c { home = hm; place = pl; left = lf; entries = ents; seats = sts }) n (seat_at_close pt (seat c n)) k w) (q : IsOver c h n hm pl lf k w) where
  abbrev d : State
  d = record c { home = hm; place = pl; left = lf; entries = ents; seats = sts }

  abbrev es : List End
  es = fs s is lined

  same : (seat_at_close pt (seat c n)).passed ≡ (seat c n).passed
  same = close_passed (seat c n).passed pt (seat c n).reason

  not_passed : (x : ℕ) → point c x ≡ Rolled → x ≢ n
  not_passed x at e = let z : has_line Rolled ≡ true = ap has_line (sym at ∙ ap (point c) e) ∙ lined in cc

  pub close_keeps : Lies config d h.order es → (HasEnded h.order es n → (seat c n).passed ≡ [] → Sits d h.order es n pt)
      → ((seat c n).passed ≡ [] → (is_clear (point d n) (entry d n) ≡ true) ⊎ HasLeft d n)
      → Advances config d h n (told_with (seat c n).passed (seat c n).reason) (Some (finish (end_of c n))) true
  close_keeps lies rests rest = record {
    after = after_end s is lined ch q;
    makes = refl;
    clears = end_clears s is lined ch q;
    uncleared = λ e. cc;
    shows = end_shows s is lined ch q lies (own (seat c n).passed refl)
        (passes_kept ch same h.order h.order h.ends es (λ x p at kept l. (not_passed x at, field ch (λ w. w.freed) q.freed x, l)) (λ m i p l e. inl (gone s is lined m i p l e)) s.passes)
        (once_kept ch same s.once) (close_unpassed (seat c n).passed pt (seat c n).reason) (λ _. rest);
    says = close_says _ n (seat c n).passed (seat c n).reason (ended s is lined);
  }
    where
      own : (ps : List ℕ) → (seat c n).passed ≡ ps → Sits d h.order es n (seat_with ps pt (seat c n).reason).point
      own [] e = rests (has_ended (ended s is lined)) e
      own (m ∷ ms) e = (
        subst (λ (r : ReleaseCause). EndedBy h.order es n r) (sym (ap (λ (s : NodeCall). s.reason) ch.seat_own ∙ close_reason (seat c n).passed pt (seat c n).reason)) (ended s is lined),
        λ f. let z : m ∷ ms ≡ [] = sym e ∙ sym (passed_same ch same n) ∙ f in cc,
      )
