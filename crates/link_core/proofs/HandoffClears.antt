-- Proof that when a node takes the line, the request that ended last is clear, unless that request was withdrawn. (The
-- node of a clear request may make another request.)
use Rattle.qolb_model.specs.declared.config.LineConfig.{LineConfig}
use Rattle.std.proofs.Common.{◌≡◌, ◌≢◌, ℕ, ◌+◌, ◌<◌, Bool, true, not, List, length, Option, slice_get, refl, sym, ◌∙◌, ap, subst, inl, inr, arith}
use Rattle.std.proofs.lemmas.Bool.{ne_eqb}
use Rattle.qolb_model.specs.Queue.{Queue, Move}
use Rattle.qolb_model.specs.Requests.{Has, has}
use Rattle.qolb_model.specs.declared.end.End.{End}
use Rattle.qolb_model.specs.declared.request.Request.{Request}
use Rattle.qolb_model.proofs.Clearing.{clears_begin}
use Rattle.link_core.specs.declared.point.Point.TheVariants.{Linking, Queued, Left}
use Rattle.link_core.specs.declared.place.Place.TheVariants.{Home, Mailbox, Hand}
use Rattle.link_core.specs.declared.told.Told.{Told as Answer}
use Rattle.link_core.specs.declared.event.Event.{Event}
use Rattle.link_core.specs.Places.{request, IsLast}
use Rattle.link_core.specs.State.{State, IsWide, no_mask, entry, point, IsNode, put_entry, put_seat}
use Rattle.link_core.specs.Steps.{Step, node_of, seat_at_arrival}
use Rattle.link_core.proofs.Link.{linked}
use mathlib.Core.List.{IsPrefix}
use Rattle.qolb_model.proofs.Prefixes.{prefix_self}
use Rattle.qolb_model.proofs.Bounds.{prefix_get_back}
use Rattle.link_core.specs.Steps as row
use Rattle.link_core.specs.Shown.{HasLeft, Matches}
use Rattle.link_core.specs.Moves.{move_of}
use Rattle.link_core.specs.Promise.{IsClearBefore}
use Rattle.link_core.proofs.Changes.{moved_both, point_other, at_other}
use Rattle.link_core.proofs.Deeds.{Advances}
use Rattle.link_core.proofs.Follows.{sits_at, done_turn}
use Rattle.link_core.proofs.Kept.{has_more}
use Rattle.link_core.proofs.Orders.{request_got}
use Rattle.link_core.proofs.Others.{linked_box, granted_box, idle_home, spared}

module _ {config : LineConfig} {c : State} {h : Queue} (w : IsWide c) (s : Matches config c h) where
  -- the request was clear, or its node has left the line for this one
  clear_by : {d : State} {n : ℕ} {t : Answer} {m : Option Move} {b : Bool} (on : Advances config d h n t m b) → IsPrefix h.order on.after.order → on.after.ends ≡ h.ends → ((x : ℕ) → c.place ≢ Hand x)
      → ((x : ℕ) → HasLeft c x → c.place ≡ Mailbox x → (p : ℕ) → p + 1 ≡ length h.ends → Has on.after.clear (request h.order p)) → IsClearBefore on.after
  clear_by on order ends nowhere left p r e at is was ng =
      let l : p + 1 ≡ length h.ends = at ∙ ap (λ (es : List End). length es) ends in
      let b : p < length h.order = let z = s.known in omega arith in
      let got = prefix_get_back h.order on.after.order p r order b is in
      let k : request h.order p ≡ r = request_got h.order p r got in
      elim (s.settled.rests nowhere p r e l got (ap (λ (es : List End). slice_get es p) (sym ends) ∙ was) ng) [
        | inl y ↦ has_more h.clear on.after.clear r (clears_begin on.clears) y
        | inr y ↦
            let i : IsNode c r.node = subst (λ (x : Request). IsNode c x.node) k (s.nodes p b) in
            subst (λ (x : Request). Has on.after.clear x) k (left r.node y (s.settled.boxed r.node i y.done y.unlinked) p l)
      ]

  -- no node has left the line for a waiting node, nor if the line is at home
  granted_by : {d : State} {n : ℕ} {t : Answer} {m : Option Move} {b : Bool} (on : Advances config d h n t m b) → IsPrefix h.order on.after.order → on.after.ends ≡ h.ends → ((x : ℕ) → c.place ≢ Hand x)
      → IsNode c n → point c n ≡ Queued → (entry c n).granted ≡ true → IsClearBefore on.after
  granted_by {n = n} on order ends nowhere a at gr = clear_by on order ends nowhere (λ x y box p l.
      let z : Mailbox n ≡ Mailbox x = sym (granted_box s n a at gr) ∙ box in
      let same : n ≡ x = cc in
      let v : Queued ≡ Left = sym at ∙ ap (point c) same ∙ y.point in cc)

  -- a node that links finds the line left, and by its link the entry becomes clear
  linked_by : (d : State) (n p : ℕ) {t : Answer} {m : Option Move} {b : Bool} (on : Advances config d h n t m b) → on.after.order ≡ h.order → on.after.ends ≡ h.ends → ((x : ℕ) → c.place ≢ Hand x)
      → (a : IsNode c n) → point c n ≡ Linking p → (entry c p).done ≡ true → d ≡ put_seat n (seat_at_arrival n c.closed) (put_entry p (linked (entry c p) n) (record c { place = Hand n; mask = no_mask })) → IsClearBefore on.after
  linked_by d n p on order ends nowhere a at dn e = clear_by on (subst (λ (o : List Request). IsPrefix h.order o) (sym order) (prefix_self h.order)) ends nowhere (λ x y box q l.
      let z : Mailbox p ≡ Mailbox x = sym (linked_box s n p a at dn) ∙ box in
      let same : p ≡ x = cc in
      let behind = sits_at s n (Linking p) a at in
      let here : q ≡ behind.at = let t = done_turn s n p a at dn behind in omega arith in
      let ch = moved_both c c.home (Hand n) c.closed no_mask c.left n (seat_at_arrival n c.closed) p (linked (entry c p) n) w a behind.node in
      let stays = point_other ch p (at_other ch p (Linking p) Left at (ap (point c) same ∙ y.point) (λ e. cc)) ∙ ap (point c) same ∙ y.point in
      let last : IsLast on.after.order p q = subst (λ (o : List Request). IsLast o p q) (sym order) (subst (λ (r : ℕ). IsLast h.order p r) (sym here) behind.before) in
      let node : IsNode d p = rw e behind.node in
      ap (λ (o : List Request). has on.after.clear (request o q)) (sym order) ∙ on.shows.clears p q node last ∙ rw e (rw (stays, ch.entry_own) (ap not (ne_eqb n 0 (λ f. let k = a.0 in omega arith)))))

  pub step_comes : {e : Event} {t : Answer} {d : State} (k : Step c e t d) (b : Bool) (on : Advances config d h (node_of e) t (move_of k h.order) b) → (n : ℕ) → d.place ≡ Hand n → ((m : ℕ) → c.place ≢ Hand m) → IsClearBefore on.after
  step_comes (row.prepend_first n a at e) b on m f nowhere = clear_by on (spared config c h w s (row.prepend_first n a at e) b on).order (ap (λ (q : Queue). q.ends) on.makes) nowhere (λ x y box p l. let z : Home ≡ Mailbox x = sym (idle_home s e) ∙ box in cc)
  step_comes (row.link_done n p a at dn) b on m f nowhere = linked_by _ n p on (ap (λ (q : Queue). q.order) on.makes) (ap (λ (q : Queue). q.ends) on.makes) nowhere a at dn refl
  step_comes (row.load_granted n a at gr) b on m f nowhere = granted_by on (spared config c h w s (row.load_granted n a at gr) b on).order (ap (λ (q : Queue). q.ends) on.makes) nowhere a at gr
  step_comes (row.roll_granted n a at gr) b on m f nowhere = granted_by on (spared config c h w s (row.roll_granted n a at gr) b on).order (ap (λ (q : Queue). q.ends) on.makes) nowhere a at gr
  step_comes (row.home n x a r f) b on m e nowhere = let z : Home ≡ Hand m = e in cc
  step_comes (row.home_last n a at l f) b on m e nowhere = let z : Home ≡ Hand m = e in cc
  step_comes (row.done_left n x a at un f) b on m e nowhere = let z : Mailbox x ≡ Hand m = e in cc
  step_comes (row.done_rolled n x a at un ne) b on m e nowhere = let z : Mailbox x ≡ Hand m = e in cc
  step_comes (row.grant n x a at un) b on m e nowhere = let z : Mailbox x ≡ Hand m = e in cc
  step_comes _ b on m e nowhere = absurd (nowhere m e)
