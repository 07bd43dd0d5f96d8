-- Lemmas about what an action of one node leaves unchanged for the other nodes.
use Rattle.qolb_model.specs.declared.config.LineConfig.{LineConfig}
use Rattle.std.proofs.Common.{◌≡◌, ◌≢◌, ℕ, ◌-◌, ◌<◌, ◌≤◌, Bool, true, false, List, [], ◌∷◌, length, Option, Some, None, slice_get, refl, sym, ◌∙◌, ap, subst, inl, inr, arith}
use mathlib.Core.List.{IsPrefix}
use Rattle.std.proofs.lemmas.Option.{slice_get_within}
use Rattle.std.proofs.Math.Seq.{get_or-set_other}
use Rattle.link_core.specs.declared.point.Point.TheVariants.{Linking, Queued}
use Rattle.link_core.specs.declared.place.Place.TheVariants.{Home, Mailbox, Hand}
use Rattle.link_core.specs.declared.told.Told.{Told as Answer}
use Rattle.link_core.specs.declared.event.Event.{Event}
use Rattle.link_core.specs.Places.{requester_at, IsLast}
use Rattle.qolb_model.specs.EndKinds.{is_gone}
use Rattle.qolb_model.specs.Queue.{Queue, Move, ask, mark, finish}
use Rattle.qolb_model.specs.Requests.{has, count_of, next_of}
use Rattle.qolb_model.specs.declared.end.End.{End}
use Rattle.qolb_model.specs.declared.request.Request.{Request}
use Rattle.qolb_model.proofs.Clearing.{clears_begin}
use Rattle.qolb_model.proofs.Follows.{has_push_other}
use Rattle.qolb_model.proofs.Lists.{push_cases}
use Rattle.qolb_model.proofs.Prefixes.{prefix_self, prefix_append}
use Rattle.qolb_model.proofs.Requests.{count_of-push_other}
use Rattle.link_core.specs.State.{State, IsWide, unused, entry, seat, point, IsNode}
use Rattle.qolb_model.specs.Leases.{turns_left}
use Rattle.link_core.specs.Steps.{Step, node_of, closed_by}
use Rattle.link_core.specs.Steps as row
use Rattle.link_core.specs.Shown.{has_line, Lies, at_home, in_hand, granted, left, Matches}
use Rattle.link_core.specs.Moves.{made, move_of}
use Rattle.link_core.specs.Others.{Spared}
use Rattle.link_core.proofs.Deeds.{Advances}
use Rattle.link_core.proofs.Orders.{last_kept, last_back, request_got}
use Rattle.link_core.proofs.Follows.{sits_at, in_its_hand, left_for, granted_for, granted_turn, done_turn}
use Rattle.link_core.proofs.Ending.{facts}
use Rattle.link_core.proofs.Made.{IsMoveOf, step_of}
use Rattle.link_core.proofs.Sound.{step_sizes}

module _ {config : LineConfig} {c : State} {h : Queue} (s : Matches config c h) where
  pub one_hand : (m n : ℕ) → IsNode c m → IsNode c n → has_line (point c m) ≡ true → has_line (point c n) ≡ true → m ≡ n
  one_hand m n a b e f = let k : Hand m ≡ Hand n = sym (in_its_hand s m a e) ∙ in_its_hand s n b f in cc

  pub no_box : (m q : ℕ) → c.place ≡ Mailbox q → IsNode c m → has_line (point c m) ≡ true → ⊥
  no_box m q e a f = let k : Mailbox q ≡ Hand m = sym e ∙ in_its_hand s m a f in cc

  -- home names some node while the line is in a hand
  pub home_busy : (m : ℕ) → IsNode c m → has_line (point c m) ≡ true → c.home ≢ 0
  home_busy m a f e =
      let k = (facts s a f).0 in
      let p : ℕ = length h.order - 1 in
      let l : p < length h.order = omega arith in
      let j = s.home_last p (omega arith) (omega arith) in
      let i = (s.nodes p l).0 in
      omega arith

  pub linked_box : (n p : ℕ) → IsNode c n → point c n ≡ Linking p → (entry c p).done ≡ true → c.place ≡ Mailbox p
  linked_box n p a at dn =
      let b = sits_at s n (Linking p) a at in
      let t = done_turn s n p a at dn b in
      let k = b.own.known in
      (left_for s n p s.lies (omega arith) (ap (requester_at h.order) t ∙ b.own.its) at).0

  pub granted_box : (n : ℕ) → IsNode c n → point c n ≡ Queued → (entry c n).granted ≡ true → c.place ≡ Mailbox n
  granted_box n a at gr = let t = granted_turn s n a at gr in (granted_for s n s.lies t.known t.its at).0

  -- if home names no node the line is at home
  pub idle_home : c.home ≡ 0 → c.place ≡ Home
  idle_home e = go s.lies
    where
      busy : length h.ends < length h.order → ⊥
      busy k =
          let p : ℕ = length h.order - 1 in
          let l : p < length h.order = omega arith in
          let j = s.home_last p (omega arith) (omega arith) in
          let i = (s.nodes p l).0 in
          omega arith

      go : Lies config c h.order h.ends → c.place ≡ Home
      go (at_home a b w) = b
      go (in_hand m a b i f g y) = absurd (busy a)
      go (granted t a b i f g y) = absurd (busy a)
      go (left t q a b i f g j k y) = absurd (busy a)

  seats_kept : {e : Event} {t : Answer} {d : State} (k : Step c e t d) (m : ℕ) → m ≢ node_of e → seat d m ≡ seat c m
  seats_kept (row.load_waiting n a at un) m other = refl
  seats_kept (row.load_busy n a at un) m other = refl
  seats_kept (row.write n mask bytes a at) m other = refl
  seats_kept (row.home_last n a at l e) m other = get_or-set_other (closed_by n c).seats _ m _ unused other ∙ get_or-set_other c.seats _ m _ unused other
  seats_kept (row.home_last_failed n a at l ne) m other = get_or-set_other (closed_by n c).seats _ m _ unused other ∙ get_or-set_other c.seats _ m _ unused other
  seats_kept _ m other = get_or-set_other c.seats _ m _ unused other

  -- the line is changed only by arrivals and by the node that has it
  line_kept : {e : Event} {t : Answer} {d : State} (k : Step c e t d) (m : ℕ) → m ≢ node_of e → IsNode c m → has_line (point c m) ≡ true → (d.bytes ≡ c.bytes) × (d.closed ≡ c.closed) × (d.mask ≡ c.mask)
  line_kept (row.prepend_first n a at e) m other b f = absurd (home_busy m b f e)
  line_kept (row.link_done n p a at dn) m other b f = absurd (no_box m p (linked_box n p a at dn) b f)
  line_kept (row.load_granted n a at gr) m other b f = absurd (no_box m n (granted_box n a at gr) b f)
  line_kept (row.roll_granted n a at gr) m other b f = absurd (no_box m n (granted_box n a at gr) b f)
  line_kept (row.home_last n a at l e) m other b f = absurd (other (one_hand m n b a f (ap has_line at)))
  line_kept (row.home_last_failed n a at l ne) m other b f = absurd (other (one_hand m n b a f (ap has_line at)))
  line_kept (row.write n mask bytes a at) m other b f = absurd (other (one_hand m n b a f (ap has_line at)))
  line_kept (row.close n a at) m other b f = absurd (other (one_hand m n b a f (ap has_line at)))
  line_kept _ m other b f = (refl, refl, refl)

-- what a move of n leaves of the queue
module _ (c : State) (h : Queue) (n : ℕ) where
  ends_kept : (x : Option Move) → IsMoveOf c h n x → ((IsNode c n × (has_line (point c n) ≡ true)) → ⊥) → (made h x).ends ≡ h.ends
  ends_kept None y none = refl
  ends_kept (Some (ask m)) y none = refl
  ends_kept (Some (mark r)) y none = refl
  ends_kept (Some (finish e)) y none = absurd (none (y.0, y.1))

  asks_kept : (x : Option Move) → IsMoveOf c h n x → (m : ℕ) → m ≢ n → count_of m (made h x).order ≡ count_of m h.order
  asks_kept (Some (ask k)) y m ne = count_of-push_other m h.order (next_of k h.order) (λ e. ne (sym e ∙ y))
  asks_kept None y m ne = refl
  asks_kept (Some (mark r)) y m ne = refl
  asks_kept (Some (finish e)) y m ne = refl

  lasts_kept : (x : Option Move) → IsMoveOf c h n x → (m p : ℕ) → m ≢ n → IsLast h.order m p → IsLast (made h x).order m p
  lasts_kept (Some (ask k)) y m p ne l = last_kept h.order (next_of k h.order) m p (λ e. ne (e ∙ y)) l
  lasts_kept None y m p ne l = l
  lasts_kept (Some (mark r)) y m p ne l = l
  lasts_kept (Some (finish e)) y m p ne l = l

  lasts_back : (x : Option Move) → IsMoveOf c h n x → (m p : ℕ) → m ≢ n → IsLast (made h x).order m p → IsLast h.order m p
  lasts_back (Some (ask k)) y m p ne l = last_back h.order (next_of k h.order) m p (λ e. ne (e ∙ y)) l
  lasts_back None y m p ne l = l
  lasts_back (Some (mark r)) y m p ne l = l
  lasts_back (Some (finish e)) y m p ne l = l

  marks_kept : (x : Option Move) → IsMoveOf c h n x → (r : Request) → r.node ≢ n → has (made h x).marked r ≡ has h.marked r
  marks_kept (Some (mark k)) y r ne = has_push_other h.marked k r (λ e. ne (e ∙ y))
  marks_kept None y r ne = refl
  marks_kept (Some (ask k)) y r ne = refl
  marks_kept (Some (finish e)) y r ne = refl

  its_kept : (x : Option Move) → IsMoveOf c h n x → (p : ℕ) (r : Request) (e : End) → length h.ends ≤ p → slice_get (made h x).order p ≡ Some r → slice_get (made h x).ends p ≡ Some e → is_gone e ≡ false → r.node ≡ n
  its_kept (Some (finish x)) y p r e a at was ng = elim (push_cases h.ends x p e was) [
    | inl old ↦ let k = old.0 in absurd (omega arith)
    | inr new ↦ ap (λ (z : Request). z.node) (sym (request_got h.order p r at)) ∙ ap (requester_at h.order) new.0 ∙ y.2 (ap is_gone (sym new.1) ∙ ng)
  ]
  its_kept None y p r e a at was ng = let k = slice_get_within h.ends p e was in absurd (omega arith)
  its_kept (Some (ask m)) y p r e a at was ng = let k = slice_get_within h.ends p e was in absurd (omega arith)
  its_kept (Some (mark m)) y p r e a at was ng = let k = slice_get_within h.ends p e was in absurd (omega arith)

order_begins : (h : Queue) (x : Option Move) → IsPrefix h.order (made h x).order
order_begins h (Some (ask n)) = prefix_append h.order (next_of n h.order ∷ [])
order_begins h None = prefix_self h.order
order_begins h (Some (mark r)) = prefix_self h.order
order_begins h (Some (finish e)) = prefix_self h.order

ends_begin : (h : Queue) (x : Option Move) → IsPrefix h.ends (made h x).ends
ends_begin h (Some (finish e)) = prefix_append h.ends (e ∷ [])
ends_begin h None = prefix_self h.ends
ends_begin h (Some (ask n)) = prefix_self h.ends
ends_begin h (Some (mark r)) = prefix_self h.ends

pub spared : (config : LineConfig) (c : State) (h : Queue) (w : IsWide c) (s : Matches config c h) {e : Event} {t : Answer} {d : State} (k : Step c e t d) (b : Bool) (on : Advances config d h (node_of e) t (move_of k h.order) b) → Spared c d h on.after (node_of e)
spared config c h w s {e} {t} {d} k b on =
    let n : ℕ = node_of e in
    let x : Option Move = move_of k h.order in
    let y : IsMoveOf c h n x = step_of w s k in
    let order : on.after.order ≡ (made h x).order = ap (λ (q : Queue). q.order) on.makes in
    let ends : on.after.ends ≡ (made h x).ends = ap (λ (q : Queue). q.ends) on.makes in
    record {
      nodes = (step_sizes c k).0;
      seats = seats_kept s k;
      line = λ m other i f.
          let z = line_kept s k m other i f in
          let same = ends ∙ ends_kept c h n x y (λ g. other (one_hand s m n i g.0 f g.1)) in
          (z.0, z.1, z.2, on.shows.turns ∙ ap (turns_left config.lease) same ∙ sym s.turns, same);
      asks = λ m ne. ap (count_of m) order ∙ asks_kept c h n x y m ne;
      last = λ m p ne l. subst (λ (o : List Request). IsLast o m p) (sym order) (lasts_kept c h n x y m p ne l);
      back = λ m p ne l. lasts_back c h n x y m p ne (subst (λ (o : List Request). IsLast o m p) order l);
      marks = λ r ne. ap (λ (q : Queue). has q.marked r) on.makes ∙ marks_kept c h n x y r ne;
      its = λ p r z a at was ng. its_kept c h n x y p r z a (ap (λ (o : List Request). slice_get o p) (sym order) ∙ at) (ap (λ (es : List End). slice_get es p) (sym ends) ∙ was) ng;
      order = subst (λ (o : List Request). IsPrefix h.order o) (sym order) (order_begins h x);
      ends = subst (λ (es : List End). IsPrefix h.ends es) (sym ends) (ends_begin h x);
      clear = clears_begin on.clears;
    }
