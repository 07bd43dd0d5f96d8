-- Proof about a call of one port while all other ports know the line's whole history. The call gives the answer that a
-- single owner of the line would get. After the call, the port knows the state that the owner's call would lead to.
use Rattle.std.proofs.Common.{◌≡◌, ◌≢◌, ℕ, ◌≤◌, ◌==◌, ◌⊎◌, inl, inr, Bool, true, false, ◌&&◌, ◌||◌, if◌then◌else◌, List, [], ◌∷◌, ◌++◌, length, Some, slice_get, refl, ap, sym, ◌∙◌, subst, arith}
use Rattle.std.specs.Option.{option_map_or}
use Rattle.std.proofs.Math.Bool.{or-false}
use Rattle.std.proofs.lemmas.Bool.{cases_eq, ne_eqb, or_cases, false_from_ne_true}
use Rattle.std.proofs.lemmas.List.Folds.{list_any-append}
use Rattle.std.proofs.lemmas.List.{take-append-drop}
use Rattle.std.proofs.lemmas.Option.{slice_get_within}
use mathlib.Core.List.{IsPrefix}
use Rattle.qolb_model.specs.declared.answer.PortState.{PortState}
use Rattle.qolb_model.specs.declared.answer.PortState.TheVariants as port
use Rattle.qolb_model.specs.declared.request.Request.{Request}
use Rattle.qolb_model.specs.declared.write.Write.{Write}
use Rattle.qolb_model.specs.declared.view.View.{View}
use Rattle.qolb_model.specs.Requests.{is_same, Has, has, count_of, last_of}
use Rattle.qolb_model.specs.Ends.{is_closed, bytes_after}
use Rattle.qolb_model.specs.Histories.{turn_of, ended_of, open_of}
use Rattle.qolb_model.specs.Views.{own}
use Rattle.qolb_model.specs.Enqueueing.{IsBusy}
use Rattle.qolb_model.specs.AtTurn.{Waits, IsGranted, IsQueued, IsWithdrawn}
use Rattle.qolb_model.specs.OneOwner.{OwnerState, new_turn, is_first, is_open, is_rolled, state_of, after_moves, after_grant, mark_last}
use Rattle.qolb_model.specs.Plain.{IsReached}
use Rattle.qolb_model.specs.PortStates.{may_ask}
use Rattle.qolb_model.specs.Whole.{KnowsWhole, seen}
use Rattle.qolb_model.proofs.Lists.{never, same_test, element_at}
use Rattle.qolb_model.proofs.Requests.{same_request, is_same-true, is_same-self, has_last, has_last_of_all}
use Rattle.qolb_model.proofs.Histories.{same_place_legal}
use Rattle.qolb_model.proofs.Prefixes.{prefix_length, prefix_whole}
use Rattle.qolb_model.proofs.Agreed.{state_from, asking_parts}
use Rattle.qolb_model.proofs.Bounds.{Bounds, count_at, open_at, place_open}

-- one more mark does not mark a request of another node
pub has_push_other : (xs : List Request) (x r : Request) → r.node ≢ x.node → has (xs ++ x ∷ []) r ≡ has xs r
has_push_other xs x r ne =
    list_any-append (is_same r) xs (x ∷ []) ∙ (ap (λ b. has xs r || ((b && (r.number == x.number)) || false)) (ne_eqb r.node x.node ne) ∙ or-false (has xs r))

-- The port of the node n made a call that added no request which the state does not have. It forgot nothing, and then
-- met all other ports.
pub record Follows (s : OwnerState) (n : ℕ) (a : View) : Type 0 where
  pub node : a.node ≡ n
  pub config : a.config ≡ s.config
  pub order : a.order ≡ s.queue.order
  pub ends : IsPrefix s.queue.ends a.ends
  pub clear : (r : Request) → Has (ended_of s.queue.order s.queue.ends) r → Has a.clear r
  pub joined : (r : Request) → Has s.queue.order r → Has a.joined r
  pub marked : (r : Request) → Has (open_of s.queue.order s.queue.ends) r → Has s.queue.marked r → Has a.marked r
  pub count : a.count ≡ count_of n s.queue.order
  pub others : (m : ℕ) → 1 ≤ m → m ≤ s.config.nodes → m ≢ n → Bounds s a m

-- a node without an open request counts as an idle one
pub quiet_seen : (closed : Bool) → port.Idle ≡ seen (if closed then port.Shut else port.Idle)
quiet_seen true = refl
quiet_seen false = refl

pub seen_holding : (state : PortState) → seen state ≡ port.Holding → state ≡ port.Holding
seen_holding port.Idle e = cc e
seen_holding port.Linking e = cc e
seen_holding port.Queued e = cc e
seen_holding port.Holding e = refl
seen_holding port.Left e = cc e
seen_holding port.Rolled e = cc e
seen_holding port.Shut e = cc e

same_write : (a b : Write) → a.mask.0 ≡ b.mask.0 → a.bytes.bytes ≡ b.bytes.bytes → a ≡ b
same_write a b m e = λ i. record { mask = record { 0 = m i }; bytes = record { bytes = e i } }

-- an open request of a node that may make another one was withdrawn, and waits behind another node's request
pub rolled_behind : (s : OwnerState) (n : ℕ) → IsReached s → is_open s.queue n ≡ true → may_ask (state_of s n) ≡ true → (has s.queue.marked (last_of n s.queue.order) ≡ true)
    × (r : Request) × (turn_of s.queue.order s.queue.ends ≡ Some r) × (r.node ≢ n)
rolled_behind s n reached stands may =
    let marked = asking_parts (is_open s.queue n) (has s.queue.marked (last_of n s.queue.order)) (s.granted && is_first s.queue n) (is_closed s.queue.ends) may stands in
    let (p, le, at) = place_open s.queue.order s.queue.ends (last_of n s.queue.order) stands in
    let within = slice_get_within s.queue.order p (last_of n s.queue.order) at in
    let (r, turn) = element_at s.queue.order (length s.queue.ends) (omega arith) in (
      marked,
      r,
      turn,
      λ e.
          let is : r ≡ last_of n s.queue.order = reached.last_open (length s.queue.ends) r (omega arith) turn ∙ ap (λ m. last_of m s.queue.order) e in
          never (subst (λ x. has s.queue.marked x ≡ true) (sym is) marked) (reached.passed r turn),
    )

module _ (s : OwnerState) (n : ℕ) (a : View) (reached : IsReached s) (f : Follows s n a) where
  pub mine : own a ≡ last_of n s.queue.order
  mine = same_request a.node n a.count (count_of n s.queue.order) f.node f.count

  pub one_place : (p q : ℕ) (r : Request) → slice_get s.queue.order p ≡ Some r → slice_get s.queue.order q ≡ Some r → p ≡ q
  one_place = same_place_legal s.config.lease s.queue.order s.queue.ends reached.legal

  -- an open request of the port's node is its last one
  pub last_mine : (p : ℕ) (r : Request) → length s.queue.ends ≤ p → slice_get s.queue.order p ≡ Some r → r.node ≡ n → r ≡ last_of n s.queue.order
  last_mine p r le at e = reached.last_open p r le at ∙ ap (λ m. last_of m s.queue.order) e

  -- nothing has become of another node's request at its turn
  pub still : (r : Request) → turn_of s.queue.order s.queue.ends ≡ Some r → r.node ≢ n → a.ends ≡ s.queue.ends
  still r turn ne =
      let k = reached.nodes_known (length s.queue.ends) r turn in
      sym (prefix_whole s.queue.ends a.ends f.ends ((f.others r.node k.0 k.1 ne).stuck r turn refl).0)

  pub long : length s.queue.ends ≤ length a.ends
  long = prefix_length s.queue.ends a.ends f.ends

  -- marks of other nodes' open requests
  pub others_marks : (r : Request) → Has (open_of s.queue.order s.queue.ends) r → r.node ≢ n → has a.marked r ≡ has s.queue.marked r
  others_marks r stands ne =
      let (p, le, at) = place_open s.queue.order s.queue.ends r stands in
      let k = reached.nodes_known p r at in
      same_test (has a.marked r) (has s.queue.marked r) ((f.others r.node k.0 k.1 ne).marks r stands refl) (f.marked r stands)

  -- all marks are right if the mark of the port's own request is
  all_marks : (has a.marked (last_of n s.queue.order) ≡ has s.queue.marked (last_of n s.queue.order)) → (r : Request) → Has (open_of s.queue.order s.queue.ends) r → has a.marked r ≡ has s.queue.marked r
  all_marks own_mark r stands = elim (cases_eq r.node n) [
    | inl e ↦ (let (p, le, at) = place_open s.queue.order s.queue.ends r stands in subst (λ x. has a.marked x ≡ has s.queue.marked x) (sym (last_mine p r le at e)) own_mark)
    | inr ne ↦ others_marks r stands ne
  ]

  pub own_at : (p : ℕ) → slice_get a.order p ≡ Some (own a) → slice_get s.queue.order p ≡ Some (last_of n s.queue.order)
  own_at p at = ap (λ xs. slice_get xs p) (sym f.order) ∙ (at ∙ ap Some mine)

  -- the test whether the port's request is at its turn
  pub first_is : (r : Request) → turn_of s.queue.order s.queue.ends ≡ Some r → is_first s.queue n ≡ is_same (last_of n s.queue.order) r
  first_is r turn = ap (λ o. option_map_or (is_same (last_of n s.queue.order)) o false) turn

  -- the request is behind another one, so nothing has ended
  behind : Waits a → (a.ends ≡ s.queue.ends) × (is_first s.queue n ≡ false) × Has (open_of s.queue.order s.queue.ends) (last_of n s.queue.order)
  behind waits =
      let p = waits.0 in
      let lt = waits.1 in
      let at = own_at p waits.2 in
      let le = long in
      let within = slice_get_within s.queue.order p (last_of n s.queue.order) at in
      let (r, turn) = element_at s.queue.order (length s.queue.ends) (omega arith) in
      let ne : r.node ≢ n = λ e. absurd (let is = last_mine (length s.queue.ends) r (omega arith) turn e in
      let same : length s.queue.ends ≡ p = one_place (length s.queue.ends) p r turn (subst (λ x. slice_get s.queue.order p ≡ Some x) (sym is) at) in omega arith) in (
        still r turn ne,
        first_is r turn ∙ false_from_ne_true _ (λ h. ne (sym (ap (λ x. x.node) (is_same-true (last_of n s.queue.order) r h)))),
        open_at s.queue.order s.queue.ends p (last_of n s.queue.order) (omega arith) at,
      )

  pub counted : (p : ℕ) → slice_get s.queue.order p ≡ Some (last_of n s.queue.order) → 1 ≤ a.count
  counted p at = let one = count_at s.queue.order p (last_of n s.queue.order) at in let e = f.count in omega arith

  node_state : (b : Bool) → is_open s.queue n ≡ b → (m : Bool) → has s.queue.marked (last_of n s.queue.order) ≡ m → (h : Bool) → (s.granted && is_first s.queue n) ≡ h → state_of s n ≡ state_from b m h (is_closed s.queue.ends)
  node_state b e m k h g = λ i. state_from (e i) (k i) (g i) (is_closed s.queue.ends)

  -- queued, or waiting
  pub waits_whole : (turn : Write) → IsQueued a → (is_first s.queue n ≡ false) × KnowsWhole s (record { view = a; turn = turn })
  waits_whole turn is =
      let (ends, first, stands) = behind is.waits in
      let (p, le, at) = place_open s.queue.order s.queue.ends (last_of n s.queue.order) stands in
      let lacks : has a.marked (last_of n s.queue.order) ≡ false = ap (has a.marked) (sym mine) ∙ is.unmarked in
      let none : has s.queue.marked (last_of n s.queue.order) ≡ false = false_from_ne_true _ (λ h. never (f.marked (last_of n s.queue.order) stands h) lacks) in (
        first,
        record {
          config = f.config;
          order = f.order;
          ends = ends;
          clear = f.clear;
          joined = f.joined;
          marked = all_marks (lacks ∙ sym none);
          count = f.count ∙ ap (λ m. count_of m s.queue.order) (sym f.node);
          state = ap seen is.state ∙ sym (ap (λ m. seen (state_of s m)) f.node ∙ ap seen (node_state true stands false none false (both_false s.granted first)));
          asked = λ _. counted p at;
          turn = λ h. absurd (let no : port.Queued ≡ port.Holding = sym is.state ∙ h in cc no);
        },
      )
    where
      both_false : (b : Bool) {c : Bool} → c ≡ false → (b && c) ≡ false
      both_false true e = e
      both_false false e = refl

  -- granted
  pub granted_whole : (turn : Write) → IsGranted a turn → (is_first s.queue n ≡ true) × (is_closed s.queue.ends ≡ false) × KnowsWhole (after_grant s) (record { view = a; turn = turn })
  granted_whole turn is =
      let at : slice_get s.queue.order (length a.ends) ≡ Some (last_of n s.queue.order) = own_at (length a.ends) is.at_turn in
      let within = slice_get_within s.queue.order (length a.ends) (last_of n s.queue.order) at in
      let le = long in
      let (r, first) = element_at s.queue.order (length s.queue.ends) (omega arith) in
      let ends : a.ends ≡ s.queue.ends = elim (cases_eq r.node n) [
        | inl e ↦ (let here = one_place (length s.queue.ends) (length a.ends) r first (subst (λ x. slice_get s.queue.order (length a.ends) ≡ Some x) (sym (last_mine (length s.queue.ends) r (omega arith) first e)) at) in
            sym (prefix_whole s.queue.ends a.ends f.ends (omega (arith, here))))
        | inr ne ↦ still r first ne
      ] in
      let turn_is : turn_of s.queue.order s.queue.ends ≡ Some (last_of n s.queue.order) = ap (λ es. slice_get s.queue.order (length es)) (sym ends) ∙ at in
      let stands : Has (open_of s.queue.order s.queue.ends) (last_of n s.queue.order) = open_at s.queue.order s.queue.ends (length s.queue.ends) (last_of n s.queue.order) (omega arith) turn_is in
      let lacks : has a.marked (last_of n s.queue.order) ≡ false = ap (has a.marked) (sym mine) ∙ is.unmarked in
      let none : has s.queue.marked (last_of n s.queue.order) ≡ false = false_from_ne_true _ (λ h. never (f.marked (last_of n s.queue.order) stands h) lacks) in
      let is_turn : is_first s.queue n ≡ true = first_is (last_of n s.queue.order) turn_is ∙ is_same-self (last_of n s.queue.order) in (
        is_turn,
        ap is_closed (sym ends) ∙ is.is_open,
        record {
          config = f.config;
          order = f.order;
          ends = ends;
          clear = f.clear;
          joined = f.joined;
          marked = all_marks (lacks ∙ sym none);
          count = f.count ∙ ap (λ m. count_of m s.queue.order) (sym f.node);
          state = ap seen is.state ∙ sym (ap (λ m. seen (state_of (after_grant s) m)) f.node ∙ (λ i. seen (state_from (stands i) (none i) (is_turn i) (is_closed s.queue.ends))));
          asked = λ _. counted (length a.ends) at;
          turn = λ _. same_write turn (new_turn s.config.opening.bytes s.queue.ends) is.no_mask (is.bytes ∙ (λ i. bytes_after (f.config i).opening.bytes (ends i)));
        },
      )

  -- withdrawn
  pub withdrawn_whole : (turn : Write) → IsWithdrawn a → (is_first s.queue n ≡ false) × KnowsWhole (after_moves (mark_last s n) s) (record { view = a; turn = turn })
  withdrawn_whole turn is =
      let (ends, first, stands) = behind is.waits in
      let (p, le, at) = place_open s.queue.order s.queue.ends (last_of n s.queue.order) stands in
      let marked : has a.marked (last_of n s.queue.order) ≡ true = ap (has a.marked) (sym mine) ∙ is.marked in
      let now : has (s.queue.marked ++ last_of n s.queue.order ∷ []) (last_of n s.queue.order) ≡ true = has_last s.queue.marked (last_of n s.queue.order) in (
        first,
        record {
          config = f.config;
          order = f.order;
          ends = ends;
          clear = f.clear;
          joined = f.joined;
          marked = λ r open_now. elim (cases_eq r.node n) [
            | inl e ↦ (let (q, le, there) = place_open s.queue.order s.queue.ends r open_now in subst (λ x. has a.marked x ≡ has (s.queue.marked ++ last_of n s.queue.order ∷ []) x) (sym (last_mine q r le there e)) (marked ∙ sym now))
            | inr ne ↦ others_marks r open_now ne ∙ sym (has_push_other s.queue.marked (last_of n s.queue.order) r ne)
          ];
          count = f.count ∙ ap (λ m. count_of m s.queue.order) (sym f.node);
          state = ap seen is.state ∙ sym (ap (λ m. seen (state_of (after_moves (mark_last s n) s) m)) f.node ∙ (λ i. seen (state_from (stands i) (now i) (s.granted && is_first s.queue n) (is_closed s.queue.ends))));
          asked = λ _. counted p at;
          turn = λ h. absurd (let no : port.Rolled ≡ port.Holding = sym is.state ∙ h in cc no);
        },
      )

  -- busy
  pub busy_whole : (turn : Write) (u : View) → may_ask u.state ≡ true → seen u.state ≡ seen (state_of s n) → ((u.state ≡ port.Left) ⊎ (u.state ≡ port.Rolled) → 1 ≤ u.count) → IsBusy u a
      → may_ask (state_of s n) ≡ true → (is_rolled s.queue n ≡ true) × KnowsWhole s (record { view = a; turn = turn })
  busy_whole turn u may as_seen asked is may_s =
      let one : 1 ≤ count_of n s.queue.order = let k = asked is.was in let e = is.count in let c = f.count in omega arith in
      let stands : is_open s.queue n ≡ true = by (is_open s.queue n) refl one in
      let (marked, r, first, ne) = rolled_behind s n reached stands may_s in (
        both (is_open s.queue n) (has s.queue.marked (last_of n s.queue.order)) stands marked,
        record {
          config = f.config;
          order = f.order;
          ends = still r first ne;
          clear = f.clear;
          joined = f.joined;
          marked = all_marks (f.marked (last_of n s.queue.order) stands marked ∙ sym marked);
          count = f.count ∙ ap (λ m. count_of m s.queue.order) (sym f.node);
          state = ap seen is.state ∙ (as_seen ∙ ap (λ m. seen (state_of s m)) (sym f.node));
          asked = λ h. (let k = asked is.was in let e = is.count in omega arith);
          turn = λ h. absurd (let no : false ≡ true = ap may_ask (sym h ∙ is.state) ∙ may in cc no);
        },
      )
    where
      both : (b m : Bool) → b ≡ true → m ≡ true → (b && m) ≡ true
      both true m e k = k
      both false m e k = e

      by : (b : Bool) → is_open s.queue n ≡ b → 1 ≤ count_of n s.queue.order → b ≡ true
      by true e one = refl
      by false e one =
          let last = last_of n s.queue.order in
          let whole = take-append-drop (length s.queue.ends) s.queue.order in
          let h = subst (λ xs. Has xs (last_of n s.queue.order)) (sym whole) (has_last_of_all s.queue.order reached.legal.numbered n one) in
          elim (or_cases _ _ (sym (list_any-append (is_same (last_of n s.queue.order)) (ended_of s.queue.order s.queue.ends) (open_of s.queue.order s.queue.ends)) ∙ h)) [
            | inl old ↦ absurd (never (f.clear (last_of n s.queue.order) old) (ap (has a.clear) (sym mine) ∙ is.unclear))
            | inr now ↦ absurd (never now e)
          ]
