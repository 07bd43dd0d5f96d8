-- Lemmas about a port's own turns over several calls: where these turns are in the history, and what each turn adds to
-- the port's totals.
use Rattle.std.proofs.Common.{◌≡◌, ℕ, zero, suc, ◌+◌, ◌-◌, ◌<◌, ◌≤◌, ◌⊎◌, inl, inr, Bool, true, false, if◌then◌else◌, List, [], ◌∷◌, ◌++◌, length, take, drop, replicate, Some, None, slice_get, refl, ap, sym, ◌∙◌, subst, arith}
use Rattle.std.proofs.lemmas.Bool.{eq-eqb, cases_lt}
use Rattle.std.proofs.lemmas.List.{length-take-le, take-append-drop, take-append-le}
use Rattle.std.proofs.lemmas.Option.{slice_get_within}
use mathlib.Core.List.{IsPrefix}
use Rattle.qolb_model.specs.declared.request.Request.{Request}
use Rattle.qolb_model.specs.declared.end.End.{End}
use Rattle.qolb_model.specs.declared.end.End.TheVariants.{Served, Gone, Told}
use Rattle.qolb_model.specs.declared.answer.PortState.{PortState}
use Rattle.qolb_model.specs.declared.answer.PortState.TheVariants.{Left}
use Rattle.qolb_model.specs.declared.config.LineConfig.{LineConfig}
use Rattle.qolb_model.specs.declared.view.View.{View}
use Rattle.qolb_model.specs.declared.write.Write.{Write}
use Rattle.qolb_model.specs.Requests.{Has, count_of}
use Rattle.qolb_model.specs.Ends.{written, bytes_after}
use Rattle.qolb_model.specs.EndKinds.{is_served, is_gone}
use Rattle.qolb_model.specs.Leases.{is_last_turn, closes}
use Rattle.qolb_model.specs.PortStates.{may_ask, state_after}
use Rattle.qolb_model.specs.Views.{own, bytes_of, Extends}
use Rattle.qolb_model.specs.OneHistory.{Knows, OneHistory}
use Rattle.qolb_model.specs.Sound.{KnowsOwnHistory}
use Rattle.qolb_model.specs.Enqueueing.{IsBusy, Asks}
use Rattle.qolb_model.specs.AtTurn.{IsGranted, IsWithdrawn}
use Rattle.qolb_model.specs.Releasing.{SuccessorUnlinked, AfterRelease, IsTold}
use Rattle.qolb_model.specs.Calls.{Releases}
use Rattle.qolb_model.specs.Sums.{sum_of_turns, sum_of_own, KnowsOwnPlaces, HasNotShut}
use Rattle.qolb_model.proofs.Lists.{never, same_some, element_at, at_either, drop_with, slice_get-middle}
use Rattle.qolb_model.proofs.Prefixes.{prefix_get, prefix_self, prefix_trans, prefix_shorter}
use Rattle.qolb_model.proofs.Histories.{same_place_legal, bytes_after-append}
use Rattle.qolb_model.proofs.Requests.{same_request, has_at, has_prefix, count_of-append, number_le_count_all}
use Rattle.qolb_model.proofs.Agreeing.{among_first}
use Rattle.qolb_model.proofs.Sums.{turns-append, turns-same, turns-unserved, slice_get-append_right, none_of_node, own_place}

-- among the requests that the new view knows beyond those that the old one knew, none of the port's own was served
abbrev pub NoneServedBeyond : View → View → Type 0
NoneServedBeyond old new = (p : ℕ) (r : Request) (e : End) → length old.order ≤ p → slice_get new.order p ≡ Some r → slice_get new.ends p ≡ Some e → r.node ≡ new.node → is_served e ≡ false

-- a request that was made before a call is still made after it, if the call made none
pub asks_later : (old mid new : View) → Asks old mid → Extends mid new → new.count ≡ mid.count → Asks old new
asks_later old mid new a more count = record {
  was_clear = λ one. has_prefix mid.clear new.clear (own old) more.clear (a.was_clear one);
  count = count ∙ a.count;
  behind = (a.behind.0, a.behind.1, prefix_get mid.order new.order a.behind.0 (own new) more.order (a.behind.2 ∙ ap Some (same_request mid.node new.node mid.count new.count (sym more.node) (sym count))));
}

-- a prefix of a list begins as the list does
take_prefix : {X : Type 0} (xs ys : List X) (p : ℕ) → IsPrefix xs ys → p ≤ length xs → take p ys ≡ take p xs
take_prefix xs ys p (more, is) le = ap (take p) (sym is) ∙ take-append-le p xs more le

module _ (old new : View) (more : Extends old new) (h : OneHistory (new ∷ [])) where
  knows : Knows h.config h.order h.ends h.clear new
  knows = h.known new (among_first new [])

  -- the requests of the node in each order
  counts : (xs ys : List Request) → old.order ++ xs ≡ new.order → new.order ++ ys ≡ h.order → KnowsOwnPlaces old
      → (count_of new.node new.order ≡ old.count + count_of new.node xs) × (new.count ≡ count_of new.node new.order + count_of new.node ys)
  counts xs ys e f places = (
    sym (ap (count_of new.node) e) ∙ (count_of-append new.node old.order xs ∙ ap (λ n. n + count_of new.node xs) (ap (λ n. count_of n old.order) more.node ∙ places)),
    sym knows.own_count ∙ (sym (ap (count_of new.node) f) ∙ count_of-append new.node new.order ys),
  )

  pub places_same : new.count ≡ old.count → KnowsOwnPlaces old → KnowsOwnPlaces new
  places_same same places =
      let c = counts more.order.0 knows.order_begins.0 more.order.1 knows.order_begins.1 places in
      omega (arith, c.0, c.1, same)

  pub places_asked : Asks old new → KnowsOwnPlaces old → KnowsOwnPlaces new
  places_asked asks places =
      let c = counts more.order.0 knows.order_begins.0 more.order.1 knows.order_begins.1 places in
      let p = asks.behind.0 in
      let q : ℕ = p - length old.order in
      let e : length old.order + q ≡ p = omega (arith, asks.behind.1) in
      let at : slice_get more.order.0 q ≡ Some (own new) = sym (slice_get-append_right old.order more.order.0 q) ∙ (ap (λ l. slice_get l (length old.order + q)) more.order.1 ∙ (ap (slice_get new.order) e ∙ asks.behind.2)) in
      elim (cases_lt 0 (count_of new.node more.order.0)) [
        | inl lt ↦ omega (arith, c.0, c.1, asks.count, lt)
        | inr ge ↦ absurd (none_of_node new.node more.order.0 (omega (arith, ge)) q (own new) at refl)
      ]

  -- among the requests beyond those that the old view knew, there is one of the node
  pub beyond_own : Asks old new → KnowsOwnPlaces old → (p : ℕ) (r : Request) → length old.order ≤ p → slice_get new.order p ≡ Some r → r.node ≡ new.node → r ≡ own new
  beyond_own asks places p r le at same =
      let at_h : slice_get h.order p ≡ Some r = prefix_get new.order h.order p r knows.order_begins at in
      let within = slice_get_within h.order p r at_h in
      let long : length (take p h.order) ≡ p = length-take-le p h.order (omega arith) in
      let part : IsPrefix (take p h.order) h.order = (drop p h.order, take-append-drop p h.order) in
      let whole : IsPrefix old.order h.order = prefix_trans old.order new.order h.order more.order knows.order_begins in
      let known = prefix_shorter old.order (take p h.order) h.order whole part (omega (arith, long, le)) in
      let least = sym (ap (count_of new.node) known.1) ∙ count_of-append new.node old.order known.0 in
      let first : count_of new.node old.order ≡ old.count = ap (λ n. count_of n old.order) more.node ∙ places in
      let number : r.number ≡ count_of new.node (take p h.order) + 1 = h.legal.numbered p r at_h ∙ ap (λ n. count_of n (take p h.order) + 1) same in
      let most : r.number ≤ count_of new.node h.order = subst (λ n. r.number ≤ count_of n h.order) same (number_le_count_all h.order h.legal.numbered r (has_at h.order p r at_h)) in
      same_request r.node new.node r.number new.count same (omega (arith, least, first, number, most, knows.own_count, asks.count))

  -- two places of the port's last request are the same place
  own_one_place : (p q : ℕ) → slice_get new.order p ≡ Some (own new) → slice_get new.order q ≡ Some (own new) → p ≡ q
  own_one_place p q at_p at_q =
      same_place_legal h.config.lease h.order h.ends h.legal p q (own new) (prefix_get new.order h.order p (own new) knows.order_begins at_p) (prefix_get new.order h.order q (own new) knows.order_begins at_q)

  asked_beyond : Asks old new → KnowsOwnPlaces old → ((p : ℕ) (e : End) → slice_get new.order p ≡ Some (own new) → slice_get new.ends p ≡ Some e → is_served e ≡ false) → NoneServedBeyond old new
  asked_beyond asks places unserved = λ p r e le at_r at_e same.
      let is = beyond_own asks places p r le at_r same in
      unserved p e (at_r ∙ ap Some is) at_e

  -- a request that was granted, withdrawn or told has not been served, and a busy port made none
  pub granted_beyond : (turn : Write) → Asks old new → KnowsOwnPlaces old → IsGranted new turn → NoneServedBeyond old new
  granted_beyond turn asks places granted = asked_beyond asks places (λ p e at_p at_e.
      let same = own_one_place p (length new.ends) at_p granted.at_turn in
      let within = slice_get_within new.ends p e at_e in
      absurd (omega (arith, same, within)))

  pub withdrawn_beyond : Asks old new → KnowsOwnPlaces old → IsWithdrawn new → NoneServedBeyond old new
  withdrawn_beyond asks places withdrawn = asked_beyond asks places (λ p e at_p at_e.
      let same = own_one_place p withdrawn.waits.0 at_p withdrawn.waits.2 in
      let within = slice_get_within new.ends p e at_e in
      let far = withdrawn.waits.1 in
      absurd (omega (arith, same, within, far)))

  pub told_beyond : Asks old new → KnowsOwnPlaces old → IsTold new → NoneServedBeyond old new
  told_beyond asks places told = asked_beyond asks places (λ p e at_p at_e.
      let same = own_one_place p (length told.before) at_p told.at_turn in
      let is : Some Told ≡ Some e = sym (slice_get-middle told.before Told (replicate told.passed Gone)) ∙ (ap (λ l. slice_get l (length told.before)) (sym told.ends) ∙ (ap (slice_get new.ends) (sym same) ∙ at_e)) in
      ap is_served (sym (same_some is)))

  pub busy_beyond : KnowsOwnPlaces old → IsBusy old new → NoneServedBeyond old new
  busy_beyond places busy = λ p r e le at_r at_e same_node.
      let same = places_same busy.count places in
      let counted : count_of new.node old.order ≡ count_of new.node new.order = ap (λ n. count_of n old.order) more.node ∙ (places ∙ (sym busy.count ∙ sym same)) in
      let at_most : p < length old.order = own_place new.node old.order new.order more.order counted p r at_r same_node in
      absurd (omega (arith, at_most, le))

  -- the old view therefore knew each turn of the node that the new view knows
  module _ (quiet : may_ask old.state ≡ true) (past : KnowsOwnHistory old) (beyond : NoneServedBeyond old new) where
    stays : (e : End) → is_served e ≡ true → is_gone e ≡ true → ⊥
    stays (Served write shut) a b = let no : false ≡ true = b in cc no
    stays Gone a b = let no : false ≡ true = a in cc no
    stays Told a b = let no : false ≡ true = a in cc no

    known : (p : ℕ) (r : Request) (e : End) → slice_get new.order p ≡ Some r → slice_get new.ends p ≡ Some e → r.node ≡ old.node → is_served e ≡ true → (p < length old.order) × (p < length old.ends)
    known p r e at_r at_e same served = elim (cases_lt p (length old.order)) [
      | inl lt ↦
          let (x, at_x) = element_at old.order p lt in
          let is : x ≡ r = same_some (sym (prefix_get old.order new.order p x more.order at_x) ∙ at_r) in
          let own_x : x.node ≡ old.node = ap (λ (y : Request). y.node) is ∙ same in
          elim (past p x at_x own_x) [
            | inl lt_ends ↦ (lt, lt_ends)
            | inr (inl marked) ↦
                let gone = knows.own_marks p x e (prefix_get new.order h.order p x knows.order_begins (prefix_get old.order new.order p x more.order at_x)) (prefix_get new.ends h.ends p e knows.ends_begin at_e) (own_x ∙ sym more.node) in
                absurd (stays e served (sym gone ∙ more.marked x marked))
            | inr (inr last) ↦ absurd (never quiet last.1)
          ]
      | inr ge ↦ absurd (never served (beyond p r e ge at_r at_e (same ∙ sym more.node)))
    ]

    pub sums_kept : (does : List ℕ → List ℕ → ℕ) → sum_of_own does new ≡ sum_of_own does old
    sums_kept does =
        ap (λ n. sum_of_turns does n new.config.opening.bytes new.order new.ends) more.node
        ∙ (ap (λ (t : LineConfig). sum_of_turns does old.node t.opening.bytes new.order new.ends) more.config
        ∙ turns-same does old.node old.config.opening.bytes old.order new.order old.ends new.ends more.order more.ends known)

    pub unshut_kept : HasNotShut old → HasNotShut new
    unshut_kept unshut = λ p r write shut at_r same at_e.
        let (lt, lt_ends) = known p r (Served write shut) at_r at_e (same ∙ more.node) refl in
        let (x, at_x) = element_at old.order p lt in
        let (e, at_old) = element_at old.ends p lt_ends in
        let is : x ≡ r = same_some (sym (prefix_get old.order new.order p x more.order at_x) ∙ at_r) in
        let is_e : e ≡ Served write shut = same_some (sym (prefix_get old.ends new.ends p e more.ends at_old) ∙ at_e) in
        unshut p x write shut at_x (ap (λ (y : Request). y.node) is ∙ (same ∙ more.node)) (at_old ∙ ap Some is_e)
        ∙ (ap (λ (t : LineConfig). is_last_turn t.lease (take p old.ends)) (sym more.config)
        ∙ ap (is_last_turn new.config.lease) (sym (take_prefix old.ends new.ends p more.ends (omega (arith, lt_ends)))))

-- a port that has made no request knows the places of its requests, has had no turn, and has not shut the line
module _ (v : View) (h : OneHistory (v ∷ [])) (unused : v.count ≡ 0) where
  none_made : count_of v.node v.order ≡ 0
  none_made =
      let k = h.known v (among_first v []) in
      let e = sym (ap (count_of v.node) k.order_begins.1) ∙ count_of-append v.node v.order k.order_begins.0 in
      omega (arith, e, k.own_count, unused)

  pub unused_places : KnowsOwnPlaces v
  unused_places = none_made ∙ sym unused

  pub unused_sum : (does : List ℕ → List ℕ → ℕ) → sum_of_own does v ≡ 0
  unused_sum does = turns-unserved does v.node v.config.opening.bytes v.order v.ends (λ p r e at_r at_e same. absurd (none_of_node v.node v.order none_made p r at_r same))

  pub unused_unshut : HasNotShut v
  unused_unshut = λ p r write shut at_r same at_e. absurd (none_of_node v.node v.order none_made p r at_r same)

-- a port that has released may make a request
pub quiet_after : (from : ℕ) (leaves : PortState) (v : View) → may_ask leaves ≡ true → AfterRelease from leaves v → may_ask v.state ≡ true
quiet_after from leaves v quiet releases = by releases.state
  where
    by : ((v.state ≡ Left) × SuccessorUnlinked v × (length v.ends ≡ from)) ⊎ ((v.state ≡ leaves) × Has v.clear (own v)) → may_ask v.state ≡ true
    by (inl left) = ap may_ask left.0
    by (inr other) = ap may_ask other.0 ∙ quiet

pub may_ask-state_after : (b : Bool) → may_ask (state_after b) ≡ true
may_ask-state_after true = refl
may_ask-state_after false = refl

-- withdrawn requests that were passed are no turns, and change no byte
turns-gone : (does : List ℕ → List ℕ → ℕ) (node : ℕ) (bytes : List ℕ) (order : List Request) (n : ℕ) → sum_of_turns does node bytes order (replicate n Gone) ≡ 0
turns-gone does node bytes [] n = refl
turns-gone does node bytes (r ∷ order) zero = refl
turns-gone does node bytes (r ∷ order) (suc n) = turns-gone does node bytes order n

bytes-gone : (bytes : List ℕ) (n : ℕ) → bytes_after bytes (replicate n Gone) ≡ bytes
bytes-gone bytes zero = refl
bytes-gone bytes (suc n) = bytes-gone bytes n

none_served : (n q : ℕ) (write : Write) (shut : Bool) → slice_get (replicate n Gone) q ≡ Some (Served write shut) → ⊥
none_served zero q write shut at = let no : None ≡ Some (Served write shut) = at in cc no
none_served (suc n) zero write shut at = let no : true ≡ false = ap is_gone (same_some at) in cc no
none_served (suc n) (suc q) write shut at = none_served n q write shut at

-- a port that held the line, and released it
module _ (allows : List ℕ → List ℕ → Type 0) (held new : View) (write : Write) (releases : Releases allows false held new write) (at_turn : slice_get held.order (length held.ends) ≡ Some (own held)) where
  abbrev shut : Bool
  shut = closes held.config.lease held.ends false

  abbrev passed : List End
  passed = replicate releases.ends_turn.passed Gone

  long : length held.ends < length held.order
  long = slice_get_within held.order (length held.ends) (own held) at_turn

  -- the bytes that its turn left
  pub left_bytes : written (bytes_of held) write ≡ write.bytes.bytes
  left_bytes =
      sym (bytes-gone (written (bytes_of held) write) releases.ends_turn.passed)
      ∙ (sym (bytes_after-append held.config.opening.bytes held.ends (Served write shut ∷ passed))
      ∙ (ap (bytes_after held.config.opening.bytes) (sym releases.ends_turn.ends)
      ∙ (ap (λ (t : LineConfig). bytes_after t.opening.bytes new.ends) (sym releases.continues.extends.config)
      ∙ releases.bytes)))

  -- the turn of the port is one more
  pub more_turns : (does : List ℕ → List ℕ → ℕ) → sum_of_own does new ≡ sum_of_own does held + does (bytes_of held) write.bytes.bytes
  more_turns does =
      ap (λ n. sum_of_turns does n new.config.opening.bytes new.order new.ends) releases.continues.extends.node
      ∙ (ap (λ (t : LineConfig). sum_of_turns does held.node t.opening.bytes new.order new.ends) releases.continues.extends.config
      ∙ (ap (sum_of_turns does held.node held.config.opening.bytes new.order) releases.ends_turn.ends
      ∙ (turns-append does held.node held.config.opening.bytes new.order held.ends (Served write shut ∷ passed)
      ∙ (ap (λ n. n + sum_of_turns does held.node (bytes_of held) (drop (length held.ends) new.order) (Served write shut ∷ passed)) before
      ∙ ap (λ n. sum_of_turns does held.node held.config.opening.bytes held.order held.ends + n) here))))
    where
      before : sum_of_turns does held.node held.config.opening.bytes new.order held.ends ≡ sum_of_turns does held.node held.config.opening.bytes held.order held.ends
      before = turns-same does held.node held.config.opening.bytes held.order new.order held.ends held.ends releases.continues.extends.order (prefix_self held.ends) (λ p r e at_r at_e same served.
          let within = slice_get_within held.ends p e at_e in
          (omega (arith, within, long), within))

      last : (r : Request) (rest : List Request) → r.node ≡ held.node → sum_of_turns does held.node (bytes_of held) (r ∷ rest) (Served write shut ∷ passed) ≡ does (bytes_of held) write.bytes.bytes
      last r rest same =
          ap (λ b. (if b then does (bytes_of held) (written (bytes_of held) write) else 0) + sum_of_turns does held.node (written (bytes_of held) write) rest passed) (eq-eqb r.node held.node same)
          ∙ (ap (λ n. does (bytes_of held) (written (bytes_of held) write) + n) (turns-gone does held.node (written (bytes_of held) write) rest releases.ends_turn.passed)
          ∙ (zero-plus (does (bytes_of held) (written (bytes_of held) write))
          ∙ ap (does (bytes_of held)) left_bytes))
        where
          zero-plus : (n : ℕ) → n + 0 ≡ n
          zero-plus n = omega arith

      here : sum_of_turns does held.node (bytes_of held) (drop (length held.ends) new.order) (Served write shut ∷ passed) ≡ does (bytes_of held) write.bytes.bytes
      here =
          ap (λ o. sum_of_turns does held.node (bytes_of held) o (Served write shut ∷ passed)) (drop_with new.order (length held.ends) (own new) releases.ends_turn.at_turn)
          ∙ last (own new) (drop (length held.ends + 1) new.order) releases.continues.extends.node

  -- the port's turns did not shut the line, if its earlier turns did not
  pub unshut_released : HasNotShut held → HasNotShut new
  unshut_released unshut p r w s at_r same at_e =
      elim (at_either held.ends (Served write shut ∷ passed) p (Served w s) (ap (λ l. slice_get l p) (sym releases.ends_turn.ends) ∙ at_e)) [
        | inl before ↦
            let lt = slice_get_within held.ends p (Served w s) before in
            let (x, at_x) = element_at held.order p (omega (arith, lt, long)) in
            let is : x ≡ r = same_some (sym (prefix_get held.order new.order p x releases.continues.extends.order at_x) ∙ at_r) in
            unshut p x w s at_x (ap (λ (y : Request). y.node) is ∙ (same ∙ releases.continues.extends.node)) before
            ∙ in_new p (omega (arith, lt))
        | inr (zero, is_p, at_last) ↦
            let e : p ≡ length held.ends = omega (arith, is_p) in
            let is : Served write shut ≡ Served w s = same_some at_last in
            let same_shut : s ≡ is_last_turn held.config.lease held.ends = sym (ap shut_of is) in
            same_shut
            ∙ (ap (is_last_turn held.config.lease) (sym (ap (λ n. take n held.ends) e ∙ take-whole held.ends))
            ∙ in_new p (omega (arith, e)))
        | inr (suc q, is_p, at_gone) ↦ absurd (none_served releases.ends_turn.passed q w s at_gone)
      ]
    where
      shut_of : End → Bool
      shut_of (Served w s) = s
      shut_of Gone = false
      shut_of Told = false

      take-whole : (ends : List End) → take (length ends) ends ≡ ends
      take-whole [] = refl
      take-whole (e ∷ ends) = ap (λ es. e ∷ es) (take-whole ends)

      in_new : (n : ℕ) → n ≤ length held.ends → is_last_turn held.config.lease (take n held.ends) ≡ is_last_turn new.config.lease (take n new.ends)
      in_new n le =
          ap (λ (t : LineConfig). is_last_turn t.lease (take n held.ends)) (sym releases.continues.extends.config)
          ∙ ap (is_last_turn new.config.lease) (sym (take_prefix held.ends new.ends n releases.continues.extends.ends le))
