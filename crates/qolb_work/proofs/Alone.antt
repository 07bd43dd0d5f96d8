-- Lemmas about a line with only one node. The port of the only node knows the whole history of the line.
use Rattle.std.proofs.Common.{◌≡◌, inl, inr, ℕ, suc, ◌+◌, ◌-◌, ◌<◌, ◌≤◌, ◌==◌, Bool, true, false, cond, List, [], ◌∷◌, ◌++◌, length, take, Some, slice_get, refl, ap, sym, ◌∙◌, subst, arith}
use Rattle.std.proofs.lemmas.Bool.{eq-eqb, cases_lt}
use Rattle.std.proofs.lemmas.List.{length-take, take_all}
use Rattle.std.proofs.lemmas.List.Sums.{sum_by-cons}
use Rattle.std.proofs.lemmas.Option.{slice_get_within}
use Rattle.std.proofs.Math.Seq.{take-append-add}
use Rattle.qolb_model.specs.declared.request.Request.{Request}
use Rattle.qolb_model.specs.declared.end.End.{End}
use Rattle.qolb_model.specs.declared.end.End.TheVariants.{Served, Gone, Told}
use Rattle.qolb_model.specs.declared.config.LineConfig.{LineConfig}
use Rattle.qolb_model.specs.declared.view.View.{View}
use Rattle.qolb_model.specs.Requests.{count_of}
use Rattle.qolb_model.specs.Ends.{bytes_after}
use Rattle.qolb_model.specs.EndKinds.{is_served, is_gone}
use Rattle.qolb_model.specs.Views.{own, bytes_of}
use Rattle.qolb_model.specs.OneHistory.{Knows, OneHistory}
use Rattle.qolb_model.specs.Kept.{IsKept}
use Rattle.qolb_model.specs.Sound.{KnowsOwnHistory, Continues}
use Rattle.qolb_model.specs.Enqueueing.{IsBusy, Asks}
use Rattle.qolb_model.specs.AtTurn.{IsWithdrawn}
use Rattle.qolb_model.proofs.Lists.{never, element_at, slice_get-take}
use Rattle.qolb_model.proofs.Prefixes.{prefix_get, prefix_length}
use Rattle.qolb_model.proofs.Histories.{same_place_legal, bytes_after-append}
use Rattle.qolb_model.proofs.Agreed.{length-bytes_after}
use Rattle.qolb_model.proofs.Agreeing.{among_first}
use Rattle.qolb_model.proofs.Writes.{good_after}
use Rattle.line_accounts.specs.Accounts.{AreBalances, StayBalances, balances_after}
use Rattle.line_accounts.specs.Desks.{IsAtRest}
use Rattle.line_accounts.specs.Moves.{TakesTurn}
use Rattle.qolb_model.proofs.Sums.{slice_get-append_right}
use Rattle.qolb_work.specs.JustOpened.{work_config}
use Rattle.qolb_work.proofs.Banking.{no_money}

-- the port of a line that was opened with zeros and has only one node, between two calls
pub record IsAlone (v : View) : Type 0 where
  pub node : v.node ≡ 1
  pub config : v.config ≡ work_config 1
  pub rest : IsAtRest v
  pub past : KnowsOwnHistory v
  pub history : OneHistory (v ∷ [])
  pub kept : IsKept StayBalances v

-- If all requests of a list are of node 1, the count of node 1 is the length of the list.
count_all : (xs : List Request) → ((p : ℕ) (r : Request) → slice_get xs p ≡ Some r → r.node ≡ 1) → count_of 1 xs ≡ length xs
count_all [] h = refl
count_all (x ∷ xs) h =
    let rest = count_all xs (λ p r at. h (suc p) r at) in
    let first : (cond (x.node == 1) 1 0) ≡ (suc 0) = ap (λ (b : Bool). cond {A = ℕ} b 1 0) (eq-eqb x.node 1 (h 0 x refl)) in
    let whole = sum_by-cons (λ (y : Request). cond (y.node == 1) 1 0) x xs in
    omega (arith, rest, first, whole)

-- If none of the ends is `Served`, the bytes stay the same.
bytes_unserved : (bytes : List ℕ) (ends : List End) → ((p : ℕ) (e : End) → slice_get ends p ≡ Some e → is_served e ≡ false) → bytes_after bytes ends ≡ bytes
bytes_unserved bytes [] h = refl
bytes_unserved bytes (Served write shut ∷ ends) h = absurd (never refl (h 0 (Served write shut) refl))
bytes_unserved bytes (Gone ∷ ends) h = bytes_unserved bytes ends (λ p e at. h (suc p) e at)
bytes_unserved bytes (Told ∷ ends) h = bytes_unserved bytes ends (λ p e at. h (suc p) e at)

gone_unserved : (e : End) → is_gone e ≡ true → is_served e ≡ false
gone_unserved (Served write shut) h = absurd (never h refl)
gone_unserved Gone h = refl
gone_unserved Told h = refl

module _ (v : View) (a : IsAlone v) where
  knows : Knows a.history.config a.history.order a.history.ends a.history.clear v
  knows = a.history.known v (among_first v [])

  all_own : (p : ℕ) (r : Request) → slice_get a.history.order p ≡ Some r → r.node ≡ 1
  all_own p r at =
      let of_line = knows.of_line p r at in
      let one : a.history.config.nodes ≡ 1 = ap (λ (t : LineConfig). t.nodes) (sym knows.config_is ∙ a.config) in
      omega (arith, of_line.0, of_line.1, one)

  -- The port knows the place of each request that it made.
  all_known : length v.order ≡ v.count
  all_known =
      sym (count_all v.order (λ p r at. all_own p r (prefix_get v.order a.history.order p r knows.order_begins at)))
      ∙ (ap (λ n. count_of n v.order) (sym a.node) ∙ a.rest.places)

  ends_known : length v.ends ≤ length v.order
  ends_known =
      let few = prefix_length v.ends a.history.ends knows.ends_begin in
      let legal = a.history.legal.ended in
      let whole : length a.history.order ≡ v.count = sym (count_all a.history.order all_own) ∙ (ap (λ n. count_of n a.history.order) (sym a.node) ∙ knows.own_count) in
      let all = all_known in
      omega (arith, few, legal, whole, all)

  -- The bytes that the port knows are balances.
  pub long : length (bytes_of v) ≡ 64
  long = length-bytes_after v.config.opening.bytes v.ends (ap (λ (t : LineConfig). length t.opening.bytes) a.config)

  pub good : AreBalances (bytes_of v)
  good = good_after AreBalances StayBalances balances_after v.config.opening.bytes v.ends (subst (λ (t : LineConfig). AreBalances t.opening.bytes) (sym a.config) no_money) a.kept

-- one call of the port
module _ (old new : View) (a : IsAlone old) (c : Continues StayBalances old new) (rest : IsAtRest new) where
  abbrev pub alone_then : IsAlone new
  alone_then = record {
    node = c.extends.node ∙ a.node;
    config = c.extends.config ∙ a.config;
    rest = rest;
    past = c.own_history;
    history = c.history;
    kept = c.kept;
  }

  -- The port's earlier requests that had no end were not served.
  earlier : (p : ℕ) (e : End) → length old.ends ≤ p → p < length old.order → slice_get new.ends p ≡ Some e → is_served e ≡ false
  earlier p e le lt at_e =
      let (r, at) = element_at old.order p lt in
      let k = knows new alone_then in
      let at_h = prefix_get new.order c.history.order p r k.order_begins (prefix_get old.order new.order p r c.extends.order at) in
      let of_node : r.node ≡ old.node = all_own new alone_then p r at_h ∙ sym a.node in
      elim (a.past p r at of_node) [
        | inl less ↦ absurd (omega (arith, less, le))
        | inr (inl marked) ↦
            let is = k.own_marks p r e at_h (prefix_get new.ends c.history.ends p e k.ends_begin at_e) (of_node ∙ sym c.extends.node) in
            gone_unserved e (sym is ∙ c.extends.marked r marked)
        | inr (inr last) ↦ absurd (never a.rest.quiet last.1)
      ]

  -- Up to a place, the bytes stay the same if no end after those that the port already knew is `Served`.
  until : (n : ℕ) → length old.ends ≤ n → ((p : ℕ) (e : End) → length old.ends ≤ p → p < n → slice_get new.ends p ≡ Some e → is_served e ≡ false)
      → bytes_after new.config.opening.bytes (take n new.ends) ≡ bytes_of old
  until n le unserved =
      let (more, is) = c.extends.ends in
      let q : ℕ = n - length old.ends in
      let e : length old.ends + q ≡ n = omega (arith, le) in
      let cut : take n new.ends ≡ old.ends ++ take q more = ap (take n) (sym is) ∙ (ap (λ m. take m (old.ends ++ more)) (sym e) ∙ take-append-add old.ends more q) in
      ap (bytes_after new.config.opening.bytes) cut
      ∙ (bytes_after-append new.config.opening.bytes old.ends (take q more)
      ∙ (bytes_unserved (bytes_after new.config.opening.bytes old.ends) (take q more) (λ p x at.
      let within = slice_get_within (take q more) p x at in
      let short = length-take q more in
      let lt : p < q = omega (arith, within, short) in
      unserved (length old.ends + p) x (omega arith) (omega (arith, lt, e))
      (ap (λ l. slice_get l (length old.ends + p)) (sym is) ∙ (slice_get-append_right old.ends more p ∙ (sym (slice_get-take q more p lt) ∙ at))))
      ∙ ap (λ (t : LineConfig). bytes_after t.opening.bytes old.ends) c.extends.config))

  same_own : (p q : ℕ) → slice_get new.order p ≡ Some (own new) → slice_get new.order q ≡ Some (own new) → p ≡ q
  same_own p q at_p at_q =
      let begins = (knows new alone_then).order_begins in
      same_place_legal c.history.config.lease c.history.order c.history.ends c.history.legal p q (own new) (prefix_get new.order c.history.order p (own new) begins at_p) (prefix_get new.order c.history.order q (own new) begins at_q)

  -- The port's new request comes directly after all other requests.
  behind_all : Asks old new → (p : ℕ) → slice_get new.order p ≡ Some (own new) → (p ≡ length old.order) × (length new.order ≡ p + 1)
  behind_all asks p at =
      let far = asks.behind.1 in
      let same = same_own asks.behind.0 p asks.behind.2 at in
      let within = slice_get_within new.order p (own new) at in
      let before = all_known old a in
      let after = all_known new alone_then in
      let count = asks.count in
      (omega (arith, far, same, within, before, after, count), omega (arith, far, same, within, before, after, count))

  -- If no new request was served, the bytes are the same.
  vain : ((p : ℕ) (e : End) → length old.order ≤ p → slice_get new.ends p ≡ Some e → is_served e ≡ false) → bytes_of new ≡ bytes_of old
  vain unserved =
      let le = prefix_length old.ends new.ends c.extends.ends in
      ap (bytes_after new.config.opening.bytes) (sym (take_all (length new.ends) new.ends (omega arith)))
      ∙ until (length new.ends) le (λ p e known lt at. elim (cases_lt p (length old.order)) [
        | inl less ↦ earlier p e known less at
        | inr far ↦ unserved p e far at
      ])

  pub vain_late : Asks old new → IsWithdrawn new → bytes_of new ≡ bytes_of old
  vain_late asks withdrawn = vain (λ p e far at.
      let within = slice_get_within new.ends p e at in
      let place = behind_all asks withdrawn.waits.0 withdrawn.waits.2 in
      let waits = withdrawn.waits.1 in
      absurd (omega (arith, within, far, place.0, waits)))

  pub vain_busy : IsBusy old new → bytes_of new ≡ bytes_of old
  vain_busy busy = vain (λ p e far at.
      let within = slice_get_within new.ends p e at in
      let few = ends_known new alone_then in
      let before = all_known old a in
      let after = all_known new alone_then in
      let count = busy.count in
      absurd (omega (arith, within, far, few, before, after, count)))

-- A turn found the bytes that the port knew, and left the bytes that the port knows afterwards.
module _ (old new : View) (a : IsAlone old) (found left : List ℕ) (t : TakesTurn old new found left) where
  place_is : (t.served.place ≡ length old.order) × (length new.order ≡ t.served.place + 1)
  place_is = behind_all old new a t.continues t.at_rest t.asks t.served.place t.served.at

  pub turn_found : found ≡ bytes_of old
  turn_found =
      let place = place_is in
      let few = ends_known old a in
      sym t.served.before ∙ until old new a t.continues t.at_rest t.served.place (omega (arith, place.0, few)) (λ p e le lt at. earlier old new a t.continues t.at_rest p e le (omega (arith, lt, place.0)) at)

  pub turn_left : bytes_of new ≡ left
  turn_left =
      let place = place_is in
      let few = ends_known new (alone_then old new a t.continues t.at_rest) in
      ap (bytes_after new.config.opening.bytes) (sym (take_all (t.served.place + 1) new.ends (omega (arith, few, place.1)))) ∙ t.served.after
