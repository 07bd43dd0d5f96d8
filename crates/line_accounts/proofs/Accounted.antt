-- Lemmas about a desk before and after a call. A desk consists of the ports that one node has on several lines.
use Rattle.std.proofs.Common.{◌≡◌, ◌≢◌, ◌+◌, ◌<◌, ◌≤◌, inl, inr, true, ℕ, zero, suc, List, [], ◌∷◌, length, get_or, ◌*◌, Some, None, slice_get, refl, sym, ap, subst, ◌∙◌, arith}
use Rattle.std.specs.List.{sum_by}
use Rattle.std.proofs.Math.ListN.{set}
use Rattle.std.proofs.lemmas.List.{length-set}
use Rattle.std.proofs.lemmas.List.Sums.{sum_by-set}
use Rattle.std.proofs.lemmas.Bool.{cases_eq}
use Rattle.std.proofs.lemmas.Option.{slice_get_within, slice_get_read, get_or_from_slice_get}
use Rattle.qolb_model.specs.declared.view.View.{View}
use Rattle.qolb_model.specs.PortStates.{may_ask}
use Rattle.qolb_model.specs.OneHistory.{OneHistory}
use Rattle.qolb_model.proofs.Lists.{same_some, element_at}
use Rattle.line_accounts.specs.declared.answer.Reply.{Reply}
use Rattle.line_accounts.specs.declared.answer.Reply.TheVariants.{Done, Short, Over, Late, Closed, Busy, NoAccount, SameAccount}
use Rattle.line_accounts.specs.Paid.{rise, fall, paid_by, drawn_by}
use Rattle.line_accounts.specs.Desks.{DeskOf, IsAtRest, AreOver, IsDeskOver}
use Rattle.line_accounts.specs.Moves.{Pays, AsksInVain, IsRefused, PaysIn, PaysOut, MovesWithin}
use Rattle.line_accounts.specs.Accounts.{line_of, lane_in}
use Rattle.line_accounts.specs.Calls.{Deposits, TakesOut}
use Rattle.qolb_model.proofs.Sums.{sum-each, sum-zero}
use Rattle.qolb_model.proofs.OwnTurns.{unused_places, unused_sum}
use Rattle.line_accounts.proofs.Totals.{looked}

-- elements of a list in which one was written
pub slice_get-set_same : {X : Type 0} (xs : List X) (i : ℕ) (x : X) → i < length xs → slice_get (set xs i x) i ≡ Some x
slice_get-set_same [] i x lt = absurd (omega arith)
slice_get-set_same (y ∷ xs) zero x lt = refl
slice_get-set_same (y ∷ xs) (suc i) x lt = slice_get-set_same xs i x (omega (arith, lt))

pub slice_get-set_other : {X : Type 0} (xs : List X) (i j : ℕ) (x : X) → j ≢ i → slice_get (set xs i x) j ≡ slice_get xs j
slice_get-set_other [] i j x ne = refl
slice_get-set_other (y ∷ xs) zero zero x ne = absurd (ne refl)
slice_get-set_other (y ∷ xs) zero (suc j) x ne = refl
slice_get-set_other (y ∷ xs) (suc i) zero x ne = refl
slice_get-set_other (y ∷ xs) (suc i) (suc j) x ne = slice_get-set_other xs i j x (λ e. ne (ap suc e))

-- a port that has never asked is at rest, and has paid nothing
module _ (v : View) (h : OneHistory (v ∷ [])) (unused : v.count ≡ 0) where
  pub unused_rest : may_ask v.state ≡ true → IsAtRest v
  unused_rest quiet = record { quiet = quiet; places = unused_places v h unused }

  pub unused_paid : paid_by v ≡ 0
  unused_paid = unused_sum v h unused rise

  pub unused_drawn : drawn_by v ≡ 0
  unused_drawn = unused_sum v h unused fall

pub sum-none : {X : Type 0} (f : X → ℕ) (xs : List X) → ((i : ℕ) (x : X) → slice_get xs i ≡ Some x → f x ≡ 0) → sum_by f xs ≡ 0
sum-none f xs h = sum-each f (λ x. 0) xs h ∙ sum-zero (λ x. 0) xs (λ x. refl)

module _ {Line Port : Type 0} (belongs : Line → Port → Type 0) (view : Port → View) (lines : List Line) where
  -- a desk is over its lines after a call of one port, if its counters rose by what that port paid
  pub desk_after : (d : DeskOf Port) (i : ℕ) (line : Line) (p q : Port) (sum_in sum_out : ℕ) → IsDeskOver belongs view lines d → slice_get lines i ≡ Some line → slice_get d.ports i ≡ Some p → belongs line q → IsAtRest (view q)
      → (paid_by (view q) + drawn_by (view p)) + (sum_out + d.paid_in) ≡ (paid_by (view p) + drawn_by (view q)) + (d.paid_out + sum_in)
      → IsDeskOver belongs view lines (record { ports = set d.ports i q; paid_in = sum_in; paid_out = sum_out })
  desk_after d i line p q sum_in sum_out over at_line at_port belong rest paid = record {
    over = record {
      count = length-set d.ports i q ∙ over.over.count;
      each_belongs = λ j l r at_l at_r. elim (cases_eq j i) [
        | inl e ↦
            let same_line : line ≡ l = same_some (sym at_line ∙ (ap (slice_get lines) (sym e) ∙ at_l)) in
            let same_port : q ≡ r = same_some (sym (slice_get-set_same d.ports i q within) ∙ (ap (slice_get (set d.ports i q)) (sym e) ∙ at_r)) in
            subst (λ (l : Line). belongs l r) same_line (subst (λ (r : Port). belongs line r) same_port belong)
        | inr ne ↦ over.over.each_belongs j l r at_l (sym (slice_get-set_other d.ports i j q ne) ∙ at_r)
      ];
    };
    at_rest = λ j r at_r. elim (cases_eq j i) [
      | inl e ↦ subst (λ (r : Port). IsAtRest (view r)) (same_some (sym (slice_get-set_same d.ports i q within) ∙ (ap (slice_get (set d.ports i q)) (sym e) ∙ at_r))) rest
      | inr ne ↦ over.at_rest j r (sym (slice_get-set_other d.ports i j q ne) ∙ at_r)
    ];
    paid = sums _ _ _ _ _ _ _ _ _ _ _ _ (moved (λ port. paid_by (view port))) (moved (λ port. drawn_by (view port))) over.paid paid;
  }
    where
      within : i < length d.ports
      within = slice_get_within d.ports i p at_port

      moved : (f : Port → ℕ) → sum_by f (set d.ports i q) + f p ≡ sum_by f d.ports + f q
      moved f = ap (λ x. sum_by f (set d.ports i q) + f x) (sym (get_or_from_slice_get d.ports i p p at_port)) ∙ sum_by-set f d.ports i q p within

      sums : (paid drawn paid_then drawn_then pp pq dp dq paid_in paid_out sum_in sum_out : ℕ) → paid_then + pp ≡ paid + pq → drawn_then + dp ≡ drawn + dq → paid + paid_out ≡ drawn + paid_in
          → (pq + dp) + (sum_out + paid_in) ≡ (pp + dq) + (paid_out + sum_in) → paid_then + sum_out ≡ drawn_then + sum_in
      sums paid drawn paid_then drawn_then pp pq dp dq paid_in paid_out sum_in sum_out a b c e = omega (arith, a, b, c, e)

  -- the line and the port at a place
  pub at_place : (d : DeskOf Port) (i : ℕ) (line : Line) (p : Port) → IsDeskOver belongs view lines d → i < length lines → line ≡ get_or lines i line → p ≡ get_or d.ports i p → (slice_get lines i ≡ Some line) × (slice_get d.ports i ≡ Some p)
  at_place d i line p over lt is_line is_port = (slice_get_read lines (length lines) i line refl lt is_line, slice_get_read d.ports (length lines) i p (sym over.over.count) lt is_port)

  pub new_desk : (ports : List Port) → AreOver belongs lines ports → ((i : ℕ) (port : Port) → slice_get ports i ≡ Some port → (may_ask (view port).state ≡ true) × ((view port).count ≡ 0))
      → ((i : ℕ) (line : Line) (port : Port) → slice_get lines i ≡ Some line → slice_get ports i ≡ Some port → OneHistory (view port ∷ []))
      → IsDeskOver belongs view lines (record { ports = ports; paid_in = 0; paid_out = 0 })
  new_desk ports over unused history = record {
    over = over;
    at_rest = λ i port at. unused_rest (view port) (known i port at) (unused i port at).1 (unused i port at).0;
    paid = ap (λ n. n + 0) (sum-none (λ port. paid_by (view port)) ports (λ i port at. unused_paid (view port) (known i port at) (unused i port at).1) ∙ sym (sum-none (λ port. drawn_by (view port)) ports (λ i port at. unused_drawn (view port) (known i port at) (unused i port at).1)));
  }
    where
      known : (i : ℕ) (port : Port) → slice_get ports i ≡ Some port → OneHistory (view port ∷ [])
      known i port at =
          let there = slice_get_within ports i port at in
          let many = over.count in
          let (line, at_line) = element_at lines i (omega (arith, there, many)) in
          history i line port at_line at

-- the meaning of an answer for the port: it is at rest, and its counters changed as the desk's
abbrev pub Counts : View → View → ℕ → ℕ → ℕ → ℕ → Type 0
Counts v w paid_in paid_out in_then out_then = (paid_by w + drawn_by v) + (out_then + paid_in) ≡ (paid_by v + drawn_by w) + (paid_out + in_then)

pub counts : (v w : View) (a b paid_in paid_out in_then out_then : ℕ) → Pays v w a b → a + (out_then + paid_in) ≡ b + (paid_out + in_then) → Counts v w paid_in paid_out in_then out_then
counts v w a b paid_in paid_out in_then out_then p e = sums (paid_by v) (paid_by w) (drawn_by v) (drawn_by w) p.paid_in p.paid_out
  where
    sums : (pv pw dv dw : ℕ) → pw ≡ pv + a → dw ≡ dv + b → (pw + dv) + (out_then + paid_in) ≡ (pv + dw) + (paid_out + in_then)
    sums pv pw dv dw f h = omega (arith, e, f, h)

pub refused_in_vain : (v w : View) (reply : Reply) → IsRefused v w reply → AsksInVain v w
refused_in_vain v w Late h = h.0
refused_in_vain v w Closed h = h.0
refused_in_vain v w Busy h = h.0
refused_in_vain v w Done h = absurd h
refused_in_vain v w Short h = absurd h
refused_in_vain v w Over h = absurd h
refused_in_vain v w NoAccount h = absurd h
refused_in_vain v w SameAccount h = absurd h

-- a port that paid nothing, with the same counters
rests : (v w : View) (paid_in paid_out in_then out_then : ℕ) → IsAtRest w → Pays v w 0 0 → in_then ≡ paid_in → out_then ≡ paid_out → IsAtRest w × Counts v w paid_in paid_out in_then out_then
rests v w paid_in paid_out in_then out_then rest p e f = (rest, counts v w 0 0 paid_in paid_out in_then out_then p (omega (arith, e, f)))

module _ (v w : View) (lane amount : ℕ) where
  pub paid_in_port : (reply : Reply) (sum sum_then out : ℕ) → PaysIn v w lane amount sum sum_then reply → IsAtRest w × Counts v w sum out sum_then out
  paid_in_port Done sum sum_then out (found, turn, room, pays, e) = (turn.at_rest, counts v w amount 0 sum out sum_then out pays (omega (arith, e)))
  paid_in_port Over sum sum_then out (found, turn, why, e) = rests v w sum out sum_then out turn.at_rest (looked found turn.pays) e refl
  paid_in_port Short sum sum_then out h = absurd h
  paid_in_port Late sum sum_then out (r, e) = let vain = refused_in_vain v w Late r in rests v w sum out sum_then out vain.at_rest vain.pays e refl
  paid_in_port Closed sum sum_then out (r, e) = let vain = refused_in_vain v w Closed r in rests v w sum out sum_then out vain.at_rest vain.pays e refl
  paid_in_port Busy sum sum_then out (r, e) = let vain = refused_in_vain v w Busy r in rests v w sum out sum_then out vain.at_rest vain.pays e refl
  paid_in_port NoAccount sum sum_then out h = absurd h
  paid_in_port SameAccount sum sum_then out h = absurd h

  pub paid_out_port : (reply : Reply) (sum sum_then paid_in : ℕ) → PaysOut v w lane amount sum sum_then reply → IsAtRest w × Counts v w paid_in sum paid_in sum_then
  paid_out_port Done sum sum_then paid_in (found, turn, enough, pays, e) = (turn.at_rest, counts v w 0 amount paid_in sum paid_in sum_then pays (omega (arith, e)))
  paid_out_port Short sum sum_then paid_in (found, turn, less, e) = rests v w paid_in sum paid_in sum_then turn.at_rest (looked found turn.pays) refl e
  paid_out_port Over sum sum_then paid_in (found, turn, enough, most, e) = rests v w paid_in sum paid_in sum_then turn.at_rest (looked found turn.pays) refl e
  paid_out_port Late sum sum_then paid_in (r, e) = let vain = refused_in_vain v w Late r in rests v w paid_in sum paid_in sum_then vain.at_rest vain.pays refl e
  paid_out_port Closed sum sum_then paid_in (r, e) = let vain = refused_in_vain v w Closed r in rests v w paid_in sum paid_in sum_then vain.at_rest vain.pays refl e
  paid_out_port Busy sum sum_then paid_in (r, e) = let vain = refused_in_vain v w Busy r in rests v w paid_in sum paid_in sum_then vain.at_rest vain.pays refl e
  paid_out_port NoAccount sum sum_then paid_in h = absurd h
  paid_out_port SameAccount sum sum_then paid_in h = absurd h

-- the same for a transfer within a line
pub moved_within_port : (v w : View) (source target amount paid_in paid_out : ℕ) (reply : Reply) → MovesWithin v w source target amount reply → IsAtRest w × Counts v w paid_in paid_out paid_in paid_out
moved_within_port v w source target amount paid_in paid_out Done (found, turn, enough, room, pays) = rests v w paid_in paid_out paid_in paid_out turn.at_rest pays refl refl
moved_within_port v w source target amount paid_in paid_out Short (found, turn, less) = rests v w paid_in paid_out paid_in paid_out turn.at_rest (looked found turn.pays) refl refl
moved_within_port v w source target amount paid_in paid_out Over (found, turn, enough, no_room) = rests v w paid_in paid_out paid_in paid_out turn.at_rest (looked found turn.pays) refl refl
moved_within_port v w source target amount paid_in paid_out Late r = let vain = refused_in_vain v w Late r in rests v w paid_in paid_out paid_in paid_out vain.at_rest vain.pays refl refl
moved_within_port v w source target amount paid_in paid_out Closed r = let vain = refused_in_vain v w Closed r in rests v w paid_in paid_out paid_in paid_out vain.at_rest vain.pays refl refl
moved_within_port v w source target amount paid_in paid_out Busy r = let vain = refused_in_vain v w Busy r in rests v w paid_in paid_out paid_in paid_out vain.at_rest vain.pays refl refl
moved_within_port v w source target amount paid_in paid_out NoAccount h = absurd h
moved_within_port v w source target amount paid_in paid_out SameAccount h = absurd h

-- the records of the calls, by what was done at one port
module _ {Port : Type 0} (view : Port → View) (lines account amount : ℕ) (d : DeskOf Port) (i lane : ℕ) (p q : Port) (known : account < 8 * lines) (line_is : i ≡ line_of account) (lane_is : lane ≡ lane_in account) (was : slice_get d.ports i ≡ Some p) where
  pub deposits : (sum : ℕ) (reply : Reply) → PaysIn (view p) (view q) lane amount d.paid_in sum reply → Deposits view lines account amount d (record { ports = set d.ports i q; paid_in = sum; paid_out = d.paid_out }) reply
  deposits sum reply pays = record {
    unknown = λ e. absurd (subst (λ r. PaysIn (view p) (view q) lane amount d.paid_in sum r) e pays);
    known = λ _. known;
    pays = λ _. record {
      port = p;
      port_then = q;
      was = ap (slice_get d.ports) (sym line_is) ∙ was;
      is = ap (λ n. set d.ports n q) line_is;
      does = subst (λ k. PaysIn (view p) (view q) k amount d.paid_in sum reply) lane_is pays;
    };
    paid_out = refl;
  }

  pub takes_out : (sum : ℕ) (reply : Reply) → PaysOut (view p) (view q) lane amount d.paid_out sum reply → TakesOut view lines account amount d (record { ports = set d.ports i q; paid_in = d.paid_in; paid_out = sum }) reply
  takes_out sum reply pays = record {
    unknown = λ e. absurd (subst (λ r. PaysOut (view p) (view q) lane amount d.paid_out sum r) e pays);
    known = λ _. known;
    pays = λ _. record {
      port = p;
      port_then = q;
      was = ap (slice_get d.ports) (sym line_is) ∙ was;
      is = ap (λ n. set d.ports n q) line_is;
      does = subst (λ k. PaysOut (view p) (view q) k amount d.paid_out sum reply) lane_is pays;
    };
    paid_in = refl;
  }

-- there is no such account
pub deposits_none : {Port : Type 0} (view : Port → View) (lines account amount : ℕ) (d : DeskOf Port) → 8 * lines ≤ account → Deposits view lines account amount d d NoAccount
deposits_none view lines account amount d above = record { unknown = λ _. (above, refl); known = λ other. absurd (other refl); pays = λ other. absurd (other refl); paid_out = refl }

pub takes_out_none : {Port : Type 0} (view : Port → View) (lines account amount : ℕ) (d : DeskOf Port) → 8 * lines ≤ account → TakesOut view lines account amount d d NoAccount
takes_out_none view lines account amount d above = record { unknown = λ _. (above, refl); known = λ other. absurd (other refl); pays = λ other. absurd (other refl); paid_in = refl }

-- two lines, and a port of each
pub over_pair : {Line Port : Type 0} (belongs : Line → Port → Type 0) (a b : Line) (p q : Port) → belongs a p → belongs b q → AreOver belongs (a ∷ b ∷ []) (p ∷ q ∷ [])
over_pair {Line} {Port} belongs a b p q first second = record { count = refl; each_belongs = at }
  where
    at : (i : ℕ) (line : Line) (port : Port) → slice_get (a ∷ b ∷ []) i ≡ Some line → slice_get (p ∷ q ∷ []) i ≡ Some port → belongs line port
    at zero line port at_line at_port = subst (λ l. belongs l port) (same_some at_line) (subst (λ r. belongs a r) (same_some at_port) first)
    at (suc zero) line port at_line at_port = subst (λ l. belongs l port) (same_some at_line) (subst (λ r. belongs b r) (same_some at_port) second)
    at (suc (suc i)) line port at_line at_port = absurd (let nothing : None ≡ Some line = at_line in cc nothing)
