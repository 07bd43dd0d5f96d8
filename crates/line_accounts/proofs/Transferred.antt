-- Lemmas about a desk after a transfer, both within one line and between two lines.
use Rattle.std.proofs.Common.{◌≡◌, ◌≢◌, ◌⊎◌, ◌+◌, ◌*◌, ◌<◌, ◌≤◌, inl, inr, Bool, true, false, ℕ, List, Some, slice_get, refl, sym, ap, subst, ◌∙◌, arith}
use Rattle.std.proofs.Math.ListN.{set}
use Rattle.qolb_model.specs.declared.view.View.{View}
use Rattle.line_accounts.specs.declared.answer.Reply.{Reply}
use Rattle.line_accounts.specs.declared.answer.Reply.TheVariants.{Done, Short, Over, Late, Closed, Busy, NoAccount, SameAccount}
use Rattle.line_accounts.specs.Accounts.{line_of, lane_in}
use Rattle.line_accounts.specs.Paid.{paid_by, drawn_by}
use Rattle.line_accounts.specs.Desks.{DeskOf, IsAtRest, IsDeskOver}
use Rattle.line_accounts.specs.Moves.{Pays, IsRefusedEither, MovesWithin, MovesAcross, MovesBetween}
use Rattle.line_accounts.specs.Calls.{AreTwo, ChangesTwo, Transfers}
use Rattle.line_accounts.proofs.Totals.{looked}
use Rattle.line_accounts.proofs.Pairs.{set_swap}
use Rattle.line_accounts.proofs.Accounted.{refused_in_vain, counts, desk_after, slice_get-set_other}

-- a transfer over two lines: each port is at rest, and one paid in what the other drew
either_rests : (s s_then t t_then : View) → IsAtRest t → (reply : Reply) → IsRefusedEither s s_then t t_then reply → (IsAtRest s_then × Pays s s_then 0 0) × (IsAtRest t_then × Pays t t_then 0 0)
either_rests s s_then t t_then rest_t reply (inl (refused, same)) =
    let vain = refused_in_vain s s_then reply refused in
    ((vain.at_rest, vain.pays), (subst (λ (v : View). IsAtRest v) (sym same) rest_t, subst (λ (v : View). Pays t v 0 0) (sym same) (pays_none t)))
  where
    pays_none : (v : View) → Pays v v 0 0
    pays_none v = record { paid_in = plus (paid_by v); paid_out = plus (drawn_by v) }
      where
        plus : (n : ℕ) → n ≡ n + 0
        plus n = omega arith
either_rests s s_then t t_then rest_t reply (inr (found, turn, refused)) =
    let vain = refused_in_vain t t_then reply refused in
    ((turn.at_rest, looked found turn.pays), (vain.at_rest, vain.pays))

across_ports : (refused : Reply → Type 0) (s s_then t t_then : View) (from to amount : ℕ) → ((reply : Reply) → refused reply → (IsAtRest s_then × Pays s s_then 0 0) × (IsAtRest t_then × Pays t t_then 0 0))
    → (reply : Reply) → MovesAcross refused s s_then t t_then from to amount reply → (n : ℕ) × (IsAtRest s_then × Pays s s_then 0 n) × (IsAtRest t_then × Pays t t_then n 0)
across_ports refused s s_then t t_then from to amount why Done (found, turn, enough, pays, there, other, room, more) = (amount, (turn.at_rest, pays), (other.at_rest, more))
across_ports refused s s_then t t_then from to amount why Short (found, turn, less, there, other) = (0, (turn.at_rest, looked found turn.pays), (other.at_rest, looked there other.pays))
across_ports refused s s_then t t_then from to amount why Over (found, turn, enough, there, other, no_room) = (0, (turn.at_rest, looked found turn.pays), (other.at_rest, looked there other.pays))
across_ports refused s s_then t t_then from to amount why Late h = let w = why Late h in (0, w.0, w.1)
across_ports refused s s_then t t_then from to amount why Closed h = let w = why Closed h in (0, w.0, w.1)
across_ports refused s s_then t t_then from to amount why Busy h = let w = why Busy h in (0, w.0, w.1)
across_ports refused s s_then t t_then from to amount why NoAccount h = absurd h
across_ports refused s s_then t t_then from to amount why SameAccount h = absurd h

pub between_ports : (up : Bool) (s s_then t t_then : View) (from to amount : ℕ) → IsAtRest t → (reply : Reply) → MovesBetween up s s_then t t_then from to amount reply
    → (n m : ℕ) × (IsAtRest s_then × Pays s s_then n m) × (IsAtRest t_then × Pays t t_then m n)
between_ports true s s_then t t_then from to amount rest_t reply moves =
    let (n, source, target) = across_ports (IsRefusedEither s s_then t t_then) s s_then t t_then from to amount (either_rests s s_then t t_then rest_t) reply moves in (0, n, source, target)
between_ports false s s_then t t_then from to amount rest_t reply moves =
    let (n, source, target) = across_ports (IsRefusedEither s s_then t t_then) t t_then s s_then from to amount (λ reply h. let w = either_rests s s_then t t_then rest_t reply h in (w.1, w.0)) reply moves in (n, 0, target, source)

-- a desk is over its lines after a call of two ports, of which one paid in what the other drew
module _ {Line Port : Type 0} (belongs : Line → Port → Type 0) (view : Port → View) (lines : List Line) where
  pub crossed_desk : (d : DeskOf Port) (i j : ℕ) (li lj : Line) (p p_then q q_then : Port) → i ≢ j → IsDeskOver belongs view lines d → slice_get lines i ≡ Some li → slice_get lines j ≡ Some lj
      → slice_get d.ports i ≡ Some p → slice_get d.ports j ≡ Some q → belongs li p_then → belongs lj q_then
      → (n m : ℕ) × (IsAtRest (view p_then) × Pays (view p) (view p_then) n m) × (IsAtRest (view q_then) × Pays (view q) (view q_then) m n)
      → IsDeskOver belongs view lines (record { ports = set (set d.ports i p_then) j q_then; paid_in = d.paid_in; paid_out = d.paid_out })
  crossed_desk d i j li lj p p_then q q_then ne over at_li at_lj at_p at_q belong_p belong_q (n, m, first, second) =
      desk_after belongs view lines (record { ports = set d.ports i p_then; paid_in = d.paid_in + n; paid_out = d.paid_out + m }) j lj q q_then d.paid_in d.paid_out
      (desk_after belongs view lines d i li p p_then (d.paid_in + n) (d.paid_out + m) over at_li at_p belong_p first.0
      (counts (view p) (view p_then) n m d.paid_in d.paid_out (d.paid_in + n) (d.paid_out + m) first.1 (omega arith)))
      at_lj (slice_get-set_other d.ports i j p_then (λ e. ne (sym e)) ∙ at_q) belong_q second.0
      (counts (view q) (view q_then) m n (d.paid_in + n) (d.paid_out + m) d.paid_in d.paid_out second.1 (omega arith))

-- the record of a transfer, by what was done at one port or at two
module _ {Port : Type 0} (view : Port → View) (lines source target amount : ℕ) (d : DeskOf Port) (i j from to : ℕ) (two : AreTwo lines source target)
    (source_line : i ≡ line_of source) (target_line : j ≡ line_of target) (source_lane : from ≡ lane_in source) (target_lane : to ≡ lane_in target) where
  pub transfers_within : (p q : Port) → i ≡ j → slice_get d.ports i ≡ Some p → (reply : Reply) → MovesWithin (view p) (view q) from to amount reply
      → Transfers view lines source target amount d (record { ports = set d.ports i q; paid_in = d.paid_in; paid_out = d.paid_out }) reply
  transfers_within p q same was reply moves = record {
    unknown = λ e. absurd (subst (λ r. MovesWithin (view p) (view q) from to amount r) e moves);
    same = λ e. absurd (subst (λ r. MovesWithin (view p) (view q) from to amount r) e moves);
    two = λ _ _. two;
    within = λ _ _. record {
      port = p;
      port_then = q;
      was = ap (slice_get d.ports) (sym source_line) ∙ was;
      is = ap (λ n. set d.ports n q) source_line;
      does = subst (λ k. MovesWithin (view p) (view q) (lane_in source) k amount reply) target_lane (subst (λ k. MovesWithin (view p) (view q) k to amount reply) source_lane moves);
    };
    up = λ _ lt. absurd (omega (arith, lt, source_line, target_line, same));
    down = λ _ lt. absurd (omega (arith, lt, source_line, target_line, same));
    paid_in = refl;
    paid_out = refl;
  }

  changes_two : (Does : ℕ → ℕ → View → View → View → View → Type 0) (ports : List Port) (p p_then q q_then : Port) → ports ≡ set (set d.ports i p_then) j q_then → slice_get d.ports i ≡ Some p → slice_get d.ports j ≡ Some q → Does from to (view p) (view p_then) (view q) (view q_then)
      → ChangesTwo view (line_of source) (line_of target) (Does (lane_in source) (lane_in target)) d.ports ports
  changes_two Does ports p p_then q q_then is was_p was_q does = record {
    one = p;
    one_then = p_then;
    other = q;
    other_then = q_then;
    one_was = ap (slice_get d.ports) (sym source_line) ∙ was_p;
    other_was = ap (slice_get d.ports) (sym target_line) ∙ was_q;
    is = is ∙ ap (λ n. set (set d.ports n p_then) j q_then) source_line ∙ ap (λ n. set (set d.ports (line_of source) p_then) n q_then) target_line;
    does = subst (λ k. Does (lane_in source) k (view p) (view p_then) (view q) (view q_then)) target_lane (subst (λ k. Does k to (view p) (view p_then) (view q) (view q_then)) source_lane does);
  }

  -- a transfer at two ports, the lower line's and the higher's, of which the lower pays if `up` says so
  pub transfers_between : (low high : ℕ) (p p_then q q_then : Port) (up : Bool) → ((up ≡ true) × (i < j) × (low ≡ i) × (high ≡ j)) ⊎ ((up ≡ false) × (j < i) × (low ≡ j) × (high ≡ i))
      → slice_get d.ports low ≡ Some p → slice_get d.ports high ≡ Some q → (reply : Reply) → MovesBetween up (view p) (view p_then) (view q) (view q_then) from to amount reply
      → Transfers view lines source target amount d (record { ports = set (set d.ports low p_then) high q_then; paid_in = d.paid_in; paid_out = d.paid_out }) reply
  transfers_between low high p p_then q q_then up order was_p was_q reply moves = record {
    unknown = λ e. absurd (none up (subst (λ r. MovesBetween up (view p) (view p_then) (view q) (view q_then) from to amount r) e moves));
    same = λ e. absurd (nor_same up (subst (λ r. MovesBetween up (view p) (view p_then) (view q) (view q_then) from to amount r) e moves));
    two = λ _ _. two;
    within = λ _ e. elim order [
      | inl o ↦ absurd (omega (arith, e, source_line, target_line, o.1))
      | inr o ↦ absurd (omega (arith, e, source_line, target_line, o.1))
    ];
    up = λ _ lt. elim order [
      | inl (is_up, less, low_is, high_is) ↦
          changes_two (λ from to s s' t t'. MovesAcross (IsRefusedEither s s' t t') s s' t t' from to amount reply) _ p p_then q q_then
          (ap (λ n. set (set d.ports n p_then) high q_then) low_is ∙ ap (λ n. set (set d.ports i p_then) n q_then) high_is)
          (ap (slice_get d.ports) (sym low_is) ∙ was_p) (ap (slice_get d.ports) (sym high_is) ∙ was_q)
          (subst (λ b. MovesBetween b (view p) (view p_then) (view q) (view q_then) from to amount reply) is_up moves)
      | inr (is_up, less, low_is, high_is) ↦ absurd (omega (arith, lt, source_line, target_line, less))
    ];
    down = λ _ lt. elim order [
      | inl (is_up, less, low_is, high_is) ↦ absurd (omega (arith, lt, source_line, target_line, less))
      | inr (is_up, less, low_is, high_is) ↦
          changes_two (λ from to s s' t t'. MovesAcross (IsRefusedEither t t' s s') s s' t t' from to amount reply) _ q q_then p p_then
          (ap (λ n. set (set d.ports n p_then) high q_then) low_is ∙ ap (λ n. set (set d.ports j p_then) n q_then) high_is ∙ set_swap d.ports j i p_then q_then (λ e. absurd (omega (arith, less, e))))
          (ap (slice_get d.ports) (sym high_is) ∙ was_q) (ap (slice_get d.ports) (sym low_is) ∙ was_p)
          (subst (λ b. MovesBetween b (view p) (view p_then) (view q) (view q_then) from to amount reply) is_up moves)
    ];
    paid_in = refl;
    paid_out = refl;
  }
    where
      none : (up : Bool) → MovesBetween up (view p) (view p_then) (view q) (view q_then) from to amount NoAccount → ⊥
      none true h = h
      none false h = h

      nor_same : (up : Bool) → MovesBetween up (view p) (view p_then) (view q) (view q_then) from to amount SameAccount → ⊥
      nor_same true h = h
      nor_same false h = h

-- nothing is moved if there is no such account
pub transfers_none : {Port : Type 0} (view : Port → View) (lines source target amount : ℕ) (d : DeskOf Port) → (8 * lines ≤ source) ⊎ (8 * lines ≤ target) → Transfers view lines source target amount d d NoAccount
transfers_none view lines source target amount d why = record {
  unknown = λ _. (why, refl);
  same = λ e. absurd (other e);
  two = λ known _. absurd (known refl);
  within = λ two _. absurd (beyond why two);
  up = λ two _. absurd (beyond why two);
  down = λ two _. absurd (beyond why two);
  paid_in = refl;
  paid_out = refl;
}
  where
    other : NoAccount ≡ SameAccount → ⊥
    other e = cc e

    beyond : (8 * lines ≤ source) ⊎ (8 * lines ≤ target) → AreTwo lines source target → ⊥
    beyond (inl h) two = omega (arith, h, two.source_known)
    beyond (inr h) two = omega (arith, h, two.target_known)
