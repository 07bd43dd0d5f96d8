-- Proof that the first state of a line represents the empty queue.
use Rattle.std.proofs.Common.{◌≡◌, ℕ, zero, suc, ◌+◌, ◌<◌, ◌≤◌, true, false, List, [], ◌∷◌, length, refl, sym, ◌∙◌, ap, subst, arith}
use Rattle.std.specs.Prelude.{slice_index_or}
use Rattle.link_core.specs.declared.point.Point.{Point}
use Rattle.link_core.specs.declared.point.Point.TheVariants.{Idle}
use Rattle.qolb_model.specs.Queue.{empty_queue}
use Rattle.qolb_model.specs.declared.config.LineConfig.{LineConfig}
use Rattle.qolb_model.proofs.Leases.{turns_left-none}
use Rattle.link_core.specs.declared.state.TheConstants.{PLACES}
use Rattle.link_core.specs.State.{NodeCall, seat, point}
use Rattle.link_core.specs.Shown.{at_home, Sits, Matches}
use Rattle.std.specs.Prelude.{replicate}
use Rattle.link_core.specs.State.{empty, unused, first}
use Rattle.link_core.specs.declared.entry.Entry.{Entry}

pub seat_first : (k n : ℕ) → slice_index_or (replicate k unused) n unused ≡ unused
seat_first zero n = refl
seat_first (suc k) zero = refl
seat_first (suc k) (suc n) = seat_first k n

pub entry_first : (k n : ℕ) → slice_index_or (replicate k empty) n empty ≡ empty
entry_first zero n = refl
entry_first (suc k) zero = refl
entry_first (suc k) (suc n) = entry_first k n

pub first_matches : (config : LineConfig) → length config.opening.bytes ≡ 64 → Matches config (first config) empty_queue
first_matches config long = record {
  opened = long;
  size = refl;
  turns = turns_left-none config.lease;
  known = omega arith;
  nodes = λ p l. absurd (omega arith);
  numbered = λ p l. absurd (omega arith);
  marked_known = λ r e. let z : false ≡ true = e in cc;
  clear_known = λ r e. let z : false ≡ true = e in cc;
  distinct = λ p a l. absurd (omega arith);
  home_idle = λ e. refl;
  home_last = λ p a e. absurd (omega arith);
  links = λ p a l. absurd (omega arith);
  last_link = λ p a e. absurd (omega arith);
  lies = at_home refl refl (record { bytes = refl; closed = refl });
  marks = λ p a l. absurd (omega arith);
  clears = λ n p a l. let k = l.known in absurd (omega arith);
  sits = λ n a. subst (λ (p : Point). Sits (first config) [] [] n p) (sym (idle n)) (λ p l. let k = l.known in absurd (omega arith));
  fresh = λ p a l. absurd (omega arith);
  passes = λ n i a l. absurd (none n i l);
  once = λ n m i j a b k l e. absurd (none n i k);
  unpassed = λ n a e. ap (λ (s : NodeCall). s.passed) (seat_first PLACES n);
  settled = record {
    boxed = λ n a dn un. let z : false ≡ true = ap (λ (w : Entry). w.done) (sym (entry_first PLACES n)) ∙ dn in cc;
    rests = λ nowhere p r e l. let z : p + 1 ≡ 0 = l in absurd (omega arith);
    bounded = λ n a. subst (λ (w : Entry). w.link ≤ config.nodes) (sym (entry_first PLACES n)) (omega arith);
  };
}
  where
    idle : (n : ℕ) → point (first config) n ≡ Idle
    idle n = ap (λ (s : NodeCall). s.point) (seat_first PLACES n)

    none : (n i : ℕ) → i < length (seat (first config) n).passed → ⊥
    none n i l = let z : i < length (unused).passed = subst (λ (s : NodeCall). i < length s.passed) (seat_first PLACES n) l in omega arith

-- a list of one value
pub all_same : {A : Type 0} (xs : List A) (x : A) (n : ℕ) → length xs ≡ n → ((i : ℕ) (d : A) → i < n → slice_index_or xs i d ≡ x) → xs ≡ replicate n x
all_same [] x n e f = subst (λ (n : ℕ). [] ≡ replicate n x) e refl
all_same (y ∷ ys) x zero e f = let z : suc (length ys) ≡ 0 = e in absurd (omega arith)
all_same (y ∷ ys) x (suc n) e f = let h : y ≡ x = f 0 y (omega arith) in
    rw (h, all_same ys x n (let z : suc (length ys) ≡ suc n = e in omega arith) (λ i d l. f (suc i) d (omega arith))) refl
