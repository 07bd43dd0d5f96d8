-- Lemmas about adding ended requests to the clear list. (The clear list contains the requests whose nodes may make
-- another request.)
use Rattle.std.proofs.Common.{◌≡◌, ◌≢◌, ℕ, ◌<◌, ◌≤◌, Bool, true, false, List, [], ◌∷◌, ◌++◌, length, sym, ◌∙◌, ap, subst, inl, inr}
use Rattle.link_core.specs.Places.{request, requester_at, IsLast}
use Rattle.qolb_model.specs.Histories.{Clears, more}
use Rattle.qolb_model.specs.Requests.{count_of, has}
use Rattle.qolb_model.specs.declared.request.Request.{Request}
use Rattle.link_core.specs.State.{State, IsNode}
use Rattle.std.proofs.lemmas.Bool.{cases_eq, cases_Bool}
use Rattle.qolb_model.proofs.Requests.{has_push, has_last}
use Rattle.qolb_model.proofs.Follows.{has_push_other}
use Rattle.link_core.proofs.Orders.{get_request, last_once}

-- the clear list, in which the last requests are as f says
pub record Cleared (c : State) (o : List Request) (t : ℕ) (old : List Request) (f : ℕ → Bool) : Type 0 where
  pub clear : List Request
  pub grows : Clears o t old clear
  pub says : (m q : ℕ) → IsNode c m → IsLast o m q → has clear (request o q) ≡ f m
  pub known : (r : Request) → has clear r ≡ true → r.number ≤ count_of r.node o

module _ (c : State) (o : List Request) (t : ℕ) (old : List Request) (numbered : (p : ℕ) → p < length o → (request o p).number ≤ count_of (requester_at o p) o) where
  -- nothing is cleared
  pub same_cleared : (f g : ℕ → Bool) → Cleared c o t old f → ((m q : ℕ) → IsNode c m → IsLast o m q → g m ≡ f m) → Cleared c o t old g
  same_cleared f g k e = record { clear = k.clear; grows = k.grows; says = λ m q a l. k.says m q a l ∙ sym (e m q a l); known = k.known }

  -- n's last request is put on the list
  pub push_cleared : (f g : ℕ → Bool) (n p : ℕ) → Cleared c o t old f → IsLast o n p → IsNode c n → p < t → f n ≡ false → g n ≡ true → ((m q : ℕ) → m ≢ n → IsNode c m → IsLast o m q → g m ≡ f m) → Cleared c o t old g
  push_cleared f g n p k l a u fn gn e = record {
    clear = k.clear ++ request o p ∷ [];
    grows = more p (request o p) k.grows u (get_request o p l.known) (k.says n p a l ∙ fn);
    says = λ m q b j. elim (cases_eq m n) [
      | inl s ↦ let i : q ≡ p = last_once o n q p (subst (λ (m : ℕ). IsLast o m q) s j) l in rw (s, i, gn) (has_last k.clear (request o p))
      | inr ne ↦ has_push_other k.clear (request o p) (request o q) (λ s. ne (sym j.its ∙ s ∙ l.its)) ∙ k.says m q b j ∙ sym (e m q ne b j)
    ];
    known = λ r y. elim (has_push k.clear (request o p) r y) [
      | inl z ↦ k.known r z
      | inr z ↦ subst (λ (x : Request). x.number ≤ count_of x.node o) (sym z) (numbered p l.known)
    ];
  }

  -- n's last request is put on the list if it has become clear
  pub may_push_cleared : (f g : ℕ → Bool) (n p : ℕ) → Cleared c o t old f → IsLast o n p → IsNode c n → f n ≡ false → (g n ≡ true → p < t) → ((m q : ℕ) → m ≢ n → IsNode c m → IsLast o m q → g m ≡ f m) → Cleared c o t old g
  may_push_cleared f g n p k l a fn u e = elim (cases_Bool (g n)) [
    | inl y ↦ push_cleared f g n p k l a (u y) fn y e
    | inr y ↦ same_cleared f g k (λ m q b j. elim (cases_eq m n) [ inl s ↦ ap g s ∙ y ∙ sym fn ∙ ap f (sym s) | inr ne ↦ e m q ne b j ])
  ]
