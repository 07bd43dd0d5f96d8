-- Lemmas about the lists of ports that the tests use.
use Rattle.std.proofs.Common.{◌≡◌, ℕ, List, [], ◌∷◌, ◌++◌, Bool, true, false, if◌then◌else◌, suc, ◌<◌, length, arith, sym, subst, get_or, All}
use Rattle.std.proofs.lemmas.List.Elements.{All-push}
use Rattle.std.specs.List.{swap_remove}
use Rattle.std.proofs.lemmas.List.Sorted.{IsPermutation-swap_remove, All-permutation}
use Rattle.qolb_model.specs.declared.view.View.{View}
use Rattle.test_calls.specs.Rows.{IsTheirs, AreTheirs}

module _ {Line Port : Type 0} (belongs : Line → Port → Type 0) (view : Port → View) (label_of : Line → ℕ) (line : Line) where
  abbrev Theirs : Port → Type 0
  Theirs = IsTheirs belongs view label_of line

  -- the ports of a new line
  pub theirs_opened : (ports : List Port) → All (belongs line) ports → AreTheirs belongs view label_of line ports
  theirs_opened ports own = λ k d l _. own k d l

  -- one port fewer
  pub theirs_taken : (ports new : List Port) (i : ℕ) (p : Port) → new ≡ swap_remove ports i p → i < length ports → p ≡ get_or ports i p → AreTheirs belongs view label_of line ports → AreTheirs belongs view label_of line new
  theirs_taken ports new i p e within is h =
      let all : All Theirs (p ∷ swap_remove ports i p) = All-permutation Theirs ports (p ∷ swap_remove ports i p) (IsPermutation-swap_remove ports i p within is) h in
      subst (All Theirs) (sym e) (λ k d l. all (suc k) d (omega arith))

  -- one port more
  pub theirs_put : (r : Bool) (ports new : List Port) (p : Port) → new ≡ (if r then ports ++ p ∷ [] else ports) → AreTheirs belongs view label_of line ports → Theirs p → AreTheirs belongs view label_of line new
  theirs_put true ports new p e h own = subst (All Theirs) (sym e) (All-push Theirs ports p h own)
  theirs_put false ports new p e h own = subst (All Theirs) (sym e) h
