-- Lemmas about emptying the slots of a table one after another, once no other thread shares the table.
use Rattle.std.proofs.Common.{◌≡◌, ◌≢◌, ℕ, zero, suc, ◌+◌, ◌<◌, ◌≤◌, List, [], ◌∷◌, Bool, true, false, set, slice_index, slice_index_or, sym, refl, ap, ◌∙◌, subst, arith, get_or-set_other}
use mathlib.Core.Logic.{dite}
use mathlib.Core.Option.{some, some-ne-none}
use native.Mathlib.Decide.{ℕ_discrete}
use lib.ListN.{get_elem?}
use Rattle.line_generic.specs.declared.table.Payload.{Payload}

-- The slots below `at` are empty, and the slots from there on are full, as they were. Once a place is passed, its line
-- is found.
pub record AreEmptied (count place at : ℕ) (old items : List Payload) (filled : List Bool) (long : ℕ) (line : Payload) : Type 0 where
  pub seat : items ≡ old
  pub many : long ≡ count
  pub empty : (k : ℕ) → k < at → slice_index_or filled k false ≡ false
  pub full : (k : ℕ) → at ≤ k → k < count → slice_index_or filled k false ≡ true
  pub found : place < at → get_elem? old place ≡ some line

emptied_here : (filled : List Bool) (i : ℕ) → slice_index_or (set filled i false) i false ≡ false
emptied_here [] i = refl
emptied_here (b ∷ bs) zero = refl
emptied_here (b ∷ bs) (suc i) = emptied_here bs i

emptied_else : (filled : List Bool) (i k : ℕ) → k ≢ i → slice_index_or (set filled i false) k false ≡ slice_index_or filled k false
emptied_else filled i k ne = get_or-set_other filled i k false false (λ e. ne (omega arith))

-- one more slot
pub empties : (count place at : ℕ) (old items : List Payload) (filled : List Bool) (long : ℕ) (line : Payload) → AreEmptied count place at old items filled long line
    → (items' : List Payload) (filled' : List Bool) (long' : ℕ) (payload line' : Payload) → get_elem? items at ≡ some payload → items' ≡ items → filled' ≡ set filled at false → long' ≡ long
    → (at ≡ place → line' ≡ payload) → (at ≢ place → line' ≡ line) → AreEmptied count place (at + 1) old items' filled' long' line'
empties count place at old items filled long line k items' filled' long' payload line' here same emptied many is else = record {
  seat = same ∙ k.seat;
  many = many ∙ k.many;
  empty = λ i low. ap (λ fs. slice_index_or fs i false) emptied ∙ dite (ℕ_discrete i at) (λ e. subst (λ q. slice_index_or (set filled at false) q false ≡ false) (sym e) (emptied_here filled at)) (λ ne. emptied_else filled at i ne ∙ k.empty i (omega arith));
  full = λ i high few. ap (λ fs. slice_index_or fs i false) emptied ∙ emptied_else filled at i (λ e. omega arith) ∙ k.full i (omega arith) few;
  found = λ low. dite (ℕ_discrete at place)
      (λ e. subst (λ q. get_elem? old q ≡ some line') e (subst (λ xs. get_elem? xs at ≡ some line') k.seat (here ∙ ap some (sym (is e)))))
      (λ ne. k.found (omega arith) ∙ ap some (sym (else ne)));
}

-- no slot is emptied yet
pub emptied_none : (count place : ℕ) (old : List Payload) (filled : List Bool) (long : ℕ) (line : Payload) → long ≡ count → ((k : ℕ) → 0 ≤ k → k < long → slice_index_or filled k false ≡ true) → AreEmptied count place 0 old old filled long line
emptied_none count place old filled long line many full = record { seat = refl; many = many; empty = λ k low. absurd (omega arith); full = λ k low few. full k low (omega arith); found = λ low. absurd (omega arith) }

-- a word that is read
pub word_read : (words : List ℕ) (i word : ℕ) → get_elem? words i ≡ some word → slice_index words i ≡ word
word_read [] i word e = absurd (some-ne-none word (sym e))
word_read (x ∷ xs) zero word e = cc
word_read (x ∷ xs) (suc i) word e = word_read xs i word e
