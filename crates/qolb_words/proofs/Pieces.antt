-- Lemmas about a text that is written piece by piece.
use Rattle.std.proofs.Common.{◌≡◌, ℕ, List, ◌++◌, ap, ◌∙◌, append_assoc}

-- `now` is `start`, with `text` behind it
pub record Written (start text now : List ℕ) : Type 0 where
  pub is : now ≡ start ++ text

-- A text as its first piece, followed by one piece after another: `begins start a why ▸ piece b why ▸ piece c why`.
pub record Piece (was a now : List ℕ) : Type 0 where
  pub pushed : now ≡ was ++ a

infixl 5 ◌▸◌
pub begins : (start a : List ℕ) {now : List ℕ} → now ≡ start ++ a → Written start a now
begins start a pushed = record { is = pushed }

pub piece : (a : List ℕ) {was now : List ℕ} → now ≡ was ++ a → Piece was a now
piece a pushed = record { pushed = pushed }

pub ◌▸◌ : {start text was a now : List ℕ} → Written start text was → Piece was a now → Written start (text ++ a) now
◌▸◌ {start = start} {text = text} {a = a} written more = record { is = more.pushed ∙ ap (λ x. x ++ a) written.is ∙ append_assoc start text a }
