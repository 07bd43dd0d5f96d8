-- Lemmas about the bytes of a line after each request has ended, and about the line's data invariant, which these bytes
-- satisfy.
use Rattle.std.proofs.Common.{◌≡◌, ℕ, zero, suc, Bool, true, false, List, [], ◌∷◌, ◌++◌, replicate, filter, refl, ◌∙◌}
use Rattle.qolb_model.specs.declared.write.Write.{Write}
use Rattle.qolb_model.specs.declared.end.End.{End}
use Rattle.qolb_model.specs.declared.end.End.TheVariants.{Served, Gone, Told}
use Rattle.qolb_model.specs.Ends.{MayEnd, written, bytes_after}
use Rattle.qolb_model.specs.EndKinds.{is_served}
use Rattle.qolb_model.specs.Kept.{AreAllowed}
use Rattle.qolb_model.proofs.Histories.{bytes_after-append}

-- only served ends change bytes
pub bytes_after-served : (bytes : List ℕ) (ends : List End) → bytes_after bytes (filter is_served ends) ≡ bytes_after bytes ends
bytes_after-served bytes [] = refl
bytes_after-served bytes (Served write shut ∷ ends) = bytes_after-served (written bytes write) ends
bytes_after-served bytes (Gone ∷ ends) = bytes_after-served bytes ends
bytes_after-served bytes (Told ∷ ends) = bytes_after-served bytes ends

-- passed requests change none
pub bytes_after-passed : (bytes : List ℕ) (passed : ℕ) → bytes_after bytes (replicate passed Gone) ≡ bytes
bytes_after-passed bytes zero = refl
bytes_after-passed bytes (suc passed) = bytes_after-passed bytes passed

-- a release leaves the bytes that its turn wrote
pub bytes_after-release : (bytes : List ℕ) (ends : List End) (write : Write) (shut : Bool) (passed : ℕ) → bytes_after bytes (ends ++ Served write shut ∷ replicate passed Gone) ≡ written (bytes_after bytes ends) write
bytes_after-release bytes ends write shut passed =
    bytes_after-append bytes ends (Served write shut ∷ replicate passed Gone) ∙ bytes_after-passed (written (bytes_after bytes ends) write) passed

-- bytes that are good at the opening stay good under turns that keep the data invariant
pub good_after :
    (good : List ℕ → Type 0) (allows : List ℕ → List ℕ → Type 0)
    (stays_good : (old new : List ℕ) → good old → allows old new → good new)
    (bytes : List ℕ) (ends : List End) → good bytes → AreAllowed allows bytes ends → good (bytes_after bytes ends)
good_after good allows stays_good bytes [] g k = g
good_after good allows stays_good bytes (Served write shut ∷ ends) g k =
    good_after good allows stays_good (written bytes write) ends (stays_good bytes (written bytes write) g k.0) k.1
good_after good allows stays_good bytes (Gone ∷ ends) g k = good_after good allows stays_good bytes ends g k
good_after good allows stays_good bytes (Told ∷ ends) g k = good_after good allows stays_good bytes ends g k

-- the data invariant kept by two lists of ends, one after the other
pub allowed-append : (allows : List ℕ → List ℕ → Type 0) (bytes : List ℕ) (xs ys : List End) → AreAllowed allows bytes xs → AreAllowed allows (bytes_after bytes xs) ys → AreAllowed allows bytes (xs ++ ys)
allowed-append allows bytes [] ys h k = k
allowed-append allows bytes (Served write shut ∷ xs) ys h k = (h.0, allowed-append allows (written bytes write) xs ys h.1 k)
allowed-append allows bytes (Gone ∷ xs) ys h k = allowed-append allows bytes xs ys h k
allowed-append allows bytes (Told ∷ xs) ys h k = allowed-append allows bytes xs ys h k

-- a prefix of ends that keep the data invariant keeps it
pub allowed-begins : (allows : List ℕ → List ℕ → Type 0) (bytes : List ℕ) (xs ys : List End) → AreAllowed allows bytes (xs ++ ys) → AreAllowed allows bytes xs
allowed-begins allows bytes [] ys h = tt
allowed-begins allows bytes (Served write shut ∷ xs) ys h = (h.0, allowed-begins allows (written bytes write) xs ys h.1)
allowed-begins allows bytes (Gone ∷ xs) ys h = allowed-begins allows bytes xs ys h
allowed-begins allows bytes (Told ∷ xs) ys h = allowed-begins allows bytes xs ys h

-- a closed line serves no request
pub not_served : (last : Bool) (e : End) → MayEnd true last e → is_served e ≡ false
not_served last (Served write shut) h = h.0
not_served last Gone h = refl
not_served last Told h = refl
