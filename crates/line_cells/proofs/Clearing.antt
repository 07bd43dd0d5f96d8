-- Lemmas about adding a request to the list of clear requests. A node can make its next request once its last request
-- is clear.
use Rattle.std.proofs.Common.{◌≡◌, ◌≢◌, ℕ, ◌<◌, List, [], ◌∷◌, ◌++◌, length, true, false, sym, refl}
use Rattle.qolb_model.specs.declared.request.Request.{Request}
use Rattle.qolb_model.specs.Requests.{Has, Lacks}
use Rattle.qolb_model.specs.Histories.{more}
use Rattle.qolb_model.proofs.Requests.{has_left}
use Rattle.qolb_model.proofs.Lists.{at_none}
use Rattle.line_cells.specs.declared.local.Point.{Point}
use Rattle.line_cells.specs.declared.local.Point.TheVariants.{Idle, Freeing}
use Rattle.line_generic.specs.declared.table.TableKey.{TableKey}
use Rattle.line_cells.specs.Array.{At, History, HistoryInv, has_line, is_releasing}
use Rattle.line_cells.specs.Steps.{after_walk}

-- the point of the node after a release
pub not_after : (l : List ℕ) (a : Point) → a ≢ Idle → a ≢ Freeing → after_walk l ≢ a
not_after [] a i f e = i (sym e)
not_after (p ∷ ps) a i f e = f (sym e)

pub no_line_after : (l : List ℕ) → has_line (after_walk l) ≡ false
no_line_after [] = refl
no_line_after (p ∷ ps) = refl

pub goes_after : (l : List ℕ) (i p : ℕ) → At l i p → is_releasing (after_walk l) ≡ true
goes_after [] i p at = absurd (at_none i p at)
goes_after (q ∷ qs) i p at = refl

-- the node's own request is put on the clear list if no passed node is left
abbrev pub clear_with : Request → List ℕ → List Request → List Request
clear_with r [] clear = clear ++ r ∷ []
clear_with r (p ∷ ps) clear = clear

pub more_clear : (r : Request) (l : List ℕ) (clear : List Request) (s : Request) → Has clear s → Has (clear_with r l clear) s
more_clear r [] clear s h = has_left clear (r ∷ []) s h
more_clear r (p ∷ ps) clear s h = h

pub still_unclear : (r : Request) (l : List ℕ) (clear : List Request) (s : Request) (i p : ℕ) → At l i p → Lacks clear s → Lacks (clear_with r l clear) s
still_unclear r [] clear s i p at h = absurd (at_none i p at)
still_unclear r (q ∷ qs) clear s i p at h = h

module _ (good : List ℕ → Type 0) (allows : List ℕ → List ℕ → Type 0) (key : TableKey) where
  pub fine_clear : (x : History) (place : ℕ) (r : Request) → HistoryInv good allows key x → place < length x.ends → At x.order place r → Lacks x.clear r → HistoryInv good allows key (record x { clear = x.clear ++ r ∷ [] })
  fine_clear x place r f ended at unclear = record {
    legal = f.legal;
    nodes = f.nodes;
    kept = f.kept;
    sound = f.sound;
    within = f.within;
    cleared = more place r f.cleared ended at unclear;
    nobody = f.nobody;
    settled = λ h p q end before a b kind. has_left x.clear (r ∷ []) q (f.settled h p q end before a b kind);
    marked = f.marked;
    gone = f.gone;
  }

  pub fine_flags : (x : History) (flags : ℕ → ℕ) → HistoryInv good allows key x → HistoryInv good allows key (record x { flags = flags })
  fine_flags x flags f = record { legal = f.legal; nodes = f.nodes; kept = f.kept; sound = f.sound; within = f.within; cleared = f.cleared; nobody = f.nobody; settled = f.settled; marked = f.marked; gone = f.gone }
