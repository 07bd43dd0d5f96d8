-- Lemmas about how a grant appends the end of a request to the history of the line.
use Rattle.std.proofs.Common.{◌≡◌, ◌≢◌, ℕ, ◌+◌, ◌<◌, List, [], ◌∷◌, ◌++◌, length, Bool, true, false, sym, refl, ap, ◌∙◌, subst, ⊎_elim, arith, length-append}
use Rattle.qolb_model.specs.declared.answer.PortState.TheVariants as port_state
use Rattle.qolb_model.specs.declared.request.Request.{Request}
use Rattle.qolb_model.specs.declared.end.End.{End}
use Rattle.qolb_model.specs.declared.end.End.TheVariants.{Served, Gone, Told}
use Rattle.qolb_model.specs.Requests.{Has}
use Rattle.qolb_model.specs.Ends.{is_closed, MayEnd, bytes_after}
use Rattle.qolb_model.specs.EndKinds.{is_gone}
use Rattle.qolb_model.specs.Kept.{AreAllowed}
use Rattle.qolb_model.specs.Leases.{is_last_turn}
use Rattle.qolb_model.specs.PortStates.{state_after}
use Rattle.qolb_model.proofs.Lists.{push_cases}
use Rattle.qolb_model.proofs.Histories.{legal_end, bytes_after-append}
use Rattle.qolb_model.proofs.Writes.{allowed-append}
use Rattle.line_generic.specs.declared.table.TableKey.{TableKey}
use Rattle.line_generic.specs.declared.table.Payload.{Payload}
use Rattle.line_cells.specs.Array.{At, History, HistoryInv}
use Rattle.line_cells.specs.Steps.{end_of}
use Rattle.qolb_model.proofs.Clearing.{clears_later}
use Rattle.qolb_model.proofs.Prefixes.{prefix_self}

pub not_holding : (b : Bool) → state_after b ≢ port_state.Holding
not_holding false e = cc
not_holding true e = cc

pub own_not_gone : (l : List ℕ) (b : Bool) (y : Payload) → l ≡ [] → is_gone (end_of l b y) ≡ false
own_not_gone [] false y e = refl
own_not_gone [] true y e = refl
own_not_gone (p ∷ ps) b y e = absurd (cc e)

pub passed_gone : (l : List ℕ) (b : Bool) (y : Payload) → l ≢ [] → is_gone (end_of l b y) ≡ true
passed_gone [] b y ne = absurd (ne refl)
passed_gone (p ∷ ps) b y ne = refl

module _ (good : List ℕ → Type 0) (allows : List ℕ → List ℕ → Type 0) (key : TableKey) where
  sound_end : ((a b : List ℕ) → good a → allows a b → good b) → (bytes : List ℕ) (e : End) → good bytes → AreAllowed allows bytes (e ∷ []) → good (bytes_after bytes (e ∷ []))
  sound_end goes bytes (Served w s) g a = goes bytes _ g a.0
  sound_end goes bytes Gone g a = g
  sound_end goes bytes Told g a = g

  -- the request at its turn ends, while a node has the line
  pub fine_end : ((a b : List ℕ) → good a → allows a b → good b) → (x : History) (e : End) (releaser_of : ℕ → ℕ) → HistoryInv good allows key x → x.holder ≢ 0 → length x.ends < length x.order → MayEnd (is_closed x.ends) (is_last_turn key.config.lease x.ends) e
      → AreAllowed allows (bytes_after key.config.opening.bytes x.ends) (e ∷ []) → (is_gone e ≡ true → 0 < x.marks (length x.ends)) → (0 < x.marks (length x.ends) → is_gone e ≡ true)
      → HistoryInv good allows key (record x { ends = x.ends ++ e ∷ []; cleared = false; releaser_of = releaser_of })
  fine_end goes x e releaser_of f held more follows allowed gone marked = record {
    legal = legal_end key.config.lease x.order x.ends e f.legal more follows;
    nodes = f.nodes;
    kept = allowed-append allows key.config.opening.bytes x.ends (e ∷ []) f.kept allowed;
    sound = subst good (sym (bytes_after-append key.config.opening.bytes x.ends (e ∷ []))) (sound_end goes (bytes_after key.config.opening.bytes x.ends) e f.sound allowed);
    within = f.within;
    cleared = clears_later (prefix_self x.order) (let l = length-append x.ends (e ∷ []) in omega arith) f.cleared;
    nobody = λ h. absurd (held h);
    settled = λ h. absurd (held h);
    marked = f.marked;
    gone = λ p end at. ⊎_elim (λ z. f.gone p end z.1)
        (λ z. ((λ g. subst (λ q. 0 < x.marks q) (sym z.0) (gone (sym (ap is_gone z.1) ∙ g))), (λ k. ap is_gone z.1 ∙ marked (subst (λ q. 0 < x.marks q) z.0 k)))) (push_cases x.ends e p end at);
  }

  -- the line returns to its home slot
  pub fine_home : (x : History) → HistoryInv good allows key x → x.marks (length x.ends) ≡ 0 → ((p : ℕ) (r : Request) (end : End) → p + 1 ≡ length x.ends → At x.order p r → At x.ends p end → is_gone end ≡ false → Has x.clear r)
      → HistoryInv good allows key (record x { holder = 0; cleared = false })
  fine_home x f free settled = record {
    legal = f.legal;
    nodes = f.nodes;
    kept = f.kept;
    sound = f.sound;
    within = omega arith;
    cleared = f.cleared;
    nobody = λ _. (refl, free);
    settled = λ _. settled;
    marked = f.marked;
    gone = f.gone;
  }
