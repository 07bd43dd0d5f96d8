-- Lemmas about what two ports know after each has learned what the other one knew.
use Rattle.std.proofs.Common.{ℕ, inl, inr, List, [], ◌∷◌, refl, sym, subst}
use Rattle.std.proofs.lemmas.List.Folds.{list_any-append}
use Rattle.qolb_model.specs.declared.view.View.{View}
use Rattle.qolb_model.specs.Requests.{is_same}
use Rattle.qolb_model.specs.OneHistory.{IsAmong, OneHistory}
use Rattle.qolb_model.specs.Meeting.{Meets, merged_view}
use Rattle.qolb_model.specs.Calls.{MergesViews}
use Rattle.qolb_model.proofs.Agreeing.{among_first, among_second, among_two, history_of_some}

-- each port then knows what both knew
pub meets_view : (v u : View) → Meets v u (merged_view v u)
meets_view v u = record {
  order = refl;
  ends = refl;
  clear = refl;
  joined = λ r. list_any-append (is_same r) v.joined u.joined;
  marked = λ r. list_any-append (is_same r) v.marked u.marked;
  freed = λ r. list_any-append (is_same r) v.freed u.freed;
  state = refl;
  count = refl;
}

-- the order of two views does not matter
pub swapped : (v u : View) → OneHistory (v ∷ u ∷ []) → OneHistory (u ∷ v ∷ [])
swapped v u h = history_of_some (v ∷ u ∷ []) (u ∷ v ∷ []) h (λ w i. elim (among_two u v w i) [
  | inl e ↦ subst (IsAmong (v ∷ u ∷ [])) (sym e) (among_second v u [])
  | inr e ↦ subst (IsAmong (v ∷ u ∷ [])) (sym e) (among_first v (u ∷ []))
])

pub tell_swapped : {allows : List ℕ → List ℕ → Type 0} {v u v' u' : View} → MergesViews allows v u v' u' → MergesViews allows u v u' v'
tell_swapped {v = v} {u = u} {v' = v'} {u' = u'} t = record {
  apart = λ e. t.apart (sym e);
  before = swapped v u t.before;
  after = swapped v' u' t.after;
  continues_a = t.continues_b;
  continues_b = t.continues_a;
  meets_a = t.meets_b;
  meets_b = t.meets_a;
  one_holds = λ held other. t.one_holds other held;
  holds_a = t.holds_b;
  holds_b = t.holds_a;
}
