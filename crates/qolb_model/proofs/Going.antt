-- Lemmas about what remains true of a port's view over several steps of the port. The lemmas hold for every kind of
-- line.
use Rattle.std.proofs.Common.{◌≡◌, ℕ, ◌≤◌, List, true, false, sym, refl, ◌∙◌, subst, ap, Some, ⊎_elim, arith}
use Rattle.qolb_model.specs.declared.config.LineConfig.{LineConfig}
use Rattle.qolb_model.specs.declared.view.View.{View}
use Rattle.qolb_model.specs.Requests.{Has}
use Rattle.qolb_model.specs.Views.{own, Extends}
use Rattle.qolb_model.specs.Sound.{Continues, IsSound}
use Rattle.qolb_model.specs.Enqueueing.{IsBusy, IsClear, Asks, IsJoined}
use Rattle.qolb_model.proofs.Prefixes.{prefix_self, prefix_get, prefix_length}
use Rattle.qolb_model.proofs.Requests.{same_request, has_prefix}
use Rattle.qolb_model.proofs.Agreeing.{extends_trans}

-- a port that forgets nothing, and then goes on, goes on
pub continues_on : (allows : List ℕ → List ℕ → Type 0) (u v w : View) → Extends u v → Continues allows v w → Continues allows u w
continues_on allows u v w e c = record { extends = extends_trans u v w e c.extends; history = c.history; kept = c.kept; freed_clear = c.freed_clear; own_history = c.own_history }

-- a port that knows something goes on knowing it
pub extends_self : (v : View) → Extends v v
extends_self v = record {
  label = refl;
  config = refl;
  node = refl;
  order = prefix_self v.order;
  ends = prefix_self v.ends;
  clear = prefix_self v.clear;
  joined = λ r h. h;
  marked = λ r h. h;
  freed = λ r h. h;
}

-- what is true of a port's view stays true
pub sound_goes : (good : List ℕ → Type 0) (allows : List ℕ → List ℕ → Type 0) (label : ℕ) (config : LineConfig) (v w : View) → IsSound good allows label config v → Continues allows v w → IsSound good allows label config w
sound_goes good allows label config v w s c = record {
  label_is = c.extends.label ∙ s.label_is;
  config_is = c.extends.config ∙ s.config_is;
  may_open = s.may_open;
  first_node = subst (λ n. 1 ≤ n) (sym c.extends.node) s.first_node;
  last_node = subst (λ n. n ≤ config.nodes) (sym c.extends.node) s.last_node;
  opened_good = s.opened_good;
  history = c.history;
  kept = c.kept;
  freed_clear = c.freed_clear;
  own_history = c.own_history;
}

-- a sound view goes on with itself
pub continues_sound : (good : List ℕ → Type 0) (allows : List ℕ → List ℕ → Type 0) (label : ℕ) (config : LineConfig) (v : View) → IsSound good allows label config v → Continues allows v v
continues_sound good allows label config v s = record {
  extends = extends_self v;
  history = s.history;
  kept = s.kept;
  freed_clear = s.freed_clear;
  own_history = s.own_history;
}

-- the same request, as a later view sees it
pub same_own : (v w : View) → Extends v w → w.count ≡ v.count → own w ≡ own v
same_own v w e c = same_request w.node v.node w.count v.count e.node c

-- a port that is clear is not busy later
pub clear_not_busy : (v w : View) → Extends v w → IsClear v → IsBusy v w → ⊥
clear_not_busy v w e clear busy =
    ⊎_elim (λ neither. ⊎_elim neither.0 neither.1 busy.was)
    (λ known. let later : Has w.clear (own w) = subst (Has w.clear) (sym (same_own v w e busy.count)) (has_prefix v.clear w.clear (own v) e.clear known) in let no : true ≡ false = sym later ∙ busy.unclear in cc no)
    clear

-- a request that was made stays made
pub asks_goes : (u v w : View) → Asks u v → Extends v w → w.count ≡ v.count → Asks u w
asks_goes u v w a e c = record {
  was_clear = λ h. has_prefix v.clear w.clear (own u) e.clear (a.was_clear h);
  count = c ∙ a.count;
  behind = (a.behind.0, a.behind.1, prefix_get v.order w.order a.behind.0 (own w) e.order (a.behind.2 ∙ ap Some (sym (same_own v w e c))));
}

pub joined_goes : (v w : View) → Has v.joined (own v) → Extends v w → w.count ≡ v.count → IsJoined w
joined_goes v w h e c = subst (Has w.joined) (sym (same_own v w e c)) (e.joined (own v) h)

-- a request that was made since a later view was made since an earlier one
pub asks_from : (u v w : View) → Extends u v → v.count ≡ u.count → Asks v w → Asks u w
asks_from u v w e same a = record {
  was_clear = λ some. subst (Has w.clear) (same_own u v e same) (a.was_clear (omega (arith, some, same)));
  count = omega (arith, a.count, same);
  behind = (a.behind.0, omega (arith, prefix_length u.order v.order e.order, a.behind.1), a.behind.2);
}
