-- Lemmas about the ports of a line that was just opened.
use Rattle.std.proofs.Common.{◌≡◌, ℕ, zero, suc, lit≤, arith, ◌<◌, ◌+◌, List, [], ◌∷◌, ◌++◌, length, All, Option, Some, slice_index_or, refl, sym, ap, ◌∙◌, subst}
use Rattle.std.specs.Option.{option_map, option_map_or}
use Rattle.std.proofs.lemmas.List.{length-map, length-append, get_or_append_left, get_or_push}
use Rattle.std.proofs.lemmas.Option.{slice_get-map, slice_get-get_or}
use Rattle.qolb_model.specs.declared.config.LineConfig.{LineConfig}
use Rattle.qolb_model.specs.declared.view.View.{View}
use Rattle.qolb_model.specs.Opening.{Opens, new_view}
use Rattle.line_lanes.specs.Line.{zeros}
use Rattle.line_accounts.specs.Accounts.{AreBalances}
use Rattle.line_accounts.specs.NewDesks.{IsNewPort}

-- the ports of an opened line are new
pub all_new : {Line Port : Type 0} (belongs : Line → Port → Type 0) (view : Port → View) (line : Line) (label_of : ℕ) (config_of : LineConfig) (label : ℕ) (config : LineConfig) (ports : List Port) → Opens view (belongs line) label_of config_of label config ports → All (IsNewPort belongs view line) ports
all_new {Line} {Port} belongs view line label_of config_of label config ports opens = λ k d below.
    let here : Option View = Some (view (slice_index_or ports k d)) in
    let low : k < config.nodes = subst (λ (m : ℕ). k < m) (sym (length-map ports view) ∙ opens.new.count) below in
    let is : here ≡ Some (new_view label config (k + 1)) = sym (ap (option_map view) (slice_get-get_or ports k d below)) ∙ (sym (slice_get-map view ports k) ∙ opens.new.each k low) in
    record {
      of_line = opens.each_belongs k d below;
      idle = opens.idle k d below;
      never = ap (λ (o : Option View). option_map_or (λ (v : View). v.count) o 0) is;
    }

-- each balance of a line of zeros is within the limit
pub no_money : AreBalances zeros
no_money zero lt = lit≤ tt
no_money (suc zero) lt = lit≤ tt
no_money (suc (suc zero)) lt = lit≤ tt
no_money (suc (suc (suc zero))) lt = lit≤ tt
no_money (suc (suc (suc (suc zero)))) lt = lit≤ tt
no_money (suc (suc (suc (suc (suc zero))))) lt = lit≤ tt
no_money (suc (suc (suc (suc (suc (suc zero)))))) lt = lit≤ tt
no_money (suc (suc (suc (suc (suc (suc (suc zero))))))) lt = lit≤ tt
no_money (suc (suc (suc (suc (suc (suc (suc (suc k)))))))) lt = absurd (omega arith)

-- what holds of a list with one more item holds of that item, and of the others
pub of_last : {X : Type 0} (P : X → Type 0) (all xs : List X) (x : X) → all ≡ xs ++ x ∷ [] → All P all → P x
of_last P all xs x e h =
    let long : length (xs ++ x ∷ []) ≡ length xs + 1 = length-append xs (x ∷ []) in
    subst P (get_or_push xs x x (length xs) refl) (subst (All P) e h (length xs) x (omega arith))

pub of_front : {X : Type 0} (P : X → Type 0) (all xs : List X) (x : X) → all ≡ xs ++ x ∷ [] → All P all → All P xs
of_front P all xs x e h = λ k d lt.
    let long : length (xs ++ x ∷ []) ≡ length xs + 1 = length-append xs (x ∷ []) in
    subst P (get_or_append_left xs (x ∷ []) d k lt) (subst (All P) e h k d (omega arith))
