-- Proof that each step leads from a state that represents a queue to a state that represents a queue. The same follows
-- for runs of steps.
use Rattle.std.proofs.Common.{◌≡◌, ℕ, true, false, zero, suc, ◌+◌, ◌<◌, ◌≤◌, List, [], ◌∷◌, ◌++◌, length, take, Option, Some, None, slice_get, refl, sym, ◌∙◌, ap, subst, arith}
use Rattle.std.specs.Prelude.{Result, Ok, Err, IfOk, OnErr, slice_index_or}
use Rattle.std.proofs.lemmas.List.{take_more, take_all, length-replicate}
use Rattle.qolb_model.specs.declared.config.LineConfig.{LineConfig}
use Rattle.qolb_model.specs.declared.config.TheConstants.{MAX_NODES}
use Rattle.link_core.specs.declared.state.TheConstants.{PLACES}
use Rattle.qolb_model.specs.Histories.{IsLegal}
use Rattle.qolb_model.specs.Queue.{Queue, Move, ask, mark, finish, empty_queue, HasCleared}
use Rattle.qolb_model.specs.declared.request.Request.{Request}
use Rattle.qolb_model.proofs.Histories.{legal_moved}
use Rattle.link_core.specs.declared.told.NotEnabled.{NotEnabled}
use Rattle.link_core.specs.declared.told.Told.{Told as Answer}
use Rattle.link_core.specs.declared.event.Event.{Event}
use Rattle.link_core.specs.State.{State, IsWide, NodeCall, empty, unused, seat, point, first}
use Rattle.link_core.specs.declared.point.Point.TheVariants.{Idle, Granting, Rolled}
use Rattle.link_core.specs.Steps.{Step, IsRefused}
use Rattle.link_core.specs.Moves.{move_of, may_clear, MayMake, made, Goes}
use Rattle.link_core.specs.Shown.{AreBehind, Shows}
use Rattle.link_core.specs.Promise.{Keeps, IsSound, Run, Stops, opened, event}
use Rattle.link_core.proofs.Open.{seat_first, first_matches}
use Rattle.link_core.proofs.Sound.{sound_wide, step_sizes}
use Rattle.link_core.proofs.All.{step_keeps}
use Rattle.link_core.proofs.Made.{goes_by, step_may}
use Rattle.link_core.proofs.HandoffClears.{step_comes}
use Rattle.link_core.proofs.Others.{spared}
use Rattle.link_core.proofs.Marked.{marked_goes, earlier_goes}
use Rattle.link_core.proofs.Chained.{step_chained}
use Rattle.link_core.proofs.Queued.{step_behind}

-- a legal queue stays so
legal_made : (config : LineConfig) (h : Queue) (m : Option Move) → MayMake config h m → IsLegal config.lease h.order h.ends → IsLegal config.lease (made h m).order (made h m).ends
legal_made config h None a l = l
legal_made config h (Some x) a l = legal_moved config h x a l

legal_goes : (config : LineConfig) (h : Queue) (m : Option Move) (g : Queue) → Goes config h m g → IsLegal config.lease h.order h.ends → IsLegal config.lease g.order g.ends
legal_goes config h m g k l = subst (λ (y : Queue). IsLegal config.lease y.order y.ends) (sym k.cleared.2) (legal_made config h m k.may l)

behind_goes : (d : State) (q r : Queue) → HasCleared q r → AreBehind d q.order q.ends → AreBehind d r.order r.ends
behind_goes d q r k b = subst (λ (y : Queue). AreBehind d y.order y.ends) (sym k.2) b

-- each step keeps what is shown, by its move
pub step_shows : (config : LineConfig) (c : State) (q : Queue) → IsWide c → Shows config c q → {e : Event} {t : Answer} {d : State} (k : Step c e t d) → Keeps config c e t d k q
step_shows config c q w s {e} {t} {d} k =
    let on = step_keeps config c q w s.matches s.legal k in
    let goes = goes_by config q on.after (move_of k q.order) (step_may w s.matches s.legal k) on.makes on.clears in
    record {
      after = on.after;
      goes = goes;
      shows = record {
        legal = legal_goes config q (move_of k q.order) on.after goes s.legal;
        gone = marked_goes config q (move_of k q.order) on.after goes s.legal s.gone;
        earlier = earlier_goes config q (move_of k q.order) on.after goes s.legal s.earlier;
        matches = on.shows;
        chained = step_chained config c q w s.matches s.chained k;
        behind = behind_goes d (made q (move_of k q.order)) on.after goes.cleared (step_behind config c q w s.matches s.behind k);
      };
      says = on.says;
      comes = step_comes w s.matches k _ on;
      uncleared = on.uncleared;
      spared = spared config c q w s.matches k _ on;
    }

-- a move changes no clear list
made_clear : (q : Queue) (m : Option Move) → (made q m).clear ≡ q.clear
made_clear q None = refl
made_clear q (Some (ask n)) = refl
made_clear q (Some (mark r)) = refl
made_clear q (Some (finish x)) = refl

-- the queue after the move is determined, except for the clear list; the clear list is determined too, if nothing is
-- cleared
pub after_is : {config : LineConfig} {c : State} {e : Event} {t : Answer} {d : State} {k : Step c e t d} {q : Queue} (on : Keeps config c e t d k q) → on.after ≡ record (made q (move_of k q.order)) { clear = on.after.clear }
after_is {k = k} {q = q} on =
    let e : on.after.clear ≡ on.goes.cleared.0 = ap (λ (g : Queue). g.clear) on.goes.cleared.2 in
    on.goes.cleared.2 ∙ ap (λ (clear : List Request). record (made q (move_of k q.order)) { clear = clear }) (sym e)

pub after_made : {config : LineConfig} {c : State} {e : Event} {t : Answer} {d : State} {k : Step c e t d} {q : Queue} (on : Keeps config c e t d k q) → may_clear e (move_of k q.order) ≡ false → on.after ≡ made q (move_of k q.order)
after_made {k = k} {q = q} on f = after_is on ∙ ap (λ (clear : List Request). record (made q (move_of k q.order)) { clear = clear }) (on.uncleared f ∙ sym (made_clear q (move_of k q.order)))

pub first_shows : (config : LineConfig) → length config.opening.bytes ≡ 64 → Shows config (first config) empty_queue
first_shows config long = record {
  matches = first_matches config long;
  earlier = λ r h. let z : false ≡ true = h in cc;
  gone = record { gone = λ p r at e. let z : None ≡ Some r = at in cc z; marked = λ p r at l h. let z : None ≡ Some r = at in cc z };
  behind = λ n b e f. let z : Idle ≡ Rolled = sym (first_idle n) ∙ e in cc;
  chained = record { links = λ n i b l. absurd (none_passed n i l); done = λ n m b e. let z : Idle ≡ Granting m = sym (first_idle n) ∙ e in cc };
  legal = record { numbered = λ p r e. let z : None ≡ Some r = e in cc z; ended = omega arith; closing = λ p r e. let z : None ≡ Some r = e in cc z };
}
  where
    first_idle : (n : ℕ) → point (first config) n ≡ Idle
    first_idle n = ap (λ (s : NodeCall). s.point) (seat_first PLACES n)

    none_passed : (n i : ℕ) → i < length (seat (first config) n).passed → ⊥
    none_passed n i l = let z : i < length (unused).passed = subst (λ (s : NodeCall). i < length s.passed) (seat_first PLACES n) l in omega arith

pub first_sound : (config : LineConfig) → length config.opening.bytes ≡ 64 → config.nodes ≤ MAX_NODES → IsSound (first config)
first_sound config long l = record { nodes = l; entries = length-replicate PLACES empty; seats = length-replicate PLACES unused; config = config; queue = empty_queue; shows = first_shows config long }

pub step_sound : (c : State) {e : Event} {t : Answer} {d : State} → IsSound c → Step c e t d → IsSound d
step_sound c w p =
    let z = step_sizes c p in
    let k = step_shows w.config c w.queue (sound_wide c w) w.shows p in
    record { nodes = subst (λ (n : ℕ). n ≤ MAX_NODES) (sym z.0) w.nodes; entries = z.1 ∙ w.entries; seats = z.2 ∙ w.seats; config = w.config; queue = k.after; shows = k.shows }

pub sound_after : (c d : State) (e : Event) (r : Result Answer NotEnabled) → IsSound c → IfOk r (λ t. Step c e t d) → OnErr r (d ≡ c) → IsSound d
sound_after c d e (Ok t) w p q = step_sound c w p
sound_after c d e (Err x) w p q = subst (λ (y : State). IsSound y) (sym q) w

pub keeps_after : (c d : State) (e : Event) (r : Result Answer NotEnabled) → IsSound c → IfOk r (λ t. Step c e t d) → (config : LineConfig) (q : Queue) → Shows config c q → IfOk r (λ t. (step : Step c e t d) × Keeps config c e t d step q)
keeps_after c d e (Ok t) w p config q s = (p, step_shows config c q (sound_wide c w) s p)
keeps_after c d e (Err x) w p config q s = tt

abbrev pub Reaches : LineConfig → List Event → State → Type 0
Reaches config es c = (q : Queue) × Run config es c q × Shows config c q

run_more : (config : LineConfig) (es fs : List Event) (c d : State) (h : Queue) (e : Event) (t : Answer) → Run config es c h → (step : Step c e t d) → Keeps config c e t d step h → fs ≡ es ++ e ∷ [] → Reaches config fs d
run_more config es fs c d h e t r p k q = (k.after, subst (λ (es : List Event). Run config es d k.after) (sym q) (event r e t d k.after p k.goes k.shows), k.shows)

pub run_step : (config : LineConfig) (es : List Event) (i : ℕ) (z : Event) (c d : State) (t : Answer) → i < length es → Reaches config (take i es) c → ((config : LineConfig) (q : Queue) → Shows config c q → (step : Step c (slice_index_or es i z) t d) × Keeps config c (slice_index_or es i z) t d step q) → Reaches config (take (i + 1) es) d
run_step config es i z c d t l r k = let step = k config r.0 r.2 in run_more config (take i es) (take (i + 1) es) c d r.0 (slice_index_or es i z) t r.1 step.0 step.1 (take_more es i z l)

pub run_start : (config : LineConfig) (es : List Event) (c : State) → length config.opening.bytes ≡ 64 → c ≡ first config → Reaches config (take 0 es) c
run_start config es c long e = rw e (empty_queue, opened, first_shows config long)

pub run_end : (config : LineConfig) (es : List Event) (i : ℕ) (c : State) → length es ≤ i → Reaches config (take i es) c → Reaches config es c
run_end config es i c l r = subst (λ (fs : List Event). Reaches config fs c) (take_all i es l) r

pub run_stops : (config : LineConfig) (es : List Event) (i : ℕ) (z : Event) (c : State) (x : NotEnabled) → i < length es → Reaches config (take i es) c → IsRefused c (slice_index_or es i z) x → Stops config es i x
run_stops config es i z c x l r f = record { state = c; queue = r.0; before = r.1; here = l; refused = λ e g. subst (λ (e : Event). IsRefused c e x) (at es i z e g) f }
  where
    at : (es : List Event) (i : ℕ) (z e : Event) → slice_get es i ≡ Some e → slice_index_or es i z ≡ e
    at [] i z e g = cc
    at (y ∷ ys) zero z e g = cc
    at (y ∷ ys) (suc i) z e g = at ys i z e g
