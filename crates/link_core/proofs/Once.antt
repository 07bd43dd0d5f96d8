-- Proof that an event and the state before it determine the result of the event and the state after it.
use Rattle.std.proofs.Common.{◌≡◌, ℕ, ◌==◌, Bool, true, false, cond, List, [], ◌∷◌, ◌++◌, refl, sym, ◌∙◌, ap, inl, inr, eq-eqb, ne_eqb}
use Rattle.link_core.specs.declared.point.Point.{Point}
use Rattle.link_core.specs.declared.point.Point.TheVariants.{Idle, Ready, Linking, Queued, Holding, Leaving, Marking, Granting, Left, Rolled}
use Rattle.link_core.specs.declared.place.Place.TheVariants.{Mailbox}
use Rattle.link_core.specs.declared.told.Told.{Told as Answer}
use Rattle.link_core.specs.declared.told.Told.TheVariants as told
use Rattle.link_core.specs.declared.event.Event.{Event}
use Rattle.link_core.specs.declared.event.Event.TheVariants as event
use Rattle.link_core.specs.State.{State, empty, entry, seat, point, is_clear, put_entry, put_seat, at_point}
use Rattle.qolb_model.specs.Steps.{is_one}
use Rattle.link_core.specs.Steps.{told_home, gone_home, closed_by, turns_after, Step, Releases, holding, leaving, arrive, told_at_arrival, told_with, seat_with, seat_at_close, point_at_end, write_line, either}
use Rattle.link_core.specs.Steps as row

abbrev arrival : ℕ → State → State → Answer × State
arrival n c d = (told_at_arrival c.closed, arrive n d)

-- the call ends, or its passed nodes must be freed
abbrev closing : ℕ → Point → State → State → Answer × State
closing n p c d = (told_with (seat c n).passed (seat c n).reason, put_seat n (seat_at_close p (seat c n)) d)

link_by : State → ℕ → Point → Answer × State
link_by c n (Linking p) =
    cond (entry c p).done (arrival n c (put_entry p (record (entry c p) { link = n }) c)) (told.Queued, at_point n Queued (put_entry p (record (entry c p) { link = n }) c))
link_by c n _ = (told.Went, c)

clear_by : State → ℕ → Bool → Answer × State
clear_by c n b = cond b (told.Free, at_point n Idle c) (told.Busy, c)

load_by : State → ℕ → Point → Answer × State
load_by c n Queued = cond (entry c n).granted (arrival n c c) (told.Waiting, c)
load_by c n p = clear_by c n (is_clear p (entry c n))

home_by : State → ℕ → ℕ → Answer × State
home_by c n e = cond (c.home == e) (told_home n c, gone_home n c) (told.Went, at_point n (Marking e) c)

home_from : State → ℕ → Point → Answer × State
home_from c n Holding = cond (is_one c.left) (home_by (closed_by n c) n n) (home_by c n n)
home_from c n (Leaving e) = home_by c n e
home_from c n _ = (told.Went, c)

done_by : State → ℕ → Point → Answer × State
done_by c n (Marking e) =
    cond ((entry c e).link == 0)
    (cond (e == n) (closing n Left c (put_entry e (record (entry c e) { done = true }) (record c { place = Mailbox e; left = turns_after n c })))
    (closing n (point_at_end (seat c n).reason) c (put_entry e (record (entry c e) { done = true }) (record c { place = Mailbox e; left = turns_after n c }))))
    (told.Went, at_point n (Granting (entry c e).link) (put_entry e (record (entry c e) { done = true }) c))
done_by c n _ = (told.Went, c)

grant_by : State → ℕ → Point → Answer × State
grant_by c n (Granting m) =
    cond (entry c m).rolled
    (told.Went, put_seat n (record { point = Leaving m; passed = (seat c n).passed ++ m ∷ []; reason = (seat c n).reason }) (put_entry m (record (entry c m) { granted = true }) (record c { left = turns_after n c })))
    (closing n (point_at_end (seat c n).reason) c (put_entry m (record (entry c m) { granted = true }) (record c { place = Mailbox m; left = turns_after n c })))
grant_by c n _ = (told.Went, c)

freed_by : State → ℕ → List ℕ → Answer × State
freed_by c n [] = (told.Went, c)
freed_by c n (x ∷ rest) =
    (told_with rest (seat c n).reason, put_seat n (seat_with rest (point_at_end (seat c n).reason) (seat c n).reason) (put_entry x (record (entry c x) { freed = true }) c))

effect : State → Event → Answer × State
effect c (event.Reset n) = (told.Went, at_point n Ready (put_entry n empty c))
effect c (event.Prepend n) = cond (c.home == 0) (arrival n c (record c { home = n })) (told.Went, at_point n (Linking c.home) (record c { home = n }))
effect c (event.Link n) = link_by c n (point c n)
effect c (event.Load n) = load_by c n (point c n)
effect c (event.Home n) = home_from c n (point c n)
effect c (event.Done n) = done_by c n (point c n)
effect c (event.Grant n) = grant_by c n (point c n)
effect c (event.Roll n) = cond (entry c n).granted (arrival n c (put_entry n (record (entry c n) { rolled = true }) c)) (told.Withdrawn, at_point n Rolled (put_entry n (record (entry c n) { rolled = true }) c))
effect c (event.Freed n) = freed_by c n (seat c n).passed
effect c (event.Write n mask bytes) = (told.Went, record c { bytes = write_line c.bytes mask bytes; mask = either c.mask mask })
effect c (event.Close n) = (told.Went, closed_by n c)

-- the test of a case
taken : {A : Type 0} (x y : A) (b : Bool) → b ≡ true → cond b x y ≡ x
taken x y b e = ap (λ z. cond z x y) e

passed_by : {A : Type 0} (x y : A) (b : Bool) → b ≡ false → cond b x y ≡ y
passed_by x y b e = ap (λ z. cond z x y) e

effect_of : (c : State) {e : Event} {t : Answer} {d : State} → Step c e t d → effect c e ≡ (t, d)
unfolding effect link_by clear_by load_by home_by home_from done_by grant_by freed_by
effect_of c (row.reset n a at) = refl
effect_of c (row.prepend_first n a at e) = taken _ _ (c.home == 0) (eq-eqb c.home 0 e)
effect_of c (row.prepend n a at ne) = passed_by _ _ (c.home == 0) (ne_eqb c.home 0 ne)
effect_of c (row.link_done n p a at dn) = ap (link_by c n) at ∙ taken _ _ (entry c p).done dn
effect_of c (row.link n p a at dn) = ap (link_by c n) at ∙ passed_by _ _ (entry c p).done dn
effect_of c (row.load_granted n a at gr) = ap (load_by c n) at ∙ taken _ _ (entry c n).granted gr
effect_of c (row.load_waiting n a at un) = ap (load_by c n) at ∙ passed_by _ _ (entry c n).granted un
effect_of c (row.load_free n a (inl at) fr) = ap (load_by c n) at ∙ ap (clear_by c n) (ap (λ (p : Point). is_clear p (entry c n)) (sym at) ∙ fr)
effect_of c (row.load_free n a (inr at) fr) = ap (load_by c n) at ∙ ap (clear_by c n) (ap (λ (p : Point). is_clear p (entry c n)) (sym at) ∙ fr)
effect_of c (row.load_busy n a (inl at) un) = ap (load_by c n) at ∙ ap (clear_by c n) (ap (λ (p : Point). is_clear p (entry c n)) (sym at) ∙ un)
effect_of c (row.load_busy n a (inr at) un) = ap (load_by c n) at ∙ ap (clear_by c n) (ap (λ (p : Point). is_clear p (entry c n)) (sym at) ∙ un)
effect_of c (row.home n e a (holding at f l) g) = ap (home_from c n) at ∙ passed_by _ _ (is_one c.left) l ∙ taken _ _ (c.home == n) (eq-eqb c.home n (g ∙ f))
effect_of c (row.home n e a (leaving at) g) = ap (home_from c n) at ∙ taken _ _ (c.home == e) (eq-eqb c.home e g)
effect_of c (row.home_failed n e a (holding at f l) ne) = ap (home_from c n) at ∙ passed_by _ _ (is_one c.left) l ∙ passed_by _ _ (c.home == n) (ne_eqb c.home n (λ g. ne (g ∙ sym f))) ∙ ap (λ (x : ℕ). (told.Went, at_point n (Marking x) c)) (sym f)
effect_of c (row.home_failed n e a (leaving at) ne) = ap (home_from c n) at ∙ passed_by _ _ (c.home == e) (ne_eqb c.home e ne)
effect_of c (row.home_last n a at l g) = ap (home_from c n) at ∙ taken _ _ (is_one c.left) l ∙ taken _ _ (c.home == n) (eq-eqb c.home n g)
effect_of c (row.home_last_failed n a at l ne) = ap (home_from c n) at ∙ taken _ _ (is_one c.left) l ∙ passed_by _ _ (c.home == n) (ne_eqb c.home n ne)
effect_of c (row.done_left n e a at un f) = ap (done_by c n) at ∙ taken _ _ ((entry c e).link == 0) (eq-eqb (entry c e).link 0 un) ∙ taken _ _ (e == n) (eq-eqb e n f)
effect_of c (row.done_rolled n e a at un ne) = ap (done_by c n) at ∙ taken _ _ ((entry c e).link == 0) (eq-eqb (entry c e).link 0 un) ∙ passed_by _ _ (e == n) (ne_eqb e n ne)
effect_of c (row.done_linked n e a at ne) = ap (done_by c n) at ∙ passed_by _ _ ((entry c e).link == 0) (ne_eqb (entry c e).link 0 ne)
effect_of c (row.grant n m a at un) = ap (grant_by c n) at ∙ passed_by _ _ (entry c m).rolled un
effect_of c (row.grant_rolled n m a at ro) = ap (grant_by c n) at ∙ taken _ _ (entry c m).rolled ro
effect_of c (row.roll_granted n a at gr) = taken _ _ (entry c n).granted gr
effect_of c (row.roll n a at un) = passed_by _ _ (entry c n).granted un
effect_of c (row.freed n x rest a at ps) = ap (freed_by c n) ps
effect_of c (row.write n mask bytes a at) = refl
effect_of c (row.close n a at) = refl

pub one_effect : (c : State) {e : Event} {t u : Answer} {d f : State} → Step c e t d → Step c e u f → (t ≡ u) × (d ≡ f)
one_effect c {t = t} {u = u} {d = d} {f = f} p r =
    let x : (let y : Answer × State = (t, d) in y) ≡ (u, f) = sym (effect_of c p) ∙ effect_of c r in
    (ap (λ (y : Answer × State). y.0) x, ap (λ (y : Answer × State). y.1) x)
