-- Proof that in the picture of a step script, the bar of a node over an event shows at which point of the lock
-- algorithm the node is after the event.
use Rattle.std.proofs.Common.{◌≡◌, ◌≢◌, ℕ, zero, suc, ◌+◌, ◌*◌, ◌<◌, ◌≤◌, ◌==◌, ◌&&◌, ◌||◌, cond, Bool, true, false, List, [], ◌∷◌, ◌++◌, length, map, drop, flat_map, slice_get, Some, None, refl, sym, ap, ◌∙◌, subst, arith, append-nil, add-one, eqb-true, eq-eqb, get_or, get_or-set_other}
use Rattle.std.specs.List.{range_with_len}
use Rattle.std.proofs.lemmas.Grind.{flat_map-append}
use Rattle.std.proofs.lemmas.Option.{slice_get_within, same_Some}
use Rattle.link_core.specs.declared.entry.Entry.{Entry}
use Rattle.link_core.specs.declared.event.Event.{Event}
use Rattle.link_core.specs.declared.point.Point.{Point}
use Rattle.link_core.specs.declared.seat.NodeCall.{NodeCall}
use Rattle.link_core.specs.declared.state.State.{State}
use Rattle.link_core.specs.declared.told.Told.{Told}
use Rattle.link_core.specs.State.{empty, entry, first, point, unused}
use Rattle.link_core.specs.Steps.{Step, closed_by, node_of}
use Rattle.link_core.specs.Steps as row
use Rattle.qolb_replay.specs.StepRuns.{line_of}
use Rattle.qolb_draw.specs.declared.svg.TheConstants.{NAMED_EVERY}
use Rattle.qolb_draw.specs.StepLaws.{BarsCoverPoints, has_acted, point_over, points_over}
use Rattle.qolb_draw.specs.StepShapes.{StepShape, Name, Number, At, Lies, Home, Word, Act, Seen, Watches, nothing, made, refused, entries_of, event_shapes, home_shapes, is_same_entry, lane_shapes, rows_shapes, seen_shapes, until, word_shapes, words_shapes}
use Rattle.qolb_draw.specs.Shapes.{name_count}
use Rattle.qolb_draw.proofs.Bars.{and_false, is_over, no_more, not_yet, over}
use Rattle.qolb_draw.proofs.Bars.{or_none}
use Rattle.qolb_draw.proofs.Watching.{seen_by}

-- an event does not change the points of other nodes
points_kept : (c : State) {e : Event} {t : Told} {d : State} → Step c e t d → (m : ℕ) → m ≢ node_of e → point d m ≡ point c m
points_kept c (row.load_waiting n a at un) m other = refl
points_kept c (row.load_busy n a at un) m other = refl
points_kept c (row.write n mask bytes a at) m other = refl
points_kept c (row.home_last n a at l e) m other = ap (λ (s : NodeCall). s.point) (get_or-set_other (closed_by n c).seats _ m _ unused other ∙ get_or-set_other c.seats _ m _ unused other)
points_kept c (row.home_last_failed n a at l ne) m other = ap (λ (s : NodeCall). s.point) (get_or-set_other (closed_by n c).seats _ m _ unused other ∙ get_or-set_other c.seats _ m _ unused other)
points_kept c _ m other = ap (λ (s : NodeCall). s.point) (get_or-set_other c.seats _ m _ unused other)

-- this is the record of these events, which begin with this core; no event changes the point of a node other than its
-- own
abbrev pub Chained : State → List Event → List Seen → Type 0
Chained from [] [] = Unit {0}
Chained from [] (s ∷ all) = ⊥
Chained from (e ∷ events) [] = ⊥
Chained from (e ∷ events) (s ∷ all) = (s.event ≡ e) × ((m : ℕ) → m ≢ node_of e → point s.after m ≡ point from m) × Chained s.after events all

abbrev pub core_after : State → List Seen → State
core_after from [] = from
core_after from (s ∷ all) = core_after s.after all

after_one : (from : State) (all : List Seen) (s : Seen) → core_after from (all ++ s ∷ []) ≡ s.after
after_one from [] s = refl
after_one from (x ∷ all) s = after_one x.after all s

one_more : (from : State) (events : List Event) (all : List Seen) (e : Event) (s : Seen) → Chained from events all → s.event ≡ e → ((m : ℕ) → m ≢ node_of e → point s.after m ≡ point (core_after from all) m) → Chained from (events ++ e ∷ []) (all ++ s ∷ [])
one_more from [] [] e s h is kept = (is, kept, tt)
one_more from [] (y ∷ all) e s h is kept = absurd h
one_more from (x ∷ events) [] e s h is kept = absurd h
one_more from (x ∷ events) (y ∷ all) e s h is kept = (h.0, h.1, one_more y.after events all e s h.2 is kept)

pub chained : {from last : State} {events : List Event} {all : List Seen} → Watches from events all last → Chained from events all × (core_after from all ≡ last)
chained nothing = (tt, refl)
chained {from = from} (made {events = events} {all = all} {before = before} {after = after} event what runs step) =
    let so_far = chained runs in
    (one_more from events all event (seen_by event (Some what) before after) so_far.0 refl (λ m other. points_kept before step m other ∙ ap (λ c. point c m) (sym so_far.1)), after_one from all (seen_by event (Some what) before after))
chained {from = from} (refused {events = events} {all = all} {before = before} event why runs refusal) =
    let so_far = chained runs in
    (one_more from events all event (seen_by event None before before) so_far.0 refl (λ m other. ap (λ c. point c m) (sym so_far.1)), after_one from all (seen_by event None before before))

same_length : (from : State) (events : List Event) (all : List Seen) → Chained from events all → length events ≡ length all
same_length from [] [] h = refl
same_length from [] (s ∷ all) h = absurd h
same_length from (e ∷ events) [] h = absurd h
same_length from (e ∷ events) (s ∷ all) h = let rest = same_length s.after events all h.2 in omega (arith, rest)

-- the next event of a node is the first that it makes
acts_within : (n k : ℕ) (events : List Event) → has_acted n (suc k) events ≡ true → until n events ≤ k
acts_within n k [] h = absurd (let not_so : false ≡ true = h in cc not_so)
acts_within n k (e ∷ events) h = by (node_of e == n) k h (λ j rest. acts_within n j events rest)
  where
    by : (b : Bool) (k : ℕ) → (b || has_acted n k events) ≡ true → ((j : ℕ) → has_acted n (suc j) events ≡ true → until n events ≤ j) → cond b 0 (until n events + 1) ≤ k
    by true k h behind = omega arith
    by false zero h behind = absurd (let not_so : false ≡ true = h in cc not_so)
    by false (suc k) h behind = let rest = behind k h in omega (arith, rest)

rests_so_long : (n k : ℕ) (events : List Event) → has_acted n (suc k) events ≡ false → k < length events → k < until n events
rests_so_long n k [] h lt = absurd (omega arith)
rests_so_long n k (e ∷ events) h lt = by (node_of e == n) k h (omega (arith, lt)) (λ j none within. rests_so_long n j events none within)
  where
    by : (b : Bool) (k : ℕ) → (b || has_acted n k events) ≡ false → k < length events + 1 → ((j : ℕ) → has_acted n (suc j) events ≡ false → j < length events → j < until n events) → k < cond b 0 (until n events + 1)
    by true k h lt behind = absurd (let not_so : true ≡ false = h in cc not_so)
    by false zero h lt behind = omega arith
    by false (suc k) h lt behind = let rest = behind k h (omega (arith, lt)) in omega (arith, rest)

apart : (m n : ℕ) → (m == n) ≡ false → n ≢ m
apart m n h same = let yes' : (m == n) ≡ true = eq-eqb m n (sym same) in let both : true ≡ false = sym yes' ∙ h in cc both

-- a node that makes no event stays at its point
stays : (n k : ℕ) (from : State) (events : List Event) (all : List Seen) (seen : Seen) → Chained from events all → slice_get all k ≡ Some seen → has_acted n (suc k) events ≡ false → point seen.after n ≡ point from n
stays n k from events [] seen h is none = let lt : k < 0 = slice_get_within [] k seen is in absurd (omega arith)
stays n k from [] (s ∷ all) seen h is none = absurd h
stays n zero from (e ∷ events) (s ∷ all) seen h is none =
    ap (λ (x : Seen). point x.after n) (sym (same_Some s seen is)) ∙ h.1 n (apart (node_of e) n (or_none (node_of e == n) (has_acted n zero events) none).0)
stays n (suc k) from (e ∷ events) (s ∷ all) seen h is none =
    let parts = or_none (node_of e == n) (has_acted n (suc k) events) none in
    stays n k s.after events all seen h.2 is parts.1 ∙ h.1 n (apart (node_of e) n parts.0)

-- two lists of shapes
two : (n column : ℕ) (xs ys : List StepShape) (a b : List Point) → points_over n column xs ≡ a → points_over n column ys ≡ b → points_over n column (xs ++ ys) ≡ a ++ b
two n column xs ys a b e f = flat_map-append (point_over n column) xs ys ∙ ap (λ ps. ps ++ points_over n column ys) e ∙ ap (λ ps. a ++ ps) f

-- words are not bars
no_home : (n column k was is : ℕ) → points_over n column (home_shapes k was is) ≡ []
no_home n column k was is = by (is == was)
  where
    by : (b : Bool) → points_over n column (cond b [] (Home k is ∷ [])) ≡ []
    by true = refl
    by false = refl

no_word : (n column k m : ℕ) (was is : Entry) → points_over n column (word_shapes k m was is) ≡ []
no_word n column k m was is = by (is_same_entry is was)
  where
    by : (b : Bool) → points_over n column (cond b [] (Word k m is ∷ [])) ≡ []
    by true = refl
    by false = refl

no_words : (n column k : ℕ) (were : List Entry) (c : State) (ms : List ℕ) → points_over n column (flat_map (λ m. word_shapes k (m + 1) (get_or were m empty) (entry c (m + 1))) ms) ≡ []
no_words n column k were c [] = refl
no_words n column k were c (m ∷ ms) =
    two n column (word_shapes k (m + 1) (get_or were m empty) (entry c (m + 1))) (flat_map (λ j. word_shapes k (j + 1) (get_or were j empty) (entry c (j + 1))) ms) [] []
    (no_word n column k (m + 1) (get_or were m empty) (entry c (m + 1))) (no_words n column k were c ms)

-- the bar of an event
abbrev bar_from : ℕ → ℕ → ℕ → ℕ → ℕ → Point → List Point
bar_from m n start end column p = cond ((m == n) && is_over start end column) (p ∷ []) []

its_bar : (n column k : ℕ) (s : Seen) (rest : List Event)
    → points_over n column (event_shapes k s rest) ≡ bar_from (node_of s.event) n k (k + (until (node_of s.event) rest + 1)) column (point s.after (node_of s.event))
its_bar n column k s rest =
    let m : ℕ = node_of s.event in
    let bar : List Point = bar_from m n k (k + (until m rest + 1)) column (point s.after m) in
    let shown : List StepShape = Number k ∷ At m k (k + (until m rest + 1)) (point s.after m) ∷ Lies k s.after.place ∷ [] in
    two n column (shown ++ home_shapes k s.before.home s.after.home ++ words_shapes k (entries_of s.before) s.after) (Act k s.event s.told ∷ []) bar []
    (two n column (shown ++ home_shapes k s.before.home s.after.home) (words_shapes k (entries_of s.before) s.after) bar []
    (two n column shown (home_shapes k s.before.home s.after.home) bar [] (append-nil bar) (no_home n column k s.before.home s.after.home) ∙ append-nil bar)
    (no_words n column k (entries_of s.before) s.after (range_with_len 0 s.after.nodes)) ∙ append-nil bar) refl
    ∙ append-nil bar

its_bar_of : (n column k : ℕ) (s : Seen) (rest : List Event) (e : Event) → s.event ≡ e → points_over n column (event_shapes k s rest) ≡ bar_from (node_of e) n k (k + (until (node_of e) rest + 1)) column (point s.after (node_of e))
its_bar_of n column k s rest e is = its_bar n column k s rest ∙ ap (λ x. bar_from (node_of x) n k (k + (until (node_of x) rest + 1)) column (point s.after (node_of x))) is

bar_of_other : (m n start end column : ℕ) (p : Point) → (m == n) ≡ false → bar_from m n start end column p ≡ []
bar_of_other m n start end column p e = ap (λ b. cond (b && is_over start end column) (p ∷ []) []) e

bar_elsewhere : (m n start end column : ℕ) (p : Point) → is_over start end column ≡ false → bar_from m n start end column p ≡ []
bar_elsewhere m n start end column p e = ap (λ b. cond ((m == n) && b) (p ∷ []) []) e ∙ ap (λ b. cond b (p ∷ []) []) (and_false (m == n))

bar_here : (m n start end column : ℕ) (p : Point) → (m == n) ≡ true → is_over start end column ≡ true → bar_from m n start end column p ≡ p ∷ []
bar_here m n start end column p e o = ap (λ b. cond (b && is_over start end column) (p ∷ []) []) e ∙ ap (λ b. cond b (p ∷ []) []) o

-- bars of later events begin after the column
later : (n column k : ℕ) (events : List Event) (all : List Seen) → column < k → points_over n column (seen_shapes k events all) ≡ []
later n column k events [] lt = refl
later n column k events (s ∷ all) lt =
    let m : ℕ = node_of s.event in
    two n column (event_shapes k s (drop 1 events)) (seen_shapes (k + 1) (drop 1 events) all) [] []
    (its_bar n column k s (drop 1 events) ∙ bar_elsewhere m n k (k + (until m (drop 1 events) + 1)) column (point s.after m) (not_yet k (k + (until m (drop 1 events) + 1)) column lt))
    (later n column (k + 1) (drop 1 events) all (omega arith))

-- the bar over the column k further on, by whether this event and one of the next k events are events of the node
covered : (n column from_column : ℕ) (from : State) (k : ℕ) (e : Event) (events : List Event) (s : Seen) (all : List Seen) (seen : Seen) (mine acts : Bool) → column ≡ from_column + suc k → Chained from (e ∷ events) (s ∷ all) → slice_get all k ≡ Some seen
    → (node_of e == n) ≡ mine → has_acted n (suc k) events ≡ acts
    → points_over n column (seen_shapes (from_column + 1) events all) ≡ cond acts (point seen.after n ∷ []) []
    → points_over n column (seen_shapes from_column (e ∷ events) (s ∷ all)) ≡ cond (mine || acts) (point seen.after n ∷ []) []
covered n column from_column from k e events s all seen false acts at h is apart_is acts_is rest =
    two n column (event_shapes from_column s events) (seen_shapes (from_column + 1) events all) [] (cond acts (point seen.after n ∷ []) [])
    (its_bar_of n column from_column s events e h.0 ∙ bar_of_other (node_of e) n from_column (from_column + (until (node_of e) events + 1)) column (point s.after (node_of e)) apart_is) rest
covered n column from_column from k e events s all seen true true at h is same acts_is rest =
    let its : node_of e ≡ n = eqb-true (node_of e) n same in
    let soon : until (node_of e) events ≤ k = subst (λ (m : ℕ). until m events ≤ k) (sym its) (acts_within n k events acts_is) in
    two n column (event_shapes from_column s events) (seen_shapes (from_column + 1) events all) [] (point seen.after n ∷ [])
    (its_bar_of n column from_column s events e h.0 ∙ bar_elsewhere (node_of e) n from_column (from_column + (until (node_of e) events + 1)) column (point s.after (node_of e)) (no_more from_column (from_column + (until (node_of e) events + 1)) column (omega arith))) rest
covered n column from_column from k e events s all seen true false at h is same acts_is rest =
    let its : node_of e ≡ n = eqb-true (node_of e) n same in
    let there : k < length all = slice_get_within all k seen is in
    let long : k < length events = omega (arith, same_length s.after events all h.2) in
    let late : k < until (node_of e) events = subst (λ (m : ℕ). k < until m events) (sym its) (rests_so_long n k events acts_is long) in
    two n column (event_shapes from_column s events) (seen_shapes (from_column + 1) events all) (point seen.after n ∷ []) []
    (its_bar_of n column from_column s events e h.0
    ∙ bar_here (node_of e) n from_column (from_column + (until (node_of e) events + 1)) column (point s.after (node_of e)) same (over from_column (from_column + (until (node_of e) events + 1)) column (omega arith) (omega arith))
    ∙ ap (λ p. p ∷ []) (ap (point s.after) its ∙ sym (stays n k s.after events all seen h.2 is acts_is)))
    rest ∙ append-nil (point seen.after n ∷ [])

-- the bar over the column of an event
here : (n column : ℕ) (e : Event) (events : List Event) (s : Seen) (all : List Seen) (mine : Bool) → s.event ≡ e → (node_of e == n) ≡ mine
    → points_over n column (seen_shapes column (e ∷ events) (s ∷ all)) ≡ cond (mine || false) (point s.after n ∷ []) []
here n column e events s all true is same =
    two n column (event_shapes column s events) (seen_shapes (column + 1) events all) (point s.after n ∷ []) []
    (its_bar_of n column column s events e is
    ∙ bar_here (node_of e) n column (column + (until (node_of e) events + 1)) column (point s.after (node_of e)) same (over column (column + (until (node_of e) events + 1)) column (omega arith) (omega arith))
    ∙ ap (λ p. p ∷ []) (ap (point s.after) (eqb-true (node_of e) n same)))
    (later n column (column + 1) events all (omega arith)) ∙ append-nil (point s.after n ∷ [])
here n column e events s all false is other =
    two n column (event_shapes column s events) (seen_shapes (column + 1) events all) [] []
    (its_bar_of n column column s events e is ∙ bar_of_other (node_of e) n column (column + (until (node_of e) events + 1)) column (point s.after (node_of e)) other)
    (later n column (column + 1) events all (omega arith))

at : (n k column from_column : ℕ) (from : State) (events : List Event) (all : List Seen) (seen : Seen) → column ≡ from_column + k → Chained from events all → slice_get all k ≡ Some seen
    → points_over n column (seen_shapes from_column events all) ≡ cond (has_acted n (suc k) events) (point seen.after n ∷ []) []
at n k column from_column from events [] seen eq h is = let lt : k < 0 = slice_get_within [] k seen is in absurd (omega arith)
at n k column from_column from [] (s ∷ all) seen eq h is = absurd h
at n zero column from_column from (e ∷ events) (s ∷ all) seen eq h is =
    let same : from_column ≡ column = omega arith in
    ap (λ j. points_over n column (seen_shapes j (e ∷ events) (s ∷ all))) same ∙ here n column e events s all (node_of e == n) h.0 refl
    ∙ ap (λ (x : Seen). cond ((node_of e == n) || false) (point x.after n ∷ []) []) (same_Some s seen is)
at n (suc k) column from_column from (e ∷ events) (s ∷ all) seen eq h is =
    covered n column from_column from k e events s all seen (node_of e == n) (has_acted n (suc k) events) eq h is refl refl
    (at n k column (from_column + 1) s.after events all seen (omega arith) h.2 is)

-- rows are not bars
no_names : (n column line : ℕ) (ks : List ℕ) → points_over n column (map (λ k. Name line (NAMED_EVERY * k)) ks) ≡ []
no_names n column line [] = refl
no_names n column line (k ∷ ks) = no_names n column line ks

no_rows : (n column columns : ℕ) (lines : List ℕ) → points_over n column (flat_map (lane_shapes columns) lines) ≡ []
no_rows n column columns [] = refl
no_rows n column columns (line ∷ lines) =
    two n column (lane_shapes columns line) (flat_map (lane_shapes columns) lines) [] [] (no_names n column line (range_with_len 0 (name_count columns))) (no_rows n column columns lines)

pub bars_cover_points : BarsCoverPoints
bars_cover_points script all last n column seen runs is =
    two n column (rows_shapes script.nodes (length script.events)) (seen_shapes 0 script.events all) [] (cond (has_acted n (suc column) script.events) (point seen.after n ∷ []) [])
    (no_rows n column (length script.events) (range_with_len 0 (script.nodes + 1))) (at n column column 0 (first (line_of script)) script.events all seen (omega arith) (chained runs).0 is)
    ∙ ap (λ m. cond (has_acted n m script.events) (point seen.after n ∷ []) []) (sym (add-one column))
