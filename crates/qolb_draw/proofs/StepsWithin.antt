-- Proof that no shape lies outside the picture of a step script.
use Rattle.std.proofs.Common.{◌≡◌, ℕ, ◌+◌, ◌*◌, ◌<◌, ◌≤◌, ◌==◌, cond, true, false, List, [], ◌∷◌, ◌++◌, length, map, flat_map, get_or, Some, None, refl, sym, ◌∙◌, subst, arith, All}
use Rattle.std.specs.List.{range_with_len}
use Rattle.std.proofs.lemmas.List.Elements.{All-append, All-cons, All-head, All-map, All-nil, All-push, All-tail, All-weaker}
use Rattle.std.proofs.lemmas.List.FromFn.{get_or-range_with_len, length-map-range_with_len, length-range_with_len}
use Rattle.link_core.specs.declared.entry.Entry.{Entry}
use Rattle.link_core.specs.declared.event.Event.{Event}
use Rattle.link_core.specs.declared.place.Place.{Place}
use Rattle.link_core.specs.declared.state.State.{State}
use Rattle.link_core.specs.Promise.{IsSound}
use Rattle.link_core.specs.Shown.{Lies, at_home, in_hand, granted, left}
use Rattle.link_core.specs.State.{IsNode, empty, entry, first, point}
use Rattle.link_core.specs.Steps.{Names, node_of}
use Rattle.link_core.proofs.Sound.{names, step_sizes}
use Rattle.link_core.proofs.Steady.{first_sound, step_sound}
use Rattle.qolb_replay.specs.StepRuns.{line_of}
use Rattle.qolb_draw.specs.declared.svg.TheConstants.{NAMED_EVERY}
use Rattle.qolb_draw.specs.StepLaws.{IsWithinSteps, StepShapesLieWithin, step_foot_of, step_right_of}
use Rattle.qolb_draw.specs.StepShapes.{StepShape, Lane, Name, Number, At, Home, Word, Act, Seen, Watches, nothing, made, refused, entries_of, event_shapes, home_shapes, is_same_entry, lane_shapes, rows_shapes, seen_shapes, step_timeline, until, word_shapes, words_shapes}
use Rattle.qolb_draw.specs.StepShapes as shape
use Rattle.qolb_draw.specs.StepSvg.{row_name_y, row_of_place, step_x, step_y}
use Rattle.qolb_draw.specs.Shapes.{name_count}
use Rattle.qolb_draw.proofs.StepCovering.{Chained, chained}
use Rattle.qolb_draw.proofs.Watching.{seen_by}

-- the line lies at home or with one of the nodes
place_row : (c : State) → IsSound c → row_of_place c.place ≤ c.nodes
place_row c w = by w.shows.matches.lies
  where
    at : (p : Place) → c.place ≡ p → row_of_place p ≤ c.nodes → row_of_place c.place ≤ c.nodes
    at p is le = subst (λ q. row_of_place q ≤ c.nodes) (sym is) le

    by : Lies w.config c w.queue.order w.queue.ends → row_of_place c.place ≤ c.nodes
    by (at_home all is whole) = at _ is (omega arith)
    by (in_hand n some node is has turn carried) = at _ is (let few = node.1 in omega arith)
    by (granted t some turn is flag waits whole) =
        let node : IsNode c t = subst (IsNode c) turn (w.shows.matches.nodes (length w.queue.ends) some) in at _ is (let few = node.1 in omega arith)
    by (left t q some turn is done link kind links whole) =
        let node : IsNode c t = subst (IsNode c) turn (w.shows.matches.nodes (length w.queue.ends) some) in
        let named : IsNode c q = subst (Names c) links (names w.shows.matches t node) in
        at _ is (let few = named.1 in omega arith)

-- the line lies there after each event of a run
record Placed (nodes : ℕ) (s : Seen) : Type 0 where
  nodes_are : s.after.nodes ≡ nodes
  row : row_of_place s.after.place ≤ nodes

placed : (nodes : ℕ) (s : Seen) → IsSound s.after → s.after.nodes ≡ nodes → Placed nodes s
placed nodes s sound same = record { nodes_are = same; row = subst (λ (n : ℕ). row_of_place s.after.place ≤ n) same (place_row s.after sound) }

all_placed : {from last : State} {events : List Event} {all : List Seen} → Watches from events all last → IsSound from → All (Placed from.nodes) all × IsSound last × (last.nodes ≡ from.nodes)
all_placed {from = from} nothing sound = (All-nil (Placed from.nodes), sound, refl)
all_placed {from = from} (made {all = all} {before = before} {after = after} event what runs step) sound =
    let so_far = all_placed runs sound in
    let on : IsSound after = step_sound before so_far.1 step in
    let same : after.nodes ≡ from.nodes = (step_sizes before step).0 ∙ so_far.2 in
    let seen : Seen = seen_by event (Some what) before after in
    (All-push (Placed from.nodes) all seen so_far.0 (placed from.nodes seen on same), on, same)
all_placed {from = from} (refused {all = all} {before = before} event why runs refusal) sound =
    let so_far = all_placed runs sound in
    let seen : Seen = seen_by event None before before in
    (All-push (Placed from.nodes) all seen so_far.0 (placed from.nodes seen so_far.1 so_far.2), so_far.1, so_far.2)

-- a shape fits in this number of rows and columns
abbrev Fits : ℕ → ℕ → StepShape → Type 0
Fits nodes columns shape = (step_right_of shape ≤ step_x columns + 32) × (step_foot_of shape ≤ step_y nodes + 36)

name_low : (row column : ℕ) → row_name_y row column ≤ step_y row + 26
name_low row column = elim (column == 0) as (λ b. cond b (step_y row + 4) (step_y row + 26) ≤ step_y row + 26) [ true ↦ omega arith | false ↦ omega arith ]

in_range : (n k d : ℕ) → k < length (range_with_len 0 n) → get_or (range_with_len 0 n) k d ≡ 0 + k
in_range n k d lt = get_or-range_with_len 0 n k d (omega (arith, lt, length-range_with_len 0 n))

names_fit : (nodes columns row : ℕ) → row ≤ nodes → All (Fits nodes columns) (map (λ k. Name row (NAMED_EVERY * k)) (range_with_len 0 (name_count columns)))
names_fit nodes columns row le =
    All-map (Fits nodes columns) (λ k. Name row (NAMED_EVERY * k)) (range_with_len 0 (name_count columns))
    (λ k d within.
    let is : get_or (range_with_len 0 (name_count columns)) k d ≡ 0 + k = in_range (name_count columns) k d within in
    let few : k < name_count columns = omega (arith, within, length-range_with_len 0 (name_count columns)) in
    let place : NAMED_EVERY * get_or (range_with_len 0 (name_count columns)) k d ≤ columns = omega arith in
    (omega arith, omega (arith, name_low row (NAMED_EVERY * get_or (range_with_len 0 (name_count columns)) k d))))

all_flat : {X : Type 0} (P : StepShape → Type 0) (f : X → List StepShape) (xs : List X) → All (λ x. All P (f x)) xs → All P (flat_map f xs)
all_flat P f [] all = All-nil P
all_flat P f (x ∷ xs) all = All-append P (f x) (flat_map f xs) (All-head (λ y. All P (f y)) x xs all) (all_flat P f xs (All-tail (λ y. All P (f y)) x xs all))

rows_fit : (nodes columns : ℕ) → All (Fits nodes columns) (rows_shapes nodes columns)
rows_fit nodes columns =
    all_flat (Fits nodes columns) (lane_shapes columns) (range_with_len 0 (nodes + 1))
    (λ k d within.
    let row : ℕ = get_or (range_with_len 0 (nodes + 1)) k d in
    let is : row ≡ 0 + k = in_range (nodes + 1) k d within in
    let few : row ≤ nodes = omega (arith, within, length-range_with_len 0 (nodes + 1)) in
    All-cons (Fits nodes columns) (Lane row columns) (map (λ j. Name row (NAMED_EVERY * j)) (range_with_len 0 (name_count columns))) (omega arith, omega arith) (names_fit nodes columns row few))

-- the shapes of an event
until_few : (n : ℕ) (events : List Event) → until n events ≤ length events
until_few n [] = omega arith
until_few n (e ∷ events) = elim (node_of e == n) as (λ b. cond b 0 (until n events + 1) ≤ length (e ∷ events)) [ true ↦ omega arith | false ↦ omega (arith, until_few n events) ]

home_fits : (nodes columns column was is : ℕ) → column < columns → All (Fits nodes columns) (home_shapes column was is)
home_fits nodes columns column was is lt =
    elim (is == was) as (λ b. All (Fits nodes columns) (cond b [] (Home column is ∷ []))) [
      | true ↦ All-nil (Fits nodes columns)
      | false ↦ All-cons (Fits nodes columns) (Home column is) [] (omega arith, omega arith) (All-nil (Fits nodes columns))
    ]

word_fits : (nodes columns column node : ℕ) (was is : Entry) → column < columns → node ≤ nodes → All (Fits nodes columns) (word_shapes column node was is)
word_fits nodes columns column node was is lt le =
    elim (is_same_entry is was) as (λ b. All (Fits nodes columns) (cond b [] (Word column node is ∷ []))) [
      | true ↦ All-nil (Fits nodes columns)
      | false ↦ All-cons (Fits nodes columns) (Word column node is) [] (omega arith, omega arith) (All-nil (Fits nodes columns))
    ]

words_fit : (nodes columns column : ℕ) (were : List Entry) (c : State) → column < columns → c.nodes ≡ nodes → All (Fits nodes columns) (words_shapes column were c)
words_fit nodes columns column were c lt same =
    all_flat (Fits nodes columns) (λ k. word_shapes column (k + 1) (get_or were k empty) (entry c (k + 1))) (range_with_len 0 c.nodes)
    (λ k d within.
    let m : ℕ = get_or (range_with_len 0 c.nodes) k d in
    let is : m ≡ 0 + k = in_range c.nodes k d within in
    word_fits nodes columns column (m + 1) (get_or were m empty) (entry c (m + 1)) lt (omega (arith, within, length-range_with_len 0 c.nodes)))

event_fits : (nodes columns column : ℕ) (s : Seen) (rest : List Event) → node_of s.event ≤ nodes → Placed nodes s → column + 1 + length rest ≡ columns → All (Fits nodes columns) (event_shapes column s rest)
event_fits nodes columns column s rest le p long =
    let P : StepShape → Type 0 = Fits nodes columns in
    let m : ℕ = node_of s.event in
    let lt : column < columns = omega arith in
    let few = until_few m rest in
    let low = p.row in
    let bar : StepShape = At m column (column + (until m rest + 1)) (point s.after m) in
    let lies : StepShape = shape.Lies column s.after.place in
    let homes : List StepShape = home_shapes column s.before.home s.after.home in
    let words : List StepShape = words_shapes column (entries_of s.before) s.after in
    All-append P (Number column ∷ bar ∷ lies ∷ [] ++ homes ++ words) (Act column s.event s.told ∷ [])
    (All-append P (Number column ∷ bar ∷ lies ∷ [] ++ homes) words
    (All-append P (Number column ∷ bar ∷ lies ∷ []) homes
    (All-cons P (Number column) (bar ∷ lies ∷ []) (omega arith, omega arith) (All-cons P bar (lies ∷ []) (omega arith, omega arith) (All-cons P lies [] (omega arith, omega arith) (All-nil P))))
    (home_fits nodes columns column s.before.home s.after.home lt))
    (words_fit nodes columns column (entries_of s.before) s.after lt p.nodes_are))
    (All-cons P (Act column s.event s.told) [] (omega arith, omega arith) (All-nil P))

abbrev IsOurs : ℕ → Event → Type 0
IsOurs nodes e = (1 ≤ node_of e) × (node_of e ≤ nodes)

seen_fit : (nodes columns column : ℕ) (from : State) (events : List Event) (all : List Seen) → column + length events ≡ columns → Chained from events all → All (IsOurs nodes) events → All (Placed nodes) all → All (Fits nodes columns) (seen_shapes column events all)
seen_fit nodes columns column from [] [] long h ours there = All-nil (Fits nodes columns)
seen_fit nodes columns column from [] (s ∷ all) long h ours there = absurd h
seen_fit nodes columns column from (e ∷ events) [] long h ours there = absurd h
seen_fit nodes columns column from (e ∷ events) (s ∷ all) long h ours there =
    let its : node_of s.event ≤ nodes = subst (λ x. node_of x ≤ nodes) (sym h.0) (All-head (IsOurs nodes) e events ours).1 in
    All-append (Fits nodes columns) (event_shapes column s events) (seen_shapes (column + 1) events all)
    (event_fits nodes columns column s events its (All-head (Placed nodes) s all there) (omega arith))
    (seen_fit nodes columns (column + 1) s.after events all (omega arith) h.2 (All-tail (IsOurs nodes) e events ours) (All-tail (Placed nodes) s all there))

pub step_shapes_lie_within : StepShapesLieWithin
step_shapes_lie_within script all last few ours runs =
    let columns : ℕ = length script.events in
    let nodes : ℕ = script.nodes in
    let there = all_placed runs (first_sound (line_of script) (length-map-range_with_len {X = ℕ} (λ k. 0) 0 64) few) in
    All-weaker (Fits nodes columns) (IsWithinSteps script) (λ shape fits. (let right = fits.0 in omega arith, let foot = fits.1 in omega arith)) (step_timeline script all)
    (All-append (Fits nodes columns) (rows_shapes nodes columns) (seen_shapes 0 script.events all) (rows_fit nodes columns)
    (seen_fit nodes columns 0 (first (line_of script)) script.events all (omega arith) (chained runs).0 ours there.0))
