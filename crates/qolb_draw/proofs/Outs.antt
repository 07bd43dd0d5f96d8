-- Proof that the text and the timeline made from a line's marks are those that the specification defines.
use Rattle.std.proofs.Common.{◌≡◌, ℕ, zero, zero-add, max, suc, ◌+◌, ◌-◌, ◌*◌, ◌<◌, ◌≤◌, ◌==◌, ◌||◌, min, Bool, cond, List, [], ◌∷◌, ◌++◌, length, map, take, drop, get_or, refl, sym, ap, ◌∙◌, subst, arith, inl, inr, ◌⊎◌, length-append, length-drop}
use Rattle.std.specs.Prelude.{codes}
use Rattle.std.specs.List.{All, filter, flat_map, fold, list_any, range_with_len, sum_by}
use Rattle.std.proofs.lemmas.List.{length-map, take_more, take_all, take-map, drop-map, map-append, get_or-drop, length-take-le}
use Rattle.std.proofs.lemmas.List.Concat.{get_or-flat_map}
use Rattle.std.proofs.lemmas.List.Elements.{All-filter}
use Rattle.std.proofs.lemmas.List.Sums.{count_by-le-length, fold-append, length-filter, sum_by-append}
use Rattle.std.proofs.lemmas.List.FromFn.{length-map-range_with_len, get_or-map-range_with_len, get_or-range_with_len, length-range_with_len}
use Rattle.std.proofs.lemmas.Bool.{cases_lt}
use Rattle.qolb_script.specs.declared.command.Command.TheVariants.{Enq}
use Rattle.qolb_script.specs.Commands.{node_of}
use Rattle.qolb_script.specs.Script.{Script}
use Rattle.qolb_script.specs.Reply.{no_line}
use Rattle.qolb_draw.specs.declared.event.Event.{Event}
use Rattle.qolb_draw.specs.declared.symbol.Symbol.{Symbol}
use Rattle.qolb_draw.specs.declared.symbol.Symbol.TheVariants as symbol
use Rattle.qolb_draw.specs.declared.text.TheConstants.{COLUMNS}
use Rattle.qolb_draw.specs.LineRuns.{Step, event_of, mark_at, steps_on, callers}
use Rattle.qolb_draw.specs.Pictures.{letter_of, label_of, label_room, row_text, block_text, block_at, block_count, blocks_text, line_text}
use Rattle.qolb_draw.specs.Heads.{heads_text}
use Rattle.qolb_draw.specs.Grids.{IsGrid, numbers_of, nodes_of, marks_of, mark_out_of, row_out_of, block_out_of, blocks_out_of, shown_out_of, line_out_of, stands_out_of, row_shapes_out_of, shapes_out_of, line_svg_out_of}
use Rattle.qolb_draw.specs.Timelines.{columns_on, rows_on, top_of, widest}
use Rattle.qolb_draw.specs.Svg.{height_of, line_begin, texts, width_of}
use Rattle.qolb_draw.specs.Timelines.{columns_of, row_shapes, stands_of, timeline_of}
use Rattle.qolb_draw.specs.Shapes.{stand_of}
use Rattle.qolb_draw.proofs.Pushing.{range_more}

-- the step that stands for a place outside the list
abbrev pub no_step : Step
no_step = record { number = 0; command = Enq 0 0; before = no_line }

-- each step has a mark for each node
pub length-marks_of : (nodes : ℕ) (steps : List Step) → length (marks_of nodes steps) ≡ length steps * nodes
length-marks_of nodes [] = omega arith
length-marks_of nodes (step ∷ steps) =
    length-append (map (mark_at step) (range_with_len 1 nodes)) (marks_of nodes steps)
    ∙ ap (λ n. n + length (marks_of nodes steps)) (length-map-range_with_len (mark_at step) 1 nodes) ∙ ap (λ n. nodes + n) (length-marks_of nodes steps) ∙ one_row nodes (length steps)
  where
    one_row : (nodes n : ℕ) → nodes + n * nodes ≡ suc n * nodes
    one_row nodes n = omega arith

mark_found : (nodes n k : ℕ) (steps : List Step) → k < length steps → 1 ≤ n → n ≤ nodes → mark_out_of nodes (marks_of nodes steps) n k ≡ mark_at (get_or steps k no_step) n
mark_found nodes n k steps lt first last =
    let before : length (marks_of nodes (take k steps)) ≡ k * nodes = length-marks_of nodes (take k steps) ∙ ap (λ m. m * nodes) (length-take-le k steps (omega arith)) in
    let below : n - 1 < nodes = omega arith in
    let in_row : n - 1 < length (map (mark_at (get_or steps k no_step)) (range_with_len 1 nodes)) = subst (λ (m : ℕ). n - 1 < m) (sym (length-map-range_with_len (mark_at (get_or steps k no_step)) 1 nodes)) below in
    ap (λ m. get_or (marks_of nodes steps) (m + (n - 1)) symbol.Idle) (sym before)
    ∙ get_or-flat_map (λ (step : Step). map (mark_at step) (range_with_len 1 nodes)) steps k (n - 1) no_step symbol.Idle lt in_row
    ∙ get_or-map-range_with_len (mark_at (get_or steps k no_step)) 1 nodes (n - 1) n symbol.Idle below (omega arith)

-- a row, made from the letter of each mark
row_found : {X : Type 0} (h : Symbol → X) (nodes n start count : ℕ) (steps : List Step) → 1 ≤ n → n ≤ nodes → count ≤ length steps - start
    → map (λ k. h (mark_out_of nodes (marks_of nodes steps) n k)) (range_with_len start count) ≡ map (λ step. h (mark_at step n)) (take count (drop start steps))
row_found h nodes n start zero steps first last fits = refl
row_found {X} h nodes n start (suc count) steps first last fits =
    let f : ℕ → X = λ k. h (mark_out_of nodes (marks_of nodes steps) n k) in
    let g : Step → X = λ step. h (mark_at step n) in
    let more : suc count ≡ count + 1 = omega arith in
    let within : count < length (drop start steps) = omega (arith, length-drop start steps) in
    ap (λ m. map f (range_with_len start m)) more ∙ ap (map f) (range_more start count) ∙ map-append f (range_with_len start count) ((start + count) ∷ [])
    ∙ ap (λ xs. xs ++ f (start + count) ∷ []) (row_found h nodes n start count steps first last (omega arith))
    ∙ ap (λ x. map g (take count (drop start steps)) ++ x ∷ []) (ap h (mark_found nodes n (start + count) steps (omega (arith, length-drop start steps)) first last) ∙ ap g (sym (get_or-drop start steps count no_step)))
    ∙ sym (ap (λ m. map g (take m (drop start steps))) more ∙ ap (map g) (take_more (drop start steps) count no_step within) ∙ map-append g (take count (drop start steps)) (get_or (drop start steps) count no_step ∷ []))

-- the rows of a block
rows_text_found : (nodes start count : ℕ) (steps : List Step) (shown : List ℕ) → All (λ n. (1 ≤ n) × (n ≤ nodes)) shown → count ≤ length steps - start
    → flat_map (row_out_of nodes (marks_of nodes steps) start count) shown ≡ flat_map (row_text (take count (drop start steps))) shown
rows_text_found nodes start count steps [] all fits = refl
rows_text_found nodes start count steps (n ∷ shown) all fits =
    let here : (1 ≤ n) × (n ≤ nodes) = all 0 0 (omega arith) in
    let rest : All (λ m. (1 ≤ m) × (m ≤ nodes)) shown = λ k d lt. all (suc k) d (omega (arith, lt)) in
    ap (λ row. (label_of n ++ row ++ 10 ∷ []) ++ flat_map (row_out_of nodes (marks_of nodes steps) start count) shown) (row_found letter_of nodes n start count steps here.0 here.1 fits)
    ∙ ap (λ t. row_text (take count (drop start steps)) n ++ t) (rows_text_found nodes start count steps shown rest fits)

-- a count that is at most the length
take_within : (n : ℕ) (xs : List Step) → take (min n (length xs)) xs ≡ take n xs
take_within n xs = by (cases_lt n (length xs))
  where
    by : (n < length xs) ⊎ (length xs ≤ n) → take (min n (length xs)) xs ≡ take n xs
    by (inl lt) = let least : min n (length xs) ≡ n = omega arith in ap (λ m. take m xs) least
    by (inr le) = let least : min n (length xs) ≡ length xs = omega arith in ap (λ m. take m xs) least ∙ take_all (length xs) xs (omega arith) ∙ sym (take_all n xs le)

block_found : (nodes k : ℕ) (steps : List Step) (shown : List ℕ) → All (λ n. (1 ≤ n) × (n ≤ nodes)) shown
    → block_out_of nodes (marks_of nodes steps) (numbers_of steps) shown (COLUMNS * k) (min COLUMNS (length (numbers_of steps) - COLUMNS * k)) ≡ block_text shown (block_at steps k)
block_found nodes k steps shown all =
    let start : ℕ = COLUMNS * k in
    let count : ℕ = min COLUMNS (length (numbers_of steps) - COLUMNS * k) in
    let long : length (numbers_of steps) ≡ length steps = length-map steps (λ (step : Step). step.number) in
    let many : count ≡ min COLUMNS (length (drop start steps)) = ap (λ m. min COLUMNS (m - start)) long ∙ ap (min COLUMNS) (sym (length-drop start steps)) in
    let taken : take count (drop start steps) ≡ block_at steps k = ap (λ m. take m (drop start steps)) many ∙ take_within COLUMNS (drop start steps) in
    ap (λ ns. 10 ∷ [] ++ heads_text label_room ns ++ flat_map (row_out_of nodes (marks_of nodes steps) start count) shown) (ap (take count) (drop-map (λ (step : Step). step.number) start steps) ∙ take-map (λ (step : Step). step.number) count (drop start steps))
    ∙ ap (λ t. 10 ∷ [] ++ heads_text label_room (numbers_of (take count (drop start steps))) ++ t) (rows_text_found nodes start count steps shown all (omega (arith, long)))
    ∙ ap (block_text shown) taken

same_blocks : (f g : ℕ → List ℕ) → ((k : ℕ) → f k ≡ g k) → (xs : List ℕ) → flat_map f xs ≡ flat_map g xs
same_blocks f g h [] = refl
same_blocks f g h (x ∷ xs) = ap (λ t. t ++ flat_map f xs) (h x) ∙ ap (λ t. g x ++ t) (same_blocks f g h xs)

-- the nodes that called
any_called : (n : ℕ) (steps : List Step) → list_any (λ m. m == n) (nodes_of steps) ≡ list_any (λ step. node_of step.command == n) steps
any_called n [] = refl
any_called n (step ∷ steps) = ap (λ b. (node_of step.command == n) || b) (any_called n steps)

same_filter : (p q : ℕ → Bool) → ((k : ℕ) → p k ≡ q k) → (xs : List ℕ) → filter p xs ≡ filter q xs
same_filter p q h [] = refl
same_filter p q h (x ∷ xs) = ap (λ b. cond b (x ∷ filter p xs) (filter p xs)) (h x) ∙ ap (λ ys. cond (q x) (x ∷ ys) ys) (same_filter p q h xs)

shown_found : (nodes : ℕ) (steps : List Step) → shown_out_of nodes (nodes_of steps) ≡ callers nodes steps
shown_found nodes steps = same_filter (λ n. list_any (λ m. m == n) (nodes_of steps)) (λ n. list_any (λ step. node_of step.command == n) steps) (λ n. any_called n steps) (range_with_len 1 nodes)

pub shown_within : (nodes : ℕ) (called : List ℕ) → All (λ n. (1 ≤ n) × (n ≤ nodes)) (shown_out_of nodes called)
shown_within nodes called = All-filter (λ n. list_any (λ m. m == n) called) (λ n. (1 ≤ n) × (n ≤ nodes)) (range_with_len 1 nodes)
    (λ k d lt. let below : k < nodes = omega (arith, lt, length-range_with_len 1 nodes) in let is : get_or (range_with_len 1 nodes) k d ≡ 1 + k = get_or-range_with_len 1 nodes k d below in (omega arith, omega arith))

blocks_found : (nodes : ℕ) (steps : List Step) (shown : List ℕ) → All (λ n. (1 ≤ n) × (n ≤ nodes)) shown → blocks_out_of nodes (marks_of nodes steps) (numbers_of steps) shown ≡ blocks_text shown steps
blocks_found nodes steps shown all =
    same_blocks _ (λ k. block_text shown (block_at steps k)) (λ k. block_found nodes k steps shown all) (range_with_len 0 (block_count (length (numbers_of steps))))
    ∙ ap (λ m. flat_map (λ k. block_text shown (block_at steps k)) (range_with_len 0 (block_count m))) (length-map steps (λ (step : Step). step.number))

-- the picture of a line
pub line_found : (script : Script) (line rows : ℕ) (numbers called : List ℕ) (events : List Event) (marks : List Symbol) → IsGrid script.nodes (steps_on line script) rows numbers called events marks → line_out_of line rows numbers called marks ≡ line_text script line
line_found script line rows numbers called events marks g =
    let steps : List Step = steps_on line script in
    ap (λ h. line_out_of line h numbers called marks) g.rows_are ∙ ap (λ xs. line_out_of line script.nodes xs called marks) g.numbers_are
    ∙ ap (λ xs. line_out_of line script.nodes (numbers_of steps) xs marks) g.callers_are ∙ ap (λ ms. line_out_of line script.nodes (numbers_of steps) (nodes_of steps) ms) g.marks_are
    ∙ ap (λ shown. codes "line " ++ (48 + line) ∷ 10 ∷ [] ++ blocks_out_of script.nodes (marks_of script.nodes steps) (numbers_of steps) shown ++ 10 ∷ []) (shown_found script.nodes steps)
    ∙ ap (λ t. codes "line " ++ (48 + line) ∷ 10 ∷ [] ++ t ++ 10 ∷ []) (blocks_found script.nodes steps (callers script.nodes steps) (subst (All (λ n. (1 ≤ n) × (n ≤ script.nodes))) (shown_found script.nodes steps) (shown_within script.nodes (nodes_of steps))))

-- the states of a node after all steps
stands_found : (nodes n : ℕ) (steps : List Step) → 1 ≤ n → n ≤ nodes → stands_out_of nodes (marks_of nodes steps) n 0 (length steps) ≡ stands_of steps n
stands_found nodes n steps first last =
    row_found stand_of nodes n 0 (length steps) steps first last (omega arith) ∙ ap (map (λ step. stand_of (mark_at step n))) (take_all (length steps) steps (omega arith))

-- the rows of a timeline
row_shapes_found : (nodes : ℕ) (steps : List Step) (all shown : List ℕ) → All (λ n. (1 ≤ n) × (n ≤ nodes)) shown
    → flat_map (row_shapes_out_of all nodes (marks_of nodes steps) (length steps)) shown ≡ flat_map (λ n. row_shapes all (length steps) (stands_of steps n) n) shown
row_shapes_found nodes steps all [] within = refl
row_shapes_found nodes steps all (n ∷ shown) within =
    let here : (1 ≤ n) × (n ≤ nodes) = within 0 0 (omega arith) in
    let rest : All (λ m. (1 ≤ m) × (m ≤ nodes)) shown = λ k d lt. within (suc k) d (omega (arith, lt)) in
    ap (λ ss. row_shapes all (length steps) ss n ++ flat_map (row_shapes_out_of all nodes (marks_of nodes steps) (length steps)) shown) (stands_found nodes n steps here.0 here.1)
    ∙ ap (λ t. row_shapes all (length steps) (stands_of steps n) n ++ t) (row_shapes_found nodes steps all shown rest)

-- the timeline of a line
pub timeline_found : (script : Script) (line top rows : ℕ) (numbers called : List ℕ) (events : List Event) (marks : List Symbol) → IsGrid script.nodes (steps_on line script) rows numbers called events marks
    → line_svg_out_of top line rows (length numbers) called events marks ≡ line_begin top line ++ texts (timeline_of script line) ++ codes "</g>\n"
timeline_found script line top rows numbers called events marks g =
    let steps : List Step = steps_on line script in
    let shown : List ℕ = callers script.nodes steps in
    ap (λ h. line_svg_out_of top line h (length numbers) called events marks) g.rows_are
    ∙ ap (λ n. line_svg_out_of top line script.nodes n called events marks) (ap length g.numbers_are ∙ length-map steps (λ (step : Step). step.number))
    ∙ ap (λ xs. line_svg_out_of top line script.nodes (length steps) xs events marks) g.callers_are
    ∙ ap (λ xs. line_svg_out_of top line script.nodes (length steps) (nodes_of steps) xs marks) g.events_are
    ∙ ap (λ ms. line_svg_out_of top line script.nodes (length steps) (nodes_of steps) (map event_of steps) ms) g.marks_are
    ∙ ap (λ xs. line_begin top line ++ texts (shapes_out_of xs script.nodes (marks_of script.nodes steps) (length steps) (map event_of steps)) ++ codes "</g>\n") (shown_found script.nodes steps)
    ∙ ap (λ t. line_begin top line ++ texts (t ++ columns_of shown (map event_of steps)) ++ codes "</g>\n")
    (row_shapes_found script.nodes steps shown shown (subst (All (λ n. (1 ≤ n) × (n ≤ script.nodes))) (shown_found script.nodes steps) (shown_within script.nodes (nodes_of steps))))

-- there are as many rows as nodes that make calls
pub rows_found : (script : Script) (line rows : ℕ) (numbers called : List ℕ) (events : List Event) (marks : List Symbol) → IsGrid script.nodes (steps_on line script) rows numbers called events marks
    → length (shown_out_of rows called) ≡ rows_on script line
rows_found script line rows numbers called events marks g =
    ap (λ h. length (shown_out_of h called)) g.rows_are ∙ ap (λ xs. length (shown_out_of script.nodes xs)) g.callers_are ∙ ap length (shown_found script.nodes (steps_on line script))

pub columns_found : (script : Script) (line rows : ℕ) (numbers called : List ℕ) (events : List Event) (marks : List Symbol) → IsGrid script.nodes (steps_on line script) rows numbers called events marks
    → length numbers ≡ columns_on script line
columns_found script line rows numbers called events marks g = ap length g.numbers_are ∙ length-map (steps_on line script) (λ (step : Step). step.number)

-- there is an event for each number
pub event_count : (nodes : ℕ) (steps : List Step) (rows : ℕ) (numbers called : List ℕ) (events : List Event) (marks : List Symbol) → IsGrid nodes steps rows numbers called events marks → length events ≡ length numbers
event_count nodes steps rows numbers called events marks g =
    ap length g.events_are ∙ length-map steps event_of ∙ sym (ap length g.numbers_are ∙ length-map steps (λ (step : Step). step.number))

pub length-shown : (nodes : ℕ) (called : List ℕ) → length (shown_out_of nodes called) ≤ nodes
length-shown nodes called =
    let p : ℕ → Bool = λ n. list_any (λ m. m == n) called in
    omega (arith, length-filter p (range_with_len 1 nodes), count_by-le-length p (range_with_len 1 nodes), length-range_with_len 1 nodes)

-- the widest line and the height with one more line
pub top_more : (script : Script) (line : ℕ) → top_of script (line + 1) ≡ top_of script line + height_of (rows_on script line)
top_more script line =
    let more : sum_by (λ k. height_of (rows_on script k)) (range_with_len 0 (line + 1)) ≡ sum_by (λ k. height_of (rows_on script k)) (range_with_len 0 line) + sum_by (λ k. height_of (rows_on script k)) ((0 + line) ∷ []) =
    ap (sum_by (λ k. height_of (rows_on script k))) (range_more 0 line) ∙ sum_by-append (λ k. height_of (rows_on script k)) (range_with_len 0 line) ((0 + line) ∷ []) in
    let here : height_of (rows_on script (0 + line)) ≡ height_of (rows_on script line) = ap (λ k. height_of (rows_on script k)) (zero-add line) in
    omega arith

pub widest_more : (script : Script) (line : ℕ) → widest script (line + 1) ≡ max (widest script line) (width_of (columns_on script line))
widest_more script line =
    ap (fold (λ width k. max width (width_of (columns_on script k))) 640) (range_more 0 line) ∙ fold-append (λ width k. max width (width_of (columns_on script k))) 640 (range_with_len 0 line) ((0 + line) ∷ [])
    ∙ ap (λ k. max (widest script line) (width_of (columns_on script k))) (zero-add line)
