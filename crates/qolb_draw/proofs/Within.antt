-- Proof that no shape of a timeline reaches beyond the right edge of the picture or into the next timeline.
use Rattle.std.proofs.Common.{◌≡◌, ℕ, zero, suc, ◌+◌, ◌-◌, ◌*◌, ◌<◌, ◌≤◌, ◌==◌, ◌||◌, nat_lt, cond, Bool, true, false, List, [], ◌∷◌, ◌++◌, length, map, filter, flat_map, fold, get_or, slice_get, Option, Some, None, refl, sym, ap, ◌∙◌, subst, arith, All, eqb-true, eq-eqb}
use Rattle.std.specs.List.{list_any, range_with_len}
use Rattle.std.proofs.lemmas.Bool.{or_right}
use Rattle.std.proofs.lemmas.Bool.Decides.{nat_tests}
use Rattle.std.proofs.lemmas.List.{get_or-map, length-map}
use Rattle.std.proofs.lemmas.List.Elements.{All-append, All-cons, All-drop, All-head, All-map, All-nil, All-push, All-tail, All-weaker, filter_passes}
use Rattle.std.proofs.lemmas.List.Folds.{list_any-append}
use Rattle.std.proofs.lemmas.List.FromFn.{get_or-range_with_len, length-range_with_len}
use Rattle.std.proofs.lemmas.List.Sums.{count_by-le-length, sum_by-cons}
use Rattle.std.proofs.lemmas.Option.{same_Some}
use Rattle.qolb_model.specs.declared.request.Request.{Request}
use Rattle.qolb_model.specs.Histories.{open_of}
use Rattle.qolb_model.specs.OneOwner.{OwnerState}
use Rattle.qolb_model.specs.Requests.{next_of}
use Rattle.qolb_script.specs.declared.command.Command.{Command}
use Rattle.qolb_script.specs.declared.command.Command.TheVariants.{Write}
use Rattle.qolb_script.specs.declared.reply_text.Said.{Said}
use Rattle.qolb_script.specs.declared.reply_text.Said.TheVariants as said
use Rattle.qolb_script.specs.Commands.{line_of, node_of}
use Rattle.qolb_script.specs.Reply.{after_command, said_of, config_of}
use Rattle.qolb_script.specs.Script.{IsInRange, Script}
use Rattle.qolb_draw.specs.declared.bar.Stand.{Stand}
use Rattle.qolb_draw.specs.declared.bar.Stand.TheVariants as stand
use Rattle.qolb_draw.specs.declared.event.Event.{Event}
use Rattle.qolb_draw.specs.declared.svg.TheConstants.{NAMED_EVERY}
use Rattle.qolb_draw.specs.Following.{has_asked}
use Rattle.qolb_draw.specs.Laws.{IsWithin, ShapesLieWithin, foot_of, right_of}
use Rattle.qolb_draw.specs.LineRuns.{LineRun, Step, callers, event_of, run_of, run_start, run_step, steps_on}
use Rattle.qolb_draw.specs.LineRuns.{turn_node, waiting_nodes}
use Rattle.qolb_draw.specs.Timelines.{top_of, widest}
use Rattle.qolb_draw.specs.Svg.{height_of, name_y, width_of, y_of}
use Rattle.qolb_draw.specs.Shapes.{Arrow, Bar, Bytes, Call, Lane, Name, Number, Shape, is_same, name_count, places_in}
use Rattle.qolb_draw.specs.Timelines.{arrow_of, bar_of, bars_from, bytes_of, column_shapes, columns_of, names_of, no_event, row_of, row_shapes, stands_of, timeline_of}
use Rattle.qolb_draw.proofs.Outs.{no_step, top_more, widest_more}
use Rattle.qolb_draw.proofs.SameRuns.{run_by, stepped}
use Rattle.qolb_draw.proofs.Turns.{asked_if, grew}

-- one of these steps is a call of the node
abbrev called : List Step → ℕ → Bool
called steps n = list_any (λ (s : Step). node_of s.command == n) steps

abbrev Called : List Step → ℕ → Type 0
Called steps n = called steps n ≡ true

called_more : (steps : List Step) (step : Step) (n : ℕ) → Called steps n → Called (steps ++ step ∷ []) n
called_more steps step n h = list_any-append (λ (s : Step). node_of s.command == n) steps (step ∷ []) ∙ ap (λ b. b || called (step ∷ []) n) h

called_last : (steps : List Step) (step : Step) → Called (steps ++ step ∷ []) (node_of step.command)
called_last steps step =
    list_any-append (λ (s : Step). node_of s.command == node_of step.command) steps (step ∷ [])
    ∙ or_right (called steps (node_of step.command)) (called (step ∷ []) (node_of step.command)) (ap (λ b. b || false) (eq-eqb (node_of step.command) (node_of step.command) refl))

-- the node whose turn it is before the step has made a call, and so has the node whose turn it is after the step
record Known (steps : List Step) (step : Step) : Type 0 where
  its : Called steps (node_of step.command)
  before : (n : ℕ) → turn_node step.before ≡ Some n → Called steps n
  after : (n : ℕ) → turn_node (after_command step.before step.command) ≡ Some n → Called steps n

known_more : (steps : List Step) (step last : Step) → Known steps step → Known (steps ++ last ∷ []) step
known_more steps step last k = record {
  its = called_more steps last (node_of step.command) k.its;
  before = λ n e. called_more steps last n (k.before n e);
  after = λ n e. called_more steps last n (k.after n e);
}

-- all requests were made by nodes that have made calls
abbrev AreCalled : List Step → OwnerState → Type 0
AreCalled steps s = All (λ (r : Request). Called steps r.node) s.queue.order

first_of : (P : ℕ → Type 0) (xs : List ℕ) (n : ℕ) → All P xs → slice_get xs 0 ≡ Some n → P n
first_of P [] n all e = absurd (let none : None ≡ Some n = e in cc none)
first_of P (x ∷ xs) n all e = subst P (same_Some x n e) (All-head P x xs all)

turn_called : (steps : List Step) (s : OwnerState) (n : ℕ) → AreCalled steps s → turn_node s ≡ Some n → Called steps n
turn_called steps s n all e =
    first_of (Called steps) (waiting_nodes s) n
    (All-map (Called steps) (λ (r : Request). r.node) (open_of s.queue.order s.queue.ends) (All-drop (λ (r : Request). Called steps r.node) (length s.queue.ends) s.queue.order all)) e

asked_called : (steps : List Step) (s : OwnerState) (n : ℕ) (b : Bool) → Called steps n → All (λ (r : Request). Called steps r.node) (asked_if b n s)
asked_called steps s n true h = All-cons (λ (r : Request). Called steps r.node) (next_of n s.queue.order) [] h (All-nil (λ (r : Request). Called steps r.node))
asked_called steps s n false h = All-nil (λ (r : Request). Called steps r.node)

after_called : (steps : List Step) (s : OwnerState) (c : Command) → AreCalled steps s → Called steps (node_of c) → AreCalled steps (after_command s c)
after_called steps s c all its =
    subst (All (λ (r : Request). Called steps r.node)) (sym (grew s c).order_is)
    (All-append (λ (r : Request). Called steps r.node) s.queue.order (asked_if (has_asked (said_of s c)) (node_of c) s) all (asked_called steps s (node_of c) (has_asked (said_of s c)) its))

-- a run on a line
abbrev IsOurs : ℕ → Command → Type 0
IsOurs nodes c = (1 ≤ node_of c) × (node_of c ≤ nodes)

record Knows (nodes : ℕ) (run : LineRun) : Type 0 where
  now : AreCalled run.steps run.now
  steps : All (Known run.steps) run.steps
  ours : All (λ (s : Step). IsOurs nodes s.command) run.steps

knows_by : (nodes : ℕ) (run : LineRun) (c : Command) (b : Bool) → IsOurs nodes c → Knows nodes run → Knows nodes (run_by run c b)
knows_by nodes run c false ours k = record { now = k.now; steps = k.steps; ours = k.ours }
knows_by nodes run c true ours k =
    let step : Step = record { number = run.done + 1; command = c; before = run.now } in
    let more : List Step = run.steps ++ step ∷ [] in
    let its : Called more (node_of c) = called_last run.steps step in
    let before : AreCalled more run.now = All-weaker (λ (r : Request). Called run.steps r.node) (λ (r : Request). Called more r.node) (λ r. called_more run.steps step r.node) run.now.queue.order k.now in
    let after : AreCalled more (after_command run.now c) = after_called more run.now c before its in
    record {
      now = after;
      steps = All-push (Known more) run.steps step (All-weaker (Known run.steps) (Known more) (λ s. known_more run.steps s step) run.steps k.steps)
          (record { its = its; before = λ n. turn_called more run.now n before; after = λ n. turn_called more (after_command run.now c) n after });
      ours = All-push (λ (s : Step). IsOurs nodes s.command) run.steps step k.ours ours;
    }

knows_all : (nodes line : ℕ) (cs : List Command) (run : LineRun) → All (IsOurs nodes) cs → Knows nodes run → Knows nodes (fold (run_step line) run cs)
knows_all nodes line [] run ours k = k
knows_all nodes line (c ∷ cs) run ours k =
    knows_all nodes line cs (run_step line run c) (All-tail (IsOurs nodes) c cs ours)
    (subst (Knows nodes) (sym (stepped line run c)) (knows_by nodes run c (line_of c == line) (All-head (IsOurs nodes) c cs ours) k))

knows : (script : Script) (line : ℕ) → IsInRange script → Knows script.nodes (run_of line script)
knows script line range =
    knows_all script.nodes line script.commands (run_start (config_of script))
    (All-weaker (λ c. (1 ≤ node_of c) × (node_of c ≤ script.nodes) × (line_of c < script.lines)) (IsOurs script.nodes) (λ c h. (h.0, h.1)) script.commands range)
    (record { now = All-nil (λ (r : Request). Called [] r.node); steps = All-nil (Known []); ours = All-nil (λ (s : Step). IsOurs script.nodes s.command) })

called_ours : (nodes n : ℕ) (steps : List Step) → All (λ (s : Step). IsOurs nodes s.command) steps → Called steps n → (1 ≤ n) × (n ≤ nodes)
called_ours nodes n [] all h = absurd (let not_so : false ≡ true = h in cc not_so)
called_ours nodes n (s ∷ steps) all h =
    by (node_of s.command == n) refl (called_ours nodes n steps (All-tail (λ (s : Step). IsOurs nodes s.command) s steps all))
  where
    by : (b : Bool) → (node_of s.command == n) ≡ b → (Called steps n → (1 ≤ n) × (n ≤ nodes)) → (1 ≤ n) × (n ≤ nodes)
    by true e behind = subst (λ m. (1 ≤ m) × (m ≤ nodes)) (eqb-true (node_of s.command) n e) (All-head (λ (s : Step). IsOurs nodes s.command) s steps all)
    by false e behind = behind (sym (ap (λ b. b || called steps n) e) ∙ h)

-- a node that has made calls has a row
abbrev passing : (ℕ → Bool) → ℕ → ℕ → List ℕ
passing p from k = filter p (range_with_len from k)

shown_once : (p : ℕ → Bool) (n k from : ℕ) → p n ≡ true → from ≤ n → n < from + k → list_any (λ m. m == n) (filter p (range_with_len from k)) ≡ true
shown_once p n zero from passes le lt = absurd (omega arith)
shown_once p n (suc k) from passes le lt = by (from == n) refl (λ more within. shown_once p n k (from + 1) passes more within)
  where
    by : (b : Bool) → (from == n) ≡ b → (from + 1 ≤ n → n < (from + 1) + k → list_any (λ m. m == n) (passing p (from + 1) k) ≡ true) → list_any (λ m. m == n) (cond (p from) (from ∷ passing p (from + 1) k) (passing p (from + 1) k)) ≡ true
    by true e behind = ap (λ b. list_any (λ m. m == n) (cond b (from ∷ passing p (from + 1) k) (passing p (from + 1) k))) (ap p (eqb-true from n e) ∙ passes) ∙ ap (λ b. b || list_any (λ m. m == n) (passing p (from + 1) k)) e
    by false e behind =
        let more : from + 1 ≤ n = grind (arith, nat_tests) in
        let on : list_any (λ m. m == n) (passing p (from + 1) k) ≡ true = behind more (omega arith) in
        elim (p from) as (λ b. list_any (λ m. m == n) (cond b (from ∷ passing p (from + 1) k) (passing p (from + 1) k)) ≡ true) [
          | true ↦ or_right (from == n) (list_any (λ m. m == n) (passing p (from + 1) k)) on
          | false ↦ on
        ]

abbrev one_if : Bool → ℕ
one_if b = cond b 1 0

fewer_before : (n : ℕ) (xs : List ℕ) → list_any (λ m. m == n) xs ≡ true → row_of xs n < length xs
fewer_before n [] h = absurd (let not_so : false ≡ true = h in cc not_so)
fewer_before n (x ∷ xs) h =
    subst (λ (m : ℕ). m < length (x ∷ xs)) (sym (sum_by-cons (λ m. one_if (nat_lt m n)) x xs)) (by (x == n) refl (fewer_before n xs))
  where
    by : (b : Bool) → (x == n) ≡ b → (list_any (λ m. m == n) xs ≡ true → row_of xs n < length xs) → one_if (nat_lt x n) + row_of xs n < length (x ∷ xs)
    by true e behind =
        let not_before : nat_lt x n ≡ false = grind (arith, nat_tests) in
        let none : one_if (nat_lt x n) ≡ 0 = ap one_if not_before in
        omega (arith, none, count_by-le-length (λ m. nat_lt m n) xs)
    by false e behind =
        let rest : row_of xs n < length xs = behind (sym (ap (λ b. b || list_any (λ m. m == n) xs) e) ∙ h) in
        elim (nat_lt x n) as (λ b. one_if b + row_of xs n < length (x ∷ xs)) [ true ↦ omega (arith, rest) | false ↦ omega (arith, rest) ]

has_row : (nodes n : ℕ) (steps : List Step) → All (λ (s : Step). IsOurs nodes s.command) steps → Called steps n → row_of (callers nodes steps) n < length (callers nodes steps)
has_row nodes n steps ours h =
    let range = called_ours nodes n steps ours h in
    fewer_before n (callers nodes steps) (shown_once (called steps) n nodes 1 h range.0 (let last = range.1 in omega arith))

-- a shape fits on a line of this number of rows and columns
abbrev Fits : ℕ → ℕ → Shape → Type 0
Fits rows columns shape = (right_of shape ≤ width_of columns) × (foot_of shape ≤ height_of rows)

bar_fits : (rows columns row start end : ℕ) (s : Stand) (node : ℕ) → row < rows → start ≤ end → end ≤ columns → All (Fits rows columns) (bar_of row start end s node)
bar_fits rows columns row start end s node lt le last = by s
  where
    one : (s : Stand) → All (Fits rows columns) (Bar row start end s node ∷ [])
    one s = All-cons (Fits rows columns) (Bar row start end s node) [] (omega arith, omega arith) (All-nil (Fits rows columns))

    by : (s : Stand) → All (Fits rows columns) (bar_of row start end s node)
    by stand.Away = All-nil (Fits rows columns)
    by stand.Waits = one stand.Waits
    by stand.AtTurn = one stand.AtTurn
    by stand.Holds = one stand.Holds
    by stand.Withdrawn = one stand.Withdrawn

bars_fit : (rows columns row node : ℕ) (s : Stand) (start now : ℕ) (stands : List Stand) → row < rows → start ≤ now → now + length stands ≤ columns → All (Fits rows columns) (bars_from row node s start now stands)
bars_fit rows columns row node s start now [] lt le last = bar_fits rows columns row start now s node lt le (omega arith)
bars_fit rows columns row node s start now (next ∷ stands) lt le last =
    elim (is_same next s) as (λ b. All (Fits rows columns) (cond b (bars_from row node s start (now + 1) stands) (bar_of row start now s node ++ bars_from row node next now (now + 1) stands))) [
      | true ↦ bars_fit rows columns row node s start (now + 1) stands lt (omega arith) (omega arith)
      | false ↦
          All-append (Fits rows columns) (bar_of row start now s node) (bars_from row node next now (now + 1) stands) (bar_fits rows columns row start now s node lt le (omega arith))
          (bars_fit rows columns row node next now (now + 1) stands lt (omega arith) (omega arith))
    ]

name_low : (row column : ℕ) → name_y row column ≤ y_of row + 19
name_low row column = elim (column == 0) as (λ b. cond b (y_of row + 4) (y_of row + 19) ≤ y_of row + 19) [ true ↦ omega arith | false ↦ omega arith ]

in_range : (a n k d : ℕ) → k < length (range_with_len a n) → get_or (range_with_len a n) k d ≡ a + k
in_range a n k d lt = get_or-range_with_len a n k d (omega (arith, lt, length-range_with_len a n))

names_fit : (rows columns row node : ℕ) → row < rows → All (Fits rows columns) (names_of row columns node)
names_fit rows columns row node lt =
    All-map (Fits rows columns) (λ k. Name row (NAMED_EVERY * k) node) (range_with_len 0 (name_count columns))
    (λ k d within.
    let is : get_or (range_with_len 0 (name_count columns)) k d ≡ 0 + k = in_range 0 (name_count columns) k d within in
    let few : k < name_count columns = omega (arith, within, length-range_with_len 0 (name_count columns)) in
    let place : NAMED_EVERY * get_or (range_with_len 0 (name_count columns)) k d ≤ columns = omega arith in
    (omega arith, omega (arith, name_low row (NAMED_EVERY * get_or (range_with_len 0 (name_count columns)) k d))))

row_fits : (shown : List ℕ) (columns : ℕ) (stands : List Stand) (n : ℕ) → row_of shown n < length shown → length stands ≡ columns → All (Fits (length shown) columns) (row_shapes shown columns stands n)
row_fits shown columns stands n lt long =
    let rows : ℕ = length shown in
    let row : ℕ = row_of shown n in
    All-append (Fits rows columns) (Lane row columns ∷ bars_from row n stand.Away 0 0 stands) (names_of row columns n)
    (All-cons (Fits rows columns) (Lane row columns) (bars_from row n stand.Away 0 0 stands) (omega arith, omega arith) (bars_fit rows columns row n stand.Away 0 0 stands lt (omega arith) (omega arith)))
    (names_fit rows columns row n lt)

all_flat : {X : Type 0} (P : Shape → Type 0) (f : X → List Shape) (xs : List X) → All (λ x. All P (f x)) xs → All P (flat_map f xs)
all_flat P f [] all = All-nil P
all_flat P f (x ∷ xs) all = All-append P (f x) (flat_map f xs) (All-head (λ y. All P (f y)) x xs all) (all_flat P f xs (All-tail (λ y. All P (f y)) x xs all))

-- the shapes of a command
arrow_fits : (shown : List ℕ) (columns column number : ℕ) (was is : Option ℕ) → column < columns → ((n : ℕ) → was ≡ Some n → row_of shown n < length shown) → ((n : ℕ) → is ≡ Some n → row_of shown n < length shown)
    → All (Fits (length shown) columns) (arrow_of shown column number was is)
arrow_fits shown columns column number None is lt from_row to_row = All-nil (Fits (length shown) columns)
arrow_fits shown columns column number (Some from) None lt from_row to_row = All-nil (Fits (length shown) columns)
arrow_fits shown columns column number (Some from) (Some to) lt from_row to_row =
    let giver = from_row from refl in
    let taker = to_row to refl in
    elim (from == to) as (λ b. All (Fits (length shown) columns) (cond b [] (Arrow column number (row_of shown from) from (row_of shown to) to ∷ []))) [
      | true ↦ All-nil (Fits (length shown) columns)
      | false ↦
          All-cons (Fits (length shown) columns) (Arrow column number (row_of shown from) from (row_of shown to) to) [] (omega arith, omega arith) (All-nil (Fits (length shown) columns))
    ]

bytes_fit : (shown : List ℕ) (columns column : ℕ) (c : Command) (what : Said) → column < columns → row_of shown (node_of c) < length shown → All (Fits (length shown) columns) (bytes_of shown column c what)
bytes_fit shown columns column (Write node line mask bytes) said.Written lt row =
    All-cons (Fits (length shown) columns) (Bytes (row_of shown node) column bytes.bytes (places_in mask.0)) [] (omega arith, omega arith) (All-nil (Fits (length shown) columns))
bytes_fit shown columns column c what lt row = All-nil (Fits (length shown) columns)

column_fits : (nodes : ℕ) (steps : List Step) (column : ℕ) (step : Step) → column < length steps → All (λ (s : Step). IsOurs nodes s.command) steps → Known steps step
    → All (Fits (length (callers nodes steps)) (length steps)) (column_shapes (callers nodes steps) column (event_of step))
column_fits nodes steps column step lt ours known =
    let shown : List ℕ = callers nodes steps in
    let P : Shape → Type 0 = Fits (length shown) (length steps) in
    let event : Event = event_of step in
    let its : row_of shown (node_of step.command) < length shown = has_row nodes (node_of step.command) steps ours known.its in
    let arrow : List Shape = arrow_of shown column event.number event.change.before event.change.after in
    let written : List Shape = bytes_of shown column event.command event.change.said in
    All-append P (Number column event.number ∷ arrow ++ written) (Call (row_of shown event.change.node) column event ∷ [])
    (All-append P (Number column event.number ∷ arrow) written
    (All-cons P (Number column event.number) arrow (omega arith, omega arith)
    (arrow_fits shown (length steps) column event.number event.change.before event.change.after lt (λ n e. has_row nodes n steps ours (known.before n e)) (λ n e. has_row nodes n steps ours (known.after n e))))
    (bytes_fit shown (length steps) column step.command event.change.said lt its))
    (All-cons P (Call (row_of shown event.change.node) column event) [] (omega arith, omega arith) (All-nil P))

columns_fit : (nodes : ℕ) (steps : List Step) → All (λ (s : Step). IsOurs nodes s.command) steps → All (Known steps) steps → All (Fits (length (callers nodes steps)) (length steps)) (columns_of (callers nodes steps) (map event_of steps))
columns_fit nodes steps ours known =
    let shown : List ℕ = callers nodes steps in
    let P : Shape → Type 0 = Fits (length shown) (length steps) in
    let events : List Event = map event_of steps in
    all_flat P (λ k. column_shapes shown k (get_or events k no_event)) (range_with_len 0 (length events))
    (λ k d within.
    let is : get_or (range_with_len 0 (length events)) k d ≡ 0 + k = in_range 0 (length events) k d within in
    let same : k ≡ get_or (range_with_len 0 (length events)) k d = omega arith in
    let lt : k < length steps = omega (arith, within, length-range_with_len 0 (length events), length-map steps event_of) in
    subst (λ j. All P (column_shapes shown j (get_or events j no_event))) same
    (subst (λ e. All P (column_shapes shown k e)) (sym (get_or-map event_of steps k no_step no_event lt)) (column_fits nodes steps k (get_or steps k no_step) lt ours (known k no_step lt))))

rows_fit : (nodes : ℕ) (steps : List Step) → All (λ (s : Step). IsOurs nodes s.command) steps
    → All (Fits (length (callers nodes steps)) (length steps)) (flat_map (λ n. row_shapes (callers nodes steps) (length steps) (stands_of steps n) n) (callers nodes steps))
rows_fit nodes steps ours =
    let shown : List ℕ = callers nodes steps in
    all_flat (Fits (length shown) (length steps)) (λ n. row_shapes shown (length steps) (stands_of steps n) n) shown
    (λ k d lt. row_fits shown (length steps) (stands_of steps (get_or shown k d)) (get_or shown k d) (has_row nodes (get_or shown k d) steps ours (filter_passes (called steps) (range_with_len 1 nodes) k d lt)) (length-map steps _))

-- no line is wider than the widest one, and each line ends above the next
wider_lines : (script : Script) (line k : ℕ) → widest script line ≤ widest script (line + k)
wider_lines script line zero = let same : line + 0 ≡ line = omega arith in omega (arith, ap (widest script) same)
wider_lines script line (suc k) =
    let next : line + suc k ≡ (line + k) + 1 = omega arith in
    omega (arith, ap (widest script) next, widest_more script (line + k), wider_lines script line k)

lower_lines : (script : Script) (line k : ℕ) → top_of script line ≤ top_of script (line + k)
lower_lines script line zero = let same : line + 0 ≡ line = omega arith in omega (arith, ap (top_of script) same)
lower_lines script line (suc k) =
    let next : line + suc k ≡ (line + k) + 1 = omega arith in
    omega (arith, ap (top_of script) next, top_more script (line + k), lower_lines script line k)

pub shapes_lie_within : ShapesLieWithin
shapes_lie_within script line range lt =
    let steps : List Step = steps_on line script in
    let shown : List ℕ = callers script.nodes steps in
    let k = knows script line range in
    let rest : (line + 1) + (script.lines - (line + 1)) ≡ script.lines = omega arith in
    let wide : width_of (length steps) ≤ widest script script.lines = omega (arith, widest_more script line, wider_lines script (line + 1) (script.lines - (line + 1)), ap (widest script) rest) in
    let high : top_of script line + height_of (length shown) ≡ top_of script (line + 1) = sym (top_more script line) in
    let below : top_of script (line + 1) ≤ top_of script script.lines = omega (arith, lower_lines script (line + 1) (script.lines - (line + 1)), ap (top_of script) rest) in (
      All-weaker (Fits (length shown) (length steps)) (IsWithin script line)
          (λ shape fits. (let right = fits.0 in omega arith, let foot = fits.1 in omega arith)) (timeline_of script line)
          (All-append (Fits (length shown) (length steps)) (flat_map (λ n. row_shapes shown (length steps) (stands_of steps n) n) shown) (columns_of shown (map event_of steps)) (rows_fit script.nodes steps k.ours) (columns_fit script.nodes steps k.ours k.steps)),
      below,
    )
