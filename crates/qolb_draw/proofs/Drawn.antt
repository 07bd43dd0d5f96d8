-- Lemmas about a picture that is drawn command by command: the state of the line, and the marks, after some of the
-- commands.
use Rattle.std.proofs.Common.{◌≡◌, ◌≢◌, ℕ, ◌+◌, ◌<◌, ◌==◌, Bool, true, false, cond, drop, replicate, List, [], ◌∷◌, ◌++◌, length, map, take, get_or, refl, sym, ap, ◌∙◌, subst, arith, append-nil, length-append, Option, ◌≤◌, ◌*◌}
use Rattle.std.specs.List.{fold, range_with_len}
use Rattle.std.proofs.lemmas.List.{length-map, take_all, map-append}
use Rattle.std.proofs.lemmas.List.Sums.{fold_more}
use Rattle.std.proofs.lemmas.Grind.{flat_map-append}
use Rattle.std.proofs.lemmas.Bool.Decides.{nat_tests}
use Rattle.line_lanes.specs.Line.{zeros}
use Rattle.line_lanes.specs.declared.line.Line64.{Line64}
use Rattle.qolb_model.specs.declared.config.LineConfig.{LineConfig}
use Rattle.qolb_model.specs.OneOwner.{OwnerState, opened, state_of}
use Rattle.qolb_model.specs.Plain.{PlainView, node_state, Agrees}
use Rattle.qolb_model.proofs.Agreed.{node_state-state_of}
use Rattle.qolb_script.specs.declared.command.Command.{Command}
use Rattle.qolb_script.specs.Commands.{node_of, line_of}
use Rattle.qolb_script.specs.Script.{Script}
use Rattle.qolb_script.specs.Reply.{config_of, after_command}
use Rattle.qolb_draw.specs.declared.event.Event.{Event}
use Rattle.qolb_draw.specs.declared.symbol.Change.{Change}
use Rattle.qolb_draw.specs.declared.symbol.Symbol.{Symbol}
use Rattle.qolb_model.specs.declared.answer.PortState.{PortState}
use Rattle.qolb_model.specs.declared.answer.PortState.TheVariants as port
use Rattle.qolb_draw.specs.LineRuns.{change_of}
use Rattle.qolb_draw.specs.Marks.{mark_of}
use Rattle.qolb_draw.specs.LineRuns.{Step, LineRun, run_start, run_step, steps_on, mark_at, event_of}
use Rattle.qolb_draw.specs.Following.{Follows, HasStates}
use Rattle.qolb_draw.proofs.States.{column_is_by, opened_states}
use Rattle.qolb_draw.proofs.Outs.{length-marks_of}
use Rattle.qolb_draw.specs.Grids.{IsGrid, marks_of, column_out_of, column_by}

-- the run of a line after the first i commands of the script
abbrev pub run_after : Script → ℕ → ℕ → LineRun
run_after script number i = fold (run_step number) (run_start (config_of script)) (take i script.commands)

pub record Stands (script : Script) (number i done : ℕ) (line : PlainView) (waiting : List ℕ) (states : List PortState) (closed : Bool) (rows : ℕ) (numbers callers : List ℕ) (events : List Event) (marks : List Symbol) : Type 0 where
  pub done_are : done ≡ (run_after script number i).done
  pub counted : done ≡ i
  pub few : length numbers ≤ i
  pub nodes_are : line.nodes ≡ script.nodes
  pub follows : Follows line waiting (run_after script number i).now
  pub has : HasStates line states closed
  pub grid : IsGrid script.nodes (run_after script number i).steps rows numbers callers events marks

-- the run with one more command
run_more : (script : Script) (number i : ℕ) (d : Command) → i < length script.commands → run_after script number (i + 1) ≡ run_step number (run_after script number i) (get_or script.commands i d)
run_more script number i d lt = fold_more (run_step number) (run_start (config_of script)) script.commands i d lt

-- the marks with one more step
column_is : (line : PlainView) (s : OwnerState) (change : Change) (nodes : ℕ) → Agrees line s → column_out_of line change nodes ≡ map (λ n. mark_of change (state_of s n) n) (range_with_len 1 nodes)
column_is line s change nodes a = all_same (range_with_len 1 nodes)
  where
    all_same : (xs : List ℕ) → map (λ n. mark_of change (node_state line n) n) xs ≡ map (λ n. mark_of change (state_of s n) n) xs
    all_same [] = refl
    all_same (x ∷ xs) = ap (λ p. mark_of change p x ∷ map (λ n. mark_of change (node_state line n) n) xs) (node_state-state_of line s a x) ∙ ap (λ ms. mark_of change (state_of s x) x ∷ ms) (all_same xs)

same_event : (event : Event) (n : ℕ) (c : Command) (ch : Change) → event.number ≡ n → event.command ≡ c → event.change ≡ ch → let made : Event = record { number = n; command = c; change = ch } in event ≡ made
same_event event n c ch a b e =
    ap (λ (x : ℕ). let made : Event = record { number = x; command = event.command; change = event.change } in made) a
    ∙ ap (λ (x : Command). let made : Event = record { number = n; command = x; change = event.change } in made) b
    ∙ ap (λ (x : Change). let made : Event = record { number = n; command = c; change = x } in made) e

pub grid_more : (nodes : ℕ) (steps : List Step) (step : Step) (rows : ℕ) (numbers numbers' callers callers' : List ℕ) (events events' : List Event) (marks marks' column : List Symbol) → IsGrid nodes steps rows numbers callers events marks
    → numbers' ≡ numbers ++ step.number ∷ [] → callers' ≡ callers ++ node_of step.command ∷ [] → events' ≡ events ++ event_of step ∷ [] → column ≡ map (mark_at step) (range_with_len 1 nodes) → marks' ≡ marks ++ column
    → IsGrid nodes (steps ++ step ∷ []) rows numbers' callers' events' marks'
grid_more nodes steps step rows numbers numbers' callers callers' events events' marks marks' column g n c e is m = record {
  rows_are = g.rows_are;
  numbers_are = n ∙ ap (λ xs. xs ++ step.number ∷ []) g.numbers_are ∙ sym (map-append (λ (s : Step). s.number) steps (step ∷ []));
  callers_are = c ∙ ap (λ xs. xs ++ node_of step.command ∷ []) g.callers_are ∙ sym (map-append (λ (s : Step). node_of s.command) steps (step ∷ []));
  events_are = e ∙ ap (λ xs. xs ++ event_of step ∷ []) g.events_are ∙ sym (map-append event_of steps (step ∷ []));
  marks_are = m ∙ ap (λ xs. xs ++ column) g.marks_are ∙ ap (λ col. marks_of nodes steps ++ col) is
      ∙ sym (flat_map-append (λ (s : Step). map (mark_at s) (range_with_len 1 nodes)) steps (step ∷ []) ∙ ap (λ xs. marks_of nodes steps ++ xs) (append-nil (map (mark_at step) (range_with_len 1 nodes))));
}

-- a command on another line
pub command_skipped : (script : Script) (number i done done' : ℕ) (line : PlainView) (waiting : List ℕ) (states : List PortState) (closed : Bool) (rows : ℕ) (numbers callers : List ℕ) (events : List Event) (marks : List Symbol) (c d : Command)
    → Stands script number i done line waiting states closed rows numbers callers events marks → i < length script.commands → c ≡ get_or script.commands i d → line_of c ≢ number → done' ≡ done + 1
    → Stands script number (i + 1) done' line waiting states closed rows numbers callers events marks
command_skipped script number i done done' line waiting states closed rows numbers callers events marks c d st lt is other next =
    let r : LineRun = run_after script number i in
    let test : (line_of c == number) ≡ false = grind (arith, nat_tests) in
    let then : run_after script number (i + 1) ≡ record r { done = r.done + 1 } = run_more script number i d lt ∙ ap (run_step number r) (sym is)
    ∙ ap (λ b. cond b (record { done = r.done + 1; now = after_command r.now c; steps = r.steps ++ record { number = r.done + 1; command = c; before = r.now } ∷ [] }) (record r { done = r.done + 1 })) test in
    record {
      done_are = next ∙ ap (λ n. n + 1) st.done_are ∙ sym (ap (λ (x : LineRun). x.done) then);
      counted = next ∙ ap (λ n. n + 1) st.counted;
      few = let few = st.few in omega arith;
      nodes_are = st.nodes_are;
      follows = subst (λ (x : LineRun). Follows line waiting x.now) (sym then) st.follows;
      has = st.has;
      grid = subst (λ (x : LineRun). IsGrid script.nodes x.steps rows numbers callers events marks) (sym then) st.grid;
    }

-- a command on this line
pub command_drawn : (script : Script) (number i done done' : ℕ) (line line' : PlainView) (waiting waiting' : List ℕ) (states states' : List PortState) (closed closed' : Bool) (rows rows' : ℕ) (numbers numbers' callers callers' : List ℕ) (events events' : List Event) (marks marks' : List Symbol) (event : Event) (c d : Command)
    → Stands script number i done line waiting states closed rows numbers callers events marks → i < length script.commands → c ≡ get_or script.commands i d → line_of c ≡ number → done' ≡ done + 1
    → event.number ≡ done' → event.command ≡ c → ((s : OwnerState) → Follows line waiting s → event.change ≡ change_of s c) → ((s : OwnerState) → Follows line waiting s → Follows line' waiting' (after_command s c)) → ((s : OwnerState) → Follows line waiting s → HasStates line states closed → HasStates line' states' closed') → line'.nodes ≡ line.nodes
    → rows' ≡ rows → numbers' ≡ numbers ++ event.number ∷ [] → callers' ≡ callers ++ event.change.node ∷ [] → events' ≡ events ++ event ∷ [] → marks' ≡ marks ++ column_by event.change states'
    → Stands script number (i + 1) done' line' waiting' states' closed' rows' numbers' callers' events' marks'
command_drawn script number i done done' line line' waiting waiting' states states' closed closed' rows rows' numbers numbers' callers callers' events events' marks marks' event c d st lt is its next same_number same_command changes follows' has' same_nodes same_rows n k ev m =
    let r : LineRun = run_after script number i in
    let step : Step = record { number = r.done + 1; command = c; before = r.now } in
    let test : (line_of c == number) ≡ true = grind (arith, nat_tests) in
    let then : run_after script number (i + 1) ≡ record { done = r.done + 1; now = after_command r.now c; steps = r.steps ++ step ∷ [] } = run_more script number i d lt ∙ ap (run_step number r) (sym is)
    ∙ ap (λ b. cond b (record { done = r.done + 1; now = after_command r.now c; steps = r.steps ++ record { number = r.done + 1; command = c; before = r.now } ∷ [] }) (record r { done = r.done + 1 })) test in
    let changed : event.change ≡ change_of r.now c = changes r.now st.follows in
    let counted : event.number ≡ r.done + 1 = same_number ∙ next ∙ ap (λ x. x + 1) st.done_are in
    let same : event ≡ event_of step = same_event event (r.done + 1) c (change_of r.now c) counted same_command changed in
    let followed : Follows line' waiting' (after_command r.now c) = follows' r.now st.follows in
    let rested : HasStates line' states' closed' = has' r.now st.follows st.has in
    let rows_are : rows ≡ line'.nodes = st.grid.rows_are ∙ sym (same_nodes ∙ st.nodes_are) in
    let column : column_by event.change states' ≡ map (mark_at step) (range_with_len 1 script.nodes) =
    column_is_by line' event.change states' closed' rows rested rows_are ∙ column_is line' (after_command r.now c) event.change rows followed.agrees ∙ ap (λ (ch : Change). map (λ n. mark_of ch (state_of (after_command r.now c) n) n) (range_with_len 1 rows)) changed
    ∙ ap (λ h. map (mark_at step) (range_with_len 1 h)) st.grid.rows_are in
    let more : IsGrid script.nodes (r.steps ++ step ∷ []) rows numbers' callers' events' marks' =
    grid_more script.nodes r.steps step rows numbers numbers' callers callers' events events' marks marks' (column_by event.change states') st.grid
    (n ∙ ap (λ x. numbers ++ x ∷ []) counted) (k ∙ ap (λ (ch : Change). callers ++ ch.node ∷ []) changed) (ev ∙ ap (λ (x : Event). events ++ x ∷ []) same) column m in
    record {
      done_are = next ∙ ap (λ x. x + 1) st.done_are ∙ sym (ap (λ (x : LineRun). x.done) then);
      counted = next ∙ ap (λ x. x + 1) st.counted;
      few = let few = st.few in let long : length numbers' ≡ length numbers + 1 = ap length n ∙ length-append numbers (event.number ∷ []) in omega arith;
      nodes_are = same_nodes ∙ st.nodes_are;
      follows = subst (λ (x : LineRun). Follows line' waiting' x.now) (sym then) followed;
      has = rested;
      grid = subst (λ (x : LineRun). IsGrid script.nodes x.steps rows' numbers' callers' events' marks') (sym then) (subst (λ (h : ℕ). IsGrid script.nodes (r.steps ++ step ∷ []) h numbers' callers' events' marks') (sym same_rows) more);
    }

-- no command
pub none_drawn : (script : Script) (number : ℕ) (line : PlainView) (waiting : List ℕ) (states : List PortState) (closed : Bool) (rows : ℕ) (numbers callers : List ℕ) (events : List Event) (marks : List Symbol) → Agrees line (opened (config_of script)) → waiting ≡ [] → states ≡ replicate (rows + 1) port.Idle → closed ≡ false → rows ≡ script.nodes → numbers ≡ [] → callers ≡ [] → events ≡ [] → marks ≡ []
    → Stands script number 0 0 line waiting states closed rows numbers callers events marks
none_drawn script number line waiting states closed rows numbers callers events marks a w rest opens r n k e m = record {
  done_are = refl;
  counted = refl;
  few = let none : length numbers ≡ 0 = ap length n in omega arith;
  nodes_are = a.nodes;
  follows = record { agrees = a; waiting_are = w };
  has = opened_states line rows states closed a.waiting a.closed (r ∙ sym a.nodes) rest opens;
  grid = record { rows_are = r; numbers_are = n; callers_are = k; events_are = e; marks_are = m };
}

-- all commands
pub all_drawn : (script : Script) (number i done : ℕ) (line : PlainView) (waiting : List ℕ) (states : List PortState) (closed : Bool) (rows : ℕ) (numbers callers : List ℕ) (events : List Event) (marks : List Symbol) → Stands script number i done line waiting states closed rows numbers callers events marks
    → length script.commands ≤ i → IsGrid script.nodes (steps_on number script) rows numbers callers events marks
all_drawn script number i done line waiting states closed rows numbers callers events marks st end =
    subst (λ (cs : List Command). IsGrid script.nodes (fold (run_step number) (run_start (config_of script)) cs).steps rows numbers callers events marks) (take_all i script.commands end) st.grid

pub grid_size : (nodes : ℕ) (steps : List Step) (rows : ℕ) (numbers callers : List ℕ) (events : List Event) (marks : List Symbol) → IsGrid nodes steps rows numbers callers events marks → length marks ≡ length numbers * rows
grid_size nodes steps rows numbers callers events marks g =
    ap length g.marks_are ∙ length-marks_of nodes steps ∙ ap (λ n. n * nodes) (sym (ap length g.numbers_are ∙ length-map steps (λ (s : Step). s.number))) ∙ ap (λ n. length numbers * n) (sym g.rows_are)

-- the configuration of a script's lines
pub config_is : (script : Script) (nodes : ℕ) (opening : Line64) (lease : Option ℕ) → nodes ≡ script.nodes → opening.bytes ≡ zeros → lease ≡ script.lease → let config : LineConfig = record { nodes = nodes; opening = opening; lease = lease } in config ≡ config_of script
config_is script nodes opening lease n o l =
    ap (λ (x : ℕ). let t : LineConfig = record { nodes = x; opening = opening; lease = lease } in t) n
    ∙ ap (λ (b : List ℕ). let t : LineConfig = record { nodes = script.nodes; opening = record { bytes = b }; lease = lease } in t) o
    ∙ ap (λ (x : Option ℕ). let t : LineConfig = record { nodes = script.nodes; opening = record { bytes = zeros }; lease = x } in t) l
