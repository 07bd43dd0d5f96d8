-- Lemmas about the picture of a step script, which is drawn event by event: the state of the link line, and the text or
-- the shapes written so far.
use Rattle.std.proofs.Common.{◌≡◌, ℕ, ◌+◌, ◌<◌, ◌≤◌, List, [], ◌∷◌, ◌++◌, length, take, drop, get_or, refl, sym, ap, ◌∙◌, subst, arith, append_assoc, append-nil, drop-drop, Option, None, Result, Ok, Err, IfOk, IfErr, OnErr, All, length-append}
use Rattle.std.specs.Result.{result_ok}
use Rattle.std.proofs.lemmas.List.{take_all, take_more}
use Rattle.std.proofs.lemmas.List.FromFn.{length-map-range_with_len}
use Rattle.link_core.specs.declared.entry.Entry.{Entry}
use Rattle.link_core.specs.declared.event.Event.{Event}
use Rattle.link_core.specs.declared.state.State.{State}
use Rattle.link_core.specs.declared.told.Told.{Told}
use Rattle.link_core.specs.declared.told.NotEnabled.{NotEnabled}
use Rattle.link_core.specs.State.{IsNode, entry, first}
use Rattle.link_core.specs.Steps.{Step, IsRefused, node_of}
use Rattle.link_core.proofs.Sound.{step_sizes}
use Rattle.qolb_replay.specs.StepRuns.{line_of}
use Rattle.qolb_script.specs.StepScript.{IsOfItsNodes, StepScript}
use Rattle.qolb_draw.specs.StepPictures.{event_line, event_lines}
use Rattle.qolb_draw.specs.StepShapes.{Seen, StepShape, Watches, nothing, made, refused, entries_of, event_shapes, seen_shapes}
use Rattle.qolb_draw.specs.StepSvg.{step_texts}
use Rattle.qolb_draw.proofs.StepTexts.{step_texts-append}

-- the text or the shapes with one more event
lines_more : (column : ℕ) (all : List Seen) (s : Seen) → event_lines column (all ++ s ∷ []) ≡ event_lines column all ++ event_line (column + length all) s
lines_more column [] s = let same : column ≡ column + 0 = omega arith in append-nil (event_line column s) ∙ ap (λ k. event_line k s) same
lines_more column (x ∷ all) s =
    let place : column + 1 + length all ≡ column + length (x ∷ all) = omega arith in
    ap (λ t. event_line column x ++ t) (lines_more (column + 1) all s)
    ∙ sym (append_assoc (event_line column x) (event_lines (column + 1) all) (event_line (column + 1 + length all) s)) ∙ ap (λ k. event_lines column (x ∷ all) ++ event_line k s) place

shapes_more : (column : ℕ) (events : List Event) (all : List Seen) (s : Seen) → seen_shapes column events (all ++ s ∷ []) ≡ seen_shapes column events all ++ event_shapes (column + length all) s (drop (length all + 1) events)
shapes_more column events [] s =
    let same : column ≡ column + 0 = omega arith in
    append-nil (event_shapes column s (drop 1 events)) ∙ ap (λ k. event_shapes k s (drop 1 events)) same
shapes_more column events (x ∷ all) s =
    let place : column + 1 + length all ≡ column + length (x ∷ all) = omega arith in
    let count : 1 + (length all + 1) ≡ length (x ∷ all) + 1 = omega arith in
    ap (λ t. event_shapes column x (drop 1 events) ++ t) (shapes_more (column + 1) (drop 1 events) all s)
    ∙ sym (append_assoc (event_shapes column x (drop 1 events)) (seen_shapes (column + 1) (drop 1 events) all) (event_shapes (column + 1 + length all) s (drop (length all + 1) (drop 1 events))))
    ∙ ap (λ t. seen_shapes column events (x ∷ all) ++ t) (ap (λ k. event_shapes k s (drop (length all + 1) (drop 1 events))) place
    ∙ ap (event_shapes (column + length (x ∷ all)) s) (drop-drop (length all + 1) 1 events ∙ ap (λ n. drop n events) count))

-- the core after the first i events, with the record of these events
pub record Sees (script : StepScript) (i : ℕ) (core : State) (all : List Seen) : Type 0 where
  pub runs : Watches (first (line_of script)) (take i script.events) all core
  pub one_each : length all ≡ i
  pub nodes_are : core.nodes ≡ script.nodes

-- the same, with the text of the lines of these events
pub record SeesLines (script : StepScript) (i : ℕ) (core : State) (before text : List ℕ) : Type 0 where
  pub all : List Seen
  pub sees : Sees script i core all
  pub text_is : text ≡ before ++ event_lines 0 all

-- the same, with the text of the shapes of these events, and with the words of the core
pub record SeesShapes (script : StepScript) (i : ℕ) (core : State) (home : ℕ) (entries : List Entry) (before svg : List ℕ) : Type 0 where
  pub all : List Seen
  pub sees : Sees script i core all
  pub svg_is : svg ≡ before ++ step_texts (seen_shapes 0 script.events all)
  pub home_is : home ≡ core.home
  pub entries_are : entries ≡ entries_of core

none_seen : (script : StepScript) (core : State) → core ≡ first (line_of script) → Sees script 0 core []
none_seen script core is = record {
  runs = subst (Watches (first (line_of script)) [] []) (sym is) nothing;
  one_each = refl;
  nodes_are = ap (λ (c : State). c.nodes) is;
}

pub lines_start : (script : StepScript) (core : State) (text : List ℕ) → core ≡ first (line_of script) → SeesLines script 0 core text text
lines_start script core text is = record { all = []; sees = none_seen script core is; text_is = sym (append-nil text) }

pub shapes_start : (script : StepScript) (core : State) (home : ℕ) (entries : List Entry) (svg : List ℕ) → core ≡ first (line_of script) → home ≡ core.home → entries ≡ entries_of core → SeesShapes script 0 core home entries svg svg
shapes_start script core home entries svg is h e = record { all = []; sees = none_seen script core is; svg_is = sym (append-nil svg); home_is = h; entries_are = e }

-- an event does not change the number of nodes
pub nodes_kept : (before after : State) (event : Event) (r : Result Told NotEnabled) → IfOk r (λ t. Step before event t after) → OnErr r (after ≡ before) → after.nodes ≡ before.nodes
nodes_kept before after event (Ok t) step same = (step_sizes before step).0
nodes_kept before after event (Err e) step same = ap (λ (c : State). c.nodes) same

pub node_there : (script : StepScript) (events : List Event) (i : ℕ) (d : Event) (core : State) → IsOfItsNodes script → events ≡ script.events → i < length events → core.nodes ≡ script.nodes → IsNode core (node_of (get_or events i d))
node_there script events i d core ours same lt nodes =
    let within : (1 ≤ node_of (get_or events i d)) × (node_of (get_or events i d) ≤ script.nodes) =
    subst (λ (es : List Event). All (λ e. (1 ≤ node_of e) × (node_of e ≤ script.nodes)) es) (sym same) ours i d lt in
    (within.0, subst (λ (n : ℕ). node_of (get_or events i d) ≤ n) (sym nodes) within.1)

pub entry_count : (c : State) → length (entries_of c) ≡ c.nodes
entry_count c = length-map-range_with_len (λ k. entry c (k + 1)) 0 c.nodes

-- one more event, whatever it told
abbrev pub seen_by : Event → Option Told → State → State → Seen
seen_by event told before after = record { event = event; told = told; before = before; after = after }

watches_more : (from : State) (events : List Event) (all : List Seen) (before after : State) (event : Event) (r : Result Told NotEnabled) → Watches from events all before
    → IfOk r (λ t. Step before event t after) → IfErr r (λ e. IsRefused before event e) → OnErr r (after ≡ before) → Watches from (events ++ event ∷ []) (all ++ seen_by event (result_ok r) before after ∷ []) after
watches_more from events all before after event (Ok t) runs step why same = made event t runs step
watches_more from events all before after event (Err e) runs step why same =
    subst (λ c. Watches from (events ++ event ∷ []) (all ++ seen_by event None before c ∷ []) c) (sym same) (refused event e runs why)

sees_more : (script : StepScript) (i : ℕ) (core after : State) (all : List Seen) (events : List Event) (d : Event) (r : Result Told NotEnabled) → Sees script i core all → events ≡ script.events → i < length events
    → IfOk r (λ t. Step core (get_or events i d) t after) → IfErr r (λ e. IsRefused core (get_or events i d) e) → OnErr r (after ≡ core)
    → Sees script (i + 1) after (all ++ seen_by (get_or events i d) (result_ok r) core after ∷ [])
sees_more script i core after all events d r was same lt step why stays =
    let event : Event = get_or events i d in
    let seen : Seen = seen_by event (result_ok r) core after in
    record {
      runs = subst (λ es. Watches (first (line_of script)) es (all ++ seen ∷ []) after) (sym (subst (λ es. take (i + 1) es ≡ take i es ++ event ∷ []) same (take_more events i d lt)))
          (watches_more (first (line_of script)) (take i script.events) all core after event r was.runs step why stays);
      one_each = length-append all (seen ∷ []) ∙ ap (λ n. n + 1) was.one_each;
      nodes_are = nodes_kept core after event r step stays ∙ was.nodes_are;
    }

pub lines_on : (script : StepScript) (i : ℕ) (core after : State) (before text longer : List ℕ) (events : List Event) (d : Event) (r : Result Told NotEnabled) (what : Option Told)
    → SeesLines script i core before text → events ≡ script.events → i < length events
    → IfOk r (λ t. Step core (get_or events i d) t after) → IfErr r (λ e. IsRefused core (get_or events i d) e) → OnErr r (after ≡ core)
    → what ≡ result_ok r → ((s : State) → longer ≡ text ++ event_line i (seen_by (get_or events i d) what s after)) → SeesLines script (i + 1) after before longer
lines_on script i core after before text longer events d r what was same lt step why stays is pushed =
    let event : Event = get_or events i d in
    let seen : Seen = seen_by event (result_ok r) core after in
    let count = was.sees.one_each in
    let place : i ≡ 0 + length was.all = omega arith in
    record {
      all = was.all ++ seen ∷ [];
      sees = sees_more script i core after was.all events d r was.sees same lt step why stays;
      text_is = pushed core ∙ ap (λ o. text ++ event_line i (seen_by event o core after)) is ∙ ap (λ k. text ++ event_line k seen) place
          ∙ ap (λ t. t ++ event_line (0 + length was.all) seen) was.text_is ∙ append_assoc before (event_lines 0 was.all) (event_line (0 + length was.all) seen)
          ∙ ap (λ t. before ++ t) (sym (lines_more 0 was.all seen));
    }

pub shapes_on : (script : StepScript) (i : ℕ) (core after : State) (home home' : ℕ) (entries entries' : List Entry) (before svg longer : List ℕ) (events rest : List Event) (d : Event) (r : Result Told NotEnabled) (what : Option Told)
    → SeesShapes script i core home entries before svg → events ≡ script.events → i < length events
    → IfOk r (λ t. Step core (get_or events i d) t after) → IfErr r (λ e. IsRefused core (get_or events i d) e) → OnErr r (after ≡ core)
    → what ≡ result_ok r → rest ≡ drop (i + 1) events
    → ((s : State) → home ≡ s.home → entries ≡ entries_of s → longer ≡ svg ++ step_texts (event_shapes i (seen_by (get_or events i d) what s after) rest))
    → home' ≡ after.home → entries' ≡ entries_of after → SeesShapes script (i + 1) after home' entries' before longer
shapes_on script i core after home home' entries entries' before svg longer events rest d r what was same lt step why stays is behind pushed h e =
    let event : Event = get_or events i d in
    let seen : Seen = seen_by event (result_ok r) core after in
    let count = was.sees.one_each in
    let place : i ≡ 0 + length was.all = omega arith in
    let on : drop (i + 1) script.events ≡ drop (length was.all + 1) script.events = ap (λ n. drop (n + 1) script.events) (sym count) in
    let last : List StepShape = event_shapes (0 + length was.all) seen (drop (length was.all + 1) script.events) in
    record {
      all = was.all ++ seen ∷ [];
      sees = sees_more script i core after was.all events d r was.sees same lt step why stays;
      svg_is = pushed core was.home_is was.entries_are ∙ ap (λ o. svg ++ step_texts (event_shapes i (seen_by event o core after) rest)) is
          ∙ ap (λ es. svg ++ step_texts (event_shapes i seen es)) (behind ∙ ap (drop (i + 1)) same ∙ on)
          ∙ ap (λ k. svg ++ step_texts (event_shapes k seen (drop (length was.all + 1) script.events))) place
          ∙ ap (λ t. t ++ step_texts last) was.svg_is ∙ append_assoc before (step_texts (seen_shapes 0 script.events was.all)) (step_texts last)
          ∙ ap (λ t. before ++ t) (sym (ap step_texts (shapes_more 0 script.events was.all seen) ∙ step_texts-append (seen_shapes 0 script.events was.all) last));
      home_is = h;
      entries_are = e;
    }

-- all events
sees_all : (script : StepScript) (i : ℕ) (core : State) (all : List Seen) → Sees script i core all → length script.events ≤ i → Watches (first (line_of script)) script.events all core
sees_all script i core all was end = subst (λ es. Watches (first (line_of script)) es all core) (take_all i script.events end) was.runs

pub lines_end : (script : StepScript) (i : ℕ) (core : State) (before text : List ℕ) → SeesLines script i core before text → length script.events ≤ i
    → (all : List Seen) × (last : State) × Watches (first (line_of script)) script.events all last × (text ≡ before ++ event_lines 0 all)
lines_end script i core before text was end = (was.all, core, sees_all script i core was.all was.sees end, was.text_is)

pub shapes_end : (script : StepScript) (i : ℕ) (core : State) (home : ℕ) (entries : List Entry) (before svg : List ℕ) → SeesShapes script i core home entries before svg → length script.events ≤ i
    → (all : List Seen) × (last : State) × Watches (first (line_of script)) script.events all last × (svg ≡ before ++ step_texts (seen_shapes 0 script.events all))
shapes_end script i core home entries before svg was end = (was.all, core, sees_all script i core was.all was.sees end, was.svg_is)
