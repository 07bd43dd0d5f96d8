-- Lemmas about notes that are written command by command or event by event: the notes written so far, and the notes
-- that are still to be written.
use Rattle.std.proofs.Common.{◌≡◌, ℕ, suc, ◌==◌, ◌&&◌, true, false, if◌then◌else◌, eq-eqb, Result, Ok, Err, IfOk, IfErr, OnErr, ◌+◌, ◌<◌, ◌≤◌, List, [], ◌∷◌, ◌++◌, length, take, drop, flat_map, get_or, refl, sym, ap, ◌∙◌, subst, arith, append_assoc, append-nil}
use Rattle.std.specs.List.{range_with_len}
use Rattle.std.proofs.lemmas.List.{drop_more, take_more, take_all, length-take-le}
use Rattle.std.proofs.lemmas.Grind.{flat_map-append}
use Rattle.qolb_model.specs.OneOwner.{OwnerState, opened, state_of}
use Rattle.qolb_model.specs.Plain.{PlainView, Agrees}
use Rattle.link_core.specs.declared.event.Event.{Event}
use Rattle.link_core.specs.declared.state.State.{State}
use Rattle.link_core.specs.State.{first}
use Rattle.link_core.specs.State as state
use Rattle.link_core.specs.Steps.{node_of, Step, IsRefused}
use Rattle.link_core.specs.declared.told.Told.{Told}
use Rattle.link_core.specs.declared.told.NotEnabled.{NotEnabled}
use Rattle.qolb_model.specs.declared.answer.PortState.{PortState}
use Rattle.qolb_script.specs.Commands as commands
use Rattle.qolb_script.specs.Reply.{said_of, config_of}
use Rattle.qolb_words.specs.Words.{is_misuse}
use Rattle.qolb_script.specs.declared.command.Command.{Command}
use Rattle.qolb_script.specs.Script.{Script}
use Rattle.qolb_script.specs.StepScript.{StepScript}
use Rattle.qolb_replay.specs.StepRuns.{line_of}
use Rattle.qolb_replay.proofs.Tallying.{range_more}
use Rattle.qolb_explain.specs.Notes.{AreNotesOf, IsTried, Notes, enabled, line_notes, misuse_text, misuses, note_if, note_on, not_enabled, nothing, on_line, refusal_note, refused, told}

-- the notes on the lines before this one, and then also on this line
pub line_more : (script : Script) (n : ℕ) (notes longer : List ℕ) → notes ≡ flat_map (line_notes script) (range_with_len 0 n) → longer ≡ notes ++ line_notes script n
    → longer ≡ flat_map (line_notes script) (range_with_len 0 (n + 1))
line_more script n notes longer was more =
    let next : n + 1 ≡ suc n = omega arith in
    let zero_n : 0 + n ≡ n = omega arith in
    more ∙ ap (λ t. t ++ line_notes script n) was
    ∙ sym (ap (λ k. flat_map (line_notes script) (range_with_len 0 k)) next
    ∙ ap (flat_map (line_notes script)) (range_more 0 n ∙ ap (λ k. range_with_len 0 n ++ k ∷ []) zero_n)
    ∙ flat_map-append (line_notes script) (range_with_len 0 n) (n ∷ [])
    ∙ ap (λ t. flat_map (line_notes script) (range_with_len 0 n) ++ t) (append-nil (line_notes script n)))

-- a command on the line has a note if it is misuse
pub misuse_noted : (line number : ℕ) (s : OwnerState) (c : Command) (at : PortState) (old new : List ℕ) → commands.line_of c ≡ line → is_misuse (said_of s c) ≡ true → at ≡ state_of s (commands.node_of c)
    → new ≡ old ++ misuse_text number c at → new ≡ old ++ note_on line number s c
misuse_noted line number s c at old new here misuse is adds =
    let test : ((commands.line_of c == line) && is_misuse (said_of s c)) ≡ true = ap (λ b. b && is_misuse (said_of s c)) (eq-eqb (commands.line_of c) line here) ∙ misuse in
    adds ∙ ap (λ p. old ++ misuse_text number c p) is ∙ ap (λ b. old ++ (if b then misuse_text number c (state_of s (commands.node_of c)) else [])) (sym test)

pub none_noted : (line number : ℕ) (s : OwnerState) (c : Command) (old : List ℕ) → commands.line_of c ≡ line → is_misuse (said_of s c) ≡ false → old ≡ old ++ note_on line number s c
none_noted line number s c old here lawful =
    let test : ((commands.line_of c == line) && is_misuse (said_of s c)) ≡ false = ap (λ b. b && is_misuse (said_of s c)) (eq-eqb (commands.line_of c) line here) ∙ lawful in
    sym (append-nil old) ∙ ap (λ b. old ++ (if b then misuse_text number c (state_of s (commands.node_of c)) else [])) (sym test)

-- The first i commands of a schedule were executed on a line, and their notes follow the text that was there before.
pub record Stands (script : Script) (line i number : ℕ) (plain : PlainView) (before notes : List ℕ) : Type 0 where
  pub s : OwnerState
  pub agrees : Agrees plain s
  pub nodes_are : plain.nodes ≡ script.nodes
  pub number_is : number ≡ i
  pub notes_are : notes ++ misuses line (i + 1) s (drop i script.commands) ≡ before ++ line_notes script line

pub stands_first : (script : Script) (line : ℕ) (plain : PlainView) (before : List ℕ) → plain.nodes ≡ script.nodes → Agrees plain (opened (config_of script)) → Stands script line 0 0 plain before before
stands_first script line plain before nodes agrees = record { s = opened (config_of script); agrees = agrees; nodes_are = nodes; number_is = refl; notes_are = refl }

pub stands_more : (script : Script) (line i number next : ℕ) (plain after : PlainView) (before notes longer : List ℕ) (commands : List Command) (d : Command) → Stands script line i number plain before notes
    → commands ≡ script.commands → i < length commands → next ≡ number + 1 → after.nodes ≡ plain.nodes
    → ((s : OwnerState) → Agrees plain s → Agrees after (on_line line s (get_or commands i d)))
    → ((s : OwnerState) → Agrees plain s → longer ≡ notes ++ note_on line next s (get_or commands i d))
    → Stands script line (i + 1) next after before longer
stands_more script line i number next plain after before notes longer commands d was are lt following nodes agrees adds =
    let c : Command = get_or commands i d in
    let numbered : next ≡ i + 1 = following ∙ ap (λ n. n + 1) was.number_is in
    let left : drop i script.commands ≡ c ∷ drop (i + 1) script.commands =
    subst (λ cs. drop i cs ≡ c ∷ drop (i + 1) cs) are (drop_more commands i d lt) in
    record {
      s = on_line line was.s c;
      agrees = agrees was.s was.agrees;
      nodes_are = nodes ∙ was.nodes_are;
      number_is = numbered;
      notes_are =
          ap (λ t. t ++ misuses line ((i + 1) + 1) (on_line line was.s c) (drop (i + 1) script.commands)) (adds was.s was.agrees ∙ ap (λ n. notes ++ note_on line n was.s c) numbered)
          ∙ append_assoc notes (note_on line (i + 1) was.s c) (misuses line ((i + 1) + 1) (on_line line was.s c) (drop (i + 1) script.commands))
          ∙ ap (λ cs. notes ++ misuses line (i + 1) was.s cs) (sym left)
          ∙ was.notes_are;
    }

pub stands_last : (script : Script) (line i number : ℕ) (plain : PlainView) (before notes : List ℕ) → Stands script line i number plain before notes → drop i script.commands ≡ [] → notes ≡ before ++ line_notes script line
stands_last script line i number plain before notes was none =
    sym (append-nil notes) ∙ sym (ap (λ cs. notes ++ misuses line (i + 1) was.s cs) none) ∙ was.notes_are

-- an event that was tried, whatever its result
pub still_refused : (e : Event) (before after : State) (r : Result Told NotEnabled) → IfErr r (λ why. IsRefused before e why) → OnErr r (after ≡ before) → IfErr r (IsRefused after e)
still_refused e before after (Ok what) why same = tt
still_refused e before after (Err x) why same = subst (λ c. IsRefused c e x) (sym same) why

pub one_tried : (number : ℕ) (e : Event) (before after : State) (old new : List ℕ) (r : Result Told NotEnabled) → IfOk r (λ what. Step before e what after) → IfErr r (λ why. IsRefused before e why) → OnErr r (after ≡ before)
    → new ≡ old ++ note_if r number e (state.point after (node_of e)) → IsTried number e before after old new
one_tried number e before after old new (Ok what) step why same adds = enabled what step (adds ∙ append-nil old)
one_tried number e before after old new (Err x) step why same adds =
    not_enabled x why same (adds ∙ ap (λ c. old ++ refusal_note x number e (state.point c (node_of e))) same)

-- the notes on the first i events
pub record Reaches (script : StepScript) (i number : ℕ) (core : State) (notes : List ℕ) : Type 0 where
  pub number_is : number ≡ i
  pub runs : Notes (first (line_of script)) (take i script.events) notes core

pub reaches_first : (script : StepScript) (core : State) → core ≡ first (line_of script) → Reaches script 0 0 core []
reaches_first script core is = record { number_is = refl; runs = subst (Notes (first (line_of script)) [] []) (sym is) nothing }

tried : (from : State) (events : List Event) (number : ℕ) (e : Event) (before after : State) (old new : List ℕ) → Notes from events old before → number ≡ length events + 1
    → IsTried number e before after old new → Notes from (events ++ e ∷ []) new after
tried from events number e before after old new runs numbered (enabled what step same) = subst (λ t. Notes from (events ++ e ∷ []) t after) (sym same) (told e what runs step)
tried from events number e before after old new runs numbered (not_enabled why denied stays adds) =
    subst (λ c. Notes from (events ++ e ∷ []) new c) (sym stays)
    (subst (λ t. Notes from (events ++ e ∷ []) t before) (sym (adds ∙ ap (λ n. old ++ refusal_note why n e (state.point before (node_of e))) numbered)) (refused e why runs denied))

pub reaches_more : (script : StepScript) (i number next : ℕ) (core after : State) (notes longer : List ℕ) (events : List Event) (d : Event) → Reaches script i number core notes
    → events ≡ script.events → i < length events → next ≡ number + 1 → IsTried next (get_or events i d) core after notes longer → Reaches script (i + 1) next after longer
reaches_more script i number next core after notes longer events d was are lt following one =
    let numbered : next ≡ i + 1 = following ∙ ap (λ n. n + 1) was.number_is in
    let few : i ≤ length script.events = let same : length events ≡ length script.events = ap length are in omega arith in
    let long : length (take i script.events) ≡ i = length-take-le i script.events few in
    record {
      number_is = numbered;
      runs = subst (λ es. Notes (first (line_of script)) es longer after)
          (sym (subst (λ es. take (i + 1) es ≡ take i es ++ get_or events i d ∷ []) are (take_more events i d lt)))
          (tried (first (line_of script)) (take i script.events) next (get_or events i d) core after notes longer was.runs (numbered ∙ ap (λ n. n + 1) (sym long)) one);
    }

pub reaches_last : (script : StepScript) (i number : ℕ) (core : State) (notes : List ℕ) → Reaches script i number core notes → length script.events ≤ i → AreNotesOf script notes
reaches_last script i number core notes was all = record { last = core; runs = subst (λ es. Notes (first (line_of script)) es notes core) (take_all i script.events all) was.runs }
