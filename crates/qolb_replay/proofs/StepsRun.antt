-- Lemmas about a step script that has been executed in part: the state of the link line, the counts of results, and the
-- text written so far.
use Rattle.std.proofs.Common.{◌≡◌, ℕ, suc, ◌+◌, ◌<◌, List, [], ◌∷◌, ◌++◌, Bool, length, map, flat_map, take, get_or, refl, sym, ap, ◌∙◌, subst, arith, Option, Result, Ok, Err, IfOk, IfErr, OnErr}
use Rattle.std.specs.Result.{result_ok}
use Rattle.std.specs.List.{count_by, range_with_len}
use Rattle.std.proofs.lemmas.List.{length-append, map-append, take_more, append-nil}
use Rattle.std.proofs.lemmas.Grind.{flat_map-append}
use Rattle.link_core.specs.declared.event.Event.{Event}
use Rattle.link_core.specs.declared.told.Told.{Told}
use Rattle.link_core.specs.declared.told.NotEnabled.{NotEnabled}
use Rattle.link_core.specs.declared.state.State.{State}
use Rattle.link_core.specs.State.{first, point}
use Rattle.link_core.specs.Steps.{Step, IsRefused}
use Rattle.link_core.specs.Progress.{rank}
use Rattle.qolb_script.specs.declared.reply_text.Said.{Said}
use Rattle.qolb_script.specs.StepScript.{StepScript}
use Rattle.qolb_script.specs.Reply.{is_served, is_withdrawn, is_told}
use Rattle.qolb_script.specs.StepReply.{step_said}
use Rattle.qolb_replay.specs.declared.line.Counts.{Counts}
use Rattle.qolb_replay.specs.Tallies.{one_if, no_counts, Counted}
use Rattle.qolb_replay.specs.StepRuns.{line_of, Tells, nothing, told, refused, Heard, said_by, heard_text, nodes_busy, is_busy}
use Rattle.qolb_replay.proofs.Tallying.{count_by_one_more, range_more}
use Rattle.qolb_replay.specs.declared.steps.Detail.{Detail}

abbrev pub start_of : StepScript → State
start_of script = first (line_of script)

-- the core, the counts and the text after the first i events
pub record Reaches (detail : Detail) (script : StepScript) (i : ℕ) (core : State) (counts : Counts) (text : List ℕ) : Type 0 where
  pub all : List Heard
  pub runs : Tells (start_of script) (take i script.events) all core
  pub text_is : text ≡ flat_map (heard_text detail) all
  pub served_are : counts.served ≡ count_by is_served (map said_by all)
  pub withdrawn_are : counts.withdrawn ≡ count_by is_withdrawn (map said_by all)
  pub told_are : counts.told ≡ count_by is_told (map said_by all)
  pub one_each : length all ≡ i

pub reaches_start : (detail : Detail) (script : StepScript) (core : State) → core ≡ start_of script → Reaches detail script 0 core no_counts []
reaches_start detail script core is = record {
  all = [];
  runs = subst (Tells (start_of script) [] []) (sym is) nothing;
  text_is = refl;
  served_are = refl;
  withdrawn_are = refl;
  told_are = refl;
  one_each = refl;
}

-- one more event, which returned a word or was refused
pub reaches_step : (detail : Detail) (script : StepScript) (i : ℕ) (core after : State) (counts new : Counts) (text longer : List ℕ) (event : Event) (what : Heard)
    → (r : Reaches detail script i core counts text) → Tells (start_of script) (take i script.events ++ event ∷ []) (r.all ++ what ∷ []) after
    → take (i + 1) script.events ≡ take i script.events ++ event ∷ [] → Counted (said_by what) counts new → longer ≡ text ++ heard_text detail what
    → Reaches detail script (i + 1) after new longer
reaches_step detail script i core after counts new text longer event what r runs next adds more = record {
  all = r.all ++ what ∷ [];
  runs = subst (λ es. Tells (start_of script) es (r.all ++ what ∷ []) after) (sym next) runs;
  text_is = more ∙ ap (λ t. t ++ heard_text detail what) r.text_is ∙ sym (flat_map-append (heard_text detail) r.all (what ∷ []) ∙ ap (λ t. flat_map (heard_text detail) r.all ++ t) (append-nil (heard_text detail what)));
  served_are = adds.served ∙ one_more is_served counts.served r.served_are;
  withdrawn_are = adds.withdrawn ∙ one_more is_withdrawn counts.withdrawn r.withdrawn_are;
  told_are = adds.told ∙ one_more is_told counts.told r.told_are;
  one_each = length-append r.all (what ∷ []) ∙ ap (λ n. n + 1) r.one_each;
}
  where
    one_more : (test : Said → Bool) (n : ℕ) → n ≡ count_by test (map said_by r.all) → n + one_if (test (said_by what)) ≡ count_by test (map said_by (r.all ++ what ∷ []))
    one_more test n e = ap (λ m. m + one_if (test (said_by what))) e ∙ sym (ap (count_by test) (map-append said_by r.all (what ∷ [])) ∙ count_by_one_more test (map said_by r.all) (said_by what))

-- the count of nodes that are in a call, wait or hold, with one more node
pub nodes_busy_more : (c : State) (n : ℕ) (b : Bool) → is_busy (point c (n + 1)) ≡ b → nodes_busy (n + 1) c ≡ nodes_busy n c + one_if b
nodes_busy_more c n b h =
    ap (λ k. nodes_busy k c) next
    ∙ ap (count_by test) (range_more 1 n ∙ ap (λ k. range_with_len 1 n ++ k ∷ []) same)
    ∙ count_by_one_more test (range_with_len 1 n) (n + 1)
    ∙ ap (λ d. nodes_busy n c + one_if d) h
  where
    test : ℕ → Bool
    test m = is_busy (point c m)

    next : n + 1 ≡ suc n
    next = omega arith

    same : 1 + n ≡ n + 1
    same = omega arith

-- one more step of the core, whatever its result is
abbrev pub heard_after : Result Told NotEnabled → State → Heard
heard_after r after = record { told = result_ok r; rank = rank after }

tells_more : (from : State) (events : List Event) (all : List Heard) (before after : State) (event : Event) (r : Result Told NotEnabled) → Tells from events all before
    → IfOk r (λ t. Step before event t after) → IfErr r (λ e. IsRefused before event e) → OnErr r (after ≡ before) → Tells from (events ++ event ∷ []) (all ++ heard_after r after ∷ []) after
tells_more from events all before after event (Ok t) runs step why same = told event t runs step
tells_more from events all before after event (Err e) runs step why same = subst (λ c. Tells from (events ++ event ∷ []) (all ++ heard_after (Err e) c ∷ []) c) (sym same) (refused event e runs why)

-- the same statement for an event at a place of a list
pub step_done : (detail : Detail) (script : StepScript) (i : ℕ) (core after : State) (counts new : Counts) (text longer : List ℕ) (events : List Event) (d : Event) (r : Result Told NotEnabled) (what : Option Told) (said : Said)
    → Reaches detail script i core counts text → events ≡ script.events → i < length events
    → IfOk r (λ t. Step core (get_or events i d) t after) → IfErr r (λ e. IsRefused core (get_or events i d) e) → OnErr r (after ≡ core)
    → what ≡ result_ok r → said ≡ step_said what → Counted said counts new → longer ≡ text ++ heard_text detail (record { told = what; rank = rank after }) → Reaches detail script (i + 1) after new longer
step_done detail script i core after counts new text longer events d r what said was same lt step why stays is says adds more =
    let heard : Heard = record { told = what; rank = rank after } in
    reaches_step detail script i core after counts new text longer (get_or events i d) heard was
    (subst (λ w. Tells (start_of script) (take i script.events ++ get_or events i d ∷ []) (was.all ++ record { told = w; rank = rank after } ∷ []) after) (sym is)
    (tells_more (start_of script) (take i script.events) was.all core after (get_or events i d) r was.runs step why stays))
    (subst (λ es. take (i + 1) es ≡ take i es ++ get_or events i d ∷ []) same (take_more events i d lt))
    (subst (λ s. Counted s counts new) says adds) more
