-- Proof that a picture shows each line in the same states as a replay of the whole script.
use Rattle.std.proofs.Common.{◌≡◌, ℕ, zero, suc, ◌+◌, ◌<◌, ◌==◌, Bool, true, false, cond, List, [], ◌∷◌, ◌++◌, length, replicate, refl, sym, ap, ◌∙◌, subst, arith}
use Rattle.std.specs.List.{fold}
use Rattle.std.proofs.lemmas.Bool.Decides.{nat_tests}
use Rattle.std.proofs.lemmas.List.{length-replicate, length-set, get_or-set_same, get_or-set_other}
use Rattle.qolb_model.specs.OneOwner.{opened}
use Rattle.qolb_model.specs.declared.config.LineConfig.{LineConfig}
use Rattle.qolb_script.specs.declared.command.Command.{Command}
use Rattle.qolb_script.specs.Commands.{line_of}
use Rattle.qolb_script.specs.Reply.{Replay, config_of, no_line, line_at, after_command, replay_start, replay_step}
use Rattle.qolb_draw.specs.LineRuns.{LineRun, run_start, run_step}
use Rattle.qolb_draw.specs.Laws.{DrawnAsReplayed}

opened_at : (config : LineConfig) (n k : ℕ) → k < n → opened config ≡ line_at (replicate n (opened config)) k
opened_at config zero k lt = absurd (omega arith)
opened_at config (suc n) zero lt = refl
opened_at config (suc n) (suc k) lt = opened_at config n k (omega (arith, lt))

-- a run after a command on the line, and after a command on another line
abbrev pub run_by : LineRun → Command → Bool → LineRun
run_by run c true = record { done = run.done + 1; now = after_command run.now c; steps = run.steps ++ record { number = run.done + 1; command = c; before = run.now } ∷ [] }
run_by run c false = record run { done = run.done + 1 }

pub stepped : (line : ℕ) (run : LineRun) (c : Command) → run_step line run c ≡ run_by run c (line_of c == line)
stepped line run c = by (line_of c == line)
  where
    by : (b : Bool) → cond b (record { done = run.done + 1; now = after_command run.now c; steps = run.steps ++ record { number = run.done + 1; command = c; before = run.now } ∷ [] }) (record run { done = run.done + 1 }) ≡ run_by run c b
    by true = refl
    by false = refl

-- one command, on this line or on another
step_same : (line : ℕ) (run : LineRun) (r : Replay) (c : Command) (b : Bool) → (line_of c == line) ≡ b → line < length r.lines → run.now ≡ line_at r.lines line → (run_step line run c).now ≡ line_at (replay_step r c).lines line
step_same line run r c true e lt same =
    let here : line_of c ≡ line = grind (arith, nat_tests) in
    let there : line_of c < length r.lines = omega arith in
    ap (λ (x : LineRun). x.now) (stepped line run c ∙ ap (run_by run c) e) ∙ ap (λ s. after_command s c) (same ∙ ap (line_at r.lines) (sym here))
    ∙ sym (get_or-set_same r.lines (line_of c) (after_command (line_at r.lines (line_of c)) c) no_line there) ∙ ap (line_at (replay_step r c).lines) here
step_same line run r c false e lt same =
    let apart : line ≡ line_of c → ⊥ = λ h. let yes' : (line_of c == line) ≡ true = grind (arith, nat_tests) in let both : true ≡ false = sym yes' ∙ e in cc both in
    ap (λ (x : LineRun). x.now) (stepped line run c ∙ ap (run_by run c) e) ∙ same
    ∙ sym (get_or-set_other r.lines (line_of c) line (after_command (line_at r.lines (line_of c)) c) no_line apart)

all_same : (line : ℕ) (cs : List Command) (run : LineRun) (r : Replay) → line < length r.lines → run.now ≡ line_at r.lines line → (fold (run_step line) run cs).now ≡ line_at (fold replay_step r cs).lines line
all_same line [] run r lt same = same
all_same line (c ∷ cs) run r lt same =
    all_same line cs (run_step line run c) (replay_step r c) (subst (λ (n : ℕ). line < n) (sym (length-set r.lines (line_of c) (after_command (line_at r.lines (line_of c)) c))) lt)
    (step_same line run r c (line_of c == line) refl lt same)

pub drawn_as_replayed : DrawnAsReplayed
drawn_as_replayed script line lt =
    all_same line script.commands (run_start (config_of script)) (replay_start (config_of script) script.lines)
    (subst (λ (n : ℕ). line < n) (sym (length-replicate script.lines (opened (config_of script)))) lt) (opened_at (config_of script) script.lines line lt)
