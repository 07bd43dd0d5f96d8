-- Lemmas about a replay that has executed some of its commands: the state of the lines, and the text written so far.
use Rattle.std.proofs.Common.{◌≡◌, ℕ, zero, suc, ◌+◌, ◌<◌, ◌≤◌, List, [], ◌∷◌, ◌++◌, length, map, take, get_or, set, refl, sym, ap, ◌∙◌, subst, arith, inl, inr, ◌⊎◌, replicate, append-nil, append_assoc}
use Rattle.std.specs.List.{range_with_len, fold}
use Rattle.std.proofs.lemmas.List.{length-replicate, get_or_append_left, get_or_push, length-append, length-set, take_all, map-append, get_or_default}
use Rattle.std.proofs.lemmas.List.Sums.{fold_more}
use Rattle.std.proofs.lemmas.Grind.{flat_map-append}
use Rattle.std.proofs.lemmas.Bool.{cases_lt}
use Rattle.std.proofs.lemmas.List.FromFn.{map-range_with_len_more}
use Rattle.qolb_model.specs.declared.config.LineConfig.{LineConfig}
use Rattle.qolb_model.specs.OneOwner.{OwnerState, opened}
use Rattle.qolb_script.specs.declared.command.Command.{Command}
use Rattle.qolb_script.specs.declared.reply_text.Said.{Said}
use Rattle.qolb_script.specs.Commands.{line_of}
use Rattle.qolb_script.specs.Script.{Script, IsInRange}
use Rattle.qolb_script.specs.Said.{said_text}
use Rattle.qolb_script.specs.Reply.{Replay, config_of, line_at, replay_start, replay_step, replay_of, said_of, text_of, summary_of}
use Rattle.qolb_replay.specs.declared.line.CountingLine.{CountingLine}
use Rattle.qolb_replay.specs.Tallies.{no_counts, Does, IsLineOf, AreLinesOf}
use Rattle.qolb_replay.proofs.Tallying.{lines_step, said_is}

opened_at : (config : LineConfig) (n k : ℕ) → k < n → opened config ≡ line_at (replicate n (opened config)) k
opened_at config zero k lt = absurd (omega arith)
opened_at config (suc n) zero lt = refl
opened_at config (suc n) (suc k) lt = opened_at config n k (omega (arith, lt))

-- the replay after the first i commands
abbrev pub replay_after : Script → ℕ → Replay
replay_after script i = fold replay_step (replay_start (config_of script) script.lines) (take i script.commands)

whole : (script : Script) (i : ℕ) → length script.commands ≤ i → replay_after script i ≡ replay_of script
whole script i all = ap (fold replay_step (replay_start (config_of script) script.lines)) (take_all i script.commands all)

abbrev pub said_text_of : Replay → List ℕ
said_text_of r = text_of (map (λ s. s.1) r.said)

-- the text after one more answer
pub text_one_more : (said : List Said) (what : Said) → text_of (said ++ what ∷ []) ≡ text_of said ++ said_text what
text_one_more said what = flat_map-append said_text said (what ∷ []) ∙ ap (λ t. text_of said ++ t) (append-nil (said_text what))

text_more : (said : List (ℕ × Said)) (at : ℕ) (what : Said) → text_of (map (λ s. s.1) (said ++ (at, what) ∷ [])) ≡ text_of (map (λ s. s.1) said) ++ said_text what
text_more said at what = ap text_of (map-append (λ s. s.1) said ((at, what) ∷ [])) ∙ text_one_more (map (λ s. s.1) said) what

-- the text after the summaries of the first k lines
pub record Ends (script : Script) (k : ℕ) (text : List ℕ) : Type 0 where
  pub text_is : text ≡ said_text_of (replay_of script) ++ text_of (map (summary_of script.nodes (replay_of script)) (range_with_len 0 k))

pub ends_step : (script : Script) (k : ℕ) (text after : List ℕ) (what : Said) → Ends script k text → what ≡ summary_of script.nodes (replay_of script) k → after ≡ text ++ said_text what → Ends script (k + 1) after
ends_step script k text after what e told more = record {
  text_is = more ∙ ap (λ t. t ++ said_text what) e.text_is ∙ ap (λ w. (said_text_of (replay_of script) ++ text_of (map summary (range_with_len 0 k))) ++ said_text w) told
      ∙ append_assoc (said_text_of (replay_of script)) (text_of (map summary (range_with_len 0 k))) (said_text (summary k))
      ∙ ap (λ t. said_text_of (replay_of script) ++ t) (sym (ap text_of (map-range_with_len_more summary 0 k k (omega arith)) ∙ text_one_more (map summary (range_with_len 0 k)) (summary k)));
}
  where
    summary : ℕ → Said
    summary = summary_of script.nodes (replay_of script)

-- These lemmas hold for lines of any kind. They need the state of a line with one owner that each line represents, and
-- its number of nodes.
module _ {R : Type 0} (represents : R → OwnerState → Type 0) (nodes_of : R → ℕ) where
  -- a line that was just opened has counts that are all 0
  pub record IsNew (config : LineConfig) (t : CountingLine R) : Type 0 where
    pub nodes_are : nodes_of t.line ≡ config.nodes
    pub agrees : represents t.line (opened config)
    pub nothing_said : t.counts ≡ no_counts

  new_line : (config : LineConfig) (n k : ℕ) (t : CountingLine R) → k < n → IsNew config t → IsLineOf represents nodes_of config.nodes (replay_start config n) k t
  new_line config n k t lt new = record {
    nodes_are = new.nodes_are;
    agrees = subst (represents t.line) (opened_at config n k lt) new.agrees;
    served_are = ap (λ c. c.served) new.nothing_said;
    withdrawn_are = ap (λ c. c.withdrawn) new.nothing_said;
    told_are = ap (λ c. c.told) new.nothing_said;
  }

  -- no line, and then one more line
  pub none_opened : (config : LineConfig) → AreLinesOf represents nodes_of config.nodes (replay_start config 0) []
  none_opened config = record { len = refl; each = λ number d lt. absurd (omega arith) }

  pub one_more_opened : (config : LineConfig) (n : ℕ) (lines : List (CountingLine R)) (t : CountingLine R) → AreLinesOf represents nodes_of config.nodes (replay_start config n) lines → length lines ≡ n → IsNew config t → AreLinesOf represents nodes_of config.nodes (replay_start config (n + 1)) (lines ++ t ∷ [])
  one_more_opened config n lines t are many new = record {
    len = length-append lines (t ∷ []) ∙ (let e : length lines + 1 ≡ n + 1 = omega arith in e) ∙ sym (length-replicate (n + 1) (opened config));
    each = λ number d lt. by_place number d lt (cases_lt number (length lines));
  }
    where
      again : (number : ℕ) (u : CountingLine R) → number < n → IsLineOf represents nodes_of config.nodes (replay_start config n) number u → IsLineOf represents nodes_of config.nodes (replay_start config (n + 1)) number u
      again number u lt was = record {
        nodes_are = was.nodes_are;
        agrees = subst (represents u.line) (opened_at config (n + 1) number (omega arith)) (subst (represents u.line) (sym (opened_at config n number lt)) was.agrees);
        served_are = was.served_are;
        withdrawn_are = was.withdrawn_are;
        told_are = was.told_are;
      }

      by_place : (number : ℕ) (d : CountingLine R) → number < length (lines ++ t ∷ []) → (number < length lines) ⊎ (length lines ≤ number) → IsLineOf represents nodes_of config.nodes (replay_start config (n + 1)) number (get_or (lines ++ t ∷ []) number d)
      by_place number d lt (inl old) = subst (IsLineOf represents nodes_of config.nodes (replay_start config (n + 1)) number) (sym (get_or_append_left lines (t ∷ []) d number old)) (again number (get_or lines number d) (omega arith) (are.each number d old))
      by_place number d lt (inr last) =
          let at : length lines ≡ number = omega (arith, length-append lines (t ∷ [])) in
          subst (IsLineOf represents nodes_of config.nodes (replay_start config (n + 1)) number) (sym (get_or_push lines t d number at)) (new_line config (n + 1) number t (omega arith) new)

  -- the lines and the text after the first i commands
  pub record Stands (script : Script) (i : ℕ) (lines : List (CountingLine R)) (text : List ℕ) : Type 0 where
    pub lines_are : AreLinesOf represents nodes_of script.nodes (replay_after script i) lines
    pub many : length lines ≡ script.lines
    pub text_is : text ≡ said_text_of (replay_after script i)
    pub said_count : length (replay_after script i).said ≡ i

  pub stands_step : (script : Script) (i : ℕ) (lines : List (CountingLine R)) (text : List ℕ) (c : Command) (what : Said) (new : CountingLine R) (after : List ℕ)
      → Stands script i lines text → i < length script.commands → get_or script.commands i c ≡ c → line_of c < script.lines
      → Does represents nodes_of c what (get_or lines (line_of c) new) new → after ≡ text ++ said_text what → Stands script (i + 1) (set lines (line_of c) new) after
  stands_step script i lines text c what new after s lt at place does more = record {
    lines_are = subst (λ r. AreLinesOf represents nodes_of script.nodes r (set lines (line_of c) new)) (sym next) (lines_step represents nodes_of script.nodes r lines c what new s.lines_are there does);
    many = length-set lines (line_of c) new ∙ s.many;
    text_is = more ∙ ap (λ t. t ++ said_text what) s.text_is ∙ ap (λ w. said_text_of r ++ said_text w) told ∙ sym longer ∙ ap said_text_of (sym next);
    said_count = ap (λ r. length r.said) next ∙ length-append r.said ((line_of c, said_of (line_at r.lines (line_of c)) c) ∷ []) ∙ (let e = s.said_count in omega arith);
  }
    where
      r : Replay
      r = replay_after script i

      next : replay_after script (i + 1) ≡ replay_step (replay_after script i) c
      next = fold_more replay_step (replay_start (config_of script) script.lines) script.commands i c lt ∙ ap (replay_step (replay_after script i)) at

      there : line_of c < length lines
      there = let e = s.many in omega arith

      told : what ≡ said_of (line_at (replay_after script i).lines (line_of c)) c
      told = said_is represents nodes_of script.nodes (replay_after script i) lines c what new s.lines_are there does

      longer : said_text_of (replay_step (replay_after script i) c) ≡ said_text_of (replay_after script i) ++ said_text (said_of (line_at (replay_after script i).lines (line_of c)) c)
      longer = text_more (replay_after script i).said (line_of c) (said_of (line_at (replay_after script i).lines (line_of c)) c)

  -- the same statement for a command at a place of a list, and for the line with the number of this command's line
  pub command_done : (script : Script) (i at : ℕ) (lines : List (CountingLine R)) (text after : List ℕ) (commands : List Command) (d : Command) (what : Said) (old new : CountingLine R)
      → Stands script i lines text → commands ≡ script.commands → i < length commands → at ≡ line_of (get_or commands i d) → IsInRange script
      → old ≡ get_or lines at old → Does represents nodes_of (get_or commands i d) what old new → after ≡ text ++ said_text what → Stands script (i + 1) (set lines at new) after
  command_done script i at lines text after commands d what old new s same lt number range was does more =
      subst (λ n. Stands script (i + 1) (set lines n new) after) (sym number)
      (stands_step script i lines text (get_or commands i d) what new after s lt_script here there
      (subst (λ t. Does represents nodes_of (get_or commands i d) what t new) old_is does) more)
    where
      lt_script : i < length script.commands
      lt_script = subst (λ cs. i < length cs) same lt

      here : get_or script.commands i (get_or commands i d) ≡ get_or commands i d
      here = get_or_default script.commands i (get_or commands i d) d lt_script ∙ ap (λ cs. get_or cs i d) (sym same)

      there : line_of (get_or commands i d) < script.lines
      there = subst (λ cs. line_of (get_or cs i d) < script.lines) (sym same) (range i d lt_script).2

      in_lines : line_of (get_or commands i d) < length lines
      in_lines = let e = s.many in let h = there in omega arith

      old_is : old ≡ get_or lines (line_of (get_or commands i d)) new
      old_is = was ∙ ap (λ n. get_or lines n old) number ∙ get_or_default lines (line_of (get_or commands i d)) old new in_lines

  -- the lines after all commands
  pub lines_at_end : (script : Script) (i : ℕ) (lines : List (CountingLine R)) (text : List ℕ) → Stands script i lines text → length script.commands ≤ i → AreLinesOf represents nodes_of script.nodes (replay_of script) lines
  lines_at_end script i lines text s all = subst (λ r. AreLinesOf represents nodes_of script.nodes r lines) (whole script i all) s.lines_are

  -- the summary of a line, after all commands
  pub summary_done : (script : Script) (i k : ℕ) (lines : List (CountingLine R)) (before text after : List ℕ) (what : Said) (line : CountingLine R)
      → Stands script i lines before → length script.commands ≤ i → k < length lines → line ≡ get_or lines k line
      → ((r : Replay) → IsLineOf represents nodes_of script.nodes r k line → what ≡ summary_of script.nodes r k) → Ends script k text → after ≡ text ++ said_text what → Ends script (k + 1) after
  summary_done script i k lines before text after what line s all lt is tells e more =
      ends_step script k text after what e (tells (replay_of script) (subst (IsLineOf represents nodes_of script.nodes (replay_of script) k) (sym is) ((lines_at_end script i lines before s all).each k line lt))) more
