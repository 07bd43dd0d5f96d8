-- Lemmas about what one more command changes in a replay: the state of a line, and the counts of the answers that the
-- line has given.
use Rattle.std.proofs.Common.{◌≡◌, ℕ, zero, suc, ◌+◌, ◌||◌, Bool, true, false, List, [], ◌∷◌, ◌++◌, refl, sym, ap, ◌∙◌, arith, cond, ◌≢◌, ◌==◌, ◌&&◌, ◌<◌, length, get_or, slice_set, subst, get_or-set_same, get_or-set_other, length-set, inl, inr, ◌⊎◌}
use Rattle.std.specs.List.{range_with_len, count_by}
use Rattle.std.proofs.lemmas.List.Sums.{sum_by-append}
use Rattle.std.proofs.lemmas.Bool.{ne_eqb, eq-eqb, cases_eq}
use Rattle.qolb_model.specs.declared.answer.PortState.{PortState}
use Rattle.qolb_model.specs.declared.answer.PortState.TheVariants as port
use Rattle.qolb_model.specs.OneOwner.{OwnerState, state_of}
use Rattle.qolb_model.specs.Whole.{seen}
use Rattle.qolb_script.specs.declared.command.Command.{Command}
use Rattle.qolb_script.specs.declared.reply_text.Said.{Said}
use Rattle.qolb_script.specs.Commands.{line_of}
use Rattle.qolb_script.specs.Reply.{nodes_left, is_queued, is_holding, Replay, line_at, no_line, said_of, after_command, replay_step, times_said, is_served, is_withdrawn, is_told}
use Rattle.qolb_replay.specs.declared.line.CountingLine.{CountingLine}
use Rattle.qolb_replay.specs.Tallies.{one_if, Does, IsLineOf, AreLinesOf}

one : (b : Bool) → 0 + cond b 1 0 ≡ one_if b
one true = refl
one false = refl

-- the count over a list with one more element
pub count_by_one_more : {X : Type 0} (p : X → Bool) (xs : List X) (x : X) → count_by p (xs ++ x ∷ []) ≡ count_by p xs + one_if (p x)
count_by_one_more p xs x =
    let both : count_by p (xs ++ x ∷ []) ≡ count_by p xs + count_by p (x ∷ []) = sum_by-append (λ y. cond (p y) 1 0) xs (x ∷ []) in
    both ∙ ap (λ n. count_by p xs + n) (one (p x))

-- a range that is one number longer
pub range_more : (a n : ℕ) → range_with_len a (suc n) ≡ range_with_len a n ++ (a + n) ∷ []
range_more a zero = let same : a ≡ a + 0 = omega arith in ap (λ k. k ∷ []) same
range_more a (suc n) = let same : (a + 1) + n ≡ a + suc n = omega arith in
    ap (λ xs. a ∷ xs) (range_more (a + 1) n ∙ ap (λ k. range_with_len (a + 1) n ++ k ∷ []) same)

-- the count of nodes that wait or hold, with one more node
pub nodes_left_more : (s : OwnerState) (n : ℕ) (b : Bool) → (is_queued (state_of s (suc n)) || is_holding (state_of s (suc n))) ≡ b → nodes_left (suc n) s ≡ nodes_left n s + one_if b
nodes_left_more s n b h =
    ap (count_by test) (range_more 1 n ∙ ap (λ k. range_with_len 1 n ++ k ∷ []) same)
    ∙ count_by_one_more test (range_with_len 1 n) (suc n)
    ∙ ap (λ c. nodes_left n s + one_if c) h
  where
    test : ℕ → Bool
    test m = is_queued (state_of s m) || is_holding (state_of s m)

    same : 1 + n ≡ suc n
    same = omega arith

-- one more answer on line `at`, as line `number` counts it
times_more : (test : Said → Bool) (number at : ℕ) (before : List (ℕ × Said)) (what : Said) (same : Bool) → (at == number) ≡ same → times_said test number (before ++ (at, what) ∷ []) ≡ times_said test number before + one_if (same && test what)
times_more test number at before what same h = count_by_one_more (λ s. (s.0 == number) && test s.1) before (at, what) ∙ ap (λ b. times_said test number before + one_if (b && test what)) h

not_eq : (a b : ℕ) → a ≢ b → (a == b) ≡ false
not_eq a b ne = ne_eqb a b ne

eq_self : (a : ℕ) → (a == a) ≡ true
eq_self a = eq-eqb a a refl

-- states that look the same to a port agree on whether a node waits or holds
pub left_seen : (a b : PortState) → seen a ≡ seen b → (is_queued a || is_holding a) ≡ (is_queued b || is_holding b)
left_seen a b e = by a ∙ (ap (λ x. is_queued x || is_holding x) e ∙ sym (by b))
  where
    by : (x : PortState) → (is_queued x || is_holding x) ≡ (is_queued (seen x) || is_holding (seen x))
    by port.Idle = refl
    by port.Linking = refl
    by port.Queued = refl
    by port.Holding = refl
    by port.Left = refl
    by port.Rolled = refl
    by port.Shut = refl

module _ {R : Type 0} (represents : R → OwnerState → Type 0) (nodes_of : R → ℕ) (nodes : ℕ) (r : Replay) (lines : List (CountingLine R)) (c : Command) (what : Said) (new : CountingLine R)
    (are : AreLinesOf represents nodes_of nodes r lines) (there : line_of c < length lines)
    (does : Does represents nodes_of c what (get_or lines (line_of c) new) new) where
  abbrev old : CountingLine R
  old = get_or lines (line_of c) new

  was : IsLineOf represents nodes_of nodes r (line_of c) old
  was = are.each (line_of c) new there

  pub said_is : what ≡ said_of (line_at r.lines (line_of c)) c
  said_is = does.said (line_at r.lines (line_of c)) was.agrees

  in_replay : line_of c < length r.lines
  in_replay = let e = are.len in omega arith

  -- the line that executed the command
  its_own : IsLineOf represents nodes_of nodes (replay_step r c) (line_of c) new
  its_own = record {
    nodes_are = does.nodes ∙ was.nodes_are;
    agrees = subst (represents new.line) (sym (get_or-set_same r.lines (line_of c) (after_command (line_at r.lines (line_of c)) c) no_line in_replay)) (does.agrees (line_at r.lines (line_of c)) was.agrees);
    served_are = does.counted.served ∙ counted is_served old.counts.served was.served_are;
    withdrawn_are = does.counted.withdrawn ∙ counted is_withdrawn old.counts.withdrawn was.withdrawn_are;
    told_are = does.counted.told ∙ counted is_told old.counts.told was.told_are;
  }
    where
      counted : (test : Said → Bool) (n : ℕ) → n ≡ times_said test (line_of c) r.said → n + one_if (test what) ≡ times_said test (line_of c) (replay_step r c).said
      counted test n h = ap (λ m. m + one_if (test what)) h ∙ ap (λ w. times_said test (line_of c) r.said + one_if (test w)) said_is
          ∙ sym (times_more test (line_of c) (line_of c) r.said (said_of (line_at r.lines (line_of c)) c) true (eq_self (line_of c)))

  -- a line that did not execute the command
  others : (number : ℕ) (d : CountingLine R) → number < length lines → number ≢ line_of c → IsLineOf represents nodes_of nodes (replay_step r c) number (get_or lines number d)
  others number d lt ne = let was_so = are.each number d lt in record {
    nodes_are = was_so.nodes_are;
    agrees = subst (represents (get_or lines number d).line) (sym (get_or-set_other r.lines (line_of c) number (after_command (line_at r.lines (line_of c)) c) no_line ne)) was_so.agrees;
    served_are = was_so.served_are ∙ sym (uncounted is_served);
    withdrawn_are = was_so.withdrawn_are ∙ sym (uncounted is_withdrawn);
    told_are = was_so.told_are ∙ sym (uncounted is_told);
  }
    where
      uncounted : (test : Said → Bool) → times_said test number (replay_step r c).said ≡ times_said test number r.said
      uncounted test = times_more test number (line_of c) r.said (said_of (line_at r.lines (line_of c)) c) false (not_eq (line_of c) number (λ e. ne (sym e))) ∙ (omega arith)

  -- the lines of the replay after one more command
  pub lines_step : AreLinesOf represents nodes_of nodes (replay_step r c) (slice_set lines (line_of c) new)
  lines_step = record {
    len = length-set lines (line_of c) new ∙ are.len ∙ sym (length-set r.lines (line_of c) (after_command (line_at r.lines (line_of c)) c));
    each = λ number d lt. by_place number d (subst (λ n. number < n) (length-set lines (line_of c) new) lt) (cases_eq number (line_of c));
  }
    where
      by_place : (number : ℕ) (d : CountingLine R) → number < length lines → (number ≡ line_of c) ⊎ (number ≢ line_of c) → IsLineOf represents nodes_of nodes (replay_step r c) number (get_or (slice_set lines (line_of c) new) number d)
      by_place number d lt (inl e) = subst (λ n. IsLineOf represents nodes_of nodes (replay_step r c) n (get_or (slice_set lines (line_of c) new) n d)) (sym e)
          (subst (IsLineOf represents nodes_of nodes (replay_step r c) (line_of c)) (sym (get_or-set_same lines (line_of c) new d there)) its_own)
      by_place number d lt (inr ne) = subst (IsLineOf represents nodes_of nodes (replay_step r c) number) (sym (get_or-set_other lines (line_of c) number new d ne)) (others number d lt ne)
