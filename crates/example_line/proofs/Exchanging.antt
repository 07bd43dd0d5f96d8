-- Lemmas for the mailbox: how one turn changes the sums that are computed for a port, and what the mailbox contains at
-- the end.
use Rattle.std.proofs.Common.{◌≡◌, ◌≢◌, ℕ, zero, suc, ◌+◌, ◌-◌, ◌%◌, ◌^◌, ◌<◌, min, true, false, refl, List, [], ◌∷◌, length, map, get_or, Some, None, ap, sym, subst, ◌∙◌, arith}
use Rattle.std.specs.List.{sum_by}
use Rattle.line_lanes.specs.Lane.{lane_of}
use Rattle.line_lanes.specs.Line.{zeros}
use Rattle.qolb_model.specs.declared.end.End.{End}
use Rattle.qolb_model.specs.declared.end.End.TheVariants.{Served, Gone, Told}
use Rattle.qolb_model.specs.declared.config.LineConfig.{LineConfig}
use Rattle.qolb_model.specs.declared.view.View.{View}
use Rattle.qolb_model.specs.declared.write.Write.{Write}
use Rattle.qolb_model.specs.Ends.{written, bytes_after}
use Rattle.qolb_model.specs.PortStates.{may_ask}
use Rattle.qolb_model.specs.Views.{bytes_of, Extends}
use Rattle.qolb_model.specs.OneHistory.{OneHistory, IsAmong}
use Rattle.qolb_model.specs.Sound.{KnowsOwnHistory}
use Rattle.qolb_model.specs.Enqueueing.{IsBusy, Asks}
use Rattle.qolb_model.specs.AtTurn.{IsGranted, IsWithdrawn}
use Rattle.qolb_model.specs.Releasing.{IsTold}
use Rattle.qolb_model.specs.Finishing.{IsFinished}
use Rattle.qolb_model.specs.Calls.{Releases}
use Rattle.qolb_model.specs.Sums.{sum_of_all, KnowsOwnPlaces}
use Rattle.qolb_model.proofs.Lists.{same_some}
use Rattle.qolb_model.proofs.Sums.{sums_of_ports}
use Rattle.qolb_model.proofs.OwnTurns.{NoneServedBeyond, places_same, places_asked, sums_kept, granted_beyond, withdrawn_beyond, told_beyond, busy_beyond, more_turns, unused_sum}
use Rattle.example_line.proofs.Leaving.{Wrote}
use Rattle.example_line.specs.Mailbox.{in_lane, lane_sum_of, Moves, puts, takes, fills, empties, Exchanges, HasExchanged, HasPut, HasTaken, IsHandedBy, sum_up_to}

plus_none : (n : ℕ) → n ≡ n + 0
plus_none n = omega arith

-- a port that requested the line, or was busy, has had no turn since
module _ (old new : View) (quiet : may_ask old.state ≡ true) (past : KnowsOwnHistory old) (places : KnowsOwnPlaces old) (more : Extends old new) (h : OneHistory (new ∷ [])) where
  still : KnowsOwnPlaces new → NoneServedBeyond old new → Moves (λ _. 0) old new
  still known beyond = record {
    places = known;
    sums = λ does none. sums_kept old new more h quiet past beyond (in_lane does) ∙ plus_none (lane_sum_of does old);
  }

  pub granted_moves : (turn : Write) → Asks old new → IsGranted new turn → Moves (λ _. 0) old new
  granted_moves turn asks granted = still (places_asked old new more h asks places) (granted_beyond old new more h turn asks places granted)

  pub withdrawn_moves : Asks old new → IsWithdrawn new → Moves (λ _. 0) old new
  withdrawn_moves asks withdrawn = still (places_asked old new more h asks places) (withdrawn_beyond old new more h asks places withdrawn)

  pub told_moves : Asks old new → IsTold new → Moves (λ _. 0) old new
  told_moves asks told = still (places_asked old new more h asks places) (told_beyond old new more h asks places told)

  pub busy_moves : IsBusy old new → Moves (λ _. 0) old new
  busy_moves busy = still (places_same old new more h busy.count places) (busy_beyond old new more h places busy)

-- one turn that found `found` in the first lane and left `left`
pub turn_moves : (allows : List ℕ → List ℕ → Type 0) (old mid new : View) (turn write : Write) (found left : ℕ) → Moves (λ _. 0) old mid → IsGranted mid turn → Releases allows false mid new write
    → lane_of turn.bytes.bytes 0 ≡ found → lane_of write.bytes.bytes 0 ≡ left → Moves (λ does. does found left) old new
turn_moves allows old mid new turn write found left before granted releases lay lies = record {
  places = places_same mid new releases.continues.extends releases.continues.history releases.ends_turn.count before.places;
  sums = λ does none.
      let here : lane_of (bytes_of mid) 0 ≡ found = ap (λ (b : List ℕ). lane_of b 0) (sym granted.bytes) ∙ lay in
      let one : does (lane_of (bytes_of mid) 0) (lane_of write.bytes.bytes 0) ≡ does found left = ap (λ n. does n (lane_of write.bytes.bytes 0)) here ∙ ap (does found) lies in
      let earlier : lane_sum_of does mid ≡ lane_sum_of does old = before.sums does none ∙ sym (plus_none (lane_sum_of does old)) in
      more_turns allows mid new write releases granted.at_turn (in_lane does)
      ∙ (ap (λ n. n + in_lane does (bytes_of mid) write.bytes.bytes) earlier ∙ ap (λ n. lane_sum_of does old + n) one);
}

pub wrote_moves : (allows : List ℕ → List ℕ → Type 0) (old mid new : View) (turn write : Write) (found left : ℕ) → Moves (λ _. 0) old mid → Wrote allows mid new turn write found left
    → Moves (λ does. does found left) old new
wrote_moves allows old mid new turn write found left before wrote = turn_moves allows old mid new turn write found left before wrote.granted wrote.releases wrote.lay wrote.lies

-- a turn that leaves what it found moves nothing
pub same_moves : (old new : View) (lane : ℕ) → Moves (λ does. does lane lane) old new → Moves (λ _. 0) old new
same_moves old new lane moves = record {
  places = moves.places;
  sums = λ does none. moves.sums does none ∙ ap (λ n. lane_sum_of does old + n) (none lane);
}

none_put : (lane : ℕ) → puts lane lane ≡ 0
none_put lane = omega arith

none_filled : (lane : ℕ) → fills lane lane ≡ 0
none_filled lane = omega arith

-- one more thing is counted
adds_on : (a b c m d n : ℕ) → b ≡ a + m → c ≡ b + d → d ≡ n → c ≡ a + (m + n)
adds_on a b c m d n before one is = omega (arith, before, one, is)

-- one more value is taken
pub takes_one : (old mid new : View) (many taken value : ℕ) → value ≢ 0 → Exchanges 0 0 many taken old mid → Moves (λ does. does value 0) mid new → Exchanges 0 0 (many + 1) (taken + value) old new
takes_one old mid new many taken value not_zero before one = record {
  places = one.places;
  filled = adds_on (lane_sum_of fills old) (lane_sum_of fills mid) (lane_sum_of fills new) 0 (fills value 0) 0 before.filled (one.sums fills none_filled) (filled_none value);
  in_all = adds_on (lane_sum_of puts old) (lane_sum_of puts mid) (lane_sum_of puts new) 0 (puts value 0) 0 before.in_all (one.sums puts none_put) (put_none value);
  emptied = adds_on (lane_sum_of empties old) (lane_sum_of empties mid) (lane_sum_of empties new) many (empties value 0) 1 before.emptied (one.sums empties none_filled) (emptied_one value not_zero);
  out_all = adds_on (lane_sum_of takes old) (lane_sum_of takes mid) (lane_sum_of takes new) taken (takes value 0) value before.out_all (one.sums takes none_put) (took_one value);
}
  where
    filled_none : (n : ℕ) → min 0 1 - min n 1 ≡ 0
    filled_none n = omega arith

    put_none : (n : ℕ) → 0 - n ≡ 0
    put_none n = omega arith

    emptied_one : (n : ℕ) → n ≢ 0 → min n 1 - min 0 1 ≡ 1
    emptied_one n not_zero = omega (arith, not_zero)

    took_one : (n : ℕ) → n - 0 ≡ n
    took_one n = omega arith

-- a port that had made no request before
pub all_exchanged : (many_put put many_taken taken : ℕ) (old new : View) → OneHistory (old ∷ []) → old.count ≡ 0 → Exchanges many_put put many_taken taken old new → HasExchanged many_put put many_taken taken new
all_exchanged many_put put many_taken taken old new h unused e = record {
  places = e.places;
  filled = e.filled ∙ ap (λ n. n + many_put) (unused_sum old h unused (in_lane fills)) ∙ from_none many_put;
  in_all = e.in_all ∙ ap (λ n. n + put) (unused_sum old h unused (in_lane puts)) ∙ from_none put;
  emptied = e.emptied ∙ ap (λ n. n + many_taken) (unused_sum old h unused (in_lane empties)) ∙ from_none many_taken;
  out_all = e.out_all ∙ ap (λ n. n + taken) (unused_sum old h unused (in_lane takes)) ∙ from_none taken;
}
  where
    from_none : (n : ℕ) → 0 + n ≡ n
    from_none n = omega arith

-- what is in the mailbox is what was put and not taken
left_in : (bytes : List ℕ) (ends : List End) → lane_of (bytes_after bytes ends) 0 + sum_of_all (in_lane takes) bytes ends ≡ lane_of bytes 0 + sum_of_all (in_lane puts) bytes ends
left_in bytes [] = refl
left_in bytes (Served write shut ∷ ends) =
    let now = written bytes write in
    step (lane_of bytes 0) (lane_of now 0) (lane_of (bytes_after now ends) 0) (sum_of_all (in_lane takes) now ends) (sum_of_all (in_lane puts) now ends) (left_in now ends)
  where
    step : (a b l t p : ℕ) → l + t ≡ b + p → l + ((a - b) + t) ≡ a + ((b - a) + p)
    step a b l t p e = omega (arith, e)
left_in bytes (Gone ∷ ends) = left_in bytes ends
left_in bytes (Told ∷ ends) = left_in bytes ends

-- the mailbox is full if turns filled it once more than they emptied it
full : (bytes : List ℕ) (ends : List End) → min (lane_of (bytes_after bytes ends) 0) 1 + sum_of_all (in_lane empties) bytes ends ≡ min (lane_of bytes 0) 1 + sum_of_all (in_lane fills) bytes ends
full bytes [] = refl
full bytes (Served write shut ∷ ends) =
    let now = written bytes write in
    step (min (lane_of bytes 0) 1) (min (lane_of now 0) 1) (min (lane_of (bytes_after now ends) 0) 1) (sum_of_all (in_lane empties) now ends) (sum_of_all (in_lane fills) now ends) (full now ends)
  where
    step : (a b l t p : ℕ) → l + t ≡ b + p → l + ((a - b) + t) ≡ a + ((b - a) + p)
    step a b l t p e = omega (arith, e)
full bytes (Gone ∷ ends) = full bytes ends
full bytes (Told ∷ ends) = full bytes ends

-- a finished line of two nodes, of which one put the values and the other took as many
all_taken : (good : List ℕ → Type 0) (allows : List ℕ → List ℕ → Type 0) (label : ℕ) (config : LineConfig) (giver taker : View) (bytes : List ℕ) (values taken : ℕ)
    → IsFinished good allows label config (giver ∷ taker ∷ []) bytes → lane_of config.opening.bytes 0 ≡ 0 → HasPut values giver → HasExchanged 0 0 values taken taker → taken ≡ sum_up_to values
all_taken good allows label config giver taker bytes values taken f opening gave took =
    let first = config.opening.bytes in
    let ends = f.history.ends in
    by_sums (lane_of (bytes_after first ends) 0) (lane_of first 0) values (sum_up_to values) taken
    (sum_of_all (in_lane fills) first ends) (sum_of_all (in_lane puts) first ends) (sum_of_all (in_lane empties) first ends) (sum_of_all (in_lane takes) first ends)
    (left_in first ends) (full first ends) opening
    (whole fills values 0 gave.filled took.filled) (whole puts (sum_up_to values) 0 gave.in_all took.in_all)
    (whole empties 0 values gave.emptied took.emptied) (whole takes 0 taken gave.out_all took.out_all)
  where
    places : (v : View) → IsAmong (giver ∷ taker ∷ []) v → KnowsOwnPlaces v
    places v (zero, at) = subst (λ (w : View). KnowsOwnPlaces w) (same_some at) gave.places
    places v (suc zero, at) = subst (λ (w : View). KnowsOwnPlaces w) (same_some at) took.places
    places v (suc (suc i), at) = absurd (let no : None ≡ Some v = at in cc no)

    whole : (does : ℕ → ℕ → ℕ) (m n : ℕ) → lane_sum_of does giver ≡ m → lane_sum_of does taker ≡ n → sum_of_all (in_lane does) config.opening.bytes f.history.ends ≡ (0 + m) + n
    whole does m n of_giver of_taker =
        sums_of_ports good allows (in_lane does) label config (giver ∷ taker ∷ []) bytes f places
        ∙ (ap (λ k. (0 + k) + lane_sum_of does taker) of_giver ∙ ap (λ k. (0 + m) + k) of_taker)

    by_sums : (l o n s t a b c d : ℕ) → l + d ≡ o + b → min l 1 + c ≡ min o 1 + a → o ≡ 0 → a ≡ (0 + n) + 0 → b ≡ (0 + s) + 0 → c ≡ (0 + 0) + n → d ≡ (0 + 0) + t → t ≡ s
    by_sums l o n s t a b c d p q z e1 e2 e3 e4 = omega (arith, p, q, z, e1, e2, e3, e4)

-- what two threads returned from a line of two nodes
module _ {Port Output : Type 0} (view : Port → View) (port_of : Output → Port) (sum_of : Output → ℕ) where
  pub sum_at_last : (good : List ℕ → Type 0) (allows : List ℕ → List ℕ → Type 0) (label : ℕ) (config_of config : LineConfig) (handed : List Output) (ports : List Port) (bytes : List ℕ) (values total : ℕ)
      → IsFinished good allows label config_of (map view ports) bytes → config_of ≡ config → config.opening.bytes ≡ zeros → ports ≡ map port_of handed → length handed ≡ 2
      → ((i : ℕ) (d : Output) → i < length handed → i ≡ 0 → (sum_of (get_or handed i d) ≡ 0) × HasPut values (view (port_of (get_or handed i d))))
      → ((i : ℕ) (d : Output) → i < length handed → i ≢ 0 → HasTaken values (sum_of (get_or handed i d)) (view (port_of (get_or handed i d))))
      → total ≡ sum_by sum_of handed % 2 ^ 64 → total ≡ sum_up_to values % 2 ^ 64
  sum_at_last good allows label config_of config [] ports bytes values total f are opening is two first second sum = absurd (let no : 0 ≡ 2 = two in cc no)
  sum_at_last good allows label config_of config (a ∷ []) ports bytes values total f are opening is two first second sum = absurd (let no : 1 ≡ 2 = two in cc no)
  sum_at_last good allows label config_of config (a ∷ b ∷ []) ports bytes values total f are opening is two first second sum =
      let lane : lane_of config_of.opening.bytes 0 ≡ 0 = ap (λ (t : LineConfig). lane_of t.opening.bytes 0) are ∙ ap (λ bytes. lane_of bytes 0) opening in
      let of_two = subst (λ ports. IsFinished good allows label config_of (map view ports) bytes) is f in
      let gave = first 0 a (omega arith) refl in
      let took = second 1 a (omega arith) (omega arith) in
      let taken = all_taken good allows label config_of (view (port_of a)) (view (port_of b)) bytes values took.0 of_two lane gave.1 took.2 in
      let both : total ≡ (0 + sum_of a + sum_of b) % 2 ^ 64 = sum in
      let none = gave.0 in
      let of_b = took.1 in
      omega (arith, both, none, of_b, taken)
  sum_at_last good allows label config_of config (a ∷ b ∷ c ∷ more) ports bytes values total f are opening is two first second sum = absurd (let no : suc (suc (suc (length more))) ≡ 2 = two in omega (arith, no))

  -- two ports of the line: one put all values, and the other took as many, whose sum is the total
  pub both_at_last : (belongs : Port → Type 0) (handed : List Output) (ports : List Port) (values total : ℕ) → ports ≡ map port_of handed → length handed ≡ 2
      → ((i : ℕ) (d : Output) → i < length handed → belongs (port_of (get_or handed i d)))
      → ((i : ℕ) (d : Output) → i < length handed → i ≡ 0 → (sum_of (get_or handed i d) ≡ 0) × HasPut values (view (port_of (get_or handed i d))))
      → ((i : ℕ) (d : Output) → i < length handed → i ≢ 0 → HasTaken values (sum_of (get_or handed i d)) (view (port_of (get_or handed i d))))
      → total ≡ sum_by sum_of handed % 2 ^ 64 → IsHandedBy belongs view values total
  both_at_last belongs [] ports values total are two each first second sum = absurd (let no : 0 ≡ 2 = two in cc no)
  both_at_last belongs (a ∷ []) ports values total are two each first second sum = absurd (let no : 1 ≡ 2 = two in cc no)
  both_at_last belongs (a ∷ b ∷ []) ports values total are two each first second sum =
      let gave = first 0 a (omega arith) refl in
      let took = second 1 a (omega arith) (omega arith) in
      let both : total ≡ (0 + sum_of a + sum_of b) % 2 ^ 64 = sum in
      let none = gave.0 in
      let of_b = took.1 in
      let is : total ≡ took.0 % 2 ^ 64 = omega (arith, both, none, of_b) in
      record {
        giver = port_of a;
        taker = port_of b;
        of_giver = each 0 a (omega arith);
        of_taker = each 1 a (omega arith);
        puts = gave.1;
        takes = (took.0, is, took.2);
      }
  both_at_last belongs (a ∷ b ∷ c ∷ more) ports values total are two each first second sum = absurd (let no : suc (suc (suc (length more))) ≡ 2 = two in omega (arith, no))

-- what holds of the port that each thread returned holds of each of these ports
pub each_port : {Port Output : Type 0} (port_of : Output → Port) (P : Port → Type 0) (handed : List Output) → ((i : ℕ) (d : Output) → i < length handed → P (port_of (get_or handed i d)))
    → (k : ℕ) (d : Port) → k < length (map port_of handed) → P (get_or (map port_of handed) k d)
each_port port_of P [] each k d lt = absurd (omega (arith, lt))
each_port port_of P (x ∷ xs) each zero d lt = each 0 x (omega arith)
each_port port_of P (x ∷ xs) each (suc k) d lt = each_port port_of P xs (λ i e il. each (suc i) e (omega (arith, il))) k d (omega (arith, lt))
