-- Lemmas about one call on a task board, and about the critical section (turn) that the caller had during the call, if
-- it had one.
use Rattle.std.proofs.Common.{◌≡◌, ℕ, zero, suc, ◌+◌, ◌<◌, ◌≤◌, ◌⊎◌, inl, inr, Bool, true, false, if◌then◌else◌, List, [], ◌∷◌, ◌++◌, length, take, drop, replicate, None, Some, slice_get, refl, ap, sym, subst, ◌∙◌, arith, append-nil, length-append}
use Rattle.std.proofs.lemmas.Bool.{eq-eqb, cases_lt}
use Rattle.std.proofs.lemmas.List.{length-take-le, take-append-drop, take-append-le}
use Rattle.std.proofs.lemmas.Option.{slice_get_within}
use mathlib.Core.List.{IsPrefix}
use Rattle.qolb_model.specs.declared.request.Request.{Request}
use Rattle.qolb_model.specs.declared.end.End.{End}
use Rattle.qolb_model.specs.declared.end.End.TheVariants.{Served, Gone, Told}
use Rattle.qolb_model.specs.declared.config.LineConfig.{LineConfig}
use Rattle.qolb_model.specs.declared.view.View.{View}
use Rattle.qolb_model.specs.declared.write.Write.{Write}
use Rattle.qolb_model.specs.Requests.{Has, count_of}
use Rattle.qolb_model.specs.Ends.{written, bytes_after}
use Rattle.qolb_model.specs.EndKinds.{is_served, is_gone}
use Rattle.qolb_model.specs.Leases.{is_last_turn, closes}
use Rattle.qolb_model.specs.PortStates.{may_ask}
use Rattle.qolb_model.specs.Views.{own, bytes_of}
use Rattle.qolb_model.specs.OneHistory.{Knows}
use Rattle.qolb_model.specs.Sound.{KnowsOwnHistory, Continues}
use Rattle.qolb_model.specs.Enqueueing.{IsBusy, Asks}
use Rattle.qolb_model.proofs.Lists.{never, same_some, element_at, at_either, drop_with}
use Rattle.qolb_model.proofs.Prefixes.{prefix_get, prefix_self, prefix_trans, prefix_shorter}
use Rattle.qolb_model.proofs.Histories.{same_place_legal, bytes_after-append}
use Rattle.qolb_model.proofs.Requests.{count_of-append}
use Rattle.qolb_model.proofs.Agreeing.{among_first}
use Rattle.qolb_model.specs.Releasing.{IsTold}
use Rattle.qolb_model.specs.Sums.{KnowsOwnPlaces, HasNotShut}
use Rattle.line_accounts.specs.Desks.{IsAtRest}
use Rattle.qolb_model.proofs.OwnTurns.{places_same, places_asked, beyond_own, unshut_kept}
use Rattle.line_board.specs.declared.answer.Put.{Put}
use Rattle.line_board.specs.declared.answer.Put.TheVariants as put
use Rattle.line_board.specs.declared.answer.Take.{Take}
use Rattle.line_board.specs.declared.answer.Take.TheVariants as take
use Rattle.line_board.specs.Law.{Changes}
use Rattle.line_board.specs.declared.board.TheConstants.{MAX_TASKS}
use Rattle.line_board.specs.Board.{Stand}
use Rattle.qolb_model.specs.Acquiring.{IsUnserved}
use Rattle.line_board.specs.Calls.{HadTurn, Puts, Takes}
use Rattle.line_board.proofs.Boards.{laid-stand}
use Rattle.line_board.proofs.Steps.{standing-stand}
use Rattle.qolb_work.specs.BoardWork.{Turn, turn_between, node_turns, turns_of, HasTurns, HasStored, FoundFull, HasTakenOne, FoundNone}
use Rattle.qolb_work.proofs.Turns.{node_turns-append, node_turns-same, node_turns-gone, turns_kept}

bytes-gone : (bytes : List ℕ) (n : ℕ) → bytes_after bytes (replicate n Gone) ≡ bytes
bytes-gone bytes zero = refl
bytes-gone bytes (suc n) = bytes-gone bytes n

served_stays : (e : End) → is_served e ≡ true → is_gone e ≡ true → ⊥
served_stays (Served write shut) a b = let no : false ≡ true = b in cc no
served_stays Gone a b = let no : false ≡ true = a in cc no
served_stays Told a b = let no : false ≡ true = a in cc no

shut_of : End → Bool
shut_of (Served write shut) = shut
shut_of Gone = false
shut_of Told = false

none_served : (n q : ℕ) (write : Write) (shut : Bool) → slice_get (replicate n Gone) q ≡ Some (Served write shut) → ⊥
none_served zero q write shut at = let no : None ≡ Some (Served write shut) = at in cc no
none_served (suc n) zero write shut at = let no : true ≡ false = ap is_gone (same_some at) in cc no
none_served (suc n) (suc q) write shut at = none_served n q write shut at

-- If a list is a prefix of another, the first p elements of both lists are the same.
take_prefix : {X : Type 0} (xs ys : List X) (p : ℕ) → IsPrefix xs ys → p ≤ length xs → take p ys ≡ take p xs
take_prefix xs ys p (more, is) le = ap (take p) (sym is) ∙ take-append-le p xs more le

take-whole : (ends : List End) → take (length ends) ends ≡ ends
take-whole [] = refl
take-whole (e ∷ ends) = ap (λ es. e ∷ es) (take-whole ends)

-- a port that makes calls to a board
module _ (old new : View) (rest : IsAtRest old) (past : KnowsOwnHistory old) (c : Continues Changes old new) where
  knows : Knows c.history.config c.history.order c.history.ends c.history.clear new
  knows = c.history.known new (among_first new [])

  -- A request of the node that comes after all requests that the old view knew has a larger number.
  later : (p : ℕ) (r : Request) → length old.order ≤ p → slice_get new.order p ≡ Some r → r.node ≡ new.node → old.count < r.number
  later p r le at same =
      let h = c.history in
      let at_h : slice_get h.order p ≡ Some r = prefix_get new.order h.order p r knows.order_begins at in
      let within = slice_get_within h.order p r at_h in
      let long : length (take p h.order) ≡ p = length-take-le p h.order (omega arith) in
      let part : IsPrefix (take p h.order) h.order = (drop p h.order, take-append-drop p h.order) in
      let whole : IsPrefix old.order h.order = prefix_trans old.order new.order h.order c.extends.order knows.order_begins in
      let known = prefix_shorter old.order (take p h.order) h.order whole part (omega (arith, long, le)) in
      let least = sym (ap (count_of new.node) known.1) ∙ count_of-append new.node old.order known.0 in
      let first : count_of new.node old.order ≡ old.count = ap (λ n. count_of n old.order) c.extends.node ∙ rest.places in
      let number : r.number ≡ count_of new.node (take p h.order) + 1 = h.legal.numbered p r at_h ∙ ap (λ n. count_of n (take p h.order) + 1) same in
      omega (arith, least, first, number)

  -- a call in which none of its requests was served
  pub works_not : may_ask new.state ≡ true → KnowsOwnPlaces new → IsUnserved old new → HasTurns old new []
  works_not quiet places unserved = record {
    node = c.extends.node;
    at_rest = record { quiet = quiet; places = places };
    turns = turns_kept old new c.extends c.history rest past (λ p r e le at_r at_e same. unserved p r e at_r same (later p r le at_r same) at_e) ∙ sym (append-nil (turns_of old));
    unshut = unshut_kept old new c.extends c.history rest.quiet past (λ p r e le at_r at_e same. unserved p r e at_r same (later p r le at_r same) at_e);
  }

  -- a call in which the port had a turn
  module _ (asks : Asks old new) (before : List End) (write : Write) (shut : Bool) (passed : ℕ) (ends : new.ends ≡ before ++ Served write shut ∷ replicate passed Gone) (at_turn : slice_get new.order (length before) ≡ Some (own new)) where
    abbrev tail : List End
    tail = Served write shut ∷ replicate passed Gone

    one_place : (p q : ℕ) → slice_get new.order p ≡ Some (own new) → slice_get new.order q ≡ Some (own new) → p ≡ q
    one_place p q at_p at_q =
        let h = c.history in
        same_place_legal h.config.lease h.order h.ends h.legal p q (own new) (prefix_get new.order h.order p (own new) knows.order_begins at_p) (prefix_get new.order h.order q (own new) knows.order_begins at_q)

    far : length old.order ≤ length before
    far = let same = one_place asks.behind.0 (length before) asks.behind.2 at_turn in let le = asks.behind.1 in omega (arith, same, le)

    abbrev turns : List Request → List End → List Turn
    turns order all = node_turns new.node new.config.opening.bytes order all

    -- The port's turns among the requests that it already knew have not changed.
    known_turns : turns old.order new.ends ≡ turns old.order old.ends
    known_turns = node_turns-same new.node new.config.opening.bytes old.order old.order old.ends new.ends (prefix_self old.order) c.extends.ends (λ p r e at_r at_e same served. (
      slice_get_within old.order p r at_r,
      elim (past p r at_r (same ∙ c.extends.node)) [
        | inl lt ↦ lt
        | inr (inl marked) ↦
            let gone = knows.own_marks p r e (prefix_get new.order c.history.order p r knows.order_begins (prefix_get old.order new.order p r c.extends.order at_r)) (prefix_get new.ends c.history.ends p e knows.ends_begin at_e) same in
            absurd (served_stays e served (sym gone ∙ c.extends.marked r marked))
        | inr (inr last) ↦ absurd (never rest.quiet last.1)
      ],
    ))

    first_turns : turns old.order new.ends ≡ turns old.order before
    first_turns = node_turns-same new.node new.config.opening.bytes old.order old.order before new.ends (prefix_self old.order) (tail, sym ends) (λ p r e at_r at_e same served.
        let within = slice_get_within old.order p r at_r in (within, omega (arith, within, far)))

    -- Between the old view and the turn of this call, the port had no other turn.
    earlier_turns : turns new.order before ≡ turns old.order before
    earlier_turns = node_turns-same new.node new.config.opening.bytes old.order new.order before before c.extends.order (prefix_self before) (λ p r e at_r at_e same served.
        let within = slice_get_within before p e at_e in (
          elim (cases_lt p (length old.order)) [
            | inl lt ↦ lt
            | inr ge ↦
                let is = beyond_own old new c.extends c.history asks rest.places p r ge at_r same in
                let place = one_place p (length before) (at_r ∙ ap Some is) at_turn in
                absurd (omega (arith, place, within))
          ],
          within,
        ))

    abbrev found : List ℕ
    found = bytes_after new.config.opening.bytes before

    abbrev behind : List Request
    behind = drop (length before + 1) new.order

    left_bytes : written (bytes_after new.config.opening.bytes before) write ≡ bytes_of new
    left_bytes =
        sym (bytes-gone (written (bytes_after new.config.opening.bytes before) write) passed)
        ∙ (sym (bytes_after-append new.config.opening.bytes before tail)
        ∙ ap (bytes_after new.config.opening.bytes) (sym ends))

    last_turn : node_turns new.node (bytes_after new.config.opening.bytes before) (drop (length before) new.order) tail ≡ turn_between (bytes_after new.config.opening.bytes before) (bytes_of new) ∷ []
    last_turn =
        ap (λ o. node_turns new.node found o tail) (drop_with new.order (length before) (own new) at_turn)
        ∙ (ap (λ b. (if b then turn_between found (written found write) ∷ [] else []) ++ node_turns new.node (written found write) behind (replicate passed Gone)) (eq-eqb new.node new.node refl)
        ∙ (ap (λ ts. turn_between found (written found write) ∷ ts) (node_turns-gone new.node (written found write) behind passed)
        ∙ ap (λ bytes. turn_between found bytes ∷ []) left_bytes))

    pub one_turn : turns_of new ≡ turns_of old ++ turn_between (bytes_after new.config.opening.bytes before) (bytes_of new) ∷ []
    one_turn =
        ap (turns new.order) ends
        ∙ (node_turns-append new.node new.config.opening.bytes new.order before tail
        ∙ (ap (λ ts. ts ++ node_turns new.node (bytes_after new.config.opening.bytes before) (drop (length before) new.order) tail) (earlier_turns ∙ (sym first_turns ∙ (known_turns ∙ was)))
        ∙ ap (λ ts. turns_of old ++ ts) last_turn))
      where
        was : turns old.order old.ends ≡ turns_of old
        was = ap (λ n. node_turns n new.config.opening.bytes old.order old.ends) c.extends.node ∙ ap (λ t. node_turns old.node t.opening.bytes old.order old.ends) c.extends.config

    -- If the port had not shut the line before the call, it has not shut the line after the call.
    unshut_turn : shut ≡ is_last_turn new.config.lease before → HasNotShut old → HasNotShut new
    unfolding shut_of
    unshut_turn own_shut unshut p r w s at_r same at_e =
        elim (at_either before (Served write shut ∷ replicate passed Gone) p (Served w s) (ap (λ l. slice_get l p) (sym ends) ∙ at_e)) [
          | inl there ↦
              let within = slice_get_within before p (Served w s) there in
              let lt : p < length old.order = elim (cases_lt p (length old.order)) [
                | inl lt ↦ lt
                | inr ge ↦
                    let is = beyond_own old new c.extends c.history asks rest.places p r ge at_r same in
                    let place = one_place p (length before) (at_r ∙ ap Some is) at_turn in
                    absurd (omega (arith, place, within))
              ] in
              let (x, at_x) = element_at old.order p lt in
              let is : x ≡ r = same_some (sym (prefix_get old.order new.order p x c.extends.order at_x) ∙ at_r) in
              let own_x : x.node ≡ old.node = ap (λ (y : Request). y.node) is ∙ (same ∙ c.extends.node) in
              let lt_ends : p < length old.ends = elim (past p x at_x own_x) [
                | inl lt_ends ↦ lt_ends
                | inr (inl marked) ↦
                    let gone = knows.own_marks p r (Served w s) (prefix_get new.order c.history.order p r knows.order_begins at_r) (prefix_get new.ends c.history.ends p (Served w s) knows.ends_begin at_e) same in
                    absurd (served_stays (Served w s) refl (sym gone ∙ c.extends.marked r (subst (λ (y : Request). Has old.marked y) is marked)))
                | inr (inr last) ↦ absurd (never rest.quiet last.1)
              ] in
              let (e, at_old) = element_at old.ends p lt_ends in
              let is_e : e ≡ Served w s = same_some (sym (prefix_get old.ends new.ends p e c.extends.ends at_old) ∙ at_e) in
              unshut p x w s at_x own_x (at_old ∙ ap Some is_e)
              ∙ (ap (λ (t : LineConfig). is_last_turn t.lease (take p old.ends)) (sym c.extends.config)
              ∙ ap (is_last_turn new.config.lease) (sym (take_prefix old.ends new.ends p c.extends.ends (omega (arith, lt_ends)))))
          | inr (zero, is_p, at_last) ↦
              let e : p ≡ length before = omega (arith, is_p) in
              let is : Served write shut ≡ Served w s = same_some at_last in
              sym (ap shut_of is)
              ∙ (own_shut
              ∙ ap (is_last_turn new.config.lease) (sym (ap (λ n. take n new.ends) e ∙ (take_prefix before new.ends (length before) (tail, sym ends) (omega arith) ∙ take-whole before))))
          | inr (suc q, is_p, at_gone) ↦ absurd (none_served passed q w s at_gone)
        ]

  -- the turn of a call, with the tasks that it found and the tasks that it left
  works_turn : {found left puts takes : List ℕ} → Asks old new → may_ask new.state ≡ true → HadTurn found left puts takes new → HasTurns old new (record { found = found; left = left } ∷ [])
  works_turn {found} {left} asks quiet t = record {
    node = c.extends.node;
    at_rest = record { quiet = quiet; places = places_asked old new c.extends c.history asks rest.places };
    turns = one_turn asks t.before t.write (closes new.config.lease t.before false) t.passed t.ends t.at_turn
        ∙ ap (λ (turn : Turn). turns_of old ++ turn ∷ []) (λ i. record { found = standing-stand (bytes_after new.config.opening.bytes t.before) found t.found_there i; left = standing-stand (bytes_of new) left t.left_there i });
    unshut = unshut_turn asks t.before t.write (closes new.config.lease t.before false) t.passed t.ends t.at_turn refl;
  }

  not_busy : IsBusy old new → KnowsOwnPlaces new
  not_busy b = places_same old new c.extends c.history b.count rest.places

-- A board holds at most `MAX_TASKS` tasks.
few_stand : (bytes tasks : List ℕ) → Stand bytes tasks → length tasks ≤ MAX_TASKS
few_stand bytes tasks stand = (laid-stand bytes tasks stand).few

-- the turn of a put, for each answer
module _ (old new : View) (task : ℕ) (answer : Put) (rest : IsAtRest old) (past : KnowsOwnHistory old) (p : Puts task old new answer) where
  put_stored : answer ≡ put.Stored → (turn : Turn) × HasTurns old new (turn ∷ []) × HasStored task turn
  put_stored is =
      let has = p.stored is in (
        record { found = has.found; left = has.found ++ task ∷ [] },
        works_turn old new rest past p.continues (p.asks (λ e. let no : put.Stored ≡ put.Busy = sym is ∙ e in cc no)) p.may_ask has.turn,
        record {
          room = let few = few_stand (bytes_of new) (has.found ++ task ∷ []) has.turn.left_there in let more = length-append has.found (task ∷ []) in omega (arith, few, more);
          left = refl;
        },
      )

  put_full : answer ≡ put.Full → (turn : Turn) × HasTurns old new (turn ∷ []) × FoundFull turn
  put_full is =
      let f = p.full is in (
        record { found = f.tasks; left = f.tasks },
        works_turn old new rest past p.continues (p.asks (λ e. let no : put.Full ≡ put.Busy = sym is ∙ e in cc no)) p.may_ask f.turn,
        record { full = f.counted; left = refl },
      )

  put_again : (answer ≡ put.Late) ⊎ (answer ≡ put.Busy) → HasTurns old new []
  put_again (inl is) =
      works_not old new rest past p.continues p.may_ask (places_asked old new p.continues.extends p.continues.history (p.asks (λ e. let no : put.Late ≡ put.Busy = sym is ∙ e in cc no)) rest.places)
      (p.unserved (λ e. let no : put.Late ≡ put.Stored = sym is ∙ e in cc no) (λ e. let no : put.Late ≡ put.Full = sym is ∙ e in cc no))
  put_again (inr is) =
      works_not old new rest past p.continues p.may_ask (not_busy old new rest past p.continues (p.busy is))
      (p.unserved (λ e. let no : put.Busy ≡ put.Stored = sym is ∙ e in cc no) (λ e. let no : put.Busy ≡ put.Full = sym is ∙ e in cc no))

  put_told : answer ≡ put.Closed → HasTurns old new [] × IsTold new
  put_told is = (
    works_not old new rest past p.continues p.may_ask (places_asked old new p.continues.extends p.continues.history (p.asks (λ e. let no : put.Closed ≡ put.Busy = sym is ∙ e in cc no)) rest.places)
        (p.unserved (λ e. let no : put.Closed ≡ put.Stored = sym is ∙ e in cc no) (λ e. let no : put.Closed ≡ put.Full = sym is ∙ e in cc no)),
    p.told is,
  )

-- the turn of a take, for each answer
module _ (old new : View) (answer : Take) (rest : IsAtRest old) (past : KnowsOwnHistory old) (t : Takes old new answer) where
  took_task : (task : ℕ) → answer ≡ take.Task task → (turn : Turn) × HasTurns old new (turn ∷ []) × HasTakenOne turn
  took_task task is =
      let has = t.task task is in (
        record { found = task ∷ has.left; left = has.left },
        works_turn old new rest past t.continues (t.asks (λ e. let no : take.Task task ≡ take.Busy = sym is ∙ e in cc no)) t.may_ask has.turn,
        record { task = task; found = refl; few = few_stand (bytes_after new.config.opening.bytes has.turn.before) (task ∷ has.left) has.turn.found_there },
      )

  took_none : answer ≡ take.Empty → (turn : Turn) × HasTurns old new (turn ∷ []) × FoundNone turn
  took_none is =
      let f = t.empty is in (
        record { found = f.tasks; left = f.tasks },
        works_turn old new rest past t.continues (t.asks (λ e. let no : take.Empty ≡ take.Busy = sym is ∙ e in cc no)) t.may_ask f.turn,
        record { found = nothing f.tasks f.counted; left = nothing f.tasks f.counted },
      )
    where
      nothing : (xs : List ℕ) → length xs ≡ 0 → xs ≡ []
      nothing [] e = refl
      nothing (x ∷ xs) e = absurd (omega (arith, e))

  take_again : (answer ≡ take.Late) ⊎ (answer ≡ take.Busy) → HasTurns old new []
  take_again (inl is) =
      works_not old new rest past t.continues t.may_ask (places_asked old new t.continues.extends t.continues.history (t.asks (λ e. let no : take.Late ≡ take.Busy = sym is ∙ e in cc no)) rest.places)
      (t.unserved (λ task e. let no : take.Late ≡ take.Task task = sym is ∙ e in cc no) (λ e. let no : take.Late ≡ take.Empty = sym is ∙ e in cc no))
  take_again (inr is) =
      works_not old new rest past t.continues t.may_ask (not_busy old new rest past t.continues (t.busy is))
      (t.unserved (λ task e. let no : take.Busy ≡ take.Task task = sym is ∙ e in cc no) (λ e. let no : take.Busy ≡ take.Empty = sym is ∙ e in cc no))

  take_told : answer ≡ take.Closed → HasTurns old new [] × IsTold new
  take_told is = (
    works_not old new rest past t.continues t.may_ask (places_asked old new t.continues.extends t.continues.history (t.asks (λ e. let no : take.Closed ≡ take.Busy = sym is ∙ e in cc no)) rest.places)
        (t.unserved (λ task e. let no : take.Closed ≡ take.Task task = sym is ∙ e in cc no) (λ e. let no : take.Closed ≡ take.Empty = sym is ∙ e in cc no)),
    t.told is,
  )

-- several calls one after another, of which only the last had turns
pub turns_on : (old mid new : View) (more : List Turn) → HasTurns old mid [] → HasTurns mid new more → HasTurns old new more
turns_on old mid new more w v = record { node = v.node ∙ w.node; at_rest = v.at_rest; turns = v.turns ∙ ap (λ ts. ts ++ more) (w.turns ∙ append-nil (turns_of old)); unshut = λ unshut. v.unshut (w.unshut unshut) }

-- a put after earlier attempts in which the port had no turn
module _ (u v w : View) (task : ℕ) (so : HasTurns u v []) (past : KnowsOwnHistory v) (answer : Put) (p : Puts task v w answer) where
  pub then_stored : answer ≡ put.Stored → (turn : Turn) × HasTurns u w (turn ∷ []) × HasStored task turn
  then_stored is = let (turn, had, has) = put_stored v w task answer so.at_rest past p is in (turn, turns_on u v w (turn ∷ []) so had, has)

  pub then_full : answer ≡ put.Full → (turn : Turn) × HasTurns u w (turn ∷ []) × FoundFull turn
  then_full is = let (turn, had, has) = put_full v w task answer so.at_rest past p is in (turn, turns_on u v w (turn ∷ []) so had, has)

  pub then_put_again : (answer ≡ put.Late) ⊎ (answer ≡ put.Busy) → HasTurns u w []
  then_put_again is = turns_on u v w [] so (put_again v w task answer so.at_rest past p is)

  pub then_put_told : answer ≡ put.Closed → HasTurns u w [] × IsTold w
  then_put_told is = let (had, told) = put_told v w task answer so.at_rest past p is in (turns_on u v w [] so had, told)

-- a take after earlier attempts in which the port had no turn
module _ (u v w : View) (so : HasTurns u v []) (past : KnowsOwnHistory v) (answer : Take) (t : Takes v w answer) where
  pub then_taken : (task : ℕ) → answer ≡ take.Task task → (turn : Turn) × HasTurns u w (turn ∷ []) × HasTakenOne turn
  then_taken task is = let (turn, had, has) = took_task v w answer so.at_rest past t task is in (turn, turns_on u v w (turn ∷ []) so had, has)

  pub then_none : answer ≡ take.Empty → (turn : Turn) × HasTurns u w (turn ∷ []) × FoundNone turn
  then_none is = let (turn, had, has) = took_none v w answer so.at_rest past t is in (turn, turns_on u v w (turn ∷ []) so had, has)

  pub then_take_again : (answer ≡ take.Late) ⊎ (answer ≡ take.Busy) → HasTurns u w []
  then_take_again is = turns_on u v w [] so (take_again v w answer so.at_rest past t is)

  pub then_take_told : answer ≡ take.Closed → HasTurns u w [] × IsTold w
  then_take_told is = let (had, told) = take_told v w answer so.at_rest past t is in (turns_on u v w [] so had, told)
