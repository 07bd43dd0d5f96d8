-- Proof about the atomic step with which a release sets the flag done in the entry that it has reached. If a node is
-- already linked to this entry, the release continues with that node. Otherwise, the release leaves the line for a node
-- that links later.
use Rattle.std.proofs.Common.{◌≡◌, ◌≢◌, ◌⊎◌, ℕ, ◌+◌, ◌%◌, ◌^◌, ◌<◌, ◌≤◌, List, [], ◌∷◌, ◌++◌, length, map, set, slice_index, true, sym, refl, ap, ◌∙◌, subst, inl, inr, arith, length-set, get_or-set_same}
use mathlib.Core.Option.{some, none}
use mathlib.Core.Logic.{dite}
use native.Mathlib.Decide.{ℕ_discrete}
use lib.ListN.{get_elem?}
use Rattle.atomic_table.specs.Table.{step, Act, keeps, gives, Valid, stepped, carried_after, Allows}
use Rattle.atomic_table.proofs.Lists.{set_here}
use Rattle.qolb_model.specs.declared.config.TheConstants.{MAX_NODES}
use Rattle.qolb_model.specs.declared.config.LineConfig.{LineConfig}
use Rattle.qolb_model.specs.declared.request.Request.{Request}
use Rattle.qolb_model.specs.Queue.{Queue}
use Rattle.link_core.specs.declared.point.Point.{Point}
use Rattle.link_core.specs.declared.point.Point.TheVariants.{Linking, Marking, Granting, Left, Rolled}
use Rattle.link_core.specs.declared.place.Place.TheVariants.{Home, Mailbox, Hand}
use Rattle.link_core.specs.declared.seat.NodeCall.{NodeCall}
use Rattle.link_core.specs.declared.entry.Entry.{Entry}
use Rattle.link_core.specs.declared.state.State.{State as Core}
use Rattle.link_core.specs.declared.told.Told.{Told as Answer}
use Rattle.link_core.specs.declared.event.Event.TheVariants as event
use Rattle.link_core.specs.State.{unused, entry, seat, point, IsNode, IsWide, last_or, put_seat, put_entry, current}
use Rattle.link_core.specs.Steps.{Step, Names, seat_at_close, point_at_end, turns_after}
use Rattle.link_core.specs.Steps as row
use Rattle.link_core.specs.Moves.{end_by}
use Rattle.link_core.specs.Places.{requester_at}
use Rattle.link_core.proofs.Follows.{current_cases}
use Rattle.link_core.proofs.Found.{found, unset}
use Rattle.link_core.proofs.Steady.{after_is}
use Rattle.link_line.specs.Ghost.{LinkGhost}
use Rattle.line_generic.specs.declared.table.Payload.{Payload}
use Rattle.line_generic.specs.declared.table.TableKey.{TableKey}
use Rattle.link_line.specs.declared.layout.TheConstants.{DONE}
use Rattle.link_line.specs.Layout.{entry_at, pack, link_of}
use Rattle.link_line.specs.Links.{History, NodeInv, Represents, InSlot, Homes, is_leaving}
use Rattle.link_line.specs.Steps.{SeatContents, marked, KeepsPayload, Ended, IsLeftForLinker}
use Rattle.link_line.proofs.Going.{on, wide}
use Rattle.link_line.specs.Laws.Histories.{at_point}
use Rattle.link_line.proofs.Packed.{link_is, add_done}
use Rattle.link_line.specs.Laws.Nodes.{St, Rule, mine_ok, is_node}
use Rattle.link_line.proofs.Laying.{entry_laid, in_slot}
use Rattle.link_line.proofs.Turning.{goes_step}
use Rattle.link_line.proofs.Releasing.{Holds, holds_so, after, view_after, places, ended, longer, out_turned, is_left, stays_turned, carries_on, left_short, is_over, end_quiet, with_line, line_is}

module _ (good : List ℕ → Type 0) (allows : List ℕ → List ℕ → Type 0) (key : TableKey) (v : LinkGhost) (e : ℕ) (marking : v.own.seat.point ≡ Marking e) where
  abbrev n : ℕ
  n = v.view.node

  abbrev z : Payload
  z = v.own.line

  module _ (me slots : ℕ) (s : St good allows key) (r : Rule good allows key s) (at : get_elem? s.views me ≡ some (v ∷ [])) (small : slice_index s.words (entry_at e) < 18446744073709551616) where
    ok : NodeInv key r.history n v
    ok = mine_ok good allows key s r me v at

    node : IsNode r.history.core n
    node = is_node good allows key s r me v at

    here : point r.history.core n ≡ Marking e
    here = at_point allows key r.history r.history_inv n v node ok ∙ marking

    h : Holds good allows key r.history v z r.history
    h = holds_so good allows key s r me v at (ap is_leaving marking)

    abbrev wide' : IsWide r.history.core
    wide' = wide allows key r.may_open.nodes.few r.history h.via.history_inv

    inside : IsWide r.history.core
    inside = wide'

    few : r.history.core.nodes ≤ MAX_NODES
    few = subst (λ (n : ℕ). n ≤ MAX_NODES) (sym r.history_inv.shown.matches.size) r.may_open.nodes.few

    many : v.view.config.nodes ≡ r.history.core.nodes
    many = ap (λ (t : LineConfig). t.nodes) ok.who.config ∙ sym r.history_inv.shown.matches.size

    marked_node : IsNode r.history.core e
    marked_node = subst (Names r.history.core) here ((found r.history_inv.shown).names n node)

    own_seat : (st : NodeCall) → seat (record r.history.core { seats = set r.history.core.seats n st }) n ≡ st
    own_seat st = get_or-set_same r.history.core.seats n st unused (let w = inside.seats in let a = node.1 in omega arith)

    abbrev with_done : Entry
    with_done = record (entry r.history.core e) { done = true }

    abbrev word : ℕ
    word = (slice_index s.words (entry_at e) + DONE) % 2 ^ 64

    found_word : slice_index s.words (entry_at e) ≡ pack (entry r.history.core e)
    found_word = r.represents.entries e marked_node

    link_as : link_of (slice_index s.words (entry_at e)) ≡ (entry r.history.core e).link
    link_as = ap link_of found_word ∙ link_is (entry r.history.core e)

    new_word : word ≡ pack with_done
    new_word = ap (λ (k : ℕ). (k + DONE) % 2 ^ 64) found_word ∙ add_done (entry r.history.core e) (subst (λ (k : ℕ). k < 18446744073709551616) found_word small) ((unset r.history_inv.shown).done n e node here)

    laid : (d : Core) (homes : Homes) → d.nodes ≡ r.history.core.nodes → d.home ≡ r.history.core.home → d.entries ≡ set r.history.core.entries e with_done → length homes ≡ 1 → InSlot d homes d.place → Represents d (set s.words (entry_at e) word) homes
    laid d homes a b c deep slot = entry_laid r.history.core d s.words s.homes homes e word with_done r.represents marked_node few (let w = inside.entries in let l = marked_node.1 in omega arith) new_word a b c deep slot

    abbrev Goal : Type 0
    Goal = (w : List LinkGhost) × (a : Act Payload) × Valid s.homes (with_line z) a × Rule good allows key (stepped s (entry_at e) word me (with_line z) w a) × marked allows (step slots (entry_at e) DONE 0 none) (v ∷ [], with_line z) (slice_index s.words (entry_at e)) (w, carried_after (with_line z) a)

    advances : (entry r.history.core e).link ≢ 0 → Goal
    advances ne =
        let k = row.done_linked n e node here ne in
        let y : History = after good allows key s r me v at z r.history h k refl in
        let is = after_is (on allows key r.may_open.nodes.few r.history h.via.history_inv k) in
        let order = ap (λ (q : Queue). q.order) is in
        let ends = ap (λ (q : Queue). q.ends) is in
        let p : Point = Granting (entry r.history.core e).link in
        let own = own_seat (record (seat r.history.core n) { point = p }) in
        let t = stays_turned good allows key s r me v at z r.history h k refl order ends p refl own refl refl refl refl (set s.words (entry_at e) word) s.homes
        (laid y.core s.homes refl refl refl r.represents.deep (in_slot r.history.core y.core s.homes r.history.core.place refl refl refl r.represents.slot)) in
        let w : LinkGhost = view_after good allows key s r me v at z r.history h k refl v.own.passed in
        let c = carries_on good allows key s r me v at z r.history h k refl order ends p refl own refl refl refl refl in (
          w ∷ [],
          keeps,
          tt,
          t.rule,
          (
            goes_step allows v w (with_line z) (with_line z) t.continues refl,
            (λ y' has. (
              (λ none. absurd (ne (sym link_as ∙ none))),
              (λ _. (
                refl,
                subst (λ (q : Payload × ℕ). KeepsPayload v w q.0 (Granting q.1)) (λ i. (line_is z y' has i, sym link_as i)) c,
                let b = r.history_inv.shown.matches.settled.bounded e marked_node in let f = few in let l = link_as in let k = many in (omega arith, omega arith),
              )),
            )),
          ),
        )

    module _ (un : (entry r.history.core e).link ≡ 0) where
      abbrev left_core : Point → Core
      left_core p = put_seat n (seat_at_close p (seat r.history.core n)) (put_entry e with_done (record r.history.core { place = Mailbox e; left = turns_after n r.history.core }))

      leaves : (p : Point) → is_over p ≡ true → (v.own.passed ≡ [] → p ≡ Left) → {t : Answer} (k : Step r.history.core (event.Done n) t (left_core p))
          → (after good allows key s r me v at z r.history h k refl).queue.order ≡ r.history.queue.order → (after good allows key s r me v at z r.history h k refl).queue.ends ≡ r.history.queue.ends ++ end_by r.history.core (seat r.history.core n).reason (seat r.history.core n).passed ∷ [] → Goal
      leaves p quiet e' k order ends =
          let y : History = after good allows key s r me v at z r.history h k refl in
          let own = own_seat (seat_at_close p (seat r.history.core n)) in
          let homes : Homes = set s.homes 0 (some z) in
          let behind : (Mailbox e ≡ Home) ⊎ (length y.queue.ends < length y.queue.order) = inr (let a = ((found r.history_inv.shown).marks n e node here).1 in let b = longer good allows key s r me v at z r.history h k refl order ends in let c = ap (λ (o : List Request). length o) order in omega arith) in
          let t = out_turned good allows key s r me v at z r.history h k refl order ends p quiet own behind (set s.words (entry_at e) word) homes
          (laid y.core homes refl refl refl (length-set s.homes 0 (some z) ∙ r.represents.deep) (record { line = z; at = set_here s.homes 0 (some z) (let d = r.represents.deep in omega arith); bytes = h.bytes; closed = h.closed; turns = h.turns })) in
          let w : LinkGhost = view_after good allows key s r me v at z r.history h k refl v.own.passed in
          let late = (found r.history_inv.shown).late n e node here un in
          let others = (on allows key r.may_open.nodes.few r.history h.via.history_inv k).spared.seats (requester_at r.history.queue.order (length r.history.queue.ends + 1)) (λ i. let q : Linking e ≡ Marking e = sym late ∙ ap (point r.history.core) i ∙ here in cc) in
          let short = left_short good allows key s r me v at z r.history h here un y w t.history_inv (others, order, longer good allows key s r me v at z r.history h k refl order ends) refl refl (λ q j. j) in (
            w ∷ [],
            gives,
            tt,
            t.rule,
            (
              goes_step allows v w (with_line z) [] t.continues refl,
              (λ y' has. (
                (λ _. (
                  refl,
                  subst (λ (q : Payload). Ended v w q) (line_is z y' has) (ended good allows key s r me v at z r.history h k refl order ends v.own.passed),
                  subst (λ (q : Payload). IsLeftForLinker v w q) (line_is z y' has) (is_left good allows key s r me v at z r.history h k refl order ends p quiet own behind e' (λ m f. no_hand m f) short),
                )),
                (λ ne. absurd (ne (link_as ∙ un))),
              )),
            ),
          )
        where
          no_hand : (m : ℕ) → Mailbox e ≡ Hand m → ⊥
          no_hand m f = cc

      at_entry : current r.history.core n ≡ e
      at_entry = ((found r.history_inv.shown).marks n e node here).0

      not_own : point r.history.core (current r.history.core n) ≡ Rolled → e ≢ n
      not_own rolled same = let q : Rolled ≡ Marking e = sym rolled ∙ ap (point r.history.core) (at_entry ∙ same) ∙ here in cc

      some_passed : e ≢ n → v.own.passed ≡ [] → ⊥
      some_passed ne empty = ne (sym at_entry ∙ ap (last_or n) (places good allows key s r me v at z r.history h ∙ ap (map (requester_at r.history.queue.order)) empty))

      is_left_there : Goal
      is_left_there = elim (current_cases r.history_inv.shown.matches n node) [
        | inl own ↦ (
            let k = row.done_left n e node here un (sym at_entry ∙ own.1) in
            let is = after_is (on allows key r.may_open.nodes.few r.history h.via.history_inv k) in
            leaves Left refl (λ _. refl) k (ap (λ (q : Queue). q.order) is) (ap (λ (q : Queue). q.ends) is)
            )
        | inr passed ↦ (
            let ne = not_own passed.point in
            let k = row.done_rolled n e node here un ne in
            let is = after_is (on allows key r.may_open.nodes.few r.history h.via.history_inv k) in
            leaves (point_at_end (seat r.history.core n).reason) (end_quiet (seat r.history.core n).reason)
            (λ none. absurd (some_passed ne none))
            k (ap (λ (q : Queue). q.order) is) (ap (λ (q : Queue). q.ends) is)
            )
      ]

  pub marks_next : (me slots i : ℕ) (m : SeatContents) → m ≡ (v ∷ [], with_line v.own.line) → i ≡ entry_at e → Allows (Rule good allows key) slots me m i (λ k. (k + DONE) % 2 ^ 64) (marked allows (step slots i DONE 0 none) m)
  marks_next me slots i m is word = subst (λ (z : ℕ × SeatContents). Allows (Rule good allows key) slots me z.1 z.0 (λ k. (k + DONE) % 2 ^ 64) (marked allows (step slots z.0 DONE 0 none) z.1)) (λ j. (sym word j, sym is j))
      (λ s r deep at small. dite (ℕ_discrete (entry r.history.core e).link 0) (λ un. is_left_there me slots s r at small un) (λ ne. advances me slots s r at small ne))
