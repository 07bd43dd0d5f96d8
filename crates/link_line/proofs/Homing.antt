-- Proof about the atomic step with which a release tries to set the home word to 0, after which no node has the line.
-- The attempt succeeds if the home word names the node whose entry the release has reached.
use Rattle.std.proofs.Common.{◌≡◌, ◌≢◌, ℕ, ◌+◌, ◌<◌, ◌≤◌, List, [], ◌∷◌, length, set, slice_index, true, false, sym, refl, ap, ◌∙◌, subst, inl, inr, arith, eqb, length-set, get_or-set_same}
use mathlib.Core.Option.{some, none}
use mathlib.Core.Logic.{dite}
use native.Mathlib.Decide.{ℕ_discrete}
use lib.ListN.{get_elem?}
use prog.Atomic.{either as taken}
use Rattle.std.proofs.lemmas.Bool.{cases_Bool}
use Rattle.std.specs.Int.Bits.{or_zero_l}
use Rattle.atomic_table.specs.Table.{step, Act, keeps, gives, Valid, stepped, carried_after, Allows}
use Rattle.atomic_table.proofs.Lists.{set_here, exchanged}
use Rattle.line_lanes.specs.Line.{merged}
use Rattle.line_lanes.specs.declared.line.Line64.{Line64}
use Rattle.line_lanes.specs.declared.line.Mask.{Mask}
use Rattle.line_lanes.proofs.Masked.{merged-none}
use Rattle.qolb_model.specs.declared.config.LineConfig.{LineConfig}
use Rattle.qolb_model.specs.declared.answer.PortState.TheVariants as port_state
use Rattle.qolb_model.specs.Ends.{bytes_after}
use Rattle.qolb_model.specs.Kept.{AreAllowed}
use Rattle.qolb_model.specs.Leases.{is_last_turn, turns_left}
use Rattle.qolb_model.specs.Queue.{Queue}
use Rattle.qolb_model.specs.Steps.{is_one, decrement}
use Rattle.qolb_model.specs.Views.{bytes_of}
use Rattle.qolb_model.proofs.Agreed.{length-bytes_after}
use Rattle.qolb_model.proofs.Leases.{last-is_one}
use Rattle.qolb_model.proofs.Lists.{never}
use Rattle.link_core.specs.declared.point.Point.{Point}
use Rattle.link_core.specs.declared.point.Point.TheVariants.{Linking, Queued, Holding, Leaving, Marking}
use Rattle.link_core.specs.declared.place.Place.TheVariants.{Home, Hand}
use Rattle.link_core.specs.declared.seat.ReleaseCause.{ReleaseCause}
use Rattle.link_core.specs.declared.seat.ReleaseCause.TheVariants.{Own, Closing}
use Rattle.link_core.specs.declared.seat.NodeCall.{NodeCall}
use Rattle.link_core.specs.declared.state.State.{State as Core}
use Rattle.link_core.specs.State.{unused, seat, point, IsNode, IsWide}
use Rattle.link_core.specs.Steps.{Step, Releases, holding, leaving, either, seat_at_close, point_at_end, left_after, turns_after}
use Rattle.link_core.specs.Steps as row
use Rattle.link_core.specs.Shown.{has_line, IsCarried}
use Rattle.link_core.proofs.Found.{found}
use Rattle.link_core.proofs.Steady.{after_is, after_made}
use Rattle.link_line.specs.Ghost.{LinkGhost, mask_of}
use Rattle.line_generic.specs.declared.table.Payload.{Payload}
use Rattle.line_generic.specs.declared.table.TableKey.{TableKey}
use Rattle.link_line.specs.Layout.{home_at}
use Rattle.link_line.specs.Links.{History, NodeInv, HistoryInv, Represents, InSlot, Homes, is_leaving, is_shut_by, state_at, state_in_release}
use Rattle.link_line.specs.Steps.{SeatContents, homed, Ended, IsHandedOver, KeepsPayload, TurnIsOver, MayHandOff}
use Rattle.link_line.proofs.Going.{SetsGrow, next, on, wide, fine_next, others_next}
use Rattle.link_line.specs.Laws.Histories.{at_point}
use Rattle.link_line.specs.Laws.PortModel.{names_nobody}
use Rattle.link_line.specs.Laws.Nodes.{St, Rule, mine_ok, is_node}
use Rattle.link_line.proofs.Laying.{home_laid}
use Rattle.link_line.proofs.Turning.{goes_step, grows_none}
use Rattle.link_line.proofs.Releasing.{Holds, holds_so, after, view_after, node, few_passed, ended, out_turned, goes_out, stays_turned, carries_on, end_quiet, turn_none, with_line, line_is}

module _ (good : List ℕ → Type 0) (allows : List ℕ → List ℕ → Type 0) (key : TableKey) (v : LinkGhost) (z : Payload) (e : ℕ) where
  abbrev n : ℕ
  n = v.view.node

  -- the core goes on from a history that differs from the invariant's by what was done in the hand
  module _ (me slots : ℕ) (s : St good allows key) (r : Rule good allows key s) (at : get_elem? s.views me ≡ some (v ∷ [])) (x : History) (h : Holds good allows key r.history v z x) (rel : Releases x.core n e) where
    ok : NodeInv key r.history n v
    ok = mine_ok good allows key s r me v at

    its : IsNode x.core n
    its = node good allows key s r me v at z x h

    inside : IsWide x.core
    inside = wide allows key r.may_open.nodes.few x h.via.history_inv

    own_seat : (st : NodeCall) → seat (record x.core { seats = set x.core.seats n st }) n ≡ st
    own_seat st = get_or-set_same x.core.seats n st unused (let w = inside.seats in let a = its.1 in omega arith)

    abbrev GoalAt : ℕ → Type 0
    GoalAt new = (w : List LinkGhost) × (a : Act Payload) × Valid s.homes (with_line z) a × Rule good allows key (stepped s home_at new me (with_line z) w a) × homed allows (step slots home_at e 0 none) (v ∷ [], with_line z) (slice_index s.words home_at) (w, carried_after (with_line z) a)

    laid : (d : Core) (homes : Homes) (w : ℕ) → d.nodes ≡ x.core.nodes → d.entries ≡ x.core.entries → w ≡ d.home → length homes ≡ 1 → InSlot d homes d.place → Represents d (set s.words home_at w) homes
    laid d homes w a b c deep slot = home_laid r.history.core d s.words s.homes homes w r.represents c (a ∙ h.via.nodes) (b ∙ h.entries) deep slot

    goes : slice_index s.words home_at ≡ e → GoalAt 0
    goes f =
        let k = row.home n e its rel (h.home ∙ sym r.represents.home ∙ f) in
        let y : History = after good allows key s r me v at z x h k refl in
        let is = after_is (on allows key r.may_open.nodes.few x h.via.history_inv k) in
        let order = ap (λ (q : Queue). q.order) is in
        let ends = ap (λ (q : Queue). q.ends) is in
        let p : Point = point_at_end (seat x.core n).reason in
        let quiet = end_quiet (seat x.core n).reason in
        let own = own_seat (seat_at_close p (seat x.core n)) in
        let homes : Homes = set s.homes 0 (some z) in
        let t = out_turned good allows key s r me v at z x h k refl order ends p quiet own (inl refl) (set s.words home_at 0) homes
        (laid y.core homes 0 refl refl refl (length-set s.homes 0 (some z) ∙ r.represents.deep) (record { line = z; at = set_here s.homes 0 (some z) (let d = r.represents.deep in omega arith); bytes = h.bytes; closed = h.closed; turns = h.turns })) in
        let w : LinkGhost = view_after good allows key s r me v at z x h k refl v.own.passed in (
          w ∷ [],
          gives,
          tt,
          t.rule,
          (
            goes_step allows v w (with_line z) [] t.continues refl,
            (λ y' has. (
              (λ _. (
                refl,
                subst (λ (q : Payload). Ended v w q) (line_is z y' has) (ended good allows key s r me v at z x h k refl order ends v.own.passed),
                subst (λ (q : Payload). IsHandedOver v w q) (line_is z y' has) (goes_out good allows key s r me v at z x h k refl order ends p quiet own (inl refl) refl no_hand),
                names_nobody w.view (turn_none (on allows key r.may_open.nodes.few x h.via.history_inv k).shows refl),
              )),
              (λ ne. absurd (ne f)),
            )),
          ),
        )
      where
        no_hand : (q : ℕ) → Home ≡ Hand q → ⊥
        no_hand q f = cc

    one_left : x.core.home ≢ e → length v.own.passed + 2 ≤ key.config.nodes
    one_left ne = dite (ℕ_discrete (length v.own.passed + 1) key.config.nodes)
        (λ all. absurd (ne ((few_passed good allows key s r me v at z x h).1 all ∙ ((found h.via.history_inv.shown).releases n e its rel).1)))
        (λ less. let l = (few_passed good allows key s r me v at z x h).0 in omega arith)

    fails : slice_index s.words home_at ≢ e → GoalAt (slice_index s.words home_at)
    fails f =
        let other : x.core.home ≢ e = λ g. f (r.represents.home ∙ sym h.home ∙ g) in
        let k = row.home_failed n e its rel other in
        let y : History = after good allows key s r me v at z x h k refl in
        let is = after_is (on allows key r.may_open.nodes.few x h.via.history_inv k) in
        let order = ap (λ (q : Queue). q.order) is in
        let ends = ap (λ (q : Queue). q.ends) is in
        let own = own_seat (record (seat x.core n) { point = Marking e }) in
        let t = stays_turned good allows key s r me v at z x h k refl order ends (Marking e) refl own refl refl refl refl (set s.words home_at (slice_index s.words home_at)) s.homes
        (laid y.core s.homes (slice_index s.words home_at) refl refl (r.represents.home ∙ sym h.home) r.represents.deep (subst (InSlot y.core s.homes) (sym ((found h.via.history_inv.shown).hand n its h.lined)) tt)) in
        let w : LinkGhost = view_after good allows key s r me v at z x h k refl v.own.passed in
        let c = carries_on good allows key s r me v at z x h k refl order ends (Marking e) refl own refl refl refl refl in (
          w ∷ [],
          keeps,
          tt,
          t.rule,
          (
            goes_step allows v w (with_line z) (with_line z) t.continues refl,
            (λ y' has. (
              (λ g. absurd (f g)),
              (λ _. (refl, subst (λ (q : Payload). KeepsPayload v w q (Marking e)) (line_is z y' has) c, subst (λ (t : LineConfig). length v.own.passed + 2 ≤ t.nodes) (sym ok.who.config) (one_left other))),
            )),
          ),
        )

    pub homes_by : GoalAt (taken (eqb (slice_index s.words home_at) e) 0 (slice_index s.words home_at))
    homes_by = exchanged (slice_index s.words home_at) e 0 GoalAt goes fails

-- a holder's turn is over: its write, and perhaps its closing of the line, enter the core with this step
module _ (good : List ℕ → Type 0) (allows : List ℕ → List ℕ → Type 0) (key : TableKey) (v : LinkGhost) (z : Payload) (hold : v.own.seat.point ≡ Holding) (over : TurnIsOver allows v z) where
  module _ (me : ℕ) (s : St good allows key) (r : Rule good allows key s) (at : get_elem? s.views me ≡ some (v ∷ [])) where
    mine : NodeInv key r.history v.view.node v
    mine = mine_ok good allows key s r me v at

    its_node : IsNode r.history.core v.view.node
    its_node = is_node good allows key s r me v at

    here : point r.history.core v.view.node ≡ Holding
    here = at_point allows key r.history r.history_inv v.view.node v its_node mine ∙ hold

    sat : ((seat r.history.core v.view.node).reason ≡ Own) × ((seat r.history.core v.view.node).passed ≡ [])
    sat = (found r.history_inv.shown).holds v.view.node its_node here

    ends_same : v.view.ends ≡ r.history.queue.ends
    ends_same = mine.stands.holds (ap has_line hold)

    is_at_turn : bytes_of v.view ≡ bytes_after key.config.opening.bytes r.history.queue.ends
    is_at_turn = λ i. bytes_after (mine.who.config i).opening.bytes (ends_same i)

    held : (r.history.core.closed ≡ false) × (r.history.core.bytes.bytes ≡ bytes_after key.config.opening.bytes r.history.queue.ends)
    held =
        let k = subst (λ (w : ReleaseCause × List ℕ). IsCarried key.config r.history.core r.history.queue.order r.history.queue.ends v.view.node w.0 w.1) (λ i. (sat.0 i, sat.1 i)) ((found r.history_inv.shown).carried v.view.node its_node (ap has_line here)) in
        (k.0, sym k.2 ∙ ap (λ (m : Mask). merged (bytes_after key.config.opening.bytes r.history.queue.ends) r.history.core.bytes.bytes m.0) (mine.stands.unwritten hold) ∙ merged-none (bytes_after key.config.opening.bytes r.history.queue.ends) r.history.core.bytes.bytes (length-bytes_after key.config.opening.bytes r.history.queue.ends r.history_inv.shown.matches.opened))

    -- the write of the turn, as one event
    abbrev written : History
    written = next allows key r.may_open.nodes.few r.history r.history_inv (row.write v.view.node (mask_of z) z.bytes its_node here) r.history.joined r.history.early r.history.late

    written_queue : written.queue ≡ r.history.queue
    written_queue = after_made (on allows key r.may_open.nodes.few r.history r.history_inv (row.write v.view.node (mask_of z) z.bytes its_node here)) refl

    written_mask : mask_of z ≡ written.core.mask
    written_mask = (λ i. record { 0 = sym (or_zero_l z.mask.bits) i }) ∙ ap (λ (m : Mask). either m (mask_of z)) (sym (mine.stands.unwritten hold))

    written_bytes : z.bytes ≡ written.core.bytes
    written_bytes = λ i. record { bytes = (sym over.bytes ∙ ap (λ (b : List ℕ). merged b z.bytes.bytes z.mask.bits) (is_at_turn ∙ sym held.1)) i }

    written_may : allows (bytes_after key.config.opening.bytes written.queue.ends) written.core.bytes.bytes
    written_may = subst (λ (w : List ℕ × Line64). allows w.0 w.1.bytes) (λ i. ((is_at_turn ∙ ap (λ (q : Queue). bytes_after key.config.opening.bytes q.ends) (sym written_queue)) i, written_bytes i)) over.allowed

    unleaving : {A : Type 0} (p : Point) → p ≡ Holding → is_leaving p ≡ true → A
    unleaving p e l = let a : is_leaving Holding ≡ true = sym (ap is_leaving e) ∙ l in cc

    unlinking : {A : Type 0} (p : Point) (q : ℕ) → p ≡ Holding → p ≡ Linking q → A
    unlinking p q e l = let a : Holding ≡ Linking q = sym e ∙ l in cc

    unlinked : {A : Type 0} (p : Point) (q m : ℕ) → p ≡ Leaving m → p ≡ Linking q → A
    unlinked p q m e l = let a : Leaving m ≡ Linking q = sym e ∙ l in cc

    written_grows : SetsGrow r.history written v.view.node
    written_grows = grows_none r.history written v.view.node refl refl refl

    written_fine : HistoryInv allows key written
    written_fine = fine_next allows key r.may_open.nodes.few r.history r.history_inv (row.write v.view.node (mask_of z) z.bytes its_node here) r.history.joined r.history.early r.history.late written_grows
        (subst (λ (q : Queue). AreAllowed allows key.config.opening.bytes q.ends) (sym written_queue) r.history_inv.kept)
        (λ m. unleaving (point r.history.core v.view.node) here m.leaves)
        (λ q l. unlinking (point r.history.core v.view.node) q here l)
        (λ l. let a : Holding ≡ Queued = sym here ∙ l in cc)

    written_others : (n : ℕ) (u : LinkGhost) → 0 < n → n ≤ key.config.nodes → n ≢ v.view.node → NodeInv key r.history n u → NodeInv key written n u
    written_others n u a b ne ok = others_next allows key r.may_open.nodes.few r.history r.history_inv (row.write v.view.node (mask_of z) z.bytes its_node here) r.history.joined r.history.early r.history.late written_grows written_fine n u (a, subst (λ (q : ℕ). n ≤ q) (sym r.history_inv.shown.matches.size) b) ne ok

    turns_over : z.turns_left ≡ decrement r.history.core.left
    turns_over = over.turns ∙ ap decrement ((λ i. turns_left (mine.who.config i).lease (ends_same i)) ∙ sym r.history_inv.shown.matches.turns)

    state_is : v.view.state ≡ port_state.Holding
    state_is = mine.stands.state ∙ ap (λ (p : Point). state_at p v.own.seat.reason v.own.seat.passed) hold

    passed_is : (seat r.history.core v.view.node).passed ≡ v.own.seat.passed
    passed_is = ap (λ (s : NodeCall). s.passed) (sym mine.stands.seat)

    -- an open line is released as it is written
    holds_open : z.closed ≡ false → Holds good allows key r.history v z written
    holds_open open' = record {
      via = record { history_inv = written_fine; queue = written_queue; joined = refl; early = refl; late = refl; nodes = refl; others = written_others };
      home = refl;
      entries = refl;
      lined = ap has_line here;
      passed = passed_is;
      state = state_is ∙ ap (state_in_release (seat r.history.core v.view.node).reason) (sym sat.1);
      ends = ends_same ∙ ap (λ (q : Queue). q.ends) (sym written_queue);
      bytes = written_bytes;
      closed = open' ∙ sym held.0;
      turns = turns_over ∙ (λ i. left_after r.history.core.left (sym sat.0 i) (sym sat.1 i));
      mask = λ _ _. written_mask;
      shut = open' ∙ ap is_shut_by (sym sat.0);
      may = λ _ _. written_may;
    }

    releases_open : z.closed ≡ false → Releases written.core v.view.node v.view.node
    releases_open open' = holding here refl (elim (cases_Bool (is_last_turn v.view.config.lease v.view.ends)) [
      | inl last ↦ absurd (never (over.last last) open')
      | inr early ↦ ap is_one (r.history_inv.shown.matches.turns ∙ (λ i. turns_left (sym mine.who.config i).lease (sym ends_same i))) ∙ last-is_one v.view.config.lease v.view.ends ∙ early
    ])

    -- a line that is closed by this turn is closed in a second event
    abbrev shut_past : History
    shut_past = next allows key r.may_open.nodes.few written written_fine (row.close v.view.node its_node here) r.history.joined r.history.early r.history.late

    shut_queue : shut_past.queue ≡ written.queue
    shut_queue = after_made (on allows key r.may_open.nodes.few written written_fine (row.close v.view.node its_node here)) refl

    shut_seat : seat shut_past.core v.view.node ≡ record { point = Leaving v.view.node; passed = []; reason = Closing }
    shut_seat = get_or-set_same r.history.core.seats v.view.node (record (seat r.history.core v.view.node) { point = Leaving v.view.node; reason = Closing }) unused (let w = (wide allows key r.may_open.nodes.few r.history r.history_inv).seats in let a = its_node.1 in omega arith)
        ∙ (λ i. record { point = Leaving v.view.node; passed = sat.1 i; reason = Closing })

    shut_may : allows (bytes_after key.config.opening.bytes shut_past.queue.ends) shut_past.core.bytes.bytes
    shut_may = subst (λ (q : Queue). allows (bytes_after key.config.opening.bytes q.ends) written.core.bytes.bytes) (sym shut_queue) written_may

    shut_grows : SetsGrow written shut_past v.view.node
    shut_grows = grows_none written shut_past v.view.node refl refl refl

    shut_fine : HistoryInv allows key shut_past
    shut_fine = fine_next allows key r.may_open.nodes.few written written_fine (row.close v.view.node its_node here) r.history.joined r.history.early r.history.late shut_grows
        (subst (λ (q : Queue). AreAllowed allows key.config.opening.bytes q.ends) (sym shut_queue) written_fine.kept)
        (λ _. shut_may)
        (λ q l. unlinked (point shut_past.core v.view.node) q v.view.node (ap (λ (s : NodeCall). s.point) shut_seat) l)
        (λ l. let a : Leaving v.view.node ≡ Queued = sym (ap (λ (s : NodeCall). s.point) shut_seat) ∙ l in cc)

    holds_shut : z.closed ≡ true → Holds good allows key r.history v z shut_past
    holds_shut closed = record {
      via = record {
        history_inv = shut_fine;
        queue = shut_queue ∙ written_queue;
        joined = refl;
        early = refl;
        late = refl;
        nodes = refl;
        others = λ n u a b ne ok. others_next allows key r.may_open.nodes.few written written_fine (row.close v.view.node its_node here) r.history.joined r.history.early r.history.late shut_grows shut_fine n u (a, subst (λ (q : ℕ). n ≤ q) (sym r.history_inv.shown.matches.size) b) ne (written_others n u a b ne ok);
      };
      home = refl;
      entries = refl;
      lined = ap (λ (s : NodeCall). has_line s.point) shut_seat;
      passed = ap (λ (s : NodeCall). s.passed) shut_seat ∙ sym sat.1 ∙ passed_is;
      state = state_is ∙ ap (λ (s : NodeCall). state_in_release s.reason s.passed) (sym shut_seat);
      ends = ends_same ∙ ap (λ (q : Queue). q.ends) (sym (shut_queue ∙ written_queue));
      bytes = written_bytes;
      closed = closed;
      turns = turns_over ∙ ap (λ (s : NodeCall). left_after r.history.core.left s.reason s.passed) (sym shut_seat);
      mask = λ _ _. written_mask;
      shut = closed ∙ ap (λ (s : NodeCall). is_shut_by s.reason) (sym shut_seat);
      may = λ _ _. shut_may;
    }

    releases_shut : Releases shut_past.core v.view.node v.view.node
    releases_shut = leaving (ap (λ (s : NodeCall). s.point) shut_seat)

  module _ (me slots : ℕ) (s : St good allows key) (r : Rule good allows key s) (at : get_elem? s.views me ≡ some (v ∷ [])) where
    abbrev Goes : Type 0
    Goes = (w : List LinkGhost) × (a : Act Payload) × Valid s.homes (with_line z) a × Rule good allows key (stepped s home_at (taken (eqb (slice_index s.words home_at) v.view.node) 0 (slice_index s.words home_at)) me (with_line z) w a) × homed allows (step slots home_at v.view.node 0 none) (v ∷ [], with_line z) (slice_index s.words home_at) (w, carried_after (with_line z) a)

    pub starts : Goes
    starts = elim (cases_Bool z.closed) [
      | inl closed ↦ homes_by good allows key v z v.view.node me slots s r at (shut_past me s r at) (holds_shut me s r at closed) (releases_shut me s r at)
      | inr open' ↦ homes_by good allows key v z v.view.node me slots s r at (written me s r at) (holds_open me s r at open') (releases_open me s r at open')
    ]

module _ (good : List ℕ → Type 0) (allows : List ℕ → List ℕ → Type 0) (key : TableKey) (v : LinkGhost) (z : Payload) (e : ℕ) where
  begins : (v.own.seat.point ≡ Holding) × (e ≡ v.view.node) × TurnIsOver allows v z → (me slots : ℕ) → Allows (Rule good allows key) slots me (v ∷ [], with_line z) home_at (λ k. taken (eqb k e) 0 k) (homed allows (step slots home_at e 0 none) (v ∷ [], with_line z))
  begins (hold, own, over) me slots = subst (λ (e : ℕ). Allows (Rule good allows key) slots me (v ∷ [], with_line z) home_at (λ k. taken (eqb k e) 0 k) (homed allows (step slots home_at e 0 none) (v ∷ [], with_line z))) (sym own)
      (λ s r deep at small. starts good allows key v z hold over me slots s r at)

  continues_home : (v.own.seat.point ≡ Leaving e) × (z ≡ v.own.line) → (me slots : ℕ) → Allows (Rule good allows key) slots me (v ∷ [], with_line z) home_at (λ k. taken (eqb k e) 0 k) (homed allows (step slots home_at e 0 none) (v ∷ [], with_line z))
  continues_home (lv, same) me slots s r deep at small =
      let here = at_point allows key r.history r.history_inv v.view.node v (is_node good allows key s r me v at) (mine_ok good allows key s r me v at) ∙ lv in
      homes_by good allows key v z e me slots s r at r.history (subst (λ (q : Payload). Holds good allows key r.history v q r.history) (sym same) (holds_so good allows key s r me v at (ap is_leaving lv))) (leaving here)

  pub homes_next : MayHandOff allows v z e → (me slots : ℕ) (m : SeatContents) → m ≡ (v ∷ [], with_line z) → Allows (Rule good allows key) slots me m home_at (λ k. taken (eqb k e) 0 k) (homed allows (step slots home_at e 0 none) m)
  homes_next may me slots m is = subst (λ (m : SeatContents). Allows (Rule good allows key) slots me m home_at (λ k. taken (eqb k e) 0 k) (homed allows (step slots home_at e 0 none) m)) (sym is) (elim may [ inl b ↦ begins b me slots | inr c ↦ continues_home c me slots ])
