-- Proof about the atomic step with which a release grants the next node's entry. Either this node then gets the line,
-- or the release skips the node's withdrawn request.
use Rattle.std.proofs.Common.{◌≡◌, ◌⊎◌, ℕ, ◌+◌, ◌%◌, ◌^◌, ◌<◌, ◌≤◌, Option, List, [], ◌∷◌, ◌++◌, length, map, set, slice_index, true, false, sym, refl, ap, ◌∙◌, subst, inl, inr, arith, length-set, get_or-set_same}
use mathlib.Core.Option.{some, none}
use lib.ListN.{get_elem?}
use Rattle.std.proofs.lemmas.Bool.{cases_Bool}
use Rattle.std.proofs.lemmas.List.{length-map, map-append}
use Rattle.atomic_table.specs.Table.{step, Act, keeps, gives, Valid, stepped, carried_after, Allows}
use Rattle.atomic_table.proofs.Lists.{set_here}
use Rattle.qolb_model.specs.declared.request.Request.{Request}
use Rattle.qolb_model.specs.declared.end.End.{End}
use Rattle.qolb_model.specs.declared.config.TheConstants.{MAX_NODES}
use Rattle.qolb_model.specs.PortStates.{state_after}
use Rattle.qolb_model.specs.Queue.{Queue}
use Rattle.qolb_model.specs.Requests.{Has, last_of}
use Rattle.qolb_model.proofs.Lists.{push_cases, never}
use Rattle.link_core.specs.declared.point.Point.{Point}
use Rattle.link_core.specs.declared.point.Point.TheVariants.{Linking, Queued, Holding, Leaving, Granting, Freeing}
use Rattle.link_core.specs.declared.place.Place.TheVariants.{Home, Mailbox, Hand}
use Rattle.link_core.specs.declared.seat.ReleaseCause.{ReleaseCause}
use Rattle.link_core.specs.declared.seat.ReleaseCause.TheVariants.{Own, Closing, Refused}
use Rattle.link_core.specs.declared.seat.NodeCall.{NodeCall}
use Rattle.link_core.specs.declared.entry.Entry.{Entry}
use Rattle.link_core.specs.declared.state.State.{State as Core}
use Rattle.link_core.specs.State.{unused, entry, seat, point, IsNode, IsWide}
use Rattle.link_core.specs.Steps.{Step, Names, seat_at_close, point_at_end, turns_after, left_after}
use Rattle.link_core.specs.Steps as row
use Rattle.link_core.specs.Places.{request, requester_at, IsLast}
use Rattle.link_core.specs.Shown.{has_line}
use Rattle.qolb_model.specs.declared.config.LineConfig.{LineConfig}
use Rattle.link_core.proofs.Found.{found, unset}
use Rattle.link_core.proofs.Orders.{get_request, last_is}
use Rattle.link_core.proofs.Short.{short}
use Rattle.link_core.proofs.Steady.{after_is}
use Rattle.link_line.specs.Ghost.{LinkGhost}
use Rattle.line_generic.specs.declared.table.Payload.{Payload}
use Rattle.line_generic.specs.declared.table.TableKey.{TableKey}
use Rattle.link_line.specs.declared.layout.TheConstants.{GRANTED}
use Rattle.link_line.specs.Layout.{entry_at, pack, is_rolled}
use Rattle.link_line.specs.Links.{At, History, NodeInv, PassedInv, Represents, InSlot, Homes, is_leaving, is_shut_by, state_of, state_in_release}
use Rattle.link_line.specs.Steps.{SeatContents, granted, Ended, IsHandedOver}
use Rattle.link_line.proofs.Going.{on, wide}
use Rattle.link_line.specs.Laws.Histories.{at_point}
use Rattle.link_line.specs.Laws.PortModel.{names_joined}
use Rattle.link_line.proofs.Packed.{rolled_is, add_granted}
use Rattle.link_line.specs.Laws.Nodes.{St, Rule, mine_ok, is_node}
use Rattle.link_line.proofs.Laying.{entry_laid}
use Rattle.link_line.proofs.Others.{others_of}
use Rattle.link_line.proofs.Turning.{goes_step, grows_none, joins_all, Owes, turned}
use Rattle.link_line.proofs.Releasing.{Holds, holds_so, after, view_after, kept, counts, ended, longer, out_turned, goes_out, end_quiet, with_line, line_is}

-- one more passed request is one of these
not_none : {A : Type 0} (ps : List ℕ) (m : ℕ) → ps ++ m ∷ [] ≡ [] → A
not_none [] m e = let z : m ∷ [] ≡ [] = e in cc z
not_none (p ∷ ps) m e = let z : p ∷ (ps ++ m ∷ []) ≡ [] = e in cc z

left_more : (l : Option ℕ) (r : ReleaseCause) (ps : List ℕ) (m : ℕ) → left_after l r (ps ++ m ∷ []) ≡ l
left_more l Own [] m = refl
left_more l Closing [] m = refl
left_more l Refused [] m = refl
left_more l Own (p ∷ ps) m = refl
left_more l Closing (p ∷ ps) m = refl
left_more l Refused (p ∷ ps) m = refl

state_more : (r : ReleaseCause) (ps : List ℕ) (m : ℕ) → state_in_release r (ps ++ m ∷ []) ≡ state_after (is_shut_by r)
state_more r [] m = refl
state_more r (p ∷ ps) m = refl

-- one more request is passed
module _ (x y : History) (v w : LinkGhost) (m : ℕ) (old : PassedInv x.queue.order v) (order : y.queue.order ≡ x.queue.order) (passed : w.own.passed ≡ v.own.passed ++ length y.queue.ends ∷ []) (its : requester_at y.queue.order (length y.queue.ends) ≡ m) (turn : IsLast y.queue.order (requester_at y.queue.order (length y.queue.ends)) (length y.queue.ends)) where
  last : (i p : ℕ) → At w.own.passed i p → IsLast y.queue.order (requester_at y.queue.order p) p
  last i p a = elim (push_cases v.own.passed (length y.queue.ends) i p (subst (λ (ps : List ℕ). At ps i p) passed a)) [
    | inl was ↦ subst (λ (o : List Request). IsLast o (requester_at o p) p) (sym order) (old.last i p was.1)
    | inr new ↦ subst (λ (q : ℕ). IsLast y.queue.order (requester_at y.queue.order q) q) (sym new.1) turn
  ]

  within : length v.view.ends ≤ length y.queue.ends → (i p : ℕ) → At w.own.passed i p → p ≤ length y.queue.ends
  within l i p a = elim (push_cases v.own.passed (length y.queue.ends) i p (subst (λ (ps : List ℕ). At ps i p) passed a)) [
    | inl was ↦ let k = old.within i p was.1 in omega arith
    | inr new ↦ let k = new.1 in omega arith
  ]

  pub passing_more : w.own.seat.passed ≡ v.own.seat.passed ++ m ∷ [] → w.own.seat.point ≡ Leaving m → w.view.order ≡ y.queue.order → w.view.ends ≡ y.queue.ends → length v.view.ends ≤ length y.queue.ends → PassedInv y.queue.order w
  passing_more more point knows ends l = record {
    places = more ∙ (λ i. old.places i ++ m ∷ []) ∙ (λ i. map (requester_at (sym order i)) v.own.passed ++ sym its i ∷ []) ∙ sym (map-append (requester_at y.queue.order) v.own.passed (length y.queue.ends ∷ [])) ∙ ap (map (requester_at y.queue.order)) (sym passed);
    last = last;
    known = λ i p a. subst (λ (o : List Request). p < length o) (sym knows) (last i p a).known;
    within = λ i p a. subst (λ (es : List End). p ≤ length es) (sym ends) (within l i p a);
    ended = λ f. let z : Leaving m ≡ Freeing = sym point ∙ f in cc;
  }

module _ (good : List ℕ → Type 0) (allows : List ℕ → List ℕ → Type 0) (key : TableKey) (v : LinkGhost) (m : ℕ) (granting : v.own.seat.point ≡ Granting m) where
  abbrev n : ℕ
  n = v.view.node

  abbrev z : Payload
  z = v.own.line

  module _ (me slots : ℕ) (s : St good allows key) (r : Rule good allows key s) (at : get_elem? s.views me ≡ some (v ∷ [])) (small : slice_index s.words (entry_at m) < 18446744073709551616) where
    ok : NodeInv key r.history n v
    ok = mine_ok good allows key s r me v at

    node : IsNode r.history.core n
    node = is_node good allows key s r me v at

    here : point r.history.core n ≡ Granting m
    here = at_point allows key r.history r.history_inv n v node ok ∙ granting

    h : Holds good allows key r.history v z r.history
    h = holds_so good allows key s r me v at (ap is_leaving granting)

    inside : IsWide r.history.core
    inside = wide allows key r.may_open.nodes.few r.history r.history_inv

    few : r.history.core.nodes ≤ MAX_NODES
    few = subst (λ (n : ℕ). n ≤ MAX_NODES) (sym r.history_inv.shown.matches.size) r.may_open.nodes.few

    next_node : IsNode r.history.core m
    next_node = subst (Names r.history.core) here ((found r.history_inv.shown).names n node)

    next : (length r.history.queue.ends + 1 < length r.history.queue.order) × (requester_at r.history.queue.order (length r.history.queue.ends + 1) ≡ m)
    next = (found r.history_inv.shown).grant n m node here

    own_seat : (st : NodeCall) → seat (record r.history.core { seats = set r.history.core.seats n st }) n ≡ st
    own_seat st = get_or-set_same r.history.core.seats n st unused (let w = inside.seats in let a = node.1 in omega arith)

    abbrev with_grant : Entry
    with_grant = record (entry r.history.core m) { granted = true }

    abbrev word : ℕ
    word = (slice_index s.words (entry_at m) + GRANTED) % 2 ^ 64

    found_word : slice_index s.words (entry_at m) ≡ pack (entry r.history.core m)
    found_word = r.represents.entries m next_node

    rolled_as : is_rolled (slice_index s.words (entry_at m)) ≡ (entry r.history.core m).rolled
    rolled_as = ap is_rolled found_word ∙ rolled_is (entry r.history.core m)

    new_word : word ≡ pack with_grant
    new_word = ap (λ (k : ℕ). (k + GRANTED) % 2 ^ 64) found_word ∙ add_granted (entry r.history.core m) (subst (λ (k : ℕ). k < 18446744073709551616) found_word small) ((unset r.history_inv.shown).granted n m node here)

    laid : (d : Core) (homes : Homes) → d.nodes ≡ r.history.core.nodes → d.home ≡ r.history.core.home → d.entries ≡ set r.history.core.entries m with_grant → length homes ≡ 1 → InSlot d homes d.place → Represents d (set s.words (entry_at m) word) homes
    laid d homes a b c deep slot = entry_laid r.history.core d s.words s.homes homes m word with_grant r.represents next_node few (let w = inside.entries in let l = next_node.1 in omega arith) new_word a b c deep slot

    abbrev Goal : Type 0
    Goal = (w : List LinkGhost) × (a : Act Payload) × Valid s.homes (with_line z) a × Rule good allows key (stepped s (entry_at m) word me (with_line z) w a) × granted allows (step slots (entry_at m) GRANTED 0 none) (v ∷ [], with_line z) (slice_index s.words (entry_at m)) (w, carried_after (with_line z) a)

    grants : (entry r.history.core m).rolled ≡ false → Goal
    grants un =
        let k = row.grant n m node here un in
        let y : History = after good allows key s r me v at z r.history h k refl in
        let is = after_is (on allows key r.may_open.nodes.few r.history h.via.history_inv k) in
        let order = ap (λ (q : Queue). q.order) is in
        let ends = ap (λ (q : Queue). q.ends) is in
        let p : Point = point_at_end (seat r.history.core n).reason in
        let quiet = end_quiet (seat r.history.core n).reason in
        let own = own_seat (seat_at_close p (seat r.history.core n)) in
        let homes : Homes = set s.homes 0 (some z) in
        let behind : (Mailbox m ≡ Home) ⊎ (length y.queue.ends < length y.queue.order) = inr (let a = next.0 in let b = longer good allows key s r me v at z r.history h k refl order ends in let c = ap (λ (o : List Request). length o) order in omega arith) in
        let t = out_turned good allows key s r me v at z r.history h k refl order ends p quiet own behind (set s.words (entry_at m) word) homes
        (laid y.core homes refl refl refl (length-set s.homes 0 (some z) ∙ r.represents.deep) (record { line = z; at = set_here s.homes 0 (some z) (let d = r.represents.deep in omega arith); bytes = h.bytes; closed = h.closed; turns = h.turns })) in
        let w : LinkGhost = view_after good allows key s r me v at z r.history h k refl v.own.passed in
        let long = longer good allows key s r me v at z r.history h k refl order ends in
        let shows' = (on allows key r.may_open.nodes.few r.history h.via.history_inv k).shows in
        let more : length y.queue.ends < length y.queue.order = let a = next.0 in let b = ap (λ (o : List Request). length o) order in omega arith in
        let its : requester_at y.queue.order (length y.queue.ends) ≡ m = (λ i. requester_at (order i) (long i)) ∙ next.1 in
        let last : IsLast y.queue.order m (length y.queue.ends) = subst (λ (q : ℕ). IsLast y.queue.order q (length y.queue.ends)) its (shows'.matches.distinct (length y.queue.ends) (omega arith) more) in
        let its_joined : Has r.history.joined (request y.queue.order (length y.queue.ends)) = subst (Has r.history.joined) (ap (last_of m) (sym order) ∙ sym (last_is key.config.lease y.queue.order y.queue.ends m (length y.queue.ends) shows'.legal last)) (r.history_inv.waiting m next_node ((found r.history_inv.shown).grant_waits n m node here un)) in (
          w ∷ [],
          gives,
          tt,
          t.rule,
          (
            goes_step allows v w (with_line z) [] t.continues refl,
            (λ y' has. (
              subst (λ (q : Payload). Ended v w q) (line_is z y' has) (ended good allows key s r me v at z r.history h k refl order ends v.own.passed),
              (λ _. (
                refl,
                subst (λ (q : Payload). IsHandedOver v w q) (line_is z y' has) (goes_out good allows key s r me v at z r.history h k refl order ends p quiet own behind refl no_hand),
                (λ m' to. names_joined w.view (request y.queue.order (length y.queue.ends)) (get_request y.queue.order (length y.queue.ends) more) its_joined ∙ ap entry_at (its ∙ next_is m m' (sym granting ∙ to))),
              )),
              (λ f. absurd (never f (rolled_as ∙ un))),
            )),
          ),
        )
      where
        no_hand : (q : ℕ) → Mailbox m ≡ Hand q → ⊥
        no_hand q f = cc

        next_is : (a b : ℕ) → Granting a ≡ Granting b → a ≡ b
        next_is a b e = cc

    passes : (entry r.history.core m).rolled ≡ true → Goal
    passes ro =
        let k = row.grant_rolled n m node here ro in
        let y : History = after good allows key s r me v at z r.history h k refl in
        let step' = on allows key r.may_open.nodes.few r.history h.via.history_inv k in
        let is = after_is step' in
        let order = ap (λ (q : Queue). q.order) is in
        let ends = ap (λ (q : Queue). q.ends) is in
        let st : NodeCall = record { point = Leaving m; passed = (seat r.history.core n).passed ++ m ∷ []; reason = (seat r.history.core n).reason } in
        let own = own_seat st in
        let long = longer good allows key s r me v at z r.history h k refl order ends in
        let passed : List ℕ = v.own.passed ++ length y.queue.ends ∷ [] in
        let w : LinkGhost = view_after good allows key s r me v at z r.history h k refl passed in
        let more : length y.queue.ends < length y.queue.order = let a = next.0 in let b = ap (λ (o : List Request). length o) order in omega arith in
        let its : requester_at y.queue.order (length y.queue.ends) ≡ m = (λ i. requester_at (order i) (long i)) ∙ next.1 in
        let passing' : PassedInv y.queue.order w = passing_more r.history y v w m ok.passes order refl its (step'.shows.matches.distinct (length y.queue.ends) (omega arith) more)
        (ap (λ (s : NodeCall). s.passed) own ∙ ap (λ (ps : List ℕ). ps ++ m ∷ []) h.passed) (ap (λ (s : NodeCall). s.point) own) refl refl (let a = ap (λ (es : List End). length es) h.ends in omega arith) in
        let owes : Owes good allows key y v v.view.count r.history.joined passed z = record {
          kept = kept good allows key s r me v at z r.history h k refl order ends;
          lawful = λ a. not_none (seat r.history.core n).passed m (ap (λ (s : NodeCall). s.passed) (sym own) ∙ a.passed);
          unjoined = λ q e. unlinked q (ap (λ (s : NodeCall). s.point) (sym own) ∙ e);
          waiting = λ e. unqueued (ap (λ (s : NodeCall). s.point) (sym own) ∙ e);
          counts = counts good allows key s r me v at z r.history h k refl order;
          joins = joins_all key r.history y v ok refl;
          unwritten = λ e. unheld (ap (λ (s : NodeCall). s.point) (sym own) ∙ e);
          carries = λ _. record {
            bytes = h.bytes;
            closed = h.closed;
            turns = h.turns ∙ sym (left_more (turns_after n r.history.core) (seat r.history.core n).reason (seat r.history.core n).passed m) ∙ ap (λ (s : NodeCall). left_after (turns_after n r.history.core) s.reason s.passed) (sym own);
            mask = λ a. not_none (seat r.history.core n).passed m (ap (λ (s : NodeCall). s.passed) (sym own) ∙ a.passed);
            shut = h.shut ∙ ap (λ (s : NodeCall). is_shut_by s.reason) (sym own);
          };
          left = λ e. unfreeing (ap (λ (s : NodeCall). s.point) (sym own) ∙ e);
          passes = passing';
        } in
        let t = turned good allows key s r me v at r.history h.via k refl r.history.joined r.history.early r.history.late (grows_none r.history y n refl refl refl) v.view.count r.history.joined passed z owes (set s.words (entry_at m) word) s.homes
        (laid y.core s.homes refl refl refl r.represents.deep (subst (InSlot y.core s.homes) (sym ((found r.history_inv.shown).hand n node (ap has_line here))) tt)) in
        let fewer : length passed + 1 ≤ key.config.nodes = let a = (short step'.shows.matches).passed n (node.0, subst (λ (q : ℕ). n ≤ q) (sym step'.spared.nodes) node.1) in
        let b : length (seat y.core n).passed ≡ length passed = ap (λ (ps : List ℕ). length ps) passing'.places ∙ length-map passed (requester_at y.queue.order) in
        let c = step'.shows.matches.size in omega arith in (
          w ∷ [],
          keeps,
          tt,
          t.rule,
          (
            goes_step allows v w (with_line z) (with_line z) t.continues refl,
            (λ y' has. (
              subst (λ (q : Payload). Ended v w q) (line_is z y' has) (ended good allows key s r me v at z r.history h k refl order ends passed),
              (λ f. absurd (never (rolled_as ∙ ro) f)),
              (λ _. (
                refl,
                (λ m' to. record {
                  point = ap (λ (s : NodeCall). s.point) own ∙ ap Leaving (next_is m m' (sym granting ∙ to));
                  state = ap state_of own ∙ state_more (seat r.history.core n).reason (seat r.history.core n).passed m ∙ ap state_after (sym h.shut);
                  passed = refl;
                  line_is = refl;
                  request = request y.queue.order (length y.queue.ends);
                  at = get_request y.queue.order (length y.queue.ends) more;
                  node = its ∙ next_is m m' (sym granting ∙ to);
                  others = others_of step'.shows.matches n (node.0, subst (λ (q : ℕ). n ≤ q) (sym step'.spared.nodes) node.1) passed passing'.places;
                  few = subst (λ (q : ℕ). length passed + 1 ≤ q) (ap (λ (q : LineConfig). q.nodes) (sym ok.who.config)) fewer;
                }),
              )),
            )),
          ),
        )
      where
        unlinked : {A : Type 0} (q : ℕ) → Leaving m ≡ Linking q → A
        unlinked q e = cc

        unqueued : {A : Type 0} → Leaving m ≡ Queued → A
        unqueued e = cc

        unfreeing : {A : Type 0} → Leaving m ≡ Freeing → A
        unfreeing e = cc

        unheld : {A : Type 0} → Leaving m ≡ Holding → A
        unheld e = cc

        next_is : (a b : ℕ) → Granting a ≡ Granting b → a ≡ b
        next_is a b e = cc

  pub grants_next : (me slots i : ℕ) (m' : SeatContents) → m' ≡ (v ∷ [], with_line v.own.line) → i ≡ entry_at m → Allows (Rule good allows key) slots me m' i (λ k. (k + GRANTED) % 2 ^ 64) (granted allows (step slots i GRANTED 0 none) m')
  grants_next me slots i m' is word = subst (λ (z : ℕ × SeatContents). Allows (Rule good allows key) slots me z.1 z.0 (λ k. (k + GRANTED) % 2 ^ 64) (granted allows (step slots z.0 GRANTED 0 none) z.1)) (λ j. (sym word j, sym is j))
      (λ s r deep at small. elim (cases_Bool (entry r.history.core m).rolled) [ inl ro ↦ passes me slots s r at small ro | inr un ↦ grants me slots s r at small un ])
