-- Proof that a shared line answers a command as a line with one owner does, if the node's port exchanges its knowledge
-- with all other ports before and after the command. A port is the handle through which one node uses a shared line.
use Rattle.std.proofs.Common.{◌≡◌, ℕ, ◌+◌, ◌<◌, Bool, true, false, if◌then◌else◌, List, [], ◌∷◌, ◌++◌, map, length, get_or, set, option_map, Some, slice_get, refl, sym, ap, ◌∙◌, subst}
use Rattle.std.proofs.lemmas.List.{map-set}
use Rattle.std.proofs.lemmas.Option.{slice_get-map}
use Rattle.qolb_model.specs.declared.answer.PortState.{PortState}
use Rattle.qolb_model.specs.declared.answer.PortState.TheVariants as port
use Rattle.qolb_model.specs.declared.view.View.{View}
use Rattle.qolb_model.specs.declared.write.Write.{Write}
use Rattle.qolb_model.specs.declared.config.LineConfig.{LineConfig}
use Rattle.qolb_model.specs.Opening.{AreNew, MayOpen}
use Rattle.qolb_model.specs.OneOwner.{OwnerState, opened, state_of, enq_answer, after_enq, poll_answer, after_poll, out_answer, after_out}
use Rattle.qolb_model.specs.PortStates.{may_ask}
use Rattle.qolb_model.specs.Whole.{ViewAndTurn, KnowsWhole, AreSynced, seen}
use Rattle.qolb_model.specs.Rounds.{MeetsOthers}
use Rattle.qolb_model.proofs.Leaving.{leaves_so}
use Rattle.qolb_model.proofs.Whole.{called, spreads}
use Rattle.qolb_model.proofs.Forced.{asked, polled, withdrew, released, wrote, met_whole, shows_bytes, opened_whole}
use Rattle.qolb_script.specs.declared.command.Command.{Command}
use Rattle.qolb_script.specs.declared.command.Command.TheVariants as command
use Rattle.qolb_script.specs.declared.reply_text.Said.{Said}
use Rattle.qolb_script.specs.declared.reply_text.Said.TheVariants as said
use Rattle.qolb_script.specs.Commands.{node_of}
use Rattle.qolb_script.specs.Reply.{is_allowed, is_queued, is_holding, answered, after_allowed, said_of, after_command}
use Rattle.line_blocking.specs.ViewAndTurn.{view_and_turn}
use Rattle.qolb_replay.specs.Calls.{Promises, Calls, AnswersByPort, all_allowed}
use Rattle.qolb_replay.proofs.Allowed.{queued_state, holding_state}
use Rattle.line_blocking.proofs.Rounds.{get_of}

-- a state and what the port sees of it allow the same commands
may_ask_seen : (x : PortState) → may_ask x ≡ may_ask (seen x)
may_ask_seen port.Idle = refl
may_ask_seen port.Linking = refl
may_ask_seen port.Queued = refl
may_ask_seen port.Holding = refl
may_ask_seen port.Left = refl
may_ask_seen port.Rolled = refl
may_ask_seen port.Shut = refl

queued_seen : (x : PortState) → is_queued x ≡ is_queued (seen x)
queued_seen port.Idle = refl
queued_seen port.Linking = refl
queued_seen port.Queued = refl
queued_seen port.Holding = refl
queued_seen port.Left = refl
queued_seen port.Rolled = refl
queued_seen port.Shut = refl

holding_seen : (x : PortState) → is_holding x ≡ is_holding (seen x)
holding_seen port.Idle = refl
holding_seen port.Linking = refl
holding_seen port.Queued = refl
holding_seen port.Holding = refl
holding_seen port.Left = refl
holding_seen port.Rolled = refl
holding_seen port.Shut = refl

allowed_seen : (x : PortState) (c : Command) → is_allowed x c ≡ is_allowed (seen x) c
allowed_seen x (command.Enq node line) = may_ask_seen x
allowed_seen x (command.Poll node line) = queued_seen x
allowed_seen x (command.Show node line) = holding_seen x
allowed_seen x (command.Deq node line) = holding_seen x
allowed_seen x (command.Out node line) = queued_seen x
allowed_seen x (command.Shut node line) = holding_seen x
allowed_seen x (command.Write node line mask bytes) = holding_seen x

-- a call, followed by a round of meets
module _ (s : OwnerState) (ports : List ViewAndTurn) (whole : AreSynced s ports) (place : ℕ) (u a : ViewAndTurn) (at : slice_get ports place ≡ Some u) (new : List ViewAndTurn) (round : MeetsOthers all_allowed place (set ports place a) new) where
  -- the call did not do anything
  unchanged : a ≡ u → AreSynced s new
  unchanged e = spreads all_allowed s place a (set ports place a) new (called s ports whole place u a at (ap (λ x. x.view.node) e)) round s (leaves_so (place + 1) s) whole.reached
      (subst (λ x. KnowsWhole s x) (sym e) (whole.knows place u at))

  -- the call executed an allowed command
  done : (c : Command) (what : Said) → place + 1 ≡ node_of c → is_allowed u.view.state c ≡ true → is_allowed (state_of s (place + 1)) c ≡ true → Promises c what u a → (what ≡ answered s c) × AreSynced (after_allowed s c) new
  done (command.Enq node line) what e may_u may (answer, is, h) =
      let r = asked all_allowed s ports whole place u a at h.continues.extends h.continues.history new round may_u may answer h.busy h.asks h.joined h.granted h.queued h.told in
      subst (λ m. (what ≡ said.Enq (enq_answer s m)) × AreSynced (after_enq s m) new) e (is ∙ ap said.Enq r.0, r.1)
  done (command.Poll node line) what e may_u may (answer, is, h) =
      let r = polled all_allowed s ports whole place u a at h.continues.extends h.continues.history new round (queued_state (state_of s (place + 1)) may) h.count answer h.granted h.waiting h.told in
      subst (λ m. (what ≡ said.Poll (poll_answer s m)) × AreSynced (after_poll (poll_answer s m) s) new) e (is ∙ ap said.Poll r.0, subst (λ p. AreSynced (after_poll p s) new) r.0 r.1)
  done (command.Show node line) what e may_u may (is, same) =
      (is ∙ ap (λ b. said.Bytes (record { bytes = b })) (shows_bytes s ports whole place u at (holding_state u.view.state may_u)), unchanged same)
  done (command.Deq node line) what e may_u may (is, h) =
      (is, released all_allowed s ports whole place u a at h.continues.extends h.continues.history new round (holding_state u.view.state may_u) (holding_state (state_of s (place + 1)) may) false h.ends_turn)
  done (command.Out node line) what e may_u may (answer, is, h) =
      let r = withdrew all_allowed s ports whole place u a at h.continues.extends h.continues.history new round (queued_state (state_of s (place + 1)) may) h.count answer h.granted h.withdrawn h.told in
      subst (λ m. (what ≡ said.Out (out_answer s m)) × AreSynced (after_out s m) new) e (is ∙ ap said.Out r.0, r.1)
  done (command.Shut node line) what e may_u may (is, h) =
      (is, released all_allowed s ports whole place u a at h.continues.extends h.continues.history new round (holding_state u.view.state may_u) (holding_state (state_of s (place + 1)) may) true h.ends_turn)
  done (command.Write node line mask bytes) what e may_u may (is, view, turn) =
      (is, wrote all_allowed s ports whole place u a at (holding_state (state_of s (place + 1)) may) (holding_state u.view.state may_u) mask.0 bytes.bytes view turn new round)

  pub forced : (c : Command) (what : Said) → place + 1 ≡ node_of c → Calls c what u a → (what ≡ said_of s c) × AreSynced (after_command s c) new
  forced c what e calls = by (is_allowed u.view.state c) refl
    where
      same : is_allowed u.view.state c ≡ is_allowed (state_of s (place + 1)) c
      same = allowed_seen u.view.state c ∙ (ap (λ x. is_allowed x c) ((whole.knows place u at).state ∙ ap (λ m. seen (state_of s m)) (whole.node place u at)) ∙ sym (allowed_seen (state_of s (place + 1)) c))

      test : (b : Bool) → is_allowed u.view.state c ≡ b → is_allowed (state_of s (node_of c)) c ≡ b
      test b h = ap (λ m. is_allowed (state_of s m) c) (sym e) ∙ (sym same ∙ h)

      by : (b : Bool) → is_allowed u.view.state c ≡ b → (what ≡ said_of s c) × AreSynced (after_command s c) new
      by true h =
          let d = done c what e h (sym same ∙ h) (calls.allowed h) in
          (d.0 ∙ sym (ap (λ b. if b then answered s c else said.Misuse) (test true h)), subst (λ b. AreSynced (if b then after_allowed s c else s) new) (sym (test true h)) d.1)
      by false h =
          let d = calls.refused h in
          (d.0 ∙ sym (ap (λ b. if b then answered s c else said.Misuse) (test false h)), subst (λ b. AreSynced (if b then after_allowed s c else s) new) (sym (test false h)) (unchanged d.1))

-- the same statement, with a round of meets before the call as well
pub answers_forced : (s : OwnerState) (old new : List ViewAndTurn) (c : Command) (what : Said) → AreSynced s old → AnswersByPort c what old new → (what ≡ said_of s c) × AreSynced (after_command s c) new
answers_forced s old new c what whole h =
    let at : slice_get old h.place ≡ Some h.before.port = ap (λ xs. slice_get xs h.place) h.before.was ∙ (ap (slice_get (h.before.before ++ h.before.port ∷ h.before.behind)) (sym h.before.at) ∙ get_here h.before.before h.before.port h.before.behind) in
    let met = met_whole all_allowed s old whole h.place h.before.port at h.met h.before in
    forced s h.met met h.place h.port h.port_then h.at new h.after c what h.of_node h.calls
  where
    get_here : (xs : List ViewAndTurn) (x : ViewAndTurn) (ys : List ViewAndTurn) → slice_get (xs ++ x ∷ ys) (length xs) ≡ Some x
    get_here [] x ys = refl
    get_here (z ∷ xs) x ys = get_here xs x ys

-- the ports of a line
module _ {P : Type 0} (view : P → View) (turn : P → Write) where
  at_place : (xs : List P) (place : ℕ) (d : P) → place < length xs → slice_get (map (view_and_turn view turn) xs) place ≡ Some (view_and_turn view turn (get_or xs place d))
  at_place xs place d lt = slice_get-map (view_and_turn view turn) xs place ∙ ap (option_map (view_and_turn view turn)) (get_of xs place d lt)

  pub state_seen : (s : OwnerState) (line : List ViewAndTurn) (ports : List P) → map (view_and_turn view turn) ports ≡ line → AreSynced s line → (place : ℕ) (d : P) → place < length ports → (node : ℕ) → place + 1 ≡ node
      → seen (view (get_or ports place d)).state ≡ seen (state_of s node)
  state_seen s line ports is whole place d lt node n =
      let at = ap (λ xs. slice_get xs place) (sym is) ∙ at_place ports place d lt in
      (whole.knows place (view_and_turn view turn (get_or ports place d)) at).state ∙ ap (λ m. seen (state_of s m)) (whole.node place (view_and_turn view turn (get_or ports place d)) at ∙ n)

  pub answers_by : (ports met new : List P) (c : Command) (what : Said) (place : ℕ) (d a : P) → place < length met → place + 1 ≡ node_of c
      → MeetsOthers all_allowed place (map (view_and_turn view turn) ports) (map (view_and_turn view turn) met) → Calls c what (view_and_turn view turn (get_or met place d)) (view_and_turn view turn a)
      → MeetsOthers all_allowed place (map (view_and_turn view turn) (set met place a)) (map (view_and_turn view turn) new) → AnswersByPort c what (map (view_and_turn view turn) ports) (map (view_and_turn view turn) new)
  answers_by ports met new c what place d a lt n before calls after = record {
    place = place;
    of_node = n;
    met = map (view_and_turn view turn) met;
    before = before;
    port = view_and_turn view turn (get_or met place d);
    at = at_place met place d lt;
    port_then = view_and_turn view turn a;
    calls = calls;
    after = subst (λ xs. MeetsOthers all_allowed place xs (map (view_and_turn view turn) new)) (map-set (view_and_turn view turn) met place a) after;
  }

  -- the ports of a line that was just opened
  pub new_whole : (label : ℕ) (config : LineConfig) (ports : List P) → MayOpen config → length config.opening.bytes ≡ 64 → AreNew label config (map view ports) → AreSynced (opened config) (map (view_and_turn view turn) ports)
  new_whole label config ports may long new = opened_whole label config (map (view_and_turn view turn) ports) may long (subst (AreNew label config) (sym (again ports)) new)
    where
      again : (xs : List P) → map (λ p. p.view) (map (view_and_turn view turn) xs) ≡ map view xs
      again [] = refl
      again (x ∷ xs) = ap (λ ys. view x ∷ ys) (again xs)
