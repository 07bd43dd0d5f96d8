use Rattle.std.proofs.Common.{◌≡◌, ℕ, Bool, List, slice_get, ap, ◌∙◌, sym, subst}
use Rattle.qolb_model.specs.Plain.{PlainView, Agrees}
use Rattle.qolb_script.specs.Commands.{node_of}
use Rattle.qolb_script.specs.Reply as reply
use Rattle.qolb_script.specs.Reply.{said_of, after_command}
use Rattle.qolb_draw.specs.declared.follow.TracedLine.{TracedLine}
use Rattle.qolb_model.specs.declared.answer.PortState.{PortState}
use Rattle.qolb_draw.specs.Following.{has_asked, differs, HasStates, AreLookedAt}
use Rattle.qolb_draw.proofs.States.{states_kept}
use Rattle.qolb_draw.proofs.Turns.{command_followed, asked_behind, none_behind, same_change}
use Rattle.qolb_draw.proofs.follow.TracedLine.take.Goals as goal
use Rattle.qolb_draw.proofs.follow.TracedLine.take.Goals.{then-has_asked+in_ok-push, else-has_asked}

pub returns-clause-follows : goal.returns-clause-follows
returns-clause-follows g c s f =
    let said = c.answer-said.ensures.said s f.agrees in
    let asked = c.has_asked.ensures ∙ ap has_asked said in
    command_followed c.args.self.now.line c.if-has_asked.self.line s c.args.command.now c.args.self.now.waiting.items c.if-has_asked.self.waiting.items c.pass-closed.new.waiting.items f
    (elim c.if-has_asked.branch [
      | then-has_asked+in_ok-push w ↦ subst (λ (l : PlainView). Agrees l (after_command s c.args.command.now)) (sym (ap (λ (x : TracedLine g.row.A.Denot). x.line) w.self-is)) (c.answer-said.ensures.represents s f.agrees)
      | else-has_asked w ↦ subst (λ (l : PlainView). Agrees l (after_command s c.args.command.now)) (sym (ap (λ (x : TracedLine g.row.A.Denot). x.line) w.self-is)) (c.answer-said.ensures.represents s f.agrees)
    ])
    (elim c.if-has_asked.branch [
      | then-has_asked+in_ok-push w ↦ asked_behind (has_asked (said_of s c.args.command.now)) c.args.self.now.waiting.items c.if-has_asked.self.waiting.items w.node.result (node_of c.args.command.now)
          (sym asked ∙ w.if-has_asked.true) w.node.ensures (ap (λ (x : TracedLine g.row.A.Denot). x.waiting.items) w.self-is ∙ w.in_ok-push.ensures.items)
      | else-has_asked w ↦ none_behind (has_asked (said_of s c.args.command.now)) c.args.self.now.waiting.items c.if-has_asked.self.waiting.items (node_of c.args.command.now)
          (sym asked ∙ w.if-has_asked.false) (ap (λ (x : TracedLine g.row.A.Denot). x.waiting.items) w.self-is)
    ])
    c.pass-closed.ensures.waiting

pub returns-clause-change : goal.returns-clause-change
returns-clause-change g c s f =
    let now = returns-clause-follows g c s f in
    same_change _ _ _ _ _ _ _ _ _ _ c.node-3.ensures (c.answer-said.ensures.said s f.agrees) (c.is_told.ensures ∙ ap reply.is_told (c.answer-said.ensures.said s f.agrees))
    (c.copied-before.ensures ∙ c.first.ensures.value ∙ ap (λ (xs : List ℕ). slice_get xs 0) (c.deref.ensures.value ∙ f.waiting_are))
    (c.copied.ensures ∙ c.first-2.ensures.value ∙ ap (λ (xs : List ℕ). slice_get xs 0) (c.deref-2.ensures.value ∙ now.waiting_are))

pub returns-clause-states : goal.returns-clause-states
returns-clause-states g c s f r =
    let asked = c.has_asked.ensures ∙ ap has_asked (c.answer-said.ensures.said s f.agrees) in
    let nodes : c.if-has_asked.self.line.nodes ≡ c.args.self.now.line.nodes = elim c.if-has_asked.branch [
      | then-has_asked+in_ok-push w ↦ ap (λ (x : TracedLine g.row.A.Denot). x.line.nodes) w.self-is ∙ c.answer-said.ensures.nodes
      | else-has_asked w ↦ ap (λ (x : TracedLine g.row.A.Denot). x.line.nodes) w.self-is ∙ c.answer-said.ensures.nodes
    ] in
    let states : c.if-has_asked.self.states.items ≡ c.args.self.now.states.items = elim c.if-has_asked.branch [
      | then-has_asked+in_ok-push w ↦ ap (λ (x : TracedLine g.row.A.Denot). x.states.items) w.self-is
      | else-has_asked w ↦ ap (λ (x : TracedLine g.row.A.Denot). x.states.items) w.self-is
    ] in
    let closed : c.if-has_asked.self.closed ≡ c.args.self.now.closed = elim c.if-has_asked.branch [
      | then-has_asked+in_ok-push w ↦ ap (λ (x : TracedLine g.row.A.Denot). x.closed) w.self-is
      | else-has_asked w ↦ ap (λ (x : TracedLine g.row.A.Denot). x.closed) w.self-is
    ] in
    let had : HasStates c.args.self.now.line c.if-has_asked.self.states.items c.if-has_asked.self.closed =
    subst (λ (xs : List PortState). HasStates c.args.self.now.line xs c.if-has_asked.self.closed) (sym states) (subst (λ (b : Bool). HasStates c.args.self.now.line c.args.self.now.states.items b) (sym closed) r) in
    let looks : AreLookedAt c.if-has_asked.self.line (node_of c.args.command.now) (differs c.if-has_asked.self.closed c.pass-closed.result) c.pass-closed.new.states.items c.look.new.states.items =
    subst (λ (n : ℕ). AreLookedAt c.if-has_asked.self.line n (differs c.if-has_asked.self.closed c.pass-closed.result) c.pass-closed.new.states.items c.look.new.states.items) c.node-2.ensures
    (subst (λ (b : Bool). AreLookedAt c.if-has_asked.self.line c.node-2.result b c.pass-closed.new.states.items c.look.new.states.items) c.differs.ensures c.look.ensures) in
    states_kept c.args.self.now.line c.if-has_asked.self.line s c.args.command.now c.args.self.now.waiting.items c.if-has_asked.self.waiting.items c.pass-closed.new.waiting.items
    c.if-has_asked.self.states.items c.pass-closed.new.states.items c.look.new.states.items c.if-has_asked.self.closed c.pass-closed.result f had (returns-clause-follows g c s f) nodes
    (elim c.if-has_asked.branch [
      | then-has_asked+in_ok-push w ↦ asked_behind (has_asked (said_of s c.args.command.now)) c.args.self.now.waiting.items c.if-has_asked.self.waiting.items w.node.result (node_of c.args.command.now)
          (sym asked ∙ w.if-has_asked.true) w.node.ensures (ap (λ (x : TracedLine g.row.A.Denot). x.waiting.items) w.self-is ∙ w.in_ok-push.ensures.items)
      | else-has_asked w ↦ none_behind (has_asked (said_of s c.args.command.now)) c.args.self.now.waiting.items c.if-has_asked.self.waiting.items (node_of c.args.command.now)
          (sym asked ∙ w.if-has_asked.false) (ap (λ (x : TracedLine g.row.A.Denot). x.waiting.items) w.self-is)
    ])
    c.pass-closed.ensures.states c.pass-closed.ensures.closed looks
