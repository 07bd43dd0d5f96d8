use Rattle.std.proofs.Common.{rules, ◌≡◌, ◌∙◌}
use Rattle.qolb_model.specs.declared.answer.PortState.TheVariants.{Idle, Queued, Holding, Rolled, Shut}
use Rattle.qolb_model.specs.Plain.{node_state}
use Rattle.qolb_model.proofs.Agreed.{node_state-state_of}
use Rattle.qolb_model.proofs.plain.PlainLine.state.Goals as goal

pub returns-in-None-clause-agrees : goal.returns-in-None-clause-agrees
returns-in-None-clause-agrees c =
    let is : Shut ≡ node_state c.args.self.now c.args.node = search rules in
    λ s a. is ∙ node_state-state_of c.args.self.now s a c.args.node

pub returns-in-None-2-clause-agrees : goal.returns-in-None-2-clause-agrees
returns-in-None-2-clause-agrees c =
    let is : Idle ≡ node_state c.args.self.now c.args.node = search rules in
    λ s a. is ∙ node_state-state_of c.args.self.now s a c.args.node

pub returns-in-Some-clause-agrees : goal.returns-in-Some-clause-agrees
returns-in-Some-clause-agrees c =
    let is : Rolled ≡ node_state c.args.self.now c.args.node = search rules in
    λ s a. is ∙ node_state-state_of c.args.self.now s a c.args.node

pub returns-in-Some-2-clause-agrees : goal.returns-in-Some-2-clause-agrees
returns-in-Some-2-clause-agrees c =
    let is : Holding ≡ node_state c.args.self.now c.args.node = search rules in
    λ s a. is ∙ node_state-state_of c.args.self.now s a c.args.node

pub returns-in-Some-3-clause-agrees : goal.returns-in-Some-3-clause-agrees
returns-in-Some-3-clause-agrees c =
    let is : Queued ≡ node_state c.args.self.now c.args.node = search rules in
    λ s a. is ∙ node_state-state_of c.args.self.now s a c.args.node

pub returns-in-Some-3-2-clause-agrees : goal.returns-in-Some-3-2-clause-agrees
returns-in-Some-3-2-clause-agrees c =
    let is : Queued ≡ node_state c.args.self.now c.args.node = search rules in
    λ s a. is ∙ node_state-state_of c.args.self.now s a c.args.node
