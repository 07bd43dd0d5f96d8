use Rattle.std.proofs.Common.{rules, ◌≡◌, ℕ, List, true, false, sym, ap, ◌∙◌, subst}
use Rattle.qolb_model.specs.OneOwner.{state_of, after_poll}
use Rattle.qolb_model.specs.declared.answer.Poll.{Poll}
use Rattle.qolb_model.specs.Plain.{Agrees}
use Rattle.qolb_script.specs.declared.reply_text.Said.TheVariants as said
use Rattle.qolb_script.specs.Commands.{node_of}
use Rattle.qolb_script.specs.Reply.{is_allowed, answered, after_allowed}
use Rattle.qolb_replay.proofs.Allowed.{allowed_said, allowed_after, refused_said, refused_after}
use Rattle.qolb_replay.proofs.plain.answer.Goals as goal

pub returns-then-not-allows-clause-said : goal.returns-then-not-allows-clause-said
returns-then-not-allows-clause-said c s a =
    let same : c.state.result ≡ state_of s (node_of c.args.command.now) = c.state.ensures.agrees s a ∙ ap (state_of s) c.node.ensures in
    let test : is_allowed c.state.result c.args.command.now ≡ false = search rules in
    refused_said s c.args.command.now c.state.result same test

pub returns-then-not-allows-clause-agrees : goal.returns-then-not-allows-clause-agrees
returns-then-not-allows-clause-agrees c s a =
    let same : c.state.result ≡ state_of s (node_of c.args.command.now) = c.state.ensures.agrees s a ∙ ap (state_of s) c.node.ensures in
    let test : is_allowed c.state.result c.args.command.now ≡ false = search rules in
    subst (Agrees c.args.line.now) (refused_after s c.args.command.now c.state.result same test) a

pub returns-in-Enq-clause-said : goal.returns-in-Enq-clause-said
returns-in-Enq-clause-said c s a =
    let same : c.state.result ≡ state_of s (node_of c.args.command.now) = c.state.ensures.agrees s a ∙ ap (state_of s) c.node.ensures in
    let test : is_allowed c.state.result c.args.command.now ≡ true = search rules in
    ap said.Enq (c.enqolb.ensures.answer s a)
    ∙ (ap (answered s) (sym c.in-Enq.is) ∙ allowed_said s c.args.command.now c.state.result same test)

pub returns-in-Poll-clause-said : goal.returns-in-Poll-clause-said
returns-in-Poll-clause-said c s a =
    let same : c.state.result ≡ state_of s (node_of c.args.command.now) = c.state.ensures.agrees s a ∙ ap (state_of s) c.node.ensures in
    let test : is_allowed c.state.result c.args.command.now ≡ true = search rules in
    ap said.Poll (c.poll.ensures.answer s a)
    ∙ (ap (answered s) (sym c.in-Poll.is) ∙ allowed_said s c.args.command.now c.state.result same test)

pub returns-in-Out-clause-said : goal.returns-in-Out-clause-said
returns-in-Out-clause-said c s a =
    let same : c.state.result ≡ state_of s (node_of c.args.command.now) = c.state.ensures.agrees s a ∙ ap (state_of s) c.node.ensures in
    let test : is_allowed c.state.result c.args.command.now ≡ true = search rules in
    ap said.Out (c.withdraw.ensures.answer s a)
    ∙ (ap (answered s) (sym c.in-Out.is) ∙ allowed_said s c.args.command.now c.state.result same test)

pub returns-in-Show-clause-said : goal.returns-in-Show-clause-said
returns-in-Show-clause-said c s a =
    let same : c.state.result ≡ state_of s (node_of c.args.command.now) = c.state.ensures.agrees s a ∙ ap (state_of s) c.node.ensures in
    let test : is_allowed c.state.result c.args.command.now ≡ true = search rules in
    ap (λ (b : List ℕ). said.Bytes (record { bytes = b })) (c.bytes.ensures s a)
    ∙ (ap (answered s) (sym c.in-Show.is) ∙ allowed_said s c.args.command.now c.state.result same test)

pub returns-in-Write-clause-said : goal.returns-in-Write-clause-said
returns-in-Write-clause-said c s a =
    let same : c.state.result ≡ state_of s (node_of c.args.command.now) = c.state.ensures.agrees s a ∙ ap (state_of s) c.node.ensures in
    let test : is_allowed c.state.result c.args.command.now ≡ true = search rules in
    (ap (answered s) (sym c.in-Write.is) ∙ allowed_said s c.args.command.now c.state.result same test)

pub returns-in-Deq-clause-said : goal.returns-in-Deq-clause-said
returns-in-Deq-clause-said c s a =
    let same : c.state.result ≡ state_of s (node_of c.args.command.now) = c.state.ensures.agrees s a ∙ ap (state_of s) c.node.ensures in
    let test : is_allowed c.state.result c.args.command.now ≡ true = search rules in
    (ap (answered s) (sym c.in-Deq.is) ∙ allowed_said s c.args.command.now c.state.result same test)

pub returns-in-Shut-clause-said : goal.returns-in-Shut-clause-said
returns-in-Shut-clause-said c s a =
    let same : c.state.result ≡ state_of s (node_of c.args.command.now) = c.state.ensures.agrees s a ∙ ap (state_of s) c.node.ensures in
    let test : is_allowed c.state.result c.args.command.now ≡ true = search rules in
    (ap (answered s) (sym c.in-Shut.is) ∙ allowed_said s c.args.command.now c.state.result same test)

pub returns-in-Enq-clause-agrees : goal.returns-in-Enq-clause-agrees
returns-in-Enq-clause-agrees c s a =
    let same : c.state.result ≡ state_of s (node_of c.args.command.now) = c.state.ensures.agrees s a ∙ ap (state_of s) c.node.ensures in
    let test : is_allowed c.state.result c.args.command.now ≡ true = search rules in
    subst (Agrees c.enqolb.new.self) (ap (after_allowed s) (sym c.in-Enq.is) ∙ allowed_after s c.args.command.now c.state.result same test) (c.enqolb.ensures.agrees s a)

pub returns-in-Poll-clause-agrees : goal.returns-in-Poll-clause-agrees
returns-in-Poll-clause-agrees c s a =
    let same : c.state.result ≡ state_of s (node_of c.args.command.now) = c.state.ensures.agrees s a ∙ ap (state_of s) c.node.ensures in
    let test : is_allowed c.state.result c.args.command.now ≡ true = search rules in
    subst (Agrees c.poll.new.self) (ap (after_allowed s) (sym c.in-Poll.is) ∙ allowed_after s c.args.command.now c.state.result same test) (subst (λ (r : Poll). Agrees c.poll.new.self (after_poll r s)) (c.poll.ensures.answer s a) (c.poll.ensures.agrees s a))

pub returns-in-Out-clause-agrees : goal.returns-in-Out-clause-agrees
returns-in-Out-clause-agrees c s a =
    let same : c.state.result ≡ state_of s (node_of c.args.command.now) = c.state.ensures.agrees s a ∙ ap (state_of s) c.node.ensures in
    let test : is_allowed c.state.result c.args.command.now ≡ true = search rules in
    subst (Agrees c.withdraw.new.self) (ap (after_allowed s) (sym c.in-Out.is) ∙ allowed_after s c.args.command.now c.state.result same test) (c.withdraw.ensures.agrees s a)

pub returns-in-Write-clause-agrees : goal.returns-in-Write-clause-agrees
returns-in-Write-clause-agrees c s a =
    let same : c.state.result ≡ state_of s (node_of c.args.command.now) = c.state.ensures.agrees s a ∙ ap (state_of s) c.node.ensures in
    let test : is_allowed c.state.result c.args.command.now ≡ true = search rules in
    subst (Agrees c.write.new.self) (ap (after_allowed s) (sym c.in-Write.is) ∙ allowed_after s c.args.command.now c.state.result same test) (c.write.ensures.agrees s a)

pub returns-in-Deq-clause-agrees : goal.returns-in-Deq-clause-agrees
returns-in-Deq-clause-agrees c s a =
    let same : c.state.result ≡ state_of s (node_of c.args.command.now) = c.state.ensures.agrees s a ∙ ap (state_of s) c.node.ensures in
    let test : is_allowed c.state.result c.args.command.now ≡ true = search rules in
    subst (Agrees c.deqolb.new.self) (ap (after_allowed s) (sym c.in-Deq.is) ∙ allowed_after s c.args.command.now c.state.result same test) (c.deqolb.ensures.agrees s a)

pub returns-in-Shut-clause-agrees : goal.returns-in-Shut-clause-agrees
returns-in-Shut-clause-agrees c s a =
    let same : c.state.result ≡ state_of s (node_of c.args.command.now) = c.state.ensures.agrees s a ∙ ap (state_of s) c.node.ensures in
    let test : is_allowed c.state.result c.args.command.now ≡ true = search rules in
    subst (Agrees c.shut.new.self) (ap (after_allowed s) (sym c.in-Shut.is) ∙ allowed_after s c.args.command.now c.state.result same test) (c.shut.ensures.agrees s a)

pub returns-in-Show-clause-agrees : goal.returns-in-Show-clause-agrees
returns-in-Show-clause-agrees c s a =
    let same : c.state.result ≡ state_of s (node_of c.args.command.now) = c.state.ensures.agrees s a ∙ ap (state_of s) c.node.ensures in
    let test : is_allowed c.state.result c.args.command.now ≡ true = search rules in
    subst (Agrees c.args.line.now) (ap (after_allowed s) (sym c.in-Show.is) ∙ allowed_after s c.args.command.now c.state.result same test) a
