-- Lemmas about which commands the state of a node allows.
use Rattle.std.proofs.Common.{◌≡◌, true, false, Bool, refl, sym, ap, ◌∙◌, if◌then◌else◌}
use Rattle.qolb_model.specs.declared.answer.PortState.{PortState}
use Rattle.qolb_model.specs.declared.answer.PortState.TheVariants.{Idle, Linking, Queued, Holding, Left, Rolled, Shut}
use Rattle.qolb_model.specs.OneOwner.{OwnerState, state_of}
use Rattle.qolb_script.specs.declared.command.Command.{Command}
use Rattle.qolb_script.specs.declared.reply_text.Said.TheVariants.{Misuse}
use Rattle.qolb_script.specs.Commands.{node_of}
use Rattle.qolb_script.specs.Reply.{is_allowed, is_queued, is_holding, answered, after_allowed, said_of, after_command}

pub queued_state : (state : PortState) → is_queued state ≡ true → state ≡ Queued
queued_state Idle h = cc
queued_state Linking h = cc
queued_state Queued h = refl
queued_state Holding h = cc
queued_state Left h = cc
queued_state Rolled h = cc
queued_state Shut h = cc

pub holding_state : (state : PortState) → is_holding state ≡ true → state ≡ Holding
holding_state Idle h = cc
holding_state Linking h = cc
holding_state Queued h = cc
holding_state Holding h = refl
holding_state Left h = cc
holding_state Rolled h = cc
holding_state Shut h = cc

module _ (s : OwnerState) (c : Command) (state : PortState) (same : state ≡ state_of s (node_of c)) where
  test : (b : Bool) → is_allowed state c ≡ b → is_allowed (state_of s (node_of c)) c ≡ b
  test b h = sym (ap (λ t. is_allowed t c) same) ∙ h

  -- an allowed command has the answer and the effect that the model gives it
  pub allowed_said : is_allowed state c ≡ true → answered s c ≡ said_of s c
  allowed_said h = sym (ap (λ b. if b then answered s c else Misuse) (test true h))

  pub allowed_after : is_allowed state c ≡ true → after_allowed s c ≡ after_command s c
  allowed_after h = sym (ap (λ b. if b then after_allowed s c else s) (test true h))

  -- a command that is not allowed is misuse, and does not change anything
  pub refused_said : is_allowed state c ≡ false → Misuse ≡ said_of s c
  refused_said h = sym (ap (λ b. if b then answered s c else Misuse) (test false h))

  pub refused_after : is_allowed state c ≡ false → s ≡ after_command s c
  refused_after h = sym (ap (λ b. if b then after_allowed s c else s) (test false h))
