use Rattle.std.proofs.Common.{◌-◌, ◌<◌, length}
use Rattle.qolb_model.specs.declared.config.TheConstants.{MAX_NODES}
use Rattle.link_line.specs.Layout.{word_count}
use Rattle.link_line.specs.Steps.{ghost_of}
use Rattle.link_line.specs.Releases.{granted_word, NamesWakeWord}
use Rattle.link_line.proofs.Walking.{IsWalking}
use Rattle.link_line.proofs.release.walk.Given as goal

abbrev pub invariant-loop-handoff : goal.invariant-loop-handoff
invariant-loop-handoff g l = IsWalking g.K.Keep.allows l.initial.seat l.initial.steps l.passed.items l.handoff l.seat l.steps × (granted_word l.handoff < word_count l.table.key.config.nodes) × NamesWakeWord (ghost_of l.seat) l.handoff

abbrev pub decreases-loop-handoff : goal.decreases-loop-handoff
decreases-loop-handoff g l = MAX_NODES - length l.passed.items
