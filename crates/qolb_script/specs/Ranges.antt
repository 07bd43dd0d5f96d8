-- The ranges in which the numbers of a script must lie. The definitions in this file were made for this project; none
-- is taken from the literature.
use Rattle.std.specs.Prelude.{◌≡◌, ◌≤◌, length}
use Rattle.qolb_model.specs.declared.config.TheConstants.{MAX_NODES}
use Rattle.qolb_model.specs.Leases.{IsLease}
use Rattle.qolb_script.specs.declared.schedule.TheConstants.{MAX_COMMANDS, MAX_LINES}
use Rattle.qolb_script.specs.Script.{Script, IsInRange}
use Rattle.qolb_script.specs.StepScript.{StepScript, IsOfItsNodes}
use Rattle.qolb_script.specs.declared.job.WorkKind.TheVariants.{Board}
use Rattle.qolb_script.specs.WorkScript.{WorkScript, AreOfIts}

-- The limits of a schedule: 1 to `MAX_NODES` nodes, 1 to `MAX_LINES` lines and at most `MAX_COMMANDS` commands, each in
-- its range. A lease allows at least one acquisition.
pub record IsBounded (script : Script) : Type 0 where
  pub least_nodes : 1 ≤ script.nodes
  pub most_nodes : script.nodes ≤ MAX_NODES
  pub least_lines : 1 ≤ script.lines
  pub most_lines : script.lines ≤ MAX_LINES
  pub lease : IsLease script.lease
  pub most_commands : length script.commands ≤ MAX_COMMANDS
  pub range : IsInRange script

-- the ranges of a step script
pub record IsStepBounded (script : StepScript) : Type 0 where
  pub least_nodes : 1 ≤ script.nodes
  pub most_nodes : script.nodes ≤ MAX_NODES
  pub lease : IsLease script.lease
  pub most_events : length script.events ≤ MAX_COMMANDS
  pub range : IsOfItsNodes script

-- The ranges of a work script. A board has one line.
pub record IsWorkBounded (work : WorkScript) : Type 0 where
  pub least_workers : 1 ≤ work.workers
  pub most_workers : work.workers ≤ MAX_NODES
  pub least_lines : 1 ≤ work.lines
  pub most_lines : work.lines ≤ MAX_LINES
  pub one_line : work.kind ≡ Board → work.lines ≡ 1
  pub most_jobs : length work.jobs ≤ MAX_COMMANDS
  pub range : AreOfIts work
