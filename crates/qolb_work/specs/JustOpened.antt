-- What is known about a line and its ports when they have just been opened for workers. The definitions in this file
-- were made for this project; none is taken from the literature.
use Rattle.std.specs.Prelude.{◌≡◌, ℕ, ◌+◌, List, Some, None, slice_get}
use Rattle.line_lanes.specs.Line.{zeros}
use Rattle.qolb_model.specs.declared.config.LineConfig.{LineConfig}
use Rattle.qolb_model.specs.declared.view.View.{View}
use Rattle.qolb_model.specs.Opening.{new_view}

-- the configuration of a line of zeros without a lease, with a node for each worker
abbrev pub work_config : ℕ → LineConfig
work_config workers = record { nodes = workers; opening = record { bytes = zeros }; lease = None }

-- The port of the node was opened together with its line, with this configuration, and has not been used since.
abbrev pub IsJustOpened : LineConfig → ℕ → View → Type 0
IsJustOpened config node v = (label : ℕ) × (v ≡ new_view label config node)

-- These are the ports of a line that was just opened, in the order of their nodes.
abbrev pub AreJustOpened : {Line Port : Type 0} → (Line → Port → Type 0) → (Port → View) → (Line → LineConfig) → Line → List Port → Type 0
AreJustOpened {Line} {Port} belongs view config_of line ports = (k : ℕ) (port : Port) → slice_get ports k ≡ Some port → belongs line port × IsJustOpened (config_of line) (k + 1) (view port)

-- The line and its ports were just opened for `workers` workers.
pub record IsNewLine {Line Port : Type 0} (belongs : Line → Port → Type 0) (view : Port → View) (config_of : Line → LineConfig) (workers : ℕ) (line : Line) (ports : List Port) : Type 0 where
  pub own : AreJustOpened belongs view config_of line ports
  pub config : config_of line ≡ work_config workers
