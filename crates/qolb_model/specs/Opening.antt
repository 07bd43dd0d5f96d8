-- How a line is opened, and what its ports know at first. The definitions in this file were made for this project; none
-- is taken from the literature.
use Rattle.std.specs.Prelude.{◌≡◌, ◌⊎◌, ℕ, ◌+◌, ◌<◌, ◌≤◌, List, [], length, map, slice_get, Some}
use Rattle.std.specs.List.{All}
use Rattle.qolb_model.specs.declared.answer.OpenError.{OpenError}
use Rattle.qolb_model.specs.declared.answer.OpenError.TheVariants.{Memory, Nodes, Lease}
use Rattle.qolb_model.specs.declared.answer.PortState.TheVariants.{Idle}
use Rattle.qolb_model.specs.declared.config.LineConfig.{LineConfig}
use Rattle.qolb_model.specs.declared.config.TheConstants.{MAX_NODES}
use Rattle.qolb_model.specs.declared.view.View.{View}
use Rattle.qolb_model.specs.Leases.{IsLease}

-- a line has 1 to MAX_NODES nodes
pub record AreNodes (nodes : ℕ) : Type 0 where
  pub some : 1 ≤ nodes
  pub few : nodes ≤ MAX_NODES

-- a program may open a line with this configuration
pub record MayOpen (config : LineConfig) : Type 0 where
  pub nodes : AreNodes config.nodes
  pub lease : IsLease config.lease

-- why a line is not opened, in this order: its number of nodes, its lease, lack of memory
abbrev pub MayNotOpen : LineConfig → OpenError → Type 0
MayNotOpen config Nodes = (config.nodes < 1) ⊎ (MAX_NODES < config.nodes)
MayNotOpen config Lease = AreNodes config.nodes × (config.lease ≡ Some 0)
MayNotOpen config Memory = MayOpen config

-- the view of a port that has made no request and knows of none
abbrev pub new_view : ℕ → LineConfig → ℕ → View
new_view label config node = record {
  label = label;
  config = config;
  node = node;
  count = 0;
  state = Idle;
  order = [];
  ends = [];
  clear = [];
  joined = [];
  marked = [];
  freed = [];
}

-- the views of a new line: a new port for each of the nodes 1 to `nodes`, in this order
pub record AreNew (label : ℕ) (config : LineConfig) (views : List View) : Type 0 where
  pub count : length views ≡ config.nodes
  pub each : (i : ℕ) → i < config.nodes → slice_get views i ≡ Some (new_view label config (i + 1))

-- the results of opening a line, for this type of ports: the line has the label and the configuration that the caller
-- asked for, and its ports are new, idle, and belong to it
pub record Opens {Port : Type 0} (view : Port → View) (belongs : Port → Type 0) (label_of : ℕ) (config_of : LineConfig) (label : ℕ) (config : LineConfig) (ports : List Port) : Type 0 where
  pub label_is : label_of ≡ label
  pub config_is : config_of ≡ config
  pub new : AreNew label config (map view ports)
  pub each_belongs : All belongs ports
  pub idle : All (λ port. (view port).state ≡ Idle) ports
