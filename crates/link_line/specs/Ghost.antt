-- The ghost state of a node of the link line. The invariant of the table refers to this ghost state.
use Rattle.std.specs.Prelude.{false, [], None}
use Rattle.line_lanes.specs.declared.line.Mask.{Mask}
use Rattle.line_generic.specs.declared.table.NodeGhost.{NodeGhost}
use Rattle.line_generic.specs.declared.table.Payload.{Payload}
use Rattle.link_line.specs.declared.local.LinkLocal.{LinkLocal}

abbrev pub LinkGhost : Type 0
LinkGhost = NodeGhost LinkLocal

-- the mask of a line's last turn
abbrev pub mask_of : Payload → Mask
mask_of y = record { 0 = y.mask.bits }

abbrev pub no_line : Payload
no_line = record { bytes = record { bytes = [] }; mask = record { bits = 0 }; turns_left = None; closed = false; padding = [] }
