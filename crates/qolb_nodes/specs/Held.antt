-- The memory that a handle owns: none if the handle is null, and otherwise that of a box with a node in it. The
-- definitions in this file were made for this project; none is taken from the literature.
use base.Fml.{Fml, ftrue, ffalse}
use base.Stored.{Coded}
use denote.RawPtr.{Ptr, block_ptr, null_ptr}
use mir.Syntax.{Ty}
use Rattle.std.specs.Box.Ownership.{box_owns}
use Rattle.std.specs.Coded.{coded_option}
use Rattle.std.specs.declared.option.Option.{Option}
use Rattle.std.specs.declared.option.Option.TheVariants.{None, Some}
use Rattle.std_heap.specs.contracts.GlobalAllocator.TheImpl.{ghosts}
use Rattle.qolb_nodes.specs.contracts.any_node.AnyNode.{the_row}

abbrev pub held_coded : Coded (Option the_row.Denot)
held_coded = coded_option the_row.coded

-- the right to free a block of the C library's heap, which is the same through any handle of that heap
abbrev pub may_free : Ty → Ptr → Fml
may_free = ghosts.dealloc_token (record { memory = record { seal = tt } })

abbrev pub handle_owns : Ptr → Option the_row.Denot → Fml
handle_owns null_ptr None = ftrue
handle_owns null_ptr (Some node) = ffalse
handle_owns (block_ptr b o) None = ffalse
handle_owns (block_ptr b o) (Some node) = box_owns may_free the_row (block_ptr b o) node
