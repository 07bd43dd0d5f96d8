-- A handle may move to another thread, because it owns either nothing or a boxed node, and a node may move, too.
use mir.Raw.{raw}
use base.Shift.{Keyless}
use denote.Memory.{lone}
use denote.RawPtr.{Ptr, block_ptr, null_ptr}
use denote.Struct.Struct.{exits_of}
use denote.Struct.Owning.{shape, fields, to}
use denote.Param.Send.{IsSend, AllSend, owning_send, struct_send, sendable}
use Rattle.std.specs.declared.option.Option.{Option}
use Rattle.std.specs.declared.option.Option.TheVariants.{None, Some}
use Rattle.std_alloc.proofs.SendSync.{quiet, lies}
use Rattle.std.proofs.Crossing as heap
use Rattle.qolb_nodes.specs.contracts.any_node.AnyNode as Node
use Rattle.qolb_nodes.proofs.any_node.AnyNode.TheSendSync.{the_send as node}
use Rattle.qolb_nodes.specs.Held.{handle_owns}
use Rattle.qolb_nodes.specs.contracts.handle.Handle.{the_row, the_type}

keyless : (p : Ptr) (m : Option Node.the_row.Denot) → Keyless (handle_owns p m)
keyless null_ptr None = tt
keyless null_ptr (Some n) = tt
keyless (block_ptr b o) None = tt
keyless (block_ptr b o) (Some n) = (lies Node.the_row node (block_ptr b o) n, heap.frees.frees (record { memory = record { seal = tt } }) (raw (lone Node.the_row.mir)) (block_ptr b o))

pub send : IsSend the_row
send =
    let all : AllSend (fields the_type) = (search sendable, tt) in
    owning_send the_type all (λ h. keyless h.at h.held)
    (λ k. quiet (to the_type) (exits_of k (fields the_type)) ((struct_send (shape the_type) all).leaving k))
