-- Proof that the pointer and the allocator of a node's box together own what the box owns.
use mir.Syntax.{impl, tnil, dnil}
use mathlib.Core.List.{[]}
use denote.Signature.{Slot, plain}
use Rattle.std_alloc.proofs.BoxSteps.Form.{Bx}
use Rattle.std_heap.specs.contracts.Global as Heap
use Rattle.std_heap.specs.contracts.GlobalAllocator.TheImpl.{ghosts, dict}
use Rattle.std_heap.proofs.Global.TheLaws as heap
use Rattle.qolb_nodes.specs.contracts.any_node.AnyNode as Node
use Rattle.qolb_nodes.proofs.any_node.AnyNode.TheLaws as node
use Rattle.qolb_nodes.specs.contracts.handle.parts.Parts as Parts
use Rattle.qolb_nodes.specs.contracts.handle.Handle as Handle

abbrev pub E : Bx
E = record { row = Node.the_row; laws = node.the_row_laws; al = record { row = Heap.the_row; laws = heap.the_row_laws; g = ghosts; d = dict; drops = impl [] tnil dnil } }

abbrev pub FromParts : Slot 0
FromParts = plain (λ _. Parts.the_row Node.the_row Heap.the_row ghosts)

abbrev pub FromHandle : Slot 0
FromHandle = plain (λ _. Handle.the_row)

abbrev pub Alloc : Slot 0
Alloc = plain (λ _. Heap.the_row)
