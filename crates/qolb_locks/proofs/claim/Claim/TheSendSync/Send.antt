-- A claim may move to another thread, because it owns exactly what a `Badge` of the lock's table owns, and a `Badge`
-- may move.
use denote.Struct.Struct.{exits_of}
use denote.Struct.Owning.{shape, fields, to}
use denote.Param.Send.{IsSend, AllSend, owning_send, struct_send, sendable}
use Rattle.std_alloc.proofs.SendSync.{quiet}
use Rattle.atomic_table.proofs.Sent.{badge_keyless}
use Rattle.lock_core.specs.contracts.view.View as View
use Rattle.qolb_locks.specs.contracts.claim.Claim.{the_row, the_type}

pub send : IsSend the_row
send =
    let all : AllSend (fields the_type) = (search sendable, tt) in
    owning_send the_type all (λ t. badge_keyless View.the_row.coded.code t.table_id t.id t.views)
    (λ k. quiet (to the_type) (exits_of k (fields the_type)) ((struct_send (shape the_type) all).leaving k))
