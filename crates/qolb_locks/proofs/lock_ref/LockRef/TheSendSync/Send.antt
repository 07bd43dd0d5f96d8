-- A reference to a lock may move to another thread, because it refers to nothing that belongs to only one thread.
use mathlib.Core.List.{[]}
use base.Shift.{Keyless}
use denote.RawPtr.{Ptr}
use denote.Struct.Struct.{exits_of}
use denote.Struct.Owning.{shape, fields, to}
use denote.Param.Send.{IsSend, AllSend, owning_send, struct_send, sendable}
use Rattle.std.specs.declared.option.Option.{Option}
use Rattle.std.specs.declared.option.Option.TheVariants.{None, Some}
use Rattle.std_alloc.proofs.SendSync.{quiet, seen}
use Rattle.qolb_locks.specs.contracts.lock.Lock as Lock
use Rattle.qolb_locks.proofs.lock.Lock.TheSendSync.{the_sync as lock}
use Rattle.qolb_locks.specs.Shared.{refers}
use Rattle.qolb_locks.specs.contracts.lock_ref.LockRef.{the_row, the_type}

keyless : (p : Ptr) (m : Option Lock.the_row.Denot) → Keyless (refers p m)
keyless p None = tt
keyless p (Some x) = seen Lock.the_row lock p x []

pub send : IsSend the_row
send =
    let all : AllSend (fields the_type) = (search sendable, tt) in
    owning_send the_type all (λ h. keyless h.at h.lock)
    (λ k. quiet (to the_type) (exits_of k (fields the_type)) ((struct_send (shape the_type) all).leaving k))
