-- Threads may share a reference to a lock, because a `&LockRef` owns only a share of the lock.
use denote.Param.Send.{IsSync, part_keyless}
use Rattle.qolb_locks.specs.contracts.lock_ref.LockRef.{the_row}
use Rattle.qolb_locks.proofs.lock_ref.LockRef.TheSendSync.Send.{send}

pub sync : IsSync the_row
sync = record { shared = λ d b o κ q. part_keyless the_row send q d b o }
