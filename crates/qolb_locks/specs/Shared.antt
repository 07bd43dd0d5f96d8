-- What a `LockRef` owns: nothing if it refers to no lock, and otherwise the same as a `&'static` reference to the lock.
-- What it owns can be copied.
use Rattle.std.specs.Prelude.{[]}
use base.Fml.{Fml, ftrue}
use base.Stored.{Coded}
use denote.RawPtr.{Ptr}
use denote.Struct.Lending.{lent_at}
use Rattle.std.specs.Coded.{coded_option}
use Rattle.std.specs.declared.option.Option.{Option}
use Rattle.std.specs.declared.option.Option.TheVariants.{None, Some}
use Rattle.qolb_locks.specs.contracts.lock.Lock.{the_row}

abbrev pub lock_coded : Coded (Option the_row.Denot)
lock_coded = coded_option the_row.coded

abbrev pub refers : Ptr → Option the_row.Denot → Fml
refers at None = ftrue
refers at (Some lock) = lent_at the_row at lock []
