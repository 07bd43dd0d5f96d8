-- How contracts describe a reader or writer that remembers whether one of its operations has failed. The definitions in
-- this file were made for this project; none is taken from the literature.
use Rattle.std.specs.Prelude.{Bool}
use Rattle.qolb_script.specs.declared.watched.Watched.{Watched}

-- the reader or writer that is wrapped
abbrev pub inner_of : {T : Type 0} → Watched T → T
inner_of w = w.inner

-- the flag that says whether a read or a write has failed
abbrev pub has_failed : {T : Type 0} → Watched T → Bool
has_failed w = w.failed
