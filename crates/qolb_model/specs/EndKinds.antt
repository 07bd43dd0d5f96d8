-- The three ways in which a request can end: it is served, withdrawn, or notified that the line is closed.
use Rattle.std.specs.Prelude.{Bool, true, false}
use Rattle.qolb_model.specs.declared.end.End.{End}
use Rattle.qolb_model.specs.declared.end.End.TheVariants.{Served, Gone, Told}

-- the request was withdrawn, and a release passed it
abbrev pub is_gone : End → Bool
is_gone (Served write shut) = false
is_gone Gone = true
is_gone Told = false

-- the request was served
abbrev pub is_served : End → Bool
is_served (Served write shut) = true
is_served Gone = false
is_served Told = false
