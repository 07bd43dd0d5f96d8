-- The events of a step script that consist of one word and a node, such as `reset` and `load`. The definitions in this
-- file were made for this project; none is taken from the literature.
use Rattle.std.specs.Prelude.{ℕ, List, codes}
use Rattle.link_core.specs.declared.event.Event.{Event}
use Rattle.link_core.specs.declared.event.Event.TheVariants as event
use Rattle.qolb_script.specs.declared.step.Step.{Step}
use Rattle.qolb_script.specs.declared.step.Step.TheVariants.{Reset, Prepend, Link, Load, Home, Done, Grant, Roll, Freed, Close}

-- the first word of the events of this kind
abbrev pub word_of : Step → List ℕ
word_of Reset = codes "reset"
word_of Prepend = codes "prepend"
word_of Link = codes "link"
word_of Load = codes "load"
word_of Home = codes "home"
word_of Done = codes "done"
word_of Grant = codes "grant"
word_of Roll = codes "roll"
word_of Freed = codes "freed"
word_of Close = codes "close"

-- the event of this kind for a node
abbrev pub event_of : Step → ℕ → Event
event_of Reset = event.Reset
event_of Prepend = event.Prepend
event_of Link = event.Link
event_of Load = event.Load
event_of Home = event.Home
event_of Done = event.Done
event_of Grant = event.Grant
event_of Roll = event.Roll
event_of Freed = event.Freed
event_of Close = event.Close
