-- Which lock each kind of line uses, and how a property can be stated separately for each lock. The definitions in this
-- file were made for this project; none is taken from the literature.
use Rattle.std.specs.Prelude.{Option, Some, None}
use Rattle.line_kinds.specs.declared.Lock.{Lock}
use Rattle.line_kinds.specs.declared.Lock.TheVariants as lock
use Rattle.qolb_script.specs.declared.report.Report.{Report}
use Rattle.qolb_script.specs.WorkScript.{WorkScript}
use Rattle.qolb_run.specs.declared.each_lock.Lines.{Lines}
use Rattle.qolb_run.specs.declared.each_lock.Lines.TheVariants as lines
use Rattle.qolb_run.specs.declared.each_lock.Kind.{Kind}
use Rattle.qolb_run.specs.declared.each_lock.Kind.TheVariants as kind

-- the lock that these lines use
abbrev pub lock_of : Lines → Lock
lock_of lines.Ring = lock.Ring
lock_of lines.Link = lock.Link

-- the lock of lines of this kind. The plain reference has none
abbrev pub shared_lock : Kind → Option Lock
shared_lock kind.Plain = None
shared_lock kind.Ring = Some lock.Ring
shared_lock kind.Link = Some lock.Link

-- chooses among three properties by the lock: ring lines, link lines, or ticket lines
abbrev pub by_lock : (rings links tickets : WorkScript → Report → Type 0) → Lock → WorkScript → Report → Type 0
by_lock rings links tickets lock.Ring = rings
by_lock rings links tickets lock.Link = links
by_lock rings links tickets lock.Ticket = tickets
