use Rattle.std.proofs.Common.{◌≡◌, ◌∙◌, ◌∷◌, Ok, sym, rules}
use Rattle.qolb_script.specs.Text.{numbered_lines, worded}
use Rattle.qolb_script.specs.Commands.{read_line}
use Rattle.qolb_script.specs.Jobs.{work_header_of}
use Rattle.qolb_script.specs.Script.{items_of}
use Rattle.qolb_script.specs.WorkScript.{item_under}
use Rattle.qolb_script.specs.Reading.{lines_left}
use Rattle.qolb_script.proofs.work.parse_work.Goals as goal

pub returns-clause-ok : goal.returns-clause-ok
returns-clause-ok g c =
    let first : worded (numbered_lines c.args.text.now) ≡ (c.in-Some.number, c.in-Some.line.now) ∷ lines_left c.next.new.self = sym c.new-rest.ensures ∙ c.in-Some.ensures.steps in
    let header : read_line (work_header_of c.args.kind) c.in-Some.line.now ≡ Ok c.in-Ok.header = search rules in
    let jobs : items_of (item_under c.args.kind c.in-Ok.header) 0 (lines_left c.next.new.self) ≡ Ok c.in_ok-jobs.jobs.items = c.in_ok-jobs.ensures.ok in
    rw (first, header, jobs)
