use Rattle.std.proofs.Common.{rules}
use Rattle.line_generic.proofs.Calling.{call_belongs}
use Rattle.line_generic.proofs.Resting.{looked_port, looked_found}
use Rattle.line_generic.proofs.calls.LineLineSync.is_clear.Goals as goal

pub invariant_of-port : goal.invariant_of-port
invariant_of-port g c = let q = c.port.inside in let looked = c.look_at_rest-looked.ensures in
    looked_port q.seat q.payload q.token q.steps q.poll_count.count q.state c.port.invariant c.port.view_is c.requires.state looked.advances looked.polls

pub returns : goal.returns
returns g c = let q = c.port.inside in let looked = c.look_at_rest-looked in record {
  belongs = call_belongs q.seat q.payload q.steps q.poll_count.count c.requires.belongs c.port.view_is looked.ensures.advances q.payload looked.result.steps;
  found = looked_found q.seat q.payload q.token q.steps q.poll_count.count q.state c.port.invariant c.port.view_is c.requires.state looked.ensures.advances looked.ensures.polls c.requires.belongs;
  counts = search rules;
  keeps_note = search rules;
}
