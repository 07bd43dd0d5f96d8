use Rattle.std.proofs.Common.{refl}
use Rattle.line_generic.proofs.Calling.{written_port}
use Rattle.line_generic.proofs.calls.LineLineSync.write.Goals as goal

pub invariant_of-port : goal.invariant_of-port
invariant_of-port g c = let q = c.port.inside in written_port q.seat q.payload q.token q.steps q.poll_count.count q.state c.port.invariant c.port.view_is _ c.args.mask.0 c.args.bytes.now.bytes c.requires c.merge-port-inside.ensures c.with-port-inside.ensures refl
