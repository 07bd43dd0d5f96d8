use Rattle.std.proofs.Common.{◌≡◌, ◌+◌}
use Rattle.qolb_model.specs.declared.answer.PortState.TheVariants.{Queued}
use Rattle.qolb_model.specs.Views.{Extends}
use Rattle.line_generic.specs.Ports.{BelongsTo}
use Rattle.qolb_nodes.specs.Nodes.{any_bytes, anything}
use Rattle.qolb_nodes.proofs.node.poll_on.Given as goal

abbrev pub invariant-loop-look : goal.invariant-loop-look
invariant-loop-look g l = record {
  belongs : BelongsTo any_bytes anything l.line.table.shared.key l.line.table.shared.table_id l.port;
  state : l.port.view.state ≡ Queued;
  extends : Extends l.initial.port.view l.port.view;
  count : l.port.view.count ≡ l.initial.port.view.count;
  token : l.port.token ≡ l.initial.port.token;
  poll_count : l.port.counters.poll_count + 1 ≡ l.initial.port.counters.poll_count + l._look;
}
