use Rattle.std.proofs.Common.{refl, sym}
use Rattle.qolb_nodes.specs.declared.any_node.AnyNode.TheVariants as any
use Rattle.qolb_nodes.proofs.Opened.{if_ok_then, new_nodes_of}
use Rattle.qolb_nodes.proofs.any_node.nodes_of_kind.Goals as goal

pub returns-in_ok-new_nodes-in-Ring-clause-nodes : goal.returns-in_ok-new_nodes-in-Ring-clause-nodes
returns-in_ok-new_nodes-in-Ring-clause-nodes c =
    if_ok_then c.boxed.result
    (λ boxes is. new_nodes_of (λ p. p.view) any.Ring c.args.lines c.args.label c.args.config _ _ (λ n. refl) (λ n. sym c.in-Ring.is) (λ line p q. refl) c.in_ok-new_nodes-in-Ring.ensures.nodes is) c.boxed.ensures.nodes

pub returns-in_ok-new_nodes-in-Link-clause-nodes : goal.returns-in_ok-new_nodes-in-Link-clause-nodes
returns-in_ok-new_nodes-in-Link-clause-nodes c =
    if_ok_then c.boxed-in-Link.result
    (λ boxes is. new_nodes_of (λ p. p.view) any.Link c.args.lines c.args.label c.args.config _ _ (λ n. refl) (λ n. sym c.in-Link.is) (λ line p q. refl) c.in_ok-new_nodes-in-Link.ensures.nodes is) c.boxed-in-Link.ensures.nodes

pub returns-in_ok-new_nodes-in-Ticket-clause-nodes : goal.returns-in_ok-new_nodes-in-Ticket-clause-nodes
returns-in_ok-new_nodes-in-Ticket-clause-nodes c =
    if_ok_then c.boxed-in-Ticket.result
    (λ boxes is. new_nodes_of (λ p. p.view) any.Ticket c.args.lines c.args.label c.args.config _ _ (λ n. refl) (λ n. sym c.in-Ticket.is) (λ line p q. refl) c.in_ok-new_nodes-in-Ticket.ensures.nodes is) c.boxed-in-Ticket.ensures.nodes
