use Rattle.std.proofs.Common.{rules, sym, subst}
use Rattle.line_generic.specs.declared.table.TableKey.{TableKey}
use Rattle.line_generic.specs.Ports.{IsOpened}
use Rattle.line_generic.proofs.Splitting.{split_opens, split_unused}
use Rattle.line_generic.proofs.line.Line.with_config.Goals as goal

pub returns-clause-opened : goal.returns-clause-opened
returns-clause-opened g c = let key : TableKey = record { label = c.args.label; config = c.args.config } in record {
  opens = subst (λ (k : TableKey). IsOpened g.K.Keep.good g.K.Keep.allows k c.in-Ok.line.table.shared.table_id c.args.label c.args.config c.in-Ok-split_ports.ports.items) (sym c.in-Ok.ensures.1)
      (split_opens g.K.Keep.good g.K.Keep.allows c.in-Ok.line.table.shared.table_id key c.in-Ok-split_ports.ports.items c.in-Ok-split_ports.ensures (search rules) c.requires);
  unused = split_unused g.K.Keep.good g.K.Keep.allows c.in-Ok.line.table.shared.table_id key c.in-Ok-split_ports.ports.items c.in-Ok-split_ports.ensures;
  may_open = search rules;
}
