use Rattle.std.proofs.Common.{◌≡◌, ◌<◌, ◌∷◌, ◌++◌, [], List, All, Vec, Global, length, refl, ap, sym, ◌∙◌, subst, arith}
use Rattle.std.specs.Vec.Iter.{into_iter_items}
use Rattle.std.proofs.lemmas.List.{length-set, with_items_is}
use Rattle.std.proofs.lemmas.Option.{slice_get_read}
use Rattle.std.proofs.lemmas.List.Elements.{All-rest, All-same}
use Rattle.line_accounts.specs.NewDesks.{IsNewPort, IsColumn, GainEach}
use Rattle.line_accounts.proofs.Columns.{IsAdding, IsGaining, all_first, adding_none, adding_more, adding_all, gaining_none, gaining_more, gaining_all, first_left, drop-next}
use Rattle.line_accounts.proofs.desks.add_line.Goals as goal

pub loop-column-preserved : goal.loop-column-preserved
loop-column-preserved g c =
    let lt : c.loop-column.column-index < length c.loop-column.column-items = omega arith in
    let step = c.in-Some.ensures.items in
    let is : c.push.new.self.items ≡ c.column-item.result.items ++ c.in-Some.port ∷ [] = c.in_ok-push.ensures.items ∙ ap (λ (column : Vec g.row.L-Port.Denot Global). column.items ++ c.in-Some.port ∷ []) (sym c.column-item.is) in
    let new = all_first (λ (port : g.row.L-Port.Denot). IsNewPort g.L.LineSync.belongs g.L.LineSync.view c.args.line port) c.in-Some.port (into_iter_items c.next.new.self) (into_iter_items c.loop-column.ports) step c.loop-column.invariant.ports in record {
      adding = adding_more g.L.LineSync.belongs g.L.LineSync.view c.args.lines.now.items c.args.line c.loop-column.column-items c.loop-column.column-index c.column-item.result c.push.new.self c.in-Some.port c.loop-column.invariant.adding lt
          (slice_get_read c.loop-column.column-items (length c.loop-column.column-items) c.loop-column.column-index c.column-item.result refl lt c.column-item.is) is new;
      ports = All-rest (λ (port : g.row.L-Port.Denot). IsNewPort g.L.LineSync.belongs g.L.LineSync.view c.args.line port) c.in-Some.port (into_iter_items c.next.new.self) (into_iter_items c.loop-column.ports) step c.loop-column.invariant.ports;
      gaining = gaining_more c.args.ports.items c.args.columns.now.items c.loop-column.column-items c.loop-column.column-index c.column-item.result c.push.new.self c.in-Some.port c.loop-column.invariant.gaining lt
          (slice_get_read c.loop-column.column-items (length c.loop-column.column-items) c.loop-column.column-index c.column-item.result refl lt c.column-item.is)
          (first_left c.args.ports.items (into_iter_items c.next.new.self) c.in-Some.port c.loop-column.column-index (sym c.loop-column.invariant.next ∙ step)) is;
      next = drop-next c.args.ports.items (into_iter_items c.next.new.self) c.in-Some.port c.loop-column.column-index (sym c.loop-column.invariant.next ∙ step);
      enough = let rest = ap length step in omega (arith, rest, c.loop-column.invariant.enough, length-set c.loop-column.column-items c.loop-column.column-index c.push.new.self);
    }

pub loop-column-init : goal.loop-column-init
loop-column-init g c =
    let value = c.deref_mut-column-items.ensures.value in
    let left = c.into_iter-ports.ensures.rest in record {
      adding = subst (λ (columns : List (Vec g.row.L-Port.Denot Global)). IsAdding g.L.LineSync.belongs g.L.LineSync.view c.args.lines.now.items c.args.line columns 0) (sym value) (adding_none g.L.LineSync.belongs g.L.LineSync.view c.args.lines.now.items c.args.line c.args.columns.now.items c.requires.columns);
      ports = All-same (λ (port : g.row.L-Port.Denot). IsNewPort g.L.LineSync.belongs g.L.LineSync.view c.args.line port) _ _ left c.requires.ports;
      gaining = subst (λ (columns : List (Vec g.row.L-Port.Denot Global)). IsGaining c.args.ports.items c.args.columns.now.items columns 0) (sym value) (gaining_none c.args.ports.items c.args.columns.now.items);
      next = left;
      enough = omega (arith, ap length value, ap length left, c.requires.enough, c.args.columns.now.ok.0, c.args.ports.ok.0);
    }

pub returns-clause-columns : goal.returns-clause-columns
returns-clause-columns g c =
    let value = c.deref_mut-column-items.ensures.value in
    let many : length c.loop-column.column-items ≡ c.args.columns.now.len = omega (arith, ap length value, c.args.columns.now.ok.0) in
    let all : c.loop-column.column-index ≡ length c.loop-column.column-items = omega arith in
    let whole = with_items_is c.args.columns.now c.loop-column.column-items many in
    All-same (λ (column : Vec g.row.L-Port.Denot Global). IsColumn g.L.LineSync.belongs g.L.LineSync.view c.push-2.new.self.items column.items) _ _ whole
    (subst (λ (lines : List g.row.L.Denot). All (λ (column : Vec g.row.L-Port.Denot Global). IsColumn g.L.LineSync.belongs g.L.LineSync.view lines column.items) c.loop-column.column-items) (sym c.in_ok-push-2.ensures.items)
    (adding_all g.L.LineSync.belongs g.L.LineSync.view c.args.lines.now.items c.args.line c.loop-column.column-items c.loop-column.column-index c.loop-column.invariant.adding all))

pub returns-clause-gains : goal.returns-clause-gains
returns-clause-gains g c =
    let value = c.deref_mut-column-items.ensures.value in
    let many : length c.loop-column.column-items ≡ c.args.columns.now.len = omega (arith, ap length value, c.args.columns.now.ok.0) in
    let all : c.loop-column.column-index ≡ length c.loop-column.column-items = omega arith in
    let whole = with_items_is c.args.columns.now c.loop-column.column-items many in
    subst (λ (columns : List (Vec g.row.L-Port.Denot Global)). GainEach c.args.ports.items c.args.columns.now.items columns) (sym whole)
    (gaining_all c.args.ports.items c.args.columns.now.items c.loop-column.column-items c.loop-column.column-index c.loop-column.invariant.gaining all)
