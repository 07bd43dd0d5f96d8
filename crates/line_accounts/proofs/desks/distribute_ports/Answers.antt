use Rattle.std.proofs.Common.{◌≡◌, ◌≤◌, ◌+◌, ◌++◌, ◌∷◌, [], List, All, Vec, Global, length, map, drop, vec_len, ap, sym, ◌∙◌, subst, arith, length-append, append_assoc}
use Rattle.std.specs.Vec.Iter.{into_iter_items}
use Rattle.std.proofs.lemmas.List.Elements.{All-nil, All-same, All-rest, All-push}
use Rattle.line_accounts.specs.Desks.{DeskOf, IsDeskOver}
use Rattle.line_accounts.specs.NewDesks.{IsNewPort, IsColumn, IsUnpaid}
use Rattle.line_accounts.proofs.Columns.{HaveDealt, all_first, columns_none, column_at, dealt_none, dealt_more, desks_dealt, desks_move, all_given, all_moved, first_left, drop-next}
use Rattle.line_accounts.proofs.desks.distribute_ports.Goals as goal

pub loop-line-init : goal.loop-line-init
loop-line-init g c =
    let all = c.into_iter-line-iterator.ensures.into_iter_gives.0 in
    let none = c.in_ok-lines.ensures.items in record {
      left = All-same (λ (line : g.row.L.Denot × Vec g.row.L-Port.Denot Global). All (IsNewPort g.L.LineSync.belongs g.L.LineSync.view line.0) line.1.items) _ _ all c.requires.new;
      enough = All-same (λ (line : g.row.L.Denot × Vec g.row.L-Port.Denot Global). c.args.count ≤ vec_len line.1) _ _ all c.requires.enough;
      given = ap (λ (ls : List g.row.L.Denot). ls ++ map (λ (line : g.row.L.Denot × Vec g.row.L-Port.Denot Global). line.0) (into_iter_items c.into_iter-line-iterator.result)) none
          ∙ ap (λ (ls : List (g.row.L.Denot × Vec g.row.L-Port.Denot Global)). map (λ line. line.0) ls) all;
      columns = columns_none g.L.LineSync.belongs g.L.LineSync.view c.in_ok-lines.lines.items c.in_ok-columns.columns.items none c.in_ok-columns.ensures.empty;
      many = omega (arith, c.in_ok-columns.ensures.len, c.in_ok-columns.columns.ok.0);
      rest = all ∙ ap (λ (ls : List g.row.L.Denot). drop (length ls) c.args.opened.items) (sym none);
      dealt = dealt_none c.args.opened.items (length c.in_ok-lines.lines.items) c.in_ok-columns.columns.items (ap length none);
    }

pub add_line-requires-clause-ports : goal.add_line-requires-clause-ports
add_line-requires-clause-ports g c =
    all_first (λ (line : g.row.L.Denot × Vec g.row.L-Port.Denot Global). All (IsNewPort g.L.LineSync.belongs g.L.LineSync.view line.0) line.1.items) (c.in-Some.line, c.in-Some.ports) (into_iter_items c.next.new.self) _ c.in-Some.ensures.steps.0 c.loop-line.invariant.left

pub add_line-requires-clause-enough : goal.add_line-requires-clause-enough
add_line-requires-clause-enough g c =
    let one = all_first (λ (line : g.row.L.Denot × Vec g.row.L-Port.Denot Global). c.args.count ≤ vec_len line.1) (c.in-Some.line, c.in-Some.ports) (into_iter_items c.next.new.self) _ c.in-Some.ensures.steps.0 c.loop-line.invariant.enough in
    omega (arith, one, c.loop-line.invariant.many, c.loop-line.columns.ok.0)

pub loop-line-preserved : goal.loop-line-preserved
loop-line-preserved g c =
    let step = c.in-Some.ensures.steps.0 in
    let one_more : length c.add_line.new.lines.items ≡ length c.loop-line.lines.items + 1 = ap length c.in_ok-add_line.ensures.lines ∙ length-append c.loop-line.lines.items (c.in-Some.line ∷ []) in record {
      left = All-rest (λ (line : g.row.L.Denot × Vec g.row.L-Port.Denot Global). All (IsNewPort g.L.LineSync.belongs g.L.LineSync.view line.0) line.1.items) (c.in-Some.line, c.in-Some.ports) (into_iter_items c.next.new.self) (into_iter_items c.loop-line.line-iterator) step c.loop-line.invariant.left;
      enough = All-rest (λ (line : g.row.L.Denot × Vec g.row.L-Port.Denot Global). c.args.count ≤ vec_len line.1) (c.in-Some.line, c.in-Some.ports) (into_iter_items c.next.new.self) (into_iter_items c.loop-line.line-iterator) step c.loop-line.invariant.enough;
      given = ap (λ (ls : List g.row.L.Denot). ls ++ map (λ (line : g.row.L.Denot × Vec g.row.L-Port.Denot Global). line.0) (into_iter_items c.next.new.self)) c.in_ok-add_line.ensures.lines
          ∙ append_assoc c.loop-line.lines.items (c.in-Some.line ∷ []) (map (λ (line : g.row.L.Denot × Vec g.row.L-Port.Denot Global). line.0) (into_iter_items c.next.new.self))
          ∙ ap (λ (ls : List (g.row.L.Denot × Vec g.row.L-Port.Denot Global)). c.loop-line.lines.items ++ map (λ line. line.0) ls) (sym step)
          ∙ c.loop-line.invariant.given;
      columns = c.in_ok-add_line.ensures.columns;
      many = omega (arith, c.add_line.ensures.len, c.loop-line.invariant.many, c.loop-line.columns.ok.0, c.add_line.new.columns.ok.0);
      rest = drop-next c.args.opened.items (into_iter_items c.next.new.self) (c.in-Some.line, c.in-Some.ports) (length c.loop-line.lines.items) (sym c.loop-line.invariant.rest ∙ step) ∙ ap (λ n. drop n c.args.opened.items) (sym one_more);
      dealt = subst (λ n. HaveDealt c.args.opened.items n c.add_line.new.columns.items) (sym one_more)
          (dealt_more c.args.opened.items (length c.loop-line.lines.items) c.loop-line.columns.items c.add_line.new.columns.items (c.in-Some.line, c.in-Some.ports)
          (first_left c.args.opened.items (into_iter_items c.next.new.self) (c.in-Some.line, c.in-Some.ports) (length c.loop-line.lines.items) (sym c.loop-line.invariant.rest ∙ step))
          (λ k column at. (column_at g.L.LineSync.belongs g.L.LineSync.view c.loop-line.lines.items c.loop-line.columns.items c.loop-line.invariant.columns k column at).over.count)
          c.in_ok-add_line.ensures.gains c.loop-line.invariant.dealt);
    }

pub loop-ports-init : goal.loop-ports-init
loop-ports-init g c =
    let all = c.into_iter-ports-iterator.ensures.into_iter_gives.0 in
    let none = c.in_ok-desks.ensures.items in record {
      left = All-same (λ (ports : Vec g.row.L-Port.Denot Global). IsColumn g.L.LineSync.belongs g.L.LineSync.view c.loop-line.lines.items ports.items) _ _ all c.loop-line.invariant.columns;
      over = All-same (λ (desk : DeskOf g.row.L-Port.Denot). IsDeskOver g.L.LineSync.belongs g.L.LineSync.view c.loop-line.lines.items desk) _ _ none (All-nil _);
      unpaid = All-same (λ (desk : DeskOf g.row.L-Port.Denot). IsUnpaid desk) _ _ none (All-nil _);
      many = let long = ap length all in let zero = ap length none in omega (arith, long, zero, c.loop-line.invariant.many);
      dealt = ap (λ (ds : List (DeskOf g.row.L-Port.Denot)). map (λ (desk : DeskOf g.row.L-Port.Denot). desk.ports) ds ++ map (λ (ports : Vec g.row.L-Port.Denot Global). ports.items) (into_iter_items c.into_iter-ports-iterator.result)) none;
    }

pub new-requires : goal.new-requires
new-requires g c =
    (all_first (λ (ports : Vec g.row.L-Port.Denot Global). IsColumn g.L.LineSync.belongs g.L.LineSync.view c.loop-line.lines.items ports.items) c.in-Some-ports.ports (into_iter_items c.next-in-loop-ports.new.self) _ c.in-Some-ports.ensures.steps.0 c.loop-ports.invariant.left).unused

pub loop-ports-preserved : goal.loop-ports-preserved
loop-ports-preserved g c =
    let step = c.in-Some-ports.ensures.steps.0 in
    let pushed = c.in_ok-push.ensures.items in
    let own = all_first (λ (ports : Vec g.row.L-Port.Denot Global). IsColumn g.L.LineSync.belongs g.L.LineSync.view c.loop-line.lines.items ports.items) c.in-Some-ports.ports (into_iter_items c.next-in-loop-ports.new.self) _ step c.loop-ports.invariant.left in record {
      left = All-rest (λ (ports : Vec g.row.L-Port.Denot Global). IsColumn g.L.LineSync.belongs g.L.LineSync.view c.loop-line.lines.items ports.items) c.in-Some-ports.ports (into_iter_items c.next-in-loop-ports.new.self) (into_iter_items c.loop-ports.ports-iterator) step c.loop-ports.invariant.left;
      over = All-same (λ (desk : DeskOf g.row.L-Port.Denot). IsDeskOver g.L.LineSync.belongs g.L.LineSync.view c.loop-line.lines.items desk) _ _ pushed
          (All-push (λ (desk : DeskOf g.row.L-Port.Denot). IsDeskOver g.L.LineSync.belongs g.L.LineSync.view c.loop-line.lines.items desk) c.loop-ports.desks.items c.new.result c.loop-ports.invariant.over (c.new.ensures.over c.loop-line.lines.items own.over));
      unpaid = All-same (λ (desk : DeskOf g.row.L-Port.Denot). IsUnpaid desk) _ _ pushed
          (All-push (λ (desk : DeskOf g.row.L-Port.Denot). IsUnpaid desk) c.loop-ports.desks.items c.new.result c.loop-ports.invariant.unpaid (record { paid_in = c.new.ensures.paid_in; paid_out = c.new.ensures.paid_out }));
      many =
          let one = ap length pushed in
          let more = length-append c.loop-ports.desks.items (c.new.result ∷ []) in
          let rest = ap length step in
          omega (arith, one, more, rest, c.loop-ports.invariant.many);
      dealt = desks_move c.loop-ports.desks.items c.push.new.self.items c.new.result c.in-Some-ports.ports (into_iter_items c.next-in-loop-ports.new.self) (into_iter_items c.loop-ports.ports-iterator) pushed c.new.ensures.ports step ∙ c.loop-ports.invariant.dealt;
    }

pub returns-clause-dealt : goal.returns-clause-dealt
returns-clause-dealt g c =
    let end : length (into_iter_items c.loop-ports.ports-iterator) ≡ 0 = sym c.loop-ports.ports-iterator.rest.ok.0 ∙ c.in-None-ports.ensures.steps.0 in
    let done : length (into_iter_items c.loop-line.line-iterator) ≡ 0 = sym c.loop-line.line-iterator.rest.ok.0 ∙ c.in-None.ensures.steps.0 in
    desks_dealt c.args.opened.items (length c.loop-line.lines.items) c.loop-line.columns.items c.loop-ports.desks.items
    (all_given (λ (line : g.row.L.Denot × Vec g.row.L-Port.Denot Global). line.0) c.loop-line.lines.items (into_iter_items c.loop-line.line-iterator) c.args.opened.items done c.loop-line.invariant.given) c.loop-line.invariant.dealt
    (all_moved (map (λ (desk : DeskOf g.row.L-Port.Denot). desk.ports) c.loop-ports.desks.items) (λ (column : Vec g.row.L-Port.Denot Global). column.items) (into_iter_items c.loop-ports.ports-iterator) _ end c.loop-ports.invariant.dealt
    ∙ ap (λ (cs : List (Vec g.row.L-Port.Denot Global)). map (λ (column : Vec g.row.L-Port.Denot Global). column.items) cs) c.into_iter-ports-iterator.ensures.into_iter_gives.0)

pub returns-clause-lines : goal.returns-clause-lines
returns-clause-lines g c =
    let done : length (into_iter_items c.loop-line.line-iterator) ≡ 0 = sym c.loop-line.line-iterator.rest.ok.0 ∙ c.in-None.ensures.steps.0 in
    all_moved c.loop-line.lines.items (λ (line : g.row.L.Denot × Vec g.row.L-Port.Denot Global). line.0) (into_iter_items c.loop-line.line-iterator) _ done c.loop-line.invariant.given

pub returns-clause-len : goal.returns-clause-len
returns-clause-len g c =
    let end : length (into_iter_items c.loop-ports.ports-iterator) ≡ 0 = sym c.loop-ports.ports-iterator.rest.ok.0 ∙ c.in-None-ports.ensures.steps.0 in
    omega (arith, end, c.loop-ports.invariant.many, c.loop-ports.desks.ok.0)

pub returns-clause-unpaid : goal.returns-clause-unpaid
returns-clause-unpaid g c = c.loop-ports.invariant.unpaid

pub returns-clause-over : goal.returns-clause-over
returns-clause-over g c = c.loop-ports.invariant.over
