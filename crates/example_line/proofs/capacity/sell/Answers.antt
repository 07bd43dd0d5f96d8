use Rattle.std.proofs.Common.{sym, refl, ◌∙◌}
use Rattle.example_line.proofs.Counting.{of_ok, opened_many, fits_all}
use Rattle.example_line.proofs.Selling.{sold_at_last}
use Rattle.example_line.proofs.capacity.sell.Goals as goal

pub run_scoped-requires-clause-fit : goal.run_scoped-requires-clause-fit
run_scoped-requires-clause-fit g c κs lft =
    let line = c.in_ok-line.line in
    let opens = of_ok _ c.open_with.result (line, c.in_ok-line.ports) (sym c.ok.ensures.value ∙ c.in_ok-line.was) c.open_with.ensures.opens in
    fits_all g.L.LineSync.view (g.L.LineSync.belongs line) _ _ _ _ c.in_ok-line.ports.items opens

pub returns-clause-least : goal.returns-clause-least
returns-clause-least g c =
    let line = c.in_ok-line.line in
    let opens = of_ok _ c.open_with.result (line, c.in_ok-line.ports) (sym c.ok.ensures.value ∙ c.in_ok-line.was) c.open_with.ensures.opens in
    let finished = of_ok _ c.finish.result c.in_ok-last.last (sym c.ok-2.ensures.value ∙ c.in_ok-last.was) c.finish.ensures.finished in
    let belongs = g.L.LineSync.belongs line in
    let many = sym c.in_ok-ports.ports.ok.0 ∙ (c.in_ok-ports.ensures.len ∙ (c.in_ok-line.ports.ok.0 ∙ opened_many g.L.LineSync.view belongs _ _ _ _ c.in_ok-line.ports.items opens)) in
    let post = c.in_ok-ports.ensures.post in
    sold_at_last g.L.LineSync.view _ _ _ _ _ c.in_ok-ports.ports.items c.in_ok-last.last.bytes c.args.customers c.lane.result finished opens.config_is refl c.zero.ensures many (λ i d lt. (post i d lt).2) c.lane.ensures
