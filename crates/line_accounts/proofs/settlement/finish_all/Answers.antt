use Rattle.std.proofs.Common.{◌≡◌, ◌<◌, ◌+◌, ◌^◌, ◌∷◌, [], List, length, map, sym, ap, subst, ◌∙◌, arith, length-append}
use Rattle.std.proofs.lemmas.Option.{slice_get-get_or, slice_get_within, get_or_from_slice_get}
use Rattle.line_lanes.specs.declared.line.Line64.{Line64}
use Rattle.qolb_model.specs.Finishing.{IsFinished}
use Rattle.line_accounts.specs.Accounts.{AreBalances, StayBalances}
use Rattle.line_accounts.specs.Desks.{DeskOf, IsDeskOver}
use Rattle.line_accounts.proofs.Settlements.{IsLeft, IsRest, AddsUp, IsBounded, left_first, rest_first, rest_then, rest_last, adds_first, bounded_first, left_then, taken_belongs, finished_with, adds_then, bounded_then, fits_total, adds_last, some_left, nothing_left, none_has}
use Rattle.line_accounts.proofs.settlement.finish_all.Goals as goal

pub loop-line-init : goal.loop-line-init
loop-line-init g c = record {
  left = left_first g.L.LineSync.belongs g.L.LineSync.view g.L.LineSync.config_of c.args.lines.items c.args.desks.items
      (λ k desk at. subst (λ (d : DeskOf g.row.L-Port.Denot). IsDeskOver g.L.LineSync.belongs g.L.LineSync.view c.args.lines.items d) (get_or_from_slice_get c.args.desks.items k desk desk at) (c.requires.over k desk (slice_get_within c.args.desks.items k desk at)))
      c.requires.there;
  rest = rest_first g.L.LineSync.belongs g.L.LineSync.view g.L.LineSync.label_of g.L.LineSync.config_of c.args.lines.items c.args.desks.items;
  adds_up = adds_first g.L.LineSync.view g.L.LineSync.config_of c.args.lines.items c.args.desks.items;
  bounded = bounded_first (length c.args.lines.items);
}

pub take_last-requires : goal.take_last-requires
take_last-requires g c =
    let left = subst (λ (l : List g.row.L.Denot). IsLeft g.L.LineSync.belongs g.L.LineSync.view g.L.LineSync.config_of l c.loop-line.desks.items) c.in-Some.ensures.items c.loop-line.invariant.left in
    λ k d lt. some_left g.L.LineSync.belongs g.L.LineSync.view g.L.LineSync.config_of c.pop.new.self.items c.in-Some.line c.loop-line.desks.items left k _ (slice_get-get_or c.loop-line.desks.items k d lt)

pub finish-requires : goal.finish-requires
finish-requires g c = record {
  belongs = λ k d lt same.
      taken_belongs g.L.LineSync.belongs g.L.LineSync.view g.L.LineSync.config_of c.pop.new.self.items c.in-Some.line c.loop-line.desks.items c.take_last.new.desks.items c.in_ok-ports.ports.items
      (subst (λ (l : List g.row.L.Denot). IsLeft g.L.LineSync.belongs g.L.LineSync.view g.L.LineSync.config_of l c.loop-line.desks.items) c.in-Some.ensures.items c.loop-line.invariant.left)
      c.in_ok-ports.ensures k _ (slice_get-get_or c.in_ok-ports.ports.items k d lt);
}

pub overflow_add-total : goal.overflow_add-total
overflow_add-total g c =
    let f = finished_with (λ (last : Line64). IsFinished AreBalances StayBalances (g.L.LineSync.label_of c.in-Some.line) (g.L.LineSync.config_of c.in-Some.line) (map g.L.LineSync.view c.in_ok-ports.ports.items) last.bytes) c.finish.result c.in_ok-last.last (sym c.ok.ensures.value ∙ c.in_ok-last.was) c.finish.ensures.finished in
    let more : length c.loop-line.lines.items ≡ length c.pop.new.self.items + 1 = ap length c.in-Some.ensures.items ∙ length-append c.pop.new.self.items (c.in-Some.line ∷ []) in
    let bounded = subst (λ n. IsBounded (length c.args.lines.items) n c.loop-line.total) more c.loop-line.invariant.bounded in
    let few : length c.args.lines.items < 2 ^ 64 = omega (arith, c.args.lines.ok.0, c.args.lines.small) in
    let sum : c.loop-line.total + c.lane_sum-total.result < 2 ^ 128 = subst (λ n. c.loop-line.total + n < 2 ^ 128) (sym c.lane_sum-total.ensures) (fits_total (length c.args.lines.items) (length c.pop.new.self.items) c.loop-line.total c.in_ok-last.last.bytes bounded f.is_good few) in
    record { fits = sum }

pub loop-line-preserved : goal.loop-line-preserved
loop-line-preserved g c =
    let left = subst (λ (l : List g.row.L.Denot). IsLeft g.L.LineSync.belongs g.L.LineSync.view g.L.LineSync.config_of l c.loop-line.desks.items) c.in-Some.ensures.items c.loop-line.invariant.left in
    let f = finished_with (λ (last : Line64). IsFinished AreBalances StayBalances (g.L.LineSync.label_of c.in-Some.line) (g.L.LineSync.config_of c.in-Some.line) (map g.L.LineSync.view c.in_ok-ports.ports.items) last.bytes) c.finish.result c.in_ok-last.last (sym c.ok.ensures.value ∙ c.in_ok-last.was) c.finish.ensures.finished in
    let more : length c.loop-line.lines.items ≡ length c.pop.new.self.items + 1 = ap length c.in-Some.ensures.items ∙ length-append c.pop.new.self.items (c.in-Some.line ∷ []) in
    let bounded = subst (λ n. IsBounded (length c.args.lines.items) n c.loop-line.total) more c.loop-line.invariant.bounded in
    let rest = subst (λ (l : List g.row.L.Denot). IsRest g.L.LineSync.belongs g.L.LineSync.view g.L.LineSync.label_of g.L.LineSync.config_of c.args.lines.items c.args.desks.items l c.loop-line.desks.items) c.in-Some.ensures.items c.loop-line.invariant.rest in
    let adds = subst (λ (l : List g.row.L.Denot). AddsUp g.L.LineSync.view g.L.LineSync.config_of c.args.lines.items l c.args.desks.items c.loop-line.desks.items c.loop-line.total) c.in-Some.ensures.items c.loop-line.invariant.adds_up in
    record {
      left = left_then g.L.LineSync.belongs g.L.LineSync.view g.L.LineSync.config_of c.pop.new.self.items c.in-Some.line c.loop-line.desks.items c.take_last.new.desks.items c.in_ok-ports.ports.items left c.in_ok-ports.ensures;
      rest = rest_then g.L.LineSync.belongs g.L.LineSync.view g.L.LineSync.label_of g.L.LineSync.config_of c.args.lines.items c.args.desks.items c.pop.new.self.items c.in-Some.line c.loop-line.desks.items c.take_last.new.desks.items c.in_ok-ports.ports.items left c.in_ok-ports.ensures rest c.in_ok-last.last.bytes f;
      adds_up = subst (λ n. AddsUp g.L.LineSync.view g.L.LineSync.config_of c.args.lines.items c.pop.new.self.items c.args.desks.items c.take_last.new.desks.items (c.loop-line.total + n)) (sym c.lane_sum-total.ensures)
          (adds_then g.L.LineSync.belongs g.L.LineSync.view g.L.LineSync.config_of c.args.lines.items c.pop.new.self.items c.in-Some.line c.args.desks.items c.loop-line.desks.items c.take_last.new.desks.items c.in_ok-ports.ports.items _ c.loop-line.total c.in_ok-last.last.bytes left c.in_ok-ports.ensures f adds);
      bounded = subst (λ n. IsBounded (length c.args.lines.items) (length c.pop.new.self.items) (c.loop-line.total + n)) (sym c.lane_sum-total.ensures) (bounded_then (length c.args.lines.items) (length c.pop.new.self.items) c.loop-line.total c.in_ok-last.last.bytes bounded f.is_good);
    }

pub returns : goal.returns
returns g c = record {
  total = adds_last g.L.LineSync.belongs g.L.LineSync.view g.L.LineSync.config_of c.args.lines.items c.loop-line.lines.items c.args.desks.items c.loop-line.desks.items c.loop-line.total (nothing_left c.loop-line.lines.items (sym c.loop-line.lines.ok.0 ∙ c.in_default.ensures.cases.0)) c.loop-line.invariant.left c.loop-line.invariant.adds_up
      (λ k desk at. subst (λ (d : DeskOf g.row.L-Port.Denot). IsDeskOver g.L.LineSync.belongs g.L.LineSync.view c.args.lines.items d) (get_or_from_slice_get c.args.desks.items k desk desk at) (c.requires.over k desk (slice_get_within c.args.desks.items k desk at)));
  settled = rest_last g.L.LineSync.belongs g.L.LineSync.view g.L.LineSync.label_of g.L.LineSync.config_of c.args.lines.items c.args.desks.items c.loop-line.lines.items c.loop-line.desks.items (nothing_left c.loop-line.lines.items (sym c.loop-line.lines.ok.0 ∙ c.in_default.ensures.cases.0)) c.loop-line.invariant.rest;
}

pub returns-in_err-ports-clause-total : goal.returns-in_err-ports-clause-total
returns-in_err-ports-clause-total g c = none_has _ c.from_residual.result c.from_residual.ensures

pub returns-in_err-last-clause-total : goal.returns-in_err-last-clause-total
returns-in_err-last-clause-total g c = none_has _ c.from_residual-in_err-last.result c.from_residual-in_err-last.ensures

pub loop-line-smaller : goal.loop-line-smaller
loop-line-smaller g c =
    let more : length c.loop-line.lines.items ≡ length c.pop.new.self.items + 1 = ap length c.in-Some.ensures.items ∙ length-append c.pop.new.self.items (c.in-Some.line ∷ []) in
    omega (arith, more)

pub returns-in_err-ports-clause-settled : goal.returns-in_err-ports-clause-settled
returns-in_err-ports-clause-settled g c = none_has _ c.from_residual.result c.from_residual.ensures

pub returns-in_err-last-clause-settled : goal.returns-in_err-last-clause-settled
returns-in_err-last-clause-settled g c = none_has _ c.from_residual-in_err-last.result c.from_residual-in_err-last.ensures
