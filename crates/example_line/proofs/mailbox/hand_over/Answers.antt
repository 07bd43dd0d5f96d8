use Rattle.std.proofs.Common.{ℕ, ◌<◌, List, length, slice_index_or, sym, subst, ◌∙◌}
use Rattle.example_line.proofs.Counting.{of_ok, opened_many}
use Rattle.example_line.proofs.Exchanging.{sum_at_last, both_at_last, each_port}
use Rattle.example_line.proofs.mailbox.hand_over.Goals as goal

pub finish-requires : goal.finish-requires
finish-requires g c =
    let belongs = g.L.LineSync.belongs c.in_ok-line.line in
    let post = c.in_ok-handed.ensures.post in
    let each = each_port _ belongs c.in_ok-handed.handed.items (λ i d lt. (post i d lt).0) in
    record {
      belongs = λ k d lt label.
          subst (λ (ports : List g.row.L-Port.Denot). (k : ℕ) (d : g.row.L-Port.Denot) → k < length ports → belongs (slice_index_or ports k d)) (sym c.in_ok-ports.ensures.ports) each k d lt;
    }

pub returns-clause-sum : goal.returns-clause-sum
returns-clause-sum g c =
    let line = c.in_ok-line.line in
    let opens = of_ok _ c.open_with.result (line, c.in_ok-line.ports) (sym c.ok.ensures.value ∙ c.in_ok-line.was) c.open_with.ensures.opens in
    let finished = of_ok _ c.finish.result c.in_ok-ok.field-0 (sym c.ok-2.ensures.value ∙ c.in_ok-ok.was) c.finish.ensures.finished in
    let belongs = g.L.LineSync.belongs line in
    let two = sym c.in_ok-handed.handed.ok.0 ∙ (c.in_ok-handed.ensures.len ∙ (c.in_ok-line.ports.ok.0 ∙ opened_many g.L.LineSync.view belongs _ _ _ _ c.in_ok-line.ports.items opens)) in
    let post = c.in_ok-handed.ensures.post in
    sum_at_last g.L.LineSync.view _ _ _ _ _ _ _ c.in_ok-handed.handed.items c.in_ok-ports.ports.items c.in_ok-ok.field-0.bytes c.args.values c.in_ok-ports.sum finished opens.config_is c.zero.ensures c.in_ok-ports.ensures.ports two
    (λ i d lt first. (post i d lt).2 first) (λ i d lt other. (post i d lt).3 other) c.in_ok-ports.ensures.sum

pub returns-clause-handed : goal.returns-clause-handed
returns-clause-handed g c =
    let line = c.in_ok-line.line in
    let opens = of_ok _ c.open_with.result (line, c.in_ok-line.ports) (sym c.ok.ensures.value ∙ c.in_ok-line.was) c.open_with.ensures.opens in
    let belongs = g.L.LineSync.belongs line in
    let two = sym c.in_ok-handed.handed.ok.0 ∙ (c.in_ok-handed.ensures.len ∙ (c.in_ok-line.ports.ok.0 ∙ opened_many g.L.LineSync.view belongs _ _ _ _ c.in_ok-line.ports.items opens)) in
    let post = c.in_ok-handed.ensures.post in (
      line,
      both_at_last g.L.LineSync.view _ _ belongs c.in_ok-handed.handed.items c.in_ok-ports.ports.items c.args.values c.in_ok-ports.sum c.in_ok-ports.ensures.ports two
          (λ i d lt. (post i d lt).0) (λ i d lt first. (post i d lt).2 first) (λ i d lt other. (post i d lt).3 other) c.in_ok-ports.ensures.sum,
    )
