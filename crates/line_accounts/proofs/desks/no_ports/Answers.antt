use Rattle.std.proofs.Common.{◌≡◌, ◌+◌, ◌∷◌, [], length, Vec, Global, ap, ◌∙◌, length-append}
use Rattle.std.proofs.lemmas.List.Elements.{All-same, All-push}
use Rattle.line_accounts.proofs.desks.no_ports.Goals as goal

pub loop-column-preserved : goal.loop-column-preserved
loop-column-preserved g c =
    let pushed = c.in_ok-push.ensures.items in (
      All-same (λ (ports : Vec g.row.P.Denot Global). ports.items ≡ []) _ _ pushed (All-push (λ (ports : Vec g.row.P.Denot Global). ports.items ≡ []) c.loop-column.columns.items c.new.result c.loop-column.invariant.0 c.new.ensures.items),
      ap length pushed ∙ (length-append c.loop-column.columns.items (c.new.result ∷ []) ∙ ap (λ n. n + 1) c.loop-column.invariant.1),
    )
