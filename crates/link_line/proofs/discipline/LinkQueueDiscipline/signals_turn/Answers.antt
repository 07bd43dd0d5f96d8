use Rattle.std.proofs.Common.{◌≡◌, ℕ, ◌%◌, ◌^◌, slice_index, [], ◌∷◌, refl, arith, ap, ◌∙◌, ◌==◌}
use Rattle.link_line.specs.Layout.{is_granted}
use Rattle.link_line.specs.BetweenCalls.{wait_word}
use Rattle.link_line.proofs.Polling.{loads_next}
use Rattle.link_line.proofs.discipline.LinkQueueDiscipline.signals_turn.Goals as goal

pub returns-clause-polls : goal.returns-clause-polls
returns-clause-polls g c key id slots v stands s r deep at small =
    let i : ℕ = wait_word v.view.config.nodes v.view.node c.args._token in
    let found : ℕ = slice_index s.words i in
    let half : is_granted found ≡ is_granted (found % 2 ^ 32) = ap (λ r. r == 1) (let e : found % 2 ≡ found % 2 ^ 32 % 2 = omega arith in e) in
    let a = loads_next g.K.Keep.good g.K.Keep.allows key v stands id slots i (v ∷ [], []) refl refl s r deep at small in (
      a.0,
      a.1,
      a.2,
      a.3,
      record {
        queued = λ not_yet. let w = a.4.3 (half ∙ not_yet) in (w.0, w.1 c.args._token);
        at_turn = λ now. let w = a.4.2 (half ∙ now) in (w.0, w.1, w.2 c.args._token);
      },
    )
