use Rattle.std.proofs.Common.{◌≡◌, ℕ, not, true, false, ◌++◌, sym, ap, ◌∙◌, append-nil}
use denote.Enum.Bare.{sameb}
use Rattle.qolb_draw.specs.contracts.bar.Stand.{the_type}
use Rattle.qolb_draw.specs.declared.bar.Stand.{Stand}
use Rattle.qolb_draw.specs.declared.bar.Stand.TheVariants as stand
use Rattle.qolb_draw.specs.Svg.{bar_text, texts}
use Rattle.qolb_draw.specs.Timelines.{bar_of}
use Rattle.qolb_draw.proofs.timeline.push_stand.Goals as goal

-- a node that is not away has one bar
one_bar : (row start end : ℕ) (s : Stand) (node : ℕ) → not (sameb the_type s stand.Away) ≡ true → texts (bar_of row start end s node) ≡ bar_text row start end s node
one_bar row start end stand.Away node h = absurd (let no : false ≡ true = h in cc no)
one_bar row start end stand.Waits node h = append-nil (bar_text row start end stand.Waits node)
one_bar row start end stand.AtTurn node h = append-nil (bar_text row start end stand.AtTurn node)
one_bar row start end stand.Holds node h = append-nil (bar_text row start end stand.Holds node)
one_bar row start end stand.Withdrawn node h = append-nil (bar_text row start end stand.Withdrawn node)

pub returns-in_ok-push_bar : goal.returns-in_ok-push_bar
returns-in_ok-push_bar g c =
    c.in_ok-push_bar.ensures ∙ ap (λ t. c.args.svg.now.items ++ t) (sym (one_bar c.args.row c.args.start c.args.end c.args.stand c.args.node (sym c.ne.ensures ∙ c.if-ne.true)))
