use Rattle.std.proofs.Common.{rules, ℕ, ap, sym, subst, ◌≡◌, ◌∙◌, ◌+◌, length, ⊎_elim}
use Rattle.line_cells.specs.Layout.{ticket_of}
use Rattle.line_cells.specs.Array.{has_line}
use Rattle.ticket_line.specs.Layout as layout
use Rattle.ticket_line.specs.Layout.{granted_word}
use Rattle.line_cells.specs.Steps.{ghost_of, Passes}
use Rattle.ticket_line.specs.Steps.{withdrawn_by, turn_ticket, SlotsAtGrant, SlotsAtRelease}
use Rattle.ticket_line.proofs.Stepping.{ticket_grants}
use Rattle.ticket_line.proofs.steps.grant.Goals as goal

pub swap-found-requires : goal.swap-found-requires
swap-found-requires g c = let y = c.requires.payload in (
  search rules,
  search rules,
  ticket_grants g.K.Keep.good g.K.Keep.allows c.args.table.now.key (ghost_of c.args.seat.now) _ _ _ c.args.seat.now.me c.requires.nodes g.K.Keep.stays_good (⊎_elim (λ a. ap has_line a.1) (λ a. ap has_line a.1) c.requires.point) y.0 y.2 c.args.seat.now.me.1
      (λ i. (⊎_elim (λ a. a.0) (λ a. a.0) c.requires.point i, c.args.seat.now.me.1)) y.1 c.args.next c.requires.next c.cell_word.ensures.0 c.granted_word.result (c.granted_word.ensures ∙ ap granted_word c.requires.next),
)

pub returns : goal.returns
returns g c = record {
  advances = search rules;
  ended = λ y laid. c.swap-found.ensures.2.1 y (subst (λ (n : ℕ). SlotsAtRelease n (turn_ticket c.args.seat.now) c.args.seat.now y) (sym c.requires.nodes) laid);
  handed_over = search rules;
  passes = λ some. let v = ghost_of c.args.seat.now in
      let w = ghost_of c.swap-found.new.seat in
      let same : c.withdrawn_by.result ≡ withdrawn_by (length v.view.ends + 1) c.swap-found.result = c.withdrawn_by.ensures ∙ ap (λ t. layout.withdrawn_by t c.swap-found.result) c.requires.next in
      let told = c.swap-found.ensures.2.3 (λ e. some (same ∙ e)) in (
        (λ y laid.
            let before = subst (λ (n : ℕ). SlotsAtRelease n (turn_ticket c.args.seat.now) c.args.seat.now y) (sym c.requires.nodes) laid in
            let after = subst (λ (n : ℕ). SlotsAtGrant n (ticket_of (length v.view.ends + 1)) c.swap-found.new.seat y) c.requires.nodes (told.0 y before) in
            subst (λ t. SlotsAtGrant c.args.table.now.key.config.nodes t c.swap-found.new.seat y) (sym c.requires.next) after),
        subst (λ n. Passes v n w) (sym same) told.1,
      );
}
