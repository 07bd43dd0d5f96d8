use Rattle.std.proofs.Common.{◌≡◌, ℕ, List, refl, inl, sym, ap, subst, ◌∙◌, arith}
use Rattle.qolb_model.specs.declared.config.LineConfig.{LineConfig}
use Rattle.link_line.specs.Layout.{IsWithin}
use Rattle.link_line.specs.Steps.{LinkSeat, ghost_of, Advances, KnowsNodes}
use Rattle.link_line.proofs.Stepping.{goes_trans}
use Rattle.link_line.proofs.Handing.{hands_left, hands_out, hands_passed}
use Rattle.link_line.proofs.release.try_handoff.Goals as goal

-- a node that is of the line by the view of a port two steps later is of the line
one_of : {allows : List ℕ → List ℕ → Type 0} (s t u : LinkSeat) (nodes n a b : ℕ) → KnowsNodes nodes s → Advances allows s.me t.me a → Advances allows t.me u.me b → IsWithin (ghost_of u).view.config.nodes n → IsWithin nodes n
one_of s t u nodes n a b size first next w =
    let e : (ghost_of t).view.config.nodes ≡ (ghost_of s).view.config.nodes = ap (λ (t : LineConfig). t.nodes) first.extends.config in
    let f : (ghost_of u).view.config.nodes ≡ (ghost_of t).view.config.nodes = ap (λ (t : LineConfig). t.nodes) next.extends.config in
    (w.0, omega (arith, w.1, e, f, size))

pub grant-requires-clause-in_range : goal.grant-requires-clause-in_range
grant-requires-clause-in_range g c = one_of c.args.seat.now c.home.new.seat c.done-next.new.seat c.args.table.now.key.config.nodes c.done-next.result 1 1 c.requires.knows_nodes c.home.ensures.advances.advances c.done-next.ensures.advances.advances (c.done-next.ensures.keeps c.if-next-eq0.false).1

pub returns-then-grant-clause-within : goal.returns-then-grant-clause-within
returns-then-grant-clause-within g c =
    let high = one_of c.args.seat.now c.home.new.seat c.done-next.new.seat c.args.table.now.key.config.nodes c.done-next.result 1 1 c.requires.knows_nodes c.home.ensures.advances.advances c.done-next.ensures.advances.advances (c.done-next.ensures.keeps c.if-next-eq0.false).1 in
    omega arith

pub returns-then-home-clause-outcome : goal.returns-then-home-clause-outcome
returns-then-home-clause-outcome g c = let gone = c.home.ensures.home c.if-home.true in (
  1,
  refl,
  c.home.ensures.advances.advances,
  λ y slot. (gone.0, (gone.1 y slot).0, (gone.1 y slot).1, inl refl),
)

pub returns-then-next-eq0-clause-outcome : goal.returns-then-next-eq0-clause-outcome
returns-then-next-eq0-clause-outcome g c =
    let on = c.home.ensures.keeps c.if-home.false in
    let left = c.done-next.ensures.left c.if-next-eq0.true in (
      2,
      omega arith,
      goes_trans g.K.Keep.allows c.args.seat.now.me c.home.new.seat.me c.done-next.new.seat.me 1 1 c.home.ensures.advances.advances c.done-next.ensures.advances.advances,
      λ y slot. hands_left g.K.Keep.allows c.args.seat.now c.home.new.seat c.done-next.new.seat y c.args.from c.home.ensures.advances.advances on.1 (on.2 y slot) left.0 left.1 left.2,
    )

pub returns-else-grant-clause-outcome : goal.returns-else-grant-clause-outcome
returns-else-grant-clause-outcome g c =
    let on = c.home.ensures.keeps c.if-home.false in
    let linked = c.done-next.ensures.keeps c.if-next-eq0.false in
    let passed = c.grant.ensures.passes c.if-grant.false in (
      3,
      omega arith,
      goes_trans g.K.Keep.allows c.args.seat.now.me c.home.new.seat.me c.grant.new.seat.me 1 2 c.home.ensures.advances.advances
          (goes_trans g.K.Keep.allows c.home.new.seat.me c.done-next.new.seat.me c.grant.new.seat.me 1 1 c.done-next.ensures.advances.advances c.grant.ensures.advances.advances),
      λ y slot. hands_passed g.K.Keep.allows c.args.seat.now c.home.new.seat c.done-next.new.seat y c.args.from c.home.ensures.advances.advances on.1 (on.2 y slot) c.grant.new.seat c.done-next.result linked.2 (passed.0 ∙ (linked.0 ∙ (on.0 ∙ slot))) (subst (λ (t : LineConfig). IsWithin t.nodes c.done-next.result) (sym c.grant.ensures.advances.advances.extends.config) linked.1) c.grant.ensures.ended passed.1,
    )

pub returns-then-grant-clause-outcome : goal.returns-then-grant-clause-outcome
returns-then-grant-clause-outcome g c =
    let on = c.home.ensures.keeps c.if-home.false in
    let linked = c.done-next.ensures.keeps c.if-next-eq0.false in
    let out = c.grant.ensures.handed_over c.if-grant.true in (
      3,
      omega arith,
      goes_trans g.K.Keep.allows c.args.seat.now.me c.home.new.seat.me c.grant.new.seat.me 1 2 c.home.ensures.advances.advances
          (goes_trans g.K.Keep.allows c.home.new.seat.me c.done-next.new.seat.me c.grant.new.seat.me 1 1 c.done-next.ensures.advances.advances c.grant.ensures.advances.advances),
      λ y slot. hands_out g.K.Keep.allows c.args.seat.now c.home.new.seat c.done-next.new.seat y c.args.from c.home.ensures.advances.advances on.1 (on.2 y slot) c.grant.new.seat c.done-next.result linked.2 0 0 out.0 c.grant.ensures.ended out.1,
    )

pub returns-then-home-clause-names_wake_word : goal.returns-then-home-clause-names_wake_word
returns-then-home-clause-names_wake_word g c = sym (c.home.ensures.names_wake_word c.if-home.true)

pub returns-then-next-eq0-clause-names_wake_word : goal.returns-then-next-eq0-clause-names_wake_word
returns-then-next-eq0-clause-names_wake_word g c = sym (c.done-next.ensures.names_wake_word c.if-next-eq0.true)

pub returns-then-grant-clause-names_wake_word : goal.returns-then-grant-clause-names_wake_word
returns-then-grant-clause-names_wake_word g c = c.entry_word.ensures ∙ sym (c.grant.ensures.names_wake_word c.if-grant.true)
