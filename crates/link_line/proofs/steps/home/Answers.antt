use Rattle.std.proofs.Common.{rules, arith, ◌≡◌, ◌≢◌, ℕ, true, false, eqb, eq-eqb, ne_eqb}
use mathlib.Core.Logic.{dite}
use native.Mathlib.Decide.{ℕ_discrete}
use Rattle.qolb_model.proofs.Lists.{never}
use Rattle.link_line.specs.Steps.{ghost_of}
use Rattle.link_line.proofs.Homing.{homes_next}
use Rattle.link_line.proofs.steps.home.Goals as goal

hit : (a b : ℕ) → eqb a b ≡ true → a ≡ b
hit a b e = dite (ℕ_discrete a b) (λ same. same) (λ other. absurd (never e (ne_eqb a b other)))

miss : (a b : ℕ) → eqb a b ≡ false → a ≢ b
miss a b e same = never (eq-eqb a b same) e

pub compare_exchange-requires : goal.compare_exchange-requires
compare_exchange-requires g c = let y = c.requires.payload in (search rules, omega arith, homes_next g.K.Keep.good g.K.Keep.allows c.args.table.now.key (ghost_of c.args.seat.now) y.0 _ y.2 _ _ c.args.seat.now.me (λ i. (c.requires.of_one_node i, y.1 i)))

pub returns-clause-home : goal.returns-clause-home
returns-clause-home g c = λ is. let y = c.requires.payload in let told = c.compare_exchange.ensures.2.1 in let same = hit c.compare_exchange.result c.args.from is in
    (((told y.0 y.1).0 same).0, λ z has. (((told z has).0 same).1, ((told z has).0 same).2))

pub returns-clause-names_wake_word : goal.returns-clause-names_wake_word
returns-clause-names_wake_word g c = λ is. let y = c.requires.payload in ((c.compare_exchange.ensures.2.1 y.0 y.1).0 (hit c.compare_exchange.result c.args.from is)).3

pub returns-clause-keeps : goal.returns-clause-keeps
returns-clause-keeps g c = λ is. let y = c.requires.payload in let told = c.compare_exchange.ensures.2.1 in let other = miss c.compare_exchange.result c.args.from is in
    (((told y.0 y.1).1 other).0, ((told y.0 y.1).1 other).2, λ z has. ((told z has).1 other).1)
