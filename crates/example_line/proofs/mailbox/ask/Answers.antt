use Rattle.std.proofs.Common.{◌≡◌, ℕ, ◌+◌, refl, ◌∙◌, arith}
use Rattle.qolb_model.proofs.Going.{continues_on}
use Rattle.qolb_model.proofs.OwnTurns.{asks_later}
use Rattle.example_line.proofs.Exchanging.{granted_moves, withdrawn_moves, told_moves, busy_moves}
use Rattle.example_line.proofs.mailbox.ask.Goals as goal

pub returns-in-Granted-clause-moves : goal.returns-in-Granted-clause-moves
returns-in-Granted-clause-moves g c known =
    let sound = g.met.L.LineSync.sound c.args.line.now c.args.port.now c.requires.belongs in
    let e = c.in-Granted.ensures.enqueues in
    granted_moves _ _ c.requires.state sound.own_history known e.continues.extends e.continues.history _ (e.asks (λ b. cc b)) (e.granted refl)

pub returns-in-Closed-clause-moves : goal.returns-in-Closed-clause-moves
returns-in-Closed-clause-moves g c known =
    let sound = g.met.L.LineSync.sound c.args.line.now c.args.port.now c.requires.belongs in
    let e = c.in-Closed.ensures.enqueues in
    told_moves _ _ c.requires.state sound.own_history known e.continues.extends e.continues.history (e.asks (λ b. cc b)) (e.told refl)

pub returns-in-Busy-clause-moves : goal.returns-in-Busy-clause-moves
returns-in-Busy-clause-moves g c known =
    let sound = g.met.L.LineSync.sound c.args.line.now c.args.port.now c.requires.belongs in
    let e = c.in-Busy.ensures.enqueues in
    busy_moves _ _ c.requires.state sound.own_history known e.continues.extends e.continues.history (e.busy refl)

pub returns-in-Granted-poll-clause-moves : goal.returns-in-Granted-poll-clause-moves
returns-in-Granted-poll-clause-moves g c known =
    let sound = g.met.L.LineSync.sound c.args.line.now c.args.port.now c.requires.belongs in
    let p = c.in-Granted-poll.ensures.polls in
    let on = continues_on _ _ _ _ c.loop.invariant.extends p.continues in
    granted_moves _ _ c.requires.state sound.own_history known on.extends on.history _ (asks_later _ _ _ c.loop.invariant.asks p.continues.extends p.count) (p.granted refl)

pub returns-in-Closed-poll-clause-moves : goal.returns-in-Closed-poll-clause-moves
returns-in-Closed-poll-clause-moves g c known =
    let sound = g.met.L.LineSync.sound c.args.line.now c.args.port.now c.requires.belongs in
    let p = c.in-Closed-poll.ensures.polls in
    let on = continues_on _ _ _ _ c.loop.invariant.extends p.continues in
    told_moves _ _ c.requires.state sound.own_history known on.extends on.history (asks_later _ _ _ c.loop.invariant.asks p.continues.extends p.count) (p.told refl)

one_poll : (a b c k : ℕ) → c ≡ b + 1 → b ≡ a + k → c ≡ a + (k + 1)
one_poll a b c k one before = omega (arith, one, before)

pub loop-preserved : goal.loop-preserved
loop-preserved g c =
    let i = c.loop.invariant in
    let p = c.in-Waiting.ensures.polls in record {
      belongs = c.in-Waiting.ensures.belongs;
      state = (p.waiting refl).state;
      count = p.count ∙ i.count;
      poll_count = one_poll _ _ _ _ c.in-Waiting.ensures.counts.poll_count i.poll_count;
      extends = (continues_on _ _ _ _ i.extends p.continues).extends;
      asks = asks_later _ _ _ i.asks p.continues.extends p.count;
    }

pub returns-in-Withdrawn-clause-moves : goal.returns-in-Withdrawn-clause-moves
returns-in-Withdrawn-clause-moves g c known =
    let sound = g.met.L.LineSync.sound c.args.line.now c.args.port.now c.requires.belongs in
    let w = c.in-Withdrawn.ensures.withdraws in
    let on = continues_on _ _ _ _ c.loop.invariant.extends w.continues in
    withdrawn_moves _ _ c.requires.state sound.own_history known on.extends on.history (asks_later _ _ _ c.loop.invariant.asks w.continues.extends w.count) (w.withdrawn refl)

pub returns-in-Granted-withdraw-clause-moves : goal.returns-in-Granted-withdraw-clause-moves
returns-in-Granted-withdraw-clause-moves g c known =
    let sound = g.met.L.LineSync.sound c.args.line.now c.args.port.now c.requires.belongs in
    let w = c.in-Granted-withdraw.ensures.withdraws in
    let on = continues_on _ _ _ _ c.loop.invariant.extends w.continues in
    granted_moves _ _ c.requires.state sound.own_history known on.extends on.history _ (asks_later _ _ _ c.loop.invariant.asks w.continues.extends w.count) (w.granted refl)

pub returns-in-Closed-withdraw-clause-moves : goal.returns-in-Closed-withdraw-clause-moves
returns-in-Closed-withdraw-clause-moves g c known =
    let sound = g.met.L.LineSync.sound c.args.line.now c.args.port.now c.requires.belongs in
    let w = c.in-Closed-withdraw.ensures.withdraws in
    let on = continues_on _ _ _ _ c.loop.invariant.extends w.continues in
    told_moves _ _ c.requires.state sound.own_history known on.extends on.history (asks_later _ _ _ c.loop.invariant.asks w.continues.extends w.count) (w.told refl)
