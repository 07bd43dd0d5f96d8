use Rattle.qolb_locks.proofs.exports.qolb_core_try_draw_proved_.Goals as goal

pub returns-clause-known : goal.returns-clause-known
returns-clause-known c = (c.get.result.now, c.get.ensures, c.try_draw.ensures.known)

pub returns-clause-misuse : goal.returns-clause-misuse
returns-clause-misuse c = (c.get.result.now, c.try_draw.result, c.get.ensures, c.number.ensures, c.try_draw.ensures.misuse)

pub returns-clause-does : goal.returns-clause-does
returns-clause-does c = (c.get.result.now, c.try_draw.result, c.get.ensures, c.number.ensures, c.try_draw.ensures.does)

pub returns-clause-after : goal.returns-clause-after
returns-clause-after c = (c.get.result.now, c.try_draw.result, c.get.ensures, c.number.ensures, c.try_draw.ensures.after)

pub returns-clause-kept : goal.returns-clause-kept
returns-clause-kept c = (c.get.result.now, c.try_draw.result, c.get.ensures, c.number.ensures, c.try_draw.ensures.kept)
