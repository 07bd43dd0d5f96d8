use Rattle.std.proofs.Common.{rules, ◌≤◌, ◌*◌, ◌^◌, arith}
use Rattle.qolb_script.specs.declared.schedule.TheConstants.{MAX_COMMANDS}
use Rattle.qolb_work.specs.BankWork.{ArePaid}
use Rattle.qolb_work.proofs.Banking.{fits_in, fits_out}
use Rattle.qolb_work.proofs.bank.sum_up.Goals as goal

pub overflow_add-paid_in : goal.overflow_add-paid_in
overflow_add-paid_in g c =
    let one : ArePaid MAX_COMMANDS c.desk-item.result = search rules in
    let low : c.paid_in-paid_in.result ≤ MAX_COMMANDS * 2 ^ 64 = omega (arith, one.paid_in, c.paid_in-paid_in.ensures) in
    record { fits = fits_in c.args.desks.now c.loop-desk.desk-index c.requires.desks c.requires.small (omega (arith, c.loop-desk-test.true)) c.loop-desk.paid_in c.paid_in-paid_in.result c.loop-desk.invariant.0 low }

pub overflow_add-paid_out : goal.overflow_add-paid_out
overflow_add-paid_out g c =
    let one : ArePaid MAX_COMMANDS c.desk-item.result = search rules in
    let low : c.paid_out-paid_out.result ≤ MAX_COMMANDS * 2 ^ 64 = omega (arith, one.paid_out, c.paid_out-paid_out.ensures) in
    record { fits = fits_out c.args.desks.now c.loop-desk.desk-index c.requires.desks c.requires.small (omega (arith, c.loop-desk-test.true)) c.loop-desk.paid_out c.paid_out-paid_out.result c.loop-desk.invariant.1 low }
