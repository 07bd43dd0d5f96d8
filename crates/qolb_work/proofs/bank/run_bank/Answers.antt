use Rattle.std.proofs.Common.{◌≡◌, All, Vec, vec_len, subst}
use Rattle.std.specs.Global.{Global}
use Rattle.line_blocking.specs.declared.park_on_poll.ParkOnPoll.{ParkOnPoll}
use Rattle.qolb_work.specs.JustOpened.{work_config}
use Rattle.qolb_work.proofs.Inside.{all_of_mapped, new_all_outside, banked_if_inside}
use Rattle.qolb_work.proofs.bank.run_bank.Goals as goal

pub desks_at-requires-in-Asleep-clause-len : goal.desks_at-requires-in-Asleep-clause-len
desks_at-requires-in-Asleep-clause-len g c =
    all_of_mapped (λ (line : g.row.L.Denot × Vec g.row.L-Port.Denot Global). vec_len line.1 ≡ c.workers-workers.result) (λ asleep. (asleep.0.line, asleep.1)) c.in_ok-asleep-in-Asleep.asleep.items c.in_ok-opened.opened.items c.in_ok-asleep-in-Asleep.ensures c.in_ok-opened.ensures.len

pub desks_at-requires-in-Asleep-clause-new : goal.desks_at-requires-in-Asleep-clause-new
desks_at-requires-in-Asleep-clause-new g c =
    new_all_outside g.L.LineSync.belongs g.L.LineSync.view g.L.LineSync.config_of (λ asleep. asleep.line) c.workers-workers.result c.in_ok-asleep-in-Asleep.asleep.items c.in_ok-opened.opened.items c.in_ok-asleep-in-Asleep.ensures c.in_ok-opened.ensures.new

pub work_at-requires-in-Asleep-clause-config : goal.work_at-requires-in-Asleep-clause-config
work_at-requires-in-Asleep-clause-config g c = λ _ _.
    subst (λ n. All (λ (asleep : ParkOnPoll g.row.R.Denot g.row.L.Denot). g.L.LineSync.config_of asleep.line ≡ work_config n) c.in_ok-lines-in-Asleep.lines.items) c.workers-workers.ensures.workers c.in_ok-lines-in-Asleep.ensures.config

pub returns-in_ok-lines-in-Asleep-clause-banked : goal.returns-in_ok-lines-in-Asleep-clause-banked
returns-in_ok-lines-in-Asleep-clause-banked g c =
    banked_if_inside g.L.LineSync.belongs g.L.LineSync.view g.L.LineSync.config_of (λ asleep. asleep.line) c.args.work.now c.work_at-in-Asleep.result c.work_at-in-Asleep.ensures.banked
