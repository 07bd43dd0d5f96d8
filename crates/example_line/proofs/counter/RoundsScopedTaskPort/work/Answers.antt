use Rattle.example_line.proofs.Counting.{all_added}
use Rattle.example_line.proofs.counter.RoundsScopedTaskPort.work.Goals as goal

pub returns : goal.returns
returns g c =
    let sound = g.met.L.LineSync.sound c.args.line.now c.args.port c.requires.pre.0 in
    (c.add.ensures.belongs, c.add.ensures.state, all_added c.args.self.now.rounds (g.L.LineSync.view c.args.port) (g.L.LineSync.view c.add.new.port) sound.history c.requires.pre.2 c.add.ensures.adds)
