use Rattle.example_line.proofs.Selling.{all_served}
use Rattle.example_line.proofs.capacity.ClerkScopedTaskPort.work.Goals as goal

pub returns : goal.returns
returns g c =
    let sound = g.met.L.LineSync.sound c.args.line.now c.args.port c.requires.pre.0 in
    (c.serve.ensures.belongs, c.serve.ensures.state, all_served c.args.self.now.customers (g.L.LineSync.view c.args.port) (g.L.LineSync.view c.serve.new.port) sound.history c.requires.pre.2 c.serve.ensures.serves)
