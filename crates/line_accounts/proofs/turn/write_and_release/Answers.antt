use Rattle.std.proofs.Common.{false, List, ℕ, sym, subst, ap, ◌∙◌}
use Rattle.line_lanes.proofs.Masked.{merged-all}
use Rattle.qolb_model.specs.declared.view.View.{View}
use Rattle.qolb_model.specs.declared.write.Write.{Write}
use Rattle.qolb_model.specs.Views.{bytes_of}
use Rattle.qolb_model.specs.Calls.{Releases}
use Rattle.line_accounts.specs.Accounts.{StayBalances}
use Rattle.line_accounts.proofs.turn.write_and_release.Goals as goal

pub deqolb-requires-clause-allowed : goal.deqolb-requires-clause-allowed
deqolb-requires-clause-allowed g c =
    let whole = ap (λ (w : Write). w.bytes.bytes) c.write.ensures.turn ∙ merged-all (g.L.LineSync.turn c.args.port.now).bytes.bytes c.args.next.now.bytes c.requires.long in
    subst (λ (v : View). StayBalances (bytes_of v) (g.L.LineSync.turn c.write.new.port).bytes.bytes) (sym c.write.ensures.view)
    (subst (λ (b : List ℕ). StayBalances (bytes_of (g.L.LineSync.view c.args.port.now)) b) (sym whole) c.requires.allowed)

pub returns-clause-leaves : goal.returns-clause-leaves
returns-clause-leaves g c =
    let whole = ap (λ (w : Write). w.bytes.bytes) c.write.ensures.turn ∙ merged-all (g.L.LineSync.turn c.args.port.now).bytes.bytes c.args.next.now.bytes c.requires.long in
    (g.L.LineSync.turn c.write.new.port, whole, subst (λ (v : View). Releases StayBalances false v (g.L.LineSync.view c.deqolb.new.port) (g.L.LineSync.turn c.write.new.port)) c.write.ensures.view c.deqolb.ensures.releases)
