use Rattle.std.proofs.Common.{rules, arith, ◌≡◌, ◌≤◌, false, ap, sym, ◌∙◌, subst, true}
use Rattle.std.specs.List.{list_any}
use Rattle.qolb_model.specs.Plain.{is_at}
use Rattle.qolb_model.proofs.Waiting.{entry_says, room, waiting_push}
use Rattle.qolb_model.proofs.Calls.{busy-answer, busy-moves, busy-agrees, asks-answer, asks-moves, asks-agrees, is_joined}
use Rattle.qolb_model.proofs.plain.PlainLine.enqolb.Goals as goal

pub returns-then-is_some-clause-answer : goal.returns-then-is_some-clause-answer
returns-then-is_some-clause-answer c = λ s a.
    let waits = entry_says c.args.node _ _ _ true c.entry.ensures c.is_some.ensures c.if-is_some.true in
    busy-answer c.args.self.now s c.args.node a c.requires.may_ask waits

pub returns-then-is_some-clause-moves : goal.returns-then-is_some-clause-moves
returns-then-is_some-clause-moves c = λ s a.
    let waits = entry_says c.args.node _ _ _ true c.entry.ensures c.is_some.ensures c.if-is_some.true in
    busy-moves c.args.self.now s c.args.node a c.requires.may_ask waits

pub returns-then-is_some-clause-agrees : goal.returns-then-is_some-clause-agrees
returns-then-is_some-clause-agrees c = λ s a.
    let waits = entry_says c.args.node _ _ _ true c.entry.ensures c.is_some.ensures c.if-is_some.true in
    busy-agrees c.args.self.now s c.args.node a c.requires.may_ask waits

pub push-requires : goal.push-requires
push-requires c =
    let quiet : list_any (is_at c.args.node) c.self.inside.waiting.items ≡ false =
    ap (λ l. list_any (is_at c.args.node) l.waiting) c.self.view_is ∙ (entry_says c.args.node _ _ _ false c.entry.ensures c.is_some.ensures c.if-is_some.false) in
    let high : c.args.node ≤ c.self.inside.nodes = subst (λ l. c.args.node ≤ l.nodes) (sym c.self.view_is) c.requires.last in
    (search rules, omega (arith, c.self.invariant.0, room c.self.inside.nodes c.args.node c.self.inside.waiting.items c.self.invariant.1 quiet c.requires.first high))

pub invariant_of-self : goal.invariant_of-self
invariant_of-self c =
    let quiet : list_any (is_at c.args.node) c.self.inside.waiting.items ≡ false =
    ap (λ l. list_any (is_at c.args.node) l.waiting) c.self.view_is ∙ (entry_says c.args.node _ _ _ false c.entry.ensures c.is_some.ensures c.if-is_some.false) in
    let high : c.args.node ≤ c.self.inside.nodes = subst (λ l. c.args.node ≤ l.nodes) (sym c.self.view_is) c.requires.last in
    (c.self.invariant.0, rw c.push.ensures.items (waiting_push c.self.inside.nodes c.args.node false c.self.inside.waiting.items c.self.invariant.1 quiet c.requires.first high))

pub returns-clause-answer : goal.returns-clause-answer
returns-clause-answer c = λ s a.
    let quiet = entry_says c.args.node _ _ _ false c.entry.ensures c.is_some.ensures c.if-is_some.false in
    let joined = is_joined c.args.self.now _ c.push.new.self.items c.args.node c.self.view_is c.push.ensures.items in
    c.as_enq.ensures ∙ asks-answer c.args.self.now s c.args.node a c.requires.first c.requires.last quiet _ joined c.look.result c.look.ensures.answer

pub returns-clause-moves : goal.returns-clause-moves
returns-clause-moves c = λ s a.
    let quiet = entry_says c.args.node _ _ _ false c.entry.ensures c.is_some.ensures c.if-is_some.false in
    asks-moves c.args.self.now s c.args.node a c.requires.first c.requires.last quiet

pub returns-clause-agrees : goal.returns-clause-agrees
returns-clause-agrees c = λ s a.
    let quiet = entry_says c.args.node _ _ _ false c.entry.ensures c.is_some.ensures c.if-is_some.false in
    let joined = is_joined c.args.self.now _ c.push.new.self.items c.args.node c.self.view_is c.push.ensures.items in
    asks-agrees c.args.self.now s c.args.node a c.requires.first c.requires.last quiet _ joined c.look.result c.look.ensures.answer c.look.new.self c.look.ensures.new
