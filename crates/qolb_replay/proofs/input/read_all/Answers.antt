use Rattle.std.proofs.Common.{rules, ◌≡◌, [], ◌++◌, ◌+◌, take, arith, sym, ap, subst, ◌<◌, ◌∙◌, length}
use Rattle.std.proofs.lemmas.List.{length-append, length-take-le, append-nil}
use Rattle.std.specs.Io.KnownBytes.{Consumes}
use Rattle.qolb_replay.proofs.InTurn.{consumes_none, consumes_more, consumes_all, consumes_long}
use Rattle.qolb_replay.proofs.input.read_all.Goals as goal

pub loop-turn-init : goal.loop-turn-init
loop-turn-init g c = record {
  taken = subst (λ t. Consumes (g.R.Read.remaining c.args.reader.now.inner) (g.R.Read.remaining c.args.reader.now.inner) t) (sym c.new-all.ensures.items) (consumes_none (g.R.Read.remaining c.args.reader.now.inner));
  fits = search rules;
  turns = search rules;
}

pub loop-turn-preserved : goal.loop-turn-preserved
loop-turn-preserved g c =
    let more : c.extend_from_slice.new.self.items ≡ c.loop-turn.all.items ++ take c.in-Ok.n c.read.new.buf = search rules in
    let room : length (take c.in-Ok.n c.read.new.buf) ≡ c.in-Ok.n = length-take-le c.in-Ok.n c.read.new.buf c.in-Ok.ensures.bound in
    let long : length c.extend_from_slice.new.self.items ≡ length c.loop-turn.all.items + c.in-Ok.n = ap (λ t. length t) more ∙ length-append c.loop-turn.all.items (take c.in-Ok.n c.read.new.buf) ∙ ap (λ m. length c.loop-turn.all.items + m) room in
    record {
      taken = subst (λ t. Consumes (g.R.Read.remaining c.args.reader.now.inner) (g.R.Read.remaining c.read.new.self.inner) t) (sym more)
          (consumes_more _ _ _ c.loop-turn.all.items (take c.in-Ok.n c.read.new.buf) c.loop-turn.invariant.taken c.in-Ok.ensures.bytes);
      fits = omega (arith, long, c.if-n-len.false, c.len.ensures, c.extend_from_slice.new.self.ok.0, c.loop-turn.all.ok.0, c.loop-turn.invariant.fits);
      turns = omega (arith, long, c.in-Ok.n-test, c.extend_from_slice.new.self.ok.0, c.loop-turn.all.ok.0, c.loop-turn.invariant.turns);
    }

pub returns-in-Ok-eq0-clause-whole : goal.returns-in-Ok-eq0-clause-whole
returns-in-Ok-eq0-clause-whole g c =
    let zero = c.in-Ok-eq0.field-0-test in
    let some : 0 < length c.read.new.buf = search rules in
    let a = g.R.Read.remaining c.args.reader.now.inner in
    let b = g.R.Read.remaining c.loop-turn.reader.inner in
    let d = g.R.Read.remaining c.read.new.self.inner in
    let last : Consumes b d [] = subst (λ n. Consumes b d (take n c.read.new.buf)) zero c.in-Ok-eq0.ensures.bytes in
    let both : Consumes a d c.loop-turn.all.items = subst (λ t. Consumes a d t) (append-nil c.loop-turn.all.items) (consumes_more a b d c.loop-turn.all.items [] c.loop-turn.invariant.taken last) in
    consumes_all a d c.loop-turn.all.items both (c.in-Ok-eq0.ensures.end zero some)

pub returns-then-n-len-clause-long : goal.returns-then-n-len-clause-long
returns-then-n-len-clause-long g c e =
    let room : length (take c.in-Ok.n c.read.new.buf) ≡ c.in-Ok.n = length-take-le c.in-Ok.n c.read.new.buf c.in-Ok.ensures.bound in
    let both = consumes_more _ _ _ c.loop-turn.all.items (take c.in-Ok.n c.read.new.buf) c.loop-turn.invariant.taken c.in-Ok.ensures.bytes in
    consumes_long _ _ (c.loop-turn.all.items ++ take c.in-Ok.n c.read.new.buf) 16777216 both (omega (arith, length-append c.loop-turn.all.items (take c.in-Ok.n c.read.new.buf), room, c.if-n-len.true, c.len.ensures, c.loop-turn.all.ok.0))
