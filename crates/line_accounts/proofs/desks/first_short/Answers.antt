use Rattle.std.proofs.Common.{◌≡◌, ◌<◌, ◌≤◌, length, inl, inr, Vec, Global, vec_len, slice_get, refl, sym, ap, ◌∙◌, subst, arith}
use Rattle.std.proofs.lemmas.Bool.{cases_eq}
use Rattle.std.proofs.lemmas.Option.{slice_get_read, slice_get-get_or}
use Rattle.qolb_model.proofs.Lists.{same_some}
use Rattle.line_accounts.proofs.desks.first_short.Goals as goal

pub returns-then-len-count : goal.returns-then-len-count
returns-then-len-count g c =
    let lt : c.loop-i.i < length c.args.opened.now = c.loop-i-test.true in record {
      line = c.index-opened-i.result;
      at = slice_get_read c.args.opened.now (length c.args.opened.now) c.loop-i.i c.index-opened-i.result refl lt c.index-opened-i.is;
      short = omega (arith, c.len.ensures, c.if-len-count.true, ap (λ (line : g.row.L.Denot × Vec g.row.P.Denot Global). vec_len line.1) c.index-opened-i.is);
      before = c.loop-i.invariant;
    }

pub loop-i-preserved : goal.loop-i-preserved
loop-i-preserved g c = λ j line below at. elim (cases_eq j c.loop-i.i) [
  | inl e ↦
      let lt : c.loop-i.i < length c.args.opened.now = c.loop-i-test.true in
      let here = slice_get_read c.args.opened.now (length c.args.opened.now) c.loop-i.i c.index-opened-i.result refl lt c.index-opened-i.is in
      let same : c.index-opened-i.result ≡ line = same_some (sym here ∙ (ap (slice_get c.args.opened.now) (sym e) ∙ at)) in
      subst (λ (line : g.row.L.Denot × Vec g.row.P.Denot Global). c.args.count ≤ vec_len line.1) same
      (omega (arith, c.len.ensures, c.if-len-count.false, ap (λ (line : g.row.L.Denot × Vec g.row.P.Denot Global). vec_len line.1) c.index-opened-i.is))
  | inr ne ↦ c.loop-i.invariant j line (omega (arith, below, ne)) at
]

pub returns : goal.returns
returns g c = λ k d below. c.loop-i.invariant k _ (omega (arith, below, c.loop-i-test.false, c.loop-i.auto.i-end)) (slice_get-get_or c.args.opened.now k d below)
