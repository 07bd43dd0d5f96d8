use Rattle.std.proofs.Common.{length, refl, ◌∙◌, arith}
use Rattle.std.proofs.lemmas.Option.{slice_get_read}
use Rattle.line_accounts.proofs.Pairs.{at_front, at_back, set_both}
use Rattle.line_accounts.proofs.pair.pair_of.Goals as goal

pub returns : goal.returns
returns g c =
    let xs = c.args.items.now in
    let parts = c.split_at_mut-front.ensures in
    let front = c.split_at_mut-front.result.0.now in
    let back = c.split_at_mut-front.result.1.now in
    let less = c.requires.less in (
      ((refl, refl), λ x y. set_both xs front back c.args.i c.args.j x y parts.front parts.back less),
      record {
        first = at_front xs front c.args.i c.args.j parts.front less ∙ slice_get_read front (length front) c.args.i c.index-front-i.result refl (omega (arith, less, parts.front_len)) c.index-front-i.is;
        second = at_back xs back c.args.j parts.back ∙ slice_get_read back (length back) 0 c.index-back-0.result refl (omega (arith, parts.back_len, c.requires.within)) c.index-back-0.is;
        writes_back = tt;
      },
    )
