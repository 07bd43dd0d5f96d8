-- Lemmas which show that several other answers of a call differ from the answer `Late`.
use Rattle.std.proofs.Common.{◌≡◌}
use Rattle.line_accounts.specs.declared.answer.Reply.TheVariants.{Done, Short, Over, Late, NoAccount}

pub done_not_late : Done ≡ Late → ⊥
done_not_late e = cc e

pub short_not_late : Short ≡ Late → ⊥
short_not_late e = cc e

pub over_not_late : Over ≡ Late → ⊥
over_not_late e = cc e

pub no_account_not_late : NoAccount ≡ Late → ⊥
no_account_not_late e = cc e
