-- Lemmas about the words of a command line that was refused.
use Rattle.std.proofs.Common.{◌≡◌, ◌≢◌, Bool, true, false, not, ◌&&◌, List, ap, refl, ◌∙◌, IfErr, IsErrAnd, Result, Ok, Err}
use Rattle.clap.specs.Words.{App, Text, kind_of, takes}
use Rattle.clap.specs.declared.error.Error.{Error}
use Rattle.clap.specs.declared.error.kind.ErrorKind.TheVariants.{OutOfMemory}
use Rattle.qolb_serve.specs.CommandLine.{KindNames, IsNotTaken, the_command}

not_taken : (names : KindNames) (words : List Text) → (t : Bool) → takes (the_command names) words ≡ t → t ≢ true → IsNotTaken words
not_taken names words true e ne = absurd (ne refl)
not_taken names words false e ne = record { names = names; refused = e }

-- if the error is not that memory ran out, the command does not accept the words
pub refused_words : {T : Type 0} (names : KindNames) (app : App) → app ≡ the_command names → (words : List Text) (e : Error) → (takes app words ≡ true → kind_of e ≡ OutOfMemory)
    → (r : Result T Error) → IsErrAnd r (λ x. x ≡ e) → IfErr r (λ x. kind_of x ≢ OutOfMemory → IsNotTaken words)
refused_words names app is words e passes (Ok x) h = tt
refused_words names app is words e passes (Err x) h = λ other. not_taken names words (takes (the_command names) words) refl (λ taken. other (ap kind_of h ∙ passes (ap (λ a. takes a words) is ∙ taken)))

-- a command of this shape has no global argument, which its subcommands would share
pub no_globals : (grouped external global rest : Bool) → (grouped && (not external && (not global && rest))) ≡ true → global ≡ false
no_globals false external global rest e = absurd (cc e)
no_globals true true global rest e = absurd (cc e)
no_globals true false true rest e = absurd (cc e)
no_globals true false false rest e = refl
