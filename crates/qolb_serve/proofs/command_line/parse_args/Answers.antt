use Rattle.std.proofs.Common.{◌≡◌, List, codes, map, option_map, string_bytes, true, sym, ap, rules, ◌∙◌}
use Rattle.clap.specs.Words.{App, Row, Text, app_of, found_of, is_simple, rows_of, subcommand_of, subcommand_rows_of}
use Rattle.qolb_serve.specs.CommandLine.{is_given_at, wish_at, the_command}
use Rattle.qolb_serve.proofs.CommandLines.{refused_words}
use Rattle.qolb_serve.proofs.command_line.parse_args.Goals as goal

pub returns-in_err-matches-clause-usage : goal.returns-in_err-matches-clause-usage
returns-in_err-matches-clause-usage c = let command = c.in_ok-command.ensures in
    refused_words command.0 (app_of c.in_ok-command.field-0) command.1 (map string_bytes c.args.words.now) c.in_err-matches.field-0.0 c.in_err-matches.ensures.passes
    c.from_residual-in_err-matches.result c.from_residual-in_err-matches.ensures.1

pub returns-clause-subcommand : goal.returns-clause-subcommand
returns-clause-subcommand c =
    let names = c.in_ok-command.ensures.0 in
    let is : app_of c.in_ok-command.field-0 ≡ the_command names = c.in_ok-command.ensures.1 in
    let simple : is_simple (app_of c.in_ok-command.field-0) ≡ true = ap is_simple is in
    let rows : subcommand_rows_of c.in_ok-matches.matches ≡ subcommand_of (the_command names) (map string_bytes c.args.words.now) =
    (c.in_ok-matches.ensures.matches simple).1 ∙ ap (λ (a : App). subcommand_of a (map string_bytes c.args.words.now)) is in
    record { names = names; named = ap (option_map wish_at) (sym rows) ∙ search rules }

pub returns-clause-progress : goal.returns-clause-progress
returns-clause-progress c =
    let names = c.in_ok-command.ensures.0 in
    let is : app_of c.in_ok-command.field-0 ≡ the_command names = c.in_ok-command.ensures.1 in
    let simple : is_simple (app_of c.in_ok-command.field-0) ≡ true = ap is_simple is in
    let rows : subcommand_rows_of c.in_ok-matches.matches ≡ subcommand_of (the_command names) (map string_bytes c.args.words.now) =
    (c.in_ok-matches.ensures.matches simple).1 ∙ ap (λ (a : App). subcommand_of a (map string_bytes c.args.words.now)) is in
    let said : c.is_given_at.result ≡ is_given_at (codes "progress") (rows_of (found_of c.in-Some.arguments.now)) = c.is_given_at.ensures in
    record { names = names; named = ap (option_map (λ (entered : Text × List Row). is_given_at (codes "progress") entered.1)) (sym rows) ∙ search rules }

pub returns-clause-explain : goal.returns-clause-explain
returns-clause-explain c =
    let names = c.in_ok-command.ensures.0 in
    let is : app_of c.in_ok-command.field-0 ≡ the_command names = c.in_ok-command.ensures.1 in
    let simple : is_simple (app_of c.in_ok-command.field-0) ≡ true = ap is_simple is in
    let rows : subcommand_rows_of c.in_ok-matches.matches ≡ subcommand_of (the_command names) (map string_bytes c.args.words.now) =
    (c.in_ok-matches.ensures.matches simple).1 ∙ ap (λ (a : App). subcommand_of a (map string_bytes c.args.words.now)) is in
    let said : c.is_given_at-in-Some.result ≡ is_given_at (codes "explain") (rows_of (found_of c.in-Some.arguments.now)) = c.is_given_at-in-Some.ensures in
    record { names = names; named = ap (option_map (λ (entered : Text × List Row). is_given_at (codes "explain") entered.1)) (sym rows) ∙ search rules }
