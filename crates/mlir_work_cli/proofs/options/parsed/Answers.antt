use Rattle.std.proofs.lemmas.Result.{IfErr-weaker, IfOk-weaker}
use Rattle.clap.specs.Words.{app_of}
use Rattle.std.proofs.Common.{map}
use Rattle.mlir_work_cli.proofs.Program.{given_is, takes_is}
use Rattle.mlir_work_cli.proofs.options.parsed.Goals as goal

pub returns-clause-found : goal.returns-clause-found
returns-clause-found c = IfOk-weaker c.try_get_matches_from.result _ _ (λ m h. given_is (app_of c.in_ok-command.command) (map (λ w. w.bytes.items) c.args.words.now) m c.in_ok-command.ensures h) c.try_get_matches_from.ensures.matches

pub returns-clause-passes : goal.returns-clause-passes
returns-clause-passes c = IfErr-weaker c.try_get_matches_from.result _ _ (λ e h t. h (takes_is (app_of c.in_ok-command.command) (map (λ w. w.bytes.items) c.args.words.now) c.in_ok-command.ensures t)) c.try_get_matches_from.ensures.passes
