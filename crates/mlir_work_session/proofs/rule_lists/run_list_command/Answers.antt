use Rattle.std.proofs.Common.{sym}
use Rattle.mlir_work_session.proofs.AnswersRuleList.{rule_list, plainly}
use Rattle.mlir_work_session.proofs.rule_lists.run_list_command.Goals as goal

pub returns-in-Some-clause-fulfils : goal.returns-in-Some-clause-fulfils
returns-in-Some-clause-fulfils g c = rule_list _ _ _ _ _ _ _ _ _ (sym c.in-Some.ensures) c.rewrite_list_command.ensures.mixes

pub returns-in-None-clause-fulfils : goal.returns-in-None-clause-fulfils
returns-in-None-clause-fulfils g c = plainly _ _ _ _ _ _ _ _ (sym c.in-None.ensures) c.run_session_command.ensures.fulfils
