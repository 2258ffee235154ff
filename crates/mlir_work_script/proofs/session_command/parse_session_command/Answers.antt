use Rattle.std.proofs.Common.{◌∙◌}
use Rattle.mlir_work_script.specs.SessionCommands.{session_command_named}
use Rattle.mlir_work_script.proofs.session_command.parse_session_command.Goals as goal

pub returns : goal.returns
returns c = c.session_command_named.ensures ∙ (λ i. session_command_named (c.split_word.ensures.word i) (c.split_word.ensures.rest i))
