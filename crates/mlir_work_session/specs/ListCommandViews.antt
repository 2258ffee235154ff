-- The model of a rule list that names a registered pattern, read from memory.
use Rattle.mlir_work_transforms.specs.registry.RuleLists.{names_of}
use Rattle.mlir_work_session.specs.RuleLists.{ListCommand}
use Rattle.mlir_work_session.specs.declared.rule_lists.ListRewrite.{ListRewrite as Coded}

abbrev pub list_command_view : Coded → ListCommand
list_command_view x = record { names = names_of x.rules.now; proved = x.proved; limit = x.limit; trace = x.trace }
