-- The views of the names in the code.
use Rattle.user_patterns_sema_base.specs.declared.names.Names.{Names as NamesCode}
use Rattle.user_patterns_sema_base.specs.Views.{variable_views}
use Rattle.user_patterns_sema_base.specs.Names.{Names}

abbrev pub names_view : NamesCode → Names
names_view n = record { variables = variable_views n.variables.items; constants = n.constants; old = n.old; numbers = n.numbers }
