-- The views of the code's fields that are known after the analysis.
use Rattle.user_patterns_sema.specs.declared.sema_result.SemaResult.{SemaResult as EndsCode}
use Rattle.user_patterns_sema.specs.Ending.{Ends}

abbrev pub ends_view : EndsCode → Ends
ends_view e = record { value_types = (e.types, e.value_types.items); values = e.values.items; constants = e.constants.items; root = e.root; result = e.made }
