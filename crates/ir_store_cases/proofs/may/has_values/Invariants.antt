use Rattle.std.proofs.Common.{◌≡◌, length}
use Rattle.std.specs.List.{list_all}
use Rattle.ir_tree_laws.specs.Values.{has_value}
use Rattle.ir_store_cases.proofs.may.has_values.Given as goal

abbrev pub invariant-values : goal.invariant-values
invariant-values l = list_all (λ v. has_value v l.store.module_of.tree) l.rest ≡ list_all (λ v. has_value v l.store.module_of.tree) l.values

abbrev pub decreases-values : goal.decreases-values
decreases-values l = length l.rest
