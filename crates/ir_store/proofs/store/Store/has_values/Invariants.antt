use Rattle.std.proofs.Common.{◌≡◌, length}
use Rattle.std.specs.List.{list_all}
use Rattle.ir_store_reads.specs.tree_laws.Values.{has_value}
use Rattle.ir_store.proofs.store.Store.has_values.Given as goal

abbrev pub invariant-values : goal.invariant-values
invariant-values l = list_all (λ v. has_value v l.self.module_of.tree) l.rest ≡ list_all (λ v. has_value v l.self.module_of.tree) l.values

abbrev pub decreases-values : goal.decreases-values
decreases-values l = length l.rest
