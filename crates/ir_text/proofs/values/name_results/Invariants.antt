use Rattle.std.proofs.Common.{◌≡◌, drop, map}
use Rattle.ir_types.specs.Things.{ContextModel}
use Rattle.ir_types.specs.Terms.{type_term}
use Rattle.ir_text.specs.Naming.{name_results}
use Rattle.ir_text.specs.View.{named_in}
use Rattle.ir_text.proofs.values.name_results.Given as goal

abbrev pub invariant-loop-place : goal.invariant-loop-place
invariant-loop-place l = (c : ContextModel) → name_results l.op l.only l.number l.place (map (type_term c) (drop l.place l.results)) (named_in c l.named.entries) ≡ name_results l.op l.only l.number 0 (map (type_term c) l.results) (named_in c l.fn.named.entries)
