use Rattle.std.proofs.Common.{◌≡◌, ◌++◌}
use Rattle.std.specs.Prelude.{map}
use Rattle.mlir_work_cli.specs.Inputs.{parts_of, parts_up_to}
use Rattle.mlir_work_cli.proofs.inputs.parts_of.Given as goal

-- the parts so far, followed by those of the rest, are all parts
abbrev pub invariant-parts : goal.invariant-parts
invariant-parts l = map (λ s. s.items) l.parts.items ++ parts_up_to l.most l.rest ≡ parts_of l.text

abbrev pub decreases-parts : goal.decreases-parts
decreases-parts l = l.most
