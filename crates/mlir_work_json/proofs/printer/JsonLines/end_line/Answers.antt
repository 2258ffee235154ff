use Rattle.std.proofs.Common.{ℕ, Vec, Global}
use Rattle.mlir_work_json.proofs.Printed.{line_so}
use Rattle.mlir_work_json.proofs.printer.JsonLines.end_line.Goals as goal

pub invariant_of-self : goal.invariant_of-self
invariant_of-self g c = record { printed = line_so (λ (l : Vec ℕ Global). l.items) _ _ _ _ _ _ _ _ _ _ _ _ c.args.self.now.printed c.requires c.and-self.ensures c.print_line-printed.ensures c.is_err-self.ensures.value c.is_memory-self.ensures }
