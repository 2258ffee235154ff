use Rattle.std.proofs.Common.{◌≡◌, ◌++◌, map, drop}
use Rattle.ir_verify_base.specs.events.declared.row.Row.{Row}
use Rattle.ir_verify.specs.Reports.{rules_cells}
use Rattle.ir_verify.proofs.report.push_rows.Given as goal

abbrev pub invariant-loop-rule : goal.invariant-loop-rule
invariant-loop-rule l = map (λ (r : Row). r.cells.items) l.out.items ++ rules_cells l.op (drop l.rule-index l.rules) ≡ map (λ (r : Row). r.cells.items) l.initial.out.items ++ rules_cells l.op l.rules
