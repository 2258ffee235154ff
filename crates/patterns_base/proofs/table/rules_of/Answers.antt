use Rattle.std.proofs.Common.{ℕ, List, [], map, slice_get, Bor, sym, ap, ◌∙◌}
use Rattle.std.specs.Prelude.{unwrap_or}
use Rattle.patterns_base.specs.declared.rule.Rule.{Rule}
use Rattle.patterns_base.specs.Rules.{table}
use Rattle.patterns_base.proofs.TableNumbers.{rules_are, picked, past}
use Rattle.patterns_base.proofs.table.rules_of.Goals as goal

pub returns-then-number-rows : goal.returns-then-number-rows
returns-then-number-rows c things sound =
    picked (λ (r : Bor (List Rule)). r.now) c.rows-rows.result.now c.number-number.result _ [] c.if-number-rows.true
    ∙ ap (λ rs. unwrap_or (slice_get rs c.number-number.result) []) c.rows-rows.ensures
    ∙ ap (λ n. unwrap_or (slice_get (map (λ (row : List ℕ × List Rule). row.1) table) n) []) c.number-number.ensures
    ∙ sym (rules_are things c.args.name sound)

pub returns-else-number-rows : goal.returns-else-number-rows
returns-else-number-rows c things sound =
    sym (past (λ (r : Bor (List Rule)). r.now) c.rows-rows.result.now c.number-number.result [] c.if-number-rows.false)
    ∙ ap (λ rs. unwrap_or (slice_get rs c.number-number.result) []) c.rows-rows.ensures
    ∙ ap (λ n. unwrap_or (slice_get (map (λ (row : List ℕ × List Rule). row.1) table) n) []) c.number-number.ensures
    ∙ sym (rules_are things c.args.name sound)
