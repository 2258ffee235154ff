use Rattle.std.proofs.Common.{map, arith, sym, ap, ◌∙◌}
use Rattle.mlir_work_script_base.specs.Lines.{lines_of}
use Rattle.user_patterns_registry.specs.Registry.{registry_model}
use Rattle.mlir_work_cli.specs.Inputs.{all_lines}
use Rattle.mlir_work_cli.specs.Patterns.{defined_by}
use Rattle.mlir_work_cli.proofs.FileLists.{none_at, rest_at}
use Rattle.mlir_work_cli.proofs.Precedings.{read_on}
use Rattle.mlir_work_cli.proofs.pattern_files.registry_of.Goals as goal

pub files-preserved : goal.files-preserved
files-preserved c =
    let step = rest_at c.files.rest.now c.first-item.result c.in-len1-up.len_at_least c.first-item.is in
    let old = registry_model c.files.registry in
    let read = rw c.deref.ensures.value at c.in-Ok.ensures in
    let long = c.in-len1-up.len_at_least in
    let count = c.files.invariant.count in
    record {
      read = sym (read_on old _ (lines_of c.first-item.result.text.items) _ read) ∙ ap (λ rest. defined_by old (all_lines (map (λ f. f.text.items) rest))) (sym step) ∙ c.files.invariant.read;
      count = omega (arith, count, long);
    }

pub returns : goal.returns
returns c =
    let none = none_at c.files.rest.now c.in_default.len_below in
    sym c.files.invariant.read ∙ ap (λ rest. defined_by (registry_model c.files.registry) (all_lines (map (λ f. f.text.items) rest))) none
