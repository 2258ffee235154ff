use Rattle.std.proofs.Common.{map}
use Rattle.mlir_work_cli.specs.Files.{pattern_names}
use Rattle.mlir_work_cli.proofs.FileLists.{all_files, end_names}
use Rattle.mlir_work_cli.proofs.pattern_files.pattern_files.Goals as goal

pub returns : goal.returns
returns g c =
    let names = map (λ f. f.name.now) c.names.found.items in
    record {
      names_are = end_names (λ s. s.now) c.names.rest.now names (pattern_names c.args.given.now) c.in_default.len_below c.names.invariant.names;
      texts_are = all_files g.F.Files.has names (map (λ f. f.text.items) c.names.found.items) c.names.invariant.texts;
    }
