use Rattle.std.proofs.Common.{map, subst}
use Rattle.mlir_work_cli.specs.Files.{file_named}
use Rattle.mlir_work_cli.proofs.FileLists.{HaveWith, all_texts, none_at}
use Rattle.mlir_work_cli.proofs.files.texts_of.Goals as goal

pub returns : goal.returns
returns g c =
    let all = map (λ s. file_named s.now) c.args.names.now in
    let texts = map (λ t. t.items) c.names.texts.items in
    all_texts g.F.Files.has all texts
    (subst (λ rest. HaveWith g.F.Files.has all (map (λ s. file_named s.now) rest) texts) (none_at c.names.rest.now c.in_default.len_below) c.names.invariant)
