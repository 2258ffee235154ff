use Rattle.std.proofs.Common.{length, map}
use Rattle.mlir_work_cli.specs.Files.{file_named}
use Rattle.mlir_work_cli.proofs.FileLists.{HaveWith}
use Rattle.mlir_work_cli.proofs.files.texts_of.Given as goal

-- with the texts of the remaining files, the texts so far are those of all files
abbrev pub invariant-names : goal.invariant-names
invariant-names g l = HaveWith g.F.Files.has (map (λ s. file_named s.now) l.names) (map (λ s. file_named s.now) l.rest) (map (λ t. t.items) l.texts.items)

abbrev pub decreases-names : goal.decreases-names
decreases-names g l = length l.rest
