use Rattle.std.proofs.Common.{◌≡◌, ◌++◌, length, map}
use Rattle.mlir_work_cli.specs.Files.{pattern_names}
use Rattle.mlir_work_cli.proofs.FileLists.{FilesWith}
use Rattle.mlir_work_cli.proofs.pattern_files.pattern_files.Given as goal

-- the names so far, followed by the remaining ones, are all names, and each file so far has its text
abbrev pub invariant-names : goal.invariant-names
invariant-names g l = record {
  names : map (λ f. f.name.now) l.found.items ++ map (λ s. s.now) l.rest ≡ pattern_names l.given;
  texts : FilesWith g.F.Files.has (map (λ f. f.name.now) l.found.items) (map (λ f. f.text.items) l.found.items);
}

abbrev pub decreases-names : goal.decreases-names
decreases-names g l = length l.rest
