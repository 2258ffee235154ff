use Rattle.std.proofs.Common.{◌++◌, ◌∷◌, [], ℕ, List, subst, sym}
use Rattle.mlir_work_transforms.specs.Interned.{AreNumbers}
use Rattle.mlir_work_transforms.proofs.Named.{more_numbers, still_numbers}
use Rattle.mlir_work_transforms.proofs.names.intern_onto.Goals as goal

pub returns-in-Ok-push-clause-named : goal.returns-in-Ok-push-clause-named
returns-in-Ok-push-clause-named g c names k =
    let d = c.intern.new.bench.transaction.ctx in
    let old = c.args.numbers.now in
    let bytes = c.args.bytes.now in
    subst (λ (ns : List ℕ). AreNumbers d ns (names ++ bytes ∷ [])) (sym c.in-Ok-push.ensures.added)
    (more_numbers d old (c.in-Ok.name ∷ []) names (bytes ∷ []) (still_numbers c.args.bench.now.transaction.ctx d old names c.intern.ensures.interned.grows k) c.in-Ok.ensures.named)
