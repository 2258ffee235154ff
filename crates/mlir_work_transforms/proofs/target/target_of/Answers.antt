use Rattle.std.proofs.Common.{refl}
use Rattle.ir_event.proofs.of_types.Growth.{grows_trans}
use Rattle.mlir_work_transforms.proofs.Listed.{target_aims, target_named, target_unaimed}
use Rattle.mlir_work_transforms.proofs.Named.{interned_more, still_numbers}
use Rattle.mlir_work_transforms.proofs.target.target_of.Goals as goal

pub returns-in-Err-names_in-clause-interned : goal.returns-in-Err-names_in-clause-interned
returns-in-Err-names_in-clause-interned g c = interned_more g.L.Analysis.meaning _ _ _ c.names_in.ensures.interned c.names_in-2.ensures.interned

pub returns-in-Err-names_in-2-clause-interned : goal.returns-in-Err-names_in-2-clause-interned
returns-in-Err-names_in-2-clause-interned g c =
    interned_more g.L.Analysis.meaning _ _ _ (interned_more g.L.Analysis.meaning _ _ _ c.names_in.ensures.interned c.names_in-2.ensures.interned) c.names_in-3.ensures.interned

pub returns-in-Err-rules_in-clause-interned : goal.returns-in-Err-rules_in-clause-interned
returns-in-Err-rules_in-clause-interned g c =
    interned_more g.L.Analysis.meaning _ _ _ (interned_more g.L.Analysis.meaning _ _ _ c.names_in.ensures.interned c.names_in-2.ensures.interned) c.names_in-3.ensures.interned

pub returns-in-Ok-None-clause-interned : goal.returns-in-Ok-None-clause-interned
returns-in-Ok-None-clause-interned g c =
    interned_more g.L.Analysis.meaning _ _ _ (interned_more g.L.Analysis.meaning _ _ _ c.names_in.ensures.interned c.names_in-2.ensures.interned) c.names_in-3.ensures.interned

pub returns-in-Ok-None-clause-aim : goal.returns-in-Ok-None-clause-aim
returns-in-Ok-None-clause-aim g c = target_unaimed c.args.full c.args.clauses.now (rw c.in-Ok-None.field-0-is at c.in-Ok-None.ensures.rules)

pub returns-clause-interned : goal.returns-clause-interned
returns-clause-interned g c =
    interned_more g.L.Analysis.meaning _ _ _ (interned_more g.L.Analysis.meaning _ _ _ c.names_in.ensures.interned c.names_in-2.ensures.interned) c.names_in-3.ensures.interned

pub returns-clause-names : goal.returns-clause-names
returns-clause-names g c =
    let first = c.names_in.new.bench.transaction.ctx in
    let second = c.names_in-2.new.bench.transaction.ctx in
    let d = c.names_in-3.new.bench.transaction.ctx in
    target_named d (record { full = c.args.full; legal = c.in-Ok.legal; illegal = c.in-Ok-names_in.illegal; dynamic = c.in-Ok-names_in-2.dynamic; rules = c.in-Ok-Some.rules.items; depth = c.unwrap_or.result })
    c.args.full c.args.clauses.now
    (still_numbers first d _ _ (grows_trans first second d c.names_in-2.ensures.interned.grows c.names_in-3.ensures.interned.grows) c.in-Ok.ensures.named)
    (still_numbers second d _ _ c.names_in-3.ensures.interned.grows c.in-Ok-names_in.ensures.named)
    c.in-Ok-names_in-2.ensures.named

pub returns-clause-aim : goal.returns-clause-aim
returns-clause-aim g c =
    let first = c.names_in.new.bench.transaction.ctx in
    let second = c.names_in-2.new.bench.transaction.ctx in
    let d = c.names_in-3.new.bench.transaction.ctx in
    target_aims d (record { full = c.args.full; legal = c.in-Ok.legal; illegal = c.in-Ok-names_in.illegal; dynamic = c.in-Ok-names_in-2.dynamic; rules = c.in-Ok-Some.rules.items; depth = c.unwrap_or.result })
    c.args.full c.args.clauses.now
    (still_numbers first d _ _ (grows_trans first second d c.names_in-2.ensures.interned.grows c.names_in-3.ensures.interned.grows) c.in-Ok.ensures.named)
    (still_numbers second d _ _ c.names_in-3.ensures.interned.grows c.in-Ok-names_in.ensures.named)
    c.in-Ok-names_in-2.ensures.named refl
    (rw c.in-Ok-Some.field-0-is at c.in-Ok-Some.ensures.rules) c.unwrap_or.ensures
