use Rattle.std.proofs.Common.{Some, false, ap, ◌∙◌, subst}
use Rattle.std.specs.Prelude.{codes}
use Rattle.ir_event.specs.types.Terms.{name_term}
use Rattle.ir_event.specs.Modules.{module_in}
use Rattle.patterns_soundness.specs.base.Words.{named}
use Rattle.patterns_soundness.specs.base.Lowering.{any, lower_choice}
use Rattle.patterns_regions.specs.Blocks.{body_at}
use Rattle.patterns_lowering.specs.Planned.{AreTaken}
use Rattle.patterns_lowering.proofs.Ruled.{not_there, not_there_tested, not_lower_choice, unmarked_lower_choice, is_lower_choice, indexed_lower_choice, other_choice, unmarked_choice, blockless_choice, lowered_choice_tested}
use Rattle.patterns_regions.specs.Reason.TheVariants.{WrongOperation}
use Rattle.patterns_soundness.specs.base.declared.rule.Rule.TheVariants.{LowerChoice}
use Rattle.patterns_lowering.proofs.plans.plan_lower_choice.Goals as goal

pub returns-in_default-clause-edits : goal.returns-in_default-clause-edits
returns-in_default-clause-edits c = not_there lower_choice c.args.world.now c.args.op c.in_default.ensures.node

pub returns-then-not-is_word-clause-edits : goal.returns-then-not-is_word-clause-edits
returns-then-not-is_word-clause-edits c =
    not_lower_choice c.args.world.now c.args.op c.in-Some.node c.in-Some.ensures.node c.is_word.result (c.is_word.ensures ∙ ap (λ n. named (codes "scf.if") (name_term c.args.world.now.ctx n)) c.name.ensures) c.if-not-is_word.true

pub returns-then-not-any-clause-edits : goal.returns-then-not-any-clause-edits
returns-then-not-any-clause-edits c =
    unmarked_lower_choice c.args.world.now c.args.op c.in-Some.node c.in-Some.ensures.node c.in_ok-of.of c.in_ok-of.ensures c.any.result (c.any.ensures ∙ ap any c.deref.ensures.value) c.if-not-any.true

pub returns-clause-edits : goal.returns-clause-edits
returns-clause-edits c =
    is_lower_choice c.args.world.now c.args.op c.in-Some.node c.in-Some.ensures.node (record { of = c.in_ok-of.of; first = c.in-Some-2.first; second = c.in-Some-3.second })
    c.in_ok-of.ensures c.is_word.result (c.is_word.ensures ∙ ap (λ n. named (codes "scf.if") (name_term c.args.world.now.ctx n)) c.name.ensures) c.if-not-is_word.false
    (subst (λ b. AreTaken (body_at c.args.op 0 (module_in c.args.world.now).tree) b) c.in-Some-2.is c.in_ok-first.ensures)
    (subst (λ b. AreTaken (body_at c.args.op 1 (module_in c.args.world.now).tree) b) c.in-Some-3.is c.in_ok-second.ensures)
    c.any.result (c.any.ensures ∙ ap any c.deref.ensures.value) c.if-not-any.false

pub returns-clause-of : goal.returns-clause-of
returns-clause-of c =
    indexed_lower_choice c.args.world.now c.args.op c.in-Some.node c.in-Some.ensures.node (record { of = c.in_ok-of.of; first = c.in-Some-2.first; second = c.in-Some-3.second })
    c.in_ok-of.ensures c.is_word.result (c.is_word.ensures ∙ ap (λ n. named (codes "scf.if") (name_term c.args.world.now.ctx n)) c.name.ensures) c.if-not-is_word.false
    (subst (λ b. AreTaken (body_at c.args.op 0 (module_in c.args.world.now).tree) b) c.in-Some-2.is c.in_ok-first.ensures)
    (subst (λ b. AreTaken (body_at c.args.op 1 (module_in c.args.world.now).tree) b) c.in-Some-3.is c.in_ok-second.ensures)
    c.requires

pub returns-then-not-is_word-clause-reason : goal.returns-then-not-is_word-clause-reason
returns-then-not-is_word-clause-reason c = other_choice c.args.world.now c.args.op c.in-Some.node c.in-Some.ensures.node c.is_word.result (c.is_word.ensures ∙ ap (λ n. named (codes "scf.if") (name_term c.args.world.now.ctx n)) c.name.ensures) c.if-not-is_word.true

pub returns-then-not-any-clause-reason : goal.returns-then-not-any-clause-reason
returns-then-not-any-clause-reason c =
    unmarked_choice c.args.world.now c.args.op c.in-Some.node c.in-Some.ensures.node c.in_ok-of.of c.in_ok-of.ensures c.is_word.result c.any.result
    (c.is_word.ensures ∙ ap (λ n. named (codes "scf.if") (name_term c.args.world.now.ctx n)) c.name.ensures) c.if-not-is_word.false (c.any.ensures ∙ ap any c.deref.ensures.value) c.if-not-any.true

pub returns-clause-reason : goal.returns-clause-reason
returns-clause-reason c =
    lowered_choice_tested c.args.world.now c.args.op c.in-Some.node c.in-Some.ensures.node c.in_ok-of.of c.in_ok-of.ensures c.is_word.result c.any.result
    (c.is_word.ensures ∙ ap (λ n. named (codes "scf.if") (name_term c.args.world.now.ctx n)) c.name.ensures) c.if-not-is_word.false (c.any.ensures ∙ ap any c.deref.ensures.value) c.if-not-any.false

pub returns-in_default-2-clause-reason : goal.returns-in_default-2-clause-reason
returns-in_default-2-clause-reason c =
    blockless_choice c.args.world.now c.args.op c.in-Some.node c.in-Some.ensures.node c.in_ok-of.of c.in_ok-of.ensures c.is_word.result c.any.result
    (c.is_word.ensures ∙ ap (λ n. named (codes "scf.if") (name_term c.args.world.now.ctx n)) c.name.ensures) c.if-not-is_word.false (c.any.ensures ∙ ap any c.deref.ensures.value) c.if-not-any.false

pub returns-in_default-3-clause-reason : goal.returns-in_default-3-clause-reason
returns-in_default-3-clause-reason c =
    blockless_choice c.args.world.now c.args.op c.in-Some.node c.in-Some.ensures.node c.in_ok-of.of c.in_ok-of.ensures c.is_word.result c.any.result
    (c.is_word.ensures ∙ ap (λ n. named (codes "scf.if") (name_term c.args.world.now.ctx n)) c.name.ensures) c.if-not-is_word.false (c.any.ensures ∙ ap any c.deref.ensures.value) c.if-not-any.false

pub returns-in_default-clause-reason : goal.returns-in_default-clause-reason
returns-in_default-clause-reason c = not_there_tested c.args.world.now c.args.op LowerChoice false (Some WrongOperation) c.in_default.ensures.node
