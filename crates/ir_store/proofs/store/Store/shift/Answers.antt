use Rattle.std.proofs.Common.{refl, sym, ◌∙◌, ap, subst}
use Rattle.ir_store_reads.specs.types.Terms.{name_term}
use Rattle.ir_store_reads.specs.types.Words.{is_table}
use Rattle.ir_store_reads.specs.trees.Meaning.{isolated_in}
use Rattle.ir_store_reads.specs.trees.WellFormed.{IsWellFormed}
use Rattle.ir_store_reads.proofs.of_tree_laws.WellKept.{shift_keeps}
use Rattle.ir_store.specs.Calls.{after_shift}
use Rattle.ir_store.specs.Looks.{CanLook, is_dominated}
use Rattle.ir_store.specs.Shifting.{CanRelink}
use Rattle.ir_store.proofs.Back.{can_go_back, gone_back}
use Rattle.ir_store.proofs.Moving.{may_look, may_relink, refused_before, seen_reason, unseen_refused}
use Rattle.ir_store.proofs.Tabled.{relink_place}
use Rattle.ir_store.proofs.store.Store.shift.Goals as goal

pub returns-in-Some-clause-done : goal.returns-in-Some-clause-done
returns-in-Some-clause-done c = (refused_before (isolated_in c.args.ctx.now) (λ n. is_table (name_term c.args.ctx.now n)) c.args.op c.args.place c.args.self.now.module_of.tree c.in-Some.refusal (sym c.in-Some.ensures), refl)

pub returns-in_default-clause-done : goal.returns-in_default-clause-done
returns-in_default-clause-done c =
    let can = may_relink (isolated_in c.args.ctx.now) (λ n. is_table (name_term c.args.ctx.now n)) c.args.op c.args.place c.args.self.now.module_of c.requires (sym c.in-None.ensures) in
    absurd (relink_place c.args.self.now.module_of.tree c.distinct.ensures c.args.op c.args.place can (sym c.in_default.ensures))

pub move_unchecked-requires : goal.move_unchecked-requires
move_unchecked-requires c = may_relink (isolated_in c.args.ctx.now) (λ n. is_table (name_term c.args.ctx.now n)) c.args.op c.args.place c.args.self.now.module_of c.requires (sym c.in-None.ensures)

pub operands_dominate-requires : goal.operands_dominate-requires
operands_dominate-requires c =
    subst (λ s. CanLook c.args.op s.module_of.tree) (sym c.move_unchecked.ensures)
    (may_look (isolated_in c.args.ctx.now) (λ n. is_table (name_term c.args.ctx.now n)) c.args.op c.args.place c.args.self.now.module_of c.requires (sym c.in-None.ensures))

pub returns-then-operands_dominate-clause-done : goal.returns-then-operands_dominate-clause-done
returns-then-operands_dominate-clause-done c =
    let isolated = isolated_in c.args.ctx.now in (
      seen_reason isolated (λ n. is_table (name_term c.args.ctx.now n)) c.args.op c.args.place c.args.self.now.module_of c.requires (sym c.in-None.ensures)
          (ap (λ s. is_dominated isolated c.args.op s.module_of.tree) (sym c.move_unchecked.ensures) ∙ sym c.operands_dominate.ensures ∙ c.if-operands_dominate.true),
      c.move_unchecked.ensures,
    )

pub returns-then-operands_dominate-clause-wellformed : goal.returns-then-operands_dominate-clause-wellformed
returns-then-operands_dominate-clause-wellformed c =
    let isolated = isolated_in c.args.ctx.now in
    subst (λ s. IsWellFormed isolated s.module_of) (sym c.move_unchecked.ensures)
    (shift_keeps isolated (λ n. is_table (name_term c.args.ctx.now n)) c.args.op c.args.place c.args.self.now.module_of c.requires
    (seen_reason isolated (λ n. is_table (name_term c.args.ctx.now n)) c.args.op c.args.place c.args.self.now.module_of c.requires (sym c.in-None.ensures)
    (ap (λ s. is_dominated isolated c.args.op s.module_of.tree) (sym c.move_unchecked.ensures) ∙ sym c.operands_dominate.ensures ∙ c.if-operands_dominate.true)))

pub move_unchecked-requires-2 : goal.move_unchecked-requires-2
move_unchecked-requires-2 c =
    let can = may_relink (isolated_in c.args.ctx.now) (λ n. is_table (name_term c.args.ctx.now n)) c.args.op c.args.place c.args.self.now.module_of c.requires (sym c.in-None.ensures) in
    subst (λ s. CanRelink c.args.op c.in-Some-place.old s.module_of.tree) (sym c.move_unchecked.ensures)
    (can_go_back c.args.op c.args.place c.args.self.now.module_of.tree c.distinct.ensures can c.in-Some-place.old (sym c.in-Some-place.ensures))

pub returns-clause-done : goal.returns-clause-done
returns-clause-done c =
    let isolated = isolated_in c.args.ctx.now in
    let can = may_relink isolated (λ n. is_table (name_term c.args.ctx.now n)) c.args.op c.args.place c.args.self.now.module_of c.requires (sym c.in-None.ensures) in (
      unseen_refused isolated (λ n. is_table (name_term c.args.ctx.now n)) c.args.op c.args.place c.args.self.now.module_of c.requires (sym c.in-None.ensures)
          (ap (λ s. is_dominated isolated c.args.op s.module_of.tree) (sym c.move_unchecked.ensures) ∙ sym c.operands_dominate.ensures ∙ c.if-operands_dominate.false),
      c.move_unchecked-2.ensures ∙ ap (after_shift c.args.op c.in-Some-place.old) c.move_unchecked.ensures
          ∙ gone_back c.args.op c.args.place c.in-Some-place.old c.args.self.now c.distinct.ensures can (sym c.in-Some-place.ensures),
    )

pub returns-clause-wellformed : goal.returns-clause-wellformed
returns-clause-wellformed c =
    let can = may_relink (isolated_in c.args.ctx.now) (λ n. is_table (name_term c.args.ctx.now n)) c.args.op c.args.place c.args.self.now.module_of c.requires (sym c.in-None.ensures) in
    subst (λ s. IsWellFormed (isolated_in c.args.ctx.now) s.module_of)
    (sym (c.move_unchecked-2.ensures ∙ ap (after_shift c.args.op c.in-Some-place.old) c.move_unchecked.ensures ∙ gone_back c.args.op c.args.place c.in-Some-place.old c.args.self.now c.distinct.ensures can (sym c.in-Some-place.ensures)))
    c.requires
