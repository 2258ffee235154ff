-- An accepted edit of one event is a step of the module's meaning.
use Rattle.std.proofs.Common.{◌≡◌, refl, ap, sym, ◌∙◌, subst, ℕ, true, length, Option, Some, None, slice_get}
use Rattle.std.specs.Prelude.{nat_lt, option_and_then, is_some}
use Rattle.ir_event.specs.types.Things.{ContextModel}
use Rattle.ir_event.specs.trees.declared.value.Value.{Value}
use Rattle.ir_event.specs.trees.Tree.{Op, head}
use Rattle.ir_event.specs.trees.Ids.{find}
use Rattle.ir_event.specs.trees.Meaning.{IsSoundIn, isolated_in}
use Rattle.ir_event.specs.trees.WellFormed.{IsWellFormed, Module as Numbered}
use Rattle.ir_event.specs.tree_laws.Changes.{operand_at}
use Rattle.ir_event.specs.tree_laws.Reasons.{set_operand_reason}
use Rattle.ir_event.proofs.of_tree_laws.Reasoned.{no_operand_reason}
use Rattle.ir_event.proofs.of_tree_laws.HeadForm.{set_operand_keeps}
use Rattle.ir_event.proofs.of_tree_laws.Values.{got}
use Rattle.std.proofs.lemmas.Bool.{ltb-true}
use Rattle.ir_event.specs.declared.event.Event.{Event}
use Rattle.ir_event.specs.declared.event.Event.TheVariants as event
use Rattle.ir_event.specs.Modules.{Module, module_meaning}
use Rattle.ir_event.specs.Step as steps
use Rattle.ir_event.proofs.Steps.{operand_steps}
use Rattle.ir_event.proofs.Stepped.{put_steps, shift_steps}
use Rattle.ir_event.proofs.Entered.{entry_steps}
use Rattle.rewriter_machine.specs.Edits.{Insert, Make, Erase, Move, SetOperand, Replace, SetAttr, DropAttr, part_for, edited_by, reason_by}
use Rattle.rewriter_machine.specs.Contents.{tests_in, NumberedEdit, EditIsOf, edit_meaning, edited, IsElementary}
use Rattle.rewriter_machine.proofs.Numbers.{edited_meaning}

-- an operand that exists
there : (x k : ℕ) (t o : Op) → find x t ≡ Some o → nat_lt k (length (head o).operands) ≡ true → (v : Value) × (operand_at x k t ≡ Some v)
there x k t o f lt = go (slice_get (head o).operands k) refl (got (head o).operands k (ltb-true k (length (head o).operands) lt))
  where
    at : operand_at x k t ≡ slice_get (head o).operands k
    at = ap (option_and_then (λ o. slice_get (head o).operands k)) f

    go : (q : Option Value) → slice_get (head o).operands k ≡ q → is_some q ≡ true → (v : Value) × (operand_at x k t ≡ Some v)
    go None e h = absurd cc
    go (Some v) e h = (v, at ∙ e)

module _ (c : ContextModel) where
  abbrev OneStep : NumberedEdit → Numbered → Type 0
  OneStep e m = (what : Event) × steps.Step c what (module_meaning c m) (module_meaning c (edited_by (tests_in c) e m))

  operand_step : (x k : ℕ) (v : Value) (m : Numbered) → IsWellFormed (isolated_in c) m → IsSoundIn c m.tree → set_operand_reason (isolated_in c) x k v m.tree ≡ None → OneStep (SetOperand x k v) m
  operand_step x k v m w sound e =
      let n = no_operand_reason (isolated_in c) x k v m.tree e in
      let old = there x k m.tree n.here n.found n.place in
      (event.SetOperand x k old.0 v, operand_steps c x k old.0 v m w (set_operand_keeps (isolated_in c) x k v m w e) sound old.1)

  numbered_step : (e : NumberedEdit) (m : Numbered) → IsElementary e → IsWellFormed (isolated_in c) m → IsSoundIn c m.tree → EditIsOf c m e → reason_by (tests_in c) e m ≡ None → OneStep e m
  numbered_step (Insert place o) m is w sound of e = absurd is
  numbered_step (Make place o) m is w sound of e = (event.Put m.next place true, put_steps c place o m w sound of.0 of.1 e)
  numbered_step (Erase x) m is w sound of e = absurd is
  numbered_step (Move x place) m is w sound of e = (let s = shift_steps c x place m w sound e in (event.Shift x s.0 place, s.1))
  numbered_step (SetOperand x k v) m is w sound of e = operand_step x k v m w sound e
  numbered_step (Replace old new) m is w sound of e = absurd is
  numbered_step (SetAttr x k a) m is w sound of e =
      (let part = part_for (tests_in c) x k m.tree in
      let s = entry_steps c x part k (Some a) m w sound of.0 of.1 e in
      (event.SetEntry x part k s.0 (Some a), s.2))
  numbered_step (DropAttr x k) m is w sound of e =
      (let part = part_for (tests_in c) x k m.tree in
      let s = entry_steps c x part k None m w sound of tt e in
      (event.SetEntry x part k s.0 None, s.2))

  -- the same for the edit's meaning
  pub elementary_step : (e : NumberedEdit) (m : Numbered) → IsElementary e → IsWellFormed (isolated_in c) m → IsSoundIn c m.tree → EditIsOf c m e → reason_by (tests_in c) e m ≡ None
      → (what : Event) × steps.Step c what (module_meaning c m) (edited (edit_meaning c e) (module_meaning c m))
  elementary_step e m is w sound of free =
      let s = numbered_step e m is w sound of free in
      (s.0, subst (λ (n : Module). steps.Step c s.0 (module_meaning c m) n) (sym (edited_meaning c e m)) s.1)
