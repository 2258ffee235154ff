-- The effects of edits by numbers on a rewriter.
use Rattle.std.specs.Prelude.{◌≡◌, ℕ, ◌⊎◌, None, Result, Ok, Err}
use Rattle.ir_event.specs.types.Things.{IsAttr, IsName}
use Rattle.ir_event.specs.types.declared.refusal.Refusal.{Refusal}
use Rattle.ir_event.specs.types.declared.refusal.Refusal.TheVariants.{BadCommand}
use Rattle.ir_event.specs.trees.Tree.{Op}
use Rattle.ir_event.specs.trees.declared.place.Place.{Place}
use Rattle.ir_event.specs.trees.Meaning.{IsSoundIn}
use Rattle.ir_event.specs.Listener.{Listener}
use Rattle.rewriter_machine.specs.Contents.{edit_meaning}
use Rattle.rewriter_machine.specs.Edits.{DropAttr, Make, SetAttr}
use Rattle.rewriter_machine.specs.Machine.{Do, Refused, Reply}
use Rattle.rewriter_machine.specs.Points.{Point, point_place}
use Rattle.rewriter.specs.RewriterCalls.{Benched, Does}

module _ {B : Type 0} (meaning : B → Listener) where
  -- an operation is inserted at a place; if there is none, nothing changes
  abbrev pub InsertsAt : Op → Result Place Refusal → Reply → Benched B → Benched B → Type 0
  InsertsAt header (Err refusal) reply old new = (reply ≡ Refused refusal) × (new ≡ old)
  InsertsAt header (Ok place) reply old new =
      Does meaning (Do (edit_meaning old.transaction.ctx (Make place header))) reply old new

  -- an operation is inserted at an insertion point; if the context doesn't have its numbers, nothing changes
  abbrev pub InsertsHeader : Point → Op → Reply → Benched B → Benched B → Type 0
  InsertsHeader point header reply old new =
      ((IsSoundIn old.transaction.ctx header → ⊥) × (reply ≡ Refused BadCommand) × (new ≡ old))
      ⊎ (IsSoundIn old.transaction.ctx header
      × InsertsAt header (point_place None point old.transaction.store.module_of.tree) reply old new)

  -- an operation is inserted at an insertion point; if it can't have its entries, nothing changes
  abbrev pub InsertsNumbered : Point → Result Op Refusal → Reply → Benched B → Benched B → Type 0
  InsertsNumbered point (Err refusal) reply old new = (reply ≡ Refused refusal) × (new ≡ old)
  InsertsNumbered point (Ok header) reply old new = InsertsHeader point header reply old new

  -- an entry is set; if the context doesn't have the key and the attribute, nothing changes
  abbrev pub SetsNumbered : ℕ → ℕ → ℕ → Reply → Benched B → Benched B → Type 0
  SetsNumbered x key attr reply old new =
      ((IsName old.transaction.ctx key → IsAttr old.transaction.ctx attr → ⊥) × (reply ≡ Refused BadCommand) × (new ≡ old))
      ⊎ (IsName old.transaction.ctx key × IsAttr old.transaction.ctx attr
      × Does meaning (Do (edit_meaning old.transaction.ctx (SetAttr x key attr))) reply old new)

  -- an entry is removed; if the context doesn't have the key, nothing changes
  abbrev pub DropsNumbered : ℕ → ℕ → Reply → Benched B → Benched B → Type 0
  DropsNumbered x key reply old new =
      ((IsName old.transaction.ctx key → ⊥) × (reply ≡ Refused BadCommand) × (new ≡ old))
      ⊎ (IsName old.transaction.ctx key
      × Does meaning (Do (edit_meaning old.transaction.ctx (DropAttr x key))) reply old new)
