-- An operation that is inserted header by header, without an earlier check of dominance.
use Rattle.std.proofs.Common.{◌≡◌, refl, ap, sym, ◌∙◌, ℕ, ◌+◌, Bool, true, false, List, ◌∷◌, ◌++◌, Option, None, Some, inl, inr}
use Rattle.std.specs.Prelude.{nat_le}
use Rattle.ir_event.specs.types.declared.refusal.Refusal.{Refusal}
use Rattle.ir_event.specs.types.declared.refusal.Refusal.TheVariants.{NoSuchOp, NotVisible, NoSuchIndex, Full, IdsExhausted, TooDeepHere}
use Rattle.ir_event.specs.types.Reasons.{first_reason}
use Rattle.ir_event.specs.trees.declared.place.Place.{Place}
use Rattle.ir_event.specs.trees.Tree.{OpOf}
use Rattle.ir_event.specs.trees.Ids.{has_id, op_count, IsNumberedFrom}
use Rattle.ir_event.specs.trees.Limits.{depth, every, op_fits, most_ops, most_next}
use Rattle.ir_event.specs.trees.Sites.{operands_visible}
use Rattle.ir_event.specs.trees.Places.{put}
use Rattle.ir_event.specs.trees.WellFormed.{ModuleOf, IsWellFormed}
use Rattle.ir_event.specs.tree_laws.Reads.{around}
use Rattle.ir_event.specs.tree_laws.Reasons.{unless, has_place, fits_around, put_reason}
use Rattle.ir_event.proofs.of_tree_laws.Listed.{bool_cases}
use Rattle.ir_event.proofs.of_tree_laws.Reasoned.{no_unless}
use Rattle.rewriter_machine.specs.Edits.{TestsOf, Insert, insert_reason, edited_by, reason_by}
use Rattle.rewriter_machine.specs.Inserting.{headers, all_made, insert_fault}
use Rattle.rewriter_machine.proofs.Inserted.{made_whole, header_allowed}

one_split : (b : Bool) (r : Refusal) (rest fault next : Option Refusal) → rest ≡ first_reason fault next → unless b r rest ≡ first_reason (unless b r fault) next
one_split true r rest fault next e = e
one_split false r rest fault next e = refl

module _ {N T A : Type 0} where
  pub reason_split : (isolated : N → Bool) (place : Place) (o : OpOf N T A) (free : ℕ) (t : OpOf N T A)
      → insert_reason isolated place o free t ≡ first_reason (insert_fault place o free t) (unless (operands_visible isolated (put place o t)) NotVisible None)
  reason_split isolated place o free t =
      let last = unless (operands_visible isolated (put place o t)) NotVisible None in
      one_split (has_id place.parent t) NoSuchOp _ _ last
      (one_split (has_place place t) NoSuchIndex _ _ last
      (one_split (nat_le (op_count t + op_count o) most_ops) Full _ _ last
      (one_split (every op_fits o) Full _ _ last
      (one_split (nat_le (free + op_count o) most_next) IdsExhausted _ _ last
      (one_split (fits_around (depth o) (around place.parent t)) TooDeepHere last None last refl)))))

  module _ (w : TestsOf N T) (place : Place) (o : OpOf N T A) (m : ModuleOf N T A) (f : IsWellFormed w.isolated m) (numbered : IsNumberedFrom m.next o) (e : insert_fault place o m.next m.tree ≡ None) where
    seen_left : reason_by w (Insert place o) m ≡ unless (operands_visible w.isolated (put place o m.tree)) NotVisible None
    seen_left = reason_split w.isolated place o m.next m.tree ∙ ap (λ r. first_reason r (unless (operands_visible w.isolated (put place o m.tree)) NotVisible None)) e

    pub tried_whole : all_made w (headers place o) m ≡ edited_by w (Insert place o) m
    tried_whole = made_whole w place o m f numbered (no_unless (has_place place m.tree) NoSuchIndex _ (no_unless (has_id place.parent m.tree) NoSuchOp _ e).1).0

    pub tried_through : IsWellFormed w.isolated (all_made w (headers place o) m) → reason_by w (Insert place o) m ≡ None
    tried_through g =
        seen_left ∙ ap (λ b. unless b NotVisible None) (sym (ap (λ (n : ModuleOf N T A). operands_visible w.isolated n.tree) tried_whole) ∙ g.wellformed.visible)

    pub tried_failed : (us vs : List (Place × OpOf N T A)) (u : Place × OpOf N T A) (r : Refusal) → us ++ u ∷ vs ≡ headers place o → put_reason w.isolated u.0 u.1 (all_made w us m).next (all_made w us m).tree ≡ Some r
        → reason_by w (Insert place o) m ≡ Some NotVisible
    tried_failed us vs u r k h = elim (bool_cases (operands_visible w.isolated (put place o m.tree))) [
      | inr b ↦ seen_left ∙ ap (λ b. unless b NotVisible None) b
      | inl b ↦ (let none = seen_left ∙ ap (λ b. unless b NotVisible None) b in
          let two : Some r ≡ None = sym h ∙ header_allowed w place o m f numbered none us vs u k in
          absurd cc)
    ]
