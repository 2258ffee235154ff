-- Each event leaves the contexts of all operations unchanged except those near it.
use Rattle.std.proofs.Common.{◌≡◌, refl, ap, sym, ◌∙◌, subst, ℕ, Bool, true, false, cond, eqb, eqb-true, List, [], ◌∷◌, map, Option, Some, None, inl, inr}
use Rattle.ir_event.specs.types.Things.{ContextModel}
use Rattle.ir_event.specs.trees.declared.place.Place.{Place}
use Rattle.ir_event.specs.trees.declared.place.Part.{Part}
use Rattle.ir_event.specs.trees.declared.place.Part.TheVariants.{Props, Attrs}
use Rattle.ir_event.specs.trees.Tree.{HeadOf, OpOf, head}
use Rattle.ir_event.specs.trees.Edits.{each_head, at, put_operand, change_part}
use Rattle.ir_event.specs.trees.Ids.{HasDistinctIds}
use Rattle.ir_event.specs.trees.WellFormed.{ModuleOf}
use Rattle.ir_event.specs.tree_laws.Changes.{Takes}
use Rattle.ir_event.specs.tree_laws.Reads.{last_at, prev_of}
use Rattle.ir_event.specs.tree_laws.Stands.{StepOf, OpWithPathOf, op_with_path_id, stands, left_step, left_stand}
use Rattle.ir_event.specs.tree_laws.Members.{In}
use Rattle.ir_event.proofs.of_tree_laws.Listed.{bool_cases}
use Rattle.ir_event.proofs.of_tree_laws.Members.{stand}
use Rattle.ir_event.specs.declared.event.Event.{Event}
use Rattle.ir_event.specs.declared.event.Event.TheVariants.{Put, Take, SetOperand, SetEntry, Shift}
use Rattle.ir_event.specs.Modules.{Module}
use Rattle.ir_event.specs.Step.{Step}
use Rattle.listeners_support.specs.Surroundings.{surroundings}
use Rattle.listeners_support.specs.Near.{if_any, if_end, near, lasts_in}
use Rattle.listeners_support.proofs.Points.{next_in, prev_is, last_is, placed_there}
use Rattle.listeners_support.proofs.Left.{left_head}
use Rattle.listeners_support.proofs.Heads.{Keeps, each_far}
use Rattle.listeners_support.proofs.Moves.{moved_far, left_id, taken}
use Rattle.listeners_support.proofs.Locality.{taken_leaves}
use Rattle.std.proofs.lemmas.Bool.{ne_eqb}

in_any : (y : ℕ) (o : Option ℕ) (ys : List ℕ) → o ≡ Some y → In y (if_any o ys)
in_any y o ys e = subst (λ (p : Option ℕ). In y (if_any p ys)) (sym e) (inl refl)

in_later : (y : ℕ) (o : Option ℕ) (ys : List ℕ) → In y ys → In y (if_any o ys)
in_later y None ys h = h
in_later y (Some z) ys h = inr h

in_end : (y : ℕ) (b : Option ℕ) (ys : List ℕ) → b ≡ None → In y ys → In y (if_end b ys)
in_end y None ys e h = h
in_end y (Some c) ys e h = absurd cc

module _ {N T A : Type 0} where
  keeps_at : (x : ℕ) (f : HeadOf N T A → HeadOf N T A) → ((h : HeadOf N T A) → Keeps (f h) h) → (h : HeadOf N T A) → Keeps (at x f h) h
  keeps_at x f k h = elim (eqb h.id x) as (λ b. Keeps (cond b (f h) h) h) [ true ↦ k h | false ↦ record { id = refl; name = refl; results = refl } ]

  keeps_part : (part : Part) (f : List (N × A) → List (N × A)) (h : HeadOf N T A) → Keeps (change_part part f h) h
  keeps_part Props f h = record { id = refl; name = refl; results = refl }
  keeps_part Attrs f h = record { id = refl; name = refl; results = refl }

  edited : (x : ℕ) (f : HeadOf N T A → HeadOf N T A) → ((h : HeadOf N T A) → Keeps (f h) h) → (m n : OpOf N T A) → n ≡ each_head (at x f) m → HasDistinctIds n
      → (y : ℕ) → (In y (x ∷ lasts_in x n) → ⊥) → surroundings y n ≡ surroundings y m
  edited x f k m n is d y far = each_far x f (keeps_at x f k) m n is d y (ne_eqb y x (λ e. far (inl e))) (λ h. far (inr h))

  there : (t : OpOf N T A) (s : OpWithPathOf N T A) (a : StepOf N T A) (q : List (StepOf N T A)) → In s (stands [] t) → s.path ≡ a ∷ q → In (stand s.here (a ∷ q)) (stands [] t)
  there t s a q h p = subst (λ l. In (stand s.here l) (stands [] t)) p h

  took : (x : ℕ) (place : Place) (fresh : Bool) (m n : ModuleOf N T A) → HasDistinctIds m.tree → HasDistinctIds n.tree → Takes x place fresh m n
      → (y : ℕ) → (In y (x ∷ if_end place.before (place.parent ∷ if_any (last_at place.parent place.region n.tree) [])) → ⊥) → surroundings y n.tree ≡ surroundings y m.tree
  took x place fresh m n d e k y far =
      let next_to = place.parent ∷ if_any (last_at place.parent place.region n.tree) [] in
      taken_leaves x m.tree n.tree d e k.left k.empty place k.there k.unused y (λ i. far (inl i)) (λ b i. far (inr (in_end y place.before next_to b (inl i))))
      (λ s h i b a q o rest f g l none.
      let apart : op_with_path_id s ≡ x → ⊥ = λ j. far (inl (sym i ∙ j)) in
      let left = taken x m.tree n.tree d e k.left k.empty s h apart in
      let at = placed_there m.tree d x place k.there o _ q (next_in m.tree d s.here a q o rest (there m.tree s a q h f) g) l in
      let last = last_is n.tree e (left_stand x s).here (left_step x a) (map (left_step x) q) (there n.tree (left_stand x s) (left_step x a) (map (left_step x) q) left (ap (map (left_step x)) f)) none in
      let id : (head (left_step x a).parent).id ≡ place.parent = ap (λ (z : HeadOf N T A). z.id) (left_head x a.parent) ∙ at.0 in
      far (inr (in_end y place.before next_to b (inr (in_any y (last_at place.parent place.region n.tree) [] ((λ w. last_at (sym id w) (sym at.1 w) n.tree) ∙ last ∙ ap Some (left_id x s ∙ i)))))))

  put_in : (x : ℕ) (place : Place) (fresh : Bool) (m n : ModuleOf N T A) → HasDistinctIds m.tree → HasDistinctIds n.tree → Takes x place fresh n m
      → (y : ℕ) → (In y (x ∷ if_end place.before (place.parent ∷ if_any (prev_of x n.tree) [])) → ⊥) → surroundings y n.tree ≡ surroundings y m.tree
  put_in x place fresh m n d e k y far =
      let next_to = place.parent ∷ if_any (prev_of x n.tree) [] in
      sym (taken_leaves x n.tree m.tree e d k.left k.empty place k.there k.unused y (λ i. far (inl i)) (λ b i. far (inr (in_end y place.before next_to b (inl i))))
      (λ s h i b a q o rest f g l none.
      far (inr (in_end y place.before next_to b (inr (in_any y (prev_of x n.tree) [] (ap (λ z. prev_of z n.tree) (sym l) ∙ prev_is n.tree e s.here a q o rest (there n.tree s a q h f) g ∙ ap Some i)))))))

pub far_same : (c : ContextModel) (e : Event) (m n : Module) → Step c e m n → (y : ℕ) → (In y (near e n.tree) → ⊥) → surroundings y n.tree ≡ surroundings y m.tree
far_same c (Put x place fresh) m n s y far = put_in x place fresh m n s.before.distinct s.after.distinct s.changes y far
far_same c (Take x place fresh) m n s y far = took x place fresh m n s.before.distinct s.after.distinct s.changes y far
far_same c (SetOperand x k old new) m n s y far = edited x (put_operand k new) (λ h. record { id = refl; name = refl; results = refl }) m.tree n.tree s.changes.after s.after.distinct y far
far_same c (SetEntry x part key old new) m n s y far = edited x _ (keeps_part part _) m.tree n.tree s.changes.after s.after.distinct y far
far_same c (Shift x old new) m n s y far =
    let t = n.tree in
    moved_far x m.tree n.tree s.before.distinct s.after.distinct s.changes.rest s.changes.same old new s.changes.was s.changes.is y
    (λ i. far (inl i)) (λ i. far (inr (inl i))) (λ i. far (inr (inr (inl i))))
    (λ i. far (inr (inr (inr (in_any y (last_at old.parent old.region t) (if_any (prev_of x t) []) i)))))
    (λ i. far (inr (inr (inr (in_later y (last_at old.parent old.region t) (if_any (prev_of x t) []) (in_any y (prev_of x t) [] i))))))
