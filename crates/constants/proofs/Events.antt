-- The operations of a tree after an event.
use Rattle.std.proofs.Common.{◌≡◌, ◌⊎◌, ℕ, zero, suc, List, [], ◌∷◌, Bool, true, true≢false, not, Option, Some, None, inl, inr, refl, sym, ap, ◌∙◌, subst, cond, eqb, slice_get, slice_set}
use Rattle.std.specs.Option.{option_map}
use Rattle.std.specs.List.{list_all}
use Rattle.std.specs.Prelude.{option_and_then}
use Rattle.std.proofs.lemmas.Bool.{eq-eqb, ne_eqb, cases_eq}
use Rattle.ir_event.specs.types.Terms.{name_term, attr_term}
use Rattle.ir_event.specs.types.Things.{ContextModel}
use Rattle.ir_event.specs.types.Words.{is_table}
use Rattle.ir_event.specs.trees.declared.value.Value.{Value}
use Rattle.ir_event.specs.trees.declared.value.Value.TheVariants.{Result}
use Rattle.ir_event.specs.trees.declared.place.Place.{Place}
use Rattle.ir_event.specs.trees.declared.place.Part.{Part}
use Rattle.ir_event.specs.trees.Tree.{op, head}
use Rattle.ir_event.specs.trees.Ids.{find}
use Rattle.ir_event.specs.trees.Frames.{owner_of}
use Rattle.ir_event.specs.trees.Limits.{every}
use Rattle.ir_event.specs.trees.Edits.{each_head, at, put_operand, change_part, change_entry}
use Rattle.ir_event.specs.trees.Meaning.{Operation, key_before}
use Rattle.ir_event.proofs.of_trees.Heads.{Alike, head_find, alike_operand, alike_entry}
use Rattle.ir_event.specs.tree_laws.Members.{In}
use Rattle.ir_event.specs.tree_laws.Reasons.{leaves}
use Rattle.ir_event.proofs.of_tree_laws.Listed.{both}
use Rattle.ir_event.proofs.of_tree_laws.Members.{found_stands}
use Rattle.ir_event.proofs.of_tree_laws.Changed.{uses_unused}
use Rattle.ir_event.proofs.Sounds.{every_found}
use Rattle.ir_event.specs.declared.event.Event.{Event}
use Rattle.ir_event.specs.declared.event.Event.TheVariants.{Put, Take, SetOperand, SetEntry, Shift}
use Rattle.ir_event.specs.Modules.{Module}
use Rattle.ir_event.specs.Step.{Step}
use Rattle.ir_event.specs.Heads.{heads}
use Rattle.dialects_int.specs.Folds.{fold_of}
use Rattle.constants.specs.Facts.{Header, Facts, known, knowns, look, folded, folded_if, AreLocal}
use Rattle.constants.specs.Walk.{AreOrdered, with_fact}
use Rattle.constants.specs.Trails.{IsThere, Uses}
use Rattle.constants.specs.Phases.{SameBut}
use Rattle.constants.proofs.Walks.{put_same, put_other, value_same}
use Rattle.constants.proofs.Knowing.{value_uses}
use Rattle.constants.proofs.Ordering.{ordered_tree}
use Rattle.constants.proofs.Cuts.{taken_other, taken_gone, taken_was, shifted_same}

module _ (f : Header → Header) (alike : (h : Header) → Alike (f h) h) (x : ℕ) (t : Operation) where
  -- an edit of the head of one operation
  edited_other : ((h : Header) → (h.id ≡ x → ⊥) → f h ≡ h) → (y : ℕ) → (y ≡ x → ⊥) → look (each_head f t) y ≡ look t y
  edited_other same y ne = ap (option_map head) (head_find f alike y t) ∙ go (find y t) refl
    where
      go : (o : Option Operation) → find y t ≡ o → option_map head (option_map (each_head f) o) ≡ option_map head o
      go None e = refl
      go (Some (op h rs)) e =
          let s = found_stands y t (op h rs) e in
          let id : h.id ≡ y = ap (λ (o : Operation). (head o).id) (sym s.3) ∙ s.2 in
          ap Some (same h (λ q. ne (sym id ∙ q)))

at_other : (x : ℕ) (g : Header → Header) (h : Header) → (h.id ≡ x → ⊥) → at x g h ≡ h
at_other x g h ne = ap (λ b. cond b (g h) h) (ne_eqb h.id x ne)

found_there : (t : Operation) (x : ℕ) {X : Type 0} (k : Operation → Option X) (v : X) → option_and_then k (find x t) ≡ Some v → IsThere (look t) x
found_there t x k v e = go (find x t) refl e
  where
    go : (o : Option Operation) → find x t ≡ o → option_and_then k o ≡ Some v → IsThere (look t) x
    go None f e = absurd (let bad : None ≡ Some v = e in cc)
    go (Some o) f e = (head o, ap (option_map head) f)

mapped_there : (t : Operation) (x : ℕ) {X : Type 0} (k : Operation → X) (v : X) → option_map k (find x t) ≡ Some v → IsThere (look t) x
mapped_there t x k v e = go (find x t) refl e
  where
    go : (o : Option Operation) → find x t ≡ o → option_map k o ≡ Some v → IsThere (look t) x
    go None f e = absurd (let bad : None ≡ Some v = e in cc)
    go (Some o) f e = (head o, ap (option_map head) f)

not_left : (x : ℕ) (vs : List Value) → list_all (λ v. not (eqb (owner_of v).0 x)) vs ≡ true → In (Result x 0) vs → ⊥
not_left x [] e h = h
not_left x (v ∷ vs) e (inl q) =
    let b = both (not (eqb (owner_of v).0 x)) (list_all (λ w. not (eqb (owner_of w).0 x)) vs) e in
    true≢false (sym b.0 ∙ ap (λ w. not (eqb (owner_of w).0 x)) (sym q) ∙ ap not (eq-eqb x x refl))
not_left x (v ∷ vs) e (inr h) = not_left x vs (both (not (eqb (owner_of v).0 x)) (list_all (λ w. not (eqb (owner_of w).0 x)) vs) e).1 h

-- replacing one of the values by a value with the same known value
knowns_put : (a : Facts) (old new : Value) → known a old ≡ known a new → (vs : List Value) (k : ℕ) → slice_get vs k ≡ Some old → knowns a (slice_set vs k new) ≡ knowns a vs
knowns_put a old new e [] k g = absurd cc
knowns_put a old new e (v ∷ vs) zero g = let same : v ≡ old = cc in ap (λ z. z ∷ knowns a vs) (sym e ∙ ap (known a) (sym same))
knowns_put a old new e (v ∷ vs) (suc k) g = ap (λ zs. known a v ∷ zs) (knowns_put a old new e vs k g)

-- operation x is in the new module, and the others are unchanged
abbrev pub ChangedAt : ℕ → Module → Module → Type 0
ChangedAt x m n = IsThere (look n.tree) x × SameBut x (look m.tree) (look n.tree)

module _ (c : ContextModel) (m n : Module) where
  pub ordered_before : (e : Event) → Step c e m n → AreOrdered [] (heads m.tree)
  ordered_before e s = ordered_tree m.tree s.before.distinct s.before.wellformed.visible

  pub ordered_after : (e : Event) → Step c e m n → AreOrdered [] (heads n.tree)
  ordered_after e s = ordered_tree n.tree s.after.distinct s.after.wellformed.visible

  pub put_changed : (x : ℕ) (place : Place) (fresh : Bool) → Step c (Put x place fresh) m n → ChangedAt x m n
  put_changed x place fresh s = (
    taken_was n m x (ordered_after (Put x place fresh) s) s.after.distinct place fresh s.changes,
    λ y ne. sym (taken_other n m x (ordered_after (Put x place fresh) s) s.after.distinct place fresh s.changes y ne),
  )

  pub operand_changed : (x k : ℕ) (old new : Value) → Step c (SetOperand x k old new) m n → ChangedAt x m n
  operand_changed x k old new s = (
    found_there n.tree x (λ o. slice_get (head o).operands k) new s.changes.is,
    λ y ne. ap (λ t. look t y) s.changes.after ∙ edited_other (at x (put_operand k new)) (alike_operand x k new) x m.tree (at_other x (put_operand k new)) y ne,
  )

  -- an operand is set to a value with the same known value
  same_fold : (x k : ℕ) (old new : Value) (a : Facts) → Step c (SetOperand x k old new) m n → known a old ≡ known a new → folded_if (look m.tree x) a ≡ folded_if (look n.tree x) a
  same_fold x k old new a s e = go (find x m.tree) refl s.changes.was ∙ sym (ap (λ o. folded_if o a) now)
    where
      f : Header → Header
      f = at x (put_operand k new)

      now : look n.tree x ≡ option_map head (option_map (each_head f) (find x m.tree))
      now = ap (λ t. look t x) s.changes.after ∙ ap (option_map head) (head_find f (alike_operand x k new) x m.tree)

      go : (o : Option Operation) → find x m.tree ≡ o → option_and_then (λ o. slice_get (head o).operands k) o ≡ Some old → folded_if (option_map head o) a ≡ folded_if (option_map head (option_map (each_head f) o)) a
      go None i g = absurd cc
      go (Some (op h rs)) i g =
          let w = found_stands x m.tree (op h rs) i in
          let id : h.id ≡ x = ap (λ (o : Operation). (head o).id) (sym w.3) ∙ w.2 in
          sym (ap (λ ks. fold_of h.name h.properties ks h.results) (knowns_put a old new e h.operands k g))
          ∙ sym (ap (λ b. folded (cond b (put_operand k new h) h) a) (eq-eqb h.id x id))

  pub operand_local : (x k : ℕ) (old new : Value) (a b : Facts) → Step c (SetOperand x k old new) m n → known a old ≡ known a new → ((y : ℕ) → b y ≡ a y) → AreLocal (look m.tree) a → AreLocal (look n.tree) b
  operand_local x k old new a b s e same local y = same y ∙ local y ∙ now (cases_eq y x) ∙ value_same (look n.tree y) a b (λ z. sym (same z))
    where
      now : (y ≡ x) ⊎ (y ≡ x → ⊥) → folded_if (look m.tree y) a ≡ folded_if (look n.tree y) a
      now (inl i) = subst (λ z. folded_if (look m.tree z) a ≡ folded_if (look n.tree z) a) (sym i) (same_fold x k old new a s e)
      now (inr ne) = ap (λ o. folded_if o a) (sym ((operand_changed x k old new s).1 y ne))

  pub entry_changed : (x : ℕ) (part : Part) (key : ℕ) (old new : Option ℕ) → Step c (SetEntry x part key old new) m n → ChangedAt x m n
  entry_changed x part key old new s =
      let g : Header → Header = change_part part (change_entry key_before (name_term c key) (option_map (attr_term c) new)) in
      (mapped_there n.tree x _ _ s.changes.is, λ y ne. ap (λ t. look t y) s.changes.after ∙ edited_other (at x g) (alike_entry key_before x part (name_term c key) (option_map (attr_term c) new)) x m.tree (at_other x g) y ne)

  pub shift_same : (x : ℕ) (old new : Place) → Step c (Shift x old new) m n → (y : ℕ) → look n.tree y ≡ look m.tree y
  shift_same x old new s = shifted_same m n x (ordered_before (Shift x old new) s) s.before.distinct is_table old new (ordered_after (Shift x old new) s) s.after.distinct s.changes

  -- a removed operation has no users
  taken_unused : (x : ℕ) (place : Place) (fresh : Bool) → Step c (Take x place fresh) m n → (y : ℕ) → Uses (look m.tree) x y → ⊥
  taken_unused x place fresh s y u = go (find y m.tree) refl u.is
    where
      go : (o : Option Operation) → find y m.tree ≡ o → option_map head o ≡ Some u.here → ⊥
      go None f e = (let bad : None ≡ Some u.here = e in cc)
      go (Some (op h rs)) f e =
          let one : h ≡ u.here = cc in
          let all : every (λ o. leaves x (head o)) (op h rs) ≡ true = every_found (λ o. leaves x (head o)) y m.tree (op h rs) (uses_unused x m.tree s.changes.unused) f in
          let here : leaves x h ≡ true = (both (leaves x h) _ all).0 in
          not_left x h.operands here (subst (λ (k : Header). In (Result x 0) k.operands) (sym one) u.operand)

  -- forgetting the removed operation is enough
  pub taken_local : (x : ℕ) (place : Place) (fresh : Bool) (t u : Facts) → Step c (Take x place fresh) m n → ((y : ℕ) → u y ≡ with_fact x None t y) → AreLocal (look m.tree) t → AreLocal (look n.tree) u
  taken_local x place fresh t u s is local y = elim (cases_eq y x) [
    | inl e ↦ ap u e ∙ is x ∙ put_same x None t ∙ sym (ap (λ o. folded_if o u) (ap (look n.tree) e ∙ taken_gone m n x ordered s.before.distinct place fresh s.changes))
    | inr ne ↦ is y
        ∙ put_other x y None t ne
        ∙ local y
        ∙ value_uses (look m.tree) t u y (λ d k. sym (is d ∙ put_other x d None t (λ q. taken_unused x place fresh s y (subst (λ z. Uses (look m.tree) z y) q k))))
        ∙ ap (λ o. folded_if o u) (sym (taken_other m n x ordered s.before.distinct place fresh s.changes y ne))
  ]
    where
      ordered : AreOrdered [] (heads m.tree)
      ordered = ordered_before (Take x place fresh) s
