-- An operation is in the tree exactly if there is a fact about it.
use Rattle.std.proofs.Common.{◌≡◌, refl, sym, ap, ◌∙◌, ℕ, true, false, Option, Some, None, inl, inr}
use Rattle.std.specs.Prelude.{option_map}
use Rattle.ir_types.specs.Terms.{name_term, type_term, attr_term}
use Rattle.ir_tree.specs.Ids.{has_id}
use Rattle.ir_tree_laws.proofs.Contents.{map_has_id}
use Rattle.ir_tree_laws.proofs.Listed.{bool_cases}
use Rattle.ir_verify_base.specs.events.declared.world.World.{World}
use Rattle.ir_verify_base.specs.events.Modules.{module_in}
use Rattle.ir_verify_base.specs.Surroundings.{SurroundingsOf, surroundings}
use Rattle.ir_verify_base.specs.Mapped.{map_surroundings}
use Rattle.ir_verify_base.specs.Facts.{fact_of}
use Rattle.ir_verify_base.specs.Gathered.{tree_in}
use Rattle.ir_verify_base.proofs.Meanings.{mapped_surroundings}
use Rattle.ir_verify_base.proofs.Reading.{absent, nothing_around, gone}
use Rattle.ir_verify_base.specs.Fits.{Surroundings}

none_mapped : {X Y : Type 0} (f : X → Y) (o : Option X) → None ≡ option_map f o → o ≡ None
none_mapped f None e = refl
none_mapped f (Some x) e = absurd cc

module _ (w : World) (x : ℕ) where
  pub same_there : has_id x (tree_in w) ≡ true → has_id x (module_in w).tree ≡ true
  same_there h = map_has_id (name_term w.ctx) (type_term w.ctx) (attr_term w.ctx) x (tree_in w) ∙ h

module _ {F : Type 0} (fact : Surroundings → F) (w : World) (x : ℕ) where
  abbrev contents : SurroundingsOf ℕ ℕ ℕ → Surroundings
  contents = map_surroundings (name_term w.ctx) (type_term w.ctx) (attr_term w.ctx)

  around : fact_of fact (module_in w).tree x ≡ option_map fact (option_map contents (surroundings x (tree_in w)))
  around = ap (option_map fact) (mapped_surroundings (name_term w.ctx) (type_term w.ctx) (attr_term w.ctx) x (tree_in w))

  pub isnt_there : None ≡ fact_of fact (module_in w).tree x → has_id x (module_in w).tree ≡ false
  isnt_there e =
      map_has_id (name_term w.ctx) (type_term w.ctx) (attr_term w.ctx) x (tree_in w)
      ∙ gone w.store w.wellformed.distinct x (none_mapped contents (surroundings x (tree_in w)) (sym (none_mapped fact (option_map contents (surroundings x (tree_in w))) (e ∙ around))))

  pub is_there : (r : F) → Some r ≡ fact_of fact (module_in w).tree x → has_id x (module_in w).tree ≡ true
  is_there r e = elim (bool_cases (has_id x (tree_in w))) [
    | inl h ↦ same_there w x h
    | inr h ↦ (let none : surroundings x (tree_in w) ≡ None = nothing_around w.store w.wellformed.distinct x (absent w.store w.wellformed.distinct x h) in
        let no : Some r ≡ None = e ∙ around ∙ ap (λ s. option_map fact (option_map contents s)) none in
        absurd cc)
  ]
