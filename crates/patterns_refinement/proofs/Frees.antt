-- A value that no executed arithmetic operation computed isn't computed by one after a rewrite.
use Rattle.std.proofs.Common.{◌≡◌, ℕ, ◌+◌, ◌<◌, ◌≤◌, refl, ap, sym, ◌∙◌, subst, List, [], ◌∷◌, Bool, true, false, true≢false, ◌&&◌, Option, Some, None, arith}
use Rattle.ir_tree.specs.declared.value.Value.{Value}
use Rattle.ir_tree.specs.declared.value.Value.TheVariants.{Result, Arg}
use Rattle.ir_tree.specs.Tree.{head}
use Rattle.ir_tree.specs.Ids.{HasDistinctIds, find}
use Rattle.ir_tree.specs.Meaning.{Operation}
use Rattle.user_patterns_data.specs.Matching.{Header}
use Rattle.patterns_refinement.specs.Meaning.{Each, is_arithmetic, owner}
use Rattle.patterns_refinement.specs.Better.{gives, is_arithmetic_there}
use Rattle.patterns_refinement.proofs.Rewritten.{AllPut}
use Rattle.patterns_refinement.proofs.Settling.{each_by_found}
use Rattle.patterns_refinement.proofs.Trees.{each_found}

module _ (n : ℕ) (done later : ℕ → Bool) (t : Operation) where
  -- an executed arithmetic operation computed its result before too
  abbrev pub Was : Header → Type 0
  Was h = later h.id ≡ true → h.id < n → is_arithmetic h ≡ true → gives done t (Result h.id 0) ≡ true

  pub was_old : HasDistinctIds t → ((y : ℕ) → y < n → later y ≡ true → done y ≡ true) → Each Was t
  was_old d was = each_by_found Was t d (λ o e i l j. (λ k. was (head o).id l i k && is_arithmetic_there (e k)) ∙ j)

  pub was_new : (m : ℕ) (os : List Operation) → n ≤ m → AllPut Was m os
  was_new m [] l = tt
  was_new m (o ∷ os) l = ((λ i h j. absurd (omega (arith, l, h))), was_new (m + 1) os (omega (arith, l)))

  pub free_still : (u : Operation) → Each Was u → (v : Value) → owner v < n → gives done t v ≡ false → gives later u v ≡ false
  free_still u s (Arg x r k) l e = refl
  free_still u s (Result x k) l e = go (later x) refl (find x u) refl
    where
      arithmetic : (o : Operation) → find x u ≡ Some o → later x ≡ true → (b : Bool) → is_arithmetic (head o) ≡ b → b ≡ false
      arithmetic o i j false c = refl
      arithmetic o i j true c =
          let f = each_found Was x u s o i in
          absurd (true≢false (sym (subst (λ y. gives done t (Result y 0) ≡ true) f.1 (f.0 (ap later f.1 ∙ j) (subst (λ y. y < n) (sym f.1) l) c)) ∙ e))

      go : (b : Bool) → later x ≡ b → (q : Option Operation) → find x u ≡ q → (b && is_arithmetic_there q) ≡ false
      go false j q i = refl
      go true j None i = refl
      go true j (Some o) i = arithmetic o i j (is_arithmetic (head o)) refl
