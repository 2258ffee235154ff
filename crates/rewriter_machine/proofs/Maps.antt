-- The maps of held operations and of removed keys, with one entry changed.
use Rattle.std.proofs.Common.{◌≡◌, refl, ◌∙◌, ℕ, Option, Some, None}
use Rattle.std.proofs.lemmas.Bool.{eq-eqb, ne_eqb, cond-true, cond-false}
use Rattle.std.specs.Prelude.{option_map, is_some}
use Rattle.std.specs.Ordering.{nat_cmp}
use Rattle.std.specs.Cmp.{nat_cmp_total}
use Rattle.std.specs.FinMap as finmap
use Rattle.ir_event.specs.trees.Tree.{Op}
use Rattle.ir_event.specs.store.Stored.{Gone}
use Rattle.ir_event.specs.store.Calls.{hold, change_gone_of}
use Rattle.ir_event.proofs.Maps.{eq_nat}
use Rattle.ir_event.proofs.of_tree_laws.Contents.{some_map}

module _ {X : Type 0} (m : finmap.FinMap nat_cmp X) (x : ℕ) where
  pub set_here : (a : X) → finmap.get (finmap.insert m x a) x ≡ Some a
  set_here a = finmap.get-insert nat_cmp_total m x a x ∙ cond-true _ (Some a) (finmap.get m x) (eq_nat x x ∙ eq-eqb x x refl)

  pub set_other : (a : X) (y : ℕ) → (y ≡ x → ⊥) → finmap.get (finmap.insert m x a) y ≡ finmap.get m y
  set_other a y not = finmap.get-insert nat_cmp_total m x a y ∙ cond-false _ (Some a) (finmap.get m y) (eq_nat y x ∙ ne_eqb y x not)

  pub cut_here : finmap.get (finmap.remove m x) x ≡ None
  cut_here = finmap.get-remove nat_cmp_total m x x ∙ cond-true _ None (finmap.get m x) (eq_nat x x ∙ eq-eqb x x refl)

  pub cut_other : (y : ℕ) → (y ≡ x → ⊥) → finmap.get (finmap.remove m x) y ≡ finmap.get m y
  cut_other y not = finmap.get-remove nat_cmp_total m x y ∙ cond-false _ None (finmap.get m y) (eq_nat y x ∙ ne_eqb y x not)

pub hold_other : (x : ℕ) (q : Option Op) (held : finmap.FinMap nat_cmp Op) (y : ℕ) → (y ≡ x → ⊥) → finmap.get (hold x q held) y ≡ finmap.get held y
hold_other x None held y not = refl
hold_other x (Some o) held y not = set_other held x o y not

module _ (x : ℕ) (f : Gone → Gone) (m : finmap.FinMap nat_cmp Gone) where
  pub gone_here : finmap.get (change_gone_of x f (finmap.get m x) m) x ≡ option_map f (finmap.get m x)
  gone_here = go (finmap.get m x) refl
    where
      go : (q : Option Gone) → finmap.get m x ≡ q → finmap.get (change_gone_of x f q m) x ≡ option_map f q
      go None e = e
      go (Some g) e = set_here m x (f g)

  pub gone_other : (q : Option Gone) (y : ℕ) → (y ≡ x → ⊥) → finmap.get (change_gone_of x f q m) y ≡ finmap.get m y
  gone_other None y not = refl
  gone_other (Some g) y not = set_other m x (f g) y not
