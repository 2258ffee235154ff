-- An IR state after its held operations are released.
use Rattle.std.proofs.Common.{◌≡◌, ap, sym, ◌∙◌, subst, ℕ, ◌<◌, ◌≤◌, cond, ⊎_elim, Some, None, arith}
use Rattle.std.specs.Prelude.{nat_lt}
use Rattle.std.specs.List.{All}
use Rattle.std.specs.FinMap as finmap
use Rattle.std.proofs.lemmas.Bool.{cases_Bool, cond-false, cond-true}
use Rattle.ir_event.specs.types.Things.{ContextModel}
use Rattle.ir_event.specs.trees.Tree.{Op, op}
use Rattle.ir_event.specs.trees.Ids.{ids}
use Rattle.ir_event.specs.trees.Meaning.{IsSoundIn, isolated_in}
use Rattle.ir_event.specs.trees.WellFormed.{IsWellFormed, Module}
use Rattle.ir_event.specs.store.Stored.{Stored}
use Rattle.ir_event.specs.store.Calls.{Releases}
use Rattle.ir_event.specs.Facts.{HeldIsSound}

module _ (c : ContextModel) (from : ℕ) (s u : Stored) (r : Releases from s u) where
  held_was : (y : ℕ) (o : Op) → finmap.get u.held y ≡ Some o → finmap.get s.held y ≡ Some o
  held_was y o e = ⊎_elim
      (λ k. sym (is ∙ cond-true (nat_lt y from) (finmap.get s.held y) None k) ∙ e)
      (λ n. (let bad : None ≡ Some o = sym (is ∙ cond-false (nat_lt y from) (finmap.get s.held y) None n) ∙ e in absurd cc))
      (cases_Bool (nat_lt y from))
    where
      is : finmap.get u.held y ≡ cond (nat_lt y from) (finmap.get s.held y) None
      is = ap (λ m. finmap.get m y) r.held ∙ finmap.get-retain_keys s.held (λ x. nat_lt x from) y (λ x e. ap (λ z. nat_lt z from) (sym (finmap.nat_cmp-IsAntisymmetric y x e)))

  pub sound_released : IsSoundIn c s.module_of.tree → IsSoundIn c u.module_of.tree
  sound_released h = subst (λ (m : Module). IsSoundIn c m.tree) (sym r.module_of) h

  pub wellformed_released : IsWellFormed (isolated_in c) s.module_of → IsWellFormed (isolated_in c) u.module_of
  wellformed_released h = subst (IsWellFormed (isolated_in c)) (sym r.module_of) h

  pub held_released : HeldIsSound c s.held → HeldIsSound c u.held
  held_released h x o e = h x o (held_was x o e)

-- some id was given out
pub some_given : (c : ContextModel) (m : Module) → IsWellFormed (isolated_in c) m → 1 ≤ m.next
some_given c m w = go m.tree w.below
  where
    go : (t : Op) → All (λ x. x < m.next) (ids t) → 1 ≤ m.next
    go (op h rs) below = (let lt : h.id < m.next = below 0 h.id (omega arith) in omega (arith, lt))
