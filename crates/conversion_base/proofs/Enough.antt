-- As many steps as there are operations are enough, if each step erases an operation.
use Rattle.std.proofs.Common.{◌≡◌, refl, subst, ℕ, zero, suc, ◌<◌, ◌≤◌, List, [], ◌∷◌, arith}
use Rattle.ir_event.specs.types.declared.refusal.Refusal.{Refusal}
use Rattle.ir_event.specs.trees.Tree.{op}
use Rattle.ir_event.specs.trees.Ids.{ids, op_count}
use Rattle.ir_event.specs.trees.Meaning.{Operation}
use Rattle.ir_event.specs.Modules.{Module}
use Rattle.patterns_base.specs.Rewrites.{Rewrite, none, refused, becomes}
use Rattle.conversion_base.specs.Reconciling.{rewrite_or, collapse, collapsed, all_collapsed, first_rewrite, go_on, next_collapse}

pub becomes_is : (m n : Module) → becomes m ≡ becomes n → m ≡ n
becomes_is m n e = cc

none_becomes : (n : Module) → none ≡ becomes n → ⊥
none_becomes n e = absurd cc

refused_becomes : (r : Refusal) (n : Module) → refused r ≡ becomes n → ⊥
refused_becomes r n e = absurd cc

-- each erased cast makes the module smaller
abbrev pub Falls : Type 0
Falls = (m n : Module) (x : ℕ) → collapse m x ≡ becomes n → op_count n.tree < op_count m.tree

falls_or : (a b : Rewrite) (n : Module) (P : Type 0) → (a ≡ becomes n → P) → (b ≡ becomes n → P) → rewrite_or a b ≡ becomes n → P
falls_or none b n P f g e = g e
falls_or (refused r) b n P f g e = absurd (refused_becomes r n e)
falls_or (becomes m) b n P f g e = f e

falls_first : Falls → (m n : Module) (xs : List ℕ) → first_rewrite (collapse m) xs ≡ becomes n → op_count n.tree < op_count m.tree
falls_first falls m n [] e = absurd (none_becomes n e)
falls_first falls m n (x ∷ xs) e = falls_or (collapse m x) (first_rewrite (collapse m) xs) n (op_count n.tree < op_count m.tree) (falls m n x) (falls_first falls m n xs) e

some_operation : (t : Operation) → op_count t ≤ 0 → ⊥
some_operation (op h rs) l = absurd (omega (arith, l))

enough_at : (k : ℕ) (m n : Module) → ((p : Module) → next_collapse m ≡ becomes p → op_count p.tree < op_count m.tree)
    → ((p : Module) → op_count p.tree ≤ k → collapsed k p ≡ becomes n → next_collapse n ≡ none) → op_count m.tree ≤ suc k → (a : Rewrite) → next_collapse m ≡ a → go_on (collapsed k) m a ≡ becomes n → next_collapse n ≡ none
enough_at k m n falls rest l none is e = subst (λ (p : Module). next_collapse p ≡ none) (becomes_is m n e) is
enough_at k m n falls rest l (refused r) is e = absurd (refused_becomes r n e)
enough_at k m n falls rest l (becomes p) is e = let f = falls p is in rest p (omega (arith, f, l)) e

pub enough : Falls → (k : ℕ) (m n : Module) → op_count m.tree ≤ k → collapsed k m ≡ becomes n → next_collapse n ≡ none
enough falls zero m n l e = absurd (some_operation m.tree l)
enough falls (suc k) m n l e = enough_at k m n (λ p. falls_first falls m p (ids m.tree)) (λ p. enough falls k p n) l (next_collapse m) refl e

-- so every remaining cast is used and doesn't collapse
pub none_is_left : Falls → (m n : Module) → all_collapsed m ≡ becomes n → next_collapse n ≡ none
none_is_left falls m n e = enough falls (op_count m.tree) m n (omega arith) e
