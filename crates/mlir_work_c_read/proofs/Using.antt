-- Uses of values that are written one value after the other.
use Rattle.std.proofs.Common.{◌≡◌, ◌∙◌, ap, sym, subst, refl, ℕ, suc, ◌+◌, ◌-◌, ◌≤◌, ◌<◌, List, [], ◌∷◌, ◌++◌, length, length-append, map, take, drop, get_or, arith}
use Rattle.std.specs.Prelude.{min}
use Rattle.ir_event.specs.store.Using.{AreUses}
use Rattle.ir_event.specs.trees.Tree.{Op}
use Rattle.ir_event.specs.trees.declared.value.Value.{Value}
use Rattle.mlir_work_c_read.specs.declared.numbers.ValueNumbers.{ValueNumbers}
use Rattle.mlir_work_c_read.specs.declared.numbers.ValueUse.{ValueUse}
use Rattle.mlir_work_c_read.specs.Bulk.{AreUsesFrom, WritesValueUses, use_of}
use Rattle.mlir_work_c_read.specs.Filled.{over_from}
use Rattle.mlir_work_c_read.specs.Numbers.{value_of}
use Rattle.mlir_work_c_read.proofs.Joining.{Continues, continues, ends, rest_at}

map_length : {X A : Type 0} (f : X → A) (xs : List X) → length (map f xs) ≡ length xs
map_length f [] = refl
map_length f (x ∷ xs) = ap suc (map_length f xs)

-- whatever the uses of the values to come are, they end the uses of all values
abbrev pub Ends : Op → List ValueNumbers → ℕ → List ValueNumbers → ℕ → List ValueUse → List ValueUse → Type 0
Ends t all k xs at into old =
    (rest : List ValueUse) → AreUsesFrom t k xs rest → (items : List ValueUse) × AreUsesFrom t 0 all items × Continues rest items at into old

pub uses_on : (t : Op) (all : List ValueNumbers) (k : ℕ) (xs : List ValueNumbers) (d : ValueNumbers) (v : Value) (us : List (ℕ × ℕ)) (at m : ℕ) (into new old : List ValueUse)
    → 1 ≤ length xs → v ≡ value_of (get_or xs 0 d) → AreUses v t us → new ≡ over_from at (map (use_of k) us) into → m ≡ min (at + length us) (length into)
    → Ends t all k xs at into old → Ends t all (k + 1) (take (length xs - 1) (drop 1 xs)) m new old
uses_on t all k xs d v us at m into new old l z are is count h rest more =
    let first = get_or xs 0 d in
    let mine = map (use_of k) us in
    let many = count ∙ ap (λ n. min (at + n) (length into)) (sym (map_length (use_of k) us)) in
    let here : AreUsesFrom t k (first ∷ take (length xs - 1) (drop 1 xs)) (mine ++ rest) = (us, rest, subst (λ w. AreUses w t us) z are, more, refl) in
    let got = h (mine ++ rest) (subst (λ ys. AreUsesFrom t k ys (mine ++ rest)) (sym (rest_at xs first d l refl)) here) in
    (got.0, got.1, continues mine rest (mine ++ rest) got.0 at m into new old refl (length-append mine rest) is many got.2)

uses_none : (t : Op) (k : ℕ) (xs : List ValueNumbers) → length xs < 1 → AreUsesFrom t k xs []
uses_none t k [] l = refl
uses_none t k (x ∷ xs) l = absurd (omega (arith, l))

pub uses_end : (t : Op) (all : List ValueNumbers) (k : ℕ) (xs : List ValueNumbers) (at : ℕ) (into old : List ValueUse) → length xs < 1 → Ends t all k xs at into old → WritesValueUses all t old into at
uses_end t all k xs at into old l h =
    let got = h [] (uses_none t k xs l) in
    let done = ends got.0 at into old got.2 in
    (got.0, got.1, record { written = done.0; count_is = done.1 })
