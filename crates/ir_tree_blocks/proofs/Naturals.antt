-- Integers that are not negative.
use Rattle.std.proofs.Common.{◌≡◌, refl, ap, sym, ◌∙◌, ℕ, ℤ, pos, negsuc, Bool, cond, true, false, true≢false, List, [], ◌∷◌, map, Option, Some, None}
use Rattle.std.specs.Prelude.{is_some, option_map, option_and_then}
use Rattle.ir_types.specs.Terms.{AttrTerm, IntegerOf, String, TypeOf, Flag, Array, Dictionary, Symbol, DenseArray, Overflow, OpaqueOf}
use Rattle.ir_tree_blocks.specs.Scopes.{i32_numbers, is_i32, naturals, numbers_in, or_none}

some_mapped : {X Y : Type 0} (f : X → Y) (o : Option X) → is_some (option_map f o) ≡ is_some o
some_mapped f None = refl
some_mapped f (Some x) = refl

pub natural_next : (n : ℕ) (zs : List ℤ) → is_some (naturals (pos n ∷ zs)) ≡ is_some (naturals zs)
natural_next n zs = some_mapped (λ ns. n ∷ ns) (naturals zs)

again : (n : ℕ) (zs : List ℤ) (o : Option (List ℕ)) → is_some o ≡ true → map (λ k. pos k) (or_none o) ≡ zs → map (λ k. pos k) (or_none (option_map (λ ns. n ∷ ns) o)) ≡ pos n ∷ zs
again n zs None s h = absurd (true≢false (sym s))
again n zs (Some ns) s h = ap (λ ks. pos n ∷ ks) h

pub natural_all : (zs : List ℤ) → is_some (naturals zs) ≡ true → map (λ n. pos n) (or_none (naturals zs)) ≡ zs
natural_all [] h = refl
natural_all (pos n ∷ zs) h = let s = sym (natural_next n zs) ∙ h in again n zs (naturals zs) s (natural_all zs s)
natural_all (negsuc n ∷ zs) h = absurd (true≢false (sym h))

pub natural_none : (zs : List ℤ) → is_some (naturals zs) ≡ false → map (λ n. pos n) (or_none (naturals zs)) ≡ []
natural_none zs h = none (naturals zs) h
  where
    none : (o : Option (List ℕ)) → is_some o ≡ false → map (λ n. pos n) (or_none o) ≡ []
    none None h = refl
    none (Some ns) h = absurd (true≢false h)

by_i32 : (b : Bool) (zs : List ℤ) → option_and_then naturals (cond b (Some zs) None) ≡ cond b (naturals zs) None
by_i32 true zs = refl
by_i32 false zs = refl

pub numbers_is : (a : AttrTerm) → option_and_then naturals (i32_numbers a) ≡ numbers_in a
unfolding numbers_in
numbers_is (IntegerOf t n) = refl
numbers_is (String s) = refl
numbers_is (TypeOf t) = refl
numbers_is Flag = refl
numbers_is (Array xs) = refl
numbers_is (Dictionary es) = refl
numbers_is (Symbol ns) = refl
numbers_is (DenseArray t zs) = by_i32 (is_i32 t) zs
numbers_is (Overflow a b) = refl
numbers_is (OpaqueOf s t) = refl
