-- The table of known values.
use Rattle.std.proofs.Common.{Result, Ok, Err, OnOk, append_assoc, ◌≡◌, ℕ, ◌+◌, ◌<◌, List, [], ◌∷◌, ◌++◌, length, map, take, get_or, true, false, Option, refl, sym, ap, ◌∙◌, subst, arith, cond, eqb}
use Rattle.std.specs.Ordering.{nat_cmp, is_eq, MatchOrdering}
use Rattle.std.specs.Cmp.{ranks}
use Rattle.std.specs.declared.cmp.Ordering.{Ordering}
use Rattle.std.specs.declared.cmp.Ordering.TheVariants.{Less, Equal, Greater}
use Rattle.std.specs.BTreeMap.{is_at}
use Rattle.std.specs.declared.alloc.AllocError.{AllocError}
use Rattle.listeners_support.specs.Map.{IdMap}
use Rattle.listeners_support.specs.Map as idmap
use Rattle.std.proofs.lemmas.Bool.{eq-eqb, ne_eqb}
use Rattle.std.proofs.lemmas.List.{take_more, map-append}
use Rattle.ir_event.specs.types.declared.bits.Bits.{Bits}
use Rattle.ir_event.specs.trees.declared.value.Value.{Value}
use Rattle.dialects_int.specs.Folds.{known_of}
use Rattle.constants.specs.Facts.{Facts, known, knowns}
use Rattle.constants.specs.Walk.{with_fact}
use Rattle.constants.specs.Tables.{known_in}
use Rattle.ir_event.proofs.of_types.Truths.{less_than}

pub same_test : (x y : ℕ) → is_eq (nat_cmp x y) ≡ eqb y x
same_test x y = go (nat_cmp x y) refl (ranks x y)
  where
    go : (r : Ordering) → nat_cmp x y ≡ r → MatchOrdering (nat_cmp x y) (x < y) (x ≡ y) (y < x) → is_eq (nat_cmp x y) ≡ eqb y x
    go Less e m = let l = subst (λ r. MatchOrdering r (x < y) (x ≡ y) (y < x)) e m in ap is_eq e ∙ sym (ne_eqb y x (λ q. omega (arith, q, l)))
    go Equal e m = let l = subst (λ r. MatchOrdering r (x < y) (x ≡ y) (y < x)) e m in ap is_eq e ∙ sym (eq-eqb y x (sym l))
    go Greater e m = let l = subst (λ r. MatchOrdering r (x < y) (x ≡ y) (y < x)) e m in ap is_eq e ∙ sym (ne_eqb y x (λ q. omega (arith, q, l)))

-- a map with another entry for x, or none
pub written : (x : ℕ) (v : Option Bits) (old new : IdMap Bits) → ((q : ℕ) → idmap.get new q ≡ cond (is_at (nat_cmp x) q) v (idmap.get old q)) → (y : ℕ) → known_in new y ≡ with_fact x (known_of v) (known_in old) y
written x v old new is y =
    ap known_of (is y ∙ ap (λ b. cond b v (idmap.get old y)) (same_test x y))
    ∙ elim (eqb y x) as (λ b. known_of (cond b v (idmap.get old y)) ≡ cond b (known_of v) (known_in old y)) [ true ↦ refl | false ↦ refl ]

pub facts_more : (t : Facts) (vs : List Value) (i : ℕ) (v : Value) (items new : List (Option Bits)) (r : Option Bits) → i < length vs → v ≡ get_or vs i v → map known_of items ≡ knowns t (take i vs) → known_of r ≡ known t v → new ≡ items ++ r ∷ []
    → map known_of new ≡ knowns t (take (i + 1) vs)
facts_more t vs i v items new r lt is before one longer =
    ap (map known_of) longer
    ∙ map-append known_of items (r ∷ [])
    ∙ (λ j. before j ++ one j ∷ [])
    ∙ sym (ap (knowns t) (take_more vs i v lt ∙ ap (λ w. take i vs ++ w ∷ []) (sym is)) ∙ map-append (known t) (take i vs) (v ∷ []))

-- ---- rows
pub one_line : {X : Type 0} (r : Result (Unit {0}) AllocError) (old new more : List X) (x : X) → OnOk r (new ≡ old ++ x ∷ []) → OnOk r (new ++ more ≡ old ++ x ∷ more)
one_line (Ok u) old new more x e = ap (λ l. l ++ more) e ∙ append_assoc old (x ∷ []) more
one_line (Err u) old new more x e = tt
