-- Steps of nesting blocks.
use Rattle.std.proofs.Common.{◌≡◌, refl, ap, sym, ◌∙◌, ℕ, suc, Bool, true, false, true≢false, cond, ◌&&◌, eqb, eqb-true, List, [], ◌∷◌, ◌++◌, map, Some, None}
use Rattle.ir_tree.specs.types.Things.{ContextModel}
use Rattle.ir_tree.specs.types.declared.node.Sign.{Sign}
use Rattle.ir_tree.specs.types.declared.node.Sign.TheVariants.{Signless, Signed, Unsigned}
use Rattle.ir_tree.specs.types.Terms.{TypeTerm, Integer, Index, Function, Memref, OpaqueType, AttrTerm, IntegerOf, String, TypeOf, Flag, Array, Dictionary, Symbol, DenseArray, Overflow, OpaqueOf}
use Rattle.ir_tree.specs.Tree.{Op, next, op_list, ops_of}
use Rattle.ir_tree.specs.Meaning.{Operation, meaning}
use Rattle.ir_tree.proofs.Lists.{ops_back}
use Rattle.ir_tree_laws.proofs.Listed.{both}
use Rattle.ir_tree_blocks.specs.declared.nesting.BlockToNest.{BlockToNest}
use Rattle.ir_tree_blocks.specs.Scopes.{i32, is_i32, is_signless, number_in}
use Rattle.ir_tree_blocks.specs.Nesting.{Layout, NestedBlock, Ops, followed_by, nested_at, scope, scope_of, scopes_of}
use Rattle.ir_tree_blocks.specs.Nested.{layout_below, layout_inside}
use Rattle.ir_tree_blocks.specs.Read.{ops_meaning}

meanings_are : (c : ContextModel) (xs : List Op) → ops_meaning c xs ≡ ops_of (map (meaning c) xs)
meanings_are c [] = refl
meanings_are c (x ∷ xs) = ap (next (meaning c x)) (meanings_are c xs)

appended : (xs : List Operation) (os : Ops) → ops_of (xs ++ op_list os) ≡ followed_by (ops_of xs) os
appended [] os = ops_back os
appended (x ∷ xs) os = ap (next x) (appended xs os)

-- a list with more operations at its end
pub inside_is : (c : ContextModel) (new old : List Op) (os : Ops) → map (meaning c) new ≡ map (meaning c) old ++ op_list os → ops_meaning c new ≡ followed_by (ops_meaning c old) os
inside_is c new old os h = meanings_are c new ∙ ap ops_of h ∙ appended (map (meaning c) old) os ∙ ap (λ z. followed_by z os) (sym (meanings_are c old))

-- one block more
pub among_step : (bs : List NestedBlock) (t : Bool) (l : ℕ) (inside after : Layout)
    → cond t (scope_of (nested_at bs l) false (scopes_of bs inside) ∷ []) [] ++ op_list (scopes_of bs after) ≡ op_list (scopes_of bs (cond t (scope l false inside after) after))
among_step bs true l inside after = refl
among_step bs false l inside after = refl

-- one level less
pub one_less : (all : List BlockToNest) (n m v : ℕ) → n ≡ suc m → layout_below all m v ≡ layout_inside all n v
one_less all n m v e = ap (λ k. layout_inside all k v) (sym e)

-- an attribute with a number
is_i32_type : (t : TypeTerm) → is_i32 t ≡ true → t ≡ i32
is_i32_type (Integer Signless w) h = ap (Integer Signless) (eqb-true w 32 h)
is_i32_type (Integer Signed w) h = absurd (true≢false (sym h))
is_i32_type (Integer Unsigned w) h = absurd (true≢false (sym h))
is_i32_type Index h = absurd (true≢false (sym h))
is_i32_type (Function a b) h = absurd (true≢false (sym h))
is_i32_type (Memref a b) h = absurd (true≢false (sym h))
is_i32_type (OpaqueType a) h = absurd (true≢false (sym h))

of_i32 : (t : TypeTerm) (k n : ℕ) (b : Bool) → is_i32 t ≡ b → cond b (Some k) None ≡ Some n → IntegerOf t k ≡ IntegerOf i32 n
of_i32 t k n true e h = let same : k ≡ n = cc h in λ i. IntegerOf (is_i32_type t e i) (same i)
of_i32 t k n false e h = absurd (cc h)

pub label_is : (a : AttrTerm) (n : ℕ) → number_in a ≡ Some n → a ≡ IntegerOf i32 n
unfolding number_in
label_is (IntegerOf t k) n h = of_i32 t k n (is_i32 t) refl h
label_is (String s) n h = absurd (cc h)
label_is (TypeOf t) n h = absurd (cc h)
label_is Flag n h = absurd (cc h)
label_is (Array xs) n h = absurd (cc h)
label_is (Dictionary es) n h = absurd (cc h)
label_is (Symbol ns) n h = absurd (cc h)
label_is (DenseArray t zs) n h = absurd (cc h)
label_is (Overflow a b) n h = absurd (cc h)
label_is (OpaqueOf s t) n h = absurd (cc h)
