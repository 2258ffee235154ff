-- The report rows of tables.
use Rattle.std.proofs.Common.{◌≡◌, refl, ap, sym, ◌∙◌, subst, ◌<◌, Bool, true, false, cond, ◌&&◌, List, [], ◌∷◌, ◌++◌, append_assoc, map, Option, Some, None, ℕ, eqb, eq-eqb, eqb-true, arith}
use Rattle.std.proofs.lemmas.List.{map-append}
use Rattle.std.specs.Option.{option_eq}
use Rattle.std.specs.Cmp.Lexicographic.{pointwise}
use Rattle.ir_event.specs.declared.row.Cell.{Cell}
use Rattle.ir_event.specs.declared.row.Cell.TheVariants as cell
use Rattle.listeners_symbols.specs.Symbols.{LineOf, line_cells}
use Rattle.ir_event.specs.trees.Ids.{first_of}
use Rattle.std.specs.Ordering.{nat_cmp, is_eq, ordering_then, MatchOrdering}
use Rattle.std.specs.Cmp.{ranks}
use Rattle.std.specs.declared.cmp.Ordering.{Ordering}
use Rattle.std.specs.declared.cmp.Ordering.TheVariants.{Less, Equal, Greater}
use Rattle.std.specs.BTreeMap.{BTreeMap, is_at}
use Rattle.std.specs.BTreeMap as tree
use Rattle.std.proofs.lemmas.Bool.{ne_eqb}
use Rattle.listeners_symbols.specs.Lines.{lines_cells, key_cmp, first_in}
use Rattle.ir_event.proofs.of_trees.Facts.{first_none}
use Rattle.ir_event.proofs.of_types.Truths.{same_test}

pub some_types : (xs ys : List ℕ) → pointwise (option_eq eqb) (map Some xs) (map Some ys) ≡ pointwise eqb xs ys
some_types [] [] = refl
some_types [] (y ∷ ys) = refl
some_types (x ∷ xs) [] = refl
some_types (x ∷ xs) (y ∷ ys) = ap (λ b. eqb x y && b) (some_types xs ys)

-- five groups of rows, appended in order
joined : {X : Type 0} (a0 a1 a2 a3 a4 l0 l1 l2 l3 l4 : List X) → a1 ≡ a0 ++ l0 → a2 ≡ a1 ++ l1 → a3 ≡ a2 ++ l2 → a4 ≡ a3 ++ l3 → a4 ++ l4 ≡ a0 ++ (l0 ++ (l1 ++ (l2 ++ (l3 ++ l4))))
joined a0 a1 a2 a3 a4 l0 l1 l2 l3 l4 e1 e2 e3 e4 =
    ap (λ z. z ++ l4) e4 ∙ append_assoc a3 l3 l4
    ∙ ap (λ z. z ++ (l3 ++ l4)) e3 ∙ append_assoc a2 l2 (l3 ++ l4)
    ∙ ap (λ z. z ++ (l2 ++ (l3 ++ l4))) e2 ∙ append_assoc a1 l1 (l2 ++ (l3 ++ l4))
    ∙ ap (λ z. z ++ (l1 ++ (l2 ++ (l3 ++ l4)))) e1 ∙ append_assoc a0 l0 (l1 ++ (l2 ++ (l3 ++ l4)))

pub five_groups : (a0 a1 a2 a3 a4 : List (List Cell)) (d0 d1 d2 d3 d4 : List (LineOf ℕ ℕ)) → a1 ≡ a0 ++ lines_cells d0 → a2 ≡ a1 ++ lines_cells d1 → a3 ≡ a2 ++ lines_cells d2 → a4 ≡ a3 ++ lines_cells d3
    → a4 ++ lines_cells d4 ≡ a0 ++ lines_cells (d0 ++ (d1 ++ (d2 ++ (d3 ++ d4))))
five_groups a0 a1 a2 a3 a4 d0 d1 d2 d3 d4 e1 e2 e3 e4 =
    let f = line_cells cell.Tag cell.Op cell.Name cell.Path in
    joined a0 a1 a2 a3 a4 (lines_cells d0) (lines_cells d1) (lines_cells d2) (lines_cells d3) (lines_cells d4) e1 e2 e3 e4
    ∙ ap (λ z. a0 ++ z) (sym (map-append f d0 (d1 ++ (d2 ++ (d3 ++ d4))) ∙ (λ i. lines_cells d0 ++ (map-append f d1 (d2 ++ (d3 ++ d4)) ∙ (λ j. lines_cells d1 ++ (map-append f d2 (d3 ++ d4) ∙ (λ k. lines_cells d2 ++ map-append f d3 d4 k)) j)) i)))

-- ---- definitions by their names

is_eq_then : (a c : Ordering) → is_eq (ordering_then a c) ≡ (is_eq a && is_eq c)
is_eq_then Less c = refl
is_eq_then Equal c = refl
is_eq_then Greater c = refl

pub inserted_first : (old new : BTreeMap (ℕ × ℕ) ℕ) (k : ℕ × ℕ) (v : ℕ) → ((q : ℕ × ℕ) → tree.get key_cmp new q ≡ cond (is_at (key_cmp k) q) (Some v) (tree.get key_cmp old q)) → first_in old k.0 k.1 ≡ None
    → (t n : ℕ) → first_in new t n ≡ first_of (first_in old t n) (cond (eqb k.0 t && eqb k.1 n) (Some v) None)
inserted_first old new k v up none t n =
    up (t, n)
    ∙ ap (λ b. cond b (Some v) (first_in old t n)) (is_eq_then (nat_cmp k.0 t) (nat_cmp k.1 n) ∙ (λ i. same_test k.0 t i && same_test k.1 n i))
    ∙ go (eqb k.0 t) (eqb k.1 n) refl refl
  where
    go : (b c : Bool) → eqb k.0 t ≡ b → eqb k.1 n ≡ c → cond (b && c) (Some v) (first_in old t n) ≡ first_of (first_in old t n) (cond (b && c) (Some v) None)
    go true true e f = sym (ap (λ o. first_of o (Some v)) ((λ i. first_in old (sym (eqb-true k.0 t e) i) (sym (eqb-true k.1 n f) i)) ∙ none))
    go true false e f = sym (first_none (first_in old t n))
    go false c e f = sym (first_none (first_in old t n))
