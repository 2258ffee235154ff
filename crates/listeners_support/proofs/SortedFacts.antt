-- A table ordered by id that keeps the facts of a tree has them in that order.
use Rattle.std.proofs.Common.{◌≡◌, refl, sym, ap, ◌∙◌, ◌&&◌, ℕ, Bool, true, false, true≢false, cond, subst, eqb, eq-eqb, eqb-true, List, [], ◌∷◌, Some, None, inl, inr, IsTrue}
use lib.Dec.{T}
use Rattle.std.specs.Prelude.{option_map, option_and_then}
use Rattle.std.specs.Ordering.{nat_cmp, eq_by_cmp, is_eq, is_lt}
use Rattle.std.specs.declared.cmp.Ordering.{Ordering}
use Rattle.std.specs.declared.cmp.Ordering.TheVariants.{Less, Equal, Greater}
use Rattle.std.specs.List.{AllByRecursion, filter}
use Rattle.std.specs.List.Sorted.{IsStrictlySortedBy}
use Rattle.std.specs.Map.{lookup, keys_of}
use Rattle.std.specs.BTreeMap.{BTreeMap, is_at}
use Rattle.std.specs.BTreeMap as tree
use Rattle.std.specs.Cmp.{unsigned_tied}
use Rattle.std.specs.FinMap.{nat_cmp-IsAntisymmetric}
use Rattle.std.specs.FinMap.Entries.{find, below_all, is_sorted, find-put, is_sorted-put, same_entries}
use Rattle.std.proofs.lemmas.Cmp.{nat_cmp_total}
use Rattle.ir_event.specs.trees.Tree.{OpOf}
use Rattle.ir_event.specs.tree_laws.Stands.{OpWithPathOf, op_with_path_id, stands, find_op_with_path}
use Rattle.listeners_support.specs.Surroundings.{SurroundingsOf, surround}
use Rattle.listeners_support.specs.Facts.{if_kept, kept_of, sorted_in, sorted_facts, kept_facts}
use Rattle.ir_event.proofs.of_tree_laws.Listed.{bool_cases}

pub tied : (q k : ℕ) → eq_by_cmp nat_cmp q k ≡ eqb k q
tied q k = unsigned_tied q k ∙ turned q k
  where
    turned : (a b : ℕ) → eqb a b ≡ eqb b a
    turned a b = elim (bool_cases (eqb b a)) [
      | inl e ↦ eq-eqb a b (sym (eqb-true b a e)) ∙ sym e
      | inr e ↦ elim (bool_cases (eqb a b)) [ inl k ↦ absurd (true≢false (sym (eq-eqb b a (sym (eqb-true a b k))) ∙ e)) | inr k ↦ k ∙ sym e ]
    ]

as_T : (b : Bool) → b ≡ true → T b
as_T true e = tt
as_T false e = absurd (true≢false (sym e))

two : (a b : Bool) → T a → T b → T (a && b)
two true b p q = q
two false b p q = p

pub left : (a b : Bool) → T (a && b) → T a
left true b p = tt
left false b p = p

pub right : (a b : Bool) → T (a && b) → T b
right true b p = p
right false b p = absurd p

apart : (o : Ordering) → T (is_lt o) → is_eq o ≡ false
apart Less p = refl
apart Equal p = absurd p
apart Greater p = absurd p

-- a key below all keys isn't found
pub unfound : {F : Type 0} (q : ℕ) (es : List (ℕ × F)) → T (below_all nat_cmp q es) → find nat_cmp q es ≡ None
unfound q [] h = refl
unfound q (e ∷ es) h = ap (λ b. cond b (Some e.1) (find nat_cmp q es)) (apart (nat_cmp q e.0) (left _ _ h)) ∙ unfound q es (right _ _ h)

-- ordered entries, filtered by their values
module _ {F : Type 0} (is_kept : F → Bool) where
  abbrev kept : List (ℕ × F) → List (ℕ × F)
  kept es = filter (λ (e : ℕ × F). is_kept e.1) es

  kept_above : (x : ℕ) (es : List (ℕ × F)) → T (below_all nat_cmp x es) → T (below_all nat_cmp x (kept es))
  kept_above x [] h = tt
  kept_above x (e ∷ es) h =
      let rest = kept_above x es (right _ _ h) in
      elim (is_kept e.1) as (λ b. T (below_all nat_cmp x (cond b (e ∷ kept es) (kept es)))) [ true ↦ two _ _ (left _ _ h) rest | false ↦ rest ]

  kept_rise : (es : List (ℕ × F)) → T (is_sorted nat_cmp es) → T (is_sorted nat_cmp (kept es))
  kept_rise [] h = tt
  kept_rise (e ∷ es) h =
      let rest = kept_rise es (right _ _ h) in
      elim (is_kept e.1) as (λ b. T (is_sorted nat_cmp (cond b (e ∷ kept es) (kept es)))) [ true ↦ two _ _ (kept_above e.0 es (left _ _ h)) rest | false ↦ rest ]

  found_kept : (q : ℕ) (es : List (ℕ × F)) → T (is_sorted nat_cmp es) → find nat_cmp q (kept es) ≡ option_and_then (if_kept is_kept) (find nat_cmp q es)
  found_kept q [] h = refl
  found_kept q (e ∷ es) h =
      elim (bool_cases (eq_by_cmp nat_cmp q e.0)) [
        | inl k ↦ elim (is_kept e.1) as (λ b. find nat_cmp q (cond b (e ∷ kept es) (kept es)) ≡ cond b (Some e.1) None) [
          | true ↦ ap (λ b. cond b (Some e.1) (find nat_cmp q (kept es))) k
          | false ↦ unfound q (kept es) (kept_above q es (subst (λ x. T (below_all nat_cmp x es)) (eqb-true e.0 q (sym (tied q e.0) ∙ k)) (left _ _ h)))
        ] ∙ sym (ap (λ b. option_and_then (if_kept is_kept) (cond b (Some e.1) (find nat_cmp q es))) k)
        | inr k ↦ elim (is_kept e.1) as (λ b. find nat_cmp q (cond b (e ∷ kept es) (kept es)) ≡ find nat_cmp q (kept es)) [
          | true ↦ ap (λ b. cond b (Some e.1) (find nat_cmp q (kept es))) k
          | false ↦ refl
        ] ∙ found_kept q es (right _ _ h) ∙ sym (ap (λ b. option_and_then (if_kept is_kept) (cond b (Some e.1) (find nat_cmp q es))) k)
      ]

-- the facts of a tree, in order
module _ {N U A F : Type 0} (fact : SurroundingsOf N U A → F) (t : OpOf N U A) where
  pub found : (q : ℕ) (ss : List (OpWithPathOf N U A)) → find nat_cmp q (sorted_in fact t ss) ≡ option_map fact (option_map (surround t) (find_op_with_path q ss))
  found q [] = refl
  found q (s ∷ ss) =
      find-put nat_cmp nat_cmp_total q (op_with_path_id s) (fact (surround t s)) (sorted_in fact t ss)
      ∙ (λ i. cond (tied q (op_with_path_id s) i) (Some (fact (surround t s))) (found q ss i))
      ∙ elim (eqb (op_with_path_id s) q) as (λ b. cond b (Some (fact (surround t s))) (option_map fact (option_map (surround t) (find_op_with_path q ss))) ≡ option_map fact (option_map (surround t) (cond b (Some s) (find_op_with_path q ss)))) [ true ↦ refl | false ↦ refl ]

  pub is_in_order : (ss : List (OpWithPathOf N U A)) → T (is_sorted nat_cmp (sorted_in fact t ss))
  is_in_order [] = tt
  is_in_order (s ∷ ss) = is_sorted-put nat_cmp nat_cmp_total (op_with_path_id s) (fact (surround t s)) (sorted_in fact t ss) (is_in_order ss)

-- the kept facts
module _ {N U A F : Type 0} (fact : SurroundingsOf N U A → F) (is_kept : F → Bool) (t : OpOf N U A) where
  pub kept_in_order : (es : List (ℕ × F)) → IsTrue (is_sorted nat_cmp es) → ((q : ℕ) → find nat_cmp q es ≡ kept_of fact is_kept t q) → es ≡ kept_facts fact is_kept t
  kept_in_order es o h =
      same_entries nat_cmp nat_cmp_total nat_cmp-IsAntisymmetric es (kept_facts fact is_kept t) (as_T (is_sorted nat_cmp es) o) (kept_rise is_kept (sorted_facts fact t) (is_in_order fact t (stands [] t)))
      (λ q. h q ∙ sym (found_kept is_kept q (sorted_facts fact t) (is_in_order fact t (stands [] t)) ∙ ap (option_and_then (if_kept is_kept)) (found fact t q (stands [] t))))

  -- the entries of a map ascend, and are found by their keys
  above_first : (x : ℕ) (es : List (ℕ × F)) → AllByRecursion (λ y. nat_cmp x y ≡ Less) (keys_of es) → below_all nat_cmp x es ≡ true
  above_first x [] a = refl
  above_first x (e ∷ es) a = λ i. (ap is_lt a.0 ∙ refl) i && above_first x es a.1 i

  rising : (es : List (ℕ × F)) → IsStrictlySortedBy nat_cmp (keys_of es) → is_sorted nat_cmp es ≡ true
  unfolding IsStrictlySortedBy
  rising [] s = refl
  rising (e ∷ es) s = λ i. above_first e.0 es s.0 i && rising es s.1 i

  looked_up : (q : ℕ) (es : List (ℕ × F)) → lookup (is_at (nat_cmp q)) es ≡ find nat_cmp q es
  looked_up q [] = refl
  looked_up q (e ∷ es) = ap (cond (is_eq (nat_cmp q e.0)) (Some e.1)) (looked_up q es)

  pub map_in_order : (m : BTreeMap ℕ F) → tree.IsOrdered nat_cmp m → ((q : ℕ) → tree.get nat_cmp m q ≡ kept_of fact is_kept t q) → m.entries ≡ kept_facts fact is_kept t
  map_in_order m o h = kept_in_order m.entries (rising m.entries o) (λ q. sym (looked_up q m.entries) ∙ h q)
