-- Records that are written one part after the other.
use Rattle.std.proofs.Common.{◌≡◌, ◌∙◌, ap, sym, subst, refl, ℕ, suc, ◌+◌, ◌-◌, ◌≤◌, ◌<◌, List, [], ◌∷◌, ◌++◌, length, length-append, append-nil, map, take, drop, get_or, Bool, true, ◌&&◌, Option, Some, None, option_map, arith, leb-true}
use Rattle.std.specs.Prelude.{min, nat_le, slice_set}
use Rattle.ir_event.specs.store.OpRecords.{AreResultUses, lists_in}
use Rattle.ir_event.specs.trees.declared.value.Value.{Value}
use Rattle.ir_event.specs.trees.Tree.{Op, op, region_count}
use Rattle.ir_event.specs.trees.Ids.{find}
use Rattle.ir_event.specs.trees.Limits.{most_items, most_regions, items_fit, head_fits, all_arguments_pass, op_fits}
use Rattle.ir_event.specs.trees.WellFormed.{IsValidTree}
use Rattle.ir_event.proofs.of_tree_laws.Wellformed.{from_wellformed}
use Rattle.ir_event.proofs.of_tree_laws.Listed.{both}
use Rattle.ir_event.proofs.of_tree_laws.Members.{found_stands}
use Rattle.mlir_work_c_read.specs.declared.numbers.RecordItem.{RecordItem}
use Rattle.mlir_work_c_read.specs.Bulk.{WritesFirst, operands_in}
use Rattle.mlir_work_c_read.specs.Filled.{over_from, WritesFrom}
use Rattle.mlir_work_c_read.specs.Records.{AreRecords, AreResults, IsRecord, few, operand_item, operation_item, result_item, result_items, results_in, use_item}
use Rattle.mlir_work_c_read.proofs.Joining.{Continues, ContinuesFrom, begins, begins_from, continues, continues_from, ends, ends_from, rest_at, set_here}

-- ---- an operation has few operands and results

items_fit_in : (o : Op) → op_fits o ≡ true → (length (lists_in o).1.0 ≤ most_items) × (length (lists_in o).1.1 ≤ most_items)
items_fit_in (op h rs) e =
    let own = both (head_fits h) (nat_le (region_count rs) most_regions && all_arguments_pass items_fit rs) e in
    let all = both (items_fit h.operands) (items_fit h.results && (items_fit h.properties && items_fit h.attributes)) own.0 in
    (leb-true (length h.operands) most_items all.0, leb-true (length h.results) most_items (both (items_fit h.results) (items_fit h.properties && items_fit h.attributes) all.1).0)

pub few_items : (isolated : ℕ → Bool) (x : ℕ) (t : Op) → IsValidTree isolated t → (l : ℕ × (List Value × List ℕ)) → Some l ≡ option_map lists_in (find x t) → (length l.1.0 ≤ most_items) × (length l.1.1 ≤ most_items)
few_items isolated x t wellformed l e = go (find x t) refl e
  where
    go : (o : Option Op) → find x t ≡ o → Some l ≡ option_map lists_in o → (length l.1.0 ≤ most_items) × (length l.1.1 ≤ most_items)
    go None f e = absurd cc
    go (Some o) f e =
        let one : l ≡ lists_in o = cc in
        let s = found_stands x t o f in
        subst (λ (m : ℕ × (List Value × List ℕ)). (length m.1.0 ≤ most_items) × (length m.1.1 ≤ most_items)) (sym one) (items_fit_in o (ap op_fits (sym s.3) ∙ (from_wellformed isolated t wellformed).fits s.0 s.1))

-- ---- parts of a buffer

-- whatever the items to come are, they complete all items
abbrev pub Ends : {A : Type 0} → (List A → Type 0) → (List A → Type 0) → ℕ → List A → List A → Type 0
Ends {A} All Left at into old = (rest : List A) → Left rest → (items : List A) × All items × Continues rest items at into old

module _ {A : Type 0} where
  pub ends_begin : (All : List A → Type 0) (old : List A) → Ends All All 0 old old
  ends_begin All old rest left = (rest, left, begins rest old)

  pub ends_on : (All Left Next : List A → Type 0) (one : List A) (at m : ℕ) (into new old : List A)
      → ((rest : List A) → Next rest → Left (one ++ rest)) → new ≡ over_from at one into → m ≡ min (at + length one) (length into)
      → Ends All Left at into old → Ends All Next m new old
  ends_on All Left Next one at m into new old step is count h rest more =
      let got = h (one ++ rest) (step rest more) in
      (got.0, got.1, continues one rest (one ++ rest) got.0 at m into new old refl (length-append one rest) is count got.2)

  pub ends_all : (All Left : List A → Type 0) (at : ℕ) (into old : List A) → Left [] → Ends All Left at into old → (items : List A) × All items × WritesFirst items old into at
  ends_all All Left at into old none h =
      let got = h [] none in
      let done = ends got.0 at into old got.2 in
      (got.0, got.1, record { written = done.0; count_is = done.1 })

  -- three parts
  pub three_parts : (xs ys zs : List A) (at m n k : ℕ) (old into second third : List A) → at ≤ length old
      → WritesFrom xs at old into m → WritesFrom ys m into second n → WritesFrom zs n second third k → WritesFrom (xs ++ (ys ++ zs)) at old third k
  three_parts xs ys zs at m n k old into second third l a b d =
      let whole = xs ++ (ys ++ zs) in
      let one = continues_from xs (ys ++ zs) whole whole at at m old into old refl a (begins_from whole at old l) in
      let two = continues_from ys zs (ys ++ zs) whole at m n into second old refl b one in
      let three = continues_from zs [] zs whole at n k second third old (sym (append-nil zs)) d two in
      ends_from whole at k third old three

pub few_is : (n m : ℕ) → m ≡ min n 18446744073709551615 → few m ≡ few n
few_is n m e = omega (arith, e)

-- an item of two numbers, and one of three
abbrev pub two : ℕ → ℕ → RecordItem
two f s = record { first = f; second = s; third = 0 }

abbrev pub three : ℕ → ℕ → ℕ → RecordItem
three f s t = record { first = f; second = s; third = t }

pub two_is : (f s a b : ℕ) → f ≡ a → s ≡ b → two f s ≡ two a b
two_is f s a b p q = λ i. two (p i) (q i)

pub many_uses : (us : List (ℕ × ℕ)) → length (map use_item us) ≡ length us
many_uses [] = refl
many_uses (u ∷ us) = ap suc (many_uses us)

-- a use is written
pub use_on : (rest new : List (ℕ × ℕ)) (u : ℕ × ℕ) (x : RecordItem) (whole : List RecordItem) (b at : ℕ) (into old : List RecordItem) → rest ≡ u ∷ new → x ≡ use_item u → at < length into
    → ContinuesFrom (map use_item rest) whole b at into old → ContinuesFrom (map use_item new) whole b (at + 1) (slice_set into at x) old
use_on rest new u x whole b at into old steps is less h =
    let written = ap (slice_set into at) is ∙ set_here at (use_item u) into less in
    continues_from (use_item u ∷ []) (map use_item new) (map use_item rest) whole b at (at + 1) into (slice_set into at x) old
    (ap (map use_item) steps) (record { written = written; end_is = omega (arith, less) }) h

-- ---- the lists of records and of results

-- an operand, and the others
pub operands_step : (xs : List Value) (v d : Value) → 1 ≤ length xs → v ≡ get_or xs 0 d → map operand_item xs ≡ (operand_item v ∷ []) ++ map operand_item (take (length xs - 1) (drop 1 xs))
operands_step xs v d l z = ap (map operand_item) (rest_at xs v d l z)

pub operands_none : (xs : List Value) → length xs < 1 → map operand_item xs ≡ []
operands_none [] l = refl
operands_none (x ∷ xs) l = absurd (omega (arith, l))

-- a result with its uses, and the others
pub results_step : (uses : List (List (ℕ × ℕ))) (k : ℕ) (xs : List ℕ) (ty d : ℕ) (us : List (ℕ × ℕ)) → 1 ≤ length xs → ty ≡ get_or xs 0 d → us ≡ get_or uses k []
    → result_items uses k xs ≡ (result_item ty (length us) ∷ map use_item us) ++ result_items uses (k + 1) (take (length xs - 1) (drop 1 xs))
results_step uses k xs ty d us l z e =
    ap (result_items uses k) (rest_at xs ty d l z)
    ∙ ap (λ ws. (result_item ty (length ws) ∷ map use_item ws) ++ result_items uses (k + 1) (take (length xs - 1) (drop 1 xs))) (sym e)

pub results_none : (uses : List (List (ℕ × ℕ))) (k : ℕ) (xs : List ℕ) → length xs < 1 → result_items uses k xs ≡ []
results_none uses k [] l = refl
results_none uses k (x ∷ xs) l = absurd (omega (arith, l))

pub results_are : (x : ℕ) (t : Op) (uses : List (List (ℕ × ℕ))) (k : ℕ) (xs : List ℕ) → k + length xs ≡ length uses → AreResultUses x t uses → AreResults x t k xs (result_items uses k xs)
results_are x t uses k [] l are = refl
results_are x t uses k (ty ∷ tys) l are =
    let less : k < length uses = omega (arith, l) in
    let more : k + 1 + length tys ≡ length uses = omega (arith, l) in
    (get_or uses k [], result_items uses (k + 1) tys, are k less, results_are x t uses (k + 1) tys more are, refl)

pub records_step : (t : Op) (xs : List ℕ) (d x : ℕ) (one : List RecordItem) → 1 ≤ length xs → x ≡ get_or xs 0 d → IsRecord x t one
    → (rest : List RecordItem) → AreRecords t (take (length xs - 1) (drop 1 xs)) rest → AreRecords t xs (one ++ rest)
records_step t xs d x one l z is rest more = subst (λ ys. AreRecords t ys (one ++ rest)) (sym (rest_at xs x d l z)) (one, rest, is, more, refl)

pub records_none : (t : Op) (xs : List ℕ) → length xs < 1 → AreRecords t xs []
records_none t [] l = refl
records_none t (y ∷ ys) l = absurd (omega (arith, l))

-- ---- the record of an operation

pub record_is : (x : ℕ) (t : Op) (name : ℕ) (operands : List Value) (types : List ℕ) (results : List RecordItem) → Some (name, (operands, types)) ≡ option_map lists_in (find x t)
    → AreResults x t 0 types results → IsRecord x t ((three name (length operands) (length types) ∷ []) ++ (map operand_item operands ++ results))
record_is x t name operands types results e are = go (find x t) e
  where
    go : (o : Option Op) → Some (name, (operands, types)) ≡ option_map lists_in o
        → (items : List RecordItem) × AreResults x t 0 (results_in o) items
        × ((three name (length operands) (length types) ∷ []) ++ (map operand_item operands ++ results) ≡ operation_item o ∷ map operand_item (operands_in o) ++ items)
    go None e = absurd cc
    go (Some o) e =
        let one : (name, (operands, types)) ≡ lists_in o = cc in (
          results,
          subst (λ (l : ℕ × (List Value × List ℕ)). AreResults x t 0 l.1.1 results) one are,
          ap (λ (l : ℕ × (List Value × List ℕ)). three l.0 (length l.1.0) (length l.1.1) ∷ map operand_item l.1.0 ++ results) one,
        )

pub record_none : (x : ℕ) (t : Op) → None ≡ option_map lists_in (find x t) → IsRecord x t (operation_item None ∷ [])
record_none x t e = go (find x t) e
  where
    go : (o : Option Op) → None ≡ option_map lists_in o → (items : List RecordItem) × AreResults x t 0 (results_in o) items × (operation_item None ∷ [] ≡ operation_item o ∷ map operand_item (operands_in o) ++ items)
    go None e = ([], refl, refl)
    go (Some o) e = absurd cc
