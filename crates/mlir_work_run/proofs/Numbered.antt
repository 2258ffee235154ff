-- The ids 0, 1, .. are distinct and below their number. A tree of term numbers is numbered and valid like the tree
-- that the numbers denote.
use Rattle.ir_event.specs.Modules.{Module}
use Rattle.mlir_work_session.specs.Public.{IsOnly}
use Rattle.ir_text_modules.specs.Modules.{SpellsModule}
use Rattle.mlir_work_run.specs.Whole.{IsWorldOf}
use Rattle.std.specs.Prelude.{Bool, IsTrue}
use Rattle.std.proofs.Common.{ap, ◌≡◌, ◌≢◌, ◌<◌, ◌∙◌, sym, subst, ℕ, List, All, eqb, arith, refl}
use Rattle.std.specs.Cmp.{unsigned_Decides}
use Rattle.std.specs.List.{AllPairs, IsDistinct, range_with_len}
use Rattle.std.proofs.lemmas.List.FromFn.{length-range_with_len, get_or-range_with_len}
use Rattle.std.proofs.lemmas.Map.Made.{IsDistinct-from_AllPairs}
use Rattle.ir_event.specs.types.Things.{ContextModel}
use Rattle.ir_event.specs.types.Terms.{name_term, type_term, attr_term}
use Rattle.ir_event.specs.types.Words.{is_isolated}
use Rattle.ir_event.specs.trees.Tree.{Op}
use Rattle.ir_event.specs.trees.Ids.{ids, op_count, IsNumberedFrom, HasDistinctIds}
use Rattle.ir_event.specs.trees.Meaning.{isolated_in, meaning}
use Rattle.ir_event.specs.trees.WellFormed.{IsValidTree}
use Rattle.ir_event.proofs.of_trees.Mapped.{map_counts, map_depth, map_ids, map_operands_visible}
use Rattle.ir_event.proofs.of_tree_laws.Facts.{count_meaning}

numbers_apart : (n : ℕ) → AllPairs (λ x y. x ≢ y) (range_with_len 0 n)
numbers_apart n i j d lt within e =
    let below : j < n = subst (λ (k : ℕ). j < k) (length-range_with_len 0 n) within in
    let first = get_or-range_with_len 0 n i d (omega arith) in
    let second = get_or-range_with_len 0 n j d below in
    omega (arith, e, first, second)

pub numbered_distinct : (t : Op) → IsNumberedFrom 0 t → HasDistinctIds t
numbered_distinct t e = subst (IsDistinct eqb) (sym e) (IsDistinct-from_AllPairs unsigned_Decides _ (numbers_apart (op_count t)))

numbers_below : (n : ℕ) → All (λ x. x < n) (range_with_len 0 n)
numbers_below n k d lt =
    let below : k < n = subst (λ (m : ℕ). k < m) (length-range_with_len 0 n) lt in
    let is = get_or-range_with_len 0 n k d below in
    omega (arith, is)

pub numbered_below : (t : Op) (next : ℕ) → next ≡ op_count t → IsNumberedFrom 0 t → All (λ x. x < next) (ids t)
numbered_below t next same e = rw same (subst (All (λ x. x < op_count t)) (sym e) (numbers_below (op_count t)))

-- a tree of term numbers is numbered like the tree that it denotes
pub numbered_meaning : (c : ContextModel) (t : Op) → IsNumberedFrom 0 (meaning c t) → IsNumberedFrom 0 t
numbered_meaning c t e = rw (map_ids (name_term c) (type_term c) (attr_term c) t) at e

-- a tree of term numbers is valid if the tree that it denotes is
pub wellformed_meaning : (c : ContextModel) (t : Op) → IsValidTree is_isolated (meaning c t) → IsValidTree (isolated_in c) t
wellformed_meaning c t w = record {
  visible = subst IsTrue (map_operands_visible (name_term c) (type_term c) (attr_term c) is_isolated t) w.visible;
  shallow = rw (← map_depth (name_term c) (type_term c) (attr_term c) t) w.shallow;
  counts = subst IsTrue (map_counts (name_term c) (type_term c) (attr_term c) t) w.counts;
}

-- the IR state of a parsed tree is that of the text
pub world_is : (opaque : Bool) (text : List ℕ) (c : ContextModel) (t : Op) (m : Module) → IsOnly (SpellsModule opaque text) c t → m ≡ record { tree = meaning c t; next = op_count t } → IsWorldOf opaque text m
world_is opaque text c t m h e =
    let at : ℕ → Module = λ n. record { tree = meaning c t; next = n } in
    (meaning c t, h.holds, e ∙ ap at (sym (count_meaning c t)))
