-- The report of dead operations.
use Rattle.std.proofs.Common.{◌≡◌, ℕ, ◌+◌, List, [], ◌∷◌, Bool, true, false, true≢false, ◌||◌, Option, Some, None, refl, sym, ap, ◌∙◌, subst, arith, cond, eqb, ◌&&◌, map}
use Rattle.std.specs.Prelude.{option_map, nat_lt, not}
use Rattle.std.specs.List.{AllByRecursion, All}
use Rattle.std.specs.List.Sorted.{IsStrictlySortedBy}
use Rattle.std.specs.Ordering.{nat_cmp}
use Rattle.std.specs.declared.cmp.Ordering.TheVariants.{Less}
use Rattle.std.specs.Map.{lookup, keys_of}
use Rattle.std.specs.BTreeMap.{is_at}
use Rattle.listeners_support.specs.Map.{IdMap}
use Rattle.listeners_support.specs.Map as idmap
use Rattle.std.proofs.lemmas.Bool.{eqb-true, not-true}
use Rattle.std.proofs.lemmas.Bool.Decides.{nat_tests}
use Rattle.std.proofs.lemmas.List.Elements.{All-cons, All-nil}
use Rattle.ir_event.specs.types.Things.{ContextModel}
use Rattle.ir_event.specs.trees.Tree.{op, head}
use Rattle.ir_event.specs.trees.Ids.{HasDistinctIds, find}
use Rattle.ir_event.specs.trees.Meaning.{Operation}
use Rattle.ir_event.proofs.of_tree_laws.Members.{found_stands}
use Rattle.ir_event.specs.declared.row.Cell.TheVariants as cell
use Rattle.ir_event.specs.declared.row.Row.{Row as Line}
use Rattle.ir_event.specs.Rows.{Op, cell_meaning, rows_meaning, CellIsOf, RowIsOf, Shows}
use Rattle.op_registry.specs.Registry.{own_of}
use Rattle.effects.specs.declared.effect_kinds.EffectKinds.{EffectKinds}
use Rattle.effects.specs.declared.row.Row.{Row}
use Rattle.effects.specs.Effects.{own_kinds, is_recursive, effects_by, regions_effects, effects}
use Rattle.op_registry.specs.declared.own.Own.{Own}
use Rattle.op_registry.specs.declared.own.Own.TheVariants.{Pure, Only, Recursive, Unknown}
use Rattle.effects.specs.Dead.{is_unused, is_kept, is_missed, stays, may_go, is_dead}
use Rattle.effects.specs.Picked.{idle_row}
use Rattle.effects.specs.Points.{Rows, points, one_if}
use Rattle.effects.specs.Walks.{rows_at}
use Rattle.effects.specs.Following.{Whole}
use Rattle.ir_event.specs.Heads.{heads, all_operands}
use Rattle.effects.specs.Counts.{Counts, results_among, Counted, is_zero}
use Rattle.ir_event.specs.Rows.{by_id}
use Rattle.ir_event.specs.Subjects.{rows_about}
use Rattle.ir_event.specs.declared.subject.Subject.{Subject}
use Rattle.ir_event.specs.declared.subject.Subject.TheVariants as subject
use Rattle.effects.specs.Reports.{of_each, those, cell_of, dead_of, dead_rows}
use Rattle.effects.specs.Listed.{checked, checked_about}
use Rattle.ir_event.proofs.ById.{look, Above, Rising, rising_same}
use Rattle.effects.proofs.Shown.{each_look, each_rising, shown_found}
use Rattle.effects.proofs.Abouts.{about_dead, no_dead}
use Rattle.effects.proofs.Headed.{unused_is}
use Rattle.ir_event.proofs.of_types.Truths.{less_than, same_test}

-- ---- the entries of a map

module _ (counts : Counts) where
  above_checked : (x : ℕ) (es : List (ℕ × Row)) → AllByRecursion (λ y. nat_cmp x y ≡ Less) (keys_of es) → Above x (checked counts es)
  above_checked x [] a = tt
  above_checked x (e ∷ es) a = (less_than x e.0 a.0, above_checked x es a.1)

  pub checked_rising : (es : List (ℕ × Row)) → IsStrictlySortedBy nat_cmp (keys_of es) → Rising (checked counts es)
  unfolding IsStrictlySortedBy
  checked_rising [] s = tt
  checked_rising (e ∷ es) s = (above_checked e.0 es s.0, checked_rising es s.1)

  pub look_checked : (x : ℕ) (es : List (ℕ × Row)) → look x (checked counts es) ≡ option_map (λ (r : Row). is_zero (counts x) && may_go r.has) (lookup (is_at (nat_cmp x)) es)
  look_checked x [] = refl
  look_checked x (e ∷ es) =
      ap (cond (eqb x e.0) (Some (is_zero (counts e.0) && may_go e.1.has))) (look_checked x es)
      ∙ go (eqb x e.0) refl
      ∙ ap (λ b. option_map (λ (r : Row). is_zero (counts x) && may_go r.has) (cond b (Some e.1) (lookup (is_at (nat_cmp x)) es))) (sym (same_test x e.0))
    where
      go : (b : Bool) → eqb x e.0 ≡ b → cond (eqb x e.0) (Some (is_zero (counts e.0) && may_go e.1.has)) (option_map (λ (r : Row). is_zero (counts x) && may_go r.has) (lookup (is_at (nat_cmp x)) es))
          ≡ option_map (λ (r : Row). is_zero (counts x) && may_go r.has) (cond (eqb x e.0) (Some e.1) (lookup (is_at (nat_cmp x)) es))
      go true is =
          ap (λ b. cond b (Some (is_zero (counts e.0) && may_go e.1.has)) (option_map (λ (r : Row). is_zero (counts x) && may_go r.has) (lookup (is_at (nat_cmp x)) es))) is
          ∙ ap (λ y. Some (is_zero (counts y) && may_go e.1.has)) (sym (eqb-true x e.0 is))
          ∙ ap (λ b. option_map (λ (r : Row). is_zero (counts x) && may_go r.has) (cond b (Some e.1) (lookup (is_at (nat_cmp x)) es))) (sym is)
      go false is =
          ap (λ b. cond b (Some (is_zero (counts e.0) && may_go e.1.has)) (option_map (λ (r : Row). is_zero (counts x) && may_go r.has) (lookup (is_at (nat_cmp x)) es))) is
          ∙ ap (λ b. option_map (λ (r : Row). is_zero (counts x) && may_go r.has) (cond b (Some e.1) (lookup (is_at (nat_cmp x)) es))) (sym is)

-- no uses, and not one of the operations that are never dead
none_left : (n : ℕ) (kept : Bool) → nat_lt (n + one_if kept) 1 ≡ (nat_lt n 1 && not kept)
none_left n true = grind (arith, nat_tests, and_false (nat_lt n 1))
  where
    and_false : (b : Bool) → (b && false) ≡ false
    and_false true = refl
    and_false false = refl
none_left n false = ap (λ m. nat_lt m 1) (let same : n + 0 ≡ n = omega arith in same) ∙ sym (and_true (nat_lt n 1))
  where
    and_true : (b : Bool) → (b && true) ≡ b
    and_true true = refl
    and_true false = refl

-- an operation with other own effects than allocations and reads isn't dead
missed_stays : (w : Own) (inner : EffectKinds) → is_missed w ≡ true → may_go (effects_by w inner) ≡ false
missed_stays Pure inner e = absurd (true≢false (sym e))
missed_stays (Only s) inner e = not-true (may_go (own_kinds (Only s))) e
missed_stays Recursive inner e = absurd (true≢false (sym e))
missed_stays Unknown inner e = refl

missed_one : (o : Operation) → is_missed (own_of (head o).name) ≡ true → may_go (effects own_of o) ≡ false
missed_one (op h rs) e = missed_stays (own_of h.name) (regions_effects own_of rs) e

-- an operation without uses that may be dead
same_judgement : (unused kept missed goes : Bool) → (missed ≡ true → goes ≡ false) → ((unused && not (kept || missed)) && goes) ≡ (unused && (not kept && goes))
same_judgement false kept missed goes h = refl
same_judgement true true missed goes h = refl
same_judgement true false true goes h = sym (h refl)
same_judgement true false false goes h = refl

module _ (t : Operation) (counts : Counts) (counted : Counted counts t) where
  -- the test of an operation of the tree
  checked_one : (x : ℕ) (o : Operation) → find x t ≡ Some o → (is_zero (counts x) && may_go (effects own_of o)) ≡ is_dead t o
  checked_one x o e =
      let s = found_stands x t o e in
      let id : (head o).id ≡ x = ap (λ (p : Operation). (head p).id) (sym s.3) ∙ s.2 in
      let n = results_among x (all_operands (heads t)) in
      let k = stays (head o).name in
      let zero : is_zero (counts x) ≡ (is_unused (head o).id t && not k) =
      ap is_zero (counted x ∙ ap (option_map (λ (o : Operation). results_among x (all_operands (heads t)) + one_if (stays (head o).name))) e)
      ∙ none_left n k
      ∙ ap (λ b. b && not k) (sym (unused_is x t) ∙ ap (λ y. is_unused y t) (sym id)) in
      ap (λ b. b && may_go (effects own_of o)) zero
      ∙ same_judgement (is_unused (head o).id t) (is_kept (head o).name) (is_missed (own_of (head o).name)) (may_go (effects own_of o)) (missed_one o)

  pub checked_all : (x : ℕ) (rows : Option Row) → option_map (effects own_of) (find x t) ≡ option_map (λ (r : Row). r.has) rows → option_map (λ (r : Row). is_zero (counts x) && may_go r.has) rows ≡ option_map (is_dead t) (find x t)
  checked_all x rows e = twice rows ∙ ap (option_map (λ s. is_zero (counts x) && may_go s)) (sym e) ∙ each (find x t) refl
    where
      twice : (r : Option Row) → option_map (λ (r : Row). is_zero (counts x) && may_go r.has) r ≡ option_map (λ s. is_zero (counts x) && may_go s) (option_map (λ (r : Row). r.has) r)
      twice None = refl
      twice (Some r) = refl

      each : (o : Option Operation) → find x t ≡ o → option_map (λ s. is_zero (counts x) && may_go s) (option_map (effects own_of) o) ≡ option_map (is_dead t) o
      each None f = refl
      each (Some o) f = ap Some (checked_one x o f)

pub checked_listed : (m : IdMap Row) (counts : Counts) (t : Operation) → idmap.IsOrdered m → HasDistinctIds t → Whole (rows_at m) (points own_of None t) → Counted counts t → checked counts m.entries ≡ by_id (of_each (is_dead t) t)
checked_listed m counts t ordered d h counted =
    rising_same (checked counts m.entries) (by_id (of_each (is_dead t) t)) (checked_rising counts m.entries ordered) (each_rising (is_dead t) t d)
    (λ x. look_checked counts x m.entries ∙ checked_all t counts counted x (rows_at m x) (shown_found own_of t (rows_at m) d h x) ∙ sym (each_look (is_dead t) t d x))

-- ---- rows

module _ (c : ContextModel) where
  rows_say : (rows : List Line) (xs : List ℕ) → map (λ (r : Line). r.cells.items) rows ≡ map (cell_of cell.Op) xs → rows_meaning c rows ≡ map (cell_of Op) xs
  rows_say [] [] e = refl
  rows_say [] (x ∷ xs) e = absurd cc
  rows_say (r ∷ rs) [] e = absurd cc
  rows_say (r ∷ rs) (x ∷ xs) e =
      let one : r.cells.items ≡ cell_of cell.Op x = cc in
      let rest : map (λ (r : Line). r.cells.items) rs ≡ map (cell_of cell.Op) xs = cc in
      λ i. ap (map (cell_meaning c)) one i ∷ rows_say rs xs rest i

  rows_known : (rows : List Line) (xs : List ℕ) → map (λ (r : Line). r.cells.items) rows ≡ map (cell_of cell.Op) xs → All (RowIsOf c) rows
  rows_known [] xs e = All-nil (RowIsOf c)
  rows_known (r ∷ rs) [] e = absurd cc
  rows_known (r ∷ rs) (x ∷ xs) e =
      let one : r.cells.items ≡ cell_of cell.Op x = cc in
      let rest : map (λ (r : Line). r.cells.items) rs ≡ map (cell_of cell.Op) xs = cc in
      All-cons (RowIsOf c) r rs (subst (All (CellIsOf c)) (sym one) (All-cons (CellIsOf c) (cell.Op x) [] (tt {0}) (All-nil (CellIsOf c)))) (rows_known rs xs rest)

  pub shows_dead : (m : IdMap Row) (counts : Counts) (rows : List Line) (t : Operation) → idmap.IsOrdered m → map (λ (r : Line). r.cells.items) rows ≡ map (cell_of cell.Op) (those (checked counts m.entries))
      → HasDistinctIds t → Whole (rows_at m) (points own_of None t) → Counted counts t → Shows c rows (dead_rows t)
  shows_dead m counts rows t ordered is d h counted =
      let e = is ∙ ap (λ l. map (cell_of cell.Op) (those l)) (checked_listed m counts t ordered d h counted) in
      record { says = rows_say rows (dead_of t) e; known = rows_known rows (dead_of t) e }

  -- the same for a borrowed table
  pub shown_by : (m lent : IdMap Row) (counts : Counts) (rows : List Line) (t : Operation) → lent ≡ m → idmap.IsOrdered lent → map (λ (r : Line). r.cells.items) rows ≡ map (cell_of cell.Op) (those (checked counts lent.entries))
      → HasDistinctIds t → Whole (rows_at m) (points own_of None t) → Counted counts t → Shows c rows (dead_rows t)
  shown_by m lent counts rows t same ordered is d h counted = shows_dead lent counts rows t ordered is d (subst (λ (z : IdMap Row). Whole (rows_at z) (points own_of None t)) (sym same) h) counted

  -- the rows about a subject
  pub shows_dead_about : (s : Subject) (rows lent : Rows) (counts : Counts) (out : List Line) (t : Operation) → lent ≡ rows → map (λ (r : Line). r.cells.items) out ≡ map (cell_of cell.Op) (those (checked_about s counts lent))
      → HasDistinctIds t → Whole rows (points own_of None t) → Counted counts t → Shows c out (rows_about s (dead_rows t))
  shows_dead_about (subject.Op x) rows lent counts out t same is d h counted =
      let now : Whole lent (points own_of None t) = subst (λ z. Whole z (points own_of None t)) (sym same) h in
      let found = each_look (is_dead t) t d x ∙ sym (checked_all t counts counted x (lent x) (shown_found own_of t lent d now x)) in
      record {
        says = rows_say out _ is ∙ sym (about_dead x (by_id (of_each (is_dead t) t)) (is_zero (counts x)) (lent x) (each_rising (is_dead t) t d) found);
        known = rows_known out _ is;
      }
  shows_dead_about (subject.Val v) rows lent counts out t same is d h counted =
      record { says = rows_say out [] is ∙ sym (no_dead v (by_id (of_each (is_dead t) t))); known = rows_known out [] is }
