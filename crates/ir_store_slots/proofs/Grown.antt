-- A slot with everything that its operation needs.
use Rattle.std.proofs.Common.{◌≡◌, ℕ, zero, suc, ◌+◌, ◌-◌, ◌<◌, ◌≤◌, List, [], ◌∷◌, ◌++◌, map, take, drop, refl, sym, ap, ◌∙◌, subst, length, true, false, arith, Option, Some, None, get_or}
use Rattle.std.proofs.lemmas.List.{map-append, append_assoc}
use Rattle.std.proofs.lemmas.Option.{slice_get_within}
use Rattle.ir_store_lists.specs.Lists.{Lists, home_at}
use Rattle.ir_store_arena.specs.trees.declared.tree.TreeRegion.{TreeRegion}
use Rattle.ir_store_arena.specs.trees.View.{region_view}
use Rattle.ir_store_arena.specs.trees.Tree.{Op, op, head, region, Region, empty, block, no_ops, regions_of}
use Rattle.ir_store_arena.specs.tree_laws.Reasons.{with_id}
use Rattle.ir_store_slots.specs.Rows.{Row, RegionShape, bare_regions}
use Rattle.ir_store_slots.specs.Grows.{Parts, IsEven, Wider, Ready, AreBlocks, Runs, AddsSlot, Grown, row_spare, row_held, bare_region}
use Rattle.ir_store_slots.specs.Emptied.{emptied_region, emptied_regions, emptied}
use Rattle.ir_store_slots.proofs.Wide.{wide_then, head_stays, blocks_stay}
use Rattle.ir_store_slots.proofs.Runs.{run_wide, run_heads, run_uses, slot_wide, slot_home, push_long}

pub take_all : {X : Type 0} (n : ℕ) (xs : List X) → n ≡ length xs → take n xs ≡ xs
take_all zero [] e = refl
take_all zero (x ∷ xs) e = absurd (omega (arith, e))
take_all (suc n) [] e = absurd (omega (arith, e))
take_all (suc n) (x ∷ xs) e = ap (λ z. x ∷ z) (take_all n xs (omega (arith, e)))

-- one more region has no operations
pub emptied_step : (xs ys : List RegionShape) (x : RegionShape) (rest : List TreeRegion) (w : TreeRegion) (goal : List Region) → w ≡ get_or rest 0 w → 1 ≤ length rest → bare_region x ≡ emptied_region (region_view w) → ys ≡ xs ++ x ∷ []
    → map bare_region xs ++ map emptied_region (map region_view rest) ≡ goal → map bare_region ys ++ map emptied_region (map region_view (take (length rest - 1) (drop 1 rest))) ≡ goal
emptied_step xs ys x [] w goal ew l ex ey e = absurd (omega (arith, l))
emptied_step xs ys x (y ∷ rest) w goal ew l ex ey e =
    let long : suc (length rest) - 1 ≡ length rest = omega arith in
    ap (λ z. map bare_region ys ++ map emptied_region (map region_view z)) (take_all (suc (length rest) - 1) rest long)
    ∙ ap (λ z. map bare_region z ++ map emptied_region (map region_view rest)) ey
    ∙ ap (λ z. z ++ map emptied_region (map region_view rest)) (map-append bare_region xs (x ∷ []))
    ∙ append_assoc (map bare_region xs) (bare_region x ∷ []) (map emptied_region (map region_view rest))
    ∙ ap (λ z. map bare_region xs ++ z ∷ map emptied_region (map region_view rest)) (ex ∙ ap (λ z. emptied_region (region_view z)) ew)
    ∙ e

pub bare_list : (xs : List RegionShape) → bare_regions xs ≡ regions_of (map bare_region xs)
bare_list [] = refl
bare_list (None ∷ xs) = ap (region empty) (bare_list xs)
bare_list (Some a ∷ xs) = ap (region (block a.0 no_ops)) (bare_list xs)

pub emptied_list : (gs : List Region) → regions_of (map emptied_region gs) ≡ emptied_regions (regions_of gs)
emptied_list [] = refl
emptied_list (g ∷ gs) = ap (region (emptied_region g)) (emptied_list gs)

module _ (p : Parts) (even : IsEven p) (slot : ℕ) (es : slot ≡ length p.slots) (w : Row) (ew : w ≡ row_spare 0 0 0) (rows1 : List Row) (sibs1 : Lists) (a : AddsSlot false w p.slots rows1 p.sibs sibs1) where
  abbrev pub first : Parts
  first = record p { slots = rows1; sibs = sibs1 }

  pub first_wide : Wider p first
  first_wide = slot_wide p even false w rows1 sibs1 a (ap (λ z. z.used) ew) (ap (λ z. z.live) ew)

  module _ (q : Parts) (wide : Wider first q) where
    pub second_wide : Wider p q
    second_wide = wide_then p first q first_wide wide

    module _ (n : ℕ) (homes3 : List ℕ) (cells3 : List (ℕ × ℕ)) (r : Runs true slot n q.homes homes3 q.cells cells3) where
      abbrev pub third : Parts
      third = record q { homes = homes3; cells = cells3 }

      third_more : Wider q third
      third_more = run_wide q wide.even true slot n homes3 cells3 r

      pub third_wide : Wider p third
      third_wide = wide_then p q third second_wide third_more

      module _ (m : ℕ) (homes4 : List ℕ) (cells4 : List (ℕ × ℕ)) (s : Runs false slot m homes3 homes4 cells3 cells4) where
        abbrev pub fourth : Parts
        fourth = record q { homes = homes4; cells = cells4 }

        fourth_more : Wider third fourth
        fourth_more = run_wide third third_more.even false slot m homes4 cells4 s

        pub fourth_wide : Wider p fourth
        fourth_wide = wide_then p third fourth third_wide fourth_more

        after_first : Wider first fourth
        after_first = wide_then first q fourth wide (wide_then q third fourth third_more fourth_more)

        slot_in : slot < length rows1
        slot_in = omega (arith, es, ap length a.row, push_long p.slots w w)

        module _ (x : ℕ) (o : Op) (gs : List Region) (eo : op (head o) (regions_of gs) ≡ o) (xs : List RegionShape) (emptied_xs : map bare_region xs ≡ map emptied_region gs) (blocks : AreBlocks q (length first.homes) slot xs)
            (values base : ℕ) (ev : values ≡ length q.homes) (eb : base ≡ length homes3) (en : n ≡ length (head o).results) (em : m ≡ length (head o).operands)
            (u : Row) (eu : u ≡ row_held x (head o) xs base values) where
          is_ready : (keys : ℕ → Option ℕ) → keys x ≡ None → Ready fourth keys (length p.homes) slot x (row_held x (head o) xs base values)
          is_ready keys none = record {
            inside = omega (arith, slot_in, after_first.more);
            spare = fourth_wide.spare slot (omega (arith, es));
            out = record {
              inside = omega (arith, slot_in, after_first.more, fourth_more.even.long);
              unlinked = after_first.home slot slot_in ∙ ap (home_at sibs1.homes) es ∙ slot_home p even false w rows1 sibs1 a;
            };
            unknown = none;
            used = refl;
            live = refl;
            id = refl;
            blocks = blocks_stay q fourth wide.even (wide_then q third fourth third_more fourth_more) (length p.homes) slot xs blocks;
            operands = λ j v e. run_uses third third_more.even false slot m homes4 cells4 s refl base eb j (omega (arith, em, slice_get_within (head o).operands j v e));
            results = λ i l. head_stays third fourth fourth_more (length p.homes) slot i (values + i)
                (run_heads q wide.even true slot n homes3 cells3 r refl (length p.homes) second_wide.uses_more values ev i (omega (arith, l, en)));
          }

          pub is_grown : Grown (length p.homes) fourth x o slot u
          is_grown = subst (Grown (length p.homes) fourth x o slot) (sym eu) (record {
            ready = is_ready;
            is = ap (op (record (head o) { id = x })) (bare_list xs ∙ ap regions_of emptied_xs ∙ emptied_list gs) ∙ ap (λ z. with_id x (emptied z)) eo;
            gone = refl;
          })
