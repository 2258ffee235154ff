-- Reads of trees of the same shape, with names, types and attributes changed: the reasons against edits, and the
-- preconditions of an undo.
use Rattle.std.proofs.Common.{◌≡◌, refl, ap, sym, ◌∙◌, ℕ, zero, suc, ◌+◌, Bool, true, false, cond, not, ◌&&◌, ◌||◌, eqb, List, [], ◌∷◌, length, map, Option, Some, None, option_map}
use Rattle.std.specs.Prelude.{nat_lt, nat_le, is_some, slice_get, option_and_then}
use Rattle.std.specs.List.{list_any, list_all}
use Rattle.std.proofs.lemmas.List.{length-map}
use Rattle.std.proofs.lemmas.Option.{slice_get-map}
use Rattle.ir_tree.specs.types.declared.refusal.Refusal.TheVariants.{NoSuchOp, NoSuchValue, NotVisible, NoSuchIndex, NoSuchKey, Full, IdsExhausted, TooDeepHere, IsRoot, NotEmpty, HasUses, IntoItself, OtherTable}
use Rattle.ir_tree.specs.declared.value.Value.{Value}
use Rattle.ir_tree.specs.declared.value.Value.TheVariants.{Result, Arg}
use Rattle.ir_tree.specs.declared.place.Place.{Place}
use Rattle.ir_tree.specs.declared.place.Part.{Part}
use Rattle.ir_tree.specs.declared.place.Part.TheVariants.{Props, Attrs}
use Rattle.ir_tree.specs.Tree.{OpOf, op, RegionsOf, no_regions, region, RegionOf, empty, block, OpsOf, no_ops, next, head, regions, region_count}
use Rattle.ir_tree.specs.Ids.{has_id, find, first_of, op_count}
use Rattle.ir_tree.specs.Limits.{items_fit, all_arguments_pass, op_fits, most_ops, most_items, most_regions, most_next}
use Rattle.ir_tree.specs.Sites.{visible, operands_visible}
use Rattle.ir_tree.specs.Edits.{part_of, entry_at}
use Rattle.ir_tree.specs.Maps.{map_entry, map_tree, map_regions, map_region, map_ops}
use Rattle.ir_tree.specs.Meaning.{dictionaries_rise, rises, rises_after}
use Rattle.ir_tree.specs.Places.{put, shifted}
use Rattle.ir_tree.specs.WellFormed.{ModuleOf}
use Rattle.ir_tree.proofs.Mapped.{map_ids, map_find, map_every, map_depth, map_visible, map_operands_visible, map_all_arguments, map_region_count}
use Rattle.ir_tree.proofs.MappedEdits.{map_put, map_shifted}
use Rattle.ir_tree_laws.specs.Changes.{entry_in}
use Rattle.ir_tree_laws.specs.Tables.{table_around, regions_table, region_table, ops_table, table_of}
use Rattle.ir_tree_laws.specs.Values.{region_at, arguments_of, arguments_at, type_of_value, has_value}
use Rattle.ir_tree_laws.specs.Reads.{ops_in, ops_at, is_among, is_within, around_in, regions_around, region_around, ops_around, around}
use Rattle.ir_tree_laws.specs.Reasons.{unless, value_reason, operand_reason, set_operand_reason, is_in_list, has_place, fits_around, with_id, put_reason, hold_none, holds_none, leaves, unused, take_reason, entry_reason, found_entry_reason, set_entry_reason, before_within, leads_inside, levels_in, same_table, shift_reason}
use Rattle.ir_tree_laws.specs.Restores.{MayRestore, MayRetract}

pub some_map : {X Y : Type 0} (g : X → Y) (o : Option X) → is_some (option_map g o) ≡ is_some o
some_map g None = refl
some_map g (Some x) = refl

pub all_alike : {X : Type 0} (p q : X → Bool) → ((x : X) → p x ≡ q x) → (xs : List X) → list_all p xs ≡ list_all q xs
all_alike p q f [] = refl
all_alike p q f (x ∷ xs) = λ i. f x i && all_alike p q f xs i

module _ {N T A M U B : Type 0} (f : N → M) (g : T → U) (h : A → B) where
  pub same_id : (o : OpOf N T A) → (head (map_tree f g h o)).id ≡ (head o).id
  same_id (op k rs) = refl

  pub same_operands : (o : OpOf N T A) → (head (map_tree f g h o)).operands ≡ (head o).operands
  same_operands (op k rs) = refl

  pub map_has_id : (y : ℕ) (t : OpOf N T A) → has_id y (map_tree f g h t) ≡ has_id y t
  map_has_id y t = ap (list_any (λ z. eqb z y)) (map_ids f g h t)

  map_op_count : (t : OpOf N T A) → op_count (map_tree f g h t) ≡ op_count t
  map_op_count t = ap length (map_ids f g h t)

  -- values
  pub map_region_at : (r : ℕ) (rs : RegionsOf N T A) → region_at r (map_regions f g h rs) ≡ option_map (map_region f g h) (region_at r rs)
  map_region_at r no_regions = refl
  map_region_at zero (region a rs) = refl
  map_region_at (suc r) (region a rs) = map_region_at r rs

  map_arguments_at : (r : ℕ) (o : OpOf N T A) → arguments_at r (map_tree f g h o) ≡ option_map (map g) (arguments_at r o)
  map_arguments_at r (op x rs) = ap (option_and_then arguments_of) (map_region_at r rs) ∙ go (region_at r rs)
    where
      go : (o : Option (RegionOf N T A)) → option_and_then arguments_of (option_map (map_region f g h) o) ≡ option_map (map g) (option_and_then arguments_of o)
      go None = refl
      go (Some empty) = refl
      go (Some (block args os)) = refl

  pub map_type_of_value : (v : Value) (t : OpOf N T A) → type_of_value v (map_tree f g h t) ≡ option_map g (type_of_value v t)
  map_type_of_value (Result x k) t = ap (option_and_then (λ (o : OpOf M U B). slice_get (head o).results k)) (map_find f g h x t) ∙ go (find x t)
    where
      go : (o : Option (OpOf N T A)) → option_and_then (λ (o : OpOf M U B). slice_get (head o).results k) (option_map (map_tree f g h) o) ≡ option_map g (option_and_then (λ (o : OpOf N T A). slice_get (head o).results k) o)
      go None = refl
      go (Some (op y rs)) = slice_get-map g y.results k
  map_type_of_value (Arg x r k) t = ap (option_and_then (λ (o : OpOf M U B). option_and_then (λ args. slice_get args k) (arguments_at r o))) (map_find f g h x t) ∙ go (find x t)
    where
      inside : (o : Option (List T)) → option_and_then (λ args. slice_get args k) (option_map (map g) o) ≡ option_map g (option_and_then (λ args. slice_get args k) o)
      inside None = refl
      inside (Some args) = slice_get-map g args k

      go : (o : Option (OpOf N T A)) → option_and_then (λ (o : OpOf M U B). option_and_then (λ args. slice_get args k) (arguments_at r o)) (option_map (map_tree f g h) o) ≡ option_map g (option_and_then (λ (o : OpOf N T A). option_and_then (λ args. slice_get args k) (arguments_at r o)) o)
      go None = refl
      go (Some y) = ap (option_and_then (λ args. slice_get args k)) (map_arguments_at r y) ∙ inside (arguments_at r y)

  pub map_has_value : (v : Value) (t : OpOf N T A) → has_value v (map_tree f g h t) ≡ has_value v t
  map_has_value v t = ap is_some (map_type_of_value v t) ∙ some_map g (type_of_value v t)

  -- places
  pub map_ops_at : (p r : ℕ) (t : OpOf N T A) → ops_at p r (map_tree f g h t) ≡ option_map (map_ops f g h) (ops_at p r t)
  map_ops_at p r t = ap (option_and_then (λ (o : OpOf M U B). option_and_then ops_in (region_at r (regions o)))) (map_find f g h p t) ∙ go (find p t)
    where
      inside : (o : Option (RegionOf N T A)) → option_and_then ops_in (option_map (map_region f g h) o) ≡ option_map (map_ops f g h) (option_and_then ops_in o)
      inside None = refl
      inside (Some empty) = refl
      inside (Some (block args os)) = refl

      go : (o : Option (OpOf N T A)) → option_and_then (λ (o : OpOf M U B). option_and_then ops_in (region_at r (regions o))) (option_map (map_tree f g h) o) ≡ option_map (map_ops f g h) (option_and_then (λ (o : OpOf N T A). option_and_then ops_in (region_at r (regions o))) o)
      go None = refl
      go (Some (op y rs)) = ap (option_and_then ops_in) (map_region_at r rs) ∙ inside (region_at r rs)

  map_is_among : (b : ℕ) (os : OpsOf N T A) → is_among b (map_ops f g h os) ≡ is_among b os
  map_is_among b no_ops = refl
  map_is_among b (next o os) = λ i. eqb (same_id o i) b || map_is_among b os i

  pub map_has_place : (place : Place) (t : OpOf N T A) → has_place place (map_tree f g h t) ≡ has_place place t
  map_has_place place t = ap (is_in_list place.before) (map_ops_at place.parent place.region t) ∙ go place.before (ops_at place.parent place.region t)
    where
      go : (b : Option ℕ) (os : Option (OpsOf N T A)) → is_in_list b (option_map (map_ops f g h) os) ≡ is_in_list b os
      go b None = refl
      go None (Some os) = refl
      go (Some b) (Some os) = map_is_among b os

  mutual
    map_around_in : (x n : ℕ) (t : OpOf N T A) → around_in x n (map_tree f g h t) ≡ around_in x n t
    map_around_in x n (op k rs) = ap (cond (eqb k.id x) (Some n)) (map_regions_around x (n + 1) rs)

    map_regions_around : (x n : ℕ) (rs : RegionsOf N T A) → regions_around x n (map_regions f g h rs) ≡ regions_around x n rs
    map_regions_around x n no_regions = refl
    map_regions_around x n (region r rs) = λ i. first_of (map_region_around x n r i) (map_regions_around x n rs i)

    map_region_around : (x n : ℕ) (r : RegionOf N T A) → region_around x n (map_region f g h r) ≡ region_around x n r
    map_region_around x n empty = refl
    map_region_around x n (block args os) = map_ops_around x n os

    map_ops_around : (x n : ℕ) (os : OpsOf N T A) → ops_around x n (map_ops f g h os) ≡ ops_around x n os
    map_ops_around x n no_ops = refl
    map_ops_around x n (next o os) = λ i. first_of (map_around_in x n o i) (map_ops_around x n os i)

  pub map_around : (x : ℕ) (t : OpOf N T A) → around x (map_tree f g h t) ≡ around x t
  map_around x t = map_around_in x 0 t

  -- tables
  module _ (is_table : M → Bool) where
    mutual
      map_table : (x : ℕ) (near : Option ℕ) (t : OpOf N T A) → table_around is_table x near (map_tree f g h t) ≡ table_around (λ n. is_table (f n)) x near t
      map_table x near (op k rs) = ap (cond (eqb k.id x) (Some near)) (map_regions_table x (cond (is_table (f k.name)) (Some k.id) near) rs)

      map_regions_table : (x : ℕ) (near : Option ℕ) (rs : RegionsOf N T A) → regions_table is_table x near (map_regions f g h rs) ≡ regions_table (λ n. is_table (f n)) x near rs
      map_regions_table x near no_regions = refl
      map_regions_table x near (region r rs) = λ i. first_of (map_region_table x near r i) (map_regions_table x near rs i)

      map_region_table : (x : ℕ) (near : Option ℕ) (r : RegionOf N T A) → region_table is_table x near (map_region f g h r) ≡ region_table (λ n. is_table (f n)) x near r
      map_region_table x near empty = refl
      map_region_table x near (block args os) = map_ops_table x near os

      map_ops_table : (x : ℕ) (near : Option ℕ) (os : OpsOf N T A) → ops_table is_table x near (map_ops f g h os) ≡ ops_table (λ n. is_table (f n)) x near os
      map_ops_table x near no_ops = refl
      map_ops_table x near (next o os) = λ i. first_of (map_table x near o i) (map_ops_table x near os i)

    pub map_table_of : (x : ℕ) (t : OpOf N T A) → table_of is_table x (map_tree f g h t) ≡ table_of (λ n. is_table (f n)) x t
    map_table_of x t = map_table x None t

  map_items : {X Y : Type 0} (k : X → Y) (xs : List X) → items_fit (map k xs) ≡ items_fit xs
  map_items k xs = ap (λ n. nat_le n most_items) (length-map xs k)

  pub map_op_fits : (t : OpOf N T A) → op_fits (map_tree f g h t) ≡ op_fits t
  map_op_fits (op x rs) = λ i.
      (items_fit x.operands && (map_items g x.results i && (map_items (map_entry f h) x.properties i && map_items (map_entry f h) x.attributes i)))
      && (nat_le ((map_region_count f g h) rs i) most_regions && (map_all_arguments f g h) rs i)

  pub map_with_id : (x : ℕ) (o : OpOf N T A) → with_id x (map_tree f g h o) ≡ map_tree f g h (with_id x o)
  map_with_id x (op k rs) = refl

  map_hold_none : (rs : RegionsOf N T A) → hold_none (map_regions f g h rs) ≡ hold_none rs
  map_hold_none no_regions = refl
  map_hold_none (region empty rs) = map_hold_none rs
  map_hold_none (region (block args no_ops) rs) = map_hold_none rs
  map_hold_none (region (block args (next o os)) rs) = refl

  pub map_holds_none : (o : Option (OpOf N T A)) → holds_none (option_map (map_tree f g h) o) ≡ holds_none o
  map_holds_none None = refl
  map_holds_none (Some (op k rs)) = map_hold_none rs

  pub map_unused : (x : ℕ) (t : OpOf N T A) → unused x (map_tree f g h t) ≡ unused x t
  map_unused x t = map_every f g h (λ o. leaves x (head o)) (λ o. leaves x (head o)) own t
    where
      own : (o : OpOf N T A) → leaves x (head (map_tree f g h o)) ≡ leaves x (head o)
      own (op k rs) = refl

  map_is_within : (y : ℕ) (o : Option (OpOf N T A)) → is_within y (option_map (map_tree f g h) o) ≡ is_within y o
  map_is_within y None = refl
  map_is_within y (Some o) = map_has_id y o

  pub map_leads_inside : (place : Place) (o : Option (OpOf N T A)) → leads_inside place (option_map (map_tree f g h) o) ≡ leads_inside place o
  map_leads_inside place o = λ i. map_is_within place.parent o i || go place.before i
    where
      go : (b : Option ℕ) → before_within b (option_map (map_tree f g h) o) ≡ before_within b o
      go None = refl
      go (Some b) = map_is_within b o

  map_levels : (o : Option (OpOf N T A)) → levels_in (option_map (map_tree f g h) o) ≡ levels_in o
  map_levels None = refl
  map_levels (Some o) = map_depth f g h o

  -- entries
  module _ (before : M → M → Bool) where
    abbrev first : N → N → Bool
    first = λ x y. before (f x) (f y)

    pub map_entry_at : (k : N) (es : List (N × A)) → entry_at before (f k) (map (map_entry f h) es) ≡ option_map h (entry_at (λ x y. before (f x) (f y)) k es)
    map_entry_at k [] = refl
    map_entry_at k (e ∷ es) =
        ap (cond (not (first k e.0) && not (first e.0 k)) (Some (h e.1))) (map_entry_at k es)
        ∙ elim (not (first k e.0) && not (first e.0 k)) as (λ b. cond b (Some (h e.1)) (option_map h (entry_at first k es)) ≡ option_map h (cond b (Some e.1) (entry_at first k es))) [ true ↦ refl | false ↦ refl ]

    pub map_part : (part : Part) (o : OpOf N T A) → part_of part (head (map_tree f g h o)) ≡ map (map_entry f h) (part_of part (head o))
    map_part Props (op x rs) = refl
    map_part Attrs (op x rs) = refl

    pub map_entry_in : (x : ℕ) (part : Part) (k : N) (t : OpOf N T A) → entry_in before x part (f k) (map_tree f g h t) ≡ option_map (option_map h) (entry_in (λ x y. before (f x) (f y)) x part k t)
    map_entry_in x part k t = ap (option_map (λ o. entry_at before (f k) (part_of part (head o)))) (map_find f g h x t) ∙ go (find x t)
      where
        go : (o : Option (OpOf N T A)) → option_map (λ o. entry_at before (f k) (part_of part (head o))) (option_map (map_tree f g h) o) ≡ option_map (option_map h) (option_map (λ o. entry_at first k (part_of part (head o))) o)
        go None = refl
        go (Some o) = ap Some (ap (entry_at before (f k)) (map_part part o) ∙ map_entry_at k (part_of part (head o)))

    map_rises_after : (k : N) (es : List (N × A)) → rises_after before (f k) (map (map_entry f h) es) ≡ rises_after (λ x y. before (f x) (f y)) k es
    map_rises_after k [] = refl
    map_rises_after k (e ∷ es) = ap (λ b. first k e.0 && b) (map_rises_after e.0 es)

    map_rises : (es : List (N × A)) → rises before (map (map_entry f h) es) ≡ rises (λ x y. before (f x) (f y)) es
    map_rises [] = refl
    map_rises (e ∷ es) = map_rises_after e.0 es

    pub map_dictionaries : (o : OpOf N T A) → dictionaries_rise before (map_tree f g h o) ≡ dictionaries_rise (λ x y. before (f x) (f y)) o
    map_dictionaries (op x rs) = λ i. map_rises x.properties i && map_rises x.attributes i

    map_entry_reason : (k : N) (a : Option A) (es : List (N × A)) → entry_reason before (f k) (option_map h a) (map (map_entry f h) es) ≡ entry_reason (λ x y. before (f x) (f y)) k a es
    map_entry_reason k None es = ap (λ b. unless b NoSuchKey None) (ap is_some (map_entry_at k es) ∙ some_map h (entry_at first k es))
    map_entry_reason k (Some a) es = λ i. unless (nat_lt (length-map es (map_entry f h) i) most_items || (ap is_some (map_entry_at k es) ∙ some_map h (entry_at first k es)) i) Full None

    pub map_set_entry_reason : (x : ℕ) (part : Part) (k : N) (a : Option A) (t : OpOf N T A) → set_entry_reason before x part (f k) (option_map h a) (map_tree f g h t) ≡ set_entry_reason (λ x y. before (f x) (f y)) x part k a t
    map_set_entry_reason x part k a t = ap (found_entry_reason before part (f k) (option_map h a)) (map_find f g h x t) ∙ go (find x t)
      where
        go : (o : Option (OpOf N T A)) → found_entry_reason before part (f k) (option_map h a) (option_map (map_tree f g h) o) ≡ found_entry_reason first part k a o
        go None = refl
        go (Some o) = ap (entry_reason before (f k) (option_map h a)) (map_part part o) ∙ map_entry_reason k a (part_of part (head o))

  -- the reasons against an edit
  module _ (isolated : M → Bool) where
    abbrev alone : N → Bool
    alone = λ n. isolated (f n)

    pub map_set_operand_reason : (x k : ℕ) (v : Value) (t : OpOf N T A) → set_operand_reason isolated x k v (map_tree f g h t) ≡ set_operand_reason (λ n. isolated (f n)) x k v t
    map_set_operand_reason x k v t = (λ i. operand_reason k (value i) (map_find f g h x t i)) ∙ go (find x t)
      where
        value : value_reason isolated x v (map_tree f g h t) ≡ value_reason alone x v t
        value = λ i. cond (map_has_value v t i) (cond (map_visible f g h isolated t x v i) None (Some NotVisible)) (Some NoSuchValue)

        go : (o : Option (OpOf N T A)) → operand_reason k (value_reason alone x v t) (option_map (map_tree f g h) o) ≡ operand_reason k (value_reason alone x v t) o
        go None = refl
        go (Some (op y rs)) = refl

    pub map_put_reason : (place : Place) (o : OpOf N T A) (free : ℕ) (t : OpOf N T A) → put_reason isolated place (map_tree f g h o) free (map_tree f g h t) ≡ put_reason (λ n. isolated (f n)) place o free t
    map_put_reason place o free t = λ i.
        unless (map_has_id place.parent t i) NoSuchOp
        (unless (map_has_place place t i) NoSuchIndex
        (unless (nat_lt (map_op_count t i) most_ops && map_op_fits o i) Full
        (unless (nat_lt free most_next) IdsExhausted
        (unless (fits_around 0 (map_around place.parent t i)) TooDeepHere
        (unless (values i) NoSuchValue (unless (sights i) NotVisible None))))))
      where
        values : list_all (λ v. has_value v (map_tree f g h t)) (head (map_tree f g h o)).operands ≡ list_all (λ v. has_value v t) (head o).operands
        values = ap (list_all (λ v. has_value v (map_tree f g h t))) (same_operands o) ∙ all_alike (λ v. has_value v (map_tree f g h t)) (λ v. has_value v t) (λ v. map_has_value v t) (head o).operands

        after : put place (with_id free (map_tree f g h o)) (map_tree f g h t) ≡ map_tree f g h (put place (with_id free o) t)
        after = ap (λ u. put place u (map_tree f g h t)) (map_with_id free o) ∙ map_put f g h place (with_id free o) t

        sights : list_all (visible isolated (put place (with_id free (map_tree f g h o)) (map_tree f g h t)) free) (head (map_tree f g h o)).operands ≡ list_all (visible alone (put place (with_id free o) t) free) (head o).operands
        sights =
            (λ i. list_all (visible isolated (after i) free) (same_operands o i))
            ∙ all_alike (visible isolated (map_tree f g h (put place (with_id free o) t)) free) (visible alone (put place (with_id free o) t) free) (λ v. map_visible f g h isolated (put place (with_id free o) t) free v) (head o).operands

    pub map_shift_reason : (is_table : M → Bool) (x : ℕ) (place : Place) (t : OpOf N T A) → shift_reason isolated is_table x place (map_tree f g h t) ≡ shift_reason (λ n. isolated (f n)) (λ n. is_table (f n)) x place t
    map_shift_reason is_table x place t = λ i.
        unless (map_has_id x t i && map_has_id place.parent t i) NoSuchOp
        (unless (not (eqb (same_id t i) x)) IsRoot
        (unless (map_has_place place t i) NoSuchIndex
        (unless (not (inside i)) IntoItself
        (unless (same_table (map_table_of is_table x t i) (tables i)) OtherTable
        (unless (fits_around (levels i) (map_around place.parent t i)) TooDeepHere
        (unless (sights i) NotVisible None))))))
      where
        inside : leads_inside place (find x (map_tree f g h t)) ≡ leads_inside place (find x t)
        inside = ap (leads_inside place) (map_find f g h x t) ∙ map_leads_inside place (find x t)

        tables : table_of is_table x (shifted x place (map_tree f g h t)) ≡ table_of (λ n. is_table (f n)) x (shifted x place t)
        tables = ap (table_of is_table x) (map_shifted f g h x place t) ∙ map_table_of is_table x (shifted x place t)

        levels : levels_in (find x (map_tree f g h t)) ≡ levels_in (find x t)
        levels = ap levels_in (map_find f g h x t) ∙ map_levels (find x t)

        sights : operands_visible isolated (shifted x place (map_tree f g h t)) ≡ operands_visible alone (shifted x place t)
        sights = ap (operands_visible isolated) (map_shifted f g h x place t) ∙ map_operands_visible f g h isolated (shifted x place t)

  pub map_take_reason : (x : ℕ) (t : OpOf N T A) → take_reason x (map_tree f g h t) ≡ take_reason x t
  map_take_reason x t = λ i.
      unless (map_has_id x t i) NoSuchOp (unless (not (eqb (same_id t i) x)) IsRoot (unless ((ap holds_none (map_find f g h x t) ∙ map_holds_none (find x t)) i) NotEmpty (unless (map_unused x t i) HasUses None)))

  -- the preconditions of an undo
  pub from_retract : (x : ℕ) (fresh : Bool) (m : ModuleOf N T A) → MayRetract x fresh (record { tree = map_tree f g h m.tree; next = m.next }) → MayRetract x fresh m
  from_retract x fresh m r = record {
    there = sym (map_has_id x m.tree) ∙ r.there;
    inner = ap (λ z. eqb z x) (sym (same_id m.tree)) ∙ r.inner;
    empty = sym (ap holds_none (map_find f g h x m.tree) ∙ map_holds_none (find x m.tree)) ∙ r.empty;
    unused = sym (map_unused x m.tree) ∙ r.unused;
    newest = r.newest;
  }

  pub from_restore : (x : ℕ) (place : Place) (fresh : Bool) (o : OpOf N T A) (m : ModuleOf N T A) → MayRestore x place fresh (map_tree f g h o) (record { tree = map_tree f g h m.tree; next = m.next }) → MayRestore x place fresh o m
  from_restore x place fresh o m r = record {
    point = sym (map_has_place place m.tree) ∙ r.point;
    values = sym (ap (list_all (λ v. has_value v (map_tree f g h m.tree))) (same_operands o) ∙ all_alike (λ v. has_value v (map_tree f g h m.tree)) (λ v. has_value v m.tree) (λ v. map_has_value v m.tree) (head o).operands) ∙ r.values;
    newest = r.newest;
    headroom = r.headroom;
    below = r.below;
  }
