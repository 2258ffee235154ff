-- Effects that are only allocations and reads, along a walk.
use Rattle.std.proofs.Common.{◌≡◌, refl, ap, sym, ◌∙◌, ℕ, zero, suc, ◌+◌, ◌*◌, ◌<◌, ◌≤◌, if◌then◌else◌, Bool, true, false, ◌&&◌, ◌||◌, not, Option, Some, None, option_map, arith}
use Rattle.std.specs.Prelude.{option_and_then}
use Rattle.ir_event.specs.trees.Tree.{OpOf, op, OpsOf, next, RegionsOf, no_regions, region, RegionOf, empty, block, head, regions, region_count}
use Rattle.ir_event.specs.trees.Ids.{HasDistinctIds, find}
use Rattle.ir_event.specs.trees.Places.{first_id}
use Rattle.ir_event.specs.tree_laws.Reads.{ops_in, next_of, first_at}
use Rattle.ir_event.specs.tree_laws.Values.{region_at}
use Rattle.op_registry.specs.declared.own.Own.{Own}
use Rattle.effects.specs.declared.effect_kinds.EffectKinds.{EffectKinds}
use Rattle.effects.specs.Dead.{may_go}
use Rattle.effects.specs.Effects.{effects, regions_effects, region_effects, ops_effects, union, is_recursive, own_kinds}
use Rattle.effects.specs.Idle.{idle_in, idle_at, idle_ops, idle_regions}
use Rattle.effects.specs.Within.{some_ops, ops_from, list_at, regions_of, regions_from, list_size, op_size}
use Rattle.effects.proofs.Down.{onward_there, next_onward, first_onward, first_starts, next_starts, starts_with, size_next, some_size, list_smaller}

-- the union of two sets
both_go : (a b : EffectKinds) → may_go (union a b) ≡ (may_go a && may_go b)
both_go a b = go a.unknown a.free a.write b.unknown b.free b.write
  where
    go : (u f w v g x : Bool) → not ((u || v) || ((f || g) || (w || x))) ≡ (not (u || (f || w)) && not (v || (g || x)))
    go true f w v g x = refl
    go false true w true g x = refl
    go false true w false g x = refl
    go false false true true g x = refl
    go false false true false true x = refl
    go false false true false false x = refl
    go false false false v g x = refl

module _ {N T A : Type 0} (own : N → Own) where
  -- regions in order
  from_start : (rs : RegionsOf N T A) → regions_from 0 rs ≡ rs
  from_start no_regions = refl
  from_start (region g rs) = refl

  one_region : (g : RegionOf N T A) → region_effects own g ≡ ops_effects own (some_ops (ops_in g))
  one_region empty = refl
  one_region (block args os) = refl

  pub region_on : (k : ℕ) (rs : RegionsOf N T A) → idle_regions own (regions_from k rs) ≡ (idle_ops own (some_ops (option_and_then ops_in (region_at k rs))) && idle_regions own (regions_from (k + 1) rs))
  region_on k no_regions = refl
  region_on zero (region g rs) =
      both_go (region_effects own g) (regions_effects own rs)
      ∙ (λ i. may_go (one_region g i) && may_go (regions_effects own (sym (from_start rs) i)))
  region_on (suc k) (region g rs) =
      let one : suc (k + 1) ≡ suc k + 1 = omega arith in
      region_on k rs ∙ ap (λ j. idle_ops own (some_ops (option_and_then ops_in (region_at k rs))) && idle_regions own (regions_from j (region g rs))) one

  pub regions_end : (k : ℕ) (rs : RegionsOf N T A) → region_count rs ≤ k → idle_regions own (regions_from k rs) ≡ true
  regions_end k no_regions h = refl
  regions_end zero (region g rs) h = absurd (omega arith)
  regions_end (suc k) (region g rs) h = regions_end k rs (omega arith)

  pub own_idle : (o : OpOf N T A) (w : Own) → w ≡ own (head o).name → is_recursive w ≡ false → may_go (own_kinds w) ≡ may_go (effects own o)
  own_idle (op h rs) w e f = sym (ap (λ v. may_go (if is_recursive v then regions_effects own rs else own_kinds v)) (sym e) ∙ ap (λ b. may_go (if b then regions_effects own rs else own_kinds w)) f)

  pub inner_idle : (o : OpOf N T A) (w : Own) → w ≡ own (head o).name → is_recursive w ≡ true → idle_regions own (regions_from 0 (regions o)) ≡ may_go (effects own o)
  inner_idle (op h rs) w e f =
      ap (λ r. may_go (regions_effects own r)) (from_start rs)
      ∙ sym (ap (λ v. may_go (if is_recursive v then regions_effects own rs else own_kinds v)) (sym e) ∙ ap (λ b. may_go (if b then regions_effects own rs else own_kinds w)) f)

  -- an operation with its subtree
  module _ (x : ℕ) (t : OpOf N T A) where
    pub none_idle : (f : OpOf N T A → Own) → None ≡ option_map f (find x t) → true ≡ idle_at own x t
    none_idle f e = go (find x t) e
      where
        go : (o : Option (OpOf N T A)) → None ≡ option_map f o → true ≡ idle_in own o
        go None k = refl
        go (Some o) k = absurd cc

    pub own_only : (w : Own) (r b : Bool) → Some w ≡ option_map (λ o. own (head o).name) (find x t) → r ≡ is_recursive w → r ≡ false → b ≡ may_go (own_kinds w) → b ≡ idle_at own x t
    own_only w r b e f g k = go (find x t) e
      where
        go : (o : Option (OpOf N T A)) → Some w ≡ option_map (λ o. own (head o).name) o → b ≡ idle_in own o
        go None i = absurd cc
        go (Some o) i = let one : w ≡ own (head o).name = cc in k ∙ own_idle o w one (sym f ∙ g)

    pub regions_start : (w : Own) (r : Bool) → Some w ≡ option_map (λ o. own (head o).name) (find x t) → r ≡ is_recursive w → r ≡ true → idle_regions own (regions_from 0 (regions_of (find x t))) ≡ idle_at own x t
    regions_start w r e f g = go (find x t) e
      where
        go : (o : Option (OpOf N T A)) → Some w ≡ option_map (λ o. own (head o).name) o → idle_regions own (regions_from 0 (regions_of o)) ≡ idle_in own o
        go None i = absurd cc
        go (Some o) i = let one : w ≡ own (head o).name = cc in inner_idle o w one (sym f ∙ g)

    list_is : (k : ℕ) → list_at x k t ≡ some_ops (option_and_then ops_in (region_at k (regions_of (find x t))))
    list_is k = go (find x t)
      where
        go : (o : Option (OpOf N T A)) → some_ops (option_and_then (λ o. option_and_then ops_in (region_at k (regions o))) o) ≡ some_ops (option_and_then ops_in (region_at k (regions_of o)))
        go None = refl
        go (Some o) = refl

    one_on : (k : ℕ) → idle_regions own (regions_from k (regions_of (find x t))) ≡ (idle_ops own (list_at x k t) && idle_regions own (regions_from (k + 1) (regions_of (find x t))))
    one_on k = region_on k (regions_of (find x t)) ∙ ap (λ os. idle_ops own os && idle_regions own (regions_from (k + 1) (regions_of (find x t)))) (sym (list_is k))

    pub region_stop : (k : ℕ) (r whole : Bool) → r ≡ idle_ops own (list_at x k t) → r ≡ false → idle_regions own (regions_from k (regions_of (find x t))) ≡ whole → false ≡ whole
    region_stop k r whole e f w = sym (one_on k ∙ ap (λ b. b && idle_regions own (regions_from (k + 1) (regions_of (find x t)))) (sym e ∙ f)) ∙ w

    pub region_go : (k : ℕ) (r whole : Bool) → r ≡ idle_ops own (list_at x k t) → r ≡ true → idle_regions own (regions_from k (regions_of (find x t))) ≡ whole → idle_regions own (regions_from (k + 1) (regions_of (find x t))) ≡ whole
    region_go k r whole e f w = sym (one_on k ∙ ap (λ b. b && idle_regions own (regions_from (k + 1) (regions_of (find x t)))) (sym e ∙ f)) ∙ w

    pub list_falls : HasDistinctIds t → (f : OpOf N T A → Own) (w : Own) (k : ℕ) → Some w ≡ option_map f (find x t) → 2 * list_size (list_at x k t) + 1 < 2 * op_size (find x t)
    list_falls d f w k e = go (find x t) refl e
      where
        go : (o : Option (OpOf N T A)) → find x t ≡ o → Some w ≡ option_map f o → 2 * list_size (list_at x k t) + 1 < 2 * op_size (find x t)
        go None i j = absurd cc
        go (Some o) i j = let l = list_smaller t d x k o i in omega (arith, l)

  -- a list, operation by operation
  module _ (t : OpOf N T A) (d : HasDistinctIds t) where
    idle_on : (x : ℕ) (o : OpOf N T A) (os : OpsOf N T A) → ops_from (Some x) t ≡ next o os → idle_ops own (ops_from (Some x) t) ≡ (idle_at own x t && idle_ops own (ops_from (next_of x t) t))
    idle_on x o os e =
        ap (idle_ops own) e
        ∙ both_go (effects own o) (ops_effects own os)
        ∙ (λ i. idle_in own (sym (onward_there t d x o os e) i) && idle_ops own (sym (next_onward t d x o os e) i))

    abbrev pub Walking : ℕ → ℕ → Option ℕ → Type 0
    Walking p r a = (idle_ops own (ops_from a t) ≡ idle_ops own (list_at p r t)) × (first_id (ops_from a t) ≡ a) × (list_size (ops_from a t) ≤ list_size (list_at p r t))

    pub walk_start : (p r : ℕ) (a : Option ℕ) → a ≡ first_at p r t → Walking p r a
    walk_start p r a e =
        let all : ops_from a t ≡ list_at p r t = ap (λ z. ops_from z t) e ∙ first_onward t d p r in
        let size = ap list_size all in
        (ap (idle_ops own) all, ap first_id all ∙ first_starts t d p r ∙ sym e, omega (arith, size))

    -- the walk at an operation
    module _ (p r x : ℕ) (a : Option ℕ) (is : a ≡ Some x) (w : Walking p r a) where
      here : (o : OpOf N T A) × (os : OpsOf N T A) × (ops_from (Some x) t ≡ next o os)
      here = starts_with t d x (ops_from (Some x) t) (ap (λ z. first_id (ops_from z t)) (sym is) ∙ w.1 ∙ is)

      pub inner_falls : 2 * op_size (find x t) < 2 * list_size (list_at p r t) + 1
      inner_falls =
          let there = ap op_size (onward_there t d x here.0 here.1 here.2) in
          let size = ap list_size (ap (λ z. ops_from z t) is ∙ here.2) in
          let sum = size_next t d here.0 here.1 in
          let most = w.2 in
          omega (arith, there, size, sum, most)

      pub walk_smaller : (b : Option ℕ) → b ≡ next_of x t → list_size (ops_from b t) < list_size (ops_from a t)
      walk_smaller b e =
          let left = ap list_size (ap (λ z. ops_from z t) e ∙ next_onward t d x here.0 here.1 here.2) in
          let size = ap list_size (ap (λ z. ops_from z t) is ∙ here.2) in
          let sum = size_next t d here.0 here.1 in
          let some = some_size t d here.0 in
          omega (arith, left, size, sum, some)

      whole : idle_ops own (list_at p r t) ≡ (idle_at own x t && idle_ops own (ops_from (next_of x t) t))
      whole = sym w.0 ∙ ap (λ z. idle_ops own (ops_from z t)) is ∙ idle_on x here.0 here.1 here.2

      pub walk_stop : (b : Bool) → b ≡ idle_at own x t → b ≡ false → false ≡ idle_ops own (list_at p r t)
      walk_stop b e f = sym (whole ∙ ap (λ c. c && idle_ops own (ops_from (next_of x t) t)) (sym e ∙ f))

      pub walk_on : (b : Bool) (z : Option ℕ) → b ≡ idle_at own x t → b ≡ true → z ≡ next_of x t → Walking p r z
      walk_on b z e f g =
          let less = walk_smaller z g in
          let most = w.2 in (
            ap (λ y. idle_ops own (ops_from y t)) g ∙ sym (whole ∙ ap (λ c. c && idle_ops own (ops_from (next_of x t) t)) (sym e ∙ f)),
            ap (λ y. first_id (ops_from y t)) g ∙ ap first_id (next_onward t d x here.0 here.1 here.2) ∙ next_starts t d x here.0 here.1 here.2 ∙ sym g,
            omega (arith, less, most),
          )
