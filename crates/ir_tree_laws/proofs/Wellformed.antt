-- A tree is well-formed if each of its operations, with its path, is.
use Rattle.std.proofs.Common.{◌≡◌, refl, ap, sym, ◌∙◌, subst, ℕ, ◌+◌, ◌<◌, ◌≤◌, Bool, true, false, cond, not, ◌&&◌, ◌||◌, eqb, List, [], ◌∷◌, length, map, filter, inl, inr, arith}
use Rattle.std.specs.Prelude.{All, nat_le}
use Rattle.std.specs.List.{list_any, list_all, IsDistinct, AllByRecursion}
use Rattle.std.proofs.lemmas.Bool.{leb-true, le-leb}
use Rattle.std.proofs.lemmas.Cmp.{nat_eq_equiv}
use Rattle.std.proofs.lemmas.List.{length-map}
use Rattle.std.proofs.lemmas.List.Elements.{recursion_from_All, All-from_recursion}
use Rattle.std.proofs.lemmas.Map.Made.{length-le_from_is_member}
use Rattle.ir_tree.specs.Tree.{HeadOf, OpOf, op, RegionsOf, no_regions, region, empty, block, OpsOf, head, region_count}
use Rattle.ir_tree.specs.Ids.{ids, op_count}
use Rattle.ir_tree.specs.Limits.{depth, every, op_fits, head_fits, items_fit, all_arguments_pass, most_ops, most_around, most_regions}
use Rattle.ir_tree.specs.Places.{each_list, regions_each_list, without}
use Rattle.ir_tree.specs.Frames.{owner_of}
use Rattle.ir_tree.specs.WellFormed.{ModuleOf, IsValidTree, IsWellFormed}
use Rattle.ir_tree.proofs.Left.{left_distinct}
use Rattle.ir_tree_laws.specs.Stands.{StepOf, OpWithPathOf, op_with_path_id, stands, greatest, dominated_by, is_gone, left_stand, left_step, dropping}
use Rattle.ir_tree_laws.specs.Members.{In}
use Rattle.ir_tree_laws.proofs.Listed.{all_each, each_all, both, both_hold, not_false}
use Rattle.ir_tree_laws.proofs.Readings.{stands_ids, stands_every, stands_depth}
use Rattle.ir_tree_laws.proofs.DominatedBy.{stands_operands, all_same}
use Rattle.ir_tree_laws.proofs.Without.{without_stands, member_left, left_dominated_by_same, same_head, keep}

pub greatest_within : {X : Type 0} (f : X → ℕ) (n : ℕ) (xs : List X) → ((x : X) → In x xs → f x ≤ n) → greatest f xs ≤ n
greatest_within f n [] h = omega arith
greatest_within f n (x ∷ xs) h = let a = h x (inl refl) in let b = greatest_within f n xs (λ y k. h y (inr k)) in omega (arith, a, b)

pub within_greatest : {X : Type 0} (f : X → ℕ) (xs : List X) (x : X) → In x xs → f x ≤ greatest f xs
within_greatest f [] x h = absurd h
within_greatest f (y ∷ xs) x (inl e) = let k = ap f e in omega (arith, k)
within_greatest f (y ∷ xs) x (inr h) = let k = within_greatest f xs x h in omega (arith, k)

pub filter_shorter : {X : Type 0} (p : X → Bool) (xs : List X) → length (filter p xs) ≤ length xs
filter_shorter p [] = omega arith
filter_shorter p (x ∷ xs) =
    let k = filter_shorter p xs in
    elim (p x) as (λ b. length (cond b (x ∷ filter p xs) (filter p xs)) ≤ length (x ∷ xs)) [ true ↦ omega (arith, k) | false ↦ omega (arith, k) ]

-- a list of distinct ids that are all in another list is at most as long
pub no_more : (xs ys : List ℕ) → IsDistinct eqb xs → ((y : ℕ) → list_any (λ z. eqb z y) xs ≡ true → list_any (λ z. eqb z y) ys ≡ true) → length xs ≤ length ys
no_more xs ys d f = length-le_from_is_member nat_eq_equiv xs ys d (λ q h. sym (flips q ys) ∙ f q (flips q xs ∙ h))
  where
    flips : (q : ℕ) (xs : List ℕ) → list_any (λ z. eqb z q) xs ≡ list_any (eqb q) xs
    flips q [] = refl
    flips q (x ∷ xs) = λ i. nat_eq_equiv.symm x q i || flips q xs i

each_all_of : {X : Type 0} (f : X → ℕ) (P : ℕ → Type 0) (ss : List X) → ((s : X) → In s ss → P (f s)) → AllByRecursion P (map f ss)
each_all_of f P [] h = tt
each_all_of f P (s ∷ ss) h = (h s (inl refl), each_all_of f P ss (λ u k. h u (inr k)))

all_of_each : {X : Type 0} (f : X → ℕ) (P : ℕ → Type 0) (ss : List X) → AllByRecursion P (map f ss) → (s : X) → In s ss → P (f s)
all_of_each f P [] a s h = absurd h
all_of_each f P (u ∷ ss) a s (inl e) = subst (λ z. P (f z)) (sym e) a.0
all_of_each f P (u ∷ ss) a s (inr h) = all_of_each f P ss a.1 s h

module _ {N T A : Type 0} where
  -- an edit of lists keeps the counts of an operation's head
  regions_kept : (f : ℕ → ℕ → OpsOf N T A → OpsOf N T A) (p r : ℕ) (rs : RegionsOf N T A) → region_count (regions_each_list f p r rs) ≡ region_count rs
  regions_kept f p r no_regions = refl
  regions_kept f p r (region g rs) = ap (λ n. n + 1) (regions_kept f p (r + 1) rs)

  arguments_kept : (f : ℕ → ℕ → OpsOf N T A → OpsOf N T A) (p r : ℕ) (rs : RegionsOf N T A) → all_arguments_pass items_fit (regions_each_list f p r rs) ≡ all_arguments_pass items_fit rs
  arguments_kept f p r no_regions = refl
  arguments_kept f p r (region empty rs) = arguments_kept f p (r + 1) rs
  arguments_kept f p r (region (block args os) rs) = ap (λ b. items_fit args && b) (arguments_kept f p (r + 1) rs)

  pub list_fits : (f : ℕ → ℕ → OpsOf N T A → OpsOf N T A) (o : OpOf N T A) → op_fits (each_list f o) ≡ op_fits o
  list_fits f (op h rs) = λ i. head_fits h && (nat_le (regions_kept f h.id 0 rs i) most_regions && arguments_kept f h.id 0 rs i)

  -- ids that pass a test
  pub ids_below : (n : ℕ) (t : OpOf N T A) → All (λ y. y < n) (ids t) → (s : OpWithPathOf N T A) → In s (stands [] t) → op_with_path_id s < n
  ids_below n t a s h = all_of_each (λ (u : OpWithPathOf N T A). op_with_path_id u) (λ y. y < n) (stands [] t) (subst (AllByRecursion (λ y. y < n)) (sym (stands_ids [] t)) (recursion_from_All (λ y. y < n) (ids t) a)) s h

  pub below_ids : (n : ℕ) (t : OpOf N T A) → ((s : OpWithPathOf N T A) → In s (stands [] t) → op_with_path_id s < n) → All (λ y. y < n) (ids t)
  below_ids n t f = All-from_recursion (λ y. y < n) (ids t) (subst (AllByRecursion (λ y. y < n)) (stands_ids [] t) (each_all_of (λ (u : OpWithPathOf N T A). op_with_path_id u) (λ y. y < n) (stands [] t) f))

  module _ (isolated : N → Bool) where
    pub record WellformedEach (t : OpOf N T A) : Type 0 where
      pub dominated_by_own : (s : OpWithPathOf N T A) → In s (stands [] t) → list_all (dominated_by isolated s.path) (head s.here).operands ≡ true
      pub shallow : (s : OpWithPathOf N T A) → In s (stands [] t) → length s.path ≤ most_around
      pub count : op_count t ≤ most_ops
      pub fits : (s : OpWithPathOf N T A) → In s (stands [] t) → op_fits s.here ≡ true

    pub depth_within : (t : OpOf N T A) (n : ℕ) → ((s : OpWithPathOf N T A) → In s (stands [] t) → length s.path ≤ n) → depth t ≤ n
    depth_within t n f =
        let g = greatest_within (λ (s : OpWithPathOf N T A). length s.path) n (stands [] t) f in
        let e = stands_depth [] t in
        omega (arith, g, e)

    pub within_depth : (path : List (StepOf N T A)) (t : OpOf N T A) (s : OpWithPathOf N T A) → In s (stands path t) → length s.path ≤ length path + depth t
    within_depth path t s h =
        let g = within_greatest (λ (s : OpWithPathOf N T A). length s.path) (stands path t) s h in
        let e = stands_depth path t in
        omega (arith, g, e)

    pub from_wellformed : (t : OpOf N T A) → IsValidTree isolated t → WellformedEach t
    from_wellformed t f =
        let c = both (nat_le (op_count t) most_ops) (every op_fits t) f.counts in
        record {
          dominated_by_own = all_each (λ (s : OpWithPathOf N T A). list_all (dominated_by isolated s.path) (head s.here).operands) (stands [] t) (sym (stands_operands isolated t) ∙ f.visible);
          shallow = λ s h. let w = within_depth [] t s h in let k = f.shallow in omega (arith, w, k);
          count = leb-true (op_count t) most_ops c.0;
          fits = all_each (λ (s : OpWithPathOf N T A). op_fits s.here) (stands [] t) (stands_every op_fits [] t ∙ c.1);
        }

    pub to_wellformed : (t : OpOf N T A) → WellformedEach t → IsValidTree isolated t
    to_wellformed t f = record {
      visible = stands_operands isolated t ∙ each_all (λ (s : OpWithPathOf N T A). list_all (dominated_by isolated s.path) (head s.here).operands) (stands [] t) f.dominated_by_own;
      shallow = depth_within t most_around f.shallow;
      counts = both_hold (nat_le (op_count t) most_ops) (every op_fits t) (le-leb (op_count t) most_ops f.count) (sym (stands_every op_fits [] t) ∙ each_all (λ (s : OpWithPathOf N T A). op_fits s.here) (stands [] t) f.fits);
    }

    -- a tree without an operation whose results no other operation uses
    module _ (x : ℕ) where
      abbrev pub Spared : OpOf N T A → Type 0
      Spared t = (s : OpWithPathOf N T A) → In s (stands [] t) → is_gone x s ≡ false → list_all (λ v. not (eqb (owner_of v).0 x)) (head s.here).operands ≡ true

      left_each : (t : OpOf N T A) → WellformedEach t → Spared t → WellformedEach (without x t)
      left_each t f spared = record {
        dominated_by_own = λ u h. let m = member_left x t u h in
            subst (λ (z : OpWithPathOf N T A). list_all (dominated_by isolated z.path) (head z.here).operands ≡ true) (sym m.3)
            (ap (λ (h : HeadOf N T A). list_all (dominated_by isolated (map (left_step x) m.0.path)) h.operands) (same_head x (dropping x) m.0.here)
            ∙ all_same _ _ (head m.0.here).operands (λ v k. left_dominated_by_same x isolated v (not_false (eqb (owner_of v).0 x) (all_each (λ v. not (eqb (owner_of v).0 x)) (head m.0.here).operands (spared m.0 m.1 m.2) v k)) m.0.path)
            ∙ f.dominated_by_own m.0 m.1);
        shallow = λ u h. let m = member_left x t u h in
            let a = f.shallow m.0 m.1 in
            let b = ap (λ (z : OpWithPathOf N T A). length z.path) m.3 in
            let c = length-map m.0.path (left_step x) in
            omega (arith, a, b, c);
        count = (
            let a = ap length (sym (stands_ids [] (without x t)) ∙ ap (map (λ (s : OpWithPathOf N T A). op_with_path_id s)) (without_stands x t)) in
            let b = length-map (map (left_stand x) (filter (keep x) (stands [] t))) (λ (s : OpWithPathOf N T A). op_with_path_id s) in
            let c = length-map (filter (keep x) (stands [] t)) (left_stand x) in
            let d = filter_shorter (keep x) (stands [] t) in
            let e = ap length (stands_ids [] t) in
            let g = length-map (stands [] t) (λ (s : OpWithPathOf N T A). op_with_path_id s) in
            let k = f.count in
            omega (arith, a, b, c, d, e, g, k)
            );
        fits = λ u h. let m = member_left x t u h in ap (λ (z : OpWithPathOf N T A). op_fits z.here) m.3 ∙ list_fits (dropping x) m.0.here ∙ f.fits m.0 m.1;
      }

      pub left_wellformed : (t : OpOf N T A) → IsValidTree isolated t → Spared t → IsValidTree isolated (without x t)
      left_wellformed t f spared = to_wellformed (without x t) (left_each t (from_wellformed t f) spared)

      pub left_well_formed : (m : ModuleOf N T A) → IsWellFormed isolated m → Spared m.tree → IsWellFormed isolated (record m { tree = without x m.tree })
      left_well_formed m w spared = record {
        distinct = left_distinct x m.tree w.distinct;
        below = below_ids m.next (without x m.tree) (λ u h.
            let k = member_left x m.tree u h in
            let same : op_with_path_id u ≡ op_with_path_id k.0 = ap (λ (z : OpWithPathOf N T A). op_with_path_id z) k.3 ∙ ap (λ (h : HeadOf N T A). h.id) (same_head x (dropping x) k.0.here) in
            let lt = ids_below m.next m.tree w.below k.0 k.1 in
            omega (arith, same, lt));
        next = w.next;
        wellformed = left_wellformed m.tree w.wellformed spared;
      }

  pub all_depth : (t : OpOf N T A) → greatest (λ (s : OpWithPathOf N T A). length s.path) (stands [] t) ≡ depth t
  all_depth t = let e = stands_depth [] t in omega (arith, e)
