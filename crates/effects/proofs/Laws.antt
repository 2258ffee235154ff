-- A table that is right at each operation has the effects of each operation.
use Rattle.std.proofs.Common.{◌≡◌, ℕ, ◌+◌, List, [], ◌∷◌, ◌++◌, Bool, true, false, Option, Some, None, inl, inr, refl, sym, ap, ◌∙◌, arith, cond, eqb, ◌&&◌, ◌||◌}
use Rattle.std.specs.Prelude.{nat_lt}
use Rattle.std.proofs.lemmas.Bool.{eq-eqb, cases_eq, or_parts}
use Rattle.std.proofs.lemmas.Map.Keys.{IsDistinct-tail}
use Rattle.std.specs.List.{IsDistinct, AllByRecursion, list_any}
use Rattle.ir_event.specs.trees.Tree.{HeadOf, OpOf, op, RegionsOf, no_regions, region, RegionOf, empty, block, OpsOf, no_ops, next}
use Rattle.ir_event.specs.trees.Ids.{ids, regions_ids, region_ids, ops_ids}
use Rattle.ir_event.proofs.of_trees.Moves.{Absent, absent_parts}
use Rattle.ir_event.proofs.of_trees.Returns.{Present, halves, differ, absent_first}
use Rattle.effects.specs.declared.effect_kinds.EffectKinds.{EffectKinds}
use Rattle.op_registry.specs.declared.own.Own.{Own}
use Rattle.effects.specs.Effects.{Effect, unknown, allocate, free, read, write, has, union, effects_by, effects, regions_effects, region_effects, ops_effects, own_kinds, is_recursive}
use Rattle.effects.specs.Points.{Point, points, regions_points, region_points, ops_points, one_if, is_in, weight, Childless, given}
use Rattle.effects.proofs.Tables.{has_none, weight_childless}
use Rattle.effects.proofs.Spotted.{present_left, present_right, flipped, weight_joined, childless_op, childless_regions, childless_region, childless_ops}
use Rattle.ir_event.proofs.of_tree_laws.Listed.{or_right}

-- each operation of a tree with its effects, in pre-order
abbrev mutual
  pub listed : {N T A : Type 0} → (N → Own) → OpOf N T A → List (ℕ × EffectKinds)
  listed own (op h rs) = (h.id, effects own (op h rs)) ∷ regions_listed own rs

  pub regions_listed : {N T A : Type 0} → (N → Own) → RegionsOf N T A → List (ℕ × EffectKinds)
  regions_listed own no_regions = []
  regions_listed own (region r rs) = region_listed own r ++ regions_listed own rs

  pub region_listed : {N T A : Type 0} → (N → Own) → RegionOf N T A → List (ℕ × EffectKinds)
  region_listed own empty = []
  region_listed own (block args os) = ops_listed own os

  pub ops_listed : {N T A : Type 0} → (N → Own) → OpsOf N T A → List (ℕ × EffectKinds)
  ops_listed own no_ops = []
  ops_listed own (next o os) = listed own o ++ ops_listed own os

pub has_union : (e : Effect) (a b : EffectKinds) → has e (union a b) ≡ (has e a || has e b)
has_union unknown a b = refl
has_union allocate a b = refl
has_union free a b = refl
has_union read a b = refl
has_union write a b = refl

given_effects : (e : Effect) (o : Own) (w : ℕ) (s : EffectKinds) → nat_lt 0 w ≡ has e s → given e o w ≡ has e (effects_by o s)
given_effects e o w s h = elim (is_recursive o) as (λ b. cond b (nat_lt 0 w) (has e (own_kinds o)) ≡ has e (cond b s (own_kinds o))) [ true ↦ h | false ↦ refl ]

pub some_of_sum : (m n : ℕ) → nat_lt 0 (m + n) ≡ (nat_lt 0 m || nat_lt 0 n)
some_of_sum m n = elim (cases_eq m 0) [
  | inl q ↦ let a : nat_lt 0 m ≡ false = ap (nat_lt 0) q in let b : m + n ≡ n = omega (arith, q) in ap (nat_lt 0) b ∙ sym (ap (λ c. c || nat_lt 0 n) a)
  | inr q ↦ let a : nat_lt 0 m ≡ true = grind (arith, q) in let b : nat_lt 0 (m + n) ≡ true = grind (arith, q) in b ∙ sym (ap (λ c. c || nat_lt 0 n) a)
]

pub one_counts : (b : Bool) → nat_lt 0 (one_if b) ≡ b
one_counts true = refl
one_counts false = refl

pub all_joined : {X : Type 0} (P : X → Type 0) (xs ys : List X) → AllByRecursion P xs → AllByRecursion P ys → AllByRecursion P (xs ++ ys)
all_joined P [] ys a b = b
all_joined P (x ∷ xs) ys a b = (a.0, all_joined P xs ys a.1 b)

all_preceding : {X : Type 0} (P : X → Type 0) (xs ys : List X) → AllByRecursion P (xs ++ ys) → AllByRecursion P xs
all_preceding P [] ys a = tt
all_preceding P (x ∷ xs) ys a = (a.0, all_preceding P xs ys a.1)

all_back : {X : Type 0} (P : X → Type 0) (xs ys : List X) → AllByRecursion P (xs ++ ys) → AllByRecursion P ys
all_back P [] ys a = a
all_back P (x ∷ xs) ys a = all_back P xs ys a.1

present_first : (x : ℕ) (xs : List ℕ) → Present x (x ∷ xs)
present_first x xs = ap (λ b. b || list_any (λ y. eqb y x) xs) (eq-eqb x x refl)

module _ (e : Effect) (f : ℕ → Bool) (c : ℕ → ℕ) where
  -- each operation has the effect by its count
  abbrev pub Each : List Point → Type 0
  Each ns = AllByRecursion (λ (n : Point). f n.id ≡ given e n.own (c n.id)) ns

  -- the counts are those of a list
  abbrev pub Counted : List ℕ → List Point → Type 0
  Counted xs ns = (x : ℕ) → Present x xs → c x ≡ weight f x ns

  abbrev pub Says : List (ℕ × EffectKinds) → Type 0
  Says ls = AllByRecursion (λ (l : ℕ × EffectKinds). f l.0 ≡ has e l.1) ls

  preceding_counted : (xs ys : List ℕ) (ms ns : List Point) → ((x : ℕ) → Present x xs → Childless x ns) → Counted (xs ++ ys) (ms ++ ns) → Counted xs ms
  preceding_counted xs ys ms ns h k x p =
      let a = k x (present_left x xs ys p) in let b = weight_joined f x ms ns in let z = weight_childless f x ns (h x p) in omega (arith, a, b, z)

  back_counted : (xs ys : List ℕ) (ms ns : List Point) → ((x : ℕ) → Present x ys → Childless x ms) → Counted (xs ++ ys) (ms ++ ns) → Counted ys ns
  back_counted xs ys ms ns h k x p =
      let a = k x (present_right x xs ys p) in let b = weight_joined f x ms ns in let z = weight_childless f x ms (h x p) in omega (arith, a, b, z)

  module _ {N T A : Type 0} (own : N → Own) where
    -- the subtree of an operation, and then the operation
    inside_counted : (p : Option ℕ) (h : HeadOf N T A) (rs : RegionsOf N T A) → ((x : ℕ) → Present x (ids (op h rs)) → is_in x p ≡ false) → Counted (ids (op h rs)) (points own p (op h rs)) → Counted (regions_ids rs) (regions_points own h.id rs)
    inside_counted p h rs apart counted x q =
        let r : Present x (ids (op h rs)) = or_right (eqb h.id x) _ q in
        let z : one_if (is_in x p && f h.id) ≡ 0 = ap (λ b. one_if (b && f h.id)) (apart x r) in
        let k = counted x r in
        omega (arith, z, k)

    law_around : (p : Option ℕ) (h : HeadOf N T A) (rs : RegionsOf N T A) → ((x : ℕ) → Present x (ids (op h rs)) → is_in x p ≡ false) → Each (points own p (op h rs)) → Counted (ids (op h rs)) (points own p (op h rs))
        → (nat_lt 0 (weight f h.id (regions_points own h.id rs)) ≡ has e (regions_effects own rs)) × Says (regions_listed own rs)
        → (f h.id ≡ has e (effects own (op h rs))) × Says (listed own (op h rs))
    law_around p h rs apart each counted inner =
        let here : Present h.id (ids (op h rs)) = present_first h.id (regions_ids rs) in
        let z : one_if (is_in h.id p && f h.id) ≡ 0 = ap (λ b. one_if (b && f h.id)) (apart h.id here) in
        let k = counted h.id here in
        let count : c h.id ≡ weight f h.id (regions_points own h.id rs) = omega (arith, z, k) in
        let says : f h.id ≡ has e (effects own (op h rs)) = each.0 ∙ ap (given e (own h.name)) count ∙ given_effects e (own h.name) _ (regions_effects own rs) inner.0 in
        (says, (says, inner.1))

    mutual
      law_regions : (p : ℕ) (rs : RegionsOf N T A) → IsDistinct eqb (regions_ids rs) → Absent p (regions_ids rs) → Each (regions_points own p rs) → Counted (regions_ids rs) (regions_points own p rs)
          → (nat_lt 0 (weight f p (regions_points own p rs)) ≡ has e (regions_effects own rs)) × Says (regions_listed own rs)
      law_regions p no_regions d a each counted = (sym (has_none e), tt)
      law_regions p (region r rs) d a each counted =
          let half = halves (region_ids r) (regions_ids rs) d in
          let b = absent_parts p (region_ids r) (regions_ids rs) a in
          let xs = region_ids r in
          let ys = regions_ids rs in
          let ms = region_points own p r in
          let ns = regions_points own p rs in
          let first = law_region p r half.left b.0 (all_preceding _ ms ns each) (preceding_counted xs ys ms ns (λ x q. childless_regions own x p rs (differ p x xs b.0 q) (half.disjoint x q)) counted) in
          let rest = law_regions p rs half.right b.1 (all_back _ ms ns each) (back_counted xs ys ms ns (λ x q. childless_region own x p r (differ p x ys b.1 q) (flipped xs ys half x q)) counted) in (
            ap (nat_lt 0) (weight_joined f p ms ns) ∙ some_of_sum (weight f p ms) (weight f p ns) ∙ (λ i. first.0 i || rest.0 i) ∙ sym (has_union e (region_effects own r) (regions_effects own rs)),
            all_joined _ (region_listed own r) (regions_listed own rs) first.1 rest.1,
          )

      law_region : (p : ℕ) (r : RegionOf N T A) → IsDistinct eqb (region_ids r) → Absent p (region_ids r) → Each (region_points own p r) → Counted (region_ids r) (region_points own p r)
          → (nat_lt 0 (weight f p (region_points own p r)) ≡ has e (region_effects own r)) × Says (region_listed own r)
      law_region p empty d a each counted = (sym (has_none e), tt)
      law_region p (block args os) d a each counted = law_ops p os d a each counted

      law_ops : (p : ℕ) (os : OpsOf N T A) → IsDistinct eqb (ops_ids os) → Absent p (ops_ids os) → Each (ops_points own p os) → Counted (ops_ids os) (ops_points own p os)
          → (nat_lt 0 (weight f p (ops_points own p os)) ≡ has e (ops_effects own os)) × Says (ops_listed own os)
      law_ops p no_ops d a each counted = (sym (has_none e), tt)
      law_ops p (next (op h rs) os) d a each counted =
          let half = halves (ids (op h rs)) (ops_ids os) d in
          let b = absent_parts p (ids (op h rs)) (ops_ids os) a in
          let xs = ids (op h rs) in
          let ys = ops_ids os in
          let ms = points own (Some p) (op h rs) in
          let ns = ops_points own p os in
          let first = (let mine = all_preceding _ ms ns each in
          let counts = preceding_counted xs ys ms ns (λ x q. childless_ops own x p os (differ p x xs b.0 q) (half.disjoint x q)) counted in
          let apart : (x : ℕ) → Present x xs → is_in x (Some p) ≡ false = λ x q. differ p x xs b.0 q in
          law_around (Some p) h rs apart mine counts (law_regions h.id rs (IsDistinct-tail eqb h.id (regions_ids rs) half.left) (absent_first h.id (regions_ids rs) half.left) mine.1 (inside_counted (Some p) h rs apart counts))) in
          let rest = law_ops p os half.right b.1 (all_back _ ms ns each) (back_counted xs ys ms ns (λ x q. childless_op own x (Some p) (op h rs) (differ p x ys b.1 q) (flipped xs ys half x q)) counted) in
          let inside = or_parts _ _ b.0 in
          let one : weight f p ms ≡ one_if (f h.id) =
          (let z = weight_childless f p (regions_points own h.id rs) (childless_regions own p h.id rs inside.0 inside.1) in
          let t : one_if (eqb p p && f h.id) ≡ one_if (f h.id) = ap (λ b. one_if (b && f h.id)) (eq-eqb p p refl) in
          omega (arith, z, t)) in (
            ap (nat_lt 0) (weight_joined f p ms ns) ∙ some_of_sum (weight f p ms) (weight f p ns) ∙ (λ i. (ap (nat_lt 0) one ∙ one_counts (f h.id) ∙ first.0) i || rest.0 i) ∙ sym (has_union e (effects own (op h rs)) (ops_effects own os)),
            all_joined _ (listed own (op h rs)) (ops_listed own os) first.1 rest.1,
          )

    -- for the list of a whole tree, a table that is right at each operation has the effects of the analysis
    pub law : (t : OpOf N T A) → IsDistinct eqb (ids t) → Each (points own None t) → Counted (ids t) (points own None t) → Says (listed own t)
    law (op h rs) d each counted =
        (law_around None h rs (λ x q. refl) each counted (law_regions h.id rs (IsDistinct-tail eqb h.id (regions_ids rs) d) (absent_first h.id (regions_ids rs) d) each.1 (inside_counted None h rs (λ x q. refl) counted))).1
