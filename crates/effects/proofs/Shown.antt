-- The entries of a table are those of the analysis.
use Rattle.std.proofs.Common.{◌≡◌, ℕ, ◌+◌, List, [], ◌∷◌, ◌++◌, true, false, true≢false, Option, Some, None, ◌⊎◌, inl, inr, refl, sym, ap, ◌∙◌, subst, arith, cond, eqb, map, ◌||◌}
use Rattle.std.specs.Prelude.{option_map}
use Rattle.std.specs.List.{IsDistinct, AllByRecursion, list_any}
use Rattle.std.proofs.lemmas.Bool.{eq-eqb, ne_eqb, cases_eq}
use Rattle.std.proofs.lemmas.List.{map-append}
use Rattle.std.proofs.lemmas.Map.Keys.{IsDistinct-head, IsDistinct-tail}
use Rattle.ir_event.specs.trees.Tree.{OpOf, op, RegionsOf, no_regions, region, RegionOf, empty, block, OpsOf, no_ops, next}
use Rattle.ir_event.specs.trees.Ids.{ids, regions_ids, region_ids, ops_ids, HasDistinctIds, find}
use Rattle.ir_event.specs.tree_laws.Stands.{StepOf, OpWithPathOf, op_with_path_id, stands, regions_stands, region_stands, ops_stands, find_op_with_path}
use Rattle.ir_event.proofs.of_tree_laws.Readings.{step, stands_ids, stands_find}
use Rattle.std.proofs.lemmas.Bool.Decides.{nat_tests}
use Rattle.effects.specs.declared.effect_kinds.EffectKinds.{EffectKinds}
use Rattle.op_registry.specs.declared.own.Own.{Own}
use Rattle.effects.specs.declared.row.Row.{Row}
use Rattle.effects.specs.Effects.{Effect, unknown, allocate, free, read, write, has}
use Rattle.ir_event.specs.tree_laws.Members.{In}
use Rattle.effects.specs.Points.{Point, points, Lacks, Rows, has_at, count_at, row_has, weight}
use Rattle.effects.specs.Following.{Whole}
use Rattle.effects.specs.Effects.{effects}
use Rattle.ir_event.specs.Rows.{by_id}
use Rattle.effects.specs.Reports.{of_each}
use Rattle.effects.proofs.Tables.{point_of}
use Rattle.effects.proofs.Spotted.{point_ids, points_ids}
use Rattle.effects.proofs.Laws.{listed, regions_listed, region_listed, ops_listed, law}
use Rattle.ir_event.proofs.ById.{look, Rising, NotIn, AllApart, by_id_rising, by_id_look}

abbrev Pair : Type 0
Pair = ℕ × EffectKinds

kinds_same : (a b : EffectKinds) → ((e : Effect) → has e a ≡ has e b) → a ≡ b
kinds_same a b h = λ i. record { unknown = h unknown i; allocate = h allocate i; free = h free i; read = h read i; write = h write i }

-- ---- the ids of a list

abbrev pair_ids : List Pair → List ℕ
pair_ids ps = map (λ (p : Pair). p.0) ps

module _ {N T A : Type 0} (own : N → Own) where
  mutual
    listed_ids : (t : OpOf N T A) → pair_ids (listed own t) ≡ ids t
    listed_ids (op h rs) = ap (λ l. h.id ∷ l) (regions_listed_ids rs)

    regions_listed_ids : (rs : RegionsOf N T A) → pair_ids (regions_listed own rs) ≡ regions_ids rs
    regions_listed_ids no_regions = refl
    regions_listed_ids (region r rs) = map-append (λ (p : Pair). p.0) (region_listed own r) (regions_listed own rs) ∙ λ i. region_listed_ids r i ++ regions_listed_ids rs i

    region_listed_ids : (r : RegionOf N T A) → pair_ids (region_listed own r) ≡ region_ids r
    region_listed_ids empty = refl
    region_listed_ids (block args os) = ops_listed_ids os

    ops_listed_ids : (os : OpsOf N T A) → pair_ids (ops_listed own os) ≡ ops_ids os
    ops_listed_ids no_ops = refl
    ops_listed_ids (next o os) = map-append (λ (p : Pair). p.0) (listed own o) (ops_listed own os) ∙ λ i. listed_ids o i ++ ops_listed_ids os i

module _ {V : Type 0} where
  apart_all : (x : ℕ) (ps : List (ℕ × V)) → AllByRecursion (λ y. eqb x y ≡ false) (map (λ (p : ℕ × V). p.0) ps) → NotIn x ps
  apart_all x [] a = tt
  apart_all x (p ∷ ps) a = ((λ e. true≢false (sym (eq-eqb x p.0 e) ∙ a.0)), apart_all x ps a.1)

  pub all_apart : (ps : List (ℕ × V)) → IsDistinct eqb (map (λ (p : ℕ × V). p.0) ps) → AllApart ps
  all_apart [] d = tt
  all_apart (p ∷ ps) d = (apart_all p.0 ps (IsDistinct-head eqb p.0 _ d), all_apart ps (IsDistinct-tail eqb p.0 _ d))

-- lists of operations and of pairs with the same ids
lacks_not_in : (x : ℕ) (ns : List Point) (ps : List Pair) → pair_ids ps ≡ point_ids ns → NotIn x ps → Lacks x ns
lacks_not_in x [] ps e n = tt
lacks_not_in x (s ∷ ns) [] e n = absurd cc
lacks_not_in x (s ∷ ns) (p ∷ ps) e n =
    let one : p.0 ≡ s.id = cc in
    let rest : pair_ids ps ≡ point_ids ns = cc in
    ((λ q. n.0 (sym q ∙ sym one)), lacks_not_in x ns ps rest n.1)

-- ---- a table's entries for a list

abbrev shown_at : Rows → ℕ → Option EffectKinds
shown_at rows x = option_map (λ (r : Row). r.has) (rows x)

look_in : (rows : Rows) (ps : List Pair) → AllByRecursion (λ (p : Pair). shown_at rows p.0 ≡ Some p.1) ps → (x : ℕ) → (look x ps ≡ shown_at rows x) ⊎ (NotIn x ps × (look x ps ≡ None))
look_in rows [] a x = inr (tt, refl)
look_in rows (p ∷ ps) a x = elim (cases_eq x p.0) [
  | inl e ↦ inl (ap (λ b. cond b (Some p.1) (look x ps)) (eq-eqb x p.0 e) ∙ sym a.0 ∙ ap (shown_at rows) (sym e))
  | inr ne ↦ (let past : look x (p ∷ ps) ≡ look x ps = ap (λ b. cond b (Some p.1) (look x ps)) (ne_eqb x p.0 ne) in
      elim (look_in rows ps a.1 x) [ inl h ↦ inl (past ∙ h) | inr h ↦ inr ((ne, h.0), past ∙ h.1) ])
]

-- each effect of each operation is right, and so each set is right
all_sets : (rows : Rows) (ps : List Pair) → ((e : Effect) → AllByRecursion (λ (p : Pair). has_at e rows p.0 ≡ has e p.1) ps) → AllByRecursion (λ (p : Pair). (r : Row) × (rows p.0 ≡ Some r)) ps
    → AllByRecursion (λ (p : Pair). shown_at rows p.0 ≡ Some p.1) ps
all_sets rows [] h k = tt
all_sets rows (p ∷ ps) h k =
    let r = k.0.0 in
    let is = k.0.1 in (
      ap (option_map (λ (r : Row). r.has)) is ∙ ap Some (kinds_same r.has p.1 (λ e. sym (ap (row_has e) is) ∙ (h e).0)),
      all_sets rows ps (λ e. (h e).1) k.1,
    )

all_kept : (rows : Rows) (ns : List Point) (ps : List Pair) → pair_ids ps ≡ point_ids ns → ((n : Point) → In n ns → (r : Row) × (rows n.id ≡ Some r)) → AllByRecursion (λ (p : Pair). (r : Row) × (rows p.0 ≡ Some r)) ps
all_kept rows ns [] e h = tt
all_kept rows [] (p ∷ ps) e h = absurd cc
all_kept rows (s ∷ ns) (p ∷ ps) e h =
    let one : p.0 ≡ s.id = cc in
    let rest : pair_ids ps ≡ point_ids ns = cc in
    let k = h s (inl refl) in
    ((k.0, ap rows one ∙ k.1), all_kept rows ns ps rest (λ n a. h n (inr a)))

each_all : (P : Point → Type 0) (ns : List Point) → ((n : Point) → In n ns → P n) → AllByRecursion P ns
each_all P [] h = tt
each_all P (n ∷ ns) h = (h n (inl refl), each_all P ns (λ m a. h m (inr a)))

-- ---- a value for each operation of a tree

module _ {N T A V : Type 0} (f : OpOf N T A → V) where
  abbrev pub says : OpWithPathOf N T A → ℕ × V
  says s = (op_with_path_id s, f s.here)

  pub said_ids : (ss : List (OpWithPathOf N T A)) → map (λ (p : ℕ × V). p.0) (map says ss) ≡ map (λ (s : OpWithPathOf N T A). op_with_path_id s) ss
  said_ids [] = refl
  said_ids (s ∷ ss) = ap (λ l. op_with_path_id s ∷ l) (said_ids ss)

  look_stands : (x : ℕ) (ss : List (OpWithPathOf N T A)) → look x (map says ss) ≡ option_map f (option_map (λ (s : OpWithPathOf N T A). s.here) (find_op_with_path x ss))
  look_stands x [] = refl
  look_stands x (s ∷ ss) =
      ap (λ b. cond b (Some (f s.here)) (look x (map says ss))) (flip x (op_with_path_id s))
      ∙ ap (cond (eqb (op_with_path_id s) x) (Some (f s.here))) (look_stands x ss)
      ∙ elim (eqb (op_with_path_id s) x) as (λ b. cond b (Some (f s.here)) (option_map f (option_map (λ (s : OpWithPathOf N T A). s.here) (find_op_with_path x ss)))
      ≡ option_map f (option_map (λ (s : OpWithPathOf N T A). s.here) (cond b (Some s) (find_op_with_path x ss)))) [ true ↦ refl | false ↦ refl ]
    where
      flip : (a b : ℕ) → eqb a b ≡ eqb b a
      flip a b = grind (arith, nat_tests)

  pub look_each : (t : OpOf N T A) (x : ℕ) → look x (of_each f t) ≡ option_map f (find x t)
  look_each t x = look_stands x (stands [] t) ∙ ap (option_map f) (stands_find x [] t)

  each_apart : (t : OpOf N T A) → HasDistinctIds t → AllApart (of_each f t)
  each_apart t d = all_apart (of_each f t) (subst (IsDistinct eqb) (sym (said_ids (stands [] t) ∙ stands_ids [] t)) d)

  pub each_rising : (t : OpOf N T A) → HasDistinctIds t → Rising (by_id (of_each f t))
  each_rising t d = by_id_rising (of_each f t) (each_apart t d)

  pub each_look : (t : OpOf N T A) → HasDistinctIds t → (x : ℕ) → look x (by_id (of_each f t)) ≡ option_map f (find x t)
  each_look t d x = by_id_look x (of_each f t) (each_apart t d) ∙ look_each t x

module _ {N T A : Type 0} (own : N → Own) where
  mutual
    each_listed : (path : List (StepOf N T A)) (t : OpOf N T A) → map (λ (s : OpWithPathOf N T A). (op_with_path_id s, effects own s.here)) (stands path t) ≡ listed own t
    each_listed path (op h rs) = ap (λ l. (h.id, effects own (op h rs)) ∷ l) (regions_each_listed (op h rs) path 0 rs)

    regions_each_listed : (p : OpOf N T A) (path : List (StepOf N T A)) (r : ℕ) (rs : RegionsOf N T A) → map (λ (s : OpWithPathOf N T A). (op_with_path_id s, effects own s.here)) (regions_stands p path r rs) ≡ regions_listed own rs
    regions_each_listed p path r no_regions = refl
    regions_each_listed p path r (region g rs) =
        map-append (says (effects own)) (region_stands p path r g) (regions_stands p path (r + 1) rs) ∙ λ i. region_each_listed p path r g i ++ regions_each_listed p path (r + 1) rs i

    region_each_listed : (p : OpOf N T A) (path : List (StepOf N T A)) (r : ℕ) (g : RegionOf N T A) → map (λ (s : OpWithPathOf N T A). (op_with_path_id s, effects own s.here)) (region_stands p path r g) ≡ region_listed own g
    region_each_listed p path r empty = refl
    region_each_listed p path r (block args os) = ops_each_listed p path r args [] os

    ops_each_listed : (p : OpOf N T A) (path : List (StepOf N T A)) (r : ℕ) (args : List T) (preceding : List (OpOf N T A)) (os : OpsOf N T A) → map (λ (s : OpWithPathOf N T A). (op_with_path_id s, effects own s.here)) (ops_stands p path r args preceding os) ≡ ops_listed own os
    ops_each_listed p path r args preceding no_ops = refl
    ops_each_listed p path r args preceding (next o os) =
        map-append (says (effects own)) (stands (step p r args preceding os ∷ path) o) (ops_stands p path r args (preceding ++ o ∷ []) os)
        ∙ λ i. each_listed (step p r args preceding os ∷ path) o i ++ ops_each_listed p path r args (preceding ++ o ∷ []) os i

module _ {N T A : Type 0} (own : N → Own) (t : OpOf N T A) (rows : Rows) (d : HasDistinctIds t) (h : Whole rows (points own None t)) where
  same_ids : pair_ids (listed own t) ≡ point_ids (points own None t)
  same_ids = listed_ids own t ∙ sym (points_ids own None t)

  counted : (e : Effect) (ns : List Point) (xs : List ℕ) → ((n : Point) → In n ns → count_at e rows n.id ≡ weight (has_at e rows) n.id (points own None t)) → point_ids ns ≡ xs → (x : ℕ) → list_any (λ y. eqb y x) xs ≡ true
      → count_at e rows x ≡ weight (has_at e rows) x (points own None t)
  counted e ns xs k q x p = elim (point_of x ns) [
    | inl l ↦ absurd (true≢false (sym p ∙ ap (list_any (λ y. eqb y x)) (sym q) ∙ absent x ns l))
    | inr m ↦ subst (λ y. count_at e rows y ≡ weight (has_at e rows) y (points own None t)) m.2 (k m.0 m.1)
  ]
    where
      absent : (x : ℕ) (ms : List Point) → Lacks x ms → list_any (λ y. eqb y x) (point_ids ms) ≡ false
      absent x [] l = refl
      absent x (m ∷ ms) l = ap (λ b. b || list_any (λ y. eqb y x) (point_ids ms)) (ne_eqb m.id x l.0) ∙ absent x ms l.1

  all_said : (e : Effect) → AllByRecursion (λ (p : Pair). has_at e rows p.0 ≡ has e p.1) (listed own t)
  all_said e =
      law e (has_at e rows) (count_at e rows) own t d (each_all _ (points own None t) (λ n a. h.each e n a))
      (counted e (points own None t) (ids t) (λ n a. let c = h.counts e n a in omega (arith, c)) (points_ids own None t))

  -- the table has the effects of the analysis for each operation
  look_listed : (x : ℕ) → look x (listed own t) ≡ shown_at rows x
  look_listed x =
      let sets = all_sets rows (listed own t) all_said (all_kept rows (points own None t) (listed own t) same_ids (λ n a. let k = h.known n a in (k.row, k.is))) in
      elim (look_in rows (listed own t) sets x) [
        | inl e ↦ e
        | inr n ↦ n.1 ∙ sym (ap (option_map (λ (r : Row). r.has)) (h.only x (lacks_not_in x (points own None t) (listed own t) same_ids n.0)))
      ]

  pub shown_found : (x : ℕ) → option_map (effects own) (find x t) ≡ option_map (λ (r : Row). r.has) (rows x)
  shown_found x = sym (look_each (effects own) t x) ∙ ap (look x) (each_listed own [] t) ∙ look_listed x
