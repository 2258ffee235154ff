-- Replacing a value use by use, in any order.
use Rattle.std.proofs.Common.{◌≡◌, refl, ap, sym, ◌∙◌, subst, ℕ, zero, suc, ◌+◌, Bool, true, false, cond, eqb, eq-eqb, eqb-true, List, [], ◌∷◌, ◌++◌, length, map, Option, Some, None, option_map, length-append, inl, inr, arith}
use Rattle.std.specs.Prelude.{slice_set, slice_get, option_and_then, is_some}
use Rattle.std.specs.List.{IsDistinct}
use Rattle.std.specs.Option.{option_eq}
use Rattle.std.proofs.lemmas.Map.Keys.{IsDistinct-tail}
use Rattle.ir_event.specs.types.declared.refusal.Refusal.TheVariants.{NoSuchValue, NotVisible, TypeDiffers}
use Rattle.ir_event.specs.trees.declared.value.Value.{Value}
use Rattle.ir_event.specs.trees.declared.value.Value.TheVariants.{Result, Arg}
use Rattle.ir_event.specs.trees.Tree.{HeadOf, OpOf, op, RegionsOf, no_regions, region, empty, block, head}
use Rattle.ir_event.specs.trees.Ids.{HasDistinctIds, find}
use Rattle.ir_event.specs.trees.Uses.{same_value, operand_uses, uses_of}
use Rattle.ir_event.specs.trees.Sites.{visible}
use Rattle.ir_event.specs.trees.Edits.{each_head, regions_each_head, at, put_operand, with_operand, put_value, put_values, with_value_replaced}
use Rattle.ir_event.specs.trees.WellFormed.{ModuleOf, IsWellFormed}
use Rattle.ir_event.proofs.of_trees.Heads.{head_find, head_visible, alike_operand}
use Rattle.ir_event.proofs.of_trees.Replaced.{same_value_true}
use Rattle.ir_event.specs.tree_laws.Members.{In}
use Rattle.ir_event.specs.tree_laws.Stands.{OpWithPathOf, op_with_path_id, stands, gather, dominated_by}
use Rattle.ir_event.specs.tree_laws.Values.{region_at, arguments_of, arguments_at, type_of_value, has_value}
use Rattle.ir_event.specs.tree_laws.Reasons.{set_operand_reason, is_visible_to_users}
use Rattle.ir_event.proofs.of_tree_laws.Listed.{bool_cases, in_parts, one_any, all_each, each_all, both}
use Rattle.ir_event.proofs.of_tree_laws.Readings.{stands_ids, stands_uses}
use Rattle.ir_event.proofs.of_tree_laws.Members.{same_stand}
use Rattle.ir_event.proofs.of_tree_laws.DominatedBy.{visible_there}
use Rattle.ir_event.proofs.of_tree_laws.Wellformed.{from_wellformed}
use Rattle.ir_event.proofs.of_tree_laws.Reasoned.{no_unless}
use Rattle.ir_event.proofs.of_tree_laws.HeadForm.{in_gather, operand_keeps}
use Rattle.ir_event.specs.store.Using.{same_use, is_use}
use Rattle.rewriter_machine.specs.Edits.{TestsOf, Replace, reason_by}
use Rattle.ir_event.proofs.of_tree_laws.Entries.{each_twice}
use Rattle.rewriter_machine.proofs.Setting.{apart, unchanged, agree}
use Rattle.rewriter_machine.proofs.Left.{gather_same, of_gather, user, uses_here, uses_then, elsewhere, uses_set}
use Rattle.rewriter_machine.proofs.Allowed.{may_set, uses_see, each_takes}
use Rattle.ir_event.proofs.of_trees.Facts.{head_each}
use Rattle.ir_event.proofs.of_types.Truths.{nil_parts}
use Rattle.ir_event.proofs.of_tree_laws.Reverted.{passed}
use Rattle.ir_event.proofs.of_tree_laws.Nested.{unequal}

pub listed : (x k : ℕ) (us : List (ℕ × ℕ)) → is_use x k us ≡ true → In (x, k) us
listed x k us e =
    let p = one_any (λ p. same_use p (x, k)) us e in
    let b = both (eqb p.0.0 x) (eqb p.0.1 k) p.2 in
    subst (λ z. In z us) (λ i. (eqb-true p.0.0 x b.0 i, eqb-true p.0.1 k b.1 i)) p.1

none_of : {X Y : Type 0} (f : X → List Y) (xs : List X) → gather f xs ≡ [] → (x : X) → In x xs → f x ≡ []
none_of f [] e x h = absurd h
none_of f (y ∷ xs) e x (inl k) = ap f k ∙ (nil_parts (f y) (gather f xs) e).0
none_of f (y ∷ xs) e x (inr k) = none_of f xs (nil_parts (f y) (gather f xs) e).1 x k

-- ---- the types of values are unchanged if heads change only in other parts than results
module _ {N T A : Type 0} (f : HeadOf N T A → HeadOf N T A) (kept : (h : HeadOf N T A) → (f h).results ≡ h.results) where
  region_kept : (r : ℕ) (rs : RegionsOf N T A) → option_and_then arguments_of (region_at r (regions_each_head f rs)) ≡ option_and_then arguments_of (region_at r rs)
  region_kept r no_regions = refl
  region_kept zero (region empty rs) = refl
  region_kept zero (region (block args os) rs) = refl
  region_kept (suc r) (region g rs) = region_kept r rs

  arguments_kept : (r : ℕ) (o : OpOf N T A) → arguments_at r (each_head f o) ≡ arguments_at r o
  arguments_kept r (op h rs) = region_kept r rs

  type_kept : ((x : ℕ) (t : OpOf N T A) → find x (each_head f t) ≡ option_map (each_head f) (find x t)) → (v : Value) (t : OpOf N T A) → type_of_value v (each_head f t) ≡ type_of_value v t
  type_kept found (Result x k) t = ap (option_and_then (λ (o : OpOf N T A). slice_get (head o).results k)) (found x t) ∙ go (find x t)
    where
      go : (o : Option (OpOf N T A)) → option_and_then (λ (o : OpOf N T A). slice_get (head o).results k) (option_map (each_head f) o) ≡ option_and_then (λ (o : OpOf N T A). slice_get (head o).results k) o
      go None = refl
      go (Some o) = ap (λ (h : HeadOf N T A). slice_get h.results k) (head_each f o) ∙ ap (λ l. slice_get l k) (kept (head o))
  type_kept found (Arg x r k) t = ap (option_and_then (λ (o : OpOf N T A). option_and_then (λ args. slice_get args k) (arguments_at r o))) (found x t) ∙ go (find x t)
    where
      go : (o : Option (OpOf N T A)) → option_and_then (λ (o : OpOf N T A). option_and_then (λ args. slice_get args k) (arguments_at r o)) (option_map (each_head f) o)
          ≡ option_and_then (λ (o : OpOf N T A). option_and_then (λ args. slice_get args k) (arguments_at r o)) o
      go None = refl
      go (Some o) = ap (option_and_then (λ args. slice_get args k)) (arguments_kept r o)

-- ---- operands
module _ (old : Value) where
  -- a use is a use by an operand
  use_in_list : (x k : ℕ) (ws : List Value) (u : ℕ × ℕ) → In u (operand_uses old x k ws) → In old ws
  use_in_list x k [] u h = absurd h
  use_in_list x k (w ∷ ws) u h = go (same_value old w) refl h (use_in_list x (k + 1) ws u)
    where
      go : (b : Bool) → same_value old w ≡ b → In u (cond b ((x, k) ∷ operand_uses old x (k + 1) ws) (operand_uses old x (k + 1) ws)) → (In u (operand_uses old x (k + 1) ws) → In old ws) → In old (w ∷ ws)
      go true q h f = inl (same_value_true old w q)
      go false q h f = inr (f h)

  module _ (new : Value) where
    -- if no operand is the old value, or the two values are equal, replacing the value changes nothing
    unused_kept : (x k : ℕ) (ws : List Value) → operand_uses old x k ws ≡ [] → map (put_value old new) ws ≡ ws
    unused_kept x k [] e = refl
    unused_kept x k (w ∷ ws) e = go (same_value old w) refl e (unused_kept x (k + 1) ws)
      where
        go : (b : Bool) → same_value old w ≡ b → cond b ((x, k) ∷ operand_uses old x (k + 1) ws) (operand_uses old x (k + 1) ws) ≡ [] → (operand_uses old x (k + 1) ws ≡ [] → map (put_value old new) ws ≡ ws)
            → map (put_value old new) (w ∷ ws) ≡ w ∷ ws
        go true q h f = absurd cc
        go false q h f = λ i. cond (q i) new w ∷ f h i

    itself_put : same_value old new ≡ true → (w : Value) → put_value old new w ≡ w
    itself_put e w = go (same_value old w) refl
      where
        go : (b : Bool) → same_value old w ≡ b → put_value old new w ≡ w
        go true q = ap (λ b. cond b new w) q ∙ sym (same_value_true old new e) ∙ same_value_true old w q
        go false q = ap (λ b. cond b new w) q

    itself_kept : same_value old new ≡ true → (ws : List Value) → map (put_value old new) ws ≡ ws
    itself_kept e [] = refl
    itself_kept e (w ∷ ws) = λ i. itself_put e w i ∷ itself_kept e ws i

    -- replacing has the same result if an operand was already set to the new value
    new_put : put_value old new new ≡ new
    new_put = elim (same_value old new) as (λ b. cond b new new ≡ new) [ true ↦ refl | false ↦ refl ]

    set_before : (x k j : ℕ) (ws : List Value) → In (x, j) (operand_uses old x k ws) → (i : ℕ) × (j ≡ k + i) × (map (put_value old new) (slice_set ws i new) ≡ map (put_value old new) ws)
    set_before x k j [] h = absurd h
    set_before x k j (w ∷ ws) h = go (same_value old w) refl h (set_before x (k + 1) j ws)
      where
        later : (In (x, j) (operand_uses old x (k + 1) ws) → (i : ℕ) × (j ≡ k + 1 + i) × (map (put_value old new) (slice_set ws i new) ≡ map (put_value old new) ws))
            → In (x, j) (operand_uses old x (k + 1) ws) → (i : ℕ) × (j ≡ k + i) × (map (put_value old new) (slice_set (w ∷ ws) i new) ≡ map (put_value old new) (w ∷ ws))
        later f m = (let r = f m in let n = r.1 in (suc r.0, omega (arith, n), ap (λ l. put_value old new w ∷ l) r.2))

        go : (b : Bool) → same_value old w ≡ b → In (x, j) (cond b ((x, k) ∷ operand_uses old x (k + 1) ws) (operand_uses old x (k + 1) ws))
            → (In (x, j) (operand_uses old x (k + 1) ws) → (i : ℕ) × (j ≡ k + 1 + i) × (map (put_value old new) (slice_set ws i new) ≡ map (put_value old new) ws))
            → (i : ℕ) × (j ≡ k + i) × (map (put_value old new) (slice_set (w ∷ ws) i new) ≡ map (put_value old new) (w ∷ ws))
        go true q (inl m) f = (let same = ap (λ z. z.1) m in (0, omega (arith, same), ap (λ v. v ∷ map (put_value old new) ws) (new_put ∙ sym (ap (λ b. cond b new w) q))))
        go true q (inr m) f = later f m
        go false q m f = later f m

    module _ (differ : same_value old new ≡ false) where
      abbrev first_if : Bool → ℕ × ℕ → List (ℕ × ℕ) → List (ℕ × ℕ)
      first_if b u l = cond b (u ∷ l) l

      -- setting an operand removes one use, and adds none
      one_less : (x k j : ℕ) (ws : List Value) → In (x, j) (operand_uses old x k ws) → (i : ℕ) × (j ≡ k + i) × (suc (length (operand_uses old x k (slice_set ws i new))) ≡ length (operand_uses old x k ws))
      one_less x k j [] h = absurd h
      one_less x k j (w ∷ ws) h = go (same_value old w) refl h (one_less x (k + 1) j ws)
        where
          go : (b : Bool) → same_value old w ≡ b → In (x, j) (first_if b (x, k) (operand_uses old x (k + 1) ws))
              → (In (x, j) (operand_uses old x (k + 1) ws) → (i : ℕ) × (j ≡ k + 1 + i) × (suc (length (operand_uses old x (k + 1) (slice_set ws i new))) ≡ length (operand_uses old x (k + 1) ws)))
              → (i : ℕ) × (j ≡ k + i) × (suc (length (operand_uses old x k (slice_set (w ∷ ws) i new))) ≡ length (operand_uses old x k (w ∷ ws)))
          go true q (inl m) f =
              let same = ap (λ z. z.1) m in
              let rest = operand_uses old x (k + 1) ws in
              (0, omega (arith, same), ap (λ b. suc (length (first_if b (x, k) rest))) differ ∙ sym (ap (λ b. length (first_if b (x, k) rest)) q))
          go true q (inr m) f =
              let r = f m in
              let n = r.1 in
              (suc r.0, omega (arith, n), ap (λ b. suc (length (first_if b (x, k) (operand_uses old x (k + 1) (slice_set ws r.0 new))))) q ∙ ap suc r.2 ∙ sym (ap (λ b. length (first_if b (x, k) (operand_uses old x (k + 1) ws))) q))
          go false q m f =
              let r = f m in
              let n = r.1 in
              (suc r.0, omega (arith, n), ap (λ b. suc (length (first_if b (x, k) (operand_uses old x (k + 1) (slice_set ws r.0 new))))) q ∙ r.2 ∙ sym (ap (λ b. length (first_if b (x, k) (operand_uses old x (k + 1) ws))) q))

      set_within : (x k i : ℕ) (ws : List Value) (z : ℕ × ℕ) → In z (operand_uses old x k (slice_set ws i new)) → In z (operand_uses old x k ws)
      set_within x k i [] z h = h
      set_within x k zero (w ∷ ws) z h =
          let rest = operand_uses old x (k + 1) ws in
          let m : In z rest = subst (λ b. In z (cond b ((x, k) ∷ rest) rest)) differ h in
          elim (same_value old w) as (λ b. In z (cond b ((x, k) ∷ operand_uses old x (k + 1) ws) (operand_uses old x (k + 1) ws))) [ true ↦ inr m | false ↦ m ]
      set_within x k (suc i) (w ∷ ws) z h = go (same_value old w) h (set_within x (k + 1) i ws z)
        where
          go : (b : Bool) → In z (cond b ((x, k) ∷ operand_uses old x (k + 1) (slice_set ws i new)) (operand_uses old x (k + 1) (slice_set ws i new)))
              → (In z (operand_uses old x (k + 1) (slice_set ws i new)) → In z (operand_uses old x (k + 1) ws)) → In z (cond b ((x, k) ∷ operand_uses old x (k + 1) ws) (operand_uses old x (k + 1) ws))
          go true (inl m) f = inl m
          go true (inr m) f = inr (f m)
          go false m f = f m

      -- ---- in a tree
      module _ {N T A : Type 0} where
        less_one : (u : ℕ × ℕ) (ss : List (OpWithPathOf N T A)) → IsDistinct eqb (map (λ (s : OpWithPathOf N T A). op_with_path_id s) ss) → In u (gather (uses_here old new differ) ss) → suc (length (gather (uses_then old new differ u) ss)) ≡ length (gather (uses_here old new differ) ss)
        less_one u [] d h = absurd h
        less_one u (s ∷ ss) d h =
            let here = uses_here old new differ in
            let then = uses_then old new differ u in
            let a = length-append (then s) (gather then ss) in
            let b = length-append (here s) (gather here ss) in
            elim (in_parts u (here s) (gather here ss) h) [
              | inl k ↦
                  let id : u.0 ≡ op_with_path_id s = user old (op_with_path_id s) 0 (head s.here).operands u k in
                  let r = one_less (op_with_path_id s) 0 u.1 (head s.here).operands (subst (λ x. In (x, u.1) (here s)) id k) in
                  let there : u.1 ≡ r.0 = (let n = r.1 in omega (arith, n)) in
                  let one : suc (length (then s)) ≡ length (here s) =
                  ap (λ b. suc (length (operand_uses old (op_with_path_id s) 0 (cond b (put_operand u.1 new (head s.here)) (head s.here)).operands))) (eq-eqb (op_with_path_id s) u.0 (sym id))
                  ∙ ap (λ k. suc (length (operand_uses old (op_with_path_id s) 0 (slice_set (head s.here).operands k new)))) there ∙ r.2 in
                  let others = ap length (gather_same then here ss (λ z m. elsewhere old new differ u z (ap (eqb (op_with_path_id z)) id ∙ apart (op_with_path_id s) ss d z m))) in
                  omega (arith, a, b, one, others)
              | inr k ↦
                  let w = of_gather here u ss k in
                  let id : u.0 ≡ op_with_path_id w.0 = user old (op_with_path_id w.0) 0 (head w.0.here).operands u w.2 in
                  let other : eqb (op_with_path_id s) u.0 ≡ false = ap (eqb (op_with_path_id s)) id ∙ unequal (op_with_path_id w.0) (op_with_path_id s) (apart (op_with_path_id s) ss d w.0 w.1) in
                  let one = ap length (elsewhere old new differ u s other) in
                  let others = less_one u ss (IsDistinct-tail eqb (op_with_path_id s) (map (λ (s : OpWithPathOf N T A). op_with_path_id s) ss) d) k in
                  omega (arith, a, b, one, others)
            ]

        pub fewer_uses : (u : ℕ × ℕ) (t : OpOf N T A) → HasDistinctIds t → In u (uses_of old t) → suc (length (uses_of old (with_operand u.0 u.1 new t))) ≡ length (uses_of old t)
        fewer_uses u t d h =
            ap (λ l. suc (length l)) (uses_set old new differ u t)
            ∙ less_one u (stands [] t) (subst (IsDistinct eqb) (sym (stands_ids [] t)) d) (subst (In u) (sym (stands_uses old [] t)) h)
            ∙ ap length (stands_uses old [] t)

        pub uses_within : (u z : ℕ × ℕ) (t : OpOf N T A) → In z (uses_of old (with_operand u.0 u.1 new t)) → In z (uses_of old t)
        uses_within u z t h =
            let g = of_gather (uses_then old new differ u) z (stands [] t) (subst (In z) (uses_set old new differ u t) h) in
            let there = elim (eqb (op_with_path_id g.0) u.0) as (λ b. In z (operand_uses old (op_with_path_id g.0) 0 (cond b (put_operand u.1 new (head g.0.here)) (head g.0.here)).operands) → In z (operand_uses old (op_with_path_id g.0) 0 (head g.0.here).operands)) [
              | true ↦ set_within (op_with_path_id g.0) 0 u.1 (head g.0.here).operands z
              | false ↦ λ k. k
            ] in
            subst (In z) (stands_uses old [] t) (in_gather (uses_here old new differ) z g.0 (stands [] t) g.1 (there g.2))

    -- whatever use is set first, the tree after the replacement is the same
    module _ {N T A : Type 0} where
      abbrev users : OpWithPathOf N T A → List (ℕ × ℕ)
      users s = operand_uses old (op_with_path_id s) 0 (head s.here).operands

      with_list : HeadOf N T A → List Value → HeadOf N T A
      with_list h l = record h { operands = l }

      pub replaced_same : (u : ℕ × ℕ) (t : OpOf N T A) → HasDistinctIds t → In u (uses_of old t) → with_value_replaced old new (with_operand u.0 u.1 new t) ≡ with_value_replaced old new t
      replaced_same u t d h = each_twice (at u.0 (put_operand u.1 new)) (put_values old new) t ∙ agree (λ h. put_values old new (at u.0 (put_operand u.1 new) h)) (put_values old new) [] t each
        where
          each : (s : OpWithPathOf N T A) → In s (stands [] t) → put_values old new (at u.0 (put_operand u.1 new) (head s.here)) ≡ put_values old new (head s.here)
          each s m = elim (bool_cases (eqb (op_with_path_id s) u.0)) [
            | inr e ↦ ap (λ b. put_values old new (cond b (put_operand u.1 new (head s.here)) (head s.here))) e
            | inl e ↦
                let g = of_gather users u (stands [] t) (subst (In u) (sym (stands_uses old [] t)) h) in
                let id : u.0 ≡ op_with_path_id g.0 = user old (op_with_path_id g.0) 0 (head g.0.here).operands u g.2 in
                let same : g.0 ≡ s = same_stand t d g.0 s g.1 m (sym id ∙ sym (eqb-true (op_with_path_id s) u.0 e)) in
                let k : In (op_with_path_id s, u.1) (users s) = subst (λ (z : OpWithPathOf N T A). In (op_with_path_id z, u.1) (users z)) same (subst (λ x. In (x, u.1) (users g.0)) id g.2) in
                let r = set_before (op_with_path_id s) 0 u.1 (head s.here).operands k in
                let there : u.1 ≡ r.0 = (let n = r.1 in omega (arith, n)) in
                ap (λ b. put_values old new (cond b (put_operand u.1 new (head s.here)) (head s.here))) e
                ∙ ap (λ k. put_values old new (put_operand k new (head s.here))) there
                ∙ ap (λ l. record (head s.here) { operands = l }) r.2
          ]

      pub replaced_none : (t : OpOf N T A) → uses_of old t ≡ [] → with_value_replaced old new t ≡ t
      replaced_none t e =
          agree (put_values old new) (λ h. h) [] t (λ s m. ap (λ l. record (head s.here) { operands = l }) (unused_kept (op_with_path_id s) 0 (head s.here).operands (none_of users (stands [] t) (stands_uses old [] t ∙ e) s m)))
          ∙ unchanged t

      pub replaced_equal : (t : OpOf N T A) → same_value old new ≡ true → with_value_replaced old new t ≡ t
      replaced_equal t e = agree (put_values old new) (λ h. h) [] t (λ s m. ap (λ l. record (head s.here) { operands = l }) (itself_kept e (head s.here).operands)) ∙ unchanged t

-- ---- reasons
module _ {N T A : Type 0} (w : TestsOf N T) (old new : Value) (m : ModuleOf N T A) (f : IsWellFormed w.isolated m) where
  module _ (e : reason_by w (Replace old new) m ≡ None) (u : ℕ × ℕ) (h : In u (uses_of old m.tree)) where
    abbrev now : ModuleOf N T A
    now = record m { tree = with_operand u.0 u.1 new m.tree }

    pub turn_allowed : set_operand_reason w.isolated u.0 u.1 new m.tree ≡ None
    turn_allowed = may_set w.isolated new u m.tree f.distinct (each_takes w old new m f e u h)

    pub turn_wellformed : IsWellFormed w.isolated (record m { tree = with_operand u.0 u.1 new m.tree })
    turn_wellformed = operand_keeps w.isolated u.0 u.1 new m f (each_takes w old new m f e u h).dominated_by_it

    typed : (v : Value) → type_of_value v (with_operand u.0 u.1 new m.tree) ≡ type_of_value v m.tree
    typed v = type_kept {N = N} {T = T} {A = A} (at u.0 (put_operand u.1 new)) (λ h. elim (eqb h.id u.0) as (λ b. (cond b (put_operand u.1 new h) h).results ≡ h.results) [ true ↦ refl | false ↦ refl ])
        (head_find (at u.0 (put_operand u.1 new)) (alike_operand u.0 u.1 new)) v m.tree

    pub turn_still : same_value old new ≡ false → reason_by w (Replace old new) (record m { tree = with_operand u.0 u.1 new m.tree }) ≡ None
    turn_still differ =
        let a = no_unless (has_value old m.tree) NoSuchValue _ e in
        let b = no_unless (has_value new m.tree) NoSuchValue _ a.1 in
        let c = no_unless (option_eq w.same_type (type_of_value old m.tree) (type_of_value new m.tree)) TypeDiffers _ b.1 in
        passed _ NoSuchValue _ (ap is_some (typed old) ∙ a.0)
        (passed _ NoSuchValue _ (ap is_some (typed new) ∙ b.0)
        (passed _ TypeDiffers _ ((λ i. option_eq w.same_type (typed old i) (typed new i)) ∙ c.0)
        (passed _ NotVisible None (each_all (λ z. visible w.isolated (with_operand u.0 u.1 new m.tree) z.0 new) (uses_of old (with_operand u.0 u.1 new m.tree)) (λ z k.
        head_visible (at u.0 (put_operand u.1 new)) (alike_operand u.0 u.1 new) w.isolated m.tree z.0 new
        ∙ all_each (λ z. visible w.isolated m.tree z.0 new) (uses_of old m.tree) (uses_see w old new m f e) z (uses_within old new differ u z m.tree k))) refl)))

  -- a value replaced by itself
  same_types : ((t : T) → w.same_type t t ≡ true) → (a : Option T) → option_eq w.same_type a a ≡ true
  same_types r None = refl
  same_types r (Some t) = r t

  own_seen : is_visible_to_users w.isolated old old m.tree ≡ true
  own_seen = each_all (λ z. visible w.isolated m.tree z.0 old) (uses_of old m.tree) (λ z k.
      let g = of_gather (λ (s : OpWithPathOf N T A). operand_uses old (op_with_path_id s) 0 (head s.here).operands) z (stands [] m.tree) (subst (In z) (sym (stands_uses old [] m.tree)) k) in
      ap (λ x. visible w.isolated m.tree x old) (user old (op_with_path_id g.0) 0 (head g.0.here).operands z g.2)
      ∙ visible_there w.isolated m.tree f.distinct g.0 g.1 old
      ∙ all_each (dominated_by w.isolated g.0.path) (head g.0.here).operands ((from_wellformed w.isolated m.tree f.wellformed).dominated_by_own g.0 g.1) old (use_in_list old (op_with_path_id g.0) 0 (head g.0.here).operands z g.2))

  pub equal_allowed : ((t : T) → w.same_type t t ≡ true) → same_value old new ≡ true → has_value old m.tree ≡ true → reason_by w (Replace old new) m ≡ None
  equal_allowed r e k =
      ap (λ v. reason_by w (Replace old v) m) (sym (same_value_true old new e))
      ∙ passed _ NoSuchValue _ k (passed _ NoSuchValue _ k (passed _ TypeDiffers _ (same_types r (type_of_value old m.tree)) (passed _ NotVisible None own_seen refl)))
