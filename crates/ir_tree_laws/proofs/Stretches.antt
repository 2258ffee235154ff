-- An operation and everything inside it are one segment of the tree's list, and exactly that segment is removed with
-- it.
use Rattle.std.proofs.Common.{◌≡◌, refl, ap, sym, ◌∙◌, subst, ℕ, ◌+◌, Bool, true, false, true≢false, cond, not, eqb, eq-eqb, List, [], ◌∷◌, ◌++◌, length, map, filter, append_assoc, append-nil, length-append, inl, inr, arith}
use Rattle.std.specs.List.{list_any, IsDistinct}
use Rattle.std.proofs.lemmas.List.{map-append}
use Rattle.std.proofs.lemmas.List.Elements.{filter-append}
use Rattle.ir_tree.specs.declared.value.Value.{Value}
use Rattle.ir_tree.specs.Tree.{HeadOf, OpOf, op, RegionsOf, no_regions, region, RegionOf, empty, block, OpsOf, no_ops, next, head}
use Rattle.ir_tree.specs.Ids.{ids, op_count, HasDistinctIds}
use Rattle.ir_tree.specs.Uses.{operand_uses, uses_of}
use Rattle.ir_tree.specs.Places.{without}
use Rattle.ir_tree.proofs.Returns.{halves}
use Rattle.ir_tree_laws.specs.Members.{In}
use Rattle.ir_tree_laws.specs.Stands.{StepOf, OpWithPathOf, op_with_path_id, stands, regions_stands, region_stands, ops_stands, gather, gone_in, is_gone, left_stand, dropping}
use Rattle.ir_tree_laws.proofs.Listed.{bool_cases, in_left, in_right, in_parts, any_one, gather-append, or_left}
use Rattle.ir_tree_laws.proofs.Readings.{step, stands_ids, stands_uses}
use Rattle.ir_tree_laws.proofs.Members.{stand, same_stand}
use Rattle.ir_tree_laws.proofs.Around.{any_ids, gone_within, within_gone}
use Rattle.ir_tree_laws.proofs.Without.{without_stands, op_goes, keep, same_head}

filter_all : {X : Type 0} (p : X → Bool) (xs : List X) → ((x : X) → In x xs → p x ≡ true) → filter p xs ≡ xs
filter_all p [] f = refl
filter_all p (x ∷ xs) f = (λ i. cond (f x (inl refl) i) (x ∷ filter p xs) (filter p xs)) ∙ ap (λ l. x ∷ l) (filter_all p xs (λ y h. f y (inr h)))

filter_none : {X : Type 0} (p : X → Bool) (xs : List X) → ((x : X) → In x xs → p x ≡ false) → filter p xs ≡ []
filter_none p [] f = refl
filter_none p (x ∷ xs) f = (λ i. cond (f x (inl refl) i) (x ∷ filter p xs) (filter p xs)) ∙ filter_none p xs (λ y h. f y (inr h))

module _ {N T A : Type 0} where
  -- the list of an operation, with the parts before and after it in a longer list
  pub record Stretch (s : OpWithPathOf N T A) (ss : List (OpWithPathOf N T A)) : Type 0 where
    pub preceding : List (OpWithPathOf N T A)
    pub back : List (OpWithPathOf N T A)
    pub is : ss ≡ preceding ++ (stands s.path s.here ++ back)

  longer_left : (s : OpWithPathOf N T A) (xs ys : List (OpWithPathOf N T A)) → Stretch s xs → Stretch s (xs ++ ys)
  longer_left s xs ys w = record {
    preceding = w.preceding;
    back = w.back ++ ys;
    is = ap (λ l. l ++ ys) w.is ∙ append_assoc w.preceding (stands s.path s.here ++ w.back) ys ∙ ap (λ l. w.preceding ++ l) (append_assoc (stands s.path s.here) w.back ys);
  }

  longer_right : (s : OpWithPathOf N T A) (xs ys : List (OpWithPathOf N T A)) → Stretch s ys → Stretch s (xs ++ ys)
  longer_right s xs ys w = record { preceding = xs ++ w.preceding; back = w.back; is = ap (λ l. xs ++ l) w.is ∙ sym (append_assoc xs w.preceding (stands s.path s.here ++ w.back)) }

  mutual
    pub stretch : (b : List (StepOf N T A)) (t : OpOf N T A) (s : OpWithPathOf N T A) → In s (stands b t) → Stretch s (stands b t)
    stretch b (op h rs) s (inl e) = record {
      preceding = [];
      back = [];
      is = ap (λ (z : OpWithPathOf N T A). stands z.path z.here) (sym e) ∙ sym (append-nil (stands s.path s.here));
    }
    stretch b (op h rs) s (inr k) = longer_right s (stand (op h rs) b ∷ []) (regions_stands (op h rs) b 0 rs) (regions_stretch (op h rs) b 0 rs s k)

    regions_stretch : (p : OpOf N T A) (b : List (StepOf N T A)) (r : ℕ) (rs : RegionsOf N T A) (s : OpWithPathOf N T A) → In s (regions_stands p b r rs) → Stretch s (regions_stands p b r rs)
    regions_stretch p b r no_regions s k = absurd k
    regions_stretch p b r (region g rs) s k = elim (in_parts s (region_stands p b r g) (regions_stands p b (r + 1) rs) k) [
      | inl l ↦ longer_left s (region_stands p b r g) (regions_stands p b (r + 1) rs) (region_stretch p b r g s l)
      | inr l ↦ longer_right s (region_stands p b r g) (regions_stands p b (r + 1) rs) (regions_stretch p b (r + 1) rs s l)
    ]

    region_stretch : (p : OpOf N T A) (b : List (StepOf N T A)) (r : ℕ) (g : RegionOf N T A) (s : OpWithPathOf N T A) → In s (region_stands p b r g) → Stretch s (region_stands p b r g)
    region_stretch p b r empty s k = absurd k
    region_stretch p b r (block args os) s k = ops_stretch p b r args [] os s k

    ops_stretch : (p : OpOf N T A) (b : List (StepOf N T A)) (r : ℕ) (args : List T) (preceding : List (OpOf N T A)) (os : OpsOf N T A) (s : OpWithPathOf N T A) → In s (ops_stands p b r args preceding os) → Stretch s (ops_stands p b r args preceding os)
    ops_stretch p b r args preceding no_ops s k = absurd k
    ops_stretch p b r args preceding (next o os) s k = elim (in_parts s (stands (step p r args preceding os ∷ b) o) (ops_stands p b r args (preceding ++ o ∷ []) os) k) [
      | inl l ↦ longer_left s (stands (step p r args preceding os ∷ b) o) (ops_stands p b r args (preceding ++ o ∷ []) os) (stretch (step p r args preceding os ∷ b) o s l)
      | inr l ↦ longer_right s (stands (step p r args preceding os ∷ b) o) (ops_stands p b r args (preceding ++ o ∷ []) os) (ops_stretch p b r args (preceding ++ o ∷ []) os s l)
    ]

  -- two members of one id are in the same part of a list
  parted : (ss us : List (OpWithPathOf N T A)) → IsDistinct eqb (map (λ (z : OpWithPathOf N T A). op_with_path_id z) (ss ++ us)) → (s u : OpWithPathOf N T A) → In s ss → In u us → op_with_path_id s ≡ op_with_path_id u → ⊥
  parted ss us d s u h k e =
      let two = halves (map (λ (z : OpWithPathOf N T A). op_with_path_id z) ss) (map (λ (z : OpWithPathOf N T A). op_with_path_id z) us) (subst (IsDistinct eqb) (map-append (λ (z : OpWithPathOf N T A). op_with_path_id z) ss us) d) in
      let a = there ss s h in
      let b = two.disjoint (op_with_path_id s) a in
      true≢false (sym (there us u k) ∙ ap (λ y. list_any (λ z. eqb z y) (map (λ (z : OpWithPathOf N T A). op_with_path_id z) us)) (sym e) ∙ b)
    where
      there : (ss : List (OpWithPathOf N T A)) (s : OpWithPathOf N T A) → In s ss → list_any (λ z. eqb z (op_with_path_id s)) (map (λ (z : OpWithPathOf N T A). op_with_path_id z) ss) ≡ true
      there ss s h = any_ids (λ (z : OpWithPathOf N T A). op_with_path_id z) (op_with_path_id s) ss ∙ any_one (λ (z : OpWithPathOf N T A). eqb (op_with_path_id z) (op_with_path_id s)) ss s h (eq-eqb (op_with_path_id s) (op_with_path_id s) refl)

  -- the list of a tree, split by operation x
  pub record Parted (x : ℕ) (path : List (StepOf N T A)) (o t : OpOf N T A) : Type 0 where
    pub preceding : List (OpWithPathOf N T A)
    pub back : List (OpWithPathOf N T A)
    pub is : stands [] t ≡ preceding ++ (stands path o ++ back)
    pub gone : filter (is_gone x) (stands [] t) ≡ stands path o
    pub kept : filter (keep x) (stands [] t) ≡ preceding ++ back
    pub left : stands [] (without x t) ≡ map (left_stand x) (preceding ++ back)

  pub part : (t : OpOf N T A) → HasDistinctIds t → (o : OpOf N T A) (a : StepOf N T A) (q : List (StepOf N T A)) → In (stand o (a ∷ q)) (stands [] t) → Parted (head o).id (a ∷ q) o t
  part t d o a q h = record {
    preceding = w.preceding;
    back = w.back;
    is = w.is;
    gone = ap (filter (is_gone x)) w.is ∙ filter-append (is_gone x) w.preceding (mid ++ w.back)
        ∙ ((λ i. filter_none (is_gone x) w.preceding preceding_stays i ++ filter-append (is_gone x) mid w.back i)
        ∙ ((λ i. filter_all (is_gone x) mid mid_goes i ++ filter_none (is_gone x) w.back back_stays i) ∙ append-nil mid));
    kept = kept;
    left = without_stands x t ∙ ap (map (left_stand x)) kept;
  }
    where
      x : ℕ
      x = (head o).id

      w : Stretch (stand o (a ∷ q)) (stands [] t)
      w = stretch [] t (stand o (a ∷ q)) h

      mid : List (OpWithPathOf N T A)
      mid = stands (a ∷ q) o

      own : gone_in (head o).id o (a ∷ q) ≡ true
      own = or_left (eqb (head o).id (head o).id) (gone_in (head o).id a.parent q) (eq-eqb (head o).id (head o).id refl)

      d' : IsDistinct eqb (map (λ (z : OpWithPathOf N T A). op_with_path_id z) (w.preceding ++ (mid ++ w.back)))
      d' = subst (λ (l : List (OpWithPathOf N T A)). IsDistinct eqb (map (λ (z : OpWithPathOf N T A). op_with_path_id z) l)) w.is (subst (IsDistinct eqb) (sym (stands_ids [] t)) d)

      d'' : IsDistinct eqb (map (λ (z : OpWithPathOf N T A). op_with_path_id z) (mid ++ w.back))
      d'' = (halves (map (λ (z : OpWithPathOf N T A). op_with_path_id z) w.preceding) (map (λ (z : OpWithPathOf N T A). op_with_path_id z) (mid ++ w.back)) (subst (IsDistinct eqb) (map-append (λ (z : OpWithPathOf N T A). op_with_path_id z) w.preceding (mid ++ w.back)) d')).right

      -- the removed operations are in the middle
      inside : (s : OpWithPathOf N T A) → In s (stands [] t) → is_gone (head o).id s ≡ true → In s (stands (a ∷ q) o)
      inside s k e =
          let v = gone_within (head o).id t s.path s.here k e in
          let same = same_stand t d (stand v.here (v.step_in ∷ v.path)) (stand o (a ∷ q)) v.there h v.id in
          subst (λ (z : OpWithPathOf N T A). In s (stands z.path z.here)) same v.inner

      back_in : (l : List (OpWithPathOf N T A)) (s : OpWithPathOf N T A) → In s l → l ≡ stands [] t → In s (stands [] t)
      back_in l s k e = subst (In s) e k

      preceding_stays : (s : OpWithPathOf N T A) → In s w.preceding → is_gone (head o).id s ≡ false
      preceding_stays s k = elim (bool_cases (is_gone (head o).id s)) [
        | inr e ↦ e
        | inl e ↦ absurd (parted w.preceding (mid ++ w.back) d' s s k (in_left s mid w.back (inside s (back_in (w.preceding ++ (mid ++ w.back)) s (in_left s w.preceding (mid ++ w.back) k) (sym w.is)) e)) refl)
      ]

      back_stays : (s : OpWithPathOf N T A) → In s w.back → is_gone (head o).id s ≡ false
      back_stays s k = elim (bool_cases (is_gone (head o).id s)) [
        | inr e ↦ e
        | inl e ↦ absurd (parted mid w.back d'' s s (inside s (back_in (w.preceding ++ (mid ++ w.back)) s (in_right s w.preceding (mid ++ w.back) (in_right s mid w.back k)) (sym w.is)) e) k refl)
      ]

      mid_goes : (s : OpWithPathOf N T A) → In s mid → is_gone (head o).id s ≡ true
      mid_goes s k = within_gone (head o).id o (a ∷ q) own s k

      kept : filter (keep (head o).id) (stands [] t) ≡ w.preceding ++ w.back
      kept =
          ap (filter (keep x)) w.is
          ∙ filter-append (keep x) w.preceding (mid ++ w.back)
          ∙ (λ i. filter_all (keep x) w.preceding (λ s k. ap not (preceding_stays s k)) i ++ (filter-append (keep x) mid w.back ∙ λ j. op_goes x (a ∷ q) o own j ++ filter_all (keep x) w.back (λ s k. ap not (back_stays s k)) j) i)

  -- lists computed from an operation's head are unchanged
  pub gather_left : {Y : Type 0} (f : OpWithPathOf N T A → List Y) (x : ℕ) → ((s : OpWithPathOf N T A) → f (left_stand x s) ≡ f s) → (ss : List (OpWithPathOf N T A)) → gather f (map (left_stand x) ss) ≡ gather f ss
  gather_left f x same [] = refl
  gather_left f x same (s ∷ ss) = λ i. same s i ++ gather_left f x same ss i

  left_uses : (v : Value) (x : ℕ) (s : OpWithPathOf N T A) → operand_uses v (op_with_path_id (left_stand x s)) 0 (head (left_stand x s).here).operands ≡ operand_uses v (op_with_path_id s) 0 (head s.here).operands
  left_uses v x s = ap (λ (h : HeadOf N T A). operand_uses v h.id 0 h.operands) (same_head x (dropping x) s.here)

  ids_left : (x : ℕ) (ss : List (OpWithPathOf N T A)) → map (λ (z : OpWithPathOf N T A). op_with_path_id z) (map (left_stand x) ss) ≡ map (λ (z : OpWithPathOf N T A). op_with_path_id z) ss
  ids_left x [] = refl
  ids_left x (s ∷ ss) = λ i. (same_head x (dropping x) s.here i).id ∷ ids_left x ss i

  module _ (x : ℕ) (path : List (StepOf N T A)) (o t : OpOf N T A) (w : Parted x path o t) where
    abbrev preceding_ids : List ℕ
    preceding_ids = map (λ (z : OpWithPathOf N T A). op_with_path_id z) w.preceding

    abbrev back_ids : List ℕ
    back_ids = map (λ (z : OpWithPathOf N T A). op_with_path_id z) w.back

    pub parted_ids : ids t ≡ map (λ (z : OpWithPathOf N T A). op_with_path_id z) w.preceding ++ (ids o ++ map (λ (z : OpWithPathOf N T A). op_with_path_id z) w.back)
    parted_ids =
        sym (stands_ids [] t)
        ∙ ap (map (λ (z : OpWithPathOf N T A). op_with_path_id z)) w.is
        ∙ map-append (λ (z : OpWithPathOf N T A). op_with_path_id z) w.preceding (stands path o ++ w.back)
        ∙ ap (λ l. preceding_ids ++ l) (map-append (λ (z : OpWithPathOf N T A). op_with_path_id z) (stands path o) w.back ∙ ap (λ l. l ++ back_ids) (stands_ids path o))

    pub left_ids : ids (without x t) ≡ map (λ (z : OpWithPathOf N T A). op_with_path_id z) w.preceding ++ map (λ (z : OpWithPathOf N T A). op_with_path_id z) w.back
    left_ids =
        sym (stands_ids [] (without x t))
        ∙ ap (map (λ (z : OpWithPathOf N T A). op_with_path_id z)) w.left
        ∙ ids_left x (w.preceding ++ w.back)
        ∙ map-append (λ (z : OpWithPathOf N T A). op_with_path_id z) w.preceding w.back

    pub parted_count : op_count t ≡ op_count (without x t) + op_count o
    parted_count =
        let a = ap length parted_ids in
        let b = ap length left_ids in
        let c = length-append preceding_ids (ids o ++ back_ids) in
        let e = length-append (ids o) back_ids in
        let f = length-append preceding_ids back_ids in
        omega (arith, a, b, c, e, f)

    abbrev used : Value → OpWithPathOf N T A → List (ℕ × ℕ)
    used v s = operand_uses v (op_with_path_id s) 0 (head s.here).operands

    pub parted_uses : (v : Value) → uses_of v t ≡ gather (λ s. operand_uses v (op_with_path_id s) 0 (head s.here).operands) w.preceding ++ (uses_of v o ++ gather (λ s. operand_uses v (op_with_path_id s) 0 (head s.here).operands) w.back)
    parted_uses v =
        sym (stands_uses v [] t)
        ∙ ap (gather (used v)) w.is
        ∙ gather-append (used v) w.preceding (stands path o ++ w.back)
        ∙ ap (λ l. gather (used v) w.preceding ++ l) (gather-append (used v) (stands path o) w.back ∙ ap (λ l. l ++ gather (used v) w.back) (stands_uses v path o))

    pub left_uses_of : (v : Value) → uses_of v (without x t) ≡ gather (λ s. operand_uses v (op_with_path_id s) 0 (head s.here).operands) w.preceding ++ gather (λ s. operand_uses v (op_with_path_id s) 0 (head s.here).operands) w.back
    left_uses_of v =
        sym (stands_uses v [] (without x t))
        ∙ ap (gather (used v)) w.left
        ∙ gather_left (used v) x (left_uses v x) (w.preceding ++ w.back)
        ∙ gather-append (used v) w.preceding w.back
