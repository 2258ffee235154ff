-- The fold of an operation, computed from the known numbers of its operands, is in range of its kind and refines what
-- the operation computes from its operands' outcomes, where some outcomes may be poison.
use Rattle.std.proofs.Common.{◌≡◌, ℕ, refl, ap, sym, ◌∙◌, subst, List, [], ◌∷◌, Bool, true, false, true≢false, ◌&&◌, not, Option, Some, None, inl, inr}
use Rattle.std.specs.Prelude.{◌==◌, codes, if◌then◌else◌}
use Rattle.std.specs.List.{list_all}
use Rattle.std.specs.Option.{option_map}
use Rattle.std.proofs.lemmas.Bool.{and_parts}
use Rattle.std.proofs.lemmas.Option.{none-some, same_Some}
use Rattle.ir_types.specs.declared.bits.BitsKind.{BitsKind}
use Rattle.ir_types.specs.declared.bits.BitsKind.TheVariants as kind
use Rattle.ir_types.specs.Bits.{is_bits, width_of}
use Rattle.ir_types.specs.Reasons.{is_width}
use Rattle.ir_types.specs.Terms.{AttrTerm, TypeTerm}
use Rattle.dialects_int.specs.declared.operations.Arithmetic.{Arithmetic}
use Rattle.dialects_int.specs.declared.operations.Cast.{Cast}
use Rattle.dialects_int.specs.declared.operations.Predicate.{Predicate}
use Rattle.dialects_int.specs.declared.operations.Rule.{Rule}
use Rattle.dialects_int.specs.declared.operations.Rule.TheVariants as rule
use Rattle.dialects_int.specs.Arithmetic.{absorbs, cast_of, choice_of, comparison_of, truth, value_of}
use Rattle.dialects_int.specs.Folds.{IsWithin, Known, alone, requested, bits_at, both, compare_fold, compared, fold_by, fold_of, is_property, kind_of, or_else, pair_fold, property_of, resized, rule_of, same_kind, select_fold, together, with}
use Rattle.dialects_int.proofs.KnowingMore.{knowing_more}
use Rattle.dialects_int.proofs.KnownOperands.{pair_folds}
use Rattle.user_patterns_check.specs.Checks.{refines}
use Rattle.user_patterns_check.specs.Outcomes.{Outcome, compare_outcome, divides, is_some_number, pair_outcome, resize_any, resize_outcome, select_outcome}
use Rattle.user_patterns_check.proofs.Keeping.{same_kinds, value_refined}
use Rattle.patterns_laws.proofs.KnownFolds.{below, fine_of, given_at, given_some, mapped_some}
use Rattle.user_patterns_data.specs.Matching.{Header}
use Rattle.patterns_refinement.specs.Meaning.{makes_by, of_two}
use Rattle.patterns_refinement.specs.Better.{AreOf, are_its_bits, is_kind, takes}
use Rattle.patterns_refinement.proofs.Firsts.{chosen_kept, poison_refined}
use Rattle.patterns_refinement.proofs.Monotone.{kind_of_operand, none_made, same_refined}
use Rattle.patterns_refinement.proofs.OfBits.{IsOfBits, resize_bits}
use Rattle.patterns_refinement.proofs.OfKinds.{IsKind}
use Rattle.patterns_refinement.proofs.Pairs.{pair_known, value_fits}
use Rattle.patterns_refinement.proofs.Sources.{Resized, resized as cast_there}

-- ---- known numbers of operands
-- the known number of an operand is its outcome, or the outcome is poison
abbrev pub Says : Option Known → Outcome → Type 0
Says y x = (v : Known) → y ≡ Some v → refines x (Some v) ≡ true

abbrev pub AllSay : List (Option Known) → List Outcome → Type 0
AllSay [] [] = Unit {0}
AllSay [] (x ∷ xs) = ⊥
AllSay (y ∷ ys) [] = ⊥
AllSay (y ∷ ys) (x ∷ xs) = Says y x × AllSay ys xs

-- known numbers are in range of their kinds
abbrev pub AllHaveBits : List (Option Known) → Type 0
AllHaveBits [] = Unit {0}
AllHaveBits (y ∷ ys) = IsOfBits y × AllHaveBits ys

within : (y : Option Known) (x : Known) → Says y (Some x) → IsWithin y (Some x)
within y x h v e = sym (value_refined x (Some v) (h v e))

at_kind : (k : BitsKind) (y : Option Known) (n : ℕ) → bits_at k y ≡ Some n → y ≡ Some (k, n)
at_kind k None n e = absurd (none-some n e)
at_kind k (Some v) n e = go (same_kind v.0 k) refl e
  where
    go : (b : Bool) → same_kind v.0 k ≡ b → (if b then Some v.1 else None) ≡ Some n → Some v ≡ Some (k, n)
    go true i e = let s = same_kinds v.0 k i in let t = same_Some _ _ e in (λ j. Some (s j, t j))
    go false i e = absurd (none-some n e)

-- ---- folds
pub record Folded (name : List ℕ) (props : List (List ℕ × AttrTerm)) (ys : List (Option Known)) (results : List TypeTerm) (v : Known) : Type 0 where
  pub how : Rule
  pub by : rule_of name ≡ Some how
  pub ty : TypeTerm
  pub results_are : results ≡ ty ∷ []
  pub of : kind_of ty ≡ Some v.0
  pub value : fold_by how props v.0 ys ≡ Some v.1

pub folded : (name : List ℕ) (props : List (List ℕ × AttrTerm)) (ys : List (Option Known)) (results : List TypeTerm) (v : Known) → fold_of name props ys results ≡ Some v → Folded name props ys results v
unfolding fold_of
folded name props ys [] v e = absurd (none-some v e)
folded name props ys (ty ∷ uy ∷ tys) v e = absurd (none-some v e)
folded name props ys (ty ∷ []) v e = go (list_all (is_property name) props) (rule_of name) refl (kind_of ty) refl e
  where
    valued : (r : Rule) (k : BitsKind) → rule_of name ≡ Some r → kind_of ty ≡ Some k → (o : Option ℕ) → fold_by r props k ys ≡ o → option_map (λ bits. (k, bits)) o ≡ Some v → Folded name props ys (ty ∷ []) v
    valued r k i j None f e = absurd (none-some v e)
    valued r k i j (Some n) f e =
        let same : (k, n) ≡ v = same_Some _ _ e in
        let value_types : k ≡ v.0 = ap (λ (w : Known). w.0) same in
        record {
          how = r;
          by = i;
          ty = ty;
          results_are = refl;
          of = j ∙ ap (λ k. Some k) value_types;
          value = sym (ap (λ k. fold_by r props k ys) value_types) ∙ f ∙ ap (λ (w : Known). Some w.1) same;
        }

    go : (b : Bool) (r : Option Rule) → rule_of name ≡ r → (k : Option BitsKind) → kind_of ty ≡ k → (if b then with (λ r. with (λ k. option_map (λ bits. (k, bits)) (fold_by r props k ys)) k) r else None) ≡ Some v → Folded name props ys (ty ∷ []) v
    go false r i k j e = absurd (none-some v e)
    go true None i k j e = absurd (none-some v e)
    go true (Some r) i None j e = absurd (none-some v e)
    go true (Some r) i (Some k) j e = valued r k i j (fold_by r props k ys) refl e

-- ---- the fold refines the outcome
module _ (h : Header) (ty : TypeTerm) (k : BitsKind) (n : ℕ) where
  abbrev Refined : Outcome → Type 0
  Refined z = refines z (Some (k, n)) ≡ true

  abbrev FoldsTo : List (Option Known) → Type 0
  FoldsTo ys = fold_of h.name h.properties ys (ty ∷ []) ≡ Some (k, n)

  poison : (z : Outcome) → z ≡ None → Refined z
  poison z e = poison_refined z (Some (k, n)) e

  -- a binary operation
  both_known : (o : Arithmetic) → rule_of h.name ≡ Some (rule.Binary o) → kind_of ty ≡ Some k → (a b : Known) → a.0 ≡ k → b.0 ≡ k → is_bits a.0 a.1 ≡ true → is_bits b.0 b.1 ≡ true
      → FoldsTo (Some a ∷ Some b ∷ []) → pair_outcome o (Some a) (Some b) ≡ Some (Some (k, n))
  both_known o by of a b ka kb ha hb e =
      let fine = fine_of h.name h.properties (Some a ∷ Some b ∷ []) ty (k, n) e in
      let first : a ≡ (k, a.1) = (λ i. (ka i, a.1)) in
      let second : b ≡ (k, b.1) = (λ i. (kb i, b.1)) in
      let there : FoldsTo (Some (k, a.1) ∷ Some (k, b.1) ∷ []) = sym (λ i. fold_of h.name h.properties (Some (first i) ∷ Some (second i) ∷ []) (ty ∷ [])) ∙ e in
      let number =
      mapped_some k (value_of o (width_of k) a.1 b.1) (k, n)
      (sym (pair_folds h.name o h.properties ty k (record { by = by; fine = fine; kind = of }) a.1 b.1 (below k a.1 (subst (λ k. is_bits k a.1 ≡ true) ka ha)) (below k b.1 (subst (λ k. is_bits k b.1 ≡ true) kb hb))) ∙ there) in
      (λ i. pair_outcome o (Some (first i)) (Some (second i))) ∙ pair_known o k a.1 b.1 number.0 number.1 ∙ ap (λ (v : Known). Some (Some v)) number.2

  pair_kept : (o : Arithmetic) → rule_of h.name ≡ Some (rule.Binary o) → kind_of ty ≡ Some k → (y w : Option Known) (p q z : Outcome) → IsKind k p → IsKind k q → IsOfBits p → IsOfBits q → Says y p → Says w q
      → FoldsTo (y ∷ w ∷ []) → pair_outcome o p q ≡ Some z → Refined z
  pair_kept o by of y w None q z kp kq hp hq s t e m = poison z (none_made (divides o && not (is_some_number q)) z m).1
  pair_kept o by of y w (Some a) None z kp kq hp hq s t e m = poison z (none_made (divides o) z m).1
  pair_kept o by of y w (Some a) (Some b) z kp kq hp hq s t e m =
      let more = knowing_more h.name h.properties (y ∷ w ∷ []) (Some a ∷ Some b ∷ []) (ty ∷ []) (k, n) (within y a s, (within w b t, tt)) e in
      same_refined z (Some (k, n)) (sym (same_Some _ _ (sym (both_known o by of a b (kp a refl) (kq b refl) (hp a refl) (hq b refl) more) ∙ m)))

  -- a comparison
  compare_kept : (q : Predicate) (y w : Option Known) (u v z : Outcome) → rule_of h.name ≡ Some rule.Compare → requested (property_of (codes "predicate") h.properties) ≡ Some q → Says y u → Says w v
      → FoldsTo (y ∷ w ∷ []) → compare_outcome q u v ≡ Some z → Refined z
  compare_kept q y w None v z by p s t e m = poison z (sym (same_Some _ _ m))
  compare_kept q y w (Some a) None z by p s t e m = poison z (sym (same_Some _ _ m))
  compare_kept q y w (Some a) (Some b) z by p s t e m =
      let more = knowing_more h.name h.properties (y ∷ w ∷ []) (Some a ∷ Some b ∷ []) (ty ∷ []) (k, n) (within y a s, (within w b t, tt)) e in
      let f = folded h.name h.properties (Some a ∷ Some b ∷ []) (ty ∷ []) (k, n) more in
      let same : f.how ≡ rule.Compare = same_Some _ _ (sym f.by ∙ by) in
      go (same_kind k (kind.Int 1)) refl (same_kind a.0 b.0) (sym (ap (λ p. compare_fold p k (Some a ∷ Some b ∷ [])) p) ∙ (λ i. fold_by (sym same i) h.properties k (Some a ∷ Some b ∷ [])) ∙ f.value) m
    where
      go : (c : Bool) → same_kind k (kind.Int 1) ≡ c → (d : Bool) → (if c then (if d then Some (truth (comparison_of (width_of a.0) q a.1 b.1)) else None) else None) ≡ Some n
          → (if d then Some (Some (kind.Int 1, truth (comparison_of (width_of a.0) q a.1 b.1))) else None) ≡ Some z → Refined z
      go false i d f g = absurd (none-some n f)
      go true i false f g = absurd (none-some n f)
      go true i true f g = let s = sym (same_kinds k (kind.Int 1) i) in let t = same_Some _ _ f in same_refined z (Some (k, n)) (sym (same_Some _ _ g) ∙ (λ i. Some (s i, t i)))

  -- a `select`
  select_kept : (c y w : Option Known) (d u v z : Outcome) → Says c d → Says y u → Says w v → select_fold k (c ∷ y ∷ w ∷ []) ≡ Some n → select_outcome d u v ≡ Some z → Refined z
  select_kept c y w d u v z r s t e m = chosen_kept d u v (Some (k, n)) z (λ x i j. condition (bits_at (kind.Int 1) c) refl e x i) m
    where
      chosen : (b : Bool) → bits_at k (if b then w else y) ≡ Some n → Refined (if b then v else u)
      chosen true f = t (k, n) (at_kind k w n f)
      chosen false f = s (k, n) (at_kind k y n f)

      condition : (o : Option ℕ) → bits_at (kind.Int 1) c ≡ o → with (λ b. bits_at k (choice_of b y w)) o ≡ Some n → (x : Known) → d ≡ Some x → Refined (choice_of x.1 u v)
      condition None i f x e = absurd (none-some n f)
      condition (Some b) i f x e =
          let known = r (kind.Int 1, b) (at_kind (kind.Int 1) c b i) in
          let same : (kind.Int 1, b) ≡ x = same_Some _ _ (value_refined x (Some (kind.Int 1, b)) (subst (λ o. refines o (Some (kind.Int 1, b)) ≡ true) e known)) in
          chosen (x.1 == 0) (ap (λ (x : Known). bits_at k (choice_of x.1 y w)) (sym same) ∙ f)

  -- a cast
  cast_kept : (c : Cast) (v : Known) (x z : Outcome) → Says (Some v) x → cast_of c (width_of v.0) (width_of k) v.1 ≡ Some n → resize_outcome c k x ≡ Some z → Refined z
  cast_kept c v x z s e m = elim (cast_there c k x z m) [
    | inl none ↦ poison z none
    | inr r ↦ there r
  ]
    where
      there : Resized c k x z → Refined z
      there r =
          let same : r.known ≡ v = same_Some _ _ (sym (value_refined r.known (Some v) (subst (λ o. refines o (Some v) ≡ true) r.is (s v refl)))) in
          let number : r.bits ≡ n = same_Some _ _ (sym r.cast ∙ ap (λ (v : Known). cast_of c (width_of v.0) (width_of k) v.1) same ∙ e) in
          same_refined z (Some (k, n)) (r.gives ∙ ap (λ n. Some (k, n)) number)

between_integers : (c : Cast) (k : BitsKind) (v : Known) (n : ℕ) → resized c k v ≡ Some n → cast_of c (width_of v.0) (width_of k) v.1 ≡ Some n
between_integers c (kind.Int w) (kind.Int v, a) n e = e
between_integers c (kind.Int w) (kind.Index, a) n e = absurd (none-some n e)
between_integers c kind.Index (kind.Int v, a) n e = absurd (none-some n e)
between_integers c kind.Index (kind.Index, a) n e = absurd (none-some n e)

-- ---- by each rule
module _ (h : Header) (ty : TypeTerm) (k : BitsKind) (n : ℕ) (of : kind_of ty ≡ Some k) (results : h.results ≡ ty ∷ []) where
  abbrev Result : Rule → Type 0
  Result r =
      (js : List (Option BitsKind)) (ys : List (Option Known)) (xs : List Outcome) (z : Outcome) → rule_of h.name ≡ Some r → takes r h k js ≡ true → AreOf js xs → AllHaveBits xs → AllSay ys xs
      → fold_of h.name h.properties ys (ty ∷ []) ≡ Some (k, n) → fold_by r h.properties k ys ≡ Some n → makes_by r h k xs ≡ Some z → refines z (Some (k, n)) ≡ true

  by_constant : Result rule.Constant
  by_constant js (y ∷ ys) xs z by t ka ha s e f m = absurd (none-some n f)
  by_constant js [] xs z by t ka ha s e f m =
      same_refined z (Some (k, n))
      (sym (same_Some _ _ (sym (given_at (fold_of h.name h.properties [] h.results) (k, n) (λ x. Some (Some x)) (Some (Some (k, n))) (ap (fold_of h.name h.properties []) results ∙ e) refl) ∙ m)))

  by_pair : (o : Arithmetic) → Result (rule.Binary o)
  by_pair o js [] xs z by t ka ha s e f m = absurd (none-some n f)
  by_pair o js (y ∷ []) xs z by t ka ha s e f m = absurd (none-some n f)
  by_pair o js (y ∷ w ∷ u ∷ ys) xs z by t ka ha s e f m = absurd (none-some n f)
  by_pair o js (y ∷ w ∷ []) [] z by t ka ha s e f m = absurd s
  by_pair o js (y ∷ w ∷ []) (p ∷ []) z by t ka ha s e f m = absurd s.1
  by_pair o js (y ∷ w ∷ []) (p ∷ q ∷ r ∷ xs) z by t ka ha s e f m = absurd s.1.1
  by_pair o [] (y ∷ w ∷ []) (p ∷ q ∷ []) z by t ka ha s e f m = absurd (true≢false (sym t))
  by_pair o (i ∷ []) (y ∷ w ∷ []) (p ∷ q ∷ []) z by t ka ha s e f m = absurd (true≢false (sym t))
  by_pair o (i ∷ j ∷ l ∷ js) (y ∷ w ∷ []) (p ∷ q ∷ []) z by t ka ha s e f m = absurd (true≢false (sym t))
  by_pair o (i ∷ j ∷ []) (y ∷ w ∷ []) (p ∷ q ∷ []) z by t ka ha s e f m =
      let g = and_parts (is_kind k i) (is_kind k j) t in
      pair_kept h ty k n o by of y w p q z (kind_of_operand k i p g.0 ka.0) (kind_of_operand k j q g.1 ka.1.0) ha.0 ha.1.0 s.0 s.1.0 e m

  by_compare : Result rule.Compare
  by_compare js [] xs z by t ka ha s e f m = absurd (none-some n f)
  by_compare js (y ∷ []) xs z by t ka ha s e f m = absurd (none-some n f)
  by_compare js (y ∷ w ∷ u ∷ ys) xs z by t ka ha s e f m = absurd (none-some n f)
  by_compare js (y ∷ w ∷ []) [] z by t ka ha s e f m = absurd s
  by_compare js (y ∷ w ∷ []) (p ∷ []) z by t ka ha s e f m = absurd s.1
  by_compare js (y ∷ w ∷ []) (p ∷ q ∷ r ∷ xs) z by t ka ha s e f m = absurd s.1.1
  by_compare js (y ∷ w ∷ []) (p ∷ q ∷ []) z by t ka ha s e f m =
      let a = given_some (requested (property_of (codes "predicate") h.properties)) (λ a. of_two (compare_outcome a) (p ∷ q ∷ [])) z m in
      compare_kept h ty k n a.0 y w p q z by a.1 s.0 s.1.0 e a.2

  by_select : Result rule.Select
  by_select js [] xs z by t ka ha s e f m = absurd (none-some n f)
  by_select js (c ∷ []) xs z by t ka ha s e f m = absurd (none-some n f)
  by_select js (c ∷ y ∷ []) xs z by t ka ha s e f m = absurd (none-some n f)
  by_select js (c ∷ y ∷ w ∷ u ∷ ys) xs z by t ka ha s e f m = absurd (none-some n f)
  by_select js (c ∷ y ∷ w ∷ []) [] z by t ka ha s e f m = absurd s
  by_select js (c ∷ y ∷ w ∷ []) (d ∷ []) z by t ka ha s e f m = absurd s.1
  by_select js (c ∷ y ∷ w ∷ []) (d ∷ p ∷ []) z by t ka ha s e f m = absurd s.1.1
  by_select js (c ∷ y ∷ w ∷ []) (d ∷ p ∷ q ∷ r ∷ xs) z by t ka ha s e f m = absurd s.1.1.1
  by_select js (c ∷ y ∷ w ∷ []) (d ∷ p ∷ q ∷ []) z by t ka ha s e f m = select_kept h ty k n c y w d p q z s.0 s.1.0 s.1.1.0 f m

  by_resize : (c : Cast) → Result (rule.IntegerCast c)
  by_resize c js [] xs z by t ka ha s e f m = absurd (none-some n f)
  by_resize c js (y ∷ w ∷ ys) xs z by t ka ha s e f m = absurd (none-some n f)
  by_resize c js (None ∷ []) xs z by t ka ha s e f m = absurd (none-some n f)
  by_resize c js (Some v ∷ []) [] z by t ka ha s e f m = absurd s
  by_resize c js (Some v ∷ []) (p ∷ q ∷ xs) z by t ka ha s e f m = absurd s.1
  by_resize c js (Some v ∷ []) (p ∷ []) z by t ka ha s e f m = cast_kept h ty k n c v p z s.0 (between_integers c k v n f) m

  by_index_cast : (c : Cast) → Result (rule.IndexCast c)
  by_index_cast c js [] xs z by t ka ha s e f m = absurd (none-some n f)
  by_index_cast c js (y ∷ w ∷ ys) xs z by t ka ha s e f m = absurd (none-some n f)
  by_index_cast c js (None ∷ []) xs z by t ka ha s e f m = absurd (none-some n f)
  by_index_cast c js (Some v ∷ []) [] z by t ka ha s e f m = absurd s
  by_index_cast c js (Some v ∷ []) (p ∷ q ∷ xs) z by t ka ha s e f m = absurd s.1
  by_index_cast c js (Some v ∷ []) (p ∷ []) z by t ka ha s e f m = cast_kept h ty k n c v p z s.0 f m

  pub fold_kept : (r : Rule) → Result r
  fold_kept rule.Constant js ys xs z by t ka ha s e f m = by_constant js ys xs z by t ka ha s e f m
  fold_kept (rule.Binary o) js ys xs z by t ka ha s e f m = by_pair o js ys xs z by t ka ha s e f m
  fold_kept rule.Compare js ys xs z by t ka ha s e f m = by_compare js ys xs z by t ka ha s e f m
  fold_kept rule.Select js ys xs z by t ka ha s e f m = by_select js ys xs z by t ka ha s e f m
  fold_kept (rule.IntegerCast c) js ys xs z by t ka ha s e f m = by_resize c js ys xs z by t ka ha s e f m
  fold_kept (rule.IndexCast c) js ys xs z by t ka ha s e f m = by_index_cast c js ys xs z by t ka ha s e f m

-- ---- the fold is in range
at_bits : (k : BitsKind) (y : Option Known) (n : ℕ) → IsOfBits y → bits_at k y ≡ Some n → is_bits k n ≡ true
at_bits k y n h e = h (k, n) (at_kind k y n e)

pair_fits : (o : Arithmetic) (k : BitsKind) (y w : Option Known) (n : ℕ) → IsOfBits y → IsOfBits w → pair_fold o k (y ∷ w ∷ []) ≡ Some n → is_bits k n ≡ true
pair_fits o k y w n g h e = go (bits_at k y) refl (bits_at k w) refl e
  where
    one : (b : Bool) (a : ℕ) → is_bits k a ≡ true → (if b then Some a else None) ≡ Some n → is_bits k n ≡ true
    one true a f e = subst (λ a. is_bits k a ≡ true) (same_Some _ _ e) f
    one false a f e = absurd (none-some n e)

    other : (b c : Bool) (a d : ℕ) → is_bits k a ≡ true → is_bits k d ≡ true → or_else (if b then Some a else None) (or_else (if c then Some d else None) (value_of o (width_of k) a d)) ≡ Some n → is_bits k n ≡ true
    other true c a d f i e = subst (λ a. is_bits k a ≡ true) (same_Some _ _ e) f
    other false true a d f i e = subst (λ a. is_bits k a ≡ true) (same_Some _ _ e) i
    other false false a d f i e = value_fits o k a d n f i e

    first : (b : Bool) (a : ℕ) → or_else (if b then Some a else None) None ≡ Some n → (if b then Some a else None) ≡ Some n
    first true a e = e
    first false a e = e

    go : (p : Option ℕ) → bits_at k y ≡ p → (q : Option ℕ) → bits_at k w ≡ q → or_else (alone o (width_of k) p) (or_else (alone o (width_of k) q) (together o (width_of k) p q)) ≡ Some n → is_bits k n ≡ true
    go None i None j e = absurd (none-some n e)
    go None i (Some d) j e = one (absorbs o (width_of k) d) d (at_bits k w d h j) (first (absorbs o (width_of k) d) d e)
    go (Some a) i None j e = one (absorbs o (width_of k) a) a (at_bits k y a g i) (first (absorbs o (width_of k) a) a e)
    go (Some a) i (Some d) j e = other (absorbs o (width_of k) a) (absorbs o (width_of k) d) a d (at_bits k y a g i) (at_bits k w d h j) e

compare_fits : (p : Option Predicate) (k : BitsKind) (y w : Option Known) (n : ℕ) → compare_fold p k (y ∷ w ∷ []) ≡ Some n → is_bits k n ≡ true
compare_fits p k y w n e = go (same_kind k (kind.Int 1)) refl p e
  where
    truths : (b : Bool) → is_bits (kind.Int 1) (truth b) ≡ true
    truths true = refl
    truths false = refl

    known : (q : Predicate) (y w : Option Known) → both (compared q) y w ≡ Some n → is_bits (kind.Int 1) n ≡ true
    known q None w e = absurd (none-some n e)
    known q (Some a) None e = absurd (none-some n e)
    known q (Some a) (Some b) e = tested (same_kind a.0 b.0) e
      where
        tested : (c : Bool) → (if c then Some (truth (comparison_of (width_of a.0) q a.1 b.1)) else None) ≡ Some n → is_bits (kind.Int 1) n ≡ true
        tested true e = subst (λ n. is_bits (kind.Int 1) n ≡ true) (same_Some _ _ e) (truths (comparison_of (width_of a.0) q a.1 b.1))
        tested false e = absurd (none-some n e)

    go : (b : Bool) → same_kind k (kind.Int 1) ≡ b → (p : Option Predicate) → (if b then with (λ q. both (compared q) y w) p else None) ≡ Some n → is_bits k n ≡ true
    go false i p e = absurd (none-some n e)
    go true i None e = absurd (none-some n e)
    go true i (Some q) e = subst (λ k. is_bits k n ≡ true) (sym (same_kinds k (kind.Int 1) i)) (known q y w e)

select_fits : (k : BitsKind) (c y w : Option Known) (n : ℕ) → IsOfBits y → IsOfBits w → select_fold k (c ∷ y ∷ w ∷ []) ≡ Some n → is_bits k n ≡ true
select_fits k c y w n g h e = go (bits_at (kind.Int 1) c) e
  where
    chosen : (b : Bool) → bits_at k (if b then w else y) ≡ Some n → is_bits k n ≡ true
    chosen true e = at_bits k w n h e
    chosen false e = at_bits k y n g e

    go : (o : Option ℕ) → with (λ b. bits_at k (choice_of b y w)) o ≡ Some n → is_bits k n ≡ true
    go None e = absurd (none-some n e)
    go (Some b) e = chosen (b == 0) e

cast_fits : (c : Cast) (k : BitsKind) (v : Known) (n : ℕ) → is_width (width_of k) ≡ true → cast_of c (width_of v.0) (width_of k) v.1 ≡ Some n → is_bits k n ≡ true
cast_fits c k v n w e =
    resize_bits c k (Some v) (Some (k, n)) (ap (λ b. if b then resize_any c k (Some v) else None) w ∙ given_at (cast_of c (width_of v.0) (width_of k) v.1) n (λ b. Some (Some (k, b))) (Some (Some (k, n))) e refl) (k, n) refl

module _ (h : Header) (ty : TypeTerm) (k : BitsKind) (n : ℕ) (results : h.results ≡ ty ∷ []) where
  abbrev FitsBits : Rule → Type 0
  FitsBits r =
      (js : List (Option BitsKind)) (ys : List (Option Known)) → takes r h k js ≡ true → is_width (width_of k) ≡ true → AllHaveBits ys → fold_of h.name h.properties ys (ty ∷ []) ≡ Some (k, n)
      → fold_by r h.properties k ys ≡ Some n → is_bits k n ≡ true

  constant_fits : FitsBits rule.Constant
  constant_fits js (y ∷ ys) t w g e f = absurd (none-some n f)
  constant_fits js [] t w g e f = sym (ap are_its_bits (ap (fold_of h.name h.properties []) results ∙ e)) ∙ t

  pub fold_fits : (r : Rule) → FitsBits r
  fold_fits rule.Constant js ys t w g e f = constant_fits js ys t w g e f
  fold_fits (rule.Binary o) js [] t w g e f = absurd (none-some n f)
  fold_fits (rule.Binary o) js (y ∷ []) t w g e f = absurd (none-some n f)
  fold_fits (rule.Binary o) js (y ∷ v ∷ []) t w g e f = pair_fits o k y v n g.0 g.1.0 f
  fold_fits (rule.Binary o) js (y ∷ v ∷ u ∷ ys) t w g e f = absurd (none-some n f)
  fold_fits rule.Compare js [] t w g e f = absurd (none-some n f)
  fold_fits rule.Compare js (y ∷ []) t w g e f = absurd (none-some n f)
  fold_fits rule.Compare js (y ∷ v ∷ []) t w g e f = compare_fits (requested (property_of (codes "predicate") h.properties)) k y v n f
  fold_fits rule.Compare js (y ∷ v ∷ u ∷ ys) t w g e f = absurd (none-some n f)
  fold_fits rule.Select js [] t w g e f = absurd (none-some n f)
  fold_fits rule.Select js (c ∷ []) t w g e f = absurd (none-some n f)
  fold_fits rule.Select js (c ∷ y ∷ []) t w g e f = absurd (none-some n f)
  fold_fits rule.Select js (c ∷ y ∷ v ∷ []) t w g e f = select_fits k c y v n g.1.0 g.1.1.0 f
  fold_fits rule.Select js (c ∷ y ∷ v ∷ u ∷ ys) t w g e f = absurd (none-some n f)
  fold_fits (rule.IntegerCast c) js [] t w g e f = absurd (none-some n f)
  fold_fits (rule.IntegerCast c) js (None ∷ []) t w g e f = absurd (none-some n f)
  fold_fits (rule.IntegerCast c) js (Some v ∷ []) t w g e f = cast_fits c k v n w (between_integers c k v n f)
  fold_fits (rule.IntegerCast c) js (y ∷ v ∷ ys) t w g e f = absurd (none-some n f)
  fold_fits (rule.IndexCast c) js [] t w g e f = absurd (none-some n f)
  fold_fits (rule.IndexCast c) js (None ∷ []) t w g e f = absurd (none-some n f)
  fold_fits (rule.IndexCast c) js (Some v ∷ []) t w g e f = cast_fits c k v n w f
  fold_fits (rule.IndexCast c) js (y ∷ v ∷ ys) t w g e f = absurd (none-some n f)
