-- The new operations of a pattern that semantic analysis made take operands of the types that they need.
use Rattle.std.proofs.Common.{◌≡◌, ℕ, zero, suc, ◌+◌, ◌-◌, ◌<◌, ◌≤◌, Bool, true, false, true≢false, ◌&&◌, eqb, eqb-true, if◌then◌else◌, List, [], ◌∷◌, ◌++◌, length, map, get_or, Option, Some, None, refl, sym, ap, subst, ◌∙◌, ◌⊎◌, inl, inr, arith, slice_get}
use Rattle.std.specs.Prelude.{is_some, nat_le, nat_lt}
use Rattle.std.specs.List.{list_all, list_any, range_with_len}
use Rattle.std.proofs.lemmas.Bool.{and_from, and_parts, lt-ltb, ltb-true}
use Rattle.std.proofs.lemmas.Bool.Decides.{nat_tests}
use Rattle.std.proofs.lemmas.List.{length-map}
use Rattle.std.proofs.lemmas.List.FromFn.{length-map-range_with_len}
use Rattle.std.proofs.lemmas.Option.{get_or_from_slice_get, none-some, same_Some}
use Rattle.ir_types.specs.declared.bits.BitsKind.{BitsKind}
use Rattle.ir_types.specs.declared.bits.BitsKind.TheVariants as bits
use Rattle.dialects_int.specs.declared.operations.Cast.TheVariants as cast
use Rattle.user_patterns_text.specs.Parts.{Pattern}
use Rattle.user_patterns_data.specs.declared.pattern.PatternType.{PatternType}
use Rattle.user_patterns_data.specs.declared.pattern.PatternType.TheVariants as ty
use Rattle.user_patterns_data.specs.declared.pattern.Expression.{Expression}
use Rattle.user_patterns_data.specs.declared.pattern.Expression.TheVariants as form
use Rattle.user_patterns_data.specs.declared.pattern.ConstantExpression.{ConstantExpression}
use Rattle.user_patterns_data.specs.declared.pattern.ConstantExpression.TheVariants as number
use Rattle.user_patterns_data.specs.declared.pattern.NewValue.{NewValue}
use Rattle.user_patterns_data.specs.declared.pattern.NewValue.TheVariants as new
use Rattle.user_patterns_data.specs.declared.pattern.TypeConstraint.{TypeConstraint}
use Rattle.user_patterns_data.specs.declared.pattern.TypeConstraint.TheVariants as constraint
use Rattle.user_patterns_data.specs.Planning.{old_place, places}
use Rattle.user_patterns_data.specs.Shapes.{PatternModel}
use Rattle.user_patterns_data.specs.WellFormed.{is_new, is_well_formed, new_begins, new_ends, news_are_valid, olds_are_valid}
use Rattle.user_patterns_build.specs.CanBuild.{can_build, given_type, is_named, new_type, result_type, root_type, same_number, spares}
use Rattle.user_patterns_build.specs.Unified.{extra_in, given_in, is_same, kind_in, new_in, number_in, pattern_op_in, requested_in}
use Rattle.user_patterns_sema_base.specs.Names as names
use Rattle.user_patterns_sema_base.specs.Types.{kind_of}
use Rattle.user_patterns_sema.specs.declared.state.RequiredType.{RequiredType}
use Rattle.user_patterns_sema.specs.Sema.{Places, Sema, count_constants, is_determined, places_of}
use Rattle.user_patterns_sema.specs.Sema as sema
use Rattle.patterns_refinement.specs.ForOutcomes.{has_width, numbered, numbered_type, numbered_types}
use Rattle.patterns_refinement.specs.ByForm.{asks_narrower, extra_sort, form_taken, is_kinded_by_form, is_wide, is_written_less, new_taken, news_taken, number_sort, pattern_op_sort, sort_at, sorts_after, sorts_matched}
use Rattle.patterns_refinement.proofs.SemaSteps.{At, at_end, at_more, one_longer}
use Rattle.patterns_refinement.proofs.SemaNumbers.{computed_slot, place_slot, slot_for, slots, slots_after}
use Rattle.patterns_refinement.proofs.SemaOperands.{FormTyped, IsOf}
use Rattle.patterns_refinement.proofs.SemaNews.{NewBegun, NewSlot, NewTyped}
use Rattle.patterns_refinement.proofs.SemaForm.{Analyzed, Counted}
use Rattle.patterns_refinement.proofs.SemaPlaces.{any_of, mapped, number_kind, number_same, number_within, or_right, range_at, recorded_wide, same_type_itself, unified_pattern, vt, vt_at}

-- ---- sorts of places
numbered_sort : (i : ℕ) (xs : List PatternType) (t : ℕ) → t < length xs → sort_at (numbered_types i xs) t ≡ numbered_type (i + t) (kind_in xs t)
numbered_sort i [] t l = absurd (omega (arith, l))
numbered_sort i (s ∷ xs) zero l = ap (λ z. numbered_type z s) (same i)
  where
    same : (i : ℕ) → i ≡ i + 0
    same i = omega arith
numbered_sort i (s ∷ xs) (suc t) l = numbered_sort (i + 1) xs t (omega (arith, l)) ∙ ap (λ z. numbered_type z (kind_in xs t)) (same i t)
  where
    same : (i t : ℕ) → i + 1 + t ≡ i + suc t
    same i t = omega arith

after_more : {X : Type 0} (h : List PatternType → X → PatternType) (xs : List X) (es : List PatternType) (i : ℕ) (x : PatternType) → slice_get es i ≡ Some x → slice_get (sorts_after h xs es) i ≡ Some x
after_more h [] es i x e = e
after_more h (y ∷ xs) es i x e = after_more h xs (es ++ (h es y ∷ [])) i x (at_more es (h es y ∷ []) i x e)

after_long : {X : Type 0} (h : List PatternType → X → PatternType) (xs : List X) (es : List PatternType) → length (sorts_after h xs es) ≡ length es + length xs
after_long h [] es = omega arith
after_long h (y ∷ xs) es = after_long h xs (es ++ (h es y ∷ [])) ∙ ap (λ n. n + length xs) (one_longer es (h es y)) ∙ same (length es) (length xs)
  where
    same : (m n : ℕ) → m + 1 + n ≡ m + suc n
    same m n = omega arith

got_either : (acc : List (Option ℕ)) (o : Option ℕ) (k s : ℕ) → get_or (acc ++ (o ∷ [])) k None ≡ Some s → (get_or acc k None ≡ Some s) ⊎ ((k ≡ length acc) × (o ≡ Some s))
got_either [] o zero s e = inr (refl, e)
got_either [] o (suc k) s e = absurd (none-some s e)
got_either (x ∷ acc) o zero s e = inl e
got_either (x ∷ acc) o (suc k) s e = elim (got_either acc o k s e) [ inl i ↦ inl i | inr i ↦ inr (ap suc i.0, i.1) ]

le_of : (a b : ℕ) → nat_le a b ≡ true → a ≤ b
le_of a b h = grind (arith, nat_tests)

ge_of : (a b : ℕ) → nat_lt a b ≡ false → b ≤ a
ge_of a b h = grind (arith, nat_tests)

-- ---- both have types
right_some : (o r : Option ℕ) → same_number o r ≡ true → is_some r ≡ true
right_some None r e = absurd (true≢false (sym e))
right_some (Some a) None e = absurd (true≢false (sym e))
right_some (Some a) (Some b) e = refl

left_some : (o r : Option ℕ) → same_number o r ≡ true → is_some o ≡ true
left_some None r e = absurd (true≢false (sym e))
left_some (Some a) r e = refl

if_some : {X : Type 0} (c : Bool) (o : Option X) → is_some (if c then o else None) ≡ true → c ≡ true
if_some true o e = refl
if_some false o e = absurd (true≢false (sym e))

no_zero : (n : ℕ) → 0 + n ≡ n
no_zero n = omega arith

-- ---- the pattern of a text
module _ (p : Pattern) (known : names.Names) (counts : Counted p known) (root result : ℕ) (f : Sema) (a : Analyzed (places_of known) p root result f) (list : List TypeConstraint)
    (more : (c : TypeConstraint) → At f.type_constraints c → At list c) (determined : (r : RequiredType) → At f.new_types r → is_determined f.value_types f.old_types (kind_of r.slot f.value_types) ≡ true) where
  abbrev b : Places
  b = places_of known

  abbrev n : ℕ
  n = length known.variables

  abbrev types : List PatternType
  types = vt (places_of known) p root result f a list determined

  abbrev U : PatternModel
  U = unified_pattern (places_of known) p root result f a list determined

  abbrev N : PatternModel
  N = numbered (unified_pattern (places_of known) p root result f a list determined)

  -- ---- the counts are exact
  values_long : length (map (number_in types) (range_with_len 0 n)) ≡ length known.variables
  values_long = length-map-range_with_len (number_in types) 0 n

  module _ (wf : is_well_formed U ≡ true) (cb : can_build U ≡ true) where
    built : same_number (result_type U) (root_type U) ≡ true
    built = (and_parts (list_all (spares U.root) U.new) _ (and_parts (list_all is_named U.new) _ cb).1).1

    root_place : root + 1 ≡ new_begins U
    root_place = eqb-true (root + 1) (new_begins U) (and_parts (eqb (root + 1) (new_begins U)) _ (and_parts _ (eqb (U.root + 1) (new_begins U) && (olds_are_valid U (new_begins U) U.old && (news_are_valid U (new_ends U) U.new && is_new U (new_ends U) U.result))) wf).1).0

    root_low : old_place U ≤ root
    root_low = le_of (old_place U) root (if_some (nat_le (old_place U) root) _ (right_some (result_type U) (root_type U) built))

    record Exact : Type 0 where
      pub given : (places_of known).given ≡ n + length f.extra
      pub old : (places_of known).old ≡ n + length f.extra + length f.given

    exact : Exact
    exact =
        let lv = values_long in
        let le = length-map f.extra (extra_in types) in
        let lg = length-map f.given (given_in types) in
        let lo = length-map f.old (pattern_op_in types) in
        let place = root_place in
        let low = root_low in
        let c = counts.constants in
        let m = counts.numbers in
        elim a.root_is [
          | inl l ↦ absurd (omega (arith, l, low, lv, le, lg))
          | inr r ↦ elim r [
            | inl k ↦ let is = k.1 in let within = k.2 in absurd (omega (arith, is, within, low, lv, le, lg))
            | inr k ↦ record {
              given = given_is n (length f.extra) (length f.given) (length f.old) known.constants known.numbers (count_constants known.variables) root (omega (arith, a.few_extra, c)) (omega (arith, a.few_given, m)) k (omega (arith, place, lv, le, lg, lo));
              old = old_is n (length f.extra) (length f.given) (length f.old) known.constants known.numbers (count_constants known.variables) root k (omega (arith, place, lv, le, lg, lo));
            }
          ]
        ]
      where
        given_is : (n e g o c m k root : ℕ) → e + k ≤ c → g ≤ m → root + 1 ≡ n + (c - k) + m + o → root + 1 ≡ n + e + g + o → n + (c - k) ≡ n + e
        given_is n e g o c m k root x y z w = omega (arith, x, y, z, w)

        old_is : (n e g o c m k root : ℕ) → root + 1 ≡ n + (c - k) + m + o → root + 1 ≡ n + e + g + o → n + (c - k) + m ≡ n + e + g
        old_is n e g o c m k root z w = omega (arith, z, w)

    -- if there are new values, the place of the first one
    new_exact : (w : NewValue) (ws : List NewValue) → f.new ≡ w ∷ ws → (places_of known).new ≡ n + length f.extra + length f.given + length f.old
    new_exact w ws e =
        let lv = values_long in
        let le = length-map f.extra (extra_in types) in
        let lg = length-map f.given (given_in types) in
        let lo = length-map f.old (pattern_op_in types) in
        let ln = length-map f.new (new_in types) in
        let some : is_some (given_type U (map (new_in types) (w ∷ ws))) ≡ true = subst (λ xs. is_some (given_type U (map (new_in types) xs)) ≡ true) e (left_some (result_type U) (root_type U) built) in
        let last : result + 1 ≡ places U = eqb-true (result + 1) (places U) (if_some (eqb (result + 1) (places U)) _ some) in
        elim a.result_is [
          | inl r ↦ absurd (no_items w ws (sym e ∙ r.1))
          | inr r ↦ omega (arith, r, last, lv, le, lg, lo, ln)
        ]
      where
        no_items : (w : NewValue) (ws : List NewValue) → (w ∷ ws) ≡ [] → ⊥
        no_items w ws e = absurd (omega (arith, ap length e))

    -- ---- sorts of types
    abbrev ss : List PatternType
    ss = numbered_types 0 types

    -- the sort of the type with a number
    abbrev nsort : ℕ → PatternType
    nsort s = sort_at (numbered_types 0 types) (number_in types s)

    nsort_is : (s : ℕ) → s < length f.value_types → nsort s ≡ numbered_type (number_in types s) (kind_in types s)
    nsort_is s l =
        numbered_sort 0 types (number_in types s) (number_within (places_of known) p root result f a list determined s l)
        ∙ ap (λ z. numbered_type z (kind_in types (number_in types s))) (no_zero (number_in types s))
        ∙ ap (numbered_type (number_in types s)) (number_kind (places_of known) p root result f a list determined s l)

    nsort_same : (s t : ℕ) → s < length f.value_types → t < length f.value_types → kind_of s f.value_types ≡ kind_of t f.value_types → nsort s ≡ nsort t
    nsort_same s t ls lt e = ap (sort_at ss) (number_same (places_of known) p root result f a list determined s t ls lt e)

    nsort_concrete : (s : ℕ) (k : BitsKind) → s < length f.value_types → kind_of s f.value_types ≡ ty.Concrete k → nsort s ≡ ty.Concrete k
    nsort_concrete s k l e = nsort_is s l ∙ ap (numbered_type (number_in types s)) (vt_at (places_of known) p root result f a list determined s l ∙ ap (sema.numbered _) e)

    nsort_wide : (s : ℕ) → s < length f.value_types → NewBegun f s → is_wide N (nsort s) ≡ true
    nsort_wide s l begins =
        ap (is_wide N) (nsort_is s l)
        ∙ go (kind_in types s) (ap has_width (vt_at (places_of known) p root result f a list determined s l) ∙ recorded_wide (places_of known) p root result f a list determined s (inr begins))
      where
        go : (k : PatternType) → has_width k ≡ true → is_wide N (numbered_type (number_in types s) k) ≡ true
        go (ty.Concrete k) e = e
        go (ty.Variable v) e = lt-ltb (number_in types s) (length types) (number_within (places_of known) p root result f a list determined s l)

    -- ---- the sorts of numbers
    abbrev NumberSorts : List (Option ℕ) → List PatternType → Type 0
    NumberSorts acc es = (i s : ℕ) → place_slot (places_of known) acc i ≡ Some s → slice_get es i ≡ Some (nsort s)

    at_sort : (es : List PatternType) (i : ℕ) (x : PatternType) → slice_get es i ≡ Some x → sort_at es i ≡ x
    at_sort es i x e = get_or_from_slice_get es i x (ty.Concrete (bits.Int 0)) e

    number_sorts : (acc : List (Option ℕ)) (es : List PatternType) → NumberSorts acc es → (c : ConstantExpression) (s : ℕ) → slot_for (places_of known) acc c ≡ Some s → number_sort ss es (given_in types c) ≡ nsort s
    number_sorts acc es h (number.Literal l) s e = ap nsort (same_Some l.ty s e)
    number_sorts acc es h (number.Width t) s e = ap nsort (same_Some t s e)
    number_sorts acc es h (number.Binary o i j) s e = at_sort es i (nsort s) (h i s e)
    number_sorts acc es h (number.Compare q i j) s e = absurd (none-some s e)
    number_sorts acc es h (number.Log2 i) s e = at_sort es i (nsort s) (h i s e)
    number_sorts acc es h (number.Require i) s e = absurd (none-some s e)

    slots_step : (acc : List (Option ℕ)) (es : List PatternType) (c : ConstantExpression) → length es ≡ (places_of known).given + length acc → NumberSorts acc es → NumberSorts (acc ++ (slot_for (places_of known) acc c ∷ [])) (es ++ (number_sort ss es (given_in types c) ∷ []))
    slots_step acc es c long h i s e = go (nat_lt i n) refl e
      where
        earlier : place_slot (places_of known) acc i ≡ Some s → slice_get (es ++ (number_sort ss es (given_in types c) ∷ [])) i ≡ Some (nsort s)
        earlier e = at_more es (number_sort ss es (given_in types c) ∷ []) i (nsort s) (h i s e)

        newest : i ≡ length es → slot_for (places_of known) acc c ≡ Some s → slice_get (es ++ (number_sort ss es (given_in types c) ∷ [])) i ≡ Some (nsort s)
        newest w e = ap (slice_get (es ++ (number_sort ss es (given_in types c) ∷ []))) w ∙ at_end es (number_sort ss es (given_in types c)) ∙ ap (λ x. Some x) (number_sorts acc es h c s e)

        place : i - (places_of known).given ≡ length acc → nat_lt i (places_of known).given ≡ false → i ≡ length es
        place w lo = let g = ge_of i (places_of known).given lo in omega (arith, w, g, long)

        by : nat_lt i n ≡ false → (t : Bool) → nat_lt i (places_of known).given ≡ t → (if t then None else get_or (acc ++ (slot_for (places_of known) acc c ∷ [])) (i - (places_of known).given) None) ≡ Some s
            → slice_get (es ++ (number_sort ss es (given_in types c) ∷ [])) i ≡ Some (nsort s)
        by high true lo e = absurd (none-some s e)
        by high false lo e = elim (got_either acc (slot_for (places_of known) acc c) (i - (places_of known).given) s e) [
          | inl g ↦ earlier (ap (λ (t : Bool). if t then Some i else computed_slot (places_of known) acc i) high ∙ ap (λ (t : Bool). if t then None else get_or acc (i - (places_of known).given) None) lo ∙ g)
          | inr g ↦ newest (place g.0 lo) g.1
        ]

        go : (t : Bool) → nat_lt i n ≡ t → (if t then Some i else computed_slot (places_of known) (acc ++ (slot_for (places_of known) acc c ∷ [])) i) ≡ Some s → slice_get (es ++ (number_sort ss es (given_in types c) ∷ [])) i ≡ Some (nsort s)
        go true w e = earlier (ap (λ (t : Bool). if t then Some i else computed_slot (places_of known) acc i) w ∙ e)
        go false w e = by w (nat_lt i (places_of known).given) refl e

    slots_sorts : (cs : List ConstantExpression) (acc : List (Option ℕ)) (es : List PatternType) → length es ≡ (places_of known).given + length acc → NumberSorts acc es → NumberSorts (slots_after (places_of known) acc cs) (sorts_after (number_sort ss) (map (given_in types) cs) es)
    slots_sorts [] acc es long h = h
    slots_sorts (c ∷ cs) acc es long h =
        let l = one_longer es (number_sort ss es (given_in types c)) in
        let m = one_longer acc (slot_for (places_of known) acc c) in
        slots_sorts cs (acc ++ (slot_for (places_of known) acc c ∷ [])) (es ++ (number_sort ss es (given_in types c) ∷ [])) (omega (arith, l, m, long)) (slots_step acc es c long h)

    -- ---- the sorts of new values
    record Lookup (k : ℕ) (es : List PatternType) : Type 0 where
      pub slots_at : NumberSorts (slots (places_of known) f.given) es
      pub news_at : (j : ℕ) (w : NewValue) → j < k → slice_get f.new j ≡ Some w → slice_get es ((places_of known).new + j) ≡ Some (nsort (new_type w))
      pub long : length es ≡ (places_of known).new + k

    operand_at : (k : ℕ) (es : List PatternType) (i u : ℕ) → Lookup k es → NewSlot (places_of known) f.new k i u → sort_at es i ≡ nsort u
    operand_at k es i u h (inl l) =
        at_sort es i (nsort u) (h.slots_at i u (ap (λ (t : Bool). if t then Some i else computed_slot (places_of known) (slots (places_of known) f.given) i) (lt-ltb i n l.0) ∙ ap (λ z. Some z) (sym l.1)))
    operand_at k es i u h (inr s) = at_sort es i (nsort u) (ap (slice_get es) s.3 ∙ h.news_at s.0 s.1 s.2 s.4 ∙ ap (λ z. Some (nsort z)) s.5)

    is_same_sort : (x : PatternType) (u s : ℕ) → x ≡ nsort u → IsOf f.value_types u s → s < length f.value_types → is_same x (nsort s) ≡ true
    is_same_sort x u s e h l = ap (λ x. is_same x (nsort s)) (e ∙ nsort_same u s h.0 l h.1) ∙ same_type_itself (nsort s)

    form_kinded : (k : ℕ) (es : List PatternType) (s : ℕ) (e : Expression) → Lookup k es → s < length f.value_types → FormTyped (NewSlot (places_of known) f.new k) f.value_types f.type_constraints s e → form_taken N es (nsort s) e ≡ true
    form_kinded k es s (form.Binary o i j) h l t =
        and_from (is_same (sort_at es i) (nsort s)) (is_same (sort_at es j) (nsort s))
        (is_same_sort (sort_at es i) t.0 s (operand_at k es i t.0 h t.2) t.4 l) (is_same_sort (sort_at es j) t.1 s (operand_at k es j t.1 h t.3) t.5 l)
    form_kinded k es s (form.Compare q i j) h l t =
        and_from (is_same (sort_at es j) (sort_at es i)) (is_same (ty.Concrete (bits.Int 1)) (nsort s))
        (ap (is_same (sort_at es j)) (operand_at k es i t.0 h t.2) ∙ is_same_sort (sort_at es j) t.1 t.0 (operand_at k es j t.1 h t.3) t.5 t.4)
        (ap (is_same (ty.Concrete (bits.Int 1))) (nsort_concrete s (bits.Int 1) l t.6.1) ∙ same_type_itself (ty.Concrete (bits.Int 1)))
    form_kinded k es s (form.Select c i j) h l t =
        and_from (is_same (sort_at es c) (ty.Concrete (bits.Int 1))) (is_same (sort_at es i) (nsort s) && is_same (sort_at es j) (nsort s))
        (ap (λ x. is_same x (ty.Concrete (bits.Int 1))) (operand_at k es c t.0 h t.3 ∙ nsort_concrete t.0 (bits.Int 1) t.6.0 t.6.1) ∙ same_type_itself (ty.Concrete (bits.Int 1)))
        (and_from (is_same (sort_at es i) (nsort s)) (is_same (sort_at es j) (nsort s))
        (is_same_sort (sort_at es i) t.1 s (operand_at k es i t.1 h t.4) t.7 l) (is_same_sort (sort_at es j) t.2 s (operand_at k es j t.2 h t.5) t.8 l))
    form_kinded k es s (form.IntegerCast cast.Truncate i) h l t =
        let u = t.0 in
        let at = more (constraint.Narrower s u) t.3 in
        let same = operand_at k es i u h t.1 in
        or_right (is_written_less N (nsort s) (sort_at es i)) (list_any (asks_narrower N (nsort s) (sort_at es i)) (map (requested_in types) list))
        (any_of (asks_narrower N (nsort s) (sort_at es i)) (map (requested_in types) list) at.0 (requested_in types (constraint.Narrower s u)) (mapped (requested_in types) list at.0 (constraint.Narrower s u) at.1)
        (and_from (is_same (nsort s) (nsort s)) (is_same (nsort u) (sort_at es i)) (same_type_itself (nsort s)) (ap (is_same (nsort u)) same ∙ same_type_itself (nsort u))))
    form_kinded k es s (form.IntegerCast cast.ExtendSigned i) h l t = refl
    form_kinded k es s (form.IntegerCast cast.ExtendUnsigned i) h l t = refl
    form_kinded k es s (form.IndexCast cast.Truncate i) h l t = absurd t
    form_kinded k es s (form.IndexCast cast.ExtendSigned i) h l t = refl
    form_kinded k es s (form.IndexCast cast.ExtendUnsigned i) h l t = refl

    new_kinded : (k : ℕ) (es : List PatternType) (w : NewValue) → Lookup k es → NewTyped (places_of known) f k w → new_taken N es (new_in types w) ≡ true
    new_kinded k es (new.Operation o) h t =
        and_from (is_wide N (nsort o.ty)) (form_taken N es (nsort o.ty) o.form) (nsort_wide o.ty t.0 t.1) (form_kinded k es o.ty o.form h t.0 t.2)
    new_kinded k es (new.Constant i s) h t = is_same_sort (sort_at es i) t.2.0 s (at_sort es i (nsort t.2.0) (h.slots_at i t.2.0 t.2.1)) (t.2.2, t.2.3) t.0

    type_of_new : (w : NewValue) → new_type (new_in types w) ≡ number_in types (new_type w)
    type_of_new (new.Operation o) = refl
    type_of_new (new.Constant i t) = refl

    lookup_more : (k : ℕ) (es : List PatternType) (w : NewValue) → slice_get f.new k ≡ Some w → Lookup k es → Lookup (k + 1) (es ++ (sort_at ss (new_type (new_in types w)) ∷ []))
    lookup_more k es w at h =
        let x = sort_at ss (new_type (new_in types w)) in
        let l = one_longer es x in
        let lh = h.long in
        record {
          slots_at = λ i s e. at_more es (x ∷ []) i (nsort s) (h.slots_at i s e);
          news_at = λ j v lj e. elim (below j k lj) [
            | inl y ↦ at_more es (x ∷ []) ((places_of known).new + j) (nsort (new_type v)) (h.news_at j v y e)
            | inr y ↦
                let same : v ≡ w = same_Some v w (sym e ∙ ap (slice_get f.new) y ∙ at) in
                ap (slice_get (es ++ (x ∷ []))) (ap (λ z. (places_of known).new + z) y ∙ sym h.long) ∙ at_end es x ∙ ap (λ z. Some (sort_at ss z)) (type_of_new w ∙ ap (λ v. number_in types (new_type v)) (sym same))
          ];
          long = omega (arith, l, lh);
        }
      where
        below : (j k : ℕ) → j < k + 1 → (j < k) ⊎ (j ≡ k)
        below j k l = grind arith

    news_kinded : (ws : List NewValue) (k : ℕ) (es : List PatternType) → ((j : ℕ) (w : NewValue) → slice_get ws j ≡ Some w → slice_get f.new (k + j) ≡ Some w) → Lookup k es → news_taken N es (map (new_in types) ws) ≡ true
    news_kinded [] k es at h = refl
    news_kinded (w ∷ ws) k es at h =
        let here : slice_get f.new k ≡ Some w = ap (slice_get f.new) (no_more k) ∙ at 0 w refl in
        and_from (new_taken N es (new_in types w)) (news_taken N (es ++ (sort_at ss (new_type (new_in types w)) ∷ [])) (map (new_in types) ws))
        (new_kinded k es w h (a.good.news k w here))
        (news_kinded ws (k + 1) (es ++ (sort_at ss (new_type (new_in types w)) ∷ [])) (λ j v e. ap (slice_get f.new) (next k j) ∙ at (suc j) v e) (lookup_more k es w here h))
      where
        no_more : (k : ℕ) → k ≡ k + 0
        no_more k = omega arith

        next : (k j : ℕ) → k + 1 + j ≡ k + suc j
        next k j = omega arith

    -- ---- the first sorts
    abbrev firsts : List PatternType
    firsts = map (sort_at ss) (map (number_in types) (range_with_len 0 n))

    abbrev extras : List PatternType
    extras = sorts_after (extra_sort ss) (map (extra_in types) f.extra) firsts

    abbrev numbers : List PatternType
    numbers = sorts_after (number_sort ss) (map (given_in types) f.given) extras

    firsts_slots : NumberSorts [] extras
    firsts_slots i s e = go (nat_lt i n) refl e
      where
        none : (t : Bool) → (if t then None else get_or [] (i - (places_of known).given) None) ≡ Some s → slice_get extras i ≡ Some (nsort s)
        none true e = absurd (none-some s e)
        none false e = absurd (none-some s e)

        go : (t : Bool) → nat_lt i n ≡ t → (if t then Some i else computed_slot (places_of known) [] i) ≡ Some s → slice_get extras i ≡ Some (nsort s)
        go true w e =
            let same : i ≡ s = same_Some i s e in
            let l = ltb-true i n w in
            after_more (extra_sort ss) (map (extra_in types) f.extra) firsts i (nsort s)
            (mapped (sort_at ss) (map (number_in types) (range_with_len 0 n)) i (number_in types i) (mapped (number_in types) (range_with_len 0 n) i i (range_at 0 n i l ∙ ap (λ z. Some z) (no_zero i))) ∙ ap (λ z. Some (nsort z)) same)
        go false w e = none (nat_lt i (places_of known).given) e

    first_lookup : (w : NewValue) (ws : List NewValue) → f.new ≡ w ∷ ws → Lookup 0 (sorts_matched N)
    first_lookup w ws e =
        let lv = values_long in
        let l0 = length-map (map (number_in types) (range_with_len 0 n)) (sort_at ss) in
        let le = length-map f.extra (extra_in types) in
        let lg = length-map f.given (given_in types) in
        let lo = length-map f.old (pattern_op_in types) in
        let l1 = after_long (extra_sort ss) (map (extra_in types) f.extra) firsts in
        let l2 = after_long (number_sort ss) (map (given_in types) f.given) extras in
        let l3 = after_long (pattern_op_sort ss) (map (pattern_op_in types) f.old) numbers in
        let x = exact in
        let g = x.given in
        let y = new_exact w ws e in
        record {
          slots_at = λ i s h. after_more (pattern_op_sort ss) (map (pattern_op_in types) f.old) numbers i (nsort s) (slots_sorts f.given [] extras (omega (arith, l0, lv, le, l1, g)) firsts_slots i s h);
          news_at = λ j w l h. absurd (never j l);
          long = omega (arith, l0, lv, le, lg, lo, l1, l2, l3, y);
        }
      where
        never : (j : ℕ) → j < 0 → ⊥
        never j l = omega (arith, l)

    pub kinded : is_kinded_by_form N ≡ true
    kinded = go f.new refl
      where
        go : (ws : List NewValue) → f.new ≡ ws → news_taken N (sorts_matched N) (map (new_in types) ws) ≡ true
        go [] e = refl
        go (w ∷ ws) e =
            news_kinded (w ∷ ws) 0 (sorts_matched N) (λ j v i. ap (slice_get f.new) (no_zero j) ∙ ap (λ xs. slice_get xs j) e ∙ i) (first_lookup w ws e)
