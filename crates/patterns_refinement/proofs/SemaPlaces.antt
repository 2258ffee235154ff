-- The types of a pattern that semantic analysis made, by the numbers that equal types share.
use Rattle.std.proofs.Common.{◌≡◌, ℕ, zero, suc, ◌+◌, ◌-◌, ◌<◌, Bool, true, false, true≢false, ◌&&◌, ◌||◌, not, eqb, if◌then◌else◌, List, [], ◌∷◌, ◌++◌, length, map, Option, Some, None, refl, sym, ap, subst, ◌∙◌, ◌⊎◌, inl, inr, arith, slice_get}
use Rattle.std.specs.Prelude.{is_some, nat_lt, option_map}
use Rattle.std.specs.List.{list_all, list_any, range_with_len}
use Rattle.std.proofs.lemmas.Bool.{and_from, and_parts, eq-eqb, lt-ltb, ltb-true}
use Rattle.std.proofs.lemmas.List.{get_or-map, length-map}
use Rattle.std.proofs.lemmas.List.Folds.{list_any-append}
use Rattle.std.proofs.lemmas.Option.{none-some, same_Some, slice_get-map}
use Rattle.ir_types.specs.declared.bits.BitsKind.{BitsKind}
use Rattle.ir_types.specs.declared.bits.BitsKind.TheVariants as bits
use Rattle.dialects_int.proofs.KnownOperands.{same_itself as kind_itself}
use Rattle.user_patterns_data.specs.declared.pattern.PatternType.{PatternType}
use Rattle.user_patterns_data.specs.declared.pattern.PatternType.TheVariants as ty
use Rattle.user_patterns_data.specs.declared.pattern.PatternOp.{PatternOp}
use Rattle.user_patterns_data.specs.declared.pattern.ExtraConstant.{ExtraConstant}
use Rattle.user_patterns_data.specs.declared.pattern.ExtraConstant.TheVariants as extra
use Rattle.user_patterns_data.specs.declared.pattern.ConstantExpression.{ConstantExpression}
use Rattle.user_patterns_data.specs.declared.pattern.ConstantExpression.TheVariants as number
use Rattle.user_patterns_data.specs.declared.pattern.NewValue.{NewValue}
use Rattle.user_patterns_data.specs.declared.pattern.NewValue.TheVariants as new
use Rattle.user_patterns_data.specs.declared.pattern.TypeConstraint.{TypeConstraint}
use Rattle.user_patterns_data.specs.declared.pattern.TypeConstraint.TheVariants as constraint
use Rattle.user_patterns_data.specs.Shapes.{PatternModel}
use Rattle.user_patterns_data.specs.WellFormed.{constraint_is_valid, extra_is_valid, is_type, is_variable, is_well_formed, new_ends, news_are_valid, number_is_valid, numbers_are_valid, new_begins, new_is_valid, old_begins, old_is_valid, olds_are_valid, is_new, type_is_valid}
use Rattle.user_patterns_build.specs.CanBuild.{new_type}
use Rattle.user_patterns_build.specs.Unified.{extra_in, first_same, given_in, is_same, kind_in, new_in, number_in, pattern_op_in, requested_in, united}
use Rattle.user_patterns_build.proofs.Numbered.{have_one_number, numbers_the_same}
use Rattle.user_patterns_sema_base.specs.Types.{kind_of, same_kind}
use Rattle.user_patterns_sema.specs.declared.state.RequiredType.{RequiredType}
use Rattle.user_patterns_sema.specs.Sema.{Places, Sema, all_numbered, determined_slots, found_in, is_determined, numbered_from, place_in, variables_found, with_kind}
use Rattle.user_patterns_sema.specs.Sema as sema
use Rattle.patterns_refinement.specs.ForOutcomes.{has_width, has_widths, is_concrete, is_had, is_literal_type}
use Rattle.patterns_refinement.specs.UsedTypes.{extra_uses, new_uses, number_uses, pattern_op_uses, requested_uses, uses_only}
use Rattle.patterns_refinement.proofs.SemaSteps.{At}
use Rattle.patterns_refinement.proofs.SemaTypes.{Covered, kinds_equal, rest_of, wide_at}
use Rattle.patterns_refinement.proofs.SemaOlds.{Justified}
use Rattle.patterns_refinement.proofs.SemaNews.{NewBegun}
use Rattle.patterns_refinement.proofs.SemaForm.{Analyzed, pattern_from}
use Rattle.user_patterns_text.specs.Parts.{Pattern}

-- ---- tests of lists
pub same_type_itself : (k : PatternType) → is_same k k ≡ true
same_type_itself (ty.Concrete b) = kind_itself b
same_type_itself (ty.Variable i) = eq-eqb i i refl

or_left : (a b : Bool) → a ≡ true → (a || b) ≡ true
or_left a b e = ap (λ (x : Bool). x || b) e

pub or_right : (a b : Bool) → b ≡ true → (a || b) ≡ true
or_right true b e = refl
or_right false b e = e

pub any_of : {X : Type 0} (p : X → Bool) (xs : List X) (k : ℕ) (x : X) → slice_get xs k ≡ Some x → p x ≡ true → list_any p xs ≡ true
any_of p [] k x e h = absurd (none-some x e)
any_of p (y ∷ xs) zero x e h = or_left (p y) (list_any p xs) (ap p (same_Some y x e) ∙ h)
any_of p (y ∷ xs) (suc k) x e h = or_right (p y) (list_any p xs) (any_of p xs k x e h)

any_there : {X : Type 0} (p : X → Bool) (xs : List X) → list_any p xs ≡ true → (k : ℕ) × (x : X) × (slice_get xs k ≡ Some x) × (p x ≡ true)
any_there p [] e = absurd (true≢false (sym e))
any_there p (y ∷ xs) e = go (p y) refl (λ r. any_there p xs r) e
  where
    go : (b : Bool) → p y ≡ b → (list_any p xs ≡ true → (k : ℕ) × (x : _) × (slice_get xs k ≡ Some x) × (p x ≡ true)) → (b || list_any p xs) ≡ true → (k : ℕ) × (x : _) × (slice_get (y ∷ xs) k ≡ Some x) × (p x ≡ true)
    go true h more e = (0, y, refl, h)
    go false h more e = let r = more e in (suc r.0, r.1, r.2, r.3)

pub mapped : {X Y : Type 0} (f : X → Y) (xs : List X) (k : ℕ) (x : X) → slice_get xs k ≡ Some x → slice_get (map f xs) k ≡ Some (f x)
mapped f xs k x e = slice_get-map f xs k ∙ ap (option_map f) e

pub range_at : (a n j : ℕ) → j < n → slice_get (range_with_len a n) j ≡ Some (a + j)
range_at a zero j l = absurd (none j l)
  where
    none : (j : ℕ) → j < 0 → ⊥
    none j l = omega (arith, l)
range_at a (suc n) zero l = ap (λ z. Some z) (same a)
  where
    same : (a : ℕ) → a ≡ a + 0
    same a = omega arith
range_at a (suc n) (suc j) l = range_at (a + 1) n j (omega (arith, l)) ∙ ap (λ z. Some z) (same a j)
  where
    same : (a j : ℕ) → a + 1 + j ≡ a + suc j
    same a j = omega arith

-- ---- the type variables that occur
with_keeps : (xs : List ℕ) (k : PatternType) (r : ℕ) → list_any (eqb r) xs ≡ true → list_any (eqb r) (with_kind xs k) ≡ true
with_keeps xs (ty.Concrete k) r e = e
with_keeps xs (ty.Variable v) r e = go (list_any (eqb v) xs)
  where
    go : (b : Bool) → list_any (eqb r) (if b then xs else xs ++ (v ∷ [])) ≡ true
    go true = e
    go false = list_any-append (eqb r) xs (v ∷ []) ∙ or_left (list_any (eqb r) xs) (list_any (eqb r) (v ∷ [])) e

with_adds : (xs : List ℕ) (r : ℕ) → list_any (eqb r) (with_kind xs (ty.Variable r)) ≡ true
with_adds xs r = go (list_any (eqb r) xs) refl
  where
    go : (b : Bool) → list_any (eqb r) xs ≡ b → list_any (eqb r) (if b then xs else xs ++ (r ∷ [])) ≡ true
    go true e = e
    go false e = list_any-append (eqb r) xs (r ∷ []) ∙ or_right (list_any (eqb r) xs) (list_any (eqb r) (r ∷ [])) (or_left (eqb r r) false (eq-eqb r r refl))

found_keeps : (ks : List PatternType) (xs is : List ℕ) (r : ℕ) → list_any (eqb r) xs ≡ true → list_any (eqb r) (found_in ks xs is) ≡ true
unfolding found_in
found_keeps ks xs [] r e = e
found_keeps ks xs (i ∷ is) r e = found_keeps ks (with_kind xs (kind_of i ks)) is r (with_keeps xs (kind_of i ks) r e)

found_adds : (ks : List PatternType) (xs is : List ℕ) (k i r : ℕ) → slice_get is k ≡ Some i → kind_of i ks ≡ ty.Variable r → list_any (eqb r) (found_in ks xs is) ≡ true
unfolding found_in
found_adds ks xs [] k i r e h = absurd (none-some i e)
found_adds ks xs (j ∷ is) zero i r e h =
    found_keeps ks (with_kind xs (kind_of j ks)) is r
    (subst (λ k. list_any (eqb r) (with_kind xs k) ≡ true) (sym (ap (λ z. kind_of z ks) (same_Some j i e) ∙ h)) (with_adds xs r))
found_adds ks xs (j ∷ is) (suc k) i r e h = found_adds ks (with_kind xs (kind_of j ks)) is k i r e h

place_there : (k r : ℕ) (xs : List ℕ) → list_any (eqb r) xs ≡ true → is_some (place_in k r xs) ≡ true
unfolding place_in
place_there k r [] e = e
place_there k r (s ∷ xs) e = go (eqb r s) (λ e. place_there (k + 1) r xs e) e
  where
    go : (b : Bool) → (list_any (eqb r) xs ≡ true → is_some (place_in (k + 1) r xs) ≡ true) → (b || list_any (eqb r) xs) ≡ true → is_some (if b then Some k else place_in (k + 1) r xs) ≡ true
    go true more e = refl
    go false more e = more e

numbered_wide : (o : Option ℕ) → is_some o ≡ true → has_width (numbered_from o) ≡ true
numbered_wide None e = absurd (true≢false (sym e))
numbered_wide (Some v) e = refl

-- ---- the types of the pattern
module _ (b : Places) (p : Pattern) (root result : ℕ) (f : Sema) (a : Analyzed b p root result f) (list : List TypeConstraint)
    (determined : (r : RequiredType) → At f.new_types r → is_determined f.value_types f.old_types (kind_of r.slot f.value_types) ≡ true) where
  abbrev n : ℕ
  n = length b.variables

  abbrev ks : List PatternType
  ks = f.value_types

  -- the state with all constraints, the type variables that occur, and the types
  abbrev pub last : Sema
  last = record f { type_constraints = list }

  abbrev pub fd : List ℕ
  fd = variables_found (record f { type_constraints = list })

  abbrev pub vt : List PatternType
  vt = all_numbered (variables_found (record f { type_constraints = list })) f.value_types

  abbrev pub unified_pattern : PatternModel
  unified_pattern = united (pattern_from b root result (record f { type_constraints = list }))

  pub vt_long : length vt ≡ length f.value_types
  unfolding all_numbered
  vt_long = length-map f.value_types (sema.numbered fd)

  pub vt_at : (t : ℕ) → t < length f.value_types → kind_in vt t ≡ sema.numbered fd (kind_of t f.value_types)
  unfolding all_numbered
  vt_at t l = get_or-map (sema.numbered fd) f.value_types t (ty.Concrete bits.Index) (ty.Concrete bits.Index) l

  pub within : (t : ℕ) → t < length f.value_types → t < length vt
  within t l = let e = vt_long in omega (arith, l, e)

  within_back : (t : ℕ) → t < length vt → t < length f.value_types
  within_back t l = let e = vt_long in omega (arith, l, e)

  -- the number of an equal type
  pub number_same : (s t : ℕ) → s < length f.value_types → t < length f.value_types → kind_of s f.value_types ≡ kind_of t f.value_types → number_in vt s ≡ number_in vt t
  number_same s t ls lt e =
      let value_kinds : kind_in vt s ≡ kind_in vt t = vt_at s ls ∙ ap (sema.numbered fd) e ∙ sym (vt_at t lt) in
      have_one_number vt s t (within s ls) (within t lt) (subst (λ k. is_same (kind_in vt s) k ≡ true) value_kinds (same_type_itself (kind_in vt s)))

  pub number_within : (t : ℕ) → t < length f.value_types → number_in vt t < length vt
  number_within t l = (numbers_the_same vt t (within t l)).0

  pub number_kind : (t : ℕ) → t < length f.value_types → kind_in vt (number_in vt t) ≡ kind_in vt t
  number_kind t l = (numbers_the_same vt t (within t l)).1

  -- ---- recorded types occur
  recorded_found : (i r : ℕ) → At f.old_types i ⊎ NewBegun f i → kind_of i f.value_types ≡ ty.Variable r → list_any (eqb r) fd ≡ true
  recorded_found i r (inl x) e = found_keeps f.value_types (found_in f.value_types [] f.old_types) (determined_slots f.new_types) r (found_adds f.value_types [] f.old_types x.0 i r x.1 e)
  recorded_found i r (inr x) e =
      found_adds f.value_types (found_in f.value_types [] f.old_types) (determined_slots f.new_types) x.1.0 i r
      (mapped (λ (t : RequiredType). t.slot) f.new_types x.1.0 x.0 x.1.1 ∙ ap (λ z. Some z) x.2) e

  pub recorded_wide : (i : ℕ) → At f.old_types i ⊎ NewBegun f i → has_width (sema.numbered fd (kind_of i f.value_types)) ≡ true
  recorded_wide i x = go (kind_of i f.value_types) refl
    where
      go : (k : PatternType) → kind_of i f.value_types ≡ k → has_width (sema.numbered fd k) ≡ true
      go (ty.Concrete k) e = subst (λ k. has_width k ≡ true) e (wide_at f.value_types i a.good.sound.wide)
      go (ty.Variable r) e = numbered_wide (place_in 0 r fd) (place_there 0 r fd (recorded_found i r x e))

  -- ---- the types of variables, literals and operations on the left
  in_range : (i r : ℕ) → kind_of i f.value_types ≡ ty.Variable r → i < length f.value_types
  in_range i r e = by f.value_types i e
    where
      is_variable_type : PatternType → Bool
      is_variable_type (ty.Concrete k) = false
      is_variable_type (ty.Variable v) = true

      by : (ks : List PatternType) (i : ℕ) → kind_of i ks ≡ ty.Variable r → i < length ks
      by [] i e = absurd (true≢false (sym (ap is_variable_type e)))
      by (k ∷ ks) zero e = omega arith
      by (k ∷ ks) (suc i) e = let l = by ks i e in omega (arith, l)

  -- each type is concrete, or equals one of these
  abbrev Source : ℕ → Type 0
  Source t = ((k : BitsKind) × (kind_of t f.value_types ≡ ty.Concrete k)) ⊎ ((j : ℕ) × (j < length f.value_types) × (kind_of t f.value_types ≡ kind_of j f.value_types) × Justified n (rest_of f) j)

  source : (t : ℕ) → t < length f.value_types → Source t
  source t l = go (a.good.sound.covered t l)
    where
      newer : (j : ℕ) (r : RequiredType) → At f.new_types r → r.slot ≡ j → kind_of t f.value_types ≡ kind_of j f.value_types → (k : PatternType) → kind_of r.slot f.value_types ≡ k → is_determined f.value_types f.old_types k ≡ true → Source t
      newer j r i s e (ty.Concrete k) h d = inl (k, e ∙ ap (λ z. kind_of z f.value_types) (sym s) ∙ h)
      newer j r i s e (ty.Variable v) h d =
          let w = any_there (λ i. same_kind (kind_of i f.value_types) (ty.Variable v)) f.old_types d in
          let its = kinds_equal (kind_of w.1 f.value_types) (ty.Variable v) w.3 in
          inr (w.1, in_range w.1 v its, e ∙ ap (λ z. kind_of z f.value_types) (sym s) ∙ h ∙ sym its, a.just w.1 (w.0, w.2))

      go : Covered n f.value_types (rest_of f) t → Source t
      go (inl c) = inl c
      go (inr (j, inl x, lj, e)) = inr (j, lj, e, inl x)
      go (inr (j, inr (inl x), lj, e)) = inr (j, lj, e, a.just j x)
      go (inr (j, inr (inr x), lj, e)) = newer j x.0 x.1 x.2 e (kind_of x.0.slot f.value_types) refl (determined x.0 x.1)

  -- ---- the pattern has each type
  value_at : (j : ℕ) → j < n → slice_get (map (number_in vt) (range_with_len 0 n)) j ≡ Some (number_in vt j)
  value_at j l = mapped (number_in vt) (range_with_len 0 n) j (0 + j) (range_at 0 n j l) ∙ ap (λ z. Some (number_in vt z)) (same j)
    where
      same : (j : ℕ) → 0 + j ≡ j
      same j = omega arith

  abbrev Literals : ℕ → Bool
  Literals t = list_any (is_literal_type t) (map (extra_in vt) f.extra)

  abbrev Values : ℕ → Bool
  Values t = list_any (eqb t) (map (number_in vt) (range_with_len 0 (length b.variables)))

  abbrev Olds : ℕ → Bool
  Olds t = list_any (eqb t) (map PatternOp.ty (map (pattern_op_in vt) f.old))

  abbrev News : ℕ → Bool
  News t = list_any (eqb t) (map new_type (map (new_in vt) f.new))

  had_source : (t : ℕ) → t < length f.value_types → Source t → (is_concrete (kind_in vt (number_in vt t)) || (Literals (number_in vt t) || (Values (number_in vt t) || (Olds (number_in vt t) || News (number_in vt t))))) ≡ true
  had_source t l (inl c) =
      or_left (is_concrete (kind_in vt (number_in vt t))) (Literals (number_in vt t) || (Values (number_in vt t) || (Olds (number_in vt t) || News (number_in vt t))))
      (ap is_concrete (number_kind t l ∙ vt_at t l ∙ ap (sema.numbered fd) c.1))
  had_source t l (inr (j, lj, e, inl x)) =
      let same : number_in vt t ≡ number_in vt j = number_same t j l lj e in
      or_right (is_concrete (kind_in vt (number_in vt t))) (Literals (number_in vt t) || (Values (number_in vt t) || (Olds (number_in vt t) || News (number_in vt t))))
      (or_right (Literals (number_in vt t)) (Values (number_in vt t) || (Olds (number_in vt t) || News (number_in vt t)))
      (or_left (Values (number_in vt t)) (Olds (number_in vt t) || News (number_in vt t))
      (any_of (eqb (number_in vt t)) (map (number_in vt) (range_with_len 0 (length b.variables))) j (number_in vt j) (value_at j x) (eq-eqb (number_in vt t) (number_in vt j) same))))
  had_source t l (inr (j, lj, e, inr (inl x))) =
      let same : number_in vt t ≡ number_in vt x.0.ty = number_same t j l lj e ∙ ap (number_in vt) (sym x.2) in
      or_right (is_concrete (kind_in vt (number_in vt t))) (Literals (number_in vt t) || (Values (number_in vt t) || (Olds (number_in vt t) || News (number_in vt t))))
      (or_left (Literals (number_in vt t)) (Values (number_in vt t) || (Olds (number_in vt t) || News (number_in vt t)))
      (any_of (is_literal_type (number_in vt t)) (map (extra_in vt) f.extra) x.1.0 (extra_in vt (extra.Literal x.0)) (mapped (extra_in vt) f.extra x.1.0 (extra.Literal x.0) x.1.1) (eq-eqb (number_in vt t) (number_in vt x.0.ty) same)))
  had_source t l (inr (j, lj, e, inr (inr x))) =
      let same : number_in vt t ≡ number_in vt x.0.ty = number_same t j l lj e ∙ ap (number_in vt) (sym x.2) in
      or_right (is_concrete (kind_in vt (number_in vt t))) (Literals (number_in vt t) || (Values (number_in vt t) || (Olds (number_in vt t) || News (number_in vt t))))
      (or_right (Literals (number_in vt t)) (Values (number_in vt t) || (Olds (number_in vt t) || News (number_in vt t)))
      (or_right (Values (number_in vt t)) (Olds (number_in vt t) || News (number_in vt t))
      (or_left (Olds (number_in vt t)) (News (number_in vt t))
      (any_of (eqb (number_in vt t)) (map PatternOp.ty (map (pattern_op_in vt) f.old)) x.1.0 (number_in vt x.0.ty)
      (mapped PatternOp.ty (map (pattern_op_in vt) f.old) x.1.0 (pattern_op_in vt x.0) (mapped (pattern_op_in vt) f.old x.1.0 x.0 x.1.1)) (eq-eqb (number_in vt t) (number_in vt x.0.ty) same)))))

  pub had : (t : ℕ) → t < length f.value_types → is_had unified_pattern (number_in vt t) ≡ true
  had t l =
      and_from (nat_lt (number_in vt t) (length vt)) (is_concrete (kind_in vt (number_in vt t)) || (Literals (number_in vt t) || (Values (number_in vt t) || (Olds (number_in vt t) || News (number_in vt t)))))
      (lt-ltb (number_in vt t) (length vt) (number_within t l)) (had_source t l (source t l))

  -- a valid number is that of a type
  had_of : (t : ℕ) → nat_lt (number_in vt t) (length vt) ≡ true → is_had unified_pattern (number_in vt t) ≡ true
  had_of t e = go (nat_lt t (length vt)) refl
    where
      go : (c : Bool) → nat_lt t (length vt) ≡ c → is_had unified_pattern (number_in vt t) ≡ true
      go true h = had t (within_back t (ltb-true t (length vt) h))
      go false h = absurd (true≢false (sym (subst (λ z. nat_lt z (length vt) ≡ true) (ap (λ (c : Bool). if c then first_same (kind_in vt t) vt else t) h) e) ∙ h))

  -- ---- widths
  all_or : (xs : List PatternType) (B : Type 0) → ((t : ℕ) → t < length xs → (has_width (kind_in xs t) ≡ true) ⊎ B) → (list_all has_width xs ≡ true) ⊎ B
  all_or [] B h = inl refl
  all_or (x ∷ xs) B h = go (h zero (omega arith)) (all_or xs B (λ t l. h (suc t) (omega (arith, l))))
    where
      go : (has_width x ≡ true) ⊎ B → (list_all has_width xs ≡ true) ⊎ B → ((has_width x && list_all has_width xs) ≡ true) ⊎ B
      go (inl e) (inl m) = inl (and_from (has_width x) (list_all has_width xs) e m)
      go (inl e) (inr z) = inr z
      go (inr z) m = inr z

  abbrev is_unwide : ℕ → Bool
  is_unwide t = not (has_width (kind_in vt t))

  pub widths : has_widths unified_pattern ≡ true
  widths = join (all_or vt (list_any (λ t. not (has_width (kind_in vt t))) (map (number_in vt) (range_with_len 0 (length b.variables))) ≡ true) (λ t l. each t (within_back t l)))
    where
      join : (list_all has_width vt ≡ true) ⊎ (list_any (λ t. not (has_width (kind_in vt t))) (map (number_in vt) (range_with_len 0 (length b.variables))) ≡ true) → has_widths unified_pattern ≡ true
      join (inl e) = or_left (list_all has_width vt) (list_any (λ t. not (has_width (kind_in vt t))) (map (number_in vt) (range_with_len 0 (length b.variables)))) e
      join (inr e) = or_right (list_all has_width vt) (list_any (λ t. not (has_width (kind_in vt t))) (map (number_in vt) (range_with_len 0 (length b.variables)))) e

      variable : (t j : ℕ) → t < length f.value_types → j < length f.value_types → j < n → kind_of t f.value_types ≡ kind_of j f.value_types → (c : Bool) → has_width (kind_in vt j) ≡ c
          → (has_width (kind_in vt t) ≡ true) ⊎ (list_any (λ t. not (has_width (kind_in vt t))) (map (number_in vt) (range_with_len 0 (length b.variables))) ≡ true)
      variable t j l lj lv e true h = inl (ap has_width (vt_at t l ∙ ap (sema.numbered fd) e ∙ sym (vt_at j lj)) ∙ h)
      variable t j l lj lv e false h =
          inr (any_of (λ t. not (has_width (kind_in vt t))) (map (number_in vt) (range_with_len 0 (length b.variables))) j (number_in vt j) (value_at j lv) (ap (λ k. not (has_width k)) (number_kind j lj) ∙ ap not h))

      recorded : (t j : ℕ) → t < length f.value_types → kind_of t f.value_types ≡ kind_of j f.value_types → At f.old_types j ⊎ NewBegun f j
          → (has_width (kind_in vt t) ≡ true) ⊎ (list_any (λ t. not (has_width (kind_in vt t))) (map (number_in vt) (range_with_len 0 (length b.variables))) ≡ true)
      recorded t j l e x = inl (ap has_width (vt_at t l ∙ ap (sema.numbered fd) e) ∙ recorded_wide j x)

      by : (t : ℕ) → t < length f.value_types → Covered n f.value_types (rest_of f) t → (has_width (kind_in vt t) ≡ true) ⊎ (list_any (λ t. not (has_width (kind_in vt t))) (map (number_in vt) (range_with_len 0 (length b.variables))) ≡ true)
      by t l (inl c) = inl (ap has_width (vt_at t l ∙ ap (sema.numbered fd) c.1) ∙ subst (λ k. has_width k ≡ true) c.1 (wide_at f.value_types t a.good.sound.wide))
      by t l (inr (j, inl x, lj, e)) = variable t j l lj x e (has_width (kind_in vt j)) refl
      by t l (inr (j, inr (inl x), lj, e)) = recorded t j l e (inl x)
      by t l (inr (j, inr (inr x), lj, e)) = recorded t j l e (inr x)

      each : (t : ℕ) → t < length f.value_types → (has_width (kind_in vt t) ≡ true) ⊎ (list_any (λ t. not (has_width (kind_in vt t))) (map (number_in vt) (range_with_len 0 (length b.variables))) ≡ true)
      each t l = by t l (a.good.sound.covered t l)

  -- ---- used types
  abbrev ok : ℕ → Bool
  ok t = is_had unified_pattern t

  values_use : (xs : List ℕ) → list_all (is_type unified_pattern) (map (number_in vt) xs) ≡ true → list_all ok (map (number_in vt) xs) ≡ true
  values_use [] e = refl
  values_use (x ∷ xs) e =
      let q = and_parts (is_type unified_pattern (number_in vt x)) (list_all (is_type unified_pattern) (map (number_in vt) xs)) e in
      and_from (ok (number_in vt x)) (list_all ok (map (number_in vt) xs)) (had_of x q.0) (values_use xs q.1)

  extras_use : (xs : List ExtraConstant) → list_all (extra_is_valid unified_pattern) (map (extra_in vt) xs) ≡ true → list_all (extra_uses ok) (map (extra_in vt) xs) ≡ true
  extras_use [] e = refl
  extras_use (x ∷ xs) e =
      let q = and_parts (extra_is_valid unified_pattern (extra_in vt x)) (list_all (extra_is_valid unified_pattern) (map (extra_in vt) xs)) e in
      and_from (extra_uses ok (extra_in vt x)) (list_all (extra_uses ok) (map (extra_in vt) xs)) (one x q.0) (extras_use xs q.1)
    where
      one : (x : ExtraConstant) → extra_is_valid unified_pattern (extra_in vt x) ≡ true → extra_uses ok (extra_in vt x) ≡ true
      one (extra.Literal l) e = had_of l.ty e
      one (extra.SameAs i) e = refl

  constraints_use : (xs : List TypeConstraint) → list_all (constraint_is_valid unified_pattern) (map (requested_in vt) xs) ≡ true → list_all (requested_uses ok) (map (requested_in vt) xs) ≡ true
  constraints_use [] e = refl
  constraints_use (x ∷ xs) e =
      let q = and_parts (constraint_is_valid unified_pattern (requested_in vt x)) (list_all (constraint_is_valid unified_pattern) (map (requested_in vt) xs)) e in
      and_from (requested_uses ok (requested_in vt x)) (list_all (requested_uses ok) (map (requested_in vt) xs)) (one x q.0) (constraints_use xs q.1)
    where
      one : (x : TypeConstraint) → constraint_is_valid unified_pattern (requested_in vt x) ≡ true → requested_uses ok (requested_in vt x) ≡ true
      one (constraint.Narrower s t) e =
          let q = and_parts (is_type unified_pattern (number_in vt s)) (is_type unified_pattern (number_in vt t)) e in
          and_from (ok (number_in vt s)) (ok (number_in vt t)) (had_of s q.0) (had_of t q.1)
      one (constraint.Integer t) e = had_of t e

  numbers_use : (end : ℕ) (xs : List ConstantExpression) → numbers_are_valid unified_pattern end (map (given_in vt) xs) ≡ true → list_all (number_uses ok) (map (given_in vt) xs) ≡ true
  numbers_use end [] e = refl
  numbers_use end (x ∷ xs) e =
      let k = end - length (map (given_in vt) (x ∷ xs)) in
      let q = and_parts (number_is_valid unified_pattern k (given_in vt x)) (numbers_are_valid unified_pattern end (map (given_in vt) xs)) e in
      and_from (number_uses ok (given_in vt x)) (list_all (number_uses ok) (map (given_in vt) xs)) (one k x q.0) (numbers_use end xs q.1)
    where
      one : (k : ℕ) (x : ConstantExpression) → number_is_valid unified_pattern k (given_in vt x) ≡ true → number_uses ok (given_in vt x) ≡ true
      one k (number.Literal l) e = had_of l.ty e
      one k (number.Width t) e = had_of t e
      one k (number.Binary o i j) e = refl
      one k (number.Compare q i j) e = refl
      one k (number.Log2 i) e = refl
      one k (number.Require i) e = refl

  olds_use : (end : ℕ) (xs : List PatternOp) → olds_are_valid unified_pattern end (map (pattern_op_in vt) xs) ≡ true → list_all (pattern_op_uses ok) (map (pattern_op_in vt) xs) ≡ true
  olds_use end [] e = refl
  olds_use end (x ∷ xs) e =
      let k = end - length (map (pattern_op_in vt) (x ∷ xs)) in
      let q = and_parts (old_is_valid unified_pattern k (pattern_op_in vt x)) (olds_are_valid unified_pattern end (map (pattern_op_in vt) xs)) e in
      let t = and_parts (is_type unified_pattern (number_in vt x.ty)) _ q.0 in
      and_from (pattern_op_uses ok (pattern_op_in vt x)) (list_all (pattern_op_uses ok) (map (pattern_op_in vt) xs)) (had_of x.ty t.0) (olds_use end xs q.1)

  news_use : (end : ℕ) (xs : List NewValue) → news_are_valid unified_pattern end (map (new_in vt) xs) ≡ true → list_all (new_uses ok) (map (new_in vt) xs) ≡ true
  news_use end [] e = refl
  news_use end (x ∷ xs) e =
      let k = end - length (map (new_in vt) (x ∷ xs)) in
      let q = and_parts (new_is_valid unified_pattern k (new_in vt x)) (news_are_valid unified_pattern end (map (new_in vt) xs)) e in
      and_from (new_uses ok (new_in vt x)) (list_all (new_uses ok) (map (new_in vt) xs)) (one k x q.0) (news_use end xs q.1)
    where
      one : (k : ℕ) (x : NewValue) → new_is_valid unified_pattern k (new_in vt x) ≡ true → new_uses ok (new_in vt x) ≡ true
      one k (new.Operation o) e = had_of o.ty (and_parts (is_type unified_pattern (number_in vt o.ty)) _ e).0
      one k (new.Constant i t) e = had_of t (and_parts (is_type unified_pattern (number_in vt t)) _ e).0

  -- the parts of a well-formed pattern
  pub uses : is_well_formed unified_pattern ≡ true → uses_only (is_had unified_pattern) unified_pattern ≡ true
  uses wf =
      let U = unified_pattern in
      let s = and_parts _ (eqb (U.root + 1) (new_begins U) && (olds_are_valid U (new_begins U) U.old && (news_are_valid U (new_ends U) U.new && is_new U (new_ends U) U.result))) wf in
      let c1 = and_parts (list_all (type_is_valid U) U.value_types) _ s.0 in
      let c2 = and_parts (list_all (is_type U) U.values) _ c1.1 in
      let c3 = and_parts (list_all (is_variable U) U.constants) _ c2.1 in
      let c4 = and_parts (list_all (extra_is_valid U) U.extra) _ c3.1 in
      let c5 = and_parts (list_all (constraint_is_valid U) U.type_constraints) (numbers_are_valid U (old_begins U) U.given) c4.1 in
      let d1 = and_parts (eqb (U.root + 1) (new_begins U)) _ s.1 in
      let d2 = and_parts (olds_are_valid U (new_begins U) U.old) _ d1.1 in
      let d3 = and_parts (news_are_valid U (new_ends U) U.new) (is_new U (new_ends U) U.result) d2.1 in
      and_from (list_all ok U.values) _ (values_use (range_with_len 0 (length b.variables)) c2.0)
      (and_from (list_all (extra_uses ok) U.extra) _ (extras_use f.extra c4.0)
      (and_from (list_all (requested_uses ok) U.type_constraints) _ (constraints_use list c5.0)
      (and_from (list_all (number_uses ok) U.given) _ (numbers_use (old_begins U) f.given c5.1)
      (and_from (list_all (pattern_op_uses ok) U.old) (list_all (new_uses ok) U.new) (olds_use (new_begins U) f.old d2.0) (news_use (new_ends U) f.new d3.0)))))
