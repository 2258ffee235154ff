-- The numbers of a semantic analysis: each has the type that it is computed at.
use Rattle.std.proofs.Common.{◌≡◌, ℕ, zero, suc, ◌+◌, ◌-◌, ◌<◌, ◌≤◌, Bool, true, false, if◌then◌else◌, List, [], ◌∷◌, ◌++◌, length, get_or, Option, Some, None, Ok, refl, sym, ap, subst, ◌∙◌, ◌⊎◌, inl, inr, arith}
use Rattle.std.specs.Prelude.{nat_lt, is_some}
use Rattle.std.specs.List.{AllByRecursion}
use Rattle.std.proofs.lemmas.Bool.{lt-ltb, ltb-true}
use Rattle.std.proofs.lemmas.Option.{none-some, same_Some}
use Rattle.ir_types.specs.declared.bits.BitsKind.TheVariants as bits
use Rattle.dialects_int.specs.declared.operations.Arithmetic.TheVariants as op
use Rattle.user_patterns_text.specs.Parts.{operation_part, value_part, literal_part, name_part, function_part, condition_part, type_part, end_part}
use Rattle.user_patterns_text.specs.Refusing.{Outcome, ◌>>=◌}
use Rattle.user_patterns_data.specs.declared.pattern.PatternType.{PatternType}
use Rattle.user_patterns_data.specs.declared.pattern.PatternType.TheVariants as ty
use Rattle.user_patterns_data.specs.declared.pattern.ConstantExpression.{ConstantExpression}
use Rattle.user_patterns_data.specs.declared.pattern.ConstantExpression.TheVariants as number
use Rattle.user_patterns_sema_base.specs.declared.names.Count.{Count}
use Rattle.user_patterns_sema_base.specs.declared.names.Count.TheVariants as count
use Rattle.user_patterns_sema_base.specs.declared.words.Function.{Function}
use Rattle.user_patterns_sema_base.specs.declared.words.Function.TheVariants as function
use Rattle.user_patterns_sema_base.specs.Names.{function_weight, is_variable, name_weight, place_from, place_of, weight}
use Rattle.user_patterns_sema_base.specs.Types.{kind_of}
use Rattle.user_patterns_sema_base.specs.Views.{Variable}
use Rattle.user_patterns_sema_base.specs.Words.{function_named, truth_named}
use Rattle.user_patterns_sema.specs.Sema.{Places, Sema, State, and_literal, and_number, applied, function_at, gathered, headroom, literal_number, literal_with, name_from, next_number, number_at, trailing, unite, unite_with, word_from}
use Rattle.patterns_refinement.proofs.SemaSteps.{Holds, Parts, Walk, gathered_holds, holds_more, holds_then, one_longer}
use Rattle.patterns_refinement.proofs.SemaTypes.{AllWide, Begun, Covered, Grown, Rest, Same, grown_itself, grown_through, rest_of, still_same, unite_holds, unite_with_holds, wide_at}

-- the weights of all parts
abbrev pub weights : Count → Parts → ℕ
weights c [] = 0
weights c (p ∷ ps) = weight c p.1 + weights c ps

-- ---- the places of variables
pub place_below : (k : ℕ) (is_value : Bool) (name : List ℕ) (vs : List Variable) (i : ℕ) → place_from k is_value name vs ≡ Some i → (k ≤ i) × (i < k + length vs)
unfolding place_from
place_below k is_value name [] i e = absurd (none-some i e)
place_below k is_value name (v ∷ vs) i e = go (is_variable is_value name v) (place_below (k + 1) is_value name vs i) e
  where
    go : (t : Bool) → (place_from (k + 1) is_value name vs ≡ Some i → (k + 1 ≤ i) × (i < k + 1 + length vs)) → (if t then Some k else place_from (k + 1) is_value name vs) ≡ Some i → (k ≤ i) × (i < k + suc (length vs))
    go true more e = let same : k ≡ i = same_Some k i e in (omega (arith, same), omega (arith, same))
    go false more e = let h = more e in (omega (arith, h.0), omega (arith, h.1))

pub place_within : (is_value : Bool) (name : List ℕ) (vs : List Variable) (i : ℕ) → place_of is_value name vs ≡ Some i → i < length vs
place_within is_value name vs i e = let h = place_below 0 is_value name vs i e in omega (arith, h.1)

-- ---- the types of numbers
-- the type number of the number at a place, by those of the computed numbers
abbrev pub computed_slot : Places → List (Option ℕ) → ℕ → Option ℕ
computed_slot b acc i = if nat_lt i b.given then None else get_or acc (i - b.given) None

abbrev pub place_slot : Places → List (Option ℕ) → ℕ → Option ℕ
place_slot b acc i = if nat_lt i (length b.variables) then Some i else computed_slot b acc i

abbrev pub slot_for : Places → List (Option ℕ) → ConstantExpression → Option ℕ
slot_for b acc (number.Literal l) = Some l.ty
slot_for b acc (number.Width t) = Some t
slot_for b acc (number.Binary o i j) = place_slot b acc i
slot_for b acc (number.Compare q i j) = None
slot_for b acc (number.Log2 i) = place_slot b acc i
slot_for b acc (number.Require i) = None

abbrev pub slots_after : Places → List (Option ℕ) → List ConstantExpression → List (Option ℕ)
slots_after b acc [] = acc
slots_after b acc (c ∷ cs) = slots_after b (acc ++ (slot_for b acc c ∷ [])) cs

abbrev pub slots : Places → List ConstantExpression → List (Option ℕ)
slots b cs = slots_after b [] cs

pub slots_more : (b : Places) (cs : List ConstantExpression) (acc : List (Option ℕ)) (c : ConstantExpression) → slots_after b acc (cs ++ (c ∷ [])) ≡ slots_after b acc cs ++ (slot_for b (slots_after b acc cs) c ∷ [])
slots_more b [] acc c = refl
slots_more b (d ∷ cs) acc c = slots_more b cs (acc ++ (slot_for b acc d ∷ [])) c

pub slots_long : (b : Places) (cs : List ConstantExpression) (acc : List (Option ℕ)) → length (slots_after b acc cs) ≡ length acc + length cs
slots_long b [] acc = omega arith
slots_long b (d ∷ cs) acc = slots_long b cs (acc ++ (slot_for b acc d ∷ [])) ∙ ap (λ n. n + length cs) (one_longer acc (slot_for b acc d)) ∙ same (length acc) (length cs)
  where
    same : (m n : ℕ) → m + 1 + n ≡ m + suc n
    same m n = omega arith

got_more : (acc : List (Option ℕ)) (o : Option ℕ) (k s : ℕ) → get_or acc k None ≡ Some s → get_or (acc ++ (o ∷ [])) k None ≡ Some s
got_more [] o k s e = absurd (none-some s e)
got_more (x ∷ acc) o zero s e = e
got_more (x ∷ acc) o (suc k) s e = got_more acc o k s e

got_last : (acc : List (Option ℕ)) (o : Option ℕ) → get_or (acc ++ (o ∷ [])) (length acc) None ≡ o
got_last [] o = refl
got_last (x ∷ acc) o = got_last acc o

pub place_slot_more : (b : Places) (acc : List (Option ℕ)) (o : Option ℕ) (i s : ℕ) → place_slot b acc i ≡ Some s → place_slot b (acc ++ (o ∷ [])) i ≡ Some s
place_slot_more b acc o i s e = go (nat_lt i (length b.variables)) e
  where
    by : (t : Bool) → (if t then None else get_or acc (i - b.given) None) ≡ Some s → (if t then None else get_or (acc ++ (o ∷ [])) (i - b.given) None) ≡ Some s
    by true e = e
    by false e = got_more acc o (i - b.given) s e

    go : (t : Bool) → (if t then Some i else computed_slot b acc i) ≡ Some s → (if t then Some i else computed_slot b (acc ++ (o ∷ [])) i) ≡ Some s
    go true e = e
    go false e = by (nat_lt i b.given) e

-- the number at a place has a type that equals the type with a number
abbrev pub NumberHas : Places → ℕ → ℕ → Sema → Type 0
NumberHas b s i f = (t : ℕ) × (place_slot b (slots b f.given) i ≡ Some t) × (t < length f.value_types) × (kind_of t f.value_types ≡ kind_of s f.value_types)

-- the type is still its own variable, or is covered
abbrev pub IsFreeOrCovered : ℕ → ℕ → Sema → Type 0
IsFreeOrCovered n s f = (kind_of s f.value_types ≡ ty.Variable s) ⊎ Covered n f.value_types (rest_of f) s

abbrev pub but_given : Rest → Rest
but_given r = record r { given = [] }

-- ---- a step that computes numbers of a type
pub record Numbered (b : Places) (s : ℕ) (f h : Sema) : Type 0 where
  pub grown : Grown f.value_types h.value_types
  pub long : length h.value_types ≡ length f.value_types
  pub wide : AllWide f.value_types → AllWide h.value_types
  pub rest : but_given (rest_of h) ≡ but_given (rest_of f)
  pub stays : (i t : ℕ) → place_slot b (slots b f.given) i ≡ Some t → place_slot b (slots b h.given) i ≡ Some t
  pub free : IsFreeOrCovered (length b.variables) s f → IsFreeOrCovered (length b.variables) s h

-- what is recorded depends on the rest without the numbers
pub begun_but_given : (n : ℕ) (r u : Rest) → but_given u ≡ but_given r → (j : ℕ) → Begun n r j → Begun n u j
begun_but_given n r u e j x = subst (λ (r : Rest). Begun n r j) (sym e) x

pub numbered_through : (b : Places) (s : ℕ) (f g h : Sema) → Numbered b s f g → Numbered b s g h → Numbered b s f h
numbered_through b s f g h x y = record {
  grown = grown_through f.value_types g.value_types h.value_types x.grown y.grown;
  long = y.long ∙ x.long;
  wide = λ w. y.wide (x.wide w);
  rest = y.rest ∙ x.rest;
  stays = λ i t e. y.stays i t (x.stays i t e);
  free = λ l. y.free (x.free l);
}

pub has_still : (b : Places) (s i : ℕ) (f h : Sema) → Numbered b s f h → s < length f.value_types → NumberHas b s i f → NumberHas b s i h
has_still b s i f h x l p =
    let long = x.long in
    (p.0, x.stays i p.0 p.1, omega (arith, p.2, long), still_same f.value_types h.value_types x.grown p.0 s p.2 l p.3)

module _ (b : Places) (s : ℕ) (start : length b.variables ≤ b.given) where
  abbrev Here : Sema → Type 0
  Here f = (s < length f.value_types) × (length b.variables ≤ length f.value_types)

  here_still : (f h : Sema) → Numbered b s f h → (s < length f.value_types) × (length b.variables ≤ length f.value_types) → (s < length h.value_types) × (length b.variables ≤ length h.value_types)
  here_still f h x i = let long = x.long in (omega (arith, i.0, long), omega (arith, i.1, long))

  numbered_still : (f : Sema) → Numbered b s f f
  numbered_still f = record { grown = grown_itself f.value_types; long = refl; wide = λ w. w; rest = refl; stays = λ i t e. e; free = λ l. l }

  -- one more number
  abbrev with_number : ConstantExpression → Sema → Sema
  with_number c f = record f { given = f.given ++ (c ∷ []) }

  pub pushed : (c : ConstantExpression) (f : Sema) → Numbered b s f (record f { given = f.given ++ (c ∷ []) })
  pushed c f = record {
    grown = grown_itself f.value_types;
    long = refl;
    wide = λ w. w;
    rest = refl;
    stays = λ i t e. subst (λ acc. place_slot b acc i ≡ Some t) (sym (slots_more b f.given [] c)) (place_slot_more b (slots b f.given) (slot_for b (slots b f.given) c) i t e);
    free = λ l. l;
  }

  -- and its type
  pub pushed_slot : (c : ConstantExpression) (f : Sema) → place_slot b (slots b (f.given ++ (c ∷ []))) (next_number b f) ≡ slot_for b (slots b f.given) c
  pushed_slot c f =
      ap (λ acc. place_slot b acc (b.given + length f.given)) (slots_more b f.given [] c)
      ∙ go (nat_lt (b.given + length f.given) (length b.variables)) refl
    where
      past : nat_lt (b.given + length f.given) (length b.variables) ≡ true → ⊥
      past e = let l = ltb-true (b.given + length f.given) (length b.variables) e in omega (arith, l, start)

      same : b.given + length f.given - b.given ≡ length (slots b f.given)
      same = let l = slots_long b f.given [] in omega (arith, l)

      low : nat_lt (b.given + length f.given) b.given ≡ true → ⊥
      low e = let l = ltb-true (b.given + length f.given) b.given e in omega (arith, l)

      by : (t : Bool) → nat_lt (b.given + length f.given) b.given ≡ t → (if t then None else get_or (slots b f.given ++ (slot_for b (slots b f.given) c ∷ [])) (b.given + length f.given - b.given) None) ≡ slot_for b (slots b f.given) c
      by true e = absurd (low e)
      by false e = ap (λ k. get_or (slots b f.given ++ (slot_for b (slots b f.given) c ∷ [])) k None) same ∙ got_last (slots b f.given) (slot_for b (slots b f.given) c)

      go : (t : Bool) → nat_lt (b.given + length f.given) (length b.variables) ≡ t
          → (if t then Some (b.given + length f.given) else computed_slot b (slots b f.given ++ (slot_for b (slots b f.given) c ∷ [])) (b.given + length f.given)) ≡ slot_for b (slots b f.given) c
      go true e = absurd (past e)
      go false e = by (nat_lt (b.given + length f.given) b.given) refl

  -- a step that unifies types
  pub numbered_united : (x y : PatternType) (f h : Sema) → Same x y f h → (IsFreeOrCovered (length b.variables) s f → IsFreeOrCovered (length b.variables) s h) → (AllWide f.value_types → AllWide h.value_types) → Numbered b s f h
  numbered_united x y f h u free wide = record {
    grown = u.value_kinds.grown;
    long = u.value_kinds.long;
    wide = wide;
    rest = ap but_given u.rest;
    stays = λ i t e. subst (λ (r : Rest). place_slot b (slots b r.given) i ≡ Some t) (sym u.rest) e;
    free = free;
  }

  -- ---- the number's step and its parts
  abbrev Walked : Parts → Sema → Parts → Sema → Type 0
  Walked ps f qs h = Numbered b s f h × (length h.given + weights count.Numbers qs ≤ length f.given + weights count.Numbers ps)

  abbrev Found : Parts → Sema → ℕ × State → Type 0
  Found ps f y = Here y.1.1 × Walked ps f y.1.0 y.1.1 × NumberHas b s y.0 y.1.1

  -- ---- functions of numbers
  abbrev Applied : Option Function → Sema → ℕ × Sema → Type 0
  Applied o f y = Numbered b s f y.1 × (length y.1.given ≤ length f.given + function_weight o) × NumberHas b s y.0 y.1

  -- a number whose type is that of s
  one_pushed : (c : ConstantExpression) (f : Sema) (t : ℕ) → slot_for b (slots b f.given) c ≡ Some t → t < length f.value_types → kind_of t f.value_types ≡ kind_of s f.value_types → NumberHas b s (next_number b f) (record f { given = f.given ++ (c ∷ []) })
  one_pushed c f t e l k = (t, pushed_slot c f ∙ e, l, k)

  longer_by : (c : ConstantExpression) (f : Sema) → length (f.given ++ (c ∷ [])) ≡ length f.given + 1
  longer_by c f = one_longer f.given c

  applied_holds : (o : Option Function) (xs : List ℕ) (at : ℕ) (f : Sema) → (s < length f.value_types) × (length b.variables ≤ length f.value_types) → AllByRecursion (λ i. NumberHas b s i f) xs → Holds (Applied o f) (applied b o xs s at f)
  applied_holds (Some (function.Binary o)) (i ∷ j ∷ []) at f h all =
      let c = number.Binary o i j in
      let l = longer_by c f in
      (pushed c f, omega (arith, l), one_pushed c f all.0.0 all.0.1 all.0.2 all.0.3)
  applied_holds (Some function.Negate) (i ∷ []) at f h all =
      let c = literal_number false 0 s in
      let g = with_number c f in
      let d = number.Binary op.Subtract (next_number b f) i in
      let l = longer_by c f in
      let m = longer_by d g in
      (numbered_through b s f g (with_number d g) (pushed c f) (pushed d g), omega (arith, l, m), one_pushed d g s (pushed_slot c f) h.0 refl)
  applied_holds (Some function.Complement) (i ∷ []) at f h all =
      let c = literal_number true 1 s in
      let g = with_number c f in
      let d = number.Binary op.ExclusiveOr i (next_number b f) in
      let l = longer_by c f in
      let m = longer_by d g in
      let p = has_still b s i f g (pushed c f) h.0 all.0 in
      (numbered_through b s f g (with_number d g) (pushed c f) (pushed d g), omega (arith, l, m), one_pushed d g p.0 p.1 p.2 p.3)
  applied_holds (Some function.Log2) (i ∷ []) at f h all =
      let c = number.Log2 i in
      let l = longer_by c f in
      (pushed c f, omega (arith, l), one_pushed c f all.0.0 all.0.1 all.0.2 all.0.3)
  applied_holds (Some function.Width) (i ∷ []) at f h all =
      let c = number.Width s in
      let l = longer_by c f in
      (pushed c f, omega (arith, l), one_pushed c f s refl h.0 refl)
  applied_holds o xs at f h all = tt

  -- ---- words
  abbrev Worded : List ℕ → Sema → ℕ × Sema → Type 0
  Worded name f y = Numbered b s f y.1 × (length y.1.given ≤ length f.given + name_weight name) × NumberHas b s y.0 y.1

  given_same : (f h : Sema) → rest_of h ≡ rest_of f → h.given ≡ f.given
  given_same f h e = ap (λ (r : Rest). r.given) e

  truth_holds : (name : List ℕ) (v at : ℕ) (f : Sema) → truth_named name ≡ Some v → (s < length f.value_types) × (length b.variables ≤ length f.value_types) → Holds (Worded name f) (unite_with s (bits.Int 1) at f >>= λ g. Ok (and_number b (literal_number false v s) g))
  truth_holds name v at f e h =
      let one = ty.Concrete (bits.Int 1) in
      holds_then (Same (kind_of s f.value_types) one f) (Worded name f) (unite_with s (bits.Int 1) at f) (λ g. Ok (and_number b (literal_number false v s) g)) (unite_with_holds s (bits.Int 1) at f)
      (λ g u.
      let c = literal_number false v s in
      let at_s : kind_of s g.value_types ≡ ty.Concrete (bits.Int 1) = u.value_kinds.grown.at s h.0 ∙ u.value_kinds.same ∙ u.value_kinds.grown.concrete (bits.Int 1) in
      let united = numbered_united (kind_of s f.value_types) one f g u (λ l. inr (inl (bits.Int 1, at_s))) (λ w. u.value_kinds.wide w (wide_at f.value_types s w) refl) in
      let long = u.value_kinds.long in
      let within : s < length g.value_types = omega (arith, h.0, long) in
      let l = longer_by c g in
      let same = ap length (given_same f g u.rest) in
      let w : name_weight name ≡ 1 = ap (λ (o : Option ℕ). if is_some o then 1 else 0) e in
      (numbered_through b s f g (with_number c g) united (pushed c g), omega (arith, l, same, w), one_pushed c g s refl within refl))

  word_holds : (name : List ℕ) (at : ℕ) (f : Sema) → (s < length f.value_types) × (length b.variables ≤ length f.value_types) → Holds (Worded name f) (word_from b (truth_named name) name s at f)
  word_holds name at f h = go (truth_named name) refl
    where
      by : (o : Option ℕ) → place_of false name b.variables ≡ o → Holds (Worded name f) (name_from s at o f)
      by None e = tt
      by (Some i) e =
          let within = place_within false name b.variables i e in
          holds_then (Same (kind_of s f.value_types) (kind_of i f.value_types) f) (Worded name f) (unite s i at f) (λ g. Ok (i, g)) (unite_holds s i at f)
          (λ g u.
          let long = u.value_kinds.long in
          let there : i < length f.value_types = omega (arith, within, h.1) in
          let after : i < length g.value_types = omega (arith, there, long) in
          let same : kind_of s g.value_types ≡ kind_of i g.value_types = u.value_kinds.grown.at s h.0 ∙ u.value_kinds.same ∙ sym (u.value_kinds.grown.at i there) in
          let x = numbered_united (kind_of s f.value_types) (kind_of i f.value_types) f g u (λ l. inr (inr (i, inl within, after, same))) (λ w. u.value_kinds.wide w (wide_at f.value_types s w) (wide_at f.value_types i w)) in
          let count = ap length (given_same f g u.rest) in
          (x, omega (arith, count), (i, ap (λ t. if t then Some i else computed_slot b (slots b g.given) i) (lt-ltb i (length b.variables) within), after, sym same)))

      go : (o : Option ℕ) → truth_named name ≡ o → Holds (Worded name f) (word_from b o name s at f)
      go (Some v) e = truth_holds name v at f e h
      go None e = by (place_of false name b.variables) refl

  -- ---- numbers
  walk_of : (T : State → Outcome (ℕ × State)) → ((ps : Parts) (f : Sema) → Here f → Holds (Found ps f) (T (ps, f))) → Walk T (λ ps f. Here f) Walked (λ i f. Here f × NumberHas b s i f)
  walk_of T step = record {
    still = λ ps f i. (numbered_still f, omega arith);
    through = λ ps qs rs f g h x y. (numbered_through b s f g h x.0 y.0, omega (arith, x.1, y.1));
    ends = λ left ps f i. (i, (numbered_still f, omega arith));
    keeps = λ ps qs f g i x p. (here_still f g x.0 p.0, has_still b s i f g x.0 p.0.0 p.1);
    step = λ ps f i. holds_more (Found ps f) (λ (y : ℕ × State). Here y.1.1 × Walked ps f y.1.0 y.1.1 × (Here y.1.1 × NumberHas b s y.0 y.1.1)) (T (ps, f)) (step ps f i) (λ y h. (h.0, h.1, (h.0, h.2)));
  }

  only_has : (f : Sema) (xs : List ℕ) → AllByRecursion (λ i. Here f × NumberHas b s i f) xs → AllByRecursion (λ i. NumberHas b s i f) xs
  only_has f [] all = tt
  only_has f (x ∷ xs) all = (all.0.1, only_has f xs all.1)

  pub number_holds : (depth : ℕ) (ps : Parts) (f : Sema) → Here f → Holds (Found ps f) (number_at b depth s (ps, f))
  unfolding number_at function_at
  number_holds zero ps f i = tt
  number_holds (suc depth) [] f i = tt
  number_holds (suc depth) ((at, literal_part negative magnitude) ∷ ps) f i =
      let c = literal_number negative magnitude s in
      let g = and_literal (literal_with negative magnitude s) at f in
      let l = longer_by c f in
      let x = pushed c g in
      (i, (record { grown = x.grown; long = x.long; wide = x.wide; rest = x.rest; stays = x.stays; free = x.free }, omega (arith, l)), one_pushed c g s refl i.0 refl)
  number_holds (suc depth) ((at, name_part name) ∷ ps) f i =
      holds_then (Worded name f) (Found ((at, name_part name) ∷ ps) f) (word_from b (truth_named name) name s at f) (λ x. Ok (trailing ps x)) (word_holds name at f i)
      (λ y h. (here_still f y.1 h.0 i, (h.0, omega (arith, h.1)), h.2))
  number_holds (suc depth) ((at, function_part name) ∷ ps) f i =
      holds_then (λ (y : List ℕ × State). Here y.1.1 × Walked ps f y.1.0 y.1.1 × AllByRecursion (λ i. Here y.1.1 × NumberHas b s i y.1.1) y.0) (Found ((at, function_part name) ∷ ps) f) (gathered (number_at b depth s) headroom [] (ps, f))
      (λ x. applied b (function_named name) x.0 s at x.1.1 >>= λ y. Ok (trailing x.1.0 y))
      (gathered_holds (number_at b depth s) (λ ps f. Here f) Walked (λ i f. Here f × NumberHas b s i f) (walk_of (number_at b depth s) (λ ps f i. number_holds depth ps f i)) headroom [] ps f i tt)
      (λ x g.
      holds_then (Applied (function_named name) x.1.1) (Found ((at, function_part name) ∷ ps) f) (applied b (function_named name) x.0 s at x.1.1) (λ y. Ok (trailing x.1.0 y)) (applied_holds (function_named name) x.0 at x.1.1 g.0 (only_has x.1.1 x.0 g.2))
      (λ y h. (here_still x.1.1 y.1 h.0 g.0, (numbered_through b s f x.1.1 y.1 g.1.0 h.0, omega (arith, g.1.1, h.1)), h.2)))
  number_holds (suc depth) ((at, value_part name) ∷ ps) f i = tt
  number_holds (suc depth) ((at, operation_part name asks) ∷ ps) f i = tt
  number_holds (suc depth) ((at, condition_part name) ∷ ps) f i = tt
  number_holds (suc depth) ((at, type_part name) ∷ ps) f i = tt
  number_holds (suc depth) ((at, end_part) ∷ ps) f i = tt

  -- several numbers, up to an end
  pub numbers_hold : (depth : ℕ) (ps : Parts) (f : Sema) → (s < length f.value_types) × (length b.variables ≤ length f.value_types)
      → Holds (λ (y : List ℕ × State). ((s < length y.1.1.value_types) × (length b.variables ≤ length y.1.1.value_types)) × (Numbered b s f y.1.1 × (length y.1.1.given + weights count.Numbers y.1.0 ≤ length f.given + weights count.Numbers ps)) × AllByRecursion (λ i. NumberHas b s i y.1.1) y.0) (gathered (number_at b depth s) headroom [] (ps, f))
  numbers_hold depth ps f i =
      holds_more (λ (y : List ℕ × State). Here y.1.1 × Walked ps f y.1.0 y.1.1 × AllByRecursion (λ i. Here y.1.1 × NumberHas b s i y.1.1) y.0) (λ (y : List ℕ × State). Here y.1.1 × Walked ps f y.1.0 y.1.1 × AllByRecursion (λ i. NumberHas b s i y.1.1) y.0) (gathered (number_at b depth s) headroom [] (ps, f))
      (gathered_holds (number_at b depth s) (λ ps f. Here f) Walked (λ i f. Here f × NumberHas b s i f) (walk_of (number_at b depth s) (λ ps f i. number_holds depth ps f i)) headroom [] ps f i tt)
      (λ y h. (h.0, h.1, only_has y.1.1 y.0 h.2))
