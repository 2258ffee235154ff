-- The types of a semantic analysis: each step replaces types alike, and each type is that of a recorded term.
use Rattle.std.proofs.Common.{◌≡◌, ℕ, zero, suc, ◌+◌, ◌<◌, ◌≤◌, Bool, true, false, true≢false, eqb-true, if◌then◌else◌, List, [], ◌∷◌, ◌++◌, length, map, Option, Some, None, Ok, Err, refl, sym, ap, subst, ◌∙◌, ◌⊎◌, inl, inr, arith}
use Rattle.std.specs.Prelude.{not, ◌&&◌, option_map}
use Rattle.std.specs.Str.{bytes_eq}
use Rattle.std.specs.Char.{is_ascii_digit}
use Rattle.std.specs.List.{list_all}
use Rattle.std.proofs.lemmas.Bool.{and_from, and_parts, eq-eqb}
use Rattle.std.proofs.lemmas.Option.{none-some, same_Some}
use Rattle.std.proofs.lemmas.List.{get_or-map, get_or_append_left, length-append, length-map}
use Rattle.ir_types.specs.declared.bits.BitsKind.{BitsKind}
use Rattle.ir_types.specs.declared.bits.BitsKind.TheVariants as bits
use Rattle.ir_types.specs.Reasons.{is_width}
use Rattle.ir_text_tokens.specs.Numbers.{integer_of}
use Rattle.ir_text_tokens.specs.declared.refusal.TextRefusal.TheVariants.{BadValue}
use Rattle.ir_text_types.specs.Scalars as scalars
use Rattle.user_patterns_text.specs.Heads.{Written, after_i, integer_type, index_type, is_integer_word, variable_type, type_word}
use Rattle.user_patterns_text.specs.Parts.{operation_part, value_part, literal_part, name_part, function_part, condition_part, type_part, end_part}
use Rattle.user_patterns_text.specs.Refusing.{Outcome, ◌>>=◌, refused}
use Rattle.user_patterns_data.specs.declared.pattern.PatternType.{PatternType}
use Rattle.user_patterns_data.specs.declared.pattern.PatternType.TheVariants as ty
use Rattle.user_patterns_data.specs.declared.pattern.PatternOp.{PatternOp}
use Rattle.user_patterns_data.specs.declared.pattern.ExtraConstant.{ExtraConstant}
use Rattle.user_patterns_data.specs.declared.pattern.ConstantExpression.{ConstantExpression}
use Rattle.user_patterns_data.specs.declared.pattern.NewValue.{NewValue}
use Rattle.user_patterns_data.specs.declared.pattern.TypeConstraint.{TypeConstraint}
use Rattle.user_patterns_sema_base.specs.Types.{Types, all_in_place, in_place, kind_of, named_from, one, one_with, same_bits, same_kind, slot_of, unified, united, written, written_from}
use Rattle.user_patterns_sema.specs.declared.state.CastConstraint.{CastConstraint}
use Rattle.user_patterns_sema.specs.declared.state.RequiredType.{RequiredType}
use Rattle.user_patterns_sema.specs.Sema.{Sema, State, is_of, typed, types_of, unite, unite_with, with_kinds, written_at}
use Rattle.patterns_refinement.specs.ForOutcomes.{has_width}
use Rattle.patterns_refinement.proofs.SemaSteps.{At, Holds, Parts, holds_more, holds_then}

abbrev pub AllWide : List PatternType → Type 0
AllWide ks = list_all has_width ks ≡ true

-- ---- equal types
bits_equal : (a b : BitsKind) → same_bits a b ≡ true → a ≡ b
bits_equal (bits.Int v) (bits.Int w) e = ap bits.Int (eqb-true v w e)
bits_equal (bits.Int v) bits.Index e = absurd (true≢false (sym e))
bits_equal bits.Index (bits.Int w) e = absurd (true≢false (sym e))
bits_equal bits.Index bits.Index e = refl

pub kinds_equal : (a b : PatternType) → same_kind a b ≡ true → a ≡ b
kinds_equal (ty.Concrete a) (ty.Concrete b) e = ap ty.Concrete (bits_equal a b e)
kinds_equal (ty.Concrete a) (ty.Variable j) e = absurd (true≢false (sym e))
kinds_equal (ty.Variable i) (ty.Concrete b) e = absurd (true≢false (sym e))
kinds_equal (ty.Variable i) (ty.Variable j) e = ap ty.Variable (eqb-true i j e)

-- ---- types that grow
-- each earlier type is replaced in the same way, and concrete types stay
pub record Grown (ks ls : List PatternType) : Type 0 where
  pub change : PatternType → PatternType
  pub concrete : (k : BitsKind) → change (ty.Concrete k) ≡ ty.Concrete k
  pub longer : length ks ≤ length ls
  pub at : (i : ℕ) → i < length ks → kind_of i ls ≡ change (kind_of i ks)

pub grown_itself : (ks : List PatternType) → Grown ks ks
grown_itself ks = record { change = λ k. k; concrete = λ k. refl; longer = omega arith; at = λ i l. refl }

pub grown_through : (ks ls ms : List PatternType) → Grown ks ls → Grown ls ms → Grown ks ms
grown_through ks ls ms g h = record {
  change = λ k. h.change (g.change k);
  concrete = λ k. ap h.change (g.concrete k) ∙ h.concrete k;
  longer = omega (arith, g.longer, h.longer);
  at = λ i l. h.at i (omega (arith, l, g.longer)) ∙ ap h.change (g.at i l);
}

pub grown_more : (ks ls : List PatternType) → Grown ks (ks ++ ls)
grown_more ks ls = record {
  change = λ k. k;
  concrete = λ k. refl;
  longer = omega (arith, length-append ks ls);
  at = λ i l. get_or_append_left ks ls (ty.Concrete bits.Index) i l;
}

pub still_same : (ks ls : List PatternType) (g : Grown ks ls) (i j : ℕ) → i < length ks → j < length ks → kind_of i ks ≡ kind_of j ks → kind_of i ls ≡ kind_of j ls
still_same ks ls g i j li lj e = g.at i li ∙ ap g.change e ∙ sym (g.at j lj)

pub still_concrete : (ks ls : List PatternType) (g : Grown ks ls) (i : ℕ) (k : BitsKind) → i < length ks → kind_of i ks ≡ ty.Concrete k → kind_of i ls ≡ ty.Concrete k
still_concrete ks ls g i k l e = g.at i l ∙ ap g.change e ∙ g.concrete k

-- ---- a type of a list is wide
pub wide_at : (ks : List PatternType) (i : ℕ) → AllWide ks → has_width (kind_of i ks) ≡ true
wide_at [] i e = refl
wide_at (k ∷ ks) zero e = (and_parts (has_width k) (list_all has_width ks) e).0
wide_at (k ∷ ks) (suc i) e = wide_at ks i (and_parts (has_width k) (list_all has_width ks) e).1

pub wide_more : (ks : List PatternType) (k : PatternType) → AllWide ks → has_width k ≡ true → AllWide (ks ++ (k ∷ []))
wide_more [] k e w = and_from (has_width k) true w refl
wide_more (j ∷ ks) k e w =
    let q = and_parts (has_width j) (list_all has_width ks) e in
    and_from (has_width j) (list_all has_width (ks ++ (k ∷ []))) q.0 (wide_more ks k q.1 w)

-- ---- unified types
pub record Unified (a b : PatternType) (ks ls : List PatternType) : Type 0 where
  pub grown : Grown ks ls
  pub same : grown.change a ≡ grown.change b
  pub long : length ls ≡ length ks
  pub wide : AllWide ks → has_width a ≡ true → has_width b ≡ true → AllWide ls

replaced_itself : (i : ℕ) (new : PatternType) → in_place i new (ty.Variable i) ≡ new
replaced_itself i new = ap (λ t. if t then new else ty.Variable i) (eq-eqb i i refl)

replaced_new : (i : ℕ) (new : PatternType) → in_place i new new ≡ new
replaced_new i new = go (same_kind new (ty.Variable i))
  where
    go : (t : Bool) → (if t then new else new) ≡ new
    go true = refl
    go false = refl

replaced_wide : (i : ℕ) (new : PatternType) (ks : List PatternType) → AllWide ks → has_width new ≡ true → AllWide (map (in_place i new) ks)
replaced_wide i new [] e w = refl
replaced_wide i new (k ∷ ks) e w =
    let q = and_parts (has_width k) (list_all has_width ks) e in
    and_from (has_width (in_place i new k)) (list_all has_width (map (in_place i new) ks)) (go (same_kind k (ty.Variable i)) q.0) (replaced_wide i new ks q.1 w)
  where
    go : (t : Bool) → has_width k ≡ true → has_width (if t then new else k) ≡ true
    go true e = w
    go false e = e

replaced : (i : ℕ) (new : PatternType) (ks : List PatternType) → Grown ks (map (in_place i new) ks)
replaced i new ks = record {
  change = in_place i new;
  concrete = λ k. refl;
  longer = omega (arith, length-map ks (in_place i new));
  at = λ j l. get_or-map (in_place i new) ks j (ty.Concrete bits.Index) (ty.Concrete bits.Index) l;
}

pub unified_holds : (a b : PatternType) (at : ℕ) (ks : List PatternType) → Holds (Unified a b ks) (unified a b at ks)
unfolding unified all_in_place replaced grown_itself
unified_holds a b at ks = go (same_kind a b) refl
  where
    by : (a b : PatternType) → Holds (Unified a b ks) (united a b at ks)
    by (ty.Variable i) b = record {
      grown = replaced i b ks;
      same = replaced_itself i b ∙ sym (replaced_new i b);
      long = length-map ks (in_place i b);
      wide = λ e v w. replaced_wide i b ks e w;
    }
    by (ty.Concrete a) (ty.Variable j) = record {
      grown = replaced j (ty.Concrete a) ks;
      same = sym (replaced_itself j (ty.Concrete a));
      long = length-map ks (in_place j (ty.Concrete a));
      wide = λ e v w. replaced_wide j (ty.Concrete a) ks e v;
    }
    by (ty.Concrete a) (ty.Concrete b) = tt

    go : (t : Bool) → same_kind a b ≡ t → Holds (Unified a b ks) (if t then Ok ks else united a b at ks)
    go true e = record { grown = grown_itself ks; same = kinds_equal a b e; long = refl; wide = λ e v w. e }
    go false e = by a b

-- ---- the rest of the state
-- the parts of the state that types don't change
pub record Rest : Type 0 where
  pub old_types : List ℕ
  pub new_types : List RequiredType
  pub casts : List CastConstraint
  pub type_constraints : List TypeConstraint
  pub visited : List ℕ
  pub extra : List ExtraConstant
  pub given : List ConstantExpression
  pub old : List PatternOp
  pub new : List NewValue

abbrev pub rest_of : Sema → Rest
rest_of f =
    record {
      old_types = f.old_types;
      new_types = f.new_types;
      casts = f.casts;
      type_constraints = f.type_constraints;
      visited = f.visited;
      extra = f.extra;
      given = f.given;
      old = f.old;
      new = f.new;
    }

pub record Same (i j : PatternType) (f h : Sema) : Type 0 where
  pub value_kinds : Unified i j f.value_types h.value_types
  pub rest : rest_of h ≡ rest_of f

unfolded : (a b : PatternType) (f : Sema) (o : Outcome (List PatternType)) → Holds (Unified a b f.value_types) o → Holds (Same a b f) (with_kinds f o)
unfolded a b f (Ok ls) h = record { value_kinds = h; rest = refl }
unfolded a b f (Err e) h = tt

pub unite_holds : (i j at : ℕ) (f : Sema) → Holds (Same (kind_of i f.value_types) (kind_of j f.value_types) f) (unite i j at f)
unfolding unite
unite_holds i j at f = unfolded (kind_of i f.value_types) (kind_of j f.value_types) f (one i j at f.value_types) (unified_holds (kind_of i f.value_types) (kind_of j f.value_types) at f.value_types)

pub unite_with_holds : (i : ℕ) (k : BitsKind) (at : ℕ) (f : Sema) → Holds (Same (kind_of i f.value_types) (ty.Concrete k) f) (unite_with i k at f)
unfolding unite_with
unite_with_holds i k at f = unfolded (kind_of i f.value_types) (ty.Concrete k) f (one_with i k at f.value_types) (unified_holds (kind_of i f.value_types) (ty.Concrete k) at f.value_types)

-- ---- recorded types
-- the number of a type that a variable or a recorded term has, where n variables have the first numbers
abbrev pub Begun : ℕ → Rest → ℕ → Type 0
Begun n r j = (j < n) ⊎ (At r.old_types j ⊎ ((t : RequiredType) × At r.new_types t × (t.slot ≡ j)))

-- the type is concrete, or equals a recorded type
abbrev pub Covered : ℕ → List PatternType → Rest → ℕ → Type 0
Covered n ks r i = ((k : BitsKind) × (kind_of i ks ≡ ty.Concrete k)) ⊎ ((j : ℕ) × Begun n r j × (j < length ks) × (kind_of i ks ≡ kind_of j ks))

pub covered_grown : (n : ℕ) (ks ls : List PatternType) (r u : Rest) → Grown ks ls → ((j : ℕ) → Begun n r j → Begun n u j) → (i : ℕ) → i < length ks → Covered n ks r i → Covered n ls u i
covered_grown n ks ls r u g more i l (inl c) = inl (c.0, still_concrete ks ls g i c.0 l c.1)
covered_grown n ks ls r u g more i l (inr c) = inr (c.0, more c.0 c.1, omega (arith, c.2, g.longer), still_same ks ls g i c.0 l c.2 c.3)

-- a type that equals a covered one
pub covered_same : (n : ℕ) (ks : List PatternType) (r : Rest) (i j : ℕ) → kind_of i ks ≡ kind_of j ks → Covered n ks r j → Covered n ks r i
covered_same n ks r i j e (inl c) = inl (c.0, e ∙ c.1)
covered_same n ks r i j e (inr c) = inr (c.0, c.1, c.2, e ∙ c.3)

-- the types are sound: concrete ones are wide, the variables have the first ones, and each is covered
pub record Sound (n : ℕ) (f : Sema) : Type 0 where
  pub wide : AllWide f.value_types
  pub long : n ≤ length f.value_types
  pub covered : (i : ℕ) → i < length f.value_types → Covered n f.value_types (rest_of f) i

still_begun : (n : ℕ) (r u : Rest) → u ≡ r → (j : ℕ) → Begun n r j → Begun n u j
still_begun n r u e j b = subst (λ r. Begun n r j) (sym e) b

-- types that are unified stay sound
pub sound_unified : (n : ℕ) (a b : PatternType) (f h : Sema) → Sound n f → Same a b f h → has_width a ≡ true → has_width b ≡ true → Sound n h
sound_unified n a b f h s u wa wb =
    let long : length h.value_types ≡ length f.value_types = u.value_kinds.long in
    record {
      wide = u.value_kinds.wide s.wide wa wb;
      long = omega (arith, s.long, long);
      covered = λ i l.
          let w : i < length f.value_types = omega (arith, l, long) in
          covered_grown n f.value_types h.value_types (rest_of f) (rest_of h) u.value_kinds.grown (still_begun n (rest_of f) (rest_of h) u.rest) i w (s.covered i w);
    }

-- ---- a written type
-- the number of a type that was there, or of a new last type
pub record IsWritten (ks : List PatternType) (slot : ℕ) (ls : List PatternType) : Type 0 where
  pub grown : Grown ks ls
  pub wide : AllWide ks → AllWide ls
  pub earlier : (i : ℕ) → i < length ls → (i < length ks) ⊎ (i ≡ slot)

added : (ks : List PatternType) (k : PatternType) → has_width k ≡ true → IsWritten ks (length ks) (ks ++ (k ∷ []))
added ks k w = record {
  grown = grown_more ks (k ∷ []);
  wide = λ e. wide_more ks k e w;
  earlier = λ i l. last i (length ks) (subst (λ n. i < n) (length-append ks (k ∷ [])) l);
}
  where
    last : (i n : ℕ) → i < n + 1 → (i < n) ⊎ (i ≡ n)
    last i n l = grind arith

there : (ks : List PatternType) (slot : ℕ) → IsWritten ks slot ks
there ks slot = record { grown = grown_itself ks; wide = λ e. e; earlier = λ i l. inl l }

within_wide : (m n : ℕ) → scalars.within m ≡ Some n → is_width n ≡ true
within_wide m n e = go (is_width m) refl e
  where
    go : (t : Bool) → is_width m ≡ t → (if t then Some m else None) ≡ Some n → is_width n ≡ true
    go true w e = subst (λ n. is_width n ≡ true) (same_Some m n e) w
    go false w e = absurd (none-some n e)

digits_wide : (ds : List ℕ) (n : ℕ) → scalars.width_of ds ≡ Some n → is_width n ≡ true
digits_wide ds n e = go (not (scalars.begins_zero ds) && list_all is_ascii_digit ds) e
  where
    go : (t : Bool) → (if t then scalars.within (integer_of ds) else None) ≡ Some n → is_width n ≡ true
    go true e = within_wide (integer_of ds) n e
    go false e = absurd (none-some n e)

-- the width in a type's word is valid
word_wide : (w : List ℕ) → (o : Option ℕ) → after_i w ≡ o → (n : ℕ) → option_map integer_type o ≡ Some (integer_type n) → is_width n ≡ true
word_wide w None i n e = absurd (none-some (integer_type n) e)
word_wide [] (Some m) i n e = absurd (none-some m i)
word_wide (c ∷ ds) (Some m) i n e = subst (λ n. is_width n ≡ true) (inside (same_Some (integer_type m) (integer_type n) e)) (digits_wide ds m i)
  where
    number_of : Written → ℕ
    number_of (integer_type n) = n
    number_of index_type = 0
    number_of (variable_type name) = 0

    inside : integer_type m ≡ integer_type n → m ≡ n
    inside e = ap number_of e

no_index : (n : ℕ) → Some index_type ≡ Some (integer_type n) → ⊥
no_index n e = true≢false (ap is_index (same_Some index_type (integer_type n) e))
  where
    is_index : Written → Bool
    is_index (integer_type n) = false
    is_index index_type = true
    is_index (variable_type name) = false

no_name : (name : List ℕ) (n : ℕ) → Some (variable_type name) ≡ Some (integer_type n) → ⊥
no_name name n e = true≢false (ap is_name (same_Some (variable_type name) (integer_type n) e))
  where
    is_name : Written → Bool
    is_name (integer_type n) = false
    is_name index_type = false
    is_name (variable_type name) = true

type_wide : (w : List ℕ) (n : ℕ) → type_word w ≡ Some (integer_type n) → is_width n ≡ true
unfolding type_word
type_wide w n e = go (bytes_eq w _) (is_integer_word w) e
  where
    go : (s t : Bool) → (if s then Some index_type else if t then option_map integer_type (after_i w) else Some (variable_type w)) ≡ Some (integer_type n) → is_width n ≡ true
    go true t e = absurd (no_index n e)
    go false true e = word_wide w (after_i w) refl n e
    go false false e = absurd (no_name w n e)

pub written_holds : (w : List ℕ) (s : Types) → IsWritten s.value_types (written w s).0 (written w s).1.value_types
unfolding written
written_holds w s = go (type_word w) refl
  where
    by : (name : List ℕ) (o : Option ℕ) → IsWritten s.value_types (named_from name s o).0 (named_from name s o).1.value_types
    by name (Some slot) = there s.value_types slot
    by name None = added s.value_types (ty.Variable (length s.value_types)) refl

    go : (o : Option Written) → type_word w ≡ o → IsWritten s.value_types (written_from o s).0 (written_from o s).1.value_types
    go (Some (integer_type n)) e = added s.value_types (ty.Concrete (bits.Int n)) (type_wide w n e)
    go (Some index_type) e = added s.value_types (ty.Concrete bits.Index) refl
    go (Some (variable_type name)) e = by name (slot_of name s.named)
    go None e = added s.value_types (ty.Variable (length s.value_types)) refl

-- ---- a term's type
pub record Typed (n : ℕ) (ps : Parts) (f : Sema) (qs : Parts) (h : Sema) : Type 0 where
  pub sound : Sound n h
  pub grown : Grown f.value_types h.value_types
  pub rest : rest_of h ≡ rest_of f
  pub parts : (ps ≡ qs) ⊎ ((left : ℕ) × (w : List ℕ) × (ps ≡ (left, type_part w) ∷ qs))

typed_as_holds : (n : ℕ) (slot at : ℕ) (w : List ℕ) (f : Sema) → Sound n f → slot < length f.value_types → Holds (λ h. Sound n h × Grown f.value_types h.value_types × (rest_of h ≡ rest_of f)) (unite slot (written_at w f).0 at (written_at w f).1)
typed_as_holds n slot at w f s within =
    let r = written_holds w (types_of f) in
    let g = (written_at w f).1 in
    let other = (written_at w f).0 in
    holds_more (Same (kind_of slot g.value_types) (kind_of other g.value_types) g) (λ h. Sound n h × Grown f.value_types h.value_types × (rest_of h ≡ rest_of f)) (unite slot other at g) (unite_holds slot other at g)
    (λ h u.
    let grown = grown_through f.value_types g.value_types h.value_types r.grown u.value_kinds.grown in
    let long : length h.value_types ≡ length g.value_types = u.value_kinds.long in
    let slot_there : slot < length g.value_types = omega (arith, within, r.grown.longer) in
    let wide : AllWide g.value_types = r.wide s.wide in
    let more : (j : ℕ) → Begun n (rest_of f) j → Begun n (rest_of h) j = still_begun n (rest_of f) (rest_of h) u.rest in
    let first : Covered n h.value_types (rest_of h) slot = covered_grown n f.value_types h.value_types (rest_of f) (rest_of h) grown more slot within (s.covered slot within) in (
      record {
        wide = u.value_kinds.wide wide (wide_at g.value_types slot wide) (wide_at g.value_types other wide);
        long = omega (arith, s.long, grown.longer);
        covered = λ i l. elim (r.earlier i (omega (arith, l, long))) [
          | inl e ↦ covered_grown n f.value_types h.value_types (rest_of f) (rest_of h) grown more i e (s.covered i e)
          | inr e ↦
              let at_other : other < length g.value_types = subst (λ z. z < length g.value_types) e (omega (arith, l, long)) in
              covered_same n h.value_types (rest_of h) i slot
              (ap (λ z. kind_of z h.value_types) e ∙ u.value_kinds.grown.at other at_other ∙ sym u.value_kinds.same ∙ sym (u.value_kinds.grown.at slot slot_there)) first
        ];
      },
      grown,
      u.rest,
    ))

pub typed_holds : (n : ℕ) (l : Option (Bool × ℕ)) (slot at : ℕ) (ps : Parts) (f : Sema) → Sound n f → slot < length f.value_types → Holds (λ (y : State). Typed n ps f y.0 y.1) (typed l slot at (ps, f))
unfolding typed
typed_holds n l slot at ps f s within = by ps
  where
    same : (ps : Parts) → Typed n ps f ps f
    same ps = record { sound = s; grown = grown_itself f.value_types; rest = refl; parts = inl refl }

    go : (left : ℕ) (w : List ℕ) (ps : Parts) (t : Bool) → Holds (λ (y : State). Typed n ((left, type_part w) ∷ ps) f y.0 y.1) ((if t then unite slot (written_at w f).0 at (written_at w f).1 else refused BadValue at) >>= λ g. Ok (ps, g))
    go left w ps true =
        holds_then (λ h. Sound n h × Grown f.value_types h.value_types × (rest_of h ≡ rest_of f)) (λ (y : State). Typed n ((left, type_part w) ∷ ps) f y.0 y.1) (unite slot (written_at w f).0 at (written_at w f).1) (λ g. Ok (ps, g))
        (typed_as_holds n slot at w f s within)
        (λ h u. record { sound = u.0; grown = u.1; rest = u.2; parts = inr (left, w, refl) })
    go left w ps false = tt

    by : (ps : Parts) → Holds (λ (y : State). Typed n ps f y.0 y.1) (typed l slot at (ps, f))
    by [] = same []
    by ((left, type_part w) ∷ ps) = go left w ps (is_of l (type_word w))
    by ((left, operation_part w asks) ∷ ps) = same ((left, operation_part w asks) ∷ ps)
    by ((left, value_part w) ∷ ps) = same ((left, value_part w) ∷ ps)
    by ((left, literal_part negative magnitude) ∷ ps) = same ((left, literal_part negative magnitude) ∷ ps)
    by ((left, name_part w) ∷ ps) = same ((left, name_part w) ∷ ps)
    by ((left, function_part w) ∷ ps) = same ((left, function_part w) ∷ ps)
    by ((left, condition_part w) ∷ ps) = same ((left, condition_part w) ∷ ps)
    by ((left, end_part) ∷ ps) = same ((left, end_part) ∷ ps)
