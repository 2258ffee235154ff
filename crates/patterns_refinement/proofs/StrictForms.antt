-- Patterns whose operations are binary arithmetic on one type.
use Rattle.std.proofs.Common.{◌≡◌, ℕ, zero, suc, refl, ap, sym, ◌∙◌, subst, List, [], ◌∷◌, ◌++◌, map, Bool, true, false, ◌&&◌, eqb-true, Option, Some, None}
use Rattle.std.specs.Prelude.{if◌then◌else◌, ◌==◌, nat_lt}
use Rattle.std.specs.List.{list_all}
use Rattle.std.proofs.lemmas.Bool.{and_parts}
use Rattle.ir_types.specs.declared.bits.BitsKind.{BitsKind}
use Rattle.ir_types.specs.Bits.{type_of, width_of}
use Rattle.ir_types.specs.Readings.{literal_bits}
use Rattle.ir_types.specs.Reasons.{is_width}
use Rattle.user_patterns_check.specs.declared.step.Step.TheVariants as step
use Rattle.user_patterns_check.specs.Checks.{AlwaysKeeps, keeps}
use Rattle.user_patterns_check.specs.Contents.{Content}
use Rattle.user_patterns_data.specs.declared.pattern.Literal.{Literal}
use Rattle.user_patterns_data.specs.declared.pattern.ExtraConstant.{ExtraConstant}
use Rattle.user_patterns_data.specs.declared.pattern.ExtraConstant.TheVariants as extra
use Rattle.user_patterns_data.specs.declared.pattern.ConstantExpression.{ConstantExpression}
use Rattle.user_patterns_data.specs.declared.pattern.ConstantExpression.TheVariants as number
use Rattle.user_patterns_data.specs.declared.pattern.TypeConstraint.{TypeConstraint}
use Rattle.user_patterns_data.specs.declared.pattern.TypeConstraint.TheVariants as requested
use Rattle.user_patterns_data.specs.declared.pattern.NewValue.{NewValue}
use Rattle.user_patterns_data.specs.declared.pattern.NewValue.TheVariants as new
use Rattle.user_patterns_data.specs.declared.pattern.PatternOp.{PatternOp}
use Rattle.user_patterns_data.specs.Fitting.{bits_with, content_with, fits, form_step, extra_fits, extra_step, is_requested, is_integer, kind_at, new_step, number_fits, number_step, or_zero, pattern_op_step}
use Rattle.user_patterns_data.specs.Shapes.{PatternModel}
use Rattle.user_patterns_widths.specs.AllWidths.{extra_has, has_type, literal_has, new_has, number_has, pattern_op_has}
use Rattle.user_patterns_widths.specs.Lasting.{RefinesAtAllWidths, are_kinds}
use Rattle.patterns_refinement.specs.Applied.{is_typed}
use Rattle.patterns_refinement.specs.Strict.{is_requested_of, new_is_total, pattern_op_is_strict}

-- the properties of such a pattern: at all valid kinds of its types its new values have their types, and it refines
-- if its one type has some width
pub record Uniform (p : PatternModel) : Type 0 where
  pub ty : ℕ
  pub values : list_all (λ v. v == ty) p.values ≡ true
  pub olds : list_all (pattern_op_has ty) p.old ≡ true
  pub news : list_all (new_has ty) p.new ≡ true
  pub strict : list_all pattern_op_is_strict p.old ≡ true
  pub total : list_all new_is_total p.new ≡ true
  pub typed : (ks : List BitsKind) → is_typed ks p ≡ true
  pub keeps : (ks : List BitsKind) → is_width (width_of (kind_at ks ty)) ≡ true → AlwaysKeeps (content_with ks p)

-- ---- lists whose items pass a test
pub same_mapped : {X Y : Type 0} (f g : X → Y) (t : X → Bool) → ((x : X) → t x ≡ true → f x ≡ g x) → (xs : List X) → list_all t xs ≡ true → map f xs ≡ map g xs
same_mapped f g t h [] e = refl
same_mapped f g t h (x ∷ xs) e = let q = and_parts (t x) (list_all t xs) e in (λ i. h x q.0 i ∷ same_mapped f g t h xs q.1 i)

pub same_tested : {X : Type 0} (f g t : X → Bool) → ((x : X) → t x ≡ true → f x ≡ g x) → (xs : List X) → list_all t xs ≡ true → list_all f xs ≡ list_all g xs
same_tested f g t h [] e = refl
same_tested f g t h (x ∷ xs) e = let q = and_parts (t x) (list_all t xs) e in (λ i. h x q.0 i && same_tested f g t h xs q.1 i)

-- ---- a pattern with a single type
pub record HasType (p : PatternModel) (t : ℕ) : Type 0 where
  pub values : list_all (λ v. v == t) p.values ≡ true
  pub extra : list_all (extra_has t) p.extra ≡ true
  pub given : list_all (number_has t) p.given ≡ true
  pub olds : list_all (pattern_op_has t) p.old ≡ true
  pub news : list_all (new_has t) p.new ≡ true

pub has_parts : (p : PatternModel) (t : ℕ) → has_type t p ≡ true → HasType p t
has_parts p t has =
    let a = and_parts (list_all (λ v. v == t) p.values) _ has in
    let b = and_parts (list_all (extra_has t) p.extra) _ a.1 in
    let c = and_parts (list_all (number_has t) p.given) _ b.1 in
    let d = and_parts (list_all (pattern_op_has t) p.old) (list_all (new_has t) p.new) c.1 in
    record { values = a.0; extra = b.0; given = c.0; olds = d.0; news = d.1 }

-- ---- a pattern without its width constraints
abbrev pub unasked : PatternModel → PatternModel
unasked p = record p { type_constraints = [] }

-- kinds that are all equal
all_one : (k : BitsKind) (ks : List BitsKind) (t : ℕ) → kind_at ks t ≡ k → kind_at (map (λ j. k) ks) t ≡ k
all_one k [] t e = e
all_one k (j ∷ ks) zero e = refl
all_one k (j ∷ ks) (suc t) e = all_one k ks t e

all_widths : (k : BitsKind) (ks : List BitsKind) → is_width (width_of k) ≡ true → are_kinds (map (λ j. k) ks)
all_widths k [] w = refl
all_widths k (j ∷ ks) w = λ i. w i && all_widths k ks w i

-- a pattern with a narrower condition refines too
applied_less : (s : Content) (c : Bool) → (c ≡ true → s.applies ≡ true) → AlwaysKeeps s → AlwaysKeeps (record s { applies = c })
applied_less s false h k values b = refl
applied_less s true h k values b = subst (λ c. keeps (record s { applies = c }) values ≡ true) (h refl) (k values b)

-- at kinds that agree on the pattern's one type the instance is the same
module _ (p : PatternModel) (t : ℕ) (ks js : List BitsKind) (same : kind_at js t ≡ kind_at ks t) (has : has_type t p ≡ true) where
  at_type : (u : ℕ) → (u == t) ≡ true → kind_at js u ≡ kind_at ks u
  at_type u e = let i = eqb-true u t e in ap (kind_at js) i ∙ same ∙ sym (ap (kind_at ks) i)

  same_bits : (l : Literal) → literal_has t l ≡ true → bits_with js l ≡ bits_with ks l
  same_bits l e = ap (λ k. if is_width (width_of k) then literal_bits (type_of k) l.negative l.magnitude else None) (at_type l.ty e)

  same_written : (l : Literal) → literal_has t l ≡ true → step.Constant (kind_at js l.ty) (or_zero (bits_with js l)) ≡ step.Constant (kind_at ks l.ty) (or_zero (bits_with ks l))
  same_written l e = let k = at_type l.ty e in let b = same_bits l e in (λ i. step.Constant (k i) (or_zero (b i)))

  same_extra : (f : ExtraConstant) → extra_has t f ≡ true → extra_step js f ≡ extra_step ks f
  same_extra (extra.Literal l) e = same_written l e
  same_extra (extra.SameAs i) e = refl

  same_number : (n : ConstantExpression) → number_has t n ≡ true → number_step js n ≡ number_step ks n
  same_number (number.Literal l) e = same_written l e
  same_number (number.Width u) e = ap (λ k. number_step (k ∷ []) (number.Width 0)) (at_type u e)
  same_number (number.Binary o i j) e = refl
  same_number (number.Compare q i j) e = refl
  same_number (number.Log2 i) e = refl
  same_number (number.Require i) e = refl

  same_pattern_op : (o : PatternOp) → pattern_op_has t o ≡ true → pattern_op_step js o ≡ pattern_op_step ks o
  same_pattern_op o e = ap (λ k. form_step k o.form) (at_type o.ty e)

  same_new : (w : NewValue) → new_has t w ≡ true → new_step js w ≡ new_step ks w
  same_new (new.Operation o) e = same_pattern_op o e
  same_new (new.Constant i u) e = refl

  extra_fits_too : (f : ExtraConstant) → extra_has t f ≡ true → extra_fits js f ≡ extra_fits ks f
  extra_fits_too (extra.Literal l) e = ap (λ b. extra_fits_by b) (same_bits l e)
    where
      extra_fits_by : Option ℕ → Bool
      extra_fits_by None = false
      extra_fits_by (Some n) = true
  extra_fits_too (extra.SameAs i) e = refl

  number_fits_too : (n : ConstantExpression) → number_has t n ≡ true → number_fits js n ≡ number_fits ks n
  number_fits_too (number.Literal l) e = extra_fits_too (extra.Literal l) e
  number_fits_too (number.Width u) e = refl
  number_fits_too (number.Binary o i j) e = refl
  number_fits_too (number.Compare q i j) e = refl
  number_fits_too (number.Log2 i) e = refl
  number_fits_too (number.Require i) e = refl

  abbrev all_has : HasType p t
  all_has = has_parts p t has

  same_fits : (list_all (extra_fits js) p.extra && list_all (number_fits js) p.given) ≡ (list_all (extra_fits ks) p.extra && list_all (number_fits ks) p.given)
  same_fits =
      let f = same_tested (extra_fits js) (extra_fits ks) (extra_has t) extra_fits_too p.extra all_has.extra in
      let n = same_tested (number_fits js) (number_fits ks) (number_has t) number_fits_too p.given all_has.given in
      (λ i. f i && n i)

  same_requested : (a : TypeConstraint) → is_requested_of t a ≡ true → is_requested js a ≡ is_requested ks a
  same_requested (requested.Narrower s u) e =
      let q = and_parts (s == t) (u == t) e in
      let f = at_type s q.0 in
      let g = at_type u q.1 in
      (λ i. is_integer (f i) && (is_integer (g i) && nat_lt (width_of (f i)) (width_of (g i))))
  same_requested (requested.Integer u) e = ap is_integer (at_type u e)

  -- except for the condition under which it may be applied
  same_content : (c d : Bool) → c ≡ d → record (content_with js p) { applies = c } ≡ record (content_with ks p) { applies = d }
  same_content c d e =
      let v = same_mapped (kind_at js) (kind_at ks) (λ v. v == t) at_type p.values all_has.values in
      let f = same_mapped (extra_step js) (extra_step ks) (extra_has t) same_extra p.extra all_has.extra in
      let g = same_mapped (number_step js) (number_step ks) (number_has t) same_number p.given all_has.given in
      let o = same_mapped (pattern_op_step js) (pattern_op_step ks) (pattern_op_has t) same_pattern_op p.old all_has.olds in
      let w = same_mapped (new_step js) (new_step ks) (new_has t) same_new p.new all_has.news in
      (λ i. record { applies = e i; value_types = v i; given = f i ++ g i; old = o i; old_result = p.root; new = w i; new_result = p.result })

  pub keeps_as : list_all (is_requested_of t) p.type_constraints ≡ true → AlwaysKeeps (content_with js p) → AlwaysKeeps (content_with ks p)
  keeps_as asks k =
      let a = same_tested (is_requested js) (is_requested ks) (is_requested_of t) same_requested p.type_constraints asks in
      let f = same_fits in
      subst AlwaysKeeps (same_content (fits js p) (fits ks p) (λ i. a i && f i)) k

  pub keeps_with : AlwaysKeeps (content_with js (unasked p)) → AlwaysKeeps (content_with ks p)
  keeps_with k =
      subst AlwaysKeeps (same_content (fits ks p) (fits ks p) refl)
      (applied_less (content_with js (unasked p)) (fits ks p)
      (λ e. same_fits ∙ (and_parts (list_all (is_requested ks) p.type_constraints) (list_all (extra_fits ks) p.extra && list_all (number_fits ks) p.given) e).1) k)

-- the pattern refines if its one type has some width, whatever its other types are
pub keeps_by_type : (p : PatternModel) (t : ℕ) → has_type t p ≡ true → RefinesAtAllWidths (unasked p) → (ks : List BitsKind) → is_width (width_of (kind_at ks t)) ≡ true → AlwaysKeeps (content_with ks p)
keeps_by_type p t has k ks w =
    let one = kind_at ks t in
    keeps_with p t ks (map (λ j. one) ks) (all_one one ks t refl) has (k (map (λ j. one) ks) (all_widths one ks w))

-- the same if its constraints are on that type only
pub keeps_of_type : (p : PatternModel) (t : ℕ) → has_type t p ≡ true → list_all (is_requested_of t) p.type_constraints ≡ true → RefinesAtAllWidths p → (ks : List BitsKind) → is_width (width_of (kind_at ks t)) ≡ true → AlwaysKeeps (content_with ks p)
keeps_of_type p t has asks k ks w =
    let one = kind_at ks t in
    keeps_as p t ks (map (λ j. one) ks) (all_one one ks t refl) has asks (k (map (λ j. one) ks) (all_widths one ks w))
