-- A pattern that computes bit by bit and refines at width 1 refines at all kinds.
use Rattle.std.proofs.Common.{◌≡◌, ℕ, zero, suc, ◌^◌, ◌<◌, ◌≤◌, refl, ap, sym, ◌∙◌, subst, List, [], ◌∷◌, map, replicate, Bool, true, false, true≢false, Option, Some, None, option_map, slice_get, arith}
use Rattle.std.specs.Prelude.{◌==◌}
use Rattle.std.specs.Int.{bit_at}
use Rattle.std.specs.List.{list_all}
use Rattle.std.proofs.lemmas.Bool.{and_parts, eqb-true, ltb-true}
use Rattle.std.proofs.lemmas.List.{get_or-replicate}
use Rattle.std.proofs.lemmas.Nat.Bits.{bit_at-lt, same_from_bits_below}
use Rattle.std.proofs.lemmas.Option.{get_or_from_slice_get, none-some, same_Some, slice_get-map}
use Rattle.ir_types.specs.declared.bits.BitsKind.{BitsKind}
use Rattle.ir_types.specs.declared.bits.BitsKind.TheVariants as kind
use Rattle.ir_types.specs.Bits.{width_of}
use Rattle.ir_types.specs.Reasons.{is_width}
use Rattle.user_patterns_check.specs.Checks.{AlwaysKeeps, keeps}
use Rattle.user_patterns_check.specs.Families.{AreWidths}
use Rattle.user_patterns_check.specs.Outcomes.{given}
use Rattle.user_patterns_data.specs.declared.pattern.PatternType.{PatternType}
use Rattle.user_patterns_data.specs.declared.pattern.PatternType.TheVariants as ty
use Rattle.user_patterns_data.specs.declared.pattern.PatternOp.{PatternOp}
use Rattle.user_patterns_data.specs.Fitting.{content_with, kind_at, kind_with, kinds_with}
use Rattle.user_patterns_data.specs.Shapes.{PatternModel}
use Rattle.user_patterns_widths.specs.AllWidths.{first_type, extra_has, extra_is_bitwise, has_one_type, has_type, is_bit_by_bit, is_none_requested, is_some_type, is_variable, new_has, new_is_bitwise, number_has, number_is_bitwise, pattern_op_has, pattern_op_is_bitwise}
use Rattle.user_patterns_widths.specs.Lasting.{BitsDecide}
use Rattle.user_patterns_widths.proofs.BitValues.{width_some}
use Rattle.user_patterns_widths.proofs.BitRuns.{AllBelow, bit, bits, one_below, values_below, values_bit, values_made}
use Rattle.user_patterns_widths.proofs.BitSides.{AreUnder, IsBitwise, Keeps, given_bits, keeps_from, keeps_to, new_bits, olds_made, pattern_op_bits, shown_made}
use Rattle.user_patterns_widths.proofs.BitNarrow.{nothing_said}

-- ---- of numbers
module _ (p : PatternModel) (w : ℕ) where
  module _ (i : ℕ) (below : i < w) where
    olds_bit : (values : List ℕ) → olds_made p 1 (bits i values) ≡ option_map (bits i) (olds_made p w values)
    olds_bit values =
        ap (λ r. given r (values_made 1 (map pattern_op_bits p.old))) (values_bit w i below (given_bits p) values)
        ∙ trailing (values_made w (given_bits p) values)
      where
        trailing : (r : Option (List ℕ)) → given (option_map (bits i) r) (values_made 1 (map pattern_op_bits p.old)) ≡ option_map (bits i) (given r (values_made w (map pattern_op_bits p.old)))
        trailing None = refl
        trailing (Some vs) = values_bit w i below (map pattern_op_bits p.old) vs

    shown_bit : (vs : List ℕ) → shown_made p 1 (bits i vs) ≡ option_map (bit i) (shown_made p w vs)
    shown_bit vs =
        ap (λ r. given r (λ us. slice_get us p.result)) (values_bit w i below (map new_bits p.new) vs)
        ∙ trailing (values_made w (map new_bits p.new) vs)
      where
        trailing : (r : Option (List ℕ)) → given (option_map (bits i) r) (λ us. slice_get us p.result) ≡ option_map (bit i) (given r (λ us. slice_get us p.result))
        trailing None = refl
        trailing (Some us) = slice_get-map (bit i) us p.result

  olds_below : (values vs : List ℕ) → AllBelow w values → olds_made p w values ≡ Some vs → AllBelow w vs
  olds_below values vs h e = on (values_made w (given_bits p) values) (λ us i. values_below w (given_bits p) values us h i) e
    where
      on : (r : Option (List ℕ)) → ((us : List ℕ) → r ≡ Some us → AllBelow w us) → given r (values_made w (map pattern_op_bits p.old)) ≡ Some vs → AllBelow w vs
      on None f e = absurd (none-some vs e)
      on (Some us) f e = values_below w (map pattern_op_bits p.old) us vs (f us refl) e

  shown_below : (vs : List ℕ) (y : ℕ) → AllBelow w vs → shown_made p w vs ≡ Some y → y < 2 ^ w
  shown_below vs y h e = on (values_made w (map new_bits p.new) vs) (λ us i. values_below w (map new_bits p.new) vs us h i) e
    where
      on : (r : Option (List ℕ)) → ((us : List ℕ) → r ≡ Some us → AllBelow w us) → given r (λ us. slice_get us p.result) ≡ Some y → y < 2 ^ w
      on None f e = absurd (none-some y e)
      on (Some us) f e = one_below w us p.result y (f us refl) e

  same_bits : (o : Option ℕ) (x : ℕ) → 0 < w → x < 2 ^ w → ((y : ℕ) → o ≡ Some y → y < 2 ^ w) → ((i : ℕ) → i < w → option_map (bit i) o ≡ Some (bit i x)) → o ≡ Some x
  same_bits None x some l f h = absurd (none-some (bit 0 x) (h 0 some))
  same_bits (Some y) x some l f h = ap Some (same_from_bits_below w y x (f y refl) l (λ i b. same_Some (bit i y) (bit i x) (h i b)))

  -- if each bit refines, the values do
  by_bits : (values : List ℕ) → 0 < w → AllBelow w values → ((i : ℕ) → i < w → Keeps p 1 (bits i values)) → Keeps p w values
  by_bits values some low kept vs x e r =
      let low_vs = olds_below values vs low e in
      same_bits (shown_made p w vs) x some (one_below w vs p.root x low_vs r) (λ y s. shown_below vs y low_vs s)
      (λ i b. sym (shown_bit i b vs) ∙ kept i b (bits i vs) (bit i x) (olds_bit i b values ∙ ap (option_map (bits i)) e) (slice_get-map (bit i) vs p.root ∙ ap (option_map (bit i)) r))

-- ---- width 1
are_ones : (n most : ℕ) → 1 ≤ most → AreWidths n most (replicate n 1)
are_ones zero most l = tt
are_ones (suc n) most l = (omega arith, l, are_ones n most l)

module _ (p : PatternModel) (t : ℕ) where
  abbrev one_kinds : List BitsKind
  one_kinds = kinds_with (replicate p.types 1) p.value_types

  kind_one : (v : ℕ) → slice_get p.value_types t ≡ Some (ty.Variable v) → v < p.types → kind_at one_kinds t ≡ kind.Int 1
  kind_one v e l =
      get_or_from_slice_get one_kinds t (kind.Int 1) (kind.Int 0)
      (slice_get-map (kind_with (replicate p.types 1)) p.value_types t
      ∙ ap (option_map (kind_with (replicate p.types 1))) e
      ∙ ap (λ n. Some (kind.Int n)) (get_or-replicate p.types v 1 0 l))

-- values of one type, and one bit of each
under_one : (ks : List BitsKind) (t i : ℕ) → kind_at ks t ≡ kind.Int 1 → (tys values : List ℕ) → list_all (λ v. v == t) tys ≡ true → (js : List BitsKind)
    → AreUnder (map (λ k. 2 ^ width_of k) (map (kind_at js) tys)) values → AreUnder (map (λ k. 2 ^ width_of k) (map (kind_at ks) tys)) (bits i values)
under_one ks t i one [] [] h js l = tt
under_one ks t i one [] (v ∷ vs) h js l = absurd l
under_one ks t i one (ty ∷ tys) [] h js l = absurd l
under_one ks t i one (ty ∷ tys) (v ∷ vs) h js l =
    let a = and_parts (ty == t) (list_all (λ v. v == t) tys) h in
    (subst (λ j. bit_at v i < 2 ^ width_of j) (sym (ap (kind_at ks) (eqb-true ty t a.0) ∙ one)) (bit_at-lt v i), under_one ks t i one tys vs a.1 js l.1)

under_all : (ks : List BitsKind) (t : ℕ) (tys values : List ℕ) → list_all (λ v. v == t) tys ≡ true → AreUnder (map (λ k. 2 ^ width_of k) (map (kind_at ks) tys)) values → AllBelow (width_of (kind_at ks t)) values
under_all ks t [] [] h l = tt
under_all ks t [] (v ∷ vs) h l = absurd l
under_all ks t (ty ∷ tys) [] h l = absurd l
under_all ks t (ty ∷ tys) (v ∷ vs) h l =
    let a = and_parts (ty == t) (list_all (λ v. v == t) tys) h in
    (subst (λ u. v < 2 ^ width_of (kind_at ks u)) (eqb-true ty t a.0) l.0, under_all ks t tys vs a.1 l.1)

-- ---- the parts of the premise
record HasType (p : PatternModel) : Type 0 where
  pub type : ℕ
  pub variable : ℕ
  pub is : slice_get p.value_types type ≡ Some (ty.Variable variable)
  pub below : variable < p.types
  pub has : has_type type p ≡ true
  pub first : PatternOp
  pub more : List PatternOp
  pub old : p.old ≡ first ∷ more

variable_of : (p : PatternModel) (o : Option PatternType) → is_variable p o ≡ true → (v : ℕ) × (o ≡ Some (ty.Variable v)) × (v < p.types)
variable_of p (Some (ty.Variable v)) e = (v, refl, ltb-true v p.types e)
variable_of p _ e = absurd (true≢false (sym e))

has_parts : (p : PatternModel) → has_one_type p ≡ true → HasType p
has_parts p e = on p.old refl e
  where
    on : (ps : List PatternOp) → p.old ≡ ps → is_some_type p (first_type ps) ≡ true → HasType p
    on [] i e = absurd (true≢false (sym e))
    on (o ∷ os) i e =
        let a = and_parts (is_variable p (slice_get p.value_types o.ty)) (has_type o.ty p) e in
        let v = variable_of p (slice_get p.value_types o.ty) a.0 in
        record { type = o.ty; variable = v.0; is = v.1; below = v.2; has = a.1; first = o; more = os; old = i }

bitwise_parts : (p : PatternModel) → is_bit_by_bit p ≡ true → (h : HasType p) × IsBitwise h.type p
bitwise_parts p e =
    let a = and_parts (has_one_type p) _ e in
    let b = and_parts (is_none_requested p.type_constraints) _ a.1 in
    let c = and_parts (list_all extra_is_bitwise p.extra) _ b.1 in
    let d = and_parts (list_all number_is_bitwise p.given) _ c.1 in
    let f = and_parts (list_all pattern_op_is_bitwise p.old) (list_all new_is_bitwise p.new) d.1 in
    let h = has_parts p a.0 in
    let t = h.type in
    let u = and_parts (list_all (λ v. v == t) p.values) _ h.has in
    let v = and_parts (list_all (extra_has t) p.extra) _ u.1 in
    let w = and_parts (list_all (number_has t) p.given) _ v.1 in
    let x = and_parts (list_all (pattern_op_has t) p.old) (list_all (new_has t) p.new) w.1 in (
      h,
      record {
        values = u.0;
        extra_of = v.0;
        given_of = w.0;
        old_of = x.0;
        new_of = x.1;
        none_requested = b.0;
        extra_are = c.0;
        given_are = d.0;
        old_are = f.0;
        new_are = f.1;
      },
    )

-- ---- put together
pub bits_decide : BitsDecide
bits_decide p e most some holds ks are values low =
    let h = bitwise_parts p e in
    let always : AlwaysKeeps (content_with (one_kinds p h.0.type) p) = holds.0 (replicate p.types 1) (are_ones p.types most some) in
    decided h.0 h.1 always (is_width (width_of (kind_at ks h.0.type))) refl
  where
    decided : (h : HasType p) → IsBitwise h.type p → AlwaysKeeps (content_with (one_kinds p h.type) p) → (c : Bool) → is_width (width_of (kind_at ks h.type)) ≡ c → keeps (content_with ks p) values ≡ true
    decided h is always false c = nothing_said ks h.type c p is h.first h.more h.old values
    decided h is always true c =
        let js = one_kinds p h.type in
        let one = kind_one p h.type h.variable h.is h.below in
        let wide : is_width (width_of (kind_at js h.type)) ≡ true = ap (λ k. is_width (width_of k)) one in
        keeps_from ks h.type c p is values low
        (by_bits p (width_of (kind_at ks h.type)) values (width_some (width_of (kind_at ks h.type)) c) (under_all ks h.type p.values values is.values low)
        (λ i b.
        let under = under_one js h.type i one p.values values is.values ks low in
        subst (λ k. Keeps p (width_of k) (bits i values)) one (keeps_to js h.type wide p is (bits i values) under (always (bits i values) under))))
