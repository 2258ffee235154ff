-- If the single type of a pattern has no values, its old steps are undefined.
use Rattle.std.proofs.Common.{◌≡◌, ℕ, ◌^◌, refl, ap, sym, ◌∙◌, List, [], ◌∷◌, ◌++◌, map, Bool, true, false, true≢false, ◌&&◌, Option, Some, None}
use Rattle.std.specs.Prelude.{◌==◌, if◌then◌else◌, nat_lt}
use Rattle.std.specs.List.{list_all}
use Rattle.std.proofs.lemmas.Bool.{and_parts, eqb-true}
use Rattle.ir_types.specs.declared.bits.BitsKind.{BitsKind}
use Rattle.ir_types.specs.Bits.{bits_of, width_of}
use Rattle.ir_types.specs.Reasons.{is_width}
use Rattle.user_patterns_check.specs.Checks.{bound, keeps, old_ran}
use Rattle.user_patterns_check.specs.Outcomes.{Outcome, given, run, step_of}
use Rattle.user_patterns_data.specs.declared.pattern.Expression.{Expression}
use Rattle.user_patterns_data.specs.declared.pattern.Expression.TheVariants as form
use Rattle.user_patterns_data.specs.declared.pattern.PatternOp.{PatternOp}
use Rattle.user_patterns_data.specs.declared.pattern.Literal.{Literal}
use Rattle.user_patterns_data.specs.declared.pattern.ExtraConstant.{ExtraConstant}
use Rattle.user_patterns_data.specs.declared.pattern.ExtraConstant.TheVariants as extra
use Rattle.user_patterns_data.specs.declared.pattern.ConstantExpression.{ConstantExpression}
use Rattle.user_patterns_data.specs.declared.pattern.ConstantExpression.TheVariants as number
use Rattle.user_patterns_data.specs.Fitting.{bits_with, content_with, fits, form_step, extra_step, kind_at, number_step, or_zero, pattern_op_step, written_step}
use Rattle.user_patterns_data.specs.Shapes.{PatternModel}
use Rattle.user_patterns_widths.specs.AllWidths.{form_is_bitwise, extra_has, number_has, number_is_bitwise, pattern_op_is_bitwise}
use Rattle.user_patterns_widths.proofs.BitSides.{IsBitwise}

module _ (ks : List BitsKind) (t : ℕ) (narrow : is_width (width_of (kind_at ks t)) ≡ false) where
  no_bits : (ty v : ℕ) → (ty == t) ≡ true → bits_of (kind_at ks ty) v ≡ None
  no_bits ty v has =
      ap (λ u. bits_of (kind_at ks u) v) (eqb-true ty t has)
      ∙ ap (λ c. if c && nat_lt v (2 ^ width_of (kind_at ks t)) then Some (kind_at ks t, v) else None) narrow

  -- no step can be the first
  written_first : (l : Literal) → (l.ty == t) ≡ true → step_of (written_step ks l) [] ≡ None
  written_first l has = ap (λ o. given o (λ b. Some (Some b))) (no_bits l.ty (or_zero (bits_with ks l)) has)

  extra_first : (f : ExtraConstant) → extra_has t f ≡ true → step_of (extra_step ks f) [] ≡ None
  extra_first (extra.Literal l) has = written_first l has
  extra_first (extra.SameAs i) has = refl

  number_first : (n : ConstantExpression) → number_has t n ≡ true → number_is_bitwise n ≡ true → step_of (number_step ks n) [] ≡ None
  number_first (number.Literal l) has is = written_first l has
  number_first (number.Binary o i j) has is = refl
  number_first _ has is = absurd (true≢false (sym is))

  form_first : (k : BitsKind) (f : Expression) → form_is_bitwise f ≡ true → step_of (form_step k f) [] ≡ None
  form_first k (form.Binary o i j) is = refl
  form_first k _ is = absurd (true≢false (sym is))

  -- nothing is computed
  undefined : (fs : List ExtraConstant) (ns : List ConstantExpression) (o : PatternOp) (os : List PatternOp) → list_all (extra_has t) fs ≡ true → list_all (number_has t) ns ≡ true → list_all number_is_bitwise ns ≡ true → pattern_op_is_bitwise o ≡ true
      → given (run (map (extra_step ks) fs ++ map (number_step ks) ns) []) (run (map (pattern_op_step ks) (o ∷ os))) ≡ None
  undefined (f ∷ fs) ns o os hf hn en eo =
      ap (λ x. given (given x (λ v. run (map (extra_step ks) fs ++ map (number_step ks) ns) ([] ++ (v ∷ [])))) (run (map (pattern_op_step ks) (o ∷ os))))
      (extra_first f (and_parts (extra_has t f) (list_all (extra_has t) fs) hf).0)
  undefined [] (n ∷ ns) o os hf hn en eo =
      ap (λ x. given (given x (λ v. run (map (number_step ks) ns) ([] ++ (v ∷ [])))) (run (map (pattern_op_step ks) (o ∷ os))))
      (number_first n (and_parts (number_has t n) (list_all (number_has t) ns) hn).0 (and_parts (number_is_bitwise n) (list_all number_is_bitwise ns) en).0)
  undefined [] [] o os hf hn en eo = ap (λ x. given x (λ v. run (map (pattern_op_step ks) os) ([] ++ (v ∷ [])))) (form_first (kind_at ks o.ty) o.form eo)

  unbound : (tys values : List ℕ) (g h : List Outcome → Option (List Outcome)) → list_all (λ v. v == t) tys ≡ true → given (g []) h ≡ None → given (given (bound (map (kind_at ks) tys) values []) g) h ≡ None
  unbound [] [] g h has e = e
  unbound [] (v ∷ vs) g h has e = refl
  unbound (ty ∷ tys) [] g h has e = refl
  unbound (ty ∷ tys) (v ∷ vs) g h has e =
      ap (λ x. given (given (given x (λ b. bound (map (kind_at ks) tys) vs ([] ++ (Some b ∷ [])))) g) h)
      (no_bits ty v (and_parts (ty == t) (list_all (λ v. v == t) tys) has).0)

  either : (c : Bool) (r : Option (List Outcome)) → r ≡ None → (if c then r else None) ≡ None
  either true r e = e
  either false r e = refl

  -- the pattern refines trivially
  pub nothing_said : (p : PatternModel) → IsBitwise t p → (o : PatternOp) (os : List PatternOp) → p.old ≡ o ∷ os → (values : List ℕ) → keeps (content_with ks p) values ≡ true
  nothing_said p is o os e values =
      ap (old_ran (content_with ks p)) (either (fits ks p) (given (given (bound (map (kind_at ks) p.values) values []) (run (content_with ks p).given)) (run (content_with ks p).old))
      (unbound p.values values (run (content_with ks p).given) (run (content_with ks p).old) is.values
      (ap (λ ps. given (run (content_with ks p).given []) (run (map (pattern_op_step ks) ps))) e
      ∙ undefined p.extra p.given o os is.extra_of is.given_of is.given_are
      (and_parts (pattern_op_is_bitwise o) (list_all pattern_op_is_bitwise os) (rw e at is.old_are)).0)))
