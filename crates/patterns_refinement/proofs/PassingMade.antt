-- The new operations of a pattern take operands of the kinds that they need, and are defined for all operands.
use Rattle.std.proofs.Common.{◌≡◌, ℕ, zero, suc, ◌+◌, ◌-◌, ◌<◌, ◌≤◌, refl, ap, sym, ◌∙◌, subst, List, [], ◌∷◌, ◌++◌, length, map, Bool, true, false, true≢false, ◌&&◌, not, Option, Some, None, slice_get, get_or, ◌⊎◌, inl, inr, arith}
use Rattle.std.proofs.Common.{append_assoc}
use Rattle.std.specs.Prelude.{is_some, option_map, if◌then◌else◌}
use Rattle.std.specs.List.{list_all}
use Rattle.std.proofs.lemmas.Bool.{and_from, and_parts, le-ltb}
use Rattle.std.proofs.lemmas.List.{get_or-append_right, get_or_append_left, length-map, length_push}
use Rattle.std.proofs.lemmas.Option.{same_Some, slice_get-get_or, slice_get_within}
use Rattle.ir_types.specs.declared.bits.BitsKind.{BitsKind}
use Rattle.ir_types.specs.declared.bits.BitsKind.TheVariants as kind
use Rattle.ir_types.specs.Bits.{is_bits, width_of}
use Rattle.ir_types.specs.Reasons.{is_width}
use Rattle.ir_types.specs.Terms.{TypeTerm}
use Rattle.ir_tree.specs.declared.value.Value.{Value}
use Rattle.ir_tree.specs.declared.value.Value.TheVariants.{Result}
use Rattle.ir_tree.specs.Tree.{head}
use Rattle.ir_tree.specs.Uses.{same_value}
use Rattle.ir_tree.specs.Meaning.{Operation}
use Rattle.ir_tree.proofs.Replaced.{same_value_true}
use Rattle.ir_event.specs.Modules.{Module}
use Rattle.dialects_int.specs.declared.operations.Arithmetic.{Arithmetic}
use Rattle.dialects_int.specs.declared.operations.Cast.{Cast}
use Rattle.dialects_int.specs.declared.operations.Rule.{Rule as How}
use Rattle.dialects_int.specs.declared.operations.Rule.TheVariants as how
use Rattle.dialects_int.specs.Folds.{Known, kind_of, same_kind}
use Rattle.patterns_laws.specs.Made.{constant, made}
use Rattle.patterns_laws.specs.Words.{among, flagged}
use Rattle.patterns_laws.proofs.KnownFolds.{given_at, given_some}
use Rattle.patterns_base.specs.Looks.{is_verified}
use Rattle.user_patterns_check.specs.Outcomes.{Outcome, compare_outcome, divides, given, pair_outcome, resize_any, resize_outcome, run, select_outcome, step_of}
use Rattle.user_patterns_check.proofs.Keeping.{same_kinds}
use Rattle.user_patterns_data.specs.declared.pattern.Expression.{Expression}
use Rattle.user_patterns_data.specs.declared.pattern.Expression.TheVariants as form
use Rattle.user_patterns_data.specs.declared.pattern.NewValue.{NewValue}
use Rattle.user_patterns_data.specs.declared.pattern.NewValue.TheVariants as new
use Rattle.user_patterns_data.specs.Fitting.{form_step, kind_at, new_step}
use Rattle.user_patterns_data.specs.Matching.{Header, BoundValues, bound, binding_at}
use Rattle.user_patterns_data.specs.Names.{cast_name, index_cast_name, name_of, operands_of, pair_name, predicate_of}
use Rattle.user_patterns_data.specs.Planning.{all_made, entries_by, bound_type, made_as, new_place, old_place, planned, values_at}
use Rattle.user_patterns_data.specs.Shapes.{PatternModel}
use Rattle.user_patterns_data.specs.WellFormed.{form_is_valid, is_new, is_number, is_type, new_ends, new_is_valid, news_are_valid, old_begins}
use Rattle.user_patterns_build.specs.CanBuild.{has_name, is_named, new_type}
use Rattle.patterns_refinement.proofs.Flags.{entries_unset}
use Rattle.patterns_refinement.specs.Meaning.{Assignment, owner}
use Rattle.patterns_refinement.specs.Applied.{IsProper, form_fits, extra_kind, kinds_after, kinds_given, kinds_matched, new_fits, news_fit, number_kind, pattern_op_kind}
use Rattle.patterns_refinement.specs.Better.{is_signed_quotient, kind_in, narrows, takes, takes_its}
use Rattle.patterns_refinement.specs.Keeping.{IsReady}
use Rattle.patterns_refinement.specs.Passing.{form_takes, is_always_defined, is_kinded_at, new_is_defined, new_takes, news_take}
use Rattle.patterns_refinement.proofs.Extremes.{compare_is, compare_out, select_is, select_out}
use Rattle.patterns_refinement.proofs.Wellformed.{is_below}
use Rattle.patterns_refinement.proofs.Forms.{form_rule, rule_for}
use Rattle.patterns_refinement.proofs.Going.{wellformed_parts, made_parts}
use Rattle.patterns_refinement.proofs.Makings.{AllMade, MadeOne, all_agree, with_all}
use Rattle.patterns_refinement.proofs.Monotone.{pair_better, resize_better}
use Rattle.patterns_refinement.proofs.News.{HasNumbers, IsNewPlace, again_gives, kind_there, more_made, new_place_of, values_stand}
use Rattle.patterns_refinement.proofs.OfKinds.{IsKind, OfKinds, new_kind, push_kinds}
use Rattle.patterns_refinement.proofs.Olds.{AllAre, form_places}
use Rattle.patterns_refinement.proofs.Pairs.{constant_made, flags_rise}
use Rattle.patterns_refinement.proofs.Readied.{Rises}
use Rattle.patterns_refinement.proofs.BoundValues.{Keeps, Stands, ValuesStand, all_stay, bound_elsewhere, bound_holds, one_stands}
use Rattle.patterns_refinement.proofs.Steps.{push_other}
use Rattle.patterns_refinement.proofs.Trees.{value_below}
use Rattle.patterns_refinement.proofs.PassingMatched.{Here, numbers_of_bits, numbers_of_kinds}

-- ---- appended kinds
pub after_long : {X : Type 0} (f : List BitsKind → X → BitsKind) (xs : List X) (es : List BitsKind) → length (kinds_after f xs es) ≡ length es + length xs
after_long f [] es = omega arith
after_long f (x ∷ xs) es = let l = length_push es (f es x) in let ih = after_long f xs (es ++ (f es x ∷ [])) in omega (arith, ih, l)

pub after_at : {X : Type 0} (f : List BitsKind → X → BitsKind) (xs : List X) (es : List BitsKind) (i : ℕ) → i < length es → kind_at (kinds_after f xs es) i ≡ kind_at es i
after_at f [] es i l = refl
after_at f (x ∷ xs) es i l =
    let n = length_push es (f es x) in
    after_at f xs (es ++ (f es x ∷ [])) i (omega (arith, l, n)) ∙ get_or_append_left es (f es x ∷ []) (kind.Int 0) i l

-- the number of kinds of all places, and of variables and computed numbers among them
module _ (ks : List BitsKind) (p : PatternModel) where
  pub given_long : length (kinds_given ks p) ≡ old_place p
  given_long =
      let a = length-map p.values (kind_at ks) in
      let b = after_long (extra_kind ks) p.extra (map (kind_at ks) p.values) in
      let c = after_long (number_kind ks) p.given (kinds_after (extra_kind ks) p.extra (map (kind_at ks) p.values)) in
      omega (arith, a, b, c)

  pub kinds_long : length (kinds_matched ks p) ≡ new_place p
  kinds_long = let c = given_long in let d = after_long (pattern_op_kind ks) p.old (kinds_given ks p) in omega (arith, c, d)

  pub given_at_place : (j : ℕ) → j < old_place p → kind_at (kinds_matched ks p) j ≡ kind_at (kinds_given ks p) j
  given_at_place j l = let c = given_long in after_at (pattern_op_kind ks) p.old (kinds_given ks p) j (omega (arith, l, c))

  pub first_at : (j : ℕ) → j < length p.values → kind_at (kinds_matched ks p) j ≡ kind_at (map (kind_at ks) p.values) j
  first_at j l =
      let a = length-map p.values (kind_at ks) in
      let b = after_long (extra_kind ks) p.extra (map (kind_at ks) p.values) in
      given_at_place j (omega (arith, l)) ∙ after_at (number_kind ks) p.given (kinds_after (extra_kind ks) p.extra (map (kind_at ks) p.values)) j (omega (arith, l, a, b))
      ∙ after_at (extra_kind ks) p.extra (map (kind_at ks) p.values) j (omega (arith, l, a))

none_less : (i : ℕ) → i < 0 → ⊥
none_less i l = omega (arith, l)

some_at : (xs : List BitsKind) (i : ℕ) → i < length xs → get_or (map (λ k. Some k) xs) i None ≡ Some (kind_at xs i)
some_at [] i l = absurd (omega (arith, l))
some_at (x ∷ xs) zero l = refl
some_at (x ∷ xs) (suc i) l = some_at xs i (omega (arith, l))

-- ---- an operation that takes its operands has a result of its type
form_typed : (es : List BitsKind) (k : BitsKind) (f : Expression) → form_takes es k f ≡ true → form_fits es k f ≡ true
form_typed es k (form.Binary o i j) t = (and_parts (same_kind (kind_at es i) k) (same_kind (kind_at es j) k) t).0
form_typed es k (form.Compare q i j) t = (and_parts (same_kind (kind_at es j) (kind_at es i)) (same_kind (kind.Int 1) k) t).1
form_typed es k (form.Select c i j) t = (and_parts (same_kind (kind_at es c) (kind.Int 1)) (same_kind (kind_at es i) k && same_kind (kind_at es j) k) t).1
form_typed es k (form.IntegerCast c i) t = refl
form_typed es k (form.IndexCast c i) t = refl

pub new_typed : (ks es : List BitsKind) (w : NewValue) → new_takes ks es w ≡ true → new_fits ks es w ≡ true
new_typed ks es (new.Operation o) t = form_typed es (kind_at ks o.ty) o.form (and_parts (is_width (width_of (kind_at ks o.ty))) (form_takes es (kind_at ks o.ty) o.form) t).1
new_typed ks es (new.Constant i u) t = t

pub news_typed : (ks es : List BitsKind) (ws : List NewValue) → news_take ks es ws ≡ true → news_fit ks es ws ≡ true
news_typed ks es [] t = refl
news_typed ks es (w ∷ ws) t =
    let q = and_parts (new_takes ks es w) (news_take ks (es ++ (kind_at ks (new_type w) ∷ [])) ws) t in
    and_from (new_fits ks es w) (news_fit ks (es ++ (kind_at ks (new_type w) ∷ [])) ws) (new_typed ks es w q.0) (news_typed ks (es ++ (kind_at ks (new_type w) ∷ [])) ws q.1)

-- ---- a new operation on values of the kinds that it needs
takes_form : (es : List BitsKind) (h : Header) (k : BitsKind) (f : Expression) → takes (rule_for f) h k (map (λ j. Some (kind_at es j)) (operands_of f)) ≡ form_takes es k f
takes_form es h k (form.Binary o i j) = refl
takes_form es h k (form.Compare q i j) = refl
takes_form es h k (form.Select c i j) = refl
takes_form es h k (form.IntegerCast c i) = refl
takes_form es h k (form.IndexCast c i) = refl

form_rises : (f : Expression) (vs : List Value) (term : TypeTerm) → Rises (head (made (name_of f) vs term (entries_by (predicate_of f) (name_of f))))
form_rises (form.Binary o i j) vs term = flags_rise (among flagged (pair_name o))
form_rises (form.Compare q i j) vs term = refl
form_rises (form.Select c i j) vs term = flags_rise (among flagged (name_of (form.Select c i j)))
form_rises (form.IntegerCast c i) vs term = flags_rise (among flagged (cast_name c))
form_rises (form.IndexCast c i) vs term = flags_rise (among flagged (index_cast_name c))

form_made : (g : Value → Option BitsKind) (f : Expression) (vs : List Value) (term : TypeTerm) (k : BitsKind) (es : List BitsKind) → has_name f ≡ true → kind_of term ≡ Some k → is_width (width_of k) ≡ true → form_takes es k f ≡ true
    → map g vs ≡ map (λ j. Some (kind_at es j)) (operands_of f) → MadeOne g (made (name_of f) vs term (entries_by (predicate_of f) (name_of f))) k
form_made g f vs term k es n of width t same =
    let h = head (made (name_of f) vs term (entries_by (predicate_of f) (name_of f))) in
    record {
      ty = term;
      results = refl;
      of = of;
      bare = refl;
      numeric = ap is_some (form_rule f n);
      unset = entries_unset (predicate_of f) (name_of f);
      risen = form_rises f vs term;
      takes = ap by_rule (form_rule f n) ∙ and_from (is_width (width_of k)) (takes (rule_for f) h k (map g vs)) width (ap (takes (rule_for f) h k) same ∙ takes_form es h k f ∙ t);
    }
  where
    by_rule : Option How → Bool
    by_rule r = takes_its r (Some k) (head (made (name_of f) vs term (entries_by (predicate_of f) (name_of f)))) (map g vs)

-- ---- each new value is built from the bound values
module _ (ts : BoundValues TypeTerm) (env : List Outcome) (d : BoundValues Value) where
  abbrev pub IsBuilt : NewValue → Operation → Type 0
  IsBuilt (new.Operation r) o =
      (vs : List Value) × (term : TypeTerm) × ValuesStand (operands_of r.form) vs d × (binding_at r.ty ts ≡ Some term) × (made (name_of r.form) vs term (entries_by (predicate_of r.form) (name_of r.form)) ≡ o)
  IsBuilt (new.Constant i v) o = (y : Known) × (term : TypeTerm) × (slice_get env i ≡ Some (Some y)) × (binding_at v ts ≡ Some term) × (constant term y.1 ≡ o)

  abbrev pub AreBuilt : List NewValue → List Operation → Type 0
  AreBuilt [] [] = Unit {0}
  AreBuilt [] (o ∷ os) = ⊥
  AreBuilt (w ∷ ws) [] = ⊥
  AreBuilt (w ∷ ws) (o ∷ os) = IsBuilt w o × AreBuilt ws os

  one_built : (w : NewValue) (b : BoundValues Value) (o : Operation) → Keeps b d → made_as b ts env w ≡ Some o → IsBuilt w o
  one_built (new.Operation r) b o keep e =
      let g = given_some (values_at (operands_of r.form) b) (λ vs. given (binding_at r.ty ts) (λ term. Some (made (name_of r.form) vs term (entries_by (predicate_of r.form) (name_of r.form))))) o e in
      let l = given_some (binding_at r.ty ts) (λ term. Some (made (name_of r.form) g.0 term (entries_by (predicate_of r.form) (name_of r.form)))) o g.2 in
      (g.0, l.0, all_stay same_value same_value_true (operands_of r.form) g.0 b d keep (values_stand (operands_of r.form) b g.0 g.1), l.1, same_Some _ _ l.2)
  one_built (new.Constant i v) b o keep e =
      let g = given_some (given (slice_get env i) (λ x. x)) (λ (x : Known). given (binding_at v ts) (λ term. Some (constant term x.1))) o e in
      let h = given_some (slice_get env i) (λ x. x) g.0 g.1 in
      let l = given_some (binding_at v ts) (λ term. Some (constant term g.0.1)) o g.2 in
      (g.0, l.0, h.1 ∙ ap (λ z. Some z) h.2, l.1, same_Some _ _ l.2)

  -- one new operation at each place
  pub record Builds (y k : ℕ) (ws : List NewValue) (b : BoundValues Value) (os : List Operation) : Type 0 where
    pub built : AreBuilt ws os
    pub keep : Keeps b d
    pub later : (i : ℕ) → i < length ws → Stands (k + i) (Result (y + i) 0) d
    pub before : (j : ℕ) (w : Value) → j < k → Stands j w d → Stands j w b

  next_at : (y k n : ℕ) → Stands k (Result y 0) d → ((i : ℕ) → i < n → Stands (k + 1 + i) (Result (y + 1 + i) 0) d) → (i : ℕ) → i < suc n → Stands (k + i) (Result (y + i) 0) d
  next_at y k n one more zero l =
      let a : k ≡ k + 0 = omega arith in
      let b : y ≡ y + 0 = omega arith in
      subst (λ z. Stands z (Result (y + 0) 0) d) a (subst (λ z. Stands k (Result z 0) d) b one)
  next_at y k n one more (suc i) l =
      let a : k + 1 + i ≡ k + suc i = omega arith in
      let b : y + 1 + i ≡ y + suc i = omega arith in
      subst (λ z. Stands z (Result (y + suc i) 0) d) a (subst (λ z. Stands (k + 1 + i) (Result z 0) d) b (more i (omega (arith, l))))

  pub all_builds : (y k : ℕ) (ws : List NewValue) (b : BoundValues Value) (os : List Operation) → all_made ts env y k ws b ≡ Some (os, d) → Builds y k ws b os
  all_builds y k [] b os e =
      let s : ([], b) ≡ (os, d) = same_Some _ _ e in
      let last : b ≡ d = ap (λ (r : List Operation × BoundValues Value). r.1) s in
      record {
        built = subst (AreBuilt []) (ap (λ (r : List Operation × BoundValues Value). r.0) s) tt;
        keep = λ j w h. subst (λ z. Stands j w z) last h;
        later = λ i l. absurd (none_less i l);
        before = λ j w l h. subst (λ z. Stands j w z) (sym last) h;
      }
  all_builds y k (w ∷ ws) b os e =
      let g = given_some (made_as b ts env w) (λ o. given (bound same_value k (Result y 0) b) (λ c. option_map (λ (r : List Operation × BoundValues Value). (o ∷ r.0, r.1)) (all_made ts env (y + 1) (k + 1) ws c))) (os, d) e in
      let h = given_some (bound same_value k (Result y 0) b) (λ c. option_map (λ (r : List Operation × BoundValues Value). (g.0 ∷ r.0, r.1)) (all_made ts env (y + 1) (k + 1) ws c)) (os, d) g.2 in
      let r = more_made g.0 (all_made ts env (y + 1) (k + 1) ws h.0) os d h.2 in
      let holds = bound_holds same_value same_value_true k (Result y 0) b h.0 h.1 in
      let ih = all_builds (y + 1) (k + 1) ws h.0 r.0 r.1 in
      let keep : Keeps b d = (λ j u s. ih.keep j u (holds.1 j u s)) in
      record {
        built = subst (AreBuilt (w ∷ ws)) r.2 (one_built w b g.0 keep g.1, ih.built);
        keep = keep;
        later = next_at y k (length ws) (ih.keep k (Result y 0) holds.0) ih.later;
        before = λ j u l s. bound_elsewhere same_value same_value_true k (Result y 0) b h.0 h.1 j u (λ i. absurd (omega (arith, i, l))) (ih.before j u (omega (arith, l)) s);
      }

-- ---- steps that are always defined
pair_there : (o : Arithmetic) (k : BitsKind) (u v : Outcome) → not (divides o) ≡ true → IsKind k u → IsKind k v → (z : Outcome) × (pair_outcome o u v ≡ Some z)
pair_there o k u v d f g = let r = pair_better o k None None u v None f g refl refl (either (is_signed_quotient (Some (how.Binary o)))) (nothing_made (divides o) None d) in (r.0, r.1)
  where
    either : (b : Bool) → (b && false) ≡ false
    either true = refl
    either false = refl

    nothing_made : (b : Bool) (z : Outcome) → not b ≡ true → (if b && true then None else Some z) ≡ Some z
    nothing_made true z e = absurd (true≢false (sym e))
    nothing_made false z e = refl

abbrev pub AllBelow : ℕ → List ℕ → Type 0
AllBelow n [] = Unit {0}
AllBelow n (j ∷ js) = (j < n) × AllBelow n js

module _ (es : List BitsKind) (env : List Outcome) (of : OfKinds es env) where
  at_place : (i : ℕ) → i < length env → slice_get env i ≡ Some (get_or env i None)
  at_place i l = slice_get-get_or env i None l

  kind_by : (i : ℕ) (k : BitsKind) → i < length env → same_kind (kind_at es i) k ≡ true → IsKind k (get_or env i None)
  kind_by i k l t x e = of.are i x (at_place i l ∙ ap (λ z. Some z) e) ∙ same_kinds (kind_at es i) k t

  two_there : (f : Outcome → Outcome → Option Outcome) (i j : ℕ) (z : Outcome) → i < length env → j < length env → f (get_or env i None) (get_or env j None) ≡ Some z → given (slice_get env i) (λ x. given (slice_get env j) (λ y. f x y)) ≡ Some z
  two_there f i j z l m e =
      given_at (slice_get env i) (get_or env i None) (λ x. given (slice_get env j) (λ y. f x y)) (Some z) (at_place i l)
      (given_at (slice_get env j) (get_or env j None) (λ y. f (get_or env i None) y) (Some z) (at_place j m) e)

  resized : (c : Cast) (k : BitsKind) (i : ℕ) → is_width (width_of k) ≡ true → narrows c (Some (kind_at es i)) k ≡ true → i < length env → (z : Outcome) × (given (slice_get env i) (λ x. resize_outcome c k x) ≡ Some z)
  resized c k i width t l =
      let r =
      resize_better c k (Some (kind_at es i)) None (get_or env i None) None t (λ j a same e. of.are i a (at_place i l ∙ ap (λ z. Some z) e) ∙ same_Some _ _ same) refl
      (ap (λ b. if b then resize_any c k None else None) width) in
      (r.0, given_at (slice_get env i) (get_or env i None) (λ x. resize_outcome c k x) (Some r.0) (at_place i l) r.1)

  step_there : (k : BitsKind) (f : Expression) → is_always_defined f ≡ true → is_width (width_of k) ≡ true → form_takes es k f ≡ true → AllBelow (length env) (operands_of f) → (z : Outcome) × (step_of (form_step k f) env ≡ Some z)
  step_there k (form.Binary o i j) d width t l =
      let q = and_parts (same_kind (kind_at es i) k) (same_kind (kind_at es j) k) t in
      let r = pair_there o k (get_or env i None) (get_or env j None) d (kind_by i k l.0 q.0) (kind_by j k l.1.0 q.1) in
      (r.0, two_there (pair_outcome o) i j r.0 l.0 l.1.0 r.1)
  step_there k (form.Compare p i j) d width t l =
      let q = and_parts (same_kind (kind_at es j) (kind_at es i)) (same_kind (kind.Int 1) k) t in
      let first : IsKind (kind_at es i) (get_or env i None) = (λ x e. of.are i x (at_place i l.0 ∙ ap (λ z. Some z) e)) in
      let e = compare_is p (kind_at es i) (get_or env i None) (get_or env j None) first (kind_by j (kind_at es i) l.1.0 q.0) in
      let z = compare_out p (get_or env i None) (get_or env j None) in
      (z, two_there (compare_outcome p) i j z l.0 l.1.0 e)
  step_there k (form.Select c i j) d width t l =
      let q = and_parts (same_kind (kind_at es c) (kind.Int 1)) (same_kind (kind_at es i) k && same_kind (kind_at es j) k) t in
      let e = select_is (get_or env c None) (get_or env i None) (get_or env j None) (kind_by c (kind.Int 1) l.0 q.0) in
      let z = select_out (get_or env c None) (get_or env i None) (get_or env j None) in
      (z, given_at (slice_get env c) (get_or env c None) (λ b. given (slice_get env i) (λ x. given (slice_get env j) (λ y. select_outcome b x y))) (Some z) (at_place c l.0) (two_there (select_outcome (get_or env c None)) i j z l.1.0 l.1.1.0 e))
  step_there k (form.IntegerCast c i) d width t l = resized c k i width t l.0
  step_there k (form.IndexCast c i) d width t l = resized c k i width t l.0

-- ---- the new operations of a plan
module _ (m : Module) (p : PatternModel) (x : ℕ) (proper : IsProper p) (ready : IsReady m) (os : List Operation) (value : Value) (plan : planned m.tree (is_verified m.tree) m.next p x ≡ Some (os, value))
    (q : Here m p x proper ready os value plan) (kinded : is_kinded_at (map bound_type q.types) p ≡ true) where
  abbrev ks : List BitsKind
  ks = map bound_type q.types

  abbrev pub no_outcomes : Assignment
  no_outcomes v = None

  abbrev pub IsPlace : ℕ → Type 0
  IsPlace j = IsNewPlace q.types q.value_types p q.parts.env no_outcomes j

  abbrev its_kind : NewValue → BitsKind
  its_kind w = kind_at (map bound_type q.types) (new_type w)

  -- the kinds of the new values, and of all places
  abbrev pub its_kinds : List BitsKind
  its_kinds = map (λ w. kind_at (map bound_type q.types) (new_type w)) p.new

  abbrev whole : List BitsKind
  whole = kinds_matched ks p ++ map (λ w. kind_at (map bound_type q.types) (new_type w)) p.new

  abbrev pub all_kinds : Value → Option BitsKind
  all_kinds = with_all (kind_in m.tree) m.next None (map (λ k. Some k) (map (λ w. kind_at (map bound_type q.types) (new_type w)) p.new))

  builds : Builds q.types q.parts.env q.parts.last m.next (new_place p) p.new q.here os
  builds = all_builds q.types q.parts.env q.parts.last m.next (new_place p) p.new q.here os q.parts.made

  pub are_built : AreBuilt q.types q.parts.env q.parts.last p.new os
  are_built = builds.built

  -- a value at a new place is a variable's, or the result of a new operation
  pub record IsVariable (j : ℕ) (w : Value) : Type 0 where
    pub within : j < length p.values
    pub stands : Stands j w q.here

  pub record IsMade (j : ℕ) (w : Value) : Type 0 where
    pub number : ℕ
    pub place : j ≡ new_place p + number
    pub within : number < length p.new
    pub is : w ≡ Result (m.next + number) 0

  pub placed : (j : ℕ) (w : Value) → IsPlace j → j < new_place p + length p.new → Stands j w q.parts.last → IsVariable j w ⊎ IsMade j w
  placed j w o l s = elim o [
    | inl i ↦ inl (record { within = i; stands = builds.before j w (omega (arith, i)) s })
    | inr i ↦
        let n = j - new_place p in
        let place : j ≡ new_place p + (j - new_place p) = omega (arith, i) in
        let within : j - new_place p < length p.new = omega (arith, i, l) in
        inr (record { number = n; place = place; within = within; is = one_stands j w (Result (m.next + n) 0) q.parts.last s (subst (λ z. Stands z (Result (m.next + n) 0) q.parts.last) (sym place) (builds.later n within)) })
  ]

  pub old_below : (j : ℕ) (w : Value) → IsVariable j w → owner w < m.next
  old_below j w h = value_below m.next m.tree (is_below m.next m.tree ready.wellformed.below) w (ap is_some (q.variables j w h.within h.stands).of_value)

  -- ---- their kinds
  matched_at : (j : ℕ) → j < new_place p → kind_at whole j ≡ kind_at (kinds_matched ks p) j
  matched_at j l = get_or_append_left (kinds_matched ks p) (map its_kind p.new) (kind.Int 0) j (omega (arith, l, kinds_long ks p))

  made_at : (n : ℕ) → kind_at whole (new_place p + n) ≡ kind_at (map its_kind p.new) n
  made_at n =
      let back : new_place p + n - new_place p ≡ n = omega arith in
      get_or-append_right (kinds_matched ks p) (map its_kind p.new) (new_place p) (new_place p + n) (kind.Int 0) (kinds_long ks p) (omega arith) ∙ ap (kind_at (map its_kind p.new)) back

  fine_kind : (j : ℕ) (w : Value) → IsPlace j → j < new_place p + length p.new → Stands j w q.parts.last → all_kinds w ≡ Some (kind_at whole j)
  fine_kind j w o l s = elim (placed j w o l s) [
    | inl h ↦
        let is = q.variables j w h.within h.stands in
        all_agree (kind_in m.tree) m.next None (map (λ k. Some k) (map its_kind p.new)) w (old_below j w h) ∙ ap (λ o. given o kind_of) is.of_value ∙ is.of
        ∙ ap (λ k. Some k) (sym (matched_at j (let i = h.within in omega (arith, i)) ∙ first_at ks p j h.within))
    | inr h ↦
        let n = h.number in
        let i = h.within in
        let back : m.next + n - m.next ≡ n = omega arith in
        ap all_kinds h.is
        ∙ ap (λ b. if b then kind_in m.tree (Result (m.next + n) 0) else get_or (map (λ k. Some k) (map its_kind p.new)) (m.next + n - m.next) None) (le-ltb (m.next + n) m.next (omega arith))
        ∙ ap (λ z. get_or (map (λ k. Some k) (map its_kind p.new)) z None) back
        ∙ some_at (map its_kind p.new) n (omega (arith, i, length-map p.new its_kind))
        ∙ ap (λ k. Some k) (sym (ap (kind_at whole) h.place ∙ made_at n))
  ]

  -- the kinds so far are those of all places
  module _ (es rest : List BitsKind) (same : es ++ rest ≡ whole) where
    so_far : (j : ℕ) → j < length es → kind_at es j ≡ kind_at whole j
    so_far j l = sym (get_or_append_left es rest (kind.Int 0) j l) ∙ ap (λ es. kind_at es j) same

    operands_kinds : (js : List ℕ) (vs : List Value) → length p.values ≤ length es → length es ≤ new_place p + length p.new → ValuesStand js vs q.parts.last → AllAre (is_new p (length es)) js → map all_kinds vs ≡ map (λ j. Some (kind_at es j)) js
    operands_kinds [] [] low high s are = refl
    operands_kinds [] (v ∷ vs) low high s are = absurd s
    operands_kinds (j ∷ js) [] low high s are = absurd s
    operands_kinds (j ∷ js) (v ∷ vs) low high s are =
        let n = new_place_of q.types q.value_types p q.parts.env no_outcomes (length es) j low are.0 in
        let l = n.1 in
        let one : all_kinds v ≡ Some (kind_at es j) = fine_kind j v n.0 (omega (arith, l, high)) s.0 ∙ ap (λ k. Some k) (sym (so_far j l)) in
        let more = operands_kinds js vs low high s.1 are.1 in
        (λ z. one z ∷ more z)

    one_made : (w : NewValue) (o : Operation) → new_place p ≤ length es → length es ≤ new_place p + length p.new → IsBuilt q.types q.parts.env q.parts.last w o → is_named w ≡ true → new_is_valid p (length es) w ≡ true → new_takes ks es w ≡ true → MadeOne all_kinds o (its_kind w)
    one_made (new.Operation r) o low high built named st t =
        let places = form_places p (is_new p (length es)) r.form (and_parts (is_type p r.ty) (form_is_valid p (is_new p (length es)) r.form) st).1 in
        let test = and_parts (is_width (width_of (kind_at ks r.ty))) (form_takes es (kind_at ks r.ty) r.form) t in
        subst (λ o. MadeOne all_kinds o (kind_at ks r.ty)) built.4
        (form_made all_kinds r.form built.0 built.1 (kind_at ks r.ty) es named (kind_there q.types q.value_types p q.parts.env no_outcomes r.ty built.1 built.3) test.0 test.1
        (operands_kinds (operands_of r.form) built.0 (omega (arith, low)) high built.2 places))
    one_made (new.Constant i v) o low high built named st t =
        let numbers = numbers_of_kinds m p x proper ready os value plan q in
        let l = slice_get_within q.parts.env i (Some built.0) built.2 in
        let n = numbers.long in
        let is : built.0.0 ≡ kind_at ks v =
        numbers.are i built.0 built.2 ∙ sym (given_at_place ks p i (omega (arith, l, n, given_long ks p))) ∙ sym (matched_at i (omega (arith, l, n, given_long ks p))) ∙ sym (so_far i (omega (arith, l, n, given_long ks p, low)))
        ∙ same_kinds (kind_at es i) (kind_at ks v) t in
        subst (λ o. MadeOne all_kinds o (kind_at ks v)) built.4
        (constant_made all_kinds built.1 built.0.1 (kind_at ks v) (kind_there q.types q.value_types p q.parts.env no_outcomes v built.1 built.3)
        (subst (λ k. is_bits k built.0.1 ≡ true) is (numbers_of_bits m p x proper ready os value plan q i built.0 built.2)))

  all_made_so : (ws : List NewValue) (us : List Operation) (es : List BitsKind) → AreBuilt q.types q.parts.env q.parts.last ws us → list_all is_named ws ≡ true → news_are_valid p (new_ends p) ws ≡ true → length es + length ws ≡ new_ends p → new_place p ≤ length es
      → news_take ks es ws ≡ true → es ++ map its_kind ws ≡ whole → AllMade all_kinds us (map its_kind ws)
  all_made_so [] [] es built named st sum low t same = tt
  all_made_so [] (o ∷ us) es built named st sum low t same = absurd built
  all_made_so (w ∷ ws) [] es built named st sum low t same = absurd built
  all_made_so (w ∷ ws) (o ∷ us) es built named st sum low t same =
      let p1 = and_parts (is_named w) (list_all is_named ws) named in
      let p2 = and_parts (new_is_valid p (new_ends p - length (w ∷ ws)) w) (news_are_valid p (new_ends p) ws) st in
      let p3 = and_parts (new_takes ks es w) (news_take ks (es ++ (its_kind w ∷ [])) ws) t in
      let at : new_ends p - length (w ∷ ws) ≡ length es = omega (arith, sum) in
      let l = length_push es (its_kind w) in (
        one_made es (map its_kind (w ∷ ws)) same w o low (omega (arith, sum)) built.0 p1.0 (subst (λ z. new_is_valid p z w ≡ true) at p2.0) p3.0,
        all_made_so ws us (es ++ (its_kind w ∷ [])) built.1 p1.1 p2.1 (omega (arith, sum, l)) (omega (arith, low, l)) p3.1 (append_assoc es (its_kind w ∷ []) (map its_kind ws) ∙ same),
      )

  pub are_made : AllMade (with_all (kind_in m.tree) m.next None (map (λ k. Some k) (map (λ w. kind_at (map bound_type q.types) (new_type w)) p.new))) os (map (λ w. kind_at (map bound_type q.types) (new_type w)) p.new)
  are_made =
      let f = wellformed_parts p proper.wellformed in
      let k = made_parts p proper.buildable in
      all_made_so p.new os (kinds_matched ks p) builds.built k.named f.news (omega (arith, kinds_long ks p)) (omega (arith, kinds_long ks p)) kinded refl

  -- ---- new operations are defined
  all_below : (n : ℕ) (js : List ℕ) → length p.values ≤ n → AllAre (is_new p n) js → AllBelow n js
  all_below n [] low are = tt
  all_below n (j ∷ js) low are = ((new_place_of q.types q.value_types p q.parts.env no_outcomes n j low are.0).1, all_below n js low are.1)

  abbrev Numbered : List Outcome → Type 0
  Numbered env = HasNumbers q.types q.value_types p q.parts.env no_outcomes env

  new_there : (w : NewValue) (o : Operation) (es : List BitsKind) (env : List Outcome) → OfKinds es env → Numbered env → length p.values ≤ length env → IsBuilt q.types q.parts.env q.parts.last w o → new_is_defined w ≡ true → new_is_valid p (length env) w ≡ true → new_takes ks es w ≡ true
      → (z : Outcome) × (step_of (new_step ks w) env ≡ Some z)
  new_there (new.Operation r) o es env of numbers low built d st t =
      let places = form_places p (is_new p (length env)) r.form (and_parts (is_type p r.ty) (form_is_valid p (is_new p (length env)) r.form) st).1 in
      let test = and_parts (is_width (width_of (kind_at ks r.ty))) (form_takes es (kind_at ks r.ty) r.form) t in
      step_there es env of (kind_at ks r.ty) r.form d test.0 test.1 (all_below (length env) (operands_of r.form) low places)
  new_there (new.Constant i v) o es env of numbers low built d st t =
      (Some built.0, again_gives env i built.0 (numbers i built.0 (and_parts (is_type p v) (is_number p (old_begins p) i) st).1 built.2))

  all_run : (ws : List NewValue) (us : List Operation) (es : List BitsKind) (env : List Outcome) → OfKinds es env → Numbered env → AreBuilt q.types q.parts.env q.parts.last ws us → list_all new_is_defined ws ≡ true → news_are_valid p (new_ends p) ws ≡ true
      → length es + length ws ≡ new_ends p → length p.values ≤ length es → news_take ks es ws ≡ true → (new : List Outcome) × (run (map (new_step ks) ws) env ≡ Some new)
  all_run [] [] es env of numbers built d st sum low t = (env, refl)
  all_run [] (o ∷ us) es env of numbers built d st sum low t = absurd built
  all_run (w ∷ ws) [] es env of numbers built d st sum low t = absurd built
  all_run (w ∷ ws) (o ∷ us) es env of numbers built d st sum low t =
      let p1 = and_parts (new_is_defined w) (list_all new_is_defined ws) d in
      let p2 = and_parts (new_is_valid p (new_ends p - length (w ∷ ws)) w) (news_are_valid p (new_ends p) ws) st in
      let p3 = and_parts (new_takes ks es w) (news_take ks (es ++ (its_kind w ∷ [])) ws) t in
      let long = of.long in
      let at : new_ends p - length (w ∷ ws) ≡ length env = omega (arith, sum, long) in
      let l = length_push es (its_kind w) in
      let z = new_there w o es env of numbers (omega (arith, low, long)) built.0 p1.0 (subst (λ z. new_is_valid p z w ≡ true) at p2.0) p3.0 in
      let ih =
      all_run ws us (es ++ (its_kind w ∷ [])) (env ++ (z.0 ∷ [])) (push_kinds es env (its_kind w) z.0 of (new_kind es env of ks w z.0 (new_typed ks es w p3.0) z.1)) (λ i y e s. push_other env z.0 i (Some y) (numbers i y e s))
      built.1 p1.1 p2.1 (omega (arith, sum, l)) (omega (arith, low, l)) p3.1 in
      (ih.0, given_at (step_of (new_step ks w) env) z.0 (λ v. run (map (new_step ks) ws) (env ++ (v ∷ []))) (Some ih.0) z.1 ih.1)

  pub run_there : list_all new_is_defined p.new ≡ true → (env : List Outcome) → OfKinds (kinds_matched (map bound_type q.types) p) env → HasNumbers q.types q.value_types p q.parts.env (λ v. None) env
      → (new : List Outcome) × (run (map (new_step (map bound_type q.types)) p.new) env ≡ Some new)
  run_there d env of numbers =
      let f = wellformed_parts p proper.wellformed in
      all_run p.new os (kinds_matched ks p) env of numbers builds.built d f.news (omega (arith, kinds_long ks p)) (omega (arith, kinds_long ks p)) kinded
