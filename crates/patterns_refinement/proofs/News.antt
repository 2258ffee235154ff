-- The new operations compute the results of the new steps.
use Rattle.std.proofs.Common.{◌≡◌, ℕ, zero, suc, ◌+◌, ◌-◌, ◌<◌, ◌≤◌, refl, ap, sym, ◌∙◌, subst, List, [], ◌∷◌, ◌++◌, length, map, true, Option, Some, None, slice_get, get_or, ◌⊎◌, inl, inr, arith}
use Rattle.std.specs.Prelude.{nat_lt, codes, option_map, if◌then◌else◌}
use Rattle.std.specs.List.{list_all}
use Rattle.std.specs.Int.Bits.{bit_and, and_self}
use Rattle.std.proofs.lemmas.Bool.{and_parts, or_cases, cases_eq, lt-ltb, le-ltb, ltb-true}
use Rattle.std.proofs.lemmas.List.{length_push}
use Rattle.std.proofs.lemmas.Option.{none-some, get_or_from_slice_get, same_Some}
use Rattle.ir_types.specs.declared.node.Sign.TheVariants as sign
use Rattle.ir_types.specs.declared.bits.BitsKind.{BitsKind}
use Rattle.ir_types.specs.Bits.{type_of}
use Rattle.ir_types.specs.Terms.{TypeTerm}
use Rattle.ir_types.specs.Terms as term
use Rattle.ir_tree.specs.declared.value.Value.{Value}
use Rattle.ir_tree.specs.declared.value.Value.TheVariants.{Result, Arg}
use Rattle.ir_tree.specs.Tree.{head}
use Rattle.ir_tree.specs.Uses.{same_value}
use Rattle.ir_tree.specs.Meaning.{Operation}
use Rattle.dialects_int.specs.declared.operations.Arithmetic.TheVariants as op
use Rattle.dialects_int.specs.declared.operations.Rule.TheVariants as rule
use Rattle.dialects_int.specs.Folds.{Known, fold_of, kind_of}
use Rattle.dialects_int.proofs.KnownOperands.{same_itself}
use Rattle.patterns_laws.specs.Made.{constant, i64, made}
use Rattle.patterns_laws.proofs.KnownFolds.{constant_gives, given_at, given_some}
use Rattle.user_patterns_check.specs.Outcomes.{Outcome, given, checked, pair_outcome, run, step_of}
use Rattle.user_patterns_check.proofs.Keeping.{same_kinds}
use Rattle.user_patterns_data.specs.declared.pattern.Expression.{Expression}
use Rattle.user_patterns_data.specs.declared.pattern.Expression.TheVariants as form
use Rattle.user_patterns_data.specs.declared.pattern.NewValue.{NewValue}
use Rattle.user_patterns_data.specs.declared.pattern.NewValue.TheVariants as new
use Rattle.user_patterns_data.specs.Fitting.{again_step, kind_at, new_step}
use Rattle.user_patterns_data.specs.Names.{name_of, operands_of, predicate_number, predicate_of}
use Rattle.user_patterns_data.specs.Matching.{Header, BoundValues, bound, binding_at}
use Rattle.user_patterns_data.specs.Planning.{all_made, and_more, entries_by, bound_type, made_as, values_at}
use Rattle.user_patterns_data.specs.Shapes.{PatternModel}
use Rattle.user_patterns_data.specs.WellFormed.{form_is_valid, is_new, is_number, is_type, is_variable, is_within, new_begins, new_is_valid, news_are_valid, old_begins}
use Rattle.user_patterns_build.specs.CanBuild.{is_named, new_type}
use Rattle.ir_tree.proofs.Replaced.{same_value_true}
use Rattle.ir_tree_laws.proofs.Reasoned.{some_there}
use Rattle.patterns_refinement.specs.Meaning.{Assignment, FitsEach, IsOfType, TypedEach, makes}
use Rattle.patterns_refinement.specs.Applied.{Agree, AreOfKinds, new_fits, news_fit}
use Rattle.patterns_refinement.proofs.BoundValues.{Stands, ValuesStand, bound_elsewhere, bound_holds, one_stands, standing_stands}
use Rattle.patterns_refinement.proofs.Steps.{push_last, push_other, run_grows}
use Rattle.patterns_refinement.proofs.OfKinds.{IsKind, OfKinds, new_kind, push_kinds}
use Rattle.patterns_refinement.proofs.OfBits.{AllOfBits, IsOfBits, push_bits, step_bits}
use Rattle.patterns_refinement.proofs.Forms.{Asks, requested_at, by_constant, form_makes, kind_is, makes_is}
use Rattle.patterns_refinement.proofs.Numbers.{within_parts}
use Rattle.patterns_refinement.proofs.Olds.{form_places, operands_show}

-- a list of new operations with one more at the front
pub more_made : (o : Operation) (r : Option (List Operation × BoundValues Value)) (os : List Operation) (d : BoundValues Value) → option_map {U = List Operation × BoundValues Value} (λ (r : List Operation × BoundValues Value). (o ∷ r.0, r.1)) r ≡ Some (os, d)
    → (us : List Operation) × (r ≡ Some (us, d)) × (o ∷ us ≡ os)
more_made o None os d e = absurd (none-some (os, d) e)
more_made o (Some r) os d e = let s : (o ∷ r.0, r.1) ≡ (os, d) = same_Some _ _ e in (r.0, (λ i. Some (r.0, (s i).1)), ap (λ (r : List Operation × BoundValues Value). r.0) s)

-- ---- an assignment extended by the outcomes of new results: those from place k on, for the ids from n on
abbrev pub extended : Assignment → ℕ → ℕ → List Outcome → Assignment
extended a n k env (Result y l) = if nat_lt y n then a (Result y l) else get_or env (k + (y - n)) None
extended a n k env (Arg y r l) = a (Arg y r l)

pub extended_agrees : (a : Assignment) (n k : ℕ) (env : List Outcome) → Agree n a (extended a n k env)
extended_agrees a n k env (Arg y r l) h = refl
extended_agrees a n k env (Result y l) h = ap (λ b. if b then a (Result y l) else get_or env (k + (y - n)) None) (lt-ltb y n h)

-- the outcomes of results from an id on are those of the places from k on
abbrev pub Later : Assignment → ℕ → ℕ → List Outcome → Type 0
Later c n k env = (j y : ℕ) (o : Outcome) → slice_get env j ≡ Some o → k ≤ j → y + k ≡ n + j → c (Result y 0) ≡ o

pub extended_later : (a : Assignment) (n k : ℕ) (env : List Outcome) → Later (extended a n k env) n k env
extended_later a n k env j y o e low same =
    let at : k + (y - n) ≡ j = omega (arith, low, same) in
    let above : n ≤ y = omega (arith, low, same) in
    ap (λ b. if b then a (Result y 0) else get_or env (k + (y - n)) None) (le-ltb y n above) ∙ ap (λ i. get_or env i None) at ∙ get_or_from_slice_get env j o None e

-- ---- values at places
pub more_there : (v : Value) (o : Option (List Value)) (vs : List Value) → and_more v o ≡ Some vs → (us : List Value) × (o ≡ Some us) × (v ∷ us ≡ vs)
more_there v None vs e = absurd (none-some vs e)
more_there v (Some us) vs e = (us, refl, same_Some _ _ e)

pub values_stand : (ks : List ℕ) (b : BoundValues Value) (vs : List Value) → values_at ks b ≡ Some vs → ValuesStand ks vs b
values_stand [] b vs e = subst (λ vs. ValuesStand [] vs b) (same_Some _ _ e) tt
values_stand (k ∷ ks) b vs e =
    let g = given_some (binding_at k b) (λ v. and_more v (values_at ks b)) vs e in
    let m = more_there g.0 (values_at ks b) vs g.2 in
    subst (λ vs. ValuesStand (k ∷ ks) vs b) m.2 (standing_stands k g.0 b g.1, values_stand ks b m.0 m.1)

-- ---- new operations, and constants
made_asks : (f : Expression) → Asks f (entries_by (predicate_of f) (name_of f))
made_asks (form.Binary o i j) = tt
made_asks (form.Compare p i j) = requested_at p (i64, predicate_number p) refl
made_asks (form.Select c i j) = tt
made_asks (form.IntegerCast c i) = tt
made_asks (form.IndexCast c i) = tt

pub type_is_of : (ty : TypeTerm) (k : BitsKind) → kind_of ty ≡ Some k → ty ≡ type_of k
type_is_of (term.Integer sign.Signless w) k e = ap type_of (same_Some _ _ e)
type_is_of (term.Integer sign.Signed w) k e = absurd (none-some k e)
type_is_of (term.Integer sign.Unsigned w) k e = absurd (none-some k e)
type_is_of term.Index k e = ap type_of (same_Some _ _ e)
type_is_of (term.Function is os) k e = absurd (none-some k e)
type_is_of (term.Memref ds ty) k e = absurd (none-some k e)
type_is_of (term.OpaqueType s) k e = absurd (none-some k e)

pub constant_makes : (ty : TypeTerm) (k : BitsKind) (n : ℕ) → kind_of ty ≡ Some k → makes (head (constant ty n)) [] ≡ Some (Some (k, n))
constant_makes ty k n e =
    makes_is (head (constant ty n)) [] rule.Constant k by_constant e
    ∙ given_at (fold_of (codes "arith.constant") (head (constant ty n)).properties [] (ty ∷ [])) (k, n) (λ x. Some (Some x)) (Some (Some (k, n)))
    (subst (λ ty. fold_of (codes "arith.constant") (head (constant ty n)).properties [] (ty ∷ []) ≡ Some (k, n)) (sym (type_is_of ty k e)) (constant_gives k n)) refl

again_same : (x : Known) → pair_outcome op.And (Some x) (Some x) ≡ Some (Some x)
again_same x =
    ap (λ b. if b then checked op.And x.0 x.1 (Some (bit_and x.1 x.1)) else None) (same_itself x.0) ∙ ap (λ v. Some (Some (x.0, v))) (and_self x.1)

pub again_gives : (env : List Outcome) (i : ℕ) (x : Known) → slice_get env i ≡ Some (Some x) → step_of (again_step i) env ≡ Some (Some x)
again_gives env i x e =
    given_at (slice_get env i) (Some x) (λ y. given (slice_get env i) (λ z. pair_outcome op.And y z)) (Some (Some x)) e
    (given_at (slice_get env i) (Some x) (λ z. pair_outcome op.And (Some x) z) (Some (Some x)) e (again_same x))

module _ (ts : BoundValues TypeTerm) (value_types : AreOfKinds ts) (p : PatternModel) (envp : List Outcome) (c : Assignment) where
  abbrev ks : List BitsKind
  ks = map bound_type ts

  -- the place of a variable or of a new value
  abbrev pub IsNewPlace : ℕ → Type 0
  IsNewPlace j = (j < length p.values) ⊎ (new_begins p ≤ j)

  abbrev pub ShowsNew : ℕ → List Outcome → BoundValues Value → Type 0
  ShowsNew k env b = (j : ℕ) (v : Value) → IsNewPlace j → j < k → Stands j v b → slice_get env j ≡ Some (c v)

  -- the environment has the computed numbers of the plan
  abbrev pub HasNumbers : List Outcome → Type 0
  HasNumbers env = (i : ℕ) (x : Known) → is_number p (old_begins p) i ≡ true → slice_get envp i ≡ Some (Some x) → slice_get env i ≡ Some (Some x)

  pub new_place_of : (k i : ℕ) → length p.values ≤ k → is_new p k i ≡ true → IsNewPlace i × (i < k)
  new_place_of k i low e = elim (or_cases (is_variable p i) (is_within (new_begins p) k i) e) [
    | inl h ↦ let l = ltb-true i (length p.values) h in (inl l, omega (arith, l, low))
    | inr h ↦ let l = within_parts (new_begins p) k i h in (inr l.0, l.1)
  ]

  new_shown : (k : ℕ) (env : List Outcome) (b : BoundValues Value) → length p.values ≤ k → ShowsNew k env b → (i : ℕ) (v : Value) → is_new p k i ≡ true → Stands i v b → slice_get env i ≡ Some (c v)
  new_shown k env b low shows i v e s = let h = new_place_of k i low e in shows i v h.0 h.1 s

  -- the kind of a bound type
  pub kind_there : (ty : ℕ) (term : TypeTerm) → binding_at ty ts ≡ Some term → kind_of term ≡ Some (kind_at ks ty)
  kind_there ty term e =
      let k = some_there (kind_of term) (value_types ty term e) in
      k.1 ∙ ap (λ k. Some k) (sym (kind_is ts ty term k.0 (standing_stands ty term ts e) k.1))

  -- a new value has the outcome of its step
  made_gives : (k : ℕ) (w : NewValue) (es : List BitsKind) (env : List Outcome) (b : BoundValues Value) (o : Operation) (x : Outcome) → length p.values ≤ k → new_is_valid p k w ≡ true → is_named w ≡ true
      → OfKinds es env → new_fits ks es w ≡ true
      → made_as b ts envp w ≡ Some o → ShowsNew k env b → HasNumbers env → step_of (new_step ks w) env ≡ Some x → makes (head o) (map c (head o).operands) ≡ Some x
  made_gives k (new.Operation q) es env b o x low st named of fits_in e shows numbers s =
      let g = given_some (values_at (operands_of q.form) b) (λ vs. given (binding_at q.ty ts) (λ term. Some (made (name_of q.form) vs term (entries_by (predicate_of q.form) (name_of q.form))))) o e in
      let l = given_some (binding_at q.ty ts) (λ term. Some (made (name_of q.form) g.0 term (entries_by (predicate_of q.form) (name_of q.form)))) o g.2 in
      let places = form_places p (is_new p k) q.form (and_parts (is_type p q.ty) (form_is_valid p (is_new p k) q.form) st).1 in
      let m = made (name_of q.form) g.0 l.0 (entries_by (predicate_of q.form) (name_of q.form)) in
      subst (λ (o : Operation). makes (head o) (map c (head o).operands) ≡ Some x) (same_Some _ _ l.2)
      (form_makes c env (head m) (kind_at ks q.ty) q.form named refl (kind_there q.ty l.0 l.1) (made_asks q.form)
      (operands_show (is_new p k) c env b (new_shown k env b low shows) (operands_of q.form) g.0 places (values_stand (operands_of q.form) b g.0 g.1)) ∙ s)
  made_gives k (new.Constant i t) es env b o x low st named of fits_in e shows numbers s =
      let g = given_some (given (slice_get envp i) (λ x. x)) (λ (x : Known). given (binding_at t ts) (λ term. Some (constant term x.1))) o e in
      let h = given_some (slice_get envp i) (λ x. x) g.0 g.1 in
      let at : slice_get envp i ≡ Some (Some g.0) = h.1 ∙ ap (λ z. Some z) h.2 in
      let l = given_some (binding_at t ts) (λ term. Some (constant term g.0.1)) o g.2 in
      let number = (and_parts (is_type p t) (is_number p (old_begins p) i) st).1 in
      let there = numbers i g.0 number at in
      let is : Some g.0 ≡ x = same_Some _ _ (sym (again_gives env i g.0 there) ∙ s) in
      let kind = kind_there t l.0 l.1 ∙ ap (λ k. Some k) (sym (of.are i g.0 there ∙ same_kinds (kind_at es i) (kind_at ks t) fits_in)) in
      subst (λ (o : Operation). makes (head o) (map c (head o).operands) ≡ Some x) (same_Some _ _ l.2) (constant_makes l.0 g.0.0 g.0.1 kind ∙ ap (λ z. Some z) is)

  -- the result of a new value is of its type
  abbrev TypedAs : Header → ℕ → Type 0
  TypedAs h n = (k : ℕ) (ty : TypeTerm) → slice_get h.results k ≡ Some ty → IsOfType ty (c (Result n k))

  one_typed : (term : TypeTerm) (k : BitsKind) (x : Outcome) → kind_of term ≡ Some k → IsKind k x → IsOfBits x → IsOfType term x
  one_typed term k None e h g = tt
  one_typed term k (Some y) e h g = (e ∙ ap (λ k. Some k) (sym (h y refl)), g y refl)

  alone_typed : (n : ℕ) (term : TypeTerm) (x : Outcome) → c (Result n 0) ≡ x → IsOfType term x → (k : ℕ) (ty : TypeTerm) → slice_get (term ∷ []) k ≡ Some ty → IsOfType ty (c (Result n k))
  alone_typed n term x is h zero ty e = subst (λ ty. IsOfType ty (c (Result n 0))) (same_Some _ _ e) (subst (IsOfType term) (sym is) h)
  alone_typed n term x is h (suc k) ty e = absurd (none-some ty e)

  made_typed : (w : NewValue) (b : BoundValues Value) (o : Operation) → made_as b ts envp w ≡ Some o → (n : ℕ) (x : Outcome) → c (Result n 0) ≡ x → IsKind (kind_at ks (new_type w)) x → IsOfBits x → TypedAs (head o) n
  made_typed (new.Operation q) b o e n x is h i =
      let g = given_some (values_at (operands_of q.form) b) (λ vs. given (binding_at q.ty ts) (λ term. Some (made (name_of q.form) vs term (entries_by (predicate_of q.form) (name_of q.form))))) o e in
      let l = given_some (binding_at q.ty ts) (λ term. Some (made (name_of q.form) g.0 term (entries_by (predicate_of q.form) (name_of q.form)))) o g.2 in
      subst (λ (o : Operation). TypedAs (head o) n) (same_Some _ _ l.2) (alone_typed n l.0 x is (one_typed l.0 (kind_at ks q.ty) x (kind_there q.ty l.0 l.1) h i))
  made_typed (new.Constant j t) b o e n x is h i =
      let g = given_some (given (slice_get envp j) (λ x. x)) (λ (x : Known). given (binding_at t ts) (λ term. Some (constant term x.1))) o e in
      let l = given_some (binding_at t ts) (λ term. Some (constant term g.0.1)) o g.2 in
      subst (λ (o : Operation). TypedAs (head o) n) (same_Some _ _ l.2) (alone_typed n l.0 x is (one_typed l.0 (kind_at ks t) x (kind_there t l.0 l.1) h i))

  shows_more : (k n : ℕ) (env : List Outcome) (b b1 : BoundValues Value) (x : Outcome) → length env ≡ k → bound same_value k (Result n 0) b ≡ Some b1 → c (Result n 0) ≡ x → ShowsNew k env b → ShowsNew (k + 1) (env ++ (x ∷ [])) b1
  shows_more k n env b b1 x l e is shows j v o m s = elim (cases_eq j k) [
    | inl i ↦
        let at = (bound_holds same_value same_value_true k (Result n 0) b b1 e).0 in
        ap (slice_get (env ++ (x ∷ []))) (i ∙ sym l) ∙ push_last env x ∙ ap (λ z. Some z) (sym is ∙ ap c (one_stands k (Result n 0) v b1 at (subst (λ z. Stands z v b1) i s)))
    | inr i ↦ push_other env x j (c v) (shows j v o (omega (arith, m, i)) (bound_elsewhere same_value same_value_true k (Result n 0) b b1 e j v i s))
  ]

  pub news_run : (end k n : ℕ) (ws : List NewValue) (es : List BitsKind) (env whole : List Outcome) (b d : BoundValues Value) (os : List Operation) → run (map (new_step ks) ws) env ≡ Some whole → all_made ts envp n k ws b ≡ Some (os, d)
      → length env ≡ k → k + length ws ≡ end → length p.values ≤ k → news_are_valid p end ws ≡ true → list_all is_named ws ≡ true → OfKinds es env → AllOfBits env → news_fit ks es ws ≡ true
      → Later c n k whole → ShowsNew k env b → HasNumbers env → FitsEach c n os × ShowsNew (k + length ws) whole d × TypedEach c n os
  news_run end k n [] es env whole b d os ran all l sum low st named of bits fits_in later shows numbers =
      let s : ([], b) ≡ (os, d) = same_Some _ _ all in
      let w : env ≡ whole = same_Some _ _ ran in (
        subst (λ os. FitsEach c n os) (ap (λ (r : List Operation × BoundValues Value). r.0) s) tt,
        (λ j v o m h. subst (λ z. slice_get z j ≡ Some (c v)) w (shows j v o (no_more m) (subst (λ z. Stands j v z) (ap (λ (r : List Operation × BoundValues Value). r.1) (sym s)) h))),
        subst (λ os. TypedEach c n os) (ap (λ (r : List Operation × BoundValues Value). r.0) s) tt,
      )
    where
      no_more : {j : ℕ} → j < k + 0 → j < k
      no_more m = omega (arith, m)
  news_run end k n (w ∷ ws) es env whole b d os ran all l sum low st named of bits fits_in later shows numbers =
      let x = given_some (step_of (new_step ks w) env) (λ x. run (map (new_step ks) ws) (env ++ (x ∷ []))) whole ran in
      let g = given_some (made_as b ts envp w) (λ o. given (bound same_value k (Result n 0) b) (λ c. option_map (λ (r : List Operation × BoundValues Value). (o ∷ r.0, r.1)) (all_made ts envp (n + 1) (k + 1) ws c))) (os, d) all in
      let h = given_some (bound same_value k (Result n 0) b) (λ c. option_map (λ (r : List Operation × BoundValues Value). (g.0 ∷ r.0, r.1)) (all_made ts envp (n + 1) (k + 1) ws c)) (os, d) g.2 in
      let m = more_made g.0 (all_made ts envp (n + 1) (k + 1) ws h.0) os d h.2 in
      let parts = and_parts (new_is_valid p (end - length (w ∷ ws)) w) (news_are_valid p end ws) st in
      let names = and_parts (is_named w) (list_all is_named ws) named in
      let at : end - length (w ∷ ws) ≡ k = omega (arith, sum) in
      let grown = run_grows (map (new_step ks) ws) (env ++ (x.0 ∷ [])) whole x.2 in
      let there : slice_get whole k ≡ Some x.0 = grown.stays k x.0 (ap (slice_get (env ++ (x.0 ∷ []))) (sym l) ∙ push_last env x.0) in
      let is : c (Result n 0) ≡ x.0 = later k n x.0 there (omega arith) (omega arith) in
      let typed = and_parts (new_fits ks es w) (news_fit ks (es ++ (kind_at ks (new_type w) ∷ [])) ws) fits_in in
      let gives = made_gives k w es env b g.0 x.0 low (subst (λ z. new_is_valid p z w ≡ true) at parts.0) names.0 of typed.0 g.1 shows numbers x.1 in
      let its_kind = new_kind es env of ks w x.0 typed.0 x.1 in
      let its_bits = step_bits env bits (new_step ks w) x.0 x.1 in
      let ih =
      news_run end (k + 1) (n + 1) ws (es ++ (kind_at ks (new_type w) ∷ [])) (env ++ (x.0 ∷ [])) whole h.0 d m.0 x.2 m.1 (length_push env x.0 ∙ ap (λ n. n + 1) l) (omega (arith, sum)) (omega (arith, low)) parts.1 names.1
      (push_kinds es env (kind_at ks (new_type w)) x.0 of its_kind) (push_bits env x.0 bits its_bits) typed.1 (λ j y o e a s. later j y o e (omega (arith, a)) (omega (arith, s))) (shows_more k n env b h.0 x.0 l h.1 is shows) (λ i y e s. push_other env x.0 i (Some y) (numbers i y e s)) in (
        subst (λ os. FitsEach c n os) m.2 (gives ∙ ap (λ z. Some z) (sym is), ih.0),
        (λ j v o a s. ih.1 j v o (omega (arith, a)) s),
        subst (λ os. TypedEach c n os) m.2 (made_typed w b g.0 g.1 n x.0 is its_kind its_bits, ih.2),
      )
