-- A pattern that matches no `select` and creates no division or remainder keeps modules ready, and refines what they
-- compute.
use Rattle.std.proofs.Common.{◌≡◌, ℕ, ◌+◌, ◌-◌, ◌<◌, ◌≤◌, refl, ap, sym, ◌∙◌, subst, List, [], ◌∷◌, ◌++◌, length, map, Bool, true, false, true≢false, not, Option, Some, None, slice_get, get_or, ◌⊎◌, inl, inr, arith}
use Rattle.std.specs.Prelude.{codes, is_some, nat_lt, if◌then◌else◌}
use Rattle.std.specs.List.{list_all, range_with_len}
use Rattle.std.proofs.lemmas.Bool.{and_from, and_parts, cases_lt, le-ltb, lt-ltb}
use Rattle.std.proofs.lemmas.List.FromFn.{get_or-map-range_with_len, length-map-range_with_len}
use Rattle.std.proofs.lemmas.Option.{get_or_from_slice_get, none-some, same_Some, slice_get-get_or, slice_get_within}
use Rattle.ir_types.specs.declared.bits.BitsKind.{BitsKind}
use Rattle.ir_tree.specs.declared.value.Value.{Value}
use Rattle.ir_tree.specs.declared.value.Value.TheVariants.{Result}
use Rattle.ir_tree.specs.Tree.{head}
use Rattle.ir_tree.specs.Meaning.{Operation}
use Rattle.ir_tree_laws.specs.Members.{In}
use Rattle.ir_tree_laws.specs.Values.{has_value}
use Rattle.ir_tree_laws.proofs.Listed.{all_each}
use Rattle.ir_event.specs.Modules.{Module}
use Rattle.dialects_int.specs.declared.operations.Arithmetic.{Arithmetic}
use Rattle.dialects_int.specs.declared.operations.Arithmetic.TheVariants as op
use Rattle.dialects_int.specs.Folds.{Known, fold_of, rule_of}
use Rattle.rewriter_machine.specs.Edits.{Make}
use Rattle.patterns_laws.specs.Words.{named}
use Rattle.patterns_laws.proofs.KnownFolds.{given_some}
use Rattle.user_patterns_check.specs.Checks.{AlwaysKeeps, refines}
use Rattle.user_patterns_check.specs.Contents.{Content}
use Rattle.user_patterns_check.specs.Outcomes.{Outcome, divides, given}
use Rattle.patterns_base.specs.Looks.{is_verified}
use Rattle.patterns_base.specs.Makes.{give}
use Rattle.patterns_base.specs.Rewrites.{becomes}
use Rattle.patterns_base.specs.Lists.{Free}
use Rattle.user_patterns_data.specs.declared.pattern.Expression.{Expression}
use Rattle.user_patterns_data.specs.declared.pattern.Expression.TheVariants as form
use Rattle.user_patterns_data.specs.declared.pattern.NewValue.{NewValue}
use Rattle.user_patterns_data.specs.declared.pattern.NewValue.TheVariants as new
use Rattle.user_patterns_data.specs.Fitting.{content_with, kind_at}
use Rattle.user_patterns_data.specs.Matching.{Header, defining_op_head, known, binding_at, when}
use Rattle.user_patterns_data.specs.Names.{operands_of}
use Rattle.user_patterns_data.specs.Planning.{bound_type, new_place, old_place, outcomes, planned, planned_by, typed}
use Rattle.user_patterns_data.specs.Shapes.{PatternModel}
use Rattle.user_patterns_data.specs.WellFormed.{form_is_valid, is_new, is_type, new_ends, new_is_valid, news_are_valid}
use Rattle.user_patterns_build.specs.CanBuild.{new_type}
use Rattle.user_patterns_apply.proofs.FoundBuilt.{when_is}
use Rattle.user_patterns_apply.specs.Own.{UserPatternsAreAccepted, user_pattern_rewrite}
use Rattle.patterns_refinement.proofs.Flags.{AreUnflagged}
use Rattle.patterns_refinement.specs.Meaning.{Assignment, IsOfType, is_arithmetic, owner, makes, Obeys, breaks_by, breaks_flags, flags_of, result_kind}
use Rattle.patterns_refinement.specs.Applied.{Goes, IsFound, IsProper, kinds_matched, matched}
use Rattle.patterns_refinement.specs.Better.{kind_in}
use Rattle.user_patterns_claims.specs.Quotients.{makes_no_quotient, is_quotient}
use Rattle.patterns_refinement.specs.Keeping.{Computing, Improves, IsFed, IsReady, done_after, is_there}
use Rattle.patterns_refinement.specs.Passing.{AppliedIsFound, CheckedPassingKeep, FoundAt, PassingKeep, is_kinded_at, kinds_there, new_is_defined, pattern_op_passes, is_always_defined, passes_poison}
use Rattle.patterns_refinement.proofs.Applying.{Applies, applies}
use Rattle.patterns_refinement.proofs.Wellformed.{is_below}
use Rattle.patterns_refinement.proofs.Forms.{MakesIt, constant_there, defining_op_of, makes_is, named_is, rule_for, by_constant}
use Rattle.patterns_refinement.proofs.Giving.{Making, after_new, given_improves}
use Rattle.patterns_refinement.proofs.Going.{wellformed_parts, made_parts, planned_as, planned_there, plans_go}
use Rattle.patterns_refinement.proofs.Improved.{AreNoQuotients, new_ready, no_quotients}
use Rattle.patterns_refinement.proofs.Makings.{AllGive, AllMade, all_agree, all_at, all_bare, all_numbers, all_ready, all_results, all_risen, all_take, all_typed, still_there, with_all}
use Rattle.patterns_refinement.proofs.News.{HasNumbers, ShowsNew, extended, extended_agrees, extended_later, new_place_of, news_run}
use Rattle.patterns_refinement.proofs.OfBits.{AllOfBits}
use Rattle.patterns_refinement.proofs.OfKinds.{OfKinds}
use Rattle.patterns_refinement.proofs.Olds.{AllAre, form_places}
use Rattle.patterns_refinement.proofs.Rewritten.{AllPut, all_unflagged}
use Rattle.patterns_refinement.proofs.Settling.{typed_bits}
use Rattle.patterns_refinement.proofs.BoundValues.{Stands, ValuesStand, standing_stands, stands_standing}
use Rattle.patterns_refinement.proofs.StaysReady.{stays_kinds, stays_ready}
use Rattle.patterns_refinement.proofs.Steps.{run_grows}
use Rattle.patterns_refinement.proofs.Trees.{each_found, found_fit, types_found, value_below}
use Rattle.patterns_refinement.proofs.Origins.{computed_kind}
use Rattle.patterns_refinement.proofs.PassingMatched.{Here, Passes, any_form, any_forms, each_mapped, found_here, defining_op_kinds, kinds_pass, matched_all, numbers_of_bits, numbers_of_kinds, operands_known, starts}
use Rattle.patterns_refinement.proofs.PassingMade.{AreBuilt, IsBuilt, IsPlace, are_built, are_made, first_at, given_at_place, news_typed, old_below, placed, run_there, given_long, kinds_long}
use Rattle.std.proofs.lemmas.List.{get_or_past}
use Rattle.patterns_refinement.proofs.Beginning.{outcomes_long}

-- ---- constants break no flags
flagless : (t : Operation) (verified : Header → Bool) (v : Value) (y : Known) (h : Header) (xs : List Outcome) → known t verified v ≡ Some y → defining_op_head t verified v ≡ Some h → breaks_flags h xs ≡ false
flagless t verified v y h xs e f =
    let g = given_some (defining_op_head t verified v) (λ h. when (named (codes "arith.constant") h.name) (fold_of h.name h.properties [] h.results)) y e in
    let w = when_is (named (codes "arith.constant") g.0.name) (fold_of g.0.name g.0.properties [] g.0.results) y g.2 in
    let same : g.0 ≡ h = same_Some _ _ (sym g.1 ∙ f) in
    ap (λ r. breaks_by r (flags_of h) (result_kind h) xs)
    (ap (λ (h : Header). rule_of h.name) (sym same) ∙ ap rule_of (named_is (codes "arith.constant") g.0.name w.0) ∙ by_constant)

-- ---- a pattern without divisions creates none
divided : (o : Arithmetic) (i j : ℕ) → not (divides o) ≡ true → not (is_quotient (form.Binary o i j)) ≡ true
divided op.DivideSigned i j e = e
divided o i j e = refl

none_divided : (ws : List NewValue) → list_all new_is_defined ws ≡ true → list_all makes_no_quotient ws ≡ true
none_divided [] e = refl
none_divided (w ∷ ws) e =
    let q = and_parts (new_is_defined w) (list_all new_is_defined ws) e in
    and_from (makes_no_quotient w) (list_all makes_no_quotient ws) (one w q.0) (none_divided ws q.1)
  where
    by_form : (f : Expression) → is_always_defined f ≡ true → not (is_quotient f) ≡ true
    by_form (form.Binary o i j) e = divided o i j e
    by_form (form.Compare r i j) e = refl
    by_form (form.Select c i j) e = refl
    by_form (form.IntegerCast c i) e = refl
    by_form (form.IndexCast c i) e = refl

    one : (w : NewValue) → new_is_defined w ≡ true → makes_no_quotient w ≡ true
    one (new.Operation r) e = by_form r.form e
    one (new.Constant i t) e = refl

module _ (m : Module) (p : PatternModel) (x : ℕ) (proper : IsProper p) (ready : IsReady m) (os : List Operation) (value : Value)
    (plan : planned m.tree (is_verified m.tree) m.next p x ≡ Some (os, value)) (q : Here m p x proper ready os value plan) (kinded : is_kinded_at (map bound_type q.types) p ≡ true) where
  abbrev t : Operation
  t = m.tree

  abbrev ks : List BitsKind
  ks = map bound_type q.types

  abbrev its_kinds : List BitsKind
  its_kinds = map (λ w. kind_at (map bound_type q.types) (new_type w)) p.new

  abbrev all_kinds : Value → Option BitsKind
  all_kinds = with_all (kind_in m.tree) m.next None (map (λ k. Some k) (map (λ w. kind_at (map bound_type q.types) (new_type w)) p.new))

  pub its_made : AllMade (with_all (kind_in m.tree) m.next None (map (λ k. Some k) (map (λ w. kind_at (map bound_type q.types) (new_type w)) p.new))) os (map (λ w. kind_at (map bound_type q.types) (new_type w)) p.new)
  its_made = are_made m p x proper ready os value plan q kinded

  abbrev New_place : ℕ → Type 0
  New_place j = IsPlace m p x proper ready os value plan q kinded j

  -- a pattern has at most one match
  pub here_at : FoundAt p m x
  here_at = record { here = q.here; is_matched = q.is_matched; types = q.types; are_types = q.are_types }

  pub root_within : x < m.next
  root_within = value_below m.next t (is_below m.next t ready.wellformed.below) (Result x 0) q.root

  pub its_unflagged : AreUnflagged os
  its_unflagged = all_unflagged q.types q.parts.env m.next (new_place p) p.new q.here q.parts.last os q.parts.made

  pub simple : list_all makes_no_quotient p.new ≡ true → AreNoQuotients os
  simple none = no_quotients q.types q.parts.env m.next (new_place p) p.new q.here q.parts.last os (made_parts p proper.buildable).named none q.parts.made

  -- ---- bound values are computed, if the root is executed
  module _ (a : Assignment) (done : ℕ → Bool) (computing : Computing a done m.tree) where
    abbrev later : ℕ → Bool
    later = done_after m.next x done

    -- operands of executed operations are available
    there_pass : Passes m.tree (is_verified m.tree) any_form (λ w. is_there done w ≡ true)
    there_pass f v h s e r i w n =
        let g = defining_op_of t (is_verified t) v h e in
        let k = each_found (IsFed done) g.id t computing.fed g.here g.found in
        all_each (is_there done) h.operands (subst (λ (h : Header). list_all (is_there done) h.operands ≡ true) g.heads (k.0 (ap done k.1 ∙ ap (is_there done) (sym g.value) ∙ i))) w n

    pub there_all : done x ≡ true → (i : ℕ) (w : Value) → Stands i w q.here → is_there done w ≡ true
    there_all d = matched_all t (is_verified t) any_form (λ w. is_there done w ≡ true) there_pass p x q.here (any_forms p.old) proper.named q.is_matched d

    fine_there : (j : ℕ) (w : Value) → New_place j → j < new_place p + length p.new → Stands j w q.parts.last → done x ≡ true → is_there later w ≡ true
    fine_there j w o l s d = elim (placed m p x proper ready os value plan q kinded j w o l s) [
      | inl h ↦ still_there m.next x done w (old_below m p x proper ready os value plan q kinded j w h) (there_all d j w h.stands)
      | inr h ↦ ap (is_there later) h.is ∙ after_new m.next x done (m.next + h.number) (omega arith) ∙ d
    ]

    operands_there : (n : ℕ) (js : List ℕ) (vs : List Value) → length p.values ≤ n → n ≤ new_place p + length p.new → ValuesStand js vs q.parts.last → AllAre (is_new p n) js → done x ≡ true → list_all (is_there later) vs ≡ true
    operands_there n [] [] low high s are d = refl
    operands_there n [] (v ∷ vs) low high s are d = absurd s
    operands_there n (j ∷ js) [] low high s are d = absurd s
    operands_there n (j ∷ js) (v ∷ vs) low high s are d =
        let r = new_place_of q.types q.value_types p q.parts.env (λ v. None) n j low are.0 in
        let l = r.1 in
        and_from (is_there later v) (list_all (is_there later) vs) (fine_there j v r.0 (omega (arith, l, high)) s.0 d) (operands_there n js vs low high s.1 are.1 d)

    one_fed : (n : ℕ) (w : NewValue) (o : Operation) → length p.values ≤ n → n ≤ new_place p + length p.new → IsBuilt q.types q.parts.env q.parts.last w o → new_is_valid p n w ≡ true → done x ≡ true → list_all (is_there later) (head o).operands ≡ true
    one_fed n (new.Operation r) o low high built st d =
        subst (λ (o : Operation). list_all (is_there later) (head o).operands ≡ true) built.4
        (operands_there n (operands_of r.form) built.0 low high built.2 (form_places p (is_new p n) r.form (and_parts (is_type p r.ty) (form_is_valid p (is_new p n) r.form) st).1) d)
    one_fed n (new.Constant i v) o low high built st d = subst (λ (o : Operation). list_all (is_there later) (head o).operands ≡ true) built.4 refl

    all_fed_so : (y n : ℕ) (ws : List NewValue) (us : List Operation) → m.next ≤ y → length p.values ≤ n → n + length ws ≡ new_ends p → AreBuilt q.types q.parts.env q.parts.last ws us → news_are_valid p (new_ends p) ws ≡ true → AllPut (IsFed later) y us
    all_fed_so y n [] [] above low sum built st = tt
    all_fed_so y n [] (o ∷ us) above low sum built st = absurd built
    all_fed_so y n (w ∷ ws) [] above low sum built st = absurd built
    all_fed_so y n (w ∷ ws) (o ∷ us) above low sum built st =
        let r = and_parts (new_is_valid p (new_ends p - length (w ∷ ws)) w) (news_are_valid p (new_ends p) ws) st in
        let at : new_ends p - length (w ∷ ws) ≡ n = omega (arith, sum) in (
          (λ i. one_fed n w o low (omega (arith, sum)) built.0 (subst (λ z. new_is_valid p z w ≡ true) at r.0) (sym (after_new m.next x done y above) ∙ i)),
          all_fed_so (y + 1) (n + 1) ws us (omega (arith, above)) (omega (arith, low)) (omega (arith, sum)) built.1 r.1,
        )

    pub fed : AllPut (IsFed (done_after m.next x done)) m.next os
    fed = all_fed_so m.next (new_place p) p.new os (omega arith) (omega arith) (omega arith) (are_built m p x proper ready os value plan q kinded) (wellformed_parts p proper.wellformed).news

    pub value_there : done x ≡ true → is_there (done_after m.next x done) value ≡ true
    value_there d =
        let f = wellformed_parts p proper.wellformed in
        let r = new_place_of q.types q.value_types p q.parts.env (λ v. None) (new_ends p) p.result (omega arith) f.result in
        let l = r.1 in
        fine_there p.result value r.0 (omega (arith, l)) (standing_stands p.result value q.parts.last q.parts.result) d

    -- ---- if the root isn't executed
    nothing_given : (c : Assignment) (us : List Operation) (js : List BitsKind) → AllMade all_kinds us js → done x ≡ false → AllGive c done m.next x us js (map (λ (o : Operation). None) us)
    nothing_given c [] [] are d = tt
    nothing_given c [] (j ∷ js) are d = absurd are
    nothing_given c (o ∷ us) [] are d = absurd are
    nothing_given c (o ∷ us) (j ∷ js) are d = (
      record {
        of = λ y e. absurd (none-some y e);
        bits = λ y e. absurd (none-some y e);
        made = λ i. absurd (true≢false (sym i ∙ d));
        sure = λ i. absurd (true≢false (sym i ∙ d));
        fed = λ i. absurd (true≢false (sym i ∙ d));
      },
      nothing_given c us js are.1 d,
    )

    pub making_still : done x ≡ false → Making a m.next x done os value
    making_still d =
        let zs : List Outcome = map (λ (o : Operation). None) os in
        let c = with_all a m.next None zs in
        let at = all_at a m.next None zs in
        let give = nothing_given c os its_kinds its_made d in
        record {
          outcomes = c;
          agrees = λ w l. all_agree a m.next None zs w l;
          bare = all_bare all_kinds os its_kinds its_made;
          typed = all_typed c done m.next x all_kinds m.next os its_kinds zs its_made give at;
          ready = all_ready c done m.next x all_kinds m.next os its_kinds zs (omega arith) its_made give at;
          fed = fed;
          numbers = all_numbers all_kinds m.next os its_kinds its_made;
          better = λ i. absurd (true≢false (sym i ∙ d));
          there = value_there;
        }

    -- ---- if the root is executed, constants have their known numbers
    pub constant_is : done x ≡ true → (i : ℕ) (v : Value) (y : Known) → Stands i v q.here → known m.tree (is_verified m.tree) v ≡ Some y → a v ≡ Some y
    constant_is d i v y s e = constant_there t (is_verified t) a v y fits e
      where
        fits : (h : Header) → defining_op_head t (is_verified t) v ≡ Some h → MakesIt t (is_verified t) a v h
        fits h f arithmetic =
            let g = defining_op_of t (is_verified t) v h f in
            let is : done g.id ≡ true = ap (is_there done) (sym g.value) ∙ there_all d i v s in
            elim (subst (λ (h : Header). is_arithmetic h ≡ true → Obeys a g.id h) g.heads (found_fit a done t computing.fits g.id g.here g.found is) arithmetic) [
              | inl k ↦ subst (λ w. makes h (map a h.operands) ≡ Some (a w)) (sym g.value) k.0
              | inr b ↦ absurd (true≢false (sym b.0 ∙ flagless t (is_verified t) v y h (map a h.operands) e f))
            ]

    -- the outcomes at all places: those of the variables, and the planned numbers
    abbrev outcome_at : ℕ → Outcome
    outcome_at j = if nat_lt j (length p.values) then given (binding_at j q.here) a else get_or q.parts.env j None

    abbrev places : List Outcome
    places = map outcome_at (range_with_len 0 (new_place p))

    places_long : length places ≡ new_place p
    places_long = length-map-range_with_len outcome_at 0 (new_place p)

    at_place : (j : ℕ) → j < new_place p → slice_get places j ≡ Some (outcome_at j)
    at_place j l =
        let n = places_long in
        slice_get-get_or places j None (omega (arith, l, n)) ∙ ap (λ z. Some z) (get_or-map-range_with_len outcome_at 0 (new_place p) j j None l (omega arith))

    place_is : (j : ℕ) (o : Outcome) → slice_get places j ≡ Some o → (j < new_place p) × (outcome_at j ≡ o)
    place_is j o e =
        let l = slice_get_within places j o e in
        let n = places_long in
        let w : j < new_place p = omega (arith, l, n) in
        (w, same_Some _ _ (sym (at_place j w) ∙ e))

    at_variable : (j : ℕ) → j < length p.values → outcome_at j ≡ given (binding_at j q.here) a
    at_variable j l = ap (λ b. if b then given (binding_at j q.here) a else get_or q.parts.env j None) (lt-ltb j (length p.values) l)

    at_number : (j : ℕ) → length p.values ≤ j → outcome_at j ≡ get_or q.parts.env j None
    at_number j l = ap (λ b. if b then given (binding_at j q.here) a else get_or q.parts.env j None) (le-ltb j (length p.values) l)

    variable_is : (j : ℕ) (v : Value) → j < length p.values → Stands j v q.here → slice_get places j ≡ Some (a v)
    variable_is j v l s = at_place j (omega (arith, l)) ∙ ap (λ z. Some z) (at_variable j l ∙ ap (λ o. given o a) (stands_standing j v q.here s))

    -- a known outcome at a place is that of a variable or a number
    record IsOfVariable (j : ℕ) (y : Known) : Type 0 where
      pub its_value : Value
      pub within : j < length p.values
      pub stands : Stands j its_value q.here
      pub is : a its_value ≡ Some y

    record IsOfNumber (j : ℕ) (y : Known) : Type 0 where
      pub within : j < old_place p
      pub is : slice_get q.parts.env j ≡ Some (Some y)

    numbers_long : length q.parts.env ≡ old_place p
    numbers_long =
        let n = (numbers_of_kinds m p x proper ready os value plan q).long in
        let k = given_long ks p in
        omega (arith, n, k)

    known_at_place : (j : ℕ) (y : Known) → slice_get places j ≡ Some (Some y) → IsOfVariable j y ⊎ IsOfNumber j y
    known_at_place j y e =
        let w = place_is j (Some y) e in
        elim (cases_lt j (length p.values)) [
          | inl l ↦
              let g = given_some (binding_at j q.here) a y (sym (at_variable j l) ∙ w.1) in
              inl (record { its_value = g.0; within = l; stands = standing_stands j g.0 q.here g.1; is = g.2 })
          | inr l ↦ inr (number j y (sym (at_number j l) ∙ w.1))
        ]
      where
        number : (j : ℕ) (y : Known) → get_or q.parts.env j None ≡ Some y → IsOfNumber j y
        number j y e = elim (cases_lt j (length q.parts.env)) [
          | inl l ↦ record { within = (let n = numbers_long in omega (arith, l, n)); is = slice_get-get_or q.parts.env j None l ∙ ap (λ z. Some z) e }
          | inr l ↦ absurd (none-some y (sym (get_or_past q.parts.env j None l) ∙ e))
        ]

    places_of_kinds : OfKinds (kinds_matched (map bound_type q.types) p) places
    places_of_kinds = record {
      long = kinds_long ks p ∙ sym places_long;
      are = λ j y e. elim (known_at_place j y e) [
        | inl h ↦
            let is = q.variables j h.its_value h.within h.stands in
            let typed = subst (IsOfType is.term) h.is (types_found a t computing.typed h.its_value is.term is.of_value) in
            same_Some _ _ (sym typed.0 ∙ is.of) ∙ sym (first_at ks p j h.within)
        | inr h ↦ (numbers_of_kinds m p x proper ready os value plan q).are j y h.is ∙ sym (given_at_place ks p j h.within)
      ];
    }

    places_of_bits : AllOfBits places
    places_of_bits j y e = elim (known_at_place j y e) [
      | inl h ↦ let is = q.variables j h.its_value h.within h.stands in typed_bits is.term (a h.its_value) (types_found a t computing.typed h.its_value is.term is.of_value) y h.is
      | inr h ↦ numbers_of_bits m p x proper ready os value plan q j y h.is
    ]

    -- known constants have their planned numbers
    planned_constant : done x ≡ true → (i : ℕ) (y : Known) → i < length p.values → slice_get q.parts.env i ≡ Some (Some y) → slice_get places i ≡ Some (Some y)
    planned_constant d i y l e =
        let start = outcomes t (is_verified t) m.next p 0 p.values q.here in
        let g = run_grows (Content.given (content_with ks p)) start q.parts.env q.parts.numbers in
        let long = outcomes_long t (is_verified t) (λ v. None) q.here q.types m.next p 0 p.values in
        let at = slice_get-get_or start i None (omega (arith, l, long)) in
        let same : get_or start i None ≡ Some y = same_Some _ _ (sym (g.stays i (get_or start i None) at) ∙ e) in
        let s = starts m p x proper ready os value plan q i y (at ∙ ap (λ z. Some z) same) in
        variable_is i s.its_value l s.stands ∙ ap (λ z. Some z) (constant_is d i s.its_value y s.stands s.is_known)

    have_numbers : done x ≡ true → HasNumbers q.types q.value_types p q.parts.env (λ v. None) places
    have_numbers d i y fixed e = elim (cases_lt i (length p.values)) [
      | inl l ↦ planned_constant d i y l e
      | inr l ↦
          let w = slice_get_within q.parts.env i (Some y) e in
          let n = numbers_long in
          at_place i (omega (arith, w, n)) ∙ ap (λ z. Some z) (at_number i l ∙ get_or_from_slice_get q.parts.env i (Some y) None e)
    ]

    making_poison : list_all new_is_defined p.new ≡ true → done x ≡ true → a (Result x 0) ≡ None → Making a m.next x done os value
    making_poison defined d none =
        let f = wellformed_parts p proper.wellformed in
        let r = run_there m p x proper ready os value plan q kinded defined places places_of_kinds (have_numbers d) in
        let c = extended a m.next (new_place p) r.0 in
        let shows : ShowsNew q.types q.value_types p q.parts.env c (new_place p) places q.here =
        (λ j v o l s. elim o [
          | inl i ↦ variable_is j v i s ∙ ap (λ z. Some z) (sym (extended_agrees a m.next (new_place p) r.0 v (old_below m p x proper ready os value plan q kinded j v (record { within = i; stands = s }))))
          | inr i ↦ absurd (omega (arith, i, l))
        ]) in
        let n =
        news_run q.types q.value_types p q.parts.env c (new_ends p) (new_place p) m.next p.new (kinds_matched ks p) places r.0 q.here q.parts.last os r.1 q.parts.made places_long (omega arith) (omega arith) f.news (made_parts p proper.buildable).named
        places_of_kinds places_of_bits (news_typed ks (kinds_matched ks p) p.new kinded) (extended_later a m.next (new_place p) r.0) shows (have_numbers d) in
        record {
          outcomes = c;
          agrees = extended_agrees a m.next (new_place p) r.0;
          bare = all_bare all_kinds os its_kinds its_made;
          typed = n.2;
          ready = new_ready c later m.next os n.0 (simple (none_divided p.new defined)) its_unflagged;
          fed = fed;
          numbers = all_numbers all_kinds m.next os its_kinds its_made;
          better = λ i. ap (λ o. refines o (c value)) (extended_agrees a m.next (new_place p) r.0 (Result x 0) root_within ∙ none);
          there = value_there;
        }

    -- ---- if the root's outcome is a number, so are the outcomes of all bound values
    record IsKnown (w : Value) : Type 0 where
      pub there : is_there done w ≡ true
      pub known : is_some (a w) ≡ true
      pub kind : is_some (kind_in m.tree w) ≡ true

    known_pass : (f : Expression) (v : Value) (h : Header) → passes_poison f ≡ true → defining_op_head m.tree (is_verified m.tree) v ≡ Some h → rule_of h.name ≡ Some (rule_for f) → IsKnown v → (w : Value) → In w h.operands → is_some (a w) ≡ true
    known_pass f v h s e r i w n =
        let g = defining_op_of t (is_verified t) v h e in
        let k = defining_op_kinds m ready v h e f r i.kind in
        let d = ap (is_there done) (sym g.value) ∙ i.there in
        let known = ap (λ v. is_some (a v)) (sym g.value) ∙ i.known in
        elim (subst (λ (h : Header). is_arithmetic h ≡ true → Obeys a g.id h) g.heads (found_fit a done t computing.fits g.id g.here g.found d) k.arithmetic) [
          | inl z ↦ each_mapped a is_some h.operands (operands_known f h k.kind (map a h.operands) (a (Result g.id 0)) s known (sym (makes_is h (map a h.operands) (rule_for f) k.kind r k.is) ∙ z.0)) w n
          | inr b ↦ absurd (true≢false (sym known ∙ ap is_some b.2))
        ]

    known_all : list_all pattern_op_passes p.old ≡ true → done x ≡ true → is_some (a (Result x 0)) ≡ true → (i : ℕ) (w : Value) → Stands i w q.here → IsKnown w
    known_all passing d k =
        matched_all t (is_verified t) passes_poison IsKnown (λ f v h s e r i w n. record {
          there = there_pass f v h refl e r i.there w n;
          known = known_pass f v h s e r i w n;
          kind = kinds_pass m p x proper ready os value plan f v h refl e r i.kind w n;
        })
        p x q.here passing proper.named q.is_matched (record { there = d; known = k; kind = computed_kind x t q.computed })

    -- the pattern matches there
    is_found : list_all pattern_op_passes p.old ≡ true → done x ≡ true → is_some (a (Result x 0)) ≡ true → IsFound m.tree (is_verified m.tree) m.next p x a done
    is_found passing d k = record {
      here = q.here;
      is_matched = q.is_matched;
      types = q.types;
      are_types = q.are_types;
      of_kinds = q.value_types;
      are_done = λ i v h s e.
          let g = defining_op_of t (is_verified t) v h e in
          ap (λ v. done (owner v)) g.value ∙ ap (is_there done) (sym g.value) ∙ (known_all passing d k i v (standing_stands i v q.here s)).there;
      are_unbroken = λ i v h s e f. (known_all passing d k i v (standing_stands i v q.here s)).known;
      variables = λ i v l s. (known_all passing d k i v (standing_stands i v q.here s)).known;
    }

    module _ (passing : list_all pattern_op_passes p.old ≡ true) (defined : list_all new_is_defined p.new ≡ true) (keeps : AlwaysKeeps (content_with (map bound_type q.types) p)) where
      goes_there : done x ≡ true → is_some (a (Result x 0)) ≡ true → Goes m.tree (is_verified m.tree) m.next p x a done os value
      unfolding is_found
      goes_there d k =
          plans_go t (is_verified t) m.next p x a done proper (record { below = is_below m.next t ready.wellformed.below; fits = computing.fits; typed = computing.typed }) (is_found passing d k)
          (news_typed ks (kinds_matched ks p) p.new kinded) keeps os value plan

      making_known : done x ≡ true → is_some (a (Result x 0)) ≡ true → Making a m.next x done os value
      making_known d k =
          let g = goes_there d k in
          record {
            outcomes = g.after;
            agrees = g.agrees;
            bare = all_bare all_kinds os its_kinds its_made;
            typed = g.typed;
            ready = new_ready g.after later m.next os g.fits (simple (none_divided p.new defined)) its_unflagged;
            fed = fed;
            numbers = all_numbers all_kinds m.next os its_kinds its_made;
            better = λ i. subst (λ o. refines o (g.after value) ≡ true) (sym (g.agrees (Result x 0) root_within)) g.refined;
            there = value_there;
          }

      pub making : Making a m.next x done os value
      making = go (done x) refl
        where
          by_root : (o : Outcome) → a (Result x 0) ≡ o → done x ≡ true → Making a m.next x done os value
          by_root None e d = making_poison defined d e
          by_root (Some y) e d = making_known d (ap is_some e)

          go : (b : Bool) → done x ≡ b → Making a m.next x done os value
          go true e = by_root (a (Result x 0)) refl e
          go false e = making_still e

-- ---- put together
module _ (accepted : UserPatternsAreAccepted) (p : PatternModel) (proper : IsProper p) (m n : Module) (x : ℕ) (ready : IsReady m) (rewrites : user_pattern_rewrite p m x ≡ becomes n) where
  -- a pattern at an operation of a ready module
  pub record Site : Type 0 where
    pub applied : Applies p m n x
    pub here : Here m p x proper ready applied.made applied.value applied.plan
    pub free : Free (map (λ o. Make applied.insertion o) applied.made ++ give x applied.value) m

  pub site_of : Site
  site_of =
      let r = applies p m n x rewrites in
      record { applied = r; here = found_here m p x proper ready r.made r.value r.plan; free = accepted p m x ready.wellformed _ n r.edits r.becomes_it }

  module _ (s : Site) (kinded : is_kinded_at (map bound_type s.here.types) p ≡ true) where
    pub passing_ready : IsReady n
    passing_ready =
        let r = s.applied in
        let q = s.here in
        let ks = map (λ w. kind_at (map bound_type q.types) (new_type w)) p.new in
        let f = with_all (kind_in m.tree) m.next None (map (λ k. Some k) ks) in
        let are = are_made m p x proper ready r.made r.value r.plan q kinded in
        let at = all_at (kind_in m.tree) m.next None (map (λ k. Some k) ks) in
        stays_ready m n x r.insertion r.made r.value ready s.free r.module_is f (λ w l. all_agree (kind_in m.tree) m.next None (map (λ k. Some k) ks) w l)
        (all_bare f r.made ks are) (record { results = all_results f m.next r.made ks are at; take = all_take f m.next r.made ks are }) (all_risen f m.next r.made ks are)

    -- the kinds of the module's values
    pub passing_kinds : (v : Value) → has_value v n.tree ≡ true → kind_in n.tree v ≡ with_all (kind_in m.tree) m.next None (map (λ k. Some k) (map (λ w. kind_at (map bound_type s.here.types) (new_type w)) p.new)) v
    passing_kinds v e =
        let r = s.applied in
        let q = s.here in
        let ks = map (λ w. kind_at (map bound_type q.types) (new_type w)) p.new in
        let f = with_all (kind_in m.tree) m.next None (map (λ k. Some k) ks) in
        let are = are_made m p x proper ready r.made r.value r.plan q kinded in
        let at = all_at (kind_in m.tree) m.next None (map (λ k. Some k) ks) in
        stays_kinds m n x r.insertion r.made r.value ready s.free r.module_is f (λ w l. all_agree (kind_in m.tree) m.next None (map (λ k. Some k) ks) w l)
        (all_bare f r.made ks are) (record { results = all_results f m.next r.made ks are at; take = all_take f m.next r.made ks are }) (all_risen f m.next r.made ks are) v e

    -- outcomes of the new operations are outcomes of the module
    pub making_improves : (a : Assignment) (done : ℕ → Bool) → Computing a done m.tree → Making a m.next x done s.applied.made s.applied.value → Improves a done m (done_after m.next x done) n.tree
    making_improves a done computing making =
        let r = s.applied in
        given_improves m n x a done r.insertion r.made r.value ready.wellformed (root_within m p x proper ready r.made r.value r.plan s.here kinded) s.here.computed computing passing_ready.kinded making s.free r.module_is

    pub passing_computing : list_all pattern_op_passes p.old ≡ true → list_all new_is_defined p.new ≡ true → AlwaysKeeps (content_with (map bound_type s.here.types) p) → (a : Assignment) (done : ℕ → Bool) → Computing a done m.tree → Improves a done m (done_after m.next x done) n.tree
    passing_computing passing defined keeps a done computing =
        let r = s.applied in
        making_improves a done computing (making m p x proper ready r.made r.value r.plan s.here kinded a done computing passing defined keeps)

-- ---- the laws
pub passing_keep : UserPatternsAreAccepted → PassingKeep
passing_keep accepted p m n x passing proper ready e keeps =
    let t = and_parts (list_all pattern_op_passes p.old) (list_all new_is_defined p.new) passing in
    let s = site_of accepted p proper m n x ready e in
    let at : FoundAt p m x = record { here = s.here.here; is_matched = s.here.is_matched; types = s.here.types; are_types = s.here.are_types } in
    let k = keeps at in
    (passing_ready accepted p proper m n x ready e s k.0, passing_computing accepted p proper m n x ready e s k.0 t.0 t.1 k.1)

pub checked_passing_keep : UserPatternsAreAccepted → CheckedPassingKeep
checked_passing_keep accepted p m n x passing proper ready e most holds within =
    passing_keep accepted p m n x passing proper ready e
    (λ at. let w = within at in (w.0, subst AlwaysKeeps (sym w.1.2) (holds.0 w.1.0 w.1.1)))

-- a pattern that is applied has exactly one match
pub one_way : (p : PatternModel) (m : Module) (x : ℕ) (at other : FoundAt p m x) → kinds_there p m x at ≡ kinds_there p m x other
one_way p m x at other =
    let here : at.here ≡ other.here = same_Some _ _ (sym at.is_matched ∙ other.is_matched) in
    ap (map bound_type) (same_Some _ _ (sym at.are_types ∙ ap (typed m.tree (is_verified m.tree) m.next p) here ∙ other.are_types))

pub applied_is_found : AppliedIsFound
applied_is_found p m n x e =
    let r = applies p m n x e in
    let s = given_some (matched m.tree (is_verified m.tree) p x) (λ c. given (typed m.tree (is_verified m.tree) m.next p c) (planned_by m.tree (is_verified m.tree) m.next p c)) (r.made, r.value) (sym (planned_as m.tree (is_verified m.tree) m.next p x) ∙ r.plan) in
    let t = given_some (typed m.tree (is_verified m.tree) m.next p s.0) (planned_by m.tree (is_verified m.tree) m.next p s.0) (r.made, r.value) s.2 in
    let at : FoundAt p m x = record { here = s.0; is_matched = s.1; types = t.0; are_types = t.1 } in
    (at, (planned_there m.tree (is_verified m.tree) m.next p x s.0 t.0 r.made r.value s.1 t.1 r.plan).widths, (λ other. one_way p m x other at))
