-- The left side of a semantic analysis: its types are those of variables, literals and operations, and it adds at most
-- one constant for each constant in the text that isn't the first use of a name.
use Rattle.std.proofs.Common.{◌≡◌, ℕ, zero, suc, ◌+◌, ◌<◌, ◌≤◌, Bool, true, false, true≢false, eqb, eqb-true, if◌then◌else◌, List, [], ◌∷◌, ◌++◌, length, Option, Some, None, Ok, Err, refl, sym, ap, subst, ◌∙◌, ◌⊎◌, inl, inr, arith, slice_get}
use Rattle.std.specs.Prelude.{is_some, nat_lt}
use Rattle.std.specs.List.{AllByRecursion, list_all, list_any}
use Rattle.std.proofs.lemmas.Bool.{and_from, and_parts, or_cases}
use Rattle.std.proofs.lemmas.Option.{none-some, same_Some}
use Rattle.std.proofs.lemmas.Slice.Eq.{bytes_eq-Decides}
use Rattle.ir_text_tokens.specs.declared.refusal.TextRefusal.TheVariants.{TooMany}
use Rattle.ir_types.specs.declared.bits.BitsKind.TheVariants as bits
use Rattle.user_patterns_text.specs.Grammar.{most}
use Rattle.user_patterns_text.specs.Parts.{Part, Placed, operation_part, value_part, literal_part, name_part, function_part, condition_part, type_part, end_part}
use Rattle.user_patterns_text.specs.Refusing.{Outcome, ◌>>=◌, refused}
use Rattle.user_patterns_data.specs.declared.pattern.PatternType.{PatternType}
use Rattle.user_patterns_data.specs.declared.pattern.PatternType.TheVariants as ty
use Rattle.user_patterns_data.specs.declared.pattern.Expression.{Expression}
use Rattle.user_patterns_data.specs.declared.pattern.PatternOp.{PatternOp}
use Rattle.user_patterns_data.specs.declared.pattern.Literal.{Literal}
use Rattle.user_patterns_data.specs.declared.pattern.ExtraConstant.{ExtraConstant}
use Rattle.user_patterns_data.specs.declared.pattern.ExtraConstant.TheVariants as extra
use Rattle.user_patterns_data.specs.declared.pattern.ConstantExpression.{ConstantExpression}
use Rattle.user_patterns_data.specs.declared.pattern.NewValue.{NewValue}
use Rattle.user_patterns_build.specs.CanBuild.{has_name}
use Rattle.user_patterns_sema_base.specs.declared.names.Count.TheVariants as count
use Rattle.user_patterns_sema_base.specs.Names.{is_variable, place_from, place_of, taken, weight, with_part, with_variable}
use Rattle.user_patterns_sema_base.specs.Types.{and_variable, kind_of}
use Rattle.user_patterns_sema_base.specs.Views.{Variable}
use Rattle.user_patterns_sema_base.specs.Words.{is_truth, operation_named, truth_named}
use Rattle.user_patterns_sema.specs.declared.state.RequiredType.{RequiredType}
use Rattle.user_patterns_sema.specs.declared.state.TermRef.{TermRef}
use Rattle.user_patterns_sema.specs.Sema.{Places, Sema, State, begun, closed_at, count_constants, entry, gathered, headroom, is_bare, literal_with, next_type, old_constant, old_constant_of, old_literal, old_name_from, old_truth, old_word_from, operation_at, requested_predicate, shaped, term_at, trailing, typed, typed_constant, typed_entry, typed_operation, unite_with, value_at, value_from, visited_from, with_pattern_op, with_type}
use Rattle.patterns_refinement.proofs.SemaSteps.{At, Holds, Parts, Walk, at_either, at_end, at_more, gathered_holds, holds_more, holds_then, one_longer}
use Rattle.patterns_refinement.proofs.SemaTypes.{AllWide, Begun, Covered, Grown, Rest, Same, Sound, Typed, covered_grown, grown_itself, grown_more, grown_through, rest_of, sound_unified, typed_holds, unite_with_holds, wide_at, wide_more}
use Rattle.patterns_refinement.proofs.SemaNumbers.{place_within, weights}
use Rattle.patterns_refinement.proofs.SemaOperands.{FormStep, FormTyped, named_extends, shaped_holds}

-- ---- names on the left
-- the variables after a part: the same, or one more
abbrev Next : Bool → List ℕ → List Variable → List Variable → Type 0
Next t name vs ws = ((ws ≡ vs) × ((i : ℕ) × (place_of t name vs ≡ Some i))) ⊎ ((ws ≡ vs ++ ((t, name) ∷ [])) × (place_of t name vs ≡ None))

variable_holds : (at : ℕ) (t : Bool) (name : List ℕ) (vs : List Variable) → Holds (Next t name vs) (with_variable at t name vs)
variable_holds at t name vs = go (place_of t name vs) refl
  where
    if_few : (s : Bool) → place_of t name vs ≡ None → Holds (Next t name vs) (if s then Ok (vs ++ ((t, name) ∷ [])) else refused TooMany at)
    if_few true e = inr (refl, e)
    if_few false e = tt

    go : (o : Option ℕ) → place_of t name vs ≡ o → Holds (Next t name vs) (if is_some o then Ok vs else if nat_lt (length vs) most then Ok (vs ++ ((t, name) ∷ [])) else refused TooMany at)
    go (Some i) e = inl (refl, (i, e))
    go None e = if_few (nat_lt (length vs) most) e

constants_more : (vs : List Variable) (v : Variable) → count_constants (vs ++ (v ∷ [])) ≡ count_constants vs + count_constants (v ∷ [])
constants_more [] v = sym (no_more (count_constants (v ∷ [])))
  where
    no_more : (n : ℕ) → 0 + n ≡ n
    no_more n = omega arith
constants_more ((true, name) ∷ vs) v = constants_more vs v
constants_more ((false, name) ∷ vs) v = ap (λ n. 1 + n) (constants_more vs v) ∙ same (count_constants vs) (count_constants (v ∷ []))
  where
    same : (m n : ℕ) → 1 + (m + n) ≡ (1 + m) + n
    same m n = omega arith

-- the variables that a part adds: constants at most as many as the part's weight
record Taken (vs : List Variable) (p : Placed) (ws : List Variable) : Type 0 where
  pub rest : List Variable
  pub is : ws ≡ vs ++ rest
  pub counted : count_constants ws ≤ count_constants vs + weight count.Constants p.1

none_more : {X : Type 0} (xs : List X) → xs ++ [] ≡ xs
none_more [] = refl
none_more (x ∷ xs) = ap (λ ys. x ∷ ys) (none_more xs)

part_holds : (vs : List Variable) (p : Placed) → Holds (Taken vs p) (with_part vs p)
part_holds vs p = by p
  where
    same : (p : Placed) → Taken vs p vs
    same p = record { rest = []; is = sym (none_more vs); counted = omega arith }

    more : (p : Placed) (t : Bool) (name : List ℕ) (ws : List Variable) → count_constants ((t, name) ∷ []) ≤ weight count.Constants p.1 → Next t name vs ws → Taken vs p ws
    more p t name ws le (inl n) = subst (Taken vs p) (sym n.0) (same p)
    more p t name ws le (inr n) = record {
      rest = (t, name) ∷ [];
      is = n.0;
      counted = let l = ap count_constants n.0 in let m = constants_more vs (t, name) in omega (arith, l, m, le);
    }

    by_name : (at : ℕ) (name : List ℕ) (s : Bool) → Holds (Taken vs (at, name_part name)) (if s then Ok vs else with_variable at false name vs)
    by_name at name true = same (at, name_part name)
    by_name at name false = holds_more (Next false name vs) (Taken vs (at, name_part name)) (with_variable at false name vs) (variable_holds at false name vs) (λ ws n. more (at, name_part name) false name ws (omega arith) n)

    by : (p : Placed) → Holds (Taken vs p) (with_part vs p)
    by (at, value_part name) = holds_more (Next true name vs) (Taken vs (at, value_part name)) (with_variable at true name vs) (variable_holds at true name vs) (λ ws n. more (at, value_part name) true name ws (omega arith) n)
    by (at, name_part name) = by_name at name (is_truth name)
    by (at, operation_part name asks) = same (at, operation_part name asks)
    by (at, literal_part negative magnitude) = same (at, literal_part negative magnitude)
    by (at, function_part name) = same (at, function_part name)
    by (at, condition_part name) = same (at, condition_part name)
    by (at, type_part name) = same (at, type_part name)
    by (at, end_part) = same (at, end_part)

-- the variables of parts
pub record AllTaken (vs : List Variable) (ps : Parts) (ws : List Variable) : Type 0 where
  pub rest : List Variable
  pub is : ws ≡ vs ++ rest
  pub counted : count_constants ws ≤ count_constants vs + weights count.Constants ps

append_assoc : {X : Type 0} (xs ys zs : List X) → (xs ++ ys) ++ zs ≡ xs ++ (ys ++ zs)
append_assoc [] ys zs = refl
append_assoc (x ∷ xs) ys zs = ap (λ ws. x ∷ ws) (append_assoc xs ys zs)

pub taken_holds : (ps : Parts) (vs : List Variable) → Holds (AllTaken vs ps) (taken vs ps)
unfolding taken
taken_holds [] vs = record { rest = []; is = sym (none_more vs); counted = omega arith }
taken_holds (p ∷ ps) vs =
    holds_then (Taken vs p) (AllTaken vs (p ∷ ps)) (with_part vs p) (λ more. taken more ps) (part_holds vs p)
    (λ us a.
    holds_more (AllTaken us ps) (AllTaken vs (p ∷ ps)) (taken us ps) (taken_holds ps us)
    (λ ws b. record {
      rest = a.rest ++ b.rest;
      is = b.is ∙ ap (λ us. us ++ b.rest) a.is ∙ append_assoc vs a.rest b.rest;
      counted = omega (arith, a.counted, b.counted);
    }))

-- ---- places of names
pub place_more : (k : ℕ) (t : Bool) (name : List ℕ) (vs ws : List Variable) (i : ℕ) → place_from k t name vs ≡ Some i → place_from k t name (vs ++ ws) ≡ Some i
unfolding place_from
place_more k t name [] ws i e = absurd (none-some i e)
place_more k t name (v ∷ vs) ws i e = go (λ e. place_more (k + 1) t name vs ws i e) (is_variable t name v) e
  where
    go : (place_from (k + 1) t name vs ≡ Some i → place_from (k + 1) t name (vs ++ ws) ≡ Some i) → (s : Bool) → (if s then Some k else place_from (k + 1) t name vs) ≡ Some i → (if s then Some k else place_from (k + 1) t name (vs ++ ws)) ≡ Some i
    go more true e = e
    go more false e = more e

place_new : (k : ℕ) (name : List ℕ) (vs : List Variable) → place_from k false name vs ≡ None → place_from k false name (vs ++ ((false, name) ∷ [])) ≡ Some (k + length vs)
unfolding place_from
place_new k name [] e = ap (λ (s : Bool). if s then Some k else None) ((bytes_eq-Decides name name).1 refl) ∙ ap (λ z. Some z) (same k)
  where
    same : (k : ℕ) → k ≡ k + 0
    same k = omega arith
place_new k name (v ∷ vs) e = go (λ e. place_new (k + 1) name vs e) (is_variable false name v) e
  where
    same : (k n : ℕ) → k + 1 + n ≡ k + suc n
    same k n = omega arith

    go : (place_from (k + 1) false name vs ≡ None → place_from (k + 1) false name (vs ++ ((false, name) ∷ [])) ≡ Some (k + 1 + length vs)) → (s : Bool) → (if s then Some k else place_from (k + 1) false name vs) ≡ None → (if s then Some k else place_from (k + 1) false name (vs ++ ((false, name) ∷ []))) ≡ Some (k + suc (length vs))
    go more true e = absurd (none-some k (sym e))
    go more false e = more e ∙ ap (λ z. Some z) (same k (length vs))

-- ---- the state on the left
-- a recorded type is that of a variable, of a literal or of an operation on the left
abbrev pub Justified : ℕ → Rest → ℕ → Type 0
Justified n r j = (j < n) ⊎ (((l : Literal) × At r.extra (extra.Literal l) × (l.ty ≡ j)) ⊎ ((o : PatternOp) × At r.old o × (o.ty ≡ j)))

justified_more : (n : ℕ) (r u : Rest) → ((x : ExtraConstant) → At r.extra x → At u.extra x) → ((o : PatternOp) → At r.old o → At u.old o) → (j : ℕ) → Justified n r j → Justified n u j
justified_more n r u ex ol j (inl l) = inl l
justified_more n r u ex ol j (inr (inl l)) = inr (inl (l.0, ex (extra.Literal l.0) l.1, l.2))
justified_more n r u ex ol j (inr (inr o)) = inr (inr (o.0, ol o.0 o.1, o.2))

-- the variables before the remaining parts; the used constants are among them, and all constants among them are used
pub record Names (b : Places) (ps : Parts) (f : Sema) : Type 0 where
  pub before : List Variable
  pub all : taken before ps ≡ Ok b.variables
  pub below : (i : ℕ) → At f.visited i → i < length before
  pub counted : count_constants before ≤ length f.visited

pub record OldGood (b : Places) (ps : Parts) (f : Sema) : Type 0 where
  pub sound : Sound (length b.variables) f
  pub named : list_all (λ (o : PatternOp). has_name o.form) f.old ≡ true
  pub names : Names b ps f

-- the part of the state that the left side doesn't change
pub record Right : Type 0 where
  pub given : List ConstantExpression
  pub new : List NewValue
  pub new_types : List RequiredType

abbrev pub right_of : Rest → Right
right_of r = record { given = r.given; new = r.new; new_types = r.new_types }

pub record OldMoved (b : Places) (f h : Sema) : Type 0 where
  pub grown : Grown f.value_types h.value_types
  pub begins : (j : ℕ) → At f.old_types j → At h.old_types j
  pub just : (j : ℕ) → At h.old_types j → At f.old_types j ⊎ Justified (length b.variables) (rest_of h) j
  pub extra : (x : ExtraConstant) → At f.extra x → At h.extra x
  pub old : (o : PatternOp) → At f.old o → At h.old o
  pub right : right_of (rest_of h) ≡ right_of (rest_of f)

abbrev pub OldStep : Places → Parts → Sema → Parts → Sema → Type 0
OldStep b ps f qs h = OldMoved b f h × (length h.extra + (length h.visited + weights count.Constants qs) ≤ length f.extra + (length f.visited + weights count.Constants ps))

moved_through : (b : Places) (f g h : Sema) → OldMoved b f g → OldMoved b g h → OldMoved b f h
moved_through b f g h x y = record {
  grown = grown_through f.value_types g.value_types h.value_types x.grown y.grown;
  begins = λ j i. y.begins j (x.begins j i);
  just = λ j i. elim (y.just j i) [
    | inl u ↦ elim (x.just j u) [
      | inl v ↦ inl v
      | inr v ↦ inr (justified_more (length b.variables) (rest_of g) (rest_of h) y.extra y.old j v)
    ]
    | inr u ↦ inr u
  ];
  extra = λ z i. y.extra z (x.extra z i);
  old = λ o i. y.old o (x.old o i);
  right = y.right ∙ x.right;
}

moved_still : (b : Places) (f : Sema) → OldMoved b f f
moved_still b f = record { grown = grown_itself f.value_types; begins = λ j i. i; just = λ j i. inl i; extra = λ x i. i; old = λ o i. i; right = refl }

-- what was recorded is still recorded
pub begun_moved : (b : Places) (f h : Sema) → OldMoved b f h → (j : ℕ) → Begun (length b.variables) (rest_of f) j → Begun (length b.variables) (rest_of h) j
begun_moved b f h x j (inl l) = inl l
begun_moved b f h x j (inr (inl i)) = inr (inl (x.begins j i))
begun_moved b f h x j (inr (inr t)) = inr (inr (t.0, subst (λ (r : Right). At r.new_types t.0) (sym x.right) t.1, t.2))

-- a step that changes types alone
moved_rest : (b : Places) (f h : Sema) → Grown f.value_types h.value_types → rest_of h ≡ rest_of f → OldMoved b f h
moved_rest b f h g e = record {
  grown = g;
  begins = λ j i. subst (λ (r : Rest). At r.old_types j) (sym e) i;
  just = λ j i. inl (subst (λ (r : Rest). At r.old_types j) e i);
  extra = λ x i. subst (λ (r : Rest). At r.extra x) (sym e) i;
  old = λ o i. subst (λ (r : Rest). At r.old o) (sym e) i;
  right = ap right_of e;
}

names_rest : (b : Places) (ps : Parts) (f h : Sema) → rest_of h ≡ rest_of f → Names b ps f → Names b ps h
names_rest b ps f h e n = record {
  before = n.before;
  all = n.all;
  below = λ i a. n.below i (subst (λ (r : Rest). At r.visited i) e a);
  counted = subst (λ (r : Rest). count_constants n.before ≤ length r.visited) (sym e) n.counted;
}

module _ (b : Places) where
  abbrev n : ℕ
  n = length b.variables

  -- ---- a part that names no constant
  same_next : (at : ℕ) (p : Part) (ps : Parts) (f : Sema) (vs : List Variable) → taken vs ((at, p) ∷ ps) ≡ Ok b.variables → with_part vs (at, p) ≡ Ok vs → taken vs ps ≡ Ok b.variables
  unfolding taken
  same_next at p ps f vs e i = sym (ap (λ o. o >>= λ more. taken more ps) i) ∙ e

  names_kept : (at : ℕ) (p : Part) (ps : Parts) (f : Sema) → ((vs : List Variable) → with_part vs (at, p) ≡ Ok vs) → Names b ((at, p) ∷ ps) f → Names b ps f
  names_kept at p ps f same m = record { before = m.before; all = same_next at p ps f m.before m.all (same m.before); below = m.below; counted = m.counted }

  record Later (before : List Variable) (p : Placed) (ps : Parts) : Type 0 where
    pub after : List Variable
    pub is : with_part before p ≡ Ok after
    pub all : taken after ps ≡ Ok b.variables

  later : (p : Placed) (ps : Parts) (vs : List Variable) → taken vs (p ∷ ps) ≡ Ok b.variables → Later vs p ps
  unfolding taken
  later p ps vs e = go (with_part vs p) refl e
    where
      go : (o : Outcome (List Variable)) → with_part vs p ≡ o → (o >>= λ more. taken more ps) ≡ Ok b.variables → Later vs p ps
      go (Ok ws) i e = record { after = ws; is = i; all = e }
      go (Err x) i e = absurd cc

  -- a value
  names_value : (at : ℕ) (name : List ℕ) (ps : Parts) (f h : Sema) → h.visited ≡ f.visited → Names b ((at, value_part name) ∷ ps) f → Names b ps h
  names_value at name ps f h same m =
      let l = later (at, value_part name) ps m.before m.all in
      let next : Next true name m.before l.after = subst (Holds (Next true name m.before)) l.is (variable_holds at true name m.before) in
      elim next [
        | inl x ↦ record {
          before = l.after;
          all = l.all;
          below = λ i a. subst (λ vs. i < length vs) (sym x.0) (m.below i (subst (λ xs. At xs i) same a));
          counted = let e = ap count_constants x.0 in let s = ap length same in omega (arith, e, s, m.counted);
        }
        | inr x ↦ record {
          before = l.after;
          all = l.all;
          below = λ i a.
              let w = m.below i (subst (λ xs. At xs i) same a) in
              let long = ap length x.0 in let more = one_longer m.before (true, name) in omega (arith, w, long, more);
          counted = let e = ap count_constants x.0 in let c = constants_more m.before (true, name) in let s = ap length same in omega (arith, e, c, s, m.counted);
        }
      ]

  -- the use of a constant at place i
  abbrev UsedAt : ℕ → Sema → Sema → Type 0
  UsedAt i f h = ((h.visited ≡ f.visited) × (list_any (eqb i) f.visited ≡ true)) ⊎ (h.visited ≡ f.visited ++ (i ∷ []))

  any_there : (i : ℕ) (xs : List ℕ) → list_any (eqb i) xs ≡ true → At xs i
  any_there i [] e = absurd (true≢false (sym e))
  any_there i (x ∷ xs) e = elim (or_cases (eqb i x) (list_any (eqb i) xs) e) [
    | inl s ↦ (0, ap (λ z. Some z) (sym (eqb-true i x s)))
    | inr r ↦ let q = any_there i xs r in (suc q.0, q.1)
  ]

  names_constant : (at : ℕ) (name : List ℕ) (ps : Parts) (f h : Sema) (i : ℕ) → is_truth name ≡ false → place_of false name b.variables ≡ Some i → UsedAt i f h → Names b ((at, name_part name) ∷ ps) f → Names b ps h
  names_constant at name ps f h i word found used m =
      let l = later (at, name_part name) ps m.before m.all in
      let its : with_variable at false name m.before ≡ Ok l.after = sym (ap (λ (t : Bool). if t then Ok m.before else with_variable at false name m.before) word) ∙ l.is in
      let next : Next false name m.before l.after = subst (Holds (Next false name m.before)) its (variable_holds at false name m.before) in
      let whole : AllTaken l.after ps b.variables = subst (Holds (AllTaken l.after ps)) l.all (taken_holds ps l.after) in
      let placed : (j : ℕ) → place_of false name l.after ≡ Some j → i ≡ j =
      (λ j e. same_Some i j (sym found ∙ ap (place_of false name) whole.is ∙ place_more 0 false name l.after whole.rest j e)) in
      elim next [
        | inl x ↦
            let at_i : i ≡ x.1.0 = placed x.1.0 (ap (place_of false name) x.0 ∙ x.1.1) in
            let within = place_within false name m.before x.1.0 x.1.1 in
            let long = ap length x.0 in
            let e = ap count_constants x.0 in
            elim used [
              | inl u ↦ record {
                before = l.after;
                all = l.all;
                below = λ j a. let w = m.below j (subst (λ xs. At xs j) u.0 a) in omega (arith, w, long);
                counted = let s = ap length u.0 in omega (arith, e, s, m.counted);
              }
              | inr u ↦ record {
                before = l.after;
                all = l.all;
                below = λ j a. elim (at_either f.visited i j a.0 (subst (λ xs. slice_get xs a.0 ≡ Some j) u a.1)) [
                  | inl y ↦ let w = m.below j (a.0, y) in omega (arith, w, long)
                  | inr y ↦ let s : i ≡ j = y.1 in omega (arith, s, at_i, within, long)
                ];
                counted = let s = ap length u in let o = one_longer f.visited i in omega (arith, e, s, o, m.counted);
              }
            ]
        | inr x ↦
            let new : place_of false name l.after ≡ Some (0 + length m.before) = ap (place_of false name) x.0 ∙ place_new 0 name m.before x.1 in
            let at_i : i ≡ 0 + length m.before = placed (0 + length m.before) new in
            let long = ap length x.0 in
            let more = one_longer m.before (false, name) in
            let e = ap count_constants x.0 in
            let c = constants_more m.before (false, name) in
            elim used [
              | inl u ↦ let w = m.below i (any_there i f.visited u.1) in absurd (omega (arith, w, at_i))
              | inr u ↦ record {
                before = l.after;
                all = l.all;
                below = λ j a. elim (at_either f.visited i j a.0 (subst (λ xs. slice_get xs a.0 ≡ Some j) u a.1)) [
                  | inl y ↦ let w = m.below j (a.0, y) in omega (arith, w, long, more)
                  | inr y ↦ let s : i ≡ j = y.1 in omega (arith, s, at_i, long, more)
                ];
                counted = let s = ap length u in let o = one_longer f.visited i in omega (arith, e, c, s, o, m.counted);
              }
            ]
      ]

  -- a term's type, and whether its place is known
  abbrev Rooted : TermRef → Sema → Type 0
  Rooted e h = (e.place < n) ⊎ (((k : ℕ) × (e.place ≡ b.extra + k) × (k < length h.extra)) ⊎ (e.place + 1 ≡ b.old + length h.old))

  abbrev pub OldFound : Parts → Sema → TermRef × State → Type 0
  OldFound ps f y = (OldGood b y.1.0 y.1.1 × OldStep b ps f y.1.0 y.1.1) × (y.0.slot < length y.1.1.value_types) × Rooted y.0 y.1.1

  -- ---- the type after a term
  weights_typed : (ps qs : Parts) → ((ps ≡ qs) ⊎ ((left : ℕ) × (w : List ℕ) × (ps ≡ (left, type_part w) ∷ qs))) → weights count.Constants ps ≡ weights count.Constants qs
  weights_typed ps qs (inl e) = ap (weights count.Constants) e
  weights_typed ps qs (inr e) = ap (weights count.Constants) e.2 ∙ no_more (weights count.Constants qs)
    where
      no_more : (n : ℕ) → 0 + n ≡ n
      no_more n = omega arith

  names_typed : (ps qs : Parts) (f : Sema) → ((ps ≡ qs) ⊎ ((left : ℕ) × (w : List ℕ) × (ps ≡ (left, type_part w) ∷ qs))) → Names b ps f → Names b qs f
  names_typed ps qs f (inl e) m = subst (λ ps. Names b ps f) e m
  names_typed ps qs f (inr e) m = names_kept e.0 (type_part e.1) qs f (λ vs. refl) (subst (λ ps. Names b ps f) e.2 m)

  rooted_rest : (e : TermRef) (f h : Sema) → rest_of h ≡ rest_of f → Rooted e f → Rooted e h
  rooted_rest e f h s r = subst (λ (r : Rest). (e.place < n) ⊎ (((k : ℕ) × (e.place ≡ b.extra + k) × (k < length r.extra)) ⊎ (e.place + 1 ≡ b.old + length r.old))) (sym s) r

  entry_typed : (l : Option (Bool × ℕ)) (ps : Parts) (f : Sema) (e : TermRef) (qs : Parts) (g : Sema) → OldFound ps f (e, (qs, g)) → Holds (OldFound ps f) (typed_entry l (e, (qs, g)))
  unfolding typed_entry
  entry_typed l ps f e qs g x =
      holds_then (λ (y : State). Typed n qs g y.0 y.1) (OldFound ps f) (typed l e.slot e.left (qs, g)) (λ s. Ok (e, s)) (typed_holds n l e.slot e.left qs g x.0.0.sound x.1)
      (λ y t.
      let w = weights_typed qs y.0 t.parts in
      let ex = ap (λ (r : Rest). length r.extra) t.rest in
      let vi = ap (λ (r : Rest). length r.visited) t.rest in (
        (
          record {
            sound = t.sound;
            named = subst (λ (r : Rest). list_all (λ (o : PatternOp). has_name o.form) r.old ≡ true) (sym t.rest) x.0.0.named;
            names = names_rest b y.0 g y.1 t.rest (names_typed qs y.0 g t.parts x.0.0.names);
          },
          (moved_through b f g y.1 x.0.1.0 (moved_rest b g y.1 t.grown t.rest), omega (arith, x.0.1.1, w, ex, vi)),
        ),
        omega (arith, x.1, t.grown.longer),
        rooted_rest e g y.1 t.rest x.2,
      ))

  -- ---- values and named constants
  sound_more : (f h : Sema) → h.value_types ≡ f.value_types → ((j : ℕ) → Begun n (rest_of f) j → Begun n (rest_of h) j) → Sound n f → Sound n h
  sound_more f h e more s = record {
    wide = subst AllWide (sym e) s.wide;
    long = subst (λ (ks : List PatternType). n ≤ length ks) (sym e) s.long;
    covered = λ j l. subst (λ (ks : List PatternType). j < length ks → Covered n ks (rest_of h) j) (sym e)
        (λ l. covered_grown n f.value_types f.value_types (rest_of f) (rest_of h) (grown_itself f.value_types) more j l (s.covered j l)) l;
  }

  -- a variable is recorded
  begun_more : (i at : ℕ) (f : Sema) (j : ℕ) → Begun n (rest_of f) j → Begun n (rest_of (begun true i at f)) j
  begun_more i at f j (inl l) = inl l
  begun_more i at f j (inr (inl x)) = inr (inl (x.0, at_more f.old_types (i ∷ []) x.0 j x.1))
  begun_more i at f j (inr (inr x)) = inr (inr x)

  begun_variable : (i at : ℕ) (f : Sema) → i < n → OldMoved b f (begun true i at f)
  begun_variable i at f l = record {
    grown = grown_itself f.value_types;
    begins = λ j x. (x.0, at_more f.old_types (i ∷ []) x.0 j x.1);
    just = λ j x. elim (at_either f.old_types i j x.0 x.1) [
      | inl y ↦ inl (x.0, y)
      | inr y ↦ inr (inl (subst (λ j. j < n) y.1 l))
    ];
    extra = λ x a. a;
    old = λ o a. a;
    right = refl;
  }

  value_holds : (at : ℕ) (name : List ℕ) (ps : Parts) (f : Sema) → OldGood b ((at, value_part name) ∷ ps) f → Holds (OldFound ((at, value_part name) ∷ ps) f) (value_at b true at name (ps, f))
  unfolding value_at
  value_holds at name ps f good = go (place_of true name b.variables) refl
    where
      go : (o : Option ℕ) → place_of true name b.variables ≡ o → Holds (OldFound ((at, value_part name) ∷ ps) f) (value_from true at o f >>= λ e. typed_entry None (trailing ps e))
      go None e = tt
      go (Some i) e =
          let l = place_within true name b.variables i e in
          entry_typed None ((at, value_part name) ∷ ps) f (entry i i at) ps (begun true i at f) (
            (
              record { sound = sound_more f (begun true i at f) refl (begun_more i at f) good.sound; named = good.named; names = names_value at name ps f (begun true i at f) refl good.names },
              (begun_variable i at f l, omega arith),
            ),
            omega (arith, l, good.sound.long),
            inl l,
          )

  -- ---- literals on the left
  constant_begun : (at : ℕ) (negative : Bool) (magnitude : ℕ) (f : Sema) → OldMoved b f (old_constant_of b at negative magnitude f).1
  constant_begun at negative magnitude f =
      let l = literal_with negative magnitude (next_type f) in
      record {
        grown = grown_more f.value_types (ty.Variable (length f.value_types) ∷ []);
        begins = λ j x. (x.0, at_more f.old_types (next_type f ∷ []) x.0 j x.1);
        just = λ j x. elim (at_either f.old_types (next_type f) j x.0 x.1) [
          | inl y ↦ inl (x.0, y)
          | inr y ↦ inr (inr (inl (l, (length f.extra, at_end f.extra (extra.Literal l)), y.1)))
        ];
        extra = λ x a. (a.0, at_more f.extra (extra.Literal l ∷ []) a.0 x a.1);
        old = λ o a. a;
        right = refl;
      }

  -- a new type variable of a recorded term
  sound_begun : (f h : Sema) → h.value_types ≡ and_variable f.value_types → ((j : ℕ) → Begun n (rest_of f) j → Begun n (rest_of h) j) → Begun n (rest_of h) (length f.value_types) → Sound n f → Sound n h
  sound_begun f h e more first s =
      let k = ty.Variable (length f.value_types) in
      let long : length (f.value_types ++ (k ∷ [])) ≡ length f.value_types + 1 = one_longer f.value_types k in
      let last : length f.value_types < length (f.value_types ++ (k ∷ [])) = omega (arith, long) in
      record {
        wide = subst AllWide (sym e) (wide_more f.value_types k s.wide refl);
        long = subst (λ (ks : List PatternType). n ≤ length ks) (sym e) (omega (arith, long, s.long));
        covered = λ j l. subst (λ (ks : List PatternType). j < length ks → Covered n ks (rest_of h) j) (sym e)
            (λ l. elim (last_or j (length f.value_types) (subst (λ m. j < m) long l)) [
              | inl x ↦ covered_grown n f.value_types (f.value_types ++ (k ∷ [])) (rest_of f) (rest_of h) (grown_more f.value_types (k ∷ [])) more j x (s.covered j x)
              | inr x ↦ inr (length f.value_types, first, last, ap (λ z. kind_of z (f.value_types ++ (k ∷ []))) x)
            ]) l;
      }
    where
      last_or : (i m : ℕ) → i < m + 1 → (i < m) ⊎ (i ≡ m)
      last_or i m l = grind arith

  type_within : (f : Sema) → length f.value_types < length (and_variable f.value_types)
  type_within f = let l = one_longer f.value_types (ty.Variable (length f.value_types)) in omega (arith, l)

  -- the state after a literal, with an entry for it
  literal_found : (at : ℕ) (p : Part) (negative : Bool) (magnitude : ℕ) (ps : Parts) (f : Sema) → ((vs : List Variable) → with_part vs (at, p) ≡ Ok vs) → weight count.Constants p ≡ 1 → OldGood b ((at, p) ∷ ps) f
      → OldFound ((at, p) ∷ ps) f ((old_constant_of b at negative magnitude f).0, (ps, (old_constant_of b at negative magnitude f).1))
  literal_found at p negative magnitude ps f same w good =
      let h = (old_constant_of b at negative magnitude f).1 in
      let l = literal_with negative magnitude (next_type f) in
      let moved = constant_begun at negative magnitude f in
      let long = one_longer f.extra (extra.Literal l) in
      let m = names_kept at p ps f same good.names in (
        (
          record {
            sound = sound_begun f h refl (λ j x. begun_moved b f h moved j x) (inr (inl (length f.old_types, at_end f.old_types (next_type f)))) good.sound;
            named = good.named;
            names = record { before = m.before; all = m.all; below = m.below; counted = m.counted };
          },
          (moved, omega (arith, long, w)),
        ),
        type_within f,
        inr (inl (length f.extra, refl, omega (arith, long))),
      )

  -- then its type becomes i1
  truth_found : (at : ℕ) (p : Part) (v : ℕ) (ps : Parts) (f : Sema) → ((vs : List Variable) → with_part vs (at, p) ≡ Ok vs) → weight count.Constants p ≡ 1 → OldGood b ((at, p) ∷ ps) f
      → Holds (λ (e : TermRef × Sema). OldFound ((at, p) ∷ ps) f (e.0, (ps, e.1))) (old_truth b at v f)
  truth_found at p v ps f same w good =
      let x = literal_found at p false v ps f same w good in
      let g = (old_constant_of b at false v f).1 in
      let e = (old_constant_of b at false v f).0 in
      let one = ty.Concrete (bits.Int 1) in
      holds_then (Same (kind_of (next_type f) g.value_types) one g) (λ (e : TermRef × Sema). OldFound ((at, p) ∷ ps) f (e.0, (ps, e.1))) (unite_with (next_type f) (bits.Int 1) at g) (λ h. Ok (e, h)) (unite_with_holds (next_type f) (bits.Int 1) at g)
      (λ h u.
      let ex = ap (λ (r : Rest). length r.extra) u.rest in
      let vi = ap (λ (r : Rest). length r.visited) u.rest in
      let grown = u.value_kinds.grown in (
        (
          record {
            sound = sound_unified n (kind_of (next_type f) g.value_types) one g h x.0.0.sound u (wide_at g.value_types (next_type f) x.0.0.sound.wide) refl;
            named = subst (λ (r : Rest). list_all (λ (o : PatternOp). has_name o.form) r.old ≡ true) (sym u.rest) x.0.0.named;
            names = names_rest b ps g h u.rest x.0.0.names;
          },
          (moved_through b f g h x.0.1.0 (moved_rest b g h grown u.rest), omega (arith, x.0.1.1, ex, vi)),
        ),
        omega (arith, x.1, grown.longer),
        rooted_rest e g h u.rest x.2,
      ))

  -- a named constant, used for the first time or again
  name_found : (at : ℕ) (name : List ℕ) (ps : Parts) (f : Sema) → is_truth name ≡ false → OldGood b ((at, name_part name) ∷ ps) f
      → Holds (λ (e : TermRef × Sema). OldFound ((at, name_part name) ∷ ps) f (e.0, (ps, e.1))) (old_name_from b at (place_of false name b.variables) f)
  name_found at name ps f word good = go (place_of false name b.variables) refl
    where
      by : (i : ℕ) → place_of false name b.variables ≡ Some i → (t : Bool) → list_any (eqb i) f.visited ≡ t → OldFound ((at, name_part name) ∷ ps) f ((visited_from b t i at f).0, (ps, (visited_from b t i at f).1))
      by i e true used =
          let l = place_within false name b.variables i e in
          let g = begun true i at f in
          let h = (visited_from b true i at f).1 in
          let x = begun_variable i at f l in
          let m = moved_through b f g h x (record {
            grown = grown_itself f.value_types;
            begins = λ j a. a;
            just = λ j a. inl a;
            extra = λ z a. (a.0, at_more f.extra (extra.SameAs i ∷ []) a.0 z a.1);
            old = λ o a. a;
            right = refl;
          }) in
          let long = one_longer f.extra (extra.SameAs i) in (
            (
              record { sound = sound_more f h refl (λ j y. begun_more i at f j y) good.sound; named = good.named; names = names_constant at name ps f h i word e (inl (refl, used)) good.names },
              (m, omega (arith, long)),
            ),
            omega (arith, l, good.sound.long),
            inr (inl (length f.extra, refl, omega (arith, long))),
          )
      by i e false used =
          let l = place_within false name b.variables i e in
          let g = begun true i at f in
          let h = (visited_from b false i at f).1 in
          let x = begun_variable i at f l in
          let m = moved_through b f g h x (record {
            grown = grown_itself f.value_types;
            begins = λ j a. a;
            just = λ j a. inl a;
            extra = λ z a. a;
            old = λ o a. a;
            right = refl;
          }) in
          let long = one_longer f.visited i in (
            (
              record { sound = sound_more f h refl (λ j y. begun_more i at f j y) good.sound; named = good.named; names = names_constant at name ps f h i word e (inr refl) good.names },
              (m, omega (arith, long)),
            ),
            omega (arith, l, good.sound.long),
            inl l,
          )

      go : (o : Option ℕ) → place_of false name b.variables ≡ o → Holds (λ (e : TermRef × Sema). OldFound ((at, name_part name) ∷ ps) f (e.0, (ps, e.1))) (old_name_from b at o f)
      go None e = tt
      go (Some i) e = by i e (list_any (eqb i) f.visited) refl

  -- ---- constants
  not_truth : (name : List ℕ) → truth_named name ≡ None → is_truth name ≡ false
  not_truth name e = ap is_some e

  is_truth_word : (name : List ℕ) (v : ℕ) → truth_named name ≡ Some v → is_truth name ≡ true
  is_truth_word name v e = ap is_some e

  truth_part : (at : ℕ) (name : List ℕ) → is_truth name ≡ true → (vs : List Variable) → with_part vs (at, name_part name) ≡ Ok vs
  truth_part at name e vs = ap (λ (t : Bool). if t then Ok vs else with_variable at false name vs) e

  constant_holds : (depth at : ℕ) (p : Part) (ps : Parts) (f : Sema) → OldGood b ((at, p) ∷ ps) f → Holds (OldFound ((at, p) ∷ ps) f) (typed_constant b true depth ((at, p) ∷ ps, f))
  unfolding typed_constant old_constant
  constant_holds depth at (literal_part negative magnitude) ps f good =
      let g = record f { literals = f.literals ++ (record { literal = literal_with negative magnitude (next_type f); left = at } ∷ []) } in
      let x = literal_found at (literal_part negative magnitude) negative magnitude ps g (λ vs. refl) refl (record { sound = record { wide = good.sound.wide; long = good.sound.long; covered = good.sound.covered }; named = good.named; names = record { before = good.names.before; all = good.names.all; below = good.names.below; counted = good.names.counted } }) in
      entry_typed (Some (negative, magnitude)) ((at, literal_part negative magnitude) ∷ ps) f (old_literal b at negative magnitude f).0 ps (old_literal b at negative magnitude f).1 (
        (
          record { sound = x.0.0.sound; named = x.0.0.named; names = x.0.0.names },
          (record { grown = x.0.1.0.grown; begins = x.0.1.0.begins; just = x.0.1.0.just; extra = x.0.1.0.extra; old = x.0.1.0.old; right = x.0.1.0.right }, x.0.1.1),
        ),
        x.1,
        x.2,
      )
  constant_holds depth at (name_part name) ps f good =
      holds_then (OldFound ((at, name_part name) ∷ ps) f) (OldFound ((at, name_part name) ∷ ps) f) (old_word_from b (truth_named name) name at f >>= λ e. Ok (trailing ps e)) (typed_entry None)
      (holds_then (λ (e : TermRef × Sema). OldFound ((at, name_part name) ∷ ps) f (e.0, (ps, e.1))) (OldFound ((at, name_part name) ∷ ps) f) (old_word_from b (truth_named name) name at f) (λ e. Ok (trailing ps e)) (go (truth_named name) refl) (λ e h. h))
      (λ y h. entry_typed None ((at, name_part name) ∷ ps) f y.0 y.1.0 y.1.1 h)
    where
      go : (o : Option ℕ) → truth_named name ≡ o → Holds (λ (e : TermRef × Sema). OldFound ((at, name_part name) ∷ ps) f (e.0, (ps, e.1))) (old_word_from b o name at f)
      go (Some v) e = truth_found at (name_part name) v ps f (truth_part at name (is_truth_word name v e)) refl good
      go None e = name_found at name ps f (not_truth name e) good
  constant_holds depth at (operation_part w asks) ps f good = tt
  constant_holds depth at (value_part w) ps f good = tt
  constant_holds depth at (function_part w) ps f good = tt
  constant_holds depth at (condition_part w) ps f good = tt
  constant_holds depth at (type_part w) ps f good = tt
  constant_holds depth at end_part ps f good = tt

  -- ---- operations
  moved_form_step : (f h : Sema) → FormStep n f h → OldMoved b f h
  moved_form_step f h x = record {
    grown = x.grown;
    begins = λ j i. subst (λ (r : Rest). At r.old_types j) (sym x.rest) i;
    just = λ j i. inl (subst (λ (r : Rest). At r.old_types j) x.rest i);
    extra = λ y i. subst (λ (r : Rest). At r.extra y) (sym x.rest) i;
    old = λ o i. subst (λ (r : Rest). At r.old o) (sym x.rest) i;
    right = ap right_of x.rest;
  }

  named_more : (os : List PatternOp) (o : PatternOp) → list_all (λ (o : PatternOp). has_name o.form) os ≡ true → has_name o.form ≡ true → list_all (λ (o : PatternOp). has_name o.form) (os ++ (o ∷ [])) ≡ true
  named_more [] o e i = and_from (has_name o.form) true i refl
  named_more (p ∷ os) o e i =
      let q = and_parts (has_name p.form) (list_all (λ (o : PatternOp). has_name o.form) os) e in
      and_from (has_name p.form) (list_all (λ (o : PatternOp). has_name o.form) (os ++ (o ∷ []))) q.0 (named_more os o q.1 i)

  abbrev AnyPlace : ℕ → ℕ → Type 0
  AnyPlace i u = Unit {0}

  abbrev OldEntry : TermRef → Sema → Type 0
  OldEntry e f = (e.slot < length f.value_types) × Unit {0}

  old_walk : (T : State → Outcome (TermRef × State)) → ((ps : Parts) (f : Sema) → OldGood b ps f → Holds (OldFound ps f) (T (ps, f))) → Walk T (OldGood b) (OldStep b) OldEntry
  old_walk T step = record {
    still = λ ps f i. (moved_still b f, omega arith);
    through = λ ps qs rs f g h x y. (moved_through b f g h x.0 y.0, omega (arith, x.1, y.1));
    ends = λ left ps f i. (record { sound = i.sound; named = i.named; names = names_kept left end_part ps f (λ vs. refl) i.names }, (moved_still b f, omega arith));
    keeps = λ ps qs f g e x p. (omega (arith, p.0, x.0.grown.longer), tt);
    step = λ ps f i. holds_more (OldFound ps f) (λ (y : TermRef × State). OldGood b y.1.0 y.1.1 × OldStep b ps f y.1.0 y.1.1 × OldEntry y.0 y.1.1) (T (ps, f)) (step ps f i) (λ y h. (h.0.0, h.0.1, (h.1, tt)));
  }

  -- the state after the name of an operation
  abbrev opened : ℕ → Sema → Sema
  opened at f = begun true (next_type f) at (with_type f)

  opened_more : (at : ℕ) (f : Sema) (j : ℕ) → Begun n (rest_of f) j → Begun n (rest_of (begun true (next_type f) at (with_type f))) j
  opened_more at f j (inl l) = inl l
  opened_more at f j (inr (inl x)) = inr (inl (x.0, at_more f.old_types (next_type f ∷ []) x.0 j x.1))
  opened_more at f j (inr (inr x)) = inr (inr x)

  opened_good : (at : ℕ) (name : List ℕ) (asks : Option (List ℕ)) (ps : Parts) (f : Sema) → OldGood b ((at, operation_part name asks) ∷ ps) f → OldGood b ps (begun true (next_type f) at (with_type f))
  opened_good at name asks ps f good =
      let m = names_kept at (operation_part name asks) ps f (λ vs. refl) good.names in
      record {
        sound = sound_begun f (begun true (next_type f) at (with_type f)) refl (opened_more at f) (inr (inl (length f.old_types, at_end f.old_types (next_type f)))) good.sound;
        named = good.named;
        names = record { before = m.before; all = m.all; below = m.below; counted = m.counted };
      }

  -- the operation with its operands
  closed_found : (at : ℕ) (name : List ℕ) (asks : Option (List ℕ)) (ps qs : Parts) (f g : Sema) (es : List TermRef) → OldGood b qs g → OldStep b ps (begun true (next_type f) at (with_type f)) qs g → AllByRecursion (λ e. OldEntry e g) es
      → Holds (λ (e : TermRef × Sema). OldFound ((at, operation_part name asks) ∷ ps) f (e.0, (qs, e.1))) (closed_at b true name asks es (next_type f) at g)
  closed_found at name asks ps qs f g es good step all =
      let f1 = begun true (next_type f) at (with_type f) in
      let first : next_type f < length g.value_types = (let l = type_within f in omega (arith, l, step.0.grown.longer)) in
      holds_then (λ (y : Expression × Sema). FormStep n g y.1 × (has_name y.0 ≡ true) × FormTyped AnyPlace y.1.value_types y.1.type_constraints (next_type f) y.0)
      (λ (e : TermRef × Sema). OldFound ((at, operation_part name asks) ∷ ps) f (e.0, (qs, e.1)))
      (shaped (operation_named name) (requested_predicate asks) es (next_type f) at g)
      (λ y. Ok (with_pattern_op b true (record { form = y.0; bare = is_bare (operation_named name) asks; ty = next_type f }) (next_type f) at y.1))
      (shaped_holds n AnyPlace (operation_named name) (named_extends name) (requested_predicate asks) es (next_type f) at g good.sound first all)
      (λ y x.
      let o : PatternOp = record { form = y.0; bare = is_bare (operation_named name) asks; ty = next_type f } in
      let u = y.1 in
      let h = record u { old = u.old ++ (o ∷ []) } in
      let moved = moved_form_step g u x.0 in
      let whole = moved_through b f1 g u step.0 moved in
      let pushed : (p : PatternOp) → At u.old p → At h.old p = (λ p i. (i.0, at_more u.old (o ∷ []) i.0 p i.1)) in
      let ex = ap (λ (r : Rest). length r.extra) x.0.rest in
      let vi = ap (λ (r : Rest). length r.visited) x.0.rest in
      let long = one_longer u.old o in (
        (
          record {
            sound = record { wide = x.0.sound.wide; long = x.0.sound.long; covered = x.0.sound.covered };
            named = named_more u.old o (subst (λ (r : Rest). list_all (λ (o : PatternOp). has_name o.form) r.old ≡ true) (sym x.0.rest) good.named) x.1;
            names = record {
              before = good.names.before;
              all = good.names.all;
              below = λ i a. good.names.below i (subst (λ (r : Rest). At r.visited i) x.0.rest a);
              counted = omega (arith, good.names.counted, vi);
            };
          },
          (
            record {
              grown = grown_through f.value_types f1.value_types h.value_types (grown_more f.value_types (ty.Variable (length f.value_types) ∷ [])) whole.grown;
              begins = λ j i. whole.begins j (i.0, at_more f.old_types (next_type f ∷ []) i.0 j i.1);
              just = λ j i. elim (whole.just j i) [
                | inl a ↦ elim (at_either f.old_types (next_type f) j a.0 a.1) [
                  | inl c ↦ inl (a.0, c)
                  | inr c ↦ inr (inr (inr (o, (length u.old, at_end u.old o), c.1)))
                ]
                | inr a ↦ inr (justified_more n (rest_of u) (rest_of h) (λ z i. i) pushed j a)
              ];
              extra = λ z i. whole.extra z i;
              old = λ p i. pushed p (whole.old p i);
              right = whole.right;
            },
            omega (arith, step.1, ex, vi),
          ),
        ),
        omega (arith, first, x.0.grown.longer),
        inr (inr (omega (arith, long))),
      ))

  operation_holds : (T : State → Outcome (TermRef × State)) → ((ps : Parts) (f : Sema) → OldGood b ps f → Holds (OldFound ps f) (T (ps, f))) → (at : ℕ) (name : List ℕ) (asks : Option (List ℕ)) (ps : Parts) (f : Sema)
      → OldGood b ((at, operation_part name asks) ∷ ps) f → Holds (OldFound ((at, operation_part name asks) ∷ ps) f) (typed_operation b T true at name asks (ps, f))
  unfolding typed_operation operation_at
  operation_holds T step at name asks ps f good =
      let f1 = begun true (next_type f) at (with_type f) in
      let P : TermRef × State → Type 0 = OldFound ((at, operation_part name asks) ∷ ps) f in
      holds_then P P (gathered T headroom [] (ps, f1) >>= λ x. closed_at b true name asks x.0 (next_type f) at x.1.1 >>= λ e. Ok (trailing x.1.0 e)) (typed_entry None)
      (holds_then (λ (y : List TermRef × State). OldGood b y.1.0 y.1.1 × OldStep b ps f1 y.1.0 y.1.1 × AllByRecursion (λ e. OldEntry e y.1.1) y.0) P (gathered T headroom [] (ps, f1)) (λ x. closed_at b true name asks x.0 (next_type f) at x.1.1 >>= λ e. Ok (trailing x.1.0 e))
      (gathered_holds T (OldGood b) (OldStep b) OldEntry (old_walk T step) headroom [] ps f1 (opened_good at name asks ps f good) tt)
      (λ x h.
      holds_then (λ (e : TermRef × Sema). OldFound ((at, operation_part name asks) ∷ ps) f (e.0, (x.1.0, e.1))) P (closed_at b true name asks x.0 (next_type f) at x.1.1) (λ e. Ok (trailing x.1.0 e))
      (closed_found at name asks ps x.1.0 f x.1.1 x.0 h.0 h.1 h.2) (λ e w. w)))
      (λ y h. entry_typed None ((at, operation_part name asks) ∷ ps) f y.0 y.1.0 y.1.1 h)

  pub old_holds : (depth : ℕ) (ps : Parts) (f : Sema) → OldGood b ps f → Holds (OldFound ps f) (term_at b true depth (ps, f))
  unfolding term_at
  old_holds zero ps f good = tt
  old_holds (suc depth) [] f good = tt
  old_holds (suc depth) ((at, value_part name) ∷ ps) f good = value_holds at name ps f good
  old_holds (suc depth) ((at, operation_part name asks) ∷ ps) f good = operation_holds (term_at b true depth) (λ ps f i. old_holds depth ps f i) at name asks ps f good
  old_holds (suc depth) ((at, literal_part negative magnitude) ∷ ps) f good = constant_holds (suc depth) at (literal_part negative magnitude) ps f good
  old_holds (suc depth) ((at, name_part name) ∷ ps) f good = constant_holds (suc depth) at (name_part name) ps f good
  old_holds (suc depth) ((at, function_part name) ∷ ps) f good = constant_holds (suc depth) at (function_part name) ps f good
  old_holds (suc depth) ((at, condition_part name) ∷ ps) f good = constant_holds (suc depth) at (condition_part name) ps f good
  old_holds (suc depth) ((at, type_part name) ∷ ps) f good = constant_holds (suc depth) at (type_part name) ps f good
  old_holds (suc depth) ((at, end_part) ∷ ps) f good = constant_holds (suc depth) at end_part ps f good
