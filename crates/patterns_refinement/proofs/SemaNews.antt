-- The right side and the conditions of a semantic analysis: each new value has operands of the types that it needs.
use Rattle.std.proofs.Common.{◌≡◌, ℕ, zero, suc, ◌+◌, ◌<◌, ◌≤◌, Bool, true, false, true≢false, if◌then◌else◌, List, [], ◌∷◌, ◌++◌, length, Option, Some, None, Ok, refl, sym, ap, subst, ◌∙◌, ◌⊎◌, inl, inr, arith, slice_get}
use Rattle.std.specs.List.{AllByRecursion}
use Rattle.std.proofs.lemmas.Bool.{eq-eqb}
use Rattle.std.proofs.lemmas.Option.{slice_get_within}
use Rattle.ir_text_tokens.specs.declared.refusal.TextRefusal.TheVariants.{TypeMismatch}
use Rattle.dialects_int.specs.declared.operations.Predicate.{Predicate}
use Rattle.user_patterns_text.specs.Parts.{Part, Placed, operation_part, value_part, literal_part, name_part, function_part, condition_part, type_part, end_part}
use Rattle.user_patterns_text.specs.Refusing.{Outcome, ◌>>=◌, refused}
use Rattle.user_patterns_data.specs.declared.pattern.PatternType.{PatternType}
use Rattle.user_patterns_data.specs.declared.pattern.PatternType.TheVariants as ty
use Rattle.user_patterns_data.specs.declared.pattern.Expression.{Expression}
use Rattle.user_patterns_data.specs.declared.pattern.PatternOp.{PatternOp}
use Rattle.user_patterns_data.specs.declared.pattern.ExtraConstant.{ExtraConstant}
use Rattle.user_patterns_data.specs.declared.pattern.ConstantExpression.{ConstantExpression}
use Rattle.user_patterns_data.specs.declared.pattern.ConstantExpression.TheVariants as number
use Rattle.user_patterns_data.specs.declared.pattern.NewValue.{NewValue}
use Rattle.user_patterns_data.specs.declared.pattern.NewValue.TheVariants as new
use Rattle.user_patterns_data.specs.declared.pattern.TypeConstraint.{TypeConstraint}
use Rattle.user_patterns_build.specs.CanBuild.{has_name, new_type}
use Rattle.user_patterns_sema_base.specs.declared.names.Count.TheVariants as count
use Rattle.user_patterns_sema_base.specs.Names.{condition_weight, place_of, weight}
use Rattle.user_patterns_sema_base.specs.Types.{and_variable, kind_of, same_kind}
use Rattle.user_patterns_sema_base.specs.Words.{is_narrower, is_power, is_truth, operation_named, predicate_named}
use Rattle.user_patterns_sema.specs.declared.state.RequiredType.{RequiredType}
use Rattle.user_patterns_sema.specs.declared.state.TermRef.{TermRef}
use Rattle.user_patterns_sema.specs.Sema.{Places, Sema, State, a_power, begun, closed_at, comparing, condition_at, conditions_at, entry, gathered, headroom, is_bare, is_free, literal_of, made_at, named_at, narrowed, new_constant, next_new, next_number, next_type, number_at, number_depth, numbers_requested, operation_at, requested_predicate, shaped, term_at, trailing, type_at, typed, typed_constant, typed_entry, typed_operation, types_of, types_requested, value_at, value_from, visited_by, with_pattern_op, with_type, written_at}
use Rattle.patterns_refinement.proofs.SemaSteps.{At, Holds, Parts, Walk, at_either, at_end, at_more, gathered_holds, holds_more, holds_then, one_longer}
use Rattle.patterns_refinement.proofs.SemaTypes.{AllWide, Begun, Covered, Grown, Rest, Sound, Typed, covered_grown, grown_itself, grown_more, grown_through, rest_of, still_same, typed_holds, wide_more, written_holds}
use Rattle.patterns_refinement.proofs.SemaNumbers.{NumberHas, Numbered, begun_but_given, number_holds, numbered_through, numbers_hold, place_slot, place_within, pushed, slots, weights}
use Rattle.patterns_refinement.proofs.SemaOperands.{FormStep, FormTyped, form_still, named_extends, shaped_holds}

-- ---- the types of new values
-- the type number of an operand: a variable, or one of the first k new values
abbrev pub NewSlot : Places → List NewValue → ℕ → ℕ → ℕ → Type 0
NewSlot b news k i u = ((i < length b.variables) × (u ≡ i)) ⊎ ((j : ℕ) × (w : NewValue) × (j < k) × (i ≡ b.new + j) × (slice_get news j ≡ Some w) × (new_type w ≡ u))

-- the type number is recorded on the right
abbrev pub NewBegun : Sema → ℕ → Type 0
NewBegun f s = (r : RequiredType) × At f.new_types r × (r.slot ≡ s)

-- new value k has operands of the types that it needs
abbrev pub NewTyped : Places → Sema → ℕ → NewValue → Type 0
NewTyped b f k (new.Operation o) = (o.ty < length f.value_types) × NewBegun f o.ty × FormTyped (NewSlot b f.new k) f.value_types f.type_constraints o.ty o.form
NewTyped b f k (new.Constant i t) = (t < length f.value_types) × NewBegun f t × NumberHas b t i f

pub record NewGood (b : Places) (f : Sema) : Type 0 where
  pub sound : Sound (length b.variables) f
  pub news : (k : ℕ) (w : NewValue) → slice_get f.new k ≡ Some w → NewTyped b f k w

-- ---- steps on the right
-- the part of the state that the right side doesn't change
pub record Left : Type 0 where
  pub old_types : List ℕ
  pub visited : List ℕ
  pub extra : List ExtraConstant
  pub old : List PatternOp

abbrev pub left_of : Rest → Left
left_of r = record { old_types = r.old_types; visited = r.visited; extra = r.extra; old = r.old }

pub record NewMoved (b : Places) (f h : Sema) : Type 0 where
  pub grown : Grown f.value_types h.value_types
  pub stays : (i t : ℕ) → place_slot b (slots b f.given) i ≡ Some t → place_slot b (slots b h.given) i ≡ Some t
  pub news : (k : ℕ) (w : NewValue) → slice_get f.new k ≡ Some w → slice_get h.new k ≡ Some w
  pub types : (r : RequiredType) → At f.new_types r → At h.new_types r
  pub more : (c : TypeConstraint) → At f.type_constraints c → At h.type_constraints c
  pub left : left_of (rest_of h) ≡ left_of (rest_of f)

abbrev pub NewStep : Places → Parts → Sema → Parts → Sema → Type 0
NewStep b ps f qs h = NewMoved b f h × (length h.given + weights count.Numbers qs ≤ length f.given + weights count.Numbers ps)

pub new_still : (b : Places) (f : Sema) → NewMoved b f f
new_still b f = record { grown = grown_itself f.value_types; stays = λ i t e. e; news = λ k w e. e; types = λ r i. i; more = λ c i. i; left = refl }

pub new_through : (b : Places) (f g h : Sema) → NewMoved b f g → NewMoved b g h → NewMoved b f h
new_through b f g h x y = record {
  grown = grown_through f.value_types g.value_types h.value_types x.grown y.grown;
  stays = λ i t e. y.stays i t (x.stays i t e);
  news = λ k w e. y.news k w (x.news k w e);
  types = λ r i. y.types r (x.types r i);
  more = λ c i. y.more c (x.more c i);
  left = y.left ∙ x.left;
}

-- the rest of the state is the same
pub new_rest : (b : Places) (f h : Sema) → Grown f.value_types h.value_types → rest_of h ≡ rest_of f → NewMoved b f h
new_rest b f h g e = record {
  grown = g;
  stays = λ i t p. subst (λ (r : Rest). place_slot b (slots b r.given) i ≡ Some t) (sym e) p;
  news = λ k w p. subst (λ (r : Rest). slice_get r.new k ≡ Some w) (sym e) p;
  types = λ t i. subst (λ (r : Rest). At r.new_types t) (sym e) i;
  more = λ c i. subst (λ (r : Rest). At r.type_constraints c) (sym e) i;
  left = ap left_of e;
}

new_form_step : (b : Places) (n : ℕ) (f h : Sema) → FormStep n f h → NewMoved b f h
new_form_step b n f h x = record {
  grown = x.grown;
  stays = λ i t p. subst (λ (r : Rest). place_slot b (slots b r.given) i ≡ Some t) (sym x.rest) p;
  news = λ k w p. subst (λ (r : Rest). slice_get r.new k ≡ Some w) (sym x.rest) p;
  types = λ t i. subst (λ (r : Rest). At r.new_types t) (sym x.rest) i;
  more = x.more;
  left = ap left_of x.rest;
}

new_numbered : (b : Places) (s : ℕ) (f h : Sema) → Numbered b s f h → NewMoved b f h
new_numbered b s f h x = record {
  grown = x.grown;
  stays = x.stays;
  news = λ k w p. subst (λ (r : Rest). slice_get r.new k ≡ Some w) (sym x.rest) p;
  types = λ t i. subst (λ (r : Rest). At r.new_types t) (sym x.rest) i;
  more = λ c i. subst (λ (r : Rest). At r.type_constraints c) (sym x.rest) i;
  left = ap left_of x.rest;
}

-- what was recorded is still recorded
pub begun_new : (b : Places) (f h : Sema) → NewMoved b f h → (j : ℕ) → Begun (length b.variables) (rest_of f) j → Begun (length b.variables) (rest_of h) j
begun_new b f h x j (inl l) = inl l
begun_new b f h x j (inr (inl i)) = inr (inl (subst (λ (r : Left). At r.old_types j) (sym x.left) i))
begun_new b f h x j (inr (inr t)) = inr (inr (t.0, x.types t.0 t.1, t.2))

slot_moved : (b : Places) (f h : Sema) → NewMoved b f h → (k m i u : ℕ) → k ≤ m → NewSlot b f.new k i u → NewSlot b h.new m i u
slot_moved b f h x k m i u le (inl l) = inl l
slot_moved b f h x k m i u le (inr s) = inr (s.0, s.1, omega (arith, s.2, le), s.3, x.news s.0 s.1 s.4, s.5)

-- new values stay typed
typed_moved : (b : Places) (f h : Sema) → NewMoved b f h → (k : ℕ) (w : NewValue) → NewTyped b f k w → NewTyped b h k w
typed_moved b f h x k (new.Operation o) t = (
  omega (arith, t.0, x.grown.longer),
  (t.1.0, x.types t.1.0 t.1.1, t.1.2),
  form_still (NewSlot b f.new k) (NewSlot b h.new k) f.value_types h.value_types f.type_constraints h.type_constraints o.ty o.form (λ i u s. slot_moved b f h x k k i u (omega arith) s) x.grown x.more t.0 t.2,
)
typed_moved b f h x k (new.Constant i s) t = (
  omega (arith, t.0, x.grown.longer),
  (t.1.0, x.types t.1.0 t.1.1, t.1.2),
  (t.2.0, x.stays i t.2.0 t.2.1, omega (arith, t.2.2, x.grown.longer), still_same f.value_types h.value_types x.grown t.2.0 s t.2.2 t.0 t.2.3),
)

-- no new value is added
pub good_same : (b : Places) (f h : Sema) → NewMoved b f h → h.new ≡ f.new → Sound (length b.variables) h → NewGood b f → NewGood b h
good_same b f h x e s good = record { sound = s; news = λ k w p. typed_moved b f h x k w (good.news k w (subst (λ (ws : List NewValue). slice_get ws k ≡ Some w) e p)) }

-- one new value is added
good_more : (b : Places) (f h : Sema) (v : NewValue) → NewMoved b f h → h.new ≡ f.new ++ (v ∷ []) → Sound (length b.variables) h → NewTyped b h (length f.new) v → NewGood b f → NewGood b h
good_more b f h v x e s t good = record {
  sound = s;
  news = λ k w p. elim (at_either f.new v w k (subst (λ (ws : List NewValue). slice_get ws k ≡ Some w) e p)) [
    | inl q ↦ typed_moved b f h x k w (good.news k w q)
    | inr q ↦ subst (λ k. NewTyped b h k w) (sym q.0) (subst (NewTyped b h (length f.new)) q.1 t)
  ];
}

module _ (b : Places) (start : length b.variables ≤ b.given) where
  abbrev n : ℕ
  n = length b.variables

  sound_new : (f h : Sema) → h.value_types ≡ f.value_types → ((j : ℕ) → Begun n (rest_of f) j → Begun n (rest_of h) j) → Sound n f → Sound n h
  sound_new f h e more s = record {
    wide = subst AllWide (sym e) s.wide;
    long = subst (λ (ks : List PatternType). n ≤ length ks) (sym e) s.long;
    covered = λ j l. subst (λ (ks : List PatternType). j < length ks → Covered n ks (rest_of h) j) (sym e)
        (λ l. covered_grown n f.value_types f.value_types (rest_of f) (rest_of h) (grown_itself f.value_types) more j l (s.covered j l)) l;
  }

  -- ---- entries
  abbrev NewEntry : TermRef → Sema → Type 0
  NewEntry e f = (e.slot < length f.value_types) × NewSlot b f.new (length f.new) e.place e.slot

  entry_moved : (f h : Sema) → NewMoved b f h → (e : TermRef) → NewEntry e f → NewEntry e h
  entry_moved f h x e p = (omega (arith, p.0, x.grown.longer), by p.1)
    where
      by : NewSlot b f.new (length f.new) e.place e.slot → NewSlot b h.new (length h.new) e.place e.slot
      by (inl l) = inl l
      by (inr s) = let at = x.news s.0 s.1 s.4 in inr (s.0, s.1, slice_get_within h.new s.0 s.1 at, s.3, at, s.5)

  -- the result of the side is a variable, and there are no new values; or the last new value
  abbrev Rooted : Sema → TermRef → Sema → Type 0
  Rooted f e h = ((e.place < n) × (h.new ≡ f.new)) ⊎ (e.place + 1 ≡ b.new + length h.new)

  abbrev pub NewFound : Parts → Sema → TermRef × State → Type 0
  NewFound ps f y = (NewGood b y.1.1 × NewStep b ps f y.1.0 y.1.1) × NewEntry y.0 y.1.1 × Rooted f y.0 y.1.1

  weights_typed : (ps qs : Parts) → ((ps ≡ qs) ⊎ ((left : ℕ) × (w : List ℕ) × (ps ≡ (left, type_part w) ∷ qs))) → weights count.Numbers ps ≡ weights count.Numbers qs
  weights_typed ps qs (inl e) = ap (weights count.Numbers) e
  weights_typed ps qs (inr e) = ap (weights count.Numbers) e.2 ∙ no_more (weights count.Numbers qs)
    where
      no_more : (n : ℕ) → 0 + n ≡ n
      no_more n = omega arith

  rooted_rest : (f : Sema) (e : TermRef) (g h : Sema) → rest_of h ≡ rest_of g → Rooted f e g → Rooted f e h
  rooted_rest f e g h s r = subst (λ (r : Rest). ((e.place < n) × (r.new ≡ f.new)) ⊎ (e.place + 1 ≡ b.new + length r.new)) (sym s) r

  entry_typed : (l : Option (Bool × ℕ)) (ps : Parts) (f : Sema) (e : TermRef) (qs : Parts) (g : Sema) → NewFound ps f (e, (qs, g)) → Holds (NewFound ps f) (typed_entry l (e, (qs, g)))
  unfolding typed_entry
  entry_typed l ps f e qs g x =
      holds_then (λ (y : State). Typed n qs g y.0 y.1) (NewFound ps f) (typed l e.slot e.left (qs, g)) (λ s. Ok (e, s)) (typed_holds n l e.slot e.left qs g x.0.0.sound x.1.0)
      (λ y t.
      let w = weights_typed qs y.0 t.parts in
      let given = ap (λ (r : Rest). length r.given) t.rest in
      let m = new_rest b g y.1 t.grown t.rest in (
        (good_same b g y.1 m (ap (λ (r : Rest). r.new) t.rest) t.sound x.0.0, (new_through b f g y.1 x.0.1.0 m, omega (arith, x.0.1.1, w, given))),
        entry_moved g y.1 m e x.1,
        rooted_rest f e g y.1 t.rest x.2,
      ))

  -- ---- values and named numbers
  begun_moved : (i at : ℕ) (f : Sema) → NewMoved b f (begun false i at f)
  begun_moved i at f = record {
    grown = grown_itself f.value_types;
    stays = λ i t e. e;
    news = λ k w e. e;
    types = λ r x. (x.0, at_more f.new_types (record { slot = i; left = at } ∷ []) x.0 r x.1);
    more = λ c x. x;
    left = refl;
  }

  variable_found : (at i : ℕ) (p : Placed) (ps : Parts) (f : Sema) → i < n → NewGood b f → NewFound (p ∷ ps) f (entry i i at, (ps, begun false i at f))
  variable_found at i p ps f l good =
      let h = begun false i at f in
      let m = begun_moved i at f in (
        (good_same b f h m refl (sound_new f h refl (λ j x. begun_new b f h m j x) good.sound) good, (m, omega arith)),
        (omega (arith, l, good.sound.long), inl (l, refl)),
        inl (l, refl),
      )

  value_holds : (at : ℕ) (name : List ℕ) (ps : Parts) (f : Sema) → NewGood b f → Holds (NewFound ((at, value_part name) ∷ ps) f) (value_at b false at name (ps, f))
  unfolding value_at
  value_holds at name ps f good = go (place_of true name b.variables) refl
    where
      go : (o : Option ℕ) → place_of true name b.variables ≡ o → Holds (NewFound ((at, value_part name) ∷ ps) f) (value_from false at o f >>= λ e. typed_entry None (trailing ps e))
      go None e = tt
      go (Some i) e = entry_typed None ((at, value_part name) ∷ ps) f (entry i i at) ps (begun false i at f) (variable_found at i (at, value_part name) ps f (place_within true name b.variables i e) good)

  -- ---- a new type variable of a recorded term
  abbrev opened : ℕ → Sema → Sema
  opened at f = begun false (next_type f) at (with_type f)

  opened_moved : (at : ℕ) (f : Sema) → NewMoved b f (begun false (next_type f) at (with_type f))
  opened_moved at f = record {
    grown = grown_more f.value_types (ty.Variable (length f.value_types) ∷ []);
    stays = λ i t e. e;
    news = λ k w e. e;
    types = λ r x. (x.0, at_more f.new_types (record { slot = next_type f; left = at } ∷ []) x.0 r x.1);
    more = λ c x. x;
    left = refl;
  }

  opened_begun : (at : ℕ) (f : Sema) → NewBegun (begun false (next_type f) at (with_type f)) (next_type f)
  opened_begun at f = (record { slot = next_type f; left = at }, (length f.new_types, at_end f.new_types (record { slot = next_type f; left = at })), refl)

  type_within : (f : Sema) → length f.value_types < length (and_variable f.value_types)
  type_within f = let l = one_longer f.value_types (ty.Variable (length f.value_types)) in omega (arith, l)

  last_or : (i m : ℕ) → i < m + 1 → (i < m) ⊎ (i ≡ m)
  last_or i m l = grind arith

  opened_sound : (at : ℕ) (f : Sema) → Sound n f → Sound n (begun false (next_type f) at (with_type f))
  opened_sound at f s =
      let h = begun false (next_type f) at (with_type f) in
      let k = ty.Variable (length f.value_types) in
      let long : length (f.value_types ++ (k ∷ [])) ≡ length f.value_types + 1 = one_longer f.value_types k in
      record {
        wide = wide_more f.value_types k s.wide refl;
        long = omega (arith, long, s.long);
        covered = λ j l. elim (last_or j (length f.value_types) (subst (λ m. j < m) long l)) [
          | inl x ↦ covered_grown n f.value_types (f.value_types ++ (k ∷ [])) (rest_of f) (rest_of h) (grown_more f.value_types (k ∷ [])) (λ j y. begun_new b f h (opened_moved at f) j y) j x (s.covered j x)
          | inr x ↦ inr (length f.value_types, inr (inr (opened_begun at f)), omega (arith, long), ap (λ z. kind_of z (f.value_types ++ (k ∷ []))) x)
        ];
      }

  opened_good : (at : ℕ) (f : Sema) → NewGood b f → NewGood b (begun false (next_type f) at (with_type f))
  opened_good at f good = good_same b f (begun false (next_type f) at (with_type f)) (opened_moved at f) refl (opened_sound at f good.sound) good

  -- ---- steps of numbers
  sound_numbered : (s : ℕ) (f h : Sema) → Numbered b s f h → Sound n f → Sound n h
  sound_numbered s f h x sound =
      let long = x.long in
      record {
        wide = x.wide sound.wide;
        long = omega (arith, sound.long, long);
        covered = λ i l.
            let w : i < length f.value_types = omega (arith, l, long) in
            covered_grown n f.value_types h.value_types (rest_of f) (rest_of h) x.grown (begun_but_given n (rest_of f) (rest_of h) x.rest) i w (sound.covered i w);
      }

  -- a new constant
  made_holds : (depth at : ℕ) (p : Placed) (ps : Parts) (f : Sema) → NewGood b f → Holds (NewFound (p ∷ ps) f) (made_at b depth at (p ∷ ps, f))
  unfolding made_at
  made_holds depth at p ps f good =
      let f1 = begun false (next_type f) at (with_type f) in
      let s = next_type f in
      let good1 = opened_good at f good in
      let within = type_within f in
      holds_then (λ (y : ℕ × State). ((s < length y.1.1.value_types) × (n ≤ length y.1.1.value_types)) × (Numbered b s f1 y.1.1 × (length y.1.1.given + weights count.Numbers y.1.0 ≤ length f1.given + weights count.Numbers (p ∷ ps))) × NumberHas b s y.0 y.1.1) (NewFound (p ∷ ps) f)
      (number_at b depth s (p ∷ ps, f1)) (λ x. Ok (entry (next_new b x.1.1) s at, (x.1.0, record x.1.1 { new = x.1.1.new ++ (new.Constant x.0 s ∷ []) })))
      (number_holds b s start depth (p ∷ ps) f1 (within, good1.sound.long))
      (λ x h.
      let g = x.1.1 in
      let v = new.Constant x.0 s in
      let z = record g { new = g.new ++ (v ∷ []) } in
      let m1 = new_numbered b s f1 g h.1.0 in
      let good2 = good_same b f1 g m1 (ap (λ (r : Rest). r.new) h.1.0.rest) (sound_numbered s f1 g h.1.0 good1.sound) good1 in
      let push : NewMoved b g z = record { grown = grown_itself g.value_types; stays = λ i t e. e; news = λ k w e. at_more g.new (v ∷ []) k w e; types = λ r i. i; more = λ c i. i; left = refl } in
      let begins : NewBegun z s = (let o = opened_begun at f in (o.0, m1.types o.0 o.1, o.2)) in
      let sound : Sound n z = record { wide = good2.sound.wide; long = good2.sound.long; covered = good2.sound.covered } in
      let long = one_longer g.new v in (
        (
          good_more b g z v push refl sound (h.0.0, begins, h.2) good2,
          (new_through b f g z (new_through b f f1 g (opened_moved at f) m1) push, h.1.1),
        ),
        (h.0.0, inr (length g.new, v, omega (arith, long), refl, at_end g.new v, refl)),
        inr (omega (arith, long)),
      ))

  -- ---- constants
  word_holds : (depth at : ℕ) (name : List ℕ) (ps : Parts) (f : Sema) → NewGood b f → (t : Bool)
      → Holds (NewFound ((at, name_part name) ∷ ps) f) (if t then made_at b depth at ((at, name_part name) ∷ ps, f) else (value_from false at (place_of false name b.variables) f >>= λ e. Ok (trailing ps e)))
  word_holds depth at name ps f good true = made_holds depth at (at, name_part name) ps f good
  word_holds depth at name ps f good false = go (place_of false name b.variables) refl
    where
      go : (o : Option ℕ) → place_of false name b.variables ≡ o → Holds (NewFound ((at, name_part name) ∷ ps) f) (value_from false at o f >>= λ e. Ok (trailing ps e))
      go None e = tt
      go (Some i) e = variable_found at i (at, name_part name) ps f (place_within false name b.variables i e) good

  new_holds : (depth at : ℕ) (p : Part) (ps : Parts) (f : Sema) → NewGood b f → Holds (NewFound ((at, p) ∷ ps) f) (new_constant b depth ((at, p) ∷ ps, f))
  unfolding new_constant
  new_holds depth at (name_part name) ps f good = word_holds depth at name ps f good (is_truth name)
  new_holds depth at (literal_part negative magnitude) ps f good = made_holds depth at (at, literal_part negative magnitude) ps f good
  new_holds depth at (operation_part w asks) ps f good = made_holds depth at (at, operation_part w asks) ps f good
  new_holds depth at (value_part w) ps f good = made_holds depth at (at, value_part w) ps f good
  new_holds depth at (function_part w) ps f good = made_holds depth at (at, function_part w) ps f good
  new_holds depth at (condition_part w) ps f good = made_holds depth at (at, condition_part w) ps f good
  new_holds depth at (type_part w) ps f good = made_holds depth at (at, type_part w) ps f good
  new_holds depth at end_part ps f good = made_holds depth at (at, end_part) ps f good

  constant_holds : (depth at : ℕ) (p : Part) (ps : Parts) (f : Sema) → NewGood b f → Holds (NewFound ((at, p) ∷ ps) f) (typed_constant b false depth ((at, p) ∷ ps, f))
  unfolding typed_constant
  constant_holds depth at p ps f good =
      holds_then (NewFound ((at, p) ∷ ps) f) (NewFound ((at, p) ∷ ps) f) (new_constant b depth ((at, p) ∷ ps, f)) (typed_entry (literal_of ((at, p) ∷ ps))) (new_holds depth at p ps f good)
      (λ y h. entry_typed (literal_of ((at, p) ∷ ps)) ((at, p) ∷ ps) f y.0 y.1.0 y.1.1 h)

  -- ---- operations
  new_walk : (T : State → Outcome (TermRef × State)) → ((ps : Parts) (f : Sema) → NewGood b f → Holds (NewFound ps f) (T (ps, f))) → Walk T (λ ps f. NewGood b f) (NewStep b) NewEntry
  new_walk T step = record {
    still = λ ps f i. (new_still b f, omega arith);
    through = λ ps qs rs f g h x y. (new_through b f g h x.0 y.0, omega (arith, x.1, y.1));
    ends = λ left ps f i. (i, (new_still b f, omega arith));
    keeps = λ ps qs f g e x p. entry_moved f g x.0 e p;
    step = λ ps f i. holds_more (NewFound ps f) (λ (y : TermRef × State). NewGood b y.1.1 × NewStep b ps f y.1.0 y.1.1 × NewEntry y.0 y.1.1) (T (ps, f)) (step ps f i) (λ y h. (h.0.0, h.0.1, h.1));
  }

  closed_found : (at : ℕ) (name : List ℕ) (asks : Option (List ℕ)) (ps qs : Parts) (f g : Sema) (es : List TermRef) → NewGood b g → NewStep b ps (begun false (next_type f) at (with_type f)) qs g → AllByRecursion (λ e. NewEntry e g) es
      → Holds (λ (e : TermRef × Sema). NewFound ((at, operation_part name asks) ∷ ps) f (e.0, (qs, e.1))) (closed_at b false name asks es (next_type f) at g)
  closed_found at name asks ps qs f g es good step all =
      let f1 = begun false (next_type f) at (with_type f) in
      let s = next_type f in
      let first : s < length g.value_types = (let l = type_within f in omega (arith, l, step.0.grown.longer)) in
      holds_then (λ (y : Expression × Sema). FormStep n g y.1 × (has_name y.0 ≡ true) × FormTyped (NewSlot b g.new (length g.new)) y.1.value_types y.1.type_constraints s y.0)
      (λ (e : TermRef × Sema). NewFound ((at, operation_part name asks) ∷ ps) f (e.0, (qs, e.1)))
      (shaped (operation_named name) (requested_predicate asks) es s at g)
      (λ y. Ok (with_pattern_op b false (record { form = y.0; bare = is_bare (operation_named name) asks; ty = s }) s at y.1))
      (shaped_holds n (NewSlot b g.new (length g.new)) (operation_named name) (named_extends name) (requested_predicate asks) es s at g good.sound first all)
      (λ y x.
      let o : PatternOp = record { form = y.0; bare = is_bare (operation_named name) asks; ty = s } in
      let u = y.1 in
      let v = new.Operation o in
      let z = record u { new = u.new ++ (v ∷ []) } in
      let moved = new_form_step b n g u x.0 in
      let same : u.new ≡ g.new = ap (λ (r : Rest). r.new) x.0.rest in
      let given = ap (λ (r : Rest). length r.given) x.0.rest in
      let good2 = good_same b g u moved same x.0.sound good in
      let push : NewMoved b u z = record { grown = grown_itself u.value_types; stays = λ i t e. e; news = λ k w e. at_more u.new (v ∷ []) k w e; types = λ r i. i; more = λ c i. i; left = refl } in
      let whole = new_through b g u z moved push in
      let begins : NewBegun z s = (let o = opened_begun at f in (o.0, whole.types o.0 (step.0.types o.0 o.1), o.2)) in
      let sound : Sound n z = record { wide = x.0.sound.wide; long = x.0.sound.long; covered = x.0.sound.covered } in
      let slot : s < length u.value_types = omega (arith, first, x.0.grown.longer) in
      let count = ap length same in
      let form : FormTyped (NewSlot b z.new (length u.new)) z.value_types z.type_constraints s y.0 =
      form_still (NewSlot b g.new (length g.new)) (NewSlot b z.new (length u.new)) u.value_types u.value_types u.type_constraints u.type_constraints s y.0 (λ i t e. slot_moved b g z whole (length g.new) (length u.new) i t (omega (arith, count)) e) (grown_itself u.value_types) (λ c i. i) slot x.2 in
      let long = one_longer u.new v in (
        (
          good_more b u z v push refl sound (slot, begins, form) good2,
          (new_through b f g z (new_through b f f1 g (opened_moved at f) step.0) whole, omega (arith, step.1, given)),
        ),
        (slot, inr (length u.new, v, omega (arith, long), refl, at_end u.new v, refl)),
        inr (omega (arith, long)),
      ))

  operation_holds : (T : State → Outcome (TermRef × State)) → ((ps : Parts) (f : Sema) → NewGood b f → Holds (NewFound ps f) (T (ps, f))) → (at : ℕ) (name : List ℕ) (asks : Option (List ℕ)) (ps : Parts) (f : Sema)
      → NewGood b f → Holds (NewFound ((at, operation_part name asks) ∷ ps) f) (typed_operation b T false at name asks (ps, f))
  unfolding typed_operation operation_at
  operation_holds T step at name asks ps f good =
      let f1 = begun false (next_type f) at (with_type f) in
      let P : TermRef × State → Type 0 = NewFound ((at, operation_part name asks) ∷ ps) f in
      holds_then P P (gathered T headroom [] (ps, f1) >>= λ x. closed_at b false name asks x.0 (next_type f) at x.1.1 >>= λ e. Ok (trailing x.1.0 e)) (typed_entry None)
      (holds_then (λ (y : List TermRef × State). NewGood b y.1.1 × NewStep b ps f1 y.1.0 y.1.1 × AllByRecursion (λ e. NewEntry e y.1.1) y.0) P (gathered T headroom [] (ps, f1)) (λ x. closed_at b false name asks x.0 (next_type f) at x.1.1 >>= λ e. Ok (trailing x.1.0 e))
      (gathered_holds T (λ ps f. NewGood b f) (NewStep b) NewEntry (new_walk T step) headroom [] ps f1 (opened_good at f good) tt)
      (λ x h.
      holds_then (λ (e : TermRef × Sema). NewFound ((at, operation_part name asks) ∷ ps) f (e.0, (x.1.0, e.1))) P (closed_at b false name asks x.0 (next_type f) at x.1.1) (λ e. Ok (trailing x.1.0 e))
      (closed_found at name asks ps x.1.0 f x.1.1 x.0 h.0 h.1 h.2) (λ e w. w)))
      (λ y h. entry_typed None ((at, operation_part name asks) ∷ ps) f y.0 y.1.0 y.1.1 h)

  pub new_term_holds : (depth : ℕ) (ps : Parts) (f : Sema) → NewGood b f → Holds (NewFound ps f) (term_at b false depth (ps, f))
  unfolding term_at
  new_term_holds zero ps f good = tt
  new_term_holds (suc depth) [] f good = tt
  new_term_holds (suc depth) ((at, value_part name) ∷ ps) f good = value_holds at name ps f good
  new_term_holds (suc depth) ((at, operation_part name asks) ∷ ps) f good = operation_holds (term_at b false depth) (λ ps f i. new_term_holds depth ps f i) at name asks ps f good
  new_term_holds (suc depth) ((at, literal_part negative magnitude) ∷ ps) f good = constant_holds (suc depth) at (literal_part negative magnitude) ps f good
  new_term_holds (suc depth) ((at, name_part name) ∷ ps) f good = constant_holds (suc depth) at (name_part name) ps f good
  new_term_holds (suc depth) ((at, function_part name) ∷ ps) f good = constant_holds (suc depth) at (function_part name) ps f good
  new_term_holds (suc depth) ((at, condition_part name) ∷ ps) f good = constant_holds (suc depth) at (condition_part name) ps f good
  new_term_holds (suc depth) ((at, type_part name) ∷ ps) f good = constant_holds (suc depth) at (type_part name) ps f good
  new_term_holds (suc depth) ((at, end_part) ∷ ps) f good = constant_holds (suc depth) at end_part ps f good

  -- ---- conditions
  -- the state after a condition
  abbrev AfterCondition : ℕ → Parts → Sema → State → Type 0
  AfterCondition weight ps f y = NewGood b y.1 × NewMoved b f y.1 × (y.1.new ≡ f.new) × (length y.1.given + weights count.Numbers y.0 ≤ length f.given + (weight + weights count.Numbers ps))

  -- a type
  abbrev TypeStep : Parts → Sema → Parts → Sema → Type 0
  TypeStep ps f qs h = NewStep b ps f qs h × (h.new ≡ f.new)

  type_holds : (ps : Parts) (f : Sema) → NewGood b f → Holds (λ (y : ℕ × State). NewGood b y.1.1 × TypeStep ps f y.1.0 y.1.1 × Unit {0}) (type_at (ps, f))
  unfolding type_at
  type_holds [] f good = tt
  type_holds ((at, type_part w) ∷ ps) f good =
      let r = written_holds w (types_of f) in
      let slot = (written_at w f).0 in
      let g = (written_at w f).1 in
      let h = begun false slot at g in
      let ks = h.value_types in
      let m : NewMoved b f h = record {
        grown = r.grown;
        stays = λ i t e. e;
        news = λ k w e. e;
        types = λ t x. (x.0, at_more f.new_types (record { slot = slot; left = at } ∷ []) x.0 t x.1);
        more = λ c x. x;
        left = refl;
      } in
      let begins : Begun n (rest_of h) slot = inr (inr (record { slot = slot; left = at }, (length f.new_types, at_end f.new_types (record { slot = slot; left = at })), refl)) in
      let sound : Sound n h = record {
        wide = r.wide good.sound.wide;
        long = omega (arith, good.sound.long, r.grown.longer);
        covered = λ i l. elim (r.earlier i l) [
          | inl x ↦ covered_grown n f.value_types ks (rest_of f) (rest_of h) r.grown (λ j y. begun_new b f h m j y) i x (good.sound.covered i x)
          | inr x ↦ inr (slot, begins, subst (λ z. z < length ks) x l, ap (λ z. kind_of z ks) x)
        ];
      } in
      (good_same b f h m refl sound good, ((m, omega arith), refl), tt)
  type_holds ((at, operation_part w asks) ∷ ps) f good = tt
  type_holds ((at, value_part w) ∷ ps) f good = tt
  type_holds ((at, literal_part negative magnitude) ∷ ps) f good = tt
  type_holds ((at, name_part w) ∷ ps) f good = tt
  type_holds ((at, function_part w) ∷ ps) f good = tt
  type_holds ((at, condition_part w) ∷ ps) f good = tt
  type_holds ((at, end_part) ∷ ps) f good = tt

  type_walk : Walk type_at (λ ps f. NewGood b f) TypeStep (λ i f. Unit {0})
  type_walk = record {
    still = λ ps f i. ((new_still b f, omega arith), refl);
    through = λ ps qs rs f g h x y. ((new_through b f g h x.0.0 y.0.0, omega (arith, x.0.1, y.0.1)), y.1 ∙ x.1);
    ends = λ left ps f i. (i, ((new_still b f, omega arith), refl));
    keeps = λ ps qs f g e x p. tt;
    step = λ ps f i. type_holds ps f i;
  }

  narrowed_holds : (xs : List ℕ) (at : ℕ) (f : Sema) → NewGood b f → Holds (λ h. NewGood b h × NewMoved b f h × (h.new ≡ f.new) × (h.given ≡ f.given)) (narrowed xs at f)
  narrowed_holds [] at f good = tt
  narrowed_holds (i ∷ []) at f good = tt
  narrowed_holds (i ∷ j ∷ k ∷ xs) at f good = tt
  narrowed_holds (i ∷ j ∷ []) at f good =
      let m : NewMoved b f _ = record { grown = grown_itself f.value_types; stays = λ i t e. e; news = λ k w e. e; types = λ t x. x; more = λ c x. (x.0, at_more f.type_constraints _ x.0 c x.1); left = refl } in
      (good_same b f _ m refl (record { wide = good.sound.wide; long = good.sound.long; covered = good.sound.covered }) good, m, refl, refl)

  types_hold : (at : ℕ) (ps : Parts) (f : Sema) → NewGood b f → Holds (AfterCondition 0 ps f) (types_requested at (ps, f))
  unfolding types_requested
  types_hold at ps f good =
      holds_then (λ (y : List ℕ × State). NewGood b y.1.1 × TypeStep ps f y.1.0 y.1.1 × AllByRecursion (λ i. Unit {0}) y.0) (AfterCondition 0 ps f) (gathered type_at headroom [] (ps, f)) (λ x. narrowed x.0 at x.1.1 >>= λ f. Ok (x.1.0, f))
      (gathered_holds type_at (λ ps f. NewGood b f) TypeStep (λ i f. Unit {0}) type_walk headroom [] ps f good tt)
      (λ x h.
      holds_then (λ z. NewGood b z × NewMoved b x.1.1 z × (z.new ≡ x.1.1.new) × (z.given ≡ x.1.1.given)) (AfterCondition 0 ps f) (narrowed x.0 at x.1.1) (λ f. Ok (x.1.0, f)) (narrowed_holds x.0 at x.1.1 h.0)
      (λ z u. let g = ap length u.3 in (u.0, new_through b f x.1.1 z h.1.0.0 u.1, u.2 ∙ h.1.1, omega (arith, h.1.0.1, g))))

  -- numbers, and a condition on them
  abbrev Visited : ℕ → ℕ → Sema → Sema → Type 0
  Visited s weight f h = Numbered b s f h × (length h.given ≤ length f.given + weight)

  number_more : (s : ℕ) (c : ConstantExpression) (f : Sema) → Numbered b s f (record f { given = f.given ++ (c ∷ []) })
  number_more s c f = pushed b s start c f

  comparing_holds : (s : ℕ) (o : Option Predicate) (xs : List ℕ) (at : ℕ) (f : Sema) → Holds (Visited s 2 f) (comparing b o xs at f)
  comparing_holds s (Some p) (i ∷ j ∷ []) at f =
      let c = number.Compare p i j in
      let g = record f { given = f.given ++ (c ∷ []) } in
      let d = number.Require (next_number b f) in
      let l = one_longer f.given c in
      let m = one_longer g.given d in
      (numbered_through b s f g (record g { given = g.given ++ (d ∷ []) }) (number_more s c f) (number_more s d g), omega (arith, l, m))
  comparing_holds s o xs at f = tt

  power_holds : (s : ℕ) (xs : List ℕ) (at : ℕ) (f : Sema) → Holds (Visited s 1 f) (a_power b xs at f)
  power_holds s (i ∷ []) at f = let l = one_longer f.given (number.Log2 i) in (number_more s (number.Log2 i) f, omega (arith, l))
  power_holds s xs at f = tt

  visited_holds : (s : ℕ) (w : List ℕ) (xs : List ℕ) (at : ℕ) (f : Sema) → is_narrower w ≡ false → Holds (Visited s (condition_weight w) f) (visited_by b w xs at f)
  visited_holds s w xs at f e = subst (λ (t : Bool). Holds (Visited s (if t then 0 else if is_power w then 1 else 2) f) (visited_by b w xs at f)) (sym e) (go (is_power w))
    where
      go : (t : Bool) → Holds (Visited s (if t then 1 else 2) f) (if t then a_power b xs at f else comparing b (predicate_named w) xs at f)
      go true = power_holds s xs at f
      go false = comparing_holds s (predicate_named w) xs at f

  same_itself : (s : ℕ) → same_kind (ty.Variable s) (ty.Variable s) ≡ true
  same_itself s = eq-eqb s s refl

  last_kind : (ks : List PatternType) (k : PatternType) → kind_of (length ks) (ks ++ (k ∷ [])) ≡ k
  last_kind [] k = refl
  last_kind (j ∷ ks) k = last_kind ks k

  -- a type that isn't its own variable is covered
  settled_sound : (f g : Sema) → Sound n f → Numbered b (next_type f) (with_type f) g → is_free (next_type f) g ≡ false → Sound n g
  settled_sound f g sound x free =
      let s = next_type f in
      let k = ty.Variable (length f.value_types) in
      let f1 = with_type f in
      let one : length f1.value_types ≡ length f.value_types + 1 = one_longer f.value_types k in
      let long = x.long in
      let grown = grown_through f.value_types f1.value_types g.value_types (grown_more f.value_types (k ∷ [])) x.grown in
      let last : kind_of s f1.value_types ≡ ty.Variable s = last_kind f.value_types k in
      let its : Covered n g.value_types (rest_of g) s = elim (x.free (inl last)) [
        | inl e ↦ absurd (true≢false (sym (ap (λ z. same_kind z (ty.Variable s)) e ∙ same_itself s) ∙ free))
        | inr c ↦ c
      ] in
      record {
        wide = x.wide (wide_more f.value_types k sound.wide refl);
        long = omega (arith, sound.long, grown.longer);
        covered = λ i l. elim (last_or i (length f.value_types) (omega (arith, l, long, one))) [
          | inl e ↦ covered_grown n f.value_types g.value_types (rest_of f) (rest_of g) grown (λ j y. begun_but_given n (rest_of f1) (rest_of g) x.rest j y) i e (sound.covered i e)
          | inr e ↦ subst (λ i. Covered n g.value_types (rest_of g) i) (sym e) its
        ];
      }

  requested_holds : (at : ℕ) (w : List ℕ) (ps : Parts) (f : Sema) → is_narrower w ≡ false → NewGood b f → Holds (AfterCondition (condition_weight w) ps f) (numbers_requested b at w (ps, f))
  unfolding numbers_requested
  requested_holds at w ps f other good =
      let s = next_type f in
      let f1 = with_type f in
      let one : length f1.value_types ≡ length f.value_types + 1 = one_longer f.value_types (ty.Variable (length f.value_types)) in
      holds_then (λ (y : List ℕ × State). ((s < length y.1.1.value_types) × (n ≤ length y.1.1.value_types)) × (Numbered b s f1 y.1.1 × (length y.1.1.given + weights count.Numbers y.1.0 ≤ length f1.given + weights count.Numbers ps)) × AllByRecursion (λ i. NumberHas b s i y.1.1) y.0) (AfterCondition (condition_weight w) ps f)
      (gathered (number_at b number_depth s) headroom [] (ps, f1)) (λ x. visited_by b w x.0 at x.1.1 >>= λ f. named_at s at f >>= λ g. Ok (x.1.0, g))
      (numbers_hold b s start number_depth ps f1 (omega (arith, one), omega (arith, one, good.sound.long)))
      (λ x h.
      holds_then (Visited s (condition_weight w) x.1.1) (AfterCondition (condition_weight w) ps f) (visited_by b w x.0 at x.1.1) (λ f. named_at s at f >>= λ g. Ok (x.1.0, g)) (visited_holds s w x.0 at x.1.1 other)
      (λ u v. named x.1.0 x.1.1 u h.1 v))
    where
      named : (qs : Parts) (g u : Sema) → Numbered b (next_type f) (with_type f) g × (length g.given + weights count.Numbers qs ≤ length (with_type f).given + weights count.Numbers ps) → Visited (next_type f) (condition_weight w) g u
          → Holds (AfterCondition (condition_weight w) ps f) (named_at (next_type f) at u >>= λ g. Ok (qs, g))
      named qs g u x v = go (is_free (next_type f) u) refl
        where
          go : (t : Bool) → is_free (next_type f) u ≡ t → Holds (AfterCondition (condition_weight w) ps f) ((if t then refused TypeMismatch at else Ok u) >>= λ g. Ok (qs, g))
          go true e = tt
          go false e =
              let whole = numbered_through b (next_type f) (with_type f) g u x.0 v.0 in
              let first : NewMoved b f (with_type f) = record { grown = grown_more f.value_types (ty.Variable (length f.value_types) ∷ []); stays = λ i t e. e; news = λ k w e. e; types = λ t x. x; more = λ c x. x; left = refl } in
              let m = new_through b f (with_type f) u first (new_numbered b (next_type f) (with_type f) u whole) in
              let same = ap (λ (r : Rest). r.new) whole.rest in
              (good_same b f u m same (settled_sound f u good.sound whole e) good, m, same, omega (arith, x.1, v.1))

  condition_holds : (at : ℕ) (w : List ℕ) (ps : Parts) (f : Sema) → NewGood b f → Holds (AfterCondition (condition_weight w) ps f) (condition_at b at w (ps, f))
  condition_holds at w ps f good = go (is_narrower w) refl
    where
      go : (t : Bool) → is_narrower w ≡ t → Holds (AfterCondition (condition_weight w) ps f) (if t then types_requested at (ps, f) else numbers_requested b at w (ps, f))
      go true e =
          holds_more (AfterCondition 0 ps f) (AfterCondition (condition_weight w) ps f) (types_requested at (ps, f)) (types_hold at ps f good) (λ y h. (h.0, h.1, h.2, omega (arith, h.3)))
      go false e = requested_holds at w ps f e good

  pub conditions_hold : (k : ℕ) (ps : Parts) (f : Sema) → NewGood b f → Holds (λ h. NewGood b h × NewMoved b f h × (h.new ≡ f.new) × (length h.given ≤ length f.given + weights count.Numbers ps)) (conditions_at b k (ps, f))
  unfolding conditions_at
  conditions_hold zero ps f good = tt
  conditions_hold (suc k) [] f good = (good, new_still b f, refl, omega arith)
  conditions_hold (suc k) ((at, condition_part w) ∷ ps) f good =
      holds_then (AfterCondition (condition_weight w) ps f) (λ h. NewGood b h × NewMoved b f h × (h.new ≡ f.new) × (length h.given ≤ length f.given + weights count.Numbers ((at, condition_part w) ∷ ps))) (condition_at b at w (ps, f)) (conditions_at b k) (condition_holds at w ps f good)
      (λ y a.
      holds_more (λ h. NewGood b h × NewMoved b y.1 h × (h.new ≡ y.1.new) × (length h.given ≤ length y.1.given + weights count.Numbers y.0)) (λ h. NewGood b h × NewMoved b f h × (h.new ≡ f.new) × (length h.given ≤ length f.given + weights count.Numbers ((at, condition_part w) ∷ ps))) (conditions_at b k (y.0, y.1)) (conditions_hold k y.0 y.1 a.0)
      (λ h c. (c.0, new_through b f y.1 h a.1 c.1, c.2 ∙ a.2, omega (arith, a.3, c.3))))
  conditions_hold (suc k) ((at, operation_part w asks) ∷ ps) f good = tt
  conditions_hold (suc k) ((at, value_part w) ∷ ps) f good = tt
  conditions_hold (suc k) ((at, literal_part negative magnitude) ∷ ps) f good = tt
  conditions_hold (suc k) ((at, name_part w) ∷ ps) f good = tt
  conditions_hold (suc k) ((at, function_part w) ∷ ps) f good = tt
  conditions_hold (suc k) ((at, type_part w) ∷ ps) f good = tt
  conditions_hold (suc k) ((at, end_part) ∷ ps) f good = tt
