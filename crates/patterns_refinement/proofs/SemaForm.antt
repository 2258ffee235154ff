-- The pattern that semantic analysis makes: its types are sound, and its places are those that the analysis assigned.
use Rattle.std.proofs.Common.{◌≡◌, ℕ, zero, suc, ◌+◌, ◌-◌, ◌<◌, ◌≤◌, Bool, true, false, if◌then◌else◌, List, [], ◌∷◌, ◌++◌, length, map, Some, Ok, Err, refl, sym, ap, subst, ◌∙◌, ◌⊎◌, inl, inr, arith, slice_get}
use Rattle.std.specs.Prelude.{nat_lt}
use Rattle.std.specs.List.{list_all, range_with_len}
use Rattle.std.proofs.lemmas.List.FromFn.{length-map-range_with_len}
use Rattle.std.proofs.lemmas.Option.{none-some, same_Some}
use Rattle.ir_text_tokens.specs.declared.refusal.TextRefusal.TheVariants.{TooMany, TypeMismatch, Unexpected}
use Rattle.user_patterns_text.specs.Parts.{Pattern}
use Rattle.user_patterns_text.specs.Refusing.{Outcome, ◌>>=◌, refused}
use Rattle.user_patterns_data.specs.declared.pattern.PatternType.{PatternType}
use Rattle.user_patterns_data.specs.declared.pattern.PatternType.TheVariants as ty
use Rattle.user_patterns_data.specs.declared.pattern.ExtraConstant.TheVariants as extra
use Rattle.user_patterns_data.specs.declared.pattern.PatternOp.{PatternOp}
use Rattle.user_patterns_data.specs.declared.pattern.TypeConstraint.{TypeConstraint}
use Rattle.user_patterns_data.specs.Shapes.{PatternModel}
use Rattle.user_patterns_data.specs.WellFormed.{is_well_formed}
use Rattle.user_patterns_build.specs.CanBuild.{has_name}
use Rattle.user_patterns_sema_base.specs.declared.names.Count.{Count}
use Rattle.user_patterns_sema_base.specs.declared.names.Count.TheVariants as count
use Rattle.user_patterns_sema_base.specs.Names as names
use Rattle.user_patterns_sema_base.specs.Names.{all_known, counted, most_of, names_of, taken, weight}
use Rattle.user_patterns_sema_base.specs.Types.{kind_of}
use Rattle.user_patterns_sema_base.specs.Views.{Variable}
use Rattle.user_patterns_sema.specs.declared.state.CastConstraint.{CastConstraint}
use Rattle.user_patterns_sema.specs.declared.state.RequiredType.{RequiredType}
use Rattle.user_patterns_sema.specs.declared.state.TermRef.{TermRef}
use Rattle.user_patterns_sema.specs.Sema.{Places, Sema, State, all_cast, all_determined, all_fit, all_numbered, begins_with, cast_requested, conditions_at, constants_of, count_constants, finished, finished_with, is_determined, kinds_found, old_depth, places_of, settled, sides_wellformed, term_at, unite, variables_found, wellformed, with_all, with_casts}
use Rattle.patterns_refinement.proofs.SemaSteps.{At, Holds, Parts, at_more, holds_itself, holds_more, holds_then}
use Rattle.patterns_refinement.proofs.SemaTypes.{AllWide, Rest, Same, rest_of, sound_unified, unite_holds, wide_at}
use Rattle.patterns_refinement.proofs.SemaNumbers.{weights}
use Rattle.patterns_refinement.proofs.SemaOlds.{AllTaken, Justified, OldGood, Right, old_holds, right_of, taken_holds}
use Rattle.patterns_refinement.proofs.SemaOlds as olds
use Rattle.patterns_refinement.proofs.SemaNews.{Left, NewGood, NewMoved, conditions_hold, left_of, new_rest, new_term_holds, new_through}
use Rattle.patterns_refinement.proofs.SemaNews as news

-- ---- counts
counted_holds : (c : Count) (ps : Parts) (k : ℕ) → Holds (λ m. m ≡ k + weights c ps) (counted c k ps)
unfolding counted
counted_holds c [] k = same k
  where
    same : (k : ℕ) → k ≡ k + 0
    same k = omega arith
counted_holds c (p ∷ ps) k = go (counted_holds c ps (k + weight c p.1)) (nat_lt (most_of c) (k + weight c p.1))
  where
    same : (k w m : ℕ) → k + w + m ≡ k + (w + m)
    same k w m = omega arith

    go : Holds (λ m. m ≡ k + weight c p.1 + weights c ps) (counted c (k + weight c p.1) ps) → (t : Bool) → Holds (λ m. m ≡ k + (weight c p.1 + weights c ps)) (if t then refused TooMany p.0 else counted c (k + weight c p.1) ps)
    go more true = tt
    go more false = holds_more (λ m. m ≡ k + weight c p.1 + weights c ps) (λ m. m ≡ k + (weight c p.1 + weights c ps)) (counted c (k + weight c p.1) ps) more (λ m e. e ∙ same k (weight c p.1) (weights c ps))

pub record Counted (p : Pattern) (x : names.Names) : Type 0 where
  pub variables : taken [] p.old ≡ Ok x.variables
  pub constants : x.constants ≡ 0 + weights count.Constants p.old
  pub numbers : x.numbers ≡ 0 + weights count.Numbers p.new + weights count.Numbers p.conditions

any_known : (vs : List Variable) (ps : Parts) → Holds (λ u. Unit {0}) (all_known vs ps)
any_known vs ps = holds_more (λ u. all_known vs ps ≡ Ok u) (λ u. Unit {0}) (all_known vs ps) (holds_itself (all_known vs ps)) (λ u e. tt)

names_hold : (p : Pattern) → Holds (Counted p) (names_of p)
unfolding names_of
names_hold p =
    holds_then (λ vs. taken [] p.old ≡ Ok vs) (Counted p) (taken [] p.old)
    (λ vs. counted count.Operations 0 p.old >>= λ old. counted count.Operations 0 p.new >>= λ new. counted count.Constants 0 p.old >>= λ constants. counted count.Numbers 0 p.new >>= λ numbers. counted count.Numbers numbers p.conditions >>= λ all. all_known vs p.new >>= λ known. all_known vs p.conditions >>= λ u. Ok (record { variables = vs; constants = constants; old = old; numbers = all }))
    (holds_itself (taken [] p.old))
    (λ vs a.
    holds_then (λ m. m ≡ 0 + weights count.Operations p.old) (Counted p) (counted count.Operations 0 p.old)
    (λ old. counted count.Operations 0 p.new >>= λ new. counted count.Constants 0 p.old >>= λ constants. counted count.Numbers 0 p.new >>= λ numbers. counted count.Numbers numbers p.conditions >>= λ all. all_known vs p.new >>= λ known. all_known vs p.conditions >>= λ u. Ok (record { variables = vs; constants = constants; old = old; numbers = all }))
    (counted_holds count.Operations p.old 0)
    (λ old b.
    holds_then (λ m. m ≡ 0 + weights count.Operations p.new) (Counted p) (counted count.Operations 0 p.new)
    (λ new. counted count.Constants 0 p.old >>= λ constants. counted count.Numbers 0 p.new >>= λ numbers. counted count.Numbers numbers p.conditions >>= λ all. all_known vs p.new >>= λ known. all_known vs p.conditions >>= λ u. Ok (record { variables = vs; constants = constants; old = old; numbers = all }))
    (counted_holds count.Operations p.new 0)
    (λ new c.
    holds_then (λ m. m ≡ 0 + weights count.Constants p.old) (Counted p) (counted count.Constants 0 p.old)
    (λ constants. counted count.Numbers 0 p.new >>= λ numbers. counted count.Numbers numbers p.conditions >>= λ all. all_known vs p.new >>= λ known. all_known vs p.conditions >>= λ u. Ok (record { variables = vs; constants = constants; old = old; numbers = all }))
    (counted_holds count.Constants p.old 0)
    (λ constants d.
    holds_then (λ m. m ≡ 0 + weights count.Numbers p.new) (Counted p) (counted count.Numbers 0 p.new)
    (λ numbers. counted count.Numbers numbers p.conditions >>= λ all. all_known vs p.new >>= λ known. all_known vs p.conditions >>= λ u. Ok (record { variables = vs; constants = constants; old = old; numbers = all }))
    (counted_holds count.Numbers p.new 0)
    (λ numbers e.
    holds_then (λ m. m ≡ numbers + weights count.Numbers p.conditions) (Counted p) (counted count.Numbers numbers p.conditions)
    (λ all. all_known vs p.new >>= λ known. all_known vs p.conditions >>= λ u. Ok (record { variables = vs; constants = constants; old = old; numbers = all }))
    (counted_holds count.Numbers p.conditions numbers)
    (λ all f.
    holds_then (λ u. Unit {0}) (Counted p) (all_known vs p.new) (λ known. all_known vs p.conditions >>= λ u. Ok (record { variables = vs; constants = constants; old = old; numbers = all })) (any_known vs p.new)
    (λ known g.
    holds_then (λ u. Unit {0}) (Counted p) (all_known vs p.conditions) (λ u. Ok (record { variables = vs; constants = constants; old = old; numbers = all })) (any_known vs p.conditions)
    (λ u h. record { variables = a; constants = d; numbers = f ∙ ap (λ m. m + weights count.Numbers p.conditions) e }))))))))

-- ---- the first state
all_variables : (xs : List ℕ) → AllWide (map ty.Variable xs)
all_variables [] = refl
all_variables (x ∷ xs) = all_variables xs

begins_good : (b : Places) (p : Pattern) → taken [] p.old ≡ Ok b.variables → OldGood b p.old (begins_with (length b.variables))
begins_good b p e =
    let n = length b.variables in
    let long : length (map ty.Variable (range_with_len 0 n)) ≡ n = length-map-range_with_len ty.Variable 0 n in
    record {
      sound = record {
        wide = all_variables (range_with_len 0 n);
        long = omega (arith, long);
        covered = λ i l. inr (i, inl (omega (arith, l, long)), l, refl);
      };
      named = refl;
      names = record { before = []; all = e; below = λ i a. absurd (none-some i a.1); counted = omega arith };
    }

-- ---- the end
-- the pattern of a state
abbrev pub pattern_from : Places → ℕ → ℕ → Sema → PatternModel
pattern_from b root result g =
    record {
      types = length (variables_found g);
      value_types = all_numbered (variables_found g) g.value_types;
      values = range_with_len 0 (length b.variables);
      constants = constants_of 0 b.variables;
      extra = g.extra;
      type_constraints = g.type_constraints;
      given = g.given;
      old = g.old;
      root = root;
      new = g.new;
      result = result;
    }

cast_holds : (ks : List PatternType) (cs : List CastConstraint) (found : List TypeConstraint) → Holds (λ list. (c : TypeConstraint) → At found c → At list c) (all_cast ks found cs)
unfolding all_cast
cast_holds ks [] found = λ c i. i
cast_holds ks (x ∷ cs) found =
    holds_then (λ k. cast_requested ks x ≡ Ok k) (λ list. (c : TypeConstraint) → At found c → At list c) (cast_requested ks x) (λ k. all_cast ks (found ++ k ∷ []) cs) (holds_itself (cast_requested ks x))
    (λ k e.
    holds_more (λ list. (c : TypeConstraint) → At (found ++ (k ∷ [])) c → At list c) (λ list. (c : TypeConstraint) → At found c → At list c) (all_cast ks (found ++ (k ∷ [])) cs) (cast_holds ks cs (found ++ (k ∷ [])))
    (λ list h c i. h c (i.0, at_more found (k ∷ []) i.0 c i.1)))

determined_holds : (ks : List PatternType) (olds : List ℕ) (ts : List RequiredType) → Holds (λ u. (r : RequiredType) → At ts r → is_determined ks olds (kind_of r.slot ks) ≡ true) (all_determined ks olds ts)
unfolding all_determined
determined_holds ks olds [] = λ r i. absurd (none-some r i.1)
determined_holds ks olds (t ∷ ts) = go (determined_holds ks olds ts) (is_determined ks olds (kind_of t.slot ks)) refl
  where
    step : is_determined ks olds (kind_of t.slot ks) ≡ true → ((r : RequiredType) → At ts r → is_determined ks olds (kind_of r.slot ks) ≡ true) → (r : RequiredType) (k : ℕ) → slice_get (t ∷ ts) k ≡ Some r → is_determined ks olds (kind_of r.slot ks) ≡ true
    step e more r zero i = subst (λ (r : RequiredType). is_determined ks olds (kind_of r.slot ks) ≡ true) (same_Some t r i) e
    step e more r (suc k) i = more r (k, i)

    go : Holds (λ u. (r : RequiredType) → At ts r → is_determined ks olds (kind_of r.slot ks) ≡ true) (all_determined ks olds ts) → (b : Bool) → is_determined ks olds (kind_of t.slot ks) ≡ b
        → Holds (λ u. (r : RequiredType) → At (t ∷ ts) r → is_determined ks olds (kind_of r.slot ks) ≡ true) (if b then all_determined ks olds ts else refused TypeMismatch t.left)
    go more true e = holds_more (λ u. (r : RequiredType) → At ts r → is_determined ks olds (kind_of r.slot ks) ≡ true) (λ u. (r : RequiredType) → At (t ∷ ts) r → is_determined ks olds (kind_of r.slot ks) ≡ true) (all_determined ks olds ts) more (λ u m r i. step e m r i.0 i.1)
    go more false e = tt

-- the state with all constraints
pub record Settled (f g : Sema) : Type 0 where
  pub list : List TypeConstraint
  pub more : (c : TypeConstraint) → At f.type_constraints c → At list c
  pub determined : (r : RequiredType) → At f.new_types r → is_determined f.value_types f.old_types (kind_of r.slot f.value_types) ≡ true
  pub is : g ≡ record f { type_constraints = list }

settled_holds : (f : Sema) → Holds (Settled f) (settled f)
settled_holds f =
    holds_then (λ u. (r : RequiredType) → At f.new_types r → is_determined f.value_types f.old_types (kind_of r.slot f.value_types) ≡ true) (Settled f) (all_determined f.value_types f.old_types f.new_types)
    (λ u. all_fit f.value_types f.literals >>= λ v. with_casts f) (determined_holds f.value_types f.old_types f.new_types)
    (λ u d.
    holds_then (λ u. all_fit f.value_types f.literals ≡ Ok u) (Settled f) (all_fit f.value_types f.literals) (λ v. with_casts f) (holds_itself (all_fit f.value_types f.literals))
    (λ v e. by d (all_cast f.value_types f.type_constraints f.casts) (cast_holds f.value_types f.casts f.type_constraints)))
  where
    by : ((r : RequiredType) → At f.new_types r → is_determined f.value_types f.old_types (kind_of r.slot f.value_types) ≡ true) → (o : Outcome (List TypeConstraint)) → Holds (λ list. (c : TypeConstraint) → At f.type_constraints c → At list c) o → Holds (Settled f) (with_all f o)
    by d (Ok list) m = record { list = list; more = m; determined = d; is = refl }
    by d (Err e) m = tt

-- the pattern is that of a settled state
pub record Ended (b : Places) (root result : ℕ) (f : Sema) (s : PatternModel) : Type 0 where
  pub last : Sema
  pub settles : Settled f last
  pub is : s ≡ pattern_from b root result last

finished_holds : (b : Places) (root result : ℕ) (f : Sema) → Holds (Ended b root result f) (finished b root result f)
unfolding finished
finished_holds b root result f =
    holds_then (Settled f) (Ended b root result f) (settled f) (λ g. finished_with b root result g (kinds_found (variables_found g) g.value_types)) (settled_holds f)
    (λ g s. go g s (is_well_formed (pattern_from b root result g)))
  where
    go : (g : Sema) → Settled f g → (t : Bool) → Holds (Ended b root result f) (if t then Ok (pattern_from b root result g) else refused Unexpected 0)
    go g s true = record { last = g; settles = s; is = refl }
    go g s false = tt

-- ---- both sides and the conditions
pub record Analyzed (b : Places) (p : Pattern) (root result : ℕ) (f : Sema) : Type 0 where
  pub good : NewGood b f
  pub named : list_all (λ (o : PatternOp). has_name o.form) f.old ≡ true
  pub just : (j : ℕ) → At f.old_types j → Justified (length b.variables) (rest_of f) j
  pub few_extra : length f.extra + count_constants b.variables ≤ weights count.Constants p.old
  pub few_given : length f.given ≤ weights count.Numbers p.new + weights count.Numbers p.conditions
  pub root_is : (root < length b.variables) ⊎ (((k : ℕ) × (root ≡ b.extra + k) × (k < length f.extra)) ⊎ (root + 1 ≡ b.old + length f.old))
  pub result_is : ((result < length b.variables) × (f.new ≡ [])) ⊎ (result + 1 ≡ b.new + length f.new)

-- the left side
record OldSide (b : Places) (p : Pattern) (e : TermRef) (f : Sema) : Type 0 where
  pub good : NewGood b f
  pub named : list_all (λ (o : PatternOp). has_name o.form) f.old ≡ true
  pub just : (j : ℕ) → At f.old_types j → Justified (length b.variables) (rest_of f) j
  pub few_extra : length f.extra + count_constants b.variables ≤ weights count.Constants p.old
  pub none_given : f.given ≡ []
  pub none_new : f.new ≡ []
  pub slot : e.slot < length f.value_types
  pub root_is : (e.place < length b.variables) ⊎ (((k : ℕ) × (e.place ≡ b.extra + k) × (k < length f.extra)) ⊎ (e.place + 1 ≡ b.old + length f.old))

old_side : (b : Places) (p : Pattern) → taken [] p.old ≡ Ok b.variables → Holds (λ (y : TermRef × State). OldSide b p y.0 y.1.1) (term_at b true old_depth (p.old, begins_with (length b.variables)))
old_side b p e =
    let f0 = begins_with (length b.variables) in
    holds_more (olds.OldFound b p.old f0) (λ (y : TermRef × State). OldSide b p y.0 y.1.1) (term_at b true old_depth (p.old, f0)) (old_holds b old_depth p.old f0 (begins_good b p e))
    (λ y h.
    let good = h.0.0 in
    let moved = h.0.1.0 in
    let f = y.1.1 in
    let no_new : f.new ≡ [] = ap (λ (r : Right). r.new) moved.right in
    let later : AllTaken good.names.before y.1.0 b.variables = subst (Holds (AllTaken good.names.before y.1.0)) good.names.all (taken_holds y.1.0 good.names.before) in
    record {
      good = record { sound = good.sound; news = λ k w i. absurd (none-some w (subst (λ ws. slice_get ws k ≡ Some w) no_new i)) };
      named = good.named;
      just = λ j i. elim (moved.just j i) [ inl z ↦ absurd (none-some j z.1) | inr z ↦ z ];
      few_extra = omega (arith, h.0.1.1, later.counted, good.names.counted);
      none_given = ap (λ (r : Right). r.given) moved.right;
      none_new = no_new;
      slot = h.1;
      root_is = h.2;
    })

-- a property of the parts that the right side leaves
left_same : (f h : Sema) → left_of (rest_of h) ≡ left_of (rest_of f) → (P : Left → Type 0) → P (left_of (rest_of f)) → P (left_of (rest_of h))
left_same f h e P p = subst P (sym e) p

just_same : (n : ℕ) (f h : Sema) → left_of (rest_of h) ≡ left_of (rest_of f) → ((j : ℕ) → At f.old_types j → Justified n (rest_of f) j) → (j : ℕ) → At h.old_types j → Justified n (rest_of h) j
just_same n f h e just j i = by (just j (subst (λ (r : Left). At r.old_types j) e i))
  where
    by : Justified n (rest_of f) j → Justified n (rest_of h) j
    by (inl l) = inl l
    by (inr (inl l)) = inr (inl (l.0, subst (λ (r : Left). At r.extra (extra.Literal l.0)) (sym e) l.1, l.2))
    by (inr (inr o)) = inr (inr (o.0, subst (λ (r : Left). At r.old o.0) (sym e) o.1, o.2))

-- the new side and the conditions
module _ (b : Places) (start : length b.variables ≤ b.given) (p : Pattern) where
  abbrev n : ℕ
  n = length b.variables

  conditions_side : (e r : TermRef) (qs : Parts) (f g h : Sema) → OldSide b p e f → news.NewFound b start p.new f (r, (qs, g)) → Same (kind_of e.slot g.value_types) (kind_of r.slot g.value_types) g h
      → Holds (Analyzed b p e.place r.place) (conditions_at b 17 (p.conditions, h))
  conditions_side e r qs f g h old x u =
      let wide = x.0.0.sound.wide in
      let m1 = x.0.1.0 in
      let m2 = new_rest b g h u.value_kinds.grown u.rest in
      let sound = sound_unified n (kind_of e.slot g.value_types) (kind_of r.slot g.value_types) g h x.0.0.sound u (wide_at g.value_types e.slot wide) (wide_at g.value_types r.slot wide) in
      let same : h.new ≡ g.new = ap (λ (r : Rest). r.new) u.rest in
      let good = news.good_same b g h m2 same sound x.0.0 in
      holds_more (λ z. NewGood b z × NewMoved b h z × (z.new ≡ h.new) × (length z.given ≤ length h.given + weights count.Numbers p.conditions)) (Analyzed b p e.place r.place) (conditions_at b 17 (p.conditions, h)) (conditions_hold b start 17 p.conditions h good)
      (λ z c.
      let m = new_through b f h z (new_through b f g h m1 m2) c.1 in
      let left = m.left in
      let extra = ap (λ (r : Left). length r.extra) left in
      let given1 = ap length old.none_given in
      let given2 = ap (λ (r : Rest). length r.given) u.rest in
      let news_same : z.new ≡ g.new = c.2 ∙ same in
      let count = ap length news_same in
      record {
        good = c.0;
        named = subst (λ (r : Left). list_all (λ (o : PatternOp). has_name o.form) r.old ≡ true) (sym left) old.named;
        just = just_same n f z left old.just;
        few_extra = omega (arith, old.few_extra, extra);
        few_given = omega (arith, x.0.1.1, c.3, given1, given2);
        root_is = subst (λ (l : Left). (e.place < n) ⊎ (((k : ℕ) × (e.place ≡ b.extra + k) × (k < length l.extra)) ⊎ (e.place + 1 ≡ b.old + length l.old))) (sym left) old.root_is;
        result_is = elim x.2 [
          | inl i ↦ inl (i.0, news_same ∙ i.1 ∙ old.none_new)
          | inr i ↦ inr (omega (arith, i, count))
        ];
      })

  -- both sides, the conditions and the end
  pub sides_hold : taken [] p.old ≡ Ok b.variables → Holds (λ (s : PatternModel). (root : ℕ) × (result : ℕ) × (f : Sema) × Analyzed b p root result f × Ended b root result f s) (sides_wellformed b p)
  unfolding sides_wellformed
  sides_hold e =
      let F : PatternModel → Type 0 = λ s. (root : ℕ) × (result : ℕ) × (f : Sema) × Analyzed b p root result f × Ended b root result f s in
      holds_then (λ (y : TermRef × State). OldSide b p y.0 y.1.1) F (term_at b true old_depth (p.old, begins_with (length b.variables)))
      (λ old. term_at b false 17 (p.new, old.1.1) >>= λ new. unite old.0.slot new.0.slot new.0.left new.1.1 >>= λ f. conditions_at b 17 (p.conditions, f) >>= λ g. finished b old.0.place new.0.place g)
      (old_side b p e)
      (λ old a.
      holds_then (news.NewFound b start p.new old.1.1) F (term_at b false 17 (p.new, old.1.1))
      (λ new. unite old.0.slot new.0.slot new.0.left new.1.1 >>= λ f. conditions_at b 17 (p.conditions, f) >>= λ g. finished b old.0.place new.0.place g)
      (new_term_holds b start 17 p.new old.1.1 a.good)
      (λ new c.
      holds_then (Same (kind_of old.0.slot new.1.1.value_types) (kind_of new.0.slot new.1.1.value_types) new.1.1) F (unite old.0.slot new.0.slot new.0.left new.1.1)
      (λ f. conditions_at b 17 (p.conditions, f) >>= λ g. finished b old.0.place new.0.place g)
      (unite_holds old.0.slot new.0.slot new.0.left new.1.1)
      (λ h u.
      holds_then (Analyzed b p old.0.place new.0.place) F (conditions_at b 17 (p.conditions, h)) (λ g. finished b old.0.place new.0.place g)
      (conditions_side old.0 new.0 new.1.0 old.1.1 new.1.1 h a c u)
      (λ g x. holds_more (Ended b old.0.place new.0.place g) F (finished b old.0.place new.0.place g) (finished_holds b old.0.place new.0.place g) (λ s y. (old.0.place, new.0.place, g, x, y))))))

-- ---- the pattern of a text's parts
pub record FromParts (s : PatternModel) : Type 0 where
  pub parts : Pattern
  pub known : names.Names
  pub counts : Counted parts known
  pub root : ℕ
  pub result : ℕ
  pub state : Sema
  pub analyzed : Analyzed (places_of known) parts root result state
  pub ended : Ended (places_of known) root result state s

pub wellformed_holds : (p : Pattern) → Holds FromParts (wellformed p)
unfolding wellformed
wellformed_holds p =
    holds_then (Counted p) FromParts (names_of p) (λ n. sides_wellformed (places_of n) p) (names_hold p)
    (λ n c.
    holds_more (λ (s : PatternModel). (root : ℕ) × (result : ℕ) × (f : Sema) × Analyzed (places_of n) p root result f × Ended (places_of n) root result f s) FromParts (sides_wellformed (places_of n) p)
    (sides_hold (places_of n) (low (length n.variables) (n.constants - count_constants n.variables)) p c.variables)
    (λ s h. record { parts = p; known = n; counts = c; root = h.0; result = h.1; state = h.2; analyzed = h.3; ended = h.4 }))
  where
    low : (a b : ℕ) → a ≤ a + b
    low a b = omega arith
