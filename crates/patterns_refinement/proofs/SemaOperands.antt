-- The types of an operation's operands, after semantic analysis.
use Rattle.std.proofs.Common.{◌≡◌, ℕ, ◌<◌, Bool, true, false, if◌then◌else◌, List, [], ◌∷◌, length, Option, Some, None, Ok, refl, sym, ap, subst, ◌∙◌, arith}
use Rattle.std.specs.Str.{bytes_eq}
use Rattle.std.specs.List.{AllByRecursion}
use Rattle.ir_types.specs.declared.bits.BitsKind.TheVariants as bits
use Rattle.dialects_int.specs.declared.operations.Arithmetic.{Arithmetic}
use Rattle.dialects_int.specs.declared.operations.Cast.TheVariants as cast
use Rattle.dialects_int.specs.declared.operations.Predicate.{Predicate}
use Rattle.user_patterns_text.specs.Refusing.{◌>>=◌}
use Rattle.user_patterns_data.specs.declared.pattern.PatternType.{PatternType}
use Rattle.user_patterns_data.specs.declared.pattern.PatternType.TheVariants as ty
use Rattle.user_patterns_data.specs.declared.pattern.Expression.{Expression}
use Rattle.user_patterns_data.specs.declared.pattern.Expression.TheVariants as form
use Rattle.user_patterns_data.specs.declared.pattern.TypeConstraint.{TypeConstraint}
use Rattle.user_patterns_data.specs.declared.pattern.TypeConstraint.TheVariants as constraint
use Rattle.user_patterns_build.specs.CanBuild.{has_name}
use Rattle.user_patterns_sema_base.specs.declared.words.Operation.{Operation}
use Rattle.user_patterns_sema_base.specs.declared.words.Operation.TheVariants as operation
use Rattle.user_patterns_sema_base.specs.Types.{kind_of}
use Rattle.user_patterns_sema_base.specs.Words.{of_pair, operation_named, other_named, pair_named}
use Rattle.user_patterns_sema.specs.declared.state.TermRef.{TermRef}
use Rattle.user_patterns_sema.specs.Sema.{Sema, and_cast, and_requested, chosen, paired, shaped, shaped_by_one, shaped_by_three, shaped_by_two, unite, unite_with}
use Rattle.patterns_refinement.specs.ForOutcomes.{has_width}
use Rattle.patterns_refinement.proofs.SemaSteps.{At, Holds, at_end, at_more, holds_more, holds_then}
use Rattle.patterns_refinement.proofs.SemaTypes.{Grown, Rest, Same, Sound, grown_itself, grown_through, rest_of, sound_unified, still_concrete, still_same, unite_holds, unite_with_holds, wide_at}

-- ---- words
-- an index cast extends
abbrev pub Extends : Option Operation → Type 0
Extends (Some (operation.IndexCast cast.Truncate)) = ⊥
Extends _ = Unit {0}

other_extends : (w : List ℕ) → Extends (other_named w)
unfolding other_named
other_extends w = first (bytes_eq w _) (bytes_eq w _) (bytes_eq w _) (bytes_eq w _) (bytes_eq w _) (bytes_eq w _) (bytes_eq w _)
  where
    first : (a b c d e f g : Bool) → Extends (if a then Some operation.Compare
        else if b then Some operation.Select
        else if c then Some (operation.IntegerCast cast.ExtendSigned)
        else if d then Some (operation.IntegerCast cast.ExtendUnsigned)
        else if e then Some (operation.IntegerCast cast.Truncate)
        else if f then Some (operation.IndexCast cast.ExtendSigned)
        else if g then Some (operation.IndexCast cast.ExtendUnsigned)
        else None)
    first true b c d e f g = tt
    first false true c d e f g = tt
    first false false true d e f g = tt
    first false false false true e f g = tt
    first false false false false true f g = tt
    first false false false false false true g = tt
    first false false false false false false true = tt
    first false false false false false false false = tt

pub named_extends : (w : List ℕ) → Extends (operation_named w)
unfolding operation_named
named_extends w = by (pair_named w)
  where
    by : (o : Option Arithmetic) → Extends (of_pair o (other_named w))
    by (Some o) = tt
    by None = other_extends w

-- ---- an operation's types
-- the type equals that of the result
abbrev pub IsOf : List PatternType → ℕ → ℕ → Type 0
IsOf ks u s = (u < length ks) × (kind_of u ks ≡ kind_of s ks)

abbrev pub IsOne : List PatternType → ℕ → Type 0
IsOne ks u = (u < length ks) × (kind_of u ks ≡ ty.Concrete (bits.Int 1))

-- the operands at places of types have the types that the operation needs, for a result of type s
abbrev pub FormTyped : (ℕ → ℕ → Type 0) → List PatternType → List TypeConstraint → ℕ → Expression → Type 0
FormTyped Q ks cs s (form.Binary o i j) = (u : ℕ) × (v : ℕ) × Q i u × Q j v × IsOf ks u s × IsOf ks v s
FormTyped Q ks cs s (form.Compare q i j) = (u : ℕ) × (v : ℕ) × Q i u × Q j v × (u < length ks) × IsOf ks v u × IsOne ks s
FormTyped Q ks cs s (form.Select c i j) = (t : ℕ) × (u : ℕ) × (v : ℕ) × Q c t × Q i u × Q j v × IsOne ks t × IsOf ks u s × IsOf ks v s
FormTyped Q ks cs s (form.IntegerCast cast.Truncate i) = (u : ℕ) × Q i u × (u < length ks) × At cs (constraint.Narrower s u)
FormTyped Q ks cs s (form.IntegerCast cast.ExtendSigned i) = Unit {0}
FormTyped Q ks cs s (form.IntegerCast cast.ExtendUnsigned i) = Unit {0}
FormTyped Q ks cs s (form.IndexCast cast.Truncate i) = ⊥
FormTyped Q ks cs s (form.IndexCast cast.ExtendSigned i) = Unit {0}
FormTyped Q ks cs s (form.IndexCast cast.ExtendUnsigned i) = Unit {0}

is_of_still : (ks ls : List PatternType) (u s : ℕ) → Grown ks ls → s < length ks → IsOf ks u s → IsOf ls u s
is_of_still ks ls u s g l h = (omega (arith, h.0, g.longer), still_same ks ls g u s h.0 l h.1)

is_one_still : (ks ls : List PatternType) (u : ℕ) → Grown ks ls → IsOne ks u → IsOne ls u
is_one_still ks ls u g h = (omega (arith, h.0, g.longer), still_concrete ks ls g u (bits.Int 1) h.0 h.1)

pub form_still : (Q R : ℕ → ℕ → Type 0) (ks ls : List PatternType) (cs ds : List TypeConstraint) (s : ℕ) (e : Expression) → ((i u : ℕ) → Q i u → R i u) → Grown ks ls → ((c : TypeConstraint) → At cs c → At ds c) → s < length ks
    → FormTyped Q ks cs s e → FormTyped R ls ds s e
form_still Q R ks ls cs ds s (form.Binary o i j) into g more l h = (h.0, h.1, into i h.0 h.2, into j h.1 h.3, is_of_still ks ls h.0 s g l h.4, is_of_still ks ls h.1 s g l h.5)
form_still Q R ks ls cs ds s (form.Compare q i j) into g more l h = (h.0, h.1, into i h.0 h.2, into j h.1 h.3, omega (arith, h.4, g.longer), is_of_still ks ls h.1 h.0 g h.4 h.5, is_one_still ks ls s g h.6)
form_still Q R ks ls cs ds s (form.Select c i j) into g more l h = (h.0, h.1, h.2, into c h.0 h.3, into i h.1 h.4, into j h.2 h.5, is_one_still ks ls h.0 g h.6, is_of_still ks ls h.1 s g l h.7, is_of_still ks ls h.2 s g l h.8)
form_still Q R ks ls cs ds s (form.IntegerCast cast.Truncate i) into g more l h = (h.0, into i h.0 h.1, omega (arith, h.2, g.longer), more (constraint.Narrower s h.0) h.3)
form_still Q R ks ls cs ds s (form.IntegerCast cast.ExtendSigned i) into g more l h = tt
form_still Q R ks ls cs ds s (form.IntegerCast cast.ExtendUnsigned i) into g more l h = tt
form_still Q R ks ls cs ds s (form.IndexCast cast.Truncate i) into g more l h = h
form_still Q R ks ls cs ds s (form.IndexCast cast.ExtendSigned i) into g more l h = tt
form_still Q R ks ls cs ds s (form.IndexCast cast.ExtendUnsigned i) into g more l h = tt

-- ---- a step that types an operation
-- the constraints and casts may grow, and the rest stays
abbrev pub but_constraints : Rest → Rest
but_constraints r = record r { casts = []; type_constraints = [] }

pub record FormStep (n : ℕ) (f h : Sema) : Type 0 where
  pub sound : Sound n h
  pub grown : Grown f.value_types h.value_types
  pub rest : but_constraints (rest_of h) ≡ but_constraints (rest_of f)
  pub more : (c : TypeConstraint) → At f.type_constraints c → At h.type_constraints c

module _ (n : ℕ) (Q : ℕ → ℕ → Type 0) where
  form_step_through : (f g h : Sema) → FormStep n f g → FormStep n g h → FormStep n f h
  form_step_through f g h x y = record {
    sound = y.sound;
    grown = grown_through f.value_types g.value_types h.value_types x.grown y.grown;
    rest = y.rest ∙ x.rest;
    more = λ c i. y.more c (x.more c i);
  }

  form_step_unified : (a b : PatternType) (f h : Sema) → Sound n f → has_width a ≡ true → has_width b ≡ true → Same a b f h → FormStep n f h
  form_step_unified a b f h s wa wb u = record {
    sound = sound_unified n a b f h s u wa wb;
    grown = u.value_kinds.grown;
    rest = ap but_constraints u.rest;
    more = λ c i. subst (λ (r : Rest). At r.type_constraints c) (sym u.rest) i;
  }

  -- two types are one
  together : (i j at : ℕ) (f : Sema) → Sound n f → i < length f.value_types → j < length f.value_types → Holds (λ h. FormStep n f h × (kind_of i h.value_types ≡ kind_of j h.value_types)) (unite i j at f)
  together i j at f s li lj =
      holds_more (Same (kind_of i f.value_types) (kind_of j f.value_types) f) (λ h. FormStep n f h × (kind_of i h.value_types ≡ kind_of j h.value_types)) (unite i j at f) (unite_holds i j at f)
      (λ h u. (
        form_step_unified (kind_of i f.value_types) (kind_of j f.value_types) f h s (wide_at f.value_types i s.wide) (wide_at f.value_types j s.wide) u,
        u.value_kinds.grown.at i li ∙ u.value_kinds.same ∙ sym (u.value_kinds.grown.at j lj),
      ))

  is_truth : (i at : ℕ) (f : Sema) → Sound n f → i < length f.value_types → Holds (λ h. FormStep n f h × (kind_of i h.value_types ≡ ty.Concrete (bits.Int 1))) (unite_with i (bits.Int 1) at f)
  is_truth i at f s l =
      let one = ty.Concrete (bits.Int 1) in
      holds_more (Same (kind_of i f.value_types) one f) (λ h. FormStep n f h × (kind_of i h.value_types ≡ one)) (unite_with i (bits.Int 1) at f) (unite_with_holds i (bits.Int 1) at f)
      (λ h u. (
        form_step_unified (kind_of i f.value_types) one f h s (wide_at f.value_types i s.wide) refl u,
        u.value_kinds.grown.at i l ∙ u.value_kinds.same ∙ u.value_kinds.grown.concrete (bits.Int 1),
      ))

  -- an operand has the type that its place has
  abbrev Entry : Sema → TermRef → Type 0
  Entry f e = (e.slot < length f.value_types) × Q e.place e.slot

  abbrev Result : Sema → ℕ → Expression × Sema → Type 0
  Result f s y = FormStep n f y.1 × (has_name y.0 ≡ true) × FormTyped Q y.1.value_types y.1.type_constraints s y.0

  paired_holds : (i j : TermRef) (s at : ℕ) (f : Sema) → Sound n f → s < length f.value_types → Entry f i → Entry f j
      → Holds (λ h. FormStep n f h × IsOf h.value_types i.slot s × IsOf h.value_types j.slot s) (paired i j s at f)
  paired_holds i j s at f sound l p q =
      holds_then (λ g. FormStep n f g × (kind_of i.slot g.value_types ≡ kind_of j.slot g.value_types)) (λ h. FormStep n f h × IsOf h.value_types i.slot s × IsOf h.value_types j.slot s)
      (unite i.slot j.slot j.left f) (unite i.slot s at) (together i.slot j.slot j.left f sound p.0 q.0)
      (λ g x.
      let li : i.slot < length g.value_types = omega (arith, p.0, x.0.grown.longer) in
      let lj : j.slot < length g.value_types = omega (arith, q.0, x.0.grown.longer) in
      let ls : s < length g.value_types = omega (arith, l, x.0.grown.longer) in
      holds_more (λ h. FormStep n g h × (kind_of i.slot h.value_types ≡ kind_of s h.value_types)) (λ h. FormStep n f h × IsOf h.value_types i.slot s × IsOf h.value_types j.slot s)
      (unite i.slot s at g) (together i.slot s at g x.0.sound li ls)
      (λ h y. (
        form_step_through f g h x.0 y.0,
        (omega (arith, li, y.0.grown.longer), y.1),
        (omega (arith, lj, y.0.grown.longer), still_same g.value_types h.value_types y.0.grown j.slot i.slot lj li (sym x.1) ∙ y.1),
      )))

  by_two : (o : Option Operation) (p : Option Predicate) (i j : TermRef) (s at : ℕ) (f : Sema) → Sound n f → s < length f.value_types → Entry f i → Entry f j → Holds (Result f s) (shaped_by_two o p i j s at f)
  by_two (Some (operation.Binary o)) p i j s at f sound l a b =
      holds_then (λ h. FormStep n f h × IsOf h.value_types i.slot s × IsOf h.value_types j.slot s) (Result f s) (paired i j s at f) (λ g. Ok (form.Binary o i.place j.place, g)) (paired_holds i j s at f sound l a b)
      (λ g x. (x.0, refl, (i.slot, j.slot, a.1, b.1, x.1, x.2)))
  by_two (Some operation.Compare) (Some p) i j s at f sound l a b =
      holds_then (λ g. FormStep n f g × (kind_of i.slot g.value_types ≡ kind_of j.slot g.value_types)) (Result f s) (unite i.slot j.slot j.left f) (λ g. unite_with s (bits.Int 1) at g >>= λ h. Ok (form.Compare p i.place j.place, h))
      (together i.slot j.slot j.left f sound a.0 b.0)
      (λ g x.
      let li : i.slot < length g.value_types = omega (arith, a.0, x.0.grown.longer) in
      let lj : j.slot < length g.value_types = omega (arith, b.0, x.0.grown.longer) in
      let ls : s < length g.value_types = omega (arith, l, x.0.grown.longer) in
      holds_then (λ h. FormStep n g h × (kind_of s h.value_types ≡ ty.Concrete (bits.Int 1))) (Result f s) (unite_with s (bits.Int 1) at g) (λ h. Ok (form.Compare p i.place j.place, h)) (is_truth s at g x.0.sound ls)
      (λ h y. (
        form_step_through f g h x.0 y.0,
        refl,
        (i.slot, j.slot, a.1, b.1, omega (arith, li, y.0.grown.longer), (omega (arith, lj, y.0.grown.longer), still_same g.value_types h.value_types y.0.grown j.slot i.slot lj li (sym x.1)), (omega (arith, ls, y.0.grown.longer), y.1)),
      )))
  by_two (Some operation.Compare) None i j s at f sound l a b = tt
  by_two (Some operation.Select) p i j s at f sound l a b = tt
  by_two (Some (operation.IntegerCast c)) p i j s at f sound l a b = tt
  by_two (Some (operation.IndexCast c)) p i j s at f sound l a b = tt
  by_two None p i j s at f sound l a b = tt

  by_three : (o : Option Operation) (c i j : TermRef) (s at : ℕ) (f : Sema) → Sound n f → s < length f.value_types → Entry f c → Entry f i → Entry f j → Holds (Result f s) (shaped_by_three o c i j s at f)
  by_three (Some operation.Select) c i j s at f sound l d a b =
      holds_then (λ h. FormStep n f h × IsOne h.value_types c.slot × IsOf h.value_types i.slot s × IsOf h.value_types j.slot s) (Result f s) (chosen c i j s at f) (λ g. Ok (form.Select c.place i.place j.place, g))
      (holds_then (λ g. FormStep n f g × (kind_of c.slot g.value_types ≡ ty.Concrete (bits.Int 1))) (λ h. FormStep n f h × IsOne h.value_types c.slot × IsOf h.value_types i.slot s × IsOf h.value_types j.slot s)
      (unite_with c.slot (bits.Int 1) c.left f) (paired i j s at) (is_truth c.slot c.left f sound d.0)
      (λ g x.
      let lc : c.slot < length g.value_types = omega (arith, d.0, x.0.grown.longer) in
      holds_more (λ h. FormStep n g h × IsOf h.value_types i.slot s × IsOf h.value_types j.slot s) (λ h. FormStep n f h × IsOne h.value_types c.slot × IsOf h.value_types i.slot s × IsOf h.value_types j.slot s) (paired i j s at g)
      (paired_holds i j s at g x.0.sound (omega (arith, l, x.0.grown.longer)) (omega (arith, a.0, x.0.grown.longer), a.1) (omega (arith, b.0, x.0.grown.longer), b.1))
      (λ h y. (form_step_through f g h x.0 y.0, is_one_still g.value_types h.value_types c.slot y.0.grown (lc, x.1), y.1, y.2))))
      (λ g x. (x.0, refl, (c.slot, i.slot, j.slot, d.1, a.1, b.1, x.1, x.2, x.3)))
  by_three (Some (operation.Binary o)) c i j s at f sound l d a b = tt
  by_three (Some operation.Compare) c i j s at f sound l d a b = tt
  by_three (Some (operation.IntegerCast x)) c i j s at f sound l d a b = tt
  by_three (Some (operation.IndexCast x)) c i j s at f sound l d a b = tt
  by_three None c i j s at f sound l d a b = tt

  -- one more constraint or cast
  requested_more : (c : TypeConstraint) (f : Sema) → Sound n f → FormStep n f (and_requested c f)
  requested_more c f s = record {
    sound = record { wide = s.wide; long = s.long; covered = s.covered };
    grown = grown_itself f.value_types;
    rest = refl;
    more = λ d i. (i.0, at_more f.type_constraints (c ∷ []) i.0 d i.1);
  }

  cast_more : (from to at : ℕ) (f : Sema) → Sound n f → FormStep n f (and_cast from to at f)
  cast_more from to at f s = record {
    sound = record { wide = s.wide; long = s.long; covered = s.covered };
    grown = grown_itself f.value_types;
    rest = refl;
    more = λ d i. i;
  }

  by_one : (o : Option Operation) → Extends o → (i : TermRef) (s at : ℕ) (f : Sema) → Sound n f → s < length f.value_types → Entry f i → Holds (Result f s) (shaped_by_one o i s at f)
  by_one (Some (operation.IntegerCast cast.Truncate)) x i s at f sound l a =
      (requested_more (constraint.Narrower s i.slot) f sound, refl, (i.slot, a.1, a.0, (length f.type_constraints, at_end f.type_constraints (constraint.Narrower s i.slot))))
  by_one (Some (operation.IntegerCast cast.ExtendSigned)) x i s at f sound l a = (requested_more (constraint.Narrower i.slot s) f sound, refl, tt)
  by_one (Some (operation.IntegerCast cast.ExtendUnsigned)) x i s at f sound l a = (requested_more (constraint.Narrower i.slot s) f sound, refl, tt)
  by_one (Some (operation.IndexCast cast.Truncate)) x i s at f sound l a = absurd x
  by_one (Some (operation.IndexCast cast.ExtendSigned)) x i s at f sound l a = (cast_more i.slot s at f sound, refl, tt)
  by_one (Some (operation.IndexCast cast.ExtendUnsigned)) x i s at f sound l a = (cast_more i.slot s at f sound, refl, tt)
  by_one (Some (operation.Binary o)) x i s at f sound l a = tt
  by_one (Some operation.Compare) x i s at f sound l a = tt
  by_one (Some operation.Select) x i s at f sound l a = tt
  by_one None x i s at f sound l a = tt

  pub shaped_holds : (o : Option Operation) → Extends o → (p : Option Predicate) (es : List TermRef) (s at : ℕ) (f : Sema) → Sound n f → s < length f.value_types → AllByRecursion (λ (e : TermRef). (e.slot < length f.value_types) × Q e.place e.slot) es
      → Holds (λ (y : Expression × Sema). FormStep n f y.1 × (has_name y.0 ≡ true) × FormTyped Q y.1.value_types y.1.type_constraints s y.0) (shaped o p es s at f)
  unfolding shaped
  shaped_holds o x p [] s at f sound l all = tt
  shaped_holds o x p (i ∷ []) s at f sound l all = by_one o x i s at f sound l all.0
  shaped_holds o x p (i ∷ j ∷ []) s at f sound l all = by_two o p i j s at f sound l all.0 all.1.0
  shaped_holds o x p (c ∷ i ∷ j ∷ []) s at f sound l all = by_three o c i j s at f sound l all.0 all.1.0 all.1.1.0
  shaped_holds o x p (c ∷ i ∷ j ∷ k ∷ es) s at f sound l all = tt
