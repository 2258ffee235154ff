-- A definition is found by its name, and leaves the other patterns.
use Rattle.std.proofs.Common.{◌≡◌, ◌∙◌, ℕ, ◌<◌, Bool, true, false, nat_lt, if◌then◌else◌, List, [], ◌∷◌, ◌++◌, length, Option, Some, None, is_some, OnOk, Result, Ok, Err, refl, sym, ap, subst, arith, length-append}
use Rattle.std.specs.Str.{bytes_eq}
use Rattle.std.proofs.lemmas.Bool.{ltb-true}
use Rattle.std.proofs.lemmas.List.{length-map}
use Rattle.std.proofs.lemmas.List.Elements.{All-map, All-nil, All-push, All-weaker}
use Rattle.std.proofs.lemmas.Option.{none-some}
use Rattle.ir_types.proofs.Growth.{name_refl}
use Rattle.ir_types.proofs.Truths.{turned}
use Rattle.ir_text_tokens.specs.declared.refusal.TextRefusal.TheVariants.{Redefined, TooMany}
use Rattle.user_patterns_text.specs.Syntax as syntax
use Rattle.user_patterns_text.specs.Grammar.{IsPattern}
use Rattle.user_patterns_text.specs.Parts as parts
use Rattle.user_patterns_text.specs.Parts.{AreParts}
use Rattle.user_patterns_text.specs.Printed.{pattern_text}
use Rattle.user_patterns_text.proofs.Texts.{spells_again}
use Rattle.user_patterns_text.specs.Refusing.{Returns, Outcome, ◌>>=◌, begins, refused}
use Rattle.user_patterns_text.specs.declared.error.PatternError.{PatternError}
use Rattle.user_patterns_text.specs.Rendered.{Spells, whole_at}
use Rattle.user_patterns_sema.specs.Sema.{wellformed}
use Rattle.user_patterns_build.specs.CanBuild.{can_build}
use Rattle.user_patterns_build.specs.Unified.{ready}
use Rattle.user_patterns_build.proofs.Numbered.{is_ready}
use Rattle.user_patterns_data.specs.Shapes.{PatternModel}
use Rattle.user_patterns_data.specs.WellFormed.{is_well_formed}
use Rattle.user_patterns_registry.specs.declared.check_result.CheckSummary.{CheckSummary}
use Rattle.user_patterns_registry.specs.Rows.{Variable}
use Rattle.user_patterns_registry.specs.Registry.{AddsOne, AreApart, RegistryModel, IsRegistry, IsReady, Kept, LastSpells, NotingKeepsARegistry, StaysARegistry, added, and_kept, defined, found, is_named, kept_as, kept_of, made_ready, most_patterns, noted, noted_one, headroom_for, model_of_parts, variables_of, with_said, Text}

-- ---- outcomes

bound_ok : {A B : Type 0} (o : Outcome A) (f : A → Outcome B) (y : B) → (o >>= f) ≡ Ok y → (x : A) × (o ≡ Ok x) × (f x ≡ Ok y)
bound_ok (Ok x) f y h = (x, refl, h)
bound_ok (Err e) f y h = absurd cc

okay_same : {X : Type 0} (x y : X) (o p : Outcome X) → o ≡ Ok x → p ≡ Ok y → o ≡ p → x ≡ y
okay_same x y o p e f h = cc

-- ---- names

named_itself : (k : Kept) → is_named k.name k ≡ true
named_itself k = name_refl k.name

module _ (name : List ℕ) where
  -- the first pattern has the name, or the lookup continues with the others
  at_first : (j : Kept) (ks : RegistryModel) → is_named name j ≡ true → found name (j ∷ ks) ≡ Some j
  unfolding found
  at_first j ks e = ap (λ (b : Bool). if b then Some j else found name ks) e

  pub extra_on : (j : Kept) (ks : RegistryModel) → is_named name j ≡ false → found name (j ∷ ks) ≡ found name ks
  unfolding found
  extra_on j ks e = ap (λ (b : Bool). if b then Some j else found name ks) e

  pub not_first : (j : Kept) (ks : RegistryModel) (b : Bool) → is_named name j ≡ b → found name (j ∷ ks) ≡ None → (b ≡ false) × (found name ks ≡ None)
  not_first j ks true e h = absurd (none-some j (sym h ∙ at_first j ks e))
  not_first j ks false e h = (refl, sym (extra_on j ks e) ∙ h)

  still_by : (j : Kept) (ks : RegistryModel) (last k : Kept) (b : Bool) → is_named name j ≡ b → found name (j ∷ ks) ≡ Some k
      → (found name ks ≡ Some k → found name (ks ++ last ∷ []) ≡ Some k) → found name (j ∷ (ks ++ last ∷ [])) ≡ Some k
  still_by j ks last k true e h more = at_first j (ks ++ last ∷ []) e ∙ sym (at_first j ks e) ∙ h
  still_by j ks last k false e h more = extra_on j (ks ++ last ∷ []) e ∙ more (sym (extra_on j ks e) ∙ h)

  found_still : (ks : RegistryModel) (last k : Kept) → found name ks ≡ Some k → found name (ks ++ last ∷ []) ≡ Some k
  unfolding found
  found_still [] last k h = absurd (none-some k h)
  found_still (j ∷ ks) last k h = still_by j ks last k (is_named name j) refl h (found_still ks last k)

  found_after : (ks : RegistryModel) (last : Kept) → found name ks ≡ None → found name (ks ++ last ∷ []) ≡ found name (last ∷ [])
  unfolding found
  found_after [] last h = refl
  found_after (j ∷ ks) last h =
      let n = not_first j ks (is_named name j) refl h in
      extra_on j (ks ++ last ∷ []) n.0 ∙ found_after ks last n.1

found_last : (ks : RegistryModel) (last : Kept) → found last.name ks ≡ None → found last.name (ks ++ last ∷ []) ≡ Some last
found_last ks last h = found_after last.name ks last h ∙ at_first last.name last [] (named_itself last)

-- two names that differ, in both orders
apart_turned : (j last : Kept) → is_named last.name j ≡ false → is_named j.name last ≡ false
apart_turned j last e = turned last.name j.name ∙ e

nothing_named : (j last : Kept) → is_named j.name last ≡ false → found j.name (last ∷ []) ≡ None
unfolding found
nothing_named j last e = extra_on j.name last [] e

apart_still : (ks : RegistryModel) (last : Kept) → AreApart ks → found last.name ks ≡ None → AreApart (ks ++ last ∷ [])
unfolding found
apart_still [] last a h = (refl, tt)
apart_still (j ∷ ks) last a h =
    let n = not_first last.name j ks (is_named last.name j) refl h in
    (found_after j.name ks last a.0 ∙ nothing_named j last (apart_turned j last n.0), apart_still ks last a.1 n.1)

-- ---- entries

ready_made : (s t : PatternModel) (o : Option PatternModel) → o ≡ ready s → made_ready o ≡ Ok t → (is_well_formed t ≡ true) × (can_build t ≡ true)
ready_made s t (Some u) e h =
    let r = is_ready s u (sym e) in
    let same : u ≡ t = okay_same u t (Ok u) (Ok t) refl refl h in
    (subst (λ (v : PatternModel). is_well_formed v ≡ true) same r.1, subst (λ (v : PatternModel). can_build v ≡ true) same r.2)
ready_made s t None e h = absurd cc

shape_ready : (p : parts.Pattern) (t : PatternModel) → model_of_parts p ≡ Ok t → (is_well_formed t ≡ true) × (can_build t ≡ true)
unfolding model_of_parts
shape_ready p t h =
    let s = bound_ok (wellformed p) (λ s. made_ready (ready s)) t h in
    ready_made s.0 t (ready s.0) refl s.2

-- the entry has the name and the text of the parsed pattern, and can be applied
pub record KeptOf (p : parts.Pattern) (k : Kept) : Type 0 where
  pub name : k.name ≡ p.name
  pub text : k.text ≡ pattern_text p
  pub ready : IsReady k

as_kept : (p : parts.Pattern) (vs : List Variable) (t : PatternModel) (k : Kept) → kept_as p vs t ≡ k → (is_well_formed t ≡ true) × (can_build t ≡ true) → KeptOf p k
as_kept p vs t k e r = subst (KeptOf p) e (record { name = refl; text = refl; ready = record { stands = r.0; buildable = r.1 } })

pub kept_is : (p : parts.Pattern) (k : Kept) → kept_of p ≡ Ok k → KeptOf p k
unfolding kept_of
kept_is p k h =
    let vs = bound_ok (variables_of p) (λ vs. model_of_parts p >>= λ t. Ok (kept_as p vs t)) k h in
    let t = bound_ok (model_of_parts p) (λ t. Ok (kept_as p vs.0 t)) k vs.2 in
    let same : kept_as p vs.0 t.0 ≡ k = okay_same (kept_as p vs.0 t.0) k (Ok (kept_as p vs.0 t.0)) (Ok k) refl refl t.2 in
    as_kept p vs.0 t.0 k same (shape_ready p t.0 t.1)

-- the printed text of a registered pattern spells the pattern that a text spelled
pub last_spells : (text : Text) (p : parts.Pattern) (registry new : RegistryModel) (k : Kept) → (q : syntax.Pattern) × Spells text q × AreParts p q
    → kept_of p ≡ Ok k → new ≡ and_kept registry k → LastSpells text new
last_spells text p registry new k s h e =
    (s.0, s.1, registry, k, e, subst (λ (t : Text). IsPattern s.0 t []) (sym (kept_is p k h).text) (spells_again text p s.0 s.1 s.2))

pub rendered_on : {X : Type 0} (r : Result X PatternError) (text : Text) (p : parts.Pattern) (registry new : RegistryModel) (k : Kept) → (q : syntax.Pattern) × Spells text q × AreParts p q
    → kept_of p ≡ Ok k → Returns (λ x. new) r (Ok (and_kept registry k)) → OnOk r (LastSpells text new)
rendered_on (Ok x) text p registry new k s h g =
    last_spells text p registry new k s h (okay_same new (and_kept registry k) (Ok new) (Ok (and_kept registry k)) refl refl (sym g))
rendered_on (Err e) text p registry new k s h g = tt

-- ---- definitions

abbrev Headroom : List ℕ → RegistryModel → Type 0
Headroom name registry = (found name registry ≡ None) × (length registry < most_patterns)

headroom_by : (name : List ℕ) (at : ℕ) (registry : RegistryModel) (u : Unit {0}) (o : Option Kept) → found name registry ≡ o → (b : Bool) → nat_lt (length registry) most_patterns ≡ b
    → (if is_some o then refused Redefined at else if b then Ok tt else refused TooMany at) ≡ Ok u → Headroom name registry
headroom_by name at registry u (Some k) e b f g = absurd cc
headroom_by name at registry u None e true f g = (e, ltb-true (length registry) most_patterns f)
headroom_by name at registry u None e false f g = absurd cc

headroom_made : (name : List ℕ) (at : ℕ) (registry : RegistryModel) (u : Unit {0}) → headroom_for name at registry ≡ Ok u → Headroom name registry
headroom_made name at registry u h = headroom_by name at registry u (found name registry) refl (nat_lt (length registry) most_patterns) refl h

record Defined (registry new : RegistryModel) : Type 0 where
  last : Kept
  is : new ≡ registry ++ last ∷ []
  ready : IsReady last
  fresh : found last.name registry ≡ None
  few : length registry < most_patterns

defined_one : (registry new : RegistryModel) (text : Text) → defined registry text ≡ Ok new → Defined registry new
unfolding defined
defined_one registry new text h =
    let p = bound_ok (whole_at text) (λ p. headroom_for p.name (begins text) registry >>= λ _. added registry p) new h in
    let r = bound_ok (headroom_for p.0.name (begins text) registry) (λ _. added registry p.0) new p.2 in
    let k = bound_ok (kept_of p.0) (λ k. Ok (and_kept registry k)) new r.2 in
    let same : and_kept registry k.0 ≡ new = okay_same (and_kept registry k.0) new (Ok (and_kept registry k.0)) (Ok new) refl refl k.2 in
    let headroom = headroom_made p.0.name (begins text) registry r.0 r.1 in
    let kept = kept_is p.0 k.0 k.1 in
    record {
      last = k.0;
      is = sym same;
      ready = kept.ready;
      fresh = ap (λ (n : List ℕ). found n registry) kept.name ∙ headroom.0;
      few = headroom.1;
    }

pub stays_a_registry : StaysARegistry
stays_a_registry registry new text b h =
    let d = defined_one registry new text h in
    subst IsRegistry (sym d.is) (record {
      few = (let e = length-append registry (d.last ∷ []) in omega (arith, e, d.few));
      apart = apart_still registry d.last b.apart d.fresh;
      ready = All-push IsReady registry d.last b.ready d.ready;
    })

pub adds_one : AddsOne
adds_one registry new text h =
    let d = defined_one registry new text h in
    record {
      last = d.last;
      is = d.is;
      by_name = subst (λ (ks : RegistryModel). found d.last.name ks ≡ Some d.last) (sym d.is) (found_last registry d.last d.fresh);
      others = λ name k f. subst (λ (ks : RegistryModel). found name ks ≡ Some k) (sym d.is) (found_still name registry d.last k f);
    }

-- ---- recorded checks

pub nothing_is_a_registry : IsRegistry []
nothing_is_a_registry = record { few = omega arith; apart = tt; ready = All-nil IsReady }

module _ (name : List ℕ) (said : CheckSummary) where
  name_by : (k : Kept) (b : Bool) → Kept.name (if b then with_said said k else k) ≡ k.name
  name_by k true = refl
  name_by k false = refl

  shape_by : (k : Kept) (b : Bool) → Kept.rewrite_pattern (if b then with_said said k else k) ≡ k.rewrite_pattern
  shape_by k true = refl
  shape_by k false = refl

  name_stays : (k : Kept) → Kept.name (noted_one name said k) ≡ k.name
  name_stays k = name_by k (is_named name k)

  shape_stays : (k : Kept) → Kept.rewrite_pattern (noted_one name said k) ≡ k.rewrite_pattern
  shape_stays k = shape_by k (is_named name k)

  nothing_noted : (n : List ℕ) (ks : RegistryModel) → found n ks ≡ None → found n (noted name said ks) ≡ None
  unfolding found
  nothing_noted n [] h = refl
  nothing_noted n (k ∷ ks) h =
      let m = not_first n k ks (is_named n k) refl h in
      extra_on n (noted_one name said k) (noted name said ks) (ap (λ (w : List ℕ). bytes_eq w n) (name_stays k) ∙ m.0) ∙ nothing_noted n ks m.1

  apart_noted : (ks : RegistryModel) → AreApart ks → AreApart (noted name said ks)
  apart_noted [] a = tt
  apart_noted (k ∷ ks) a =
      (ap (λ (w : List ℕ). found w (noted name said ks)) (name_stays k) ∙ nothing_noted k.name ks a.0, apart_noted ks a.1)

  ready_noted : (k : Kept) → IsReady k → IsReady (noted_one name said k)
  ready_noted k r =
      record { stands = ap is_well_formed (shape_stays k) ∙ r.stands; buildable = ap can_build (shape_stays k) ∙ r.buildable }

pub noting_keeps_a_registry : NotingKeepsARegistry
noting_keeps_a_registry registry name said b =
    record {
      few = (let e = length-map registry (noted_one name said) in omega (arith, e, b.few));
      apart = apart_noted name said registry b.apart;
      ready =
          All-map IsReady (noted_one name said) registry
          (All-weaker IsReady (λ (k : Kept). IsReady (noted_one name said k)) (ready_noted name said) registry b.ready);
    }
