-- Registries from which a pattern is removed.
use Rattle.std.proofs.Common.{◌≡◌, ◌∙◌, ℕ, ◌≤◌, Bool, true, false, not, cond, if◌then◌else◌, List, [], ◌∷◌, filter, length, Option, Some, None, refl, sym, ap, subst, arith}
use Rattle.std.specs.Str.{bytes_eq}
use Rattle.std.proofs.lemmas.List.Elements.{All-filter}
use Rattle.ir_types.proofs.Growth.{name_is}
use Rattle.user_patterns_registry.specs.Registry.{AreApart, ForgetsNothing, ForgetsOne, ForgettingKeepsARegistry, IsReady, Kept, RegistryModel, forgotten, found, is_named, kept_view, kept_views}
use Rattle.user_patterns_registry.specs.declared.registry.RegisteredPattern.{RegisteredPattern}
use Rattle.user_patterns_registry.proofs.Registries.{extra_on, not_first}

module _ (name : List ℕ) where
  -- the first pattern stays, or goes
  stays_first : (k : Kept) (ks : RegistryModel) → is_named name k ≡ false → forgotten name (k ∷ ks) ≡ k ∷ forgotten name ks
  stays_first k ks e = ap (λ (b : Bool). cond (not b) (k ∷ forgotten name ks) (forgotten name ks)) e

  goes_first : (k : Kept) (ks : RegistryModel) → is_named name k ≡ true → forgotten name (k ∷ ks) ≡ forgotten name ks
  goes_first k ks e = ap (λ (b : Bool). cond (not b) (k ∷ forgotten name ks) (forgotten name ks)) e

  unchanged : (ks : RegistryModel) → found name ks ≡ None → forgotten name ks ≡ ks
  unchanged [] h = refl
  unchanged (k ∷ ks) h =
      let n = not_first name k ks (is_named name k) refl h in
      stays_first k ks n.0 ∙ ap (λ js. k ∷ js) (unchanged ks n.1)

  -- a name that isn't found before isn't found after
  still_none : (n : List ℕ) (k : Kept) (ks : RegistryModel) (b : Bool) → is_named name k ≡ b → (is_named n k ≡ false) × (found n (forgotten name ks) ≡ None) → found n (forgotten name (k ∷ ks)) ≡ None
  still_none n k ks true e h = ap (found n) (goes_first k ks e) ∙ h.1
  still_none n k ks false e h = ap (found n) (stays_first k ks e) ∙ extra_on n k (forgotten name ks) h.0 ∙ h.1

  none_stays : (n : List ℕ) (ks : RegistryModel) → found n ks ≡ None → found n (forgotten name ks) ≡ None
  none_stays n [] h = h
  none_stays n (k ∷ ks) h =
      let m = not_first n k ks (is_named n k) refl h in
      still_none n k ks (is_named name k) refl (m.0, none_stays n ks m.1)

  gone_by : (k : Kept) (ks : RegistryModel) (b : Bool) → is_named name k ≡ b → found name (forgotten name ks) ≡ None → found name (forgotten name (k ∷ ks)) ≡ None
  gone_by k ks true e h = ap (found name) (goes_first k ks e) ∙ h
  gone_by k ks false e h = ap (found name) (stays_first k ks e) ∙ extra_on name k (forgotten name ks) e ∙ h

  gone : (ks : RegistryModel) → found name (forgotten name ks) ≡ None
  unfolding found
  gone [] = refl
  gone (k ∷ ks) = gone_by k ks (is_named name k) refl (gone ks)

  -- the lookups of another name
  other_by : (other : List ℕ) → bytes_eq name other ≡ false → (k : Kept) (ks : RegistryModel) (b : Bool) → is_named name k ≡ b → found other (forgotten name ks) ≡ found other ks
      → found other (forgotten name (k ∷ ks)) ≡ found other (k ∷ ks)
  unfolding found
  other_by other d k ks true e h =
      let named : is_named other k ≡ false = ap (λ (n : List ℕ). bytes_eq n other) (name_is k.name name e) ∙ d in
      ap (found other) (goes_first k ks e) ∙ h ∙ sym (extra_on other k ks named)
  other_by other d k ks false e h =
      ap (found other) (stays_first k ks e) ∙ ap (λ (o : Option Kept). if is_named other k then Some k else o) h

  others : (other : List ℕ) → bytes_eq name other ≡ false → (ks : RegistryModel) → found other (forgotten name ks) ≡ found other ks
  others other d [] = refl
  others other d (k ∷ ks) = other_by other d k ks (is_named name k) refl (others other d ks)

  few_by : (k : Kept) (ks : RegistryModel) (b : Bool) → is_named name k ≡ b → length (forgotten name ks) ≤ length ks → length (forgotten name (k ∷ ks)) ≤ length (k ∷ ks)
  few_by k ks true e h = let s = ap length (goes_first k ks e) in omega (arith, s, h)
  few_by k ks false e h = let s = ap length (stays_first k ks e) in omega (arith, s, h)

  few : (ks : RegistryModel) → length (forgotten name ks) ≤ length ks
  few [] = omega arith
  few (k ∷ ks) = few_by k ks (is_named name k) refl (few ks)

  apart_by : (k : Kept) (ks : RegistryModel) (b : Bool) → is_named name k ≡ b → found k.name ks ≡ None → AreApart (forgotten name ks) → AreApart (forgotten name (k ∷ ks))
  apart_by k ks true e h a = subst AreApart (sym (goes_first k ks e)) a
  apart_by k ks false e h a = subst AreApart (sym (stays_first k ks e)) (none_stays k.name ks h, a)

  apart : (ks : RegistryModel) → AreApart ks → AreApart (forgotten name ks)
  apart [] a = tt
  apart (k ∷ ks) a = apart_by k ks (is_named name k) refl a.0 (apart ks a.1)

-- the entries that stay are those whose views stay
views_by : (name : List ℕ) (h : RegisteredPattern) (hs : List RegisteredPattern) (b : Bool) → kept_views (filter (λ g. not (is_named name (kept_view g))) hs) ≡ forgotten name (kept_views hs)
    → kept_views (cond b (h ∷ filter (λ g. not (is_named name (kept_view g))) hs) (filter (λ g. not (is_named name (kept_view g))) hs)) ≡ cond b (kept_view h ∷ forgotten name (kept_views hs)) (forgotten name (kept_views hs))
views_by name h hs true e = ap (λ ks. kept_view h ∷ ks) e
views_by name h hs false e = e

pub filter_views : (name : List ℕ) (hs : List RegisteredPattern) → kept_views (filter (λ h. not (is_named name (kept_view h))) hs) ≡ forgotten name (kept_views hs)
filter_views name [] = refl
filter_views name (h ∷ hs) = views_by name h hs (not (is_named name (kept_view h))) (filter_views name hs)

pub forgetting_keeps_a_registry : ForgettingKeepsARegistry
forgetting_keeps_a_registry registry name r = record {
  few = (let f = few name registry in omega (arith, f, r.few));
  apart = apart name registry r.apart;
  ready = All-filter (λ k. not (is_named name k)) IsReady registry r.ready;
}

pub forgets_one : ForgetsOne
forgets_one registry name = record { gone = gone name registry; others = λ other d. others name other d registry }

pub forgets_nothing : ForgetsNothing
forgets_nothing registry name h = unchanged name registry h
