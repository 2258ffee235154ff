-- Registries in which a pattern takes the place of the first one of its name.
use Rattle.std.proofs.Common.{◌≡◌, ◌∙◌, ℕ, suc, ◌+◌, Bool, true, false, not, cond, nat_lt, List, [], ◌∷◌, length, Some, None, refl, sym, ap, subst, arith}
use Rattle.std.specs.Prelude.{position, slice_set}
use Rattle.std.specs.List.{position_or_len}
use Rattle.std.specs.Str.{bytes_eq}
use Rattle.std.proofs.lemmas.List.{length-set}
use Rattle.std.proofs.lemmas.List.Elements.{All-set}
use Rattle.ir_types.proofs.Growth.{name_is}
use Rattle.user_patterns_registry.specs.Registry.{AreApart, IsReady, IsRegistry, Kept, RegistryModel, ReplacingKeepsARegistry, found, is_named}
use Rattle.user_patterns_registry.proofs.Registries.{extra_on, kept_is, not_first}

module _ (k : Kept) where
  -- the index of the first pattern of this name, or the length
  abbrev its_place : RegistryModel → ℕ
  its_place ks = position_or_len (is_named k.name) ks

  abbrev replaced : RegistryModel → RegistryModel
  replaced ks = slice_set ks (its_place ks) k

  -- the first pattern is replaced, or one of the others
  replaces_first : (j : Kept) (ks : RegistryModel) → is_named k.name j ≡ true → replaced (j ∷ ks) ≡ k ∷ ks
  replaces_first j ks e = ap (λ (b : Bool). slice_set (j ∷ ks) (cond (not b) (1 + its_place ks) 0) k) e

  replaces_next : (j : Kept) (ks : RegistryModel) → is_named k.name j ≡ false → replaced (j ∷ ks) ≡ j ∷ replaced ks
  replaces_next j ks e =
      let next : 1 + its_place ks ≡ suc (its_place ks) = omega arith in
      ap (λ (b : Bool). slice_set (j ∷ ks) (cond (not b) (1 + its_place ks) 0) k) e ∙ ap (λ (i : ℕ). slice_set (j ∷ ks) i k) next

  -- a name that isn't found before isn't found after
  none_by : (n : List ℕ) (j : Kept) (ks : RegistryModel) (b : Bool) → is_named k.name j ≡ b → (is_named n j ≡ false) × (found n ks ≡ None) → found n (replaced ks) ≡ None
      → found n (replaced (j ∷ ks)) ≡ None
  none_by n j ks true e h more =
      let other : is_named n k ≡ false = ap (λ (m : List ℕ). bytes_eq m n) (sym (name_is j.name k.name e)) ∙ h.0 in
      ap (found n) (replaces_first j ks e) ∙ extra_on n k ks other ∙ h.1
  none_by n j ks false e h more = ap (found n) (replaces_next j ks e) ∙ extra_on n j (replaced ks) h.0 ∙ more

  none_stays : (n : List ℕ) (ks : RegistryModel) → found n ks ≡ None → found n (replaced ks) ≡ None
  none_stays n [] h = h
  none_stays n (j ∷ ks) h =
      let m = not_first n j ks (is_named n j) refl h in
      none_by n j ks (is_named k.name j) refl m (none_stays n ks m.1)

  apart_by : (j : Kept) (ks : RegistryModel) (b : Bool) → is_named k.name j ≡ b → AreApart (j ∷ ks) → AreApart (replaced ks) → AreApart (replaced (j ∷ ks))
  apart_by j ks true e a more =
      subst AreApart (sym (replaces_first j ks e)) (ap (λ (n : List ℕ). found n ks) (sym (name_is j.name k.name e)) ∙ a.0, a.1)
  apart_by j ks false e a more = subst AreApart (sym (replaces_next j ks e)) (none_stays j.name ks a.0, more)

  apart : (ks : RegistryModel) → AreApart ks → AreApart (replaced ks)
  apart [] a = tt
  apart (j ∷ ks) a = apart_by j ks (is_named k.name j) refl a (apart ks a.1)

  all_replaced : (ks : RegistryModel) → IsReady k → IsRegistry ks → IsRegistry (replaced ks)
  all_replaced ks ready r = record {
    few = (let s = length-set ks (its_place ks) k in omega (arith, s, r.few));
    apart = apart ks r.apart;
    ready = All-set IsReady ks (its_place ks) k ready r.ready;
  }

-- ---- the index of a name that is found

same_index : (m n : ℕ) → Some m ≡ Some n → m ≡ n
same_index m n h = cc

index_by : (n place size : ℕ) (b : Bool) → cond b (Some n) None ≡ Some place → n ≡ place
index_by n place size true h = same_index n place h
index_by n place size false h = absurd cc

index_is : (name : List ℕ) (registry : RegistryModel) (place : ℕ) → position (is_named name) registry ≡ Some place → position_or_len (is_named name) registry ≡ place
index_is name registry place h =
    index_by (position_or_len (is_named name) registry) place (length registry) (nat_lt (position_or_len (is_named name) registry) (length registry)) h

pub replacing_keeps_a_registry : ReplacingKeepsARegistry
replacing_keeps_a_registry registry p place k r is at =
    let kept = kept_is p k is in
    let index = index_is k.name registry place (ap (λ (n : List ℕ). position (is_named n) registry) kept.name ∙ at) in
    subst (λ (i : ℕ). IsRegistry (slice_set registry i k)) index (all_replaced k registry kept.ready r)
