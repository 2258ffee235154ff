-- Proofs about definitions in place of other ones.
use Rattle.std.proofs.Common.{◌≡◌, ◌∙◌, ℕ, ◌+◌, ◌<◌, Bool, true, false, not, nat_lt, cond, List, [], ◌∷◌, ◌++◌, map, length, Option, Some, None, Ok, Err, refl, sym, ap, subst}
use Rattle.std.specs.Prelude.{position, slice_set, codes}
use Rattle.std.specs.List.{position_or_len}
use Rattle.std.proofs.lemmas.Bool.{ltb-true}
use Rattle.std.proofs.lemmas.List.{length-map, map-set}
use Rattle.user_patterns_text.specs.Parts as parts
use Rattle.user_patterns_text.specs.Refusing.{Outcome, Returns, Fails, ◌>>=◌}
use Rattle.user_patterns_text.specs.declared.error.PatternError.{PatternError}
use Rattle.user_patterns_text.specs.declared.error.PatternError.TheVariants as errors
use Rattle.user_patterns_text.specs.Rendered.{whole_at}
use Rattle.user_patterns_registry.specs.declared.registry.RegisteredPattern.{RegisteredPattern}
use Rattle.user_patterns_registry.specs.Registry.{Kept, RegistryModel, Text, defined, found, is_named, kept_of, kept_view, kept_views}
use Rattle.mlir_work_registry.specs.Redefined.{namesake, redefined, redefined_at}

-- ---- the index of a name

places_by : {X Y : Type 0} (f : X → Y) (p : Y → Bool) (xs : List X) → position_or_len (λ x. p (f x)) xs ≡ position_or_len p (map f xs)
places_by f p [] = refl
places_by f p (x ∷ xs) = ap (λ n. cond (not (p (f x))) (1 + n) 0) (places_by f p xs)

pub place_by : {X Y : Type 0} (f : X → Y) (p : Y → Bool) (xs : List X) → position (λ x. p (f x)) xs ≡ position p (map f xs)
place_by f p xs = (λ i. cond (nat_lt (places_by f p xs i) (sym (length-map xs f) i)) (Some (places_by f p xs i)) None)

-- the index of a parsed text's name
pub namesake_of : (registry : RegistryModel) (text : Text) (p : parts.Pattern) (place : Option ℕ) → whole_at text ≡ Ok p → place ≡ position (is_named p.name) registry → namesake registry text ≡ Ok place
namesake_of registry text p place e is = ap (λ o. o >>= λ q. Ok (position (is_named q.name) registry)) e ∙ ap Ok (sym is)

pub namesake_fails : (registry : RegistryModel) (text : Text) (e : PatternError) → Fails e (whole_at text) → Fails e (namesake registry text)
namesake_fails registry text errors.Memory h = tt
namesake_fails registry text (errors.Refused f) h = ap (λ o. o >>= λ q. Ok (position (is_named q.name) registry)) h

-- ---- a pattern alone

alone_of : (o : Outcome Kept) → (o >>= λ k. Ok ([] ++ k ∷ [])) ≡ (o >>= λ k. Ok (k ∷ []))
alone_of (Ok k) = refl
alone_of (Err e) = refl

-- the registry of one definition has its pattern alone
defined_alone : (text : Text) → defined [] text ≡ ((whole_at text >>= kept_of) >>= λ k. Ok (k ∷ []))
unfolding defined found
defined_alone text = go (whole_at text)
  where
    go : (o : Outcome parts.Pattern) → (o >>= λ p. kept_of p >>= λ k. Ok ([] ++ k ∷ [])) ≡ ((o >>= kept_of) >>= λ k. Ok (k ∷ []))
    go (Ok p) = alone_of (kept_of p)
    go (Err e) = refl

last_of : (o : Outcome Kept) (preceding : RegistryModel) (last : Kept) → (o >>= λ k. Ok (k ∷ [])) ≡ Ok (preceding ++ last ∷ []) → o ≡ Ok last
last_of (Err e) preceding last h = absurd cc
last_of (Ok k) [] last h = cc
last_of (Ok k) (x ∷ []) last h = absurd cc
last_of (Ok k) (x ∷ y ∷ ys) last h = absurd cc

views_last : (hs : List RegisteredPattern) (h : RegisteredPattern) → kept_views (hs ++ h ∷ []) ≡ kept_views hs ++ kept_view h ∷ []
views_last [] h = refl
views_last (g ∷ hs) h = ap (λ ks. kept_view g ∷ ks) (views_last hs h)

pub pattern_alone : (text : Text) (all preceding : List RegisteredPattern) (held : RegisteredPattern) → defined [] text ≡ Ok (kept_views all) → all ≡ preceding ++ held ∷ [] → (whole_at text >>= kept_of) ≡ Ok (kept_view held)
pattern_alone text all preceding held h is =
    last_of (whole_at text >>= kept_of) (kept_views preceding) (kept_view held) (sym (defined_alone text) ∙ h ∙ ap (λ hs. Ok (kept_views hs)) is ∙ ap Ok (views_last preceding held))

refused_alone : (o : Outcome Kept) (f : _) → (o >>= λ k. Ok (k ∷ [])) ≡ Err f → o ≡ Err f
refused_alone (Ok k) f h = absurd cc
refused_alone (Err e) f h = cc

pub pattern_fails : (text : Text) (e : PatternError) → Fails e (defined [] text) → Fails e (whole_at text >>= kept_of)
pattern_fails text errors.Memory h = tt
pattern_fails text (errors.Refused f) h = refused_alone (whole_at text >>= kept_of) f (sym (defined_alone text) ∙ h)

-- ---- the registry

-- a new name is defined
pub defines : (registry : RegistryModel) (text : Text) → namesake registry text ≡ Ok None → redefined registry text ≡ defined registry text
defines registry text e = ap (λ o. o >>= redefined_at registry text) e

replaces_at : (registry : RegistryModel) (text : Text) (place : ℕ) → namesake registry text ≡ Ok (Some place) → redefined registry text ≡ ((whole_at text >>= kept_of) >>= λ k. Ok (slice_set registry place k))
replaces_at registry text place e = ap (λ o. o >>= redefined_at registry text) e

pub replaces : (hs new : List RegisteredPattern) (text : Text) (place : ℕ) (held : RegisteredPattern) → namesake (kept_views hs) text ≡ Ok (Some place) → (whole_at text >>= kept_of) ≡ Ok (kept_view held) → new ≡ slice_set hs place held
    → redefined (kept_views hs) text ≡ Ok (kept_views new)
replaces hs new text place held e is set =
    replaces_at (kept_views hs) text place e ∙ ap (λ o. o >>= λ k. Ok (slice_set (kept_views hs) place k)) is ∙ ap Ok (sym (ap kept_views set ∙ map-set kept_view hs place held))

pub replacing_fails : (registry : RegistryModel) (text : Text) (place : ℕ) (e : PatternError) → namesake registry text ≡ Ok (Some place) → Fails e (whole_at text >>= kept_of) → Fails e (redefined registry text)
replacing_fails registry text place errors.Memory e h = tt
replacing_fails registry text place (errors.Refused f) e h = replaces_at registry text place e ∙ ap (λ o. o >>= λ k. Ok (slice_set registry place k)) h

pub fails : (registry : RegistryModel) (text : Text) (e : PatternError) → Fails e (namesake registry text) → Fails e (redefined registry text)
fails registry text errors.Memory h = tt
fails registry text (errors.Refused f) h = ap (λ o. o >>= redefined_at registry text) h

pub new_fails : (registry : RegistryModel) (text : Text) (e : PatternError) → namesake registry text ≡ Ok None → Fails e (defined registry text) → Fails e (redefined registry text)
new_fails registry text errors.Memory e h = tt
new_fails registry text (errors.Refused f) e h = defines registry text e ∙ h

-- ---- the index is in range

abbrev okay : Option ℕ → Outcome (Option ℕ)
okay a = Ok a

some_same : (a b : ℕ) → Some a ≡ Some b → a ≡ b
some_same a b h = cc

at_place : {X : Type 0} (p : X → Bool) (xs : List X) (place : ℕ) (b : Bool) → nat_lt (position_or_len p xs) (length xs) ≡ b → cond b (Some (position_or_len p xs)) None ≡ Some place → place < length xs
at_place p xs place true is h = subst (λ (n : ℕ). n < length xs) (some_same (position_or_len p xs) place h) (ltb-true (position_or_len p xs) (length xs) is)
at_place p xs place false is h = absurd cc

pub in_range : (registry : RegistryModel) (text : Text) (place : ℕ) → namesake registry text ≡ Ok (Some place) → place < length registry
in_range registry text place e = go (whole_at text) e
  where
    position_same : (a : Option ℕ) → okay a ≡ okay (Some place) → a ≡ Some place
    position_same a h = cc

    go : (o : Outcome parts.Pattern) → (o >>= λ p. Ok (position (is_named p.name) registry)) ≡ Ok (Some place) → place < length registry
    go (Err f) h = absurd cc
    go (Ok p) h = at_place (is_named p.name) registry place (nat_lt (position_or_len (is_named p.name) registry) (length registry)) refl (position_same (position (is_named p.name) registry) h)
