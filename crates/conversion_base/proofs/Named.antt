-- Interned names, and names that are listed once.
use Rattle.std.proofs.Common.{◌≡◌, refl, sym, ap, ◌∙◌, ℕ, Bool, true, false, true≢false, not, ◌&&◌, ◌||◌, eqb, eq-eqb, eqb-true, List, [], ◌∷◌, ◌++◌, map, inl, inr}
use Rattle.std.specs.List.{All, list_any}
use Rattle.std.specs.Str.{bytes_eq}
use Rattle.std.proofs.lemmas.List.Elements.{All-head, All-tail}
use Rattle.std.proofs.lemmas.List.Folds.{list_all-append, list_any-append}
use Rattle.ir_event.specs.types.Things.{ContextModel, IsName}
use Rattle.ir_event.specs.types.Terms.{name_term}
use Rattle.ir_event.specs.types.Sound.{IsSound}
use Rattle.ir_event.proofs.of_types.Growth.{name_is, name_refl}
use Rattle.ir_event.proofs.of_types.Terms.{name_term_one}
use Rattle.ir_event.proofs.of_tree_laws.Listed.{bool_cases}
use Rattle.patterns_base.specs.Words.{among}
use Rattle.conversion_base.specs.Targets.{Aim, each_once, names_of}
use Rattle.conversion_base.specs.Numbers.{are_apart, lists_apart, lists_once}
use Rattle.conversion_base.specs.Repeats.{has_duplicates}

module _ (c : ContextModel) (sound : IsSound c) where
  -- two names are equal exactly if their numbers are
  same_numbers : (m n : ℕ) → IsName c m → IsName c n → eqb m n ≡ bytes_eq (name_term c m) (name_term c n)
  same_numbers m n h k = go (bytes_eq (name_term c m) (name_term c n)) refl
    where
      go : (b : Bool) → bytes_eq (name_term c m) (name_term c n) ≡ b → eqb m n ≡ bytes_eq (name_term c m) (name_term c n)
      go true e = eq-eqb m n (name_term_one c m n sound h k (name_is (name_term c m) (name_term c n) e)) ∙ sym e
      go false e = elim (bool_cases (eqb m n)) [
        | inr f ↦ f ∙ sym e
        | inl f ↦ absurd (true≢false (sym (name_refl (name_term c m)) ∙ ap (λ z. bytes_eq (name_term c m) (name_term c z)) (eqb-true m n f) ∙ e))
      ]

  -- a name among names
  pub same_among : (n : ℕ) (ns : List ℕ) → IsName c n → All (IsName c) ns → list_any (eqb n) ns ≡ among (map (name_term c) ns) (name_term c n)
  same_among n [] h a = refl
  same_among n (m ∷ ns) h a = λ i. same_numbers n m h (All-head (IsName c) m ns a) i || same_among n ns h (All-tail (IsName c) m ns a) i

  -- a list has no duplicate exactly if each name is listed once
  pub same_once : (ns : List ℕ) → All (IsName c) ns → not (has_duplicates ns) ≡ each_once (map (name_term c) ns)
  same_once [] a = refl
  same_once (n ∷ ns) a =
      not_either (list_any (eqb n) ns) (has_duplicates ns)
      ∙ (λ i. not (same_among n ns (All-head (IsName c) n ns a) (All-tail (IsName c) n ns a) i) && same_once ns (All-tail (IsName c) n ns a) i)
    where
      not_either : (a b : Bool) → not (a || b) ≡ (not a && not b)
      not_either true b = refl
      not_either false b = refl

-- names of two lists
once_joined : (ns ms : List (List ℕ)) → each_once (ns ++ ms) ≡ (each_once ns && (are_apart ns ms && each_once ms))
once_joined [] ms = refl
once_joined (n ∷ ns) ms =
    (λ i. not (list_any-append (bytes_eq n) ns ms i) && once_joined ns ms i)
    ∙ go (among ns n) (among ms n) (each_once ns) (are_apart ns ms) (each_once ms)
  where
    go : (a b c d e : Bool) → (not (a || b) && (c && (d && e))) ≡ ((not a && c) && ((not b && d) && e))
    go true b c d e = refl
    go false true true d e = refl
    go false true false d e = refl
    go false false c d e = refl

-- the names of the three lists of a target
pub all_once : (g : Aim) → (lists_once g && lists_apart g) ≡ each_once (names_of g)
all_once g =
    let a = g.legal in
    let b = g.illegal in
    let c = g.dynamic in
    go (each_once a) (each_once b) (each_once c) (are_apart a b) (are_apart a c) (are_apart b c)
    ∙ sym (once_joined (a ++ b) c ∙ (λ i. once_joined a b i && (list_all-append (λ n. not (among c n)) a b i && each_once c)))
  where
    go : (x y z p q r : Bool) → ((x && (y && z)) && (p && (q && r))) ≡ ((x && (p && y)) && ((q && r) && z))
    go true true true true true true = refl
    go true true true true true false = refl
    go true true true true false r = refl
    go true true true false q r = refl
    go true true false true true true = refl
    go true true false true true false = refl
    go true true false true false r = refl
    go true true false false q r = refl
    go true false z true q r = refl
    go true false z false q r = refl
    go false y z p q r = refl
