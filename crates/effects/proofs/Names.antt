-- The operations that define symbols are functions and modules.
use Rattle.std.proofs.Common.{◌≡◌, ℕ, List, [], ◌∷◌, Bool, true, false, Some, refl, sym, ap, ◌∙◌, cond, ◌&&◌, ◌||◌, map, codes}
use Rattle.std.specs.Prelude.{not}
use Rattle.std.specs.List.{list_any, list_all, filter}
use Rattle.std.specs.Str.{bytes_eq}
use Rattle.std.proofs.lemmas.Slice.Eq.{bytes_eq-Decides}
use Rattle.ir_event.proofs.of_tree_laws.Listed.{both}
use Rattle.op_registry.specs.declared.definition.Trait.{Trait}
use Rattle.op_registry.specs.declared.definition.Trait.TheVariants.{Terminator, Symbol}
use Rattle.op_registry.specs.Rows.{Row, rows}
use Rattle.op_registry.specs.Registry.{next_to, row_of, is_among, trait_in, has_trait}
use Rattle.effects.specs.Dead.{is_kept}
use Rattle.std.proofs.lemmas.Bool.{not-true}

abbrev Named : Type 0
Named = List ℕ × Row

-- no name of the list is this one, and the names are distinct
abbrev others : List ℕ → List Named → Bool
others n rs = list_all (λ (r : Named). not (bytes_eq n r.0)) rs

abbrev apart : List Named → Bool
apart [] = true
apart (r ∷ rs) = others r.0 rs && apart rs

module _ (wanted : Trait) (n : List ℕ) where
  abbrev passes : Named → Bool
  passes r = bytes_eq n r.0 && is_among wanted r.1.traits

  none_later : (m : List ℕ) (rs : List Named) → n ≡ m → others m rs ≡ true → list_any (λ (r : Named). bytes_eq n r.0 && is_among wanted r.1.traits) rs ≡ false
  none_later m [] e a = refl
  none_later m (r ∷ rs) e a =
      let b = both _ _ a in
      (λ i. (ap (λ z. bytes_eq z r.0) e ∙ not-true (bytes_eq m r.0) b.0) i && is_among wanted r.1.traits || none_later m rs e b.1 i)

  -- the row of a name has a trait if one of the rows with that trait has that name
  among_rows : (rs : List Named) → apart rs ≡ true → trait_in wanted (next_to n rs) ≡ list_any (λ (r : Named). bytes_eq n r.0 && is_among wanted r.1.traits) rs
  among_rows [] a = refl
  among_rows (r ∷ rs) a = let b = both _ _ a in go b.0 (among_rows rs b.1) (bytes_eq n r.0) refl
    where
      go : others r.0 rs ≡ true → trait_in wanted (next_to n rs) ≡ list_any (λ (r : Named). bytes_eq n r.0 && is_among wanted r.1.traits) rs → (b : Bool) → bytes_eq n r.0 ≡ b
          → trait_in wanted (cond (bytes_eq n r.0) (Some r.1) (next_to n rs)) ≡ ((bytes_eq n r.0 && is_among wanted r.1.traits) || list_any (λ (r : Named). bytes_eq n r.0 && is_among wanted r.1.traits) rs)
      go away more true e =
          let none = none_later r.0 rs ((bytes_eq-Decides n r.0).0 e) away in
          ap (λ b. trait_in wanted (cond b (Some r.1) (next_to n rs))) e
          ∙ or_false (is_among wanted r.1.traits)
          ∙ sym (λ i. (e i && is_among wanted r.1.traits) || none i)
        where
          or_false : (b : Bool) → b ≡ (b || false)
          or_false true = refl
          or_false false = refl
      go away more false e =
          ap (λ b. trait_in wanted (cond b (Some r.1) (next_to n rs))) e ∙ more
          ∙ sym (ap (λ b. (b && is_among wanted r.1.traits) || list_any (λ (r : Named). bytes_eq n r.0 && is_among wanted r.1.traits) rs) e)

  only_those : (rs : List Named) → list_any (λ (r : Named). bytes_eq n r.0 && is_among wanted r.1.traits) rs ≡ list_any (bytes_eq n) (map (λ (r : Named). r.0) (filter (λ (r : Named). is_among wanted r.1.traits) rs))
  only_those [] = refl
  only_those (r ∷ rs) =
      ap (λ b. (bytes_eq n r.0 && is_among wanted r.1.traits) || b) (only_those rs)
      ∙ elim (is_among wanted r.1.traits) as (λ b. ((bytes_eq n r.0 && b) || list_any (bytes_eq n) (map (λ (r : Named). r.0) (filter (λ (r : Named). is_among wanted r.1.traits) rs)))
      ≡ list_any (bytes_eq n) (map (λ (r : Named). r.0) (cond b (r ∷ filter (λ (r : Named). is_among wanted r.1.traits) rs) (filter (λ (r : Named). is_among wanted r.1.traits) rs)))) [
        | true ↦ ap (λ b. b || list_any (bytes_eq n) (map (λ (r : Named). r.0) (filter (λ (r : Named). is_among wanted r.1.traits) rs))) (and_true (bytes_eq n r.0))
        | false ↦ ap (λ b. b || list_any (bytes_eq n) (map (λ (r : Named). r.0) (filter (λ (r : Named). is_among wanted r.1.traits) rs))) (and_false (bytes_eq n r.0))
      ]
    where
      and_true : (b : Bool) → (b && true) ≡ b
      and_true true = refl
      and_true false = refl

      and_false : (b : Bool) → (b && false) ≡ false
      and_false true = refl
      and_false false = refl

rows_apart : apart rows ≡ true
unfolding rows
rows_apart = refl

symbol_rows : map (λ (r : Named). r.0) (filter (λ (r : Named). is_among Symbol r.1.traits) rows) ≡ codes "builtin.module" ∷ codes "func.func" ∷ []
unfolding rows
symbol_rows = refl

pub symbols_are : (n : List ℕ) → has_trait Symbol n ≡ (bytes_eq n (codes "builtin.module") || bytes_eq n (codes "func.func"))
unfolding row_of
symbols_are n =
    among_rows Symbol n rows rows_apart ∙ only_those Symbol n rows ∙ ap (list_any (bytes_eq n)) symbol_rows
    ∙ ap (λ b. bytes_eq n (codes "builtin.module") || b) (or_nothing (bytes_eq n (codes "func.func")))
  where
    or_nothing : (b : Bool) → (b || false) ≡ b
    or_nothing true = refl
    or_nothing false = refl

-- an operation is never dead if it has one of the two traits
pub kept_is : (n : List ℕ) → (has_trait Terminator n || has_trait Symbol n) ≡ is_kept n
kept_is n = ap (λ b. has_trait Terminator n || b) (symbols_are n)
