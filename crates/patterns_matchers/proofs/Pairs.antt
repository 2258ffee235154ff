-- Arithmetic on two operands of its type breaks no rule.
use Rattle.std.proofs.Common.{◌≡◌, refl, ap, sym, ◌∙◌, subst, ℕ, ◌+◌, ◌<◌, ◌≤◌, List, [], ◌∷◌, map, length, slice_index_or, arith, Bool, true, false, not, ◌&&◌, ◌||◌, Option, Some, None, inl, inr}
use Rattle.std.specs.Prelude.{codes, option_map}
use Rattle.std.specs.List.{list_all}
use Rattle.std.specs.Option.{option_eq}
use Rattle.std.specs.Str.{bytes_eq}
use Rattle.std.proofs.lemmas.Slice.Eq.{bytes_eq-Decides}
use Rattle.ir_event.specs.types.Terms.{TypeTerm, AttrTerm, IntegerOf, Overflow}
use Rattle.ir_event.specs.types.SameTypes.{same_type}
use Rattle.ir_event.proofs.of_types.SameTerms.{type_refl, type_is}
use Rattle.ir_event.specs.trees.declared.value.Value.{Value}
use Rattle.op_registry.specs.Rows.{rows}
use Rattle.op_registry.specs.Registry.{row_of}
use Rattle.op_registry.specs.Properties.{property_kinds, kind_of, is_of_kind, is_allowed, is_overflow, integer_of}
use Rattle.ir_verify_base.specs.Types.{is_number}
use Rattle.ir_verify_base.specs.Fits.{Node, Outer, Surroundings}
use Rattle.patterns_base.specs.verify.Breaks.{broken_rules_in, numbers_from, broken}
use Rattle.patterns_base.specs.Keeps.{Each}
use Rattle.patterns_laws.specs.Words.{among}
use Rattle.patterns_matchers.specs.Pairs.{pairs, AreFlags}
use Rattle.ir_event.proofs.of_types.Truths.{none_left}

-- no rule of a list is reported
pub none_reported : (n : ℕ) (bs : List Bool) → list_all not bs ≡ true → numbers_from n bs ≡ []
none_reported n [] e = refl
none_reported n (true ∷ bs) e = absurd cc
none_reported n (false ∷ bs) e = none_reported (n + 1) bs e

-- arithmetic on two operands, at any place
abbrev pub pair_node : List ℕ → ℕ → Value → Value → TypeTerm → List (List ℕ × AttrTerm) → List (List ℕ × AttrTerm) → Node
pair_node name x a b ty flags attributes = record {
  head = record { id = x; name = name; operands = a ∷ b ∷ []; results = ty ∷ []; properties = flags; attributes = attributes };
  arguments = [];
}

abbrev pub pair_at : List ℕ → ℕ → Value → Value → TypeTerm → List (List ℕ × AttrTerm) → List (List ℕ × AttrTerm) → List (Option (List ℕ)) → Option Outer → Surroundings
pair_at name x a b ty flags attributes lasts outer = record { node = pair_node name x a b ty flags attributes; lasts = lasts; types = Some ty ∷ Some ty ∷ []; outer = outer }

abbrev reports_nothing : Surroundings → Bool
reports_nothing s = list_all not (broken_rules_in (row_of s.node.head.name) s)

-- the verifier's requirements on the type
abbrev requested : Bool → Bool → Bool
requested n s = not (not n || not (s && (s && true))) && (not (not (s && true)) && true)

abbrev Fine : List ℕ → Type 0
Fine name =
    (x : ℕ) (a b : Value) (ty : TypeTerm) (flags attributes : List (List ℕ × AttrTerm)) (lasts : List (Option (List ℕ))) (outer : Option Outer) → AreFlags flags → is_number ty ≡ true
    → broken (pair_at name x a b ty flags attributes lasts outer) ≡ []

fine : (name : List ℕ)
    → ((x : ℕ) (a b : Value) (ty : TypeTerm) (attributes : List (List ℕ × AttrTerm)) (lasts : List (Option (List ℕ))) (outer : Option Outer) → reports_nothing (pair_at name x a b ty [] attributes lasts outer) ≡ requested (is_number ty) (same_type ty ty))
    → ((x : ℕ) (a b : Value) (ty : TypeTerm) (nsw nuw : Bool) (attributes : List (List ℕ × AttrTerm)) (lasts : List (Option (List ℕ))) (outer : Option Outer)
    → reports_nothing (pair_at name x a b ty ((codes "overflowFlags", Overflow nsw nuw) ∷ []) attributes lasts outer) ≡ requested (is_number ty) (same_type ty ty))
    → Fine name
fine name f g x a b ty flags attributes lasts outer fl num = none_reported 1 (broken_rules_in (row_of name) (pair_at name x a b ty flags attributes lasts outer)) (quiet ∙ λ i. requested (num i) (type_refl ty i))
  where
    quiet : reports_nothing (pair_at name x a b ty flags attributes lasts outer) ≡ requested (is_number ty) (same_type ty ty)
    quiet = elim fl [
      | inl e ↦ ap (λ es. reports_nothing (pair_at name x a b ty es attributes lasts outer)) e ∙ f x a b ty attributes lasts outer
      | inr e ↦ ap (λ es. reports_nothing (pair_at name x a b ty es attributes lasts outer)) e.2 ∙ g x a b ty e.0 e.1 attributes lasts outer
    ]

each_fine : Each Fine pairs
unfolding pairs row_of rows property_kinds kind_of is_of_kind is_allowed
each_fine = (
  fine (codes "arith.addi") (λ x a b ty es ls o. refl) (λ x a b ty n u es ls o. refl),
  (
    fine (codes "arith.muli") (λ x a b ty es ls o. refl) (λ x a b ty n u es ls o. refl),
    (
      fine (codes "arith.subi") (λ x a b ty es ls o. refl) (λ x a b ty n u es ls o. refl),
      (
        fine (codes "arith.andi") (λ x a b ty es ls o. refl) (λ x a b ty n u es ls o. refl),
        (
          fine (codes "arith.ori") (λ x a b ty es ls o. refl) (λ x a b ty n u es ls o. refl),
          (
            fine (codes "arith.xori") (λ x a b ty es ls o. refl) (λ x a b ty n u es ls o. refl),
            (
              fine (codes "arith.shli") (λ x a b ty es ls o. refl) (λ x a b ty n u es ls o. refl),
              (
                fine (codes "arith.shrsi") (λ x a b ty es ls o. refl) (λ x a b ty n u es ls o. refl),
                (
                  fine (codes "arith.shrui") (λ x a b ty es ls o. refl) (λ x a b ty n u es ls o. refl),
                  (
                    fine (codes "arith.divsi") (λ x a b ty es ls o. refl) (λ x a b ty n u es ls o. refl),
                    (
                      fine (codes "arith.divui") (λ x a b ty es ls o. refl) (λ x a b ty n u es ls o. refl),
                      (
                        fine (codes "arith.remsi") (λ x a b ty es ls o. refl) (λ x a b ty n u es ls o. refl),
                        (
                          fine (codes "arith.remui") (λ x a b ty es ls o. refl) (λ x a b ty n u es ls o. refl),
                          (
                            fine (codes "arith.maxsi") (λ x a b ty es ls o. refl) (λ x a b ty n u es ls o. refl),
                            (
                              fine (codes "arith.maxui") (λ x a b ty es ls o. refl) (λ x a b ty n u es ls o. refl),
                              (
                                fine (codes "arith.minsi") (λ x a b ty es ls o. refl) (λ x a b ty n u es ls o. refl),
                                (
                                  fine (codes "arith.minui") (λ x a b ty es ls o. refl) (λ x a b ty n u es ls o. refl),
                                  tt,
                                ),
                              ),
                            ),
                          ),
                        ),
                      ),
                    ),
                  ),
                ),
              ),
            ),
          ),
        ),
      ),
    ),
  ),
)

-- a property of each word holds of a name among them
among_each : (P : List ℕ → Type 0) (words : List (List ℕ)) (name : List ℕ) → Each P words → among words name ≡ true → P name
among_each P [] name all e = absurd cc
among_each P (word ∷ words) name all e = go (bytes_eq name word) refl e (among_each P words name all.1)
  where
    go : (b : Bool) → bytes_eq name word ≡ b → (b || among words name) ≡ true → (among words name ≡ true → P name) → P name
    go true f e later = subst P (sym ((bytes_eq-Decides name word).0 f)) all.0
    go false f e later = later e

pub pair_unbroken : (name : List ℕ) → among pairs name ≡ true → Fine name
pair_unbroken name e = among_each Fine pairs name each_fine e

-- ---- what is read

pub one_in : {X : Type 0} (xs : List X) (x d : X) → 1 ≤ length xs → length xs < 2 → x ≡ slice_index_or xs 0 d → xs ≡ x ∷ []
one_in [] x d l m e = absurd (omega (arith, l))
one_in (y ∷ []) x d l m e = ap (λ z. z ∷ []) (sym e)
one_in (y ∷ z ∷ xs) x d l m e = absurd (omega (arith, m))

pub two_in : {X : Type 0} (xs : List X) (x y d e : X) → 2 ≤ length xs → length xs < 3 → x ≡ slice_index_or xs 0 d → y ≡ slice_index_or xs 1 e → xs ≡ x ∷ y ∷ []
two_in [] x y d e l m f g = absurd (omega (arith, l))
two_in (u ∷ []) x y d e l m f g = absurd (omega (arith, l))
two_in (u ∷ v ∷ []) x y d e l m f g = λ i. sym f i ∷ sym g i ∷ []
two_in (u ∷ v ∷ w ∷ xs) x y d e l m f g = absurd (omega (arith, m))

pub of_type : (o : Option TypeTerm) (ty : TypeTerm) → option_eq same_type o (Some ty) ≡ true → o ≡ Some ty
of_type None ty e = absurd cc
of_type (Some u) ty e = ap Some (type_is u ty e)

pub flags_are : (a : AttrTerm) → is_allowed (codes "overflowFlags") a ≡ true → (nsw nuw : Bool) × (a ≡ Overflow nsw nuw)
unfolding property_kinds kind_of is_of_kind is_allowed
flags_are a e = go a e
  where
    go : (a : AttrTerm) → is_overflow a ≡ true → (nsw nuw : Bool) × (a ≡ Overflow nsw nuw)
    go (Overflow nsw nuw) e = (nsw, nuw, refl)
    go _ e = absurd cc

pub integer_is : (a : AttrTerm) (ty : TypeTerm) (bits : ℕ) → Some (ty, bits) ≡ integer_of a → a ≡ IntegerOf ty bits
integer_is a ty bits e = go a e
  where
    go : (a : AttrTerm) → Some (ty, bits) ≡ integer_of a → a ≡ IntegerOf ty bits
    go (IntegerOf u n) e = (let one : (ty, bits) ≡ (u, n) = cc in ap (λ (p : TypeTerm × ℕ). IntegerOf p.0 p.1) (sym one))
    go _ e = absurd cc
