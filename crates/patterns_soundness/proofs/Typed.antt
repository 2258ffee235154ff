-- The types of a verified operation's operands and results.
use Rattle.std.proofs.Common.{◌≡◌, refl, ap, sym, ◌∙◌, subst, ℕ, List, [], ◌∷◌, map, Bool, true, false, not, ◌||◌, Option, Some, None}
use Rattle.std.specs.Cmp.{unsigned_Decides}
use Rattle.std.specs.Prelude.{codes, option_map}
use Rattle.std.specs.Option.{option_eq}
use Rattle.std.specs.Str.{bytes_eq}
use Rattle.std.proofs.lemmas.Slice.Eq.{bytes_eq-Decides}
use Rattle.ir_event.specs.types.declared.node.Sign.TheVariants.{Signless, Signed, Unsigned}
use Rattle.ir_event.specs.types.Terms.{TypeTerm, Integer, Index, Function, Memref, OpaqueType, AttrTerm}
use Rattle.ir_event.specs.types.SameTypes.{same_type}
use Rattle.ir_event.specs.trees.declared.value.Value.{Value}
use Rattle.ir_event.specs.trees.Tree.{head}
use Rattle.ir_event.specs.trees.Ids.{HasDistinctIds, find}
use Rattle.ir_event.specs.trees.Meaning.{Operation}
use Rattle.ir_event.specs.tree_laws.Values.{type_of_value}
use Rattle.ir_event.specs.tree_laws.Stands.{OpWithPathOf, stands}
use Rattle.ir_event.specs.tree_laws.Members.{In}
use Rattle.ir_event.proofs.of_tree_laws.Listed.{both, neither}
use Rattle.ir_event.proofs.of_tree_laws.Members.{stand, stand_of_member, found_stands}
use Rattle.op_registry.specs.Rows.{Row, TypesRow, rows}
use Rattle.op_registry.specs.declared.definition.TypeRule.TheVariants as type
use Rattle.op_registry.specs.Registry.{row_of}
use Rattle.listeners_support.specs.Surroundings.{surround}
use Rattle.ir_verify_base.specs.Types.{is_boolean}
use Rattle.ir_verify_base.specs.Fits.{Known, first_called, is_there, is_the_number, known_of, there, types_fit}
use Rattle.ir_verify_base.specs.TypeRules.{is_no_number}
use Rattle.patterns_soundness.specs.base.Keeps.{Each}
use Rattle.patterns_soundness.specs.base.Words.{named, among, with_zero_as_right_identity, with_one_as_right_identity, idempotent}
use Rattle.patterns_soundness.specs.base.Made.{i1}
use Rattle.patterns_soundness.specs.base.Looks.{is_verified}
use Rattle.patterns_soundness.proofs.Unbroken.{verified_unbroken}
use Rattle.listeners_support.proofs.Reading.{head_shown}
use Rattle.std.proofs.lemmas.Bool.{not-false}

abbrev OpWithPath : Type 0
OpWithPath = OpWithPathOf (List ℕ) TypeTerm AttrTerm

-- the types that a table entry requires of operands and results
abbrev pub pair : TypesRow → TypesRow → TypesRow × TypesRow
pair ins outs = (ins, outs)

abbrev pub pair_of : Row → TypesRow × TypesRow
pair_of row = (row.operands, row.results)

-- the types that the table entry of a name requires of operands and results
abbrev pub types_at : List ℕ → Option (TypesRow × TypesRow)
types_at name = option_map pair_of (row_of name)

-- a property of each word holds of a name among them
pub among_each : (P : List ℕ → Type 0) (words : List (List ℕ)) (name : List ℕ) → Each P words → among words name ≡ true → P name
among_each P [] name all e = absurd cc
among_each P (word ∷ words) name all e = go (bytes_eq name word) refl e (among_each P words name all.1)
  where
    go : (b : Bool) → bytes_eq name word ≡ b → (b || among words name) ≡ true → (among words name ≡ true → P name) → P name
    go true f e later = subst P (sym ((bytes_eq-Decides name word).0 f)) all.0
    go false f e later = later e

pub named_is : (P : List ℕ → Type 0) (word name : List ℕ) → P word → named word name ≡ true → P name
named_is P word name p e = subst P (sym ((bytes_eq-Decides name word).0 e)) p

-- two numbers of one type, and a result of that type
abbrev pub two_numbers : TypesRow × TypesRow
two_numbers = (record { first = type.Number ∷ type.Number ∷ []; more = None }, record { first = type.Number ∷ []; more = None })

-- a truth value and two values of one type, and a result of that type
abbrev pub a_choice : TypesRow × TypesRow
a_choice = (record { first = type.Boolean ∷ type.Any ∷ type.Same ∷ []; more = None }, record { first = type.Same ∷ []; more = None })

-- the types of a verified operation with such a table entry
pub record Typed (t o : Operation) (ins outs : TypesRow) : Type 0 where
  pub known : Known
  pub number : known.number ≡ first_called type.Number ins.first (map (λ v. type_of_value v t) (head o).operands)
  pub same : known.same ≡ first_called type.Any ins.first (map (λ v. type_of_value v t) (head o).operands)
  pub requested : types_fit known ins (map (λ v. type_of_value v t) (head o).operands) ≡ true
  pub given : types_fit known outs (there (head o).results) ≡ true

row_at : (name : List ℕ) (p : TypesRow × TypesRow) → types_at name ≡ Some p → (row : Row) × (row_of name ≡ Some row) × (pair_of row ≡ p)
row_at name p e = go (row_of name) refl e
  where
    go : (o : Option Row) → row_of name ≡ o → option_map pair_of o ≡ Some p → (row : Row) × (row_of name ≡ Some row) × (pair_of row ≡ p)
    go None f e = absurd cc
    go (Some row) f e = (row, f, cc)

pub typed : (t o : Operation) (ins outs : TypesRow) → HasDistinctIds t → find (head o).id t ≡ Some o → is_verified t (head o) ≡ true → types_at (head o).name ≡ Some (pair ins outs) → Typed t o ins outs
typed t o ins outs d found verified listed = go (found_stands (head o).id t o found) (row_at (head o).name (pair ins outs) listed)
  where
    go : (s : OpWithPath) × In s (stands [] t) × ((head s.here).id ≡ (head o).id) × (s.here ≡ o) → (row : Row) × (row_of (head o).name ≡ Some row) × (pair_of row ≡ pair ins outs) → Typed t o ins outs
    go w q =
        let here : In (stand o w.0.path) (stands [] t) = subst (λ (z : Operation). In (stand z w.0.path) (stands [] t)) w.3 w.1 in
        let s = surround t (stand o w.0.path) in
        let u = verified_unbroken t (stand o w.0.path) q.0 verified (stand_of_member t d (stand o w.0.path) here) q.1 in
        let k = known_of q.0 s in
        let operands : q.0.operands ≡ ins = ap (λ (p : TypesRow × TypesRow). p.0) q.2 in
        let results : q.0.results ≡ outs = ap (λ (p : TypesRow × TypesRow). p.1) q.2 in
        let given : types_fit k q.0.results (there s.node.head.results) ≡ true = not-false _ u.results in
        let own : s.node.head.results ≡ (head o).results = ap (λ h. h.results) (head_shown o) in
        record {
          known = k;
          number = ap (λ (p : TypesRow). first_called type.Number p.first s.types) operands;
          same = ap (λ (p : TypesRow). first_called type.Any p.first s.types) operands;
          requested = sym (ap (λ (p : TypesRow). types_fit k p s.types) operands) ∙ not-false _ (neither (is_no_number k.number) _ u.operands).1;
          given = sym (λ i. types_fit k (results i) (there (own i))) ∙ given;
        }

-- the type of one number of two is that of the result
pub number_is : (t o : Operation) (a b : Value) (ty : TypeTerm) → Typed t o two_numbers.0 two_numbers.1 → (head o).operands ≡ a ∷ b ∷ [] → (head o).results ≡ ty ∷ [] → (u : TypeTerm) × (type_of_value a t ≡ Some u) × (same_type u ty ≡ true)
number_is t o a b ty w operands results = go (type_of_value a t) refl number requested
  where
    types : map (λ v. type_of_value v t) (head o).operands ≡ type_of_value a t ∷ type_of_value b t ∷ []
    types = ap (map (λ v. type_of_value v t)) operands

    number : w.known.number ≡ type_of_value a t
    number = w.number ∙ ap (first_called type.Number two_numbers.0.first) types

    requested : is_the_number w.known.number (type_of_value a t) ≡ true
    requested = (both (is_the_number w.known.number (type_of_value a t)) _ (sym (ap (types_fit w.known two_numbers.0) types) ∙ w.requested)).0

    given : is_the_number w.known.number (Some ty) ≡ true
    given = (both (is_the_number w.known.number (Some ty)) _ (sym (ap (λ l. types_fit w.known two_numbers.1 (there l)) results) ∙ w.given)).0

    go : (o : Option TypeTerm) → type_of_value a t ≡ o → w.known.number ≡ o → is_the_number w.known.number o ≡ true → (u : TypeTerm) × (type_of_value a t ≡ Some u) × (same_type u ty ≡ true)
    go None f n k = (let bad : false ≡ true = sym (ap (λ m. is_the_number m None) n) ∙ k in absurd cc)
    go (Some u) f n k = (u, f, sym (ap (λ m. is_the_number m (Some ty)) n) ∙ given)

-- the types of a choice
pub record ChoiceTypes (t : Operation) (c a b : Value) (ty : TypeTerm) : Type 0 where
  pub requested : TypeTerm
  pub condition : type_of_value c t ≡ Some requested
  pub truth : requested ≡ i1
  pub first : TypeTerm
  pub taken : type_of_value a t ≡ Some first
  pub same : same_type first ty ≡ true
  pub second : TypeTerm
  pub other : type_of_value b t ≡ Some second
  pub like : same_type first second ≡ true

truth_is : (ty : TypeTerm) → is_boolean ty ≡ true → ty ≡ i1
truth_is (Integer Signless w) e = ap (Integer Signless) ((unsigned_Decides w 1).0 e)
truth_is (Integer Signed w) e = absurd cc
truth_is (Integer Unsigned w) e = absurd cc
truth_is Index e = absurd cc
truth_is (Function is os) e = absurd cc
truth_is (Memref ds u) e = absurd cc
truth_is (OpaqueType s) e = absurd cc

there_is : (test : TypeTerm → Bool) (o : Option TypeTerm) → is_there test o ≡ true → (u : TypeTerm) × (o ≡ Some u) × (test u ≡ true)
there_is test None e = absurd cc
there_is test (Some u) e = (u, refl, e)

alike : (p q : Option TypeTerm) (ty : TypeTerm) → p ≡ Some ty → option_eq same_type p q ≡ true → (u : TypeTerm) × (q ≡ Some u) × (same_type ty u ≡ true)
alike p None ty e f = (let bad : false ≡ true = sym (ap (λ z. option_eq same_type z None) e) ∙ f in absurd cc)
alike p (Some u) ty e f = (u, refl, sym (ap (λ z. option_eq same_type z (Some u)) e) ∙ f)

comes : (p : Option TypeTerm) (ty : TypeTerm) → option_eq same_type p (Some ty) ≡ true → (u : TypeTerm) × (p ≡ Some u) × (same_type u ty ≡ true)
comes None ty e = absurd cc
comes (Some u) ty e = (u, refl, e)

pub choice_is : (t o : Operation) (c a b : Value) (ty : TypeTerm) → Typed t o a_choice.0 a_choice.1 → (head o).operands ≡ c ∷ a ∷ b ∷ [] → (head o).results ≡ ty ∷ [] → ChoiceTypes t c a b ty
choice_is t o c a b ty w operands results =
    let types : map (λ v. type_of_value v t) (head o).operands ≡ type_of_value c t ∷ type_of_value a t ∷ type_of_value b t ∷ [] = ap (map (λ v. type_of_value v t)) operands in
    let same : w.known.same ≡ type_of_value a t = w.same ∙ ap (first_called type.Any a_choice.0.first) types in
    let requested = both (is_there is_boolean (type_of_value c t)) _ (sym (ap (types_fit w.known a_choice.0) types) ∙ w.requested) in
    let third = both (option_eq same_type w.known.same (type_of_value b t)) _ requested.1 in
    let given = both (option_eq same_type w.known.same (Some ty)) _ (sym (ap (λ l. types_fit w.known a_choice.1 (there l)) results) ∙ w.given) in
    let first = there_is is_boolean (type_of_value c t) requested.0 in
    let second = comes w.known.same ty given.0 in
    let taken : type_of_value a t ≡ Some second.0 = sym same ∙ second.1 in
    let other = alike w.known.same (type_of_value b t) second.0 second.1 third.0 in
    record { requested = first.0; condition = first.1; truth = truth_is first.0 first.2; first = second.0; taken = taken; same = second.2; second = other.0; other = other.1; like = other.2 }

-- the table entries of the rules' operations
pub choices_are : types_at (codes "arith.select") ≡ Some a_choice
unfolding row_of rows
choices_are = refl

pub ignoring_zero_are : Each (λ name. types_at name ≡ Some two_numbers) with_zero_as_right_identity
unfolding row_of rows with_zero_as_right_identity
ignoring_zero_are = (refl, (refl, (refl, (refl, (refl, (refl, (refl, tt)))))))

pub ignoring_one_are : Each (λ name. types_at name ≡ Some two_numbers) with_one_as_right_identity
unfolding row_of rows with_one_as_right_identity
ignoring_one_are = (refl, (refl, (refl, tt)))

pub conjunction_is : types_at (codes "arith.andi") ≡ Some two_numbers
unfolding row_of rows
conjunction_is = refl

pub keeping_are : Each (λ name. types_at name ≡ Some two_numbers) idempotent
unfolding row_of rows idempotent
keeping_are = (refl, (refl, (refl, (refl, (refl, (refl, tt))))))
