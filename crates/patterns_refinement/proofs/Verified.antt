-- A module without diagnostics is ready, and a verified operation has a kind.
use Rattle.std.proofs.Common.{◌≡◌, ℕ, suc, arith, eqb-true, ◌+◌, refl, ap, sym, ◌∙◌, subst, List, [], ◌∷◌, ◌++◌, map, Bool, true, false, true≢false, ◌&&◌, ◌||◌, not, Option, Some, None, ◌⊎◌, inl, inr, length, if◌then◌else◌}
use Rattle.std.specs.Prelude.{codes, is_some, option_map, slice_get, nat_le, nat_lt, ◌==◌}
use Rattle.std.specs.List.{filter, list_all}
use Rattle.std.specs.Option.{option_eq}
use Rattle.std.specs.Cmp.{unsigned_Decides}
use Rattle.std.specs.Ordering.{nat_cmp, eq_by_cmp}
use Rattle.std.specs.FinMap.Entries.{find as lookup}
use Rattle.std.specs.Str.{bytes_eq}
use Rattle.std.proofs.lemmas.Bool.{and_parts, lt-ltb, not-false}
use Rattle.std.proofs.lemmas.Bool.Decides.{leb_tells}
use Rattle.std.proofs.lemmas.Option.{none-some, same_Some}
use Rattle.std.proofs.lemmas.Slice.Eq.{bytes_eq-Decides}
use Rattle.patterns_soundness.proofs.Unbroken.{spoken}
use Rattle.ir_types.specs.declared.bits.BitsKind.{BitsKind}
use Rattle.ir_types.specs.declared.bits.BitsKind.TheVariants as kind
use Rattle.ir_types.specs.declared.node.Sign.TheVariants.{Signless, Signed, Unsigned}
use Rattle.ir_types.specs.Bits.{width_of}
use Rattle.ir_types.specs.Reasons.{is_width}
use Rattle.ir_types.specs.Terms.{TypeTerm, Integer, Index, Function, Memref, OpaqueType, AttrTerm}
use Rattle.ir_types.specs.SameTypes.{same_type}
use Rattle.ir_types.proofs.SameTerms.{type_is}
use Rattle.ir_tree.specs.declared.value.Value.{Value}
use Rattle.ir_tree.specs.Tree.{head}
use Rattle.ir_tree.specs.Ids.{HasDistinctIds, find}
use Rattle.ir_tree.specs.Meaning.{Operation}
use Rattle.ir_tree_laws.specs.Members.{In}
use Rattle.ir_tree_laws.specs.Stands.{OpWithPathOf, op_with_path_id, op_with_path, stands}
use Rattle.ir_tree_laws.specs.Values.{type_of_value}
use Rattle.ir_tree_laws.proofs.Listed.{neither}
use Rattle.ir_tree_laws.proofs.Members.{found_stands, stand_found, stand_of_member}
use Rattle.op_registry.specs.declared.definition.TypeRule.{TypeRule}
use Rattle.op_registry.specs.declared.definition.TypeRule.TheVariants as type
use Rattle.op_registry.specs.Rows.{Row, TypesRow, rows}
use Rattle.op_registry.specs.Registry.{next_to, row_of}
use Rattle.listeners_support.specs.Surroundings.{surround, surroundings}
use Rattle.listeners_support.specs.Facts.{sorted_facts}
use Rattle.listeners_support.proofs.Reading.{head_shown}
use Rattle.listeners_support.proofs.SortedFacts.{found}
use Rattle.ir_verify_base.specs.Types.{is_boolean, is_integer, is_number}
use Rattle.ir_verify_base.specs.Fits.{Known, Surroundings, first_called, fits, is_named, is_the_number, is_there, known_of, there, types_fit}
use Rattle.ir_verify_base.specs.Shapes.{breaks_1, breaks_3, breaks_5, breaks_12, breaks_13, is_well_shaped}
use Rattle.ir_verify_base.specs.TypeRules.{breaks_2, breaks_4, breaks_18, is_extension, is_no_number, isnt_greater, isnt_smaller}
use Rattle.patterns_base.specs.verify.Breaks.{broken, numbers_from, broken_rules_in, counted_rules}
use Rattle.patterns_base.specs.verify.Beyond.{is_beyond, is_on_types, reported}
use Rattle.patterns_base.specs.Diagnostics.{broken_at, diagnostics_of, rows_of, rule_rows}
use Rattle.patterns_base.specs.Looks.{breaks_none, has_own_properties, is_verified}
use Rattle.listeners_support.specs.events.Rows.{RowTerm}
use Rattle.dialects_int.specs.declared.operations.Cast.{Cast}
use Rattle.dialects_int.specs.declared.operations.Cast.TheVariants as cuts
use Rattle.dialects_int.specs.declared.operations.Rule.{Rule as How}
use Rattle.dialects_int.specs.declared.operations.Rule.TheVariants as how
use Rattle.dialects_int.specs.Folds.{fold_of, kind_of, rule_of, rules, same_kind}
use Rattle.dialects_int.proofs.KnownOperands.{same_itself}
use Rattle.patterns_laws.specs.Keeps.{Each as EachIn}
use Rattle.user_patterns_check.specs.Outcomes.{given}
use Rattle.user_patterns_data.specs.Matching.{Header}
use Rattle.patterns_refinement.specs.Meaning.{result_kind}
use Rattle.patterns_refinement.specs.Better.{are_its_bits, compares, is_kind, is_kinded, kind_in, narrows, takes, takes_its}
use Rattle.patterns_refinement.specs.Choices.{is_select}
use Rattle.patterns_refinement.specs.Verified.{VerifiedIsReady, has_width, is_covered, is_in_range, is_within, is_within_by}
use Rattle.patterns_refinement.proofs.Wellformed.{each_stands}
use Rattle.patterns_refinement.proofs.Trees.{each_found}

abbrev OpWithPath : Type 0
OpWithPath = OpWithPathOf (List ℕ) TypeTerm AttrTerm

-- ---- a report without rows
silent_rows : (x : ℕ) (rs : List ℕ) (more : List RowTerm) → rule_rows x rs ++ more ≡ [] → (rs ≡ []) × (more ≡ [])
silent_rows x [] more e = (refl, e)
silent_rows x (r ∷ rs) more e = absurd cc

silent_found : (q : ℕ) (es : List (ℕ × List ℕ)) → rows_of es ≡ [] → (rs : List ℕ) → lookup nat_cmp q es ≡ Some rs → rs ≡ []
silent_found q [] s rs e = absurd (none-some rs e)
silent_found q (e ∷ es) s rs f =
    let w = silent_rows e.0 e.1 (rows_of es) s in
    go (eq_by_cmp nat_cmp q e.0) f w.0 (silent_found q es w.1 rs)
  where
    go : (b : Bool) → (if b then Some e.1 else lookup nat_cmp q es) ≡ Some rs → e.1 ≡ [] → (lookup nat_cmp q es ≡ Some rs → rs ≡ []) → rs ≡ []
    go true f none later = sym (same_Some _ _ f) ∙ none
    go false f none later = later f

none_reported : (t : Operation) → diagnostics_of t ≡ [] → (x : ℕ) (s : OpWithPath) → op_with_path x t ≡ Some s → reported (surround t s) ≡ []
none_reported t reports_nothing x s e =
    silent_found x (sorted_facts reported t) reports_nothing (reported (surround t s)) (found reported t x (stands [] t) ∙ ap (λ o. option_map reported (option_map (surround t) o)) e)

-- an operation that the operation table knows breaks only the constraints that the diagnostics report
all_kept : (rs : List ℕ) → filter (λ r. true) rs ≡ rs
all_kept [] = refl
all_kept (r ∷ rs) = ap (λ l. r ∷ l) (all_kept rs)

none_broken : (s : Surroundings) → is_beyond s ≡ false → reported s ≡ [] → broken s ≡ []
none_broken s e f =
    sym (all_kept (broken s))
    ∙ sym (ap (λ b. filter (λ r. not (b && is_on_types (is_named s.node (codes "arith.constant")) r)) (broken s)) e) ∙ f

-- ---- the rules that a listed operation doesn't break
abbrev AllFalse : List Bool → Type 0
AllFalse [] = Unit {0}
AllFalse (b ∷ bs) = (b ≡ false) × AllFalse bs

none_hold : (n : ℕ) (bs : List Bool) → numbers_from n bs ≡ [] → AllFalse bs
none_hold n [] e = tt
none_hold n (true ∷ bs) e = absurd cc
none_hold n (false ∷ bs) e = (refl, none_hold (n + 1) bs e)

shaped_of : (a b c d e : Bool) → a ≡ false → b ≡ false → c ≡ false → d ≡ false → e ≡ false → not ((a || (b || c)) || (d || e)) ≡ true
shaped_of a b c d e p q r s t = λ i. not ((p i || (q i || r i)) || (s i || t i))

record Unbroken (row : Row) (s : Surroundings) : Type 0 where
  operands : breaks_2 row s ≡ false
  results : breaks_4 row s ≡ false
  cuts : breaks_18 s ≡ false

unbroken : (row : Row) (s : Surroundings) → numbers_from 1 (counted_rules row s) ≡ [] → Unbroken row s
unbroken row s e =
    let w = is_well_shaped row s.node in
    let a = none_hold 1 (counted_rules row s) e in
    let from_4 = a.1.1.1 in
    let from_12 = from_4.1.1.1.1.1.1.1.1 in
    let from_18 = from_12.1.1.1.1.1.1 in
    let shaped = shaped_of (breaks_1 row s.node) (breaks_3 row s.node) (breaks_5 row s.node) (breaks_12 row s.node) (breaks_13 row s.node) a.0 a.1.1.0 from_4.1.0 from_12.0 from_12.1.0 in
    record {
      operands = spoken w (breaks_2 row s) shaped a.1.0;
      results = spoken w (breaks_4 row s) shaped from_4.0;
      cuts = spoken w (breaks_18 s) shaped from_18.0;
    }

-- ---- the row of an arithmetic operation
abbrev types : List TypeRule → TypesRow
types first = record { first = first; more = None }

abbrev pair_of : Row → TypesRow × TypesRow
pair_of row = (row.operands, row.results)

-- the constraints of an operation's row on operands and results
abbrev asks_of : How → TypesRow × TypesRow
asks_of how.Constant = (types [], types (type.Number ∷ []))
asks_of (how.Binary o) = (types (type.Number ∷ type.Number ∷ []), types (type.Number ∷ []))
asks_of how.Compare = (types (type.Number ∷ type.Number ∷ []), types (type.Boolean ∷ []))
asks_of how.Select = (types (type.Boolean ∷ type.Any ∷ type.Same ∷ []), types (type.Same ∷ []))
asks_of (how.IntegerCast c) = (types (type.Integer ∷ []), types (type.Integer ∷ []))
asks_of (how.IndexCast c) = (types (type.Number ∷ []), types (type.OtherNumber ∷ []))

-- the names of selects and truncations; no index cast has one
abbrev IsCut : How → List ℕ → Type 0
IsCut how.Select name = bytes_eq name (codes "arith.select") ≡ true
IsCut (how.IntegerCast cuts.Truncate) name = bytes_eq name (codes "arith.trunci") ≡ true
IsCut (how.IndexCast cuts.Truncate) name = ⊥
IsCut _ name = Unit {0}

abbrev RowFits : List ℕ → How → Type 0
RowFits name r = (option_map pair_of (row_of name) ≡ Some (asks_of r)) × IsCut r name

rows_fit : EachIn (λ (row : List ℕ × How). RowFits row.0 row.1) rules
unfolding rules row_of rows
rows_fit = ((refl, tt), ((refl, tt), ((refl, tt), ((refl, tt), ((refl, tt), ((refl, tt), ((refl, tt), ((refl, tt), ((refl, tt), ((refl, tt), ((refl, tt), ((refl, tt), ((refl, tt), ((refl, tt), ((refl, tt), ((refl, tt), ((refl, tt), ((refl, tt), ((refl, tt), ((refl, refl), ((refl, tt), ((refl, tt), ((refl, refl), ((refl, tt), ((refl, tt), tt)))))))))))))))))))))))))

next_to_fits : (name : List ℕ) (r : How) (rows : List (List ℕ × How)) → EachIn (λ (row : List ℕ × How). RowFits row.0 row.1) rows → next_to name rows ≡ Some r → RowFits name r
next_to_fits name r [] all e = absurd (none-some r e)
next_to_fits name r (row ∷ rows) all e = go (bytes_eq name row.0) refl e (next_to_fits name r rows all.1)
  where
    go : (b : Bool) → bytes_eq name row.0 ≡ b → (if b then Some row.1 else next_to name rows) ≡ Some r → (next_to name rows ≡ Some r → RowFits name r) → RowFits name r
    go true f e later = subst (λ n. RowFits n r) (sym ((bytes_eq-Decides name row.0).0 f)) (subst (RowFits row.0) (same_Some row.1 r e) all.0)
    go false f e later = later e

rule_fits : (name : List ℕ) (r : How) → rule_of name ≡ Some r → RowFits name r
unfolding rule_of
rule_fits name r e = next_to_fits name r rules rows_fit e

pub named_select : (name : List ℕ) → rule_of name ≡ Some how.Select → bytes_eq name (codes "arith.select") ≡ true
named_select name e = (rule_fits name how.Select e).1

row_at : (name : List ℕ) (p : TypesRow × TypesRow) → option_map pair_of (row_of name) ≡ Some p → (row : Row) × (row_of name ≡ Some row) × (pair_of row ≡ p)
row_at name p e = go (row_of name) refl e
  where
    go : (o : Option Row) → row_of name ≡ o → option_map pair_of o ≡ Some p → (row : Row) × (row_of name ≡ Some row) × (pair_of row ≡ p)
    go None f e = absurd (none-some p e)
    go (Some row) f e = (row, f, same_Some (pair_of row) p e)

-- ---- the kinds of types
kind_there : (u : TypeTerm) → is_number u ≡ true → (k : BitsKind) × (kind_of u ≡ Some k)
kind_there (Integer Signless w) e = (kind.Int w, refl)
kind_there (Integer Signed w) e = absurd (true≢false (sym e))
kind_there (Integer Unsigned w) e = absurd (true≢false (sym e))
kind_there Index e = (kind.Index, refl)
kind_there (Function is os) e = absurd (true≢false (sym e))
kind_there (Memref ds u) e = absurd (true≢false (sym e))
kind_there (OpaqueType s) e = absurd (true≢false (sym e))

truth_kind : (u : TypeTerm) → is_boolean u ≡ true → kind_of u ≡ Some (kind.Int 1)
truth_kind (Integer Signless w) e = ap (λ w. Some (kind.Int w)) ((unsigned_Decides w 1).0 e)
truth_kind (Integer Signed w) e = absurd (true≢false (sym e))
truth_kind (Integer Unsigned w) e = absurd (true≢false (sym e))
truth_kind Index e = absurd (true≢false (sym e))
truth_kind (Function is os) e = absurd (true≢false (sym e))
truth_kind (Memref ds u) e = absurd (true≢false (sym e))
truth_kind (OpaqueType s) e = absurd (true≢false (sym e))

pub integer_is : (u : TypeTerm) → is_integer u ≡ true → (w : ℕ) × (u ≡ Integer Signless w)
integer_is (Integer Signless w) e = (w, refl)
integer_is (Integer Signed w) e = absurd (true≢false (sym e))
integer_is (Integer Unsigned w) e = absurd (true≢false (sym e))
integer_is Index e = absurd (true≢false (sym e))
integer_is (Function is os) e = absurd (true≢false (sym e))
integer_is (Memref ds u) e = absurd (true≢false (sym e))
integer_is (OpaqueType s) e = absurd (true≢false (sym e))

there_is : (test : TypeTerm → Bool) (o : Option TypeTerm) → is_there test o ≡ true → (u : TypeTerm) × (o ≡ Some u) × (test u ≡ true)
there_is test None e = absurd (true≢false (sym e))
there_is test (Some u) e = (u, refl, e)

-- the first number of the row
number_there : (n a : Option TypeTerm) → n ≡ a → is_no_number n ≡ false → is_the_number n a ≡ true → (u : TypeTerm) × (a ≡ Some u) × (is_number u ≡ true)
number_there n None e f g = absurd (true≢false (sym (sym (ap (λ n. is_the_number n None) e) ∙ g)))
number_there n (Some u) e f g = (u, refl, not-false _ (sym (ap is_no_number e) ∙ f))

same_number : (n o : Option TypeTerm) (u : TypeTerm) → n ≡ Some u → is_the_number n o ≡ true → o ≡ Some u
same_number n None u e f = absurd (true≢false (sym (sym (ap (λ n. is_the_number n None) e) ∙ f)))
same_number n (Some v) u e f = ap Some (sym (type_is u v (sym (ap (λ n. is_the_number n (Some v)) e) ∙ f)))

-- equal types
same_there : (n o : Option TypeTerm) (u : TypeTerm) → o ≡ Some u → option_eq same_type n o ≡ true → n ≡ Some u
same_there None o u e f = absurd (true≢false (sym (sym (ap (option_eq same_type None) e) ∙ f)))
same_there (Some v) o u e f = ap Some (type_is v u (sym (ap (option_eq same_type (Some v)) e) ∙ f))

same_then : (n o : Option TypeTerm) (u : TypeTerm) → n ≡ Some u → option_eq same_type n o ≡ true → o ≡ Some u
same_then n None u e f = absurd (true≢false (sym (sym (ap (λ n. option_eq same_type n None) e) ∙ f)))
same_then n (Some v) u e f = ap Some (sym (type_is u v (sym (ap (λ n. option_eq same_type n (Some v)) e) ∙ f)))

-- ---- types that fit a row
more_than_none : (n : ℕ) → (suc n == 0) ≡ true → ⊥
more_than_none n e = let i : suc n ≡ 0 = eqb-true (suc n) 0 e in omega (arith, i)

one_fits : (known : Known) (a : TypeRule) (ts : List (Option TypeTerm)) → types_fit known (types (a ∷ [])) ts ≡ true → (t : Option TypeTerm) × (ts ≡ t ∷ [])
one_fits known a [] e = absurd (true≢false (sym e))
one_fits known a (t ∷ []) e = (t, refl)
one_fits known a (t ∷ u ∷ ts) e = absurd (more_than_none (length ts) (and_parts (fits known a t) (length (u ∷ ts) == 0) e).1)

two_fit : (known : Known) (a b : TypeRule) (ts : List (Option TypeTerm)) → types_fit known (types (a ∷ b ∷ [])) ts ≡ true → (t u : Option TypeTerm) × (ts ≡ t ∷ u ∷ [])
two_fit known a b [] e = absurd (true≢false (sym e))
two_fit known a b (t ∷ ts) e = let w = one_fits known b ts (and_parts _ _ e).1 in (t, w.0, ap (λ l. t ∷ l) w.1)

three_fit : (known : Known) (a b c : TypeRule) (ts : List (Option TypeTerm)) → types_fit known (types (a ∷ b ∷ c ∷ [])) ts ≡ true → (t u v : Option TypeTerm) × (ts ≡ t ∷ u ∷ v ∷ [])
three_fit known a b c [] e = absurd (true≢false (sym e))
three_fit known a b c (t ∷ ts) e = let w = two_fit known b c ts (and_parts _ _ e).1 in (t, w.0, w.1, ap (λ l. t ∷ l) w.2)

result_fits : (known : Known) (a : TypeRule) (us : List TypeTerm) → types_fit known (types (a ∷ [])) (there us) ≡ true → (u : TypeTerm) × (us ≡ u ∷ [])
result_fits known a [] e = absurd (true≢false (sym e))
result_fits known a (u ∷ []) e = (u, refl)
result_fits known a (u ∷ v ∷ us) e = absurd (more_than_none (length (there us)) (and_parts (fits known a (Some u)) (length (there (v ∷ us)) == 0) e).1)

-- ---- the operands of a verified operation
abbrev kinds_of_types : List (Option TypeTerm) → List (Option BitsKind)
kinds_of_types ts = map (λ t. given t kind_of) ts

-- Returns whether the first kind is i1.
abbrev pub is_by_truth : List (Option BitsKind) → Bool
is_by_truth [] = false
is_by_truth (c ∷ js) = is_kind (kind.Int 1) c

record Verified (r : How) (name : List ℕ) (ts : List (Option TypeTerm)) (us : List TypeTerm) : Type 0 where
  known : Known
  number : known.number ≡ first_called type.Number (asks_of r).0.first ts
  same : known.same ≡ first_called type.Any (asks_of r).0.first ts
  is_number : is_no_number known.number ≡ false
  requested : types_fit known (asks_of r).0 ts ≡ true
  returned : types_fit known (asks_of r).1 (there us) ≡ true
  cut : bytes_eq name (codes "arith.trunci") ≡ true → isnt_smaller ts us ≡ false

record Takes (r : How) (h : Header) (ts : List (Option TypeTerm)) (us : List TypeTerm) : Type 0 where
  own_kind : BitsKind
  is : given (slice_get us 0) kind_of ≡ Some own_kind
  takes : takes r h own_kind (kinds_of_types ts) ≡ true

known_kind : (o : Option TypeTerm) (u : TypeTerm) (k : BitsKind) → o ≡ Some u → kind_of u ≡ Some k → given o kind_of ≡ Some k
known_kind o u k e f = ap (λ o. given o kind_of) e ∙ f

its_kind : (o : Option BitsKind) (k : BitsKind) → o ≡ Some k → is_kind k o ≡ true
its_kind o k e = ap (is_kind k) e ∙ same_itself k

both_true : (b c : Bool) → b ≡ true → c ≡ true → b && c ≡ true
both_true b c p q = λ i. p i && q i

module _ (h : Header) (ts : List (Option TypeTerm)) (us : List TypeTerm) where
  record Numbers (known : Known) : Type 0 where
    first : Option TypeTerm
    second : Option TypeTerm
    are : ts ≡ first ∷ second ∷ []
    own : TypeTerm
    first_is : first ≡ Some own
    second_is : second ≡ Some own
    number_is : known.number ≡ Some own
    k : BitsKind
    of : kind_of own ≡ Some k

  two_numbers : (known : Known) → known.number ≡ first_called type.Number (type.Number ∷ type.Number ∷ []) ts → is_no_number known.number ≡ false → types_fit known (types (type.Number ∷ type.Number ∷ [])) ts ≡ true → Numbers known
  two_numbers known number is requested =
      let w = two_fit known type.Number type.Number ts requested in
      let number_is : known.number ≡ w.0 = number ∙ ap (first_called type.Number (type.Number ∷ type.Number ∷ [])) w.2 in
      let fits : types_fit known (types (type.Number ∷ type.Number ∷ [])) (w.0 ∷ w.1 ∷ []) ≡ true = sym (ap (types_fit known (types (type.Number ∷ type.Number ∷ []))) w.2) ∙ requested in
      let f = and_parts (is_the_number known.number w.0) _ fits in
      let s = and_parts (is_the_number known.number w.1) _ f.1 in
      let u = number_there known.number w.0 number_is is f.0 in
      let k = kind_there u.0 u.2 in
      let known_is : known.number ≡ Some u.0 = number_is ∙ u.1 in
      record { first = w.0; second = w.1; are = w.2; own = u.0; first_is = u.1; second_is = same_number known.number w.1 u.0 known_is s.0; number_is = known_is; k = k.0; of = k.1 }

  takes_pair : (o : _) (name : List ℕ) → Verified (how.Binary o) name ts us → Takes (how.Binary o) h ts us
  takes_pair o name v =
      let w = two_numbers v.known v.number v.is_number v.requested in
      let r = result_fits v.known type.Number us v.returned in
      let fits : types_fit v.known (types (type.Number ∷ [])) (Some r.0 ∷ []) ≡ true = sym (ap (λ us. types_fit v.known (types (type.Number ∷ [])) (there us)) r.1) ∙ v.returned in
      let same = same_number v.known.number (Some r.0) w.own w.number_is (and_parts (is_the_number v.known.number (Some r.0)) _ fits).0 in
      record {
        own_kind = w.k;
        is = ap (λ us. given (slice_get us 0) kind_of) r.1 ∙ known_kind (Some r.0) w.own w.k same w.of;
        takes = ap (λ ts. takes (how.Binary o) h w.k (kinds_of_types ts)) w.are
            ∙ both_true (is_kind w.k (given w.first kind_of)) (is_kind w.k (given w.second kind_of))
            (its_kind (given w.first kind_of) w.k (known_kind w.first w.own w.k w.first_is w.of)) (its_kind (given w.second kind_of) w.k (known_kind w.second w.own w.k w.second_is w.of));
      }

  takes_compare : (name : List ℕ) → Verified how.Compare name ts us → Takes how.Compare h ts us
  takes_compare name v =
      let w = two_numbers v.known v.number v.is_number v.requested in
      let r = result_fits v.known type.Boolean us v.returned in
      let fits : types_fit v.known (types (type.Boolean ∷ [])) (Some r.0 ∷ []) ≡ true = sym (ap (λ us. types_fit v.known (types (type.Boolean ∷ [])) (there us)) r.1) ∙ v.returned in
      let truth = truth_kind r.0 (and_parts (is_boolean r.0) _ fits).0 in
      record {
        own_kind = kind.Int 1;
        is = ap (λ us. given (slice_get us 0) kind_of) r.1 ∙ truth;
        takes = ap (λ ts. takes how.Compare h (kind.Int 1) (kinds_of_types ts)) w.are
            ∙ (λ i. compares (kind.Int 1) (known_kind w.first w.own w.k w.first_is w.of i) (known_kind w.second w.own w.k w.second_is w.of i))
            ∙ both_true (is_kind w.k (Some w.k)) (same_kind (kind.Int 1) (kind.Int 1)) (same_itself w.k) refl;
      }

  takes_select : (name : List ℕ) → is_some (given (slice_get us 0) kind_of) ≡ true → Verified how.Select name ts us → Takes how.Select h ts us
  takes_select name some v =
      let w = three_fit v.known type.Boolean type.Any type.Same ts v.requested in
      let r = result_fits v.known type.Same us v.returned in
      let fits : types_fit v.known (types (type.Same ∷ [])) (Some r.0 ∷ []) ≡ true = sym (ap (λ us. types_fit v.known (types (type.Same ∷ [])) (there us)) r.1) ∙ v.returned in
      let same_is : v.known.same ≡ w.1 = v.same ∙ ap (first_called type.Any (type.Boolean ∷ type.Any ∷ type.Same ∷ [])) w.3 in
      let known_is : v.known.same ≡ Some r.0 = same_there v.known.same (Some r.0) r.0 refl (and_parts (option_eq same_type v.known.same (Some r.0)) _ fits).0 in
      let all : types_fit v.known (types (type.Boolean ∷ type.Any ∷ type.Same ∷ [])) (w.0 ∷ w.1 ∷ w.2 ∷ []) ≡ true = sym (ap (types_fit v.known (types (type.Boolean ∷ type.Any ∷ type.Same ∷ []))) w.3) ∙ v.requested in
      let f = and_parts (is_there is_boolean w.0) _ all in
      let third = same_then v.known.same w.2 r.0 known_is (and_parts (option_eq same_type v.known.same w.2) _ f.1).0 in
      let c = there_is is_boolean w.0 f.0 in
      let k = some_kind (given (slice_get us 0) kind_of) some in
      let of : kind_of r.0 ≡ Some k.0 = sym (ap (λ us. given (slice_get us 0) kind_of) r.1) ∙ k.1 in
      record {
        own_kind = k.0;
        is = k.1;
        takes = ap (λ ts. takes how.Select h k.0 (kinds_of_types ts)) w.3
            ∙ both_true (is_kind (kind.Int 1) (given w.0 kind_of)) (is_kind k.0 (given w.1 kind_of) && is_kind k.0 (given w.2 kind_of))
            (its_kind (given w.0 kind_of) (kind.Int 1) (known_kind w.0 c.0 (kind.Int 1) c.1 (truth_kind c.0 c.2)))
            (both_true (is_kind k.0 (given w.1 kind_of)) (is_kind k.0 (given w.2 kind_of))
            (its_kind (given w.1 kind_of) k.0 (known_kind w.1 r.0 k.0 (sym same_is ∙ known_is) of)) (its_kind (given w.2 kind_of) k.0 (known_kind w.2 r.0 k.0 third of)));
      }
    where
      some_kind : (o : Option BitsKind) → is_some o ≡ true → (k : BitsKind) × (o ≡ Some k)
      some_kind None e = absurd (true≢false (sym e))
      some_kind (Some k) e = (k, refl)

  selects_by_truth : (name : List ℕ) → Verified how.Select name ts us → is_by_truth (kinds_of_types ts) ≡ true
  selects_by_truth name v =
      let w = three_fit v.known type.Boolean type.Any type.Same ts v.requested in
      let all : types_fit v.known (types (type.Boolean ∷ type.Any ∷ type.Same ∷ [])) (w.0 ∷ w.1 ∷ w.2 ∷ []) ≡ true = sym (ap (types_fit v.known (types (type.Boolean ∷ type.Any ∷ type.Same ∷ []))) w.3) ∙ v.requested in
      let c = there_is is_boolean w.0 (and_parts (is_there is_boolean w.0) _ all).0 in
      ap (λ ts. is_by_truth (kinds_of_types ts)) w.3 ∙ its_kind (given w.0 kind_of) (kind.Int 1) (known_kind w.0 c.0 (kind.Int 1) c.1 (truth_kind c.0 c.2))

  narrows_so : (c : Cast) (v w : ℕ) → (c ≡ cuts.Truncate → nat_lt w v ≡ true) → narrows c (Some (kind.Int v)) (kind.Int w) ≡ true
  narrows_so cuts.Truncate v w less = less refl
  narrows_so cuts.ExtendSigned v w less = refl
  narrows_so cuts.ExtendUnsigned v w less = refl

  takes_resize : (c : Cast) (name : List ℕ) → IsCut (how.IntegerCast c) name → Verified (how.IntegerCast c) name ts us → Takes (how.IntegerCast c) h ts us
  takes_resize c name is_cut v =
      let w = one_fits v.known type.Integer ts v.requested in
      let r = result_fits v.known type.Integer us v.returned in
      let fits : types_fit v.known (types (type.Integer ∷ [])) (Some r.0 ∷ []) ≡ true = sym (ap (λ us. types_fit v.known (types (type.Integer ∷ [])) (there us)) r.1) ∙ v.returned in
      let all : types_fit v.known (types (type.Integer ∷ [])) (w.0 ∷ []) ≡ true = sym (ap (types_fit v.known (types (type.Integer ∷ []))) w.1) ∙ v.requested in
      let to = integer_is r.0 (and_parts (is_integer r.0) _ fits).0 in
      let u = there_is is_integer w.0 (and_parts (is_there is_integer w.0) _ all).0 in
      let from = integer_is u.0 u.2 in
      let first_is : w.0 ≡ Some (Integer Signless from.0) = u.1 ∙ ap (λ z. Some z) from.1 in
      let ts_are : ts ≡ Some (Integer Signless from.0) ∷ [] = w.1 ∙ ap (λ z. z ∷ []) first_is in
      let us_are : us ≡ Integer Signless to.0 ∷ [] = r.1 ∙ ap (λ z. z ∷ []) to.1 in
      record {
        own_kind = kind.Int to.0;
        is = ap (λ us. given (slice_get us 0) kind_of) us_are;
        takes = ap (λ ts. takes (how.IntegerCast c) h (kind.Int to.0) (kinds_of_types ts)) ts_are
            ∙ narrows_so c from.0 to.0 (λ e. less from.0 to.0 (sym (λ i. isnt_smaller (ts_are i) (us_are i)) ∙ v.cut (subst (λ c. IsCut (how.IntegerCast c) name) e is_cut)));
      }
    where
      less : (v w : ℕ) → nat_le v w ≡ false → nat_lt w v ≡ true
      less v w e = elim (leb_tells v w) [ inl i ↦ absurd (true≢false (sym i.0 ∙ e)) | inr i ↦ lt-ltb w v i.1 ]

  narrows_always : (c : Cast) (name : List ℕ) → IsCut (how.IndexCast c) name → (j k : BitsKind) → narrows c (Some j) k ≡ true
  narrows_always cuts.Truncate name is j k = absurd is
  narrows_always cuts.ExtendSigned name is j k = refl
  narrows_always cuts.ExtendUnsigned name is j k = refl

  takes_index_cast : (c : Cast) (name : List ℕ) → IsCut (how.IndexCast c) name → Verified (how.IndexCast c) name ts us → Takes (how.IndexCast c) h ts us
  takes_index_cast c name is_cut v =
      let w = one_fits v.known type.Number ts v.requested in
      let r = result_fits v.known type.OtherNumber us v.returned in
      let fits : types_fit v.known (types (type.OtherNumber ∷ [])) (Some r.0 ∷ []) ≡ true = sym (ap (λ us. types_fit v.known (types (type.OtherNumber ∷ [])) (there us)) r.1) ∙ v.returned in
      let all : types_fit v.known (types (type.Number ∷ [])) (w.0 ∷ []) ≡ true = sym (ap (types_fit v.known (types (type.Number ∷ []))) w.1) ∙ v.requested in
      let number_is : v.known.number ≡ w.0 = v.number ∙ ap (first_called type.Number (type.Number ∷ [])) w.1 in
      let u = number_there v.known.number w.0 number_is v.is_number (and_parts (is_the_number v.known.number w.0) _ all).0 in
      let j = kind_there u.0 u.2 in
      let k = kind_there r.0 (and_parts (is_number r.0) _ fits).0 in
      record {
        own_kind = k.0;
        is = ap (λ us. given (slice_get us 0) kind_of) r.1 ∙ k.1;
        takes = ap (λ ts. takes (how.IndexCast c) h k.0 (kinds_of_types ts)) w.1
            ∙ ap (λ o. narrows c o k.0) (known_kind w.0 u.0 j.0 u.1 j.1) ∙ narrows_always c name is_cut j.0 k.0;
      }

-- ---- an operation of a module
kinds_are : (t : Operation) (vs : List Value) → map (kind_in t) vs ≡ kinds_of_types (map (λ v. type_of_value v t) vs)
kinds_are t [] = refl
kinds_are t (v ∷ vs) = ap (λ l. kind_in t v ∷ l) (kinds_are t vs)

width_is : (us : List TypeTerm) (k : BitsKind) → list_all (λ ty. has_width (kind_of ty)) us ≡ true → given (slice_get us 0) kind_of ≡ Some k → is_width (width_of k) ≡ true
width_is [] k e f = absurd (none-some k f)
width_is (u ∷ us) k e f = sym (ap has_width f) ∙ (and_parts (has_width (kind_of u)) _ e).0

covered : (b : Option Bool) → is_covered b ≡ true → b ≡ Some false
covered None e = absurd (true≢false (sym e))
covered (Some true) e = absurd (true≢false (sym e))
covered (Some false) e = refl

-- whether an operation with a rule needs a result with a kind; a constant may have another
abbrev pub asks_kind : Option How → Bool
asks_kind None = false
asks_kind (Some how.Constant) = false
asks_kind (Some r) = true

-- the result has a kind, if the operation needs one
abbrev pub HasKind : Header → Type 0
HasKind h = asks_kind (rule_of h.name) ≡ true → is_some (result_kind h) ≡ true

pub no_rules : (rs : List ℕ) → breaks_none (Some rs) ≡ true → rs ≡ []
no_rules [] e = refl
no_rules (r ∷ rs) e = absurd (true≢false (sym e))

module _ (t : Operation) (distinct : HasDistinctIds t) (s : OpWithPath) (here : In s (stands [] t)) where
  abbrev h : Header
  h = head s.here

  abbrev around : Surroundings
  around = surround t s

  abbrev beyond : Option Bool
  beyond = option_map is_beyond (surroundings h.id t)

  beyond_is : beyond ≡ Some (is_beyond around)
  beyond_is = ap (λ o. option_map is_beyond (option_map (surround t) o)) (stand_of_member t distinct s here)

  form_verified : (r : How) → rule_of h.name ≡ Some r → broken around ≡ [] → Verified r h.name (map (λ v. type_of_value v t) h.operands) h.results
  form_verified r e none =
      let fits = rule_fits h.name r e in
      let w = row_at h.name (asks_of r) fits.0 in
      let own : around.node.head ≡ h = head_shown s.here in
      let listed : row_of around.node.head.name ≡ Some w.0 = ap (λ (h : Header). row_of h.name) own ∙ w.1 in
      let u = unbroken w.0 around (sym (ap (λ r. numbers_from 1 (broken_rules_in r around)) listed) ∙ none) in
      let k = known_of w.0 around in
      let operands : w.0.operands ≡ (asks_of r).0 = ap (λ (p : TypesRow × TypesRow). p.0) w.2 in
      let results : w.0.results ≡ (asks_of r).1 = ap (λ (p : TypesRow × TypesRow). p.1) w.2 in
      let own_results : around.node.head.results ≡ h.results = ap (λ (h : Header). h.results) own in
      let parts = neither (is_no_number k.number) (not (types_fit k w.0.operands around.types)) u.operands in
      record {
        known = k;
        number = ap (λ (p : TypesRow). first_called type.Number p.first around.types) operands;
        same = ap (λ (p : TypesRow). first_called type.Any p.first around.types) operands;
        is_number = parts.0;
        requested = sym (ap (λ p. types_fit k p around.types) operands) ∙ not-false _ parts.1;
        returned = sym (λ i. types_fit k (results i) (there (own_results i))) ∙ not-false _ u.results;
        cut = λ e.
            sym (ap (isnt_smaller around.types) own_results)
            ∙ sym (ap (λ b. if b then isnt_smaller around.types around.node.head.results else (is_extension around.node && isnt_greater around.types around.node.head.results)) (ap (λ (h : Header). bytes_eq h.name (codes "arith.trunci")) own ∙ e)) ∙ u.cuts;
      }

  -- a verified operation has a kind, if it needs one
  verified_none : is_verified t h ≡ true → broken around ≡ []
  unfolding is_verified
  verified_none e =
      no_rules (broken around)
      (sym (ap (λ o. breaks_none (option_map broken (option_map (surround t) o))) (stand_of_member t distinct s here))
      ∙ (and_parts (breaks_none (broken_at h.id t)) (has_own_properties h) e).0)

  verified_here : is_verified t h ≡ true → is_select (rule_of h.name) ≡ false → HasKind h
  verified_here verified other asks = go (rule_of h.name) refl asks
    where
      none : broken around ≡ []
      none = verified_none verified

      go : (q : Option How) → rule_of h.name ≡ q → asks_kind q ≡ true → is_some (result_kind h) ≡ true
      go None e asks = absurd (true≢false (sym asks))
      go (Some how.Constant) e asks = absurd (true≢false (sym asks))
      go (Some (how.Binary o)) e asks = ap is_some (takes_pair h (map (λ v. type_of_value v t) h.operands) h.results o h.name (form_verified (how.Binary o) e none)).is
      go (Some how.Compare) e asks = ap is_some (takes_compare h (map (λ v. type_of_value v t) h.operands) h.results h.name (form_verified how.Compare e none)).is
      go (Some how.Select) e asks = absurd (true≢false (ap is_select (sym e) ∙ other))
      go (Some (how.IntegerCast c)) e asks = ap is_some (takes_resize h (map (λ v. type_of_value v t) h.operands) h.results c h.name (rule_fits h.name (how.IntegerCast c) e).1 (form_verified (how.IntegerCast c) e none)).is
      go (Some (how.IndexCast c)) e asks = ap is_some (takes_index_cast h (map (λ v. type_of_value v t) h.operands) h.results c h.name (rule_fits h.name (how.IndexCast c) e).1 (form_verified (how.IndexCast c) e none)).is

  -- a verified `select` has a condition of i1
  truth_here : is_verified t h ≡ true → rule_of h.name ≡ Some how.Select → is_by_truth (map (kind_in t) h.operands) ≡ true
  truth_here verified e =
      ap is_by_truth (kinds_are t h.operands) ∙ selects_by_truth h (map (λ v. type_of_value v t) h.operands) h.results h.name (form_verified how.Select e (verified_none verified))

  -- an operation without diagnostics has operands of the kinds that it needs
  module _ (reports_nothing : diagnostics_of t ≡ []) where
    none_here : is_covered beyond ≡ true → broken around ≡ []
    none_here within =
        none_broken around (same_Some _ _ (sym beyond_is ∙ covered beyond within)) (none_reported t reports_nothing h.id s (stand_of_member t distinct s here))

    takes_within : (r : How) → rule_of h.name ≡ Some r → Takes r h (map (λ v. type_of_value v t) h.operands) h.results → list_all (λ ty. has_width (kind_of ty)) h.results ≡ true → takes_its (rule_of h.name) (result_kind h) h (map (kind_in t) h.operands) ≡ true
    takes_within r e w right =
        ap (λ q. takes_its q (result_kind h) h (map (kind_in t) h.operands)) e
        ∙ (λ i. takes_its (Some r) (w.is i) h (kinds_are t h.operands i))
        ∙ some_takes r w.own_kind (kinds_of_types (map (λ v. type_of_value v t) h.operands)) (width_is h.results w.own_kind right w.is) w.takes
      where
        some_takes : (r : How) (k : BitsKind) (js : List (Option BitsKind)) → is_width (width_of k) ≡ true → takes r h k js ≡ true → takes_its (Some r) (Some k) h js ≡ true
        some_takes how.Constant k js p q = both_true _ _ p q
        some_takes (how.Binary o) k js p q = both_true _ _ p q
        some_takes how.Compare k js p q = both_true _ _ p q
        some_takes how.Select k js p q = both_true _ _ p q
        some_takes (how.IntegerCast c) k js p q = both_true _ _ p q
        some_takes (how.IndexCast c) k js p q = both_true _ _ p q

    constant_kinded : rule_of h.name ≡ Some how.Constant → is_in_range h ≡ true → is_kinded t h ≡ true
    constant_kinded e right =
        let p = and_parts (list_all (λ ty. has_width (kind_of ty)) h.results) (are_its_bits (fold_of h.name h.properties [] h.results)) right in
        ap (λ q. takes_its q (result_kind h) h (map (kind_in t) h.operands)) e ∙ go (result_kind h) refl p
      where
        go : (k : Option BitsKind) → result_kind h ≡ k → (list_all (λ ty. has_width (kind_of ty)) h.results ≡ true) × (are_its_bits (fold_of h.name h.properties [] h.results) ≡ true) → takes_its (Some how.Constant) k h (map (kind_in t) h.operands) ≡ true
        go None e p = refl
        go (Some k) e p = both_true _ _ (width_is h.results k p.0 e) p.1

    operation_kinded : is_in_range h ≡ true → is_within_by (rule_of h.name) (result_kind h) beyond ≡ true → is_kinded t h ≡ true
    operation_kinded right within = go (rule_of h.name) refl within
      where
        widths : list_all (λ ty. has_width (kind_of ty)) h.results ≡ true
        widths = (and_parts (list_all (λ ty. has_width (kind_of ty)) h.results) _ right).0

        of_kind : (k : Option BitsKind) (b : Bool) → result_kind h ≡ k → (not (is_some k) || b) ≡ true → (result_kind h ≡ None) ⊎ (b ≡ true)
        of_kind None b i w = inl i
        of_kind (Some k) b i w = inr w

        selects : rule_of h.name ≡ Some how.Select → is_covered beyond ≡ true → (k : Option BitsKind) → result_kind h ≡ k → is_kinded t h ≡ true
        selects e c None i = (λ j. takes_its (e j) (i j) h (map (kind_in t) h.operands))
        selects e c (Some k) i = takes_within how.Select e (takes_select h (map (λ v. type_of_value v t) h.operands) h.results h.name (ap is_some i) (form_verified how.Select e (none_here c))) widths

        go : (q : Option How) → rule_of h.name ≡ q → is_within_by q (result_kind h) beyond ≡ true → is_kinded t h ≡ true
        go None e w = ap (λ q. takes_its q (result_kind h) h (map (kind_in t) h.operands)) e
        go (Some how.Constant) e w = constant_kinded e right
        go (Some (how.Binary o)) e w = elim (of_kind (result_kind h) (is_covered beyond) refl w) [
          | inl i ↦ (λ j. takes_its (e j) (i j) h (map (kind_in t) h.operands))
          | inr c ↦ takes_within (how.Binary o) e (takes_pair h (map (λ v. type_of_value v t) h.operands) h.results o h.name (form_verified (how.Binary o) e (none_here c))) widths
        ]
        go (Some how.Compare) e w = elim (of_kind (result_kind h) (is_covered beyond) refl w) [
          | inl i ↦ (λ j. takes_its (e j) (i j) h (map (kind_in t) h.operands))
          | inr c ↦ takes_within how.Compare e (takes_compare h (map (λ v. type_of_value v t) h.operands) h.results h.name (form_verified how.Compare e (none_here c))) widths
        ]
        go (Some how.Select) e w = elim (of_kind (result_kind h) (is_covered beyond) refl w) [
          | inl i ↦ (λ j. takes_its (e j) (i j) h (map (kind_in t) h.operands))
          | inr c ↦ selects e c (result_kind h) refl
        ]
        go (Some (how.IntegerCast c)) e w = elim (of_kind (result_kind h) (is_covered beyond) refl w) [
          | inl i ↦ (λ j. takes_its (e j) (i j) h (map (kind_in t) h.operands))
          | inr b ↦ takes_within (how.IntegerCast c) e (takes_resize h (map (λ v. type_of_value v t) h.operands) h.results c h.name (rule_fits h.name (how.IntegerCast c) e).1 (form_verified (how.IntegerCast c) e (none_here b))) widths
        ]
        go (Some (how.IndexCast c)) e w = elim (of_kind (result_kind h) (is_covered beyond) refl w) [
          | inl i ↦ (λ j. takes_its (e j) (i j) h (map (kind_in t) h.operands))
          | inr b ↦ takes_within (how.IndexCast c) e (takes_index_cast h (map (λ v. type_of_value v t) h.operands) h.results c h.name (rule_fits h.name (how.IndexCast c) e).1 (form_verified (how.IndexCast c) e (none_here b))) widths
        ]

-- a verified operation of a tree has a kind, if it needs one and is no `select`
pub verified_has_kind : (t o : Operation) → HasDistinctIds t → find (head o).id t ≡ Some o → is_verified t (head o) ≡ true → is_select (rule_of (head o).name) ≡ false → HasKind (head o)
verified_has_kind t o distinct e verified other =
    let w = found_stands (head o).id t o e in
    subst (λ (z : Operation). HasKind (head z)) w.3
    (verified_here t distinct w.0 w.1 (subst (λ (z : Operation). is_verified t (head z) ≡ true) (sym w.3) verified) (subst (λ (z : Operation). is_select (rule_of (head z).name) ≡ false) (sym w.3) other))

-- a verified `select` of a tree has a condition of i1
pub verified_by_truth : (t o : Operation) → HasDistinctIds t → find (head o).id t ≡ Some o → is_verified t (head o) ≡ true → rule_of (head o).name ≡ Some how.Select → is_by_truth (map (kind_in t) (head o).operands) ≡ true
verified_by_truth t o distinct e verified name =
    let w = found_stands (head o).id t o e in
    subst (λ (z : Operation). is_by_truth (map (kind_in t) (head z).operands) ≡ true) w.3
    (truth_here t distinct w.0 w.1 (subst (λ (z : Operation). is_verified t (head z) ≡ true) (sym w.3) verified) (subst (λ (z : Operation). rule_of (head z).name ≡ Some how.Select) (sym w.3) name))

pub verified_is_ready : VerifiedIsReady
verified_is_ready m v = record {
  wellformed = v.wellformed;
  sorted = v.sorted;
  kinded = each_stands (λ h. is_kinded m.tree h ≡ true) [] m.tree (λ s here.
      let found_here = stand_found m.tree v.wellformed.distinct s here in
      operation_kinded m.tree v.wellformed.distinct s here v.reports_nothing
      (each_found (λ h. is_in_range h ≡ true) (op_with_path_id s) m.tree v.in_range s.here found_here).0
      (each_found (λ h. is_within m.tree h ≡ true) (op_with_path_id s) m.tree v.within s.here found_here).0);
}
