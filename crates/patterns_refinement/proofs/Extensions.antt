-- The operand of a verified extension has fewer bits than its result.
use Rattle.std.proofs.Common.{◌≡◌, ℕ, ◌+◌, ◌<◌, refl, ap, sym, ◌∙◌, subst, List, [], ◌∷◌, map, Bool, true, false, ◌&&◌, ◌||◌, Option, Some, None, arith}
use Rattle.std.specs.Prelude.{codes, nat_le, option_map, if◌then◌else◌}
use Rattle.std.specs.List.{list_all}
use Rattle.std.specs.Str.{bytes_eq}
use Rattle.std.proofs.lemmas.Bool.{and_parts}
use Rattle.std.proofs.lemmas.Bool.Decides.{nat_tests}
use Rattle.std.proofs.lemmas.Option.{none-some}
use Rattle.ir_types.specs.declared.bits.BitsKind.TheVariants as kind
use Rattle.ir_types.specs.declared.node.Sign.TheVariants.{Signless}
use Rattle.ir_types.specs.Terms.{AttrTerm, Integer, TypeTerm}
use Rattle.ir_types.specs.Words.{is_inherent}
use Rattle.ir_tree.specs.declared.value.Value.{Value}
use Rattle.ir_tree.specs.Tree.{head}
use Rattle.ir_tree.specs.Ids.{HasDistinctIds, find}
use Rattle.ir_tree.specs.Meaning.{Operation}
use Rattle.ir_tree_laws.specs.Members.{In}
use Rattle.ir_tree_laws.specs.Stands.{OpWithPathOf, op_with_path, stands}
use Rattle.ir_tree_laws.specs.Values.{type_of_value}
use Rattle.ir_tree_laws.proofs.Members.{found_stands, stand, stand_of_member}
use Rattle.op_registry.specs.Rows.{Row, TypesRow, rows}
use Rattle.op_registry.specs.declared.definition.TypeRule.TheVariants as type
use Rattle.op_registry.specs.Registry.{row_of}
use Rattle.dialects_int.specs.Folds.{kind_of}
use Rattle.listeners_support.specs.Surroundings.{surround}
use Rattle.listeners_support.proofs.Reading.{head_shown}
use Rattle.ir_verify_base.specs.Fits.{is_there, there, types_fit}
use Rattle.ir_verify_base.specs.Shapes.{is_well_shaped}
use Rattle.ir_verify_base.specs.TypeRules.{breaks_18, isnt_greater, isnt_smaller}
use Rattle.ir_verify_base.specs.Types.{is_integer}
use Rattle.patterns_laws.specs.Keeps.{Each}
use Rattle.patterns_laws.specs.Words.{among, extensions}
use Rattle.patterns_base.specs.Diagnostics.{broken_at}
use Rattle.patterns_base.specs.Looks.{Header, breaks_none, is_verified}
use Rattle.patterns_base.specs.verify.Breaks.{broken, numbers_from, broken_rules_in, counted_rules}
use Rattle.patterns_base.proofs.Dispatch.{of_among}
use Rattle.patterns_soundness.proofs.Unbroken.{verified_unbroken, spoken}
use Rattle.patterns_soundness.proofs.Typed.{pair, typed, types_at}
use Rattle.user_patterns_check.specs.Outcomes.{given}
use Rattle.patterns_refinement.proofs.Verified.{integer_is, no_rules}
use Rattle.patterns_refinement.specs.Better.{kind_in}

abbrev OpWithPath : Type 0
OpWithPath = OpWithPathOf (List ℕ) TypeTerm AttrTerm

-- ---- a verified operation breaks no rule
abbrev AllFalse : List Bool → Type 0
AllFalse [] = Unit {0}
AllFalse (b ∷ bs) = (b ≡ false) × AllFalse bs

all_false : (n : ℕ) (bs : List Bool) → numbers_from n bs ≡ [] → AllFalse bs
all_false n [] e = tt
all_false n (true ∷ bs) e = absurd cc
all_false n (false ∷ bs) e = (refl, all_false (n + 1) bs e)

none_reported : (t : Operation) (z : OpWithPath) (row : Row) → is_verified t (head z.here) ≡ true → op_with_path (head z.here).id t ≡ Some z → row_of (head z.here).name ≡ Some row → AllFalse (counted_rules row (surround t z))
unfolding is_verified
none_reported t z row e f g =
    let s = surround t z in
    let h = head z.here in
    let verified = (and_parts (breaks_none (broken_at h.id t)) (list_all (λ (e : List ℕ × AttrTerm). is_inherent h.name e.0) h.properties) e).0 in
    let all : broken s ≡ [] = no_rules (broken s) (sym (ap (λ o. breaks_none (option_map broken (option_map (surround t) o))) f) ∙ verified) in
    let listed : row_of s.node.head.name ≡ Some row = ap (λ (h : Header). row_of h.name) (head_shown z.here) ∙ g in
    all_false 1 (counted_rules row s) (sym (ap (λ r. numbers_from 1 (broken_rules_in r s)) listed) ∙ all)

-- the rule on widths
pub widths_right : (t : Operation) (z : OpWithPath) (row : Row) → is_verified t (head z.here) ≡ true → op_with_path (head z.here).id t ≡ Some z → row_of (head z.here).name ≡ Some row → breaks_18 (surround t z) ≡ false
widths_right t z row e f g =
    let s = surround t z in
    let u = verified_unbroken t z row e f g in
    let reported = none_reported t z row e f g in
    spoken (is_well_shaped row s.node) (breaks_18 s) u.shaped reported.1.1.1.1.1.1.1.1.1.1.1.1.1.1.1.1.1.0

-- ---- extensions
abbrev one_integer : TypesRow
one_integer = record { first = type.Integer ∷ []; more = None }

record IsExtension (name : List ℕ) : Type 0 where
  pub types : types_at name ≡ Some (pair one_integer one_integer)
  pub is_no_cut : bytes_eq name (codes "arith.trunci") ≡ false
  pub extends : (bytes_eq name (codes "arith.extsi") || bytes_eq name (codes "arith.extui")) ≡ true

extensions_are : Each IsExtension extensions
unfolding row_of rows extensions
extensions_are = (record { types = refl; is_no_cut = refl; extends = refl }, (record { types = refl; is_no_cut = refl; extends = refl }, tt))

there_is : (o : Option TypeTerm) → is_there is_integer o ≡ true → (w : ℕ) × (o ≡ Some (Integer Signless w))
there_is None e = absurd cc
there_is (Some ty) e = let i = integer_is ty e in (i.0, ap (λ ty. Some ty) i.1)

-- its operand and its result
pub record Extends (t : Operation) (u : Value) (ty : TypeTerm) : Type 0 where
  pub from : ℕ
  pub to : ℕ
  pub operand : kind_in t u ≡ Some (kind.Int from)
  pub result : kind_of ty ≡ Some (kind.Int to)
  pub more : from < to

row_at : (name : List ℕ) (p : TypesRow × TypesRow) → types_at name ≡ Some p → (row : Row) × (row_of name ≡ Some row)
row_at name p e = go (row_of name) refl e
  where
    go : (o : Option Row) → row_of name ≡ o → option_map (λ (row : Row). (row.operands, row.results)) o ≡ Some p → (row : Row) × (row_of name ≡ Some row)
    go None f e = absurd (none-some p e)
    go (Some row) f e = (row, f)

module _ (t o : Operation) (u : Value) (ty : TypeTerm) (d : HasDistinctIds t) (found : find (head o).id t ≡ Some o) (verified : is_verified t (head o) ≡ true) (operands : (head o).operands ≡ u ∷ []) (results : (head o).results ≡ ty ∷ []) where
  -- the widths are right at the operation's position in the tree
  at_stand : (name : bytes_eq (head o).name (codes "arith.trunci") ≡ false) → (bytes_eq (head o).name (codes "arith.extsi") || bytes_eq (head o).name (codes "arith.extui")) ≡ true → (row : Row) → row_of (head o).name ≡ Some row
      → isnt_greater (type_of_value u t ∷ []) (ty ∷ []) ≡ false
  at_stand cuts extends row listed = go (found_stands (head o).id t o found)
    where
      go : (s : OpWithPath) × In s (stands [] t) × ((head s.here).id ≡ (head o).id) × (s.here ≡ o) → isnt_greater (type_of_value u t ∷ []) (ty ∷ []) ≡ false
      go w =
          let here : In (stand o w.0.path) (stands [] t) = subst (λ (z : Operation). In (stand z w.0.path) (stands [] t)) w.3 w.1 in
          let s = surround t (stand o w.0.path) in
          let right : breaks_18 s ≡ false = widths_right t (stand o w.0.path) row verified (stand_of_member t d (stand o w.0.path) here) listed in
          let test : Header → Bool = (λ h. if bytes_eq h.name (codes "arith.trunci") then isnt_smaller s.types h.results else (bytes_eq h.name (codes "arith.extsi") || bytes_eq h.name (codes "arith.extui")) && isnt_greater s.types h.results) in
          let own : test (head o) ≡ false = sym (ap test (head_shown o)) ∙ right in
          sym (λ i. if cuts i then isnt_smaller s.types (head o).results else extends i && isnt_greater (map (λ v. type_of_value v t) (operands i)) (results i)) ∙ own

  pub verified_extends : among extensions (head o).name ≡ true → Extends t u ty
  verified_extends e =
      let n = of_among IsExtension extensions (head o).name extensions_are e in
      let p = typed t o one_integer one_integer d found verified n.types in
      let i = there_is (type_of_value u t) (and_parts (is_there is_integer (type_of_value u t)) _ (sym (ap (λ vs. types_fit p.known one_integer (map (λ v. type_of_value v t) vs)) operands) ∙ p.requested)).0 in
      let j = integer_is ty (and_parts (is_there is_integer (Some ty)) _ (sym (ap (λ tys. types_fit p.known one_integer (there tys)) results) ∙ p.given)).0 in
      let row = row_at (head o).name (pair one_integer one_integer) n.types in
      let test : nat_le j.0 i.0 ≡ false = sym (λ k. isnt_greater (i.1 k ∷ []) (j.1 k ∷ [])) ∙ at_stand n.is_no_cut n.extends row.0 row.1 in
      record { from = i.0; to = j.0; operand = value_types (type_of_value u t) i.0 i.1; result = ap kind_of j.1; more = less j.0 i.0 test }
    where
      value_types : (o : Option TypeTerm) (w : ℕ) → o ≡ Some (Integer Signless w) → given o kind_of ≡ Some (kind.Int w)
      value_types o w e = ap (λ o. given o kind_of) e

      less : (v w : ℕ) → nat_le v w ≡ false → w < v
      less v w e = grind (arith, nat_tests)
