-- The operands of terminators of verified loops and choices, and the operand of a verified choice.
use Rattle.std.proofs.Common.{◌≡◌, refl, ap, sym, ◌∙◌, subst, ℕ, zero, suc, ◌≤◌, List, [], ◌∷◌, length, map, Bool, true, false, not, ◌&&◌, ◌||◌, if◌then◌else◌, Option, Some, None, arith}
use Rattle.std.specs.Cmp.{unsigned_Decides}
use Rattle.std.specs.Prelude.{◌==◌, codes, option_map, option_and_then, is_some, slice_get}
use Rattle.std.specs.Option.{option_eq}
use Rattle.std.specs.Str.{bytes_eq}
use Rattle.std.specs.Cmp.Lexicographic.{pointwise}
use Rattle.std.proofs.lemmas.List.{length-map}
use Rattle.std.proofs.lemmas.Slice.Eq.{bytes_eq-Decides}
use Rattle.ir_types.specs.declared.node.Sign.TheVariants.{Signless, Signed, Unsigned}
use Rattle.ir_types.specs.Terms.{TypeTerm, Integer, Index, Function, Memref, OpaqueType, AttrTerm}
use Rattle.ir_types.specs.SameTypes.{same_type}
use Rattle.ir_tree.specs.declared.value.Value.{Value}
use Rattle.ir_tree.specs.Tree.{op, no_ops, head, regions}
use Rattle.ir_tree.specs.Ids.{HasDistinctIds}
use Rattle.ir_tree.specs.Meaning.{Operation}
use Rattle.ir_tree_laws.specs.Reads.{ops_in}
use Rattle.ir_tree_laws.specs.Values.{arguments_of, type_of_value}
use Rattle.ir_tree_laws.specs.Stands.{StepOf, stands, op_with_path}
use Rattle.ir_tree_laws.specs.Members.{In}
use Rattle.ir_tree_laws.proofs.Readings.{step}
use Rattle.ir_tree_laws.proofs.Members.{stand, stand_of_member, found_stands}
use Rattle.ir_store.specs.Nodes.{node_of, regions_arguments}
use Rattle.op_registry.specs.Rows.{Row, TypesRow, rows}
use Rattle.op_registry.specs.declared.definition.TypeRule.TheVariants as type
use Rattle.op_registry.specs.Registry.{row_of}
use Rattle.listeners_support.specs.Surroundings.{last_name, surround}
use Rattle.listeners_support.proofs.Points.{stands_in}
use Rattle.ir_verify_base.specs.Types.{is_boolean, same_types}
use Rattle.ir_verify_base.specs.Fits.{Node, Surroundings, Known, block_at, first_fit, is_named, is_there, known_of, there, types_fit}
use Rattle.ir_verify_base.specs.TypeRules.{is_no_number}
use Rattle.patterns_base.specs.verify.BlockRules.{breaks_9, ends_otherwise, isnt_required, last_at}
use Rattle.patterns_base.specs.verify.PlaceRules.{differ, ended_of, if_well_shaped, yielded}
use Rattle.patterns_base.specs.Looks.{Ended, body, is_verified, is_index_value}
use Rattle.patterns_soundness.specs.Yields.{IsVerifiedOf, LoopsHandOnAll, ChoicesHandOnAll, ChoicesAskTruth}
use Rattle.patterns_soundness.proofs.Unbroken.{OpWithPath, Unbroken, verified_unbroken, spoken}
use Rattle.patterns_soundness.proofs.Ends.{Ending, ending, arguments_read, names_at}
use Rattle.std.proofs.lemmas.Bool.{and_parts, not-false}
use Rattle.ir_verify_base.proofs.Reading.{name_joined, head_shown}
use Rattle.std.proofs.lemmas.Option.{same_Some}

-- equal names
name_is : (word name : List ℕ) → bytes_eq name word ≡ true → name ≡ word
name_is word name e = (bytes_eq-Decides name word).0 e

or_no : (a b : Bool) → a || b ≡ false → (a ≡ false) × (b ≡ false)
or_no true b e = absurd cc
or_no false b e = (refl, e)

-- entries of the operation table
pub row_there : (o : Option Row) → is_some o ≡ true → (row : Row) × (o ≡ Some row)
row_there None e = absurd cc
row_there (Some row) e = (row, refl)

yield_listed : is_some (row_of (codes "scf.yield")) ≡ true
unfolding row_of rows
yield_listed = refl

for_listed : is_some (row_of (codes "scf.for")) ≡ true
unfolding row_of rows
for_listed = refl

if_listed : is_some (row_of (codes "scf.if")) ≡ true
unfolding row_of rows
if_listed = refl

if_asks : option_map (λ (row : Row). row.operands) (row_of (codes "scf.if")) ≡ Some (record { first = type.Boolean ∷ []; more = None })
unfolding row_of rows
if_asks = refl

-- the verifier's rule on terminators, for a loop and for a choice
for_ends : (s : Surroundings) → s.node.head.name ≡ codes "scf.for" → breaks_9 s ≡ false → ends_otherwise 0 (codes "scf.yield") s ≡ false
for_ends s n e = go s.node.head.name n e
  where
    go : (name : List ℕ) → name ≡ codes "scf.for"
        → (if◌then◌else◌ (bytes_eq name (codes "scf.while")) (ends_otherwise 0 (codes "scf.condition") s || ends_otherwise 1 (codes "scf.yield") s)
        (if◌then◌else◌ (bytes_eq name (codes "scf.if")) (ends_otherwise 0 (codes "scf.yield") s || ends_otherwise 1 (codes "scf.yield") s) (bytes_eq name (codes "scf.for") && ends_otherwise 0 (codes "scf.yield") s))) ≡ false
        → ends_otherwise 0 (codes "scf.yield") s ≡ false
    go name n e =
        subst
        (λ (name : List ℕ).
        (if◌then◌else◌ (bytes_eq name (codes "scf.while")) (ends_otherwise 0 (codes "scf.condition") s || ends_otherwise 1 (codes "scf.yield") s)
        (if◌then◌else◌ (bytes_eq name (codes "scf.if")) (ends_otherwise 0 (codes "scf.yield") s || ends_otherwise 1 (codes "scf.yield") s) (bytes_eq name (codes "scf.for") && ends_otherwise 0 (codes "scf.yield") s))) ≡ false)
        n e

if_ends : (s : Surroundings) → s.node.head.name ≡ codes "scf.if" → breaks_9 s ≡ false → (ends_otherwise 0 (codes "scf.yield") s ≡ false) × (ends_otherwise 1 (codes "scf.yield") s ≡ false)
if_ends s n e = or_no (ends_otherwise 0 (codes "scf.yield") s) (ends_otherwise 1 (codes "scf.yield") s) (go s.node.head.name n e)
  where
    go : (name : List ℕ) → name ≡ codes "scf.if"
        → (if◌then◌else◌ (bytes_eq name (codes "scf.while")) (ends_otherwise 0 (codes "scf.condition") s || ends_otherwise 1 (codes "scf.yield") s)
        (if◌then◌else◌ (bytes_eq name (codes "scf.if")) (ends_otherwise 0 (codes "scf.yield") s || ends_otherwise 1 (codes "scf.yield") s) (bytes_eq name (codes "scf.for") && ends_otherwise 0 (codes "scf.yield") s))) ≡ false
        → ends_otherwise 0 (codes "scf.yield") s || ends_otherwise 1 (codes "scf.yield") s ≡ false
    go name n e =
        subst
        (λ (name : List ℕ).
        (if◌then◌else◌ (bytes_eq name (codes "scf.while")) (ends_otherwise 0 (codes "scf.condition") s || ends_otherwise 1 (codes "scf.yield") s)
        (if◌then◌else◌ (bytes_eq name (codes "scf.if")) (ends_otherwise 0 (codes "scf.yield") s || ends_otherwise 1 (codes "scf.yield") s) (bytes_eq name (codes "scf.for") && ends_otherwise 0 (codes "scf.yield") s))) ≡ false)
        n e

-- a loop or choice requires its result types of its `scf.yield`
for_wants : (p : Node) → p.head.name ≡ codes "scf.for" → yielded p ≡ Some (there p.head.results)
for_wants p n =
    ap
    (λ (name : List ℕ).
    if◌then◌else◌ (bytes_eq name (codes "scf.while")) (option_map there (block_at 0 p))
    (if◌then◌else◌ (bytes_eq name (codes "scf.for") || bytes_eq name (codes "scf.if")) (Some (there p.head.results)) None))
    n

if_wants : (p : Node) → p.head.name ≡ codes "scf.if" → yielded p ≡ Some (there p.head.results)
if_wants p n =
    ap
    (λ (name : List ℕ).
    if◌then◌else◌ (bytes_eq name (codes "scf.while")) (option_map there (block_at 0 p))
    (if◌then◌else◌ (bytes_eq name (codes "scf.for") || bytes_eq name (codes "scf.if")) (Some (there p.head.results)) None))
    n

as_long : {X : Type 0} (same : X → X → Bool) (xs ys : List X) → pointwise same xs ys ≡ true → length xs ≡ length ys
as_long same [] [] e = refl
as_long same [] (y ∷ ys) e = absurd cc
as_long same (x ∷ xs) [] e = absurd cc
as_long same (x ∷ xs) (y ∷ ys) e = (let k = as_long same xs ys (and_parts (same x y) (pointwise same xs ys) e).1 in omega (arith, k))

-- an operation of a tree, with the last operation of one of its blocks
module _ (t o : Operation) (d : HasDistinctIds t) (path : List (StepOf (List ℕ) TypeTerm AttrTerm)) (here : In (stand o path) (stands [] t)) (verified : is_verified t (head o) ≡ true) where
  located : op_with_path (head o).id t ≡ Some (stand o path)
  located = stand_of_member t d (stand o path) here

  module _ (r : ℕ) (e : Ended) (n : Ending t o r e) where
    abbrev inner : OpWithPath
    inner = stand n.last (step o r n.args n.preceding no_ops ∷ path)

    inner_located : op_with_path (head n.last).id t ≡ Some inner
    inner_located = stand_of_member t d inner (stands_in t o path r n.args n.preceding n.last no_ops here n.block)

    -- the last operation is an `scf.yield`, if the parent requires one
    yield_fits : ends_otherwise r (codes "scf.yield") (surround t (stand o path)) ≡ false → (head n.last).name ≡ codes "scf.yield"
    yield_fits e =
        name_is (codes "scf.yield") (head n.last).name
        (not-false (bytes_eq (head n.last).name (codes "scf.yield"))
        (sym (ap (isnt_required (codes "scf.yield")) last_is)
        ∙ spoken (is_some (block_at r (node_of o))) (isnt_required (codes "scf.yield") (last_at r (surround t (stand o path)))) (ap is_some block_is) e))
      where
        last_is : last_at r (surround t (stand o path)) ≡ Some (head n.last).name
        last_is =
            ap (option_and_then (λ last. last)) (names_at (regions o) r ∙ ap (option_map (λ g. option_and_then last_name (ops_in g))) n.block)
            ∙ name_joined n.preceding n.last

        node_arguments : (o : Operation) → (node_of o).arguments ≡ regions_arguments (regions o)
        node_arguments (op h rs) = refl

        block_is : block_at r (node_of o) ≡ Some n.args
        block_is = ap (option_and_then (λ args. args)) (ap (λ l. slice_get l r) (node_arguments o) ∙ arguments_read (regions o) r ∙ ap (option_map (λ g. arguments_of g)) n.block)

    -- its operands have the types that the parent requires
    handed_types : (row : Row) → row_of (head o).name ≡ Some row → Unbroken row (surround t (stand o path)) → (head n.last).name ≡ codes "scf.yield" → yielded (node_of o) ≡ Some (there (node_of o).head.results)
        → same_types (there (head o).results) (map (λ v. type_of_value v t) (head n.last).operands) ≡ true
    handed_types row f u y w =
        let found = row_there (row_of (codes "scf.yield")) yield_listed in
        let s = surround t inner in
        let v = verified_unbroken t inner found.0 n.verified inner_located (ap row_of y ∙ found.1) in
        let named_so : is_named s.node (codes "scf.yield") ≡ true = ap (λ h. bytes_eq h.name (codes "scf.yield")) (head_shown n.last) ∙ ap (λ m. bytes_eq m (codes "scf.yield")) y in
        let outside : ended_of s ≡ Some (node_of o) = ap (if_well_shaped (node_of o)) (ap (λ h. row_of h.name) (head_shown o) ∙ f) ∙ ap (λ b. if◌then◌else◌ b (Some (node_of o)) None) u.shaped in
        let reported = spoken (is_named s.node (codes "scf.yield")) (differ (option_and_then yielded (ended_of s)) s.types) named_so v.yield_fits in
        ap (λ h. same_types (there h.results) s.types) (sym (head_shown o))
        ∙ not-false (same_types (there (node_of o).head.results) s.types) (sym (ap (λ p. differ (option_and_then yielded p) s.types) outside ∙ ap (λ p. differ p s.types) w) ∙ reported)

-- the operand types of the terminators of a choice's blocks
pub choice_types : (t o : Operation) (x r : ℕ) (e : Ended) → r ≤ 1 → IsVerifiedOf t o x (codes "scf.if") → body t o r ≡ Some e → same_types (there (head o).results) (map (λ v. type_of_value v t) e.last.operands) ≡ true
choice_types t o x r e small h k = go (found_stands x t o h.found)
  where
    which : (r : ℕ) → r ≤ 1 → (s : Surroundings) → (ends_otherwise 0 (codes "scf.yield") s ≡ false) × (ends_otherwise 1 (codes "scf.yield") s ≡ false) → ends_otherwise r (codes "scf.yield") s ≡ false
    which zero l s p = p.0
    which (suc zero) l s p = p.1
    which (suc (suc r)) l s p = absurd (omega (arith, l))

    go : (s : OpWithPath) × In s (stands [] t) × ((head s.here).id ≡ x) × (s.here ≡ o) → same_types (there (head o).results) (map (λ v. type_of_value v t) e.last.operands) ≡ true
    go w =
        let here : In (stand o w.0.path) (stands [] t) = subst (λ (z : Operation). In (stand z w.0.path) (stands [] t)) w.3 w.1 in
        let n = ending t o r e k in
        let name = name_is (codes "scf.if") (head o).name h.name in
        let row = row_there (row_of (codes "scf.if")) if_listed in
        let listed = ap row_of name ∙ row.1 in
        let u = verified_unbroken t (stand o w.0.path) row.0 h.verified (located t o h.distinct w.0.path here h.verified) listed in
        let node_name = ap (λ h. h.name) (head_shown o) ∙ name in
        let y = yield_fits t o h.distinct w.0.path here h.verified r e n (which r small (surround t (stand o w.0.path)) (if_ends (surround t (stand o w.0.path)) node_name u.ends)) in
        ap (λ h. same_types (there (head o).results) (map (λ v. type_of_value v t) h.operands)) n.is ∙ handed_types t o h.distinct w.0.path here h.verified r e n row.0 listed u y (if_wants (node_of o) node_name)

-- and of the terminator of a loop's block
pub loop_types : (t o : Operation) (x : ℕ) (e : Ended) → IsVerifiedOf t o x (codes "scf.for") → body t o 0 ≡ Some e → same_types (there (head o).results) (map (λ v. type_of_value v t) e.last.operands) ≡ true
loop_types t o x e h k = go (found_stands x t o h.found)
  where
    go : (s : OpWithPath) × In s (stands [] t) × ((head s.here).id ≡ x) × (s.here ≡ o) → same_types (there (head o).results) (map (λ v. type_of_value v t) e.last.operands) ≡ true
    go w =
        let here : In (stand o w.0.path) (stands [] t) = subst (λ (z : Operation). In (stand z w.0.path) (stands [] t)) w.3 w.1 in
        let n = ending t o 0 e k in
        let name = name_is (codes "scf.for") (head o).name h.name in
        let row = row_there (row_of (codes "scf.for")) for_listed in
        let listed = ap row_of name ∙ row.1 in
        let u = verified_unbroken t (stand o w.0.path) row.0 h.verified (located t o h.distinct w.0.path here h.verified) listed in
        let node_name = ap (λ h. h.name) (head_shown o) ∙ name in
        let y = yield_fits t o h.distinct w.0.path here h.verified 0 e n (for_ends (surround t (stand o w.0.path)) node_name u.ends) in
        ap (λ h. same_types (there (head o).results) (map (λ v. type_of_value v t) h.operands)) n.is ∙ handed_types t o h.distinct w.0.path here h.verified 0 e n row.0 listed u y (for_wants (node_of o) node_name)

-- and so the numbers of operands and results are equal
handed_all : (t : Operation) (vs : List Value) (tys : List TypeTerm) → same_types (there tys) (map (λ v. type_of_value v t) vs) ≡ true → length vs ≡ length tys
handed_all t vs tys same = (let long = as_long (option_eq same_type) (there tys) (map (λ v. type_of_value v t) vs) same in sym (length-map vs (λ v. type_of_value v t)) ∙ sym long ∙ length-map tys Some)

pub loops_hand_on_all : LoopsHandOnAll
loops_hand_on_all t o x e h k = handed_all t e.last.operands (head o).results (loop_types t o x e h k)

pub choices_hand_on_all : ChoicesHandOnAll
choices_hand_on_all t o x r e small h k = handed_all t e.last.operands (head o).results (choice_types t o x r e small h k)

-- a truth value isn't an index
truth : (ty : TypeTerm) → is_boolean ty ≡ true → same_type ty Index ≡ false
truth (Integer Signless w) e = refl
truth (Integer Signed w) e = refl
truth (Integer Unsigned w) e = refl
truth Index e = absurd cc
truth (Function is os) e = absurd cc
truth (Memref ds u) e = absurd cc
truth (OpaqueType s) e = absurd cc

one_truth : (t : Operation) (k : Known) (vs : List Value) → first_fit k (type.Boolean ∷ []) None (map (λ v. type_of_value v t) vs) ≡ true → map (is_index_value t) vs ≡ false ∷ []
one_truth t k [] e = absurd cc
one_truth t k (v ∷ u ∷ vs) e =
    let many = length (map (λ (v : Value). type_of_value v t) (u ∷ vs)) in
    let none = (unsigned_Decides many 0).0 (and_parts (is_there is_boolean (type_of_value v t)) (many == 0) e).1 in
    absurd (omega (arith, none))
one_truth t k (v ∷ []) e = go (type_of_value v t) refl (and_parts (is_there is_boolean (type_of_value v t)) true e).0
  where
    go : (ty : Option TypeTerm) → type_of_value v t ≡ ty → is_there is_boolean ty ≡ true → is_index_value t v ∷ [] ≡ false ∷ []
    go None f b = absurd cc
    go (Some ty) f b = ap (λ z. z ∷ []) (ap (λ o. option_eq same_type o (Some Index)) f ∙ truth ty b)

pub choices_ask_truth : ChoicesAskTruth
choices_ask_truth t o x h = go (found_stands x t o h.found)
  where
    go : (s : OpWithPath) × In s (stands [] t) × ((head s.here).id ≡ x) × (s.here ≡ o) → map (is_index_value t) (head o).operands ≡ false ∷ []
    go w =
        let here : In (stand o w.0.path) (stands [] t) = subst (λ (z : Operation). In (stand z w.0.path) (stands [] t)) w.3 w.1 in
        let name = name_is (codes "scf.if") (head o).name h.name in
        let row = row_there (row_of (codes "scf.if")) if_listed in
        let listed = ap row_of name ∙ row.1 in
        let s = surround t (stand o w.0.path) in
        let u = verified_unbroken t (stand o w.0.path) row.0 h.verified (located t o h.distinct w.0.path here h.verified) listed in
        let fits_in = not-false (types_fit (known_of row.0 s) row.0.operands s.types) (or_no (is_no_number (known_of row.0 s).number) (not (types_fit (known_of row.0 s) row.0.operands s.types)) u.operands).1 in
        let asks : Some row.0.operands ≡ Some (record { first = type.Boolean ∷ []; more = None }) = sym (ap (option_map (λ (row : Row). row.operands)) row.1) ∙ if_asks in
        let one : row.0.operands ≡ record { first = type.Boolean ∷ []; more = None } = same_Some row.0.operands (record { first = type.Boolean ∷ []; more = None }) asks in
        one_truth t (known_of row.0 s) (head o).operands (sym (ap (λ (p : TypesRow). types_fit (known_of row.0 s) p s.types) one) ∙ fits_in)
