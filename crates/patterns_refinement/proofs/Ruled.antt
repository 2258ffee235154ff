-- The application of a rule at an operation: its edits, the operation, and the outcomes of the operation and its
-- operands.
use Rattle.std.proofs.Common.{◌≡◌, ℕ, zero, suc, ◌<◌, refl, ap, sym, ◌∙◌, subst, List, [], ◌∷◌, map, Bool, true, true≢false, false, ◌&&◌, not, Option, Some, None, ◌⊎◌, inl, inr, slice_get}
use Rattle.std.specs.Prelude.{codes, if◌then◌else◌, is_some, option_and_then}
use Rattle.std.specs.List.{list_all}
use Rattle.std.proofs.lemmas.Bool.{and_parts}
use Rattle.std.proofs.lemmas.Option.{none-some, same_Some}
use Rattle.std.proofs.NetLemmas.Options.{map_some}
use Rattle.ir_types.specs.declared.bits.BitsKind.{BitsKind}
use Rattle.ir_types.specs.Bits.{width_of}
use Rattle.ir_types.specs.Reasons.{is_width}
use Rattle.ir_types.specs.Words.{is_isolated}
use Rattle.ir_types.specs.SameTypes.{same_type}
use Rattle.ir_types.proofs.SameTerms.{type_is}
use Rattle.ir_types.specs.Terms.{AttrTerm, TypeTerm}
use Rattle.ir_tree.specs.declared.value.Value.{Value}
use Rattle.ir_tree.specs.declared.value.Value.TheVariants.{Result, Arg}
use Rattle.ir_tree.specs.declared.place.Place.{Place}
use Rattle.ir_tree.specs.Tree.{head}
use Rattle.ir_tree.specs.Ids.{find}
use Rattle.ir_tree.specs.WellFormed.{IsWellFormed}
use Rattle.ir_tree.specs.Meaning.{Operation}
use Rattle.ir_tree_laws.specs.Values.{has_value, type_of_value}
use Rattle.ir_tree_laws.proofs.Listed.{bool_cases}
use Rattle.ir_tree_laws.proofs.Reasoned.{some_there}
use Rattle.ir_event.specs.Modules.{Module}
use Rattle.ir_event.specs.Step.{IsSorted}
use Rattle.dialects_int.specs.declared.operations.Rule.{Rule as How}
use Rattle.dialects_int.specs.declared.operations.Rule.TheVariants as how
use Rattle.dialects_int.specs.Folds.{Known, fold_of, kind_of, rule_of}
use Rattle.rewriter_machine.specs.Contents.{Edit, all_edited}
use Rattle.patterns_base.specs.Lists.{Free}
use Rattle.patterns_laws.specs.Made.{i1}
use Rattle.patterns_laws.specs.Words.{named}
use Rattle.patterns_laws.proofs.KnownFolds.{given_some, given_at}
use Rattle.user_patterns_check.specs.Outcomes.{Outcome, given}
use Rattle.user_patterns_check.specs.Checks.{refines}
use Rattle.patterns_base.specs.declared.rule.Rule.{Rule}
use Rattle.patterns_base.specs.declared.rule.Rule.TheVariants.{ChooseKnown, ChooseOpposite, ChooseSame, ChooseTruth, EraseDead, FoldToConstant, LowerIndex}
use Rattle.patterns_base.specs.RuleNames.{is_erasing}
use Rattle.patterns_base.specs.Looks.{constant_value, insertion_of, defining_op, is_number, is_verified, is_in_order, known, source, when}
use Rattle.patterns_base.specs.Folding.{folded_to, may_read}
use Rattle.patterns_base.specs.Makes.{give}
use Rattle.patterns_base.specs.Looks as looks
use Rattle.patterns_base.specs.Rewrites.{becomes, edits_of, rewrite_of, eligible}
use Rattle.patterns_base.specs.Rules.{rule}
use Rattle.patterns_base.proofs.Facts.{edits_are, rewrite_is, when_some}
use Rattle.patterns_soundness.specs.Accepted.{AreAccepted}
use Rattle.patterns_soundness.proofs.Shapes.{three_is}
use Rattle.user_patterns_data.specs.Matching.{Header}
use Rattle.patterns_refinement.specs.Meaning.{Assignment, is_arithmetic, makes_by, result_kind}
use Rattle.patterns_refinement.specs.Applied.{IsBelow}
use Rattle.patterns_refinement.specs.Better.{AreKinded, OthersAreKinded, is_arithmetic_there, is_kinded, kind_in, takes, takes_its}
use Rattle.patterns_refinement.specs.Observing.{is_computed}
use Rattle.patterns_refinement.specs.Keeping.{Computing, IsFed, is_there}
use Rattle.patterns_refinement.proofs.Applying.{carried, some_edits}
use Rattle.patterns_refinement.proofs.Wellformed.{is_below, operands_stand}
use Rattle.patterns_refinement.proofs.Forms.{by_constant, fold_kind, makes_is, named_is}
use Rattle.patterns_refinement.proofs.Monotone.{same_refined}
use Rattle.patterns_refinement.specs.Choices.{is_select}
use Rattle.patterns_refinement.proofs.Numeric.{is_numeric, numeric_named, others_select_not}
use Rattle.patterns_refinement.proofs.OfBits.{IsOfBits}
use Rattle.patterns_refinement.proofs.Settling.{typed_bits}
use Rattle.patterns_refinement.proofs.Verified.{HasKind, asks_kind, verified_has_kind}
use Rattle.patterns_refinement.proofs.Trees.{TypesFound, each_found, found_fit, types_found}

-- ---- a rule at an operation
pub rule_edits : (r : Rule) (m n : Module) (x : ℕ) → rewrite_of r m x ≡ becomes n → (es : List Edit) × (all_edited es m ≡ n)
rule_edits r m n x e = let s = some_edits m n (edits_of r m x) (sym (rewrite_is r m x) ∙ e) in (s.0, carried m n s.0 s.2)

pub record Ruled (r : Rule) (m n : Module) (x : ℕ) : Type 0 where
  pub edits : List Edit
  pub here : Operation
  pub found : find x m.tree ≡ Some here
  pub id : (head here).id ≡ x
  pub insertion : Place
  pub suited : eligible r m.tree (head here) ≡ true
  pub made : rule r m.tree m.next insertion here ≡ Some edits
  pub free : Free edits m
  pub module_is : all_edited edits m ≡ n
  pub within : x < m.next
  pub numeric : is_numeric r ≡ true → asks_kind (rule_of (head here).name) ≡ true
  pub verified : is_erasing r ≡ false → is_verified m.tree (head here) ≡ true

suited_verified : (r : Rule) (t : Operation) (h : Header) → eligible r t h ≡ true → is_erasing r ≡ false → is_verified t h ≡ true
unfolding eligible
suited_verified r t h s e = sym (ap (λ b. if b then is_in_order t h else is_verified t h) e) ∙ s

pub ruled : AreAccepted → (r : Rule) (m n : Module) (x : ℕ) → IsWellFormed is_isolated m → IsSorted m → rewrite_of r m x ≡ becomes n → Ruled r m n x
ruled accepted r m n x wellformed sorted e =
    let s = some_edits m n (edits_of r m x) (sym (rewrite_is r m x) ∙ e) in
    let g = given_some (find x m.tree) (λ o. given (insertion_of x m.tree) (λ insertion. looks.when (eligible r m.tree (head o)) (rule r m.tree m.next insertion o))) s.0 (sym (edits_are r m x) ∙ s.1) in
    let f = given_some (insertion_of x m.tree) (λ insertion. looks.when (eligible r m.tree (head g.0)) (rule r m.tree m.next insertion g.0)) s.0 g.2 in
    let w = when_some (eligible r m.tree (head g.0)) (rule r m.tree m.next f.0 g.0) s.0 f.2 in
    let b = each_found (λ h. h.id < m.next) x m.tree (is_below m.next m.tree wellformed.below) g.0 g.1 in
    record {
      edits = s.0;
      here = g.0;
      found = g.1;
      id = b.1;
      insertion = f.0;
      suited = w.0;
      made = w.1;
      free = accepted r m x wellformed sorted s.0 n s.1 s.2;
      module_is = carried m n s.0 s.2;
      within = subst (λ y. y < m.next) b.1 b.0;
      numeric = λ i. numeric_named r m.tree m.next f.0 g.0 s.0 i w.1;
      verified = suited_verified r m.tree (head g.0) w.0;
    }

-- Returns whether a rule applies to operations whose results have no kind: it erases, lowers, or replaces a `select`.
abbrev pub may_lack : Rule → Bool
may_lack EraseDead = true
may_lack ChooseSame = true
may_lack ChooseKnown = true
may_lack ChooseOpposite = true
may_lack LowerIndex = true
may_lack r = false

lacking_erases : (r : Rule) → may_lack r ≡ false → is_erasing r ≡ false
lacking_erases EraseDead e = absurd (true≢false e)
lacking_erases r e = refl

folded_some : (t : Operation) (n : ℕ) (insertion : Place) (o : Operation) (tys : List TypeTerm) (k : Option Known) (es : List Edit) → folded_to t n insertion o tys k ≡ Some es → (y : Known) × (k ≡ Some y)
folded_some t n insertion o [] None es e = absurd (none-some es e)
folded_some t n insertion o [] (Some k) es e = absurd (none-some es e)
folded_some t n insertion o (ty ∷ uy ∷ tys) None es e = absurd (none-some es e)
folded_some t n insertion o (ty ∷ uy ∷ tys) (Some k) es e = absurd (none-some es e)
folded_some t n insertion o (ty ∷ []) None es e = absurd (none-some es e)
folded_some t n insertion o (ty ∷ []) (Some k) es e = (k, refl)

fold_has : (t : Operation) (n : ℕ) (insertion : Place) (o : Operation) (es : List Edit) → rule FoldToConstant t n insertion o ≡ Some es → is_some (result_kind (head o)) ≡ true
unfolding rule
fold_has t n insertion o es e =
    let h = head o in
    let fold = fold_of h.name h.properties (map (known t) h.operands) h.results in
    let w = when_some (not (named (codes "arith.constant") h.name) && list_all (may_read t n insertion o) h.operands) (folded_to t n insertion o h.results fold) es e in
    let k = folded_some t n insertion o h.results fold es w.1 in
    ap is_some (fold_kind h.name h.properties (map (known t) h.operands) h.results k.0 k.1)

truth_has : (t : Operation) (n : ℕ) (insertion : Place) (o : Operation) (es : List Edit) → rule ChooseTruth t n insertion o ≡ Some es → is_some (result_kind (head o)) ≡ true
unfolding rule
truth_has t n insertion o es e =
    let h = head o in
    let w = three_is h (λ p. when (named (codes "arith.select") p.name) (when (same_type p.ty i1 && (is_number t 1 p.second && is_number t 0 p.third)) (Some (give h.id p.first)))) es e in
    let g = when_some (named (codes "arith.select") h.name) (when (same_type w.ty i1 && (is_number t 1 w.second && is_number t 0 w.third)) (Some (give h.id w.first))) es w.makes in
    let f = when_some (same_type w.ty i1 && (is_number t 1 w.second && is_number t 0 w.third)) (Some (give h.id w.first)) es g.1 in
    let tests = and_parts (same_type w.ty i1) (is_number t 1 w.second && is_number t 0 w.third) f.0 in
    ap is_some (ap (λ tys. given (slice_get tys 0) kind_of) w.results ∙ ap kind_of (type_is w.ty i1 tests.0))

-- a `select` to which another rule applies has a kind
select_has : (r : Rule) (t : Operation) (n : ℕ) (insertion : Place) (o : Operation) (es : List Edit) → may_lack r ≡ false → rule r t n insertion o ≡ Some es → is_select (rule_of (head o).name) ≡ true → is_some (result_kind (head o)) ≡ true
select_has EraseDead t n insertion o es l e s = absurd (true≢false l)
select_has ChooseSame t n insertion o es l e s = absurd (true≢false l)
select_has ChooseKnown t n insertion o es l e s = absurd (true≢false l)
select_has ChooseOpposite t n insertion o es l e s = absurd (true≢false l)
select_has LowerIndex t n insertion o es l e s = absurd (true≢false l)
select_has FoldToConstant t n insertion o es l e s = fold_has t n insertion o es e
select_has ChooseTruth t n insertion o es l e s = truth_has t n insertion o es e
select_has r t n insertion o es l e s = absurd (true≢false (sym s ∙ others_select_not r t n insertion o es refl e))

-- the operation's result has a kind, unless the rule also applies to others
pub root_has : {r : Rule} {m n : Module} {x : ℕ} → (q : Ruled r m n x) → IsWellFormed is_isolated m → AreKinded m.tree → may_lack r ≡ false → HasKind (head q.here)
root_has {r} {m} {n} {x} q wellformed kinded e = go (bool_cases (is_select (rule_of (head q.here).name)))
  where
    go : (is_select (rule_of (head q.here).name) ≡ true) ⊎ (is_select (rule_of (head q.here).name) ≡ false) → HasKind (head q.here)
    go (inl s) = λ asks. select_has r m.tree m.next q.insertion q.here q.edits e q.made s
    go (inr s) = verified_has_kind m.tree q.here wellformed.distinct (ap (λ y. find y m.tree) q.id ∙ q.found) (q.verified (lacking_erases r e)) s

-- a rule of arithmetic applies to operations whose results have kinds
pub numeric_stays : (r : Rule) → is_numeric r ≡ true → may_lack r ≡ false
numeric_stays EraseDead e = absurd (true≢false (sym e))
numeric_stays ChooseSame e = absurd (true≢false (sym e))
numeric_stays ChooseKnown e = absurd (true≢false (sym e))
numeric_stays ChooseOpposite e = absurd (true≢false (sym e))
numeric_stays LowerIndex e = absurd (true≢false (sym e))
numeric_stays r e = refl

-- ---- the outcomes of the operation and its operands
pub record Site (m : Module) (a : Assignment) (done : ℕ → Bool) (x : ℕ) (o : Operation) : Type 0 where
  pub found : find x m.tree ≡ Some o
  pub computing : Computing a done m.tree
  pub types : TypesFound a m.tree
  pub kinded : is_kinded m.tree (head o) ≡ true
  pub values : list_all (λ v. has_value v m.tree) (head o).operands ≡ true
  pub fed : done x ≡ true → list_all (is_there done) (head o).operands ≡ true
  pub below : IsBelow m.next m.tree
  pub has : HasKind (head o)

pub site_of : (m : Module) (a : Assignment) (done : ℕ → Bool) (x : ℕ) (o : Operation) → IsWellFormed is_isolated m → AreKinded m.tree → Computing a done m.tree → find x m.tree ≡ Some o → HasKind (head o) → Site m a done x o
site_of m a done x o wellformed kinded computing e has = record {
  has = has;
  found = e;
  computing = computing;
  types = types_found a m.tree computing.typed;
  kinded = (each_found (λ h. is_kinded m.tree h ≡ true) x m.tree kinded o e).0;
  values = (each_found (λ h. list_all (λ v. has_value v m.tree) h.operands ≡ true) x m.tree (operands_stand is_isolated m.tree wellformed.distinct wellformed.wellformed.visible) o e).0;
  fed = λ d. let f = each_found (IsFed done) x m.tree computing.fed o e in f.0 (ap done f.1 ∙ d);
  below = is_below m.next m.tree wellformed.below;
}

-- the kinds of the operation's values
pub record OfRule (t : Operation) (h : Header) (r : How) : Type 0 where
  pub kind : BitsKind
  pub is : result_kind h ≡ Some kind
  pub operands : takes r h kind (map (kind_in t) h.operands) ≡ true
  pub width : is_width (width_of kind) ≡ true
  pub arithmetic : is_arithmetic h ≡ true

-- if its result has a kind
pub known_kinds : (t : Operation) (h : Header) → is_kinded t h ≡ true → (r : How) → rule_of h.name ≡ Some r → (k : BitsKind) → result_kind h ≡ Some k → OfRule t h r
known_kinds t h kinded r e k i =
    let js = map (kind_in t) h.operands in
    let p = and_parts (is_width (width_of k)) (takes r h k js) (subst (λ o. takes_its (Some r) o h js ≡ true) i (subst (λ q. takes_its q (result_kind h) h js ≡ true) e kinded)) in
    record { kind = k; is = i; operands = p.1; width = p.0; arithmetic = (λ j. is_some (e j) && is_some (i j)) }

-- an operation whose result has no kind has operands of the kinds that it needs
pub others_are_kinded : OthersAreKinded
others_are_kinded t h none =
    ap (λ k. takes_its (rule_of h.name) k h (map (kind_in t) h.operands)) none ∙ go (rule_of h.name) refl
  where
    go : (q : Option How) → rule_of h.name ≡ q → takes_its (rule_of h.name) None h (map (kind_in t) h.operands) ≡ true
    go None e = ap (λ q. takes_its q None h (map (kind_in t) h.operands)) e
    go (Some how.Constant) e = ap (λ q. takes_its q None h (map (kind_in t) h.operands)) e
    go (Some (how.Binary o)) e = ap (λ q. takes_its q None h (map (kind_in t) h.operands)) e
    go (Some how.Compare) e = ap (λ q. takes_its q None h (map (kind_in t) h.operands)) e
    go (Some how.Select) e = ap (λ q. takes_its q None h (map (kind_in t) h.operands)) e
    go (Some (how.IntegerCast c)) e = ap (λ q. takes_its q None h (map (kind_in t) h.operands)) e
    go (Some (how.IndexCast c)) e = ap (λ q. takes_its q None h (map (kind_in t) h.operands)) e

-- the same, except for constants
abbrev pub KindsOf : Operation → Header → How → Type 0
KindsOf t h how.Constant = Unit {0}
KindsOf t h (how.Binary o) = OfRule t h (how.Binary o)
KindsOf t h how.Compare = OfRule t h how.Compare
KindsOf t h how.Select = OfRule t h how.Select
KindsOf t h (how.IntegerCast c) = OfRule t h (how.IntegerCast c)
KindsOf t h (how.IndexCast c) = OfRule t h (how.IndexCast c)

pub rule_kinds : (t : Operation) (h : Header) → is_kinded t h ≡ true → HasKind h → (r : How) → rule_of h.name ≡ Some r → KindsOf t h r
rule_kinds t h kinded has r e = go r e (result_kind h) refl
  where
    never : {A : Type 0} → (r : How) → rule_of h.name ≡ Some r → asks_kind (Some r) ≡ true → result_kind h ≡ None → A
    never r e a i = absurd (true≢false (sym (sym (ap is_some i) ∙ has (ap asks_kind e ∙ a))))

    go : (r : How) → rule_of h.name ≡ Some r → (k : Option BitsKind) → result_kind h ≡ k → KindsOf t h r
    go how.Constant e k i = tt
    go (how.Binary o) e None i = never (how.Binary o) e refl i
    go (how.Binary o) e (Some k) i = known_kinds t h kinded (how.Binary o) e k i
    go how.Compare e None i = never how.Compare e refl i
    go how.Compare e (Some k) i = known_kinds t h kinded how.Compare e k i
    go how.Select e None i = never how.Select e refl i
    go how.Select e (Some k) i = known_kinds t h kinded how.Select e k i
    go (how.IntegerCast c) e None i = never (how.IntegerCast c) e refl i
    go (how.IntegerCast c) e (Some k) i = known_kinds t h kinded (how.IntegerCast c) e k i
    go (how.IndexCast c) e None i = never (how.IndexCast c) e refl i
    go (how.IndexCast c) e (Some k) i = known_kinds t h kinded (how.IndexCast c) e k i

-- an operation with a rule is arithmetic, if it has operands of the kinds that it needs and isn't a constant
pub named_arithmetic : (h : Header) → HasKind h → asks_kind (rule_of h.name) ≡ true → is_arithmetic h ≡ true
named_arithmetic h has e = (λ i. is_some (rule_of h.name) && has e i) ∙ go (rule_of h.name) e
  where
    go : (q : Option How) → asks_kind q ≡ true → (is_some q && true) ≡ true
    go None e = absurd (true≢false (sym e))
    go (Some q) e = refl

-- the operation's result is computed
pub computed_root : (r : Rule) (m n : Module) (x : ℕ) (q : Ruled r m n x) → HasKind (head q.here) → asks_kind (rule_of (head q.here).name) ≡ true → is_computed m.tree (Result x 0) ≡ true
computed_root r m n x q has e = ap is_arithmetic_there q.found ∙ named_arithmetic (head q.here) has e

module _ (m : Module) (a : Assignment) (done : ℕ → Bool) (x : ℕ) (o : Operation) (s : Site m a done x o) where
  abbrev t : Operation
  t = m.tree

  pub of_rule : (r : How) → rule_of (head o).name ≡ Some r → KindsOf m.tree (head o) r
  of_rule r e = rule_kinds m.tree (head o) s.kinded s.has r e

  -- the outcome refines every value that all possible outcomes refine
  pub gives_refined : (r : How) (y : Outcome) → rule_of (head o).name ≡ Some r → (k : OfRule m.tree (head o) r) → done x ≡ true → ((z : Outcome) → makes_by r (head o) k.kind (map a (head o).operands) ≡ Some z → refines z y ≡ true) → refines (a (Result x 0)) y ≡ true
  gives_refined r y e k d f = elim (found_fit a done t s.computing.fits x o s.found d k.arithmetic) [
    | inl i ↦ f (a (Result x 0)) (sym (makes_is (head o) (map a (head o).operands) r k.kind e k.is) ∙ i.0)
    | inr b ↦ subst (λ z. refines z y ≡ true) (sym b.2) refl
  ]

  -- known outcomes of values are in range
  pub value_bits : (v : Value) → has_value v m.tree ≡ true → IsOfBits (a v)
  value_bits v e = let ty = some_there (type_of_value v t) e in typed_bits ty.0 (a v) (s.types v ty.0 ty.1)

-- ---- constants
one_result : (name : List ℕ) (props : List (List ℕ × AttrTerm)) (results : List TypeTerm) (x : Known) (k : ℕ) → fold_of name props [] results ≡ Some x → is_some (slice_get results k) ≡ true → k ≡ 0
unfolding fold_of
one_result name props [] x k e s = absurd (none-some x e)
one_result name props (ty ∷ uy ∷ tys) x k e s = absurd (none-some x e)
one_result name props (ty ∷ []) x zero e s = refl
one_result name props (ty ∷ []) x (suc k) e s = absurd (true≢false (sym s))

-- the known number of a value, by its constant, refines its outcome
module _ (m : Module) (a : Assignment) (done : ℕ → Bool) (wellformed : IsWellFormed is_isolated m) (computing : Computing a done m.tree) (kinded : AreKinded m.tree) where
  pub known_there : (v : Value) (x : Known) → has_value v m.tree ≡ true → is_there done v ≡ true → known m.tree v ≡ Some x → refines (a v) (Some x) ≡ true
  unfolding known
  known_there (Arg y r k) x h there e = absurd (none-some x e)
  known_there (Result y k) x h there e =
      let g = given_some (source m.tree (codes "arith.constant") (Result y k)) constant_value x e in
      let f = given_some (defining_op m.tree (Result y k)) (λ h. looks.when (named (codes "arith.constant") h.name && is_verified m.tree h) (Some h)) g.0 g.1 in
      let w = when_some (named (codes "arith.constant") f.0.name && is_verified m.tree f.0) (Some f.0) g.0 f.2 in
      let p : (o : Operation) × (find y m.tree ≡ Some o) × (head o ≡ f.0) = map_some head (find y m.tree) f.0 f.1 (λ p is same. (p, is, same)) in
      let head_is : head p.0 ≡ g.0 = p.2 ∙ same_Some _ _ w.1 in
      let name = ap rule_of (ap (λ (h : Header). h.name) p.2 ∙ named_is (codes "arith.constant") f.0.name (and_parts (named (codes "arith.constant") f.0.name) (is_verified m.tree f.0) w.0).0) ∙ by_constant in
      let folds : fold_of (head p.0).name (head p.0).properties [] (head p.0).results ≡ Some x = subst (λ (h : Header). fold_of h.name h.properties [] h.results ≡ Some x) (sym head_is) g.2 in
      let first : k ≡ 0 = one_result (head p.0).name (head p.0).properties (head p.0).results x k folds (sym (ap (λ o. is_some (option_and_then (λ (o : Operation). slice_get (head o).results k) o)) p.1) ∙ h) in
      let s = site_of m a done y p.0 wellformed kinded computing p.1 (λ e. absurd (true≢false (sym (sym (ap asks_kind name) ∙ e)))) in
      subst (λ k. refines (a (Result y k)) (Some x) ≡ true) (sym first)
      (gives_refined m a done y p.0 s how.Constant (Some x) name (known_kinds m.tree (head p.0) s.kinded how.Constant name x.0 (fold_kind (head p.0).name (head p.0).properties [] (head p.0).results x folds)) there
      (λ z i. same_refined z (Some x) (same_Some _ _ (sym i ∙ given_at (fold_of (head p.0).name (head p.0).properties [] (head p.0).results) x (λ x. Some (Some x)) (Some (Some x)) folds refl))))
