-- The rules on casts of casts keep modules ready and refine what they compute.
use Rattle.std.proofs.Common.{◌≡◌, ℕ, ◌<◌, ◌≤◌, ◌%◌, ◌^◌, refl, ap, sym, ◌∙◌, subst, List, [], ◌∷◌, map, Bool, true, false, true≢false, ◌&&◌, Option, Some, None, ◌⊎◌, inl, inr, slice_get, arith}
use Rattle.std.specs.Prelude.{codes, if◌then◌else◌, is_some}
use Rattle.std.specs.List.{list_all}
use Rattle.std.specs.Option.{option_eq}
use Rattle.std.proofs.lemmas.Bool.{and_from, and_parts, lt-ltb, ltb-true}
use Rattle.std.proofs.lemmas.Option.{none-some, same_Some}
use Rattle.ir_types.specs.declared.bits.BitsKind.{BitsKind}
use Rattle.ir_types.specs.Bits.{width_of}
use Rattle.ir_types.specs.Reasons.{is_width}
use Rattle.ir_types.specs.SameTypes.{same_type}
use Rattle.ir_types.specs.Terms.{TypeTerm}
use Rattle.ir_types.specs.Words.{is_isolated}
use Rattle.ir_types.proofs.SameTerms.{type_is}
use Rattle.ir_tree.specs.declared.value.Value.{Value}
use Rattle.ir_tree.specs.declared.value.Value.TheVariants.{Result}
use Rattle.ir_tree.specs.Tree.{head}
use Rattle.ir_tree.specs.WellFormed.{IsWellFormed}
use Rattle.ir_tree.specs.Meaning.{Operation}
use Rattle.ir_tree_laws.specs.Values.{has_value, type_of_value}
use Rattle.ir_tree_laws.proofs.Listed.{bool_cases}
use Rattle.ir_event.specs.Modules.{Module}
use Rattle.dialects_int.specs.declared.operations.Cast.{Cast}
use Rattle.dialects_int.specs.declared.operations.Cast.TheVariants as cuts
use Rattle.dialects_int.specs.declared.operations.Rule.{Rule as Way}
use Rattle.dialects_int.specs.declared.operations.Rule.TheVariants as how
use Rattle.dialects_int.specs.Arithmetic.{cast_of, sign_extended, truncated, zero_extended}
use Rattle.dialects_int.specs.Folds.{Known, kind_of, rule_of, rules}
use Rattle.dialects_int.proofs.CastLaws.{truncated_back, truncated_twice, truncated_zeros_back}
use Rattle.user_patterns_check.specs.Checks.{refines}
use Rattle.user_patterns_check.specs.Outcomes.{Outcome, given, resize_any, resize_outcome}
use Rattle.patterns_laws.specs.Keeps.{Each as EachOf}
use Rattle.patterns_laws.specs.Made.{cast}
use Rattle.patterns_laws.specs.Words.{among, extensions, named}
use Rattle.patterns_laws.proofs.KnownFolds.{below, given_some, some_bits}
use Rattle.patterns_base.specs.declared.rule.Rule.TheVariants.{CutCast}
use Rattle.patterns_base.specs.Casting.{resizing}
use Rattle.patterns_base.specs.Looks.{defining_op, is_verified, is_of_type, one, source_among, when}
use Rattle.patterns_base.specs.Makes.{give, give_new}
use Rattle.patterns_base.specs.Rules.{rule}
use Rattle.patterns_base.proofs.Dispatch.{of_among}
use Rattle.patterns_base.proofs.Facts.{when_some}
use Rattle.patterns_soundness.specs.Accepted.{AreAccepted}
use Rattle.patterns_soundness.proofs.Shapes.{one_is}
use Rattle.user_patterns_data.specs.Matching.{Header}
use Rattle.patterns_refinement.specs.Meaning.{Assignment, of_one, owner, result_kind}
use Rattle.patterns_refinement.specs.Better.{AreKinded, is_kinded, is_poison_by_ones, is_signed_quotient, kind_in, narrows, takes, takes_its}
use Rattle.patterns_refinement.specs.Keeping.{Computing, Improves, IsReady, KeepsComputing, KeepsReady, done_after, is_there}
use Rattle.patterns_refinement.proofs.Verified.{HasKind}
use Rattle.patterns_refinement.proofs.Dropping.{old_improves, value_kind}
use Rattle.patterns_refinement.proofs.Firsts.{poison_refined}
use Rattle.patterns_refinement.proofs.Wellformed.{is_below, operands_stand}
use Rattle.patterns_refinement.proofs.Forms.{makes_is, named_is}
use Rattle.patterns_refinement.proofs.Giving.{after_new}
use Rattle.patterns_refinement.proofs.Makings.{GivesNew, GivesOne, GivesOutcomes, MadeOne, all_agree, all_at, new_improves, new_ready, still_there, with_all}
use Rattle.patterns_refinement.proofs.Monotone.{same_refined}
use Rattle.patterns_refinement.proofs.OfBits.{resize_bits}
use Rattle.patterns_refinement.proofs.OfKinds.{OfKinds, resize_kind}
use Rattle.patterns_refinement.proofs.Ruled.{Ruled, Site, gives_refined, known_kinds, of_rule, root_has, rule_kinds, ruled, site_of, value_bits}
use Rattle.patterns_refinement.proofs.Sources.{Resized, Sole, made_or_poison, operand_there, resized, sole_of}
use Rattle.patterns_refinement.proofs.StaysReady.{given_ready}
use Rattle.patterns_refinement.proofs.Trees.{each_found, value_below}

by_cut : rule_of (codes "arith.trunci") ≡ Some (how.IntegerCast cuts.Truncate)
unfolding rule_of rules
by_cut = refl

-- ---- a new cast
module _ (f : Value → Option BitsKind) where
  pub cast_made : (name : List ℕ) (ty : TypeTerm) (v : Value) (k : BitsKind) (c : Cast) → rule_of name ≡ Some (how.IntegerCast c) → kind_of ty ≡ Some k → is_width (width_of k) ≡ true → narrows c (f v) k ≡ true → MadeOne f (cast name ty v) k
  cast_made name ty v k c e of width n = record {
    ty = ty;
    results = refl;
    of = of;
    bare = refl;
    numeric = ap is_some e;
    unset = refl;
    risen = refl;
    takes = ap (λ r. takes_cast r) e ∙ and_from (is_width (width_of k)) (narrows c (f v) k) width n;
  }
    where
      takes_cast : Option Way → Bool
      takes_cast r = takes_its r (Some k) (head (cast name ty v)) (f v ∷ [])

-- the outcome of a cast
abbrev pub cast_outcome : Cast → BitsKind → Outcome → Outcome
cast_outcome c k o = given (resize_any c k o) (λ z. z)

pub cast_is : (c : Cast) (k : BitsKind) (o : Outcome) → is_width (width_of k) ≡ true → ((x : Known) → o ≡ Some x → (b : ℕ) × (cast_of c (width_of x.0) (width_of k) x.1 ≡ Some b)) → resize_outcome c k o ≡ Some (cast_outcome c k o)
cast_is c k o w f = ap (λ b. if b then resize_any c k o else None) w ∙ any o f
  where
    any : (o : Outcome) → ((x : Known) → o ≡ Some x → (b : ℕ) × (cast_of c (width_of x.0) (width_of k) x.1 ≡ Some b)) → resize_any c k o ≡ Some (cast_outcome c k o)
    any None f = refl
    any (Some x) f =
        let g = f x refl in
        ap (λ q. given q (λ b. Some (Some (k, b)))) g.1 ∙ sym (ap (λ q. Some (given (given q (λ b. Some (Some (k, b)))) (λ z. z))) g.1)

cut_there : (v w a : ℕ) → w < v → truncated v w a ≡ Some (a % 2 ^ w)
unfolding truncated
cut_there v w a l = ap (λ b. if b then Some (a % 2 ^ w) else None) (lt-ltb w v l)

cut_parts : (j : Option BitsKind) (k : BitsKind) → narrows cuts.Truncate j k ≡ true → (i : BitsKind) × (j ≡ Some i) × (width_of k < width_of i)
cut_parts None k e = absurd (true≢false (sym e))
cut_parts (Some i) k e = (i, refl, ltb-true (width_of k) (width_of i) e)

nothing : OfKinds [] []
nothing = record { long = refl; are = λ i x e. absurd (none-some (Some x) e) }

-- a new cast has the outcome that it computes
module _ (a : Assignment) (done : ℕ → Bool) (n x : ℕ) (zs : List Outcome) where
  pub cast_gives : (name : List ℕ) (ty : TypeTerm) (v : Value) (k : BitsKind) (c : Cast) → rule_of name ≡ Some (how.IntegerCast c) → kind_of ty ≡ Some k → owner v < n → (done x ≡ true → is_there done v ≡ true) → resize_outcome c k (a v) ≡ Some (cast_outcome c k (a v))
      → GivesOne (with_all a n None zs) done (done_after n x done) x (cast name ty v) k (cast_outcome c k (a v))
  cast_gives name ty v k c e of l there total = record {
    of = resize_kind [] [] nothing c k (a v) (cast_outcome c k (a v)) total;
    bits = resize_bits c k (a v) (cast_outcome c k (a v)) total;
    made = λ d. makes_is (head (cast name ty v)) (with_all a n None zs v ∷ []) (how.IntegerCast c) k e of ∙ ap (λ o. resize_outcome c k o) (all_agree a n None zs v l) ∙ total;
    sure = λ d. ap (λ r. is_signed_quotient r && is_poison_by_ones (with_all a n None zs v ∷ [])) e;
    fed = λ d. and_from (is_there (done_after n x done) v) true (still_there n x done v l (there d)) refl;
  }

-- ---- a cast of a cast
pub twice_refined : (c d : Cast) (j k : BitsKind) (o p z out : Outcome) → resize_outcome d k p ≡ Some z → (resize_outcome c j o ≡ Some p) ⊎ (p ≡ None)
    → ((y : Known) (b i : ℕ) → o ≡ Some y → cast_of c (width_of y.0) (width_of j) y.1 ≡ Some b → cast_of d (width_of j) (width_of k) b ≡ Some i → refines (Some (k, i)) out ≡ true) → refines z out ≡ true
twice_refined c d j k o p z out e made f = elim (resized d k p z e) [
  | inl none ↦ poison_refined z out none
  | inr r ↦ outer r made
]
  where
    both : Resized d k p z → Resized c j o p → refines z out ≡ true
    both r g =
        let same : r.known ≡ (j, g.bits) = same_Some _ _ (sym r.is ∙ g.gives) in
        subst (λ z. refines z out ≡ true) (sym r.gives)
        (f g.known g.bits r.bits g.is g.cast (subst (λ (y : Known). cast_of d (width_of y.0) (width_of k) y.1 ≡ Some r.bits) same r.cast))

    outer : Resized d k p z → (resize_outcome c j o ≡ Some p) ⊎ (p ≡ None) → refines z out ≡ true
    outer r (inr none) = absurd (none-some r.known (sym none ∙ r.is))
    outer r (inl i) = elim (resized c j o p i) [
      | inl none ↦ absurd (none-some r.known (sym none ∙ r.is))
      | inr g ↦ both r g
    ]

pub cast_refined : (e : Cast) (k : BitsKind) (o : Outcome) (y : Known) (i : ℕ) → o ≡ Some y → cast_of e (width_of y.0) (width_of k) y.1 ≡ Some i → refines (Some (k, i)) (cast_outcome e k o) ≡ true
cast_refined e k o y i is c =
    same_refined (Some (k, i)) (cast_outcome e k o)
    (sym (ap (cast_outcome e k) is ∙ ap (λ q. given (given q (λ b. Some (Some (k, b)))) (λ z. z)) c))

-- an executed cast has its outcome or poison, and its operand is available
module _ (m : Module) (test : Header → Bool) (v : Value) (h : Header) (s : Sole m test v h) (u : Value) (operands : h.operands ≡ u ∷ []) (c : Cast) (name : rule_of h.name ≡ Some (how.IntegerCast c)) where
  own_name : rule_of (head s.here).name ≡ Some (how.IntegerCast c)
  own_name = ap rule_of (ap (λ (h : Header). h.name) s.heads) ∙ name

  own_operands : (head s.here).operands ≡ u ∷ []
  own_operands = ap (λ (h : Header). h.operands) s.heads ∙ operands

  -- the cast takes an operand of its kind
  pub source_narrows : AreKinded m.tree → (j : BitsKind) → kind_in m.tree v ≡ Some j → (narrows c (kind_in m.tree u) j ≡ true) × (is_width (width_of j) ≡ true)
  source_narrows kinded j e =
      let k = known_kinds m.tree (head s.here) (each_found (λ h. is_kinded m.tree h ≡ true) s.id m.tree kinded s.here s.found).0 (how.IntegerCast c) own_name j (sym s.kind ∙ e) in
      let same : k.kind ≡ j = same_Some _ _ (sym k.is ∙ sym s.kind ∙ e) in (
        subst (λ j. narrows c (kind_in m.tree u) j ≡ true) same (subst (λ vs. takes (how.IntegerCast c) (head s.here) k.kind (map (kind_in m.tree) vs) ≡ true) own_operands k.operands),
        subst (λ j. is_width (width_of j) ≡ true) same k.width,
      )

  module _ (a : Assignment) (done : ℕ → Bool) (wellformed : IsWellFormed is_isolated m) (kinded : AreKinded m.tree) (computing : Computing a done m.tree) (has : HasKind (head s.here)) (there : is_there done v ≡ true) where
    own_site : Site m a done s.id s.here
    own_site = site_of m a done s.id s.here wellformed kinded computing s.found has

    done_there : done s.id ≡ true
    done_there = ap (is_there done) (sym s.value) ∙ there

    pub source_there : is_there done u ≡ true
    source_there = operand_there m a done s.id s.here own_site (is_there done) u own_operands (own_site.fed done_there)

    pub source_makes : (j : BitsKind) → kind_in m.tree v ≡ Some j → (resize_outcome c j (a u) ≡ Some (a v)) ⊎ (a v ≡ None)
    source_makes j e =
        let k = of_rule m a done s.id s.here own_site (how.IntegerCast c) own_name in
        let same : k.kind ≡ j = same_Some _ _ (sym k.is ∙ sym s.kind ∙ e) in
        elim (made_or_poison m a done s.id s.here own_site (how.IntegerCast c) own_name k done_there) [
          | inl i ↦ inl
              (subst (λ v. resize_outcome c j (a u) ≡ Some (a v)) (sym s.value)
              (subst (λ j. resize_outcome c j (a u) ≡ Some (a (Result s.id 0))) same (subst (λ vs. of_one (resize_outcome c k.kind) (map a vs) ≡ Some (a (Result s.id 0))) own_operands i)))
          | inr none ↦ inr (ap a s.value ∙ none)
        ]

-- the outcome of an executed cast refines every value that all its possible outcomes refine
module _ (m : Module) (a : Assignment) (done : ℕ → Bool) (x : ℕ) (o : Operation) (s : Site m a done x o) where
  pub cast_result : (c : Cast) (v : Value) (k : BitsKind) (y : Outcome) → rule_of (head o).name ≡ Some (how.IntegerCast c) → result_kind (head o) ≡ Some k → (head o).operands ≡ v ∷ [] → done x ≡ true → ((z : Outcome) → resize_outcome c k (a v) ≡ Some z → refines z y ≡ true) → refines (a (Result x 0)) y ≡ true
  cast_result c v k y e is ops d f =
      let r = of_rule m a done x o s (how.IntegerCast c) e in
      let same : r.kind ≡ k = same_Some _ _ (sym r.is ∙ is) in
      gives_refined m a done x o s (how.IntegerCast c) y e r d
      (λ z i. f z (subst (λ k. resize_outcome c k (a v) ≡ Some z) same (subst (λ vs. of_one (resize_outcome c r.kind) (map a vs) ≡ Some z) ops i)))

-- ---- a truncation of a truncation, or of an extension
abbrev pub extends : Cast → Bool
extends cuts.Truncate = false
extends cuts.ExtendSigned = true
extends cuts.ExtendUnsigned = true

abbrev IsResizing : List ℕ → Type 0
IsResizing name = named (codes "arith.trunci") name ≡ false → (c : Cast) × (rule_of name ≡ Some (how.IntegerCast c)) × (extends c ≡ true)

all_resizing : EachOf IsResizing resizing
unfolding rule_of rules resizing extensions
all_resizing = ((λ e. absurd (true≢false e)), ((λ e. (cuts.ExtendSigned, refl, refl)), ((λ e. (cuts.ExtendUnsigned, refl, refl)), tt)))

cut_back_to : (c : Cast) (u v a b d : ℕ) → extends c ≡ true → 1 ≤ u → u < v → a < 2 ^ u → cast_of c u v a ≡ Some b → truncated v u b ≡ Some d → d ≡ a
cut_back_to cuts.Truncate u v a b d e s l h i j = absurd (true≢false (sym e))
cut_back_to cuts.ExtendSigned u v a b d e s l h i j = same_Some d a (sym j ∙ ap (truncated v u) (sym (same_Some (sign_extended u v a) b i)) ∙ truncated_back u v a s l h)
cut_back_to cuts.ExtendUnsigned u v a b d e s l h i j = same_Some d a (sym j ∙ ap (truncated v u) (sym (same_Some (zero_extended v a) b i)) ∙ truncated_zeros_back u v a l h)

pub of_type : (t : Operation) (ty : TypeTerm) (v : Value) → is_of_type t ty v ≡ true → kind_in t v ≡ kind_of ty
of_type t ty v e = go (type_of_value v t) e
  where
    go : (o : Option TypeTerm) → option_eq same_type o (Some ty) ≡ true → given o kind_of ≡ kind_of ty
    go None e = absurd (true≢false (sym e))
    go (Some uy) e = ap kind_of (type_is uy ty e)

module _ (accepted : AreAccepted) where
  -- the operations that the rule matched
  record Cut (m n : Module) (x : ℕ) (q : Ruled CutCast m n x) : Type 0 where
    pub middle : Value
    pub ty : TypeTerm
    pub operands : (head q.here).operands ≡ middle ∷ []
    pub results : (head q.here).results ≡ ty ∷ []
    pub name : rule_of (head q.here).name ≡ Some (how.IntegerCast cuts.Truncate)
    pub inner : Header
    pub first : Value
    pub inner_ty : TypeTerm
    pub inner_operands : inner.operands ≡ first ∷ []
    pub inner_results : inner.results ≡ inner_ty ∷ []
    pub gives : given (defining_op m.tree middle) (λ h. when (among resizing h.name && is_verified m.tree h) (Some h)) ≡ Some inner
    pub makes : (if named (codes "arith.trunci") inner.name then Some (give_new q.insertion m.next (head q.here).id (cast inner.name ty first)) else when (is_of_type m.tree ty first) (Some (give (head q.here).id first))) ≡ Some q.edits

  cut_here : (m n : Module) (x : ℕ) (q : Ruled CutCast m n x) → Cut m n x q
  unfolding rule
  cut_here m n x q =
      let h = head q.here in
      let w = one_is h (λ p. when (named (codes "arith.trunci") p.name) (given (source_among m.tree resizing p.first) (λ y. given (one y) (λ i. if named (codes "arith.trunci") i.name then Some (give_new q.insertion m.next h.id (cast i.name p.ty i.first)) else when (is_of_type m.tree p.ty i.first) (Some (give h.id i.first)))))) q.edits q.made in
      let g = when_some (named (codes "arith.trunci") h.name) (given (source_among m.tree resizing w.first) (λ y. given (one y) (λ i. if named (codes "arith.trunci") i.name then Some (give_new q.insertion m.next h.id (cast i.name w.ty i.first)) else when (is_of_type m.tree w.ty i.first) (Some (give h.id i.first))))) q.edits w.makes in
      let s = given_some (source_among m.tree resizing w.first) (λ y. given (one y) (λ i. if named (codes "arith.trunci") i.name then Some (give_new q.insertion m.next h.id (cast i.name w.ty i.first)) else when (is_of_type m.tree w.ty i.first) (Some (give h.id i.first)))) q.edits g.1 in
      let i = one_is s.0 (λ i. if named (codes "arith.trunci") i.name then Some (give_new q.insertion m.next h.id (cast i.name w.ty i.first)) else when (is_of_type m.tree w.ty i.first) (Some (give h.id i.first))) q.edits s.2 in
      record {
        middle = w.first;
        ty = w.ty;
        operands = w.operands;
        results = w.results;
        name = ap rule_of (named_is (codes "arith.trunci") h.name g.0) ∙ by_cut;
        inner = s.0;
        first = i.first;
        inner_ty = i.ty;
        inner_operands = i.operands;
        inner_results = i.results;
        gives = s.1;
        makes = i.makes;
      }

  -- the kinds of their values
  record CutKinds (m n : Module) (x : ℕ) (q : Ruled CutCast m n x) (w : Cut m n x q) : Type 0 where
    pub sole : Sole m (λ h. among resizing h.name && is_verified m.tree h) w.middle w.inner
    pub kind : BitsKind
    pub of : kind_of w.ty ≡ Some kind
    pub is : result_kind (head q.here) ≡ Some kind
    pub width : is_width (width_of kind) ≡ true
    pub intermediate : BitsKind
    pub between_is : kind_in m.tree w.middle ≡ Some intermediate
    pub less : width_of kind < width_of intermediate
    pub value : has_value w.first m.tree ≡ true

  cut_kinds : (m n : Module) (x : ℕ) (q : Ruled CutCast m n x) (w : Cut m n x q) → IsReady m → CutKinds m n x q w
  cut_kinds m n x q w ready =
      let k = rule_kinds m.tree (head q.here) (each_found (λ h. is_kinded m.tree h ≡ true) x m.tree ready.kinded q.here q.found).0 (root_has q ready.wellformed ready.kinded refl) (how.IntegerCast cuts.Truncate) w.name in
      let cut = cut_parts (kind_in m.tree w.middle) k.kind (subst (λ vs. takes (how.IntegerCast cuts.Truncate) (head q.here) k.kind (map (kind_in m.tree) vs) ≡ true) w.operands k.operands) in
      let stand = operands_stand is_isolated m.tree ready.wellformed.distinct ready.wellformed.wellformed.visible in
      let there = (each_found (λ h. list_all (λ v. has_value v m.tree) h.operands ≡ true) x m.tree stand q.here q.found).0 in
      let middle : has_value w.middle m.tree ≡ true = (and_parts (has_value w.middle m.tree) true (subst (λ vs. list_all (λ v. has_value v m.tree) vs ≡ true) w.operands there)).0 in
      let s = sole_of m (λ h. among resizing h.name && is_verified m.tree h) w.middle w.inner w.gives middle w.inner_ty w.inner_results in
      let inside = (each_found (λ h. list_all (λ v. has_value v m.tree) h.operands ≡ true) s.id m.tree stand s.here s.found).0 in
      record {
        sole = s;
        kind = k.kind;
        of = sym (ap (λ tys. given (slice_get tys 0) kind_of) w.results) ∙ k.is;
        is = k.is;
        width = k.width;
        intermediate = cut.0;
        between_is = cut.1;
        less = cut.2;
        value = (and_parts (has_value w.first m.tree) true (subst (λ vs. list_all (λ v. has_value v m.tree) vs ≡ true) (ap (λ (h : Header). h.operands) s.heads ∙ w.inner_operands) inside)).0;
      }

  -- a truncation of a truncation
  module _ (m n : Module) (x : ℕ) (q : Ruled CutCast m n x) (w : Cut m n x q) (ready : IsReady m) (k : CutKinds m n x q w) (e : named (codes "arith.trunci") w.inner.name ≡ true) where
    inner_cuts : rule_of w.inner.name ≡ Some (how.IntegerCast cuts.Truncate)
    inner_cuts = ap rule_of (named_is (codes "arith.trunci") w.inner.name e) ∙ by_cut

    test : Header → Bool
    test h = among resizing h.name && is_verified m.tree h

    first_kind : (i : BitsKind) × (kind_in m.tree w.first ≡ Some i) × (width_of k.intermediate < width_of i)
    first_kind = cut_parts (kind_in m.tree w.first) k.intermediate (source_narrows m (λ h. among resizing h.name && is_verified m.tree h) w.middle w.inner k.sole w.first w.inner_operands cuts.Truncate inner_cuts ready.kinded k.intermediate k.between_is).0

    first_below : owner w.first < m.next
    first_below = value_below m.next m.tree (is_below m.next m.tree ready.wellformed.below) w.first k.value

    cuts_to : narrows cuts.Truncate (kind_in m.tree w.first) k.kind ≡ true
    cuts_to = ap (λ j. narrows cuts.Truncate j k.kind) first_kind.1 ∙ lt-ltb (width_of k.kind) (width_of first_kind.0) (omega (arith, k.less, first_kind.2))

    cut_new : GivesNew CutCast m n x q
    cut_new = record {
      made = cast w.inner.name w.ty w.first ∷ [];
      value_types = k.kind ∷ [];
      value = Result m.next 0;
      edits =
          sym (same_Some _ _ (sym (ap (λ b. if b then Some (give_new q.insertion m.next (head q.here).id (cast w.inner.name w.ty w.first)) else when (is_of_type m.tree w.ty w.first) (Some (give (head q.here).id w.first))) e) ∙ w.makes))
          ∙ ap (λ y. give_new q.insertion m.next y (cast w.inner.name w.ty w.first)) q.id;
      are = (
        cast_made (with_all (kind_in m.tree) m.next None (Some k.kind ∷ [])) w.inner.name w.ty w.first k.kind cuts.Truncate inner_cuts k.of k.width
            (ap (λ j. narrows cuts.Truncate j k.kind) (all_agree (kind_in m.tree) m.next None (Some k.kind ∷ []) w.first first_below) ∙ cuts_to),
        tt,
      );
    }

    module _ (a : Assignment) (done : ℕ → Bool) (computing : Computing a done m.tree) where
      abbrev out : Outcome
      out = cast_outcome cuts.Truncate k.kind (a w.first)

      site : Site m a done x q.here
      site = site_of m a done x q.here ready.wellformed ready.kinded computing q.found (root_has q ready.wellformed ready.kinded refl)

      middle_there : done x ≡ true → is_there done w.middle ≡ true
      middle_there d = operand_there m a done x q.here site (is_there done) w.middle w.operands (site.fed d)

      total : resize_outcome cuts.Truncate k.kind (a w.first) ≡ Some (cast_outcome cuts.Truncate k.kind (a w.first))
      total =
          cast_is cuts.Truncate k.kind (a w.first) k.width
          (λ y i. (
            y.1 % 2 ^ width_of k.kind,
            cut_there (width_of y.0) (width_of k.kind) y.1 (subst (λ j. width_of k.kind < width_of j) (sym (value_kind m a done x q.here site w.first first_kind.0 y first_kind.1 i)) (omega (arith, k.less, first_kind.2))),
          ))

      cut_outcomes : GivesOutcomes CutCast m n x q cut_new a done
      unfolding cut_new
      cut_outcomes = record {
        outcomes = cast_outcome cuts.Truncate k.kind (a w.first) ∷ [];
        give = (
          cast_gives a done m.next x (cast_outcome cuts.Truncate k.kind (a w.first) ∷ []) w.inner.name w.ty w.first k.kind cuts.Truncate inner_cuts k.of first_below
              (λ d. source_there m (λ h. among resizing h.name && is_verified m.tree h) w.middle w.inner k.sole w.first w.inner_operands cuts.Truncate inner_cuts a done ready.wellformed ready.kinded computing (λ i. ap is_some (sym k.sole.kind ∙ k.between_is)) (middle_there d)) total,
          tt,
        );
        better = λ d.
            subst (λ o. refines (a (Result x 0)) o ≡ true) (sym ((all_at a m.next None (cast_outcome cuts.Truncate k.kind (a w.first) ∷ [])).0 0))
            (cast_result m a done x q.here site cuts.Truncate w.middle k.kind out w.name k.is w.operands d
            (λ z i.
            twice_refined cuts.Truncate cuts.Truncate k.intermediate k.kind (a w.first) (a w.middle) z out i
            (source_makes m (λ h. among resizing h.name && is_verified m.tree h) w.middle w.inner k.sole w.first w.inner_operands cuts.Truncate inner_cuts a done ready.wellformed ready.kinded computing (λ i. ap is_some (sym k.sole.kind ∙ k.between_is)) (middle_there d) k.intermediate k.between_is)
            (λ y b j is c f. cast_refined cuts.Truncate k.kind (a w.first) y j is (sym (truncated_twice (width_of y.0) (width_of k.intermediate) (width_of k.kind) y.1 b k.less c) ∙ f))));
        there = λ d. after_new m.next x done m.next (omega arith) ∙ d;
      }

  -- a truncation of an extension
  module _ (m n : Module) (x : ℕ) (q : Ruled CutCast m n x) (w : Cut m n x q) (ready : IsReady m) (k : CutKinds m n x q w) (e : named (codes "arith.trunci") w.inner.name ≡ false) where
    back : (is_of_type m.tree w.ty w.first ≡ true) × (give (head q.here).id w.first ≡ q.edits)
    back =
        let g = when_some (is_of_type m.tree w.ty w.first) (Some (give (head q.here).id w.first)) q.edits
        (sym (ap (λ b. if b then Some (give_new q.insertion m.next (head q.here).id (cast w.inner.name w.ty w.first)) else when (is_of_type m.tree w.ty w.first) (Some (give (head q.here).id w.first))) e) ∙ w.makes) in
        (g.0, same_Some _ _ g.1)

    inner_extends : (c : Cast) × (rule_of w.inner.name ≡ Some (how.IntegerCast c)) × (extends c ≡ true)
    inner_extends = of_among IsResizing resizing w.inner.name all_resizing (and_parts (among resizing w.inner.name) (is_verified m.tree w.inner) k.sole.passed).0 e

    back_kind : kind_in m.tree w.first ≡ Some k.kind
    back_kind = of_type m.tree w.ty w.first back.0 ∙ k.of

    back_improves : (a : Assignment) (done : ℕ → Bool) → AreKinded n.tree → Computing a done m.tree → Improves a done m (done_after m.next x done) n.tree
    back_improves a done after computing =
        let s = site_of m a done x q.here ready.wellformed ready.kinded computing q.found (root_has q ready.wellformed ready.kinded refl) in
        let middle : done x ≡ true → is_there done w.middle ≡ true = (λ d. operand_there m a done x q.here s (is_there done) w.middle w.operands (s.fed d)) in
        old_improves CutCast m n x a done ready.wellformed after computing q (q.numeric refl) w.first s (record {
          edits = back.1;
          value = k.value;
          better = λ d.
              cast_result m a done x q.here s cuts.Truncate w.middle k.kind (a w.first) w.name k.is w.operands d
              (λ z i.
              twice_refined inner_extends.0 cuts.Truncate k.intermediate k.kind (a w.first) (a w.middle) z (a w.first) i
              (source_makes m (λ h. among resizing h.name && is_verified m.tree h) w.middle w.inner k.sole w.first w.inner_operands inner_extends.0 inner_extends.1 a done ready.wellformed ready.kinded computing (λ i. ap is_some (sym k.sole.kind ∙ k.between_is)) (middle d) k.intermediate k.between_is)
              (λ y b j is c f.
              let value_types = value_kind m a done x q.here s w.first k.kind y back_kind is in
              let back_to = sym value_types in
              let fits = value_bits m a done x q.here s w.first k.value y is in
              let number : j ≡ y.1 =
              cut_back_to inner_extends.0 (width_of k.kind) (width_of k.intermediate) y.1 b j inner_extends.2 (subst (λ k. 1 ≤ width_of k) value_types (some_bits y.0 y.1 fits)) k.less (subst (λ k. y.1 < 2 ^ width_of k) value_types (below y.0 y.1 fits))
              (subst (λ u. cast_of inner_extends.0 (width_of u) (width_of k.intermediate) y.1 ≡ Some b) value_types c) f in
              same_refined (Some (k.kind, j)) (a w.first) ((λ i. Some (back_to i, number i)) ∙ sym is)));
          there = λ d. source_there m (λ h. among resizing h.name && is_verified m.tree h) w.middle w.inner k.sole w.first w.inner_operands inner_extends.0 inner_extends.1 a done ready.wellformed ready.kinded computing (λ i. ap is_some (sym k.sole.kind ∙ k.between_is)) (middle d);
        })

  pub cut_cast_ready : KeepsReady CutCast
  cut_cast_ready m n x ready e =
      let q = ruled accepted CutCast m n x ready.wellformed ready.sorted e in
      let w = cut_here m n x q in
      let k = cut_kinds m n x q w ready in
      elim (bool_cases (named (codes "arith.trunci") w.inner.name)) [
        | inl i ↦ new_ready CutCast m n x q (cut_new m n x q w ready k i) ready
        | inr i ↦ given_ready CutCast m n x q w.first (back m n x q w ready k i).1 ready
      ]

  pub cut_cast_computing : KeepsComputing CutCast
  cut_cast_computing m n x a done ready computing e =
      let q = ruled accepted CutCast m n x ready.wellformed ready.sorted e in
      let w = cut_here m n x q in
      let k = cut_kinds m n x q w ready in
      let after = (cut_cast_ready m n x ready e).kinded in
      elim (bool_cases (named (codes "arith.trunci") w.inner.name)) [
        | inl i ↦ new_improves CutCast m n x q (cut_new m n x q w ready k i) a done (cut_outcomes m n x q w ready k i a done computing) ready refl after computing
        | inr i ↦ back_improves m n x q w ready k i a done after computing
      ]
