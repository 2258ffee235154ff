-- The rule that folds an operation to a constant keeps modules ready and refines what they compute.
use Rattle.std.proofs.Common.{◌≡◌, ℕ, refl, ap, sym, ◌∙◌, subst, List, [], ◌∷◌, map, Bool, true, ◌&&◌, not, Option, Some, None, slice_get}
use Rattle.std.specs.Prelude.{codes}
use Rattle.std.specs.List.{list_all}
use Rattle.std.proofs.lemmas.Bool.{and_parts}
use Rattle.std.proofs.lemmas.Option.{none-some, same_Some}
use Rattle.ir_types.specs.Bits.{width_of}
use Rattle.ir_types.specs.Reasons.{is_width}
use Rattle.ir_types.specs.Terms.{TypeTerm}
use Rattle.ir_types.specs.Words.{is_isolated}
use Rattle.ir_tree.specs.declared.value.Value.{Value}
use Rattle.ir_tree.specs.declared.value.Value.TheVariants.{Result}
use Rattle.ir_tree.specs.declared.place.Place.{Place}
use Rattle.ir_tree.specs.Tree.{head}
use Rattle.ir_tree.specs.Meaning.{Operation}
use Rattle.ir_tree_laws.specs.Values.{has_value}
use Rattle.ir_event.specs.Modules.{Module}
use Rattle.dialects_int.specs.Folds.{Known, fold_of, kind_of}
use Rattle.rewriter_machine.specs.Contents.{Edit}
use Rattle.user_patterns_check.specs.Checks.{refines}
use Rattle.user_patterns_check.specs.Outcomes.{given}
use Rattle.patterns_laws.specs.Words.{named}
use Rattle.patterns_base.specs.declared.rule.Rule.TheVariants.{FoldToConstant}
use Rattle.patterns_base.specs.Folding.{folded_to, may_read}
use Rattle.patterns_base.specs.Looks.{known}
use Rattle.patterns_base.specs.Makes.{give_constant}
use Rattle.patterns_base.specs.Rules.{rule}
use Rattle.patterns_base.proofs.Facts.{when_some}
use Rattle.patterns_soundness.specs.Accepted.{AreAccepted}
use Rattle.patterns_refinement.specs.Meaning.{Assignment, makes_by}
use Rattle.patterns_refinement.specs.Better.{AreKinded, is_kinded, kind_in, takes}
use Rattle.patterns_refinement.specs.Keeping.{Computing, IsReady, KeepsComputing, KeepsReady, is_there}
use Rattle.patterns_refinement.proofs.Constants.{GivesNumber, number_improves, number_ready}
use Rattle.patterns_refinement.proofs.FoldsKept.{AllHaveBits, AllSay, Folded, fold_fits, fold_kept, folded}
use Rattle.patterns_refinement.proofs.Wellformed.{operands_stand}
use Rattle.patterns_refinement.proofs.Lifted.{operands_are}
use Rattle.patterns_refinement.proofs.Pairs.{known_kind}
use Rattle.patterns_refinement.proofs.Ruled.{OfRule, Ruled, Site, gives_refined, known_there, known_kinds, ruled, site_of, value_bits, root_has}
use Rattle.patterns_refinement.proofs.Trees.{each_found}

-- ---- known numbers of operands
known_bits : (m : Module) → AreKinded m.tree → (vs : List Value) → list_all (λ v. has_value v m.tree) vs ≡ true → AllHaveBits (map (known m.tree) vs)
known_bits m kinded [] e = tt
known_bits m kinded (v ∷ vs) e =
    let h = and_parts (has_value v m.tree) (list_all (λ v. has_value v m.tree) vs) e in
    ((λ x i. (known_kind m v x kinded h.0 i).1), known_bits m kinded vs h.1)

module _ (m : Module) (a : Assignment) (done : ℕ → Bool) (ready : IsReady m) (computing : Computing a done m.tree) where
  known_say : (vs : List Value) → list_all (λ v. has_value v m.tree) vs ≡ true → list_all (is_there done) vs ≡ true → AllSay (map (known m.tree) vs) (map a vs)
  known_say [] e f = tt
  known_say (v ∷ vs) e f =
      let h = and_parts (has_value v m.tree) (list_all (λ v. has_value v m.tree) vs) e in
      let g = and_parts (is_there done v) (list_all (is_there done) vs) f in
      ((λ x i. known_there m a done ready.wellformed computing ready.kinded v x h.0 g.0 i), known_say vs h.1 g.1)

-- ---- the operations that the rule matched
record Folds (m n : Module) (x : ℕ) (q : Ruled FoldToConstant m n x) : Type 0 where
  pub value : Known
  pub ty : TypeTerm
  pub results : (head q.here).results ≡ ty ∷ []
  pub fold : fold_of (head q.here).name (head q.here).properties (map (known m.tree) (head q.here).operands) (head q.here).results ≡ Some value
  pub edits : give_constant q.insertion m.next (head q.here).id ty value.1 ≡ q.edits

record ToConstant (t : Operation) (n : ℕ) (insertion : Place) (o : Operation) (tys : List TypeTerm) (k : Option Known) (es : List Edit) : Type 0 where
  pub value : Known
  pub ty : TypeTerm
  pub results : tys ≡ ty ∷ []
  pub is : k ≡ Some value
  pub edits : give_constant insertion n (head o).id ty value.1 ≡ es

to_constant : (t : Operation) (n : ℕ) (insertion : Place) (o : Operation) (tys : List TypeTerm) (k : Option Known) (es : List Edit) → folded_to t n insertion o tys k ≡ Some es → ToConstant t n insertion o tys k es
to_constant t n insertion o [] None es e = absurd (none-some es e)
to_constant t n insertion o [] (Some k) es e = absurd (none-some es e)
to_constant t n insertion o (ty ∷ uy ∷ tys) None es e = absurd (none-some es e)
to_constant t n insertion o (ty ∷ uy ∷ tys) (Some k) es e = absurd (none-some es e)
to_constant t n insertion o (ty ∷ []) None es e = absurd (none-some es e)
to_constant t n insertion o (ty ∷ []) (Some k) es e = record { value = k; ty = ty; results = refl; is = refl; edits = same_Some _ _ e }

folds_here : (m n : Module) (x : ℕ) (q : Ruled FoldToConstant m n x) → Folds m n x q
unfolding rule
folds_here m n x q =
    let h = head q.here in
    let fold = fold_of h.name h.properties (map (known m.tree) h.operands) h.results in
    let g =
    when_some (not (named (codes "arith.constant") h.name) && list_all (may_read m.tree m.next q.insertion q.here) h.operands) (folded_to m.tree m.next q.insertion q.here h.results fold) q.edits q.made in
    let c = to_constant m.tree m.next q.insertion q.here h.results fold q.edits g.1 in
    record { value = c.value; ty = c.ty; results = c.results; fold = c.is; edits = c.edits }

-- the fold, and the kinds of the operands
record FoldKinds (m n : Module) (x : ℕ) (q : Ruled FoldToConstant m n x) (w : Folds m n x q) : Type 0 where
  pub folds : Folded (head q.here).name (head q.here).properties (map (known m.tree) (head q.here).operands) (head q.here).results w.value
  pub value_types : OfRule m.tree (head q.here) folds.how
  pub same : value_types.kind ≡ w.value.0
  pub of : kind_of w.ty ≡ Some w.value.0
  pub fold : fold_of (head q.here).name (head q.here).properties (map (known m.tree) (head q.here).operands) (w.ty ∷ []) ≡ Some w.value

fold_kinds : (m n : Module) (x : ℕ) (q : Ruled FoldToConstant m n x) (w : Folds m n x q) → IsReady m → FoldKinds m n x q w
fold_kinds m n x q w ready =
    let h = head q.here in
    let f = folded h.name h.properties (map (known m.tree) h.operands) h.results w.value w.fold in
    let first : (tys : List TypeTerm) → tys ≡ f.ty ∷ [] → given (slice_get tys 0) kind_of ≡ kind_of f.ty = (λ tys e. ap (λ tys. given (slice_get tys 0) kind_of) e) in
    let its : given (slice_get h.results 0) kind_of ≡ Some w.value.0 = first h.results f.results_are ∙ f.of in
    let k = known_kinds m.tree h (each_found (λ h. is_kinded m.tree h ≡ true) x m.tree ready.kinded q.here q.found).0 f.how f.by w.value.0 its in
    record {
      folds = f;
      value_types = k;
      same = same_Some _ _ (sym k.is ∙ its);
      of = sym (ap (λ tys. given (slice_get tys 0) kind_of) w.results) ∙ its;
      fold = ap (fold_of h.name h.properties (map (known m.tree) h.operands)) (sym w.results) ∙ w.fold;
    }

module _ (accepted : AreAccepted) where
  folds_number : (m n : Module) (x : ℕ) (q : Ruled FoldToConstant m n x) (w : Folds m n x q) → FoldKinds m n x q w → IsReady m → GivesNumber FoldToConstant m n x q
  folds_number m n x q w k ready =
      let h = head q.here in
      let ys = map (known m.tree) h.operands in
      let stand = (each_found (λ h. list_all (λ v. has_value v m.tree) h.operands ≡ true) x m.tree (operands_stand is_isolated m.tree ready.wellformed.distinct ready.wellformed.wellformed.visible) q.here q.found).0 in
      let width = subst (λ k. is_width (width_of k) ≡ true) k.same k.value_types.width in
      record {
        ty = w.ty;
        bits = w.value.1;
        kind = w.value.0;
        of = k.of;
        fits =
            fold_fits h w.ty w.value.0 w.value.1 w.results k.folds.how (map (kind_in m.tree) h.operands) ys (subst (λ j. takes k.folds.how h j (map (kind_in m.tree) h.operands) ≡ true) k.same k.value_types.operands) width
            (known_bits m ready.kinded h.operands stand) k.fold k.folds.value;
        width = width;
        edits = w.edits;
      }

  pub fold_to_constant_ready : KeepsReady FoldToConstant
  fold_to_constant_ready m n x ready e =
      let q = ruled accepted FoldToConstant m n x ready.wellformed ready.sorted e in
      let w = folds_here m n x q in
      number_ready FoldToConstant m n x q (folds_number m n x q w (fold_kinds m n x q w ready) ready) ready

  -- the fold refines the outcome
  module _ (m n : Module) (x : ℕ) (q : Ruled FoldToConstant m n x) (w : Folds m n x q) (k : FoldKinds m n x q w) (ready : IsReady m) (a : Assignment) (done : ℕ → Bool) (computing : Computing a done m.tree) where
    site : Site m a done x q.here
    site = site_of m a done x q.here ready.wellformed ready.kinded computing q.found (root_has q ready.wellformed ready.kinded refl)

    operand_bits : (vs : List Value) → list_all (λ v. has_value v m.tree) vs ≡ true → AllHaveBits (map a vs)
    operand_bits [] e = tt
    operand_bits (v ∷ vs) e =
        let h = and_parts (has_value v m.tree) (list_all (λ v. has_value v m.tree) vs) e in
        (value_bits m a done x q.here site v h.0, operand_bits vs h.1)

    fold_better : done x ≡ true → refines (a (Result x 0)) (Some w.value) ≡ true
    fold_better d =
        let h = head q.here in
        let s = site_of m a done x q.here ready.wellformed ready.kinded computing q.found (root_has q ready.wellformed ready.kinded refl) in
        gives_refined m a done x q.here s k.folds.how (Some w.value) k.folds.by k.value_types d
        (λ z i.
        fold_kept h w.ty w.value.0 w.value.1 k.of w.results k.folds.how (map (kind_in m.tree) h.operands) (map (known m.tree) h.operands) (map a h.operands) z k.folds.by
        (subst (λ j. takes k.folds.how h j (map (kind_in m.tree) h.operands) ≡ true) k.same k.value_types.operands) (operands_are m.tree a s.types h.operands) (operand_bits h.operands s.values)
        (known_say m a done ready computing h.operands s.values (s.fed d)) k.fold k.folds.value (subst (λ j. makes_by k.folds.how h j (map a h.operands) ≡ Some z) k.same i))

  pub fold_to_constant_computing : KeepsComputing FoldToConstant
  unfolding folds_number
  fold_to_constant_computing m n x a done ready computing e =
      let q = ruled accepted FoldToConstant m n x ready.wellformed ready.sorted e in
      let w = folds_here m n x q in
      let k = fold_kinds m n x q w ready in
      number_improves FoldToConstant m n x q (folds_number m n x q w k ready) a done (fold_better m n x q w k ready a done computing) ready refl (fold_to_constant_ready m n x ready e).kinded computing
