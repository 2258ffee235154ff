-- A rule that replaces an operation's result keeps a module ready.
use Rattle.std.proofs.Common.{◌≡◌, ℕ, ◌+◌, ◌<◌, refl, ap, sym, ◌∙◌, subst, List, [], ◌∷◌, ◌++◌, map, true, true≢false, Option, Some, None}
use Rattle.std.specs.Prelude.{is_some}
use Rattle.std.specs.Option.{option_eq}
use Rattle.ir_types.specs.declared.bits.BitsKind.{BitsKind}
use Rattle.ir_types.specs.Terms.{TypeTerm}
use Rattle.ir_types.specs.SameTypes.{same_type}
use Rattle.ir_types.specs.Words.{is_isolated}
use Rattle.ir_types.proofs.SameTerms.{type_is}
use Rattle.ir_tree.specs.declared.value.Value.{Value}
use Rattle.ir_tree.specs.declared.value.Value.TheVariants.{Result}
use Rattle.ir_tree.specs.declared.place.Place.{Place}
use Rattle.ir_tree.specs.Tree.{head}
use Rattle.ir_tree.specs.WellFormed.{IsWellFormed}
use Rattle.ir_tree.specs.Meaning.{Operation}
use Rattle.ir_tree_laws.specs.Reasons.{with_id}
use Rattle.ir_tree_laws.specs.Values.{has_value, type_of_value}
use Rattle.ir_tree.specs.Places.{put}
use Rattle.ir_event.specs.Modules.{Module}
use Rattle.dialects_int.specs.Folds.{kind_of}
use Rattle.rewriter_machine.specs.Contents.{Edit, all_edited, edit_reason}
use Rattle.rewriter_machine.specs.Edits.{Make, Replace}
use Rattle.user_patterns_check.specs.Outcomes.{given}
use Rattle.patterns_base.specs.Lists.{Free}
use Rattle.patterns_base.specs.Makes.{give}
use Rattle.patterns_base.specs.declared.rule.Rule.{Rule}
use Rattle.patterns_base.specs.Rules.{rule}
use Rattle.patterns_soundness.specs.Accepted.{AreAccepted}
use Rattle.patterns_refinement.specs.Meaning.{Each, owner}
use Rattle.patterns_refinement.specs.After.{OperandsStand, rewritten, with_made}
use Rattle.patterns_refinement.specs.Better.{AreKinded, kind_in}
use Rattle.patterns_refinement.specs.Keeping.{IsReady, KeepsComputing, KeepsReady}
use Rattle.patterns_refinement.proofs.Applying.{all_edited_made}
use Rattle.patterns_refinement.proofs.Dropping.{Keeps}
use Rattle.patterns_refinement.proofs.EditsForm.{all_wellformed, made_plain, replaced_parts}
use Rattle.patterns_refinement.proofs.Wellformed.{is_below, operands_stand}
use Rattle.patterns_refinement.proofs.Readied.{AreKinds, NewKinds, Rises, after_kinded, after_kinds, all_rise, each_rises, kinds_found, made_kinds}
use Rattle.patterns_refinement.proofs.Rewritten.{AllBare, AllPut, all_put, given_each}
use Rattle.patterns_refinement.proofs.Ruled.{Ruled, ruled}

-- ---- the value has the type of the result that it replaces
before_replaced : (insertion : Place) (os : List Operation) (x next : ℕ) (v : Value) (m : Module) → Free (map (λ o. Make insertion o) os ++ give x v) m → edit_reason (Replace (Result x 0) v) (record { tree = with_made insertion m.next os m.tree; next = next }) ≡ None
before_replaced insertion [] x next v m f = f.0
before_replaced insertion (o ∷ os) x next v m f = before_replaced insertion os x next v (record { tree = put insertion (with_id m.next o) m.tree; next = m.next + 1 }) f.1

pub same_types : (a b : Option TypeTerm) → is_some a ≡ true → is_some b ≡ true → option_eq same_type a b ≡ true → a ≡ b
same_types None b e f g = absurd (true≢false (sym e))
same_types (Some a) None e f g = absurd (true≢false (sym f))
same_types (Some a) (Some b) e f g = ap (λ z. Some z) (type_is a b g)

module _ (m n : Module) (x : ℕ) (insertion : Place) (made : List Operation) (v : Value) (ready : IsReady m) (free : Free (map (λ o. Make insertion o) made ++ give x v) m) (e : all_edited (map (λ o. Make insertion o) made ++ give x v) m ≡ n)
    (value_types : Value → Option BitsKind) (agree : (w : Value) → owner w < m.next → value_types w ≡ kind_in m.tree w) (bare : AllBare made) (news : NewKinds value_types m.next made) (risen : AllPut Rises m.next made) where
  same_kind : value_types v ≡ value_types (Result x 0)
  same_kind =
      let u = with_made insertion m.next made m.tree in
      let p = replaced_parts (Result x 0) v (record { tree = u; next = 0 }) (before_replaced insertion made x 0 v m free) in
      let k = made_kinds value_types m.next x v made m.tree insertion ready.wellformed.distinct (is_below m.next m.tree ready.wellformed.below) agree bare news in
      sym (kinds_found value_types u k v p.1) ∙ ap (λ o. given o kind_of) (sym (same_types (type_of_value (Result x 0) u) (type_of_value v u) p.0 p.1 p.2)) ∙ kinds_found value_types u k (Result x 0) p.0

  pub stays_ready : IsReady n
  stays_ready =
      let is : n.tree ≡ rewritten insertion m.next made x v m.tree = ap (λ (m : Module). m.tree) (sym e) ∙ all_edited_made insertion made x v m in
      let wellformed = subst (IsWellFormed is_isolated) e (all_wellformed _ m (made_plain insertion made _ bare (tt, (tt, tt))) ready.wellformed free) in
      record {
        wellformed = wellformed;
        sorted =
            all_rise n.tree wellformed.distinct
            (subst (λ t. Each Rises t) (sym is) (given_each (λ w. None) (λ w. None) m.next x v (λ y. true) Rises (λ h p. p) (with_made insertion m.next made m.tree) (all_put Rises insertion m.next made m.tree risen bare (each_rises m.tree ready.sorted))));
        kinded =
            subst AreKinded (sym is)
            (after_kinded value_types m.next x v made m.tree insertion ready.wellformed.distinct (is_below m.next m.tree ready.wellformed.below) agree bare news (λ w. None) (λ y. true) same_kind ready.kinded
            (operands_stand is_isolated m.tree ready.wellformed.distinct ready.wellformed.wellformed.visible)
            (subst OperandsStand is (operands_stand is_isolated n.tree wellformed.distinct wellformed.wellformed.visible)));
      }

  -- the kinds of the module's values
  pub stays_kinds : (w : Value) → has_value w n.tree ≡ true → kind_in n.tree w ≡ value_types w
  stays_kinds w h =
      let is : n.tree ≡ rewritten insertion m.next made x v m.tree = ap (λ (m : Module). m.tree) (sym e) ∙ all_edited_made insertion made x v m in
      kinds_found value_types n.tree
      (subst (AreKinds value_types) (sym is) (after_kinds value_types m.next x v made m.tree insertion ready.wellformed.distinct (is_below m.next m.tree ready.wellformed.below) agree bare news (λ w. None) (λ y. true) same_kind)) w h

-- ---- rules that use an existing value
pub given_ready : (r : Rule) (m n : Module) (x : ℕ) (q : Ruled r m n x) (v : Value) → give (head q.here).id v ≡ q.edits → IsReady m → IsReady n
given_ready r m n x q v e ready =
    let these : q.edits ≡ give x v = sym e ∙ ap (λ y. give y v) q.id in
    stays_ready m n x q.insertion [] v ready (subst (λ es. Free es m) these q.free) (subst (λ es. all_edited es m ≡ n) these q.module_is) (kind_in m.tree) (λ w l. refl) tt (record { results = tt; take = tt }) tt

abbrev pub GivesOld : Rule → Type 0
GivesOld r = (t : Operation) (n : ℕ) (insertion : Place) (o : Operation) (es : List Edit) → rule r t n insertion o ≡ Some es → (v : Value) × (give (head o).id v ≡ es)

pub old_ready : AreAccepted → (r : Rule) → GivesOld r → KeepsReady r
old_ready accepted r gives m n x ready e =
    let q = ruled accepted r m n x ready.wellformed ready.sorted e in
    let g = gives m.tree m.next q.insertion q.here q.edits q.made in
    given_ready r m n x q g.0 g.1 ready

pub keeps_computing : (r : Rule) → KeepsReady r → Keeps r → KeepsComputing r
keeps_computing r stays keeps m n x a done ready computing e = keeps m n x a done ready.wellformed ready.sorted ready.kinded (stays m n x ready e).kinded computing e
