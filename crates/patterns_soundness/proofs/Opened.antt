-- Branches and loops with a known condition: a block is inserted before the operation around it, or erased with it.
use Rattle.std.proofs.Common.{◌≡◌, refl, ap, sym, ◌∙◌, subst, ℕ, ◌≤◌, Bool, true, false, List, [], ◌∷◌, length, map, Some, option_map, option_and_then, if◌then◌else◌, arith}
use Rattle.std.specs.Prelude.{codes, eqb}
use Rattle.std.proofs.lemmas.Slice.Eq.{bytes_eq-Decides}
use Rattle.ir_event.specs.types.Words.{is_isolated, is_table}
use Rattle.ir_event.specs.types.Terms.{TypeTerm, AttrTerm}
use Rattle.ir_event.specs.trees.declared.value.Value.{Value}
use Rattle.ir_event.specs.trees.declared.place.Place.{Place}
use Rattle.ir_event.specs.trees.Tree.{RegionOf, empty, block, OpsOf, no_ops, head, regions}
use Rattle.ir_event.specs.trees.Ids.{find}
use Rattle.ir_event.specs.trees.Meaning.{Operation}
use Rattle.ir_event.specs.tree_laws.Members.{In}
use Rattle.ir_event.specs.tree_laws.Values.{arguments_of, region_at}
use Rattle.ir_event.specs.tree_laws.Stands.{stands}
use Rattle.ir_event.proofs.of_tree_laws.Members.{found_stands, stand, stand_found}
use Rattle.ir_event.proofs.of_tree_laws.Readings.{step}
use Rattle.listeners_support.proofs.Points.{stands_in}
use Rattle.ir_event.specs.Modules.{Module}
use Rattle.rewriter_machine.specs.Contents.{Edit}
use Rattle.rewriter_machine.specs.Edits.{Erase}
use Rattle.patterns_base.specs.Lists.{Free}
use Rattle.patterns_base.proofs.Headed.{found_there}
use Rattle.patterns_base.proofs.Plans as plans
use Rattle.patterns_soundness.specs.base.Keeps.{given}
use Rattle.patterns_soundness.specs.base.Words.{named}
use Rattle.patterns_soundness.specs.base.Looks.{Ended, Header, body, known}
use Rattle.patterns_soundness.specs.base.Makes.{give_body, replaced}
use Rattle.patterns_soundness.specs.base.Opening.{by_condition, chosen, opened, open_branch}
use Rattle.patterns_soundness.specs.Yields.{IsVerifiedOf}
use Rattle.patterns_soundness.proofs.Ends.{ending}
use Rattle.patterns_soundness.proofs.Yielding.{choice_types}
use Rattle.patterns_soundness.proofs.VerifiedBlocks.{block_is, if_arguments, if_opened, if_plain, no_arguments, none_given}
use Rattle.patterns_soundness.proofs.Emptied.{HaveTypes, body_free, has_first, have_types}
use Rattle.patterns_soundness.proofs.Points.{Point, here_is, stands_there}
use Rattle.patterns_laws.proofs.KnownFolds.{given_some}
use Rattle.std.proofs.lemmas.Option.{same_Some}
use Rattle.patterns_soundness.proofs.of_base.Facts.{when_some}

pub left_alone : (vs : List Value) → map (replaced [] []) vs ≡ vs
left_alone [] = refl
left_alone (v ∷ vs) = ap (λ l. v ∷ l) (left_alone vs)

module _ (m : Module) (o : Operation) (insertion : Place) (s : Point m o insertion) where
  abbrev x : ℕ
  x = (head o).id

  abbrev t : Operation
  t = m.tree

  -- the last operation of a block is in the module
  pub last_there : (r : ℕ) (e : Ended) → body m.tree o r ≡ Some e → option_map head (find e.last.id m.tree) ≡ Some e.last
  last_there r e k =
      let n = ending t o r e k in
      let w = found_stands x t o s.found in
      let here : In (stand o w.0.path) (stands [] t) = subst (λ (z : Operation). In (stand z w.0.path) (stands [] t)) w.3 w.1 in
      let it = stand n.last (step o r n.args n.preceding no_ops ∷ w.0.path) in
      ap (λ (h : Header). option_map head (find h.id t)) n.is
      ∙ ap (option_map head) (stand_found t s.wellformed.distinct it (stands_in t o w.0.path r n.args n.preceding n.last no_ops here n.block))
      ∙ ap Some (sym n.is)

  module _ (name : named (codes "scf.if") (head o).name ≡ true) where
    name_is : (head o).name ≡ codes "scf.if"
    name_is = (bytes_eq-Decides (head o).name (codes "scf.if")).0 name

    verified_if : IsVerifiedOf m.tree o (head o).id (codes "scf.if")
    verified_if = record { distinct = s.wellformed.distinct; found = s.found; verified = s.verified; name = name }

    -- its block is inserted before it
    comes : (r : ℕ) → r ≤ 1 → (args : List TypeTerm) (os : OpsOf (List ℕ) TypeTerm AttrTerm) → region_at r (regions o) ≡ Some (block args os) → (e : Ended) → body m.tree o r ≡ Some e → Free (give_body insertion (head o).id e.before e.last.operands) m
    comes r small args os is e k =
        let n = ending t o r e k in
        let none : args ≡ [] = if_arguments m o insertion s name_is r small args (block_is o r (block args os) is) in
        let h = has_first m o insertion s r e n (ap is_isolated name_is ∙ if_opened) (ap is_table name_is ∙ if_plain) (no_arguments m o insertion s r (ap (option_and_then arguments_of) is ∙ ap Some none)) in
        let here : (head o).results ≡ (head h.located.at.here).results = ap (λ (z : Operation). (head z).results) (same_Some o h.located.at.here (sym s.found ∙ found_there is_isolated x insertion m h.located)) in
        body_free x r insertion e.before e.last.id m h e.last (last_there r e k) e.last.operands (λ v i. i)
        (subst (λ tys. HaveTypes e.last.operands tys m) here (have_types e.last.operands (head o).results m (choice_types t o x r e small verified_if k)))

    -- a region without a block
    goes : (r : ℕ) → r ≤ 1 → region_at r (regions o) ≡ Some empty → Free (Erase (head o).id ∷ []) m
    goes r small is =
        let none : (head o).results ≡ [] = none_given m o insertion s name_is r small (block_is o r empty is) in
        (plans.erase_free x insertion m (stands_there m o insertion s) (λ k l. let n = ap (λ z. length (head z).results) (here_is m o insertion s) ∙ ap length none in absurd (omega (arith, l, n))), tt)

    by_region : (es : List Edit) (r : ℕ) → r ≤ 1 → (g : RegionOf (List ℕ) TypeTerm AttrTerm) → region_at r (regions o) ≡ Some g → chosen m.tree insertion o g r ≡ Some es → Free es m
    by_region es r small empty is e = subst (λ z. Free z m) (same_Some (Erase x ∷ []) es e) (goes r small is)
    by_region es r small (block args os) is e =
        let b = given_some (body t o r) (λ e. Some (opened t insertion o e [] e.last.operands)) es e in
        subst (λ z. Free z m) (same_Some (opened t insertion o b.0 [] b.0.last.operands) es b.2) (subst (λ vs. Free (give_body insertion x b.0.before vs) m) (sym (left_alone b.0.last.operands)) (comes r small args os is b.0 b.1))

    by_operands : (es : List Edit) (vs : List Value) → by_condition m.tree insertion o vs ≡ Some es → Free es m
    by_operands es [] e = absurd cc
    by_operands es (c ∷ []) e =
        let k = given_some (known t c) _ es e in
        by_bit (eqb k.0.1 0) k.2
      where
        by_bit : (b : Bool) → given (region_at (if b then 1 else 0) (regions o)) (λ g. chosen m.tree insertion o g (if b then 1 else 0)) ≡ Some es → Free es m
        by_bit true e = (let g = given_some (region_at 1 (regions o)) (λ g. chosen t insertion o g 1) es e in by_region es 1 (omega arith) g.0 g.1 g.2)
        by_bit false e = (let g = given_some (region_at 0 (regions o)) (λ g. chosen t insertion o g 0) es e in by_region es 0 (omega arith) g.0 g.1 g.2)
    by_operands es (c ∷ d ∷ vs) e = absurd cc

  pub free_open_branch : (es : List Edit) → open_branch m.tree insertion o ≡ Some es → Free es m
  free_open_branch es e = (let w = when_some (named (codes "scf.if") (head o).name) _ es e in by_operands w.0 es (head o).operands w.1)
