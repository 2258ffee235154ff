-- The defining operations of an operation's operands, as the store shows the operation.
use Rattle.std.proofs.Common.{◌≡◌, refl, ap, sym, ◌∙◌, ℕ, ◌≤◌, List, length, Option, Some, None, option_map, arith}
use Rattle.ir_event.specs.types.Things.{ContextModel}
use Rattle.ir_event.specs.types.Terms.{name_term, type_term, attr_term}
use Rattle.ir_event.specs.trees.Tree.{Op, op, no_regions, region, head, regions}
use Rattle.ir_event.specs.trees.Ids.{find}
use Rattle.ir_event.specs.trees.Meaning.{Operation, meaning}
use Rattle.ir_event.proofs.of_trees.Mapped.{map_find}
use Rattle.ir_event.specs.store.Nodes.{Node, node_of}
use Rattle.conversion_base.proofs.Shown.{found}
use Rattle.conversion.specs.DefiningOps.{defining_ops_of}
use Rattle.conversion.specs.Walks.{Gives}

module _ (c : ContextModel) (t : Op) (x : ℕ) where
  there : find x (meaning c t) ≡ option_map (meaning c) (find x t)
  there = map_find (name_term c) (type_term c) (attr_term c) x t

  pub gives_none : (gs : List ℕ) → None ≡ option_map node_of (find x t) → Gives gs x (meaning c t)
  gives_none gs e o f = go (find x t) refl
    where
      go : (a : Option Op) → find x t ≡ a → (regions o ≡ no_regions) × (gs ≡ defining_ops_of (head o).operands)
      go None i = (let no : None ≡ Some o = sym (there ∙ ap (option_map (meaning c)) i) ∙ f in absurd cc)
      go (Some p) i = (let no : None ≡ Some (node_of p) = e ∙ ap (option_map node_of) i in absurd cc)

  bare : (p : Op) → length (node_of p).arguments ≤ 0 → regions (meaning c p) ≡ no_regions
  bare (op h no_regions) l = refl
  bare (op h (region g rs)) l = absurd (omega (arith, l))

  operands : (p : Op) → (head (meaning c p)).operands ≡ (node_of p).head.operands
  operands (op h rs) = refl

  pub gives_shown : (n : Node) → Some n ≡ option_map node_of (find x t) → length n.arguments ≤ 0 → (gs : List ℕ) → gs ≡ defining_ops_of n.head.operands → Gives gs x (meaning c t)
  gives_shown n e l gs is o f =
      let w = found x t n e in
      let two : Some (meaning c w.here) ≡ Some o = sym (there ∙ ap (option_map (meaning c)) w.is) ∙ f in
      let same : meaning c w.here ≡ o = cc in
      let few : length (node_of w.here).arguments ≤ 0 = (let k = ap (λ (z : Node). length z.arguments) w.same in omega (arith, l, k)) in (
        ap (λ (z : Operation). regions z) (sym same) ∙ bare w.here few,
        is ∙ ap (λ (z : Node). defining_ops_of z.head.operands) w.same ∙ ap defining_ops_of (sym (operands w.here)) ∙ ap (λ (z : Operation). defining_ops_of (head z).operands) same,
      )
