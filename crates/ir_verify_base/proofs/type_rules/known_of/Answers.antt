use Rattle.std.proofs.Common.{◌≡◌, ◌∙◌, sym, ap, subst, Some, map, drop, length, ℕ, List}
use Rattle.std.proofs.lemmas.List.{drop-map}
use Rattle.std.specs.List.{All}
use Rattle.std.proofs.lemmas.List.Elements.{All-drop}
use Rattle.ir_types.specs.Things.{ContextModel, IsType}
use Rattle.ir_types.specs.Terms.{type_term}
use Rattle.op_registry.specs.Registry.{row_from}
use Rattle.op_registry.specs.declared.definition.TypeRule.TheVariants as type
use Rattle.ir_verify_base.specs.Fits.{first_called}
use Rattle.ir_verify_base.specs.Numbers.{typed}
use Rattle.ir_verify_base.proofs.type_rules.known_of.Goals as goal

dropped : (c : ContextModel) (n : ℕ) (xs : List ℕ) → typed c (drop n xs) ≡ drop n (typed c xs)
dropped c n xs = ap (map Some) (sym (drop-map (type_term c) n xs)) ∙ sym (drop-map Some n (map (type_term c) xs))

pub returns : goal.returns
unfolding row_from
returns c =
    let ctx = c.args.ctx.now in
    let rules = c.args.def.now.operands.first.now in
    let types = c.args.around.now.types.items in
    let e : c.deref-types.result.now ≡ types = c.deref-types.ensures.value in
    let all : All (λ t. IsType ctx t) c.deref-types.result.now = subst (All (λ t. IsType ctx t)) (sym e) c.requires.types in
    record {
      are = (λ i. record {
        number = (c.first_called.ensures.is ctx ∙ ap (λ ts. first_called type.Number rules (typed ctx ts)) e) i;
        same = (c.first_called-2.ensures.is ctx ∙ ap (λ ts. first_called type.Any rules (typed ctx ts)) e) i;
        initial = (ap (typed ctx) (c.after.ensures ∙ ap (drop (length rules)) e) ∙ dropped ctx (length rules) types) i;
        results = ap (typed ctx) c.results.ensures i;
        inputs = c.inputs_of.ensures.inputs i;
      });
      numbers = record {
        number = c.first_called.ensures.known ctx all;
        same = c.first_called-2.ensures.known ctx all;
        initial = subst (All (λ t. IsType ctx t)) (sym c.after.ensures) (All-drop (λ t. IsType ctx t) (length rules) c.deref-types.result.now all);
        results = subst (All (λ t. IsType ctx t)) (sym c.results.ensures) c.requires.node.results;
        inputs = c.inputs_of.ensures.known;
      };
    }
