use Rattle.std.proofs.Common.{◌≡◌, ◌<◌, [], ◌∷◌, sym, ◌∙◌, ap, subst, map, option_map, length, arith}
use Rattle.ir_event.specs.types.Terms.{name_term, type_term}
use Rattle.ir_event.specs.tree_laws.Values.{type_of_value}
use Rattle.patterns_base.specs.events.Modules.{module_in}
use Rattle.dialects_int.specs.Folds.{entries_of}
use Rattle.patterns_laws.specs.Words.{among}
use Rattle.patterns_matchers.specs.Pairs.{AreFlags, pairs}
use Rattle.patterns_matchers.proofs.Pairs.{one_in, two_in, of_type}
use Rattle.patterns_matchers.proofs.trivially_verified.has_pair_form.Goals as goal
use Rattle.ir_event.proofs.of_types.Truths.{none_left}

pub returns : goal.returns
returns c second =
    let k = c.args.world.now.ctx in
    let t = (module_in c.args.world.now).tree in
    let n = c.args.node.now in
    let ty = c.ty-item.result in
    let a = c.first-item.result in
    let b = c.second-item.result in
    let results : n.head.results ≡ ty ∷ [] = sym c.results.ensures ∙ one_in c.results.result.now ty _ c.in-len1.len_at_least c.in-len1.len_below c.ty-item.is in
    let few : length n.arguments < 1 = (let count = c.region_count.ensures in let zero = c.if-region_count-ne0.false in omega (arith, count, zero)) in
    record {
      first = a;
      second = b;
      ty = type_term k ty;
      name = ap (λ x. among pairs (name_term k x)) (sym c.name.ensures) ∙ sym c.if-not-is_pair.ensures;
      operands = sym c.operands.ensures ∙ two_in c.operands.result.now a b _ _ c.in-len2.len_at_least c.in-len2.len_below c.first-item.is c.second-item.is;
      results = ap (map (type_term k)) results;
      flags = subst (λ es. AreFlags (entries_of k es)) c.properties.ensures (c.are_flags.ensures c.if-not-are_flags.false);
      arguments = ap (map (option_map (map (type_term k)))) (none_left n.arguments few);
      number = sym c.if-not-is_number.ensures;
      of_first = of_type (type_of_value a t) (type_term k ty) (sym c.if-not-is_of_type.ensures);
      of_second = of_type (type_of_value b t) (type_term k ty) (sym c.is_of_type-2.ensures ∙ second);
    }
