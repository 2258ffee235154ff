use Rattle.std.proofs.Common.{◌≡◌, ℕ, ◌<◌, [], ◌∷◌, sym, ◌∙◌, ap, true, codes, map, option_map, length, eqb-true, arith}
use Rattle.std.proofs.lemmas.Slice.Eq.{bytes_eq-Decides}
use Rattle.ir_event.specs.types.Terms.{name_term, type_term, attr_term, IntegerOf}
use Rattle.ir_verify_base.specs.Numbers.{node_in}
use Rattle.ir_verify_base.specs.Types.{is_number}
use Rattle.patterns_matchers.proofs.Pairs.{one_in, integer_is}
use Rattle.patterns_matchers.proofs.trivially_verified.constant_integer_of_node.Goals as goal
use Rattle.ir_event.proofs.of_types.Truths.{none_left}

pub returns-then-is_number-clause-simple : goal.returns-then-is_number-clause-simple
returns-then-is_number-clause-simple c =
    let k = c.args.ctx.now in
    let n = c.args.node.now in
    let ty = c.ty-item.result in
    let entry = c.entry-item.result in
    let integer = c.in-Some.integer in
    let name : name_term k n.head.name ≡ codes "arith.constant" = ap (name_term k) (sym c.name.ensures) ∙ (bytes_eq-Decides (name_term k c.name.result) (codes "arith.constant")).0 (sym c.if-not-is_word.ensures) in
    let operands : n.head.operands ≡ [] = sym c.operands.ensures ∙ none_left c.operands.result.now c.in-empty.len_below in
    let results : n.head.results ≡ ty ∷ [] = sym c.results.ensures ∙ one_in c.results.result.now ty _ c.in-len1.len_at_least c.in-len1.len_below c.ty-item.is in
    let properties : n.head.properties ≡ entry ∷ [] = sym c.properties.ensures ∙ one_in c.properties.result.now entry _ c.in-len1-properties.len_at_least c.in-len1-properties.len_below c.entry-item.is in
    let key : name_term k entry.0 ≡ codes "value" = (bytes_eq-Decides (name_term k entry.0) (codes "value")).0 (sym c.if-not-is_word-2.ensures) in
    let same : integer.0 ≡ ty = eqb-true integer.0 ty (sym c.if-eq.ensures) in
    let attr : attr_term k entry.1 ≡ IntegerOf (type_term k integer.0) integer.1 = integer_is (attr_term k entry.1) (type_term k integer.0) integer.1 c.in-Some.ensures.integer in
    let few : length n.arguments < 1 = (let count = c.region_count.ensures in let zero = c.if-region_count-ne0.false in omega (arith, count, zero)) in
    let arguments : n.arguments ≡ [] = none_left n.arguments few in (
      ap (λ t. is_number (type_term k t)) same ∙ sym c.if-is_number.ensures,
      λ i. record {
        head = record {
          id = n.head.id;
          name = name i;
          operands = operands i;
          results = (ap (map (type_term k)) results ∙ ap (λ t. type_term k t ∷ []) (sym same)) i;
          properties = (ap (map (λ (e : ℕ × ℕ). (name_term k e.0, attr_term k e.1))) properties ∙ λ j. (key j, attr j) ∷ []) i;
          attributes = (node_in k n).head.attributes;
        };
        arguments = map (option_map (map (type_term k))) (arguments i);
      },
    )
