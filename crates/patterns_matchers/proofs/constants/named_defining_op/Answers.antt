use Rattle.std.proofs.Common.{◌∙◌, ap}
use Rattle.std.specs.Str.{bytes_eq}
use Rattle.ir_event.specs.types.Terms.{name_term}
use Rattle.ir_event.specs.types.WordNames.{word_bytes}
use Rattle.patterns_base.specs.events.Modules.{module_in}
use Rattle.patterns_matchers.specs.Reads.{header_of_node}
use Rattle.patterns_matchers.proofs.Cleaned.{word_not, word_is}
use Rattle.patterns_matchers.proofs.constants.named_defining_op.Goals as goal

pub returns-then-not-is_word-clause-node : goal.returns-then-not-is_word-clause-node
returns-then-not-is_word-clause-node c =
    word_not (module_in c.args.world.now).tree c.args.value.now (word_bytes c.args.word) (header_of_node c.args.world.now.ctx c.in-Some.defining) c.is_word.result c.in-Some.ensures.node
    (c.is_word.ensures ∙ ap (λ n. bytes_eq (name_term c.args.world.now.ctx n) (word_bytes c.args.word)) c.name.ensures) c.if-not-is_word.true

pub returns-clause-node : goal.returns-clause-node
returns-clause-node c =
    word_is (module_in c.args.world.now).tree c.args.value.now (word_bytes c.args.word) (header_of_node c.args.world.now.ctx c.in-Some.defining) c.is_word.result _ c.in-Some.ensures.node
    (c.is_word.ensures ∙ ap (λ n. bytes_eq (name_term c.args.world.now.ctx n) (word_bytes c.args.word)) c.name.ensures) c.if-not-is_word.false c.in_ok-node.ensures.node
