use Rattle.std.proofs.Common.{◌≡◌, ◌∙◌, sym, ap, refl, Some, None, false, codes}
use Rattle.std.specs.Str.{bytes_eq}
use Rattle.ir_event.specs.types.Terms.{name_term}
use Rattle.patterns_base.specs.events.Modules.{module_in}
use Rattle.patterns_base.specs.Looks.{defining_op, is_constant, is_of_constant}
use Rattle.patterns_matchers.specs.Reads.{header_of_node}
use Rattle.patterns_matchers.proofs.Cleaned.{constant_is, known_not, known_some, known_none, source_no, source_yes}
use Rattle.patterns_matchers.proofs.Plainly.{known_plainly}
use Rattle.patterns_matchers.proofs.constants.constant_value.Goals as goal

pub returns-in-Arg : goal.returns-in-Arg
returns-in-Arg c =
    let t = (module_in c.args.world.now).tree in
    known_not t c.args.value.now false (sym (ap (is_constant t) c.in-Arg.is)) refl

pub returns-in_default : goal.returns-in_default
returns-in_default c =
    let t = (module_in c.args.world.now).tree in
    known_not t c.args.value.now false (ap is_of_constant c.in_default.ensures.node ∙ sym (ap (is_constant t) c.in-Result.is)) refl

pub returns-in-Some-constant_bits_of_node : goal.returns-in-Some-constant_bits_of_node
returns-in-Some-constant_bits_of_node c =
    let w = c.args.world.now in
    known_plainly w.ctx w.store.module_of.tree c.args.value.now c.in-Result.op _ c.in-Some.node _ _ c.in-Result.is c.in-Some.ensures.stored c.in-Some.ensures.node c.in-Some-constant_bits_of_node.ensures

pub returns-then-not-is_word : goal.returns-then-not-is_word
returns-then-not-is_word c =
    let t = (module_in c.args.world.now).tree in
    let k = c.args.world.now.ctx in
    let h = header_of_node k c.in-Some.node in
    known_not t c.args.value.now c.is_word.result
    (constant_is t c.args.value.now c.in-Result.op _ h c.is_word.result c.in-Result.is c.in-Some.ensures.node
    (c.is_word.ensures ∙ ap (λ n. bytes_eq (name_term k n) (codes "arith.constant")) c.name.ensures)) c.if-not-is_word.true

pub returns-then-not-branch : goal.returns-then-not-branch
returns-then-not-branch c =
    let t = (module_in c.args.world.now).tree in
    let k = c.args.world.now.ctx in
    let h = header_of_node k c.in-Some.node in
    known_none t c.args.value.now c.is_word.result None
    (constant_is t c.args.value.now c.in-Result.op _ h c.is_word.result c.in-Result.is c.in-Some.ensures.node
    (c.is_word.ensures ∙ ap (λ n. bytes_eq (name_term k n) (codes "arith.constant")) c.name.ensures)) c.if-not-is_word.false
    (source_no t c.args.value.now c.in-Result.op _ h _ c.in-Result.is c.in-Some.ensures.node c.in_ok-is_verified_node.ensures c.if-not-branch.true) refl

pub returns : goal.returns
returns c =
    let t = (module_in c.args.world.now).tree in
    let k = c.args.world.now.ctx in
    let h = header_of_node k c.in-Some.node in
    known_some t c.args.value.now c.is_word.result (Some h) h _
    (constant_is t c.args.value.now c.in-Result.op _ h c.is_word.result c.in-Result.is c.in-Some.ensures.node
    (c.is_word.ensures ∙ ap (λ n. bytes_eq (name_term k n) (codes "arith.constant")) c.name.ensures)) c.if-not-is_word.false
    (source_yes t c.args.value.now c.in-Result.op _ h _ c.in-Result.is c.in-Some.ensures.node c.in_ok-is_verified_node.ensures c.if-not-branch.false) refl c.constant_bits.ensures
