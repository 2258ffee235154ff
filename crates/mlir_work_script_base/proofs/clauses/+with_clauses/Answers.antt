use Rattle.std.proofs.Common.{◌<◌, ◌∙◌, sym, ap, length, arith}
use Rattle.std.proofs.lemmas.Bool.Decides.{nat_tests}
use Rattle.mlir_work_script_base.specs.Clauses.{clauses_of}
use Rattle.std.specs.Option.{option_map}
use Rattle.mlir_work_script_base.specs.Words.{after_word, word_of}
use Rattle.mlir_work_script_base.proofs.Wording.{clauses_end, clauses_fall, clauses_more, clauses_none}
use Rattle.mlir_work_script_base.proofs.clauses.+with_clauses.Goals as goal

pub returns-then-is_empty : goal.returns-then-is_empty
returns-then-is_empty t c = clauses_end c.args.text.now c.skip_blanks-text.result.now (clauses_of c.args.clauses.now) c.skip_blanks-text.ensures (grind (arith, nat_tests))

pub returns-in_default : goal.returns-in_default
returns-in_default t c =
    let word = c.split_word-2.ensures.word ∙ ap word_of c.split_word.ensures.rest in
    sym (clauses_none c.args.text.now c.skip_blanks-text.result.now _ _ (clauses_of c.args.clauses.now) c.skip_blanks-text.ensures (grind (arith, nat_tests)) c.split_word.ensures.word word (sym c.with_named.ensures ∙ ap (option_map clauses_of) c.in_default.is))

pub with_clauses-requires : goal.with_clauses-requires
with_clauses-requires t c =
    let rest = c.split_word-2.ensures.rest ∙ ap after_word c.split_word.ensures.rest in
    let falls : length c.split_word-2.result.1.now < length c.args.text.now = rw rest (clauses_fall c.args.text.now c.skip_blanks-text.result.now c.skip_blanks-text.ensures (grind (arith, nat_tests))) in
    (omega (arith, c.decreases, falls), tt)

pub returns : goal.returns
returns t c =
    let word = c.split_word-2.ensures.word ∙ ap word_of c.split_word.ensures.rest in
    let rest = c.split_word-2.ensures.rest ∙ ap after_word c.split_word.ensures.rest in
    c.with_clauses.ensures ∙ sym (clauses_more c.args.text.now c.skip_blanks-text.result.now _ _ _ (clauses_of c.args.clauses.now) (clauses_of c.in-Some.more) c.skip_blanks-text.ensures (grind (arith, nat_tests)) c.split_word.ensures.word word rest (sym c.with_named.ensures ∙ ap (option_map clauses_of) c.in-Some.is))
