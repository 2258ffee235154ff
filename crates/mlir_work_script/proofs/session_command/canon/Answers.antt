-- The text after `canon only` is parsed like the text after `rewrite`.
use Rattle.std.proofs.Common.{◌≡◌, ◌∙◌, ap, sym, refl, true, ℕ, List}
use Rattle.std.specs.Prelude.{codes}
use Rattle.std.specs.Str.{bytes_eq}
use Rattle.mlir_work_script.specs.SessionCommands.{canon_command_in, rewrite_in}
use Rattle.mlir_work_script_base.specs.Words.{after_word, word_of}
use Rattle.mlir_work_script.proofs.session_command.canon.Goals as goal

only_said : (rest : List ℕ) → bytes_eq (word_of rest) (codes "only") ≡ true → rewrite_in (after_word rest) ≡ canon_command_in rest
only_said rest is = rw is refl

pub returns-then-eq : goal.returns-then-eq
returns-then-eq c =
    let word : bytes_eq (word_of c.args.rest.now) (codes "only") ≡ true = sym (c.eq.ensures ∙ ap (λ w. bytes_eq w c.as_slice.result.now) c.split_word.ensures.word ∙ ap (bytes_eq (word_of c.args.rest.now)) c.as_slice.ensures) ∙ c.if-eq.true in
    c.rewrite.ensures ∙ ap rewrite_in c.split_word.ensures.rest ∙ only_said c.args.rest.now word
