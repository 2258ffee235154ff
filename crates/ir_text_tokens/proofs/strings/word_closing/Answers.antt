use Rattle.std.proofs.Common.{rules, ◌≡◌, refl, sym, ap, ◌∙◌, subst, ℕ, Some}
use Rattle.std.specs.Prelude.{slice_get}
use Rattle.std.specs.List.{prefix_len}
use Rattle.std.proofs.lemmas.Option.{slice_get_read}
use Rattle.ir_text_tokens.specs.Bytes.{is_word}
use Rattle.ir_text_tokens.specs.Strings.{closing}
use Rattle.ir_text_tokens.proofs.Quoted.{closing_word}
use Rattle.ir_text_tokens.proofs.strings.word_closing.Goals as goal

pub returns-in-Some-eq34-clause-found : goal.returns-in-Some-eq34-clause-found
returns-in-Some-eq34-clause-found c =
    let bytes = c.args.bytes.now in
    let len : c.run_len-len.result ≡ prefix_len is_word bytes = c.run_len-len.ensures.len in
    let at : slice_get bytes c.run_len-len.result ≡ Some c.in-Some-eq34.field-0.now = slice_get_read bytes _ c.run_len-len.result c.in-Some-eq34.field-0.now refl c.in-Some-eq34.ensures.lookup.3.0 c.in-Some-eq34.ensures.lookup.1 in
    let quote : c.in-Some-eq34.field-0.now ≡ 34 = search rules in
    subst (λ (n : ℕ). closing bytes ≡ Some n) (sym len) (closing_word bytes (subst (λ (n : ℕ). slice_get bytes n ≡ Some 34) len (at ∙ ap Some quote)))
