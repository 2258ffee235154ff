use Rattle.std.proofs.Common.{rules, ◌≡◌, ◌∙◌, sym, ap, Some, None}
use Rattle.std.specs.Option.{option_map}
use Rattle.ir_text_tokens.specs.Tokens.{lexeme_of}
use Rattle.mlir_work_script_base.specs.Keys.{raw_in}
use Rattle.mlir_work_script_base.proofs.Quotes.{parts_are}
use Rattle.mlir_work_script_base.proofs.keys.string_in.Goals as goal

pub returns-in_err-raw : goal.returns-in_err-raw
returns-in_err-raw c =
    let none : raw_in (lexeme_of c.in-Ok.token) ≡ None = search rules in
    let parts = parts_are _ _ _ _ c.requires c.in-Ok.ensures.token ∙ ap (option_map (λ raw. (raw, c.in-Ok.rest.now))) none in
    rw parts (search rules)

pub returns : goal.returns
returns c =
    let known : raw_in (lexeme_of c.in-Ok.token) ≡ Some c.in_ok-raw.raw.now = search rules in
    sym (parts_are _ _ _ _ c.requires c.in-Ok.ensures.token ∙ ap (option_map (λ raw. (raw, c.in-Ok.rest.now))) known)
