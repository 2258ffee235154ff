use Rattle.std.proofs.Common.{◌≡◌, ◌-◌, ℕ, List, length, take, drop, sym, subst}
use Rattle.ir_text_tokens.specs.Strings.{string_bytes}
use Rattle.ir_text_tokens.proofs.Quoted.{word_string}
use Rattle.ir_text_tokens.proofs.lexer.plain_string.Goals as goal

pub returns-clause-content : goal.returns-clause-content
returns-clause-content c =
    let tail : List ℕ = take (length c.skip.result.now - 1) (drop 1 c.skip.result.now) in
    subst (λ (n : ℕ). string_bytes (take n tail) ≡ take n tail) (sym c.in_ok-len.ensures.len) (word_string tail)
