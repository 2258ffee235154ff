-- What the code holds of a token.
use Rattle.user_patterns_text.specs.Heads.{Head, of_value, of_operation, of_word, of_digits, of_minus, of_other}
use Rattle.user_patterns_text.specs.declared.heads.TokenKind.{TokenKind as HeadCode}
use Rattle.user_patterns_text.specs.declared.heads.TokenKind.TheVariants as head

abbrev pub head_view : HeadCode → Head
head_view (head.Value name) = of_value name.now
head_view (head.Operation word) = of_operation word.now
head_view (head.Word word) = of_word word.now
head_view (head.Digits digits) = of_digits digits.now
head_view head.Minus = of_minus
head_view head.Other = of_other
