-- Why the text of a pattern is refused at a byte: what is found, what is expected, and what to do.
use Rattle.std.specs.Prelude.{ℕ, List, [], ◌∷◌, ◌++◌, ◌==◌, ◌||◌, ◌&&◌, Bool, true, false, not, if◌then◌else◌, codes, drop, take, length, nat_eq, nat_le, nat_lt, min}
use Rattle.std.specs.List.{ends_with, filter, list_any, starts_with}
use Rattle.std.specs.Str.{bytes_eq}
use Rattle.ir_event.specs.types.declared.refusal.Refusal.{Refusal}
use Rattle.ir_event.specs.types.declared.refusal.Refusal.TheVariants.{BadToken, BadValue, BadWidth, LeftOut, NotUtf8, Redefined, TooDeep, TooMany, TypeMismatch, Unexpected, UnknownValue}
use Rattle.ir_text_tokens.specs.Printing.{string_text}
use Rattle.mlir_work_script_base.specs.Words.{trim}
use Rattle.mlir_work_notes.specs.TextTokens.{found_text, is_word, token_at, token_len}

-- ---- the text around a byte

-- the text before a byte, without spaces at its ends
abbrev pub before_byte : List ℕ → ℕ → List ℕ
before_byte text offset = trim (take (min offset (length text)) text)

-- the text after the token at a byte, without spaces at its ends
abbrev pub after_token : List ℕ → ℕ → List ℕ
after_token text offset = trim (drop (token_len (drop offset text)) (drop offset text))

-- how often a text has a byte
abbrev pub count_of : List ℕ → ℕ → ℕ
count_of text wanted = length (filter (λ b. b == wanted) text)

-- whether a parenthesis is open at the end of a text
abbrev pub is_nested : List ℕ → Bool
is_nested text = nat_lt (count_of text 41) (count_of text 40)

-- whether a text has `=`, which only the arrow has
abbrev pub has_arrow : List ℕ → Bool
has_arrow text = list_any (λ b. b == 61) text

-- whether a text has an opening parenthesis
abbrev pub is_begun : List ℕ → Bool
is_begun text = list_any (λ b. b == 40) text

-- whether an angle bracket is open at the end of a text; the arrow ends with one that closes none
abbrev pub has_open_angle : List ℕ → Bool
has_open_angle text =
    if has_arrow text then nat_le (count_of text 62) (count_of text 60)
    else nat_lt (count_of text 62) (count_of text 60)

-- whether a text has the word `where`
abbrev pub has_where : List ℕ → Bool
has_where [] = false
has_where (b ∷ bs) = starts_with nat_eq (b ∷ bs) (codes "where") || has_where bs

-- whether the last word of a text has a dot, as names of operations do; `dotted` is the answer for the text before
abbrev pub ends_dotted : Bool → List ℕ → Bool
ends_dotted dotted [] = dotted
ends_dotted dotted (b ∷ bs) = ends_dotted (is_word b && (dotted || (b == 46))) bs

-- whether a condition may begin after a text
abbrev pub is_condition_head : List ℕ → Bool
is_condition_head before = has_arrow before && (has_where before && not (is_nested before))

-- ---- what the grammar expects after a text, where another token is found

-- after the name of an operation
abbrev pub after_operation : List ℕ → List ℕ → List ℕ
after_operation before token =
    if bytes_eq token (codes "<") then codes "expected `(`: remove `<..>`, since patterns match no flags"
    else if ends_with nat_eq before (codes "arith.cmpi") then
    codes "expected `<`: write a predicate, as in arith.cmpi<eq>(%a, %b)"
    else codes "expected `(`: write the operands in parentheses, as in arith.addi(%a, 0)"

-- whether a token has a dot
abbrev pub has_dot : List ℕ → Bool
has_dot token = list_any (λ b. b == 46) token

-- whether a token begins a value or names an operation
abbrev pub is_logical : List ℕ → Bool
is_logical token = starts_with nat_eq token (codes "%") || has_dot token

-- whether a number is expected at a token inside parentheses
abbrev pub is_number : List ℕ → List ℕ → Bool
is_number before token = is_logical token || has_where before

-- inside parentheses: an item comes after `(` and after `,`
abbrev pub in_parentheses : List ℕ → List ℕ → List ℕ
in_parentheses before token =
    if not (ends_with nat_eq before (codes "(")) && not (ends_with nat_eq before (codes ",")) then
    codes "expected `,` or `)`: write commas between operands, and close the parentheses"
    else if is_number before token then
    codes "expected a number or a constant's name, as c: conditions and number functions take no values"
    else codes "expected a value, a number or an operation: write %a, 0 or arith.addi(%a, 1)"

-- on the left side, outside parentheses
abbrev pub on_left : List ℕ → List ℕ
on_left before =
    if is_begun before then codes "expected `=>`: write NAME OLD => NEW"
    else codes "expected an operation: begin the left side with one, as arith.addi(%a, 0)"

-- on the right side, outside parentheses
abbrev pub on_right : List ℕ → List ℕ
on_right before =
    if ends_with nat_eq before (codes ">") then
    codes "expected a value, a number or an operation: write %a, 0 or arith.addi(%a, 1)"
    else codes "expected `where` or the end of the line: write one term after `=>`"

-- among conditions, outside parentheses
abbrev pub in_conditions : List ℕ → List ℕ
in_conditions before =
    if ends_with nat_eq before (codes "where") || ends_with nat_eq before (codes ",") then
    codes "expected a condition: power_of_two(c), eq(c, d) or another predicate, or narrower(S, T)"
    else if ends_with nat_eq before (codes ")") then
    codes "expected `,` or the end of the line: conditions are joined by commas, and all must be true"
    else codes "expected `(`: a condition is power_of_two(c), eq(c, d) or another predicate, or narrower(S, T)"

-- after a text that doesn't end with a mark
abbrev pub within : List ℕ → List ℕ → List ℕ
within before token =
    if ends_dotted false before then after_operation before token
    else if has_open_angle before then
    codes "expected `>`: close the angle brackets, as in arith.cmpi<eq>(%a, %b)"
    else if bytes_eq token (codes "<") then
    codes "expected iN, index or a name as the type: patterns have no vectors"
    else if is_nested before then in_parentheses before token
    else if not (has_arrow before) then on_left before
    else if has_where before then in_conditions before
    else on_right before

-- in place of a token that the grammar doesn't allow after a text
abbrev pub unexpected : List ℕ → List ℕ → List ℕ
unexpected [] token = codes "expected a name without a dot: write NAME OLD => NEW"
unexpected (b ∷ bs) token =
    if ends_with nat_eq (b ∷ bs) (codes "<") then
    codes "expected `none`, or a predicate of arith.cmpi, as eq: patterns match no flags"
    else if ends_with nat_eq (b ∷ bs) (codes ":") || ends_with nat_eq (b ∷ bs) (codes "narrower(") then
    codes "expected a type: write iN, index or a name"
    else if ends_with nat_eq (b ∷ bs) (codes "-") then codes "expected digits: write a number, as -1"
    else if ends_with nat_eq (b ∷ bs) (codes "=") then codes "expected `=>`: write NAME OLD => NEW"
    else within (b ∷ bs) token

-- ---- what is expected in place of a name that isn't known

abbrev pub unknown : List ℕ → List ℕ → List ℕ → List ℕ
unknown before token after =
    if starts_with nat_eq token (codes "%") then
    codes "expected a value of the left side: correct the name, or match the value on the left"
    else if is_condition_head before then
    codes "expected a condition: power_of_two(c), eq(c, d) or another predicate, or narrower(S, T)"
    else if starts_with nat_eq after (codes "(") then
    codes "expected add, sub, mul, and, or, xor, neg, not, log2 or width: correct the function"
    else codes "expected a number of the left side: correct the name, or match the number on the left"

-- ---- what is expected in place of operands or a type that don't fit

-- the operands and types of an operation
abbrev pub operands_of : List ℕ → List ℕ
operands_of name =
    if bytes_eq name (codes "arith.cmpi") then
    codes "expected two operands of one type, and i1 as the result: correct the operands or the types"
    else if bytes_eq name (codes "arith.select") then
    codes "expected an i1 and two operands of the result's type: correct the operands or the types"
    else if starts_with nat_eq name (codes "arith.ext") then
    codes "expected one operand of a narrower type than the result: correct the operand or the types"
    else if bytes_eq name (codes "arith.trunci") then
    codes "expected one operand of a wider type than the result: correct the operand or the types"
    else if starts_with nat_eq name (codes "arith.index_cast") then
    codes "expected one operand, and index as the type of either end: correct the operand or the types"
    else codes "expected two operands of the result's type: correct the operands or the types"

-- whether a token is a number of type i1
abbrev pub is_boolean : List ℕ → Bool
is_boolean token = bytes_eq token (codes "true") || bytes_eq token (codes "false")

abbrev pub mismatch : List ℕ → List ℕ → List ℕ → List ℕ
mismatch before token after =
    if starts_with nat_eq token (codes "arith.") then operands_of token
    else if is_boolean token then
    codes "expected a number of the type there: write 1 or 0, since true and false have type i1"
    else if is_condition_head before then
    codes "expected one number for power_of_two, and two numbers or types for the others: correct the operands"
    else if starts_with nat_eq after (codes "(") then
    codes "expected one number for neg, not, log2 and width, and two for the others: correct the operands"
    else codes "expected a type that fits each use: correct the types"

-- ---- what is expected in place of an operation that patterns can't match

abbrev pub left_out : List ℕ → List ℕ
left_out token =
    if bytes_eq token (codes "arith.constant") then
    codes "expected the number of the constant: write it alone, as 0 or c"
    else codes "expected an operation of arith that folds, as arith.addi: docs/PATTERNS.md lists them"

-- ---- the sentence

-- what is expected at a byte, and what to do
abbrev pub expected_in_pattern : Refusal → List ℕ → ℕ → List ℕ
expected_in_pattern BadToken text offset = codes "expected a token: remove the byte"
expected_in_pattern Unexpected text offset = unexpected (before_byte text offset) (token_at text offset)
expected_in_pattern UnknownValue text offset =
    unknown (before_byte text offset) (token_at text offset) (after_token text offset)
expected_in_pattern Redefined text offset =
    codes "expected a new name: rename one of the two patterns, or forget the other"
expected_in_pattern TypeMismatch text offset =
    mismatch (before_byte text offset) (token_at text offset) (after_token text offset)
expected_in_pattern BadWidth text offset = codes "expected 1 to 128 bits: correct the width"
expected_in_pattern BadValue text offset =
    codes "expected a number in the range of its type: correct the number, or its type"
expected_in_pattern TooDeep text offset =
    codes "expected at most 3 levels left of `=>`, and 16 right of it: nest less"
expected_in_pattern TooMany text offset = codes "expected fewer: docs/PATTERNS.md has the limits"
expected_in_pattern LeftOut text offset = left_out (token_at text offset)
expected_in_pattern NotUtf8 text offset = codes "expected UTF-8: save the file as UTF-8"
expected_in_pattern _ text offset = codes "expected another text: docs/PATTERNS.md says which"

-- what is found, what is expected, and what to do
abbrev pub pattern_reason : Refusal → List ℕ → ℕ → List ℕ
pattern_reason refusal text offset = found_text text offset ++ expected_in_pattern refusal text offset

-- the note: the sentence in quotes
abbrev pub pattern_note : Refusal → List ℕ → ℕ → List ℕ
pattern_note refusal text offset = codes " about " ++ string_text (pattern_reason refusal text offset)
