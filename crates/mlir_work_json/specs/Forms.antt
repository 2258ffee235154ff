-- The kind of an output line. The beginning of the line decides it.
use Rattle.std.specs.Prelude.{ℕ, List, [], ◌∷◌, ◌==◌, ◌||◌, ◌&&◌, not, Bool, false, if◌then◌else◌, is_some, codes, position}
use Rattle.std.specs.Char.{is_ascii_digit}
use Rattle.std.specs.Str.{bytes_eq}
use Rattle.mlir_work_json.specs.Cuts.{trailing, after_second, cell, second}
use Rattle.mlir_work_json.specs.Numbers.{number_of}
use Rattle.mlir_work_json.specs.Replies.{says_width}
use Rattle.mlir_work_json.specs.declared.form.LineKind.{LineKind}
use Rattle.mlir_work_json.specs.declared.form.LineKind.TheVariants.{Reply, Heading, ModuleRefused, AttachRefused, Module, Use, Constant, Dead, Unreached, Diagnostic, Effect, Definition, Reference, Unresolved, Mismatch, Reason, NotLegalised, AppliedRule, AppliedPattern, FiredRule, FiredPattern, Unproved, Checked, Pattern, Outcome, End, Other}
use Rattle.mlir_work_script_base.specs.Cuts.{before, after}
use Rattle.mlir_work_script_base.specs.Values.{is_dot}

-- a line of a module begins with a blank, a quote, a closing brace or a caret
abbrev pub begins_module : ℕ → Bool
begins_module b = (b == 32) || ((b == 34) || ((b == 125) || (b == 94)))

-- the kind of a row that begins with an operation, from the rest: nothing, `@f`, `V8` or words
abbrev pub op_form : List ℕ → LineKind
op_form [] = Dead
op_form (b ∷ bs) = if b == 64 then Unreached else if b == 86 then Diagnostic else Effect

-- ---- a value, as reports print it: `%v2.0`, `%a1.0.0`

abbrev pub is_number : List ℕ → Bool
is_number word = is_some (number_of word)

-- `2.0`
abbrev pub are_two : List ℕ → Bool
are_two text = is_number (before is_dot text) && is_number (after is_dot text)

-- `1.0.0`
abbrev pub are_three : List ℕ → Bool
are_three text = is_number (before is_dot text) && are_two (after is_dot text)

abbrev pub names_value : List ℕ → Bool
names_value [] = false
names_value (a ∷ []) = false
names_value (a ∷ b ∷ text) = if b == 118 then are_two text else if b == 97 then are_three text else false

-- a row that begins with the name of a value, of a module or of a pattern
abbrev pub named_form : List ℕ → LineKind
named_form word = if names_value word then Constant else Outcome

-- the kind of such a row, from the rest: an operation or an attribute
abbrev pub value_form : List ℕ → List ℕ → LineKind
value_form word [] = named_form word
value_form word (b ∷ bs) = if b == 35 then Use else named_form word

-- ---- a line that begins with a word

-- an attribute in a check begins with its number, or is `true` or `false`
abbrev pub begins_number : List ℕ → Bool
begins_number [] = false
begins_number (b ∷ bs) = is_ascii_digit b || (b == 45)

abbrev pub is_outcome : List ℕ → Bool
is_outcome word =
    begins_number word || (bytes_eq word (codes "true") || (bytes_eq word (codes "false")
    || (bytes_eq word (codes "poison") || bytes_eq word (codes "undefined"))))

abbrev pub begins_op : List ℕ → Bool
begins_op [] = false
begins_op (b ∷ bs) = b == 35

-- the trace of a rewrite by a rule has an operation after the number and the word of the rule; a constant of a
-- pattern named `rewrote` has none
abbrev pub is_rule_trace : List ℕ → Bool
is_rule_trace line = bytes_eq (cell line) (codes "rewrote") && begins_op (trailing (after_second line))

-- the trace of a rewrite by a user pattern has an operation after the name
abbrev pub is_pattern_trace : List ℕ → Bool
is_pattern_trace line = bytes_eq (cell line) (codes "rewrote") && begins_op (after_second line)

-- the count of a rule has a number after the number and the word of the rule; a constant of a pattern named `fired` has
-- its type there
abbrev pub counts_rule : List ℕ → Bool
counts_rule line = bytes_eq (cell line) (codes "fired") && is_number (trailing (after_second line))

-- the count of a user pattern has a number after the name
abbrev pub counts_pattern : List ℕ → Bool
counts_pattern line = bytes_eq (cell line) (codes "fired") && is_number (after_second line)

-- a pattern contains `=>`
abbrev pub has_arrow : List ℕ → Bool
has_arrow line = is_some (position (λ b. b == 61) line)

-- a check result, or `unchecked`
abbrev pub is_verdict : List ℕ → Bool
is_verdict word = says_width word || bytes_eq word (codes "unchecked")

-- the line of an unproved pattern has a check result after the name; a pattern named `unproved`, or a constant of
-- that name in a check, has none
abbrev pub is_unproved_line : List ℕ → Bool
is_unproved_line line =
    bytes_eq (cell line) (codes "unproved") && (is_verdict (cell (after_second line)) && not (has_arrow line))

-- a check result, or the refusal of a check
abbrev pub is_answer : List ℕ → Bool
is_answer word = says_width word || bytes_eq word (codes "refused")

-- the line of a checked pattern has the answer after the name
abbrev pub is_checked_line : List ℕ → Bool
is_checked_line line =
    bytes_eq (cell line) (codes "checked") && (is_answer (cell (after_second line)) && not (has_arrow line))

-- a row of `symbols` or a verdict on a rule: an operation follows the word
abbrev pub symbol_form : List ℕ → LineKind
symbol_form word =
    if bytes_eq word (codes "def") then Definition
    else if bytes_eq word (codes "duplicate") then Definition
    else if bytes_eq word (codes "use") then Reference
    else if bytes_eq word (codes "unresolved") then Unresolved
    else if bytes_eq word (codes "unknown") then Unresolved
    else if bytes_eq word (codes "mismatch") then Mismatch
    else if bytes_eq word (codes "why") then Reason
    else if bytes_eq word (codes "stays") then NotLegalised
    else Other

-- the kind of a refusal that isn't a reply to a command
abbrev pub refusal_form : List ℕ → LineKind
refusal_form word =
    if bytes_eq word (codes "module") then ModuleRefused
    else if bytes_eq word (codes "attach") then AttachRefused
    else Other

abbrev pub word_form : List ℕ → LineKind
word_form line =
    if bytes_eq (cell line) (codes "--") then Heading
    else if begins_op (trailing line) then symbol_form (cell line)
    else if is_rule_trace line then AppliedRule
    else if is_pattern_trace line then AppliedPattern
    else if counts_rule line then FiredRule
    else if counts_pattern line then FiredPattern
    else if is_unproved_line line then Unproved
    else if is_checked_line line then Checked
    else if is_outcome (second line) then Outcome
    else if has_arrow line then Pattern
    else refusal_form (cell line)

abbrev pub form_of : List ℕ → LineKind
form_of [] = End
form_of (b ∷ bs) =
    if is_ascii_digit b then Reply
    else if b == 35 then op_form (trailing (b ∷ bs))
    else if b == 37 then value_form (cell (b ∷ bs)) (trailing (b ∷ bs))
    else if begins_module b then Module
    else word_form (b ∷ bs)
