-- The members of report rows. Each row has its kind.
use Rattle.std.specs.Prelude.{ℕ, List, [], ◌∷◌, ◌==◌, Bool, if◌then◌else◌, is_some, codes}
use Rattle.std.specs.Str.{bytes_eq}
use Rattle.mlir_work_json.specs.Cuts.{trailing, after_second, cell, is_blank, parts, second, without_last}
use Rattle.mlir_work_json.specs.Items.{Member, Texts, text, numeral}
use Rattle.mlir_work_json.specs.Numbers.{number_of}
use Rattle.mlir_work_script_base.specs.Cuts.{before, after}
use Rattle.mlir_work_script_base.specs.Items.{is_comma}

abbrev pub kind : List ℕ → Member
kind word = text (codes "kind") word

-- `%a1.0.0 #3 0`
abbrev pub use_members : List ℕ → List Member
use_members line =
    kind (codes "uses") ∷ text (codes "value") (cell line) ∷ text (codes "user") (second line)
    ∷ numeral (codes "operand") (after_second line) ∷ []

-- `%v2.0 0 : i32`
abbrev pub constant_members : List ℕ → List Member
constant_members line =
    kind (codes "constants") ∷ text (codes "value") (cell line) ∷ text (codes "attribute") (trailing line) ∷ []

-- `#3`
abbrev pub dead_members : List ℕ → List Member
dead_members line = kind (codes "dead") ∷ text (codes "op") line ∷ []

-- `#6 @b`
abbrev pub unreached_members : List ℕ → List Member
unreached_members line =
    kind (codes "unreached") ∷ text (codes "op") (cell line) ∷ text (codes "name") (trailing line) ∷ []

-- `#4 V2`
abbrev pub diagnostic_members : List ℕ → List Member
diagnostic_members line =
    kind (codes "diagnostics") ∷ text (codes "op") (cell line) ∷ text (codes "rule") (trailing line) ∷ []

-- `#6 read write`
abbrev pub effect_members : List ℕ → List Member
effect_members line =
    kind (codes "effects") ∷ text (codes "op") (cell line) ∷ (codes "words", Texts (parts is_blank (trailing line))) ∷ []

-- ---- symbols: the word, and the text after it

abbrev pub symbol_members : List ℕ → List Member → List Member
symbol_members line rest = kind (codes "symbols") ∷ text (codes "group") (cell line) ∷ rest

-- `def #0 @f #1`, `duplicate #0 @f #1`
abbrev pub definition_members : List ℕ → List Member
definition_members line =
    symbol_members line (text (codes "table") (second line) ∷ text (codes "name") (cell (after_second line))
    ∷ text (codes "op") (trailing (after_second line)) ∷ [])

-- `use #3 @f #1`
abbrev pub reference_members : List ℕ → List Member
reference_members line =
    symbol_members line (text (codes "op") (second line) ∷ text (codes "name") (cell (after_second line))
    ∷ text (codes "target") (trailing (after_second line)) ∷ [])

-- `unresolved #4 @g`, `unknown #4 @g`
abbrev pub unresolved_members : List ℕ → List Member
unresolved_members line =
    symbol_members line (text (codes "op") (second line) ∷ text (codes "name") (after_second line) ∷ [])

-- `mismatch #3 #1`
abbrev pub mismatch_members : List ℕ → List Member
mismatch_members line =
    symbol_members line (text (codes "op") (second line) ∷ text (codes "target") (after_second line) ∷ [])

-- ---- rewrites

-- `erased #7`, or nothing
abbrev pub erased_members : List ℕ → List Member
erased_members [] = []
erased_members (b ∷ bs) = text (codes "erased") (trailing (b ∷ bs)) ∷ []

-- `made #12,#13 erased #7`, or one of the two, or nothing
abbrev pub change_members : List ℕ → List Member
change_members line =
    if bytes_eq (cell line) (codes "made")
    then (codes "made", Texts (parts is_comma (second line))) ∷ erased_members (after_second line)
    else erased_members line

-- `rewrote 10 regroup-constants #7 made #12,#13 erased #7`
abbrev pub rewritten_members : List ℕ → List Member
rewritten_members line =
    kind (codes "trace") ∷ numeral (codes "rule") (second line) ∷ text (codes "word") (cell (after_second line))
    ∷ text (codes "op") (second (after_second line)) ∷ change_members (after_second (after_second line))

-- `rewrote times_power #3 made #7,#8 erased #3`
abbrev pub applied_members : List ℕ → List Member
applied_members line =
    kind (codes "trace") ∷ text (codes "name") (second line) ∷ text (codes "op") (cell (after_second line))
    ∷ change_members (trailing (after_second line))

-- `fired 4 drop-zero 37`
abbrev pub fired_rule_members : List ℕ → List Member
fired_rule_members line =
    kind (codes "fired") ∷ numeral (codes "rule") (second line) ∷ text (codes "word") (cell (after_second line))
    ∷ numeral (codes "count") (trailing (after_second line)) ∷ []

-- `fired times_power 63`
abbrev pub fired_pattern_members : List ℕ → List Member
fired_pattern_members line =
    kind (codes "fired") ∷ text (codes "name") (second line) ∷ numeral (codes "count") (after_second line) ∷ []

-- ---- reasons

-- a rule with its verdict, `4 drop-zero second-not-zero`, or a pattern with its verdict, `mine applies`
abbrev pub verdict_members : List ℕ → List Member
verdict_members said =
    if is_some (number_of (cell said))
    then numeral (codes "rule") (cell said) ∷ text (codes "word") (second said)
    ∷ text (codes "said") (after_second said) ∷ []
    else text (codes "name") (cell said) ∷ text (codes "said") (trailing said) ∷ []

-- `why #5 4 drop-zero second-not-zero`, `why #5 mine applies`
abbrev pub reason_members : List ℕ → List Member
reason_members line =
    kind (codes "why") ∷ text (codes "op") (second line) ∷ verdict_members (after_second line)

-- the rule that was tried last with its failure, `27 expand-remainder makes-illegal`, or `no-rule`
abbrev pub match_failure_members : List ℕ → List Member
match_failure_members said =
    if is_some (number_of (cell said))
    then numeral (codes "rule") (cell said) ∷ text (codes "word") (second said)
    ∷ text (codes "said") (after_second said) ∷ []
    else text (codes "said") said ∷ []

-- `stays #5 27 expand-remainder makes-illegal`, `stays #5 no-rule`
abbrev pub stayed_members : List ℕ → List Member
stayed_members line =
    kind (codes "stays") ∷ text (codes "op") (second line) ∷ match_failure_members (after_second line)

-- ---- user patterns

-- `holds 8`, or `holds`, or `not checked`
abbrev pub said_members : List ℕ → List Member
said_members said =
    if is_some (number_of (trailing said))
    then text (codes "said") (cell said) ∷ numeral (codes "width") (trailing said) ∷ []
    else text (codes "said") said ∷ []

-- `unproved mask holds 8`, `unproved mask unchecked`
abbrev pub unproved_members : List ℕ → List Member
unproved_members line = kind (codes "unproved") ∷ text (codes "name") (second line) ∷ said_members (after_second line)

-- `checked mask holds 8`, `checked mask refused 50 BadLimit`
abbrev pub checked_members : List ℕ → List Member
checked_members line = kind (codes "checked") ∷ text (codes "name") (second line) ∷ said_members (after_second line)

-- a pattern contains no slash, and a blank precedes the comment
abbrev pub is_slash : ℕ → Bool
is_slash b = b == 47

-- `half arith.divui(%a, 2) => arith.shrui(%a, 1) // holds 8`
abbrev pub pattern_members : List ℕ → List Member
pattern_members line =
    kind (codes "patterns") ∷ text (codes "name") (cell line) ∷ text (codes "pattern") (without_last (before is_slash line))
    ∷ said_members (trailing (after is_slash line))

-- `%a -2 : i2`, `c -2 : i2`, `old 1 : i2`, `new poison`
abbrev pub outcome_members : List ℕ → List Member
outcome_members line =
    kind (codes "check") ∷ text (codes "name") (cell line) ∷ text (codes "outcome") (trailing line) ∷ []
