-- The output of a run as JSON: each line is one object on one line.
use Rattle.std.specs.Prelude.{ℕ, List, [], ◌∷◌, ◌++◌, ◌==◌, ◌&&◌, Bool, false, Option, Some, None, if◌then◌else◌, codes}
use Rattle.std.specs.Str.{is_utf8}
use Rattle.serde_json.specs.Data.{Data, object, no_members}
use Rattle.serde_json.specs.Read.{read}
use Rattle.serde_json.specs.Written.{compact_text}
use Rattle.mlir_work_json.specs.Cuts.{parts}
use Rattle.mlir_work_json.specs.Forms.{form_of}
use Rattle.mlir_work_json.specs.Items.{Flag, Member, text, add_members}
use Rattle.mlir_work_json.specs.Replies.{reply_members, heading_members, unparsed_members, unattached_members}
use Rattle.mlir_work_json.specs.Rows.{use_members, constant_members, dead_members, unreached_members, diagnostic_members, effect_members, definition_members, reference_members, unresolved_members, mismatch_members, reason_members, stayed_members, rewritten_members, applied_members, fired_rule_members, fired_pattern_members, unproved_members, checked_members, pattern_members, outcome_members}
use Rattle.mlir_work_json.specs.declared.form.LineKind.{LineKind}
use Rattle.mlir_work_json.specs.declared.form.LineKind.TheVariants.{Reply, Heading, ModuleRefused, AttachRefused, Module, Use, Constant, Dead, Unreached, Diagnostic, Effect, Definition, Reference, Unresolved, Mismatch, Reason, NotLegalised, AppliedRule, AppliedPattern, FiredRule, FiredPattern, Unproved, Checked, Pattern, Outcome, End, Other}
use Rattle.mlir_work_script_base.specs.Lines.{is_newline}

-- the members of a line of this kind
abbrev pub form_members : LineKind → List ℕ → List Member
form_members Reply line = reply_members line
form_members Heading line = heading_members line
form_members ModuleRefused line = unparsed_members line
form_members AttachRefused line = unattached_members line
form_members Module line = text (codes "module") line ∷ []
form_members Use line = use_members line
form_members Constant line = constant_members line
form_members Dead line = dead_members line
form_members Unreached line = unreached_members line
form_members Diagnostic line = diagnostic_members line
form_members Effect line = effect_members line
form_members Definition line = definition_members line
form_members Reference line = reference_members line
form_members Unresolved line = unresolved_members line
form_members Mismatch line = mismatch_members line
form_members Reason line = reason_members line
form_members NotLegalised line = stayed_members line
form_members AppliedRule line = rewritten_members line
form_members AppliedPattern line = applied_members line
form_members FiredRule line = fired_rule_members line
form_members FiredPattern line = fired_pattern_members line
form_members Unproved line = unproved_members line
form_members Checked line = checked_members line
form_members Pattern line = pattern_members line
form_members Outcome line = outcome_members line
form_members End line = (codes "end", Flag) ∷ []
form_members Other line = text (codes "text") line ∷ []

-- the members of a line
unfoldable pub line_members : List ℕ → List Member
line_members line = form_members (form_of line) line

abbrev pub members_data : List ℕ → Data
members_data line = object (add_members (line_members line) no_members)

-- ---- lines that are JSON objects, such as those of `show`

abbrev pub begins_object : List ℕ → Bool
begins_object [] = false
begins_object (b ∷ bs) = b == 123

-- a value, if it is an object
abbrev pub object_only : Option Data → Option Data
object_only (Some (object ms)) = Some (object ms)
object_only _ = None

-- the object that a line is, if it is one
unfoldable pub own_object : List ℕ → Option Data
own_object line = if begins_object line && is_utf8 line then object_only (read line) else None

abbrev pub own_or_members : Option Data → List ℕ → Data
own_or_members (Some d) line = d
own_or_members None line = members_data line

abbrev pub own_or_compact : Option Data → List ℕ → List ℕ
own_or_compact (Some d) line = line
own_or_compact None line = compact_text (members_data line)

-- ---- each line

-- the object of a line
abbrev pub line_data : List ℕ → Data
line_data line = own_or_members (own_object line) line

-- a line as JSON, both without line feeds; a line that is an object stays the same
abbrev pub json_line : List ℕ → List ℕ
json_line line = own_or_compact (own_object line) line

-- lines as JSON, each with a line feed
abbrev pub json_lines : List (List ℕ) → List ℕ
json_lines [] = []
json_lines (line ∷ lines) = (json_line line ++ 10 ∷ []) ++ json_lines lines

-- a whole output as JSON
abbrev pub json_text : List ℕ → List ℕ
json_text output = json_lines (parts is_newline output)
