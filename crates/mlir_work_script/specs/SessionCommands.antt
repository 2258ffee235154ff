-- The grammar of session commands: the commands that need more than the rewriter.
use Rattle.std.specs.Prelude.{ℕ, Bool, true, false, List, ◌==◌, Option, Some, None, if◌then◌else◌, codes, length, option_and_then}
use Rattle.std.specs.Option.{option_copied, option_map}
use Rattle.std.specs.Str.{bytes_eq}
use Rattle.rewriter_machine.specs.Commands.{RuleName, Target}
use Rattle.mlir_work_script_base.specs.Clauses.{Clauses, clauses_of, mode_of, no_clauses, target_of, with_clauses}
use Rattle.mlir_work_script_base.specs.Kinds.{kind_of}
use Rattle.mlir_work_script_base.specs.Numbers.{number_of}
use Rattle.mlir_work_script_base.specs.RuleNames.{name_of, rule_in}
use Rattle.mlir_work_script_base.specs.Values.{op_of}
use Rattle.mlir_work_script_base.specs.Subjects.{subject_in}
use Rattle.mlir_work_script_base.specs.Words.{word_of, words_of, after_word}
use Rattle.mlir_work_script.specs.RuleLists.{are_items, names_of}
use Rattle.mlir_work_script.specs.declared.session_command.SessionCommand.{SessionCommand as Coded}
use Rattle.mlir_work_script.specs.declared.session_command.SessionCommand.TheVariants as code
use Rattle.ir_event.specs.declared.subject.Subject.{Subject}

-- a session command
pub data SessionCommand : Type 0 where
  -- creates the analysis of a kind and attaches it
  Attach : ℕ → SessionCommand
  -- shows the module with the ids of its operations
  PrintIds : SessionCommand
  -- shows the report rows of a kind about an operation or a value
  ReportOf : ℕ → Subject → SessionCommand
  -- applies the named rules, in this order at each operation, until none applies or the limit is reached
  -- the flag says that the command is refused if no check proves one of the patterns for the module
  Rewrite : List RuleName → Bool → Option ℕ → SessionCommand
  -- the same with a trace; without names, the canonicalization rules are applied
  Trace : Option (List RuleName) → Bool → Option ℕ → SessionCommand
  -- the same with a count of the rules and patterns that fired in the last hundred rewrites, if the limit is reached
  Fired : Option (List RuleName) → Bool → Option ℕ → SessionCommand
  -- converts to a target with a trace of each applied rule, or the reason why an operation stays illegal
  TraceConvert : Target → SessionCommand
  -- applies the canonicalization rules at one operation until none applies there
  CanonAt : ℕ → Option ℕ → SessionCommand
  -- says why rules don't match at an operation: the named rule, or all rules in the table for the operation's name
  Why : ℕ → Option RuleName → SessionCommand
  -- shows all operations as JSON objects
  ShowAll : SessionCommand
  -- shows at most so many operations as JSON objects, in pre-order from the operation on
  ShowFrom : ℕ → ℕ → SessionCommand

-- the model of a session command, read from memory
abbrev pub session_command_of : Coded → SessionCommand
session_command_of (code.Attach kind) = Attach kind
session_command_of code.PrintIds = PrintIds
session_command_of (code.ReportAbout kind subject) = ReportOf kind subject
session_command_of (code.Rewrite rules proved limit) = Rewrite (names_of rules.now) proved limit
session_command_of (code.Trace rules proved limit) = Trace (option_map names_of (option_copied rules)) proved limit
session_command_of (code.Fired rules proved limit) = Fired (option_map names_of (option_copied rules)) proved limit
session_command_of (code.TraceConvert full clauses) = TraceConvert (target_of full (clauses_of clauses))
session_command_of (code.CanonAt op limit) = CanonAt op limit
session_command_of (code.Why op rule) = Why op (option_map name_of rule)
session_command_of code.ShowAll = ShowAll
session_command_of (code.ShowFrom op count) = ShowFrom op count

-- the result, if nothing is left
abbrev pub all_said : {A : Type 0} → List ℕ → Option A → Option A
all_said rest said = if length rest == 0 then said else None

-- attach KIND
abbrev pub attach_in : List ℕ → Option SessionCommand
attach_in rest = all_said (after_word rest) (option_map Attach (kind_of (word_of rest)))

-- the argument of print ids
abbrev pub ids_in : List ℕ → Option SessionCommand
ids_in rest = if bytes_eq rest (codes "ids") then Some PrintIds else None

abbrev pub report_from : Option ℕ → Option Subject → Option SessionCommand
report_from (Some kind) (Some subject) = Some (ReportOf kind subject)
report_from (Some kind) None = None
report_from None subject = None

-- of THING, at the end of the line
abbrev pub of_thing : Option ℕ → List ℕ → Option SessionCommand
of_thing kind text =
    if bytes_eq (word_of text) (codes "of")
    then all_said (after_word (after_word text)) (report_from kind (subject_in (word_of (after_word text))))
    else None

-- the arguments of report KIND of THING
abbrev pub report_in : List ℕ → Option SessionCommand
report_in rest = of_thing (kind_of (word_of rest)) (after_word rest)

-- limit N
abbrev pub limited_in : List ℕ → Option (Option ℕ)
limited_in text =
    if bytes_eq (word_of text) (codes "limit")
    then all_said (after_word (after_word text)) (option_map (λ n. Some n) (number_of (word_of (after_word text))))
    else None

-- [limit N]
abbrev pub limit_in : List ℕ → Option (Option ℕ)
limit_in text = if length text == 0 then Some None else limited_in text

-- [limit N] after trace
abbrev pub trace_in : Option (List RuleName) → Bool → List ℕ → Option SessionCommand
trace_in rules proved rest = option_map (λ limit. Trace rules proved limit) (limit_in rest)

-- [limit N] after fired
abbrev pub fired_in : Option (List RuleName) → Bool → List ℕ → Option SessionCommand
fired_in rules proved rest = option_map (λ limit. Fired rules proved limit) (limit_in rest)

-- [trace] [limit N], or fired [limit N], after a rule list and `proved`
abbrev pub maybe_traced_in : List RuleName → Bool → List ℕ → Option SessionCommand
maybe_traced_in rules proved rest =
    if bytes_eq (word_of rest) (codes "trace") then trace_in (Some rules) proved (after_word rest)
    else if bytes_eq (word_of rest) (codes "fired") then fired_in (Some rules) proved (after_word rest)
    else option_map (λ limit. Rewrite rules proved limit) (limit_in rest)

-- [proved] [trace] [limit N], or [proved] fired [limit N], after a rule list
abbrev pub ruled_in : List RuleName → List ℕ → Option SessionCommand
ruled_in rules rest =
    if bytes_eq (word_of rest) (codes "proved") then maybe_traced_in rules true (after_word rest)
    else maybe_traced_in rules false rest

-- rewrite RULES [proved] [trace] [limit N], or rewrite RULES [proved] fired [limit N]
abbrev pub rewrite_in : List ℕ → Option SessionCommand
rewrite_in rest = if are_items (word_of rest) then ruled_in (names_of (word_of rest)) (after_word rest) else None

-- #N [limit N] after at
abbrev pub at_in : List ℕ → Option SessionCommand
at_in rest = option_and_then
    (λ op. option_map (λ limit. CanonAt op limit) (limit_in (after_word rest))) (op_of (word_of rest))

-- [RULE]
abbrev pub rule_or_none : List ℕ → Option (Option RuleName)
rule_or_none text =
    if length text == 0 then Some None
    else all_said (after_word text) (option_map (λ rule. Some rule) (rule_in (word_of text)))

-- why #N [RULE]
abbrev pub why_in : List ℕ → Option SessionCommand
why_in rest = option_and_then
    (λ op. option_map (λ rule. Why op rule) (rule_or_none (after_word rest))) (op_of (word_of rest))

-- [COUNT]; without a count, one operation is shown
abbrev pub count_in : List ℕ → Option ℕ
count_in text =
    if length text == 0 then Some 1
    else all_said (after_word text) (number_of (word_of text))

-- #N [COUNT] after show
abbrev pub show_from_in : List ℕ → Option SessionCommand
show_from_in rest = option_and_then
    (λ op. option_map (λ count. ShowFrom op count) (count_in (after_word rest))) (op_of (word_of rest))

-- show all, show #N [COUNT]
abbrev pub show_in : List ℕ → Option SessionCommand
show_in rest = if bytes_eq rest (codes "all") then Some ShowAll else show_from_in rest

-- canon only, with the arguments of rewrite, canon trace [limit N], canon fired [limit N], and canon at #N [limit N]
abbrev pub canon_command_in : List ℕ → Option SessionCommand
canon_command_in rest =
    if bytes_eq (word_of rest) (codes "only") then rewrite_in (after_word rest)
    else if bytes_eq (word_of rest) (codes "trace") then trace_in None false (after_word rest)
    else if bytes_eq (word_of rest) (codes "fired") then fired_in None false (after_word rest)
    else if bytes_eq (word_of rest) (codes "at") then at_in (after_word rest)
    else None

-- a mode and clauses after `convert trace`
abbrev pub target_in : Option Bool → Option Clauses → Option SessionCommand
target_in None clauses = None
target_in (Some full) None = None
target_in (Some full) (Some clauses) = Some (TraceConvert (target_of full clauses))

-- partial or full, with clauses, after trace
abbrev pub convert_trace_in : List ℕ → Option SessionCommand
convert_trace_in rest = target_in (mode_of (word_of rest)) (with_clauses (words_of (after_word rest)) (Some no_clauses))

-- the arguments of convert trace MODE CLAUSES
abbrev pub convert_command_in : List ℕ → Option SessionCommand
convert_command_in rest = if bytes_eq (word_of rest) (codes "trace") then convert_trace_in (after_word rest) else None

-- a session command, from its name and the rest of the line
abbrev pub session_command_named : List ℕ → List ℕ → Option SessionCommand
session_command_named name rest =
    if bytes_eq name (codes "attach") then attach_in rest
    else if bytes_eq name (codes "print") then ids_in rest
    else if bytes_eq name (codes "report") then report_in rest
    else if bytes_eq name (codes "rewrite") then rewrite_in rest
    else if bytes_eq name (codes "canon") then canon_command_in rest
    else if bytes_eq name (codes "convert") then convert_command_in rest
    else if bytes_eq name (codes "why") then why_in rest
    else if bytes_eq name (codes "show") then show_in rest
    else None

-- a trimmed line as a session command
abbrev pub session_command_in : List ℕ → Option SessionCommand
session_command_in text = session_command_named (word_of text) (after_word text)
