-- Notes on the refusal of a line, for sessions with the `explain` option.
use Rattle.std.specs.Prelude.{◌≡◌, ℕ, List, [], ◌++◌, Bool, true, false, ◌⊎◌, codes}
use Rattle.ir_event.specs.types.declared.refusal.Refusal.{Refusal}
use Rattle.ir_event.specs.types.declared.refusal.Refusal.TheVariants.{LeftOut}
use Rattle.ir_event.specs.Modules.{Module}
use Rattle.mlir_work_transforms.specs.rewriter.Commands.{Command, Insert, SetAttr, Replied, TextRefusedAt}
use Rattle.mlir_work_transforms.specs.rewriter.Machine.{Reply, Done, DoneAs, DoneWith, Refused, RefusedOn}
use Rattle.mlir_work_script.specs.Commands.{Spoken, Nothing, Bad, Obey, Ordered, Registered}
use Rattle.mlir_work_script.specs.RegistryCommands.{RegistryCommand, Define, Redefine}
use Rattle.mlir_work_notes.specs.PatternReasons.{pattern_note}
use Rattle.mlir_work_notes.specs.Unsupported.{unsupported_at, construct_word}
use Rattle.mlir_work_notes.specs.Notes.{about_text, notes_of, no_memory_text}
use Rattle.mlir_work_transforms.specs.registry.Notices.{Notice, Simple, Checked}
use Rattle.mlir_work_session.specs.declared.notes.Note.{Note}
use Rattle.mlir_work_session.specs.declared.notes.Note.TheVariants.{Text, NoMemory}

-- the text that a command has parsed: an attribute's or an operation's
abbrev pub text_of_command : Command → List ℕ
text_of_command (SetAttr x key text) = text
text_of_command (Insert point text) = text
text_of_command _ = []

-- the note that names the unsupported MLIR construct at the byte at which a text was refused
abbrev pub construct_note : Refusal → List ℕ → ℕ → List ℕ
construct_note LeftOut text offset = codes " about " ++ construct_word (unsupported_at text offset)
construct_note _ text offset = []

-- the note that says why the text of a pattern was refused at a byte
abbrev pub about_pattern : Refusal → ℕ → RegistryCommand → List ℕ
about_pattern refusal offset (Define text) = pattern_note refusal text offset
about_pattern refusal offset (Redefine text) = pattern_note refusal text offset
about_pattern refusal offset _ = []

-- the note on the byte at which the text of a line was refused
abbrev pub about_read : Refusal → ℕ → Spoken → List ℕ
about_read refusal offset Nothing = []
about_read refusal offset Bad = []
about_read refusal offset (Obey command) = construct_note refusal (text_of_command command) offset
about_read refusal offset (Ordered session_command) = []
about_read refusal offset (Registered registry_command) = about_pattern refusal offset registry_command

-- the note that lists the operations and values that a command's refusal is about
abbrev pub about_refused : Refusal → Spoken → Module → List ℕ
about_refused refusal Nothing m = []
about_refused refusal Bad m = []
about_refused refusal (Obey command) m = about_text (notes_of refusal command m)
about_refused refusal (Ordered session_command) m = []
about_refused refusal (Registered session_command) m = []

abbrev pub about_reply : Reply → Spoken → Module → List ℕ
about_reply Done spoken m = []
about_reply (DoneAs x) spoken m = []
about_reply (DoneWith outcome) spoken m = []
about_reply (Refused refusal) spoken m = about_refused refusal spoken m
about_reply (RefusedOn refusal x) spoken m = []

-- the note on the refusal of a line; `m` is the module, which the refused line didn't change
abbrev pub about_notice : Notice → Spoken → Module → List ℕ
about_notice (Checked said) spoken m = []
about_notice (Simple (Replied reply)) spoken m = about_reply reply spoken m
about_notice (Simple (TextRefusedAt refusal offset)) spoken m = about_read refusal offset spoken

-- the note, or the text that memory ran out; it is empty unless `explain` is set
abbrev pub IsAbout : Bool → Notice → Spoken → Module → List ℕ → Type 0
IsAbout false notice spoken m about = about ≡ []
IsAbout true notice spoken m about = (about ≡ about_notice notice spoken m) ⊎ (about ≡ no_memory_text)

-- the bytes of a note
abbrev pub about_bytes : Note → List ℕ
about_bytes (Text text) = text.items
about_bytes NoMemory = no_memory_text
