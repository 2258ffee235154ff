-- `expect REFUSAL COMMAND`: a line whose command should be refused with this refusal.
use Rattle.std.specs.Prelude.{ℕ, List, [], ◌∷◌, ◌||◌, Bool, eqb, false, Option, Some, None, if◌then◌else◌, codes}
use Rattle.std.specs.List.{find}
use Rattle.std.specs.Str.{bytes_eq, is_utf8}
use Rattle.ir_event.specs.types.Refusals as refusals
use Rattle.ir_event.specs.types.declared.refusal.Refusal.{Refusal}
use Rattle.ir_event.specs.types.declared.refusal.Refusal.TheVariants.{BadToken, Unexpected, UnknownValue, Redefined}
use Rattle.ir_event.specs.types.declared.refusal.Refusal.TheVariants.{TypeMismatch, BadWidth, BadValue, MultipleBlocks}
use Rattle.ir_event.specs.types.declared.refusal.Refusal.TheVariants.{Successors, TooDeep}
use Rattle.ir_event.specs.types.declared.refusal.Refusal.TheVariants.{TooMany, DuplicateKey, LeftOut}
use Rattle.ir_event.specs.types.declared.refusal.Refusal.TheVariants.{NotUtf8, NoSuchOp}
use Rattle.ir_event.specs.types.declared.refusal.Refusal.TheVariants.{NoSuchValue, HasUses, NotVisible}
use Rattle.ir_event.specs.types.declared.refusal.Refusal.TheVariants.{TypeDiffers, NoSuchIndex, NoSuchKey, IntoItself}
use Rattle.ir_event.specs.types.declared.refusal.Refusal.TheVariants.{OtherTable, IsRoot, NotEmpty, Full, IdsExhausted}
use Rattle.ir_event.specs.types.declared.refusal.Refusal.TheVariants.{TooDeepHere, TooManyMarks, NoMark, Memory, Stale}
use Rattle.ir_event.specs.types.declared.refusal.Refusal.TheVariants.{NoSuchKind, KindTaken, BadLimit, NotLegalised}
use Rattle.ir_event.specs.types.declared.refusal.Refusal.TheVariants.{ChainTooDeep, Unreconciled, BadTarget, BadCommand}
use Rattle.ir_event.specs.types.declared.refusal.Refusal.TheVariants.{NotProved}
use Rattle.mlir_work_script_base.specs.Numbers.{number_of}
use Rattle.mlir_work_script_base.specs.Words.{trim, word_of, after_word}

-- all refusals in the order of their numbers
unfoldable pub all_refusals : List Refusal
all_refusals =
    BadToken ∷ Unexpected ∷ UnknownValue ∷ Redefined ∷ TypeMismatch ∷ BadWidth ∷ BadValue ∷ MultipleBlocks
    ∷ Successors ∷ TooDeep ∷ TooMany ∷ DuplicateKey ∷ LeftOut ∷ NotUtf8 ∷ NoSuchOp ∷ NoSuchValue ∷ HasUses
    ∷ NotVisible ∷ TypeDiffers ∷ NoSuchIndex ∷ NoSuchKey ∷ IntoItself ∷ OtherTable ∷ IsRoot ∷ NotEmpty ∷ Full
    ∷ IdsExhausted ∷ TooDeepHere ∷ TooManyMarks ∷ NoMark ∷ Memory ∷ Stale ∷ NoSuchKind ∷ KindTaken ∷ BadLimit
    ∷ NotLegalised ∷ ChainTooDeep ∷ Unreconciled ∷ BadTarget ∷ BadCommand ∷ NotProved ∷ []

-- whether a number is a refusal's
abbrev pub is_number_of : Option ℕ → Refusal → Bool
is_number_of None refusal = false
is_number_of (Some n) refusal = eqb (refusals.number_of refusal) n

-- whether a word is the number or the word of a refusal
abbrev pub names : List ℕ → Refusal → Bool
names word refusal = is_number_of (number_of word) refusal || bytes_eq (refusals.word_of refusal) word

-- the refusal with this number or word
abbrev pub refusal_in : List ℕ → Option Refusal
refusal_in word = find (names word) all_refusals

-- the refusal that a trimmed line expects
abbrev pub expected_in : List ℕ → Option Refusal
expected_in text = if bytes_eq (word_of text) (codes "expect") then refusal_in (word_of (after_word text)) else None

-- the command of a trimmed line: the text after the expected refusal, or the whole text if none is expected
abbrev pub command_after : Option Refusal → List ℕ → List ℕ
command_after None text = text
command_after (Some refusal) text = after_word (after_word text)

-- the refusal that a line expects
abbrev pub line_expects : List ℕ → Option Refusal
line_expects line = if is_utf8 line then expected_in (trim line) else None
