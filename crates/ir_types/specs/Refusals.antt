-- The numbers and words of refusals.
use Rattle.std.specs.Prelude.{ℕ, List, ◌++◌, codes}
use Rattle.std.specs.Fmt.{decimal}
use Rattle.ir_types_interner.specs.declared.intern.InternFault.{InternFault}
use Rattle.ir_types_interner.specs.declared.intern.InternFault.TheVariants as fault
use Rattle.ir_types.specs.declared.refusal.Refusal.{Refusal}
use Rattle.ir_types.specs.declared.refusal.Refusal.TheVariants.{BadToken, Unexpected, UnknownValue, Redefined, TypeMismatch, BadWidth, BadValue, MultipleBlocks, Successors, TooDeep, TooMany, DuplicateKey, LeftOut, NotUtf8, NoSuchOp, NoSuchValue, HasUses, NotVisible, TypeDiffers, NoSuchIndex, NoSuchKey, IntoItself, OtherTable, IsRoot, NotEmpty, Full, IdsExhausted, TooDeepHere, TooManyMarks, NoMark, Memory, Stale, NoSuchKind, KindTaken, BadLimit, NotLegalised, ChainTooDeep, Unreconciled, BadTarget, BadCommand, NotProved}

-- the number of a refusal
abbrev pub number_of : Refusal → ℕ
number_of BadToken = 1
number_of Unexpected = 2
number_of UnknownValue = 3
number_of Redefined = 4
number_of TypeMismatch = 5
number_of BadWidth = 6
number_of BadValue = 7
number_of MultipleBlocks = 8
number_of Successors = 9
number_of TooDeep = 10
number_of TooMany = 11
number_of DuplicateKey = 12
number_of LeftOut = 13
number_of NotUtf8 = 14
number_of NoSuchOp = 20
number_of NoSuchValue = 21
number_of HasUses = 22
number_of NotVisible = 23
number_of TypeDiffers = 24
number_of NoSuchIndex = 25
number_of NoSuchKey = 26
number_of IntoItself = 27
number_of OtherTable = 28
number_of IsRoot = 29
number_of NotEmpty = 30
number_of Full = 31
number_of IdsExhausted = 32
number_of TooDeepHere = 33
number_of TooManyMarks = 34
number_of NoMark = 35
number_of Memory = 36
number_of Stale = 40
number_of NoSuchKind = 41
number_of KindTaken = 42
number_of BadLimit = 50
number_of NotLegalised = 51
number_of ChainTooDeep = 52
number_of Unreconciled = 53
number_of BadTarget = 54
number_of BadCommand = 60
number_of NotProved = 61

-- the word of a refusal
abbrev pub word_of : Refusal → List ℕ
word_of BadToken = codes "BadToken"
word_of Unexpected = codes "Unexpected"
word_of UnknownValue = codes "UnknownValue"
word_of Redefined = codes "Redefined"
word_of TypeMismatch = codes "TypeMismatch"
word_of BadWidth = codes "BadWidth"
word_of BadValue = codes "BadValue"
word_of MultipleBlocks = codes "MultipleBlocks"
word_of Successors = codes "Successors"
word_of TooDeep = codes "TooDeep"
word_of TooMany = codes "TooMany"
word_of DuplicateKey = codes "DuplicateKey"
word_of LeftOut = codes "LeftOut"
word_of NotUtf8 = codes "NotUtf8"
word_of NoSuchOp = codes "NoSuchOp"
word_of NoSuchValue = codes "NoSuchValue"
word_of HasUses = codes "HasUses"
word_of NotVisible = codes "NotVisible"
word_of TypeDiffers = codes "TypeDiffers"
word_of NoSuchIndex = codes "NoSuchIndex"
word_of NoSuchKey = codes "NoSuchKey"
word_of IntoItself = codes "IntoItself"
word_of OtherTable = codes "OtherTable"
word_of IsRoot = codes "IsRoot"
word_of NotEmpty = codes "NotEmpty"
word_of Full = codes "Full"
word_of IdsExhausted = codes "IdsExhausted"
word_of TooDeepHere = codes "TooDeepHere"
word_of TooManyMarks = codes "TooManyMarks"
word_of NoMark = codes "NoMark"
word_of Memory = codes "Memory"
word_of Stale = codes "Stale"
word_of NoSuchKind = codes "NoSuchKind"
word_of KindTaken = codes "KindTaken"
word_of BadLimit = codes "BadLimit"
word_of NotLegalised = codes "NotLegalised"
word_of ChainTooDeep = codes "ChainTooDeep"
word_of Unreconciled = codes "Unreconciled"
word_of BadTarget = codes "BadTarget"
word_of BadCommand = codes "BadCommand"
word_of NotProved = codes "NotProved"

-- the printed form: the number and the word
abbrev pub text_of : Refusal → List ℕ
text_of refusal = decimal (number_of refusal) ++ codes " " ++ word_of refusal

-- the refusal of an item that couldn't be interned
abbrev pub not_interned : InternFault → Refusal
not_interned fault.TooMany = TooMany
not_interned fault.Memory = Memory
