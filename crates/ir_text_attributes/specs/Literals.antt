-- Words and literals of attributes. Builtin Dialect, "Attributes".
use Rattle.std.specs.Prelude.{ℕ, Bool, true, false, if◌then◌else◌, List, codes, Option, Some, None}
use Rattle.std.specs.List.{list_any}
use Rattle.std.specs.Str.{bytes_eq}
use Rattle.ir_text_attributes.specs.declared.flag.Flag.{Flag}
use Rattle.ir_text_attributes.specs.declared.flag.Flag.TheVariants.{NoSignedWrap, NoUnsignedWrap}

-- the meaning of a word at the start of an attribute
pub data Word : Type 0 where
  Truth : Bool → Word
  UnitWord : Word
  ArrayWord : Word
  TypeWord : Word

abbrev pub true_word : List ℕ
true_word = codes "true"

abbrev pub false_word : List ℕ
false_word = codes "false"

abbrev pub unit_word : List ℕ
unit_word = codes "unit"

abbrev pub array_word : List ℕ
array_word = codes "array"

abbrev pub word_of : List ℕ → Word
word_of w =
    if bytes_eq w true_word then Truth true
    else if bytes_eq w false_word then Truth false
    else if bytes_eq w unit_word then UnitWord
    else if bytes_eq w array_word then ArrayWord
    else TypeWord

-- the bit of a truth value
abbrev pub truth_bits : Bool → ℕ
truth_bits b = if b then 1 else 0

-- ---- flags

abbrev pub overflow_word : List ℕ
overflow_word = codes "arith.overflow"

abbrev pub none_word : List ℕ
none_word = codes "none"

abbrev pub flag_of : List ℕ → Option Flag
flag_of w =
    if bytes_eq w (codes "nsw") then Some NoSignedWrap
    else if bytes_eq w (codes "nuw") then Some NoUnsignedWrap
    else None

abbrev pub is_nsw : Flag → Bool
is_nsw NoSignedWrap = true
is_nsw NoUnsignedWrap = false

abbrev pub is_nuw : Flag → Bool
is_nuw NoSignedWrap = false
is_nuw NoUnsignedWrap = true

abbrev pub has_nsw : List Flag → Bool
has_nsw flags = list_any is_nsw flags

abbrev pub has_nuw : List Flag → Bool
has_nuw flags = list_any is_nuw flags
