-- The words in rows, by their numbers.
use Rattle.std.specs.Prelude.{ℕ}
use Rattle.ir_event.specs.declared.tag.Tag.{Tag}
use Rattle.ir_event.specs.declared.tag.Tag.TheVariants as word

abbrev pub tag_number : Tag → ℕ
tag_number word.Def = 0
tag_number word.Duplicate = 1
tag_number word.Use = 2
tag_number word.Unresolved = 3
tag_number word.Mismatch = 4
tag_number word.Unknown = 5
tag_number word.Allocate = 6
tag_number word.Free = 7
tag_number word.Read = 8
tag_number word.Write = 9
