-- The bytes of words.
use Rattle.std.proofs.Common.{◌≡◌, refl, ◌∙◌}
use Rattle.std.specs.Cmp.{unsigned_Decides}
use Rattle.std.proofs.lemmas.Slice.Eq.{bytes_eq-Decides}
use Rattle.ir_types.specs.declared.word.Word.{Word}
use Rattle.ir_types.specs.Things.{ContextModel}
use Rattle.ir_types.specs.Terms.{name_term}
use Rattle.ir_types.specs.Sound.{IsSound}
use Rattle.ir_types.specs.WordNames.{word_bytes, word_number}
use Rattle.ir_types.proofs.WordPlaces.{word_is}

-- the name with a word's number is the word
pub word_named : (c : ContextModel) (word : Word) → IsSound c → name_term c (word_number word) ≡ word_bytes word
word_named c word sound = (bytes_eq-Decides (name_term c (word_number word)) (word_bytes word)).0 (word_is c (word_number word) word sound ∙ (unsigned_Decides (word_number word) (word_number word)).1 refl)
