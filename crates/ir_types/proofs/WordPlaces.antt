-- Each word is at its index.
use Rattle.std.proofs.Common.{◌≡◌, ℕ, refl, slice_get, Some}
use Rattle.std.specs.Prelude.{◌==◌}
use Rattle.std.specs.Str.{bytes_eq}
use Rattle.ir_types.specs.Things.{ContextModel}
use Rattle.ir_types.specs.Terms.{name_term}
use Rattle.ir_types.specs.Sound.{IsSound}
use Rattle.ir_types.specs.Words.{operations, keys, visibilities, words}
use Rattle.ir_types.specs.declared.word.Word.{Word}
use Rattle.ir_types.specs.declared.word.Word.TheVariants.{BuiltinModule, BuiltinUnrealizedConversionCast, FuncFunc, FuncCall, FuncReturn, ArithConstant, ArithAddi, ArithSubi, ArithMuli, ArithShli, ArithDivsi, ArithDivui, ArithRemsi, ArithRemui, ArithAndi, ArithOri, ArithXori, ArithShrsi, ArithShrui, ArithMaxsi, ArithMaxui, ArithMinsi, ArithMinui, ArithCmpi, ArithSelect, ArithExtsi, ArithExtui, ArithTrunci, ArithIndexCast, ArithIndexCastui, ScfFor, ScfIf, ScfWhile, ScfYield, ScfCondition, MemrefAlloc, MemrefDealloc, MemrefLoad, MemrefStore, SymName, SymVisibility, FunctionType, ArgAttrs, ResAttrs, Callee, Value, OverflowFlags, Predicate, OperandSegmentSizes, Alignment, Nontemporal, Public, Private, Nested}
use Rattle.ir_types.specs.WordNames.{word_bytes, word_number}
use Rattle.ir_types.proofs.WordNumbers.{word_test}

word_stands : (word : Word) → slice_get words (word_number word) ≡ Some (word_bytes word)
unfolding words operations keys visibilities
word_stands BuiltinModule = refl
word_stands BuiltinUnrealizedConversionCast = refl
word_stands FuncFunc = refl
word_stands FuncCall = refl
word_stands FuncReturn = refl
word_stands ArithConstant = refl
word_stands ArithAddi = refl
word_stands ArithSubi = refl
word_stands ArithMuli = refl
word_stands ArithShli = refl
word_stands ArithDivsi = refl
word_stands ArithDivui = refl
word_stands ArithRemsi = refl
word_stands ArithRemui = refl
word_stands ArithAndi = refl
word_stands ArithOri = refl
word_stands ArithXori = refl
word_stands ArithShrsi = refl
word_stands ArithShrui = refl
word_stands ArithMaxsi = refl
word_stands ArithMaxui = refl
word_stands ArithMinsi = refl
word_stands ArithMinui = refl
word_stands ArithCmpi = refl
word_stands ArithSelect = refl
word_stands ArithExtsi = refl
word_stands ArithExtui = refl
word_stands ArithTrunci = refl
word_stands ArithIndexCast = refl
word_stands ArithIndexCastui = refl
word_stands ScfFor = refl
word_stands ScfIf = refl
word_stands ScfWhile = refl
word_stands ScfYield = refl
word_stands ScfCondition = refl
word_stands MemrefAlloc = refl
word_stands MemrefDealloc = refl
word_stands MemrefLoad = refl
word_stands MemrefStore = refl
word_stands SymName = refl
word_stands SymVisibility = refl
word_stands FunctionType = refl
word_stands ArgAttrs = refl
word_stands ResAttrs = refl
word_stands Callee = refl
word_stands Value = refl
word_stands OverflowFlags = refl
word_stands Predicate = refl
word_stands OperandSegmentSizes = refl
word_stands Alignment = refl
word_stands Nontemporal = refl
word_stands Public = refl
word_stands Private = refl
word_stands Nested = refl

-- so the test of a name's id is the test of its bytes
pub word_is : (c : ContextModel) (n : ℕ) (word : Word) → IsSound c → bytes_eq (name_term c n) (word_bytes word) ≡ (n == word_number word)
word_is c n word sound = word_test c n (word_number word) (word_bytes word) sound (word_stands word)
