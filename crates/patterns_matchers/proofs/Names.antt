-- Interned names: words, and equality of names.
use Rattle.std.proofs.Common.{◌≡◌, ℕ, ◌<◌, ◌∙◌, sym, ap, refl, lit<, Bool, true, false, true≢false, length, inl, inr, arith}
use Rattle.std.specs.Prelude.{◌==◌}
use Rattle.std.specs.Cmp.{unsigned_Decides}
use Rattle.std.specs.Str.{bytes_eq}
use Rattle.std.proofs.lemmas.Bool.{cases_Bool}
use Rattle.std.proofs.lemmas.List.{length-take}
use Rattle.std.proofs.lemmas.Slice.Eq.{bytes_eq-Decides}
use Rattle.ir_event.specs.types.Things.{ContextModel, IsName}
use Rattle.ir_event.specs.types.Terms.{name_term}
use Rattle.ir_event.specs.types.Sound.{IsSound}
use Rattle.ir_event.specs.types.declared.word.Word.{Word}
use Rattle.ir_event.specs.types.declared.word.Word.TheVariants.{BuiltinModule, BuiltinUnrealizedConversionCast, FuncFunc, FuncCall, FuncReturn, ArithConstant, ArithAddi, ArithSubi, ArithMuli, ArithShli, ArithDivsi, ArithDivui, ArithRemsi, ArithRemui, ArithAndi, ArithOri, ArithXori, ArithShrsi, ArithShrui, ArithMaxsi, ArithMaxui, ArithMinsi, ArithMinui, ArithCmpi, ArithSelect, ArithExtsi, ArithExtui, ArithTrunci, ArithIndexCast, ArithIndexCastui, ScfFor, ScfIf, ScfWhile, ScfYield, ScfCondition, MemrefAlloc, MemrefDealloc, MemrefLoad, MemrefStore, SymName, SymVisibility, FunctionType, ArgAttrs, ResAttrs, Callee, Value, OverflowFlags, Predicate, OperandSegmentSizes, Alignment, Nontemporal, Public, Private, Nested}
use Rattle.ir_event.specs.types.WordNames.{word_bytes, word_number}
use Rattle.ir_event.proofs.of_types.Terms.{name_term_one}
use Rattle.ir_event.proofs.of_types.WordNumbers.{word_count}
use Rattle.ir_event.proofs.of_types.WordPlaces.{word_is}

-- two names are equal exactly if their numbers are
pub same_names : (c : ContextModel) (m n : ℕ) → IsSound c → IsName c m → IsName c n → (m == n) ≡ bytes_eq (name_term c m) (name_term c n)
same_names c m n sound h k = go (bytes_eq (name_term c m) (name_term c n)) refl
  where
    go : (b : Bool) → bytes_eq (name_term c m) (name_term c n) ≡ b → (m == n) ≡ bytes_eq (name_term c m) (name_term c n)
    go true e = (unsigned_Decides m n).1 (name_term_one c m n sound h k ((bytes_eq-Decides (name_term c m) (name_term c n)).0 e)) ∙ sym e
    go false e = elim (cases_Bool (m == n)) [
      | inr f ↦ f ∙ sym e
      | inl f ↦ absurd (true≢false (sym ((bytes_eq-Decides (name_term c m) (name_term c n)).1 (ap (name_term c) ((unsigned_Decides m n).0 f))) ∙ e))
    ]

-- the words have the first numbers
word_below : (word : Word) → word_number word < 54
word_below BuiltinModule = lit< tt
word_below BuiltinUnrealizedConversionCast = lit< tt
word_below FuncFunc = lit< tt
word_below FuncCall = lit< tt
word_below FuncReturn = lit< tt
word_below ArithConstant = lit< tt
word_below ArithAddi = lit< tt
word_below ArithSubi = lit< tt
word_below ArithMuli = lit< tt
word_below ArithShli = lit< tt
word_below ArithDivsi = lit< tt
word_below ArithDivui = lit< tt
word_below ArithRemsi = lit< tt
word_below ArithRemui = lit< tt
word_below ArithAndi = lit< tt
word_below ArithOri = lit< tt
word_below ArithXori = lit< tt
word_below ArithShrsi = lit< tt
word_below ArithShrui = lit< tt
word_below ArithMaxsi = lit< tt
word_below ArithMaxui = lit< tt
word_below ArithMinsi = lit< tt
word_below ArithMinui = lit< tt
word_below ArithCmpi = lit< tt
word_below ArithSelect = lit< tt
word_below ArithExtsi = lit< tt
word_below ArithExtui = lit< tt
word_below ArithTrunci = lit< tt
word_below ArithIndexCast = lit< tt
word_below ArithIndexCastui = lit< tt
word_below ScfFor = lit< tt
word_below ScfIf = lit< tt
word_below ScfWhile = lit< tt
word_below ScfYield = lit< tt
word_below ScfCondition = lit< tt
word_below MemrefAlloc = lit< tt
word_below MemrefDealloc = lit< tt
word_below MemrefLoad = lit< tt
word_below MemrefStore = lit< tt
word_below SymName = lit< tt
word_below SymVisibility = lit< tt
word_below FunctionType = lit< tt
word_below ArgAttrs = lit< tt
word_below ResAttrs = lit< tt
word_below Callee = lit< tt
word_below Value = lit< tt
word_below OverflowFlags = lit< tt
word_below Predicate = lit< tt
word_below OperandSegmentSizes = lit< tt
word_below Alignment = lit< tt
word_below Nontemporal = lit< tt
word_below Public = lit< tt
word_below Private = lit< tt
word_below Nested = lit< tt

pub word_there : (c : ContextModel) (word : Word) → IsSound c → IsName c (word_number word)
word_there c word sound =
    let all = ap length sound.holds.words_first in
    let some = length-take 54 c.names in
    let count = word_count in
    let below = word_below word in
    omega (arith, all, some, count, below)

pub word_named : (c : ContextModel) (word : Word) → IsSound c → name_term c (word_number word) ≡ word_bytes word
word_named c word sound = (bytes_eq-Decides (name_term c (word_number word)) (word_bytes word)).0 (word_is c (word_number word) word sound ∙ (unsigned_Decides (word_number word) (word_number word)).1 refl)
