-- The parser and the grammar of attributes agree.
use Rattle.std.specs.Prelude.{◌&&◌, if◌then◌else◌}
use Rattle.std.specs.Str.{bytes_eq}
use Rattle.std.proofs.Common.{◌≡◌, ℕ, zero, suc, Bool, true, false, List, Option, Some, None, refl, sym, ap, subst, ◌∙◌, ◌⊎◌, inl, inr, ⊎_elim}
use Rattle.ir_text_tokens.specs.declared.token.Mark.{Mark}
use Rattle.ir_text_tokens.specs.declared.token.Mark.TheVariants.{OpenRound, OpenCurly, OpenSquare, Minus}
use Rattle.ir_text_tokens.specs.Tokens.{Lexeme, mark, integer, float, string, bare, hash, bang, symbol, quoted, skip}
use Rattle.ir_types.specs.declared.node.Sign.TheVariants.{Signless}
use Rattle.ir_types.specs.declared.node.AttrNode.TheVariants as attr
use Rattle.ir_types.specs.Things.{ContextModel, AttrIsOf, IsExtendedBy}
use Rattle.ir_types.specs.Things as of
use Rattle.ir_types.specs.Terms.{Integer, AttrTerm, IntegerOf, Flag, attr_term}
use Rattle.ir_types.specs.Sound.{IsSound}
use Rattle.ir_types.proofs.Growth.{grows_refl}
use Rattle.ir_text_types.specs.Outcomes.{Outcome, Read, Wrong, Full, Parse}
use Rattle.ir_text_types.specs.Typed.{Text, Typed}
use Rattle.ir_text_attributes.specs.Literals.{Word, Truth, UnitWord, ArrayWord, TypeWord, array_word, word_of, truth_bits, overflow_word}
use Rattle.ir_text_types.specs.OpaqueTypes.{bracketed, dialect_text}
use Rattle.ir_text_attributes.specs.declared.tail.Tail.{Tail}
use Rattle.ir_text_attributes.specs.declared.tail.Tail.TheVariants.{TypeOrNone, NoType}
use Rattle.ir_text_attributes.specs.OpaqueAttributes.{tail_in, kept_text, opens_other}
use Rattle.ir_text_attributes.specs.AttrReading.{attr_done, truth_at, literal_at, kept_at, string_at, negative_at, overflow_at, array_word_at, word_attr, bare_attr, dense_at, array_by, dictionary_by, mark_attr, hash_attr, attr_from, attr_at}
use Rattle.ir_text_types.specs.Grammars.{Grammar}
use Rattle.ir_text_attributes.specs.AttrGrammar.{IsFine, IsLiteral, IsKept, IsString, IsNegative, IsOverflow, IsArrayWord, IsWordAttr, IsBare, IsMarkAttr, IsHash, IsAttrFrom, IsAttr, IsDense, IsArray, IsDictionary}
use Rattle.ir_text_types.specs.Denotation.{AttrDenotes}
use Rattle.ir_text_types.proofs.Worlds.{Exact, Step, nothing_exact, choice_exact, guard_exact}
use Rattle.ir_text_types.proofs.TextLaws.{things, Same, text_now}
use Rattle.ir_text_types.proofs.TokenLaws.{trailing_exact, token_exact}
use Rattle.ir_text_attributes.proofs.NodeLaws.{zero_exact, attr_done_exact}
use Rattle.ir_text_attributes.proofs.LeafLaws.{unit_node, truth_exact, type_attr_exact, literal_exact, kept_exact, float_exact, string_or_kept_exact, negative_exact, overflow_exact}
use Rattle.ir_text_attributes.proofs.SymbolLaws.{symbol_exact}
use Rattle.ir_text_attributes.proofs.DenseLaws.{dense_exact}
use Rattle.ir_text_attributes.proofs.PartLaws.{array_exact, dictionary_exact}

-- ---- by the first token

module _ (o : Bool) (types : ℕ) where
  array_word_exact : (rest : Text) (c : ContextModel) → Exact things Same c AttrDenotes (λ s. array_word_at o types s.1 rest) (λ y old new. IsArrayWord o types rest y new)
  array_word_exact rest c =
      choice_exact things Same c AttrDenotes (o && opens_other rest) (λ s. kept_at o types NoType (bracketed 60 array_word (skip rest)) s.1) (λ s. dense_at (rest, s.1))
      (λ y old new. IsKept o types NoType (bracketed 60 array_word (skip rest)) y new) (λ y old new. IsDense y rest new)
      (kept_exact o types NoType (bracketed 60 array_word (skip rest)) c) (trailing_exact c AttrDenotes rest dense_at IsDense (dense_exact c))

  word_exact : (w : Word) (rest : Text) (c : ContextModel) → Exact things Same c AttrDenotes (λ s. word_attr o types w s rest) (IsWordAttr o types w rest)
  word_exact (Truth b) rest c = trailing_exact c AttrDenotes rest (truth_at b) (IsFine (IntegerOf (Integer Signless 1) (truth_bits b))) (truth_exact b c)
  word_exact UnitWord rest c = trailing_exact c AttrDenotes rest (attr_done attr.Unit) (IsFine Flag) (attr_done_exact c attr.Unit Flag (refl, refl) (λ z k w. unit_node z))
  word_exact ArrayWord rest c = array_word_exact rest c
  word_exact TypeWord rest c = type_attr_exact o types c

  bare_exact : (tail : Option Tail) (w : List ℕ) (rest : Text) (c : ContextModel) → Exact things Same c AttrDenotes (λ s. bare_attr o types tail w s rest) (IsBare o types tail w rest)
  bare_exact None w rest c = word_exact (word_of w) rest c
  bare_exact (Some tail) w rest c = kept_exact o types tail (kept_text w rest) c

  hash_exact : (name : List ℕ) (rest : Text) (c : ContextModel) → Exact things Same c AttrDenotes (λ s. hash_attr o types name s rest) (λ y old new. IsHash o types name rest y new)
  hash_exact name rest c =
      choice_exact things Same c AttrDenotes (bytes_eq name overflow_word) (λ s. overflow_at (rest, s.1)) (λ s. if o then kept_at o types TypeOrNone (dialect_text 35 name rest) s.1 else Wrong)
      (λ y old new. IsOverflow y rest new) (λ y old new. (o ≡ true) × IsKept o types TypeOrNone (dialect_text 35 name rest) y new)
      (trailing_exact c AttrDenotes rest overflow_at IsOverflow (overflow_exact c))
      (guard_exact things Same c AttrDenotes o (λ s. kept_at o types TypeOrNone (dialect_text 35 name rest) s.1) (λ y old new. IsKept o types TypeOrNone (dialect_text 35 name rest) y new) (kept_exact o types TypeOrNone (dialect_text 35 name rest) c))

module _ (o : Bool) (depth : ℕ) (p : Parse Typed ℕ) (P : Grammar Text AttrTerm) (item : (c : ContextModel) → Exact things Same c AttrDenotes p P) where
  mark_exact : (m : Mark) (rest : Text) (c : ContextModel) → Exact things Same c AttrDenotes (λ s. mark_attr o (suc depth) depth p m s rest) (IsMarkAttr o depth P m rest)
  mark_exact Minus rest c = trailing_exact c AttrDenotes rest (negative_at o (suc depth)) (IsNegative o (suc depth)) (negative_exact o (suc depth) c)
  mark_exact OpenRound rest c = type_attr_exact o (suc depth) c
  mark_exact OpenSquare rest c = trailing_exact c AttrDenotes rest (array_by depth p) (IsArray depth P) (array_exact depth p P item c)
  mark_exact OpenCurly rest c = trailing_exact c AttrDenotes rest (dictionary_by depth p) (IsDictionary depth P) (dictionary_exact depth p P item c)
  mark_exact _ rest c = nothing_exact things Same c AttrDenotes

  attr_from_exact : (c : ContextModel) (l : Lexeme) (rest : Text) → Exact things Same c AttrDenotes (λ s. attr_from o (suc depth) depth p s l rest) (IsAttrFrom o depth P l rest)
  attr_from_exact c (bare w) rest = bare_exact o (suc depth) (tail_in o w) w rest c
  attr_from_exact c (mark m) rest = mark_exact m rest c
  attr_from_exact c (integer digits) rest = trailing_exact c AttrDenotes rest (literal_at o false digits) (IsLiteral o false digits) (literal_exact o false digits c)
  attr_from_exact c (float digits) rest = float_exact o (suc depth) digits rest c
  attr_from_exact c (string raw) rest = trailing_exact c AttrDenotes rest (string_at o (suc depth) raw) (IsString o (suc depth) raw) (string_or_kept_exact o (suc depth) raw c)
  attr_from_exact c (symbol n) rest = symbol_exact c
  attr_from_exact c (quoted raw) rest = symbol_exact c
  attr_from_exact c (hash name) rest = hash_exact o (suc depth) name rest c
  attr_from_exact c (bang name) rest = type_attr_exact o (suc depth) c
  attr_from_exact c _ rest = nothing_exact things Same c AttrDenotes

pub attr_exact : (o : Bool) (depth : ℕ) (c : ContextModel) → Exact things Same c AttrDenotes (attr_at o depth) (IsAttr o depth)
unfolding attr_at IsAttr
attr_exact o zero c = zero_exact c
attr_exact o (suc depth) c = token_exact c AttrDenotes (attr_from o (suc depth) depth (attr_at o depth)) (IsAttrFrom o depth (IsAttr o depth)) (attr_from_exact o depth (attr_at o depth) (IsAttr o depth) (attr_exact o depth) c)

-- ---- from a text

pub attr_read : (o : Bool) (depth : ℕ) (c d : ContextModel) (bytes rest : List ℕ) (n : ℕ) → IsSound c → attr_at o depth (bytes, c) ≡ Read (n, (rest, d)) → IsExtendedBy c d × IsSound d × of.IsAttr d n × IsAttr o depth (attr_term d n) bytes rest
attr_read o depth c d bytes rest n sound e =
    let f = (attr_exact o depth c).found (bytes, c) bytes n (rest, d) (grows_refl c) sound (λ z g w. refl) e in
    let r = f.3.stands d (grows_refl d) f.3.sound in
    let rendered : IsAttr o depth (attr_term d n) bytes f.1 = subst (λ y. IsAttr o depth y bytes f.1) (sym r.1) f.2 in
    (f.3.grows, f.3.sound, r.0, subst (λ b. IsAttr o depth (attr_term d n) bytes b) (sym (text_now (rest, d) f.1 f.3.sound f.3.agree)) rendered)

abbrev pair : ℕ → ContextModel → List ℕ → Outcome (ℕ × Typed)
pair x d b = Read (x, (b, d))

pub attr_rendered : (o : Bool) (depth : ℕ) (c : ContextModel) (bytes rest : List ℕ) (y : AttrTerm) → IsSound c → IsAttr o depth y bytes rest → (attr_at o depth (bytes, c) ≡ Full) ⊎ ((n : ℕ) × (d : ContextModel) × (attr_at o depth (bytes, c) ≡ Read (n, (rest, d))) × IsExtendedBy c d × IsSound d × AttrDenotes d n y)
attr_rendered o depth c bytes rest y sound k = ⊎_elim
    (λ (e : attr_at o depth (bytes, c) ≡ Full). inl e)
    (λ (f : (n : ℕ) × (s : Typed) × (attr_at o depth (bytes, c) ≡ Read (n, s)) × Step things Same AttrDenotes (bytes, c) n y s rest).
    inr (f.0, f.1.1, f.2 ∙ ap (pair f.0 f.1.1) (text_now f.1 rest f.3.sound f.3.agree), f.3.grows, f.3.sound, f.3.stands f.1.1 (grows_refl f.1.1) f.3.sound))
    ((attr_exact o depth c).only (bytes, c) bytes y rest (grows_refl c) sound (λ z g w. refl) k)
