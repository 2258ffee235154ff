-- A type that is parsed is writable.
use Rattle.std.proofs.Common.{◌≡◌, ◌⊎◌, ℕ, zero, suc, ◌+◌, ◌≤◌, Bool, true, false, List, [], ◌∷◌, ◌++◌, length, Option, Some, None, refl, sym, ap, subst, ◌∙◌, arith, inl, inr, ⊎_elim}
use Rattle.std.specs.Prelude.{◌&&◌, nat_le, if◌then◌else◌}
use Rattle.std.specs.List.{AllByRecursion, list_all}
use Rattle.std.specs.Str.{bytes_eq}
use Rattle.std.proofs.lemmas.Bool.{and_parts, cases_Bool}
use Rattle.std.proofs.lemmas.Bool.Decides.{nat_tests}
use Rattle.std.proofs.lemmas.List.{append-nil, length-append}
use Rattle.ir_types.specs.declared.node.TypeNode.{TypeNode}
use Rattle.ir_types.specs.declared.node.TypeNode.TheVariants as node
use Rattle.ir_types.specs.declared.refusal.Refusal.TheVariants.{BadValue}
use Rattle.ir_types.specs.Depths.{is_scalar, type_depth}
use Rattle.ir_types.specs.Reasons.{is_dimension, type_fault}
use Rattle.ir_types.specs.Terms.{TypeTerm, Integer, Index, Function, Memref, OpaqueType, type_from}
use Rattle.ir_types.proofs.Growth.{name_refl}
use Rattle.ir_text_tokens.specs.declared.token.Mark.{Mark}
use Rattle.ir_text_tokens.specs.declared.token.Mark.TheVariants.{CloseRound, Comma}
use Rattle.ir_text_tokens.specs.Tokens.{Lexeme, bare, bang, next}
use Rattle.ir_text_tokens.proofs.Wholes.{next_whole}
use Rattle.ir_text_tokens.specs.Bodies.{is_none}
use Rattle.ir_text_types.specs.Grammars.{Grammar, IsMore, IsList, IsMark, Token}
use Rattle.ir_text_types.specs.OpaqueTypes.{is_opaque_word, word_text, dialect_text}
use Rattle.ir_text_types.specs.Scalars.{memref_word, scalar_of}
use Rattle.ir_text_types.specs.TypeGrammar.{types_of, IsWordFrom, IsAfter, IsWordType, IsElement, IsMemref, IsTypes, IsOutputs, IsSignature, IsFunction, IsType, IsFunctionType}
use Rattle.ir_text_types.specs.TypeReading.{many}
use Rattle.ir_text_types.proofs.TypeLaws.{scalar_word}
use Rattle.ir_text.specs.TypeText.{is_function}
use Rattle.ir_text_modules.specs.Kept.{is_all, is_type_text, kept_after, kept_from}
use Rattle.ir_text_modules.specs.Written.{may_stand, is_written_type, FitsType}
use Rattle.ir_text_modules.proofs.Kept.{Form, IsKept, form_again, name_form, word_form}
use Rattle.ir_text_modules.proofs.Types.{list_of, parts_fit}

-- ---- scalar types

-- the types that a word alone denotes
scalar_written : (o : Bool) (w : List ℕ) (n : TypeNode) → scalar_of w ≡ Some n → (is_scalar (type_from [] n) ≡ true) × (is_written_type o (type_from [] n) ≡ true)
scalar_written o w (node.Int sign width) e = (refl, scalar_word w (node.Int sign width) e)
scalar_written o w node.Index e = (refl, refl)
scalar_written o w (node.Func inputs outputs) e = absurd (scalar_word w (node.Func inputs outputs) e)
scalar_written o w (node.Memref dims elem) e = absurd (scalar_word w (node.Memref dims elem) e)
scalar_written o w (node.Opaque text) e = absurd (scalar_word w (node.Opaque text) e)

not_kept : (w text : List ℕ) (n : TypeNode) → scalar_of w ≡ Some n → OpaqueType text ≡ type_from [] n → ⊥
not_kept w text (node.Int sign width) e k = absurd cc
not_kept w text node.Index e k = absurd cc
not_kept w text (node.Func inputs outputs) e k = scalar_word w (node.Func inputs outputs) e
not_kept w text (node.Memref dims elem) e k = scalar_word w (node.Memref dims elem) e
not_kept w text (node.Opaque other) e k = scalar_word w (node.Opaque other) e

-- ---- opaque types

abbrev no_memref : Grammar (List ℕ) TypeTerm
no_memref y old new = ⊥

-- the text that is found is the whole text
all_found : (text : List ℕ) (x : List ℕ × List ℕ) (found : Option (List ℕ × List ℕ)) → found ≡ Some x → OpaqueType text ≡ OpaqueType x.0 → [] ≡ x.1 → is_all text found ≡ true
all_found text x found e t n =
    let same : text ≡ x.0 = cc in
    ap (is_all text) e ∙ subst (λ l. (bytes_eq l text && is_none x.1) ≡ true) same (subst (λ l. (bytes_eq text text && is_none l) ≡ true) n (rw (name_refl text) refl))

pub text_of_form : (text : List ℕ) → Form text → is_type_text text ≡ true
unfolding is_type_text
text_of_form text f = from (form_again no_memref text [] f (tt, refl))
  where
    by_word : (w q : List ℕ) (k m : Bool) → is_opaque_word w q ≡ k → IsWordFrom no_memref k m w (OpaqueType text) q [] → is_all text (if k then word_text w q else None) ≡ true
    by_word w q true m e h = all_found text h.0 (word_text w q) h.1 h.2 h.3
    by_word w q false true e h = absurd h
    by_word w q false false e h = absurd (not_kept w text h.0 h.1 h.2)

    by_token : (t : Lexeme) (q : List ℕ) → IsAfter true no_memref t (OpaqueType text) q [] → is_all text (kept_after t q) ≡ true
    by_token (bare w) q h = by_word w q (is_opaque_word w q) (bytes_eq w memref_word) refl h
    by_token (bang n) q h = all_found text h.1.0 (dialect_text 33 n q) h.1.1 h.1.2 h.1.3
    by_token _ q h = absurd h

    from : IsKept no_memref text [] → is_all text (kept_from (next text)) ≡ true
    from k = ap (λ t. is_all text (kept_from t)) (ap next (sym (append-nil text)) ∙ k.2) ∙ by_token k.0 k.1 k.3

-- ---- types that begin with a word or a dialect's name

-- properties of such a type with at most `depth` nested memrefs
record WordFits (o : Bool) (depth : ℕ) (t : TypeTerm) : Type 0 where
  pub simple : is_function t ≡ false
  pub deep : (is_scalar t ≡ true) ⊎ (type_depth t ≤ depth)
  pub written : is_written_type o t ≡ true

kept_fits : (depth : ℕ) (text : List ℕ) → Form text → WordFits true depth (OpaqueType text)
kept_fits depth text f = record { simple = refl; deep = inl refl; written = text_of_form text f }

scalar_fits : (o : Bool) (depth : ℕ) (w : List ℕ) (n : TypeNode) → scalar_of w ≡ Some n → WordFits o depth (type_from [] n)
scalar_fits o depth w n e = let s = scalar_written o w n e in record { simple = no_function (type_from [] n) s.0; deep = inl s.0; written = s.1 }
  where
    no_function : (t : TypeTerm) → is_scalar t ≡ true → is_function t ≡ false
    no_function (Integer sign width) k = refl
    no_function Index k = refl
    no_function (OpaqueType text) k = refl
    no_function (Function ins outs) k = absurd cc
    no_function (Memref dims elem) k = absurd cc

memref_depth : (dims : List (Option ℕ)) (elem : TypeTerm) (depth : ℕ) → (is_scalar elem ≡ true) ⊎ (type_depth elem ≤ depth) → type_depth (Memref dims elem) ≤ suc depth
memref_depth dims elem depth (inl s) = rw s (omega arith)
memref_depth dims elem depth (inr le) = by (is_scalar elem)
  where
    by : (b : Bool) → (if b then 1 else 1 + type_depth elem) ≤ suc depth
    by true = omega arith
    by false = omega (arith, le)

fine_dimensions : (dims : List (Option ℕ)) (elem : TypeTerm) → type_fault (Memref dims elem) ≡ None → list_all is_dimension dims ≡ true
fine_dimensions dims elem e = elim (cases_Bool (list_all is_dimension dims)) [
  | inl t ↦ t
  | inr f ↦ let k : type_fault (Memref dims elem) ≡ Some BadValue = rw f refl in absurd cc
]

memref_fits : (o : Bool) (depth : ℕ) (dims : List (Option ℕ)) (elem : TypeTerm) → length dims ≤ many → type_fault (Memref dims elem) ≡ None → may_stand o elem ≡ true → WordFits o depth elem → WordFits o (suc depth) (Memref dims elem)
memref_fits o depth dims elem few fine stand fits_in =
    let count : nat_le (length dims) many ≡ true = grind (arith, nat_tests) in
    record { simple = refl; deep = inr (memref_depth dims elem depth fits_in.deep); written = rw (count, fine_dimensions dims elem fine, stand, fits_in.written) refl }

-- nested memrefs have these properties
abbrev ReadsWord : Bool → ℕ → Type 0
ReadsWord o depth = (t : TypeTerm) (old new : List ℕ) → IsWordType o (IsMemref o depth) t old new → WordFits o depth t

abbrev ReadsMemref : Bool → ℕ → Type 0
ReadsMemref o depth = (t : TypeTerm) (old new : List ℕ) → IsMemref o depth t old new → WordFits o depth t

element_fits : (o : Bool) (depth : ℕ) → ReadsWord o depth → (t : TypeTerm) (old new : List ℕ) → IsElement o (IsMemref o depth) t old new → WordFits o depth t × (may_stand o t ≡ true)
element_fits o depth word t old new (inl k) = let f = word t old new k.1 in (f, rw (k.0, f.simple) refl)
element_fits o depth word t old new (inr k) =
    let s = k.1 in
    (subst (WordFits o depth) (sym s.4) (scalar_fits o depth s.0 s.1 s.3), rw k.0 (ap is_scalar s.4 ∙ (scalar_written o s.0 s.1 s.3).0))

memref_read : (o : Bool) (depth : ℕ) → ReadsWord o depth → ReadsMemref o (suc depth)
unfolding IsMemref
memref_read o depth word t old new h =
    let dims = h.2.0 in
    let inner = h.2.3 in
    let e = element_fits o depth word inner.0 h.2.1 inner.1 inner.2 in
    subst (WordFits o (suc depth)) (sym inner.3.2.1) (memref_fits o depth dims inner.0 h.2.2.0 inner.3.2.0 e.1 e.0)

no_memref_read : (o : Bool) → ReadsMemref o zero
unfolding IsMemref
no_memref_read o t old new h = absurd h

after_fits : (o : Bool) (depth : ℕ) → ReadsMemref o depth → (token : Lexeme) (t : TypeTerm) (old q new : List ℕ) → Token token old q → IsAfter o (IsMemref o depth) token t q new → WordFits o depth t
after_fits o depth memref (bare w) t old q new k h = by (o && is_opaque_word w q) refl (bytes_eq w memref_word) h
  where
    by : (b : Bool) → (o && is_opaque_word w q) ≡ b → (m : Bool) → IsWordFrom (IsMemref o depth) b m w t q new → WordFits o depth t
    by true e m h =
        let p = and_parts o (is_opaque_word w q) e in
        let form = word_form w q h.0.0 h.0.1 (next_whole old q (bare w) k).0 p.1 h.1 in
        subst (λ b. WordFits b depth t) (sym p.0) (subst (WordFits true depth) (sym h.2) (kept_fits depth h.0.0 form))
    by false e true h = memref t q new h
    by false e false h = subst (WordFits o depth) (sym h.2) (scalar_fits o depth w h.0 h.1)
after_fits o depth memref (bang n) t old q new k h =
    let found = h.1 in
    let form = name_form n q found.0.0 found.0.1 (next_whole old q (bang n) k).0 found.1 in
    subst (λ b. WordFits b depth t) (sym h.0) (subst (WordFits true depth) (sym found.2) (kept_fits depth found.0.0 form))
after_fits o depth memref _ t old q new k h = absurd h

word_fits : (o : Bool) (depth : ℕ) → ReadsWord o depth
word_fits o zero t old new h = after_fits o zero (no_memref_read o) h.0 t old h.1 new h.2 h.3
word_fits o (suc depth) t old new h = after_fits o (suc depth) (memref_read o depth (word_fits o depth)) h.0 t old h.1 new h.2 h.3

-- ---- lists

module _ {B : Type 0} (F : B → Type 0) where
  all_last : (preceding : List B) (y : B) → AllByRecursion F preceding → F y → AllByRecursion F (preceding ++ y ∷ [])
  all_last [] y a f = (f, tt)
  all_last (x ∷ xs) y a f = (a.0, all_last xs y a.1 f)

  -- every item has the property, and there are at most `room` of them
  more_all : (close : Mark) (P : List B → Grammar (List ℕ) B) → ((preceding : List B) (y : B) (a b : List ℕ) → P preceding y a b → F y) → (headroom : ℕ) (preceding ys : List B) (old new : List ℕ) → IsMore IsMark close P headroom preceding ys old new → AllByRecursion F preceding
      → AllByRecursion F ys × (length ys ≤ length preceding + headroom)
  unfolding IsMore
  more_all close P item zero preceding ys old new h a = absurd h
  more_all close P item (suc headroom) preceding ys old new h a = ⊎_elim
      (λ (k : IsMark close h.1 new × (ys ≡ preceding ++ h.0 ∷ [])). (subst (AllByRecursion F) (sym k.1) extra, omega (arith, ap length k.1, count)))
      (λ (k : ((n : List ℕ) → IsMark close h.1 n → ⊥) × (n : List ℕ) × IsMark Comma h.1 n × IsMore IsMark close P headroom (preceding ++ h.0 ∷ []) ys n new).
      let more = more_all close P item headroom (preceding ++ h.0 ∷ []) ys k.1 new k.3 extra in
      (more.0, omega (arith, more.1, count)))
      h.3
    where
      extra : AllByRecursion F (preceding ++ h.0 ∷ [])
      extra = all_last preceding h.0 a (item preceding h.0 old h.1 h.2)

      count : length (preceding ++ h.0 ∷ []) ≡ length preceding + 1
      count = length-append preceding (h.0 ∷ [])

  list_all_so : (close : Mark) (P : List B → Grammar (List ℕ) B) → ((preceding : List B) (y : B) (a b : List ℕ) → P preceding y a b → F y) → (headroom : ℕ) (ys : List B) (old new : List ℕ) → IsList IsMark close P headroom ys old new → AllByRecursion F ys × (length ys ≤ headroom)
  unfolding IsList
  list_all_so close P item headroom ys old new (inl h) = (subst (AllByRecursion F) (sym h.1) tt, omega (arith, ap (λ (l : List B). length l) h.1))
  list_all_so close P item headroom ys old new (inr h) = let more = more_all close P item headroom [] ys old new h.1 tt in (more.0, omega (arith, more.1))

-- ---- function types, if their parts have the property

module _ (o : Bool) (depth : ℕ) (part : (t : TypeTerm) (old new : List ℕ) → IsType o depth t old new → FitsType o depth t) where
  types_so : (headroom : ℕ) (ts : List TypeTerm) (old new : List ℕ) → IsTypes (IsType o depth) headroom ts old new → AllByRecursion (FitsType o depth) ts × (length ts ≤ headroom)
  unfolding IsTypes
  types_so headroom ts old new h = list_all_so (FitsType o depth) CloseRound (λ before. IsType o depth) (λ preceding. part) headroom ts old new h

  outputs_so : (headroom : ℕ) (ts : List TypeTerm) (old new : List ℕ) → 1 ≤ headroom → IsOutputs (IsType o depth) headroom ts old new → AllByRecursion (FitsType o depth) ts × (length ts ≤ headroom)
  unfolding IsOutputs
  outputs_so headroom ts old new some (inl h) = types_so headroom ts h.0 new h.2
  outputs_so headroom ts old new some (inr h) =
      let one = h.1 in
      (subst (AllByRecursion (FitsType o depth)) (sym one.3.0) (part one.0 old one.1 one.2, tt), omega (arith, some, ap (λ (l : List TypeTerm). length l) one.3.0))

  -- the inputs and outputs have the property and are within their limits
  signature_so : (headroom : ℕ) (x : List TypeTerm × List TypeTerm) (old new : List ℕ) → 1 ≤ headroom → IsSignature (IsType o depth) headroom x old new
      → (AllByRecursion (FitsType o depth) x.0 × (length x.0 ≤ many)) × (AllByRecursion (FitsType o depth) x.1 × (length x.1 ≤ headroom))
  unfolding IsSignature
  signature_so headroom x old new some h =
      let trailing = h.3.2 in
      let ins = types_so many h.0 old h.1 h.2 in
      let outs = outputs_so headroom trailing.0 h.3.0 trailing.1 some trailing.2 in
      subst (λ (y : List TypeTerm × List TypeTerm). (AllByRecursion (FitsType o depth) y.0 × (length y.0 ≤ many)) × (AllByRecursion (FitsType o depth) y.1 × (length y.1 ≤ headroom))) (sym trailing.3.0) (ins, outs)

  function_so : (t : TypeTerm) (old new : List ℕ) → IsFunction (IsType o depth) t old new → FitsType o (suc depth) t
  unfolding IsFunction
  function_so t old new h =
      let ins = h.0.0 in
      let outs = h.0.1 in
      let s = signature_so many h.0 old h.1 (omega arith) h.2 in
      let p = parts_fit o depth ins s.0.0 in
      let q = parts_fit o depth outs s.1.0 in
      let few_ins : length ins ≤ many = s.0.1 in
      let few_outs : length outs ≤ many = s.1.1 in
      let ci : nat_le (length ins) many ≡ true = grind (arith, nat_tests) in
      let co : nat_le (length outs) many ≡ true = grind (arith, nat_tests) in
      let written : is_written_type o (Function (types_of ins) (types_of outs)) ≡ true = rw (list_of ins, list_of outs, ci, co, p.1, q.1) refl in
      let fits : FitsType o (suc depth) (Function (types_of ins) (types_of outs)) = (omega (arith, p.0, q.0), written) in
      subst (FitsType o (suc depth)) (sym h.3.1) fits

-- ---- all types

pub read_fits : (o : Bool) (depth : ℕ) (t : TypeTerm) (old new : List ℕ) → IsType o depth t old new → FitsType o depth t
unfolding IsType
read_fits o zero t old new h = absurd h
read_fits o (suc depth) t old new (inl h) = function_so o depth (read_fits o depth) t h.0 new h.2
read_fits o (suc depth) t old new (inr h) = let f = word_fits o (suc depth) t old new h.1 in (deep t f.deep, f.written)
  where
    deep : (t : TypeTerm) → (is_scalar t ≡ true) ⊎ (type_depth t ≤ suc depth) → type_depth t ≤ suc depth
    deep t (inr le) = le
    deep (Integer sign width) (inl s) = omega arith
    deep Index (inl s) = omega arith
    deep (OpaqueType text) (inl s) = omega arith
    deep (Function ins outs) (inl s) = absurd cc
    deep (Memref dims elem) (inl s) = absurd cc

pub read_function_fits : (o : Bool) (x : List TypeTerm × List TypeTerm) (old new : List ℕ) → IsFunctionType o x old new → (AllByRecursion (FitsType o 32) x.0 × (length x.0 ≤ many)) × (AllByRecursion (FitsType o 32) x.1 × (length x.1 ≤ 256))
unfolding IsFunctionType
read_function_fits o x old new h = signature_so o 32 (read_fits o 32) 256 x h.0 new (omega arith) h.2
