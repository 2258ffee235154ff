-- A parse of a type stays within the capacity: a type takes at least one byte more than its parts.
use Rattle.std.proofs.Common.{◌≡◌, ◌≤◌, ◌+◌, ℕ, zero, suc, Bool, true, false, List, [], ◌∷◌, ◌++◌, length, take, drop, Option, Some, None, refl, arith}
use Rattle.std.specs.Prelude.{if◌then◌else◌, ◌==◌, ◌&&◌, option_map, option_and_then}
use Rattle.std.specs.Char.{is_ascii_digit}
use Rattle.std.specs.Str.{bytes_eq}
use Rattle.ir_text_tokens.specs.declared.token.Mark.TheVariants.{OpenRound, CloseRound, Less, Greater, Arrow}
use Rattle.ir_text_tokens.specs.Tokens.{Lexeme, bare, bang, next, skip, digits_len}
use Rattle.ir_types.specs.declared.node.TypeNode.TheVariants.{Func, Memref, Opaque}
use Rattle.ir_types.specs.Things.{ContextModel}
use Rattle.ir_text_types.specs.Outcomes.{Read, Wrong, ◌>>=◌, of_option, Parse}
use Rattle.ir_text_types.specs.OpaqueTypes.{is_opaque_word, word_text, dialect_text}
use Rattle.ir_text_types.specs.Typed.{Typed, after_typed}
use Rattle.ir_text_types.specs.Scalars.{scalar_of, memref_word}
use Rattle.ir_text_types.specs.ShapeGrammar.{begins_dimension}
use Rattle.ir_text_types.specs.ShapeReading.{cross_from, cross_at, crossed, size_of, sized, dimension_from, dimension_at, dimensions_at}
use Rattle.ir_text_types.specs.TypeReading.{many, type_done, scalar_done, scalar_from, scalar_at, shape_at, opaque_done, element_at, memref_at, word_from, word_type_from, word_type_at, types_at, outputs_from, outputs_at, signature_at, function_at, type_from, type_at, function_type_at}
use Rattle.ir_text_types.proofs.Shorter.{IsWithin, word_within, dialect_within}
use Rattle.ir_text.specs.Headroom.{Fits}
use Rattle.ir_text.proofs.Lengths.{skip_length, drop_less}
use Rattle.ir_text.proofs.Fits.{fits_to, Has, Good, wrong, reads, good_then, good_some, list_good, text, things}
use Rattle.ir_text.proofs.Steps.{token_fits, mark_fits, type_done_good}

-- ---- dimensions

abbrev Following : {A : Type 0} → List ℕ → Option (A × List ℕ) → Type 0
Following b None = Unit {0}
Following b (Some x) = length x.1 ≤ length b

crossed_length : (d : Option ℕ) (b : List ℕ) → Following b (crossed d b)
unfolding cross_at
crossed_length d b = by (skip b) (skip_length b)
  where
    by : (cs : List ℕ) → length cs ≤ length b → Following b (option_map (λ (r : List ℕ). (d, r)) (cross_from cs))
    by [] h = tt
    by (c ∷ cs) h = by_byte (c == 120)
      where
        by_byte : (p : Bool) → Following b (option_map (λ (r : List ℕ). (d, r)) (if p then Some cs else None))
        by_byte true = omega (arith, h)
        by_byte false = tt

longer : {A : Type 0} (b c : List ℕ) (o : Option (A × List ℕ)) → length c ≤ length b → Following c o → Following b o
longer b c None h k = tt
longer b c (Some x) h k = omega (arith, h, k)

sized_length : (n : ℕ) (b : List ℕ) → Following b (sized n b)
sized_length n b = by (size_of (take n b))
  where
    by : (o : Option ℕ) → Following b (option_and_then (λ size. crossed (Some size) (drop n b)) o)
    by None = tt
    by (Some size) = longer b (drop n b) (crossed (Some size) (drop n b)) (drop_less n b) (crossed_length (Some size) (drop n b))

dimension_length : (b : List ℕ) → Following b (dimension_at b)
unfolding dimension_at
dimension_length b = by (skip b) (skip_length b)
  where
    by : (cs : List ℕ) → length cs ≤ length b → Following b (dimension_from cs)
    by [] h = tt
    by (c ∷ cs) h = by_mark (c == 63)
      where
        by_digit : (p : Bool) → Following b (if p then sized (digits_len (c ∷ cs)) (c ∷ cs) else None)
        by_digit true = longer b (c ∷ cs) (sized (digits_len (c ∷ cs)) (c ∷ cs)) h (sized_length (digits_len (c ∷ cs)) (c ∷ cs))
        by_digit false = tt

        by_mark : (p : Bool) → Following b (if p then crossed None cs else if is_ascii_digit c then sized (digits_len (c ∷ cs)) (c ∷ cs) else None)
        by_mark true = longer b cs (crossed None cs) (omega (arith, h)) (crossed_length None cs)
        by_mark false = by_digit (is_ascii_digit c)

dimensions_length : (headroom : ℕ) (preceding : List (Option ℕ)) (b : List ℕ) → Following b (dimensions_at headroom preceding b)
unfolding dimensions_at
dimensions_length zero preceding b = by (begins_dimension (skip b))
  where
    by : (p : Bool) → Following b (if p then None else Some (preceding, b))
    by true = tt
    by false = omega arith
dimensions_length (suc headroom) preceding b = by (begins_dimension (skip b)) (dimensions_length headroom)
  where
    next_one : ((preceding : List (Option ℕ)) (b : List ℕ) → Following b (dimensions_at headroom preceding b)) → (o : Option (Option ℕ × List ℕ)) → Following b o → Following b (option_and_then (λ x. dimensions_at headroom (preceding ++ x.0 ∷ []) x.1) o)
    next_one go None h = tt
    next_one go (Some x) h = longer b x.1 (dimensions_at headroom (preceding ++ x.0 ∷ []) x.1) h (go (preceding ++ x.0 ∷ []) x.1)

    by : (p : Bool) → ((preceding : List (Option ℕ)) (b : List ℕ) → Following b (dimensions_at headroom preceding b)) → Following b (if p then option_and_then (λ x. dimensions_at headroom (preceding ++ x.0 ∷ []) x.1) (dimension_at b) else Some (preceding, b))
    by true go = next_one go (dimension_at b) (dimension_length b)
    by false go = omega arith

shape_good : (i j k : ℕ) (s : Typed) → Has text things i j k s → Good text things i j k (shape_at s)
shape_good i j k s h = by (dimensions_at many [] s.0) (dimensions_length many [] s.0)
  where
    by : (o : Option (List (Option ℕ) × List ℕ)) → Following s.0 o → Good text things i j k (of_option o >>= λ x. Read (x.0, (x.1, s.1)))
    by None l = wrong text things
    by (Some x) l = reads text things (x.0, (x.1, s.1)) (fits_to h (omega (arith, l)) (omega (arith, l)) (omega (arith, l)))

-- ---- types of one word

scalar_done_good : (i j k : ℕ) (word : List ℕ) (s : Typed) → Has text things i (j + 1) k s → Good text things i j k (scalar_done word s)
scalar_done_good i j k word s h = good_some text things (scalar_of word) (λ node. type_done node s) (λ node e. type_done_good i j k node s h)

scalar_good : (i j k : ℕ) (s : Typed) → Has text things i j k s → Good text things (i + 1) j (k + 1) (scalar_at s)
unfolding scalar_at
scalar_good i j k s h = good_some text things (next s.0) (λ t. scalar_from s.1 t.0 t.1) (λ t e. by t.0 t.1 e)
  where
    by : (l : Lexeme) (rest : List ℕ) → next s.0 ≡ Some (l, rest) → Good text things (i + 1) j (k + 1) (scalar_from s.1 l rest)
    by (bare word) rest e = scalar_done_good (i + 1) j (k + 1) word (rest, s.1) (token_fits i j k s.0 rest s.1 (bare word) e h)
    by _ rest e = wrong text things

-- ---- types that begin with a word or a dialect's name

opaque_done_good : (i j k : ℕ) (found : Option (List ℕ × List ℕ)) (bytes : List ℕ) (c : ContextModel) → IsWithin (length bytes) found → Fits i (j + 1) k bytes c → Good text things i j k (opaque_done found c)
opaque_done_good i j k None bytes c w h = wrong text things
opaque_done_good i j k (Some x) bytes c w h = type_done_good i j k (Opaque x.0) (x.1, c) (fits_to h (omega (arith, w)) (omega (arith, w)) (omega (arith, w)))

module _ (o : Bool) where
  module _ (m : Parse Typed ℕ) (inner : (i j k : ℕ) (s : Typed) → Has text things i j k s → Good text things i j k (m s)) where
    word_type_good : (i j k : ℕ) (s : Typed) → Has text things i j k s → Good text things (i + 1) j (k + 1) (word_type_at o m s)
    unfolding word_type_at
    word_type_good i j k s h = good_some text things (next s.0) (λ t. word_type_from o m s.1 t.0 t.1) (λ t e. by t.0 t.1 e)
      where
        by_word : (b p : Bool) (word rest : List ℕ) → Fits (i + 1) (j + 1) (k + 1) rest s.1 → Good text things (i + 1) j (k + 1) (word_from m b p word rest s.1)
        by_word true p word rest f = opaque_done_good (i + 1) j (k + 1) (word_text word rest) rest s.1 (word_within word rest (skip_length rest)) f
        by_word false true word rest f = inner (i + 1) j (k + 1) (rest, s.1) (fits_to f (omega arith) (omega arith) (omega arith))
        by_word false false word rest f = scalar_done_good (i + 1) j (k + 1) word (rest, s.1) f

        by_name : (b : Bool) (name rest : List ℕ) → Fits (i + 1) (j + 1) (k + 1) rest s.1 → Good text things (i + 1) j (k + 1) (if b then opaque_done (dialect_text 33 name rest) s.1 else Wrong)
        by_name true name rest f = opaque_done_good (i + 1) j (k + 1) (dialect_text 33 name rest) rest s.1 (dialect_within 33 name rest) f
        by_name false name rest f = wrong text things

        by : (l : Lexeme) (rest : List ℕ) → next s.0 ≡ Some (l, rest) → Good text things (i + 1) j (k + 1) (word_type_from o m s.1 l rest)
        by (bare word) rest e = by_word (o && is_opaque_word word rest) (bytes_eq word memref_word) word rest (token_fits i j k s.0 rest s.1 (bare word) e h)
        by (bang name) rest e = by_name o name rest (token_fits i j k s.0 rest s.1 (bang name) e h)
        by _ rest e = wrong text things

    element_good : (i j k : ℕ) (s : Typed) → Has text things i j k s → Good text things (i + 1) j (k + 1) (element_at o m s)
    element_good i j k s h = by o
      where
        by : (b : Bool) → Good text things (i + 1) j (k + 1) (if b then word_type_at o m s else scalar_at s)
        by true = word_type_good i j k s h
        by false = scalar_good i j k s h

  memref_good : (depth i j k : ℕ) (s : Typed) → Has text things i j k s → Good text things i j k (memref_at o depth s)
  unfolding memref_at
  memref_good zero i j k s h = wrong text things
  memref_good (suc depth) i j k s h =
      good_some text things (after_typed Less s) _ (λ a e.
      good_then text things (shape_at a) _ (shape_good (i + 1) (j + 1) (k + 1) a (mark_fits Less refl i j k s a e h)) (λ dims d.
      good_then text things (element_at o (memref_at o depth) dims.1) _ (element_good (memref_at o depth) (memref_good depth) (i + 1) (j + 1) (k + 1) dims.1 d) (λ elem m.
      good_some text things (after_typed Greater elem.1) _ (λ c g.
      type_done_good i j k (Memref dims.0 elem.0) c (let f = mark_fits Greater refl (i + 1 + 1) (j + 1) (k + 1 + 1) elem.1 c g m in fits_to f (omega arith) (omega arith) (omega arith))))))

-- ---- function types

module _ (p : Parse Typed ℕ) (one : (i j k : ℕ) (s : Typed) → Has text things i j k s → Good text things (i + 1) j (k + 1) (p s)) where
  types_good : (headroom i j k : ℕ) (s : Typed) → Has text things i j k s → Good text things i j k (types_at p headroom s)
  unfolding types_at
  types_good headroom i j k s h = list_good text things after_typed mark_fits CloseRound refl (λ before. p) i j k (i + 1) j (k + 1) (omega arith) (omega arith) (omega arith) (λ before s f. one i j k s f) headroom s h

  outputs_good : (headroom i j k : ℕ) (s : Typed) → Has text things i j k s → Good text things i j k (outputs_at p headroom s)
  unfolding outputs_at
  outputs_good headroom i j k s h = by (after_typed OpenRound s) refl
    where
      by : (o : Option Typed) → after_typed OpenRound s ≡ o → Good text things i j k (outputs_from p headroom s o)
      by (Some c) e = types_good headroom i j k c (fits_to (mark_fits OpenRound refl i j k s c e h) (omega arith) (omega arith) (omega arith))
      by None e = good_then text things (p s) (λ x. Read (x.0 ∷ [], x.1)) (one i j k s h) (λ x f. reads text things (x.0 ∷ [], x.1) (fits_to f (omega arith) (omega arith) (omega arith)))

  pub signature_good : (headroom i j k : ℕ) (s : Typed) → Has text things i j k s → Good text things i j k (signature_at p headroom s)
  unfolding signature_at
  signature_good headroom i j k s h =
      good_then text things (types_at p many s) _ (types_good many i j k s h) (λ inputs f.
      good_some text things (after_typed Arrow inputs.1) _ (λ a e.
      good_then text things (outputs_at p headroom a) _ (outputs_good headroom i j k a (fits_to (mark_fits Arrow refl i j k inputs.1 a e f) (omega arith) (omega arith) (omega arith))) (λ outputs g.
      reads text things ((inputs.0, outputs.0), outputs.1) g)))

  function_good : (i j k : ℕ) (s : Typed) → Has text things i (j + 1) k s → Good text things i j k (function_at p s)
  unfolding function_at
  function_good i j k s h = good_then text things (signature_at p many s) _ (signature_good many i (j + 1) k s h) (λ x f. type_done_good i j k (Func x.0.0 x.0.1) x.1 f)

pub type_good : (o : Bool) (depth i j k : ℕ) (s : Typed) → Has text things i j k s → Good text things (i + 1) j (k + 1) (type_at o depth s)
unfolding type_at
type_good o zero i j k s h = wrong text things
type_good o (suc depth) i j k s h = by (after_typed OpenRound s) refl (type_good o depth)
  where
    by : (c : Option Typed) → after_typed OpenRound s ≡ c → ((i j k : ℕ) (s : Typed) → Has text things i j k s → Good text things (i + 1) j (k + 1) (type_at o depth s)) → Good text things (i + 1) j (k + 1) (type_from (type_at o depth) (word_type_at o (memref_at o (suc depth))) s c)
    by (Some c) e go = function_good (type_at o depth) go (i + 1) j (k + 1) c (mark_fits OpenRound refl i j k s c e h)
    by None e go = word_type_good o (memref_at o (suc depth)) (memref_good o (suc depth)) i j k s h

pub function_type_good : (o : Bool) (i j k : ℕ) (s : Typed) → Has text things i j k s → Good text things i j k (function_type_at o s)
unfolding function_type_at
function_type_good o i j k s h = good_some text things (after_typed OpenRound s) _ (λ c e. signature_good (type_at o 32) (type_good o 32) 256 i j k c (fits_to (mark_fits OpenRound refl i j k s c e h) (omega arith) (omega arith) (omega arith)))
