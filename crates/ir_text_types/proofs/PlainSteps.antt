-- A scalar type that the context has is parsed as its id, and the context doesn't change.
use Rattle.std.proofs.Common.{◌≡◌, ℕ, suc, Bool, true, false, cond, List, [], ◌∷◌, slice_get, Option, Some, None, refl, ◌∙◌}
use Rattle.std.specs.Prelude.{◌==◌, ◌&&◌, codes}
use Rattle.std.specs.Str.{bytes_eq}
use Rattle.std.proofs.lemmas.Bool.{and_parts, and_right, eqb-true}
use Rattle.ir_types.specs.declared.node.Sign.TheVariants.{Signless}
use Rattle.ir_types.specs.declared.node.TypeNode.TheVariants.{Int}
use Rattle.ir_types.specs.Things.{ContextModel}
use Rattle.ir_types.specs.Sound.{IsSound}
use Rattle.ir_types.proofs.CallNumbers.{known_type}
use Rattle.ir_types.proofs.AcceptedCalls.{known_type_reason}
use Rattle.ir_text_tokens.specs.Bodies.{begins}
use Rattle.ir_text_tokens.specs.declared.token.Mark.TheVariants.{OpenRound}
use Rattle.ir_text_tokens.specs.Tokens.{next, bare}
use Rattle.ir_text_types.specs.declared.scalar_types.ScalarType.{ScalarType}
use Rattle.ir_text_types.specs.Marks.{after}
use Rattle.ir_text_types.specs.OpaqueTypes.{is_alone, is_angled, is_opaque_word}
use Rattle.ir_text_types.specs.Outcomes.{Read, Parse}
use Rattle.ir_text_types.specs.PlainTypes.{plain_node, plain_width}
use Rattle.ir_text_types.specs.Scalars.{scalar_of, width_of, index_word, memref_word}
use Rattle.ir_text_types.specs.Typed.{Typed, type_step}
use Rattle.ir_text_types.specs.TypeReading.{type_at, type_done, scalar_done, word_from, word_type_at, memref_at}

-- digits after an `i`
after_i : (ds : List ℕ) (w : ℕ) (t : Bool) → bytes_eq (105 ∷ ds) index_word ≡ t → width_of ds ≡ Some w → scalar_of (105 ∷ ds) ≡ Some (Int Signless w)
unfolding scalar_of
after_i ds w false e h = rw (e, h) refl
after_i ds w true e h = absurd (no_width ds e h)
  where
    no_width : (ds : List ℕ) → bytes_eq (105 ∷ ds) index_word ≡ true → width_of ds ≡ Some w → ⊥
    no_width [] e h = cc
    no_width (d ∷ ds) e h =
        let n = eqb-true d 110 (and_parts (d == 110) (bytes_eq ds (codes "dex")) e).0 in
        absurd cc

-- a word with a width is that integer type
pub integer_word : (word : List ℕ) (w : ℕ) → plain_width word ≡ Some w → (scalar_of word ≡ Some (Int Signless w)) × (begins 105 word ≡ true)
integer_word [] w h = absurd cc
integer_word (c ∷ ds) w h = from (c == 105) refl h
  where
    from : (t : Bool) → (c == 105) ≡ t → cond t (width_of ds) None ≡ Some w → (scalar_of (c ∷ ds) ≡ Some (Int Signless w)) × (begins 105 (c ∷ ds) ≡ true)
    from true e h = rw (eqb-true c 105 e) (after_i ds w (bytes_eq (105 ∷ ds) index_word) refl h, refl)
    from false e h = absurd cc

pub integer_scalar : (word : List ℕ) (w : ℕ) → plain_width word ≡ Some w → scalar_of word ≡ Some (Int Signless w)
integer_scalar word w h = (integer_word word w h).0

pub integer_begins : (word : List ℕ) (w : ℕ) → plain_width word ≡ Some w → begins 105 word ≡ true
integer_begins word w h = (integer_word word w h).1

-- a word that begins with `i` begins no opaque type and no memref
not_opaque : (word rest : List ℕ) → begins 105 word ≡ true → (is_opaque_word word rest ≡ false) × (bytes_eq word memref_word ≡ false)
unfolding is_alone is_angled
not_opaque [] rest e = absurd cc
not_opaque (c ∷ cs) rest e = rw (eqb-true c 105 e) (refl, refl)

-- a step that adds nothing
known_step : (c : ContextModel) (p : ScalarType) (n : ℕ) → IsSound c → slice_get c.types n ≡ Some (plain_node p) → type_step (plain_node p) c ≡ Read (n, c)
unfolding type_step
known_step c p n s at = rw (known_type_reason c n (plain_node p) s.holds at, known_type c n (plain_node p) s at) refl

-- a word is no parenthesis
no_round : (bytes word rest : List ℕ) → next bytes ≡ Some (bare word, rest) → after OpenRound bytes ≡ None
unfolding after
no_round bytes word rest token = rw token refl

word_type_is : (o : Bool) (m : Parse Typed ℕ) (c : ContextModel) (bytes word rest : List ℕ) → next bytes ≡ Some (bare word, rest)
    → word_type_at o m (bytes, c) ≡ word_from m (o && is_opaque_word word rest) (bytes_eq word memref_word) word rest c
unfolding word_type_at
word_type_is o m c bytes word rest token = rw token refl

plain_from : (m : Parse Typed ℕ) (t u : Bool) (word rest : List ℕ) (c : ContextModel) → t ≡ false → u ≡ false → word_from m t u word rest c ≡ scalar_done word (rest, c)
plain_from m t u word rest c h k = rw (h, k) refl

plain_done : (c : ContextModel) (word rest : List ℕ) (p : ScalarType) (n : ℕ) → scalar_of word ≡ Some (plain_node p) → type_step (plain_node p) c ≡ Read (n, c) → scalar_done word (rest, c) ≡ Read (n, (rest, c))
unfolding type_done
plain_done c word rest p n scalar known = rw (scalar, known) refl

pub plain_read : (c : ContextModel) (bytes word rest : List ℕ) (p : ScalarType) (n : ℕ) → IsSound c → next bytes ≡ Some (bare word, rest) → scalar_of word ≡ Some (plain_node p)
    → begins 105 word ≡ true → slice_get c.types n ≡ Some (plain_node p) → (o : Bool) (depth : ℕ) → type_at o (suc depth) (bytes, c) ≡ Read (n, (rest, c))
unfolding type_at
plain_read c bytes word rest p n s token scalar first at o depth =
    let known = known_step c p n s at in
    let other = not_opaque word rest first in
    rw (no_round bytes word rest token)
    (word_type_is o (memref_at o (suc depth)) c bytes word rest token
    ∙ plain_from (memref_at o (suc depth)) (o && is_opaque_word word rest) (bytes_eq word memref_word) word rest c (and_right o (is_opaque_word word rest) other.0) other.1
    ∙ plain_done c word rest p n scalar known)
