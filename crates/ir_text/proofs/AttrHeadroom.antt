-- A parse of an attribute stays within the capacity.
use Rattle.std.proofs.Common.{◌≡◌, ◌≤◌, ◌+◌, ℕ, zero, suc, Bool, true, false, List, [], ◌∷◌, ◌++◌, length, Option, Some, None, ℤ, refl, ap, arith, length-append, le-leb}
use Rattle.std.specs.Prelude.{nat_eq, ◌&&◌, if◌then◌else◌, nat_le, map, option_and_then}
use Rattle.std.specs.List.{list_all}
use Rattle.std.specs.Str.{bytes_eq}
use Rattle.ir_text_tokens.specs.declared.token.Mark.{Mark}
use Rattle.ir_text_tokens.specs.declared.token.Mark.TheVariants.{OpenRound, OpenCurly, CloseCurly, OpenSquare, CloseSquare, Less, Greater, Comma, Equal, Colon, DoubleColon, Minus}
use Rattle.ir_text_tokens.specs.Tokens.{Lexeme, mark, integer, float, string, bare, hash, bang, symbol, quoted, skip, next}
use Rattle.ir_text_tokens.specs.Strings.{string_bytes}
use Rattle.ir_text_tokens.specs.Numbers.{integer_of, below_limit}
use Rattle.ir_types.specs.declared.node.Sign.TheVariants.{Signless}
use Rattle.ir_types.specs.declared.node.TypeNode.TheVariants as type
use Rattle.ir_types.specs.declared.node.AttrNode.{AttrNode}
use Rattle.ir_types.specs.declared.node.AttrNode.TheVariants as attr
use Rattle.ir_types.specs.declared.refusal.Refusal.{Refusal}
use Rattle.ir_types.specs.declared.refusal.Refusal.TheVariants.{TooMany, TooDeep, BadValue, DuplicateKey}
use Rattle.ir_types.specs.Depths.{attr_depth}
use Rattle.ir_types.specs.Dictionaries.{kept, has_duplicate}
use Rattle.ir_types.specs.Interning.{with_name, with_attr}
use Rattle.ir_types.specs.Ranges.{is_value_number}
use Rattle.ir_types.specs.Readings.{literal_bits, is_bits_of, reading_of}
use Rattle.ir_types.specs.Reasons.{first_reason, full_reason, depth_reason, attr_fault, count_reason, key_reason, name_reason, attr_reason}
use Rattle.ir_types.specs.Same.{same_attr}
use Rattle.ir_types.specs.Terms.{TypeTerm, AttrTerm, type_term, attr_node_term}
use Rattle.ir_types.specs.Terms as terms
use Rattle.ir_types.specs.Things.{ContextModel}
use Rattle.ir_types.proofs.Growth.{attr_names, attr_types, attr_attrs}
use Rattle.ir_types.proofs.Placing.{length-with_last}
use Rattle.ir_text_types.specs.Outcomes.{Outcome, Read, Wrong, Full, ◌>>=◌, of_option, interned, Parse}
use Rattle.ir_text_types.specs.Typed.{Typed, after_typed, name_step, attr_step}
use Rattle.ir_text_types.specs.TypeReading.{many, type_done, type_at}
use Rattle.ir_text_types.specs.Lists.{more_at, more_from, list_at, list_from}
use Rattle.ir_text_types.proofs.Worlds.{bind_read, option_read}
use Rattle.ir_text_operations.specs.attributes.declared.flag.Flag.{Flag}
use Rattle.ir_text_operations.specs.attributes.Literals.{Word, Truth, UnitWord, ArrayWord, TypeWord, array_word, word_of, truth_bits, overflow_word, none_word, flag_of, has_nsw, has_nuw}
use Rattle.ir_text_operations.specs.attributes.Elements.{bits_of, type_of, element_named, is_bit, item_value}
use Rattle.ir_text_operations.specs.attributes.Keyed.{has_key}
use Rattle.ir_text_operations.specs.attributes.AttrReading.{attr_done, name_done, truth_at, string_attr_at, type_attr_at, suffix_from, suffix_at, literal_done, literal_at, negative_from, negative_at, flag_from, flag_at, some_flags_at, no_flags_at, flags_from, flags_at, overflow_at, part_from, part_at, parts_from, parts_at, symbol_attr_at, element_from, element_at, truth_item, number_item, minus_from, minus_item, mark_item, item_from, item_at, some_items_at, no_items_at, items_from, items_at, dense_done, dense_at, Entries, key_from, key_at, unit_value_at, value_from, value_by, entry_by, entries_by, dictionary_by, attrs_by, array_by, word_attr, mark_attr, attr_from, attr_at, typed_at, opaque_typed_done, opaque_typed_at, colon_from, tail_at, kept_at, string_at, array_word_at, bare_attr, hash_attr}
use Rattle.ir_text_operations.specs.attributes.declared.tail.Tail.{Tail}
use Rattle.ir_text_operations.specs.attributes.declared.tail.Tail.TheVariants.{SomeType, TypeOrNone, OpaqueOrNone, NoType}
use Rattle.ir_text_operations.specs.attributes.OpaqueAttributes.{tail_in, kept_text, with_angles, distinct_word, location_word, quoted_text, signed_text, is_hexadecimal, is_opaque_type, opens_other}
use Rattle.ir_text_types.specs.OpaqueTypes.{with_body, bracketed, dialect_text}
use Rattle.ir_text_types.proofs.Shorter.{IsWithin, within_if, within_more, with_body_within, bracketed_within, dialect_within}
use Rattle.ir_text_tokens.specs.Bodies.{begins}
use Rattle.ir_text.specs.Headroom.{Fits}
use Rattle.ir_text.proofs.Lengths.{gain, skip_length}
use Rattle.ir_text.proofs.Fits.{fits_to, Has, Good, wrong, reads, good_then, good_some, unless_good, more_good, list_good, text, things}
use Rattle.ir_text.proofs.Steps.{token_fits, mark_fits, call_good, with_name_fits, name_not_full, type_done_good, full_count}
use Rattle.ir_text.proofs.TypeHeadroom.{type_good}

-- ---- interned entries

-- a fault of an attribute isn't a full context
fault_apart : (y : AttrTerm) (other : Option Refusal) → first_reason (attr_fault y) other ≡ Some TooMany → other ≡ Some TooMany
fault_apart y other e = by_value y e
  where
    by_depth : (b : Bool) → first_reason (if b then None else Some TooDeep) other ≡ Some TooMany → other ≡ Some TooMany
    by_depth true e = e
    by_depth false e = absurd cc

    by_test : (d : ℕ) (b : Bool) → first_reason (first_reason (if b then None else Some BadValue) (depth_reason d)) other ≡ Some TooMany → other ≡ Some TooMany
    by_test d true e = by_depth (nat_le d 32) e
    by_test d false e = absurd cc

    by_value : (y : AttrTerm) → first_reason (attr_fault y) other ≡ Some TooMany → other ≡ Some TooMany
    by_value (terms.IntegerOf ty bits) e = by_test 1 (is_bits_of ty bits) e
    by_value (terms.DenseArray elem vs) e = by_test 1 (list_all (is_value_number elem) vs) e
    by_value (terms.String bytes) e = by_depth (nat_le 1 32) e
    by_value (terms.TypeOf ty) e = by_depth (nat_le (attr_depth (terms.TypeOf ty)) 32) e
    by_value terms.Flag e = by_depth (nat_le 1 32) e
    by_value (terms.Array items) e = by_depth (nat_le (attr_depth (terms.Array items)) 32) e
    by_value (terms.Dictionary entries) e = by_depth (nat_le (attr_depth (terms.Dictionary entries)) 32) e
    by_value (terms.Symbol parts) e = by_depth (nat_le 1 32) e
    by_value (terms.Overflow nsw nuw) e = by_depth (nat_le 1 32) e
    by_value (terms.OpaqueOf text ty) e = by_depth (nat_le (attr_depth (terms.OpaqueOf text ty)) 32) e

-- a repeated key isn't a full context
duplicates_apart : (node : AttrNode) (o : Option Refusal) → first_reason o (key_reason node) ≡ Some TooMany → o ≡ Some TooMany
duplicates_apart node (Some r) e = e
duplicates_apart node None e = absurd (by node e)
  where
    by_test : (b : Bool) → (if b then Some DuplicateKey else None) ≡ Some TooMany → ⊥
    by_test true e = absurd cc
    by_test false e = absurd cc

    by : (node : AttrNode) → key_reason node ≡ Some TooMany → ⊥
    by (attr.Dict es) e = by_test (has_duplicate (map (λ (x : ℕ × ℕ). x.0) es)) e
    by (attr.Int ty v) e = absurd cc
    by (attr.Str n) e = absurd cc
    by (attr.Ty t) e = absurd cc
    by attr.Unit e = absurd cc
    by (attr.Array xs) e = absurd cc
    by (attr.Sym xs) e = absurd cc
    by (attr.Dense t vs) e = absurd cc
    by (attr.Overflow a b) e = absurd cc
    by (attr.Opaque text ty) e = absurd cc

attr_not_full : (i j k : ℕ) (node : AttrNode) (b : List ℕ) (c : ContextModel) → count_reason node ≡ None → Fits i j (k + 1) b c → attr_reason node c ≡ Some TooMany → ⊥
attr_not_full i j k node b c few h e =
    let headroom = full_reason (same_attr (kept c.names node)) c.attrs in
    let past = fault_apart (attr_node_term c node) (first_reason (count_reason node) (first_reason headroom (key_reason node))) e in
    let rest : first_reason headroom (key_reason node) ≡ Some TooMany = rw few at past in
    let f = full_count (same_attr (kept c.names node)) c.attrs (duplicates_apart node headroom rest) in
    omega (arith, h.attrs, f)

done_good : (i j k : ℕ) (node : AttrNode) (s : Typed) → count_reason node ≡ None → Has text things i j (k + 1) s → Good text things i j k (attr_done node s)
unfolding attr_done attr_step
done_good i j k node s few h = call_good i j k (attr_reason node s.1) (with_attr node s.1) s.0 (λ e. more) (attr_not_full i j k node s.0 s.1 few h)
  where
    more : Fits i j k s.0 (with_attr node s.1).1
    more =
        let n = length-with_last (same_attr (kept s.1.names node)) (kept s.1.names node) s.1.attrs in
        let l = ap length (attr_attrs node s.1) in
        let m = ap length (attr_names node s.1) in
        let t = ap length (attr_types node s.1) in
        record { names = omega (arith, h.names, m); types = omega (arith, h.types, t); attrs = omega (arith, h.attrs, n.1, l) }

pub name_good : (i j k : ℕ) (bytes : List ℕ) (s : Typed) → Has text things (i + 2) j k s → Good text things i j k (name_done bytes s)
unfolding name_done name_step
name_good i j k bytes s h = call_good i j k (name_reason bytes s.1) (with_name bytes s.1) s.0 (λ e. with_name_fits i j k bytes s.0 s.1 h) (name_not_full i j k bytes s.0 s.1 h)

-- ---- leaves

truth_good : (i j k : ℕ) (b : Bool) (s : Typed) → Has text things i (j + 1) (k + 1) s → Good text things i j k (truth_at b s)
unfolding truth_at
truth_good i j k b s h = good_then text things (type_done (type.Int Signless 1) s) _ (type_done_good i j (k + 1) (type.Int Signless 1) s h) (λ t f. done_good i j k (attr.Int t.0 (truth_bits b)) t.1 refl f)

string_good : (i j k : ℕ) (raw : List ℕ) (s : Typed) → Has text things (i + 2) j (k + 1) s → Good text things i j k (string_attr_at raw s)
unfolding string_attr_at name_step
string_good i j k raw s h = by (name_reason (string_bytes raw) s.1) refl
  where
    go : ℕ × ContextModel → Outcome (ℕ × Typed)
    go n = attr_done (attr.Str n.0) (s.0, n.1)

    by : (o : Option Refusal) → name_reason (string_bytes raw) s.1 ≡ o → Good text things i j k (interned o (with_name (string_bytes raw) s.1) >>= go)
    by None e = done_good i j k (attr.Str (with_name (string_bytes raw) s.1).0) (s.0, (with_name (string_bytes raw) s.1).1) refl (with_name_fits i j (k + 1) (string_bytes raw) s.0 s.1 h)
    by (Some TooMany) e = absurd (name_not_full i j (k + 1) (string_bytes raw) s.0 s.1 h e)
    by (Some _) e = wrong text things

type_attr_good : (o : Bool) (depth i j k : ℕ) (s : Typed) → Has text things i j k s → Good text things i j k (type_attr_at o depth s)
unfolding type_attr_at
type_attr_good o depth i j k s h = good_then text things (type_at o depth s) _ (type_good o depth i j k s h) (λ t f. done_good i j k (attr.Ty t.0) t.1 refl (fits_to f (omega arith) (omega arith) (omega arith)))

-- ---- literals

suffix_good : (o : Bool) (i j k : ℕ) (s : Typed) → Has text things i (j + 1) k s → Good text things i j k (suffix_at o s)
unfolding suffix_at
suffix_good o i j k s h = by (after_typed Colon s) refl
  where
    by : (c : Option Typed) → after_typed Colon s ≡ c → Good text things i j k (suffix_from o s c)
    by (Some c) e = good_less (type_at o 32 c) (type_good o 32 (i + 1) (j + 1) (k + 1) c (fits_to (mark_fits Colon refl i (j + 1) k s c e h) (omega arith) (omega arith) (omega arith)))
      where
        good_less : (x : Outcome (ℕ × Typed)) → Good text things (i + 1 + 1) (j + 1) (k + 1 + 1) x → Good text things i j k x
        good_less (Read x) g = reads text things x (fits_to g.still (omega arith) (omega arith) (omega arith))
        good_less Wrong g = wrong text things
        good_less Full g = absurd g.still
    by None e = type_done_good i j k (type.Int Signless 64) s h

literal_good : (o : Bool) (i j k : ℕ) (negative : Bool) (digits : List ℕ) (s : Typed) → Has text things i (j + 1) (k + 1) s → Good text things i j k (literal_at o negative digits s)
unfolding literal_at literal_done
literal_good o i j k negative digits s h =
    good_some text things (below_limit (integer_of digits)) _ (λ n e.
    good_then text things (suffix_at o s) _ (suffix_good o i j (k + 1) s h) (λ t f. by n t.0 (type_term t.1.1 t.0) t.1 f (is_opaque_type (type_term t.1.1 t.0) && is_hexadecimal digits)))
  where
    by : (n t : ℕ) (ty : TypeTerm) (s : Typed) → Has text things i j (k + 1) s → (b : Bool) → Good text things i j k (if b then attr_done (attr.Opaque (signed_text negative digits) (Some t)) s else (of_option (literal_bits ty negative n) >>= λ bits. attr_done (attr.Int t bits) s))
    by n t ty s f true = done_good i j k (attr.Opaque (signed_text negative digits) (Some t)) s refl f
    by n t ty s f false = good_some text things (literal_bits ty negative n) (λ bits. attr_done (attr.Int t bits) s) (λ bits b. done_good i j k (attr.Int t bits) s refl f)

-- ---- opaque attributes

kept_text_within : (word rest : List ℕ) → IsWithin (length rest) (kept_text word rest)
unfolding kept_text
kept_text_within word rest =
    let le = skip_length rest in
    let less = λ (o : Option (List ℕ × List ℕ)) (w : IsWithin (length (skip rest)) o). within_more (length (skip rest)) (length rest) o le w in
    within_if (length rest) (bytes_eq word distinct_word) (option_and_then with_angles (bracketed 91 word (skip rest))) (if bytes_eq word location_word then bracketed 40 word (skip rest) else bracketed 60 word (skip rest))
    (less (option_and_then with_angles (bracketed 91 word (skip rest))) (both (bracketed 91 word (skip rest)) (bracketed_within 91 word (skip rest))))
    (within_if (length rest) (bytes_eq word location_word) (bracketed 40 word (skip rest)) (bracketed 60 word (skip rest)) (less (bracketed 40 word (skip rest)) (bracketed_within 40 word (skip rest))) (less (bracketed 60 word (skip rest)) (bracketed_within 60 word (skip rest))))
  where
    angles : (x : List ℕ × List ℕ) → length x.1 ≤ length (skip rest) → IsWithin (length (skip rest)) (with_angles x)
    angles x l =
        let m = skip_length x.1 in
        within_if (length (skip rest)) (begins 60 (skip x.1)) (with_body x.0 (skip x.1)) (Some x) (within_more (length (skip x.1)) (length (skip rest)) (with_body x.0 (skip x.1)) (omega (arith, l, m)) (with_body_within x.0 (skip x.1))) l

    both : (o : Option (List ℕ × List ℕ)) → IsWithin (length (skip rest)) o → IsWithin (length (skip rest)) (option_and_then with_angles o)
    both None w = tt
    both (Some x) w = angles x w

module _ (o : Bool) (types : ℕ) where
  typed_good : (text' : List ℕ) (i j k : ℕ) (s : Typed) → Has text things i j k s → Good text things i j k (typed_at o types text' s)
  unfolding typed_at
  typed_good text' i j k s h =
      good_then text things (type_at o types s) _ (type_good o types i j k s h) (λ t f. done_good i j k (attr.Opaque text' (Some t.0)) t.1 refl (fits_to f (omega arith) (omega arith) (omega arith)))

  opaque_typed_good : (text' : List ℕ) (i j k : ℕ) (s : Typed) → Has text things i j k s → Good text things i j k (opaque_typed_at o types text' s)
  unfolding opaque_typed_at opaque_typed_done
  opaque_typed_good text' i j k s h =
      good_then text things (type_at o types s) _ (type_good o types i j k s h) (λ t f. by t.0 t.1 (fits_to f (omega arith) (omega arith) (omega arith)) (is_opaque_type (type_term t.1.1 t.0)))
    where
      by : (t : ℕ) (s : Typed) → Has text things i j (k + 1) s → (b : Bool) → Good text things i j k (if b then attr_done (attr.Opaque text' (Some t)) s else Wrong)
      by t s f true = done_good i j k (attr.Opaque text' (Some t)) s refl f
      by t s f false = wrong text things

  -- the parse after a colon, or without one
  colon_good : (p q : Parse Typed ℕ) (i j k : ℕ) (s : Typed) → ((c : Typed) → Has text things i j k c → Good text things i j k (p c)) → Good text things i j k (q s) → Has text things i j k s → Good text things i j k (colon_from o p q s (after_typed Colon s))
  colon_good p q i j k s first second h = by (after_typed Colon s) refl
    where
      by : (c : Option Typed) → after_typed Colon s ≡ c → Good text things i j k (colon_from o p q s c)
      by (Some c) e = first c (fits_to (mark_fits Colon refl i j k s c e h) (omega arith) (omega arith) (omega arith))
      by None e = second

  tail_good : (tail : Tail) (text' : List ℕ) (i j k : ℕ) (s : Typed) → Has text things i j (k + 1) s → Good text things i j k (tail_at o types tail text' s)
  tail_good SomeType text' i j k s h =
      good_some text things (after_typed Colon s) (typed_at o types text') (λ c e. typed_good text' i j k c (fits_to (mark_fits Colon refl i j (k + 1) s c e h) (omega arith) (omega arith) (omega arith)))
  tail_good TypeOrNone text' i j k s h =
      colon_good (typed_at o types text') (attr_done (attr.Opaque text' None)) i j k s (λ c f. typed_good text' i j k c f) (done_good i j k (attr.Opaque text' None) s refl h) (fits_to h (omega arith) (omega arith) (omega arith))
  tail_good OpaqueOrNone text' i j k s h =
      colon_good (opaque_typed_at o types text') (attr_done (attr.Opaque text' None)) i j k s (λ c f. opaque_typed_good text' i j k c f) (done_good i j k (attr.Opaque text' None) s refl h) (fits_to h (omega arith) (omega arith) (omega arith))
  tail_good NoType text' i j k s h = done_good i j k (attr.Opaque text' None) s refl h

  kept_good : (tail : Tail) (found : Option (List ℕ × List ℕ)) (bytes : List ℕ) (c : ContextModel) (i j k : ℕ) → IsWithin (length bytes) found → Fits i j (k + 1) bytes c → Good text things i j k (kept_at o types tail found c)
  kept_good tail None bytes c i j k w h = wrong text things
  kept_good tail (Some x) bytes c i j k w h = tail_good tail x.0 i j k (x.1, c) (fits_to h (omega (arith, w)) (omega (arith, w)) (omega (arith, w)))

  float_good : (digits : List ℕ) (i j k : ℕ) (s : Typed) → Has text things i j (k + 1) s → (b : Bool) → Good text things i j k (if b then tail_at o types OpaqueOrNone digits s else Wrong)
  float_good digits i j k s h true = tail_good OpaqueOrNone digits i j k s h
  float_good digits i j k s h false = wrong text things

  string_or_kept_good : (raw : List ℕ) (i j k : ℕ) (s : Typed) → Has text things (i + 2) j (k + 1) s → Good text things i j k (string_at o types raw s)
  string_or_kept_good raw i j k s h = by o
    where
      by : (b : Bool) → Good text things i j k (if b then colon_from o (typed_at o types (quoted_text raw)) (string_attr_at raw) s (after_typed Colon s) else string_attr_at raw s)
      by true = colon_good (typed_at o types (quoted_text raw)) (string_attr_at raw) i j k s (λ c f. typed_good (quoted_text raw) i j k c f) (string_good i j k raw s h) (fits_to h (omega arith) (omega arith) (omega arith))
      by false = string_good i j k raw s h

  negative_good : (i j k : ℕ) (s : Typed) → Has text things i j k s → Good text things i j k (negative_at o types s)
  unfolding negative_at
  negative_good i j k s h = good_some text things (next s.0) (λ t. negative_from o types s.1 t.0 t.1) (λ t e. by t.0 t.1 e)
    where
      by : (l : Lexeme) (rest : List ℕ) → next s.0 ≡ Some (l, rest) → Good text things i j k (negative_from o types s.1 l rest)
      by (integer digits) rest e = literal_good o i j k true digits (rest, s.1) (fits_to (token_fits i j k s.0 rest s.1 (integer digits) e h) (omega arith) (omega arith) (omega arith))
      by (float digits) rest e = float_good (45 ∷ digits) i j k (rest, s.1) (fits_to (token_fits i j k s.0 rest s.1 (float digits) e h) (omega arith) (omega arith) (omega arith)) o
      by _ rest e = wrong text things

-- ---- flags

flag_good : (i j k : ℕ) (s : Typed) → Has text things i j k s → Good text things i j k (flag_at s)
unfolding flag_at
flag_good i j k s h = good_some text things (next s.0) (λ t. flag_from s.1 t.0 t.1) (λ t e. by t.0 t.1 e)
  where
    by : (l : Lexeme) (rest : List ℕ) → next s.0 ≡ Some (l, rest) → Good text things i j k (flag_from s.1 l rest)
    by (bare w) rest e = good_some text things (flag_of w) _ (λ f d. reads text things (f, (rest, s.1)) (fits_to (token_fits i j k s.0 rest s.1 (bare w) e h) (omega arith) (omega arith) (omega arith)))
    by _ rest e = wrong text things

flags_good : (i j k : ℕ) (s : Typed) → Has text things i j k s → Good text things i j k (flags_at s)
unfolding flags_at some_flags_at no_flags_at
flags_good i j k s h = good_some text things (next s.0) (λ t. flags_from s t.0 t.1) (λ t e. by t.0 t.1 e)
  where
    none : Typed → Outcome (List Flag × Typed)
    none e = Read ([], e)

    closed : (rest : List ℕ) → Fits i j k rest s.1 → Good text things i j k (of_option (after_typed Greater (rest, s.1)) >>= none)
    closed rest f = good_some text things (after_typed Greater (rest, s.1)) none (λ e g. reads text things ([], e) (fits_to (mark_fits Greater refl i j k (rest, s.1) e g f) (omega arith) (omega arith) (omega arith)))

    by_word : (p : Bool) (rest : List ℕ) → Fits i j k rest s.1 → Good text things i j k (if p then no_flags_at (rest, s.1) else some_flags_at s)
    by_word true rest f = closed rest f
    by_word false rest f = more_good text things after_typed mark_fits Greater refl (λ before. flag_at) i j k i j k (omega arith) (omega arith) (omega arith) (λ before s g. flag_good i j k s g) many [] s h

    by : (l : Lexeme) (rest : List ℕ) → next s.0 ≡ Some (l, rest) → Good text things i j k (flags_from s l rest)
    by (bare w) rest e = by_word (bytes_eq w none_word) rest (fits_to (token_fits i j k s.0 rest s.1 (bare w) e h) (omega arith) (omega arith) (omega arith))
    by _ rest e = wrong text things

overflow_good : (i j k : ℕ) (s : Typed) → Has text things i j k s → Good text things i j k (overflow_at s)
unfolding overflow_at
overflow_good i j k s h =
    good_some text things (after_typed Less s) _ (λ c e.
    good_then text things (flags_at c) _ (flags_good (i + 1) (j + 1) (k + 1) c (mark_fits Less refl i j k s c e h)) (λ f g.
    done_good i j k (attr.Overflow (has_nsw f.0) (has_nuw f.0)) f.1 refl (fits_to g (omega arith) (omega arith) (omega arith))))

-- ---- symbols

part_good : (i j k : ℕ) (s : Typed) → Has text things i j k s → Good text things i j (k + 1) (part_at s)
unfolding part_at
part_good i j k s h = good_some text things (next s.0) (λ t. part_from s.1 t.0 t.1) (λ t e. by t.0 t.1 e)
  where
    by : (l : Lexeme) (rest : List ℕ) → next s.0 ≡ Some (l, rest) → Good text things i j (k + 1) (part_from s.1 l rest)
    by (symbol n) rest e = name_good i j (k + 1) n (rest, s.1) (fits_to (token_fits i j k s.0 rest s.1 (symbol n) e h) (omega arith) (omega arith) (omega arith))
    by (quoted raw) rest e = name_good i j (k + 1) (string_bytes raw) (rest, s.1) (fits_to (token_fits i j k s.0 rest s.1 (quoted raw) e h) (omega arith) (omega arith) (omega arith))
    by _ rest e = wrong text things

parts_good : (headroom i j k : ℕ) (items : List ℕ) (s : Typed) → Has text things i j k s → Good text things i j (k + 1) (parts_at headroom items s)
unfolding parts_at
parts_good zero i j k items s h = wrong text things
parts_good (suc headroom) i j k items s h = good_then text things (part_at s) _ (part_good i j k s h) (λ x f. by (items ++ x.0 ∷ []) x.1 f (after_typed DoubleColon x.1) refl (parts_good headroom))
  where
    by : (preceding : List ℕ) (s : Typed) → Has text things i j (k + 1) s → (o : Option Typed) → after_typed DoubleColon s ≡ o → ((i j k : ℕ) (items : List ℕ) (s : Typed) → Has text things i j k s → Good text things i j (k + 1) (parts_at headroom items s))
        → Good text things i j (k + 1) (parts_from (parts_at headroom preceding) preceding s o)
    by preceding s f (Some c) e go = go i j k preceding c (fits_to (mark_fits DoubleColon refl i j (k + 1) s c e f) (omega arith) (omega arith) (omega arith))
    by preceding s f None e go = reads text things (preceding, s) f

symbol_good : (i j k : ℕ) (s : Typed) → Has text things i j k s → Good text things i j k (symbol_attr_at s)
unfolding symbol_attr_at
symbol_good i j k s h = good_then text things (parts_at many [] s) _ (parts_good many i j k [] s h) (λ ns f. done_good i j k (attr.Sym ns.0) ns.1 refl f)

-- ---- dense arrays

element_good : (i j k : ℕ) (s : Typed) → Has text things i j k s → Good text things i j k (element_at s)
unfolding element_at
element_good i j k s h = good_some text things (next s.0) (λ t. element_from s.1 t.0 t.1) (λ t e. by t.0 t.1 e)
  where
    by : (l : Lexeme) (rest : List ℕ) → next s.0 ≡ Some (l, rest) → Good text things i j k (element_from s.1 l rest)
    by (bare w) rest e = good_some text things (element_named w) _ (λ f d. reads text things (f, (rest, s.1)) (fits_to (token_fits i j k s.0 rest s.1 (bare w) e h) (omega arith) (omega arith) (omega arith)))
    by _ rest e = wrong text things

number_good : (i j k : ℕ) (elem : TypeTerm) (negative : Bool) (digits : List ℕ) (s : Typed) → Has text things i j k s → Good text things i j k (number_item elem negative digits s)
number_good i j k elem negative digits s h = good_some text things (item_value elem negative digits) _ (λ v e. reads text things (v, s) h)

minus_good : (i j k : ℕ) (elem : TypeTerm) (s : Typed) → Has text things i j k s → Good text things i j k (minus_item elem s)
unfolding minus_item
minus_good i j k elem s h = good_some text things (next s.0) (λ t. minus_from elem s.1 t.0 t.1) (λ t e. by t.0 t.1 e)
  where
    by : (l : Lexeme) (rest : List ℕ) → next s.0 ≡ Some (l, rest) → Good text things i j k (minus_from elem s.1 l rest)
    by (integer digits) rest e = number_good i j k elem true digits (rest, s.1) (fits_to (token_fits i j k s.0 rest s.1 (integer digits) e h) (omega arith) (omega arith) (omega arith))
    by _ rest e = wrong text things

truth_item_good : (i j k : ℕ) (elem : TypeTerm) (w : Word) (s : Typed) → Has text things i j k s → Good text things i j k (truth_item elem w s)
truth_item_good i j k elem (Truth b) s h = by (is_bit elem)
  where
    v : ℤ
    v = reading_of elem (truth_bits b)

    by : (p : Bool) → Good text things i j k (if p then Read (v, s) else Wrong)
    by true = reads text things (v, s) h
    by false = wrong text things
truth_item_good i j k elem UnitWord s h = wrong text things
truth_item_good i j k elem ArrayWord s h = wrong text things
truth_item_good i j k elem TypeWord s h = wrong text things

item_good : (i j k : ℕ) (elem : TypeTerm) (s : Typed) → Has text things i j k s → Good text things i j k (item_at elem s)
unfolding item_at
item_good i j k elem s h = good_some text things (next s.0) (λ t. item_from elem s.1 t.0 t.1) (λ t e. by t.0 t.1 e)
  where
    by_mark : (m : Mark) (s : Typed) → Has text things i j k s → Good text things i j k (mark_item elem m s)
    by_mark Minus s h = minus_good i j k elem s h
    by_mark _ s h = wrong text things

    by : (l : Lexeme) (rest : List ℕ) → next s.0 ≡ Some (l, rest) → Good text things i j k (item_from elem s.1 l rest)
    by (bare w) rest e = truth_item_good i j k elem (word_of w) (rest, s.1) (fits_to (token_fits i j k s.0 rest s.1 (bare w) e h) (omega arith) (omega arith) (omega arith))
    by (integer digits) rest e = number_good i j k elem false digits (rest, s.1) (fits_to (token_fits i j k s.0 rest s.1 (integer digits) e h) (omega arith) (omega arith) (omega arith))
    by (mark m) rest e = by_mark m (rest, s.1) (fits_to (token_fits i j k s.0 rest s.1 (mark m) e h) (omega arith) (omega arith) (omega arith))
    by _ rest e = wrong text things

items_good : (i j k : ℕ) (elem : TypeTerm) (s : Typed) → Has text things i j k s → Good text things i j k (items_at elem s)
unfolding items_at some_items_at no_items_at
items_good i j k elem s h = by (after_typed Colon s) refl
  where
    none : Typed → Outcome (List ℤ × Typed)
    none e = Read ([], e)

    by : (o : Option Typed) → after_typed Colon s ≡ o → Good text things i j k (items_from elem s o)
    by (Some c) e = more_good text things after_typed mark_fits Greater refl (λ before. item_at elem) i j k i j k (omega arith) (omega arith) (omega arith) (λ before s g. item_good i j k elem s g) many [] c (fits_to (mark_fits Colon refl i j k s c e h) (omega arith) (omega arith) (omega arith))
    by None e = good_some text things (after_typed Greater s) none (λ c g. reads text things ([], c) (fits_to (mark_fits Greater refl i j k s c g h) (omega arith) (omega arith) (omega arith)))

dense_good : (i j k : ℕ) (s : Typed) → Has text things i j k s → Good text things i j k (dense_at s)
unfolding dense_at dense_done
dense_good i j k s h =
    good_some text things (after_typed Less s) _ (λ c e.
    good_then text things (element_at c) _ (element_good (i + 1) (j + 1) (k + 1) c (mark_fits Less refl i j k s c e h)) (λ el f.
    good_then text things (type_done (type.Int Signless (bits_of el.0)) el.1) _ (type_done_good i j (k + 1) (type.Int Signless (bits_of el.0)) el.1 (fits_to f (omega arith) (omega arith) (omega arith))) (λ t g.
    good_then text things (items_at (type_of el.0) t.1) _ (items_good i j (k + 1) (type_of el.0) t.1 g) (λ vs m.
    done_good i j k (attr.Dense t.0 vs.0) vs.1 refl m))))

-- ---- keys and values

pub key_good : (i j k : ℕ) (s : Typed) → Has text things (i + 1) j k s → Good text things i (j + 1) (k + 1) (key_at s)
unfolding key_at
key_good i j k s h = good_some text things (next s.0) (λ t. key_from s.1 t.0 t.1) (λ t e. by t.0 t.1 e)
  where
    by : (l : Lexeme) (rest : List ℕ) → next s.0 ≡ Some (l, rest) → Good text things i (j + 1) (k + 1) (key_from s.1 l rest)
    by (bare w) rest e = name_good i (j + 1) (k + 1) w (rest, s.1) (fits_to (token_fits (i + 1) j k s.0 rest s.1 (bare w) e h) (omega arith) (omega arith) (omega arith))
    by (string raw) rest e = name_good i (j + 1) (k + 1) (string_bytes raw) (rest, s.1) (fits_to (token_fits (i + 1) j k s.0 rest s.1 (string raw) e h) (omega arith) (omega arith) (omega arith))
    by _ rest e = wrong text things

unit_good : (depth i j k : ℕ) (s : Typed) → Has text things i j (k + 1) s → Good text things i j k (unit_value_at depth s)
unfolding unit_value_at
unit_good zero i j k s h = wrong text things
unit_good (suc depth) i j k s h = done_good i j k attr.Unit s refl h

-- the number of entries that were parsed
few_more : {A : Type 0} (p : List A → Parse Typed A) (headroom : ℕ) (preceding : List A) (s s' : Typed) (all : List A) → more_at after_typed CloseCurly p headroom preceding s ≡ Read (all, s') → length all ≤ length preceding + headroom
unfolding more_at
few_more {A = A} p zero preceding s s' all e = absurd cc
few_more {A = A} p (suc headroom) preceding s s' all e =
    let a = bind_read (p preceding s) (λ x. more_from after_typed CloseCurly p (more_at after_typed CloseCurly p headroom) (preceding ++ x.0 ∷ []) x.1 (after_typed CloseCurly x.1)) (all, s') e in
    let l = length-append preceding (a.0.0 ∷ []) in
    by (preceding ++ a.0.0 ∷ []) a.0.1 (after_typed CloseCurly a.0.1) a.2 (omega arith) (few_more p headroom)
  where
    by : (xs : List A) (m : Typed) (o : Option Typed) → more_from after_typed CloseCurly p (more_at after_typed CloseCurly p headroom) xs m o ≡ Read (all, s') → length xs ≤ length preceding + 1
        → ((preceding : List A) (s s' : Typed) (all : List A) → more_at after_typed CloseCurly p headroom preceding s ≡ Read (all, s') → length all ≤ length preceding + headroom) → length all ≤ length preceding + suc headroom
    by xs m (Some end) f l go = let same : (xs, end) ≡ (all, s') = cc (f) in let n = ap (λ (q : List A × Typed). length q.0) same in omega (arith, l, n)
    by xs m None f l go =
        let b = option_read (after_typed Comma m) (more_at after_typed CloseCurly p headroom xs) (all, s') f in
        omega (arith, l, go xs b.0 s' all b.2)

few_entries : {A : Type 0} (p : List A → Parse Typed A) (headroom : ℕ) (s s' : Typed) (all : List A) → list_at after_typed CloseCurly p headroom s ≡ Read (all, s') → length all ≤ headroom
unfolding list_at
few_entries {A = A} p headroom s s' all e = by (after_typed CloseCurly s) e
  where
    by : (o : Option Typed) → list_from after_typed CloseCurly p headroom s o ≡ Read (all, s') → length all ≤ headroom
    by (Some end) f = let same : ([], end) ≡ (all, s') = cc (f) in let n = ap (λ (q : List A × Typed). length q.0) same in omega (arith, n)
    by None f = omega (arith, few_more p headroom [] s s' all f)

count_fine : (es : Entries) → length es ≤ 256 → count_reason (attr.Dict es) ≡ None
count_fine es h = rw (le-leb (length es) 256 h) refl

-- p parses attributes and adds no more entries than it reads bytes
module _ (depth : ℕ) (p : Parse Typed ℕ) (one : (i j k : ℕ) (s : Typed) → Has text things i j k s → Good text things i j k (p s)) where
  pub value_good : (i j k : ℕ) (s : Typed) → Has text things i j (k + 1) s → Good text things i j k (value_by depth p s)
  unfolding value_by
  value_good i j k s h = by (after_typed Equal s) refl
    where
      by : (o : Option Typed) → after_typed Equal s ≡ o → Good text things i j k (value_from depth p s o)
      by (Some c) e = one i j k c (fits_to (mark_fits Equal refl i j (k + 1) s c e h) (omega arith) (omega arith) (omega arith))
      by None e = unit_good depth i j k s h

  entry_good : (i j k : ℕ) (before : Entries) (s : Typed) → Has text things (i + 1) j k s → Good text things i j k (entry_by depth p before s)
  unfolding entry_by
  entry_good i j k before s h =
      good_then text things (key_at s) _ (key_good i j k s h) (λ key f.
      good_then text things (if has_key nat_eq key.0 before then Wrong else value_by depth p key.1) _ (unless_good text things (has_key nat_eq key.0 before) (value_by depth p key.1) (value_good i j k key.1 (fits_to f (omega arith) (omega arith) (omega arith)))) (λ a g.
      reads text things ((key.0, a.0), a.1) g))

  dictionary_good : (i j k : ℕ) (s : Typed) → Has text things (i + 1) j (k + 1) s → Good text things i j k (dictionary_by depth p s)
  unfolding dictionary_by entries_by
  dictionary_good i j k s h = by (list_at after_typed CloseCurly (entry_by depth p) 256 s) refl (list_good text things after_typed mark_fits CloseCurly refl (entry_by depth p) (i + 1) j (k + 1) i j (k + 1) (omega arith) (omega arith) (omega arith) (λ before s g. entry_good i j (k + 1) before s g) 256 s h)
    where
      by : (o : Outcome (Entries × Typed)) → list_at after_typed CloseCurly (entry_by depth p) 256 s ≡ o → Good text things (i + 1) j (k + 1) o → Good text things i j k (o >>= λ es. attr_done (attr.Dict es.0) es.1)
      by (Read es) e g = done_good i j k (attr.Dict es.0) es.1 (count_fine es.0 (few_entries (entry_by depth p) 256 s es.1 es.0 e)) (fits_to g.still (omega arith) (omega arith) (omega arith))
      by Wrong e g = wrong text things
      by Full e g = absurd g.still

  array_good : (i j k : ℕ) (s : Typed) → Has text things i j (k + 1) s → Good text things i j k (array_by depth p s)
  unfolding array_by attrs_by
  array_good i j k s h =
      good_then text things (list_at after_typed CloseSquare (λ before. p) many s) _ (list_good text things after_typed mark_fits CloseSquare refl (λ before. p) i j (k + 1) i j (k + 1) (omega arith) (omega arith) (omega arith) (λ before s g. one i j (k + 1) s g) many s h) (λ xs f.
      done_good i j k (attr.Array xs.0) xs.1 refl f)

-- ---- by the first token

module _ (o : Bool) (types : ℕ) where
  array_word_good : (i j k : ℕ) (rest : List ℕ) (c : ContextModel) → Fits (i + 1) (j + 1) (k + 1) rest c → Good text things i j k (array_word_at o types c rest)
  array_word_good i j k rest c f = by (o && opens_other rest)
    where
      by : (b : Bool) → Good text things i j k (if b then kept_at o types NoType (bracketed 60 array_word (skip rest)) c else dense_at (rest, c))
      by true =
          kept_good o types NoType (bracketed 60 array_word (skip rest)) rest c i j k (within_more (length (skip rest)) (length rest) (bracketed 60 array_word (skip rest)) (skip_length rest) (bracketed_within 60 array_word (skip rest))) (fits_to f (omega arith) (omega arith) (omega arith))
      by false = dense_good i j k (rest, c) (fits_to f (omega arith) (omega arith) (omega arith))

  word_good : (i j k : ℕ) (w : Word) (s : Typed) (rest : List ℕ) → Has text things i j k s → Fits (i + 1) (j + 1) (k + 1) rest s.1 → Good text things i j k (word_attr o types w s rest)
  word_good i j k (Truth b) s rest h f = truth_good i j k b (rest, s.1) (fits_to f (omega arith) (omega arith) (omega arith))
  word_good i j k UnitWord s rest h f = done_good i j k attr.Unit (rest, s.1) refl (fits_to f (omega arith) (omega arith) (omega arith))
  word_good i j k ArrayWord s rest h f = array_word_good i j k rest s.1 f
  word_good i j k TypeWord s rest h f = type_attr_good o types i j k s h

  bare_good : (i j k : ℕ) (tail : Option Tail) (w : List ℕ) (s : Typed) (rest : List ℕ) → Has text things i j k s → Fits (i + 1) (j + 1) (k + 1) rest s.1 → Good text things i j k (bare_attr o types tail w s rest)
  bare_good i j k None w s rest h f = word_good i j k (word_of w) s rest h f
  bare_good i j k (Some tail) w s rest h f = kept_good o types tail (kept_text w rest) rest s.1 i j k (kept_text_within w rest) (fits_to f (omega arith) (omega arith) (omega arith))

  hash_good : (i j k : ℕ) (name : List ℕ) (s : Typed) (rest : List ℕ) → Fits (i + 1) (j + 1) (k + 1) rest s.1 → Good text things i j k (hash_attr o types name s rest)
  hash_good i j k name s rest f = by (bytes_eq name overflow_word) o
    where
      by : (b q : Bool) → Good text things i j k (if b then overflow_at (rest, s.1) else if q then kept_at o types TypeOrNone (dialect_text 35 name rest) s.1 else Wrong)
      by true q = overflow_good i j k (rest, s.1) (fits_to f (omega arith) (omega arith) (omega arith))
      by false true = kept_good o types TypeOrNone (dialect_text 35 name rest) rest s.1 i j k (dialect_within 35 name rest) (fits_to f (omega arith) (omega arith) (omega arith))
      by false false = wrong text things

module _ (o : Bool) (depth : ℕ) (p : Parse Typed ℕ) (one : (i j k : ℕ) (s : Typed) → Has text things i j k s → Good text things i j k (p s)) where
  mark_good : (i j k types : ℕ) (m : Mark) (s : Typed) (rest : List ℕ) → Has text things i j k s → Fits (i + gain (mark m)) (j + gain (mark m)) (k + gain (mark m)) rest s.1 → Good text things i j k (mark_attr o types depth p m s rest)
  mark_good i j k types Minus s rest h f = negative_good o types i j k (rest, s.1) (fits_to f (omega arith) (omega arith) (omega arith))
  mark_good i j k types OpenRound s rest h f = type_attr_good o types i j k s h
  mark_good i j k types OpenSquare s rest h f = array_good depth p one i j k (rest, s.1) (fits_to f (omega arith) (omega arith) (omega arith))
  mark_good i j k types OpenCurly s rest h f = dictionary_good depth p one i j k (rest, s.1) (fits_to f (omega arith) (omega arith) (omega arith))
  mark_good i j k types _ s rest h f = wrong text things

  pub from_good : (i j k types : ℕ) (s : Typed) (l : Lexeme) (rest : List ℕ) → Has text things i j k s → next s.0 ≡ Some (l, rest) → Good text things i j k (attr_from o types depth p s l rest)
  from_good i j k types s (bare w) rest h e = bare_good o types i j k (tail_in o w) w s rest h (token_fits i j k s.0 rest s.1 (bare w) e h)
  from_good i j k types s (mark m) rest h e = mark_good i j k types m s rest h (token_fits i j k s.0 rest s.1 (mark m) e h)
  from_good i j k types s (integer digits) rest h e = literal_good o i j k false digits (rest, s.1) (fits_to (token_fits i j k s.0 rest s.1 (integer digits) e h) (omega arith) (omega arith) (omega arith))
  from_good i j k types s (float digits) rest h e = float_good o types digits i j k (rest, s.1) (fits_to (token_fits i j k s.0 rest s.1 (float digits) e h) (omega arith) (omega arith) (omega arith)) o
  from_good i j k types s (string raw) rest h e = string_or_kept_good o types raw i j k (rest, s.1) (fits_to (token_fits i j k s.0 rest s.1 (string raw) e h) (omega arith) (omega arith) (omega arith))
  from_good i j k types s (symbol n) rest h e = symbol_good i j k s h
  from_good i j k types s (quoted raw) rest h e = symbol_good i j k s h
  from_good i j k types s (hash name) rest h e = hash_good o types i j k name s rest (token_fits i j k s.0 rest s.1 (hash name) e h)
  from_good i j k types s (bang name) rest h e = type_attr_good o types i j k s h
  from_good i j k types s _ rest h e = wrong text things

pub attr_good : (o : Bool) (depth i j k : ℕ) (s : Typed) → Has text things i j k s → Good text things i j k (attr_at o depth s)
unfolding attr_at
attr_good o zero i j k s h = wrong text things
attr_good o (suc depth) i j k s h =
    good_some text things (next s.0) (λ t. attr_from o (suc depth) depth (attr_at o depth) s t.0 t.1) (λ t e. from_good o depth (attr_at o depth) (attr_good o depth) i j k (suc depth) s t.0 t.1 h e)
