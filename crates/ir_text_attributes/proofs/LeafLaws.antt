-- The parser and the grammar of attributes of one token, literals and flags agree.
use Rattle.std.specs.Prelude.{◌&&◌, if◌then◌else◌}
use Rattle.std.specs.Str.{bytes_eq}
use Rattle.std.proofs.Common.{◌≡◌, ℕ, Bool, true, false, List, [], ◌∷◌, Option, Some, None, refl, sym, ap, subst, ◌∙◌, ◌⊎◌, inl, inr}
use Rattle.ir_text_tokens.specs.declared.token.Mark.TheVariants.{Less, Greater, Colon}
use Rattle.ir_text_tokens.specs.Strings.{string_bytes}
use Rattle.ir_text_tokens.specs.Numbers.{integer_of, below_limit}
use Rattle.ir_text_tokens.specs.Tokens.{Lexeme, integer, float, bare}
use Rattle.ir_types.specs.declared.node.Sign.TheVariants.{Signless}
use Rattle.ir_types.specs.declared.node.TypeNode.TheVariants as type
use Rattle.ir_types.specs.declared.node.AttrNode.TheVariants as attr
use Rattle.ir_types.specs.Things.{ContextModel}
use Rattle.ir_types.specs.Terms.{TypeTerm, Integer, AttrTerm, IntegerOf, String, TypeOf, Flag, Overflow, OpaqueOf}
use Rattle.ir_types.specs.Dictionaries.{kept}
use Rattle.ir_types.specs.Readings.{literal_bits}
use Rattle.ir_types.specs.Reasons.{type_fault}
use Rattle.ir_text_attributes.specs.declared.flag.Flag as code
use Rattle.ir_text_types.specs.Outcomes.{Read, Wrong, ◌>>=◌, of_option, Parse}
use Rattle.ir_text_types.specs.Typed.{Text, Typed, after_typed, name_step}
use Rattle.ir_text_attributes.specs.declared.tail.Tail.{Tail}
use Rattle.ir_text_attributes.specs.declared.tail.Tail.TheVariants.{SomeType, TypeOrNone, OpaqueOrNone, NoType}
use Rattle.ir_text_attributes.specs.OpaqueAttributes.{quoted_text, signed_text, is_hexadecimal, is_opaque_type}
use Rattle.ir_text_attributes.specs.Literals.{truth_bits, none_word, flag_of, has_nsw, has_nuw}
use Rattle.ir_text_types.specs.TypeReading.{many, type_done, type_at}
use Rattle.ir_text_attributes.specs.AttrReading.{attr_done, truth_at, string_attr_at, type_attr_at, suffix_from, suffix_at, literal_of, literal_done, literal_at, typed_at, opaque_of, opaque_typed_done, opaque_typed_at, colon_from, tail_at, kept_at, string_at, negative_from, negative_at, flag_from, flag_at, some_flags_at, no_flags_at, flags_from, flags_at, overflow_at}
use Rattle.ir_text_types.specs.Grammars.{Grammar, Then, Done, When, After, Either, IsMore, IsMark, Token}
use Rattle.ir_text_types.specs.TypeGrammar.{IsType}
use Rattle.ir_text_attributes.specs.AttrGrammar.{IsFine, IsTypeAttr, IsSuffix, IsIntegerOf, IsLiteralOf, IsLiteral, IsTyped, IsOpaqueTyped, IsTail, IsKept, IsString, IsNegativeFrom, IsNegative, IsFlag, IsFlags, IsOverflow}
use Rattle.ir_text_types.specs.Worlds.{From}
use Rattle.ir_text_types.specs.Denotation.{NameDenotes, TypeDenotes, AttrDenotes}
use Rattle.ir_text_types.specs.Laws.{Each}
use Rattle.ir_text_types.proofs.Worlds.{bind_assoc, Exact, exact_where, exact_rendered, exact_for, nothing_exact, choice_exact, guard_exact, some_exact, then_exact, done_exact, after_exact, either_exact, more_exact}
use Rattle.ir_text_types.proofs.TextLaws.{things, Same, typed_marks}
use Rattle.ir_text_types.proofs.TokenLaws.{trailing_exact, token_exact}
use Rattle.ir_text_types.proofs.TypeLaws.{type_done_exact, type_exact}
use Rattle.ir_text_attributes.proofs.NodeLaws.{IsNodeOf, moved, done, name_at, name_exact, attr_done_exact, done_then, then_done, done_if_exact}

-- ---- attributes of one token

string_node : (z : ContextModel) (n : ℕ) (y : List ℕ) → NameDenotes z n y → IsNodeOf (attr.Str n) (String y) z
unfolding kept
string_node z n y h = (h.0, ap String h.1)

type_node : (z : ContextModel) (n : ℕ) (y : TypeTerm) → TypeDenotes z n y → IsNodeOf (attr.Ty n) (TypeOf y) z
unfolding kept
type_node z n y h = (h.0, ap TypeOf h.1)

integer_node : (v : ℕ) (z : ContextModel) (n : ℕ) (y : TypeTerm) → TypeDenotes z n y → IsNodeOf (attr.Int n v) (IntegerOf y v) z
unfolding kept
integer_node v z n y h = (h.0, ap (λ t. IntegerOf t v) h.1)

pub unit_node : (z : ContextModel) → IsNodeOf attr.Unit Flag z
unfolding kept
unit_node z = (tt, refl)

overflow_node : (nsw nuw : Bool) (z : ContextModel) → IsNodeOf (attr.Overflow nsw nuw) (Overflow nsw nuw) z
unfolding kept
overflow_node nsw nuw z = (tt, refl)

pub string_exact : (raw : List ℕ) (c : ContextModel) → Exact things Same c AttrDenotes (string_attr_at raw) (IsFine (String (string_bytes raw)))
unfolding string_attr_at
string_exact raw c =
    exact_where things Same c AttrDenotes (string_attr_at raw) (λ s. name_at (string_bytes raw) s >>= λ n. attr_done (attr.Str n.0) n.1) (IsFine (String (string_bytes raw)))
    (λ s g sound. sym (bind_assoc (name_step (string_bytes raw) s.1) (λ n. done (moved s n)) (λ n. attr_done (attr.Str n.0) n.1)))
    (exact_rendered things Same c AttrDenotes (λ s. name_at (string_bytes raw) s >>= λ n. attr_done (attr.Str n.0) n.1) (Then (Done (string_bytes raw)) (λ y. IsFine (String y))) (IsFine (String (string_bytes raw)))
    (done_then (string_bytes raw) (λ y. IsFine (String y))) (then_done (string_bytes raw) (λ y. IsFine (String y)))
    (then_exact things Same c NameDenotes AttrDenotes (name_at (string_bytes raw)) (Done (string_bytes raw)) (λ n. attr_done (attr.Str n)) (λ y. IsFine (String y)) (name_exact c (string_bytes raw)) (λ d n y g r.
    attr_done_exact d (attr.Str n) (String y) (refl, refl) (λ z k w. string_node z n y (r z k w)))))

-- a signless integer type of a valid width
pub signless_exact : (w : ℕ) → type_fault (Integer Signless w) ≡ None → (c : ContextModel) → Exact things Same c TypeDenotes (type_done (type.Int Signless w)) (Done (Integer Signless w))
signless_exact w fine c = done_if_exact c TypeDenotes (type_done (type.Int Signless w)) (type_fault (Integer Signless w) ≡ None) (Integer Signless w) fine (type_done_exact c (type.Int Signless w) (Integer Signless w) (λ z g k. (tt, refl)))

pub truth_exact : (b : Bool) (c : ContextModel) → Exact things Same c AttrDenotes (truth_at b) (IsFine (IntegerOf (Integer Signless 1) (truth_bits b)))
unfolding truth_at
truth_exact b c =
    exact_rendered things Same c AttrDenotes (λ s. type_done (type.Int Signless 1) s >>= λ t. attr_done (attr.Int t.0 (truth_bits b)) t.1) (Then (Done (Integer Signless 1)) (λ y. IsFine (IntegerOf y (truth_bits b)))) (IsFine (IntegerOf (Integer Signless 1) (truth_bits b)))
    (done_then (Integer Signless 1) (λ y. IsFine (IntegerOf y (truth_bits b)))) (then_done (Integer Signless 1) (λ y. IsFine (IntegerOf y (truth_bits b))))
    (then_exact things Same c TypeDenotes AttrDenotes (type_done (type.Int Signless 1)) (Done (Integer Signless 1)) (λ t. attr_done (attr.Int t (truth_bits b))) (λ y. IsFine (IntegerOf y (truth_bits b))) (signless_exact 1 refl c) (λ d t y g r.
    attr_done_exact d (attr.Int t (truth_bits b)) (IntegerOf y (truth_bits b)) (refl, refl) (λ z k w. integer_node (truth_bits b) z t y (r z k w))))

pub type_attr_exact : (o : Bool) (depth : ℕ) (c : ContextModel) → Exact things Same c AttrDenotes (type_attr_at o depth) (IsTypeAttr o depth)
unfolding type_attr_at
type_attr_exact o depth c =
    then_exact things Same c TypeDenotes AttrDenotes (type_at o depth) (IsType o depth) (λ t. attr_done (attr.Ty t)) (λ t. IsFine (TypeOf t)) (type_exact o depth c) (λ d t y g r.
    attr_done_exact d (attr.Ty t) (TypeOf y) (refl, refl) (λ z k w. type_node z t y (r z k w)))

-- ---- literals

suffix_exact : (o : Bool) (c : ContextModel) → Exact things Same c TypeDenotes (suffix_at o) (IsSuffix o)
unfolding suffix_at
suffix_exact o c =
    either_exact things Same after_typed IsMark typed_marks c TypeDenotes Colon (suffix_from o) (type_at o 32) (type_done (type.Int Signless 64)) (IsType o 32) (Done (Integer Signless 64)) (λ s mid. refl) (λ s. refl) (type_exact o 32 c) (signless_exact 64 refl c)

opaque_node : (text : List ℕ) (z : ContextModel) (n : ℕ) (y : TypeTerm) → TypeDenotes z n y → IsNodeOf (attr.Opaque text (Some n)) (OpaqueOf text (Some y)) z
unfolding kept
opaque_node text z n y h = (h.0, ap (λ t. OpaqueOf text (Some t)) h.1)

untyped_node : (text : List ℕ) (z : ContextModel) → IsNodeOf (attr.Opaque text None) (OpaqueOf text None) z
unfolding kept
untyped_node text z = (tt, refl)

opaque_exact : (text : List ℕ) (c : ContextModel) (t : ℕ) (ty : TypeTerm) → From (λ z. TypeDenotes z t ty) c → Exact things Same c AttrDenotes (attr_done (attr.Opaque text (Some t))) (IsFine (OpaqueOf text (Some ty)))
opaque_exact text c t ty r = attr_done_exact c (attr.Opaque text (Some t)) (OpaqueOf text (Some ty)) (refl, refl) (λ z k w. opaque_node text z t ty (r z k w))

untyped_exact : (text : List ℕ) (c : ContextModel) → Exact things Same c AttrDenotes (attr_done (attr.Opaque text None)) (IsFine (OpaqueOf text None))
untyped_exact text c = attr_done_exact c (attr.Opaque text None) (OpaqueOf text None) (refl, refl) (λ z k w. untyped_node text z)

integer_exact : (negative : Bool) (n : ℕ) (c : ContextModel) (t : ℕ) (ty : TypeTerm) → From (λ z. TypeDenotes z t ty) c → Exact things Same c AttrDenotes (λ s. of_option (literal_bits ty negative n) >>= λ bits. attr_done (attr.Int t bits) s) (IsIntegerOf negative n ty)
integer_exact negative n c t ty r =
    some_exact things Same c AttrDenotes (literal_bits ty negative n) (λ bits. attr_done (attr.Int t bits)) (λ bits. IsFine (IntegerOf ty bits)) (λ bits.
    attr_done_exact c (attr.Int t bits) (IntegerOf ty bits) (refl, refl) (λ z k w. integer_node bits z t ty (r z k w)))

literal_of_exact : (negative : Bool) (digits : List ℕ) (n : ℕ) (c : ContextModel) (t : ℕ) (ty : TypeTerm) → From (λ z. TypeDenotes z t ty) c → Exact things Same c AttrDenotes (literal_of negative digits n t ty) (IsLiteralOf negative digits n ty)
literal_of_exact negative digits n c t ty r =
    choice_exact things Same c AttrDenotes (is_opaque_type ty && is_hexadecimal digits) (attr_done (attr.Opaque (signed_text negative digits) (Some t))) (λ s. of_option (literal_bits ty negative n) >>= λ bits. attr_done (attr.Int t bits) s)
    (IsFine (OpaqueOf (signed_text negative digits) (Some ty))) (IsIntegerOf negative n ty) (opaque_exact (signed_text negative digits) c t ty r) (integer_exact negative n c t ty r)

literal_done_exact : (negative : Bool) (digits : List ℕ) (n : ℕ) (c : ContextModel) (t : ℕ) (ty : TypeTerm) → From (λ z. TypeDenotes z t ty) c → Exact things Same c AttrDenotes (literal_done negative digits n t) (IsLiteralOf negative digits n ty)
unfolding literal_done
literal_done_exact negative digits n c t ty r =
    exact_where things Same c AttrDenotes (literal_done negative digits n t) (literal_of negative digits n t ty) (IsLiteralOf negative digits n ty) (λ s g sound. ap (λ u. literal_of negative digits n t u s) (r s.1 g sound).1)
    (literal_of_exact negative digits n c t ty r)

pub literal_exact : (o negative : Bool) (digits : List ℕ) (c : ContextModel) → Exact things Same c AttrDenotes (literal_at o negative digits) (IsLiteral o negative digits)
unfolding literal_at
literal_exact o negative digits c =
    some_exact things Same c AttrDenotes (below_limit (integer_of digits)) (λ n s. suffix_at o s >>= λ t. literal_done negative digits n t.0 t.1) (λ n. Then (IsSuffix o) (IsLiteralOf negative digits n)) (λ n.
    then_exact things Same c TypeDenotes AttrDenotes (suffix_at o) (IsSuffix o) (literal_done negative digits n) (IsLiteralOf negative digits n) (suffix_exact o c) (λ d t ty g r. literal_done_exact negative digits n d t ty r))

-- ---- opaque attributes

module _ (o : Bool) (types : ℕ) where
  typed_exact : (text : List ℕ) (c : ContextModel) → Exact things Same c AttrDenotes (typed_at o types text) (IsTyped o types text)
  unfolding typed_at
  typed_exact text c =
      then_exact things Same c TypeDenotes AttrDenotes (type_at o types) (IsType o types) (λ t. attr_done (attr.Opaque text (Some t))) (λ t. IsFine (OpaqueOf text (Some t))) (type_exact o types c) (λ d t y g r. opaque_exact text d t y r)

  opaque_done_exact : (text : List ℕ) (c : ContextModel) (t : ℕ) (ty : TypeTerm) → From (λ z. TypeDenotes z t ty) c → Exact things Same c AttrDenotes (opaque_typed_done o t text) (When (is_opaque_type ty ≡ true) (IsFine (OpaqueOf text (Some ty))))
  unfolding opaque_typed_done
  opaque_done_exact text c t ty r =
      exact_where things Same c AttrDenotes (opaque_typed_done o t text) (opaque_of o t text ty) (When (is_opaque_type ty ≡ true) (IsFine (OpaqueOf text (Some ty)))) (λ s g sound. ap (λ u. opaque_of o t text u s) (r s.1 g sound).1)
      (guard_exact things Same c AttrDenotes (is_opaque_type ty) (attr_done (attr.Opaque text (Some t))) (IsFine (OpaqueOf text (Some ty))) (opaque_exact text c t ty r))

  opaque_typed_exact : (text : List ℕ) (c : ContextModel) → Exact things Same c AttrDenotes (opaque_typed_at o types text) (IsOpaqueTyped o types text)
  unfolding opaque_typed_at
  opaque_typed_exact text c =
      then_exact things Same c TypeDenotes AttrDenotes (type_at o types) (IsType o types) (λ t. opaque_typed_done o t text) (λ t. When (is_opaque_type t ≡ true) (IsFine (OpaqueOf text (Some t)))) (type_exact o types c) (λ d t y g r. opaque_done_exact text d t y r)

  pub tail_exact : (tail : Tail) (text : List ℕ) (c : ContextModel) → Exact things Same c AttrDenotes (tail_at o types tail text) (IsTail o types tail text)
  tail_exact SomeType text c = after_exact things Same after_typed IsMark typed_marks c AttrDenotes Colon (typed_at o types text) (IsTyped o types text) (typed_exact text c)
  tail_exact TypeOrNone text c =
      either_exact things Same after_typed IsMark typed_marks c AttrDenotes Colon (colon_from o (typed_at o types text) (attr_done (attr.Opaque text None))) (typed_at o types text) (attr_done (attr.Opaque text None)) (IsTyped o types text) (IsFine (OpaqueOf text None))
      (λ s mid. refl) (λ s. refl) (typed_exact text c) (untyped_exact text c)
  tail_exact OpaqueOrNone text c =
      either_exact things Same after_typed IsMark typed_marks c AttrDenotes Colon (colon_from o (opaque_typed_at o types text) (attr_done (attr.Opaque text None))) (opaque_typed_at o types text) (attr_done (attr.Opaque text None)) (IsOpaqueTyped o types text) (IsFine (OpaqueOf text None))
      (λ s mid. refl) (λ s. refl) (opaque_typed_exact text c) (untyped_exact text c)
  tail_exact NoType text c = untyped_exact text c

  pub kept_exact : (tail : Tail) (found : Option (List ℕ × List ℕ)) (c : ContextModel) → Exact things Same c AttrDenotes (λ s. kept_at o types tail found s.1) (λ y old new. IsKept o types tail found y new)
  kept_exact tail found c =
      some_exact things Same c AttrDenotes found (λ x s. tail_at o types tail x.0 (x.1, s.1)) (λ x y old new. IsTail o types tail x.0 y x.1 new) (λ x.
      trailing_exact c AttrDenotes x.1 (tail_at o types tail x.0) (IsTail o types tail x.0) (tail_exact tail x.0 c))

  -- the digits of a float
  pub float_exact : (text rest : List ℕ) (c : ContextModel) → Exact things Same c AttrDenotes (λ s. if o then tail_at o types OpaqueOrNone text (rest, s.1) else Wrong) (λ y old new. (o ≡ true) × IsTail o types OpaqueOrNone text y rest new)
  float_exact text rest c =
      guard_exact things Same c AttrDenotes o (λ s. tail_at o types OpaqueOrNone text (rest, s.1)) (λ y old new. IsTail o types OpaqueOrNone text y rest new)
      (trailing_exact c AttrDenotes rest (tail_at o types OpaqueOrNone text) (IsTail o types OpaqueOrNone text) (tail_exact OpaqueOrNone text c))

  pub string_or_kept_exact : (raw : List ℕ) (c : ContextModel) → Exact things Same c AttrDenotes (string_at o types raw) (IsString o types raw)
  string_or_kept_exact raw c =
      choice_exact things Same c AttrDenotes o (λ s. colon_from o (typed_at o types (quoted_text raw)) (string_attr_at raw) s (after_typed Colon s)) (string_attr_at raw)
      (Either IsMark Colon (IsTyped o types (quoted_text raw)) (IsFine (String (string_bytes raw)))) (IsFine (String (string_bytes raw)))
      (either_exact things Same after_typed IsMark typed_marks c AttrDenotes Colon (colon_from o (typed_at o types (quoted_text raw)) (string_attr_at raw)) (typed_at o types (quoted_text raw)) (string_attr_at raw) (IsTyped o types (quoted_text raw)) (IsFine (String (string_bytes raw)))
      (λ s mid. refl) (λ s. refl) (typed_exact (quoted_text raw) c) (string_exact raw c))
      (string_exact raw c)

  negative_from_exact : (c : ContextModel) (l : Lexeme) (rest : Text) → Exact things Same c AttrDenotes (λ s. negative_from o types s.1 l rest) (λ y old new. IsNegativeFrom o types l y rest new)
  negative_from_exact c (integer digits) rest = trailing_exact c AttrDenotes rest (literal_at o true digits) (IsLiteral o true digits) (literal_exact o true digits c)
  negative_from_exact c (float digits) rest = float_exact (45 ∷ digits) rest c
  negative_from_exact c _ rest = nothing_exact things Same c AttrDenotes

  pub negative_exact : (c : ContextModel) → Exact things Same c AttrDenotes (negative_at o types) (IsNegative o types)
  unfolding negative_at
  negative_exact c = token_exact c AttrDenotes (λ s l rest. negative_from o types s.1 l rest) (λ l rest y old new. IsNegativeFrom o types l y rest new) (negative_from_exact c)

-- ---- flags

-- a flag denotes itself
abbrev pub FlagDenotes : ContextModel → code.Flag → code.Flag → Type 0
FlagDenotes z x y = x ≡ y

abbrev pub FlagsDenote : ContextModel → List code.Flag → List code.Flag → Type 0
FlagsDenote z xs ys = xs ≡ ys

each_same : (z : ContextModel) (xs ys : List code.Flag) → Each FlagDenotes z xs ys → xs ≡ ys
each_same z [] [] h = refl
each_same z [] (y ∷ ys) h = absurd h
each_same z (x ∷ xs) [] h = absurd h
each_same z (x ∷ xs) (y ∷ ys) h = λ i. h.0 i ∷ each_same z xs ys h.1 i

abbrev FlagOf : List ℕ → Grammar Text code.Flag
FlagOf w y old new = (f : code.Flag) × (flag_of w ≡ Some f) × Done f y old new

abbrev FlagFrom : Lexeme → Text → Grammar Text code.Flag
FlagFrom (bare w) rest y old new = FlagOf w y rest new
FlagFrom _ rest y old new = ⊥

flag_from_exact : (c : ContextModel) (l : Lexeme) (rest : Text) → Exact things Same c FlagDenotes (λ s. flag_from s.1 l rest) (FlagFrom l rest)
flag_from_exact c (bare w) rest =
    trailing_exact c FlagDenotes rest (λ s. of_option (flag_of w) >>= λ f. Read (f, s)) (FlagOf w)
    (some_exact things Same c FlagDenotes (flag_of w) (λ f s. Read (f, s)) (λ f. Done f) (λ f. done_exact things Same c FlagDenotes f f (λ z g k. refl)))
flag_from_exact c _ rest = nothing_exact things Same c FlagDenotes

flag_into : (y : code.Flag) (t t' : Text) → (l : Lexeme) × (rest : Text) × Token l t rest × FlagFrom l rest y t t' → IsFlag y t t'
flag_into y t t' k = by_token k.0 k.1 k.2 k.3
  where
    by_token : (l : Lexeme) (rest : Text) → Token l t rest → FlagFrom l rest y t t' → IsFlag y t t'
    by_token (bare w) rest token k = (w, subst (λ r. Token (bare w) t r) (sym k.2.1) token, k.1 ∙ ap Some (sym k.2.0))
    by_token _ rest token k = absurd k

flag_exact : (c : ContextModel) → Exact things Same c FlagDenotes flag_at IsFlag
unfolding flag_at
flag_exact c =
    exact_rendered things Same c FlagDenotes flag_at (λ y old new. (l : Lexeme) × (rest : Text) × Token l old rest × FlagFrom l rest y old new) IsFlag flag_into (λ y t t' k. (bare k.0, t', k.1, (y, k.2, (refl, refl))))
    (token_exact c FlagDenotes (λ s l rest. flag_from s.1 l rest) FlagFrom (flag_from_exact c))

abbrev SomeFlags : Grammar Text (List code.Flag)
SomeFlags = IsMore IsMark Greater (λ before. IsFlag) many []

some_flags_exact : (c : ContextModel) → Exact things Same c FlagsDenote some_flags_at SomeFlags
unfolding some_flags_at
some_flags_exact c =
    exact_for things Same c (Each FlagDenotes) FlagsDenote some_flags_at SomeFlags each_same
    (more_exact things Same after_typed IsMark typed_marks FlagDenotes Greater (λ before. flag_at) (λ before. IsFlag) (λ d xs ys r. flag_exact d) many c [] [] (λ z g k. tt))

abbrev NoFlags : Grammar Text (List code.Flag)
NoFlags fs old new = IsMark Greater old new × (fs ≡ [])

no_flags_exact : (c : ContextModel) → Exact things Same c FlagsDenote no_flags_at NoFlags
unfolding no_flags_at
no_flags_exact c =
    exact_rendered things Same c FlagsDenote no_flags_at (After IsMark Greater (Done [])) NoFlags (λ y t t' k. (subst (λ r. IsMark Greater t r) (sym k.2.1) k.1, k.2.0)) (λ y t t' k. (t', k.0, (k.1, refl)))
    (after_exact things Same after_typed IsMark typed_marks c FlagsDenote Greater (λ s. Read ([], s)) (Done []) (done_exact things Same c FlagsDenote [] [] (λ z g k. refl)))

abbrev FlagsFrom : Lexeme → Text → Grammar Text (List code.Flag)
FlagsFrom (bare w) rest fs old new = ((bytes_eq w none_word ≡ true) × NoFlags fs rest new) ⊎ ((bytes_eq w none_word ≡ false) × SomeFlags fs old new)
FlagsFrom _ rest fs old new = ⊥

flags_from_exact : (c : ContextModel) (l : Lexeme) (rest : Text) → Exact things Same c FlagsDenote (λ s. flags_from s l rest) (FlagsFrom l rest)
flags_from_exact c (bare w) rest =
    choice_exact things Same c FlagsDenote (bytes_eq w none_word) (λ s. no_flags_at (rest, s.1)) some_flags_at (λ fs old new. NoFlags fs rest new) SomeFlags (trailing_exact c FlagsDenote rest no_flags_at NoFlags (no_flags_exact c)) (some_flags_exact c)
flags_from_exact c _ rest = nothing_exact things Same c FlagsDenote

flags_into : (y : List code.Flag) (t t' : Text) → (l : Lexeme) × (rest : Text) × Token l t rest × FlagsFrom l rest y t t' → IsFlags y t t'
flags_into y t t' k = by_token k.0 k.1 k.2 k.3
  where
    by_token : (l : Lexeme) (rest : Text) → Token l t rest → FlagsFrom l rest y t t' → IsFlags y t t'
    by_token (bare w) rest token (inl k) = (w, rest, token, inl (k.0, k.1.0, k.1.1))
    by_token (bare w) rest token (inr k) = (w, rest, token, inr k)
    by_token _ rest token k = absurd k

flags_back : (y : List code.Flag) (t t' : Text) → IsFlags y t t' → (l : Lexeme) × (rest : Text) × Token l t rest × FlagsFrom l rest y t t'
flags_back y t t' k = (bare k.0, k.1, k.2, by_case k.3)
  where
    by_case : ((bytes_eq k.0 none_word ≡ true) × IsMark Greater k.1 t' × (y ≡ [])) ⊎ ((bytes_eq k.0 none_word ≡ false) × SomeFlags y t t') → FlagsFrom (bare k.0) k.1 y t t'
    by_case (inl j) = inl (j.0, (j.1, j.2))
    by_case (inr j) = inr j

flags_exact : (c : ContextModel) → Exact things Same c FlagsDenote flags_at IsFlags
unfolding flags_at
flags_exact c =
    exact_rendered things Same c FlagsDenote flags_at (λ y old new. (l : Lexeme) × (rest : Text) × Token l old rest × FlagsFrom l rest y old new) IsFlags flags_into flags_back
    (token_exact c FlagsDenote flags_from FlagsFrom (flags_from_exact c))

pub overflow_exact : (c : ContextModel) → Exact things Same c AttrDenotes overflow_at IsOverflow
unfolding overflow_at
overflow_exact c =
    after_exact things Same after_typed IsMark typed_marks c AttrDenotes Less (λ s. flags_at s >>= λ f. attr_done (attr.Overflow (has_nsw f.0) (has_nuw f.0)) f.1) (Then IsFlags (λ fs. IsFine (Overflow (has_nsw fs) (has_nuw fs))))
    (then_exact things Same c FlagsDenote AttrDenotes flags_at IsFlags (λ f. attr_done (attr.Overflow (has_nsw f) (has_nuw f))) (λ fs. IsFine (Overflow (has_nsw fs) (has_nuw fs))) (flags_exact c) (λ d fs gs g r.
    attr_done_exact d (attr.Overflow (has_nsw fs) (has_nuw fs)) (Overflow (has_nsw gs) (has_nuw gs)) (refl, refl) (λ z k w. subst (λ l. IsNodeOf (attr.Overflow (has_nsw fs) (has_nuw fs)) (Overflow (has_nsw l) (has_nuw l)) z) (r z k w) (overflow_node (has_nsw fs) (has_nuw fs) z))))
