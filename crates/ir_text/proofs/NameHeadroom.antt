-- A parse of the text alone stays within the capacity, since it adds nothing.
use Rattle.std.proofs.Common.{◌≡◌, ◌+◌, ℕ, Bool, true, false, List, [], length, slice_get, Option, Some, None, refl, arith}
use Rattle.std.specs.Prelude.{if◌then◌else◌, ◌==◌, nat_le}
use Rattle.std.specs.List.{list_all}
use Rattle.std.specs.Char.{is_ascii_digit}
use Rattle.ir_text_tokens.specs.declared.token.Mark.{Mark}
use Rattle.ir_text_tokens.specs.declared.token.Mark.TheVariants.{OpenRound, CloseRound, Equal, Colon}
use Rattle.ir_text_tokens.specs.Tokens.{Lexeme, mark, integer, string, value, hash, next}
use Rattle.ir_text_tokens.specs.Strings.{string_bytes}
use Rattle.ir_text_tokens.specs.Numbers.{integer_of, place_value}
use Rattle.ir_text_tokens.specs.Scopes.{Binding}
use Rattle.ir_types.specs.Things.{ContextModel}
use Rattle.ir_text_types.specs.Marks.{after}
use Rattle.ir_text_types.specs.Outcomes.{Outcome, Read, Wrong}
use Rattle.ir_text_operations.specs.names.declared.bound.TypedValue.{TypedValue}
use Rattle.ir_text_operations.specs.names.Packs.{Counted, counts}
use Rattle.ir_text_types.specs.Typed.{Text}
use Rattle.ir_text_operations.specs.names.NameReading.{name_from, value_name_at, number_from, nonzero_at, some_count, count_within, count_at, result_at, names_at, results_from, results_at}
use Rattle.ir_text_operations.specs.Free.{pack_denoted_by}
use Rattle.ir_text_operations.specs.PrecedingReading.{op_name_from, op_name_at, place_of, place_from, place_at, member_at, Frees, use_from, use_at, uses_at, start_at}
use Rattle.ir_text.specs.Headroom.{Fits}
use Rattle.ir_text.proofs.Lengths.{gain}
use Rattle.ir_text.proofs.Fits.{fits_to, after_length, Good, wrong, reads, good_then, good_some, more_good, list_good}
use Rattle.ir_text.proofs.Steps.{token_fits}

-- the text itself, with a fixed context
abbrev pub same : Text → List ℕ
same b = b

module _ (c : ContextModel) where
  abbrev pub held : Text → ContextModel
  held b = c

  pub mark_passes : (m : Mark) → gain (mark m) ≡ 1 → (i j k : ℕ) (b r : Text) → after m b ≡ Some r → Fits i j k b c → Fits (i + 1) (j + 1) (k + 1) r c
  mark_passes m one i j k b r e h = let l = after_length m b r e in fits_to h (omega (arith, l, one)) (omega (arith, l, one)) (omega (arith, l, one))

  pub name_at_good : (i j k : ℕ) (b : Text) → Fits i j k b c → Good same held i j k (value_name_at b)
  unfolding value_name_at
  name_at_good i j k b h = good_some same held (next b) (λ t. name_from t.0 t.1) (λ t e. by t.0 t.1 e)
    where
      by : (l : Lexeme) (rest : List ℕ) → next b ≡ Some (l, rest) → Good same held i j k (name_from l rest)
      by (value n) rest e = reads same held (n, rest) (fits_to (token_fits i j k b rest c (value n) e h) (omega arith) (omega arith) (omega arith))
      by _ rest e = wrong same held

  number_good : (i j k : ℕ) (b : Text) → Fits i j k b c → Good same held i j k (nonzero_at b)
  unfolding nonzero_at
  number_good i j k b h = good_some same held (next b) (λ t. number_from t.0 t.1) (λ t e. by t.0 t.1 e)
    where
      by_test : (p : Bool) (n : ℕ) (rest : Text) → Fits i j k rest c → Good same held i j k (if p then Read (n, rest) else Wrong)
      by_test true n rest f = reads same held (n, rest) f
      by_test false n rest f = wrong same held

      by : (l : Lexeme) (rest : List ℕ) → next b ≡ Some (l, rest) → Good same held i j k (number_from l rest)
      by (integer digits) rest e = by_test (nat_le 1 (integer_of digits)) (integer_of digits) rest (fits_to (token_fits i j k b rest c (integer digits) e h) (omega arith) (omega arith) (omega arith))
      by _ rest e = wrong same held

  count_good : (i j k before : ℕ) (b : Text) → Fits i j k b c → Good same held i j k (count_at before b)
  unfolding count_at
  count_good i j k before b h = good_then same held (some_count b (after Colon b)) (count_within before) (by (after Colon b) refl) (λ x f. by_test (nat_le (before + x.0) 256) x f)
    where
      by : (o : Option Text) → after Colon b ≡ o → Good same held i j k (some_count b o)
      by (Some r) e = number_good i j k r (fits_to (mark_passes Colon refl i j k b r e h) (omega arith) (omega arith) (omega arith))
      by None e = reads same held (1, b) h

      by_test : (p : Bool) (x : ℕ × Text) → Fits i j k x.1 c → Good same held i j k (if p then Read x else Wrong)
      by_test true x f = reads same held x f
      by_test false x f = wrong same held

  result_good : (i j k before : ℕ) (b : Text) → Fits i j k b c → Good same held i j k (result_at before b)
  unfolding result_at
  result_good i j k before b h =
      good_then same held (value_name_at b) _ (name_at_good i j k b h) (λ n f.
      good_then same held (count_at before n.1) _ (count_good i j k before n.1 f) (λ m g.
      reads same held ((n.0, m.0), m.1) g))

  results_good : (i j k : ℕ) (b : Text) → Fits i j k b c → Good same held i j k (results_at b)
  unfolding results_at names_at
  results_good i j k b h = good_some same held (next b) (λ t. results_from b t.0) (λ t e. by t.0)
    where
      some : List Counted × Text → Outcome (Option (List Counted) × Text)
      some x = Read (Some x.0, x.1)

      by : (l : Lexeme) → Good same held i j k (results_from b l)
      by (value n) = good_then same held (names_at b) some (more_good same held after mark_passes Equal refl (λ before. result_at (counts before)) i j k i j k (omega arith) (omega arith) (omega arith) (λ before s g. result_good i j k (counts before) s g) 256 [] b h) (λ x f. reads same held (Some x.0, x.1) f)
      by _ = reads same held (None, b) h

  op_name_good : (i j k : ℕ) (b : Text) → Fits i j k b c → Good same held (i + 2) (j + 2) (k + 2) (op_name_at b)
  unfolding op_name_at
  op_name_good i j k b h = good_some same held (next b) (λ t. op_name_from t.0 t.1) (λ t e. by t.0 t.1 e)
    where
      by_test : (p : Bool) (n : List ℕ) (rest : Text) → Fits (i + 2) (j + 2) (k + 2) rest c → Good same held (i + 2) (j + 2) (k + 2) (if p then Wrong else Read (n, rest))
      by_test true n rest f = wrong same held
      by_test false n rest f = reads same held (n, rest) f

      by : (l : Lexeme) (rest : List ℕ) → next b ≡ Some (l, rest) → Good same held (i + 2) (j + 2) (k + 2) (op_name_from l rest)
      by (string raw) rest e = by_test (length (string_bytes raw) == 0) (string_bytes raw) rest (token_fits i j k b rest c (string raw) e h)
      by _ rest e = wrong same held

  place_good : (i j k : ℕ) (b : Text) → Fits i j k b c → Good same held i j k (place_at b)
  unfolding place_at
  place_good i j k b h = by (next b) refl
    where
      by_test : (p : Bool) (n : ℕ) (rest : Text) → Fits i j k rest c → Good same held i j k (if p then Read (n, rest) else Wrong)
      by_test true n rest f = reads same held (n, rest) f
      by_test false n rest f = wrong same held

      by_token : (l : Lexeme) (rest : List ℕ) → next b ≡ Some (l, rest) → Good same held i j k (place_of b l rest)
      by_token (hash digits) rest e = by_test (list_all is_ascii_digit digits) (place_value 10 digits) rest (fits_to (token_fits i j k b rest c (hash digits) e h) (omega arith) (omega arith) (omega arith))
      by_token _ rest e = reads same held (0, b) h

      by : (o : Option (Lexeme × Text)) → next b ≡ o → Good same held i j k (place_from b o)
      by None e = reads same held (0, b) h
      by (Some t) e = by_token t.0 t.1 e

  use_good : (i j k : ℕ) (free : Frees) (here : List (Binding (List TypedValue))) (b : Text) → Fits i j k b c → Good same held i j k (use_at free here b)
  unfolding use_at member_at
  use_good i j k free here b h = good_some same held (next b) (λ t. use_from free here t.0 t.1) (λ t e. by t.0 t.1 e)
    where
      by : (l : Lexeme) (rest : List ℕ) → next b ≡ Some (l, rest) → Good same held i j k (use_from free here l rest)
      by (value n) rest e =
          good_some same held (pack_denoted_by free here n) (λ pack. member_at pack rest) (λ pack s.
          good_then same held (place_at rest) _ (place_good i j k rest (fits_to (token_fits i j k b rest c (value n) e h) (omega arith) (omega arith) (omega arith))) (λ m f.
          good_some same held (slice_get pack m.0) _ (λ v g. reads same held (v, m.1) f)))
      by _ rest e = wrong same held

  pub start_good : (i j k : ℕ) (free : Frees) (here : List (Binding (List TypedValue))) (b : Text) → Fits i j k b c → Good same held (i + 2) j k (start_at free here b)
  unfolding start_at uses_at
  start_good i j k free here b h =
      good_then same held (results_at b) _ (results_good i j k b h) (λ results f.
      good_then same held (op_name_at results.1) _ (op_name_good i j k results.1 f) (λ name g.
      good_some same held (after OpenRound name.1) _ (λ o e.
      good_then same held (uses_at free here o) _ (list_good same held after mark_passes CloseRound refl (λ before. use_at free here) (i + 2) j k (i + 2) j k (omega arith) (omega arith) (omega arith) (λ before s m. use_good (i + 2) j k free here s m) 256 o (fits_to (mark_passes OpenRound refl (i + 2) (j + 2) (k + 2) name.1 o e g) (omega arith) (omega arith) (omega arith))) (λ operands m.
      reads same held (record { results = results.0; name = name.0; operands = operands.0 }, operands.1) m))))
