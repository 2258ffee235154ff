-- The printed text of a number spells the number.
use Rattle.std.proofs.Common.{◌≡◌, ◌∙◌, ℕ, zero, suc, ◌^◌, ◌<◌, ◌≤◌, ◌==◌, Bool, true, false, List, [], ◌∷◌, ◌++◌, length, append_assoc, append-nil, Option, Some, None, refl, sym, ap, subst, arith, ◌⊎◌, inl, inr, if◌then◌else◌}
use Rattle.std.specs.Fmt.{decimal}
use Rattle.std.specs.Char.{is_ascii_digit}
use Rattle.std.proofs.lemmas.Bool.Decides.{nat_tests}
use Rattle.ir_text_tokens.specs.declared.token.Mark.{Mark}
use Rattle.ir_text_tokens.specs.declared.token.Mark.TheVariants.{OpenRound, CloseRound, Comma, Minus}
use Rattle.ir_text_tokens.specs.Bytes.{is_suffix, is_word}
use Rattle.ir_text_tokens.specs.Printing.{Stops, extends_integer}
use Rattle.ir_text_tokens.specs.Tokens.{Lexeme, mark, bare, integer, next, digits_len}
use Rattle.ir_text_tokens.proofs.Decimals.{decimal_number, first_passes, integer_again}
use Rattle.ir_text_tokens.proofs.Places.{is_below}
use Rattle.ir_text_tokens.proofs.Printed.{blank_passed, bare_token, decimal_token, mark_token}
use Rattle.ir_text_types.specs.Grammars.{Grammar, Not, IsMark, IsMore}
use Rattle.ir_text_types.specs.Marks.{mark_code}
use Rattle.ir_text_types.specs.Typed.{Text}
use Rattle.user_patterns_text.specs.Syntax.{Number, Numbers, literal, named, called, no_numbers, next_number, number_list, numbers_of}
use Rattle.user_patterns_text.specs.Heads.{Head, of_word, of_operation, head_of, has_dot, magnitude_of}
use Rattle.user_patterns_text.specs.Grammar.{most, IsWord, IsWordOf, IsNumberOf, IsNumber}
use Rattle.user_patterns_text.specs.Printing.{show_number, show_numbers, show_more, IsName, FitsNumber, FitsList, FitsRest}

-- ---- the text after a number or a name

pub record Ends (rest : Text) : Type 0 where
  pub stops : Stops is_suffix rest
  pub round : Not IsMark OpenRound rest

either : (b : Bool) → ((b ≡ true) ⊎ (b ≡ false))
either true = inl refl
either false = inr refl

pub stops_word : (rest : Text) → Stops is_suffix rest → Stops is_word rest
stops_word [] s = tt
stops_word (c ∷ cs) s = elim (either (is_word c)) [
  | inl t ↦ let z : is_suffix c ≡ true = rw t refl in absurd cc
  | inr f ↦ f
]

pub stops_integer : (rest : Text) → Stops is_suffix rest → Stops extends_integer rest
stops_integer [] s = tt
stops_integer (c ∷ cs) s = elim (either (extends_integer c)) [
  | inl t ↦ let z : is_suffix c ≡ true = grind (arith, nat_tests) in absurd cc
  | inr f ↦ f
]

-- a text whose next token is a mark doesn't have another mark next
abbrev pub code_at : Option (Lexeme × Text) → ℕ
code_at None = 200
code_at (Some (mark m, rest)) = mark_code m
code_at (Some (_, rest)) = 201

pub not_mark : (m k : Mark) (bytes rest : Text) → next bytes ≡ Some (mark m, rest) → ((mark_code m ≡ mark_code k) → ⊥) → Not IsMark k bytes
not_mark m k bytes rest is other = λ new t. other (ap code_at (sym is ∙ t))

pub close_ends : (rest : Text) → Ends (41 ∷ rest)
close_ends rest = record { stops = refl; round = not_mark CloseRound OpenRound (41 ∷ rest) rest (mark_token CloseRound rest tt) (λ e. absurd (omega (arith, e))) }

pub comma_ends : (rest : Text) → Ends (44 ∷ rest)
comma_ends rest = record { stops = refl; round = not_mark Comma OpenRound (44 ∷ rest) rest (mark_token Comma rest tt) (λ e. absurd (omega (arith, e))) }

-- ---- words and literals

pub word_head : (w : List ℕ) (P : Head → Type 0) → has_dot w ≡ false → P (of_word w) → P (head_of (bare w))
word_head w P dot h = subst (λ (b : Bool). P (if b then of_operation w else of_word w)) (sym dot) h

pub word_rendered : (w start rest : Text) → IsName w → next start ≡ next (w ++ rest) → Stops is_suffix rest → IsWord w start rest
word_rendered w start rest name same s =
    (bare w, rest, same ∙ bare_token w rest name.0 (stops_word rest s), word_head w (λ h. IsWordOf h w rest rest) name.1 (refl, refl))

pub magnitude_again : (n : ℕ) → n < 2 ^ 128 → magnitude_of (decimal n) ≡ Some n
magnitude_again n lt = rw (integer_again n lt) (is_below n lt)

no_arrow_after : (c : ℕ) → is_ascii_digit c ≡ true → (c == 62) ≡ false
no_arrow_after c t = grind (arith, nat_tests)

pub no_arrow : (ds rest : List ℕ) → 1 ≤ length ds → digits_len ds ≡ length ds → Stops (λ c. c == 62) (ds ++ rest)
no_arrow [] rest le d = absurd (omega (arith, le))
no_arrow (c ∷ cs) rest le d = no_arrow_after c (first_passes is_ascii_digit c cs d)

-- ---- numbers

list_again : (ns : Numbers) → numbers_of (number_list ns) ≡ ns
list_again no_numbers = refl
list_again (next_number n ns) = ap (next_number n) (list_again ns)

more_ends : (ns : Numbers) (rest : Text) → Ends (show_more ns rest)
unfolding show_more
more_ends no_numbers rest = close_ends rest
more_ends (next_number n ns) rest = comma_ends (32 ∷ show_number n (show_more ns rest))

-- the text after an item of a list: the closing mark, or a comma and more items
abbrev pub Tail : {A : Type 0} → Grammar Text A → ℕ → List A → Grammar Text (List A)
Tail P headroom items ys mid new =
    (IsMark CloseRound mid new × (ys ≡ items))
    ⊎ (Not IsMark CloseRound mid × (next : Text) × IsMark Comma mid next × IsMore IsMark CloseRound (λ before. P) headroom items ys next new)

mutual
  unfolding IsNumber IsMore show_number show_numbers show_more FitsNumber FitsList FitsRest

  pub number_rendered : (n : Number) (depth : ℕ) → FitsNumber depth n → (start rest : Text) → next start ≡ next (show_number n rest) → Ends rest → IsNumber depth n start rest
  number_rendered n zero f start rest same e = absurd f
  number_rendered (literal false n) (suc depth) f start rest same e =
      (integer (decimal n), rest, same ∙ decimal_token n rest f (stops_integer rest e.stops), (n, magnitude_again n f, refl, refl))
  number_rendered (literal true n) (suc depth) f start rest same e =
      let d = decimal_number n f in (
        mark Minus,
        decimal n ++ rest,
        same ∙ mark_token Minus (decimal n ++ rest) (no_arrow (decimal n) rest d.some d.digits),
        (integer (decimal n), rest, decimal_token n rest f (stops_integer rest e.stops), (n, magnitude_again n f, refl, refl)),
      )
  number_rendered (named w) (suc depth) f start rest same e = (
    bare w,
    rest,
    same ∙ bare_token w rest f.0 (stops_word rest e.stops),
    word_head w (λ h. IsNumberOf (IsNumber depth) h (named w) rest rest) f.1 (inr (e.round, (refl, refl))),
  )
  number_rendered (called w ns) (suc depth) f start rest same e =
      let inside = show_numbers ns rest in (
        bare w,
        40 ∷ inside,
        same ∙ bare_token w (40 ∷ inside) f.0.0 refl,
        word_head w (λ h. IsNumberOf (IsNumber depth) h (called w ns) (40 ∷ inside) rest) f.0.1
            (inl (
              inside,
              mark_token OpenRound inside tt,
              (number_list ns, rest, list_rendered ns depth most f.1 f.2 inside rest refl, (ap (called w) (sym (list_again ns)), refl)),
            )),
      )

  pub list_rendered : (ns : Numbers) (depth headroom : ℕ) → FitsList depth ns → length (number_list ns) ≤ headroom → (start rest : Text) → next start ≡ next (show_numbers ns rest)
      → IsMore IsMark CloseRound (λ before. IsNumber depth) headroom [] (number_list ns) start rest
  list_rendered no_numbers depth headroom f le start rest same = absurd f
  list_rendered (next_number n ns) depth zero f le start rest same = absurd (omega (arith, le))
  list_rendered (next_number n ns) depth (suc headroom) f le start rest same =
      (n, show_more ns rest, number_rendered n depth f.0 start (show_more ns rest) same (more_ends ns rest), tail_rendered ns depth headroom (n ∷ []) f.1 (omega (arith, le)) rest)

  tail_rendered : (ns : Numbers) (depth headroom : ℕ) (items : List Number) → FitsRest depth ns → length (number_list ns) ≤ headroom → (rest : Text)
      → Tail (IsNumber depth) headroom items (items ++ number_list ns) (show_more ns rest) rest
  tail_rendered no_numbers depth headroom items f le rest = inl (mark_token CloseRound rest tt, append-nil items)
  tail_rendered (next_number m ms) depth zero items f le rest = absurd (omega (arith, le))
  tail_rendered (next_number m ms) depth (suc headroom) items f le rest =
      let inside = show_number m (show_more ms rest) in
      inr (
        not_mark Comma CloseRound (44 ∷ 32 ∷ inside) (32 ∷ inside) (mark_token Comma (32 ∷ inside) tt) (λ q. absurd (omega (arith, q))),
        32 ∷ inside,
        mark_token Comma (32 ∷ inside) tt,
        (
          m,
          show_more ms rest,
          number_rendered m depth f.0 (32 ∷ inside) (show_more ms rest) (blank_passed 32 inside refl) (more_ends ms rest),
          subst (λ (ys : List Number). Tail (IsNumber depth) headroom (items ++ m ∷ []) ys (show_more ms rest) rest) (append_assoc items (m ∷ []) (number_list ms))
              (tail_rendered ms depth headroom (items ++ m ∷ []) f.1 (omega (arith, le)) rest),
        ),
      )
