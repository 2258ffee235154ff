-- The printed text of a term spells the term.
use Rattle.std.proofs.Common.{◌≡◌, ◌∙◌, ℕ, zero, suc, ◌≤◌, Bool, true, false, List, [], ◌∷◌, ◌++◌, length, append_assoc, append-nil, Option, Some, None, refl, sym, ap, subst, arith, inl, inr, if◌then◌else◌}
use Rattle.std.proofs.lemmas.Option.{same_Some}
use Rattle.std.specs.Fmt.{decimal}
use Rattle.ir_text_tokens.specs.declared.token.Mark.{Mark}
use Rattle.ir_text_tokens.specs.declared.token.Mark.TheVariants.{OpenRound, CloseRound, Less, Greater, Comma, Colon, Minus}
use Rattle.ir_text_tokens.specs.Bytes.{is_word}
use Rattle.ir_text_tokens.specs.Printing.{Stops}
use Rattle.ir_text_tokens.specs.Tokens.{Lexeme, mark, bare, integer, value, next}
use Rattle.ir_text_tokens.proofs.Decimals.{decimal_number}
use Rattle.ir_text_tokens.proofs.Printed.{blank_passed, bare_token, decimal_token, mark_token, value_token}
use Rattle.ir_text_types.specs.Grammars.{Grammar, Not, IsMark, IsMore, IsList, Token}
use Rattle.ir_text_types.specs.Typed.{Text}
use Rattle.user_patterns_text.specs.Syntax.{Number, literal, named, called, Term, Terms, operation, value_of, constant_of, no_terms, next_term, term_list, terms_of}
use Rattle.user_patterns_text.specs.Heads.{Head, of_value, of_operation, of_word, of_digits, of_minus, of_other, head_of, has_dot, may_be_requested, must_be_requested}
use Rattle.user_patterns_text.specs.Grammar.{most, IsTyped, IsRequestedBy, IsOldNumberOf, IsNumberOf, IsNumber, IsValue, IsTermOf, IsValueOf, IsOld, IsNew}
use Rattle.user_patterns_text.specs.Printing.{show_type, show_requested, show_term, show_terms, show_next, show_number, FitsType, FitsRequested, FitsOldNumber, FitsOld, FitsOlds, FitsNew, FitsNews}
use Rattle.user_patterns_text.proofs.Shown.{Ends, stops_word, stops_integer, not_mark, close_ends, comma_ends, word_head, word_rendered, magnitude_again, no_arrow, number_rendered, Tail}

-- ---- the text after a term

pub record TermEnds (rest : Text) : Type 0 where
  pub ends : Ends rest
  pub colon : Not IsMark Colon rest

pub close_term_ends : (rest : Text) → TermEnds (41 ∷ rest)
close_term_ends rest = record { ends = close_ends rest; colon = not_mark CloseRound Colon (41 ∷ rest) rest (mark_token CloseRound rest tt) (λ e. absurd (omega (arith, e))) }

pub comma_term_ends : (rest : Text) → TermEnds (44 ∷ rest)
comma_term_ends rest = record { ends = comma_ends rest; colon = not_mark Comma Colon (44 ∷ rest) rest (mark_token Comma rest tt) (λ e. absurd (omega (arith, e))) }

next_ends : (ts : Terms) (rest : Text) → TermEnds (show_next ts rest)
unfolding show_next
next_ends no_terms rest = close_term_ends rest
next_ends (next_term t ts) rest = comma_term_ends (32 ∷ show_term t (show_next ts rest))

-- ---- types

colon_token : (w rest : Text) → next (32 ∷ 58 ∷ 32 ∷ (w ++ rest)) ≡ Some (mark Colon, 32 ∷ (w ++ rest))
colon_token w rest = blank_passed 32 (58 ∷ 32 ∷ (w ++ rest)) refl ∙ mark_token Colon (32 ∷ (w ++ rest)) refl

type_ends : (ty : Option (List ℕ)) (rest : Text) → TermEnds rest → Ends (show_type ty rest)
type_ends None rest e = e.ends
type_ends (Some w) rest e = record { stops = refl; round = not_mark Colon OpenRound (32 ∷ 58 ∷ 32 ∷ (w ++ rest)) (32 ∷ (w ++ rest)) (colon_token w rest) (λ q. absurd (omega (arith, q))) }

typed_rendered : (ty : Option (List ℕ)) → FitsType ty → (rest : Text) → TermEnds rest → IsTyped ty (show_type ty rest) rest
typed_rendered None f rest e = inr (e.colon, (refl, refl))
typed_rendered (Some w) f rest e =
    inl (
      32 ∷ (w ++ rest),
      colon_token w rest,
      (w, rest, (w, rest, word_rendered w (32 ∷ (w ++ rest)) rest f.0 (blank_passed 32 (w ++ rest) refl) e.ends.stops, (f.1, refl, refl)), (refl, refl)),
    )

-- ---- the constraint of an operation

requested_stops : (a : Option (List ℕ)) (inside : Text) → Stops is_word (show_requested a (40 ∷ inside))
requested_stops None inside = refl
requested_stops (Some w) inside = refl

requested_rendered : (left : Bool) (name : List ℕ) (a : Option (List ℕ)) → FitsRequested left name a → (inside : Text)
    → IsRequestedBy (may_be_requested left name) (must_be_requested name) name a (show_requested a (40 ∷ inside)) (40 ∷ inside)
requested_rendered left name None f inside = inr (not_mark OpenRound Less (40 ∷ inside) inside (mark_token OpenRound inside tt) (λ q. absurd (omega (arith, q))), (f, refl, refl))
requested_rendered left name (Some w) f inside =
    inl (
      w ++ (62 ∷ 40 ∷ inside),
      mark_token Less (w ++ (62 ∷ 40 ∷ inside)) tt,
      (
        f.1,
        (w, 62 ∷ 40 ∷ inside, word_rendered w (w ++ (62 ∷ 40 ∷ inside)) (62 ∷ 40 ∷ inside) f.0 refl refl, (40 ∷ inside, mark_token Greater (40 ∷ inside) tt, (f.2, refl, refl))),
      ),
    )

-- ---- heads

operation_head : (w : List ℕ) (P : Head → Type 0) → has_dot w ≡ true → P (of_operation w) → P (head_of (bare w))
operation_head w P dot h = subst (λ (b : Bool). P (if b then of_operation w else of_word w)) (sym dot) h

-- the first token is a mark
first_is : (start : Text) (l : Lexeme) (rest : Text) (m : Mark) (new : Text) → Token l start rest → IsMark m start new → l ≡ mark m
first_is start l rest m new is k = ap (λ (z : Lexeme × Text). z.0) (same_Some (l, rest) (mark m, new) (sym is ∙ k))

-- a mark that begins no term
other_head : (P : Head → Type 0) (l : Lexeme) (m : Mark) → l ≡ mark m → head_of (mark m) ≡ of_other → P (head_of l) → P of_other
other_head P l m is other h = subst P other (subst (λ (k : Lexeme). P (head_of k)) is h)

terms_again : (ts : Terms) → terms_of (term_list ts) ≡ ts
terms_again no_terms = refl
terms_again (next_term t ts) = ap (next_term t) (terms_again ts)

value_rendered : (n : List ℕ) (ty : Option (List ℕ)) → FitsType ty → (rest : Text) → TermEnds rest → IsValue n (value_of n ty) (show_type ty rest) rest
value_rendered n ty f rest e = (ty, rest, typed_rendered ty f rest e, (refl, refl))

-- ---- constants

old_constant : (P : Grammar Text Term) (h : Head) (n : Number) (ty : Option (List ℕ)) (r mid rest : Text) → IsOldNumberOf h n r mid → IsTyped ty mid rest → IsTermOf true IsOldNumberOf P h (constant_of n ty) r rest
old_constant P (of_digits ds) n ty r mid rest k t = (n, mid, k, (ty, rest, t, (refl, refl)))
old_constant P (of_word w) n ty r mid rest k t = (n, mid, k, (ty, rest, t, (refl, refl)))
old_constant P of_minus n ty r mid rest k t = (n, mid, k, (ty, rest, t, (refl, refl)))
old_constant P (of_value v) n ty r mid rest k t = absurd k
old_constant P (of_operation w) n ty r mid rest k t = absurd k
old_constant P of_other n ty r mid rest k t = absurd k

new_constant : (depth : ℕ) (P : Grammar Text Term) (h : Head) (n : Number) (ty : Option (List ℕ)) (r mid rest : Text) → IsNumberOf (IsNumber depth) h n r mid → IsTyped ty mid rest
    → IsTermOf false (IsNumberOf (IsNumber depth)) P h (constant_of n ty) r rest
new_constant depth P (of_digits ds) n ty r mid rest k t = (n, mid, k, (ty, rest, t, (refl, refl)))
new_constant depth P (of_word w) n ty r mid rest k t = (n, mid, k, (ty, rest, t, (refl, refl)))
new_constant depth P of_minus n ty r mid rest k t = (n, mid, k, (ty, rest, t, (refl, refl)))
new_constant depth P (of_value v) n ty r mid rest k t = absurd k
new_constant depth P (of_operation w) n ty r mid rest k t = absurd k
new_constant depth P of_other n ty r mid rest k t = absurd k

-- a number, by its first token
after_number : (n : Number) (depth : ℕ) (start mid : Text) → IsNumber (suc depth) n start mid → (l : Lexeme) × (r : Text) × Token l start r × IsNumberOf (IsNumber depth) (head_of l) n r mid
unfolding IsNumber
after_number n depth start mid d = d

old_number_rendered : (n : Number) → FitsOldNumber n → (start rest : Text) → next start ≡ next (show_number n rest) → Ends rest
    → (l : Lexeme) × (r : Text) × Token l start r × IsOldNumberOf (head_of l) n r rest
unfolding show_number
old_number_rendered (literal false n) f start rest same e =
    (integer (decimal n), rest, same ∙ decimal_token n rest f (stops_integer rest e.stops), (n, magnitude_again n f, refl, refl))
old_number_rendered (literal true n) f start rest same e =
    let d = decimal_number n f in (
      mark Minus,
      decimal n ++ rest,
      same ∙ mark_token Minus (decimal n ++ rest) (no_arrow (decimal n) rest d.some d.digits),
      (integer (decimal n), rest, decimal_token n rest f (stops_integer rest e.stops), (n, magnitude_again n f, refl, refl)),
    )
old_number_rendered (named w) f start rest same e =
    (bare w, rest, same ∙ bare_token w rest f.0 (stops_word rest e.stops), word_head w (λ h. IsOldNumberOf h (named w) rest rest) f.1 (refl, refl))
old_number_rendered (called w ns) f start rest same e = absurd f

-- ---- the left side and the right side

old_not_close : (t : Term) (depth : ℕ) (start mid : Text) → IsOld depth t start mid → Not IsMark CloseRound start
unfolding IsOld
old_not_close t zero start mid d = λ new k. other_head (λ h. IsValueOf h t d.1 mid) d.0 CloseRound (first_is start d.0 d.1 CloseRound new d.2 k) refl d.3
old_not_close t (suc depth) start mid d = λ new k. other_head (λ h. IsTermOf true IsOldNumberOf (IsOld depth) h t d.1 mid) d.0 CloseRound (first_is start d.0 d.1 CloseRound new d.2 k) refl d.3

mutual
  unfolding IsOld IsList IsMore show_term show_terms show_next FitsOld FitsOlds

  pub old_rendered : (t : Term) (depth : ℕ) → FitsOld depth t → (start rest : Text) → next start ≡ next (show_term t rest) → TermEnds rest → IsOld depth t start rest
  old_rendered (value_of n ty) zero f start rest same e =
      (value n, show_type ty rest, same ∙ value_token n (show_type ty rest) f.0 (type_ends ty rest e).stops, value_rendered n ty f.1 rest e)
  old_rendered (value_of n ty) (suc depth) f start rest same e =
      (value n, show_type ty rest, same ∙ value_token n (show_type ty rest) f.0 (type_ends ty rest e).stops, value_rendered n ty f.1 rest e)
  old_rendered (constant_of k ty) zero f start rest same e = absurd f
  old_rendered (constant_of k ty) (suc depth) f start rest same e =
      let d = old_number_rendered k f.0 start (show_type ty rest) same (type_ends ty rest e) in
      (d.0, d.1, d.2, old_constant (IsOld depth) (head_of d.0) k ty d.1 (show_type ty rest) rest d.3 (typed_rendered ty f.1 rest e))
  old_rendered (operation name a ts ty) zero f start rest same e = absurd f
  old_rendered (operation name a ts ty) (suc depth) f start rest same e =
      let end = show_type ty rest in
      let inside = show_terms ts end in (
        bare name,
        show_requested a (40 ∷ inside),
        same ∙ bare_token name (show_requested a (40 ∷ inside)) f.0.0 (requested_stops a inside),
        operation_head name (λ h. IsTermOf true IsOldNumberOf (IsOld depth) h (operation name a ts ty) (show_requested a (40 ∷ inside)) rest) f.0.1 (
          a,
          40 ∷ inside,
          requested_rendered true name a f.1 inside,
          (
            inside,
            mark_token OpenRound inside tt,
            (
              term_list ts,
              end,
              old_listed ts depth most f.2 f.3 inside end refl,
              (ty, rest, typed_rendered ty f.4 rest e, (f.0.2, ap (λ (us : Terms). operation name a us ty) (sym (terms_again ts)), refl)),
            ),
          ),
        ),
      )

  old_listed : (ts : Terms) (depth headroom : ℕ) → FitsOlds depth ts → length (term_list ts) ≤ headroom → (start rest : Text) → next start ≡ next (show_terms ts rest)
      → IsList IsMark CloseRound (λ before. IsOld depth) headroom (term_list ts) start rest
  old_listed no_terms depth headroom f le start rest same = inl (same ∙ mark_token CloseRound rest tt, refl)
  old_listed (next_term t ts) depth zero f le start rest same = absurd (omega (arith, le))
  old_listed (next_term t ts) depth (suc headroom) f le start rest same =
      let d = old_rendered t depth f.0 start (show_next ts rest) same (next_ends ts rest) in
      inr (old_not_close t depth start (show_next ts rest) d, (t, show_next ts rest, d, old_tail ts depth headroom (t ∷ []) f.1 (omega (arith, le)) rest))

  old_tail : (ts : Terms) (depth headroom : ℕ) (items : List Term) → FitsOlds depth ts → length (term_list ts) ≤ headroom → (rest : Text)
      → Tail (IsOld depth) headroom items (items ++ term_list ts) (show_next ts rest) rest
  old_tail no_terms depth headroom items f le rest = inl (mark_token CloseRound rest tt, append-nil items)
  old_tail (next_term u us) depth zero items f le rest = absurd (omega (arith, le))
  old_tail (next_term u us) depth (suc headroom) items f le rest =
      let inside = show_term u (show_next us rest) in
      inr (
        not_mark Comma CloseRound (44 ∷ 32 ∷ inside) (32 ∷ inside) (mark_token Comma (32 ∷ inside) tt) (λ q. absurd (omega (arith, q))),
        32 ∷ inside,
        mark_token Comma (32 ∷ inside) tt,
        (
          u,
          show_next us rest,
          old_rendered u depth f.0 (32 ∷ inside) (show_next us rest) (blank_passed 32 inside refl) (next_ends us rest),
          subst (λ (ys : List Term). Tail (IsOld depth) headroom (items ++ u ∷ []) ys (show_next us rest) rest) (append_assoc items (u ∷ []) (term_list us))
              (old_tail us depth headroom (items ++ u ∷ []) f.1 (omega (arith, le)) rest),
        ),
      )

new_not_close : (t : Term) (depth : ℕ) (start mid : Text) → IsNew depth t start mid → Not IsMark CloseRound start
unfolding IsNew
new_not_close t zero start mid d = absurd d
new_not_close t (suc depth) start mid d = λ new k. other_head (λ h. IsTermOf false (IsNumberOf (IsNumber depth)) (IsNew depth) h t d.1 mid) d.0 CloseRound (first_is start d.0 d.1 CloseRound new d.2 k) refl d.3

mutual
  unfolding IsNew IsList IsMore show_term show_terms show_next FitsNew FitsNews

  pub new_rendered : (t : Term) (depth : ℕ) → FitsNew depth t → (start rest : Text) → next start ≡ next (show_term t rest) → TermEnds rest → IsNew depth t start rest
  new_rendered (value_of n ty) zero f start rest same e = absurd f
  new_rendered (value_of n ty) (suc depth) f start rest same e =
      (value n, show_type ty rest, same ∙ value_token n (show_type ty rest) f.0 (type_ends ty rest e).stops, value_rendered n ty f.1 rest e)
  new_rendered (constant_of k ty) zero f start rest same e = absurd f
  new_rendered (constant_of k ty) (suc depth) f start rest same e =
      let d = after_number k depth start (show_type ty rest) (number_rendered k (suc depth) f.0 start (show_type ty rest) same (type_ends ty rest e)) in
      (d.0, d.1, d.2, new_constant depth (IsNew depth) (head_of d.0) k ty d.1 (show_type ty rest) rest d.3 (typed_rendered ty f.1 rest e))
  new_rendered (operation name a ts ty) zero f start rest same e = absurd f
  new_rendered (operation name a ts ty) (suc depth) f start rest same e =
      let end = show_type ty rest in
      let inside = show_terms ts end in (
        bare name,
        show_requested a (40 ∷ inside),
        same ∙ bare_token name (show_requested a (40 ∷ inside)) f.0.0 (requested_stops a inside),
        operation_head name (λ h. IsTermOf false (IsNumberOf (IsNumber depth)) (IsNew depth) h (operation name a ts ty) (show_requested a (40 ∷ inside)) rest) f.0.1 (
          a,
          40 ∷ inside,
          requested_rendered false name a f.1 inside,
          (
            inside,
            mark_token OpenRound inside tt,
            (
              term_list ts,
              end,
              new_listed ts depth most f.2 f.3 inside end refl,
              (ty, rest, typed_rendered ty f.4 rest e, (f.0.2, ap (λ (us : Terms). operation name a us ty) (sym (terms_again ts)), refl)),
            ),
          ),
        ),
      )

  new_listed : (ts : Terms) (depth headroom : ℕ) → FitsNews depth ts → length (term_list ts) ≤ headroom → (start rest : Text) → next start ≡ next (show_terms ts rest)
      → IsList IsMark CloseRound (λ before. IsNew depth) headroom (term_list ts) start rest
  new_listed no_terms depth headroom f le start rest same = inl (same ∙ mark_token CloseRound rest tt, refl)
  new_listed (next_term t ts) depth zero f le start rest same = absurd (omega (arith, le))
  new_listed (next_term t ts) depth (suc headroom) f le start rest same =
      let d = new_rendered t depth f.0 start (show_next ts rest) same (next_ends ts rest) in
      inr (new_not_close t depth start (show_next ts rest) d, (t, show_next ts rest, d, new_tail ts depth headroom (t ∷ []) f.1 (omega (arith, le)) rest))

  new_tail : (ts : Terms) (depth headroom : ℕ) (items : List Term) → FitsNews depth ts → length (term_list ts) ≤ headroom → (rest : Text)
      → Tail (IsNew depth) headroom items (items ++ term_list ts) (show_next ts rest) rest
  new_tail no_terms depth headroom items f le rest = inl (mark_token CloseRound rest tt, append-nil items)
  new_tail (next_term u us) depth zero items f le rest = absurd (omega (arith, le))
  new_tail (next_term u us) depth (suc headroom) items f le rest =
      let inside = show_term u (show_next us rest) in
      inr (
        not_mark Comma CloseRound (44 ∷ 32 ∷ inside) (32 ∷ inside) (mark_token Comma (32 ∷ inside) tt) (λ q. absurd (omega (arith, q))),
        32 ∷ inside,
        mark_token Comma (32 ∷ inside) tt,
        (
          u,
          show_next us rest,
          new_rendered u depth f.0 (32 ∷ inside) (show_next us rest) (blank_passed 32 inside refl) (next_ends us rest),
          subst (λ (ys : List Term). Tail (IsNew depth) headroom (items ++ u ∷ []) ys (show_next us rest) rest) (append_assoc items (u ∷ []) (term_list us))
              (new_tail us depth headroom (items ++ u ∷ []) f.1 (omega (arith, le)) rest),
        ),
      )
