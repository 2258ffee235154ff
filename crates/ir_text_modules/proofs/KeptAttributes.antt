-- An opaque attribute is parsed back.
use Rattle.std.proofs.Common.{◌≡◌, ℕ, suc, ◌≤◌, Bool, true, false, inl, inr, List, [], ◌∷◌, ◌++◌, Option, Some, None, refl, sym, ap, subst, ◌∙◌, append_assoc, arith}
use Rattle.std.specs.Prelude.{◌==◌, ◌&&◌, not, is_some, if◌then◌else◌, nat_le, option_map, option_and_then, codes, Ok}
use Rattle.std.specs.Str.{bytes_eq}
use Rattle.std.proofs.lemmas.Bool.{and_parts, eqb-true, not-true}
use Rattle.std.proofs.lemmas.Bool.Decides.{nat_tests}
use Rattle.std.proofs.lemmas.List.{append-nil}
use Rattle.std.proofs.lemmas.Option.{some_pair_parts}
use Rattle.ir_types.specs.Terms.{TypeTerm, OpaqueOf}
use Rattle.ir_types.specs.Depths.{type_depth}
use Rattle.ir_types.specs.Reasons.{attr_fault}
use Rattle.ir_text_tokens.specs.declared.token.Mark.TheVariants.{Colon, Less, Minus}
use Rattle.ir_text_tokens.specs.Bytes.{is_blank, is_suffix, is_word}
use Rattle.ir_text_tokens.specs.Printing.{Stops, is_bare_id}
use Rattle.ir_text_tokens.specs.Tokens.{Lexeme, mark, integer, float, string, bare, hash, next, skip}
use Rattle.ir_text_tokens.proofs.Blanks.{skip_nothing}
use Rattle.ir_text_tokens.proofs.Printed.{bare_token, hash_token, mark_token}
use Rattle.ir_text_tokens.proofs.Wholes.{next_whole}
use Rattle.ir_text_tokens.specs.Bodies.{begins, body_at, has_dot, scan}
use Rattle.ir_text_tokens.proofs.Again.{reads_again, stands_at_the_start}
use Rattle.ir_text_tokens.specs.Numbers.{integer_of, below_limit}
use Rattle.ir_text_types.specs.Grammars.{Not, IsMark}
use Rattle.ir_text_types.specs.Marks.{after}
use Rattle.ir_text_types.specs.OpaqueTypes.{with_body, bracketed, dialect_text}
use Rattle.ir_text_types.specs.TypeGrammar.{IsType}
use Rattle.ir_text_attributes.specs.declared.tail.Tail.{Tail}
use Rattle.ir_text_attributes.specs.declared.tail.Tail.TheVariants.{SomeType, TypeOrNone, OpaqueOrNone, NoType}
use Rattle.ir_text_attributes.specs.OpaqueAttributes.{tail_of, kept_text, with_angles, distinct_word, location_word, quoted_text, signed_text, is_hexadecimal, is_opaque_type, opens_other}
use Rattle.ir_text_attributes.specs.Literals.{array_word, overflow_word}
use Rattle.ir_text_attributes.specs.AttrGrammar.{IsFine, IsSuffix, IsLiteral, IsTail, IsBare, IsKept}
use Rattle.ir_text.specs.AttrText.{attr_text}
use Rattle.ir_text.specs.TypeText.{type_text}
use Rattle.ir_text_modules.specs.Kept.{is_all}
use Rattle.ir_text_modules.specs.KeptAttributes.{eligible, begins_digit, eligible_digits, is_negative_by, is_negative_from, is_word_text, is_text_after, is_text_from, is_attr_text}
use Rattle.ir_text_modules.specs.Written.{FitsType}
use Rattle.ir_text_modules.specs.WrittenAttributes.{EndsAttr}
use Rattle.ir_text_modules.proofs.Ahead.{space, space_token}
use Rattle.ir_text_modules.proofs.Ends.{ends_type, no_angle}
use Rattle.ir_text_modules.proofs.Kept.{all_of, inside}
use Rattle.ir_text_modules.proofs.KeptArrays.{other_again}
use Rattle.ir_text_modules.proofs.KeptNumbers.{float_again, hex_again, hex_digit, minus_next}
use Rattle.ir_text_modules.proofs.KeptStrings.{string_again}
use Rattle.ir_text_modules.proofs.Leaves.{Begins}
use Rattle.ir_text_modules.proofs.Small.{lacks_token}
use Rattle.ir_text_modules.proofs.Types.{type_ahead, type_again}
use Rattle.ir_text_modules.proofs.TypeWords.{word_after}

-- ---- after the text

-- a colon and the type, or nothing
abbrev trailing : Option TypeTerm → List ℕ → List ℕ
trailing None rest = rest
trailing (Some ty) rest = 32 ∷ 58 ∷ 32 ∷ (type_text ty ++ rest)

text_apart : (text : List ℕ) (ty : Option TypeTerm) (rest : List ℕ) → attr_text (OpaqueOf text ty) ++ rest ≡ text ++ trailing ty rest
text_apart text None rest = refl
text_apart text (Some ty) rest = append_assoc text (codes " : " ++ type_text ty) rest

-- the type is writable within the depth
abbrev pub FitsTail : ℕ → Option TypeTerm → Type 0
FitsTail types None = Unit {0}
FitsTail types (Some ty) = FitsType true types ty

some_fine : (text : List ℕ) (ty : TypeTerm) → type_depth ty ≤ 32 → attr_fault (OpaqueOf text (Some ty)) ≡ None
some_fine text ty le = let e : nat_le (type_depth ty) 32 ≡ true = grind (arith, nat_tests) in rw e refl

module _ (types : ℕ) (small : types ≤ 32) where
  typed : (ty : TypeTerm) (rest : List ℕ) → FitsType true types ty → EndsAttr true rest → IsType true types ty (32 ∷ (type_text ty ++ rest)) rest
  typed ty rest fits_in s = space (IsType true types) (type_ahead true types) ty (type_text ty ++ rest) rest (type_again true types small ty rest fits_in.0 fits_in.1 (ends_type true rest s))

  colon : (ty : TypeTerm) (rest : List ℕ) → IsMark Colon (trailing (Some ty) rest) (32 ∷ (type_text ty ++ rest))
  colon ty rest = space_token (mark Colon) (58 ∷ 32 ∷ (type_text ty ++ rest)) (32 ∷ (type_text ty ++ rest)) (mark_token Colon (32 ∷ (type_text ty ++ rest)) refl)

  fine : (text : List ℕ) (ty : TypeTerm) → FitsType true types ty → attr_fault (OpaqueOf text (Some ty)) ≡ None
  fine text ty fits_in = some_fine text ty (omega (arith, fits_in.0, small))

  tail_again : (tail : Tail) (text : List ℕ) (ty : Option TypeTerm) (rest : List ℕ) → eligible tail ty ≡ true → FitsTail types ty → EndsAttr true rest → IsTail true types tail text (OpaqueOf text ty) (trailing ty rest) rest
  tail_again SomeType text None rest e fits_in s = absurd cc
  tail_again SomeType text (Some ty) rest e fits_in s = (32 ∷ (type_text ty ++ rest), colon ty rest, (ty, rest, typed ty rest fits_in s, (fine text ty fits_in, refl, refl)))
  tail_again TypeOrNone text None rest e fits_in s = inr (s.2, (refl, refl, refl))
  tail_again TypeOrNone text (Some ty) rest e fits_in s = inl (32 ∷ (type_text ty ++ rest), colon ty rest, (ty, rest, typed ty rest fits_in s, (fine text ty fits_in, refl, refl)))
  tail_again OpaqueOrNone text None rest e fits_in s = inr (s.2, (refl, refl, refl))
  tail_again OpaqueOrNone text (Some ty) rest e fits_in s = inl (32 ∷ (type_text ty ++ rest), colon ty rest, (ty, rest, typed ty rest fits_in s, (e, (fine text ty fits_in, refl, refl))))
  tail_again NoType text None rest e fits_in s = (refl, refl, refl)
  tail_again NoType text (Some ty) rest e fits_in s = absurd cc

-- the text doesn't extend a name and doesn't begin with `<`
abbrev Follows : List ℕ → Type 0
Follows back = Stops is_suffix back × Not IsMark Less back

after_follows : (ty : Option TypeTerm) (rest : List ℕ) → EndsAttr true rest → Follows (trailing ty rest)
after_follows None rest s = (s.0, s.3)
after_follows (Some ty) rest s =
    let back = 32 ∷ (type_text ty ++ rest) in
    (refl, lacks_token (mark Colon) Less (32 ∷ 58 ∷ back) back (space_token (mark Colon) (58 ∷ back) back (mark_token Colon back refl)) (λ e. absurd cc))

no_angle_skipped : (rest : List ℕ) → Not IsMark Less rest → begins 60 (skip rest) ≡ false
unfolding next
no_angle_skipped rest n = from (skip rest) refl
  where
    by : (c : ℕ) (cs : List ℕ) → skip rest ≡ c ∷ cs → (b : Bool) → (c == 60) ≡ b → b ≡ false
    by c cs k false e = refl
    by c cs k true e = let is : skip rest ≡ 60 ∷ cs = k ∙ ap (λ d. d ∷ cs) (eqb-true c 60 e) in absurd (n cs (rw is refl))

    from : (l : List ℕ) → skip rest ≡ l → begins 60 l ≡ false
    from [] k = refl
    from (c ∷ cs) k = by c cs k (c == 60) refl

-- ---- bodies in any brackets

-- the body is found, whatever text follows it, and begins with the bracket
abbrev AnyBody : ℕ → List ℕ → Type 0
AnyBody b v = (begins b v ≡ true) × ((rest : List ℕ) → body_at (v ++ rest) ≡ Some (v, rest))

abbrev joined : List ℕ → Option (List ℕ × List ℕ) → Option (List ℕ × List ℕ)
joined preceding o = option_map (λ (b : List ℕ × List ℕ). (preceding ++ b.0, b.1)) o

nothing_is : (v : List ℕ) → body_at [] ≡ Some (v, []) → ⊥
nothing_is v e = absurd cc

begins_preceding : (b : ℕ) (v r : List ℕ) → ((rest : List ℕ) → body_at (v ++ rest) ≡ Some (v, rest)) → begins b (v ++ r) ≡ true → begins b v ≡ true
begins_preceding b [] r h e = absurd (nothing_is [] (h []))
begins_preceding b (c ∷ cs) r h e = e

abbrev Bodied : ℕ → List ℕ → List ℕ → List ℕ → List ℕ → Type 0
Bodied b preceding q text r = (v : List ℕ) × (text ≡ preceding ++ v) × (q ≡ v ++ r) × AnyBody b v

bodied : (b : ℕ) (preceding q text r : List ℕ) → bracketed b preceding q ≡ Some (text, r) → Bodied b preceding q text r
bodied b preceding q text r e = by (begins b q) refl e
  where
    found : begins b q ≡ true → (v s : List ℕ) → body_at q ≡ Some (v, s) → preceding ++ v ≡ text → s ≡ r → Bodied b preceding q text r
    found h v s m k p =
        let is : q ≡ v ++ r = stands_at_the_start q v s m ∙ ap (λ l. v ++ l) p in
        let all = λ (rest : List ℕ). reads_again q v s rest m in
        (v, sym k, is, (begins_preceding b v r all (ap (begins b) (sym is) ∙ h), all))

    by_body : begins b q ≡ true → (o : Option (List ℕ × List ℕ)) → body_at q ≡ o → joined preceding o ≡ Some (text, r) → Bodied b preceding q text r
    by_body h None m k = absurd cc
    by_body h (Some x) m k = let p = some_pair_parts (preceding ++ x.0) text x.1 r k in found h x.0 x.1 m p.0 p.1

    by : (t : Bool) → begins b q ≡ t → (if t then with_body preceding q else None) ≡ Some (text, r) → Bodied b preceding q text r
    by false h k = absurd cc
    by true h k = by_body h (body_at q) refl k

-- the byte is no blank, begins no comment and doesn't extend a word
record IsBracket (b : ℕ) : Type 0 where
  pub slash : (b == 47) ≡ false
  pub blank : is_blank b ≡ false
  pub word : is_word b ≡ false

body_stays : (b : ℕ) (v rest : List ℕ) → IsBracket b → begins b v ≡ true → skip (v ++ rest) ≡ v ++ rest
body_stays b [] rest i e = absurd cc
body_stays b (c ∷ cs) rest i e = let k = eqb-true c b e in skip_nothing c (cs ++ rest) (ap (λ d. d == 47) k ∙ i.slash) (ap is_blank k ∙ i.blank)

body_stops : (b : ℕ) (v rest : List ℕ) → IsBracket b → begins b v ≡ true → Stops is_word (v ++ rest)
body_stops b [] rest i e = absurd cc
body_stops b (c ∷ cs) rest i e = ap is_word (eqb-true c b e) ∙ i.word

begins_there : (b : ℕ) (v rest : List ℕ) → begins b v ≡ true → begins b (v ++ rest) ≡ true
begins_there b [] rest e = absurd cc
begins_there b (c ∷ cs) rest e = e

bracketed_again : (b : ℕ) (preceding v rest : List ℕ) → AnyBody b v → bracketed b preceding (v ++ rest) ≡ Some (preceding ++ v, rest)
bracketed_again b preceding v rest a = rw (begins_there b v rest a.0) (ap (joined preceding) (a.1 rest))

round : IsBracket 40
round = record { slash = refl; blank = refl; word = refl }

square : IsBracket 91
square = record { slash = refl; blank = refl; word = refl }

angle : IsBracket 60
angle = record { slash = refl; blank = refl; word = refl }

-- ---- words

-- the text is found again after its word
abbrev WordAgain : List ℕ → List ℕ → List ℕ → Type 0
WordAgain w text back = (z : List ℕ) × (text ++ back ≡ w ++ z) × (kept_text w z ≡ Some (text, back)) × Stops is_word z

-- a body in one pair of brackets after the word
single : (b : ℕ) (w q text back : List ℕ) → IsBracket b → ((z : List ℕ) → kept_text w z ≡ bracketed b w (skip z)) → bracketed b w (skip q) ≡ Some (text, []) → WordAgain w text back
single b w q text back i same e =
    let f = bodied b w (skip q) text [] e in
    let z = f.0 ++ back in
    let found : bracketed b w (skip z) ≡ Some (w ++ f.0, back) = ap (bracketed b w) (body_stays b f.0 back i f.3.0) ∙ bracketed_again b w f.0 back f.3 in
    (z, ap (λ l. l ++ back) f.1 ∙ append_assoc w f.0 back, same z ∙ found ∙ ap (λ l. Some (l, back)) (sym f.1), body_stops b f.0 back i f.3.0)

-- a body in square brackets, and an optional one in angle brackets
abbrev angled : List ℕ → List ℕ → Option (List ℕ × List ℕ)
angled preceding rest = with_angles (preceding, rest)

double : (w q text back : List ℕ) → ((z : List ℕ) → kept_text w z ≡ option_and_then with_angles (bracketed 91 w (skip z))) → Follows back → option_and_then with_angles (bracketed 91 w (skip q)) ≡ Some (text, []) → WordAgain w text back
double w q text back same s e = by (bracketed 91 w (skip q)) refl e
  where
    -- y is the text after the square brackets
    square_again : (v y : List ℕ) → AnyBody 91 v → kept_text w (v ++ y) ≡ angled (w ++ v) y
    square_again v y a = same (v ++ y) ∙ ap (λ l. option_and_then with_angles (bracketed 91 w l)) (body_stays 91 v y square a.0) ∙ ap (option_and_then with_angles) (bracketed_again 91 w v y a)

    one : (v : List ℕ) → AnyBody 91 v → text ≡ w ++ v → WordAgain w text back
    one v a is =
        let none : angled (w ++ v) back ≡ Some (w ++ v, back) = rw (no_angle_skipped back s.1) refl in
        (v ++ back, ap (λ l. l ++ back) is ∙ append_assoc w v back, square_again v back a ∙ none ∙ ap (λ l. Some (l, back)) (sym is), body_stops 91 v back square a.0)

    two : (v u : List ℕ) → AnyBody 91 v → AnyBody 60 u → text ≡ (w ++ v) ++ u → WordAgain w text back
    two v u a b is =
        let remains = body_stays 60 u back angle b.0 in
        let there = ap (begins 60) remains ∙ begins_there 60 u back b.0 in
        let found : angled (w ++ v) (u ++ back) ≡ Some ((w ++ v) ++ u, back) = rw (there, remains) (ap (joined (w ++ v)) (b.1 back)) in
        let all : ((w ++ v) ++ u) ++ back ≡ w ++ (v ++ (u ++ back)) = append_assoc (w ++ v) u back ∙ append_assoc w v (u ++ back) in
        (v ++ (u ++ back), ap (λ l. l ++ back) is ∙ all, square_again v (u ++ back) a ∙ found ∙ ap (λ l. Some (l, back)) (sym is), body_stops 91 v (u ++ back) square a.0)

    by_angle : (x r v : List ℕ) → x ≡ w ++ v → AnyBody 91 v → (t : Bool) → begins 60 (skip r) ≡ t → (if t then with_body x (skip r) else Some (x, r)) ≡ Some (text, []) → WordAgain w text back
    by_angle x r v is a false h k = one v a (sym (some_pair_parts x text r [] k).0 ∙ is)
    by_angle x r v is a true h k =
        let whole : bracketed 60 x (skip r) ≡ Some (text, []) = rw h k in
        let f = bodied 60 x (skip r) text [] whole in
        two v f.0 a f.3 (f.1 ∙ ap (λ l. l ++ f.0) is)

    by : (o : Option (List ℕ × List ℕ)) → bracketed 91 w (skip q) ≡ o → option_and_then with_angles o ≡ Some (text, []) → WordAgain w text back
    by None m k = absurd cc
    by (Some x) m k = let f = bodied 91 w (skip q) x.0 x.1 m in by_angle x.0 x.1 f.0 f.1 f.3 (begins 60 (skip x.1)) refl k

word_again : (w q text back : List ℕ) → Follows back → kept_text w q ≡ Some (text, []) → WordAgain w text back
unfolding kept_text
word_again w q text back s e = by (bytes_eq w distinct_word) refl (bytes_eq w location_word) refl e
  where
    by : (d : Bool) → bytes_eq w distinct_word ≡ d → (l : Bool) → bytes_eq w location_word ≡ l
        → (if d then option_and_then with_angles (bracketed 91 w (skip q)) else if l then bracketed 40 w (skip q) else bracketed 60 w (skip q)) ≡ Some (text, [])
        → WordAgain w text back
    by true d l m k = double w q text back (λ z. rw d refl) s k
    by false d true m k = single 40 w q text back round (λ z. rw (d, m) refl) k
    by false d false m k = single 60 w q text back angle (λ z. rw (d, m) refl) k

-- ---- arrays

array_alone : tail_of array_word ≡ None
unfolding tail_of
array_alone = refl

-- blanks between the word and the body don't matter
opens_skipped : (q v : List ℕ) → skip q ≡ v → skip v ≡ v → opens_other q ≡ opens_other v
unfolding opens_other after next
opens_skipped q v e k = rw (e, k) refl

opens_again : (q v back : List ℕ) → Stops is_suffix back → skip q ≡ v ++ [] → AnyBody 60 v → opens_other q ≡ true → opens_other (v ++ back) ≡ true
opens_again q [] back s e a o = absurd (let h = a.0 in cc)
opens_again q (c ∷ cs) back s e a o =
    let is = eqb-true c 60 a.0 in
    let remains = body_stays 60 (c ∷ cs) [] angle a.0 in
    let was : opens_other (c ∷ cs ++ []) ≡ true = sym (opens_skipped q (c ∷ cs ++ []) e remains) ∙ o in
    subst (λ d. ((rest : List ℕ) → body_at (d ∷ cs ++ rest) ≡ Some (d ∷ cs, rest)) → opens_other (d ∷ cs ++ []) ≡ true → opens_other (d ∷ cs ++ back) ≡ true) (sym is) (from cs back s) a.1 was
  where
    from : (cs back : List ℕ) → Stops is_suffix back → ((rest : List ℕ) → body_at (60 ∷ cs ++ rest) ≡ Some (60 ∷ cs, rest)) → opens_other (60 ∷ cs ++ []) ≡ true → opens_other (60 ∷ cs ++ back) ≡ true
    from cs back s found o =
        let i = inside (cs ++ []) (60 ∷ cs) [] (found []) in
        let m : scan (62 ∷ []) 0 (cs ++ []) ≡ Ok [] = ap (scan (62 ∷ []) 0) i.2 ∙ i.3 in
        other_again cs back m s o

-- ---- names of dialects

abbrev NameAgain : List ℕ → List ℕ → List ℕ → Type 0
NameAgain n text back = (z : List ℕ) × (text ++ back ≡ 35 ∷ (n ++ z)) × (dialect_text 35 n z ≡ Some (text, back)) × Stops is_suffix z

abbrev dotted : Bool → List ℕ → List ℕ → Option (List ℕ × List ℕ)
dotted dot n q = if dot then Some (35 ∷ n, q) else None

suffix_stops : (v rest : List ℕ) → begins 60 v ≡ true → Stops is_suffix (v ++ rest)
suffix_stops [] rest e = absurd cc
suffix_stops (c ∷ cs) rest e = ap is_suffix (eqb-true c 60 e)

hash_again : (n q text back : List ℕ) → Follows back → dialect_text 35 n q ≡ Some (text, []) → NameAgain n text back
hash_again n q text back s e = by (begins 60 q) refl e
  where
    with_angle : Bodied 60 (35 ∷ n) q text [] → NameAgain n text back
    with_angle f =
        let there = begins_there 60 f.0 back f.3.0 in
        let found : dialect_text 35 n (f.0 ++ back) ≡ Some (35 ∷ n ++ f.0, back) = rw there (ap (joined (35 ∷ n)) (f.3.1 back)) in
        (f.0 ++ back, ap (λ l. l ++ back) f.1 ∙ ap (λ l. 35 ∷ l) (append_assoc n f.0 back), found ∙ ap (λ l. Some (l, back)) (sym f.1), suffix_stops f.0 back f.3.0)

    by_dot : (t : Bool) → has_dot n ≡ t → dotted t n q ≡ Some (text, []) → NameAgain n text back
    by_dot false d k = absurd cc
    by_dot true d k =
        let is = (some_pair_parts (35 ∷ n) text q [] k).0 in
        let found : dialect_text 35 n back ≡ Some (35 ∷ n, back) = rw (no_angle back s.1, d) refl in
        (back, ap (λ l. l ++ back) (sym is), found ∙ ap (λ l. Some (l, back)) is, s.0)

    by : (t : Bool) → begins 60 q ≡ t → (if t then with_body (35 ∷ n) q else dotted (has_dot n) n q) ≡ Some (text, []) → NameAgain n text back
    by true h k = let whole : bracketed 60 (35 ∷ n) q ≡ Some (text, []) = rw h k in with_angle (bodied 60 (35 ∷ n) q text [] whole)
    by false h k = by_dot (has_dot n) refl k

-- ---- hexadecimal digits

-- facts about the digits: they are hexadecimal and denote a number, and an opaque type follows
abbrev Digits : List ℕ → Option TypeTerm → Type 0
Digits digits ty = (is_hexadecimal digits ≡ true) × (n : ℕ) × (below_limit (integer_of digits) ≡ Some n) × (t : TypeTerm) × (ty ≡ Some t) × (is_opaque_type t ≡ true)

digits_parts : (digits : List ℕ) (ty : Option TypeTerm) → eligible_digits digits ty ≡ true → Digits digits ty
digits_parts digits ty e =
    let p = and_parts (is_hexadecimal digits) (is_some (below_limit (integer_of digits)) && (is_some ty && eligible OpaqueOrNone ty)) e in
    let q = and_parts (is_some (below_limit (integer_of digits))) (is_some ty && eligible OpaqueOrNone ty) p.1 in
    let n = number (below_limit (integer_of digits)) refl q.0 in
    let t = type ty q.1 in
    (p.0, n.0, n.1, t.0, t.1, t.2)
  where
    number : (o : Option ℕ) → below_limit (integer_of digits) ≡ o → is_some o ≡ true → (n : ℕ) × (below_limit (integer_of digits) ≡ Some n)
    number None k e = absurd cc
    number (Some n) k e = (n, k)

    type : (ty : Option TypeTerm) → (is_some ty && eligible OpaqueOrNone ty) ≡ true → (t : TypeTerm) × (ty ≡ Some t) × (is_opaque_type t ≡ true)
    type None e = absurd cc
    type (Some t) e = (t, refl, e)

fits_more : (types : ℕ) (ty : Option TypeTerm) → types ≤ 32 → FitsTail types ty → FitsTail 32 ty
fits_more types None le fits_in = tt
fits_more types (Some ty) le fits_in = (omega (arith, le, fits_in.0), fits_in.1)

literal_again : (negative : Bool) (digits text : List ℕ) (ty : Option TypeTerm) (rest : List ℕ) → signed_text negative digits ≡ text → Digits digits ty → FitsTail 32 ty → EndsAttr true rest → IsLiteral true negative digits (OpaqueOf text ty) (trailing ty rest) rest
literal_again negative digits text ty rest is f fits_in s = subst (λ u. FitsTail 32 u → IsLiteral true negative digits (OpaqueOf text u) (trailing u rest) rest) (sym f.4) (λ fits_in. from fits_in) fits_in
  where
    from : FitsType true 32 f.3 → IsLiteral true negative digits (OpaqueOf text (Some f.3)) (trailing (Some f.3) rest) rest
    from fits_in =
        let known : (is_opaque_type f.3 && is_hexadecimal digits) ≡ true = rw (f.5, f.0) refl in
        let suffix : IsSuffix true f.3 (trailing (Some f.3) rest) rest = inl (32 ∷ (type_text f.3 ++ rest), colon 32 (omega arith) f.3 rest, typed 32 (omega arith) f.3 rest fits_in s) in
        (f.1, f.2, (f.3, rest, suffix, inl (known, subst (λ l. IsFine (OpaqueOf l (Some f.3)) (OpaqueOf text (Some f.3)) rest rest) (sym is) (some_fine text f.3 fits_in.0, refl, refl))))

-- ---- attributes

pub kept_read : (depth : ℕ) (text : List ℕ) (ty : Option TypeTerm) (rest : List ℕ) → suc depth ≤ 32 → is_attr_text text ty ≡ true → FitsTail (suc depth) ty → EndsAttr true rest → Begins true depth (OpaqueOf text ty) (attr_text (OpaqueOf text ty) ++ rest) rest
unfolding is_attr_text
kept_read depth text ty rest small e fits_in s = rw (text_apart text ty rest) (by (next text) refl e)
  where
    back : List ℕ
    back = trailing ty rest

    Kept : Type 0
    Kept = Begins true depth (OpaqueOf text ty) (text ++ back) rest

    tail : (tail : Tail) → eligible tail ty ≡ true → IsTail true (suc depth) tail text (OpaqueOf text ty) back rest
    tail t f = tail_again (suc depth) small t text ty rest f fits_in s

    array_again : (v z : List ℕ) → text ≡ array_word ++ v → z ≡ v ++ back → bracketed 60 array_word (skip z) ≡ Some (text, back) → opens_other z ≡ true → Stops is_word z → IsTail true (suc depth) NoType text (OpaqueOf text ty) back rest → Kept
    array_again v z is all found opens stops t =
        let here : IsKept true (suc depth) NoType (bracketed 60 array_word (skip z)) (OpaqueOf text ty) rest = ((text, back), found, t) in
        let stands : next (text ++ back) ≡ Some (bare array_word, z) = ap (λ l. next (l ++ back)) is ∙ ap (λ l. next (array_word ++ l)) (sym all) ∙ bare_token array_word z refl stops in
        (bare array_word, z, stands, word_after true depth array_word z (OpaqueOf text ty) (text ++ back) rest array_alone (inl (opens, here)))

    array : (q : List ℕ) → opens_other q ≡ true → bracketed 60 array_word (skip q) ≡ Some (text, []) → IsTail true (suc depth) NoType text (OpaqueOf text ty) back rest → Kept
    array q o e t =
        let f = bodied 60 array_word (skip q) text [] e in
        let z = f.0 ++ back in
        let found : bracketed 60 array_word (skip z) ≡ Some (text, back) = ap (bracketed 60 array_word) (body_stays 60 f.0 back angle f.3.0) ∙ bracketed_again 60 array_word f.0 back f.3 ∙ ap (λ l. Some (l, back)) (sym f.1) in
        array_again f.0 z f.1 refl found (opens_again q f.0 back (after_follows ty rest s).0 f.2 f.3 o) (body_stops 60 f.0 back angle f.3.0) t

    by_tail : (w q : List ℕ) → is_bare_id w ≡ true → (t : Option Tail) → tail_of w ≡ t → is_word_text t text ty w q ≡ true → Kept
    by_tail w q id None m k =
        let p = and_parts (bytes_eq w array_word && opens_other q) (eligible NoType ty && is_all text (bracketed 60 array_word (skip q))) k in
        let a = and_parts (bytes_eq w array_word) (opens_other q) p.0 in
        let r = and_parts (eligible NoType ty) (is_all text (bracketed 60 array_word (skip q))) p.1 in
        array q a.1 (all_of text (bracketed 60 array_word (skip q)) r.1) (tail NoType r.0)
    by_tail w q id (Some t) m k =
        let p = and_parts (eligible t ty) (is_all text (kept_text w q)) k in
        let g = word_again w q text back (after_follows ty rest s) (all_of text (kept_text w q) p.1) in
        let here : IsKept true (suc depth) t (kept_text w g.0) (OpaqueOf text ty) rest = ((text, back), g.2, tail t p.0) in
        (bare w, g.0, ap next g.1 ∙ bare_token w g.0 id g.3, subst (λ u. IsBare true (suc depth) u w g.0 (OpaqueOf text ty) (text ++ back) rest) (sym m) here)

    negative : (digits l q : List ℕ) → next q ≡ Some (float digits, l) → is_negative_by text ty (float digits) l ≡ true → next text ≡ Some (mark Minus, q) → Kept
    negative digits l q m k t =
        let p = and_parts (begins_digit digits) (eligible OpaqueOrNone ty && is_all text (Some (45 ∷ digits, l))) k in
        let r = and_parts (eligible OpaqueOrNone ty) (is_all text (Some (45 ∷ digits, l))) p.1 in
        let is = some_pair_parts (45 ∷ digits) text l [] (all_of text (Some (45 ∷ digits, l)) r.1) in
        let minus : next text ≡ Some (mark Minus, digits) = ap next (sym is.0 ∙ ap (λ w. 45 ∷ w) (sym (append-nil digits))) ∙ minus_next digits [] p.0 ∙ ap (λ w. Some (mark Minus, w)) (append-nil digits) in
        let same : digits ≡ q = (some_pair_parts (mark Minus) (mark Minus) digits q (sym minus ∙ t)).1 in
        let token : next digits ≡ Some (float digits, []) = ap next same ∙ m ∙ ap (λ w. Some (float digits, w)) is.1 in
        let stands : next (text ++ back) ≡ Some (mark Minus, digits ++ back) = ap (λ w. next (w ++ back)) (sym is.0) ∙ minus_next digits back p.0 in
        let float_there = float_again digits back p.0 (after_follows ty rest s).0 token in
        (mark Minus, digits ++ back, stands, (float digits, back, float_there, (refl, subst (λ w. IsTail true (suc depth) OpaqueOrNone w (OpaqueOf text ty) back rest) (sym is.0) (tail OpaqueOrNone r.0))))

    negative_digits : (digits l q : List ℕ) → next q ≡ Some (integer digits, l) → is_negative_by text ty (integer digits) l ≡ true → next text ≡ Some (mark Minus, q) → Kept
    negative_digits digits l q m k t =
        let p = and_parts (eligible_digits digits ty) (is_all text (Some (45 ∷ digits, l))) k in
        let is = some_pair_parts (45 ∷ digits) text l [] (all_of text (Some (45 ∷ digits, l)) p.1) in
        let f = digits_parts digits ty p.0 in
        let d = hex_digit digits f.0 in
        let minus : next text ≡ Some (mark Minus, digits) = ap next (sym is.0 ∙ ap (λ w. 45 ∷ w) (sym (append-nil digits))) ∙ minus_next digits [] d ∙ ap (λ w. Some (mark Minus, w)) (append-nil digits) in
        let same : digits ≡ q = (some_pair_parts (mark Minus) (mark Minus) digits q (sym minus ∙ t)).1 in
        let token : next digits ≡ Some (integer digits, []) = ap next same ∙ m ∙ ap (λ w. Some (integer digits, w)) is.1 in
        let stands : next (text ++ back) ≡ Some (mark Minus, digits ++ back) = ap (λ w. next (w ++ back)) (sym is.0) ∙ minus_next digits back d in
        let there = hex_again digits back f.0 (after_follows ty rest s).0 token in
        (mark Minus, digits ++ back, stands, (integer digits, back, there, literal_again true digits text ty rest is.0 f (fits_more (suc depth) ty small fits_in) s))

    by_negative : (t : Lexeme) (l q : List ℕ) → next q ≡ Some (t, l) → is_negative_by text ty t l ≡ true → next text ≡ Some (mark Minus, q) → Kept
    by_negative (float digits) l q m k n = negative digits l q m k n
    by_negative (integer digits) l q m k n = negative_digits digits l q m k n
    by_negative _ l q m k n = absurd cc

    by_minus : (q : List ℕ) (o : Option (Lexeme × List ℕ)) → next q ≡ o → is_negative_from text ty o ≡ true → next text ≡ Some (mark Minus, q) → Kept
    by_minus q None m k n = absurd cc
    by_minus q (Some t) m k n = by_negative t.0 t.1 q m k n

    by_token : (t : Lexeme) (q : List ℕ) → next text ≡ Some (t, q) → is_text_after text ty t q ≡ true → Kept
    by_token (bare w) q m k = by_tail w q (next_whole text q (bare w) m).0 (tail_of w) refl k
    by_token (hash n) q m k =
        let p = and_parts (not (bytes_eq n overflow_word)) (is_all text (dialect_text 35 n q)) k in
        let g = hash_again n q text back (after_follows ty rest s) (all_of text (dialect_text 35 n q) p.1) in
        let here : IsKept true (suc depth) TypeOrNone (dialect_text 35 n g.0) (OpaqueOf text ty) rest = ((text, back), g.2, tail TypeOrNone refl) in
        (hash n, g.0, ap next g.1 ∙ hash_token n g.0 (next_whole text q (hash n) m).0 g.3, inr (not-true (bytes_eq n overflow_word) p.0, (refl, here)))
    by_token (string raw) q m k =
        let p = and_parts (eligible SomeType ty) (is_all text (Some (quoted_text raw, q))) k in
        let is = some_pair_parts (quoted_text raw) text q [] (all_of text (Some (quoted_text raw, q)) p.1) in
        let token : next (quoted_text raw) ≡ Some (string raw, []) = ap next is.0 ∙ m ∙ ap (λ l. Some (string raw, l)) is.1 in
        let stands : next (text ++ back) ≡ Some (string raw, back) = ap (λ l. next (l ++ back)) (sym is.0) ∙ string_again raw back token in
        (string raw, back, stands, inl (refl, inl (subst (λ l. IsTail true (suc depth) SomeType l (OpaqueOf text ty) back rest) (sym is.0) (tail SomeType p.0))))
    by_token (float digits) q m k =
        let p = and_parts (begins_digit digits) (eligible OpaqueOrNone ty && is_all text (Some (digits, q))) k in
        let r = and_parts (eligible OpaqueOrNone ty) (is_all text (Some (digits, q))) p.1 in
        let is = some_pair_parts digits text q [] (all_of text (Some (digits, q)) r.1) in
        let token : next digits ≡ Some (float digits, []) = ap next is.0 ∙ m ∙ ap (λ l. Some (float digits, l)) is.1 in
        let stands : next (text ++ back) ≡ Some (float digits, back) = ap (λ l. next (l ++ back)) (sym is.0) ∙ float_again digits back p.0 (after_follows ty rest s).0 token in
        (float digits, back, stands, (refl, subst (λ l. IsTail true (suc depth) OpaqueOrNone l (OpaqueOf text ty) back rest) (sym is.0) (tail OpaqueOrNone r.0)))
    by_token (integer digits) q m k =
        let p = and_parts (eligible_digits digits ty) (is_all text (Some (digits, q))) k in
        let is = some_pair_parts digits text q [] (all_of text (Some (digits, q)) p.1) in
        let token : next digits ≡ Some (integer digits, []) = ap next is.0 ∙ m ∙ ap (λ l. Some (integer digits, l)) is.1 in
        let f = digits_parts digits ty p.0 in
        let stands : next (text ++ back) ≡ Some (integer digits, back) = ap (λ l. next (l ++ back)) (sym is.0) ∙ hex_again digits back f.0 (after_follows ty rest s).0 token in
        (integer digits, back, stands, literal_again false digits text ty rest is.0 f (fits_more (suc depth) ty small fits_in) s)
    by_token (mark Minus) q m k = by_minus q (next q) refl k m
    by_token _ q m k = absurd cc

    by : (o : Option (Lexeme × List ℕ)) → next text ≡ o → is_text_from text ty o ≡ true → Kept
    by None m k = absurd cc
    by (Some t) m k = by_token t.0 t.1 m k
