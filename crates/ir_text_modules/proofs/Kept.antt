-- Opaque types, and that their texts are parsed back.
use Rattle.std.proofs.Common.{◌≡◌, ℕ, ◌+◌, ◌-◌, Bool, true, false, ◌⊎◌, inl, inr, List, [], ◌∷◌, ◌++◌, length, take, Option, Some, None, refl, sym, ap, subst, ◌∙◌, append_assoc, arith}
use Rattle.std.specs.Prelude.{◌&&◌, ◌||◌, not, if◌then◌else◌, option_map, Result, Ok, Err}
use Rattle.std.specs.Str.{bytes_eq}
use Rattle.std.proofs.lemmas.Bool.{and_parts, eqb-true, cases_Bool}
use Rattle.std.proofs.lemmas.Option.{some_pair_parts}
use Rattle.ir_types.specs.Terms.{TypeTerm, OpaqueType}
use Rattle.ir_types.proofs.Growth.{name_is}
use Rattle.ir_text_tokens.specs.declared.fault.Fault.{Fault}
use Rattle.ir_text_tokens.specs.Bytes.{is_suffix, is_word}
use Rattle.ir_text_tokens.specs.Printing.{Stops, is_bare_id, is_suffix_id}
use Rattle.ir_text_tokens.specs.Tokens.{Lexeme, bare, bang, next, skip}
use Rattle.ir_text_tokens.proofs.Blanks.{skip_nothing}
use Rattle.ir_text_tokens.proofs.Printed.{bare_token, name_again}
use Rattle.ir_text_tokens.proofs.Wholes.{next_whole}
use Rattle.ir_text_tokens.specs.Bodies.{begins, body_at, has_dot, is_none, is_plain_body, is_plain_memref, parted, scan}
use Rattle.ir_text_tokens.proofs.Again.{reads_again, shorter, stands_at_the_start}
use Rattle.ir_text_types.specs.Grammars.{Grammar, Token}
use Rattle.ir_text_types.specs.OpaqueTypes.{is_alone, is_angled, is_opaque_word, with_body, bracketed, word_text, dialect_text}
use Rattle.ir_text_types.specs.Scalars.{memref_word}
use Rattle.ir_text_types.specs.TypeGrammar.{IsWordFrom, IsAfter}
use Rattle.ir_text_modules.specs.Kept.{EndsType, is_all, is_type_text, kept_after, kept_from}
use Rattle.ir_text_modules.proofs.Simple.{plain_again}

-- ---- bodies in angle brackets

-- the body is the bracket, the text inside, and the closing bracket
abbrev pub Inside : List ℕ → List ℕ → List ℕ → Type 0
Inside x b r = (w : List ℕ) × (b ≡ 60 ∷ w) × (x ≡ w ++ r) × (scan (62 ∷ []) 0 (w ++ r) ≡ Ok r)

pub inside : (x b r : List ℕ) → body_at (60 ∷ x) ≡ Some (b, r) → Inside x b r
inside x b r e = by_scan (scan (62 ∷ []) 0 x) refl e
  where
    from : (b r q : List ℕ) → scan (62 ∷ []) 0 x ≡ Ok q → q ≡ r → 60 ∷ x ≡ b ++ r → Inside x b r
    from [] r q m p preceding = absurd (omega (arith, shorter 62 [] 0 x q m, ap length p, ap length preceding))
    from (d ∷ w) r q m p preceding =
        let head : 60 ≡ d = cc preceding in
        let tail : x ≡ w ++ r = cc preceding in
        (w, ap (λ c. c ∷ w) (sym head), tail, ap (scan (62 ∷ []) 0) (sym tail) ∙ m ∙ ap Ok p)

    by_scan : (s : Result (List ℕ) Fault) → scan (62 ∷ []) 0 x ≡ s → parted (60 ∷ x) s ≡ Some (b, r) → Inside x b r
    by_scan (Err f) m k = absurd cc
    by_scan (Ok q) m k = from b r q m (some_pair_parts (take (length (60 ∷ x) - length q) (60 ∷ x)) b q r k).1 (stands_at_the_start (60 ∷ x) b r e)

first : (l : List ℕ) → begins 60 l ≡ true → (x : List ℕ) × (l ≡ 60 ∷ x)
first [] e = absurd cc
first (c ∷ cs) e = (cs, ap (λ d. d ∷ cs) (eqb-true c 60 e))

-- the text inside a body in angle brackets, with its closing bracket
abbrev pub IsBody : List ℕ → Type 0
IsBody v = (body_at (60 ∷ v ++ []) ≡ Some (60 ∷ v, [])) × (scan (62 ∷ []) 0 (v ++ []) ≡ Ok [])

-- such a body is found, whatever text follows it
pub body_found : (v rest : List ℕ) → IsBody v → body_at (60 ∷ v ++ rest) ≡ Some (60 ∷ v, rest)
body_found v rest b = reads_again (60 ∷ v ++ []) (60 ∷ v) [] rest b.0

-- the text before the body, and the body that is found
abbrev joined : List ℕ → Option (List ℕ × List ℕ) → Option (List ℕ × List ℕ)
joined preceding o = option_map (λ (b : List ℕ × List ℕ). (preceding ++ b.0, b.1)) o

-- a text of `front` and a body, with the rest of the text
abbrev Bodied : List ℕ → List ℕ → List ℕ → List ℕ → Type 0
Bodied preceding q text r = (v : List ℕ) × (text ≡ preceding ++ 60 ∷ v) × (q ≡ 60 ∷ v ++ r) × (scan (62 ∷ []) 0 (v ++ r) ≡ Ok r) × IsBody v

bodied : (preceding q text r : List ℕ) → begins 60 q ≡ true → with_body preceding q ≡ Some (text, r) → Bodied preceding q text r
bodied preceding q text r h e = by (body_at q) refl e
  where
    made : (b x : List ℕ) → q ≡ 60 ∷ x → body_at (60 ∷ x) ≡ Some (b, r) → preceding ++ b ≡ text → Bodied preceding q text r
    made b x is m k =
        let i = inside x b r m in
        let alone : body_at (60 ∷ i.0 ++ []) ≡ Some (60 ∷ i.0, []) = ap (λ l. body_at (l ++ [])) (sym i.1) ∙ reads_again (60 ∷ x) b r [] m ∙ ap (λ l. Some (l, [])) i.1 in
        let within = inside (i.0 ++ []) (60 ∷ i.0) [] alone in
        (i.0, sym k ∙ ap (λ l. preceding ++ l) i.1, is ∙ ap (λ l. 60 ∷ l) i.2, i.3, (alone, ap (scan (62 ∷ []) 0) within.2 ∙ within.3))

    by : (o : Option (List ℕ × List ℕ)) → body_at q ≡ o → joined preceding o ≡ Some (text, r) → Bodied preceding q text r
    by None m k = absurd cc
    by (Some b) m k =
        let p = some_pair_parts (preceding ++ b.0) text b.1 r k in
        let x = first q h in
        made b.0 x.0 x.1 (ap body_at (sym x.1) ∙ m ∙ ap (λ u. Some (b.0, u)) p.1) p.0

-- ---- the forms of opaque types

-- a word alone, a word with a body, a dialect's name alone, or a dialect's name with a body
abbrev pub IsWordAlone : List ℕ → Type 0
IsWordAlone text = (is_bare_id text ≡ true) × (is_alone text ≡ true)

abbrev pub IsWordBodied : List ℕ → Type 0
IsWordBodied text = (w v : List ℕ) × (text ≡ w ++ 60 ∷ v) × (is_bare_id w ≡ true) × (is_alone w ≡ false) × (is_opaque_word w (60 ∷ v ++ []) ≡ true) × IsBody v

abbrev pub IsNameAlone : List ℕ → Type 0
IsNameAlone text = (n : List ℕ) × (text ≡ 33 ∷ n) × (is_suffix_id n ≡ true) × (has_dot n ≡ true)

abbrev pub IsNameBodied : List ℕ → Type 0
IsNameBodied text = (n v : List ℕ) × (text ≡ 33 ∷ n ++ 60 ∷ v) × (is_suffix_id n ≡ true) × IsBody v

abbrev pub Form : List ℕ → Type 0
Form text = IsWordAlone text ⊎ IsWordBodied text ⊎ IsNameAlone text ⊎ IsNameBodied text

abbrev plain_or : Bool → List ℕ → Bool
plain_or p w = (is_alone w || is_angled w) || (bytes_eq w memref_word && not p)

pub word_form : (w q text r : List ℕ) → is_bare_id w ≡ true → is_opaque_word w q ≡ true → word_text w q ≡ Some (text, r) → Form text
word_form w q text r id o e = by (is_alone w) refl e
  where
    with_angles : is_alone w ≡ false → Bodied w (skip q) text r → Form text
    with_angles a b =
        let same : is_plain_memref q ≡ is_plain_memref (60 ∷ b.0 ++ []) = ap is_plain_body (b.2 ∙ sym (skip_nothing 60 (b.0 ++ r) refl refl)) ∙ plain_again b.0 r [] b.3 in
        inr (inl (w, b.0, b.1, id, a, ap (λ p. plain_or p w) (sym same) ∙ o, b.4))

    by_bracket : is_alone w ≡ false → (t : Bool) → begins 60 (skip q) ≡ t → (if t then with_body w (skip q) else None) ≡ Some (text, r) → Form text
    by_bracket a false h k = absurd cc
    by_bracket a true h k = with_angles a (bodied w (skip q) text r h k)

    by : (t : Bool) → is_alone w ≡ t → (if t then Some (w, q) else bracketed 60 w (skip q)) ≡ Some (text, r) → Form text
    by true a k = subst Form (some_pair_parts w text q r k).0 (inl (id, a))
    by false a k = by_bracket a (begins 60 (skip q)) refl k

abbrev dotted : Bool → List ℕ → List ℕ → Option (List ℕ × List ℕ)
dotted dot n q = if dot then Some (33 ∷ n, q) else None

pub name_form : (n q text r : List ℕ) → is_suffix_id n ≡ true → dialect_text 33 n q ≡ Some (text, r) → Form text
name_form n q text r id e = by (begins 60 q) refl e
  where
    with_angles : Bodied (33 ∷ n) q text r → Form text
    with_angles b = inr (inr (inr (n, b.0, b.1, id, b.4)))

    by_dot : (t : Bool) → has_dot n ≡ t → dotted t n q ≡ Some (text, r) → Form text
    by_dot false d k = absurd cc
    by_dot true d k = inr (inr (inl (n, sym (some_pair_parts (33 ∷ n) text q r k).0, id, d)))

    by : (t : Bool) → begins 60 q ≡ t → (if t then with_body (33 ∷ n) q else dotted (has_dot n) n q) ≡ Some (text, r) → Form text
    by true h k = with_angles (bodied (33 ∷ n) q text r h k)
    by false h k = by_dot (has_dot n) refl k

empty : (l : List ℕ) → is_none l ≡ true → l ≡ []
empty [] e = refl
empty (c ∷ cs) e = absurd cc

pub all_of : (text : List ℕ) (o : Option (List ℕ × List ℕ)) → is_all text o ≡ true → o ≡ Some (text, [])
all_of text None e = absurd cc
all_of text (Some x) e =
    let p = and_parts (bytes_eq x.0 text) (is_none x.1) e in
    λ i. Some (name_is x.0 text p.0 i, empty x.1 p.1 i)

pub form_of : (text : List ℕ) → is_type_text text ≡ true → Form text
unfolding is_type_text
form_of text e = by (next text) refl e
  where
    by_opaque : (w q : List ℕ) → is_bare_id w ≡ true → (t : Bool) → is_opaque_word w q ≡ t → is_all text (if t then word_text w q else None) ≡ true → Form text
    by_opaque w q id false o k = absurd cc
    by_opaque w q id true o k = word_form w q text [] id o (all_of text (word_text w q) k)

    by_token : (t : Lexeme) (q : List ℕ) → next text ≡ Some (t, q) → is_all text (kept_after t q) ≡ true → Form text
    by_token (bare w) q m k = by_opaque w q (next_whole text q (bare w) m).0 (is_opaque_word w q) refl k
    by_token (bang n) q m k = name_form n q text [] (next_whole text q (bang n) m).0 (all_of text (dialect_text 33 n q) k)
    by_token _ q m k = absurd cc

    by : (o : Option (Lexeme × List ℕ)) → next text ≡ o → is_all text (kept_from o) ≡ true → Form text
    by None m k = absurd cc
    by (Some t) m k = by_token t.0 t.1 m k

-- ---- parsed back

pub bang_token : (n rest : List ℕ) → is_suffix_id n ≡ true → Stops is_suffix rest → next (33 ∷ (n ++ rest)) ≡ Some (bang n, rest)
unfolding next skip
bang_token [] [] e s = name_again bang [] [] e s
bang_token [] (c ∷ cs) e s = name_again bang [] (c ∷ cs) e s
bang_token (d ∷ ds) rest e s = name_again bang (d ∷ ds) rest e s

pub no_word : (rest : List ℕ) → Stops is_suffix rest → Stops is_word rest
no_word [] s = tt
no_word (c ∷ cs) s = elim (cases_Bool (is_word c)) [
  | inl t ↦ let z : is_suffix c ≡ true = rw t refl in absurd cc
  | inr f ↦ f
]

-- M derives a memref after its word
module _ (M : Grammar (List ℕ) TypeTerm) where
  -- the text is an opaque type, and `rest` is the rest after it
  abbrev pub IsKept : List ℕ → List ℕ → Type 0
  IsKept text rest = (token : Lexeme) × (q : List ℕ) × Token token (text ++ rest) q × IsAfter true M token (OpaqueType text) q rest

  word_kept : (w q text rest : List ℕ) → is_opaque_word w q ≡ true → word_text w q ≡ Some (text, rest) → IsAfter true M (bare w) (OpaqueType text) q rest
  word_kept w q text rest known found = subst (λ b. IsWordFrom M b (bytes_eq w memref_word) w (OpaqueType text) q rest) (sym known) ((text, rest), found, refl, refl)

  word_alone : (w rest : List ℕ) → IsWordAlone w → Stops is_word rest → IsKept w rest
  word_alone w rest f s =
      let known : is_opaque_word w rest ≡ true = rw f.1 refl in
      let found : word_text w rest ≡ Some (w, rest) = rw f.1 refl in
      (bare w, rest, bare_token w rest f.0 s, word_kept w rest w rest known found)

  word_bodied : (w v rest : List ℕ) → is_bare_id w ≡ true → is_alone w ≡ false → is_opaque_word w (60 ∷ v ++ []) ≡ true → IsBody v → IsKept (w ++ 60 ∷ v) rest
  word_bodied w v rest id a o b =
      let back = 60 ∷ v ++ rest in
      let known : is_opaque_word w back ≡ true = ap (λ p. plain_or p w) (sym (plain_again v [] rest b.1)) ∙ o in
      let text : word_text w back ≡ Some (w ++ 60 ∷ v, rest) = rw a (ap (bracketed 60 w) (skip_nothing 60 (v ++ rest) refl refl) ∙ ap (joined w) (body_found v rest b)) in
      (bare w, back, ap next (append_assoc w (60 ∷ v) rest) ∙ bare_token w back id refl, word_kept w back (w ++ 60 ∷ v) rest known text)

  name_alone : (n rest : List ℕ) → is_suffix_id n ≡ true → has_dot n ≡ true → EndsType true rest → IsKept (33 ∷ n) rest
  name_alone n rest id d s =
      let found : dialect_text 33 n rest ≡ Some (33 ∷ n, rest) = rw (s.1, d) refl in
      (bang n, rest, bang_token n rest id s.0, (refl, ((33 ∷ n, rest), found, refl, refl)))

  name_bodied : (n v rest : List ℕ) → is_suffix_id n ≡ true → IsBody v → IsKept (33 ∷ n ++ 60 ∷ v) rest
  name_bodied n v rest id b =
      let back = 60 ∷ v ++ rest in
      let text : dialect_text 33 n back ≡ Some (33 ∷ n ++ 60 ∷ v, rest) = ap (joined (33 ∷ n)) (body_found v rest b) in
      (bang n, back, ap (λ l. next (33 ∷ l)) (append_assoc n (60 ∷ v) rest) ∙ bang_token n back id refl, (refl, ((33 ∷ n ++ 60 ∷ v, rest), text, refl, refl)))

  pub form_again : (text rest : List ℕ) → Form text → EndsType true rest → IsKept text rest
  form_again text rest (inl f) s = word_alone text rest f (no_word rest s.0)
  form_again text rest (inr (inl f)) s = subst (λ t. IsKept t rest) (sym f.2) (word_bodied f.0 f.1 rest f.3 f.4 f.5 f.6)
  form_again text rest (inr (inr (inl f))) s = subst (λ t. IsKept t rest) (sym f.1) (name_alone f.0 rest f.2 f.3 s)
  form_again text rest (inr (inr (inr f))) s = subst (λ t. IsKept t rest) (sym f.2) (name_bodied f.0 f.1 rest f.3 f.4)
