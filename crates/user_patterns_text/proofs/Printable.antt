-- A pattern that a text spells can be printed.
use Rattle.std.proofs.Common.{◌≡◌, ◌∙◌, ℕ, zero, suc, ◌^◌, ◌<◌, ◌≤◌, ◌==◌, Bool, true, false, List, [], ◌∷◌, ◌++◌, codes, length, append_assoc, Option, Some, None, refl, sym, ap, subst, arith, inl, inr, if◌then◌else◌, nat_lt}
use Rattle.std.proofs.lemmas.Bool.{ltb-true}
use Rattle.std.proofs.lemmas.Option.{same_Some}
use Rattle.ir_text_tokens.specs.declared.token.Mark.{Mark}
use Rattle.ir_text_tokens.specs.declared.token.Mark.TheVariants.{CloseRound, End}
use Rattle.ir_text_tokens.specs.Numbers.{integer_of}
use Rattle.ir_text_tokens.specs.Printing.{IsWhole, is_bare_id, is_suffix_id}
use Rattle.ir_text_tokens.specs.Tokens.{Lexeme, mark, integer, float, string, bare, value, label, hash, bang, symbol, quoted, next}
use Rattle.ir_text_tokens.proofs.Wholes.{next_whole}
use Rattle.ir_text_types.specs.Grammars.{Grammar, IsMark, IsMore, IsList}
use Rattle.ir_text_types.specs.Marks.{mark_code}
use Rattle.ir_text_types.specs.Typed.{Text}
use Rattle.user_patterns_text.specs.Syntax.{Number, literal, numbers_of, number_list, Term, terms_of, term_list, Constraint, narrower, Pattern}
use Rattle.user_patterns_text.specs.Heads.{Head, of_value, of_operation, of_word, of_digits, of_minus, of_other, head_of, has_dot, is_type_word, is_one_of, may_be_requested, must_be_requested}
use Rattle.user_patterns_text.specs.Grammar.{most, old_depth, new_depth, IsWordOf, IsWord, IsType, IsTyped, IsDigits, IsMagnitudeOf, IsMagnitude, IsNumberOf, IsNumber, IsRequestedBy, IsOldNumberOf, IsConstant, IsTermOf, IsValueOf, IsOld, IsNew, IsConditionOf, IsCondition, IsRequestedAtEnd, IsPattern}
use Rattle.user_patterns_text.specs.Printing.{IsName, FitsNumber, FitsList, FitsRest, FitsType, FitsRequested, FitsOldNumber, FitsOld, FitsOlds, FitsNew, FitsNews, AreTypes, FitsCondition, FitConditions, IsPrintable}

-- ---- heads

abbrev HeadFits : Head → Type 0
HeadFits (of_value n) = is_suffix_id n ≡ true
HeadFits (of_operation w) = (is_bare_id w ≡ true) × (has_dot w ≡ true)
HeadFits (of_word w) = IsName w
HeadFits (of_digits ds) = Unit {0}
HeadFits of_minus = Unit {0}
HeadFits of_other = Unit {0}

word_head_fits : (w : List ℕ) (b : Bool) → is_bare_id w ≡ true → has_dot w ≡ b → HeadFits (if b then of_operation w else of_word w)
word_head_fits w true e d = (e, d)
word_head_fits w false e d = (e, d)

mark_head_fits : (b : Bool) → HeadFits (if b then of_minus else of_other)
mark_head_fits true = tt
mark_head_fits false = tt

head_fits : (l : Lexeme) (rest : Text) → IsWhole l rest → HeadFits (head_of l)
head_fits (value n) rest h = h.0
head_fits (bare w) rest h = word_head_fits w (has_dot w) h.0 refl
head_fits (integer ds) rest h = tt
head_fits (mark m) rest h = mark_head_fits (mark_code m == 45)
head_fits (float s) rest h = tt
head_fits (string s) rest h = tt
head_fits (label s) rest h = tt
head_fits (hash s) rest h = tt
head_fits (bang s) rest h = tt
head_fits (symbol s) rest h = tt
head_fits (quoted s) rest h = tt

token_fits : (start : Text) (l : Lexeme) (rest : Text) → next start ≡ Some (l, rest) → HeadFits (head_of l)
token_fits start l rest e = head_fits l rest (next_whole start rest l e)

-- ---- words and types

word_of_fits : (h : Head) (w r mid : Text) → HeadFits h → IsWordOf h w r mid → IsName w
word_of_fits (of_word v) w r mid f d = subst IsName (sym d.0) f
word_of_fits (of_value n) w r mid f d = absurd d
word_of_fits (of_operation v) w r mid f d = absurd d
word_of_fits (of_digits ds) w r mid f d = absurd d
word_of_fits of_minus w r mid f d = absurd d
word_of_fits of_other w r mid f d = absurd d

word_fits : (w start mid : Text) → IsWord w start mid → IsName w
word_fits w start mid d = word_of_fits (head_of d.0) w d.1 mid (token_fits start d.0 d.1 d.2) d.3

type_fits : (w start mid : Text) → IsType w start mid → IsName w × (is_type_word w ≡ true)
type_fits w start mid d =
    (subst IsName (sym d.3.1) (word_fits d.0 start d.1 d.2), subst (λ (u : List ℕ). is_type_word u ≡ true) (sym d.3.1) d.3.0)

typed_fits : (ty : Option (List ℕ)) (start mid : Text) → IsTyped ty start mid → FitsType ty
typed_fits ty start mid d = elim d [
  | inl a ↦ subst FitsType (sym a.2.3.0) (type_fits a.2.0 a.0 a.2.1 a.2.2)
  | inr a ↦ subst FitsType (sym a.1.0) tt
]

-- ---- lists

module _ {A : Type 0} (Q : A → Type 0) where
  abbrev pub AllFit : List A → Type 0
  AllFit [] = Unit {0}
  AllFit (x ∷ xs) = Q x × AllFit xs

  -- `ys` is `items` followed by at least one more item
  abbrev pub Listed : ℕ → List A → List A → Type 0
  Listed headroom items ys = (x : A) × (xs : List A) × (ys ≡ items ++ (x ∷ xs)) × Q x × AllFit xs × (length (x ∷ xs) ≤ headroom)

module _ {A : Type 0} (P : Grammar Text A) (Q : A → Type 0) (fits : (x : A) (s m : Text) → P x s m → Q x) where
  pub more_fits : (close : Mark) (headroom : ℕ) (items ys : List A) (s m : Text) → IsMore IsMark close (λ before. P) headroom items ys s m → Listed Q headroom items ys
  unfolding IsMore
  more_fits close zero items ys s m d = absurd d
  more_fits close (suc headroom) items ys s m d = elim d.3 [
    | inl a ↦ (d.0, [], a.1, fits d.0 s d.1 d.2, tt, omega arith)
    | inr a ↦ (let r = more_fits close headroom (items ++ d.0 ∷ []) ys a.1 m a.3 in
        (d.0, r.0 ∷ r.1, r.2 ∙ append_assoc items (d.0 ∷ []) (r.0 ∷ r.1), fits d.0 s d.1 d.2, (r.3, r.4), omega (arith, r.5)))
  ]

-- ---- numbers

under : (x n : ℕ) (b : Bool) → nat_lt x (2 ^ 128) ≡ b → (if b then Some x else None) ≡ Some n → n < 2 ^ 128
under x n true t e = subst (λ (k : ℕ). k < 2 ^ 128) (same_Some x n e) (ltb-true x (2 ^ 128) t)
under x n false t e = absurd (none_some n e)
  where
    none_some : (k : ℕ) → None ≡ Some k → ⊥
    none_some k e = cc

digits_fit : (negative : Bool) (ds : List ℕ) (y : Number) (r mid : Text) → IsDigits negative ds y r mid → (n : ℕ) × (y ≡ literal negative n) × (n < 2 ^ 128)
digits_fit negative ds y r mid d = (d.0, d.2, under (integer_of ds) d.0 (nat_lt (integer_of ds) (2 ^ 128)) refl d.1)

magnitude_of_fits : (h : Head) (y : Number) (r mid : Text) → IsMagnitudeOf h y r mid → (n : ℕ) × (y ≡ literal true n) × (n < 2 ^ 128)
magnitude_of_fits (of_digits ds) y r mid d = digits_fit true ds y r mid d
magnitude_of_fits (of_word w) y r mid d = absurd d
magnitude_of_fits (of_value n) y r mid d = absurd d
magnitude_of_fits (of_operation w) y r mid d = absurd d
magnitude_of_fits of_minus y r mid d = absurd d
magnitude_of_fits of_other y r mid d = absurd d

magnitude_fits : (y : Number) (r mid : Text) → IsMagnitude y r mid → (n : ℕ) × (y ≡ literal true n) × (n < 2 ^ 128)
magnitude_fits y r mid d = magnitude_of_fits (head_of d.0) y d.1 mid d.3

pub list_once : (ns : List Number) → number_list (numbers_of ns) ≡ ns
list_once [] = refl
list_once (n ∷ ns) = ap (λ (ms : List Number). n ∷ ms) (list_once ns)

module _ (depth : ℕ) where
  rest_fits : (ns : List Number) → AllFit (FitsNumber depth) ns → FitsRest depth (numbers_of ns)
  unfolding FitsRest
  rest_fits [] f = tt
  rest_fits (n ∷ ns) f = (f.0, rest_fits ns f.1)

  list_fits : (ns : List Number) → Listed (FitsNumber depth) most [] ns → FitsList depth (numbers_of ns) × (length (number_list (numbers_of ns)) ≤ most)
  unfolding FitsList
  list_fits ns r =
      subst (λ (ms : List Number). FitsList depth (numbers_of ms) × (length (number_list (numbers_of ms)) ≤ most)) (sym r.2)
      ((r.3, rest_fits r.1 r.4), subst (λ (ms : List Number). length ms ≤ most) (sym (list_once (r.0 ∷ r.1))) r.5)

number_of_fits : (depth : ℕ) → ((y : Number) (s m : Text) → IsNumber depth y s m → FitsNumber depth y) → (h : Head) (y : Number) (r mid : Text) → HeadFits h → IsNumberOf (IsNumber depth) h y r mid → FitsNumber (suc depth) y
unfolding FitsNumber
number_of_fits depth inner (of_digits ds) y r mid f d =
    let n = digits_fit false ds y r mid d in
    subst (FitsNumber (suc depth)) (sym n.1) n.2
number_of_fits depth inner of_minus y r mid f d =
    let n = magnitude_fits y r mid d in
    subst (FitsNumber (suc depth)) (sym n.1) n.2
number_of_fits depth inner (of_word w) y r mid f d = elim d [
  | inl a ↦ (let l = list_fits depth a.2.0 (more_fits (IsNumber depth) (FitsNumber depth) inner CloseRound most [] a.2.0 a.0 a.2.1 a.2.2) in
      subst (FitsNumber (suc depth)) (sym a.2.3.0) (f, l.0, l.1))
  | inr a ↦ subst (FitsNumber (suc depth)) (sym a.1.0) f
]
number_of_fits depth inner (of_value n) y r mid f d = absurd d
number_of_fits depth inner (of_operation w) y r mid f d = absurd d
number_of_fits depth inner of_other y r mid f d = absurd d

number_fits : (depth : ℕ) (y : Number) (start mid : Text) → IsNumber depth y start mid → FitsNumber depth y
unfolding IsNumber
number_fits zero y start mid d = absurd d
number_fits (suc depth) y start mid d = number_of_fits depth (number_fits depth) (head_of d.0) y d.1 mid (token_fits start d.0 d.1 d.2) d.3

old_number_fits : (h : Head) (y : Number) (r mid : Text) → HeadFits h → IsOldNumberOf h y r mid → FitsOldNumber y
old_number_fits (of_digits ds) y r mid f d = let n = digits_fit false ds y r mid d in subst FitsOldNumber (sym n.1) n.2
old_number_fits of_minus y r mid f d = let n = magnitude_fits y r mid d in subst FitsOldNumber (sym n.1) n.2
old_number_fits (of_word w) y r mid f d = subst FitsOldNumber (sym d.0) f
old_number_fits (of_value n) y r mid f d = absurd d
old_number_fits (of_operation w) y r mid f d = absurd d
old_number_fits of_other y r mid f d = absurd d

-- ---- terms

requested_fits : (left : Bool) (name : List ℕ) (a : Option (List ℕ)) (start mid : Text) → IsRequestedBy (may_be_requested left name) (must_be_requested name) name a start mid → FitsRequested left name a
requested_fits left name a start mid d = elim d [
  | inl b ↦ subst (FitsRequested left name) (sym b.2.1.3.2.1) (word_fits b.2.1.0 b.0 b.2.1.1 b.2.1.2, b.2.0, b.2.1.3.2.0)
  | inr b ↦ subst (FitsRequested left name) (sym b.1.1) b.1.0
]

terms_once : (ts : List Term) → term_list (terms_of ts) ≡ ts
terms_once [] = refl
terms_once (t ∷ ts) = ap (λ (us : List Term). t ∷ us) (terms_once ts)

module _ (depth : ℕ) (inner : (t : Term) (s m : Text) → IsOld depth t s m → FitsOld depth t) where
  old_all : (ts : List Term) → AllFit (FitsOld depth) ts → FitsOlds depth (terms_of ts)
  unfolding FitsOlds
  old_all [] f = tt
  old_all (t ∷ ts) f = (f.0, old_all ts f.1)

  old_list_fits : (ts : List Term) (s m : Text) → IsList IsMark CloseRound (λ before. IsOld depth) most ts s m → FitsOlds depth (terms_of ts) × (length (term_list (terms_of ts)) ≤ most)
  unfolding IsList FitsOlds
  old_list_fits ts s m d = elim d [
    | inl a ↦ subst (λ (us : List Term). FitsOlds depth (terms_of us) × (length (term_list (terms_of us)) ≤ most)) (sym a.1) (tt, omega arith)
    | inr a ↦ (let r = more_fits (IsOld depth) (FitsOld depth) inner CloseRound most [] ts s m a.1 in
        subst (λ (us : List Term). FitsOlds depth (terms_of us) × (length (term_list (terms_of us)) ≤ most)) (sym r.2)
        ((r.3, old_all r.1 r.4), subst (λ (us : List Term). length us ≤ most) (sym (terms_once (r.0 ∷ r.1))) r.5))
  ]

  old_constant_fits : (h : Head) (t : Term) (r mid : Text) → HeadFits h → IsConstant true IsOldNumberOf (IsOld depth) h t r mid → FitsOld (suc depth) t
  unfolding FitsOld
  old_constant_fits h t r mid f k = subst (FitsOld (suc depth)) (sym k.3.3.0) (old_number_fits h k.0 r k.1 f k.2, typed_fits k.3.0 k.1 k.3.1 k.3.2)

  old_term_fits : (h : Head) (t : Term) (r mid : Text) → HeadFits h → IsTermOf true IsOldNumberOf (IsOld depth) h t r mid → FitsOld (suc depth) t
  unfolding FitsOld
  old_term_fits (of_value n) t r mid f d = subst (FitsOld (suc depth)) (sym d.3.0) (f, typed_fits d.0 r d.1 d.2)
  old_term_fits (of_operation w) t r mid f d =
      let a = requested_fits true w d.0 r d.1 d.2 in
      let ts = old_list_fits d.3.2.0 d.3.0 d.3.2.1 d.3.2.2 in
      let ty = typed_fits d.3.2.3.0 d.3.2.1 d.3.2.3.1 d.3.2.3.2 in
      subst (FitsOld (suc depth)) (sym d.3.2.3.3.1) ((f.0, f.1, d.3.2.3.3.0), a, ts.0, ts.1, ty)
  old_term_fits (of_word w) t r mid f d = old_constant_fits (of_word w) t r mid f d
  old_term_fits (of_digits ds) t r mid f d = old_constant_fits (of_digits ds) t r mid f d
  old_term_fits of_minus t r mid f d = old_constant_fits of_minus t r mid f d
  old_term_fits of_other t r mid f d = absurd d

value_of_fits : (h : Head) (t : Term) (r mid : Text) → HeadFits h → IsValueOf h t r mid → FitsOld zero t
unfolding FitsOld
value_of_fits (of_value n) t r mid f d = subst (FitsOld zero) (sym d.3.0) (f, typed_fits d.0 r d.1 d.2)
value_of_fits (of_operation w) t r mid f d = absurd d
value_of_fits (of_word w) t r mid f d = absurd d
value_of_fits (of_digits ds) t r mid f d = absurd d
value_of_fits of_minus t r mid f d = absurd d
value_of_fits of_other t r mid f d = absurd d

old_fits : (depth : ℕ) (t : Term) (start mid : Text) → IsOld depth t start mid → FitsOld depth t
unfolding IsOld
old_fits zero t start mid d = value_of_fits (head_of d.0) t d.1 mid (token_fits start d.0 d.1 d.2) d.3
old_fits (suc depth) t start mid d = old_term_fits depth (old_fits depth) (head_of d.0) t d.1 mid (token_fits start d.0 d.1 d.2) d.3

module _ (depth : ℕ) (inner : (t : Term) (s m : Text) → IsNew depth t s m → FitsNew depth t) where
  new_all : (ts : List Term) → AllFit (FitsNew depth) ts → FitsNews depth (terms_of ts)
  unfolding FitsNews
  new_all [] f = tt
  new_all (t ∷ ts) f = (f.0, new_all ts f.1)

  new_list_fits : (ts : List Term) (s m : Text) → IsList IsMark CloseRound (λ before. IsNew depth) most ts s m → FitsNews depth (terms_of ts) × (length (term_list (terms_of ts)) ≤ most)
  unfolding IsList FitsNews
  new_list_fits ts s m d = elim d [
    | inl a ↦ subst (λ (us : List Term). FitsNews depth (terms_of us) × (length (term_list (terms_of us)) ≤ most)) (sym a.1) (tt, omega arith)
    | inr a ↦ (let r = more_fits (IsNew depth) (FitsNew depth) inner CloseRound most [] ts s m a.1 in
        subst (λ (us : List Term). FitsNews depth (terms_of us) × (length (term_list (terms_of us)) ≤ most)) (sym r.2)
        ((r.3, new_all r.1 r.4), subst (λ (us : List Term). length us ≤ most) (sym (terms_once (r.0 ∷ r.1))) r.5))
  ]

  new_constant_fits : (h : Head) (t : Term) (r mid : Text) → HeadFits h → IsConstant false (IsNumberOf (IsNumber depth)) (IsNew depth) h t r mid → FitsNew (suc depth) t
  unfolding FitsNew
  new_constant_fits h t r mid f k = subst (FitsNew (suc depth)) (sym k.3.3.0) (number_of_fits depth (number_fits depth) h k.0 r k.1 f k.2, typed_fits k.3.0 k.1 k.3.1 k.3.2)

  new_term_fits : (h : Head) (t : Term) (r mid : Text) → HeadFits h → IsTermOf false (IsNumberOf (IsNumber depth)) (IsNew depth) h t r mid → FitsNew (suc depth) t
  unfolding FitsNew
  new_term_fits (of_value n) t r mid f d = subst (FitsNew (suc depth)) (sym d.3.0) (f, typed_fits d.0 r d.1 d.2)
  new_term_fits (of_operation w) t r mid f d =
      let a = requested_fits false w d.0 r d.1 d.2 in
      let ts = new_list_fits d.3.2.0 d.3.0 d.3.2.1 d.3.2.2 in
      let ty = typed_fits d.3.2.3.0 d.3.2.1 d.3.2.3.1 d.3.2.3.2 in
      subst (FitsNew (suc depth)) (sym d.3.2.3.3.1) ((f.0, f.1, d.3.2.3.3.0), a, ts.0, ts.1, ty)
  new_term_fits (of_word w) t r mid f d = new_constant_fits (of_word w) t r mid f d
  new_term_fits (of_digits ds) t r mid f d = new_constant_fits (of_digits ds) t r mid f d
  new_term_fits of_minus t r mid f d = new_constant_fits of_minus t r mid f d
  new_term_fits of_other t r mid f d = absurd d

new_fits : (depth : ℕ) (t : Term) (start mid : Text) → IsNew depth t start mid → FitsNew depth t
unfolding IsNew
new_fits zero t start mid d = absurd d
new_fits (suc depth) t start mid d = new_term_fits depth (new_fits depth) (head_of d.0) t d.1 mid (token_fits start d.0 d.1 d.2) d.3

-- ---- conditions, and a pattern

types_fit : (ws : List (List ℕ)) → AllFit (λ w. IsName w × (is_type_word w ≡ true)) ws → AreTypes ws
types_fit [] f = tt
types_fit (w ∷ ws) f = (f.0, types_fit ws f.1)

condition_of_fits : (b : Bool) (w : List ℕ) (c : Constraint) (s m : Text) → IsName w → is_one_of (codes "narrower" ∷ []) w ≡ b → IsConditionOf b w c s m → FitsCondition c
condition_of_fits true w c s m name test d =
    let r = more_fits IsType (λ u. IsName u × (is_type_word u ≡ true)) type_fits CloseRound most [] d.0 s d.1 d.2 in
    subst FitsCondition (sym d.3.0) (subst (λ (ws : List (List ℕ)). FitsCondition (narrower ws)) (sym r.2) ((r.3, types_fit r.1 r.4), r.5))
condition_of_fits false w c s m name test d =
    let r = more_fits (IsNumber new_depth) (FitsNumber new_depth) (number_fits new_depth) CloseRound most [] d.0 s d.1 d.2 in
    let l = list_fits new_depth d.0 r in
    subst FitsCondition (sym d.3.0) (name, test, l.0, subst (λ (ns : List Number). length ns ≤ most) (list_once d.0) l.1)

condition_fits : (c : Constraint) (start mid : Text) → IsCondition c start mid → FitsCondition c
condition_fits c start mid d =
    condition_of_fits (is_one_of (codes "narrower" ∷ []) d.0) d.0 c d.3.0 mid (word_fits d.0 start d.1 d.2) refl d.3.2

conditions_fit : (cs : List Constraint) → AllFit FitsCondition cs → FitConditions cs
conditions_fit [] f = tt
conditions_fit (c ∷ cs) f = (f.0, conditions_fit cs f.1)

where_fits : (cs : List Constraint) (start mid : Text) → IsRequestedAtEnd cs start mid → FitConditions cs × (length cs ≤ most)
where_fits cs start mid d = elim d [
  | inl a ↦ subst (λ (ds : List Constraint). FitConditions ds × (length ds ≤ most)) (sym a.2.0) (tt, omega arith)
  | inr a ↦ (let r = more_fits IsCondition FitsCondition condition_fits End most [] cs a.1.1 mid a.1.3.1 in
      subst (λ (ds : List Constraint). FitConditions ds × (length ds ≤ most)) (sym r.2) ((r.3, conditions_fit r.1 r.4), r.5))
]

pub pattern_fits : (p : Pattern) (text rest : Text) → IsPattern p text rest → IsPrintable p
pattern_fits p text rest d =
    let name = word_fits d.0 text d.1 d.2 in
    let o = d.3 in
    let old = old_fits old_depth o.0 d.1 o.1 o.2 in
    let test = o.3.0 in
    let equal = o.3.1 in
    let greater = equal.2 in
    let n = greater.2 in
    let new = new_fits new_depth n.0 greater.0 n.1 n.2 in
    let w = n.3 in
    let cs = where_fits w.0 n.1 w.1 w.2 in
    subst IsPrintable (sym w.3.0) (name, old, test, new, cs.0, cs.1)
