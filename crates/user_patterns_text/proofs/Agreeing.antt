-- Reading with refusals agrees with reading without: the parts of numbers, terms, conditions and patterns.
use Rattle.std.proofs.Common.{◌≡◌, ◌∙◌, ℕ, zero, suc, Bool, true, false, not, List, [], ◌∷◌, ◌++◌, codes, length, append_assoc, append-nil, map, Option, Some, None, Ok, Err, refl, sym, ap, subst, if◌then◌else◌}
use Rattle.std.specs.Str.{bytes_eq}
use Rattle.std.specs.Prelude.{◌||◌}
use Rattle.std.proofs.lemmas.Slice.Eq.{bytes_eq-Decides}
use Rattle.ir_text_tokens.specs.declared.refusal.TextRefusal.TheVariants.{Unexpected, BadWidth, BadValue, TooDeep, LeftOut}
use Rattle.ir_text_tokens.specs.declared.token.Mark.TheVariants.{OpenRound, CloseRound, Less, Greater, Equal, Colon, End}
use Rattle.ir_text_tokens.specs.Tokens.{Lexeme, next}
use Rattle.ir_text_types.specs.Marks.{after}
use Rattle.ir_text_types.specs.Typed.{Text}
use Rattle.user_patterns_text.specs.Syntax.{Number, Numbers, literal, named, called, numbers_of, Term, operation, value_of, constant_of, terms_of, Constraint, narrower, asking, is_operation}
use Rattle.user_patterns_text.specs.Syntax as syntax
use Rattle.user_patterns_text.specs.Grammar.{most, old_depth, new_depth}
use Rattle.user_patterns_text.specs.Heads.{Head, of_value, of_operation, of_word, of_digits, of_minus, of_other, head_of, magnitude_of, is_type_word, is_one_of, folding, is_allowed_word, may_be_requested, must_be_requested}
use Rattle.user_patterns_text.specs.Recognizing as simple
use Rattle.user_patterns_text.specs.Recognizing.{given}
use Rattle.user_patterns_text.specs.Parts.{Part, operation_part, value_part, literal_part, name_part, function_part, condition_part, type_part, end_part, Placed, Pattern, unplaced, type_parts, closed, number_parts, numbers_parts, term_parts, terms_parts, condition_parts, conditions_parts, AreParts}
use Rattle.user_patterns_text.specs.Refusing.{Outcome, ◌>>=◌, refused, begins, token_at, wrong, trailing}
use Rattle.user_patterns_text.specs.Reading as reading
use Rattle.user_patterns_text.specs.Reading.{State, Step, ended}
use Rattle.user_patterns_text.proofs.Matching.{Same, Matches, unplaced_and, same_then, same_matches, matches_then, matches_into, all_refused, bound_again, given_none, token_same, after_same, flats, more_matches, listed_matches}
use Rattle.ir_types.proofs.Truths.{or_false}

-- ---- words and types

word_from_same : (at : ℕ) (h : Head) (rest : Text) → Same (reading.word_from at h rest) (simple.word_of h rest)
word_from_same at (of_word w) rest = refl
word_from_same at (of_value n) rest = tt
word_from_same at (of_operation w) rest = tt
word_from_same at (of_digits ds) rest = tt
word_from_same at of_minus rest = tt
word_from_same at of_other rest = tt

pub word_same : (s : Text) → Same (reading.word_at s) (simple.word s)
unfolding reading.word_at
word_same s = same_then (token_at s) (next s) _ _ (token_same s) (λ t. word_from_same (begins s) (head_of t.0) t.1)

abbrev one_type : List ℕ → List Part
one_type w = type_part w ∷ []

type_if : (b : Bool) (s : State) (at : ℕ) (w : List ℕ) (rest : Text)
    → Matches one_type (unplaced s.0) (if b then Ok (reading.and s.0 at (type_part w), rest) else refused BadWidth at) (simple.done_if b w rest)
type_if true s at w rest = (unplaced_and s.0 at (type_part w), refl)
type_if false s at w rest = tt

type_matches : (s : State) → Matches one_type (unplaced s.0) (reading.type_at s) (simple.type s.1)
unfolding reading.type_at
type_matches s = same_matches one_type (unplaced s.0) (reading.word_at s.1) (simple.word s.1) _ _ (word_same s.1) (λ w. type_if (is_type_word w.0) s (begins s.1) w.0 w.1)

typed_from_matches : (s : State) (o : Option Text)
    → Matches type_parts (unplaced s.0) (reading.typed_from s o) (simple.either_from (simple.and_then simple.type (λ ty. simple.done (Some ty))) (simple.done None) s.1 o)
typed_from_matches s (Some rest) =
    matches_into one_type type_parts (unplaced s.0) (unplaced s.0) (reading.type_at (s.0, rest)) (simple.type rest) _ (type_matches (s.0, rest)) (λ x y e. (e, refl))
typed_from_matches s None = (sym (append-nil (unplaced s.0)), refl)

typed_matches : (s : State) → Matches type_parts (unplaced s.0) (reading.typed_at s) (simple.typed s.1)
unfolding reading.typed_at
typed_matches s = typed_from_matches s (after Colon s.1)

-- ---- numbers

literal_matches : (at digits : ℕ) (negative : Bool) (m : Option ℕ) (s : State)
    → Matches number_parts (unplaced s.0) (reading.literal_from at digits negative m s) (given m (λ n. Some (literal negative n, s.1)))
unfolding number_parts
literal_matches at digits negative (Some n) s = (unplaced_and s.0 at (literal_part negative n), refl)
literal_matches at digits negative None s = tt

magnitude_from_matches : (at digits : ℕ) (h : Head) (s : State) → Matches number_parts (unplaced s.0) (reading.magnitude_from at digits h s) (simple.magnitude_from h s.1)
magnitude_from_matches at digits (of_digits ds) s = literal_matches at digits true (magnitude_of ds) s
magnitude_from_matches at digits (of_word w) s = tt
magnitude_from_matches at digits (of_value n) s = tt
magnitude_from_matches at digits (of_operation w) s = tt
magnitude_from_matches at digits of_minus s = tt
magnitude_from_matches at digits of_other s = tt

magnitude_matches : (at : ℕ) (s : State) → Matches number_parts (unplaced s.0) (reading.magnitude_at at s) (simple.magnitude s.1)
unfolding reading.magnitude_at
magnitude_matches at s =
    same_matches number_parts (unplaced s.0) (token_at s.1) (next s.1) _ _ (token_same s.1) (λ t. magnitude_from_matches at (begins s.1) (head_of t.0) (s.0, t.1))

numbers_flat : (ns : List Number) → numbers_parts (numbers_of ns) ≡ flats number_parts ns
unfolding number_parts
numbers_flat [] = refl
numbers_flat (n ∷ ns) = ap (λ (ps : List Part). number_parts n ++ ps) (numbers_flat ns)

-- the parts of an opening part, its items, and an end
closed_parts : (preceding items : List Part) (p : Part) (xs : List Placed) (at : ℕ) → unplaced xs ≡ (preceding ++ p ∷ []) ++ items → unplaced (reading.and xs at end_part) ≡ preceding ++ (p ∷ closed items)
closed_parts preceding items p xs at e =
    unplaced_and xs at end_part ∙ ap (λ (ps : List Part). ps ++ end_part ∷ []) (e ∙ append_assoc preceding (p ∷ []) items) ∙ append_assoc preceding (p ∷ items) (end_part ∷ [])

name_matches : (at : ℕ) (w : List ℕ) (s : State) → Matches number_parts (unplaced s.0) (Ok (reading.add_part at (name_part w) s)) (Some (named w, s.1))
unfolding number_parts
name_matches at w s = (unplaced_and s.0 at (name_part w), refl)

called_parts : (preceding : List Part) (w : List ℕ) (ns : List Number) (x : State) → unplaced x.0 ≡ (preceding ++ function_part w ∷ []) ++ flats number_parts ns
    → unplaced (ended x).0 ≡ preceding ++ number_parts (called w (numbers_of ns))
unfolding number_parts
called_parts preceding w ns x e =
    closed_parts preceding (flats number_parts ns) (function_part w) x.0 (length x.1) e ∙ ap (λ (ps : List Part). preceding ++ (function_part w ∷ closed ps)) (sym (numbers_flat ns))

module _ (N : Step) (n : Text → Option (Number × Text)) (k : (s : State) → Matches number_parts (unplaced s.0) (N s) (n s.1)) where
  call_from_matches : (at : ℕ) (w : List ℕ) (s : State) (o : Option Text)
      → Matches number_parts (unplaced s.0) (reading.call_from N at w s o)
      (simple.either_from (simple.and_then (simple.more CloseRound n most []) (λ ns. simple.done (called w (numbers_of ns)))) (simple.done (named w)) s.1 o)
  call_from_matches at w s None = name_matches at w s
  call_from_matches at w s (Some rest) =
      matches_then (flats number_parts) number_parts (unplaced s.0 ++ function_part w ∷ []) (unplaced s.0) _ _ _ _
      (more_matches number_parts CloseRound N n k (unplaced s.0 ++ function_part w ∷ []) most [] (reading.and s.0 at (function_part w), rest)
      (unplaced_and s.0 at (function_part w) ∙ sym (append-nil (unplaced s.0 ++ function_part w ∷ []))))
      (λ x ns e. (called_parts (unplaced s.0) w ns x e, refl))

  call_matches : (at : ℕ) (w : List ℕ) (s : State) → Matches number_parts (unplaced s.0) (reading.call_at N at w s) (simple.call n w s.1)
  unfolding reading.call_at
  call_matches at w s = call_from_matches at w s (after OpenRound s.1)

  number_from_matches : (at : ℕ) (h : Head) (s : State) → Matches number_parts (unplaced s.0) (reading.number_from N at h s) (simple.number_from n h s.1)
  unfolding reading.number_from
  number_from_matches at (of_digits ds) s = literal_matches at at false (magnitude_of ds) s
  number_from_matches at of_minus s = magnitude_matches at s
  number_from_matches at (of_word w) s = call_matches at w s
  number_from_matches at (of_value n) s = tt
  number_from_matches at (of_operation w) s = tt
  number_from_matches at of_other s = tt

number_matches : (depth : ℕ) (s : State) → Matches number_parts (unplaced s.0) (reading.number_at depth s) (simple.number depth s.1)
unfolding reading.number_at simple.number
number_matches zero s = all_refused number_parts (unplaced s.0) (token_at s.1) _ (λ t. tt)
number_matches (suc depth) s =
    same_matches number_parts (unplaced s.0) (token_at s.1) (next s.1) _ _ (token_same s.1) (λ t.
    number_from_matches (reading.number_at depth) (simple.number depth) (number_matches depth) (begins s.1) (head_of t.0) (s.0, t.1))

-- ---- terms

old_number_from_matches : (at : ℕ) (h : Head) (s : State) → Matches number_parts (unplaced s.0) (reading.old_number_from at h s) (simple.old_number_from h s.1)
old_number_from_matches at (of_digits ds) s = literal_matches at at false (magnitude_of ds) s
old_number_from_matches at of_minus s = magnitude_matches at s
old_number_from_matches at (of_word w) s = name_matches at w s
old_number_from_matches at (of_value n) s = tt
old_number_from_matches at (of_operation w) s = tt
old_number_from_matches at of_other s = tt

allowed_if : (b : Bool) (at : ℕ) (w : List ℕ) (rest : Text)
    → Same {X = Option (List ℕ) × Text} (if b then (trailing Greater rest >>= λ r. Ok (Some w, r)) else refused Unexpected at) (simple.after_mark Greater (simple.done_if b (Some w)) rest)
allowed_if true at w rest = same_then (trailing Greater rest) (after Greater rest) _ _ (after_same Greater rest) (λ r. refl)
allowed_if false at w rest = subst (Same (refused Unexpected at)) (sym (given_none (after Greater rest) (simple.done_if false (Some w)) (λ r. refl))) tt

requested_same : (name : List ℕ) (s : Text) → Same (reading.requested_at name s) (simple.requested name s)
unfolding reading.requested_at
requested_same name s = same_then (reading.word_at s) (simple.word s) _ _ (word_same s) (λ w. allowed_if (is_allowed_word name w.0) (begins s) w.0 w.1)

requested_from_same : (may must : Bool) (name : List ℕ) (s : Text) (o : Option Text)
    → Same (reading.requested_from may must name s o) (simple.either_from (simple.when may (simple.requested name)) (simple.done_if (not must) None) s o)
requested_from_same true must name s (Some rest) = requested_same name rest
requested_from_same false must name s (Some rest) = tt
requested_from_same may true name s None = tt
requested_from_same may false name s None = refl

requested_by_same : (may must : Bool) (name : List ℕ) (s : Text) → Same (reading.requested_by may must name s) (simple.requested_by may must name s)
unfolding reading.requested_by
requested_by_same may must name s = requested_from_same may must name s (after Less s)

value_matches : (at : ℕ) (n : List ℕ) (s : State) → Matches term_parts (unplaced s.0) (reading.value_from at n s) (simple.value_from n s.1)
unfolding term_parts
value_matches at n s =
    matches_into type_parts term_parts (unplaced (reading.and s.0 at (value_part n))) (unplaced s.0) _ (simple.typed s.1) _ (typed_matches (reading.add_part at (value_part n) s))
    (λ x ty e. (e ∙ ap (λ (ps : List Part). ps ++ type_parts ty) (unplaced_and s.0 at (value_part n)) ∙ append_assoc (unplaced s.0) (value_part n ∷ []) (type_parts ty), refl))

terms_flat : (ts : List Term) → terms_parts (terms_of ts) ≡ flats term_parts ts
unfolding term_parts
terms_flat [] = refl
terms_flat (t ∷ ts) = ap (λ (ps : List Part). term_parts t ++ ps) (terms_flat ts)

operation_parts : (preceding : List Part) (name : List ℕ) (a : Option (List ℕ)) (ts : List Term) (ty : Option (List ℕ)) (xs : List Placed) (at : ℕ) (ys : List Placed)
    → unplaced xs ≡ (preceding ++ operation_part name a ∷ []) ++ flats term_parts ts → unplaced ys ≡ unplaced (reading.and xs at end_part) ++ type_parts ty
    → unplaced ys ≡ preceding ++ term_parts (operation name a (terms_of ts) ty)
unfolding term_parts
operation_parts preceding name a ts ty xs at ys e f =
    f ∙ ap (λ (ps : List Part). ps ++ type_parts ty) (closed_parts preceding (flats term_parts ts) (operation_part name a) xs at e)
    ∙ append_assoc preceding (operation_part name a ∷ closed (flats term_parts ts)) (type_parts ty)
    ∙ ap (λ (ps : List Part). preceding ++ (operation_part name a ∷ (closed ps ++ type_parts ty))) (sym (terms_flat ts))

constant_parts : (preceding : List Part) (n : Number) (ty : Option (List ℕ)) (xs ys : List Placed) → unplaced xs ≡ preceding ++ number_parts n → unplaced ys ≡ unplaced xs ++ type_parts ty
    → unplaced ys ≡ preceding ++ term_parts (constant_of n ty)
unfolding term_parts
constant_parts preceding n ty xs ys e f = f ∙ ap (λ (ps : List Part). ps ++ type_parts ty) e ∙ append_assoc preceding (number_parts n) (type_parts ty)

module _ (left : Bool) (N : ℕ → Head → Step) (n : Head → Text → Option (Number × Text)) (j : (at : ℕ) (h : Head) (s : State) → Matches number_parts (unplaced s.0) (N at h s) (n h s.1))
    (T : Step) (t : Text → Option (Term × Text)) (k : (s : State) → Matches term_parts (unplaced s.0) (T s) (t s.1)) where
  constant_matches : (at : ℕ) (h : Head) (s : State) → Matches term_parts (unplaced s.0) (reading.constant_from N at h s) (simple.constant_from left n t h s.1)
  unfolding reading.constant_from
  constant_matches at h s =
      matches_then number_parts term_parts (unplaced s.0) (unplaced s.0) (N at h s) (n h s.1) _ _ (j at h s) (λ x m e.
      matches_into type_parts term_parts (unplaced x.0) (unplaced s.0) (reading.typed_at x) (simple.typed x.1) _ (typed_matches x) (λ y ty f.
      (constant_parts (unplaced s.0) m ty x.0 y.0 e f, refl)))

  -- the operands, after the constraint
  abbrev Operands : List ℕ → Option (List ℕ) → Bool → Text → Option (Term × Text)
  Operands name a b rest =
      given (simple.listed CloseRound t most rest) (λ ts. given (simple.typed ts.1) (λ ty. simple.done_if b (operation name a (terms_of ts.0) ty.0) ty.1))

  operands_matches : (at : ℕ) (name : List ℕ) (a : Option (List ℕ)) (s : State) (rest : Text)
      → Matches term_parts (unplaced s.0) (reading.operands_at T (reading.and s.0 at (operation_part name a), rest)) (Operands name a true rest)
  unfolding reading.operands_at
  operands_matches at name a s rest =
      matches_then (flats term_parts) term_parts (unplaced (reading.and s.0 at (operation_part name a))) (unplaced s.0) _ (simple.listed CloseRound t most rest) _ _
      (listed_matches term_parts CloseRound T t k most (reading.and s.0 at (operation_part name a), rest)) (λ x ts e.
      matches_into type_parts term_parts (unplaced (ended x).0) (unplaced s.0) (reading.typed_at (ended x)) (simple.typed x.1) _ (typed_matches (ended x)) (λ y ty f.
      (operation_parts (unplaced s.0) name a ts ty x.0 (length x.1) y.0 (e ∙ ap (λ (ps : List Part). ps ++ flats term_parts ts) (unplaced_and s.0 at (operation_part name a))) f, refl)))

  -- the rest of an operation after its name: its constraint and its operands
  abbrev Requested : Bool → List ℕ → Text → Option (Term × Text)
  Requested b name rest = given (simple.requested_by (may_be_requested left name) (must_be_requested name) name rest) (λ a. given (after OpenRound a.1) (Operands name a.0 b))

  opened_matches : (at : ℕ) (name : List ℕ) (a : Option (List ℕ) × Text) (s : State)
      → Matches term_parts (unplaced s.0) ((trailing OpenRound a.1 >>= λ rest. Ok (reading.and s.0 at (operation_part name a.0), rest)) >>= reading.operands_at T)
      (given (after OpenRound a.1) (Operands name a.0 true))
  opened_matches at name a s =
      rw (bound_again (trailing OpenRound a.1) (λ rest. Ok (reading.and s.0 at (operation_part name a.0), rest)) (reading.operands_at T))
      (same_matches term_parts (unplaced s.0) (trailing OpenRound a.1) (after OpenRound a.1) _ (Operands name a.0 true) (after_same OpenRound a.1) (λ rest. operands_matches at name a.0 s rest))

  operation_if : (b : Bool) (at : ℕ) (name : List ℕ) (s : State)
      → Matches term_parts (unplaced s.0) (if b then reading.opened_at left at name s >>= reading.operands_at T else refused LeftOut at) (Requested b name s.1)
  unfolding reading.opened_at
  operation_if true at name s =
      let o = reading.requested_by (may_be_requested left name) (must_be_requested name) name s.1 in
      rw (bound_again o (λ a. trailing OpenRound a.1 >>= λ rest. Ok (reading.and s.0 at (operation_part name a.0), rest)) (reading.operands_at T))
      (same_matches term_parts (unplaced s.0) o (simple.requested_by (may_be_requested left name) (must_be_requested name) name s.1) _ _ (requested_by_same (may_be_requested left name) (must_be_requested name) name s.1)
      (λ a. opened_matches at name a s))
  operation_if false at name s =
      subst (Matches term_parts (unplaced s.0) (refused LeftOut at))
      (sym (given_none (simple.requested_by (may_be_requested left name) (must_be_requested name) name s.1) _ (λ a.
      given_none (after OpenRound a.1) (Operands name a.0 false) (λ rest.
      given_none (simple.listed CloseRound t most rest) _ (λ ts. given_none (simple.typed ts.1) _ (λ ty. refl)))))) tt

  operation_matches : (at : ℕ) (name : List ℕ) (s : State) → Matches term_parts (unplaced s.0) (reading.operation_at left T at name s) (simple.operation_from left n t name s.1)
  unfolding reading.operation_at
  operation_matches at name s = operation_if (is_one_of folding name) at name s

  term_from_matches : (at : ℕ) (h : Head) (s : State) → Matches term_parts (unplaced s.0) (reading.term_from left N T at h s) (simple.term_from left n t h s.1)
  unfolding reading.term_from
  term_from_matches at (of_value m) s = value_matches at m s
  term_from_matches at (of_operation w) s = operation_matches at w s
  term_from_matches at (of_word w) s = constant_matches at (of_word w) s
  term_from_matches at (of_digits ds) s = constant_matches at (of_digits ds) s
  term_from_matches at of_minus s = constant_matches at of_minus s
  term_from_matches at of_other s = tt

deep_old_matches : (at : ℕ) (h : Head) (s : State) → Matches term_parts (unplaced s.0) (reading.deep_term true at h s) (simple.deep_value h s.1)
unfolding reading.deep_term
deep_old_matches at (of_value n) s = value_matches at n s
deep_old_matches at (of_operation w) s = tt
deep_old_matches at (of_word w) s = tt
deep_old_matches at (of_digits ds) s = tt
deep_old_matches at of_minus s = tt
deep_old_matches at of_other s = tt

deep_new_matches : (at : ℕ) (h : Head) (s : State) → Matches term_parts (unplaced s.0) (reading.deep_term false at h s) None
unfolding reading.deep_term
deep_new_matches at (of_value n) s = tt
deep_new_matches at (of_operation w) s = tt
deep_new_matches at (of_word w) s = tt
deep_new_matches at (of_digits ds) s = tt
deep_new_matches at of_minus s = tt
deep_new_matches at of_other s = tt

pub old_matches : (depth : ℕ) (s : State) → Matches term_parts (unplaced s.0) (reading.term_at true depth s) (simple.old_term depth s.1)
unfolding reading.term_at simple.old_term
old_matches zero s = same_matches term_parts (unplaced s.0) (token_at s.1) (next s.1) _ _ (token_same s.1) (λ t. deep_old_matches (begins s.1) (head_of t.0) (s.0, t.1))
old_matches (suc depth) s =
    same_matches term_parts (unplaced s.0) (token_at s.1) (next s.1) _ _ (token_same s.1) (λ t.
    term_from_matches true reading.old_number_from simple.old_number_from old_number_from_matches (reading.term_at true depth) (simple.old_term depth) (old_matches depth) (begins s.1) (head_of t.0) (s.0, t.1))

pub new_matches : (depth : ℕ) (s : State) → Matches term_parts (unplaced s.0) (reading.term_at false depth s) (simple.new_term depth s.1)
unfolding reading.term_at simple.new_term
new_matches zero s = all_refused term_parts (unplaced s.0) (token_at s.1) _ (λ t. deep_new_matches (begins s.1) (head_of t.0) (s.0, t.1))
new_matches (suc depth) s =
    same_matches term_parts (unplaced s.0) (token_at s.1) (next s.1) _ _ (token_same s.1) (λ t.
    term_from_matches false (reading.number_from (reading.number_at depth)) (simple.number_from (simple.number depth)) (number_from_matches (reading.number_at depth) (simple.number depth) (number_matches depth))
    (reading.term_at false depth) (simple.new_term depth) (new_matches depth) (begins s.1) (head_of t.0) (s.0, t.1))

-- ---- conditions

types_flat : (ws : List (List ℕ)) → map type_part ws ≡ flats one_type ws
types_flat [] = refl
types_flat (w ∷ ws) = ap (λ (ps : List Part). type_part w ∷ ps) (types_flat ws)

-- the word of a list with one word
only_word : (v w : List ℕ) → is_one_of (v ∷ []) w ≡ true → w ≡ v
only_word v w e = (bytes_eq-Decides w v).0 (sym (or_false (bytes_eq w v)) ∙ e)

narrower_parts : (preceding : List Part) (w : List ℕ) (tys : List (List ℕ)) (x : State) → w ≡ codes "narrower" → unplaced x.0 ≡ (preceding ++ condition_part w ∷ []) ++ flats one_type tys
    → unplaced (ended x).0 ≡ preceding ++ condition_parts (narrower tys)
unfolding condition_parts
narrower_parts preceding w tys x is e =
    closed_parts preceding (flats one_type tys) (condition_part w) x.0 (length x.1) e
    ∙ ap (λ (ps : List Part). preceding ++ (condition_part w ∷ closed ps)) (sym (types_flat tys))
    ∙ ap (λ (v : List ℕ). preceding ++ (condition_part v ∷ closed (map type_part tys))) is

asking_parts : (preceding : List Part) (w : List ℕ) (ns : List Number) (x : State) → unplaced x.0 ≡ (preceding ++ condition_part w ∷ []) ++ flats number_parts ns
    → unplaced (ended x).0 ≡ preceding ++ condition_parts (asking w ns)
unfolding condition_parts
asking_parts preceding w ns x e =
    closed_parts preceding (flats number_parts ns) (condition_part w) x.0 (length x.1) e ∙ ap (λ (ps : List Part). preceding ++ (condition_part w ∷ closed ps)) (sym (numbers_flat ns))

parts_matches : (b : Bool) (at : ℕ) (w : List ℕ) (s : State) (rest : Text) → is_one_of (codes "narrower" ∷ []) w ≡ b
    → Matches condition_parts (unplaced s.0) (reading.parts_of b (reading.and s.0 at (condition_part w), rest) >>= λ x. Ok (ended x)) (simple.condition_from b w rest)
parts_matches true at w s rest is =
    matches_then (flats one_type) condition_parts (unplaced s.0 ++ condition_part w ∷ []) (unplaced s.0) _ _ _ _
    (more_matches one_type CloseRound reading.type_at simple.type type_matches (unplaced s.0 ++ condition_part w ∷ []) most [] (reading.and s.0 at (condition_part w), rest)
    (unplaced_and s.0 at (condition_part w) ∙ sym (append-nil (unplaced s.0 ++ condition_part w ∷ []))))
    (λ x tys e. (narrower_parts (unplaced s.0) w tys x (only_word (codes "narrower") w is) e, refl))
parts_matches false at w s rest is =
    matches_then (flats number_parts) condition_parts (unplaced s.0 ++ condition_part w ∷ []) (unplaced s.0) _ _ _ _
    (more_matches number_parts CloseRound (reading.number_at new_depth) (simple.number new_depth) (number_matches new_depth) (unplaced s.0 ++ condition_part w ∷ []) most []
    (reading.and s.0 at (condition_part w), rest) (unplaced_and s.0 at (condition_part w) ∙ sym (append-nil (unplaced s.0 ++ condition_part w ∷ []))))
    (λ x ns e. (asking_parts (unplaced s.0) w ns x e, refl))

condition_from_matches : (at : ℕ) (w : List ℕ) (s : State)
    → Matches condition_parts (unplaced s.0) (reading.condition_from at w s) (simple.after_mark OpenRound (simple.condition_from (is_one_of (codes "narrower" ∷ []) w) w) s.1)
unfolding reading.condition_from
condition_from_matches at w s =
    same_matches condition_parts (unplaced s.0) (trailing OpenRound s.1) (after OpenRound s.1) _ _ (after_same OpenRound s.1) (λ rest.
    parts_matches (is_one_of (codes "narrower" ∷ []) w) at w s rest refl)

condition_matches : (s : State) → Matches condition_parts (unplaced s.0) (reading.condition_at s) (simple.condition s.1)
unfolding reading.condition_at
condition_matches s =
    same_matches condition_parts (unplaced s.0) (reading.word_at s.1) (simple.word s.1) _ _ (word_same s.1) (λ w. condition_from_matches (begins s.1) w.0 (s.0, w.1))

where_if : (b : Bool) (at : ℕ) (s : State) → unplaced s.0 ≡ []
    → Matches (flats condition_parts) [] (if b then reading.more_at End reading.condition_at most s else refused Unexpected at) (simple.when b (simple.more End simple.condition most []) s.1)
where_if true at s e = more_matches condition_parts End reading.condition_at simple.condition condition_matches [] most [] s e
where_if false at s e = tt

abbrev Conditions : Text → Option Text → Option (List Constraint × Text)
Conditions s o =
    simple.either_from (simple.done []) (simple.and_then simple.word (λ w. simple.when (is_one_of (codes "where" ∷ []) w) (simple.more End simple.condition most []))) s o

conditions_from_matches : (s : Text) (o : Option Text) → Matches (flats condition_parts) [] (reading.conditions_from ([], s) o) (Conditions s o)
unfolding reading.where_at
conditions_from_matches s (Some rest) = (refl, refl)
conditions_from_matches s None =
    same_matches (flats condition_parts) [] (reading.word_at s) (simple.word s) _ _ (word_same s) (λ w. where_if (is_one_of (codes "where" ∷ []) w.0) (begins s) ([], w.1) refl)

pub conditions_matches : (s : Text) → Matches (flats condition_parts) [] (reading.conditions_at ([], s)) (simple.conditions s)
unfolding reading.conditions_at
conditions_matches s = conditions_from_matches s (after End s)

pub conditions_flat : (cs : List Constraint) → conditions_parts cs ≡ flats condition_parts cs
unfolding conditions_parts
conditions_flat [] = refl
conditions_flat (c ∷ cs) = ap (λ (ps : List Part). condition_parts c ++ ps) (conditions_flat cs)
