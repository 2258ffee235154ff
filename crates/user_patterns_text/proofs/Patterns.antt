-- A pattern is read if the text spells one, and refused otherwise.
use Rattle.std.proofs.Common.{◌≡◌, ◌∙◌, ℕ, Bool, true, false, List, [], ◌∷◌, ◌++◌, Option, Some, None, Result, Ok, Err, refl, sym, ap, subst, if◌then◌else◌}
use Rattle.std.specs.Prelude.{IfOk}
use Rattle.ir_text_tokens.specs.declared.refusal.TextRefusal.{TextRefusal}
use Rattle.ir_text_tokens.specs.declared.refusal.TextRefusal.TheVariants.{Unexpected}
use Rattle.ir_text_tokens.specs.declared.token.Mark.TheVariants.{Equal, Greater}
use Rattle.ir_text_tokens.specs.Limits.{text_reason}
use Rattle.ir_text_types.specs.Marks.{after}
use Rattle.ir_text_types.specs.Typed.{Text}
use Rattle.user_patterns_text.specs.Syntax.{Number, literal, named, called, Term, operation, value_of, constant_of, Constraint, is_operation}
use Rattle.user_patterns_text.specs.Syntax as syntax
use Rattle.user_patterns_text.specs.Grammar.{IsPattern, old_depth, new_depth}
use Rattle.user_patterns_text.specs.Grammar as grammar
use Rattle.user_patterns_text.specs.Recognizing as simple
use Rattle.user_patterns_text.specs.Recognizing.{given}
use Rattle.user_patterns_text.proofs.Rendered.{pattern_exact}
use Rattle.user_patterns_text.specs.declared.error.PatternError.{PatternError}
use Rattle.user_patterns_text.specs.declared.error.PatternError.TheVariants as errors
use Rattle.user_patterns_text.specs.declared.parts.Pattern.{Pattern as PatternCode}
use Rattle.user_patterns_text.specs.Parts.{Part, operation_part, value_part, literal_part, name_part, function_part, condition_part, type_part, end_part, Placed, Pattern, unplaced, pattern_view, number_parts, term_parts, condition_parts, AreParts}
use Rattle.user_patterns_text.specs.Refusing.{Outcome, ◌>>=◌, Returns, refused, begins, trailing}
use Rattle.user_patterns_text.specs.Reading as reading
use Rattle.user_patterns_text.specs.Reading.{State}
use Rattle.user_patterns_text.specs.Rendered.{whole_at, whole_from, Spells, IsRendered, IsReadAs}
use Rattle.user_patterns_text.proofs.Matching.{Same, Matches, bound_again, after_same, flats}
use Rattle.user_patterns_text.proofs.Agreeing.{word_same, old_matches, new_matches, conditions_matches, conditions_flat}

-- the first has the parts of the second, or neither gives a pattern
abbrev Agrees : Outcome Pattern → Option (syntax.Pattern × Text) → Type 0
Agrees (Ok p) (Some q) = AreParts p q.0
Agrees (Ok p) None = ⊥
Agrees (Err e) (Some q) = ⊥
Agrees (Err e) None = Unit {0}

same_agrees : {X : Type 0} (o : Outcome X) (q : Option X) (f : X → Outcome Pattern) (g : X → Option (syntax.Pattern × Text)) → Same o q → ((x : X) → Agrees (f x) (g x)) → Agrees (o >>= f) (given q g)
same_agrees (Ok x) (Some y) f g h k = subst (λ z. Agrees (f x) (g z)) h (k x)
same_agrees (Ok x) None f g h k = absurd h
same_agrees (Err e) (Some y) f g h k = absurd h
same_agrees (Err e) None f g h k = tt

matches_agrees : {A : Type 0} (flat : A → List Part) (preceding : List Part) (o : Outcome State) (q : Option (A × Text)) (f : State → Outcome Pattern) (g : A × Text → Option (syntax.Pattern × Text))
    → Matches flat preceding o q → ((x : State) (y : A) → unplaced x.0 ≡ preceding ++ flat y → Agrees (f x) (g (y, x.1))) → Agrees (o >>= f) (given q g)
matches_agrees flat preceding (Ok x) (Some y) f g h k = subst (λ (r : Text). Agrees (f x) (g (y.0, r))) h.1 (k x y.0 h.0)
matches_agrees flat preceding (Ok x) None f g h k = absurd h
matches_agrees flat preceding (Err e) (Some y) f g h k = absurd h
matches_agrees flat preceding (Err e) None f g h k = tt

-- ---- which parts begin an operation

abbrev first_is : List Part → Bool
first_is (operation_part name asks ∷ ps) = true
first_is _ = false

begins_first : (ps : List Placed) → reading.begins_operation ps ≡ first_is (unplaced ps)
begins_first [] = refl
begins_first ((at, operation_part name asks) ∷ ps) = refl
begins_first ((at, value_part w) ∷ ps) = refl
begins_first ((at, literal_part b n) ∷ ps) = refl
begins_first ((at, name_part w) ∷ ps) = refl
begins_first ((at, function_part w) ∷ ps) = refl
begins_first ((at, condition_part w) ∷ ps) = refl
begins_first ((at, type_part w) ∷ ps) = refl
begins_first ((at, end_part) ∷ ps) = refl

first_operation : (t : Term) → first_is (term_parts t) ≡ is_operation t
unfolding term_parts number_parts
first_operation (operation name asks ts ty) = refl
first_operation (value_of n ty) = refl
first_operation (constant_of (literal b n) ty) = refl
first_operation (constant_of (named w) ty) = refl
first_operation (constant_of (called w ns) ty) = refl

-- ---- a pattern

module _ (name : List ℕ) where
  abbrev Made : Term → Term → List Constraint → syntax.Pattern
  Made old new cs = record { name = name; old = old; new = new; conditions = cs }

  -- the rest of a pattern after the arrow, given its left side
  abbrev New : Term → Text → Option (syntax.Pattern × Text)
  New old rest = given (simple.new_term new_depth rest) (λ new. given (simple.conditions new.1) (λ cs. Some (Made old new.0 cs.0, cs.1)))

  abbrev Code : List Placed → Text → Outcome Pattern
  Code old rest =
      reading.term_at false new_depth ([], rest) >>= λ new. reading.conditions_at ([], new.1) >>= λ cs.
      Ok (record { name = name; old = old; new = new.0; conditions = cs.0 })

  new_agrees : (old : Term) (ps : List Placed) (rest : Text) → unplaced ps ≡ term_parts old → Agrees (Code ps rest) (New old rest)
  new_agrees old ps rest e =
      matches_agrees term_parts [] (reading.term_at false new_depth ([], rest)) (simple.new_term new_depth rest) _ _ (new_matches new_depth ([], rest)) (λ x t f.
      matches_agrees (flats condition_parts) [] (reading.conditions_at ([], x.1)) (simple.conditions x.1) _ _ (conditions_matches x.1) (λ y cs g.
      record { name = refl; old = e; new = f; conditions = g ∙ sym (conditions_flat cs) }))

  arrow_agrees : (old : Term) (ps : List Placed) (s : Text) → unplaced ps ≡ term_parts old
      → Agrees (reading.after_arrow s >>= Code ps) (simple.after_mark Equal (simple.after_mark Greater (New old)) s)
  unfolding reading.after_arrow
  arrow_agrees old ps s e =
      rw (bound_again (trailing Equal s) (λ r. trailing Greater r) (Code ps))
      (same_agrees (trailing Equal s) (after Equal s) _ _ (after_same Equal s) (λ r. same_agrees (trailing Greater r) (after Greater r) (Code ps) (New old) (after_same Greater r) (λ rest. new_agrees old ps rest e)))

  root_if : (b c : Bool) (old : Term) (x : State) (left : ℕ) → b ≡ c → unplaced x.0 ≡ term_parts old
      → Agrees ((if b then Ok x else refused Unexpected left) >>= λ o. reading.after_arrow o.1 >>= Code o.0) (simple.when c (simple.after_mark Equal (simple.after_mark Greater (New old))) x.1)
  root_if true true old x left is e = arrow_agrees old x.0 x.1 e
  root_if false false old x left is e = tt
  root_if true false old x left is e = absurd cc
  root_if false true old x left is e = absurd cc

  sides_agree : (s : Text) → Agrees (reading.sides_at name s)
      (given (simple.old_term old_depth s) (λ old. simple.when (is_operation old.0) (simple.after_mark Equal (simple.after_mark Greater (New old.0))) old.1))
  unfolding reading.sides_at reading.root_at
  sides_agree s =
      rw (bound_again (reading.term_at true old_depth ([], s)) (λ old. if reading.begins_operation old.0 then Ok old else refused Unexpected (begins s)) (λ o. reading.after_arrow o.1 >>= Code o.0))
      (matches_agrees term_parts [] (reading.term_at true old_depth ([], s)) (simple.old_term old_depth s) _ _ (old_matches old_depth ([], s)) (λ x old e.
      root_if (reading.begins_operation x.0) (is_operation old) old x (begins s) (begins_first x.0 ∙ ap first_is e ∙ first_operation old) e))

pattern_agrees : (text : Text) → Agrees (reading.pattern_at text) (simple.read text)
unfolding reading.pattern_at simple.read
pattern_agrees text = same_agrees (reading.word_at text) (simple.word text) _ _ (word_same text) (λ name. sides_agree name.0 name.1)

-- ---- reading agrees with the grammar

agrees_found : (o : Outcome Pattern) (q : Option (syntax.Pattern × Text)) (p : Pattern) → Agrees o q → o ≡ Ok p → (y : syntax.Pattern × Text) × (q ≡ Some y) × AreParts p y.0
agrees_found (Ok x) (Some y) p h e = (y, refl, subst (λ (z : Pattern). AreParts z y.0) (let k : x ≡ p = cc in k) h)
agrees_found (Ok x) None p h e = absurd h
agrees_found (Err f) q p h e = absurd cc

agrees_only : (o : Outcome Pattern) (q : Option (syntax.Pattern × Text)) (y : syntax.Pattern × Text) → Agrees o q → q ≡ Some y → (p : Pattern) × (o ≡ Ok p) × AreParts p y.0
agrees_only (Ok x) (Some z) y h e = (x, refl, subst (λ (w : syntax.Pattern × Text). AreParts x w.0) (let k : z ≡ y = cc in k) h)
agrees_only (Ok x) None y h e = absurd h
agrees_only (Err f) (Some z) y h e = absurd h
agrees_only (Err f) None y h e = absurd cc

whole_found : (text : Text) (r : Option (TextRefusal × ℕ)) (p : Pattern) → text_reason text ≡ r → whole_from text r ≡ Ok p → (q : syntax.Pattern) × Spells text q × AreParts p q
whole_found text (Some r) p is e = absurd cc
whole_found text None p is e =
    let a = agrees_found (reading.pattern_at text) (simple.read text) p (pattern_agrees text) e in
    (a.0.0, (is, (a.0.1, pattern_exact.found text a.0.1 a.0.0 a.1)), a.2)

pub is_rendered : (text : Text) (r : Result PatternCode PatternError) → Returns pattern_view r (whole_at text) → IfOk r (IsRendered text)
unfolding whole_at
is_rendered text (Ok p) h = whole_found text (text_reason text) (pattern_view p) refl h
is_rendered text (Err e) h = tt

whole_only : (text : Text) (q : syntax.Pattern) → Spells text q → (p : Pattern) × (whole_at text ≡ Ok p) × AreParts p q
unfolding whole_at
whole_only text q h =
    let a = agrees_only (reading.pattern_at text) (simple.read text) (q, h.1.0) (pattern_agrees text) (pattern_exact.only text h.1.0 q h.1.1) in
    (a.0, ap (whole_from text) h.0 ∙ a.1, a.2)

read_as : (text : Text) (q : syntax.Pattern) (p : Pattern) (r : Result PatternCode PatternError) → whole_at text ≡ Ok p → AreParts p q → Returns pattern_view r (whole_at text) → IsReadAs r q
read_as text q p (Ok x) e h g = subst (λ (z : Pattern). AreParts z q) (let k : p ≡ pattern_view x = cc in k) h
read_as text q p (Err errors.Memory) e h g = tt
read_as text q p (Err (errors.Refused f)) e h g = absurd cc

pub is_read : (text : Text) (r : Result PatternCode PatternError) → Returns pattern_view r (whole_at text) → (q : syntax.Pattern) → Spells text q → IsReadAs r q
is_read text r g q h =
    let a = whole_only text q h in
    read_as text q a.0 r a.1 a.2 g
