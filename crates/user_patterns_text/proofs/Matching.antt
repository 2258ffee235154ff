-- Reading with refusals agrees with reading without: how two such results match.
use Rattle.std.proofs.Common.{◌≡◌, ◌∙◌, ℕ, zero, suc, Bool, true, false, List, [], ◌∷◌, ◌++◌, append_assoc, append-nil, Option, Some, None, Result, Ok, Err, refl, sym, ap, subst, if◌then◌else◌}
use Rattle.ir_text_tokens.specs.declared.token.Mark.{Mark}
use Rattle.ir_text_tokens.specs.declared.token.Mark.TheVariants.{Comma}
use Rattle.ir_text_tokens.specs.Tokens.{Lexeme, next}
use Rattle.ir_text_types.specs.Marks.{after}
use Rattle.ir_text_types.specs.Typed.{Text}
use Rattle.user_patterns_text.specs.Recognizing.{given, more, more_from, listed, either_from, done}
use Rattle.user_patterns_text.specs.Parts.{Part, Placed, unplaced}
use Rattle.user_patterns_text.specs.Refusing.{Outcome, ◌>>=◌, token_at, token_from, trailing, after_from}
use Rattle.user_patterns_text.specs.Reading as reading
use Rattle.user_patterns_text.specs.Reading.{State, Step}

-- both give the same value, or neither gives one
abbrev pub Same : {X : Type 0} → Outcome X → Option X → Type 0
Same (Ok x) (Some y) = x ≡ y
Same (Ok x) None = ⊥
Same (Err e) (Some y) = ⊥
Same (Err e) None = Unit {0}

-- the first result has the parts of the second, appended to those of `front`, and the same rest of the text
abbrev pub Matches : {A : Type 0} → (A → List Part) → List Part → Outcome State → Option (A × Text) → Type 0
Matches flat preceding (Ok x) (Some y) = (unplaced x.0 ≡ preceding ++ flat y.0) × (x.1 ≡ y.1)
Matches flat preceding (Ok x) None = ⊥
Matches flat preceding (Err e) (Some y) = ⊥
Matches flat preceding (Err e) None = Unit {0}

pub unplaced_and : (ps : List Placed) (at : ℕ) (p : Part) → unplaced (reading.and ps at p) ≡ unplaced ps ++ p ∷ []
unplaced_and [] at p = refl
unplaced_and (q ∷ ps) at p = ap (λ (rest : List Part). q.1 ∷ rest) (unplaced_and ps at p)

-- ---- steps

pub same_then : {X Y : Type 0} (o : Outcome X) (q : Option X) (f : X → Outcome Y) (g : X → Option Y) → Same o q → ((x : X) → Same (f x) (g x)) → Same (o >>= f) (given q g)
same_then (Ok x) (Some y) f g h k = subst (λ z. Same (f x) (g z)) h (k x)
same_then (Ok x) None f g h k = absurd h
same_then (Err e) (Some y) f g h k = absurd h
same_then (Err e) None f g h k = tt

module _ {A : Type 0} (flat : A → List Part) where
  pub same_matches : {X : Type 0} (preceding : List Part) (o : Outcome X) (q : Option X) (f : X → Outcome State) (g : X → Option (A × Text)) → Same o q → ((x : X) → Matches flat preceding (f x) (g x)) → Matches flat preceding (o >>= f) (given q g)
  same_matches preceding (Ok x) (Some y) f g h k = subst (λ z. Matches flat preceding (f x) (g z)) h (k x)
  same_matches preceding (Ok x) None f g h k = absurd h
  same_matches preceding (Err e) (Some y) f g h k = absurd h
  same_matches preceding (Err e) None f g h k = tt

  module _ {B : Type 0} (into : B → List Part) where
    pub matches_then : (preceding other : List Part) (o : Outcome State) (q : Option (A × Text)) (f : State → Outcome State) (g : A × Text → Option (B × Text)) → Matches flat preceding o q
        → ((x : State) (y : A) → unplaced x.0 ≡ preceding ++ flat y → Matches into other (f x) (g (y, x.1))) → Matches into other (o >>= f) (given q g)
    matches_then preceding other (Ok x) (Some y) f g h k = subst (λ (r : Text). Matches into other (f x) (g (y.0, r))) h.1 (k x y.0 h.0)
    matches_then preceding other (Ok x) None f g h k = absurd h
    matches_then preceding other (Err e) (Some y) f g h k = absurd h
    matches_then preceding other (Err e) None f g h k = tt

    pub matches_into : (preceding other : List Part) (o : Outcome State) (q : Option (A × Text)) (g : A × Text → Option (B × Text)) → Matches flat preceding o q
        → ((x : State) (y : A) → unplaced x.0 ≡ preceding ++ flat y → Matches into other (Ok x) (g (y, x.1))) → Matches into other o (given q g)
    matches_into preceding other (Ok x) (Some y) g h k = subst (λ (r : Text). Matches into other (Ok x) (g (y.0, r))) h.1 (k x y.0 h.0)
    matches_into preceding other (Ok x) None g h k = absurd h
    matches_into preceding other (Err e) (Some y) g h k = absurd h
    matches_into preceding other (Err e) None g h k = tt

-- an outcome that is refused in every case
pub all_refused : {A X : Type 0} (flat : A → List Part) (preceding : List Part) (o : Outcome X) (f : X → Outcome State) → ((x : X) → Matches flat preceding (f x) None) → Matches flat preceding (o >>= f) None
all_refused flat preceding (Ok x) f h = h x
all_refused flat preceding (Err e) f h = tt

pub bound_again : {X Y Z : Type 0} (o : Outcome X) (f : X → Outcome Y) (g : Y → Outcome Z) → ((o >>= f) >>= g) ≡ (o >>= λ x. f x >>= g)
bound_again (Ok x) f g = refl
bound_again (Err e) f g = refl

pub given_none : {X Y : Type 0} (q : Option X) (g : X → Option Y) → ((x : X) → g x ≡ None) → given q g ≡ None
given_none (Some x) g h = h x
given_none None g h = refl

-- ---- tokens

token_from_same : (s : Text) (o : Option (Lexeme × Text)) → Same (token_from s o) o
token_from_same s (Some t) = refl
token_from_same s None = tt

pub token_same : (s : Text) → Same (token_at s) (next s)
unfolding token_at
token_same s = token_from_same s (next s)

after_from_same : (s : Text) (o : Option Text) → Same (after_from s o) o
after_from_same s (Some t) = refl
after_from_same s None = tt

pub after_same : (m : Mark) (s : Text) → Same (trailing m s) (after m s)
unfolding trailing
after_same m s = after_from_same s (after m s)

-- ---- lists

abbrev pub flats : {A : Type 0} → (A → List Part) → List A → List Part
flats flat [] = []
flats flat (x ∷ xs) = flat x ++ flats flat xs

pub flats_and : {A : Type 0} (flat : A → List Part) (xs : List A) (x : A) → flats flat (xs ++ x ∷ []) ≡ flats flat xs ++ flat x
flats_and flat [] x = append-nil (flat x)
flats_and flat (y ∷ ys) x = ap (λ (rest : List Part). flat y ++ rest) (flats_and flat ys x) ∙ sym (append_assoc (flat y) (flats flat ys) (flat x))

module _ {A : Type 0} (flat : A → List Part) (close : Mark) (item : Step) (p : Text → Option (A × Text)) (k : (s : State) → Matches flat (unplaced s.0) (item s) (p s.1)) where
  module _ (preceding : List Part) where
    abbrev More : (State → Outcome State) → (List A → Text → Option (List A × Text)) → Type 0
    More go go' = (items : List A) (s : State) → unplaced s.0 ≡ preceding ++ flats flat items → Matches (flats flat) preceding (go s) (go' items s.1)

    more_from_matches : (go : State → Outcome State) (go' : List A → Text → Option (List A × Text)) → More go go' → (items : List A) (s : State) (o : Option Text) → unplaced s.0 ≡ preceding ++ flats flat items
        → Matches (flats flat) preceding (reading.more_from close item go s o) (more_from close p go' items s.1 o)
    more_from_matches go go' h items s (Some end) e = (e, refl)
    more_from_matches go go' h items s None e = same_matches (flats flat) preceding (trailing Comma s.1) (after Comma s.1) (λ rest. go (s.0, rest)) (go' items) (after_same Comma s.1) (λ rest. h items (s.0, rest) e)

    pub more_matches : (headroom : ℕ) → More (reading.more_at close item headroom) (more close p headroom)
    unfolding reading.more_at more
    more_matches zero items s e = all_refused (flats flat) preceding (item s) _ (λ x. tt)
    more_matches (suc headroom) items s e =
        matches_then flat (flats flat) (unplaced s.0) preceding (item s) (p s.1) _ _ (k s) (λ x y h.
        more_from_matches (reading.more_at close item headroom) (more close p headroom) (more_matches headroom) (items ++ y ∷ []) x (after close x.1)
        (h ∙ ap (λ (ps : List Part). ps ++ flat y) e ∙ append_assoc preceding (flats flat items) (flat y) ∙ ap (λ (ps : List Part). preceding ++ ps) (sym (flats_and flat items y))))

  listed_from_matches : (headroom : ℕ) (s : State) (o : Option Text) → Matches (flats flat) (unplaced s.0) (reading.listed_from close item headroom s o) (either_from (done []) (more close p headroom []) s.1 o)
  listed_from_matches headroom s (Some end) = (sym (append-nil (unplaced s.0)), refl)
  listed_from_matches headroom s None = more_matches (unplaced s.0) headroom [] s (sym (append-nil (unplaced s.0)))

  pub listed_matches : (headroom : ℕ) (s : State) → Matches (flats flat) (unplaced s.0) (reading.listed_at close item headroom s) (listed close p headroom s.1)
  unfolding reading.listed_at
  listed_matches headroom s = listed_from_matches headroom s (after close s.1)
