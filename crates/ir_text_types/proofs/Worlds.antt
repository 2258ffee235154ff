-- Agreement of a parser into ids with a grammar of the denoted values, in each sound context that extends the present
-- one.
use Rattle.std.specs.Prelude.{if◌then◌else◌}
use Rattle.std.proofs.Common.{◌≡◌, ℕ, zero, suc, Bool, true, false, true≢false, List, [], ◌∷◌, ◌++◌, Option, Some, None, refl, sym, ap, subst, ◌∙◌, ◌⊎◌, inl, inr, ⊎_elim}
use Rattle.ir_text_tokens.specs.declared.token.Mark.{Mark}
use Rattle.ir_text_tokens.specs.declared.token.Mark.TheVariants.{Comma}
use Rattle.ir_types.specs.Things.{ContextModel, IsExtendedBy}
use Rattle.ir_types.specs.Sound.{IsSound}
use Rattle.ir_types.proofs.Growth.{grows_refl, grows_trans}
use Rattle.ir_text_types.specs.Outcomes.{Outcome, Read, Wrong, Full, ◌>>=◌, of_option, Parse}
use Rattle.ir_text_types.specs.Lists.{more_at, more_from, list_at, list_from}
use Rattle.ir_text_types.specs.Grammars.{Grammar, Then, Done, After, Not, Either, IsMore, IsList}
use Rattle.ir_text_types.specs.Worlds.{From}
use Rattle.ir_text_types.specs.Laws.{Each}

-- both steps of a parse that succeeds succeed
pub bind_read : {A B : Type 0} (o : Outcome A) (f : A → Outcome B) (y : B) → (o >>= f) ≡ Read y → (x : A) × (o ≡ Read x) × (f x ≡ Read y)
bind_read (Read x) f y e = (x, refl, e)
bind_read Wrong f y e = absurd cc
bind_read Full f y e = absurd cc

pub option_read : {A B : Type 0} (o : Option A) (f : A → Outcome B) (y : B) → (of_option o >>= f) ≡ Read y → (x : A) × (o ≡ Some x) × (f x ≡ Read y)
option_read None f y e = absurd cc
option_read (Some x) f y e = (x, refl, e)

-- binding is associative
pub bind_assoc : {A B C : Type 0} (o : Outcome A) (f : A → Outcome B) (g : B → Outcome C) → ((o >>= f) >>= g) ≡ (o >>= λ x. f x >>= g)
bind_assoc (Read x) f g = refl
bind_assoc Wrong f g = refl
bind_assoc Full f g = refl

-- what holds from a context on holds from a later one on
pub later : (F : ContextModel → Type 0) (c d : ContextModel) → IsExtendedBy c d → From F c → From F d
later F c d g h z k s = h z (grows_trans c d z g k) s

module _ {S T : Type 0} (things : S → ContextModel) (Same : ContextModel → S → T → Type 0) where
  -- the states agree from the present context on
  abbrev pub Agree : S → T → Type 0
  Agree s t = From (λ z. Same z s t) (things s)

  -- a step from s to s': x denotes y
  pub record Step {A B : Type 0} (R : ContextModel → A → B → Type 0) (s : S) (x : A) (y : B) (s' : S) (t' : T) : Type 0 where
    pub grows : IsExtendedBy (things s) (things s')
    pub sound : IsSound (things s')
    pub stands : From (λ z. R z x y) (things s')
    pub agree : Agree s' t'

  -- soundness: a value that is parsed has a derivation
  abbrev pub Comes : {A B : Type 0} → (ContextModel → A → B → Type 0) → Grammar T B → S → T → A → S → Type 0
  Comes {B = B} R P s t x s' = (y : B) × (t' : T) × P y t t' × Step R s x y s' t'

  -- completeness: a value with a derivation is parsed, unless the context is full
  abbrev pub Reads : {A B : Type 0} → (ContextModel → A → B → Type 0) → S → Outcome (A × S) → B → T → Type 0
  Reads {A = A} R s o y t' = (o ≡ Full) ⊎ ((x : A) × (s' : S) × (o ≡ Read (x, s')) × Step R s x y s' t')

  pub record Exact {A B : Type 0} (c : ContextModel) (R : ContextModel → A → B → Type 0) (p : Parse S A) (P : Grammar T B) : Type 0 where
    pub found : (s : S) (t : T) (x : A) (s' : S) → IsExtendedBy c (things s) → IsSound (things s) → Agree s t → p s ≡ Read (x, s') → Comes R P s t x s'
    pub only : (s : S) (t : T) (y : B) (t' : T) → IsExtendedBy c (things s) → IsSound (things s) → Agree s t → P y t t' → Reads R s (p s) y t'

  -- ---- sequences of steps

  pub step_on : {A B : Type 0} (R : ContextModel → A → B → Type 0) (s mid : S) (x : A) (y : B) (s' : S) (t' : T) → IsExtendedBy (things s) (things mid) → Step R mid x y s' t' → Step R s x y s' t'
  step_on R s mid x y s' t' g k = record { grows = grows_trans (things s) (things mid) (things s') g k.grows; sound = k.sound; stands = k.stands; agree = k.agree }

  pub reads_on : {A B : Type 0} (R : ContextModel → A → B → Type 0) (s mid : S) (o : Outcome (A × S)) (y : B) (t' : T) → IsExtendedBy (things s) (things mid) → Reads R mid o y t' → Reads R s o y t'
  reads_on R s mid o y t' g (inl e) = inl e
  reads_on R s mid o y t' g (inr k) = inr (k.0, k.1, k.2, step_on R s mid k.0 y k.1 t' g k.3)

  pub reads_then : {A B A' B' : Type 0} (R : ContextModel → A → B → Type 0) (R' : ContextModel → A' → B' → Type 0) (s : S) (o : Outcome (A × S)) (q : A × S → Outcome (A' × S)) (y : B) (mid : T) (y' : B') (t' : T)
      → Reads R s o y mid → ((x : A) (s' : S) → Step R s x y s' mid → Reads R' s' (q (x, s')) y' t') → Reads R' s (o >>= q) y' t'
  reads_then R R' s o q y mid y' t' (inl e) next = inl (ap (λ o. o >>= q) e)
  reads_then R R' s o q y mid y' t' (inr k) next = rw k.2 (reads_on R' s k.1 (q (k.0, k.1)) y' t' k.3.grows (next k.0 k.1 k.3))

  -- a parser that equals another one from the present context on
  pub exact_where : {A B : Type 0} (c : ContextModel) (R : ContextModel → A → B → Type 0) (p q : Parse S A) (P : Grammar T B) → ((s : S) → IsExtendedBy c (things s) → IsSound (things s) → p s ≡ q s) → Exact c R q P → Exact c R p P
  exact_where c R p q P same k = record {
    found = λ s t x s' g sound h e. k.found s t x s' g sound h (sym (same s g sound) ∙ e);
    only = λ s t y t' g sound h j. subst (λ o. Reads R s o y t') (sym (same s g sound)) (k.only s t y t' g sound h j);
  }

  -- an equivalent grammar
  pub exact_rendered : {A B : Type 0} (c : ContextModel) (R : ContextModel → A → B → Type 0) (p : Parse S A) (P Q : Grammar T B) → ((y : B) (t t' : T) → P y t t' → Q y t t') → ((y : B) (t t' : T) → Q y t t' → P y t t') → Exact c R p P → Exact c R p Q
  exact_rendered c R p P Q into from k = record {
    found = λ s t x s' g sound h e. let f = k.found s t x s' g sound h e in (f.0, f.1, into f.0 t f.1 f.2, f.3);
    only = λ s t y t' g sound h j. k.only s t y t' g sound h (from y t t' j);
  }

  -- a relation that follows from another
  pub exact_for : {A B : Type 0} (c : ContextModel) (R R' : ContextModel → A → B → Type 0) (p : Parse S A) (P : Grammar T B) → ((z : ContextModel) (x : A) (y : B) → R z x y → R' z x y) → Exact c R p P → Exact c R' p P
  exact_for {A = A} {B = B} c R R' p P follows k = record {
    found = λ s t x s' g sound h e. let f = k.found s t x s' g sound h e in (f.0, f.1, f.2, step_for s x f.0 s' f.1 f.3);
    only = λ s t y t' g sound h j. reads_for s (p s) y t' (k.only s t y t' g sound h j);
  }
    where
      step_for : (s : S) (x : A) (y : B) (s' : S) (t' : T) → Step R s x y s' t' → Step R' s x y s' t'
      step_for s x y s' t' k = record { grows = k.grows; sound = k.sound; stands = λ z g w. follows z x y (k.stands z g w); agree = k.agree }

      reads_for : (s : S) (o : Outcome (A × S)) (y : B) (t' : T) → Reads R s o y t' → Reads R' s o y t'
      reads_for s o y t' (inl e) = inl e
      reads_for s o y t' (inr j) = inr (j.0, j.1, j.2, step_for s j.0 y j.1 t' j.3)

  -- no parse and no derivation
  pub nothing_exact : {A B : Type 0} (c : ContextModel) (R : ContextModel → A → B → Type 0) → Exact {A = A} {B = B} c R (λ s. Wrong) (λ y old new. ⊥)
  nothing_exact c R = record { found = λ s t x s' g sound h e. absurd cc; only = λ s t y t' g sound h k. absurd k }

  -- one of two parsers, chosen by a test
  pub choice_exact : {A B : Type 0} (c : ContextModel) (R : ContextModel → A → B → Type 0) (b : Bool) (p q : Parse S A) (P Q : Grammar T B) → Exact c R p P → Exact c R q Q
      → Exact c R (λ s. if b then p s else q s) (λ y old new. ((b ≡ true) × P y old new) ⊎ ((b ≡ false) × Q y old new))
  choice_exact {B = B} c R true p q P Q first second = exact_rendered c R p P (λ y old new. ((true ≡ true) × P y old new) ⊎ ((true ≡ false) × Q y old new)) (λ y t t' k. inl (refl, k)) back first
    where
      back : (y : B) (t t' : T) → ((true ≡ true) × P y t t') ⊎ ((true ≡ false) × Q y t t') → P y t t'
      back y t t' (inl k) = k.1
      back y t t' (inr k) = absurd (true≢false k.0)
  choice_exact {B = B} c R false p q P Q first second = exact_rendered c R q Q (λ y old new. ((false ≡ true) × P y old new) ⊎ ((false ≡ false) × Q y old new)) (λ y t t' k. inr (refl, k)) back second
    where
      back : (y : B) (t t' : T) → ((false ≡ true) × P y t t') ⊎ ((false ≡ false) × Q y t t') → Q y t t'
      back y t t' (inl k) = absurd (true≢false (sym k.0))
      back y t t' (inr k) = k.1

  -- a parser under a test
  pub guard_exact : {A B : Type 0} (c : ContextModel) (R : ContextModel → A → B → Type 0) (b : Bool) (p : Parse S A) (P : Grammar T B) → Exact c R p P → Exact c R (λ s. if b then p s else Wrong) (λ y old new. (b ≡ true) × P y old new)
  guard_exact {A = A} {B = B} c R b p P first =
      exact_rendered c R (λ s. if b then p s else Wrong) (λ y old new. ((b ≡ true) × P y old new) ⊎ ((b ≡ false) × ⊥)) (λ y old new. (b ≡ true) × P y old new) into (λ y t t' k. inl k)
      (choice_exact c R b p (λ s. Wrong) P (λ y old new. ⊥) first (nothing_exact c R))
    where
      into : (y : B) (t t' : T) → ((b ≡ true) × P y t t') ⊎ ((b ≡ false) × ⊥) → (b ≡ true) × P y t t'
      into y t t' (inl k) = k
      into y t t' (inr k) = absurd k.1

  -- a parser of an optional value
  pub some_exact : {A B N : Type 0} (c : ContextModel) (R : ContextModel → A → B → Type 0) (o : Option N) (p : N → Parse S A) (P : N → Grammar T B) → ((n : N) → Exact c R (p n) (P n))
      → Exact c R (λ s. of_option o >>= λ n. p n s) (λ y old new. (n : N) × (o ≡ Some n) × P n y old new)
  some_exact {B = B} {N = N} c R None p P each = exact_rendered c R (λ s. Wrong) (λ y old new. ⊥) (λ y old new. (n : N) × (None ≡ Some n) × P n y old new) (λ y t t' k. absurd k) back (nothing_exact c R)
    where
      back : (y : B) (t t' : T) → (n : N) × (None ≡ Some n) × P n y t t' → ⊥
      back y t t' k = let e : None ≡ Some k.0 = k.1 in absurd cc
  some_exact {B = B} {N = N} c R (Some v) p P each = exact_rendered c R (p v) (P v) (λ y old new. (n : N) × (Some v ≡ Some n) × P n y old new) (λ y t t' k. (v, refl, k)) back (each v)
    where
      back : (y : B) (t t' : T) → (n : N) × (Some v ≡ Some n) × P n y t t' → P v y t t'
      back y t t' k = let same : k.0 ≡ v = cc (k.1) in subst (λ n. P n y t t') same k.2

  pub then_exact : {A A' B B' : Type 0} (c : ContextModel) (R : ContextModel → A → B → Type 0) (R' : ContextModel → A' → B' → Type 0) (p : Parse S A) (P : Grammar T B) (q : A → Parse S A') (Q : B → Grammar T B')
      → Exact c R p P → ((d : ContextModel) (x : A) (y : B) → IsExtendedBy c d → From (λ z. R z x y) d → Exact d R' (q x) (Q y)) → Exact c R' (λ s. p s >>= λ x. q x.0 x.1) (Then P Q)
  then_exact {A = A} c R R' p P q Q first second = record {
    found = λ s t x s' g sound h e.
        let a = bind_read (p s) (λ x. q x.0 x.1) (x, s') e in
        let f = first.found s t a.0.0 a.0.1 g sound h a.1 in
        let n = (second (things a.0.1) a.0.0 f.0 (grows_trans c (things s) (things a.0.1) g f.3.grows) f.3.stands).found a.0.1 f.1 x s' (grows_refl (things a.0.1)) f.3.sound f.3.agree a.2 in
        (n.0, n.1, (f.0, f.1, f.2, n.2), step_on R' s a.0.1 x n.0 s' n.1 f.3.grows n.3);
    only = λ s t y t' g sound h k.
        reads_then R R' s (p s) (λ x. q x.0 x.1) k.0 k.1 y t' (first.only s t k.0 k.1 g sound h k.2) (λ x s' f.
        (second (things s') x k.0 (grows_trans c (things s) (things s') g f.grows) f.stands).only s' k.1 y t' (grows_refl (things s')) f.sound f.agree k.3);
  }

  abbrev at : {A : Type 0} → A → S → Outcome (A × S)
  at x s = Read (x, s)

  pub parts : {A : Type 0} (x y : A) (s t : S) → at x s ≡ at y t → (x ≡ y) × (s ≡ t)
  parts {A = A} x y s t e =
      let p : (x, s) ≡ (y, t) = cc in
      (ap (λ (q : A × S). q.0) p, ap (λ (q : A × S). q.1) p)

  -- an empty step: nothing is read
  pub remains : {A B : Type 0} (R : ContextModel → A → B → Type 0) (c : ContextModel) (s : S) (t : T) (x : A) (y : B) → IsExtendedBy c (things s) → IsSound (things s) → Agree s t → From (λ z. R z x y) c → Step R s x y s t
  remains R c s t x y g sound h r = record { grows = grows_refl (things s); sound = sound; stands = later (λ z. R z x y) c (things s) g r; agree = h }

  pub done_exact : {A B : Type 0} (c : ContextModel) (R : ContextModel → A → B → Type 0) (x : A) (y : B) → From (λ z. R z x y) c → Exact c R (λ s. Read (x, s)) (Done y)
  done_exact c R x y r = record {
    found = λ s t x' s' g sound h e.
        let q = parts x x' s s' e in
        rw (← q.0, ← q.1) (y, t, (refl, refl), remains R c s t x y g sound h r);
    only = λ s t y' t' g sound h k. rw (k.0, k.1) (inr (x, s, refl, remains R c s t x y g sound h r));
  }

  -- ---- punctuation marks

  pub record Marks (after : Mark → S → Option S) (Tok : Mark → T → T → Type 0) : Type 0 where
    pub found : (m : Mark) (s : S) (t : T) (s' : S) → IsSound (things s) → Agree s t → after m s ≡ Some s' → (t' : T) × Tok m t t' × IsExtendedBy (things s) (things s') × IsSound (things s') × Agree s' t'
    pub only : (m : Mark) (s : S) (t t' : T) → IsSound (things s) → Agree s t → Tok m t t' → (s' : S) × (after m s ≡ Some s') × IsExtendedBy (things s) (things s') × IsSound (things s') × Agree s' t'
    pub none : (m : Mark) (s : S) (t : T) → IsSound (things s) → Agree s t → after m s ≡ None → Not Tok m t
    pub lacks : (m : Mark) (s : S) (t : T) → IsSound (things s) → Agree s t → Not Tok m t → after m s ≡ None

  module _ (after : Mark → S → Option S) (Tok : Mark → T → T → Type 0) (marks : Marks after Tok) where
    pub after_exact : {A B : Type 0} (c : ContextModel) (R : ContextModel → A → B → Type 0) (m : Mark) (q : Parse S A) (Q : Grammar T B) → Exact c R q Q → Exact c R (λ s. of_option (after m s) >>= q) (After Tok m Q)
    after_exact c R m q Q second = record {
      found = λ s t x s' g sound h e.
          let a = option_read (after m s) q (x, s') e in
          let f = marks.found m s t a.0 sound h a.1 in
          let n = second.found a.0 f.0 x s' (grows_trans c (things s) (things a.0) g f.2) f.3 f.4 a.2 in
          (n.0, n.1, (f.0, f.1, n.2), step_on R s a.0 x n.0 s' n.1 f.2 n.3);
      only = λ s t y t' g sound h k.
          let f = marks.only m s t k.0 sound h k.1 in
          rw f.1 (reads_on R s f.0 (q f.0) y t' f.2 (second.only f.0 k.0 y t' (grows_trans c (things s) (things f.0) g f.2) f.3 f.4 k.2));
    }

    -- p after the mark if the mark is next, otherwise q
    module _ {A B : Type 0} (c : ContextModel) (R : ContextModel → A → B → Type 0) (m : Mark) (f : S → Option S → Outcome (A × S)) (p q : Parse S A) (P Q : Grammar T B)
        (at_some : (s mid : S) → f s (Some mid) ≡ p mid) (at_none : (s : S) → f s None ≡ q s) (first : Exact c R p P) (second : Exact c R q Q) where
      either_found : (s : S) (t : T) (x : A) (s' : S) (o : Option S) → after m s ≡ o → IsExtendedBy c (things s) → IsSound (things s) → Agree s t → f s o ≡ Read (x, s') → Comes R (Either Tok m P Q) s t x s'
      either_found s t x s' (Some mid) o g sound h e =
          let a = marks.found m s t mid sound h o in
          let n = first.found mid a.0 x s' (grows_trans c (things s) (things mid) g a.2) a.3 a.4 (sym (at_some s mid) ∙ e) in
          (n.0, n.1, inl (a.0, a.1, n.2), step_on R s mid x n.0 s' n.1 a.2 n.3)
      either_found s t x s' None o g sound h e =
          let n = second.found s t x s' g sound h (sym (at_none s) ∙ e) in
          (n.0, n.1, inr (marks.none m s t sound h o, n.2), n.3)

      either_only : (s : S) (t : T) (y : B) (t' : T) → IsExtendedBy c (things s) → IsSound (things s) → Agree s t → Either Tok m P Q y t t' → Reads R s (f s (after m s)) y t'
      either_only s t y t' g sound h (inl k) =
          let a = marks.only m s t k.0 sound h k.1 in
          rw (a.1, at_some s a.0) (reads_on R s a.0 (p a.0) y t' a.2 (first.only a.0 k.0 y t' (grows_trans c (things s) (things a.0) g a.2) a.3 a.4 k.2))
      either_only s t y t' g sound h (inr k) = rw (marks.lacks m s t sound h k.0, at_none s) (second.only s t y t' g sound h k.1)

      pub either_exact : Exact c R (λ s. f s (after m s)) (Either Tok m P Q)
      either_exact = record { found = λ s t x s' g sound h e. either_found s t x s' (after m s) refl g sound h e; only = either_only }

    -- ---- lists

    module _ {A B : Type 0} (R : ContextModel → A → B → Type 0) where
      pub each_push : (z : ContextModel) (xs : List A) (ys : List B) (x : A) (y : B) → Each R z xs ys → R z x y → Each R z (xs ++ x ∷ []) (ys ++ y ∷ [])
      each_push z [] [] x y h r = (r, tt)
      each_push z [] (v ∷ ys) x y h r = absurd h
      each_push z (u ∷ xs) [] x y h r = absurd h
      each_push z (u ∷ xs) (v ∷ ys) x y h r = (h.0, each_push z xs ys x y h.1 r)

      module _ (close : Mark) (p : List A → Parse S A) (P : List B → Grammar T B)
          (item : (c : ContextModel) (xs : List A) (ys : List B) → From (λ z. Each R z xs ys) c → Exact c R (p xs) (P ys)) where
        -- after an item: the end, or a comma and more items
        module _ (headroom : ℕ) (more : (c : ContextModel) (xs : List A) (ys : List B) → From (λ z. Each R z xs ys) c → Exact c (Each R) (more_at after close p headroom xs) (IsMore Tok close P headroom ys)) where
          abbrev Ends : List B → Grammar T (List B)
          Ends ys all mid new = (Tok close mid new × (all ≡ ys)) ⊎ (Not Tok close mid × (next : T) × Tok Comma mid next × IsMore Tok close P headroom ys all next new)

          abbrev ends : List A → S → Option S → Outcome (List A × S)
          ends xs mid o = more_from after close p (more_at after close p headroom) xs mid o

          ends_found : (xs : List A) (ys : List B) (mid : S) (mid' : T) (o : Option S) → after close mid ≡ o → From (λ z. Each R z xs ys) (things mid) → IsSound (things mid) → Agree mid mid' → (all : List A) (s' : S) → ends xs mid o ≡ Read (all, s') → Comes (Each R) (Ends ys) mid mid' all s'
          ends_found xs ys mid mid' (Some end) e preceding sound h all s' f =
              let q = parts xs all end s' f in
              let m = marks.found close mid mid' end sound h e in
              rw (← q.0, ← q.1) (ys, m.0, inl (m.1, refl), record { grows = m.2; sound = m.3; stands = later (λ z. Each R z xs ys) (things mid) (things end) m.2 preceding; agree = m.4 })
          ends_found xs ys mid mid' None e preceding sound h all s' f =
              let b = option_read (after Comma mid) (more_at after close p headroom xs) (all, s') f in
              let m = marks.found Comma mid mid' b.0 sound h b.1 in
              let n = (more (things b.0) xs ys (later (λ z. Each R z xs ys) (things mid) (things b.0) m.2 preceding)).found b.0 m.0 all s' (grows_refl (things b.0)) m.3 m.4 b.2 in
              (n.0, n.1, inr (marks.none close mid mid' sound h e, m.0, m.1, n.2), step_on (Each R) mid b.0 all n.0 s' n.1 m.2 n.3)

          ends_only : (xs : List A) (ys : List B) (mid : S) (mid' : T) → From (λ z. Each R z xs ys) (things mid) → IsSound (things mid) → Agree mid mid' → (all' : List B) (t' : T) → Ends ys all' mid' t' → Reads (Each R) mid (ends xs mid (after close mid)) all' t'
          ends_only xs ys mid mid' preceding sound h all' t' (inl k) =
              let m = marks.only close mid mid' t' sound h k.0 in
              rw (k.1, m.1) (inr (xs, m.0, refl, record { grows = m.2; sound = m.3; stands = later (λ z. Each R z xs ys) (things mid) (things m.0) m.2 preceding; agree = m.4 }))
          ends_only xs ys mid mid' preceding sound h all' t' (inr k) =
              let m = marks.only Comma mid mid' k.1 sound h k.2 in
              let n = (more (things m.0) xs ys (later (λ z. Each R z xs ys) (things mid) (things m.0) m.2 preceding)).only m.0 k.1 all' t' (grows_refl (things m.0)) m.3 m.4 k.3 in
              rw (marks.lacks close mid mid' sound h k.0, m.1) (reads_on (Each R) mid m.0 (more_at after close p headroom xs m.0) all' t' m.2 n)

        pub more_exact : (headroom : ℕ) (c : ContextModel) (xs : List A) (ys : List B) → From (λ z. Each R z xs ys) c → Exact c (Each R) (more_at after close p headroom xs) (IsMore Tok close P headroom ys)
        unfolding more_at IsMore
        more_exact zero c xs ys r = record { found = λ s t x s' g sound h e. absurd cc; only = λ s t y t' g sound h k. absurd k }
        more_exact (suc headroom) c xs ys r = record {
          found = λ s t all s' g sound h e.
              let a = bind_read (p xs s) (λ x. more_from after close p (more_at after close p headroom) (xs ++ x.0 ∷ []) x.1 (after close x.1)) (all, s') e in
              let f = (item c xs ys r).found s t a.0.0 a.0.1 g sound h a.1 in
              let preceding : From (λ z. Each R z (xs ++ a.0.0 ∷ []) (ys ++ f.0 ∷ [])) (things a.0.1) = λ z k w. each_push z xs ys a.0.0 f.0 (r z (grows_trans c (things s) z g (grows_trans (things s) (things a.0.1) z f.3.grows k)) w) (f.3.stands z k w) in
              let n = ends_found headroom (more_exact headroom) (xs ++ a.0.0 ∷ []) (ys ++ f.0 ∷ []) a.0.1 f.1 (after close a.0.1) refl preceding f.3.sound f.3.agree all s' a.2 in
              (n.0, n.1, (f.0, f.1, f.2, n.2), step_on (Each R) s a.0.1 all n.0 s' n.1 f.3.grows n.3);
          only = λ s t all t' g sound h k.
              reads_then R (Each R) s (p xs s) (λ x. more_from after close p (more_at after close p headroom) (xs ++ x.0 ∷ []) x.1 (after close x.1)) k.0 k.1 all t' ((item c xs ys r).only s t k.0 k.1 g sound h k.2) (λ x s' f.
              let preceding : From (λ z. Each R z (xs ++ x ∷ []) (ys ++ k.0 ∷ [])) (things s') = λ z j w. each_push z xs ys x k.0 (r z (grows_trans c (things s) z g (grows_trans (things s) (things s') z f.grows j)) w) (f.stands z j w) in
              ends_only headroom (more_exact headroom) (xs ++ x ∷ []) (ys ++ k.0 ∷ []) s' k.1 preceding f.sound f.agree all t' k.3);
        }

        pub list_exact : (headroom : ℕ) (c : ContextModel) → Exact c (Each R) (list_at after close p headroom) (IsList Tok close P headroom)
        unfolding list_at IsList
        list_exact headroom c = record {
          found = λ s t all s' g sound h e. from s t all s' (after close s) refl sound h e;
          only = λ s t all t' g sound h k. ⊎_elim
              (λ (k : Tok close t t' × (all ≡ [])). let m = marks.only close s t t' sound h k.0 in rw (k.1, m.1) (inr ([], m.0, refl, record { grows = m.2; sound = m.3; stands = λ z j w. tt; agree = m.4 })))
              (λ (k : Not Tok close t × IsMore Tok close P headroom [] all t t'). rw (marks.lacks close s t sound h k.0) ((more_exact headroom (things s) [] [] (λ z j w. tt)).only s t all t' (grows_refl (things s)) sound h k.1))
              k;
        }
          where
            from : (s : S) (t : T) (all : List A) (s' : S) (o : Option S) → after close s ≡ o → IsSound (things s) → Agree s t → list_from after close p headroom s o ≡ Read (all, s') → Comes (Each R) (IsList Tok close P headroom) s t all s'
            from s t all s' (Some end) e sound h f =
                let q = parts [] all end s' f in
                let m = marks.found close s t end sound h e in
                rw (← q.0, ← q.1) ([], m.0, inl (m.1, refl), record { grows = m.2; sound = m.3; stands = λ z j w. tt; agree = m.4 })
            from s t all s' None e sound h f =
                let n = (more_exact headroom (things s) [] [] (λ z j w. tt)).found s t all s' (grows_refl (things s)) sound h f in
                (n.0, n.1, inr (marks.none close s t sound h e, n.2), n.3)
