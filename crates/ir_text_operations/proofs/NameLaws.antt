-- Names and the state of a parser: what they denote, step by step.
use Rattle.std.specs.Prelude.{if◌then◌else◌, ◌==◌, option_map, is_some, take, drop}
use Rattle.std.proofs.lemmas.Bool.{eqb-true, eq-eqb}
use Rattle.std.proofs.Common.{◌≡◌, ◌+◌, ℕ, zero, suc, length, Bool, true, false, List, [], ◌∷◌, ◌++◌, Option, Some, None, refl, sym, ap, subst, ◌∙◌, inl, inr}
use Rattle.ir_text_tokens.specs.declared.token.Mark.{Mark}
use Rattle.ir_text_tokens.specs.Tokens.{Lexeme, next}
use Rattle.ir_text_tokens.specs.Scopes.{Binding, Scopes, find, bound, entered, left, left_to}
use Rattle.ir_types.specs.Things.{ContextModel, IsExtendedBy}
use Rattle.ir_types.specs.Sound.{IsSound}
use Rattle.ir_types.proofs.Growth.{grows_refl, grows_trans}
use Rattle.ir_types.specs.Terms.{TypeTerm}
use Rattle.ir_text_types.specs.Marks.{after}
use Rattle.ir_text_types.specs.Outcomes.{Outcome, Read, Wrong, ◌>>=◌, of_option, Parse}
use Rattle.ir_text_types.specs.Grammars.{Grammar, Done, IsMark, Token}
use Rattle.ir_text_types.specs.Typed.{Text, Typed}
use Rattle.ir_text_types.specs.Worlds.{From}
use Rattle.ir_text_types.specs.Denotation.{TypeDenotes}
use Rattle.ir_text_types.specs.Laws.{Each}
use Rattle.ir_text_types.proofs.Worlds.{bind_read, later, Agree, Exact, Step, Comes, Reads, Marks, done_exact}
use Rattle.ir_text_types.proofs.TextLaws.{after_found, after_only, after_none, none_after}
use Rattle.ir_text_types.proofs.TextLaws as typed
use Rattle.ir_text_names.specs.declared.bound.TypedValue.{TypedValue}
use Rattle.ir_text_names.specs.States as states
use Rattle.ir_text_names.specs.States.{State, to_bytes, after_in, with_typed, with_scopes, inside, outside}
use Rattle.ir_text_names.specs.BlockReading.{bind, results_of, bind_results, finish}
use Rattle.ir_text_operations.specs.ParseState.{PackTerm, ParseState, state_with_rest, state_with_scopes, state_inside, state_outside, IsMarkToken, InText, IsBound}
use Rattle.ir_text_operations.specs.OpGrammar.{result_terms, IsBoundResults, IsFinished}
use Rattle.ir_text_names.specs.Packs.{Counted, counts}
use Rattle.ir_text_operations.specs.Denotation.{Both, PackDenotes, BindingDenotes, HereDenotes, ScopesDenote, StateDenotes}
use Rattle.ir_text_operations.proofs.EntryLaws.{each_length}
use Rattle.ir_text_operations.proofs.PrecedingLaws.{known, SameText, Simple, find_stands, shift_exact, token_exact}

abbrev pub held : State → ContextModel
held s = s.things

-- ---- the text of a state

pub rest_agrees : (s : State) (t : ParseState) (rest : Text) → Agree held StateDenotes s t → Agree held StateDenotes (to_bytes s rest) (state_with_rest t rest)
rest_agrees s t rest h = λ z g w. (refl, (h z g w).1, (h z g w).2)

pub bytes_now : (s : State) (t : ParseState) → IsSound s.things → Agree held StateDenotes s t → s.bytes ≡ t.bytes
bytes_now s t sound h = (h s.things (grows_refl s.things) sound).0

rest_found : (o : Option Text) (s s' : State) → option_map (to_bytes s) o ≡ Some s' → (rest : Text) × (o ≡ Some rest) × (to_bytes s rest ≡ s')
rest_found None s s' e = absurd cc
rest_found (Some rest) s s' e = (rest, refl, cc)

no_rest : (o : Option Text) (s : State) → option_map (to_bytes s) o ≡ None → o ≡ None
no_rest None s e = refl
no_rest (Some rest) s e = absurd cc

abbrev Marked : Mark → State → ParseState → State → Type 0
Marked m s t s' = (t' : ParseState) × IsMarkToken m t t' × IsExtendedBy s.things s'.things × IsSound s'.things × Agree held StateDenotes s' t'

pub state_marks : Marks held StateDenotes after_in IsMarkToken
state_marks = record {
  found = λ m s t s' sound h e.
      let b = rest_found (after m s.bytes) s s' e in
      subst (Marked m s t) b.2 (state_with_rest t b.0, (b.0, subst (λ r. IsMark m r b.0) (bytes_now s t sound h) (after_found m s.bytes b.0 b.1), refl), grows_refl s.things, sound, rest_agrees s t b.0 h);
  only = λ m s t t' sound h k.
      let next : IsMark m s.bytes k.0 = subst (λ r. IsMark m r k.0) (sym (bytes_now s t sound h)) k.1 in
      (to_bytes s k.0, rw (after_only m s.bytes k.0 next) refl, grows_refl s.things, sound, subst (λ u. Agree held StateDenotes (to_bytes s k.0) u) (sym k.2) (rest_agrees s t k.0 h));
  none = λ m s t sound h e. λ new k. after_none m s.bytes (no_rest (after m s.bytes) s e) k.0 (subst (λ r. IsMark m r k.0) (sym (bytes_now s t sound h)) k.1);
  lacks = λ m s t sound h e. rw (none_after m s.bytes (λ rest k. e (state_with_rest t rest) (rest, subst (λ r. IsMark m r rest) (bytes_now s t sound h) k, refl))) refl;
}

module _ {A B : Type 0} (c : ContextModel) (R : ContextModel → A → B → Type 0) where
  -- the parse after the next token
  pub trailing_exact : (rest : Text) (p : Parse State A) (P : Grammar ParseState B) → Exact held StateDenotes c R p P → Exact held StateDenotes c R (λ s. p (to_bytes s rest)) (λ y old new. P y (state_with_rest old rest) new)
  trailing_exact rest p P k = shift_exact held StateDenotes c R (λ s. to_bytes s rest) (λ t. state_with_rest t rest) p P (λ s t sound a. (grows_refl s.things, sound, rest_agrees s t rest a)) k

  pub state_token : (f : State → Lexeme → List ℕ → Outcome (A × State)) (F : Lexeme → List ℕ → Grammar ParseState B) → ((l : Lexeme) (rest : Text) → Exact held StateDenotes c R (λ s. f s l rest) (F l rest))
      → Exact held StateDenotes c R (λ s. of_option (next s.bytes) >>= λ l. f s l.0 l.1) (λ y old new. (l : Lexeme) × (rest : Text) × Token l old.bytes rest × F l rest y old new)
  state_token f F each = token_exact held StateDenotes (λ s. s.bytes) (λ t. t.bytes) (λ z s t k. k.0) c R f F each

-- ---- parsers of the text and the context alone

abbrev pub in_typed : {A : Type 0} → Parse Typed A → Parse State A
in_typed p s = p (states.typed s) >>= λ x. Read (x.0, with_typed s x.1)

abbrev pub in_text : {A : Type 0} → Parse Text A → Parse State A
in_text p s = p s.bytes >>= λ x. Read (x.0, to_bytes s x.1)

module _ {A B : Type 0} (c : ContextModel) (R : ContextModel → A → B → Type 0) where
  module _ (p : Parse Typed A) (P : Grammar Text B) (k : Exact typed.things typed.Same c R p P) where
    abbrev read_into : State → A × Typed → Outcome (A × State)
    read_into s x = Read (x.0, with_typed s x.1)

    typed_step : (s : State) (t : ParseState) (x : A) (y : B) (u : Typed) (rest : Text) → Agree held StateDenotes s t → Step typed.things typed.Same R (states.typed s) x y u rest → Step held StateDenotes R s x y (with_typed s u) (state_with_rest t rest)
    typed_step s t x y u rest h f = record { grows = f.grows; sound = f.sound; stands = f.stands; agree = λ z j w. let now = h z (grows_trans s.things u.1 z f.grows j) w in (f.agree z j w, now.1, now.2) }

    typed_reads : (s : State) (t : ParseState) (o : Outcome (A × Typed)) (y : B) (rest : Text) → Agree held StateDenotes s t → Reads typed.things typed.Same R (states.typed s) o y rest → Reads held StateDenotes R s (o >>= read_into s) y (state_with_rest t rest)
    typed_reads s t o y rest h (inl e) = inl (ap (λ q. q >>= read_into s) e)
    typed_reads s t o y rest h (inr f) = inr (f.0, with_typed s f.1, ap (λ q. q >>= read_into s) f.2, typed_step s t f.0 y f.1 rest h f.3)

    pub typed_exact : Exact held StateDenotes c R (in_typed p) (InText P)
    typed_exact = record {
      found = λ s t x s' g sound h e.
          let b = bind_read (p (states.typed s)) (read_into s) (x, s') e in
          let f = k.found (states.typed s) t.bytes b.0.0 b.0.1 g sound (λ z j w. (h z j w).0) b.1 in
          let same : (b.0.0, with_typed s b.0.1) ≡ (x, s') = cc (b.2) in
          subst (λ (q : A × State). Comes held StateDenotes R (InText P) s t q.0 q.1) same (f.0, state_with_rest t f.1, (f.1, f.2, refl), typed_step s t b.0.0 f.0 b.0.1 f.1 h f.3);
      only = λ s t y t' g sound h j.
          subst (λ u. Reads held StateDenotes R s (p (states.typed s) >>= read_into s) y u) (sym j.2) (typed_reads s t (p (states.typed s)) y j.0 h (k.only (states.typed s) t.bytes y j.0 g sound (λ z i w. (h z i w).0) j.1));
    }

  module _ (p : Parse Text A) (P : Grammar Text B) (k : (d : ContextModel) → IsExtendedBy c d → Simple d R p P) where
    abbrev put_text : State → A × Text → Outcome (A × State)
    put_text s x = Read (x.0, to_bytes s x.1)

    text_step : (s : State) (t : ParseState) (x : A) (y : B) (u rest : Text) → Agree held StateDenotes s t → Step (known s.things) SameText R s.bytes x y u rest → Step held StateDenotes R s x y (to_bytes s u) (state_with_rest t rest)
    text_step s t x y u rest h f = record { grows = f.grows; sound = f.sound; stands = f.stands; agree = λ z j w. let now = h z j w in (f.agree z j w, now.1, now.2) }

    text_reads : (s : State) (t : ParseState) (o : Outcome (A × Text)) (y : B) (rest : Text) → Agree held StateDenotes s t → Reads (known s.things) SameText R s.bytes o y rest → Reads held StateDenotes R s (o >>= put_text s) y (state_with_rest t rest)
    text_reads s t o y rest h (inl e) = inl (ap (λ q. q >>= put_text s) e)
    text_reads s t o y rest h (inr f) = inr (f.0, to_bytes s f.1, ap (λ q. q >>= put_text s) f.2, text_step s t f.0 y f.1 rest h f.3)

    pub text_exact : Exact held StateDenotes c R (in_text p) (InText P)
    text_exact = record {
      found = λ s t x s' g sound h e.
          let b = bind_read (p s.bytes) (put_text s) (x, s') e in
          let f = (k s.things g).found s.bytes t.bytes b.0.0 b.0.1 (grows_refl s.things) sound (λ z j w. (h z j w).0) b.1 in
          let same : (b.0.0, to_bytes s b.0.1) ≡ (x, s') = cc (b.2) in
          subst (λ (q : A × State). Comes held StateDenotes R (InText P) s t q.0 q.1) same (f.0, state_with_rest t f.1, (f.1, f.2, refl), text_step s t b.0.0 f.0 b.0.1 f.1 h f.3);
      only = λ s t y t' g sound h j.
          subst (λ u. Reads held StateDenotes R s (p s.bytes >>= put_text s) y u) (sym j.2) (text_reads s t (p s.bytes) y j.0 h ((k s.things g).only s.bytes t.bytes y j.0 (grows_refl s.things) sound (λ z i w. (h z i w).0) j.1));
    }

-- ---- scopes

-- related lists with one more item
pub each_more : {A B : Type 0} (R : ContextModel → A → B → Type 0) (z : ContextModel) (xs : List A) (ys : List B) (x : A) (y : B) → Each R z xs ys → R z x y → Each R z (xs ++ x ∷ []) (ys ++ y ∷ [])
each_more R z [] [] x y h r = (r, tt)
each_more R z [] (v ∷ ys) x y h r = absurd h
each_more R z (u ∷ xs) [] x y h r = absurd h
each_more R z (u ∷ xs) (v ∷ ys) x y h r = (h.0, each_more R z xs ys x y h.1 r)

bound_stand : (z : ContextModel) (name : List ℕ) (b : List TypedValue) (y : PackTerm) (s : Scopes (List TypedValue)) (t : Scopes PackTerm) → PackDenotes z b y → ScopesDenote z s t → ScopesDenote z (bound name b s) (bound name y t)
bound_stand z name b y s t r h = (each_more BindingDenotes z s.here t.here (record { name = name; value = b }) (record { name = name; value = y }) h.0 (refl, r), h.1)

entered_stand : (z : ContextModel) (isolated : Bool) (s : Scopes (List TypedValue)) (t : Scopes PackTerm) → ScopesDenote z s t → ScopesDenote z (entered isolated s) (entered isolated t)
entered_stand z true s t h = (tt, (h.0, h.1))
entered_stand z false s t h = (h.0, (h.0, h.1))

left_stand : (z : ContextModel) (s : Scopes (List TypedValue)) (t : Scopes PackTerm) → ScopesDenote z s t → ScopesDenote z (left s) (left t)
left_stand z s t h = by_outer s.outer t.outer h.1
  where
    by_outer : (us : List (List (Binding (List TypedValue)))) (vs : List (List (Binding PackTerm))) → Each HereDenotes z us vs → ScopesDenote z (left_to s us) (left_to t vs)
    by_outer [] [] k = h
    by_outer [] (v ∷ vs) k = absurd k
    by_outer (u ∷ us) [] k = absurd k
    by_outer (u ∷ us) (v ∷ vs) k = k

module _ {A B : Type 0} (c : ContextModel) (R : ContextModel → A → B → Type 0) where
  -- a region begins, and ends
  pub inside_exact : (isolated : Bool) (p : Parse State A) (P : Grammar ParseState B) → Exact held StateDenotes c R p P → Exact held StateDenotes c R (λ s. p (inside isolated s)) (λ y old new. P y (state_inside isolated old) new)
  inside_exact isolated p P k =
      shift_exact held StateDenotes c R (inside isolated) (state_inside isolated) p P (λ s t sound a. (grows_refl s.things, sound, λ z g w. let now = a z g w in (now.0, entered_stand z isolated s.scopes t.scopes now.1, now.2))) k

  pub outside_exact : (x : A) (y : B) → From (λ z. R z x y) c → Exact held StateDenotes c R (λ s. Read (x, outside s)) (λ v old new. (v ≡ y) × (new ≡ state_outside old))
  outside_exact x y r =
      shift_exact held StateDenotes c R outside state_outside (λ s. Read (x, s)) (Done y) (λ s t sound a. (grows_refl s.things, sound, λ z g w. let now = a z g w in (now.0, left_stand z s.scopes t.scopes now.1, now.2))) (done_exact held StateDenotes c R x y r)

-- a function that binds names agrees with the relation of the grammar
pub record Scoped (c : ContextModel) (f : Scopes (List TypedValue) → Outcome (Scopes (List TypedValue))) (F : Scopes PackTerm → Scopes PackTerm → Type 0) : Type 0 where
  pub found : (d : ContextModel) (s : Scopes (List TypedValue)) (t : Scopes PackTerm) (s' : Scopes (List TypedValue)) → IsExtendedBy c d → IsSound d → From (λ z. ScopesDenote z s t) d → f s ≡ Read s' → (t' : Scopes PackTerm) × F t t' × From (λ z. ScopesDenote z s' t') d
  pub only : (d : ContextModel) (s : Scopes (List TypedValue)) (t t' : Scopes PackTerm) → IsExtendedBy c d → IsSound d → From (λ z. ScopesDenote z s t) d → F t t' → (s' : Scopes (List TypedValue)) × (f s ≡ Read s') × From (λ z. ScopesDenote z s' t') d

none_there : {A B : Type 0} (R : ContextModel → A → B → Type 0) (z : ContextModel) (o : Option A) (u : Option B) → Both R z o u → o ≡ None → u ≡ None
none_there R z o None h e = refl
none_there R z None (Some y) h e = absurd h
none_there R z (Some x) (Some y) h e = absurd cc

none_here : {A B : Type 0} (R : ContextModel → A → B → Type 0) (z : ContextModel) (o : Option A) (u : Option B) → Both R z o u → u ≡ None → o ≡ None
none_here R z None u h e = refl
none_here R z (Some x) None h e = absurd h
none_here R z (Some x) (Some y) h e = absurd cc

free_read : {A : Type 0} (o : Option A) (s s' : Scopes (List TypedValue)) → (if is_some o then Wrong else Read s) ≡ Read s' → (o ≡ None) × (s ≡ s')
free_read None s s' e = (refl, cc)
free_read (Some x) s s' e = absurd cc

pub bind_scoped : (c : ContextModel) (name : List ℕ) (b : List TypedValue) (y : PackTerm) → From (λ z. PackDenotes z b y) c → Scoped c (bind name b) (IsBound name y)
unfolding bind
bind_scoped c name b y r = record {
  found = λ d s t s' g sound h e.
      let k = free_read (find name s.here) (bound name b s) s' e in (
        bound name y t,
        (none_there PackDenotes d (find name s.here) (find name t.here) (find_stands d name s.here t.here (h d (grows_refl d) sound).0) k.0, refl),
        subst (λ u. From (λ z. ScopesDenote z u (bound name y t)) d) k.1 (λ z j w. bound_stand z name b y s t (r z (grows_trans c d z g j) w) (h z j w)),
      );
  only = λ d s t t' g sound h k.
      let free : find name s.here ≡ None = none_here PackDenotes d (find name s.here) (find name t.here) (find_stands d name s.here t.here (h d (grows_refl d) sound).0) k.0 in
      (bound name b s, rw free refl, subst (λ u. From (λ z. ScopesDenote z (bound name b s) u) d) (sym k.1) (λ z j w. bound_stand z name b y s t (r z (grows_trans c d z g j) w) (h z j w)));
}

same_scoped : (c : ContextModel) → Scoped c (λ s. Read s) (λ old new. new ≡ old)
same_scoped c = record {
  found = λ d s t s' g sound h e. let same : s ≡ s' = cc in (t, refl, subst (λ u. From (λ z. ScopesDenote z u t) d) same h);
  only = λ d s t t' g sound h k. (s, refl, subst (λ u. From (λ z. ScopesDenote z s u) d) (sym k) h);
}

then_scoped : (c : ContextModel) (f g : Scopes (List TypedValue) → Outcome (Scopes (List TypedValue))) (F G : Scopes PackTerm → Scopes PackTerm → Type 0) → Scoped c f F → Scoped c g G → Scoped c (λ s. f s >>= g) (λ old new. (mid : Scopes PackTerm) × F old mid × G mid new)
then_scoped c f g F G first second = record {
  found = λ d s t s' up sound h e.
      let b = bind_read (f s) g s' e in
      let k = first.found d s t b.0 up sound h b.1 in
      let n = second.found d b.0 k.0 s' up sound k.2 b.2 in
      (n.0, (k.0, k.1, n.1), n.2);
  only = λ d s t t' up sound h j.
      let k = first.only d s t j.0 up sound h j.1 in
      let n = second.only d k.0 j.0 t' up sound k.2 j.2 in
      (n.0, ap (λ o. o >>= g) k.1 ∙ n.1, n.2);
}

results_stand : (z : ContextModel) (id k : ℕ) (xs : List ℕ) (ys : List TypeTerm) → Each TypeDenotes z xs ys → PackDenotes z (results_of id k xs) (result_terms id k ys)
unfolding results_of
results_stand z id k [] [] h = tt
results_stand z id k [] (y ∷ ys) h = absurd h
results_stand z id k (x ∷ xs) [] h = absurd h
results_stand z id k (x ∷ xs) (y ∷ ys) h = ((refl, h.0), results_stand z id (k + 1) xs ys h.1)

module _ {A B : Type 0} (R : ContextModel → A → B → Type 0) (z : ContextModel) where
  each_take : (n : ℕ) (xs : List A) (ys : List B) → Each R z xs ys → Each R z (take n xs) (take n ys)
  each_take zero xs ys h = tt
  each_take (suc n) [] [] h = tt
  each_take (suc n) [] (y ∷ ys) h = absurd h
  each_take (suc n) (x ∷ xs) [] h = absurd h
  each_take (suc n) (x ∷ xs) (y ∷ ys) h = (h.0, each_take n xs ys h.1)

  each_drop : (n : ℕ) (xs : List A) (ys : List B) → Each R z xs ys → Each R z (drop n xs) (drop n ys)
  each_drop zero xs ys h = h
  each_drop (suc n) [] [] h = tt
  each_drop (suc n) [] (y ∷ ys) h = absurd h
  each_drop (suc n) (x ∷ xs) [] h = absurd h
  each_drop (suc n) (x ∷ xs) (y ∷ ys) h = each_drop n xs ys h.1

results_scoped : (id k : ℕ) (c : ContextModel) (names : List Counted) (xs : List ℕ) (ys : List TypeTerm) → From (λ z. Each TypeDenotes z xs ys) c → Scoped c (bind_results id k names xs) (IsBoundResults id k names ys)
unfolding bind_results
results_scoped id k c [] xs ys r = same_scoped c
results_scoped id k c (n ∷ ns) xs ys r =
    then_scoped c (bind n.0 (results_of id k (take n.1 xs))) (bind_results id (k + n.1) ns (drop n.1 xs)) (IsBound n.0 (result_terms id k (take n.1 ys))) (IsBoundResults id (k + n.1) ns (drop n.1 ys))
    (bind_scoped c n.0 (results_of id k (take n.1 xs)) (result_terms id k (take n.1 ys)) (λ z g w. results_stand z id k (take n.1 xs) (take n.1 ys) (each_take TypeDenotes z n.1 xs ys (r z g w))))
    (results_scoped id (k + n.1) c ns (drop n.1 xs) (drop n.1 ys) (λ z g w. each_drop TypeDenotes z n.1 xs ys (r z g w)))

-- if the counts sum up to the number of results
counted_scoped : (c : ContextModel) (n : ℕ) (xs : List ℕ) (ys : List TypeTerm) (f : Scopes (List TypedValue) → Outcome (Scopes (List TypedValue))) (F : Scopes PackTerm → Scopes PackTerm → Type 0) → From (λ z. Each TypeDenotes z xs ys) c → Scoped c f F
    → Scoped c (λ s. if n == length xs then f s else Wrong) (λ old new. (n ≡ length ys) × F old new)
counted_scoped c n xs ys f F r k = record {
  found = λ d s t s' g sound h e.
      let test = test_read (n == length xs) (f s) s' e in
      let m = k.found d s t s' g sound h test.1 in
      (m.0, (eqb-true n (length xs) test.0 ∙ each_length TypeDenotes d xs ys (r d g sound), m.1), m.2);
  only = λ d s t t' g sound h j.
      let m = k.only d s t t' g sound h j.1 in
      let test : (n == length xs) ≡ true = eq-eqb n (length xs) (j.0 ∙ sym (each_length TypeDenotes d xs ys (r d g sound))) in
      (m.0, rw test m.1, m.2);
}
  where
    test_read : (b : Bool) (o : Outcome (Scopes (List TypedValue))) (s' : Scopes (List TypedValue)) → (if b then o else Wrong) ≡ Read s' → (b ≡ true) × (o ≡ Read s')
    test_read true o s' e = (refl, e)
    test_read false o s' e = absurd cc

pub finish_scoped : (id : ℕ) (c : ContextModel) (names : Option (List Counted)) (xs : List ℕ) (ys : List TypeTerm) → From (λ z. Each TypeDenotes z xs ys) c → Scoped c (finish id names xs) (IsFinished id names ys)
finish_scoped id c None xs ys r = same_scoped c
finish_scoped id c (Some names) xs ys r = counted_scoped c (counts names) xs ys (bind_results id 0 names xs) (IsBoundResults id 0 names ys) r (results_scoped id 0 c names xs ys r)

-- binding names in a state
module _ {A B : Type 0} (c : ContextModel) (R : ContextModel → A → B → Type 0) (x : A) (y : B) (stands : From (λ z. R z x y) c) (f : Scopes (List TypedValue) → Outcome (Scopes (List TypedValue))) (F : Scopes PackTerm → Scopes PackTerm → Type 0) (k : Scoped c f F) where
  abbrev Scoping : Grammar ParseState B
  Scoping v old new = (scopes : Scopes PackTerm) × F old.scopes scopes × (v ≡ y) × (new ≡ state_with_scopes old scopes)

  scoped_step : (s : State) (t : ParseState) (u : Scopes (List TypedValue)) (v : Scopes PackTerm) → IsExtendedBy c s.things → IsSound s.things → Agree held StateDenotes s t → From (λ z. ScopesDenote z u v) s.things → Step held StateDenotes R s x y (with_scopes s u) (state_with_scopes t v)
  scoped_step s t u v g sound h new = record { grows = grows_refl s.things; sound = sound; stands = later (λ z. R z x y) c s.things g stands; agree = λ z j w. let now = h z j w in (now.0, new z j w, now.2) }

  abbrev put_scopes : State → Scopes (List TypedValue) → Outcome (A × State)
  put_scopes s u = Read (x, with_scopes s u)

  pub scoped_exact : Exact held StateDenotes c R (λ s. f s.scopes >>= λ u. Read (x, with_scopes s u)) Scoping
  scoped_exact = record {
    found = λ s t x' s' g sound h e.
        let b = bind_read (f s.scopes) (put_scopes s) (x', s') e in
        let n = k.found s.things s.scopes t.scopes b.0 g sound (λ z j w. (h z j w).1) b.1 in
        let same : (x, with_scopes s b.0) ≡ (x', s') = cc (b.2) in
        subst (λ (q : A × State). Comes held StateDenotes R Scoping s t q.0 q.1) same (y, state_with_scopes t n.0, (n.0, n.1, refl, refl), scoped_step s t b.0 n.0 g sound h n.2);
    only = λ s t y' t' g sound h j.
        let n = k.only s.things s.scopes t.scopes j.0 g sound (λ z i w. (h z i w).1) j.1 in
        rw (j.2, j.3) (inr (x, with_scopes s n.0, ap (λ o. o >>= put_scopes s) n.1, scoped_step s t n.0 j.0 g sound h n.2));
  }
