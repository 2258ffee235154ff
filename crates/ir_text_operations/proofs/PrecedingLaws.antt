-- The parser and the grammar of an operation's header agree.
use Rattle.std.specs.Prelude.{if◌then◌else◌, ◌==◌, nat_le, slice_get, option_map}
use Rattle.std.specs.List.{list_all}
use Rattle.std.specs.Char.{is_ascii_digit}
use Rattle.std.specs.Str.{bytes_eq}
use Rattle.std.proofs.Common.{◌≡◌, ◌≤◌, ◌+◌, ℕ, zero, suc, Bool, true, false, true≢false, List, [], ◌∷◌, length, Option, Some, None, refl, sym, ap, subst, ◌∙◌, ◌⊎◌, inl, inr}
use Rattle.std.proofs.lemmas.Bool.{le-leb, leb-true}
use Rattle.ir_text_tokens.specs.declared.token.Mark.{Mark}
use Rattle.ir_text_tokens.specs.declared.token.Mark.TheVariants.{OpenRound, CloseRound, Equal, Colon}
use Rattle.ir_text_tokens.specs.Tokens.{Lexeme, integer, value, string, hash, next}
use Rattle.ir_text_tokens.specs.Strings.{string_bytes}
use Rattle.ir_text_tokens.specs.Numbers.{integer_of, place_value}
use Rattle.ir_text_tokens.specs.Scopes.{Binding, find, or_else}
use Rattle.ir_types.specs.Things.{ContextModel, IsExtendedBy}
use Rattle.ir_types.specs.Sound.{IsSound}
use Rattle.ir_types.proofs.Growth.{grows_refl, grows_trans}
use Rattle.ir_text_types.specs.Marks.{after}
use Rattle.ir_text_types.specs.Outcomes.{Outcome, Read, Wrong, ◌>>=◌, of_option, Parse}
use Rattle.ir_text_types.specs.Lists.{more_at, list_at}
use Rattle.ir_text_types.specs.Grammars.{When, Grammar, Then, Done, Not, Either, IsMore, IsList, Token, IsMark}
use Rattle.ir_text_types.specs.Worlds.{From}
use Rattle.ir_text_types.specs.Laws.{Each}
use Rattle.ir_text_types.proofs.Worlds.{bind_assoc, option_read, later, Agree, Exact, Step, Reads, Marks, step_on, reads_on, exact_where, exact_rendered, exact_for, nothing_exact, choice_exact, guard_exact, then_exact, done_exact, after_exact, either_exact, more_exact, list_exact}
use Rattle.ir_text_types.proofs.TextLaws.{after_found, after_only, after_none, none_after}
use Rattle.ir_text_names.specs.declared.bound.TypedValue.{TypedValue}
use Rattle.ir_text_types.specs.Typed.{Text}
use Rattle.ir_text_names.specs.NameReading.{name_from, value_name_at, number_from, nonzero_at, some_count, count_at, result_at, names_at, results_from, results_at}
use Rattle.ir_text_operations.specs.PrecedingReading.{Frees, member_of, op_name_from, op_name_at, place_of, place_from, place_at, member_at, use_from, use_at, uses_at, start_at}
use Rattle.ir_text_operations.specs.Free.{pack_denoted_by}
use Rattle.ir_text_names.specs.Packs.{counts}
use Rattle.ir_text_operations.specs.ParseState.{BoundTerm, PackTerm}
use Rattle.ir_text_operations.specs.OpGrammar.{FreeTerms, IsName, IsNumber, IsCount, IsResult, IsNames, IsResultsFrom, IsResults, IsOpName, IsPlace, IsUse, IsStart}
use Rattle.ir_text_operations.specs.Denotation.{Equals, Both, BoundDenotes, PackDenotes, HereDenotes, FreeDenotes, StartDenotes}
use Rattle.ir_text_names.proofs.Counts.{if_read}

-- ---- parsers over any state

module _ {S T : Type 0} (things : S → ContextModel) (Same : ContextModel → S → T → Type 0) where
  -- p and P from the state that f or g maps to
  pub shift_exact : {A B : Type 0} (c : ContextModel) (R : ContextModel → A → B → Type 0) (f : S → S) (g : T → T) (p : Parse S A) (P : Grammar T B)
      → ((s : S) (t : T) → IsSound (things s) → Agree things Same s t → IsExtendedBy (things s) (things (f s)) × IsSound (things (f s)) × Agree things Same (f s) (g t))
      → Exact things Same c R p P → Exact things Same c R (λ s. p (f s)) (λ y old new. P y (g old) new)
  shift_exact c R f g p P moves k = record {
    found = λ s t x s' h sound a e.
        let m = moves s t sound a in
        let n = k.found (f s) (g t) x s' (grows_trans c (things s) (things (f s)) h m.0) m.1 m.2 e in
        (n.0, n.1, n.2, step_on things Same R s (f s) x n.0 s' n.1 m.0 n.3);
    only = λ s t y t' h sound a j.
        let m = moves s t sound a in
        reads_on things Same R s (f s) (p (f s)) y t' m.0 (k.only (f s) (g t) y t' (grows_trans c (things s) (things (f s)) h m.0) m.1 m.2 j);
  }

  -- p and P may use the state in which they begin
  pub begin_exact : {A B : Type 0} (c : ContextModel) (R : ContextModel → A → B → Type 0) (p : S → Parse S A) (P : T → Grammar T B)
      → ((s : S) (t : T) → IsExtendedBy c (things s) → IsSound (things s) → Agree things Same s t → Exact things Same (things s) R (p s) (P t)) → Exact things Same c R (λ s. p s s) (λ y old new. P old y old new)
  begin_exact c R p P each = record {
    found = λ s t x s' g sound h e. (each s t g sound h).found s t x s' (grows_refl (things s)) sound h e;
    only = λ s t y t' g sound h k. (each s t g sound h).only s t y t' (grows_refl (things s)) sound h k;
  }

  -- an optional value that both sides have
  pub both_exact : {A B : Type 0} (c : ContextModel) (R : ContextModel → A → B → Type 0) (o : Option A) (u : Option B) → From (λ z. Both R z o u) c → Exact things Same c R (λ s. of_option o >>= λ x. Read (x, s)) (λ y old new. (u ≡ Some y) × (new ≡ old))
  both_exact c R None None r = record { found = λ s t x s' g sound h e. absurd cc; only = λ s t y t' g sound h k. let e : None ≡ Some y = k.0 in absurd cc }
  both_exact c R None (Some b) r = record { found = λ s t x s' g sound h e. absurd cc; only = λ s t y t' g sound h k. absurd (r (things s) g sound) }
  both_exact c R (Some a) None r = record { found = λ s t x s' g sound h e. absurd (r (things s) g sound); only = λ s t y t' g sound h k. absurd (r (things s) g sound) }
  both_exact {B = B} c R (Some a) (Some b) r =
      exact_rendered things Same c R (λ s. Read (a, s)) (Done b) (λ y old new. (Some b ≡ Some y) × (new ≡ old)) (λ y t t' k. (ap Some (sym k.0), k.1)) back (done_exact things Same c R a b r)
    where
      back : (y : B) (t t' : T) → (Some b ≡ Some y) × (t' ≡ t) → Done b y t t'
      back y t t' k = let e : Some b ≡ Some y = k.0 in let same : y ≡ b = cc in (same, k.1)

  module _ (text : S → List ℕ) (rendered : T → List ℕ) (same : (z : ContextModel) (s : S) (t : T) → Same z s t → text s ≡ rendered t) where
    -- the texts agree in the present context
    pub texts_now : (s : S) (t : T) → IsSound (things s) → Agree things Same s t → text s ≡ rendered t
    texts_now s t sound h = same (things s) s t (h (things s) (grows_refl (things s)) sound)

    -- a parser that continues by the next token
    pub token_exact : {A B : Type 0} (c : ContextModel) (R : ContextModel → A → B → Type 0) (f : S → Lexeme → List ℕ → Outcome (A × S)) (F : Lexeme → List ℕ → Grammar T B)
        → ((l : Lexeme) (rest : List ℕ) → Exact things Same c R (λ s. f s l rest) (F l rest))
        → Exact things Same c R (λ s. of_option (next (text s)) >>= λ l. f s l.0 l.1) (λ y old new. (l : Lexeme) × (rest : List ℕ) × Token l (rendered old) rest × F l rest y old new)
    token_exact c R f F each = record {
      found = λ s t x s' g sound h e.
          let b = option_read (next (text s)) (λ l. f s l.0 l.1) (x, s') e in
          let k = (each b.0.0 b.0.1).found s t x s' g sound h b.2 in
          (k.0, k.1, (b.0.0, b.0.1, subst (λ r. Token b.0.0 r b.0.1) (texts_now s t sound h) b.1, k.2), k.3);
      only = λ s t y t' g sound h j.
          let token : next (text s) ≡ Some (j.0, j.1) = subst (λ r. Token j.0 r j.1) (sym (texts_now s t sound h)) j.2 in
          rw token ((each j.0 j.1).only s t y t' g sound h j.3);
    }

-- ---- lists whose items are related in a fixed context

module _ {S T : Type 0} (things : S → ContextModel) (Same : ContextModel → S → T → Type 0) (base : ContextModel) where
  abbrev Since : ContextModel → S → T → Type 0
  Since z s t = IsExtendedBy base z × Same z s t

  since : (s : S) (t : T) → IsExtendedBy base (things s) → Agree things Same s t → Agree things Since s t
  since s t b h = λ z g w. (grows_trans base (things s) z b g, h z g w)

  since_back : (s : S) (t : T) → Agree things Since s t → Agree things Same s t
  since_back s t h = λ z g w. (h z g w).1

  base_of : (s : S) (t : T) → IsSound (things s) → Agree things Since s t → IsExtendedBy base (things s)
  base_of s t sound h = (h (things s) (grows_refl (things s)) sound).0

  module _ {A B : Type 0} (R : ContextModel → A → B → Type 0) where
    step_since : (s : S) (x : A) (y : B) (s' : S) (t' : T) → IsExtendedBy base (things s) → Step things Same R s x y s' t' → Step things Since R s x y s' t'
    step_since s x y s' t' b k = record { grows = k.grows; sound = k.sound; stands = k.stands; agree = since s' t' (grows_trans base (things s) (things s') b k.grows) k.agree }

    step_back : (s : S) (x : A) (y : B) (s' : S) (t' : T) → Step things Since R s x y s' t' → Step things Same R s x y s' t'
    step_back s x y s' t' k = record { grows = k.grows; sound = k.sound; stands = k.stands; agree = since_back s' t' k.agree }

    reads_since : (s : S) (o : Outcome (A × S)) (y : B) (t' : T) → IsExtendedBy base (things s) → Reads things Same R s o y t' → Reads things Since R s o y t'
    reads_since s o y t' b (inl e) = inl e
    reads_since s o y t' b (inr k) = inr (k.0, k.1, k.2, step_since s k.0 y k.1 t' b k.3)

    reads_back : (s : S) (o : Outcome (A × S)) (y : B) (t' : T) → Reads things Since R s o y t' → Reads things Same R s o y t'
    reads_back s o y t' (inl e) = inl e
    reads_back s o y t' (inr k) = inr (k.0, k.1, k.2, step_back s k.0 y k.1 t' k.3)

    exact_since : (p : Parse S A) (P : Grammar T B) (d : ContextModel) → ((c : ContextModel) → IsExtendedBy base c → IsExtendedBy d c → Exact things Same c R p P) → Exact things Since d R p P
    exact_since p P d each = record {
      found = λ s t x s' g sound h e.
          let b = base_of s t sound h in
          let f = (each (things s) b g).found s t x s' (grows_refl (things s)) sound (since_back s t h) e in
          (f.0, f.1, f.2, step_since s x f.0 s' f.1 b f.3);
      only = λ s t y t' g sound h k.
          let b = base_of s t sound h in
          reads_since s (p s) y t' b ((each (things s) b g).only s t y t' (grows_refl (things s)) sound (since_back s t h) k);
    }

    exact_back : (p : Parse S A) (P : Grammar T B) → Exact things Since base R p P → Exact things Same base R p P
    exact_back p P k = record {
      found = λ s t x s' g sound h e. let f = k.found s t x s' g sound (since s t g h) e in (f.0, f.1, f.2, step_back s x f.0 s' f.1 f.3);
      only = λ s t y t' g sound h j. reads_back s (p s) y t' (k.only s t y t' g sound (since s t g h) j);
    }

  module _ (after : Mark → S → Option S) (Tok : Mark → T → T → Type 0) (marks : Marks things Same after Tok) where
    marks_since : Marks things Since after Tok
    marks_since = record {
      found = λ m s t s' sound h e.
          let f = marks.found m s t s' sound (since_back s t h) e in
          (f.0, f.1, f.2, f.3, since s' f.0 (grows_trans base (things s) (things s') (base_of s t sound h) f.2) f.4);
      only = λ m s t t' sound h k.
          let f = marks.only m s t t' sound (since_back s t h) k in
          (f.0, f.1, f.2, f.3, since f.0 t' (grows_trans base (things s) (things f.0) (base_of s t sound h) f.2) f.4);
      none = λ m s t sound h e. marks.none m s t sound (since_back s t h) e;
      lacks = λ m s t sound h e. marks.lacks m s t sound (since_back s t h) e;
    }

    module _ {A B : Type 0} (R : ContextModel → A → B → Type 0) (close : Mark) (p : List A → Parse S A) (P : List B → Grammar T B)
        (item : (c : ContextModel) (xs : List A) (ys : List B) → IsExtendedBy base c → From (λ z. Each R z xs ys) c → Exact things Same c R (p xs) (P ys)) where
      item_since : (d : ContextModel) (xs : List A) (ys : List B) → From (λ z. Each R z xs ys) d → Exact things Since d R (p xs) (P ys)
      item_since d xs ys r = exact_since R (p xs) (P ys) d (λ c b g. item c xs ys b (later (λ z. Each R z xs ys) d c g r))

      pub items_exact : (headroom : ℕ) → Exact things Same base (Each R) (list_at after close p headroom) (IsList Tok close P headroom)
      items_exact headroom = exact_back (Each R) (list_at after close p headroom) (IsList Tok close P headroom) (list_exact things Since after Tok marks_since R close p P item_since headroom base)

      pub some_items_exact : (headroom : ℕ) → Exact things Same base (Each R) (more_at after close p headroom []) (IsMore Tok close P headroom [])
      some_items_exact headroom = exact_back (Each R) (more_at after close p headroom []) (IsMore Tok close P headroom []) (more_exact things Since after Tok marks_since R close p P item_since headroom base [] [] (λ z g w. tt))

-- ---- the text alone, in a context that doesn't change

abbrev pub known : ContextModel → Text → ContextModel
known c s = c

abbrev pub SameText : ContextModel → Text → Text → Type 0
SameText z s t = s ≡ t

abbrev pub Simple : {A B : Type 0} → (c : ContextModel) → (ContextModel → A → B → Type 0) → Parse Text A → Grammar Text B → Type 0
Simple c R p P = Exact (known c) SameText c R p P

pub text_marks : (c : ContextModel) → Marks (known c) SameText after IsMark
text_marks c = record {
  found = λ m s t s' sound h e. (s', subst (λ b. IsMark m b s') (h c (grows_refl c) sound) (after_found m s s' e), grows_refl c, sound, λ z g w. refl);
  only = λ m s t t' sound h k. (t', after_only m s t' (subst (λ b. IsMark m b t') (sym (h c (grows_refl c) sound)) k), grows_refl c, sound, λ z g w. refl);
  none = λ m s t sound h e. subst (λ b. Not IsMark m b) (h c (grows_refl c) sound) (after_none m s e);
  lacks = λ m s t sound h e. none_after m s (subst (λ b. Not IsMark m b) (sym (h c (grows_refl c) sound)) e);
}

module _ {A B : Type 0} (c : ContextModel) (R : ContextModel → A → B → Type 0) where
  -- the parse after the token
  plain_after : (rest : Text) (p : Parse Text A) (P : Grammar Text B) → Simple c R p P → Simple c R (λ s. p rest) (λ y old new. P y rest new)
  plain_after rest p P k = shift_exact (known c) SameText c R (λ s. rest) (λ t. rest) p P (λ s t sound a. (grows_refl c, sound, λ z g w. refl)) k

  plain_token : (f : Text → Lexeme → List ℕ → Outcome (A × Text)) (F : Lexeme → List ℕ → Grammar Text B) → ((l : Lexeme) (rest : Text) → Simple c R (λ s. f s l rest) (F l rest))
      → Simple c R (λ s. of_option (next s) >>= λ l. f s l.0 l.1) (λ y old new. (l : Lexeme) × (rest : Text) × Token l old rest × F l rest y old new)
  plain_token f F each = token_exact (known c) SameText (λ s. s) (λ t. t) (λ z s t k. k) c R f F each

-- the same for any context at the start
plain_from : {A B : Type 0} (c : ContextModel) (R : ContextModel → A → B → Type 0) (p : Parse Text A) (P : Grammar Text B) → Simple c R p P → (d : ContextModel) → Exact (known c) SameText d R p P
plain_from c R p P k d = record {
  found = λ s t x s' g sound h e. k.found s t x s' (grows_refl c) sound h e;
  only = λ s t y t' g sound h j. k.only s t y t' (grows_refl c) sound h j;
}

plain_done : {A : Type 0} (c : ContextModel) (x : A) → Simple c Equals (λ s. Read (x, s)) (Done x)
plain_done c x = done_exact (known c) SameText c Equals x x (λ z g w. refl)

-- ---- names

abbrev NameFrom : Lexeme → Text → Grammar Text (List ℕ)
NameFrom (value n) rest y old new = Done n y rest new
NameFrom _ rest y old new = ⊥

name_from_exact : (c : ContextModel) (l : Lexeme) (rest : Text) → Simple c Equals (λ s. name_from l rest) (NameFrom l rest)
name_from_exact c (value n) rest = plain_after c Equals rest (λ s. Read (n, s)) (Done n) (plain_done c n)
name_from_exact c _ rest = nothing_exact (known c) SameText c Equals

name_into : (y : List ℕ) (t t' : Text) → (l : Lexeme) × (rest : Text) × Token l t rest × NameFrom l rest y t t' → IsName y t t'
name_into y t t' k = by_token k.0 k.1 k.2 k.3
  where
    by_token : (l : Lexeme) (rest : Text) → Token l t rest → NameFrom l rest y t t' → IsName y t t'
    by_token (value n) rest token k = rw (k.0, k.1) token
    by_token _ rest token k = absurd k

pub name_exact : (c : ContextModel) → Simple c Equals value_name_at IsName
unfolding value_name_at
name_exact c =
    exact_rendered (known c) SameText c Equals value_name_at (λ y old new. (l : Lexeme) × (rest : Text) × Token l old rest × NameFrom l rest y old new) IsName name_into (λ y t t' k. (value y, t', k, (refl, refl)))
    (plain_token c Equals (λ s. name_from) NameFrom (name_from_exact c))

pub each_equal : {A : Type 0} (z : ContextModel) (xs ys : List A) → Each Equals z xs ys → xs ≡ ys
each_equal z [] [] h = refl
each_equal z [] (y ∷ ys) h = absurd h
each_equal z (x ∷ xs) [] h = absurd h
each_equal z (x ∷ xs) (y ∷ ys) h = λ i. h.0 i ∷ each_equal z xs ys h.1 i

-- ---- counts

-- a parser whose value is the derived value itself
module _ {A : Type 0} (p : Parse Text A) (P : Grammar Text A) (found : (s : Text) (x : A) (s' : Text) → p s ≡ Read (x, s') → P x s s') (only : (s : Text) (x : A) (s' : Text) → P x s s' → p s ≡ Read (x, s')) where
  plain_equal : (c : ContextModel) → Simple c Equals p P
  plain_equal c = record {
    found = λ s t x s' g sound h e. (x, s', subst (λ b. P x b s') (h c (grows_refl c) sound) (found s x s' e), record { grows = grows_refl c; sound = sound; stands = λ z j w. refl; agree = λ z j w. refl });
    only = λ s t y t' g sound h k. inr (y, t', only s y t' (subst (λ b. P y b t') (sym (h c (grows_refl c) sound)) k), record { grows = grows_refl c; sound = sound; stands = λ z j w. refl; agree = λ z j w. refl });
  }

abbrev pair : ℕ → Text → ℕ × Text
pair k s = (k, s)

pair_parts : (k n : ℕ) (s t : Text) → pair k s ≡ pair n t → (k ≡ n) × (s ≡ t)
pair_parts k n s t e = (ap (λ (q : ℕ × Text). q.0) e, ap (λ (q : ℕ × Text). q.1) e)

number_found : (s : Text) (k : ℕ) (s' : Text) → nonzero_at s ≡ Read (k, s') → IsNumber k s s'
unfolding nonzero_at
number_found s k s' e =
    let b = option_read (next s) (λ t. number_from t.0 t.1) (k, s') e in
    by_token b.0.0 b.0.1 b.1 b.2
  where
    by_token : (l : Lexeme) (rest : Text) → Token l s rest → number_from l rest ≡ Read (k, s') → IsNumber k s s'
    by_token (integer digits) rest token e =
        let r = if_read (nat_le 1 (integer_of digits)) (integer_of digits, rest) (k, s') e in
        let same = pair_parts (integer_of digits) k rest s' r.1 in
        let low = leb-true 1 (integer_of digits) r.0 in
        (digits, subst (λ r. Token (integer digits) s r) same.1 token, sym same.0, subst (λ n. 1 ≤ n) same.0 low)
    by_token _ rest token e = absurd cc

number_only : (s : Text) (k : ℕ) (s' : Text) → IsNumber k s s' → nonzero_at s ≡ Read (k, s')
unfolding nonzero_at
number_only s k s' h =
    let low : nat_le 1 (integer_of h.0) ≡ true = le-leb 1 (integer_of h.0) (subst (λ n. 1 ≤ n) h.2 h.3) in
    rw (h.1, low, h.2) refl

number_exact : (c : ContextModel) → Simple c Equals nonzero_at IsNumber
number_exact c = plain_equal nonzero_at IsNumber number_found number_only c

within_exact : (before k : ℕ) (c : ContextModel) → Simple c Equals (λ s. if nat_le (before + k) 256 then Read (k, s) else Wrong) (When (before + k ≤ 256) (Done k))
within_exact before k c =
    exact_rendered (known c) SameText c Equals (λ s. if nat_le (before + k) 256 then Read (k, s) else Wrong) (λ y old new. (nat_le (before + k) 256 ≡ true) × Done k y old new) (When (before + k ≤ 256) (Done k))
    (λ y t t' j. (leb-true (before + k) 256 j.0, j.1)) (λ y t t' j. (le-leb (before + k) 256 j.0, j.1)) (guard_exact (known c) SameText c Equals (nat_le (before + k) 256) (λ s. Read (k, s)) (Done k) (plain_done c k))

count_exact : (before : ℕ) (c : ContextModel) → Simple c Equals (count_at before) (IsCount before)
unfolding count_at
count_exact before c =
    then_exact (known c) SameText c Equals Equals (λ s. some_count s (after Colon s)) (Either IsMark Colon IsNumber (Done 1)) (λ k s. if nat_le (before + k) 256 then Read (k, s) else Wrong) (λ k. When (before + k ≤ 256) (Done k))
    (either_exact (known c) SameText after IsMark (text_marks c) c Equals Colon some_count nonzero_at (λ s. Read (1, s)) IsNumber (Done 1) (λ s mid. refl) (λ s. refl) (number_exact c) (plain_done c 1)) (λ d k n g same.
    begin_exact (known c) SameText d Equals (λ u s. if nat_le (before + k) 256 then Read (k, s) else Wrong) (λ t. When (before + n ≤ 256) (Done n)) (λ s t up sound h.
    subst (λ m. Simple c Equals (λ s. if nat_le (before + k) 256 then Read (k, s) else Wrong) (When (before + m ≤ 256) (Done m))) (same c up sound) (within_exact before k c)))

result_exact : (before : ℕ) (c : ContextModel) → Simple c Equals (result_at before) (IsResult before)
unfolding result_at
result_exact before c =
    then_exact (known c) SameText c Equals Equals value_name_at IsName (λ n s. count_at before s >>= λ k. Read ((n, k.0), k.1)) (λ n. Then (IsCount before) (λ k. Done (n, k))) (name_exact c) (λ d n n' g names.
    then_exact (known c) SameText d Equals Equals (count_at before) (IsCount before) (λ k s. Read ((n, k), s)) (λ k. Done (n', k)) (plain_from c Equals (count_at before) (IsCount before) (count_exact before c) d) (λ e k k' up same.
    done_exact (known c) SameText e Equals (n, k) (n', k') (λ z j w. λ i. (names z (grows_trans d e z up j) w i, same z j w i))))

names_exact : (c : ContextModel) → Simple c Equals names_at IsNames
unfolding names_at
names_exact c =
    exact_for (known c) SameText c (Each Equals) Equals names_at IsNames each_equal
    (more_exact (known c) SameText after IsMark (text_marks c) Equals Equal (λ before. result_at (counts before)) (λ before. IsResult (counts before)) (λ d xs ys r.
    begin_exact (known c) SameText d Equals (λ s. result_at (counts xs)) (λ t. IsResult (counts ys)) (λ s t up sound h.
    subst (λ zs. Simple c Equals (result_at (counts xs)) (IsResult (counts zs))) (each_equal c xs ys (r c up sound)) (result_exact (counts xs) c))) 256 c [] [] (λ z g k. tt))

-- ---- the names of results, and the name of an operation

some_names_exact : (c : ContextModel) (n : List ℕ) (rest : Text) → Simple c Equals (λ s. results_from s (value n)) (IsResultsFrom (value n))
some_names_exact c n rest =
    exact_rendered (known c) SameText c Equals (λ s. results_from s (value n)) (Then IsNames (λ ns. Done (Some ns))) (IsResultsFrom (value n))
    (λ y t t' k. (k.0, subst (λ r. IsNames k.0 t r) (sym k.3.1) k.2, k.3.0)) (λ y t t' k. (k.0, t', k.1, (k.2, refl)))
    (then_exact (known c) SameText c Equals Equals names_at IsNames (λ ns s. Read (Some ns, s)) (λ ns. Done (Some ns)) (names_exact c) (λ d x y g r.
    done_exact (known c) SameText d Equals (Some x) (Some y) (λ z k w. ap Some (r z k w))))

results_from_exact : (c : ContextModel) (l : Lexeme) (rest : Text) → Simple c Equals (λ s. results_from s l) (IsResultsFrom l)
results_from_exact c (value n) rest = some_names_exact c n rest
results_from_exact c _ rest = plain_done c None

results_exact : (c : ContextModel) → Simple c Equals results_at IsResults
unfolding results_at
results_exact c = plain_token c Equals (λ s l rest. results_from s l) (λ l rest. IsResultsFrom l) (results_from_exact c)

abbrev NameOf : List ℕ → Grammar Text (List ℕ)
NameOf raw y old new = ((length (string_bytes raw) == 0) ≡ true) × ⊥ ⊎ ((length (string_bytes raw) == 0) ≡ false) × Done (string_bytes raw) y old new

abbrev OpNameFrom : Lexeme → Text → Grammar Text (List ℕ)
OpNameFrom (string raw) rest y old new = NameOf raw y rest new
OpNameFrom _ rest y old new = ⊥

op_name_from_exact : (c : ContextModel) (l : Lexeme) (rest : Text) → Simple c Equals (λ s. op_name_from l rest) (OpNameFrom l rest)
op_name_from_exact c (string raw) rest =
    plain_after c Equals rest (λ s. if length (string_bytes raw) == 0 then Wrong else Read (string_bytes raw, s)) (NameOf raw)
    (choice_exact (known c) SameText c Equals (length (string_bytes raw) == 0) (λ s. Wrong) (λ s. Read (string_bytes raw, s)) (λ y old new. ⊥) (Done (string_bytes raw)) (nothing_exact (known c) SameText c Equals) (plain_done c (string_bytes raw)))
op_name_from_exact c _ rest = nothing_exact (known c) SameText c Equals

op_name_into : (y : List ℕ) (t t' : Text) → (l : Lexeme) × (rest : Text) × Token l t rest × OpNameFrom l rest y t t' → IsOpName y t t'
op_name_into y t t' k = by_token k.0 k.1 k.2 k.3
  where
    by_token : (l : Lexeme) (rest : Text) → Token l t rest → OpNameFrom l rest y t t' → IsOpName y t t'
    by_token (string raw) rest token (inl k) = absurd k.1
    by_token (string raw) rest token (inr k) = (raw, subst (λ r. Token (string raw) t r) (sym k.1.1) token, k.0, k.1.0)
    by_token _ rest token k = absurd k

op_name_exact : (c : ContextModel) → Simple c Equals op_name_at IsOpName
unfolding op_name_at
op_name_exact c =
    exact_rendered (known c) SameText c Equals op_name_at (λ y old new. (l : Lexeme) × (rest : Text) × Token l old rest × OpNameFrom l rest y old new) IsOpName op_name_into (λ y t t' k. (string k.0, t', k.1, inr (k.2, (k.3, refl))))
    (plain_token c Equals (λ s. op_name_from) OpNameFrom (op_name_from_exact c))

-- ---- uses

other_both : {A B : Type 0} (R : ContextModel → A → B → Type 0) (z : ContextModel) (o o' : Option A) (u u' : Option B) → Both R z o u → Both R z o' u' → Both R z (or_else o o') (or_else u u')
other_both R z None o' None u' h k = k
other_both R z None o' (Some y) u' h k = absurd h
other_both R z (Some x) o' None u' h k = absurd h
other_both R z (Some x) o' (Some y) u' h k = h

test_both : {A B : Type 0} (R : ContextModel → A → B → Type 0) (z : ContextModel) (b : Bool) (x : A) (y : B) → R z x y → Both R z (if b then Some x else None) (if b then Some y else None)
test_both R z true x y h = h
test_both R z false x y h = tt

-- the bindings of a name, with ids and with terms, are related
pub find_stands : (z : ContextModel) (name : List ℕ) (here : List (Binding (List TypedValue))) (there : List (Binding PackTerm)) → HereDenotes z here there → Both PackDenotes z (find name here) (find name there)
unfolding find
find_stands z name [] [] h = tt
find_stands z name [] (y ∷ ys) h = absurd h
find_stands z name (b ∷ bs) [] h = absurd h
find_stands z name (b ∷ bs) (y ∷ ys) h =
    other_both PackDenotes z (find name bs) (if bytes_eq b.name name then Some b.value else None) (find name ys) (if bytes_eq y.name name then Some y.value else None) (find_stands z name bs ys h.1)
    (subst (λ n. Both PackDenotes z (if bytes_eq b.name name then Some b.value else None) (if bytes_eq n name then Some y.value else None)) h.0.0 (test_both PackDenotes z (bytes_eq b.name name) b.value y.value h.0.1))

abbrev names_hash : Lexeme → Bool
names_hash (hash word) = true
names_hash _ = false

-- whether the next token is a hash sign with a name
abbrev is_hash : Option (Lexeme × Text) → Bool
is_hash None = false
is_hash (Some t) = names_hash t.0

-- the index into a pack
place_found : (s : Text) (k : ℕ) (s' : Text) → place_at s ≡ Read (k, s') → IsPlace k s s'
unfolding place_at
place_found s k s' e = by_next (next s) refl e
  where
    by_token : (l : Lexeme) (rest : Text) → Token l s rest → place_of s l rest ≡ Read (k, s') → IsPlace k s s'
    by_token (hash digits) rest token e =
        let r = if_read (list_all is_ascii_digit digits) (place_value 10 digits, rest) (k, s') e in
        let same = pair_parts (place_value 10 digits) k rest s' r.1 in
        inl (digits, subst (λ r. Token (hash digits) s r) same.1 token, r.0, sym same.0)
    by_token _ rest token e =
        let same : pair 0 s ≡ pair k s' = cc in
        let parts = pair_parts 0 k s s' same in
        inr (λ word r other. true≢false (sym (ap is_hash (sym token ∙ other))), sym parts.0, sym parts.1)

    by_next : (o : Option (Lexeme × Text)) → next s ≡ o → place_from s o ≡ Read (k, s') → IsPlace k s s'
    by_next None none e =
        let same : pair 0 s ≡ pair k s' = cc in
        let parts = pair_parts 0 k s s' same in
        inr (λ word r other. let clash = sym none ∙ other in absurd cc, sym parts.0, sym parts.1)
    by_next (Some t) token e = by_token t.0 t.1 token e

place_only : (s : Text) (k : ℕ) (s' : Text) → IsPlace k s s' → place_at s ≡ Read (k, s')
unfolding place_at
place_only s k s' (inl h) = rw (h.1, h.2, h.3) refl
place_only s k s' (inr h) = by_next (next s) refl ∙ λ i. Read (sym h.1 i, sym h.2 i)
  where
    by_token : (l : Lexeme) (rest : Text) → Token l s rest → place_of s l rest ≡ Read (0, s)
    by_token (hash digits) rest token = absurd (h.0 digits rest token)
    by_token _ rest token = refl

    by_next : (o : Option (Lexeme × Text)) → next s ≡ o → place_from s o ≡ Read (0, s)
    by_next None none = refl
    by_next (Some t) token = by_token t.0 t.1 token

place_exact : (c : ContextModel) → Simple c Equals place_at IsPlace
place_exact c = plain_equal place_at IsPlace place_found place_only c

-- the values at an index are related
place_stands : (z : ContextModel) (k : ℕ) (xs : List TypedValue) (ys : PackTerm) → PackDenotes z xs ys → Both BoundDenotes z (slice_get xs k) (slice_get ys k)
place_stands z k [] [] h = tt
place_stands z k [] (y ∷ ys) h = absurd h
place_stands z k (x ∷ xs) [] h = absurd h
place_stands z zero (x ∷ xs) (y ∷ ys) h = h.0
place_stands z (suc k) (x ∷ xs) (y ∷ ys) h = place_stands z k xs ys h.1

abbrev MemberAt : PackTerm → ℕ → Grammar Text BoundTerm
MemberAt pack k y old new = (slice_get pack k ≡ Some y) × (new ≡ old)

abbrev IsMember : PackTerm → Grammar Text BoundTerm
IsMember pack = Then IsPlace (MemberAt pack)

member_exact : (c d : ContextModel) (xs : List TypedValue) (ys : PackTerm) → From (λ z. PackDenotes z xs ys) d → Exact (known c) SameText d BoundDenotes (member_at xs) (IsMember ys)
unfolding member_at
member_exact c d xs ys stand =
    then_exact (known c) SameText d Equals BoundDenotes place_at IsPlace (λ k s. of_option (slice_get xs k) >>= λ b. Read (b, s)) (MemberAt ys) (plain_from c Equals place_at IsPlace (place_exact c) d) (λ e k n g same.
    both_exact (known c) SameText e BoundDenotes (slice_get xs k) (slice_get ys n) (λ z j w.
    subst (λ m. Both BoundDenotes z (slice_get xs k) (slice_get ys m)) (same z j w) (place_stands z k xs ys (stand z (grows_trans d e z g j) w))))

-- the value of a free name as a pack
one_stands : (z : ContextModel) (o : Option TypedValue) (u : Option BoundTerm) → Both BoundDenotes z o u → Both PackDenotes z (option_map (λ b. b ∷ []) o) (option_map (λ b. b ∷ []) u)
one_stands z None None h = tt
one_stands z None (Some y) h = absurd h
one_stands z (Some x) None h = absurd h
one_stands z (Some x) (Some y) h = (h, tt)

seen_stands : (z : ContextModel) (free : Frees) (outer : FreeTerms) (n : List ℕ) (here : List (Binding (List TypedValue))) (there : List (Binding PackTerm)) → FreeDenotes z free outer → HereDenotes z here there → Both PackDenotes z (pack_denoted_by free here n) (pack_denoted_by outer there n)
seen_stands z free outer n here there frees h =
    other_both PackDenotes z (find n here) (option_map (λ b. b ∷ []) (free n)) (find n there) (option_map (λ b. b ∷ []) (outer n)) (find_stands z n here there h) (one_stands z (free n) (outer n) (frees n))

module _ (c : ContextModel) (free : Frees) (outer : FreeTerms) (here : List (Binding (List TypedValue))) (there : List (Binding PackTerm)) (frees : From (λ z. FreeDenotes z free outer) c) (stand : From (λ z. HereDenotes z here there) c) where
  abbrev found_at : List ℕ → Parse Text (List TypedValue)
  found_at n s = of_option (pack_denoted_by free here n) >>= λ pack. Read (pack, s)

  abbrev Found : List ℕ → Grammar Text PackTerm
  Found n pack old new = (pack_denoted_by outer there n ≡ Some pack) × (new ≡ old)

  abbrev UseOf : List ℕ → Grammar Text BoundTerm
  UseOf n = Then (Found n) IsMember

  abbrev UseFrom : Lexeme → Text → Grammar Text BoundTerm
  UseFrom (value n) rest y old new = UseOf n y rest new
  UseFrom _ rest y old new = ⊥

  use_of_exact : (n : List ℕ) → Simple c BoundDenotes (member_of (pack_denoted_by free here n)) (UseOf n)
  use_of_exact n =
      exact_where (known c) SameText c BoundDenotes (member_of (pack_denoted_by free here n)) (λ s. found_at n s >>= λ x. member_at x.0 x.1) (UseOf n) (λ s g sound. sym (bind_assoc (of_option (pack_denoted_by free here n)) (λ pack. Read (pack, s)) (λ x. member_at x.0 x.1)))
      (then_exact (known c) SameText c PackDenotes BoundDenotes (found_at n) (Found n) member_at IsMember (both_exact (known c) SameText c PackDenotes (pack_denoted_by free here n) (pack_denoted_by outer there n) (λ z g w. seen_stands z free outer n here there (frees z g w) (stand z g w)))
      (λ d xs ys g r. member_exact c d xs ys r))

  use_from_exact : (l : Lexeme) (rest : Text) → Simple c BoundDenotes (λ s. use_from free here l rest) (UseFrom l rest)
  use_from_exact (value n) rest = plain_after c BoundDenotes rest (member_of (pack_denoted_by free here n)) (UseOf n) (use_of_exact n)
  use_from_exact _ rest = nothing_exact (known c) SameText c BoundDenotes

  use_into : (y : BoundTerm) (t t' : Text) → (l : Lexeme) × (rest : Text) × Token l t rest × UseFrom l rest y t t' → IsUse outer there y t t'
  use_into y t t' k = by_token k.0 k.1 k.2 k.3
    where
      by_token : (l : Lexeme) (rest : Text) → Token l t rest → UseFrom l rest y t t' → IsUse outer there y t t'
      by_token (value n) rest token k =
          let place : IsPlace k.3.0 rest t' = subst (λ r. IsPlace k.3.0 rest r) (sym k.3.3.1) (subst (λ r. IsPlace k.3.0 r k.3.1) k.2.1 k.3.2) in
          (n, rest, k.0, k.3.0, token, k.2.0, place, k.3.3.0)
      by_token _ rest token k = absurd k

  use_back : (y : BoundTerm) (t t' : Text) → IsUse outer there y t t' → (l : Lexeme) × (rest : Text) × Token l t rest × UseFrom l rest y t t'
  use_back y t t' k = (value k.0, k.1, k.4, (k.2, k.1, (k.5, refl), (k.3, t', k.6, (k.7, refl))))

  use_exact : Simple c BoundDenotes (use_at free here) (IsUse outer there)
  unfolding use_at
  use_exact =
      exact_rendered (known c) SameText c BoundDenotes (use_at free here) (λ y old new. (l : Lexeme) × (rest : Text) × Token l old rest × UseFrom l rest y old new) (IsUse outer there) use_into use_back
      (plain_token c BoundDenotes (λ s. use_from free here) UseFrom use_from_exact)

  uses_exact : Simple c (Each BoundDenotes) (uses_at free here) (IsList IsMark CloseRound (λ before. IsUse outer there) 256)
  unfolding uses_at
  uses_exact = list_exact (known c) SameText after IsMark (text_marks c) BoundDenotes CloseRound (λ before. use_at free here) (λ before. IsUse outer there) (λ d xs ys r. plain_from c BoundDenotes (use_at free here) (IsUse outer there) use_exact d) 256 c

  -- the header of an operation
  pub start_exact : Simple c StartDenotes (start_at free here) (IsStart outer there)
  unfolding start_at
  start_exact =
      then_exact (known c) SameText c Equals StartDenotes _ _ _ _ (results_exact c) (λ d1 results results' g1 r1.
      then_exact (known c) SameText d1 Equals StartDenotes _ _ _ _ (plain_from c Equals op_name_at IsOpName (op_name_exact c) d1) (λ d2 name name' g2 r2.
      after_exact (known c) SameText after IsMark (text_marks c) d2 StartDenotes OpenRound _ _
      (then_exact (known c) SameText d2 (Each BoundDenotes) StartDenotes _ _ _ _ (plain_from c (Each BoundDenotes) (uses_at free here) (IsList IsMark CloseRound (λ before. IsUse outer there) 256) uses_exact d2) (λ d3 operands operands' g3 r3.
      done_exact (known c) SameText d3 StartDenotes (record { results = results; name = name; operands = operands }) (record { results = results'; name = name'; operands = operands' })
      (λ z k w. (r1 z (grows_trans d1 d2 z g2 (grows_trans d2 d3 z g3 k)) w, r2 z (grows_trans d2 d3 z g3 k) w, r3 z k w))))))
