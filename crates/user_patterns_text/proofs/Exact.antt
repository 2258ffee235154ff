-- A reader returns exactly what a grammar spells. Combinators of readers and grammars.
use Rattle.std.proofs.Common.{◌≡◌, ℕ, zero, suc, Bool, true, false, not, List, [], ◌∷◌, ◌++◌, Option, Some, None, refl, sym, ap, subst, if◌then◌else◌, ◌⊎◌, inl, inr}
use Rattle.std.proofs.lemmas.Option.{same_Some, none-some}
use Rattle.ir_text_tokens.specs.declared.token.Mark.{Mark}
use Rattle.ir_text_tokens.specs.declared.token.Mark.TheVariants.{Comma}
use Rattle.ir_text_tokens.specs.Tokens.{Lexeme, next}
use Rattle.ir_text_types.specs.Grammars.{Grammar, Then, Done, DoneIf, When, After, Either, Not, IsList, IsMore, IsMark}
use Rattle.ir_text_types.specs.Marks.{after}
use Rattle.ir_text_types.specs.Typed.{Text}
use Rattle.ir_text_types.proofs.TextLaws.{after_found, after_only, after_none, none_after}
use Rattle.user_patterns_text.specs.Grammar.{Following, Never}
use Rattle.user_patterns_text.specs.Recognizing.{Reader, given, fail, done, done_if, when, and_then, after_mark, either_from, either, trailing, more, more_from, listed}
use Rattle.ir_types.proofs.Truths.{if_is}
use Rattle.std.proofs.lemmas.Bool.{not-true, not_from_false}

pub record Exact {A : Type 0} (p : Reader A) (P : Grammar Text A) : Type 0 where
  pub found : (s r : Text) (x : A) → p s ≡ Some (x, r) → P x s r
  pub only : (s r : Text) (x : A) → P x s r → p s ≡ Some (x, r)

true_false : true ≡ false → ⊥
true_false e = cc

pub given_some : {X Y : Type 0} (r : Option X) (f : X → Option Y) (y : Y) → given r f ≡ Some y → (x : X) × (r ≡ Some x) × (f x ≡ Some y)
given_some None f y e = absurd (none-some y e)
given_some (Some x) f y e = (x, refl, e)

abbrev pub pair : {A : Type 0} → A → Text → Option (A × Text)
pair x s = Some (x, s)

pub same_pair : {A : Type 0} {x y : A} {s t : Text} → pair x s ≡ pair y t → (y ≡ x) × (t ≡ s)
same_pair {A = A} {x = x} {y = y} {s = s} {t = t} e =
    let k : (x, s) ≡ (y, t) = same_Some (x, s) (y, t) e in
    (sym (ap (λ (z : A × Text). z.0) k), sym (ap (λ (z : A × Text). z.1) k))

pair_same : {A : Type 0} {x y : A} {s t : Text} → y ≡ x → t ≡ s → pair x s ≡ pair y t
pair_same e f = λ i. Some (sym e i, sym f i)

pub fail_exact : {A : Type 0} → Exact {A = A} fail Never
fail_exact = record { found = λ s r x e. none-some (x, r) e; only = λ s r x h. absurd h }

pub done_exact : {A : Type 0} (y : A) → Exact (done y) (Done y)
done_exact y = record { found = λ s r x e. same_pair e; only = λ s r x h. pair_same h.0 h.1 }

some_if : {X : Type 0} (b : Bool) (r : Option X) (x : X) → b ≡ true → r ≡ Some x → (if b then r else None) ≡ Some x
some_if true r x h e = e
some_if false r x h e = absurd (true_false (sym h))

pub done_if_exact : {A : Type 0} (b : Bool) (y : A) → Exact (done_if b y) (DoneIf (b ≡ true) y)
done_if_exact b y = record {
  found = λ s r x e. (let h = if_is b (Some (y, s)) (x, r) e in let k = same_pair h.1 in (h.0, k.0, k.1));
  only = λ s r x h. some_if b (Some (y, s)) (x, r) h.0 (pair_same h.1 h.2);
}

pub done_unless_exact : {A : Type 0} (b : Bool) (y : A) → Exact (done_if (not b) y) (DoneIf (b ≡ false) y)
done_unless_exact b y = record {
  found = λ s r x e. (let h = if_is (not b) (Some (y, s)) (x, r) e in let k = same_pair h.1 in (not-true b h.0, k.0, k.1));
  only = λ s r x h. some_if (not b) (Some (y, s)) (x, r) (not_from_false b h.0) (pair_same h.1 h.2);
}

module _ {A : Type 0} {p : Reader A} {P : Grammar Text A} (k : Exact p P) where
  pub when_exact : (b : Bool) → Exact (when b p) (When (b ≡ true) P)
  when_exact b = record {
    found = λ s r x e. (let h = if_is b (p s) (x, r) e in (h.0, k.found s r x h.1));
    only = λ s r x h. some_if b (p s) (x, r) h.0 (k.only s r x h.1);
  }

  pub mark_exact : (m : Mark) → Exact (after_mark m p) (After IsMark m P)
  mark_exact m = record {
    found = λ s r x e. (let g = given_some (after m s) p (x, r) e in (g.0, after_found m s g.0 g.1, k.found g.0 r x g.2));
    only = λ s r x h. rw (after_only m s h.0 h.1) (k.only h.0 r x h.2);
  }

  pub then_exact : {B : Type 0} {q : A → Reader B} {Q : A → Grammar Text B} → ((x : A) → Exact (q x) (Q x)) → Exact (and_then p q) (Then P Q)
  then_exact {q = q} j = record {
    found = λ s r y e.
        let g = given_some (p s) (λ x. q x.0 x.1) (y, r) e in
        (g.0.0, g.0.1, k.found s g.0.1 g.0.0 g.1, (j g.0.0).found g.0.1 r y g.2);
    only = λ s r y h. rw (k.only s h.1 h.0 h.2) ((j h.0).only h.1 r y h.3);
  }

  module _ {q : Reader A} {Q : Grammar Text A} (j : Exact q Q) (m : Mark) where
    either_found : (s r : Text) (x : A) (o : Option Text) → after m s ≡ o → either_from p q s o ≡ Some (x, r) → Either IsMark m P Q x s r
    either_found s r x None a e = inr (after_none m s a, j.found s r x e)
    either_found s r x (Some t) a e = inl (t, after_found m s t a, k.found t r x e)

    either_only : (s r : Text) (x : A) → Either IsMark m P Q x s r → either m p q s ≡ Some (x, r)
    either_only s r x h = elim h [
      | inl a ↦ rw (after_only m s a.0 a.1) (k.only a.0 r x a.2)
      | inr a ↦ rw (none_after m s a.0) (j.only s r x a.1)
    ]

    pub either_exact : Exact (either m p q) (Either IsMark m P Q)
    either_exact = record { found = λ s r x e. either_found s r x (after m s) refl e; only = either_only }

pub trailing_exact : {A : Type 0} {f : Lexeme → Reader A} {F : Lexeme → Grammar Text A} → ((l : Lexeme) → Exact (f l) (F l)) → Exact (trailing f) (Following F)
trailing_exact {f = f} k = record {
  found = λ s r x e.
      let g = given_some (next s) (λ t. f t.0 t.1) (x, r) e in
      (g.0.0, g.0.1, g.1, (k g.0.0).found g.0.1 r x g.2);
  only = λ s r x h. rw h.2 ((k h.0).only h.1 r x h.3);
}

-- ---- lists

module _ {A : Type 0} (close : Mark) {p : Reader A} {P : Grammar Text A} (k : Exact p P) where
  abbrev Rest : ℕ → List A → Grammar Text (List A)
  Rest headroom items ys mid new =
      (IsMark close mid new × (ys ≡ items)) ⊎ (Not IsMark close mid × (next : Text) × IsMark Comma mid next × IsMore IsMark close (λ before. P) headroom items ys next new)

  module _ (headroom : ℕ) (go : (items : List A) → Exact (more close p headroom items) (IsMore IsMark close (λ before. P) headroom items)) where
    rest_found : (items : List A) (s r : Text) (ys : List A) (o : Option Text) → after close s ≡ o → more_from close p (more close p headroom) items s o ≡ Some (ys, r) → Rest headroom items ys s r
    rest_found items s r ys None a e =
        let g = given_some (after Comma s) (more close p headroom items) (ys, r) e in
        inr (after_none close s a, g.0, after_found Comma s g.0 g.1, (go items).found g.0 r ys g.2)
    rest_found items s r ys (Some t) a e =
        let h = same_pair e in
        inl (subst (λ (u : Text). IsMark close s u) (sym h.1) (after_found close s t a), h.0)

    rest_only : (items : List A) (s r : Text) (ys : List A) → Rest headroom items ys s r → more_from close p (more close p headroom) items s (after close s) ≡ Some (ys, r)
    rest_only items s r ys h = elim h [
      | inl a ↦ rw (after_only close s r a.0) (pair_same a.1 refl)
      | inr a ↦ rw (none_after close s a.0, after_only Comma s a.1 a.2) ((go items).only a.1 r ys a.3)
    ]

  pub more_exact : (headroom : ℕ) (items : List A) → Exact (more close p headroom items) (IsMore IsMark close (λ before. P) headroom items)
  unfolding more IsMore
  more_exact zero items = record { found = λ s r x e. none-some (x, r) e; only = λ s r x h. absurd h }
  more_exact (suc headroom) items = record {
    found = λ s r ys e.
        let g = given_some (p s) (λ x. more_from close p (more close p headroom) (items ++ x.0 ∷ []) x.1 (after close x.1)) (ys, r) e in
        (g.0.0, g.0.1, k.found s g.0.1 g.0.0 g.1, rest_found headroom (more_exact headroom) (items ++ g.0.0 ∷ []) g.0.1 r ys (after close g.0.1) refl g.2);
    only = λ s r ys h. rw (k.only s h.1 h.0 h.2) (rest_only headroom (more_exact headroom) (items ++ h.0 ∷ []) h.1 r ys h.3);
  }

  pub listed_exact : (headroom : ℕ) → Exact (listed close p headroom) (IsList IsMark close (λ before. P) headroom)
  unfolding IsList
  listed_exact headroom = record {
    found = λ s r ys e. by s r ys (after close s) refl e;
    only = λ s r ys h. (elim h [
      | inl a ↦ rw (after_only close s r a.0) (pair_same a.1 refl)
      | inr a ↦ rw (none_after close s a.0) ((more_exact headroom []).only s r ys a.1)
    ]);
  }
    where
      by : (s r : Text) (ys : List A) (o : Option Text) → after close s ≡ o → either_from (done []) (more close p headroom []) s o ≡ Some (ys, r)
          → (IsMark close s r × (ys ≡ [])) ⊎ (Not IsMark close s × IsMore IsMark close (λ before. P) headroom [] ys s r)
      by s r ys None a e = inr (after_none close s a, (more_exact headroom []).found s r ys e)
      by s r ys (Some t) a e =
          let h = same_pair e in
          inl (subst (λ (u : Text). IsMark close s u) (sym h.1) (after_found close s t a), h.0)
