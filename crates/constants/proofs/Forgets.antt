-- The first phase.
use Rattle.std.proofs.Common.{◌≡◌, ◌≢◌, ◌<◌, ◌≤◌, ◌+◌, ℕ, List, [], ◌∷◌, ◌++◌, length, get_or, drop, Option, Some, None, ◌⊎◌, inl, inr, refl, sym, ap, ◌∙◌, subst, arith, append_assoc, append-nil, length-append, add-one}
use Rattle.std.proofs.Math.Seq.{drop-cons}
use Rattle.std.proofs.Math.ListN.{drop_of_length-le}
use Rattle.std.proofs.lemmas.List.{drop-append-le}
use Rattle.ir_event.specs.tree_laws.Members.{In}
use Rattle.ir_event.proofs.of_tree_laws.Listed.{in_left, in_right, in_parts}
use Rattle.dialects_int.specs.Folds.{Known}
use Rattle.constants.specs.Facts.{Header, Facts, value, AreLocal, folded_if}
use Rattle.constants.specs.Walk.{with_fact}
use Rattle.constants.specs.Trails.{OnceEach, Uses, IsTrail}
use Rattle.constants.specs.Phases.{Forgotten, Forgetting, SameBut}
use Rattle.constants.proofs.Walks.{not_both, put_same, put_other}
use Rattle.constants.proofs.Knowing.{value_uses, value_less}
use Prim.Native.Nat.{zero, suc}
use Rattle.ir_event.proofs.of_tree_laws.Facts.{in_or_not}

pub once_append : (xs ys : List ℕ) → OnceEach xs → OnceEach ys → ((y : ℕ) → In y xs → In y ys → ⊥) → OnceEach (xs ++ ys)
once_append [] ys a b apart = b
once_append (x ∷ xs) ys a b apart = (
  λ h. elim (in_parts x xs ys h) [ inl g ↦ a.0 g | inr g ↦ apart x (inl refl) g ],
  once_append xs ys a.1 b (λ y h g. apart y (inr h) g),
)

pub in_one : (y x : ℕ) → In y (x ∷ []) → y ≡ x
in_one y x h = elim h [ inl e ↦ e | inr h2 ↦ absurd h2 ]

-- the item at an index is in the list
pub in_read : (xs : List ℕ) (i x : ℕ) → i < length xs → x ≡ get_or xs i x → In x xs
in_read [] i x lt e = absurd (omega (arith, lt))
in_read (y ∷ ys) zero x lt e = inl e
in_read (y ∷ ys) (suc i) x lt e = inr (in_read ys i x (omega (arith, lt)) e)

pub forgot_unknown : (D : Type 0) (x : ℕ) (t : Facts) (trail : List ℕ) → t x ≡ None → Forgotten D (λ y. y ≡ x) t t trail trail
forgot_unknown D x t trail e = record {
  more = [];
  is = sym (append-nil trail);
  once = tt;
  only = λ y h. absurd h;
  was = λ y h. absurd h;
  gone = λ y h. absurd h;
  kept = λ y out. refl;
  all = λ d y h. ap t h ∙ e;
}

pub forgot_none : (D : Type 0) (P : ℕ → Type 0) (t : Facts) (trail : List ℕ) → (D → ⊥) → Forgotten D P t t trail trail
forgot_none D P t trail not_done = record {
  more = [];
  is = sym (append-nil trail);
  once = tt;
  only = λ y h. absurd h;
  was = λ y h. absurd h;
  gone = λ y h. absurd h;
  kept = λ y out. refl;
  all = λ d. absurd (not_done d);
}

pub forgot_nobody : (D : Type 0) (t : Facts) (trail : List ℕ) → Forgotten D (λ y. In y []) t t trail trail
forgot_nobody D t trail = record {
  more = [];
  is = sym (append-nil trail);
  once = tt;
  only = λ y h. absurd h;
  was = λ y h. absurd h;
  gone = λ y h. absurd h;
  kept = λ y out. refl;
  all = λ d y h. absurd h;
}

pub forgot_known : (D : Type 0) (x : ℕ) (v : Known) (old new : Facts) (trail longer : List ℕ) → old x ≡ Some v → ((y : ℕ) → new y ≡ with_fact x None old y) → longer ≡ trail ++ x ∷ [] → Forgotten D (λ y. y ≡ x) old new trail longer
forgot_known D x v old new trail longer e is longer_is =
    let gone : new x ≡ None = is x ∙ put_same x None old in
    record {
      more = x ∷ [];
      is = longer_is;
      once = (λ h. h, tt);
      only = λ y h. in_one y x h;
      was = λ y h. (v, ap old (in_one y x h) ∙ e);
      gone = λ y h. ap new (in_one y x h) ∙ gone;
      kept = λ y out. is y ∙ put_other x y None old (λ q. out (inl q));
      all = λ d y h. ap new h ∙ gone;
    }

pub forgot_more : (D E F : Type 0) (P Q R : ℕ → Type 0) (a b c : Facts) (l m n : List ℕ) → D → (F → E) → ((y : ℕ) → P y → R y) → ((y : ℕ) → Q y → R y) → (F → (y : ℕ) → R y → P y ⊎ Q y)
    → Forgotten D P a b l m → Forgotten E Q b c m n → Forgotten F R a c l n
forgot_more D E F P Q R a b c l m n d le p q r f g = record {
  more = f.more ++ g.more;
  is = g.is ∙ ap (λ z. z ++ g.more) f.is ∙ append_assoc l f.more g.more;
  once = once_append f.more g.more f.once g.once (λ z h k. let w = g.was z k in not_both (b z) w.0 (f.gone z h) w.1);
  only = λ z h. elim (in_parts z f.more g.more h) [ inl k ↦ p z (f.only z k) | inr k ↦ q z (g.only z k) ];
  was = λ z h. elim (in_parts z f.more g.more h) [
    | inl k ↦ f.was z k
    | inr k ↦ (let w = g.was z k in elim (in_or_not z f.more) [ inl i ↦ absurd (not_both (b z) w.0 (f.gone z i) w.1) | inr out ↦ (w.0, sym (f.kept z out) ∙ w.1) ])
  ];
  gone = λ z h. elim (in_or_not z g.more) [
    | inl k ↦ g.gone z k
    | inr out ↦ g.kept z out ∙ f.gone z (elim (in_parts z f.more g.more h) [ inl k ↦ k | inr k ↦ absurd (out k) ])
  ];
  kept = λ z out. g.kept z (λ k. out (in_right z f.more g.more k)) ∙ f.kept z (λ k. out (in_left z f.more g.more k));
  all = λ h z i. elim (r h z i) [
    | inl k ↦ elim (in_or_not z g.more) [ inl j ↦ g.gone z j | inr out ↦ g.kept z out ∙ f.all d z k ]
    | inr k ↦ g.all (le h) z k
  ];
}

pub forgot_as : (D : Type 0) (P Q : ℕ → Type 0) (a b : Facts) (l m : List ℕ) → ((y : ℕ) → P y → Q y) → ((y : ℕ) → Q y → P y) → Forgotten D P a b l m → Forgotten D Q a b l m
forgot_as D P Q a b l m p q f = record {
  more = f.more;
  is = f.is;
  once = f.once;
  only = λ y h. p y (f.only y h);
  was = f.was;
  gone = f.gone;
  kept = f.kept;
  all = λ d y h. f.all d y (q y h);
}

pub forgot_below : (D : Type 0) (P : ℕ → Type 0) (old new : Facts) (l m : List ℕ) → Forgotten D P old new l m → (y : ℕ) (v : Known) → new y ≡ Some v → old y ≡ Some v
forgot_below D P old new l m f y v k = elim (in_or_not y f.more) [ inl h ↦ absurd (not_both (new y) v (f.gone y h) k) | inr out ↦ sym (f.kept y out) ∙ k ]

module _ (ops : ℕ → Option Header) where
  -- an operation none of whose operands was forgotten has the same fold
  forgot_value : (D : Type 0) (P : ℕ → Type 0) (old new : Facts) (l m : List ℕ) (f : Forgotten D P old new l m) → (y : ℕ) → ((d : ℕ) → In d f.more → Uses ops d y → ⊥) → value ops new y ≡ value ops old y
  forgot_value D P old new l m f y far = value_uses ops new old y (λ d u. f.kept d (λ h. far d h u))

  forgetting_start : (D : Type 0) (was : ℕ → Option Header) (x : ℕ) (old new : Facts) (l trail : List ℕ) → D → l ≡ [] → SameBut x was ops → AreLocal was old → Forgotten D (λ y. y ≡ x) old new l trail → Forgetting ops x new trail trail
  forgetting_start D was x old new l trail d empty same local f =
      let is : trail ≡ f.more = f.is ∙ ap (λ r. r ++ f.more) empty in
      let agreed : (y : ℕ) → y ≢ x → value ops old y ≡ old y = λ y ne. ap (λ o. folded_if o old) (same y ne) ∙ sym (local y) in
      record {
        known = λ y v k far.
            let ne : y ≢ x = λ e. not_both (new y) v (f.all d y e) k in
            forgot_value D (λ y. y ≡ x) old new l trail f y (λ e h. far e (subst (In e) (sym is) h)) ∙ agreed y ne ∙ forgot_below D (λ y. y ≡ x) old new l trail f y v k;
        unknown = λ y k ne out.
            value_less ops new old y (forgot_below D (λ y. y ≡ x) old new l trail f) (agreed y ne ∙ sym (f.kept y (λ h. ne (f.only y h))) ∙ k);
      }

  forgetting_more : (D : Type 0) (x e : ℕ) (old new : Facts) (trail longer rest : List ℕ) → D → Forgetting ops x old trail (e ∷ rest) → (f : Forgotten D (Uses ops e) old new trail longer) → Forgetting ops x new longer (rest ++ f.more)
  forgetting_more D x e old new trail longer rest d b f = record {
    known = λ y v k far.
        let past : Uses ops e y → ⊥ = λ h. not_both (new y) v (f.all d y h) k in
        let there : (In y f.more → ⊥) = λ h. not_both (new y) v (f.gone y h) k in
        forgot_value D (Uses ops e) old new trail longer f y (λ z h. far z (in_right z rest f.more h))
        ∙ b.known y v (sym (f.kept y there) ∙ k) (λ z h u. elim h [
          | inl eq ↦ past (subst (λ w. Uses ops w y) eq u)
          | inr g ↦ far z (in_left z rest f.more g) u
        ]);
    unknown = λ y k ne out.
        let not_more : In y f.more → ⊥ = λ h. out (subst (In y) (sym f.is) (in_right y trail f.more h)) in
        let was : old y ≡ None = sym (f.kept y not_more) ∙ k in
        value_less ops new old y (forgot_below D (Uses ops e) old new trail longer f) (b.unknown y was ne (λ h. out (subst (In y) (sym f.is) (in_left y trail f.more h))));
  }

  -- the trail of the loop: from `start` on, the users of the first `next` operations of the trail were forgotten
  pub record ForgettingFrom (x : ℕ) (start table : Facts) (trail : List ℕ) (next : ℕ) : Type 0 where
    pub within : next ≤ length trail
    pub path : IsTrail ops (λ y. y ≡ x) start trail
    pub gone : (y : ℕ) → In y trail → table y ≡ None
    pub below : (y : ℕ) (v : Known) → table y ≡ Some v → start y ≡ Some v
    pub kept : (was : ℕ → Option Header) → SameBut x was ops → AreLocal was start → Forgetting ops x table trail (drop next trail)

  -- the trail at the start
  pub trail_start : (D : Type 0) (x : ℕ) (start table : Facts) (l trail : List ℕ) → l ≡ [] → Forgotten D (λ y. y ≡ x) start table l trail → IsTrail ops (λ y. y ≡ x) start trail
  trail_start D x start table l trail empty f =
      let is : trail ≡ f.more = f.is ∙ ap (λ r. r ++ f.more) empty in
      subst (IsTrail ops (λ y. y ≡ x) start) (sym is) (record { once = f.once; known = f.was; reached = λ r first users y h. first y (f.only y h) })

  pub trail_more : (D : Type 0) (x e : ℕ) (start old new : Facts) (trail longer : List ℕ) → In e trail → ((y : ℕ) → In y trail → old y ≡ None) → ((y : ℕ) (v : Known) → old y ≡ Some v → start y ≡ Some v)
      → IsTrail ops (λ y. y ≡ x) start trail → Forgotten D (Uses ops e) old new trail longer → IsTrail ops (λ y. y ≡ x) start longer
  trail_more D x e start old new trail longer here gone below path f = subst (IsTrail ops (λ y. y ≡ x) start) (sym f.is) (record {
    once = once_append trail f.more path.once f.once (λ y h k. let w = f.was y k in not_both (old y) w.0 (gone y h) w.1);
    known = λ y h. elim (in_parts y trail f.more h) [ inl k ↦ path.known y k | inr k ↦ (let w = f.was y k in (w.0, below y w.0 w.1)) ];
    reached = λ r first users y h. elim (in_parts y trail f.more h) [
      | inl k ↦ path.reached r first users y k
      | inr k ↦ users e y (path.reached r first users e here) (path.known e here) (f.only y k)
    ];
  })

  pub forgetting_from_start : (D : Type 0) (x : ℕ) (start table : Facts) (l trail : List ℕ) → D → l ≡ [] → Forgotten D (λ y. y ≡ x) start table l trail → ForgettingFrom x start table trail 0
  forgetting_from_start D x start table l trail d empty f =
      let is : trail ≡ f.more = f.is ∙ ap (λ r. r ++ f.more) empty in
      record {
        within = omega arith;
        path = trail_start D x start table l trail empty f;
        gone = λ y h. f.gone y (subst (In y) is h);
        below = forgot_below D (λ y. y ≡ x) start table l trail f;
        kept = λ was same local. forgetting_start D was x start table l trail d empty same local f;
      }

  pub forgetting_from_more : (D : Type 0) (x e : ℕ) (start old new : Facts) (trail longer : List ℕ) (next : ℕ) → D → next < length trail → e ≡ get_or trail next e
      → ForgettingFrom x start old trail next → Forgotten D (Uses ops e) old new trail longer → ForgettingFrom x start new longer (next + 1)
  forgetting_from_more D x e start old new trail longer next d lt is b f =
      let within = b.within in
      let size : length longer ≡ length trail + length f.more = ap length f.is ∙ length-append trail f.more in
      record {
        within = omega (arith, lt, size);
        path = trail_more D x e start old new trail longer (in_read trail next e lt is) b.gone b.below b.path f;
        gone = λ y h. elim (in_or_not y f.more) [
          | inl k ↦ f.gone y k
          | inr out ↦ f.kept y out ∙ b.gone y (elim (in_parts y trail f.more (subst (In y) f.is h)) [ inl k ↦ k | inr k ↦ absurd (out k) ])
        ];
        below = λ y v k. b.below y v (forgot_below D (Uses ops e) old new trail longer f y v k);
        kept = λ was same local.
            let here : drop next trail ≡ e ∷ drop (next + 1) trail = rw (add-one) (rw (← is) at (drop-cons trail next e lt)) in
            let rest : drop (next + 1) longer ≡ drop (next + 1) trail ++ f.more = ap (drop (next + 1)) f.is ∙ drop-append-le (next + 1) trail f.more (omega (arith, lt)) in
            subst (Forgetting ops x new longer) (sym rest) (forgetting_more D x e old new trail longer (drop (next + 1) trail) d (subst (Forgetting ops x old trail) here (b.kept was same local)) f);
      }

  pub forgetting_from_end : (x : ℕ) (start table : Facts) (trail : List ℕ) (next : ℕ) → length trail ≤ next → ForgettingFrom x start table trail next
      → (was : ℕ → Option Header) → SameBut x was ops → AreLocal was start → Forgetting ops x table trail []
  forgetting_from_end x start table trail next le b was same local = subst (Forgetting ops x table trail) (drop_of_length-le trail le) (b.kept was same local)
