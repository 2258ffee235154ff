-- The second phase.
use Rattle.std.proofs.Common.{◌≡◌, ◌<◌, ◌≤◌, ◌+◌, ℕ, true, List, [], ◌∷◌, ◌++◌, length, get_or, drop, Option, Some, None, ◌⊎◌, inl, inr, refl, sym, ap, ◌∙◌, subst, arith, append_assoc, append-nil, length-append, add-one}
use Rattle.std.proofs.Math.Seq.{drop-cons}
use Rattle.std.proofs.Math.ListN.{drop_of_length-le}
use Rattle.std.proofs.lemmas.List.{drop-append-le}
use Rattle.std.proofs.lemmas.Bool.{cases_eq}
use Rattle.ir_event.specs.tree_laws.Members.{In}
use Rattle.ir_event.proofs.of_tree_laws.Listed.{in_left, in_right, in_parts}
use Rattle.dialects_int.specs.Folds.{Known}
use Rattle.constants.specs.Facts.{Header, Facts, value, AreLocal}
use Rattle.constants.specs.Walk.{with_fact}
use Rattle.constants.specs.Trails.{Uses, IsKnown, Follows, IsTrail}
use Rattle.constants.specs.Phases.{Forgetting, Noted, Learnt, Learning}
use Rattle.constants.proofs.Walks.{some_or_none, not_both, none_if_not, put_same, put_other}
use Rattle.constants.proofs.Knowing.{value_uses, value_more}
use Rattle.constants.proofs.Forgets.{once_append, in_one, in_read}
use Rattle.ir_event.proofs.of_tree_laws.Facts.{in_or_not}

module _ (ops : ℕ → Option Header) where
  -- nothing was learned
  pub learnt_nothing : (D : Type 0) (P : ℕ → Type 0) (t : Facts) (trail : List ℕ) → (D → (y : ℕ) → P y → t y ≡ None → value ops t y ≡ None) → Learnt D ops P t t trail trail
  learnt_nothing D P t trail settled = record {
    more = [];
    is = sym (append-nil trail);
    once = tt;
    only = λ y h. absurd h;
    was = λ y h. absurd h;
    now = λ y h. absurd h;
    grows = λ y v h. h;
    sound = λ h. h;
    kept = λ d y out. refl;
    settled = λ d y h k far. settled d y h k;
  }

  grown : (x : ℕ) (v : Known) (old new : Facts) → old x ≡ None → ((y : ℕ) → new y ≡ with_fact x (Some v) old y) → (y : ℕ) (w : Known) → old y ≡ Some w → new y ≡ Some w
  grown x v old new none is y w k = elim (cases_eq y x) [
    | inl e ↦ absurd (not_both (old x) w none (sym (ap old e) ∙ k))
    | inr ne ↦ is y ∙ put_other x y (Some v) old ne ∙ k
  ]

  sound_written : (x : ℕ) (v : Known) (old new : Facts) → old x ≡ None → value ops old x ≡ Some v → ((y : ℕ) → new y ≡ with_fact x (Some v) old y) → Follows ops old → Follows ops new
  sound_written x v old new none gives is f y w k = elim (cases_eq y x) [
    | inl e ↦ ap (value ops new) e ∙ value_more ops old new x v (grown x v old new none is) gives ∙ sym (is x ∙ put_same x (Some v) old) ∙ ap new (sym e) ∙ k
    | inr ne ↦ value_more ops old new y w (grown x v old new none is) (f y w (sym (is y ∙ put_other x y (Some v) old ne) ∙ k))
  ]

  -- an operation whose value was written, or not
  pub learnt_noted : (D : Type 0) (x : ℕ) (v : Known) (old new : Facts) (trail longer : List ℕ) → old x ≡ None → value ops old x ≡ Some v → Noted D x v old new trail longer → Learnt D ops (λ y. y ≡ x) old new trail longer
  learnt_noted D x v old new trail longer none gives (inl (is, longer_is)) =
      let here : new x ≡ Some v = is x ∙ put_same x (Some v) old in
      record {
        more = x ∷ [];
        is = longer_is;
        once = (λ h. h, tt);
        only = λ y h. in_one y x h;
        was = λ y h. ap old (in_one y x h) ∙ none;
        now = λ y h. (v, ap new (in_one y x h) ∙ here);
        grows = grown x v old new none is;
        sound = sound_written x v old new none gives is;
        kept = λ d y out. is y ∙ put_other x y (Some v) old (λ e. out (inl e));
        settled = λ d y h k far. absurd (not_both (new y) v k (ap new h ∙ here));
      }
  learnt_noted D x v old new trail longer none gives (inr (not_done, longer_is, inl is)) = record {
    more = [];
    is = longer_is ∙ sym (append-nil trail);
    once = tt;
    only = λ y h. absurd h;
    was = λ y h. absurd h;
    now = λ y h. absurd h;
    grows = grown x v old new none is;
    sound = sound_written x v old new none gives is;
    kept = λ d. absurd (not_done d);
    settled = λ d. absurd (not_done d);
  }
  learnt_noted D x v old new trail longer none gives (inr (not_done, longer_is, inr is)) = record {
    more = [];
    is = longer_is ∙ sym (append-nil trail);
    once = tt;
    only = λ y h. absurd h;
    was = λ y h. absurd h;
    now = λ y h. absurd h;
    grows = λ y w k. is y ∙ k;
    sound = λ f. subst (Follows ops) (λ i y. sym (is y) i) f;
    kept = λ d. absurd (not_done d);
    settled = λ d. absurd (not_done d);
  }

  learnt_was : (D : Type 0) (P : ℕ → Type 0) (old new : Facts) (l m : List ℕ) (f : Learnt D ops P old new l m) → (y : ℕ) → new y ≡ None → old y ≡ None
  learnt_was D P old new l m f y k = none_if_not (old y) (λ w e. not_both (new y) w k (f.grows y w e))

  -- an operation none of whose operands was learned has the same fold
  learnt_value : (D : Type 0) (P : ℕ → Type 0) (old new : Facts) (l m : List ℕ) (f : Learnt D ops P old new l m) → D → (y : ℕ) → ((d : ℕ) → In d f.more → Uses ops d y → ⊥) → value ops new y ≡ value ops old y
  learnt_value D P old new l m f d y far = value_uses ops new old y (λ e u. f.kept d e (λ h. far e h u))

  pub learnt_more : (D E F : Type 0) (P Q R : ℕ → Type 0) (a b c : Facts) (l m n : List ℕ) → D → (F → E) → ((y : ℕ) → P y → R y) → ((y : ℕ) → Q y → R y) → (F → (y : ℕ) → R y → P y ⊎ Q y)
      → Learnt D ops P a b l m → Learnt E ops Q b c m n → Learnt F ops R a c l n
  learnt_more D E F P Q R a b c l m n d le p q r f g = record {
    more = f.more ++ g.more;
    is = g.is ∙ ap (λ z. z ++ g.more) f.is ∙ append_assoc l f.more g.more;
    once = once_append f.more g.more f.once g.once (λ z h k. let w = f.now z h in not_both (b z) w.0 (g.was z k) w.1);
    only = λ z h. elim (in_parts z f.more g.more h) [ inl k ↦ p z (f.only z k) | inr k ↦ q z (g.only z k) ];
    was = λ z h. elim (in_parts z f.more g.more h) [ inl k ↦ f.was z k | inr k ↦ learnt_was D P a b l m f z (g.was z k) ];
    now = λ z h. elim (in_parts z f.more g.more h) [ inl k ↦ (let w = f.now z k in (w.0, g.grows z w.0 w.1)) | inr k ↦ g.now z k ];
    grows = λ y v h. g.grows y v (f.grows y v h);
    sound = λ h. g.sound (f.sound h);
    kept = λ h y out. g.kept (le h) y (λ k. out (in_right y f.more g.more k)) ∙ f.kept d y (λ k. out (in_left y f.more g.more k));
    settled = λ h z i k far. elim (r h z i) [
      | inl j ↦ learnt_value E Q b c m n g (le h) z (λ e s. far e (in_right e f.more g.more s))
          ∙ f.settled d z j (learnt_was E Q b c m n g z k) (λ e s. far e (in_left e f.more g.more s))
      | inr j ↦ g.settled (le h) z j k (λ e s. far e (in_right e f.more g.more s))
    ];
  }

  pub learnt_as : (D : Type 0) (P Q : ℕ → Type 0) (a b : Facts) (l m : List ℕ) → ((y : ℕ) → P y → Q y) → ((y : ℕ) → Q y → P y) → Learnt D ops P a b l m → Learnt D ops Q a b l m
  learnt_as D P Q a b l m p q f = record {
    more = f.more;
    is = f.is;
    once = f.once;
    only = λ y h. p y (f.only y h);
    was = f.was;
    now = f.now;
    grows = f.grows;
    sound = f.sound;
    kept = f.kept;
    settled = λ d y h. f.settled d y (q y h);
  }

  learning_start : (D : Type 0) (x : ℕ) (old new : Facts) (forgotten l trail : List ℕ) → D → l ≡ [] → Forgetting ops x old forgotten [] → Learnt D ops (λ y. (y ≡ x) ⊎ In y forgotten) old new l trail → Learning ops new trail
  learning_start D x old new forgotten l trail d empty from f =
      let is : trail ≡ f.more = f.is ∙ ap (λ r. r ++ f.more) empty in
      let P : ℕ → Type 0 = λ y. (y ≡ x) ⊎ In y forgotten in
      record {
        known = f.sound (λ y v k. from.known y v k (λ e h u. h));
        unknown = λ y k far.
            let far2 : (e : ℕ) → In e f.more → Uses ops e y → ⊥ = λ e h. far e (subst (In e) (sym is) h) in
            let other : (y ≡ x → ⊥) → (In y forgotten → ⊥) → value ops new y ≡ None = λ ne out.
            learnt_value D P old new l trail f d y far2 ∙ from.unknown y (learnt_was D P old new l trail f y k) ne out in
            elim (cases_eq y x) [
              | inl e ↦ f.settled d y (inl e) k far2
              | inr ne ↦ elim (in_or_not y forgotten) [ inl h ↦ f.settled d y (inr h) k far2 | inr out ↦ other ne out ]
            ];
      }

  learning_more : (D : Type 0) (e : ℕ) (old new : Facts) (trail longer rest : List ℕ) → D → Learning ops old (e ∷ rest) → (f : Learnt D ops (Uses ops e) old new trail longer) → Learning ops new (rest ++ f.more)
  learning_more D e old new trail longer rest d b f = record {
    known = f.sound b.known;
    unknown = λ y k far.
        let far2 : (z : ℕ) → In z f.more → Uses ops z y → ⊥ = λ z h. far z (in_right z rest f.more h) in
        none_if_not (value ops new y) (λ v gives.
        let past : Uses ops e y → ⊥ = λ u. not_both (value ops new y) v (f.settled d y u k far2) gives in
        not_both (value ops new y) v
        (learnt_value D (Uses ops e) old new trail longer f d y far2 ∙ b.unknown y (learnt_was D (Uses ops e) old new trail longer f y k) (λ z h u. elim h [
          | inl eq ↦ past (subst (λ w. Uses ops w y) eq u)
          | inr g ↦ far z (in_left z rest f.more g) u
        ]))
        gives);
  }

  -- no operand is left to follow
  learning_end : (t : Facts) → Learning ops t [] → AreLocal ops t
  learning_end t b y = elim (some_or_none (t y)) [
    | inl e ↦ e ∙ sym (b.unknown y e (λ d h u. h))
    | inr e ↦ e.1 ∙ sym (b.known y e.0 e.1)
  ]

  -- from `start` on, x and the forgotten operations were folded, and so were the users of the first `next` operations
  -- of the trail
  pub record LearningFrom (x : ℕ) (forgotten : List ℕ) (start table : Facts) (trail : List ℕ) (next : ℕ) : Type 0 where
    pub within : next ≤ length trail
    pub path : IsTrail ops (λ y. (y ≡ x) ⊎ In y forgotten) table trail
    pub sound : Follows ops start → Follows ops table
    pub kept : Forgetting ops x start forgotten [] → Learning ops table (drop next trail)

  pub learnt_trail_start : (D : Type 0) (P : ℕ → Type 0) (start table : Facts) (l trail : List ℕ) → l ≡ [] → Learnt D ops P start table l trail → IsTrail ops P table trail
  learnt_trail_start D P start table l trail empty f =
      let is : trail ≡ f.more = f.is ∙ ap (λ r. r ++ f.more) empty in
      subst (IsTrail ops P table) (sym is) (record { once = f.once; known = f.now; reached = λ r first users y h. first y (f.only y h) })

  pub learnt_trail_more : (D : Type 0) (P : ℕ → Type 0) (e : ℕ) (old new : Facts) (trail longer : List ℕ) → In e trail → IsTrail ops P old trail → Learnt D ops (Uses ops e) old new trail longer → IsTrail ops P new longer
  learnt_trail_more D P e old new trail longer here path f = subst (IsTrail ops P new) (sym f.is) (record {
    once = once_append trail f.more path.once f.once (λ y h k. let w = path.known y h in not_both (old y) w.0 (f.was y k) w.1);
    known = λ y h. elim (in_parts y trail f.more h) [ inl k ↦ (let w = path.known y k in (w.0, f.grows y w.0 w.1)) | inr k ↦ f.now y k ];
    reached = λ r first users y h.
        let earlier : (d z : ℕ) → r d ≡ true → IsKnown old d → Uses ops d z → r z ≡ true = λ d z a k u. users d z a (k.0, f.grows d k.0 k.1) u in
        elim (in_parts y trail f.more h) [
          | inl k ↦ path.reached r first earlier y k
          | inr k ↦ earlier e y (path.reached r first earlier e here) (path.known e here) (f.only y k)
        ];
  })

  pub learning_from_start : (D : Type 0) (x : ℕ) (forgotten : List ℕ) (start table : Facts) (l trail : List ℕ) → D → l ≡ [] → Learnt D ops (λ y. (y ≡ x) ⊎ In y forgotten) start table l trail → LearningFrom x forgotten start table trail 0
  learning_from_start D x forgotten start table l trail d empty f = record {
    within = omega arith;
    path = learnt_trail_start D (λ y. (y ≡ x) ⊎ In y forgotten) start table l trail empty f;
    sound = f.sound;
    kept = λ from. learning_start D x start table forgotten l trail d empty from f;
  }

  pub learning_from_more : (D : Type 0) (x e : ℕ) (forgotten : List ℕ) (start old new : Facts) (trail longer : List ℕ) (next : ℕ) → D → next < length trail → e ≡ get_or trail next e
      → LearningFrom x forgotten start old trail next → Learnt D ops (Uses ops e) old new trail longer → LearningFrom x forgotten start new longer (next + 1)
  learning_from_more D x e forgotten start old new trail longer next d lt is b f =
      let size : length longer ≡ length trail + length f.more = ap length f.is ∙ length-append trail f.more in
      record {
        within = omega (arith, lt, size);
        path = learnt_trail_more D (λ y. (y ≡ x) ⊎ In y forgotten) e old new trail longer (in_read trail next e lt is) b.path f;
        sound = λ h. f.sound (b.sound h);
        kept = λ from.
            let here : drop next trail ≡ e ∷ drop (next + 1) trail = rw (add-one) (rw (← is) at (drop-cons trail next e lt)) in
            let rest : drop (next + 1) longer ≡ drop (next + 1) trail ++ f.more = ap (drop (next + 1)) f.is ∙ drop-append-le (next + 1) trail f.more (omega (arith, lt)) in
            subst (Learning ops new) (sym rest) (learning_more D e old new trail longer (drop (next + 1) trail) d (subst (Learning ops old) here (b.kept from)) f);
      }

  pub learning_from_end : (x : ℕ) (forgotten : List ℕ) (start table : Facts) (trail : List ℕ) (next : ℕ) → length trail ≤ next → LearningFrom x forgotten start table trail next → Forgetting ops x start forgotten [] → AreLocal ops table
  learning_from_end x forgotten start table trail next le b from = learning_end table (subst (Learning ops table) (drop_of_length-le trail le) (b.kept from))
