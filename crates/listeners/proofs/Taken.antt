-- The marking computes the least set.
use Rattle.std.proofs.Common.{◌≡◌, refl, ap, sym, ◌∙◌, subst, ℕ, eqb, eqb-true, List, [], ◌∷◌, ◌++◌, append_assoc, Option, Some, None, inl, inr, ◌⊎◌}
use Rattle.ir_event.specs.tree_laws.Members.{In}
use Rattle.ir_event.proofs.of_tree_laws.Listed.{bool_cases, in_left, in_right, in_parts}
use Rattle.listeners.specs.Reached.{IsReached, reached}
use Rattle.listeners.specs.Marking.{Left, Waits, IsDone, IsPending, Marks, Removed, Considered, Dropped, Waiting}

-- the least set is monotone in its conditions
pub reached_more : (P Q : ℕ → Type 0) (U V R S : ℕ → ℕ → Type 0) → ((x : ℕ) → P x → Q x) → ((y x : ℕ) → R y x → S y x) → ((y x : ℕ) → R y x → (p : ℕ) → Q p → V y p → P p × U y p) → (x : ℕ) → IsReached P U R x → IsReached Q V S x
reached_more P Q U V R S f g h x (reached y z i r guards) = reached y z (f z i) (g y z r) (λ p q v. let b = h y z r p q v in reached_more P Q U V R S f g h p (guards p b.0 b.1))

some_or : {X : Type 0} (o : Option X) → ((x : X) × (o ≡ Some x)) ⊎ (o ≡ None)
some_or None = inr refl
some_or (Some x) = inl (x, refl)

module _ (P : ℕ → Type 0) (U R : ℕ → ℕ → Type 0) where
  -- ---- marking a definition
  pub removed_none : (q : List (List ℕ)) (left : Left) → Removed P U R [] q left q left
  removed_none q left = record { shrinks = λ z e. e; gone = λ x h. absurd h; keeps = λ todo f m. m }

  pub removed_absent : (x : ℕ) (q : List (List ℕ)) (left : Left) → left x ≡ None → Removed P U R (x ∷ []) q left q left
  removed_absent x q left e = record {
    shrinks = λ z k. k;
    gone = λ z h. elim h [ inl i ↦ ap left i ∙ e | inr n ↦ absurd n ];
    keeps = λ todo f m. m;
  }

  dropped_shrinks : (x : ℕ) (left after : Left) → Dropped x left after → (z : ℕ) → left z ≡ None → after z ≡ None
  dropped_shrinks x left after d z e = elim (bool_cases (eqb x z)) [
    | inl same ↦ ap after (sym (eqb-true x z same)) ∙ d.gone
    | inr apart ↦ d.others z apart ∙ e
  ]

  pub removed_one : (x : ℕ) (ws : List ℕ) (q : List (List ℕ)) (left after : Left) → left x ≡ Some ws → Dropped x left after → Removed P U R (x ∷ []) q left (q ++ ws ∷ []) after
  removed_one x ws q left after is d = record {
    shrinks = shrinks;
    gone = λ z h. elim h [ inl i ↦ ap after i ∙ d.gone | inr n ↦ absurd n ];
    keeps = λ todo f m. record {
      sound = λ z p e. elim (bool_cases (eqb x z)) [
        | inl same ↦ (let i = eqb-true x z same in f z (inl (sym i)) p)
        | inr apart ↦ m.sound z p (sym (d.others z apart) ∙ e)
      ];
      only = λ z vs e. elim (bool_cases (eqb x z)) [
        | inl same ↦ (let i = eqb-true x z same in subst P i (m.only x ws is))
        | inr apart ↦ m.only z vs (sym (d.others z apart) ∙ e)
      ];
      placed = λ y. elim (m.placed y) [
        | inl a ↦ inl a
        | inr b ↦ elim b [
          | inl c ↦ inr (inl (c.0, in_left c.0 q (ws ∷ []) c.1, c.2))
          | inr g ↦ elim g [
            | inl w ↦ inr (waits y w)
            | inr k ↦ inr (inr (inr (λ z r. shrinks z (k z r))))
          ]
        ]
      ];
    };
  }
    where
      shrinks : (z : ℕ) → left z ≡ None → after z ≡ None
      shrinks = dropped_shrinks x left after d

      waits : (y : ℕ) → Waits P U R left y → (IsPending P U R (q ++ ws ∷ []) y ⊎ (Waits P U R after y ⊎ IsDone P U R after y))
      waits y w = elim (bool_cases (eqb x w.definition)) [
        | inl same ↦ (let i = eqb-true x w.definition same in
            let two : Some ws ≡ Some w.waiting = sym is ∙ ap left i ∙ w.is_left in
            let one : ws ≡ w.waiting = cc in
            inl (ws, in_right ws q (ws ∷ []) (inl refl), subst (In y) (sym one) w.is_in))
        | inr apart ↦ inr (inl (record { definition = w.definition; waiting = w.waiting; is_left = d.others w.definition apart ∙ w.is_left; is_in = w.is_in; under = w.under }))
      ]

  pub removed_more : (xs ys : List ℕ) (q r s : List (List ℕ)) (a b c : Left) → Removed P U R xs q a r b → Removed P U R ys r b s c → Removed P U R (xs ++ ys) q a s c
  removed_more xs ys q r s a b c f g = record {
    shrinks = λ z e. g.shrinks z (f.shrinks z e);
    gone = λ x h. elim (in_parts x xs ys h) [ inl k ↦ g.shrinks x (f.gone x k) | inr k ↦ g.gone x k ];
    keeps = λ todo h m. g.keeps todo (λ x k. h x (in_right x xs ys k)) (f.keeps todo (λ x k. h x (in_left x xs ys k)) m);
  }

  -- ---- visiting operations
  pub considered_none : (q : List (List ℕ)) (left : Left) → Considered P U R [] q left q left
  considered_none q left = record { shrinks = λ z e. e; keeps = λ todo m. m }

  pub considered_more : (ys zs : List ℕ) (q r s : List (List ℕ)) (a b c : Left) → Considered P U R ys q a r b → Considered P U R zs r b s c → Considered P U R (ys ++ zs) q a s c
  considered_more ys zs q r s a b c f g = record {
    shrinks = λ z e. g.shrinks z (f.shrinks z e);
    keeps = λ todo m. g.keeps todo (f.keeps (zs ++ todo) (subst (λ l. Marks P U R l q a) (append_assoc ys zs todo) m));
  }

  -- an operation inside an unmarked definition waits
  pub considered_waits : (y p : ℕ) (ws : List ℕ) (q : List (List ℕ)) (left after : Left) → U y p → Waiting y p ws left after → Considered P U R (y ∷ []) q left q after
  considered_waits y p ws q left after under w = record {
    shrinks = shrinks;
    keeps = λ todo m. record {
      sound = λ z i e. m.sound z i (back z e);
      only = λ z vs e. elim (bool_cases (eqb p z)) [
        | inl same ↦ subst P (eqb-true p z same) (m.only p ws w.was)
        | inr apart ↦ m.only z vs (sym (w.others z apart) ∙ e)
      ];
      placed = λ u. elim (m.placed u) [
        | inl a ↦ elim a [
          | inl i ↦ inr (inr (inl (record { definition = p; waiting = ws ++ y ∷ []; is_left = w.is; is_in = in_right u ws (y ∷ []) (inl i); under = subst (λ z. U z p) (sym i) under })))
          | inr h ↦ inl h
        ]
        | inr b ↦ elim b [
          | inl c ↦ inr (inl c)
          | inr g ↦ elim g [
            | inl v ↦ inr (inr (inl (waits u v)))
            | inr k ↦ inr (inr (inr (λ z r. shrinks z (k z r))))
          ]
        ]
      ];
    };
  }
    where
      shrinks : (z : ℕ) → left z ≡ None → after z ≡ None
      shrinks z e = elim (bool_cases (eqb p z)) [
        | inl same ↦ (let bad : None ≡ Some ws = sym e ∙ ap left (sym (eqb-true p z same)) ∙ w.was in absurd cc)
        | inr apart ↦ w.others z apart ∙ e
      ]

      back : (z : ℕ) → after z ≡ None → left z ≡ None
      back z e = elim (bool_cases (eqb p z)) [
        | inl same ↦ (let bad : None ≡ Some (ws ++ y ∷ []) = sym e ∙ ap after (sym (eqb-true p z same)) ∙ w.is in absurd cc)
        | inr apart ↦ sym (w.others z apart) ∙ e
      ]

      waits : (u : ℕ) → Waits P U R left u → Waits P U R after u
      waits u v = elim (bool_cases (eqb p v.definition)) [
        | inl same ↦ (let i = eqb-true p v.definition same in
            let two : Some ws ≡ Some v.waiting = sym w.was ∙ ap left i ∙ v.is_left in
            let one : ws ≡ v.waiting = cc in
            record { definition = p; waiting = ws ++ y ∷ []; is_left = w.is; is_in = in_left u ws (y ∷ []) (subst (In u) (sym one) v.is_in); under = subst (U u) (sym i) v.under })
        | inr apart ↦ record { definition = v.definition; waiting = v.waiting; is_left = w.others v.definition apart ∙ v.is_left; is_in = v.is_in; under = v.under }
      ]

  -- everything is marked that an operation reaches which is inside no unmarked definition
  pub considered_reaches : (y : ℕ) (xs : List ℕ) (q r : List (List ℕ)) (left after : Left) → ((p : ℕ) → U y p → left p ≡ None) → ((x : ℕ) → In x xs → R y x) → ((x : ℕ) → R y x → In x xs) → Removed P U R xs q left r after → Considered P U R (y ∷ []) q left r after
  considered_reaches y xs q r left after none some all d = record { shrinks = d.shrinks; keeps = λ todo m. done todo (d.keeps (y ∷ todo) (λ x h p. reached y x p (some x h) (λ g i u. m.sound g i (none g u))) m) }
    where
      done : (todo : List ℕ) → Marks P U R (y ∷ todo) r after → Marks P U R todo r after
      done todo n = record {
        sound = n.sound;
        only = n.only;
        placed = λ u. elim (n.placed u) [
          | inl a ↦ elim a [
            | inl i ↦ inr (inr (inr (λ z k. d.gone z (all z (subst (λ v. R v z) i k)))))
            | inr h ↦ inl h
          ]
          | inr b ↦ inr b
        ];
      }

  -- an operation that reaches nothing is done
  pub considered_nothing : (y : ℕ) (xs : List ℕ) (q : List (List ℕ)) (left : Left) → ((x : ℕ) → R y x → In x xs) → xs ≡ [] → Considered P U R (y ∷ []) q left q left
  considered_nothing y xs q left all none = record {
    shrinks = λ z e. e;
    keeps = λ todo m. record {
      sound = m.sound;
      only = m.only;
      placed = λ u. elim (m.placed u) [
        | inl a ↦ elim a [
          | inl i ↦ inr (inr (inr (λ z k. absurd (subst (In z) none (all z (subst (λ v. R v z) i k))))))
          | inr h ↦ inl h
        ]
        | inr b ↦ inr b
      ];
    };
  }

  -- the operations that waited for the last marked definition are visited next
  pub popped : (ws : List ℕ) (q : List (List ℕ)) (left : Left) → Marks P U R [] (q ++ ws ∷ []) left → Marks P U R (ws ++ []) q left
  popped ws q left m = record {
    sound = m.sound;
    only = m.only;
    placed = λ y. elim (m.placed y) [
      | inl a ↦ absurd a
      | inr b ↦ elim b [
        | inl c ↦ elim (in_parts c.0 q (ws ∷ []) c.1) [
          | inl h ↦ inr (inl (c.0, h, c.2))
          | inr h ↦ elim h [ inl i ↦ inl (in_left y ws [] (subst (In y) i c.2)) | inr n ↦ absurd n ]
        ]
        | inr g ↦ inr (inr g)
      ]
    ];
  }

  -- ---- the end
  pub marked_complete : (left : Left) → Marks P U R [] [] left → (x : ℕ) → IsReached P U R x → left x ≡ None
  marked_complete left m x (reached y z i r guards) = go (m.placed y) (λ p q u. marked_complete left m p (guards p q u))
    where
      go : In y [] ⊎ (IsPending P U R [] y ⊎ (Waits P U R left y ⊎ IsDone P U R left y)) → ((p : ℕ) → P p → U y p → left p ≡ None) → left z ≡ None
      go (inl a) f = absurd a
      go (inr (inl c)) f = absurd c.1
      go (inr (inr (inl w))) f = (let bad : None ≡ Some w.waiting = sym (f w.definition (m.only w.definition w.waiting w.is_left) w.under) ∙ w.is_left in absurd cc)
      go (inr (inr (inr k))) f = k z r
