-- The keys and the removed keys of a dictionary after one key is set or removed.
use Rattle.std.proofs.Common.{◌≡◌, refl, ap, sym, ◌∙◌, ℕ, Bool, true, false, true≢false, cond, eqb, not, ◌&&◌, ◌||◌, ⊎_elim, List, [], ◌∷◌, Option, Some, None}
use Rattle.std.proofs.lemmas.Bool.{cases_Bool, eq-eqb, eqb-true, ne_eqb, cond-false}
use Rattle.std.proofs.lemmas.List.Elements.{recursion_from_All}
use Rattle.std.proofs.lemmas.List.Folds.{list_any-append}
use Rattle.std.specs.List.{AllByRecursion}
use Rattle.ir_event.specs.types.Things.{ContextModel, IsName, IsAttr}
use Rattle.ir_event.specs.types.Sound.{IsSound}
use Rattle.ir_event.specs.types.Terms.{name_term}
use Rattle.ir_event.proofs.of_types.Terms.{name_term_one}
use Rattle.ir_event.specs.trees.declared.place.Part.{Part}
use Rattle.ir_event.specs.trees.declared.place.Part.TheVariants.{Props, Attrs}
use Rattle.ir_event.specs.trees.Tree.{Op, op, head}
use Rattle.ir_event.specs.trees.Edits.{change_entry, drop_entry, entry_at, part_of, put_entry, same_key}
use Rattle.ir_event.specs.trees.Meaning.{IsSoundIn, key_before_in}
use Rattle.ir_event.proofs.of_tree_laws.Keys.{keys_ordered}
use Rattle.ir_event.proofs.of_tree_laws.Listed.{either, or_left, or_right}
use Rattle.ir_event.specs.store.Slots.{gone_after, has_key, is_gone, keep_gone}
use Rattle.ir_event.proofs.Nodes.{node_known}
use Rattle.ir_event.proofs.Undoing.{no_test}
use Rattle.ir_event.proofs.of_types.Truths.{or_false}

-- removed keys
keep_other : (k l : ℕ) → (l ≡ k → ⊥) → (ls : List ℕ) → is_gone l (keep_gone k ls) ≡ is_gone l ls
keep_other k l n [] = refl
keep_other k l n (m ∷ ls) = ⊎_elim
    (λ e. ap (λ b. is_gone l (cond b ls (m ∷ keep_gone k ls))) e ∙ ap (λ b. b || is_gone l ls) (sym (ne_eqb m l (λ z. n (sym z ∙ eqb-true m k e)))))
    (λ o. ap (λ b. is_gone l (cond b ls (m ∷ keep_gone k ls))) o ∙ ap (λ b. eqb m l || b) (keep_other k l n ls))
    (cases_Bool (eqb m k))

pub after_other : {A : Type 0} (k l : ℕ) (a : Option A) → (l ≡ k → ⊥) → (ls : List ℕ) → is_gone l (gone_after k a ls) ≡ is_gone l ls
after_other k l None n ls =
    list_any-append (λ m. eqb m l) ls (k ∷ []) ∙ ap (λ b. is_gone l ls || (b || false)) (ne_eqb k l (λ z. n (sym z))) ∙ or_false (is_gone l ls)
after_other k l (Some a) n ls = keep_other k l n ls

pub after_none : (k : ℕ) (ls : List ℕ) → is_gone k (gone_after {A = ℕ} k None ls) ≡ true
after_none k ls = list_any-append (λ m. eqb m k) ls (k ∷ []) ∙ or_right (is_gone k ls) (eqb k k || false) (or_left (eqb k k) false (eq-eqb k k refl))

pub has_put : (before : ℕ → ℕ → Bool) (k a : ℕ) (es : List (ℕ × ℕ)) → has_key k (put_entry before k a es) ≡ true
has_put before k a [] = or_left (eqb k k) false (eq-eqb k k refl)
has_put before k a (e ∷ es) = ⊎_elim
    (λ y. ap (λ b. has_key k (cond b ((k, a) ∷ e ∷ es) (cond (before e.0 k) (e ∷ put_entry before k a es) ((k, a) ∷ es)))) y ∙ or_left (eqb k k) _ (eq-eqb k k refl))
    (λ n. ap (λ b. has_key k (cond b ((k, a) ∷ e ∷ es) (cond (before e.0 k) (e ∷ put_entry before k a es) ((k, a) ∷ es)))) n ∙ ⊎_elim
    (λ y. ap (λ b. has_key k (cond b (e ∷ put_entry before k a es) ((k, a) ∷ es))) y ∙ or_right (eqb e.0 k) _ (has_put before k a es))
    (λ m. ap (λ b. has_key k (cond b (e ∷ put_entry before k a es) ((k, a) ∷ es))) m ∙ or_left (eqb k k) _ (eq-eqb k k refl))
    (cases_Bool (before e.0 k)))
    (cases_Bool (before k e.0))

module _ (c : ContextModel) (sound : IsSound c) (k : ℕ) (key : IsName c k) where
  abbrev Known : ℕ × ℕ → Type 0
  Known e = IsName c e.0 × IsAttr c e.1

  same_is : (l : ℕ) → IsName c l → key_before_in c k l ≡ false → key_before_in c l k ≡ false → k ≡ l
  same_is l n a b = name_term_one c k l sound key n (keys_ordered.exact (name_term c k) (name_term c l) a b)

  put_keeps : (a l : ℕ) (es : List (ℕ × ℕ)) → AllByRecursion Known es → has_key l es ≡ true → has_key l (put_entry (key_before_in c) k a es) ≡ true
  put_keeps a l [] all h = absurd (true≢false (sym h))
  put_keeps a l (e ∷ es) all h = ⊎_elim
      (λ y. ap (λ b. has_key l (cond b ((k, a) ∷ e ∷ es) (cond (key_before_in c e.0 k) (e ∷ put_entry (key_before_in c) k a es) ((k, a) ∷ es)))) y ∙ or_right (eqb k l) _ h)
      (λ n. ap (λ b. has_key l (cond b ((k, a) ∷ e ∷ es) (cond (key_before_in c e.0 k) (e ∷ put_entry (key_before_in c) k a es) ((k, a) ∷ es)))) n ∙ ⊎_elim
      (λ y. ap (λ b. has_key l (cond b (e ∷ put_entry (key_before_in c) k a es) ((k, a) ∷ es))) y
      ∙ ⊎_elim (λ p. or_left (eqb e.0 l) _ p) (λ q. or_right (eqb e.0 l) _ (put_keeps a l es all.1 q)) (either (eqb e.0 l) (has_key l es) h))
      (λ m. ap (λ b. has_key l (cond b (e ∷ put_entry (key_before_in c) k a es) ((k, a) ∷ es))) m ∙ ap (λ z. eqb z l || has_key l es) (same_is e.0 all.0.0 n m) ∙ h)
      (cases_Bool (key_before_in c e.0 k)))
      (cases_Bool (key_before_in c k e.0))

  drop_keeps : (l : ℕ) → (l ≡ k → ⊥) → (es : List (ℕ × ℕ)) → AllByRecursion Known es → has_key l es ≡ true → has_key l (drop_entry (key_before_in c) k es) ≡ true
  drop_keeps l other [] all h = absurd (true≢false (sym h))
  drop_keeps l other (e ∷ es) all h = ⊎_elim
      (λ y. ap (λ b. has_key l (cond b es (e ∷ drop_entry (key_before_in c) k es))) y ∙ (let t = no_test (key_before_in c k e.0) (key_before_in c e.0 k) y in
      let one : k ≡ e.0 = same_is e.0 all.0.0 t.0 t.1 in
      ⊎_elim (λ p. absurd (other (sym (eqb-true e.0 l p) ∙ sym one))) (λ q. q) (either (eqb e.0 l) (has_key l es) h)))
      (λ n. ap (λ b. has_key l (cond b es (e ∷ drop_entry (key_before_in c) k es))) n
      ∙ ⊎_elim (λ p. or_left (eqb e.0 l) _ p) (λ q. or_right (eqb e.0 l) _ (drop_keeps l other es all.1 q)) (either (eqb e.0 l) (has_key l es) h))
      (cases_Bool (same_key (key_before_in c) k e.0))

  change_keeps : (a : Option ℕ) (l : ℕ) → (l ≡ k → ⊥) → (es : List (ℕ × ℕ)) → AllByRecursion Known es → has_key l es ≡ true → has_key l (change_entry (key_before_in c) k a es) ≡ true
  change_keeps None l other es all h = drop_keeps l other es all h
  change_keeps (Some a) l other es all h = put_keeps a l es all h

  entry_key : (a : ℕ) (es : List (ℕ × ℕ)) → AllByRecursion Known es → entry_at (key_before_in c) k es ≡ Some a → has_key k es ≡ true
  entry_key a [] all e = absurd cc
  entry_key a (d ∷ es) all e = ⊎_elim
      (λ y. let t = no_test (key_before_in c k d.0) (key_before_in c d.0 k) y in or_left (eqb d.0 k) _ (eq-eqb d.0 k (sym (same_is d.0 all.0.0 t.0 t.1))))
      (λ n. or_right (eqb d.0 k) _ (entry_key a es all.1 (sym (cond-false (same_key (key_before_in c) k d.0) (Some d.1) (entry_at (key_before_in c) k es) n) ∙ e)))
      (cases_Bool (same_key (key_before_in c) k d.0))

  known_part : (part : Part) (o : Op) → IsSoundIn c o → AllByRecursion Known (part_of part (head o))
  known_part Props (op h rs) own = recursion_from_All _ h.properties (node_known c (op h rs) own).properties
  known_part Attrs (op h rs) own = recursion_from_All _ h.attributes (node_known c (op h rs) own).attributes

  pub part_keeps : (part : Part) (o : Op) → IsSoundIn c o → (a : Option ℕ) (l : ℕ) → (l ≡ k → ⊥) → has_key l (part_of part (head o)) ≡ true → has_key l (change_entry (key_before_in c) k a (part_of part (head o))) ≡ true
  part_keeps part o own a l other h = change_keeps a l other (part_of part (head o)) (known_part part o own) h

  pub part_key : (part : Part) (o : Op) → IsSoundIn c o → (a : ℕ) → entry_at (key_before_in c) k (part_of part (head o)) ≡ Some a → has_key k (part_of part (head o)) ≡ true
  part_key part o own a e = entry_key a (part_of part (head o)) (known_part part o own) e
