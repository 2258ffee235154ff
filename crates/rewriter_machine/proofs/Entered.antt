-- Slots of removed keys after an operand or an entry is set.
use Rattle.std.proofs.Common.{◌≡◌, refl, ap, sym, ◌∙◌, subst, ℕ, ◌<◌, Bool, true, false, true≢false, cond, eqb, ⊎_elim, ◌⊎◌, inl, inr, Option, Some, None, List}
use Rattle.std.proofs.lemmas.Bool.{cases_eq, eq-eqb, ne_eqb}
use Rattle.std.specs.Prelude.{option_map, is_some}
use Rattle.std.specs.List.{list_any}
use Rattle.std.specs.FinMap as finmap
use Rattle.ir_event.specs.types.Things.{ContextModel, IsName}
use Rattle.ir_event.specs.types.Sound.{IsSound}
use Rattle.ir_event.specs.trees.declared.value.Value.{Value}
use Rattle.ir_event.specs.trees.declared.place.Part.{Part}
use Rattle.ir_event.specs.trees.declared.place.Part.TheVariants.{Props, Attrs}
use Rattle.ir_event.specs.trees.Tree.{Head, Op, op, head}
use Rattle.ir_event.specs.trees.Ids.{find, first_of, has_id}
use Rattle.ir_event.specs.trees.Edits.{at, change_entry, change_part, each_head, part_of, put_operand}
use Rattle.ir_event.specs.trees.Meaning.{IsSoundIn, key_before_in}
use Rattle.ir_event.specs.trees.WellFormed.{Module as Numbered}
use Rattle.ir_event.proofs.of_trees.Heads.{Alike, alike_entry, alike_operand, head_find, head_ids}
use Rattle.ir_event.proofs.of_tree_laws.Listed.{either, or_left, or_right}
use Rattle.ir_event.proofs.Sounds.{found_sound}
use Rattle.ir_event.specs.store.Slots.{gone_after, has_key}
use Rattle.ir_event.specs.store.Stored.{Gone, Stored, change_gone, has_entry, has_slot, is_some_with, stands}
use Rattle.ir_event.specs.store.Calls.{after_entry, after_operand}
use Rattle.rewriter_machine.proofs.Maps.{gone_here, gone_other}
use Rattle.rewriter_machine.proofs.Keys.{after_none, after_other, has_put, part_keeps}
use Rattle.rewriter_machine.proofs.Trees.{found_id}
use Rattle.rewriter_machine.proofs.Stores.{dictionary, entry_same, slot_like}
use Rattle.rewriter_machine.proofs.Carries.{Carries}
use Rattle.ir_event.proofs.of_tree_laws.Contents.{some_map}

head_each : (f : Head → Head) (o : Op) → head (each_head f o) ≡ f (head o)
head_each f (op h rs) = refl

-- the dictionary after an edit of heads
pub dictionary_left : (f : Head → Head) → ((h : Head) → Alike (f h) h) → (part : Part) (y : ℕ) (s u : Stored) → u.module_of.tree ≡ each_head f s.module_of.tree → finmap.get u.held y ≡ finmap.get s.held y
    → ((o : Op) → find y s.module_of.tree ≡ Some o → part_of part (f (head o)) ≡ part_of part (head o)) → dictionary part y u ≡ dictionary part y s
dictionary_left f alike part y s u e h same =
    (λ i. option_map (λ (o : Op). part_of part (head o)) (first_of (find y (e i)) (h i)))
    ∙ ap (λ q. option_map (λ (o : Op). part_of part (head o)) (first_of q (finmap.get s.held y))) (head_find f alike y s.module_of.tree)
    ∙ go (find y s.module_of.tree) refl
  where
    go : (q : Option Op) → find y s.module_of.tree ≡ q
        → option_map (λ (o : Op). part_of part (head o)) (first_of (option_map (each_head f) q) (finmap.get s.held y)) ≡ option_map (λ (o : Op). part_of part (head o)) (first_of q (finmap.get s.held y))
    go None k = refl
    go (Some o) k = ap Some (ap (part_of part) (head_each f o) ∙ same o k)

operand_part : (part : Part) (x k : ℕ) (v : Value) (h : Head) → part_of part (at x (put_operand k v) h) ≡ part_of part h
operand_part Props x k v h = elim (eqb h.id x) as (λ b. (cond b (put_operand k v h) h).properties ≡ h.properties) [ true ↦ refl | false ↦ refl ]
operand_part Attrs x k v h = elim (eqb h.id x) as (λ b. (cond b (put_operand k v h) h).attributes ≡ h.attributes) [ true ↦ refl | false ↦ refl ]

pub operand_dictionary : (x k : ℕ) (v : Value) (y : ℕ) (part : Part) (s : Stored) → dictionary part y (after_operand x k v s) ≡ dictionary part y s
operand_dictionary x k v y part s = dictionary_left (at x (put_operand k v)) (alike_operand x k v) part y s (after_operand x k v s) refl refl (λ o f. operand_part part x k v (head o))

-- an entry of another operation, or of the other dictionary
other_op : (part : Part) (x : ℕ) (g : Head → Head) (h : Head) → eqb h.id x ≡ false → part_of part (at x g h) ≡ part_of part h
other_op part x g h e = ap (λ b. part_of part (cond b (g h) h)) e

own_part : (part : Part) (g : List (ℕ × ℕ) → List (ℕ × ℕ)) (h : Head) → part_of part (change_part part g h) ≡ g (part_of part h)
own_part Props g h = refl
own_part Attrs g h = refl

-- two dictionaries
abbrev pub Differ : Part → Part → Type 0
Differ Props Props = ⊥
Differ Props Attrs = Unit {0}
Differ Attrs Props = Unit {0}
Differ Attrs Attrs = ⊥

pub part_cases : (p q : Part) → (p ≡ q) ⊎ Differ p q
part_cases Props Props = inl refl
part_cases Props Attrs = inr tt
part_cases Attrs Props = inr tt
part_cases Attrs Attrs = inl refl

other_part : (p q : Part) → Differ p q → (g : List (ℕ × ℕ) → List (ℕ × ℕ)) (h : Head) → part_of p (change_part q g h) ≡ part_of p h
other_part Props Props d g h = absurd d
other_part Props Attrs d g h = refl
other_part Attrs Props d g h = refl
other_part Attrs Attrs d g h = absurd d

other_stands : (p q : Part) → Differ p q → (g : List ℕ → List ℕ) (l : ℕ) (o : Option Gone) → stands p l (option_map (change_gone q g) o) ≡ stands p l o
other_stands p q d g l None = refl
other_stands Props Props d g l (Some z) = absurd d
other_stands Props Attrs d g l (Some z) = refl
other_stands Attrs Props d g l (Some z) = refl
other_stands Attrs Attrs d g l (Some z) = absurd d

same_stands : (part : Part) (k l : ℕ) (a : Option ℕ) → (l ≡ k → ⊥) → (o : Option Gone) → stands part l (option_map (change_gone part (gone_after k a)) o) ≡ stands part l o
same_stands part k l a n None = refl
same_stands Props k l a n (Some z) = after_other k l a n z.properties
same_stands Attrs k l a n (Some z) = after_other k l a n z.attributes

now_stands : (part : Part) (k : ℕ) (o : Option Gone) → is_some o ≡ true → stands part k (option_map (change_gone part (gone_after {A = ℕ} k None)) o) ≡ true
now_stands part k None e = absurd (true≢false (sym e))
now_stands Props k (Some z) e = after_none k z.properties
now_stands Attrs k (Some z) e = after_none k z.attributes

stands_some : (part : Part) (l : ℕ) (o : Option Gone) → stands part l o ≡ true → is_some o ≡ true
stands_some part l None e = absurd (true≢false (sym e))
stands_some part l (Some z) e = refl

module _ (before : ℕ → ℕ → Bool) (x : ℕ) (part : Part) (k : ℕ) (a : Option ℕ) where
  abbrev after : Stored → Stored
  after s = after_entry before x part k a s

  abbrev edit : Head → Head
  edit = at x (change_part part (change_entry before k a))

  pub entry_ids : (s : Stored) (y : ℕ) → has_id y (after_entry before x part k a s).module_of.tree ≡ has_id y s.module_of.tree
  entry_ids s y = ap (λ l. list_any (λ z. eqb z y) l) (head_ids edit (alike_entry before x part k a) s.module_of.tree)

  pub other_dictionary : (s : Stored) (y : ℕ) (p : Part) → (y ≡ x → ⊥) ⊎ Differ p part → dictionary p y (after_entry before x part k a s) ≡ dictionary p y s
  other_dictionary s y p d = dictionary_left edit (alike_entry before x part k a) p y s (after s) refl refl (λ o f. go o f d)
    where
      go : (o : Op) → find y s.module_of.tree ≡ Some o → (y ≡ x → ⊥) ⊎ Differ p part → part_of p (edit (head o)) ≡ part_of p (head o)
      go o f (inl n) = other_op p x (change_part part (change_entry before k a)) (head o) (ne_eqb (head o).id x (λ e. n (sym (found_id y s.module_of.tree o f) ∙ e)))
      go o f (inr d) = elim (eqb (head o).id x) as (λ b. part_of p (cond b (change_part part (change_entry before k a) (head o)) (head o)) ≡ part_of p (head o))
          [ true ↦ other_part p part d (change_entry before k a) (head o) | false ↦ refl ]

  pub stands_other : (s : Stored) (y : ℕ) (p : Part) (l : ℕ) → (y ≡ x → ⊥) → stands p l (finmap.get (after_entry before x part k a s).gone y) ≡ stands p l (finmap.get s.gone y)
  stands_other s y p l n = ap (stands p l) (gone_other x (change_gone part (gone_after k a)) s.gone (finmap.get s.gone x) y n)

  pub stands_here : (s : Stored) (p : Part) (l : ℕ) → stands p l (finmap.get (after_entry before x part k a s).gone x) ≡ stands p l (option_map (change_gone part (gone_after k a)) (finmap.get s.gone x))
  stands_here s p l = ap (stands p l) (gone_here x (change_gone part (gone_after k a)) s.gone)

  -- slots of other removed keys are kept
  pub stands_left : (s : Stored) (p : Part) (l : ℕ) → Differ p part ⊎ (l ≡ k → ⊥) → stands p l (finmap.get (after_entry before x part k a s).gone x) ≡ stands p l (finmap.get s.gone x)
  stands_left s p l d = stands_here s p l ∙ go d (part_cases p part)
    where
      go : Differ p part ⊎ (l ≡ k → ⊥) → (p ≡ part) ⊎ Differ p part → stands p l (option_map (change_gone part (gone_after k a)) (finmap.get s.gone x)) ≡ stands p l (finmap.get s.gone x)
      go d (inr e) = other_stands p part e (gone_after k a) l (finmap.get s.gone x)
      go (inl d) (inl e) = other_stands p part d (gone_after k a) l (finmap.get s.gone x)
      go (inr n) (inl e) = subst (λ q. stands q l (option_map (change_gone part (gone_after k a)) (finmap.get s.gone x)) ≡ stands q l (finmap.get s.gone x)) (sym e) (same_stands part k l a n (finmap.get s.gone x))

  pub gone_some : (s : Stored) (y : ℕ) → is_some (finmap.get (after_entry before x part k a s).gone y) ≡ is_some (finmap.get s.gone y)
  gone_some s y = ⊎_elim
      (λ e. ap (λ z. is_some (finmap.get (after s).gone z)) e ∙ ap is_some (gone_here x (change_gone part (gone_after k a)) s.gone) ∙ some_map (change_gone part (gone_after k a)) (finmap.get s.gone x) ∙ ap (λ z. is_some (finmap.get s.gone z)) (sym e))
      (λ n. ap is_some (gone_other x (change_gone part (gone_after k a)) s.gone (finmap.get s.gone x) y n))
      (cases_eq y x)

  -- the dictionary after the edit
  pub entry_after : (s : Stored) (o : Op) → find x s.module_of.tree ≡ Some o → (l : ℕ) → has_entry x part l (after_entry before x part k a s) ≡ has_key l (change_entry before k a (part_of part (head o)))
  entry_after s o f l =
      ap (λ q. is_some_with (λ (o : Op). has_key l (part_of part (head o))) (first_of q (finmap.get s.held x))) (head_find edit (alike_entry before x part k a) x s.module_of.tree ∙ ap (option_map (each_head edit)) f)
      ∙ ap (λ h. has_key l (part_of part h)) (head_each edit o ∙ ap (λ b. cond b (change_part part (change_entry before k a) (head o)) (head o)) (eq-eqb (head o).id x (found_id x s.module_of.tree o f)))
      ∙ ap (has_key l) (own_part part (change_entry before k a) (head o))

  pub entry_before : (s : Stored) (o : Op) → find x s.module_of.tree ≡ Some o → (l : ℕ) → has_entry x part l s ≡ has_key l (part_of part (head o))
  entry_before s o f l = ap (λ q. is_some_with (λ (o : Op). has_key l (part_of part (head o))) (first_of q (finmap.get s.held x))) f

  -- the key has a slot after the edit
  pub slot_after : (s : Stored) (o : Op) → find x s.module_of.tree ≡ Some o → is_some (finmap.get s.gone x) ≡ true → has_slot x part k (after_entry before x part k a s) ≡ true
  slot_after s o f g = go a refl
    where
      go : (b : Option ℕ) → a ≡ b → has_slot x part k (after_entry before x part k a s) ≡ true
      go None e = or_right (has_entry x part k (after s)) _ (stands_here s part k ∙ ap (λ b. stands part k (option_map (change_gone part (gone_after k b)) (finmap.get s.gone x))) e ∙ now_stands part k (finmap.get s.gone x) g)
      go (Some v) e = or_left (has_entry x part k (after s)) _ (entry_after s o f k ∙ ap (λ b. has_key k (change_entry before k b (part_of part (head o)))) e ∙ has_put before k v (part_of part (head o)))

-- the same entry is set in both stores
module _ (c : ContextModel) (sound : IsSound c) (x : ℕ) (part : Part) (k : ℕ) (key : IsName c k) (a : Option ℕ) (n : ℕ) (s u : Stored) (own : IsSoundIn c s.module_of.tree) (o : Op) (f : find x s.module_of.tree ≡ Some o)
    (r : Carries n s u) (e : (after_entry (key_before_in c) x part k a u).module_of ≡ (after_entry (key_before_in c) x part k a s).module_of) where
  abbrev order : ℕ → ℕ → Bool
  order = key_before_in c

  abbrev s' : Stored
  s' = after_entry (key_before_in c) x part k a s

  abbrev u' : Stored
  u' = after_entry (key_before_in c) x part k a u

  there : find x u.module_of.tree ≡ Some o
  there = ap (λ (m : Numbered). find x m.tree) r.module_of ∙ f

  elsewhere : (y : ℕ) (p : Part) (l : ℕ) → (y ≡ x → ⊥) ⊎ Differ p part → stands p l (finmap.get s'.gone y) ≡ stands p l (finmap.get s.gone y) → stands p l (finmap.get u'.gone y) ≡ stands p l (finmap.get u.gone y)
      → y < n → has_slot y p l s' ≡ true → has_slot y p l u' ≡ true
  elsewhere y p l d i j lt h =
      slot_like y p l u' u (other_dictionary order x part k a u y p d) j ∙ r.slots y p l lt (slot_like y p l s s' (sym (other_dictionary order x part k a s y p d)) (sym i) ∙ h)

  -- another key of the dictionary
  other_key : (l : ℕ) → (l ≡ k → ⊥) → x < n → stands part l (finmap.get s'.gone x) ≡ true → has_slot x part l u' ≡ true
  other_key l d lt h = ⊎_elim
      (λ i. or_left (has_entry x part l u') _ (entry_after order x part k a u o there l ∙ part_keeps c sound k key part o (found_sound c x s.module_of.tree o own f) a l d (sym (entry_before order x part k a u o there l) ∙ i)))
      (λ i. or_right (has_entry x part l u') _ (stands_left order x part k a u part l (inr d) ∙ i))
      (either (has_entry x part l u) _ (r.slots x part l lt (or_right (has_entry x part l s) _ (sym (stands_left order x part k a s part l (inr d)) ∙ h))))

  the_key : x < n → stands part k (finmap.get s'.gone x) ≡ true → has_slot x part k u' ≡ true
  the_key lt h =
      slot_after order x part k a u o there (r.gone x lt (sym (gone_some order x part k a s x) ∙ stands_some part k (finmap.get s'.gone x) h))

  here : (l : ℕ) → x < n → has_slot x part l s' ≡ true → has_slot x part l u' ≡ true
  here l lt h = ⊎_elim
      (λ i. or_left (has_entry x part l u') _ (entry_after order x part k a u o there l ∙ sym (entry_after order x part k a s o f l) ∙ i))
      (λ i. ⊎_elim (λ same. subst (λ z. has_slot x part z u' ≡ true) (sym same) (the_key lt (subst (λ z. stands part z (finmap.get s'.gone x) ≡ true) same i))) (λ d. other_key l d lt i) (cases_eq l k))
      (either (has_entry x part l s') _ h)

  slots : (y : ℕ) (p : Part) (l : ℕ) → y < n → has_slot y p l s' ≡ true → has_slot y p l u' ≡ true
  slots y p l lt h = ⊎_elim
      (λ same. subst (λ z. has_slot z p l u' ≡ true) (sym same) (at p (part_cases p part) (subst (λ z. z < n) same lt) (subst (λ z. has_slot z p l s' ≡ true) same h)))
      (λ d. elsewhere y p l (inl d) (stands_other order x part k a s y p l d) (stands_other order x part k a u y p l d) lt h)
      (cases_eq y x)
    where
      at : (p : Part) → (p ≡ part) ⊎ Differ p part → x < n → has_slot x p l s' ≡ true → has_slot x p l u' ≡ true
      at p (inl q) lt h = subst (λ z. has_slot x z l u' ≡ true) (sym q) (here l lt (subst (λ z. has_slot x z l s' ≡ true) q h))
      at p (inr d) lt h = elsewhere x p l (inr d) (stands_left order x part k a s p l (inl d)) (stands_left order x part k a u p l (inl d)) lt h

  pub carries_entry : Carries n (after_entry (key_before_in c) x part k a s) (after_entry (key_before_in c) x part k a u)
  carries_entry = record {
    module_of = e;
    held = λ y lt i o is. r.held y lt (sym (entry_ids order x part k a s y) ∙ i) o is;
    gone = λ y lt i. gone_some order x part k a u y ∙ r.gone y lt (sym (gone_some order x part k a s y) ∙ i);
    slots = slots;
  }

-- an entry is set, and the edit is undone
module _ (before : ℕ → ℕ → Bool) (x : ℕ) (part : Part) (k : ℕ) (a old : Option ℕ) (s : Stored) (o : Op) (f : find x s.module_of.tree ≡ Some o)
    (was : old ≡ None ⊎ (has_key k (part_of part (head o)) ≡ true)) (e : (after_entry before x part k old (after_entry before x part k a s)).module_of ≡ s.module_of) where
  abbrev t : Stored
  t = after_entry before x part k a s

  abbrev w : Stored
  w = after_entry before x part k old (after_entry before x part k a s)

  back : (y : ℕ) (p : Part) → dictionary p y w ≡ dictionary p y s
  back y p = ap (λ q. option_map (λ (o : Op). part_of p (head o)) q) (ap (λ (m : Numbered). first_of (find y m.tree) (finmap.get s.held y)) e)

  left : (y : ℕ) (p : Part) (l : ℕ) → stands p l (finmap.get w.gone y) ≡ stands p l (finmap.get s.gone y) → has_slot y p l s ≡ true → has_slot y p l w ≡ true
  left y p l g h = slot_like y p l w s (back y p) g ∙ h

  key : has_slot x part k s ≡ true → has_slot x part k w ≡ true
  key h = ⊎_elim
      (λ i. or_left (has_entry x part k w) _ (entry_same x part k w s (back x part) ∙ i))
      (λ i. ⊎_elim
      (λ none. or_right (has_entry x part k w) _ (stands_here before x part k old t part k ∙ ap (λ b. stands part k (option_map (change_gone part (gone_after k b)) (finmap.get t.gone x))) none
      ∙ now_stands part k (finmap.get t.gone x) (gone_some before x part k a s x ∙ stands_some part k (finmap.get s.gone x) i)))
      (λ there. or_left (has_entry x part k w) _ (entry_same x part k w s (back x part) ∙ entry_before before x part k a s o f k ∙ there))
      was)
      (either (has_entry x part k s) _ h)

  kept : (y : ℕ) (p : Part) (l : ℕ) → has_slot y p l s ≡ true → has_slot y p l w ≡ true
  kept y p l h = ⊎_elim
      (λ same. subst (λ z. has_slot z p l w ≡ true) (sym same) (at p (part_cases p part) (subst (λ z. has_slot z p l s ≡ true) same h)))
      (λ d. left y p l (stands_other before x part k old t y p l d ∙ stands_other before x part k a s y p l d) h)
      (cases_eq y x)
    where
      at : (p : Part) → (p ≡ part) ⊎ Differ p part → has_slot x p l s ≡ true → has_slot x p l w ≡ true
      at p (inr d) h = left x p l (stands_left before x part k old t p l (inl d) ∙ stands_left before x part k a s p l (inl d)) h
      at p (inl q) h = subst (λ z. has_slot x z l w ≡ true) (sym q) (⊎_elim
          (λ i. subst (λ z. has_slot x part z w ≡ true) (sym i) (key (subst (λ z. has_slot x z k s ≡ true) q (subst (λ z. has_slot x p z s ≡ true) i h))))
          (λ d. left x part l (stands_left before x part k old t part l (inr d) ∙ stands_left before x part k a s part l (inr d)) (subst (λ z. has_slot x z l s ≡ true) q h))
          (cases_eq l k))

  pub carries_reverted : (n : ℕ) → Carries n s (after_entry before x part k old (after_entry before x part k a s))
  carries_reverted n = record {
    module_of = e;
    held = λ y lt i o is. is;
    gone = λ y lt i. gone_some before x part k old t y ∙ gone_some before x part k a s y ∙ i;
    slots = λ y p l lt h. kept y p l h;
  }
