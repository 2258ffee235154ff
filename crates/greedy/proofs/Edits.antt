-- Edits near an operation keep the order of the other operations.
use Rattle.std.proofs.Common.{◌≡◌, refl, ap, sym, ◌∙◌, subst, ℕ, ◌+◌, ◌<◌, ◌≤◌, false, true≢false, ◌||◌, eqb, eqb-true, List, [], ◌∷◌, ◌++◌, append_assoc, append-nil, Some, None, inl, inr, arith}
use Rattle.std.specs.List.{IsDistinct}
use Rattle.ir_event.specs.types.Terms.{TypeTerm, AttrTerm}
use Rattle.ir_event.specs.trees.declared.place.Place.{Place}
use Rattle.ir_event.specs.trees.Tree.{HeadOf, op, no_regions, regions}
use Rattle.ir_event.specs.trees.Ids.{ids, find, HasDistinctIds}
use Rattle.ir_event.specs.trees.Edits.{each_head, at, put_operand, put_values, change_part, change_entry}
use Rattle.ir_event.specs.trees.Places.{put, without, shifted}
use Rattle.ir_event.specs.trees.Meaning.{Operation}
use Rattle.ir_event.proofs.of_trees.Gained.{Apart, gained_ids}
use Rattle.ir_event.proofs.of_trees.Heads.{Alike, head_ids, alike_operand, alike_values, alike_entry}
use Rattle.ir_event.proofs.of_trees.Left.{left_distinct}
use Rattle.ir_event.proofs.of_trees.Returns.{cons_distinct, nil_distinct}
use Rattle.ir_event.specs.tree_laws.Reads.{comes_after, is_within}
use Rattle.ir_event.specs.tree_laws.Reasons.{with_id}
use Rattle.ir_event.specs.Modules.{Module}
use Rattle.rewriter_machine.specs.Contents.{Edit, tests, edited, all_edited}
use Rattle.rewriter_machine.specs.Edits.{Insert, Make, Erase, Move, SetOperand, Replace, SetAttr, DropAttr, part_for}
use Rattle.patterns.specs.soundness.Near.{Still, Opens}
use Rattle.greedy.specs.Orders.{Orderly}
use Rattle.greedy.proofs.Cuts.{second, in_either, stretch_orderly}
use Rattle.greedy.proofs.Nearby.{Wide, widths, Near, near_headed, near_erased, near_put, near_moved}
use Rattle.greedy.proofs.Listed.{Listed, is_listed}
use Rattle.greedy.proofs.Parts.{Part, part_before, part_after, part_joined, part_order}
use Rattle.std.proofs.lemmas.Bool.{cases_Bool}

-- the range of operation x after edits: the old operations that remain in it keep their order
pub record Stays (preceding stretch back : List ℕ) (n : Operation) : Type 0 where
  pub kept : List ℕ
  pub is : ids n ≡ preceding ++ (kept ++ back)
  pub distinct : HasDistinctIds n
  pub order : (a b : ℕ) → Listed a stretch → Listed b stretch → Listed a kept → Listed b kept → comes_after a b kept ≡ comes_after a b stretch

pub stays_orderly : (x : ℕ) (m n : Module) (preceding rest back : List ℕ) → HasDistinctIds m.tree → ids m.tree ≡ preceding ++ ((x ∷ rest) ++ back) → ((y : ℕ) → is_within y (find x m.tree) ≡ is_listed y (x ∷ rest)) → Stays preceding (x ∷ rest) back n.tree → Orderly x m n
stays_orderly x m n preceding rest back d e within s = stretch_orderly x m n preceding rest back s.kept d s.distinct e s.is within s.order

ids_below : Module → Type 0
ids_below m = (z : ℕ) → Listed z (ids m.tree) → z < m.next

leaf_ids : (free : ℕ) (o : Operation) → regions o ≡ no_regions → ids (with_id free o) ≡ free ∷ []
leaf_ids free (op h rs) e = ap (λ r. ids (op (record h { id = free }) r)) e

only : (z y : ℕ) → Listed z (y ∷ []) → y ≡ z
only z y h = elim (cases_Bool (eqb y z)) [ inl e ↦ eqb-true y z e | inr e ↦ absurd (true≢false (sym h ∙ (λ i. e i || false))) ]

nowhere : (z : ℕ) (xs : List ℕ) → (Listed z xs → ⊥) → is_listed z xs ≡ false
nowhere z xs f = elim (cases_Bool (is_listed z xs)) [ inr k ↦ k | inl k ↦ absurd (f k) ]

heads_below : (f : HeadOf (List ℕ) TypeTerm AttrTerm → HeadOf (List ℕ) TypeTerm AttrTerm) → ((h : HeadOf (List ℕ) TypeTerm AttrTerm) → Alike (f h) h) → (m : Module) → ((z : ℕ) → Listed z (ids m.tree) → z < m.next) → (z : ℕ) → Listed z (ids (each_head f m.tree)) → z < m.next
heads_below f alike m b z h = b z (ap (is_listed z) (sym (head_ids f alike m.tree)) ∙ h)

module _ (x : ℕ) (preceding back rest : List ℕ) (place : Place) (before : place.before ≡ Some x) (first : ℕ) (old : (z : ℕ) → Listed z (x ∷ rest) → z < first) where
  abbrev Holds : List ℕ → Module → Type 0
  Holds more m = Near x (preceding ++ more) back [] rest [] m.tree

  -- the inserted operations are new
  abbrev Fresh : List ℕ → Type 0
  Fresh more = (z : ℕ) → Listed z more → first ≤ z

  still_done : (more : List ℕ) (t : Operation) → Fresh more → Near x (preceding ++ more) back [] rest [] t → Stays preceding (x ∷ rest) back t
  still_done more t fresh w = record {
    kept = more ++ (x ∷ rest);
    is = w.is ∙ ap (λ l. (preceding ++ more) ++ (l ++ back)) w.own ∙ append_assoc preceding more ((x ∷ rest) ++ back) ∙ ap (λ l. preceding ++ l) (sym (append_assoc more (x ∷ rest) back));
    distinct = w.distinct;
    order = λ a b h k l n. second a b more (x ∷ rest) (λ i. let f = fresh a i in let o = old a h in omega (arith, f, o));
  }

  still_erased : (more : List ℕ) (t : Operation) → Fresh more → Near x (preceding ++ more) back [] rest [] t → Stays preceding (x ∷ rest) back (without x t)
  still_erased more t fresh w = record {
    kept = more;
    is = near_erased x (preceding ++ more) back [] rest [] t w ∙ append_assoc preceding more back;
    distinct = left_distinct x t w.distinct;
    order = λ a b h k l n. absurd (let f = fresh a l in let o = old a h in omega (arith, f, o));
  }

  pub still_stays : (es : List Edit) (m : Module) (more : List ℕ) → ((z : ℕ) → Listed z more → first ≤ z) → first ≤ m.next → ((z : ℕ) → Listed z (ids m.tree) → z < m.next) → Near x (preceding ++ more) back [] rest [] m.tree → Still x place es → Stays preceding (x ∷ rest) back (all_edited es m).tree
  still_stays [] m more fresh l b w s = still_done more m.tree fresh w
  still_stays (SetOperand y k v ∷ es) m more fresh l b w s =
      let f = at y (put_operand k v) in
      still_stays es (edited (SetOperand y k v) m) more fresh l (heads_below f (alike_operand y k v) m b) (near_headed x (preceding ++ more) back [] rest [] m.tree w f (alike_operand y k v)) s
  still_stays (Replace v u ∷ es) m more fresh l b w s = still_stays es (edited (Replace v u) m) more fresh l (heads_below (put_values v u) (alike_values v u) m b) (near_headed x (preceding ++ more) back [] rest [] m.tree w (put_values v u) (alike_values v u)) s
  still_stays (SetAttr y k a ∷ es) m more fresh l b w s =
      let part = part_for tests y k m.tree in
      let f = at y (change_part part (change_entry tests.before k (Some a))) in
      still_stays es (edited (SetAttr y k a) m) more fresh l (heads_below f (alike_entry tests.before y part k (Some a)) m b) (near_headed x (preceding ++ more) back [] rest [] m.tree w f (alike_entry tests.before y part k (Some a))) s
  still_stays (DropAttr y k ∷ es) m more fresh l b w s =
      let part = part_for tests y k m.tree in
      let f = at y (change_part part (change_entry tests.before k None)) in
      still_stays es (edited (DropAttr y k) m) more fresh l (heads_below f (alike_entry tests.before y part k None) m b) (near_headed x (preceding ++ more) back [] rest [] m.tree w f (alike_entry tests.before y part k None)) s
  still_stays (Erase y ∷ []) m more fresh l b w s = subst (λ z. Stays preceding (x ∷ rest) back (without z m.tree)) (sym s) (still_erased more m.tree fresh w)
  still_stays (Erase y ∷ e ∷ es) m more fresh l b w s = absurd s
  still_stays (Insert p o ∷ es) m more fresh l b w s = absurd s
  still_stays (Move y p ∷ es) m more fresh l b w s = absurd s
  still_stays (Make p o ∷ es) m more fresh l b w s =
      let n = near_put x (preceding ++ more) back [] rest [] m.tree w p new (ap (λ (q : Place). q.before) s.0 ∙ before) own apart in
      still_stays es (edited (Make p o) m) (more ++ n.0) (λ z h. elim (in_either z more n.0 h) [
        | inl k ↦ fresh z k
        | inr k ↦ (elim n.1 [ inl e ↦ absurd (true≢false (sym k ∙ ap (is_listed z) e)) | inr e ↦ (let is = only z m.next (sym (ap (is_listed z) (e ∙ mine)) ∙ k) in omega (arith, is, l)) ])
      ]) (omega (arith, l)) below (subst (λ f. Near x f back [] rest [] (put p new m.tree)) (append_assoc preceding more n.0) n.2) s.2
    where
      new : Operation
      new = with_id m.next o

      mine : ids (with_id m.next o) ≡ m.next ∷ []
      mine = leaf_ids m.next o s.1

      own : HasDistinctIds (with_id m.next o)
      own = subst (IsDistinct eqb) (sym mine) (cons_distinct m.next [] refl nil_distinct)

      apart : Apart (ids (with_id m.next o)) (ids m.tree)
      apart z h = nowhere z (ids m.tree) (λ k. let is = only z m.next (sym (ap (is_listed z) mine) ∙ h) in let c = b z k in omega (arith, is, c))

      below : (z : ℕ) → Listed z (ids (put p (with_id m.next o) m.tree)) → z < m.next + 1
      below z h = elim (cases_Bool (is_listed z (ids m.tree))) [
        | inl k ↦ (let c = b z k in omega (arith, c))
        | inr k ↦ elim (cases_Bool (is_listed z (ids (with_id m.next o)))) [
          | inl j ↦ (let is = only z m.next (sym (ap (is_listed z) mine) ∙ j) in omega (arith, is))
          | inr j ↦ absurd (true≢false (sym h ∙ gained_ids p (with_id m.next o) z m.tree j k))
        ]
      ]

-- the ids of operations
abbrev pub names : Wide → List ℕ
names [] = []
names (y ∷ ys) = y.0 ∷ names ys

-- what remains of x and of the operations that were in it
pub record Left (preceding back all : List ℕ) (n : Operation) : Type 0 where
  pub kept : List ℕ
  pub is : ids n ≡ preceding ++ (kept ++ back)
  pub distinct : HasDistinctIds n
  pub part : Part kept all

module _ (x : ℕ) (preceding back inner outer : List ℕ) (place : Place) (before : place.before ≡ Some x) where
  opens_left : (ys : Wide) (es : List Edit) (m : Module) (more done : List ℕ) → Part more done → Near x (preceding ++ more) back inner outer ys m.tree → Opens x place (names ys) es → Left preceding back (done ++ widths ys) (all_edited es m).tree
  opens_left ys [] m more done p w s = absurd s
  opens_left ys (Replace v u ∷ es) m more done p w s = opens_left ys es (edited (Replace v u) m) more done p (near_headed x (preceding ++ more) back inner outer ys m.tree w (put_values v u) (alike_values v u)) s
  opens_left [] (Move z q ∷ es) m more done p w s = absurd s
  opens_left (y ∷ ys) (Move z q ∷ es) m more done p w s =
      let n = near_moved x (preceding ++ more) back inner outer y ys m.tree w q (ap (λ (q : Place). q.before) s.1 ∙ before) in
      let now : Near x (preceding ++ (more ++ n.0)) back inner outer ys (edited (Move z q) m).tree = subst (λ f. Near x f back inner outer ys (shifted z q m.tree)) (append_assoc preceding more n.0) (subst (λ i. Near x ((preceding ++ more) ++ n.0) back inner outer ys (shifted i q m.tree)) (sym s.0) n.2) in
      let part : Part (more ++ n.0) (done ++ y.1) = elim n.1 [
        | inl e ↦ subst (λ l. Part l (done ++ y.1)) (sym (append-nil more) ∙ ap (λ l. more ++ l) (sym e)) (part_before y.1 more done p)
        | inr e ↦ subst (λ l. Part (more ++ l) (done ++ y.1)) (sym e) (part_joined y.1 more done p)
      ] in
      subst (λ l. Left preceding back l (all_edited es (edited (Move z q) m)).tree) (append_assoc done y.1 (widths ys)) (opens_left ys es (edited (Move z q) m) (more ++ n.0) (done ++ y.1) part now s.2)
  opens_left [] (Erase y ∷ []) m more done p w s = record {
    kept = more;
    is = ap (λ z. ids (without z m.tree)) s ∙ near_erased x (preceding ++ more) back inner outer [] m.tree w ∙ append_assoc preceding more back;
    distinct = left_distinct y m.tree w.distinct;
    part = subst (Part more) (sym (append-nil done)) p;
  }
  opens_left [] (Erase y ∷ e ∷ es) m more done p w s = absurd s
  opens_left (z ∷ ys) (Erase y ∷ es) m more done p w s = absurd s
  opens_left ys (Insert q o ∷ es) m more done p w s = absurd s
  opens_left ys (Make q o ∷ es) m more done p w s = absurd s
  opens_left ys (SetOperand y k v ∷ es) m more done p w s = absurd s
  opens_left ys (SetAttr y k a ∷ es) m more done p w s = absurd s
  opens_left ys (DropAttr y k ∷ es) m more done p w s = absurd s

  pub opens_stays : (ys : Wide) (es : List Edit) (m : Module) → IsDistinct eqb (x ∷ (inner ++ (widths ys ++ outer))) → Near x preceding back inner outer ys m.tree → Opens x place (names ys) es → Stays preceding (x ∷ (inner ++ (widths ys ++ outer))) back (all_edited es m).tree
  opens_stays ys es m d w s =
      let l = opens_left ys es m [] [] tt (subst (λ f. Near x f back inner outer ys m.tree) (sym (append-nil preceding)) w) s in
      record {
        kept = l.kept;
        is = l.is;
        distinct = l.distinct;
        order = λ a b h k i j. part_order a b l.kept (x ∷ (inner ++ (widths ys ++ outer))) d (part_after (x ∷ inner) l.kept (widths ys ++ outer) (part_before outer l.kept (widths ys) l.part)) i j;
      }
