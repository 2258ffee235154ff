-- Edits near an operation x. Everything before and after x stays, and the inserted operations come between.
use Rattle.std.proofs.Common.{◌≡◌, refl, ap, sym, ◌∙◌, subst, ℕ, ◌≤◌, true≢false, cond, ◌||◌, eqb, eq-eqb, List, [], ◌∷◌, ◌++◌, length, append_assoc, append-nil, length-append, Some, None, option_map, inl, inr, ◌⊎◌, arith}
use Rattle.std.specs.List.{list_any, IsDistinct}
use Rattle.std.proofs.lemmas.List.{append_cancel_left}
use Rattle.ir_event.specs.trees.declared.place.Place.{Place}
use Rattle.ir_event.specs.trees.Tree.{HeadOf, OpOf, op, head, regions}
use Rattle.ir_event.specs.trees.Ids.{ids, regions_ids, HasDistinctIds, find, regions_find}
use Rattle.ir_event.specs.trees.Edits.{each_head}
use Rattle.ir_event.specs.trees.Places.{put, put_found, without, shifted}
use Rattle.ir_event.proofs.of_trees.Gained.{Apart, gained_distinct}
use Rattle.ir_event.proofs.of_trees.Heads.{Alike, head_ids, head_find}
use Rattle.ir_event.proofs.of_trees.Left.{left_distinct}
use Rattle.ir_event.proofs.of_trees.Moves.{Absent, absent_parts, without_absent}
use Rattle.ir_event.proofs.of_trees.Returns.{Present, absent_first, absent_join, halves}
use Rattle.ir_event.proofs.of_tree_laws.Around.{absent_find}
use Rattle.ir_event.proofs.of_tree_laws.Cuts.{one_cut, absent_before}
use Rattle.ir_event.proofs.of_tree_laws.Put.{put_find}
use Rattle.ir_event.proofs.of_tree_laws.Shift.{own_distinct}
use Rattle.greedy.proofs.Cut.{MayCome, put_may, put_outside, found_present, not_root, without_ids, without_found, found_within}
use Rattle.std.proofs.lemmas.Bool.{cases_Bool}
use Rattle.rewriter_machine.proofs.Trees.{found_id}
use Rattle.ir_event.proofs.of_trees.Facts.{ids_head}

-- operations by their ids, each with the ids of the operations inside it
abbrev pub Wide : Type 0
Wide = List (ℕ × List ℕ)

abbrev pub widths : Wide → List ℕ
widths [] = []
widths (y ∷ ys) = y.1 ++ widths ys

-- absence from two joined parts fails if the element is in one of them
absent_in : (x : ℕ) (xs ys : List ℕ) → Present x ys → Absent x (xs ++ ys) → ⊥
absent_in x xs ys p a = true≢false (sym p ∙ (absent_parts x xs ys a).1)

apart_by : (x y : ℕ) (xs ys : List ℕ) → Apart xs ys → Present y ys → Absent y xs
apart_by x y xs ys f p = elim (cases_Bool (list_any (λ z. eqb z y) xs)) [ inr k ↦ k | inl k ↦ absurd (true≢false (sym p ∙ f y k)) ]

module _ {N T A : Type 0} where
  -- the operations are inside an operation
  abbrev pub Hold : OpOf N T A → Wide → Type 0
  Hold u [] = Unit {0}
  Hold u (y ∷ ys) = ((o : OpOf N T A) × (find y.0 u ≡ Some o) × (ids o ≡ y.1)) × Hold u ys

  -- operation x is between two parts of a tree. Consecutive operations are inside x, with others before and after them
  pub record Near (x : ℕ) (preceding back inner outer : List ℕ) (ys : Wide) (t : OpOf N T A) : Type 0 where
    pub distinct : HasDistinctIds t
    pub at : OpOf N T A
    pub found : find x t ≡ Some at
    pub is : ids t ≡ preceding ++ (ids at ++ back)
    pub own : ids at ≡ x ∷ (inner ++ (widths ys ++ outer))
    pub hold : Hold at ys
    pub extra : 1 ≤ length preceding

  module _ (x : ℕ) (preceding back inner outer : List ℕ) (ys : Wide) (t : OpOf N T A) (w : Near x preceding back inner outer ys t) where
    at_distinct : HasDistinctIds w.at
    at_distinct = own_distinct x t w.at w.distinct w.found

    -- heads may change
    pub near_headed : (f : HeadOf N T A → HeadOf N T A) → ((h : HeadOf N T A) → Alike (f h) h) → Near x preceding back inner outer ys (each_head f t)
    near_headed f alike = record {
      distinct = subst (IsDistinct eqb) (sym (head_ids f alike t)) w.distinct;
      at = each_head f w.at;
      found = head_find f alike x t ∙ ap (option_map (each_head f)) w.found;
      is = head_ids f alike t ∙ w.is ∙ ap (λ l. preceding ++ (l ++ back)) (sym (head_ids f alike w.at));
      own = head_ids f alike w.at ∙ w.own;
      hold = holds ys w.hold;
      extra = w.extra;
    }
      where
        holds : (ys : Wide) → Hold w.at ys → Hold (each_head f w.at) ys
        holds [] h = h
        holds (y ∷ ys) h = ((each_head f h.0.0, head_find f alike y.0 w.at ∙ ap (option_map (each_head f)) h.0.1, head_ids f alike h.0.0 ∙ h.0.2), holds ys h.1)

    -- x is taken out
    pub near_erased : ids (without x t) ≡ preceding ++ back
    near_erased = without_ids x t w.at preceding back w.distinct w.found (not_root x t w.at preceding back w.found w.is w.extra) w.is

    x_once : Absent x (inner ++ (widths ys ++ outer))
    x_once = absent_first x (inner ++ (widths ys ++ outer)) (subst (IsDistinct eqb) w.own at_distinct)

    x_absent : Absent x (widths ys)
    x_absent = (absent_parts x (widths ys) outer (absent_parts x inner (widths ys ++ outer) x_once).1).0

    x_regions : Absent x (regions_ids (regions w.at))
    x_regions = subst (Absent x) (sym (append_cancel_left (x ∷ []) (regions_ids (regions w.at)) (inner ++ (widths ys ++ outer)) (ap (λ y. y ∷ regions_ids (regions w.at)) (sym (found_id x t w.at w.found)) ∙ sym (ids_head w.at) ∙ w.own))) x_once

    -- operations are inserted before x, or nothing is inserted
    module _ (place : Place) (o : OpOf N T A) (before : place.before ≡ Some x) (own : HasDistinctIds o) (apart : Apart (ids o) (ids t)) where
      out : (y : ℕ) (u v : OpOf N T A) → find y u ≡ Some v → find x t ≡ Some u → find y o ≡ None
      out y u v e f = absent_find y o (apart_by x y (ids o) (ids t) apart (found_present y t v (found_within x y t u v w.distinct f e)))

      itself : find x w.at ≡ Some w.at
      itself = root w.at (found_id x t w.at w.found)
        where
          root : (u : OpOf N T A) → (head u).id ≡ x → find x u ≡ Some u
          root (op h rs) e = ap (λ b. cond b (Some (op h rs)) (regions_find x rs)) (eq-eqb h.id x e)

      put_at : OpOf N T A
      put_at = put place o w.at

      put_holds : (ys : Wide) → Absent x (widths ys) → Hold w.at ys → Hold (put place o w.at) ys
      put_holds [] a h = h
      put_holds (y ∷ ys) a h =
          let two = absent_parts x y.1 (widths ys) a in
          let in_it : Absent x (ids h.0.0) = subst (Absent x) (sym h.0.2) two.0 in (
            (
              put place o h.0.0,
              put_find place o y.0 (out y.0 w.at h.0.0 h.0.1 w.found) w.at ∙ ap (option_map (put place o)) h.0.1,
              put_outside place o x before h.0.0 (own_distinct y.0 w.at h.0.0 at_distinct h.0.1) (inside h.0.0 in_it) ∙ h.0.2,
            ),
            put_holds ys two.1 h.1,
          )
        where
          inside : (v : OpOf N T A) → Absent x (ids v) → Absent x (regions_ids (regions v))
          inside v a = (absent_parts x ((head v).id ∷ []) (regions_ids (regions v)) (subst (Absent x) (ids_head v) a)).1

      put_own : ids (put place o w.at) ≡ ids w.at
      put_own = put_outside place o x before w.at at_distinct x_regions

      near_with : (precedings : List ℕ) → 1 ≤ length precedings → ids (put place o t) ≡ precedings ++ (ids w.at ++ back) → Near x precedings back inner outer ys (put place o t)
      near_with precedings l is = record {
        distinct = gained_distinct place o own t w.distinct apart;
        at = put place o w.at;
        found = put_find place o x (out x w.at w.at itself w.found) t ∙ ap (option_map (put place o)) w.found;
        is = is ∙ ap (λ l. precedings ++ (l ++ back)) (sym put_own);
        own = put_own ∙ w.own;
        hold = put_holds ys x_absent w.hold;
        extra = l;
      }

      pub near_put : (more : List ℕ) × ((more ≡ []) ⊎ (more ≡ ids o)) × Near x (preceding ++ more) back inner outer ys (put place o t)
      near_put = go (put_may place o x before t w.distinct)
        where
          rest : List ℕ
          rest = inner ++ (widths ys ++ outer)

          at_is : ids t ≡ preceding ++ (x ∷ (rest ++ back))
          at_is = w.is ∙ ap (λ l. preceding ++ (l ++ back)) w.own

          go : MayCome x (ids o) (ids t) (ids (put place o t)) → (more : List ℕ) × ((more ≡ []) ⊎ (more ≡ ids o)) × Near x (preceding ++ more) back inner outer ys (put place o t)
          go (inl e) = ([], inl refl, subst (λ l. Near x l back inner outer ys (put place o t)) (sym (append-nil preceding)) (near_with preceding w.extra (e ∙ w.is)))
          go (inr c) = (
            ids o,
            inr refl,
            near_with (preceding ++ ids o) longer (
                c.is
                ∙ (λ i. precedings i ++ (ids o ++ (x ∷ backs i)))
                ∙ ap (λ l. preceding ++ (ids o ++ (l ++ back))) (sym w.own)
                ∙ sym (append_assoc preceding (ids o) (ids w.at ++ back))),
          )
            where
              longer : 1 ≤ length (preceding ++ ids o)
              longer = let a = length-append preceding (ids o) in let b = w.extra in omega (arith, a, b)

              same : c.preceding ++ (x ∷ c.back) ≡ preceding ++ (x ∷ (rest ++ back))
              same = sym c.was ∙ at_is

              precedings : c.preceding ≡ preceding
              precedings = one_cut x c.preceding preceding c.back (rest ++ back) (absent_before x c.preceding c.back (subst (IsDistinct eqb) c.was w.distinct)) (absent_before x preceding (rest ++ back) (subst (IsDistinct eqb) at_is w.distinct)) same

              backs : c.back ≡ rest ++ back
              backs = append_cancel_left (x ∷ []) c.back (rest ++ back) (append_cancel_left c.preceding (x ∷ c.back) (x ∷ (rest ++ back)) (same ∙ ap (λ l. l ++ (x ∷ (rest ++ back))) (sym precedings)))

  -- the first of the operations inside x is taken out
  module _ (x : ℕ) (preceding back inner outer : List ℕ) (y : ℕ × List ℕ) (ys : Wide) (t : OpOf N T A) (w : Near x preceding back inner outer (y ∷ ys) t) where
    abbrev o : OpOf N T A
    o = w.hold.0.0

    o_at : find y.0 w.at ≡ Some w.hold.0.0
    o_at = w.hold.0.1

    pub first_found : find y.0 t ≡ Some w.hold.0.0
    first_found = found_within x y.0 t w.at o w.distinct w.found o_at

    pub first_own : HasDistinctIds w.hold.0.0
    first_own = own_distinct y.0 t o w.distinct first_found

    -- their positions in x and in the tree
    at_parts : ids w.at ≡ (x ∷ inner) ++ (ids w.hold.0.0 ++ (widths ys ++ outer))
    at_parts = w.own ∙ ap (λ l. x ∷ (inner ++ l)) (append_assoc y.1 (widths ys) outer ∙ ap (λ l. l ++ (widths ys ++ outer)) (sym w.hold.0.2))

    parts : ids t ≡ (preceding ++ (x ∷ inner)) ++ (ids w.hold.0.0 ++ ((widths ys ++ outer) ++ back))
    parts =
        w.is
        ∙ ap (λ l. preceding ++ (l ++ back)) at_parts
        ∙ ap (λ l. preceding ++ l) (append_assoc (x ∷ inner) (ids o ++ (widths ys ++ outer)) back ∙ ap (λ l. (x ∷ inner) ++ l) (append_assoc (ids o) (widths ys ++ outer) back))
        ∙ sym (append_assoc preceding (x ∷ inner) (ids o ++ ((widths ys ++ outer) ++ back)))

    at_left : ids (without y.0 w.at) ≡ (x ∷ inner) ++ (widths ys ++ outer)
    at_left = without_ids y.0 w.at o (x ∷ inner) (widths ys ++ outer) (own_distinct x t w.at w.distinct w.found) o_at (not_root y.0 w.at o (x ∷ inner) (widths ys ++ outer) o_at at_parts (omega arith)) at_parts

    left : ids (without y.0 t) ≡ (preceding ++ (x ∷ inner)) ++ ((widths ys ++ outer) ++ back)
    left = without_ids y.0 t o (preceding ++ (x ∷ inner)) ((widths ys ++ outer) ++ back) w.distinct first_found
        (not_root y.0 t o (preceding ++ (x ∷ inner)) ((widths ys ++ outer) ++ back) first_found parts (let a = length-append preceding (x ∷ inner) in let b = w.extra in omega (arith, a, b))) parts

    d_at : IsDistinct eqb ((x ∷ inner) ++ (ids w.hold.0.0 ++ (widths ys ++ outer)))
    d_at = subst (IsDistinct eqb) at_parts (own_distinct x t w.at w.distinct w.found)

    d_later : IsDistinct eqb (ids w.hold.0.0 ++ (widths ys ++ outer))
    d_later = (halves (x ∷ inner) (ids o ++ (widths ys ++ outer)) d_at).right

    -- x isn't in the first operation, and the first operation is in no other
    x_out : Absent x (ids w.hold.0.0)
    x_out = (absent_parts x (ids o) (widths ys ++ outer) ((halves (x ∷ inner) (ids o ++ (widths ys ++ outer)) d_at).disjoint x (ap (λ b. b || list_any (λ z. eqb z x) inner) (eq-eqb x x refl)))).0

    y_out : Absent y.0 (widths ys)
    y_out = (absent_parts y.0 (widths ys) outer ((halves (ids o) (widths ys ++ outer) d_later).disjoint y.0 (subst (λ z. Present z (ids o)) (found_id y.0 w.at o o_at) (own_present o)))).0
      where
        own_present : (v : OpOf N T A) → Present (head v).id (ids v)
        own_present v = subst (Present (head v).id) (sym (ids_head v)) (ap (λ b. b || list_any (λ z. eqb z (head v).id) (regions_ids (regions v))) (eq-eqb (head v).id (head v).id refl))

    apart_width : (z : ℕ) → Present z (widths ys) → Absent z (ids w.hold.0.0)
    apart_width z p = elim (cases_Bool (list_any (λ u. eqb u z) (ids o))) [
      | inr k ↦ k
      | inl k ↦ absurd (true≢false (sym p ∙ (absent_parts z (widths ys) outer ((halves (ids o) (widths ys ++ outer) d_later).disjoint z k)).0))
    ]

    left_holds : (zs : Wide) → Absent y.0 (widths zs) → ((z : ℕ) → Present z (widths zs) → Absent z (ids w.hold.0.0)) → Hold w.at zs → Hold (without y.0 w.at) zs
    left_holds [] a f h = h
    left_holds (z ∷ zs) a f h =
        let two = absent_parts y.0 z.1 (widths zs) a in
        let in_it : Present z.0 z.1 = subst (Present z.0) h.0.2 (subst (λ i. Present i (ids h.0.0)) (found_id z.0 w.at h.0.0 h.0.1) (own_present h.0.0)) in (
          (
            h.0.0,
            without_found y.0 z.0 w.at o h.0.0 (own_distinct x t w.at w.distinct w.found) o_at h.0.1 (f z.0 (present_left z.0 z.1 (widths zs) in_it)) ∙ ap Some (without_absent y.0 h.0.0 (subst (Absent y.0) (sym h.0.2) two.0)),
            h.0.2,
          ),
          left_holds zs two.1 (λ i p. f i (present_right i z.1 (widths zs) p)) h.1,
        )
      where
        own_present : (v : OpOf N T A) → Present (head v).id (ids v)
        own_present v = subst (Present (head v).id) (sym (ids_head v)) (ap (λ b. b || list_any (λ z. eqb z (head v).id) (regions_ids (regions v))) (eq-eqb (head v).id (head v).id refl))

        present_left : (i : ℕ) (xs ys : List ℕ) → Present i xs → Present i (xs ++ ys)
        present_left i xs ys p = elim (cases_Bool (list_any (λ z. eqb z i) (xs ++ ys))) [ inl k ↦ k | inr k ↦ absurd (true≢false (sym p ∙ (absent_parts i xs ys k).0)) ]

        present_right : (i : ℕ) (xs ys : List ℕ) → Present i ys → Present i (xs ++ ys)
        present_right i xs ys p = elim (cases_Bool (list_any (λ z. eqb z i) (xs ++ ys))) [ inl k ↦ k | inr k ↦ absurd (true≢false (sym p ∙ (absent_parts i xs ys k).1)) ]

    pub near_left : Near x preceding back inner outer ys (without y.0 t)
    near_left = record {
      distinct = left_distinct y.0 t w.distinct;
      at = without y.0 w.at;
      found = without_found y.0 x t o w.at w.distinct first_found w.found x_out;
      is = left ∙ append_assoc preceding (x ∷ inner) ((widths ys ++ outer) ++ back) ∙ ap (λ l. preceding ++ l) (sym (append_assoc (x ∷ inner) (widths ys ++ outer) back)) ∙ ap (λ l. preceding ++ (l ++ back)) (sym at_left);
      own = at_left;
      hold = left_holds ys y_out apart_width w.hold.1;
      extra = w.extra;
    }

    first_apart : Apart (ids w.hold.0.0) (ids (without y.0 t))
    first_apart z p = subst (Absent z) (sym left) (absent_join z (preceding ++ (x ∷ inner)) ((widths ys ++ outer) ++ back) before later)
      where
        two : IsDistinct eqb ((preceding ++ (x ∷ inner)) ++ (ids w.hold.0.0 ++ ((widths ys ++ outer) ++ back)))
        two = subst (IsDistinct eqb) parts w.distinct

        later : Absent z ((widths ys ++ outer) ++ back)
        later = (halves (ids o) ((widths ys ++ outer) ++ back) (halves (preceding ++ (x ∷ inner)) (ids o ++ ((widths ys ++ outer) ++ back)) two).right).disjoint z p

        before : Absent z (preceding ++ (x ∷ inner))
        before = elim (cases_Bool (list_any (λ u. eqb u z) (preceding ++ (x ∷ inner)))) [
          | inr k ↦ k
          | inl k ↦ absurd (true≢false (sym p ∙ (absent_parts z (ids o) ((widths ys ++ outer) ++ back) ((halves (preceding ++ (x ∷ inner)) (ids o ++ ((widths ys ++ outer) ++ back)) two).disjoint z k)).0))
        ]

    -- the first operation is inserted before x, or nowhere
    pub near_moved : (place : Place) → place.before ≡ Some x → (more : List ℕ) × ((more ≡ []) ⊎ (more ≡ y.1)) × Near x (preceding ++ more) back inner outer ys (shifted y.0 place t)
    near_moved place before =
        let n = near_put x preceding back inner outer ys (without y.0 t) near_left place o before first_own first_apart in
        (n.0, elim n.1 [ inl e ↦ inl e | inr e ↦ inr (e ∙ w.hold.0.2) ], subst (λ t. Near x (preceding ++ n.0) back inner outer ys t) (ap (λ f. put_found place f (without y.0 t)) (sym first_found)) n.2)
