-- All operations of a block of x move into a block of y.
use Rattle.std.proofs.Common.{◌≡◌, refl, ap, sym, ◌∙◌, subst, ℕ, ◌+◌, ◌≤◌, Bool, true, false, ◌&&◌, eqb, List, [], ◌∷◌, ◌++◌, length, map, reverse, Option, Some, None, option_map, inl, inr, arith, append_assoc}
use Rattle.std.proofs.lemmas.List.{map-append, reverse-append}
use Rattle.ir_event.specs.types.Words.{is_isolated, is_table}
use Rattle.ir_event.specs.types.Terms.{TypeTerm, AttrTerm}
use Rattle.ir_event.specs.trees.declared.value.Value.{Value}
use Rattle.ir_event.specs.trees.declared.place.Place.{Place}
use Rattle.ir_event.specs.trees.Tree.{head}
use Rattle.ir_event.specs.trees.Ids.{has_id}
use Rattle.ir_event.specs.trees.Frames.{owner_of}
use Rattle.ir_event.specs.trees.Places.{put, without}
use Rattle.ir_event.specs.trees.Meaning.{Operation}
use Rattle.ir_event.specs.tree_laws.Members.{In}
use Rattle.ir_event.proofs.of_tree_laws.Listed.{in_left, in_right}
use Rattle.ir_event.specs.Modules.{Module}
use Rattle.rewriter_machine.specs.Contents.{Edit, all_edited, edited}
use Rattle.rewriter_machine.specs.Edits.{Move}
use Rattle.patterns_base.specs.Lists.{Free}
use Rattle.patterns_base.proofs.Plans.{dominated_by}
use Rattle.patterns_soundness.specs.base.Looks.{Header}
use Rattle.patterns_soundness.specs.base.Makes.{moving}
use Rattle.patterns_soundness.specs.base.Lowering.{next_to, brought, end_of, gathering}
use Rattle.patterns_soundness.proofs.Inwards as inwards
use Rattle.patterns_soundness.proofs.Moving.{HasBlock}
use Rattle.patterns_soundness.proofs.Ordered.{Before, Inside}
use Rattle.patterns_soundness.proofs.Phases.{AllTurned, Coming, Out, Side, Stays, entered, id_of, in_step_reason, in_step_stays, phase_in, phase_out, stays_both, stays_none, turned_onto}
use Rattle.patterns_soundness.proofs.Steps.{Across, IsWithinLimits}

turned_last : (us rs : List Operation) (l : Operation) → turned_onto (us ++ l ∷ []) rs ≡ l ∷ turned_onto us rs
turned_last [] rs l = refl
turned_last (u ∷ us) rs l = turned_last us (u ∷ rs) l

turned_twice : (us rs vs : List Operation) → turned_onto (turned_onto us rs) vs ≡ turned_onto rs (us ++ vs)
turned_twice [] rs vs = refl
turned_twice (u ∷ us) rs vs = turned_twice us (u ∷ rs) vs

turned_ids : (us rs : List Operation) → map (λ o. id_of o) (turned_onto us rs) ≡ reverse (map (λ o. id_of o) us) ++ map (λ o. id_of o) rs
turned_ids [] rs = refl
turned_ids (u ∷ us) rs =
    turned_ids us (u ∷ rs)
    ∙ sym (append_assoc (reverse (map (λ o. id_of o) us)) (id_of u ∷ []) (map (λ o. id_of o) rs))
    ∙ ap (λ l. l ++ map (λ o. id_of o) rs) (sym (reverse-append (id_of u ∷ []) (map (λ o. id_of o) us)))

append_none : {X : Type 0} (xs : List X) → xs ++ [] ≡ xs
append_none [] = refl
append_none (x ∷ xs) = ap (λ l. x ∷ l) (append_none xs)

moves_more : (place : Place) (xs ys : List ℕ) → moving place (xs ++ ys) ≡ moving place xs ++ moving place ys
moves_more place xs ys = map-append (λ x. Move x place) xs ys

in_turned : (us rs : List Operation) (o : Operation) → In o (turned_onto us rs) → In o (us ++ rs)
in_turned [] rs o i = i
in_turned (u ∷ us) rs o i = go (in_turned us (u ∷ rs) o i)
  where
    shift : (us : List Operation) → In o (us ++ u ∷ rs) → In o (u ∷ us ++ rs)
    shift [] k = k
    shift (w ∷ us) (inl e) = inr (inl e)
    shift (w ∷ us) (inr k) = elim (shift us k) [ inl e ↦ inl e | inr j ↦ inr (inr j) ]

    go : In o (us ++ u ∷ rs) → In o (u ∷ us ++ rs)
    go k = shift us k

module _ (x y r : ℕ) (insertion : Place) (hx hy : Header) (deep : ℕ) (x_opened : is_isolated hx.name ≡ false) (x_plain : is_table hx.name ≡ false) (y_opened : is_isolated hy.name ≡ false) (y_plain : is_table hy.name ≡ false) (args : List TypeTerm) (B : ℕ → Type 0) (News : Value → Type 0)
    (us : List Operation) (last : Operation) (m : Module) (start : Out x y r insertion hx hy deep x_opened x_plain y_opened y_plain args B [] (us ++ last ∷ []) m) where
  abbrev zs : List Operation
  zs = us ++ last ∷ []

  abbrev place : Place
  place = next_to insertion y

  -- the new values dominate the last operation, after the earlier ones are at the end of the block
  abbrev pub LastDominatedBy : Type 0
  LastDominatedBy = (n : Module) → Across x y insertion hx hy deep n → HasBlock y r n.tree → Stays x y r insertion hx hy deep x_opened x_plain y_opened y_plain args B (us ++ last ∷ []) m n → Inside y r (head last).id n.tree
      → ((c : ℕ) → Inside y r c n.tree → eqb c (head last).id ≡ false → Before c (head last).id n.tree) → (v : Value) → News v → dominated_by (head last).id v n ≡ true

  pub record Brought : Type 0 where
    pub after : Module
    pub free : (fs : List Edit) → Free fs after → Free (brought insertion y r (map (λ o. id_of o) us) (head last).id ++ fs) m
    pub coming : Coming x y r insertion hx hy deep x_opened x_plain y_opened y_plain args B News [] (us ++ last ∷ []) after
    pub stays : Stays x y r insertion hx hy deep x_opened x_plain y_opened y_plain args B (us ++ last ∷ []) m after
    pub sides : (q : ℕ) (targs : List TypeTerm) (ws : List Operation) → ((o : Operation) → In o ws → IsWithinLimits x y insertion hx hy deep o) → ((z o : Operation) → In z (us ++ last ∷ []) → In o ws → has_id (head z).id o ≡ false)
        → Side x y r insertion hx hy deep x_opened x_plain y_opened y_plain args B q targs ws m start.across → Side x y r insertion hx hy deep x_opened x_plain y_opened y_plain args B q targs ws after coming.across

  abbrev m1 : Module
  m1 = all_edited (moving (next_to insertion y) (map (λ o. id_of o) (us ++ last ∷ []))) m

  abbrev rs : List Operation
  rs = turned_onto us []

  edits_are : brought insertion y r (map (λ o. id_of o) us) (head last).id ≡ moving (next_to insertion y) (map (λ o. id_of o) (us ++ last ∷ [])) ++ Move (head last).id (end_of y r) ∷ gathering y r (head last).id (map (λ o. id_of o) (turned_onto us []))
  edits_are =
      let ids = map (λ o. id_of o) us in
      let li = (head last).id in
      sym (append_assoc (moving place ids) (Move li place ∷ []) (Move li (end_of y r) ∷ gathering y r li (reverse ids)))
      ∙ ap (λ l. l ++ Move li (end_of y r) ∷ gathering y r li (reverse ids)) (sym (ap (moving place) (map-append (λ o. id_of o) us (last ∷ [])) ∙ moves_more place ids (li ∷ [])))
      ∙ ap (λ l. moving place (map (λ o. id_of o) zs) ++ Move li (end_of y r) ∷ gathering y r li l) (sym (turned_ids us [] ∙ append_none (reverse ids)))

  last_in : In last (us ++ last ∷ [])
  last_in = in_right last us (last ∷ []) (inl refl)

  turned_in : (o : Operation) → In o (turned_onto us []) → In o (us ++ last ∷ [])
  turned_in o i = in_left o us (last ∷ []) (subst (In o) (append_none us) (in_turned us [] o i))

  -- all of them are before y
  abbrev coming_first : Out x y r insertion hx hy deep x_opened x_plain y_opened y_plain args B (turned_onto (us ++ last ∷ []) []) [] m1 → Coming x y r insertion hx hy deep x_opened x_plain y_opened y_plain args B News (last ∷ turned_onto us []) [] m1
  coming_first o = record {
    across = o.across;
    into = o.into;
    moved = λ p i. o.moved p (subst (In p) (sym (turned_last us [] last)) i);
    came = λ p i. absurd i;
    first = tt;
    fits = λ p i. absurd i;
    moved_fits = λ p i. o.moved_fits p (subst (In p) (sym (turned_last us [] last)) i);
    turned = subst (λ l. AllTurned l [] m1.tree) (turned_last us [] last) o.turned;
    news = λ v h p i. absurd i;
  }

  Sides : (n : Module) → Across x y insertion hx hy deep n → (n2 : Module) → Across x y insertion hx hy deep n2 → Type 0
  Sides n s n2 s2 =
      (q : ℕ) (targs : List TypeTerm) (ws : List Operation) → ((o : Operation) → In o ws → IsWithinLimits x y insertion hx hy deep o) → ((z o : Operation) → In z (us ++ last ∷ []) → In o ws → has_id (head z).id o ≡ false)
      → Side x y r insertion hx hy deep x_opened x_plain y_opened y_plain args B q targs ws n s → Side x y r insertion hx hy deep x_opened x_plain y_opened y_plain args B q targs ws n2 s2

  pub bring : ((v : Value) → News v → (o : Operation) → In o (us ++ last ∷ []) → eqb (owner_of v).0 (head o).id ≡ false) → LastDominatedBy → Brought
  unfolding Sides
  bring apart dominated_by_last =
      let p1 = phase_out x y r insertion hx hy deep x_opened x_plain y_opened y_plain args B zs [] m start in
      let c1 = coming_first p1.out in
      let zf = c1.moved_fits last (inl refl) in
      let before = (c1.moved last (inl refl)).0 in
      let at = (c1.moved last (inl refl)).1 in
      let next = record m1 { tree = put (end_of y r) last (without (head last).id m1.tree) } in
      let stays2 = stays_both x y r insertion hx hy deep x_opened x_plain y_opened y_plain args B zs (last ∷ []) m m1 next p1.stays (in_step_stays x y r insertion hx hy deep x_opened x_plain y_opened y_plain args B News last rs [] m1 c1) zs (λ o i. i) only in
      let across = inwards.in_across x y r insertion hx hy deep y_opened y_plain m1 c1.across c1.into last before at [] c1.came c1.first zf c1.fits c1.turned.0.1 c1.turned.0.0 in
      let into = inwards.in_block x y r insertion hx hy deep y_opened y_plain m1 c1.across c1.into last before at [] c1.came c1.first zf c1.fits c1.turned.0.1 c1.turned.0.0 y r zf.y_out c1.into in
      let inside = inwards.now_inside x y r insertion hx hy deep y_opened y_plain m1 c1.across c1.into last before at [] c1.came c1.first zf c1.fits c1.turned.0.1 c1.turned.0.0 in
      let trailing = inwards.in_last x y r insertion hx hy deep y_opened y_plain m1 c1.across c1.into last before at [] c1.came c1.first zf c1.fits c1.turned.0.1 c1.turned.0.0 refl in
      let e = entered x y r insertion hx hy deep x_opened x_plain y_opened y_plain args B News last rs [] m1 c1 (λ v h o i. one_only next v (dominated_by_last next across into stays2 inside trailing v h) o i) in
      let m2 = edited (Move (head last).id (end_of y r)) m1 in
      let p3 = phase_in x y r insertion hx hy deep x_opened x_plain y_opened y_plain args B News rs last [] m2 e.0 (λ v h o i. apart v h o (turned_in o i)) in
      let m3 = all_edited (gathering y r (head last).id (map (λ o. id_of o) rs)) m2 in
      let sides : Sides m start.across m3 p3.coming.across = (λ q targs ws wf lacks side. p3.sides q targs ws wf (λ z o i j. lacks z o (turned_in z i) j) (e.2 q targs ws wf (λ o j. lacks last o last_in j) (p1.sides q targs ws wf lacks side))) in
      let packed = subst (λ l. (c : Coming x y r insertion hx hy deep x_opened x_plain y_opened y_plain args B News [] l m3) × Sides m start.across m3 c.across) (turned_twice us [] (last ∷ [])) (p3.coming, sides) in
      record {
        after = m3;
        free = λ fs k. subst (λ l. Free (l ++ fs) m) (sym edits_are)
            (subst (λ l. Free l m) (sym (append_assoc (moving place (map (λ o. id_of o) zs)) (Move (head last).id (end_of y r) ∷ gathering y r (head last).id (map (λ o. id_of o) rs)) fs))
            (p1.free (Move (head last).id (end_of y r) ∷ gathering y r (head last).id (map (λ o. id_of o) rs) ++ fs) (in_step_reason x y r insertion hx hy deep x_opened x_plain y_opened y_plain args B News last rs [] m1 c1, p3.free fs k)));
        coming = packed.0;
        stays = stays_both x y r insertion hx hy deep x_opened x_plain y_opened y_plain args B zs zs m m2 m3 (stays_both x y r insertion hx hy deep x_opened x_plain y_opened y_plain args B zs (last ∷ []) m m1 m2 p1.stays e.1 zs (λ o i. i) only)
            (stays_both x y r insertion hx hy deep x_opened x_plain y_opened y_plain args B rs [] m2 m3 m3 p3.stays (stays_none x y r insertion hx hy deep x_opened x_plain y_opened y_plain args B m3) zs turned_in (λ o i. absurd i)) zs (λ o i. i) (λ o i. i);
        sides = packed.1;
      }
    where
      only : (o : Operation) → In o (last ∷ []) → In o (us ++ last ∷ [])
      only o (inl e) = subst (λ q. In q (us ++ last ∷ [])) (sym e) last_in
      only o (inr i) = absurd i

      one_only : (n : Module) (v : Value) → dominated_by (head last).id v n ≡ true → (o : Operation) → In o (last ∷ []) → dominated_by (head o).id v n ≡ true
      one_only n v e o (inl i) = ap (λ (q : Operation). dominated_by (head q).id v n) i ∙ e
      one_only n v e o (inr i) = absurd i
