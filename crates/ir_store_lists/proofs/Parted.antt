-- Labels still increase after some nodes of a list are relabelled within the free labels.
use Rattle.std.proofs.Common.{◌≡◌, ℕ, ◌+◌, ◌<◌, List, [], ◌∷◌, ◌++◌, take, drop, refl, sym, ap, ◌∙◌, subst, length, true, false, eqb, ⊎_elim, arith}
use Rattle.std.proofs.lemmas.Bool.{cases_eq, cases_Bool, eq-eqb, or_left, false≢true}
use Rattle.std.proofs.lemmas.List.{take-append-drop}
use Rattle.ir_store_lists.specs.Lists.{Lists, Laws, Once, list_at, home_at, has, IsItem}
use Rattle.ir_store_lists.specs.Labels.{label_at, RisesFrom, label_before, last_label, from, spread, IsHeadroom, Rising}
use Rattle.ir_store_lists.proofs.Laws.{weaker, rises_same}
use Rattle.ir_store_lists.proofs.Spreads.{Labelled, length-spread, spread_else, spread_rises, last_most}
use Rattle.ir_store_lists.proofs.Parts.{Around, around, before_around, rises_parts, rises_join, last_same, has_left, has_right, once_left, once_right, once_apart, drop_first}
use Rattle.ir_store_lists.proofs.Kept.{list_labelled}

-- along a list whose first nodes get new labels
module _ (labels : List ℕ) (low count gap : ℕ) (rest : List ℕ) (headroom : IsHeadroom labels low count gap rest) (o : Once rest) (l : Labelled (length labels) rest) where
  abbrev seg : List ℕ
  seg = take count rest

  abbrev back : List ℕ
  back = drop count rest

  abbrev new : List ℕ
  new = spread gap (low + gap) seg labels

  joined : seg ++ back ≡ rest
  joined = take-append-drop count rest

  once_both : Once (seg ++ back)
  once_both = subst Once (sym joined) o

  seg_labelled : Labelled (length labels) seg
  seg_labelled = λ y e. l y (subst (λ z. has y z ≡ true) joined (has_left y seg back e))

  -- a node of the list that isn't relabelled keeps its label
  back_same : (y : ℕ) → has y back ≡ true → label_at new y ≡ label_at labels y
  back_same y e = spread_else gap (low + gap) seg labels y (⊎_elim (λ w. absurd (false≢true (sym (once_apart y seg back once_both w) ∙ e))) (λ w. w) (cases_Bool (has y seg)))

  rises_back : (ks : List ℕ) → back ≡ ks → (under : ℕ) → RisesFrom labels under ks → RisesFrom new (last_label new (low + gap) seg) ks
  rises_back [] e under r = tt
  rises_back (b ∷ bs) e under r =
      let here : label_at new b ≡ label_at labels b = back_same b (subst (λ z. has b z ≡ true) (sym e) (has_left b (b ∷ []) bs (or_left (eqb b b) false (eq-eqb b b refl)))) in
      let most = last_most gap (low + gap) (low + gap) seg labels (omega arith) (once_left seg back once_both) seg_labelled in
      let below = headroom.below b (drop_first count b rest bs e) in (
        omega (arith, here, most, below),
        subst (λ w. RisesFrom new w bs) (sym here)
            (rises_same labels new (label_at labels b) bs (λ y t. back_same y (subst (λ z. has y z ≡ true) (sym e) (has_right y (b ∷ []) bs t))) r.1),
      )

  pub part_rises : RisesFrom labels low rest → RisesFrom new (low + gap) rest
  part_rises r =
      let p = rises_parts labels low seg back (subst (RisesFrom labels low) (sym joined) r) in
      subst (RisesFrom new (low + gap)) joined
      (rises_join new (low + gap) seg back
      (spread_rises gap (low + gap) seg labels headroom.some (once_left seg back once_both) seg_labelled)
      (rises_back back refl (last_label labels low seg) p.1))

  -- a node of another list keeps its label
  pub part_else : (y : ℕ) → has y rest ≡ false → label_at new y ≡ label_at labels y
  part_else y e = spread_else gap (low + gap) seg labels y (⊎_elim (λ w. absurd (false≢true (sym e ∙ subst (λ z. has y z ≡ true) joined (has_left y seg back w)))) (λ w. w) (cases_Bool (has y seg)))

-- the same for the first of the nodes
pub record Parted (c : Lists) (new : List ℕ) (t label : ℕ) : Type 0 where
  pub rising : Rising c new
  pub low : label_before new 0 t (list_at c.lists (home_at c.homes t)) < label
  pub high : label < label_at new t

parted_around : (c : Lists) (labels : List ℕ) (t low count gap : ℕ) → Laws c.lists c.homes → IsItem c.homes t → Rising c labels
    → low ≡ label_before labels 0 t (list_at c.lists (home_at c.homes t))
    → (a : Around t (list_at c.lists (home_at c.homes t)))
    → IsHeadroom labels low count gap (t ∷ a.tail) → Parted c (spread gap (low + gap) (take count (t ∷ a.tail)) labels) t (low + gap)
parted_around c labels t low count gap laws item r el a headroom =
    let h = home_at c.homes t in
    let list = list_at c.lists h in
    let rest = t ∷ a.tail in
    let new = spread gap (low + gap) (take count rest) labels in
    let parts = rises_parts labels 0 a.preceding rest (subst (RisesFrom labels 0) (sym a.whole) (r.rises h)) in
    let low_is : low ≡ last_label labels 0 a.preceding = el ∙ ap (label_before labels 0 t) (sym a.whole) ∙ before_around labels 0 t a.preceding a.tail a.absent in
    let along : RisesFrom labels low rest = subst (λ w. RisesFrom labels w rest) (sym low_is) parts.1 in
    let once_all : Once (a.preceding ++ rest) = subst Once (sym a.whole) (laws.once h) in
    let inside : (y : ℕ) → has y rest ≡ true → has y list ≡ true = λ y e. subst (λ z. has y z ≡ true) a.whole (has_right y a.preceding rest e) in
    let labelled : Labelled (length labels) rest = λ y e. list_labelled c h labels laws r y (inside y e) in
    let up : RisesFrom new (low + gap) rest = part_rises labels low count gap rest headroom (once_right a.preceding rest once_all) labelled along in
    let others : (y : ℕ) → has y rest ≡ false → label_at new y ≡ label_at labels y = part_else labels low count gap rest headroom (once_right a.preceding rest once_all) labelled in
    let preceding_same : (y : ℕ) → has y a.preceding ≡ true → label_at new y ≡ label_at labels y = λ y e. others y (once_apart y a.preceding rest once_all e) in
    let preceding_last : last_label new 0 a.preceding ≡ low = last_same labels new 0 a.preceding preceding_same ∙ sym low_is in
    let some : 0 < gap = headroom.some in
    let own : RisesFrom new 0 list =
    subst (RisesFrom new 0) a.whole
    (rises_join new 0 a.preceding rest (rises_same labels new 0 a.preceding preceding_same parts.0)
    (subst (λ w. RisesFrom new w rest) (sym preceding_last) (weaker new low (low + gap) rest (omega arith) up))) in
    let before : label_before new 0 t list ≡ low = ap (label_before new 0 t) (sym a.whole) ∙ before_around new 0 t a.preceding a.tail a.absent ∙ preceding_last in
    record {
      rising = record {
        rises = λ k. ⊎_elim
            (λ e. subst (λ w. RisesFrom new 0 (list_at c.lists w)) (sym e) own)
            (λ n. rises_same labels new 0 (list_at c.lists k)
            (λ y e. others y (⊎_elim (λ w. absurd (n (sym (laws.members k y e).0 ∙ (laws.members h y (inside y w)).0))) (λ w. w) (cases_Bool (has y rest))))
            (r.rises k))
            (cases_eq k h);
        long = length-spread gap (low + gap) (take count rest) labels ∙ r.long;
        few = r.few;
      };
      low = omega (arith, before, some);
      high = up.0;
    }

pub parted : (c : Lists) (labels others : List ℕ) (t low count gap : ℕ) → Laws c.lists c.homes → IsItem c.homes t → Rising c labels
    → low ≡ label_before labels 0 t (list_at c.lists (home_at c.homes t))
    → IsHeadroom labels low count gap (from t (list_at c.lists (home_at c.homes t)))
    → others ≡ spread gap (low + gap) (take count (from t (list_at c.lists (home_at c.homes t)))) labels → Parted c others t (low + gap)
parted c labels others t low count gap laws item r el headroom en =
    let h = home_at c.homes t in
    let a = around t (list_at c.lists h) (laws.covers t item) in
    let headroom' = subst (IsHeadroom labels low count gap) a.rest headroom in
    subst (λ z. Parted c z t (low + gap)) (sym en)
    (subst (λ z. Parted c (spread gap (low + gap) (take count z) labels) t (low + gap)) (sym a.rest)
    (parted_around c labels t low count gap laws item r el a headroom'))
