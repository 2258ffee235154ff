-- The lists of slots that a release visits.
use Rattle.std.proofs.Common.{◌≡◌, ◌⊎◌, ℕ, zero, suc, ◌<◌, List, [], ◌∷◌, ◌++◌, set, refl, sym, ap, ◌∙◌, subst, length, Bool, true, false, arith, Option, Some, None, ⊎_elim, inl, inr}
use Rattle.std.specs.Prelude.{if◌then◌else◌, IfSome}
use Rattle.std.proofs.lemmas.Bool.{cases_eq, false≢true}
use Rattle.std.proofs.lemmas.List.{get_or-set_same, get_or-set_other, length-set, length-append}
use Rattle.ir_store_lists.specs.Lists.{IsHead, IsItem, IsFree, home_at, free}
use Rattle.ir_store_slots.specs.Rows.{Row, row_at}
use Rattle.ir_store_slots.specs.Right.{Used}
use Rattle.ir_store_slots.specs.Marks.{has_gone, mark, home_of, node_of_slot, Marked, CanMark, CanPut, Reaches}

pub home_push : (homes : List ℕ) (u : ℕ) → home_at (homes ++ free ∷ []) u ≡ home_at homes u
home_push [] zero = refl
home_push [] (suc u) = refl
home_push (h ∷ homes) zero = refl
home_push (h ∷ homes) (suc u) = home_push homes u

pub set_twice : (homes : List ℕ) (u a b : ℕ) → set (set homes u a) u b ≡ set homes u b
set_twice [] u a b = refl
set_twice (h ∷ homes) zero a b = refl
set_twice (h ∷ homes) (suc u) a b = ap (λ z. h ∷ z) (set_twice homes u a b)

pub set_as_is : (homes : List ℕ) (u : ℕ) → home_at homes u ≡ free → u < length homes → set homes u free ≡ homes
set_as_is [] u e l = refl
set_as_is (h ∷ homes) zero e l = ap (λ z. z ∷ homes) (sym e)
set_as_is (h ∷ homes) (suc u) e l = ap (λ z. h ∷ z) (set_as_is homes u e (omega (arith, l)))

apart : (u k : ℕ) → (u ≡ k → ⊥) → node_of_slot u ≡ node_of_slot k → ⊥
apart u k n e = n (omega (arith, e))

-- another row is written into a slot
pub marked_edit : (slots slots' : List Row) (marks marks' : List ℕ) (k : ℕ) → Marked slots marks → node_of_slot k < length marks → ((q : ℕ) → (q ≡ k → ⊥) → row_at slots' q ≡ row_at slots q)
    → marks' ≡ set marks (node_of_slot k) (home_of (mark (row_at slots' k))) → Marked slots' marks'
marked_edit slots slots' marks marks' k m inside same e =
    let long : length marks' ≡ length marks = ap length e ∙ length-set marks (node_of_slot k) (home_of (mark (row_at slots' k))) in
    let at : (u : ℕ) → (u ≡ node_of_slot k → ⊥) → home_at marks' u ≡ home_at marks u = λ u n. ap (λ z. home_at z u) e ∙ get_or-set_other marks (node_of_slot k) u (home_of (mark (row_at slots' k))) free n in
    record {
      held = record { inside = omega (arith, m.held.inside, long); own = at 0 (λ z. omega (arith, z)) ∙ m.held.own };
      lacking = record { inside = omega (arith, m.lacking.inside, long); own = at 1 (λ z. omega (arith, z)) ∙ m.lacking.own };
      inside = λ q u. ⊎_elim
          (λ z. omega (arith, inside, long, z))
          (λ n. let w = m.inside q (record { used = sym (ap (λ z. z.used) (same q n)) ∙ u.used }) in omega (arith, w, long))
          (cases_eq q k);
      home = λ q. ⊎_elim
          (λ z. ap (λ w. home_at marks' (node_of_slot w)) z ∙ ap (λ w. home_at w (node_of_slot k)) e ∙ get_or-set_same marks (node_of_slot k) (home_of (mark (row_at slots' k))) free inside ∙ ap (λ w. home_of (mark (row_at slots' w))) (sym z))
          (λ n. at (node_of_slot q) (apart q k n) ∙ m.home q ∙ ap (λ r. home_of (mark r)) (sym (same q n)))
          (cases_eq q k);
    }

-- rows are written that belong to the same lists
pub marked_same : (slots slots' : List Row) (marks : List ℕ) → Marked slots marks → ((q : ℕ) → mark (row_at slots' q) ≡ mark (row_at slots q)) → ((q : ℕ) → (row_at slots' q).used ≡ (row_at slots q).used) → Marked slots' marks
marked_same slots slots' marks m same used = record {
  held = m.held;
  lacking = m.lacking;
  inside = λ q u. m.inside q (record { used = sym (used q) ∙ u.used });
  home = λ q. m.home q ∙ ap home_of (sym (same q));
}

-- more nodes are added
pub marked_more : (slots : List Row) (marks more : List ℕ) → Marked slots marks → Reaches marks more → Marked slots more
marked_more slots marks more m r = record {
  held = record { inside = omega (arith, m.held.inside, r.longer); own = r.same 0 ∙ m.held.own };
  lacking = record { inside = omega (arith, m.lacking.inside, r.longer); own = r.same 1 ∙ m.lacking.own };
  inside = λ q u. let w = m.inside q u in omega (arith, w, r.longer);
  home = λ q. r.same (node_of_slot q) ∙ m.home q;
}

pub reach_none : (marks : List ℕ) → Reaches marks marks
reach_none marks = record { longer = omega arith; same = λ u. refl }

pub reach_more : (marks more next : List ℕ) → Reaches marks more → next ≡ more ++ free ∷ [] → Reaches marks next
reach_more marks more next r e = record {
  longer = omega (arith, r.longer, ap length e, length-append more (free ∷ []));
  same = λ u. ap (λ z. home_at z u) e ∙ home_push more u ∙ r.same u;
}

low_mark : (b : Row) → (home_of (mark b) ≡ free) ⊎ (home_of (mark b) < 2)
low_mark b = go b.used b.live (has_gone b.gone)
  where
    go : (u l g : Bool) → (home_of (if l then (if g then Some 1 else None) else (if u then Some 0 else None)) ≡ free) ⊎ (home_of (if l then (if g then Some 1 else None) else (if u then Some 0 else None)) < 2)
    go false false g = inl refl
    go true false g = inr (omega arith)
    go u true true = inr (omega arith)
    go u true false = inl refl

pub can_mark : (slots : List Row) (marks : List ℕ) (k : ℕ) → Marked slots marks → node_of_slot k < length marks → CanMark marks k
can_mark slots marks k m l = record {
  held = m.held;
  lacking = m.lacking;
  inside = l;
  low = subst (λ z. (z ≡ free) ⊎ (z < 2)) (sym (m.home k)) (low_mark (row_at slots k));
}

pub can_mark_used : (slots : List Row) (marks : List ℕ) (k : ℕ) → Marked slots marks → Used slots k → CanMark marks k
can_mark_used slots marks k m u = can_mark slots marks k m (m.inside k u)

pub can_put : (marks : List ℕ) (k : ℕ) (b : Row) (u : ℕ) (list : Option ℕ) → length marks < free → u ≡ node_of_slot k → list ≡ mark b → CanMark marks k → CanPut marks u list
can_put marks k b u list few eu el c = subst (λ z. CanPut marks z list) (sym eu) (subst (CanPut marks (node_of_slot k)) (sym el) (record {
  inside = c.inside;
  other = λ e. ⊎_elim (λ f. omega (arith, e, f, c.inside, few)) (λ f. omega (arith, e, f)) c.low;
  head = go b.used b.live (has_gone b.gone);
  apart = far b.used b.live (has_gone b.gone);
}))
  where
    go : (u l g : Bool) → IfSome (if l then (if g then Some 1 else None) else (if u then Some 0 else None)) (λ h. IsHead marks h)
    go false false g = tt
    go true false g = c.held
    go u true true = c.lacking
    go u true false = tt

    far : (u l g : Bool) → IfSome (if l then (if g then Some 1 else None) else (if u then Some 0 else None)) (λ h. h ≡ node_of_slot k → ⊥)
    far false false g = tt
    far true false g = λ e. omega (arith, e)
    far u true true = λ e. omega (arith, e)
    far u true false = tt

-- a node is first removed from its list
pub put_item : (marks : List ℕ) (u : ℕ) (list : Option ℕ) → CanPut marks u list → (home_at marks u ≡ free → ⊥) → IsItem marks u
put_item marks u list c n = record { inside = c.inside; linked = n; other = c.other }

pub put_free : (marks mid : List ℕ) (u : ℕ) (list : Option ℕ) → CanPut marks u list → mid ≡ set marks u free → IsFree mid u
put_free marks mid u list c e = record {
  inside = omega (arith, c.inside, ap length e, length-set marks u free);
  unlinked = ap (λ z. home_at z u) e ∙ get_or-set_same marks u free free c.inside;
}

pub put_head : (marks mid : List ℕ) (u h : ℕ) → IsHead marks h → (h ≡ u → ⊥) → mid ≡ set marks u free → IsHead mid h
put_head marks mid u h i n e = record {
  inside = omega (arith, i.inside, ap length e, length-set marks u free);
  own = ap (λ z. home_at z h) e ∙ get_or-set_other marks u h free free n ∙ i.own;
}

-- no slots
pub marked_none : (marks more : List ℕ) → marks ≡ 0 ∷ 1 ∷ [] → Reaches marks more → Marked [] more
marked_none marks more e r =
    let f : Reaches (0 ∷ 1 ∷ []) more = subst (λ z. Reaches z more) e r in
    record {
      held = record { inside = omega (arith, f.longer); own = f.same 0 };
      lacking = record { inside = omega (arith, f.longer); own = f.same 1 };
      inside = λ q u. absurd (false≢true u.used);
      home = λ q. f.same (node_of_slot q);
    }

pub grow_there : (k : ℕ) (slots : List Row) (marks : List ℕ) (count : ℕ) → k < length slots → count ≡ length slots → suc count < length marks → node_of_slot k < length marks
grow_there k slots marks count l e t = omega (arith, l, e, t)
