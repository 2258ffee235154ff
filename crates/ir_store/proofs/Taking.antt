-- How the slots change when an operation is taken out.
use Rattle.std.proofs.Common.{◌≡◌, ℕ, zero, suc, List, [], ◌∷◌, map, set, refl, sym, ap, ◌∙◌, subst, length, true, false, eqb, cond, ◌&&◌, ⊎_elim, arith, Option, Some, None, slice_get}
use Rattle.std.specs.Prelude.{Result, Ok, Err, if◌then◌else◌}
use Rattle.ir_store_reads.specs.types.declared.refusal.Refusal.TheVariants.{NotEmpty}
use Rattle.std.specs.Ordering.{nat_cmp}
use Rattle.std.specs.Cmp.{nat_cmp_total}
use Rattle.std.specs.FinMap as finmap
use Rattle.std.proofs.lemmas.Bool.{cases_eq, eq-eqb, ne_eqb, cond-true, cond-false, cases_Bool, false≢true}
use Rattle.std.proofs.lemmas.List.{get_or-set_same, get_or-set_other, length-set}
use Rattle.ir_store_reads.specs.Lists.{Lists, list_at, home_at, free, IsHead, IsFree, without as drop_node}
use Rattle.ir_store_reads.proofs.Cuts.{list_at-map}
use Rattle.ir_store_reads.specs.types.declared.refusal.Refusal.{Refusal}
use Rattle.ir_store_reads.specs.trees.Tree.{Op, op, Regions, no_regions, region, empty, block, Ops, no_ops, next, head, regions}
use Rattle.ir_store_reads.specs.trees.Ids.{has_id, find}
use Rattle.ir_store_reads.specs.trees.Places.{without}
use Rattle.ir_store_reads.specs.tree_laws.Reasons.{hold_none, holds_none}
use Rattle.ir_store_reads.specs.Rows.{Row, RegionShape, row_at, held_in, gone_in, live_slot}
use Rattle.ir_store_reads.specs.Spells.{SpellsOp, SpellsRegions, SpellsOps}
use Rattle.ir_store_reads.specs.Right.{Live, Used, Right}
use Rattle.ir_store_reads.specs.Plans.{is_nil, AllHeads, all_bare, leaf_in, cut_reason}
use Rattle.ir_store_reads.proofs.Mapped.{rows_spells}
use Rattle.ir_store_reads.proofs.Founds.{has_is}
use Rattle.ir_store_reads.proofs.SlotLaws.{Found, found, only, there, missing, root_id, root_live, found_op}
use Rattle.ir_store.proofs.Cut.{not_item, has_cut, cut_lists, has_others, bare_is}
use Rattle.ir_store_reads.proofs.Items.{eq_nat}

-- the heads of blocks
all_heads : (homes : List ℕ) (xs : List RegionShape) → ((r : ℕ) (a : List ℕ × ℕ) → slice_get xs r ≡ Some (Some a) → IsHead homes a.1) → AllHeads homes xs
all_heads homes [] f = tt
all_heads homes (None ∷ xs) f = all_heads homes xs (λ r. f (suc r))
all_heads homes (Some a ∷ xs) f = (f 0 a refl, all_heads homes xs (λ r. f (suc r)))

pub heads_of : (slots : List Row) (keys : ℕ → Option ℕ) (sibs : Lists) (root : ℕ) (t : Op) → Right slots keys sibs root t → (k : ℕ) → Live slots k → AllHeads sibs.homes (row_at slots k).shapes
heads_of slots keys sibs root t r k l = all_heads sibs.homes (row_at slots k).shapes (λ i a e. (r.blocks k i a (r.live_used k l) e).head)

bare_at : (lists : List (List ℕ)) (xs : List RegionShape) → all_bare lists xs ≡ true → (r : ℕ) (a : List ℕ × ℕ) → slice_get xs r ≡ Some (Some a) → list_at lists a.1 ≡ []
bare_at lists [] b r a e = absurd cc
bare_at lists (None ∷ xs) b zero a e = absurd cc
bare_at lists (None ∷ xs) b (suc r) a e = bare_at lists xs b r a e
bare_at lists (Some c ∷ xs) b r a e = go (list_at lists c.1) refl b r e (λ d i f. bare_at lists xs d i a f)
  where
    go : (ks : List ℕ) → list_at lists c.1 ≡ ks → (is_nil ks && all_bare lists xs) ≡ true → (r : ℕ) → slice_get (Some c ∷ xs) r ≡ Some (Some a)
        → (all_bare lists xs ≡ true → (i : ℕ) → slice_get xs i ≡ Some (Some a) → list_at lists a.1 ≡ []) → list_at lists a.1 ≡ []
    go [] f d zero g rest = let same : c ≡ a = cc in subst (λ z. list_at lists z.1 ≡ []) same f
    go [] f d (suc i) g rest = rest d i g
    go (k ∷ ks) f d i g rest = absurd (false≢true d)

module _ (slots : List Row) (lists : List (List ℕ)) where
  bare_holds : (xs : List RegionShape) (rs : Regions) → SpellsRegions slots lists xs rs → all_bare lists xs ≡ hold_none rs
  bare_holds [] no_regions s = refl
  bare_holds [] (region g rs) s = absurd s
  bare_holds (a ∷ xs) no_regions s = absurd s
  bare_holds (None ∷ xs) (region empty rs) s = bare_holds xs rs s.1
  bare_holds (None ∷ xs) (region (block args os) rs) s = absurd s.0
  bare_holds (Some a ∷ xs) (region empty rs) s = absurd s.0
  bare_holds (Some a ∷ xs) (region (block args os) rs) s = go (list_at lists a.1) os s.0.1 (bare_holds xs rs s.1)
    where
      go : (ks : List ℕ) (ps : Ops) → SpellsOps slots lists ks ps → all_bare lists xs ≡ hold_none rs → (is_nil ks && all_bare lists xs) ≡ hold_none (region (block args ps) rs)
      go [] no_ops z e = e
      go [] (next o os) z e = absurd z
      go (k ∷ ks) no_ops z e = absurd z
      go (k ∷ ks) (next o os) z e = refl

  pub holds_is : (k : ℕ) (o : Op) → SpellsOp slots lists k o → all_bare lists (row_at slots k).shapes ≡ hold_none (regions o)
  holds_is k (op h rs) s = bare_holds (row_at slots k).shapes rs s.1.1

-- slot k has operation x of the tree, which isn't the root and has no operations inside it
pub record IsLeaf (slots : List Row) (lists : List (List ℕ)) (root x k : ℕ) : Type 0 where
  pub found : Found slots x k
  pub inner : k ≡ root → ⊥
  pub bare : all_bare lists (row_at slots k).shapes ≡ true

module _ (slots : List Row) (keys : ℕ → Option ℕ) (sibs : Lists) (root : ℕ) (t : Op) (r : Right slots keys sibs root t) (s : SpellsOp slots sibs.lists root t) (x : ℕ) where
  -- the slot that was found, or the reason that none was
  abbrev Planned : Result ℕ Refusal → Type 0
  Planned (Ok k) = IsLeaf slots sibs.lists root x k × (cut_reason x t ≡ None)
  Planned (Err e) = cut_reason x t ≡ Some e

  pub planned : (res : Result ℕ Refusal) → res ≡ leaf_in slots sibs.lists root (live_slot slots keys x) → Planned res
  planned res e = rw e (go (live_slot slots keys x) refl)
    where
      go : (o : Option ℕ) → live_slot slots keys x ≡ o → Planned (leaf_in slots sibs.lists root o)
      go None f = let h : has_id x t ≡ false = sym (has_is x t) ∙ missing slots keys sibs root t r s x f in rw h refl
      go (Some k) f =
          let fd = found slots keys sibs root t r s x k f in
          let h : has_id x t ≡ true = sym (has_is x t) ∙ there slots keys sibs root t r s x k fd in
          let alone = only slots keys sibs root t r s x k fd.live fd.id in
          let o = found_op slots keys sibs root t r s x k fd in
          let b : all_bare sibs.lists (row_at slots k).shapes ≡ holds_none (find x t) = holds_is slots sibs.lists k o.0 o.1.1 ∙ sym (ap holds_none o.1.0) in
          ⊎_elim
          (λ e. let at : eqb k root ≡ true = eq-eqb k root e in
          let id : eqb (head t).id x ≡ true = eq-eqb (head t).id x (sym (root_id slots keys sibs root t r s) ∙ ap (λ z. (row_at slots z).head.id) (sym e) ∙ fd.id) in
          rw at (rw (h, id) refl))
          (λ n. let at : eqb k root ≡ false = ne_eqb k root n in
          let id : eqb (head t).id x ≡ false = ne_eqb (head t).id x (λ z. n (sym (alone root (root_live slots keys sibs root t r s) (root_id slots keys sibs root t r s ∙ z)))) in
          ⊎_elim
          (λ y. let z = sym b ∙ y in let w : IsLeaf slots sibs.lists root x k × (cut_reason x t ≡ None) = (record { found = fd; inner = n; bare = y }, rw (h, id, z) refl) in rw at (subst (λ c. Planned (if c then Ok k else Err NotEmpty)) (sym y) w))
          (λ y. let z = sym b ∙ y in let w : cut_reason x t ≡ Some NotEmpty = rw (h, id, z) refl in rw at (subst (λ c. Planned (if c then Ok k else Err NotEmpty)) (sym y) w))
          (cases_Bool (all_bare sibs.lists (row_at slots k).shapes)))
          (cases_eq k root)

  module _ (k : ℕ) (leaf : IsLeaf slots sibs.lists root x k) (slots' : List Row) (long' : length slots' ≡ length slots)
      (same : (q : ℕ) → (q ≡ k → ⊥) → row_at slots' q ≡ row_at slots q) (gone : row_at slots' k ≡ record (row_at slots k) { live = false })
      (sibs' : Lists) (el : sibs'.lists ≡ map (drop_node k) sibs.lists) (eh : sibs'.homes ≡ set sibs.homes k free) where
    alone : (q : ℕ) → Live slots q → (row_at slots q).head.id ≡ x → q ≡ k
    alone = only slots keys sibs root t r s x k leaf.found.live leaf.found.id

    root_not : eqb (head t).id x ≡ false
    root_not = ne_eqb (head t).id x (λ z. leaf.inner (sym (alone root (root_live slots keys sibs root t r s) (root_id slots keys sibs root t r s ∙ z))))

    pub cut_spells : SpellsOp slots' sibs'.lists root (without x t)
    cut_spells = rows_spells slots slots' sibs'.lists x (λ q l n. same q (λ e. n (ap (λ z. (row_at slots z).head.id) e ∙ leaf.found.id))) root (without x t) (has_cut x t root_not)
        (cut_lists slots sibs.lists sibs'.lists x k leaf.found.id alone el root t s)

    not_k : (q : ℕ) → Live slots' q → q ≡ k → ⊥
    not_k q l e = false≢true (sym (ap (λ z. z.live) gone) ∙ ap (λ z. (row_at slots' z).live) (sym e) ∙ l.live)

    was : (q : ℕ) → Live slots' q → Live slots q
    was q l = record { live = sym (ap (λ z. z.live) (same q (not_k q l))) ∙ l.live }

    -- everything but `live` is unchanged
    kept : {A : Type 0} (f : Row → A) → f (record (row_at slots k) { live = false }) ≡ f (row_at slots k) → (q : ℕ) → f (row_at slots' q) ≡ f (row_at slots q)
    kept f e q = ⊎_elim
        (λ z. ap (λ w. f (row_at slots' w)) z ∙ ap f gone ∙ e ∙ ap (λ w. f (row_at slots w)) (sym z))
        (λ n. ap f (same q n)) (cases_eq q k)

    used_to : (q : ℕ) → Used slots q → Used slots' q
    used_to q u = record { used = kept (λ z. z.used) refl q ∙ u.used }

    used_from : (q : ℕ) → Used slots' q → Used slots q
    used_from q u = record { used = sym (kept (λ z. z.used) refl q) ∙ u.used }

    pub cut_right : Right slots' keys sibs' root (without x t)
    cut_right =
        let item = (r.items k leaf.found.live leaf.inner).item in
        let long : length sibs'.homes ≡ length sibs.homes = ap length eh ∙ length-set sibs.homes k free in
        let home : (q : ℕ) → (q ≡ k → ⊥) → home_at sibs'.homes q ≡ home_at sibs.homes q = λ q ne. ap (λ z. home_at z q) eh ∙ get_or-set_other sibs.homes k q free free ne in
        let head_still : (b : ℕ) → IsHead sibs.homes b → IsHead sibs'.homes b = λ b h. record { inside = omega (arith, h.inside, long); own = home b (not_item sibs.homes b k h item) ∙ h.own } in
        let same_lists : (a : ℕ) → list_at sibs'.lists a ≡ drop_node k (list_at sibs.lists a) = λ a. ap (λ z. list_at z a) el ∙ list_at-map (drop_node k) sibs.lists a refl in
        record {
          few = omega (arith, long, r.few);
          long = long' ∙ r.long ∙ sym long;
          live_used = λ q l. used_to q (r.live_used q (was q l));
          keyed = λ q u. ap keys (kept (λ z. z.head.id) refl q) ∙ r.keyed q (used_from q u);
          known = λ y q e. let old = r.known y q e in record { used = used_to q old.used; id = kept (λ z. z.head.id) refl q ∙ old.id };
          top = record { inside = omega (arith, r.top.inside, long); unlinked = home root (λ e. leaf.inner (sym e)) ∙ r.top.unlinked };
          blocks = λ q i a u e.
              let old = r.blocks q i a (used_from q u) (sym (ap (λ z. slice_get z i) (kept (λ z. z.shapes) refl q)) ∙ e) in
              record { head = head_still a.1 old.head; owner = kept (λ z. z.owner) refl a.1 ∙ old.owner; region = kept (λ z. z.region) refl a.1 ∙ old.region };
          items = λ q l ne.
              let old = r.items q (was q l) ne in
              let h = home q (not_k q l) in
              record {
                item = record { inside = omega (arith, old.item.inside, long); linked = λ g. old.item.linked (sym h ∙ g); other = λ g. old.item.other (sym h ∙ g) };
                head = rw h (head_still (home_at sibs.homes q) old.head);
              };
          held = λ q u d. ⊎_elim
              (λ e. record {
                out = subst (IsFree sibs'.homes) (sym e) (record { inside = omega (arith, item.inside, long); unlinked = ap (λ z. home_at z k) eh ∙ get_or-set_same sibs.homes k free free item.inside });
                bare = λ i a f. same_lists a.1 ∙ ap (drop_node k) (bare_at sibs.lists (row_at slots k).shapes leaf.bare i a (sym (ap (λ z. slice_get z i) (ap (λ z. (row_at slots' z).shapes) e ∙ kept (λ z. z.shapes) refl k)) ∙ f));
              })
              (λ ne.
              let old = r.held q (used_from q u) (sym (ap (λ z. z.live) (same q ne)) ∙ d) in
              record {
                out = record { inside = omega (arith, old.out.inside, long); unlinked = home q ne ∙ old.out.unlinked };
                bare = λ i a f. same_lists a.1 ∙ ap (drop_node k) (old.bare i a (sym (ap (λ z. slice_get z.shapes i) (same q ne)) ∙ f));
              })
              (cases_eq q k);
          covers = λ q l.
              let ne = not_k q l in
              let id = (row_at slots q).head.id in
              let o : id ≡ x → ⊥ = λ e. ne (alone q (was q l) e) in
              ap (λ z. has_id z.head.id (without x t)) (same q ne)
              ∙ sym (has_is id (without x t))
              ∙ has_others slots sibs.lists sibs'.lists x k leaf.found.id alone leaf.bare id o root t s
              ∙ has_is id t ∙ r.covers q (was q l);
        }

    -- the operation is held
    pub cut_holds : (m : finmap.FinMap nat_cmp Op) → ((y : ℕ) → finmap.get m y ≡ held_in slots (keys y)) → (o : Op) → SpellsOp slots sibs.lists k o
        → (y : ℕ) → finmap.get (finmap.insert m x o) y ≡ held_in slots' (keys y)
    cut_holds m h o so y = finmap.get-insert nat_cmp_total m x o y ∙ ap (λ b. cond b (Some o) (finmap.get m y)) (eq_nat y x) ∙ ⊎_elim
        (λ e.
        let at : keys y ≡ Some k = ap keys (e ∙ sym leaf.found.id) ∙ r.keyed k (r.live_used k leaf.found.live) in
        let w : held_in slots' (Some k) ≡ Some o = rw gone (ap Some (bare_is slots sibs.lists k o leaf.bare so)) in
        cond-true (eqb y x) (Some o) (finmap.get m y) (eq-eqb y x e) ∙ sym w ∙ ap (held_in slots') (sym at))
        (λ n. cond-false (eqb y x) (Some o) (finmap.get m y) (ne_eqb y x n) ∙ h y ∙ others y n (keys y) refl)
        (cases_eq y x)
      where
        others : (y : ℕ) → (y ≡ x → ⊥) → (o : Option ℕ) → keys y ≡ o → held_in slots o ≡ held_in slots' o
        others y n None f = refl
        others y n (Some q) f = rw (same q (λ e. n (sym (r.known y q f).id ∙ ap (λ z. (row_at slots z).head.id) e ∙ leaf.found.id))) refl

    pub cut_gone : (y : ℕ) → gone_in slots (keys y) ≡ gone_in slots' (keys y)
    cut_gone y = go (keys y)
      where
        go : (o : Option ℕ) → gone_in slots o ≡ gone_in slots' o
        go None = refl
        go (Some q) = ap Some (sym (kept (λ z. z.gone) refl q))
