-- Held operations, by the reads of them.
use Rattle.std.proofs.Common.{◌≡◌, refl, ap, sym, ◌∙◌, ℕ, eqb, eq-eqb, cond, false, true≢false, Option, Some, None}
use Rattle.std.specs.Prelude.{option_map, unwrap_or}
use Rattle.std.specs.Cmp.{nat_cmp_total}
use Rattle.std.specs.FinMap as finmap
use Rattle.ir_tree.specs.declared.place.Place.{Place}
use Rattle.ir_tree.specs.Tree.{Op, op, head}
use Rattle.ir_tree.specs.Ids.{HasDistinctIds, has_id, find, first_of}
use Rattle.ir_tree.specs.Places.{place_of, without}
use Rattle.ir_tree.proofs.Returns.{put_take}
use Rattle.ir_tree_laws.specs.Reasons.{take_reason, holds_none, unused}
use Rattle.ir_tree_laws.proofs.Around.{absent_find, member_of_place}
use Rattle.ir_tree_laws.proofs.Members.{stand_found}
use Rattle.ir_tree_laws.proofs.Reasoned.{no_take_reason}
use Rattle.ir_store_lists.proofs.Tables.{eq_nat}
use Rattle.ir_store.specs.Nodes.{Node, node_of}
use Rattle.ir_store.specs.Stored.{Stored, known}
use Rattle.ir_store.specs.Calls.{CanRetract, after_restore, after_take, hold, put_held}

-- a known operation that isn't in the module is held
pub held_known : (x : ℕ) (s : Stored) (n : Node) → has_id x s.module_of.tree ≡ false → Some n ≡ option_map node_of (known x s) → (o : Op) × (finmap.get s.held x ≡ Some o) × (n.head ≡ head o)
held_known x s n a e = go (finmap.get s.held x) refl (e ∙ ap (λ z. option_map node_of (first_of z (finmap.get s.held x))) (absent_find x s.module_of.tree a))
  where
    go : (m : Option Op) → finmap.get s.held x ≡ m → Some n ≡ option_map node_of m → (o : Op) × (finmap.get s.held x ≡ Some o) × (n.head ≡ head o)
    go None f h = absurd cc
    go (Some (op k rs)) f h = (op k rs, f, ap (λ (z : Node). z.head) (ap (λ z. unwrap_or z (node_of (op k rs))) h))

pub same_held : (a b : Op) (m : Option Op) → m ≡ Some a → m ≡ Some b → a ≡ b
same_held a b m e f = ap (λ z. unwrap_or z a) (sym e ∙ f)

-- an operation that was taken out and inserted again can be taken out
pub taken_back : (x : ℕ) (place : Place) (s u : Stored) → HasDistinctIds s.module_of.tree → place_of x s.module_of.tree ≡ Some place → take_reason x s.module_of.tree ≡ None → u ≡ after_restore x place false (after_take x s) → CanRetract x false u
taken_back x place s u d p r e =
    let t = s.module_of.tree in
    let n = no_take_reason x t r in
    let m = member_of_place x place t p in
    let o = m.0.here in
    let found : find x t ≡ Some o = ap (λ z. find z t) (sym m.2) ∙ stand_found t d m.0 m.1 in
    let held : finmap.get (hold x (find x t) s.held) x ≡ Some o =
    ap (λ z. finmap.get (hold x z s.held) x) found ∙ finmap.get-insert nat_cmp_total s.held x o x ∙ ap (λ b. cond b (Some o) (finmap.get s.held x)) (eq_nat x x ∙ eq-eqb x x refl) in
    let same : u.module_of.tree ≡ t = ap (λ (z : Stored). z.module_of.tree) e ∙ ap (λ z. put_held place z (without x t)) held ∙ put_take x place o t d p found in
    record {
      there = ap (has_id x) same ∙ n.there;
      inner = ap (λ z. eqb (head z).id x) same ∙ n.inner;
      empty = ap (λ z. holds_none (find x z)) same ∙ n.empty;
      unused = ap (unused x) same ∙ n.spared;
      newest = λ h. absurd (true≢false (sym h));
    }
