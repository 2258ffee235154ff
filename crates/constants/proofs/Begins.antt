-- A table that was built in order has the values that the walk finds.
use Rattle.std.proofs.Common.{◌≡◌, ℕ, List, [], ◌∷◌, Option, Some, None, inl, inr, refl, sym, ap, ◌∙◌, subst, map}
use Rattle.ir_event.specs.trees.Ids.{ids, HasDistinctIds}
use Rattle.ir_event.specs.trees.Meaning.{Operation}
use Rattle.ir_event.specs.tree_laws.Members.{In}
use Rattle.std.specs.Ordering.{nat_cmp}
use Rattle.std.specs.Map.{lookup}
use Rattle.std.specs.BTreeMap.{is_at}
use Rattle.listeners_support.specs.Map.{IdMap}
use Rattle.ir_event.specs.types.declared.bits.Bits.{Bits}
use Rattle.dialects_int.specs.Folds.{known_of}
use Rattle.ir_event.specs.types.Terms.{name_term, type_term, attr_term}
use Rattle.ir_event.proofs.of_trees.Mapped.{map_ids}
use Rattle.ir_event.specs.declared.world.World.{World}
use Rattle.ir_event.specs.Modules.{module_in}
use Rattle.ir_event.proofs.Steps.{wellformed_meaning}
use Rattle.ir_event.specs.Heads.{heads}
use Rattle.constants.specs.Facts.{Header, Facts, look, folded, folded_if}
use Rattle.constants.specs.Walk.{with_fact, walk, facts_of, AreOrdered}
use Rattle.constants.proofs.Knowing.{listed}
use Rattle.constants.proofs.Looked.{look_heads}
use Rattle.ir_event.proofs.Flat.{heads_ids}
use Rattle.constants.proofs.Ordering.{ordered_tree}
use Rattle.constants.specs.Tables.{known_in, look_in, WalkedIds}

-- along the operations of the module
walked_heads : (ops : ℕ → Option Header) (hs : List Header) (a b : Facts) → ((h : Header) → In h hs → ops h.id ≡ Some h) → WalkedIds ops (map (λ (h : Header). h.id) hs) a b → (y : ℕ) → b y ≡ walk hs a y
walked_heads ops [] a b there w y = w y
walked_heads ops (h ∷ hs) a b there w y =
    let here : ops h.id ≡ Some h = there h (inl refl) in
    let m : w.0 ≡ with_fact h.id (folded h a) a = λ i z. (w.1 (h, here) z ∙ ap (λ o. with_fact h.id (folded_if o a) a z) here) i in
    walked_heads ops hs w.0 b (λ k i. there k (inr i)) w.2 y ∙ ap (λ (z : Facts). walk hs z y) m

pub walked_facts : (t : Operation) (xs : List ℕ) (a b : Facts) → HasDistinctIds t → AreOrdered [] (heads t) → xs ≡ ids t → ((y : ℕ) → a y ≡ None) → WalkedIds (look t) xs a b → (y : ℕ) → b y ≡ facts_of t y
walked_facts t xs a b d ordered is vacant w y =
    walked_heads (look t) (heads t) a b (λ h i. sym (look_heads h.id t) ∙ (listed [] (heads t) h ordered i).0) (subst (λ l. WalkedIds (look t) l a b) (is ∙ sym (heads_ids t)) w) y
    ∙ ap (λ (z : Facts). walk (heads t) z y) (λ i z. vacant z i)

-- a table built for a module
pub begun : (w : World) (a b : Facts) → ((y : ℕ) → a y ≡ None) → WalkedIds (look_in w) (ids w.store.module_of.tree) a b → HasDistinctIds (module_in w).tree × ((y : ℕ) → b y ≡ facts_of (module_in w).tree y)
begun w a b vacant walked =
    let same : ids (module_in w).tree ≡ ids w.store.module_of.tree = map_ids (name_term w.ctx) (type_term w.ctx) (attr_term w.ctx) w.store.module_of.tree in
    let f = wellformed_meaning w.ctx w.store.module_of w.wellformed in
    (f.distinct, walked_facts (module_in w).tree (ids w.store.module_of.tree) a b f.distinct (ordered_tree (module_in w).tree f.distinct f.wellformed.visible) (sym same) vacant walked)

pub vacant : (m : IdMap Bits) → m.entries ≡ [] → (y : ℕ) → known_in m y ≡ None
vacant m e y = ap (λ (es : List (ℕ × Bits)). known_of (lookup (is_at (nat_cmp y)) es)) e
