-- The operations of a tree whose operands dominate them are in order.
use Rattle.std.proofs.Common.{◌≡◌, ℕ, ◌+◌, List, [], ◌∷◌, ◌++◌, length, Bool, true, false, true≢false, ◌||◌, ◌&&◌, ◌⊎◌, inl, inr, refl, sym, ap, ◌∙◌, subst, cond, eqb, map}
use Rattle.std.specs.Prelude.{nat_lt, IsTrue}
use Rattle.std.specs.List.{list_all, IsDistinct, AllByRecursion}
use Rattle.std.proofs.lemmas.Bool.{eqb-true, eq-eqb}
use Rattle.std.proofs.lemmas.Map.Keys.{IsDistinct-head, IsDistinct-tail}
use Rattle.ir_event.specs.types.Words.{is_isolated}
use Rattle.ir_event.specs.types.Terms.{TypeTerm, AttrTerm}
use Rattle.ir_event.specs.trees.declared.value.Value.{Value}
use Rattle.ir_event.specs.trees.declared.value.Value.TheVariants.{Result, Arg}
use Rattle.ir_event.specs.trees.Tree.{op, RegionsOf, no_regions, region, RegionOf, empty, block, OpsOf, no_ops, next, head}
use Rattle.ir_event.specs.trees.Ids.{HasDistinctIds}
use Rattle.ir_event.specs.trees.Meaning.{Operation}
use Rattle.ir_event.specs.trees.Sites.{Frame, results, arguments, shows, in_scope, results_of, inside, sites, regions_sites, region_sites, ops_sites, dominated_by_operands, operands_visible}
use Rattle.ir_event.specs.tree_laws.Members.{In}
use Rattle.ir_event.proofs.of_tree_laws.Listed.{both}
use Rattle.ir_event.specs.Heads.{heads, regions_heads, region_heads, ops_heads}
use Rattle.ir_event.proofs.Flat.{heads_ids}
use Rattle.constants.specs.Facts.{Header}
use Rattle.constants.specs.Walk.{AllVisited, AreOrdered, visited_after}
use Rattle.constants.proofs.Walks.{visited_stays}
use Rattle.ir_event.proofs.of_types.Truths.{all_parts}

-- the ids are distinct, and none was visited
abbrev Fresh : List ℕ → List Header → Type 0
Fresh visited [] = Unit {0}
Fresh visited (h ∷ hs) = (In h.id visited → ⊥) × Fresh (h.id ∷ visited) hs

fresh_left : (visited : List ℕ) (xs ys : List Header) → Fresh visited (xs ++ ys) → Fresh visited xs
fresh_left visited [] ys h = tt
fresh_left visited (n ∷ xs) ys h = (h.0, fresh_left (n.id ∷ visited) xs ys h.1)

fresh_right : (visited : List ℕ) (xs ys : List Header) → Fresh visited (xs ++ ys) → Fresh (visited_after visited xs) ys
fresh_right visited [] ys h = h
fresh_right visited (n ∷ xs) ys h = fresh_right (n.id ∷ visited) xs ys h.1

ordered_append : (visited : List ℕ) (xs ys : List Header) → AreOrdered visited xs → AreOrdered (visited_after visited xs) ys → AreOrdered visited (xs ++ ys)
ordered_append visited [] ys a b = b
ordered_append visited (n ∷ xs) ys a b = (a.0, a.1, ordered_append (n.id ∷ visited) xs ys a.2 b)

-- the operations whose results dominate this place were visited
abbrev Within : List Frame → List ℕ → Type 0
Within scope visited = (y k : ℕ) → in_scope scope (Result y k) ≡ true → In y visited

any_parts : (v : Value) (scope : List Frame) (f : Frame) → in_scope (scope ++ f ∷ []) v ≡ true → (in_scope scope v ≡ true) ⊎ (shows v f ≡ true)
any_parts v [] f e = inr (last (shows v f) e)
  where
    last : (b : Bool) → (b || false) ≡ true → b ≡ true
    last true e = refl
    last false e = e
any_parts v (g ∷ scope) f e = go (any_parts v scope f) (shows v g) e
  where
    go : (in_scope (scope ++ f ∷ []) v ≡ true → (in_scope scope v ≡ true) ⊎ (shows v f ≡ true)) → (b : Bool) → (b || in_scope (scope ++ f ∷ []) v) ≡ true → ((b || in_scope scope v) ≡ true) ⊎ (shows v f ≡ true)
    go more true e = inl refl
    go more false e = more e

all_visited : (scope : List Frame) (visited : List ℕ) (vs : List Value) → Within scope visited → list_all (in_scope scope) vs ≡ true → AllVisited visited vs
all_visited scope visited [] within e = tt
all_visited scope visited (Result x k ∷ vs) within e = let b = both (in_scope scope (Result x k)) (list_all (in_scope scope) vs) e in (within x k b.0, all_visited scope visited vs within b.1)
all_visited scope visited (Arg x r k ∷ vs) within e = let b = both (in_scope scope (Arg x r k)) (list_all (in_scope scope) vs) e in all_visited scope visited vs within b.1

inside_within : (h : Header) (scope : List Frame) (visited : List ℕ) → Within scope visited → Within (inside is_isolated h scope) (h.id ∷ visited)
inside_within h scope visited within y k = go (is_isolated h.name)
  where
    go : (b : Bool) → in_scope (cond b [] scope) (Result y k) ≡ true → In y (h.id ∷ visited)
    go true e = absurd (true≢false (sym e))
    go false e = inr (within y k e)

arguments_within : (scope : List Frame) (x r n : ℕ) (visited : List ℕ) → Within scope visited → Within (scope ++ arguments x r n ∷ []) visited
arguments_within scope x r n visited within y k e = elim (any_parts (Result y k) scope (arguments x r n) e) [ inl a ↦ within y k a | inr b ↦ absurd (true≢false (sym b)) ]

results_within : (scope : List Frame) (x n : ℕ) (visited : List ℕ) → Within scope visited → In x visited → Within (scope ++ results x n ∷ []) visited
results_within scope x n visited within here y k e = elim (any_parts (Result y k) scope (results x n) e) [
  | inl a ↦ within y k a
  | inr b ↦ subst (λ z. In z visited) (sym (eqb-true y x (both (eqb y x) (nat_lt k n) b).0)) here
]

later : (scope : List Frame) (visited : List ℕ) (hs : List Header) → Within scope visited → Within scope (visited_after visited hs)
later scope visited hs within y k e = visited_stays y visited hs (within y k e)

visited_op : (o : Operation) (visited : List ℕ) → In (head o).id (visited_after visited (heads o))
visited_op (op h rs) visited = visited_stays h.id (h.id ∷ visited) (regions_heads rs) (inl refl)

mutual
  ordered_op : (o : Operation) (scope : List Frame) (visited : List ℕ) → Within scope visited → list_all dominated_by_operands (sites is_isolated scope o) ≡ true → Fresh visited (heads o) → AreOrdered visited (heads o)
  ordered_op (op h rs) scope visited within dominated_by fresh =
      let b = both (list_all (in_scope scope) h.operands) (list_all dominated_by_operands (regions_sites is_isolated (inside is_isolated h scope) h.id 0 rs)) dominated_by in
      (fresh.0, all_visited scope visited h.operands within b.0, ordered_regions rs (inside is_isolated h scope) h.id 0 (h.id ∷ visited) (inside_within h scope visited within) b.1 fresh.1)

  ordered_regions : (rs : RegionsOf (List ℕ) TypeTerm AttrTerm) (scope : List Frame) (x r : ℕ) (visited : List ℕ) → Within scope visited → list_all dominated_by_operands (regions_sites is_isolated scope x r rs) ≡ true → Fresh visited (regions_heads rs)
      → AreOrdered visited (regions_heads rs)
  ordered_regions no_regions scope x r visited within dominated_by fresh = tt
  ordered_regions (region g rs) scope x r visited within dominated_by fresh =
      let b = all_parts dominated_by_operands (region_sites is_isolated scope x r g) (regions_sites is_isolated scope x (r + 1) rs) dominated_by in
      ordered_append visited (region_heads g) (regions_heads rs)
      (ordered_region g scope x r visited within b.0 (fresh_left visited (region_heads g) (regions_heads rs) fresh))
      (ordered_regions rs scope x (r + 1) (visited_after visited (region_heads g)) (later scope visited (region_heads g) within) b.1 (fresh_right visited (region_heads g) (regions_heads rs) fresh))

  ordered_region : (g : RegionOf (List ℕ) TypeTerm AttrTerm) (scope : List Frame) (x r : ℕ) (visited : List ℕ) → Within scope visited → list_all dominated_by_operands (region_sites is_isolated scope x r g) ≡ true → Fresh visited (region_heads g)
      → AreOrdered visited (region_heads g)
  ordered_region empty scope x r visited within dominated_by fresh = tt
  ordered_region (block args os) scope x r visited within dominated_by fresh = ordered_ops os (scope ++ arguments x r (length args) ∷ []) visited (arguments_within scope x r (length args) visited within) dominated_by fresh

  ordered_ops : (os : OpsOf (List ℕ) TypeTerm AttrTerm) (scope : List Frame) (visited : List ℕ) → Within scope visited → list_all dominated_by_operands (ops_sites is_isolated scope os) ≡ true → Fresh visited (ops_heads os) → AreOrdered visited (ops_heads os)
  ordered_ops no_ops scope visited within dominated_by fresh = tt
  ordered_ops (next o os) scope visited within dominated_by fresh =
      let b = all_parts dominated_by_operands (sites is_isolated scope o) (ops_sites is_isolated (scope ++ results_of o ∷ []) os) dominated_by in
      ordered_append visited (heads o) (ops_heads os)
      (ordered_op o scope visited within b.0 (fresh_left visited (heads o) (ops_heads os) fresh))
      (ordered_ops os (scope ++ results_of o ∷ []) (visited_after visited (heads o))
      (results_within scope (head o).id (length (head o).results) (visited_after visited (heads o)) (later scope visited (heads o) within) (visited_op o visited)) b.1 (fresh_right visited (heads o) (ops_heads os) fresh))

-- distinct ids
apart_in : (x y : ℕ) (ys : List ℕ) → AllByRecursion (λ z. eqb x z ≡ false) ys → In y ys → x ≡ y → ⊥
apart_in x y [] a h e = absurd h
apart_in x y (z ∷ zs) a (inl q) e = true≢false (sym (eq-eqb x z (e ∙ q)) ∙ a.0)
apart_in x y (z ∷ zs) a (inr h) e = apart_in x y zs a.1 h e

fresh_if : (visited : List ℕ) (hs : List Header) → ((x : ℕ) → In x visited → In x (map (λ (h : Header). h.id) hs) → ⊥) → IsDistinct eqb (map (λ (h : Header). h.id) hs) → Fresh visited hs
fresh_if visited [] apart d = tt
fresh_if visited (n ∷ hs) apart d = (
  λ h. apart n.id h (inl refl),
  fresh_if (n.id ∷ visited) hs (λ x h g. elim h [ inl e ↦ apart_in n.id x _ (IsDistinct-head eqb n.id _ d) g (sym e) | inr k ↦ apart x k (inr g) ]) (IsDistinct-tail eqb n.id _ d),
)

pub ordered_tree : (t : Operation) → HasDistinctIds t → IsTrue (operands_visible is_isolated t) → AreOrdered [] (heads t)
ordered_tree t d dominated_by = ordered_op t [] [] (λ y k e. absurd (true≢false (sym e))) dominated_by (fresh_if [] (heads t) (λ x h g. h) (subst (IsDistinct eqb) (sym (heads_ids t)) d))
