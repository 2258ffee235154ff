-- Stored dictionaries: sorting keeps the components and the depth of the entries, and leaves sorted entries unchanged.
use Rattle.std.specs.Prelude.{ℕ, List}
use Rattle.std.specs.List.{AllByRecursion}
use Rattle.std.specs.Ordering.{is_lt, nat_cmp}
use Rattle.std.specs.Cmp.Lexicographic.{slice_cmp}
use Rattle.std.proofs.Common.{◌≡◌, suc, ◌+◌, ◌<◌, max, true, false, [], ◌∷◌, length, get_or, slice_get, Some, ap, refl, ◌∙◌, ⊎_elim, arith}
use Rattle.std.proofs.lemmas.List.Elements.{recursion_from_All, All-from_recursion}
use Rattle.ir_types.specs.declared.node.AttrNode.{AttrNode}
use Rattle.ir_types.specs.declared.node.AttrNode.TheVariants as attr
use Rattle.ir_types.specs.Things.{ContextModel, PartsBelow, AttrIsOf}
use Rattle.ir_types.specs.Terms.{TypeTerm, AttrTerm, attr_at, entries_at, attr_from, attr_node_term, type_terms, attr_terms}
use Rattle.ir_types.specs.Depths.{attr_depth, entries_depth}
use Rattle.ir_types.specs.Reasons.{attr_fault, depth_reason}
use Rattle.ir_types.specs.Dictionaries.{key_bytes, comes_before, placed_among, sorted, kept}
use Rattle.ir_types.specs.Sound.{Holds, IsRising, IsKept}
use Rattle.ir_types.proofs.Building.{Agree}
use Rattle.std.proofs.lemmas.Bool.{cases_Bool}

-- a property of each entry is kept
module _ (names : List (List ℕ)) (P : ℕ × ℕ → Type 0) where
  placed_all : (e : ℕ × ℕ) (fs : List (ℕ × ℕ)) → P e → AllByRecursion P fs → AllByRecursion P (placed_among names e fs)
  placed_all e [] p all = (p, tt)
  placed_all e (f ∷ fs) p all = ⊎_elim
      (λ (t : comes_before names e f ≡ true). rw t (p, all))
      (λ (t : comes_before names e f ≡ false). rw t (all.0, placed_all e fs p all.1))
      (cases_Bool (comes_before names e f))

  pub sorted_all : (es : List (ℕ × ℕ)) → AllByRecursion P es → AllByRecursion P (sorted names es)
  sorted_all [] all = tt
  sorted_all (e ∷ es) all = placed_all e (sorted names es) all.0 (sorted_all es all.1)

-- the number of entries is kept
length-placed : (names : List (List ℕ)) (e : ℕ × ℕ) (fs : List (ℕ × ℕ)) → length (placed_among names e fs) ≡ length fs + 1
length-placed names e [] = refl
length-placed names e (f ∷ fs) = ⊎_elim
    (λ (t : comes_before names e f ≡ true). rw t (omega arith))
    (λ (t : comes_before names e f ≡ false). rw t (omega (arith, length-placed names e fs)))
    (cases_Bool (comes_before names e f))

pub length-sorted : (names : List (List ℕ)) (es : List (ℕ × ℕ)) → length (sorted names es) ≡ length es
length-sorted names [] = refl
length-sorted names (e ∷ es) = omega (arith, length-placed names e (sorted names es), length-sorted names es)

-- the greatest depth is kept
deepest_placed : (keys names : List (List ℕ)) (known : List AttrTerm) (e : ℕ × ℕ) (fs : List (ℕ × ℕ)) → entries_depth (entries_at names known (placed_among keys e fs)) ≡ max (attr_depth (attr_at known e.1)) (entries_depth (entries_at names known fs))
deepest_placed keys names known e [] = refl
deepest_placed keys names known e (f ∷ fs) = ⊎_elim
    (λ (t : comes_before keys e f ≡ true). rw t refl)
    (λ (t : comes_before keys e f ≡ false). rw t (ap (max (attr_depth (attr_at known f.1))) (deepest_placed keys names known e fs) ∙ swapped (attr_depth (attr_at known f.1)) (attr_depth (attr_at known e.1)) (entries_depth (entries_at names known fs))))
    (cases_Bool (comes_before keys e f))
  where
    swapped : (a b c : ℕ) → max a (max b c) ≡ max b (max a c)
    swapped a b c = omega arith

pub deepest_sorted : (keys names : List (List ℕ)) (known : List AttrTerm) (es : List (ℕ × ℕ)) → entries_depth (entries_at names known (sorted keys es)) ≡ entries_depth (entries_at names known es)
deepest_sorted keys names known [] = refl
deepest_sorted keys names known (e ∷ es) = deepest_placed keys names known e (sorted keys es) ∙ ap (max (attr_depth (attr_at known e.1))) (deepest_sorted keys names known es)

-- a stored attribute has the same components
pub kept_parts : (names : List (List ℕ)) (l m n : ℕ) (node : AttrNode) → PartsBelow l m n node → PartsBelow l m n (kept names node)
unfolding kept
kept_parts names l m n (attr.Int ty value) below = below
kept_parts names l m n (attr.Str name) below = below
kept_parts names l m n (attr.Ty ty) below = below
kept_parts names l m n attr.Unit below = below
kept_parts names l m n (attr.Array items) below = below
kept_parts names l m n (attr.Dict es) below = (
  All-from_recursion (λ (e : ℕ × ℕ). e.0 < l) (sorted names es) (sorted_all names (λ (e : ℕ × ℕ). e.0 < l) es (recursion_from_All (λ (e : ℕ × ℕ). e.0 < l) es below.0)),
  All-from_recursion (λ (e : ℕ × ℕ). e.1 < n) (sorted names es) (sorted_all names (λ (e : ℕ × ℕ). e.1 < n) es (recursion_from_All (λ (e : ℕ × ℕ). e.1 < n) es below.1)),
)
kept_parts names l m n (attr.Sym parts) below = below
kept_parts names l m n (attr.Dense elem values) below = below
kept_parts names l m n (attr.Overflow nsw nuw) below = below
kept_parts names l m n (attr.Opaque text ty) below = below

pub kept_of : (c : ContextModel) (node : AttrNode) → AttrIsOf c node → AttrIsOf c (kept c.names node)
kept_of c node of_c = kept_parts c.names (length c.names) (length c.types) (length c.attrs) node of_c

-- a stored attribute has the same depth
pub kept_depth_from : (keys names : List (List ℕ)) (types : List TypeTerm) (known : List AttrTerm) (node : AttrNode) → attr_depth (attr_from names types known (kept keys node)) ≡ attr_depth (attr_from names types known node)
unfolding kept
kept_depth_from keys names types known (attr.Dict es) = ap (λ n. 1 + n) (deepest_sorted keys names known es)
kept_depth_from keys names types known _ = refl

-- a stored attribute has the same faults
kept_fault_from : (keys names : List (List ℕ)) (types : List TypeTerm) (known : List AttrTerm) (node : AttrNode) → attr_fault (attr_from names types known (kept keys node)) ≡ attr_fault (attr_from names types known node)
unfolding kept
kept_fault_from keys names types known (attr.Dict es) = ap (λ n. depth_reason (1 + n)) (deepest_sorted keys names known es)
kept_fault_from keys names types known _ = refl

pub kept_fault : (c : ContextModel) (node : AttrNode) → attr_fault (attr_node_term c (kept c.names node)) ≡ attr_fault (attr_node_term c node)
kept_fault c node = kept_fault_from c.names c.names (type_terms c) (attr_terms c) node

-- entries with increasing keys are sorted
rising_tail : (names : List (List ℕ)) (e : ℕ × ℕ) (es : List (ℕ × ℕ)) → IsRising names (e ∷ es) → IsRising names es
rising_tail names e es h i j d k l = h (suc i) (suc j) d (omega arith) (omega arith)

pub sorted_rising : (names : List (List ℕ)) (es : List (ℕ × ℕ)) → IsRising names es → sorted names es ≡ es
sorted_rising names [] h = refl
sorted_rising names (e ∷ es) h = ap (placed_among names e) (sorted_rising names es (rising_tail names e es h)) ∙ first es h
  where
    first : (fs : List (ℕ × ℕ)) → IsRising names (e ∷ fs) → placed_among names e fs ≡ e ∷ fs
    first [] h = refl
    first (f ∷ fs) h = let t : comes_before names e f ≡ true = h 0 1 e (omega arith) (omega arith) in rw t refl

pub kept_same : (names : List (List ℕ)) (node : AttrNode) → IsKept names node → kept names node ≡ node
unfolding kept
kept_same names (attr.Dict es) h = ap attr.Dict (sorted_rising names es h.1)
kept_same names _ h = refl

pub kept_known : (c : ContextModel) (n : ℕ) (node : AttrNode) → Holds c → slice_get c.attrs n ≡ Some node → kept c.names node ≡ node
kept_known c n node holds at = kept_same c.names node (holds.attrs_kept n node at)

-- more names keep the order
pub kept_stays : (l m n : ℕ) (vs ws : List (List ℕ)) → Agree [] l ws vs → (node : AttrNode) → PartsBelow l m n node → IsKept vs node → IsKept ws node
kept_stays l m n vs ws same (attr.Dict es) below h = (
  h.0,
  λ i j d k o.
      let a = same (get_or es i d).0 (below.0 i d (omega arith)) in
      let b = same (get_or es j d).0 (below.0 j d o) in
      ap (λ x. is_lt (slice_cmp nat_cmp x (key_bytes ws (get_or es j d)))) a ∙ ap (λ x. is_lt (slice_cmp nat_cmp (key_bytes vs (get_or es i d)) x)) b ∙ h.1 i j d k o,
)
kept_stays l m n vs ws same _ below h = h
