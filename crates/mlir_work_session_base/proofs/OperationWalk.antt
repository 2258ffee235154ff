-- Walks over operations: a page is the operations that a walk writes.
use Rattle.std.proofs.Common.{◌≡◌, ◌∙◌, ap, sym, refl, ℕ, zero, suc, ◌+◌, ◌-◌, ◌<◌, ◌≤◌, ◌==◌, Bool, true, false, not, if◌then◌else◌, arith, List, [], ◌∷◌, ◌++◌, append_assoc, append-nil, drop, get_or, length, take, Option, Some, None, IsTrue}
use Rattle.std.proofs.Math.ListN.{drop_of_length-le}
use Rattle.std.proofs.lemmas.Bool.{and_parts}
use Rattle.std.proofs.lemmas.Bool.Decides.{nat_tests}
use Rattle.ir_event.proofs.of_trees.Steps.{next_left}
use Rattle.ir_event.specs.trees.Tree.{Op, head, op}
use Rattle.ir_event.specs.trees.Meaning.{meaning}
use Rattle.ir_event.specs.trees.Limits.{every, regions_every}
use Rattle.ir_event.specs.trees.View.{region_view}
use Rattle.ir_event.specs.trees.declared.tree.TreeRegion.{TreeRegion}
use Rattle.ir_event.specs.types.Things.{ContextModel}
use Rattle.ir_text.specs.View.{ops_in, region_in, regions_in}
use Rattle.mlir_work_session_base.specs.OperationObjects.{objects_text}
use Rattle.mlir_work_session_base.specs.OperationWalk.{Visited, Walk, all_visited, is_full, object_line, one_less, visited}
use Rattle.mlir_work_session_base.specs.PlacedOps.{from_op, ops_placed, placed, region_placed, regions_placed}
use Rattle.mlir_work_session_base.specs.declared.place.Place.{Place}

abbrev pub the_visited : Visited → Visited
the_visited p = p

-- a test of all operations of a tree holds for its root
pub every_here : (q : Op → Bool) (t : Op) → IsTrue (every q t) → IsTrue (q t)
every_here q (op h rs) e = (and_parts (q (op h rs)) (regions_every q rs) e).0

-- one list of operations after another
pub visited_both : (ps qs : List Visited) (w : Walk) → all_visited (ps ++ qs) w ≡ all_visited qs (all_visited ps w)
visited_both [] qs w = refl
visited_both (p ∷ ps) qs w = visited_both ps qs (visited p w)

-- ---- the operations of a tree

-- the next region
pub region_next : (c : ContextModel) (x n : ℕ) (r : TreeRegion) (xs : List TreeRegion) (w v whole : Walk) → n < length xs → r ≡ get_or xs n r → v ≡ all_visited (region_placed x n (region_in c (region_view r))) w
    → all_visited (regions_placed x n (regions_in c (drop n xs))) w ≡ whole → all_visited (regions_placed x (n + 1) (regions_in c (drop (n + 1) xs))) v ≡ whole
region_next c x n r xs w v whole l e s h =
    let rest = regions_placed x (n + 1) (regions_in c (drop (n + 1) xs)) in
    ap (all_visited rest) s ∙ sym (visited_both (region_placed x n (region_in c (region_view r))) rest w)
    ∙ ap (λ (rs : List TreeRegion). all_visited (regions_placed x n (regions_in c rs)) w) (sym (next_left xs n r l e)) ∙ h

-- the next operation of a block
pub op_next : (c : ContextModel) (x r n : ℕ) (t : Op) (xs : List Op) (w v whole : Walk) → n < length xs → t ≡ get_or xs n t → v ≡ all_visited (placed (Some (record { parent = x; region = r; index = n })) (meaning c t)) w
    → all_visited (ops_placed x r n (ops_in c (drop n xs))) w ≡ whole → all_visited (ops_placed x r (n + 1) (ops_in c (drop (n + 1) xs))) v ≡ whole
op_next c x r n t xs w v whole l e s h =
    let at : Option Place = Some (record { parent = x; region = r; index = n }) in
    let rest = ops_placed x r (n + 1) (ops_in c (drop (n + 1) xs)) in
    ap (all_visited rest) s ∙ sym (visited_both (placed at (meaning c t)) rest w)
    ∙ ap (λ (os : List Op). all_visited (ops_placed x r n (ops_in c os)) w) (sym (next_left xs n t l e)) ∙ h

-- no region and no operation is left
pub regions_end : (c : ContextModel) (x n : ℕ) (xs : List TreeRegion) (w whole : Walk) → length xs ≤ n → all_visited (regions_placed x n (regions_in c (drop n xs))) w ≡ whole → w ≡ whole
regions_end c x n xs w whole l h = ap (λ (rs : List TreeRegion). all_visited (regions_placed x n (regions_in c rs)) w) (sym (drop_of_length-le xs l)) ∙ h

pub ops_end : (c : ContextModel) (x r n : ℕ) (xs : List Op) (w whole : Walk) → length xs ≤ n → all_visited (ops_placed x r n (ops_in c (drop n xs))) w ≡ whole → w ≡ whole
ops_end c x r n xs w whole l h = ap (λ (os : List Op). all_visited (ops_placed x r n (ops_in c os)) w) (sym (drop_of_length-le xs l)) ∙ h

-- ---- the text of a walk

-- without a limit, all operations are written
pub walked_all : (ps : List Visited) (text : List ℕ) → (all_visited ps (record { text = text; from = None; left = None })).text ≡ text ++ objects_text ps
walked_all [] text = sym (append-nil text)
walked_all (p ∷ ps) text = walked_all ps (text ++ object_line p) ∙ append_assoc text (object_line p) (objects_text ps)

abbrev counting : List ℕ → ℕ → Walk
counting text n = record { text = text; from = None; left = Some n }

-- a walk with a limit after one more operation, if the limit is reached and if it isn't
abbrev full_or : Bool → Visited → List ℕ → ℕ → Walk
full_or b p text n = if b then counting text n else counting (text ++ object_line p) (n - 1)

not_full : (n : ℕ) → 0 < n → (n == 0) ≡ false
not_full n h = grind (arith, nat_tests)

one_fewer : (n : ℕ) → suc n - 1 ≡ n
one_fewer n = omega arith

counted : (p : Visited) (n : ℕ) (text : List ℕ) → visited p (counting text (suc n)) ≡ counting (text ++ object_line p) n
counted p n text =
    ap (λ (b : Bool). full_or b p text (suc n)) (not_full (suc n) (omega arith)) ∙ ap (counting (text ++ object_line p)) (one_fewer n)

-- with a limit, so many are written
walked_some : (n : ℕ) (ps : List Visited) (text : List ℕ) → (all_visited ps (record { text = text; from = None; left = Some n })).text ≡ text ++ objects_text (take n ps)
walked_some zero [] text = sym (append-nil text)
walked_some (suc n) [] text = sym (append-nil text)
walked_some zero (p ∷ ps) text = walked_some zero ps text ∙ ap (λ (qs : List Visited). text ++ objects_text qs) (none_taken ps)
  where
    none_taken : (qs : List Visited) → take zero qs ≡ []
    none_taken [] = refl
    none_taken (q ∷ qs) = refl
walked_some (suc n) (p ∷ ps) text =
    ap (λ (w : Walk). (all_visited ps w).text) (counted p n text) ∙ walked_some n ps (text ++ object_line p)
    ∙ append_assoc text (object_line p) (objects_text (take n ps))

-- a walk of a page that hasn't begun, after one more operation: `b` says that the page begins at the operation
abbrev begun : Bool → Visited → ℕ → ℕ → List ℕ → Walk
begun b p x n text =
    if not b then record { text = text; from = Some x; left = Some n }
    else if is_full (Some n) then record { text = text; from = None; left = Some n }
    else record { text = text ++ object_line p; from = None; left = one_less (Some n) }

abbrev from_if : Bool → ℕ → Visited → List Visited → List Visited
from_if b x p ps = if b then p ∷ ps else from_op x ps

page_begun : (x n : ℕ) (p : Visited) (ps : List Visited) (text : List ℕ) (b : Bool)
    → (all_visited ps (record { text = text; from = Some x; left = Some n })).text ≡ text ++ objects_text (take n (from_op x ps))
    → (all_visited ps (begun b p x n text)).text ≡ text ++ objects_text (take n (from_if b x p ps))
page_begun x n p ps text true h = walked_some n (p ∷ ps) text
page_begun x n p ps text false h = h

-- from an operation on
pub walked_page : (x n : ℕ) (ps : List Visited) (text : List ℕ) → (all_visited ps (record { text = text; from = Some x; left = Some n })).text ≡ text ++ objects_text (take n (from_op x ps))
walked_page x n [] text = walked_some n [] text
walked_page x n (p ∷ ps) text = page_begun x n p ps text ((head p.operation).id == x) (walked_page x n ps text)
