-- The next region of an operation, and the next operation of a block.
use Rattle.std.proofs.Common.{◌≡◌, ◌∙◌, sym, ap, subst, refl, ℕ, ◌+◌, Bool, true, false, List, ◌∷◌, map, drop}
use Rattle.std.specs.Prelude.{◌&&◌, IsTrue}
use Rattle.ir_types.specs.Things.{ContextModel}
use Rattle.ir_tree.specs.Tree.{Op, Region, regions_of, ops_of}
use Rattle.ir_tree.specs.View.{region_view}
use Rattle.ir_tree.specs.declared.tree.TreeRegion.{TreeRegion}
use Rattle.ir_tree.specs.Limits.{every, arguments_pass, all_arguments_pass, region_every, regions_every, ops_every}
use Rattle.ir_tree.specs.Meaning.{meaning}
use Rattle.ir_text.specs.Printing.{Printed, append_text, comma_at, printed_op, print_regions, print_region, print_ops}
use Rattle.ir_text.specs.View.{region_in, regions_in, ops_in}
use Rattle.std.proofs.lemmas.Bool.{and_parts}

-- a region is printed after its comma, and the other regions are left
pub next_region : (d : ContextModel) (margin : List ℕ) (x place : ℕ) (r : TreeRegion) (now rest : List TreeRegion) (o p q whole : Printed) → now ≡ r ∷ rest → p ≡ append_text (comma_at place) o → q ≡ print_region margin x place (region_in d (region_view r)) p → print_regions margin x place (regions_in d now) o ≡ whole → print_regions margin x (place + 1) (regions_in d rest) q ≡ whole
next_region d margin x place r now rest o p q whole next comma one s =
    ap (print_regions margin x (place + 1) (regions_in d rest)) (one ∙ ap (print_region margin x place (region_in d (region_view r))) comma)
    ∙ ap (λ (rs : List TreeRegion). print_regions margin x place (regions_in d rs) o) (sym next)
    ∙ s

-- a property of the arguments of all regions holds for the first region and for the others
pub arguments_of : (f : List ℕ → Bool) (r : TreeRegion) (now rest : List TreeRegion) → now ≡ r ∷ rest → IsTrue (all_arguments_pass f (regions_of (map region_view now))) → IsTrue (arguments_pass f (region_view r)) × IsTrue (all_arguments_pass f (regions_of (map region_view rest)))
arguments_of f r now rest next h = and_parts _ _ (subst (λ (rs : List TreeRegion). IsTrue (all_arguments_pass f (regions_of (map region_view rs)))) next h)

-- the same for the operations inside
pub inside_of : (f : Op → Bool) (r : TreeRegion) (now rest : List TreeRegion) → now ≡ r ∷ rest → IsTrue (regions_every f (regions_of (map region_view now))) → IsTrue (region_every f (region_view r)) × IsTrue (regions_every f (regions_of (map region_view rest)))
inside_of f r now rest next h = and_parts _ _ (subst (λ (rs : List TreeRegion). IsTrue (regions_every f (regions_of (map region_view rs)))) next h)

-- an operation is printed, and the other operations are left
pub next_op : (d : ContextModel) (blanks : List ℕ) (t : Op) (now rest : List Op) (o q whole : Printed) → now ≡ t ∷ rest → q ≡ printed_op blanks (meaning d t) o → print_ops blanks (ops_in d now) o ≡ whole → print_ops blanks (ops_in d rest) q ≡ whole
next_op d blanks t now rest o q whole next one s = ap (print_ops blanks (ops_in d rest)) one ∙ ap (λ (os : List Op). print_ops blanks (ops_in d os) o) (sym next) ∙ s

pub known_of : (f : Op → Bool) (t : Op) (now rest : List Op) → now ≡ t ∷ rest → IsTrue (ops_every f (ops_of now)) → IsTrue (every f t) × IsTrue (ops_every f (ops_of rest))
known_of f t now rest next h = and_parts _ _ (subst (λ (os : List Op). IsTrue (ops_every f (ops_of os))) next h)
