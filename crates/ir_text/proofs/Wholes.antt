-- Operations and regions are printed part by part.
use Rattle.std.proofs.Common.{◌≡◌, ◌∙◌, ap, subst, ℕ, ◌≤◌, ◌<◌, List, [], ◌∷◌, length, drop, refl, arith}
use Rattle.std.specs.Prelude.{codes}
use Rattle.std.proofs.Math.ListN.{drop_of_length-le}
use Rattle.ir_types.specs.Things.{ContextModel}
use Rattle.ir_tree.specs.Tree.{Op, OpsOf, head, block, ops_of}
use Rattle.ir_tree.specs.View.{op_view, head_view}
use Rattle.ir_tree.specs.declared.tree.TreeRegion.{TreeRegion}
use Rattle.ir_tree.specs.declared.tree.TreeOp.TheInside.{Inside}
use Rattle.ir_tree.specs.Meaning.{meaning}
use Rattle.ir_text.specs.Printing.{Printed, append_text, print_head, print_tail, print_bare_label, print_label, opening, closing_text, deeper, printed_op, print_regions, print_region, print_ops}
use Rattle.ir_text.specs.View.{head_in, region_in, regions_in, ops_in, types_in}

pub opened : (d : ContextModel) (rs : List TreeRegion) → 1 ≤ length rs → opening (regions_in d rs) ≡ codes " ("
opened d [] h = absurd (omega arith)
opened d (r ∷ rs) h = refl

pub closed : (d : ContextModel) (rs : List TreeRegion) → 1 ≤ length rs → closing_text (regions_in d rs) ≡ codes ")"
closed d [] h = absurd (omega arith)
closed d (r ∷ rs) h = refl

pub not_bare : (d : ContextModel) (margin : List ℕ) (os : List Op) (o : Printed) → 1 ≤ length os → print_bare_label margin (ops_in d os) o ≡ o
not_bare d margin [] o h = absurd (omega arith)
not_bare d margin (x ∷ os) o h = refl

pub no_arguments : {N T A : Type 0} (d : ContextModel) (margin : List ℕ) (x k : ℕ) (args : List ℕ) (os : OpsOf N T A) (o : Printed) → length args < 1 → print_label margin x k (types_in d args) os o ≡ print_bare_label margin os o
no_arguments d margin x k [] os o h = refl
no_arguments d margin x k (n ∷ ns) os o h = absurd (omega arith)

-- an operation: its head, all its regions, its tail
pub whole_op : (d : ContextModel) (margin : List ℕ) (a : Inside) (t : Op) (place : ℕ) (o p q r s u : Printed) → op_view a ≡ t → length a.regions.items ≤ place → p ≡ print_head margin (head_in d (head t)) o → q ≡ append_text (opening (regions_in d a.regions.items)) p → print_regions margin a.id place (regions_in d (drop place a.regions.items)) r ≡ print_regions margin a.id 0 (regions_in d a.regions.items) q → s ≡ append_text (closing_text (regions_in d a.regions.items)) r → u ≡ print_tail (head_in d (head t)) s → u ≡ printed_op margin (meaning d t) o
whole_op d margin a t place o p q r s u v past preceding opens regions closes back =
    let all : r ≡ print_regions margin a.id 0 (regions_in d a.regions.items) q = rw (drop_of_length-le a.regions.items past) at regions in
    subst (λ (t : Op). p ≡ print_head margin (head_in d (head t)) o → u ≡ print_tail (head_in d (head t)) s → u ≡ printed_op margin (meaning d t) o) v
    (λ f b. b ∙ ap (print_tail (head_in d (head_view a))) (closes ∙ ap (append_text (closing_text (regions_in d a.regions.items))) (all ∙ ap (print_regions margin a.id 0 (regions_in d a.regions.items)) (opens ∙ ap (append_text (opening (regions_in d a.regions.items))) f))))
    preceding back

-- a region with a block: its label, and all its operations
pub whole_region : (d : ContextModel) (margin blanks : List ℕ) (x k : ℕ) (args : List ℕ) (os : List Op) (place : ℕ) (o p q r s u : Printed) → blanks ≡ deeper margin → length os ≤ place → p ≡ append_text (codes "{\n") o → q ≡ print_label margin x k (types_in d args) (ops_in d os) p → print_ops blanks (ops_in d (drop place os)) r ≡ print_ops blanks (ops_in d os) q → s ≡ append_text margin r → u ≡ append_text (codes "}") s → u ≡ print_region margin x k (region_in d (block args (ops_of os))) o
whole_region d margin blanks x k args os place o p q r s u deep past opens label ops blank closes =
    let all : r ≡ print_ops blanks (ops_in d os) q = rw (drop_of_length-le os past) at ops in
    closes ∙ ap (append_text (codes "}")) (blank ∙ ap (append_text margin) (all ∙ (λ i. print_ops (deep i) (ops_in d os) q) ∙ ap (print_ops (deeper margin) (ops_in d os)) (label ∙ ap (print_label margin x k (types_in d args) (ops_in d os)) opens)))
