-- Proofs about the lines of trees and their ids.
use Rattle.std.proofs.Common.{◌≡◌, ◌∙◌, ◌<◌, ◌≤◌, ◌==◌, ap, sym, refl, ℕ, List, [], ◌∷◌, ◌++◌, append-nil, append_assoc, arith, length, map, drop, Bool, true, false}
use Rattle.std.proofs.lemmas.Bool.Decides.{nat_tests}
use Rattle.ir_event.specs.types.Terms.{name_term, type_term, attr_term}
use Rattle.ir_event.specs.types.Things.{ContextModel}
use Rattle.ir_text.specs.Printing.{text_of}
use Rattle.ir_event.specs.trees.Meaning.{meaning}
use Rattle.ir_event.specs.trees.Maps.{map_tree, map_regions, map_region, map_ops}
use Rattle.ir_event.specs.trees.Tree.{Op, OpOf, op, RegionsOf, no_regions, region, RegionOf, empty, block, OpsOf, no_ops, next, ops_of}
use Rattle.mlir_work_script_base.specs.Lines.{lines_of}
use Rattle.mlir_work_session_base.specs.IdsText.{bare_label_ids, ids_text, label_ids, line_end, line_ids, ops_line_ids, region_line_ids, regions_line_ids, with_ids}

-- a block with operations, and a block without arguments
pub not_bare : (x : ℕ) (os : List Op) → 1 ≤ length os → bare_label_ids x (ops_of os) ≡ []
not_bare x [] h = absurd (omega (arith, h))
not_bare x (o ∷ os) h = refl

pub no_arguments : (x : ℕ) (ts : List ℕ) (os : List Op) → length ts ≤ 0 → label_ids x ts (ops_of os) ≡ bare_label_ids x (ops_of os)
no_arguments x [] os h = refl
no_arguments x (t ∷ ts) os h = absurd (omega (arith, h))

module _ {N T A M U B : Type 0} (f : N → M) (g : T → U) (h : A → B) where
  label_mapped : (x : ℕ) (ts : List T) (os : OpsOf N T A) → label_ids x (map g ts) (map_ops f g h os) ≡ label_ids x ts os
  label_mapped x [] no_ops = refl
  label_mapped x [] (next o os) = refl
  label_mapped x (t ∷ ts) os = refl

  -- the lines don't depend on names, types and attributes
  mutual
    pub lines_mapped : (t : OpOf N T A) → line_ids (map_tree f g h t) ≡ line_ids t
    lines_mapped (op y rs) = ap (λ xs. y.id ∷ xs) (regions_mapped y.id rs)

    regions_mapped : (x : ℕ) (rs : RegionsOf N T A) → regions_line_ids x (map_regions f g h rs) ≡ regions_line_ids x rs
    regions_mapped x no_regions = refl
    regions_mapped x (region r rs) = rw (region_mapped x r, regions_mapped x rs) refl

    region_mapped : (x : ℕ) (r : RegionOf N T A) → region_line_ids x (map_region f g h r) ≡ region_line_ids x r
    region_mapped x empty = refl
    region_mapped x (block ts os) = rw (label_mapped x ts os, ops_mapped os) refl

    ops_mapped : (os : OpsOf N T A) → ops_line_ids (map_ops f g h os) ≡ ops_line_ids os
    ops_mapped no_ops = refl
    ops_mapped (next o os) = rw (lines_mapped o, ops_mapped os) refl

-- ---- writing lines

pub filled : (text : List ℕ) (r : Bool) → r ≡ (length text == 0) → r ≡ false → 0 < length text
filled [] r e f = absurd (let h : true ≡ false = sym e ∙ f in cc)
filled (b ∷ bs) r e f = omega arith

pub emptied : (text : List ℕ) (r : Bool) → r ≡ (length text == 0) → r ≡ true → length text ≤ 0
emptied text r e f = grind (arith, nat_tests)

-- one more line is written, and the remaining lines follow
pub lines_step : (text line rest ids left before after whole : List ℕ) → lines_of text ≡ line ∷ lines_of rest → after ≡ before ++ (line ++ line_end ids) → left ≡ drop 1 ids → before ++ with_ids (lines_of text) ids ≡ whole → after ++ with_ids (lines_of rest) left ≡ whole
lines_step text line rest ids left before after whole cut put trailing so_far = rw (put, trailing, append_assoc, append_assoc) (rw cut at so_far)

-- no line is left
pub lines_done : (text ids out whole : List ℕ) → length text ≤ 0 → out ++ with_ids (lines_of text) ids ≡ whole → out ≡ whole
lines_done [] ids out whole h so_far = sym (append-nil out) ∙ so_far
lines_done (b ∷ bs) ids out whole h so_far = absurd (omega (arith, h))

-- the lines of a tree's text have the ids of the tree of term numbers
pub shown_with_ids : (c : ContextModel) (t : Op) (text : List ℕ) → text ≡ text_of (meaning c t) → with_ids (lines_of text) (line_ids t) ≡ ids_text (meaning c t)
shown_with_ids c t text is = ap (λ (xs : List ℕ). with_ids (lines_of xs) (line_ids t)) is ∙ ap (with_ids (lines_of (text_of (meaning c t)))) (sym (lines_mapped (name_term c) (type_term c) (attr_term c) t))
