-- Properties of each header of a tree.
use Rattle.std.proofs.Common.{◌≡◌, refl, ap, ◌∙◌, Bool, true, ◌&&◌, List, []}
use Rattle.std.specs.List.{list_all}
use Rattle.ir_event.specs.types.Things.{ContextModel}
use Rattle.ir_event.specs.trees.declared.place.Place.{Place}
use Rattle.ir_event.specs.trees.Tree.{OpOf, Op, op, RegionsOf, no_regions, region, empty, block}
use Rattle.ir_event.specs.trees.Limits.{every, regions_every, all_arguments_pass}
use Rattle.ir_event.specs.trees.Meaning.{IsSoundIn, is_name, is_type, is_attr, dictionaries_rise, key_before_in}
use Rattle.ir_event.specs.trees.Passing.{head_passes, op_passes}
use Rattle.ir_event.specs.tree_laws.Members.{In}
use Rattle.ir_event.specs.tree_laws.Stands.{OpWithPathOf, stands}
use Rattle.ir_event.proofs.of_tree_laws.Listed.{all_each, both_hold}
use Rattle.ir_event.proofs.of_tree_laws.Readings.{stands_every}
use Rattle.ir_event.proofs.of_tree_laws.Reasoned.{none_every}
use Rattle.rewriter_machine.specs.Inserting.{bare, bare_regions, headers}
use Rattle.rewriter_machine.proofs.Built.{header_of, bare_holds}

module _ {N T A : Type 0} where
  -- if each operation passes a test, and its header then does too, each header passes the test
  header_passes : (p : OpOf N T A → Bool) → ((z : OpOf N T A) → p (bare z) ≡ p z) → (place : Place) (o : OpOf N T A) → every p o ≡ true → (u : Place × OpOf N T A) → In u (headers place o) → every p u.1 ≡ true
  header_passes p same place o e u h =
      let s = header_of [] place o u h in
      ap (every p) s.2 ∙ own s.0.here (same s.0.here ∙ all_each (λ (z : OpWithPathOf N T A). p z.here) (stands [] o) (stands_every p [] o ∙ e) s.0 s.1)
    where
      own : (z : OpOf N T A) → p (bare z) ≡ true → every p (bare z) ≡ true
      own (op h rs) k = both_hold (p (op h (bare_regions rs))) (regions_every p (bare_regions rs)) k (none_every p (bare_regions rs) (bare_holds (op h rs)))

  arguments_same : (p : List T → Bool) (rs : RegionsOf N T A) → all_arguments_pass p (bare_regions rs) ≡ all_arguments_pass p rs
  arguments_same p no_regions = refl
  arguments_same p (region empty rs) = arguments_same p rs
  arguments_same p (region (block args os) rs) = ap (λ b. p args && b) (arguments_same p rs)

  passes_same : (n : N → Bool) (q : T → Bool) (a : A → Bool) (z : OpOf N T A) → op_passes n q a (bare z) ≡ op_passes n q a z
  passes_same n q a (op h rs) = ap (λ b. head_passes n q a h && b) (arguments_same (list_all q) rs)

  rise_same : (before : N → N → Bool) (z : OpOf N T A) → dictionaries_rise before (bare z) ≡ dictionaries_rise before z
  rise_same before (op h rs) = refl

pub header_sound : (c : ContextModel) (place : Place) (o : Op) → IsSoundIn c o → (u : Place × Op) → In u (headers place o) → IsSoundIn c u.1
header_sound c place o s u h = record {
  known = header_passes (op_passes (is_name c) (is_type c) (is_attr c)) (passes_same (is_name c) (is_type c) (is_attr c)) place o s.known u h;
  sorted = header_passes (dictionaries_rise (key_before_in c)) (rise_same (key_before_in c)) place o s.sorted u h;
}
