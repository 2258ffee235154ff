-- Types as terms and as numbers of a context.
use Rattle.std.proofs.Common.{◌≡◌, ℕ, ◌≤◌, List, [], ◌∷◌, length, map, refl, ap, sym, Bool, false, ◌&&◌, arith, ◌↔◌, IsTrue}
use Rattle.std.specs.List.{list_all}
use Rattle.std.proofs.lemmas.List.{get_or_past}
use Rattle.ir_event.specs.types.Things.{IsType, ContextModel}
use Rattle.ir_event.specs.types.Terms.{Index, TypeTerm, attr_term, name_term, type_term, type_terms}
use Rattle.ir_event.specs.trees.Limits.{all_arguments_pass, arguments_pass, every}
use Rattle.ir_event.specs.trees.Maps.{map_region, map_regions}
use Rattle.ir_event.specs.trees.Meaning.{meaning}
use Rattle.ir_event.specs.trees.Tree.{Op, Region, Regions, block, empty, no_regions, op, region}
use Rattle.ir_event.proofs.of_trees.Mapped.{map_every}
use Rattle.ir_event.proofs.of_types.Terms.{length-type_terms}
use Rattle.mlir_work_transforms.specs.Unproved.{has_narrow_types, is_narrow_type, types_pass}

-- a number without a type denotes `index`
no_type : (c : ContextModel) (n : ℕ) → length c.types ≤ n → Index ≡ type_term c n
no_type c n past = sym (get_or_past (type_terms c) n Index (let len = length-type_terms c in omega (arith, past, len)))

pub none_is_narrow : (c : ContextModel) (n most : ℕ) (known : Bool) → (IsTrue known ↔ IsType c n) → known ≡ false → false ≡ is_narrow_type most (type_term c n)
none_is_narrow c n most known decides e = ap (is_narrow_type most) (no_type c n (let here = decides.1 in grind (arith, here, e)))

-- ---- a test of all types

mapped_all : {X Y : Type 0} (q : Y → Bool) (g : X → Y) (xs : List X) → list_all q (map g xs) ≡ list_all (λ x. q (g x)) xs
mapped_all q g [] = refl
mapped_all q g (x ∷ xs) = ap (λ b. q (g x) && b) (mapped_all q g xs)

module _ (c : ContextModel) (q : TypeTerm → Bool) where
  mapped_arguments : (r : Region) → arguments_pass (list_all q) (map_region (name_term c) (type_term c) (attr_term c) r) ≡ arguments_pass (list_all (λ ty. q (type_term c ty))) r
  mapped_arguments empty = refl
  mapped_arguments (block args os) = mapped_all q (type_term c) args

  all_mapped : (rs : Regions) → all_arguments_pass (list_all q) (map_regions (name_term c) (type_term c) (attr_term c) rs) ≡ all_arguments_pass (list_all (λ ty. q (type_term c ty))) rs
  all_mapped no_regions = refl
  all_mapped (region r rs) = λ i. mapped_arguments r i && all_mapped rs i

  mapped_types : (o : Op) → types_pass q (meaning c o) ≡ types_pass (λ ty. q (type_term c ty)) o
  mapped_types (op h rs) = λ i. mapped_all q (type_term c) h.results i && all_mapped rs i

-- a tree of term numbers is narrow iff the tree that the numbers denote is
pub narrow_meaning : (c : ContextModel) (most : ℕ) (t : Op) → every (types_pass (λ ty. is_narrow_type most (type_term c ty))) t ≡ has_narrow_types most (meaning c t)
narrow_meaning c most t =
    sym (map_every (name_term c) (type_term c) (attr_term c) (types_pass (λ ty. is_narrow_type most (type_term c ty))) (types_pass (is_narrow_type most)) (mapped_types c (is_narrow_type most)) t)
