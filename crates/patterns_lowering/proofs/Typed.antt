-- Types and regions with another type for index.
use Rattle.std.proofs.Common.{◌≡◌, refl, ap, ◌∙◌, ℕ, List, [], ◌∷◌, map, Bool, true, false, cond}
use Rattle.ir_event.specs.types.Things.{ContextModel}
use Rattle.ir_event.specs.types.Terms.{TypeTerm, Integer, Index, Function, Memref, OpaqueType, name_term, type_term, attr_term}
use Rattle.ir_event.specs.trees.Tree.{Regions, no_regions, region, empty, block, no_ops}
use Rattle.ir_event.specs.trees.Maps.{map_regions}
use Rattle.ir_verify_base.specs.Types as types
use Rattle.patterns_soundness.specs.base.Made.{i64}
use Rattle.patterns_soundness.specs.base.Keeps.{lowered_type}
use Rattle.patterns_soundness.specs.base.Looks.{is_index}
use Rattle.patterns_soundness.specs.base.Lowering.{lowered_regions}
use Rattle.patterns_lowering.specs.Numbers.{type_lowered, regions_lowered}

-- the two tests for index agree
pub index_is : (ty : TypeTerm) → types.is_index ty ≡ is_index ty
index_is (Integer s w) = refl
index_is Index = refl
index_is (Function is os) = refl
index_is (Memref ds e) = refl
index_is (OpaqueType s) = refl

lowered_as : (u : TypeTerm) → cond (is_index u) i64 u ≡ lowered_type u
lowered_as (Integer s w) = refl
lowered_as Index = refl
lowered_as (Function is os) = refl
lowered_as (Memref ds e) = refl
lowered_as (OpaqueType s) = refl

chosen_term : (c : ContextModel) (b : Bool) (wide ty : ℕ) → type_term c (cond b wide ty) ≡ cond b (type_term c wide) (type_term c ty)
chosen_term c true wide ty = refl
chosen_term c false wide ty = refl

module _ (c : ContextModel) (wide : ℕ) (is : type_term c wide ≡ i64) where
  pub type_meant : (ty : ℕ) → type_term c (type_lowered c wide ty) ≡ lowered_type (type_term c ty)
  type_meant ty = chosen_term c (is_index (type_term c ty)) wide ty ∙ ap (λ w. cond (is_index (type_term c ty)) w (type_term c ty)) is ∙ lowered_as (type_term c ty)

  pub types_meant : (tys : List ℕ) → map (type_term c) (map (type_lowered c wide) tys) ≡ map lowered_type (map (type_term c) tys)
  types_meant [] = refl
  types_meant (ty ∷ tys) = λ i. type_meant ty i ∷ types_meant tys i

  pub regions_meant : (rs : Regions) → map_regions (name_term c) (type_term c) (attr_term c) (regions_lowered c wide rs) ≡ lowered_regions (map_regions (name_term c) (type_term c) (attr_term c) rs)
  regions_meant no_regions = refl
  regions_meant (region empty rs) = ap (λ l. region empty l) (regions_meant rs)
  regions_meant (region (block args os) rs) = λ i. region (block (types_meant args i) no_ops) (regions_meant rs i)
