-- Types that are writable: a text can denote them.
use Rattle.std.specs.Prelude.{◌≡◌, ◌≤◌, ℕ, nat_le, Bool, true, not, ◌&&◌, if◌then◌else◌, length}
use Rattle.std.specs.List.{list_all}
use Rattle.ir_types.specs.Terms.{TypeTerm, Integer, Index, Function, Memref, OpaqueType, TypeTerms, no_types, next_type}
use Rattle.ir_types.specs.Depths.{is_scalar, type_depth}
use Rattle.ir_types.specs.Reasons.{is_width, is_dimension}
use Rattle.ir_types.specs.SameTypes.{type_list}
use Rattle.ir_text_types.specs.TypeReading.{many}
use Rattle.ir_text.specs.TypeText.{is_function}
use Rattle.ir_text_modules.specs.Kept.{is_type_text}

-- the element types that a memref may have: scalar types, and with opaque types, all but function types
abbrev pub may_stand : Bool → TypeTerm → Bool
may_stand opaque t = if opaque then not (is_function t) else is_scalar t

-- a writable type: an integer type has a valid width; a memref has at most as many dimensions as a text has bytes,
-- each within its limit, and an allowed element type; a function type has at most as many inputs and outputs as a
-- text has bytes, all writable; and an opaque type has the text of one, if opaque types are allowed
abbrev mutual
  pub is_written_type : Bool → TypeTerm → Bool
  is_written_type opaque (Integer sign width) = is_width width
  is_written_type opaque Index = true
  is_written_type opaque (Function inputs outputs) =
      (nat_le (length (type_list inputs)) many && nat_le (length (type_list outputs)) many) && (are_written_types opaque inputs && are_written_types opaque outputs)
  is_written_type opaque (Memref dims elem) = (nat_le (length dims) many && list_all is_dimension dims) && (may_stand opaque elem && is_written_type opaque elem)
  is_written_type opaque (OpaqueType text) = opaque && is_type_text text

  pub are_written_types : Bool → TypeTerms → Bool
  are_written_types opaque no_types = true
  are_written_types opaque (next_type t ts) = is_written_type opaque t && are_written_types opaque ts

-- a type of at most this depth that is writable
abbrev pub FitsType : Bool → ℕ → TypeTerm → Type 0
FitsType opaque depth t = (type_depth t ≤ depth) × (is_written_type opaque t ≡ true)
