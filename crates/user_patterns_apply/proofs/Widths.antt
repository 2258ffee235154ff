-- The kinds of types.
use Rattle.std.proofs.Common.{◌≡◌, ℕ, refl, ap, sym, true, false, Some, None}
use Rattle.ir_event.specs.types.declared.bits.BitsKind.{BitsKind}
use Rattle.ir_event.specs.types.declared.bits.BitsKind.TheVariants as kind
use Rattle.ir_event.specs.types.declared.node.Sign.TheVariants.{Signless, Signed, Unsigned}
use Rattle.ir_event.specs.types.Bits.{type_of}
use Rattle.ir_event.specs.types.Terms.{TypeTerm, Integer, Index, Function, Memref, OpaqueType}
use Rattle.ir_event.specs.types.SameTypes.{same_type}
use Rattle.ir_verify_base.specs.Types as types
use Rattle.dialects_int.specs.Folds.{kind_of}
use Rattle.user_patterns_data.specs.Planning.{is_numeric, bound_type}
use Rattle.user_patterns_apply.specs.Types.{is_kind}

pub of_width : (ty : TypeTerm) (w : ℕ) → types.width_of ty ≡ Some w → Some (kind.Int w) ≡ kind_of ty
of_width (Integer Signless v) w e = (let one : v ≡ w = cc in ap (λ z. Some (kind.Int z)) (sym one))
of_width (Integer Signed v) w e = absurd cc
of_width (Integer Unsigned v) w e = absurd cc
of_width Index w e = absurd cc
of_width (Function is os) w e = absurd cc
of_width (Memref ds t) w e = absurd cc
of_width (OpaqueType s) w e = absurd cc

pub of_index : (ty : TypeTerm) → types.is_index ty ≡ true → Some kind.Index ≡ kind_of ty
of_index (Integer s v) e = absurd cc
of_index Index e = refl
of_index (Function is os) e = absurd cc
of_index (Memref ds t) e = absurd cc
of_index (OpaqueType s) e = absurd cc

pub no_kind : (ty : TypeTerm) → types.width_of ty ≡ None → types.is_index ty ≡ false → None ≡ kind_of ty
no_kind (Integer Signless v) e f = absurd cc
no_kind (Integer Signed v) e f = refl
no_kind (Integer Unsigned v) e f = refl
no_kind Index e f = absurd cc
no_kind (Function is os) e f = refl
no_kind (Memref ds t) e f = refl
no_kind (OpaqueType s) e f = refl

-- a named kind's type equals a type if the kinds are equal
pub written_same : (k : BitsKind) (ty : TypeTerm) → is_kind k (kind_of ty) ≡ same_type (type_of k) ty
written_same (kind.Int w) (Integer Signless v) = refl
written_same (kind.Int w) (Integer Signed v) = refl
written_same (kind.Int w) (Integer Unsigned v) = refl
written_same (kind.Int w) Index = refl
written_same (kind.Int w) (Function is os) = refl
written_same (kind.Int w) (Memref ds t) = refl
written_same (kind.Int w) (OpaqueType s) = refl
written_same kind.Index (Integer Signless v) = refl
written_same kind.Index (Integer Signed v) = refl
written_same kind.Index (Integer Unsigned v) = refl
written_same kind.Index Index = refl
written_same kind.Index (Function is os) = refl
written_same kind.Index (Memref ds t) = refl
written_same kind.Index (OpaqueType s) = refl

-- a bound type has a kind or none
pub written_kind : (k : BitsKind) → k ≡ bound_type (Some (type_of k))
written_kind (kind.Int w) = refl
written_kind kind.Index = refl

-- the type of a kind is numeric
pub written_numeric : (k : BitsKind) → true ≡ is_numeric (Some (type_of k))
written_numeric (kind.Int w) = refl
written_numeric kind.Index = refl

pub found_kind : (ty : TypeTerm) (k : BitsKind) → Some k ≡ kind_of ty → k ≡ bound_type (Some ty)
found_kind (Integer Signless v) k e = cc
found_kind (Integer Signed v) k e = absurd cc
found_kind (Integer Unsigned v) k e = absurd cc
found_kind Index k e = cc
found_kind (Function is os) k e = absurd cc
found_kind (Memref ds t) k e = absurd cc
found_kind (OpaqueType s) k e = absurd cc

pub kind_lost : (ty : TypeTerm) → None ≡ kind_of ty → kind.Int 0 ≡ bound_type (Some ty)
kind_lost (Integer Signless v) e = absurd cc
kind_lost (Integer Signed v) e = refl
kind_lost (Integer Unsigned v) e = refl
kind_lost Index e = absurd cc
kind_lost (Function is os) e = refl
kind_lost (Memref ds t) e = refl
kind_lost (OpaqueType s) e = refl
