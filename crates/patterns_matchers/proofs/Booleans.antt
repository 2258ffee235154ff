-- The type of truth values.
use Rattle.std.proofs.Common.{◌≡◌, refl}
use Rattle.ir_event.specs.types.Terms.{TypeTerm, Integer, Index, Function, Memref, OpaqueType}
use Rattle.ir_event.specs.types.declared.node.Sign.TheVariants.{Signless, Signed, Unsigned}
use Rattle.ir_event.specs.types.SameTypes.{same_type}
use Rattle.ir_verify_base.specs.Types.{is_boolean}
use Rattle.patterns_base.specs.Made.{i1}

pub boolean_is : (ty : TypeTerm) → is_boolean ty ≡ same_type ty i1
boolean_is (Integer Signless w) = refl
boolean_is (Integer Signed w) = refl
boolean_is (Integer Unsigned w) = refl
boolean_is Index = refl
boolean_is (Function is os) = refl
boolean_is (Memref ds e) = refl
boolean_is (OpaqueType s) = refl
