-- A parse returns ids of the grown context.
use Rattle.std.proofs.Common.{◌≡◌, ℕ, Bool, List, refl}
use Rattle.ir_types.specs.declared.node.TypeNode.TheVariants.{Func}
use Rattle.ir_types.specs.Things.{ContextModel, IsType, TypeIsOf}
use Rattle.ir_types.specs.Sound.{IsSound}
use Rattle.ir_types.proofs.Growth.{grows_refl}
use Rattle.ir_text_types.specs.Outcomes.{Read}
use Rattle.ir_text_types.specs.TypeReading.{element_at, memref_at, type_at, signature_at}
use Rattle.ir_text_types.specs.TypeGrammar.{IsMemref, IsType as IsTypeText}
use Rattle.ir_text_types.proofs.TypeLaws.{element_exact, memref_exact, type_exact, signature_exact, func_stands}

pub signature_known : (o : Bool) (depth headroom : ℕ) (bytes rest : List ℕ) (c d : ContextModel) (x : List ℕ × List ℕ) → IsSound c → signature_at (type_at o depth) headroom (bytes, c) ≡ Read (x, (rest, d)) → TypeIsOf d (Func x.0 x.1)
signature_known o depth headroom bytes rest c d x sound e =
    let f = (signature_exact (type_at o depth) (IsTypeText o depth) (type_exact o depth) headroom c).found (bytes, c) bytes x (rest, d) (grows_refl c) sound (λ z g w. refl) e in
    (func_stands d x f.0 (f.3.stands d (grows_refl d) f.3.sound)).0

pub element_known : (o : Bool) (depth : ℕ) (bytes rest : List ℕ) (c d : ContextModel) (n : ℕ) → IsSound c → element_at o (memref_at o depth) (bytes, c) ≡ Read (n, (rest, d)) → IsType d n
element_known o depth bytes rest c d n sound e =
    let f = (element_exact o (memref_at o depth) (IsMemref o depth) (memref_exact o depth) c).found (bytes, c) bytes n (rest, d) (grows_refl c) sound (λ z g w. refl) e in
    (f.3.stands d (grows_refl d) f.3.sound).0
