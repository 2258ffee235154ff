-- The ids that are interned during a parse are ids of the grown context.
use Rattle.std.proofs.Common.{◌≡◌, ℕ, Bool, List, Some, slice_get, refl, ap, subst, ◌∙◌}
use Rattle.std.proofs.lemmas.Option.{slice_get_within}
use Rattle.ir_types.specs.declared.node.TypeNode.{TypeNode}
use Rattle.ir_types.specs.Things.{ContextModel, IsName, IsType}
use Rattle.ir_types.specs.Interning.{with_name, with_type}
use Rattle.ir_types.specs.Reasons.{name_reason, type_reason}
use Rattle.ir_types.specs.Sound.{IsSound}
use Rattle.ir_types.proofs.Growth.{grows_refl}
use Rattle.ir_types.proofs.CallNumbers.{name_stands, type_stands}
use Rattle.ir_text_types.specs.Outcomes.{Read}
use Rattle.ir_text_types.specs.Typed.{Typed, name_step, type_step}
use Rattle.ir_text_types.specs.TypeReading.{type_done, type_at}
use Rattle.ir_text_types.proofs.Worlds.{bind_read}
use Rattle.ir_text_types.proofs.TypeLaws.{read_interned, type_exact}

pub name_known : (bytes : List ℕ) (c d : ContextModel) (n : ℕ) → name_step bytes c ≡ Read (n, d) → IsName d n
unfolding name_step
name_known bytes c d n e =
    let a = read_interned (name_reason bytes c) (with_name bytes c) (n, d) e in
    let at : slice_get d.names n ≡ Some bytes = subst (λ (q : ℕ × ContextModel). slice_get q.1.names q.0 ≡ Some bytes) a.1 (name_stands bytes c) in
    slice_get_within d.names n bytes at

pub type_done_known : (node : TypeNode) (bytes rest : List ℕ) (c d : ContextModel) (n : ℕ) → type_done node (bytes, c) ≡ Read (n, (rest, d)) → IsType d n
unfolding type_done type_step
type_done_known node bytes rest c d n e =
    let b = bind_read (type_step node c) (λ m. Read (m.0, (bytes, m.1))) (n, (rest, d)) e in
    let a = read_interned (type_reason node c) (with_type node c) b.0 b.1 in
    let same : b.0 ≡ (n, d) = ap (λ (q : ℕ × Typed). (q.0, q.1.1)) (let k : (b.0.0, (bytes, b.0.1)) ≡ (n, (rest, d)) = cc (b.2) in k) in
    let at : slice_get d.types n ≡ Some node = subst (λ (q : ℕ × ContextModel). slice_get q.1.types q.0 ≡ Some node) (a.1 ∙ same) (type_stands node c) in
    slice_get_within d.types n node at

pub type_known : (o : Bool) (depth : ℕ) (bytes rest : List ℕ) (c d : ContextModel) (n : ℕ) → IsSound c → type_at o depth (bytes, c) ≡ Read (n, (rest, d)) → IsType d n
type_known o depth bytes rest c d n sound e =
    let f = (type_exact o depth c).found (bytes, c) bytes n (rest, d) (grows_refl c) sound (λ z g w. refl) e in
    (f.3.stands d (grows_refl d) f.3.sound).0
