use Rattle.std.proofs.Common.{◌≡◌, ◌∙◌, ap, rules}
use Rattle.std.specs.Int.{w128}
use mir.Val.{SFits}
use Rattle.std.proofs.lemmas.Int.{to_z-of_z}
use Rattle.ir_types.specs.Bits.{width_of}
use Rattle.ir_types.specs.Readings.{signed_of}
use Rattle.ir_types.proofs.ReadingLaws.{bits_back}
use Rattle.ir_types.proofs.bits.Bits.number.Goals as goal

pub returns-clause-bits : goal.returns-clause-bits
returns-clause-bits c =
    let fits : SFits w128 c.signed_number.result = search rules in
    let read : c.signed_number.result ≡ signed_of (width_of c.args.self.kind) c.args.self.value = c.signed_number.ensures ∙ ap (λ w. signed_of w c.args.self.value) c.width.ensures in
    rw (to_z-of_z w128 c.signed_number.result fits, read) (bits_back (width_of c.args.self.kind) c.args.self.value c.args.self.some c.args.self.in_range)
