-- No edit is refused, as a field of each rule's record.
use Rattle.patterns_soundness.specs.base.declared.rule.Rule.{Rule}
use Rattle.patterns_soundness.proofs.Accepted.{are_accepted}
use Rattle.patterns_soundness.specs.Soundness.{IsAccepted}

pub are_accepted_at : (r : Rule) → IsAccepted r
are_accepted_at r m x = are_accepted r m x
