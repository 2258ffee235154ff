-- A reply whose offset is in range is a response whose offset is in range.
use Rattle.std.proofs.Common.{◌≡◌, ℕ}
use Rattle.rewriter_machine.specs.Commands.{Response, TextRefusedAt}
use Rattle.mlir_work_registry.specs.Notices.{IsWithin, Simple}
use Rattle.mlir_work_registry.specs.Replies.{IsBounded}

pub within_of : (bytes : ℕ) (response : Response) → IsBounded bytes response → IsWithin bytes (Simple response)
within_of bytes response h refusal offset e = h refusal offset (let same : Simple response ≡ Simple (TextRefusedAt refusal offset) = e in cc)
