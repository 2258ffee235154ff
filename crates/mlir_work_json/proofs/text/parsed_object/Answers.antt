use Rattle.std.proofs.Common.{ap, arith, sym}
use Rattle.std.proofs.lemmas.Str.{IsUtf8-from_is_utf8}
use Rattle.mlir_work_json.specs.Lines.{object_only}
use Rattle.mlir_work_json.proofs.text.parsed_object.Goals as goal

pub returns : goal.returns
returns c =
    let text = IsUtf8-from_is_utf8 c.args.text.now c.requires in
    sym (ap object_only (c.in-Err.ensures.err (λ m. let is = c.eq.ensures in let other = c.if-eq.false in let memory = c.classify.ensures.memory.1 m in grind arith) text))
