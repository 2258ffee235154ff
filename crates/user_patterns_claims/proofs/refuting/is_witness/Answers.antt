use Rattle.std.proofs.Common.{◌≡◌, ◌∙◌, map, ap, sym}
use Rattle.dialects_int.specs.Folds.{known_of}
use Rattle.user_patterns_check.specs.Contents.{content}
use Rattle.user_patterns_data.specs.Fitting.{content_at}
use Rattle.user_patterns_data.specs.Shapes.{pattern_model}
use Rattle.user_patterns_claims.specs.Decoding.{IsAssignment}
use Rattle.user_patterns_claims.specs.Outcomes.{old_result}
use Rattle.user_patterns_claims.proofs.Decoded.{some_is, witnesses}
use Rattle.user_patterns_claims.proofs.refuting.is_witness.Goals as goal

pub returns : goal.returns
returns c t =
    let p = pattern_model c.args.pattern.now in
    let a = c.in-Some.assignment in
    let s = content c.in_ok-sides.sides in
    let assigned = some_is c.in_ok-assignment.field-0 (IsAssignment p c.args.set c.args.word.now) a c.in_ok-assignment.ensures c.in-Some.is in
    let at : s ≡ content_at p a.widths.items = c.in_ok-sides.ensures ∙ ap (content_at p) c.deref.ensures.value in
    let old = c.in_ok-old.ensures ∙ ap (λ xs. old_result s (map known_of xs)) c.deref-2.ensures.value in
    witnesses p c.args.set c.args.word.now a s assigned at c.in_ok-old.old old (sym c.is_number_at.ensures ∙ t)
