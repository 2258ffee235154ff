-- Lists of edits, joined.
use Rattle.std.proofs.Common.{◌≡◌, refl, ap, List, [], ◌∷◌, ◌++◌}
use Rattle.ir_event.specs.types.Things.{ContextModel}
use Rattle.patterns_soundness.specs.base.Contents.{edit_meaning}
use Rattle.patterns_soundness.specs.base.declared.edit.Edit.{Edit}
use Rattle.patterns_soundness.specs.base.Lists.{AllFit, edits_meaning, numbered}
use Rattle.patterns_soundness.proofs.of_base.EditFacts.{edits_more}

pub fit_more : (c : ContextModel) (es fs : List Edit) → AllFit c es → AllFit c fs → AllFit c (es ++ fs)
fit_more c [] fs h k = k
fit_more c (e ∷ es) fs h k = (h.0, fit_more c es fs h.1 k)
