-- Joined lists of edits: the module after them, and their meaning.
use Rattle.rewriter_machine.specs.events.Modules.{Module}
use Rattle.ir_types.specs.Things.{ContextModel}
use Rattle.patterns_base.specs.Lists.{edits_meaning, numbered}
use Rattle.patterns_base.specs.declared.edit.Edit.{Edit as Coded}
use Rattle.rewriter_machine.specs.Contents.{Edit, all_edited, edit_meaning, edited}
use Rattle.std.proofs.Common.{[], List, ap, refl, ◌&&◌, ◌++◌, ◌+◌, ◌<◌, ◌∙◌, ◌∷◌, ◌≡◌, ◌≤◌}

pub edited_both : (es fs : List Edit) (m : Module) → all_edited (es ++ fs) m ≡ all_edited fs (all_edited es m)
edited_both [] fs m = refl
edited_both (e ∷ es) fs m = edited_both es fs (edited e m)

pub edits_more : (c : ContextModel) (es fs : List Coded) → edits_meaning c (es ++ fs) ≡ edits_meaning c es ++ edits_meaning c fs
edits_more c [] fs = refl
edits_more c (e ∷ es) fs = ap (λ l. edit_meaning c (numbered e) ∷ l) (edits_more c es fs)
