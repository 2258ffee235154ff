-- Lists of edits that are never refused, except if memory runs out.
use Rattle.std.proofs.Common.{◌≡◌, ap, sym, ◌∙◌, List, [], ◌∷◌, ◌++◌, Some, None, inl, inr}
use Rattle.ir_types.specs.declared.refusal.Refusal.{Refusal}
use Rattle.ir_types.specs.declared.refusal.Refusal.TheVariants.{Memory}
use Rattle.rewriter_machine.specs.events.Modules.{Module}
use Rattle.rewriter_machine.specs.Contents.{Edit, all_edited, edit_reason, edited}
use Rattle.patterns_base.specs.Lists.{Free, IsWhy}

pub free_why : (es : List Edit) (m : Module) (r : Refusal) → Free es m → IsWhy es m r → r ≡ Memory
free_why es m r free (inl h) = h
free_why es m r free (inr w) = absurd (go w.made es m free w.parts w.why)
  where
    go : (us : List Edit) (es : List Edit) (m : Module) → Free es m → us ++ w.refused ∷ w.rest ≡ es → edit_reason w.refused (all_edited us m) ≡ Some r → ⊥
    go [] [] m free parts why = absurd cc
    go [] (e ∷ es) m free parts why = (let one : w.refused ≡ e = cc in let n : Some r ≡ None = sym why ∙ ap (λ z. edit_reason z m) one ∙ free.0 in cc)
    go (u ∷ us) [] m free parts why = absurd cc
    go (u ∷ us) (e ∷ es) m free parts why =
        (let one : u ≡ e = cc in let rest : us ++ w.refused ∷ w.rest ≡ es = cc in
        go us es (edited e m) free.1 rest (ap (λ z. edit_reason w.refused (all_edited us (edited z m))) (sym one) ∙ why))
