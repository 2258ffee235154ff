-- A rewrite plan with its insertion point, and the interned numbers of its operations.
use Rattle.std.specs.Prelude.{◌≡◌, ℕ, List, [], ◌∷◌, ◌++◌, map, Option, Some, None}
use Rattle.ir_event.specs.types.Things.{ContextModel}
use Rattle.ir_event.specs.types.Terms.{AttrTerm, type_term}
use Rattle.ir_event.specs.types.WordNames.{word_bytes}
use Rattle.ir_event.specs.trees.declared.place.Place.{Place}
use Rattle.patterns_lowering.specs.Contents.{Edit, edit_meaning}
use Rattle.patterns_lowering.specs.Lists.{Fits, numbered}
use Rattle.patterns_lowering.specs.declared.edit.Edit.{Edit as Coded}
use Rattle.rewriter_machine.specs.Edits.{Make}
use Rattle.patterns_base.specs.Made.{Entries, flags, predicate_entry, value_entry}
use Rattle.patterns_base.specs.Makes.{give}
use Rattle.patterns.specs.Interned.{IsAttrOf, IsNameOf}
use Rattle.user_patterns_apply.specs.Built.{made_in, plan_in}
use Rattle.user_patterns_apply.specs.declared.rewrite_plan.NewOp.{NewOp}
use Rattle.user_patterns_apply.specs.declared.rewrite_plan.Property.{Property}
use Rattle.user_patterns_apply.specs.declared.rewrite_plan.Property.TheVariants as property
use Rattle.ir_event.specs.types.declared.word.Word.{Word}
use Rattle.user_patterns_apply.specs.declared.match_pattern.PlacedBuild.{PlacedBuild}

-- the edits of a rewrite plan at operation x, where n is the next free id
abbrev pub planned_edits : ContextModel → ℕ → ℕ → PlacedBuild → List Edit
planned_edits c n x p = map (λ o. Make p.point o) (plan_in c n p.built).0 ++ give x (plan_in c n p.built).1

-- the properties of an operation, by its name and the number of its type
abbrev pub entries_of : ContextModel → Word → ℕ → Property → Entries
entries_of c word ty property.Flags = flags (word_bytes word)
entries_of c word ty (property.Predicate p) = predicate_entry p
entries_of c word ty (property.Bits bits) = value_entry (type_term c ty) bits

-- the interned entry, or no entry, represents the properties
abbrev pub EntryDenotes : ContextModel → Option (ℕ × ℕ) → Entries → Type 0
EntryDenotes c None es = es ≡ []
EntryDenotes c (Some e) es =
    (key : List ℕ) × (value : AttrTerm) × IsNameOf c e.0 key × IsAttrOf c e.1 value × (es ≡ (key, value) ∷ [])

-- an edit of the code fits the context and represents this edit
pub record EditDenotes (c : ContextModel) (e : Coded) (edit : Edit) : Type 0 where
  pub meaning : edit_meaning c (numbered e) ≡ edit
  pub fits : Fits c e

-- the edits that insert operations at `front`
abbrev pub makings : ContextModel → ℕ → Place → List NewOp → List Edit
makings c n point ms = map (λ o. Make point o) (map (made_in c n) ms)
