use Rattle.std.proofs.Common.{◌≡◌, ◌∙◌, ℕ, ap, rules}
use Rattle.ir_types.specs.Terms.{type_term}
use Rattle.indexmap.specs.IndexMap.{insert_entry}
use Rattle.ir_text.specs.declared.naming.Source.TheVariants.{Result}
use Rattle.ir_text.specs.declared.naming.ValueName.{ValueName}
use Rattle.ir_text.specs.Naming.{result_name, same_source}
use Rattle.ir_text.specs.View.{named_in}
use Rattle.ir_text.proofs.Entries.{put_in}
use Rattle.ir_text.proofs.values.name_result.Goals.{then-only, else-only}
use Rattle.ir_text.proofs.values.name_result.Goals as goal

pub returns : goal.returns
returns c = λ d.
    let place : c.in_ok-place.place ≡ c.args.place = c.in_ok-place.ensures in
    let name : c.if-only.name ≡ result_name c.args.only c.args.number c.in_ok-place.place = elim c.if-only.branch [ then-only w ↦ search rules | else-only w ↦ search rules ] in
    let named = λ (k : ℕ) (n : ValueName). insert_entry same_source (named_in d c.args.named.now.entries) (Result c.args.op k) (record { name = n; type = type_term d c.args.ty }) in
    ap (named_in d) c.in_ok-insert.ensures.entries ∙ put_in d c.args.named.now.entries _ _ ∙ ap (named c.in_ok-place.place) name ∙ ap (λ k. named k (result_name c.args.only c.args.number k)) place
