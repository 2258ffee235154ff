use Rattle.std.proofs.Common.{◌≡◌, ◌∙◌, ℕ, ap}
use Rattle.ir_types.specs.Terms.{type_term}
use Rattle.indexmap.specs.IndexMap.{insert_entry}
use Rattle.ir_text.specs.declared.naming.Source.TheVariants.{Argument}
use Rattle.ir_text.specs.declared.naming.ValueName.TheVariants as name
use Rattle.ir_text.specs.Naming.{same_source}
use Rattle.ir_text.specs.View.{named_in}
use Rattle.ir_text.proofs.Entries.{put_in}
use Rattle.ir_text.proofs.values.name_argument.Goals as goal

pub returns : goal.returns
returns c = λ d.
    let region : c.in_ok-small.field-0 ≡ c.args.region = c.in_ok-small.ensures in
    let place : c.in_ok-small-2.field-0 ≡ c.args.place = c.in_ok-small-2.ensures in
    let named = λ (r k : ℕ). insert_entry same_source (named_in d c.args.named.now.entries) (Argument c.args.op r k) (record { name = name.Argument c.args.number; type = type_term d c.args.ty }) in
    ap (named_in d) c.in_ok-insert.ensures.entries ∙ put_in d c.args.named.now.entries _ _ ∙ ap (λ r. named r c.in_ok-small-2.field-0) region ∙ ap (named c.args.region) place
