use Rattle.std.proofs.Common.{◌≡◌, [], ◌∷◌, sym, ◌∙◌, ap, true, codes, inr}
use Rattle.std.proofs.lemmas.Slice.Eq.{bytes_eq-Decides}
use Rattle.ir_event.specs.types.Terms.{name_term, attr_term}
use Rattle.dialects_int.specs.Folds.{entries_of}
use Rattle.op_registry.specs.Properties.{is_allowed}
use Rattle.patterns_matchers.proofs.Pairs.{one_in, flags_are}
use Rattle.patterns_matchers.proofs.trivially_verified.are_flags.Goals as goal

pub returns-then-is_word : goal.returns-then-is_word
returns-then-is_word c allowed =
    let k = c.args.ctx.now in
    let entry = c.entry-item.result in
    let one = one_in c.args.entries.now entry _ c.in-len1.len_at_least c.in-len1.len_below c.entry-item.is in
    let key = (bytes_eq-Decides (name_term k entry.0) (codes "overflowFlags")).0 (sym c.if-is_word.ensures) in
    let flags = flags_are (attr_term k entry.1) (ap (λ key. is_allowed key (attr_term k entry.1)) (sym c.word_name.ensures.name) ∙ sym c.allows.ensures ∙ allowed) in
    inr (flags.0, flags.1, ap (entries_of k) one ∙ λ i. (key i, flags.2 i) ∷ [])
