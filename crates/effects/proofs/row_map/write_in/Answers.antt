use Rattle.std.proofs.Common.{◌≡◌, refl, ap, sym, ◌∙◌, subst, true, false, true≢false, Some, rules, is_some}
use Rattle.std.specs.Bool.{OnTrue}
use Rattle.std.specs.BTreeMap.{is_at}
use Rattle.std.specs.Ordering.{nat_cmp}
use Rattle.std.specs.Map.{set_value}
use Rattle.listeners_support.specs.Map as idmap
use Rattle.effects.proofs.Changes.{on_true_is}
use Rattle.effects.proofs.RowMaps.{has_head, written, unchanged, total_written, kept_counts, true_on}
use Rattle.effects.proofs.row_map.write_in.Goals as goal

pub returns-then-not-contains_key-clause-kept : goal.returns-then-not-contains_key-clause-kept
returns-then-not-contains_key-clause-kept c r is stays =
    let no : c.contains_key.result ≡ false = search rules in
    absurd (true≢false (sym (ap is_some is) ∙ has_head c.args.sums.now c.args.heads.now c.args.id ∙ sym c.contains_key.ensures ∙ no))

pub returns-then-not-write_counts-clause-kept : goal.returns-then-not-write_counts-clause-kept
returns-then-not-write_counts-clause-kept c r is stays =
    let no : c.write_counts.result ≡ false = search rules in
    absurd (true≢false (sym (c.write_counts.ensures.kept (kept_counts c.args.sums.now c.args.heads.now c.args.id c.args.row.now r is stays)) ∙ no))

pub returns-then-not-write_counts-clause-none : goal.returns-then-not-write_counts-clause-none
returns-then-not-write_counts-clause-none c e =
    let no : c.write_counts.result ≡ false = search rules in
    unchanged c.args.sums.now c.write_counts.new.sums c.args.heads.now c.args.heads.now (c.write_counts.ensures.none no) refl

pub returns-clause-had : goal.returns-clause-had
returns-clause-had c e = has_head c.args.sums.now c.args.heads.now c.args.id ∙ sym c.write.ensures.had ∙ e

pub returns-clause-kept : goal.returns-clause-kept
returns-clause-kept c r is stays =
    let yes : c.contains_key.result ≡ true = search rules in
    c.write.ensures.had ∙ sym c.contains_key.ensures ∙ yes

pub returns-clause-updates : goal.returns-clause-updates
returns-clause-updates c =
    let held : c.contains_key.result ≡ true = search rules in
    let yes = c.write.ensures.had ∙ sym c.contains_key.ensures ∙ held in
    let counted : c.write_counts.result ≡ true = search rules in
    true_on c.write.result _
    (written c.args.sums.now c.write_counts.new.sums c.args.heads.now c.write.new.self c.args.id c.args.row.now
    (subst (λ h. idmap.Updates c.args.heads.now c.write.new.self c.args.id (Some h)) (c.new.ensures ∙ c.head.ensures) (on_true_is c.write.result _ yes c.write.ensures.updates))
    (on_true_is c.write_counts.result _ counted c.write_counts.ensures.counts))

pub returns-clause-total : goal.returns-clause-total
returns-clause-total c =
    let held : c.contains_key.result ≡ true = search rules in
    let yes = c.write.ensures.had ∙ sym c.contains_key.ensures ∙ held in
    true_on c.write.result _
    (λ f r is. total_written f c.args.sums.now c.write_counts.new.sums c.args.heads.now c.write.new.self c.args.id c.args.row.now r
    (on_true_is c.write.result _ yes c.write.ensures.entries ∙ ap (set_value (is_at (nat_cmp c.args.id)) c.args.heads.now.entries) (c.new.ensures ∙ c.head.ensures)) is)

pub returns-clause-none : goal.returns-clause-none
returns-clause-none c e =
    let held : c.contains_key.result ≡ true = search rules in
    absurd (true≢false (sym (c.write.ensures.had ∙ sym c.contains_key.ensures ∙ held) ∙ e))
