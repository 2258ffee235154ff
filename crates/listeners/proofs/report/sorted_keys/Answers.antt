use Rattle.std.proofs.Common.{rules, ◌≡◌, ◌∙◌, ◌++◌, ap, sym}
use Rattle.listeners.specs.Keys.{keys_of}
use Rattle.listeners.specs.Others.{only}
use Rattle.listeners.specs.Tables.{changed_uses, is_unchanged, table_uses}
use Rattle.listeners.proofs.Listed.{keys_joined}
use Rattle.listeners.proofs.Sorted.{sorted_keys_of}
use Rattle.listeners.proofs.report.sorted_keys.Goals as goal

pub returns : goal.returns
returns c =
    let t = c.args.table.now in
    let first : c.push_changed.new.keys.items ≡ keys_of (changed_uses t.changed.entries) = search rules in
    let then : c.push_unchanged.new.keys.items ≡ c.push_changed.new.keys.items ++ keys_of (only (is_unchanged t.changed) t.listed) = search rules in
    let made : c.push_unchanged.new.keys.items ≡ keys_of (table_uses t) =
    then ∙ ap (λ l. l ++ keys_of (only (is_unchanged t.changed) t.listed)) first ∙ sym (keys_joined (changed_uses t.changed.entries) (only (is_unchanged t.changed) t.listed)) in
    sorted_keys_of (table_uses t) _ _ made c.sort_unstable.ensures.permutation c.sort_unstable.ensures.sorted
