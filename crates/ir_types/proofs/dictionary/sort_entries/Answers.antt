use Rattle.std.proofs.Common.{◌<◌, ◌∙◌, sym, ap, ℕ, map, length, subst}
use Rattle.std.specs.List.{All}
use Rattle.std.proofs.lemmas.List.{length-map}
use Rattle.ir_types.specs.Dictionaries.{has_adjacent_duplicate}
use Rattle.ir_types.proofs.Sorting.{sorted_duplicate, sorted_kept, rising_pairs}
use Rattle.ir_types.proofs.dictionary.sort_entries.Goals as goal

pub returns-clause-duplicate : goal.returns-clause-duplicate
returns-clause-duplicate c =
    let names = map (λ v. v.items) c.args.names.now.keys in
    let known : All (λ (e : ℕ × ℕ). e.0 < length names) c.args.entries.now.items = subst (λ n. All (λ (e : ℕ × ℕ). e.0 < n) c.args.entries.now.items) (sym (length-map c.args.names.now.keys (λ v. v.items))) c.requires in
    c.has_duplicate_next_door.ensures ∙ ap has_adjacent_duplicate c.as_slice.ensures.value ∙ sorted_duplicate names c.names_apart.ensures c.args.entries.now.items c.order_entries.new.entries.items known c.order_entries.ensures.moved c.order_entries.ensures.sorted

pub returns-clause-sorted : goal.returns-clause-sorted
returns-clause-sorted c none =
    let names = map (λ v. v.items) c.args.names.now.keys in
    let known : All (λ (e : ℕ × ℕ). e.0 < length names) c.args.entries.now.items = subst (λ n. All (λ (e : ℕ × ℕ). e.0 < n) c.args.entries.now.items) (sym (length-map c.args.names.now.keys (λ v. v.items))) c.requires in
    (sorted_kept names c.names_apart.ensures c.args.entries.now.items c.order_entries.new.entries.items known c.order_entries.ensures.moved c.order_entries.ensures.sorted (sym (returns-clause-duplicate c) ∙ none)).0

pub returns-clause-rising : goal.returns-clause-rising
returns-clause-rising c none =
    let names = map (λ v. v.items) c.args.names.now.keys in
    let known : All (λ (e : ℕ × ℕ). e.0 < length names) c.args.entries.now.items = subst (λ n. All (λ (e : ℕ × ℕ). e.0 < n) c.args.entries.now.items) (sym (length-map c.args.names.now.keys (λ v. v.items))) c.requires in
    rising_pairs names c.order_entries.new.entries.items (sorted_kept names c.names_apart.ensures c.args.entries.now.items c.order_entries.new.entries.items known c.order_entries.ensures.moved c.order_entries.ensures.sorted (sym (returns-clause-duplicate c) ∙ none)).1
