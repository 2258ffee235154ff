use Rattle.std.proofs.Common.{◌≡◌, ◌==◌, ◌∙◌, ap, sym, get_or, slice_get, Some, ℕ, []}
use Rattle.std.specs.List.{list_any}
use Rattle.std.proofs.lemmas.Option.{get_or_from_slice_get}
use Rattle.ir_types.specs.Words.{row_keys, is_inherent_number}
use Rattle.ir_types.proofs.WordNumbers.{inherent_is}
use Rattle.ir_types.proofs.words.inherent_number.Goals as goal

pub returns-then-number-lt-OPERATIONS-clause-name : goal.returns-then-number-lt-OPERATIONS-clause-name
unfolding is_inherent_number
returns-then-number-lt-OPERATIONS-clause-name c things sound =
    let at : slice_get row_keys c.args.op ≡ Some c.row.result.now = cc in
    let row : get_or row_keys c.args.op [] ≡ c.row.result.now = get_or_from_slice_get row_keys c.args.op c.row.result.now [] at in
    let tested : c.contains.result ≡ list_any (λ k. k == c.args.key) c.row.result.now = by c.number-then-number-lt-OPERATIONS-2.result (cc) c.contains.ensures in
    tested ∙ ap (list_any (λ k. k == c.args.key)) (sym row) ∙ sym (inherent_is things c.args.op c.args.key sound)
  where
    by : (key : ℕ) → key ≡ c.args.key → c.contains.result ≡ list_any (λ k. k == key) c.row.result.now → c.contains.result ≡ list_any (λ k. k == c.args.key) c.row.result.now
    by key e h = h ∙ ap (λ n. list_any (λ k. k == n) c.row.result.now) e
