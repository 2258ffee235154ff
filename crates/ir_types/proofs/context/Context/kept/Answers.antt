use Rattle.std.proofs.Common.{◌≡◌, ◌∙◌, sym, ap, subst, ℕ, true, false, List, map, length, arith}
use Rattle.std.proofs.lemmas.List.Sorted.{length_permutation}
use Rattle.ir_types.specs.Things.{ContextModel}
use Rattle.ir_types.specs.Dictionaries.{has_duplicate, sorted}
use Rattle.ir_types.specs.Sound.{IsRising}
use Rattle.ir_types.proofs.Keptness.{plain_kept, dictionary_kept, dictionary_duplicate}
use Rattle.ir_types.proofs.context.Context.kept.Goals as goal
use Rattle.std.proofs.lemmas.Map.Entries.{length-keys_of}

pub returns-in_default : goal.returns-in_default
returns-in_default c =
    let h = plain_kept c.args.self.now.names (length c.args.self.now.attrs) c.args.node c.in_default.not-Dict in
    record { reason = h.0; kept = h.1 }

pub returns-then-not-sort_entries-clause-reason : goal.returns-then-not-sort_entries-clause-reason
returns-then-not-sort_entries-clause-reason c =
    let items = c.into_vec-entries.ensures in
    let none : has_duplicate (map (λ (e : ℕ × ℕ). e.0) c.in-Dict.entries) ≡ false = ap (λ (l : List (ℕ × ℕ)). has_duplicate (map (λ (e : ℕ × ℕ). e.0) l)) (sym items) ∙ sym c.sort_entries.ensures.duplicate ∙ c.if-not-sort_entries.true in
    let names : map (λ v. v.items) c.self.inside.names.keys ≡ c.args.self.now.names = ap (λ (d : ContextModel). d.names) c.self.view_is in
    let same : c.new.result ≡ sorted c.args.self.now.names c.in-Dict.entries = c.new.ensures ∙ c.sort_entries.ensures.sorted c.if-not-sort_entries.true ∙ (λ i. sorted (names i) (items i)) in
    dictionary_kept c.args.self.now.names (length c.args.self.now.attrs) c.args.node c.in-Dict.entries c.in-Dict.is (omega (arith, c.len.ensures, c.if-len-gt-MOST_ENTRIES.false)) c.new.result none same

pub returns-then-not-sort_entries-clause-kept : goal.returns-then-not-sort_entries-clause-kept
returns-then-not-sort_entries-clause-kept c =
    let names : map (λ v. v.items) c.self.inside.names.keys ≡ c.args.self.now.names = ap (λ (d : ContextModel). d.names) c.self.view_is in
    let long : length c.new.result ≡ length c.in-Dict.entries = ap length c.new.ensures ∙ length_permutation c.into_vec-entries.result.items c.sort_entries.new.entries.items c.sort_entries.ensures.moved ∙ ap length c.into_vec-entries.ensures in (
      omega (arith, long, c.len.ensures, c.if-len-gt-MOST_ENTRIES.false),
      subst (λ l. IsRising c.args.self.now.names l) (sym c.new.ensures) (subst (λ ns. IsRising ns c.sort_entries.new.entries.items) names (c.sort_entries.ensures.rising c.if-not-sort_entries.true)),
    )

pub returns-clause-reason : goal.returns-clause-reason
returns-clause-reason c =
    let items = c.into_vec-entries.ensures in
    let duplicate : has_duplicate (map (λ (e : ℕ × ℕ). e.0) c.in-Dict.entries) ≡ true = ap (λ (l : List (ℕ × ℕ)). has_duplicate (map (λ (e : ℕ × ℕ). e.0) l)) (sym items) ∙ sym c.sort_entries.ensures.duplicate ∙ c.if-not-sort_entries.false in
    let count : length c.args.self.now.attrs ≡ length c.self.inside.attrs.entries = ap (λ (d : ContextModel). length d.attrs) (sym c.self.view_is) ∙ length-keys_of c.self.inside.attrs.entries in
    dictionary_duplicate c.args.self.now.names (length c.args.self.now.attrs) c.args.node c.in-Dict.entries c.in-Dict.is (omega (arith, c.len.ensures, c.if-len-gt-MOST_ENTRIES.false)) duplicate (omega (arith, count, c.len-else-not-sort_entries.ensures.len, c.if-len.false))
