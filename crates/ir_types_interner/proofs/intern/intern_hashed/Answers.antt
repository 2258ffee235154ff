use Rattle.std.proofs.Common.{◌≡◌, ◌∙◌, sym, ap, refl, arith, inr, None, true≢false, is_some}
use Rattle.std.specs.Map.{keys_of}
use Rattle.indexmap.specs.IndexMap.{keys, get}
use Rattle.indexmap.proofs.CallerLemmas.{insert_entry-new}
use Rattle.ir_types_interner.proofs.Placed.{found_at, absent_from, none_from_test, keys-push, with_last-found, with_last-absent}
use Rattle.ir_types_interner.proofs.intern.intern_hashed.Goals as goal
use Rattle.std.proofs.lemmas.Map.Entries.{length-keys_of}

pub returns-in-Some-clause-keys : goal.returns-in-Some-clause-keys
returns-in-Some-clause-keys g c =
    let h = found_at (g.K.PartialEq.eq c.args.key) (keys c.args.map.now) c.in-Some.index (sym c.get_index_of.ensures.index ∙ c.in-Some.is) in
    sym (with_last-found (g.K.PartialEq.eq c.args.key) c.args.key (keys c.args.map.now) h.0)

pub returns-in-Some-clause-full : goal.returns-in-Some-clause-full
returns-in-Some-clause-full g c =
    let h = found_at (g.K.PartialEq.eq c.args.key) (keys c.args.map.now) c.in-Some.index (sym c.get_index_of.ensures.index ∙ c.in-Some.is) in
    (λ e. absurd (cc e), λ e. absurd (true≢false (sym h.0 ∙ e.1)))

pub returns-then-count-limit-clause-full : goal.returns-then-count-limit-clause-full
returns-then-count-limit-clause-full g c =
    let h = absent_from (g.K.PartialEq.eq c.args.key) (keys c.args.map.now) (sym c.get_index_of.ensures.index ∙ c.in_default.is) in
    (λ e. (omega (arith, c.len-count.ensures.len), h.0), λ e. refl)

pub returns-then-count-limit-clause-known : goal.returns-then-count-limit-clause-known
returns-then-count-limit-clause-known g c e =
    let h = absent_from (g.K.PartialEq.eq c.args.key) (keys c.args.map.now) (sym c.get_index_of.ensures.index ∙ c.in_default.is) in
    absurd (true≢false (sym e ∙ h.0))

pub returns-in_err-insert-clause-known : goal.returns-in_err-insert-clause-known
returns-in_err-insert-clause-known g c e =
    let h = absent_from (g.K.PartialEq.eq c.args.key) (keys c.args.map.now) (sym c.get_index_of.ensures.index ∙ c.in_default.is) in
    absurd (true≢false (sym e ∙ h.0))

pub returns-clause-place : goal.returns-clause-place
returns-clause-place g c =
    let h = absent_from (g.K.PartialEq.eq c.args.key) (keys c.args.map.now) (sym c.get_index_of.ensures.index ∙ c.in_default.is) in
    c.len-count.ensures.len ∙ sym (length-keys_of c.args.map.now.entries) ∙ sym h.1

pub returns-clause-keys : goal.returns-clause-keys
returns-clause-keys g c =
    let h = absent_from (g.K.PartialEq.eq c.args.key) (keys c.args.map.now) (sym c.get_index_of.ensures.index ∙ c.in_default.is) in
    let none : get g.K.PartialEq.eq c.args.map.now c.args.key ≡ None = none_from_test _ (sym c.get_index_of.ensures.found ∙ ap is_some c.in_default.is) in
    let e = c.in_ok-insert.ensures.entries ∙ insert_entry-new g.K.PartialEq.eq c.args.map.now c.args.key c.args.value none in
    ap keys_of e ∙ keys-push c.args.map.now.entries c.args.key c.args.value ∙ sym (with_last-absent (g.K.PartialEq.eq c.args.key) c.args.key (keys c.args.map.now) h.0)

pub returns-clause-entries : goal.returns-clause-entries
returns-clause-entries g c =
    let none : get g.K.PartialEq.eq c.args.map.now c.args.key ≡ None = none_from_test _ (sym c.get_index_of.ensures.found ∙ ap is_some c.in_default.is) in
    inr (c.in_ok-insert.ensures.entries ∙ insert_entry-new g.K.PartialEq.eq c.args.map.now c.args.key c.args.value none)
