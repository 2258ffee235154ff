use Rattle.std.proofs.Common.{sym, ap, subst, ◌∙◌, ◌≤◌, arith}
use Rattle.std.specs.Prelude.{is_some, not}
use Rattle.ir_text_tokens.specs.Scopes.{Scopes, bound, find}
use Rattle.ir_text_tokens.specs.Places.{is_from, views}
use Rattle.ir_text_tokens.specs.Inside.{Standing}
use Rattle.ir_text_tokens.proofs.Kept.{adds, as_many, is_seen, stays}
use Rattle.ir_text_tokens.proofs.names.ScopedNames.bind_new.Goals as goal

pub invariant_of-self-then-is_visible : goal.invariant_of-self-then-is_visible
invariant_of-self-then-is_visible g c =
    let same = as_many c.self.inside.entries.items c.push_entry.new.entries.items c.cut.new.entries.items (record { name = c.args.name.now; value = c.args.value }) c.len-count.result (omega (arith, c.len-count.ensures)) c.in_ok-shadowed.ensures.ok c.cut.ensures.cut in
    record {
      agrees = c.cut.ensures.agrees;
      standing = subst (Standing c.self.inside.floors.items) same c.self.invariant.standing;
      floor = subst (λ n. c.self.inside.first ≤ n) same c.self.invariant.floor;
    }

pub returns-then-is_visible-clause-visible : goal.returns-then-is_visible-clause-visible
returns-then-is_visible-clause-visible g c =
    let seen =
    ap (λ (s : Scopes g.row.T.Denot). is_some (find c.args.name.now s.here)) (sym c.self.view_is)
    ∙ is_seen c.args.name.now c.self.inside.first (views c.self.inside.entries.items)
    ∙ ap (is_from c.self.inside.first) (sym c.in_ok-shadowed.ensures.shadowed)
    ∙ sym c.is_visible.ensures
    ∙ c.if-is_visible.true in
    ap not (sym seen)

pub returns-then-is_visible-clause-same : goal.returns-then-is_visible-clause-same
returns-then-is_visible-clause-same g c = λ _.
    stays c.self.inside.entries.items c.push_entry.new.entries.items c.cut.new.entries.items (record { name = c.args.name.now; value = c.args.value }) c.len-count.result c.self.inside.floors.items c.self.inside.first (omega (arith, c.len-count.ensures)) c.in_ok-shadowed.ensures.ok c.cut.ensures.cut
    ∙ c.self.view_is

pub returns-clause-visible : goal.returns-clause-visible
returns-clause-visible g c =
    let seen =
    ap (λ (s : Scopes g.row.T.Denot). is_some (find c.args.name.now s.here)) (sym c.self.view_is)
    ∙ is_seen c.args.name.now c.self.inside.first (views c.self.inside.entries.items)
    ∙ ap (is_from c.self.inside.first) (sym c.in_ok-shadowed.ensures.shadowed)
    ∙ sym c.is_visible.ensures
    ∙ c.if-is_visible.false in
    ap not (sym seen)

pub returns-clause-bound : goal.returns-clause-bound
returns-clause-bound g c = λ _.
    adds c.self.inside.entries.items c.push_entry.new.entries.items c.self.inside.floors.items (record { name = c.args.name.now; value = c.args.value }) c.self.inside.first c.in_ok-shadowed.ensures.ok c.self.invariant.floor c.self.invariant.standing
    ∙ ap (bound c.args.name.now c.args.value) c.self.view_is
