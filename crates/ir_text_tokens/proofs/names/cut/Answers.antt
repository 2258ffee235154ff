use Rattle.std.proofs.Common.{rules, ◌≡◌, ◌++◌, ◌∷◌, [], None, sym, ◌∙◌, subst, arith}
use Rattle.std.specs.HashMap.{get}
use Rattle.std.specs.Option.{IsSome}
use Rattle.ir_text_tokens.specs.Places.{Agrees, key_eq}
use Rattle.ir_text_tokens.proofs.Kept.{agrees_pop, is_there, shorter}
use Rattle.ir_text_tokens.proofs.names.cut.Goals.{in-Some-get_mut, in_default-get_mut}
use Rattle.ir_text_tokens.proofs.names.cut.Goals as goal

pub entries-preserved-in-Some : goal.entries-preserved-in-Some
entries-preserved-in-Some g c =
    let e : c.entries.entries.items ≡ c.pop.new.self.items ++ c.in-Some.entry ∷ [] = rw c.in-Some.is at c.pop.ensures.items in
    let before = subst (Agrees c.entries.latest) e c.entries.invariant.agrees in
    let fewer = sym (shorter c.args.count c.pop.new.self.items _ _ e (omega (arith, c.entries-test.true, c.len-in-entries.ensures))) ∙ c.entries.invariant.same in
    elim c.match-get_mut.branch [
      | in-Some-get_mut w ↦
          let some : IsSome (get key_eq c.entries.latest c.in-Some.entry.name) = rw (← c.get_mut.ensures.value, w.in-Some-get_mut.is) (search rules) in
          record {
            agrees = rw w.latest-is (agrees_pop c.entries.latest (c.get_mut.follows.lender c.in-Some.entry.hidden) c.pop.new.self.items c.in-Some.entry before ((c.get_mut.follows.holds c.in-Some.entry.hidden).3 some).0);
            same = fewer;
          }
      | in_default-get_mut w ↦
          let none : get key_eq c.entries.latest c.in-Some.entry.name ≡ None = sym (rw w.in_default-get_mut.is at c.get_mut.ensures.value) in
          absurd (is_there c.entries.latest c.entries.latest c.pop.new.self.items c.in-Some.entry before none)
    ]
