use Rattle.std.proofs.Common.{◌∙◌, sym, inl, inr}
use Rattle.listeners_symbols.specs.Lines.{numbers_at}
use Rattle.listeners.specs.Marks.{around, itself, left_at}
use Rattle.listeners.proofs.Steps.{none_false, up_one}
use Rattle.listeners.proofs.waiting.left_above.Goals as goal
use Rattle.ir_event.proofs.of_tree_laws.Contents.{some_map}

pub returns-then-contains_key : goal.returns-then-contains_key
returns-then-contains_key c = (c.up.invariant.from c.up.at (itself c.up.at), some_map _ _ ∙ sym c.if-contains_key.ensures)

pub up-preserved : goal.up-preserved
up-preserved c =
    let roles = numbers_at c.args.roles.now in
    let left = left_at c.args.left.now in
    let next = sym c.parent.ensures ∙ c.in-Some.is in
    let none = none_false (left c.up.at) (some_map _ _ ∙ sym c.if-contains_key.ensures) in
    record {
      from = λ p u. c.up.invariant.from p (around c.up.at c.in-Some.around p next u);
      rest = λ p u. elim (c.up.invariant.rest p u) [ inl v ↦ up_one roles left c.up.at c.in-Some.around p next none v | inr n ↦ inr n ];
    }
