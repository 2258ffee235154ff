use Rattle.std.proofs.Common.{◌≡◌, ◌∙◌, false}
use Rattle.ir_event.specs.Modules.{module_in}
use Rattle.greedy.specs.Adding.{Adds, OneOf}
use Rattle.greedy.specs.Listing.{ListsUpTo}
use Rattle.greedy.specs.Parts.{IsNextTo, any_puts_last}
use Rattle.greedy.specs.Shown.{shown_operands}
use Rattle.greedy.proofs.Adding.{on_ok}
use Rattle.greedy.proofs.Gathering.{all_listed}
use Rattle.greedy.proofs.affected.near.Goals as goal

pub returns : goal.returns
returns c =
    let w = c.args.world.now in
    let es = c.args.events.now in
    on_ok (Adds (OneOf (IsNextTo w) es) c.push_seers_from-2.new.ops.items c.push_neighbours.new.ops.items) (any_puts_last es ≡ false → ListsUpTo c.args.passed (shown_operands w.store) es c.push_neighbours.new.ops.items (module_in w).tree) c.push_neighbours.result
    (λ next inner. all_listed w es inner c.args.passed c.clear.new.self.items c.push_all_reached.new.ops.items c.push_seers_from.new.ops.items c.push_around_listed.new.ops.items c.push_seers_from-2.new.ops.items c.push_neighbours.new.ops.items c.len-reached.result (c.len-reached.ensures ∙ c.push_all_reached.new.ops.ok.0)
    c.in_ok-push_all_reached.ensures c.in_ok-push_seers_from.ensures c.in_ok-push_around_listed.ensures c.in_ok-push_seers_from-2.ensures next) c.push_neighbours.ensures
