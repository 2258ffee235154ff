use Rattle.std.proofs.Common.{[], rules}
use Rattle.listeners_support.specs.Map.{entries_from}
use Rattle.listeners.proofs.Changing.{both_parts}
use Rattle.listeners.proofs.gather.push_changed.Goals as goal

pub returns : goal.returns
returns c =
    both_parts c.push_far.result c.args.keys.now.items c.push_near.new.keys.items c.push_far.new.keys.items
    (entries_from 0 c.parts.result.0.now) c.parts.result.1.now.entries c.args.changed.now.entries c.parts.ensures c.in_ok-push_near.ensures c.push_far.ensures
