use Rattle.std.proofs.Common.{◌≡◌, length, map}
use Rattle.ir_types.specs.Terms.{attr_term, name_term}
use Rattle.ir_tree.specs.Maps.{map_entry}
use Rattle.ir_tree.specs.Meaning.{key_before}
use Rattle.ir_tree.specs.Edits.{entry_at}
use Rattle.ir_tree_blocks.proofs.readings.entry.Given as goal

abbrev pub invariant-entries : goal.invariant-entries
invariant-entries l =
    entry_at key_before l.key (map (map_entry (name_term l.ctx) (attr_term l.ctx)) l.rest)
    ≡ entry_at key_before l.key (map (map_entry (name_term l.ctx) (attr_term l.ctx)) l.fn.entries)

abbrev pub decreases-entries : goal.decreases-entries
decreases-entries l = length l.rest
