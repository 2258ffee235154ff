use Rattle.std.proofs.Common.{◌≡◌, ◌++◌, ◌-◌, [], length, map}
use Rattle.std.specs.Prelude.{drop, take}
use Rattle.mlir_work_transforms.specs.FiredText.{fired_after, fired_text}
use Rattle.mlir_work_transforms.proofs.fired_lines.write_firings.Given as goal

-- the lines so far, and those of the entries from the place on, are those of the list
abbrev pub invariant-places : goal.invariant-places
invariant-places l =
    l.text.items ++ fired_text (map (λ n. n.items) l.fn.names) (fired_after (take l.place l.fn.list) (drop l.place l.fn.list))
    ≡ l.fn.text.items ++ fired_text (map (λ n. n.items) l.fn.names) (fired_after [] l.fn.list)

abbrev pub decreases-places : goal.decreases-places
decreases-places l = length l.fn.list - l.place
