use Rattle.std.proofs.Common.{◌≡◌, ◌++◌, length, map}
use Rattle.mlir_work_cli.proofs.files.push_commands.Given as goal

-- the scripts so far, followed by the remaining commands, are the initial scripts followed by all commands
abbrev pub invariant-commands : goal.invariant-commands
invariant-commands l =
    map (λ t. t.items) l.scripts.items ++ map (λ s. s.now) l.rest ≡ map (λ t. t.items) l.initial.scripts.items ++ map (λ s. s.now) l.commands

abbrev pub decreases-commands : goal.decreases-commands
decreases-commands l = length l.rest
