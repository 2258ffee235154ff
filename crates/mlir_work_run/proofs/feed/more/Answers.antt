use Rattle.std.proofs.Common.{take}
use Rattle.mlir_work_run.proofs.Feeds.{after_kept, still_feedless}
use Rattle.mlir_work_run.proofs.feed.more.Goals as goal

pub returns-in-Ok-extend_from_slice-clause-line : goal.returns-in-Ok-extend_from_slice-clause-line
returns-in-Ok-extend_from_slice-clause-line g c e = after_kept c.args.kept.now.items (take c.in-Ok.taken c.read_some.new.buffer) _ c.in-Ok-extend_from_slice.ensures.items (c.has_feed-whole.ensures.0 (c.got_of.ensures.line e))

pub returns-in-Ok-extend_from_slice-clause-part : goal.returns-in-Ok-extend_from_slice-clause-part
returns-in-Ok-extend_from_slice-clause-part g c e none = still_feedless c.args.kept.now.items (take c.in-Ok.taken c.read_some.new.buffer) _ c.in-Ok-extend_from_slice.ensures.items none (λ h. c.got_of.ensures.part e (c.has_feed-whole.ensures.1 h))
