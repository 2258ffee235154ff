use Rattle.mlir_work_registry.specs.Registry.{kept_view}
use Rattle.mlir_work_transforms.specs.Unproved.{noted_of}
use Rattle.mlir_work_transforms.proofs.NamedPatterns.{added_once, there_once}
use Rattle.mlir_work_transforms.proofs.unproved.add_once.Goals as goal

pub returns-then-has_name : goal.returns-then-has_name
returns-then-has_name c =
    there_once c.args.noted.now.items (noted_of (kept_view c.args.held.now)) c.has_name.result (rw (c.deref.ensures.value, c.deref-2.ensures.value) at c.has_name.ensures) c.if-has_name.true

pub returns : goal.returns
returns c =
    added_once c.args.noted.now.items c.push.new.self.items (noted_of (kept_view c.args.held.now)) c.noted_of.result c.has_name.result (rw (c.deref.ensures.value, c.deref-2.ensures.value) at c.has_name.ensures) c.if-has_name.false c.noted_of.ensures c.in_ok-push.ensures.items
