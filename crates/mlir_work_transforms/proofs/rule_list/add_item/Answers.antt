use Rattle.mlir_work_transforms.proofs.Viewed.{one_more}
use Rattle.mlir_work_transforms.proofs.rule_list.add_item.Goals as goal

pub returns : goal.returns
returns c ls h = one_more _ _ ls c.args.item.now _ h c.in_ok-push-2.ensures.items c.in_ok-push.ensures.items c.in_ok-name.ensures.items
