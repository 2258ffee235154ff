use Rattle.ir_text_attributes.proofs.Ordering.{put_in_order}
use Rattle.ir_text_attributes.proofs.laws.entries_are_put_in_order.Goals as goal

pub returns : goal.returns
returns _ = put_in_order
