use Rattle.ir_types.proofs.Apart.{bytes_apart}
use Rattle.ir_types.proofs.places.names_apart.Goals as goal

pub returns : goal.returns
returns c = bytes_apart (λ v. v.items) c.args.names.now.keys c.len-count.ensures.unique
