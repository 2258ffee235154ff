use Rattle.listeners_support.proofs.Tables.{renewed_keeps}
use Rattle.listeners_support.proofs.laws.renewed_tables_keep.Goals as goal

pub returns : goal.returns
returns g _ fact is_kept c e m n before after s kept renewed = renewed_keeps fact is_kept c e m n before after s kept renewed
