use Rattle.ir_tree_laws.proofs.Nested.{put_along, without_along, may_along, found_along, put_at_end}
use Rattle.ir_tree_laws.proofs.laws.what_is_put_comes_chunk_by_chunk.Goals as goal

pub returns-clause-put : goal.returns-clause-put
returns-clause-put g _ place into o c t a = put_along place into o c t a

pub returns-clause-without : goal.returns-clause-without
returns-clause-without g _ y place o t e a = without_along y place o e t a

pub returns-clause-may : goal.returns-clause-may
returns-clause-may g _ place into o c t m n f = may_along place into o c t m n f

pub returns-clause-found : goal.returns-clause-found
returns-clause-found g _ place o t m y z e = found_along place o t m y z e

pub returns-clause-last : goal.returns-clause-last
returns-clause-last g _ h rs r c a = put_at_end h rs r c a
