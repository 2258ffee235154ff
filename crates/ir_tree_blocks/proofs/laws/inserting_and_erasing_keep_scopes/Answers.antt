use Rattle.ir_tree_blocks.proofs.Lists.{put_scopes, put_lexical, without_scopes, without_lexical}
use Rattle.ir_tree_blocks.proofs.laws.inserting_and_erasing_keep_scopes.Goals as goal

pub returns-clause-put : goal.returns-clause-put
returns-clause-put c place o t e a s = put_scopes place o t e a s

pub returns-clause-put_lexical : goal.returns-clause-put_lexical
returns-clause-put_lexical c place o t e a l = put_lexical place o t e a l

pub returns-clause-without : goal.returns-clause-without
returns-clause-without c x t e s = without_scopes x t e s

pub returns-clause-without_lexical : goal.returns-clause-without_lexical
returns-clause-without_lexical c x t e l = without_lexical x t e l
