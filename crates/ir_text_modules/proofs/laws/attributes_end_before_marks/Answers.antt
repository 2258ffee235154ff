use Rattle.ir_text_modules.proofs.Entries.{comma_ends, square_ends, curly_ends, nothing_ends}
use Rattle.ir_text_modules.proofs.laws.attributes_end_before_marks.Goals as goal

pub returns-clause-comma : goal.returns-clause-comma
returns-clause-comma c = comma_ends

pub returns-clause-square : goal.returns-clause-square
returns-clause-square c = square_ends

pub returns-clause-curly : goal.returns-clause-curly
returns-clause-curly c = curly_ends

pub returns-clause-nothing : goal.returns-clause-nothing
returns-clause-nothing c = nothing_ends
