use Rattle.rewriter_machine.proofs.Inserted.{made_more, all_made_whole, made_wellformed, header_allowed, header_next}
use Rattle.rewriter_machine.proofs.edit_laws.inserting_is_making.Goals as goal

pub returns-clause-parts : goal.returns-clause-parts
returns-clause-parts g _ w us vs m = made_more w us vs m

pub returns-clause-whole : goal.returns-clause-whole
returns-clause-whole g _ w place o m f numbered e = all_made_whole w place o m f numbered e

pub returns-clause-wellformed : goal.returns-clause-wellformed
returns-clause-wellformed g _ w place o us vs m f numbered e k = made_wellformed w place o m f numbered e us vs k

pub returns-clause-reason : goal.returns-clause-reason
returns-clause-reason g _ w place o us vs u m f numbered e k = header_allowed w place o m f numbered e us vs u k

pub returns-clause-id : goal.returns-clause-id
returns-clause-id g _ w place o us vs u m f numbered e k = header_next w place o m f numbered e us vs u k
