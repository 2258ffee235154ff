use Rattle.rewriter_machine.proofs.IsMadeOrRefused.{reason_split, tried_whole, tried_through, tried_failed}
use Rattle.rewriter_machine.proofs.step_laws.inserts_are_tried.Goals as goal

pub returns-clause-split : goal.returns-clause-split
returns-clause-split g _ isolated place o free t = reason_split isolated place o free t

pub returns-clause-failed : goal.returns-clause-failed
returns-clause-failed g _ w place o us vs u r m f numbered e k h = tried_failed w place o m f numbered e us vs u r k h

pub returns-clause-whole : goal.returns-clause-whole
returns-clause-whole g _ w place o m f numbered e = tried_whole w place o m f numbered e

pub returns-clause-through : goal.returns-clause-through
returns-clause-through g _ w place o m f numbered e h = tried_through w place o m f numbered e h
