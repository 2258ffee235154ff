use Rattle.dialects_int.proofs.CastLaws.{truncated_twice, truncated_back, truncated_zeros_back}
use Rattle.dialects_int.proofs.laws.cuts_collapse.Goals as goal

pub returns-clause-twice : goal.returns-clause-twice
returns-clause-twice c u v w a b h e = truncated_twice u v w a b h e

pub returns-clause-signed : goal.returns-clause-signed
returns-clause-signed c u w a some h ha = truncated_back u w a some h ha

pub returns-clause-unsigned : goal.returns-clause-unsigned
returns-clause-unsigned c u w a h ha = truncated_zeros_back u w a h ha
