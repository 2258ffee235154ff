use Rattle.dialects_int.proofs.CastLaws.{extended_back, zeros_back, extended_to_itself, zeros_to_itself}
use Rattle.dialects_int.proofs.laws.casts_come_back.Goals as goal

pub returns-clause-signed : goal.returns-clause-signed
returns-clause-signed c u v a some h ha = extended_back u v a some h ha

pub returns-clause-unsigned : goal.returns-clause-unsigned
returns-clause-unsigned c u v a h ha = zeros_back u v a h ha

pub returns-clause-same_signed : goal.returns-clause-same_signed
returns-clause-same_signed c u a some ha = extended_to_itself u a some ha

pub returns-clause-same_unsigned : goal.returns-clause-same_unsigned
returns-clause-same_unsigned c u a ha = zeros_to_itself u a ha
