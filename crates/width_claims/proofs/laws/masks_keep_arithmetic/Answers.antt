use Rattle.width_claims.proofs.Masking.{masks_literal, masks_negative, masks_sum, masks_difference, masks_product, masks_less, masks_extension, masks_resize, masks_zeros, masks_cut}
use Rattle.width_claims.proofs.laws.masks_keep_arithmetic.Goals as goal

pub returns-clause-literal : goal.returns-clause-literal
returns-clause-literal c = masks_literal

pub returns-clause-negative : goal.returns-clause-negative
returns-clause-negative c = masks_negative

pub returns-clause-sum : goal.returns-clause-sum
returns-clause-sum c = masks_sum

pub returns-clause-difference : goal.returns-clause-difference
returns-clause-difference c = masks_difference

pub returns-clause-product : goal.returns-clause-product
returns-clause-product c = masks_product

pub returns-clause-less : goal.returns-clause-less
returns-clause-less c = masks_less

pub returns-clause-extension : goal.returns-clause-extension
returns-clause-extension c = masks_extension

pub returns-clause-zeros : goal.returns-clause-zeros
returns-clause-zeros c = masks_zeros

pub returns-clause-cut : goal.returns-clause-cut
returns-clause-cut c = masks_cut

pub returns-clause-resize : goal.returns-clause-resize
returns-clause-resize c = masks_resize
