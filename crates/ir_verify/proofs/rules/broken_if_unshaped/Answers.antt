use Rattle.std.proofs.Common.{◌∙◌, [], ◌∷◌}
use Rattle.op_registry.specs.Registry.{row_from}
use Rattle.ir_verify_base.specs.Numbers.{around_in}
use Rattle.ir_verify_base.specs.Shapes.{is_well_shaped}
use Rattle.ir_verify_base.specs.TypeRules.{breaks_2, breaks_4, breaks_7, breaks_14, breaks_18, breaks_19, breaks_20, breaks_24}
use Rattle.ir_verify.specs.BlockRules.{breaks_6, breaks_8, breaks_9, breaks_21, breaks_22}
use Rattle.ir_verify.specs.PlaceRules.{breaks_15, breaks_16, breaks_17}
use Rattle.ir_verify.specs.Sets.{packed}
use Rattle.ir_verify.proofs.Sets.{hushed}
use Rattle.ir_verify.proofs.rules.broken_if_unshaped.Goals as goal

pub returns : goal.returns
returns c =
    let row = row_from c.args.def.now in
    let s = around_in c.args.ctx.now c.args.around.now in
    let w = is_well_shaped row s.node in
    c.of.ensures ∙ λ i. packed (
    c.breaks_1.ensures i
    ∷ hushed w (breaks_2 row s) c.requires.shaped i
    ∷ c.breaks_3.ensures i
    ∷ hushed w (breaks_4 row s) c.requires.shaped i
    ∷ c.breaks_5.ensures i
    ∷ hushed w (breaks_6 row s) c.requires.shaped i
    ∷ hushed w (breaks_7 row s) c.requires.shaped i
    ∷ hushed w (breaks_8 s) c.requires.shaped i
    ∷ hushed w (breaks_9 s) c.requires.shaped i
    ∷ c.breaks_10.ensures i
    ∷ c.breaks_11.ensures i
    ∷ c.breaks_12.ensures i
    ∷ c.breaks_13.ensures i
    ∷ hushed w (breaks_14 s) c.requires.shaped i
    ∷ hushed w (breaks_15 s) c.requires.shaped i
    ∷ hushed w (breaks_16 s) c.requires.shaped i
    ∷ hushed w (breaks_17 s) c.requires.shaped i
    ∷ hushed w (breaks_18 s) c.requires.shaped i
    ∷ hushed w (breaks_19 s) c.requires.shaped i
    ∷ hushed w (breaks_20 s) c.requires.shaped i
    ∷ hushed w (breaks_21 s) c.requires.shaped i
    ∷ hushed w (breaks_22 s) c.requires.shaped i
    ∷ c.breaks_23.ensures i
    ∷ hushed w (breaks_24 s) c.requires.shaped i
    ∷ []
    )
