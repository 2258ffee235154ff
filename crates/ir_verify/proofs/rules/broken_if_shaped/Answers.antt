use Rattle.std.proofs.Common.{◌∙◌, sym, [], ◌∷◌}
use Rattle.op_registry.specs.Registry.{row_from}
use Rattle.ir_verify_base.specs.Numbers.{node_in}
use Rattle.ir_verify_base.specs.Shapes.{breaks_1, breaks_3, breaks_5, breaks_12, breaks_13, is_well_shaped}
use Rattle.ir_verify.specs.Sets.{packed}
use Rattle.ir_verify.proofs.Sets.{and_when, no_faults}
use Rattle.ir_verify.proofs.rules.broken_if_shaped.Goals as goal

pub returns : goal.returns
returns c =
    let row = row_from c.args.def.now in
    let node = node_in c.args.ctx.now c.args.around.now.node in
    let w = is_well_shaped row node in
    let f = no_faults (breaks_1 row node) (breaks_3 row node) (breaks_5 row node) (breaks_12 row node) (breaks_13 row node) c.requires.shaped in
    c.of.ensures ∙ λ i. packed (
    sym f.0 i
    ∷ and_when w _ c.breaks_2.result c.requires.shaped c.breaks_2.ensures i
    ∷ sym f.1 i
    ∷ and_when w _ c.breaks_4.result c.requires.shaped c.breaks_4.ensures i
    ∷ sym f.2 i
    ∷ and_when w _ c.breaks_6.result c.requires.shaped c.breaks_6.ensures i
    ∷ and_when w _ c.breaks_7.result c.requires.shaped c.breaks_7.ensures i
    ∷ and_when w _ c.breaks_8.result c.requires.shaped c.breaks_8.ensures i
    ∷ and_when w _ c.breaks_9.result c.requires.shaped c.breaks_9.ensures i
    ∷ c.breaks_10.ensures i
    ∷ c.breaks_11.ensures i
    ∷ sym f.3 i
    ∷ sym f.4 i
    ∷ and_when w _ c.breaks_14.result c.requires.shaped c.breaks_14.ensures i
    ∷ and_when w _ c.breaks_15.result c.requires.shaped c.breaks_15.ensures i
    ∷ and_when w _ c.breaks_16.result c.requires.shaped c.breaks_16.ensures i
    ∷ and_when w _ c.breaks_17.result c.requires.shaped c.breaks_17.ensures i
    ∷ and_when w _ c.breaks_18.result c.requires.shaped c.breaks_18.ensures i
    ∷ and_when w _ c.breaks_19.result c.requires.shaped c.breaks_19.ensures i
    ∷ and_when w _ c.breaks_20.result c.requires.shaped c.breaks_20.ensures i
    ∷ and_when w _ c.breaks_21.result c.requires.shaped c.breaks_21.ensures i
    ∷ and_when w _ c.breaks_22.result c.requires.shaped c.breaks_22.ensures i
    ∷ c.breaks_23.ensures i
    ∷ and_when w _ c.breaks_24.result c.requires.shaped c.breaks_24.ensures i
    ∷ []
    )
