use Rattle.std.proofs.Common.{rules, ◌≡◌, ◌+◌, map, sym, ap, subst, length, ◌∙◌, ◌∷◌, [], arith}
use Rattle.std.proofs.lemmas.List.{map-append}
use Rattle.ir_store_slots.specs.trees.View.{region_view}
use Rattle.ir_store_slots.specs.Rows.{shape_of}
use Rattle.ir_store_slots.specs.Grows.{parts_of, AreBlocks, IsBlock, bare_region}
use Rattle.ir_store_slots.specs.Emptied.{emptied_region}
use Rattle.ir_store_slots.proofs.Grown.{emptied_step}
use Rattle.ir_store_slots.proofs.Blocks.{blocks_push}
use Rattle.ir_store_slots.proofs.Runs.{push_long}
use Rattle.ir_store_reads.proofs.Fitting.{some_reported}
use Rattle.ir_store_reads.proofs.spare.fit_areas.Goals as goal

pub regions-preserved : goal.regions-preserved
regions-preserved c =
    let i = c.regions.invariant in
    let q = parts_of c.args.slots.now c.args.sibs.now c.args.uses.now c.args.cells.now.items in
    let number : c.in-Some.number ≡ c.regions.number + 1 = search rules in
    let xs = map shape_of c.regions.fitted.items in
    let x = shape_of c.in-Ok-Some.area in
    let reported = some_reported (λ a. (bare_region (shape_of a) ≡ emptied_region (region_view c.region-item.result)) × IsBlock q 0 c.args.owner c.regions.number (shape_of a)) c.in-Ok-Some.field-0 c.in-Ok-Some.area c.in-Ok-Some.field-0-is c.in-Ok-Some.ensures in
    let ey = ap (map shape_of) c.in-Ok.ensures.items ∙ map-append shape_of c.regions.fitted.items (c.in-Ok-Some.area ∷ []) in (
      emptied_step xs (map shape_of c.push.new.self.items) x c.regions.rest.now c.region-item.result (map emptied_region (map region_view c.args.regions.now)) c.region-item.is c.in-len1-up.len_at_least reported.0 ey i.0,
      (
        subst (AreBlocks q 0 c.args.owner) (sym ey) (blocks_push q 0 c.args.owner xs x i.1.0 (subst (λ z. IsBlock q 0 c.args.owner z x) i.1.1 reported.1)),
        omega (arith, number, i.1.1, ap length ey, push_long xs x x),
      ),
    )
