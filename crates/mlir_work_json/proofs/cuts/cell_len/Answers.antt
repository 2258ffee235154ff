use Rattle.std.proofs.Common.{◌≡◌, ◌∷◌, ◌+◌, ◌∙◌, ap, refl, sym, suc, drop, add-one, get_or, arith}
use Rattle.std.proofs.Math.Seq.{drop-cons}
use Rattle.mlir_work_json.specs.Cuts.{cell_len, quoted_after}
use Rattle.mlir_work_json.proofs.Cutting.{cell_ends, cell_goes_on}
use Rattle.mlir_work_json.proofs.cuts.cell_len.Goals as goal

pub loop-byte-preserved : goal.loop-byte-preserved
loop-byte-preserved c =
    let i = c.loop-byte.byte-index in
    let byte = get_or c.args.text.now i 0 in
    let within = c.loop-byte-test.true in
    let step : drop i c.args.text.now ≡ byte ∷ drop (i + 1) c.args.text.now = rw (add-one, drop-cons c.args.text.now i 0) refl in
    let goes : cell_len c.loop-byte.quoted (drop i c.args.text.now) ≡ suc (cell_len (quoted_after c.loop-byte.quoted byte) (drop (i + 1) c.args.text.now)) =
    ap (cell_len c.loop-byte.quoted) step ∙ cell_goes_on c.loop-byte.quoted byte (drop (i + 1) c.args.text.now) (sym c.ends_cell.ensures ∙ c.if-ends_cell.false) in
    record {
      place = ap (λ n. n + 1) c.loop-byte.invariant.place;
      same = rw (c.quoted_after-quoted.ensures) (omega (arith, goes, c.loop-byte.invariant.same));
    }

pub returns-then-ends_cell-clause-length : goal.returns-then-ends_cell-clause-length
returns-then-ends_cell-clause-length c =
    let i = c.loop-byte.byte-index in
    let byte = get_or c.args.text.now i 0 in
    let within = c.loop-byte-test.true in
    let step : drop i c.args.text.now ≡ byte ∷ drop (i + 1) c.args.text.now = rw (add-one, drop-cons c.args.text.now i 0) refl in
    let ends : cell_len c.loop-byte.quoted (drop i c.args.text.now) ≡ 0 =
    ap (cell_len c.loop-byte.quoted) step ∙ cell_ends c.loop-byte.quoted byte (drop (i + 1) c.args.text.now) (sym c.ends_cell.ensures ∙ c.if-ends_cell.true) in
    omega (arith, ends, c.loop-byte.invariant.same)
