use Rattle.std.proofs.Common.{◌∙◌, sym, arith}
use Rattle.ir_types_interner.proofs.Placed.{is_here, is_past}
use Rattle.ir_types_interner.proofs.intern.among_first.Goals as goal

pub returns-then-eq : goal.returns-then-eq
returns-then-eq g c = is_here (g.K.PartialEq.eq c.args.key.now) c.args.map.now.entries c.places.place _ (sym c.in-Some.ensures.entry) c.places.invariant (sym c.eq.ensures ∙ c.if-eq.true)

pub places-preserved : goal.places-preserved
places-preserved g c = let next = is_past (g.K.PartialEq.eq c.args.key.now) c.args.map.now.entries c.places.place _ (sym c.in-Some.ensures.entry) c.places.invariant (sym c.eq.ensures ∙ c.if-eq.false) in omega (arith, next)
