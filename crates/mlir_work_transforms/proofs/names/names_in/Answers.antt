use Rattle.std.proofs.Common.{◌++◌, ◌∷◌, [], ap, sym, ◌∙◌, subst, refl, List, ℕ}
use Rattle.std.specs.Option.{option_copied}
use Rattle.mlir_work_script_base.specs.Items.{items_after}
use Rattle.mlir_work_transforms.specs.Interned.{AreNumbers}
use Rattle.mlir_work_transforms.proofs.Listed.{item_done}
use Rattle.mlir_work_transforms.proofs.Named.{interned_more, interned_none, no_numbers}
use Rattle.mlir_work_transforms.proofs.names.names_in.Goals as goal

pub items-init : goal.items-init
items-init g c = record {
  interned = interned_none g.L.Analysis.meaning _;
  done = [];
  named = subst (λ (ns : List ℕ). AreNumbers c.args.bench.now.transaction.ctx ns []) (sym c.new-numbers.ensures) (no_numbers c.args.bench.now.transaction.ctx);
  whole = refl;
}

pub items-preserved : goal.items-preserved
items-preserved g c =
    let h = c.items.invariant in
    let item = c.split_item.result.0.now in
    record {
      interned = interned_more g.L.Analysis.meaning _ _ _ h.interned c.intern_onto.ensures.interned;
      done = h.done ++ item ∷ [];
      named = c.in-Ok.ensures.named h.done h.named;
      whole = item_done h.done item (items_after (option_copied c.split_item.result.1)) _
          (ap (λ (l : List (List ℕ)). h.done ++ l) (sym c.split_item.ensures.items) ∙ ap (λ o. h.done ++ items_after (option_copied o)) (sym c.in-Some.is) ∙ h.whole);
    }

pub returns-in-Err-clause-interned : goal.returns-in-Err-clause-interned
returns-in-Err-clause-interned g c = interned_more g.L.Analysis.meaning _ _ _ c.items.invariant.interned c.intern_onto.ensures.interned
