use Rattle.std.proofs.Common.{◌≡◌, sym, ap, subst, ◌∙◌, take, drop, ◌++◌, true, false, inl, inr}
use Rattle.std.proofs.lemmas.List.{take-append-drop}
use Rattle.greedy.specs.Work.{IsWork, Parted, begins_with, StillWaits}
use Rattle.greedy.specs.LocalContext.{is_listed}
use Rattle.ir_event.specs.tree_laws.Reads.{precedes}
use Rattle.greedy.proofs.Works.{put_between, begins_listed, listed_still}
use Rattle.greedy.proofs.worklist.push.Goals as goal
use Rattle.std.proofs.lemmas.Bool.{or_cases, or_left, or_right}

pub returns-then-is_at-clause-added : goal.returns-then-is_at-clause-added
returns-then-is_at-clause-added g c =
    let t = (g.R.GreedyRewriter.held c.args.bench.now).tree in
    let d = g.R.GreedyRewriter.distinct _ c.is_wellformed.ensures in
    let xs = c.args.work.now.again.items in
    let i = c.trailing-place.result in
    let b : begins_with c.args.op (drop i xs) ≡ true = ap (λ ys. begins_with c.args.op (drop i ys)) (sym c.deref-2.ensures.value) ∙ sym c.if-is_at.ensures in
    λ h. or_right (precedes c.args.work.now.passed c.args.op t) (is_listed c.args.op xs) (subst (λ ys. is_listed c.args.op ys ≡ true) (take-append-drop i xs) (begins_listed t d c.args.op (take i xs) (drop i xs) b))

pub returns-in-Ok-clause-work : goal.returns-in-Ok-clause-work
returns-in-Ok-clause-work g c =
    let t = (g.R.GreedyRewriter.held c.args.bench.now).tree in
    let d = g.R.GreedyRewriter.distinct _ c.is_wellformed.ensures in
    let xs = c.args.work.now.again.items in
    let i = c.trailing-place.result in
    let op = c.args.op in
    let passed = c.args.work.now.passed in
    let b : begins_with op (drop i xs) ≡ false = ap (λ ys. begins_with op (drop i ys)) (sym c.deref-2.ensures.value) ∙ sym c.if-is_at.ensures in
    let p : Parted op t (take i xs) (drop i xs) = subst (λ ys. Parted op t (take i ys) (drop i ys)) c.deref.ensures.value c.trailing-place.ensures.parted in
    let w : IsWork passed (take i xs ++ drop i xs) t = subst (λ ys. IsWork passed ys t) (sym (take-append-drop i xs)) c.requires in
    subst (λ ys. IsWork passed ys t) (sym c.in-Ok.ensures.items) (put_between t d passed op (take i xs) (drop i xs) w (sym c.if-not-in_tree.ensures) (sym c.if-is_to_come.ensures) p b)

pub returns-in-Ok-clause-others : goal.returns-in-Ok-clause-others
returns-in-Ok-clause-others g c =
    let t = (g.R.GreedyRewriter.held c.args.bench.now).tree in
    let d = g.R.GreedyRewriter.distinct _ c.is_wellformed.ensures in
    let xs = c.args.work.now.again.items in
    let i = c.trailing-place.result in
    let op = c.args.op in
    let passed = c.args.work.now.passed in
    subst (λ ys. StillWaits passed xs t passed ys t) (sym c.in-Ok.ensures.items) (λ z a b v. elim (or_cases (precedes passed z t) (is_listed z xs) v) [
      | inl e ↦ or_left (precedes passed z t) _ e
      | inr e ↦ or_right (precedes passed z t) _ (listed_still t d z op (take i xs) (drop i xs) (subst (λ ys. is_listed z ys ≡ true) (sym (take-append-drop i xs)) e))
    ])
