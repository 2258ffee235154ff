-- Events undone one after another, newest first, with the listeners notified of each.
use Rattle.std.proofs.Common.{◌≡◌, ◌∙◌, sym, ap, subst, refl, ℕ, ◌-◌, ◌<◌, ◌≤◌, List, [], ◌∷◌, ◌++◌, length, take, drop, arith, append_assoc, append-nil, length-append}
use Rattle.std.proofs.Math.Seq.{drop-append_seam}
use Rattle.std.proofs.lemmas.List.{take-append-le, take_all}
use Rattle.ir_event.specs.declared.event.Event.{Event}
use Rattle.ir_event.specs.declared.world.World.{World}
use Rattle.ir_event.specs.Modules.{module_meaning, context_model, module_in, node_of_op}
use Rattle.ir_event.specs.Listener.{Listener}
use Rattle.ir_event.specs.Panels.{AllNotified}
use Rattle.rewriter.specs.Journals.{before, inverses, undone_all}
use Rattle.rewriter.specs.Held.{TransactionModel, Within, module_at, open_marks}
use Rattle.rewriter.specs.Moves.{Undone}
use Rattle.rewriter.proofs.MarkLaws.{within-more}
use Rattle.rewriter.specs.RewriterCalls.{Notified}
use Rattle.rewriter.specs.Rolling.{UndoneTo}
use Rattle.rewriter.proofs.Notified.{notified_none, notified_next, notified_step}

-- during the rollback: the events `es` were undone
pub record Undoing {B : Type 0} (meaning : B → Listener) (mark : ℕ) (from now : TransactionModel) (xs ys : List B) : Type 0 where
  pub es : List Event
  pub journal : from.journal ≡ now.journal ++ es
  pub long : mark ≤ length now.journal
  pub ctx : now.ctx ≡ from.ctx
  pub store : now.store ≡ undone_all from.ctx es from.store
  pub marks : now.marks ≡ from.marks
  pub opens : open_marks now ≡ open_marks from
  pub trailing : (k : ℕ) → k ≤ length now.journal → module_at k now ≡ module_at k from
  pub reported : Notified meaning (inverses es) (record { transaction = from; listeners = xs }) (record { transaction = now; listeners = ys })

module _ {B : Type 0} (meaning : B → Listener) (mark : ℕ) (from : TransactionModel) (xs : List B) where
  pub undoing_none : mark ≤ length from.journal → Undoing meaning mark from from xs xs
  undoing_none le =
      record {
        es = [];
        journal = sym (append-nil from.journal);
        long = le;
        ctx = refl;
        store = refl;
        marks = refl;
        opens = refl;
        trailing = λ k le. refl;
        reported = notified_none meaning (record { transaction = from; listeners = xs });
      }

  pub undoing_more : (e : Event) (h g : TransactionModel) (w : World) (ys zs : List B) → mark < length h.journal → Undone e h g → w.ctx ≡ g.ctx → w.store ≡ g.store → AllNotified meaning e (context_model w) (module_in w) (node_of_op w) ys zs
      → Undoing meaning mark from h xs ys → Undoing meaning mark from g xs zs
  undoing_more e h g w ys zs lt u ctx store reported on =
      let same : g.ctx ≡ h.ctx = ap (λ (k : TransactionModel). k.ctx) u.held in
      let one : Notified meaning (e ∷ []) (record { transaction = h; listeners = ys }) (record { transaction = g; listeners = zs }) = notified_step meaning e h g w ys zs same u.step u.shown ctx store reported in
      let long = ap length u.journal ∙ length-append g.journal (u.last ∷ []) in
      record {
        es = u.last ∷ on.es;
        journal = on.journal ∙ ap (λ js. js ++ on.es) u.journal ∙ append_assoc g.journal (u.last ∷ []) on.es;
        long = omega (arith, long, lt);
        ctx = same ∙ on.ctx;
        store = ap (λ (k : TransactionModel). k.store) u.held ∙ (λ i. undone_all (on.ctx i) (u.last ∷ []) (on.store i));
        marks = ap (λ (k : TransactionModel). k.marks) u.held ∙ on.marks;
        opens = u.marked ∙ on.opens;
        trailing = λ k le. u.trailing k le ∙ on.trailing k (omega (arith, le, long));
        reported = subst (λ (f : Event). Notified meaning (inverses on.es ++ f ∷ []) (record { transaction = from; listeners = xs }) (record { transaction = g; listeners = zs })) u.is
            (notified_next meaning (inverses on.es) (e ∷ []) (record { transaction = from; listeners = xs }) (record { transaction = h; listeners = ys }) (record { transaction = g; listeners = zs }) same on.reported one);
      }

  -- the newest event may be undone while the journal is longer than the mark
  pub undoing_free : (h : TransactionModel) (ys : List B) → mark < length h.journal → Within mark from.marks → Undoing meaning mark from h xs ys → Within (length h.journal - 1) h.marks
  undoing_free h ys lt w on = rw on.marks (within-more mark _ from.marks (omega (arith, lt)) w)

  -- and the journal gets shorter
  pub undoing_less : (e : Event) (h g : TransactionModel) → Undone e h g → length g.journal < length h.journal
  undoing_less e h g u = let long = ap length u.journal ∙ length-append g.journal (u.last ∷ []) in omega (arith, long)

  -- the end of the rollback
  module _ (h : TransactionModel) (ys : List B) (short : length h.journal ≤ mark) (on : Undoing meaning mark from h xs ys) where
    at_mark : mark ≡ length h.journal
    at_mark = let l = on.long in omega (arith, l, short)

    rest_is : drop mark from.journal ≡ on.es
    rest_is = (λ i. drop (at_mark i) (on.journal i)) ∙ drop-append_seam h.journal on.es

    preceding_is : take mark from.journal ≡ h.journal
    preceding_is = (λ i. take (at_mark i) (on.journal i)) ∙ take-append-le (length h.journal) h.journal on.es (omega arith) ∙ take_all (length h.journal) h.journal (omega arith)

    pub undone_to : UndoneTo mark from h
    undone_to =
        record {
          ctx = on.ctx;
          journal = sym preceding_is;
          marks = on.marks;
          module_of = (λ i. module_meaning (on.ctx i) (on.store i).module_of) ∙ ap (λ es. before from.ctx es from.store) (sym rest_is);
          opens = on.opens;
          trailing = λ k le. on.trailing k (let at = at_mark in omega (arith, le, at));
        }

    pub undone_notified : Notified meaning (inverses (drop mark from.journal)) (record { transaction = from; listeners = xs }) (record { transaction = h; listeners = ys })
    undone_notified = subst (λ es. Notified meaning (inverses es) (record { transaction = from; listeners = xs }) (record { transaction = h; listeners = ys })) (sym rest_is) on.reported
