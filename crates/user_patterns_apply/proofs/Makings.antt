-- Edits by which operations are made, while a context grows.
use Rattle.std.proofs.Common.{append_assoc, append-nil, ◌≡◌, ℕ, suc, ◌<◌, refl, ap, sym, ◌∙◌, subst, List, [], ◌∷◌, ◌++◌, length, slice_index_or, map, ◌&&◌, true, Option, Some, None, lt-ltb, arith}
use Rattle.ir_event.specs.types.Things.{ContextModel, IsExtendedBy}
use Rattle.ir_event.specs.types.Terms.{TypeTerm, AttrTerm, type_term, name_term, attr_term}
use Rattle.ir_event.specs.types.Sound.{Holds}
use Rattle.ir_event.specs.types.WordNames.{word_bytes}
use Rattle.ir_event.specs.trees.declared.place.Place.{Place}
use Rattle.ir_event.specs.trees.declared.value.Value.{Value}
use Rattle.ir_event.specs.trees.declared.value.Value.TheVariants.{Result}
use Rattle.ir_event.specs.trees.Tree.{Op, op, no_regions, regions}
use Rattle.ir_event.specs.trees.Meaning.{Operation, IsSoundIn, meaning}
use Rattle.ir_event.proofs.of_trees.Meanings.{stable, stays_sound}
use Rattle.ir_event.specs.tree_laws.Reasons.{hold_none}
use Rattle.ir_event.specs.Listener.{Listener}
use Rattle.patterns_lowering.specs.RewriterCalls.{Benched}
use Rattle.patterns_lowering.specs.Contents.{Edit, edit_meaning}
use Rattle.patterns_lowering.specs.Interning.{Added}
use Rattle.patterns_lowering.specs.Lists.{AllFit, Fits, edits_meaning, numbered}
use Rattle.patterns_lowering.specs.declared.edit.Edit.{Edit as Coded}
use Rattle.patterns_lowering.specs.declared.edit.Edit.TheVariants as coded
use Rattle.rewriter_machine.specs.Edits as edit
use Rattle.patterns_base.specs.Made.{Entries, made, value_entry}
use Rattle.patterns_base.specs.Makes.{give}
use Rattle.patterns.specs.Making.{EditsDenote}
use Rattle.patterns.specs.Interned.{IsAttrOf, IsNameOf, IsTypeOf}
use Rattle.patterns.specs.New.{new_op}
use Rattle.patterns.proofs.Adding.{added_none, added_on}
use Rattle.patterns.proofs.Numbers.{attr_keeps, name_keeps, type_keeps}
use Rattle.user_patterns_apply.specs.Built.{AreMadeOf, entries_in, made_in, operand_in}
use Rattle.user_patterns_apply.specs.Types.{TypeIsOf, type_in}
use Rattle.user_patterns_apply.specs.declared.rewrite_plan.NewOp.{NewOp}
use Rattle.user_patterns_apply.specs.declared.rewrite_plan.Property.{Property}
use Rattle.user_patterns_apply.specs.declared.rewrite_plan.Property.TheVariants as property
use Rattle.user_patterns_apply.specs.declared.types.BoundType.{BoundType}
use Rattle.user_patterns_apply.specs.declared.types.BoundType.TheVariants as bound
use Rattle.user_patterns_apply.specs.Planned.{EditDenotes, EntryDenotes, entries_of, makings, planned_edits}
use Rattle.user_patterns_apply.specs.declared.match_pattern.PlacedBuild.{PlacedBuild}
use Rattle.patterns_base.proofs.EditFacts.{edits_more}

-- ---- a context that grows

module _ (c d : ContextModel) (g : IsExtendedBy c d) where
  bound_stays : (b : BoundType) → TypeIsOf c b → TypeIsOf d b × (type_in d b ≡ type_in c b)
  bound_stays (bound.Matched n) h = type_keeps c d n (type_term c n) g (h, refl)
  bound_stays (bound.Concrete k) h = (tt, refl)

  made_stays : (n : ℕ) (m : NewOp) → TypeIsOf c m.ty → made_in d n m ≡ made_in c n m
  made_stays n m h = λ i. made (word_bytes m.word) (map (operand_in n) m.operands.items) ((bound_stays m.ty h).1 i) (entries m.property i)
    where
      entries : (p : Property) → entries_in d m p ≡ entries_in c m p
      entries property.Flags = refl
      entries (property.Predicate p) = refl
      entries (property.Bits bits) = ap (λ z. value_entry z bits) (bound_stays m.ty h).1

  pub grown_made : (ms : List NewOp) → AreMadeOf c ms → AreMadeOf d ms
  grown_made ms h = λ k e l. (bound_stays (slice_index_or ms k e).ty (h k e l)).0

  pub rest_made : (m : NewOp) (ms : List NewOp) → AreMadeOf c (m ∷ ms) → AreMadeOf c ms
  rest_made m ms h = λ k e l. h (suc k) e (omega (arith, l))

  pub makings_stay : (n : ℕ) (insertion : Place) (ms : List NewOp) → AreMadeOf c ms → makings d n insertion ms ≡ makings c n insertion ms
  makings_stay n insertion [] h = refl
  makings_stay n insertion (m ∷ ms) h = λ i. edit.Make insertion (made_stays n m (h 0 m (omega arith)) i) ∷ makings_stay n insertion ms (rest_made m ms h) i

  module _ (holds : Holds c) where
    edit_stays : (e : Coded) → Fits c e → Fits d e × (edit_meaning d (numbered e) ≡ edit_meaning c (numbered e))
    edit_stays (coded.Make place o) h = ((stays_sound c d o g h.0, h.1), ap (edit.Make place) (stable c d o holds g h.0))
    edit_stays (coded.SetOperand x k v) h = (tt, refl)
    edit_stays (coded.Replace v w) h = (tt, refl)
    edit_stays (coded.Move x place) h = (tt, refl)
    edit_stays (coded.Erase x) h = (tt, refl)
    edit_stays (coded.SetAttr x k a) h =
        let name = name_keeps c d k (name_term c k) g (h.0, refl) in
        let value = attr_keeps c d a (attr_term c a) holds g (h.1, refl) in
        ((name.0, value.0), λ i. edit.SetAttr x (name.1 i) (value.1 i))

    pub edits_stay : (es : List Coded) → AllFit c es → AllFit d es × (edits_meaning d es ≡ edits_meaning c es)
    edits_stay [] h = (tt, refl)
    edits_stay (e ∷ es) h = (let one = edit_stays e h.0 in let more = edits_stay es h.1 in ((one.0, more.0), λ i. one.1 i ∷ more.1 i))

pub fit_more : (c : ContextModel) (es : List Coded) (e : Coded) → AllFit c es → Fits c e → AllFit c (es ++ e ∷ [])
fit_more c [] e h f = (f, tt)
fit_more c (d ∷ es) e h f = (h.0, fit_more c es e h.1 f)

pub meaning_more : (c : ContextModel) (es : List Coded) (e : Coded) → edits_meaning c (es ++ e ∷ []) ≡ edits_meaning c es ++ edit_meaning c (numbered e) ∷ []
meaning_more c [] e = refl
meaning_more c (d ∷ es) e = ap (λ z. edit_meaning c (numbered d) ∷ z) (meaning_more c es e)

-- one more edit after edits that fit an earlier context
pub pushed_meaning : (c d : ContextModel) → Holds c → IsExtendedBy c d → (es after : List Coded) → AllFit c es → (e : Coded) (q : Edit) → EditDenotes d e q → after ≡ es ++ e ∷ [] → edits_meaning d after ≡ edits_meaning c es ++ q ∷ []
pushed_meaning c d holds g es after h e q s is = ap (edits_meaning d) is ∙ meaning_more d es e ∙ (λ i. (edits_stay c d g holds es h).1 i ++ s.meaning i ∷ [])

pub pushed_fit : (c d : ContextModel) → Holds c → IsExtendedBy c d → (es after : List Coded) → AllFit c es → (e : Coded) (q : Edit) → EditDenotes d e q → after ≡ es ++ e ∷ [] → AllFit d after
pushed_fit c d holds g es after h e q s is = subst (AllFit d) (sym is) (fit_more d es e (edits_stay c d g holds es h).0 s.fits)

-- ---- a new operation

module _ (c : ContextModel) (name : ℕ) (bytes : List ℕ) (ty : ℕ) (term : TypeTerm) (operands : List Value) (n : IsNameOf c name bytes) (t : IsTypeOf c ty term) where
  pub record Stands (o : Op) (q : Operation) : Type 0 where
    pub means : meaning c o ≡ q
    pub sound : IsSoundIn c o
    pub bare : hold_none (regions o) ≡ true

  bare_stands : Stands (new_op name operands ty None) (made bytes operands term [])
  bare_stands =
      record {
        means = λ i. op (record { id = 0; name = n.1 i; operands = operands; results = t.1 i ∷ []; properties = []; attributes = [] }) no_regions;
        sound = record { known = λ i. ((lt-ltb _ _ n.0 i && ((lt-ltb _ _ t.0 i && true) && (true && true))) && true) && true; sorted = refl };
        bare = refl;
      }

  entry_stands : (k a : ℕ) (key : List ℕ) (value : AttrTerm) → IsNameOf c k key → IsAttrOf c a value → Stands (new_op name operands ty (Some (k, a))) (made bytes operands term ((key, value) ∷ []))
  entry_stands k a key value at of =
      record {
        means = λ i. op (record { id = 0; name = n.1 i; operands = operands; results = t.1 i ∷ []; properties = (at.1 i, of.1 i) ∷ []; attributes = [] }) no_regions;
        sound = record { known = λ i. ((lt-ltb _ _ n.0 i && ((lt-ltb _ _ t.0 i && true) && (((lt-ltb _ _ at.0 i && lt-ltb _ _ of.0 i) && true) && true))) && true) && true; sorted = refl };
        bare = refl;
      }

  pub op_stands : (entry : Option (ℕ × ℕ)) (es : Entries) → EntryDenotes c entry es → Stands (new_op name operands ty entry) (made bytes operands term es)
  op_stands None es e = subst (λ z. Stands (new_op name operands ty None) (made bytes operands term z)) (sym e) bare_stands
  op_stands (Some k) es e = subst (λ z. Stands (new_op name operands ty (Some k)) (made bytes operands term z)) (sym e.4) (entry_stands k.0 k.1 e.0 e.1 e.2 e.3)

-- the properties of a new operation
pub entries_are : (b c : ContextModel) (m : NewOp) (ty : ℕ) → type_term c ty ≡ type_in b m.ty → (p : Property) → entries_of c m.word ty p ≡ entries_in b m p
entries_are b c m ty e property.Flags = refl
entries_are b c m ty e (property.Predicate p) = refl
entries_are b c m ty e (property.Bits bits) = ap (λ z. value_entry z bits) e

pub making_stands : (a b c : ContextModel) (m : NewOp) (insertion : Place) (n ty name : ℕ) (entry : Option (ℕ × ℕ)) → IsTypeOf b ty (type_in a m.ty) → IsTypeOf c ty (type_in a m.ty) → IsNameOf c name (word_bytes m.word) → EntryDenotes c entry (entries_of b m.word ty m.property)
    → (o : Op) → o ≡ new_op name (map (operand_in n) m.operands.items) ty entry → EditDenotes c (coded.Make insertion o) (edit.Make insertion (made_in a n m))
making_stands a b c m insertion n ty name entry before t named e o is =
    let s = op_stands c name (word_bytes m.word) ty (type_in a m.ty) (map (operand_in n) m.operands.items) named t entry (entries_in a m m.property) (subst (EntryDenotes c entry) (entries_are a b m ty before.1 m.property) e) in
    subst (λ z. EditDenotes c (coded.Make insertion z) (edit.Make insertion (made_in a n m))) (sym is) (record { meaning = ap (edit.Make insertion) s.means; fits = (s.sound, s.bare) })

-- ---- in sequence

module _ {B : Type 0} (means : B → Listener) (next : ℕ) (insertion : Place) (all : List NewOp) (old : Benched B) where
  -- some operations are made, and the rest are left
  pub record Making (rest : List NewOp) (now : Benched B) (edits : List Coded) : Type 0 where
    pub added : Added means old now
    pub holds : Holds now.transaction.ctx
    pub of : AreMadeOf now.transaction.ctx rest
    pub fits_in : AllFit now.transaction.ctx edits
    pub left : edits_meaning now.transaction.ctx edits ++ makings now.transaction.ctx next insertion rest ≡ makings old.transaction.ctx next insertion all

  pub making_none : Holds old.transaction.ctx → AreMadeOf old.transaction.ctx all → (es : List Coded) → es ≡ [] → Making all old es
  making_none holds of es none =
      record {
        added = added_none means old;
        holds = holds;
        of = of;
        fits_in = subst (AllFit old.transaction.ctx) (sym none) tt;
        left = ap (λ z. edits_meaning old.transaction.ctx z ++ makings old.transaction.ctx next insertion all) none;
      }

  pub making_more : (m : NewOp) (rest : List NewOp) (now after : Benched B) (edits more : List Coded) → Making (m ∷ rest) now edits → Holds after.transaction.ctx → Added means now after → AllFit after.transaction.ctx more
      → edits_meaning after.transaction.ctx more ≡ edits_meaning now.transaction.ctx edits ++ edit.Make insertion (made_in now.transaction.ctx next m) ∷ [] → Making rest after more
  making_more m rest now after edits more s holds added fits_in is =
      let g = added.grown.grows in
      let of = rest_made now.transaction.ctx after.transaction.ctx g m rest s.of in
      record {
        added = added_on means old now after s.holds s.added added;
        holds = holds;
        of = grown_made now.transaction.ctx after.transaction.ctx g rest of;
        fits_in = fits_in;
        left =
            (λ i. is i ++ makings_stay now.transaction.ctx after.transaction.ctx g next insertion rest of i)
            ∙ append_assoc (edits_meaning now.transaction.ctx edits) (edit.Make insertion (made_in now.transaction.ctx next m) ∷ []) (makings now.transaction.ctx next insertion rest) ∙ s.left;
      }

  pub making_done : (rest : List NewOp) (now : Benched B) (edits : List Coded) → length rest < 1 → Making rest now edits → edits_meaning now.transaction.ctx edits ≡ makings old.transaction.ctx next insertion all
  making_done [] now edits l s = sym (append-nil (edits_meaning now.transaction.ctx edits)) ∙ s.left
  making_done (m ∷ rest) now edits l s = absurd (omega (arith, l))

-- ---- the value that replaces the result

fit_joined : (c : ContextModel) (es fs : List Coded) → AllFit c es → AllFit c fs → AllFit c (es ++ fs)
fit_joined c [] fs h f = f
fit_joined c (e ∷ es) fs h f = (h.0, fit_joined c es fs h.1 f)

pub given_stands : (a c : ContextModel) (n x : ℕ) (p : PlacedBuild) (es after : List Coded) → edits_meaning c es ≡ makings a n p.point p.built.made.items → AllFit c es
    → after ≡ es ++ coded.Replace (Result x 0) (operand_in n p.built.result) ∷ coded.Erase x ∷ [] → EditsDenote c after (planned_edits a n x p)
given_stands a c n x p es after meaning fits_in is =
    let last = coded.Replace (Result x 0) (operand_in n p.built.result) ∷ coded.Erase x ∷ [] in
    subst (λ z. EditsDenote c z (planned_edits a n x p)) (sym is)
    (record { meaning = edits_more c es last ∙ ap (λ z. z ++ give x (operand_in n p.built.result)) meaning; fits_in = fit_joined c es last fits_in (tt, (tt, tt)) })
