use Rattle.std.proofs.Common.{◌≡◌, ◌∙◌, sym, ap, subst, ℕ, map, length, refl, [], ◌∷◌, ◌++◌, ◌⊎◌, Err, true≢false}
use Rattle.std.specs.List.{list_any, position_or_len}
use Rattle.std.specs.Map.{keys_of}
use Rattle.ir_types_interner.specs.Interned.{with_last}
use Rattle.ir_types.specs.declared.ids.AttrId.{AttrId}
use Rattle.ir_types.specs.Things.{ContextModel, IsExtendedBy, AttrIsOf}
use Rattle.ir_types.specs.Terms.{attr_node_term}
use Rattle.ir_types.specs.Depths.{attr_depth}
use Rattle.ir_types.specs.Same.{same_attr}
use Rattle.ir_types.specs.Dictionaries.{kept}
use Rattle.ir_types.specs.Reasons.{attr_fault, attr_reason, dictionary_reason, full_reason, IsRefusedFor}
use Rattle.ir_types.specs.Sound.{Holds, IsKept}
use Rattle.ir_types.specs.Held.{things_of}
use Rattle.ir_types.proofs.Growth.{grows_refl}
use Rattle.ir_types.proofs.Calls.{checked_ok, checked_err, refused}
use Rattle.ir_types.proofs.Keeping.{kept_with_attr, attr_call}
use Rattle.ir_types.proofs.Keptness.{not_ok, on_err, dictionary_refuses, full_refuses, never, refused_as, refused_by}
use Rattle.ir_types.proofs.context.Context.attr.Goals as goal

pub invariant_of-self-2 : goal.invariant_of-self-2
invariant_of-self-2 c =
    let names : c.args.self.now.names ≡ map (λ v. v.items) c.self.inside.names.keys = ap (λ (d : ContextModel). d.names) (sym c.self.view_is) in
    let fine = checked_ok (attr_fault (attr_node_term c.args.self.now c.args.node)) (attr_depth (attr_node_term c.args.self.now c.args.node)) c.in_ok-depth.depth c.in_ok-depth.ensures in
    let kept_is = checked_ok (dictionary_reason (length c.args.self.now.attrs) c.args.node) (kept c.args.self.now.names c.args.node) c.in_ok-kept.kept c.in_ok-kept.ensures.reason in
    let same : c.in_ok-kept.kept ≡ kept (map (λ v. v.items) c.self.inside.names.keys) c.args.node = kept_is.1 ∙ ap (λ ns. kept ns c.args.node) names in
    kept_with_attr c.self.inside.opaque (map (λ v. v.items) c.self.inside.names.keys) c.self.inside.types.entries c.self.inside.attrs.entries c.intern_attr.new.attrs.entries c.args.node c.in_ok-depth.depth c.self.invariant
    (subst (λ k. keys_of c.intern_attr.new.attrs.entries ≡ with_last (same_attr k) k (keys_of c.self.inside.attrs.entries)) same c.in_ok-place.ensures.attrs)
    (subst (λ k. (c.intern_attr.new.attrs.entries ≡ c.self.inside.attrs.entries) ⊎ (c.intern_attr.new.attrs.entries ≡ c.self.inside.attrs.entries ++ (k, c.in_ok-depth.depth) ∷ [])) same c.in_ok-place.ensures.entries)
    c.intern_attr.ensures.within
    (subst (λ (d : ContextModel). AttrIsOf d c.args.node) (sym c.self.view_is) c.requires)
    (ap (λ (d : ContextModel). attr_fault (attr_node_term d c.args.node)) c.self.view_is ∙ fine.0)
    (subst (λ ns. IsKept ns (kept ns c.args.node)) names (subst (λ k. IsKept c.args.self.now.names k) kept_is.1 c.in_ok-kept.ensures.kept))
    (fine.1 ∙ ap (λ (d : ContextModel). attr_depth (attr_node_term d c.args.node)) (sym c.self.view_is))

pub returns-clause-ok : goal.returns-clause-ok
returns-clause-ok c =
    let names : c.args.self.now.names ≡ map (λ v. v.items) c.self.inside.names.keys = ap (λ (d : ContextModel). d.names) (sym c.self.view_is) in
    let kept_is = checked_ok (dictionary_reason (length c.args.self.now.attrs) c.args.node) (kept c.args.self.now.names c.args.node) c.in_ok-kept.kept c.in_ok-kept.ensures.reason in
    let same : c.in_ok-kept.kept ≡ kept (map (λ v. v.items) c.self.inside.names.keys) c.args.node = kept_is.1 ∙ ap (λ ns. kept ns c.args.node) names in
    rw (← c.self.view_is) (attr_call c.self.inside.opaque (map (λ v. v.items) c.self.inside.names.keys) c.self.inside.types.entries c.self.inside.attrs.entries c.intern_attr.new.attrs.entries c.args.node c.new.result
    (c.new.ensures ∙ c.in_ok-place.ensures.place ∙ ap (λ k. position_or_len (same_attr k) (keys_of c.self.inside.attrs.entries)) same)
    (subst (λ k. keys_of c.intern_attr.new.attrs.entries ≡ with_last (same_attr k) k (keys_of c.self.inside.attrs.entries)) same c.in_ok-place.ensures.attrs))

pub returns-in_err-depth-clause-refused : goal.returns-in_err-depth-clause-refused
returns-in_err-depth-clause-refused c =
    let why = checked_err (attr_fault (attr_node_term c.args.self.now c.args.node)) (attr_depth (attr_node_term c.args.self.now c.args.node)) c.in_err-depth.field-0.0 c.in_err-depth.ensures in
    refused_by AttrId c.from_residual.result (attr_reason c.args.node c.args.self.now) c.in_err-depth.field-0.0 c.from_residual.ensures.1
    (refused AttrId (attr_reason c.args.node c.args.self.now) c.in_err-depth.field-0.0 (rw why refl))

pub returns-in_err-kept-clause-refused : goal.returns-in_err-kept-clause-refused
returns-in_err-kept-clause-refused c =
    let holds : Holds c.args.self.now = subst Holds c.self.view_is c.self.invariant.holds in
    let fine = checked_ok (attr_fault (attr_node_term c.args.self.now c.args.node)) (attr_depth (attr_node_term c.args.self.now c.args.node)) c.in_ok-depth.depth c.in_ok-depth.ensures in
    let why = checked_err (dictionary_reason (length c.args.self.now.attrs) c.args.node) (kept c.args.self.now.names c.args.node) c.in_err-kept.field-0.0 c.in_err-kept.ensures.reason in
    refused_by AttrId c.from_residual-in_err-kept.result (attr_reason c.args.node c.args.self.now) c.in_err-kept.field-0.0 c.from_residual-in_err-kept.ensures.1
    (refused AttrId (attr_reason c.args.node c.args.self.now) c.in_err-kept.field-0.0 (dictionary_refuses c.args.self.now holds c.args.node fine.0 c.in_err-kept.field-0.0 why))

pub returns-in_err-place-clause-refused : goal.returns-in_err-place-clause-refused
returns-in_err-place-clause-refused c =
    let holds : Holds c.args.self.now = subst Holds c.self.view_is c.self.invariant.holds in
    let fine = checked_ok (attr_fault (attr_node_term c.args.self.now c.args.node)) (attr_depth (attr_node_term c.args.self.now c.args.node)) c.in_ok-depth.depth c.in_ok-depth.ensures in
    let kept_is = checked_ok (dictionary_reason (length c.args.self.now.attrs) c.args.node) (kept c.args.self.now.names c.args.node) c.in_ok-kept.kept c.in_ok-kept.ensures.reason in
    let attrs : keys_of c.self.inside.attrs.entries ≡ c.args.self.now.attrs = ap (λ (d : ContextModel). d.attrs) c.self.view_is in
    let full : full_reason (same_attr c.in_ok-kept.kept) (keys_of c.self.inside.attrs.entries) ≡ attr_reason c.args.node c.args.self.now = (λ i. full_reason (same_attr (kept_is.1 i)) (attrs i)) ∙ sym (full_refuses c.args.self.now holds c.args.node fine.0 kept_is.0) in
    refused_by AttrId c.from_residual-in_err-place.result (attr_reason c.args.node c.args.self.now) c.in_err-place.field-0.0 c.from_residual-in_err-place.ensures.1
    (refused_as ℕ AttrId (attr_reason c.args.node c.args.self.now) c.in_err-place.field-0.0 (subst (λ r. IsRefusedFor {A = ℕ} r (Err c.in_err-place.field-0.0)) full c.in_err-place.ensures.refused))

pub returns-in_err-depth-clause-known : goal.returns-in_err-depth-clause-known
returns-in_err-depth-clause-known c known none =
    let why = checked_err (attr_fault (attr_node_term c.args.self.now c.args.node)) (attr_depth (attr_node_term c.args.self.now c.args.node)) c.in_err-depth.field-0.0 c.in_err-depth.ensures in
    never (attr_reason c.args.node c.args.self.now) c.in_err-depth.field-0.0 (rw why refl) none

pub returns-in_err-kept-clause-known : goal.returns-in_err-kept-clause-known
returns-in_err-kept-clause-known c known none =
    let holds : Holds c.args.self.now = subst Holds c.self.view_is c.self.invariant.holds in
    let fine = checked_ok (attr_fault (attr_node_term c.args.self.now c.args.node)) (attr_depth (attr_node_term c.args.self.now c.args.node)) c.in_ok-depth.depth c.in_ok-depth.ensures in
    let why = checked_err (dictionary_reason (length c.args.self.now.attrs) c.args.node) (kept c.args.self.now.names c.args.node) c.in_err-kept.field-0.0 c.in_err-kept.ensures.reason in
    never (attr_reason c.args.node c.args.self.now) c.in_err-kept.field-0.0 (dictionary_refuses c.args.self.now holds c.args.node fine.0 c.in_err-kept.field-0.0 why) none

pub returns-in_err-place-clause-known : goal.returns-in_err-place-clause-known
returns-in_err-place-clause-known c known none =
    let kept_is = checked_ok (dictionary_reason (length c.args.self.now.attrs) c.args.node) (kept c.args.self.now.names c.args.node) c.in_ok-kept.kept c.in_ok-kept.ensures.reason in
    let attrs : keys_of c.self.inside.attrs.entries ≡ c.args.self.now.attrs = ap (λ (d : ContextModel). d.attrs) c.self.view_is in
    absurd (true≢false (sym (c.in_err-place.ensures.known ((λ i. list_any (same_attr (kept_is.1 i)) (attrs i)) ∙ known))))

pub returns-in_err-depth-clause-ok : goal.returns-in_err-depth-clause-ok
returns-in_err-depth-clause-ok c = not_ok AttrId _ c.from_residual.result c.in_err-depth.field-0.0 c.from_residual.ensures.1

pub returns-in_err-depth-clause-grows : goal.returns-in_err-depth-clause-grows
returns-in_err-depth-clause-grows c = grows_refl c.args.self.now

pub returns-in_err-depth-clause-err : goal.returns-in_err-depth-clause-err
returns-in_err-depth-clause-err c = on_err AttrId c.from_residual.result refl

pub returns-in_err-kept-clause-ok : goal.returns-in_err-kept-clause-ok
returns-in_err-kept-clause-ok c = not_ok AttrId _ c.from_residual-in_err-kept.result c.in_err-kept.field-0.0 c.from_residual-in_err-kept.ensures.1

pub returns-in_err-kept-clause-grows : goal.returns-in_err-kept-clause-grows
returns-in_err-kept-clause-grows c = grows_refl c.args.self.now

pub returns-in_err-kept-clause-err : goal.returns-in_err-kept-clause-err
returns-in_err-kept-clause-err c = on_err AttrId c.from_residual-in_err-kept.result refl

pub returns-in_err-place-clause-ok : goal.returns-in_err-place-clause-ok
returns-in_err-place-clause-ok c = not_ok AttrId _ c.from_residual-in_err-place.result c.in_err-place.field-0.0 c.from_residual-in_err-place.ensures.1

pub returns-in_err-place-clause-grows : goal.returns-in_err-place-clause-grows
returns-in_err-place-clause-grows c = subst (IsExtendedBy c.args.self.now) (sym (ap (λ es. things_of c.self.inside.opaque (map (λ v. v.items) c.self.inside.names.keys) c.self.inside.types.entries es) c.in_err-place.ensures.err ∙ c.self.view_is)) (grows_refl c.args.self.now)

pub returns-in_err-place-clause-err : goal.returns-in_err-place-clause-err
returns-in_err-place-clause-err c = on_err AttrId c.from_residual-in_err-place.result (ap (λ es. things_of c.self.inside.opaque (map (λ v. v.items) c.self.inside.names.keys) c.self.inside.types.entries es) c.in_err-place.ensures.err ∙ c.self.view_is)
