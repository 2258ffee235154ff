use Rattle.std.proofs.Common.{◌∙◌, ◌≤◌, sym, subst, map, length}
use Rattle.std.proofs.lemmas.List.{length-map}
use Rattle.ir_types.specs.Things.{IsExtendedBy}
use Rattle.ir_types.proofs.Growth.{grows_name}
use Rattle.ir_types.proofs.Keeping.{kept_with_name, named_things, name_call}
use Rattle.ir_types.proofs.context.Context.hashed_name.Goals as goal
use Rattle.ir_types.specs.Limits.{most_things}

pub invariant_of-self-2 : goal.invariant_of-self-2
invariant_of-self-2 c =
    let few : length (map (λ v. v.items) c.intern_name.new.names.keys) ≤ most_things = subst (λ n. n ≤ most_things) (sym (length-map c.intern_name.new.names.keys (λ v. v.items))) c.intern_name.ensures.within in
    kept_with_name c.self.inside.opaque (map (λ v. v.items) c.self.inside.names.keys) (map (λ v. v.items) c.intern_name.new.names.keys) c.self.inside.types.entries c.self.inside.attrs.entries c.args.bytes.now c.self.invariant c.in_ok-place.ensures.names few

pub returns-clause-ok : goal.returns-clause-ok
returns-clause-ok c =
    rw (← c.self.view_is) (name_call c.self.inside.opaque (map (λ v. v.items) c.self.inside.names.keys) (map (λ v. v.items) c.intern_name.new.names.keys) c.self.inside.types.entries c.self.inside.attrs.entries c.args.bytes.now c.new.result (c.new.ensures ∙ c.in_ok-place.ensures.place) c.in_ok-place.ensures.names)

pub returns-clause-grows : goal.returns-clause-grows
returns-clause-grows c =
    rw (← c.self.view_is) (subst (IsExtendedBy _) (sym (named_things c.self.inside.opaque (map (λ v. v.items) c.self.inside.names.keys) (map (λ v. v.items) c.intern_name.new.names.keys) c.self.inside.types.entries c.self.inside.attrs.entries c.args.bytes.now c.in_ok-place.ensures.names)) (grows_name c.args.bytes.now _))
