use Rattle.std.proofs.Common.{◌≡◌, ◌∙◌, ap, sym, map, length}
use Rattle.std.proofs.lemmas.List.{length-map, with_items_is}
use Rattle.std.specs.Vec.{with_items}
use Rattle.listeners.specs.Listings.{forgotten}
use Rattle.listeners.proofs.Changing.{forgets_count, forgets_uses}
use Rattle.listeners.proofs.listing.Listing.forget.Goals as goal

pub invariant_of-self : goal.invariant_of-self
invariant_of-self c =
    let users = c.self.inside.users in
    let f = forgotten c.args.id in
    let now : c.forget_in.new.users ≡ map f users.items = c.forget_in.ensures ∙ ap (map f) c.deref_mut.ensures.value in
    let long : length c.forget_in.new.users ≡ users.len = ap length now ∙ length-map users.items f ∙ sym users.ok.0 in
    let is = with_items_is users c.forget_in.new.users long ∙ now in
    forgets_count c.args.id users.items (with_items users c.forget_in.new.users).items c.self.inside.operands.items is c.self.invariant

pub returns : goal.returns
returns c =
    let users = c.self.inside.users in
    let f = forgotten c.args.id in
    let now : c.forget_in.new.users ≡ map f users.items = c.forget_in.ensures ∙ ap (map f) c.deref_mut.ensures.value in
    let long : length c.forget_in.new.users ≡ users.len = ap length now ∙ length-map users.items f ∙ sym users.ok.0 in
    let is = with_items_is users c.forget_in.new.users long ∙ now in
    rw (← c.self.view_is) (forgets_uses c.args.id users.items (with_items users c.forget_in.new.users).items c.self.inside.operands.items is)
