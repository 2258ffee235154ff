use Rattle.std.proofs.Common.{◌≡◌, sym, ap, ◌∙◌, subst, true, false, if◌then◌else◌, [], ◌∷◌, ◌++◌, map}
use Rattle.std.specs.List.{All, list_any}
use Rattle.std.proofs.lemmas.List.{map-append}
use Rattle.ir_event.specs.types.Things.{IsName}
use Rattle.ir_event.specs.types.Terms.{Symbol, attr_term, name_term}
use Rattle.ir_event.specs.Rows.{IsSymbol}
use Rattle.listeners_symbols.specs.declared.role.Reference.{Reference}
use Rattle.listeners_symbols.specs.Found.{found_meaning}
use Rattle.listeners_symbols.specs.Roles.{has_parts}
use Rattle.listeners_symbols.specs.Table.{reference_meaning}
use Rattle.listeners_symbols.proofs.Found.{seen_among, added_found}
use Rattle.listeners_symbols.proofs.references.add.Goals as goal

pub returns-then-contains-clause-added : goal.returns-then-contains-clause-added
returns-then-contains-clause-added c =
    let ctx = c.args.ctx.now in
    let parts = map (name_term ctx) c.args.parts.now in
    let before = found_meaning ctx c.args.out.now in
    let yes : list_any (has_parts parts) before ≡ true = sym (seen_among ctx c.args.path parts c.sound.ensures c.requires.path c.requires.symbol c.args.out.now c.requires.out) ∙ sym c.contains.ensures ∙ c.if-contains.true in
    sym (ap (λ b. if b then before else before ++ (attr_term ctx c.args.path, parts) ∷ []) yes)

pub returns-clause-added : goal.returns-clause-added
returns-clause-added c =
    let ctx = c.args.ctx.now in
    let parts = map (name_term ctx) c.args.parts.now in
    let before = found_meaning ctx c.args.out.now in
    let made : Reference = record { path = c.args.path; parts = c.in_ok-parts.parts } in
    let no : list_any (has_parts parts) before ≡ false = sym (seen_among ctx c.args.path parts c.sound.ensures c.requires.path c.requires.symbol c.args.out.now c.requires.out) ∙ sym c.contains.ensures ∙ c.if-contains.false in
    ap (map (reference_meaning ctx)) c.in_ok-push.ensures.items
    ∙ map-append (reference_meaning ctx) c.args.out.now.list.items (made ∷ [])
    ∙ ap (λ ns. before ++ (attr_term ctx c.args.path, map (name_term ctx) ns) ∷ []) c.in_ok-parts.ensures.items
    ∙ sym (ap (λ b. if b then before else before ++ (attr_term ctx c.args.path, parts) ∷ []) no)

pub returns-clause-found : goal.returns-clause-found
returns-clause-found c =
    let ctx = c.args.ctx.now in
    let made : Reference = record { path = c.args.path; parts = c.in_ok-parts.parts } in
    let same = sym c.in_ok-parts.ensures.items in
    added_found ctx c.args.out.now (record { list = c.push.new.self; seen = c.insert.new.self }) made c.requires.out
    (record { path = c.requires.path; is = subst IsSymbol (sym c.requires.symbol) tt; parts = subst (All (IsName ctx)) same c.requires.parts })
    (c.requires.symbol ∙ ap (λ ns. Symbol (map (name_term ctx) ns)) same)
    c.in_ok-push.ensures.items
    c.in_ok-insert.ensures.updates.0
