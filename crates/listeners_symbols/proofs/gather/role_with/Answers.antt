use Rattle.std.proofs.Common.{◌∙◌, ap}
use Rattle.ir_event.specs.types.Terms.{name_term}
use Rattle.ir_event.specs.types.Words.{is_table}
use Rattle.listeners_symbols.proofs.Meant.{references_meant, call_meant, function_meant}
use Rattle.std.proofs.lemmas.Bool.{OnTrue_at}
use Rattle.listeners_symbols.proofs.Unnamed.{read_nameless}
use Rattle.listeners_symbols.specs.Table.{head_meaning}
use Rattle.listeners_symbols.proofs.gather.role_with.Goals as goal

pub returns-then-names_nothing : goal.returns-then-names_nothing
returns-then-names_nothing c types e =
    let ctx = c.args.ctx.now in
    read_nameless (head_meaning ctx c.args.node.now.head) (OnTrue_at c.if-names_nothing.true c.names_nothing.ensures) ctx types c.args.tables.now c.args.call c.nameless_role.result c.nameless_role.ensures c.requires.call e

pub returns : goal.returns
returns c types e =
    let ctx = c.args.ctx.now in
    record {
      is = λ i. record {
        parent = c.args.tables.now.parent;
        home = c.args.tables.now.home;
        table = c.args.tables.now.table;
        is_table = (c.table.ensures ∙ ap (λ n. is_table (name_term ctx n)) c.name.ensures) i;
        symbol = c.symbol_of.ensures.symbol i;
        name = c.name_of.ensures.name i;
        is_private = c.is_private.ensures i;
        references = (references_meant ctx c.in_ok-references.references.items ∙ c.in_ok-references.ensures.references) i;
        call = (call_meant ctx c.args.call ∙ e) i;
        function = (function_meant ctx c.in_ok-function.function ∙ c.in_ok-function.ensures.signature) i;
      };
      known = record { symbol = c.symbol_of.ensures.known; name = c.name_of.ensures.known; references = c.in_ok-references.ensures.known; call = c.requires.call; function = c.in_ok-function.ensures.known };
    }
