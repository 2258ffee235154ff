use Rattle.std.proofs.Common.{◌≡◌, true, ap, inl, inr}
use Rattle.user_patterns_claims.specs.Code.{state}
use Rattle.user_patterns_claims.proofs.Simple.{is_plain, plain_states}
use Rattle.user_patterns_claims.proofs.translate.translate.Goals as goal

pub returns-in-Copy : goal.returns-in-Copy
returns-in-Copy c =
    let simple : is_plain c.args.instruction.now ≡ true =
    elim c.in-Copy.is [
      | inl h ↦ ap is_plain h.1
      | inr h ↦ elim h [
        | inl h ↦ ap is_plain h.3
        | inr h ↦ elim h [
          | inl h ↦ ap is_plain h.2
          | inr h ↦ elim h [
            | inl h ↦ ap is_plain h.3
            | inr h ↦ elim h [
              | inl h ↦ ap is_plain h.3
              | inr h ↦ elim h [ inl h ↦ ap is_plain h.3 | inr h ↦ ap is_plain h.1 ]
            ]
          ]
        ]
      ]
    ] in
    plain_states c.args.value_types.now c.args.narrower.now (state c.args.exprs.now.items c.args.operands.now.items c.args.conditions.now.items) c.plain_at.new.exprs.items c.plain_at.new.operands.items
    c.args.instruction.now simple c.plain_at.result c.plain_at.ensures
