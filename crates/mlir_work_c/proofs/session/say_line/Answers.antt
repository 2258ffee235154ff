use Rattle.std.proofs.Common.{subst}
use Rattle.mlir_work_script.specs.Commands.{Spoken}
use Rattle.mlir_work_c.specs.Stepped.{Said}
use Rattle.mlir_work_c.proofs.session.say_line.Goals as goal

pub returns-in-Empty-clause-said : goal.returns-in-Empty-clause-said
returns-in-Empty-clause-said c = subst (λ (spoken : Spoken). Said c.args.session_options.now c.args.session.now spoken c.nothing.result c.leave.new.session) c.in-Empty.ensures (c.nothing.ensures, c.leave.ensures.left)

pub returns-in-BadCommand-clause-said : goal.returns-in-BadCommand-clause-said
returns-in-BadCommand-clause-said c = subst (λ (spoken : Spoken). Said c.args.session_options.now c.args.session.now spoken c.obey_line.result c.obey_line.new.session) c.in-BadCommand.ensures c.obey_line.ensures.answered

pub returns-in-Command-clause-said : goal.returns-in-Command-clause-said
returns-in-Command-clause-said c = subst (λ (spoken : Spoken). Said c.args.session_options.now c.args.session.now spoken c.obey_line-in-Command.result c.obey_line-in-Command.new.session) c.in-Command.ensures c.obey_line-in-Command.ensures.answered

pub returns-in-Session-clause-said : goal.returns-in-Session-clause-said
returns-in-Session-clause-said c = subst (λ (spoken : Spoken). Said c.args.session_options.now c.args.session.now spoken c.obey_line-in-Session.result c.obey_line-in-Session.new.session) c.in-Session.ensures c.obey_line-in-Session.ensures.answered

pub returns-in-Registry-clause-said : goal.returns-in-Registry-clause-said
returns-in-Registry-clause-said c = subst (λ (spoken : Spoken). Said c.args.session_options.now c.args.session.now spoken c.obey_line-in-Registry.result c.obey_line-in-Registry.new.session) c.in-Registry.ensures c.obey_line-in-Registry.ensures.answered
