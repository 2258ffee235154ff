use Rattle.std.proofs.Common.{refl}
use Rattle.mlir_work_script.specs.SessionCommands.{session_command_of}
use Rattle.mlir_work_transforms.specs.registry.Registry.{registry_model}
use Rattle.mlir_work_transforms.specs.rewriter.RewriterCalls.{state_of}
use Rattle.mlir_work_session.specs.Machine.{response_of, session_setting}
use Rattle.mlir_work_session.specs.WhyPatterns.{asked_pattern}
use Rattle.mlir_work_transforms.proofs.of_registry.Bounds.{within_of}
use Rattle.mlir_work_session.proofs.WhyPatterns.{named_bounded}
use Rattle.mlir_work_session.proofs.script.answer_session_command.Goals as goal

pub returns-clause-fulfils : goal.returns-clause-fulfils
returns-clause-fulfils g c = (response_of c.run_named_command-answered.result.reply, refl, c.run_named_command-answered.ensures.fulfils, refl)

pub returns-clause-bounded : goal.returns-clause-bounded
returns-clause-bounded g c =
    let model = registry_model c.args.registry.now in
    let command = session_command_of c.args.session_command.now in
    let response = response_of c.run_named_command-answered.result.reply in
    within_of c.args.session_options.now.bytes response
    (named_bounded (session_setting g.L.AnalysisSource.supply c.args.session_options.now) model c.args.session_options.now.bytes (asked_pattern command model)
    (state_of g.L.Analysis.meaning c.args.bench.now) command response c.run_named_command-answered.result.shows.items
    (state_of g.L.Analysis.meaning c.run_named_command-answered.new.bench) c.run_named_command-answered.ensures.fulfils)
