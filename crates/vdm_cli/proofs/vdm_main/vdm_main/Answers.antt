-- A command's report, or that of faulty words.
use Rattle.std.proofs.Common.{refl, map, []}
use Rattle.std.specs.String.{string_bytes}
use Rattle.vdm_cli.specs.Commands.{command_view}
use Rattle.vdm_cli.specs.Headline.{call_of}
use Rattle.vdm_cli.proofs.Whole.{keeps_command, keeps_usage, keeps_reading, reads_nothing}
use Rattle.vdm_cli.proofs.vdm_main.vdm_main.Goals as goal

pub returns-in-Some : goal.returns-in-Some
returns-in-Some g c =
    let did = c.do_command.ensures in
    let call = call_of g.S.Source.left g.S.Source.faults g.S.Source.reads g.K.Sink.held g.K.Sink.faults (map string_bytes c.args.words.now)
    c.args.source.now c.do_command.new.source c.args.sink.now c.do_command.new.sink c.do_command.result in
    keeps_command call (command_view c.in-Some.command) c.in-Some.ensures did.log did.status (keeps_reading call did.reading.taken did.reading.turns) did.does

pub returns-in-None : goal.returns-in-None
returns-in-None g c =
    let made = c.without_run.ensures in
    let sent = c.written.ensures in
    let reading = reads_nothing g.S.Source.left g.S.Source.reads c.args.source.now in
    let call = call_of g.S.Source.left g.S.Source.faults g.S.Source.reads g.K.Sink.held g.K.Sink.faults (map string_bytes c.args.words.now)
    c.args.source.now c.args.source.now c.args.sink.now c.written.new.sink c.written.result in
    keeps_usage call [] c.without_run.result.journal c.without_run.result.log c.without_run.result.end c.in-None.ensures sent.log made.log sent.journal made.journal made.end
    refl refl refl sent.status (keeps_reading call reading.taken reading.turns) sent.wrote
