use Rattle.report_texts.proofs.Commands.{one_command}
use Rattle.report_texts.proofs.laws.one_command.Goals as goal

pub returns : goal.returns
returns c = one_command
