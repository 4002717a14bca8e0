use Rattle.report_texts.proofs.Searches.{command_or_none}
use Rattle.report_texts.proofs.laws.command_or_none.Goals as goal

pub returns : goal.returns
returns c = command_or_none
