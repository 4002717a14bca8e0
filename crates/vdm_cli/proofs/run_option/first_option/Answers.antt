-- Words that begin neither with the log nor with units begin with no option.
use Rattle.std.proofs.Common.{map}
use Rattle.std.specs.String.{string_bytes}
use Rattle.report_texts.proofs.Searches.{no_option}
use Rattle.vdm_cli.proofs.Options.{none_too}
use Rattle.vdm_cli.proofs.run_option.first_option.Goals as goal

pub returns-in-None : goal.returns-in-None
returns-in-None c = none_too c.first_steps.result _ _ _ (λ steps. no_option (map string_bytes c.args.words.now) steps c.in-None.ensures) c.first_steps.ensures
