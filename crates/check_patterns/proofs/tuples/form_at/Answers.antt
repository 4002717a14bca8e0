use Rattle.check_patterns.proofs.Counts.{form_found}
use Rattle.check_patterns.proofs.tuples.form_at.Goals as goal

pub returns : goal.returns
returns c = form_found c.args.forms.now c.args.index c.get.result c.get.ensures.lookup
