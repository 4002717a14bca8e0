use Rattle.std.proofs.Common.{ap}
use Rattle.form_meaning.specs.Forms.{FormTree}
use Rattle.class_checks.specs.Results.{Checked, after}
use Rattle.stmt_pending.specs.Meant.{pending_check}
use Rattle.stmt_pending.proofs.next.then_next.Goals as goal

pub returns : goal.returns
returns c = λ setting returned. ap (λ (k : Checked). after k (λ (form : FormTree). pending_check setting returned c.args.rest)) (c.pending_in.ensures setting returned)
