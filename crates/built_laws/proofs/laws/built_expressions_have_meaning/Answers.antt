use Rattle.built_laws.proofs.Exprs.{expr_meant}
use Rattle.built_laws.proofs.laws.built_expressions_have_meaning.Goals as goal

pub returns : goal.returns
returns c = expr_meant
