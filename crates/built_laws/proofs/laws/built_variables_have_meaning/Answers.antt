use Rattle.built_laws.proofs.Stmts.{initial_value_meant, static_value_makes_nothing}
use Rattle.built_laws.proofs.laws.built_variables_have_meaning.Goals as goal

pub returns : goal.returns
returns c = record { meant = initial_value_meant; statics = static_value_makes_nothing }
