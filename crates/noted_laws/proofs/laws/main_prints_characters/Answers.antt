use Rattle.noted_laws.proofs.Printed.{main-characters, run-characters}
use Rattle.noted_laws.proofs.laws.main_prints_characters.Goals as goal

pub returns-clause-asked : goal.returns-clause-asked
returns-clause-asked c = main-characters

pub returns-clause-entered : goal.returns-clause-entered
returns-clause-entered c = run-characters
