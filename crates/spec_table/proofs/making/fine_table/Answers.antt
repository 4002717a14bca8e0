use Rattle.std.proofs.Common.{◌≡◌, map, ap, ◌∙◌}
use Rattle.abstract_syntax.specs.Classes.{ClassTree}
use Rattle.class_index.specs.Lists.{spec_of}
use Rattle.spec_table.proofs.Building.{settled}
use Rattle.spec_table.proofs.making.fine_table.Goals as goal

pub of-requires-clause-settled : goal.of-requires-clause-settled
of-requires-clause-settled c = λ k l. settled (spec_of c.args.list) c.requires.fine k

pub invariant_of-result-clause-named : goal.invariant_of-result-clause-named
invariant_of-result-clause-named c = c.in_ok-class_names.ensures ∙ ap (map (λ (class : ClassTree). class.name)) c.all.ensures
