use Rattle.std.proofs.Common.{◌≡◌, ◌++◌, drop}
use Rattle.std.specs.List.{flat_map}
use Rattle.pattern_meaning.specs.Brackets.{given_in}
use Rattle.eval_data.specs.Parts.{boxed_list, patterns_at}
use Rattle.search_steps.proofs.brackets.givens_of.Given as goal

abbrev pub invariant-loop-pattern : goal.invariant-loop-pattern
invariant-loop-pattern l =
    boxed_list l.found.items ++ flat_map given_in (patterns_at (drop l.pattern-index l.patterns)) ≡ flat_map given_in (patterns_at l.patterns)
