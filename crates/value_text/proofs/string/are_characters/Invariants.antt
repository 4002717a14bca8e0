use Rattle.std.proofs.Common.{◌≡◌, drop}
use Rattle.abstract_syntax.specs.Values.{value_trees}
use Rattle.report_texts.specs.Values.{are_characters}
use Rattle.value_text.proofs.string.are_characters.Given as goal

abbrev pub invariant-loop-item : goal.invariant-loop-item
invariant-loop-item l = are_characters (value_trees (drop l.item-index l.items)) ≡ are_characters (value_trees l.items)
