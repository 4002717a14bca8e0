use Rattle.std.proofs.Common.{◌≡◌, ◌++◌, drop}
use Rattle.std.specs.String.{string_bytes}
use Rattle.abstract_syntax.specs.Values.{value_trees}
use Rattle.report_texts.specs.Values.{all_within}
use Rattle.value_text.proofs.string.push_all_within.Given as goal

abbrev pub invariant-loop-item : goal.invariant-loop-item
invariant-loop-item l =
    string_bytes l.text ++ all_within (value_trees (drop l.item-index l.items)) ≡ string_bytes l.initial.text ++ all_within (value_trees l.items)
