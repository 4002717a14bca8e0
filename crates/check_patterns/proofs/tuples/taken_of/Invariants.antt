use Rattle.std.proofs.Common.{◌≡◌, drop}
use Rattle.form_meaning.specs.Forms.{no_form}
use Rattle.form_meaning.specs.Parts.{taken_of}
use Rattle.class_checks.specs.Patterns.{part_of_length}
use Rattle.type_forms.specs.Tree.{alt_trees}
use Rattle.check_patterns.proofs.tuples.taken_of.Given as goal

abbrev pub invariant-loop-alternative : goal.invariant-loop-alternative
invariant-loop-alternative l =
    taken_of (part_of_length l.count l.index) l.known (alt_trees (drop l.alternative-index l.alternatives))
    ≡ taken_of (part_of_length l.count l.index) no_form (alt_trees l.alternatives)
