use Rattle.std.proofs.Common.{◌≡◌, drop}
use Rattle.form_meaning.specs.Forms.{no_form}
use Rattle.form_meaning.specs.Parts.{taken_of}
use Rattle.type_forms.specs.Taking.{take_of}
use Rattle.type_forms.specs.Tree.{alt_trees}
use Rattle.type_forms.proofs.taking.taken_of.Given as goal

abbrev pub invariant-loop-alternative : goal.invariant-loop-alternative
invariant-loop-alternative l =
    taken_of (take_of l.part) l.known (alt_trees (drop l.alternative-index l.alternatives))
    ≡ taken_of (take_of l.part) no_form (alt_trees l.alternatives)
