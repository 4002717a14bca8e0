-- The elements of a loop.
use Rattle.std.proofs.Common.{◌≡◌, List, length, ap, sym, ◌∙◌}
use Rattle.vdm_kinds.specs.declared.place.Place.{Place}
use Rattle.abstract_syntax.specs.Classes.{SpecTree}
use Rattle.abstract_syntax.specs.Expressions.{PatternTree}
use Rattle.abstract_syntax.specs.Statements.{StmtTree}
use Rattle.abstract_syntax.specs.Values.{ValueTree, sequence, set_of, value_trees, value_list-value_trees}
use Rattle.node_meaning.specs.Envs.{Here, Locals}
use Rattle.stmt_meaning.specs.Loops.{each_element, each_of_sequence, each_of_set}

module _ (spec : SpecTree) (here : Here) (place : Place) (pattern : PatternTree) (body : StmtTree) (locals : Locals) (v : ValueTree) (vs : List ValueTree) where
  pub of_set : v ≡ set_of (value_trees vs) → each_element spec here place pattern body (length locals) vs locals ≡ each_of_set spec here place pattern body v locals
  of_set is =
      ap (λ (all : List ValueTree). each_element spec here place pattern body (length locals) all locals) (sym (value_list-value_trees vs))
      ∙ sym (ap (λ (w : ValueTree). each_of_set spec here place pattern body w locals) is)

  pub of_sequence : v ≡ sequence (value_trees vs)
      → each_element spec here place pattern body (length locals) vs locals ≡ each_of_sequence spec here place pattern body v locals
  of_sequence is =
      ap (λ (all : List ValueTree). each_element spec here place pattern body (length locals) all locals) (sym (value_list-value_trees vs))
      ∙ sym (ap (λ (w : ValueTree). each_of_sequence spec here place pattern body w locals) is)
