use Rattle.std.proofs.Common.{◌≡◌, ◌≤◌, length, map}
use Rattle.vdm_kinds.specs.declared.place.Place.{Place}
use Rattle.abstract_syntax.specs.Classes.{SpecTree}
use Rattle.abstract_syntax.specs.Values.{ValueTree}
use Rattle.expr_tree.specs.View.{case_view, case_trees, maybe_view}
use Rattle.node_meaning.specs.Envs.{Locals}
use Rattle.node_meaning.specs.Expressions.{cases_met}
use Rattle.eval_data.specs.Parts.{here_of}
use Rattle.match_steps.specs.Trials.{case_count}
use Rattle.match_steps.proofs.alternatives.first_case.Given as goal

-- those that were passed have no patterns
abbrev pub invariant-loop-case : goal.invariant-loop-case
invariant-loop-case l = record {
  same : (spec : SpecTree) (place : Place) (v : ValueTree) (locals : Locals)
      → cases_met spec (here_of l.here) place (case_trees (map case_view l.cases)) (maybe_view l.others) l.count v locals
      ≡ cases_met spec (here_of l.here) place (case_trees (map case_view l.left)) (maybe_view l.others) l.count v locals;
  fewer : case_count (case_trees (map case_view l.left)) ≤ case_count (case_trees (map case_view l.cases));
}

abbrev pub decreases-loop-case : goal.decreases-loop-case
decreases-loop-case l = length l.left
