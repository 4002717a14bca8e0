-- Branches, alternatives and definitions keep the rules, and so do operators that stop when decided.
use Rattle.std.proofs.Common.{Bool, List, None, Option, Some, false, true, ℕ}
use Rattle.vdm_kinds.specs.declared.place.Place.{Place}
use Rattle.vdm_kinds.specs.declared.operator.Operator.{Operator}
use Rattle.vdm_kinds.specs.declared.sign.Sign.{Sign}
use Rattle.vdm_kinds.specs.declared.run_fault.RunFault.TheVariants.{NoMatch, Undefined}
use Rattle.abstract_syntax.specs.Classes.{SpecTree}
use Rattle.abstract_syntax.specs.Values.{ValueTree, boolean}
use Rattle.abstract_syntax.specs.Expressions.{BranchTrees, CaseTrees, DefinedTrees, ExprTree, MaybeExpr, PatternTrees, given_expr, left_out, no_branches, no_cases, no_defined, no_exprs, no_patterns, one_branch, one_case, one_defined, one_expr, one_pattern}
use Rattle.run_journal.specs.declared.entry.Entry.{Entry}
use Rattle.vdm_legal.proofs.Known.{IsKnown}
use Rattle.vdm_legal.proofs.Sanity.{within-self, within-then}
use Rattle.node_meaning.specs.Envs.{Here, Locals}
use Rattle.node_meaning.specs.Tasks.{Code}
use Rattle.node_meaning.specs.Strict.{one_operand, two_operands}
use Rattle.node_meaning.specs.Expressions.{branch, branches, cases_met, decided_by, defined, definitions, joined_by, no_match, others_of, patterns_met, prefixed_by, right_truth, truth, unless_decided, within}
use Rattle.node_meaning.specs.Matching.{meets}
use Rattle.node_meaning.specs.Fitting.{typed_maybe}
use Rattle.vdm_meaning.proofs.Rules.{IsSafe}
use Rattle.vdm_meaning.proofs.Parts.{Goes, IsAt, may-fail, safe-become, safe-evaluated, safe-value, safe-within, value-on}
use Rattle.vdm_meaning.proofs.Strict.{safe-strict}
use Rattle.vdm_meaning.proofs.Matching.{safe-decided, safe-meets}
use Rattle.vdm_meaning.proofs.Fitting.{safe-typed_maybe}

module _ (spec : SpecTree) (first : List Entry) (here : Here) (place : Place) where
  -- ---- operators that stop when decided

  safe-truth : (now : List Entry) (b : Bool) (locals : Locals) → IsAt spec first now here locals → IsSafe spec first now (truth b locals)
  safe-truth now b locals is_at = safe-value spec (boolean b) is_at tt

  safe-unless_decided : (now : List Entry) (right : ExprTree) (known : Option Bool) (locals : Locals) → IsAt spec first now here locals → IsSafe spec first now (unless_decided here right place known locals)
  safe-unless_decided now right (Some b) locals is_at = safe-truth now b locals is_at
  safe-unless_decided now right None locals is_at =
      safe-decided spec first now here locals right place truth is_at (λ later b after w at_later any. safe-truth later b after at_later)

  pub safe-joined_by : (now : List Entry) (operator : Option Operator) (left : ExprTree) (sign : Sign) (right : ExprTree) (locals : Locals) → IsAt spec first now here locals → IsSafe spec first now (joined_by here operator left sign right place locals)
  safe-joined_by now (Some operator) left sign right locals is_at =
      safe-strict spec first now here (two_operands operator) place (one_expr left (one_expr right no_exprs)) locals is_at
  safe-joined_by now None left sign right locals is_at =
      safe-decided spec first now here locals left place (right_truth here sign right place) is_at (λ later b after w at_later any.
      safe-unless_decided later right (decided_by sign b) after at_later)

  pub safe-prefixed_by : (now : List Entry) (operator : Option Operator) (tree : ExprTree) (locals : Locals) → IsAt spec first now here locals → IsSafe spec first now (prefixed_by here operator tree place locals)
  safe-prefixed_by now (Some operator) tree locals is_at = safe-strict spec first now here (one_operand operator) place (one_expr tree no_exprs) locals is_at
  safe-prefixed_by now None tree locals is_at = may-fail spec Undefined place is_at.may

  -- ---- branches

  safe-branch : (now : List Entry) (tree : ExprTree) (otherwise : Locals → Code) (b : Bool) (locals : Locals) → IsAt spec first now here locals → Goes spec first here now otherwise → IsSafe spec first now (branch here tree otherwise b locals)
  safe-branch now tree otherwise true locals is_at goes = safe-become spec first now here locals tree is_at
  safe-branch now tree otherwise false locals is_at goes = goes now locals (within-self now) is_at

  pub safe-branches : (trees : BranchTrees) (now : List Entry) (otherwise : ExprTree) (locals : Locals) → IsAt spec first now here locals → IsSafe spec first now (branches here place trees otherwise locals)
  safe-branches no_branches now otherwise locals is_at = safe-become spec first now here locals otherwise is_at
  safe-branches (one_branch condition tree more) now otherwise locals is_at =
      safe-decided spec first now here locals condition place (branch here tree (branches here place more otherwise)) is_at (λ later b after w at_later any.
      safe-branch later tree (branches here place more otherwise) b after at_later (λ end others x at_end. safe-branches more end otherwise others at_end))

  -- ---- alternatives

  safe-others : (now : List Entry) (others : MaybeExpr) (locals : Locals) → IsAt spec first now here locals → IsSafe spec first now (others_of here place others locals)
  safe-others now left_out locals is_at = may-fail spec NoMatch place is_at.may
  safe-others now (given_expr tree) locals is_at = safe-become spec first now here locals tree is_at

  safe-patterns_met : (patterns : PatternTrees) (now : List Entry) (v : ValueTree) (count : ℕ) (body : ExprTree) (more : Locals → Code) (locals : Locals) → IsAt spec first now here locals → IsKnown spec now v → Goes spec first here now more → IsSafe spec first now (patterns_met spec here place v patterns count body more locals)
  safe-patterns_met no_patterns now v count body more locals is_at known goes = goes now locals (within-self now) is_at
  safe-patterns_met (one_pattern pattern patterns) now v count body more locals is_at known goes =
      safe-meets spec first now here place pattern (within here count body) (patterns_met spec here place v patterns count body more) v locals is_at known
      (λ later after w at_later. safe-within spec first later here count body after at_later)
      (λ later after w at_later.
      safe-patterns_met patterns later v count body more after at_later (value-on now later w v known)
      (λ end others x. goes end others (within-then now later end w x)))

  pub safe-cases_met : (alternatives : CaseTrees) (now : List Entry) (others : MaybeExpr) (count : ℕ) (v : ValueTree) (locals : Locals) → IsAt spec first now here locals → IsKnown spec now v → IsSafe spec first now (cases_met spec here place alternatives others count v locals)
  safe-cases_met no_cases now others count v locals is_at known = safe-others now others locals is_at
  safe-cases_met (one_case patterns body more) now others count v locals is_at known =
      safe-patterns_met patterns now v count body (λ after. cases_met spec here place more others count v after) locals is_at known
      (λ later after w at_later. safe-cases_met more later others count v after at_later (value-on now later w v known))

  -- ---- definitions

  pub safe-definitions : (trees : DefinedTrees) (now : List Entry) (further : Locals → Code) (locals : Locals) → IsAt spec first now here locals → Goes spec first here now further → IsSafe spec first now (definitions spec here place trees further locals)
  safe-definitions no_defined now further locals is_at goes = goes now locals (within-self now) is_at
  safe-definitions (one_defined pattern declared tree more) now further locals is_at goes =
      let met = meets spec here place pattern (definitions spec here place more further) (no_match place) in
      safe-evaluated spec first now here locals tree place (typed_maybe spec here.nest here.scope declared place met) is_at (λ later v after w at_later known.
      safe-typed_maybe spec first here later after here.nest here.scope declared place met v at_later known (λ behind fitting_v others x at_behind also.
      safe-meets spec first behind here place pattern (definitions spec here place more further) (no_match place) fitting_v others at_behind also
      (λ end inner y at_end.
      safe-definitions more end further inner at_end (λ last innermost z.
      goes last innermost (within-then now later last w (within-then later behind last x (within-then behind end last y z)))))
      (λ end inner y at_end. may-fail spec NoMatch place at_end.may)))

  pub safe-defined : (trees : DefinedTrees) (now : List Entry) (count : ℕ) (body : ExprTree) (locals : Locals) → IsAt spec first now here locals → IsSafe spec first now (defined spec here place count trees body locals)
  safe-defined trees now count body locals is_at =
      safe-definitions trees now (within here count body) locals is_at (λ later after w at_later. safe-within spec first later here count body after at_later)
