use Rattle.std.proofs.Common.{List, arith, map, ◌∷◌, []}
use Rattle.expr_tree.specs.View.{DefinedView, defined_trees, defined_view}
use Rattle.class_checks.specs.Expressions.{defined_in}
use Rattle.class_checks.specs.Results.{Checked}
use Rattle.class_checks.specs.Scopes.{ScopeTree}
use Rattle.stmt_scopes.specs.Below.check_scopes.specs.Told.{first_in}
use Rattle.stmt_scopes.specs.Below.check_frames.specs.Meant.{at, scope_here, spec_here}
use Rattle.stmt_scopes.specs.InTurn.{turn_taken, turns_past}
use Rattle.stmt_scopes.specs.Refused.{refused}
use Rattle.stmt_exprs.proofs.Onward.{definitions_first, definitions_none}
use Rattle.stmt_exprs.proofs.definitions.inside_definitions.Goals as goal

pub loop-definition-preserved : goal.loop-definition-preserved
loop-definition-preserved c =
    let spec = spec_here c.args.here in
    turn_taken defined_view
    (λ (s : ScopeTree) (d : DefinedView) (rest : ScopeTree → Checked). defined_in spec s (defined_trees (d ∷ [])) rest)
    (λ (s : ScopeTree) (ds : List DefinedView) (rest : ScopeTree → Checked). defined_in spec s (defined_trees ds) rest)
    (definitions_first spec) c.args.definitions.now c.loop-definition.definition-index c.definition-item.result
    (at c.args.here.setting c.loop-definition.locals) (at c.args.here.setting c.in_ok-locals-2.locals)
    (first_in c.loop-definition.refusals) (first_in c.inside_next.new.refusals)
    (λ (rest : ScopeTree → Checked). refused (first_in c.args.refusals.now) (defined_in spec (scope_here c.args.here) (defined_trees (map defined_view c.args.definitions.now)) rest))
    c.definition-item.is c.loop-definition-test.true c.in_ok-locals-2.ensures c.loop-definition.invariant

pub returns : goal.returns
returns c =
    let spec = spec_here c.args.here in
    turns_past defined_view
    (λ (s : ScopeTree) (d : DefinedView) (rest : ScopeTree → Checked). defined_in spec s (defined_trees (d ∷ [])) rest)
    (λ (s : ScopeTree) (ds : List DefinedView) (rest : ScopeTree → Checked). defined_in spec s (defined_trees ds) rest)
    (definitions_none spec) c.args.definitions.now c.loop-definition.definition-index
    (at c.args.here.setting c.loop-definition.locals) (first_in c.loop-definition.refusals)
    (λ (rest : ScopeTree → Checked). refused (first_in c.args.refusals.now) (defined_in spec (scope_here c.args.here) (defined_trees (map defined_view c.args.definitions.now)) rest))
    (omega (arith, c.loop-definition-test.false)) c.loop-definition.invariant
