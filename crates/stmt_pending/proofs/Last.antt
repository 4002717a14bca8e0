-- The last of several statements, which may be left out.
use Rattle.std.specs.Prelude.{◌≡◌}
use Rattle.std.proofs.Common.{refl, append-nil}
use Rattle.abstract_syntax.specs.Classes.{SpecTree}
use Rattle.abstract_syntax.specs.Statements.{StmtTree, given_stmt, no_stmt}
use Rattle.class_checks.specs.Results.{after}
use Rattle.spec_checks.specs.Statements.{check_stmt, done}
use Rattle.spec_checks.specs.Targets.{StmtScope}
use Rattle.stmt_pending.specs.Meant.{last_check}

module _ (spec : SpecTree) (scope : StmtScope) where
  pub last_given : (s : StmtTree) → (last_check spec scope (given_stmt s)).refusals ≡ (check_stmt spec scope s).refusals
  unfolding after check_stmt
  last_given s = append-nil (check_stmt spec scope s).refusals

  pub last_none : (last_check spec scope no_stmt).refusals ≡ done.refusals
  unfolding after check_stmt
  last_none = refl
