-- Expressions that are built have a meaning, however deep one looks; and where no objects may be made they make none.
use Rattle.std.proofs.Common.{Bool, false, true, ℕ, zero, suc}
use Rattle.abstract_syntax.specs.Expressions.{ExprTree}
use Rattle.text_phases.specs.Built.{IsBuiltExpr}
use Rattle.built_laws.specs.Parts.{parts}
use Rattle.built_laws.specs.Meant.{IsMeant, MakesNothing}
use Rattle.built_laws.proofs.Lists.{each-weaker}
use Rattle.built_laws.proofs.PartsBuilt.{IsBuiltIn, none_made, parts_built, plan_there}

pub meant_in : (makes : Bool) (levels : ℕ) (tree : ExprTree) → IsBuiltIn makes tree → IsMeant levels tree
meant_in makes zero tree h = tt
meant_in makes (suc levels) tree h = (
  plan_there makes tree h,
  each-weaker (IsBuiltIn makes) (IsMeant levels) (meant_in makes levels) (parts tree) (parts_built makes tree h),
)

pub expr_meant : (levels : ℕ) (tree : ExprTree) → IsBuiltExpr tree → IsMeant levels tree
expr_meant = meant_in true

pub nothing_made : (levels : ℕ) (tree : ExprTree) → IsBuiltIn false tree → MakesNothing levels tree
nothing_made zero tree h = tt
nothing_made (suc levels) tree h =
    (none_made tree h, each-weaker (IsBuiltIn false) (MakesNothing levels) (nothing_made levels) (parts tree) (parts_built false tree h))
