use Rattle.std.proofs.Common.{◌≡◌, map, take}
use Rattle.std.specs.Borrow.{Bor}
use Rattle.vdm_kinds.specs.declared.name.Name.{Name}
use Rattle.type_tree.specs.declared.type_expr.TypeExpr.{TypeExpr}
use Rattle.type_tree.specs.TypeView.{type_view}
use Rattle.stmt_meaning.specs.Targets.{declared_type}
use Rattle.target_values.proofs.locals.declared_type.Given as goal

-- the newest of the first so many is the newest of all
abbrev pub invariant-loop-index : goal.invariant-loop-index
invariant-loop-index l =
    declared_type (map (λ (d : Name × Bor TypeExpr). (d.0, type_view d.1.now)) (take l.index l.declared)) l.name ≡
    declared_type (map (λ (d : Name × Bor TypeExpr). (d.0, type_view d.1.now)) l.declared) l.name
