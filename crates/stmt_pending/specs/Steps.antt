-- From what comes next of a part of a step to what comes next of the step.
use Rattle.std.specs.Prelude.{◌≡◌, Option, Result, Ok, Err, IfOk}
use Rattle.std.proofs.Common.{ap, sym, ◌∙◌}
use Rattle.vdm_kinds.specs.declared.spec_fault.SpecFault.{SpecFault}
use Rattle.abstract_syntax.specs.Statements.{StmtTree}
use Rattle.class_checks.specs.Results.{Checked, first_among}
use Rattle.spec_checks.specs.Statements.{check_stmt}
use Rattle.spec_checks.specs.Targets.{StmtScope}
use Rattle.stmt_scopes.specs.Below.check_scopes.specs.Told.{spec_in}
use Rattle.stmt_scopes.specs.Below.check_scopes.specs.declared.setting.Setting.{Setting}
use Rattle.stmt_scopes.specs.Refused.{refused}
use Rattle.stmt_scopes.specs.declared.returned.Returned.{Returned}
use Rattle.stmt_pending.specs.Meant.{next_check}
use Rattle.stmt_pending.specs.declared.next.Next.{Next}

-- what is told of the step is what is told of what is left
pub next_behind : {E : Type 0} (setting : Setting) (returned : Returned) (next : Result Next E) (told left later : Option SpecFault) → told ≡ left
    → IfOk next (λ n. left ≡ refused later (next_check setting returned n))
    → IfOk next (λ n. told ≡ refused later (next_check setting returned n))
next_behind setting returned (Ok n) told left later e h = e ∙ h
next_behind setting returned (Err f) told left later e h = h

-- of equal checks the same comes next
pub next_onward : {E : Type 0} (setting : Setting) (returned : Returned) (next : Result Next E) (first later : Option SpecFault) (checked other : Checked)
    → checked ≡ other
    → IfOk next (λ n. refused first other ≡ refused later (next_check setting returned n))
    → IfOk next (λ n. refused first checked ≡ refused later (next_check setting returned n))
next_onward setting returned next first later checked other e h =
    next_behind setting returned next (refused first checked) (refused first other) later (ap (refused first) e) h

-- where nothing is refused
pub next_same : {E : Type 0} (setting : Setting) (returned : Returned) (next : Result Next E) (first : Option SpecFault) (checked other : Checked)
    → checked ≡ other → IfOk next (λ n. other ≡ next_check setting returned n)
    → IfOk next (λ n. refused first checked ≡ refused first (next_check setting returned n))
next_same setting returned (Ok n) first checked other e h = ap (refused first) (e ∙ h)
next_same setting returned (Err f) first checked other e h = h

-- ... and the same is told of the form of neither
pub next_told : {E : Type 0} (setting : Setting) (returned : Returned) (next : Result Next E) (first : Option SpecFault) (checked other : Checked)
    → checked ≡ other → IfOk next (λ n. other.refusals ≡ (next_check setting returned n).refusals)
    → IfOk next (λ n. refused first checked ≡ refused first (next_check setting returned n))
next_told setting returned (Ok n) first checked other e h = ap (refused first) e ∙ ap (first_among first) h
next_told setting returned (Err f) first checked other e h = h

-- what is left is a statement that stands there
pub next_inside : (setting : Setting) (returned : Returned) (next : Next) (scope inside : StmtScope) (body : StmtTree) (later told : Option SpecFault)
    → told ≡ refused later (check_stmt (spec_in setting) scope body) → inside ≡ scope
    → next_check setting returned next ≡ check_stmt (spec_in setting) inside body
    → told ≡ refused later (next_check setting returned next)
next_inside setting returned next scope inside body later told e same is =
    e ∙ ap (λ (s : StmtScope). refused later (check_stmt (spec_in setting) s body)) (sym same) ∙ ap (refused later) (sym is)
