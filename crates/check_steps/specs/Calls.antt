-- A call, by what is called: its arguments come next.
use Rattle.std.specs.Prelude.{◌≡◌, [], Option, Result, IfOk}
use Rattle.std.proofs.Common.{ap, sym}
use Rattle.vdm_kinds.specs.declared.spec_fault.SpecFault.{SpecFault}
use Rattle.class_checks.specs.Callees.{Callee as CalleeTree}
use Rattle.class_checks.specs.Scopes.{ScopeTree}
use Rattle.class_checks.specs.Shapes.{of_call}
use Rattle.type_forms.specs.Tree.{form_trees}
use Rattle.check_calls.specs.Calling.{Called, Calls}
use Rattle.check_calls.specs.declared.callee.Callee.{Callee}
use Rattle.check_calls.specs.Below.check_scopes.specs.Told.{told}
use Rattle.check_calls.specs.Below.check_scopes.specs.declared.setting.Setting.{Setting}
use Rattle.check_frames.specs.Meant.{called_with, next_check, rest_check}
use Rattle.check_frames.specs.Steps.{refused_next}
use Rattle.check_frames.specs.declared.next.Next.{Next}
use Rattle.check_frames.specs.declared.rest.Rest.{Rest}

pub called_on : {E : Type 0} (setting : Setting) (next : Result Next E) (scope : ScopeTree) (arguments : Rest) (first later : Option SpecFault)
    (callee : Callee) (tree : CalleeTree) → Calls first later callee tree
    → IfOk next (λ n. rest_check setting scope (of_call (form_trees callee.wants.items) callee.result) [] arguments ≡ next_check setting n)
    → IfOk next (λ n. told first (called_with setting scope arguments tree) ≡ told later (next_check setting n))
called_on setting next scope arguments first later callee tree calls h = refused_next setting next first later tree.refusals _ _
    (sym (ap (λ (c : Called). c.first) calls))
    (λ i. rest_check setting scope (of_call ((ap (λ (c : Called). c.wants) calls) i) ((ap (λ (c : Called). c.gives) calls) i)) [] arguments)
    h
