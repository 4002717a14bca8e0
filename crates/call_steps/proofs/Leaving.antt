-- The test of a result.
use Rattle.std.proofs.Common.{◌≡◌, Option, Some, ap, sym, ◌∙◌}
use Rattle.vdm_values.specs.declared.slot.Slot.TheVariants.{Held}
use Rattle.abstract_syntax.specs.Classes.{SpecTree}
use Rattle.abstract_syntax.specs.Types.{TypeTree}
use Rattle.abstract_syntax.specs.Values.{ValueTree}
use Rattle.plans.specs.Plans.{bind}
use Rattle.node_meaning.specs.Envs.{Locals, no_nest}
use Rattle.node_meaning.specs.Fitting.{fitted}
use Rattle.node_meaning.specs.Tasks.{Code, with_value}
use Rattle.stmt_meaning.specs.Calls.{left_with, value_given}
use Rattle.stmt_meaning.specs.Questions.{of_thread, thread}
use Rattle.fit_steps.specs.declared.tested.Tested.{Tested}
use Rattle.fit_steps.specs.Tests.{tested_code, under}
use Rattle.step_data.specs.declared.calling.Calling.{Calling}
use Rattle.step_data.specs.Callings.{call_operation, calling_of}

-- a call that is seen through references
pub left_tested : (spec : SpecTree) (a b c : Calling) (declared : TypeTree) (v : ValueTree) (old mid : Locals) (t : Tested) → b ≡ a → c ≡ a
    → (call_operation b).result_type ≡ Some declared
    → tested_code (under spec (thread spec)) c.place mid t ≡ fitted spec no_nest (Some c.op.class) declared c.place v old
    → bind (tested_code (of_thread spec) a.place mid t) (with_value a.place (value_given (calling_of a)))
    ≡ left_with spec (calling_of a) (calling_of a).operation.result_type (Held v) old
left_tested spec a b c declared v old mid t is are result h =
    ap (λ (p : Code). bind p (with_value a.place (value_given (calling_of a))))
    ((λ i. tested_code (of_thread spec) (sym are i).place mid t) ∙ h
    ∙ (λ i. fitted spec no_nest (Some (are i).op.class) declared (are i).place v old))
    ∙ ap (λ (d : Option TypeTree). left_with spec (calling_of a) d (Held v) old) (sym (ap (λ (x : Calling). (call_operation x).result_type) (sym is) ∙ result))
