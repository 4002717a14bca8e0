-- Values that are tested against types.
use Rattle.std.proofs.Common.{◌≡◌, Option, Result, Ok, Err, IfOk, ap, ◌∙◌}
use Rattle.vdm_kinds.specs.declared.halt.OutOfMemory.{OutOfMemory}
use Rattle.vdm_kinds.specs.declared.name.Name.{Name}
use Rattle.vdm_kinds.specs.declared.place.Place.{Place}
use Rattle.abstract_syntax.specs.Classes.{SpecTree}
use Rattle.abstract_syntax.specs.Types.{TypeTree}
use Rattle.abstract_syntax.specs.Values.{ValueTree}
use Rattle.plans.specs.Plans.{bind}
use Rattle.node_meaning.specs.Envs.{Locals, Nest, no_nest}
use Rattle.node_meaning.specs.Fitting.{fitted, typed}
use Rattle.node_meaning.specs.Needs.{Asker}
use Rattle.node_meaning.specs.Tasks.{Code, with_value}
use Rattle.stmt_meaning.specs.Questions.{of_thread, thread}
use Rattle.fit_steps.specs.declared.tested.Tested.{Tested}
use Rattle.fit_steps.specs.Tests.{tested_code, under}

module _ (spec : SpecTree) (nest : Nest) (scope : Option Name) (t : TypeTree) (place : Place) (v : ValueTree) (locals after : Locals) (none : nest ≡ no_nest) where
  -- a value that is tested inside of no test, and then used
  pub used_behind : (x : Tested) → ((asker : Asker) → tested_code (under spec asker) place after x ≡ fitted spec nest scope t place v locals)
      → (further : ValueTree → Locals → Code) → bind (tested_code (of_thread spec) place after x) (with_value place further) ≡ typed spec no_nest scope t place further v locals
  used_behind x is further =
      ap (λ (code : Code). bind code (with_value place further)) (is (thread spec)) ∙
      ap (λ (n : Nest). typed spec n scope t place further v locals) none

  pub used_tested : (r : Result Tested OutOfMemory) → IfOk r (λ x. (asker : Asker) → tested_code (under spec asker) place after x ≡ fitted spec nest scope t place v locals)
      → IfOk r (λ x. (further : ValueTree → Locals → Code) → bind (tested_code (of_thread spec) place after x) (with_value place further) ≡ typed spec no_nest scope t place further v locals)
  used_tested (Ok x) is = used_behind x is
  used_tested (Err e) is = tt
