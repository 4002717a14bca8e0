-- The test of a result.
use Rattle.std.proofs.Common.{◌≡◌, Some, ap, sym, ◌∙◌}
use Rattle.abstract_syntax.specs.Classes.{SpecTree}
use Rattle.abstract_syntax.specs.Values.{ValueTree}
use Rattle.plans.specs.Plans.{bind}
use Rattle.node_meaning.specs.Envs.{Locals}
use Rattle.node_meaning.specs.Fitting.{fitted}
use Rattle.node_meaning.specs.Functions.{post_of, result_given}
use Rattle.node_meaning.specs.Needs.{Asker}
use Rattle.node_meaning.specs.Tasks.{Code, with_value}
use Rattle.eval_data.specs.declared.applying.Applying.{Applying}
use Rattle.eval_data.specs.Parts.{applying_of, nest_of}
use Rattle.fit_steps.specs.declared.tested.Tested.{Tested}
use Rattle.fit_steps.specs.Tests.{tested_code, under}

-- an application that is seen through references
pub given_so : (spec : SpecTree) (a b c : Applying) (v : ValueTree) (old mid : Locals) (t : Tested) (asker : Asker) → b ≡ a → c ≡ a
    → tested_code (under spec asker) c.place mid t ≡ fitted spec (nest_of c.nest) (Some c.class) (applying_of c).function.result_type c.place v old
    → bind (tested_code (under spec asker) b.place mid t) (with_value b.place (post_of (applying_of a) (applying_of a).function.post)) ≡ result_given spec (applying_of a) v old
given_so spec a b c v old mid t asker is are h =
    (λ i. bind (tested_code (under spec asker) (is i).place mid t) (with_value (is i).place (post_of (applying_of a) (applying_of a).function.post)))
    ∙ ap (λ (p : Code). bind p (with_value a.place (post_of (applying_of a) (applying_of a).function.post)))
    ((λ i. tested_code (under spec asker) (sym are i).place mid t) ∙ h
    ∙ (λ i. fitted spec (nest_of (are i).nest) (Some (are i).class) (applying_of (are i)).function.result_type (are i).place v old))
