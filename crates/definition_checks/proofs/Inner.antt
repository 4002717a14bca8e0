-- What is refused of a body, and then of `pre` and `post`.
use Rattle.std.specs.Prelude.{◌≡◌, Bool, List, ◌++◌, Option, Result, OnOk}
use Rattle.std.proofs.Common.{ap, ◌∙◌}
use Rattle.vdm_kinds.specs.declared.name.Name.{Name}
use Rattle.vdm_kinds.specs.declared.spec_fault.SpecFault.{SpecFault}
use Rattle.abstract_syntax.specs.Expressions.{ExprTree}
use Rattle.abstract_syntax.specs.Classes.{SpecTree}
use Rattle.form_meaning.specs.Forms.{FormTree}
use Rattle.spec_checks.specs.Definitions.{afterwards, condition_faults}
use Rattle.class_checks.specs.Results.{first_among}
use Rattle.class_checks.specs.Scopes.{ScopeTree}
use Rattle.part_checks.specs.Behind.{on_both, on_same}
use Rattle.part_checks.specs.Wanting.{condition_in}
use Rattle.definition_checks.proofs.Same.{condition_same}

module _ (spec : SpecTree) (class : Name) (scope : ScopeTree) where
  pub inner_told : {A E : Type 0} (r : Result A E) (after : ScopeTree) (form known : Option FormTree) (old : Bool) (body : List SpecFault)
      (pre post : Option ExprTree) (first second third later : Option SpecFault)
      → second ≡ first_among first body → third ≡ first_among second (condition_in spec scope pre)
      → after ≡ afterwards scope known old → known ≡ form
      → OnOk r (later ≡ first_among third (condition_in spec after post))
      → OnOk r (later ≡ first_among first (body ++ (condition_faults spec class scope pre ++ condition_faults spec class (afterwards scope form old) post)))
  inner_told r after form known old body pre post first second third later body_told pre_told after_is known_is told =
      let behind : ScopeTree = afterwards scope form old in
      on_both r first second later body (condition_faults spec class scope pre ++ condition_faults spec class behind post) body_told
      (on_both r second third later (condition_faults spec class scope pre) (condition_faults spec class behind post)
      (pre_told ∙ ap (first_among second) (condition_same spec class scope pre))
      (on_same r third later (condition_in spec after post) (condition_faults spec class behind post)
      (ap (λ (s : ScopeTree). condition_in spec s post) (after_is ∙ ap (λ (f : Option FormTree). afterwards scope f old) known_is)
      ∙ condition_same spec class behind post)
      told))
