-- What is refused of the types and patterns of parameters, and then inside these.
use Rattle.std.specs.Prelude.{◌≡◌, List, ◌++◌, Option, Result, OnOk}
use Rattle.std.specs.List.{flat_map}
use Rattle.std.proofs.Common.{ap, ◌∙◌}
use Rattle.vdm_kinds.specs.declared.name.Name.{Name}
use Rattle.vdm_kinds.specs.declared.spec_fault.SpecFault.{SpecFault}
use Rattle.abstract_syntax.specs.Types.{TypeTree}
use Rattle.abstract_syntax.specs.Expressions.{ExprTree}
use Rattle.abstract_syntax.specs.Classes.{SpecTree}
use Rattle.type_tree.specs.TypeView.{type_views}
use Rattle.type_tree.specs.declared.type_expr.TypeExpr.{TypeExpr}
use Rattle.expr_tree.specs.View.{pattern_views}
use Rattle.expr_tree.specs.declared.pattern.Pattern.{Pattern}
use Rattle.form_meaning.specs.Forms.{FormTree}
use Rattle.spec_checks.specs.Definitions.{parameters_bind}
use Rattle.class_checks.specs.Results.{first_among}
use Rattle.class_checks.specs.Scopes.{ScopeTree, inside, type_scope}
use Rattle.class_checks.specs.TypeNames.{form_of, type_faults}
use Rattle.part_checks.specs.Behind.{on_both, on_same}
use Rattle.part_checks.specs.Binding.{parameter_in}
use Rattle.part_checks.specs.Wanting.{wanted_in}
use Rattle.definition_checks.specs.Parts.{typed_in}

module _ (spec : SpecTree) (scope : ScopeTree) where
  pub headed_told : {A E : Type 0} (r : Result A E) (ts given_types : List TypeExpr) (ps given_patterns : List Pattern) (results : List SpecFault)
      (inner : ScopeTree → List SpecFault) (within : ScopeTree) (first second third fourth later : Option SpecFault)
      → given_types ≡ ts → given_patterns ≡ ps
      → second ≡ first_among first (flat_map (type_faults spec (type_scope scope)) (type_views given_types))
      → third ≡ first_among second results
      → fourth ≡ first_among third (flat_map (parameter_in spec scope) (pattern_views given_patterns))
      → within ≡ inside scope (parameters_bind spec (type_scope scope) scope (type_views given_types) (pattern_views given_patterns))
      → OnOk r (later ≡ first_among fourth (inner within))
      → OnOk r (later ≡ first_among first (flat_map (type_faults spec (type_scope scope)) (type_views ts)
      ++ (results
      ++ (flat_map (parameter_in spec scope) (pattern_views ps)
      ++ inner (inside scope (parameters_bind spec (type_scope scope) scope (type_views ts) (pattern_views ps)))))))
  headed_told r ts given_types ps given_patterns results inner within first second third fourth later same_types same_patterns types_told results_told patterns_told within_is told =
      let types_part : List SpecFault = flat_map (type_faults spec (type_scope scope)) (type_views ts) in
      let patterns_part : List SpecFault = flat_map (parameter_in spec scope) (pattern_views ps) in
      let whole : ScopeTree = inside scope (parameters_bind spec (type_scope scope) scope (type_views ts) (pattern_views ps)) in
      let is_whole : within ≡ whole =
      within_is ∙ (λ i. inside scope (parameters_bind spec (type_scope scope) scope (type_views (same_types i)) (pattern_views (same_patterns i)))) in
      on_both r first second later types_part (results ++ (patterns_part ++ inner whole))
      (types_told ∙ ap (λ (xs : List TypeExpr). first_among first (flat_map (type_faults spec (type_scope scope)) (type_views xs))) same_types)
      (on_both r second third later results (patterns_part ++ inner whole) results_told
      (on_both r third fourth later patterns_part (inner whole)
      (patterns_told ∙ ap (λ (xs : List Pattern). first_among third (flat_map (parameter_in spec scope) (pattern_views xs))) same_patterns)
      (on_same r fourth later (inner within) (inner whole) (ap inner is_whole) told)))

  -- a type, and then an expression that has to meet it
  pub typed_told : {A E : Type 0} (r : Result A E) (class : Name) (t : TypeTree) (e : ExprTree) (wanted : FormTree) (first second later : Option SpecFault)
      → class ≡ type_scope scope → wanted ≡ form_of spec class t → second ≡ first_among first (type_faults spec (type_scope scope) t)
      → OnOk r (later ≡ first_among second (wanted_in spec scope wanted e))
      → OnOk r (later ≡ first_among first (typed_in spec scope t e))
  typed_told r class t e wanted first second later same is noted told =
      on_both r first second later (type_faults spec (type_scope scope) t) (wanted_in spec scope (form_of spec (type_scope scope) t) e) noted
      (on_same r second later (wanted_in spec scope wanted e) (wanted_in spec scope (form_of spec (type_scope scope) t) e)
      (ap (λ (f : FormTree). wanted_in spec scope f e) (is ∙ ap (λ (c : Name). form_of spec c t) same)) told)
