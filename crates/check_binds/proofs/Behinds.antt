-- What follows from the form of a part, by what comes next.
use Rattle.std.specs.Prelude.{◌≡◌, List, ◌∷◌, ◌++◌, Option, Result, Ok, Err, OnOk, map, option_map}
use Rattle.std.specs.Borrow.{Bor}
use Rattle.std.specs.declared.alloc.Global.{Global}
use Rattle.std.specs.declared.boxed.Box.{Box}
use Rattle.std.proofs.Common.{ap, refl, sym, ◌∙◌}
use Rattle.vdm_kinds.specs.declared.place.Place.{Place}
use Rattle.vdm_kinds.specs.declared.spec_fault.SpecFault.{SpecFault}
use Rattle.abstract_syntax.specs.Expressions.{PatternTree}
use Rattle.type_tree.specs.TypeView.{type_view}
use Rattle.expr_tree.specs.View.{DefinedView, defined_view, pattern_view, view_of}
use Rattle.expr_tree.specs.declared.expr.Expr.{Expr}
use Rattle.expr_tree.specs.declared.parts.Defined.{Defined}
use Rattle.form_meaning.specs.Forms.{FormTree}
use Rattle.class_checks.specs.Results.{first_among}
use Rattle.class_checks.specs.Scopes.{ScopeTree}
use Rattle.check_steps.specs.Below.check_scopes.specs.Told.{first_among-++}
use Rattle.check_steps.specs.Below.check_scopes.specs.declared.setting.Setting.{Setting}
use Rattle.check_steps.specs.Below.check_frames.specs.Meant.{boxed, def_bound, defined_behind, definitions_behind}
use Rattle.check_steps.specs.Below.check_frames.specs.declared.after.Goal.TheVariants.{Body, Definitions}
use Rattle.check_steps.specs.Viewed.{defined_parts}
use Rattle.check_binds.specs.Behind.{defined_then, pattern_then}

-- two lists of refusals, one behind the other
pub on_both : {A E : Type 0} (r : Result A E) (first middle later : Option SpecFault) (xs ys : List SpecFault) → middle ≡ first_among first xs
    → OnOk r (later ≡ first_among middle ys) → OnOk r (later ≡ first_among first (xs ++ ys))
on_both (Ok a) first middle later xs ys e h = h ∙ ap (λ (m : Option SpecFault). first_among m ys) e ∙ sym (first_among-++ first xs ys)
on_both (Err f) first middle later xs ys e h = h

module _ (setting : Setting) (scope : ScopeTree) where
  pub def_behind_pattern : (pattern : PatternTree) (body : Bor (Box Expr Global)) (form : FormTree)
      → def_bound setting scope pattern (boxed body) form ≡ pattern_then setting scope pattern form (Body body)
  unfolding def_bound pattern_then
  def_behind_pattern pattern body form = refl

  first_definition : (definition : DefinedView) (more : Bor (List Defined)) (place : Place) (body : Bor (Box Expr Global)) (form : FormTree)
      → definitions_behind setting scope (definition ∷ map defined_view more.now) place (boxed body) form
      ≡ defined_then setting scope definition.pattern definition.declared place form (Definitions more body)
  unfolding defined_behind pattern_then
  first_definition definition more place body form = refl

  pub definitions_begun : (ds : List Defined) (d : Defined) (more : Bor (List Defined)) (place : Place) (body : Bor (Box Expr Global)) (form : FormTree)
      → ds ≡ d ∷ more.now
      → definitions_behind setting scope (map defined_view ds) place (boxed body) form
      ≡ defined_then setting scope (pattern_view d.pattern.value) (option_map type_view d.declared) place form (Definitions more body)
  definitions_begun ds d more place body form is =
      ap (λ (xs : List Defined). definitions_behind setting scope (map defined_view xs) place (boxed body) form) is
      ∙ ap (λ (v : DefinedView). definitions_behind setting scope (v ∷ map defined_view more.now) place (boxed body) form) (defined_parts d)
      ∙ first_definition (record { pattern = pattern_view d.pattern.value; declared = option_map type_view d.declared; value = view_of d.value.value }) more place body form
