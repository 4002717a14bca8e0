-- The pattern of an invariant that meets a value.
use Rattle.std.proofs.Common.{◌≡◌, List, [], ◌∷◌, drop, Some, Result, IfOk, ap, sym, ◌∙◌}
use Rattle.vdm_kinds.specs.declared.halt.OutOfMemory.{OutOfMemory}
use Rattle.vdm_kinds.specs.declared.place.Place.{Place}
use Rattle.abstract_syntax.specs.Classes.{InvariantTree, SpecTree}
use Rattle.abstract_syntax.specs.Expressions.{ExprTree}
use Rattle.abstract_syntax.specs.Values.{ValueTree}
use Rattle.pattern_meaning.specs.Brackets.{given_in}
use Rattle.node_meaning.specs.Envs.{Locals, Here}
use Rattle.node_meaning.specs.Fitting.{invariant_of}
use Rattle.node_meaning.specs.Matching.{exprs_of}
use Rattle.node_meaning.specs.Needs.{Asker, Setting}
use Rattle.node_meaning.specs.Strict.{collected, with_others}
use Rattle.node_meaning.specs.Tasks.{evaluated}
use Rattle.eval_data.specs.declared.asking.Asking.{Asking}
use Rattle.eval_data.specs.Steps.{invariant_met, told}
use Rattle.fit_steps.specs.declared.tested.Tested.{Tested}
use Rattle.fit_steps.specs.Tests.{tested_code, under}
use Rattle.fit_steps.proofs.Results.{if_ok}

module _ (spec : SpecTree) (here : Here) (a : Asking) (invariant : InvariantTree) (v : ValueTree) (r : Result Tested OutOfMemory) (found : List ExprTree) (place : Place) where
  -- where it has no expressions in brackets
  pub met_at_once : (locals new : Locals) (given : List ValueTree) → found ≡ given_in invariant.pattern → found ≡ [] → locals ≡ [] → given ≡ [] → place ≡ a.place
      → IfOk r (λ t. (asker : Asker) → tested_code (under spec asker) place new t ≡ invariant_met spec a invariant here place v given locals)
      → IfOk r (λ t. (asker : Asker) → tested_code (under spec asker) a.place new t ≡ invariant_of spec here a.place (Some invariant) v (told spec a))
  met_at_once locals new given all none l g p h = if_ok r h (λ t is asker.
      (λ i. tested_code (under spec asker) (sym p i) new t) ∙ is asker
      ∙ (λ i. invariant_met spec a invariant here (p i) v (g i) (l i))
      ∙ ap (λ (es : List ExprTree). collected here a.place (exprs_of es) [] (invariant_met spec a invariant here a.place v) []) (sym none ∙ all))

  -- where the first of them is evaluated
  pub met_behind_first : (locals : Locals) (first : ExprTree) → found ≡ given_in invariant.pattern → found ≡ first ∷ drop 1 found → locals ≡ [] → place ≡ a.place
      → IfOk r (λ t. (setting : Setting) (at_locals : Locals) → tested_code setting place at_locals t
      ≡ evaluated here at_locals first place (with_others here place (exprs_of (drop 1 found)) [] (invariant_met setting.spec a invariant here place v)))
      → IfOk r (λ t. (asker : Asker) → tested_code (under spec asker) a.place locals t ≡ invariant_of spec here a.place (Some invariant) v (told spec a))
  met_behind_first locals first all is_first l p h = if_ok r h (λ t is asker.
      (λ i. tested_code (under spec asker) (sym p i) locals t) ∙ is (under spec asker) locals
      ∙ (λ i. evaluated here (l i) first (p i) (with_others here (p i) (exprs_of (drop 1 found)) [] (invariant_met spec a invariant here (p i) v)))
      ∙ ap (λ (es : List ExprTree). collected here a.place (exprs_of es) [] (invariant_met spec a invariant here a.place v) []) (sym is_first ∙ all))
