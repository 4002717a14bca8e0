-- Initialisers of static variables.
use Rattle.std.proofs.Common.{◌≡◌, ◌++◌, ℕ, List, [], ◌∷◌, Option, Some, None, refl}
use Rattle.vdm_kinds.specs.declared.member.VarRef.{VarRef}
use Rattle.vdm_values.specs.declared.slot.Slot.{Slot}
use Rattle.vdm_values.specs.declared.slot.Slot.TheVariants.{Held}
use Rattle.abstract_syntax.specs.Classes.{SpecTree}
use Rattle.abstract_syntax.specs.Expressions.{ExprTree, expr_place}
use Rattle.plans.specs.Plans.{part}
use Rattle.vdm_legal.specs.State.{variables_by}
use Rattle.node_meaning.specs.Envs.{at, inside_class, no_nest}
use Rattle.node_meaning.specs.Names.{variable_definition}
use Rattle.node_meaning.specs.Tasks.{Code, expr_in}
use Rattle.stmt_meaning.specs.Objects.{initial_of}
use Rattle.vdm_meaning.specs.Main.{came, static_slots}

-- a variable with an initialiser, and those behind it
pub next_initialiser : (spec : SpecTree) (further : List Slot → Code) (all left : List VarRef) (slots : List Slot) (var : VarRef) (initial : ExprTree)
    → all ≡ var ∷ left → initial_of (variable_definition spec var) ≡ Some initial
    → part (expr_in (at (inside_class var.class no_nest) []) initial) (came (expr_place initial) (λ v. static_slots spec left further (slots ++ Held v ∷ [])))
    ≡ static_slots spec all further slots
next_initialiser spec further all left slots var initial e is = rw (e, is) refl

-- the variables of a class that is looked up by its number
pub listed_by : (variables : ℕ → List VarRef) (found : Option ℕ) (given : List VarRef) → ((k : ℕ) → found ≡ Some k → given ≡ variables k) → (found ≡ None → given ≡ [])
    → given ≡ variables_by variables found
listed_by variables None given some none = none refl
listed_by variables (Some k) given some none = some k refl
