-- What a call gives that is handed on.
use Rattle.std.proofs.Common.{◌≡◌, ◌<◌, List, [], ◌∷◌, length, get_or, Option, None, Some, Result, Ok, Err, IfOk, ap, sym, ◌∙◌, subst, arith, Bor}
use Rattle.std.specs.Prelude.{MatchOption, remove}
use Rattle.vdm_kinds.specs.declared.halt.Halt.{Halt}
use Rattle.vdm_kinds.specs.declared.name.Name.{Name}
use Rattle.vdm_kinds.specs.declared.run_fault.RunFault.{RunFault}
use Rattle.vdm_kinds.specs.declared.run_fault.RunFault.TheVariants.{TypeFault}
use Rattle.abstract_syntax.specs.Classes.{SpecTree}
use Rattle.abstract_syntax.specs.Values.{ValueTree, record_of, value_trees, value_list-value_trees}
use Rattle.value_operators.specs.Outcomes.{Outcome, Gives}
use Rattle.vdm_kinds.specs.declared.halt.OutOfMemory.{OutOfMemory}
use Rattle.vdm_kinds.specs.declared.place.Place.{Place}
use Rattle.node_meaning.specs.Envs.{Locals, Nest}
use Rattle.node_meaning.specs.Needs.{Asker}
use Rattle.node_meaning.specs.Records.{changed_record, fields_of, record_changed}
use Rattle.node_meaning.specs.Tasks.{Code}
use Rattle.eval_data.specs.declared.step.Step.{Step}
use Rattle.eval_data.specs.Steps.{code_of}
use Rattle.fit_steps.specs.Tests.{under}

-- where one outcome is another, what gives the one gives the other
pub moved : (r : Result ValueTree (Halt RunFault)) (a b : Outcome) → a ≡ b → Gives r a → Gives r b
moved r a b e h = subst (Gives r) e h

-- where one plan is another, a step that is the one is the other
pub handed : (r : Result Step OutOfMemory) (spec : SpecTree) (locals : Locals) (a b : Code) → a ≡ b
    → IfOk r (λ (s : Step). (asker : Asker) → code_of (under spec asker) locals s ≡ a) → IfOk r (λ (s : Step). (asker : Asker) → code_of (under spec asker) locals s ≡ b)
handed r spec locals a b e h = subst (λ (p : Code). IfOk r (λ (s : Step). (asker : Asker) → code_of (under spec asker) locals s ≡ p)) e h

-- a copy of what was found
pub copy_given : (found : Option (Bor ValueTree)) (r : Result ValueTree (Halt RunFault)) (a : Outcome) →
    MatchOption found (a ≡ Err TypeFault) (λ (v : Bor ValueTree). a ≡ Ok v.now) →
    MatchOption found (Gives r (Err TypeFault)) (λ (v : Bor ValueTree). Gives r (Ok v.now)) → Gives r a
copy_given None r a e h = moved r _ _ (sym e) h
copy_given (Some v) r a e h = moved r _ _ (sym e) h

-- ---- the first of the values of a change

pub headed : (vs : List ValueTree) (v : ValueTree) → 0 < length vs → v ≡ get_or vs 0 v → vs ≡ v ∷ remove vs 0
headed [] v h e = absurd (omega arith)
headed (w ∷ ws) v h e = λ i. sym e i ∷ ws

pub record_changes : (spec : SpecTree) (nest : Nest) (names : List Name) (class name : Name) (place : Place) (ws vs : List ValueTree) (target : ValueTree) (locals : Locals) →
    target ≡ record_of class name (value_trees ws) →
    changed_record spec nest class name place (fields_of spec class name) names vs ws locals ≡ record_changed spec nest names place (target ∷ vs) locals
record_changes spec nest names class name place ws vs target locals e =
    ap (λ (us : List ValueTree). changed_record spec nest class name place (fields_of spec class name) names vs us locals) (sym (value_list-value_trees ws)) ∙
    ap (λ (r : ValueTree). record_changed spec nest names place (r ∷ vs) locals) (sym e)
