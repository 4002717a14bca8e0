-- Conditions, and patterns that meet values, keep the rules; what is bound is known.
use Rattle.std.proofs.Common.{◌++◌, ◌∷◌, [], Bool, IfSome, List, None, Option, Some}
use Rattle.vdm_kinds.specs.declared.name.Name.{Name}
use Rattle.vdm_kinds.specs.declared.place.Place.{Place}
use Rattle.vdm_kinds.specs.declared.run_fault.RunFault.TheVariants.{SizeLimit, TypeFault}
use Rattle.vdm_values.specs.declared.slot.Slot.{Slot}
use Rattle.vdm_values.specs.declared.slot.Slot.TheVariants.{Held as Holds}
use Rattle.abstract_syntax.specs.Values.{ValueTree, boolean}
use Rattle.abstract_syntax.specs.Expressions.{ExprTree, PatternTree}
use Rattle.abstract_syntax.specs.Classes.{SpecTree}
use Rattle.pattern_meaning.specs.Bindings.{Binding}
use Rattle.pattern_meaning.specs.Brackets.{given_in}
use Rattle.pattern_meaning.specs.RecordTypes.{stands_for}
use Rattle.value_parts.specs.BoundObjects.{EachObjectBound}
use Rattle.value_parts.proofs.Everywhere.{each_append, each_map}
use Rattle.value_parts.proofs.BindingObjects.{binding_of_list_keeps}
use Rattle.member_meaning.specs.TypeRanks.{finder, type_rank}
use Rattle.run_journal.specs.declared.entry.Entry.{Entry}
use Rattle.vdm_legal.proofs.Known.{IsKnown, IsKnownSlot, IsThere}
use Rattle.vdm_legal.proofs.Sanity.{within-self, within-then}
use Rattle.node_meaning.specs.Envs.{Here, Locals, bound_locals, type_scope}
use Rattle.node_meaning.specs.Tasks.{Code, fault}
use Rattle.node_meaning.specs.Matching.{are_within_limits, bound_or, decided, exprs_of, first_match, meets, met, on_truth}
use Rattle.vdm_meaning.proofs.Rules.{AreKnown, IsSafe}
use Rattle.vdm_meaning.proofs.Parts.{EachKnown, Goes, GoesWith, IsAt, at-among, may-fail, safe-evaluated, safe-if, values-on}
use Rattle.vdm_meaning.proofs.Strict.{safe-collected}

-- ---- what is bound

bound-known : (spec : SpecTree) (now : List Entry) (binding : Binding) → EachObjectBound (IsThere spec now) binding → AreKnown spec now (bound_locals binding)
bound-known spec now binding h = each_map (λ (p : Name × ValueTree). IsKnown spec now p.1) (λ (l : Name × Slot). IsKnownSlot spec now l.1) (λ p. (p.0, Holds p.1)) (λ p k. k) binding h

pub match-known : (spec : SpecTree) (now : List Entry) (scope : Option Name) (patterns : List PatternTree) (given vs : List ValueTree) → EachKnown spec now vs → IfSome (first_match spec scope patterns given vs) (EachObjectBound (IsThere spec now))
match-known spec now scope patterns given vs known = binding_of_list_keeps (IsThere spec now) (stands_for (finder spec) (type_rank spec) (type_scope scope)) patterns given vs known

-- ---- plans

-- nothing is asked of a truth value
abbrev pub IsAny : List Entry → Bool → Type 0
IsAny entries b = Unit {0}

module _ (spec : SpecTree) where
  -- ---- conditions

  pub safe-on_truth : {first now : List Entry} {here : Here} {locals : Locals} (place : Place) (further : Bool → Locals → Code) (v : ValueTree) → IsAt spec first now here locals → ((b : Bool) → IsSafe spec first now (further b locals)) → IsSafe spec first now (on_truth place further v locals)
  safe-on_truth place further (boolean b) is_at h = h b
  safe-on_truth place further v is_at h = may-fail spec TypeFault place is_at.may

  pub safe-decided : (first now : List Entry) (here : Here) (locals : Locals) (condition : ExprTree) (place : Place) (further : Bool → Locals → Code) → IsAt spec first now here locals → GoesWith IsAny spec first here now further → IsSafe spec first now (decided here locals condition place further)
  safe-decided first now here locals condition place further is_at goes =
      safe-evaluated spec first now here locals condition place (on_truth place further) is_at (λ later v after w at_later known.
      safe-on_truth place further v at_later (λ b. goes later b after w at_later tt))

  -- ---- patterns

  -- where the patterns match, and where they do not
  pub safe-bound_or : (first now : List Entry) (here : Here) (place : Place) (binding : Option Binding) (matched missed : Locals → Code) (locals : Locals) → IsAt spec first now here locals → IfSome binding (EachObjectBound (IsThere spec now)) → Goes spec first here now matched → Goes spec first here now missed → IsSafe spec first now (bound_or place binding matched missed locals)
  safe-bound_or first now here place None matched missed locals is_at known goes otherwise = otherwise now locals (within-self now) is_at
  safe-bound_or first now here place (Some binding) matched missed locals is_at known goes otherwise =
      safe-if spec first now (are_within_limits binding) (matched (locals ++ bound_locals binding)) (fault SizeLimit place)
      (goes now (locals ++ bound_locals binding) (within-self now)
      (at-among is_at (locals ++ bound_locals binding)
      (each_append (λ (l : Name × Slot). IsKnownSlot spec now l.1) locals (bound_locals binding) is_at.may.known (bound-known spec now binding known))))
      (may-fail spec SizeLimit place is_at.may)

  -- one pattern and one value
  pub safe-meets : (first now : List Entry) (here : Here) (place : Place) (pattern : PatternTree) (matched missed : Locals → Code) (v : ValueTree) (locals : Locals) → IsAt spec first now here locals → IsKnown spec now v → Goes spec first here now matched → Goes spec first here now missed → IsSafe spec first now (meets spec here place pattern matched missed v locals)
  safe-meets first now here place pattern matched missed v locals is_at known goes otherwise =
      safe-collected spec first now here place (exprs_of (given_in pattern)) [] (met spec here.scope place (pattern ∷ []) (v ∷ []) matched missed) locals is_at tt (λ later given after w at_later also.
      safe-bound_or first later here place (first_match spec here.scope (pattern ∷ []) given (v ∷ [])) matched missed after at_later
      (match-known spec later here.scope (pattern ∷ []) given (v ∷ []) (values-on now later w (v ∷ []) (known, tt)))
      (λ end others x. goes end others (within-then now later end w x)) (λ end others x. otherwise end others (within-then now later end w x)))
