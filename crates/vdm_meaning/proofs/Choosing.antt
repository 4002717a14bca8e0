-- Nodes that go through choices keep the rules.
use Rattle.std.proofs.Common.{◌++◌, ◌∷◌, [], Bool, List, false, length, map, suc, take, true, zero, ℕ}
use Rattle.std.specs.Prelude.{nat_eq, replicate}
use Rattle.std.specs.List.{flat_map, AllByRecursion as Each}
use Rattle.vdm_kinds.specs.declared.place.Place.{Place}
use Rattle.vdm_kinds.specs.declared.run_fault.RunFault.TheVariants.{NoMatch, NotSet, NotUnique}
use Rattle.abstract_syntax.specs.Values.{ValueTree, boolean, set_of, value_list}
use Rattle.abstract_syntax.specs.Expressions.{BindTrees, ExprTree, MaybeExpr, PatternTree, expr_place, given_expr, left_out}
use Rattle.abstract_syntax.specs.Classes.{SpecTree}
use Rattle.pattern_meaning.specs.Brackets.{given_in}
use Rattle.value_parts.proofs.Everywhere.{each_append, each_flat_map, each_map}
use Rattle.value_parts.proofs.Gathered.{listed}
use Rattle.bind_choices.specs.Choices.{choices_of}
use Rattle.run_journal.specs.declared.entry.Entry.{Entry}
use Rattle.vdm_legal.proofs.Known.{IsKnown, IsThere}
use Rattle.vdm_legal.proofs.Sanity.{within-self, within-then}
use Rattle.node_meaning.specs.Envs.{Here, Locals}
use Rattle.node_meaning.specs.Tasks.{Code, next, value}
use Rattle.node_meaning.specs.Choosing.{Chooser, Search, behind_sets, bind_sources, bound_patterns, by_truth, choose, choosing, collects, condition_of, exhausted, finds, for_each, for_one, for_some, fulfilled, next_choice, search_with, sets_of, takes_first, the_one, the_only, tried, unfulfilled, with_elements}
use Rattle.node_meaning.specs.Matching.{exprs_of, first_match}
use Rattle.vdm_meaning.proofs.Rules.{IsSafe}
use Rattle.vdm_meaning.proofs.Parts.{EachKnown, GoesWith, IsAt, at-cut, goes-later, lists-on, may-fail, safe-evaluated, safe-finish, safe-value, safe-within, values-on}
use Rattle.vdm_meaning.proofs.Strict.{safe-collected, safe-make}
use Rattle.vdm_meaning.proofs.Matching.{match-known, safe-bound_or, safe-decided}

-- ---- each value in each choice is known

module _ {X : Type 0} (P : X → Type 0) where
  each_replicate : (n : ℕ) (x : X) → P x → Each P (replicate n x)
  each_replicate zero x h = tt
  each_replicate (suc n) x h = (h, each_replicate n x h)

choices-known : (spec : SpecTree) (now : List Entry) (lists : List (List ValueTree)) → Each (EachKnown spec now) lists → Each (EachKnown spec now) (choices_of lists)
choices-known spec now [] h = (tt, tt)
choices-known spec now (vs ∷ lists) h =
    each_flat_map (IsKnown spec now) (EachKnown spec now) (λ v. map (λ choice. v ∷ choice) (choices_of lists))
    (λ v k. each_map (EachKnown spec now) (EachKnown spec now) (λ choice. v ∷ choice) (λ choice l. (k, l)) (choices_of lists) (choices-known spec now lists h.1)) vs h.0

module _ (spec : SpecTree) (first : List Entry) (search : Search) where
  -- ---- one choice

  safe-next_choice : (now : List Entry) (further : List ValueTree → Locals → Code) (done : List ValueTree) (locals : Locals) → IsAt spec first now search.here locals → EachKnown spec now done → GoesWith (EachKnown spec) spec first search.here now further → IsSafe spec first now (next_choice search further done locals)
  safe-next_choice now further done locals is_at known goes = goes now done (take search.count locals) (within-self now) (at-cut search.count is_at) known

  safe-truth : (now : List Entry) (b : Bool) (locals : Locals) → IsAt spec first now search.here locals → IsSafe spec first now (value (boolean b) (take search.count locals))
  safe-truth now b locals is_at = safe-value spec (boolean b) (at-cut search.count is_at) tt

  safe-fulfilled : (now : List Entry) (chooser : Chooser) (vs done : List ValueTree) (further : List ValueTree → Locals → Code) (locals : Locals) → IsAt spec first now search.here locals → EachKnown spec now vs → EachKnown spec now done → GoesWith (EachKnown spec) spec first search.here now further → IsSafe spec first now (fulfilled search chooser vs done further locals)
  safe-fulfilled now (collects what trees condition) vs done further locals is_at chosen known goes =
      safe-collected spec first now search.here search.place trees done (next_choice search further) locals is_at known (λ later more after w at_later also.
      safe-next_choice later further more after at_later also (goes-later (EachKnown spec) spec first search.here now later further w goes))
  safe-fulfilled now (for_each condition) vs done further locals is_at chosen known goes = safe-next_choice now further done locals is_at known goes
  safe-fulfilled now (for_some condition) vs done further locals is_at chosen known goes = safe-truth now true locals is_at
  safe-fulfilled now (for_one condition) vs done further locals is_at chosen known goes =
      safe-next_choice now further (done ++ boolean true ∷ []) locals is_at (each_append (IsKnown spec now) done (boolean true ∷ []) known (tt, tt)) goes
  safe-fulfilled now (the_one condition) vs done further locals is_at chosen known goes =
      safe-next_choice now further (done ++ vs) locals is_at (each_append (IsKnown spec now) done vs known chosen) goes
  safe-fulfilled now (takes_first condition body) vs done further locals is_at chosen known goes = safe-within spec first now search.here search.count body locals is_at
  safe-fulfilled now (finds condition) vs done further locals is_at chosen known goes = safe-finish spec (next locals) is_at is_at.may.known

  safe-unfulfilled : (now : List Entry) (chooser : Chooser) (done : List ValueTree) (further : List ValueTree → Locals → Code) (locals : Locals) → IsAt spec first now search.here locals → EachKnown spec now done → GoesWith (EachKnown spec) spec first search.here now further → IsSafe spec first now (unfulfilled search chooser done further locals)
  safe-unfulfilled now (for_each condition) done further locals is_at known goes = safe-truth now false locals is_at
  safe-unfulfilled now _ done further locals is_at known goes = safe-next_choice now further done locals is_at known goes

  safe-by_truth : (now : List Entry) (vs done : List ValueTree) (further : List ValueTree → Locals → Code) (b : Bool) (locals : Locals) → IsAt spec first now search.here locals → EachKnown spec now vs → EachKnown spec now done → GoesWith (EachKnown spec) spec first search.here now further → IsSafe spec first now (by_truth search vs done further b locals)
  safe-by_truth now vs done further true locals is_at chosen known goes = safe-fulfilled now search.chooser vs done further locals is_at chosen known goes
  safe-by_truth now vs done further false locals is_at chosen known goes = safe-unfulfilled now search.chooser done further locals is_at known goes

  safe-tried : (now : List Entry) (condition : MaybeExpr) (vs done : List ValueTree) (further : List ValueTree → Locals → Code) (locals : Locals) → IsAt spec first now search.here locals → EachKnown spec now vs → EachKnown spec now done → GoesWith (EachKnown spec) spec first search.here now further → IsSafe spec first now (tried search condition vs done further locals)
  safe-tried now left_out vs done further locals is_at chosen known goes = safe-by_truth now vs done further true locals is_at chosen known goes
  safe-tried now (given_expr condition) vs done further locals is_at chosen known goes =
      safe-decided spec first now search.here locals condition search.place (by_truth search vs done further) is_at (λ later b after w at_later any.
      safe-by_truth later vs done further b after at_later (values-on now later w vs chosen) (values-on now later w done known)
      (goes-later (EachKnown spec) spec first search.here now later further w goes))

  -- ---- all choices

  safe-the_only : (now : List Entry) (done : List ValueTree) (locals : Locals) → IsAt spec first now search.here locals → EachKnown spec now done → IsSafe spec first now (the_only search.place done locals)
  safe-the_only now (v ∷ []) locals is_at known = safe-value spec v is_at known.0
  safe-the_only now _ locals is_at known = may-fail spec NotUnique search.place is_at.may

  safe-exhausted : (now : List Entry) (chooser : Chooser) (done : List ValueTree) (locals : Locals) → IsAt spec first now search.here locals → EachKnown spec now done → IsSafe spec first now (exhausted chooser search.place done locals)
  safe-exhausted now (collects what trees condition) done locals is_at known = safe-make spec what search.place done is_at known
  safe-exhausted now (for_each condition) done locals is_at known = safe-value spec (boolean true) is_at tt
  safe-exhausted now (for_some condition) done locals is_at known = safe-value spec (boolean false) is_at tt
  safe-exhausted now (for_one condition) done locals is_at known = safe-value spec (boolean (nat_eq (length done) 1)) is_at tt
  safe-exhausted now (the_one condition) done locals is_at known = safe-the_only now done locals is_at known
  safe-exhausted now (takes_first condition body) done locals is_at known = may-fail spec NoMatch search.place is_at.may
  safe-exhausted now (finds condition) done locals is_at known = may-fail spec NoMatch search.place is_at.may

  -- the choices in order
  safe-choose : (choices : List (List ValueTree)) (now : List Entry) (done : List ValueTree) (locals : Locals) → IsAt spec first now search.here locals → Each (EachKnown spec now) choices → EachKnown spec now done → IsSafe spec first now (choose spec search choices done locals)
  safe-choose [] now done locals is_at choosable known = safe-exhausted now search.chooser done locals is_at known
  safe-choose (vs ∷ choices) now done locals is_at choosable known =
      safe-bound_or spec first now search.here search.place (first_match spec search.here.scope search.patterns search.given vs)
      (tried search (condition_of search.chooser) vs done (choose spec search choices)) (choose spec search choices done) locals is_at
      (match-known spec now search.here.scope search.patterns search.given vs choosable.0)
      (λ later after w at_later.
      safe-tried later (condition_of search.chooser) vs done (choose spec search choices) after at_later (values-on now later w vs choosable.0) (values-on now later w done known)
      (λ end more others x at_end also. safe-choose choices end more others at_end (lists-on now end (within-then now later end w x) choices choosable.1) also))
      (λ later after w at_later. safe-choose choices later done after at_later (lists-on now later w choices choosable.1) (values-on now later w done known))

-- ---- binds

-- each list that is chosen from has known values
abbrev EachListKnown : SpecTree → List Entry → List (List ValueTree) → Type 0
EachListKnown spec entries = Each (EachKnown spec entries)

module _ (spec : SpecTree) (first : List Entry) (here : Here) (place : Place) where
  safe-with_elements : (now : List Entry) (tree : ExprTree) (count : ℕ) (lists : List (List ValueTree)) (further : List (List ValueTree) → Locals → Code) (v : ValueTree) (locals : Locals) → IsAt spec first now here locals → EachListKnown spec now lists → IsKnown spec now v → GoesWith (EachListKnown spec) spec first here now further → IsSafe spec first now (with_elements tree count lists further v locals)
  safe-with_elements now tree count lists further (set_of vs) locals is_at before known goes =
      goes now (lists ++ replicate count (value_list vs)) locals (within-self now) is_at
      (each_append (EachKnown spec now) lists (replicate count (value_list vs)) before (each_replicate (EachKnown spec now) count (value_list vs) (listed (IsThere spec now) vs known)))
  safe-with_elements now tree count lists further v locals is_at before known goes = may-fail spec NotSet (expr_place tree) is_at.may

  safe-sets_of : (sources : List (ExprTree × ℕ)) (now : List Entry) (lists : List (List ValueTree)) (further : List (List ValueTree) → Locals → Code) (locals : Locals) → IsAt spec first now here locals → EachListKnown spec now lists → GoesWith (EachListKnown spec) spec first here now further → IsSafe spec first now (sets_of here place sources lists further locals)
  safe-sets_of [] now lists further locals is_at known goes = goes now lists locals (within-self now) is_at known
  safe-sets_of (source ∷ sources) now lists further locals is_at known goes =
      safe-evaluated spec first now here locals source.0 place (with_elements source.0 source.1 lists (λ more after. sets_of here place sources more further after)) is_at (λ later v after w at_later also.
      safe-with_elements later source.0 source.1 lists (λ more others. sets_of here place sources more further others) v after at_later (lists-on now later w lists known) also (λ end more others x at_end all.
      safe-sets_of sources end more further others at_end all (goes-later (EachListKnown spec) spec first here now end further (within-then now later end w x) goes)))

  safe-search_with : (now : List Entry) (patterns : List PatternTree) (chooser : Chooser) (lists : List (List ValueTree)) (given : List ValueTree) (locals : Locals) → IsAt spec first now here locals → EachListKnown spec now lists → IsSafe spec first now (search_with spec here place patterns chooser lists given locals)
  safe-search_with now patterns chooser lists given locals is_at known =
      safe-choose spec first (record { here = here; place = place; count = length locals; patterns = patterns; given = given; chooser = chooser })
      (choices_of lists) now [] locals is_at (choices-known spec now lists known) tt

  safe-behind_sets : (now : List Entry) (patterns : List PatternTree) (chooser : Chooser) (lists : List (List ValueTree)) (locals : Locals) → IsAt spec first now here locals → EachListKnown spec now lists → IsSafe spec first now (behind_sets spec here place patterns chooser lists locals)
  safe-behind_sets now patterns chooser lists locals is_at known =
      safe-collected spec first now here place (exprs_of (flat_map given_in patterns)) [] (search_with spec here place patterns chooser lists) locals is_at tt (λ later given after w at_later also.
      safe-search_with later patterns chooser lists given after at_later (lists-on now later w lists known))

  -- a node that goes through the choices of its binds
  pub safe-choosing : (now : List Entry) (binds : BindTrees) (chooser : Chooser) (locals : Locals) → IsAt spec first now here locals → IsSafe spec first now (choosing spec here place binds chooser locals)
  safe-choosing now binds chooser locals is_at =
      safe-sets_of (bind_sources binds) now [] (behind_sets spec here place (bound_patterns binds) chooser) locals is_at tt (λ later lists after w at_later known.
      safe-behind_sets later (bound_patterns binds) chooser lists after at_later known)
