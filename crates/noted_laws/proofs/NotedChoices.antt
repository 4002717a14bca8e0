-- Nodes that go through choices ask, in a thread, questions that entries answer.
use Rattle.std.proofs.Common.{◌∷◌, ◌++◌, [], true, false, List, length, take, ℕ}
use Rattle.std.specs.Prelude.{replicate}
use Rattle.std.specs.List.{flat_map}
use Rattle.vdm_kinds.specs.declared.place.Place.{Place}
use Rattle.abstract_syntax.specs.Values.{ValueTree, boolean, set_of, value_list}
use Rattle.abstract_syntax.specs.Expressions.{ExprTree, MaybeExpr, left_out, given_expr, BindTrees, PatternTree}
use Rattle.abstract_syntax.specs.Classes.{SpecTree}
use Rattle.bind_choices.specs.Choices.{choices_of}
use Rattle.pattern_meaning.specs.Brackets.{given_in}
use Rattle.node_meaning.specs.Choosing.{Chooser, Search, collects, for_each, for_some, for_one, the_one, takes_first, finds, behind_sets, bind_sources, bound_patterns, by_truth, choose, choosing, condition_of, exhausted, fulfilled, next_choice, search_with, sets_of, the_only, tried, unfulfilled, with_elements}
use Rattle.node_meaning.specs.Envs.{Here, Locals}
use Rattle.node_meaning.specs.Matching.{exprs_of, first_match}
use Rattle.node_meaning.specs.Tasks.{Code}
use Rattle.noted_laws.proofs.Noting.{Onward, OnwardWith, notes-bound_or, notes-collected, notes-cut_to, notes-decided, notes-evaluated, notes-make}

module _ (search : Search) where
  -- ---- one choice

  module _ (further : List ValueTree → Locals → Code) (h : OnwardWith further) where
    notes-fulfilled : (chooser : Chooser) (vs done : List ValueTree) → Onward (fulfilled search chooser vs done further)
    notes-fulfilled (collects what trees condition) vs done locals =
        notes-collected search.here search.place trees done (next_choice search further) (λ more after. h more (take search.count after)) locals
    notes-fulfilled (for_each condition) vs done locals = h done (take search.count locals)
    notes-fulfilled (for_some condition) vs done locals = tt
    notes-fulfilled (for_one condition) vs done locals = h (done ++ boolean true ∷ []) (take search.count locals)
    notes-fulfilled (the_one condition) vs done locals = h (done ++ vs) (take search.count locals)
    notes-fulfilled (takes_first condition body) vs done locals = notes-cut_to search.count
    notes-fulfilled (finds condition) vs done locals = tt

    notes-unfulfilled : (chooser : Chooser) (done : List ValueTree) → Onward (unfulfilled search chooser done further)
    notes-unfulfilled (for_each condition) done locals = tt
    notes-unfulfilled _ done locals = h done (take search.count locals)

    notes-by_truth : (vs done : List ValueTree) → OnwardWith (by_truth search vs done further)
    notes-by_truth vs done true locals = notes-fulfilled search.chooser vs done locals
    notes-by_truth vs done false locals = notes-unfulfilled search.chooser done locals

    notes-tried : (condition : MaybeExpr) (vs done : List ValueTree) → Onward (tried search condition vs done further)
    notes-tried left_out vs done locals = notes-by_truth vs done true locals
    notes-tried (given_expr condition) vs done locals =
        notes-decided search.here locals condition search.place (by_truth search vs done further) (notes-by_truth vs done)

  -- ---- all choices

  notes-the_only : (place : Place) (done : List ValueTree) → Onward (the_only place done)
  notes-the_only place (v ∷ []) locals = tt
  notes-the_only place _ locals = tt

  notes-exhausted : (chooser : Chooser) (place : Place) (done : List ValueTree) → Onward (exhausted chooser place done)
  notes-exhausted (collects what trees condition) place done locals = notes-make what place done locals
  notes-exhausted (for_each condition) place done locals = tt
  notes-exhausted (for_some condition) place done locals = tt
  notes-exhausted (for_one condition) place done locals = tt
  notes-exhausted (the_one condition) place done locals = notes-the_only place done locals
  notes-exhausted (takes_first condition body) place done locals = tt
  notes-exhausted (finds condition) place done locals = tt

  notes-choose : (spec : SpecTree) (choices : List (List ValueTree)) → OnwardWith (choose spec search choices)
  notes-choose spec [] done locals = notes-exhausted search.chooser search.place done locals
  notes-choose spec (vs ∷ choices) done locals =
      notes-bound_or search.place (first_match spec search.here.scope search.patterns search.given vs)
      (tried search (condition_of search.chooser) vs done (choose spec search choices)) (choose spec search choices done)
      (notes-tried (choose spec search choices) (notes-choose spec choices) (condition_of search.chooser) vs done)
      (notes-choose spec choices done) locals

-- ---- binds

module _ (here : Here) (place : Place) where
  notes-with_elements : (tree : ExprTree) (count : ℕ) (lists : List (List ValueTree)) (further : List (List ValueTree) → Locals → Code) → OnwardWith further → OnwardWith (with_elements tree count lists further)
  notes-with_elements tree count lists further h (set_of vs) locals = h (lists ++ replicate count (value_list vs)) locals
  notes-with_elements tree count lists further h v locals = tt

  notes-sets_of : (sources : List (ExprTree × ℕ)) (lists : List (List ValueTree)) (further : List (List ValueTree) → Locals → Code) → OnwardWith further → Onward (sets_of here place sources lists further)
  notes-sets_of [] lists further h locals = h lists locals
  notes-sets_of (source ∷ sources) lists further h locals =
      notes-evaluated here locals source.0 place (with_elements source.0 source.1 lists (λ more after. sets_of here place sources more further after))
      (notes-with_elements source.0 source.1 lists (λ more after. sets_of here place sources more further after) (λ more. notes-sets_of sources more further h))

  notes-search_with : (spec : SpecTree) (patterns : List PatternTree) (chooser : Chooser) (lists : List (List ValueTree)) → OnwardWith (search_with spec here place patterns chooser lists)
  notes-search_with spec patterns chooser lists given locals =
      notes-choose (record { here = here; place = place; count = length locals; patterns = patterns; given = given; chooser = chooser }) spec (choices_of lists) [] locals

  pub notes-choosing : (spec : SpecTree) (binds : BindTrees) (chooser : Chooser) → Onward (choosing spec here place binds chooser)
  notes-choosing spec binds chooser =
      notes-sets_of (bind_sources binds) [] (behind_sets spec here place (bound_patterns binds) chooser) (λ lists.
      notes-collected here place (exprs_of (flat_map given_in (bound_patterns binds))) [] (search_with spec here place (bound_patterns binds) chooser lists)
      (notes-search_with spec (bound_patterns binds) chooser lists))
