-- The set that comes next.
use Rattle.std.proofs.Common.{◌≡◌, ℕ, zero, suc, ◌+◌, List, [], ◌∷◌, ◌++◌, map, length, drop, replicate, slice_get, Option, Some, None, option_map, Bor, refl, ap, sym, ◌∙◌}
use Rattle.std.specs.Option.{option_copied}
use Rattle.std.specs.Slice.{IsItemAt}
use Rattle.std.proofs.lemmas.List.{drop_more}
use Rattle.std.proofs.lemmas.Option.{slice_get-map, slice_get_within, get_or_from_slice_get, slice_get_past, slice_get_read}
use Rattle.abstract_syntax.specs.Expressions.{ExprTree}
use Rattle.abstract_syntax.specs.Values.{ValueTree, set_of, value_trees, value_list-value_trees}
use Rattle.abstract_syntax.specs.Classes.{SpecTree}
use Rattle.expr_tree.specs.View.{boxed_view}
use Rattle.plans.specs.Plans.{part}
use Rattle.node_meaning.specs.Choosing.{sets_of, behind_sets, with_elements}
use Rattle.node_meaning.specs.Envs.{Locals, at}
use Rattle.node_meaning.specs.Tasks.{expr_in, with_value}
use Rattle.eval_data.specs.declared.search.Sets.{Sets}
use Rattle.eval_data.specs.declared.search.Source.{Source}
use Rattle.eval_data.specs.Parts.{here_of, chooser_of, patterns_at, source_of, sources_from}
use Rattle.eval_data.specs.Steps.{source_in, source_at, sets_behind}
use Rattle.search_steps.specs.Gathering.{sets_from}

left_from : {X : Type 0} (xs : List X) (i : ℕ) (x : X) → slice_get xs i ≡ Some x → drop i xs ≡ x ∷ drop (i + 1) xs
left_from {X} xs i x is =
    drop_more xs i x (slice_get_within xs i x is) ∙ ap (λ (y : X). y ∷ drop (i + 1) xs) (get_or_from_slice_get xs i x x is)

seen : (xs : List Source) (i : ℕ) (x : Source) → slice_get xs i ≡ Some x → slice_get (map source_of xs) i ≡ Some (source_of x)
seen xs i x is = slice_get-map source_of xs i ∙ ap (λ (o : Option Source). option_map source_of o) is

-- the source of the set that is being evaluated
pub source_there : (sets : Sets) (source : Source) → slice_get sets.sources.items sets.at ≡ Some source → source_of source ≡ source_at sets
source_there sets source is = sym (ap source_in (seen sets.sources.items sets.at source is))

-- the set that comes next as a part
pub set_next : (spec : SpecTree) (sets : Sets) (source : Source) (locals : Locals) → slice_get sets.sources.items sets.at ≡ Some source
    → part (expr_in (at (here_of sets.here) locals) (boxed_view source.set.now))
    (with_value sets.place (with_elements (source_at sets).0 (source_at sets).1 sets.lists.items (sets_behind spec sets)))
    ≡ sets_from spec sets locals
set_next spec sets source locals is =
    ap (λ (from : ExprTree × ℕ). part (expr_in (at (here_of sets.here) locals) (boxed_view source.set.now))
    (with_value sets.place (with_elements from.0 from.1 sets.lists.items (sets_behind spec sets))))
    (sym (source_there sets source is))
    ∙ ap (λ (left : List (ExprTree × ℕ)). sets_of (here_of sets.here) sets.place left sets.lists.items
    (behind_sets spec (here_of sets.here) sets.place (patterns_at sets.patterns.items) (chooser_of sets.chooser)) locals)
    (sym (left_from (map source_of sets.sources.items) sets.at (source_of source) (seen sets.sources.items sets.at source is)))

-- the only set
pub only_set : (spec : SpecTree) (sets : Sets) (source : Source) (locals : Locals) → sets.sources.items ≡ source ∷ [] → sets.at ≡ 0 → sets.lists.items ≡ []
    → sets_from spec sets locals
    ≡ sets_of (here_of sets.here) sets.place (source_of source ∷ []) [] (behind_sets spec (here_of sets.here) sets.place (patterns_at sets.patterns.items) (chooser_of sets.chooser)) locals
only_set spec sets source locals is first none = λ i.
    sets_of (here_of sets.here) sets.place (sources_from (is i) (first i)) (none i) (behind_sets spec (here_of sets.here) sets.place (patterns_at sets.patterns.items) (chooser_of sets.chooser)) locals

none_left : {X : Type 0} (xs : List X) (i : ℕ) → slice_get xs i ≡ None → drop i xs ≡ []
none_left [] zero none = refl
none_left [] (suc i) none = refl
none_left (x ∷ xs) zero none = cc
none_left (x ∷ xs) (suc i) none = none_left xs i none

-- behind the last set
pub sets_end : (spec : SpecTree) (sets : Sets) (locals : Locals) → slice_get sets.sources.items sets.at ≡ None
    → behind_sets spec (here_of sets.here) sets.place (patterns_at sets.patterns.items) (chooser_of sets.chooser) sets.lists.items locals
    ≡ sets_from spec sets locals
sets_end spec sets locals none =
    ap (λ (left : List (ExprTree × ℕ)). sets_of (here_of sets.here) sets.place left sets.lists.items
    (behind_sets spec (here_of sets.here) sets.place (patterns_at sets.patterns.items) (chooser_of sets.chooser)) locals)
    (sym (none_left (map source_of sets.sources.items) sets.at
    (slice_get-map source_of sets.sources.items sets.at ∙ ap (λ (o : Option Source). option_map source_of o) none)))

-- a value that is a set has these elements
pub set_came : (spec : SpecTree) (sets : Sets) (vs list : List ValueTree) (v : ValueTree) (locals : Locals) → v ≡ set_of (value_trees vs) → list ≡ vs
    → sets_behind spec sets (sets.lists.items ++ replicate (source_at sets).1 list) locals
    ≡ with_elements (source_at sets).0 (source_at sets).1 sets.lists.items (sets_behind spec sets) v locals
set_came spec sets vs list v locals is same =
    ap (λ (l : List ValueTree). sets_behind spec sets (sets.lists.items ++ replicate (source_at sets).1 l) locals) (same ∙ sym (value_list-value_trees vs))
    ∙ sym (ap (λ (w : ValueTree). with_elements (source_at sets).0 (source_at sets).1 sets.lists.items (sets_behind spec sets) w locals) is)

-- what a slice has at an index
pub item_at : {A : Type 0} (xs : List A) (i : ℕ) (r : Option (Bor A)) → IsItemAt xs i r → option_copied r ≡ slice_get xs i
item_at xs i None h = sym (slice_get_past xs i h.3)
item_at xs i (Some x) h = sym (slice_get_read xs (length xs) i x.now refl h.3.0 h.1)
