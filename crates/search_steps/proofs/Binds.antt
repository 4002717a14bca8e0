-- What binds give, by their views.
use Rattle.std.proofs.Common.{◌≡◌, ℕ, suc, List, [], ◌∷◌, ◌++◌, map, length, refl, ap, sym, ◌∙◌, rules}
use Rattle.std.proofs.lemmas.List.{append-nil, length-map}
use Rattle.vdm_kinds.specs.declared.place.Place.{Place}
use Rattle.abstract_syntax.specs.Classes.{SpecTree}
use Rattle.abstract_syntax.specs.Expressions.{ExprTree, PatternTree, BindTree, BindTrees, bind_in, no_binds, one_bind}
use Rattle.expr_tree.specs.View.{view_of, boxed_view, pattern_view, pattern_views, pattern_trees, bind_view, bind_trees}
use Rattle.expr_tree.specs.declared.pattern.Bind.{Bind, the_lemmas}
use Rattle.pattern_meaning.specs.Ways.{count_of_patterns}
use Rattle.node_meaning.specs.Choosing.{Chooser, bound_patterns, bind_sources, sets_of, behind_sets, choosing}
use Rattle.node_meaning.specs.Envs.{Here, Locals}
use Rattle.node_meaning.specs.Matching.{pattern_list}
use Rattle.search_steps.specs.Gathering.{bind_patterns, bind_source}

listed : (ps : List PatternTree) → pattern_list (pattern_trees ps) ≡ ps
listed [] = refl
listed (p ∷ ps) = ap (λ (rest : List PatternTree). p ∷ rest) (listed ps)

counted : (ps : List PatternTree) → count_of_patterns (pattern_trees ps) ≡ length ps
counted [] = refl
counted (p ∷ ps) = ap suc (counted ps)

shown : (b : Bind) → bind_view b ≡ bind_in (pattern_trees (pattern_views b.patterns.items)) (view_of b.set.value)
shown b = search (rules, the_lemmas)

-- the patterns of a bind as the program holds them
pub patterns_shown : (b : Bind) → map pattern_view b.patterns.items ≡ bind_patterns (bind_view b)
patterns_shown b = sym (listed (map pattern_view b.patterns.items)) ∙ sym (ap bind_patterns (shown b))

-- where its elements come from
pub source_shown : (b : Bind) (n : ℕ) → n ≡ length b.patterns.items → (boxed_view b.set, n) ≡ bind_source (bind_view b)
source_shown b n e =
    ap (λ (k : ℕ). (view_of b.set.value, k)) (e ∙ sym (length-map b.patterns.items pattern_view) ∙ sym (counted (pattern_views b.patterns.items)))
    ∙ sym (ap bind_source (shown b))

-- the first of several binds

first_patterns : (b : BindTree) (bs : BindTrees) → bound_patterns (one_bind b bs) ≡ bind_patterns b ++ bound_patterns bs
first_patterns (bind_in ps set) bs = refl

first_source : (b : BindTree) (bs : BindTrees) → bind_sources (one_bind b bs) ≡ bind_source b ∷ bind_sources bs
first_source (bind_in ps set) bs = refl

pub patterns_first : (b : Bind) (bs : List Bind)
    → bound_patterns (bind_trees (map bind_view (b ∷ bs))) ≡ bind_patterns (bind_view b) ++ bound_patterns (bind_trees (map bind_view bs))
patterns_first b bs = first_patterns (bind_view b) (bind_trees (map bind_view bs))

pub source_first : (b : Bind) (bs : List Bind)
    → bind_sources (bind_trees (map bind_view (b ∷ bs))) ≡ bind_source (bind_view b) ∷ [] ++ bind_sources (bind_trees (map bind_view bs))
source_first b bs = first_source (bind_view b) (bind_trees (map bind_view bs))

-- a node with one bind
pub one_chosen : (spec : SpecTree) (here : Here) (place : Place) (chooser : Chooser) (locals : Locals) (b : BindTree) (source : ExprTree × ℕ)
    (patterns : List PatternTree) → source ≡ bind_source b → patterns ≡ bind_patterns b
    → sets_of here place (source ∷ []) [] (behind_sets spec here place patterns chooser) locals
    ≡ choosing spec here place (one_bind b no_binds) chooser locals
one_chosen spec here place chooser locals (bind_in ps set) source patterns from found =
    ap (λ (s : ExprTree × ℕ). sets_of here place (s ∷ []) [] (behind_sets spec here place patterns chooser) locals) from
    ∙ ap (λ (all : List PatternTree). sets_of here place (bind_source (bind_in ps set) ∷ []) [] (behind_sets spec here place all chooser) locals)
    (found ∙ sym (append-nil (pattern_list ps)))
