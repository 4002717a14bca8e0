-- The graph of the classes.
use Rattle.std.proofs.Common.{◌≡◌, ℕ, ◌<◌, ◌≤◌, List, [], ◌∷◌, ◌++◌, length, map, drop, Option, Some, None, refl, ap, sym, ◌∙◌, subst}
use Rattle.std.proofs.lemmas.List.{append-nil, length-map, drop_all}
use Rattle.std.proofs.lemmas.List.Elements.{All-nil, All-cons}
use Rattle.std.proofs.lemmas.List.Quantifiers.{position-Some}
use Rattle.std.specs.List.{All}
use Rattle.vdm_kinds.specs.declared.name.Name.{Name}
use Rattle.vdm_kinds.specs.declared.name_at.NameAt.{NameAt}
use Rattle.abstract_syntax.specs.Classes.{ClassTree, SpecTree, is_same_name}
use Rattle.graph_cycles.specs.Graphs.{InRange}
use Rattle.class_meaning.specs.Classes.{classes, io_class, class_number, numbers_among, superclass_numbers, class_graph}

-- at the end of the list nothing is left
pub all_numbered : (f : NameAt → Option ℕ) (made : List ℕ) (items written : List NameAt) (i : ℕ)
    → length items ≤ i
    → made ++ numbers_among (map f (drop i items)) ≡ numbers_among (map f items)
    → items ≡ written
    → made ≡ numbers_among (map f written)
all_numbered f made items written i h all same =
    sym (append-nil made)
    ∙ ap (λ (rest : List NameAt). made ++ numbers_among (map f rest)) (sym (drop_all i items h))
    ∙ all
    ∙ ap (λ (names : List NameAt). numbers_among (map f names)) same

-- each class has its own node
pub as_many_nodes : (spec : SpecTree) → length (class_graph spec) ≡ length (classes spec)
as_many_nodes spec = length-map (classes spec) (superclass_numbers spec)

numbered_within : (spec : SpecTree) (name : Name) (k : ℕ) → class_number spec name ≡ Some k → k < length (class_graph spec)
numbered_within spec name k is =
    let within = (position-Some (λ (class : ClassTree). is_same_name name class.name) (classes spec) k io_class is).0 in
    subst (λ (n : ℕ). k < n) (sym (as_many_nodes spec)) within

among_within : (spec : SpecTree) (found : Option ℕ) (others : List (Option ℕ))
    → ((k : ℕ) → found ≡ Some k → k < length (class_graph spec))
    → All (λ (k : ℕ). k < length (class_graph spec)) (numbers_among others)
    → All (λ (k : ℕ). k < length (class_graph spec)) (numbers_among (found ∷ others))
among_within spec None others own rest = rest
among_within spec (Some k) others own rest = All-cons (λ (b : ℕ). b < length (class_graph spec)) k (numbers_among others) (own k refl) rest

all_within : (spec : SpecTree) (names : List NameAt)
    → All (λ (k : ℕ). k < length (class_graph spec)) (numbers_among (map (λ (s : NameAt). class_number spec s.name) names))
all_within spec [] = All-nil (λ (k : ℕ). k < length (class_graph spec))
all_within spec (s ∷ names) =
    among_within spec (class_number spec s.name) (map (λ (s : NameAt). class_number spec s.name) names) (numbered_within spec s.name) (all_within spec names)

each_within : (spec : SpecTree) (some : List ClassTree)
    → All (λ (nodes : List ℕ). All (λ (k : ℕ). k < length (class_graph spec)) nodes) (map (superclass_numbers spec) some)
each_within spec [] = All-nil (λ (nodes : List ℕ). All (λ (k : ℕ). k < length (class_graph spec)) nodes)
each_within spec (class ∷ some) =
    All-cons (λ (nodes : List ℕ). All (λ (k : ℕ). k < length (class_graph spec)) nodes) (superclass_numbers spec class) (map (superclass_numbers spec) some)
    (all_within spec class.superclasses) (each_within spec some)

-- classes lead to classes
pub in_range : (spec : SpecTree) → InRange (class_graph spec)
in_range spec = each_within spec (classes spec)
