-- The graphs of classes and of types lead to their own nodes alone.
use Rattle.std.proofs.Common.{◌≡◌, ℕ, ◌<◌, List, [], ◌∷◌, Option, Some, None, length, map, refl, sym, subst, All}
use Rattle.std.specs.List.{AllByRecursion}
use Rattle.std.specs.Option.{option_and_then}
use Rattle.std.proofs.lemmas.List.{length-map}
use Rattle.std.proofs.lemmas.List.Elements.{All-from_recursion}
use Rattle.std.proofs.lemmas.List.Quantifiers.{position-Some}
use Rattle.vdm_kinds.specs.declared.name.Name.{Name}
use Rattle.vdm_kinds.specs.declared.name_at.NameAt.{NameAt}
use Rattle.abstract_syntax.specs.Classes.{TypeDefTree, ClassTree, SpecTree, is_same_name}
use Rattle.expr_tree.specs.Alternatives.{body_alternatives}
use Rattle.graph_cycles.specs.Graphs.{InRange}
use Rattle.class_meaning.specs.Classes.{io_class, classes, class_number, class_graph, numbers_among, superclass_numbers}
use Rattle.class_meaning.specs.Found.{type_named}
use Rattle.class_meaning.specs.TypeGraph.{type_definitions, is_same_type, type_number, alternative_number, alternative_numbers, type_graph}

-- the numbers that a function gives are below a bound
numbers_below : {A : Type 0} (h : A → Option ℕ) (n : ℕ) → ((x : A) (k : ℕ) → h x ≡ Some k → k < n) → (xs : List A)
    → AllByRecursion (λ (k : ℕ). k < n) (numbers_among (map h xs))
numbers_below h n below [] = tt
numbers_below h n below (x ∷ xs) = by (h x) (below x) (numbers_below h n below xs)
  where
    by : (o : Option ℕ) → ((k : ℕ) → o ≡ Some k → k < n) → AllByRecursion (λ (k : ℕ). k < n) (numbers_among (map h xs))
        → AllByRecursion (λ (k : ℕ). k < n) (numbers_among (o ∷ map h xs))
    by None here rest = rest
    by (Some k) here rest = (here k refl, rest)

lists_below : {A : Type 0} (f : A → List ℕ) (n : ℕ) → ((x : A) → AllByRecursion (λ (k : ℕ). k < n) (f x)) → (xs : List A)
    → AllByRecursion (λ (nodes : List ℕ). All (λ (k : ℕ). k < n) nodes) (map f xs)
lists_below f n each [] = tt
lists_below f n each (x ∷ xs) = (All-from_recursion (λ (k : ℕ). k < n) (f x) (each x), lists_below f n each xs)

in_range : {A : Type 0} (f : A → List ℕ) (xs : List A) → ((x : A) → AllByRecursion (λ (k : ℕ). k < length xs) (f x)) → InRange (map f xs)
in_range f xs each = subst (λ (n : ℕ). All (λ (nodes : List ℕ). All (λ (k : ℕ). k < n) nodes) (map f xs)) (sym (length-map xs f))
    (All-from_recursion (λ (nodes : List ℕ). All (λ (k : ℕ). k < length xs) nodes) (map f xs) (lists_below f (length xs) each xs))

pub class_number_below : (spec : SpecTree) (name : Name) (k : ℕ) → class_number spec name ≡ Some k → k < length (classes spec)
class_number_below spec name k e = (position-Some (λ (class : ClassTree). is_same_name name class.name) (classes spec) k io_class e).0

pub class_graph_in_range : (spec : SpecTree) → InRange (class_graph spec)
class_graph_in_range spec = in_range (superclass_numbers spec) (classes spec)
    (λ class. numbers_below (λ (s : NameAt). class_number spec s.name) (length (classes spec))
    (λ s k e. class_number_below spec s.name k e) class.superclasses)

pub type_number_below : (spec : SpecTree) (d : TypeDefTree) (i : ℕ) → type_number spec d ≡ Some i → i < length (type_definitions spec)
type_number_below spec d i e = (position-Some (is_same_type d) (type_definitions spec) i d e).0

alternative_below : (spec : SpecTree) (o : Option TypeDefTree) (i : ℕ) → option_and_then (type_number spec) o ≡ Some i
    → i < length (type_definitions spec)
alternative_below spec None i e = absurd (cc)
alternative_below spec (Some d) i e = type_number_below spec d i e

pub type_graph_in_range : (spec : SpecTree) → InRange (type_graph spec)
type_graph_in_range spec = in_range (alternative_numbers spec) (type_definitions spec)
    (λ d. numbers_below (alternative_number spec d) (length (type_definitions spec))
    (λ t i e. alternative_below spec (type_named spec d.class t.class t.name) i e) (body_alternatives d.body))
