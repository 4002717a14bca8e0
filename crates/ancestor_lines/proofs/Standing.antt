-- What layouts stand for, by the lists of ancestors.
use Rattle.std.proofs.Common.{◌≡◌, ℕ, zero, suc, ◌+◌, ◌<◌, true, List, [], ◌∷◌, slice_get, length, map, reverse, flat_map, refl, ap, sym, ◌∙◌, arith}
use Rattle.std.specs.List.{range_with_len}
use Rattle.std.proofs.lemmas.List.{length-map}
use Rattle.std.proofs.lemmas.List.FromFn.{fill_by_all, get_or-map-range_with_len}
use Rattle.std.proofs.lemmas.Simd.{map-map}
use Rattle.vdm_kinds.specs.declared.name.Name.{Name}
use Rattle.vdm_kinds.specs.declared.member.VarRef.{VarRef}
use Rattle.abstract_syntax.specs.Classes.{ClassTree, SpecTree}
use Rattle.graph_cycles.specs.Graphs.{leads_to_no_cycle}
use Rattle.class_meaning.specs.Ancestors.{ancestors, ancestor_names}
use Rattle.class_meaning.specs.Classes.{classes, class_at, class_graph, superclass_numbers}
use Rattle.class_meaning.specs.Objects.{listed, instance_variables, static_variables, own_operation_names, layout, statics, operation_names, first_names}
use Rattle.class_meaning.proofs.Numbers.{flat_map_same}
use Rattle.ancestor_lines.specs.Lines.{AreLines}
use Rattle.ancestor_lines.specs.Parts.{list_at, name_at}

-- the lists are those of the classes in turn
pub lines_are : (spec : SpecTree) (lines : List (List ℕ)) → AreLines (class_graph spec) lines
    → ((k : ℕ) → k < length (class_graph spec) → leads_to_no_cycle (class_graph spec) k ≡ true)
    → lines ≡ map (ancestors spec) (range_with_len 0 (length (class_graph spec)))
lines_are spec lines are settled =
    fill_by_all (ancestors spec) lines (length (class_graph spec)) [] are.count (λ k l. are.same k l (settled k l))

listed_at : {B : Type 0} (f : ClassTree → List B) (cs : List ClassTree) (a : ℕ) → list_at (map f cs) a ≡ listed f (slice_get cs a)
listed_at f [] a = refl
listed_at f (c ∷ cs) zero = refl
listed_at f (c ∷ cs) (suc a) = listed_at f cs a

-- a list of each of the classes in turn
pub of_lines : {B : Type 0} (spec : SpecTree) (lines : List (List ℕ)) (f : List ℕ → List B) (h : ℕ → List B) (found : List (List B))
    → lines ≡ map (ancestors spec) (range_with_len 0 (length (class_graph spec)))
    → found ≡ map f lines → ((k : ℕ) → f (ancestors spec k) ≡ h k) → found ≡ map h (range_with_len 0 (length (class_graph spec)))
of_lines {B} spec lines f h found are e same =
    e ∙ ap (map f) are ∙ map-map f (ancestors spec) (range_with_len 0 (length (class_graph spec)))
    ∙ ap (λ (g : ℕ → List B). map g (range_with_len 0 (length (class_graph spec)))) (λ i k. same k i)

module _ (spec : SpecTree) (lines : List (List ℕ)) (are : lines ≡ map (ancestors spec) (range_with_len 0 (length (class_graph spec))))
    (cs : List ClassTree) (all : cs ≡ classes spec) where
  pub names_stand : (found : List (List Name)) → found ≡ map (λ (line : List ℕ). map (name_at cs) line) lines
      → found ≡ map (ancestor_names spec) (range_with_len 0 (length (class_graph spec)))
  names_stand found e = of_lines spec lines (λ (line : List ℕ). map (name_at cs) line) (ancestor_names spec) found are e
      (λ k. ap (λ (xs : List ClassTree). map (name_at xs) (ancestors spec k)) all)

  pub layouts_stand : (own found : List (List VarRef)) → own ≡ map instance_variables cs
      → found ≡ map (λ (line : List ℕ). flat_map (list_at own) (reverse line)) lines
      → found ≡ map (layout spec) (range_with_len 0 (length (class_graph spec)))
  layouts_stand own found o e = of_lines spec lines (λ (line : List ℕ). flat_map (list_at own) (reverse line)) (layout spec) found are e
      (λ k. ap (λ (xs : List (List VarRef)). flat_map (list_at xs) (reverse (ancestors spec k))) (o ∙ ap (map instance_variables) all)
      ∙ flat_map_same (list_at (map instance_variables (classes spec))) (λ (a : ℕ). listed instance_variables (class_at spec a)) (reverse (ancestors spec k))
      (λ a _. listed_at instance_variables (classes spec) a))

  pub operations_stand : (own found : List (List Name)) → own ≡ map own_operation_names cs
      → found ≡ map (λ (line : List ℕ). first_names (flat_map (list_at own) line)) lines
      → found ≡ map (operation_names spec) (range_with_len 0 (length (class_graph spec)))
  operations_stand own found o e = of_lines spec lines (λ (line : List ℕ). first_names (flat_map (list_at own) line)) (operation_names spec) found are e
      (λ k. ap (λ (xs : List (List Name)). first_names (flat_map (list_at xs) (ancestors spec k))) (o ∙ ap (map own_operation_names) all)
      ∙ ap first_names (flat_map_same (list_at (map own_operation_names (classes spec))) (λ (a : ℕ). listed own_operation_names (class_at spec a)) (ancestors spec k)
      (λ a _. listed_at own_operation_names (classes spec) a)))

in_turn : {B : Type 0} (f : ClassTree → List B) (cs : List ClassTree) (n : ℕ) → length cs ≡ n → map f cs ≡ map (λ (k : ℕ). listed f (slice_get cs k)) (range_with_len 0 n)
in_turn f cs n e = fill_by_all (λ (k : ℕ). listed f (slice_get cs k)) (map f cs) n [] (length-map cs f ∙ e) (λ k l. listed_at f cs k)

pub statics_stand : (spec : SpecTree) (cs : List ClassTree) → cs ≡ classes spec → (found : List (List VarRef)) → found ≡ map static_variables cs
    → found ≡ map (statics spec) (range_with_len 0 (length (class_graph spec)))
statics_stand spec cs all found e =
    e ∙ ap (map static_variables) all
    ∙ in_turn static_variables (classes spec) (length (class_graph spec)) (sym (length-map (classes spec) (superclass_numbers spec)))

-- the list of a class among those in turn
pub at_class : {B : Type 0} (h : ℕ → List B) (n k : ℕ) (lists : List (List B)) (found : List B) → lists ≡ map h (range_with_len 0 n) → k < n
    → found ≡ list_at lists k → found ≡ h k
at_class {B} h n k lists found e l is =
    is ∙ ap (λ (xs : List (List B)). list_at xs k) e ∙ get_or-map-range_with_len h 0 n k k [] l (zero_add k)
  where
    zero_add : (m : ℕ) → 0 + m ≡ m
    zero_add m = omega arith
