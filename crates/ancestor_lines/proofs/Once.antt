-- Names, each once where it stands first, by their numbers.
use Rattle.std.proofs.Common.{◌≡◌, ℕ, Bool, true, false, not, List, [], ◌∷◌, nat_eq, cond, map, refl, ap, sym, ◌∙◌}
use Rattle.std.specs.List.{filter}
use Rattle.vdm_kinds.specs.declared.name.Name.{Name}
use Rattle.abstract_syntax.specs.Classes.{is_same_name}
use Rattle.graph_cycles.specs.Growing.{with_nodes}
use Rattle.class_meaning.specs.Ancestors.{firsts}
use Rattle.class_meaning.specs.Objects.{first_names}
use Rattle.ancestor_lines.specs.Parts.{numbers}
use Rattle.ancestor_lines.proofs.Growth.{with_nodes-firsts}

-- the names of numbers
named : List ℕ → List Name
named ns = map (λ (n : ℕ). record { 0 = n }) ns

named-numbers : (names : List Name) → named (numbers names) ≡ names
unfolding named
named-numbers [] = refl
named-numbers (n ∷ names) = ap (λ (ns : List Name). n ∷ ns) (named-numbers names)

same_numbers : (xs ys : List Name) → numbers xs ≡ numbers ys → xs ≡ ys
same_numbers xs ys e = sym (named-numbers xs) ∙ ap named e ∙ named-numbers ys

numbers-filter : (name : Name) (names : List Name)
    → numbers (filter (λ (other : Name). not (is_same_name name other)) names) ≡ filter (λ (n : ℕ). not (nat_eq name.0 n)) (numbers names)
numbers-filter name [] = refl
numbers-filter name (n ∷ names) = by (not (nat_eq name.0 n.0)) (numbers-filter name names)
  where
    by : (b : Bool) → numbers (filter (λ (other : Name). not (is_same_name name other)) names) ≡ filter (λ (n : ℕ). not (nat_eq name.0 n)) (numbers names)
        → numbers (cond b (n ∷ filter (λ (other : Name). not (is_same_name name other)) names) (filter (λ (other : Name). not (is_same_name name other)) names))
        ≡ cond b (n.0 ∷ filter (λ (n : ℕ). not (nat_eq name.0 n)) (numbers names)) (filter (λ (n : ℕ). not (nat_eq name.0 n)) (numbers names))
    by true rest = ap (λ (ns : List ℕ). n.0 ∷ ns) rest
    by false rest = rest

numbers-first : (names : List Name) → numbers (first_names names) ≡ firsts (numbers names)
numbers-first [] = refl
numbers-first (n ∷ names) =
    ap (λ (ns : List ℕ). n.0 ∷ ns)
    (numbers-filter n (first_names names) ∙ ap (filter (λ (k : ℕ). not (nat_eq n.0 k))) (numbers-first names))

pub once_is : (found names : List Name) → numbers found ≡ with_nodes [] (numbers names) → found ≡ first_names names
once_is found names e = same_numbers found (first_names names) (e ∙ with_nodes-firsts [] (numbers names) refl ∙ sym (numbers-first names))
