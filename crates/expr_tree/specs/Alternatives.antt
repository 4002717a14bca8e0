-- Which named types a type stands for, alone or as alternatives.
use Rattle.std.specs.Prelude.{◌≡◌, ◌<◌, ℕ, List, [], ◌∷◌, ◌++◌, Option, Some}
use Rattle.std.specs.List.{AllByRecursion as Each}
use Rattle.vdm_kinds.specs.declared.name.Name.{Name}
use Rattle.vdm_kinds.specs.declared.name_at.TypeName.{TypeName}
use Rattle.abstract_syntax.specs.Types.{TypeTree, TypeTrees, optional_type, bracketed_type, named_type, union_type, no_types, one_type}
use Rattle.abstract_syntax.specs.Classes.{TypeBody, same_as, with_fields, TypeDefTree}

-- a name is its own alternative; brackets, `[T]` and a union have those of their parts; no other type has any
abbrev mutual
  pub alternatives : TypeTree → List TypeName
  alternatives (named_type name place) = name ∷ []
  alternatives (optional_type inner place) = alternatives inner
  alternatives (bracketed_type inner place) = alternatives inner
  alternatives (union_type types place) = alternatives_among types
  alternatives _ = []

  pub alternatives_among : TypeTrees → List TypeName
  alternatives_among no_types = []
  alternatives_among (one_type t ts) = alternatives t ++ alternatives_among ts

abbrev pub body_alternatives : TypeBody → List TypeName
body_alternatives (same_as declared) = alternatives declared
body_alternatives (with_fields fields) = []

-- who finds the definition of a type: the class in which its name is written, the class before the backquote where there is
-- one, and the name
abbrev pub Finder : Type 0
Finder = Name → Option Name → Name → Option TypeDefTree

-- each definition that is found has a greater number than that of each of its alternatives, so none is its own alternative
abbrev pub IsRanked : Finder → (TypeDefTree → ℕ) → Type 0
IsRanked find rank =
    (scope : Name) (class : Option Name) (name : Name) (found : TypeDefTree) → find scope class name ≡ Some found
    → Each (λ (other : TypeName). (next : TypeDefTree) → find found.class other.class other.name ≡ Some next → rank next < rank found)
    (body_alternatives found.body)
