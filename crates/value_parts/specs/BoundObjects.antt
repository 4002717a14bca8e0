-- The objects in what names stand for.
use Rattle.std.specs.Prelude.{ℕ}
use Rattle.std.specs.List.{AllByRecursion as Each}
use Rattle.vdm_kinds.specs.declared.name.Name.{Name}
use Rattle.abstract_syntax.specs.Values.{ValueTree}
use Rattle.pattern_meaning.specs.Bindings.{Binding}
use Rattle.value_parts.specs.Objects.{EachObject}

-- each object in what each name stands for has the property
abbrev pub EachObjectBound : (ℕ → Name → Type 0) → Binding → Type 0
EachObjectBound P = Each (λ (p : Name × ValueTree). EachObject P p.1)
