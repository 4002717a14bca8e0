-- What is still to be opened.
use Rattle.std.specs.Prelude.{ℕ, Bool, List, [], ◌∷◌}
use Rattle.vdm_kinds.specs.declared.name.Name.{Name}
use Rattle.abstract_syntax.specs.Classes.{TypeDefTree}
use Rattle.expr_tree.specs.Alternatives.{Finder}
use Rattle.form_meaning.specs.Forms.{FormTree, AltTrees, no_alts, one_alt}
use Rattle.form_meaning.specs.Types.{alts_opened, definition_form}
use Rattle.type_forms.specs.declared.form.Alt.{Alt}
use Rattle.type_forms.specs.declared.opening.Opening.{Opening}
use Rattle.type_forms.specs.Tree.{alt_of}

-- a stack of alternatives, the next one last, in front of others
abbrev pub turned : List Alt → AltTrees → AltTrees
turned [] later = later
turned (a ∷ alternatives) later = turned alternatives (one_alt (alt_of a) later)

-- what is known at the end, where definitions take what `open` adds
abbrev pub opened_by_all : Finder → (Name → Bool) → (FormTree → TypeDefTree → FormTree) → Opening → FormTree
opened_by_all find is_class open_definition opening =
    alts_opened find is_class open_definition opening.known (turned opening.pending.items no_alts)

abbrev pub opened_at_last : Finder → (Name → Bool) → (TypeDefTree → ℕ) → Opening → FormTree
opened_at_last find is_class rank opening = opened_by_all find is_class (definition_form find is_class rank) opening
