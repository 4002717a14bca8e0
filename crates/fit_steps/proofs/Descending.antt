-- The classes above a class, as the table and as the meaning has them.
use Rattle.std.proofs.Common.{◌≡◌, ℕ, Option, Some, None, refl}
use Rattle.vdm_kinds.specs.declared.name.Name.{Name}
use Rattle.abstract_syntax.specs.Classes.{SpecTree}
use Rattle.class_meaning.specs.Classes.{class_number}
use Rattle.spec_table.specs.Members.{descends_from, descends_to}
use Rattle.node_meaning.specs.Fitting.{descends, descends_by}

alike_by : (spec : SpecTree) (a b : Option ℕ) → descends_to spec a b ≡ descends_by spec a b
alike_by spec (Some k) (Some a) = refl
alike_by spec (Some k) None = refl
alike_by spec None (Some a) = refl
alike_by spec None None = refl

pub alike : (spec : SpecTree) → descends_from spec ≡ descends spec
alike spec = λ i class other. alike_by spec (class_number spec class) (class_number spec other) i
