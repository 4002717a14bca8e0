-- What meets any form.
use Rattle.std.proofs.Common.{◌≡◌, true, refl}
use Rattle.abstract_syntax.specs.Classes.{SpecTree}
use Rattle.class_checks.specs.TypeNames.{meets}
use Rattle.form_meaning.specs.Forms.{FormTree, any_form, no_form, one_of}

pub any_met : (spec : SpecTree) (form : FormTree) → true ≡ meets spec form any_form
any_met spec any_form = refl
any_met spec no_form = refl
any_met spec (one_of alts) = refl
