-- What the name of a type stands for, by what an index answers.
use Rattle.std.proofs.Common.{◌≡◌, ℕ, Option, Some, None, sym, ap, ◌∙◌}
use Rattle.std.specs.Option.{option_and_then}
use Rattle.vdm_kinds.specs.declared.name.Name.{Name}
use Rattle.abstract_syntax.specs.Classes.{TypeDefTree, ClassTree, SpecTree}
use Rattle.class_index.specs.Answers.{located, IsAnswer}
use Rattle.class_index.specs.declared.member_at.MemberAt.{MemberAt}
use Rattle.class_meaning.specs.Classes.{class_at}
use Rattle.class_meaning.specs.Members.{own}
use Rattle.class_meaning.specs.Found.{own_in, type_of, found, found_type, defined_type}
use Rattle.class_meaning.specs.declared.ask.Ask.TheVariants.{AsType}
use Rattle.class_meaning.specs.declared.found.Found.{Found}

own_is : (spec : SpecTree) (k : ℕ) (class : ClassTree) (name : Name) → class_at spec k ≡ Some class
    → own_in spec (AsType name) k ≡ own class (AsType name)
own_is spec k class name at = ap (option_and_then (λ (c : ClassTree). own c (AsType name))) at

pub own_type_there : (spec : SpecTree) (k : ℕ) (class : ClassTree) (name : Name) (place : MemberAt) → class_at spec k ≡ Some class
    → IsAnswer class (AsType name) (Some place) → option_and_then type_of (located class place) ≡ option_and_then type_of (own_in spec (AsType name) k)
own_type_there spec k class name place at is = ap (option_and_then type_of) (is.0 ∙ sym (own_is spec k class name at))

pub no_own_type : (spec : SpecTree) (k : ℕ) (class : ClassTree) (name : Name) → class_at spec k ≡ Some class
    → IsAnswer class (AsType name) None → None ≡ option_and_then type_of (own_in spec (AsType name) k)
no_own_type spec k class name at is = sym (ap (option_and_then type_of) (own_is spec k class name at ∙ is))

-- what is found decides
pub found_is : (spec : SpecTree) (k : ℕ) (name : Name) (f : Found) → f ≡ found spec (AsType name) k → defined_type spec name f ≡ found_type spec name k
found_is spec k name f e = ap (defined_type spec name) e
