-- Tests by which a list keeps that its first class is `IO`.
use Rattle.std.specs.Prelude.{Bool, true, false, ◌&&◌, nat_eq, List, [], ◌∷◌, Option, None}
use Rattle.vdm_kinds.specs.declared.access.Access.{Access}
use Rattle.vdm_kinds.specs.declared.access.Level.{Level}
use Rattle.vdm_kinds.specs.declared.access.Level.TheVariants.{Public}
use Rattle.vdm_kinds.specs.declared.basic_type.BasicType.TheVariants.{Token}
use Rattle.vdm_kinds.specs.declared.name.Name.{Name}
use Rattle.vdm_kinds.specs.declared.name_at.NameAt.{NameAt}
use Rattle.vdm_kinds.specs.declared.part.Part.{Part}
use Rattle.vdm_kinds.specs.declared.part.Part.TheVariants.{Spec}
use Rattle.vdm_kinds.specs.declared.place.Place.{Place}
use Rattle.vdm_kinds.specs.NameList.{io}
use Rattle.abstract_syntax.specs.Types.{TypeTree, basic_type}
use Rattle.abstract_syntax.specs.Expressions.{PatternTree, any_value}
use Rattle.abstract_syntax.specs.Statements.{StmtTree, skips}
use Rattle.abstract_syntax.specs.Classes.{Body, written, OperationTree, BlockTree, operations, ClassTree, is_same_name}
use Rattle.class_meaning.specs.Classes.{print, println}

abbrev pub is_of_spec : Part → Bool
is_of_spec Spec = true
is_of_spec _ = false

abbrev pub is_nowhere : Place → Bool
is_nowhere place = is_of_spec place.part && (nat_eq place.line 1 && nat_eq place.column 1)

abbrev pub is_public : Level → Bool
is_public Public = true
is_public _ = false

abbrev pub is_public_static : Access → Bool
is_public_static access = access.is_static && is_public access.level

abbrev pub is_one_token : List TypeTree → Bool
is_one_token (basic_type Token place ∷ []) = is_nowhere place
is_one_token _ = false

abbrev pub is_one_any : List PatternTree → Bool
is_one_any (any_value place ∷ []) = is_nowhere place
is_one_any _ = false

abbrev pub is_skip : Body StmtTree → Bool
is_skip (written (skips place)) = is_nowhere place
is_skip _ = false

abbrev pub is_absent : {A : Type 0} → Option A → Bool
is_absent None = true
is_absent _ = false

-- whether an operation is the one of `IO` with the name
abbrev pub is_printing : Name → OperationTree → Bool
is_printing name o =
    is_public_static o.access
    && (is_same_name o.name name
    && (is_nowhere o.name_place
    && (is_one_token o.parameters
    && (is_absent o.result_type
    && (is_one_any o.patterns && (is_skip o.body && (is_absent o.pre && (is_absent o.post && is_nowhere o.place))))))))

abbrev pub are_printing : List BlockTree → Bool
are_printing (operations (first ∷ second ∷ []) place ∷ []) = is_printing print first && (is_printing println second && is_nowhere place)
are_printing _ = false

abbrev pub are_no_classes : List NameAt → Bool
are_no_classes [] = true
are_no_classes _ = false

-- whether a class is `IO`
abbrev pub is_io : ClassTree → Bool
is_io class =
    is_same_name class.name io
    && (is_nowhere class.name_place && (are_no_classes class.superclasses && (are_printing class.blocks && is_nowhere class.place)))

-- whether the first class is
abbrev pub begins_with_io : List ClassTree → Bool
begins_with_io [] = false
begins_with_io (class ∷ classes) = is_io class
