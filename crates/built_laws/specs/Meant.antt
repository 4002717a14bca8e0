-- Expressions with a meaning: each node of them has a plan of its own.
use Rattle.std.specs.Prelude.{◌≡◌, ℕ, zero, suc, Bool, true, false, List, [], ◌∷◌}
use Rattle.abstract_syntax.specs.Expressions.{ExprTree, literal, named, qualified, old_value, self_object, current_time, undefined, result_value, bracketed, prefixed, joined, set_enumeration, set_range, set_comprehension, empty_map, map_enumeration, map_comprehension, sequence_enumeration, sequence_comprehension, make_tuple, make_token, make_record, modify_record, is_of_type, is_of_named, is_of_basic, is_of_class, is_of_base_class, same_class, same_base_class, create, apply, subsequence, select, select_of_class, select_part, let_in, let_be, def_in, if_else, cases_of, for_all, exists_some, exists_one, iota_of}
use Rattle.built_laws.specs.Parts.{parts}

-- what does something: any other node is undefined at its place
abbrev pub has_plan : ExprTree → Bool
has_plan (literal value place) = true
has_plan (named name place) = true
has_plan (qualified class name name_place place) = true
has_plan (old_value name place) = true
has_plan (self_object place) = true
has_plan (current_time place) = true
has_plan (undefined place) = true
has_plan (result_value place) = true
has_plan (bracketed inner place) = true
has_plan (prefixed sign operand place) = true
has_plan (joined left sign right place) = true
has_plan (set_enumeration elements place) = true
has_plan (set_range first last place) = true
has_plan (set_comprehension element binds condition place) = true
has_plan (empty_map place) = true
has_plan (map_enumeration pairs place) = true
has_plan (map_comprehension key value binds condition place) = true
has_plan (sequence_enumeration items place) = true
has_plan (sequence_comprehension item pattern set condition place) = true
has_plan (make_tuple elements place) = true
has_plan (make_token inner place) = true
has_plan (make_record type_name fields place) = true
has_plan (modify_record target fields place) = true
has_plan (is_of_type tested declared place) = true
has_plan (is_of_named type_name tested place) = true
has_plan (is_of_basic basic tested place) = true
has_plan (is_of_class class class_place tested place) = true
has_plan (is_of_base_class class class_place tested place) = true
has_plan (same_class left right place) = true
has_plan (same_base_class left right place) = true
has_plan (create class class_place arguments place) = true
has_plan (apply head arguments place) = true
has_plan (subsequence target first last place) = true
has_plan (select target name name_place place) = true
has_plan (select_of_class target class class_place name name_place place) = true
has_plan (select_part target number place) = true
has_plan (let_in definitions body place) = true
has_plan (let_be bind condition body place) = true
has_plan (def_in pattern value body place) = true
has_plan (if_else condition value elseifs otherwise place) = true
has_plan (cases_of subject cases others place) = true
has_plan (for_all binds condition place) = true
has_plan (exists_some binds condition place) = true
has_plan (exists_one bind condition place) = true
has_plan (iota_of bind condition place) = true
has_plan _ = false

-- each has the property
abbrev pub Each : {A : Type 0} → (A → Type 0) → List A → Type 0
Each P [] = Unit {0}
Each P (x ∷ xs) = P x × Each P xs

-- each node has a meaning that stands fewer levels deep than this
abbrev pub IsMeant : ℕ → ExprTree → Type 0
IsMeant zero tree = Unit {0}
IsMeant (suc levels) tree = (has_plan tree ≡ true) × Each (IsMeant levels) (parts tree)

-- whether it makes an object
abbrev pub creates : ExprTree → Bool
creates (create class class_place arguments place) = true
creates _ = false

-- no node makes an object that stands fewer levels deep than this
abbrev pub MakesNothing : ℕ → ExprTree → Type 0
MakesNothing zero tree = Unit {0}
MakesNothing (suc levels) tree = (creates tree ≡ false) × Each (MakesNothing levels) (parts tree)
