-- A name of the class `IO` has no value.
use Rattle.std.specs.List.{position, position_or_len}
use Rattle.std.specs.Option.{option_and_then}
use Rattle.std.proofs.Common.{◌≡◌, ℕ, suc, ◌+◌, nat_lt, Bool, true, false, not, cond, if◌then◌else◌, List, ◌∷◌, length, Option, Some, None, refl, ap, ◌∙◌, arith}
use Rattle.std.proofs.lemmas.Bool.Decides.{nat_tests}
use Rattle.vdm_kinds.specs.NameList.{io}
use Rattle.vdm_kinds.specs.declared.member.VarRef.{VarRef}
use Rattle.vdm_kinds.specs.declared.name.Name.{Name}
use Rattle.vdm_kinds.specs.declared.place.Place.{Place}
use Rattle.vdm_kinds.specs.declared.run_fault.RunFault.TheVariants.{Undefined}
use Rattle.abstract_syntax.specs.Classes.{ClassTree, SpecTree, is_same_name}
use Rattle.graph_cycles.specs.Graphs.{leads_to_no_cycle}
use Rattle.class_meaning.specs.Classes.{io_class, class_number, class_graph}
use Rattle.class_meaning.specs.Found.{found, variable_found, found_value, found_variable}
use Rattle.class_meaning.specs.declared.ask.Ask.TheVariants.{ByName}
use Rattle.class_meaning.specs.declared.ask.MemberKind.{MemberKind}
use Rattle.class_meaning.specs.declared.ask.MemberKind.TheVariants.{Value, Variable}
use Rattle.class_meaning.specs.declared.found.Found.{Found}
use Rattle.class_meaning.specs.declared.found.Found.TheVariants.{Nothing}
use Rattle.node_meaning.specs.Envs.{Locals, Here}
use Rattle.node_meaning.specs.Expressions.{read_found, member_value, value_named}
use Rattle.node_meaning.specs.Names.{one_variable, value_in, variable_in}
use Rattle.node_meaning.specs.Needs.{Setting}
use Rattle.node_meaning.specs.Tasks.{fault}

-- ---- nothing is found in the first class, which has two operations

either_way : {A : Type 0} (b : Bool) (a : A) → (if b then a else a) ≡ a
either_way true a = refl
either_way false a = refl

nothing_in_io : (spec : SpecTree) (name : Name) → found spec (ByName name) 0 ≡ Nothing
nothing_in_io spec name = either_way (leads_to_no_cycle (class_graph spec) 0) Nothing

some_within : (n : ℕ) → nat_lt 0 (suc n) ≡ true
some_within n = grind (arith, nat_tests)

first_position : {A : Type 0} (p : A → Bool) (x : A) (xs : List A) → p x ≡ true → position p (x ∷ xs) ≡ Some 0
first_position p x xs h =
    ap (λ (b : Bool). let n = cond (not b) (1 + position_or_len p xs) 0 in cond (nat_lt n (length (x ∷ xs))) (Some n) None) h
    ∙ ap (λ (b : Bool). cond b (Some 0) None) (some_within (length xs))

io_number : (spec : SpecTree) (class : Name) → is_same_name class io ≡ true → class_number spec class ≡ Some 0
io_number spec class h = first_position (λ (c : ClassTree). is_same_name class c.name) io_class spec.classes h

one_of_kind : (spec : SpecTree) (name : Name) (kind : MemberKind) → one_variable (variable_found spec name kind (found spec (ByName name) 0)) ≡ None
one_of_kind spec name kind = ap (λ (f : Found). one_variable (variable_found spec name kind f)) (nothing_in_io spec name)

no_value : (spec : SpecTree) (class name : Name) → is_same_name class io ≡ true → value_in spec (Some class) name ≡ None
no_value spec class name h =
    ap (option_and_then (λ (k : ℕ). one_variable (found_value spec k name))) (io_number spec class h) ∙ one_of_kind spec name Value

pub no_variable : (spec : SpecTree) (class name : Name) → is_same_name class io ≡ true → variable_in spec (Some class) name ≡ None
no_variable spec class name h =
    ap (option_and_then (λ (k : ℕ). one_variable (found_variable spec k name))) (io_number spec class h) ∙ one_of_kind spec name Variable

-- ---- what is named is undefined

pub io_undefined : (setting : Setting) (here : Here) (locals : Locals) (class name : Name) (place : Place) → is_same_name class io ≡ true
    → value_named setting here place (Some class) name locals ≡ fault Undefined place
io_undefined setting here locals class name place h =
    ap (λ (v : Option VarRef). member_value setting here place (Some class) name v locals) (no_value setting.spec class name h)
    ∙ ap (λ (v : Option VarRef). read_found setting here place v locals) (no_variable setting.spec class name h)
