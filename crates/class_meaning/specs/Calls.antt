-- Who may name a member, and which operation a call through an object reaches. ('Access modifiers' and 'Inheritance' of the VDM-10 Language
-- Manual (Overture).)
use Rattle.std.specs.Prelude.{ℕ, Bool, true, false, ◌&&◌, nat_eq, if◌then◌else◌, List, Option, Some, None, map, option_map, slice_get}
use Rattle.std.specs.List.{filter, list_any}
use Rattle.vdm_kinds.specs.declared.access.Level.{Level}
use Rattle.vdm_kinds.specs.declared.access.Level.TheVariants.{Private, Protected, Public}
use Rattle.vdm_kinds.specs.declared.name.Name.{Name}
use Rattle.vdm_kinds.specs.declared.member.OpRef.{OpRef}
use Rattle.abstract_syntax.specs.Classes.{SpecTree, is_same_name}
use Rattle.class_meaning.specs.Classes.{name_of_class}
use Rattle.class_meaning.specs.Ancestors.{ancestors, is_ancestor}
use Rattle.class_meaning.specs.Members.{Member, of_operation}
use Rattle.class_meaning.specs.Found.{own_in, has_own}
use Rattle.class_meaning.specs.declared.ask.Ask.TheVariants.{Called}
use Rattle.class_meaning.specs.declared.ask.MemberKind.TheVariants.{Operation}

-- ---- who may name a member

-- Private members are seen in their class, protected ones in each class that has it among its ancestors, public ones everywhere. The expression
-- of a run stands in no class.
abbrev pub is_visible : SpecTree → Option ℕ → ℕ → Level → Bool
is_visible spec from owner Public = true
is_visible spec None owner _ = false
is_visible spec (Some k) owner Private = nat_eq k owner
is_visible spec (Some k) owner Protected = is_ancestor spec k owner

-- ---- calls through an object

abbrev pub has_operation : SpecTree → Name → ℕ → ℕ → Bool
has_operation spec name n k = has_own spec (Called name n) Operation k

abbrev pub operation_of : SpecTree → Name → ℕ → ℕ → OpRef
operation_of spec name n k = record { class = name_of_class spec k; name = name; arity = n }

-- the operations of a name and number on the way of a call through an object: those of the ancestors of its own class
abbrev pub on_the_way : SpecTree → ℕ → Name → ℕ → List OpRef
on_the_way spec k name n = map (operation_of spec name n) (filter (has_operation spec name n) (ancestors spec k))

abbrev pub is_private_level : Level → Bool
is_private_level Private = true
is_private_level _ = false

abbrev pub is_private : Option Member → Bool
is_private (Some (of_operation o)) = is_private_level o.access.level
is_private _ = false

-- whether a class is an ancestor of the object's class, and itself has a private operation of the name and number
abbrev pub keeps_private : SpecTree → Name → ℕ → ℕ → Option ℕ → Bool
keeps_private spec name n k None = false
keeps_private spec name n k (Some from) = is_ancestor spec k from && is_private (own_in spec (Called name n) from)

-- The operation that a call through an object reaches, by the class of the object and the class in which the call stands: that class's own
-- one where it is private there, else the first on the way.
abbrev pub reached : SpecTree → Option ℕ → ℕ → Name → ℕ → Option OpRef
reached spec from k name n =
    if keeps_private spec name n k from then option_map (operation_of spec name n) from else slice_get (on_the_way spec k name n) 0

-- ---- operations of the host

abbrev pub is_same_operation : OpRef → OpRef → Bool
is_same_operation a b = is_same_name a.class b.class && (is_same_name a.name b.name && nat_eq a.arity b.arity)

-- whether an operation is among those for which the host has rows
abbrev pub is_hosted : List OpRef → OpRef → Bool
is_hosted rows operation = list_any (is_same_operation operation) rows
