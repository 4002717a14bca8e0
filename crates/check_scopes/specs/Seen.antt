-- Types that are seen have the ranks of those that are found.
use Rattle.std.proofs.Common.{◌≡◌, ◌<◌, Bool, true, false, List, [], ◌∷◌, ◌++◌, Option, Some, None, refl, cond, eqb-true}
use Rattle.std.specs.List.{AllByRecursion as Each, list_all, flat_map}
use Rattle.vdm_kinds.specs.declared.name.Name.{Name}
use Rattle.vdm_kinds.specs.declared.name_at.TypeName.{TypeName}
use Rattle.abstract_syntax.specs.Classes.{TypeDefTree, BlockTree, ClassTree, SpecTree, is_same_name}
use Rattle.class_meaning.proofs.Numbers.{and_left, and_right}
use Rattle.class_meaning.proofs.Ranked.{ranked}
use Rattle.class_meaning.specs.Classes.{io_class, class_number}
use Rattle.class_meaning.specs.Faults.{table_fault}
use Rattle.class_meaning.specs.Laws.{HasOwnTypes, type_rank}
use Rattle.class_meaning.specs.TypeGraph.{types_in, class_types}
use Rattle.class_meaning.specs.Found.{type_named}
use Rattle.expr_tree.specs.Alternatives.{Finder, IsRanked, body_alternatives}
use Rattle.class_checks.specs.TypeNames.{sees, seen_from, seen_type, stand_in, has_its_types, types_stand}

pub from_seen : (spec : SpecTree) (scope : Name) (found : Option TypeDefTree) (d : TypeDefTree) → seen_from spec scope found ≡ Some d → found ≡ Some d
from_seen spec scope None d e = absurd (cc)
from_seen spec scope (Some f) d e = by (sees spec (class_number spec scope) (class_number spec f.class) f) e
  where
    by : (b : Bool) → cond b (Some f) None ≡ Some d → Some f ≡ Some d
    by true e = e
    by false e = absurd (cc)

-- ---- where each type says in which class it stands

pub names_equal : (a b : Name) → is_same_name a b ≡ true → a ≡ b
names_equal a b e = let numbers : a.0 ≡ b.0 = eqb-true a.0 b.0 e in λ i. record { 0 = numbers i }

in_block : (class : Name) (ts : List TypeDefTree) → list_all (λ (t : TypeDefTree). is_same_name t.class class) ts ≡ true
    → Each (λ (t : TypeDefTree). t.class ≡ class) ts
in_block class [] e = tt
in_block class (t ∷ ts) e = (names_equal t.class class (and_left _ _ e), in_block class ts (and_right _ _ e))

both_lists : {A : Type 0} (P : A → Type 0) (xs ys : List A) → Each P xs → Each P ys → Each P (xs ++ ys)
both_lists P [] ys all others = others
both_lists P (x ∷ xs) ys all others = (all.0, both_lists P xs ys all.1 others)

in_blocks : (class : Name) (bs : List BlockTree) → list_all (stand_in class) bs ≡ true → Each (λ (t : TypeDefTree). t.class ≡ class) (flat_map types_in bs)
in_blocks class [] e = tt
in_blocks class (b ∷ bs) e = both_lists (λ (t : TypeDefTree). t.class ≡ class) (types_in b) (flat_map types_in bs)
    (in_block class (types_in b) (and_left _ _ e)) (in_blocks class bs (and_right _ _ e))

in_classes : (cs : List ClassTree) → list_all has_its_types cs ≡ true
    → Each (λ (class : ClassTree). Each (λ (t : TypeDefTree). t.class ≡ class.name) (class_types class)) cs
in_classes [] e = tt
in_classes (c ∷ cs) e = (in_blocks c.name c.blocks (and_left _ _ e), in_classes cs (and_right _ _ e))

own_types : (spec : SpecTree) → types_stand spec ≡ true → HasOwnTypes spec
own_types spec e = in_classes spec.classes (and_right (has_its_types io_class) (list_all has_its_types spec.classes) e)

-- ---- finding

-- what is seen of what a table finds
pub seen_of_found : (stand : Bool) (spec : SpecTree) (scope : Name) (found : Option TypeDefTree)
    → seen_from spec scope (cond stand found None) ≡ cond stand (seen_from spec scope found) None
seen_of_found true spec scope found = refl
seen_of_found false spec scope found = refl

-- ---- ranks

each : (P Q : TypeName → Type 0) → ((t : TypeName) → P t → Q t) → (ts : List TypeName) → Each P ts → Each Q ts
each P Q f [] all = tt
each P Q f (t ∷ ts) all = (f t all.0, each P Q f ts all.1)

none_is_some : {A B : Type 0} {a : A} → None ≡ Some a → B
none_is_some e = absurd (cc)

-- by whether types stand
abbrev chosen : SpecTree → Bool → Finder
chosen spec stand scope class name = cond stand (seen_from spec scope (type_named spec scope class name)) None

abbrev Falls : SpecTree → Bool → TypeDefTree → TypeName → Type 0
Falls spec stand found t = (next : TypeDefTree) → chosen spec stand found.class t.class t.name ≡ Some next → type_rank spec next < type_rank spec found

by_stand : (spec : SpecTree) → table_fault spec ≡ None → (stand : Bool) → types_stand spec ≡ stand → IsRanked (chosen spec stand) (type_rank spec)
by_stand spec fine false e scope class name found f = none_is_some f
by_stand spec fine true e scope class name found f = each
    (λ (t : TypeName). (next : TypeDefTree) → type_named spec found.class t.class t.name ≡ Some next → type_rank spec next < type_rank spec found)
    (Falls spec true found)
    (λ (t : TypeName) (falls : (next : TypeDefTree) → type_named spec found.class t.class t.name ≡ Some next → type_rank spec next < type_rank spec found)
    (next : TypeDefTree) (at : seen_from spec found.class (type_named spec found.class t.class t.name) ≡ Some next).
    falls next (from_seen spec found.class (type_named spec found.class t.class t.name) next at))
    (body_alternatives found.body)
    (ranked spec fine (own_types spec e) scope class name found (from_seen spec scope (type_named spec scope class name) found f))

pub ranked_seen : (spec : SpecTree) → table_fault spec ≡ None → IsRanked (seen_type spec) (type_rank spec)
ranked_seen spec fine = by_stand spec fine (types_stand spec) refl
