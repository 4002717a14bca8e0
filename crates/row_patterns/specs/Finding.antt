-- Which type a name stands for, among those that a request declares.
use Rattle.std.proofs.Common.{◌≡◌, ◌<◌, ℕ, Bool, true, false, ◌&&◌, nat_eq, nat_lt, List, [], ◌∷◌, Option, Some, None, unwrap_or, refl, ap, subst, arith}
use Rattle.std.proofs.lemmas.Bool.Decides.{nat_tests}
use Rattle.std.specs.List.{AllByRecursion as Each}
use Rattle.vdm_kinds.specs.declared.name.Name.{Name}
use Rattle.vdm_kinds.specs.declared.name_at.TypeName.{TypeName}
use Rattle.abstract_syntax.specs.Types.{TypeTree, named_type, bracketed_type}
use Rattle.abstract_syntax.specs.Classes.{TypeBody, same_as, with_fields, TypeDefTree}
use Rattle.expr_tree.specs.Alternatives.{Finder, IsRanked, alternatives, body_alternatives}

-- a type of this class and this name
abbrev pub is_named : TypeDefTree → Name → Name → Bool
is_named d class name = nat_eq d.class.0 class.0 && nat_eq d.name.0 name.0

abbrev pub this_or : Bool → TypeDefTree → Option TypeDefTree → Option TypeDefTree
this_or true d other = Some d
this_or false d other = other

abbrev pub first_named : List TypeDefTree → Name → Name → Option TypeDefTree
first_named [] class name = None
first_named (d ∷ ds) class name = this_or (is_named d class name) d (first_named ds class name)

-- behind a backquote of that class, else of the one in which the name is written
abbrev pub looked_up : List TypeDefTree → Finder
looked_up ds scope class name = first_named ds (unwrap_or class scope) name

abbrev pub name_alone : TypeTree → Option TypeName
name_alone (named_type n place) = Some n
name_alone _ = None

-- the name that a type is, perhaps in one pair of brackets
abbrev pub name_of : TypeTree → Option TypeName
name_of (named_type n place) = Some n
name_of (bracketed_type inner place) = name_alone inner
name_of _ = None

-- each type is declared on a line of its own, behind those before it
abbrev pub line_of : TypeDefTree → ℕ
line_of d = d.place.line

abbrev pub is_above : Option TypeDefTree → ℕ → Bool
is_above None line = true
is_above (Some d) line = nat_lt (line_of d) line

abbrev pub names_above : List TypeDefTree → TypeDefTree → Option TypeName → Bool
names_above ds d None = false
names_above ds d (Some n) = is_above (looked_up ds d.class n.class n.name) (line_of d)

-- a type with fields of its own, or the name of one that is declared above it
abbrev pub is_known : List TypeDefTree → TypeDefTree → TypeBody → Bool
is_known ds d (with_fields fields) = true
is_known ds d (same_as t) = names_above ds d (name_of t)

abbrev pub kept : Bool → TypeDefTree → Option TypeDefTree
kept true d = Some d
kept false d = None

abbrev pub if_known : List TypeDefTree → Option TypeDefTree → Option TypeDefTree
if_known ds None = None
if_known ds (Some d) = kept (is_known ds d d.body) d

abbrev pub finds : List TypeDefTree → Finder
finds ds scope class name = if_known ds (looked_up ds scope class name)

-- ---- so none is its own alternative

abbrev IsBefore : Finder → TypeDefTree → TypeName → Type 0
IsBefore find found other = (next : TypeDefTree) → find found.class other.class other.name ≡ Some next → line_of next < line_of found

some_type : {A : Type 0} {x y : A} → Some x ≡ Some y → x ≡ y
some_type {x = x} e = ap (λ o. unwrap_or o x) e

kept_is : (b : Bool) (x d : TypeDefTree) → kept b x ≡ Some d → (b ≡ true) × (x ≡ d)
kept_is true x d e = (refl, some_type e)
kept_is false x d e = absurd cc

known_is : (ds : List TypeDefTree) (o : Option TypeDefTree) (d : TypeDefTree) → if_known ds o ≡ Some d →
    (o ≡ Some d) × (is_known ds d d.body ≡ true)
known_is ds None d e = absurd cc
known_is ds (Some x) d e =
    let h : (is_known ds x x.body ≡ true) × (x ≡ d) = kept_is (is_known ds x x.body) x d e in
    (ap Some h.1, subst (λ y. is_known ds y y.body ≡ true) h.1 h.0)

below_it : (m n : ℕ) → nat_lt m n ≡ true → m < n
below_it m n h = grind (arith, nat_tests)

stands_above : (o : Option TypeDefTree) (line : ℕ) (next : TypeDefTree) → o ≡ Some next → is_above o line ≡ true → line_of next < line
stands_above None line next e h = absurd cc
stands_above (Some d) line next e h = subst (λ x. line_of x < line) (some_type e) (below_it (line_of d) line h)

name_is_before : (ds : List TypeDefTree) (d : TypeDefTree) (n : TypeName) → names_above ds d (Some n) ≡ true → IsBefore (finds ds) d n
name_is_before ds d n h next e =
    stands_above (looked_up ds d.class n.class n.name) (line_of d) next (known_is ds (looked_up ds d.class n.class n.name) next e).0 h

alone_is_before : (ds : List TypeDefTree) (d : TypeDefTree) (t : TypeTree) → names_above ds d (name_alone t) ≡ true →
    Each (IsBefore (finds ds) d) (alternatives t)
alone_is_before ds d (named_type n place) h = (name_is_before ds d n h, tt)
alone_is_before ds d _ h = absurd cc

each_is_before : (ds : List TypeDefTree) (d : TypeDefTree) (t : TypeTree) → names_above ds d (name_of t) ≡ true →
    Each (IsBefore (finds ds) d) (alternatives t)
each_is_before ds d (named_type n place) h = (name_is_before ds d n h, tt)
each_is_before ds d (bracketed_type inner place) h = alone_is_before ds d inner h
each_is_before ds d _ h = absurd cc

body_is_before : (ds : List TypeDefTree) (d : TypeDefTree) (body : TypeBody) → is_known ds d body ≡ true →
    Each (IsBefore (finds ds) d) (body_alternatives body)
body_is_before ds d (with_fields fields) h = tt
body_is_before ds d (same_as t) h = each_is_before ds d t h

pub finds-ranked : (ds : List TypeDefTree) → IsRanked (finds ds) line_of
finds-ranked ds scope class name d e = body_is_before ds d d.body (known_is ds (looked_up ds scope class name) d e).1
