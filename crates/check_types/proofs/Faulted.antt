-- What is refused of names, step by step.
use Rattle.std.proofs.Common.{◌≡◌, ℕ, Bool, true, false, List, [], ◌∷◌, Option, None, not, ap, sym, ◌∙◌}
use Rattle.vdm_kinds.specs.declared.name.Name.{Name}
use Rattle.vdm_kinds.specs.declared.name_at.TypeName.{TypeName}
use Rattle.vdm_kinds.specs.declared.place.Place.{Place}
use Rattle.vdm_kinds.specs.declared.spec_fault.SpecFault.{SpecFault}
use Rattle.abstract_syntax.specs.Classes.{SpecTree}
use Rattle.vdm_kinds.specs.declared.access.Level.{Level}
use Rattle.vdm_kinds.specs.declared.spec_kind.SpecKind.{SpecKind}
use Rattle.class_meaning.specs.Calls.{is_visible}
use Rattle.class_meaning.specs.Classes.{class_number}
use Rattle.class_checks.specs.Results.{refused_if}
use Rattle.class_checks.specs.TypeNames.{in_class_faults, is_class, name_faults, name_faults_behind, or_else_faults}
use Rattle.check_types.specs.Refusing.{Refused, refused_as, refused_by}

-- a name alone is looked up where types are
pub name_alone : (spec : SpecTree) (scope class : Name) (t : TypeName) (place : Place) (first : Option SpecFault) (or_class : Bool) (later : Refused)
    → t.class ≡ None → or_class ≡ is_class spec t.name → class ≡ scope
    → refused_by first (in_class_faults spec (class_number spec scope) t place or_class (class_number spec class)) ≡ later
    → refused_by first (name_faults spec scope t place) ≡ later
name_alone spec scope class t place first or_class later alone known same told =
    ap (λ (c : Option Name). refused_by first (name_faults_behind spec scope t place c)) alone
    ∙ ap (λ (b : Bool). refused_by first (in_class_faults spec (class_number spec scope) t place b (class_number spec scope))) (sym known)
    ∙ ap (λ (n : Name). refused_by first (in_class_faults spec (class_number spec scope) t place or_class (class_number spec n))) (sym same)
    ∙ told

-- a type is seen from the class where types are looked up
pub as_seen : (spec : SpecTree) (class scope : Name) (owner : ℕ) (level : Level) (kind : SpecKind) (place : Place) (first : Option SpecFault) (seen : Bool)
    (later : Refused) → class ≡ scope → seen ≡ is_visible spec (class_number spec class) owner level
    → refused_by first (refused_if (not seen) kind place) ≡ later
    → refused_by first (refused_if (not (is_visible spec (class_number spec scope) owner level)) kind place) ≡ later
as_seen spec class scope owner level kind place first seen later same is told =
    ap (λ (n : Name). refused_by first (refused_if (not (is_visible spec (class_number spec n) owner level)) kind place)) (sym same)
    ∙ ap (λ (b : Bool). refused_by first (refused_if (not b) kind place)) (sym is)
    ∙ told

-- what is refused stays, and nothing else is asked
pub stays_refused : (first now : Option SpecFault) (names rest more : List SpecFault) (r : Bool) → r ≡ true
    → refused_by first names ≡ refused_as now r
    → refused_by first (or_else_faults (or_else_faults names rest) more) ≡ refused_as now true
stays_refused first now [] rest more r is told =
    let none : false ≡ r = ap (λ (x : Refused). x.some) told in
    absurd (cc)
stays_refused first now (fault ∷ faults) rest more r is told = told ∙ ap (refused_as now) is

-- where nothing is refused, the rest decides
pub goes_on : (first now : Option SpecFault) (names rest more : List SpecFault) (r : Bool) (later : Refused) → r ≡ false
    → refused_by first names ≡ refused_as now r
    → refused_by now (or_else_faults rest more) ≡ later
    → refused_by first (or_else_faults (or_else_faults names rest) more) ≡ later
goes_on first now [] rest more r later is told next =
    ap (λ (f : Option SpecFault). refused_by f (or_else_faults rest more)) (ap (λ (x : Refused). x.first) told) ∙ next
goes_on first now (fault ∷ faults) rest more r later is told next =
    let some : true ≡ r = ap (λ (x : Refused). x.some) told in
    absurd (cc)
