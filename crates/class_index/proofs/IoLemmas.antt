-- What passes the tests of `IO` is `IO`.
use Rattle.std.proofs.Common.{◌≡◌, ℕ, Bool, true, false, ◌&&◌, nat_eq, List, [], ◌∷◌, Option, None, Some, drop, refl, ap, arith}
use Rattle.std.proofs.lemmas.Bool.Decides.{nat_tests}
use Rattle.vdm_kinds.specs.declared.access.Access.{Access}
use Rattle.vdm_kinds.specs.declared.access.Level.{Level}
use Rattle.vdm_kinds.specs.declared.access.Level.TheVariants.{Public}
use Rattle.vdm_kinds.specs.declared.basic_type.BasicType.TheVariants.{Token}
use Rattle.vdm_kinds.specs.declared.name.Name.{Name}
use Rattle.vdm_kinds.specs.declared.name_at.NameAt.{NameAt}
use Rattle.vdm_kinds.specs.declared.part.Part.{Part}
use Rattle.vdm_kinds.specs.declared.part.Part.TheVariants.{Spec}
use Rattle.vdm_kinds.specs.declared.place.Place.{Place}
use Rattle.vdm_kinds.specs.NameList.{io}
use Rattle.abstract_syntax.specs.Types.{TypeTree, basic_type}
use Rattle.abstract_syntax.specs.Expressions.{PatternTree, any_value}
use Rattle.abstract_syntax.specs.Statements.{StmtTree, skips}
use Rattle.abstract_syntax.specs.Classes.{Body, written, OperationTree, BlockTree, operations, ClassTree, is_same_name}
use Rattle.class_meaning.specs.Classes.{nowhere, print, println, printing, io_class}
use Rattle.class_index.specs.Io.{is_of_spec, is_nowhere, is_public, is_public_static, is_one_token, is_one_any, is_skip, is_absent, is_printing, are_printing, are_no_classes, is_io, begins_with_io}

both : (a b : Bool) → (a && b) ≡ true → (a ≡ true) × (b ≡ true)
both true true h = (refl, refl)
both true false h = absurd (cc h)
both false b h = absurd (cc h)

same_number : (m n : ℕ) → nat_eq m n ≡ true → m ≡ n
same_number m n h = grind (arith, nat_tests)

same_name : (a b : Name) → is_same_name a b ≡ true → a ≡ b
same_name a b h = λ i. record { 0 = same_number a.0 b.0 h i }

of_spec : (part : Part) → is_of_spec part ≡ true → part ≡ Spec
of_spec Spec h = refl
of_spec _ h = absurd (cc h)

at_nowhere : (place : Place) → is_nowhere place ≡ true → place ≡ nowhere
at_nowhere place h =
    let parts = both (is_of_spec place.part) (nat_eq place.line 1 && nat_eq place.column 1) h in
    let numbers = both (nat_eq place.line 1) (nat_eq place.column 1) parts.1 in
    λ i. record {
      part = of_spec place.part parts.0 i;
      line = same_number place.line 1 numbers.0 i;
      column = same_number place.column 1 numbers.1 i;
    }

for_all : (level : Level) → is_public level ≡ true → level ≡ Public
for_all Public h = refl
for_all _ h = absurd (cc h)

public_static : (access : Access) → is_public_static access ≡ true → access ≡ record { is_static = true; level = Public }
public_static access h =
    let parts = both access.is_static (is_public access.level) h in
    λ i. record { is_static = parts.0 i; level = for_all access.level parts.1 i }

one_token : (parameters : List TypeTree) → is_one_token parameters ≡ true → parameters ≡ basic_type Token nowhere ∷ []
one_token (basic_type Token place ∷ []) h = ap (λ (p : Place). basic_type Token p ∷ []) (at_nowhere place h)
one_token _ h = absurd (cc h)

one_any : (patterns : List PatternTree) → is_one_any patterns ≡ true → patterns ≡ any_value nowhere ∷ []
one_any (any_value place ∷ []) h = ap (λ (p : Place). any_value p ∷ []) (at_nowhere place h)
one_any _ h = absurd (cc h)

skip : (body : Body StmtTree) → is_skip body ≡ true → body ≡ written (skips nowhere)
skip (written (skips place)) h = ap (λ (p : Place). written (skips p)) (at_nowhere place h)
skip _ h = absurd (cc h)

absent : {A : Type 0} (o : Option A) → is_absent o ≡ true → o ≡ None
absent None h = refl
absent (Some a) h = absurd (cc h)

printing_is : (name : Name) (o : OperationTree) → is_printing name o ≡ true → o ≡ printing name
printing_is name o h =
    let a = both (is_public_static o.access) _ h in
    let b = both (is_same_name o.name name) _ a.1 in
    let c = both (is_nowhere o.name_place) _ b.1 in
    let d = both (is_one_token o.parameters) _ c.1 in
    let e = both (is_absent o.result_type) _ d.1 in
    let f = both (is_one_any o.patterns) _ e.1 in
    let g = both (is_skip o.body) _ f.1 in
    let p = both (is_absent o.pre) _ g.1 in
    let q = both (is_absent o.post) (is_nowhere o.place) p.1 in
    λ i. record {
      access = public_static o.access a.0 i;
      name = same_name o.name name b.0 i;
      name_place = at_nowhere o.name_place c.0 i;
      parameters = one_token o.parameters d.0 i;
      result_type = absent o.result_type e.0 i;
      patterns = one_any o.patterns f.0 i;
      body = skip o.body g.0 i;
      pre = absent o.pre p.0 i;
      post = absent o.post q.0 i;
      place = at_nowhere o.place q.1 i;
    }

printings : (blocks : List BlockTree) → are_printing blocks ≡ true → blocks ≡ operations (printing print ∷ printing println ∷ []) nowhere ∷ []
printings (operations (first ∷ second ∷ []) place ∷ []) h =
    let a = both (is_printing print first) _ h in
    let b = both (is_printing println second) (is_nowhere place) a.1 in
    λ i. operations (printing_is print first a.0 i ∷ printing_is println second b.0 i ∷ []) (at_nowhere place b.1 i) ∷ []
printings _ h = absurd (cc h)

no_classes : (names : List NameAt) → are_no_classes names ≡ true → names ≡ []
no_classes [] h = refl
no_classes (n ∷ ns) h = absurd (cc h)

io_is : (class : ClassTree) → is_io class ≡ true → class ≡ io_class
io_is class h =
    let a = both (is_same_name class.name io) _ h in
    let b = both (is_nowhere class.name_place) _ a.1 in
    let c = both (are_no_classes class.superclasses) _ b.1 in
    let d = both (are_printing class.blocks) (is_nowhere class.place) c.1 in
    λ i. record {
      name = same_name class.name io a.0 i;
      name_place = at_nowhere class.name_place b.0 i;
      superclasses = no_classes class.superclasses c.0 i;
      blocks = printings class.blocks d.0 i;
      place = at_nowhere class.place d.1 i;
    }

-- a list that begins with `IO` is `IO` and the others
pub begins_so : (classes : List ClassTree) → begins_with_io classes ≡ true → classes ≡ io_class ∷ drop 1 classes
begins_so [] h = absurd (cc h)
begins_so (class ∷ classes) h = ap (λ (c : ClassTree). c ∷ classes) (io_is class h)
