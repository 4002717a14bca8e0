-- Where variables and operations stand is there: what is static stands on class objects, and is named only once all of these are made.
use Rattle.std.proofs.Common.{◌≡◌, ◌<◌, ◌∷◌, [], Bool, false, if◌then◌else◌, length, List, None, Option, Some, refl, subst, sym, true, ℕ}
use Rattle.std.specs.List.{AllByRecursion as Each}
use Rattle.std.proofs.lemmas.List.{length-map}
use Rattle.std.proofs.lemmas.List.Quantifiers.{position-Some}
use Rattle.vdm_kinds.specs.declared.member.OpRef.{OpRef}
use Rattle.vdm_kinds.specs.declared.member.VarRef.{VarRef}
use Rattle.vdm_kinds.specs.declared.name.Name.{Name}
use Rattle.abstract_syntax.specs.Classes.{ClassTree, SpecTree, is_same_name}
use Rattle.class_meaning.specs.Classes.{class_number, classes, io_class}
use Rattle.run_journal.specs.declared.entry.Entry.{Entry}
use Rattle.vdm_legal.specs.ClassObjects.{AreMade, classes_of}
use Rattle.node_meaning.specs.Envs.{Here, may_act}
use Rattle.node_meaning.specs.Names.{found_home, home, home_for, is_static_operation, is_static_variable, operation_definition, operation_here, variable_definition, variable_here, variable_home, variable_in}
use Rattle.stmt_meaning.specs.Olds.{Old, olds_of, with_found, with_old}
use Rattle.vdm_meaning.proofs.Rules.{HasObject, IsOn}

-- a class that is found has a class object
number-below : (spec : SpecTree) (class : Name) (k : ℕ) → class_number spec class ≡ Some k → k < length (classes_of spec)
number-below spec class k e =
    let found = position-Some (λ (other : ClassTree). is_same_name class other.name) (classes spec) k io_class e in
    subst (λ n. k < n) (sym (length-map (classes spec) (λ (other : ClassTree). other.name))) found.0

module _ (spec : SpecTree) (now : List Entry) where
  number-there : AreMade spec now → (class : Name) (found : Option ℕ) → class_number spec class ≡ found → HasObject spec now found
  number-there made class None e = tt
  number-there made class (Some k) e = (made k (number-below spec class k e), made)

  home-there : AreMade spec now → (class : Name) (is_static : Bool) (object : Option ℕ) → HasObject spec now object → HasObject spec now (home spec class is_static object)
  home-there made class true object there = number-there made class (class_number spec class) refl
  home-there made class false object there = there

  pub variable_home-there : AreMade spec now → (var : VarRef) (object : Option ℕ) → HasObject spec now object → HasObject spec now (variable_home spec var object)
  variable_home-there made var object there = home-there made var.class (is_static_variable (variable_definition spec var)) object there

  pub found_home-there : AreMade spec now → (op : Option OpRef) (object : Option ℕ) → HasObject spec now object → HasObject spec now (found_home spec op object)
  found_home-there made None object there = tt
  found_home-there made (Some op) object there = home-there made op.class (is_static_operation (operation_definition spec op)) object there

  -- a node that may not act names nothing
  home_for-there : (here : Here) (number : Option ℕ) → (may_act here ≡ true → HasObject spec now number) → HasObject spec now (home_for here number)
  home_for-there here number there = by (may_act here) refl
    where
      by : (b : Bool) → may_act here ≡ b → HasObject spec now (if b then number else None)
      by true e = there e
      by false e = tt

  module _ (here : Here) (classes_there : may_act here ≡ true → AreMade spec now) (there : HasObject spec now here.me) where
    pub variable_here-there : (var : VarRef) → HasObject spec now (variable_here spec here var)
    variable_here-there var = home_for-there here (variable_home spec var here.me) (λ acts. variable_home-there (classes_there acts) var here.me there)

    pub operation_here-there : (op : Option OpRef) → HasObject spec now (operation_here spec here op)
    operation_here-there op = home_for-there here (found_home spec op here.me) (λ acts. found_home-there (classes_there acts) op here.me there)

  -- ---- variables that are read before a body

  abbrev pub AreOldsThere : List Old → Type 0
  AreOldsThere = Each (λ (old : Old). IsOn spec now old.object)

  old-there : (name : Name) (var : VarRef) (object : Option ℕ) (olds : List Old) → HasObject spec now object → AreOldsThere olds → AreOldsThere (with_old name var object olds)
  old-there name var None olds there rest = rest
  old-there name var (Some object) olds there rest = (there, rest)

  found-there : (me : ℕ) (name : Name) (found : Option VarRef) (olds : List Old) → IsOn spec now me → AreOldsThere olds → AreOldsThere (with_found spec me name found olds)
  found-there me name None olds there rest = rest
  found-there me name (Some var) olds there rest =
      old-there name var (variable_home spec var (Some me)) olds (variable_home-there there.1 var (Some me) there) rest

  pub olds-there : (me : ℕ) (class : Name) (names : List Name) → IsOn spec now me → AreOldsThere (olds_of spec me class names)
  olds-there me class [] there = tt
  olds-there me class (name ∷ names) there =
      found-there me name (variable_in spec (Some class) name) (olds_of spec me class names) there (olds-there me class names there)
