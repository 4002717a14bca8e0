-- The code of main keeps the rules of journals, and where it is done the run is finished.
use Rattle.std.proofs.Common.{◌≡◌, ◌≢◌, ◌++◌, ◌∷◌, ◌∙◌, ◌<◌, ◌≤◌, ◌+◌, inl, inr, [], if◌then◌else◌, Bool, List, None, Option, Some, ap, append_assoc, arith, cond, false, length, length-append, map, nat_lt, not, refl, subst, sym, true, ℕ, suc}
use Rattle.std.specs.List.{AllByRecursion as Each, position, position_or_len}
use Rattle.std.specs.Prelude.{slice_get}
use Rattle.std.proofs.lemmas.Bool.{ne_eqb}
use Rattle.std.proofs.lemmas.Bool.Decides.{nat_tests}
use Rattle.std.proofs.lemmas.List.Elements.{filter-append}
use Rattle.vdm_kinds.specs.declared.member.VarRef.{VarRef}
use Rattle.vdm_kinds.specs.declared.name.Name.{Name}
use Rattle.vdm_kinds.specs.declared.place.Place.{Place}
use Rattle.vdm_kinds.specs.declared.run_fault.RunFault.TheVariants.{Undefined}
use Rattle.vdm_kinds.specs.NameList.{io}
use Rattle.vdm_values.specs.declared.slot.Slot.{Slot}
use Rattle.vdm_values.specs.declared.slot.Slot.TheVariants.{Unset, Held}
use Rattle.abstract_syntax.specs.Classes.{ClassTree, SpecTree, VariableTree, is_same_name}
use Rattle.abstract_syntax.specs.Expressions.{ExprTree, apply, expr_place}
use Rattle.abstract_syntax.specs.Types.{TypeTree}
use Rattle.abstract_syntax.specs.Values.{ValueTree}
use Rattle.class_meaning.specs.Classes.{io_class}
use Rattle.class_meaning.specs.Objects.{statics}
use Rattle.value_parts.proofs.Everywhere.{each_append}
use Rattle.run_journal.specs.declared.entry.Entry.{Entry}
use Rattle.run_journal.specs.declared.question.Question.TheVariants.{Class, End}
use Rattle.run_journal.specs.declared.thread.Thread.TheVariants.{Main}
use Rattle.run_journal.specs.Made.{entry}
use Rattle.run_journal.specs.Parts.{is_on, object_part}
use Rattle.run_journal.specs.declared.deed.Deed.TheVariants as deed
use Rattle.plans.specs.Plans.{ask, finish, part}
use Rattle.vdm_legal.specs.ClassObjects.{classes_of}
use Rattle.vdm_legal.specs.Finishes.{finish_of}
use Rattle.vdm_legal.specs.State.{class_variables, variables_by}
use Rattle.vdm_legal.proofs.Known.{IsKnown, IsKnownSlot, there-last, there-on}
use Rattle.vdm_legal.proofs.Sanity.{IsQuiet, IsSane, IsWithin, quiet-sane, quiet-start, sane-start, within-self, within-then}
use Rattle.vdm_legal.proofs.Journals.{undecided-parts}
use Rattle.node_meaning.specs.Envs.{Locals, inside_class, no_nest, outside}
use Rattle.node_meaning.specs.Fitting.{fitted}
use Rattle.node_meaning.specs.Names.{variable_definition}
use Rattle.node_meaning.specs.Tasks.{Code, Flow, exited, gave, next, noted, returned}
use Rattle.stmt_meaning.specs.Objects.{initial_of}
use Rattle.vdm_meaning.proofs.Rules.{GivesKnown, IsOn, Keeps, MayBegin, MayRun}
use Rattle.vdm_meaning.proofs.Parts.{at-start, bind-keeps, is_on-on, may-fail}
use Rattle.vdm_meaning.proofs.Asking.{safe-ask}
use Rattle.vdm_meaning.proofs.Fitting.{safe-fitted}
use Rattle.vdm_meaning.specs.Main.{came, end_with, ended, make_class_objects, main_plan, object_of_class, static_slot, static_slots, static_tested, static_typed, statics_typed, whole_expression}

-- the run is finished, whatever came of main
abbrev pub LeavesAnEnd : List Entry → Flow → Type 0
LeavesAnEnd entries flow = finish_of entries ≡ None → ⊥

seam : (before after : List Name) (class : Name) → slice_get (before ++ class ∷ after) (length before) ≡ Some class
seam [] after class = refl
seam (other ∷ before) after class = seam before after class

end-quiet : (slot : Slot) → IsQuiet (deed.End slot)
end-quiet slot = λ name. (refl, refl, refl)

class-quiet : (class : Name) (slots : List Slot) → IsQuiet (deed.Class class slots)
class-quiet class slots = λ name. (refl, refl, refl)

-- ---- `IO` has no static variable

some_within : (n : ℕ) → nat_lt 0 (suc n) ≡ true
some_within n = grind (arith, nat_tests)

first_position : {A : Type 0} (p : A → Bool) (x : A) (xs : List A) → p x ≡ true → position p (x ∷ xs) ≡ Some 0
first_position p x xs h =
    ap (λ (b : Bool). let n = cond (not b) (1 + position_or_len p xs) 0 in cond (nat_lt n (length (x ∷ xs))) (Some n) None) h
    ∙ ap (λ (b : Bool). cond b (Some 0) None) (some_within (length xs))

io-statics : (spec : SpecTree) → class_variables spec io ≡ []
io-statics spec = ap (variables_by (statics spec)) (first_position (λ (c : ClassTree). is_same_name io c.name) io_class spec.classes refl)

-- ---- class objects

-- the entries with one class object more
abbrev behind_class : List Entry → ℕ → Name → List Slot → List Entry
behind_class before object class slots = before ++ entry Main object (deed.Class class slots) ∷ []

-- nothing stands on an object from this number on
abbrev IsFreeFrom : List Entry → ℕ → Type 0
IsFreeFrom before object = (n : ℕ) → object ≤ n → object_part n before ≡ []

-- and something on each before it
abbrev AreThereTo : List Entry → ℕ → Type 0
AreThereTo before object = (n : ℕ) → n < object → object_part n before ≢ []

free-on : (before : List Entry) (object : ℕ) (class : Name) (slots : List Slot) → IsFreeFrom before object → IsFreeFrom (behind_class before object class slots) (object + 1)
free-on before object class slots free n above =
    filter-append (is_on n) before (entry Main object (deed.Class class slots) ∷ [])
    ∙ ap (λ xs. xs ++ object_part n (entry Main object (deed.Class class slots) ∷ [])) (free n (omega arith))
    ∙ ap (λ b. if b then entry Main object (deed.Class class slots) ∷ [] else []) (ne_eqb object n (omega arith))

less_of : (m n : ℕ) → nat_lt m n ≡ true → m < n
less_of m n e = grind (arith, nat_tests)

last_of : (m n : ℕ) → nat_lt m n ≡ false → m < n + 1 → n ≡ m
last_of m n e h = let not_less : n ≤ m = grind (arith, nat_tests) in omega (arith, not_less, h)

there-to : (before : List Entry) (object : ℕ) (class : Name) (slots : List Slot) → AreThereTo before object → AreThereTo (behind_class before object class slots) (object + 1)
there-to before object class slots there n below = by (nat_lt n object) refl
  where
    by : (b : Bool) → nat_lt n object ≡ b → object_part n (behind_class before object class slots) ≢ []
    by true e = there-on before (entry Main object (deed.Class class slots) ∷ []) (behind_class before object class slots) refl n (there n (less_of n object e))
    by false e =
        subst (λ (k : ℕ). object_part k (behind_class before object class slots) ≢ []) (last_of n object e below)
        (there-last before object (deed.Class class slots))

-- main makes the class objects from this number on
record IsMaking (spec : SpecTree) (before : List Entry) (object : ℕ) : Type 0 where
  within : IsWithin spec [] before
  sane : IsSane spec before
  free : IsFreeFrom before object
  there : AreThereTo before object

making-on : (spec : SpecTree) (before : List Entry) (object : ℕ) (class : Name) (slots : List Slot) → IsMaking spec before object → Each (IsKnownSlot spec before) slots → IsMaking spec (behind_class before object class slots) (object + 1)
making-on spec before object class slots h known = record {
  within = quiet-start before object (deed.Class class slots) (class-quiet class slots) h.within;
  sane = quiet-sane before object (deed.Class class slots) (class-quiet class slots) h.sane known refl;
  free = free-on before object class slots h.free;
  there = there-to before object class slots h.there;
}

slot-more : (spec : SpecTree) (entries : List Entry) (slots : List Slot) (slot : Slot) → Each (IsKnownSlot spec entries) slots → IsKnownSlot spec entries slot → Each (IsKnownSlot spec entries) (slots ++ slot ∷ [])
slot-more spec entries slots slot h k = each_append (IsKnownSlot spec entries) slots (slot ∷ []) h (k, tt)

module _ (spec : SpecTree) where
  -- main's code keeps the rules
  abbrev pub IsMainSafe : List Entry → Code → Type 0
  IsMainSafe before code = Keeps spec LeavesAnEnd [] before code

  whole-begins : (tree : ExprTree) (before : List Entry) → MayRun spec before outside [] → MayBegin spec before (whole_expression tree)
  whole-begins (apply head arguments place) before h = h
  whole-begins _ before h = h

  safe-class : (before : List Entry) (object : ℕ) (class : Name) (slots : List Slot) (further : Code) → IsSane spec before → object_part object before ≡ [] → slice_get (classes_of spec) object ≡ Some class → IsMainSafe (behind_class before object class slots) further → IsMainSafe before (ask (noted (Class object class slots)) (λ answer. further))
  safe-class before object class slots further sane fresh is h =
      safe-ask spec LeavesAnEnd [] before (λ answer. further) (Class object class slots) (entry Main object (deed.Class class slots)) (λ a taken is. is)
      (record { ready = (fresh, is); sane = sane; turn = tt }) h

  -- ---- the initialisers of static variables of a class, whose class object is made behind them

  module _ (before : List Entry) (object : ℕ) (h : IsMaking spec before object) (some : 0 < object) (below : object < length (classes_of spec)) where
    -- a node that may not act may run
    initial-runs : (class : Name) → MayRun spec before (inside_class class no_nest) []
    initial-runs class = record {
      sane = h.sane;
      main = h.there 0 some;
      classes = λ acts. let never : false ≡ true = acts in absurd (cc);
      me = tt;
      held = tt;
      known = tt;
    }

    -- it asks nothing, since the class object is not there yet
    nothing-asked : (later : List Entry) → IsWithin spec before later → later ≡ before
    nothing-asked later w =
        elim (w.still (h.there 0 some)) [ inl made ↦ absurd (made object below (h.free object (omega arith))) | inr same ↦ same ]

    safe-came : (class : Name) (place : Place) (further : ValueTree → Code) (flow : Flow) → GivesKnown spec before flow → ((v : ValueTree) → IsKnown spec before v → IsMainSafe before (further v)) → IsMainSafe before (came place further flow)
    safe-came class place further (gave (Held v) locals) known goes = goes v known.0
    safe-came class place further (gave Unset locals) known goes = may-fail spec Undefined place (initial-runs class)
    safe-came class place further (next locals) known goes = may-fail spec Undefined place (initial-runs class)
    safe-came class place further (returned slot locals) known goes = may-fail spec Undefined place (initial-runs class)
    safe-came class place further (exited v from locals) known goes = record { ready = h.there 0 some; sane = h.sane; turn = tt }

    -- behind what came, which asked nothing
    safe-behind : (class : Name) (place : Place) (further : ValueTree → Code) (later : List Entry) (flow : Flow) → IsWithin spec before later → GivesKnown spec later flow → ((v : ValueTree) → IsKnown spec before v → IsMainSafe before (further v)) → IsMainSafe later (came place further flow)
    safe-behind class place further later flow w known goes =
        let same = nothing-asked later w in
        subst (λ (xs : List Entry). IsMainSafe xs (came place further flow)) (sym same)
        (safe-came class place further flow (subst (λ (xs : List Entry). GivesKnown spec xs flow) same known) goes)

    -- what is done with known slots keeps the rules
    abbrev Fills : (List Slot → Code) → Type 0
    Fills further = (slots : List Slot) → Each (IsKnownSlot spec before) slots → IsMainSafe before (further slots)

    safe-static_slot : (class : Name) (initial : Option ExprTree) (further : List Slot → Code) (slots : List Slot) → Each (IsKnownSlot spec before) slots → Fills further → IsMainSafe before (static_slot class initial further slots)
    safe-static_slot class None further slots known fills = fills (slots ++ Unset ∷ []) (slot-more spec before slots Unset known tt)
    safe-static_slot class (Some initial) further slots known fills = (
      initial-runs class,
      λ later flow w leaves.
          safe-behind class (expr_place initial) (λ v. further (slots ++ Held v ∷ [])) later flow w leaves.1
          (λ v k. fills (slots ++ Held v ∷ []) (slot-more spec before slots (Held v) known k)),
    )

    safe-static_slots : (vars : List VarRef) (further : List Slot → Code) (slots : List Slot) → Each (IsKnownSlot spec before) slots → Fills further → IsMainSafe before (static_slots spec vars further slots)
    safe-static_slots [] further slots known fills = fills slots known
    safe-static_slots (var ∷ vars) further slots known fills =
        safe-static_slot var.class (initial_of (variable_definition spec var)) (static_slots spec vars further) slots known
        (λ more all. safe-static_slots vars further more all fills)

    safe-static_tested : (class : Name) (declared : TypeTree) (initial : Option ExprTree) (slot : Slot) (further : Code) → IsKnownSlot spec before slot → IsMainSafe before further → IsMainSafe before (static_tested spec class declared initial slot further)
    safe-static_tested class declared (Some initial) (Held v) further known safe =
        bind-keeps spec LeavesAnEnd before [] (came (expr_place initial) (λ fitting_v. further))
        (λ later flow w leaves. safe-behind class (expr_place initial) (λ fitting_v. further) later flow w leaves.1 (λ fitting_v k. safe))
        (fitted spec no_nest (Some class) declared (expr_place initial) v []) before
        (safe-fitted spec before before (inside_class class no_nest) [] (at-start (initial-runs class)) no_nest (Some class) (expr_place initial) v known declared)
    safe-static_tested class declared _ _ further known safe = safe

    safe-static_typed : (class : Name) (found : Option VariableTree) (slot : Slot) (further : Code) → IsKnownSlot spec before slot → IsMainSafe before further → IsMainSafe before (static_typed spec class found slot further)
    safe-static_typed class None slot further known safe = safe
    safe-static_typed class (Some variable) slot further known safe = safe-static_tested class variable.declared variable.initial slot further known safe

    safe-statics_typed : (vars : List VarRef) (slots : List Slot) (further : Code) → Each (IsKnownSlot spec before) slots → IsMainSafe before further → IsMainSafe before (statics_typed spec vars slots further)
    safe-statics_typed (var ∷ vars) (slot ∷ slots) further known safe =
        safe-static_typed var.class (variable_definition spec var) slot (statics_typed spec vars slots further) known.0
        (safe-statics_typed vars slots further known.1 safe)
    safe-statics_typed _ _ further known safe = safe

    -- the class object, and what is done behind it
    safe-object : (class : Name) (vars : List VarRef) (further : Code) → slice_get (classes_of spec) object ≡ Some class → ((slots : List Slot) → Each (IsKnownSlot spec before) slots → IsMainSafe (behind_class before object class slots) further) → IsMainSafe before (static_slots spec vars (object_of_class spec object class vars further) [])
    safe-object class vars further is goes =
        safe-static_slots vars (object_of_class spec object class vars further) [] tt (λ slots known.
        safe-statics_typed vars slots (ask (noted (Class object class slots)) (λ answer. further)) known
        (safe-class before object class slots further h.sane (h.free object (omega arith)) is (goes slots known)))

  module _ (tree : ExprTree) where
    -- main asks to end: then the run is finished
    safe-end_with : (before : List Entry) (slot : Slot) (locals : Locals) → IsWithin spec [] before → IsSane spec before → IsOn spec before 0 → IsMainSafe before (end_with slot locals)
    safe-end_with before slot locals within sane main =
        safe-ask spec LeavesAnEnd [] before (λ a. finish (gave slot locals)) (End slot) (entry Main 0 (deed.End slot)) (λ a taken is. is)
        (record { ready = main.0; sane = sane; turn = main.1 }) (
          quiet-start before 0 (deed.End slot) (end-quiet slot) within,
          λ none.
              let last = (undecided-parts before (entry Main 0 (deed.End slot) ∷ []) none).1 in
              cc,
        )

    safe-ended : (before : List Entry) (flow : Flow) → IsWithin spec [] before → IsSane spec before → IsOn spec before 0 → IsMainSafe before (ended flow)
    safe-ended before (gave slot after) within sane main = safe-end_with before slot after within sane main
    safe-ended before (next after) within sane main = safe-end_with before Unset after within sane main
    safe-ended before (returned slot after) within sane main = safe-end_with before slot after within sane main
    safe-ended before (exited v place after) within sane main = record { ready = main.0; sane = sane; turn = tt }

    -- the expression, once all class objects are made
    whole-runs : (before : List Entry) (object : ℕ) → IsMaking spec before object → 0 < object → object ≡ length (classes_of spec) → MayRun spec before outside []
    whole-runs before object h some all = record {
      sane = h.sane;
      main = h.there 0 some;
      classes = λ acts k below. h.there k (subst (λ n. k < n) (sym all) below);
      me = tt;
      held = tt;
      known = tt;
    }

    safe-whole : (before : List Entry) (object : ℕ) → IsMaking spec before object → 0 < object → object ≡ length (classes_of spec) → IsMainSafe before (part (whole_expression tree) ended)
    safe-whole before object h some all =
        let runs = whole-runs before object h some all in (
          whole-begins tree before runs,
          λ later flow w leaves.
              safe-ended later flow (within-then [] before later h.within w) leaves.0 (is_on-on before later w 0 (runs.main, runs.classes refl)),
        )

    safe-classes : (before : List Entry) (object : ℕ) (done classes : List Name) → classes_of spec ≡ done ++ classes → object ≡ length done → 0 < object → IsMaking spec before object → IsMainSafe before (make_class_objects spec object classes (part (whole_expression tree) ended))
    safe-classes before object done [] all number some h =
        safe-whole before object h some (number ∙ sym (ap length all ∙ length-append done [] ∙ omega arith))
    safe-classes before object done (class ∷ classes) all number some h =
        let is : slice_get (classes_of spec) object ≡ Some class = ap (slice_get (classes_of spec)) number ∙ ap (λ cs. slice_get cs (length done)) all ∙ seam done classes class in
        let size : length (classes_of spec) ≡ length done + length (class ∷ classes) = ap length all ∙ length-append done (class ∷ classes) in
        let below : object < length (classes_of spec) = omega (arith, number, size) in
        safe-object before object h some below class (class_variables spec class) (make_class_objects spec (object + 1) classes (part (whole_expression tree) ended)) is (λ slots known.
        safe-classes (behind_class before object class slots) (object + 1) (done ++ class ∷ []) classes
        (all ∙ sym (append_assoc done (class ∷ []) classes)) (omega (arith, number, length-append done (class ∷ []))) (omega arith)
        (making-on spec before object class slots h known))

    -- the classes of the text, behind `IO`
    abbrev written_classes : List Name
    written_classes = map (λ (class : ClassTree). class.name) spec.classes

    nothing-made : IsMaking spec [] 0
    nothing-made = record { within = within-self []; sane = sane-start; free = λ n above. refl; there = λ n below. absurd (omega (arith, below)) }

    -- the class object of `IO`, whatever its static variables are
    abbrev from_io : List VarRef → Code
    from_io vars = static_slots spec vars (object_of_class spec 0 io vars (make_class_objects spec 1 written_classes (part (whole_expression tree) ended))) []

    safe-from_io : IsMainSafe [] (from_io [])
    safe-from_io =
        safe-class [] 0 io [] (make_class_objects spec 1 written_classes (part (whole_expression tree) ended)) sane-start refl refl
        (safe-classes (behind_class [] 0 io []) 1 (io ∷ []) written_classes refl refl (omega arith) (making-on spec [] 0 io [] nothing-made tt))

    -- the code of main keeps the rules of journals
    pub safe-main : IsMainSafe [] (main_plan spec tree)
    safe-main = subst (λ vars. IsMainSafe [] (from_io vars)) (sym (io-statics spec)) safe-from_io
