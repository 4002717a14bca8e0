-- Whether some value may be of two forms. Their parts are not compared.
use Rattle.std.specs.Prelude.{Bool, true, false, ◌&&◌, ◌||◌, List}
use Rattle.std.specs.List.{list_any}
use Rattle.vdm_kinds.specs.declared.name.Name.{Name}
use Rattle.form_meaning.specs.Forms.{
  FormTree,
  any_form,
  no_form,
  one_of,
  AltTree,
  object_alt,
  AltTrees,
  no_alts,
  one_alt,
  is_same_kind,
}

-- `descends` tells whether a class is another or below it; `classes` are all classes
module _ (descends : Name → Name → Bool) (classes : List Name) where
  -- an object may be of both classes: some class has both among its ancestors
  abbrev pub classes_meet : Name → Name → Bool
  classes_meet a b = list_any (λ (class : Name). descends class a && descends class b) classes

  -- two alternatives meet where they are of one kind
  abbrev pub alternatives_meet : AltTree → AltTree → Bool
  alternatives_meet (object_alt a) (object_alt b) = classes_meet a b
  alternatives_meet a b = is_same_kind a b

  abbrev pub meets_one : AltTree → AltTrees → Bool
  meets_one alternative no_alts = false
  meets_one alternative (one_alt other others) = alternatives_meet alternative other || meets_one alternative others

  abbrev pub some_meet : AltTrees → AltTrees → Bool
  some_meet no_alts others = false
  some_meet (one_alt alternative alternatives) others = meets_one alternative others || some_meet alternatives others

  -- whether two opened forms meet
  abbrev pub meets : FormTree → FormTree → Bool
  meets any_form other = true
  meets no_form any_form = true
  meets no_form _ = false
  meets (one_of alternatives) any_form = true
  meets (one_of alternatives) no_form = false
  meets (one_of alternatives) (one_of others) = some_meet alternatives others
