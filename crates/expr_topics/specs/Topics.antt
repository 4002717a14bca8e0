-- What kinds of expressions there are to the checker.
use Rattle.std.specs.Prelude.{Bool, true, false, if◌then◌else◌}
use Rattle.abstract_syntax.specs.Expressions.{
  ExprTree,
  named,
  qualified,
  old_value,
  self_object,
  current_time,
  result_value,
  history,
  literal,
  undefined,
  bracketed,
  empty_map,
  make_record,
  create,
  apply,
  select,
  select_of_class,
  is_of_type,
  is_of_named,
  is_of_class,
  is_of_base_class,
  set_comprehension,
  map_comprehension,
  sequence_comprehension,
  let_be,
  for_all,
  exists_some,
  exists_one,
  let_in,
  def_in,
  if_else,
  cases_of,
  iota_of,
}
use Rattle.expr_topics.specs.declared.topic.Topic.{Topic}
use Rattle.expr_topics.specs.declared.topic.Topic.TheVariants.{Names, Plain, Calls, Selections, Tests, Inside, Choices, Parts}

-- a name or a word that may be refused where it stands
abbrev pub names_something : ExprTree → Bool
names_something (named name place) = true
names_something (qualified class name name_place place) = true
names_something (old_value name place) = true
names_something (self_object place) = true
names_something (current_time place) = true
names_something (result_value place) = true
names_something (history counter names place) = true
names_something _ = false

-- a literal, a word that may stand anywhere, or brackets
abbrev pub is_plain : ExprTree → Bool
is_plain (literal value place) = true
is_plain (undefined place) = true
is_plain (bracketed inner place) = true
is_plain (empty_map place) = true
is_plain _ = false

-- a call of what is known at once, or of what stands before the arguments
abbrev pub is_call : ExprTree → Bool
is_call (make_record t fields place) = true
is_call (create class class_place arguments place) = true
is_call (apply head arguments place) = true
is_call _ = false

-- a member of what stands before it
abbrev pub is_selection : ExprTree → Bool
is_selection (select target name name_place place) = true
is_selection (select_of_class target class class_place name name_place place) = true
is_selection _ = false

-- a test of a type or a class that is named
abbrev pub is_test : ExprTree → Bool
is_test (is_of_type tested declared place) = true
is_test (is_of_named t tested place) = true
is_test (is_of_class class class_place tested place) = true
is_test (is_of_base_class class class_place tested place) = true
is_test _ = false

-- what stands inside binds has the node's form
abbrev pub has_the_form_inside : ExprTree → Bool
has_the_form_inside (set_comprehension element bindings condition place) = true
has_the_form_inside (map_comprehension key value bindings condition place) = true
has_the_form_inside (sequence_comprehension item pattern set condition place) = true
has_the_form_inside (let_be bind condition body place) = true
has_the_form_inside (for_all bindings condition place) = true
has_the_form_inside (exists_some bindings condition place) = true
has_the_form_inside (exists_one bind condition place) = true
has_the_form_inside _ = false

-- what binds otherwise, or chooses
abbrev pub binds_or_chooses : ExprTree → Bool
binds_or_chooses (let_in definitions body place) = true
binds_or_chooses (def_in pattern value body place) = true
binds_or_chooses (if_else condition value elseifs otherwise place) = true
binds_or_chooses (cases_of subject alternatives others place) = true
binds_or_chooses (iota_of bind condition place) = true
binds_or_chooses _ = false

-- ... and what has its parts in one scope
abbrev pub topic_of : ExprTree → Topic
topic_of e =
    if names_something e then Names
    else if is_plain e then Plain
    else if is_call e then Calls
    else if is_selection e then Selections
    else if is_test e then Tests
    else if has_the_form_inside e then Inside
    else if binds_or_chooses e then Choices
    else Parts
