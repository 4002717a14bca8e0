-- What is open and what comes next, as the program keeps them.
use Rattle.std.specs.Prelude.{List, [], ◌∷◌, map, Option, Some, None, option_map}
use Rattle.type_tree.specs.TypeView.{type_view}
use Rattle.expr_tree.specs.View.{view_of, views_of, pattern_view, pattern_views, bind_view, maplet_view, field_value_view, defined_view, branch_view, case_view, maplet_pattern_view, expr_trees, pattern_trees, bind_trees, maplet_trees, field_value_trees, defined_trees, branch_trees, case_trees, maplet_pattern_trees, maybe_view}
use Rattle.grammar_tokens.specs.View.{token_views}
use Rattle.grammar_trees.specs.Frames as pure
use Rattle.grammar_trees.specs.Machine as machine
use Rattle.tree_frames.specs.declared.purpose.Enclosed.{Enclosed}
use Rattle.tree_frames.specs.declared.purpose.Enclosed.TheVariants as in_enclosed
use Rattle.tree_frames.specs.declared.purpose.Listed.{Listed}
use Rattle.tree_frames.specs.declared.purpose.Listed.TheVariants as in_listed
use Rattle.tree_frames.specs.declared.purpose.Ranged.{Ranged}
use Rattle.tree_frames.specs.declared.purpose.Ranged.TheVariants as in_ranged
use Rattle.tree_frames.specs.declared.purpose.Compared.{Compared}
use Rattle.tree_frames.specs.declared.purpose.Compared.TheVariants as in_compared
use Rattle.tree_frames.specs.declared.purpose.BindsFor.{BindsFor}
use Rattle.tree_frames.specs.declared.purpose.BindsFor.TheVariants as in_binds_for
use Rattle.tree_frames.specs.declared.purpose.Conditioned.{Conditioned}
use Rattle.tree_frames.specs.declared.purpose.Conditioned.TheVariants as in_conditioned
use Rattle.tree_frames.specs.declared.purpose.Body.{Body}
use Rattle.tree_frames.specs.declared.purpose.Body.TheVariants as in_body
use Rattle.tree_frames.specs.declared.purpose.PatternsFor.{PatternsFor}
use Rattle.tree_frames.specs.declared.purpose.PatternsFor.TheVariants as in_patterns_for
use Rattle.tree_frames.specs.declared.frame.Frame.{Frame}
use Rattle.tree_frames.specs.declared.frame.Frame.TheVariants as in_frame
use Rattle.tree_frames.specs.declared.header.TypeNameFor.{TypeNameFor}
use Rattle.tree_frames.specs.declared.header.TypeNameFor.TheVariants as in_type_name_for
use Rattle.tree_frames.specs.declared.header.Header.{Header}
use Rattle.tree_frames.specs.declared.header.Header.TheVariants as in_header
use Rattle.tree_frames.specs.declared.mode.Mode.{Mode}
use Rattle.tree_frames.specs.declared.mode.Mode.TheVariants as in_mode
use Rattle.tree_frames.specs.declared.stop.Stop.{Stop}
use Rattle.tree_frames.specs.declared.stop.Stop.TheVariants as in_stop

abbrev pub enclosed_view : Enclosed → pure.Enclosed
enclosed_view in_enclosed.Bracket = pure.bracket
enclosed_view in_enclosed.TokenOf = pure.token_of
enclosed_view (in_enclosed.NamedTest x0) = pure.named_test x0
enclosed_view (in_enclosed.BasicTest x0) = pure.basic_test x0
enclosed_view (in_enclosed.ClassTest x0 x1) = pure.class_test x0 x1
enclosed_view (in_enclosed.BaseClassTest x0 x1) = pure.base_class_test x0 x1

abbrev pub listed_view : Listed → pure.Listed
listed_view in_listed.SetOf = pure.set_of
listed_view in_listed.SequenceOf = pure.sequence_of
listed_view in_listed.TupleOf = pure.tuple_of
listed_view (in_listed.RecordOf x0) = pure.record_of x0
listed_view (in_listed.NewOf x0 x1) = pure.new_of x0 x1
listed_view (in_listed.AppliedTo x0) = pure.applied_to (view_of x0.value)

abbrev pub ranged_view : Ranged → pure.Ranged
ranged_view in_ranged.InSet = pure.in_set
ranged_view (in_ranged.PartOfSequence x0) = pure.part_of_sequence (view_of x0.value)

abbrev pub compared_view : Compared → pure.Compared
compared_view in_compared.Classes = pure.classes
compared_view in_compared.BaseClasses = pure.base_classes

abbrev pub binds_for_view : BindsFor → pure.BindsFor
binds_for_view (in_binds_for.SetEach x0) = pure.set_each (view_of x0.value)
binds_for_view (in_binds_for.MapEach x0 x1) = pure.map_each (view_of x0.value) (view_of x1.value)
binds_for_view in_binds_for.AllOf = pure.all_of
binds_for_view in_binds_for.SomeOf = pure.some_of
binds_for_view in_binds_for.OneOf = pure.one_of
binds_for_view in_binds_for.TheOne = pure.the_one
binds_for_view in_binds_for.SuchOne = pure.such_one

abbrev pub conditioned_view : Conditioned → pure.Conditioned
conditioned_view (in_conditioned.SetSuch x0 x1) = pure.set_such (view_of x0.value) (bind_trees (map bind_view x1.items))
conditioned_view (in_conditioned.MapSuch x0 x1 x2) = pure.map_such (view_of x0.value) (view_of x1.value) (bind_trees (map bind_view x2.items))
conditioned_view (in_conditioned.SequenceSuch x0 x1 x2) = pure.sequence_such (view_of x0.value) (pattern_view x1.value) (view_of x2.value)

abbrev pub body_view : Body → pure.Body
body_view (in_body.All x0) = pure.all_body (bind_trees (map bind_view x0.items))
body_view (in_body.Some x0) = pure.some_body (bind_trees (map bind_view x0.items))
body_view (in_body.One x0) = pure.one_body (bind_view x0.value)
body_view (in_body.The x0) = pure.the_body (bind_view x0.value)
body_view (in_body.Let x0) = pure.let_body (defined_trees (map defined_view x0.items))
body_view (in_body.Such x0 x1) = pure.such_body (bind_view x0.value) (maybe_view x1)
body_view (in_body.Def x0 x1) = pure.def_body (pattern_view x0.value) (view_of x1.value)
body_view (in_body.Else x0 x1 x2) = pure.else_body (view_of x0.value) (view_of x1.value) (branch_trees (map branch_view x2.items))

abbrev pub patterns_for_view : PatternsFor → pure.PatternsFor
patterns_for_view in_patterns_for.SetLike = pure.set_like
patterns_for_view in_patterns_for.SequenceLike = pure.sequence_like
patterns_for_view in_patterns_for.TupleLike = pure.tuple_like
patterns_for_view (in_patterns_for.RecordLike x0) = pure.record_like x0

abbrev pub frame_view : Frame → pure.Frame
frame_view (in_frame.OperandOf x0 x1) = pure.operand_of x0 x1
frame_view (in_frame.RightOf x0 x1 x2) = pure.right_of (view_of x0.value) x1 x2
frame_view (in_frame.Body x0 x1) = pure.body (body_view x0) x1
frame_view (in_frame.Enclosed x0 x1) = pure.enclosed (enclosed_view x0) x1
frame_view (in_frame.Matched x0) = pure.matched x0
frame_view (in_frame.Items x0 x1 x2) = pure.items (listed_view x0) (expr_trees (views_of x1.items)) x2
frame_view (in_frame.TupleStart x0) = pure.tuple_start x0
frame_view (in_frame.RangeEnd x0 x1 x2) = pure.range_end (ranged_view x0) (view_of x1.value) x2
frame_view (in_frame.MapKey x0 x1) = pure.map_key (maplet_trees (map maplet_view x0.items)) x1
frame_view (in_frame.MapValue x0 x1 x2) = pure.map_value (maplet_trees (map maplet_view x0.items)) (view_of x1.value) x2
frame_view (in_frame.Condition x0 x1) = pure.condition (conditioned_view x0) x1
frame_view (in_frame.BindSet x0 x1 x2 x3) = pure.bind_set (binds_for_view x0) (bind_trees (map bind_view x1.items)) (pattern_trees (pattern_views x2.items)) x3
frame_view (in_frame.SequenceSet x0 x1 x2) = pure.sequence_set (view_of x0.value) (pattern_view x1.value) x2
frame_view (in_frame.LeftClass x0 x1) = pure.left_class (compared_view x0) x1
frame_view (in_frame.RightClass x0 x1 x2) = pure.right_class (compared_view x0) (view_of x1.value) x2
frame_view (in_frame.Tested x0) = pure.tested x0
frame_view (in_frame.Modified x0) = pure.modified x0
frame_view (in_frame.FieldValue x0 x1 x2 x3 x4) = pure.field_value (view_of x0.value) (field_value_trees (map field_value_view x1.items)) x2 x3 x4
frame_view (in_frame.LetValue x0 x1 x2 x3) = pure.let_value (defined_trees (map defined_view x0.items)) (pattern_view x1.value) (option_map type_view x2) x3
frame_view (in_frame.LetSuch x0 x1) = pure.let_such (bind_view x0.value) x1
frame_view (in_frame.DefValue x0 x1) = pure.def_value (pattern_view x0.value) x1
frame_view (in_frame.IfTest x0) = pure.if_test x0
frame_view (in_frame.IfThen x0 x1) = pure.if_then (view_of x0.value) x1
frame_view (in_frame.ElseifTest x0 x1 x2 x3) = pure.elseif_test (view_of x0.value) (view_of x1.value) (branch_trees (map branch_view x2.items)) x3
frame_view (in_frame.ElseifThen x0 x1 x2 x3 x4) = pure.elseif_then (view_of x0.value) (view_of x1.value) (branch_trees (map branch_view x2.items)) (view_of x3.value) x4
frame_view (in_frame.Subject x0) = pure.subject x0
frame_view (in_frame.CaseValue x0 x1 x2 x3) = pure.case_value (view_of x0.value) (case_trees (map case_view x1.items)) (pattern_trees (pattern_views x2.items)) x3
frame_view (in_frame.OthersValue x0 x1 x2) = pure.others_value (view_of x0.value) (case_trees (map case_view x1.items)) x2
frame_view (in_frame.BindPatterns x0 x1 x2 x3) = pure.bind_patterns (binds_for_view x0) (bind_trees (map bind_view x1.items)) (pattern_trees (pattern_views x2.items)) x3
frame_view (in_frame.SequenceBound x0 x1) = pure.sequence_bound (view_of x0.value) x1
frame_view (in_frame.LetStart x0) = pure.let_start x0
frame_view (in_frame.LetNext x0 x1) = pure.let_next (defined_trees (map defined_view x0.items)) x1
frame_view (in_frame.DefPattern x0) = pure.def_pattern x0
frame_view (in_frame.CasePatterns x0 x1 x2 x3) = pure.case_patterns (view_of x0.value) (case_trees (map case_view x1.items)) (pattern_trees (pattern_views x2.items)) x3
frame_view (in_frame.PatternItems x0 x1 x2) = pure.pattern_items (patterns_for_view x0) (pattern_trees (pattern_views x1.items)) x2
frame_view (in_frame.TuplePatternStart x0) = pure.tuple_pattern_start x0
frame_view (in_frame.PatternKey x0 x1) = pure.pattern_key (maplet_pattern_trees (map maplet_pattern_view x0.items)) x1
frame_view (in_frame.PatternValue x0 x1 x2) = pure.pattern_value (maplet_pattern_trees (map maplet_pattern_view x0.items)) (pattern_view x1.value) x2
frame_view (in_frame.Concatenated x0 x1) = pure.concatenated (pattern_trees (pattern_views x0.items)) x1
frame_view (in_frame.TestType x0 x1) = pure.test_type (view_of x0.value) x1
frame_view (in_frame.LetType x0 x1 x2) = pure.let_type (defined_trees (map defined_view x0.items)) (pattern_view x1.value) x2
frame_view in_frame.TypeBracket = pure.type_bracket

abbrev pub type_name_for_view : TypeNameFor → pure.TypeNameFor
type_name_for_view in_type_name_for.Made = pure.made
type_name_for_view in_type_name_for.Asked = pure.asked
type_name_for_view in_type_name_for.MadePattern = pure.made_pattern

abbrev pub header_view : Header → pure.Header
header_view (in_header.Opens x0) = pure.opens (frame_view x0)
header_view (in_header.CommaThen x0) = pure.comma_then (frame_view x0)
header_view (in_header.StThen x0) = pure.st_then (frame_view x0)
header_view (in_header.ArrowThen x0) = pure.arrow_then (frame_view x0)
header_view (in_header.OpensPattern x0) = pure.opens_pattern (frame_view x0)
header_view (in_header.TypeAfter x0 x1 x2) = pure.type_after (type_name_for_view x0) x1 x2
header_view (in_header.TypeRest x0 x1 x2) = pure.type_rest (type_name_for_view x0) x1 x2
header_view (in_header.QualifiedRest x0 x1) = pure.qualified_rest x0 x1
header_view (in_header.MemberOf x0 x1) = pure.member_of (view_of x0.value) x1
header_view (in_header.MemberRest x0 x1 x2 x3) = pure.member_rest (view_of x0.value) x1 x2 x3
header_view (in_header.PartOf x0 x1) = pure.part_of (view_of x0.value) x1
header_view (in_header.NewName x0) = pure.new_name x0
header_view (in_header.CounterOpens x0 x1) = pure.counter_opens x0 x1
header_view (in_header.CounterName x0 x1 x2) = pure.counter_name x0 x1.items x2
header_view (in_header.CounterNext x0 x1 x2) = pure.counter_next x0 x1.items x2
header_view (in_header.ClassOpens x0) = pure.class_opens x0
header_view (in_header.ClassName x0) = pure.class_name x0
header_view (in_header.BaseClassOpens x0) = pure.base_class_opens x0
header_view (in_header.BaseClassName x0) = pure.base_class_name x0
header_view (in_header.FieldName x0 x1 x2) = pure.field_name (view_of x0.value) (field_value_trees (map field_value_view x1.items)) x2
header_view (in_header.FieldArrow x0 x1 x2 x3 x4) = pure.field_arrow (view_of x0.value) (field_value_trees (map field_value_view x1.items)) x2 x3 x4
header_view (in_header.EmptyMapEnd x0) = pure.empty_map_end x0
header_view (in_header.EmptyPatternEnd x0) = pure.empty_pattern_end x0

abbrev pub mode_view : Mode → pure.Mode
mode_view in_mode.Wants = pure.wants
mode_view (in_mode.Has x0) = pure.has (view_of x0.value)
mode_view in_mode.WantsPattern = pure.wants_pattern
mode_view (in_mode.HasPattern x0) = pure.has_pattern (pattern_view x0)
mode_view (in_mode.Awaits x0) = pure.awaits (header_view x0)
mode_view (in_mode.Typing x0) = pure.typing (token_views x0.items)

abbrev pub stop_view : Stop → machine.Stop
stop_view in_stop.Comma = machine.comma
stop_view in_stop.CloseRound = machine.close_round
stop_view in_stop.CloseSquare = machine.close_square
stop_view in_stop.CloseCurly = machine.close_curly
stop_view in_stop.Bar = machine.bar
stop_view in_stop.MapsTo = machine.maps_to
stop_view in_stop.Ampersand = machine.ampersand
stop_view in_stop.Then = machine.then_stop
stop_view in_stop.Elseif = machine.elseif_stop
stop_view in_stop.Else = machine.else_stop
stop_view in_stop.In = machine.in_stop
stop_view in_stop.Be = machine.be_stop
stop_view in_stop.Colon = machine.colon
stop_view in_stop.Arrow = machine.arrow
stop_view in_stop.End = machine.end_stop
stop_view in_stop.InSet = machine.in_set_stop
stop_view in_stop.Equal = machine.equal_stop
stop_view in_stop.None = machine.no_stop

-- the innermost frame is the last that the program keeps
abbrev pub stack_onto : List pure.Frame → List Frame → List pure.Frame
stack_onto below [] = below
stack_onto below (frame ∷ frames) = stack_onto (frame_view frame ∷ below) frames

abbrev pub stack_view : List Frame → List pure.Frame
stack_view frames = stack_onto [] frames

-- what comes next, where the tokens were not refused
abbrev pub state_view : Option Mode → List Frame → pure.State
state_view None frames = machine.no_tree
state_view (Some mode) frames = machine.in_mode (mode_view mode) (stack_view frames)
