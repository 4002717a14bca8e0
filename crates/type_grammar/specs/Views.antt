-- What is open in a type and what comes next, as the program keeps them.
use Rattle.std.specs.Prelude.{List, [], ◌∷◌, Option, Some, None, Vec}
use Rattle.abstract_syntax.specs.Types.{TypeTree}
use Rattle.type_tree.specs.declared.type_expr.TypeExpr.{TypeExpr}
use Rattle.type_tree.specs.TypeView.{type_view, type_views}
use Rattle.type_reading.specs.Reading as pure
use Rattle.type_grammar.specs.declared.frame.Collection.{Collection}
use Rattle.type_grammar.specs.declared.frame.Collection.TheVariants.{Set, Sequence, FilledSequence}
use Rattle.type_grammar.specs.declared.frame.Mapping.{Mapping}
use Rattle.type_grammar.specs.declared.frame.Mapping.TheVariants.{Any, Injective}
use Rattle.type_grammar.specs.declared.frame.Bracket.{Bracket}
use Rattle.type_grammar.specs.declared.frame.Bracket.TheVariants.{Round, Square}
use Rattle.type_grammar.specs.declared.frame.Frame.{Frame}
use Rattle.type_grammar.specs.declared.frame.Frame.TheVariants.{Element, KeyOf, ValueOf, Enclosed, Factors, Alternatives}
use Rattle.type_grammar.specs.declared.frame.Top.{Top}
use Rattle.type_grammar.specs.declared.frame.Top.TheVariants as top
use Rattle.type_grammar.specs.declared.mode.Mode.{Mode}
use Rattle.type_grammar.specs.declared.mode.Mode.TheVariants.{Wants, Has, WantsOf, Named, Qualified}

abbrev pub collection_view : Collection → pure.Collection
collection_view Set = pure.a_set
collection_view Sequence = pure.a_sequence
collection_view FilledSequence = pure.a_filled_sequence

abbrev pub mapping_view : Mapping → pure.Mapping
mapping_view Any = pure.any_map
mapping_view Injective = pure.injective_map

abbrev pub bracket_view : Bracket → pure.Bracket
bracket_view Round = pure.round
bracket_view Square = pure.square

abbrev pub frame_view : Frame → pure.Frame
frame_view (Element collection place) = pure.element (collection_view collection) place
frame_view (KeyOf mapping place) = pure.key_of (mapping_view mapping) place
frame_view (ValueOf mapping key place) = pure.value_of (mapping_view mapping) (type_view key.value) place
frame_view (Enclosed bracket place) = pure.enclosed (bracket_view bracket) place
frame_view (Factors trees) = pure.factors (type_views trees.items)
frame_view (Alternatives trees) = pure.alternatives (type_views trees.items)

-- the innermost frame is the last that the program keeps
abbrev pub stack_onto : List pure.Frame → List Frame → List pure.Frame
stack_onto below [] = below
stack_onto below (frame ∷ frames) = stack_onto (frame_view frame ∷ below) frames

abbrev pub stack_view : List Frame → List pure.Frame
stack_view frames = stack_onto [] frames

abbrev pub mode_view : Mode → pure.Mode
mode_view Wants = pure.wants
mode_view (Has tree) = pure.has (type_view tree)
mode_view (WantsOf collection place) = pure.wants_of (collection_view collection) place
mode_view (Named name place) = pure.named name place
mode_view (Qualified class place) = pure.qualified class place

-- what comes next, where the tokens were not refused
abbrev pub state_view : Option Mode → List Frame → pure.State
state_view None frames = pure.refusal
state_view (Some mode) frames = pure.state (mode_view mode) (stack_view frames)

-- what is innermost
abbrev pub frame_top : pure.Frame → Top
frame_top (pure.element collection place) = top.Part
frame_top (pure.value_of mapping key place) = top.Part
frame_top (pure.key_of mapping place) = top.Other
frame_top (pure.enclosed bracket place) = top.Other
frame_top (pure.factors trees) = top.Factors
frame_top (pure.alternatives trees) = top.Alternatives

abbrev pub stack_top : List pure.Frame → Top
stack_top [] = top.Other
stack_top (frame ∷ frames) = frame_top frame

-- types that were taken off, if there were some
abbrev pub with_factors : Option (List TypeTree) → List pure.Frame → List pure.Frame
with_factors None frames = frames
with_factors (Some trees) frames = pure.factors trees ∷ frames

abbrev pub with_alternatives : Option (List TypeTree) → List pure.Frame → List pure.Frame
with_alternatives None frames = frames
with_alternatives (Some trees) frames = pure.alternatives trees ∷ frames

abbrev pub trees_view : {A : Type 0} → Option (Vec TypeExpr A) → Option (List TypeTree)
trees_view None = None
trees_view (Some trees) = Some (type_views trees.items)
