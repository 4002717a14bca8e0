-- What has no meaning, whatever stands in it.
use Rattle.std.specs.Prelude.{Option, Some, None}
use Rattle.vdm_kinds.specs.declared.place.Place.{Place}
use Rattle.abstract_syntax.specs.Expressions.{ExprTree, history}

-- the place of such a node; of all else nothing
abbrev pub left_out_here : ExprTree → Option Place
left_out_here (history counter names place) = Some place
left_out_here _ = None
