use Rattle.std.proofs.Common.{None, refl}
use Rattle.patterns.proofs.Steps.{goes_back, goes_waits_two, goes_equal, goes_so, goes_split_end, waits_nested}
use Rattle.patterns.proofs.Fronts.{split_never, split_nowhere, split_first, split_alone}
use Rattle.patterns.proofs.Views.{view_headed, view_none}
use Rattle.patterns.proofs.search.Search.split.Goals as goal

pub returns-in_default : goal.returns-in_default
returns-in_default c = λ types. goes_split_end types _ _ _ _ _ (view_none _ c.in_default.len_below) c.is_over.ensures c.requires

pub returns-in_default-fronts : goal.returns-in_default-fronts
returns-in_default-fronts c = λ types.
    goes_back types _ _ _ refl refl c.requires
    (split_never types _ _ _ _ _ _ _ _ (view_headed _ _ c.in-len1-up.len_at_least c.pattern-item.is) refl c.in_default-fronts.ensures)

pub returns-then-front-most : goal.returns-then-front-most
returns-then-front-most c = λ types.
    goes_back types _ _ _ refl refl c.requires
    (split_nowhere types _ _ _ _ _ _ c.in-Some.least c.in-Some.most _ _ _ (view_headed _ _ c.in-len1-up.len_at_least c.pattern-item.is) refl c.in-Some.ensures
    c.greater-front.ensures c.if-front-most.true)

pub returns-then-front-most-2 : goal.returns-then-front-most-2
returns-then-front-most-2 c = λ types.
    let h = c.in_ok-part.ensures types in
    goes_so types _ _ _ _ (
      h.0,
      goes_equal types _ _ _ _ _
          (split_alone types _ _ _ _ _ _ c.in-Some.least c.in-Some.most _ _ _ (view_headed _ _ c.in-len1-up.len_at_least c.pattern-item.is) refl c.in-Some.ensures
          c.greater-front.ensures c.if-front-most-2.true) h.1,
    )

pub part-requires-2-clause-nested : goal.part-requires-2-clause-nested
part-requires-2-clause-nested c = waits_nested (λ t. None) _ _ _ c.in_ok-wait.ensures c.requires

pub returns : goal.returns
returns c = λ types.
    let h = c.in_ok-part-2.ensures types in
    goes_so types _ _ _ _ (
      h.0,
      goes_waits_two types _ _ _ _ _ _ _ c.in_ok-wait.ensures h.1
          (split_first types _ _ _ _ _ _ c.in-Some.least c.in-Some.most _ _ _ (view_headed _ _ c.in-len1-up.len_at_least c.pattern-item.is) refl c.in-Some.ensures
          c.greater-front.ensures c.if-front-most.false),
    )
