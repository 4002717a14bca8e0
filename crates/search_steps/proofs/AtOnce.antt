-- What is done with a choice, by the chooser.
use Rattle.std.proofs.Common.{◌≡◌, List, ap, sym, ◌∙◌}
use Rattle.abstract_syntax.specs.Expressions.{ExprTrees, MaybeExpr, left_out}
use Rattle.abstract_syntax.specs.Values.{ValueTree}
use Rattle.node_meaning.specs.Choosing.{Chooser, collects, Search, next_choice, fulfilled, tried, condition_of}
use Rattle.node_meaning.specs.Envs.{Locals}
use Rattle.node_meaning.specs.Strict.{Strict, collected}
use Rattle.node_meaning.specs.Tasks.{Code}

-- without a condition the elements come at once
pub elements_at_once : (search : Search) (what : Strict) (trees : ExprTrees) (vs done : List ValueTree) (further : List ValueTree → Locals → Code)
    (locals : Locals) → search.chooser ≡ collects what trees left_out
    → collected search.here search.place trees done (next_choice search further) locals
    ≡ tried search (condition_of search.chooser) vs done further locals
elements_at_once search what trees vs done further locals is =
    sym (ap (λ (c : Chooser). fulfilled search c vs done further locals) is)
    ∙ sym (ap (λ (c : Chooser). tried search (condition_of c) vs done further locals) is)

-- ... and so they do where a choice fulfils it
pub elements_fulfil : (search : Search) (what : Strict) (trees : ExprTrees) (condition : MaybeExpr) (vs done : List ValueTree)
    (further : List ValueTree → Locals → Code) (locals : Locals) → search.chooser ≡ collects what trees condition
    → collected search.here search.place trees done (next_choice search further) locals
    ≡ fulfilled search search.chooser vs done further locals
elements_fulfil search what trees condition vs done further locals is = sym (ap (λ (c : Chooser). fulfilled search c vs done further locals) is)
