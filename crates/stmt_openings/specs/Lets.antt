-- What stands behind `let`, by its definitions or patterns as a list.
use Rattle.std.specs.Prelude.{List, ◌∷◌, Option, Some}
use Rattle.vdm_kinds.specs.declared.place.Place.{Place}
use Rattle.vdm_kinds.specs.declared.sign.Sign.TheVariants.{InSet}
use Rattle.abstract_syntax.specs.Expressions.{ExprTree, PatternTree, bind_in}
use Rattle.abstract_syntax.specs.Statements.{StmtTree, let_then, let_be_then}
use Rattle.grammar_words.specs.declared.word.Word.TheVariants as word_is
use Rattle.grammar_words.specs.Tokens.{Token}
use Rattle.stmt_reading.specs.Leaves.{Read, onto, further, put, expr_in, turns_for, word_in}
use Rattle.stmt_reading.specs.Statements.{Definition, defined_in, definition_in, definitions_tree, patterns_tree, such_that_in}

-- definitions, of which the first pattern was read
abbrev pub definitions_in : PatternTree → List Token → Read (List Definition)
definitions_in p tokens =
    onto (defined_in p tokens) (λ (first : Definition) (rest : List Token). onto (further word_is.Comma definition_in (turns_for rest) rest) (put first))

abbrev pub let_defined : (List Token → Read StmtTree) → Place → Read (List Definition) → Read StmtTree
let_defined one place read =
    onto read (λ (definitions : List Definition) (a : List Token).
    onto (word_in word_is.In a) (λ (behind : Place) (b : List Token).
    onto (one b) (λ (s : StmtTree) (c : List Token). Some (let_then (definitions_tree definitions) s place, c))))

abbrev pub let_bound : (List Token → Read StmtTree) → Place → Read (List PatternTree) → Read StmtTree
let_bound one place read =
    onto read (λ (patterns : List PatternTree) (a : List Token).
    onto (word_in (word_is.Operator InSet) a) (λ (member : Place) (b : List Token).
    onto (expr_in b) (λ (set : ExprTree) (c : List Token).
    onto (such_that_in c) (λ (condition : Option ExprTree) (d : List Token).
    onto (word_in word_is.In d) (λ (behind : Place) (e : List Token).
    onto (one e) (λ (s : StmtTree) (f : List Token).
    Some (let_be_then (bind_in (patterns_tree patterns) set) condition s place, f)))))))
