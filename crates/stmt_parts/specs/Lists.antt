-- Lists of parts, as they are read one by one.
use Rattle.std.specs.Prelude.{List, [], ◌∷◌, ◌++◌, map, Some, Vec}
use Rattle.grammar_words.specs.Tokens.{Token}
use Rattle.grammar_words.specs.declared.word.Word.TheVariants as word_is
use Rattle.vdm_kinds.specs.declared.place.Place.{Place}
use Rattle.abstract_syntax.specs.Expressions.{PatternTree, PatternTrees}
use Rattle.abstract_syntax.specs.Statements.{AssignmentTree, LocalTree, DclTree}
use Rattle.expr_tree.specs.declared.pattern.Pattern.{Pattern}
use Rattle.expr_tree.specs.declared.parts.Defined.{Defined}
use Rattle.expr_tree.specs.View.{pattern_views, pattern_trees, defined_view}
use Rattle.vdm_tree.specs.declared.target.Assignment.{Assignment}
use Rattle.vdm_tree.specs.declared.dcl.Local.{Local}
use Rattle.vdm_tree.specs.declared.dcl.Dcl.{Dcl}
use Rattle.vdm_tree.specs.StmtView.{assignment_view, local_view, dcl_view}
use Rattle.stmt_reading.specs.Leaves.{Read, onto, list_in, word_in}
use Rattle.stmt_reading.specs.Statements.{Definition, local_in}

-- what was read, and behind it what is read
abbrev pub added : {A : Type 0} → List A → Read (List A) → Read (List A)
added first read = onto read (λ others rest. Some (first ++ others, rest))

abbrev pub one_added : {A : Type 0} → List A → Read A → Read (List A)
one_added first read = onto read (λ next rest. Some (first ++ next ∷ [], rest))

abbrev pub patterns_listed : {A : Type 0} → Vec Pattern A → List PatternTree
patterns_listed patterns = pattern_views patterns.items

abbrev pub patterns_view : {A : Type 0} → Vec Pattern A → PatternTrees
patterns_view patterns = pattern_trees (pattern_views patterns.items)

abbrev pub assignments_view : {A : Type 0} → Vec Assignment A → List AssignmentTree
assignments_view assignments = map assignment_view assignments.items

abbrev pub locals_view : {A : Type 0} → Vec Local A → List LocalTree
locals_view locals = map local_view locals.items

abbrev pub dcls_view : {A : Type 0} → Vec Dcl A → List DclTree
dcls_view dcls = map dcl_view dcls.items

-- the local variables behind one `dcl`, and its `;`
abbrev pub dcl_in : Place → List Token → Read DclTree
dcl_in place tokens =
    onto (list_in word_is.Comma local_in tokens) (λ (locals : List LocalTree) (a : List Token).
    onto (word_in word_is.Semicolon a) (λ (semicolon : Place) (b : List Token). Some (record { locals = locals; place = place }, b)))

-- a definition, as it is read
abbrev pub definition_row : Defined → Definition
definition_row d = ((defined_view d).pattern, (defined_view d).declared, (defined_view d).value)

abbrev pub definition_rows : List Defined → List Definition
definition_rows = map definition_row

abbrev pub definitions_view : {A : Type 0} → Vec Defined A → List Definition
definitions_view definitions = definition_rows definitions.items
