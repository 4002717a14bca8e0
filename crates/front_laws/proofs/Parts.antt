-- The words of lists of parts are read.
use Rattle.std.proofs.Common.{List, [], ◌∷◌, ◌++◌, refl}
use Rattle.vdm_kinds.specs.declared.name_at.NameAt.{NameAt}
use Rattle.vdm_kinds.specs.declared.sign.Sign.TheVariants.{Concatenation}
use Rattle.abstract_syntax.specs.Expressions.{ExprTrees, MapletTrees, FieldValueTrees, BranchTrees, PatternTrees, MapletPatterns, no_exprs, one_expr, no_maplets, one_maplet, no_field_values, one_field_value, no_branches, one_branch, no_patterns, one_pattern, no_maplet_patterns, one_maplet_pattern}
use Rattle.grammar_words.specs.declared.word.Word.TheVariants as word_is
use Rattle.grammar_words.specs.Pulls.{far_pull}
use Rattle.grammar_words.specs.Tokens.{identifier}
use Rattle.grammar_words.specs.Written.{Written, at, word}
use Rattle.grammar_trees.specs.Spelling.{spelling, exprs_spelling, further_exprs, maplets_spelling, further_maplets, field_values_spelling, further_field_values, branches_spelling, pattern_spelling, further_patterns, further_joined, further_maplet_patterns, names_spelling, further_names}
use Rattle.grammar_trees.specs.Binding.{AreExprs, AreMaplets, AreFieldValues, AreBranches, ArePatterns, AreSinglePatterns, AreMapletPatterns, AreTwoExprs, AreSomeMaplets, AreSomeFields, AreSomeNames}
use Rattle.grammar_fronts.specs.declared.wanted.Wanted.{Wanted}
use Rattle.grammar_fronts.specs.declared.wanted.Wanted.TheVariants as want
use Rattle.front_laws.proofs.Passing.{Reads, Follows, tok, follow, regroup}
use Rattle.front_laws.proofs.Starts.{at_in_curly, at_second_in_curly, at_in_square, at_arguments, at_second_argument, at_parts}
use Rattle.front_laws.proofs.Claims.{within, pattern_within, ExprsRead, MapletsRead, FieldValuesRead, BranchesRead, PatternsRead, MapletPatternsRead}

pub more_expressions : (parts : ExprTrees) → ExprsRead parts → AreExprs parts → (behind : List Wanted) (a : List Written)
    → Follows a (want.BehindOperand ∷ want.MoreExpressions ∷ behind) → Follows (further_exprs parts ++ a) (want.BehindOperand ∷ want.MoreExpressions ∷ behind)
more_expressions no_exprs t b behind a f = f
more_expressions (one_expr e es) t b behind a f =
    follow (word word_is.Comma) refl refl refl (regroup (spelling e) _ a (within t.0 far_pull b.0 (more_expressions es t.1 b.1 behind a f)))

pub more_pairs : (parts : MapletTrees) → MapletsRead parts → AreMaplets parts → (behind : List Wanted) (a : List Written)
    → Follows a (want.BehindOperand ∷ want.MorePairs ∷ behind) → Follows (further_maplets parts ++ a) (want.BehindOperand ∷ want.MorePairs ∷ behind)
more_pairs no_maplets t b behind a f = f
more_pairs (one_maplet k v ms) t b behind a f =
    follow (word word_is.Comma) refl refl refl (regroup (spelling k) _ a (within t.0 far_pull b.0 (follow (word word_is.MapsTo) refl refl refl (regroup (spelling v) _ a (within t.1 far_pull b.1 (more_pairs ms t.2 b.2 behind a f))))))

pub more_changes : (parts : FieldValueTrees) → FieldValuesRead parts → AreFieldValues parts → (behind : List Wanted) (a : List Written)
    → Follows a (want.BehindOperand ∷ want.MoreChanges ∷ behind) → Follows (further_field_values parts ++ a) (want.BehindOperand ∷ want.MoreChanges ∷ behind)
more_changes no_field_values t b behind a f = f
more_changes (one_field_value n p v fs) t b behind a f =
    follow (word word_is.Comma) refl refl refl (tok (at (identifier n p)) refl (tok (word word_is.MapsTo) refl (regroup (spelling v) _ a (within t.0 far_pull b.0 (more_changes fs t.1 b.1 behind a f)))))

pub more_branches : (parts : BranchTrees) → BranchesRead parts → AreBranches parts → (behind : List Wanted) (a : List Written)
    → Follows a (want.BehindOperand ∷ want.Otherwise ∷ behind) → Follows (branches_spelling parts ++ a) (want.BehindOperand ∷ want.Otherwise ∷ behind)
more_branches no_branches t b behind a f = f
more_branches (one_branch c v bs) t b behind a f =
    follow (word word_is.Elseif) refl refl refl (regroup (spelling c) _ a (within t.0 far_pull b.0 (follow (word word_is.Then) refl refl refl (regroup (spelling v) _ a (within t.1 far_pull b.1 (more_branches bs t.2 b.2 behind a f))))))

pub more_patterns : (parts : PatternTrees) → PatternsRead parts → ArePatterns parts → (behind : List Wanted) (a : List Written)
    → Reads a (want.BehindPattern ∷ want.MorePatterns ∷ behind) → Reads (further_patterns parts ++ a) (want.BehindPattern ∷ want.MorePatterns ∷ behind)
more_patterns no_patterns t b behind a r = r
more_patterns (one_pattern p ps) t b behind a r =
    tok (word word_is.Comma) refl (regroup (pattern_spelling p) _ a (pattern_within t.0 b.0 (more_patterns ps t.1 b.1 behind a r)))

pub more_bound : (parts : PatternTrees) → PatternsRead parts → ArePatterns parts → (behind : List Wanted) (a : List Written)
    → Reads a (want.BehindPattern ∷ want.BehindBound ∷ behind) → Reads (further_patterns parts ++ a) (want.BehindPattern ∷ want.BehindBound ∷ behind)
more_bound no_patterns t b behind a r = r
more_bound (one_pattern p ps) t b behind a r =
    tok (word word_is.Comma) refl (regroup (pattern_spelling p) _ a (pattern_within t.0 b.0 (more_bound ps t.1 b.1 behind a r)))

pub more_of_case : (parts : PatternTrees) → PatternsRead parts → ArePatterns parts → (behind : List Wanted) (a : List Written)
    → Reads a (want.BehindPattern ∷ want.BehindCase ∷ behind) → Reads (further_patterns parts ++ a) (want.BehindPattern ∷ want.BehindCase ∷ behind)
more_of_case no_patterns t b behind a r = r
more_of_case (one_pattern p ps) t b behind a r =
    tok (word word_is.Comma) refl (regroup (pattern_spelling p) _ a (pattern_within t.0 b.0 (more_of_case ps t.1 b.1 behind a r)))

pub more_joined : (parts : PatternTrees) → PatternsRead parts → AreSinglePatterns parts → (behind : List Wanted) (a : List Written)
    → Reads a (want.BehindPattern ∷ behind) → Reads (further_joined parts ++ a) (want.BehindPattern ∷ behind)
more_joined no_patterns t b behind a r = r
more_joined (one_pattern p ps) t b behind a r =
    tok (word (word_is.Operator Concatenation)) refl (regroup (pattern_spelling p) _ a (pattern_within t.0 b.1 (more_joined ps t.1 b.2 behind a r)))

pub more_pattern_pairs : (parts : MapletPatterns) → MapletPatternsRead parts → AreMapletPatterns parts → (behind : List Wanted) (a : List Written)
    → Reads a (want.BehindPattern ∷ want.MorePatternPairs ∷ behind) → Reads (further_maplet_patterns parts ++ a) (want.BehindPattern ∷ want.MorePatternPairs ∷ behind)
more_pattern_pairs no_maplet_patterns t b behind a r = r
more_pattern_pairs (one_maplet_pattern k v ms) t b behind a r =
    tok (word word_is.Comma) refl (regroup (pattern_spelling k) _ a (pattern_within t.0 b.0 (tok (word word_is.MapsTo) refl (regroup (pattern_spelling v) _ a (pattern_within t.1 b.1 (more_pattern_pairs ms t.2 b.2 behind a r))))))

pub more_names : (names : List NameAt) (behind : List Wanted) (a : List Written) → Reads a (want.MoreNames ∷ behind)
    → Reads (further_names names ++ a) (want.MoreNames ∷ behind)
more_names [] behind a r = r
more_names (next ∷ names) behind a r =
    tok (word word_is.Comma) refl (tok (at (identifier next.name next.place)) refl (more_names names behind a r))

-- ---- expressions in brackets, behind the first of them

pub rest_of_set : (es : ExprTrees) → ExprsRead es → AreExprs es → (behind : List Wanted) (a : List Written) → Reads a behind
    → Follows (further_exprs es ++ (word word_is.CloseCurly ∷ a)) (want.BehindOperand ∷ want.BehindFirstInCurly ∷ behind)
rest_of_set no_exprs t b behind a r = follow (word word_is.CloseCurly) refl refl refl (r)
rest_of_set (one_expr e es) t b behind a r =
    follow (word word_is.Comma) refl refl refl (regroup (spelling e) _ (word word_is.CloseCurly ∷ a) (t.0.reads far_pull b.0 want.SecondInCurly (want.MoreExpressions ∷ want.CloseCurly ∷ []) at_second_in_curly behind _ (more_expressions es t.1 b.1 (want.CloseCurly ∷ behind) (word word_is.CloseCurly ∷ a) (follow (word word_is.CloseCurly) refl refl refl (r)))))

pub rest_of_arguments : (es : ExprTrees) → ExprsRead es → AreExprs es → (behind : List Wanted) (a : List Written) → Reads a behind
    → Follows (further_exprs es ++ (word word_is.CloseRound ∷ a)) (want.BehindOperand ∷ want.BehindFirstArgument ∷ behind)
rest_of_arguments no_exprs t b behind a r = follow (word word_is.CloseRound) refl refl refl (r)
rest_of_arguments (one_expr e es) t b behind a r =
    follow (word word_is.Comma) refl refl refl (regroup (spelling e) _ (word word_is.CloseRound ∷ a) (t.0.reads far_pull b.0 want.SecondArgument (want.MoreExpressions ∷ want.CloseRound ∷ []) at_second_argument behind _ (more_expressions es t.1 b.1 (want.CloseRound ∷ behind) (word word_is.CloseRound ∷ a) (follow (word word_is.CloseRound) refl refl refl (r)))))

pub rest_of_sequence : (es : ExprTrees) → ExprsRead es → AreExprs es → (behind : List Wanted) (a : List Written) → Reads a behind
    → Follows (further_exprs es ++ (word word_is.CloseSquare ∷ a)) (want.BehindOperand ∷ want.BehindFirstInSquare ∷ behind)
rest_of_sequence no_exprs t b behind a r = follow (word word_is.CloseSquare) refl refl refl (r)
rest_of_sequence (one_expr e es) t b behind a r =
    follow (word word_is.Comma) refl refl refl (regroup (spelling e) _ (word word_is.CloseSquare ∷ a) (within t.0 far_pull b.0 (more_expressions es t.1 b.1 (want.CloseSquare ∷ behind) (word word_is.CloseSquare ∷ a) (follow (word word_is.CloseSquare) refl refl refl (r)))))

-- ---- whole lists in brackets

regrouped : (x y k a : List Written) {wanted : List Wanted} → Reads (x ++ (y ++ (k ++ a))) wanted → Reads (((x ++ y) ++ k) ++ a) wanted
regrouped x y k a r = regroup (x ++ y) k a (regroup x y (k ++ a) r)

pub set_in : (es : ExprTrees) → ExprsRead es → AreExprs es → (behind : List Wanted) (a : List Written) → Reads a behind
    → Reads ((exprs_spelling es ++ (word word_is.CloseCurly ∷ [])) ++ a) (want.InCurly ∷ behind)
set_in no_exprs t b behind a r = tok (word word_is.CloseCurly) refl (r)
set_in (one_expr e es) t b behind a r =
    regrouped (spelling e) (further_exprs es) (word word_is.CloseCurly ∷ []) a
    (t.0.reads far_pull b.0 want.InCurly (want.BehindFirstInCurly ∷ []) at_in_curly behind _ (rest_of_set es t.1 b.1 behind a r))

pub arguments_in : (es : ExprTrees) → ExprsRead es → AreExprs es → (behind : List Wanted) (a : List Written) → Reads a behind
    → Reads ((exprs_spelling es ++ (word word_is.CloseRound ∷ [])) ++ a) (want.Arguments ∷ behind)
arguments_in no_exprs t b behind a r = tok (word word_is.CloseRound) refl (r)
arguments_in (one_expr e es) t b behind a r =
    regrouped (spelling e) (further_exprs es) (word word_is.CloseRound ∷ []) a
    (t.0.reads far_pull b.0 want.Arguments (want.BehindFirstArgument ∷ []) at_arguments behind _ (rest_of_arguments es t.1 b.1 behind a r))

pub sequence_in : (es : ExprTrees) → ExprsRead es → AreExprs es → (behind : List Wanted) (a : List Written) → Reads a behind
    → Reads ((exprs_spelling es ++ (word word_is.CloseSquare ∷ [])) ++ a) (want.InSquare ∷ behind)
sequence_in no_exprs t b behind a r = tok (word word_is.CloseSquare) refl (r)
sequence_in (one_expr e es) t b behind a r =
    regrouped (spelling e) (further_exprs es) (word word_is.CloseSquare ∷ []) a
    (t.0.reads far_pull b.0 want.InSquare (want.BehindFirstInSquare ∷ []) at_in_square behind _ (rest_of_sequence es t.1 b.1 behind a r))

pub parts_in : (es : ExprTrees) → ExprsRead es → AreExprs es → (behind : List Wanted) (a : List Written) → Reads a behind
    → Reads ((exprs_spelling es ++ (word word_is.CloseRound ∷ [])) ++ a) (want.Parts ∷ behind)
parts_in no_exprs t b behind a r = tok (word word_is.CloseRound) refl (r)
parts_in (one_expr e es) t b behind a r =
    regrouped (spelling e) (further_exprs es) (word word_is.CloseRound ∷ []) a
    (t.0.reads far_pull b.0 want.Parts (want.MoreExpressions ∷ want.CloseRound ∷ []) at_parts behind _
    (more_expressions es t.1 b.1 (want.CloseRound ∷ behind) (word word_is.CloseRound ∷ a) (follow (word word_is.CloseRound) refl refl refl (r))))

pub tuple_in : (es : ExprTrees) → ExprsRead es → AreExprs es → AreTwoExprs es → (behind : List Wanted) (a : List Written) → Reads a behind
    → Reads ((exprs_spelling es ++ (word word_is.CloseRound ∷ [])) ++ a)
    (want.Expression ∷ want.Comma ∷ want.Expression ∷ want.MoreExpressions ∷ want.CloseRound ∷ behind)
tuple_in no_exprs t b two behind a r = absurd two
tuple_in (one_expr e no_exprs) t b two behind a r = absurd two
tuple_in (one_expr e (one_expr e2 es)) t b two behind a r =
    regrouped (spelling e) (further_exprs (one_expr e2 es)) (word word_is.CloseRound ∷ []) a
    (within t.0 far_pull b.0 (follow (word word_is.Comma) refl refl refl (regroup (spelling e2) _ (word word_is.CloseRound ∷ a) (within t.1.0 far_pull b.1.0 (more_expressions es t.1.1 b.1.1 (want.CloseRound ∷ behind) (word word_is.CloseRound ∷ a) (follow (word word_is.CloseRound) refl refl refl (r)))))))

pub map_in : (ms : MapletTrees) → MapletsRead ms → AreMaplets ms → AreSomeMaplets ms → (behind : List Wanted) (a : List Written) → Reads a behind
    → Reads ((maplets_spelling ms ++ (word word_is.CloseCurly ∷ [])) ++ a) (want.InCurly ∷ behind)
map_in no_maplets t b some behind a r = absurd some
map_in (one_maplet k v no_maplets) t b some behind a r =
    regroup (maplets_spelling (one_maplet k v no_maplets)) (word word_is.CloseCurly ∷ []) a (regroup (spelling k) _ (word word_is.CloseCurly ∷ a)
    (t.0.reads far_pull b.0 want.InCurly (want.BehindFirstInCurly ∷ []) at_in_curly behind _ (follow (word word_is.MapsTo) refl refl refl (regroup (spelling v) _ (word word_is.CloseCurly ∷ a) (within t.1 far_pull b.1 (follow (word word_is.CloseCurly) refl refl refl (r)))))))
map_in (one_maplet k v (one_maplet k2 v2 ms)) t b some behind a r =
    regroup (maplets_spelling (one_maplet k v (one_maplet k2 v2 ms))) (word word_is.CloseCurly ∷ []) a (regroup (spelling k) _ (word word_is.CloseCurly ∷ a)
    (t.0.reads far_pull b.0 want.InCurly (want.BehindFirstInCurly ∷ []) at_in_curly behind _ (follow (word word_is.MapsTo) refl refl refl (regroup (spelling v) _ (word word_is.CloseCurly ∷ a) (within t.1 far_pull b.1 (follow (word word_is.Comma) refl refl refl (regroup (spelling k2) _ (word word_is.CloseCurly ∷ a) (within t.2.0 far_pull b.2.0 (follow (word word_is.MapsTo) refl refl refl (regroup (spelling v2) _ (word word_is.CloseCurly ∷ a) (within t.2.1 far_pull b.2.1 (more_pairs ms t.2.2 b.2.2 (want.CloseCurly ∷ behind) (word word_is.CloseCurly ∷ a) (follow (word word_is.CloseCurly) refl refl refl (r))))))))))))))

pub changes_in : (fs : FieldValueTrees) → FieldValuesRead fs → AreFieldValues fs → AreSomeFields fs → (behind : List Wanted) (a : List Written)
    → Reads a behind → Reads ((field_values_spelling fs ++ (word word_is.CloseRound ∷ [])) ++ a)
    (want.Identifier ∷ want.MapsTo ∷ want.Expression ∷ want.MoreChanges ∷ want.CloseRound ∷ behind)
changes_in no_field_values t b some behind a r = absurd some
changes_in (one_field_value n p v fs) t b some behind a r =
    tok (at (identifier n p)) refl (tok (word word_is.MapsTo) refl (regrouped (spelling v) (further_field_values fs) (word word_is.CloseRound ∷ []) a (within t.0 far_pull b.0 (more_changes fs t.1 b.1 (want.CloseRound ∷ behind) (word word_is.CloseRound ∷ a) (follow (word word_is.CloseRound) refl refl refl (r))))))

pub names_in : (names : List NameAt) → AreSomeNames names → (behind : List Wanted) (a : List Written) → Reads a behind
    → Reads ((names_spelling names ++ (word word_is.CloseRound ∷ [])) ++ a) (want.Identifier ∷ want.MoreNames ∷ want.CloseRound ∷ behind)
names_in [] some behind a r = absurd some
names_in (first ∷ names) some behind a r =
    tok (at (identifier first.name first.place)) refl (regroup (further_names names) (word word_is.CloseRound ∷ []) a (more_names names (want.CloseRound ∷ behind) (word word_is.CloseRound ∷ a) (tok (word word_is.CloseRound) refl (r))))
