-- How deep lists of parts are.
use Rattle.std.proofs.Common.{ℕ, ◌≤◌, max, List, [], ◌∷◌, ◌++◌, length, refl, arith}
use Rattle.vdm_kinds.specs.declared.name_at.NameAt.{NameAt}
use Rattle.abstract_syntax.specs.Depth.{exprs_depth, maplets_depth, field_values_depth, branches_depth, patterns_depth, maplet_patterns_depth}
use Rattle.abstract_syntax.specs.Expressions.{ExprTrees, MapletTrees, FieldValueTrees, BranchTrees, PatternTrees, MapletPatterns, no_exprs, one_expr, no_maplets, one_maplet, no_field_values, one_field_value, no_branches, one_branch, no_patterns, one_pattern, no_maplet_patterns, one_maplet_pattern}
use Rattle.grammar_words.specs.declared.word.Word.TheVariants as word_is
use Rattle.grammar_words.specs.Written.{Written, word}
use Rattle.grammar_trees.specs.Spelling.{spelling, exprs_spelling, further_exprs, maplets_spelling, further_maplets, field_values_spelling, further_field_values, branches_spelling, pattern_spelling, further_patterns, further_maplet_patterns, names_spelling, further_names}
use Rattle.grammar_trees.specs.Binding.{AreExprs, AreMaplets, AreFieldValues, AreBranches, ArePatterns, AreMapletPatterns, AreTwoExprs, AreSomeMaplets, AreSomeFields, AreSomeNames}
use Rattle.grammar_fronts.specs.declared.open_node.OpenNode.{OpenNode}
use Rattle.grammar_fronts.specs.declared.wanted.Wanted.{Wanted}
use Rattle.grammar_fronts.specs.declared.wanted.Wanted.TheVariants as want
use Rattle.front_laws.proofs.Starts.{at_in_curly, at_second_in_curly, at_in_square, at_arguments, at_second_argument, at_parts}
use Rattle.front_laws.proofs.Fine.{Plain}
use Rattle.front_laws.proofs.Nests.{Own, At, regroup_own, weaken, next_word, word_behind}
use Rattle.front_laws.proofs.DeepClaims.{first_part, expr_part, pattern_part, weak, ExprsDeep, MapletsDeep, FieldValuesDeep, BranchesDeep, PatternsDeep, MapletPatternsDeep}

pub plain_exprs : (parts : ExprTrees) (a : List Written) → Plain a → Plain (further_exprs parts ++ a)
plain_exprs no_exprs a plain = plain
plain_exprs (one_expr e es) a plain = (refl, refl)

pub plain_maplets : (parts : MapletTrees) (a : List Written) → Plain a → Plain (further_maplets parts ++ a)
plain_maplets no_maplets a plain = plain
plain_maplets (one_maplet k v ms) a plain = (refl, refl)

pub plain_fields : (parts : FieldValueTrees) (a : List Written) → Plain a → Plain (further_field_values parts ++ a)
plain_fields no_field_values a plain = plain
plain_fields (one_field_value n p v fs) a plain = (refl, refl)

pub plain_branches : (parts : BranchTrees) (a : List Written) → Plain a → Plain (branches_spelling parts ++ a)
plain_branches no_branches a plain = plain
plain_branches (one_branch c v bs) a plain = (refl, refl)

pub more_expressions : (parts : ExprTrees) → ExprsDeep parts → AreExprs parts → {below deep : ℕ} {nodes : List OpenNode} {behind : List Wanted} (a : List Written)
    → At below deep nodes want.BehindOperand (want.MoreExpressions ∷ behind) (further_exprs parts ++ a) → below ≤ length behind → Plain a
    → At below (max deep (exprs_depth parts)) nodes want.BehindOperand (want.MoreExpressions ∷ behind) a
more_expressions no_exprs t b a p less plain = weaken (omega arith) (p)
more_expressions (one_expr e es) t b a p less plain =
    weaken (omega arith) (more_expressions es t.1 b.1 a (expr_part t.0 b.0 (regroup_own (spelling e) (further_exprs es) (a) (word_behind (p) refl (omega arith) (omega arith))) (omega arith) (plain_exprs es a plain)) less plain)

pub more_pairs : (parts : MapletTrees) → MapletsDeep parts → AreMaplets parts → {below deep : ℕ} {nodes : List OpenNode} {behind : List Wanted} (a : List Written)
    → At below deep nodes want.BehindOperand (want.MorePairs ∷ behind) (further_maplets parts ++ a) → below ≤ length behind → Plain a
    → At below (max deep (maplets_depth parts)) nodes want.BehindOperand (want.MorePairs ∷ behind) a
more_pairs no_maplets t b a p less plain = weaken (omega arith) (p)
more_pairs (one_maplet k v ms) t b a p less plain =
    weaken (omega arith) (more_pairs ms t.2 b.2 a (expr_part t.1 b.1 (regroup_own (spelling v) (further_maplets ms) (a) (word_behind (expr_part t.0 b.0 (regroup_own (spelling k) (_) (a) (word_behind (p) refl (omega arith) (omega arith))) (omega arith) (refl, refl)) refl (omega arith) (omega arith))) (omega arith) (plain_maplets ms a plain)) less plain)

pub more_changes : (parts : FieldValueTrees) → FieldValuesDeep parts → AreFieldValues parts → {below deep : ℕ} {nodes : List OpenNode} {behind : List Wanted} (a : List Written)
    → At below deep nodes want.BehindOperand (want.MoreChanges ∷ behind) (further_field_values parts ++ a) → below ≤ length behind → Plain a
    → At below (max deep (field_values_depth parts)) nodes want.BehindOperand (want.MoreChanges ∷ behind) a
more_changes no_field_values t b a p less plain = weaken (omega arith) (p)
more_changes (one_field_value n p2 v fs) t b a p less plain =
    weaken (omega arith) (more_changes fs t.1 b.1 a (expr_part t.0 b.0 (regroup_own (spelling v) (further_field_values fs) (a) (next_word (next_word (word_behind (p) refl (omega arith) (omega arith)) refl (omega arith)) refl (omega arith))) (omega arith) (plain_fields fs a plain)) less plain)

pub more_branches : (parts : BranchTrees) → BranchesDeep parts → AreBranches parts → {below deep : ℕ} {nodes : List OpenNode} {behind : List Wanted} (a : List Written)
    → At below deep nodes want.BehindOperand (want.Otherwise ∷ behind) (branches_spelling parts ++ a) → below ≤ length behind → Plain a
    → At below (max deep (branches_depth parts)) nodes want.BehindOperand (want.Otherwise ∷ behind) a
more_branches no_branches t b a p less plain = weaken (omega arith) (p)
more_branches (one_branch c v bs) t b a p less plain =
    weaken (omega arith) (more_branches bs t.2 b.2 a (expr_part t.1 b.1 (regroup_own (spelling v) (branches_spelling bs) (a) (word_behind (expr_part t.0 b.0 (regroup_own (spelling c) (_) (a) (word_behind (p) refl (omega arith) (omega arith))) (omega arith) (refl, refl)) refl (omega arith) (omega arith))) (omega arith) (plain_branches bs a plain)) less plain)

pub more_patterns : (parts : PatternTrees) → PatternsDeep parts → ArePatterns parts → {below deep : ℕ} {nodes : List OpenNode} {behind : List Wanted} (a : List Written)
    → At below deep nodes want.BehindPattern (want.MorePatterns ∷ behind) (further_patterns parts ++ a) → below ≤ length behind
    → At below (max deep (patterns_depth parts)) nodes want.BehindPattern (want.MorePatterns ∷ behind) a
more_patterns no_patterns t b a p less = weaken (omega arith) (p)
more_patterns (one_pattern q ps) t b a p less =
    weaken (omega arith) (more_patterns ps t.1 b.1 a (pattern_part t.0 b.0 (regroup_own (pattern_spelling q) (further_patterns ps) (a) (word_behind (p) refl (omega arith) (omega arith))) (omega arith)) less)

pub more_bound : (parts : PatternTrees) → PatternsDeep parts → ArePatterns parts → {below deep : ℕ} {nodes : List OpenNode} {behind : List Wanted} (a : List Written)
    → At below deep nodes want.BehindPattern (want.BehindBound ∷ behind) (further_patterns parts ++ a) → below ≤ length behind
    → At below (max deep (patterns_depth parts)) nodes want.BehindPattern (want.BehindBound ∷ behind) a
more_bound no_patterns t b a p less = weaken (omega arith) (p)
more_bound (one_pattern q ps) t b a p less =
    weaken (omega arith) (more_bound ps t.1 b.1 a (pattern_part t.0 b.0 (regroup_own (pattern_spelling q) (further_patterns ps) (a) (word_behind (p) refl (omega arith) (omega arith))) (omega arith)) less)

pub more_of_case : (parts : PatternTrees) → PatternsDeep parts → ArePatterns parts → {below deep : ℕ} {nodes : List OpenNode} {behind : List Wanted} (a : List Written)
    → At below deep nodes want.BehindPattern (want.BehindCase ∷ behind) (further_patterns parts ++ a) → below ≤ length behind
    → At below (max deep (patterns_depth parts)) nodes want.BehindPattern (want.BehindCase ∷ behind) a
more_of_case no_patterns t b a p less = weaken (omega arith) (p)
more_of_case (one_pattern q ps) t b a p less =
    weaken (omega arith) (more_of_case ps t.1 b.1 a (pattern_part t.0 b.0 (regroup_own (pattern_spelling q) (further_patterns ps) (a) (word_behind (p) refl (omega arith) (omega arith))) (omega arith)) less)

pub more_pattern_pairs : (parts : MapletPatterns) → MapletPatternsDeep parts → AreMapletPatterns parts → {below deep : ℕ} {nodes : List OpenNode} {behind : List Wanted}
    (a : List Written) → At below deep nodes want.BehindPattern (want.MorePatternPairs ∷ behind) (further_maplet_patterns parts ++ a) → below ≤ length behind
    → At below (max deep (maplet_patterns_depth parts)) nodes want.BehindPattern (want.MorePatternPairs ∷ behind) a
more_pattern_pairs no_maplet_patterns t b a p less = weaken (omega arith) (p)
more_pattern_pairs (one_maplet_pattern k v ms) t b a p less =
    weaken (omega arith) (more_pattern_pairs ms t.2 b.2 a (pattern_part t.1 b.1 (regroup_own (pattern_spelling v) (further_maplet_patterns ms) (a) (word_behind (pattern_part t.0 b.0 (regroup_own (pattern_spelling k) (_) (a) (word_behind (p) refl (omega arith) (omega arith))) (omega arith)) refl (omega arith) (omega arith))) (omega arith)) less)

pub more_names : (names : List NameAt) → {below deep : ℕ} {nodes : List OpenNode} {behind : List Wanted} (a : List Written)
    → Own below deep nodes (further_names names ++ a) (want.MoreNames ∷ behind) → below ≤ length behind → Own below deep nodes a (want.MoreNames ∷ behind)
more_names [] a o less = o
more_names (next ∷ names) a o less = more_names names a (next_word (next_word (o) refl (omega arith)) refl (omega arith)) less

-- ---- whole lists in brackets

regrouped : (x y k a : List Written) {below deep : ℕ} {nodes : List OpenNode} {wanted : List Wanted} → Own below deep nodes (((x ++ y) ++ k) ++ a) wanted
    → Own below deep nodes (x ++ (y ++ (k ++ a))) wanted
regrouped x y k a o = regroup_own x y (k ++ a) (regroup_own (x ++ y) k a o)

pub set_in : (parts : ExprTrees) → ExprsDeep parts → AreExprs parts → {below deep : ℕ} {nodes : List OpenNode} {behind : List Wanted} (a : List Written)
    → Own below deep nodes ((exprs_spelling parts ++ (word word_is.CloseCurly ∷ [])) ++ a) (want.InCurly ∷ behind) → below ≤ length behind
    → Own below (max deep (exprs_depth parts)) nodes a behind
set_in no_exprs t b a o less =
    weak (next_word (o) refl (omega arith)) (omega arith)
set_in (one_expr e no_exprs) t b a o less =
    weak (word_behind (first_part t.0 b.0 at_in_curly (regrouped (spelling e) ([]) (word word_is.CloseCurly ∷ []) a (o)) (omega arith) (refl, refl)) refl (omega arith) (omega arith)) (omega arith)
set_in (one_expr e (one_expr e2 es)) t b a o less =
    weak (word_behind (more_expressions es t.1.1 b.1.1 (word word_is.CloseCurly ∷ a) (first_part t.1.0 b.1.0 at_second_in_curly (regroup_own (spelling e2) (further_exprs es) ((word word_is.CloseCurly ∷ a)) (word_behind (first_part t.0 b.0 at_in_curly (regrouped (spelling e) (further_exprs (one_expr e2 es)) (word word_is.CloseCurly ∷ []) a (o)) (omega arith) (refl, refl)) refl (omega arith) (omega arith))) (omega arith) (plain_exprs es (word word_is.CloseCurly ∷ a) (refl, refl))) (omega arith) (refl, refl)) refl (omega arith) (omega arith)) (omega arith)

pub arguments_in : (parts : ExprTrees) → ExprsDeep parts → AreExprs parts → {below deep : ℕ} {nodes : List OpenNode} {behind : List Wanted} (a : List Written)
    → Own below deep nodes ((exprs_spelling parts ++ (word word_is.CloseRound ∷ [])) ++ a) (want.Arguments ∷ behind) → below ≤ length behind
    → Own below (max deep (exprs_depth parts)) nodes a behind
arguments_in no_exprs t b a o less =
    weak (next_word (o) refl (omega arith)) (omega arith)
arguments_in (one_expr e no_exprs) t b a o less =
    weak (word_behind (first_part t.0 b.0 at_arguments (regrouped (spelling e) ([]) (word word_is.CloseRound ∷ []) a (o)) (omega arith) (refl, refl)) refl (omega arith) (omega arith)) (omega arith)
arguments_in (one_expr e (one_expr e2 es)) t b a o less =
    weak (word_behind (more_expressions es t.1.1 b.1.1 (word word_is.CloseRound ∷ a) (first_part t.1.0 b.1.0 at_second_argument (regroup_own (spelling e2) (further_exprs es) ((word word_is.CloseRound ∷ a)) (word_behind (first_part t.0 b.0 at_arguments (regrouped (spelling e) (further_exprs (one_expr e2 es)) (word word_is.CloseRound ∷ []) a (o)) (omega arith) (refl, refl)) refl (omega arith) (omega arith))) (omega arith) (plain_exprs es (word word_is.CloseRound ∷ a) (refl, refl))) (omega arith) (refl, refl)) refl (omega arith) (omega arith)) (omega arith)

pub sequence_in : (parts : ExprTrees) → ExprsDeep parts → AreExprs parts → {below deep : ℕ} {nodes : List OpenNode} {behind : List Wanted} (a : List Written)
    → Own below deep nodes ((exprs_spelling parts ++ (word word_is.CloseSquare ∷ [])) ++ a) (want.InSquare ∷ behind) → below ≤ length behind
    → Own below (max deep (exprs_depth parts)) nodes a behind
sequence_in no_exprs t b a o less =
    weak (next_word (o) refl (omega arith)) (omega arith)
sequence_in (one_expr e no_exprs) t b a o less =
    weak (word_behind (first_part t.0 b.0 at_in_square (regrouped (spelling e) ([]) (word word_is.CloseSquare ∷ []) a (o)) (omega arith) (refl, refl)) refl (omega arith) (omega arith)) (omega arith)
sequence_in (one_expr e (one_expr e2 es)) t b a o less =
    weak (word_behind (more_expressions es t.1.1 b.1.1 (word word_is.CloseSquare ∷ a) (expr_part t.1.0 b.1.0 (regroup_own (spelling e2) (further_exprs es) ((word word_is.CloseSquare ∷ a)) (word_behind (first_part t.0 b.0 at_in_square (regrouped (spelling e) (further_exprs (one_expr e2 es)) (word word_is.CloseSquare ∷ []) a (o)) (omega arith) (refl, refl)) refl (omega arith) (omega arith))) (omega arith) (plain_exprs es (word word_is.CloseSquare ∷ a) (refl, refl))) (omega arith) (refl, refl)) refl (omega arith) (omega arith)) (omega arith)

pub parts_in : (parts : ExprTrees) → ExprsDeep parts → AreExprs parts → {below deep : ℕ} {nodes : List OpenNode} {behind : List Wanted} (a : List Written)
    → Own below deep nodes ((exprs_spelling parts ++ (word word_is.CloseRound ∷ [])) ++ a) (want.Parts ∷ behind) → below ≤ length behind
    → Own below (max deep (exprs_depth parts)) nodes a behind
parts_in no_exprs t b a o less =
    weak (next_word (o) refl (omega arith)) (omega arith)
parts_in (one_expr e es) t b a o less =
    weak (word_behind (more_expressions es t.1 b.1 (word word_is.CloseRound ∷ a) (first_part t.0 b.0 at_parts (regrouped (spelling e) (further_exprs es) (word word_is.CloseRound ∷ []) a (o)) (omega arith) (plain_exprs es (word word_is.CloseRound ∷ a) (refl, refl))) (omega arith) (refl, refl)) refl (omega arith) (omega arith)) (omega arith)

pub tuple_in : (parts : ExprTrees) → ExprsDeep parts → AreExprs parts → AreTwoExprs parts → {below deep : ℕ} {nodes : List OpenNode} {behind : List Wanted} (a : List Written)
    → Own below deep nodes ((exprs_spelling parts ++ (word word_is.CloseRound ∷ [])) ++ a) (want.Expression ∷ want.Comma ∷ want.Expression ∷ want.MoreExpressions ∷ want.CloseRound ∷ behind) → below ≤ length behind
    → Own below (max deep (exprs_depth parts)) nodes a behind
tuple_in no_exprs t b two a o less =
    absurd two
tuple_in (one_expr e no_exprs) t b two a o less =
    absurd two
tuple_in (one_expr e (one_expr e2 es)) t b two a o less =
    weak (word_behind (more_expressions es t.1.1 b.1.1 (word word_is.CloseRound ∷ a) (expr_part t.1.0 b.1.0 (regroup_own (spelling e2) (further_exprs es) ((word word_is.CloseRound ∷ a)) (word_behind (expr_part t.0 b.0 (regrouped (spelling e) (further_exprs (one_expr e2 es)) (word word_is.CloseRound ∷ []) a (o)) (omega arith) (refl, refl)) refl (omega arith) (omega arith))) (omega arith) (plain_exprs es (word word_is.CloseRound ∷ a) (refl, refl))) (omega arith) (refl, refl)) refl (omega arith) (omega arith)) (omega arith)

pub map_in : (parts : MapletTrees) → MapletsDeep parts → AreMaplets parts → AreSomeMaplets parts → {below deep : ℕ} {nodes : List OpenNode} {behind : List Wanted} (a : List Written)
    → Own below deep nodes ((maplets_spelling parts ++ (word word_is.CloseCurly ∷ [])) ++ a) (want.InCurly ∷ behind) → below ≤ length behind
    → Own below (max deep (maplets_depth parts)) nodes a behind
map_in no_maplets t b some a o less =
    absurd some
map_in (one_maplet k v no_maplets) t b some a o less =
    weak (word_behind (expr_part t.1 b.1 (regroup_own (spelling v) ([]) ((word word_is.CloseCurly ∷ a)) (word_behind (first_part t.0 b.0 at_in_curly (regroup_own (spelling k) (_) ((word word_is.CloseCurly ∷ a)) (regroup_own (maplets_spelling (one_maplet k v no_maplets)) ((word word_is.CloseCurly ∷ [])) (a) (o))) (omega arith) (refl, refl)) refl (omega arith) (omega arith))) (omega arith) (refl, refl)) refl (omega arith) (omega arith)) (omega arith)
map_in (one_maplet k v (one_maplet k2 v2 ms)) t b some a o less =
    weak (word_behind (more_pairs ms t.2.2 b.2.2 (word word_is.CloseCurly ∷ a) (expr_part t.2.1 b.2.1 (regroup_own (spelling v2) (further_maplets ms) ((word word_is.CloseCurly ∷ a)) (word_behind (expr_part t.2.0 b.2.0 (regroup_own (spelling k2) (_) ((word word_is.CloseCurly ∷ a)) (word_behind (expr_part t.1 b.1 (regroup_own (spelling v) (_) ((word word_is.CloseCurly ∷ a)) (word_behind (first_part t.0 b.0 at_in_curly (regroup_own (spelling k) (_) ((word word_is.CloseCurly ∷ a)) (regroup_own (maplets_spelling (one_maplet k v (one_maplet k2 v2 ms))) ((word word_is.CloseCurly ∷ [])) (a) (o))) (omega arith) (refl, refl)) refl (omega arith) (omega arith))) (omega arith) (refl, refl)) refl (omega arith) (omega arith))) (omega arith) (refl, refl)) refl (omega arith) (omega arith))) (omega arith) (plain_maplets ms (word word_is.CloseCurly ∷ a) (refl, refl))) (omega arith) (refl, refl)) refl (omega arith) (omega arith)) (omega arith)

pub changes_in : (parts : FieldValueTrees) → FieldValuesDeep parts → AreFieldValues parts → AreSomeFields parts → {below deep : ℕ} {nodes : List OpenNode} {behind : List Wanted} (a : List Written)
    → Own below deep nodes ((field_values_spelling parts ++ (word word_is.CloseRound ∷ [])) ++ a) (want.Identifier ∷ want.MapsTo ∷ want.Expression ∷ want.MoreChanges ∷ want.CloseRound ∷ behind) → below ≤ length behind
    → Own below (max deep (field_values_depth parts)) nodes a behind
changes_in no_field_values t b some a o less =
    absurd some
changes_in (one_field_value n p v fs) t b some a o less =
    weak (word_behind (more_changes fs t.1 b.1 (word word_is.CloseRound ∷ a) (expr_part t.0 b.0 (regrouped (spelling v) (further_field_values fs) (word word_is.CloseRound ∷ []) a (next_word (next_word (o) refl (omega arith)) refl (omega arith))) (omega arith) (plain_fields fs (word word_is.CloseRound ∷ a) (refl, refl))) (omega arith) (refl, refl)) refl (omega arith) (omega arith)) (omega arith)

pub names_in : (names : List NameAt) → AreSomeNames names → {below deep : ℕ} {nodes : List OpenNode} {behind : List Wanted} (a : List Written)
    → Own below deep nodes ((names_spelling names ++ (word word_is.CloseRound ∷ [])) ++ a) (want.Identifier ∷ want.MoreNames ∷ want.CloseRound ∷ behind)
    → below ≤ length behind → Own below deep nodes a behind
names_in [] some a o less = absurd some
names_in (first ∷ names) some a o less =
    next_word (more_names names (word word_is.CloseRound ∷ a) (regroup_own (further_names names) (word word_is.CloseRound ∷ []) a (next_word (o) refl (omega arith))) (omega arith)) refl (omega arith)
