-- How deep comprehensions, what reaches as far to the right as it can, and `cases` are.
use Rattle.std.proofs.Common.{ℕ, ◌≤◌, max, List, [], ◌∷◌, ◌++◌, length, Some, None, refl, arith}
use Rattle.vdm_kinds.specs.declared.place.Place.{Place}
use Rattle.vdm_kinds.specs.declared.sign.Sign.TheVariants.{InSet}
use Rattle.abstract_syntax.specs.Depth.{maybe_depth, defined_depth, cases_depth, bind_depth}
use Rattle.abstract_syntax.specs.Expressions.{ExprTree, MaybeExpr, DefinedTrees, BranchTrees, CaseTrees, BindTree, BindTrees, PatternTree, set_comprehension, map_comprehension, sequence_comprehension, let_in, let_be, def_in, if_else, cases_of, for_all, exists_some, exists_one, iota_of, left_out, given_expr, no_defined, one_defined, no_branches, one_branch, no_cases, one_case, bind_in, no_patterns, one_pattern}
use Rattle.grammar_words.specs.declared.word.Word.TheVariants as word_is
use Rattle.grammar_words.specs.Written.{Written, word}
use Rattle.type_reading.specs.TypeSpelling.{type_spelling}
use Rattle.grammar_trees.specs.Spelling.{spelling, definitions_spelling, further_definitions, branches_spelling, cases_spelling, further_cases, bind_spelling, binds_spelling, pattern_spelling, patterns_spelling, further_patterns, behind_word, such_that, others_spelling}
use Rattle.grammar_trees.specs.Binding.{IsGiven, AreDefinitions, AreCases, IsBind, AreSomeDefinitions, AreSomeCases, HasOnePattern}
use Rattle.grammar_fronts.specs.declared.open_node.OpenNode.{OpenNode}
use Rattle.grammar_fronts.specs.declared.wanted.Wanted.{Wanted}
use Rattle.grammar_fronts.specs.declared.wanted.Wanted.TheVariants as want
use Rattle.front_laws.proofs.Starts.{at_in_curly, at_in_square, at_next_case}
use Rattle.front_laws.proofs.Fine.{Plain}
use Rattle.front_laws.proofs.Nests.{Own, At, regroup_own, regroup_at, weaken, begun, own_of, next_word, word_behind, closes, far_closes}
use Rattle.front_laws.proofs.TypesDeep.{type_part, type_deep}
use Rattle.front_laws.proofs.DeepClaims.{ExprDeep, first_part, expr_part, PatternDeep, first_pattern, pattern_part, weak, GivenDeep, DefinitionsDeep, BranchesDeep, CasesDeep, BindDeep, BindsDeep}
use Rattle.front_laws.proofs.DeepParts.{more_branches, more_bound, more_of_case}
use Rattle.front_laws.proofs.DeepBinds.{bind_in-deep, binds_in, condition_in_curly, plain_condition_in_curly, condition_in_square, plain_condition_in_square, such_in, plain_such}

pub set_comprehension-deep : (element : ExprTree) (bs : BindTrees) (such : MaybeExpr) (place : Place) → ExprDeep element → BindsDeep bs → GivenDeep such → ExprDeep (set_comprehension element bs such place)
set_comprehension-deep element bs such place t u v = record { deep = λ m small b next more s behind nodes calm a plain f. closes (condition_in_curly such v b.3 a (binds_in bs u b.2 b.1 _ (regroup_own (binds_spelling bs) (behind_word word_is.Ampersand such ++ (word word_is.CloseCurly ∷ [])) (a) (word_behind (first_part t b.0 at_in_curly (regroup_own (spelling element) (_) (a) (own_of (begun s calm small f refl))) (omega arith) (refl, refl)) refl (omega arith) (omega arith))) (omega arith) (plain_condition_in_curly such a)) (omega arith)) (omega arith) }

pub map_comprehension-deep : (key : ExprTree) (value : ExprTree) (bs : BindTrees) (such : MaybeExpr) (place : Place) → ExprDeep key → ExprDeep value → BindsDeep bs → GivenDeep such → ExprDeep (map_comprehension key value bs such place)
map_comprehension-deep key value bs such place t w u v = record { deep = λ m small b next more s behind nodes calm a plain f. closes (condition_in_curly such v b.4 a (binds_in bs u b.3 b.2 _ (regroup_own (binds_spelling bs) (behind_word word_is.Ampersand such ++ (word word_is.CloseCurly ∷ [])) (a) (word_behind (expr_part w b.1 (regroup_own (spelling value) (_) (a) (word_behind (first_part t b.0 at_in_curly (regroup_own (spelling key) (_) (a) (own_of (begun s calm small f refl))) (omega arith) (refl, refl)) refl (omega arith) (omega arith))) (omega arith) (refl, refl)) refl (omega arith) (omega arith))) (omega arith) (plain_condition_in_curly such a)) (omega arith)) (omega arith) }

pub sequence_comprehension-deep : (item : ExprTree) (p : PatternTree) (set : ExprTree) (such : MaybeExpr) (place : Place) → ExprDeep item → PatternDeep p → ExprDeep set → GivenDeep such → ExprDeep (sequence_comprehension item p set such place)
sequence_comprehension-deep item p set such place t q u v = record { deep = λ m small b next more s behind nodes calm a plain f. closes (condition_in_square such v b.3 a (expr_part u b.2 (regroup_own (spelling set) (behind_word word_is.Ampersand such ++ (word word_is.CloseSquare ∷ [])) (a) (word_behind (pattern_part q b.1 (regroup_own (pattern_spelling p) (_) (a) (word_behind (first_part t b.0 at_in_square (regroup_own (spelling item) (_) (a) (own_of (begun s calm small f refl))) (omega arith) (refl, refl)) refl (omega arith) (omega arith))) (omega arith)) refl (omega arith) (omega arith))) (omega arith) (plain_condition_in_square such a)) (omega arith)) (omega arith) }

plain_locals : (ds : DefinedTrees) (a : List Written) → Plain a → Plain (further_definitions ds ++ a)
plain_locals no_defined a plain = plain
plain_locals (one_defined p None v ds) a plain = (refl, refl)
plain_locals (one_defined p (Some declared) v ds) a plain = (refl, refl)

more_locals : (ds : DefinedTrees) → DefinitionsDeep ds → AreDefinitions ds → {below deep : ℕ} {nodes : List OpenNode} {behind : List Wanted} (a : List Written)
    → At below deep nodes want.BehindOperand (want.MoreLocals ∷ behind) (further_definitions ds ++ a) → below ≤ length behind → Plain a
    → At below (max deep (defined_depth ds)) nodes want.BehindOperand (want.MoreLocals ∷ behind) a
more_locals no_defined t b a p less plain = weaken (omega arith) (p)
more_locals (one_defined q None v ds) t b a p less plain =
    weaken (omega arith) (more_locals ds t.2 b.3 a (expr_part t.1 b.2 (regroup_own (spelling v) (further_definitions ds) (a) (word_behind (pattern_part t.0 b.0 (regroup_own (pattern_spelling q) (_) (a) (word_behind (p) refl (omega arith) (omega arith))) (omega arith)) refl (omega arith) (omega arith))) (omega arith) (plain_locals ds a plain)) less plain)
more_locals (one_defined q (Some declared) v ds) t b a p less plain =
    weaken (omega arith) (more_locals ds t.2 b.3 a (expr_part t.1 b.2 (regroup_own (spelling v) (further_definitions ds) (a) (word_behind (type_part (type_deep declared) b.1 (regroup_own (type_spelling declared) (_) (a) (word_behind (pattern_part t.0 b.0 (regroup_own (pattern_spelling q) (_) (a) (word_behind (p) refl (omega arith) (omega arith))) (omega arith)) refl (omega arith) (omega arith))) (omega arith) (refl, refl)) refl (omega arith) (omega arith))) (omega arith) (plain_locals ds a plain)) less plain)

locals_in : (ds : DefinedTrees) → DefinitionsDeep ds → AreDefinitions ds → AreSomeDefinitions ds → {below deep : ℕ} {nodes : List OpenNode} {behind : List Wanted} (a : List Written)
    → Own below deep nodes (definitions_spelling ds ++ a) (want.Pattern ∷ want.BehindLet ∷ behind) → below ≤ length behind → Plain a
    → At below (max deep (defined_depth ds)) nodes want.BehindOperand (want.MoreLocals ∷ want.In ∷ want.Expression ∷ behind) a
locals_in no_defined t b some a o less plain = absurd some
locals_in (one_defined q None v ds) t b some a o less plain =
    weaken (omega arith) (more_locals ds t.2 b.3 a (expr_part t.1 b.2 (regroup_own (spelling v) (further_definitions ds) (a) (word_behind (pattern_part t.0 b.0 (regroup_own (pattern_spelling q) (_) (a) (o)) (omega arith)) refl (omega arith) (omega arith))) (omega arith) (plain_locals ds a plain)) (omega arith) plain)
locals_in (one_defined q (Some declared) v ds) t b some a o less plain =
    weaken (omega arith) (more_locals ds t.2 b.3 a (expr_part t.1 b.2 (regroup_own (spelling v) (further_definitions ds) (a) (word_behind (type_part (type_deep declared) b.1 (regroup_own (type_spelling declared) (_) (a) (word_behind (pattern_part t.0 b.0 (regroup_own (pattern_spelling q) (_) (a) (o)) (omega arith)) refl (omega arith) (omega arith))) (omega arith) (refl, refl)) refl (omega arith) (omega arith))) (omega arith) (plain_locals ds a plain)) (omega arith) plain)

let_bind : (bind : BindTree) → BindDeep bind → IsBind bind → {below deep : ℕ} {nodes : List OpenNode} {behind : List Wanted} (a : List Written)
    → Own below deep nodes (bind_spelling bind ++ a) (want.Pattern ∷ want.BehindLet ∷ behind) → below ≤ length behind → Plain a
    → At below (max deep (bind_depth bind)) nodes want.BehindOperand (want.SuchThat ∷ want.In ∷ want.Expression ∷ behind) a
let_bind (bind_in no_patterns set) t b a o less plain = absurd b.0
let_bind (bind_in (one_pattern p no_patterns) set) t b a o less plain =
    weaken (omega arith) (expr_part t.1 b.2 (word_behind (pattern_part t.0.0 b.1.0 (regroup_own (pattern_spelling p) ([]) (word (word_is.Operator InSet) ∷ (spelling set ++ a)) (regroup_own (patterns_spelling (one_pattern p no_patterns)) (word (word_is.Operator InSet) ∷ spelling set) (a) (o))) (omega arith)) refl (omega arith) (omega arith)) (omega arith) plain)
let_bind (bind_in (one_pattern p (one_pattern p2 ps)) set) t b a o less plain =
    weaken (omega arith) (expr_part t.1 b.2 (word_behind (more_bound ps t.0.1.1 b.1.1.1 (word (word_is.Operator InSet) ∷ (spelling set ++ a)) (pattern_part t.0.1.0 b.1.1.0 (regroup_own (pattern_spelling p2) (further_patterns ps) (word (word_is.Operator InSet) ∷ (spelling set ++ a)) (word_behind (pattern_part t.0.0 b.1.0 (regroup_own (pattern_spelling p) (further_patterns (one_pattern p2 ps)) (word (word_is.Operator InSet) ∷ (spelling set ++ a)) (regroup_own (patterns_spelling (one_pattern p (one_pattern p2 ps))) (word (word_is.Operator InSet) ∷ spelling set) (a) (o))) (omega arith)) refl (omega arith) (omega arith))) (omega arith)) (omega arith)) refl (omega arith) (omega arith)) (omega arith) plain)

only_bind : (bind : BindTree) → BindDeep bind → IsBind bind → HasOnePattern bind → {below deep : ℕ} {nodes : List OpenNode} {behind : List Wanted} (a : List Written)
    → Own below deep nodes (bind_spelling bind ++ a) (want.Pattern ∷ want.BehindOnlyBound ∷ behind) → below ≤ length behind → Plain a
    → At below (max deep (bind_depth bind)) nodes want.BehindOperand behind a
only_bind (bind_in no_patterns set) t b one a o less plain = absurd b.0
only_bind (bind_in (one_pattern p (one_pattern p2 ps)) set) t b one a o less plain = absurd one
only_bind (bind_in (one_pattern p no_patterns) set) t b one a o less plain =
    weaken (omega arith) (expr_part t.1 b.2 (word_behind (pattern_part t.0.0 b.1.0 (regroup_own (pattern_spelling p) ([]) (word (word_is.Operator InSet) ∷ (spelling set ++ a)) (regroup_own (patterns_spelling (one_pattern p no_patterns)) (word (word_is.Operator InSet) ∷ spelling set) (a) (o))) (omega arith)) refl (omega arith) (omega arith)) (omega arith) plain)

plain_cases : (cs : CaseTrees) (a : List Written) → Plain a → Plain (further_cases cs ++ a)
plain_cases no_cases a plain = plain
plain_cases (one_case ps v cs) a plain = (refl, refl)

more_cases : (cs : CaseTrees) → CasesDeep cs → AreCases cs → {below deep : ℕ} {nodes : List OpenNode} {behind : List Wanted} (a : List Written)
    → At below deep nodes want.BehindOperand (want.MoreCases ∷ behind) (further_cases cs ++ a) → below ≤ length behind → Plain a
    → At below (max deep (cases_depth cs)) nodes want.BehindOperand (want.MoreCases ∷ behind) a
more_cases no_cases t b a p less plain = weaken (omega arith) (p)
more_cases (one_case no_patterns v cs) t b a p less plain = absurd b.0
more_cases (one_case (one_pattern q ps) v cs) t b a p less plain =
    weaken (omega arith) (more_cases cs t.2 b.3 a (expr_part t.1 b.2 (regroup_own (spelling v) (further_cases cs) (a) (word_behind (more_of_case ps t.0.1 b.1.1 (word word_is.Arrow ∷ ((spelling v ++ further_cases cs) ++ a)) (first_pattern t.0.0 b.1.0 at_next_case (regroup_own (pattern_spelling q) (further_patterns ps) (word word_is.Arrow ∷ ((spelling v ++ further_cases cs) ++ a)) (regroup_own (patterns_spelling (one_pattern q ps)) (word word_is.Arrow ∷ (spelling v ++ further_cases cs)) (a) (word_behind (p) refl (omega arith) (omega arith)))) (omega arith)) (omega arith)) refl (omega arith) (omega arith))) (omega arith) (plain_cases cs a plain)) less plain)

cases_in : (cs : CaseTrees) → CasesDeep cs → AreCases cs → AreSomeCases cs → {below deep : ℕ} {nodes : List OpenNode} {behind : List Wanted} (a : List Written)
    → Own below deep nodes (cases_spelling cs ++ a) (want.Pattern ∷ want.BehindCase ∷ want.MoreCases ∷ behind) → below ≤ length behind → Plain a
    → At below (max deep (cases_depth cs)) nodes want.BehindOperand (want.MoreCases ∷ behind) a
cases_in no_cases t b some a o less plain = absurd some
cases_in (one_case no_patterns v cs) t b some a o less plain = absurd b.0
cases_in (one_case (one_pattern q ps) v cs) t b some a o less plain =
    weaken (omega arith) (more_cases cs t.2 b.3 a (expr_part t.1 b.2 (regroup_own (spelling v) (further_cases cs) (a) (word_behind (more_of_case ps t.0.1 b.1.1 (word word_is.Arrow ∷ ((spelling v ++ further_cases cs) ++ a)) (pattern_part t.0.0 b.1.0 (regroup_own (pattern_spelling q) (further_patterns ps) (word word_is.Arrow ∷ ((spelling v ++ further_cases cs) ++ a)) (regroup_own (patterns_spelling (one_pattern q ps)) (word word_is.Arrow ∷ (spelling v ++ further_cases cs)) (a) (o))) (omega arith)) (omega arith)) refl (omega arith) (omega arith))) (omega arith) (plain_cases cs a plain)) less plain)

end_of_cases : (others : MaybeExpr) → GivenDeep others → IsGiven others → {below deep : ℕ} {nodes : List OpenNode} {behind : List Wanted} (a : List Written)
    → At below deep nodes want.BehindOperand (want.MoreCases ∷ behind) ((others_spelling others ++ (word word_is.End ∷ [])) ++ a) → below ≤ length behind
    → Own below (max deep (maybe_depth others)) nodes a behind
end_of_cases left_out t b a p less = weak (word_behind (p) refl (omega arith) (omega arith)) (omega arith)
end_of_cases (given_expr e) t b a p less =
    weak (word_behind (expr_part t b (regroup_own (spelling e) (word word_is.End ∷ []) (a) (next_word (next_word (word_behind (p) refl (omega arith) (omega arith)) refl (omega arith)) refl (omega arith))) (omega arith) (refl, refl)) refl (omega arith) (omega arith)) (omega arith)

plain_end : (others : MaybeExpr) (a : List Written) → Plain ((others_spelling others ++ (word word_is.End ∷ [])) ++ a)
plain_end left_out a = (refl, refl)
plain_end (given_expr e) a = (refl, refl)

plain_choice : (bs : BranchTrees) (otherwise : ExprTree) (a : List Written) → Plain ((branches_spelling bs ++ (word word_is.Else ∷ spelling otherwise)) ++ a)
plain_choice no_branches otherwise a = (refl, refl)
plain_choice (one_branch c v bs) otherwise a = (refl, refl)

pub let_in-deep : (ds : DefinedTrees) (body : ExprTree) (place : Place) → DefinitionsDeep ds → ExprDeep body → ExprDeep (let_in ds body place)
let_in-deep ds body place t u = record { deep = λ m small b next more s behind nodes calm a plain f. far_closes (expr_part u b.2 (word_behind (locals_in ds t b.1 b.0 _ (regroup_own (definitions_spelling ds) (word word_is.In ∷ spelling body) (a) (own_of (begun s calm small f refl))) (omega arith) (refl, refl)) refl (omega arith) (omega arith)) (omega arith) plain) (omega arith) }

pub let_be-deep : (bind : BindTree) (such : MaybeExpr) (body : ExprTree) (place : Place) → BindDeep bind → GivenDeep such → ExprDeep body → ExprDeep (let_be bind such body place)
let_be-deep bind such body place t v u = record { deep = λ m small b next more s behind nodes calm a plain f. far_closes (expr_part u b.2 (such_in such body v b.1 a (let_bind bind t b.0 _ (regroup_own (bind_spelling bind) (such_that such ++ (word word_is.In ∷ spelling body)) (a) (own_of (begun s calm small f refl))) (omega arith) (plain_such such body a)) (omega arith)) (omega arith) plain) (omega arith) }

pub def_in-deep : (p : PatternTree) (value : ExprTree) (body : ExprTree) (place : Place) → PatternDeep p → ExprDeep value → ExprDeep body → ExprDeep (def_in p value body place)
def_in-deep p value body place q t u = record { deep = λ m small b next more s behind nodes calm a plain f. far_closes (expr_part u b.2 (word_behind (expr_part t b.1 (regroup_own (spelling value) (word word_is.In ∷ spelling body) (a) (word_behind (pattern_part q b.0 (regroup_own (pattern_spelling p) (_) (a) (own_of (begun s calm small f refl))) (omega arith)) refl (omega arith) (omega arith))) (omega arith) (refl, refl)) refl (omega arith) (omega arith)) (omega arith) plain) (omega arith) }

pub if_else-deep : (test : ExprTree) (value : ExprTree) (bs : BranchTrees) (otherwise : ExprTree) (place : Place) → ExprDeep test → ExprDeep value → BranchesDeep bs → ExprDeep otherwise → ExprDeep (if_else test value bs otherwise place)
if_else-deep test value bs otherwise place t u v w = record { deep = λ m small b next more s behind nodes calm a plain f. far_closes (expr_part w b.3 (word_behind (more_branches bs v b.2 (word word_is.Else ∷ (spelling otherwise ++ a)) (regroup_at (branches_spelling bs) (word word_is.Else ∷ spelling otherwise) a (expr_part u b.1 (regroup_own (spelling value) (branches_spelling bs ++ (word word_is.Else ∷ spelling otherwise)) (a) (word_behind (expr_part t b.0 (regroup_own (spelling test) (_) (a) (own_of (begun s calm small f refl))) (omega arith) (refl, refl)) refl (omega arith) (omega arith))) (omega arith) (plain_choice bs otherwise a))) (omega arith) (refl, refl)) refl (omega arith) (omega arith)) (omega arith) plain) (omega arith) }

pub cases_of-deep : (subject : ExprTree) (cs : CaseTrees) (others : MaybeExpr) (place : Place) → ExprDeep subject → CasesDeep cs → GivenDeep others → ExprDeep (cases_of subject cs others place)
cases_of-deep subject cs others place t u v = record { deep = λ m small b next more s behind nodes calm a plain f. closes (end_of_cases others v b.3 a (cases_in cs u b.2 b.1 _ (regroup_own (cases_spelling cs) (others_spelling others ++ (word word_is.End ∷ [])) (a) (word_behind (expr_part t b.0 (regroup_own (spelling subject) (_) (a) (own_of (begun s calm small f refl))) (omega arith) (refl, refl)) refl (omega arith) (omega arith))) (omega arith) (plain_end others a)) (omega arith)) (omega arith) }

pub for_all-deep : (bs : BindTrees) (body : ExprTree) (place : Place) → BindsDeep bs → ExprDeep body → ExprDeep (for_all bs body place)
for_all-deep bs body place t u = record { deep = λ m small b next more s behind nodes calm a plain f. far_closes (expr_part u b.2 (word_behind (binds_in bs t b.1 b.0 _ (regroup_own (binds_spelling bs) (word word_is.Ampersand ∷ spelling body) (a) (own_of (begun s calm small f refl))) (omega arith) (refl, refl)) refl (omega arith) (omega arith)) (omega arith) plain) (omega arith) }

pub exists_some-deep : (bs : BindTrees) (body : ExprTree) (place : Place) → BindsDeep bs → ExprDeep body → ExprDeep (exists_some bs body place)
exists_some-deep bs body place t u = record { deep = λ m small b next more s behind nodes calm a plain f. far_closes (expr_part u b.2 (word_behind (binds_in bs t b.1 b.0 _ (regroup_own (binds_spelling bs) (word word_is.Ampersand ∷ spelling body) (a) (own_of (begun s calm small f refl))) (omega arith) (refl, refl)) refl (omega arith) (omega arith)) (omega arith) plain) (omega arith) }

pub exists_one-deep : (bind : BindTree) (body : ExprTree) (place : Place) → BindDeep bind → ExprDeep body → ExprDeep (exists_one bind body place)
exists_one-deep bind body place t u = record { deep = λ m small b next more s behind nodes calm a plain f. far_closes (expr_part u b.1 (word_behind (bind_in-deep bind t b.0 _ (regroup_own (bind_spelling bind) (word word_is.Ampersand ∷ spelling body) (a) (own_of (begun s calm small f refl))) (omega arith) (refl, refl)) refl (omega arith) (omega arith)) (omega arith) plain) (omega arith) }

pub iota_of-deep : (bind : BindTree) (body : ExprTree) (place : Place) → BindDeep bind → ExprDeep body → ExprDeep (iota_of bind body place)
iota_of-deep bind body place t u = record { deep = λ m small b next more s behind nodes calm a plain f. far_closes (expr_part u b.2 (word_behind (only_bind bind t b.0 b.1 _ (regroup_own (bind_spelling bind) (word word_is.Ampersand ∷ spelling body) (a) (own_of (begun s calm small f refl))) (omega arith) (refl, refl)) refl (omega arith) (omega arith)) (omega arith) plain) (omega arith) }
