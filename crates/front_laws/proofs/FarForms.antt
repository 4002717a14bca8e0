-- The words of comprehensions and of what reaches as far to the right as it can are read, and of `cases`.
use Rattle.std.proofs.Common.{List, [], ◌∷◌, ◌++◌, Some, None, refl}
use Rattle.vdm_kinds.specs.declared.place.Place.{Place}
use Rattle.vdm_kinds.specs.declared.sign.Sign.TheVariants.{InSet, Equal}
use Rattle.abstract_syntax.specs.Expressions.{ExprTree, MaybeExpr, DefinedTrees, BranchTrees, CaseTrees, BindTree, BindTrees, PatternTree, set_comprehension, map_comprehension, sequence_comprehension, let_in, let_be, def_in, if_else, cases_of, for_all, exists_some, exists_one, iota_of, left_out, given_expr, no_defined, one_defined, no_cases, one_case, bind_in, no_patterns, one_pattern}
use Rattle.grammar_words.specs.declared.word.Word.TheVariants as word_is
use Rattle.grammar_words.specs.Pulls.{far_pull}
use Rattle.grammar_words.specs.Written.{Written, word, at_word}
use Rattle.type_reading.specs.TypeSpelling.{union, type_spelling}
use Rattle.grammar_trees.specs.Spelling.{spelling, definitions_spelling, further_definitions, branches_spelling, cases_spelling, further_cases, bind_spelling, binds_spelling, pattern_spelling, patterns_spelling, further_patterns, such_that, others_spelling}
use Rattle.grammar_trees.specs.Binding.{IsGiven, AreDefinitions, AreCases, IsBind, AreSomeDefinitions, AreSomeCases, HasOnePattern}
use Rattle.grammar_fronts.specs.declared.wanted.Wanted.{Wanted}
use Rattle.grammar_fronts.specs.declared.wanted.Wanted.TheVariants as want
use Rattle.front_laws.proofs.Passing.{Reads, Follows, tok, follow, regroup, refollow}
use Rattle.front_laws.proofs.Starts.{opens, at_in_curly, at_in_square, at_next_case}
use Rattle.front_laws.proofs.Types.{inside, type_reads}
use Rattle.front_laws.proofs.Claims.{ExprRead, within, PatternRead, pattern_within, GivenRead, DefinitionsRead, BranchesRead, CasesRead, BindRead, BindsRead}
use Rattle.front_laws.proofs.Parts.{more_branches, more_bound, more_of_case}
use Rattle.front_laws.proofs.BindsRead.{bind_in-read, binds_in, condition_in_curly, condition_in_square, such_in}

pub set_comprehension-read : (element : ExprTree) (bs : BindTrees) (such : MaybeExpr) (place : Place) → ExprRead element → BindsRead bs → GivenRead such → ExprRead (set_comprehension element bs such place)
set_comprehension-read element bs such place t u v = record { reads = λ m b next more s behind a f. opens s (at_word word_is.OpenCurly place) refl (regroup (spelling element) _ (a) (t.reads far_pull b.0 want.InCurly (want.BehindFirstInCurly ∷ []) at_in_curly (want.BehindOperand ∷ (more ++ behind)) _ (follow (word word_is.Bar) refl refl refl (regroup (binds_spelling bs) _ (a) (binds_in bs u b.2 b.1 (want.Condition ∷ want.CloseCurly ∷ (want.BehindOperand ∷ (more ++ behind))) _ (condition_in_curly such v b.3 (want.BehindOperand ∷ (more ++ behind)) a f.plain)))))) }

pub map_comprehension-read : (key : ExprTree) (value : ExprTree) (bs : BindTrees) (such : MaybeExpr) (place : Place) → ExprRead key → ExprRead value → BindsRead bs → GivenRead such → ExprRead (map_comprehension key value bs such place)
map_comprehension-read key value bs such place t w u v = record { reads = λ m b next more s behind a f. opens s (at_word word_is.OpenCurly place) refl (regroup (spelling key) _ (a) (t.reads far_pull b.0 want.InCurly (want.BehindFirstInCurly ∷ []) at_in_curly (want.BehindOperand ∷ (more ++ behind)) _ (follow (word word_is.MapsTo) refl refl refl (regroup (spelling value) _ (a) (within w far_pull b.1 (follow (word word_is.Bar) refl refl refl (regroup (binds_spelling bs) _ (a) (binds_in bs u b.3 b.2 (want.Condition ∷ want.CloseCurly ∷ (want.BehindOperand ∷ (more ++ behind))) _ (condition_in_curly such v b.4 (want.BehindOperand ∷ (more ++ behind)) a f.plain))))))))) }

pub sequence_comprehension-read : (item : ExprTree) (p : PatternTree) (set : ExprTree) (such : MaybeExpr) (place : Place) → ExprRead item → PatternRead p → ExprRead set → GivenRead such → ExprRead (sequence_comprehension item p set such place)
sequence_comprehension-read item p set such place t q u v = record { reads = λ m b next more s behind a f. opens s (at_word word_is.OpenSquare place) refl (regroup (spelling item) _ (a) (t.reads far_pull b.0 want.InSquare (want.BehindFirstInSquare ∷ []) at_in_square (want.BehindOperand ∷ (more ++ behind)) _ (follow (word word_is.Bar) refl refl refl (regroup (pattern_spelling p) _ (a) (pattern_within q b.1 (tok (word (word_is.Operator InSet)) refl (regroup (spelling set) _ (a) (within u far_pull b.2 (condition_in_square such v b.3 (want.BehindOperand ∷ (more ++ behind)) a f.plain))))))))) }

-- local definitions
more_locals : (ds : DefinedTrees) → DefinitionsRead ds → AreDefinitions ds → (behind : List Wanted) (a : List Written)
    → Follows a (want.BehindOperand ∷ want.MoreLocals ∷ behind) → Follows (further_definitions ds ++ a) (want.BehindOperand ∷ want.MoreLocals ∷ behind)
more_locals no_defined t b behind a f = f
more_locals (one_defined p None v ds) t b behind a f =
    follow (word word_is.Comma) refl refl refl (regroup (pattern_spelling p) _ (a) (pattern_within t.0 b.0 (tok (word (word_is.Operator Equal)) refl (regroup (spelling v) _ (a) (within t.1 far_pull b.2 (more_locals ds t.2 b.3 behind a f))))))
more_locals (one_defined p (Some declared) v ds) t b behind a f =
    follow (word word_is.Comma) refl refl refl (regroup (pattern_spelling p) _ (a) (pattern_within t.0 b.0 (tok (word word_is.Colon) refl (regroup (type_spelling declared) _ (a) (inside (type_reads declared) union b.1 (follow (word (word_is.Operator Equal)) refl refl refl (regroup (spelling v) _ (a) (within t.1 far_pull b.2 (more_locals ds t.2 b.3 behind a f)))))))))

locals_in : (ds : DefinedTrees) → DefinitionsRead ds → AreDefinitions ds → AreSomeDefinitions ds → (behind : List Wanted) (a : List Written)
    → Follows a (want.BehindOperand ∷ want.MoreLocals ∷ want.In ∷ want.Expression ∷ behind)
    → Reads (definitions_spelling ds ++ a) (want.Pattern ∷ want.BehindLet ∷ behind)
locals_in no_defined t b some behind a f = absurd some
locals_in (one_defined p None v ds) t b some behind a f =
    regroup (pattern_spelling p) _ (a) (pattern_within t.0 b.0 (tok (word (word_is.Operator Equal)) refl (regroup (spelling v) _ (a) (within t.1 far_pull b.2 (more_locals ds t.2 b.3 (want.In ∷ want.Expression ∷ behind) a f)))))
locals_in (one_defined p (Some declared) v ds) t b some behind a f =
    regroup (pattern_spelling p) _ (a) (pattern_within t.0 b.0 (tok (word word_is.Colon) refl (regroup (type_spelling declared) _ (a) (inside (type_reads declared) union b.1 (follow (word (word_is.Operator Equal)) refl refl refl (regroup (spelling v) _ (a) (within t.1 far_pull b.2 (more_locals ds t.2 b.3 (want.In ∷ want.Expression ∷ behind) a f))))))))

-- the bind of a `let`
let_bind : (bind : BindTree) → BindRead bind → IsBind bind → (behind : List Wanted) (a : List Written)
    → Follows a (want.BehindOperand ∷ want.SuchThat ∷ want.In ∷ want.Expression ∷ behind)
    → Reads (bind_spelling bind ++ a) (want.Pattern ∷ want.BehindLet ∷ behind)
let_bind (bind_in no_patterns set) t b behind a f = absurd b.0
let_bind (bind_in (one_pattern p no_patterns) set) t b behind a f =
    regroup (patterns_spelling (one_pattern p no_patterns)) (word (word_is.Operator InSet) ∷ spelling set) a
    (regroup (pattern_spelling p) [] (word (word_is.Operator InSet) ∷ (spelling set ++ a)) (pattern_within t.0.0 b.1.0 (tok (word (word_is.Operator InSet)) refl (within t.1 far_pull b.2 (f)))))
let_bind (bind_in (one_pattern p (one_pattern p2 ps)) set) t b behind a f =
    regroup (patterns_spelling (one_pattern p (one_pattern p2 ps))) (word (word_is.Operator InSet) ∷ spelling set) a
    (regroup (pattern_spelling p) (further_patterns (one_pattern p2 ps)) (word (word_is.Operator InSet) ∷ (spelling set ++ a))
    (pattern_within t.0.0 b.1.0 (tok (word word_is.Comma) refl (regroup (pattern_spelling p2) _ (word (word_is.Operator InSet) ∷ (spelling set ++ a)) (pattern_within t.0.1.0 b.1.1.0 (more_bound ps t.0.1.1 b.1.1.1 (want.SuchThat ∷ want.In ∷ want.Expression ∷ behind) _ (tok (word (word_is.Operator InSet)) refl (within t.1 far_pull b.2 (f)))))))))

-- the bind of one pattern
only_bind : (bind : BindTree) → BindRead bind → IsBind bind → HasOnePattern bind → (behind : List Wanted) (a : List Written)
    → Follows a (want.BehindOperand ∷ behind) → Reads (bind_spelling bind ++ a) (want.Pattern ∷ want.BehindOnlyBound ∷ behind)
only_bind (bind_in no_patterns set) t b one behind a f = absurd b.0
only_bind (bind_in (one_pattern p (one_pattern p2 ps)) set) t b one behind a f = absurd one
only_bind (bind_in (one_pattern p no_patterns) set) t b one behind a f =
    regroup (patterns_spelling (one_pattern p no_patterns)) (word (word_is.Operator InSet) ∷ spelling set) a
    (regroup (pattern_spelling p) [] (word (word_is.Operator InSet) ∷ (spelling set ++ a)) (pattern_within t.0.0 b.1.0 (tok (word (word_is.Operator InSet)) refl (within t.1 far_pull b.2 (f)))))

-- alternatives
more_cases : (cs : CaseTrees) → CasesRead cs → AreCases cs → (behind : List Wanted) (a : List Written)
    → Follows a (want.BehindOperand ∷ want.MoreCases ∷ behind) → Follows (further_cases cs ++ a) (want.BehindOperand ∷ want.MoreCases ∷ behind)
more_cases no_cases t b behind a f = f
more_cases (one_case no_patterns v cs) t b behind a f = absurd b.0
more_cases (one_case (one_pattern p ps) v cs) t b behind a f =
    follow (word word_is.Comma) refl refl refl (regroup (patterns_spelling (one_pattern p ps)) (word word_is.Arrow ∷ (spelling v ++ further_cases cs)) a (regroup (pattern_spelling p) (further_patterns ps) (word word_is.Arrow ∷ ((spelling v ++ further_cases cs) ++ a)) (t.0.0.reads b.1.0 want.NextCase (want.BehindCase ∷ want.MoreCases ∷ []) at_next_case behind _ (more_of_case ps t.0.1 b.1.1 (want.MoreCases ∷ behind) _ (tok (word word_is.Arrow) refl (regroup (spelling v) _ (a) (within t.1 far_pull b.2 (more_cases cs t.2 b.3 behind a f))))))))

cases_in : (cs : CaseTrees) → CasesRead cs → AreCases cs → AreSomeCases cs → (behind : List Wanted) (a : List Written)
    → Follows a (want.BehindOperand ∷ want.MoreCases ∷ behind)
    → Reads (cases_spelling cs ++ a) (want.Pattern ∷ want.BehindCase ∷ want.MoreCases ∷ behind)
cases_in no_cases t b some behind a f = absurd some
cases_in (one_case no_patterns v cs) t b some behind a f = absurd b.0
cases_in (one_case (one_pattern p ps) v cs) t b some behind a f =
    regroup (patterns_spelling (one_pattern p ps)) (word word_is.Arrow ∷ (spelling v ++ further_cases cs)) a
    (regroup (pattern_spelling p) (further_patterns ps) (word word_is.Arrow ∷ ((spelling v ++ further_cases cs) ++ a))
    (pattern_within t.0.0 b.1.0 (more_of_case ps t.0.1 b.1.1 (want.MoreCases ∷ behind) _ (tok (word word_is.Arrow) refl (regroup (spelling v) _ (a) (within t.1 far_pull b.2 (more_cases cs t.2 b.3 behind a f)))))))

-- `others` and `end`
end_of_cases : (others : MaybeExpr) → GivenRead others → IsGiven others → (behind : List Wanted) (a : List Written) → Reads a behind
    → Follows ((others_spelling others ++ (word word_is.End ∷ [])) ++ a) (want.BehindOperand ∷ want.MoreCases ∷ behind)
end_of_cases left_out t b behind a r = follow (word word_is.End) refl refl refl (r)
end_of_cases (given_expr e) t b behind a r =
    follow (word word_is.Comma) refl refl refl (tok (word word_is.Others) refl (tok (word word_is.Arrow) refl (regroup (spelling e) _ (a) (within t far_pull b (follow (word word_is.End) refl refl refl (r))))))

pub let_in-read : (ds : DefinedTrees) (body : ExprTree) (place : Place) → DefinitionsRead ds → ExprRead body → ExprRead (let_in ds body place)
let_in-read ds body place t u = record { reads = λ m b next more s behind a f. opens s (at_word word_is.Let place) refl (regroup (definitions_spelling ds) (word word_is.In ∷ spelling body) a (locals_in ds t b.1 b.0 (more ++ behind) _ (follow (word word_is.In) refl refl refl (within u far_pull b.2 (f))))) }

pub let_be-read : (bind : BindTree) (such : MaybeExpr) (body : ExprTree) (place : Place) → BindRead bind → GivenRead such → ExprRead body → ExprRead (let_be bind such body place)
let_be-read bind such body place t v u = record { reads = λ m b next more s behind a f. opens s (at_word word_is.Let place) refl (regroup (bind_spelling bind) (such_that such ++ (word word_is.In ∷ spelling body)) a (let_bind bind t b.0 (more ++ behind) _ (such_in such body v u b.1 b.2 (more ++ behind) a f))) }

pub def_in-read : (p : PatternTree) (value : ExprTree) (body : ExprTree) (place : Place) → PatternRead p → ExprRead value → ExprRead body → ExprRead (def_in p value body place)
def_in-read p value body place q t u = record { reads = λ m b next more s behind a f. opens s (at_word word_is.Def place) refl (regroup (pattern_spelling p) _ (a) (pattern_within q b.0 (tok (word (word_is.Operator Equal)) refl (regroup (spelling value) _ (a) (within t far_pull b.1 (follow (word word_is.In) refl refl refl (within u far_pull b.2 (f)))))))) }

pub if_else-read : (test : ExprTree) (value : ExprTree) (bs : BranchTrees) (otherwise : ExprTree) (place : Place) → ExprRead test → ExprRead value → BranchesRead bs → ExprRead otherwise → ExprRead (if_else test value bs otherwise place)
if_else-read test value bs otherwise place t u v w = record { reads = λ m b next more s behind a f. opens s (at_word word_is.If place) refl (regroup (spelling test) _ (a) (within t far_pull b.0 (follow (word word_is.Then) refl refl refl (regroup (spelling value) _ (a) (within u far_pull b.1 (refollow (branches_spelling bs) (word word_is.Else ∷ spelling otherwise) a (more_branches bs v b.2 (more ++ behind) _ (follow (word word_is.Else) refl refl refl (within w far_pull b.3 (f)))))))))) }

pub cases_of-read : (subject : ExprTree) (cs : CaseTrees) (others : MaybeExpr) (place : Place) → ExprRead subject → CasesRead cs → GivenRead others → ExprRead (cases_of subject cs others place)
cases_of-read subject cs others place t u v = record { reads = λ m b next more s behind a f. opens s (at_word word_is.Cases place) refl (regroup (spelling subject) _ (a) (within t far_pull b.0 (follow (word word_is.Colon) refl refl refl (regroup (cases_spelling cs) (others_spelling others ++ (word word_is.End ∷ [])) a (cases_in cs u b.2 b.1 (want.BehindOperand ∷ (more ++ behind)) _ (end_of_cases others v b.3 (want.BehindOperand ∷ (more ++ behind)) a f.plain)))))) }

pub for_all-read : (bs : BindTrees) (body : ExprTree) (place : Place) → BindsRead bs → ExprRead body → ExprRead (for_all bs body place)
for_all-read bs body place t u = record { reads = λ m b next more s behind a f. opens s (at_word word_is.Forall place) refl (regroup (binds_spelling bs) (word word_is.Ampersand ∷ spelling body) a (binds_in bs t b.1 b.0 (want.Ampersand ∷ want.Expression ∷ (more ++ behind)) _ (follow (word word_is.Ampersand) refl refl refl (within u far_pull b.2 (f))))) }

pub exists_some-read : (bs : BindTrees) (body : ExprTree) (place : Place) → BindsRead bs → ExprRead body → ExprRead (exists_some bs body place)
exists_some-read bs body place t u = record { reads = λ m b next more s behind a f. opens s (at_word word_is.Exists place) refl (regroup (binds_spelling bs) (word word_is.Ampersand ∷ spelling body) a (binds_in bs t b.1 b.0 (want.Ampersand ∷ want.Expression ∷ (more ++ behind)) _ (follow (word word_is.Ampersand) refl refl refl (within u far_pull b.2 (f))))) }

pub exists_one-read : (bind : BindTree) (body : ExprTree) (place : Place) → BindRead bind → ExprRead body → ExprRead (exists_one bind body place)
exists_one-read bind body place t u = record { reads = λ m b next more s behind a f. opens s (at_word word_is.ExistsOne place) refl (regroup (bind_spelling bind) (word word_is.Ampersand ∷ spelling body) a (bind_in-read bind t b.0 (want.Ampersand ∷ want.Expression ∷ (more ++ behind)) _ (follow (word word_is.Ampersand) refl refl refl (within u far_pull b.1 (f))))) }

pub iota_of-read : (bind : BindTree) (body : ExprTree) (place : Place) → BindRead bind → ExprRead body → ExprRead (iota_of bind body place)
iota_of-read bind body place t u = record { reads = λ m b next more s behind a f. opens s (at_word word_is.Iota place) refl (regroup (bind_spelling bind) (word word_is.Ampersand ∷ spelling body) a (only_bind bind t b.0 b.1 (want.Ampersand ∷ want.Expression ∷ (more ++ behind)) _ (follow (word word_is.Ampersand) refl refl refl (within u far_pull b.2 (f))))) }
