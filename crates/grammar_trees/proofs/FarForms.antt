-- What reaches as far to the right as it can is read, and `cases`.
use Rattle.std.proofs.Common.{◌≡◌, ℕ, List, [], ◌∷◌, ◌++◌, Option, Some, None, refl, sym, subst, append_assoc}
use Rattle.abstract_syntax.specs.Expressions.{ExprTree, MaybeExpr, DefinedTrees, BranchTrees, CaseTrees, BindTree, BindTrees, PatternTree, PatternTrees, let_in, let_be, def_in, if_else, cases_of, left_out, given_expr, no_defined, one_defined, no_branches, one_branch, no_cases, one_case, bind_in, no_binds, no_patterns, one_pattern}
use Rattle.grammar_words.specs.Pulls.{far_pull, closed}
use Rattle.grammar_trees.specs.Spelling.{declared_spelling, spelling, others_spelling, definitions_spelling, further_definitions, branches_spelling, cases_spelling, further_cases, bind_spelling, pattern_spelling, patterns_spelling, further_patterns}
use Rattle.grammar_trees.specs.Binding.{AreSomePatterns, AreSomeDefinitions, AreSomeCases, IsDeclared, Binds, IsGiven, AreDefinitions, AreBranches, AreCases, IsBind, IsPattern, ArePatterns}
use Rattle.grammar_trees.specs.Lists.{then_defined, then_branches, then_cases, then_patterns, and_defined, and_branch, and_case, and_pattern, only_pattern}
use Rattle.grammar_trees.specs.Frames.{Frame, State, such_one, let_body, such_body, def_body, else_body, body, let_value, let_such, if_then, elseif_then, case_value, others_value, let_start, let_next, case_patterns, let_type, st_then, arrow_then, wants, has, wants_pattern, has_pattern, awaits, typing}
use Rattle.grammar_trees.specs.Machine.{in_mode, others_of, TypeReader, step}
use Rattle.grammar_words.specs.Tokens.{plain}
use Rattle.grammar_words.specs.Written.{Written, word}
use Rattle.abstract_syntax.specs.Types.{TypeTree}
use Rattle.vdm_kinds.specs.declared.place.Place.{Place}
use Rattle.grammar_words.specs.declared.word.Word.{Word}
use Rattle.grammar_words.specs.declared.word.Word.TheVariants as word_is
use Rattle.vdm_kinds.specs.declared.sign.Sign.TheVariants as sign_is
use Rattle.grammar_trees.proofs.Ends.{word_below}
use Rattle.grammar_trees.proofs.Leading.{nothing_more, at_token, at_any, regroup, below_one, small, part, Leads, Taken}
use Rattle.grammar_trees.proofs.Assoc.{defined-assoc, branches-assoc, cases-assoc, patterns-assoc}
use Rattle.grammar_trees.proofs.PatternParts.{below_closed, in_set_below, pattern_part, IsOther, PatternsTaken, PatternTaken}
use Rattle.grammar_trees.proofs.ListsTaken.{GivenTaken}
use Rattle.grammar_trees.proofs.TypesTaken.{type-ends, ReadsTypes}
use Rattle.grammar_trees.proofs.BindsTaken.{bound-leads, body-leads, BindTaken, IsBehind}

abbrev pub DefinitionsTaken : TypeReader → DefinedTrees → Type 0
DefinitionsTaken types no_defined = Unit {0}
DefinitionsTaken types (one_defined p t v ds) = PatternTaken types p × Taken types v × DefinitionsTaken types ds

abbrev pub BranchesTaken : TypeReader → BranchTrees → Type 0
BranchesTaken types no_branches = Unit {0}
BranchesTaken types (one_branch c v bs) = Taken types c × Taken types v × BranchesTaken types bs

abbrev pub CasesTaken : TypeReader → CaseTrees → Type 0
CasesTaken types no_cases = Unit {0}
CasesTaken types (one_case ps v cs) = PatternsTaken types ps × Taken types v × CasesTaken types cs

-- ---- choices

branches-leads : (types : TypeReader) (n : ℕ) (ws : List Written) (after : State) (test value : ExprTree) (bs done : BranchTrees) (next e : ExprTree) (place : Place) (fs : List Frame) → Taken types e → BranchesTaken types bs → Binds e far_pull → AreBranches bs → Leads types n ws (in_mode wants (body (else_body test value (then_branches done (one_branch next e bs))) place ∷ fs)) after → Leads types n (spelling e ++ (branches_spelling bs ++ word word_is.Else ∷ ws)) (in_mode wants (elseif_then test value done next place ∷ fs)) after
branches-leads types n ws after test value no_branches done next e place fs t ts b bs r = part e word_is.Else t b below_one small (λ spot. refl) r
branches-leads types n ws after test value (one_branch c v more) done next e place fs t ts b bs r =
    part e word_is.Elseif t b below_one small (λ spot. refl)
    (regroup (spelling c) (word word_is.Then ∷ spelling v ++ branches_spelling more) (word word_is.Else ∷ ws)
    (part c word_is.Then ts.0 bs.0 below_one small (λ spot. refl)
    (regroup (spelling v) (branches_spelling more) (word word_is.Else ∷ ws)
    (branches-leads types n ws after test value more (and_branch done next e) c v place fs ts.1 ts.2 bs.1 bs.2
    (subst (λ (all : BranchTrees). Leads types n ws (in_mode wants (body (else_body test value all) place ∷ fs)) after) (sym (branches-assoc done (one_branch next e no_branches) (one_branch c v more))) r)))))

first-leads : (types : TypeReader) (n : ℕ) (ws : List Written) (after : State) (test value : ExprTree) (bs : BranchTrees) (place : Place) (fs : List Frame) → Taken types value → BranchesTaken types bs → Binds value far_pull → AreBranches bs → Leads types n ws (in_mode wants (body (else_body test value bs) place ∷ fs)) after → Leads types n (spelling value ++ (branches_spelling bs ++ word word_is.Else ∷ ws)) (in_mode wants (if_then test place ∷ fs)) after
first-leads types n ws after test value no_branches place fs t ts b bs r = part value word_is.Else t b below_one small (λ spot. refl) r
first-leads types n ws after test value (one_branch c v more) place fs t ts b bs r =
    part value word_is.Elseif t b below_one small (λ spot. refl)
    (regroup (spelling c) (word word_is.Then ∷ spelling v ++ branches_spelling more) (word word_is.Else ∷ ws)
    (part c word_is.Then ts.0 bs.0 below_one small (λ spot. refl)
    (regroup (spelling v) (branches_spelling more) (word word_is.Else ∷ ws)
    (branches-leads types n ws after test value more no_branches c v place fs ts.1 ts.2 bs.1 bs.2 r))))

pub if_else-taken : (types : TypeReader) (test value : ExprTree) (elseifs : BranchTrees) (otherwise : ExprTree) (place : Place) → Taken types test → Taken types value → BranchesTaken types elseifs → Taken types otherwise → Taken types (if_else test value elseifs otherwise place)
if_else-taken types test value elseifs otherwise place t u v w =
    record {
      taken = λ m fs b p. at_token (plain word_is.If place) refl (part test word_is.Then t b.0 below_one small (λ spot. refl)
          (first-leads types far_pull (spelling otherwise) _ test value elseifs place fs u v b.1 b.2 (body-leads types (else_body test value elseifs) otherwise place fs w b.3)));
    }

-- ---- definitions

regroup_inside : {types : TypeReader} {n : ℕ} {before after : State} (p a b c : List Written) → Leads types n (p ++ (a ++ (b ++ c))) before after → Leads types n (p ++ ((a ++ b) ++ c)) before after
regroup_inside {types = types} {n = n} {before = before} {after = after} p a b c r = subst (λ (ws : List Written). Leads types n (p ++ ws) before after) (sym (append_assoc a b c)) r

-- a pattern with its type, up to the `=`
definition-leads : (types : TypeReader) (n : ℕ) (ws : List Written) (f : Frame) (done : DefinedTrees) (p : PatternTree) (declared : Option TypeTree) (place : Place) (fs : List Frame) (after : State) → ReadsTypes types → PatternTaken types p → IsPattern p → IsDeclared declared → IsOther (f ∷ fs)
    → ((spot : Place) → step types (in_mode (has_pattern p) (f ∷ fs)) (plain word_is.Colon spot) ≡ in_mode (typing []) (let_type done p place ∷ fs))
    → ((spot : Place) → step types (in_mode (has_pattern p) (f ∷ fs)) (plain (word_is.Operator sign_is.Equal) spot) ≡ in_mode wants (let_value done p None place ∷ fs))
    → Leads types n ws (in_mode wants (let_value done p declared place ∷ fs)) after → Leads types n (pattern_spelling p ++ (declared_spelling declared ++ word (word_is.Operator sign_is.Equal) ∷ ws)) (in_mode wants_pattern (f ∷ fs)) after
definition-leads types n ws f done p None place fs after reader t g d o c e r = pattern_part p (word_is.Operator sign_is.Equal) t g o in_set_below refl e r
definition-leads types n ws f done p (Some declared) place fs after reader t g d o c e r =
    pattern_part p word_is.Colon t g o below_closed refl c
    (type-ends types n (word_is.Operator sign_is.Equal) ws declared (let_type done p place ∷ fs) (in_mode wants (let_value done p (Some declared) place ∷ fs)) after reader d (λ own spot q. rw q refl) r)

definitions-leads : (types : TypeReader) (n : ℕ) (ws : List Written) (ds done : DefinedTrees) (p : PatternTree) (declared : Option TypeTree) (v : ExprTree) (place : Place) (fs : List Frame) (after : State) → ReadsTypes types → Taken types v → Binds v far_pull → DefinitionsTaken types ds → AreDefinitions ds → Leads types n ws (in_mode wants (body (let_body (then_defined done (one_defined p declared v ds))) place ∷ fs)) after → Leads types n ((spelling v ++ further_definitions ds) ++ word word_is.In ∷ ws) (in_mode wants (let_value done p declared place ∷ fs)) after
definitions-leads types n ws no_defined done p declared v place fs after reader t b ts bs r =
    regroup (spelling v) [] (word word_is.In ∷ ws) (part v word_is.In t b below_one small (λ spot. refl) r)
definitions-leads types n ws (one_defined q d u ds) done p declared v place fs after reader t b ts bs r =
    regroup (spelling v) (further_definitions (one_defined q d u ds)) (word word_is.In ∷ ws) (part v word_is.Comma t b below_one small (λ spot. refl)
    (regroup (pattern_spelling q) (declared_spelling d ++ (word (word_is.Operator sign_is.Equal) ∷ spelling u ++ further_definitions ds)) (word word_is.In ∷ ws)
    (regroup_inside (pattern_spelling q) (declared_spelling d) (word (word_is.Operator sign_is.Equal) ∷ spelling u ++ further_definitions ds) (word word_is.In ∷ ws)
    (definition-leads types n ((spelling u ++ further_definitions ds) ++ word word_is.In ∷ ws) (let_next (and_defined done p declared v) place) (and_defined done p declared v) q d place fs after reader ts.0 bs.0 bs.1 tt (λ spot. refl) (λ spot. refl)
    (definitions-leads types n ws ds (and_defined done p declared v) q d u place fs after reader ts.1 bs.2 ts.2 bs.3
    (subst (λ (all : DefinedTrees). Leads types n ws (in_mode wants (body (let_body all) place ∷ fs)) after) (sym (defined-assoc done (one_defined p declared v no_defined) (one_defined q d u ds))) r))))))

let-leads : (types : TypeReader) (n : ℕ) (ws : List Written) (ds : DefinedTrees) (place : Place) (fs : List Frame) (after : State) → ReadsTypes types → DefinitionsTaken types ds → AreSomeDefinitions ds → AreDefinitions ds → Leads types n ws (in_mode wants (body (let_body ds) place ∷ fs)) after → Leads types n (definitions_spelling ds ++ word word_is.In ∷ ws) (in_mode wants_pattern (let_start place ∷ fs)) after
let-leads types n ws no_defined place fs after reader ts h bs r = absurd h
let-leads types n ws (one_defined q d u ds) place fs after reader ts h bs r =
    regroup (pattern_spelling q) (declared_spelling d ++ (word (word_is.Operator sign_is.Equal) ∷ spelling u ++ further_definitions ds)) (word word_is.In ∷ ws)
    (regroup_inside (pattern_spelling q) (declared_spelling d) (word (word_is.Operator sign_is.Equal) ∷ spelling u ++ further_definitions ds) (word word_is.In ∷ ws)
    (definition-leads types n ((spelling u ++ further_definitions ds) ++ word word_is.In ∷ ws) (let_start place) no_defined q d place fs after reader ts.0 bs.0 bs.1 tt (λ spot. refl) (λ spot. refl)
    (definitions-leads types n ws ds no_defined q d u place fs after reader ts.1 bs.2 ts.2 bs.3 r)))

pub let_in-taken : (types : TypeReader) → ReadsTypes types → (definitions : DefinedTrees) (e : ExprTree) (place : Place) → DefinitionsTaken types definitions → Taken types e → Taken types (let_in definitions e place)
let_in-taken types reader definitions e place u t =
    record {
      taken = λ m fs b p. at_token (plain word_is.Let place) refl
          (let-leads types far_pull (spelling e) definitions place fs _ reader u b.0 b.1 (body-leads types (let_body definitions) e place fs t b.2));
    }

-- the bind behind `let`, and the word behind it
such-leads : (types : TypeReader) (n : ℕ) (ws : List Written) (bind : BindTree) (w : Word) (place : Place) (fs : List Frame) (next : BindTrees → BindTree → State) (after : State) → BindTaken types bind → IsBind bind → word_below w 1 → IsBehind types such_one w place fs next → Leads types n ws (next no_binds bind) after → Leads types n (bind_spelling bind ++ word w ∷ ws) (in_mode wants_pattern (let_start place ∷ fs)) after
such-leads types n ws (bind_in no_patterns set) w place fs next after t g c s r = absurd g.0
such-leads types n ws (bind_in (one_pattern p no_patterns) set) w place fs next after t g c s r =
    regroup (patterns_spelling (only_pattern p)) (word (word_is.Operator sign_is.InSet) ∷ spelling set) (word w ∷ ws)
    (regroup (pattern_spelling p) [] (word (word_is.Operator sign_is.InSet) ∷ spelling set ++ word w ∷ ws)
    (pattern_part p (word_is.Operator sign_is.InSet) t.0.0 g.1.0 tt in_set_below refl (λ spot. refl)
    (part set w t.1 g.2 c small (λ spot. s no_binds (only_pattern p) set spot) r)))
such-leads types n ws (bind_in (one_pattern p (one_pattern q ps)) set) w place fs next after t g c s r =
    regroup (patterns_spelling (one_pattern p (one_pattern q ps))) (word (word_is.Operator sign_is.InSet) ∷ spelling set) (word w ∷ ws)
    (regroup (pattern_spelling p) (further_patterns (one_pattern q ps)) (word (word_is.Operator sign_is.InSet) ∷ spelling set ++ word w ∷ ws)
    (pattern_part p word_is.Comma t.0.0 g.1.0 tt below_closed refl (λ spot. refl)
    (bound-leads types n (spelling set ++ word w ∷ ws) such_one no_binds ps (only_pattern p) q place fs after t.0.1.0 t.0.1.1 g.1.1.0 g.1.1.1 (λ bs qs spot gs. refl)
    (part set w t.1 g.2 c small (λ spot. s no_binds (one_pattern p (one_pattern q ps)) set spot) r))))

pub let_be-taken : (types : TypeReader) (bind : BindTree) (such : MaybeExpr) (e : ExprTree) (place : Place) → BindTaken types bind → GivenTaken types such → Taken types e → Taken types (let_be bind such e place)
let_be-taken types bind left_out e place u v t =
    record {
      taken = λ m fs b p. at_token (plain word_is.Let place) refl
          (such-leads types far_pull (spelling e) bind word_is.In place fs (λ (bs : BindTrees) (d : BindTree). in_mode wants (body (such_body d left_out) place ∷ fs)) _ u b.0 below_one (λ bs ps set spot. refl)
          (body-leads types (such_body bind left_out) e place fs t b.2));
    }
let_be-taken types bind (given_expr such) e place u v t =
    record {
      taken = λ m fs b p. at_token (plain word_is.Let place) refl
          (such-leads types far_pull (word word_is.St ∷ spelling such ++ word word_is.In ∷ spelling e) bind word_is.Be place fs (λ (bs : BindTrees) (d : BindTree). in_mode (awaits (st_then (let_such d place))) fs) _ u b.0 below_one (λ bs ps set spot. refl)
          (at_any word_is.St (λ spot. refl) (part such word_is.In v b.1 below_one small (λ spot. refl)
          (body-leads types (such_body bind (given_expr such)) e place fs t b.2))));
    }

pub def_in-taken : (types : TypeReader) (pattern : PatternTree) (value e : ExprTree) (place : Place) → PatternTaken types pattern → Taken types value → Taken types e → Taken types (def_in pattern value e place)
def_in-taken types pattern value e place u v t =
    record {
      taken = λ m fs b p. at_token (plain word_is.Def place) refl
          (pattern_part pattern (word_is.Operator sign_is.Equal) u b.0 tt in_set_below refl (λ spot. refl)
          (part value word_is.In v b.1 below_one small (λ spot. refl) (body-leads types (def_body pattern value) e place fs t b.2)));
    }

-- ---- cases

case-leads : (types : TypeReader) (n : ℕ) (ws : List Written) (e : ExprTree) (cases : CaseTrees) (ps done : PatternTrees) (p : PatternTree) (place : Place) (fs : List Frame) (after : State) → PatternTaken types p → PatternsTaken types ps → IsPattern p → ArePatterns ps → Leads types n ws (in_mode wants (case_value e cases (then_patterns done (one_pattern p ps)) place ∷ fs)) after → Leads types n (patterns_spelling (one_pattern p ps) ++ word word_is.Arrow ∷ ws) (in_mode wants_pattern (case_patterns e cases done place ∷ fs)) after
case-leads types n ws e cases no_patterns done p place fs after t ts g gs r =
    regroup (pattern_spelling p) [] (word word_is.Arrow ∷ ws) (pattern_part p word_is.Arrow t g tt below_closed refl (λ spot. refl) r)
case-leads types n ws e cases (one_pattern next ps) done p place fs after t ts g gs r =
    regroup (pattern_spelling p) (further_patterns (one_pattern next ps)) (word word_is.Arrow ∷ ws) (pattern_part p word_is.Comma t g tt below_closed refl (λ spot. refl)
    (case-leads types n ws e cases ps (and_pattern done p) next place fs after ts.0 ts.1 gs.0 gs.1
    (subst (λ (all : PatternTrees). Leads types n ws (in_mode wants (case_value e cases all place ∷ fs)) after) (sym (patterns-assoc done (one_pattern p no_patterns) (one_pattern next ps))) r)))

patterns-leads : (types : TypeReader) (n : ℕ) (ws : List Written) (e : ExprTree) (cases : CaseTrees) (ps : PatternTrees) (place : Place) (fs : List Frame) (after : State) → PatternsTaken types ps → AreSomePatterns ps → ArePatterns ps → Leads types n ws (in_mode wants (case_value e cases ps place ∷ fs)) after → Leads types n (patterns_spelling ps ++ word word_is.Arrow ∷ ws) (in_mode wants_pattern (case_patterns e cases no_patterns place ∷ fs)) after
patterns-leads types n ws e cases no_patterns place fs after t h g r = absurd h
patterns-leads types n ws e cases (one_pattern p ps) place fs after t h g r = case-leads types n ws e cases ps no_patterns p place fs after t.0 t.1 g.0 g.1 r

others-of : (e : ExprTree) (cases : CaseTrees) (ps : PatternTrees) (v : ExprTree) (place : Place) (fs : List Frame) → others_of e (and_case cases ps v) no_patterns place fs ≡ in_mode (awaits (arrow_then (others_value e (and_case cases ps v) place))) fs
others-of e no_cases ps v place fs = refl
others-of e (one_case qs u cs) ps v place fs = refl

-- behind the patterns of a case
cases-leads : (types : TypeReader) (n : ℕ) (e : ExprTree) (cs done : CaseTrees) (ps : PatternTrees) (v : ExprTree) (others : MaybeExpr) (place : Place) (fs : List Frame) → Taken types v → Binds v far_pull → CasesTaken types cs → AreCases cs → GivenTaken types others → IsGiven others → Leads types n ((spelling v ++ further_cases cs) ++ (others_spelling others ++ word word_is.End ∷ [])) (in_mode wants (case_value e done ps place ∷ fs)) (in_mode (has (cases_of e (then_cases done (one_case ps v cs)) others place)) fs)
cases-leads types n e no_cases done ps v left_out place fs t b ts bs u g =
    regroup (spelling v) [] (word word_is.End ∷ []) (part v word_is.End t b below_one small (λ spot. refl) nothing_more)
cases-leads types n e no_cases done ps v (given_expr o) place fs t b ts bs u g =
    regroup (spelling v) [] (others_spelling (given_expr o) ++ word word_is.End ∷ []) (part v word_is.Comma t b below_one small (λ spot. refl)
    (at_any word_is.Others (λ spot. others-of e done ps v place fs) (at_any word_is.Arrow (λ spot. refl)
    (part o word_is.End u g below_one small (λ spot. refl) nothing_more))))
cases-leads types n e (one_case qs w cs) done ps v others place fs t b ts bs u g =
    regroup (spelling v) (further_cases (one_case qs w cs)) (others_spelling others ++ word word_is.End ∷ []) (part v word_is.Comma t b below_one small (λ spot. refl)
    (regroup (patterns_spelling qs) (word word_is.Arrow ∷ spelling w ++ further_cases cs) (others_spelling others ++ word word_is.End ∷ [])
    (patterns-leads types n ((spelling w ++ further_cases cs) ++ (others_spelling others ++ word word_is.End ∷ [])) e (and_case done ps v) qs place fs _ ts.0 bs.0 bs.1
    (subst (λ (all : CaseTrees). Leads types n ((spelling w ++ further_cases cs) ++ (others_spelling others ++ word word_is.End ∷ [])) (in_mode wants (case_value e (and_case done ps v) qs place ∷ fs)) (in_mode (has (cases_of e all others place)) fs))
    (cases-assoc done (one_case ps v no_cases) (one_case qs w cs))
    (cases-leads types n e cs (and_case done ps v) qs w others place fs ts.1 bs.2 ts.2 bs.3 u g)))))

cases_of-leads : (types : TypeReader) (n : ℕ) (e : ExprTree) (cs : CaseTrees) (others : MaybeExpr) (place : Place) (fs : List Frame) → CasesTaken types cs → AreSomeCases cs → AreCases cs → GivenTaken types others → IsGiven others → Leads types n (cases_spelling cs ++ (others_spelling others ++ word word_is.End ∷ [])) (in_mode wants_pattern (case_patterns e no_cases no_patterns place ∷ fs)) (in_mode (has (cases_of e cs others place)) fs)
cases_of-leads types n e no_cases others place fs ts h bs u g = absurd h
cases_of-leads types n e (one_case qs w cs) others place fs ts h bs u g =
    regroup (patterns_spelling qs) (word word_is.Arrow ∷ spelling w ++ further_cases cs) (others_spelling others ++ word word_is.End ∷ [])
    (patterns-leads types n ((spelling w ++ further_cases cs) ++ (others_spelling others ++ word word_is.End ∷ [])) e no_cases qs place fs _ ts.0 bs.0 bs.1
    (cases-leads types n e cs no_cases qs w others place fs ts.1 bs.2 ts.2 bs.3 u g))

pub cases_of-taken : (types : TypeReader) (e : ExprTree) (cases : CaseTrees) (others : MaybeExpr) (place : Place) → Taken types e → CasesTaken types cases → GivenTaken types others → Taken types (cases_of e cases others place)
cases_of-taken types e cases others place t u v =
    record {
      taken = λ m fs b p. at_token (plain word_is.Cases place) refl (part e word_is.Colon t b.0 below_one small (λ spot. refl)
          (cases_of-leads types closed e cases others place fs u b.1 b.2 v b.3));
    }
