-- Definitions of functions and operations are taken.
use Rattle.std.proofs.Common.{◌≡◌, ℕ, zero, suc, nat_eq, Bool, true, false, List, [], ◌∷◌, ◌++◌, Option, Some, None, refl, ap, sym, subst, ◌∙◌, arith}
use Rattle.std.specs.List.{Contains}
use Rattle.std.proofs.lemmas.Bool.Decides.{nat_tests}
use Rattle.std.proofs.lemmas.List.{map-append, append-nil}
use Rattle.vdm_kinds.specs.declared.name.Name.{Name}
use Rattle.vdm_kinds.specs.declared.sign.Sign.TheVariants.{Not, Times}
use Rattle.abstract_syntax.specs.Types.{TypeTree, TypeTrees, no_types, one_type, product_type, type_place}
use Rattle.abstract_syntax.specs.Expressions.{ExprTree, PatternTree}
use Rattle.abstract_syntax.specs.Statements.{StmtTree}
use Rattle.abstract_syntax.specs.Classes.{Body, written, not_yet_specified, subclass_responsibility, FunctionTree, OperationTree}
use Rattle.grammar_words.specs.declared.word.Word.{Word}
use Rattle.grammar_words.specs.declared.word.Word.TheVariants as word_is
use Rattle.grammar_words.specs.Pulls.{far_pull}
use Rattle.grammar_words.specs.Tokens.{Token, identifier}
use Rattle.grammar_words.specs.Written.{Written, word}
use Rattle.type_reading.specs.TypeSpelling.{type_spelling, further_types, IsType, AreTypes, union, single}
use Rattle.grammar_trees.specs.Binding.{Binds, IsPattern, IsDeclared}
use Rattle.grammar_fronts.specs.declared.wanted.Wanted.{Wanted}
use Rattle.grammar_fronts.specs.declared.wanted.Wanted.TheVariants as want
use Rattle.grammar_fronts.specs.Turns.{Turn as InnerTurn, goes_on as inner_goes_on, begins as inner_begins, joins as inner_joins, adds as inner_adds, then_wanted as inner_then}
use Rattle.grammar_fronts.specs.Patterns.{pattern as pattern_turn}
use Rattle.stmt_trees.specs.Pieces.{Piece, again, mark, whole, Begin}
use Rattle.stmt_trees.specs.StmtSpelling.{behind_word, stmt_spelling}
use Rattle.stmt_trees.specs.StmtGrammar.{IsStmt, IsGivenExpr, takes_else}
use Rattle.stmt_trees.specs.ClassSpelling.{each_behind, parameters_spelling, patterns_in_brackets, body_spelling, arrow, expr_pieces, function_spelling, result_spelling, operation_spelling}
use Rattle.stmt_trees.specs.ClassGrammar.{AreAll, AreParameters, IsBody, IsFunction, IsOperation}
use Rattle.stmt_reading.specs.Statements.{patterns_tree}
use Rattle.stmt_fronts.specs.declared.expected.Expected.{Expected}
use Rattle.stmt_fronts.specs.declared.expected.Expected.TheVariants.{Within, Statement, DefinedNameAgain, FunctionDefs, MoreFunctionDefs, OperationDefs, MoreOperationDefs, TypeOrNone, FunctionArrow, Defined, FunctionBody, OperationBody, Pre, Post, Measure, DoubleArrow}
use Rattle.stmt_fronts.specs.Turns.{goes_on, begins, joins, adds, inner, then_wanted, all_within}
use Rattle.stmt_fronts.specs.Table.{turns, is_optional}
use Rattle.stmt_fronts.specs.Viable.{Names, fits}
use Rattle.stmt_laws.specs.Ends.{ends_expr, ends_type, ends_stmt, ends_after, first_word}
use Rattle.stmt_laws.proofs.Readers.{Begins, by_mark, by_nothing}
use Rattle.stmt_laws.proofs.Firsts.{behind_any, stmt_ends}
use Rattle.stmt_laws.proofs.Spellings.{whole-append, some_patterns-alike, patterns-good}
use Rattle.viable_laws.proofs.Takes.{Ends, tok, Takes, fewer, nothing, both, marked, left_before, left_last, same_pieces}
use Rattle.viable_laws.proofs.Leaves.{expr_taken, type_taken}
use Rattle.viable_laws.proofs.Instead.{Begun, none, begun, kept, nameless_within, nameless_statement, none_wanted, instead}
use Rattle.viable_laws.proofs.Parts.{fits_none, patterns_taken}
use Rattle.viable_laws.proofs.Items.{ends_item, item_stmt, defined, forms_taken, ItemTaken, HasHead, by_head}
use Rattle.viable_laws.proofs.Viable.{stmt_taken}

-- ---- parameters

trees_of : List TypeTree → TypeTrees
trees_of [] = no_types
trees_of (t ∷ ts) = one_type t (trees_of ts)

abbrev type_pieces : TypeTree → List Piece
type_pieces t = whole (type_spelling t)

types-alike : (ts : List TypeTree) → each_behind (word_is.Operator Times) type_pieces ts ≡ whole (further_types (word_is.Operator Times) (trees_of ts))
unfolding trees_of
types-alike [] = refl
types-alike (t ∷ ts) =
    ap (λ x. mark (word_is.Operator Times) ∷ (whole (type_spelling t) ++ x)) (types-alike ts)
    ∙ ap (λ (x : List Piece). mark (word_is.Operator Times) ∷ x) (sym (whole-append (type_spelling t) (further_types (word_is.Operator Times) (trees_of ts))))

abbrev IsFactor : TypeTree → Type 0
IsFactor t = IsType t single

types-good : (ts : List TypeTree) → AreAll IsFactor ts → AreTypes (trees_of ts) single
unfolding trees_of
types-good [] g = tt
types-good (t ∷ ts) g = (g.0, types-good ts g.1)

or_none-begun : (w : Word) → Begun TypeOrNone (Within want.WholeType) [] w
or_none-begun word_is.OpenRound = begun (_ ∷ []) (ap (λ all. goes_on (Within want.CloseRound ∷ []) ∷ all) (none_wanted (turns (Within want.WholeType) word_is.OpenRound)))
or_none-begun w = begun [] (none_wanted (turns (Within want.WholeType) w))

or_none : {ws : List Piece} {ends : Word → Bool} {n : Names} → Takes ws (Within want.WholeType ∷ []) ends n n → Takes ws (TypeOrNone ∷ []) ends n n
or_none t =
    instead TypeOrNone (Within want.WholeType) [] [] refl (record { fits_any = λ n name. refl; keeps = kept TypeOrNone (λ n name. refl) }) (nameless_within want.WholeType) or_none-begun t

one_parameter : (t : TypeTree) → AreParameters (t ∷ []) → IsType t union
one_parameter (product_type factors place) g = absurd g
one_parameter _ g = g

product_taken : {n : Names} (t u : TypeTree) (ts : List TypeTree) → AreParameters (t ∷ u ∷ ts)
    → Takes (whole (type_spelling t ++ further_types (word_is.Operator Times) (trees_of (u ∷ ts)))) (Within want.WholeType ∷ []) ends_type n n
unfolding trees_of
product_taken t u ts g = type_taken (product_type (trees_of (t ∷ u ∷ ts)) (type_place t)) (tt, tt, refl, types-good (t ∷ u ∷ ts) g)

parameters_taken : {n : Names} (ts : List TypeTree) → AreParameters ts → Takes (parameters_spelling ts) (TypeOrNone ∷ []) ends_type n n
parameters_taken [] g = marked word_is.OpenRound [] _ _ refl refl (marked word_is.CloseRound [] _ _ refl refl nothing)
parameters_taken (t ∷ []) g = same_pieces (sym (append-nil (whole (type_spelling t)))) (or_none (type_taken t (one_parameter t g)))
parameters_taken (t ∷ u ∷ ts) g =
    same_pieces (whole-append (type_spelling t) (further_types (word_is.Operator Times) (trees_of (u ∷ ts))) ∙ ap (λ x. whole (type_spelling t) ++ x) (sym (types-alike (u ∷ ts))))
    (or_none (product_taken t u ts g))

-- ---- patterns of parameters

inner-then : (o : Option InnerTurn) (more : List Wanted) → inner (inner_then o more) ≡ then_wanted (inner o) (all_within more)
inner-then None more = refl
inner-then (Some (inner_goes_on parts)) more = ap (λ all. goes_on all ∷ []) (map-append (λ (w : Wanted). Within w) parts more)
inner-then (Some (inner_adds pull parts)) more = ap (λ all. adds pull all ∷ []) (map-append (λ (w : Wanted). Within w) parts more)
inner-then (Some (inner_begins pull parts rest)) more = ap (λ all. begins pull (all_within parts) all ∷ []) (map-append (λ (w : Wanted). Within w) rest more)
inner-then (Some (inner_joins left right parts rest)) more = ap (λ all. joins left right (all_within parts) all ∷ []) (map-append (λ (w : Wanted). Within w) rest more)

parts-begun : (w : Word) → Begun (Within want.PatternParts) (Within want.Pattern) (Within want.MorePatterns ∷ Within want.CloseRound ∷ []) w
parts-begun word_is.CloseRound = none refl
parts-begun w = begun [] (inner-then (pattern_turn w) (want.MorePatterns ∷ want.CloseRound ∷ []))

fit_patterns : fits_none (Within want.MorePatterns)
fit_patterns n = refl

brackets_taken : {n : Names} {ends : Word → Bool} (ps : List PatternTree) → AreAll IsPattern ps
    → Takes (patterns_in_brackets ps) (Within want.OpenRound ∷ Within want.PatternParts ∷ []) ends n n
brackets_taken [] g = marked word_is.OpenRound [] _ _ refl refl (marked word_is.CloseRound [] _ _ refl refl nothing)
brackets_taken (p ∷ ps) g =
    marked word_is.OpenRound [] _ _ refl refl
    (instead (Within want.PatternParts) (Within want.Pattern) (Within want.MorePatterns ∷ Within want.CloseRound ∷ []) [] refl (nameless_within want.PatternParts) (nameless_within want.Pattern) parts-begun
    (same_pieces (sym (ap (λ x. x ++ (mark word_is.CloseRound ∷ [])) (some_patterns-alike p ps)))
    (patterns_taken (Within want.MorePatterns) refl fit_patterns (patterns_tree (p ∷ ps)) tt (patterns-good (p ∷ ps) g) (by_mark word_is.CloseRound refl)
    (left_before word_is.CloseRound refl refl (marked word_is.CloseRound [] _ _ refl refl nothing)))))

-- ---- the second name

pub same_number : (k : ℕ) → nat_eq k k ≡ true
same_number k = grind (arith, nat_tests)

-- the name is that of the definition
again_taken : {n m : Names} {vs : List Piece} {y : List Expected} {ends : Word → Bool} (name : Name) → n.definition ≡ Some name → Takes vs y ends n m
    → Takes (again name ∷ vs) (DefinedNameAgain ∷ y) ends n m
again_taken {n = n} {y = y} name is t =
    record {
      takes = λ behind tokens rest h e r.
          subst (λ ts. Ends ts (DefinedNameAgain ∷ (y ++ behind)) n) (sym h.2)
          (tok (identifier name h.1) h.0 DefinedNameAgain (y ++ behind) n [] (goes_on []) [] refl
          (ap (λ d. fits (record n { definition = d }) DefinedNameAgain (Some name)) is ∙ same_number name.0) (t.takes behind h.0 rest h.3 e r));
    }

abbrev only_identifier : Word → Bool
only_identifier word_is.Identifier = true
only_identifier _ = false

again_begins : {ends : Word → Bool} {vs : List Piece} (name : Name) → Begins (again name ∷ vs) ends ends_type
again_begins name = record { opens = λ tokens rest h e. ap (λ ts. ends_type (first_word ts)) h.2 }

-- ---- conditions

abbrev before_measure : Word → Bool
before_measure word_is.Measure = true
before_measure w = ends_item w

abbrev before_post : Word → Bool
before_post word_is.Post = true
before_post w = before_measure w

abbrev before_pre : Word → Bool
before_pre word_is.Pre = true
before_pre w = before_post w

item_measure : (w : Word) → ends_item w ≡ true → before_measure w ≡ true
item_measure word_is.Semicolon e = refl
item_measure word_is.Types e = refl
item_measure word_is.Values e = refl
item_measure word_is.Instance e = refl
item_measure word_is.Functions e = refl
item_measure word_is.Operations e = refl
item_measure word_is.Thread e = refl
item_measure word_is.Sync e = refl
item_measure word_is.End e = refl
item_measure _ e = absurd (cc)

measure_post : (w : Word) → before_measure w ≡ true → before_post w ≡ true
measure_post word_is.Measure e = refl
measure_post word_is.Semicolon e = refl
measure_post word_is.Types e = refl
measure_post word_is.Values e = refl
measure_post word_is.Instance e = refl
measure_post word_is.Functions e = refl
measure_post word_is.Operations e = refl
measure_post word_is.Thread e = refl
measure_post word_is.Sync e = refl
measure_post word_is.End e = refl
measure_post _ e = absurd (cc)

post_pre : (w : Word) → before_post w ≡ true → before_pre w ≡ true
post_pre word_is.Post e = refl
post_pre word_is.Measure e = refl
post_pre word_is.Semicolon e = refl
post_pre word_is.Types e = refl
post_pre word_is.Values e = refl
post_pre word_is.Instance e = refl
post_pre word_is.Functions e = refl
post_pre word_is.Operations e = refl
post_pre word_is.Thread e = refl
post_pre word_is.Sync e = refl
post_pre word_is.End e = refl
post_pre _ e = absurd (cc)

pre_expr : (w : Word) → before_pre w ≡ true → ends_expr w ≡ true
pre_expr word_is.Pre e = refl
pre_expr word_is.Post e = refl
pre_expr word_is.Measure e = refl
pre_expr word_is.Semicolon e = refl
pre_expr word_is.Types e = refl
pre_expr word_is.Values e = refl
pre_expr word_is.Instance e = refl
pre_expr word_is.Functions e = refl
pre_expr word_is.Operations e = refl
pre_expr word_is.Thread e = refl
pre_expr word_is.Sync e = refl
pre_expr word_is.End e = refl
pre_expr _ e = absurd (cc)

abbrev operation_post : Word → Bool
operation_post word_is.Post = true
operation_post w = ends_item w

abbrev operation_pre : Word → Bool
operation_pre word_is.Pre = true
operation_pre w = operation_post w

item_operation : (w : Word) → ends_item w ≡ true → operation_post w ≡ true
item_operation word_is.Semicolon e = refl
item_operation word_is.Types e = refl
item_operation word_is.Values e = refl
item_operation word_is.Instance e = refl
item_operation word_is.Functions e = refl
item_operation word_is.Operations e = refl
item_operation word_is.Thread e = refl
item_operation word_is.Sync e = refl
item_operation word_is.End e = refl
item_operation _ e = absurd (cc)

operation_post_pre : (w : Word) → operation_post w ≡ true → operation_pre w ≡ true
operation_post_pre word_is.Post e = refl
operation_post_pre word_is.Semicolon e = refl
operation_post_pre word_is.Types e = refl
operation_post_pre word_is.Values e = refl
operation_post_pre word_is.Instance e = refl
operation_post_pre word_is.Functions e = refl
operation_post_pre word_is.Operations e = refl
operation_post_pre word_is.Thread e = refl
operation_post_pre word_is.Sync e = refl
operation_post_pre word_is.End e = refl
operation_post_pre _ e = absurd (cc)

operation_pre_expr : (w : Word) → operation_pre w ≡ true → ends_expr w ≡ true
operation_pre_expr word_is.Pre e = refl
operation_pre_expr word_is.Post e = refl
operation_pre_expr word_is.Semicolon e = refl
operation_pre_expr word_is.Types e = refl
operation_pre_expr word_is.Values e = refl
operation_pre_expr word_is.Instance e = refl
operation_pre_expr word_is.Functions e = refl
operation_pre_expr word_is.Operations e = refl
operation_pre_expr word_is.Thread e = refl
operation_pre_expr word_is.Sync e = refl
operation_pre_expr word_is.End e = refl
operation_pre_expr _ e = absurd (cc)

operation_stmt : (w : Word) → operation_pre w ≡ true → ends_stmt w ≡ true
operation_stmt word_is.Pre e = refl
operation_stmt word_is.Post e = refl
operation_stmt word_is.Semicolon e = refl
operation_stmt word_is.Types e = refl
operation_stmt word_is.Values e = refl
operation_stmt word_is.Instance e = refl
operation_stmt word_is.Functions e = refl
operation_stmt word_is.Operations e = refl
operation_stmt word_is.Thread e = refl
operation_stmt word_is.Sync e = refl
operation_stmt word_is.End e = refl
operation_stmt _ e = absurd (cc)

operation_after : (s : StmtTree) (w : Word) → operation_pre w ≡ true → ends_after s w ≡ true
operation_after s word_is.Pre e = behind_any (takes_else s) word_is.Pre refl refl
operation_after s word_is.Post e = behind_any (takes_else s) word_is.Post refl refl
operation_after s word_is.Semicolon e = behind_any (takes_else s) word_is.Semicolon refl refl
operation_after s word_is.Types e = behind_any (takes_else s) word_is.Types refl refl
operation_after s word_is.Values e = behind_any (takes_else s) word_is.Values refl refl
operation_after s word_is.Instance e = behind_any (takes_else s) word_is.Instance refl refl
operation_after s word_is.Functions e = behind_any (takes_else s) word_is.Functions refl refl
operation_after s word_is.Operations e = behind_any (takes_else s) word_is.Operations refl refl
operation_after s word_is.Thread e = behind_any (takes_else s) word_is.Thread refl refl
operation_after s word_is.Sync e = behind_any (takes_else s) word_is.Sync refl refl
operation_after s word_is.End e = behind_any (takes_else s) word_is.End refl refl
operation_after s _ e = absurd (cc)

given_taken : {n : Names} (x : Expected) (w : Word) (e : Option ExprTree) (ends : Word → Bool) → IsGivenExpr e → is_optional x ≡ true
    → turns x w ≡ goes_on (Within want.Expression ∷ []) ∷ [] → fits_none x → ((found : Word) → ends found ≡ true → turns x found ≡ [])
    → ((found : Word) → ends found ≡ true → ends_expr found ≡ true) → Takes (behind_word w e) (x ∷ []) ends n n
given_taken x w None ends g o is fit away more = left_last o away
given_taken {n = n} x w (Some e) ends g o is fit away more = marked w [] _ _ is (fit n) (fewer more (expr_taken e g))

given_begins : (w : Word) (e : Option ExprTree) (ends first : Word → Bool) → first w ≡ true → ((found : Word) → ends found ≡ true → first found ≡ true)
    → Begins (behind_word w e) ends first
given_begins w None ends first is more = by_nothing more
given_begins w (Some e) ends first is more = by_mark w is

no_pre : (w : Word) → before_post w ≡ true → turns Pre w ≡ []
no_pre word_is.Post e = refl
no_pre word_is.Measure e = refl
no_pre word_is.Semicolon e = refl
no_pre word_is.Types e = refl
no_pre word_is.Values e = refl
no_pre word_is.Instance e = refl
no_pre word_is.Functions e = refl
no_pre word_is.Operations e = refl
no_pre word_is.Thread e = refl
no_pre word_is.Sync e = refl
no_pre word_is.End e = refl
no_pre _ e = absurd (cc)

fit_pre : fits_none Pre
fit_pre n = refl

no_post : (w : Word) → before_measure w ≡ true → turns Post w ≡ []
no_post word_is.Measure e = refl
no_post word_is.Semicolon e = refl
no_post word_is.Types e = refl
no_post word_is.Values e = refl
no_post word_is.Instance e = refl
no_post word_is.Functions e = refl
no_post word_is.Operations e = refl
no_post word_is.Thread e = refl
no_post word_is.Sync e = refl
no_post word_is.End e = refl
no_post _ e = absurd (cc)

fit_post : fits_none Post
fit_post n = refl

no_measure : (w : Word) → ends_item w ≡ true → turns Measure w ≡ []
no_measure word_is.Semicolon e = refl
no_measure word_is.Types e = refl
no_measure word_is.Values e = refl
no_measure word_is.Instance e = refl
no_measure word_is.Functions e = refl
no_measure word_is.Operations e = refl
no_measure word_is.Thread e = refl
no_measure word_is.Sync e = refl
no_measure word_is.End e = refl
no_measure _ e = absurd (cc)

fit_measure : fits_none Measure
fit_measure n = refl

no_operation_pre : (w : Word) → operation_post w ≡ true → turns Pre w ≡ []
no_operation_pre word_is.Post e = refl
no_operation_pre word_is.Semicolon e = refl
no_operation_pre word_is.Types e = refl
no_operation_pre word_is.Values e = refl
no_operation_pre word_is.Instance e = refl
no_operation_pre word_is.Functions e = refl
no_operation_pre word_is.Operations e = refl
no_operation_pre word_is.Thread e = refl
no_operation_pre word_is.Sync e = refl
no_operation_pre word_is.End e = refl
no_operation_pre _ e = absurd (cc)

no_operation_post : (w : Word) → ends_item w ≡ true → turns Post w ≡ []
no_operation_post word_is.Semicolon e = refl
no_operation_post word_is.Types e = refl
no_operation_post word_is.Values e = refl
no_operation_post word_is.Instance e = refl
no_operation_post word_is.Functions e = refl
no_operation_post word_is.Operations e = refl
no_operation_post word_is.Thread e = refl
no_operation_post word_is.Sync e = refl
no_operation_post word_is.End e = refl
no_operation_post _ e = absurd (cc)

-- ---- bodies

function_body-begun : (w : Word) → Begun FunctionBody (Within want.Expression) [] w
function_body-begun word_is.Is = none refl
function_body-begun w = begun [] (none_wanted (turns (Within want.Expression) w))

function_body_taken : {n : Names} (b : Body ExprTree) → IsBody (λ (e : ExprTree). Binds e far_pull) b → Takes (body_spelling expr_pieces b) (FunctionBody ∷ []) before_pre n n
function_body_taken (written e) g =
    instead FunctionBody (Within want.Expression) [] [] refl (record { fits_any = λ n name. refl; keeps = kept FunctionBody (λ n name. refl) }) (nameless_within want.Expression)
    function_body-begun (fewer pre_expr (expr_taken e g))
function_body_taken not_yet_specified g =
    marked word_is.Is [] _ _ refl refl (marked (word_is.Operator Not) [] _ _ refl refl (marked word_is.Yet [] _ _ refl refl (marked word_is.Specified [] _ _ refl refl nothing)))
function_body_taken subclass_responsibility g =
    marked word_is.Is [] _ _ refl refl (marked word_is.Subclass [] _ _ refl refl (marked word_is.Responsibility [] _ _ refl refl nothing))

operation_body-begun : (w : Word) → Begun OperationBody Statement [] w
operation_body-begun word_is.Is = none refl
operation_body-begun w = begun [] (none_wanted (turns Statement w))

operation_body_taken : {n : Names} (b : Body StmtTree) → IsBody IsStmt b → Takes (body_spelling stmt_spelling b) (OperationBody ∷ []) operation_pre n n
operation_body_taken {n = n} (written s) g =
    instead OperationBody Statement [] [] refl (record { fits_any = λ n name. refl; keeps = kept OperationBody (λ n name. refl) }) nameless_statement
    operation_body-begun (fewer (operation_after s) ((stmt_taken s g).taken n))
operation_body_taken not_yet_specified g =
    marked word_is.Is [] _ _ refl refl (marked (word_is.Operator Not) [] _ _ refl refl (marked word_is.Yet [] _ _ refl refl (marked word_is.Specified [] _ _ refl refl nothing)))
operation_body_taken subclass_responsibility g =
    marked word_is.Is [] _ _ refl refl (marked word_is.Subclass [] _ _ refl refl (marked word_is.Responsibility [] _ _ refl refl nothing))

-- ---- functions

arrow_taken : {n m : Names} {vs : List Piece} {y : List Expected} {ends : Word → Bool} → Takes vs y ends n m → Takes (arrow ∷ vs) (FunctionArrow ∷ y) ends n m
arrow_taken t =
    forms_taken ((word word_is.Arrow ∷ []) ∷ (word word_is.TotalArrow ∷ []) ∷ []) (marked word_is.Arrow [] _ _ refl refl t, (marked word_is.TotalArrow [] _ _ refl refl t, tt))

arrow_form : (tokens middle : List Token) (form : List Written) → Contains ((word word_is.Arrow ∷ []) ∷ (word word_is.TotalArrow ∷ []) ∷ []) form → Begin tokens form middle
    → ends_type (first_word tokens) ≡ true
arrow_form tokens middle form (zero, less, is) b =
    let c : Begin tokens (word word_is.Arrow ∷ []) middle = subst (λ f. Begin tokens f middle) (sym is) b in ap (λ ts. ends_type (first_word ts)) c.1.1
arrow_form tokens middle form (suc zero, less, is) b =
    let c : Begin tokens (word word_is.TotalArrow ∷ []) middle = subst (λ f. Begin tokens f middle) (sym is) b in ap (λ ts. ends_type (first_word ts)) c.1.1
arrow_form tokens middle form (suc (suc n), less, is) b = absurd (omega arith)

arrow_begins : {vs : List Piece} {ends : Word → Bool} → Begins (arrow ∷ vs) ends ends_type
arrow_begins = record { opens = λ tokens rest h e. arrow_form tokens h.1 h.0 h.2 h.3 }

abbrev any_word : Word → Bool
any_word w = true

given_then : (w : Word) (e : Option ExprTree) (vs : List Piece) (ends first : Word → Bool) → first w ≡ true → Begins vs ends first → Begins (behind_word w e ++ vs) ends first
given_then w None vs ends first is b = b
given_then w (Some e) vs ends first is b = by_mark w is

conditions_taken : {n : Names} (pre post measure : Option ExprTree) → IsGivenExpr pre → IsGivenExpr post → IsGivenExpr measure
    → Takes (behind_word word_is.Pre pre ++ (behind_word word_is.Post post ++ behind_word word_is.Measure measure)) (Pre ∷ Post ∷ Measure ∷ []) ends_item n n
conditions_taken pre post measure f g h =
    both (given_taken Pre word_is.Pre pre before_post f refl refl fit_pre no_pre (λ w e. pre_expr w (post_pre w e)))
    (given_then word_is.Post post _ ends_item before_post refl (given_begins word_is.Measure measure ends_item before_post refl (λ w e. measure_post w (item_measure w e))))
    (both (given_taken Post word_is.Post post before_measure g refl refl fit_post no_post (λ w e. pre_expr w (post_pre w (measure_post w e))))
    (given_begins word_is.Measure measure ends_item before_measure refl item_measure)
    (given_taken Measure word_is.Measure measure ends_item h refl refl fit_measure no_measure (λ w e. stmt_ends w (item_stmt w e))))

conditions_begin : (pre post measure : Option ExprTree)
    → Begins (behind_word word_is.Pre pre ++ (behind_word word_is.Post post ++ behind_word word_is.Measure measure)) ends_item before_pre
conditions_begin pre post measure =
    given_then word_is.Pre pre _ ends_item before_pre refl (given_then word_is.Post post _ ends_item before_pre refl
    (given_begins word_is.Measure measure ends_item before_pre refl (λ w e. post_pre w (measure_post w (item_measure w e)))))

has_function_head : HasHead FunctionDefs (Within want.Colon ∷ TypeOrNone ∷ FunctionArrow ∷ Within want.WholeType ∷ DefinedNameAgain ∷ Within want.OpenRound ∷ Within want.PatternParts ∷ Defined
    ∷ FunctionBody ∷ Pre ∷ Post ∷ Measure ∷ MoreFunctionDefs ∷ [])
has_function_head = record { by_name = refl; by_static = refl; by_private = refl; by_protected = refl; by_public = refl; fit = λ n name. refl; names = λ n name. refl }

pub function_taken : (f : FunctionTree) → IsFunction f → ItemTaken FunctionDefs MoreFunctionDefs function_spelling f
function_taken f g =
    record {
      after = λ n. defined n f.name;
      keeps = λ n. refl;
      taken = λ n m vs y ends b t.
          by_head {parts = Within want.Colon ∷ TypeOrNone ∷ FunctionArrow ∷ Within want.WholeType ∷ DefinedNameAgain ∷ Within want.OpenRound ∷ Within want.PatternParts ∷ Defined
          ∷ FunctionBody ∷ Pre ∷ Post ∷ Measure ∷ []} FunctionDefs MoreFunctionDefs has_function_head f.access f.name f.name_place f.place
          (marked word_is.Colon [] _ _ refl refl (both (parameters_taken f.parameters g.parameters) arrow_begins (arrow_taken
          (both (type_taken f.result_type g.result_type) (again_begins f.name) (again_taken f.name refl
          (both (brackets_taken {ends = any_word} f.patterns g.patterns) (by_mark word_is.DoubleEqual refl) (marked word_is.DoubleEqual [] _ _ refl refl
          (both (function_body_taken f.body g.body) (conditions_begin f.pre f.post f.measure) (conditions_taken f.pre f.post f.measure g.pre g.post g.measure))))))))) b t;
    }

-- ---- operations

result_taken : {n : Names} (t : Option TypeTree) → IsDeclared t → Takes (result_spelling t) (TypeOrNone ∷ []) ends_type n n
result_taken None g = marked word_is.OpenRound [] _ _ refl refl (marked word_is.CloseRound [] _ _ refl refl nothing)
result_taken (Some t) g = or_none (type_taken t g)

operation_conditions : {n : Names} (pre post : Option ExprTree) → IsGivenExpr pre → IsGivenExpr post
    → Takes (behind_word word_is.Pre pre ++ behind_word word_is.Post post) (Pre ∷ Post ∷ []) ends_item n n
operation_conditions pre post f g =
    both (given_taken Pre word_is.Pre pre operation_post f refl refl fit_pre no_operation_pre (λ w e. operation_pre_expr w (operation_post_pre w e)))
    (given_begins word_is.Post post ends_item operation_post refl item_operation)
    (given_taken Post word_is.Post post ends_item g refl refl fit_post no_operation_post (λ w e. stmt_ends w (item_stmt w e)))

has_operation_head : HasHead OperationDefs (Within want.Colon ∷ TypeOrNone ∷ DoubleArrow ∷ TypeOrNone ∷ DefinedNameAgain ∷ Within want.OpenRound ∷ Within want.PatternParts ∷ Defined
    ∷ OperationBody ∷ Pre ∷ Post ∷ MoreOperationDefs ∷ [])
has_operation_head = record { by_name = refl; by_static = refl; by_private = refl; by_protected = refl; by_public = refl; fit = λ n name. refl; names = λ n name. refl }

pub operation_taken : (o : OperationTree) → IsOperation o → ItemTaken OperationDefs MoreOperationDefs operation_spelling o
operation_taken o g =
    record {
      after = λ n. defined n o.name;
      keeps = λ n. refl;
      taken = λ n m vs y ends b t.
          by_head {parts = Within want.Colon ∷ TypeOrNone ∷ DoubleArrow ∷ TypeOrNone ∷ DefinedNameAgain ∷ Within want.OpenRound ∷ Within want.PatternParts ∷ Defined
          ∷ OperationBody ∷ Pre ∷ Post ∷ []} OperationDefs MoreOperationDefs has_operation_head o.access o.name o.name_place o.place
          (marked word_is.Colon [] _ _ refl refl (both (parameters_taken o.parameters g.parameters) (by_mark word_is.DoubleArrow refl) (marked word_is.DoubleArrow [] _ _ refl refl
          (both (result_taken o.result_type g.result_type) (again_begins o.name) (again_taken o.name refl
          (both (brackets_taken {ends = any_word} o.patterns g.patterns) (by_mark word_is.DoubleEqual refl) (marked word_is.DoubleEqual [] _ _ refl refl
          (both (operation_body_taken o.body g.body) (given_then word_is.Pre o.pre _ ends_item operation_pre refl
          (given_begins word_is.Post o.post ends_item operation_pre refl (λ w e. operation_post_pre w (item_operation w e))))
          (operation_conditions o.pre o.post g.pre g.post))))))))) b t;
    }
