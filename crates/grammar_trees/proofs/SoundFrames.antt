-- What frames and states are written with so far, and what holds of what they have.
use Rattle.std.proofs.Common.{◌≡◌, ℕ, ◌<◌, ◌≤◌, List, [], ◌∷◌, ◌++◌, map}
use Rattle.abstract_syntax.specs.Expressions.{ExprTree, ExprTrees, BindTrees, PatternTrees, no_exprs, one_expr, no_binds, no_patterns}
use Rattle.grammar_words.specs.Pulls.{left_pull, right_pull, far_pull, postfix_pull, closed, IsPrefix, IsInfix, prefix_word}
use Rattle.type_reading.specs.TypeSpelling.{type_name_spelling, IsTypeNameAt}
use Rattle.grammar_trees.specs.Spelling.{names_spelling, declared_spelling, spelling, such_that, definitions_spelling, branches_spelling, bind_spelling, binds_spelling, pattern_spelling, patterns_spelling}
use Rattle.grammar_trees.specs.Binding.{reach, AreSomePatterns, IsOnePattern, HasOnePattern, AreSomeBinds, AreSomeDefinitions, AreSomeCases, AreSomeNames, IsDeclared, IsSinglePattern, PatternsBeginAt, Binds, IsGiven, AreExprs, AreMaplets, AreFieldValues, AreDefinitions, AreBranches, AreCases, IsBind, AreBinds, IsPattern, ArePatterns, AreSinglePatterns, AreMapletPatterns}
use Rattle.grammar_trees.specs.Frames.{Enclosed, Listed, Ranged, Compared, BindsFor, Conditioned, Body, PatternsFor, Frame, TypeNameFor, Header, Mode, State, bracket, token_of, named_test, basic_test, class_test, base_class_test, set_of, sequence_of, tuple_of, record_of, new_of, applied_to, in_set, part_of_sequence, classes, base_classes, set_each, map_each, all_of, some_of, one_of, the_one, such_one, set_such, map_such, sequence_such, all_body, some_body, one_body, the_body, let_body, such_body, def_body, else_body, set_like, sequence_like, tuple_like, record_like, operand_of, right_of, body, enclosed, matched, items, tuple_start, range_end, map_key, map_value, condition, bind_set, sequence_set, left_class, right_class, tested, modified, field_value, let_value, let_such, def_value, if_test, if_then, elseif_test, elseif_then, subject, case_value, others_value, bind_patterns, sequence_bound, let_start, let_next, def_pattern, case_patterns, pattern_items, tuple_pattern_start, pattern_key, pattern_value, concatenated, test_type, let_type, type_bracket, made, asked, made_pattern, opens, comma_then, st_then, arrow_then, opens_pattern, type_after, type_rest, qualified_rest, member_of, member_rest, part_of, new_name, counter_opens, counter_name, counter_next, class_opens, class_name, base_class_opens, base_class_name, field_name, field_arrow, empty_map_end, empty_pattern_end, wants, has, wants_pattern, has_pattern, awaits, typing, refused}
use Rattle.grammar_words.specs.Tokens.{Token, identifier, make_named, is_named}
use Rattle.grammar_words.specs.Written.{Written, at, word, IsToken, AreTokens, at_word}
use Rattle.vdm_kinds.specs.declared.name.Name.{Name}
use Rattle.vdm_kinds.specs.declared.place.Place.{Place}
use Rattle.grammar_words.specs.declared.word.Word.{Word}
use Rattle.grammar_words.specs.declared.word.Word.TheVariants as word_is
use Rattle.vdm_kinds.specs.declared.sign.Sign.TheVariants as sign_is
use Rattle.grammar_trees.proofs.SoundLists.{took_exprs, took_maplets, took_field_values, took_defined, took_cases, took_binds, took_patterns, took_joined, took_maplet_patterns, took_names}

-- ---- what frames are written with so far

abbrev pub took_body : Body → Place → List Written
took_body (all_body bs) place = at_word word_is.Forall place ∷ (binds_spelling bs ++ word word_is.Ampersand ∷ [])
took_body (some_body bs) place = at_word word_is.Exists place ∷ (binds_spelling bs ++ word word_is.Ampersand ∷ [])
took_body (one_body b) place = at_word word_is.ExistsOne place ∷ (bind_spelling b ++ word word_is.Ampersand ∷ [])
took_body (the_body b) place = at_word word_is.Iota place ∷ (bind_spelling b ++ word word_is.Ampersand ∷ [])
took_body (let_body ds) place = at_word word_is.Let place ∷ (definitions_spelling ds ++ word word_is.In ∷ [])
took_body (such_body b such) place = at_word word_is.Let place ∷ (bind_spelling b ++ (such_that such ++ word word_is.In ∷ []))
took_body (def_body p v) place = at_word word_is.Def place ∷ (pattern_spelling p ++ (word (word_is.Operator sign_is.Equal) ∷ (spelling v ++ word word_is.In ∷ [])))
took_body (else_body c v bs) place = at_word word_is.If place ∷ (spelling c ++ (word word_is.Then ∷ (spelling v ++ (branches_spelling bs ++ word word_is.Else ∷ []))))

abbrev pub took_enclosed : Enclosed → Place → List Written
took_enclosed bracket place = at_word word_is.OpenRound place ∷ []
took_enclosed token_of place = at_word word_is.MakeToken place ∷ word word_is.OpenRound ∷ []
took_enclosed (named_test type_name) place = type_name_spelling is_named type_name place ++ word word_is.OpenRound ∷ []
took_enclosed (basic_test basic) place = at_word (word_is.IsBasic basic) place ∷ word word_is.OpenRound ∷ []
took_enclosed (class_test c at_c) place = at_word word_is.IsOfClass place ∷ word word_is.OpenRound ∷ at (identifier c at_c) ∷ word word_is.Comma ∷ []
took_enclosed (base_class_test c at_c) place = at_word word_is.IsOfBaseClass place ∷ word word_is.OpenRound ∷ at (identifier c at_c) ∷ word word_is.Comma ∷ []

abbrev pub took_opening : Listed → Place → List Written
took_opening set_of place = at_word word_is.OpenCurly place ∷ []
took_opening sequence_of place = at_word word_is.OpenSquare place ∷ []
took_opening tuple_of place = at_word word_is.MakeTuple place ∷ word word_is.OpenRound ∷ []
took_opening (record_of type_name) place = type_name_spelling make_named type_name place ++ word word_is.OpenRound ∷ []
took_opening (new_of c at_c) place = at_word word_is.New place ∷ at (identifier c at_c) ∷ word word_is.OpenRound ∷ []
took_opening (applied_to head) place = spelling head ++ at_word word_is.OpenRound place ∷ []

abbrev pub took_range : Ranged → ExprTree → Place → List Written
took_range in_set first place = at_word word_is.OpenCurly place ∷ (spelling first ++ word word_is.Comma ∷ word word_is.Dots ∷ word word_is.Comma ∷ [])
took_range (part_of_sequence target) first place =
    spelling target ++ at_word word_is.OpenRound place ∷ (spelling first ++ word word_is.Comma ∷ word word_is.Dots ∷ word word_is.Comma ∷ [])

abbrev pub took_such : Conditioned → Place → List Written
took_such (set_such e bs) place = at_word word_is.OpenCurly place ∷ (spelling e ++ (word word_is.Bar ∷ binds_spelling bs))
took_such (map_such k v bs) place = at_word word_is.OpenCurly place ∷ (spelling k ++ (word word_is.MapsTo ∷ (spelling v ++ (word word_is.Bar ∷ binds_spelling bs))))
took_such (sequence_such e p set) place = at_word word_is.OpenSquare place ∷ (spelling e ++ (word word_is.Bar ∷ (pattern_spelling p ++ (word (word_is.Operator sign_is.InSet) ∷ spelling set))))

abbrev pub took_for : BindsFor → Place → List Written
took_for (set_each e) place = at_word word_is.OpenCurly place ∷ (spelling e ++ word word_is.Bar ∷ [])
took_for (map_each k v) place = at_word word_is.OpenCurly place ∷ (spelling k ++ (word word_is.MapsTo ∷ (spelling v ++ word word_is.Bar ∷ [])))
took_for all_of place = at_word word_is.Forall place ∷ []
took_for some_of place = at_word word_is.Exists place ∷ []
took_for one_of place = at_word word_is.ExistsOne place ∷ []
took_for the_one place = at_word word_is.Iota place ∷ []
took_for such_one place = at_word word_is.Let place ∷ []

abbrev pub compared_word : Compared → Word
compared_word classes = word_is.SameClass
compared_word base_classes = word_is.SameBaseClass

abbrev pub took_pattern_opening : PatternsFor → Place → List Written
took_pattern_opening set_like place = at_word word_is.OpenCurly place ∷ []
took_pattern_opening sequence_like place = at_word word_is.OpenSquare place ∷ []
took_pattern_opening tuple_like place = at_word word_is.MakeTuple place ∷ word word_is.OpenRound ∷ []
took_pattern_opening (record_like type_name) place = type_name_spelling make_named type_name place ++ word word_is.OpenRound ∷ []

abbrev pub took : Frame → List Written
took (operand_of sign place) = at_word (prefix_word sign) place ∷ []
took (right_of left sign place) = spelling left ++ at_word (word_is.Operator sign) place ∷ []
took (body b place) = took_body b place
took (enclosed k place) = took_enclosed k place
took (matched place) = at_word word_is.OpenRound place ∷ []
took (items listed es place) = took_opening listed place ++ took_exprs es
took (tuple_start place) = at_word word_is.MakeTuple place ∷ word word_is.OpenRound ∷ []
took (range_end ranged first place) = took_range ranged first place
took (map_key ms place) = at_word word_is.OpenCurly place ∷ took_maplets ms
took (map_value ms k place) = at_word word_is.OpenCurly place ∷ (took_maplets ms ++ (spelling k ++ word word_is.MapsTo ∷ []))
took (condition such place) = took_such such place ++ word word_is.Ampersand ∷ []
took (bind_set for bs ps place) = took_for for place ++ (took_binds bs ++ (patterns_spelling ps ++ word (word_is.Operator sign_is.InSet) ∷ []))
took (sequence_set e p place) = at_word word_is.OpenSquare place ∷ (spelling e ++ (word word_is.Bar ∷ (pattern_spelling p ++ word (word_is.Operator sign_is.InSet) ∷ [])))
took (left_class compared place) = at_word (compared_word compared) place ∷ word word_is.OpenRound ∷ []
took (right_class compared left place) = at_word (compared_word compared) place ∷ word word_is.OpenRound ∷ (spelling left ++ word word_is.Comma ∷ [])
took (tested place) = at_word word_is.IsType place ∷ word word_is.OpenRound ∷ []
took (modified place) = at_word word_is.Modify place ∷ word word_is.OpenRound ∷ []
took (field_value e fields n p place) =
    at_word word_is.Modify place ∷ word word_is.OpenRound ∷ (spelling e ++ (word word_is.Comma ∷ (took_field_values fields ++ at (identifier n p) ∷ word word_is.MapsTo ∷ [])))
took (let_value ds p d place) = at_word word_is.Let place ∷ (took_defined ds ++ (pattern_spelling p ++ (declared_spelling d ++ word (word_is.Operator sign_is.Equal) ∷ [])))
took (let_such b place) = at_word word_is.Let place ∷ (bind_spelling b ++ word word_is.Be ∷ word word_is.St ∷ [])
took (def_value p place) = at_word word_is.Def place ∷ (pattern_spelling p ++ word (word_is.Operator sign_is.Equal) ∷ [])
took (if_test place) = at_word word_is.If place ∷ []
took (if_then c place) = at_word word_is.If place ∷ (spelling c ++ word word_is.Then ∷ [])
took (elseif_test c v bs place) = at_word word_is.If place ∷ (spelling c ++ (word word_is.Then ∷ (spelling v ++ (branches_spelling bs ++ word word_is.Elseif ∷ []))))
took (elseif_then c v bs next place) =
    at_word word_is.If place ∷ (spelling c ++ (word word_is.Then ∷ (spelling v ++ (branches_spelling bs ++ (word word_is.Elseif ∷ (spelling next ++ word word_is.Then ∷ []))))))
took (subject place) = at_word word_is.Cases place ∷ []
took (case_value e cs ps place) = at_word word_is.Cases place ∷ (spelling e ++ (word word_is.Colon ∷ (took_cases cs ++ (patterns_spelling ps ++ word word_is.Arrow ∷ []))))
took (others_value e cs place) = at_word word_is.Cases place ∷ (spelling e ++ (word word_is.Colon ∷ (took_cases cs ++ word word_is.Others ∷ word word_is.Arrow ∷ [])))
took (bind_patterns for bs ps place) = took_for for place ++ (took_binds bs ++ took_patterns ps)
took (sequence_bound e place) = at_word word_is.OpenSquare place ∷ (spelling e ++ word word_is.Bar ∷ [])
took (let_start place) = at_word word_is.Let place ∷ []
took (let_next ds place) = at_word word_is.Let place ∷ took_defined ds
took (def_pattern place) = at_word word_is.Def place ∷ []
took (case_patterns e cs ps place) = at_word word_is.Cases place ∷ (spelling e ++ (word word_is.Colon ∷ (took_cases cs ++ took_patterns ps)))
took (pattern_items listed ps place) = took_pattern_opening listed place ++ took_patterns ps
took (tuple_pattern_start place) = at_word word_is.MakeTuple place ∷ word word_is.OpenRound ∷ []
took (pattern_key ms place) = at_word word_is.OpenCurly place ∷ took_maplet_patterns ms
took (pattern_value ms k place) = at_word word_is.OpenCurly place ∷ (took_maplet_patterns ms ++ (pattern_spelling k ++ word word_is.MapsTo ∷ []))
took (concatenated ps place) = took_joined ps
took (test_type e place) = at_word word_is.IsType place ∷ word word_is.OpenRound ∷ (spelling e ++ word word_is.Comma ∷ [])
took (let_type ds p place) = at_word word_is.Let place ∷ (took_defined ds ++ (pattern_spelling p ++ word word_is.Colon ∷ []))
took type_bracket = []

abbrev pub stack_took : List Frame → List Written
stack_took [] = []
stack_took (f ∷ fs) = stack_took fs ++ took f

-- ---- what holds of frames

-- how strongly what is open pulls at the expression that is read
abbrev pub context : List Frame → ℕ
context [] = far_pull
context (operand_of sign place ∷ fs) = right_pull sign
context (right_of left sign place ∷ fs) = right_pull sign
context (_ ∷ fs) = far_pull

abbrev pub BodyFits : Body → Type 0
BodyFits (all_body bs) = AreSomeBinds bs × AreBinds bs
BodyFits (some_body bs) = AreSomeBinds bs × AreBinds bs
BodyFits (one_body b) = IsBind b
BodyFits (the_body b) = IsBind b × HasOnePattern b
BodyFits (let_body ds) = AreSomeDefinitions ds × AreDefinitions ds
BodyFits (such_body b such) = IsBind b × IsGiven such
BodyFits (def_body p v) = IsPattern p × Binds v far_pull
BodyFits (else_body c v bs) = Binds c far_pull × Binds v far_pull × AreBranches bs

abbrev pub EnclosedFits : Enclosed → Place → Type 0
EnclosedFits (named_test type_name) place = IsTypeNameAt type_name place
EnclosedFits _ place = Unit {0}

abbrev pub HeadFits : ExprTree → ℕ → Type 0
HeadFits head m = Binds head m × (m ≤ postfix_pull) × (postfix_pull < reach head)

abbrev pub AreSomeExprs : ExprTrees → Type 0
AreSomeExprs no_exprs = ⊥
AreSomeExprs (one_expr e es) = Unit {0}

abbrev pub ListedFits : Listed → ExprTrees → Place → ℕ → Type 0
ListedFits tuple_of es place m = AreSomeExprs es
ListedFits (record_of type_name) es place m = IsTypeNameAt type_name place
ListedFits (applied_to head) es place m = HeadFits head m
ListedFits _ es place m = Unit {0}

abbrev pub RangedFits : Ranged → ℕ → Type 0
RangedFits in_set m = Unit {0}
RangedFits (part_of_sequence target) m = HeadFits target m

abbrev pub SuchFits : Conditioned → Type 0
SuchFits (set_such e bs) = Binds e far_pull × AreSomeBinds bs × AreBinds bs
SuchFits (map_such k v bs) = Binds k far_pull × Binds v far_pull × AreSomeBinds bs × AreBinds bs
SuchFits (sequence_such e p set) = Binds e far_pull × IsPattern p × Binds set far_pull

abbrev pub ForFits : BindsFor → Type 0
ForFits (set_each e) = Binds e far_pull
ForFits (map_each k v) = Binds k far_pull × Binds v far_pull
ForFits _ = Unit {0}

-- `exists1`, `iota` and `let` have one bind
abbrev pub IsAlone : BindsFor → BindTrees → Type 0
IsAlone one_of bs = bs ≡ no_binds
IsAlone the_one bs = bs ≡ no_binds
IsAlone such_one bs = bs ≡ no_binds
IsAlone _ bs = Unit {0}

-- `iota` has one pattern: none before the last, and one before the set
abbrev pub IsFirst : BindsFor → PatternTrees → Type 0
IsFirst the_one ps = ps ≡ no_patterns
IsFirst _ ps = Unit {0}

abbrev pub IsOnly : BindsFor → PatternTrees → Type 0
IsOnly the_one ps = IsOnePattern ps
IsOnly _ ps = Unit {0}

abbrev pub PatternsForFits : PatternsFor → PatternTrees → Place → Type 0
PatternsForFits tuple_like ps place = AreSomePatterns ps
PatternsForFits (record_like type_name) ps place = IsTypeNameAt type_name place
PatternsForFits _ ps place = Unit {0}

-- the frame stands where so much pulls
abbrev pub Fits : Frame → ℕ → Type 0
Fits (operand_of sign place) m = IsPrefix sign
Fits (right_of left sign place) m = IsInfix sign × Binds left m × (m ≤ left_pull sign) × (left_pull sign < reach left)
Fits (body b place) m = BodyFits b
Fits (enclosed k place) m = EnclosedFits k place
Fits (matched place) m = Unit {0}
Fits (items listed es place) m = AreExprs es × ListedFits listed es place m
Fits (tuple_start place) m = Unit {0}
Fits (range_end ranged first place) m = Binds first far_pull × RangedFits ranged m
Fits (map_key ms place) m = AreMaplets ms
Fits (map_value ms k place) m = AreMaplets ms × Binds k far_pull
Fits (condition such place) m = SuchFits such
Fits (bind_set for bs ps place) m = ForFits for × IsAlone for bs × AreBinds bs × AreSomePatterns ps × ArePatterns ps × IsOnly for ps
Fits (sequence_set e p place) m = Binds e far_pull × IsPattern p
Fits (left_class compared place) m = Unit {0}
Fits (right_class compared left place) m = Binds left far_pull
Fits (tested place) m = Unit {0}
Fits (modified place) m = Unit {0}
Fits (field_value e fields n p place) m = Binds e far_pull × AreFieldValues fields
Fits (let_value ds p d place) m = AreDefinitions ds × IsPattern p × IsDeclared d
Fits (let_such b place) m = IsBind b
Fits (def_value p place) m = IsPattern p
Fits (if_test place) m = Unit {0}
Fits (if_then c place) m = Binds c far_pull
Fits (elseif_test c v bs place) m = Binds c far_pull × Binds v far_pull × AreBranches bs
Fits (elseif_then c v bs next place) m = Binds c far_pull × Binds v far_pull × AreBranches bs × Binds next far_pull
Fits (subject place) m = Unit {0}
Fits (case_value e cs ps place) m = Binds e far_pull × AreCases cs × AreSomePatterns ps × ArePatterns ps
Fits (others_value e cs place) m = Binds e far_pull × AreSomeCases cs × AreCases cs
Fits (bind_patterns for bs ps place) m = ForFits for × IsAlone for bs × AreBinds bs × ArePatterns ps × IsFirst for ps
Fits (sequence_bound e place) m = Binds e far_pull
Fits (let_start place) m = Unit {0}
Fits (let_next ds place) m = AreDefinitions ds
Fits (def_pattern place) m = Unit {0}
Fits (case_patterns e cs ps place) m = Binds e far_pull × AreCases cs × ArePatterns ps
Fits (pattern_items listed ps place) m = ArePatterns ps × PatternsForFits listed ps place
Fits (tuple_pattern_start place) m = Unit {0}
Fits (pattern_key ms place) m = AreMapletPatterns ms
Fits (pattern_value ms k place) m = AreMapletPatterns ms × IsPattern k
Fits (concatenated ps place) m = AreSomePatterns ps × PatternsBeginAt ps place × AreSinglePatterns ps
Fits (test_type e place) m = Binds e far_pull
Fits (let_type ds p place) m = AreDefinitions ds × IsPattern p
Fits type_bracket m = Unit {0}

abbrev pub StackFits : List Frame → Type 0
StackFits [] = Unit {0}
StackFits (f ∷ fs) = Fits f (context fs) × StackFits fs

-- ---- what holds of states

-- with one token more
abbrev pub Before : Word → List Token → List Written → Type 0
Before w tokens ws = (t : Token) → IsToken t (word w) → AreTokens (tokens ++ t ∷ []) ws

abbrev pub name_token : TypeNameFor → Name → Place → Token
name_token made name place = make_named name place
name_token asked name place = is_named name place
name_token made_pattern name place = make_named name place

abbrev pub Awaiting : Header → List Frame → List Token → Type 0
Awaiting (opens f) fs tokens = Fits f (context fs) × Before word_is.OpenRound tokens (stack_took fs ++ took f)
Awaiting (comma_then f) fs tokens = Fits f (context fs) × Before word_is.Comma tokens (stack_took fs ++ took f)
Awaiting (st_then f) fs tokens = Fits f (context fs) × Before word_is.St tokens (stack_took fs ++ took f)
Awaiting (arrow_then f) fs tokens = Fits f (context fs) × Before word_is.Arrow tokens (stack_took fs ++ took f)
Awaiting (opens_pattern f) fs tokens = Fits f (context fs) × Before word_is.OpenRound tokens (stack_took fs ++ took f)
Awaiting (type_after for name place) fs tokens = AreTokens tokens (stack_took fs ++ at (name_token for name place) ∷ [])
Awaiting (type_rest for name place) fs tokens = AreTokens tokens (stack_took fs ++ at (name_token for name place) ∷ word word_is.Backquote ∷ [])
Awaiting (qualified_rest name place) fs tokens = AreTokens tokens (stack_took fs ++ at (identifier name place) ∷ word word_is.Backquote ∷ [])
Awaiting (member_of e place) fs tokens = HeadFits e (context fs) × AreTokens tokens (stack_took fs ++ (spelling e ++ at_word word_is.Dot place ∷ []))
Awaiting (member_rest e name name_place place) fs tokens =
    HeadFits e (context fs) × AreTokens tokens (stack_took fs ++ (spelling e ++ at_word word_is.Dot place ∷ at (identifier name name_place) ∷ word word_is.Backquote ∷ []))
Awaiting (part_of e place) fs tokens = HeadFits e (context fs) × AreTokens tokens (stack_took fs ++ (spelling e ++ at_word word_is.DotNumber place ∷ []))
Awaiting (new_name place) fs tokens = AreTokens tokens (stack_took fs ++ at_word word_is.New place ∷ [])
Awaiting (counter_opens counter place) fs tokens = AreTokens tokens (stack_took fs ++ at_word (word_is.Counter counter) place ∷ [])
Awaiting (counter_name counter names place) fs tokens =
    AreTokens tokens (stack_took fs ++ at_word (word_is.Counter counter) place ∷ word word_is.OpenRound ∷ took_names names)
Awaiting (counter_next counter names place) fs tokens =
    AreSomeNames names × AreTokens tokens (stack_took fs ++ at_word (word_is.Counter counter) place ∷ word word_is.OpenRound ∷ names_spelling names)
Awaiting (class_opens place) fs tokens = AreTokens tokens (stack_took fs ++ at_word word_is.IsOfClass place ∷ [])
Awaiting (class_name place) fs tokens = AreTokens tokens (stack_took fs ++ at_word word_is.IsOfClass place ∷ word word_is.OpenRound ∷ [])
Awaiting (base_class_opens place) fs tokens = AreTokens tokens (stack_took fs ++ at_word word_is.IsOfBaseClass place ∷ [])
Awaiting (base_class_name place) fs tokens = AreTokens tokens (stack_took fs ++ at_word word_is.IsOfBaseClass place ∷ word word_is.OpenRound ∷ [])
Awaiting (field_name e fields place) fs tokens =
    Binds e far_pull × AreFieldValues fields
    × AreTokens tokens (stack_took fs ++ at_word word_is.Modify place ∷ word word_is.OpenRound ∷ (spelling e ++ (word word_is.Comma ∷ took_field_values fields)))
Awaiting (field_arrow e fields name name_place place) fs tokens =
    Binds e far_pull × AreFieldValues fields
    × AreTokens tokens (stack_took fs ++ at_word word_is.Modify place ∷ word word_is.OpenRound ∷ (spelling e ++ (word word_is.Comma ∷ (took_field_values fields ++ at (identifier name name_place) ∷ []))))
Awaiting (empty_map_end place) fs tokens = AreTokens tokens (stack_took fs ++ at_word word_is.OpenCurly place ∷ word word_is.MapsTo ∷ [])
Awaiting (empty_pattern_end place) fs tokens = AreTokens tokens (stack_took fs ++ at_word word_is.OpenCurly place ∷ word word_is.MapsTo ∷ [])

abbrev pub sound_in : Mode → List Frame → List Token → Type 0
sound_in wants fs tokens = StackFits fs × AreTokens tokens (stack_took fs)
sound_in (has e) fs tokens = StackFits fs × (closed ≤ reach e) × Binds e (context fs) × AreTokens tokens (stack_took fs ++ spelling e)
sound_in wants_pattern fs tokens = StackFits fs × AreTokens tokens (stack_took fs)
sound_in (has_pattern p) fs tokens = StackFits fs × IsSinglePattern p × IsPattern p × AreTokens tokens (stack_took fs ++ pattern_spelling p)
sound_in (awaits h) fs tokens = StackFits fs × Awaiting h fs tokens
sound_in (typing ts) fs tokens = StackFits fs × AreTokens tokens (stack_took fs ++ map at ts)
sound_in refused fs tokens = Unit {0}

-- the tokens are those that the state took, and what it has of trees is grammatical
pub record Sound (s : State) (tokens : List Token) : Type 0 where
  pub sound : sound_in s.mode s.frames tokens
