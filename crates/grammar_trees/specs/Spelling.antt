-- The tokens that patterns, binds and expressions are written with.
use Rattle.std.specs.Prelude.{List, [], ◌∷◌, Option, Some, None}
use Rattle.vdm_kinds.specs.declared.name_at.NameAt.{NameAt}
use Rattle.vdm_kinds.specs.declared.sign.Sign.TheVariants.{Concatenation, Equal, InSet, Minus}
use Rattle.abstract_syntax.specs.Types.{TypeTree}
use Rattle.abstract_syntax.specs.Expressions.{ExprTree, ExprTrees, MaybeExpr, MapletTrees, FieldValueTrees, DefinedTrees, BranchTrees, CaseTrees, BindTree, BindTrees, PatternTree, PatternTrees, MapletPatterns, literal, named, qualified, old_value, self_object, current_time, undefined, result_value, bracketed, prefixed, joined, set_enumeration, set_range, set_comprehension, empty_map, map_enumeration, map_comprehension, sequence_enumeration, sequence_comprehension, make_tuple, make_token, make_record, modify_record, is_of_type, is_of_named, is_of_basic, is_of_class, is_of_base_class, same_class, same_base_class, create, history, apply, subsequence, select, select_of_class, select_part, let_in, let_be, def_in, if_else, cases_of, for_all, exists_some, exists_one, iota_of, no_exprs, one_expr, left_out, given_expr, no_maplets, one_maplet, no_field_values, one_field_value, no_defined, one_defined, no_branches, one_branch, no_cases, one_case, bind_in, no_binds, one_bind, any_value, bound, literal_pattern, equal_to, set_pattern, sequence_pattern, map_pattern, empty_map_pattern, tuple_pattern, record_pattern, concatenation_pattern, no_patterns, one_pattern, no_maplet_patterns, one_maplet_pattern}
use Rattle.grammar_words.specs.declared.word.Word.{Word}
use Rattle.grammar_words.specs.declared.word.Word.TheVariants as word_is
use Rattle.grammar_words.specs.Tokens.{identifier, make_named, is_named}
use Rattle.grammar_words.specs.Written.{Written, at, word, number, ◌⌢◌, at_word}
use Rattle.grammar_words.specs.Pulls.{prefix_word}
use Rattle.type_reading.specs.TypeSpelling.{literal_token, type_name_spelling, type_spelling}

abbrev pub further_names : List NameAt → List Written
further_names [] = []
further_names (next ∷ names) = word word_is.Comma ∷ at (identifier next.name next.place) ∷ further_names names

-- names with a comma between each two
abbrev pub names_spelling : List NameAt → List Written
names_spelling [] = []
names_spelling (first ∷ names) = at (identifier first.name first.place) ∷ further_names names

-- a type that may be left out
abbrev pub declared_spelling : Option TypeTree → List Written
declared_spelling None = []
declared_spelling (Some declared) = word word_is.Colon ∷ type_spelling declared

abbrev mutual
  pub spelling : ExprTree → List Written
  -- ---- names, literals and words
  spelling (literal value place) = at (literal_token value place) ∷ []
  spelling (named name place) = at (identifier name place) ∷ []
  spelling (qualified class name name_place place) = at (identifier class place) ∷ word word_is.Backquote ∷ at (identifier name name_place) ∷ []
  spelling (old_value name place) = at (identifier name place) ∷ word word_is.Tilde ∷ []
  spelling (self_object place) = at_word word_is.SelfWord place ∷ []
  spelling (current_time place) = at_word word_is.Time place ∷ []
  spelling (undefined place) = at_word word_is.Undefined place ∷ []
  spelling (result_value place) = at_word word_is.Result place ∷ []
  spelling (bracketed inner place) = at_word word_is.OpenRound place ∷ spelling inner ⌢ word word_is.CloseRound ∷ []
  -- ---- operators
  spelling (prefixed sign operand place) = at_word (prefix_word sign) place ∷ spelling operand
  spelling (joined left sign right place) = spelling left ⌢ at_word (word_is.Operator sign) place ∷ spelling right
  -- ---- sets, maps and sequences
  spelling (set_enumeration elements place) = at_word word_is.OpenCurly place ∷ exprs_spelling elements ⌢ word word_is.CloseCurly ∷ []
  spelling (set_range first last place) =
      at_word word_is.OpenCurly place ∷ spelling first ⌢ word word_is.Comma ∷ word word_is.Dots ∷ word word_is.Comma ∷ spelling last
      ⌢ word word_is.CloseCurly ∷ []
  spelling (set_comprehension element binds condition place) =
      at_word word_is.OpenCurly place ∷ spelling element ⌢ word word_is.Bar ∷ binds_spelling binds
      ⌢ behind_word word_is.Ampersand condition ⌢ word word_is.CloseCurly ∷ []
  spelling (empty_map place) = at_word word_is.OpenCurly place ∷ word word_is.MapsTo ∷ word word_is.CloseCurly ∷ []
  spelling (map_enumeration pairs place) = at_word word_is.OpenCurly place ∷ maplets_spelling pairs ⌢ word word_is.CloseCurly ∷ []
  spelling (map_comprehension key value binds condition place) =
      at_word word_is.OpenCurly place ∷ spelling key ⌢ word word_is.MapsTo ∷ spelling value ⌢ word word_is.Bar ∷ binds_spelling binds
      ⌢ behind_word word_is.Ampersand condition ⌢ word word_is.CloseCurly ∷ []
  spelling (sequence_enumeration items place) = at_word word_is.OpenSquare place ∷ exprs_spelling items ⌢ word word_is.CloseSquare ∷ []
  spelling (sequence_comprehension item pattern set condition place) =
      at_word word_is.OpenSquare place ∷ spelling item ⌢ word word_is.Bar ∷ pattern_spelling pattern
      ⌢ word (word_is.Operator InSet) ∷ spelling set ⌢ behind_word word_is.Ampersand condition ⌢ word word_is.CloseSquare ∷ []
  -- ---- tuples, tokens and records
  spelling (make_tuple parts place) =
      at_word word_is.MakeTuple place ∷ word word_is.OpenRound ∷ exprs_spelling parts ⌢ word word_is.CloseRound ∷ []
  spelling (make_token inner place) =
      at_word word_is.MakeToken place ∷ word word_is.OpenRound ∷ spelling inner ⌢ word word_is.CloseRound ∷ []
  spelling (make_record type_name fields place) =
      type_name_spelling make_named type_name place ⌢ word word_is.OpenRound ∷ exprs_spelling fields ⌢ word word_is.CloseRound ∷ []
  spelling (modify_record target fields place) =
      at_word word_is.Modify place ∷ word word_is.OpenRound ∷ spelling target ⌢ word word_is.Comma ∷ field_values_spelling fields
      ⌢ word word_is.CloseRound ∷ []
  -- ---- tests of types and classes
  spelling (is_of_type tested declared place) =
      at_word word_is.IsType place ∷ word word_is.OpenRound ∷ spelling tested ⌢ word word_is.Comma ∷ type_spelling declared
      ⌢ word word_is.CloseRound ∷ []
  spelling (is_of_named type_name tested place) =
      type_name_spelling is_named type_name place ⌢ word word_is.OpenRound ∷ spelling tested ⌢ word word_is.CloseRound ∷ []
  spelling (is_of_basic basic tested place) =
      at_word (word_is.IsBasic basic) place ∷ word word_is.OpenRound ∷ spelling tested ⌢ word word_is.CloseRound ∷ []
  spelling (is_of_class class class_place tested place) =
      at_word word_is.IsOfClass place ∷ word word_is.OpenRound ∷ at (identifier class class_place) ∷ word word_is.Comma ∷ spelling tested
      ⌢ word word_is.CloseRound ∷ []
  spelling (is_of_base_class class class_place tested place) =
      at_word word_is.IsOfBaseClass place ∷ word word_is.OpenRound ∷ at (identifier class class_place) ∷ word word_is.Comma ∷ spelling tested
      ⌢ word word_is.CloseRound ∷ []
  spelling (same_class left right place) =
      at_word word_is.SameClass place ∷ word word_is.OpenRound ∷ spelling left ⌢ word word_is.Comma ∷ spelling right
      ⌢ word word_is.CloseRound ∷ []
  spelling (same_base_class left right place) =
      at_word word_is.SameBaseClass place ∷ word word_is.OpenRound ∷ spelling left ⌢ word word_is.Comma ∷ spelling right
      ⌢ word word_is.CloseRound ∷ []
  -- ---- objects and their history
  spelling (create class class_place arguments place) =
      at_word word_is.New place ∷ at (identifier class class_place) ∷ word word_is.OpenRound ∷ exprs_spelling arguments
      ⌢ word word_is.CloseRound ∷ []
  spelling (history counter names place) =
      at_word (word_is.Counter counter) place ∷ word word_is.OpenRound ∷ names_spelling names ⌢ word word_is.CloseRound ∷ []
  -- ---- postfixes
  spelling (apply head arguments place) =
      spelling head ⌢ at_word word_is.OpenRound place ∷ exprs_spelling arguments ⌢ word word_is.CloseRound ∷ []
  spelling (subsequence target first last place) =
      spelling target ⌢ at_word word_is.OpenRound place ∷ spelling first ⌢ word word_is.Comma ∷ word word_is.Dots ∷ word word_is.Comma ∷ spelling last
      ⌢ word word_is.CloseRound ∷ []
  spelling (select target name name_place place) =
      spelling target ⌢ at_word word_is.Dot place ∷ at (identifier name name_place) ∷ []
  spelling (select_of_class target class class_place name name_place place) =
      spelling target ⌢ at_word word_is.Dot place ∷ at (identifier class class_place) ∷ word word_is.Backquote ∷ at (identifier name name_place) ∷ []
  spelling (select_part target part place) = spelling target ⌢ at_word word_is.DotNumber place ∷ number part ∷ []
  -- ---- what reaches as far to the right as it can
  spelling (let_in definitions body place) =
      at_word word_is.Let place ∷ definitions_spelling definitions ⌢ word word_is.In ∷ spelling body
  spelling (let_be bind condition body place) =
      at_word word_is.Let place ∷ bind_spelling bind ⌢ such_that condition ⌢ word word_is.In ∷ spelling body
  spelling (def_in pattern value body place) =
      at_word word_is.Def place ∷ pattern_spelling pattern ⌢ word (word_is.Operator Equal) ∷ spelling value ⌢ word word_is.In ∷ spelling body
  spelling (if_else condition value elseifs otherwise place) =
      at_word word_is.If place ∷ spelling condition ⌢ word word_is.Then ∷ spelling value ⌢ branches_spelling elseifs
      ⌢ word word_is.Else ∷ spelling otherwise
  spelling (cases_of subject cases others place) =
      at_word word_is.Cases place ∷ spelling subject ⌢ word word_is.Colon ∷ cases_spelling cases ⌢ others_spelling others
      ⌢ word word_is.End ∷ []
  spelling (for_all binds condition place) =
      at_word word_is.Forall place ∷ binds_spelling binds ⌢ word word_is.Ampersand ∷ spelling condition
  spelling (exists_some binds condition place) =
      at_word word_is.Exists place ∷ binds_spelling binds ⌢ word word_is.Ampersand ∷ spelling condition
  spelling (exists_one bind condition place) =
      at_word word_is.ExistsOne place ∷ bind_spelling bind ⌢ word word_is.Ampersand ∷ spelling condition
  spelling (iota_of bind condition place) =
      at_word word_is.Iota place ∷ bind_spelling bind ⌢ word word_is.Ampersand ∷ spelling condition

  -- ---- parts that may be left out
  pub behind_word : Word → MaybeExpr → List Written
  behind_word w left_out = []
  behind_word w (given_expr e) = word w ∷ spelling e

  pub such_that : MaybeExpr → List Written
  such_that left_out = []
  such_that (given_expr e) = word word_is.Be ∷ word word_is.St ∷ spelling e

  pub others_spelling : MaybeExpr → List Written
  others_spelling left_out = []
  others_spelling (given_expr e) = word word_is.Comma ∷ word word_is.Others ∷ word word_is.Arrow ∷ spelling e

  -- ---- lists, with a comma between each two
  pub exprs_spelling : ExprTrees → List Written
  exprs_spelling no_exprs = []
  exprs_spelling (one_expr first exprs) = spelling first ⌢ further_exprs exprs

  pub further_exprs : ExprTrees → List Written
  further_exprs no_exprs = []
  further_exprs (one_expr next exprs) = word word_is.Comma ∷ spelling next ⌢ further_exprs exprs

  pub maplets_spelling : MapletTrees → List Written
  maplets_spelling no_maplets = []
  maplets_spelling (one_maplet key value pairs) = spelling key ⌢ word word_is.MapsTo ∷ spelling value ⌢ further_maplets pairs

  pub further_maplets : MapletTrees → List Written
  further_maplets no_maplets = []
  further_maplets (one_maplet key value pairs) =
      word word_is.Comma ∷ spelling key ⌢ word word_is.MapsTo ∷ spelling value ⌢ further_maplets pairs

  pub field_values_spelling : FieldValueTrees → List Written
  field_values_spelling no_field_values = []
  field_values_spelling (one_field_value name name_place value fields) =
      at (identifier name name_place) ∷ word word_is.MapsTo ∷ spelling value ⌢ further_field_values fields

  pub further_field_values : FieldValueTrees → List Written
  further_field_values no_field_values = []
  further_field_values (one_field_value name name_place value fields) =
      word word_is.Comma ∷ at (identifier name name_place) ∷ word word_is.MapsTo ∷ spelling value ⌢ further_field_values fields

  pub definitions_spelling : DefinedTrees → List Written
  definitions_spelling no_defined = []
  definitions_spelling (one_defined pattern declared value definitions) =
      pattern_spelling pattern ⌢ declared_spelling declared ⌢ word (word_is.Operator Equal) ∷ spelling value
      ⌢ further_definitions definitions

  pub further_definitions : DefinedTrees → List Written
  further_definitions no_defined = []
  further_definitions (one_defined pattern declared value definitions) =
      word word_is.Comma ∷ pattern_spelling pattern ⌢ declared_spelling declared ⌢ word (word_is.Operator Equal) ∷ spelling value
      ⌢ further_definitions definitions

  -- one after the other, with nothing between
  pub branches_spelling : BranchTrees → List Written
  branches_spelling no_branches = []
  branches_spelling (one_branch condition value branches) =
      word word_is.Elseif ∷ spelling condition ⌢ word word_is.Then ∷ spelling value ⌢ branches_spelling branches

  pub cases_spelling : CaseTrees → List Written
  cases_spelling no_cases = []
  cases_spelling (one_case patterns value cases) =
      patterns_spelling patterns ⌢ word word_is.Arrow ∷ spelling value ⌢ further_cases cases

  pub further_cases : CaseTrees → List Written
  further_cases no_cases = []
  further_cases (one_case patterns value cases) =
      word word_is.Comma ∷ patterns_spelling patterns ⌢ word word_is.Arrow ∷ spelling value ⌢ further_cases cases

  -- ---- binds
  pub bind_spelling : BindTree → List Written
  bind_spelling (bind_in patterns set) = patterns_spelling patterns ⌢ word (word_is.Operator InSet) ∷ spelling set

  pub binds_spelling : BindTrees → List Written
  binds_spelling no_binds = []
  binds_spelling (one_bind bind binds) = bind_spelling bind ⌢ further_binds binds

  pub further_binds : BindTrees → List Written
  further_binds no_binds = []
  further_binds (one_bind bind binds) = word word_is.Comma ∷ bind_spelling bind ⌢ further_binds binds

  -- ---- patterns
  pub pattern_spelling : PatternTree → List Written
  pattern_spelling (any_value place) = at_word (word_is.Operator Minus) place ∷ []
  pattern_spelling (bound name place) = at (identifier name place) ∷ []
  pattern_spelling (literal_pattern value place) = at (literal_token value place) ∷ []
  pattern_spelling (equal_to inner place) = at_word word_is.OpenRound place ∷ spelling inner ⌢ word word_is.CloseRound ∷ []
  pattern_spelling (set_pattern elements place) =
      at_word word_is.OpenCurly place ∷ patterns_spelling elements ⌢ word word_is.CloseCurly ∷ []
  pattern_spelling (sequence_pattern items place) =
      at_word word_is.OpenSquare place ∷ patterns_spelling items ⌢ word word_is.CloseSquare ∷ []
  pattern_spelling (map_pattern pairs place) =
      at_word word_is.OpenCurly place ∷ maplet_patterns_spelling pairs ⌢ word word_is.CloseCurly ∷ []
  pattern_spelling (empty_map_pattern place) = at_word word_is.OpenCurly place ∷ word word_is.MapsTo ∷ word word_is.CloseCurly ∷ []
  pattern_spelling (tuple_pattern parts place) =
      at_word word_is.MakeTuple place ∷ word word_is.OpenRound ∷ patterns_spelling parts ⌢ word word_is.CloseRound ∷ []
  pattern_spelling (record_pattern type_name fields place) =
      type_name_spelling make_named type_name place ⌢ word word_is.OpenRound ∷ patterns_spelling fields ⌢ word word_is.CloseRound ∷ []
  pattern_spelling (concatenation_pattern parts place) = joined_patterns parts

  pub patterns_spelling : PatternTrees → List Written
  patterns_spelling no_patterns = []
  patterns_spelling (one_pattern first patterns) = pattern_spelling first ⌢ further_patterns patterns

  pub further_patterns : PatternTrees → List Written
  further_patterns no_patterns = []
  further_patterns (one_pattern next patterns) = word word_is.Comma ∷ pattern_spelling next ⌢ further_patterns patterns

  -- patterns with `^` between each two
  pub joined_patterns : PatternTrees → List Written
  joined_patterns no_patterns = []
  joined_patterns (one_pattern first patterns) = pattern_spelling first ⌢ further_joined patterns

  pub further_joined : PatternTrees → List Written
  further_joined no_patterns = []
  further_joined (one_pattern next patterns) = word (word_is.Operator Concatenation) ∷ pattern_spelling next ⌢ further_joined patterns

  pub maplet_patterns_spelling : MapletPatterns → List Written
  maplet_patterns_spelling no_maplet_patterns = []
  maplet_patterns_spelling (one_maplet_pattern key value pairs) =
      pattern_spelling key ⌢ word word_is.MapsTo ∷ pattern_spelling value ⌢ further_maplet_patterns pairs

  pub further_maplet_patterns : MapletPatterns → List Written
  further_maplet_patterns no_maplet_patterns = []
  further_maplet_patterns (one_maplet_pattern key value pairs) =
      word word_is.Comma ∷ pattern_spelling key ⌢ word word_is.MapsTo ∷ pattern_spelling value ⌢ further_maplet_patterns pairs
