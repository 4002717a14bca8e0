-- Which trees of patterns, binds and expressions the grammar has: how operators group, how far to the right an expression goes,
-- and how many parts there are.
use Rattle.std.specs.Prelude.{◌≡◌, ℕ, ◌≤◌, ◌<◌, min, List, [], ◌∷◌, Option, Some, None}
use Rattle.vdm_kinds.specs.declared.name_at.NameAt.{NameAt}
use Rattle.vdm_kinds.specs.declared.place.Place.{Place}
use Rattle.abstract_syntax.specs.Types.{TypeTree}
use Rattle.abstract_syntax.specs.Expressions.{ExprTree, ExprTrees, MaybeExpr, MapletTrees, FieldValueTrees, DefinedTrees, BranchTrees, CaseTrees, BindTree, BindTrees, PatternTree, PatternTrees, MapletPatterns, bracketed, prefixed, joined, set_enumeration, set_range, set_comprehension, map_enumeration, map_comprehension, sequence_enumeration, sequence_comprehension, make_tuple, make_token, make_record, modify_record, is_of_type, is_of_named, is_of_basic, is_of_class, is_of_base_class, same_class, same_base_class, create, history, apply, subsequence, select, select_of_class, select_part, let_in, let_be, def_in, if_else, cases_of, for_all, exists_some, exists_one, iota_of, no_exprs, one_expr, left_out, given_expr, no_maplets, one_maplet, no_field_values, one_field_value, no_defined, one_defined, no_branches, one_branch, no_cases, one_case, bind_in, no_binds, one_bind, equal_to, set_pattern, sequence_pattern, map_pattern, tuple_pattern, record_pattern, concatenation_pattern, no_patterns, one_pattern, no_maplet_patterns, one_maplet_pattern}
use Rattle.abstract_syntax.specs.Expressions.{pattern_place}
use Rattle.grammar_words.specs.Pulls.{IsPrefix, IsInfix, left_pull, right_pull, far_pull, postfix_pull, closed}
use Rattle.type_reading.specs.TypeSpelling.{IsTypeNameAt, IsType, union}

-- an operator that pulls at least this would take into the tree's right end what stands behind it, and not the tree
abbrev pub reach : ExprTree → ℕ
reach (prefixed sign operand place) = min (right_pull sign) (reach operand)
reach (joined left sign right place) = min (right_pull sign) (reach right)
reach (let_in definitions body place) = far_pull
reach (let_be bind condition body place) = far_pull
reach (def_in pattern value body place) = far_pull
reach (if_else condition value elseifs otherwise place) = far_pull
reach (for_all binds condition place) = far_pull
reach (exists_some binds condition place) = far_pull
reach (exists_one bind condition place) = far_pull
reach (iota_of bind condition place) = far_pull
-- what ends in a word of its own
reach _ = closed

-- ---- how many parts there are

abbrev pub AreTwoExprs : ExprTrees → Type 0
AreTwoExprs no_exprs = ⊥
AreTwoExprs (one_expr first no_exprs) = ⊥
AreTwoExprs (one_expr first (one_expr second exprs)) = Unit {0}

abbrev pub AreTwoPatterns : PatternTrees → Type 0
AreTwoPatterns no_patterns = ⊥
AreTwoPatterns (one_pattern first no_patterns) = ⊥
AreTwoPatterns (one_pattern first (one_pattern second others)) = Unit {0}

abbrev pub AreSomePatterns : PatternTrees → Type 0
AreSomePatterns no_patterns = ⊥
AreSomePatterns (one_pattern first others) = Unit {0}

abbrev pub IsOnePattern : PatternTrees → Type 0
IsOnePattern no_patterns = ⊥
IsOnePattern (one_pattern first no_patterns) = Unit {0}
IsOnePattern (one_pattern first (one_pattern second others)) = ⊥

abbrev pub HasOnePattern : BindTree → Type 0
HasOnePattern (bind_in patterns set) = IsOnePattern patterns

abbrev pub AreSomeBinds : BindTrees → Type 0
AreSomeBinds no_binds = ⊥
AreSomeBinds (one_bind first binds) = Unit {0}

abbrev pub AreSomeMaplets : MapletTrees → Type 0
AreSomeMaplets no_maplets = ⊥
AreSomeMaplets (one_maplet key value pairs) = Unit {0}

abbrev pub AreSomeFields : FieldValueTrees → Type 0
AreSomeFields no_field_values = ⊥
AreSomeFields (one_field_value name name_place value fields) = Unit {0}

abbrev pub AreSomeDefinitions : DefinedTrees → Type 0
AreSomeDefinitions no_defined = ⊥
AreSomeDefinitions (one_defined pattern declared value definitions) = Unit {0}

abbrev pub AreSomeCases : CaseTrees → Type 0
AreSomeCases no_cases = ⊥
AreSomeCases (one_case _ value others) = Unit {0}

abbrev pub AreSomeMapletPatterns : MapletPatterns → Type 0
AreSomeMapletPatterns no_maplet_patterns = ⊥
AreSomeMapletPatterns (one_maplet_pattern key value pairs) = Unit {0}

abbrev pub AreSomeNames : List NameAt → Type 0
AreSomeNames [] = ⊥
AreSomeNames (first ∷ names) = Unit {0}

abbrev pub IsDeclared : Option TypeTree → Type 0
IsDeclared None = Unit {0}
IsDeclared (Some declared) = IsType declared union

-- a pattern between two `^`
abbrev pub IsSinglePattern : PatternTree → Type 0
IsSinglePattern (concatenation_pattern parts place) = ⊥
IsSinglePattern _ = Unit {0}

-- patterns begin where the first of them does
abbrev pub PatternsBeginAt : PatternTrees → Place → Type 0
PatternsBeginAt no_patterns place = ⊥
PatternsBeginAt (one_pattern first others) place = place ≡ pattern_place first

-- ---- the trees

abbrev mutual
  -- the grammar has the tree, and has it where what stands before it pulls so much
  pub Binds : ExprTree → ℕ → Type 0
  Binds (bracketed inner place) pull = Binds inner far_pull
  -- a prefix may stand wherever an operand is wanted
  Binds (prefixed sign operand place) pull = IsPrefix sign × Binds operand (right_pull sign)
  Binds (joined left sign right place) pull =
      IsInfix sign × Binds left pull × (pull ≤ left_pull sign) × (left_pull sign < reach left) × Binds right (right_pull sign)
  Binds (set_enumeration elements place) pull = AreExprs elements
  Binds (set_range first last place) pull = Binds first far_pull × Binds last far_pull
  Binds (set_comprehension element binds condition place) pull =
      Binds element far_pull × AreSomeBinds binds × AreBinds binds × IsGiven condition
  Binds (map_enumeration pairs place) pull = AreSomeMaplets pairs × AreMaplets pairs
  Binds (map_comprehension key value binds condition place) pull =
      Binds key far_pull × Binds value far_pull × AreSomeBinds binds × AreBinds binds × IsGiven condition
  Binds (sequence_enumeration items place) pull = AreExprs items
  Binds (sequence_comprehension item pattern set condition place) pull =
      Binds item far_pull × IsPattern pattern × Binds set far_pull × IsGiven condition
  Binds (make_tuple parts place) pull = AreTwoExprs parts × AreExprs parts
  Binds (make_token inner place) pull = Binds inner far_pull
  Binds (make_record type_name fields place) pull = IsTypeNameAt type_name place × AreExprs fields
  Binds (modify_record target fields place) pull = Binds target far_pull × AreSomeFields fields × AreFieldValues fields
  Binds (is_of_type tested declared place) pull = Binds tested far_pull × IsType declared union
  Binds (is_of_named type_name tested place) pull = IsTypeNameAt type_name place × Binds tested far_pull
  Binds (is_of_basic basic tested place) pull = Binds tested far_pull
  Binds (is_of_class class class_place tested place) pull = Binds tested far_pull
  Binds (is_of_base_class class class_place tested place) pull = Binds tested far_pull
  Binds (same_class left right place) pull = Binds left far_pull × Binds right far_pull
  Binds (same_base_class left right place) pull = Binds left far_pull × Binds right far_pull
  Binds (create class class_place arguments place) pull = AreExprs arguments
  Binds (history counter names place) pull = AreSomeNames names
  -- postfixes
  Binds (apply head arguments place) pull = Binds head pull × (pull ≤ postfix_pull) × (postfix_pull < reach head) × AreExprs arguments
  Binds (subsequence target first last place) pull = Binds target pull × (pull ≤ postfix_pull) × (postfix_pull < reach target) × Binds first far_pull × Binds last far_pull
  Binds (select target name name_place place) pull = Binds target pull × (pull ≤ postfix_pull) × (postfix_pull < reach target)
  Binds (select_of_class target class class_place name name_place place) pull = Binds target pull × (pull ≤ postfix_pull) × (postfix_pull < reach target)
  Binds (select_part target number place) pull = Binds target pull × (pull ≤ postfix_pull) × (postfix_pull < reach target)
  -- what reaches as far to the right as it can
  Binds (let_in definitions body place) pull = AreSomeDefinitions definitions × AreDefinitions definitions × Binds body far_pull
  Binds (let_be bind condition body place) pull = IsBind bind × IsGiven condition × Binds body far_pull
  Binds (def_in pattern value body place) pull = IsPattern pattern × Binds value far_pull × Binds body far_pull
  Binds (if_else condition value elseifs otherwise place) pull =
      Binds condition far_pull × Binds value far_pull × AreBranches elseifs × Binds otherwise far_pull
  Binds (cases_of subject cases others place) pull = Binds subject far_pull × AreSomeCases cases × AreCases cases × IsGiven others
  Binds (for_all binds condition place) pull = AreSomeBinds binds × AreBinds binds × Binds condition far_pull
  Binds (exists_some binds condition place) pull = AreSomeBinds binds × AreBinds binds × Binds condition far_pull
  Binds (exists_one bind condition place) pull = IsBind bind × Binds condition far_pull
  Binds (iota_of bind condition place) pull = IsBind bind × HasOnePattern bind × Binds condition far_pull
  -- names, literals, words and the empty map
  Binds _ pull = Unit {0}

  -- what may be left out
  pub IsGiven : MaybeExpr → Type 0
  IsGiven left_out = Unit {0}
  IsGiven (given_expr e) = Binds e far_pull

  pub AreExprs : ExprTrees → Type 0
  AreExprs no_exprs = Unit {0}
  AreExprs (one_expr first exprs) = Binds first far_pull × AreExprs exprs

  pub AreMaplets : MapletTrees → Type 0
  AreMaplets no_maplets = Unit {0}
  AreMaplets (one_maplet key value pairs) = Binds key far_pull × Binds value far_pull × AreMaplets pairs

  pub AreFieldValues : FieldValueTrees → Type 0
  AreFieldValues no_field_values = Unit {0}
  AreFieldValues (one_field_value name name_place value fields) = Binds value far_pull × AreFieldValues fields

  pub AreDefinitions : DefinedTrees → Type 0
  AreDefinitions no_defined = Unit {0}
  AreDefinitions (one_defined pattern declared value definitions) =
      IsPattern pattern × IsDeclared declared × Binds value far_pull × AreDefinitions definitions

  pub AreBranches : BranchTrees → Type 0
  AreBranches no_branches = Unit {0}
  AreBranches (one_branch condition value branches) = Binds condition far_pull × Binds value far_pull × AreBranches branches

  pub AreCases : CaseTrees → Type 0
  AreCases no_cases = Unit {0}
  AreCases (one_case patterns value cases) = AreSomePatterns patterns × ArePatterns patterns × Binds value far_pull × AreCases cases

  pub IsBind : BindTree → Type 0
  IsBind (bind_in patterns set) = AreSomePatterns patterns × ArePatterns patterns × Binds set far_pull

  pub AreBinds : BindTrees → Type 0
  AreBinds no_binds = Unit {0}
  AreBinds (one_bind bind binds) = IsBind bind × AreBinds binds

  pub IsPattern : PatternTree → Type 0
  IsPattern (equal_to inner place) = Binds inner far_pull
  IsPattern (set_pattern elements place) = ArePatterns elements
  IsPattern (sequence_pattern items place) = ArePatterns items
  IsPattern (map_pattern pairs place) = AreSomeMapletPatterns pairs × AreMapletPatterns pairs
  IsPattern (tuple_pattern parts place) = AreTwoPatterns parts × ArePatterns parts
  IsPattern (record_pattern type_name fields place) = IsTypeNameAt type_name place × ArePatterns fields
  IsPattern (concatenation_pattern parts place) = AreTwoPatterns parts × PatternsBeginAt parts place × AreSinglePatterns parts
  -- any value, names, literals and the empty map
  IsPattern _ = Unit {0}

  pub ArePatterns : PatternTrees → Type 0
  ArePatterns no_patterns = Unit {0}
  ArePatterns (one_pattern first patterns) = IsPattern first × ArePatterns patterns

  pub AreSinglePatterns : PatternTrees → Type 0
  AreSinglePatterns no_patterns = Unit {0}
  AreSinglePatterns (one_pattern first patterns) = IsSinglePattern first × IsPattern first × AreSinglePatterns patterns

  pub AreMapletPatterns : MapletPatterns → Type 0
  AreMapletPatterns no_maplet_patterns = Unit {0}
  AreMapletPatterns (one_maplet_pattern key value pairs) = IsPattern key × IsPattern value × AreMapletPatterns pairs
