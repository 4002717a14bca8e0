-- Lists that were read so far: what they are written with.
use Rattle.std.proofs.Common.{◌≡◌, List, [], ◌∷◌, ◌++◌, Option, refl, ap, ◌∙◌, append_assoc}
use Rattle.abstract_syntax.specs.Expressions.{ExprTree, ExprTrees, MapletTrees, FieldValueTrees, DefinedTrees, BranchTrees, CaseTrees, BindTree, BindTrees, PatternTree, PatternTrees, MapletPatterns, no_exprs, one_expr, no_maplets, one_maplet, no_field_values, one_field_value, no_defined, one_defined, no_branches, one_branch, no_cases, one_case, no_binds, one_bind, no_patterns, one_pattern, no_maplet_patterns, one_maplet_pattern}
use Rattle.grammar_words.specs.Pulls.{far_pull}
use Rattle.grammar_trees.specs.Spelling.{further_names, names_spelling, declared_spelling, spelling, exprs_spelling, further_exprs, maplets_spelling, further_maplets, field_values_spelling, further_field_values, definitions_spelling, further_definitions, branches_spelling, cases_spelling, further_cases, bind_spelling, binds_spelling, further_binds, pattern_spelling, patterns_spelling, further_patterns, joined_patterns, further_joined, maplet_patterns_spelling, further_maplet_patterns}
use Rattle.grammar_trees.specs.Binding.{AreSomePatterns, IsDeclared, IsSinglePattern, Binds, AreExprs, AreMaplets, AreFieldValues, AreDefinitions, AreBranches, AreCases, IsBind, AreBinds, IsPattern, ArePatterns, AreSinglePatterns, AreMapletPatterns}
use Rattle.grammar_trees.specs.Lists.{then_exprs, then_maplets, then_field_values, then_defined, then_branches, then_cases, then_binds, then_patterns, then_maplet_patterns}
use Rattle.grammar_words.specs.Tokens.{identifier}
use Rattle.grammar_words.specs.Written.{Written, at, word}
use Rattle.abstract_syntax.specs.Types.{TypeTree}
use Rattle.vdm_kinds.specs.declared.name.Name.{Name}
use Rattle.vdm_kinds.specs.declared.place.Place.{Place}
use Rattle.vdm_kinds.specs.declared.name_at.NameAt.{NameAt}
use Rattle.grammar_words.specs.declared.word.Word.TheVariants as word_is
use Rattle.vdm_kinds.specs.declared.sign.Sign.TheVariants as sign_is

-- exprs with the word behind each
abbrev pub took_exprs : ExprTrees → List Written
took_exprs no_exprs = []
took_exprs (one_expr e more) = spelling e ++ (word word_is.Comma ∷ took_exprs more)

exprs-further : (xs : ExprTrees) (e : ExprTree) → further_exprs (then_exprs xs (one_expr e no_exprs)) ≡ word word_is.Comma ∷ exprs_spelling (then_exprs xs (one_expr e no_exprs))
exprs-further no_exprs e = refl
exprs-further (one_expr e' more) e = refl

pub exprs-took : (xs : ExprTrees) (e : ExprTree) → took_exprs (then_exprs xs (one_expr e no_exprs)) ≡ took_exprs xs ++ (spelling e ++ (word word_is.Comma ∷ []))
exprs-took no_exprs e = refl
exprs-took (one_expr e' more) e = simp (exprs-took more e, append_assoc) refl

pub exprs-spelled : (xs : ExprTrees) (e : ExprTree) → exprs_spelling (then_exprs xs (one_expr e no_exprs)) ≡ took_exprs xs ++ (spelling e ++ ([]))
exprs-spelled no_exprs e = refl
exprs-spelled (one_expr e' more) e = simp (exprs-further more e, exprs-spelled more e, append_assoc) refl

pub exprs-are : (xs : ExprTrees) (e : ExprTree) → AreExprs xs → Binds e far_pull → AreExprs (then_exprs xs (one_expr e no_exprs))
exprs-are no_exprs e h g = (g, tt)
exprs-are (one_expr e' more) e h g = (h.0, exprs-are more e h.1 g)

-- maplets with the word behind each
abbrev pub took_maplets : MapletTrees → List Written
took_maplets no_maplets = []
took_maplets (one_maplet k v more) = spelling k ++ (word word_is.MapsTo ∷ (spelling v ++ (word word_is.Comma ∷ took_maplets more)))

maplets-further : (xs : MapletTrees) (k : ExprTree) (v : ExprTree) → further_maplets (then_maplets xs (one_maplet k v no_maplets)) ≡ word word_is.Comma ∷ maplets_spelling (then_maplets xs (one_maplet k v no_maplets))
maplets-further no_maplets k v = refl
maplets-further (one_maplet k' v' more) k v = refl

pub maplets-took : (xs : MapletTrees) (k : ExprTree) (v : ExprTree) → took_maplets (then_maplets xs (one_maplet k v no_maplets)) ≡ took_maplets xs ++ (spelling k ++ (word word_is.MapsTo ∷ (spelling v ++ (word word_is.Comma ∷ []))))
maplets-took no_maplets k v = refl
maplets-took (one_maplet k' v' more) k v = simp (maplets-took more k v, append_assoc) refl

pub maplets-spelled : (xs : MapletTrees) (k : ExprTree) (v : ExprTree) → maplets_spelling (then_maplets xs (one_maplet k v no_maplets)) ≡ took_maplets xs ++ (spelling k ++ (word word_is.MapsTo ∷ (spelling v ++ ([]))))
maplets-spelled no_maplets k v = refl
maplets-spelled (one_maplet k' v' more) k v = simp (maplets-further more k v, maplets-spelled more k v, append_assoc) refl

pub maplets-are : (xs : MapletTrees) (k : ExprTree) (v : ExprTree) → AreMaplets xs → Binds k far_pull × Binds v far_pull → AreMaplets (then_maplets xs (one_maplet k v no_maplets))
maplets-are no_maplets k v h g = (g.0, g.1, tt)
maplets-are (one_maplet k' v' more) k v h g = (h.0, h.1, maplets-are more k v h.2 g)

-- field values with the word behind each
abbrev pub took_field_values : FieldValueTrees → List Written
took_field_values no_field_values = []
took_field_values (one_field_value n p v more) = at (identifier n p) ∷ word word_is.MapsTo ∷ (spelling v ++ (word word_is.Comma ∷ took_field_values more))

field_values-further : (xs : FieldValueTrees) (n : Name) (p : Place) (v : ExprTree) → further_field_values (then_field_values xs (one_field_value n p v no_field_values)) ≡ word word_is.Comma ∷ field_values_spelling (then_field_values xs (one_field_value n p v no_field_values))
field_values-further no_field_values n p v = refl
field_values-further (one_field_value n' p' v' more) n p v = refl

pub field_values-took : (xs : FieldValueTrees) (n : Name) (p : Place) (v : ExprTree) → took_field_values (then_field_values xs (one_field_value n p v no_field_values)) ≡ took_field_values xs ++ (at (identifier n p) ∷ word word_is.MapsTo ∷ (spelling v ++ (word word_is.Comma ∷ [])))
field_values-took no_field_values n p v = refl
field_values-took (one_field_value n' p' v' more) n p v = simp (field_values-took more n p v, append_assoc) refl

pub field_values-spelled : (xs : FieldValueTrees) (n : Name) (p : Place) (v : ExprTree) → field_values_spelling (then_field_values xs (one_field_value n p v no_field_values)) ≡ took_field_values xs ++ (at (identifier n p) ∷ word word_is.MapsTo ∷ (spelling v ++ ([])))
field_values-spelled no_field_values n p v = refl
field_values-spelled (one_field_value n' p' v' more) n p v = simp (field_values-further more n p v, field_values-spelled more n p v, append_assoc) refl

pub field_values-are : (xs : FieldValueTrees) (n : Name) (p : Place) (v : ExprTree) → AreFieldValues xs → Binds v far_pull → AreFieldValues (then_field_values xs (one_field_value n p v no_field_values))
field_values-are no_field_values n p v h g = (g, tt)
field_values-are (one_field_value n' p' v' more) n p v h g = (h.0, field_values-are more n p v h.1 g)

-- defined with the word behind each
abbrev pub took_defined : DefinedTrees → List Written
took_defined no_defined = []
took_defined (one_defined p d v more) = pattern_spelling p ++ (declared_spelling d ++ (word (word_is.Operator sign_is.Equal) ∷ (spelling v ++ (word word_is.Comma ∷ took_defined more))))

defined-further : (xs : DefinedTrees) (p : PatternTree) (d : Option TypeTree) (v : ExprTree) → further_definitions (then_defined xs (one_defined p d v no_defined)) ≡ word word_is.Comma ∷ definitions_spelling (then_defined xs (one_defined p d v no_defined))
defined-further no_defined p d v = refl
defined-further (one_defined p' d' v' more) p d v = refl

pub defined-took : (xs : DefinedTrees) (p : PatternTree) (d : Option TypeTree) (v : ExprTree) → took_defined (then_defined xs (one_defined p d v no_defined)) ≡ took_defined xs ++ (pattern_spelling p ++ (declared_spelling d ++ (word (word_is.Operator sign_is.Equal) ∷ (spelling v ++ (word word_is.Comma ∷ [])))))
defined-took no_defined p d v = refl
defined-took (one_defined p' d' v' more) p d v = simp (defined-took more p d v, append_assoc) refl

pub defined-spelled : (xs : DefinedTrees) (p : PatternTree) (d : Option TypeTree) (v : ExprTree) → definitions_spelling (then_defined xs (one_defined p d v no_defined)) ≡ took_defined xs ++ (pattern_spelling p ++ (declared_spelling d ++ (word (word_is.Operator sign_is.Equal) ∷ (spelling v ++ ([])))))
defined-spelled no_defined p d v = refl
defined-spelled (one_defined p' d' v' more) p d v = simp (defined-further more p d v, defined-spelled more p d v, append_assoc) refl

pub defined-are : (xs : DefinedTrees) (p : PatternTree) (d : Option TypeTree) (v : ExprTree) → AreDefinitions xs → IsPattern p × IsDeclared d × Binds v far_pull → AreDefinitions (then_defined xs (one_defined p d v no_defined))
defined-are no_defined p d v h g = (g.0, g.1, g.2, tt)
defined-are (one_defined p' d' v' more) p d v h g = (h.0, h.1, h.2, defined-are more p d v h.3 g)

-- cases with the word behind each
abbrev pub took_cases : CaseTrees → List Written
took_cases no_cases = []
took_cases (one_case ps v more) = patterns_spelling ps ++ (word word_is.Arrow ∷ (spelling v ++ (word word_is.Comma ∷ took_cases more)))

cases-further : (xs : CaseTrees) (ps : PatternTrees) (v : ExprTree) → further_cases (then_cases xs (one_case ps v no_cases)) ≡ word word_is.Comma ∷ cases_spelling (then_cases xs (one_case ps v no_cases))
cases-further no_cases ps v = refl
cases-further (one_case ps' v' more) ps v = refl

pub cases-took : (xs : CaseTrees) (ps : PatternTrees) (v : ExprTree) → took_cases (then_cases xs (one_case ps v no_cases)) ≡ took_cases xs ++ (patterns_spelling ps ++ (word word_is.Arrow ∷ (spelling v ++ (word word_is.Comma ∷ []))))
cases-took no_cases ps v = refl
cases-took (one_case ps' v' more) ps v = simp (cases-took more ps v, append_assoc) refl

pub cases-spelled : (xs : CaseTrees) (ps : PatternTrees) (v : ExprTree) → cases_spelling (then_cases xs (one_case ps v no_cases)) ≡ took_cases xs ++ (patterns_spelling ps ++ (word word_is.Arrow ∷ (spelling v ++ ([]))))
cases-spelled no_cases ps v = refl
cases-spelled (one_case ps' v' more) ps v = simp (cases-further more ps v, cases-spelled more ps v, append_assoc) refl

pub cases-are : (xs : CaseTrees) (ps : PatternTrees) (v : ExprTree) → AreCases xs → AreSomePatterns ps × ArePatterns ps × Binds v far_pull → AreCases (then_cases xs (one_case ps v no_cases))
cases-are no_cases ps v h g = (g.0, g.1, g.2, tt)
cases-are (one_case ps' v' more) ps v h g = (h.0, h.1, h.2, cases-are more ps v h.3 g)

-- binds with the word behind each
abbrev pub took_binds : BindTrees → List Written
took_binds no_binds = []
took_binds (one_bind b more) = bind_spelling b ++ (word word_is.Comma ∷ took_binds more)

binds-further : (xs : BindTrees) (b : BindTree) → further_binds (then_binds xs (one_bind b no_binds)) ≡ word word_is.Comma ∷ binds_spelling (then_binds xs (one_bind b no_binds))
binds-further no_binds b = refl
binds-further (one_bind b' more) b = refl

pub binds-took : (xs : BindTrees) (b : BindTree) → took_binds (then_binds xs (one_bind b no_binds)) ≡ took_binds xs ++ (bind_spelling b ++ (word word_is.Comma ∷ []))
binds-took no_binds b = refl
binds-took (one_bind b' more) b = simp (binds-took more b, append_assoc) refl

pub binds-spelled : (xs : BindTrees) (b : BindTree) → binds_spelling (then_binds xs (one_bind b no_binds)) ≡ took_binds xs ++ (bind_spelling b ++ ([]))
binds-spelled no_binds b = refl
binds-spelled (one_bind b' more) b = simp (binds-further more b, binds-spelled more b, append_assoc) refl

pub binds-are : (xs : BindTrees) (b : BindTree) → AreBinds xs → IsBind b → AreBinds (then_binds xs (one_bind b no_binds))
binds-are no_binds b h g = (g, tt)
binds-are (one_bind b' more) b h g = (h.0, binds-are more b h.1 g)

-- patterns with the word behind each
abbrev pub took_patterns : PatternTrees → List Written
took_patterns no_patterns = []
took_patterns (one_pattern p more) = pattern_spelling p ++ (word word_is.Comma ∷ took_patterns more)

patterns-further : (xs : PatternTrees) (p : PatternTree) → further_patterns (then_patterns xs (one_pattern p no_patterns)) ≡ word word_is.Comma ∷ patterns_spelling (then_patterns xs (one_pattern p no_patterns))
patterns-further no_patterns p = refl
patterns-further (one_pattern p' more) p = refl

pub patterns-took : (xs : PatternTrees) (p : PatternTree) → took_patterns (then_patterns xs (one_pattern p no_patterns)) ≡ took_patterns xs ++ (pattern_spelling p ++ (word word_is.Comma ∷ []))
patterns-took no_patterns p = refl
patterns-took (one_pattern p' more) p = simp (patterns-took more p, append_assoc) refl

pub patterns-spelled : (xs : PatternTrees) (p : PatternTree) → patterns_spelling (then_patterns xs (one_pattern p no_patterns)) ≡ took_patterns xs ++ (pattern_spelling p ++ ([]))
patterns-spelled no_patterns p = refl
patterns-spelled (one_pattern p' more) p = simp (patterns-further more p, patterns-spelled more p, append_assoc) refl

pub patterns-are : (xs : PatternTrees) (p : PatternTree) → ArePatterns xs → IsPattern p → ArePatterns (then_patterns xs (one_pattern p no_patterns))
patterns-are no_patterns p h g = (g, tt)
patterns-are (one_pattern p' more) p h g = (h.0, patterns-are more p h.1 g)

-- joined with the word behind each
abbrev pub took_joined : PatternTrees → List Written
took_joined no_patterns = []
took_joined (one_pattern p more) = pattern_spelling p ++ (word (word_is.Operator sign_is.Concatenation) ∷ took_joined more)

joined-further : (xs : PatternTrees) (p : PatternTree) → further_joined (then_patterns xs (one_pattern p no_patterns)) ≡ word (word_is.Operator sign_is.Concatenation) ∷ joined_patterns (then_patterns xs (one_pattern p no_patterns))
joined-further no_patterns p = refl
joined-further (one_pattern p' more) p = refl

pub joined-took : (xs : PatternTrees) (p : PatternTree) → took_joined (then_patterns xs (one_pattern p no_patterns)) ≡ took_joined xs ++ (pattern_spelling p ++ (word (word_is.Operator sign_is.Concatenation) ∷ []))
joined-took no_patterns p = refl
joined-took (one_pattern p' more) p = simp (joined-took more p, append_assoc) refl

pub joined-spelled : (xs : PatternTrees) (p : PatternTree) → joined_patterns (then_patterns xs (one_pattern p no_patterns)) ≡ took_joined xs ++ (pattern_spelling p ++ ([]))
joined-spelled no_patterns p = refl
joined-spelled (one_pattern p' more) p = simp (joined-further more p, joined-spelled more p, append_assoc) refl

pub joined-are : (xs : PatternTrees) (p : PatternTree) → AreSinglePatterns xs → IsSinglePattern p × IsPattern p → AreSinglePatterns (then_patterns xs (one_pattern p no_patterns))
joined-are no_patterns p h g = (g.0, g.1, tt)
joined-are (one_pattern p' more) p h g = (h.0, h.1, joined-are more p h.2 g)

-- maplet patterns with the word behind each
abbrev pub took_maplet_patterns : MapletPatterns → List Written
took_maplet_patterns no_maplet_patterns = []
took_maplet_patterns (one_maplet_pattern k v more) = pattern_spelling k ++ (word word_is.MapsTo ∷ (pattern_spelling v ++ (word word_is.Comma ∷ took_maplet_patterns more)))

maplet_patterns-further : (xs : MapletPatterns) (k : PatternTree) (v : PatternTree) → further_maplet_patterns (then_maplet_patterns xs (one_maplet_pattern k v no_maplet_patterns)) ≡ word word_is.Comma ∷ maplet_patterns_spelling (then_maplet_patterns xs (one_maplet_pattern k v no_maplet_patterns))
maplet_patterns-further no_maplet_patterns k v = refl
maplet_patterns-further (one_maplet_pattern k' v' more) k v = refl

pub maplet_patterns-took : (xs : MapletPatterns) (k : PatternTree) (v : PatternTree) → took_maplet_patterns (then_maplet_patterns xs (one_maplet_pattern k v no_maplet_patterns)) ≡ took_maplet_patterns xs ++ (pattern_spelling k ++ (word word_is.MapsTo ∷ (pattern_spelling v ++ (word word_is.Comma ∷ []))))
maplet_patterns-took no_maplet_patterns k v = refl
maplet_patterns-took (one_maplet_pattern k' v' more) k v = simp (maplet_patterns-took more k v, append_assoc) refl

pub maplet_patterns-spelled : (xs : MapletPatterns) (k : PatternTree) (v : PatternTree) → maplet_patterns_spelling (then_maplet_patterns xs (one_maplet_pattern k v no_maplet_patterns)) ≡ took_maplet_patterns xs ++ (pattern_spelling k ++ (word word_is.MapsTo ∷ (pattern_spelling v ++ ([]))))
maplet_patterns-spelled no_maplet_patterns k v = refl
maplet_patterns-spelled (one_maplet_pattern k' v' more) k v = simp (maplet_patterns-further more k v, maplet_patterns-spelled more k v, append_assoc) refl

pub maplet_patterns-are : (xs : MapletPatterns) (k : PatternTree) (v : PatternTree) → AreMapletPatterns xs → IsPattern k × IsPattern v → AreMapletPatterns (then_maplet_patterns xs (one_maplet_pattern k v no_maplet_patterns))
maplet_patterns-are no_maplet_patterns k v h g = (g.0, g.1, tt)
maplet_patterns-are (one_maplet_pattern k' v' more) k v h g = (h.0, h.1, maplet_patterns-are more k v h.2 g)

-- `elseif`s
pub branches-spelled : (bs : BranchTrees) (c v : ExprTree) → branches_spelling (then_branches bs (one_branch c v no_branches)) ≡ branches_spelling bs ++ (word word_is.Elseif ∷ (spelling c ++ (word word_is.Then ∷ (spelling v ++ []))))
branches-spelled no_branches c v = refl
branches-spelled (one_branch c' v' bs) c v = simp (branches-spelled bs c v, append_assoc) refl

pub branches-are : (bs : BranchTrees) (c v : ExprTree) → AreBranches bs → Binds c far_pull × Binds v far_pull → AreBranches (then_branches bs (one_branch c v no_branches))
branches-are no_branches c v h g = (g.0, g.1, tt)
branches-are (one_branch c' v' bs) c v h g = (h.0, h.1, branches-are bs c v h.2 g)

-- names behind a counter
abbrev pub took_names : List NameAt → List Written
took_names [] = []
took_names (name ∷ names) = at (identifier name.name name.place) ∷ word word_is.Comma ∷ took_names names

names-further : (names : List NameAt) (name : NameAt) → further_names (names ++ name ∷ []) ≡ word word_is.Comma ∷ names_spelling (names ++ name ∷ [])
names-further [] name = refl
names-further (first ∷ names) name = refl

pub names-took : (names : List NameAt) (name : NameAt) → took_names (names ++ name ∷ []) ≡ took_names names ++ (at (identifier name.name name.place) ∷ word word_is.Comma ∷ [])
names-took [] name = refl
names-took (first ∷ names) name = ap (λ (ws : List Written). at (identifier first.name first.place) ∷ word word_is.Comma ∷ ws) (names-took names name)

pub names-spelled : (names : List NameAt) (name : NameAt) → names_spelling (names ++ name ∷ []) ≡ took_names names ++ at (identifier name.name name.place) ∷ []
names-spelled [] name = refl
names-spelled (first ∷ names) name = ap (λ (ws : List Written). at (identifier first.name first.place) ∷ ws) (names-further names name ∙ ap (λ (ws : List Written). word word_is.Comma ∷ ws) (names-spelled names name))
