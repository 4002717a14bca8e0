-- What is read of a definition is written so, and the grammar has it.
use Rattle.std.proofs.Common.{◌≡◌, ℕ, zero, suc, Bool, true, false, nat_eq, if◌then◌else◌, List, [], ◌∷◌, ◌++◌, Option, Some, None, refl, ap, sym, ◌∙◌, arith}
use Rattle.vdm_kinds.specs.declared.name.Name.{Name}
use Rattle.vdm_kinds.specs.declared.name_at.NameAt.{NameAt}
use Rattle.vdm_kinds.specs.declared.place.Place.{Place}
use Rattle.vdm_kinds.specs.declared.sign.Sign.TheVariants.{Equal, Implies, Not, Times}
use Rattle.abstract_syntax.specs.Types.{TypeTree, TypeTrees, no_types, one_type, basic_type, quote_type, set_type, seq_type, seq1_type, map_type, inmap_type, optional_type, bracketed_type, named_type, product_type, union_type}
use Rattle.abstract_syntax.specs.Expressions.{ExprTree, PatternTree}
use Rattle.abstract_syntax.specs.Classes.{same_as, with_fields, invariant_item, Body, written, not_yet_specified, subclass_responsibility, PhaseTree, periodic, procedural, SyncTree, permission, mutex_all, mutex_of}
use Rattle.grammar_words.specs.declared.word.Word.{Word}
use Rattle.grammar_words.specs.declared.word.Word.TheVariants as word_is
use Rattle.grammar_words.specs.Tokens.{Token, identifier}
use Rattle.grammar_words.specs.Written.{at, word}
use Rattle.type_reading.specs.TypeSpelling.{type_spelling, further_types, IsType, AreTypes, single}
use Rattle.grammar_trees.specs.Spelling.{names_spelling}
use Rattle.grammar_trees.specs.Binding.{IsPattern, IsDeclared, AreSomeNames}
use Rattle.stmt_trees.specs.Pieces.{Piece, must, again, mark, whole}
use Rattle.stmt_trees.specs.StmtSpelling.{stmt_spelling}
use Rattle.stmt_trees.specs.StmtGrammar.{IsStmt}
use Rattle.stmt_trees.specs.ClassSpelling.{further_items, items_spelling, all_spelling, each_behind, list_spelling, field_spelling, type_body_spelling, invariant_spelling, type_def_spelling, declared_spelling, value_def_spelling, variable_item_spelling, parameters_spelling, patterns_in_brackets, body_spelling, arrow, expr_pieces, function_spelling, result_spelling, operation_spelling, phase_spelling, thread_spelling, sync_spelling}
use Rattle.stmt_trees.specs.ClassGrammar.{AreAll, IsField, IsTypeBody, IsInvariant, IsTypeDef, IsValueDef, IsVariableItem, AreParameters, IsBody, IsFunction, IsOperation, IsPhase, IsThread, IsSync}
use Rattle.stmt_reading.specs.Leaves.{Read, onto, choice, word_in, name_in, name_again, expr_in, pattern_in, list_in}
use Rattle.stmt_reading.specs.Definitions.{next_word, items_in, fields_in, type_body_in, invariant_in, type_def_in, value_def_in, variable_in, variable_item_in, factors_of, parameters_in, result_in, patterns_of, body_of, function_in, statement_in, operation_in, periodic_in, thread_in, sync_in}
use Rattle.stmt_reading.specs.Statements.{declared_in, nesting_limit}
use Rattle.stmt_laws.proofs.Spellings.{pattern_pieces, type_pieces, name_pieces, whole-append, names-alike, IsFar, IsWhole}
use Rattle.stmt_laws.proofs.Gives.{Gives, gives_this, gives_none, gives_onto, gives_choice, gives_more, Spells, two, ended, respelled, AtWord, marked, keyed, AtName, named_at, not_left_out, left_out, gives_word, gives_name, Found, AreSome, gives_list}
use Rattle.stmt_laws.proofs.WordNumbers.{same-number}
use Rattle.stmt_laws.proofs.SoundParts.{gives_expr, gives_pattern, gives_type, gives_behind}
use Rattle.stmt_laws.proofs.SoundForms.{gives_either}
use Rattle.stmt_laws.proofs.Sound.{gives_stmt}
use Rattle.class_laws.proofs.SoundHeads.{gives_head}

-- ---- items

behind_semicolon : {A : Type 0} (spell : A → List Piece) (others : List A) (tokens middle rest : List Token) (place : Place)
    → AtWord word_is.Semicolon tokens place middle → Spells middle (items_spelling spell others) rest → Spells tokens (further_items spell others) rest
behind_semicolon spell [] tokens middle rest place f h = not_left_out f h
behind_semicolon spell (x ∷ xs) tokens middle rest place f h = marked f h

pub gives_items : {A : Type 0} (starts : Word → Bool) (one : List Token → Read A) (spell : A → List Piece) (Good : A → Type 0)
    → ((ts : List Token) → Gives (one ts) (Found spell Good ts)) → (turns : ℕ) (tokens : List Token)
    → Gives (items_in starts one turns tokens) (Found (items_spelling spell) (AreAll Good) tokens)
gives_items starts one spell Good sound zero tokens = gives_none
gives_items starts one spell Good sound (suc turns) tokens =
    gives_either (starts (next_word tokens)) _ _
    (gives_onto _ (sound tokens) (λ x a f.
    gives_choice _ _ (gives_word word_is.Semicolon a) (λ place b g.
    gives_onto _ (gives_items starts one spell Good sound turns b) (λ others c h.
    gives_this (x ∷ others) c (record {
      spelled = two f.spelled (behind_semicolon spell others a b c place g h.spelled);
      good = (f.good, h.good);
    })))
    (λ none. gives_this (x ∷ []) a (record { spelled = two f.spelled (left_out ended); good = (f.good, tt) }))))
    (gives_this [] tokens (record { spelled = ended; good = tt }))

-- ---- types, values and variables

pub gives_fields : (turns : ℕ) (tokens : List Token) → Gives (fields_in turns tokens) (Found (all_spelling field_spelling) (AreAll IsField) tokens)
gives_fields zero tokens = gives_none
gives_fields (suc turns) tokens =
    gives_choice _ _ (gives_name tokens) (λ name a f. gives_onto _ (gives_word word_is.Colon a) (λ colon b g.
    gives_onto _ (gives_type b) (λ t c h. gives_onto _ (gives_fields turns c) (λ others d i.
    gives_this (record { name = name.name; name_place = name.place; declared = t } ∷ others) d
    (record { spelled = named_at f (marked g (two h.spelled i.spelled)); good = (h.good, i.good) })))))
    (λ none. gives_this [] tokens (record { spelled = ended; good = tt }))

gives_type_body : (turns : ℕ) (tokens : List Token) → Gives (type_body_in turns tokens) (Found type_body_spelling IsTypeBody tokens)
gives_type_body turns tokens =
    gives_choice _ _ (gives_word (word_is.Operator Equal) tokens) (λ place a f. gives_onto _ (gives_type a) (λ t b g.
    gives_this (same_as t) b (record { spelled = marked f g.spelled; good = g.good })))
    (λ none. gives_onto _ (gives_word word_is.DoubleColon tokens) (λ place a f. gives_onto _ (gives_fields turns a) (λ fields b g.
    gives_this (with_fields fields) b (record { spelled = marked f g.spelled; good = g.good }))))

gives_invariant : (tokens : List Token) → Gives (invariant_in tokens) (Found invariant_spelling IsInvariant tokens)
gives_invariant tokens =
    gives_choice _ _ (gives_word word_is.Inv tokens) (λ place a f. gives_onto _ (gives_pattern a) (λ p b g.
    gives_onto _ (gives_word word_is.DoubleEqual b) (λ spot c h. gives_onto _ (gives_expr c) (λ e d i.
    gives_this (Some (record { pattern = p; condition = e })) d
    (record { spelled = marked f (two g.spelled (marked h i.spelled)); good = (g.good, i.good) })))))
    (λ none. gives_this None tokens (record { spelled = ended; good = tt }))

pub gives_type_def : (turns : ℕ) (class : Name) (tokens : List Token)
    → Gives (type_def_in turns class tokens) (Found type_def_spelling (IsTypeDef class) tokens)
gives_type_def turns class tokens =
    gives_onto _ (gives_head tokens) (λ head a f. gives_onto _ (gives_type_body turns a) (λ body b g.
    gives_onto _ (gives_invariant b) (λ invariant c h.
    gives_this _ c (record { spelled = two f.spelled (two g.spelled h.spelled); good = (refl, g.good, h.good) }))))

gives_declared_type : (tokens : List Token) → Gives (declared_in tokens) (Found declared_spelling IsDeclared tokens)
gives_declared_type tokens =
    gives_choice _ _ (gives_word word_is.Colon tokens) (λ place a f. gives_onto _ (gives_type a) (λ t b g.
    gives_this (Some t) b (record { spelled = marked f g.spelled; good = g.good })))
    (λ none. gives_this None tokens (record { spelled = ended; good = tt }))

pub gives_value_def : (tokens : List Token) → Gives (value_def_in tokens) (Found value_def_spelling IsValueDef tokens)
gives_value_def tokens =
    gives_onto _ (gives_head tokens) (λ head a f. gives_onto _ (gives_declared_type a) (λ declared b g.
    gives_onto _ (gives_word (word_is.Operator Equal) b) (λ equal c h. gives_onto _ (gives_expr c) (λ e d i.
    gives_this _ d (record { spelled = two f.spelled (two g.spelled (marked h i.spelled)); good = (g.good, i.good) })))))

gives_variable : (tokens : List Token) → Gives (variable_in tokens) (Found variable_item_spelling IsVariableItem tokens)
gives_variable tokens =
    gives_onto _ (gives_head tokens) (λ head a f. gives_onto _ (gives_word word_is.Colon a) (λ colon b g.
    gives_onto _ (gives_type b) (λ t c h. gives_onto _ (gives_behind word_is.Becomes c) (λ initial d i.
    gives_this _ d (record { spelled = two f.spelled (marked g (two h.spelled i.spelled)); good = (h.good, i.good) })))))

pub gives_variable_item : (tokens : List Token) → Gives (variable_item_in tokens) (Found variable_item_spelling IsVariableItem tokens)
gives_variable_item tokens =
    gives_choice _ _ (gives_word word_is.Inv tokens) (λ place a f. gives_onto _ (gives_expr a) (λ e b g.
    gives_this (invariant_item e place) b (record { spelled = keyed f g.spelled; good = g.good })))
    (λ none. gives_variable tokens)

-- ---- parameters and results

abbrev pub brackets_in : List Token → Read Place
brackets_in tokens = onto (word_in word_is.OpenRound tokens) (λ (place : Place) (a : List Token). word_in word_is.CloseRound a)

abbrev pub brackets : List Piece
brackets = mark word_is.OpenRound ∷ mark word_is.CloseRound ∷ []

record BracketsAt (tokens : List Token) (place : Place) (rest : List Token) : Type 0 where
  pub spelled : Spells tokens brackets rest

gives_brackets : (tokens : List Token) → Gives (brackets_in tokens) (BracketsAt tokens)
gives_brackets tokens =
    gives_onto _ (gives_word word_is.OpenRound tokens) (λ place a f.
    gives_more (λ spot b g. record { spelled = marked f (marked g ended) }) (gives_word word_is.CloseRound a))

abbrev pub types_of : TypeTrees → List TypeTree
types_of no_types = []
types_of (one_type t ts) = t ∷ types_of ts

abbrev pub factor_pieces : TypeTree → List Piece
factor_pieces t = whole (type_spelling t)

pub factors-alike : (ts : TypeTrees)
    → whole (further_types (word_is.Operator Times) ts) ≡ each_behind (word_is.Operator Times) factor_pieces (types_of ts)
factors-alike no_types = refl
factors-alike (one_type t ts) =
    ap (λ (x : List Piece). mark (word_is.Operator Times) ∷ x) (whole-append (type_spelling t) (further_types (word_is.Operator Times) ts))
    ∙ ap (λ x. mark (word_is.Operator Times) ∷ (whole (type_spelling t) ++ x)) (factors-alike ts)

abbrev IsFactor : TypeTree → Type 0
IsFactor t = IsType t single

factors-good : (ts : TypeTrees) → AreTypes ts single → AreAll IsFactor (types_of ts)
factors-good no_types g = tt
factors-good (one_type t ts) g = (g.0, factors-good ts g.1)

-- a type that is read gives the parameters
factors_found : (tokens rest : List Token) (t : TypeTree) → Found type_pieces IsWhole tokens t rest
    → Found parameters_spelling AreParameters tokens (factors_of t) rest
factors_found tokens rest (product_type no_types place) f = absurd f.good.1
factors_found tokens rest (product_type (one_type t no_types) place) f = absurd f.good.1
factors_found tokens rest (product_type (one_type t (one_type u ts)) place) f =
    record {
      spelled = respelled (whole-append (type_spelling t) (further_types (word_is.Operator Times) (one_type u ts))
          ∙ ap (λ x. whole (type_spelling t) ++ x) (factors-alike (one_type u ts))) f.spelled;
      good = factors-good (one_type t (one_type u ts)) f.good.3;
    }
factors_found tokens rest (basic_type a b) f = record { spelled = two f.spelled ended; good = f.good }
factors_found tokens rest (quote_type a b) f = record { spelled = two f.spelled ended; good = f.good }
factors_found tokens rest (set_type a b) f = record { spelled = two f.spelled ended; good = f.good }
factors_found tokens rest (seq_type a b) f = record { spelled = two f.spelled ended; good = f.good }
factors_found tokens rest (seq1_type a b) f = record { spelled = two f.spelled ended; good = f.good }
factors_found tokens rest (map_type a b c) f = record { spelled = two f.spelled ended; good = f.good }
factors_found tokens rest (inmap_type a b c) f = record { spelled = two f.spelled ended; good = f.good }
factors_found tokens rest (optional_type a b) f = record { spelled = two f.spelled ended; good = f.good }
factors_found tokens rest (bracketed_type a b) f = record { spelled = two f.spelled ended; good = f.good }
factors_found tokens rest (named_type a b) f = record { spelled = two f.spelled ended; good = f.good }
factors_found tokens rest (union_type a b) f = record { spelled = two f.spelled ended; good = f.good }

gives_parameters : (tokens : List Token) → Gives (parameters_in tokens) (Found parameters_spelling AreParameters tokens)
gives_parameters tokens =
    gives_choice _ _ (gives_brackets tokens) (λ place a f. gives_this [] a (record { spelled = f.spelled; good = tt }))
    (λ none. gives_onto _ (gives_type tokens) (λ t a f. gives_this (factors_of t) a (factors_found tokens a t f)))

gives_result : (tokens : List Token) → Gives (result_in tokens) (Found result_spelling IsDeclared tokens)
gives_result tokens =
    gives_choice _ _ (gives_brackets tokens) (λ place a f. gives_this None a (record { spelled = f.spelled; good = tt }))
    (λ none. gives_onto _ (gives_type tokens) (λ t a f. gives_this (Some t) a (record { spelled = f.spelled; good = f.good })))

-- ---- the name again, and the patterns

pub record AgainAt (name : Name) (tokens : List Token) (found : NameAt) (rest : List Token) : Type 0 where
  pub is : tokens ≡ identifier name found.place ∷ rest

again_given : (name : Name) (tokens rest : List Token) (found : NameAt) (same : Bool) → nat_eq name.0 found.name.0 ≡ same → AtName tokens found rest
    → Gives (if same then Some (found, rest) else None) (AgainAt name tokens)
again_given name tokens rest found true q f =
    let e : found.name ≡ name = ap (λ (n : ℕ). name_of n) (sym (same-number name.0 found.name.0 q)) in
    gives_this found rest (record { is = f.is ∙ ap (λ n. identifier n found.place ∷ rest) e })
  where
    name_of : ℕ → Name
    name_of n = record { 0 = n }
again_given name tokens rest found false q f = gives_none

pub gives_again : (name : Name) (tokens : List Token) → Gives (name_again name tokens) (AgainAt name tokens)
gives_again name tokens =
    gives_onto _ (gives_name tokens) (λ found rest f. again_given name tokens rest found (nat_eq name.0 found.name.0) refl f)

pub repeated : {name : Name} {tokens middle rest : List Token} {found : NameAt} {a : List Piece} → AgainAt name tokens found middle
    → Spells middle a rest → Spells tokens (again name ∷ a) rest
repeated {middle = middle} {found = found} f h = record { is = (middle, found.place, f.is, h.is) }

record PatternsAt (name : Name) (tokens : List Token) (ps : List PatternTree) (rest : List Token) : Type 0 where
  pub middle : List Token
  pub spot : Place
  pub spelled : Spells tokens (again name ∷ patterns_in_brackets ps) middle
  pub equal : AtWord word_is.DoubleEqual middle spot rest
  pub good : AreAll IsPattern ps

some_good : (ps : List PatternTree) → AreSome IsPattern ps → AreAll IsPattern ps
some_good [] g = absurd g
some_good (p ∷ ps) g = g

gives_patterns_of : (name : Name) (tokens : List Token) → Gives (patterns_of name tokens) (PatternsAt name tokens)
gives_patterns_of name tokens =
    gives_onto _ (gives_again name tokens) (λ second a f.
    gives_choice _ _ (gives_brackets a) (λ place b g. gives_onto _ (gives_word word_is.DoubleEqual b) (λ spot c h.
    gives_this [] c (record { middle = b; spot = spot; spelled = repeated f g.spelled; equal = h; good = tt })))
    (λ none. gives_onto _ (gives_word word_is.OpenRound a) (λ place b g.
    gives_onto _ (gives_list word_is.Comma pattern_in pattern_pieces IsPattern gives_pattern b) (λ ps c h.
    gives_onto _ (gives_word word_is.CloseRound c) (λ close d i. gives_onto _ (gives_word word_is.DoubleEqual d) (λ spot e j.
    gives_this ps e (record {
      middle = d;
      spot = spot;
      spelled = repeated f (marked g (two h.spelled (marked i ended)));
      equal = j;
      good = some_good ps h.good;
    })))))))

-- ---- bodies

abbrev pub open_in : {A : Type 0} → List Token → Read (Body A)
open_in {A = A} tokens =
    choice (word_in (word_is.Operator Not) tokens)
    (λ (place : Place) (a : List Token). onto (word_in word_is.Yet a) (λ (yet : Place) (b : List Token).
    onto (word_in word_is.Specified b) (λ (specified : Place) (c : List Token). Some (not_yet_specified, c))))
    (onto (word_in word_is.Subclass tokens) (λ (place : Place) (a : List Token).
    onto (word_in word_is.Responsibility a) (λ (spot : Place) (b : List Token). Some (subclass_responsibility, b))))

gives_open : {A : Type 0} (spell : A → List Piece) (Good : A → Type 0) (before tokens : List Token) (place : Place)
    → AtWord word_is.Is before place tokens → Gives (open_in {A = A} tokens) (Found (body_spelling spell) (IsBody Good) before)
gives_open spell Good before tokens place f =
    gives_choice _ _ (gives_word (word_is.Operator Not) tokens) (λ p a g. gives_onto _ (gives_word word_is.Yet a) (λ yet b h.
    gives_onto _ (gives_word word_is.Specified b) (λ specified c i.
    gives_this not_yet_specified c (record { spelled = marked f (marked g (marked h (marked i ended))); good = tt }))))
    (λ none. gives_onto _ (gives_word word_is.Subclass tokens) (λ p a g. gives_onto _ (gives_word word_is.Responsibility a) (λ spot b h.
    gives_this subclass_responsibility b (record { spelled = marked f (marked g (marked h ended)); good = tt }))))

gives_body_of : {A : Type 0} (one : List Token → Read A) (spell : A → List Piece) (Good : A → Type 0)
    → ((ts : List Token) → Gives (one ts) (Found spell Good ts)) → (tokens : List Token)
    → Gives (body_of one tokens) (Found (body_spelling spell) (IsBody Good) tokens)
gives_body_of one spell Good sound tokens =
    gives_choice _ _ (gives_word word_is.Is tokens) (λ place a f. gives_open spell Good tokens a place f)
    (λ none. gives_onto _ (sound tokens) (λ found a f. gives_this (written found) a (record { spelled = f.spelled; good = f.good })))

-- ---- functions and operations

record ArrowAt (tokens : List Token) (place : Place) (rest : List Token) : Type 0 where
  pub spelled : Spells tokens (arrow ∷ []) rest

abbrev pub arrow_in : List Token → Read Place
arrow_in tokens =
    choice (word_in word_is.Arrow tokens) (λ (place : Place) (a : List Token). Some (place, a)) (word_in word_is.TotalArrow tokens)

gives_arrow : (tokens : List Token) → Gives (arrow_in tokens) (ArrowAt tokens)
gives_arrow tokens =
    gives_choice _ _ (gives_word word_is.Arrow tokens) (λ place a f.
    gives_this place a (record { spelled = record { is = (word word_is.Arrow ∷ [], a, (0, omega arith, refl), (a, (place, f.is), refl), refl) } }))
    (λ none. gives_more (λ place a f.
    record { spelled = record { is = (word word_is.TotalArrow ∷ [], a, (1, omega arith, refl), (a, (place, f.is), refl), refl) } })
    (gives_word word_is.TotalArrow tokens))

pub gives_function : (tokens : List Token) → Gives (function_in tokens) (Found function_spelling IsFunction tokens)
gives_function tokens =
    gives_onto _ (gives_head tokens) (λ head a f. gives_onto _ (gives_word word_is.Colon a) (λ colon b g.
    gives_onto _ (gives_parameters b) (λ parameters c h. gives_onto _ (gives_arrow c) (λ place d i.
    gives_onto _ (gives_type d) (λ result e j. gives_onto _ (gives_patterns_of head.name e) (λ patterns k l.
    gives_onto _ (gives_body_of _ expr_pieces IsFar gives_expr k) (λ body m n.
    gives_onto _ (gives_behind word_is.Pre m) (λ pre o p. gives_onto _ (gives_behind word_is.Post o) (λ post q r.
    gives_onto _ (gives_behind word_is.Measure q) (λ measure s t.
    gives_this _ s (record {
      spelled = two f.spelled (marked g (two h.spelled (two i.spelled (two j.spelled (two l.spelled (marked l.equal
          (two n.spelled (two p.spelled (two r.spelled t.spelled)))))))));
      good = record {
        parameters = h.good;
        result_type = j.good;
        patterns = l.good;
        body = n.good;
        pre = p.good;
        post = r.good;
        measure = t.good;
      };
    })))))))))))

gives_statement : (tokens : List Token) → Gives (statement_in tokens) (Found stmt_spelling IsStmt tokens)
gives_statement tokens = gives_more (λ s rest h. record { spelled = h.spelled; good = h.good }) ((gives_stmt nesting_limit).gives tokens)

pub gives_operation : (tokens : List Token) → Gives (operation_in tokens) (Found operation_spelling IsOperation tokens)
gives_operation tokens =
    gives_onto _ (gives_head tokens) (λ head a f. gives_onto _ (gives_word word_is.Colon a) (λ colon b g.
    gives_onto _ (gives_parameters b) (λ parameters c h. gives_onto _ (gives_word word_is.DoubleArrow c) (λ place d i.
    gives_onto _ (gives_result d) (λ result e j. gives_onto _ (gives_patterns_of head.name e) (λ patterns k l.
    gives_onto _ (gives_body_of _ stmt_spelling IsStmt gives_statement k) (λ body m n.
    gives_onto _ (gives_behind word_is.Pre m) (λ pre o p. gives_onto _ (gives_behind word_is.Post o) (λ post q r.
    gives_this _ q (record {
      spelled = two f.spelled (marked g (two h.spelled (marked i (two j.spelled (two l.spelled (marked l.equal
          (two n.spelled (two p.spelled r.spelled))))))));
      good = record {
        parameters = h.good;
        result_type = j.good;
        patterns = l.good;
        body = n.good;
        pre = p.good;
        post = r.good;
      };
    }))))))))))

-- ---- threads and synchronisation

abbrev pub phase_in : List Token → Read (Option PhaseTree)
phase_in tokens =
    choice (word_in word_is.Comma tokens)
    (λ (first : Place) (a : List Token). onto (expr_in a) (λ (jitter : ExprTree) (b : List Token).
    onto (word_in word_is.Comma b) (λ (second : Place) (c : List Token).
    onto (expr_in c) (λ (delay : ExprTree) (d : List Token).
    onto (word_in word_is.Comma d) (λ (third : Place) (e : List Token).
    onto (expr_in e) (λ (offset : ExprTree) (f : List Token).
    Some (Some (record { jitter = jitter; delay = delay; offset = offset }), f)))))))
    (Some (None, tokens))

gives_phase : (tokens : List Token) → Gives (phase_in tokens) (Found phase_spelling IsPhase tokens)
gives_phase tokens =
    gives_choice _ _ (gives_word word_is.Comma tokens) (λ first a f. gives_onto _ (gives_expr a) (λ jitter b g.
    gives_onto _ (gives_word word_is.Comma b) (λ second c h. gives_onto _ (gives_expr c) (λ delay d i.
    gives_onto _ (gives_word word_is.Comma d) (λ third e j. gives_onto _ (gives_expr e) (λ offset k l.
    gives_this (Some (record { jitter = jitter; delay = delay; offset = offset })) k (record {
      spelled = marked f (two g.spelled (marked h (two i.spelled (marked j l.spelled))));
      good = (g.good, i.good, l.good);
    })))))))
    (λ none. gives_this None tokens (record { spelled = ended; good = tt }))

gives_periodic : (before tokens : List Token) (place : Place) → AtWord word_is.Periodic before place tokens
    → Gives (periodic_in place tokens) (Found thread_spelling IsThread before)
gives_periodic before tokens place f =
    gives_onto _ (gives_word word_is.OpenRound tokens) (λ open_place a g. gives_onto _ (gives_expr a) (λ period b h.
    gives_onto _ (gives_phase b) (λ phase c i. gives_onto _ (gives_word word_is.CloseRound c) (λ close d j.
    gives_onto _ (gives_word word_is.OpenRound d) (λ other_open e k. gives_onto _ (gives_name e) (λ name l m.
    gives_onto _ (gives_word word_is.CloseRound l) (λ other_close n o.
    gives_this (periodic period phase name.name name.place place) n (record {
      spelled = keyed f (marked g (two h.spelled (two i.spelled (marked j (marked k (named_at m (marked o ended)))))));
      good = (h.good, i.good);
    }))))))))

pub gives_thread : (tokens : List Token) → Gives (thread_in tokens) (Found thread_spelling IsThread tokens)
gives_thread tokens =
    gives_choice _ _ (gives_word word_is.Periodic tokens) (λ place a f. gives_periodic tokens a place f)
    (λ none. gives_onto _ (gives_statement tokens) (λ s a f. gives_this (procedural s) a (record { spelled = f.spelled; good = f.good })))

abbrev pub permission_in : Place → List Token → Read SyncTree
permission_in place tokens =
    onto (name_in tokens) (λ (name : NameAt) (a : List Token).
    onto (word_in (word_is.Operator Implies) a) (λ (arrow : Place) (b : List Token).
    onto (expr_in b) (λ (e : ExprTree) (c : List Token). Some (permission name.name name.place e place, c))))

gives_permission : (before tokens : List Token) (place : Place) → AtWord word_is.Per before place tokens
    → Gives (permission_in place tokens) (Found sync_spelling IsSync before)
gives_permission before tokens place f =
    gives_onto _ (gives_name tokens) (λ name a g. gives_onto _ (gives_word (word_is.Operator Implies) a) (λ spot b h.
    gives_onto _ (gives_expr b) (λ e c i. gives_this (permission name.name name.place e place) c
    (record { spelled = keyed f (named_at g (marked h i.spelled)); good = i.good }))))

abbrev pub mutex_in : Place → List Token → Read SyncTree
mutex_in place tokens =
    onto (word_in word_is.OpenRound tokens) (λ (open_place : Place) (a : List Token).
    choice (word_in word_is.All a)
    (λ (all : Place) (b : List Token). onto (word_in word_is.CloseRound b) (λ (close : Place) (c : List Token). Some (mutex_all place, c)))
    (onto (list_in word_is.Comma name_in a) (λ (names : List NameAt) (b : List Token).
    onto (word_in word_is.CloseRound b) (λ (close : Place) (c : List Token). Some (mutex_of names place, c)))))

abbrev pub AnyName : NameAt → Type 0
AnyName name = Unit {0}

pub gives_one_name : (tokens : List Token) → Gives (name_in tokens) (Found name_pieces AnyName tokens)
gives_one_name tokens = gives_more (λ name rest f. record { spelled = named_at f ended; good = tt }) (gives_name tokens)

pub record NamesAt (tokens : List Token) (names : List NameAt) (rest : List Token) : Type 0 where
  pub spelled : Spells tokens (whole (names_spelling names)) rest
  pub some : AreSomeNames names

names_found : (tokens rest : List Token) (names : List NameAt) → Spells tokens (list_spelling word_is.Comma name_pieces names) rest
    → AreSome AnyName names → NamesAt tokens names rest
names_found tokens rest [] s g = absurd g
names_found tokens rest (n ∷ ns) s g =
    record { spelled = respelled (ap (λ x. must (at (identifier n.name n.place)) ∷ x) (names-alike ns)) s; some = tt }

pub gives_names : (tokens : List Token) → Gives (list_in word_is.Comma name_in tokens) (NamesAt tokens)
gives_names tokens =
    gives_more (λ names rest f. names_found tokens rest names f.spelled f.good)
    (gives_list word_is.Comma name_in name_pieces AnyName gives_one_name tokens)

gives_mutex : (before tokens : List Token) (place : Place) → AtWord word_is.Mutex before place tokens
    → Gives (mutex_in place tokens) (Found sync_spelling IsSync before)
gives_mutex before tokens place f =
    gives_onto _ (gives_word word_is.OpenRound tokens) (λ open_place a g.
    gives_choice _ _ (gives_word word_is.All a) (λ all b h. gives_onto _ (gives_word word_is.CloseRound b) (λ close c i.
    gives_this (mutex_all place) c (record { spelled = keyed f (marked g (marked h (marked i ended))); good = tt })))
    (λ none. gives_onto _ (gives_names a) (λ names b h. gives_onto _ (gives_word word_is.CloseRound b) (λ close c i.
    gives_this (mutex_of names place) c (record { spelled = keyed f (marked g (two h.spelled (marked i ended))); good = h.some })))))

pub gives_sync : (tokens : List Token) → Gives (sync_in tokens) (Found sync_spelling IsSync tokens)
gives_sync tokens =
    gives_choice _ _ (gives_word word_is.Per tokens) (λ place a f. gives_permission tokens a place f)
    (λ none. gives_onto _ (gives_word word_is.Mutex tokens) (λ place a f. gives_mutex tokens a place f))
