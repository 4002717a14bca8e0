-- What is read as blocks, classes and a specification is written so, and the grammar has it.
use Rattle.std.proofs.Common.{◌≡◌, ℕ, zero, suc, List, [], ◌∷◌, Option, Some, None, ap}
use Rattle.vdm_kinds.specs.declared.name.Name.{Name}
use Rattle.vdm_kinds.specs.declared.name_at.NameAt.{NameAt}
use Rattle.vdm_kinds.specs.declared.place.Place.{Place}
use Rattle.abstract_syntax.specs.Classes.{ThreadTree, BlockTree, types, values, variables, functions, operations, thread_of, synchronisation, ClassTree, SpecTree}
use Rattle.grammar_words.specs.declared.word.Word.TheVariants as word_is
use Rattle.grammar_words.specs.Tokens.{Token, plain}
use Rattle.stmt_trees.specs.Pieces.{Piece}
use Rattle.stmt_trees.specs.ClassSpelling.{items_spelling, all_spelling, type_def_spelling, value_def_spelling, variable_item_spelling, function_spelling, operation_spelling, sync_spelling, block_spelling, superclasses_spelling, class_spelling}
use Rattle.stmt_trees.specs.ClassGrammar.{AreAll, IsTypeDef, IsValueDef, IsVariableItem, IsFunction, IsOperation, IsSync, IsBlock, IsClass}
use Rattle.stmt_trees.specs.Trees.{IsSpecification}
use Rattle.stmt_reading.specs.Leaves.{Read, choice, word_in, turns_for}
use Rattle.stmt_reading.specs.Statements.{all_read}
use Rattle.stmt_reading.specs.Definitions.{begins_head, type_def_in, value_def_in, variable_item_in, begins_variable, function_in, operation_in, sync_in, begins_sync}
use Rattle.stmt_reading.specs.Classes.{items_of, block_begun, blocks_in, superclasses_in, class_in, classes_in, spec_of}
use Rattle.stmt_laws.proofs.Gives.{Gives, gives_this, gives_none, gives_onto, gives_choice, gives_more, Spells, two, ended, begun, AtWord, marked, keyed, named_at, left_out, not_left_out, gives_word, gives_name, Found}
use Rattle.stmt_laws.proofs.Sound.{all_found}
use Rattle.class_laws.proofs.SoundDefinitions.{gives_items, gives_type_def, gives_value_def, gives_variable_item, gives_function, gives_operation, gives_thread, gives_sync, gives_again, repeated, NamesAt, gives_names}

-- ---- blocks

gives_items_of : {A : Type 0} {tokens before : List Token} {r : Read (List A)} {class : Name} (spell : A → List Piece) (Good : A → Type 0)
    (made : List A → BlockTree)
    → ((found : List A) (rest : List Token) → Found (items_spelling spell) (AreAll Good) tokens found rest → Found block_spelling (IsBlock class) before (made found) rest)
    → Gives r (Found (items_spelling spell) (AreAll Good) tokens) → Gives (items_of r made) (Found block_spelling (IsBlock class) before)
gives_items_of spell Good made more first = gives_onto _ first (λ found rest f. gives_this (made found) rest (more found rest f))

-- as the reading has it
abbrev pub thread_ends : ThreadTree → Place → List Token → Read BlockTree
thread_ends t place tokens =
    choice (word_in word_is.Semicolon tokens) (λ (spot : Place) (rest : List Token). Some (thread_of t place, rest))
    (Some (thread_of t place, tokens))

gives_block_begun : (class : Name) (token : Token) (tokens : List Token)
    → Gives (block_begun class token tokens) (Found block_spelling (IsBlock class) (token ∷ tokens))
gives_block_begun class (plain word_is.Types place) tokens =
    gives_items_of type_def_spelling (IsTypeDef class) (λ found. types found place) (λ found rest f. record { spelled = begun f.spelled; good = f.good })
    (gives_items begins_head (type_def_in (turns_for tokens) class) type_def_spelling (IsTypeDef class) (gives_type_def (turns_for tokens) class)
    (turns_for tokens) tokens)
gives_block_begun class (plain word_is.Values place) tokens =
    gives_items_of value_def_spelling IsValueDef (λ found. values found place) (λ found rest f. record { spelled = begun f.spelled; good = f.good })
    (gives_items begins_head value_def_in value_def_spelling IsValueDef gives_value_def (turns_for tokens) tokens)
gives_block_begun class (plain word_is.Instance place) tokens =
    gives_onto _ (gives_word word_is.Variables tokens) (λ spot a g.
    gives_items_of variable_item_spelling IsVariableItem (λ found. variables found place) (λ found rest f. record { spelled = begun (marked g f.spelled); good = f.good })
    (gives_items begins_variable variable_item_in variable_item_spelling IsVariableItem gives_variable_item (turns_for tokens) a))
gives_block_begun class (plain word_is.Functions place) tokens =
    gives_items_of function_spelling IsFunction (λ found. functions found place) (λ found rest f. record { spelled = begun f.spelled; good = f.good })
    (gives_items begins_head function_in function_spelling IsFunction gives_function (turns_for tokens) tokens)
gives_block_begun class (plain word_is.Operations place) tokens =
    gives_items_of operation_spelling IsOperation (λ found. operations found place) (λ found rest f. record { spelled = begun f.spelled; good = f.good })
    (gives_items begins_head operation_in operation_spelling IsOperation gives_operation (turns_for tokens) tokens)
gives_block_begun class (plain word_is.Thread place) tokens =
    gives_onto _ (gives_thread tokens) (λ t a f.
    gives_choice _ _ (gives_word word_is.Semicolon a) (λ spot b g.
    gives_this (thread_of t place) b (record { spelled = begun (two f.spelled (not_left_out g ended)); good = f.good }))
    (λ none. gives_this (thread_of t place) a (record { spelled = begun (two f.spelled (left_out ended)); good = f.good })))
gives_block_begun class (plain word_is.Sync place) tokens =
    gives_items_of sync_spelling IsSync (λ found. synchronisation found place) (λ found rest f. record { spelled = begun f.spelled; good = f.good })
    (gives_items begins_sync sync_in sync_spelling IsSync gives_sync (turns_for tokens) tokens)
gives_block_begun class _ tokens = gives_none

abbrev pub block_in : Name → List Token → Read BlockTree
block_in class [] = None
block_in class (token ∷ tokens) = block_begun class token tokens

gives_block : (class : Name) (tokens : List Token) → Gives (block_in class tokens) (Found block_spelling (IsBlock class) tokens)
gives_block class [] = gives_none
gives_block class (token ∷ tokens) = gives_block_begun class token tokens

record BlocksAt (class : Name) (tokens : List Token) (blocks : List BlockTree) (rest : List Token) : Type 0 where
  pub middle : List Token
  pub spot : Place
  pub spelled : Spells tokens (all_spelling block_spelling blocks) middle
  pub end : AtWord word_is.End middle spot rest
  pub good : AreAll (IsBlock class) blocks

gives_blocks : (class : Name) (turns : ℕ) (tokens : List Token) → Gives (blocks_in class turns tokens) (BlocksAt class tokens)
gives_blocks class zero tokens = gives_none
gives_blocks class (suc turns) tokens =
    gives_choice _ _ (gives_word word_is.End tokens) (λ place a f.
    gives_this [] a (record { middle = tokens; spot = place; spelled = ended; end = f; good = tt }))
    (λ none. gives_onto _ (gives_block class tokens) (λ block a f. gives_onto _ (gives_blocks class turns a) (λ others b g.
    gives_this (block ∷ others) b (record {
      middle = g.middle;
      spot = g.spot;
      spelled = two f.spelled g.spelled;
      end = g.end;
      good = (f.good, g.good);
    }))))

-- ---- classes

record SuperclassesAt (tokens : List Token) (names : List NameAt) (rest : List Token) : Type 0 where
  pub spelled : Spells tokens (superclasses_spelling names) rest

some_superclasses : (tokens a b c rest : List Token) (names : List NameAt) (p q r : Place) → AtWord word_is.Is tokens p a
    → AtWord word_is.Subclass a q b → AtWord word_is.Of b r c → NamesAt c names rest → SuperclassesAt tokens names rest
some_superclasses tokens a b c rest [] p q r f g h n = absurd n.some
some_superclasses tokens a b c rest (x ∷ xs) p q r f g h n = record { spelled = marked f (marked g (marked h n.spelled)) }

gives_superclasses : (tokens : List Token) → Gives (superclasses_in tokens) (SuperclassesAt tokens)
gives_superclasses tokens =
    gives_choice _ _ (gives_word word_is.Is tokens) (λ place a f. gives_onto _ (gives_word word_is.Subclass a) (λ subclass b g.
    gives_onto _ (gives_word word_is.Of b) (λ spot c h.
    gives_more (λ names rest n. some_superclasses tokens a b c rest names place subclass spot f g h n) (gives_names c))))
    (λ none. gives_this [] tokens (record { spelled = ended }))

gives_class : (before tokens : List Token) (place : Place) → AtWord word_is.Class before place tokens
    → Gives (class_in place tokens) (Found class_spelling IsClass before)
gives_class before tokens place w =
    gives_onto _ (gives_name tokens) (λ name a f. gives_onto _ (gives_superclasses a) (λ superclasses b g.
    gives_onto _ (gives_blocks name.name (turns_for tokens) b) (λ blocks c h. gives_onto _ (gives_again name.name c) (λ second d i.
    gives_this _ d (record {
      spelled = keyed w (named_at f (two g.spelled (two h.spelled (marked h.end (repeated i ended)))));
      good = h.good;
    })))))

gives_classes : (turns : ℕ) (tokens : List Token) → Gives (classes_in turns tokens) (Found (all_spelling class_spelling) (AreAll IsClass) tokens)
gives_classes zero tokens = gives_none
gives_classes (suc turns) tokens =
    gives_choice _ _ (gives_word word_is.Class tokens) (λ place a f. gives_onto _ (gives_class tokens a place f) (λ class b g.
    gives_onto _ (gives_classes turns b) (λ others c h.
    gives_this (class ∷ others) c (record { spelled = two g.spelled h.spelled; good = (g.good, h.good) }))))
    (λ none. gives_this [] tokens (record { spelled = ended; good = tt }))

-- ---- a specification

abbrev pub spec_with : Option (List ClassTree) → Option SpecTree
spec_with None = None
spec_with (Some classes) = Some (record { classes = classes })

made_of : (classes : Option (List ClassTree)) (tree : SpecTree) → spec_with classes ≡ Some tree → classes ≡ Some tree.classes
made_of None tree e = absurd (cc)
made_of (Some classes) tree e = ap (λ (t : Option SpecTree). classes_of t) e
  where
    classes_of : Option SpecTree → Option (List ClassTree)
    classes_of None = None
    classes_of (Some t) = Some t.classes

pub specification_found : (tokens : List Token) (tree : SpecTree) → spec_of tokens ≡ Some tree → IsSpecification tokens tree
specification_found tokens tree e =
    let q = made_of (all_read (classes_in (turns_for tokens) tokens)) tree e in
    let h = (gives_classes (turns_for tokens) tokens).gives tree.classes [] (all_found (classes_in (turns_for tokens) tokens) tree.classes q) in
    record { spelled = h.spelled.is; grammatical = h.good }
