-- The classes that tokens begin with, from left to right, and the specification that tokens are.
use Rattle.std.specs.Prelude.{ℕ, zero, suc, List, [], ◌∷◌, Option, Some, None}
use Rattle.vdm_kinds.specs.declared.name.Name.{Name}
use Rattle.vdm_kinds.specs.declared.name_at.NameAt.{NameAt}
use Rattle.vdm_kinds.specs.declared.place.Place.{Place}
use Rattle.abstract_syntax.specs.Classes.{TypeDefTree, ValueDefTree, VariableItem, FunctionTree, OperationTree, ThreadTree, SyncTree, BlockTree, types, values, variables, functions, operations, thread_of, synchronisation, ClassTree, SpecTree}
use Rattle.grammar_words.specs.declared.word.Word.TheVariants as word_is
use Rattle.grammar_words.specs.Tokens.{Token, plain}
use Rattle.stmt_reading.specs.Leaves.{Read, onto, choice, word_in, name_in, name_again, put, turns_for, list_in}
use Rattle.stmt_reading.specs.Statements.{all_read}
use Rattle.stmt_reading.specs.Definitions.{items_in, begins_head, type_def_in, value_def_in, variable_item_in, begins_variable, function_in, operation_in, thread_in, sync_in, begins_sync}

abbrev pub items_of : {A : Type 0} → Read (List A) → (List A → BlockTree) → Read BlockTree
items_of {A = A} items made = onto items (λ (found : List A) (rest : List Token). Some (made found, rest))

-- a `;` may stand behind a thread
abbrev pub thread_ends : ThreadTree → Place → List Token → Read BlockTree
thread_ends t place tokens =
    choice (word_in word_is.Semicolon tokens) (λ (spot : Place) (rest : List Token). Some (thread_of t place, rest))
    (Some (thread_of t place, tokens))

-- the block that a token begins, in the class of this name
abbrev pub block_begun : Name → Token → List Token → Read BlockTree
block_begun class (plain word_is.Types place) tokens =
    items_of (items_in begins_head (type_def_in (turns_for tokens) class) (turns_for tokens) tokens) (λ (found : List TypeDefTree). types found place)
block_begun class (plain word_is.Values place) tokens =
    items_of (items_in begins_head value_def_in (turns_for tokens) tokens) (λ (found : List ValueDefTree). values found place)
block_begun class (plain word_is.Instance place) tokens =
    onto (word_in word_is.Variables tokens) (λ (spot : Place) (rest : List Token).
    items_of (items_in begins_variable variable_item_in (turns_for tokens) rest) (λ (found : List VariableItem). variables found place))
block_begun class (plain word_is.Functions place) tokens =
    items_of (items_in begins_head function_in (turns_for tokens) tokens) (λ (found : List FunctionTree). functions found place)
block_begun class (plain word_is.Operations place) tokens =
    items_of (items_in begins_head operation_in (turns_for tokens) tokens) (λ (found : List OperationTree). operations found place)
block_begun class (plain word_is.Thread place) tokens = onto (thread_in tokens) (λ (t : ThreadTree) (rest : List Token). thread_ends t place rest)
block_begun class (plain word_is.Sync place) tokens =
    items_of (items_in begins_sync sync_in (turns_for tokens) tokens) (λ (found : List SyncTree). synchronisation found place)
block_begun class _ tokens = None

abbrev pub block_in : Name → List Token → Read BlockTree
block_in class [] = None
block_in class (token ∷ tokens) = block_begun class token tokens

-- blocks up to the `end` of their class
abbrev pub blocks_in : Name → ℕ → List Token → Read (List BlockTree)
blocks_in class zero tokens = None
blocks_in class (suc turns) tokens =
    choice (word_in word_is.End tokens) (λ (place : Place) (rest : List Token). Some ([], rest))
    (onto (block_in class tokens) (λ (block : BlockTree) (rest : List Token). onto (blocks_in class turns rest) (put block)))

abbrev pub superclasses_in : List Token → Read (List NameAt)
superclasses_in tokens =
    choice (word_in word_is.Is tokens)
    (λ (place : Place) (a : List Token). onto (word_in word_is.Subclass a) (λ (subclass : Place) (b : List Token).
    onto (word_in word_is.Of b) (λ (of_place : Place) (c : List Token). list_in word_is.Comma name_in c)))
    (Some ([], tokens))

abbrev pub class_in : Place → List Token → Read ClassTree
class_in place tokens =
    onto (name_in tokens) (λ (name : NameAt) (a : List Token).
    onto (superclasses_in a) (λ (superclasses : List NameAt) (b : List Token).
    onto (blocks_in name.name (turns_for tokens) b) (λ (blocks : List BlockTree) (c : List Token).
    onto (name_again name.name c) (λ (second : NameAt) (d : List Token).
    Some (
      record {
        name = name.name;
        name_place = name.place;
        superclasses = superclasses;
        blocks = blocks;
        place = place;
      },
      d,
    )))))

abbrev pub classes_in : ℕ → List Token → Read (List ClassTree)
classes_in zero tokens = None
classes_in (suc turns) tokens =
    choice (word_in word_is.Class tokens)
    (λ (place : Place) (a : List Token). onto (class_in place a) (λ (class : ClassTree) (b : List Token). onto (classes_in turns b) (put class)))
    (Some ([], tokens))

abbrev pub spec_with : Option (List ClassTree) → Option SpecTree
spec_with None = None
spec_with (Some classes) = Some (record { classes = classes })

-- the specification that the tokens are, if they are one
abbrev pub spec_of : List Token → Option SpecTree
spec_of tokens = spec_with (all_read (classes_in (turns_for tokens) tokens))
