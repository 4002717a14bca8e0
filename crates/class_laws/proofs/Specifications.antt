-- Tokens are at most one specification, and are read as it.
use Rattle.std.proofs.Common.{◌≡◌, ℕ, ◌≤◌, max, List, [], ◌∷◌, map, length, Some, refl, ap, sym, ◌∙◌, arith}
use Rattle.vdm_kinds.specs.declared.name.Name.{Name}
use Rattle.abstract_syntax.specs.Depth.{greatest, parameters_depth, declared_depth, pattern_depth, value_depth, body_depth, stmt_depth, operation_depth, thread_depth, block_depth, class_depth, spec_depth}
use Rattle.abstract_syntax.specs.Statements.{StmtTree}
use Rattle.abstract_syntax.specs.Classes.{Body, written, not_yet_specified, subclass_responsibility, OperationTree, ThreadTree, periodic, procedural, BlockTree, types, values, variables, functions, operations, thread_of, synchronisation, ClassTree, SpecTree}
use Rattle.grammar_words.specs.Tokens.{Token}
use Rattle.stmt_trees.specs.StmtGrammar.{IsStmt}
use Rattle.stmt_trees.specs.ClassSpelling.{all_spelling, class_spelling}
use Rattle.stmt_trees.specs.ClassGrammar.{AreAll, IsBody, IsOperation, IsThread, IsBlock, IsClass}
use Rattle.stmt_trees.specs.Trees.{IsSpecification}
use Rattle.stmt_reading.specs.Leaves.{turns_for}
use Rattle.stmt_reading.specs.Statements.{stmt_in, nesting_limit, all_read}
use Rattle.stmt_reading.specs.Classes.{spec_of}
use Rattle.stmt_laws.proofs.Lists.{marks, marks-fit}
use Rattle.stmt_laws.proofs.ReadStmts.{at_room, stmt-read}
use Rattle.class_laws.proofs.SoundClasses.{spec_with}
use Rattle.class_laws.proofs.InRoom.{classes_by, classes_alike}
use Rattle.class_laws.proofs.ReadFunctions.{BodyRead}
use Rattle.class_laws.proofs.ReadClasses.{ThreadRead, BlockRead, ClassRead, classes-read, classes-fit}

-- ---- the statements of a specification are read, in room for as many levels as it has

body_room : (room : ℕ) (b : Body StmtTree) → IsBody IsStmt b → body_depth stmt_depth b ≤ room → BodyRead (stmt_in room) b
body_room room (written s) g d = at_room s (stmt-read s g) room d
body_room room not_yet_specified g d = tt
body_room room subclass_responsibility g d = tt

operation_room : (room : ℕ) (o : OperationTree) → IsOperation o → operation_depth o ≤ room → BodyRead (stmt_in room) o.body
operation_room room o g d =
    let e : max (parameters_depth o.parameters) (max (declared_depth o.result_type) (max (greatest (map pattern_depth o.patterns))
    (max (body_depth stmt_depth o.body) (max (value_depth o.pre) (max (value_depth o.post) 0))))) ≤ room = d in
    let b : body_depth stmt_depth o.body ≤ room = omega arith in body_room room o.body g.body b

operations_room : (room : ℕ) (os : List OperationTree) → AreAll IsOperation os → greatest (map operation_depth os) ≤ room
    → AreAll (λ (o : OperationTree). BodyRead (stmt_in room) o.body) os
operations_room room [] g d = tt
operations_room room (o ∷ os) g d =
    let e : max (operation_depth o) (greatest (map operation_depth os)) ≤ room = d in
    (operation_room room o g.0 (omega arith), operations_room room os g.1 (omega arith))

thread_room : (room : ℕ) (t : ThreadTree) → IsThread t → thread_depth t ≤ room → ThreadRead (stmt_in room) t
thread_room room (periodic period phase name name_place place) g d = tt
thread_room room (procedural s) g d = at_room s (stmt-read s g) room d

block_room : (room : ℕ) (class : Name) (b : BlockTree) → IsBlock class b → block_depth b ≤ room → BlockRead (stmt_in room) b
block_room room class (operations os place) g d = operations_room room os g d
block_room room class (thread_of t place) g d = thread_room room t g d
block_room room class (types ds place) g d = tt
block_room room class (values ds place) g d = tt
block_room room class (variables is place) g d = tt
block_room room class (functions fs place) g d = tt
block_room room class (synchronisation ss place) g d = tt

blocks_room : (room : ℕ) (class : Name) (bs : List BlockTree) → AreAll (IsBlock class) bs → greatest (map block_depth bs) ≤ room
    → AreAll (BlockRead (stmt_in room)) bs
blocks_room room class [] g d = tt
blocks_room room class (b ∷ bs) g d =
    let e : max (block_depth b) (greatest (map block_depth bs)) ≤ room = d in
    (block_room room class b g.0 (omega arith), blocks_room room class bs g.1 (omega arith))

classes_room : (room : ℕ) (cs : List ClassTree) → AreAll IsClass cs → greatest (map class_depth cs) ≤ room → AreAll (ClassRead (stmt_in room)) cs
classes_room room [] g d = tt
classes_room room (c ∷ cs) g d =
    let e : max (class_depth c) (greatest (map class_depth cs)) ≤ room = d in
    let f : class_depth c ≤ room = omega arith in
    (blocks_room room c.name c.blocks g.0 f, classes_room room cs g.1 (omega arith))

-- ---- whole specifications

classes-of : (tokens : List Token) (tree : SpecTree) (room : ℕ) → IsSpecification tokens tree → spec_depth tree ≤ room
    → classes_by (stmt_in room) (turns_for tokens) tokens ≡ Some (tree.classes, [])
classes-of tokens tree room h d =
    let fits : length tree.classes ≤ marks (all_spelling class_spelling tree.classes) = classes-fit tree.classes in
    let less : marks (all_spelling class_spelling tree.classes) ≤ length tokens = marks-fit (all_spelling class_spelling tree.classes) tokens [] h.spelled in
    (classes-read (stmt_in room) tree.classes (turns_for tokens) (omega arith) h.grammatical (classes_room room tree.classes h.grammatical d)).reads
    tokens [] h.spelled refl

pub specification-of : (tokens : List Token) (tree : SpecTree) → IsSpecification tokens tree → spec_depth tree ≤ nesting_limit
    → spec_of tokens ≡ Some tree
specification-of tokens tree h d =
    ap (λ r. spec_with (all_read r)) (sym (classes_alike (turns_for tokens) tokens) ∙ classes-of tokens tree nesting_limit h d)

same_classes : (a b : List ClassTree) → all_read (Some (a, [])) ≡ all_read (Some (b, [])) → a ≡ b
same_classes a b e = cc

abbrev spec_made : List ClassTree → SpecTree
spec_made classes = record { classes = classes }

-- as much room as both take
pub one-specification : (tokens : List Token) (a b : SpecTree) → IsSpecification tokens a → IsSpecification tokens b → a ≡ b
one-specification tokens a b h k =
    let room = max (spec_depth a) (spec_depth b) in
    let first : spec_depth a ≤ max (spec_depth a) (spec_depth b) = omega arith in
    let second : spec_depth b ≤ max (spec_depth a) (spec_depth b) = omega arith in
    let same : a.classes ≡ b.classes =
    same_classes a.classes b.classes (ap all_read (sym (classes-of tokens a room h first) ∙ classes-of tokens b room k second)) in
    ap spec_made same
