-- Definitions, classes and a specification as they are read where statements are read by this: in whatever room.
use Rattle.std.proofs.Common.{◌≡◌, ℕ, zero, suc, List, [], ◌∷◌, Option, Some, None, refl, ap, ◌∙◌}
use Rattle.vdm_kinds.specs.declared.name.Name.{Name}
use Rattle.vdm_kinds.specs.declared.name_at.NameAt.{NameAt}
use Rattle.vdm_kinds.specs.declared.place.Place.{Place}
use Rattle.abstract_syntax.specs.Types.{TypeTree}
use Rattle.abstract_syntax.specs.Expressions.{ExprTree, PatternTree}
use Rattle.abstract_syntax.specs.Statements.{StmtTree}
use Rattle.abstract_syntax.specs.Classes.{Body, OperationTree, ThreadTree, procedural, BlockTree, operations, ClassTree}
use Rattle.grammar_words.specs.declared.word.Word.TheVariants as word_is
use Rattle.grammar_words.specs.Tokens.{Token, plain}
use Rattle.stmt_reading.specs.Leaves.{Read, onto, choice, word_in, name_in, name_again, put, turns_for}
use Rattle.stmt_reading.specs.Statements.{behind_word_in}
use Rattle.stmt_reading.specs.Definitions.{Head, head_in, items_in, begins_head, parameters_in, result_in, patterns_of, body_of, statement_in, periodic_in}
use Rattle.stmt_reading.specs.Classes.{items_of, block_begun, blocks_in, superclasses_in, class_in, classes_in}
use Rattle.class_laws.proofs.SoundClasses.{thread_ends, block_in}

abbrev pub operation_by : (List Token → Read StmtTree) → List Token → Read OperationTree
operation_by one tokens =
    onto (head_in tokens) (λ (head : Head) (a : List Token).
    onto (word_in word_is.Colon a) (λ (colon : Place) (b : List Token).
    onto (parameters_in b) (λ (parameters : List TypeTree) (c : List Token).
    onto (word_in word_is.DoubleArrow c) (λ (arrow : Place) (d : List Token).
    onto (result_in d) (λ (result : Option TypeTree) (e : List Token).
    onto (patterns_of head.name e) (λ (patterns : List PatternTree) (f : List Token).
    onto (body_of one f) (λ (body : Body StmtTree) (g : List Token).
    onto (behind_word_in word_is.Pre g) (λ (pre : Option ExprTree) (h : List Token).
    onto (behind_word_in word_is.Post h) (λ (post : Option ExprTree) (i : List Token).
    Some (
      record {
        access = head.access;
        name = head.name;
        name_place = head.name_place;
        parameters = parameters;
        result_type = result;
        patterns = patterns;
        body = body;
        pre = pre;
        post = post;
        place = head.place;
      },
      i,
    ))))))))))

abbrev pub thread_by : (List Token → Read StmtTree) → List Token → Read ThreadTree
thread_by one tokens =
    choice (word_in word_is.Periodic tokens) periodic_in
    (onto (one tokens) (λ (s : StmtTree) (a : List Token). Some (procedural s, a)))

-- all blocks but those with statements are read as they are
abbrev pub begun_by : (List Token → Read StmtTree) → Name → Token → List Token → Read BlockTree
begun_by one class (plain word_is.Operations place) tokens =
    items_of (items_in begins_head (operation_by one) (turns_for tokens) tokens) (λ (found : List OperationTree). operations found place)
begun_by one class (plain word_is.Thread place) tokens = onto (thread_by one tokens) (λ (t : ThreadTree) (rest : List Token). thread_ends t place rest)
begun_by one class token tokens = block_begun class token tokens

abbrev pub block_by : (List Token → Read StmtTree) → Name → List Token → Read BlockTree
block_by one class [] = None
block_by one class (token ∷ tokens) = begun_by one class token tokens

abbrev pub blocks_by : (List Token → Read StmtTree) → Name → ℕ → List Token → Read (List BlockTree)
blocks_by one class zero tokens = None
blocks_by one class (suc turns) tokens =
    choice (word_in word_is.End tokens) (λ (place : Place) (rest : List Token). Some ([], rest))
    (onto (block_by one class tokens) (λ (block : BlockTree) (rest : List Token). onto (blocks_by one class turns rest) (put block)))

abbrev pub class_by : (List Token → Read StmtTree) → Place → List Token → Read ClassTree
class_by one place tokens =
    onto (name_in tokens) (λ (name : NameAt) (a : List Token).
    onto (superclasses_in a) (λ (superclasses : List NameAt) (b : List Token).
    onto (blocks_by one name.name (turns_for tokens) b) (λ (blocks : List BlockTree) (c : List Token).
    onto (name_again name.name c) (λ (second : NameAt) (d : List Token).
    Some (
      record {
        name = name.name;
        name_place = name.place;
        superclasses = superclasses;
        blocks = blocks;
        place = place;
      },
      d,
    )))))

abbrev pub classes_by : (List Token → Read StmtTree) → ℕ → List Token → Read (List ClassTree)
classes_by one zero tokens = None
classes_by one (suc turns) tokens =
    choice (word_in word_is.Class tokens)
    (λ (place : Place) (a : List Token). onto (class_by one place a) (λ (class : ClassTree) (b : List Token). onto (classes_by one turns b) (put class)))
    (Some ([], tokens))

-- ---- in the room that the reading gives it is what is read

begun_alike : (class : Name) (token : Token) (tokens : List Token) → begun_by statement_in class token tokens ≡ block_begun class token tokens
begun_alike class (plain word_is.Operations place) tokens = refl
begun_alike class (plain word_is.Thread place) tokens = refl
begun_alike class _ tokens = refl

block_alike : (class : Name) (tokens : List Token) → block_by statement_in class tokens ≡ block_in class tokens
block_alike class [] = refl
block_alike class (token ∷ tokens) = begun_alike class token tokens

onto_alike : {A B : Type 0} (r : Read A) (p q : A → List Token → Read B) → ((a : A) (rest : List Token) → p a rest ≡ q a rest) → onto r p ≡ onto r q
onto_alike None p q same = refl
onto_alike (Some (a, rest)) p q same = same a rest

choice_alike : {A B : Type 0} (r : Read A) (p q : A → List Token → Read B) (other : Read B) → ((a : A) (rest : List Token) → p a rest ≡ q a rest)
    → choice r p other ≡ choice r q other
choice_alike None p q other same = refl
choice_alike (Some (a, rest)) p q other same = same a rest

blocks_alike : (class : Name) (turns : ℕ) (tokens : List Token) → blocks_by statement_in class turns tokens ≡ blocks_in class turns tokens
blocks_alike class zero tokens = refl
blocks_alike class (suc turns) tokens =
    ap (λ o. choice (word_in word_is.End tokens) (λ place rest. Some ([], rest)) o)
    (ap (λ r. onto r (λ block rest. onto (blocks_by statement_in class turns rest) (put block))) (block_alike class tokens)
    ∙ onto_alike (block_in class tokens) (λ block rest. onto (blocks_by statement_in class turns rest) (put block))
    (λ block rest. onto (blocks_in class turns rest) (put block)) (λ block rest. ap (λ r. onto r (put block)) (blocks_alike class turns rest)))

-- what is made of a class's parts
abbrev class_made : NameAt → Place → List NameAt → List BlockTree → ClassTree
class_made name place superclasses blocks =
    record { name = name.name; name_place = name.place; superclasses = superclasses; blocks = blocks; place = place }

class_alike : (place : Place) (tokens : List Token) → class_by statement_in place tokens ≡ class_in place tokens
class_alike place tokens =
    onto_alike (name_in tokens) _ _ (λ name a. onto_alike (superclasses_in a) _ _ (λ superclasses b.
    ap (λ r. onto r (λ blocks c. onto (name_again name.name c) (λ second d. Some (class_made name place superclasses blocks, d))))
    (blocks_alike name.name (turns_for tokens) b)))

pub classes_alike : (turns : ℕ) (tokens : List Token) → classes_by statement_in turns tokens ≡ classes_in turns tokens
classes_alike zero tokens = refl
classes_alike (suc turns) tokens =
    choice_alike (word_in word_is.Class tokens) (λ place a. onto (class_by statement_in place a) (λ class b. onto (classes_by statement_in turns b) (put class)))
    (λ place a. onto (class_in place a) (λ class b. onto (classes_in turns b) (put class))) (Some ([], tokens)) (λ place a.
    ap (λ r. onto r (λ class b. onto (classes_by statement_in turns b) (put class))) (class_alike place a)
    ∙ onto_alike (class_in place a) (λ class b. onto (classes_by statement_in turns b) (put class)) (λ class b. onto (classes_in turns b) (put class))
    (λ class b. ap (λ r. onto r (put class)) (classes_alike turns b)))
