-- Classes and specifications are taken.
use Rattle.std.proofs.Common.{◌≡◌, Bool, true, false, List, [], ◌∷◌, ◌++◌, Some, refl, ap, sym, subst, ◌∙◌, append_assoc}
use Rattle.vdm_kinds.specs.declared.name.Name.{Name}
use Rattle.vdm_kinds.specs.declared.name_at.NameAt.{NameAt}
use Rattle.abstract_syntax.specs.Classes.{BlockTree, types, values, variables, functions, operations, thread_of, synchronisation, ClassTree, SpecTree}
use Rattle.grammar_words.specs.declared.word.Word.{Word}
use Rattle.grammar_words.specs.declared.word.Word.TheVariants as word_is
use Rattle.grammar_words.specs.Tokens.{Token, identifier, plain}
use Rattle.grammar_fronts.specs.declared.wanted.Wanted.TheVariants as want
use Rattle.stmt_trees.specs.Pieces.{Piece, again, mark}
use Rattle.stmt_trees.specs.ClassSpelling.{all_spelling, block_spelling, superclasses_spelling, class_spelling}
use Rattle.stmt_trees.specs.ClassGrammar.{AreAll, IsBlock, IsClass}
use Rattle.stmt_trees.specs.Trees.{IsSpecification}
use Rattle.stmt_fronts.specs.declared.kind.Kind.TheVariants as kind
use Rattle.stmt_fronts.specs.declared.expected.Expected.{Expected}
use Rattle.stmt_fronts.specs.declared.expected.Expected.TheVariants.{Within, Classes, ClassNameAgain, Superclasses, Blocks}
use Rattle.stmt_fronts.specs.Turns.{goes_on}
use Rattle.stmt_fronts.specs.Table.{turns}
use Rattle.stmt_fronts.specs.Viable.{Names, fits, no_names, start, IsViable}
use Rattle.stmt_fronts.specs.Fronts.{is_whole, can_end}
use Rattle.stmt_laws.proofs.Readers.{Begins, by_mark, by_token}
use Rattle.viable_laws.proofs.Takes.{Ends, tok, Takes, token, marked, left_out, left_before, left_last, same_pieces, regroup}
use Rattle.viable_laws.proofs.Viable.{ends-viable}
use Rattle.viable_laws.proofs.Items.{ends_block}
use Rattle.viable_laws.proofs.Routines.{same_number}
use Rattle.viable_laws.proofs.Blocks.{names_taken, block_taken}

same_begins : {ws vs : List Piece} {ends first : Word → Bool} → ws ≡ vs → Begins ws ends first → Begins vs ends first
same_begins {ends = ends} {first = first} e b = subst (λ ps. Begins ps ends first) e b

no_superclass : (w : Word) → ends_block w ≡ true → turns Superclasses w ≡ []
no_superclass word_is.Types e = refl
no_superclass word_is.Values e = refl
no_superclass word_is.Instance e = refl
no_superclass word_is.Functions e = refl
no_superclass word_is.Operations e = refl
no_superclass word_is.Thread e = refl
no_superclass word_is.Sync e = refl
no_superclass word_is.End e = refl
no_superclass _ e = absurd (cc)

no_name : (w : Word) → ends_block w ≡ true → turns (Within want.MoreNames) w ≡ []
no_name word_is.Types e = refl
no_name word_is.Values e = refl
no_name word_is.Instance e = refl
no_name word_is.Functions e = refl
no_name word_is.Operations e = refl
no_name word_is.Thread e = refl
no_name word_is.Sync e = refl
no_name word_is.End e = refl
no_name _ e = absurd (cc)

block_begins : {ends : Word → Bool} (b : BlockTree) (vs : List Piece) → Begins (block_spelling b ++ vs) ends ends_block
block_begins (types ds place) vs = by_token (plain word_is.Types place) refl
block_begins (values ds place) vs = by_token (plain word_is.Values place) refl
block_begins (variables ds place) vs = by_token (plain word_is.Instance place) refl
block_begins (functions ds place) vs = by_token (plain word_is.Functions place) refl
block_begins (operations ds place) vs = by_token (plain word_is.Operations place) refl
block_begins (thread_of t place) vs = by_token (plain word_is.Thread place) refl
block_begins (synchronisation ds place) vs = by_token (plain word_is.Sync place) refl

pub blocks_begin : {ends : Word → Bool} (bs : List BlockTree) (ws : List Piece) → Begins (all_spelling block_spelling bs ++ (mark word_is.End ∷ ws)) ends ends_block
blocks_begin [] ws = by_mark word_is.End refl
blocks_begin (b ∷ bs) ws = same_begins (sym (append_assoc (block_spelling b) (all_spelling block_spelling bs) (mark word_is.End ∷ ws))) (block_begins b _)

-- all blocks of a class, before its `end`
pub record AllBlocks (bs : List BlockTree) : Type 0 where
  pub after : Names → Names
  pub keeps : (n : Names) → (after n).class ≡ n.class
  pub taken : (n m : Names) (ws : List Piece) (y : List Expected) (ends : Word → Bool) → Takes (mark word_is.End ∷ ws) (Within want.End ∷ y) ends (after n) m
      → Takes (all_spelling block_spelling bs ++ (mark word_is.End ∷ ws)) (Blocks ∷ Within want.End ∷ y) ends n m

pub blocks_taken : (class : Name) (bs : List BlockTree) → AreAll (IsBlock class) bs → AllBlocks bs
blocks_taken class [] g =
    record { after = λ n. n; keeps = λ n. refl; taken = λ n m ws y ends t. left_before word_is.End refl refl t }
blocks_taken class (b ∷ bs) g =
    let first = block_taken class b g.0 in
    let others = blocks_taken class bs g.1 in
    record {
      after = λ n. others.after (first.after n);
      keeps = λ n. others.keeps (first.after n) ∙ first.keeps n;
      taken = λ n m ws y ends t.
          regroup (block_spelling b) (all_spelling block_spelling bs) (mark word_is.End ∷ ws)
          (first.taken n m (all_spelling block_spelling bs ++ (mark word_is.End ∷ ws)) (Within want.End ∷ y) ends (blocks_begin bs ws) (others.taken (first.after n) m ws y ends t));
    }

-- ---- classes

superclasses_taken : {n m : Names} {vs : List Piece} {y : List Expected} {ends : Word → Bool} (names : List NameAt) → Begins vs ends ends_block → Takes vs y ends n m
    → Takes (superclasses_spelling names ++ vs) (Superclasses ∷ y) ends n m
superclasses_taken [] b t = left_out refl no_superclass b t
superclasses_taken (a ∷ names) b t =
    marked word_is.Is [] _ _ refl refl (marked word_is.Subclass [] _ _ refl refl (marked word_is.Of [] _ _ refl refl (token (identifier a.name a.place) [] _ _ refl refl
    (names_taken names (left_out refl no_name b t)))))

-- the name is that of the class
name_again : {n m : Names} {vs : List Piece} {y : List Expected} {ends : Word → Bool} (name : Name) → n.class ≡ Some name → Takes vs y ends n m
    → Takes (again name ∷ vs) (ClassNameAgain ∷ y) ends n m
name_again {n = n} {y = y} name is t =
    record {
      takes = λ behind tokens rest h e r.
          subst (λ ts. Ends ts (ClassNameAgain ∷ (y ++ behind)) n) (sym h.2)
          (tok (identifier name h.1) h.0 ClassNameAgain (y ++ behind) n [] (goes_on []) [] refl
          (ap (λ d. fits (record n { class = d }) ClassNameAgain (Some name)) is ∙ same_number name.0) (t.takes behind h.0 rest h.3 e r));
    }

record ClassTaken (c : ClassTree) : Type 0 where
  pub after : Names → Names
  pub taken : (n m : Names) (vs : List Piece) (y : List Expected) (ends : Word → Bool) → Takes vs (Classes ∷ y) ends (after n) m
      → Takes (class_spelling c ++ vs) (Classes ∷ y) ends n m

class_taken : (c : ClassTree) → IsClass c → ClassTaken c
class_taken c g =
    let blocks = blocks_taken c.name c.blocks g in
    record {
      after = λ n. blocks.after (record n { class = Some c.name });
      taken = λ n m vs y ends t.
          token (plain word_is.Class c.place) [] _ _ refl refl (token (identifier c.name c.name_place) [] _ _ refl refl
          (regroup (superclasses_spelling c.superclasses) (all_spelling block_spelling c.blocks ++ (mark word_is.End ∷ again c.name ∷ [])) vs
          (same_pieces (sym (ap (λ x. superclasses_spelling c.superclasses ++ x) (append_assoc (all_spelling block_spelling c.blocks) (mark word_is.End ∷ again c.name ∷ []) vs)))
          (superclasses_taken c.superclasses (blocks_begin c.blocks (again c.name ∷ vs))
          (blocks.taken (record n { class = Some c.name }) m (again c.name ∷ vs) (ClassNameAgain ∷ Classes ∷ y) ends
          (marked word_is.End [] _ _ refl refl (name_again c.name (blocks.keeps (record n { class = Some c.name })) t)))))));
    }

abbrev only_end : Word → Bool
only_end word_is.TextEnd = true
only_end _ = false

no_more : (w : Word) → only_end w ≡ true → turns Classes w ≡ []
no_more word_is.TextEnd e = refl
no_more _ e = absurd (cc)

after_all : (cs : List ClassTree) → AreAll IsClass cs → Names → Names
after_all [] g n = n
after_all (c ∷ cs) g n = after_all cs g.1 ((class_taken c g.0).after n)

classes_taken : (cs : List ClassTree) (g : AreAll IsClass cs) (n : Names) → Takes (all_spelling class_spelling cs) (Classes ∷ []) only_end n (after_all cs g n)
unfolding after_all
classes_taken [] g n = left_last refl no_more
classes_taken (c ∷ cs) g n =
    (class_taken c g.0).taken n (after_all cs g.1 ((class_taken c g.0).after n)) (all_spelling class_spelling cs) [] only_end
    (classes_taken cs g.1 ((class_taken c g.0).after n))

-- ---- the laws

pub spec-ends : (tokens : List Token) (tree : SpecTree) → IsSpecification tokens tree → can_end kind.Spec tokens ≡ true
spec-ends tokens tree h =
    let e = (classes_taken tree.classes h.grammatical no_names).takes [] tokens [] h.spelled refl (record { ends = refl }) in e.ends

pub spec-viable : (tokens : List Token) (tree : SpecTree) → IsSpecification tokens tree → IsViable kind.Spec tokens
spec-viable tokens tree h = ends-viable (λ state. is_whole state.wanted) tokens (start kind.Spec) (spec-ends tokens tree h)
