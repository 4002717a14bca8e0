-- Definitions of types, values, variables, functions and operations are taken.
use Rattle.std.proofs.Common.{◌≡◌, Bool, true, List, [], ◌∷◌, ◌++◌, Option, Some, None, refl, ap}
use Rattle.vdm_kinds.specs.declared.name.Name.{Name}
use Rattle.vdm_kinds.specs.declared.sign.Sign.TheVariants.{Equal}
use Rattle.abstract_syntax.specs.Types.{TypeTree}
use Rattle.abstract_syntax.specs.Expressions.{ExprTree}
use Rattle.abstract_syntax.specs.Classes.{FieldTree, TypeBody, same_as, with_fields, InvariantTree, TypeDefTree, ValueDefTree, VariableItem, variable_item, invariant_item}
use Rattle.grammar_words.specs.declared.word.Word.{Word}
use Rattle.grammar_words.specs.declared.word.Word.TheVariants as word_is
use Rattle.grammar_words.specs.Pulls.{far_pull}
use Rattle.grammar_words.specs.Tokens.{identifier, plain}
use Rattle.grammar_trees.specs.Spelling.{spelling}
use Rattle.grammar_trees.specs.Binding.{Binds, IsDeclared}
use Rattle.grammar_fronts.specs.declared.wanted.Wanted.TheVariants as want
use Rattle.stmt_trees.specs.Pieces.{mark, whole}
use Rattle.stmt_trees.specs.StmtSpelling.{behind_word}
use Rattle.stmt_trees.specs.StmtGrammar.{IsGivenExpr}
use Rattle.stmt_trees.specs.ClassSpelling.{all_spelling, field_spelling, type_body_spelling, invariant_spelling, type_def_spelling, declared_spelling, value_def_spelling, variable_item_spelling}
use Rattle.stmt_trees.specs.ClassGrammar.{AreAll, IsField, IsTypeBody, IsInvariant, IsTypeDef, IsValueDef, IsVariableItem}
use Rattle.stmt_fronts.specs.declared.expected.Expected.TheVariants.{Within, Initial, TypeDefs, MoreTypeDefs, TypeBody as TypeBodyWanted, Fields, Invariant, ValueDefs, MoreValueDefs, VariableItems, MoreVariableItems}
use Rattle.stmt_fronts.specs.Table.{turns}
use Rattle.stmt_fronts.specs.Viable.{Names}
use Rattle.stmt_laws.specs.Ends.{ends_expr, ends_type, first_word}
use Rattle.stmt_laws.proofs.Readers.{Begins, by_mark, by_nothing}
use Rattle.stmt_laws.proofs.Firsts.{stmt_ends}
use Rattle.viable_laws.proofs.Takes.{Takes, fewer, both, token, marked, left_before, left_last}
use Rattle.viable_laws.proofs.Leaves.{expr_taken, pattern_taken, type_taken}
use Rattle.viable_laws.proofs.Items.{ends_item, item_stmt, defined, ItemTaken, HasHead, by_head}

item_expr : (w : Word) → ends_item w ≡ true → ends_expr w ≡ true
item_expr w e = stmt_ends w (item_stmt w e)

-- ---- types

-- behind the body of a type
abbrev ends_body : Word → Bool
ends_body word_is.Inv = true
ends_body w = ends_item w

body_type : (w : Word) → ends_body w ≡ true → ends_type w ≡ true
body_type word_is.Inv e = refl
body_type word_is.Semicolon e = refl
body_type word_is.Types e = refl
body_type word_is.Values e = refl
body_type word_is.Instance e = refl
body_type word_is.Functions e = refl
body_type word_is.Operations e = refl
body_type word_is.Thread e = refl
body_type word_is.Sync e = refl
body_type word_is.End e = refl
body_type _ e = absurd (cc)

item_body : (w : Word) → ends_item w ≡ true → ends_body w ≡ true
item_body word_is.Semicolon e = refl
item_body word_is.Types e = refl
item_body word_is.Values e = refl
item_body word_is.Instance e = refl
item_body word_is.Functions e = refl
item_body word_is.Operations e = refl
item_body word_is.Thread e = refl
item_body word_is.Sync e = refl
item_body word_is.End e = refl
item_body _ e = absurd (cc)

no_field : (w : Word) → ends_body w ≡ true → turns Fields w ≡ []
no_field word_is.Identifier e = absurd (cc)
no_field _ e = refl

fields_begin : (fs : List FieldTree) → Begins (all_spelling field_spelling fs) ends_body ends_type
fields_begin [] = by_nothing body_type
fields_begin (f ∷ fs) = record { opens = λ tokens rest h e. ap (λ ts. ends_type (first_word ts)) h.1 }

fields_taken : {n : Names} (fs : List FieldTree) → AreAll IsField fs → Takes (all_spelling field_spelling fs) (Fields ∷ []) ends_body n n
fields_taken [] g = left_last refl no_field
fields_taken (f ∷ fs) g =
    token (identifier f.name f.name_place) [] _ _ refl refl (marked word_is.Colon [] _ _ refl refl
    (both (type_taken f.declared g.0) (fields_begin fs) (fields_taken fs g.1)))

type_body_taken : {n : Names} (b : TypeBody) → IsTypeBody b → Takes (type_body_spelling b) (TypeBodyWanted ∷ []) ends_body n n
type_body_taken (same_as t) g = marked (word_is.Operator Equal) [] _ _ refl refl (fewer body_type (type_taken t g))
type_body_taken (with_fields fs) g = marked word_is.DoubleColon [] _ _ refl refl (fields_taken fs g)

no_invariant : (w : Word) → ends_item w ≡ true → turns Invariant w ≡ []
no_invariant word_is.Inv e = absurd (cc)
no_invariant _ e = refl

invariant_begins : (i : Option InvariantTree) → Begins (invariant_spelling i) ends_item ends_body
invariant_begins None = by_nothing item_body
invariant_begins (Some i) = by_mark word_is.Inv refl

invariant_taken : {n : Names} (i : Option InvariantTree) → IsInvariant i → Takes (invariant_spelling i) (Invariant ∷ []) ends_item n n
invariant_taken None g = left_last refl no_invariant
invariant_taken (Some i) g =
    marked word_is.Inv [] _ _ refl refl (both (pattern_taken i.pattern g.0) (by_mark word_is.DoubleEqual refl)
    (marked word_is.DoubleEqual [] _ _ refl refl (fewer item_expr (expr_taken i.condition g.1))))

has_type_head : HasHead TypeDefs (TypeBodyWanted ∷ Invariant ∷ MoreTypeDefs ∷ [])
has_type_head = record { by_name = refl; by_static = refl; by_private = refl; by_protected = refl; by_public = refl; fit = λ n name. refl; names = λ n name. refl }

pub type_def_taken : (class : Name) (d : TypeDefTree) → IsTypeDef class d → ItemTaken TypeDefs MoreTypeDefs type_def_spelling d
type_def_taken class d g =
    record {
      after = λ n. defined n d.name;
      keeps = λ n. refl;
      taken = λ n m vs y ends b t.
          by_head {parts = TypeBodyWanted ∷ Invariant ∷ []} TypeDefs MoreTypeDefs has_type_head d.access d.name d.name_place d.place
          (both (type_body_taken d.body g.1) (invariant_begins d.invariant) (invariant_taken d.invariant g.2)) b t;
    }

-- ---- values

has_value_head : HasHead ValueDefs (Within want.LocalType ∷ Within want.Equals ∷ Within want.Expression ∷ MoreValueDefs ∷ [])
has_value_head = record { by_name = refl; by_static = refl; by_private = refl; by_protected = refl; by_public = refl; fit = λ n name. refl; names = λ n name. refl }

value_taken : {n : Names} (d : Option TypeTree) (v : ExprTree) → IsDeclared d → Binds v far_pull
    → Takes (declared_spelling d ++ (mark (word_is.Operator Equal) ∷ whole (spelling v))) (Within want.LocalType ∷ Within want.Equals ∷ Within want.Expression ∷ []) ends_item n n
value_taken None v g b = left_before (word_is.Operator Equal) refl refl (marked (word_is.Operator Equal) [] _ _ refl refl (fewer item_expr (expr_taken v b)))
value_taken (Some t) v g b =
    marked word_is.Colon [] _ _ refl refl (both (type_taken t g) (by_mark (word_is.Operator Equal) refl)
    (marked (word_is.Operator Equal) [] _ _ refl refl (fewer item_expr (expr_taken v b))))

pub value_def_taken : (d : ValueDefTree) → IsValueDef d → ItemTaken ValueDefs MoreValueDefs value_def_spelling d
value_def_taken d g =
    record {
      after = λ n. defined n d.name;
      keeps = λ n. refl;
      taken = λ n m vs y ends b t.
          by_head {parts = Within want.LocalType ∷ Within want.Equals ∷ Within want.Expression ∷ []} ValueDefs MoreValueDefs has_value_head d.access d.name d.name_place d.place
          (value_taken d.declared d.value g.0 g.1) b t;
    }

-- ---- instance variables

has_variable_head : HasHead VariableItems (Within want.Colon ∷ Within want.WholeType ∷ Initial ∷ MoreVariableItems ∷ [])
has_variable_head = record { by_name = refl; by_static = refl; by_private = refl; by_protected = refl; by_public = refl; fit = λ n name. refl; names = λ n name. refl }

no_initial : (w : Word) → ends_item w ≡ true → turns Initial w ≡ []
no_initial word_is.Becomes e = absurd (cc)
no_initial _ e = refl

initial_begins : (e : Option ExprTree) → Begins (behind_word word_is.Becomes e) ends_item ends_type
initial_begins None = by_nothing (λ w e. body_type w (item_body w e))
initial_begins (Some e) = by_mark word_is.Becomes refl

initial_taken : {n : Names} (e : Option ExprTree) → IsGivenExpr e → Takes (behind_word word_is.Becomes e) (Initial ∷ []) ends_item n n
initial_taken None g = left_last refl no_initial
initial_taken (Some e) g = marked word_is.Becomes [] _ _ refl refl (fewer item_expr (expr_taken e g))

pub variable_taken : (v : VariableItem) → IsVariableItem v → ItemTaken VariableItems MoreVariableItems variable_item_spelling v
variable_taken (variable_item v) g =
    record {
      after = λ n. defined n v.name;
      keeps = λ n. refl;
      taken = λ n m vs y ends b t.
          by_head {parts = Within want.Colon ∷ Within want.WholeType ∷ Initial ∷ []} VariableItems MoreVariableItems has_variable_head v.access v.name v.name_place v.place
          (marked word_is.Colon [] _ _ refl refl (both (type_taken v.declared g.0) (initial_begins v.initial) (initial_taken v.initial g.1))) b t;
    }
variable_taken (invariant_item condition place) g =
    record {
      after = λ n. n;
      keeps = λ n. refl;
      taken = λ n m vs y ends b t.
          token (plain word_is.Inv place) [] _ _ refl refl (both (fewer item_expr (expr_taken condition g)) b t);
    }
