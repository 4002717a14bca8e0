-- Which trees of definitions, blocks, classes and specifications the grammar has.
use Rattle.std.specs.Prelude.{◌≡◌, List, [], ◌∷◌, Option, Some, None}
use Rattle.vdm_kinds.specs.declared.name.Name.{Name}
use Rattle.abstract_syntax.specs.Types.{TypeTree, product_type}
use Rattle.abstract_syntax.specs.Expressions.{ExprTree}
use Rattle.abstract_syntax.specs.Classes.{FieldTree, TypeBody, same_as, with_fields, InvariantTree, TypeDefTree, ValueDefTree, VariableItem, variable_item, invariant_item, Body, written, not_yet_specified, subclass_responsibility, FunctionTree, OperationTree, PhaseTree, ThreadTree, periodic, procedural, SyncTree, permission, mutex_all, mutex_of, BlockTree, types, values, variables, functions, operations, thread_of, synchronisation, ClassTree, SpecTree}
use Rattle.grammar_words.specs.Pulls.{far_pull}
use Rattle.type_reading.specs.TypeSpelling.{IsType, union, single}
use Rattle.grammar_trees.specs.Binding.{AreSomeNames, Binds, IsDeclared, IsPattern}
use Rattle.stmt_trees.specs.StmtGrammar.{IsGivenExpr, IsStmt}

abbrev pub AreAll : {A : Type 0} → (A → Type 0) → List A → Type 0
AreAll P [] = Unit {0}
AreAll P (first ∷ others) = P first × AreAll P others

-- ---- types, values and variables

abbrev pub IsField : FieldTree → Type 0
IsField f = IsType f.declared union

abbrev pub IsTypeBody : TypeBody → Type 0
IsTypeBody (same_as declared) = IsType declared union
IsTypeBody (with_fields fields) = AreAll IsField fields

abbrev pub IsInvariant : Option InvariantTree → Type 0
IsInvariant None = Unit {0}
IsInvariant (Some i) = IsPattern i.pattern × Binds i.condition far_pull

-- a type is one of the class that it stands in
abbrev pub IsTypeDef : Name → TypeDefTree → Type 0
IsTypeDef class d = (d.class ≡ class) × IsTypeBody d.body × IsInvariant d.invariant

abbrev pub IsValueDef : ValueDefTree → Type 0
IsValueDef d = IsDeclared d.declared × Binds d.value far_pull

abbrev pub IsVariableItem : VariableItem → Type 0
IsVariableItem (variable_item v) = IsType v.declared union × IsGivenExpr v.initial
IsVariableItem (invariant_item condition place) = Binds condition far_pull

-- ---- functions and operations

-- one parameter's type is no product, which would be several
abbrev IsOneParameter : TypeTree → Type 0
IsOneParameter (product_type factors place) = ⊥
IsOneParameter t = IsType t union

abbrev IsFactor : TypeTree → Type 0
IsFactor t = IsType t single

abbrev pub AreParameters : List TypeTree → Type 0
AreParameters [] = Unit {0}
AreParameters (only ∷ []) = IsOneParameter only
AreParameters (first ∷ second ∷ others) = AreAll IsFactor (first ∷ second ∷ others)

abbrev pub IsBody : {A : Type 0} → (A → Type 0) → Body A → Type 0
IsBody P (written a) = P a
IsBody P not_yet_specified = Unit {0}
IsBody P subclass_responsibility = Unit {0}

abbrev IsExpr : ExprTree → Type 0
IsExpr e = Binds e far_pull

pub record IsFunction (f : FunctionTree) : Type 0 where
  pub parameters : AreParameters f.parameters
  pub result_type : IsType f.result_type union
  pub patterns : AreAll IsPattern f.patterns
  pub body : IsBody IsExpr f.body
  pub pre : IsGivenExpr f.pre
  pub post : IsGivenExpr f.post
  pub measure : IsGivenExpr f.measure

pub record IsOperation (o : OperationTree) : Type 0 where
  pub parameters : AreParameters o.parameters
  pub result_type : IsDeclared o.result_type
  pub patterns : AreAll IsPattern o.patterns
  pub body : IsBody IsStmt o.body
  pub pre : IsGivenExpr o.pre
  pub post : IsGivenExpr o.post

-- ---- threads and synchronisation

abbrev pub IsPhase : Option PhaseTree → Type 0
IsPhase None = Unit {0}
IsPhase (Some p) = Binds p.jitter far_pull × Binds p.delay far_pull × Binds p.offset far_pull

abbrev pub IsThread : ThreadTree → Type 0
IsThread (periodic period phase name name_place place) = Binds period far_pull × IsPhase phase
IsThread (procedural body) = IsStmt body

abbrev pub IsSync : SyncTree → Type 0
IsSync (permission name name_place condition place) = Binds condition far_pull
IsSync (mutex_all place) = Unit {0}
IsSync (mutex_of names place) = AreSomeNames names

-- ---- classes

abbrev pub IsBlock : Name → BlockTree → Type 0
IsBlock class (types definitions place) = AreAll (IsTypeDef class) definitions
IsBlock class (values definitions place) = AreAll IsValueDef definitions
IsBlock class (variables items place) = AreAll IsVariableItem items
IsBlock class (functions definitions place) = AreAll IsFunction definitions
IsBlock class (operations definitions place) = AreAll IsOperation definitions
IsBlock class (thread_of t place) = IsThread t
IsBlock class (synchronisation clauses place) = AreAll IsSync clauses

abbrev pub IsClass : ClassTree → Type 0
IsClass c = AreAll (IsBlock c.name) c.blocks

abbrev pub IsSpec : SpecTree → Type 0
IsSpec s = AreAll IsClass s.classes
