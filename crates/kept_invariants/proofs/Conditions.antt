-- The conditions of blocks and of what stands among variables, one after another.
use Rattle.std.proofs.Common.{◌≡◌, Bool, ◌&&◌, List, ◌∷◌, map, refl}
use Rattle.std.specs.List.{flat_map}
use Rattle.std.proofs.lemmas.List.Folds.{list_all-append}
use Rattle.abstract_syntax.specs.Classes.{SpecTree}
use Rattle.vdm_tree.specs.ClassView.{block_view, variable_item_view}
use Rattle.vdm_tree.specs.declared.class_def.Block.{Block}
use Rattle.vdm_tree.specs.declared.class_def.VariableItem.{VariableItem}
use Rattle.vdm_tree.specs.declared.class_def.VariableItem.TheVariants.{Variable, Invariant}
use Rattle.stmt_meaning.specs.Keeping.{conditions_among, conditions_in}
use Rattle.expr_eval.specs.declared.env.Env.{Env}
use Rattle.kept_invariants.specs.Guarding.{all_hold_in, holds_in, item_holds}

module _ (spec : SpecTree) (env : Env) where
  abbrev pub blocks_hold : List Block → Bool
  blocks_hold blocks = all_hold_in spec env (flat_map conditions_in (map block_view blocks))

  abbrev pub block_holds : Block → Bool
  block_holds block = all_hold_in spec env (conditions_in (block_view block))

  pub next_block : (block : Block) (blocks : List Block) → blocks_hold (block ∷ blocks) ≡ (block_holds block && blocks_hold blocks)
  next_block block blocks = list_all-append (holds_in spec env) (conditions_in (block_view block)) (flat_map conditions_in (map block_view blocks))

  abbrev pub items_hold : List VariableItem → Bool
  items_hold items = all_hold_in spec env (conditions_among (map variable_item_view items))

  abbrev pub one_holds : VariableItem → Bool
  one_holds item = item_holds spec env (variable_item_view item)

  pub next_item : (item : VariableItem) (items : List VariableItem) → items_hold (item ∷ items) ≡ (one_holds item && items_hold items)
  next_item (Variable v) items = refl
  next_item (Invariant condition place) items = refl
