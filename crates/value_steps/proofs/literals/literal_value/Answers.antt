use Rattle.std.proofs.Common.{◌≡◌, refl, rules}
use Rattle.std.proofs.lemmas.Int.{to_z-of_z}
use Rattle.abstract_syntax.specs.Values.{nil, boolean, number, character, quote}
use Rattle.type_tree.specs.declared.literal.Literal.TheVariants.{Whole, Character, Quote, Bool, Nil}
use Rattle.value_steps.proofs.Leaves.{leaf_is}
use Rattle.value_steps.proofs.literals.literal_value.Goals as goal

pub returns-in-Whole : goal.returns-in-Whole
returns-in-Whole c =
    let made : c.new.result ≡ number c.in-Whole.number = search (rules, to_z-of_z) in
    leaf_is c.args.literal.now (Whole c.in-Whole.number) (number c.in-Whole.number) c.new.result c.in-Whole.is refl made refl refl

pub returns-in-Character : goal.returns-in-Character
returns-in-Character c =
    leaf_is c.args.literal.now (Character c.in-Character.c) (character c.in-Character.c) c.new-in-Character.result c.in-Character.is refl
    c.new-in-Character.ensures refl refl

pub returns-in-Quote : goal.returns-in-Quote
returns-in-Quote c =
    leaf_is c.args.literal.now (Quote c.in-Quote.name) (quote c.in-Quote.name) c.new-in-Quote.result c.in-Quote.is refl
    c.new-in-Quote.ensures refl refl

pub returns-in-Bool : goal.returns-in-Bool
returns-in-Bool c =
    leaf_is c.args.literal.now (Bool c.in-Bool.truth) (boolean c.in-Bool.truth) c.new-in-Bool.result c.in-Bool.is refl
    c.new-in-Bool.ensures refl refl

pub returns-in-Nil : goal.returns-in-Nil
returns-in-Nil c = leaf_is c.args.literal.now Nil nil c.new-in-Nil.result c.in-Nil.is refl c.new-in-Nil.ensures refl refl
