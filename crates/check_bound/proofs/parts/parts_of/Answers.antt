use Rattle.std.proofs.Common.{◌≡◌, ap, of_z, rules, sym, to_z, ◌∙◌}
use Rattle.std.specs.Int.{w128}
use Rattle.std.proofs.lemmas.Int.{to_z-of_z}
use Rattle.abstract_syntax.specs.Expressions.{select_part}
use Rattle.expr_tree.specs.View.{view_of}
use Rattle.class_checks.specs.Expressions.{check}
use Rattle.check_frames.specs.Below.check_scopes.specs.Told.{spec_in}
use Rattle.check_bound.proofs.OfParts.{basic_parts, infix_parts, map_parts, modified_parts, prefix_parts, range_parts, same_base_class_parts, same_class_parts, select_parts, sequence_parts, set_parts, subsequence_parts, token_parts, tuple_parts}
use Rattle.check_bound.proofs.Views.{view-Infix, view-IsOfBasic, view-MakeToken, view-MakeTuple, view-MapEnumeration, view-ModifyRecord, view-Prefix, view-SameBaseClass, view-SameClass, view-SelectPart, view-SequenceEnumeration, view-SetEnumeration, view-SetRange, view-Subsequence}
use Rattle.check_bound.proofs.parts.parts_of.Goals as goal

pub returns-in-Prefix : goal.returns-in-Prefix
returns-in-Prefix c =
    λ setting scope. ap (check (spec_in setting) scope) (ap view_of c.in-Prefix.is ∙ view-Prefix _ _ _) ∙ prefix_parts setting scope _ _ _ c.parts_as.result c.parts_as.ensures

pub returns-in-Infix : goal.returns-in-Infix
returns-in-Infix c =
    λ setting scope. ap (check (spec_in setting) scope) (ap view_of c.in-Infix.is ∙ view-Infix _ _ _ _) ∙ infix_parts setting scope _ _ _ _ c.parts_as-in-Infix.result c.parts_as-in-Infix.ensures

pub returns-in-SetEnumeration : goal.returns-in-SetEnumeration
returns-in-SetEnumeration c =
    λ setting scope. ap (check (spec_in setting) scope) (ap view_of c.in-SetEnumeration.is ∙ view-SetEnumeration _ _) ∙ set_parts setting scope c.as_slice.result _ _ c.parts_as-in-SetEnumeration.result c.parts_as-in-SetEnumeration.ensures c.as_slice.ensures.value

pub returns-in-SetRange : goal.returns-in-SetRange
returns-in-SetRange c =
    λ setting scope. ap (check (spec_in setting) scope) (ap view_of c.in-SetRange.is ∙ view-SetRange _ _ _) ∙ range_parts setting scope _ _ _ c.parts_as-in-SetRange.result c.parts_as-in-SetRange.ensures

pub returns-in-MapEnumeration : goal.returns-in-MapEnumeration
returns-in-MapEnumeration c =
    λ setting scope. ap (check (spec_in setting) scope) (ap view_of c.in-MapEnumeration.is ∙ view-MapEnumeration _ _) ∙ map_parts setting scope c.as_slice-in-MapEnumeration.result _ _ c.parts_as-in-MapEnumeration.result c.parts_as-in-MapEnumeration.ensures c.as_slice-in-MapEnumeration.ensures.value

pub returns-in-SequenceEnumeration : goal.returns-in-SequenceEnumeration
returns-in-SequenceEnumeration c =
    λ setting scope. ap (check (spec_in setting) scope) (ap view_of c.in-SequenceEnumeration.is ∙ view-SequenceEnumeration _ _) ∙ sequence_parts setting scope c.as_slice-in-SequenceEnumeration.result _ _ c.parts_as-in-SequenceEnumeration.result c.parts_as-in-SequenceEnumeration.ensures c.as_slice-in-SequenceEnumeration.ensures.value

pub returns-in-MakeTuple : goal.returns-in-MakeTuple
returns-in-MakeTuple c =
    λ setting scope. ap (check (spec_in setting) scope) (ap view_of c.in-MakeTuple.is ∙ view-MakeTuple _ _) ∙ tuple_parts setting scope c.as_slice-in-MakeTuple.result _ _ c.parts_as-in-MakeTuple.result c.parts_as-in-MakeTuple.ensures c.as_slice-in-MakeTuple.ensures.value

pub returns-in-MakeToken : goal.returns-in-MakeToken
returns-in-MakeToken c =
    λ setting scope. ap (check (spec_in setting) scope) (ap view_of c.in-MakeToken.is ∙ view-MakeToken _ _) ∙ token_parts setting scope _ _ c.parts_as-in-MakeToken.result c.parts_as-in-MakeToken.ensures

pub returns-in-ModifyRecord : goal.returns-in-ModifyRecord
returns-in-ModifyRecord c =
    λ setting scope. ap (check (spec_in setting) scope) (ap view_of c.in-ModifyRecord.is ∙ view-ModifyRecord _ _ _) ∙ modified_parts setting scope _ _ _ c.parts_as-in-ModifyRecord.result c.parts_as-in-ModifyRecord.ensures

pub returns-in-IsOfBasic : goal.returns-in-IsOfBasic
returns-in-IsOfBasic c =
    λ setting scope. ap (check (spec_in setting) scope) (ap view_of c.in-IsOfBasic.is ∙ view-IsOfBasic _ _ _) ∙ basic_parts setting scope _ _ _ c.parts_as-in-IsOfBasic.result c.parts_as-in-IsOfBasic.ensures

pub returns-in-SameClass : goal.returns-in-SameClass
returns-in-SameClass c =
    λ setting scope. ap (check (spec_in setting) scope) (ap view_of c.in-SameClass.is ∙ view-SameClass _ _ _) ∙ same_class_parts setting scope _ _ _ c.parts_as-in-SameClass.result c.parts_as-in-SameClass.ensures

pub returns-in-SameBaseClass : goal.returns-in-SameBaseClass
returns-in-SameBaseClass c =
    λ setting scope. ap (check (spec_in setting) scope) (ap view_of c.in-SameBaseClass.is ∙ view-SameBaseClass _ _ _) ∙ same_base_class_parts setting scope _ _ _ c.parts_as-in-SameBaseClass.result c.parts_as-in-SameBaseClass.ensures

pub returns-in-Subsequence : goal.returns-in-Subsequence
returns-in-Subsequence c =
    λ setting scope. ap (check (spec_in setting) scope) (ap view_of c.in-Subsequence.is ∙ view-Subsequence _ _ _ _) ∙ subsequence_parts setting scope _ _ _ _ c.parts_as-in-Subsequence.result c.parts_as-in-Subsequence.ensures

pub returns-in-SelectPart : goal.returns-in-SelectPart
returns-in-SelectPart c =
    let same : to_z w128 (of_z w128 c.in-SelectPart.number) ≡ c.in-SelectPart.number = search (rules, to_z-of_z) in
    λ setting scope. ap (check (spec_in setting) scope) (ap view_of c.in-SelectPart.is ∙ view-SelectPart _ _ _)
    ∙ (λ i. check (spec_in setting) scope (select_part (view_of c.in-SelectPart.target.value) (sym same i) c.in-SelectPart.field-2))
    ∙ select_parts setting scope _ _ c.in-SelectPart.field-2 c.parts_as-in-SelectPart.result c.parts_as-in-SelectPart.ensures
