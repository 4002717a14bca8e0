use Rattle.std.proofs.Common.{◌≡◌, ◌∙◌, ap, map, subst, sym, IfOk}
use Rattle.form_meaning.specs.Forms.{FormTree, FormTrees, only, tuple_alt}
use Rattle.class_checks.specs.Shapes.{ShapeTree, finished}
use Rattle.check_fields.specs.Below.check_scopes.specs.Told.{spec_in}
use Rattle.check_shapes.specs.ShapeView.{seen_view, shape_view}
use Rattle.check_shapes.proofs.finishing.form_of_node.Goals as goal

pub returns-in-Map : goal.returns-in-Map
returns-in-Map c =
    subst (λ (s : ShapeTree). IfOk c.of_map.result (λ f. f ≡ finished (spec_in c.args.setting) s (map seen_view c.args.done.now)))
    (sym (ap shape_view c.in-Map.is))
    (c.of_map.ensures (spec_in c.args.setting))

pub returns-in_ok-forms_seen-in-Tuple : goal.returns-in_ok-forms_seen-in-Tuple
returns-in_ok-forms_seen-in-Tuple c =
    subst (λ (t : FormTree). IfOk c.only.result (λ f. f ≡ t))
    (ap (λ (forms : FormTrees). only (tuple_alt forms)) (c.in_ok-forms_seen-in-Tuple.ensures)
    ∙ ap (λ (s : ShapeTree). finished (spec_in c.args.setting) s (map seen_view c.args.done.now)) (sym (ap shape_view c.in-Tuple.is)))
    c.only.ensures

pub returns-in-Subsequence : goal.returns-in-Subsequence
returns-in-Subsequence c =
    subst (λ (s : ShapeTree). IfOk c.of_subsequence.result (λ f. f ≡ finished (spec_in c.args.setting) s (map seen_view c.args.done.now)))
    (sym (ap shape_view c.in-Subsequence.is))
    (c.of_subsequence.ensures (spec_in c.args.setting))
