-- What main asks for prints, the time and tests of classes, worked out.
use Rattle.std.proofs.Common.{◌++◌, [], false, refl, true}
use Rattle.abstract_syntax.specs.Values.{boolean}
use Rattle.value_operators.specs.Outcomes.{sized}
use Rattle.plans.specs.Plans.{meaning}
use Rattle.vdm_meaning.specs.Worked.{AreSaid}
use Rattle.vdm_meaning.specs.WorkedPrints.{base, sub, two_classes, said_before, printed, said_printed, printed_line, said_line, printed_through, said_through, told, said_told, sub_is_base, base_is_sub, sub_has_base, sub_is_no_base, said_of, not_the_same, the_same_base, no_object, said_of_both, said_of_none}

pub printed-said : AreSaid two_classes printed 2 [] (said_before ++ said_printed)
unfolding meaning sized
printed-said = (refl, (refl, (refl, (refl, (refl, refl)))))

pub line-said : AreSaid two_classes printed_line 2 [] (said_before ++ said_line)
unfolding meaning sized
line-said = (refl, (refl, (refl, (refl, (refl, refl)))))

pub through-said : AreSaid two_classes printed_through 3 [] (said_before ++ said_through)
unfolding meaning sized
through-said = (refl, (refl, (refl, (refl, (refl, (refl, refl))))))

pub told-said : AreSaid two_classes told 3 [] (said_before ++ said_told)
unfolding meaning sized
told-said = (refl, (refl, (refl, (refl, (refl, refl)))))

pub sub_is_base-said : AreSaid two_classes sub_is_base 2 [] (said_before ++ said_of sub (boolean true))
unfolding meaning sized
sub_is_base-said = (refl, (refl, (refl, (refl, (refl, refl)))))

pub base_is_sub-said : AreSaid two_classes base_is_sub 2 [] (said_before ++ said_of base (boolean false))
unfolding meaning sized
base_is_sub-said = (refl, (refl, (refl, (refl, (refl, refl)))))

pub sub_has_base-said : AreSaid two_classes sub_has_base 2 [] (said_before ++ said_of sub (boolean true))
unfolding meaning sized
sub_has_base-said = (refl, (refl, (refl, (refl, (refl, refl)))))

pub sub_is_no_base-said : AreSaid two_classes sub_is_no_base 2 [] (said_before ++ said_of sub (boolean false))
unfolding meaning sized
sub_is_no_base-said = (refl, (refl, (refl, (refl, (refl, refl)))))

pub not_the_same-said : AreSaid two_classes not_the_same 3 [] (said_before ++ said_of_both (boolean false))
unfolding meaning sized
not_the_same-said = (refl, (refl, (refl, (refl, (refl, (refl, refl))))))

pub the_same_base-said : AreSaid two_classes the_same_base 3 [] (said_before ++ said_of_both (boolean true))
unfolding meaning sized
the_same_base-said = (refl, (refl, (refl, (refl, (refl, (refl, refl))))))

pub no_object-said : AreSaid two_classes no_object 3 [] (said_before ++ said_of_none)
unfolding meaning sized
no_object-said = (refl, (refl, (refl, (refl, refl))))
