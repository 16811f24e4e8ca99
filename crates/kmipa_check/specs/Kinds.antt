-- The numbers of faults, and the kinds of those of a witness.
use Rattle.std.specs.Prelude.{ℕ, List, codes}
use Rattle.kmipa_check.specs.declared.fault.CheckFault.{CheckFault}
use Rattle.kmipa_check.specs.declared.fault.CheckFault.TheVariants.{Outside, Witness, Memory}
use Rattle.kmipa_check.specs.declared.fault.WitnessKind.{WitnessKind}
use Rattle.kmipa_check.specs.declared.fault.WitnessKind.TheVariants.{UnknownCall, Twice, LeftOut, FillNotWanted, FillMissing, FillForm, AnswerNotWanted, AnswerMissing, AnswerForm, OrderNotWanted, OrderForm, MomentForm, BirthNotWanted, BirthForm, AsideForm}

abbrev pub fault_number : CheckFault → ℕ
fault_number (Outside number side o) = 1
fault_number (Witness f) = 2
fault_number Memory = 3

abbrev pub kind_number : WitnessKind → ℕ
kind_number UnknownCall = 1
kind_number Twice = 2
kind_number LeftOut = 3
kind_number FillNotWanted = 4
kind_number FillMissing = 5
kind_number FillForm = 6
kind_number AnswerNotWanted = 7
kind_number AnswerMissing = 8
kind_number AnswerForm = 9
kind_number OrderNotWanted = 10
kind_number OrderForm = 11
kind_number MomentForm = 12
kind_number BirthNotWanted = 13
kind_number BirthForm = 14
kind_number AsideForm = 15

abbrev pub kind_name : WitnessKind → List ℕ
kind_name UnknownCall = codes "UnknownCall"
kind_name Twice = codes "Twice"
kind_name LeftOut = codes "LeftOut"
kind_name FillNotWanted = codes "FillNotWanted"
kind_name FillMissing = codes "FillMissing"
kind_name FillForm = codes "FillForm"
kind_name AnswerNotWanted = codes "AnswerNotWanted"
kind_name AnswerMissing = codes "AnswerMissing"
kind_name AnswerForm = codes "AnswerForm"
kind_name OrderNotWanted = codes "OrderNotWanted"
kind_name OrderForm = codes "OrderForm"
kind_name MomentForm = codes "MomentForm"
kind_name BirthNotWanted = codes "BirthNotWanted"
kind_name BirthForm = codes "BirthForm"
kind_name AsideForm = codes "AsideForm"
