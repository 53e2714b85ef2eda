-- What a fault says of the checks that were made.
use Rattle.std.specs.Prelude.{◌≡◌, List, Some}
use Rattle.dom_checks.specs.declared.faults.CheckFault.{CheckFault}
use Rattle.dom_checks.specs.declared.faults.CheckFault.TheVariants as fault
use Rattle.dom_checks.specs.Walk.{Check, first_fault}

-- the fault is that of the first check that does not hold; of want of memory nothing is said
abbrev pub IsFirst : CheckFault → List Check → Type 0
IsFirst (fault.Twice p) checks = first_fault checks ≡ Some (fault.Twice p)
IsFirst (fault.UnknownName p) checks = first_fault checks ≡ Some (fault.UnknownName p)
IsFirst (fault.ShapeOfName p) checks = first_fault checks ≡ Some (fault.ShapeOfName p)
IsFirst (fault.BadIndex p) checks = first_fault checks ≡ Some (fault.BadIndex p)
IsFirst (fault.TwoIndexes p) checks = first_fault checks ≡ Some (fault.TwoIndexes p)
IsFirst (fault.IndexAssignedLater p) checks = first_fault checks ≡ Some (fault.IndexAssignedLater p)
IsFirst (fault.HashArgs p) checks = first_fault checks ≡ Some (fault.HashArgs p)
IsFirst (fault.TooLarge limit p) checks = first_fault checks ≡ Some (fault.TooLarge limit p)
IsFirst fault.Memory checks = Unit {0}
