-- How the fault of a list of tiles is spelt.
use Rattle.std.specs.Prelude.{ℕ, List, ◌∷◌, ◌++◌, codes, decimal}
use Rattle.cyclo_points.specs.Text.{motion_text, point_text, blank}
use Rattle.tile_shape.specs.FaultText.{address_fault_text}
use Rattle.tile_shape.specs.Text.{address_text}
use Rattle.tile_shape.specs.Views.{address_of}
use Rattle.list_verify.specs.declared.list_fault.ListFault.{ListFault}
use Rattle.list_verify.specs.declared.list_fault.ListFault.TheVariants.{TooLong, BadLine, Address, BadKind, NotOfFrame, Double, Missing, WrongPlace, Stray, DepthLimit, CoordLimit, NoMemory}

-- its name, and each field after a space
abbrev pub list_fault_text : ListFault → List ℕ
list_fault_text TooLong = codes "TooLong"
list_fault_text (BadLine line place) = codes "BadLine " ++ decimal line ++ blank ∷ decimal place
list_fault_text (Address line fault) = codes "Address " ++ decimal line ++ blank ∷ address_fault_text fault
list_fault_text (BadKind line) = codes "BadKind " ++ decimal line
list_fault_text (NotOfFrame line) = codes "NotOfFrame " ++ decimal line
list_fault_text (Double line) = codes "Double " ++ decimal line
list_fault_text (Missing addr) = codes "Missing " ++ address_text (address_of addr)
list_fault_text (WrongPlace line motion) = codes "WrongPlace " ++ decimal line ++ blank ∷ motion_text motion
list_fault_text (Stray line) = codes "Stray " ++ decimal line
list_fault_text (DepthLimit addr edge) = codes "DepthLimit " ++ address_text (address_of addr)
    ++ blank ∷ decimal edge
list_fault_text (CoordLimit value) = codes "CoordLimit " ++ point_text value
list_fault_text NoMemory = codes "NoMemory"
