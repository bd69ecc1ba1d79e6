-- How the fault of a script is spelt.
use Rattle.std.specs.Prelude.{List, ℕ, ◌++◌, codes, decimal}
use Rattle.cyclo_points.specs.Text.{point_text}
use Rattle.tile_shape.specs.FaultText.{address_fault_text}
use Rattle.addr_calc.specs.declared.calc_fault.CalcFault.{CalcFault}
use Rattle.addr_calc.specs.declared.calc_fault.CalcFault.TheVariants.{BadLine, UnknownName, Address, NoEdge, Outside, CoordLimit, NoMemory}

-- its name, and each field after a space
abbrev pub calc_fault_text : CalcFault → List ℕ
calc_fault_text (BadLine line place) = codes "BadLine " ++ decimal line ++ codes " " ++ decimal place
calc_fault_text (UnknownName line) = codes "UnknownName " ++ decimal line
calc_fault_text (Address line fault) = codes "Address " ++ decimal line ++ codes " "
    ++ address_fault_text fault
calc_fault_text (NoEdge line) = codes "NoEdge " ++ decimal line
calc_fault_text (Outside line edge part) = codes "Outside " ++ decimal line ++ codes " " ++ decimal edge
    ++ codes " " ++ decimal part
calc_fault_text (CoordLimit line value) = codes "CoordLimit " ++ decimal line ++ codes " " ++ point_text value
calc_fault_text NoMemory = codes "NoMemory"
