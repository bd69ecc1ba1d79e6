-- How the fault of a rule is spelt.
use Rattle.std.specs.Prelude.{ℕ, List, ◌++◌, codes, decimal}
use Rattle.dissect_check.specs.declared.what.What.{What}
use Rattle.dissect_check.specs.declared.what.What.TheVariants.{Kinds, Types, Factor, Glue, Mate, Parts, Edges, Vertex, Child}
use Rattle.dissect_check.specs.declared.check_fault.CheckFault.{CheckFault}
use Rattle.dissect_check.specs.declared.check_fault.CheckFault.TheVariants.{TooMany, NotStar, WrongFactor, BadMate, BadLength, BadSubdivision, ChildEdgeLoose, BoundaryWrong, Unused, GlueWrong, NoMemory}

-- what is beyond a limit
abbrev pub what_text : What → List ℕ
what_text Kinds = codes "kinds"
what_text Types = codes "types"
what_text Factor = codes "factor"
what_text Glue = codes "glue"
what_text (Mate ty) = codes "mate " ++ decimal ty
what_text (Parts ty) = codes "parts " ++ decimal ty
what_text (Edges kind) = codes "edges " ++ decimal kind
what_text (Vertex kind) = codes "vertex " ++ decimal kind
what_text (Child kind) = codes "child " ++ decimal kind

-- its name, and each field after a space
abbrev pub check_fault_text : CheckFault → List ℕ
check_fault_text (TooMany what) = codes "TooMany " ++ what_text what
check_fault_text (NotStar kind) = codes "NotStar " ++ decimal kind
check_fault_text WrongFactor = codes "WrongFactor"
check_fault_text (BadMate ty) = codes "BadMate " ++ decimal ty
check_fault_text (BadLength kind edge) = codes "BadLength " ++ decimal kind ++ codes " " ++ decimal edge
check_fault_text (BadSubdivision ty) = codes "BadSubdivision " ++ decimal ty
check_fault_text (ChildEdgeLoose kind child edge) = codes "ChildEdgeLoose " ++ decimal kind ++ codes " "
    ++ decimal child ++ codes " " ++ decimal edge
check_fault_text (BoundaryWrong kind edge part) = codes "BoundaryWrong " ++ decimal kind ++ codes " "
    ++ decimal edge ++ codes " " ++ decimal part
check_fault_text (Unused kind) = codes "Unused " ++ decimal kind
check_fault_text (GlueWrong ty) = codes "GlueWrong " ++ decimal ty
check_fault_text NoMemory = codes "NoMemory"
