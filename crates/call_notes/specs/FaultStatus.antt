-- The status of each fault of a call below.
use Rattle.list_verify.specs.declared.list_fault.ListFault.{ListFault}
use Rattle.list_verify.specs.declared.list_fault.ListFault.TheVariants as listing
use Rattle.rule_text.specs.declared.text_fault.TextFault.{TextFault}
use Rattle.rule_text.specs.declared.text_fault.TextFault.TheVariants as text
use Rattle.dissect_check.specs.declared.check_fault.CheckFault.{CheckFault}
use Rattle.dissect_check.specs.declared.check_fault.CheckFault.TheVariants as check
use Rattle.call_notes.specs.declared.rule_fault.RuleFault.TheVariants.{Text, Check}
use Rattle.call_notes.specs.declared.script_fault.ScriptFault.TheVariants.{Calc}
use Rattle.call_notes.specs.declared.status.Status.{Status}
use Rattle.call_notes.specs.declared.status.Status.TheVariants.{RuleRefused, NoEdge, DepthLimit, CoordLimit, TooManyTiles, StarTooBig, BadScript, BadListing, NoMemory}
use Rattle.lazy_walk.specs.declared.path_fault.PathFault.{PathFault}
use Rattle.lazy_walk.specs.declared.path_fault.PathFault.TheVariants as walking
use Rattle.window_cover.specs.declared.cover_fault.CoverFault.{CoverFault}
use Rattle.window_cover.specs.declared.cover_fault.CoverFault.TheVariants as covering
use Rattle.half_glue.specs.declared.glue_fault.GlueFault.{GlueFault}
use Rattle.half_glue.specs.declared.glue_fault.GlueFault.TheVariants as gluing
use Rattle.star_walk.specs.declared.star_fault.StarFault.{StarFault}
use Rattle.star_walk.specs.declared.star_fault.StarFault.TheVariants as turning
use Rattle.addr_calc.specs.declared.calc_fault.CalcFault.{CalcFault}
use Rattle.addr_calc.specs.declared.calc_fault.CalcFault.TheVariants as calculating

-- of a fault of the text of a rule file
abbrev pub status_of_text : TextFault → Status
status_of_text text.NoMemory = NoMemory
status_of_text e = RuleRefused (Text e)

-- of a fault of a rule
abbrev pub status_of_check : CheckFault → Status
status_of_check check.NoMemory = NoMemory
status_of_check e = RuleRefused (Check e)

-- of a fault on a path
abbrev pub status_of_path : PathFault → Status
status_of_path (walking.NoEdge edge edges) = NoEdge edge edges
status_of_path (walking.DepthLimit limit) = DepthLimit limit.addr limit.edge

-- of a fault on a window
abbrev pub status_of_cover : CoverFault → Status
status_of_cover (covering.DepthLimit addr edge) = DepthLimit addr edge
status_of_cover (covering.CoordLimit value) = CoordLimit value
status_of_cover covering.TooManyTiles = TooManyTiles
status_of_cover covering.NoMemory = NoMemory

-- of a fault on whole tiles
abbrev pub status_of_glue : GlueFault → Status
status_of_glue (gluing.DepthLimit addr edge) = DepthLimit addr edge
status_of_glue (gluing.CoordLimit value) = CoordLimit value
status_of_glue gluing.NoMemory = NoMemory

-- of a fault on the tiles around a vertex
abbrev pub status_of_star : StarFault → Status
status_of_star (turning.DepthLimit addr edge) = DepthLimit addr edge
status_of_star turning.TooBig = StarTooBig

-- of a fault of a script
abbrev pub status_of_calc : CalcFault → Status
status_of_calc calculating.NoMemory = NoMemory
status_of_calc e = BadScript (Calc e)

-- of a fault of a list of tiles
abbrev pub status_of_list : ListFault → Status
status_of_list (listing.DepthLimit addr edge) = DepthLimit addr edge
status_of_list (listing.CoordLimit value) = CoordLimit value
status_of_list listing.NoMemory = NoMemory
status_of_list e = BadListing e
