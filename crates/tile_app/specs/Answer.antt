-- What a request prints and refuses, by its cases.
use Rattle.std.specs.Prelude.{◌≡◌, ℕ, List}
use Rattle.theory_addresses.specs.Address.{Address}
use Rattle.call_words.specs.Request.{Request}
use Rattle.call_words.specs.Request.Request.{Place, Neighbour, Walk, Draw, Check, Calc, Drill, Star, Verify}
use Rattle.list_verify.specs.Verdict.{LacksTiles}
use Rattle.rule_model.specs.Tiling.{Tiling}
use Rattle.call_notes.specs.declared.status.Status.{Status}
use Rattle.call_notes.specs.declared.status.Status.TheVariants.{BadAddress}
use Rattle.tile_app.specs.BaseFrame.{frame_of}
use Rattle.tile_app.specs.Calc.{CanCalculate, PrintsCalc, CalcRefuses}
use Rattle.tile_app.specs.Call.{Call, Asks}
use Rattle.tile_app.specs.Check.{check_line}
use Rattle.tile_app.specs.Draw.{PrintsDraw, PassesLimits, DrawRefuses}
use Rattle.tile_app.specs.Drill.{PrintsDrill}
use Rattle.tile_app.specs.Glue.{IsWithinTheirLimits}
use Rattle.tile_app.specs.Neighbour.{IsInside, PrintsNeighbour, NeighbourRefuses}
use Rattle.tile_app.specs.Place.{CanBePlaced, PrintsPlace, PlaceRefuses}
use Rattle.tile_app.specs.Star.{HasStar, PrintsStar, PassesStarLimits, StarRefuses}
use Rattle.call_notes.specs.Status.{IsLimit}
use Rattle.tile_app.specs.Tile.{OfTile, IsNoTile}
use Rattle.tile_app.specs.Verify.{CanVerify, PrintsVerify, VerifyRefuses}
use Rattle.tile_app.specs.Walk.{CanWalk, PrintsWalk, WalkRefuses}
use Rattle.tile_app.specs.Windows.{window_asked}

-- a request prints this text, with the file that is read and a tiling
abbrev pub IsPrinted : Request → List ℕ → Tiling → List ℕ → Type 0
IsPrinted (Place rule addr) file t text = OfTile t addr (λ a. PrintsPlace t a text)
IsPrinted (Neighbour rule addr edge) file t text = OfTile t addr (λ a. PrintsNeighbour t a edge text)
IsPrinted (Walk rule addr seed grow path) file t text =
    OfTile t addr (λ a. PrintsWalk t (frame_of a seed) grow path text)
IsPrinted (Draw rule addr seed window layers glue) file t text =
    OfTile t addr (λ a. PrintsDraw glue layers t (frame_of a seed) (window_asked t.order window) text)
IsPrinted (Check rule) file t text = text ≡ check_line t
IsPrinted (Calc name) file t text = PrintsCalc file t text
IsPrinted (Drill rule count seed) file t text = PrintsDrill t seed count text
IsPrinted (Star rule addr seed vertex) file t text =
    OfTile t addr (λ a. PrintsStar t (frame_of a seed) vertex text)
IsPrinted (Verify name addr seed window) file t text =
    OfTile t addr (λ a. PrintsVerify t (frame_of a seed) (window_asked t.order window) file text)

-- a request has something to print, with the file that is read and a tiling
abbrev pub HasAnswer : Request → List ℕ → Tiling → Type 0
HasAnswer (Place rule addr) file t = OfTile t addr (CanBePlaced t)
HasAnswer (Neighbour rule addr edge) file t = OfTile t addr (λ a. IsInside t a edge)
HasAnswer (Walk rule addr seed grow path) file t = OfTile t addr (λ a. CanWalk t (frame_of a seed) path)
HasAnswer (Draw rule addr seed window layers glue) file t =
    OfTile t addr (λ a. IsWithinTheirLimits glue t (frame_of a seed) (window_asked t.order window))
HasAnswer (Check rule) file t = Unit {0}
HasAnswer (Calc name) file t = CanCalculate file t
HasAnswer (Drill rule count seed) file t = Unit {0}
HasAnswer (Star rule addr seed vertex) file t = OfTile t addr (λ a. HasStar t (frame_of a seed) vertex)
HasAnswer (Verify name addr seed window) file t =
    OfTile t addr (λ a. CanVerify t (frame_of a seed) (window_asked t.order window) file)

-- why a request for a tile is refused: the text is not the address of a tile, or the request of the tile is
-- refused
abbrev pub TileRefuses : Tiling → List ℕ → (Address → Status → Type 0) → Status → Type 0
TileRefuses t addr P (BadAddress fault) = IsNoTile t addr fault
TileRefuses t addr P status = OfTile t addr (λ a. P a status)

-- why a request is refused with a status, with the file that is read and a tiling; `check` and `drill` refuse
-- nothing
abbrev pub Refuses : Request → List ℕ → Tiling → Status → Type 0
Refuses (Place rule addr) file t status = TileRefuses t addr (PlaceRefuses t) status
Refuses (Neighbour rule addr edge) file t status = TileRefuses t addr (λ a. NeighbourRefuses t a edge) status
Refuses (Walk rule addr seed grow path) file t status =
    TileRefuses t addr (λ a. WalkRefuses t (frame_of a seed) path) status
Refuses (Draw rule addr seed window layers glue) file t status =
    TileRefuses t addr (λ a. DrawRefuses glue t (frame_of a seed) (window_asked t.order window)) status
Refuses (Check rule) file t status = ⊥
Refuses (Calc name) file t status = CalcRefuses file t status
Refuses (Drill rule count seed) file t status = ⊥
Refuses (Star rule addr seed vertex) file t status =
    TileRefuses t addr (λ a. StarRefuses t (frame_of a seed) vertex) status
Refuses (Verify name addr seed window) file t status =
    TileRefuses t addr (λ a. VerifyRefuses t (frame_of a seed) (window_asked t.order window) file) status

-- the status is a limit of the request: of the window of `draw`, the vertex of `star`, or the list of
-- `verify`
abbrev pub IsLimitOf : Request → Status → Type 0
IsLimitOf (Draw rule addr seed window layers glue) status = IsLimit status
IsLimitOf (Star rule addr seed vertex) status = IsLimit status
IsLimitOf (Verify name addr seed window) status = IsLimit status
IsLimitOf _ status = ⊥

-- the request's window or vertex passes a limit in a tiling, or the list that is read omits a tile
abbrev pub IsBeyond : Request → List ℕ → Tiling → Type 0
IsBeyond (Draw rule addr seed window layers glue) file t =
    OfTile t addr (λ a. PassesLimits glue t (frame_of a seed) (window_asked t.order window))
IsBeyond (Star rule addr seed vertex) file t =
    OfTile t addr (λ a. PassesStarLimits t (frame_of a seed) vertex)
IsBeyond (Verify name addr seed window) file t =
    OfTile t addr (λ a. LacksTiles t (frame_of a seed) (window_asked t.order window) file)
IsBeyond _ file t = ⊥

-- the arguments are right, and this holds of their request, the file and the tiling
pub record OfRequest (P : Request → List ℕ → Tiling → Type 0) (c : Call) : Type 0 where
  pub request : Request
  pub tiling : Tiling
  pub asks : Asks c request tiling
  pub holds : P request c.file tiling

-- the call prints this text
abbrev pub Prints : Call → List ℕ → Type 0
Prints c text = OfRequest (λ q file t. IsPrinted q file t text) c

-- the call has a text to print
abbrev pub CanBeAnswered : Call → Type 0
CanBeAnswered c = OfRequest HasAnswer c

-- the call asks for a window or a vertex beyond its limits, or for a list that omits a tile
abbrev pub IsBeyondLimits : Call → Type 0
IsBeyondLimits c = OfRequest IsBeyond c
