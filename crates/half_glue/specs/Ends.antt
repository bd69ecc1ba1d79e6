-- How a call ends that glues tiles, or joins one with its other half. The frame was f, and is g.
use Rattle.std.specs.Prelude.{◌≡◌, ◌⊎◌, ℕ, ◌<◌, ◌≤◌, List, [], ◌∷◌, length, Result, Err, IsOk, IfOk, IfErr, OnOk}
use Rattle.rule_model.specs.Tiling.{Tiling}
use Rattle.tile_place.specs.declared.placed_tile.PlacedTile.{PlacedTile}
use Rattle.theory_walks.specs.Ancestors.{full}
use Rattle.theory_walks.specs.Frames.{FrameValue, GrowsTo}
use Rattle.half_glue.specs.declared.glue_fault.GlueFault.{GlueFault}
use Rattle.half_glue.specs.declared.glue_fault.GlueFault.TheVariants.{NoMemory}
use Rattle.half_glue.specs.declared.half.Found.{Found}
use Rattle.half_glue.specs.Causes.{HasGlueCause}
use Rattle.half_glue.specs.Depth.{IsTooShallow, IsLeastForGlue}
use Rattle.half_glue.specs.Found.{IsJoined, given_tile}
use Rattle.half_glue.specs.Limits.{CanBeGlued, CanBeJoined}

-- At each depth that the frame grew past, the tile has its glue edge on the boundary. The call succeeds if
-- the tile can be joined, and fails only for a cause.
pub record JoinsTo {A : Type 0} (t : Tiling) (f g : FrameValue) (x : PlacedTile)
    (result : Result A GlueFault) : Type 0 where
  pub frame : GrowsTo t f g
  pub least : (n : ℕ) → length f.digits ≤ n → n < length g.digits → IsTooShallow t f (x ∷ []) n
  pub answered : CanBeJoined t (full t f) x → IsOk result
  pub cause : IfErr result (λ fault. HasGlueCause t f g (x ∷ []) fault)

-- The call joins the tile x so, and what it finds of it is right.
pub record FindsHalf (t : Tiling) (f g : FrameValue) (tiles : List PlacedTile) (x : PlacedTile)
    (result : Result Found GlueFault) : Type 0 where
  pub ends : JoinsTo t f g x result
  pub joined : IfOk result (IsJoined t f g tiles x)

-- this holds for tile number n of these
abbrev pub Finds : Tiling → FrameValue → FrameValue → List PlacedTile → ℕ → Result Found GlueFault → Type 0
Finds t f g tiles n result = FindsHalf t f g tiles (given_tile tiles n) result

-- it holds whatever the tiles are
abbrev pub FindsAcross : Tiling → FrameValue → FrameValue → PlacedTile → Result Found GlueFault → Type 0
FindsAcross t f g x result = (tiles : List PlacedTile) → FindsHalf t f g tiles x result

-- The frame grows to the least depth that is enough, and past none that is. Unless memory runs out, the call
-- succeeds exactly if the tiles can be glued. It fails only for a cause.
pub record GluesTo {A : Type 0} (t : Tiling) (f g : FrameValue) (tiles : List PlacedTile)
    (result : Result A GlueFault) : Type 0 where
  pub frame : GrowsTo t f g
  pub not_beyond : (n : ℕ) → length f.digits ≤ n → n < length g.digits → IsTooShallow t f tiles n
  pub least : OnOk result (IsLeastForGlue t f tiles (length g.digits))
  pub within : OnOk result (CanBeGlued t f tiles)
  pub answered : CanBeGlued t f tiles → (result ≡ Err NoMemory) ⊎ IsOk result
  pub cause : IfErr result (λ fault. HasGlueCause t f g tiles fault)
