-- Lines of a listing that are lifted to one depth.
use Rattle.std.specs.Prelude.{◌≡◌, ℕ, zero, suc, ◌+◌, ◌<◌, ◌^◌, List, [], ◌∷◌, map, length}
use Rattle.std.specs.List.{All, AllByRecursion}
use Rattle.theory_addresses.specs.Address.{Address, Fits}
use Rattle.theory_frames.specs.Frame.{IsTileOf, lifted_in}
use Rattle.rule_model.specs.Tiling.{Tiling, children}
use Rattle.theory_walks.specs.Frames.{FrameValue, IsFrameOf, GrowsTo}
use Rattle.tile_shape.specs.Views.{address_of}
use Rattle.listing_text.specs.declared.entry.Entry as program
use Rattle.listing_text.specs.Listing.{Entry}
use Rattle.theory_listings.specs.FrameListing.{deepest_listed}
use Rattle.theory_listings.specs.Lines.{IsFirstLine}
use Rattle.list_verify.specs.declared.list_fault.ListFault.{ListFault}
use Rattle.list_verify.specs.declared.list_fault.ListFault.TheVariants.{NotOfFrame}
use Rattle.list_verify.specs.Listing.{tiles_listed}

-- a line with its address lifted in a frame
abbrev pub entry_lifted : Address → Entry → Entry
entry_lifted f e = record { motion = e.motion; address = lifted_in f e.address }

-- the lines, with the first n lifted
abbrev pub first_lifted : Address → ℕ → List Entry → List Entry
first_lifted f zero entries = entries
first_lifted f (suc n) [] = []
first_lifted f (suc n) (e ∷ entries) = entry_lifted f e ∷ first_lifted f n entries

-- the depth to which lines grow a frame of depth m
abbrev pub deepest_entry : Tiling → ℕ → List Entry → ℕ
deepest_entry t m entries = deepest_listed m (tiles_listed t entries)

-- the frame is one of the tiling, and the lines are few and have addresses of its tiles
pub record CanAllBeLifted (t : Tiling) (f : FrameValue) (lines : List program.Entry) : Type 0 where
  pub frame : IsFrameOf t f
  pub fit : All (λ (line : program.Entry). Fits (children t) (address_of line.address)) lines
  pub few : length lines < 2 ^ 31

-- the frame has grown from f to g, to the greater of its depth and that of the deepest entry
pub record IsGrownToEntries (t : Tiling) (f g : FrameValue) (entries : List Entry) : Type 0 where
  pub grows : GrowsTo t f g
  pub depth : length g.digits ≡ deepest_entry t (length f.digits) entries

-- the lines are of the frame, and the others are the same lines, lifted in it
pub record AreLifted (kinds : List (List ℕ)) (f : Address) (entries lifted : List Entry) : Type 0 where
  pub of_frame : AllByRecursion (λ (e : Entry). IsTileOf kinds f e.address) entries
  pub are : lifted ≡ map (entry_lifted f) entries

-- the fault names the first line that is not of the frame
pub record IsStranger (kinds : List (List ℕ)) (f : Address) (entries : List Entry)
    (fault : ListFault) : Type 0 where
  pub number : ℕ
  pub is : fault ≡ NotOfFrame (number + 1)
  pub first : IsFirstLine (λ (e : Entry). ¬ IsTileOf kinds f e.address) entries number
