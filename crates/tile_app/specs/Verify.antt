-- What `verify` prints for a list of the tiles of a window, and what it refuses.
use Rattle.std.specs.Prelude.{◌≡◌, ℕ, List, [], ◌∷◌, ◌++◌, codes, decimal}
use Rattle.builtin_rules.specs.declared.name.Name.{Name}
use Rattle.cyclo_points.specs.Text.{newline}
use Rattle.theory_walks.specs.Frames.{FrameValue, IsFrameOf, GrowsTo}
use Rattle.list_verify.specs.declared.list_fault.ListFault.{ListFault}
use Rattle.list_verify.specs.declared.list_fault.ListFault.TheVariants as listing
use Rattle.list_verify.specs.Listing.{IsVerified}
use Rattle.list_verify.specs.OneVerdict.{HasOneVerdict}
use Rattle.list_verify.specs.Verdict.{HasCause}
use Rattle.plane_geom.specs.declared.window.Window.{Window}
use Rattle.rule_model.specs.Tiling.{Tiling}
use Rattle.window_cover.specs.Windows.{IsWindow}
use Rattle.call_notes.specs.declared.status.Status.{Status}
use Rattle.call_notes.specs.declared.status.Status.TheVariants.{BadListing, DepthLimit, CoordLimit}
use Rattle.tile_app.specs.Tilings.{builtin_tiling}

-- the line of a list of so many lines that is right
abbrev pub right_line : ℕ → List ℕ
right_line lines = codes "right " ++ decimal lines ++ newline ∷ []

-- the file is the list of the window in the frame, of so many lines, and the text says so
abbrev pub PrintsVerify : Tiling → FrameValue → Window → List ℕ → List ℕ → Type 0
PrintsVerify t f window file text = (lines : ℕ) × IsVerified t f window file lines × (text ≡ right_line lines)

abbrev pub CanVerify : Tiling → FrameValue → Window → List ℕ → Type 0
CanVerify t f window file = (lines : ℕ) × IsVerified t f window file lines

-- the cause of a fault of the file, in the frame as it had grown by then
pub record HasListFault (t : Tiling) (f : FrameValue) (window : Window) (file : List ℕ)
    (fault : ListFault) : Type 0 where
  pub frame : FrameValue
  pub grown : GrowsTo t f frame
  pub cause : HasCause t f frame window file fault

-- the cause of each refusal
abbrev pub VerifyRefuses : Tiling → FrameValue → Window → List ℕ → Status → Type 0
VerifyRefuses t f window file (DepthLimit addr edge) =
    HasListFault t f window file (listing.DepthLimit addr edge)
VerifyRefuses t f window file (CoordLimit value) = HasListFault t f window file (listing.CoordLimit value)
VerifyRefuses t f window file (BadListing (listing.DepthLimit addr edge)) = ⊥
VerifyRefuses t f window file (BadListing (listing.CoordLimit value)) = ⊥
VerifyRefuses t f window file (BadListing listing.NoMemory) = ⊥
VerifyRefuses t f window file (BadListing fault) = HasListFault t f window file fault
VerifyRefuses t f window file _ = ⊥

-- a list of a window has one verdict, in a frame of the tiling
abbrev pub OneVerdictIn : Tiling → Type 0
OneVerdictIn t = (f : FrameValue) (w : Window) (listing : List ℕ) → IsFrameOf t f → IsWindow w
    → HasOneVerdict t f w listing

-- in the tilings of the built-in rules, each list has one verdict
abbrev pub BuiltinVerdictLaw : Type 0
BuiltinVerdictLaw = (name : Name) → OneVerdictIn (builtin_tiling name)
