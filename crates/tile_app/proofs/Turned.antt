-- The lines of the tiles round a vertex, and why the turn, and a listing, are refused.
use Rattle.std.proofs.Common.{◌≡◌, ℕ, ◌+◌, ◌<◌, List, [], ◌∷◌, ◌++◌, length, map, take, get_or, Result, Err, IfErr, sym, ap, ◌∙◌, subst}
use Rattle.std.specs.List.{flat_map}
use Rattle.std.proofs.lemmas.List.{take_more, flat_map_more, map-append}
use Rattle.theory_walks.specs.Frames.{FrameValue, GrowsTo}
use Rattle.list_verify.specs.declared.list_fault.ListFault.{ListFault}
use Rattle.list_verify.specs.declared.list_fault.ListFault.TheVariants as listing
use Rattle.list_verify.specs.Verdict as listed
use Rattle.plane_geom.specs.declared.window.Window.{Window}
use Rattle.rule_model.specs.Tiling.{Tiling}
use Rattle.star_walk.specs.declared.corner.Corner.{Corner}
use Rattle.star_walk.specs.declared.star_fault.StarFault.{StarFault}
use Rattle.star_walk.specs.declared.star_fault.StarFault.TheVariants.{DepthLimit, TooBig}
use Rattle.star_walk.specs.Causes.{HasStarCause}
use Rattle.star_walk.specs.Corners.{corner_in}
use Rattle.call_notes.specs.declared.status.Status.{Status}
use Rattle.tile_app.specs.Star.{corner_line, PassesStarLimits, StarRefuses}
use Rattle.call_notes.specs.Status.{OrNoMemory}
use Rattle.call_notes.specs.FaultStatus.{status_of_star, status_of_list}
use Rattle.tile_app.specs.Verify.{VerifyRefuses}

-- one line more
pub corners-more : (t : Tiling) (cs : List Corner) (i : ℕ) (k : Corner) (text new : List ℕ) → i < length cs → k ≡ get_or cs i k
    → text ≡ flat_map (corner_line t) (map (corner_in t.order) (take i cs)) → new ≡ text ++ corner_line t (corner_in t.order k)
    → new ≡ flat_map (corner_line t) (map (corner_in t.order) (take (i + 1) cs))
corners-more t cs i k text new l is so_far e =
    e ∙ ap (λ xs. xs ++ corner_line t (corner_in t.order k)) so_far
    ∙ flat_map_more (corner_line t) [] (map (corner_in t.order) (take i cs)) (corner_in t.order k)
    ∙ ap (flat_map (corner_line t)) (sym (map-append (corner_in t.order) (take i cs) (k ∷ []))
    ∙ ap (map (corner_in t.order)) (ap (λ y. take i cs ++ y ∷ []) is ∙ sym (take_more cs i k l)))

-- a fault of the turn is refused for its cause
pub turning_ends : (t : Tiling) (f : FrameValue) (vertex : ℕ) (passes : PassesStarLimits t f vertex) (frame : FrameValue) → GrowsTo t f frame
    → (fault : StarFault) → HasStarCause t frame vertex fault → OrNoMemory (StarRefuses t f vertex) (status_of_star fault)
turning_ends t f vertex passes frame grown (DepthLimit addr edge) cause = record { passes = passes; frame = frame; grown = grown; cause = cause }
turning_ends t f vertex passes frame grown TooBig cause = record { passes = passes; frame = frame; grown = grown; cause = cause }

-- and so is a fault of a listing
module _ (t : Tiling) (f : FrameValue) (window : Window) (file : List ℕ) where
  listing_fault : (frame : FrameValue) → GrowsTo t f frame → (fault : ListFault) → listed.HasCause t f frame window file fault
      → OrNoMemory (VerifyRefuses t f window file) (status_of_list fault)
  listing_fault frame grown listing.NoMemory cause = tt
  listing_fault frame grown fault cause = record { frame = frame; grown = grown; cause = cause }

  pub listing_refused : {T U : Type 0} (g : FrameValue) → GrowsTo t f g → (answer : Result T ListFault) (fault : ListFault) → answer ≡ Err fault
      → IfErr answer (λ e. listed.HasCause t f g window file e) → (r : Result U Status) (s : Status)
      → r ≡ Err s → s ≡ status_of_list fault → IfErr r (OrNoMemory (VerifyRefuses t f window file))
  listing_refused g grown answer fault was cause r s e same =
      let here : listed.HasCause t f g window file fault = subst (λ a. IfErr a (λ e. listed.HasCause t f g window file e)) was cause in
      let refused = listing_fault g grown fault here in
      subst (λ x. IfErr x (OrNoMemory (VerifyRefuses t f window file))) (sym e)
      (subst (OrNoMemory (VerifyRefuses t f window file)) (sym same) refused)
