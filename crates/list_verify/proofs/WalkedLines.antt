-- The lines that a walk has found, by their numbers and by their tiles.
use Rattle.std.proofs.Common.{◌≡◌, ℕ, ◌≤◌, Bool, List, map, length, get_or, slice_get, Some, sym, ap, ◌∙◌, subst, arith}
use Rattle.std.proofs.lemmas.Option.{slice_get_within}
use Rattle.theory_addresses.specs.Address.{Address}
use Rattle.theory_addresses.specs.Search.{IsAmong}
use Rattle.theory_addresses.proofs.Lists.{AllByRecursion-among, IsAmong-map}
use Rattle.theory_addresses.proofs.Ranges.{among-place, place-among}
use Rattle.cyclo_points.specs.Order.{points_of}
use Rattle.cyclo_points.specs.Point.{IsOf}
use Rattle.theory_dissection.specs.Accepted.{AcceptedRule}
use Rattle.theory_walks.specs.Ancestors.{full}
use Rattle.theory_walks.specs.Frames.{FrameValue}
use Rattle.theory_walks.proofs.Walks.{StillFits}
use Rattle.listing_text.specs.declared.entry.Entry as program
use Rattle.listing_text.specs.Listing.{Entry}
use Rattle.listing_text.specs.Views.{entry_of}
use Rattle.plane_geom.specs.declared.window.Window.{Window}
use Rattle.rule_model.specs.declared.rule.Rule.{Rule}
use Rattle.rule_model.specs.Tiling.{Tiling, tiling_of, children}
use Rattle.theory_substitution.specs.Points.{Points}
use Rattle.tile_place.proofs.Plane.{IsSettled, its_rule}
use Rattle.tile_shape.specs.Views.{address_of}
use Rattle.theory_windows.specs.FramePatch.{in_frame}
use Rattle.theory_windows.proofs.Members.{among-map, no-more}
use Rattle.std.proofs.lemmas.List.{length-map}
use Rattle.window_cover.specs.Windows.{TileOf, IsWindow}
use Rattle.list_verify.specs.FoundLines.{entries_of, AreLinesIn, no_line, tile_of_line, tiles_listed_so_far, IsInPlace, AreFound}
use Rattle.list_verify.specs.Listing.{tile_listed, tiles_listed}
use Rattle.list_verify.specs.ListLaws.{HasListLaws}
use Rattle.list_verify.proofs.Chains.{get_or-at}
use Rattle.list_verify.proofs.Lines.{tile-is, one-tile}
use Rattle.list_verify.proofs.LineNumbers.{at-number}

module _ (m : Rule) (settled : IsSettled m) (fits : StillFits (children (tiling_of m)))
    (L : HasListLaws (points_of m.order)) (f : FrameValue) (w : Window) (fit : IsWindow w)
    (lines : List program.Entry) (are : AreLinesIn (tiling_of m) f lines) (numbers : List ℕ)
    (marks : List Bool) (found : AreFound (tiling_of m) f w lines numbers marks) where
  abbrev t : Tiling
  t = tiling_of m

  abbrev P : Points
  P = points_of m.order

  abbrev T : AcceptedRule P
  T = its_rule m settled

  abbrev F : Address
  F = full t f

  abbrev entries : List Entry
  entries = entries_of lines

  abbrev listing : List (TileOf t)
  listing = tiles_listed t entries

  abbrev tiles : List (TileOf t)
  tiles = tiles_listed_so_far t f lines numbers

  -- a line of the listing is one of the program, with its number
  pub record Numbered (x : TileOf t) : Type 0 where
    pub line : program.Entry
    pub number : ℕ
    pub is_line : slice_get lines number ≡ Some line
    pub is : x ≡ tile_listed t (entry_of line)

  pub numbered : (x : TileOf t) → IsAmong x listing → Numbered x
  numbered x i =
      let e = among-map (tile_listed t) x entries i in
      let o = among-map entry_of e.0 lines e.1 in
      let place = among-place o.0 lines o.1 in
      record { line = o.0; number = place.0; is_line = place.1; is = e.2 ∙ ap (tile_listed t) o.2 }

  -- its tile is found exactly where its number is
  pub tile-number : (line : program.Entry) (i : ℕ) → slice_get lines i ≡ Some line
      → IsAmong (in_frame P T.rule F (address_of line.address)) tiles → IsAmong i numbers
  tile-number line i at k =
      let j = among-map (tile_of_line t f lines) (in_frame P T.rule F (address_of line.address)) numbers k in
      let place = AllByRecursion-among (IsInPlace t f lines) j.0 numbers j.1 found.are_marked.in_place in
      subst (λ n. IsAmong n numbers) (one-tile m settled fits L f w fit lines are j.0 i place.below (slice_get_within lines i line at)
      (sym j.2 ∙ sym (tile-is m settled fits L f w fit lines are i line at))) j.1

  pub number-tile : (line : program.Entry) (i : ℕ) → slice_get lines i ≡ Some line → IsAmong i numbers
      → IsAmong (in_frame P T.rule F (address_of line.address)) tiles
  number-tile line i at k = subst (λ y. IsAmong y tiles)
      (tile-is m settled fits L f w fit lines are i line at)
      (IsAmong-map (tile_of_line t f lines) i numbers k)

  pub its_order : (line : program.Entry) (i : ℕ) → slice_get lines i ≡ Some line → IsAmong i numbers → IsOf m.order line.motion.shift
  its_order line i at k = subst (λ (e : program.Entry). IsOf m.order e.motion.shift) (get_or-at lines i line no_line at)
      (AllByRecursion-among (IsInPlace t f lines) i numbers k found.are_marked.in_place).in_order

  -- ---- no more lines are found than there are
  pub not-more : length numbers ≤ length lines
  not-more = few (no-more tiles (map (λ (e : program.Entry). in_frame P T.rule F (address_of e.address)) lines) found.walk.distinct each)
      (length-map numbers (tile_of_line t f lines)) (length-map lines (λ (e : program.Entry). in_frame P T.rule F (address_of e.address)))
    where
      each : (y : TileOf t) → IsAmong y tiles → IsAmong y (map (λ (e : program.Entry). in_frame P T.rule F (address_of e.address)) lines)
      each y k =
          let j = among-map (tile_of_line t f lines) y numbers k in
          let place = AllByRecursion-among (IsInPlace t f lines) j.0 numbers j.1 found.are_marked.in_place in
          let line = get_or lines j.0 no_line in
          subst (λ z. IsAmong z (map (λ (e : program.Entry). in_frame P T.rule F (address_of e.address)) lines)) (sym j.2)
          (IsAmong-map (λ (e : program.Entry). in_frame P T.rule F (address_of e.address)) line lines
          (place-among line lines j.0 (at-number lines j.0 place.below)))

      few : {a b c e : ℕ} → a ≤ b → a ≡ c → b ≡ e → c ≤ e
      few h k l = omega arith
