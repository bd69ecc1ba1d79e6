-- A walk at its end.
use Rattle.std.proofs.Common.{◌≡◌, ℕ, ◌<◌, Bool, true, false, List, length, get_or, slice_get, Some, refl, sym, ap, ◌∙◌, subst, arith}
use Rattle.std.proofs.lemmas.Option.{slice_get_within}
use Rattle.theory_addresses.specs.Address.{Address, depth}
use Rattle.theory_addresses.specs.Search.{IsAmong}
use Rattle.theory_addresses.proofs.Lists.{AllByRecursion-from}
use Rattle.theory_addresses.proofs.Ranges.{among-place, slice_get-image}
use Rattle.cyclo_points.specs.Order.{points_of, is_refused}
use Rattle.cyclo_points.specs.Point.{IsOf}
use Rattle.theory_dissection.specs.Accepted.{AcceptedRule}
use Rattle.theory_frames.specs.Frame.{frame_tiles}
use Rattle.theory_walks.specs.Ancestors.{full}
use Rattle.theory_walks.specs.Frames.{FrameValue}
use Rattle.theory_walks.proofs.Walks.{StillFits}
use Rattle.listing_text.specs.declared.entry.Entry as program
use Rattle.listing_text.specs.Listing.{Entry}
use Rattle.listing_text.specs.Views.{entry_of}
use Rattle.theory_listings.specs.Lines.{IsLineAt, IsFirstLine}
use Rattle.theory_listings.specs.FrameListing.{NamesMeeting, IsRightListing, AreUnrefused}
use Rattle.theory_listings.specs.FrameWalk.{AreAllCrossed, IsWalkEnd}
use Rattle.theory_listings.proofs.Lines.{first-source}
use Rattle.plane_geom.specs.declared.window.Window.{Window}
use Rattle.rule_model.specs.declared.rule.Rule.{Rule}
use Rattle.rule_model.specs.Tiling.{Tiling, tiling_of, children}
use Rattle.theory_substitution.specs.Points.{Points}
use Rattle.theory_substitution.specs.RuleParts.{edge_count}
use Rattle.tile_place.proofs.Plane.{IsSettled, its_rule}
use Rattle.tile_shape.specs.Views.{address_of}
use Rattle.theory_windows.specs.FramePatch.{frame_patch, in_frame, line_of}
use Rattle.theory_windows.specs.Outlines.{MeetsBox}
use Rattle.theory_windows.specs.Patch.{HasAcross}
use Rattle.theory_windows.proofs.Members.{among-map}
use Rattle.window_cover.specs.Windows.{TileOf, box_of, IsWindow}
use Rattle.list_verify.specs.FoundLines.{entries_of, AreLinesIn, no_line, tile_of_line, tiles_listed_so_far, AreFound, AreCrossedBefore}
use Rattle.list_verify.specs.Listing.{tile_listed, tiles_listed, AreOfOrder, NamesTileThere, HasAllTiles, HasStray}
use Rattle.list_verify.specs.ListLaws.{HasListLaws}
use Rattle.list_verify.specs.Walked.{IsFirstUnmarked, Tells}
use Rattle.list_verify.proofs.Lines.{its_names, listing-on, tile-is, line-tile}
use Rattle.list_verify.proofs.LineNumbers.{at-number}
use Rattle.list_verify.proofs.WalkedLines as walked

module _ (m : Rule) (settled : IsSettled m) (fits : StillFits (children (tiling_of m)))
    (L : HasListLaws (points_of m.order)) (f : FrameValue) (w : Window) (fit : IsWindow w)
    (lines : List program.Entry) (are : AreLinesIn (tiling_of m) f lines) (numbers : List ℕ)
    (marks : List Bool) (found : AreFound (tiling_of m) f w lines numbers marks) where
  abbrev t : Tiling
  t = tiling_of m

  abbrev P : Points
  P = points_of m.order

  abbrev T : AcceptedRule P
  T = its_rule m settled

  abbrev F : Address
  F = full t f

  abbrev d : ℕ
  d = length f.digits

  abbrev entries : List Entry
  entries = entries_of lines

  abbrev listing : List (TileOf t)
  listing = tiles_listed t entries

  abbrev tiles : List (TileOf t)
  tiles = tiles_listed_so_far t f lines numbers

  abbrev IsNumbered : TileOf t → Type 0
  IsNumbered x = walked.Numbered m settled fits L f w fit lines are numbers marks found x

  numbered : (x : TileOf t) → IsAmong x listing → IsNumbered x
  numbered = walked.numbered m settled fits L f w fit lines are numbers marks found

  tile-number : (line : program.Entry) (i : ℕ) → slice_get lines i ≡ Some line
      → IsAmong (in_frame P T.rule F (address_of line.address)) tiles → IsAmong i numbers
  tile-number = walked.tile-number m settled fits L f w fit lines are numbers marks found

  number-tile : (line : program.Entry) (i : ℕ) → slice_get lines i ≡ Some line → IsAmong i numbers
      → IsAmong (in_frame P T.rule F (address_of line.address)) tiles
  number-tile = walked.number-tile m settled fits L f w fit lines are numbers marks found

  its_order : (line : program.Entry) (i : ℕ) → slice_get lines i ≡ Some line → IsAmong i numbers → IsOf m.order line.motion.shift
  its_order = walked.its_order m settled fits L f w fit lines are numbers marks found

  -- ---- where all edges of the lines found are crossed
  module _ (crossed : AreCrossedBefore t f w lines numbers (length numbers)) where
    all-crossed : AreAllCrossed P T F (box_of t w) listing tiles
    all-crossed x i k e exists meets = at (numbered x i)
      where
        at : IsNumbered x → HasAcross P.real (TileOf t) (frame_patch P T.rule F) tiles (line_of P T.rule (in_frame P T.rule F x.address) e)
        at n =
            let name : in_frame P T.rule F x.address ≡ in_frame P T.rule F (address_of n.line.address) = ap
            (λ (y : TileOf t). in_frame P T.rule F y.address) n.is in
            let mine : IsAmong n.number numbers = tile-number n.line n.number n.is_line (subst (λ y. IsAmong y tiles) name k) in
            let place = among-place n.number numbers mine in
            let same : in_frame P T.rule F x.address ≡ tile_of_line t f lines n.number = name
            ∙ sym (tile-is m settled fits L f w fit lines are n.number n.line n.is_line) in
            let kind : x.address.kind ≡ (get_or lines n.number no_line).address.kind = ap (λ (y : TileOf t). y.address.kind) same in
            subst (λ (y : TileOf t). HasAcross P.real (TileOf t) (frame_patch P T.rule F) tiles (line_of P T.rule y e)) (sym same)
            (crossed place.0 n.number (slice_get_within numbers place.0 n.number place.1) place.1 e (subst (λ n. e < edge_count T.rule n) kind exists)
            (subst (λ (y : TileOf t). MeetsBox P.real (box_of t w) (line_of P T.rule y e)) same meets))

    E : IsWalkEnd P (is_refused m.order) T F (box_of t w) d listing tiles
    E = L.end T F (is_refused m.order) (box_of t w) d listing (listing-on m settled fits L f w fit lines are) tiles found.walk all-crossed

    all-tiles : HasAllTiles t f w d entries
    all-tiles = record {
      all_listed = E.all_listed;
      of_order = AllByRecursion-from (λ (e : Entry). NamesTileThere t f w e → IsOf m.order e.motion.shift)
          entries each;
    }
      where
        each : (e : Entry) → IsAmong e entries → NamesTileThere t f w e → IsOf m.order e.motion.shift
        each e i meets =
            let o = among-map entry_of e lines i in
            let place = among-place o.0 lines o.1 in
            let a = address_of o.0.address in
            let of = line-tile m settled fits L f w fit lines are o.0 o.1 in
            let here : IsAmong (in_frame P T.rule F a) (frame_tiles P T.rule F)
            = ((L.search.named T F (its_names m settled fits L f w fit lines are) (is_refused m.order)
            (depth a) of.no_deeper (in_frame P T.rule F a)).1 (a, of, refl, refl)).0 in
            subst (λ (y : Entry). IsOf m.order y.motion.shift) (sym o.2)
            (its_order o.0 place.0 place.1 (tile-number o.0 place.0 place.1
            (E.all_found (in_frame P T.rule F a) here
            (subst (λ (y : Entry). NamesTileThere t f w y) o.2 meets))))

    pub tells : Tells t f w entries marks
    tells = record {
      all_tiles = all-tiles;
      right = λ all. right all;
      stray = stray;
    }
      where
        mark-number : (line : program.Entry) (i : ℕ) → slice_get lines i ≡ Some line
            → ((i : ℕ) → i < length marks → slice_get marks i ≡ Some true) → IsAmong i numbers
        mark-number line i at all = (found.are_marked.marked i).0
            (all i (subst (λ n. i < n) (sym found.are_marked.count) (slice_get_within lines i line at)))

        right : ((i : ℕ) → i < length marks → slice_get marks i ≡ Some true)
            → IsRightListing P T.rule F (box_of t w) d listing × AreUnrefused (is_refused m.order) listing × AreOfOrder t entries
        right all =
            let h = E.right (AllByRecursion-from (λ (x : TileOf t). IsAmong (in_frame P T.rule F x.address) tiles) listing (λ x i.
            let n = numbered x i in
            subst (λ (y : TileOf t). IsAmong (in_frame P T.rule F y.address) tiles) (sym n.is)
            (number-tile n.line n.number n.is_line (mark-number n.line n.number n.is_line all)))) in (
              h.0,
              h.1,
              AllByRecursion-from (λ (e : Entry). IsOf m.order e.motion.shift) entries (λ e i.
                  let o = among-map entry_of e lines i in
                  let place = among-place o.0 lines o.1 in
                  subst (λ (y : Entry). IsOf m.order y.motion.shift) (sym o.2) (its_order o.0 place.0 place.1 (mark-number o.0 place.0 place.1 all))),
            )

        stray : (i : ℕ) → IsFirstUnmarked marks i → HasStray t f w d entries i
        stray i h = record {
          all_tiles = all-tiles;
          first = first-source (λ (x : TileOf t). ¬ NamesMeeting P T.rule F (box_of t w) x.address) (tile_listed t) entries i (E.stray i first).first;
        }
          where
            below : i < length lines
            below = subst (λ n. i < n) found.are_marked.count (slice_get_within marks i false h.unmarked)

            line : program.Entry
            line = get_or lines i no_line

            line_at : slice_get lines i ≡ Some line
            line_at = at-number lines i below

            not_found : IsAmong (in_frame P T.rule F (address_of line.address)) tiles → ⊥
            not_found k = absurd (cc (sym h.unmarked ∙ (found.are_marked.marked i).1 (tile-number line i line_at k)))

            first : IsFirstLine (λ (x : TileOf t). ¬ IsAmong (in_frame P T.rule F x.address) tiles) listing i
            first = record {
              line = tile_listed t (entry_of line);
              is_line = slice_get-image (tile_listed t) (entry_of line) entries i (slice_get-image entry_of line lines i line_at);
              so = λ k. absurd (not_found k);
              first = λ j x l at n. absurd (n (earlier j x l at));
            }
              where
                earlier : (j : ℕ) (x : TileOf t) → j < i → IsLineAt listing j x → IsAmong (in_frame P T.rule F x.address) tiles
                earlier j x l at =
                    let lj : program.Entry = get_or lines j no_line in
                    let at_j = at-number lines j (omega (arith, l, below)) in
                    let same : tile_listed t (entry_of lj) ≡ x = is_some
                    (sym (slice_get-image (tile_listed t) (entry_of lj) entries j
                    (slice_get-image entry_of lj lines j at_j)) ∙ at) in
                    subst (λ (y : TileOf t). IsAmong (in_frame P T.rule F y.address) tiles) same
                    (number-tile lj j at_j ((found.are_marked.marked j).0 (h.first j l)))
                  where
                    is_some : {a b : TileOf t} → Some a ≡ Some b → a ≡ b
                    is_some e = cc (e)
