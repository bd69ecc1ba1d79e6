-- The tiles of a frame are a dissected patch.
use Rattle.std.proofs.Common.{◌≡◌, ◌<◌, List, length, pos, true, sym, ap, ◌∙◌, subst}
use Rattle.theory_ring.specs.Sign.{Signed}
use Rattle.theory_ring.proofs.Booleans.{equal_numbers}
use Rattle.theory_plane.specs.Plane.{TestPoint, IsTestPoint}
use Rattle.theory_plane.specs.Crossing.{count, member}
use Rattle.theory_plane.proofs.Triangle.{denominator_pos}
use Rattle.theory_addresses.specs.Address.{Address, depth, top_kind}
use Rattle.theory_addresses.specs.Search.{IsAmong}
use Rattle.theory_addresses.proofs.Chains.{IsChain}
use Rattle.theory_addresses.proofs.Lists.{map-ext}
use Rattle.theory_substitution.specs.Plane.{plane_point, Keeps}
use Rattle.theory_substitution.specs.Motion.{Motion, moved, followed}
use Rattle.theory_substitution.specs.RuleParts.{vertices_of}
use Rattle.theory_substitution.specs.Supertile.{Placed, supertile}
use Rattle.theory_substitution.specs.Placement.{placement}
use Rattle.theory_substitution.proofs.Keeping.{motion-keeps}
use Rattle.theory_substitution.proofs.Motions.{moved-followed}
use Rattle.theory_edge_to_edge.specs.Contacts.{tables_of}
use Rattle.theory_dissection.specs.Polygons.{tile_polygon}
use Rattle.theory_dissection.proofs.Setting.{Setting}
use Rattle.theory_dissection.proofs.OnlyOne.{one_tile}
use Rattle.theory_dissection.proofs.Members.{member as tile-member}
use Rattle.theory_dissection.proofs.RuleAddresses.{top_exists}
use Rattle.theory_frames.specs.Back.{back}
use Rattle.theory_frames.specs.Frame.{frame_tiles}
use Rattle.theory_windows.specs.Outlines.{Polygon, edges}
use Rattle.theory_windows.specs.Meeting.{IsLeftFan}
use Rattle.theory_windows.specs.Distinct.{AreDistinct}
use Rattle.theory_windows.specs.Patch.{IsDissected}
use Rattle.theory_windows.specs.FramePatch.{frame_patch}
use Rattle.theory_windows.proofs.Members.{among-map}
use Rattle.theory_windows.proofs.Places.{distinct-map}
use Rattle.theory_windows.proofs.DistinctTiles.{one_address, supertile-distinct}
use Rattle.theory_windows.proofs.MovedTiles as tiles
use Rattle.theory_windows.proofs.OneOwner.{one_owner}

module _ (T : Setting) where
  open T use {points as P, laws as W, accepted.{rule as r, numbered as N, edge_to_edge as D}}

  abbrev A : Type 0
  A = P.ring.carrier

  abbrev S : Signed
  S = P.real

  -- the motion back of the frame, and where it moves what is in the supertile
  abbrev pub frame_back : Address → Motion A
  frame_back f = back P (placement P r f.digits)

  abbrev pub frame_move : Address → A → A
  frame_move f = moved P (frame_back f)

  pub frame_keeps : (f : Address) → Keeps P (frame_move f)
  frame_keeps f = motion-keeps P W (frame_back f)

  -- a tile of the supertile as one of the frame
  abbrev pub moved_tile : Address → Placed A → Placed A
  moved_tile f t = record { address = t.address; motion = followed P t.motion (frame_back f) }

  -- it has the outline that the motion back gives it
  pub outline-is : (f : Address) (t : Placed A) → tile_polygon P r (λ z. z) (moved_tile f t) ≡ tile_polygon P r (frame_move f) t
  outline-is f t = map-ext _ _ (vertices_of r t.address.kind) (λ z. ap (plane_point P) (moved-followed P W t.motion (frame_back f) z))

  module _ (f : Address) (chain : IsChain (tables_of P r) f.kind f.digits) where
    abbrev all : List (Placed A)
    all = supertile P r (top_kind f) (depth f)

    top : top_kind f < length r.kinds
    top = top_exists T f.kind f.digits chain

    -- the tile of the supertile that a tile of the frame is
    record Source (t : Placed A) : Type 0 where
      tile : Placed A
      among : IsAmong tile all
      is : t ≡ moved_tile f tile
      outline : tile_polygon P r (λ z. z) t ≡ tile_polygon P r (frame_move f) tile
      kind_exists : tile.address.kind < length r.kinds

    source : (t : Placed A) → IsAmong t (frame_tiles P r f) → Source t
    source t i =
        let m = among-map (moved_tile f) t all i in
        record {
          tile = m.0;
          among = m.1;
          is = m.2;
          outline = ap (tile_polygon P r (λ z. z)) m.2 ∙ outline-is f m.0;
          kind_exists = (tile-member T (top_kind f) (depth f) top m.0 m.1).tile.kind_exists;
        }

    fans : (t : Placed A) → IsAmong t (frame_tiles P r f) → IsLeftFan S (tile_polygon P r (λ z. z) t)
    fans t i = let s = source t i in subst (IsLeftFan S) (sym s.outline) (tiles.left_fan T (frame_move f) (frame_keeps f) s.tile s.kind_exists)

    holder : (t u : Placed A) → IsAmong t (frame_tiles P r f) → IsAmong u (frame_tiles P r f) → (p : TestPoint S.ops.carrier) → IsTestPoint S p
        → member S (tile_polygon P r (λ z. z) t) p ≡ true → member S (tile_polygon P r (λ z. z) u) p ≡ true → t ≡ u
    holder t u i j p test h k =
        let s = source t i in
        let v = source u j in
        let same : s.tile ≡ v.tile
        = one_tile T (frame_move f) (frame_keeps f) p (denominator_pos S W.of_real W.of_order p test)
        (top_kind f) (depth f) top s.tile v.tile s.among v.among
        (ap (λ vs. count S vs p) (sym s.outline) ∙ equal_numbers _ (pos 1) h) (ap (λ vs. count S vs p) (sym v.outline) ∙ equal_numbers _ (pos 1) k) in
        s.is ∙ ap (moved_tile f) same ∙ sym v.is

    pub frame-dissected : IsDissected S (Placed A) (frame_patch P r f)
    frame-dissected = record {
      distinct = distinct-map (moved_tile f) all
          (λ t u i j e. one_address P W r (top_kind f) (depth f) t u i j (ap (λ (x : Placed A). x.address) e))
          (supertile-distinct P W r (top_kind f) (depth f));
      left_fan = fans;
      one_holder = holder;
      own_edges = λ t i. let s = source t i in
          subst (λ (vs : Polygon S). AreDistinct (edges vs)) (sym s.outline) (tiles.own_edges T (frame_move f) (frame_keeps f) s.tile s.kind_exists);
      one_owner = one_owner S W.of_real W.of_order (frame_patch P r f) fans holder;
      no_return = λ t i e g a b. let s = source t i in
          tiles.no_return T (frame_move f) (frame_keeps f) s.tile s.kind_exists e g
          (subst (λ (vs : Polygon S). IsAmong e (edges vs)) s.outline a) (subst (λ (vs : Polygon S). IsAmong g (edges vs)) s.outline b);
    }
