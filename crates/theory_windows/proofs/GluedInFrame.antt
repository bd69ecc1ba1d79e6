-- The motion of the tile across in a frame is the motion that glues the two edges, followed by that of the edge's own tile.
use Rattle.std.proofs.Common.{◌≡◌, ℕ, ap, ◌∙◌}
use Rattle.theory_addresses.specs.Address.{Address, depth}
use Rattle.theory_substitution.specs.Motion.{Motion, followed}
use Rattle.theory_substitution.specs.Supertile.{Placed}
use Rattle.theory_substitution.specs.Placement.{placement}
use Rattle.theory_dissection.specs.Across.{IsTileAcross}
use Rattle.theory_dissection.specs.Glue.{IsGlueMotion, TurnsDiffer}
use Rattle.theory_dissection.specs.TileEdges.{tile_at}
use Rattle.theory_dissection.proofs.Setting.{Setting}
use Rattle.theory_dissection.proofs.Carried.{glue_law}
use Rattle.theory_frames.specs.Back.{back}
use Rattle.theory_frames.specs.Frame.{at_level, lifted_in}
use Rattle.theory_frames.proofs.Group.{followed-assoc}
use Rattle.theory_windows.specs.FramePatch.{in_frame}
use Rattle.theory_windows.specs.FrameLaws.{IsEdgeInFrame}
use Rattle.theory_windows.specs.FrameSearch.{IsGrownCrossing}
use Rattle.theory_windows.proofs.FrameEdges.{beside}
use Rattle.theory_windows.proofs.Renamed.{lifted-tile, renamed, further}

module _ (T : Setting) (differ : TurnsDiffer T.points) where
  open T use {points as P, laws as W, accepted.{rule as r}}

  abbrev A : Type 0
  A = P.ring.carrier

  -- at the tile's own depth
  pub glued-beside : (f a : Address) (e : ℕ) (h : IsEdgeInFrame P T.accepted f a e) (b : Address) (g : ℕ)
      → IsTileAcross P r (tile_at P r a) e (tile_at P r b) g
      → (m : Motion A) → IsGlueMotion P r a.kind e b.kind g m → (in_frame P r f b).motion ≡ followed P m (in_frame P r f a).motion
  glued-beside f a e h b g x m glues =
      ap (λ k. followed P (placement P r b.digits) (back P (placement P r (at_level f k).digits))) (beside T f a e h (tile_at P r b) x.beside).deep
      ∙ ap (λ (n : Motion A). followed P n (back P (placement P r (at_level f (depth a)).digits)))
      ((glue_law P W differ T.accepted a e (record { fits = h.tile.fits; edge_exists = h.edge_exists }) (tile_at P r b) g x).motion_is m glues)
      ∙ followed-assoc P W m (placement P r a.digits) (back P (placement P r (at_level f (depth a)).digits))

  -- and at the depth to which the frame grows
  pub glued-grown : (f : Address) (m n : ℕ) (a : Address) (e : ℕ) (b : Address) (g : ℕ) → IsGrownCrossing P T.accepted f m n a e b g
      → (k : Motion A) → IsGlueMotion P r a.kind e b.kind g k → (in_frame P r f b).motion ≡ followed P k (in_frame P r f a).motion
  glued-grown f m n a e b g c k glues =
      glued-beside f (lifted_in (at_level f n) a) e
      (record {
        frame = c.frame;
        tile = lifted-tile T f c.frame n c.within a
            (further T f c.frame m n c.not_below c.within a c.tile);
        edge_exists = c.edge_exists;
      }) b g c.across
      k glues
      ∙ ap (λ (v : Placed A). followed P k v.motion) (renamed T f c.frame n c.within a (further T f c.frame m n c.not_below c.within a c.tile))
