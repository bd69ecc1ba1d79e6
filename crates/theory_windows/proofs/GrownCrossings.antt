-- Crossings in a frame that grows: the least depth at which an edge is crossed is the level of the tile across.
use Rattle.std.proofs.Common.{◌≡◌, inl, inr, ℕ, zero, suc, ◌<◌, ◌≤◌, max, Bool, true, List, sym, ◌∙◌, subst, arith}
use Rattle.std.proofs.lemmas.Bool.{cases_lt}
use Rattle.theory_ring.specs.Sign.{Signed}
use Rattle.theory_addresses.specs.Address.{Address, depth, Fits}
use Rattle.theory_addresses.specs.Tables.{Tables, child_kinds}
use Rattle.theory_addresses.proofs.Chains.{chain_of}
use Rattle.theory_substitution.specs.Supertile.{Placed}
use Rattle.theory_edge_to_edge.specs.Contacts.{tables_of}
use Rattle.theory_dissection.specs.Across.{IsTileAcross}
use Rattle.theory_dissection.specs.OnBoundary.{IsOnBoundary}
use Rattle.theory_dissection.specs.TileEdges.{tile_at}
use Rattle.theory_dissection.proofs.Setting.{Setting}
use Rattle.theory_dissection.proofs.AcrossTouches.{same}
use Rattle.theory_dissection.proofs.RuleAddresses.{lowest_exists}
use Rattle.theory_frames.specs.Frame.{at_level, IsTileOf, lifted_in}
use Rattle.theory_windows.specs.PatchWindow.{LiesAcross}
use Rattle.theory_windows.specs.FramePatch.{level_in, growing_frame, in_frame, line_of}
use Rattle.theory_windows.specs.FrameLaws.{IsEdgeInFrame}
use Rattle.theory_windows.specs.FrameSearch.{IsGrownCrossing}
use Rattle.theory_windows.proofs.MovedTiles.{line-among}
use Rattle.theory_windows.specs.Outlines.{is_reverse}
use Rattle.theory_substitution.specs.RuleParts.{edge_count}
use Rattle.std.proofs.lemmas.List.{take_all}
use Rattle.theory_windows.proofs.Lifts.{named}
use Rattle.theory_windows.proofs.FrameEdges.{Beside, beside, reverse_law, boundary-outer}
use Rattle.theory_windows.proofs.Renamed.{lifted-depth, lifted-tile, renamed, shorter, further, at-depth}

-- the greatest of m and a level that is n at most, and no less from m on
pub max-is : (m n l : ℕ) → m ≤ n → l ≤ n → ((k : ℕ) → m ≤ k → k < n → l ≤ k → ⊥) → max m l ≡ n
max-is m zero l h g none = omega arith
max-is m (suc n) l h g none = elim (cases_lt n l) [
  | inl lt ↦ omega arith
  | inr ge ↦ elim (cases_lt n m) [ inl lt ↦ omega arith | inr le ↦ absurd (none n le (omega arith) ge) ]
]

module _ (T : Setting) where
  open T use {points as P, laws as W, accepted.{refused, rule as r, numbered as N, edge_to_edge as D}}

  abbrev A : Type 0
  A = P.ring.carrier

  abbrev S : Signed
  S = P.real

  abbrev t : Tables
  t = tables_of P r

  abbrev children : List (List ℕ)
  children = child_kinds t

  module _ (f : Address) (fits : Fits children f) where
    module _ (refused : A → Bool) where
      pub lies-across : (a : Address) (e : ℕ) → IsEdgeInFrame P T.accepted f a e → (b : Address) (g : ℕ)
          → IsTileAcross P r (tile_at P r a) e (tile_at P r b) g
          → IsTileOf children f b → LiesAcross S (Placed A) (growing_frame P refused r f) (line_of P r (in_frame P r f a) e) (in_frame P r f b)
      lies-across a e h b g x tile = record {
        of_patch = (named T f fits refused b tile).0;
        edge = line_of P r (in_frame P r f b) g;
        among = line-among T (λ z. z) (same T) (in_frame P r f b) (lowest_exists T b.kind b.digits (chain_of t b tile.fits)) g x.edge_exists;
        back = reverse_law T f a e h b g x;
      }

      -- at a depth at which the edge is on the boundary, no tile that is there lies across it
      outer-at : (k : ℕ) → k ≤ depth f → (a : Address) (e : ℕ) → IsTileOf children (at_level f k) a → e < edge_count r a.kind
          → (own part : ℕ) → IsOnBoundary P r (tile_at P r (lifted_in (at_level f k) a)) e own part
          → (u : Placed A) → LiesAcross S (Placed A) (growing_frame P refused r f) (line_of P r (in_frame P r f a) e) u → level_in f u.address ≤ k → ⊥
      outer-at k within a e h he own part on u x level =
          boundary-outer T f (lifted_in (at_level f k) a) e
          (record { frame = fits; tile = lifted-tile T f fits k within a h; edge_exists = he }) refused
          own part on (
            u,
            x.edge,
            (x.of_patch, subst (λ m. level_in f u.address ≤ m) (sym (lifted-depth T f fits k within a h)) level),
            x.among,
            subst (λ (v : Placed A). is_reverse S (line_of P r v e) x.edge ≡ true) (sym (renamed T f fits k within a h)) x.back,
          )

      pub grown-crossing : (m n : ℕ) (a : Address) (e : ℕ) (b : Address) (g : ℕ) → IsGrownCrossing P T.accepted f m n a e b g
          → LiesAcross S (Placed A) (growing_frame P refused r f) (line_of P r (in_frame P r f a) e)
          (in_frame P r f b) × (max m (level_in f (lifted_in f b)) ≡ n)
      grown-crossing m n a e b g c = (lies, max-is m n (level_in f (lifted_in f b)) c.not_below level none)
        where
          at : (k : ℕ) → m ≤ k → k ≤ depth f → IsTileOf children (at_level f k) a
          at k l w = further T f fits m k l w a c.tile

          here : IsEdgeInFrame P T.accepted f (lifted_in (at_level f n) a) e
          here = record { frame = fits; tile = lifted-tile T f fits n c.within a (at n c.not_below c.within); edge_exists = c.edge_exists }

          other : Beside T f (lifted_in (at_level f n) a) e here (tile_at P r b)
          other = beside T f (lifted_in (at_level f n) a) e here (tile_at P r b) c.across.beside

          lies : LiesAcross S (Placed A) (growing_frame P refused r f) (line_of P r (in_frame P r f a) e) (in_frame P r f b)
          lies = subst (λ (v : Placed A). LiesAcross S (Placed A) (growing_frame P refused r f)
              (line_of P r v e) (in_frame P r f b)) (renamed T f fits n c.within a
              (at n c.not_below c.within))
              (lies-across (lifted_in (at_level f n) a) e here b g c.across other.tile)

          level : level_in f (lifted_in f b) ≤ n
          level = subst (λ k. level_in f (lifted_in f b) ≤ k)
              (other.deep ∙ lifted-depth T f fits n c.within a (at n c.not_below c.within))
              (named T f fits refused b other.tile).1

          none : (k : ℕ) → m ≤ k → k < n → level_in f (lifted_in f b) ≤ k → ⊥
          none k l less is =
              let w : k ≤ depth f = let z = c.within in omega arith in
              let on = c.least k l less in
              outer-at k w a e (at k l w) c.edge_exists on.0 on.1 on.2 (in_frame P r f b) lies is

      pub last-boundary : (a : Address) (e : ℕ) → IsEdgeInFrame P T.accepted f a e → (own part : ℕ)
          → IsOnBoundary P r (tile_at P r (lifted_in f a)) e own part
          → (u : Placed A) → LiesAcross S (Placed A) (growing_frame P refused r f) (line_of P r (in_frame P r f a) e) u → ⊥
      last-boundary a e h own part on u x =
          outer-at (depth f) itself a e (shorter T f fits (depth f) itself a h.tile h.tile.no_deeper) h.edge_exists own part
          (subst (λ ds. IsOnBoundary P r (tile_at P r (lifted_in (record { kind = f.kind; digits = ds }) a)) e
          own part) (sym (take_all (depth f) f.digits itself)) on)
          u x (at-depth T f fits u x.of_patch)
        where
          itself : depth f ≤ depth f
          itself = omega arith
