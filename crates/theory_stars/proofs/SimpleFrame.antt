-- The tiles of a frame are simple polygons.
use Rattle.std.proofs.Common.{◌<◌, length, sym, subst, arith}
use Rattle.theory_addresses.specs.Address.{Address, depth, top_kind}
use Rattle.theory_addresses.specs.Search.{IsAmong}
use Rattle.theory_addresses.proofs.Chains.{IsChain, chain_of}
use Rattle.theory_substitution.specs.Motion.{moved, followed}
use Rattle.theory_substitution.specs.Placement.{placement}
use Rattle.theory_substitution.specs.Supertile.{Placed, supertile}
use Rattle.theory_substitution.specs.RuleParts.{vertices_of}
use Rattle.theory_substitution.proofs.Keeping.{motion-keeps}
use Rattle.theory_edge_to_edge.specs.Contacts.{tables_of}
use Rattle.theory_dissection.specs.Accepted.{NamesTile}
use Rattle.theory_dissection.specs.Polygons.{tile_polygon}
use Rattle.theory_dissection.proofs.Setting.{Setting}
use Rattle.theory_dissection.proofs.Members.{member as tile-member}
use Rattle.theory_dissection.proofs.MovedStar.{three_vertices}
use Rattle.theory_dissection.proofs.RuleAddresses.{top_exists}
use Rattle.theory_frames.specs.Back.{back}
use Rattle.theory_frames.specs.Frame.{frame_tiles}
use Rattle.theory_windows.specs.FramePatch.{frame_patch}
use Rattle.theory_windows.proofs.Members.{among-map}
use Rattle.theory_windows.proofs.FramePatch.{frame-dissected}
use Rattle.theory_stars.specs.Round.{IsSimple, IsSimplyDissected}
use Rattle.theory_stars.proofs.MovedStar.{moved_simple}

module _ (T : Setting) where
  open T use {points as P, laws as W, accepted.{rule as r, numbered as N, edge_to_edge as D}}

  abbrev A : Type 0
  A = P.ring.carrier

  tile-simple : (t : Placed A) → t.address.kind < length r.kinds → IsSimple P.real (tile_polygon P r (λ z. z) t)
  tile-simple t hk =
      moved_simple P W (moved P t.motion) (motion-keeps P W t.motion) (vertices_of r t.address.kind)
      (let h = three_vertices T t.address.kind hk in omega arith) (D.star_shaped t.address.kind hk)

  kind-exists : (f : Address) → IsChain (tables_of P r) f.kind f.digits → (t : Placed A)
      → IsAmong t (frame_tiles P r f) → t.address.kind < length r.kinds
  kind-exists f chain t i =
      let m = among-map (λ (u : Placed A). record
      { address = u.address; motion = followed P u.motion (back P (placement P r f.digits)) }) t
      (supertile P r (top_kind f) (depth f)) i in
      subst (λ (u : Placed A). u.address.kind < length r.kinds) (sym m.2)
      (tile-member T (top_kind f) (depth f) (top_exists T f.kind f.digits chain) m.0 m.1).tile.kind_exists

  pub simply_dissected : (f : Address) → NamesTile P r f → IsSimplyDissected P.real (Placed A) (frame_patch P r f)
  simply_dissected f fits =
      let chain = chain_of (tables_of P r) f fits in
      record {
        dissected = frame-dissected T f chain;
        simple = λ t i. tile-simple t (kind-exists f chain t i);
      }
