-- The laws of every accepted rule.
use Rattle.std.proofs.Common.{◌⊎◌, inl, inr, ℕ, sym, ap, ◌∙◌, subst}
use Rattle.theory_plane.proofs.Triangle.{denominator_pos}
use Rattle.theory_substitution.specs.Points.{Points, PointLaws}
use Rattle.theory_substitution.specs.Supertile.{Placed}
use Rattle.theory_edge_to_edge.specs.Contacts.{tables_of}
use Rattle.theory_addresses.specs.Trace.{first_part}
use Rattle.theory_addresses.proofs.Traces.{IsTrace-unique}
use Rattle.theory_addresses.proofs.Chains.{chain_of}
use Rattle.theory_dissection.specs.TileEdges.{tile_at, kind_edge, image_of}
use Rattle.theory_dissection.specs.OnBoundary.{IsOnBoundary}
use Rattle.theory_dissection.specs.Accepted.{AcceptedRule}
use Rattle.theory_dissection.specs.Crossings.{IsCrossed, IsOutside}
use Rattle.theory_dissection.specs.Laws.{DissectionLaw, TouchLaw, AcrossLaw, BoundaryLaw, CrossingLaw, GlueLaw, NoReturnLaw, MultiplesLaw}
use Rattle.theory_dissection.specs.Glue.{TurnsDiffer}
use Rattle.theory_dissection.proofs.Setting.{Setting}
use Rattle.theory_dissection.proofs.GlueMotion.{across-motion}
use Rattle.theory_dissection.proofs.SupertileCount.{sum-all}
use Rattle.theory_dissection.proofs.OnlyOne.{whole-good, tiles-good, exactly_one}
use Rattle.theory_dissection.proofs.RuleAddresses.{lowest_exists}
use Rattle.theory_dissection.proofs.TraceAlong.{trace-on_boundary}
use Rattle.theory_dissection.proofs.Injective.{along_of, ahead-along}
use Rattle.theory_dissection.proofs.AcrossTouches.{touch-across, not_back}
use Rattle.theory_dissection.proofs.Join.{touch-only_across, across-touch, across-back, Crossing, crossed, outside, crossing}
use Rattle.theory_dissection.proofs.BoundaryTrace.{boundary-traced, boundary-none}

module _ (P : Points) (W : PointLaws P) where
  abbrev at : AcceptedRule P → Setting
  at T = record { points = P; laws = W; accepted = T }

  pub dissection_law : DissectionLaw P
  dissection_law T k n hk f keeps p whole =
      let d_pos = denominator_pos P.real W.of_real W.of_order p whole in
      record {
        adds_up = sum-all (at T) p k n hk f keeps;
        whole = whole-good (at T) f keeps p d_pos k n hk;
        each = tiles-good (at T) f keeps p d_pos k n hk;
        one = exactly_one (at T) f keeps p d_pos k n hk;
      }

  pub touch_law : TouchLaw P
  touch_law T a b e f has fits = (
    (λ touches. touch-across (at T) a b e f has.fits fits has.edge_exists touches),
    (λ across. (across-touch (at T) a e (tile_at P T.rule b) f has.fits has.edge_exists across).0),
  )

  pub across_law : AcrossLaw P
  across_law T a b e f has fits = (
    (λ only. touch-only_across (at T) a b e f has.fits fits has.edge_exists only.touched),
    (λ only. record {
      touched = (across-touch (at T) a e (tile_at P T.rule b) f has.fits has.edge_exists only.across).0;
      fits = fits;
      only = λ c g fits' touches.
          let one = only.only (tile_at P T.rule c) g (touch-across (at T) a c e g has.fits fits' has.edge_exists touches) in
          (ap (λ (t : Placed P.ring.carrier). t.address) one.0, one.1);
    }),
  )

  pub boundary_law : BoundaryLaw P
  boundary_law T a e f part has = (
    (λ on. boundary-traced (at T) a e f part has.fits has.edge_exists on),
    (λ h. subst (λ (p : ℕ). IsOnBoundary P T.rule (tile_at P T.rule a) e f p) h.2
        (trace-on_boundary (at T) a e f h.0 has.fits
        (lowest_exists (at T) a.kind a.digits (chain_of (tables_of P T.rule) a has.fits)) has.edge_exists
        h.1)),
  )

  pub crossing_law : CrossingLaw P
  crossing_law T a e has = at_case (crossing (at T) a e has.fits has.edge_exists)
    where
      at_case : Crossing (at T) a e → IsCrossed P T.rule a e ⊎ IsOutside P T.rule a e
      at_case (crossed h) = inl (record {
        other = h.other;
        edge = h.edge;
        fits = h.fits;
        across = h.only;
        back = across-back (at T) a e (tile_at P T.rule h.other) h.edge has.fits has.edge_exists h.only.across;
        inside = λ f part on. boundary-none (at T) a e f part has.fits has.edge_exists on (tile_at P T.rule h.other) h.edge h.only.across;
      })
      at_case (outside h) = inr (record {
        edge = h.top;
        part = first_part h.cuts;
        boundary = h.boundary;
        alone = λ f p on.
            let other = boundary-traced (at T) a e f p has.fits has.edge_exists on in
            let one = IsTrace-unique other.1 h.trace in
            (one.0, sym other.2 ∙ ap first_part one.1);
        none = h.none;
      })

  pub glue_law : TurnsDiffer P → GlueLaw P
  glue_law differ T a e has b f across = across-motion (at T) differ a e b f has.fits across

  pub no_return_law : NoReturnLaw P
  no_return_law T k d e hk hd he f keeps u v along back =
      not_back (at T) f keeps k d e hk hd he u v
      (ahead-along P W _ _ (along_of P W (image_of P f (kind_edge P T.rule k d)) (record { from = u; to = v }) along))
      (ahead-along P W _ _ (along_of P W (image_of P f (kind_edge P T.rule k e)) (record { from = v; to = u }) back))

  pub multiples_law : MultiplesLaw P
  multiples_law x y h = W.of_order.passes x y h
