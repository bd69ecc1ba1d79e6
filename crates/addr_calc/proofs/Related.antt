-- What the pair machine says of two tiles, in the plane.
use Rattle.std.proofs.Common.{◌≡◌, ℕ, ◌<◌, List, [], ◌∷◌, map, refl}
use Rattle.theory_addresses.specs.Address.{Address, Fits}
use Rattle.theory_addresses.specs.Coherent.{IsCoherent}
use Rattle.theory_addresses.specs.Tables.{Tables, child_kinds}
use Rattle.theory_addresses.specs.Touch.{Touches}
use Rattle.theory_addresses.proofs.Touching.{only_touching, Touches-sym}
use Rattle.pair_machine.specs.Between.{Pair, IsBetween}
use Rattle.pair_machine.specs.Verdicts.{IsPairVerdict}
use Rattle.pair_machine.specs.Views.{as_pair}
use Rattle.pair_machine.specs.declared.edge_pair.EdgePair.{EdgePair}
use Rattle.pair_machine.specs.declared.verdict.Verdict.{Verdict}
use Rattle.pair_machine.specs.declared.verdict.Verdict.TheVariants.{Strangers, Same, Apart, Beside}
use Rattle.pair_machine.proofs.Leaving.{touch_edge}
use Rattle.rule_model.specs.declared.rule.Rule.{Rule}
use Rattle.rule_model.specs.Tiling.{tiling_of, contacts, children}
use Rattle.tile_place.specs.Crossed.{IsOnlyAcross, edges_of}
use Rattle.tile_place.proofs.KindEdges.{edge_typed}
use Rattle.tile_place.proofs.Plane.{OnlyTilesLaw, IsSettled, its_rule, fits_tables, has_edge}
use Rattle.addr_calc.specs.Relation.{AreAllAcross, IsRelation}
use Rattle.addr_calc.specs.Views.{relation_of}

-- a list without a member has no view with one
none : (pairs : List EdgePair) → map as_pair pairs ≡ [] → pairs ≡ []
none [] e = refl
none (p ∷ ps) e = absurd (cc e)

module _ (m : Rule) (settled : IsSettled m) (law : OnlyTilesLaw m.order) (coherent : IsCoherent (contacts (tiling_of m)))
    (a b : Address) (own : Fits (children (tiling_of m)) a) (other : Fits (children (tiling_of m)) b) where
  abbrev t : Tables
  t = contacts (tiling_of m)

  fits : Fits (child_kinds t) a
  fits = fits_tables m settled a own

  fits' : Fits (child_kinds t) b
  fits' = fits_tables m settled b other

  -- edges that touch are across from each other
  across : (e f : ℕ) → Touches t a e b f → IsOnlyAcross (tiling_of m) a e b f
  across e f h =
      let edge = touch_edge t a b e f coherent fits h in
      (law (its_rule m settled) a b e f (has_edge m settled a e fits
      ((edge_typed (tiling_of m) a.kind e).0 edge)) fits').0
      (only_touching a b e f coherent fits edge h fits')

  back : (e f : ℕ) → Touches t a e b f → IsOnlyAcross (tiling_of m) b f a e
  back e f h =
      let there = Touches-sym a b coherent fits fits' (touch_edge t a b e f coherent fits h) h in
      let edge = touch_edge t b a f e coherent fits' there in
      (law (its_rule m settled) b a f e (has_edge m settled b f fits'
      ((edge_typed (tiling_of m) b.kind f).0 edge)) fits).0
      (only_touching b a f e coherent fits' edge there fits)

  -- and the other way round
  touches : (e f : ℕ) → e < edges_of (tiling_of m) a.kind → IsOnlyAcross (tiling_of m) a e b f → Touches t a e b f
  touches e f exists h = ((law (its_rule m settled) a b e f (has_edge m settled a e fits exists) fits').1 h).touched

  all_across : (pairs : List Pair) → IsBetween t a b pairs → AreAllAcross (tiling_of m) a b pairs
  all_across pairs h = record {
    in_order = h.in_order;
    only_across = λ e f. (
      λ i. let touch = (h.touching e f).0 i in ((edge_typed (tiling_of m) a.kind e).0 (touch_edge t a b e f coherent fits touch), across e f touch),
      λ x. (h.touching e f).1 (touches e f x.0 x.1),
    );
    leads_back = λ e f i. back e f ((h.touching e f).0 i);
  }

  pub related : (verdict : Verdict) → IsPairVerdict t a b verdict → IsRelation (tiling_of m) a b (relation_of verdict)
  related Strangers h = h
  related Same h = h
  related Apart h = (h.0, h.1, all_across [] h.2)
  related (Beside pairs) h = (h.0, h.1, all_across (map as_pair pairs.items) h.2, λ e. h.3 (none pairs.items e))
