-- A tile of the kind and the place of another has its path.
use Rattle.std.proofs.Common.{◌≡◌, ℕ, ◌<◌, [], List, length, map, get_or, slice_get, Option, None, Some, IfSome, refl, sym, ap, ◌∙◌, subst, arith}
use Rattle.std.specs.Option.{option_map}
use Rattle.std.proofs.lemmas.List.{length-map}
use Rattle.std.proofs.lemmas.Option.{slice_get-get_or}
use Rattle.theory_addresses.proofs.Ranges.{slice_get-image}
use Rattle.cyclo_points.specs.Order.{NumberOf}
use Rattle.half_glue.specs.declared.whole_tile.WholeTile.{WholeTile}
use Rattle.half_glue.specs.Outline.{outline_by, outline_of}
use Rattle.layer_api.specs.declared.drawn.Drawn.{Drawn}
use Rattle.rule_model.specs.Tiling.{Tiling}
use Rattle.tile_place.specs.declared.placed_tile.PlacedTile.{PlacedTile}
use Rattle.tile_app.specs.DrawnTile.{point_of_number, part_drawn, drawn_of, drawn_whole, tile_place, whole_place}
use Rattle.tile_app.specs.Looks.{HaveSamePath}

module _ (t : Tiling) where
  same-path : (x y : PlacedTile) → tile_place y ≡ tile_place x → HaveSamePath (drawn_of t y) (drawn_of t x)
  same-path x y e = record {
    class = ap (λ (p : PlacedTile). (drawn_of t p).class) e;
    outline = ap (λ (p : PlacedTile). (drawn_of t p).outline) e;
  }

  outline-place : (a : PlacedTile) (b : Option PlacedTile) → outline_by t a b ≡ outline_by t (tile_place a) (option_map tile_place b)
  outline-place a None = refl
  outline-place a (Some b) = refl

  -- a whole tile drawn with an outline
  abbrev with_outline : WholeTile → List (NumberOf t.order) → Drawn
  with_outline w zs = record {
    class = w.first.kind;
    outline = record { items = map (point_of_number t.order) zs };
    first = part_drawn w.first;
    second = option_map part_drawn w.second;
  }

  same-whole-path : (w v : WholeTile) → whole_place v ≡ whole_place w → HaveSamePath (drawn_whole t v) (drawn_whole t w)
  same-whole-path w v e = record {
    class = ap (λ (x : WholeTile). x.first.kind) e;
    outline = ap (λ zs. (with_outline w zs).outline)
        (outline-place v.first v.second ∙ ap (outline_of t) e ∙ sym (outline-place w.first w.second));
  }

-- ---- at a place in a list
module _ (t : Tiling) (i : ℕ) where
  pub tile-path : (tiles : List PlacedTile) (y : PlacedTile) → i < length (map (drawn_of t) tiles)
      → IfSome (slice_get tiles i) (λ x. y.motion ≡ x.motion) → IfSome (slice_get tiles i) (λ x. y.kind ≡ x.kind)
      → IfSome (slice_get (map (drawn_of t) tiles) i) (HaveSamePath (drawn_of t y))
  tile-path tiles y below motion kind =
      let long = length-map tiles (drawn_of t) in
      let x : PlacedTile = get_or tiles i y in
      let at = slice_get-get_or tiles i y (omega (arith, long, below)) in
      let m = subst (λ (o : Option PlacedTile). IfSome o (λ x. y.motion ≡ x.motion)) at motion in
      let k = subst (λ (o : Option PlacedTile). IfSome o (λ x. y.kind ≡ x.kind)) at kind in
      let same : tile_place y ≡ tile_place x = λ j. record {
        kind = k j;
        motion = m j;
        addr = record { kind = 0; digits = record { items = [] } };
      } in
      subst (λ (o : Option Drawn). IfSome o (HaveSamePath (drawn_of t y))) (sym (slice_get-image (drawn_of t) x tiles i at))
      (same-path t x y same)

  pub whole-path : (wholes : List WholeTile) (v : WholeTile) → i < length (map (drawn_whole t) wholes)
      → IfSome (slice_get wholes i) (λ w. whole_place v ≡ whole_place w)
      → IfSome (slice_get (map (drawn_whole t) wholes) i) (HaveSamePath (drawn_whole t v))
  whole-path wholes v below places =
      let long = length-map wholes (drawn_whole t) in
      let w : WholeTile = get_or wholes i v in
      let at = slice_get-get_or wholes i v (omega (arith, long, below)) in
      let same = subst (λ (o : Option WholeTile). IfSome o (λ w. whole_place v ≡ whole_place w)) at places in
      subst (λ (o : Option Drawn). IfSome o (HaveSamePath (drawn_whole t v))) (sym (slice_get-image (drawn_whole t) w wholes i at))
      (same-whole-path t w v same)
