-- One point more of those that are put down as plain numbers.
use Rattle.std.proofs.Common.{◌≡◌, ◌+◌, ◌<◌, ℕ, List, [], ◌∷◌, ◌++◌, length, map, take, drop, get_or, slice_set, sym, ap, ◌∙◌, arith}
use Rattle.std.proofs.lemmas.Grind.{drop_more_same}
use Rattle.std.proofs.lemmas.List.{take_more, take_more_set, map-append, drop-set-lt}
use Rattle.cyclo_points.specs.declared.point.Point.{Point}
use Rattle.c_values.specs.declared.plain_point.PlainPoint.{PlainPoint}
use Rattle.c_values.specs.Outlines.{point_of}

pub points_more : (corners : List PlainPoint) (points : List Point) (i : ℕ) (d : Point) → i < length corners → i < length points
    → map point_of (take i corners) ≡ take i points
    → map point_of (take (i + 1) (slice_set corners i (record { c = (get_or points i d).c }))) ≡ take (i + 1) points
points_more corners points i d in_corners in_points front =
    ap (map point_of) (take_more_set corners i (record { c = (get_or points i d).c }) in_corners)
    ∙ map-append point_of (take i corners) (record { c = (get_or points i d).c } ∷ [])
    ∙ ap (λ (xs : List Point). xs ++ get_or points i d ∷ []) front
    ∙ sym (take_more points i d in_points)

-- what is behind them stays
pub behind_more : (corners old : List PlainPoint) (i : ℕ) (y : PlainPoint) → drop i corners ≡ drop i old
    → drop (i + 1) (slice_set corners i y) ≡ drop (i + 1) old
behind_more corners old i y same = drop-set-lt (i + 1) corners i y (omega arith) ∙ drop_more_same corners old i same
