-- What `place` prints for a tile, and what it refuses.
use Rattle.std.specs.Prelude.{◌≡◌, ℕ, List, [], ◌∷◌, ◌++◌, Some, None}
use Rattle.std.specs.Fmt.{decimal}
use Rattle.theory_addresses.specs.Address.{Address}
use Rattle.theory_substitution.specs.Motion.{Motion}
use Rattle.cyclo_points.specs.declared.order.Order.{Order}
use Rattle.cyclo_points.specs.declared.point.Point.{Point}
use Rattle.cyclo_points.specs.Order.{NumberOf, coefficients}
use Rattle.cyclo_points.specs.Text.{number_text, blank, newline}
use Rattle.rule_model.specs.Tiling.{Tiling, MotionOf, IsPlaced}
use Rattle.tile_place.specs.Placing.{first_refused}
use Rattle.call_notes.specs.declared.status.Status.{Status}
use Rattle.call_notes.specs.declared.status.Status.TheVariants.{CoordLimit}

-- the line of a tile in its place: `kind turn shift`
abbrev pub place_line : (o : Order) → ℕ → Motion (NumberOf o) → List ℕ
place_line o kind m = decimal kind ++ blank ∷ decimal m.turn ++ blank ∷ number_text o m.shift ++ newline ∷ []

-- none of the tile's Horner values is refused
abbrev pub CanBePlaced : Tiling → Address → Type 0
CanBePlaced t a = first_refused t a.digits ≡ None

-- the tile can be placed, and the text is the line of its kind and the motion by which it lies in its
-- supertile
pub record PrintsPlace (t : Tiling) (a : Address) (text : List ℕ) : Type 0 where
  pub within : CanBePlaced t a
  pub motion : MotionOf t
  pub placed : IsPlaced t a motion
  pub line : text ≡ place_line t.order a.kind motion

-- this point is the first of the tile's Horner values that is refused
pub record PassesLimit (t : Tiling) (a : Address) (value : Point) : Type 0 where
  pub number : NumberOf t.order
  pub first : first_refused t a.digits ≡ Some number
  pub is_value : value.c ≡ coefficients t.order number

-- the cause of each refusal
abbrev pub PlaceRefuses : Tiling → Address → Status → Type 0
PlaceRefuses t a (CoordLimit value) = PassesLimit t a value
PlaceRefuses t a _ = ⊥
