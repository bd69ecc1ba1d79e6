-- Whole tiles in order share no part, and none has a part twice.
use Rattle.std.proofs.Common.{◌≡◌, inl, inr, suc, ℤ, List, [], ◌∷◌, All, map, refl, sym, ap, ◌∙◌, subst, arith}
use Rattle.std.specs.Cmp.{tied_itself}
use Rattle.std.specs.Cmp.Lexicographic.{slice_cmp}
use Rattle.std.specs.Ordering.{int_cmp, is_lt}
use Rattle.std.specs.declared.cmp.Ordering.TheVariants.{Less, Equal}
use Rattle.std.proofs.lemmas.Cmp.{int_cmp_total, lists_total}
use Rattle.std.proofs.lemmas.Bool.{false≢true}
use Rattle.theory_addresses.specs.Search.{IsAmong}
use Rattle.theory_addresses.proofs.Ranges.{among-flat_map}
use Rattle.theory_substitution.specs.Supertile.{Placed}
use Rattle.cyclo_points.specs.Order.{NumberOf}
use Rattle.rule_model.specs.Tiling.{Tiling}
use Rattle.tile_place.specs.Searched.{placed_in}
use Rattle.theory_windows.specs.Distinct.{AreDistinct}
use Rattle.theory_windows.proofs.Members.{distinct-append}
use Rattle.theory_walks.specs.Frames.{FrameValue}
use Rattle.half_glue.specs.declared.whole_tile.WholeTile.{WholeTile}
use Rattle.half_glue.specs.Covering.{all_parts, PartsOnceLaw}
use Rattle.half_glue.specs.InOrder.{first_numbers, ComesBeforeWhole, AreWholesInOrder}
use Rattle.half_glue.specs.Outline.{whole_parts}
use Rattle.half_glue.specs.WholeTiles.{IsWholeTile}
use Rattle.half_glue.proofs.SharedParts.{same-numbers, one-first, own-distinct, first-stands}

-- ---- lists
-- what holds of each holds of what is among them
pub all-among : {A : Type 0} (Q : A → Type 0) (xs : List A) → All Q xs → (x : A) → IsAmong x xs → Q x
all-among Q [] h x i = elim i [ ]
all-among Q (y ∷ ys) h x (inl e) = subst Q (sym e) (h 0 x (omega arith))
all-among Q (y ∷ ys) h x (inr i) = all-among Q ys (λ k d l. h (suc k) d (omega (arith, l))) x i

-- ---- the order
before-later : (u v w : WholeTile) → ComesBeforeWhole u v → ComesBeforeWhole v w → ComesBeforeWhole u w
before-later u v w = (lists_total int_cmp_total).trans (first_numbers u) (first_numbers v) (first_numbers w)

before-each : (v : WholeTile) (ws : List WholeTile) → AreWholesInOrder (v ∷ ws) → (w : WholeTile) → IsAmong w ws → ComesBeforeWhole v w
before-each v [] o w i = elim i [ ]
before-each v (u ∷ ws) o w (inl e) = subst (ComesBeforeWhole v) (sym e) o.0
before-each v (u ∷ ws) o w (inr i) = before-later v u w o.0 (before-each u ws o.1 w i)

later-in_order : (v : WholeTile) (ws : List WholeTile) → AreWholesInOrder (v ∷ ws) → AreWholesInOrder ws
later-in_order v [] o = tt
later-in_order v (w ∷ ws) o = o.1

not-before : (xs ys : List ℤ) → xs ≡ ys → slice_cmp int_cmp xs ys ≡ Less → ⊥
not-before xs ys e less =
    let same : slice_cmp int_cmp xs ys ≡ Equal = ap (slice_cmp int_cmp xs) (sym e) ∙ tied_itself (lists_total int_cmp_total) xs in
    false≢true (ap is_lt (sym same ∙ less))

module _ (t : Tiling) (f : FrameValue) where
  abbrev parts : WholeTile → List (Placed (NumberOf t.order))
  parts w = map (placed_in t.order) (whole_parts w)

  apart : (v w : WholeTile) → IsWholeTile t f v → IsWholeTile t f w → ComesBeforeWhole v w
      → (y : Placed (NumberOf t.order)) → IsAmong y (parts v) → IsAmong y (parts w) → ⊥
  apart v w hv hw before y i j =
      not-before (first_numbers v) (first_numbers w)
      (same-numbers t f v.first w.first (first-stands t f v.first v.second hv)
      (first-stands t f w.first w.second hw) (one-first t f v.first w.first v.second w.second hv hw y i
      j)) before

  distinct : (ws : List WholeTile) → ((w : WholeTile) → IsAmong w ws → IsWholeTile t f w) → AreWholesInOrder ws → AreDistinct (all_parts t ws)
  distinct [] h o = tt
  distinct (v ∷ ws) h o =
      distinct-append (parts v) (all_parts t ws) (own-distinct t f v.first v.second (h v (inl refl)))
      (distinct ws (λ w i. h w (inr i)) (later-in_order v ws o))
      (λ y i j. let p = among-flat_map parts y ws j in apart v p.piece (h v (inl refl))
      (h p.piece (inr p.among)) (before-each v ws o p.piece p.among) y i p.inside)

pub parts-once : (t : Tiling) → PartsOnceLaw t
parts-once t f wholes whole in_order = distinct t f wholes (all-among (IsWholeTile t f) wholes whole) in_order
