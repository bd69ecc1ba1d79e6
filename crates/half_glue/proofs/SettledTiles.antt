-- One more tile of a list is settled.
use Rattle.std.proofs.Common.{◌≡◌, inl, inr, ℕ, ◌+◌, ◌<◌, ◌≤◌, List, [], ◌∷◌, ◌++◌, All, length, get_or, take, refl, sym, ap, ◌∙◌, subst, arith, take-suc, add-one}
use Rattle.std.specs.List.{Contains}
use Rattle.std.proofs.lemmas.Bool.{cases_lt}
use Rattle.std.proofs.lemmas.List.Elements.{All-push, All-take}
use Rattle.theory_frames.specs.Frame.{lifted_in}
use Rattle.rule_model.specs.declared.rule.Rule.{Rule}
use Rattle.rule_model.specs.Tiling.{Tiling, tiling_of}
use Rattle.tile_place.specs.declared.placed_tile.PlacedTile.{PlacedTile}
use Rattle.tile_shape.specs.Views.{address_of}
use Rattle.theory_walks.specs.Ancestors.{full}
use Rattle.theory_walks.specs.Boundary.{IsBoundaryEdge}
use Rattle.theory_walks.specs.Frames.{FrameValue, whole, IsFrameOf, GrowsTo}
use Rattle.theory_walks.proofs.Ancestors.{full-later}
use Rattle.theory_walks.proofs.Walked.{at_depth-grown}
use Rattle.theory_walks.proofs.Walks.{GrowsTo-then}
use Rattle.half_glue.specs.declared.glue_fault.GlueFault.{GlueFault}
use Rattle.half_glue.specs.declared.glue_fault.GlueFault.TheVariants.{DepthLimit, CoordLimit, NoMemory}
use Rattle.half_glue.specs.Causes.{HasGlueCause}
use Rattle.half_glue.specs.Checked.{HasGlueLaws}
use Rattle.half_glue.specs.Depth.{IsGluedInside, IsTooShallow}
use Rattle.half_glue.specs.Given.{IsGiven}
use Rattle.half_glue.specs.Limits.{CanBeJoined}
use Rattle.half_glue.proofs.Settling.{given-on, inside-on}

-- the tiles in front are inside the frame as it is now, which grew no further than they need, and can be joined
pub record AreSettled (t : Tiling) (old now : FrameValue) (all done : List PlacedTile) : Type 0 where
  pub grows : GrowsTo t old now
  pub inside : All (IsGluedInside t old (length now.digits)) done
  pub joined : All (CanBeJoined t (full t old)) done
  pub least : (k : ℕ) → length old.digits ≤ k → k < length now.digits → IsTooShallow t old all k

-- ---- what a list of one contains is in the list
pub of-one : {A : Type 0} (x y : A) → Contains (x ∷ []) y → y ≡ x
of-one x y c = sym c.2 ∙ first c.0 c.1
  where
    first : (k : ℕ) → k < 1 → get_or (x ∷ []) k y ≡ x
    first k l = let zero_is : 0 ≡ k = omega (arith, l) in subst (λ i. get_or (x ∷ []) i y ≡ x) zero_is refl

pub one-of : {A : Type 0} (xs : List A) (x y : A) → Contains xs x → Contains (x ∷ []) y → Contains xs y
one-of xs x y all c = subst (Contains xs) (sym (of-one x y c)) all

module _ (t : Tiling) (old now : FrameValue) (grows : GrowsTo t old now) (xs : List PlacedTile) (x : PlacedTile) (among : Contains xs x) where
  -- too shallow for one of the tiles
  pub shallow-of : (n : ℕ) → IsTooShallow t now (x ∷ []) n → IsTooShallow t old xs n
  shallow-of n s = record {
    tile = s.tile;
    edge = s.edge;
    is_given = one-of xs x s.tile among s.is_given;
    glue_edge = s.glue_edge;
    on_boundary = subst (λ (f : FrameValue). IsBoundaryEdge t (lifted_in (whole f) (address_of s.tile.addr))
        s.edge) (at_depth-grown t old now n grows) s.on_boundary;
  }

  -- what the frame has left behind is so for the tiles, where it has grown further for one of them alone
  pub left-behind : ((n : ℕ) → length old.digits ≤ n → n < length now.digits → IsTooShallow t old xs n)
      → (after : FrameValue) → ((n : ℕ) → length now.digits ≤ n → n < length after.digits → IsTooShallow t now (x ∷ []) n)
      → (n : ℕ) → length old.digits ≤ n → n < length after.digits → IsTooShallow t old xs n
  left-behind before after least n l h = elim (cases_lt n (length now.digits)) [
    | inl k ↦ before n l k
    | inr k ↦ shallow-of n (least n k h)
  ]

  -- and the cause of its fault is one of theirs
  pub cause-of : (after : FrameValue) (fault : GlueFault) → HasGlueCause t now after (x ∷ []) fault → HasGlueCause t old after xs fault
  cause-of after (DepthLimit addr edge) h = record {
    tile = h.tile;
    is_given = one-of xs x h.tile among h.is_given;
    its_address = h.its_address ∙ ap (λ (f : FrameValue). lifted_in (whole f) (address_of h.tile.addr)) (at_depth-grown t old now 64 grows);
    glue_edge = h.glue_edge;
    on_boundary = subst (λ (f : FrameValue). IsBoundaryEdge t (lifted_in (whole f) (address_of h.tile.addr))
        edge) (at_depth-grown t old now 64 grows) h.on_boundary;
  }
  cause-of after (CoordLimit value) h = record {
    tile = h.tile;
    is_given = one-of xs x h.tile among h.is_given;
    edge = h.edge;
    glue_edge = h.glue_edge;
    other = h.other;
    back = h.back;
    across = h.across;
    motion = h.motion;
    stands = h.stands;
    its_shift = h.its_shift;
    value_in_order = h.value_in_order;
    is_refused = h.is_refused;
  }
  cause-of after NoMemory h = h

-- ---- one more
module _ (m : Rule) (L : HasGlueLaws m) (old now : FrameValue) (is : IsFrameOf (tiling_of m) old)
    (xs : List PlacedTile) (given : All (IsGiven (tiling_of m) old) xs) (i : ℕ) (below : i < length xs)
    (x : PlacedTile)
    (at : get_or xs i x ≡ x) (before : AreSettled (tiling_of m) old now xs (take i xs)) where
  abbrev t : Tiling
  t = tiling_of m

  pub among : Contains xs x
  among = (i, below, at)

  to_now : (n : ℕ) (y : PlacedTile) → IsGluedInside t old n y → IsGluedInside t now n y
  to_now n y h e glue on = h e glue (subst (λ (f : FrameValue). IsBoundaryEdge t
      (lifted_in (whole f) (address_of y.addr)) e) (at_depth-grown t old now n before.grows) on)

  to_old : (n : ℕ) (y : PlacedTile) → IsGluedInside t now n y → IsGluedInside t old n y
  to_old n y h e glue on = h e glue (subst (λ (f : FrameValue). IsBoundaryEdge t
      (lifted_in (whole f) (address_of y.addr)) e) (sym (at_depth-grown t old now n before.grows)) on)

  pub one-more : (after : FrameValue) → GrowsTo t now after → IsGluedInside t now (length after.digits) x → CanBeJoined t (full t now) x
      → ((n : ℕ) → length now.digits ≤ n → n < length after.digits → IsTooShallow t now (x ∷ []) n) → AreSettled t old after xs (take (i + 1) xs)
  one-more after up inside joined least = record {
    grows = grows;
    inside = subst (All (IsGluedInside t old (length after.digits))) (sym more)
        (All-push (IsGluedInside t old (length after.digits)) (take i xs) x kept (to_old (length after.digits) x inside));
    joined = subst (All (CanBeJoined t (full t old))) (sym more)
        (All-push (CanBeJoined t (full t old)) (take i xs) x before.joined
        (subst (λ y. CanBeJoined t y x) (full-later t old now before.grows) joined));
    least = left-behind t old now before.grows xs x among before.least after least;
  }
    where
      grows : GrowsTo t old after
      grows = GrowsTo-then t old now after before.grows up

      more : take (i + 1) xs ≡ take i xs ++ x ∷ []
      more = ap (λ n. take n xs) (add-one i) ∙ take-suc xs i x below ∙ ap (λ (y : PlacedTile). take i xs ++ y ∷ []) at

      -- those before stay inside
      kept : All (IsGluedInside t old (length after.digits)) (take i xs)
      kept k d l = inside-later (get_or (take i xs) k d) (given-at k d l) (before.inside k d l)
        where
          given-at : (k : ℕ) (d : PlacedTile) → k < length (take i xs) → IsGiven t old (get_or (take i xs) k d)
          given-at k d l = All-take (IsGiven t old) i xs given k d l

          inside-later : (y : PlacedTile) → IsGiven t old y → IsGluedInside t old (length now.digits) y → IsGluedInside t old (length after.digits) y
          inside-later y own h = to_old (length after.digits) y
              (inside-on m L now before.grows.is_frame y (given-on m L old is y own now before.grows) after up (to_now (length now.digits) y h))
