-- The base's ancestors in the frame at depth 64, and in the frame as it is.
use Rattle.std.proofs.Common.{◌≡◌, ℕ, zero, suc, ◌+◌, ◌<◌, ◌≤◌, List, [], ◌∷◌, ◌++◌, length, map, get_or, slice_get, take, Some, Option, refl, sym, ap, ap₂, ◌∙◌, subst, arith, add-one}
use Rattle.std.proofs.lemmas.List.{take-append-le, take_at, length-take-le, length-map}
use Rattle.std.proofs.lemmas.Option.{slice_get_within}
use Rattle.theory_ring.specs.Ring.{power}
use Rattle.theory_addresses.specs.Address.{Step, Address, depth, top_kind, kind_at}
use Rattle.theory_substitution.specs.Points.{Points}
use Rattle.theory_substitution.specs.Motion.{Motion}
use Rattle.theory_substitution.specs.Rule.{Rule}
use Rattle.theory_substitution.specs.RuleParts.{child_of}
use Rattle.theory_substitution.specs.Placement.{placement}
use Rattle.theory_frames.specs.Back.{back}
use Rattle.theory_frames.specs.Frame.{at_level}
use Rattle.theory_frames.specs.Outward.{one_out_by, outward}
use Rattle.theory_frames.specs.Outline.{outline, supertile_holds}
use Rattle.theory_frames.specs.Contain.{ancestor_motion, ancestor_holds}
use Rattle.theory_frames.proofs.Frames.{at_level-fits, kind_at-level, top-exists}
use Rattle.theory_frames.proofs.Outwards.{outward-next}
use Rattle.cyclo_points.specs.declared.order.Order.{Order}
use Rattle.cyclo_points.specs.Order.{NumberOf, points_of}
use Rattle.rule_model.specs.Tiling.{Tiling, MotionOf, children}
use Rattle.theory_substitution.specs.Supertile.{Placed}
use Rattle.theory_frames.specs.Descent.{tile_holding}
use Rattle.tile_shape.specs.declared.step.Step as program
use Rattle.tile_shape.specs.Views.{step_of}
use Rattle.theory_walks.specs.Ancestors.{full}
use Rattle.theory_walks.specs.Containing.{frame_motion}
use Rattle.theory_walks.specs.Frames.{FrameValue, whole, at_depth, IsFrameOf, GrowsTo}
use Rattle.theory_walks.proofs.Walks.{StillFits, whole-fits, at_depth-depth}
use Rattle.theory_walks.proofs.Lifting.{Longer, longer}

-- growth doesn't change the frame at depth 64
pub full-later : (t : Tiling) (f g : FrameValue) → GrowsTo t f g → full t g ≡ full t f
full-later t f g h = λ i. full t (record { base = h.same_base i; start = h.same_start i; digits = g.digits })

slice_get-front : {A : Type 0} (xs ys : List A) (i : ℕ) → i < length xs → slice_get (xs ++ ys) i ≡ slice_get xs i
slice_get-front [] ys i h = absurd (omega arith)
slice_get-front (x ∷ xs) ys zero h = refl
slice_get-front (x ∷ xs) ys (suc i) h = slice_get-front xs ys i (omega arith)

slice_get-step : (ds : List program.Step) (i : ℕ) (d : program.Step) → i < length ds → slice_get (map step_of ds) i ≡ Some (step_of (get_or ds i d))
slice_get-step [] i d h = absurd (omega arith)
slice_get-step (x ∷ xs) zero d h = refl
slice_get-step (x ∷ xs) (suc i) d h = slice_get-step xs i d (omega arith)

module _ (t : Tiling) (f : FrameValue) (h : IsFrameOf t f) where
  above : Longer t f (length f.digits) 64
  above = longer t f (length f.digits) 64 h.holds_base h.at_most_64

  full-is : (full t f).digits ≡ f.digits ++ above.more
  full-is = above.is ∙ ap (λ (x : FrameValue). x.digits ++ above.more) (sym h.its_digits)

  -- an ancestor up to the frame's depth is one of the frame as it is
  pub level-same : (level : ℕ) → level ≤ length f.digits → at_level (full t f) level ≡ at_level (whole f) level
  level-same level l = λ i. record { kind = f.base.kind; digits = (ap (take level) full-is ∙ take-append-le level f.digits above.more l) i }

  -- and one beyond names the frame of that depth
  pub level-at : (n : ℕ) → length f.digits ≤ n → n ≤ 64 → at_level (full t f) n ≡ whole (at_depth t n f)
  level-at n l m = λ i. record { kind = f.base.kind; digits = digits i }
    where
      deep : depth f.base ≤ n
      deep = omega (arith, h.holds_base, l)

      up : Longer t f n 64
      up = longer t f n 64 deep m

      digits : take n (full t f).digits ≡ (at_depth t n f).digits
      digits = ap (take n) up.is ∙ take_at (at_depth t n f).digits up.more n (at_depth-depth t f n deep)

  pub kind-same : (level kind : ℕ) → level ≤ length f.digits → Some kind ≡ kind_at (whole f) level → kind ≡ top_kind (at_level (full t f) level)
  kind-same level kind l e = some_one (e ∙ kind_at-level (whole f) level l) ∙ ap top_kind (sym (level-same level l))
    where
      some_one : {x y : ℕ} → Some x ≡ Some y → x ≡ y
      some_one e = cc (e)

  pub kind-exists : StillFits (children t) → (level : ℕ) → level ≤ length f.digits → top_kind (at_level (full t f) level) < length t.rule.kinds
  kind-exists fits level l =
      subst (λ a. top_kind a < length t.rule.kinds) (sym (level-same level l))
      (top-exists t.rule (at_level (whole f) level) (at_level-fits (whole f) level l (children t) (whole-fits t fits f h)).0)

  pub digit-same : (ds : List program.Step) (level : ℕ) (d : program.Step) → map step_of ds ≡ f.digits
      → level < length f.digits → slice_get (full t f).digits level ≡ Some (step_of (get_or ds level d))
  digit-same ds level d e l =
      ap (λ xs. slice_get xs level) full-is ∙ slice_get-front f.digits above.more level l ∙ ap (λ xs. slice_get xs level) (sym e)
      ∙ slice_get-step ds level d (omega (arith, l, ap length e, length-map ds step_of))

-- ---- the next ancestor
take-next : {A : Type 0} (xs : List A) (i : ℕ) (x : A) → slice_get xs i ≡ Some x → take (i + 1) xs ≡ take i xs ++ x ∷ []
take-next [] i x e = absurd (cc e)
take-next (y ∷ ys) zero x e = ap (λ z. z ∷ []) same
  where
    same : y ≡ x
    same = cc (e)
take-next (y ∷ ys) (suc i) x e = ap (λ n. take n (y ∷ ys)) next ∙ ap (λ zs. y ∷ zs) (take-next ys i x e)
  where
    next : suc i + 1 ≡ suc (i + 1)
    next = omega arith

pub next-motion : (P : Points) (r : Rule P.ring.carrier) (f : Address) (level : ℕ) (s : Step)
    (scale : P.ring.carrier) (m : Motion P.ring.carrier) → slice_get f.digits level ≡ Some s
    → scale ≡ power P.ring r.factor level → m ≡ ancestor_motion P r f level
    → one_out_by P scale m (child_of P r s.parent s.child).motion ≡ ancestor_motion P r f (level + 1)
next-motion P r f level s scale m e p a =
    ap₂ (λ z g. one_out_by P z g (child_of P r s.parent s.child).motion)
    (p ∙ ap (power P.ring r.factor) (sym (length-take-le level f.digits below))) a
    ∙ sym (outward-next P r (take level f.digits) s) ∙ ap (outward P r) (sym (take-next f.digits level s e))
  where
    below : level ≤ length f.digits
    below = omega (arith, slice_get_within f.digits level s e)

pub next-power_is : (P : Points) (l x y : P.ring.carrier) (level : ℕ) → y ≡ P.ring.mul l x → x ≡ power P.ring l level → y ≡ power P.ring l (level + 1)
next-power_is P l x y level e h = e ∙ ap (P.ring.mul l) h ∙ ap (power P.ring l) (sym (add-one level))

-- an ancestor that is the frame's supertile holds what the frame holds
pub frame-holds : (t : Tiling) (f : Address) (n : ℕ) (g : FrameValue) (p : NumberOf t.order) → at_level f n ≡ whole g → length g.digits ≡ n
    → outward (points_of t.order) t.rule g.digits ≡ back (points_of t.order) (placement (points_of t.order) t.rule g.digits)
    → ancestor_holds (points_of t.order) t.rule f n p ≡ supertile_holds (points_of t.order) t.rule
    (top_kind (whole g)) (length g.digits) (frame_motion t g) p
frame-holds t f n g p e d w =
    ap (λ (a : Address). supertile_holds (points_of t.order) t.rule (top_kind a) n (outward (points_of t.order) t.rule a.digits) p) e
    ∙ ap₂ (λ k m. supertile_holds (points_of t.order) t.rule (top_kind (whole g)) k m p) (sym d) w

pub same_outline : (o : Order) (r : Rule (NumberOf o)) (k l : ℕ) (s t : NumberOf o)
    (m g : Motion (NumberOf o)) → k ≡ l → s ≡ t → m ≡ g
    → outline (points_of o) r k s m ≡ outline (points_of o) r l t g
same_outline o r k l s t m g a b c = λ i. outline (points_of o) r (a i) (b i) (c i)

-- what a search in an ancestor finds, in the frame as it is
pub found_at : (t : Tiling) (f : FrameValue) (h : IsFrameOf t f) (level : ℕ) (p : NumberOf t.order) (kind : ℕ)
    (at : MotionOf t) (x : Option (Placed (NumberOf t.order))) → level ≤ length f.digits
    → kind ≡ top_kind (at_level (full t f) level)
    → at ≡ ancestor_motion (points_of t.order) t.rule (full t f) level
    → tile_holding (points_of t.order) t.rule kind level at p ≡ x
    → tile_holding (points_of t.order) t.rule (top_kind (at_level (whole f) level)) level
    (ancestor_motion (points_of t.order) t.rule (whole f) level) p ≡ x
found_at t f h level p kind at x l k a e =
    ap (λ (b : Address). tile_holding (points_of t.order) t.rule (top_kind b) level
    (outward (points_of t.order) t.rule b.digits) p) (sym (level-same t f h level l))
    ∙ ap₂ (λ k g. tile_holding (points_of t.order) t.rule k level g p) (sym k) (sym a) ∙ e
