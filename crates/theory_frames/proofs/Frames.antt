-- A longer coarse end moves no tile.
use Rattle.std.proofs.Common.{◌≡◌, ℕ, zero, suc, ◌+◌, ◌<◌, ◌≤◌, List, [], ◌∷◌, ◌++◌, length, map, drop, slice_get, Option, None, Some, refl, sym, ap, ap₂, ◌∙◌, subst, arith, mod-lt, length-append, length-drop, append_assoc}
use Rattle.std.specs.List.{AllByRecursion}
use Rattle.std.specs.Option.{option_and_then}
use Rattle.std.proofs.lemmas.Option.{slice_get_within}
use Rattle.std.proofs.lemmas.List.{length-map, append-nil, take-append-drop, length-take-le}
use Rattle.theory_substitution.specs.Points.{Points, PointLaws}
use Rattle.theory_substitution.specs.Motion.{Motion, followed}
use Rattle.theory_addresses.specs.Address.{Step, Address, depth, top_from, top_kind, kind_at, Climbs, Fits}
use Rattle.theory_substitution.specs.Rule.{Child, Kind, Rule, child_kinds}
use Rattle.theory_addresses.specs.Search.{IsAmong}
use Rattle.theory_substitution.specs.Supertile.{Placed, inflated, supertile}
use Rattle.theory_substitution.specs.RuleParts.{child_of}
use Rattle.theory_substitution.specs.Placement.{placement}
use Rattle.theory_addresses.proofs.Lists.{IsAmong-map, AllByRecursion-map, AllByRecursion-each, AllByRecursion-among}
use Rattle.theory_substitution.proofs.Placement.{IsPlaced, placement-append, supertile-placed}
use Rattle.theory_substitution.proofs.Addresses.{StandsBeside-placement}
use Rattle.theory_frames.specs.Back.{back}
use Rattle.theory_frames.specs.Frame.{at_level, motion_beside, frame_tiles, StandsInFrame, IsTileOf, lifted_in}
use Rattle.theory_frames.proofs.Group.{followed-assoc, back-of-followed}

-- ---- digits
pub top_from-join : (kind : ℕ) (ds es : List Step) → top_from kind (ds ++ es) ≡ top_from (top_from kind ds) es
top_from-join kind [] es = refl
top_from-join kind (d ∷ ds) es = top_from-join d.parent ds es

pub Climbs-join : (children : List (List ℕ)) (kind : ℕ) (ds es : List Step) → Climbs children kind ds
    → Climbs children (top_from kind ds) es → Climbs children kind (ds ++ es)
Climbs-join children kind [] es h k = k
Climbs-join children kind (d ∷ ds) es h k = (h.0, Climbs-join children d.parent ds es h.1 k)

pub Climbs-split : (children : List (List ℕ)) (kind : ℕ) (ds es : List Step) → Climbs children kind (ds ++ es)
    → Climbs children kind ds × Climbs children (top_from kind ds) es
Climbs-split children kind [] es h = (tt, h)
Climbs-split children kind (d ∷ ds) es h = let k = Climbs-split children d.parent ds es h.1 in ((h.0, k.0), k.1)

-- the ancestor's frame, and what lies above
module _ (f : Address) (level : ℕ) (within : level ≤ depth f) where
  pub digits-split : (at_level f level).digits ++ drop level f.digits ≡ f.digits
  digits-split = take-append-drop level f.digits

  pub at_level-depth : depth (at_level f level) ≡ level
  at_level-depth = length-take-le level f.digits within

  pub at_level-fits : (children : List (List ℕ)) → Fits children f → Fits children (at_level f level)
      × Climbs children (top_kind (at_level f level)) (drop level f.digits)
  at_level-fits children h =
      let k = Climbs-split children f.kind (at_level f level).digits (drop level f.digits)
      (subst (Climbs children f.kind) (sym digits-split) h.climbs) in
      (record { kind_exists = h.kind_exists; climbs = k.0 }, k.1)

  pub top_kind-split : top_from (top_kind (at_level f level)) (drop level f.digits) ≡ top_kind f
  top_kind-split = sym (top_from-join f.kind (at_level f level).digits (drop level f.digits)) ∙ ap (top_from f.kind) digits-split

-- ---- kinds by level
pub kind_at-top : (kind : ℕ) (ds : List Step) → kind_at (record { kind = kind; digits = ds }) (length ds) ≡ Some (top_from kind ds)
kind_at-top kind [] = refl
kind_at-top kind (d ∷ ds) = kind_at-top d.parent ds

pub kind_at-below : (kind : ℕ) (ds es : List Step) (level : ℕ) → level ≤ length ds
    → kind_at (record { kind = kind; digits = ds ++ es }) level ≡ kind_at
    (record { kind = kind; digits = ds }) level
kind_at-below kind ds es zero h = refl
kind_at-below kind [] es (suc level) h = absurd (omega arith)
kind_at-below kind (d ∷ ds) es (suc level) h = kind_at-below d.parent ds es level (omega arith)

-- what is of a frame is of a longer one
pub IsTileOf-longer : (children : List (List ℕ)) (f a : Address) (more : List Step) → IsTileOf children f a
    → IsTileOf children (record { kind = f.kind; digits = f.digits ++ more }) a
IsTileOf-longer children f a more t = record {
  fits = t.fits;
  no_deeper = omega (arith, length-append f.digits more, t.no_deeper);
  same_kind = t.same_kind ∙ sym (kind_at-below f.kind f.digits more (depth a) t.no_deeper);
}

-- the kind of a frame's ancestor
pub kind_at-level : (f : Address) (level : ℕ) → level ≤ depth f → kind_at f level ≡ Some (top_kind (at_level f level))
kind_at-level f level within =
    ap (λ ds. kind_at (record { kind = f.kind; digits = ds }) level) (sym (digits-split f level within))
    ∙ kind_at-below f.kind (at_level f level).digits (drop level f.digits) level (omega (arith, at_level-depth f level within))
    ∙ ap (kind_at (at_level f level)) (sym (at_level-depth f level within)) ∙ kind_at-top f.kind (at_level f level).digits

-- the top of a tile of a frame is the kind of the frame's ancestor
pub top_is : (children : List (List ℕ)) (f a : Address) → IsTileOf children f a → top_kind a ≡ top_kind (at_level f (depth a))
top_is children f a t = some_one (sym (kind_at-top a.kind a.digits) ∙ t.same_kind ∙ kind_at-level f (depth a) t.no_deeper)
  where
    some_one : {x y : ℕ} → Some x ≡ Some y → x ≡ y
    some_one e = cc (e)

-- the kind that an address that fits ends at exists
pub Climbs-top : (children : List (List ℕ)) (kind : ℕ) (ds : List Step) → kind < length children
    → Climbs children kind ds → top_from kind ds < length children
Climbs-top children kind [] h c = h
Climbs-top children kind (d ∷ ds) h c = Climbs-top children d.parent ds (row (slice_get children d.parent) refl c.0) c.1
  where
    row : (x : Option (List ℕ)) → slice_get children d.parent ≡ x
        → option_and_then (λ row. slice_get row d.child) x ≡ Some kind → d.parent < length children
    row None e g = absurd (cc g)
    row (Some x) e g = slice_get_within children d.parent x e

pub top-exists : {A : Type 0} (r : Rule A) (a : Address) → Fits (child_kinds r) a → top_kind a < length r.kinds
top-exists {A} r a fits =
    subst (λ (n : ℕ). top_kind a < n) (length-map r.kinds
    (λ (k : Kind A). map (λ (c : Child A). c.kind) k.children))
    (Climbs-top (child_kinds r) a.kind a.digits fits.kind_exists fits.climbs)

-- a tile of a frame, lifted, is a tile of the whole frame
pub record IsWhole (children : List (List ℕ)) (f a : Address) : Type 0 where
  pub fits : Fits children a
  pub same_depth : depth a ≡ depth f
  pub same_top : top_kind a ≡ top_kind f

pub lifted-whole : (children : List (List ℕ)) (f a : Address) → Fits children f → IsTileOf children f a → IsWhole children f (lifted_in f a)
lifted-whole children f a h t = record {
  fits = record {
    kind_exists = t.fits.kind_exists;
    climbs = Climbs-join children a.kind a.digits (drop (depth a) f.digits) t.fits.climbs
        (subst (λ k. Climbs children k (drop (depth a) f.digits)) (sym (top_is children f a t)) above.1);
  };
  same_depth = omega (arith, length-append a.digits (drop (depth a) f.digits), length-drop (depth a) f.digits, t.no_deeper);
  same_top = top_from-join a.kind a.digits (drop (depth a) f.digits)
      ∙ ap (λ k. top_from k (drop (depth a) f.digits)) (top_is children f a t)
      ∙ top_kind-split f (depth a) t.no_deeper;
}
  where
    above : Fits children (at_level f (depth a)) × Climbs children (top_kind (at_level f (depth a))) (drop (depth a) f.digits)
    above = at_level-fits f (depth a) t.no_deeper children h

module _ (P : Points) (W : PointLaws P) (some : 0 < P.order) (r : Rule P.ring.carrier) where
  pub placement-turn : (ds : List Step) → (placement P r ds).turn < P.order
  placement-turn [] = some
  placement-turn (d ∷ ds) = mod-lt ((placement P r ds).turn + (child_of P r d.parent d.child).motion.turn) some

  -- one coarse digit more, on the tile and on the base: the inflated motion of the child and its motion back cancel
  one_more : (base tile : List Step) (d : Step) → length tile ≡ length base
      → motion_beside P r (base ++ d ∷ []) (tile ++ d ∷ []) ≡ motion_beside P r base tile
  one_more base tile d same =
      ap₂ (λ t b. followed P t (back P b)) (placement-append P W r tile d
      ∙ ap (λ n. followed P a (inflated P r n c)) same) (placement-append P W r base d)
      ∙ followed-assoc P W a g (back P (followed P b g))
      ∙ ap (followed P a) (back-of-followed P W b g (placement-turn base))
    where
      c : Motion P.ring.carrier
      c = (child_of P r d.parent d.child).motion

      a : Motion P.ring.carrier
      a = placement P r tile

      b : Motion P.ring.carrier
      b = placement P r base

      g : Motion P.ring.carrier
      g = inflated P r (length base) c

  -- a longer coarse end moves no tile
  pub moves_none : (base tile coarse : List Step) → length tile ≡ length base
      → motion_beside P r (base ++ coarse) (tile ++ coarse) ≡ motion_beside P r base tile
  moves_none base tile [] same = ap₂ (motion_beside P r) (append-nil base) (append-nil tile)
  moves_none base tile (d ∷ ds) same =
      ap₂ (motion_beside P r) (sym (append_assoc base (d ∷ []) ds)) (sym (append_assoc tile (d ∷ []) ds))
      ∙ moves_none (base ++ d ∷ []) (tile ++ d ∷ []) ds (omega (arith, same, length-append base (d ∷ []), length-append tile (d ∷ [])))
      ∙ one_more base tile d same

  -- the same of a tile that is lifted: it has in the frame the motion that it had at its own depth
  pub lifted-moves_none : (f a : Address) → depth a ≤ depth f
      → motion_beside P r f.digits (lifted_in f a).digits ≡ motion_beside P r (at_level f (depth a)).digits
      a.digits
  lifted-moves_none f a within =
      ap (λ ds. motion_beside P r ds (lifted_in f a).digits) (sym (digits-split f (depth a) within))
      ∙ moves_none (at_level f (depth a)).digits a.digits (drop (depth a) f.digits) (sym (at_level-depth f (depth a) within))

  -- among the tiles of a frame each motion is that of the digits beside it
  pub frame-placed : (f : Address) → AllByRecursion (λ t. t.motion ≡ motion_beside P r f.digits t.address.digits) (frame_tiles P r f)
  frame-placed f =
      AllByRecursion-map (λ t. t.motion ≡ motion_beside P r f.digits t.address.digits) in_frame (supertile P r (top_kind f) (depth f))
      (AllByRecursion-each (IsPlaced P W r (depth f)) _ (supertile P r (top_kind f) (depth f))
      (λ t h. ap (λ m. followed P m (back P (placement P r f.digits))) h.motion_is)
      (supertile-placed P W r (top_kind f) (depth f)))
    where
      in_frame : Placed P.ring.carrier → Placed P.ring.carrier
      in_frame t = record { address = t.address; motion = followed P t.motion (back P (placement P r f.digits)) }

  pub StandsInFrame-whole : (f a : Address) → IsWhole (child_kinds r) f a → StandsInFrame P r f a (motion_beside P r f.digits a.digits)
  StandsInFrame-whole f a w = record {
    among = IsAmong-map (λ (t : Placed P.ring.carrier). record
        { address = t.address; motion = followed P t.motion (back P (placement P r f.digits)) })
        (record { address = a; motion = placement P r a.digits }) (supertile P r (top_kind f) (depth f)) here;
    alone = λ g i. AllByRecursion-among (λ t. t.motion ≡ motion_beside P r f.digits t.address.digits)
        (record { address = a; motion = g }) (frame_tiles P r f) i (frame-placed f);
  }
    where
      here : IsAmong (record { address = a; motion = placement P r a.digits }) (supertile P r (top_kind f) (depth f))
      here =
          subst (λ k. IsAmong (record { address = a; motion = placement P r a.digits }) (supertile P r k (depth f))) w.same_top
          (subst (λ n. IsAmong (record { address = a; motion = placement P r a.digits }) (supertile P r (top_kind a) n)) w.same_depth
          (StandsBeside-placement P W r a w.fits).among)

  -- the motion that stands beside a tile in the frame of its own depth stands beside the lifted tile in the whole frame
  pub lifted-stands : (f a : Address) (m : Motion P.ring.carrier) → Fits (child_kinds r) f → IsTileOf (child_kinds r) f a
      → StandsInFrame P r (at_level f (depth a)) a m → StandsInFrame P r f (lifted_in f a) m
  lifted-stands f a m h t s =
      subst (StandsInFrame P r f (lifted_in f a)) (lifted-moves_none f a t.no_deeper ∙ s.alone _ own.among)
      (StandsInFrame-whole f (lifted_in f a) (lifted-whole (child_kinds r) f a h t))
    where
      own : StandsInFrame P r (at_level f (depth a)) a (motion_beside P r (at_level f (depth a)).digits a.digits)
      own = StandsInFrame-whole (at_level f (depth a)) a
          (record {
            fits = t.fits;
            same_depth = sym (at_level-depth f (depth a) t.no_deeper);
            same_top = top_is (child_kinds r) f a t;
          })
