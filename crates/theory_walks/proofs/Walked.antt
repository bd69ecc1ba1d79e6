-- Going along a path from the base of a frame that grows.
use Rattle.std.proofs.Common.{◌≡◌, ℕ, zero, suc, ◌+◌, ◌-◌, ◌<◌, ◌≤◌, inl, inr, Some, List, [], ◌∷◌, ◌++◌, length, get_or, take, drop, refl, sym, ap, ap₂, ◌∙◌, subst, arith, append_assoc}
use Rattle.std.proofs.lemmas.Bool.{cases_lt}
use Rattle.std.proofs.Math.Seq.{drop-append_seam}
use Rattle.theory_addresses.specs.Address.{Step, Address, depth, top_kind, kind_at, Fits}
use Rattle.theory_frames.specs.Growth.{grown_from}
use Rattle.theory_frames.specs.Frame.{IsTileOf, lifted_in}
use Rattle.theory_frames.proofs.Frames.{IsWhole, kind_at-top}
use Rattle.rule_model.specs.declared.rule.Rule.{Rule}
use Rattle.rule_model.specs.Tiling.{Tiling, tiling_of, children}
use Rattle.seeded_growth.specs.Words.{word}
use Rattle.tile_place.specs.Crossed.{edges_of}
use Rattle.tile_place.proofs.Plane.{OnlyTilesLaw, BoundariesLaw, IsSettled}
use Rattle.tile_shape.specs.Usable.{AreUsable}
use Rattle.tile_shape.specs.UsesInOrder.{uses_in_order}
use Rattle.cyclo_points.specs.declared.order.Order.{Order}
use Rattle.theory_walks.specs.Boundary.{IsBoundaryEdge}
use Rattle.theory_walks.specs.Frames.{FrameValue, whole, at_depth, IsFrameOf, GrowsTo, lifted_at}
use Rattle.theory_walks.specs.Paths.{Crosses, Leads, CanBeWalked, ComesTo, IsStopped}
use Rattle.theory_walks.proofs.Walks.{StillFits, whole-fits, later, GrowsTo-is, GrowsTo-self, GrowsTo-then}
use Rattle.theory_walks.proofs.Lifting.{Longer, longer}
use Rattle.theory_walks.proofs.Longer.{further_up, Leads-longer, Leads-further}

-- the frame of a depth is the same from a frame that has grown
pub at_depth-grown : (t : Tiling) (f g : FrameValue) (n : ℕ) → GrowsTo t f g → at_depth t n g ≡ at_depth t n f
at_depth-grown t f g n h = λ i. at_depth t n (record { base = h.same_base i; start = h.same_start i; digits = g.digits })

-- a frame that has grown has further digits, and they stand behind those of each tile of its old depth
record Grown (f g : FrameValue) : Type 0 where
  more : List Step
  frame : whole g ≡ further_up (whole f) more
  tile : (a : Address) → depth a ≡ length f.digits → lifted_in (whole g) a ≡ further_up a more

grown_of : (t : Tiling) (f g : FrameValue) → IsFrameOf t f → GrowsTo t f g → Grown f g
grown_of t f g is h = record { more = up.more; frame = frame; tile = tile }
  where
    up : Longer t f (length f.digits) (length g.digits)
    up = longer t f (length f.digits) (length g.digits) is.holds_base h.no_shallower

    digits : g.digits ≡ f.digits ++ up.more
    digits = ap (λ (x : FrameValue). x.digits) (GrowsTo-is t f g h) ∙ up.is ∙ ap (λ (x : FrameValue). x.digits ++ up.more) (sym is.its_digits)

    frame : whole g ≡ further_up (whole f) up.more
    frame = λ i. record { kind = (h.same_base i).kind; digits = digits i }

    tile : (a : Address) → depth a ≡ length f.digits → lifted_in (whole g) a ≡ further_up a up.more
    tile a e = ap (further_up a) (ap₂ drop e digits ∙ drop-append_seam f.digits up.more)

-- the path in front leads to the tile, in the frame as it is now; in each frame before, a path that begins so is stopped
pub record IsOnPath (m : Rule) (old now : FrameValue) (a : Address) (front : List ℕ) : Type 0 where
  pub grows : GrowsTo (tiling_of m) old now
  pub own : IsWhole (children (tiling_of m)) (whole now) a
  pub leads : Leads (tiling_of m) (whole now) front a
  pub before : (n : ℕ) (rest : List ℕ) → length old.digits ≤ n → n < length now.digits
      → IsStopped (tiling_of m) (whole (at_depth (tiling_of m) n old)) (front ++ rest)

-- what the laws say of a machine's rule
pub record HasLaws (m : Rule) : Type 0 where
  pub settled : IsSettled m
  pub across : OnlyTilesLaw m.order
  pub boundary : BoundariesLaw m.order
  pub fits : StillFits (children (tiling_of m))

pub laws_are : (o : Order) (inside m : Rule) (kinds : List (List ℕ)) → o ≡ inside.order → inside ≡ m
    → IsSettled m → OnlyTilesLaw o → BoundariesLaw o → kinds ≡ children (tiling_of inside) → AreUsable kinds
    → ((children : List (List ℕ)) → AreUsable children → StillFits children) → HasLaws m
laws_are o inside m kinds same_order same settled across boundary is usable law = record {
  settled = settled;
  across = subst OnlyTilesLaw (same_order ∙ ap (λ (r : Rule). r.order) same) across;
  boundary = subst BoundariesLaw (same_order ∙ ap (λ (r : Rule). r.order) same) boundary;
  fits = law (children (tiling_of m)) (subst AreUsable (is ∙ ap (λ (r : Rule). children (tiling_of r)) same) usable);
}

-- a list at one of its places
pub parted : (xs : List ℕ) (i : ℕ) → i < length xs → xs ≡ take i xs ++ get_or xs i 0 ∷ drop (i + 1) xs
parted [] i h = absurd (omega arith)
parted (x ∷ xs) zero h = refl
parted (x ∷ xs) (suc i) h = let e : suc i + 1 ≡ suc (i + 1) = omega arith in rw e (ap (λ ys. x ∷ ys) (parted xs i (omega arith)))

-- a tile of the frame's supertile is of the frame, and lifted it is itself
pub whole-tile_of : (children : List (List ℕ)) (f a : Address) → IsWhole children f a → IsTileOf children f a
whole-tile_of children f a own = record {
  fits = own.fits;
  no_deeper = omega (arith, own.same_depth);
  same_kind = kind_at-top a.kind a.digits ∙ ap (λ k. Some k) own.same_top ∙ sym (kind_at-top f.kind f.digits) ∙ ap (kind_at f) (sym own.same_depth);
}

-- and the other way round, where it has the depth of the frame
pub tile_of-whole : (children : List (List ℕ)) (f a : Address) → IsTileOf children f a → depth a ≡ depth f → IsWhole children f a
tile_of-whole children f a of same = record {
  fits = of.fits;
  same_depth = same;
  same_top = one (sym (kind_at-top a.kind a.digits) ∙ of.same_kind ∙ ap (kind_at f) same
      ∙ kind_at-top f.kind f.digits);
}
  where
    one : {x y : ℕ} → Some x ≡ Some y → x ≡ y
    one e = cc (e)

-- the base, lifted, names the frame
pub base-lifted : (t : Tiling) (f : FrameValue) → IsFrameOf t f → lifted_in (whole f) f.base ≡ whole f
base-lifted t f is = λ i. record { kind = f.base.kind; digits = split i }
  where
    grown : List Step
    grown = grown_from (uses_in_order (children t)) (word f.start) 0 (top_kind f.base) (length f.digits - depth f.base)

    own : f.digits ≡ f.base.digits ++ grown
    own = ap (λ (x : FrameValue). x.digits) is.its_digits

    split : f.base.digits ++ drop (depth f.base) f.digits ≡ f.digits
    split = ap (λ ds. f.base.digits ++ drop (depth f.base) ds) own ∙ ap (λ ds. f.base.digits ++ ds) (drop-append_seam f.base.digits grown) ∙ sym own

module _ (m : Rule) (laws : HasLaws m) where
  -- a path that can be walked in a frame leads in the grown one to the lifted tile
  leads_on : (f g : FrameValue) (a : Address) (path : List ℕ) → IsFrameOf (tiling_of m) f
      → GrowsTo (tiling_of m) f g → IsWhole (children (tiling_of m)) (whole f) a
      → Leads (tiling_of m) (whole f) path a → Leads (tiling_of m) (whole g) path (lifted_in (whole g) a)
  leads_on f g a path is h own leads =
      let up = grown_of (tiling_of m) f g is h in
      let base : IsWhole (children (tiling_of m)) (whole f) (whole f) = record
      { fits = whole-fits (tiling_of m) laws.fits f is; same_depth = refl; same_top = refl } in
      let all = Leads-longer m laws.settled laws.across laws.boundary (whole f) (whole f) a path up.more
      (subst (Fits (children (tiling_of m))) up.frame (whole-fits (tiling_of m) laws.fits g h.is_frame))
      base leads in
      subst (λ b. Leads (tiling_of m) (whole g) path b) (sym (up.tile a own.same_depth))
      (subst (λ b. Leads (tiling_of m) b path (further_up a up.more)) (sym up.frame) all)

  pub at_base : (f : FrameValue) → IsFrameOf (tiling_of m) f → IsOnPath m f f (whole f) []
  at_base f is = record {
    grows = GrowsTo-self (tiling_of m) f is;
    own = record { fits = whole-fits (tiling_of m) laws.fits f is; same_depth = refl; same_top = refl };
    leads = refl;
    before = λ n rest l k. absurd (omega (arith, l, k));
  }

  module _ (old f : FrameValue) (a : Address) (front : List ℕ) (h : IsOnPath m old f a front) where
    -- in the frame of another depth, up to 64, the path leads to the lifted tile
    leads_at : (n : ℕ) → length f.digits ≤ n → n ≤ 64
        → Leads (tiling_of m) (whole (at_depth (tiling_of m) n old)) front (lifted_at (tiling_of m) f a n)
    leads_at n l k =
        subst (λ x. Leads (tiling_of m) (whole x) front (lifted_at (tiling_of m) f a n)) (at_depth-grown (tiling_of m) old f n h.grows)
        (leads_on f (at_depth (tiling_of m) n f) a front h.grows.is_frame (later (tiling_of m) f n h.grows.is_frame l k) h.own h.leads)

    pub walked_at_64 : CanBeWalked (tiling_of m) (whole (at_depth (tiling_of m) 64 old)) front
    walked_at_64 = (lifted_at (tiling_of m) f a 64, leads_at 64 h.grows.is_frame.at_most_64 (omega arith))

    pub comes_at_64 : (e : ℕ) (path rest : List ℕ) → path ≡ front ++ e ∷ rest
        → ComesTo (tiling_of m) (whole (at_depth (tiling_of m) 64 old)) path (lifted_at (tiling_of m) f a 64)
        e
    comes_at_64 e path rest split = record {
      front = front;
      rest = rest;
      split = split;
      leads = leads_at 64 h.grows.is_frame.at_most_64 (omega arith);
    }

    -- up to the depth at which the next edge is crossed, or refused, the path is stopped
    pub stops_before : (g : FrameValue) (e : ℕ) → e < edges_of (tiling_of m) a.kind
        → GrowsTo (tiling_of m) f g → ((n : ℕ) → length f.digits ≤ n → n < length g.digits
        → IsBoundaryEdge (tiling_of m) (lifted_at (tiling_of m) f a n) e)
        → (n : ℕ) (rest : List ℕ) → length old.digits ≤ n → n < length g.digits
        → IsStopped (tiling_of m) (whole (at_depth (tiling_of m) n old)) (front ++ e ∷ rest)
    stops_before g e edge more least n rest l below = elim (cases_lt n (length f.digits)) [
      | inl j ↦ h.before n (e ∷ rest) l j
      | inr j ↦ (
        lifted_at (tiling_of m) f a n,
        e,
        record {
          comes = record { front = front; rest = rest; split = refl; leads = leads_at n j (omega (arith, below, more.is_frame.at_most_64)) };
          edge_exists = edge;
          on_boundary = least n j below;
        },
      )
    ]

    -- one edge more, at the least depth
    pub goes_on : (g : FrameValue) (b : Address) (e k : ℕ) → GrowsTo (tiling_of m) f g
        → Crosses (tiling_of m) (lifted_in (whole g) a) e b k → IsWhole (children (tiling_of m)) (whole g) b
        → ((n : ℕ) → length f.digits ≤ n → n < length g.digits
        → IsBoundaryEdge (tiling_of m) (lifted_at (tiling_of m) f a n) e)
        → IsOnPath m old g b (front ++ e ∷ [])
    goes_on g b e k more x own least = record {
      grows = GrowsTo-then (tiling_of m) old f g h.grows more;
      own = own;
      leads = Leads-further (tiling_of m) (whole g) (lifted_in (whole g) a) b front e k (leads_on f g a front h.grows.is_frame more h.own h.leads) x;
      before = λ n rest l below. subst (IsStopped (tiling_of m) (whole (at_depth (tiling_of m) n old)))
          (sym (append_assoc front (e ∷ []) rest)) (stops_before g e x.edge_exists more least n rest l below);
    }
