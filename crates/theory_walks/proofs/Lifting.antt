-- Tiles lifted to one depth and another, and the edges that stay on the boundary.
use Rattle.std.proofs.Common.{◌≡◌, ℕ, zero, suc, ◌+◌, ◌-◌, ◌≤◌, inl, inr, List, [], ◌∷◌, ◌++◌, length, slice_get, take, drop, Some, refl, sym, ap, ap₂, ◌∙◌, subst, arith, length-append, length-drop, append_assoc}
use Rattle.std.proofs.lemmas.Bool.{cases_lt}
use Rattle.std.proofs.lemmas.List.{drop-append-le, take_at, take-append-le, take_all}
use Rattle.std.proofs.Math.Seq.{drop-append_seam}
use Rattle.theory_addresses.specs.Address.{Step, Address, depth, top_kind, top_from}
use Rattle.theory_addresses.specs.Tables.{Tables}
use Rattle.theory_addresses.specs.Across.{LiesOn}
use Rattle.theory_addresses.specs.Trace.{Cut, IsTrace, bare, further, first_part}
use Rattle.theory_addresses.specs.Touch.{Touches}
use Rattle.theory_frames.specs.Growth.{grown_from}
use Rattle.theory_frames.specs.Frame.{lifted_in, IsTileOf}
use Rattle.theory_frames.proofs.Frames.{IsTileOf-longer}
use Rattle.theory_frames.proofs.Grown.{grown-split}
use Rattle.rule_model.specs.Tiling.{Tiling, contacts, children}
use Rattle.tile_shape.specs.UsesInOrder.{uses_in_order}
use Rattle.seeded_growth.specs.Words.{word}
use Rattle.theory_walks.specs.Frames.{FrameValue, whole, at_depth, IsFrameOf, GrowsTo, lifted_at}
use Rattle.theory_walks.proofs.Walks.{at_depth-depth, GrowsTo-is}

-- ---- a tile lifted twice
pub lifted-twice : (f a : Address) (more : List Step) → depth a ≤ depth f
    → lifted_in (record { kind = f.kind; digits = f.digits ++ more }) (lifted_in f a) ≡ lifted_in
    (record { kind = f.kind; digits = f.digits ++ more }) a
lifted-twice f a more h = λ i. record { kind = a.kind; digits = digits i }
  where
    all : List Step
    all = f.digits ++ more

    own : length (a.digits ++ drop (length a.digits) f.digits) ≡ length f.digits
    own = omega (arith, length-append a.digits (drop (length a.digits) f.digits), length-drop (length a.digits) f.digits, h)

    digits : (a.digits ++ drop (length a.digits) f.digits)
        ++ drop (length (a.digits ++ drop (length a.digits) f.digits)) (f.digits ++ more) ≡ a.digits
        ++ drop (length a.digits) (f.digits ++ more)
    digits =
        ap (λ n. (a.digits ++ drop (length a.digits) f.digits) ++ drop n (f.digits ++ more)) own
        ∙ ap (λ xs. (a.digits ++ drop (length a.digits) f.digits) ++ xs) (drop-append_seam f.digits more)
        ∙ append_assoc a.digits (drop (length a.digits) f.digits) more
        ∙ ap (λ xs. a.digits ++ xs) (sym (drop-append-le (length a.digits) f.digits more h))

-- the edge lies on some edge of its supertile, by the tables
abbrev pub IsTraced : Tables → Address → ℕ → Type 0
IsTraced t a e = (own part : ℕ) × LiesOn t a e own part

-- ---- traces of the fine digits
abbrev HasTraceOf : Tables → ℕ → List Step → Type 0
HasTraceOf t e ds = (top : ℕ) × (cuts : List Cut) × IsTrace t e ds top cuts

take-none : (n : ℕ) → take {A = Step} n [] ≡ []
take-none zero = refl
take-none (suc n) = refl

trace-take : {t : Tables} {e : ℕ} {ds : List Step} {top : ℕ} {cuts : List Cut} → IsTrace t e ds top cuts → (n : ℕ) → HasTraceOf t e (take n ds)
trace-take {t} {e} bare n = subst (HasTraceOf t e) (sym (take-none n)) (e, [], bare)
trace-take {t} {e} {ds} (further {fine = fine} {own = own} {f = f} {p = p} {cuts = cuts} d rest is met) n = elim (cases_lt (length fine) n) [
  | inl h ↦ subst (HasTraceOf t e) (sym (take_all n ds (omega (arith, ap length is, length-append fine (d ∷ []), h)))) (f, _, further d rest is met)
  | inr h ↦ subst (HasTraceOf t e) (sym (ap (take n) is ∙ take-append-le n fine (d ∷ []) h)) (trace-take rest n)
]

pub trace-front : (t : Tables) (e : ℕ) (ds more : List Step) (top : ℕ) (cuts : List Cut)
    → IsTrace t e (ds ++ more) top cuts → (top' : ℕ) × (cuts' : List Cut) × IsTrace t e ds top' cuts'
trace-front t e ds more top cuts h =
    subst (λ xs. (top' : ℕ) × (cuts' : List Cut) × IsTrace t e xs top' cuts') (take_at ds more (length ds) refl) (trace-take h (length ds))

-- ---- tiles that touch have one kind on top
top_from-at : (kind : ℕ) (ds : List Step) (i : ℕ) (s : Step) → slice_get ds i ≡ Some s → top_from kind ds ≡ top_from s.parent (drop (i + 1) ds)
top_from-at kind [] i s e = absurd (cc e)
top_from-at kind (d ∷ ds) zero s e = ap (λ (x : Step). top_from x.parent ds) same
  where
    same : d ≡ s
    same = cc (e)
top_from-at kind (d ∷ ds) (suc i) s e = top_from-at d.parent ds i s e ∙ ap (λ n. top_from s.parent (drop n (d ∷ ds))) next
  where
    next : suc (i + 1) ≡ suc i + 1
    next = omega arith

pub touching-top : (t : Tables) (a b : Address) (e f : ℕ) → Touches t a e b f → top_kind a ≡ top_kind b
touching-top t a b e f h =
    top_from-at a.kind a.digits h.below h.x h.digit_x ∙ ap₂ top_from h.one_parent h.one_above
    ∙ sym (top_from-at b.kind b.digits h.below h.y h.digit_y)

module _ (t : Tiling) where
  -- the frame of a greater depth has further digits behind those of a lesser
  pub record Longer (f : FrameValue) (n m : ℕ) : Type 0 where
    pub more : List Step
    pub is : (at_depth t m f).digits ≡ (at_depth t n f).digits ++ more

  pub longer : (f : FrameValue) (n m : ℕ) → depth f.base ≤ n → n ≤ m → Longer f n m
  longer f n m h l = record {
    more = grown_from (uses_in_order (children t)) (word f.start) (0 + (n - depth f.base))
        (top_from (top_kind f.base) (grown_from (uses_in_order (children t)) (word f.start) 0
        (top_kind f.base) (n - depth f.base))) (m - n);
    is =
        ap (λ k. f.base.digits ++ grown_from (uses_in_order (children t)) (word f.start) 0 (top_kind f.base) k) count
        ∙ ap (λ xs. f.base.digits ++ xs) (grown-split (uses_in_order (children t)) (word f.start) 0 (top_kind f.base) (n - depth f.base) (m - n))
        ∙ sym (append_assoc f.base.digits _ _);
  }
    where
      count : m - depth f.base ≡ (n - depth f.base) + (m - n)
      count = omega (arith, h, l)

  -- what is of a frame stays of it as it grows
  pub IsTileOf-later : (f g : FrameValue) (a : Address) → GrowsTo t f g → IsFrameOf t f
      → IsTileOf (children t) (whole f) a → IsTileOf (children t) (whole g) a
  IsTileOf-later f g a h k of =
      let l = longer f (length f.digits) (length g.digits) k.holds_base h.no_shallower in
      subst (λ x. IsTileOf (children t) x a) (sym (ap whole (GrowsTo-is t f g h) ∙ (λ i. record { kind = f.base.kind; digits = l.is i })
      ∙ ap (λ (x : FrameValue). record { kind = f.base.kind; digits = x.digits ++ l.more }) (sym k.its_digits)))
      (IsTileOf-longer (children t) (whole f) a l.more of)

  -- the lifted tile in the frame as it has grown
  pub lifted-later : (f g : FrameValue) (a : Address) → GrowsTo t f g → lifted_in (whole g) a ≡ lifted_at t f a (length g.digits)
  lifted-later f g a h = ap (λ x. lifted_in (whole x) a) (GrowsTo-is t f g h)

  -- a further digit on the frame lifts the lifted tile
  pub lifted-again : (f g : FrameValue) (a : Address) → IsFrameOf t f → depth a ≤ length f.digits → g ≡ at_depth t (length f.digits + 1) f
      → lifted_in (whole g) (lifted_in (whole f) a) ≡ lifted_in (whole g) a
  lifted-again f g a k h e =
      let l = longer f (length f.digits) (length f.digits + 1) k.holds_base (omega arith) in
      let same : whole g ≡ record { kind = f.base.kind; digits = f.digits ++ l.more } =
      ap whole e ∙ (λ i. record { kind = f.base.kind; digits = l.is i })
      ∙ ap (λ (x : FrameValue). record { kind = f.base.kind; digits = x.digits ++ l.more })
      (sym k.its_digits) in
      subst (λ w. lifted_in w (lifted_in (whole f) a) ≡ lifted_in w a) (sym same) (lifted-twice (whole f) a l.more h)

  -- an edge that lies on the boundary at a depth, by the tables, lies on it at each lesser depth down to the tile's
  pub traced-below : (f : FrameValue) (a : Address) (e n m : ℕ) → depth f.base ≤ n → depth a ≤ n → n ≤ m
      → IsTraced (contacts t) (lifted_at t f a m) e → IsTraced (contacts t) (lifted_at t f a n) e
  traced-below f a e n m b h l on =
      let up = longer f n m b l in
      let split : (lifted_at t f a m).digits ≡ (lifted_at t f a n).digits ++ up.more =
      ap (λ xs. a.digits ++ drop (depth a) xs) up.is
      ∙ ap (λ xs. a.digits ++ xs) (drop-append-le (depth a) (at_depth t n f).digits up.more (omega (arith, at_depth-depth t f n b, h)))
      ∙ sym (append_assoc a.digits (drop (depth a) (at_depth t n f).digits) up.more) in
      let fine = trace-front (contacts t) e (lifted_at t f a n).digits up.more on.0 on.2.cuts
      (subst (λ xs. IsTrace (contacts t) e xs on.0 on.2.cuts) split on.2.trace) in
      (fine.0, first_part fine.1, record { cuts = fine.1; trace = fine.2; is_part = refl })
