-- Frames of one base and start number, at one depth and another.
use Rattle.std.proofs.Common.{◌≡◌, ℕ, zero, suc, ◌+◌, ◌-◌, ◌<◌, ◌≤◌, List, [], ◌∷◌, ◌++◌, length, map, get_or, slice_get, take, drop, Some, Result, Ok, Err, IsOk, OnOk, refl, sym, ap, ap₂, ◌∙◌, subst, arith, length-append}
use Rattle.std.proofs.lemmas.List.{append-nil, take_rest, map-append, length-map}
use Rattle.theory_addresses.specs.Address.{Step, Address, depth, top_kind, kind_at, Fits}
use Rattle.theory_frames.specs.Growth.{grown_from, grown_by, chosen}
use Rattle.theory_frames.proofs.Frames.{kind_at-top, Climbs-top}
use Rattle.theory_frames.proofs.Grown.{grown-length}
use Rattle.rule_model.specs.Tiling.{Tiling, children}
use Rattle.tile_shape.specs.UsesInOrder.{uses_in_order}
use Rattle.tile_shape.specs.declared.step.Step as program
use Rattle.tile_shape.specs.Views.{step_of}
use Rattle.seeded_growth.specs.Words.{word}
use Rattle.theory_walks.specs.Frames.{FrameValue, whole, at_depth, IsFrameOf, GrowsTo}

pub frame_path : (f g : FrameValue) → f.base ≡ g.base → f.start ≡ g.start → f.digits ≡ g.digits → f ≡ g
frame_path f g b s d = λ i. record { base = b i; start = s i; digits = d i }

-- ---- the two laws of growth, for one table of child kinds
abbrev pub GoesOn : List (List ℕ) → Type 0
GoesOn kinds = (base : Address) (start n : ℕ)
    → (grown_by (uses_in_order kinds) (word start) (n + 1) base).digits
    ≡ (grown_by (uses_in_order kinds) (word start) n base).digits
    ++ chosen (uses_in_order kinds (top_kind (grown_by (uses_in_order kinds) (word start) n base)))
    (word start n) ∷ []

abbrev pub StillFits : List (List ℕ) → Type 0
StillFits kinds = (base : Address) (start n : ℕ) → Fits kinds base → Fits kinds (grown_by (uses_in_order kinds) (word start) n base)

module _ (t : Tiling) where
  abbrev grown : FrameValue → ℕ → List Step
  grown f n = grown_from (uses_in_order (children t)) (word f.start) 0 (top_kind f.base) n

  pub at_depth-depth : (f : FrameValue) (n : ℕ) → depth f.base ≤ n → length (at_depth t n f).digits ≡ n
  at_depth-depth f n h =
      length-append f.base.digits (grown f (n - depth f.base))
      ∙ ap (λ m. length f.base.digits + m) (grown-length (uses_in_order (children t)) (word f.start) 0
      (top_kind f.base) (n - depth f.base)) ∙ omega (arith, h)

  -- a base that fits and has grown no digit
  pub new-is_frame : (f : FrameValue) → Fits (children t) f.base → f.digits ≡ f.base.digits → length f.digits ≤ 64 → IsFrameOf t f
  new-is_frame f fits same few = record {
    fits = fits;
    holds_base = omega (arith, ap length same);
    at_most_64 = few;
    its_digits = frame_path f (at_depth t (length f.digits) f) refl refl
        (same ∙ sym (append-nil f.base.digits) ∙ ap (λ n. f.base.digits ++ grown f n) none);
  }
    where
      none : 0 ≡ length f.digits - depth f.base
      none = omega (arith, ap length same)

  -- a frame may become any of its base and start number that is no shallower
  pub later : (f : FrameValue) (n : ℕ) → IsFrameOf t f → length f.digits ≤ n → n ≤ 64 → GrowsTo t f (at_depth t n f)
  later f n h l m = record {
    same_base = refl;
    same_start = refl;
    no_shallower = omega (arith, l, long);
    is_frame = record {
      fits = h.fits;
      holds_base = omega (arith, long, h.holds_base, l);
      at_most_64 = omega (arith, long, m);
      its_digits = ap (λ k. at_depth t k f) (sym long);
    };
  }
    where
      long : length (at_depth t n f).digits ≡ n
      long = at_depth-depth f n (omega (arith, h.holds_base, l))

  -- and what it may become is the one of that depth
  pub GrowsTo-is : (f g : FrameValue) → GrowsTo t f g → g ≡ at_depth t (length g.digits) f
  GrowsTo-is f g h =
      h.is_frame.its_digits
      ∙ (λ i. record {
        base = h.same_base i;
        start = h.same_start i;
        digits = (grown_by (uses_in_order (children t)) (word (h.same_start i))
            (length g.digits - depth (h.same_base i)) (h.same_base i)).digits;
      })

  pub GrowsTo-self : (f : FrameValue) → IsFrameOf t f → GrowsTo t f f
  GrowsTo-self f h = record { same_base = refl; same_start = refl; no_shallower = omega arith; is_frame = h }

  pub GrowsTo-then : (f g k : FrameValue) → GrowsTo t f g → GrowsTo t g k → GrowsTo t f k
  GrowsTo-then f g k a b = record {
    same_base = b.same_base ∙ a.same_base;
    same_start = b.same_start ∙ a.same_start;
    no_shallower = omega (arith, a.no_shallower, b.no_shallower);
    is_frame = b.is_frame;
  }

  -- the base's address in the frame fits
  pub whole-fits : StillFits (children t) → (f : FrameValue) → IsFrameOf t f → Fits (children t) (whole f)
  whole-fits fits f h = subst (Fits (children t)) (ap whole (sym h.its_digits)) (fits f.base f.start (length f.digits - depth f.base) h.fits)

  top_is : (f : FrameValue) (top : ℕ) → Some top ≡ kind_at (whole f) (length f.digits) → top ≡ top_kind (whole f)
  top_is f top e = some_one (e ∙ kind_at-top f.base.kind f.digits)
    where
      some_one : {x y : ℕ} → Some x ≡ Some y → x ≡ y
      some_one e = cc (e)

  pub top-below : StillFits (children t) → (f : FrameValue) (top : ℕ) → IsFrameOf t f
      → Some top ≡ kind_at (whole f) (length f.digits) → top < length (children t)
  top-below fits f top h e =
      let w = whole-fits fits f h in
      subst (λ k. k < length (children t)) (sym (top_is f top e)) (Climbs-top (children t) f.base.kind f.digits w.kind_exists w.climbs)

  -- the next digit makes it the frame of the next depth
  pub one_deeper : GoesOn (children t) → (f g : FrameValue) (d : Step) (top taken : ℕ) → IsFrameOf t f
      → g.base ≡ f.base → g.start ≡ f.start → g.digits ≡ f.digits ++ d ∷ []
      → d ≡ chosen (uses_in_order (children t) top) (word f.start taken) → depth f.base + taken ≡ length f.digits
      → Some top ≡ kind_at (whole f) (length f.digits)
      → g ≡ at_depth t (length f.digits + 1) f
  one_deeper goes f g d top taken h b s ds chosen_so counted e = frame_path g (at_depth t (length f.digits + 1) f) b s digits
    where
      count : taken ≡ length f.digits - depth f.base
      count = omega (arith, counted)

      next : (length f.digits - depth f.base) + 1 ≡ (length f.digits + 1) - depth f.base
      next = omega (arith, h.holds_base)

      own : whole f ≡ grown_by (uses_in_order (children t)) (word f.start) (length f.digits - depth f.base) f.base
      own = ap whole h.its_digits

      digit : d ≡ chosen (uses_in_order (children t)
          (top_kind (grown_by (uses_in_order (children t)) (word f.start) (length f.digits - depth f.base)
          f.base))) (word f.start (length f.digits - depth f.base))
      digit = chosen_so ∙ ap₂ (λ k j. chosen (uses_in_order (children t) k) (word f.start j)) (top_is f top e ∙ ap top_kind own) count

      digits : g.digits ≡ (at_depth t (length f.digits + 1) f).digits
      digits =
          ds ∙ ap₂ (λ xs x. xs ++ x ∷ []) (ap (λ (a : Address). a.digits) own) digit
          ∙ sym (goes f.base f.start (length f.digits - depth f.base))
          ∙ ap (λ n. (grown_by (uses_in_order (children t)) (word f.start) n f.base).digits) next

-- ---- digits of the program
pub kind_above : (n : ℕ) (ds : List program.Step) (blank : program.Step) → n < length ds
    → Some (get_or ds n blank).parent ≡ slice_get (map (λ d. d.parent) (map step_of ds)) n
kind_above n [] blank h = absurd (omega arith)
kind_above zero (d ∷ ds) blank h = refl
kind_above (suc n) (d ∷ ds) blank h = kind_above n ds blank (omega arith)

pub kind_at_level : (kind level : ℕ) (ds read : List program.Step) (all : List Step) (blank : program.Step)
    → 0 < level → level ≤ length ds → read ≡ ds → map step_of ds ≡ all
    → Some (get_or read (level - 1) blank).parent ≡ slice_get (kind ∷ map (λ d. d.parent) all) level
kind_at_level kind zero ds read all blank above within same seen = absurd (omega arith)
kind_at_level kind (suc n) ds read all blank above within same seen =
    let below : suc n - 1 ≡ n = omega arith in
    rw (same, below, ← seen) (kind_above n ds blank (omega arith))

pub map-drop : {A B : Type 0} (f : A → B) (n : ℕ) (xs : List A) → map f (drop n xs) ≡ drop n (map f xs)
map-drop f zero xs = refl
map-drop f (suc n) [] = refl
map-drop f (suc n) (x ∷ xs) = map-drop f n xs

-- the clause on Ok, of a result that is Ok
pub on_ok : {T E : Type 0} (r : Result T E) (Q : Type 0) → IsOk r → OnOk r Q → Q
on_ok (Ok x) Q i h = h
on_ok (Err e) Q i h = absurd (cc i)

-- digits behind others, from a place up
pub raised : (own all read now : List program.Step) (n : ℕ) → n ≡ length own → read ≡ all → now ≡ own
    ++ take (length read - n) (drop n read) → map step_of now ≡ map step_of own
    ++ drop (length (map step_of own)) (map step_of all)
raised own all read now n count same e =
    ap (map step_of) (e ∙ ap (λ xs. own ++ xs) (take_rest read n))
    ∙ map-append step_of own (drop n read) ∙ ap (λ xs. map step_of own ++ xs)
    (map-drop step_of n read ∙ ap₂ (λ m xs. drop m (map step_of xs)) (count ∙ sym (length-map own step_of)) same)
