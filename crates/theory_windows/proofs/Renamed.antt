-- Names of tiles that growth doesn't change.
use Rattle.std.proofs.Common.{◌≡◌, ℕ, ◌+◌, ◌-◌, ◌≤◌, List, ◌++◌, take, drop, length, Some, refl, sym, ap, ◌∙◌, subst, arith, length-append, length-drop, append_assoc}
use Rattle.std.proofs.lemmas.List.{take-append-drop, take-append-le, drop-append-le, drop_all, length-take-le}
use Rattle.std.proofs.Math.Seq.{take-append-add, take-append_seam}
use Rattle.theory_ring.specs.Sign.{Signed}
use Rattle.theory_addresses.specs.Address.{Step, Address, depth, top_from, top_kind, kind_at, Fits}
use Rattle.theory_addresses.specs.Search.{IsAmong}
use Rattle.theory_addresses.specs.Tables.{Tables, child_kinds}
use Rattle.theory_addresses.proofs.Chains.{chain_of}
use Rattle.theory_substitution.specs.Supertile.{Placed, supertile}
use Rattle.theory_edge_to_edge.specs.Contacts.{tables_of}
use Rattle.theory_dissection.proofs.Setting.{Setting}
use Rattle.theory_dissection.proofs.Glue.{some_order}
use Rattle.theory_dissection.proofs.Members.{member as tile-member}
use Rattle.theory_dissection.proofs.RuleAddresses.{top_exists}
use Rattle.theory_frames.specs.Frame.{at_level, motion_beside, frame_tiles, IsTileOf, lifted_in}
use Rattle.theory_frames.specs.Growth.{grown_from}
use Rattle.theory_frames.proofs.Frames.{at_level-depth, at_level-fits, lifted-whole, lifted-moves_none, kind_at-top, kind_at-level, kind_at-below}
use Rattle.theory_frames.proofs.Grown.{grown-length, grown-split}
use Rattle.theory_windows.specs.FramePatch.{level_in, in_frame}
use Rattle.theory_windows.specs.FrameSearch.{GrownLevelLaw}
use Rattle.theory_windows.proofs.Members.{among-map}
use Rattle.theory_windows.proofs.FramePatch.{moved_tile}
use Rattle.theory_windows.proofs.Lifts.{lifts-level}

-- ---- digits
take-of-take : {A : Type 0} (i n : ℕ) (xs : List A) → i ≤ n → n ≤ length xs → take i (take n xs) ≡ take i xs
take-of-take i n xs h k = sym (take-append-le i (take n xs) (drop n xs)
    (subst (λ m. i ≤ m) (sym (length-take-le n xs k)) h)) ∙ ap (take i) (take-append-drop n xs)

drop-by-take : {A : Type 0} (i n : ℕ) (xs : List A) → i ≤ n → n ≤ length xs → drop i (take n xs) ++ drop n xs ≡ drop i xs
drop-by-take i n xs h k = sym (drop-append-le i (take n xs) (drop n xs)
    (subst (λ m. i ≤ m) (sym (length-take-le n xs k)) h)) ∙ ap (drop i) (take-append-drop n xs)

-- so many grown digits
first-grown : (uses : ℕ → List Step) (word : ℕ → ℕ) (j top m n : ℕ) (ds : List Step)
    → take (length ds + m) (ds ++ grown_from uses word j top (m + n)) ≡ ds ++ grown_from uses word j top m
first-grown uses word j top m n ds =
    take-append-add ds (grown_from uses word j top (m + n)) m
    ∙ ap (λ (xs : List Step). ds ++ take m xs) (grown-split uses word j top m n)
    ∙ ap (λ (k : ℕ). ds ++ take k (grown_from uses word j top m
    ++ grown_from uses word (j + m) (top_from top (grown_from uses word j top m)) n))
    (sym (grown-length uses word j top m))
    ∙ ap (λ (xs : List Step). ds ++ xs) (take-append_seam (grown_from uses word j top m)
    (grown_from uses word (j + m) (top_from top (grown_from uses word j top m)) n))

pub grown_level_law : GrownLevelLaw
grown_level_law uses word m n base = ap (λ (ds : List Step). record { kind = base.kind; digits = ds })
    (first-grown uses word 0 (top_kind base) m n base.digits)

module _ (T : Setting) where
  open T use {points as P, laws as W, accepted.{refused, rule as r, numbered as N, edge_to_edge as D}}

  abbrev A : Type 0
  A = P.ring.carrier

  abbrev S : Signed
  S = P.real

  abbrev t : Tables
  t = tables_of P r

  abbrev children : List (List ℕ)
  children = child_kinds t

  module _ (f : Address) (fits : Fits children f) where
    -- ---- a tile that is lifted in the frame of an ancestor
    module _ (n : ℕ) (within : n ≤ depth f) (a : Address) (h : IsTileOf children (at_level f n) a) where
      no_deeper : depth a ≤ n
      no_deeper = subst (λ m. depth a ≤ m) (at_level-depth f n within) h.no_deeper

      pub lifted-depth : depth (lifted_in (at_level f n) a) ≡ n
      lifted-depth = length-append a.digits (drop (depth a) (take n f.digits))
          ∙ ap (λ m. depth a + m) (length-drop (depth a) (take n f.digits)
          ∙ ap (λ m. m - depth a) (length-take-le n f.digits within)) ∙ filled (depth a) n no_deeper
        where
          filled : (x y : ℕ) → x ≤ y → x + (y - x) ≡ y
          filled x y l = omega arith

      lifted-kind : kind_at (lifted_in (at_level f n) a) n ≡ kind_at f n
      lifted-kind =
          let w = lifted-whole children (at_level f n) a (ancestor-fits) h in
          subst (λ m. kind_at (lifted_in (at_level f n) a) m ≡ Some (top_kind (lifted_in (at_level f n) a)))
          lifted-depth (kind_at-top a.kind (lifted_in (at_level f n) a).digits)
          ∙ ap Some w.same_top ∙ sym (kind_at-level f n within)
        where
          ancestor-fits : Fits children (at_level f n)
          ancestor-fits = (at_level-fits f n within children fits).0

      -- it is a tile of the frame
      pub lifted-tile : IsTileOf children f (lifted_in (at_level f n) a)
      lifted-tile = record {
        fits = (lifted-whole children (at_level f n) a (at_level-fits f n within children fits).0 h).fits;
        no_deeper = subst (λ m. m ≤ depth f) (sym lifted-depth) within;
        same_kind = subst (λ m. kind_at (lifted_in (at_level f n) a) m ≡ kind_at f m) (sym lifted-depth) lifted-kind;
      }

      -- and has its name
      pub renamed : in_frame P r f (lifted_in (at_level f n) a) ≡ in_frame P r f a
      renamed = λ i. record { address = record { kind = a.kind; digits = digits i }; motion = motion i }
        where
          digits : (a.digits ++ drop (depth a) (take n f.digits))
              ++ drop (depth (lifted_in (at_level f n) a)) f.digits ≡ a.digits ++ drop (depth a) f.digits
          digits =
              append_assoc a.digits (drop (depth a) (take n f.digits)) (drop (depth (lifted_in (at_level f n) a)) f.digits)
              ∙ ap (λ m. a.digits ++ (drop (depth a) (take n f.digits) ++ drop m f.digits)) lifted-depth
              ∙ ap (λ ds. a.digits ++ ds) (drop-by-take (depth a) n f.digits no_deeper within)

          motion : motion_beside P r (at_level f (depth (lifted_in (at_level f n) a))).digits
              (lifted_in (at_level f n) a).digits ≡ motion_beside P r (at_level f (depth a)).digits a.digits
          motion =
              ap (λ m. motion_beside P r (at_level f m).digits (lifted_in (at_level f n) a).digits) lifted-depth
              ∙ lifted-moves_none P W (some_order T) r (at_level f n) a h.no_deeper
              ∙ ap (λ ds. motion_beside P r ds a.digits) (take-of-take (depth a) n f.digits no_deeper within)

      -- what is of the frame of an ancestor is of the frame
      pub longer : IsTileOf children f a
      longer = record {
        fits = h.fits;
        no_deeper = at_most (depth a) n (depth f) no_deeper within;
        same_kind = h.same_kind ∙ sym (kind_at-below f.kind (take n f.digits) (drop n f.digits) (depth a)
            h.no_deeper) ∙ ap (λ ds. kind_at (record { kind = f.kind; digits = ds }) (depth a))
            (take-append-drop n f.digits);
      }
        where
          at_most : (x y z : ℕ) → x ≤ y → y ≤ z → x ≤ z
          at_most x y z k l = omega arith

    -- what is of the frame is of that of an ancestor that is deep enough
    pub shorter : (n : ℕ) → n ≤ depth f → (a : Address) → IsTileOf children f a → depth a ≤ n → IsTileOf children (at_level f n) a
    shorter n within a h deep =
        let no_deeper : depth a ≤ depth (at_level f n) = subst (λ m. depth a ≤ m) (sym (at_level-depth f n within)) deep in
        record {
          fits = h.fits;
          no_deeper = no_deeper;
          same_kind = h.same_kind ∙ ap (λ ds. kind_at (record { kind = f.kind; digits = ds }) (depth a)) (sym (take-append-drop n f.digits))
              ∙ kind_at-below f.kind (take n f.digits) (drop n f.digits) (depth a) no_deeper;
        }

    -- so what is of the frame of an ancestor is of that of each further one
    pub further : (m k : ℕ) → m ≤ k → k ≤ depth f → (a : Address) → IsTileOf children (at_level f m) a → IsTileOf children (at_level f k) a
    further m k least within a h = shorter k within a (longer m below a h)
        (at_most (depth a) m k (subst (λ j. depth a ≤ j) (at_level-depth f m below) h.no_deeper) least)
      where
        at_most : (x y z : ℕ) → x ≤ y → y ≤ z → x ≤ z
        at_most x y z l w = omega arith

        below : m ≤ depth f
        below = at_most m k (depth f) least within

    -- ---- all tiles are there at the frame's own depth
    pub at-depth : (x : Placed A) → IsAmong x (frame_tiles P r f) → level_in f x.address ≤ depth f
    at-depth x i =
        let s = among-map (moved_tile T f) x (supertile P r (top_kind f) (depth f)) i in
        let m = tile-member T (top_kind f) (depth f) (top_exists T f.kind f.digits (chain_of t f fits)) s.0 s.1 in
        let deep : depth x.address ≡ depth f = ap (λ (y : Placed A). depth y.address) s.2 ∙ m.depth_is in
        lifts-level x.address.digits f.digits deep (depth f)
        (drop_all (depth f) x.address.digits (most deep) ∙ sym (drop_all (depth f) f.digits (most refl)))
      where
        most : {x y : ℕ} → x ≡ y → x ≤ y
        most e = omega arith
