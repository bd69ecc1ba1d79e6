-- The tiles of a frame at a depth are those of its ancestor's frame there, lifted.
use Rattle.std.proofs.Common.{◌≡◌, ◌↔◌, ℕ, ◌≤◌, Bool, true, nat_eq, List, [], ◌∷◌, ◌++◌, take, drop, length, Some, sym, ap, ap₂, ◌∙◌, subst, eqb-true}
use Rattle.std.proofs.lemmas.Bool.{and_parts, and_from, eq-eqb}
use Rattle.std.proofs.lemmas.List.{length-take-le}
use Rattle.theory_ring.specs.Sign.{Signed}
use Rattle.theory_addresses.specs.Address.{Step, Address, depth, top_from, top_kind, kind_at, Climbs, Fits}
use Rattle.theory_addresses.specs.Tables.{Tables}
use Rattle.theory_addresses.specs.Tables as tables
use Rattle.theory_addresses.specs.Search.{IsAmong}
use Rattle.theory_addresses.proofs.Chains.{chain_of, fits_of}
use Rattle.theory_substitution.specs.Motion.{Motion, followed}
use Rattle.theory_substitution.specs.Rule.{child_kinds}
use Rattle.theory_substitution.specs.Supertile.{Placed, supertile}
use Rattle.theory_substitution.specs.Placement.{placement}
use Rattle.theory_edge_to_edge.specs.Contacts.{tables_of}
use Rattle.theory_dissection.proofs.Setting.{Setting, contacts-coherent}
use Rattle.theory_dissection.proofs.Members.{Member, member}
use Rattle.theory_dissection.proofs.RuleAddresses.{top_exists, fits-rule}
use Rattle.theory_dissection.proofs.Glue.{some_order}
use Rattle.theory_frames.specs.Back.{back}
use Rattle.theory_frames.specs.Frame.{at_level, motion_beside, frame_tiles, IsTileOf, lifted_in}
use Rattle.theory_frames.proofs.Frames.{top_from-join, Climbs-split, at_level-depth, at_level-fits, top_kind-split, kind_at-top, kind_at-level, top_is, lifted-whole, lifted-moves_none, StandsInFrame-whole}
use Rattle.theory_windows.specs.GrowingPatch.{IsOfDepth}
use Rattle.theory_windows.specs.Level.{level_of, LiftsAreOfDepth}
use Rattle.theory_windows.specs.FramePatch.{is_same_step, level_in, growing_frame, tile_of_ancestor, in_frame}
use Rattle.theory_windows.proofs.Level.{tells-from, lifts_tell}
use Rattle.theory_windows.proofs.Members.{among-map}
use Rattle.theory_windows.proofs.FramePatch.{moved_tile}

-- ---- digits
same_step-tells : (d e : Step) → (is_same_step d e ≡ true) ↔ (d ≡ e)
same_step-tells d e = (
  λ h. let k = and_parts (nat_eq d.child e.child) (nat_eq d.parent e.parent) h in
      λ i. record { child = eqb-true d.child e.child k.0 i; parent = eqb-true d.parent e.parent k.1 i },
  λ h. and_from (nat_eq d.child e.child) (nat_eq d.parent e.parent)
      (eq-eqb d.child e.child (ap (λ (s : Step). s.child) h))
      (eq-eqb d.parent e.parent (ap (λ (s : Step). s.parent) h)),
)

lifts : (es : List Step) → LiftsAreOfDepth Step is_same_step es
lifts es = lifts_tell is_same_step same_step-tells es

-- digits of which none beyond number n differ have level n at most
pub lifts-level : (ds es : List Step) → length ds ≡ length es → (n : ℕ) → drop n ds ≡ drop n es → level_of is_same_step ds es ≤ n
lifts-level ds es h n k = tells-from is_same_step same_step-tells ds es h n k

-- two kinds below one another's digits are one, where they end at one kind
same_below : (children : List (List ℕ)) (x y : ℕ) (zs : List Step) → Climbs children x zs
    → Climbs children y zs → top_from x zs ≡ top_from y zs → x ≡ y
same_below children x y [] c d e = e
same_below children x y (z ∷ zs) c d e = is_some (sym c.0 ∙ d.0)
  where
    is_some : {u v : ℕ} → Some u ≡ Some v → u ≡ v
    is_some h = cc (h)

module _ (T : Setting) where
  open T use {points as P, laws as W, accepted.{rule as r, numbered as N, edge_to_edge as D}}

  abbrev A : Type 0
  A = P.ring.carrier

  abbrev S : Signed
  S = P.real

  abbrev t : Tables
  t = tables_of P r

  abbrev children : List (List ℕ)
  children = tables.child_kinds t

  -- a tile of a frame by the contact tables is one by the rule
  pub rule-tile : (f a : Address) → IsTileOf children f a → IsTileOf (child_kinds r) f a
  rule-tile f a h = record { fits = fits-rule T a (chain_of t a h.fits); no_deeper = h.no_deeper; same_kind = h.same_kind }

  -- the tile that an address of depth n names in the frame of the ancestor there
  abbrev pub fine_tile : Address → ℕ → Address → Placed A
  fine_tile f n a = record { address = a; motion = motion_beside P r (at_level f n).digits a.digits }

  module _ (f : Address) (fits : Fits children f) (refused : A → Bool) where
    rule-frame : Fits (child_kinds r) f
    rule-frame = fits-rule T f (chain_of t f fits)

    -- ---- what an address names is of the frame at the address's depth
    pub named : (a : Address) → IsTileOf children f a → IsOfDepth S (Placed A) (growing_frame P refused r f) (depth a) (in_frame P r f a)
    named a h = (
      subst (λ m. IsAmong (record { address = lifted_in f a; motion = m }) (frame_tiles P r f))
          (lifted-moves_none P W (some_order T) r f a h.no_deeper)
          (StandsInFrame-whole P W (some_order T) r f (lifted_in f a) (lifted-whole (child_kinds r) f a rule-frame (rule-tile f a h))).among,
      (lifts f.digits).lift a.digits h.no_deeper,
    )

    module _ (n : ℕ) (within : n ≤ depth f) where
      -- a tile by its fine digits
      pub record Named (u : Placed A) : Type 0 where
        pub fine : Address
        pub tile : IsTileOf children f fine
        pub deep : depth fine ≡ n
        pub is : u ≡ in_frame P r f fine

      pub named-depth : (u : Placed A) → Named u → IsOfDepth S (Placed A) (growing_frame P refused r f) n u
      named-depth u x =
          subst (λ (v : Placed A). IsOfDepth S (Placed A) (growing_frame P refused r f) n v) (sym x.is)
          (subst (λ m. IsOfDepth S (Placed A) (growing_frame P refused r f) m (in_frame P r f x.fine)) x.deep (named x.fine x.tile))

      -- ---- and nothing else is
      module _ (s : Placed A) (m : Member T (top_kind f) (depth f) s) (level : level_in f s.address ≤ n) where
        abbrev ds : List Step
        ds = s.address.digits

        abbrev cut : Address
        cut = record { kind = s.address.kind; digits = take n ds }

        split : ds ≡ take n ds ++ drop n f.digits
        split = (lifts f.digits).lifted ds m.depth_is n level

        deep : depth cut ≡ n
        deep = length-take-le n ds (subst (λ k. n ≤ k) (sym m.depth_is) within)

        whole : Fits children s.address
        whole = fits_of t s.address.kind ds (contacts-coherent T) m.tile.chain

        parts : Climbs children s.address.kind (take n ds) × Climbs children (top_kind cut) (drop n f.digits)
        parts = Climbs-split children s.address.kind (take n ds) (drop n f.digits) (subst (Climbs children s.address.kind) split whole.climbs)

        same_top : top_kind cut ≡ top_kind (at_level f n)
        same_top =
            same_below children (top_kind cut) (top_kind (at_level f n)) (drop n f.digits) parts.1 (at_level-fits f n within children fits).1
            (sym (top_from-join s.address.kind (take n ds) (drop n f.digits))
            ∙ ap (top_from s.address.kind) (sym split) ∙ m.tile.top ∙ sym (top_kind-split f n within))

        tile-of : IsTileOf children f cut
        tile-of = record {
          fits = record { kind_exists = whole.kind_exists; climbs = parts.0 };
          no_deeper = subst (λ k. k ≤ depth f) (sym deep) within;
          same_kind = kind_at-top cut.kind cut.digits ∙ ap Some same_top ∙ sym (kind_at-level f n within) ∙ ap (kind_at f) (sym deep);
        }

        digits-are : ds ≡ (lifted_in f cut).digits
        digits-are = split ∙ ap (λ k. take n ds ++ drop k f.digits) (sym deep)

        tile-is : moved_tile T f s ≡ in_frame P r f cut
        tile-is = λ i. record {
          address = record { kind = s.address.kind; digits = digits-are i };
          motion = (ap (λ (x : Motion A). followed P x (back P (placement P r f.digits))) m.motion_is ∙ ap (motion_beside P r f.digits) digits-are
              ∙ lifted-moves_none P W (some_order T) r f cut tile-of.no_deeper) i;
        }

      pub lift-named : (u : Placed A) → IsOfDepth S (Placed A) (growing_frame P refused r f) n u → Named u
      lift-named u h =
          let s = among-map (moved_tile T f) u (supertile P r (top_kind f) (depth f)) h.0 in
          let m = member T (top_kind f) (depth f) (top_exists T f.kind f.digits (chain_of t f fits)) s.0 s.1 in
          let level : level_in f s.0.address ≤ n = subst (λ (x : Placed A). level_in f x.address ≤ n) s.2 h.1 in
          record { fine = cut s.0 m level; tile = tile-of s.0 m level; deep = deep s.0 m level; is = s.2 ∙ tile-is s.0 m level }

      -- ---- the tiles of the ancestor's frame
      ancestor-fits : Fits children (at_level f n)
      ancestor-fits = (at_level-fits f n within children fits).0

      -- have its depth
      pub fine-depth : (x : Placed A) → IsAmong x (frame_tiles P r (at_level f n)) → depth x.address ≡ n
      fine-depth x i =
          let s = among-map (moved_tile T (at_level f n)) x (supertile P r (top_kind (at_level f n)) (depth (at_level f n))) i in
          let m = member T (top_kind (at_level f n)) (depth (at_level f n))
          (top_exists T f.kind (at_level f n).digits (chain_of t (at_level f n) ancestor-fits)) s.0 s.1 in
          ap (λ (y : Placed A). depth y.address) s.2 ∙ m.depth_is ∙ at_level-depth f n within

      -- and are named by their addresses
      pub fine-named : (x : Placed A) → IsAmong x (frame_tiles P r (at_level f n)) → Named (tile_of_ancestor f x)
      fine-named x i =
          let s = among-map (moved_tile T (at_level f n)) x (supertile P r (top_kind (at_level f n)) (depth (at_level f n))) i in
          let m = member T (top_kind (at_level f n)) (depth (at_level f n))
          (top_exists T f.kind (at_level f n).digits (chain_of t (at_level f n) ancestor-fits)) s.0 s.1 in
          let deep : depth s.0.address ≡ n = m.depth_is ∙ at_level-depth f n within in
          record {
            fine = s.0.address;
            tile = record {
              fits = fits_of t s.0.address.kind s.0.address.digits (contacts-coherent T) m.tile.chain;
              no_deeper = subst (λ k. k ≤ depth f) (sym deep) within;
              same_kind = kind_at-top s.0.address.kind s.0.address.digits ∙ ap Some m.tile.top
                  ∙ sym (kind_at-level f n within) ∙ ap (kind_at f) (sym deep);
            };
            deep = deep;
            is = ap (tile_of_ancestor f) s.2
                ∙ ap₂ (λ (x : Motion A) (k : ℕ). record {
                  address = lifted_in f s.0.address;
                  motion = followed P x (back P (placement P r (at_level f k).digits));
                })
                m.motion_is (sym deep);
          }

      pub named-fine : (a : Address) → IsTileOf children f a → depth a ≡ n → IsAmong (fine_tile f n a) (frame_tiles P r (at_level f n))
      named-fine a h deep = (StandsInFrame-whole P W (some_order T) r (at_level f n) a (record {
        fits = (rule-tile f a h).fits;
        same_depth = deep ∙ sym (at_level-depth f n within);
        same_top = top_is (child_kinds r) f a (rule-tile f a h) ∙ ap (λ k. top_kind (at_level f k)) deep;
      })).among

      pub named-is : (a : Address) → depth a ≡ n → in_frame P r f a ≡ tile_of_ancestor f (fine_tile f n a)
      named-is a deep = ap (λ k. tile_of_ancestor f (fine_tile f k a)) deep
