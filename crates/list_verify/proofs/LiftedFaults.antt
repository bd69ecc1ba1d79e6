-- The faults of the addresses: a line that is not of the frame, and one that names the tile of an earlier one.
use Rattle.std.proofs.Common.{◌≡◌, inl, inr, ℕ, ◌+◌, ◌<◌, List, map, length, slice_get, Some, refl, sym, ap, ◌∙◌, subst}
use Rattle.std.proofs.lemmas.Option.{slice_get_within}
use Rattle.theory_addresses.specs.Address.{Address}
use Rattle.theory_addresses.specs.Tables.{child_kinds}
use Rattle.theory_addresses.proofs.Ranges.{slice_get-image, image-at}
use Rattle.cyclo_points.specs.Order.{points_of}
use Rattle.theory_dissection.specs.Accepted.{AcceptedRule}
use Rattle.theory_edge_to_edge.specs.Contacts.{tables_of}
use Rattle.theory_frames.specs.Frame.{at_level, IsTileOf, lifted_in}
use Rattle.theory_walks.specs.Ancestors.{full}
use Rattle.theory_walks.specs.Frames.{FrameValue, whole, IsFrameOf, GrowsTo}
use Rattle.theory_walks.proofs.Walks.{StillFits}
use Rattle.listing_text.specs.declared.entry.Entry as program
use Rattle.listing_text.specs.Listing.{Entry}
use Rattle.listing_text.specs.Views.{entry_of}
use Rattle.theory_listings.specs.Lines.{IsLineAt, IsFirstLine}
use Rattle.theory_listings.specs.FrameListing.{AreOfFrame, IsNotOfFrame, HasEarlier, IsDouble}
use Rattle.theory_listings.proofs.Lines.{first-image}
use Rattle.plane_geom.specs.declared.window.Window.{Window}
use Rattle.rule_model.specs.declared.rule.Rule.{Rule}
use Rattle.rule_model.specs.Tiling.{Tiling, tiling_of, children}
use Rattle.std.specs.declared.result.Result.TheVariants.{Ok}
use Rattle.theory_substitution.specs.Points.{Points}
use Rattle.tile_place.proofs.Plane.{IsSettled, its_rule}
use Rattle.tile_shape.specs.Views.{address_of}
use Rattle.theory_windows.specs.FramePatch.{tile_of_ancestor}
use Rattle.window_cover.specs.Windows.{TileOf, IsWindow}
use Rattle.list_verify.specs.FoundLines.{entries_of}
use Rattle.list_verify.specs.Faults.{OrNoRoom}
use Rattle.list_verify.specs.Lifted.{deepest_entry, AreLifted, IsStranger}
use Rattle.list_verify.specs.LineIndex.{HasAddress, NoneAgain, IsAgain}
use Rattle.list_verify.specs.Listing.{tile_listed, tiles_listed, Reading}
use Rattle.list_verify.specs.ListLaws.{HasListLaws}
use Rattle.list_verify.specs.Verdict.{frame_listed, AreApart, IsCauseIn}
use Rattle.list_verify.specs.declared.list_fault.ListFault.{ListFault}
use Rattle.list_verify.specs.declared.list_fault.ListFault.TheVariants.{Double}
use Rattle.list_verify.proofs.LiftedLines as lift

module _ (m : Rule) (settled : IsSettled m) (fits : StillFits (children (tiling_of m)))
    (L : HasListLaws (points_of m.order)) (f : FrameValue) (is : IsFrameOf (tiling_of m) f) (w : Window)
    (fit : IsWindow w)
    (entries : List Entry) (g : FrameValue) (grows : GrowsTo (tiling_of m) f g)
    (deep_is : length g.digits ≡ deepest_entry (tiling_of m) (length f.digits) entries) where
  abbrev t : Tiling
  t = tiling_of m

  abbrev P : Points
  P = points_of m.order

  abbrev T : AcceptedRule P
  T = its_rule m settled

  abbrev F : Address
  F = full t f

  abbrev d : ℕ
  d = length f.digits

  abbrev kinds : List (List ℕ)
  kinds = child_kinds (tables_of P T.rule)

  abbrev listing : List (TileOf t)
  listing = tiles_listed t entries

  abbrev low : ℕ
  low = deepest_entry t d entries

  same-low : at_level F low ≡ whole g
  same-low = lift.whole-low m settled fits L f is w fit entries g grows deep_is

  -- the first line that isn't of the frame
  pub stranger : (i : ℕ) → IsFirstLine (λ (e : Entry). ¬ IsTileOf (children t) (whole g) e.address) entries i
      → IsNotOfFrame P T.rule (frame_listed t f entries) listing i
  stranger i h = first-image (λ (x : TileOf t). ¬ IsTileOf kinds (at_level F low) x.address) (tile_listed t) entries i
      (subst (λ a. IsFirstLine (λ (e : Entry). ¬ IsTileOf kinds a e.address) entries i) (sym same-low)
      (subst (λ k. IsFirstLine (λ (e : Entry). ¬ IsTileOf k (whole g) e.address) entries i) (sym settled.same_child_kinds) h))

  pub stranger-caused : (reading : Reading) → reading ≡ Ok entries
      → (k : FrameValue) (fault : ListFault) → IsStranger (children t) (whole g) entries fault
      → IsCauseIn t f k w reading fault
  stranger-caused reading read k fault s = subst (IsCauseIn t f k w reading) (sym s.is)
      (s.number, refl, record { entries = entries; read = read; first = stranger s.number s.first })

  module _ (lines : List program.Entry) (are : AreLifted (children t) (whole g) entries (entries_of lines)) where
    abbrev lift-one : TileOf t → TileOf t
    lift-one x = tile_of_ancestor (at_level F low) x

    listed-lift : tiles_listed t (entries_of lines) ≡ map lift-one listing
    listed-lift = lift.lifted-are m settled fits L f is w fit entries g grows deep_is lines are

    framed : AreOfFrame P T.rule (at_level F low) listing
    framed = lift.frame-of m settled fits L f is w fit entries g grows deep_is lines are

    -- a line has one number
    tile-at : (i : ℕ) (x : TileOf t) → IsLineAt listing i x → (p : program.Entry)
        × (slice_get lines i ≡ Some p) × (address_of p.address ≡ lifted_in (at_level F low) x.address)
    tile-at i x at =
        let there = subst (λ ys. slice_get ys i ≡ Some (lift-one x)) (sym listed-lift) (slice_get-image lift-one x listing i at) in
        let e = image-at (tile_listed t) (lift-one x) (entries_of lines) i there in
        let p = image-at entry_of e.source lines i e.at in
        (p.source, p.at, ap (λ (y : Entry). y.address) p.image ∙ ap (λ (y : TileOf t). y.address) e.image)

    line-at : (i : ℕ) (p : program.Entry) → slice_get lines i ≡ Some p → (x : TileOf t) × IsLineAt listing i x
        × (address_of p.address ≡ lifted_in (at_level F low) x.address)
    line-at i p at =
        let there = subst (λ ys. slice_get ys i ≡ Some (tile_listed t (entry_of p))) listed-lift
        (slice_get-image (tile_listed t) (entry_of p) (entries_of lines) i (slice_get-image entry_of p lines i at)) in
        let x = image-at lift-one (tile_listed t (entry_of p)) listing i there in
        (x.source, x.at, ap (λ (y : TileOf t). y.address) (sym x.image))

    early-line : (i : ℕ) (x : TileOf t) → IsLineAt listing i x → (p : program.Entry) → address_of p.address ≡ lifted_in (at_level F low) x.address
        → HasEarlier (at_level F low) listing i x → (j : ℕ) × (j < i) × HasAddress lines j (address_of p.address)
    early-line i x at p named (j, y, l, there, same) = let q = tile-at j y there in (j, l, (q.0, q.1, q.2 ∙ same ∙ sym named))

    none-earlier : (n i : ℕ) → NoneAgain lines n → i < n → (x : TileOf t) → IsLineAt listing i x → HasEarlier (at_level F low) listing i x → ⊥
    none-earlier n i none l x at early =
        let p = tile-at i x at in
        refused (early-line i x at p.0 p.2 early)
      where
        refused : (j : ℕ) × (j < i) × HasAddress lines j (address_of (tile-at i x at).0.address) → ⊥
        refused (j, k, has) = absurd (none i (tile-at i x at).0 l (tile-at i x at).1 j k has)

    pub double : (i : ℕ) → IsAgain lines i → NoneAgain lines i → IsDouble (frame_listed t f entries) listing i
    double i again none =
        let own = line-at i again.line again.is_line in record {
          line = own.0;
          is_line = own.1;
          earlier = early own.0 own.2 again.earlier;
          first = λ j y l at e. absurd (none-earlier i j none l y at e);
        }
      where
        early : (x : TileOf t) → address_of again.line.address ≡ lifted_in (at_level F low) x.address
            → (j : ℕ) × (j < i) × HasAddress lines j (address_of again.line.address)
            → HasEarlier (at_level F low) listing i x
        early x named (j, l, has) = let y = line-at j has.0 has.1 in (j, y.0, l, y.1, sym y.2 ∙ has.2 ∙ named)

    pub double-caused : (reading : Reading) → reading ≡ Ok entries → (k : FrameValue) (fault : ListFault)
        → OrNoRoom (λ e. (i : ℕ) × (e ≡ Double (i + 1)) × IsAgain lines i × NoneAgain lines i) fault → IsCauseIn t f k w reading fault
    double-caused reading read k fault (inl e) = subst (IsCauseIn t f k w reading) (sym e) tt
    double-caused reading read k fault (inr h) = subst (IsCauseIn t f k w reading) (sym h.1) (
      h.0,
      refl,
      record {
        entries = entries;
        lines = record { read = read; of_frame = framed };
        first = double h.0 h.2 (λ j e l at n m has. absurd (h.3 j e l at n m has));
      },
    )

    -- ---- no two have one address
    module _ (apart : NoneAgain lines (length lines)) where
      below : (i : ℕ) (x : TileOf t) → IsLineAt listing i x → i < length lines
      below i x at = let p = tile-at i x at in slice_get_within lines i p.0 p.1

      none-double : (i : ℕ) → ¬ IsDouble (frame_listed t f entries) listing i
      none-double i dbl = absurd (none-earlier (length lines) i apart (below i dbl.line dbl.is_line) dbl.line dbl.is_line dbl.earlier)

      pub are-apart : (reading : Reading) → reading ≡ Ok entries → AreApart t f reading entries
      are-apart reading read = record {
        lines = record { read = read; of_frame = framed };
        none_double = λ i e. absurd (none-double i e);
      }
