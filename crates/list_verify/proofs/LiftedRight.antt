-- Right lines, all tiles and a stray line are said of lines that are lifted as of the lines as they were.
use Rattle.std.proofs.Common.{◌≡◌, ◌↔◌, ℕ, List, length, None, sym, ◌∙◌, subst}
use Rattle.std.specs.List.{AllByRecursion}
use Rattle.theory_addresses.specs.Address.{Address}
use Rattle.theory_addresses.specs.Search.{IsAmong}
use Rattle.theory_addresses.proofs.Lists.{AllByRecursion-among, AllByRecursion-from, AllByRecursion-map, IsAmong-map}
use Rattle.cyclo_points.specs.Order.{points_of, is_refused}
use Rattle.cyclo_points.specs.Point.{IsOf}
use Rattle.theory_dissection.specs.Accepted.{AcceptedRule}
use Rattle.theory_walks.specs.Ancestors.{full}
use Rattle.theory_walks.specs.Frames.{FrameValue, whole, IsFrameOf, GrowsTo}
use Rattle.theory_walks.proofs.Walks.{StillFits}
use Rattle.listing_text.specs.declared.entry.Entry as program
use Rattle.listing_text.specs.Listing.{Entry}
use Rattle.theory_listings.specs.Lines.{IsFirstLine}
use Rattle.theory_listings.specs.FrameListing.{deepest_listed, IsRightListing, AreAllListed}
use Rattle.theory_listings.specs.FrameLifted.{SayTheSame}
use Rattle.theory_listings.proofs.Lines.{first-same, first-source, not-both}
use Rattle.plane_geom.specs.declared.window.Window.{Window}
use Rattle.rule_model.specs.declared.rule.Rule.{Rule}
use Rattle.rule_model.specs.Tiling.{Tiling, tiling_of, children}
use Rattle.std.specs.declared.result.Result.TheVariants.{Ok}
use Rattle.theory_substitution.specs.Points.{Points}
use Rattle.tile_place.proofs.Plane.{IsSettled, its_rule}
use Rattle.theory_windows.specs.FrameWindow.{IsLeastDepth}
use Rattle.window_cover.specs.Windows.{TileOf, box_of, IsWindow}
use Rattle.list_verify.specs.FoundLines.{entries_of}
use Rattle.list_verify.specs.Lifted.{entry_lifted, deepest_entry, AreLifted}
use Rattle.list_verify.specs.LineIndex.{NoneAgain}
use Rattle.list_verify.specs.Listing.{tiles_listed, NamesTileThere, HasAllTiles, HasStray, Reading, IsRightReading}
use Rattle.list_verify.specs.ListLaws.{HasListLaws}
use Rattle.list_verify.specs.Walked.{first_refused_at, AreRightLines}
use Rattle.list_verify.proofs.Lines.{deepest-is}
use Rattle.list_verify.proofs.LiftedLines as lift

module _ (m : Rule) (settled : IsSettled m) (fits : StillFits (children (tiling_of m)))
    (L : HasListLaws (points_of m.order)) (f : FrameValue) (is : IsFrameOf (tiling_of m) f) (w : Window)
    (fit : IsWindow w)
    (entries : List Entry) (g : FrameValue) (grows : GrowsTo (tiling_of m) f g)
    (deep_is : length g.digits ≡ deepest_entry (tiling_of m) (length f.digits) entries) where
  abbrev t : Tiling
  t = tiling_of m

  abbrev P : Points
  P = points_of m.order

  abbrev T : AcceptedRule P
  T = its_rule m settled

  abbrev F : Address
  F = full t f

  abbrev d : ℕ
  d = length f.digits

  abbrev listing : List (TileOf t)
  listing = tiles_listed t entries

  module _ (lines : List program.Entry) (are : AreLifted (children t) (whole g) entries (entries_of lines))
      (apart : NoneAgain lines (length lines)) where
    abbrev others : List (TileOf t)
    others = tiles_listed t (entries_of lines)

    same-full : full t g ≡ F
    same-full = lift.same-full m settled fits L f is w fit entries g grows deep_is

    say : SayTheSame P (is_refused m.order) T.rule F (box_of t w) d listing others
    say = lift.say m settled fits L f is w fit entries g grows deep_is lines are

    there-same : (x : Entry) → IsAmong x entries → NamesTileThere t g w (entry_lifted (whole g) x) ↔ NamesTileThere t f w x
    there-same = lift.there-same m settled fits L f is w fit entries g grows deep_is lines are

    low-both : deepest_listed d others ≡ deepest_listed (length g.digits) others
    low-both = say.deepest ∙ sym deep_is ∙ sym (deepest-is m settled fits L g w fit lines
        (lift.lines-in m settled fits L f is w fit entries g grows deep_is lines are apart))

    -- ---- all are listed
    all-lifted : AreAllListed P (is_refused m.order) T.rule F (box_of t w) d listing
        → AreAllListed P (is_refused m.order) T.rule (full t g) (box_of t w) (length g.digits) others
    all-lifted h =
        let k = say.all_listed.1 h in
        subst (λ a. AreAllListed P (is_refused m.order) T.rule a (box_of t w) (length g.digits) others) (sym same-full)
        (record {
          depth = k.depth;
          least = subst (λ n. IsLeastDepth P T.rule F (box_of t w) n k.depth)
              low-both k.least;
          each_listed = k.each_listed;
          none_refused = k.none_refused;
        })

    all-back : AreAllListed P (is_refused m.order) T.rule (full t g) (box_of t w) (length g.digits) others
        → AreAllListed P (is_refused m.order) T.rule F (box_of t w) d listing
    all-back h =
        let k = subst (λ a. AreAllListed P (is_refused m.order) T.rule a (box_of t w) (length g.digits) others) same-full h in
        say.all_listed.0 (record {
          depth = k.depth;
          least = subst (λ n. IsLeastDepth P T.rule F (box_of t w) n k.depth) (sym low-both) k.least;
          each_listed = k.each_listed;
          none_refused = k.none_refused;
        })

    right-back : IsRightListing P T.rule (full t g) (box_of t w) (length g.digits) others → IsRightListing P T.rule F (box_of t w) d listing
    right-back h =
        let k = subst (λ a. IsRightListing P T.rule a (box_of t w) (length g.digits) others) same-full h in
        say.right.0 (record {
          depth = k.depth;
          least = subst
              (λ n. IsLeastDepth P T.rule F (box_of t w) n k.depth) (sym low-both) k.least;
          of_frame = k.of_frame;
          all_that_meet = k.all_that_meet;
        })

    pub has-lifted : HasAllTiles t f w d entries → HasAllTiles t g w (length g.digits) (entries_of lines)
    has-lifted h = record {
      all_listed = all-lifted h.all_listed;
      of_order = subst (AllByRecursion (λ (e : Entry). NamesTileThere t g w e → IsOf t.order e.motion.shift)) (sym are.are)
          (AllByRecursion-map (λ (e : Entry). NamesTileThere t g w e → IsOf t.order e.motion.shift) (entry_lifted (whole g)) entries
          (AllByRecursion-from (λ (e : Entry). NamesTileThere t g w (entry_lifted (whole g) e) → IsOf t.order e.motion.shift) entries
          (λ x i there. AllByRecursion-among (λ (e : Entry). NamesTileThere t f w e
          → IsOf t.order e.motion.shift) x entries i h.of_order ((there-same x i).0 there))));
    }

    has-back : HasAllTiles t g w (length g.digits) (entries_of lines) → HasAllTiles t f w d entries
    has-back h = record {
      all_listed = all-back h.all_listed;
      of_order = AllByRecursion-from (λ (e : Entry). NamesTileThere t f w e → IsOf t.order e.motion.shift) entries
          (λ x i there. AllByRecursion-among (λ (e : Entry). NamesTileThere t g w e
          → IsOf t.order e.motion.shift) (entry_lifted (whole g) x) (entries_of lines)
          (subst (IsAmong (entry_lifted (whole g) x)) (sym are.are)
          (IsAmong-map (entry_lifted (whole g)) x entries i)) h.of_order ((there-same x i).1 there));
    }

    -- ---- a stray line
    pub stray : (i : ℕ) → HasStray t g w (length g.digits) (entries_of lines) i → HasStray t f w d entries i
    stray i h = record {
      all_tiles = has-back h.all_tiles;
      first = first-same (λ (e : Entry). ¬ NamesTileThere t g w (entry_lifted (whole g) e))
          (λ (e : Entry). ¬ NamesTileThere t f w e) entries i (λ x j. not-both (there-same x j))
          (first-source (λ (e : Entry). ¬ NamesTileThere t g w e) (entry_lifted (whole g)) entries i
          (subst (λ es. IsFirstLine (λ (e : Entry). ¬ NamesTileThere t g w e) es i) are.are h.first));
    }

    pub centre-back : first_refused_at t g w ≡ None → first_refused_at t f w ≡ None
    centre-back none = sym (lift.centre-same m settled fits L f is w fit entries g grows deep_is) ∙ none

    -- ---- right lines
    pub verified : (reading : Reading) (n : ℕ) → reading ≡ Ok entries → n ≡ length entries
        → AreRightLines t g w (entries_of lines) → IsRightReading t f w reading n
    verified reading n read count h = record {
      entries = entries;
      read = read;
      count = count;
      right = record {
        of_order = AllByRecursion-from (λ (e : Entry). IsOf t.order e.motion.shift) entries
            (λ x i. AllByRecursion-among (λ (e : Entry). IsOf t.order e.motion.shift) (entry_lifted (whole g) x) (entries_of lines)
            (subst (IsAmong (entry_lifted (whole g) x)) (sym are.are) (IsAmong-map (entry_lifted (whole g)) x entries i)) h.of_order);
        right = right-back h.right;
      };
      unrefused = say.unrefused.0 h.unrefused;
      centre_found = centre-back h.centre_found;
    }
