-- How a listing stands: in one of six ways, each of which excludes those before it.
use Rattle.std.proofs.Common.{◌≡◌, ℕ, ◌-◌, List, length, Ok, Err, None, sym, ◌∙◌, subst, arith}
use Rattle.theory_addresses.specs.Address.{Address, depth, Fits}
use Rattle.theory_addresses.specs.Search.{IsAmong}
use Rattle.theory_addresses.specs.Tables as tables
use Rattle.theory_addresses.proofs.Lists.{AllByRecursion-among, AllByRecursion-each, IsAmong-map}
use Rattle.cyclo_points.specs.declared.order.Order.{Order}
use Rattle.cyclo_points.specs.Order.{points_of, is_refused}
use Rattle.cyclo_points.specs.Point.{IsOf}
use Rattle.theory_dissection.specs.Accepted.{AcceptedRule}
use Rattle.theory_edge_to_edge.specs.Contacts.{tables_of}
use Rattle.theory_frames.specs.Frame.{IsTileOf}
use Rattle.theory_walks.specs.Ancestors.{full}
use Rattle.theory_walks.specs.Frames.{FrameValue, IsFrameOf}
use Rattle.theory_walks.proofs.Walks.{StillFits}
use Rattle.listing_text.specs.declared.listing_fault.ListingFault.{ListingFault}
use Rattle.listing_text.specs.Listing.{Entry}
use Rattle.theory_listings.specs.FrameListing.{AreOfFrame, NamesMeeting, IsDouble}
use Rattle.theory_listings.specs.FrameWalk.{IsRightInFrame}
use Rattle.theory_listings.proofs.Lines.{line-among}
use Rattle.plane_geom.specs.declared.window.Window.{Window}
use Rattle.rule_model.specs.Tiling.{Tiling, children}
use Rattle.rule_model.proofs.Contacts.{child_kinds_of_tables}
use Rattle.theory_substitution.specs.Points.{Points}
use Rattle.window_cover.specs.Windows.{TileOf, box_of, IsWindow}
use Rattle.theory_windows.specs.FrameCover.{IsWindowOn}
use Rattle.list_verify.specs.Listing.{tile_listed, tiles_listed, IsRightFor, Reading, IsRightReading, NamesTileThere, HasAllTiles}
use Rattle.list_verify.specs.ListLaws.{HasListLaws}
use Rattle.list_verify.specs.OneVerdict.{tiling_accepted}
use Rattle.list_verify.specs.Verdict.{frame_listed, AreOfFrameGrown, AreApart, HasNotOfFrame, HasDouble, HasStrayLine, LacksEntries}
use Rattle.list_verify.specs.Walked.{first_refused_at}

-- ---- what is read is read in one way
pub one-reading : (read : Reading) (xs ys : List Entry) → read ≡ Ok xs → read ≡ Ok ys → xs ≡ ys
one-reading read xs ys h k = cc (sym h ∙ k)

pub one-text_fault : (read : Reading) (d e : ListingFault) → read ≡ Err d → read ≡ Err e → d ≡ e
one-text_fault read d e h k = cc (sym h ∙ k)

-- ---- how a listing stands: its text has a fault; a line is outside the frame, or a double; a tile is lacking; a line is stray; or it is right
pub data Standing : Type 0 where
  Unread : ListingFault → Standing
  Outside : ℕ → Standing
  Doubled : ℕ → Standing
  Lacking : Standing
  Straying : ℕ → Standing
  Right : ℕ → Standing

module _ (o : Order) (T : AcceptedRule (points_of o)) (fits : StillFits (children (tiling_accepted o T)))
    (L : HasListLaws (points_of o)) (f : FrameValue)
    (is : IsFrameOf (tiling_accepted o T) f) (w : Window) (fit : IsWindow w) (reading : Reading) where
  abbrev t : Tiling
  t = tiling_accepted o T

  abbrev P : Points
  P = points_of o

  abbrev F : Address
  F = full t f

  abbrev d : ℕ
  d = length f.digits

  abbrev kinds : List (List ℕ)
  kinds = tables.child_kinds (tables_of P T.rule)

  same-lines : (xs ys : List Entry) → reading ≡ Ok xs → reading ≡ Ok ys → xs ≡ ys
  same-lines xs ys h k = one-reading reading xs ys h k

  on : IsWindowOn P T F (box_of t w)
  on = record {
    frame = subst (λ kinds. Fits kinds F) (sym (child_kinds_of_tables P T.rule)) (fits f.base f.start (64 - depth f.base) is.fits);
    wide = omega (arith, fit.some_width);
    high = omega (arith, fit.some_height);
  }

  right-in_frame : (entries : List Entry) (h : IsRightFor t f w entries)
      → IsRightInFrame P (is_refused o) T F (box_of t w) d (tiles_listed t entries) h.right.depth
  right-in_frame entries h = L.right T F (is_refused o) (box_of t w) on d (tiles_listed t entries) h.right

  abbrev pub Stands : Standing → Type 0
  Stands (Unread e) = reading ≡ Err e
  Stands (Outside i) = HasNotOfFrame t f reading i
  Stands (Doubled i) = HasDouble t f reading i
  Stands Lacking = LacksEntries t f w reading
  Stands (Straying i) = HasStrayLine t f w reading i
  Stands (Right n) = IsRightReading t f w reading n

  -- ---- the text is read, unless it has a fault
  abbrev pub IsRead : Standing → Type 0
  IsRead (Unread e) = Unit {0}
  IsRead s = (entries : List Entry) × (reading ≡ Ok entries)

  pub is-read : (s : Standing) → Stands s → IsRead s
  is-read (Unread e) h = tt
  is-read (Outside i) h = (h.entries, h.read)
  is-read (Doubled i) h = (h.entries, h.lines.read)
  is-read Lacking h = (h.entries, h.lines.lines.read)
  is-read (Straying i) h = (h.entries, h.lines.lines.read)
  is-read (Right n) h = (h.entries, h.read)

  pub unread : (e : ListingFault) → Stands (Unread e) → (entries : List Entry) × (reading ≡ Ok entries) → ⊥
  unread e h k = absurd (cc (sym h ∙ k.1))

  -- ---- then its lines are of the frame, unless one is outside
  abbrev pub IsInside : Standing → Type 0
  IsInside (Unread e) = Unit {0}
  IsInside (Outside i) = Unit {0}
  IsInside s = (entries : List Entry) × AreOfFrameGrown t f reading entries

  pub is-inside : (s : Standing) → Stands s → IsInside s
  is-inside (Unread e) h = tt
  is-inside (Outside i) h = tt
  is-inside (Doubled i) h = (h.entries, h.lines)
  is-inside Lacking h = (h.entries, h.lines.lines)
  is-inside (Straying i) h = (h.entries, h.lines.lines)
  is-inside (Right n) h = (h.entries, record { read = h.read; of_frame = (right-in_frame h.entries h.right).listing_on.of_frame })

  pub outside : (i : ℕ) → HasNotOfFrame t f reading i → (entries : List Entry) × AreOfFrameGrown t f reading entries → ⊥
  outside i h k =
      let x = h.first.line in
      absurd (h.first.so (AllByRecursion-among (λ (x : TileOf t). IsTileOf kinds (frame_listed t f h.entries) x.address) x (tiles_listed t h.entries)
      (line-among (tiles_listed t h.entries) i x h.first.is_line)
      (subst (λ es. AreOfFrame P T.rule (frame_listed t f es) (tiles_listed t es)) (same-lines k.0 h.entries k.1.read h.read) k.1.of_frame)))

  -- ---- then they are apart, unless one is a double
  abbrev pub IsApart : Standing → Type 0
  IsApart (Unread e) = Unit {0}
  IsApart (Outside i) = Unit {0}
  IsApart (Doubled i) = Unit {0}
  IsApart s = (entries : List Entry) × AreApart t f reading entries

  pub is-apart : (s : Standing) → Stands s → IsApart s
  is-apart (Unread e) h = tt
  is-apart (Outside i) h = tt
  is-apart (Doubled i) h = tt
  is-apart Lacking h = (h.entries, h.lines)
  is-apart (Straying i) h = (h.entries, h.lines)
  is-apart (Right n) h = (
    h.entries,
    record {
      lines = record { read = h.read; of_frame = (right-in_frame h.entries h.right).listing_on.of_frame };
      none_double = (L.no_list_fault T F (is_refused o) (box_of t w) on d (tiles_listed t h.entries) h.right.right).no_double;
    },
  )

  pub doubled : (i : ℕ) → HasDouble t f reading i → (entries : List Entry) × AreApart t f reading entries → ⊥
  doubled i h k =
      absurd (k.1.none_double i (subst (λ es. IsDouble (frame_listed t f es) (tiles_listed t es) i)
      (same-lines h.entries k.0 h.lines.read k.1.lines.read) h.first))

  -- ---- then all tiles are there, or one is lacking
  pub record HasAll : Type 0 where
    entries : List Entry
    read : reading ≡ Ok entries
    centre_found : first_refused_at t f w ≡ None
    all_tiles : HasAllTiles t f w d entries

  pub stray-all : (i : ℕ) → HasStrayLine t f w reading i → HasAll
  stray-all i h = record { entries = h.entries; read = h.lines.lines.read; centre_found = h.centre_found; all_tiles = h.stray.all_tiles }

  pub right-all : (n : ℕ) → IsRightReading t f w reading n → HasAll
  right-all n h = record {
    entries = h.entries;
    read = h.read;
    centre_found = h.centre_found;
    all_tiles = record {
      all_listed = (right-in_frame h.entries h.right).all_listed h.unrefused;
      of_order = AllByRecursion-each (λ (e : Entry). IsOf o e.motion.shift) (λ (e : Entry). NamesTileThere t f w e → IsOf o e.motion.shift) h.entries
          (λ e k m. k) h.right.of_order;
    };
  }

  pub lacking : LacksEntries t f w reading → HasAll → ⊥
  lacking h k = absurd (h.lacking k.centre_found (subst (HasAllTiles t f w d) (same-lines k.entries h.entries k.read h.lines.lines.read) k.all_tiles))

  -- ---- then no line is stray, or one is
  pub stray : (i n : ℕ) → HasStrayLine t f w reading i → IsRightReading t f w reading n → ⊥
  stray i n h k =
      let s = h.stray.first in
      let same = same-lines h.entries k.entries h.lines.lines.read k.read in
      absurd (s.so (AllByRecursion-among (λ (x : TileOf t). NamesMeeting P T.rule F (box_of t w) x.address)
      (tile_listed t s.line) (tiles_listed t k.entries)
      (IsAmong-map (tile_listed t) s.line k.entries (subst (λ es. IsAmong s.line es) same (line-among h.entries i s.line s.is_line)))
      (right-in_frame k.entries k.right).each_meets))
