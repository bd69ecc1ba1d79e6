-- A listing stands in one way.
use Rattle.std.proofs.Common.{◌≡◌, inl, inr, ℕ, ◌<◌, List, length, refl, sym, ap, ◌∙◌, subst, arith}
use Rattle.std.proofs.lemmas.Bool.{cases_lt}
use Rattle.theory_addresses.specs.Address.{Address}
use Rattle.theory_addresses.specs.Tables as tables
use Rattle.cyclo_points.specs.declared.order.Order.{Order}
use Rattle.cyclo_points.specs.Order.{points_of}
use Rattle.theory_dissection.specs.Accepted.{AcceptedRule}
use Rattle.theory_edge_to_edge.specs.Contacts.{tables_of}
use Rattle.theory_frames.specs.Frame.{IsTileOf}
use Rattle.theory_walks.specs.Frames.{FrameValue, IsFrameOf}
use Rattle.theory_walks.proofs.Walks.{StillFits}
use Rattle.listing_text.specs.Listing.{Entry}
use Rattle.theory_listings.specs.FrameListing.{IsNotOfFrame, IsDouble}
use Rattle.theory_listings.specs.Lines.{IsFirstLine}
use Rattle.plane_geom.specs.declared.window.Window.{Window}
use Rattle.rule_model.specs.Tiling.{Tiling, children}
use Rattle.theory_substitution.specs.Points.{Points}
use Rattle.theory_substitution.specs.Supertile.{Placed}
use Rattle.window_cover.specs.Windows.{TileOf, IsWindow}
use Rattle.list_verify.specs.Listing.{tiles_listed, Reading, IsRightReading, NamesTileThere}
use Rattle.list_verify.specs.ListLaws.{HasListLaws}
use Rattle.list_verify.specs.OneVerdict.{tiling_accepted}
use Rattle.list_verify.specs.Verdict.{frame_listed, HasNotOfFrame, HasDouble, HasStrayLine}
use Rattle.list_verify.proofs.ListStanding as stand
use Rattle.list_verify.proofs.ListStanding.{Standing, one-reading, one-text_fault}
use Rattle.list_verify.proofs.ListStanding.Standing.{Unread, Outside, Doubled, Lacking, Straying, Right}

-- ---- two first lines are one
one_number : (i j : ℕ) → ((i < j) → ⊥) → ((j < i) → ⊥) → i ≡ j
one_number i j h k = elim (cases_lt i j) [
  | inl l ↦ absurd (h l)
  | inr l ↦ elim (cases_lt j i) [ inl m ↦ absurd (k m) | inr m ↦ omega (arith, l, m) ]
]

one-first : {L : Type 0} (Q : L → Type 0) (lines : List L) (i j : ℕ) → IsFirstLine Q lines i → IsFirstLine Q lines j → i ≡ j
one-first Q lines i j h k = one_number i j (λ l. absurd (k.first i h.line l h.is_line h.so)) (λ l. absurd (h.first j k.line l k.is_line k.so))

one-double : {A : Type 0} (f : Address) (listing : List (Placed A)) (i j : ℕ) → IsDouble f listing i → IsDouble f listing j → i ≡ j
one-double f listing i j h k = one_number i j (λ l. absurd (k.first i h.line l h.is_line h.earlier))
    (λ l. absurd (h.first j k.line l k.is_line k.earlier))

module _ (o : Order) (T : AcceptedRule (points_of o)) (fits : StillFits (children (tiling_accepted o T)))
    (L : HasListLaws (points_of o)) (f : FrameValue)
    (is : IsFrameOf (tiling_accepted o T) f) (w : Window) (fit : IsWindow w) (reading : Reading) where
  abbrev t : Tiling
  t = tiling_accepted o T

  abbrev P : Points
  P = points_of o

  abbrev kinds : List (List ℕ)
  kinds = tables.child_kinds (tables_of P T.rule)

  abbrev Stands : Standing → Type 0
  Stands s = stand.Stands o T fits L f is w fit reading s

  pub one-count : (n m : ℕ) → IsRightReading t f w reading n → IsRightReading t f w reading m → n ≡ m
  one-count n m h k = h.count ∙ ap length (one-reading reading h.entries k.entries h.read k.read) ∙ sym k.count

  -- ---- so it stands in one way
  one-outside : (i j : ℕ) → HasNotOfFrame t f reading i → HasNotOfFrame t f reading j → i ≡ j
  one-outside i j h k =
      one-first (λ (x : TileOf t). ¬ IsTileOf kinds (frame_listed t f h.entries) x.address) (tiles_listed t h.entries) i j h.first
      (subst (λ es. IsNotOfFrame P T.rule (frame_listed t f es) (tiles_listed t es) j)
      (one-reading reading k.entries h.entries k.read h.read) k.first)

  one-doubled : (i j : ℕ) → HasDouble t f reading i → HasDouble t f reading j → i ≡ j
  one-doubled i j h k =
      one-double (frame_listed t f h.entries) (tiles_listed t h.entries) i j h.first
      (subst (λ es. IsDouble (frame_listed t f es) (tiles_listed t es) j)
      (one-reading reading k.entries h.entries k.lines.read h.lines.read) k.first)

  one-stray : (i j : ℕ) → HasStrayLine t f w reading i → HasStrayLine t f w reading j → i ≡ j
  one-stray i j h k =
      one-first (λ (e : Entry). ¬ NamesTileThere t f w e) h.entries i j h.stray.first
      (subst (λ es. IsFirstLine (λ (e : Entry). ¬ NamesTileThere t f w e) es j)
      (one-reading reading k.entries h.entries k.lines.lines.read h.lines.lines.read) k.stray.first)

  pub one-standing : (a b : Standing) → Stands a → Stands b → a ≡ b
  one-standing (Unread e) (Unread g) h k = ap Unread (one-text_fault reading e g h k)
  one-standing (Unread e) b h k = absurd (stand.unread o T fits L f is w fit reading e h (stand.is-read o T fits L f is w fit reading b k))
  one-standing a (Unread g) h k = absurd (stand.unread o T fits L f is w fit reading g k (stand.is-read o T fits L f is w fit reading a h))
  one-standing (Outside i) (Outside j) h k = ap Outside (one-outside i j h k)
  one-standing (Outside i) b h k = absurd (stand.outside o T fits L f is w fit reading i h (stand.is-inside o T fits L f is w fit reading b k))
  one-standing a (Outside j) h k = absurd (stand.outside o T fits L f is w fit reading j k (stand.is-inside o T fits L f is w fit reading a h))
  one-standing (Doubled i) (Doubled j) h k = ap Doubled (one-doubled i j h k)
  one-standing (Doubled i) b h k = absurd (stand.doubled o T fits L f is w fit reading i h (stand.is-apart o T fits L f is w fit reading b k))
  one-standing a (Doubled j) h k = absurd (stand.doubled o T fits L f is w fit reading j k (stand.is-apart o T fits L f is w fit reading a h))
  one-standing Lacking Lacking h k = refl
  one-standing Lacking (Straying j) h k = absurd (stand.lacking o T fits L f is w fit reading h (stand.stray-all o T fits L f is w fit reading j k))
  one-standing Lacking (Right m) h k = absurd (stand.lacking o T fits L f is w fit reading h (stand.right-all o T fits L f is w fit reading m k))
  one-standing (Straying i) Lacking h k = absurd (stand.lacking o T fits L f is w fit reading k (stand.stray-all o T fits L f is w fit reading i h))
  one-standing (Right n) Lacking h k = absurd (stand.lacking o T fits L f is w fit reading k (stand.right-all o T fits L f is w fit reading n h))
  one-standing (Straying i) (Straying j) h k = ap Straying (one-stray i j h k)
  one-standing (Straying i) (Right m) h k = absurd (stand.stray o T fits L f is w fit reading i m h k)
  one-standing (Right n) (Straying j) h k = absurd (stand.stray o T fits L f is w fit reading j n k h)
  one-standing (Right n) (Right m) h k = ap Right (one-count n m h k)
