-- Why the walk through lines that are lifted stops, it stops for the lines as they were.
use Rattle.std.proofs.Common.{◌≡◌, ◌⊎◌, inl, inr, ℕ, ◌≤◌, List, ◌++◌, length, slice_get, Some, refl, sym, ap, ◌∙◌, subst}
use Rattle.theory_addresses.specs.Address.{Address, depth}
use Rattle.theory_addresses.specs.Search.{IsAmong}
use Rattle.theory_addresses.proofs.Lists.{AllByRecursion-among, IsAmong-map}
use Rattle.theory_addresses.proofs.Ranges.{place-among, image-at}
use Rattle.cyclo_points.specs.Order.{points_of}
use Rattle.cyclo_points.specs.declared.motion.Motion.{Motion as Moved}
use Rattle.theory_frames.specs.Frame.{IsTileOf, lifted_in}
use Rattle.theory_walks.specs.Frames.{FrameValue, whole, IsFrameOf, GrowsTo}
use Rattle.theory_walks.proofs.Lifting.{lifted-twice, longer}
use Rattle.theory_walks.proofs.Walks.{StillFits, GrowsTo-is}
use Rattle.listing_text.specs.declared.entry.Entry as program
use Rattle.listing_text.specs.Listing.{Entry}
use Rattle.plane_geom.specs.declared.window.Window.{Window}
use Rattle.rule_model.specs.declared.rule.Rule.{Rule}
use Rattle.rule_model.specs.Tiling.{Tiling, tiling_of, children}
use Rattle.std.specs.declared.result.Result.TheVariants.{Ok}
use Rattle.tile_place.proofs.Plane.{IsSettled}
use Rattle.window_cover.specs.Windows.{IsWindow}
use Rattle.list_verify.specs.Causes.{IsMisplaced}
use Rattle.list_verify.specs.FoundLines.{entries_of}
use Rattle.list_verify.specs.Faults.{OrNoRoom}
use Rattle.list_verify.specs.Lifted.{entry_lifted, deepest_entry, AreLifted}
use Rattle.list_verify.specs.LineIndex.{NoneAgain}
use Rattle.list_verify.specs.Listing.{Reading}
use Rattle.list_verify.specs.ListLaws.{HasListLaws}
use Rattle.list_verify.specs.Verdict.{AreApart, IsCauseIn}
use Rattle.list_verify.specs.Walked.{first_refused_at, StopsFor, IsStoppedBy, IsStrayFault}
use Rattle.list_verify.specs.declared.list_fault.ListFault.{ListFault}
use Rattle.list_verify.specs.declared.list_fault.ListFault.TheVariants.{TooLong, BadLine, Address as BadAddress, BadKind, NotOfFrame, Double, Missing, WrongPlace, Stray, DepthLimit, CoordLimit, NoMemory}
use Rattle.list_verify.proofs.Verdicts.{walk-caused}
use Rattle.list_verify.proofs.LiftedLines as lift
use Rattle.list_verify.proofs.LiftedFaults as fault_of
use Rattle.list_verify.proofs.LiftedRight as right

module _ (m : Rule) (settled : IsSettled m) (fits : StillFits (children (tiling_of m)))
    (L : HasListLaws (points_of m.order)) (f : FrameValue) (is : IsFrameOf (tiling_of m) f) (w : Window)
    (fit : IsWindow w)
    (entries : List Entry) (g : FrameValue) (grows : GrowsTo (tiling_of m) f g)
    (deep_is : length g.digits ≡ deepest_entry (tiling_of m) (length f.digits) entries) where
  abbrev t : Tiling
  t = tiling_of m

  abbrev d : ℕ
  d = length f.digits

  abbrev low : ℕ
  low = deepest_entry t d entries

  module _ (lines : List program.Entry) (are : AreLifted (children t) (whole g) entries (entries_of lines))
      (apart : NoneAgain lines (length lines)) (k : FrameValue) (later : GrowsTo t g k) where
    centre-same : first_refused_at t g w ≡ first_refused_at t f w
    centre-same = lift.centre-same m settled fits L f is w fit entries g grows deep_is

    are-apart : (reading : Reading) → reading ≡ Ok entries → AreApart t f reading entries
    are-apart = fault_of.are-apart m settled fits L f is w fit entries g grows deep_is lines are apart

    twice : (a : Address) → depth a ≤ length g.digits → lifted_in (whole k) (lifted_in (whole g) a) ≡ lifted_in (whole k) a
    twice a low =
        let l = longer t g (length g.digits) (length k.digits) grows.is_frame.holds_base later.no_shallower in
        let same : whole k ≡ record { kind = g.base.kind; digits = g.digits ++ l.more } =
        ap whole (GrowsTo-is t g k later) ∙ (λ i. record { kind = g.base.kind; digits = l.is i })
        ∙ ap (λ (x : FrameValue). record { kind = g.base.kind; digits = x.digits ++ l.more }) (sym grows.is_frame.its_digits) in
        subst (λ b. lifted_in b (lifted_in (whole g) a) ≡ lifted_in b a) (sym same) (lifted-twice (whole g) a l.more low)

    again : (x : Entry) → IsAmong x entries → lifted_in (whole k) (lifted_in (whole g) x.address) ≡ lifted_in (whole k) x.address
    again x i = twice x.address (AllByRecursion-among
        (λ (e : Entry). IsTileOf (children t) (whole g) e.address) x entries i are.of_frame).no_deeper

    misplaced : (i : ℕ) (motion : Moved) → IsMisplaced t k w (entries_of lines) i motion → IsMisplaced t k w entries i motion
    misplaced i motion h =
        let x = image-at (entry_lifted (whole g)) h.entry entries i (subst (λ es. slice_get es i ≡ Some h.entry) are.are h.is_line) in record {
          entry = x.source;
          is_line = x.at;
          tile = h.tile;
          its_address = h.its_address ∙ ap (λ (y : Entry). lifted_in (whole k) y.address) (sym x.image)
              ∙ again x.source (place-in x.source i x.at);
          of_frame = h.of_frame;
          tile_meets = h.tile_meets;
          its_motion = h.its_motion;
          in_order = h.in_order;
          other = λ e. absurd (h.other (ap (λ (y : Entry). y.motion) (sym x.image) ∙ e));
        }
      where
        place-in : (x : Entry) (i : ℕ) → slice_get entries i ≡ Some x → IsAmong x entries
        place-in x i at = place-among x entries i at

    cause-back : (fault : ListFault) → StopsFor t g k w (entries_of lines) fault → StopsFor t f k w entries fault
    cause-back (Missing addr) c = record {
      tile = c.tile;
      its_address = c.its_address;
      of_frame = c.of_frame;
      tile_meets = c.tile_meets;
      no_line = λ e i same. absurd (c.no_line (entry_lifted (whole g) e)
          (subst (IsAmong (entry_lifted (whole g) e)) (sym are.are)
          (IsAmong-map (entry_lifted (whole g)) e entries i)) (again e i ∙ same));
    }
    cause-back (WrongPlace line motion) c = (c.0, c.1, misplaced c.0 motion c.2)
    cause-back (DepthLimit addr edge) c = c
    cause-back (CoordLimit value) (inl h) = inl (record { is_first = sym centre-same ∙ h.is_first; value_in_order = h.value_in_order })
    cause-back (CoordLimit value) (inr c) = inr c
    cause-back TooLong c = elim c [ ]
    cause-back (BadLine line place) c = elim c [ ]
    cause-back (BadAddress line fault) c = elim c [ ]
    cause-back (BadKind line) c = elim c [ ]
    cause-back (NotOfFrame line) c = elim c [ ]
    cause-back (Double line) c = elim c [ ]
    cause-back (Stray line) c = elim c [ ]
    cause-back NoMemory c = elim c [ ]

    pub stopped : (fault : ListFault) → IsStoppedBy t g k w (entries_of lines) fault → IsStoppedBy t f k w entries fault
    stopped fault s = record {
      cause = cause-back fault s.cause;
      not_all = λ none all. absurd (s.not_all (centre-same ∙ none)
          (right.has-lifted m settled fits L f is w fit entries g grows deep_is lines are apart all));
    }

    pub walk-said : (reading : Reading) → reading ≡ Ok entries → (fault : ListFault)
        → OrNoRoom (λ e. IsStoppedBy t g k w (entries_of lines) e ⊎ IsStrayFault t g w (entries_of lines) e) fault
        → IsCauseIn t f k w reading fault
    walk-said reading read fault (inl e) = subst (IsCauseIn t f k w reading) (sym e) tt
    walk-said reading read fault (inr (inl s)) = walk-caused t f k w reading entries (are-apart reading read) fault (stopped fault s)
    walk-said reading read fault (inr (inr s)) = subst (IsCauseIn t f k w reading) (sym s.is) (
      s.number,
      refl,
      record {
        entries = entries;
        lines = are-apart reading read;
        centre_found = right.centre-back m settled fits L f is w fit entries g grows deep_is lines are apart s.centre_found;
        stray = right.stray m settled fits L f is w fit entries g grows deep_is lines are apart s.number s.stray;
      },
    )
