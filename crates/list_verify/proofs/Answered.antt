-- What is answered of a listing by a walk through its lines.
use Rattle.std.proofs.Common.{◌≡◌, ◌⊎◌, ◌↔◌, inl, inr, ℕ, ◌+◌, ◌<◌, ◌≤◌, List, length, Result, Ok, Err, IfErr, refl, sym, ap, ◌∙◌, subst, arith}
use Rattle.std.proofs.lemmas.List.{length-map}
use Rattle.theory_walks.specs.Frames.{FrameValue, whole, IsFrameOf, GrowsTo}
use Rattle.theory_walks.proofs.Brought.{Brings}
use Rattle.theory_walks.proofs.Walks.{GrowsTo-self, GrowsTo-then}
use Rattle.listing_text.specs.declared.entry.Entry as program
use Rattle.listing_text.specs.Limits.{most_lines}
use Rattle.listing_text.specs.Lines.{lines_in}
use Rattle.listing_text.specs.Listing.{Entry, listing_in}
use Rattle.listing_text.specs.Views.{entry_of, OrWantsMemory}
use Rattle.listing_text.specs.declared.listing_fault.ListingFault.{ListingFault}
use Rattle.listing_text.specs.declared.listing_fault.ListingFault.TheVariants as texts
use Rattle.plane_geom.specs.declared.window.Window.{Window}
use Rattle.rule_model.specs.declared.rule.Rule.{Rule}
use Rattle.rule_model.specs.Tiling.{Tiling, tiling_of, children}
use Rattle.window_cover.specs.Windows.{IsWindow, IsLeastForWindow}
use Rattle.list_verify.specs.declared.list_fault.ListFault.{ListFault}
use Rattle.list_verify.specs.declared.list_fault.ListFault.TheVariants.{TooLong, Double}
use Rattle.list_verify.specs.Depth.{IsEnoughRead}
use Rattle.list_verify.specs.Faults.{OrNoRoom}
use Rattle.list_verify.specs.FoundLines.{entries_of, AreLinesIn}
use Rattle.list_verify.specs.Lifted.{deepest_entry, entry_lifted, AreLifted, IsStranger}
use Rattle.list_verify.specs.LineIndex.{NoneAgain, IsAgain}
use Rattle.list_verify.specs.Listing.{Reading, IsRightReading}
use Rattle.list_verify.specs.ListLaws.{HasListLaws, HasWalkLaws}
use Rattle.list_verify.specs.Verdict.{fault_of_text, IsCauseIn, IsVerdictOn, IsVerdict}
use Rattle.list_verify.specs.declared.walk.Walk.{Walk}
use Rattle.list_verify.specs.Walk.{tiling_in, entries_in, IsNotRight}
use Rattle.list_verify.specs.Walked.{IsStoppedBy, AreRightLines, IsStrayFault}
use Rattle.list_verify.proofs.Depths.{frame-not_beyond, lines-not_beyond, enough-grown}
use Rattle.list_verify.proofs.LiftedFaults.{stranger-caused, double-caused}
use Rattle.list_verify.proofs.LiftedLines.{lines-in}
use Rattle.list_verify.proofs.LiftedRight.{verified}
use Rattle.list_verify.proofs.SaidOfLifted.{walk-said}
use Rattle.list_verify.proofs.Verdicts.{text-caused}
use Rattle.list_verify.proofs.WalkLaws.{brings}

-- ---- a fault of the text
only-too_long : (A : Type 0) (fault : ListingFault) → ◌≡◌ {A = Result ℕ ListFault} (Err (fault_of_text fault)) (Err TooLong)
    → ◌≡◌ {A = Result A ListingFault} (Err fault) (Err texts.TooLong)
only-too_long A texts.TooLong e = refl
only-too_long A (texts.BadLine line place) e = absurd (cc e)
only-too_long A (texts.Address line fault) e = absurd (cc e)
only-too_long A (texts.BadKind line) e = absurd (cc e)
only-too_long A texts.NoMemory e = absurd (cc e)

same-fault : (A : Type 0) (fault : ListingFault) → ◌≡◌ {A = Result A ListingFault} (Err fault) (Err texts.TooLong) → fault_of_text fault ≡ TooLong
same-fault A texts.TooLong e = refl
same-fault A (texts.BadLine line place) e = absurd (cc e)
same-fault A (texts.Address line fault) e = absurd (cc e)
same-fault A (texts.BadKind line) e = absurd (cc e)
same-fault A texts.NoMemory e = absurd (cc e)

pub text-refused : (A : Type 0) (t : Tiling) (f : FrameValue) (w : Window) (listing : List ℕ) (fault : ListingFault) → IsFrameOf t f
    → OrWantsMemory (λ e. listing_in (children t) listing ≡ Err e) fault
    → ((◌≡◌ {A = Result A ListingFault} (Err fault) (Err texts.TooLong)) ↔ (most_lines < length (lines_in listing)))
    → IsVerdict t f f w listing (Err (fault_of_text fault))
text-refused A t f w listing fault is cause exactly = record {
  on = record {
    frame = GrowsTo-self t f is;
    depth = tt;
    not_beyond = λ n enough. frame-not_beyond t f w (listing_in (children t) listing) n enough;
    right = tt;
    cause = text-caused t f f w (listing_in (children t) listing) fault cause;
  };
  unread = λ other e. refl;
  too_long = (λ e. exactly.0 (only-too_long A fault e), λ h. ap (λ (x : ListFault). Err x) (same-fault A fault (exactly.1 h)));
}

-- ---- what is answered of entries is answered of their text
module _ (t : Tiling) (f g : FrameValue) (w : Window) (listing : List ℕ) (entries : List Entry)
    (read : listing_in (children t) listing ≡ Ok entries) (few : length (lines_in listing) ≤ most_lines) where
  not-long : (answer : Result ℕ ListFault) → IfErr answer (λ fault. IsCauseIn t f g w (Ok entries) fault) → answer ≡ Err TooLong → ⊥
  not-long (Ok n) cause e = absurd (cc e)
  not-long (Err fault) cause e = text-long (subst (IsCauseIn t f g w (Ok entries)) (inside e) cause)
    where
      inside : ◌≡◌ {A = Result ℕ ListFault} (Err fault) (Err TooLong) → fault ≡ TooLong
      inside e = cc e

      text-long : ◌≡◌ {A = Reading} (Ok entries) (Err texts.TooLong) → ⊥
      text-long h = absurd (cc h)

  too-few : most_lines < length (lines_in listing) → ⊥
  too-few h = omega (arith, few, h)

  pub of-text : (answer : Result ℕ ListFault) → IsVerdictOn t f g w (Ok entries) answer → IsVerdict t f g w listing answer
  of-text answer v = record {
    on = subst (λ reading. IsVerdictOn t f g w reading answer) (sym read) v;
    unread = λ fault e. absurd (cc (sym read ∙ e));
    too_long = (λ e. absurd (not-long answer v.cause e), λ h. absurd (too-few h));
  }

-- ---- a fault of entries, or of the walk through them
module _ (t : Tiling) (f g : FrameValue) (w : Window) (entries : List Entry) (grows : GrowsTo t f g)
    (not_beyond : (n : ℕ) → IsEnoughRead t f w (Ok entries) n → length g.digits ≤ n) where
  pub refused : (fault : ListFault) → IsCauseIn t f g w (Ok entries) fault → IsVerdictOn t f g w (Ok entries) (Err fault)
  refused fault cause = record { frame = grows; depth = tt; not_beyond = not_beyond; right = tt; cause = cause }

  pub accepted : (n : ℕ) → length g.digits ≡ deepest_entry t (length f.digits) entries → IsRightReading t f w (Ok entries) n
      → IsVerdictOn t f g w (Ok entries) (Ok n)
  accepted n depth is = record {
    frame = grows;
    depth = record { entries = entries; read = refl; is = depth };
    not_beyond = not_beyond;
    right = is;
    cause = tt;
  }

-- ---- a walk through its lines
-- it stops with the fault, or finds a stray line
abbrev IsWalkFault : Tiling → FrameValue → FrameValue → Window → List Entry → ListFault → Type 0
IsWalkFault t g k w entries fault =
    (GrowsTo t g k × ((n : ℕ) → IsLeastForWindow t g w n → length k.digits ≤ n) × OrNoRoom (IsStoppedBy t g k w entries) fault)
    ⊎ ((k ≡ g) × IsStrayFault t g w entries fault)

pub its-fault : {walk : Walk} {g k : FrameValue} {fault : ListFault} → IsNotRight walk g k fault
    → IsWalkFault (tiling_in walk) g k walk.window.now (entries_in walk) fault
its-fault (inl s) = inl (s.grows, s.not_beyond, s.cause)
its-fault (inr s) = inr (s.stays, s.stray)

module _ (m : Rule) (W : HasWalkLaws m) (f : FrameValue) (is : IsFrameOf (tiling_of m) f) (w : Window) (fit : IsWindow w)
    (entries : List Entry) (g : FrameValue) (grows : GrowsTo (tiling_of m) f g)
    (depth : length g.digits ≡ deepest_entry (tiling_of m) (length f.digits) entries) where
  abbrev t : Tiling
  t = tiling_of m

  abbrev B : Brings HasListLaws m
  B = brings m W

  lines-beyond : (n : ℕ) → IsEnoughRead t f w (Ok entries) n → length g.digits ≤ n
  lines-beyond n enough = subst (λ k. k ≤ n) (sym depth) (lines-not_beyond t f w (Ok entries) n enough entries refl)

  -- a line isn't of the frame
  pub stranger-refused : (fault : ListFault) → IsStranger (children t) (whole g) entries fault → IsVerdictOn t f g w (Ok entries) (Err fault)
  stranger-refused fault s = refused t f g w entries grows lines-beyond fault
      (stranger-caused m B.settled B.fits B.laws f is w fit entries g grows depth (Ok entries) refl g fault s)

  module _ (lines : List program.Entry) (lifted : AreLifted (children t) (whole g) entries (entries_of lines)) where
    pub as-many : length lines ≡ length entries
    as-many = sym (length-map lines entry_of) ∙ ap length lifted.are ∙ length-map entries (entry_lifted (whole g))

    -- one names the tile of an earlier one
    pub double-refused : (fault : ListFault)
        → OrNoRoom (λ e. (i : ℕ) × (e ≡ Double (i + 1)) × IsAgain lines i × NoneAgain lines i) fault → IsVerdictOn t f g w (Ok entries) (Err fault)
    double-refused fault s = refused t f g w entries grows lines-beyond fault
        (double-caused m B.settled B.fits B.laws f is w fit entries g grows depth lines lifted (Ok entries) refl g fault s)

    module _ (apart : NoneAgain lines (length lines)) where
      pub on-frame : AreLinesIn t g lines
      on-frame = lines-in m B.settled B.fits B.laws f is w fit entries g grows depth lines lifted apart

      pub walk-refused : (k : FrameValue) (fault : ListFault) → IsWalkFault t g k w (entries_of lines) fault
          → IsVerdictOn t f k w (Ok entries) (Err fault)
      walk-refused k fault (inl s) =
          refused t f k w entries (GrowsTo-then t f g k grows s.0)
          (λ n enough. s.1 n (enough-grown t f w (Ok entries) n enough entries refl g grows depth)) fault
          (walk-said m B.settled B.fits B.laws f is w fit entries g grows depth lines lifted apart k s.0 (Ok entries) refl fault (either s.2))
        where
          either : OrNoRoom (IsStoppedBy t g k w (entries_of lines)) fault
              → OrNoRoom (λ e. IsStoppedBy t g k w (entries_of lines) e ⊎ IsStrayFault t g w (entries_of lines) e) fault
          either (inl e) = inl e
          either (inr h) = inr (inl h)
      walk-refused k fault (inr s) = subst (λ (j : FrameValue). IsVerdictOn t f j w (Ok entries) (Err fault)) (sym s.0)
          (refused t f g w entries grows lines-beyond fault
          (walk-said m B.settled B.fits B.laws f is w fit entries g grows depth lines lifted apart g
          (GrowsTo-self t g grows.is_frame) (Ok entries) refl fault
          (inr (inr s.1))))

      pub walk-accepted : (n : ℕ) → n ≡ length entries → AreRightLines t g w (entries_of lines) → IsVerdictOn t f g w (Ok entries) (Ok n)
      walk-accepted n count right = accepted t f g w entries grows lines-beyond n depth
          (verified m B.settled B.fits B.laws f is w fit entries g grows depth lines lifted apart (Ok entries) n refl count right)
