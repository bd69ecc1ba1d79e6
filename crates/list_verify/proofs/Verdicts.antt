-- What is answered of a listing, by what is said of it.
use Rattle.std.proofs.Common.{◌≡◌, ◌⊎◌, inl, inr, ℕ, List, Result, Ok, Err, IfOk, IfErr, refl, ap, subst}
use Rattle.theory_walks.specs.Frames.{FrameValue}
use Rattle.listing_text.specs.declared.listing_fault.ListingFault.{ListingFault}
use Rattle.listing_text.specs.declared.listing_fault.ListingFault.TheVariants as texts
use Rattle.listing_text.specs.Listing.{Entry}
use Rattle.listing_text.specs.Views.{OrWantsMemory}
use Rattle.plane_geom.specs.declared.window.Window.{Window}
use Rattle.rule_model.specs.Tiling.{Tiling}
use Rattle.list_verify.specs.declared.list_fault.ListFault.{ListFault}
use Rattle.list_verify.specs.declared.list_fault.ListFault.TheVariants.{TooLong, BadLine, Address, BadKind, NotOfFrame, Double, Missing, WrongPlace, Stray, DepthLimit, CoordLimit, NoMemory}
use Rattle.list_verify.specs.Listing.{Reading, IsRightReading}
use Rattle.list_verify.specs.OneVerdict.{HasOneVerdictOn}
use Rattle.list_verify.specs.Verdict.{fault_of_text, AreApart, IsCauseIn, IsTold, IsOfWalk, LacksEntries}
use Rattle.list_verify.specs.Walked.{IsStoppedBy}
use Rattle.list_verify.proofs.OneVerdict.{of_walk-untold}

-- what ends the walk is the cause of its fault
pub walk-caused : (t : Tiling) (f g : FrameValue) (w : Window) (reading : Reading) (entries : List Entry)
    → AreApart t f reading entries → (fault : ListFault) → IsStoppedBy t f g w entries fault
    → IsCauseIn t f g w reading fault
walk-caused t f g w reading entries apart (Missing addr) s = record { entries = entries; lines = apart; stopped = s }
walk-caused t f g w reading entries apart (WrongPlace line motion) s = record { entries = entries; lines = apart; stopped = s }
walk-caused t f g w reading entries apart (DepthLimit addr edge) s = record { entries = entries; lines = apart; stopped = s }
walk-caused t f g w reading entries apart (CoordLimit value) s = record { entries = entries; lines = apart; stopped = s }
walk-caused t f g w reading entries apart TooLong s = elim s.cause [ ]
walk-caused t f g w reading entries apart (BadLine line place) s = elim s.cause [ ]
walk-caused t f g w reading entries apart (Address line fault) s = elim s.cause [ ]
walk-caused t f g w reading entries apart (BadKind line) s = elim s.cause [ ]
walk-caused t f g w reading entries apart (NotOfFrame line) s = elim s.cause [ ]
walk-caused t f g w reading entries apart (Double line) s = elim s.cause [ ]
walk-caused t f g w reading entries apart (Stray line) s = elim s.cause [ ]
walk-caused t f g w reading entries apart NoMemory s = elim s.cause [ ]

-- so is a fault of the text
pub text-caused : (t : Tiling) (f g : FrameValue) (w : Window) (reading : Reading) (fault : ListingFault)
    → OrWantsMemory (λ e. reading ≡ Err e) fault
    → IsCauseIn t f g w reading (fault_of_text fault)
text-caused t f g w reading texts.TooLong h = h
text-caused t f g w reading (texts.BadLine line place) h = h
text-caused t f g w reading (texts.Address line fault) h = h
text-caused t f g w reading (texts.BadKind line) h = h
text-caused t f g w reading texts.NoMemory h = tt

not-room : (fault : ListFault) → IsTold fault → fault ≡ NoMemory → ⊥
not-room fault told e = subst IsTold e told

-- each fault is told, or of the walk, or want of memory
one-of : (fault : ListFault) → IsTold fault ⊎ (IsOfWalk fault ⊎ (fault ≡ NoMemory))
one-of (Missing addr) = inr (inl tt)
one-of (WrongPlace line motion) = inr (inl tt)
one-of (DepthLimit addr edge) = inr (inl tt)
one-of (CoordLimit value) = inr (inl tt)
one-of TooLong = inl tt
one-of (BadLine line place) = inl tt
one-of (Address line fault) = inl tt
one-of (BadKind line) = inl tt
one-of (NotOfFrame line) = inl tt
one-of (Double line) = inl tt
one-of (Stray line) = inl tt
one-of NoMemory = inr (inr refl)

module _ (t : Tiling) (f g : FrameValue) (w : Window) (reading : Reading) (V : HasOneVerdictOn t f w reading) where
  pub complete : (r : Result ℕ ListFault) → IfOk r (λ n. IsRightReading t f w reading n) → IfErr r (λ fault. IsCauseIn t f g w reading fault)
      → (n : ℕ) → IsRightReading t f w reading n → (r ≡ Ok n) ⊎ (r ≡ Err NoMemory)
  complete (Ok k) right cause n is = inl (ap (λ j. Ok j) (V.one_count k n right is))
  complete (Err fault) right cause n is = inr (ap (λ e. Err e) (V.right_or_not n g fault is cause))

  pub told : (r : Result ℕ ListFault) → IfOk r (λ n. IsRightReading t f w reading n) → IfErr r (λ fault. IsCauseIn t f g w reading fault)
      → (fault : ListFault) → IsTold fault → IsCauseIn t f g w reading fault → (r ≡ Err fault) ⊎ (r ≡ Err NoMemory)
  told (Ok n) right cause fault is has = absurd (not-room fault is (V.right_or_not n g fault right has))
  told (Err own) right cause fault is has = at (V.one_fault g g own fault cause has)
    where
      at : (own ≡ fault) ⊎ ((own ≡ NoMemory) ⊎ ((fault ≡ NoMemory) ⊎ (IsOfWalk own × IsOfWalk fault)))
          → (◌≡◌ {A = Result ℕ ListFault} (Err own) (Err fault))
          ⊎ (◌≡◌ {A = Result ℕ ListFault} (Err own) (Err NoMemory))
      at (inl e) = inl (ap (λ x. Err x) e)
      at (inr (inl e)) = inr (ap (λ x. Err x) e)
      at (inr (inr (inl e))) = absurd (not-room fault is e)
      at (inr (inr (inr h))) = absurd (of_walk-untold fault h.1 is)

  pub lacking : (r : Result ℕ ListFault) → IfOk r (λ n. IsRightReading t f w reading n) → IfErr r (λ fault. IsCauseIn t f g w reading fault)
      → LacksEntries t f w reading → (r ≡ Err NoMemory) ⊎ (fault : ListFault) × (r ≡ Err fault) × IsOfWalk fault
  lacking (Ok n) right cause lacks = absurd (V.lacks_or_right n lacks right)
  lacking (Err own) right cause lacks = at (one-of own)
    where
      at : IsTold own ⊎ (IsOfWalk own ⊎ (own ≡ NoMemory))
          → (◌≡◌ {A = Result ℕ ListFault} (Err own) (Err NoMemory)) ⊎ (fault : ListFault)
          × (◌≡◌ {A = Result ℕ ListFault} (Err own) (Err fault)) × IsOfWalk fault
      at (inl told) = absurd (V.lacks_or_told g own lacks cause told)
      at (inr (inl walk)) = inr (own, refl, walk)
      at (inr (inr e)) = inl (ap (λ x. Err x) e)
