-- `verify` has one answer, by the law that one thing is said of a listing.
use Rattle.std.proofs.Common.{◌≡◌, ◌⊎◌, inl, inr, List, ℕ, refl, sym, ap, ◌∙◌, subst}
use Rattle.theory_walks.specs.Frames.{FrameValue}
use Rattle.list_verify.specs.declared.list_fault.ListFault.{ListFault}
use Rattle.list_verify.specs.declared.list_fault.ListFault.TheVariants as listing
use Rattle.list_verify.specs.OneVerdict.{HasOneVerdict}
use Rattle.list_verify.specs.Verdict.{IsOfWalk, IsTold, LacksTiles}
use Rattle.plane_geom.specs.declared.window.Window.{Window}
use Rattle.rule_model.specs.Tiling.{Tiling}
use Rattle.call_notes.specs.declared.status.Status.{Status}
use Rattle.call_notes.specs.declared.status.Status.TheVariants.{Done, DepthLimit, CoordLimit, BadListing}
use Rattle.call_notes.specs.Status.{IsLimit}
use Rattle.call_notes.specs.FaultStatus.{status_of_list}
use Rattle.tile_app.specs.Verify.{CanVerify, HasListFault, VerifyRefuses}
use Rattle.tile_app.proofs.Once.{IsOf, AreLimits}

-- a fault of the walk is a limit
listed_limit : (fault : ListFault) → IsOfWalk fault → IsLimit (status_of_list fault)
listed_limit (listing.Missing addr) h = tt
listed_limit (listing.WrongPlace line motion) h = tt
listed_limit (listing.DepthLimit addr edge) h = tt
listed_limit (listing.CoordLimit value) h = tt
listed_limit fault h = absurd h

-- and so is each that isn't told wherever it has a cause, but want of memory
untold_limit : (fault : ListFault) → (fault ≡ listing.NoMemory → ⊥) → (IsTold fault → ⊥) → IsLimit (status_of_list fault)
untold_limit (listing.Missing addr) h k = tt
untold_limit (listing.WrongPlace line motion) h k = tt
untold_limit (listing.DepthLimit addr edge) h k = tt
untold_limit (listing.CoordLimit value) h k = tt
untold_limit listing.NoMemory h k = absurd (h refl)
untold_limit fault h k = absurd (k tt)

-- the status is that of a fault of the listing that has a cause
record IsCaused (t : Tiling) (f : FrameValue) (w : Window) (file : List ℕ) (s : Status) : Type 0 where
  fault : ListFault
  has : HasListFault t f w file fault
  is : s ≡ status_of_list fault
  not_memory : fault ≡ listing.NoMemory → ⊥

module _ (t : Tiling) (f : FrameValue) (w : Window) (file : List ℕ) (law : HasOneVerdict t f w file) where
  abbrev IsOfListing : Status → Type 0
  IsOfListing s = IsCaused t f w file s

  -- all is done, or the listing has a fault
  abbrev IsSaid : Status → Type 0
  IsSaid s = ((s ≡ Done) × CanVerify t f w file) ⊎ IsOfListing s

  of_listing : (fault : ListFault) → (fault ≡ listing.NoMemory → ⊥) → HasListFault t f w file fault → IsSaid (status_of_list fault)
  of_listing fault some h = inr (record { fault = fault; has = h; is = refl; not_memory = some })

  abbrev IsVerdict : Status → Type 0
  IsVerdict s = IsOf (CanVerify t f w file) (VerifyRefuses t f w file) s

  said : (s : Status) → IsVerdict s → IsSaid s
  said Done h = inl (refl, h)
  said (DepthLimit addr edge) h = of_listing (listing.DepthLimit addr edge) (λ e. absurd (cc e)) h
  said (CoordLimit value) h = of_listing (listing.CoordLimit value) (λ e. absurd (cc e)) h
  said (BadListing listing.TooLong) h = of_listing listing.TooLong (λ e. absurd (cc e)) h
  said (BadListing (listing.BadLine line place)) h = of_listing (listing.BadLine line place) (λ e. absurd (cc e)) h
  said (BadListing (listing.Address line fault)) h = of_listing (listing.Address line fault) (λ e. absurd (cc e)) h
  said (BadListing (listing.BadKind line)) h = of_listing (listing.BadKind line) (λ e. absurd (cc e)) h
  said (BadListing (listing.NotOfFrame line)) h = of_listing (listing.NotOfFrame line) (λ e. absurd (cc e)) h
  said (BadListing (listing.Double line)) h = of_listing (listing.Double line) (λ e. absurd (cc e)) h
  said (BadListing (listing.Missing addr)) h = of_listing (listing.Missing addr) (λ e. absurd (cc e)) h
  said (BadListing (listing.WrongPlace line motion)) h = of_listing (listing.WrongPlace line motion) (λ e. absurd (cc e)) h
  said (BadListing (listing.Stray line)) h = of_listing (listing.Stray line) (λ e. absurd (cc e)) h
  said s h = absurd h

  -- a right listing has no fault
  right_or_faulty : (s : Status) → CanVerify t f w file → IsOfListing s → ⊥
  right_or_faulty s h k = k.not_memory (law.right_or_not h.0 k.has.frame k.fault h.1 k.has.cause)

  -- two faults are the same, or both are of the walk
  faulty_once : (s u : Status) → IsOfListing s → IsOfListing u → AreLimits t s u
  faulty_once s u h k =
      elim (law.one_fault h.has.frame k.has.frame h.fault k.fault h.has.cause k.has.cause) [
        | inl e ↦ inl (h.is ∙ ap status_of_list e ∙ sym k.is)
        | inr rest ↦ elim rest [
          | inl e ↦ absurd (h.not_memory e)
          | inr others ↦ elim others [
            | inl e ↦ absurd (k.not_memory e)
            | inr both ↦ inr (subst IsLimit (sym h.is) (listed_limit h.fault both.0), subst IsLimit (sym k.is) (listed_limit k.fault both.1))
          ]
        ]
      ]

  once : (s u : Status) → IsSaid s → IsSaid u → AreLimits t s u
  once s u (inl h) (inl k) = inl (h.0 ∙ sym k.0)
  once s u (inl h) (inr k) = absurd (right_or_faulty u h.1 k)
  once s u (inr h) (inl k) = absurd (right_or_faulty s k.1 h)
  once s u (inr h) (inr k) = faulty_once s u h k

  pub verify_once : (s u : Status) → IsVerdict s → IsVerdict u → AreLimits t s u
  verify_once s u h k = once s u (said s h) (said u k)

  -- where tiles are lacking one of the limits comes
  beyond : (s : Status) → IsSaid s → LacksTiles t f w file → IsLimit s
  beyond s (inl h) l = absurd (law.lacks_or_right h.1.0 l h.1.1)
  beyond s (inr h) l = subst IsLimit (sym h.is) (untold_limit h.fault h.not_memory (law.lacks_or_told h.has.frame h.fault l h.has.cause))

  pub verify_beyond : (s : Status) → IsVerdict s → LacksTiles t f w file → IsLimit s
  verify_beyond s h l = beyond s (said s h) l
