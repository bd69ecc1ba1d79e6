-- One thing is said of a listing, by the one way in which it stands.
use Rattle.std.proofs.Common.{◌≡◌, ◌⊎◌, inl, inr, ℕ, ◌+◌, refl, sym, ap, ◌∙◌, subst}
use Rattle.cyclo_points.specs.declared.order.Order.{Order}
use Rattle.cyclo_points.specs.Order.{points_of}
use Rattle.theory_dissection.specs.Accepted.{AcceptedRule}
use Rattle.theory_walks.specs.Frames.{FrameValue, IsFrameOf}
use Rattle.theory_walks.proofs.Walks.{StillFits}
use Rattle.listing_text.specs.declared.listing_fault.ListingFault.TheVariants as text
use Rattle.plane_geom.specs.declared.window.Window.{Window}
use Rattle.rule_model.specs.Tiling.{Tiling, children}
use Rattle.rule_model.proofs.EachUse.{has-children, uses-usable}
use Rattle.theory_substitution.specs.Points.{Points}
use Rattle.theory_substitution.specs.Rule.{child_kinds}
use Rattle.tile_shape.specs.Usable.{AreUsable}
use Rattle.window_cover.specs.Windows.{IsWindow}
use Rattle.list_verify.specs.declared.list_fault.ListFault.{ListFault}
use Rattle.list_verify.specs.declared.list_fault.ListFault.TheVariants.{TooLong, BadLine, Address as BadAddress, BadKind, NotOfFrame, Double, Missing, WrongPlace, Stray, DepthLimit, CoordLimit, NoMemory}
use Rattle.list_verify.specs.Listing.{Reading, IsRightReading}
use Rattle.list_verify.specs.ListLaws.{HasListLaws}
use Rattle.list_verify.specs.OneVerdict.{HasOneVerdictOn, tiling_accepted}
use Rattle.list_verify.specs.Verdict.{fault_of_text, EndsWalking, IsCauseIn, IsOfWalk, IsTold, LacksEntries}
use Rattle.list_verify.proofs.ListStanding as stand
use Rattle.list_verify.proofs.ListStanding.{Standing}
use Rattle.list_verify.proofs.ListStanding.Standing.{Unread, Outside, Doubled, Lacking, Straying, Right}
use Rattle.list_verify.proofs.OneStanding.{one-count, one-standing}

-- the child kinds of an accepted rule are a table of uses
pub accepted-usable : (P : Points) (T : AcceptedRule P) → AreUsable (child_kinds T.rule)
accepted-usable P T = uses-usable T.rule (has-children P T.rule T.numbered) T.edge_to_edge.each_used

-- what is said of a listing that stands so
abbrev IsSaid : Standing → ListFault → Type 0
IsSaid (Unread e) fault = fault ≡ fault_of_text e
IsSaid (Outside i) fault = fault ≡ NotOfFrame (i + 1)
IsSaid (Doubled i) fault = fault ≡ Double (i + 1)
IsSaid Lacking fault = IsOfWalk fault
IsSaid (Straying i) fault = fault ≡ Stray (i + 1)
IsSaid (Right n) fault = ⊥

same-said : (s : Standing) (one other : ListFault) → IsSaid s one → IsSaid s other → (one ≡ other)
    ⊎ ((one ≡ NoMemory) ⊎ ((other ≡ NoMemory) ⊎ (IsOfWalk one × IsOfWalk other)))
same-said (Unread e) one other h k = inl (h ∙ sym k)
same-said (Outside i) one other h k = inl (h ∙ sym k)
same-said (Doubled i) one other h k = inl (h ∙ sym k)
same-said Lacking one other h k = inr (inr (inr (h, k)))
same-said (Straying i) one other h k = inl (h ∙ sym k)
same-said (Right n) one other h k = absurd h

-- a fault of the walk may not come, though it has a cause
pub of_walk-untold : (fault : ListFault) → IsOfWalk fault → IsTold fault → ⊥
of_walk-untold (Missing addr) h k = k
of_walk-untold (WrongPlace line motion) h k = k
of_walk-untold (DepthLimit addr edge) h k = k
of_walk-untold (CoordLimit value) h k = k
of_walk-untold fault h k = absurd h

module _ (o : Order) (T : AcceptedRule (points_of o)) (fits : StillFits (children (tiling_accepted o T)))
    (L : HasListLaws (points_of o)) (f : FrameValue)
    (is : IsFrameOf (tiling_accepted o T) f) (w : Window) (fit : IsWindow w) (reading : Reading) where
  abbrev t : Tiling
  t = tiling_accepted o T

  abbrev Stands : Standing → Type 0
  Stands s = stand.Stands o T fits L f is w fit reading s

  -- ---- a fault that has a cause is said of how it stands
  record IsSaidOfIt (fault : ListFault) : Type 0 where
    standing : Standing
    stands : Stands standing
    said : IsSaid standing fault

  lacks : (g : FrameValue) (fault : ListFault) → EndsWalking t f g w reading fault → LacksEntries t f w reading
  lacks g fault h = record { entries = h.entries; lines = h.lines; lacking = h.stopped.not_all }

  said-of : (g : FrameValue) (fault : ListFault) → IsCauseIn t f g w reading fault → (fault ≡ NoMemory) ⊎ IsSaidOfIt fault
  said-of g TooLong h = inr (record { standing = Unread text.TooLong; stands = h; said = refl })
  said-of g (BadLine line place) h = inr (record { standing = Unread (text.BadLine line place); stands = h; said = refl })
  said-of g (BadAddress line fault) h = inr (record { standing = Unread (text.Address line fault); stands = h; said = refl })
  said-of g (BadKind line) h = inr (record { standing = Unread (text.BadKind line); stands = h; said = refl })
  said-of g (NotOfFrame line) h = inr (record { standing = Outside h.0; stands = h.2; said = ap NotOfFrame h.1 })
  said-of g (Double line) h = inr (record { standing = Doubled h.0; stands = h.2; said = ap Double h.1 })
  said-of g (Missing addr) h = inr (record { standing = Lacking; stands = lacks g (Missing addr) h; said = tt })
  said-of g (WrongPlace line motion) h = inr (record { standing = Lacking; stands = lacks g (WrongPlace line motion) h; said = tt })
  said-of g (Stray line) h = inr (record { standing = Straying h.0; stands = h.2; said = ap Stray h.1 })
  said-of g (DepthLimit addr edge) h = inr (record { standing = Lacking; stands = lacks g (DepthLimit addr edge) h; said = tt })
  said-of g (CoordLimit value) h = inr (record { standing = Lacking; stands = lacks g (CoordLimit value) h; said = tt })
  said-of g NoMemory h = inl refl

  -- so it is said of each way in which the listing stands
  said-at : (s : Standing) (fault : ListFault) → Stands s → IsSaidOfIt fault → IsSaid s fault
  said-at s fault h k = subst (λ a. IsSaid a fault) (one-standing o T fits L f is w fit reading k.standing s k.stands h) k.said

  -- what is said where a tile is lacking
  pub lacks-of_walk : (g : FrameValue) (fault : ListFault) → LacksEntries t f w reading
      → IsCauseIn t f g w reading fault → (fault ≡ NoMemory) ⊎ IsOfWalk fault
  lacks-of_walk g fault h k = elim (said-of g fault k) [ inl e ↦ inl e | inr s ↦ inr (said-at Lacking fault h s) ]

  right-or_not : (n : ℕ) (g : FrameValue) (fault : ListFault) → IsRightReading t f w reading n → IsCauseIn t f g w reading fault → fault ≡ NoMemory
  right-or_not n g fault h k = elim (said-of g fault k) [ inl e ↦ e | inr s ↦ absurd (said-at (Right n) fault h s) ]

  one-fault : (g h : FrameValue) (one other : ListFault) → IsCauseIn t f g w reading one → IsCauseIn t f h w reading other
      → (one ≡ other) ⊎ ((one ≡ NoMemory) ⊎ ((other ≡ NoMemory) ⊎ (IsOfWalk one × IsOfWalk other)))
  one-fault g h one other c e = elim (said-of g one c) [
    | inl m ↦ inr (inl m)
    | inr s ↦ elim (said-of h other e) [
      | inl m ↦ inr (inr (inl m))
      | inr k ↦ same-said k.standing one other
          (said-at k.standing one k.stands s) k.said
    ]
  ]

  lacks-told : (g : FrameValue) (fault : ListFault) → LacksEntries t f w reading → IsCauseIn t f g w reading fault → IsTold fault → ⊥
  lacks-told g fault h k told = elim (lacks-of_walk g fault h k) [ inl e ↦ subst IsTold e told | inr s ↦ of_walk-untold fault s told ]

  pub verdict : HasOneVerdictOn (tiling_accepted o T) f w reading
  verdict = record {
    one_count = one-count o T fits L f is w fit reading;
    right_or_not = right-or_not;
    one_fault = one-fault;
    lacks_or_right = λ n h k. stand.lacking o T fits L f is w fit reading h (stand.right-all o T fits L f is w fit reading n k);
    lacks_or_told = lacks-told;
  }
