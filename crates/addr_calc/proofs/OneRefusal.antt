-- A statement is done or refused, and is refused by one fault.
use Rattle.std.proofs.Common.{◌≡◌, inl, inr, ℕ, ◌<◌, ◌≤◌, List, [], Some, None, sym, ap, ap₂, ◌∙◌, subst, arith}
use Rattle.theory_addresses.specs.Address.{Address}
use Rattle.cyclo_points.specs.declared.point.Point.{Point}
use Rattle.cyclo_points.specs.Order.{coefficients}
use Rattle.cyclo_points.proofs.SamePoints.{same_point}
use Rattle.rule_model.specs.Tiling.{Tiling, children}
use Rattle.tile_place.specs.Crossed.{LiesOnBoundary, edges_of}
use Rattle.tile_place.proofs.Plane.{part_along}
use Rattle.tile_place.specs.Placing.{first_refused}
use Rattle.addr_calc.specs.Bindings.{Bindings, IsBound}
use Rattle.addr_calc.specs.declared.calc_fault.CalcFault.{CalcFault}
use Rattle.addr_calc.specs.declared.calc_fault.CalcFault.TheVariants.{UnknownName, Address as BadAddress, NoEdge, Outside, CoordLimit}
use Rattle.addr_calc.specs.Does.{Places, LineCrosses, Does}
use Rattle.addr_calc.specs.Refuses.{ReadsUnbound, LineLacksEdge, LiesOutside, LinePassesLimit, LineRefuses}
use Rattle.addr_calc.specs.Statement.{Statement}
use Rattle.addr_calc.specs.Statement.Statement.{Nothing, Let, Show, Place, Across, Common, Pair}
use Rattle.addr_calc.proofs.Faults.{OneText, fault_once}
use Rattle.addr_calc.proofs.OneEffect.{some_is, one_bound, bound_or_not}

module _ (one_text : OneText) (t : Tiling) where
  -- ---- a statement is done or refused
  inside_or_outside : (names : Bindings) (name edge other own part : ℕ) (after : Bindings) (printed : List ℕ)
      → LineCrosses t names name edge other after printed → LiesOutside t names name edge own part → ⊥
  inside_or_outside names name edge other own part after printed h k =
      h.on_none own (part_along t h.address edge own part
      (subst (λ a. LiesOnBoundary t a edge own part)
      (one_bound names name k.address h.address k.bound h.bound) k.outside.along))

  edge_or_none : (names : Bindings) (name edge : ℕ) (a : Address) → IsBound names name a → edge < edges_of t a.kind → LineLacksEdge t names name edge
      → ⊥
  edge_or_none names name edge a bound exists k =
      let beyond : edges_of t a.kind ≤ edge = subst (λ (b : Address). edges_of t b.kind ≤ edge)
      (one_bound names name k.address a k.bound bound) k.beyond in
      omega (arith, exists, beyond)

  within_or_beyond : (names : Bindings) (name : ℕ) (value : Point) (after : Bindings) (printed : List ℕ)
      → Places t names name after printed → LinePassesLimit t names name value → ⊥
  within_or_beyond names name value after printed h k =
      let e : first_refused t k.address.digits ≡ None = subst
      (λ (a : Address). first_refused t a.digits ≡ None)
      (one_bound names name h.address k.address h.bound k.bound) h.within in
      absurd (cc (e, k.first))

  reads_bound : (names : Bindings) (s : Statement) (after : Bindings) (printed : List ℕ) → Does t names s after printed → ReadsUnbound names s → ⊥
  reads_bound names Nothing after printed h k = k
  reads_bound names (Let name text) after printed h k = k
  reads_bound names (Show name) after printed h k = bound_or_not names name h.address h.bound k
  reads_bound names (Place name) after printed h k = bound_or_not names name h.address h.bound k
  reads_bound names (Across name edge other) after printed h k = bound_or_not names name h.address h.bound k
  reads_bound names (Common one other) after printed h k = elim k [
    | inl u ↦ bound_or_not names one h.address h.bound u
    | inr u ↦ bound_or_not names other h.second h.second_bound u
  ]
  reads_bound names (Pair one other) after printed h k = elim k [
    | inl u ↦ bound_or_not names one h.address h.bound u
    | inr u ↦ bound_or_not names other h.second h.second_bound u
  ]

  pub done_or_refused : (names : Bindings) (s : Statement) (after : Bindings) (printed : List ℕ) (number : ℕ)
      (f : CalcFault) → Does t names s after printed → LineRefuses t names s number f → ⊥
  done_or_refused names s after printed number (UnknownName at) h k = reads_bound names s after printed h k.1
  done_or_refused names (Let name text) after printed number (BadAddress at fault) h k = k.1.none h.address h.accepted h.its_text
  done_or_refused names (Across name edge other) after printed number (NoEdge at) h k = edge_or_none names name edge h.address h.bound h.exists k.1
  done_or_refused names (Across name edge other) after printed number (Outside at own part) h k
      = inside_or_outside names name edge other own part after printed h k.1
  done_or_refused names (Place name) after printed number (CoordLimit at value) h k = within_or_beyond names name value after printed h k.1
  done_or_refused names s after printed number f h k = k

  -- ---- a statement has one fault
  one_outside : (names : Bindings) (name edge own part own' part' : ℕ)
      → LiesOutside t names name edge own part → LiesOutside t names name edge own' part' → (own ≡ own')
      × (part ≡ part')
  one_outside names name edge own part own' part' h k =
      k.outside.alone own part (subst (λ a. LiesOnBoundary t a edge own part)
      (one_bound names name h.address k.address h.bound k.bound) h.outside.along)

  one_value : (names : Bindings) (name : ℕ) (v w : Point) → LinePassesLimit t names name v → LinePassesLimit t names name w → v ≡ w
  one_value names name v w h k =
      let e : first_refused t k.address.digits ≡ Some h.number =
      subst (λ (a : Address). first_refused t a.digits ≡ Some h.number) (one_bound names name h.address k.address h.bound k.bound) h.first in
      same_point v w (h.is_value ∙ ap (coefficients t.order) (some_is h.number k.number (sym e ∙ k.first)) ∙ sym k.is_value)

  pub refused_once : (names : Bindings) (s : Statement) (number : ℕ) (f g : CalcFault)
      → LineRefuses t names s number f → LineRefuses t names s number g → f ≡ g
  refused_once names s number (UnknownName m) (UnknownName n) h k = ap (λ l. UnknownName l) (h.0 ∙ sym k.0)
  refused_once names (Let name text) number (BadAddress m f) (BadAddress n g) h k =
      ap₂ (λ l x. BadAddress l x) (h.0 ∙ sym k.0) (fault_once one_text (children t) text f g h.1.first k.1.first)
  refused_once names (Let name text) number (BadAddress m f) (UnknownName n) h k = absurd k.1
  refused_once names (Let name text) number (UnknownName m) (BadAddress n g) h k = absurd h.1
  refused_once names (Place name) number (CoordLimit m v) (CoordLimit n w) h k = ap₂ (λ l x. CoordLimit l x)
      (h.0 ∙ sym k.0) (one_value names name v w h.1 k.1)
  refused_once names (Place name) number (CoordLimit m v) (UnknownName n) h k = absurd (bound_or_not names name h.1.address h.1.bound k.1)
  refused_once names (Place name) number (UnknownName m) (CoordLimit n w) h k = absurd (bound_or_not names name k.1.address k.1.bound h.1)
  refused_once names (Across name edge other) number (NoEdge m) (NoEdge n) h k = ap (λ l. NoEdge l) (h.0 ∙ sym k.0)
  refused_once names (Across name edge other) number (NoEdge m) (UnknownName n) h k = absurd (bound_or_not names name h.1.address h.1.bound k.1)
  refused_once names (Across name edge other) number (UnknownName m) (NoEdge n) h k = absurd (bound_or_not names name k.1.address k.1.bound h.1)
  refused_once names (Across name edge other) number (Outside m own part) (Outside n own' part') h k =
      let one = one_outside names name edge own part own' part' h.1 k.1 in
      ap₂ (λ l (x : ℕ × ℕ). Outside l x.0 x.1) (h.0 ∙ sym k.0) (ap₂ (λ x y. (x, y)) one.0 one.1)
  refused_once names (Across name edge other) number (Outside m own part) (UnknownName n) h k = absurd
      (bound_or_not names name h.1.address h.1.bound k.1)
  refused_once names (Across name edge other) number (UnknownName m) (Outside n own part) h k = absurd
      (bound_or_not names name k.1.address k.1.bound h.1)
  refused_once names (Across name edge other) number (Outside m own part) (NoEdge n) h k = absurd
      (edge_or_none names name edge h.1.address h.1.bound h.1.outside.exists k.1)
  refused_once names (Across name edge other) number (NoEdge m) (Outside n own part) h k = absurd
      (edge_or_none names name edge k.1.address k.1.bound k.1.outside.exists h.1)
  refused_once names s number (UnknownName m) g h k = absurd k
  refused_once names (Let name text) number (BadAddress m f) g h k = absurd k
  refused_once names (Place name) number (CoordLimit m v) g h k = absurd k
  refused_once names (Across name edge other) number (NoEdge m) g h k = absurd k
  refused_once names (Across name edge other) number (Outside m own part) g h k = absurd k
  refused_once names s number f g h k = absurd h
