-- A text has one fault: the first.
use Rattle.std.proofs.Common.{◌≡◌, ◌≢◌, ℕ, zero, suc, ◌<◌, ◌≤◌, List, [], ◌∷◌, map, length, take, slice_get, Some, refl, sym, ap, ◌∙◌, subst, arith}
use Rattle.theory_addresses.specs.Address.{Step, Address, child_kind, kind_at, Climbs, depth}
use Rattle.tile_shape.specs.declared.address_fault.AddressFault.{AddressFault}
use Rattle.tile_shape.specs.declared.address_fault.AddressFault.TheVariants.{BadText, TooDeep, UnknownKind, WrongChild}
use Rattle.tile_shape.specs.Misfit.{StandsAt, IsFirstMisfit}
use Rattle.tile_shape.specs.Refused.{StopsAt, IsFaultOf}
use Rattle.tile_shape.specs.Text.{IsTextOf, HasShortNumbers, address_text}
use Rattle.tile_shape.proofs.Parents.{parent_exists}

some_step : (x y : Step) → Some x ≡ Some y → x ≡ y
some_step x y e = cc

-- ---- below a level to which an address climbs, each digit is right
pub record IsRight (children : List (List ℕ)) (kind : ℕ) (ds : List Step) (m : ℕ) (d : Step) : Type 0 where
  pub child : ℕ
  pub is_child : child_kind children d.parent d.child ≡ Some child
  pub has_level : slice_get (kind ∷ map (λ (e : Step). e.parent) ds) m ≡ Some child

climbed : (children : List (List ℕ)) (kind : ℕ) (ds : List Step) (n m : ℕ) (d : Step)
    → Climbs children kind (take n ds) → slice_get ds m ≡ Some d → m < n → IsRight children kind ds m d
climbed children kind [] n zero d c e l = absurd (cc e)
climbed children kind [] n (suc m) d c e l = absurd (cc e)
climbed children kind (x ∷ ds) zero m d c e l = absurd (omega arith)
climbed children kind (x ∷ ds) (suc n) zero d c e l =
    record { child = kind; is_child = subst (λ (y : Step). child_kind children y.parent y.child ≡ Some kind) (some_step x d e) c.0; has_level = refl }
climbed children kind (x ∷ ds) (suc n) (suc m) d c e l =
    let k = climbed children x.parent ds n m d c.1 e (omega arith) in record { child = k.child; is_child = k.is_child; has_level = k.has_level }

module _ (children : List (List ℕ)) (a : Address) where
  -- a parent that doesn't exist, and a child of another kind, stand at no level below
  no_parent_below : (l m : ℕ) (d e : Step) → StandsAt children a l d → StandsAt children a m e → length children ≤ d.parent → l < m → ⊥
  no_parent_below l m d e h k n less =
      let right = climbed children a.kind a.digits m l d k.climbs h.digit less in
      let exists = parent_exists children d.parent d.child right.child right.is_child in
      absurd (omega arith)

  no_misfit_below : (l m : ℕ) (d e : Step) → StandsAt children a l d → StandsAt children a m e
      → child_kind children d.parent d.child ≢ kind_at a l → l < m → ⊥
  no_misfit_below l m d e h k n less =
      let right = climbed children a.kind a.digits m l d k.climbs h.digit less in
      n (right.is_child ∙ sym right.has_level)

  same_digit : (l m : ℕ) (d e : Step) → StandsAt children a l d → StandsAt children a m e → l ≡ m → d ≡ e
  same_digit l m d e h k same = some_step d e (sym h.digit ∙ ap (slice_get a.digits) same ∙ k.digit)

  parent_or_misfit : (l m : ℕ) (d e : Step) → StandsAt children a l d → length children ≤ d.parent
      → StandsAt children a m e → e.parent < length children
      → child_kind children e.parent e.child ≢ kind_at a m → ⊥
  parent_or_misfit l m d e h n k exists other =
      let below = no_parent_below l m d e h k n in
      let above = no_misfit_below m l e d k h other in
      let same = same_digit l m d e h k (omega (arith, below, above)) in
      let f : length children ≤ e.parent = subst (λ (x : Step). length children ≤ x.parent) same n in
      absurd (omega arith)

  misfit_once : (f g : AddressFault) → IsFirstMisfit children a f → IsFirstMisfit children a g → f ≡ g
  misfit_once (UnknownKind zero) (UnknownKind zero) h k = refl
  misfit_once (UnknownKind zero) (UnknownKind (suc m)) h k = let exists = k.1.kind_exists in absurd (omega arith)
  misfit_once (UnknownKind zero) (WrongChild m) h k = let exists = k.1.kind_exists in absurd (omega arith)
  misfit_once (UnknownKind (suc l)) (UnknownKind zero) h k = let exists = h.1.kind_exists in absurd (omega arith)
  misfit_once (UnknownKind (suc l)) (UnknownKind (suc m)) h k =
      let below = no_parent_below l m h.0 k.0 h.1 k.1 h.2 in
      let above = no_parent_below m l k.0 h.0 k.1 h.1 k.2 in
      ap (λ n. UnknownKind (suc n)) (omega (arith, below, above))
  misfit_once (UnknownKind (suc l)) (WrongChild m) h k = absurd (parent_or_misfit l m h.0 k.0 h.1 h.2 k.1 k.2 k.3)
  misfit_once (WrongChild l) (UnknownKind zero) h k = let exists = h.1.kind_exists in absurd (omega arith)
  misfit_once (WrongChild l) (UnknownKind (suc m)) h k = absurd (parent_or_misfit m l k.0 h.0 k.1 k.2 h.1 h.2 h.3)
  misfit_once (WrongChild l) (WrongChild m) h k =
      let below = no_misfit_below l m h.0 k.0 h.1 k.1 h.3 in
      let above = no_misfit_below m l k.0 h.0 k.1 h.1 k.3 in
      ap (λ n. WrongChild n) (omega (arith, below, above))
  misfit_once (UnknownKind zero) (BadText n) h k = absurd k
  misfit_once (UnknownKind zero) TooDeep h k = absurd k
  misfit_once (UnknownKind (suc l)) (BadText n) h k = absurd k
  misfit_once (UnknownKind (suc l)) TooDeep h k = absurd k
  misfit_once (WrongChild l) (BadText n) h k = absurd k
  misfit_once (WrongChild l) TooDeep h k = absurd k
  misfit_once (BadText n) g h k = absurd h
  misfit_once TooDeep g h k = absurd h

-- ---- the faults of a text; that it is the text of one address is a law
abbrev pub OneText : Type 0
OneText = (a b : Address) → HasShortNumbers a → HasShortNumbers b → address_text a ≡ address_text b → a ≡ b

module _ (one_text : OneText) (children : List (List ℕ)) (text : List ℕ) where
  same_address : (a b : Address) → IsTextOf a text → IsTextOf b text → a ≡ b
  same_address a b h k = one_text a b h.short k.short (sym h.same ∙ k.same)

  stops_once : (m n : ℕ) → StopsAt text m → StopsAt text n → m ≡ n
  stops_once m n h k =
      let below : m < n → ⊥ = λ l. h.longest n k.within l k.goes_on in
      let above : n < m → ⊥ = λ l. k.longest m h.within l h.goes_on in
      omega (arith, below, above)

  abbrev IsMisfitOf : AddressFault → Type 0
  IsMisfitOf f = (a : Address) × IsTextOf a text × (depth a ≤ 64) × IsFirstMisfit children a f

  same_misfit : (f g : AddressFault) → IsMisfitOf f → IsMisfitOf g → f ≡ g
  same_misfit f g h k = misfit_once children k.0 f g (subst (λ a. IsFirstMisfit children a f) (same_address h.0 k.0 h.1 k.1) h.3) k.3

  deep_or_misfit : (f : AddressFault) → (a : Address) × IsTextOf a text × (64 < depth a) → IsMisfitOf f → ⊥
  deep_or_misfit f h k =
      let deep : 64 < depth k.0 = subst (λ a. 64 < depth a) (same_address h.0 k.0 h.1 k.1) h.2 in
      let low = k.2 in
      absurd (omega arith)

  pub fault_once : (f g : AddressFault) → IsFaultOf children text f → IsFaultOf children text g → f ≡ g
  fault_once (BadText m) (BadText n) h k = ap (λ n. BadText n) (stops_once m n h k)
  fault_once (BadText m) TooDeep h k = absurd (h.outside (k.0, k.1))
  fault_once (BadText m) (UnknownKind l) h k = absurd (h.outside (k.0, k.1))
  fault_once (BadText m) (WrongChild l) h k = absurd (h.outside (k.0, k.1))
  fault_once TooDeep (BadText n) h k = absurd (k.outside (h.0, h.1))
  fault_once TooDeep TooDeep h k = refl
  fault_once TooDeep (UnknownKind l) h k = absurd (deep_or_misfit (UnknownKind l) h k)
  fault_once TooDeep (WrongChild l) h k = absurd (deep_or_misfit (WrongChild l) h k)
  fault_once (UnknownKind l) (BadText n) h k = absurd (k.outside (h.0, h.1))
  fault_once (UnknownKind l) TooDeep h k = absurd (deep_or_misfit (UnknownKind l) k h)
  fault_once (UnknownKind l) (UnknownKind m) h k = same_misfit (UnknownKind l) (UnknownKind m) h k
  fault_once (UnknownKind l) (WrongChild m) h k = same_misfit (UnknownKind l) (WrongChild m) h k
  fault_once (WrongChild l) (BadText n) h k = absurd (k.outside (h.0, h.1))
  fault_once (WrongChild l) TooDeep h k = absurd (deep_or_misfit (WrongChild l) k h)
  fault_once (WrongChild l) (UnknownKind m) h k = same_misfit (WrongChild l) (UnknownKind m) h k
  fault_once (WrongChild l) (WrongChild m) h k = same_misfit (WrongChild l) (WrongChild m) h k
