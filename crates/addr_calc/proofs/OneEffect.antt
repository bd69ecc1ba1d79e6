-- A statement does one thing.
use Rattle.std.proofs.Common.{◌≡◌, ℕ, ◌<◌, List, [], Option, Some, None, refl, sym, ap, ap₂, ◌∙◌, subst, arith}
use Rattle.theory_addresses.specs.Address.{Address, Fits}
use Rattle.pair_machine.specs.Between.{Pair as EdgePair}
use Rattle.pair_machine.proofs.InOrder.{in_order-one}
use Rattle.rule_model.specs.Tiling.{Tiling, MotionOf, IsPlaced, children}
use Rattle.tile_place.specs.Crossed.{IsOnlyAcross}
use Rattle.tile_place.proofs.OneAcross.{one_across}
use Rattle.tile_shape.specs.Accepted.{IsAcceptedAddress}
use Rattle.tile_shape.specs.Text.{HasShortNumbers, address_text}
use Rattle.tile_shape.specs.Usable.{AreUsable}
use Rattle.addr_calc.specs.Bindings.{Bindings, IsBound, IsUnbound, bind}
use Rattle.addr_calc.specs.Does.{Binds, Shows, Places, LineCrosses, Compares, Relates, Does}
use Rattle.addr_calc.specs.Level.{IsCommonLevel}
use Rattle.addr_calc.specs.Relation.{Relation, AreAllAcross, IsRelation}
use Rattle.addr_calc.specs.Relation.Relation.{Strangers, Same, Apart, Beside}
use Rattle.addr_calc.specs.Printed.{show_line, line_of_place, across_line, common_line, pair_line}
use Rattle.addr_calc.specs.Statement.{Statement}
use Rattle.addr_calc.specs.Statement.Statement.{Nothing, Let, Show, Place, Across, Common, Pair}
use Rattle.addr_calc.proofs.Faults.{OneText}

-- ---- the laws from which it follows
abbrev pub FitsAreShort : Type 0
FitsAreShort = (children : List (List ℕ)) (a : Address) → AreUsable children → Fits children a → HasShortNumbers a

pub some_is : {A : Type 0} (x y : A) → Some x ≡ Some y → x ≡ y
some_is x y e = cc

-- ---- names and levels
pub one_bound : (names : Bindings) (name : ℕ) (a b : Address) → IsBound names name a → IsBound names name b → a ≡ b
one_bound names name a b h k = some_is a b (sym h ∙ k)

pub bound_or_not : (names : Bindings) (name : ℕ) (a : Address) → IsBound names name a → IsUnbound names name → ⊥
bound_or_not names name a h k = absurd (cc (h, k))

one_level : (a b : Address) (l m : Option ℕ) → IsCommonLevel a b l → IsCommonLevel a b m → l ≡ m
one_level a b None None h k = refl
one_level a b None (Some j) h k = absurd (h k.one_depth j k.agree)
one_level a b (Some i) None h k = absurd (k h.one_depth i h.agree)
one_level a b (Some i) (Some j) h k =
    let below : i < j → ⊥ = λ l. k.least i l h.agree in
    let above : j < i → ⊥ = λ l. h.least j l k.agree in
    ap (λ l. Some l) (omega (arith, below, above))

-- ---- how two tiles lie to each other
-- a list in order is known by its members
one_list : (t : Tiling) (a b : Address) (ps qs : List EdgePair) → AreAllAcross t a b ps → AreAllAcross t a b qs → ps ≡ qs
one_list t a b ps qs h k = in_order-one ps qs h.in_order k.in_order
    (λ p i. (k.only_across p.mine p.theirs).1 ((h.only_across p.mine p.theirs).0 i))
    (λ p i. (h.only_across p.mine p.theirs).1 ((k.only_across p.mine p.theirs).0 i))

one_relation : (t : Tiling) (a b : Address) (r s : Relation) → IsRelation t a b r → IsRelation t a b s → r ≡ s
one_relation t a b Strangers Strangers h k = refl
one_relation t a b Strangers Same h k = absurd (h k.0)
one_relation t a b Strangers Apart h k = absurd (h k.0)
one_relation t a b Strangers (Beside qs) h k = absurd (h k.0)
one_relation t a b Same Strangers h k = absurd (k h.0)
one_relation t a b Same Same h k = refl
one_relation t a b Same Apart h k = absurd (k.1 h.1)
one_relation t a b Same (Beside qs) h k = absurd (k.1 h.1)
one_relation t a b Apart Strangers h k = absurd (k h.0)
one_relation t a b Apart Same h k = absurd (h.1 k.1)
one_relation t a b Apart Apart h k = refl
one_relation t a b Apart (Beside qs) h k = absurd (k.3 (one_list t a b qs [] k.2 h.2))
one_relation t a b (Beside ps) Strangers h k = absurd (k h.0)
one_relation t a b (Beside ps) Same h k = absurd (h.1 k.1)
one_relation t a b (Beside ps) Apart h k = absurd (h.3 (one_list t a b ps [] h.2 k.2))
one_relation t a b (Beside ps) (Beside qs) h k = ap (λ l. Beside l) (one_list t a b ps qs h.2 k.2)

-- the names and the text after a statement
abbrev pub AreOne : Bindings → Bindings → List ℕ → List ℕ → Type 0
AreOne after after' printed printed' = (after ≡ after') × (printed ≡ printed')

module _ (one_text : OneText) (short : FitsAreShort) (t : Tiling) (usable : AreUsable (children t)) where
  one_address : (a b : Address) (text : List ℕ) → IsAcceptedAddress (children t) a
      → IsAcceptedAddress (children t) b → text ≡ address_text a → text ≡ address_text b → a ≡ b
  one_address a b text h k e f = one_text a b (short (children t) a usable h.fits) (short (children t) b usable k.fits) (sym e ∙ f)

  -- ---- what a statement does
  one_binding : (names : Bindings) (name : ℕ) (text : List ℕ) (after after' : Bindings)
      (printed printed' : List ℕ) → Binds t names name text after printed
      → Binds t names name text after' printed'
      → AreOne after after' printed printed'
  one_binding names name text after after' printed printed' h k = (
    h.binds ∙ ap (bind names name) (one_address h.address k.address text h.accepted k.accepted h.its_text
        k.its_text) ∙ sym k.binds,
    h.silent ∙ sym k.silent,
  )

  one_show : (names : Bindings) (name : ℕ) (after after' : Bindings) (printed printed' : List ℕ)
      → Shows names name after printed → Shows names name after' printed'
      → AreOne after after' printed printed'
  one_show names name after after' printed printed' h k =
      (h.keeps ∙ sym k.keeps, h.line ∙ ap (show_line name) (one_bound names name h.address k.address h.bound k.bound) ∙ sym k.line)

  one_place : (names : Bindings) (name : ℕ) (after after' : Bindings) (printed printed' : List ℕ)
      → Places t names name after printed → Places t names name after' printed'
      → AreOne after after' printed printed'
  one_place names name after after' printed printed' h k =
      let same = one_bound names name h.address k.address h.bound k.bound in
      let placed : IsPlaced t k.address h.motion = subst (λ a. IsPlaced t a h.motion) same h.placed in (
        h.keeps ∙ sym k.keeps,
        h.line ∙ ap₂ (λ (a : Address) (m : MotionOf t). line_of_place t.order name a.kind m) same (k.placed.alone h.motion placed.among) ∙ sym k.line,
      )

  one_crossing : (names : Bindings) (name edge other : ℕ) (after after' : Bindings)
      (printed printed' : List ℕ) → LineCrosses t names name edge other after printed
      → LineCrosses t names name edge other after' printed' → AreOne after after' printed printed'
  one_crossing names name edge other after after' printed printed' h k =
      let same = one_bound names name h.address k.address h.bound k.bound in
      let one = one_across t k.address h.across k.across edge h.back k.back
      (subst (λ a. IsOnlyAcross t a edge h.across h.back) same h.only_across) k.only_across in
      (h.binds ∙ ap (bind names other) one.0 ∙ sym k.binds, h.line ∙ ap₂ (across_line other) one.0 one.1 ∙ sym k.line)

  one_comparison : (names : Bindings) (one other : ℕ) (after after' : Bindings) (printed printed' : List ℕ)
      → Compares names one other after printed → Compares names one other after' printed'
      → AreOne after after' printed printed'
  one_comparison names one other after after' printed printed' h k =
      let first = one_bound names one h.address k.address h.bound k.bound in
      let second = one_bound names other h.second k.second h.second_bound k.second_bound in
      let level : IsCommonLevel k.address k.second h.level = subst (λ a. IsCommonLevel a k.second h.level)
      first (subst (λ b. IsCommonLevel h.address b h.level) second h.common) in
      (h.keeps ∙ sym k.keeps, h.line ∙ ap (common_line one other) (one_level k.address k.second h.level k.level level k.common) ∙ sym k.line)

  one_pair : (names : Bindings) (one other : ℕ) (after after' : Bindings) (printed printed' : List ℕ)
      → Relates t names one other after printed → Relates t names one other after' printed'
      → AreOne after after' printed printed'
  one_pair names one other after after' printed printed' h k =
      let first = one_bound names one h.address k.address h.bound k.bound in
      let second = one_bound names other h.second k.second h.second_bound k.second_bound in
      let relation : IsRelation t k.address k.second h.relation =
      subst (λ a. IsRelation t a k.second h.relation) first (subst (λ b. IsRelation t h.address b h.relation) second h.is_relation) in (
        h.keeps ∙ sym k.keeps,
        h.line ∙ ap (pair_line one other)
            (one_relation t k.address k.second h.relation k.relation relation k.is_relation) ∙ sym k.line,
      )

  pub does_once : (names : Bindings) (s : Statement) (after after' : Bindings) (printed printed' : List ℕ)
      → Does t names s after printed → Does t names s after' printed' → AreOne after after' printed printed'
  does_once names Nothing after after' printed printed' h k = (h.0 ∙ sym k.0, h.1 ∙ sym k.1)
  does_once names (Let name text) after after' printed printed' h k = one_binding names name text after after' printed printed' h k
  does_once names (Show name) after after' printed printed' h k = one_show names name after after' printed printed' h k
  does_once names (Place name) after after' printed printed' h k = one_place names name after after' printed printed' h k
  does_once names (Across name edge other) after after' printed printed' h k = one_crossing names name edge other after after' printed printed' h k
  does_once names (Common one other) after after' printed printed' h k = one_comparison names one other after after' printed printed' h k
  does_once names (Pair one other) after after' printed printed' h k = one_pair names one other after after' printed printed' h k
