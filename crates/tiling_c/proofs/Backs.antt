-- Which edge of one tile lies on an edge of another, from what a crossing says.
use Rattle.std.proofs.Common.{◌≡◌, ◌⊎◌, ◌≤◌, ◌<◌, ℕ, Result, Ok, Err, IsOk, IfOk, IfErr, Bool, true, false, IsTrue, MatchBool, ◌↔◌, List, length, get_or, replicate, inl, inr, refl, sym, subst, arith}
use Rattle.std.specs.List.{HoldsAt, AllWithin}
use Rattle.std.proofs.lemmas.Bool.{cases_lt}
use Rattle.std.proofs.lemmas.List.{length-map, length-replicate, get_or-replicate, get_or_past}
use Rattle.theory_addresses.specs.Address.{Address, Fits}
use Rattle.theory_addresses.specs.Touch.{Touches}
use Rattle.rule_model.specs.declared.rule.Rule.{Rule}
use Rattle.rule_model.specs.Tiling.{Tiling, tiling_of, contacts, children}
use Rattle.rule_model.specs.Usable.{IsUsable}
use Rattle.rule_model.specs.Views.{rule_of}
use Rattle.tile_place.specs.Crossed.{IsOnlyAcross, edges_of}
use Rattle.tile_place.proofs.OneAcross.{one_across}
use Rattle.tile_place.proofs.Plane.{OnlyTilesLaw, IsSettled, its_rule, fits_tables, has_edge}
use Rattle.tile_shape.specs.Views.{address_of}
use Rattle.transducer_core.specs.declared.crossing.Crossing.{Crossing}
use Rattle.transducer_core.specs.declared.outside.Outside.{Outside}
use Rattle.tiling_c.specs.Pairing.{no_back, ShowsBack, HasBack}

-- across the edge is another tile than b
pub another_across : (t : Tiling) (a b x : Address) (e f : ℕ) → IsOnlyAcross t a e x f → ¬ x ≡ b → ShowsBack t a e b no_back
another_across t a b x e f across other = record {
  exactly = λ g. (λ h. absurd (other (one_across t a x b e f g across h).0), λ h. absurd (omega (arith, h.1)));
  leads_back = λ h. absurd (omega (arith, h));
}

-- across the edge is b
pub across_is : (t : Tiling) (a b x : Address) (e f : ℕ) → f < no_back → x ≡ b → IsOnlyAcross t a e x f → IsOnlyAcross t x f a e → ShowsBack t a e b f
across_is t a b x e f small same across back = record {
  exactly = λ g. (
    λ h. (sym (one_across t a x b e f g across h).1, small),
    λ h. subst (λ (n : ℕ). IsOnlyAcross t a e b n) (sym h.0) (subst (λ (y : Address). IsOnlyAcross t a e y f) same across),
  );
  leads_back = λ _. subst (λ (y : Address). IsOnlyAcross t y f a e) same back;
}

-- no tile is across the edge, for where one is, the edges touch by the tables, and the crossing is answered
pub none_across : (m : Rule) → IsSettled m → OnlyTilesLaw m.order → (a b : Address) (e : ℕ)
    → Fits (children (tiling_of m)) a → Fits (children (tiling_of m)) b
    → e < edges_of (tiling_of m) a.kind → ((x : Address) (f : ℕ) → Fits (children (tiling_of m)) x → Touches (contacts (tiling_of m)) a e x f → ⊥)
    → ShowsBack (tiling_of m) a e b no_back
none_across m settled law a b e own other exists never = record {
  exactly = λ g. (
    λ h. absurd (never b g other ((law (its_rule m settled) a b e g
        (has_edge m settled a e (fits_tables m settled a own) exists) (fits_tables m settled b other)).1
        h).touched),
    λ h. absurd (omega (arith, h.1)),
  );
  leads_back = λ h. absurd (omega (arith, h));
}

-- the number of an edge is below that which stands for none
pub edge_small : (m : Rule) → IsUsable m → (x : Address) (f : ℕ) → Fits (children (tiling_of m)) x → f < edges_of (tiling_of m) x.kind → f < no_back
edge_small m usable x f fits exists =
    let few = usable.numbered.at_most_12_edges x.kind (subst (λ n. x.kind < n) (length-map (rule_of m).kinds _) fits.kind_exists) in
    omega (arith, few, exists)

-- across the edge is b by the edge told, or another tile, and 255 is told
pub told : (m : Rule) → IsUsable m → (a b x : Address) (e f back : ℕ) → Fits (children (tiling_of m)) x → IsOnlyAcross (tiling_of m) a e x f
    → IsOnlyAcross (tiling_of m) x f a e → ((x ≡ b) × (back ≡ f)) ⊎ ((¬ x ≡ b) × (back ≡ no_back)) → ShowsBack (tiling_of m) a e b back
told m usable a b x e f back fits across leads (inl h) =
    subst (ShowsBack (tiling_of m) a e b) (sym h.1)
    (across_is (tiling_of m) a b x e f (edge_small m usable x f fits across.across.edge_exists) h.0 across
    leads)
told m usable a b x e f back fits across leads (inr h) =
    subst (ShowsBack (tiling_of m) a e b) (sym h.1) (another_across (tiling_of m) a b x e f across h.0)

-- what a crossing of the edge tells
pub back_told : (m : Rule) → IsSettled m → OnlyTilesLaw m.order → (a b : Address) (e back : ℕ) (r : Result Crossing Outside)
    → Fits (children (tiling_of m)) a → Fits (children (tiling_of m)) b → e < edges_of (tiling_of m) a.kind
    → IfOk r (λ x. Fits (children (tiling_of m)) (address_of x.addr)) → IfOk r (λ x. IsOnlyAcross (tiling_of m) a e (address_of x.addr) x.edge)
    → IfOk r (λ x. IsOnlyAcross (tiling_of m) (address_of x.addr) x.edge a e)
    → ((x : Address) (f : ℕ) → Fits (children (tiling_of m)) x → Touches (contacts (tiling_of m)) a e x f → IsOk r)
    → IfOk r (λ x. ((address_of x.addr ≡ b) × (back ≡ x.edge)) ⊎ ((¬ address_of x.addr ≡ b) × (back ≡ no_back)))
    → IfErr r (λ _. back ≡ no_back) → ShowsBack (tiling_of m) a e b back
back_told m settled law a b e back (Ok x) own other exists fits across leads when is none =
    told m settled.usable a b (address_of x.addr) e x.edge back fits across leads is
back_told m settled law a b e back (Err o) own other exists fits across leads when is none =
    subst (ShowsBack (tiling_of m) a e b) (sym none)
    (none_across m settled law a b e own other exists (λ x f fits touches. absurd (cc (when x f fits touches))))

-- the number of edges is at most 12
pub edges_few : (m : Rule) → IsUsable m → (x : Address) (edges : ℕ) → Fits (children (tiling_of m)) x
    → edges ≡ edges_of (tiling_of m) x.kind → edges ≤ 12
edges_few m usable x edges fits count =
    let few = usable.numbered.at_most_12_edges x.kind (subst (λ n. x.kind < n) (length-map (rule_of m).kinds _) fits.kind_exists) in
    omega (arith, few, count)

-- nothing is put down yet
pub none_yet : (e : ℕ) → get_or (replicate 12 no_back) e no_back ≡ no_back
none_yet e = elim (cases_lt e 12) [
  | inl h ↦ get_or-replicate 12 e no_back no_back h
  | inr h ↦ get_or_past (replicate 12 no_back) e no_back (omega (arith, h, length-replicate 12 no_back))
]

-- a number that stands for an edge has a place
pub beside_at : (backs : List ℕ) → (b : HasBack backs) → b.edge < length backs
beside_at backs b = elim (cases_lt b.edge (length backs)) [
  | inl h ↦ h
  | inr h ↦ absurd (omega (arith, b.back, get_or_past backs b.edge no_back h))
]

-- where some number is below 255, and where each is 255 or more
abbrev pub SomeBelow : List ℕ → Type 0
SomeBelow backs = (k : ℕ) × (k < length backs) × HoldsAt (λ x. x < no_back) backs k

pub beside_if_any : (r : Bool) (backs : List ℕ)
    → MatchBool r (SomeBelow backs) (AllWithin (λ x. no_back ≤ x) backs 0 (length backs)) → IsTrue r
    ↔ HasBack backs
beside_if_any true backs h = (λ _. record { edge = h.0; back = h.2 no_back }, λ _. refl)
beside_if_any false backs h = (λ e. absurd (cc e), λ b. absurd (omega (arith, b.back, h b.edge no_back (omega arith) (beside_at backs b))))
