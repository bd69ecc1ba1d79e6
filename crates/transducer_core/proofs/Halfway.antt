-- The descent, level by level, over plain variables.
use Rattle.std.proofs.Common.{◌≡◌, ℕ, suc, zero, ◌+◌, ◌<◌, List, [], ◌∷◌, ◌++◌, length, map, Some, IsSome, get_or, sym, ap, ◌∙◌, arith, refl, take, drop, set}
use Rattle.std.specs.List.{slice_get}
use Rattle.std.proofs.lemmas.Option.{get_or_from_slice_get, slice_get_within}
use Rattle.std.proofs.lemmas.List.{take_more, drop_more, drop-set, map-append, take_all}
use Rattle.theory_addresses.specs.Address.{Step}
use Rattle.theory_addresses.specs.Contact.{ChildEdge, inner, outer}
use Rattle.theory_addresses.specs.Tables.{Tables, type_of, child_kind_of, contact_of, part_of, part_count}
use Rattle.theory_addresses.specs.Coherent.{IsCoherent}
use Rattle.theory_addresses.specs.Trace.{Cut}
use Rattle.theory_addresses.proofs.TableBounds.{some_within}
use Rattle.theory_addresses.proofs.Chains.{IsChain, IsChain-at, IsChain-drop, level_kind}
use Rattle.theory_addresses.proofs.Traces.{Lies, itself, on, Lies-unsnoc}
use Rattle.theory_addresses.proofs.FineTouch.{Meets, as_children, as_parts}
use Rattle.theory_addresses.proofs.Mated.{IsMated, inner_mated, part_inside, same_parts, AcrossPart, across_part}
use Rattle.transducer_core.proofs.Rising.{Climbed, MetAt}

snoc_inj : {X : Type 0} (xs ys : List X) (x y : X) → xs ++ x ∷ [] ≡ ys ++ y ∷ [] → (xs ≡ ys) × (x ≡ y)
snoc_inj [] [] x y h = (refl, cc)
snoc_inj [] (b ∷ []) x y h = absurd cc
snoc_inj [] (b ∷ c ∷ ys) x y h = absurd cc
snoc_inj (a ∷ []) [] x y h = absurd cc
snoc_inj (a ∷ c ∷ xs) [] x y h = absurd cc
snoc_inj (a ∷ xs) (b ∷ ys) x y h =
    let tails : xs ++ x ∷ [] ≡ ys ++ y ∷ [] = cc in
    let heads : a ≡ b = cc in
    let r = snoc_inj xs ys x y tails in
    (rw (heads, r.0) refl, r.1)

-- an edge lies on an edge that exists
on_edge : (t : Tables) (k : ℕ) (xs : List Step) (i : ℕ) {e own : ℕ} {cuts : List Cut} → IsCoherent t
    → Lies t e (take i xs) own cuts → IsSome (type_of t k e)
    → IsSome (type_of t (level_kind k xs i) own)
on_edge t k xs zero coherent itself edge = edge
on_edge t k [] (suc i) coherent itself edge = edge
on_edge t k (s ∷ xs) (suc i) coherent (on {e = e} {f = f} {c = c} met parts rest) edge =
    on_edge t s.parent xs i coherent rest (coherent.outer_edge s.parent s.child e f c.part met)

-- the descent, as far as it has come
pub record Halfway (t : Tables) (k : ℕ) (xs : List Step) (e : ℕ) (parts : List ℕ) (i : ℕ) (ys : List Step) (kind f : ℕ) : Type 0 where
  pub own : ℕ
  pub climbs : Climbed t xs e i own (take i parts)
  pub meets : Meets t (drop i xs) own (drop i ys) f
  pub mated : IsMated t (level_kind k xs i) own kind f

-- a step read at a level
at_level : (xs : List Step) (i : ℕ) (s : Step) → slice_get xs i ≡ Some s → (take (i + 1) xs ≡ take i xs ++ s ∷ []) × (drop i xs ≡ s ∷ drop (i + 1) xs)
at_level xs i s is =
    let inside = slice_get_within xs i s is in
    let here = get_or_from_slice_get xs i s s is in
    (rw here at (take_more xs i s inside), rw here at (drop_more xs i s inside))

-- the child that was met exists, and its edge is mated to the own one
pub start_mated : (t : Tables) (k : ℕ) (xs : List Step) (e i b f : ℕ) (parts : List ℕ) → IsCoherent t → IsChain t k xs → IsSome (type_of t k e)
    → (m : MetAt t xs e i b f parts) → (kind : ℕ) × (child_kind_of t m.step.parent b ≡ Some kind) × IsMated t (level_kind k xs i) m.own kind f
start_mated t k xs e i b f parts coherent fits edge m =
    let at = IsChain-at t k xs i m.step fits m.at in
    inner_mated t m.step.parent m.step.child (level_kind k xs i) m.own b f coherent at.0 (on_edge t k xs i coherent m.climbs.trace edge) m.met

pub start : (t : Tables) (k : ℕ) (xs : List Step) (e i b f : ℕ) (parts : List ℕ) (ys : List Step) (s : Step)
    (kind : ℕ) → IsCoherent t → IsChain t k xs → IsSome (type_of t k e)
    → MetAt t xs e i b f parts → slice_get xs i ≡ Some s → child_kind_of t s.parent b ≡ Some kind
    → drop i ys ≡ (record { child = b; parent = s.parent }) ∷ drop (i + 1) xs → Halfway t k xs e parts i ys kind f
start t k xs e i b f parts ys s kind coherent fits edge m is child below =
    let same : m.step ≡ s = let two : Some m.step ≡ Some s = sym m.at ∙ is in cc in
    let other = start_mated t k xs e i b f parts coherent fits edge m in
    let child' : child_kind_of t s.parent b ≡ Some other.0 = rw (← same) other.1 in
    let kinds : other.0 ≡ kind = let two : Some other.0 ≡ Some kind = sym child' ∙ child in cc in
    let met : contact_of t s.parent s.child m.own ≡ Some (inner b f) = rw (← same) m.met in
    let whole : take i parts ≡ parts = take_all i parts (omega (arith, m.count)) in
    record {
      own = m.own;
      climbs = rw whole m.climbs;
      meets = rw ((at_level xs i s is).1, below) (as_children refl met);
      mated = rw (← kinds) other.2;
    }

pub start_fits : (t : Tables) (k : ℕ) (xs : List Step) (i b : ℕ) (ys : List Step) (s : Step) (kind : ℕ)
    → IsChain t k xs → slice_get xs i ≡ Some s → child_kind_of t s.parent b ≡ Some kind
    → drop i ys ≡ (record { child = b; parent = s.parent }) ∷ drop (i + 1) xs → IsChain t kind (drop i ys)
start_fits t k xs i b ys s kind fits is child below =
    let at = IsChain-at t k xs i s fits is in
    let inside = slice_get_within xs i s is in
    let rest : IsChain t s.parent (drop (i + 1) xs) = rw (← at.1) (IsChain-drop t k xs (i + 1) fits (omega arith)) in
    rw below (child, rest)

-- the child that is met exists
pub start_child : (t : Tables) (k : ℕ) (xs : List Step) (e i b f : ℕ) (parts : List ℕ) (s : Step)
    → IsCoherent t → IsChain t k xs → IsSome (type_of t k e)
    → MetAt t xs e i b f parts → slice_get xs i ≡ Some s → IsSome (child_kind_of t s.parent b)
start_child t k xs e i b f parts s coherent fits edge m is =
    let same : m.step ≡ s = let two : Some m.step ≡ Some s = sym m.at ∙ is in cc in
    let there = start_mated t k xs e i b f parts coherent fits edge m in
    let child : child_kind_of t s.parent b ≡ Some there.0 = rw (← same) there.1 in
    rw child refl

-- a digit that was written stands in front of those above it
pub written : (ys zs : List Step) (i : ℕ) (y : Step) → zs ≡ set ys i y → i < length ys → drop i zs ≡ y ∷ drop (i + 1) ys
written ys zs i y is inside = ap (drop i) is ∙ drop-set ys i y inside

-- one level down: the own edge there, and its part
record Opened (t : Tables) (k : ℕ) (xs : List Step) (e : ℕ) (parts : List ℕ) (i own : ℕ) : Type 0 where
  step : Step
  at : slice_get xs i ≡ Some step
  below : ℕ
  met : contact_of t step.parent step.child below ≡ Some (outer own (get_or parts i 0))
  climbs : Climbed t xs e i below (take i parts)
  child : child_kind_of t step.parent step.child ≡ Some (level_kind k xs i)
  parent : level_kind k xs (i + 1) ≡ step.parent

opened : (t : Tables) (k : ℕ) (xs : List Step) (e : ℕ) (parts : List ℕ) (i own : ℕ) → IsChain t k xs → i < length xs → i < length parts
    → Climbed t xs e (i + 1) own (take (i + 1) parts) → Opened t k xs e parts i own
opened t k xs e parts i own fits in_xs in_parts climbs =
    let s = some_within xs i in_xs in
    let at = IsChain-at t k xs i s.0 fits s.1 in
    let trace : Lies t e (take i xs ++ s.0 ∷ []) own climbs.cuts = rw (← (at_level xs i s.0 s.1).0) climbs.trace in
    let r = Lies-unsnoc (take i xs) s.0 trace in
    let both : take i parts ++ get_or parts i 0 ∷ [] ≡ map (λ (c : Cut). c.part) r.others ++ r.last.part ∷ []
    = sym (take_more parts i 0 in_parts) ∙ climbs.parts_are
    ∙ ap (λ (l : List Cut). map (λ (c : Cut). c.part) l) r.cuts_are
    ∙ map-append (λ (c : Cut). c.part) r.others (r.last ∷ []) in
    let two = snoc_inj (take i parts) (map (λ (c : Cut). c.part) r.others) (get_or parts i 0) r.last.part both in
    record {
      step = s.0;
      at = s.1;
      below = r.below;
      met = rw two.1 r.own;
      climbs = record { cuts = r.others; parts_are = two.0; trace = r.rest };
      child = at.0;
      parent = at.1;
    }

-- the part on the way down exists
pub half_part : (t : Tables) (k : ℕ) (xs : List Step) (e : ℕ) (parts : List ℕ) (i n : ℕ) (ys : List Step)
    (kind f : ℕ) → IsCoherent t → IsChain t k xs → i < length xs → i < length parts
    → n ≡ i + 1 → Halfway t k xs e parts n ys kind f → get_or parts i 0 < part_count t kind f
half_part t k xs e parts i n ys kind f coherent fits in_xs in_parts more h' =
    let h : Halfway t k xs e parts (i + 1) ys kind f = rw (← more) h' in
    let o = opened t k xs e parts i h.own fits in_xs in_parts h.climbs in
    let mated : IsMated t o.step.parent h.own kind f = rw (← o.parent) h.mated in
    omega (
      arith,
      part_inside t o.step.parent o.step.child o.below h.own (get_or parts i 0) coherent o.met,
      same_parts t o.step.parent h.own kind f coherent mated,
    )

pub half_across : (t : Tables) (k : ℕ) (xs : List Step) (e : ℕ) (parts : List ℕ) (i n : ℕ) (ys : List Step)
    (kind f q : ℕ) → IsCoherent t → IsChain t k xs → i < length xs → i < length parts
    → n ≡ i + 1 → Halfway t k xs e parts n ys kind f → q + (get_or parts i 0 + 1) ≡ part_count t kind f
    → (own : ℕ) × AcrossPart t (level_kind k xs i) own kind f q
half_across t k xs e parts i n ys kind f q coherent fits in_xs in_parts more h' mirror =
    let h : Halfway t k xs e parts (i + 1) ys kind f = rw (← more) h' in
    let o = opened t k xs e parts i h.own fits in_xs in_parts h.climbs in
    let mated : IsMated t o.step.parent h.own kind f = rw (← o.parent) h.mated in (
      o.below,
      across_part t o.step.parent h.own kind f o.step.child (level_kind k xs i) o.below
          (get_or parts i 0) q coherent mated o.child o.met mirror,
    )

pub half_child : (t : Tables) (k own kind f q : ℕ) (next : ChildEdge) → AcrossPart t k own kind f q
    → part_of t kind f q ≡ Some next → IsSome (child_kind_of t kind next.child)
half_child t k own kind f q next a is =
    let one : a.below ≡ next = let two : Some a.below ≡ Some next = sym a.below_is ∙ is in cc in
    let there : child_kind_of t kind next.child ≡ Some a.kind = rw (← one) a.kind_is in
    rw there refl

pub half_next : (t : Tables) (k : ℕ) (xs : List Step) (e : ℕ) (parts : List ℕ) (i n : ℕ) (ys : List Step)
    (kind f q : ℕ) (next : ChildEdge) (kind' : ℕ) (zs : List Step) → IsCoherent t → IsChain t k xs
    → i < length xs → i < length parts → n ≡ i + 1 → Halfway t k xs e parts n ys kind f → q + (get_or parts i 0 + 1) ≡ part_count t kind f
    → part_of t kind f q ≡ Some next → child_kind_of t kind next.child ≡ Some kind'
    → drop i zs ≡ (record { child = next.child; parent = kind }) ∷ drop (i + 1) ys
    → Halfway t k xs e parts i zs kind' next.edge
half_next t k xs e parts i n ys kind f q next kind' zs coherent fits in_xs in_parts more h' mirror is child below =
    let h : Halfway t k xs e parts (i + 1) ys kind f = rw (← more) h' in
    let o = opened t k xs e parts i h.own fits in_xs in_parts h.climbs in
    let mated : IsMated t o.step.parent h.own kind f = rw (← o.parent) h.mated in
    let a = across_part t o.step.parent h.own kind f o.step.child (level_kind k xs i) o.below
    (get_or parts i 0) q coherent mated o.child o.met mirror in
    let one : a.below ≡ next = let two : Some a.below ≡ Some next = sym a.below_is ∙ is in cc in
    let kinds : a.kind ≡ kind' = let two : Some a.kind ≡ Some kind' = sym a.kind_is ∙ rw one child in cc in
    let back : contact_of t kind next.child next.edge ≡ Some (outer f q) = rw (← one) a.back in
    let size = same_parts t o.step.parent h.own kind f coherent mated in
    record {
      own = o.below;
      climbs = o.climbs;
      meets = rw ((at_level xs i o.step o.at).1, below) (as_parts o.met back (mirror ∙ sym size) mirror h.meets);
      mated = rw (← kinds, ← one) a.mated;
    }
