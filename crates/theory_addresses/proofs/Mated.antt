-- Across edges whose types are mates, mirrored parts are again edges whose types are mates.
use Rattle.std.proofs.Common.{◌≡◌, ℕ, ◌+◌, ◌-◌, ◌<◌, List, length, map, reverse, Option, Some, None, IsSome, sym, ap, ◌∙◌, arith, refl}
use Rattle.std.specs.List.{slice_get}
use Rattle.std.specs.Option.{option_map, option_and_then}
use Rattle.std.proofs.lemmas.Option.{get_or_from_slice_get, slice_get-map, slice_get_within, slice_get-get_or}
use Rattle.std.proofs.lemmas.List.{get_or-reverse, length-map, length-reverse}
use Rattle.theory_addresses.specs.Contact.{ChildEdge, inner, outer}
use Rattle.theory_addresses.specs.Tables.{Tables, kind_tables, type_of, child_kind_of, contacts_of, parts_of, contact_of, part_of, part_count, mate_of, subs_of, child_type_of}
use Rattle.theory_addresses.specs.Coherent.{IsCoherent}
use Rattle.theory_addresses.proofs.TableBounds.{contact_bounds, some_of, some_within}

-- two edges with types that are mates
pub record IsMated (t : Tables) (k e l f : ℕ) : Type 0 where
  pub own : ℕ
  pub other : ℕ
  pub own_is : type_of t k e ≡ Some own
  pub other_is : type_of t l f ≡ Some other
  pub mates : mate_of t own ≡ Some other

child_type : (t : Tables) (k : ℕ) (ce : ChildEdge) (kind : ℕ) → child_kind_of t k ce.child ≡ Some kind → child_type_of t k ce ≡ type_of t kind ce.edge
unfolding child_type_of
child_type t k ce kind h = rw h refl

child_type-back : (t : Tables) (k : ℕ) (ce : ChildEdge) (ty : ℕ) → child_type_of t k ce ≡ Some ty
    → (kind : ℕ) × (child_kind_of t k ce.child ≡ Some kind) × (type_of t kind ce.edge ≡ Some ty)
unfolding child_type_of
child_type-back t k ce ty h = go (child_kind_of t k ce.child) refl h where
  go : (o : Option ℕ) → child_kind_of t k ce.child ≡ o → option_and_then (λ kind. type_of t kind ce.edge) o ≡ Some ty
      → (kind : ℕ) × (child_kind_of t k ce.child ≡ Some kind) × (type_of t kind ce.edge ≡ Some ty)
  go None is h = absurd cc
  go (Some kind) is h = (kind, is, h)

-- the contact of an edge that exists
pub contact_exists : (t : Tables) (k c kind e : ℕ) → IsCoherent t → child_kind_of t k c ≡ Some kind
    → IsSome (type_of t kind e) → IsSome (contact_of t k c e)
unfolding contact_of type_of
contact_exists t k c kind e coherent h edge =
    let ty = some_of (slice_get (kind_tables t kind).types e) edge in
    let inside = slice_get_within (kind_tables t kind).types e ty.0 ty.1 in
    let there = some_within (contacts_of t k c) e (omega (arith, inside, coherent.contact_each k c kind h)) in
    rw there.1 refl

-- an inner contact goes to an edge whose type is the mate
pub inner_mated : (t : Tables) (k a ka e b f : ℕ) → IsCoherent t → child_kind_of t k a ≡ Some ka
    → IsSome (type_of t ka e) → contact_of t k a e ≡ Some (inner b f)
    → (kb : ℕ) × (child_kind_of t k b ≡ Some kb) × IsMated t ka e kb f
unfolding child_kind_of type_of
inner_mated t k a ka e b f coherent ha edge met =
    let back = coherent.points_back k a e b f met in
    let bounds = contact_bounds t k b f (rw back refl) in
    let kb = some_within (kind_tables t k).children b (omega (arith, bounds.1, coherent.contacts_each k)) in
    let other = some_within (kind_tables t kb.0).types f (omega (arith, bounds.2, coherent.contact_each k b kb.0 kb.1)) in
    let own = some_of (slice_get (kind_tables t ka).types e) edge in
    let own_type = child_type t k (record { child = a; edge = e }) ka ha ∙ own.1 in
    let mate = coherent.mated k a e b f own.0 met own_type in
    let other_type : child_type_of t k (record { child = b; edge = f }) ≡ Some other.0 = child_type t k
    (record { child = b; edge = f }) kb.0 kb.1 ∙ other.1 in
    let mates : mate_of t own.0 ≡ Some other.0 = sym mate ∙ other_type in (
      kb.0,
      kb.1,
      record {
        own = own.0;
        other = other.0;
        own_is = own.1;
        other_is = other.1;
        mates = mates;
      },
    )

-- an element of a list turned round
pub slice_get-reverse : {X : Type 0} (xs : List X) (i j : ℕ) (x : X) → i + (j + 1) ≡ length xs
    → slice_get xs j ≡ Some x → slice_get (reverse xs) i ≡ Some x
slice_get-reverse xs i j x n h =
    let inside : i < length xs = omega arith in
    let at : length xs - 1 - i ≡ j = omega arith in
    let there = slice_get-get_or (reverse xs) i x (omega (arith, length-reverse xs, inside)) in
    let same = get_or-reverse xs i x inside ∙ rw at (get_or_from_slice_get xs j x x h) in
    there ∙ ap Some same

-- a part is within its edge
pub part_inside : (t : Tables) (k a own e p : ℕ) → IsCoherent t → contact_of t k a own ≡ Some (outer e p) → p < part_count t k e
unfolding part_count part_of
part_inside t k a own e p coherent on = slice_get_within (parts_of t k e) p (record { child = a; edge = own })
    ((coherent.outer_part k a own e p).0 on)

sub_length : (t : Tables) (k e ty : ℕ) → IsCoherent t → type_of t k e ≡ Some ty → length (parts_of t k e) ≡ length (subs_of t ty)
sub_length t k e ty coherent is =
    sym (length-map (parts_of t k e) (child_type_of t k))
    ∙ ap (λ (l : List (Option ℕ)). length l) (coherent.part_types k e ty is)
    ∙ length-map (subs_of t ty) Some

mate_length : (t : Tables) (own other : ℕ) → IsCoherent t → mate_of t own ≡ Some other → length (subs_of t other) ≡ length (subs_of t own)
mate_length t own other coherent is =
    sym (length-map (subs_of t other) Some) ∙ ap (λ (l : List (Option ℕ)). length l) (coherent.mirrored own other is)
    ∙ length-reverse (map (mate_of t) (subs_of t own)) ∙ length-map (subs_of t own) (mate_of t)

-- mated edges are cut into equally many parts
pub same_parts : (t : Tables) (k e l f : ℕ) → IsCoherent t → IsMated t k e l f → part_count t k e ≡ part_count t l f
unfolding part_count
same_parts t k e l f coherent m =
    sub_length t k e m.own coherent m.own_is ∙ sym (mate_length t m.own m.other coherent m.mates) ∙ sym (sub_length t l f m.other coherent m.other_is)

-- the type of a part, by its place in the subdivision
part_type : (t : Tables) (k e ty p u : ℕ) (ce : ChildEdge) → IsCoherent t → type_of t k e ≡ Some ty
    → part_of t k e p ≡ Some ce → slice_get (subs_of t ty) p ≡ Some u
    → child_type_of t k ce ≡ Some u
unfolding part_of
part_type t k e ty p u ce coherent is at sub =
    let left = slice_get-map (child_type_of t k) (parts_of t k e) p ∙ ap (λ (o : Option ChildEdge). option_map (child_type_of t k) o) at in
    let right = slice_get-map {A = ℕ} {B = Option ℕ} Some (subs_of t ty) p ∙ ap (λ (o : Option ℕ). option_map {T = ℕ} {U = Option ℕ} Some o) sub in
    let same = ap (λ (l : List (Option ℕ)). slice_get l p) (coherent.part_types k e ty is) in
    let two : Some (child_type_of t k ce) ≡ Some (Some u) = sym left ∙ same ∙ right in
    cc

-- across mated edges, the mirrored part is there, and mated
pub record AcrossPart (t : Tables) (ka own l f q : ℕ) : Type 0 where
  pub below : ChildEdge
  pub below_is : part_of t l f q ≡ Some below
  pub back : contact_of t l below.child below.edge ≡ Some (outer f q)
  pub kind : ℕ
  pub kind_is : child_kind_of t l below.child ≡ Some kind
  pub mated : IsMated t ka own kind below.edge

pub across_part : (t : Tables) (k e l f a ka own p q : ℕ) → IsCoherent t → IsMated t k e l f → child_kind_of t k a ≡ Some ka
    → contact_of t k a own ≡ Some (outer e p) → q + (p + 1) ≡ part_count t l f → AcrossPart t ka own l f q
unfolding part_count part_of
across_part t k e l f a ka own p q coherent m ha on n =
    let mine = (coherent.outer_part k a own e p).0 on in
    let size = sub_length t l f m.other coherent m.other_is in
    let size' = mate_length t m.own m.other coherent m.mates in
    let u = some_within (subs_of t m.own) p (omega (arith, size, size', n)) in
    let v = some_within (subs_of t m.other) q (omega (arith, size, n)) in
    let mine_type = sym (child_type t k (record { child = a; edge = own }) ka ha)
    ∙ part_type t k e m.own p u.0 (record { child = a; edge = own }) coherent m.own_is mine u.1 in
    let below = some_within (parts_of t l f) q (omega (arith, n)) in
    let below_type = part_type t l f m.other q v.0 below.0 coherent m.other_is below.1 v.1 in
    let there = child_type-back t l below.0 v.0 below_type in
    let turned = slice_get-reverse (map (mate_of t) (subs_of t m.own)) q p (mate_of t u.0)
    (omega (arith, length-map (subs_of t m.own) (mate_of t), size, size', n))
    (slice_get-map (mate_of t) (subs_of t m.own) p ∙ ap (λ (o : Option ℕ). option_map (mate_of t) o) u.1) in
    let straight = slice_get-map {A = ℕ} {B = Option ℕ} Some (subs_of t m.other) q
    ∙ ap (λ (o : Option ℕ). option_map {T = ℕ} {U = Option ℕ} Some o) v.1 in
    let two : Some (mate_of t u.0) ≡ Some (Some v.0) = sym turned
    ∙ ap (λ (l : List (Option ℕ)). slice_get l q) (sym (coherent.mirrored m.own m.other m.mates))
    ∙ straight in
    let mate : mate_of t u.0 ≡ Some v.0 = cc in
    record {
      below = below.0;
      below_is = below.1;
      back = (coherent.outer_part l below.0.child below.0.edge f q).1 below.1;
      kind = there.0;
      kind_is = there.1;
      mated = record { own = u.0; other = v.0; own_is = mine_type; other_is = there.2; mates = mate };
    }
