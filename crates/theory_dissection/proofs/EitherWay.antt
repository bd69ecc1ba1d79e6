-- Every edge of a tile lies on an edge of the supertile, or meets the edge of another tile.
use Rattle.std.proofs.Common.{◌≡◌, ℕ, suc, ◌+◌, ◌-◌, List, [], ◌∷◌, length, reverse, Some, IsSome, ap, ◌∙◌, arith, refl}
use Rattle.theory_addresses.specs.Address.{Step, Address, top_from, top_kind, depth, Fits}
use Rattle.theory_addresses.specs.Contact.{Contact, inner, outer}
use Rattle.theory_addresses.specs.Tables.{Tables, child_kinds, type_of, child_kind_of, contact_of, part_count}
use Rattle.theory_addresses.specs.Coherent.{IsCoherent}
use Rattle.theory_addresses.specs.Trace.{Cut, HasTrace}
use Rattle.theory_addresses.specs.Touch.{Touches}
use Rattle.theory_addresses.proofs.Chains.{IsChain, chain_of, fits_of}
use Rattle.theory_addresses.proofs.Traces.{Lies, itself, on, trace_of}
use Rattle.theory_addresses.proofs.FineTouch.{Meets, as_children, as_parts}
use Rattle.theory_addresses.proofs.Mated.{IsMated, contact_exists, inner_mated, part_inside, same_parts, across_part}
use Rattle.theory_addresses.proofs.TableBounds.{some_of}
use Rattle.theory_addresses.proofs.Touching.{Touches-of}

-- an edge that is met: by whom, with the digits of a tile of the same supertile
pub record IsMet (t : Tables) (k e : ℕ) (xs : List Step) : Type 0 where
  pub kind : ℕ
  pub edge : ℕ
  pub digits : List Step
  pub meets : Meets t xs e digits edge
  pub chain : IsChain t kind digits
  pub mated : IsMated t k e kind edge
  pub one_top : top_from kind digits ≡ top_from k xs
  pub one_depth : length digits ≡ length xs

-- the one or the other
pub data EitherWay (t : Tables) (k e : ℕ) (xs : List Step) : Type 0 where
  lies : (top : ℕ) (cuts : List Cut) → Lies t e xs top cuts → EitherWay t k e xs
  met : IsMet t k e xs → EitherWay t k e xs

-- the edge is part p of an edge of the parent, which is met
met_part : (t : Tables) (k e own p : ℕ) (s : Step) (xs : List Step) → IsCoherent t → child_kind_of t s.parent s.child ≡ Some k
    → contact_of t s.parent s.child e ≡ Some (outer own p) → IsMet t s.parent own xs → IsMet t k e (s ∷ xs)
met_part t k e own p s xs coherent fits is m =
    let inside = part_inside t s.parent s.child e own p coherent is in
    let q : ℕ = part_count t s.parent own - suc p in
    let here : q + (p + 1) ≡ part_count t s.parent own = omega arith in
    let there : q + (p + 1) ≡ part_count t m.kind m.edge = here ∙ same_parts t s.parent own m.kind m.edge coherent m.mated in
    let a = across_part t s.parent own m.kind m.edge s.child k e p q coherent m.mated fits is there in
    record {
      kind = a.kind;
      edge = a.below.edge;
      digits = record { child = a.below.child; parent = m.kind } ∷ m.digits;
      meets = as_parts is a.back here there m.meets;
      chain = (a.kind_is, m.chain);
      mated = a.mated;
      one_top = m.one_top;
      one_depth = ap suc m.one_depth;
    }

-- the edge meets that of another child
met_child : (t : Tables) (k e c f : ℕ) (s : Step) (xs : List Step) → IsCoherent t → IsSome (type_of t k e) → IsChain t k (s ∷ xs)
    → contact_of t s.parent s.child e ≡ Some (inner c f) → IsMet t k e (s ∷ xs)
met_child t k e c f s xs coherent edge chain is =
    let m = inner_mated t s.parent s.child k e c f coherent chain.0 edge is in
    record {
      kind = m.0;
      edge = f;
      digits = record { child = c; parent = s.parent } ∷ xs;
      meets = as_children refl is;
      chain = (m.1, chain.1);
      mated = m.2;
      one_top = refl;
      one_depth = refl;
    }

pub either_way : (t : Tables) (k e : ℕ) (xs : List Step) → IsCoherent t → IsChain t k xs → IsSome (type_of t k e) → EitherWay t k e xs
either_way t k e [] coherent chain edge = lies e [] itself
either_way t k e (s ∷ xs) coherent chain edge =
    let x = some_of (contact_of t s.parent s.child e) (contact_exists t s.parent s.child k e coherent chain.0 edge) in
    at_contact x.0 x.1 (λ own known. either_way t s.parent own xs coherent chain.1 known)
  where
    at_parent : (own p : ℕ) → contact_of t s.parent s.child e ≡ Some (outer own p) → EitherWay t s.parent own xs → EitherWay t k e (s ∷ xs)
    at_parent own p is (lies top cuts h) = lies top (record { part = p; parts = part_count t s.parent own } ∷ cuts) (on is refl h)
    at_parent own p is (met m) = met (met_part t k e own p s xs coherent chain.0 is m)

    at_contact : (x : Contact) → contact_of t s.parent s.child e ≡ Some x
        → ((own : ℕ) → IsSome (type_of t s.parent own) → EitherWay t s.parent own xs)
        → EitherWay t k e (s ∷ xs)
    at_contact (inner c f) is above = met (met_child t k e c f s xs coherent edge chain is)
    at_contact (outer own p) is above = at_parent own p is (above own (coherent.outer_edge s.parent s.child e own p is))

-- a tile of the same supertile with an edge that is touched
pub record IsTouched (t : Tables) (a : Address) (e : ℕ) : Type 0 where
  pub other : Address
  pub edge : ℕ
  pub touches : Touches t a e other edge
  pub fits : Fits (child_kinds t) other
  pub edge_exists : IsSome (type_of t other.kind edge)
  pub one_top : top_kind other ≡ top_kind a
  pub one_depth : depth other ≡ depth a

pub data TraceOrTouch (t : Tables) (a : Address) (e : ℕ) : Type 0 where
  traced : (top : ℕ) (cuts : List Cut) → HasTrace t a e top cuts → TraceOrTouch t a e
  touched : IsTouched t a e → TraceOrTouch t a e

-- an edge of an address that fits has a trace to the top, or touches an edge of a tile of the same supertile
pub trace_or_touch : (t : Tables) (a : Address) (e : ℕ) → IsCoherent t → Fits (child_kinds t) a → IsSome (type_of t a.kind e) → TraceOrTouch t a e
trace_or_touch t a e coherent fits edge = at_case (either_way t a.kind e a.digits coherent (chain_of t a fits) edge)
  where
    at_case : EitherWay t a.kind e a.digits → TraceOrTouch t a e
    at_case (lies top cuts h) = traced top (reverse cuts) (trace_of h)
    at_case (met m) =
        let b : Address = record { kind = m.kind; digits = m.digits } in
        touched (record {
          other = b;
          edge = m.edge;
          touches = Touches-of a b m.meets;
          fits = fits_of t m.kind m.digits coherent m.chain;
          edge_exists = rw m.mated.other_is refl;
          one_top = m.one_top;
          one_depth = m.one_depth;
        })
