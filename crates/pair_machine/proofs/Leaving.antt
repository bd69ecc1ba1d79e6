-- What is left by reading from coarse to fine meets, and what meets is left.
use Rattle.std.proofs.Common.{◌≡◌, ◌↔◌, inl, inr, ℕ, zero, suc, ◌+◌, true, ◌&&◌, List, [], ◌∷◌, reverse, take, Some, IsSome, refl, sym, ◌∙◌, subst, eqb, eq-eqb}
use Rattle.std.specs.List.{flat_map, slice_get}
use Rattle.std.proofs.lemmas.Bool.{eqb-true, and_parts}
use Rattle.theory_addresses.specs.Address.{Step, Address, Fits}
use Rattle.theory_addresses.specs.Contact.{ChildEdge, inner}
use Rattle.theory_addresses.specs.Search.{IsAmong}
use Rattle.theory_addresses.specs.Tables.{Tables, child_kinds, child_kind_of, type_of, contact_of, part_count}
use Rattle.theory_addresses.specs.Coherent.{IsCoherent}
use Rattle.theory_addresses.specs.Touch.{Touches}
use Rattle.theory_addresses.proofs.Lists.{IsAmong-append_left, IsAmong-append_right, IsAmong-flat_map}
use Rattle.theory_addresses.proofs.Ranges.{among-append, among-flat_map}
use Rattle.theory_addresses.proofs.Chains.{IsChain, chain_of}
use Rattle.theory_addresses.proofs.Mated.{IsMated, inner_mated, same_parts, across_part}
use Rattle.theory_addresses.proofs.FineTouch.{Meets, as_children, as_parts}
use Rattle.theory_addresses.proofs.Traces.{Lies, itself, on, lies_of}
use Rattle.theory_addresses.specs.Trace.{Cut}
use Rattle.theory_addresses.proofs.Touching.{Touches-of, Meets-of}
use Rattle.pair_machine.specs.Nodes.{row_of}
use Rattle.pair_machine.specs.Reading.{same_steps, left_of, node_of, first_pairs, pairs_read}
use Rattle.pair_machine.proofs.LeftOfRows.{same_steps-true, same_steps-same, between-among, among-between, InRow, row-among, among-row, left-among, among-left, edge_there, first-among, among-first}

-- ---- what is left meets
-- edges that meet, of mated types
pub record MeetMated (t : Tables) (k l : ℕ) (xs : List Step) (e : ℕ) (ys : List Step) (f : ℕ) : Type 0 where
  pub meets : Meets t xs e ys f
  pub mated : IsMated t k e l f

pub meet_first : (t : Tables) (k l e f : ℕ) (x y : Step) (ds : List Step) → IsCoherent t → x.parent ≡ y.parent
    → contact_of t x.parent x.child e ≡ Some (inner y.child f)
    → child_kind_of t x.parent x.child ≡ Some k → child_kind_of t y.parent y.child ≡ Some l → MeetMated t k l (x ∷ ds) e (y ∷ ds) f
meet_first t k l e f x y ds coherent parent met fits fits' =
    let edge = edge_there t x.parent x.child k e coherent fits (rw met refl) in
    let m = inner_mated t x.parent x.child k e y.child f coherent fits edge met in
    let kind : child_kind_of t y.parent y.child ≡ Some m.0 = rw (← parent) m.1 in
    let same : m.0 ≡ l = let two : Some m.0 ≡ Some l = sym kind ∙ fits' in cc in
    let mated : IsMated t k e l f = rw (← same) m.2 in
    record { meets = as_children parent met; mated = mated }

pub meet_further : (t : Tables) (k l e f own other : ℕ) (x y : Step) (xs ys : List Step) → IsCoherent t
    → child_kind_of t x.parent x.child ≡ Some k → child_kind_of t y.parent y.child ≡ Some l
    → InRow t (node_of x y (record { mine = own; theirs = other }))
    (record {
      mine = record { child = x.child; edge = e };
      theirs = record { child = y.child; edge = f };
    })
    → MeetMated t x.parent y.parent xs own ys other → MeetMated t k l (x ∷ xs) e (y ∷ ys) f
meet_further t k l e f own other x y xs ys coherent fits fits' r above =
    let on = (coherent.outer_part x.parent x.child e own r.part).1 r.mine in
    let on' = (coherent.outer_part y.parent y.child f other r.across).1 r.theirs in
    let its : r.across + (r.part + 1) ≡ part_count t y.parent other = r.mirrored ∙ same_parts t x.parent own y.parent other coherent above.mated in
    let a = across_part t x.parent own y.parent other x.child k e r.part r.across coherent above.mated fits on its in
    let one : a.below ≡ record { child = y.child; edge = f } = let two : Some a.below ≡ Some
    (record { child = y.child; edge = f }) = sym a.below_is ∙ r.theirs in cc in
    let kind : child_kind_of t y.parent y.child ≡ Some a.kind = subst
    (λ (ce : ChildEdge). child_kind_of t y.parent ce.child ≡ Some a.kind) one a.kind_is in
    let kinds : a.kind ≡ l = let two : Some a.kind ≡ Some l = sym kind ∙ fits' in cc in
    let mated' : IsMated t k e a.kind f = subst (λ (ce : ChildEdge). IsMated t k e a.kind ce.edge) one a.mated in
    let mated : IsMated t k e l f = subst (λ (n : ℕ). IsMated t k e n f) kinds mated' in
    record { meets = as_parts on on' r.mirrored its above.meets; mated = mated }

first_case : (t : Tables) (k l e f : ℕ) (x y : Step) (xs ys : List Step) → IsCoherent t
    → child_kind_of t x.parent x.child ≡ Some k → child_kind_of t y.parent y.child ≡ Some l
    → IsAmong (record { mine = e; theirs = f })
    (first_pairs t x y (eqb x.parent y.parent && same_steps xs ys))
    → MeetMated t k l (x ∷ xs) e (y ∷ ys) f
first_case t k l e f x y xs ys coherent fits fits' i =
    let r = first-among t x y (eqb x.parent y.parent && same_steps xs ys) (record { mine = e; theirs = f }) i in
    let two = and_parts (eqb x.parent y.parent) (same_steps xs ys) r.0 in
    let m = meet_first t k l e f x y xs coherent (eqb-true x.parent y.parent two.0) (between-among t x.parent x.child y.child e f r.1) fits fits' in
    subst (λ (zs : List Step). MeetMated t k l (x ∷ xs) e (y ∷ zs) f) (same_steps-true xs ys two.1) m

pub read_meets : (t : Tables) (xs ys : List Step) (k l e f : ℕ) → IsCoherent t → IsChain t k xs → IsChain t l ys
    → IsAmong (record { mine = e; theirs = f }) (pairs_read t xs ys) → MeetMated t k l xs e ys f
read_meets t [] ys k l e f coherent fits fits' i = elim i [ ]
read_meets t (x ∷ xs) [] k l e f coherent fits fits' i = elim i [ ]
read_meets t (x ∷ xs) (y ∷ ys) k l e f coherent fits fits' i =
    elim (among-append (record { mine = e; theirs = f })
    (first_pairs t x y (eqb x.parent y.parent && same_steps xs ys))
    (flat_map (λ p. left_of (row_of t (node_of x y p)) x.child y.child) (pairs_read t xs ys)) i) [
      | inl j ↦ first_case t k l e f x y xs ys coherent fits.0 fits'.0 j
      | inr j ↦
          let r = among-flat_map (λ p. left_of (row_of t (node_of x y p)) x.child y.child) (record { mine = e; theirs = f }) (pairs_read t xs ys) j in
          let row = row-among t (node_of x y r.piece)
          (record {
            mine = record { child = x.child; edge = e };
            theirs = record { child = y.child; edge = f };
          })
          (left-among t (node_of x y r.piece) x.child y.child e f r.inside) in
          meet_further t k l e f r.piece.mine r.piece.theirs x y xs ys coherent fits.0 fits'.0 row
          (read_meets t xs ys x.parent y.parent r.piece.mine r.piece.theirs coherent fits.1 fits'.1 r.among)
    ]

-- ---- and what meets is left
pub meets_read : {t : Tables} {xs ys : List Step} {e f : ℕ} → IsCoherent t → Meets t xs e ys f
    → IsAmong (record { mine = e; theirs = f }) (pairs_read t xs ys)
meets_read {t} coherent (as_children {s = s} {u = u} {e = e} {f = f} {ds = ds} parent met) =
    let test : (eqb s.parent u.parent && same_steps ds ds) ≡ true = rw (eq-eqb s.parent u.parent parent, same_steps-same ds) refl in
    IsAmong-append_left (record { mine = e; theirs = f })
    (first_pairs t s u (eqb s.parent u.parent && same_steps ds ds))
    (flat_map (λ p. left_of (row_of t (node_of s u p)) s.child u.child) (pairs_read t ds ds))
    (among-first t s u (eqb s.parent u.parent && same_steps ds ds) (record { mine = e; theirs = f }) test
    (among-between t s.parent s.child u.child e f met))
meets_read {t} coherent (as_parts {s = s} {u = u} {e = e} {f = f} {own = a} {other = b} {p = p} {q = q} {xs = xs} {ys = ys} own other m n rest) =
    let row = among-row t (node_of s u (record { mine = a; theirs = b }))
    (record {
      mine = record { child = s.child; edge = e };
      theirs = record { child = u.child; edge = f };
    })
    (record {
      part = p;
      across = q;
      mirrored = m;
      mine = (coherent.outer_part s.parent s.child e a p).0 own;
      theirs = (coherent.outer_part u.parent u.child f b q).0 other;
    }) in
    IsAmong-append_right (record { mine = e; theirs = f })
    (first_pairs t s u (eqb s.parent u.parent && same_steps xs ys))
    (flat_map (λ p. left_of (row_of t (node_of s u p)) s.child u.child) (pairs_read t xs ys))
    (IsAmong-flat_map (λ p. left_of (row_of t (node_of s u p)) s.child u.child)
    (record { mine = a; theirs = b }) (record { mine = e; theirs = f }) (pairs_read t xs ys)
    (meets_read coherent rest) (among-left t (node_of s u (record { mine = a; theirs = b })) s.child u.child e f row))

-- ---- an edge that touches is there
itself_is : {t : Tables} {e own : ℕ} {cuts : List Cut} → Lies t e [] own cuts → e ≡ own
itself_is itself = refl

on_first : {t : Tables} {e own : ℕ} {d : Step} {ds : List Step} {cuts : List Cut} → Lies t e (d ∷ ds) own cuts
    → IsSome (contact_of t d.parent d.child e)
on_first (on met parts rest) = rw met refl

touch_first : (t : Tables) (k e own b f : ℕ) (cuts : List Cut) (xs : List Step) (i : ℕ) (x : Step)
    → IsCoherent t → IsChain t k xs → Lies t e (take i xs) own cuts
    → slice_get xs i ≡ Some x → contact_of t x.parent x.child own ≡ Some (inner b f) → IsSome (type_of t k e)
touch_first t k e own b f cuts [] i x coherent fits lies at met = absurd cc
touch_first t k e own b f cuts (d ∷ ds) zero x coherent fits lies at met =
    let one : d ≡ x = cc in
    let here : contact_of t d.parent d.child e ≡ Some (inner b f) = rw (one, itself_is lies) met in
    edge_there t d.parent d.child k e coherent fits.0 (rw here refl)
touch_first t k e own b f cuts (d ∷ ds) (suc i) x coherent fits lies at met = edge_there t d.parent d.child k e coherent fits.0 (on_first lies)

pub touch_edge : (t : Tables) (a b : Address) (e f : ℕ) → IsCoherent t → Fits (child_kinds t) a → Touches t a e b f → IsSome (type_of t a.kind e)
touch_edge t a b e f coherent fits h = touch_first t a.kind e h.edge_x h.y.child h.edge_y (reverse h.cuts_x)
    a.digits h.below h.x coherent (chain_of t a fits) (lies_of h.trace_x) h.digit_x h.meet

-- ---- the theorem
pub read_touches : (t : Tables) (a b : Address) (e f : ℕ) → IsCoherent t → Fits (child_kinds t) a → Fits (child_kinds t) b
    → IsAmong (record { mine = e; theirs = f }) (pairs_read t a.digits b.digits) ↔ Touches t a e b f
read_touches t a b e f coherent fits fits' = (
  λ i. Touches-of a b (read_meets t a.digits b.digits a.kind b.kind e f coherent (chain_of t a fits) (chain_of t b fits') i).meets,
  λ h. meets_read coherent (Meets-of a b coherent fits fits' (touch_edge t a b e f coherent fits h) h),
)
