-- The touch of two traces is the meeting of edges.
use Rattle.std.proofs.Common.{◌≡◌, ℕ, suc, ◌+◌, List, [], ◌∷◌, ◌++◌, length, reverse, take, drop, Some, IsSome, slice_get, sym, ap, subst, ◌∙◌, refl, length-append, add-one}
use Rattle.std.proofs.lemmas.List.{take_at, take-append-drop, drop_more}
use Rattle.std.proofs.lemmas.Option.{slice_get_within, get_or_from_slice_get}
use Rattle.theory_addresses.specs.Address.{Step, Address, Fits}
use Rattle.theory_addresses.specs.Contact.{ChildEdge, inner, outer}
use Rattle.theory_addresses.specs.Tables.{Tables, child_kinds, type_of, child_kind_of, contact_of, part_count}
use Rattle.theory_addresses.specs.Coherent.{IsCoherent}
use Rattle.theory_addresses.specs.Trace.{Cut, HasTrace}
use Rattle.theory_addresses.specs.Touch.{AreMirrored, Touches, IsOnlyTouched}
use Rattle.theory_addresses.proofs.Chains.{IsChain, chain_of}
use Rattle.theory_addresses.proofs.Traces.{Lies, itself, on, Lies-length, lies_of, trace_of, reverse_cons}
use Rattle.theory_addresses.proofs.FineTouch.{Meets, as_children, as_parts, Meets-sym, Meets-unique, Lies-Meets}
use Rattle.theory_addresses.proofs.Mated.{IsMated, inner_mated, same_parts, across_part}

-- the touch with both addresses cut at its level, and the traces from the fine end
record Splits (t : Tables) (xs : List Step) (e : ℕ) (ys : List Step) (f : ℕ) : Type 0 where
  fine_x : List Step
  fine_y : List Step
  x : Step
  y : Step
  coarse : List Step
  edge_x : ℕ
  edge_y : ℕ
  cuts_x : List Cut
  cuts_y : List Cut
  split_x : xs ≡ fine_x ++ x ∷ coarse
  split_y : ys ≡ fine_y ++ y ∷ coarse
  one_parent : x.parent ≡ y.parent
  trace_x : Lies t e fine_x edge_x cuts_x
  trace_y : Lies t f fine_y edge_y cuts_y
  meet : contact_of t x.parent x.child edge_x ≡ Some (inner y.child edge_y)
  mirrored : AreMirrored cuts_x cuts_y

-- edges that meet are split so
splits_of : {t : Tables} {xs ys : List Step} {e f : ℕ} → Meets t xs e ys f → Splits t xs e ys f
splits_of (as_children {s = s} {u = u} {e = e} {f = f} {ds = ds} parent met) = record {
  fine_x = [];
  fine_y = [];
  x = s;
  y = u;
  coarse = ds;
  edge_x = e;
  edge_y = f;
  cuts_x = [];
  cuts_y = [];
  split_x = refl;
  split_y = refl;
  one_parent = parent;
  trace_x = itself;
  trace_y = itself;
  meet = met;
  mirrored = tt;
}
splits_of {t} (as_parts {s = s} {u = u} {own = a} {other = b} {p = p} {q = q} own other m n rest) =
    let r = splits_of rest in
    record {
      fine_x = s ∷ r.fine_x;
      fine_y = u ∷ r.fine_y;
      x = r.x;
      y = r.y;
      coarse = r.coarse;
      edge_x = r.edge_x;
      edge_y = r.edge_y;
      cuts_x = record { part = p; parts = part_count t s.parent a } ∷ r.cuts_x;
      cuts_y = record { part = q; parts = part_count t u.parent b } ∷ r.cuts_y;
      split_x = ap (λ (l : List Step). s ∷ l) r.split_x;
      split_y = ap (λ (l : List Step). u ∷ l) r.split_y;
      one_parent = r.one_parent;
      trace_x = on own refl r.trace_x;
      trace_y = on other refl r.trace_y;
      meet = r.meet;
      mirrored = (m, r.mirrored);
    }

-- ---- mirrored lists, read backwards
mirrored_more : (cs ds : List Cut) (c d : Cut) → AreMirrored cs ds → d.part + (c.part + 1) ≡ c.parts → AreMirrored (cs ++ c ∷ []) (ds ++ d ∷ [])
mirrored_more [] [] c d h m = (m, tt)
mirrored_more [] (y ∷ ds) c d h m = elim h [ ]
mirrored_more (x ∷ cs) [] c d h m = elim h [ ]
mirrored_more (x ∷ cs) (y ∷ ds) c d h m = (h.0, mirrored_more cs ds c d h.1 m)

AreMirrored-reverse : (cs ds : List Cut) → AreMirrored cs ds → AreMirrored (reverse cs) (reverse ds)
AreMirrored-reverse [] [] h = tt
AreMirrored-reverse [] (d ∷ ds) h = elim h [ ]
AreMirrored-reverse (c ∷ cs) [] h = elim h [ ]
AreMirrored-reverse (c ∷ cs) (d ∷ ds) h = rw (reverse_cons c cs, reverse_cons d ds)
    (mirrored_more (reverse cs) (reverse ds) c d (AreMirrored-reverse cs ds h.1) h.0)

AreMirrored-length : (cs ds : List Cut) → AreMirrored cs ds → length cs ≡ length ds
AreMirrored-length [] [] h = refl
AreMirrored-length [] (d ∷ ds) h = elim h [ ]
AreMirrored-length (c ∷ cs) [] h = elim h [ ]
AreMirrored-length (c ∷ cs) (d ∷ ds) h = ap suc (AreMirrored-length cs ds h.1)

-- ---- a list cut at a place
split_at : (xs : List Step) (i : ℕ) (x : Step) → slice_get xs i ≡ Some x → xs ≡ take i xs ++ x ∷ drop (i + 1) xs
split_at xs i x is =
    let rest : drop i xs ≡ x ∷ drop (i + 1) xs = rw (get_or_from_slice_get xs i x x is) at (drop_more xs i x (slice_get_within xs i x is)) in
    sym (take-append-drop i xs) ∙ ap (λ (l : List Step). take i xs ++ l) rest

slice_get-split : (fine : List Step) (x : Step) (coarse : List Step) → slice_get (fine ++ x ∷ coarse) (length fine) ≡ Some x
slice_get-split [] x coarse = refl
slice_get-split (s ∷ fine) x coarse = slice_get-split fine x coarse

drop-beyond : (fine : List Step) (x : Step) (coarse : List Step) → drop (suc (length fine)) (fine ++ x ∷ coarse) ≡ coarse
drop-beyond [] x coarse = refl
drop-beyond (s ∷ fine) x coarse = drop-beyond fine x coarse

drop-split : (fine : List Step) (x : Step) (coarse : List Step) → drop (length fine + 1) (fine ++ x ∷ coarse) ≡ coarse
drop-split fine x coarse = rw (add-one (length fine)) (drop-beyond fine x coarse)

-- ---- from the one form to the other
splits_from : {t : Tables} {a b : Address} {e f : ℕ} → Touches t a e b f → Splits t a.digits e b.digits f
splits_from {t} {a} {b} {e} {f} h = record {
  fine_x = take h.below a.digits;
  fine_y = take h.below b.digits;
  x = h.x;
  y = h.y;
  coarse = drop (h.below + 1) a.digits;
  edge_x = h.edge_x;
  edge_y = h.edge_y;
  cuts_x = reverse h.cuts_x;
  cuts_y = reverse h.cuts_y;
  split_x = split_at a.digits h.below h.x h.digit_x;
  split_y = rw h.one_above (split_at b.digits h.below h.y h.digit_y);
  one_parent = h.one_parent;
  trace_x = lies_of h.trace_x;
  trace_y = lies_of h.trace_y;
  meet = h.meet;
  mirrored = AreMirrored-reverse h.cuts_x h.cuts_y h.mirrored;
}

-- the digits of both at one level
record OneLevel (s u : List Step) (x y : Step) (coarse : List Step) : Type 0 where
  depths : length (s ++ x ∷ coarse) ≡ length (u ++ y ∷ coarse)
  digit : slice_get (u ++ y ∷ coarse) (length s) ≡ Some y
  above : drop (length s + 1) (u ++ y ∷ coarse) ≡ coarse
  fine : take (length s) (u ++ y ∷ coarse) ≡ u

one_level : (s u : List Step) (x y : Step) (coarse : List Step) → length s ≡ length u → OneLevel s u x y coarse
one_level s u x y coarse same = record {
  depths = rw (length-append s (x ∷ coarse), length-append u (y ∷ coarse), same) refl;
  digit = rw same (slice_get-split u y coarse);
  above = rw same (drop-split u y coarse);
  fine = take_at u (y ∷ coarse) (length s) (sym same);
}

touches_from : {t : Tables} (a b : Address) {e f : ℕ} → Splits t a.digits e b.digits f → Touches t a e b f
touches_from {t} a b {e} {f} h =
    let same : length h.fine_x ≡ length h.fine_y = Lies-length h.trace_x
    ∙ AreMirrored-length h.cuts_x h.cuts_y h.mirrored ∙ sym (Lies-length h.trace_y) in
    let p = one_level h.fine_x h.fine_x h.x h.x h.coarse refl in
    let q = one_level h.fine_x h.fine_y h.x h.y h.coarse same in
    record {
      one_depth = rw (h.split_x, h.split_y) q.depths;
      below = length h.fine_x;
      x = h.x;
      y = h.y;
      digit_x = rw h.split_x p.digit;
      digit_y = rw h.split_y q.digit;
      one_parent = h.one_parent;
      one_above = rw (h.split_x, h.split_y) (p.above ∙ sym q.above);
      edge_x = h.edge_x;
      edge_y = h.edge_y;
      cuts_x = reverse h.cuts_x;
      cuts_y = reverse h.cuts_y;
      trace_x = rw (h.split_x, p.fine) (trace_of h.trace_x);
      trace_y = rw (h.split_y, q.fine) (trace_of h.trace_y);
      meet = h.meet;
      mirrored = AreMirrored-reverse h.cuts_x h.cuts_y h.mirrored;
    }

-- edges that meet touch
pub Touches-of : {t : Tables} (a b : Address) {e f : ℕ} → Meets t a.digits e b.digits f → Touches t a e b f
Touches-of a b meets = touches_from a b (splits_of meets)

-- edges that touch meet, and their types are mates
record Met (t : Tables) (k e l f : ℕ) (xs ys : List Step) : Type 0 where
  meets : Meets t xs e ys f
  mated : IsMated t k e l f

touch_start : (t : Tables) (k l e f : ℕ) (x y : Step) (coarse : List Step) → IsCoherent t
    → x.parent ≡ y.parent → contact_of t x.parent x.child e ≡ Some (inner y.child f)
    → child_kind_of t x.parent x.child ≡ Some k → child_kind_of t y.parent y.child ≡ Some l
    → IsSome (type_of t k e) → Met t k e l f (x ∷ coarse) (y ∷ coarse)
touch_start t k l e f x y coarse coherent parent met fits fits' edge =
    let m = inner_mated t x.parent x.child k e y.child f coherent fits edge met in
    let kind : child_kind_of t y.parent y.child ≡ Some m.0 = rw (← parent) m.1 in
    let same : m.0 ≡ l = let two : Some m.0 ≡ Some l = sym kind ∙ fits' in cc in
    let mated : IsMated t k e l f = rw (← same) m.2 in
    record { meets = as_children parent met; mated = mated }

touch_step : (t : Tables) (k l e f own other p q : ℕ) (s u : Step) (xs ys : List Step) → IsCoherent t
    → contact_of t s.parent s.child e ≡ Some (outer own p)
    → contact_of t u.parent u.child f ≡ Some (outer other q) → q + (p + 1) ≡ part_count t s.parent own
    → child_kind_of t s.parent s.child ≡ Some k → child_kind_of t u.parent u.child ≡ Some l
    → Met t s.parent own u.parent other xs ys → Met t k e l f (s ∷ xs) (u ∷ ys)
touch_step t k l e f own other p q s u xs ys coherent is is' mine fits fits' r =
    let its : q + (p + 1) ≡ part_count t u.parent other = mine ∙ same_parts t s.parent own u.parent other coherent r.mated in
    let a = across_part t s.parent own u.parent other s.child k e p q coherent r.mated fits is its in
    let one : a.below ≡ record { child = u.child; edge = f } =
    let two : Some a.below ≡ Some (record { child = u.child; edge = f }) = sym a.below_is
    ∙ (coherent.outer_part u.parent u.child f other q).0 is' in cc in
    let kind : child_kind_of t u.parent u.child ≡ Some a.kind = subst
    (λ (ce : ChildEdge). child_kind_of t u.parent ce.child ≡ Some a.kind) one a.kind_is in
    let kinds : a.kind ≡ l = let two : Some a.kind ≡ Some l = sym kind ∙ fits' in cc in
    let mated' : IsMated t k e a.kind f = subst (λ (ce : ChildEdge). IsMated t k e a.kind ce.edge) one a.mated in
    let mated : IsMated t k e l f = subst (λ (n : ℕ). IsMated t k e n f) kinds mated' in
    record { meets = as_parts is is' mine its r.meets; mated = mated }

touch_below : {t : Tables} {xs ys : List Step} {e f a b : ℕ} {cs ds : List Cut} (x y : Step) (coarse : List Step) (k l : ℕ) → IsCoherent t
    → Lies t e xs a cs → Lies t f ys b ds → AreMirrored cs ds → x.parent ≡ y.parent → contact_of t x.parent x.child a ≡ Some (inner y.child b)
    → IsChain t k (xs ++ x ∷ coarse) → IsChain t l (ys ++ y ∷ coarse) → IsSome (type_of t k e)
    → Met t k e l f (xs ++ x ∷ coarse) (ys ++ y ∷ coarse)
touch_below {t} {e = e} {f = f} x y coarse k l coherent itself itself h parent met fits fits' edge
    = touch_start t k l e f x y coarse coherent parent met fits.0 fits'.0 edge
touch_below x y coarse k l coherent itself (on own parts rest) h parent met fits fits' edge = elim h [ ]
touch_below x y coarse k l coherent (on own parts rest) itself h parent met fits fits' edge = elim h [ ]
touch_below {t} {e = e} {f = f} x y coarse k l coherent (on {f = own} {s = s} {ds = xs} {c = c} is parts rest)
    (on {f = other} {s = u} {ds = ys} {c = d} is' parts' rest') h parent met fits fits' edge =
    touch_step t k l e f own other c.part d.part s u (xs ++ x ∷ coarse) (ys ++ y ∷ coarse) coherent is is' (h.0 ∙ parts) fits.0 fits'.0
    (touch_below x y coarse s.parent u.parent coherent rest rest' h.1 parent met fits.1 fits'.1
    (coherent.outer_edge s.parent s.child e own c.part is))

met_split : {t : Tables} {xs ys : List Step} {e f : ℕ} (k l : ℕ) → IsCoherent t → IsChain t k xs
    → IsChain t l ys → IsSome (type_of t k e) → Splits t xs e ys f → Met t k e l f xs ys
met_split k l coherent fits fits' edge h =
    rw (h.split_x, h.split_y) (touch_below h.x h.y h.coarse k l coherent h.trace_x h.trace_y h.mirrored
    h.one_parent h.meet (rw h.split_x at fits) (rw h.split_y at fits') edge)

met_of : {t : Tables} (a b : Address) {e f : ℕ} → IsCoherent t → Fits (child_kinds t) a
    → Fits (child_kinds t) b → IsSome (type_of t a.kind e) → Touches t a e b f
    → Met t a.kind e b.kind f a.digits b.digits
met_of {t} a b coherent fits fits' edge touches = met_split a.kind b.kind coherent (chain_of t a fits) (chain_of t b fits') edge (splits_from touches)

-- edges that touch meet
pub Meets-of : {t : Tables} (a b : Address) {e f : ℕ} → IsCoherent t → Fits (child_kinds t) a
    → Fits (child_kinds t) b → IsSome (type_of t a.kind e) → Touches t a e b f → Meets t a.digits e b.digits f
Meets-of a b coherent fits fits' edge touches = (met_of a b coherent fits fits' edge touches).meets

-- the types of edges that touch are mates
pub IsMated-of : {t : Tables} (a b : Address) {e f : ℕ} → IsCoherent t → Fits (child_kinds t) a
    → Fits (child_kinds t) b → IsSome (type_of t a.kind e) → Touches t a e b f → IsMated t a.kind e b.kind f
IsMated-of a b coherent fits fits' edge touches = (met_of a b coherent fits fits' edge touches).mated

address-eq : (a b : Address) → a.kind ≡ b.kind → a.digits ≡ b.digits → a ≡ b
address-eq a b k d = λ i. record { kind = k i; digits = d i }

-- a pair that is touched and fits is the only one
pub only_touching : {t : Tables} (a b : Address) (e f : ℕ) → IsCoherent t → Fits (child_kinds t) a
    → IsSome (type_of t a.kind e) → Touches t a e b f → Fits (child_kinds t) b → IsOnlyTouched t a e b f
only_touching {t} a b e f coherent fits edge touches fits' = record {
  touched = touches;
  fits = fits';
  only = λ c g fits'' other.
      let s = Meets-unique c.kind b.kind coherent (Meets-of a c coherent fits fits'' edge other)
      (Meets-of a b coherent fits fits' edge touches) (chain_of t c fits'') (chain_of t b fits') in
      (address-eq c b s.kinds s.digits, s.edges);
}

-- what is touched touches back
pub Touches-sym : {t : Tables} (a b : Address) {e f : ℕ} → IsCoherent t → Fits (child_kinds t) a
    → Fits (child_kinds t) b → IsSome (type_of t a.kind e) → Touches t a e b f → Touches t b f a e
Touches-sym a b coherent fits fits' edge touches = Touches-of b a (Meets-sym coherent (Meets-of a b coherent fits fits' edge touches))

-- an edge that lies on the top's edge touches none
pub trace_excludes_touch : {t : Tables} (a b : Address) {e f top : ℕ} {cuts : List Cut} → IsCoherent t
    → Fits (child_kinds t) a → Fits (child_kinds t) b → IsSome (type_of t a.kind e)
    → HasTrace t a e top cuts → Touches t a e b f → ⊥
trace_excludes_touch a b coherent fits fits' edge trace touches = Lies-Meets (lies_of trace) (Meets-of a b coherent fits fits' edge touches)
