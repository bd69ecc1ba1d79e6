-- The corner after another and before it are determined, so a turn that hasn't come back visits no tile twice.
use Rattle.std.proofs.Common.{◌≡◌, inl, inr, List, [], ◌∷◌, length, slice_get, Some, refl, sym, ap, ◌∙◌, subst}
use Rattle.theory_ring.specs.Ring.{Laws}
use Rattle.theory_ring.specs.Sign.{Signed, OrderLaws}
use Rattle.theory_plane.specs.Plane.{PlanePoint}
use Rattle.theory_addresses.specs.Search.{IsAmong}
use Rattle.theory_addresses.proofs.Ranges.{place-among}
use Rattle.theory_windows.specs.Distinct.{AreDistinct}
use Rattle.theory_windows.specs.Outlines.{PlaneEdge, edges}
use Rattle.theory_windows.specs.Patch.{Patch}
use Rattle.theory_windows.proofs.Members.{among-map}
use Rattle.theory_windows.proofs.Reverses.{reverse-is, reverse-turned}
use Rattle.theory_stars.specs.Corners.{Corner, IsCornerAt, edge_into, IsNext, Turns, last_corner, corner_tiles}
use Rattle.theory_stars.specs.Round.{IsSimplyDissected}
use Rattle.theory_stars.proofs.CornerNumbers.{some-same, one-number, out-start, into-edge}

pub same-corner : {T : Type 0} (c d : Corner T) → c.tile ≡ d.tile → c.vertex ≡ d.vertex → c ≡ d
same-corner c d e f = λ i. record { tile = e i; vertex = f i }

module _ (S : Signed) (L : Laws S.ops) (O : OrderLaws S) {T : Type 0} (P : Patch S T)
    (D : IsSimplyDissected S T P) (v : PlanePoint S.ops.carrier) where
  abbrev At : Corner T → Type 0
  At c = IsCornerAt S T P v c

  abbrev Next : Corner T → Corner T → Type 0
  Next c d = IsNext S T P c d

  abbrev outline : Corner T → List (PlanePoint S.ops.carrier)
  outline c = P.outline c.tile

  -- ---- the two edges at v of a corner's tile
  pub into-ends : (c : Corner T) → At c → (e : PlaneEdge S)
      → slice_get (edges (outline c)) (edge_into (length (outline c)) c.vertex) ≡ Some e → e.to ≡ v
  into-ends c h e k =
      let m = into-edge (outline c) c.vertex v h.1 in
      ap (λ (d : PlaneEdge S). d.to) (some-same e m.0 (sym k ∙ m.1)) ∙ m.2

  pub out-is : (c d : Corner T) (n : Next c d) → n.out ≡ record { from = n.into.to; to = n.into.from }
  out-is c d n = reverse-is S L O n.into n.out n.back

  pub into-is : (c d : Corner T) (n : Next c d) → n.into ≡ record { from = n.out.to; to = n.out.from }
  into-is c d n = reverse-is S L O n.out n.into (sym (reverse-turned S L O n.into n.out) ∙ n.back)

  into-among : (c d : Corner T) (n : Next c d) → IsAmong n.into (edges (outline c))
  into-among c d n = place-among n.into (edges (outline c)) _ n.ends

  out-among : (c d : Corner T) (n : Next c d) → IsAmong n.out (edges (outline d))
  out-among c d n = place-among n.out (edges (outline d)) _ n.starts

  pub next-at : (c d : Corner T) → At c → Next c d → At d
  next-at c d h n = (
    n.of_patch,
    out-start (outline d) d.vertex n.out n.starts ∙ ap Some (ap (λ (e : PlaneEdge S). e.from) (out-is c d n) ∙ into-ends c h n.into n.ends),
  )

  pub one-corner : (c d : Corner T) → At c → At d → c.tile ≡ d.tile → c ≡ d
  one-corner c d h k e =
      same-corner c d e (one-number (outline c) v c.vertex d.vertex (D.simple c.tile h.0).distinct h.1
      (ap (λ t. slice_get (P.outline t) d.vertex) e ∙ k.1))

  pub prev-only : (c b d : Corner T) → At c → At b → Next c d → Next b d → c ≡ b
  prev-only c b d h k m n =
      one-corner c b h k (D.dissected.one_owner c.tile b.tile h.0 k.0 m.into (into-among c d m)
      (subst (λ e. IsAmong e (edges (outline b))) same (into-among b d n)))
    where
      same : n.into ≡ m.into
      same = into-is b d n ∙ ap (λ (e : PlaneEdge S). record { from = e.to; to = e.from })
          (some-same n.out m.out (sym n.starts ∙ m.starts)) ∙ sym (into-is c d m)

  pub next-only : (c b d : Corner T) → At c → Next c b → Next c d → b ≡ d
  next-only c b d h m n =
      one-corner b d (next-at c b h m) (next-at c d h n)
      (D.dissected.one_owner b.tile d.tile m.of_patch n.of_patch m.out (out-among c b m)
      (subst (λ e. IsAmong e (edges (outline d))) same (out-among c d n)))
    where
      same : n.out ≡ m.out
      same = out-is c d n ∙ ap (λ (e : PlaneEdge S). record { from = e.to; to = e.from })
          (some-same n.into m.into (sym n.ends ∙ m.ends)) ∙ sym (out-is c b m)

  -- ---- along a turn
  pub turn-at : (c : Corner T) (ds : List (Corner T)) → At c → Turns S T P c ds → (d : Corner T) → IsAmong d (c ∷ ds) → At d
  turn-at c ds h t d (inl e) = subst At (sym e) h
  turn-at c [] h t d (inr i) = elim i [ ]
  turn-at c (b ∷ bs) h t d (inr i) = turn-at b bs (next-at c b h t.0) t.1 d i

  -- the one before
  pub before : (c : Corner T) (ds : List (Corner T)) → Turns S T P c ds → (d : Corner T) → IsAmong d ds
      → (b : Corner T) × IsAmong b (c ∷ ds) × Next b d
  before c [] t d i = elim i [ ]
  before c (b ∷ bs) t d (inl e) = (c, inl refl, subst (Next c) (sym e) t.0)
  before c (b ∷ bs) t d (inr i) = let m = before b bs t.1 d i in (m.0, inr m.1, m.2)

  -- the one after, where the last leads to base
  pub after : (base c : Corner T) (ds : List (Corner T)) → Turns S T P c ds → Next (last_corner c ds) base
      → (d : Corner T) → IsAmong d (c ∷ ds) → (b : Corner T) × IsAmong b (base ∷ ds) × Next d b
  after base c [] t back d (inl e) = (base, inl refl, subst (λ a. Next a base) (sym e) back)
  after base c [] t back d (inr i) = elim i [ ]
  after base c (b ∷ bs) t back d (inl e) = (b, inr (inl refl), subst (λ a. Next a b) (sym e) t.0)
  after base c (b ∷ bs) t back d (inr i) = let m = after base b bs t.1 back d i in (m.0, wider m.0 m.1, m.2)
    where
      wider : (x : Corner T) → IsAmong x (base ∷ bs) → IsAmong x (base ∷ (b ∷ bs))
      wider x (inl e) = inl e
      wider x (inr i) = inr (inr i)

  pub last-among : (c : Corner T) (ds : List (Corner T)) → IsAmong (last_corner c ds) (c ∷ ds)
  last-among c [] = inl refl
  last-among c (d ∷ ds) = inr (last-among d ds)

  -- ---- none comes twice
  distinct-from : (b c : Corner T) (ds : List (Corner T)) → At b → At c → Next b c → Turns S T P c ds
      → (IsAmong b (c ∷ ds) → ⊥) → AreDistinct (c ∷ ds)
  distinct-from b c [] hb hc n t h = (λ i. elim i [ ], tt)
  distinct-from b c (d ∷ ds) hb hc n t h =
      let fresh : IsAmong c (d ∷ ds) → ⊥ = λ i. again (before c (d ∷ ds) t c i) in
      (fresh, distinct-from c d ds hc (next-at c d hc t.0) t.0 t.1 fresh)
    where
      again : (a : Corner T) × IsAmong a (c ∷ (d ∷ ds)) × Next a c → ⊥
      again m = h (subst (λ a. IsAmong a (c ∷ (d ∷ ds))) (prev-only m.0 b c (turn-at c (d ∷ ds) hc t m.0 m.1) hb m.2 n) m.1)

  pub distinct-turn : (base : Corner T) (others : List (Corner T)) → At base → Turns S T P base others
      → (IsAmong base others → ⊥) → AreDistinct (base ∷ others)
  distinct-turn base [] h t first = (first, tt)
  distinct-turn base (c ∷ cs) h t first = (first, distinct-from base c cs h (next-at base c h t.0) t.0 t.1 first)

  pub distinct-tiles : (cs : List (Corner T)) → ((c : Corner T) → IsAmong c cs → At c) → AreDistinct cs → AreDistinct (corner_tiles cs)
  distinct-tiles [] at d = tt
  distinct-tiles (c ∷ cs) at d = (
    λ i. twice (among-map (λ (b : Corner T). b.tile) c.tile cs i),
    distinct-tiles cs (λ b i. at b (inr i)) d.1,
  )
    where
      twice : (b : Corner T) × IsAmong b cs × (c.tile ≡ b.tile) → ⊥
      twice m = absurd (d.0 (subst (λ b. IsAmong b cs) (sym (one-corner c m.0 (at c (inl refl)) (at m.0 (inr m.1)) m.2)) m.1))
