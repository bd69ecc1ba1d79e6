-- A path leads to one end: to a tile, or to one edge that doesn't exist or is on the boundary.
use Rattle.std.proofs.Common.{◌≡◌, ℕ, List, [], ◌∷◌, ◌++◌, refl, sym, ◌∙◌, subst, arith}
use Rattle.theory_addresses.specs.Address.{Address}
use Rattle.theory_walks.specs.Paths.{Crosses, Leads, ComesTo, IsStoppedAt, LacksEdge}
use Rattle.rule_model.specs.Tiling.{Tiling}
use Rattle.tile_place.specs.Crossed.{IsOnlyAcross}
use Rattle.tile_place.proofs.OneAcross.{one_across}

head_is : (x y : ℕ) (xs ys : List ℕ) → x ∷ xs ≡ y ∷ ys → (x ≡ y) × (xs ≡ ys)
head_is x y xs ys e = (cc (e), cc (e))

no_cons : (x : ℕ) (xs front rest : List ℕ) → [] ≡ front ++ x ∷ rest → ⊥
no_cons x xs [] rest e = absurd (cc e)
no_cons x xs (y ∷ front) rest e = absurd (cc e)

-- at an edge that is never crossed a path halts
abbrev pub Halts : Tiling → Address → ℕ → Type 0
Halts t b e = (x : Address) (f : ℕ) → Crosses t b e x f → ⊥

-- a path that can be walked comes to no such edge
walked_comes : (t : Tiling) (a b c : Address) (e : ℕ) (path front rest : List ℕ) → Halts t c e → path ≡ front
    ++ e ∷ rest → Leads t a front c → Leads t a path b → ⊥
walked_comes t a b c e [] front rest halts split leads walked = no_cons e [] front rest split
walked_comes t a b c e (d ∷ path) [] rest halts split leads walked =
    halts walked.0 walked.1 (subst (λ x. Crosses t x e walked.0 walked.1) (sym leads)
    (subst (λ k. Crosses t a k walked.0 walked.1) (head_is d e path rest split).0 walked.2))
walked_comes t a b c e (d ∷ path) (k ∷ front) rest halts split leads walked =
    let same = head_is d k path (front ++ e ∷ rest) split in
    let one = one_across t a walked.0 leads.0 d walked.1 leads.1 walked.2.across
    (subst (λ i. IsOnlyAcross t a i leads.0 leads.1) (sym same.0) leads.2.across) in
    walked_comes t leads.0 b c e path front rest halts same.1 leads.3 (subst (λ x. Leads t x path b) one.0 walked.3)

pub walked_or_halted : (t : Tiling) (a b c : Address) (e : ℕ) (path : List ℕ) → Halts t c e → ComesTo t a path c e → Leads t a path b → ⊥
walked_or_halted t a b c e path halts comes walked = walked_comes t a b c e path comes.front comes.rest halts comes.split comes.leads walked

-- and it halts at one edge of one tile
halted_once : (t : Tiling) (a b c : Address) (e f : ℕ) (path front rest other rest' : List ℕ) → Halts t b e
    → Halts t c f → path ≡ front ++ e ∷ rest → path ≡ other ++ f ∷ rest'
    → Leads t a front b → Leads t a other c → (b ≡ c) × (e ≡ f)
halted_once t a b c e f path [] rest [] rest' h k split split' l m = (l ∙ sym m, (head_is e f rest rest' (sym split ∙ split')).0)
halted_once t a b c e f path [] rest (d ∷ other) rest' h k split split' l m =
    absurd (h m.0 m.1 (subst (λ x. Crosses t x e m.0 m.1) (sym l)
    (subst (λ i. Crosses t a i m.0 m.1) (sym
    (head_is e d rest (other ++ f ∷ rest') (sym split ∙ split')).0) m.2)))
halted_once t a b c e f path (d ∷ front) rest [] rest' h k split split' l m =
    absurd (k l.0 l.1 (subst (λ x. Crosses t x f l.0 l.1) (sym m)
    (subst (λ i. Crosses t a i l.0 l.1) (head_is d f (front ++ e ∷ rest) rest' (sym split ∙ split')).0
    l.2)))
halted_once t a b c e f path (d ∷ front) rest (g ∷ other) rest' h k split split' l m =
    let same = head_is d g (front ++ e ∷ rest) (other ++ f ∷ rest') (sym split ∙ split') in
    let one = one_across t a l.0 m.0 d l.1 m.1 l.2.across (subst (λ i. IsOnlyAcross t a i m.0 m.1) (sym same.0) m.2.across) in
    halted_once t m.0 b c e f (front ++ e ∷ rest) front rest other rest' h k refl same.1 (subst (λ x. Leads t x front b) one.0 l.3) m.3

pub halts_once : (t : Tiling) (a b c : Address) (e f : ℕ) (path : List ℕ) → Halts t b e → Halts t c f
    → ComesTo t a path b e → ComesTo t a path c f → (b ≡ c) × (e ≡ f)
halts_once t a b c e f path h k x y = halted_once t a b c e f path x.front x.rest y.front y.rest h k x.split y.split x.leads y.leads

-- an edge on the boundary is one such, and one that doesn't exist
pub stopped_halts : (t : Tiling) (a b : Address) (e : ℕ) (path : List ℕ) → IsStoppedAt t a path b e → Halts t b e
stopped_halts t a b e path h x f k = k.inside h.on_boundary

pub lacking_halts : (t : Tiling) (a : Address) (e edges : ℕ) (path : List ℕ) (h : LacksEdge t a path e edges) → Halts t h.tile e
lacking_halts t a e edges path h x f k = let below = k.edge_exists in let count = h.count in let beyond
    = h.beyond in omega (arith, below, count, beyond)
