-- Traces digit by digit from the fine end, and that an edge has at most one.
use Rattle.std.proofs.Common.{◌≡◌, ℕ, suc, List, [], ◌∷◌, ◌++◌, length, reverse, Some, sym, ap, ◌∙◌, refl, subst}
use Rattle.std.proofs.lemmas.List.{reverse-append, reverse-reverse}
use Rattle.theory_addresses.specs.Address.{Step}
use Rattle.theory_addresses.specs.Contact.{outer}
use Rattle.theory_addresses.specs.Tables.{Tables, contact_of, part_count}
use Rattle.theory_addresses.specs.Trace.{Cut, IsTrace, bare, further}

-- edge e lies on that edge of the top by these cuts, the finest first
pub data Lies (t : Tables) : ℕ → List Step → ℕ → List Cut → Type 0 where
  itself : {e : ℕ} → Lies t e [] e []
  on : {e f top : ℕ} {s : Step} {ds : List Step} {c : Cut} {cuts : List Cut}
      → contact_of t s.parent s.child e ≡ Some (outer f c.part)
      → c.parts ≡ part_count t s.parent f
      → Lies t f ds top cuts
      → Lies t e (s ∷ ds) top (c ∷ cuts)

-- one more digit at the coarse end
pub Lies-snoc : {t : Tables} {e top : ℕ} {ds : List Step} {cuts : List Cut} (s : Step) (f : ℕ) (c : Cut) → Lies t e ds top cuts
    → contact_of t s.parent s.child top ≡ Some (outer f c.part) → c.parts ≡ part_count t s.parent f
    → Lies t e (ds ++ s ∷ []) f (cuts ++ c ∷ [])
Lies-snoc s f c itself own parts = on own parts itself
Lies-snoc s f c (on own' parts' rest) own parts = on own' parts' (Lies-snoc s f c rest own parts)

-- and the last digit taken off again
pub record Snoc (t : Tables) (e : ℕ) (ds : List Step) (s : Step) (f : ℕ) (cuts : List Cut) : Type 0 where
  pub below : ℕ
  pub last : Cut
  pub others : List Cut
  pub rest : Lies t e ds below others
  pub own : contact_of t s.parent s.child below ≡ Some (outer f last.part)
  pub parts : last.parts ≡ part_count t s.parent f
  pub cuts_are : cuts ≡ others ++ last ∷ []

pub Lies-unsnoc : {t : Tables} {e f : ℕ} {cuts : List Cut} (ds : List Step) (s : Step) → Lies t e (ds ++ s ∷ []) f cuts → Snoc t e ds s f cuts
Lies-unsnoc [] s (on {e = e} {c = c} own parts itself) = record
    { below = e; last = c; others = []; rest = itself; own = own; parts = parts; cuts_are = refl }
Lies-unsnoc (d ∷ ds) s (on {c = c} own parts rest) =
    let r = Lies-unsnoc ds s rest in
    record {
      below = r.below;
      last = r.last;
      others = c ∷ r.others;
      rest = on own parts r.rest;
      own = r.own;
      parts = r.parts;
      cuts_are = ap (λ (l : List Cut). c ∷ l) r.cuts_are;
    }

cut-eq : (c d : Cut) → c.part ≡ d.part → c.parts ≡ d.parts → c ≡ d
cut-eq c d p n = let go : (a b : ℕ) → a ≡ d.part → b ≡ d.parts → ◌≡◌ {A = Cut} (record { part = a; parts = b }) d
    = λ a b ha hb. rw (ha, hb) refl in go c.part c.parts p n

-- an edge lies in one way
pub Lies-unique : {t : Tables} {e a b : ℕ} {ds : List Step} {cs cs' : List Cut} → Lies t e ds a cs → Lies t e ds b cs' → (a ≡ b) × (cs ≡ cs')
Lies-unique itself itself = (refl, refl)
Lies-unique {t} {b = b} (on {f = f} {s = s} {ds = ds} {c = c} {cuts = cs} own parts rest) (on {f = f'} {c = c'} {cuts = cs'} own' parts' rest') =
    let same : f ≡ f' = cc in
    let part : c.part ≡ c'.part = cc in
    let rest'' : Lies t f ds b cs' = rw same rest' in
    let r = Lies-unique rest rest'' in
    let cut = cut-eq c c' part (parts ∙ ap (part_count t s.parent) same ∙ sym parts') in
    (r.0, rw (cut, r.1) refl)

-- as many cuts as digits
pub Lies-length : {t : Tables} {e a : ℕ} {ds : List Step} {cs : List Cut} → Lies t e ds a cs → length ds ≡ length cs
Lies-length itself = refl
Lies-length (on own parts rest) = ap suc (Lies-length rest)

pub reverse_cons : {A : Type 0} (x : A) (xs : List A) → reverse (x ∷ xs) ≡ reverse xs ++ x ∷ []
reverse_cons x xs = reverse-append (x ∷ []) xs

-- a trace, from the fine end
pub lies_of : {t : Tables} {e top : ℕ} {ds : List Step} {cuts : List Cut} → IsTrace t e ds top cuts → Lies t e ds top (reverse cuts)
lies_of bare = itself
lies_of {t} {e} (further {fine = fine} {own = own} {f = f} {p = p} {cuts = cuts} d rest is met) =
    let cut : Cut = record { part = p; parts = part_count t d.parent f } in
    rw (is, reverse_cons cut cuts) (Lies-snoc d f cut (lies_of rest) met refl)

-- one more digit at the fine end of a trace
finer : {t : Tables} {e f top : ℕ} {ds : List Step} {cuts : List Cut} (s : Step) (p : ℕ)
    → contact_of t s.parent s.child e ≡ Some (outer f p) → IsTrace t f ds top cuts
    → IsTrace t e (s ∷ ds) top (cuts ++ record { part = p; parts = part_count t s.parent f } ∷ [])
finer s p met bare = further s bare refl met
finer s p met (further {fine = fine} d rest is own) = further d (finer s p met rest) (ap (λ (l : List Step). s ∷ l) is) own

-- and back
pub trace_of : {t : Tables} {e top : ℕ} {ds : List Step} {cuts : List Cut} → Lies t e ds top cuts → IsTrace t e ds top (reverse cuts)
trace_of itself = bare
trace_of {t} (on {e = e} {f = f} {top = z} {s = s} {ds = ds} {c = c} {cuts = cuts} own parts rest) =
    let cut = cut-eq (record { part = c.part; parts = part_count t s.parent f }) c refl (sym parts) in
    let longer = finer s c.part own (trace_of rest) in
    rw (reverse_cons c cuts) (subst (λ (x : Cut). IsTrace t e (s ∷ ds) z (reverse cuts ++ x ∷ [])) cut longer)

-- an edge has one trace
pub IsTrace-unique : {t : Tables} {e a b : ℕ} {ds : List Step} {cs cs' : List Cut} → IsTrace t e ds a cs → IsTrace t e ds b cs' → (a ≡ b) × (cs ≡ cs')
IsTrace-unique {cs = cs} {cs' = cs'} h k =
    let r = Lies-unique (lies_of h) (lies_of k) in
    (r.0, sym (reverse-reverse cs) ∙ ap reverse r.1 ∙ reverse-reverse cs')
