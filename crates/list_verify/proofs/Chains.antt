-- Chains of lines in a bucket.
use Rattle.std.proofs.Common.{◌≡◌, inl, inr, ◌⊎◌, ℕ, zero, suc, ◌<◌, ◌≤◌, Bool, true, false, cond, nat_eq, List, [], ◌∷◌, length, get_or, slice_get, Option, Some, None, refl, sym, ap, ◌∙◌, subst, arith, eqb-true}
use Rattle.std.proofs.lemmas.Bool.{eq-eqb, cases_lt}
use Rattle.std.proofs.lemmas.List.{length-map}
use Rattle.theory_addresses.specs.Address.{Address}
use Rattle.tile_shape.specs.Views.{address_of}
use Rattle.listing_text.specs.declared.entry.Entry.{Entry}
use Rattle.list_verify.specs.declared.line_index.Buckets.{Buckets}
use Rattle.list_verify.specs.LineIndex.{bucket_of, buckets_of, last_in, HasAddress}

-- how many links a chain may still have
abbrev pub links : Option ℕ → ℕ
links None = 0
links (Some n) = suc n

pub record IsLast (places : List ℕ) (place n i : ℕ) : Type 0 where
  pub below : i < n
  pub in_place : get_or places i (suc place) ≡ place
  pub last : (j : ℕ) → i < j → j < n → get_or places j (suc place) ≡ place → ⊥

none_below : (j : ℕ) → j < 0 → ⊥
none_below j h = omega arith

pub below_or : (j n : ℕ) → j < suc n → (j ≡ n) ⊎ (j < n)
below_or j n h = at (nat_eq j n) refl
  where
    at : (b : Bool) → nat_eq j n ≡ b → (j ≡ n) ⊎ (j < n)
    at true e = inl (eqb-true j n e)
    at false e = inr (less (λ s. absurd (cc (sym e ∙ eq-eqb j n s))))
      where
        less : (j ≡ n → ⊥) → j < n
        less k = omega arith

pub last-some : (places : List ℕ) (place n i : ℕ) → last_in places place n ≡ Some i → IsLast places place n i
last-some places place zero i e = absurd (cc e)
last-some places place (suc n) i e = at (λ h. last-some places place n i h) (nat_eq (get_or places n (suc place)) place) refl
  where
    inside : {x y : ℕ} → Some x ≡ Some y → x ≡ y
    inside e = cc (e)

    at : (last_in places place n ≡ Some i → IsLast places place n i) → (b : Bool)
        → nat_eq (get_or places n (suc place)) place ≡ b → IsLast places place (suc n) i
    at again true h =
        let same : n ≡ i = inside (ap (λ b. cond b (Some n) (last_in places place n)) (sym h) ∙ e) in
        subst (IsLast places place (suc n)) same
        (record {
          below = omega arith;
          in_place = eqb-true _ _ h;
          last = λ j l k q. absurd (between j n l k);
        })
      where
        between : (j n : ℕ) → n < j → j < suc n → ⊥
        between j n l k = omega arith
    at again false h =
        let more : IsLast places place n i = again (ap (λ b. cond b (Some n) (last_in places place n)) (sym h) ∙ e) in
        record { below = let l = more.below in omega arith; in_place = more.in_place; last = λ j l k q. later more j l (below_or j n k) q }
      where
        later : IsLast places place n i → (j : ℕ) → i < j → (j ≡ n) ⊎ (j < n) → get_or places j (suc place) ≡ place → ⊥
        later more j l (inl s) q = absurd (cc (sym h ∙ eq-eqb _ _ (ap (λ k. get_or places k (suc place)) (sym s) ∙ q)))
        later more j l (inr k) q = absurd (more.last j l k q)

pub last-none : (places : List ℕ) (place n : ℕ) → last_in places place n ≡ None → (j : ℕ) → j < n → get_or places j (suc place) ≡ place → ⊥
last-none places place zero e j l q = absurd (none_below j l)
last-none places place (suc n) e j l q = at (λ h k. last-none places place n h j k q)
    (nat_eq (get_or places n (suc place)) place) refl (below_or j n l)
  where
    at : (last_in places place n ≡ None → j < n → ⊥) → (b : Bool) → nat_eq (get_or places n (suc place)) place ≡ b → (j ≡ n) ⊎ (j < n) → ⊥
    at again true h k = absurd (cc (ap (λ b. cond b (Some n) (last_in places place n)) (sym h) ∙ e))
    at again false h (inl s) = absurd (cc (sym h ∙ eq-eqb _ _ (ap (λ k. get_or places k (suc place)) (sym s) ∙ q)))
    at again false h (inr k) = absurd (again (ap (λ b. cond b (Some n) (last_in places place n)) (sym h) ∙ e) k)

-- ---- the bucket of a line
pub line-bucket : (buckets : Buckets) (lines : List Entry) (i d : ℕ) (e : Entry) → slice_get lines i ≡ Some e
    → get_or (buckets_of buckets lines) i d ≡ bucket_of buckets (address_of e.address)
line-bucket buckets [] i d e h = absurd (cc h)
line-bucket buckets (x ∷ xs) zero d e h = ap (λ (y : Entry). bucket_of buckets (address_of y.address)) (inside h)
  where
    inside : {x y : Entry} → Some x ≡ Some y → x ≡ y
    inside e = cc (e)
line-bucket buckets (x ∷ xs) (suc i) d e h = line-bucket buckets xs i d e h

pub has-bucket : (buckets : Buckets) (lines : List Entry) (i d : ℕ) (a : Address) → HasAddress lines i a
    → get_or (buckets_of buckets lines) i d ≡ bucket_of buckets a
has-bucket buckets lines i d a h = line-bucket buckets lines i d h.0 h.1 ∙ ap (bucket_of buckets) h.2

-- in a list, whatever the default is
pub same-default : (places : List ℕ) (i c d : ℕ) → i < length places → get_or places i c ≡ get_or places i d
same-default [] i c d h = absurd (none_below i h)
same-default (p ∷ ps) zero c d h = refl
same-default (p ∷ ps) (suc i) c d h = same-default ps i c d (omega arith)

-- ---- one link
-- of a chain that comes to line i, which hasn't the address, none from i on has it
pub onward : (buckets : Buckets) (lines : List Entry) (a : Address) (n k i : ℕ) → k ≤ length lines → n ≤ k
    → last_in (buckets_of buckets lines) (bucket_of buckets a) n ≡ Some i
    → (¬ HasAddress lines i a) → ((j : ℕ) → n ≤ j → j < k → ¬ HasAddress lines j a) → (j : ℕ) → i ≤ j → j < k → ¬ HasAddress lines j a
onward buckets lines a n k i short low e none beyond j l m has = at (below_or_same i j l)
  where
    last : IsLast (buckets_of buckets lines) (bucket_of buckets a) n i
    last = last-some (buckets_of buckets lines) (bucket_of buckets a) n i e

    below_or_same : (i j : ℕ) → i ≤ j → (i ≡ j) ⊎ (i < j)
    below_or_same i j l = below_or i j (omega arith)

    at_n : (j < n) ⊎ (n ≤ j) → i < j → ⊥
    at_n (inl k) above = absurd (last.last j above k (has-bucket buckets lines j (suc (bucket_of buckets a)) a has))
    at_n (inr k) above = absurd (beyond j k m has)

    at : (i ≡ j) ⊎ (i < j) → ⊥
    at (inl s) = absurd (none (subst (λ q. HasAddress lines q a) (sym s) has))
    at (inr above) = at_n (cases j n) above
      where
        cases : (j n : ℕ) → (j < n) ⊎ (n ≤ j)
        cases j n = cases_lt j n

-- the next link
pub next-link : (buckets : Buckets) (lines : List Entry) (a : Address) (n i : ℕ) → n ≤ length lines
    → last_in (buckets_of buckets lines) (bucket_of buckets a) n ≡ Some i
    → get_or (buckets_of buckets lines) i 0 ≡ bucket_of buckets a
next-link buckets lines a n i short e =
    let last : IsLast (buckets_of buckets lines) (bucket_of buckets a) n i = last-some (buckets_of buckets lines) (bucket_of buckets a) n i e in
    same-default (buckets_of buckets lines) i 0 (suc (bucket_of buckets a)) (less last.below) ∙ last.in_place
  where
    less : i < n → i < length (buckets_of buckets lines)
    less h = let m = length-map lines (λ (e : Entry). bucket_of buckets (address_of e.address)) in omega arith

-- the chain before line n has no more links than that
pub shorter : (places : List ℕ) (place n : ℕ) (o : Option ℕ) → o ≡ last_in places place n → links o ≤ n
shorter places place n None e = omega arith
shorter places place n (Some i) e = (last-some places place n i (sym e)).below

-- what stands in a list at a number
pub slice_get-at : {A : Type 0} (xs : List A) (i : ℕ) (x d : A) → i < length xs → x ≡ get_or xs i d → slice_get xs i ≡ Some x
slice_get-at [] i x d h e = absurd (none_below i h)
slice_get-at (y ∷ ys) zero x d h e = ap (λ z. Some z) (sym e)
slice_get-at (y ∷ ys) (suc i) x d h e = slice_get-at ys i x d (omega arith) e

pub get_or-at : {A : Type 0} (xs : List A) (i : ℕ) (x d : A) → slice_get xs i ≡ Some x → get_or xs i d ≡ x
get_or-at [] i x d h = absurd (cc h)
get_or-at (y ∷ ys) zero x d h = inside h
  where
    inside : {B : Type 0} {p q : B} → Some p ≡ Some q → p ≡ q
    inside e = cc (e)
get_or-at (y ∷ ys) (suc i) x d h = get_or-at ys i x d h

-- where the chain is at its end, no line has the address
pub none-left : (buckets : Buckets) (lines : List Entry) (a : Address) (n k : ℕ) → last_in (buckets_of buckets lines) (bucket_of buckets a) n ≡ None
    → ((j : ℕ) → n ≤ j → j < k → ¬ HasAddress lines j a) → (j : ℕ) → j < k → ¬ HasAddress lines j a
none-left buckets lines a n k e beyond j l has = at (cases_lt j n)
  where
    at : (j < n) ⊎ (n ≤ j) → ⊥
    at (inl h) = absurd (last-none (buckets_of buckets lines) (bucket_of buckets a) n e j h
        (has-bucket buckets lines j (suc (bucket_of buckets a)) a has))
    at (inr h) = absurd (beyond j h l has)

pub get_or-default : {A : Type 0} (xs : List A) (i : ℕ) (c d : A) → i < length xs → get_or xs i c ≡ get_or xs i d
get_or-default [] i c d h = absurd (none_below i h)
get_or-default (p ∷ ps) zero c d h = refl
get_or-default (p ∷ ps) (suc i) c d h = get_or-default ps i c d (omega arith)
