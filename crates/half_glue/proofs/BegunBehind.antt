-- A list that begins behind one of its entries, and ends with it.
use Rattle.std.proofs.Common.{◌≡◌, ℕ, zero, suc, ◌-◌, ◌<◌, ◌≤◌, List, [], ◌∷◌, ◌++◌, length, get_or, take, drop, cond, nat_lt, Bool, true, false, refl, sym, ap, ap₂, ◌∙◌, arith, append_assoc, length-append, take-suc}
use Rattle.std.proofs.lemmas.Bool.{ltb-true, ltb-false}
use Rattle.std.proofs.Math.ListN.{drop_of_length-le}
use Rattle.std.proofs.Math.Seq.{drop-cons, take-append_seam}
use Rattle.half_glue.specs.Outline.{begun_behind, inner_of}

-- the number behind e, and the first one behind the last
abbrev pub behind : {A : Type 0} → List A → ℕ → ℕ
behind xs e = cond (nat_lt (suc e) (length xs)) (suc e) 0

-- it begins with the entry behind number e, and then come others and number e
pub record HasBegun {A : Type 0} (o : A) (xs : List A) (e next : ℕ) : Type 0 where
  pub others : List A
  pub is : begun_behind e xs ≡ get_or xs next o ∷ (others ++ get_or xs e o ∷ [])

pub has-begun : {A : Type 0} (o : A) (xs : List A) (e : ℕ) → e < length xs → 2 ≤ length xs → HasBegun o xs e (behind xs e)
has-begun {A} o xs e l two = at_test (nat_lt (suc e) (length xs)) refl
  where
    -- number e isn't the last
    on : suc e < length xs → HasBegun o xs e (suc e)
    on more = record {
      others = drop (suc (suc e)) xs ++ take e xs;
      is = ap₂ (λ (ys zs : List A). ys ++ zs) (drop-cons xs (suc e) o more) (take-suc xs e o l)
          ∙ ap (λ (ys : List A). get_or xs (suc e) o ∷ ys) (sym (append_assoc (drop (suc (suc e)) xs) (take e xs) (get_or xs e o ∷ [])));
    }

    -- it is the last, behind the first
    round : (ys : List A) (k : ℕ) → length ys ≡ suc k → 2 ≤ length ys → HasBegun o ys k 0
    round [] k last some = absurd (omega (arith, some))
    round (y ∷ ys) zero last some = absurd (omega (arith, last, some))
    round (y ∷ ys) (suc k) last some = record {
      others = take k ys;
      is = ap₂ (λ (us zs : List A). us ++ zs) (drop_of_length-le (y ∷ ys) {i = suc (suc k)}
          (omega (arith, last))) (take-suc (y ∷ ys) (suc k) o (omega (arith, last)));
    }

    at_test : (b : Bool) → nat_lt (suc e) (length xs) ≡ b → HasBegun o xs e (cond b (suc e) 0)
    at_test true h = on (ltb-true (suc e) (length xs) h)
    at_test false h = round xs e (omega (arith, l, ltb-false (suc e) (length xs) h)) two

-- what stands between the first entry and the last
pub inner : {A : Type 0} (x : A) (ys : List A) (z : A) → inner_of (x ∷ (ys ++ z ∷ [])) ≡ ys
inner {A} x ys z = ap (λ n. drop 1 (take n ((x ∷ ys) ++ z ∷ []))) count ∙ ap (drop 1) (take-append_seam (x ∷ ys) (z ∷ []))
  where
    count : length (x ∷ (ys ++ z ∷ [])) - 1 ≡ length (x ∷ ys)
    count = omega (arith, length-append ys (z ∷ []))
