-- Rows in one list with a fixed stride.
use Rattle.std.proofs.Common.{◌≡◌, inl, inr, ℕ, zero, suc, drop, replicate, ◌+◌, ◌-◌, ◌*◌, ◌<◌, ◌≤◌, List, [], ◌∷◌, ◌++◌, length, Some, sym, ap, ◌∙◌, arith, length-append}
use Rattle.std.specs.List.{slice_get}
use Rattle.std.proofs.lemmas.Bool.{cases_lt}
use Rattle.std.proofs.lemmas.Option.{slice_get_within}
use Rattle.theory_addresses.proofs.Ranges.{slice_get-append_left, slice_get-append_last}
use Rattle.transducer_core.specs.Merged.{AreSpread, AreFilled, no_row}

pub slice_get-append_right : {A : Type 0} (xs ys : List A) (j : ℕ) → slice_get (xs ++ ys) (length xs + j) ≡ slice_get ys j
slice_get-append_right [] ys j = let e : 0 + j ≡ j = omega arith in ap (slice_get ys) e
slice_get-append_right (x ∷ xs) ys j =
    let e : suc (length xs) + j ≡ suc (length xs + j) = omega arith in
    ap (slice_get (x ∷ (xs ++ ys))) e ∙ slice_get-append_right xs ys j

record Last {A : Type 0} (xs : List A) (x : A) (k : ℕ) (y : A) : Type 0 where
  place : k ≡ length xs
  is : y ≡ x

last_of : {A : Type 0} (xs : List A) (x : A) (k : ℕ) (y : A) → length xs ≤ k → slice_get (xs ++ x ∷ []) k ≡ Some y → Last xs x k y
last_of xs x k y far e =
    let inside = slice_get_within (xs ++ x ∷ []) k y e in
    let here : k ≡ length xs = omega (arith, inside, length-append xs (x ∷ []), far) in
    let two : Some y ≡ Some x = sym e ∙ ap (slice_get (xs ++ x ∷ [])) here ∙ slice_get-append_last xs x in
    record { place = here; is = cc }

pub spread_none : (flat : List ℕ) → AreSpread {A = ℕ} [] flat
spread_none flat = λ k c row x is there. absurd cc

pub spread_more : (done : List (List ℕ)) (row flat pad : List ℕ) → length flat ≡ 256 * length done
    → AreSpread done flat → AreSpread (done ++ row ∷ []) ((flat ++ row) ++ pad)
spread_more done row flat pad size h = λ k c line x is there. elim (cases_lt k (length done)) [
  | inl lt ↦
      let old = h k c line x (sym (slice_get-append_left done (row ∷ []) k lt) ∙ is) there in
      let inside = slice_get_within flat (256 * k + c) x old in
      let longer : 256 * k + c < length (flat ++ row) = omega (arith, inside, length-append flat row) in
      slice_get-append_left (flat ++ row) pad (256 * k + c) longer ∙ slice_get-append_left flat row (256 * k + c) inside ∙ old
  | inr ge ↦
      let last = last_of done row k line ge is in
      let there' : slice_get row c ≡ Some x = rw (← last.is) there in
      let inside = slice_get_within row c x there' in
      let place : 256 * k + c ≡ length flat + c = omega (arith, last.place, size) in
      let longer : 256 * k + c < length (flat ++ row) = omega (arith, inside, place, length-append flat row) in
      slice_get-append_left (flat ++ row) pad (256 * k + c) longer ∙ ap (slice_get (flat ++ row)) place ∙ slice_get-append_right flat row c ∙ there'
]

pub spread_grown : (done : List (List ℕ)) (row flat longer whole pad : List ℕ) → longer ≡ flat ++ row
    → whole ≡ longer ++ pad → length flat ≡ 256 * length done → AreSpread done flat
    → AreSpread (done ++ row ∷ []) whole
spread_grown done row flat longer whole pad a b size h = rw (b, a) (spread_more done row flat pad size h)

-- the rows so far fill the list, and so they do with one more
pub filled_none : AreFilled [] []
filled_none = record { size = omega arith; no_other = λ k c x small is other. absurd cc }

pub filled_more : (done : List (List ℕ)) (row flat pad : List ℕ) → length row + length pad ≡ 256
    → ((i x : ℕ) → slice_get pad i ≡ Some x → x ≡ no_row) → AreFilled done flat
    → AreFilled (done ++ row ∷ []) ((flat ++ row) ++ pad)
filled_more done row flat pad full blank h = record {
  size = omega (arith, h.size, full, length-append (flat ++ row) pad, length-append flat row, length-append done (row ∷ []));
  no_other = λ k c x small is other. elim (cases_lt (256 * k + c) (length flat)) [
    | inl lt ↦
        let longer : 256 * k + c < length (flat ++ row) = omega (arith, lt, length-append flat row) in
        let old : slice_get flat (256 * k + c) ≡ Some x = sym (slice_get-append_left flat row (256 * k + c) lt)
        ∙ sym (slice_get-append_left (flat ++ row) pad (256 * k + c) longer) ∙ is in
        let r = h.no_other k c x small old other in
        (r.0, slice_get-append_left done (row ∷ []) k (slice_get_within done k r.0 r.1) ∙ r.1, r.2)
    | inr ge ↦
        let inside = slice_get_within ((flat ++ row) ++ pad) (256 * k + c) x is in
        let here : k ≡ length done = omega (arith, ge, inside, h.size, full, small, length-append (flat ++ row) pad, length-append flat row) in
        let place : 256 * k + c ≡ length flat + c = omega (arith, here, h.size) in
        elim (cases_lt c (length row)) [
          | inl lt ↦
              let longer : 256 * k + c < length (flat ++ row) = omega (arith, lt, place, length-append flat row) in
              let its : slice_get row c ≡ Some x = sym (slice_get-append_right flat row c)
              ∙ ap (slice_get (flat ++ row)) (sym place)
              ∙ sym (slice_get-append_left (flat ++ row) pad (256 * k + c) longer) ∙ is in
              (row, ap (slice_get (done ++ row ∷ [])) here ∙ slice_get-append_last done row, its)
          | inr past ↦
              let behind : 256 * k + c ≡ length (flat ++ row) + (c - length row) = omega (arith, past, place, length-append flat row) in
              let its : slice_get pad (c - length row) ≡ Some x = sym (slice_get-append_right (flat ++ row) pad (c - length row))
              ∙ ap (slice_get ((flat ++ row) ++ pad)) (sym behind) ∙ is in
              absurd (other (blank (c - length row) x its))
        ]
  ];
}

pub filled_grown : (done : List (List ℕ)) (row flat longer whole pad : List ℕ) → longer ≡ flat ++ row
    → whole ≡ longer ++ pad → length row + length pad ≡ 256
    → ((i x : ℕ) → slice_get pad i ≡ Some x → x ≡ no_row) → AreFilled done flat
    → AreFilled (done ++ row ∷ []) whole
filled_grown done row flat longer whole pad a b full blank h = rw (b, a) (filled_more done row flat pad full blank h)

-- what is left of one number again and again is that number
pub left_same : (n m y i x : ℕ) → slice_get (drop n (replicate m y)) i ≡ Some x → x ≡ y
left_same zero zero y i x is = absurd cc
left_same zero (suc m) y zero x is = cc
left_same zero (suc m) y (suc i) x is = left_same zero m y i x is
left_same (suc n) zero y i x is = absurd cc
left_same (suc n) (suc m) y i x is = left_same n m y i x is
