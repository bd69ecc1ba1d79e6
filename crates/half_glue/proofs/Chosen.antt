-- Whole tiles by keys in order, each once.
use Rattle.std.proofs.Common.{◌≡◌, inl, inr, ℕ, zero, suc, ◌+◌, ◌*◌, ◌<◌, ◌≤◌, ◌^◌, List, [], ◌∷◌, ◌++◌, All, length, get_or, Bool, true, false, not, ◌&&◌, cond, nat_eq, nat_abs, ℤ, pos, refl, sym, ap, ap₂, ◌∙◌, subst, arith}
use Rattle.std.specs.List.{Contains}
use Rattle.std.specs.List.Sorted.{IsPermutation, IsSorted}
use Rattle.std.specs.Ordering.{int_cmp, is_lt}
use Rattle.std.specs.Cmp.Lexicographic.{slice_cmp}
use Rattle.std.proofs.lemmas.Bool.{and_parts, eqb-true}
use Rattle.std.proofs.lemmas.Bool.Decides.{Decides-eqb}
use Rattle.std.proofs.lemmas.List.{append-nil, get_or_default}
use Rattle.std.proofs.lemmas.Bool.{cases_lt}
use Rattle.std.proofs.lemmas.List.Elements.{All-nil, All-push}
use Rattle.std.proofs.lemmas.List.Sorted.{Contains-permutation, All-permutation}
use Rattle.tile_place.specs.Keys.{key_of, are_level, packed_pair}
use Rattle.tile_place.specs.declared.order_key.OrderKey.{OrderKey}
use Rattle.tile_place.proofs.KeyOrder.{comes-first, level-numbers}
use Rattle.half_glue.specs.declared.whole_tile.WholeTile.{WholeTile}
use Rattle.half_glue.specs.Arranged.{AreWholesArranged}
use Rattle.half_glue.specs.InOrder.{first_numbers, ComesBeforeWhole, AreWholesInOrder}
use Rattle.theory_addresses.specs.Search.{chosen_below}
use Rattle.half_glue.specs.Keys.{HasTileKey, first_keys, whole_order, no_key, is_new_key, whole_at}
use Rattle.half_glue.proofs.Keyed.{IsKeyOf, from-keys, key-there}
use Rattle.half_glue.proofs.Elements.{contains-left, contains-last}

-- the words of a key, by the numbers of its tile
abbrev high_of : List ℤ → ℕ
high_of ns = packed_pair (get_or ns 0 (pos 0)) (get_or ns 1 (pos 0))

abbrev low_of : List ℤ → ℕ
low_of ns = (packed_pair (get_or ns 2 (pos 0)) (get_or ns 3 (pos 0)) * 2 ^ 4 + nat_abs (get_or ns 4 (pos 0))) * 2 ^ 8 + nat_abs (get_or ns 5 (pos 0))

-- ---- the order, one whole tile more
in-order-push : (ws : List WholeTile) (v w : WholeTile) → AreWholesInOrder (ws ++ v ∷ []) → ComesBeforeWhole v w
    → AreWholesInOrder ((ws ++ v ∷ []) ++ w ∷ [])
in-order-push [] v w o b = (b, tt)
in-order-push (u ∷ []) v w o b = (o.0, (b, tt))
in-order-push (u ∷ x ∷ ws) v w o b = (o.0, in-order-push (x ∷ ws) v w o.1 b)

-- a key is the one of the whole tile that it numbers
abbrev IsKey : List WholeTile → OrderKey → Type 0
IsKey made = IsKeyOf (λ (w : WholeTile). w.first) made

module _ (made : List WholeTile) (fit : All (λ w. HasTileKey w.first) made) (ks : List OrderKey)
    (keys : All (IsKey made) ks) (sorted : IsSorted whole_order ks) (blank : WholeTile) where
  abbrev at : ℕ → WholeTile
  at i = whole_at made blank ks i

  abbrev key : ℕ → OrderKey
  key i = get_or ks i no_key

  abbrev chosen : ℕ → List WholeTile
  chosen n = chosen_below (is_new_key ks) at n

  numbered : (i : ℕ) → i < length ks → IsKey made (key i)
  numbered i l = keys i no_key l

  its-key : (i : ℕ) → i < length ks → key i ≡ key_of (at i).first.motion (at i).first.kind (key i).number
  its-key i l = (numbered i l).is blank

  has-key : (i : ℕ) → i < length ks → HasTileKey (at i).first
  has-key i l = fit (key i).number blank (numbered i l).below

  at-made : (i : ℕ) → i < length ks → Contains made (at i)
  at-made i l = ((key i).number, (numbered i l).below, get_or_default made (key i).number (at i) blank (numbered i l).below)

  -- of two keys next to each other, those that are level have the same numbers, and of others the first comes first
  level : (i : ℕ) → suc i < length ks → are_level (key (suc i)) (key i) ≡ true → first_numbers (at (suc i)) ≡ first_numbers (at i)
  level i l e =
      let both = and_parts (nat_eq (key (suc i)).high (key i).high) (nat_eq (key (suc i)).low (key i).low) e in
      level-numbers (at (suc i)).first.motion (at i).first.motion (at (suc i)).first.kind (at i).first.kind
      (key (suc i)) (key i) (has-key (suc i) l) (has-key i (omega (arith, l))) (its-key (suc i) l)
      (its-key i (omega (arith, l)))
      (eqb-true (key (suc i)).high (key i).high both.0) (eqb-true (key (suc i)).low (key i).low both.1)

  before : (i : ℕ) → suc i < length ks → are_level (key (suc i)) (key i) ≡ false → ComesBeforeWhole (at i) (at (suc i))
  before i l e =
      comes-first (at i).first.motion (at (suc i)).first.motion (at i).first.kind (at (suc i)).first.kind
      (key i) (key (suc i)) (has-key i (omega (arith, l))) (has-key (suc i) l)
      (its-key i (omega (arith, l))) (its-key (suc i) l) up (λ same. absurd (cc (sym e ∙ are-level same)))
    where
      up : is_lt (whole_order (key (suc i)) (key i)) ≡ false
      up = let next : i + 1 ≡ suc i = omega arith in subst (λ n. is_lt (whole_order (key n) (key i)) ≡ false)
          next (sorted i no_key (omega arith) (omega (arith, l)))

      are-level : first_numbers (at i) ≡ first_numbers (at (suc i)) → are_level (key (suc i)) (key i) ≡ true
      are-level same =
          let j = its-key (suc i) l in
          let k = its-key i (omega (arith, l)) in
          let high : (key (suc i)).high ≡ (key i).high = ap (λ (q : OrderKey). q.high) j
          ∙ ap high_of (sym same) ∙ sym (ap (λ (q : OrderKey). q.high) k) in
          let low : (key (suc i)).low ≡ (key i).low = ap (λ (q : OrderKey). q.low) j ∙ ap low_of (sym same) ∙ sym (ap (λ (q : OrderKey). q.low) k) in
          ap₂ (λ a b. a && b) ((Decides-eqb (key (suc i)).high (key i).high).1 high) ((Decides-eqb (key (suc i)).low (key i).low).1 low)

  -- the whole tiles chosen of the first keys: in order, the last of them with the numbers of the last key, and one with the numbers of each key
  pub record AreChosen (n : ℕ) : Type 0 where
    pub in_order : AreWholesInOrder (chosen n)
    pub from_made : All (λ w. Contains made w) (chosen n)
    pub each : (i : ℕ) → i < n → (w : WholeTile) × Contains (chosen n) w × (first_numbers w ≡ first_numbers (at i))
    pub last : (i : ℕ) → n ≡ suc i → (front : List WholeTile) × (w : WholeTile) × (chosen n ≡ front ++ w ∷ [])
        × (first_numbers w ≡ first_numbers (at i))

  -- one more
  taken : (n : ℕ) → n < length ks → AreChosen n → AreWholesInOrder (chosen n ++ at n ∷ []) → chosen (suc n) ≡ chosen n ++ at n ∷ []
      → AreChosen (suc n)
  taken n l c ordered e = record {
    in_order = subst AreWholesInOrder (sym e) ordered;
    from_made = subst (All (λ w. Contains made w)) (sym e) (All-push (λ w. Contains made w) (chosen n) (at n) c.from_made (at-made n l));
    each = λ i b. elim (cases_lt i n) [
      | inl k ↦ let f = c.each i k in (
        f.0,
        subst (λ (ws : List WholeTile). Contains ws f.0) (sym e)
            (contains-left (chosen n) (at n ∷ []) f.0 f.1),
        f.2,
      )
      | inr k ↦ let here : n ≡ i = omega (arith, b, k) in (
        at n,
        subst (λ (ws : List WholeTile). Contains ws (at n)) (sym e) (contains-last (chosen n) (at n)),
        ap (λ j. first_numbers (at j)) here,
      )
    ];
    last = λ i s. let here : n ≡ i = omega (arith, s) in (chosen n, at n, e, ap (λ j. first_numbers (at j)) here);
  }

  -- or one that is level with the one before
  passed : (i : ℕ) → suc i < length ks → AreChosen (suc i) → first_numbers (at (suc i)) ≡ first_numbers (at i)
      → chosen (suc (suc i)) ≡ chosen (suc i) → AreChosen (suc (suc i))
  passed i l c same e = record {
    in_order = subst AreWholesInOrder (sym e) c.in_order;
    from_made = subst (All (λ w. Contains made w)) (sym e) c.from_made;
    each = λ j b. elim (cases_lt j (suc i)) [
      | inl k ↦ let f = c.each j k in (f.0, subst (λ (ws : List WholeTile). Contains ws f.0) (sym e) f.1, f.2)
      | inr k ↦ let here : suc i ≡ j = omega (arith, b, k) in let f = c.each i (omega arith) in
          (f.0, subst (λ (ws : List WholeTile). Contains ws f.0) (sym e) f.1, f.2 ∙ sym same ∙ ap (λ p. first_numbers (at p)) here)
    ];
    last = λ j s. let here : suc i ≡ j = omega (arith, s) in let f = c.last i
        refl in (f.0, f.1, e ∙ f.2, f.3 ∙ sym same ∙ ap (λ p. first_numbers (at p)) here);
  }

  pub are-chosen : (n : ℕ) → n ≤ length ks → AreChosen n
  unfolding is_new_key
  are-chosen zero l = record {
    in_order = tt;
    from_made = All-nil (λ w. Contains made w);
    each = λ i b. absurd (omega (arith, b));
    last = λ i s. absurd (omega (arith, s));
  }
  are-chosen (suc zero) l = taken 0 (omega (arith, l)) (are-chosen zero (omega arith)) tt refl
  are-chosen (suc (suc i)) l = step (are_level (key (suc i)) (key i)) refl (are-chosen (suc i) (omega (arith, l)))
    where
      step : (b : Bool) → are_level (key (suc i)) (key i) ≡ b → AreChosen (suc i) → AreChosen (suc (suc i))
      step true e c = passed i (omega (arith, l)) c (level i (omega (arith, l)) e)
          (ap (λ b. chosen (suc i) ++ cond (not b) (at (suc i) ∷ []) []) e ∙ append-nil (chosen (suc i)))
      step false e c =
          let f = c.last i refl in
          let next : ComesBeforeWhole f.1 (at (suc i)) = ap
          (λ ns. slice_cmp int_cmp ns (first_numbers (at (suc i)))) f.3 ∙ before i (omega (arith, l)) e in
          taken (suc i) (omega (arith, l)) c
          (subst (λ (ws : List WholeTile). AreWholesInOrder (ws ++ at (suc i) ∷ [])) (sym f.2)
          (in-order-push f.0 f.1 (at (suc i)) (subst AreWholesInOrder f.2 c.in_order) next))
          (ap (λ b. chosen (suc i) ++ cond (not b) (at (suc i) ∷ []) []) e)

-- ---- all of them
pub arranged-in_order : (made : List WholeTile) → All (λ w. HasTileKey w.first) made → (ks : List OrderKey)
    → IsPermutation (first_keys made) ks → IsSorted whole_order ks → (blank : WholeTile)
    → AreWholesInOrder (chosen_below (is_new_key ks) (whole_at made blank ks) (length ks))
arranged-in_order made fit ks p sorted blank
    = (are-chosen made fit ks (All-permutation (IsKey made) (first_keys made) ks p
    (from-keys (λ (w : WholeTile). w.first) [] made 0 refl)) sorted blank (length ks) (omega arith)).in_order

pub arranged-same : (made : List WholeTile) → All (λ w. HasTileKey w.first) made → (ks : List OrderKey)
    → IsPermutation (first_keys made) ks → IsSorted whole_order ks → (blank : WholeTile)
    → AreWholesArranged made (chosen_below (is_new_key ks) (whole_at made blank ks) (length ks))
arranged-same made fit ks p sorted blank = record { from_made = all.from_made; each = each }
  where
    keys : All (IsKey made) ks
    keys = All-permutation (IsKey made) (first_keys made) ks p (from-keys (λ (w : WholeTile). w.first) [] made 0 refl)

    all : AreChosen made fit ks keys sorted blank (length ks)
    all = are-chosen made fit ks keys sorted blank (length ks) (omega arith)

    each : All (λ v. (w : WholeTile) × Contains
        (chosen_below (is_new_key ks) (whole_at made blank ks) (length ks)) w
        × (first_numbers w ≡ first_numbers v)) made
    each i d l =
        let k = key_of (get_or made i d).first.motion (get_or made i d).first.kind i in
        let plain : 0 + i ≡ i = omega arith in
        let own : Contains (first_keys made) k = subst (λ n. Contains (first_keys made) (key_of (get_or made i d).first.motion
        (get_or made i d).first.kind n)) plain (key-there (λ (w : WholeTile). w.first) made 0 i d l) in
        let there = Contains-permutation (first_keys made) ks k p own in
        let found = all.each there.0 there.1 in
        let key_is : get_or ks there.0 no_key ≡ k = get_or_default ks there.0 no_key k there.1 ∙ there.2 in
        let whole_is : whole_at made blank ks there.0 ≡ get_or made i d = ap
        (λ (q : OrderKey). get_or made q.number blank) key_is ∙ get_or_default made i blank d l in
        (found.0, found.1, found.2 ∙ ap first_numbers whole_is)

-- the keys number whole tiles
pub arranged-numbered : (made : List WholeTile) (ks : List OrderKey) → IsPermutation (first_keys made) ks
    → All (λ (k : OrderKey). k.number < length made) ks
arranged-numbered made ks p i d l = (All-permutation (IsKey made) (first_keys made) ks p
    (from-keys (λ (w : WholeTile). w.first) [] made 0 refl) i d l).below
