-- One more tile given is taken.
use Rattle.std.proofs.Common.{◌≡◌, inl, inr, ℕ, ◌+◌, ◌<◌, ◌≤◌, Bool, true, false, nat_lt, cond, List, [], ◌∷◌, ◌++◌, All, length, map, get_or, None, Some, refl, sym, ap, ◌∙◌, subst, arith, length-append, append_assoc}
use Rattle.std.specs.List.{Contains}
use Rattle.std.proofs.lemmas.Bool.{cases_lt, ltb-true, lt-ltb}
use Rattle.std.proofs.lemmas.List.{get_or_default}
use Rattle.std.proofs.lemmas.List.Elements.{All-nil, All-append}
use Rattle.std.proofs.Math.Seq.{get_or-append_seam}
use Rattle.rule_model.specs.Tiling.{Tiling}
use Rattle.tile_place.specs.declared.placed_tile.PlacedTile.{PlacedTile}
use Rattle.theory_walks.specs.Frames.{FrameValue}
use Rattle.half_glue.specs.declared.half.Found.{Found}
use Rattle.half_glue.specs.declared.half.Found.TheVariants.{Alone, Given, Crossed}
use Rattle.half_glue.specs.declared.pairs.Pair.{Pair}
use Rattle.half_glue.specs.declared.whole_tile.WholeTile.{WholeTile}
use Rattle.half_glue.specs.Found.{no_tile, given_tile, IsHalfFound}
use Rattle.half_glue.specs.Given.{IsGiven}
use Rattle.half_glue.specs.Pairs.{added_pairs, added_tiles, ArePresent, loose_of, IsEither, IsLoose, IsTaken}
use Rattle.half_glue.proofs.ArePaired.{ArePaired, same-all, more-present, map-joined, contains-right, the-first, one-of-all, still-taken}
use Rattle.half_glue.proofs.Elements.{get_or-front}
use Rattle.half_glue.proofs.GluedBack.{glued-back}

module _ (t : Tiling) (f : FrameValue) (tiles : List PlacedTile) (base i : ℕ) (below : i < length tiles)
    (crossed : List PlacedTile) (pairs : List Pair) (all : All (IsGiven t f) tiles)
    (h : ArePaired t f tiles base i crossed pairs) where
  abbrev own : PlacedTile
  own = given_tile tiles i

  among : Contains tiles own
  among = (i, below, get_or_default tiles i own no_tile below)

  -- what it brings
  module _ (added : List PlacedTile) (more : List Pair) where
    abbrev halves : List PlacedTile
    halves = tiles ++ (crossed ++ added)

    longer : halves ≡ (tiles ++ crossed) ++ added
    longer = sym (append_assoc tiles crossed added)

    before : map (loose_of halves) pairs ≡ map (loose_of (tiles ++ crossed)) pairs
    before = ap (λ hs. map (loose_of hs) pairs) longer ∙ same-all (tiles ++ crossed) added pairs h.present

    abbrev made : List WholeTile
    made = map (loose_of halves) more

    joined : map (loose_of halves) (pairs ++ more) ≡ map (loose_of (tiles ++ crossed)) pairs ++ made
    joined = map-joined (loose_of halves) pairs more ∙ ap (λ (ws : List WholeTile). ws ++ made) before

    at : (k : ℕ) → k < length tiles → given_tile halves k ≡ given_tile tiles k
    at k l = get_or-front tiles (crossed ++ added) k no_tile l

    taking : length added ≤ 1 → length more ≤ 1 → All (IsGiven t f) added
        → All (ArePresent (length halves)) more → All (IsLoose t f tiles) made → IsTaken t f tiles made own
        → ArePaired t f tiles base (i + 1) (crossed ++ added) (pairs ++ more)
    taking one two given present loose taken = record {
      few = omega (arith, h.few, two, length-append pairs more);
      few_crossed = omega (arith, h.few_crossed, one, length-append crossed added);
      given = subst (All (IsGiven t f)) (sym longer) (All-append (IsGiven t f) (tiles ++ crossed) added h.given given);
      present = All-append (ArePresent (length halves)) pairs more
          (λ k d l. more-present (length (tiles ++ crossed)) (length halves)
          (omega (arith, ap length longer, length-append (tiles ++ crossed) added)) (get_or pairs k d)
          (h.present k d l)) present;
      loose = subst (All (IsLoose t f tiles)) (sym joined)
          (All-append (IsLoose t f tiles) (map (loose_of (tiles ++ crossed)) pairs) made h.loose loose);
      taken = λ k l. subst (λ ws. IsTaken t f tiles ws (given_tile tiles k)) (sym joined) (elim (cases_lt k i) [
        | inl b ↦ still-taken t f tiles (map (loose_of (tiles ++ crossed)) pairs) made (given_tile tiles k) (h.taken k b)
        | inr b ↦ let same : i ≡ k = omega (arith, l, b) in subst
            (λ n. IsTaken t f tiles (map (loose_of (tiles ++ crossed)) pairs ++ made) (given_tile tiles n)) same
            (last taken)
      ]);
    }
      where
        last : IsTaken t f tiles made own → IsTaken t f tiles (map (loose_of (tiles ++ crossed)) pairs ++ made) own
        last (inl g) = inl (g.0, contains-right (map (loose_of (tiles ++ crossed)) pairs) made g.0 g.1, g.2)
        last (inr g) = inr g

    -- it is in the pair that it brings
    in-own : (p : Pair) → IsEither own (loose_of halves p).first (loose_of halves p).second
        → IsTaken t f tiles (loose_of halves p ∷ []) own
    in-own p is = inl (loose_of halves p, the-first (loose_of halves p), is)

    -- two tiles of these numbers
    two-loose : (n k : ℕ) (a b : PlacedTile) → given_tile halves n ≡ a → given_tile halves k ≡ b
        → loose_of halves (record { first = n; second = Some k }) ≡ record { first = a; second = Some b }
    two-loose n k a b e g = λ j. record { first = e j; second = Some (g j) }

  pub alone : IsHalfFound t f tiles own Alone → ArePaired t f tiles base (i + 1) (crossed ++ []) (pairs ++ added_pairs tiles i (length crossed) Alone)
  alone none =
      let p : Pair = record { first = i; second = None } in
      let w : WholeTile = record { first = own; second = None } in
      let is : loose_of (halves [] (p ∷ [])) p ≡ w = λ j. record { first = at [] (p ∷ []) i below j; second = None } in
      taking [] (p ∷ []) (omega arith) (omega arith) (All-nil (IsGiven t f))
      (one-of-all (ArePresent (length (halves [] (p ∷ [])))) p
      (record { first = omega (arith, below, length-append tiles (crossed ++ [])); second = tt }))
      (one-of-all (IsLoose t f tiles) (loose_of (halves [] (p ∷ [])) p)
      (subst (IsLoose t f tiles) (sym is) (record
      { glued = (all i no_tile below, none); of_given = (own, among, refl) })))
      (in-own [] (p ∷ []) p (at [] (p ∷ []) i below))

  -- the other half is given
  module _ (k : ℕ) (found : IsHalfFound t f tiles own (Given k)) where
    abbrev other : PlacedTile
    other = given_tile tiles k

    abbrev both : Pair
    both = record { first = i; second = Some k }

    its : Contains tiles other
    its = (k, found.0, get_or_default tiles k other no_tile found.0)

    its-lesser : nat_lt own.kind other.kind ≡ false → other.kind < own.kind
    its-lesser e = elim (cases_lt own.kind other.kind) [
      | inl l ↦ absurd (cc (sym e ∙ lt-ltb own.kind other.kind l))
      | inr l ↦ elim (cases_lt other.kind own.kind) [ inl g ↦ g | inr g ↦ absurd (found.1.other_kind (omega (arith, l, g))) ]
    ]

    given-by : (b : Bool) → nat_lt own.kind other.kind ≡ b → ArePaired t f tiles base (i + 1) (crossed ++ []) (pairs ++ cond b (both ∷ []) [])
    given-by true e =
        let is = two-loose [] (both ∷ []) i k own other (at [] (both ∷ []) i below) (at [] (both ∷ []) k found.0) in
        taking [] (both ∷ []) (omega arith) (omega arith) (All-nil (IsGiven t f))
        (one-of-all (ArePresent (length (halves [] (both ∷ [])))) both
        (record {
          first = omega (arith, below, length-append tiles (crossed ++ []));
          second = let l = found.0 in omega (arith, l, length-append tiles (crossed ++ []));
        }))
        (one-of-all (IsLoose t f tiles) (loose_of (halves [] (both ∷ [])) both)
        (subst (IsLoose t f tiles) (sym is) (record {
          glued = (all i no_tile below, all k no_tile found.0, found.1, ltb-true own.kind other.kind e);
          of_given = (own, among, inl refl);
        })))
        (in-own [] (both ∷ []) both (inl (at [] (both ∷ []) i below)))
    given-by false e =
        taking [] [] (omega arith) (omega arith) (All-nil (IsGiven t f))
        (All-nil (ArePresent (length (halves [] [])))) (All-nil (IsLoose t f tiles))
        (inr (other, its, found.1, its-lesser e))

    given-too : ArePaired t f tiles base (i + 1) (crossed ++ []) (pairs ++ added_pairs tiles i (length crossed) (Given k))
    given-too = given-by (nat_lt own.kind other.kind) refl

  -- or crossed to
  module _ (y : PlacedTile) (found : IsHalfFound t f tiles own (Crossed y)) where
    abbrev n : ℕ
    n = length tiles + length crossed

    abbrev own_first : Pair
    own_first = record { first = i; second = Some n }

    abbrev own_second : Pair
    own_second = record { first = n; second = Some i }

    at-new : (more : List Pair) → given_tile (halves (y ∷ []) more) n ≡ y
    at-new more = ap (λ hs. given_tile hs n) (longer (y ∷ []) more)
        ∙ ap (λ k. get_or ((tiles ++ crossed) ++ y ∷ []) k no_tile) (sym (length-append tiles crossed))
        ∙ get_or-append_seam (tiles ++ crossed) y [] no_tile

    there : n < length (tiles ++ (crossed ++ y ∷ []))
    there = omega (arith, length-append tiles (crossed ++ y ∷ []), length-append crossed (y ∷ []))

    here : i < length (tiles ++ (crossed ++ y ∷ []))
    here = omega (arith, below, length-append tiles (crossed ++ y ∷ []))

    crossed-lesser : nat_lt own.kind y.kind ≡ false → y.kind < own.kind
    crossed-lesser e = elim (cases_lt own.kind y.kind) [
      | inl l ↦ absurd (cc (sym e ∙ lt-ltb own.kind y.kind l))
      | inr l ↦ elim (cases_lt y.kind own.kind) [ inl g ↦ g | inr g ↦ absurd (found.1.other_kind (omega (arith, l, g))) ]
    ]

    crossed-by : (b : Bool) → nat_lt own.kind y.kind ≡ b
        → ArePaired t f tiles base (i + 1) (crossed ++ y ∷ []) (pairs ++ cond b own_first own_second ∷ [])
    crossed-by true e =
        let is = two-loose (y ∷ []) (own_first ∷ []) i n own y (at (y ∷ []) (own_first ∷ []) i below) (at-new (own_first ∷ [])) in
        taking (y ∷ []) (own_first ∷ []) (omega arith) (omega arith) (one-of-all (IsGiven t f) y found.0)
        (one-of-all (ArePresent (length (halves (y ∷ []) (own_first ∷ [])))) own_first (record { first = here; second = there }))
        (one-of-all (IsLoose t f tiles) (loose_of (halves (y ∷ []) (own_first ∷ [])) own_first)
        (subst (IsLoose t f tiles) (sym is) (record {
          glued = (all i no_tile below, found.0, found.1, ltb-true own.kind y.kind e);
          of_given = (own, among, inl refl);
        })))
        (in-own (y ∷ []) (own_first ∷ []) own_first (inl (at (y ∷ []) (own_first ∷ []) i below)))
    crossed-by false e =
        let is = two-loose (y ∷ []) (own_second ∷ []) n i y own (at-new (own_second ∷ [])) (at (y ∷ []) (own_second ∷ []) i below) in
        taking (y ∷ []) (own_second ∷ []) (omega arith) (omega arith) (one-of-all (IsGiven t f) y found.0)
        (one-of-all (ArePresent (length (halves (y ∷ []) (own_second ∷ [])))) own_second (record { first = there; second = here }))
        (one-of-all (IsLoose t f tiles) (loose_of (halves (y ∷ []) (own_second ∷ [])) own_second)
        (subst (IsLoose t f tiles) (sym is) (record {
          glued = (found.0, all i no_tile below, glued-back t f own y found.1, crossed-lesser e);
          of_given = (own, among, inr refl);
        })))
        (in-own (y ∷ []) (own_second ∷ []) own_second (inr (at (y ∷ []) (own_second ∷ []) i below)))

    crossed-to : ArePaired t f tiles base (i + 1) (crossed ++ y ∷ []) (pairs ++ added_pairs tiles i (length crossed) (Crossed y))
    crossed-to = crossed-by (nat_lt own.kind y.kind) refl

  pub taken-too : (found : Found) → IsHalfFound t f tiles own found
      → ArePaired t f tiles base (i + 1) (crossed ++ added_tiles found)
      (pairs ++ added_pairs tiles i (length crossed) found)
  taken-too Alone h = alone h
  taken-too (Given k) h = given-too k h
  taken-too (Crossed y) h = crossed-to y h
