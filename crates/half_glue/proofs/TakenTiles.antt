-- Whole tiles whose tiles are all tiles of a window: one more, and the tiles that they take.
use Rattle.std.proofs.Common.{◌≡◌, ◌⊎◌, inl, inr, ℕ, ◌+◌, ◌<◌, Bool, false, List, [], ◌∷◌, ◌++◌, All, length, map, get_or, Option, None, Some, IfSome, IsTrue, refl, sym, ap, ◌∙◌, subst, arith}
use Rattle.std.proofs.lemmas.Bool.{cases_lt}
use Rattle.std.proofs.lemmas.List.{get_or_append_left, get_or_push, length_push, append-nil}
use Rattle.std.proofs.lemmas.List.Elements.{All-nil, All-push, All-map, All-weaker, All-contains, Contains-append_left, Contains-push}
use Rattle.rule_model.specs.declared.rule.Rule.{Rule}
use Rattle.rule_model.specs.Tiling.{Tiling, tiling_of}
use Rattle.tile_place.specs.declared.placed_tile.PlacedTile.{PlacedTile}
use Rattle.theory_walks.specs.Ancestors.{full}
use Rattle.theory_walks.specs.Frames.{FrameValue, IsFrameOf}
use Rattle.theory_walks.proofs.Walks.{GrowsTo-self}
use Rattle.half_glue.specs.declared.pairs.Pair.{Pair}
use Rattle.half_glue.specs.Checked.{HasGlueLaws}
use Rattle.half_glue.specs.Depth.{IsGluedInside}
use Rattle.half_glue.specs.Found.{given_tile, AreGlued}
use Rattle.half_glue.specs.Given.{IsGiven, AreGiven}
use Rattle.half_glue.specs.Inner.{IsOfPair, IsInnerPair, AreInner, AreRising}
use Rattle.half_glue.specs.Keys.{no_pair}
use Rattle.half_glue.specs.Limits.{CanBeJoined}
use Rattle.half_glue.specs.Pairs.{ArePresent, second_of, loose_of, AreLoose, IsEither, IsLoose, IsTaken}
use Rattle.half_glue.specs.WholeTiles.{HasNoGlueEdge}
use Rattle.half_glue.proofs.AmongTiles.{front-there}
use Rattle.half_glue.proofs.Settling.{settled-inside, settled-joined}
use Rattle.half_glue.proofs.ArePaired.{ArePaired}
use Rattle.half_glue.proofs.GluedBack.{glued-back}
use Rattle.half_glue.proofs.Elements.{contains-map}

-- ---- one pair more
pub inner-more : (t : Tiling) (f : FrameValue) (tiles : List PlacedTile) (pairs : List Pair)
    (taken marked : List Bool) (p : Pair) → AreInner t f tiles pairs taken → IsInnerPair t f tiles p
    → ((k : ℕ) → IsTrue (get_or marked k false) → IsTrue (get_or taken k false) ⊎ IsOfPair k p) → AreInner t f tiles (pairs ++ p ∷ []) marked
inner-more t f tiles pairs taken marked p h is marks = record {
  each = All-push (IsInnerPair t f tiles) pairs p h.each is;
  taken = λ k set. elim (marks k set) [
    | inl b ↦ let r = h.taken k b in (r.0, Contains-append_left pairs (p ∷ []) r.0 r.1, r.2)
    | inr b ↦ (p, Contains-push pairs p, b)
  ];
}

pub rising-more : (n : ℕ) (pairs : List Pair) (p : Pair) → AreRising n pairs → p.first ≡ n → AreRising (n + 1) (pairs ++ p ∷ [])
rising-more n pairs p h e = record {
  few = let f = h.few in omega (arith, f, length_push pairs p);
  below = All-push (λ (q : Pair). q.first < n + 1) pairs p (λ k d l. let b = h.below k d l in omega (arith, b)) (omega (arith, e));
  rising = λ i j l b. elim (cases_lt j (length pairs)) [
    | inl k ↦
        let first = get_or_append_left pairs (p ∷ []) no_pair i (omega (arith, l, k)) in
        let second = get_or_append_left pairs (p ∷ []) no_pair j k in
        subst (λ (q : Pair). q.first < (get_or (pairs ++ p ∷ []) j no_pair).first) (sym first)
        (subst (λ (q : Pair). (get_or pairs i no_pair).first < q.first) (sym second) (h.rising i j l k))
    | inr k ↦
        let last : length pairs ≡ j = omega (arith, b, k, length_push pairs p) in
        let front : i < length pairs = omega (arith, l, last) in
        let first = get_or_append_left pairs (p ∷ []) no_pair i front in
        let second = get_or_push pairs p no_pair j last in
        let less = h.below i no_pair front in
        subst (λ (q : Pair). q.first < (get_or (pairs ++ p ∷ []) j no_pair).first) (sym first)
        (subst (λ (q : Pair). (get_or pairs i no_pair).first < q.first) (sym second) (omega (arith, less, e)))
  ];
}

pub rising-on : (n : ℕ) (pairs : List Pair) → AreRising n pairs → AreRising (n + 1) pairs
rising-on n pairs h = record {
  few = let f = h.few in omega (arith, f);
  below = λ k d l. let b = h.below k d l in omega (arith, b);
  rising = h.rising;
}

pub none-rising : AreRising 0 []
none-rising = record { few = omega arith; below = λ k d l. absurd (omega (arith, l)); rising = λ i j l h. absurd (omega (arith, h)) }

pub none-inner : (t : Tiling) (f : FrameValue) (tiles : List PlacedTile) (taken : List Bool)
    → ((k : ℕ) → ¬ IsTrue (get_or taken k false)) → AreInner t f tiles [] taken
none-inner t f tiles taken none = record { each = All-nil (IsInnerPair t f tiles); taken = λ k set. absurd (none k set) }

-- ---- a tile that is taken
module _ (m : Rule) (L : HasGlueLaws m) (f : FrameValue) (is : IsFrameOf (tiling_of m) f)
    (tiles : List PlacedTile) (pairs : List Pair) (taken : List Bool)
    (h : AreInner (tiling_of m) f tiles pairs taken) where
  abbrev u : Tiling
  u = tiling_of m

  abbrev Q : PlacedTile → Type 0
  Q x = IsGluedInside u f (length f.digits) x × CanBeJoined u (full u f) x

  single : (a : PlacedTile) → HasNoGlueEdge u a.kind → Q a
  single a none = (
    λ e glue on. absurd (none e glue),
    record {
      inside = λ e glue on. absurd (none e glue);
      unrefused = λ e back b n glue over stands. absurd (none e glue);
    },
  )

  glued : (a b : PlacedTile) → IsGiven u f a → IsGiven u f b → AreGlued u f a b → Q a
  glued a b own its g = (settled-inside m L f is a own f (GrowsTo-self u f is) b its g, settled-joined m L f is a own f (GrowsTo-self u f is) b its g)

  of-loose : (x a : PlacedTile) (s : Option PlacedTile) → AreLoose u f a s → IsEither x a s → Q x
  of-loose x a None l e = subst Q e (single a l.1)
  of-loose x a (Some b) l (inl e) = subst Q e (glued a b l.0 l.1 l.2)
  of-loose x a (Some b) l (inr e) = subst Q e (glued b a l.1 l.0 (glued-back u f a b l.2))

  module _ (all : List PlacedTile) (same : (n : ℕ) → n < length tiles → given_tile all n ≡ given_tile tiles n) where
    either : (k : ℕ) (p : Pair) → ArePresent (length tiles) p → IsOfPair k p
        → IsEither (given_tile tiles k) (given_tile all p.first) (second_of all p.second)
    either k p present of = by p.second refl present.second of
      where
        first : p.first ≡ k → given_tile all p.first ≡ given_tile tiles k
        first e = same p.first present.first ∙ ap (given_tile tiles) e

        by : (s : Option ℕ) → p.second ≡ s → IfSome s (λ n. n < length tiles) → (p.first ≡ k) ⊎ (s ≡ Some k)
            → IsEither (given_tile tiles k) (given_tile all p.first) (second_of all s)
        by None e l (inl g) = first g
        by None e l (inr g) = absurd (cc g)
        by (Some n) e l (inl g) = inl (first g)
        by (Some n) e l (inr g) = let there : n ≡ k = ap (λ o. unwrapped o) g in inr (same n l ∙ ap (given_tile tiles) there)
          where
            unwrapped : Option ℕ → ℕ
            unwrapped None = n
            unwrapped (Some i) = i

  -- is inside, and can be joined
  pub taken-settled : (k : ℕ) → IsTrue (get_or taken k false)
      → IsGluedInside u f (length f.digits) (given_tile tiles k) × CanBeJoined u (full u f) (given_tile tiles k)
  taken-settled k set =
      let r = h.taken k set in
      let p : Pair = r.0 in
      let inner = All-contains (IsInnerPair u f tiles) pairs p h.each r.1 in
      of-loose (given_tile tiles k) (given_tile tiles p.first) (second_of tiles p.second) inner.loose.glued
      (either tiles (λ n l. refl) k p inner.present r.2)

  -- and of a pair, whatever tiles and pairs come behind
  pub taken-too : (crossed : List PlacedTile) (outer : List Pair) (k : ℕ) → IsTrue (get_or taken k false)
      → IsTaken u f tiles (map (loose_of (tiles ++ crossed)) (pairs ++ outer)) (given_tile tiles k)
  taken-too crossed outer k set =
      let r = h.taken k set in
      let p : Pair = r.0 in
      let inner = All-contains (IsInnerPair u f tiles) pairs p h.each r.1 in
      let all : List PlacedTile = tiles ++ crossed in
      inl (
        loose_of all p,
        contains-map (loose_of all) (pairs ++ outer) p
            (Contains-append_left pairs outer p r.1),
        either all (λ n l. front-there tiles crossed n l) k p
            inner.present r.2,
      )

  -- no tile crossed to yet
  pub none-crossed : AreGiven u f tiles → ArePaired u f tiles (length pairs) 0 [] (pairs ++ [])
  none-crossed given = subst (λ (ps : List Pair). ArePaired u f tiles (length pairs) 0 [] ps) (sym (append-nil pairs)) (record {
    few = omega arith;
    few_crossed = omega arith;
    given = subst (All (IsGiven u f)) (sym plain) given;
    present = subst (λ (xs : List PlacedTile). All (ArePresent (length xs)) pairs) (sym plain)
        (All-weaker (IsInnerPair u f tiles) (ArePresent (length tiles)) (λ p i. i.present) pairs h.each);
    loose = subst (λ (xs : List PlacedTile). All (IsLoose u f tiles) (map (loose_of xs) pairs)) (sym plain)
        (All-map (IsLoose u f tiles) (loose_of tiles) pairs
        (All-weaker (IsInnerPair u f tiles) (λ p. IsLoose u f tiles (loose_of tiles p)) (λ p i. i.loose) pairs
        h.each));
    taken = λ k l. absurd (omega (arith, l));
  })
    where
      plain : tiles ++ [] ≡ tiles
      plain = append-nil tiles
