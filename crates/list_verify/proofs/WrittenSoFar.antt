-- What is written of the first tiles, before the rest of a text.
use Rattle.std.proofs.Common.{◌≡◌, ℕ, ◌+◌, ◌<◌, Bool, true, false, ◌&&◌, List, [], ◌∷◌, ◌++◌, length, slice_get, take, drop, Some, nat_eq, refl, sym, ap, ap₂, ◌∙◌, subst, append_assoc, append-nil, take-append-drop, take-suc, take_all, add-one, arith}
use Rattle.std.proofs.lemmas.Bool.{eqb-true}
use Rattle.std.specs.Cmp.Lexicographic.{pointwise}
use Rattle.std.specs.List.{AllByRecursion}
use Rattle.cyclo_points.specs.Text.{newline}
use Rattle.listing_text.specs.Written.{entry_text, entries_text}
use Rattle.tile_place.specs.declared.placed_tile.PlacedTile.{PlacedTile}
use Rattle.list_verify.specs.Written.{tile_entry, tile_entries, IsWrittenOf}
use Rattle.list_verify.proofs.Chains.{get_or-at}

abbrev HasFour : PlacedTile → Type 0
HasFour tile = length tile.motion.shift.c ≡ 4

-- the line of a tile, with its newline
abbrev line_of : PlacedTile → List ℕ
line_of tile = entry_text (tile_entry tile) ++ newline ∷ []

abbrev lines_of : List PlacedTile → List ℕ
lines_of tiles = entries_text (tile_entries tiles)

pub record IsWrittenTo (n : ℕ) (tiles : List PlacedTile) (text rest : List ℕ) : Type 0 where
  pub is : text ≡ lines_of (take n tiles) ++ rest
  pub four : AllByRecursion HasFour (take n tiles)

pub begun : (tiles : List PlacedTile) (text : List ℕ) → IsWrittenTo 0 tiles text text
begun [] text = record { is = refl; four = tt }
begun (x ∷ xs) text = record { is = refl; four = tt }

line_more : (ys : List PlacedTile) (x : PlacedTile) (rest : List ℕ) → lines_of ys ++ (line_of x ++ rest) ≡ lines_of (ys ++ x ∷ []) ++ rest
line_more [] x rest = ap (λ l. l ++ rest) (sym (append-nil (line_of x)))
line_more (y ∷ ys) x rest =
    append_assoc (line_of y) (lines_of ys) (line_of x ++ rest)
    ∙ ap (λ l. line_of y ++ l) (line_more ys x rest)
    ∙ sym (append_assoc (line_of y) (lines_of (ys ++ x ∷ [])) rest)

four_more : (ys : List PlacedTile) (x : PlacedTile) → AllByRecursion HasFour ys → HasFour x → AllByRecursion HasFour (ys ++ x ∷ [])
four_more [] x h f = (f, tt)
four_more (y ∷ ys) x h f = (h.0, four_more ys x h.1 f)

-- bytes that are equal one by one are the same
same_bytes : (xs ys : List ℕ) → pointwise nat_eq xs ys ≡ true → xs ≡ ys
same_bytes [] [] e = refl
same_bytes [] (y ∷ ys) e = absurd (cc e)
same_bytes (x ∷ xs) [] e = absurd (cc e)
same_bytes (x ∷ xs) (y ∷ ys) e = at_test (nat_eq x y) refl (same_bytes xs ys) e
  where
    at_test : (b : Bool) → nat_eq x y ≡ b → (pointwise nat_eq xs ys ≡ true → xs ≡ ys) → b && pointwise nat_eq xs ys ≡ true → x ∷ xs ≡ y ∷ ys
    at_test true e same h = ap₂ (λ (z : ℕ) (zs : List ℕ). z ∷ zs) (eqb-true x y e) (same h)
    at_test false e same h = absurd (cc h)

-- a text that begins with another is that one before what is left
pub behind : (text front left : List ℕ) → pointwise nat_eq (take (length front) text) front ≡ true
    → left ≡ drop (length front) text → text ≡ front ++ left
behind text front left e is = sym (take-append-drop (length front) text)
    ∙ ap₂ (λ (xs ys : List ℕ). xs ++ ys) (same_bytes (take (length front) text) front e) (sym is)

pub one_more : (n : ℕ) (tiles : List PlacedTile) (text rest left : List ℕ) (x : PlacedTile)
    → IsWrittenTo n tiles text rest → n < length tiles → slice_get tiles n ≡ Some x → HasFour x
    → rest ≡ line_of x ++ left → IsWrittenTo (n + 1) tiles text left
one_more n tiles text rest left x so below at four e = record {
  is = so.is ∙ ap (λ r. lines_of (take n tiles) ++ r) e ∙ line_more (take n tiles) x left ∙ ap (λ ts. lines_of ts ++ left) (sym more);
  four = subst (AllByRecursion HasFour) (sym more) (four_more (take n tiles) x so.four four);
}
  where
    more : take (n + 1) tiles ≡ take n tiles ++ x ∷ []
    more = ap (λ k. take k tiles) (add-one n) ∙ take-suc tiles n x below ∙ ap (λ (y : PlacedTile). take n tiles ++ y ∷ []) (get_or-at tiles n x x at)

pub all_written : (n : ℕ) (tiles : List PlacedTile) (text rest : List ℕ) → IsWrittenTo n tiles text rest
    → n ≡ length tiles → rest ≡ [] → IsWrittenOf tiles text
all_written n tiles text rest so e none = record {
  is = so.is ∙ ap (λ r. lines_of (take n tiles) ++ r) none ∙ append-nil (lines_of (take n tiles)) ∙ ap lines_of whole;
  four = subst (AllByRecursion HasFour) whole so.four;
}
  where
    whole : take n tiles ≡ tiles
    whole = take_all n tiles (omega (arith, e))
