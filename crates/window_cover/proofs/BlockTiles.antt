-- Blocks of leaves: further leaves change none, and one that is made is noted.
use Rattle.std.proofs.Common.{◌≡◌, ℕ, ◌+◌, ◌*◌, ◌<◌, ◌≤◌, ◌^◌, List, ◌++◌, length, drop, get_or, set, None, Some, IfSome, ◌⊎◌, inl, inr, sym, ap, ap₂, ◌∙◌, subst, arith, length-append}
use Rattle.std.specs.declared.option.Option.{Option}
use Rattle.std.specs.List.{AllByRecursion}
use Rattle.std.proofs.Math.Seq.{drop-append_seam}
use Rattle.std.proofs.lemmas.List.{get_or-set_same, get_or-set_other, get_or_append_left, length-map, map-append}
use Rattle.std.proofs.lemmas.List.Elements.{All-from_recursion}
use Rattle.cyclo_points.specs.Order.{points_of}
use Rattle.cyclo_points.specs.Point.{IsWithin}
use Rattle.rule_model.specs.declared.rule.Rule.{Rule}
use Rattle.rule_model.specs.Tiling.{tiling_of}
use Rattle.rule_model.specs.Views.{rule_of}
use Rattle.window_descent.specs.Rows.{row_place}
use Rattle.window_descent.proofs.RowsMade.{same_or}
use Rattle.window_cover.specs.declared.block.Block.{Block}
use Rattle.window_cover.specs.Blocks.{AreNear, IsBlock}
use Rattle.window_cover.specs.Covered.{none, tile_of}
use Rattle.window_cover.specs.Descending.{tile_in, tiles_in}
use Rattle.window_cover.specs.Found.{Found}
use Rattle.window_cover.specs.Runs.{leaves_from, leaves_in}
use Rattle.window_cover.specs.Windows.{TileOf}
use Rattle.window_cover.proofs.RunTiles.{leaves-behind, leaves-longer}

-- ---- further leaves
module _ (m : Rule) (leaves more later : List Found) (is : later ≡ leaves ++ more) where
  same-leaf : (i : ℕ) → i < length leaves → tile_of later i ≡ tile_of leaves i
  same-leaf i h = ap (λ (xs : List Found). get_or xs i none) is ∙ get_or_append_left leaves more none i h

  pub block-later : (level kind turn : ℕ) (b : Block) → IsBlock m leaves level kind turn b → IsBlock m later level kind turn b
  block-later level kind turn b h =
      let fits = h.fits in
      let longer = ap length is ∙ length-append leaves more in
      record {
        fits = omega (arith, fits, longer);
        few = h.few;
        tiles = ap (tiles_in m.order) (ap (leaves_in b) is ∙ leaves-longer b.first b.count leaves more fits) ∙ h.tiles;
        near = record {
          near = λ i a e. subst (λ (x : Found). IsWithin (2 ^ 20) x.motion.shift) (sym (same-leaf i (omega (arith, fits, e)))) (h.near.near i a e);
          short = λ i a e. subst (λ (x : Found). length x.digits ≤ level) (sym (same-leaf i (omega (arith, fits, e)))) (h.near.short i a e);
        };
      }

abbrev pub AreMade : (m : Rule) (leaves : List Found) (blocks : List (Option Block)) → Type 0
AreMade m leaves blocks =
    (level kind turn : ℕ) → level ≤ 6 → kind < length (rule_of m).kinds → turn < (points_of m.order).order
    → IfSome (get_or blocks (row_place level kind turn) None) (IsBlock m leaves level kind turn)

pub made-later : (m : Rule) (leaves more later : List Found) → later ≡ leaves ++ more → (blocks : List (Option Block)) → AreMade m leaves blocks
    → AreMade m later blocks
made-later m leaves more later is blocks made level kind turn f g h = at_block
    (get_or blocks (row_place level kind turn) None) (made level kind turn f g h)
  where
    at_block : (x : Option Block) → IfSome x (IsBlock m leaves level kind turn) → IfSome x (IsBlock m later level kind turn)
    at_block None b = tt
    at_block (Some block) b = block-later m leaves more later is level kind turn block b

-- ---- one more is noted
module _ (m : Rule) (few_kinds : length (rule_of m).kinds ≤ 16) (few_turns : (points_of m.order).order ≤ 16) (leaves : List Found)
    (blocks : List (Option Block)) (level kind turn : ℕ) (block : Block) (a : kind < length (rule_of m).kinds) (b : turn < (points_of m.order).order)
    (there : row_place level kind turn < length blocks) (its : IsBlock m leaves level kind turn block)
    (made : AreMade m leaves blocks) where
  abbrev noted : List (Option Block)
  noted = set blocks (row_place level kind turn) (Some block)

  abbrev IsNoted : ℕ → ℕ → ℕ → Type 0
  IsNoted l k t = IfSome (get_or noted (row_place l k t) None) (IsBlock m leaves l k t)

  pub made-noted : AreMade m leaves noted
  made-noted l k t f g h = at_place (same_or (row_place level kind turn) (row_place l k t))
    where
      own : IsNoted level kind turn
      own = subst (λ x. IfSome x (IsBlock m leaves level kind turn))
          (sym (get_or-set_same blocks (row_place level kind turn) (Some block) None there)) its

      same_level : row_place l k t ≡ row_place level kind turn → level ≡ l
      same_level e = omega arith

      same_kind_ : row_place l k t ≡ row_place level kind turn → kind ≡ k
      same_kind_ e = omega arith

      same_turn_ : row_place l k t ≡ row_place level kind turn → turn ≡ t
      same_turn_ e = omega arith

      at_place : (row_place l k t ≡ row_place level kind turn) ⊎ (¬ (row_place l k t ≡ row_place level kind turn)) → IsNoted l k t
      at_place (inl e) = subst (λ x. IsNoted x k t) (same_level e) (subst (λ x. IsNoted level x t) (same_kind_ e)
          (subst (λ x. IsNoted level kind x) (same_turn_ e) own))
      at_place (inr n) = subst (λ x. IfSome x (IsBlock m leaves l k t))
          (sym (get_or-set_other blocks (row_place level kind turn) (row_place l k t) (Some block) None n)) (made l k t f g h)

-- ---- the leaves found behind others
behind-same : {A : Type 0} (n : ℕ) (xs ys us vs : List A) → length xs ≡ n → length us ≡ n → xs ++ ys ≡ us ++ vs → ys ≡ vs
behind-same n xs ys us vs a b e = sym (drop-append_seam xs ys) ∙ ap (λ k. drop k (xs ++ ys)) (a ∙ sym b)
    ∙ ap (drop (length us)) e ∙ drop-append_seam us vs

-- those found are these tiles
pub more-tiles : (m : Rule) (leaves more later : List Found) (ts : List (TileOf (tiling_of m))) → later ≡ leaves ++ more
    → tiles_in m.order later ≡ tiles_in m.order leaves ++ ts → (first count : ℕ) → first ≡ length leaves → count ≡ length more
    → tiles_in m.order (leaves_from first count later) ≡ ts
more-tiles m leaves more later ts is found first count at long =
    ap (tiles_in m.order) (ap₂ (λ i n. leaves_from i n later) at long ∙ ap (leaves_from (length leaves) (length more)) is ∙ leaves-behind leaves more)
    ∙ behind-same (length leaves) (tiles_in m.order leaves) (tiles_in m.order more) (tiles_in m.order leaves) ts
    (length-map leaves (tile_in m.order)) (length-map leaves (tile_in m.order))
    (sym (map-append (tile_in m.order) leaves more) ∙ ap (tiles_in m.order) (sym is) ∙ found)

-- what holds of all holds of the one of a number
pub each-of : (Q : Found → Type 0) (xs : List Found) → AllByRecursion Q xs → (i : ℕ) → i < length xs → Q (tile_of xs i)
each-of Q xs h i l = All-from_recursion Q xs h i none l

-- ---- none is made
pub none-made : (m : Rule) (leaves : List Found) (blocks : List (Option Block)) → ((i : ℕ) → get_or blocks i None ≡ None) → AreMade m leaves blocks
none-made m leaves blocks none level kind turn f g h =
    subst (λ x. IfSome x (IsBlock m leaves level kind turn)) (sym (none (row_place level kind turn))) tt

-- ---- places
pub block-there : (level kind turn : ℕ) → level ≤ 6 → kind < 16 → turn < 16 → row_place level kind turn < 7 * 256
block-there level kind turn a b c = omega (arith, a, b, c)

-- ---- leaves near the origin
pub none-near : (leaves : List Found) (first depth : ℕ) → AreNear leaves first first depth
none-near leaves first depth = record { near = λ i a b. absurd (omega (arith, a, b)); short = λ i a b. absurd (omega (arith, a, b)) }

pub near-more : (leaves : List Found) (first n depth : ℕ) → AreNear leaves first n depth → IsWithin (2 ^ 20) (tile_of leaves n).motion.shift
    → length (tile_of leaves n).digits ≤ depth → AreNear leaves first (n + 1) depth
near-more leaves first n depth h near short = record {
  near = λ i a b. at_near i a b (same_or n i);
  short = λ i a b. at_short i a b (same_or n i);
}
  where
    at_near : (i : ℕ) → first ≤ i → i < n + 1 → (i ≡ n) ⊎ (¬ (i ≡ n)) → IsWithin (2 ^ 20) (tile_of leaves i).motion.shift
    at_near i a b (inl e) = subst (λ j. IsWithin (2 ^ 20) (tile_of leaves j).motion.shift) (sym e) near
    at_near i a b (inr d) = h.near i a (omega (arith, b, d))

    at_short : (i : ℕ) → first ≤ i → i < n + 1 → (i ≡ n) ⊎ (¬ (i ≡ n)) → length (tile_of leaves i).digits ≤ depth
    at_short i a b (inl e) = subst (λ j. length (tile_of leaves j).digits ≤ depth) (sym e) short
    at_short i a b (inr d) = h.short i a (omega (arith, b, d))
