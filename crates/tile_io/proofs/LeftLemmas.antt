-- The bytes that a read gives, and those that it leaves.
use Rattle.std.proofs.Common.{◌≡◌, ℕ, ◌+◌, ◌≤◌, List, ◌++◌, length, take, drop, None, Some, append_assoc, sym, ap, ◌∙◌, arith}
use Rattle.std.proofs.lemmas.List.{take_all, take-append-le, take-append-drop, drop-drop, length-take}
use Rattle.tile_io.specs.Left.{GivenInTurn}

-- what was put in front of a buffer stands there
pub front : (left rest : List ℕ) (count : ℕ) → count ≤ length left → take count (take count left ++ rest) ≡ take count left
front left rest count h =
    take-append-le count (take count left) rest (omega (arith, length-take count left))
    ∙ take_all count (take count left) (omega (arith, length-take count left))

-- the bytes given, and then those from there on
pub given_then_left : (bytes left copied rest : List ℕ) (at count : ℕ) → drop at bytes ≡ left
    → copied ≡ take count left → count ≤ length left → left ≡ take count (copied ++ rest)
    ++ drop (at + count) bytes
given_then_left bytes left copied rest at count l e h =
    sym (rw (e, front left rest count h, sym (drop-drop count at bytes), l) (take-append-drop count left))

-- two pieces given one after the other are one
pub given_in_turn : GivenInTurn
given_in_turn None None None xs ys h k = tt
given_in_turn None None (Some c) xs ys h k = absurd k
given_in_turn None (Some b) c xs ys h k = absurd h
given_in_turn (Some a) None c xs ys h k = absurd h
given_in_turn (Some a) (Some b) None xs ys h k = absurd k
given_in_turn (Some a) (Some b) (Some c) xs ys h k =
    h ∙ ap (λ rest. xs ++ rest) k ∙ sym (append_assoc xs ys c)
