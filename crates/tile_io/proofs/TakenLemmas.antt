-- Pieces taken one after the other.
use Rattle.std.proofs.Common.{◌≡◌, ℕ, ◌+◌, ◌-◌, List, length, take, drop, None, Some, append_assoc, sym, subst, arith, length-drop}
use Rattle.std.proofs.Math.Seq.{take-add}
use Rattle.std.proofs.lemmas.List.{take_all}
use Rattle.std.specs.declared.option.Option.{Option}
use Rattle.tile_io.specs.Taken.{Takes, TakenInTurn}

-- two pieces taken one after the other are one
pub taken_in_turn : TakenInTurn
taken_in_turn a b None xs ys h k = tt
taken_in_turn a None (Some new) xs ys h k = absurd k
taken_in_turn None (Some mid) (Some new) xs ys h k = absurd h
taken_in_turn (Some old) (Some mid) (Some new) xs ys h k = rw (k, h) (append_assoc old xs ys)

-- the bytes from `at` on, as the slice to the end has them
pub to_end : (bytes : List ℕ) (at : ℕ) → take (length bytes - at) (drop at bytes) ≡ drop at bytes
to_end bytes at = take_all (length bytes - at) (drop at bytes) (omega (arith, length-drop at bytes))

-- after the first `at` bytes the next `count` make the first `at + count`
pub takes_next : (a b c : Option (List ℕ)) (bytes : List ℕ) (at count : ℕ) → Takes a b (take at bytes)
    → Takes b c (take count (take (length bytes - at) (drop at bytes))) → Takes a c (take (at + count) bytes)
takes_next a b c bytes at count h k =
    let P : List ℕ → Type 0 = λ piece. Takes b c (take count piece) in
    let Q : List ℕ → Type 0 = λ piece. Takes a c piece in
    subst Q (sym (take-add at count bytes))
    (taken_in_turn a b c (take at bytes) (take count (drop at bytes)) h (subst P (to_end bytes at) k))
