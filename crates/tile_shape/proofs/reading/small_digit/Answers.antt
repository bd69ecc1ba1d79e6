use Rattle.std.proofs.Common.{◌≡◌, ℕ, ◌-◌, List, ◌∷◌, length, take, drop, get_or, Ok, sym, ap, ◌∙◌, length-drop, arith}
use Rattle.std.proofs.lemmas.List.{take_all}
use Rattle.tile_shape.specs.Text.{comma}
use Rattle.tile_shape.proofs.SmallDigits.{small_read_at}
use Rattle.tile_shape.proofs.reading.small_digit.Goals as goal

all_behind : (xs : List ℕ) → drop 4 xs ≡ take (length xs - 4) (drop 4 xs)
all_behind xs = sym (take_all (length xs - 4) (drop 4 xs) (let n = length-drop 4 xs in omega (arith, n)))

pub returns-then-text-eq44-clause-exact : goal.returns-then-text-eq44-clause-exact
returns-then-text-eq44-clause-exact c =
    let text = c.args.text.now in
    small_read_at text c.if-text-gt3.true (sym c.is_figure.ensures ∙ c.if-is_figure.true) c.if-text-eq47.true
    (sym c.is_figure-then-text-eq47.ensures ∙ c.if-is_figure-2.true) c.if-text-eq44.true
    ∙ ap (λ rest. Ok (record { child = get_or text 0 0 - 48; parent = get_or text 2 0 - 48 }, comma ∷ rest)) (all_behind text)
