use Rattle.std.proofs.Common.{◌≡◌, ℕ, ◌+◌, ◌<◌, false, List, length, vec_len, Vec, Global, nat_eq, refl, arith}
use Rattle.std.proofs.lemmas.Bool.Decides.{nat_tests}
use Rattle.listing_text.specs.declared.entry.Entry.{Entry}
use Rattle.listing_text.specs.Limits.{most_lines}
use Rattle.listing_text.specs.Lines.{lines_in}
use Rattle.listing_text.proofs.ListingRead.{some_line, listed_long}
use Rattle.listing_text.proofs.reading.read_listing.Goals as goal

count : (v : Vec Entry Global) (n : ℕ) → n ≡ vec_len v → length v.items ≡ n
count v n e = omega (arith, e, v.ok)

some : (xs : List ℕ) → false ≡ nat_eq (length xs) 0 → 0 < length xs
some xs e = grind (arith, nat_tests)

long : (v : Vec Entry Global) (n all : ℕ) (rest : List ℕ) → n ≡ vec_len v → n ≡ 200000
    → length v.items + length (lines_in rest) ≡ all → false ≡ nat_eq (length rest) 0 → most_lines < all
long v n all rest e f g h = let l = some_line rest (some rest h) in let k = count v n e in omega (arith, f, g)

pub returns-then-before-eq-MOST_LINES-clause-fault : goal.returns-then-before-eq-MOST_LINES-clause-fault
returns-then-before-eq-MOST_LINES-clause-fault c =
    listed_long c.args.uses.now c.args.listing.now
    (long c.loop-rest.entries c.len-before.result _ c.loop-rest.rest.now c.len-before.ensures
    c.if-before-eq-MOST_LINES.true c.loop-rest.invariant.counted c.loop-rest-test.ensures)

pub returns-then-before-eq-MOST_LINES-clause-too_long : goal.returns-then-before-eq-MOST_LINES-clause-too_long
returns-then-before-eq-MOST_LINES-clause-too_long c =
    let l = long c.loop-rest.entries c.len-before.result _ c.loop-rest.rest.now c.len-before.ensures
    c.if-before-eq-MOST_LINES.true c.loop-rest.invariant.counted c.loop-rest-test.ensures in
    (λ e. l, λ m. refl)
