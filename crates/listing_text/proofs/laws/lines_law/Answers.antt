use Rattle.std.proofs.Common.{◌≡◌, ◌≢◌, ℕ, false, List, ◌∷◌, ◌++◌, nat_eq, refl}
use Rattle.std.proofs.lemmas.Bool.{ne_eqb}
use Rattle.std.proofs.lemmas.List.Elements.{All-weaker}
use Rattle.std.proofs.lemmas.List.Splits.{slice_split_at, slice_split_none}
use Rattle.std.specs.List.{All}
use Rattle.cyclo_points.specs.Text.{newline}
use Rattle.listing_text.proofs.ListedLines.{line_cut, last_cut}
use Rattle.listing_text.proofs.laws.lines_law.Goals as goal

no_newline : (line : List ℕ) → All (λ byte. byte ≢ newline) line → All (λ byte. nat_eq byte newline ≡ false) line
no_newline line = All-weaker (λ byte. byte ≢ newline) (λ byte. nat_eq byte newline ≡ false) (λ byte h. ne_eqb byte newline h) line

pub returns-clause-ended : goal.returns-clause-ended
returns-clause-ended c = λ line rest h. line_cut (line ++ newline ∷ rest) line rest
    (slice_split_at (λ byte. nat_eq byte newline) line newline rest (no_newline line h) refl)

pub returns-clause-last : goal.returns-clause-last
returns-clause-last c = λ line some h. last_cut line some (slice_split_none (λ byte. nat_eq byte newline) line (no_newline line h))
