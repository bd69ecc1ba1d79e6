-- The open edges, each with its two ends.
use Rattle.std.specs.Prelude.{◌≡◌, ℕ, ◌≤◌, Bool, ◌&&◌, cond, List, [], ◌∷◌, length, take, None, Some}
use Rattle.std.specs.List.{list_any, position, IsDistinct}
use Rattle.std.specs.declared.option.Option.{Option}
use Rattle.window_cover.specs.declared.ends.Ends.{Ends}
use Rattle.window_cover.specs.declared.open_edge.OpenEdge.{OpenEdge}
use Rattle.window_cover.specs.declared.border.Listed.{Listed}
use Rattle.window_cover.specs.contracts.ends.EndsPartialEq.TheImpl as ends_eq

-- true if two edges have the same start and the same end
abbrev pub have_same_ends : Ends → Ends → Bool
have_same_ends = (ends_eq.ghosts).eq

-- an open edge, and its ends
pub record Waiting : Type 0 where
  pub ends : Ends
  pub edge : OpenEdge

-- the edges of a list that are open
abbrev pub open_of : List Listed → List Waiting
open_of [] = []
open_of (l ∷ ls) = cond l.is_open (record { ends = l.ends; edge = l.edge } ∷ open_of ls) (open_of ls)

-- true if a listed edge is open and has these ends
abbrev pub waits_at : Ends → Listed → Bool
waits_at k l = l.is_open && have_same_ends k l.ends

-- true if one of these edges has these ends
abbrev pub has_ends : Ends → List Waiting → Bool
has_ends k waiting = list_any (λ o. have_same_ends k o.ends) waiting

-- the first of these edges
abbrev pub first_waiting : List Waiting → Option OpenEdge
first_waiting [] = None
first_waiting (o ∷ os) = Some o.edge

-- no two of these edges have the same ends
abbrev pub HasDistinctEnds : List Waiting → Type 0
HasDistinctEnds waiting = IsDistinct (λ o p. have_same_ends o.ends p.ends) waiting

-- How the parts of a border agree. `place_of` finds the place of the open edge with two ends, if there is
-- one. `count` is the number of open edges, and no edge before place `next` is open.
pub record IsBorder (ls : List Listed) (place_of : Ends → Option ℕ) (count next : ℕ) : Type 0 where
  pub found : (k : Ends) → place_of k ≡ position (waits_at k) ls
  pub distinct : HasDistinctEnds (open_of ls)
  pub counted : count ≡ length (open_of ls)
  pub within : next ≤ length ls
  pub none_before : open_of (take next ls) ≡ []
