use Rattle.tiling_c.proofs.meeting.window_asked.Goals as goal

pub returns-clause-asked : goal.returns-clause-asked
returns-clause-asked c = (
  λ some. record {
    window_given = c.window.ensures.given.0 some;
    are_tiles = c.are_tiles.ensures.0 c.if-not-are_tiles.false;
    same_length = c.if-flags-tiles.false;
  },
  λ asks. c.window.ensures.given.1 asks.window_given,
)
