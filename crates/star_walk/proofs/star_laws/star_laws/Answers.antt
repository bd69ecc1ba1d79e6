use Rattle.star_walk.proofs.star_laws.star_laws.Goals as goal

pub returns : goal.returns
returns c = record {
  points = c.points_law.ensures;
  renamed = c.frame_name_law.ensures.renamed;
  lines = c.frame_edge_law.ensures.lines;
  glued = c.frame_crossing_law.ensures.glued;
  last = c.frame_crossing_law.ensures.last;
  simple = c.frame_star_law.ensures.simple;
  next = c.frame_star_law.ensures.next;
  star = c.frame_star_law.ensures.star;
  corners = c.frame_star_law.ensures.corners;
  base = c.frame_base_law.ensures.base;
  back = c.frame_base_law.ensures.back;
  stop = c.frame_base_law.ensures.stop;
  answers = c.star_law.ensures.answers;
  onward = c.star_law.ensures.onward;
  whole = c.star_law.ensures.whole;
  count = c.star_refusal_law.ensures.count;
  off = c.frame_off_law.ensures.off;
  least = c.frame_off_law.ensures.least;
}
