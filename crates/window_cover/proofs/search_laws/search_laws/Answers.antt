use Rattle.window_cover.proofs.search_laws.search_laws.Goals as goal

pub returns : goal.returns
returns c = record {
  points = c.points_law.ensures;
  patch = c.frame_patch_law.ensures.dissected;
  lifted = c.frame_patch_law.ensures.lifted;
  named = c.frame_patch_law.ensures.named;
  renamed = c.frame_name_law.ensures.renamed;
  at_depth = c.frame_name_law.ensures.at_depth;
  lines = c.frame_edge_law.ensures.lines;
  numbered = c.frame_edge_law.ensures.numbered;
  grown = c.frame_crossing_law.ensures.grown;
  glued = c.frame_crossing_law.ensures.glued;
  open_test = c.open_edge_law.ensures.tested;
  open_numbers = c.open_edge_law.ensures.numbers;
  open_step = c.open_edge_law.ensures.step;
  levels = c.frame_holds_law.ensures.level;
  least = c.frame_window_law.ensures.least;
  start = c.frame_search_law.ensures.start;
  step = c.frame_search_law.ensures.step;
  stop = c.frame_limits_law.ensures.stop;
  onward = c.frame_limits_law.ensures.onward;
}
