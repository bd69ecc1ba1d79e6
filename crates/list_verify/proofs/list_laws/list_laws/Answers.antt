use Rattle.list_verify.proofs.list_laws.list_laws.Goals as goal

pub returns : goal.returns
returns c = record {
  search = c.search_laws.ensures;
  last = c.frame_crossing_law.ensures.last;
  start = c.frame_walk_law.ensures.start;
  step = c.frame_walk_law.ensures.step;
  room = c.frame_walk_law.ensures.room;
  end = c.frame_walk_law.ensures.end;
  beyond = c.walk_fault_law.ensures.beyond;
  stop = c.walk_fault_law.ensures.stop;
  no_fault = c.walk_fault_law.ensures.none;
  right = c.right_listing_law.ensures.right;
  no_list_fault = c.right_listing_law.ensures.no_fault;
  lifted = c.right_listing_law.ensures.lifted;
}
