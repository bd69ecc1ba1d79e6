use Rattle.tiling_c.proofs.crossing.cross_edge.Goals as goal

pub returns : goal.returns
returns c = record {
  crossed = record {
    across = λ e. (c.cross.ensures.across e).0;
    leads_back = λ e. (c.cross.ensures.across e).1;
    names = c.cross.ensures.names;
    inside = c.cross.ensures.inside;
    on_boundary = c.cross.ensures.outside;
    names_none = c.cross.ensures.bad_address;
    lacks_edge = c.cross.ensures.no_edge;
    unchanged = c.cross.ensures.unchanged;
    statuses = c.cross.ensures.statuses;
  };
  no_back = c.cross.ensures.zeros.0;
  no_part = c.cross.ensures.zeros.1;
}
