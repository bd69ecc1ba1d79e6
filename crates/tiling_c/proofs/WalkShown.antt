-- What a path is shown as, and what each refusal is.
use Rattle.std.proofs.Common.{◌≡◌, ◌⊎◌, ◌≤◌, max, inl, inr, ℕ, List, length, refl, sym, subst, ◌∙◌}
use Rattle.theory_walks.specs.Frames.{FrameValue, GrowsTo, whole}
use Rattle.theory_walks.specs.Paths.{CanBeWalked, IsStopped, LacksEdge}
use Rattle.theory_walks.proofs.Walked.{at_depth-grown}
use Rattle.theory_walks.proofs.Walks.{GrowsTo-then}
use Rattle.rule_model.specs.Tiling.{Tiling}
use Rattle.c_values.specs.declared.plain_address.PlainAddress.{PlainAddress}
use Rattle.c_values.specs.declared.plain_frame.PlainFrame.{PlainFrame}
use Rattle.c_values.specs.declared.plain_tile.PlainTile.{PlainTile}
use Rattle.c_values.specs.Statuses.{ok, bad_words, bad_address, no_edge, depth_limit}
use Rattle.tiling_c.specs.Walk.{AreWalked, AsksForWalk, GrowsAlong, StopsAlong, IsGrownFor, GivesFrame, RefusesFrame, ShowsWalk}

module _ (t : Tiling) (frame : PlainFrame) (grow : ℕ) (path : List ℕ) (tiles : List PlainTile) (addrs : List PlainAddress) where
  -- the numbers ask for no walk
  pub shows_not_asked : ¬ AsksForWalk grow path tiles addrs → ShowsWalk t frame grow path tiles tiles addrs addrs bad_words
  shows_not_asked none = record {
    walk = λ e. absurd (cc e);
    walked = λ e. absurd (cc e);
    lacks_edge = λ e. absurd (cc e);
    stopped = λ e. absurd (cc e);
    not_asked = (λ _. none, λ _. refl);
    names_none = (λ e. absurd (cc e), λ w. absurd (none w.0));
    statuses = inr (inl refl);
  }

  module _ (asks : AsksForWalk grow path tiles addrs) where
    pub shows_walk : (new_tiles : List PlainTile) (new_addrs : List PlainAddress) (grown : FrameValue) → GivesFrame t frame grow path grown
        → AreWalked t grown path new_tiles new_addrs → ShowsWalk t frame grow path tiles new_tiles addrs new_addrs ok
    shows_walk new_tiles new_addrs grown x walked = record {
      walk = λ _. record {
        frame = grown;
        grown = x.grown.grown;
        no_shallower = x.grown.no_shallower;
        least = x.grown.least;
        walked = walked;
      };
      walked = λ _. x.grown.walked_at_64;
      lacks_edge = λ e. absurd (cc e);
      stopped = λ e. absurd (cc e);
      not_asked = (λ e. absurd (cc e), λ none. absurd (none asks));
      names_none = (λ e. absurd (cc e), λ w. absurd (w.1 x.named));
      statuses = inl refl;
    }

    stops : (status : ℕ) → (status ≡ no_edge) ⊎ (status ≡ depth_limit)
        → (¬ status ≡ ok) × (¬ status ≡ bad_words) × (¬ status ≡ bad_address)
    stops status (inl is) = (λ e. absurd (cc (sym is ∙ e)), λ e. absurd (cc (sym is ∙ e)), λ e. absurd (cc (sym is ∙ e)))
    stops status (inr is) = (λ e. absurd (cc (sym is ∙ e)), λ e. absurd (cc (sym is ∙ e)), λ e. absurd (cc (sym is ∙ e)))

    last_two : (status : ℕ) → (status ≡ no_edge) ⊎ (status ≡ depth_limit) → (status ≡ ok) ⊎ (status ≡ bad_words) ⊎ (status ≡ bad_address)
        ⊎ (status ≡ no_edge) ⊎ (status ≡ depth_limit)
    last_two status h = inr (inr (inr h))

    pub shows_refusal : (status : ℕ) → RefusesFrame t frame path status → ShowsWalk t frame grow path tiles tiles addrs addrs status
    shows_refusal status (inl (is, none)) = record {
      walk = λ e. absurd (cc (sym is ∙ e));
      walked = λ e. absurd (cc (sym is ∙ e));
      lacks_edge = λ e. absurd (cc (sym is ∙ e));
      stopped = λ e. absurd (cc (sym is ∙ e));
      not_asked = (λ e. absurd (cc (sym is ∙ e)), λ asks_not. absurd (asks_not asks));
      names_none = (λ _. (asks, none), λ _. is);
      statuses = inr (inr (inl is));
    }
    shows_refusal status (inr x) = record {
      walk = λ e. absurd ((stops status x.stopped.statuses).0 e);
      walked = λ e. absurd ((stops status x.stopped.statuses).0 e);
      lacks_edge = x.stopped.lacks_edge;
      stopped = x.stopped.stopped;
      not_asked = (λ e. absurd ((stops status x.stopped.statuses).1 e), λ asks_not. absurd (asks_not asks));
      names_none = (λ e. absurd ((stops status x.stopped.statuses).2 e), λ w. absurd (w.1 x.named));
      statuses = last_two status x.stopped.statuses;
    }

-- what is so of a frame that has grown to a depth is so of the one that it grew from
module _ (t : Tiling) (start h : FrameValue) (path : List ℕ) (grown : GrowsTo t start h) where
  pub grown_for : (grow : ℕ) (last : FrameValue) → length h.digits ≡ max (length start.digits) grow → GrowsAlong t h path last
      → IsGrownFor t start grow path last
  grown_for grow last deep x = record {
    grown = GrowsTo-then t start h last grown x.grown;
    no_shallower = subst (λ n. n ≤ length last.digits) deep x.grown.no_shallower;
    least = λ n l k. subst (λ f. IsStopped t (whole f) path) (at_depth-grown t start h n grown)
        (x.least n (subst (λ m. m ≤ n) (sym deep) l) k);
    walked = x.walked;
    walked_at_64 = subst (λ f. CanBeWalked t (whole f) path) (at_depth-grown t start h 64 grown) x.walked_at_64;
  }

  pub stops_from : (status : ℕ) → StopsAlong t h path status → StopsAlong t start path status
  stops_from status x = record {
    lacks_edge = λ e. subst (λ f. (edge edges : ℕ) × LacksEdge t (whole f) path edge edges) (at_depth-grown t start h 64 grown) (x.lacks_edge e);
    stopped = λ e. subst (λ f. IsStopped t (whole f) path) (at_depth-grown t start h 64 grown) (x.stopped e);
    statuses = x.statuses;
  }
