use Rattle.std.proofs.Common.{◌<◌, ℕ, length, get_or, inl, inr, refl, subst}
use Rattle.plane_geom.specs.declared.window.Window.{Window}
use Rattle.rule_model.specs.Tiling.{tiling_of}
use Rattle.c_values.specs.Statuses.{ok, bad_words}
use Rattle.tiling_c.specs.Arrays.{plain_tile_at}
use Rattle.tiling_c.specs.Meeting.{ShowsMeeting, ShowsWhichMeet}
use Rattle.tiling_c.proofs.meeting.tiling_meets_all.Goals as goal

pub returns-in-Some-clause-shown : goal.returns-in-Some-clause-shown
returns-in-Some-clause-shown c =
    let m = c.get-machine.result.now in
    let flags = c.put_flags.new.flags in
    subst (λ r. ShowsWhichMeet (tiling_of r) c.args.window.now c.args.tiles.now c.args.flags.now flags ok) c.get-machine.ensures (record {
      each = λ _. subst (λ (w : Window). (i : ℕ) → i < length c.args.tiles.now
          → ShowsMeeting (tiling_of m) w (plain_tile_at c.args.tiles.now i) (get_or flags i 0)) c.in-Some.ensures.window c.put_flags.ensures;
      not_asked = (λ e. absurd (cc e), λ none. absurd (none (c.in-Some.ensures.asked.0 refl)));
      statuses = inl refl;
    })

pub returns-in-None-clause-shown : goal.returns-in-None-clause-shown
returns-in-None-clause-shown c =
    subst (λ r. ShowsWhichMeet (tiling_of r) c.args.window.now c.args.tiles.now c.args.flags.now c.args.flags.now bad_words)
    c.get-machine.ensures (record {
      each = λ e. absurd (cc e);
      not_asked = (λ _ asks. absurd (cc (c.in-None.ensures.asked.1 asks)), λ _. refl);
      statuses = inr refl;
    })
