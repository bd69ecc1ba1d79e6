-- What arrays that are right are shown as, and what each refusal is.
use Rattle.std.proofs.Common.{◌≡◌, ◌≤◌, ◌-◌, inl, inr, ℕ, List, length, Ok, Err, refl, sym, subst, ◌∙◌}
use Rattle.std.specs.Prelude.{Result, IfOk, IfErr}
use Rattle.theory_walks.specs.Frames.{FrameValue}
use Rattle.plane_geom.specs.declared.window.Window.{Window}
use Rattle.rule_model.specs.Tiling.{Tiling}
use Rattle.listing_text.specs.Limits.{most_lines}
use Rattle.listing_text.specs.Listing.{Entry}
use Rattle.listing_text.specs.declared.entry.Entry as program
use Rattle.list_verify.specs.declared.list_fault.ListFault.{ListFault}
use Rattle.list_verify.specs.FoundLines.{entries_of}
use Rattle.list_verify.specs.Listing.{Reading, IsRightReading}
use Rattle.list_verify.specs.Verdict.{IsCauseIn, IsWholeVerdict}
use Rattle.c_values.specs.declared.plain_address.PlainAddress.{PlainAddress}
use Rattle.c_values.specs.declared.plain_frame.PlainFrame.{PlainFrame}
use Rattle.c_values.specs.declared.plain_tile.PlainTile.{PlainTile}
use Rattle.c_values.specs.declared.plain_window.PlainWindow.{PlainWindow}
use Rattle.c_values.specs.Frames.{frame_in}
use Rattle.c_values.specs.Statuses.{ok, bad_words, bad_listing}
use Rattle.c_values.specs.Windows.{window_in}
use Rattle.tiling_c.specs.declared.verify.Refusal.{Refusal}
use Rattle.tiling_c.specs.FramedWindow.{GiveFramedWindow, RefusesFramedWindow}
use Rattle.tiling_c.specs.Verify.{AreEntries, AsksToVerify, IsFirstNoEntry, RefusesEntries, ShowsVerify, entries_given, fault_of, line_told, status_told}
use Rattle.tiling_c.proofs.Moved.{given_moved}
use Rattle.tiling_c.proofs.Verified.{are_tiles, are_right, fault_not_ok, fault_not_words, fault_not_address, no_room, some_fault}

module _ (t : Tiling) (frame : PlainFrame) (window : PlainWindow) (tiles : List PlainTile) (addrs : List PlainAddress) (fault index : ℕ) where
  -- there aren't as many addresses as tiles, or too many
  pub shows_lengths : ¬ ((length addrs ≡ length tiles) × (length tiles ≤ most_lines))
      → ShowsVerify t frame window tiles addrs bad_words fault index
  shows_lengths none = record {
    right = λ e. absurd (cc e);
    complete = λ asks _ _. absurd (none (asks.same_length, asks.few));
    not_asked = (λ _ asks. none (asks.same_length, asks.few), λ _. refl);
    names_none = (λ e. absurd (cc e), λ w. absurd (none (w.0.same_length, w.0.few)));
    wrong = λ _ not_words _ _. absurd (not_words refl);
  }

  module _ (lengths : (length addrs ≡ length tiles) × (length tiles ≤ most_lines)) where
    -- the numbers give no window, or no frame
    pub shows_none : (status : ℕ) → RefusesFramedWindow t frame window status → ShowsVerify t frame window tiles addrs status fault index
    shows_none status (inl (is, none)) = record {
      right = λ e. absurd (cc (sym is ∙ e));
      complete = λ asks _ _. absurd (none asks.window_given);
      not_asked = (λ _ asks. none asks.window_given, λ _. is);
      names_none = (λ e. absurd (cc (sym is ∙ e)), λ w. absurd (none w.0.window_given));
      wrong = λ _ not_words _ _. absurd (not_words is);
    }
    shows_none status (inr (is, given, none)) =
        let asks : AsksToVerify window tiles addrs = record { window_given = given; same_length = lengths.0; few = lengths.1 } in record {
          right = λ e. absurd (cc (sym is ∙ e));
          complete = λ _ named _. absurd (none named);
          not_asked = (λ e. absurd (cc (sym is ∙ e)), λ asks_not. absurd (asks_not asks));
          names_none = (λ _. (asks, none), λ _. is);
          wrong = λ _ _ not_address _. absurd (not_address is);
        }

    module _ (f : FrameValue) (w : Window) (given : GiveFramedWindow t frame window f w) where
      asked : AsksToVerify window tiles addrs
      asked = record { window_given = given.window_given; same_length = lengths.0; few = lengths.1 }

      -- an entry is no tile, or there is no memory for the entries
      pub shows_no_entries : (r : Refusal) (status : ℕ) → RefusesEntries t tiles addrs r → status ≡ r.status
          → (status ≡ bad_listing → (fault ≡ r.fault) × (index ≡ r.index)) → ShowsVerify t frame window tiles addrs status fault index
      shows_no_entries r status (inl x) is told = record {
        right = λ e. absurd (cc (sym x.is_status ∙ sym is ∙ e));
        complete = λ _ _ right. absurd (x.first.no_entry (right.entries r.index x.first.below));
        not_asked = (λ e. absurd (cc (sym x.is_status ∙ sym is ∙ e)), λ asks_not. absurd (asks_not asked));
        names_none = (λ e. absurd (cc (sym x.is_status ∙ sym is ∙ e)), λ w. absurd (w.1 given.named));
        wrong = λ _ _ _ _. inl (record {
          is_status = is ∙ x.is_status;
          is_fault = (told (is ∙ x.is_status)).0 ∙ x.is_fault;
          first = subst (λ i. IsFirstNoEntry t tiles addrs i) (sym (told (is ∙ x.is_status)).1) x.first;
        });
      }
      shows_no_entries r status (inr x) is told = record {
        right = λ e. absurd (cc (sym x ∙ sym is ∙ e));
        complete = λ _ _ _. inr (is ∙ x);
        not_asked = (λ e. absurd (cc (sym x ∙ sym is ∙ e)), λ asks_not. absurd (asks_not asked));
        names_none = (λ e. absurd (cc (sym x ∙ sym is ∙ e)), λ w. absurd (w.1 given.named));
        wrong = λ _ _ _ room. absurd (room (is ∙ x));
      }

      module _ (own : List program.Entry) (read : entries_of own ≡ entries_given tiles addrs) (each : AreEntries t tiles addrs)
          (g : FrameValue) (answer : Result ℕ ListFault)
          (verdict : IsWholeVerdict t f g w (let r : Reading = Ok (entries_of own) in r) answer) where
        moved : IsWholeVerdict t (frame_in frame) g (window_in t.order window) (let r : Reading = Ok (entries_of own) in r) answer
        moved = given_moved (λ x y. IsWholeVerdict t x g y (let r : Reading = Ok (entries_of own) in r) answer) _ _ _ _
            given.its_frame given.its_window verdict

        pub shows_right : (n : ℕ) → answer ≡ Ok n → ShowsVerify t frame window tiles addrs ok fault index
        shows_right n is = record {
          right = λ _. are_tiles t _ _ tiles addrs own read n each (subst (λ (a : Result ℕ ListFault). IfOk a (λ m. IsRightReading t (frame_in frame)
              (window_in t.order window) (let r : Reading = Ok (entries_of own) in r) m)) is moved.verdict.right);
          complete = λ _ _ _. inl refl;
          not_asked = (λ e. absurd (cc e), λ asks_not. absurd (asks_not asked));
          names_none = (λ e. absurd (cc e), λ w. absurd (w.1 given.named));
          wrong = λ not_ok _ _ _. absurd (not_ok refl);
        }

        pub shows_wrong : (why : ListFault) (status : ℕ) → answer ≡ Err why → status ≡ status_told why
            → (status ≡ bad_listing → (fault ≡ fault_of why) × (index ≡ line_told why - 1))
            → ShowsVerify t frame window tiles addrs status fault index
        shows_wrong why status is its_status told = record {
          right = λ e. absurd (fault_not_ok why (sym its_status ∙ e));
          complete = λ _ _ right. no_room answer why _ status is its_status (moved.complete _ (are_right t _ _ tiles addrs own read right));
          not_asked = (λ e. absurd (fault_not_words why (sym its_status ∙ e)), λ asks_not. absurd (asks_not asked));
          names_none = (λ e. absurd (fault_not_address why (sym its_status ∙ e)), λ w. absurd (w.1 given.named));
          wrong = λ _ _ _ _. inr (record {
            entries = each;
            why = why;
            frame = g;
            grown = moved.verdict.frame;
            cause = cause;
            its_status = its_status;
            its_fault = λ e. (told e).0;
            some_fault = λ e. subst (λ (n : ℕ). 2 ≤ n) (sym (told e).0)
                (some_fault t _ g _ (entries_given tiles addrs) why cause (sym its_status ∙ e));
            its_index = λ e. (told e).1;
          });
        }
          where
            told_cause : IsCauseIn t (frame_in frame) g (window_in t.order window) (let r : Reading = Ok (entries_of own) in r) why
            told_cause = subst (λ (a : Result ℕ ListFault). IfErr a (λ x. IsCauseIn t (frame_in frame) g (window_in t.order window)
                (let r : Reading = Ok (entries_of own) in r) x)) is moved.verdict.cause

            cause : IsCauseIn t (frame_in frame) g (window_in t.order window) (let r : Reading = Ok (entries_given tiles addrs) in r) why
            cause = subst (λ (es : List Entry). IsCauseIn t (frame_in frame) g (window_in t.order window)
                (let r : Reading = Ok es in r) why) read told_cause
