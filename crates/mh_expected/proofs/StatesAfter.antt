-- Lemmas on a run that overshoots, that is, asks for a token after the last one.
use Rattle.std.proofs.Common.{◌≡◌, ℕ, ◌+◌, ◌<◌, ◌≤◌, List, [], ◌∷◌, ◌++◌, length, get_or, Some, None, Option, refl, sym, ap, subst, ◌∙◌}
use Rattle.std.proofs.lemmas.List.{drop_all}
use Rattle.mh_tables_core.specs.Table.{TableData}
use Rattle.mh_tables_core.specs.Run.{Config, RunMove, Accepts, Asks, Refuses, Shifts, Reduces, initial, after, run_move_of, top_of, step_by, Ends, Ending, VerdictOf, Accepted, Overshot, Rejected}
use Rattle.mh_tables_core.specs.NextActions.{move_for}
use Rattle.mh_tables_core.specs.declared.moves.NextAction.{NextAction}
use Rattle.mh_tables_core.specs.declared.moves.NextAction.TheVariants as choices
use Rattle.mh_tables_core.proofs.MoveCases.{no_ask_with_token, no_refusal_at_end}
use Rattle.mh_tables_core.proofs.RunEnds.{ending_unique}
use Rattle.mh_tables_core.proofs.Reductions.{no_shift_at_end}
use Rattle.mh_run.proofs.RunsObserved.{VerdictOf-observed}
use Rattle.mh_run.proofs.RunProgress.{at, RunProgress, so_far_settled, token_ends_run, end_of_word_ends_run}
use Rattle.mh_expected.specs.Expected.{Overshoots}
use Rattle.mh_expected.specs.code.Trials.{null_observer, Settles, AsksOn}

-- A choice other than a shift gives a move other than a shift.
pub no_shift : (choice : NextAction) → ((j : ℕ) → choice ≡ choices.Shift j → ⊥) → (j : ℕ) → move_for choice ≡ Shifts j → ⊥
no_shift choices.Accept none j e = cc
no_shift choices.Ask none j e = cc
no_shift choices.Refuse none j e = cc
no_shift (choices.Shift i) none j e = none i refl
no_shift (choices.Reduce p) none j e = cc

-- A run with the verdict `Overshot` has no other verdict.
other_ending : (t : TableData) (start : ℕ) (w : List ℕ) → Overshoots t start w → (how : Ending) → VerdictOf t start w how → ((s : ℕ) → how ≡ Overshot s → ⊥) → ⊥
other_ending t start w o how v other = other o.0 (ending_unique t (initial start w) how (Overshot o.0) v o.1)

module _ (t : TableData) (start : ℕ) (w : List ℕ) (o : Overshoots t start w) (old : List ℕ) (read : ℕ) (h : RunProgress null_observer t start w tt old read tt) where
  -- Each token of the sentence is shifted.
  pub only_shifts : (new : List ℕ) (z : ℕ) (m : RunMove) → read < length w → z ≡ get_or w read 0 → Settles t (Some z) old new m → ((j : ℕ) → m ≡ Shifts j → ⊥) → ⊥
  only_shifts new z Accepts lt e s none =
      other_ending t start w o (Accepted read) (VerdictOf-observed null_observer t start w tt tt (Accepted read) (token_ends_run null_observer t start w tt old new read z tt tt Accepts (Accepted read) h lt e s refl)) (λ q x. cc)
  only_shifts new z Asks lt e s none = no_ask_with_token t (top_of new) z [] s.next
  only_shifts new z Refuses lt e s none =
      other_ending t start w o (Rejected read (top_of new)) (VerdictOf-observed null_observer t start w tt tt (Rejected read (top_of new)) (token_ends_run null_observer t start w tt old new read z tt tt Refuses (Rejected read (top_of new)) h lt e s refl)) (λ q x. cc)
  only_shifts new z (Shifts j) lt e s none = none j refl
  only_shifts new z (Reduces p) lt e s none = s.settled p refl

  -- After all tokens the run asks for one more token.
  last_asks : (new : List ℕ) (m : RunMove) → length w ≤ read → Settles t None old new m → m ≡ Asks
  last_asks new Accepts le s =
      absurd (other_ending t start w o (Accepted read) (VerdictOf-observed null_observer t start w tt tt (Accepted read) (end_of_word_ends_run null_observer t start w tt old new read tt tt Accepts (Accepted read) h le s refl)) (λ q x. cc))
  last_asks new Asks le s = refl
  last_asks new Refuses le s = absurd (no_refusal_at_end t (top_of new) s.next)
  last_asks new (Shifts j) le s = absurd (no_shift_at_end t (top_of new) j s.next)
  last_asks new (Reduces p) le s = absurd (s.settled p refl)

  pub asks_on : (new : List ℕ) (m : RunMove) → length w ≤ read → Settles t None old new m → AsksOn t start w new
  asks_on new m le s =
      let none = drop_all read w le in
      let there = so_far_settled null_observer t start w tt old read tt h None [] new tt m none s in
      record {
        steps = there.steps;
        read = read;
        reaches = there.reaches ∙ ap (at new read) none;
        asks = s.next ∙ last_asks new m le s;
      }
