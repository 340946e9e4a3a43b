-- The answers that leave the room for out as it was, and put one line into the room for err.
use Rattle.std.proofs.Common.{◌≡◌, ℕ, [], ◌∷◌, refl, sym, subst}
use Rattle.mh_grammar.specs.Text.{Text}
use Rattle.mh_outside.specs.Shelf.{HasDistinctNames}
use Rattle.mh_top_drive.specs.Text.{out_of_memory}
use Rattle.mh_page.specs.Answers.{Answers, AreUtf8, IsRun, BadWords, TwoFilesOfOneName, Done, bad_words, two_files_of_one_name}
use Rattle.mh_page.specs.Given.{Given}
use Rattle.mh_page.specs.Rooms.{Holds, filled}
use Rattle.mh_page.proofs.IsRun.{run_without_memory}

same_room : (room : Text) → room ≡ filled [] room
same_room [] = refl
same_room (b ∷ room) = refl

holds_nothing : (room : Text) (len : ℕ) → len ≡ 0 → Holds [] room room len
holds_nothing room len is = record { bytes = same_room room; whole = is }

module _ (g : Given) (room err_old err_new : Text) (out_len err_len status : ℕ) where
  pub bad_words_refused : (AreUtf8 g.words → ⊥) → status ≡ 2 → out_len ≡ 0 → Holds bad_words err_old err_new err_len → Answers g room room out_len err_old err_new err_len status
  bad_words_refused bad two nothing line = record { out = []; err = bad_words; is_answer = BadWords bad two refl refl; on_out = holds_nothing room out_len nothing; on_err = line }

  pub files_refused : AreUtf8 g.words → (HasDistinctNames g.files → ⊥) → status ≡ 2 → out_len ≡ 0 → Holds two_files_of_one_name err_old err_new err_len → Answers g room room out_len err_old err_new err_len status
  files_refused good same two nothing line = record { out = []; err = two_files_of_one_name; is_answer = TwoFilesOfOneName good same two refl refl; on_out = holds_nothing room out_len nothing; on_err = line }

  pub answered_without_memory : AreUtf8 g.words → HasDistinctNames g.files → status ≡ 6 → out_len ≡ 0 → Holds out_of_memory err_old err_new err_len → Answers g room room out_len err_old err_new err_len status
  answered_without_memory good distinct six nothing line = record { out = []; err = out_of_memory; is_answer = Done good distinct (subst (λ n. IsRun g [] out_of_memory n) (sym six) (run_without_memory g)); on_out = holds_nothing room out_len nothing; on_err = line }
