-- There is one answer to what is given, unless memory runs out; and no answer has the status of a failed write.
use Rattle.std.proofs.Common.{◌≡◌, ℕ, sym, ◌∙◌, arith}
use Rattle.mh_grammar.specs.Text.{Text}
use Rattle.mh_page.specs.Answers.{IsAnswer, BadWords, TwoFilesOfOneName, Done}
use Rattle.mh_page.specs.Given.{Given}
use Rattle.mh_page.proofs.IsRun.{one_run, never_four}

pub no_write_fault : (g : Given) (out err : Text) (status : ℕ) → IsAnswer g out err status → status ≡ 4 → ⊥
no_write_fault g out err status (BadWords bad two nothing line) four = absurd (omega arith)
no_write_fault g out err status (TwoFilesOfOneName good same two nothing line) four = absurd (omega arith)
no_write_fault g out err status (Done good distinct run) four = never_four g out err status run four

pub one_answer : (g : Given) (out err out' err' : Text) (status status' : ℕ) → IsAnswer g out err status → IsAnswer g out' err' status' → (status ≡ 6 → ⊥) → (status' ≡ 6 → ⊥) → (out ≡ out') × (err ≡ err') × (status ≡ status')
one_answer g out err out' err' status status' (BadWords bad two nothing line) (BadWords bad' two' nothing' line') not_six not_six' = (nothing ∙ sym nothing', line ∙ sym line', two ∙ sym two')
one_answer g out err out' err' status status' (BadWords bad two nothing line) (TwoFilesOfOneName good' same' two' nothing' line') not_six not_six' = absurd (bad good')
one_answer g out err out' err' status status' (BadWords bad two nothing line) (Done good' distinct' run') not_six not_six' = absurd (bad good')
one_answer g out err out' err' status status' (TwoFilesOfOneName good same two nothing line) (BadWords bad' two' nothing' line') not_six not_six' = absurd (bad' good)
one_answer g out err out' err' status status' (TwoFilesOfOneName good same two nothing line) (TwoFilesOfOneName good' same' two' nothing' line') not_six not_six' = (nothing ∙ sym nothing', line ∙ sym line', two ∙ sym two')
one_answer g out err out' err' status status' (TwoFilesOfOneName good same two nothing line) (Done good' distinct' run') not_six not_six' = absurd (same distinct')
one_answer g out err out' err' status status' (Done good distinct run) (BadWords bad' two' nothing' line') not_six not_six' = absurd (bad' good)
one_answer g out err out' err' status status' (Done good distinct run) (TwoFilesOfOneName good' same' two' nothing' line') not_six not_six' = absurd (same' distinct)
one_answer g out err out' err' status status' (Done good distinct run) (Done good' distinct' run') not_six not_six' = one_run g out err out' err' status status' run run' not_six not_six'
