-- Runs over what a caller gives: the run for which memory runs out before the work begins, and what each run does.
use Rattle.std.proofs.Common.{◌≡◌, ◌⊎◌, inl, inr, ℕ, [], refl, sym, ◌∙◌, ap, arith}
use Rattle.mh_grammar.specs.Text.{Text}
use Rattle.mh_top_drive.specs.Statuses.{status_of}
use Rattle.mh_top_drive.specs.Text.{out_of_memory}
use Rattle.mh_top_claims.specs.Claims.{HasNoDeviceFault}
use Rattle.mh_top_claims.specs.Run.{NoMemory, Nothing, DoesWork, text_on_err}
use Rattle.mh_top_claims.proofs.Claims.{meets_claims}
use Rattle.mh_top_claims.proofs.WorkUnique.{run_once}
use Rattle.mh_page.specs.Answers.{before, after, IsRun}
use Rattle.mh_page.specs.Given.{Given}

-- Memory ran out before the work began.
pub run_without_memory : (g : Given) → IsRun g [] out_of_memory 6
run_without_memory g = record {
  left = g.input;
  ran = NoMemory refl (record { out = refl; err = refl }) refl (Nothing (record { out = refl; left = refl; input_faults = refl; out_faults = refl }) refl);
}

pub no_device_fault : (g : Given) (left out err : Text) → HasNoDeviceFault (before g) (after g left out err)
no_device_fault g left out err = record { shelf = omega arith; input = omega arith; out = omega arith; err = omega arith }

module _ (g : Given) (out err : Text) (status : ℕ) (run : IsRun g out err status) where
  pub does_work : (status ≡ 6) ⊎ DoesWork g.words (before g) (after g run.left out err) status
  does_work = (meets_claims g.words (before g) (after g run.left out err) status run.ran).complete (no_device_fault g run.left out err)

  pub never_four : status ≡ 4 → ⊥
  never_four is = elim ((meets_claims g.words (before g) (after g run.left out err) status run.ran).write_fault is) [ inl rose ↦ absurd (omega arith) | inr rose ↦ absurd (omega arith) ]

  pub does_work_with_memory : (status ≡ 6 → ⊥) → DoesWork g.words (before g) (after g run.left out err) status
  does_work_with_memory not_six = elim does_work [ inl six ↦ absurd (not_six six) | inr work ↦ work ]

-- Two runs for which memory suffices are equal.
pub one_run : (g : Given) (out err out' err' : Text) (status status' : ℕ) → IsRun g out err status → IsRun g out' err' status' → (status ≡ 6 → ⊥) → (status' ≡ 6 → ⊥) → (out ≡ out') × (err ≡ err') × (status ≡ status')
one_run g out err out' err' status status' run run' not_six not_six' =
    let a = does_work_with_memory g out err status run not_six in
    let b = does_work_with_memory g out' err' status' run' not_six' in
    let once : (a.work ≡ b.work) × (a.outcome ≡ b.outcome) = run_once g.words g.files g.input a.work b.work a.outcome b.outcome a.is_asked a.yields b.is_asked b.yields in (
      a.on_out ∙ ap (λ o. o.out) once.1 ∙ sym b.on_out,
      a.on_err ∙ ap (λ w. text_on_err w a.outcome) once.0 ∙ ap (λ o. text_on_err b.work o) once.1 ∙ sym b.on_err,
      a.status_is ∙ ap (λ o. status_of o.cause) once.1 ∙ sym b.status_is,
    )
