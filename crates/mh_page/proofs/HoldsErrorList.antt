-- The room for out holds the list of errors that a run has written.
use Rattle.std.proofs.Common.{ℕ, subst}
use Rattle.mh_grammar.specs.Text.{Text}
use Rattle.mh_top_claims.proofs.Headline.{lists_errors}
use Rattle.mh_page.specs.Answers.{before, after, IsRun}
use Rattle.mh_page.specs.Given.{Given}
use Rattle.mh_page.specs.Headline.{HoldsErrorList}
use Rattle.mh_page.specs.Rooms.{Holds}

pub holds_error_list : (g : Given) (out err : Text) (status : ℕ) (room filled : Text) (len : ℕ) → IsRun g out err status → Holds out room filled len → HoldsErrorList g room filled len status
holds_error_list g out err status room filled len run holds order asked job done =
    let listed = lists_errors g.words (before g) (after g run.left out err) status run.ran order asked job done in
    (listed.0, listed.1, listed.2, listed.3, (listed.4.0, listed.4.1, subst (λ t. Holds t room filled len) listed.4.2 holds))
