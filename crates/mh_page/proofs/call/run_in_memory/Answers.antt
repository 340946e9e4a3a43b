use Rattle.std.proofs.Common.{rules}
use Rattle.mh_page.proofs.Answers.{bad_words_refused, files_refused, answered_without_memory}
use Rattle.mh_page.proofs.HoldsErrorList.{holds_error_list}
use Rattle.mh_page.proofs.call.run_in_memory.Goals as goal

pub returns-then-not-are_utf8-clause-answer : goal.returns-then-not-are_utf8-clause-answer
returns-then-not-are_utf8-clause-answer c = bad_words_refused _ _ _ _ _ _ _ (search rules) c.refuse.ensures.status c.refuse.ensures.out c.refuse.ensures.err

pub returns-then-not-have_distinct_names-clause-answer :
    goal.returns-then-not-have_distinct_names-clause-answer
returns-then-not-have_distinct_names-clause-answer c = files_refused _ _ _ _ _ _ _ (search rules) (search rules) c.refuse-then-not-have_distinct_names.ensures.status c.refuse-then-not-have_distinct_names.ensures.out c.refuse-then-not-have_distinct_names.ensures.err

pub returns-in-Some-clause-errors : goal.returns-in-Some-clause-errors
returns-in-Some-clause-errors c = holds_error_list _ _ _ _ _ _ _ c.in-Some.ensures.ran c.fill.ensures

pub returns-in-None-clause-answer : goal.returns-in-None-clause-answer
returns-in-None-clause-answer c = answered_without_memory _ _ _ _ _ _ _ (search rules) (search rules) c.refuse-in-None.ensures.status c.refuse-in-None.ensures.out c.refuse-in-None.ensures.err
