use Rattle.std.proofs.lemmas.Result.{on_ok_weaker}
use Rattle.mh_lint_faults.proofs.TermText.{term_written}
use Rattle.mh_lint_faults.proofs.terms.+terms.Goals as goal

pub write_term-returns : goal.write_term-returns
write_term-returns t c =
    on_ok_weaker c.write_arguments.result (λ e. term_written c.args.joined.now c.args.term.now c.args.text.now.items c.write_head.new.text.items c.write_arguments.new.text.items c.in_ok-write_head.ensures e) (rw c.as_slice.ensures at c.write_arguments.ensures)
