use Rattle.std.proofs.Common.{◌≡◌, refl, ◌∙◌, length}
use Rattle.mh_grammar.specs.Plain.{rhs_of}
use Rattle.mh_facts.specs.code.BestFirst.{IsPathEnd}
use Rattle.mh_facts.proofs.IsPathEnd.{path_end_unique}
use Rattle.mh_reach_classes.specs.declared.leading_reductions.Reduction.{Reduction}
use Rattle.mh_reach_classes.specs.code.Reductions.{IsReductionBy}
use Rattle.mh_facts.proofs.ListGains.{collects_by}
use Rattle.mh_reach_classes.proofs.leading_reductions.note_one.Goals as goal

pub returns-in_ok-note-in-Some : goal.returns-in_ok-note-in-Some
returns-in_ok-note-in-Some c =
    let t = c.args.table.now in
    let p = c.args.production in
    let ends : IsPathEnd t c.args.from p (length (rhs_of t.grammar p)) c.in-Some.end = rw c.in-Some.is at c.end_of.ensures in
    let here : Reduction = record { end = c.in-Some.end; production = p; target = c.args.target } in
    collects_by (λ r. r ≡ here) (IsReductionBy t c.args.from c.args.target p) c.args.past.now.keys c.note.new.past.keys
    (λ r is. record { end = c.in-Some.end; ends = ends; is = is })
    (λ r s. (let one = path_end_unique t c.args.from p (length (rhs_of t.grammar p)) s.end c.in-Some.end s.ends ends in s.is ∙ rw one refl))
    c.in_ok-note-in-Some.ensures
