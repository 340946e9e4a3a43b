use Rattle.std.proofs.Common.{◌++◌, ◌≢◌, ◌≡◌, None, Some, codes}
use Rattle.std.specs.Borrow.{Bor}
use Rattle.std.proofs.lemmas.Bool.Decides.{Decides-eqb}
use Rattle.std.proofs.lemmas.Slice.Eq.{strip_prefix_is, strip_suffix_is}
use Rattle.mh_grammar.specs.Text.{Text}
use Rattle.mh_top_check.proofs.IsBareLine.{bare_of_program, not_taken, without_end, without_name}
use Rattle.mh_top_check.proofs.checking.bare_line.Goals as goal

pub returns-in_default : goal.returns-in_default
returns-in_default c =
    let whole : Text = c.args.line.now in
    without_name whole (not_taken ((rest : Text) → whole ≢ codes "menhir: " ++ rest) (λ (x : Bor Text). whole ≡ codes "menhir: " ++ x.now) c.strip_prefix.result (strip_prefix_is Decides-eqb whole (codes "menhir: ") c.strip_prefix.result c.strip_prefix.ensures.cases) c.in_default.not-Some)

pub returns-in-Some-strip_suffix : goal.returns-in-Some-strip_suffix
returns-in-Some-strip_suffix c =
    bare_of_program c.args.line.now c.in-Some.rest.now c.in-Some-strip_suffix.bare.now (strip_prefix_is Decides-eqb c.args.line.now (codes "menhir: ") (Some c.in-Some.rest) c.in-Some.ensures.cases)
    (strip_suffix_is Decides-eqb c.in-Some.rest.now (codes "\n") (Some c.in-Some-strip_suffix.bare) c.in-Some-strip_suffix.ensures.cases)

pub returns-in-None : goal.returns-in-None
returns-in-None c =
    without_end c.args.line.now c.in-Some.rest.now (strip_prefix_is Decides-eqb c.args.line.now (codes "menhir: ") (Some c.in-Some.rest) c.in-Some.ensures.cases)
    (strip_suffix_is Decides-eqb c.in-Some.rest.now (codes "\n") None c.in-None.ensures.cases)
