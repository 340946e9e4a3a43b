use Rattle.std.proofs.Common.{◌≡◌, ◌∙◌, ◌++◌, ◌∷◌, [], ap, append_assoc}
use Rattle.mh_grammar.specs.Text.{Text}
use Rattle.mh_msgfile.specs.FileTexts.{names_after}
use Rattle.mh_report.specs.Comments.{expected_title}
use Rattle.mh_report.proofs.lines.write_expected_line.Goals as goal

pub returns : goal.returns
unfolding expected_title
returns c =
    let old = c.args.text.now.items in
    let names = names_after c.args.grammar.now c.args.tokens.now in
    let title : c.extend_from_slice.new.self.items ≡ old ++ expected_title = c.in_ok-extend_from_slice.ensures.items in
    c.in_ok-push.ensures.items
    ∙ ap (λ (t : Text). t ++ 10 ∷ []) (c.in_ok-write_names.ensures ∙ ap (λ (t : Text). t ++ names) title ∙ append_assoc old expected_title names)
    ∙ append_assoc old (expected_title ++ names) (10 ∷ [])
