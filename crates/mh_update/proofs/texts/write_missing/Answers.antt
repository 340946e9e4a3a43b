use Rattle.std.proofs.Common.{◌≡◌, ◌++◌, ℕ, List, ap, ◌∙◌, append_assoc}
use Rattle.std.specs.Prelude.{codes}
use Rattle.mh_update.specs.MissingStates.{missing_line, missing_state_text}
use Rattle.mh_update.proofs.texts.write_missing.Goals as goal

regroup : (o a b c d e : List ℕ) → ((((o ++ a) ++ b) ++ c) ++ d) ++ e ≡ o ++ ((((a ++ b) ++ c) ++ d) ++ e)
regroup o a b c d e = simp append_assoc

pub returns : goal.returns
unfolding missing_line
returns c =
    let left = c.args.left.now in
    let right = c.args.right.now in
    c.in_ok-extend_from_slice-4.ensures.items
    ∙ ap (λ (t : List ℕ). t ++ codes "\n")
    (c.in_ok-extend_from_slice-3.ensures.items
    ∙ ap (λ (t : List ℕ). t ++ right) (c.in_ok-extend_from_slice-2.ensures.items ∙ ap (λ (t : List ℕ). t ++ codes " is missing in ") (c.in_ok-extend_from_slice.ensures.items ∙ ap (λ (t : List ℕ). t ++ left) c.in_ok-write_state.ensures)))
    ∙ regroup c.args.text.now.items (missing_state_text c.args.state) left (codes " is missing in ") right (codes "\n")
