use Rattle.std.proofs.Common.{◌++◌, ap, sym, ◌∙◌}
use Rattle.std.specs.Prelude.{codes}
use Rattle.mh_grammar.specs.Text.{Text}
use Rattle.mh_rebase.specs.declared.reason.DropReason.{DropReason}
use Rattle.mh_rebase.specs.RebasedText.{reason_text}
use Rattle.mh_rebase.proofs.dropping.write_reason.Goals as goal

pub returns-in_ok-write_named-in-UnknownStart : goal.returns-in_ok-write_named-in-UnknownStart
returns-in_ok-write_named-in-UnknownStart c =
    let old = c.args.text.now.items in
    c.in_ok-write_named-in-UnknownStart.ensures ∙ ap (λ (name : Text). old ++ (codes "unknown start " ++ name ++ codes "\n")) c.as_slice.ensures ∙ ap (λ (reason : DropReason). old ++ reason_text reason) (sym c.in-UnknownStart.is)
