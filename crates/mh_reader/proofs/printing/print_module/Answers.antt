use Rattle.std.proofs.Common.{◌++◌, ap, sym, subst, ◌∙◌}
use Rattle.mh_lex.specs.LexemeTexts.{laid_out}
use Rattle.mh_reader_parser.specs.Spelling.{Spells}
use Rattle.mh_reader.specs.code.Printed.{module_pieces}
use Rattle.mh_reader.proofs.PrintedSpells.{printed_spells, printed_read}
use Rattle.mh_reader.proofs.printing.print_module.Goals as goal

pub returns-clause-spelled : goal.returns-clause-spelled
returns-clause-spelled c bytes h =
    let text = c.in_ok-write_module.ensures ∙ ap (λ k. k ++ laid_out (module_pieces c.args.«module».now)) c.new-text.ensures.items in
    subst (λ k. Spells k c.args.«module».now) (sym text) (printed_spells bytes c.args.«module».now h)

pub returns-clause-again : goal.returns-clause-again
returns-clause-again c bytes h answer r e =
    let text = c.in_ok-write_module.ensures ∙ ap (λ k. k ++ laid_out (module_pieces c.args.«module».now)) c.new-text.ensures.items in
    let spelled = subst (λ k. Spells k c.args.«module».now) (sym text) (printed_spells bytes c.args.«module».now h) in
    printed_read c.write_module.new.text.items c.args.«module».now answer c.spelled_once.ensures spelled r e
