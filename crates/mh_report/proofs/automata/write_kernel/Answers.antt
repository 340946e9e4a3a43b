use Rattle.std.proofs.Common.{rules}
use Rattle.std.proofs.lemmas.Result.{on_ok_weaker}
use Rattle.mh_report_notation.proofs.KernelItems.{kernel_items}
use Rattle.mh_report.proofs.AutomatonParts.{kernel_text_is}
use Rattle.mh_report.proofs.automata.write_kernel.Goals as goal

pub write_item_lines-requires : goal.write_item_lines-requires
write_item_lines-requires g c =
    (search rules, (c.requires.few, kernel_items c.args.grammar.now c.args.automaton.now c.requires.automaton c.args.state c.index-kernel.result.now c.as_slice.result.now c.requires.state c.index-kernel.ensures c.as_slice.ensures))

pub returns : goal.returns
returns g c =
    on_ok_weaker c.write_item_lines.result (kernel_text_is c.args.grammar.now c.args.automaton.now c.args.state c.index-kernel.result.now c.as_slice.result.now c.args.text.now.items c.write_item_lines.new.text.items c.requires.state c.index-kernel.ensures c.as_slice.ensures) c.write_item_lines.ensures
