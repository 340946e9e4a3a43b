use Rattle.std.proofs.Common.{◌≡◌, ◌++◌, drop, map}
use Rattle.mh_tabfile_form.specs.Form.{production_line}
use Rattle.mh_tabfile.specs.code.Texts.{lines_written}
use Rattle.mh_tabfile_form.specs.TableContent.{raw_production}
use Rattle.mh_tabfile.proofs.writing.write_productions.Given as goal

abbrev pub invariant-loop-production : goal.invariant-loop-production
invariant-loop-production l = record {
  rest : l.text.items ++ lines_written (map production_line (map (raw_production l.grammar) (drop l.production-index l.productions))) ≡ l.initial.text.items ++ lines_written (map production_line (map (raw_production l.grammar) l.productions));
}
