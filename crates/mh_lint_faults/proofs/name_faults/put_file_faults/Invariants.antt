use Rattle.std.proofs.Common.{◌≡◌, ◌-◌, ◌++◌, take, drop}
use Rattle.mh_join_names.specs.code.SymbolTables.{meanings_in}
use Rattle.mh_lint_findings.specs.Lines.{lines_of}
use Rattle.mh_lint_faults.specs.FaultLines.{fault_lines}
use Rattle.mh_lint_faults.specs.NameFaults.{faults_from, name_faults}
use Rattle.mh_lint_faults.specs.code.MentionContexts.{IsContext}
use Rattle.mh_lint_faults.proofs.name_faults.put_file_faults.Given as goal

abbrev pub invariant-loop-mention : goal.invariant-loop-mention
invariant-loop-mention l = record {
  context : IsContext l.names.starts.keys l.file.module.now (take l.mention-index l.mentions) l.context;
  lines : lines_of l.findings.items ++ fault_lines (l.file.number - 1) (faults_from (meanings_in l.names) l.file.number l.file.module.now (take l.mention-index l.mentions) (drop l.mention-index l.mentions))
      ≡ lines_of l.fn.findings.items ++ fault_lines (l.file.number - 1) (name_faults (meanings_in l.names) l.file.number l.file.module.now l.mentions);
}
