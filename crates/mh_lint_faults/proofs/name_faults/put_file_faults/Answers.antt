use Rattle.std.proofs.Common.{◌-◌, ◌≤◌, arith, length, refl, take}
use Rattle.std.proofs.lemmas.List.{length-take-le}
use Rattle.mh_grammar.proofs.Lists.{take_step}
use Rattle.mh_join_names.specs.code.SymbolTables.{meanings_in}
use Rattle.mh_lint_faults.specs.code.FoundFaults.{listed}
use Rattle.mh_lint_faults.proofs.FaultsWritten.{fault_written, faults_end}
use Rattle.mh_lint_faults.proofs.MentionSteps.{few_rules}
use Rattle.mh_lint_faults.proofs.name_faults.put_file_faults.Goals as goal

pub loop-mention-init : goal.loop-mention-init
loop-mention-init c = record { context = c.in_ok-context.ensures c.args.names.now.starts.keys c.args.file.now.module.now; lines = refl }

pub loop-mention-preserved : goal.loop-mention-preserved
loop-mention-preserved c =
    let w = meanings_in c.args.names.now in
    let xs = c.args.mentions.now in
    let i = c.loop-mention.mention-index in
    let x = c.mention-item.result in
    let inv = c.loop-mention.invariant in
    record {
      context = rw (take_step xs i x c.loop-mention-test.true c.mention-item.is) (c.in_ok-found.ensures.context (take i xs) inv.context);
      lines = fault_written w c.args.file.now.number c.args.file.now.module.now (c.args.file.now.number - 1) xs i x (listed c.in_ok-found.found) _ _ _ c.loop-mention-test.true c.mention-item.is (c.in_ok-found.ensures.fault (take i xs) inv.context) inv.lines c.in_ok-put_found.ensures;
    }

pub returns : goal.returns
returns c =
    let xs = c.args.mentions.now in
    let past : length xs ≤ c.loop-mention.mention-index = (let a = c.loop-mention-test.false in omega (arith, a)) in
    faults_end (meanings_in c.args.names.now) c.args.file.now.number c.args.file.now.module.now (c.args.file.now.number - 1) xs c.loop-mention.mention-index _ _ past c.loop-mention.invariant.lines

pub fault_of-requires-clause-rules : goal.fault_of-requires-clause-rules
fault_of-requires-clause-rules c =
    let xs = c.args.mentions.now in
    let i = c.loop-mention.mention-index in
    let few = few_rules (take i xs) in
    let count = length-take-le i xs c.loop-mention.auto.mention-index-end in
    let rules = c.loop-mention.invariant.context.rules in
    let within = c.loop-mention-test.true in
    omega (arith, few, count, rules, within)
