use Rattle.std.proofs.Common.{◌≡◌, ◌≤◌, ◌++◌, ℕ, List, get_or, length, map, take, arith, subst, sym}
use Rattle.std.specs.Prelude.{OnOk}
use Rattle.mh_grammar.proofs.Lists.{take_step}
use Rattle.mh_reader_places.specs.declared.mentions.Mention.{Mention}
use Rattle.std.proofs.lemmas.Result.{on_ok_weaker}
use Rattle.mh_lint_findings.specs.Lines.{lines_of}
use Rattle.mh_lint.specs.Warnings.{cost_line}
use Rattle.mh_lint.specs.code.MentionUses.{AreUses, warning_lines}
use Rattle.mh_lint.proofs.AreFileLines.{all_lines, more_lines, no_lines}
use Rattle.mh_lint.proofs.IsInFile.{after_mentions, at_mention, costs_are, lines_of_file, mentions_are}
use Rattle.mh_lint.proofs.warning_walk.put_mention_lines.Goals as goal

pub loop-mention-init : goal.loop-mention-init
loop-mention-init c = λ cc h. record {
  uses = h.uses;
  lines = no_lines cc.stages cc.built cc.meanings cc.file c.as_slice-mention-items.result.now c.as_slice-costs.result.now c.args.findings.now.items;
}

pub loop-mention-preserved : goal.loop-mention-preserved
loop-mention-preserved c = λ cc h.
    let ms = c.as_slice-mention-items.result.now in
    let i = c.loop-mention.mention-index in
    let x = c.mention-item.result in
    let before = c.loop-mention.invariant cc h in
    let same : c.args.at ≡ cc.file = (let a = h.number in let b = c.requires.number in omega (arith, a, b)) in
    let are = mentions_are cc c.args.files.now c.args.file.now.number c.args.file.now.module.now c.args.uses.now h c.args.at ms c.requires.number (subst (λ (v : List Mention). v ≡ get_or c.args.files.now.read.mentions.items c.args.at v) (sym c.as_slice-mention-items.ensures) c.index-2.ensures) in
    let here = at_mention cc c.args.files.now c.args.file.now.number c.args.file.now.module.now c.args.uses.now h ms i x c.loop-mention.uses are c.loop-mention-test.true c.mention-item.is before.uses in
    record {
      uses = subst (λ (ys : List Mention). AreUses cc.stages cc.built cc.meanings cc.file ys c.warning_at.new.self) (sym (take_step ms i x c.loop-mention-test.true c.mention-item.is)) (c.in_ok-found.ensures.uses cc (take i ms) here);
      lines = more_lines cc.stages cc.built cc.meanings cc.file ms c.as_slice-costs.result.now i x c.loop-mention.costs.now c.split_at.result.0.now c.split_at.result.1.now c.costs_before.result c.in_ok-found.found c.args.findings.now.items c.loop-mention.findings.items c.put_costs.new.findings.items c.put_warning.new.findings.items c.loop-mention-test.true c.mention-item.is
          c.split_at.ensures.front c.split_at.ensures.back c.costs_before.ensures.before c.costs_before.ensures.none (c.in_ok-found.ensures.warning cc (take i ms) here) before.lines
          (subst (λ (n : ℕ). lines_of c.put_costs.new.findings.items ≡ lines_of c.loop-mention.findings.items ++ map (cost_line n) c.split_at.result.0.now) same c.in_ok-put_costs.ensures)
          (subst (λ (n : ℕ). lines_of c.put_warning.new.findings.items ≡ lines_of c.put_costs.new.findings.items ++ warning_lines n x.start c.in_ok-found.found) same c.in_ok-put_warning.ensures);
    }

pub returns : goal.returns
returns c = record {
  lines = λ cc h.
      let ms = c.as_slice-mention-items.result.now in
      let all = c.as_slice-costs.result.now in
      let i = c.loop-mention.mention-index in
      let past : length ms ≤ i = (let a = c.loop-mention-test.false in omega (arith, a)) in
      let mentions = mentions_are cc c.args.files.now c.args.file.now.number c.args.file.now.module.now c.args.uses.now h c.args.at ms c.requires.number (subst (λ (v : List Mention). v ≡ get_or c.args.files.now.read.mentions.items c.args.at v) (sym c.as_slice-mention-items.ensures) c.index-2.ensures) in
      let costs = costs_are cc c.args.files.now c.args.file.now.number c.args.file.now.module.now c.args.uses.now h c.args.at all c.requires.number (subst (λ (v : List ℕ). v ≡ get_or c.args.files.now.read.bad_costs.items c.args.at v) (sym c.as_slice-costs.ensures) c.index.ensures) in
      let same : c.args.at ≡ cc.file = (let a = h.number in let b = c.requires.number in omega (arith, a, b)) in
      on_ok_weaker c.put_costs-2.result
      (λ put. (let whole = all_lines cc.stages cc.built cc.meanings cc.file ms all i c.loop-mention.costs.now c.args.findings.now.items c.loop-mention.findings.items c.put_costs-2.new.findings.items past (c.loop-mention.invariant cc h).lines put in
      record { lines = whole.lines; are = lines_of_file cc c.args.files.now c.args.file.now.number c.args.file.now.module.now c.args.uses.now h ms all c.args.at whole.lines mentions costs c.requires.number whole.are; is = whole.is }))
      (subst (λ (n : ℕ). OnOk c.put_costs-2.result (lines_of c.put_costs-2.new.findings.items ≡ lines_of c.loop-mention.findings.items ++ map (cost_line n) c.loop-mention.costs.now)) same c.put_costs-2.ensures);
  uses = λ cc h.
      let ms = c.as_slice-mention-items.result.now in
      let i = c.loop-mention.mention-index in
      let past : length ms ≤ i = (let a = c.loop-mention-test.false in omega (arith, a)) in
      let mentions = mentions_are cc c.args.files.now c.args.file.now.number c.args.file.now.module.now c.args.uses.now h c.args.at ms c.requires.number (subst (λ (v : List Mention). v ≡ get_or c.args.files.now.read.mentions.items c.args.at v) (sym c.as_slice-mention-items.ensures) c.index-2.ensures) in
      on_ok_weaker c.put_costs-2.result (λ put. after_mentions cc c.args.files.now c.args.file.now.number c.args.file.now.module.now c.args.uses.now h ms i c.loop-mention.uses mentions past (c.loop-mention.invariant cc h).uses) c.put_costs-2.ensures;
}
