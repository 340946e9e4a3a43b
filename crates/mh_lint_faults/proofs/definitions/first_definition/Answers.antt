use Rattle.std.proofs.Common.{◌≡◌, ◌<◌, ◌≤◌, ap, arith, get_or, length, sym, ◌∙◌}
use Rattle.std.proofs.lemmas.List.{length-map}
use Rattle.mh_join_names.specs.code.SymbolTables.{meanings_in}
use Rattle.mh_reader_places.specs.declared.reading.PlacedModule.{PlacedModule}
use Rattle.mh_rules.specs.declared.modules.Module.{Module}
use Rattle.mh_lint_faults.proofs.FirstMentions.{none_in_more}
use Rattle.mh_lint_faults.proofs.IsDefinedAt.{Defines, defined_at, defined_nowhere, found_in_file}
use Rattle.mh_lint_faults.proofs.NumberTests.{no_number}
use Rattle.mh_lint_faults.proofs.SplitFiles.{file_at, mentions_at, module_at}
use Rattle.mh_lint_faults.proofs.definitions.first_definition.Goals as goal

pub returns-in-Some : goal.returns-in-Some
returns-in-Some c = λ found split.
    let w = meanings_in c.args.names.now in
    let lt : c.loop-at.at < length c.args.read.now.modules.items = (let a = c.loop-at-test.true in let b = ap length c.deref-module-items.ensures.value in omega (arith, a, b)) in
    let f = file_at found c.args.read.now split c.loop-at.at lt in
    let em = c.in_ok-file.ensures.contents ∙ c.module-item.is ∙ ap (λ xs. get_or xs c.loop-at.at c.module-item.result) c.deref-module-items.ensures.value ∙ module_at found c.args.read.now split c.loop-at.at f.0 c.module-item.result f.1 in
    let ex = c.as_slice.ensures ∙ c.index.ensures ∙ mentions_at found c.args.read.now split c.loop-at.at f.0 c.index.result.now f.1 in
    defined_at w c.args.number found c.loop-at.at f.0 c.in-Some.start f.1 (c.loop-at.invariant found split)
    (found_in_file w c.args.number c.loop-at.at f.0 c.in_ok-file.file.number c.in_ok-file.file.module.now c.as_slice.result.now _ c.in_ok-file.ensures.number em ex c.in-Some.ensures)

pub loop-at-preserved : goal.loop-at-preserved
loop-at-preserved c = λ found split.
    let w = meanings_in c.args.names.now in
    let lt : c.loop-at.at < length c.args.read.now.modules.items = (let a = c.loop-at-test.true in let b = ap length c.deref-module-items.ensures.value in omega (arith, a, b)) in
    let f = file_at found c.args.read.now split c.loop-at.at lt in
    let em = c.in_ok-file.ensures.contents ∙ c.module-item.is ∙ ap (λ xs. get_or xs c.loop-at.at c.module-item.result) c.deref-module-items.ensures.value ∙ module_at found c.args.read.now split c.loop-at.at f.0 c.module-item.result f.1 in
    let ex = c.as_slice.ensures ∙ c.index.ensures ∙ mentions_at found c.args.read.now split c.loop-at.at f.0 c.index.result.now f.1 in
    none_in_more found (Defines w c.args.number) c.loop-at.at f.0 f.1 (c.loop-at.invariant found split)
    (rw (no_number c.definition_in.result c.in_default.not-Some) at (found_in_file w c.args.number c.loop-at.at f.0 c.in_ok-file.file.number c.in_ok-file.file.module.now c.as_slice.result.now c.definition_in.result c.in_ok-file.ensures.number em ex c.definition_in.ensures))

pub returns : goal.returns
returns c = λ found split.
    let le : length found ≤ c.loop-at.at = (let a = c.loop-at-test.false in let b = ap length c.deref-module-items.ensures.value in let d = ap length split.modules in let e = length-map found (λ (p : PlacedModule). p.module) in omega (arith, a, b, d, e)) in
    defined_nowhere (meanings_in c.args.names.now) c.args.number found c.loop-at.at le (c.loop-at.invariant found split)
