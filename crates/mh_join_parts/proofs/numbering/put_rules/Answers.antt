use Rattle.std.proofs.Common.{◌+◌, [], Some, map, sym, ap, ◌∙◌, arith}
use Rattle.std.specs.List.{flat_map}
use Rattle.std.proofs.lemmas.List.{take_all}
use Rattle.mh_join_names.specs.declared.numbering.Numbering.{Numbering}
use Rattle.mh_join_names.specs.Names.{files, same_rule, insert_all}
use Rattle.mh_join_names.specs.code.Numbering.{outline_by, outlines_in}
use Rattle.mh_join_parts.proofs.InsertsRules.{IsNumbered-empty, InsertsRules-none, InsertsRules-enum_more, insert_all-append}
use Rattle.mh_join_parts.proofs.numbering.put_rules.Goals as goal

pub put_maps-requires : goal.put_maps-requires
put_maps-requires c = c.requires.own

pub loop-at-init : goal.loop-at-init
loop-at-init c =
    let none : Numbering = record { public = c.args.numbering.now.public; own = c.put_maps.new.maps; rules = c.args.numbering.now.rules } in
    InsertsRules-none none (IsNumbered-empty none c.requires.public c.in_ok-put_maps.ensures.empty c.requires.rules)

pub loop-at-preserved : goal.loop-at-preserved
loop-at-preserved c =
    let none : Numbering = record { public = c.args.numbering.now.public; own = c.put_maps.new.maps; rules = c.args.numbering.now.rules } in
    InsertsRules-enum_more (outlines_in c.args.starts.now.keys) none c.loop-at.numbering c.add_rules.new.numbering 1 c.args.files.now c.loop-at.at (c.loop-at.at + 1) c.index-files-at.result c.loop-at-test.true c.index-files-at.is (omega arith) c.loop-at.invariant (rw c.as_slice.ensures at c.in_ok-add_rules.ensures)

pub returns-clause-rules : goal.returns-clause-rules
returns-clause-rules c =
    let from_files = flat_map (outlines_in c.args.starts.now.keys) (files c.args.files.now) in
    let from_prelude = map (outline_by (Some 0)) c.args.prelude.now in
    c.in_ok-add_prelude.ensures.rules
    ∙ ap (λ k. insert_all same_rule k from_prelude) (rw (take_all c.loop-at.at c.args.files.now c.loop-at-test.false) at c.loop-at.invariant.rules ∙ ap (λ k. insert_all same_rule k from_files) c.requires.rules)
    ∙ sym (insert_all-append same_rule [] from_files from_prelude)
