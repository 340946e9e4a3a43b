use Rattle.std.proofs.Common.{◌-◌, rules}
use Rattle.std.specs.Prelude.{codes}
use Rattle.mh_sample.specs.Texts.{each_from, token_line, level_line, last_level_line}
use Rattle.mh_sample.proofs.TextsInParts.{six_parts, grammar_by}
use Rattle.mh_sample.proofs.texts.sample_grammar.Goals as goal

pub returns : goal.returns
returns c =
    let k = c.operators-operators.result in
    grammar_by c.args.number k c.extend_from_slice-2.new.self.items c.operators-operators.ensures
    (six_parts (codes "%token EOF LP RP INT\n") (each_from token_line 1 k) (codes "%start main\n%%\nmain: e1 EOF {}\n") (each_from level_line 1 (k - 1)) (last_level_line k) (codes "a: INT {} | LP e1 RP {}\n")
    c.in_ok-text.text.items _ _ _ _ _ (search rules) c.in_ok-write_tokens.ensures c.in_ok-extend_from_slice.ensures.items c.in_ok-write_levels.ensures c.in_ok-write_last_level.ensures c.in_ok-extend_from_slice-2.ensures.items)
