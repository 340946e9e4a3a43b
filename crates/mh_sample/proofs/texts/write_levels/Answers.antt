use Rattle.std.proofs.Common.{arith}
use Rattle.mh_sample.specs.Texts.{level_line}
use Rattle.mh_sample.proofs.TextsInParts.{each_none, each_push}
use Rattle.mh_sample.proofs.texts.write_levels.Goals as goal

pub loop-place-init : goal.loop-place-init
loop-place-init c = each_none level_line 1 c.args.text.now.items

pub loop-place-preserved : goal.loop-place-preserved
loop-place-preserved c = each_push level_line 1 c.loop-place.place _ c.loop-place.text.items c.write_level.new.text.items c.args.text.now.items (omega arith) c.loop-place.invariant c.in_ok-write_level.ensures
