use Rattle.std.proofs.Common.{refl}
use Rattle.mh_grammar.specs.Plain.{plain_of}
use Rattle.mh_grammar.proofs.FirstFlags.{flags_are_first, take_of_replaced, NullableSound-marks}
use Rattle.mh_grammar.proofs.firsts.first_flags.Goals as goal

pub loop-grown-preserved : goal.loop-grown-preserved
loop-grown-preserved c =
    let once = rw (c.as_slice.ensures, c.len-width.ensures, c.deref_mut.ensures.value) at c.add_once-grown.ensures in
    let w = take_of_replaced c.loop-grown.flags.len c.add_once-grown.new.flags c.loop-grown.flags.items once.grows.len c.loop-grown.flags.ok.0 in
    record {
      len = c.loop-grown.invariant.len;
      sound = rw w (once.sound (plain_of c.args.grammar.now) refl (NullableSound-marks _ _ c.requires.nullable) c.loop-grown.invariant.sound);
      added = rw w once.added;
    }

pub returns-clause-exact : goal.returns-clause-exact
returns-clause-exact c = flags_are_first (plain_of c.args.grammar.now) c.args.nullable.now _ c.loop-grown.flags.items c.requires.nullable c.loop-grown.invariant.sound (c.loop-grown.invariant.added c.loop-grown-test.false)
