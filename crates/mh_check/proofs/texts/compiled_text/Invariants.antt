use Rattle.mh_check.proofs.CompiledText.{WrittenTo}
use Rattle.mh_check.proofs.texts.compiled_text.Given as goal

abbrev pub invariant-loop-state : goal.invariant-loop-state
invariant-loop-state l = WrittenTo l.compiled l.text.items l.state
