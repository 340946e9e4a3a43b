use Rattle.std.proofs.Common.{take}
use Rattle.std.specs.HashMap.{get}
use Rattle.mh_join_names.specs.Names.{same}
use Rattle.mh_lint_faults.specs.code.MentionContexts.{HasOwnPrecs}
use Rattle.mh_lint.specs.code.LevelUses.{NoPlace}
use Rattle.mh_lint.proofs.AddsUses.{AddsBelow}
use Rattle.mh_lint.proofs.UsedPrecNames.{IsNamedAt}
use Rattle.mh_lint.proofs.levels.UsedLevels.put_precs.Given as goal

abbrev pub invariant-loop-mention : goal.invariant-loop-mention
invariant-loop-mention l = record {
  uses : AddsBelow (IsNamedAt (λ a. get same l.aliases a) l.file l.fn.self.alternatives.keys l.mentions) (λ z. NoPlace) l.mention-index l.fn.self l.self;
  own : HasOwnPrecs (take l.mention-index l.mentions) l.own.keys;
}
