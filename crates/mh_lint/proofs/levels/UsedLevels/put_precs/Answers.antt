use Rattle.std.proofs.Common.{[], length, refl, subst, sym, take}
use Rattle.std.specs.HashMap.{get}
use Rattle.std.proofs.lemmas.Option.{slice_get_read}
use Rattle.mh_grammar.proofs.Lists.{take_step}
use Rattle.mh_join_names.specs.Names.{same}
use Rattle.mh_lint_faults.specs.code.MentionContexts.{HasOwnPrecs}
use Rattle.mh_lint.specs.code.LevelUses.{NoPlace}
use Rattle.mh_lint.proofs.AddsUses.{none_below}
use Rattle.mh_lint.proofs.HasOwnPrecs.{no_own, own_more}
use Rattle.mh_lint.proofs.UsedPrecNames.{IsNamedAt, all_named, more_named}
use Rattle.mh_lint.proofs.levels.UsedLevels.put_precs.Goals as goal

pub loop-mention-init : goal.loop-mention-init
loop-mention-init c = record {
  uses = none_below (IsNamedAt (λ a. get same c.args.aliases.now a) c.args.file c.args.self.now.alternatives.keys c.args.mentions.now) (λ z. NoPlace) c.args.self.now;
  own = subst (λ keys. HasOwnPrecs [] keys) (sym c.new-own.ensures.empty) no_own;
}

pub loop-mention-preserved : goal.loop-mention-preserved
loop-mention-preserved c =
    let ms = c.args.mentions.now in
    let i = c.loop-mention.mention-index in
    let x = c.mention-item.result in
    record {
      uses = more_named (λ a. get same c.args.aliases.now a) c.args.file ms i x c.loop-mention.own.keys c.args.self.now c.loop-mention.self c.put_prec.new.self (slice_get_read ms (length ms) i x refl c.loop-mention-test.true c.mention-item.is) c.loop-mention.invariant.own c.loop-mention.invariant.uses c.in_ok-put_prec.ensures;
      own = subst (λ before. HasOwnPrecs before c.put_own.new.own.keys) (sym (take_step ms i x c.loop-mention-test.true c.mention-item.is)) (own_more (take i ms) x c.loop-mention.own.keys c.put_own.new.own.keys c.loop-mention.invariant.own c.in_ok-put_own.ensures);
    }

pub returns : goal.returns
returns c = all_named (λ a. get same c.args.aliases.now a) c.args.file c.args.mentions.now c.loop-mention.mention-index c.args.self.now c.loop-mention.self c.loop-mention-test.false c.loop-mention.invariant.uses
