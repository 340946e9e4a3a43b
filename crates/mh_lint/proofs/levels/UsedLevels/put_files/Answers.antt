use Rattle.std.proofs.Common.{◌≡◌, ◌≤◌, ◌+◌, ℕ, List, Some, length, refl, subst}
use Rattle.std.specs.HashMap.{get}
use Rattle.std.specs.List.{slice_get}
use Rattle.std.proofs.lemmas.Option.{slice_get_read}
use Rattle.mh_join_names.specs.Names.{same}
use Rattle.mh_reader_places.specs.declared.mentions.Mention.{Mention}
use Rattle.mh_lint.specs.code.LevelUses.{AddsUses, IsPrecNameOf, IsUsedPrecName, NoPlace}
use Rattle.mh_lint.proofs.AddsUses.{adds_none, none_below}
use Rattle.mh_lint.proofs.IsPrecUsed.{used_nowhere}
use Rattle.mh_lint.proofs.AreUsedLevels.{all_files, more_files}
use Rattle.mh_lint.proofs.levels.UsedLevels.put_files.Goals as goal

pub returns-then-is_empty : goal.returns-then-is_empty
returns-then-is_empty c =
    let none : length c.args.self.now.alternatives.keys ≡ 0 = c.if-is_empty.ensures.0 refl in
    adds_none (λ x. (at : ℕ) × IsPrecNameOf (λ a. get same c.args.aliases.now a) c.args.read.now c.args.self.now.alternatives.keys at x) NoPlace c.args.self.now
    (λ x h. used_nowhere c.args.self.now.alternatives.keys (h.0 + 1) h.1.2.own h.1.2.mention.role none h.1.2.used) (λ file n never. never)

pub loop-at-init : goal.loop-at-init
loop-at-init c = none_below (IsPrecNameOf (λ a. get same c.args.aliases.now a) c.args.read.now c.args.self.now.alternatives.keys) (λ z. NoPlace) c.args.self.now

pub loop-at-preserved : goal.loop-at-preserved
loop-at-preserved c =
    let i = c.loop-at.at in
    let x = c.mentions-item.result in
    let lists = c.deref-mentions-items.result.now in
    let at : slice_get c.args.read.now.mentions.items i ≡ Some x = subst (λ xs. slice_get xs i ≡ Some x) c.deref-mentions-items.ensures.value (slice_get_read lists (length lists) i x refl c.loop-at-test.true c.mentions-item.is) in
    more_files (λ a. get same c.args.aliases.now a) c.args.read.now i x c.args.self.now c.loop-at.self c.put_precs.new.self at c.loop-at.invariant
    (subst (λ (ms : List Mention). AddsUses (IsUsedPrecName (λ a. get same c.args.aliases.now a) c.loop-at.self.alternatives.keys (i + 1) ms) NoPlace c.loop-at.self c.put_precs.new.self) c.as_slice.ensures c.in_ok-put_precs.ensures)

pub returns : goal.returns
returns c = all_files (λ a. get same c.args.aliases.now a) c.args.read.now c.loop-at.at c.args.self.now c.loop-at.self (subst (λ (xs : List (List Mention)). length xs ≤ c.loop-at.at) c.deref-mentions-items.ensures.value c.loop-at-test.false) c.loop-at.invariant
