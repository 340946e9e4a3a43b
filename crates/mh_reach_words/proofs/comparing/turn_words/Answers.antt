use Rattle.std.proofs.Common.{ap, ◌≡◌, arith}
use Rattle.mh_reach_words.specs.declared.word_parts.LastPart.TheVariants as lasts
use Rattle.mh_reach_words.specs.code.Words.{words_of, group_of}
use Rattle.mh_reach_words.proofs.IsComparisonStep.{same_parts, left_word_known, right_word_known, left_first, right_first}
use Rattle.mh_reach_words.proofs.comparing.turn_words.Goals as goal

pub returns-then-left-right : goal.returns-then-left-right
returns-then-left-right c = same_parts (words_of c.args.entries.now) c.args.rests.now (lasts.Word c.args.left) (lasts.Word c.args.right) (ap lasts.Word c.if-left-right.true) c.requires.tops

pub group_at-left_group-requires : goal.group_at-left_group-requires
group_at-left_group-requires c = left_word_known (words_of c.args.entries.now) c.args.rests.now c.args.left _ c.requires.tops

pub group_at-right_group-requires : goal.group_at-right_group-requires
group_at-right_group-requires c = right_word_known (words_of c.args.entries.now) c.args.rests.now c.args.right _ c.requires.tops

pub returns-then-left-right-2 : goal.returns-then-left-right-2
returns-then-left-right-2 c =
    let same : group_of (words_of c.args.entries.now) c.args.left ≡ group_of (words_of c.args.entries.now) c.args.right = (let a = c.group_at-left_group.ensures in let b = c.group_at-right_group.ensures in let le = c.if-left_group-right_group.false in let ge = c.if-right_group-left_group.false in omega arith) in
    left_first (words_of c.args.entries.now) c.args.rests.now c.args.left c.args.right c.requires.sound.groups c.requires.tops same c.if-left-right-2.true

pub returns : goal.returns
returns c =
    let same : group_of (words_of c.args.entries.now) c.args.left ≡ group_of (words_of c.args.entries.now) c.args.right = (let a = c.group_at-left_group.ensures in let b = c.group_at-right_group.ensures in let le = c.if-left_group-right_group.false in let ge = c.if-right_group-left_group.false in omega arith) in
    right_first (words_of c.args.entries.now) c.args.rests.now c.args.left c.args.right c.requires.sound.groups c.requires.tops same (let apart = c.if-left-right.false in let ge = c.if-left-right-2.false in omega arith)
