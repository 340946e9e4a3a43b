use Rattle.std.proofs.Common.{◌≡◌, ◌≤◌, ap, arith, length, sym, true, false, ◌∙◌}
use Rattle.std.specs.List.{Contains}
use Rattle.std.proofs.lemmas.List.{take_all}
use Rattle.mh_reader_places.specs.declared.mentions.Role.{Role}
use Rattle.mh_reader_places.specs.declared.mentions.Role.TheVariants as roles
use Rattle.mh_lint_faults.proofs.FirstMentions.{first_at, none_more, none_of}
use Rattle.mh_lint_faults.proofs.IsWrongAt.{other_head}
use Rattle.mh_lint_faults.proofs.arity.first_in_file.Goals as goal
use Rattle.mh_lint_faults.proofs.arity.first_in_file.Goals.{in-Head+else-has_key, in_default}

pub returns-then-has_key : goal.returns-then-has_key
returns-then-has_key c =
    first_at _ c.args.mentions.now c.loop-mention.mention-index c.mention-item.result c.loop-mention-test.true c.mention-item.is c.loop-mention.invariant
    (record { place = c.in-Head.alternative; producer = c.in-Head.producer; role_is = c.in-Head.is; is_found = c.has_key.ensures.0 c.if-has_key.true })

pub loop-mention-preserved : goal.loop-mention-preserved
loop-mention-preserved c = none_more _ c.args.mentions.now c.loop-mention.mention-index c.mention-item.result c.loop-mention-test.true c.mention-item.is c.loop-mention.invariant (λ is. elim c.match-mention.branch [
  | in-Head+else-has_key w ↦ (let there = other_head c.args.found.now.keys c.args.file c.mention-item.result w.in-Head.alternative w.in-Head.producer w.in-Head.is is in let both : true ≡ false = sym (w.has_key.ensures.1 there) ∙ w.if-has_key.false in cc)
  | in_default w ↦ w.in_default.not-Head is.place is.producer is.role_is
])

pub returns : goal.returns
returns c =
    let past : length c.args.mentions.now ≤ c.loop-mention.mention-index = (let a = c.loop-mention-test.false in omega (arith, a)) in
    none_of _ c.args.mentions.now (λ x there. c.loop-mention.invariant x (rw (take_all c.loop-mention.mention-index c.args.mentions.now past) there))
