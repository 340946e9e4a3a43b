use Rattle.mh_lint_states.specs.ConflictKinds as kinds
use Rattle.mh_lint_states.proofs.conflicts.kind_of.Goals as goal

pub returns-then-not-can_shift : goal.returns-then-not-can_shift
returns-then-not-can_shift g c = kinds.IsKindText.reduce_reduce (λ can. (let yes = c.can_shift.ensures.1 can in let not = c.if-not-can_shift.true in absurd cc))

pub returns-then-can_reduce_two : goal.returns-then-can_reduce_two
returns-then-can_reduce_two g c = kinds.IsKindText.shift_reduce_reduce (c.can_shift.ensures.0 c.if-not-can_shift.false) (c.can_reduce_two.ensures.0 c.if-can_reduce_two.true)

pub returns-else-can_reduce_two : goal.returns-else-can_reduce_two
returns-else-can_reduce_two g c = kinds.IsKindText.shift_reduce (c.can_shift.ensures.0 c.if-not-can_shift.false) (λ two. (let yes = c.can_reduce_two.ensures.1 two in let not = c.if-can_reduce_two.false in absurd cc))
