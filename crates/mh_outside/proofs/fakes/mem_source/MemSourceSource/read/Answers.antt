use Rattle.std.proofs.Common.{◌+◌, ◌-◌, ◌≡◌, List, ℕ, take, drop, ◌∙◌, rules, ap}
use Rattle.mh_outside.proofs.Consumes.{reads_at}
use Rattle.mh_outside.proofs.fakes.mem_source.MemSourceSource.read.Goals as goal

pub returns-clause-bytes : goal.returns-clause-bytes
returns-clause-bytes c =
    let is : c.copy_from_slice.new.self ≡ take (c.args.self.now.at + c.min-count.result - c.args.self.now.at) (drop c.args.self.now.at c.args.self.now.bytes.items) =
    c.copy_from_slice.ensures.after ∙ ap (λ (l : List ℕ). take (c.args.self.now.at + c.min-count.result - c.args.self.now.at) (drop c.args.self.now.at l)) c.deref.ensures.value in
    reads_at c.args.self.now.bytes.items c.args.buf.now c.copy_from_slice.new.self c.args.self.now.at c.min-count.result c.len.result is c.copy_from_slice.ensures.len c.min-count.ensures (search rules) (search rules)

pub returns-then-begin_call-clause-bytes : goal.returns-then-begin_call-clause-bytes
returns-then-begin_call-clause-bytes c = search rules

pub returns-then-begin_call-clause-counts : goal.returns-then-begin_call-clause-counts
returns-then-begin_call-clause-counts c = search rules

pub returns-then-begin_call-clause-fails : goal.returns-then-begin_call-clause-fails
returns-then-begin_call-clause-fails c = search rules
