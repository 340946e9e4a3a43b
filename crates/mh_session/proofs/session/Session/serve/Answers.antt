use Rattle.std.proofs.Common.{ℕ, List, subst}
use Rattle.mh_session_branches.specs.declared.command.Command.TheVariants as commands
use Rattle.mh_session.specs.Served.{IsServed}
use Rattle.mh_session.proofs.session.Session.serve.Goals as goal

pub returns-in-Begin : goal.returns-in-Begin
returns-in-Begin c = rw c.in-Begin.is c.begin.ensures

pub returns-in-Offer : goal.returns-in-Offer
returns-in-Offer c = rw c.in-Offer.is c.offer.ensures

pub returns-in-Resume : goal.returns-in-Resume
returns-in-Resume c = rw c.in-Resume.is c.resume.ensures

pub returns-in-Fork : goal.returns-in-Fork
returns-in-Fork c = rw c.in-Fork.is c.fork.ensures

pub returns-in-Show : goal.returns-in-Show
returns-in-Show c = rw c.in-Show.is c.show.ensures

pub returns-in-Tree : goal.returns-in-Tree
returns-in-Tree c = rw c.in-Tree.is c.tree.ensures

pub returns-in-Forget : goal.returns-in-Forget
returns-in-Forget c = rw c.in-Forget.is c.forget.ensures

pub returns-in-Expected : goal.returns-in-Expected
returns-in-Expected c = rw c.in-Expected.is c.expected.ensures

pub returns-in-Feed : goal.returns-in-Feed
returns-in-Feed c = rw c.in-Feed.is (subst (λ (l : List ℕ). IsServed c.args.self.now (commands.Feed c.in-Feed.name l) c.feed.new.self c.feed.result) c.as_slice.ensures c.feed.ensures)

pub returns-in-Stack : goal.returns-in-Stack
returns-in-Stack c = rw c.in-Stack.is c.stack.ensures
